-- Two books that hold the same lists are the same.
use Rattle.std.proofs.Common.{◌≡◌, ℕ, List}
use Rattle.clocks.specs.declared.Version.{Version}
use Rattle.book.specs.Books.{Kept}

pub same_lists : (m d : ℕ) (f g : ℕ → List Version) → f ≡ g → ◌≡◌ {A = Kept} (record { keys = m; depth = d; lists = f }) (record { keys = m; depth = d; lists = g })
same_lists m d f g q = cc
