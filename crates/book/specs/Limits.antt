-- The limits of a book's numbers.
use Rattle.std.specs.Prelude.{ℕ}

-- the most keys of a book
abbrev pub key_limit : ℕ
key_limit = 256

-- the most versions of a key
abbrev pub depth_limit : ℕ
depth_limit = 64
