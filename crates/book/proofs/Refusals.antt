-- What a book answers at a key that it has, and at one that it has not.
use Rattle.std.proofs.Common.{◌≡◌, ℕ, ◌<◌, ◌≤◌, cond, ltb, length, Some, None, Err, Result, ap, ◌∙◌}
use Rattle.std.proofs.lemmas.Bool.{lt-ltb, le-ltb}
use Rattle.faults.specs.Table.{plain}
use Rattle.faults.specs.declared.Fault.{Fault}
use Rattle.faults.specs.declared.Cause.TheVariants.{BookKey, Depth}
use Rattle.book.specs.Books.{Kept, at_key, refusal}

module _ (s : Kept) (key : ℕ) where
  pub at_key_lem : {X : Type 0} (r : Result X Fault) → key < s.keys → at_key s key r ≡ r
  at_key_lem r h = ap (λ t. cond t r (Err (plain BookKey))) (lt-ltb key s.keys h)

  has_key : key < s.keys → refusal s key ≡ cond (ltb (length (s.lists key)) s.depth) None (Some (plain Depth))
  has_key h = ap (λ t. cond t (cond (ltb (length (s.lists key)) s.depth) None (Some (plain Depth))) (Some (plain BookKey))) (lt-ltb key s.keys h)

  pub refused_none : key < s.keys → length (s.lists key) < s.depth → refusal s key ≡ None
  refused_none h l = has_key h ∙ ap (λ t. cond t None (Some (plain Depth))) (lt-ltb (length (s.lists key)) s.depth l)

  pub refused-depth : key < s.keys → s.depth ≤ length (s.lists key) → refusal s key ≡ Some (plain Depth)
  refused-depth h l = has_key h ∙ ap (λ t. cond t None (Some (plain Depth))) (le-ltb (length (s.lists key)) s.depth l)

  pub refused-key : s.keys ≤ key → refusal s key ≡ Some (plain BookKey)
  refused-key h = ap (λ t. cond t (cond (ltb (length (s.lists key)) s.depth) None (Some (plain Depth))) (Some (plain BookKey))) (le-ltb key s.keys h)
