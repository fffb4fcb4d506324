-- The numbers of keys and of places that a book can have.
use Rattle.std.specs.Prelude.{◌≡◌, ℕ, ◌*◌, ◌<◌, ◌≤◌, Ok, Err, Result}
use Rattle.faults.specs.Table.{plain}
use Rattle.faults.specs.declared.Fault.{Fault}
use Rattle.faults.specs.declared.Cause.TheVariants.{Shape as ShapeCause}
use Rattle.book.specs.Limits.{key_limit, depth_limit}
use Rattle.book.specs.declared.shape.Shape.{Shape}

-- a book can have these keys and this depth over memory of these places
pub record Fits (keys depth places : ℕ) : Type 0 where
  pub some_keys : 0 < keys
  pub few_keys : keys ≤ key_limit
  pub some_depth : 0 < depth
  pub small_depth : depth ≤ depth_limit
  pub exact : places ≡ keys * depth

-- a shape is made exactly where the numbers fit
abbrev pub Shaped : ℕ → ℕ → ℕ → Result Shape Fault → Type 0
Shaped keys depth places (Ok s) = Fits keys depth places × (s.keys ≡ keys) × (s.depth ≡ depth)
Shaped keys depth places (Err f) = (Fits keys depth places → ⊥) × (f ≡ plain ShapeCause)

-- how many versions a book of the shape has a place for
abbrev pub places : Shape → ℕ
places s = s.keys * s.depth
