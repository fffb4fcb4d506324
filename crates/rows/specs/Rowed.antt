-- What rows hold.
use Rattle.std.specs.Prelude.{◌≡◌, ℕ, Ok, Err, Result}
use Rattle.faults.specs.Table.{plain}
use Rattle.faults.specs.declared.Fault.{Fault}
use Rattle.faults.specs.declared.Cause.TheVariants.{Shape as ShapeCause}
use Rattle.book.specs.declared.shape.Shape.{Shape}
use Rattle.book.specs.Books.{Kept}
use Rattle.book.specs.Shapes.{Fits}
use Rattle.rows.specs.Places.{row_of}
use Rattle.rows.specs.declared.rows.Rows.{Rows}

abbrev pub rows_kept : Rows → Kept
rows_kept s = record {
  keys = s.keys;
  depth = s.depth;
  lists = row_of s.counts.now s.versions.now s.keys s.depth;
}

-- a shape is made exactly where the numbers fit, and there is a count for each key
abbrev pub RowsShaped : ℕ → ℕ → ℕ → ℕ → Result Shape Fault → Type 0
RowsShaped keys depth counts places (Ok s) = (counts ≡ keys) × Fits keys depth places × (s.keys ≡ keys) × (s.depth ≡ depth)
RowsShaped keys depth counts places (Err f) = (counts ≡ keys → Fits keys depth places → ⊥) × (f ≡ plain ShapeCause)
