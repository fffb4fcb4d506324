-- Lists of drafts.
use Rattle.std.specs.Prelude.{◌≡◌, ◌-◌, ◌<◌, ◌≤◌, List, [], ◌∷◌, ◌++◌, length, take, replicate, Ok, Err, Result}
use Rattle.faults.specs.Table.{plain}
use Rattle.faults.specs.declared.Fault.{Fault}
use Rattle.faults.specs.declared.Cause.TheVariants.{Drafts as TooMany}
use Rattle.clocks.specs.declared.Content.{Content}
use Rattle.messages.specs.Limits.{line_limit}
use Rattle.messages.specs.declared.Draft.{Draft}
use Rattle.messages.specs.declared.Drafts.{Drafts}

-- the drafts that count, in their order
abbrev pub counted : Drafts → List Draft
counted d = take d.len d.items

-- what stands in a place that holds no draft
abbrev pub nothing : Content
nothing = record { value = 0 }

abbrev pub blank : Draft
blank = record { key = 0; content = nothing }

-- these drafts, and blank places after them
abbrev pub drafts_of : List Draft → Drafts
drafts_of ds = record { items = ds ++ replicate (line_limit - length ds) blank; len = length ds }

abbrev pub Neat : Drafts → Type 0
Neat d = d ≡ drafts_of (counted d)

-- one draft more at the end, unless no place is left
abbrev pub Pushed : Drafts → Draft → Result (Unit {0}) Fault → Drafts → Type 0
Pushed s d (Ok u) t = (length (counted s) < line_limit) × (counted t ≡ counted s ++ d ∷ []) × (Neat s → Neat t)
Pushed s d (Err f) t = (line_limit ≤ length (counted s)) × (f ≡ plain TooMany) × (t ≡ s)
