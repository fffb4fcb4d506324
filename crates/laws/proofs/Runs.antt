-- Runs of a net of two towers, computed. Assumes nothing.
use Rattle.std.proofs.Common.{◌≡◌, ℕ, ◌%◌, List, [], ◌∷◌, map, reverse, Some, None, Ok, Err, Result, refl, arith}
use Rattle.faults.specs.declared.Cause.{Cause}
use Rattle.faults.specs.declared.Cause.TheVariants.{Tower, Unknown, Key, Phase as PhaseFault, Full, Air, Message as NoMessage, Early, List as ListFull}
use Rattle.clocks.specs.declared.Content.{Content}
use Rattle.clocks.specs.declared.Version.{Version}
use Rattle.messages.specs.declared.Conflict.TheVariants.{Held as HeldBy, Newer}
use Rattle.tables.specs.declared.Call.{Call}
use Rattle.tables.specs.declared.Call.TheVariants.{Begin, Read, Draft as DraftCall, Close, Drop as DropCall, Deliver}
use Rattle.tables.specs.declared.Told.{Told}
use Rattle.tables.specs.declared.Told.TheVariants.{Begun, Own, Sent, Drafts, ReadOnly, Queried, Shown, Prepared, Placed, Refused as ToldRefused, Ended}
use Rattle.laws.specs.Lists.{put}
use Rattle.laws.specs.Net.{Net}
use Rattle.laws.specs.History.{versions_in}
use Rattle.laws.specs.Further.{TwoAlone}
use Rattle.laws.proofs.Play.{play}

-- keys live at tower 0 and tower 1 in turn
abbrev two : ℕ → Net
two depth = record { home = λ k. k % 2; towers = 2; depth = depth; housed = λ k. omega arith; keys = 4; transactions = 3; most = 8; air_places = 2; reading_places = 1; entries = 8; enough = omega arith }

abbrev says : ℕ → Content
says n = record { value = n }

-- what a list of calls tells, one after another
abbrev tells : Net → List Call → List (Result Told Cause)
tells net cs = reverse (map (λ e. e.told) (play net (reverse cs)).history)

-- ## Two transactions alone

abbrev alone_calls : List Call
alone_calls =
    Begin 0 ∷ Begin 1 ∷ DraftCall 0 0 (says 5) ∷ DraftCall 1 1 (says 6) ∷ Close 0 ∷ Close 1
    ∷ Deliver 0 ∷ Deliver 0 ∷ Deliver 0 ∷ Deliver 0 ∷ Deliver 0 ∷ Deliver 0 ∷ []

alone_tells : tells (two 1) alone_calls ≡
    Ok (Begun 0) ∷ Ok (Begun 1) ∷ Ok (Drafts 1) ∷ Ok (Drafts 1) ∷ Ok (Sent 1) ∷ Ok (Sent 1)
    ∷ Ok (Prepared 0 0) ∷ Ok (Prepared 1 0) ∷ Ok (Placed 0 1) ∷ Ok (Placed 1 2) ∷ Ok (Ended 0 1) ∷ Ok (Ended 1 0) ∷ []
unfolding put
alone_tells = refl

abbrev wrote_six : Version
wrote_six = record { writer = 1; origin = 1; number = 1; content = says 6 }

alone_book : (play (two 1) (reverse alone_calls)).state.book 1 ≡ wrote_six ∷ []
unfolding put
alone_book = refl

alone_versions : versions_in (play (two 1) (reverse alone_calls)).history 1 ≡ wrote_six ∷ []
unfolding put
alone_versions = refl

-- the law of two alone speaks of them
alone : TwoAlone (two 1) (play (two 1) (reverse alone_calls)).history (play (two 1) (reverse alone_calls)).state
unfolding put
alone = record {
  one_deep = refl;
  two = refl;
  first = record { key = 0; content = says 5 };
  second = record { key = 1; content = says 6 };
  first_drafts = refl;
  second_drafts = refl;
  apart = λ e. cc e;
  first_closed = refl;
  second_closed = refl;
  air_empty = refl;
}

-- ## Refusals, one for each conflict

-- the first holds key 0 while the second asks for it; then key 0 has a version that the second lacks; then its list is at the depth
abbrev held_calls : List Call
held_calls =
    Begin 0 ∷ Begin 0 ∷ DraftCall 0 0 (says 5) ∷ DraftCall 1 0 (says 6) ∷ Close 0 ∷ Close 1
    ∷ Deliver 0 ∷ Deliver 0 ∷ Deliver 1 ∷ []

held_tells : tells (two 1) held_calls ≡
    Ok (Begun 0) ∷ Ok (Begun 1) ∷ Ok (Drafts 1) ∷ Ok (Drafts 1) ∷ Ok (Sent 1) ∷ Ok (Sent 1)
    ∷ Ok (Prepared 0 0) ∷ Ok (Prepared 1 1) ∷ Ok (ToldRefused 1 0) ∷ []
unfolding put
held_tells = refl

held-named : ((play (two 1) (reverse held_calls)).state.records 1).named ≡ Some (record { key = 0; conflict = HeldBy 0 0 })
unfolding put
held-named = refl

abbrev newer_calls : List Call
newer_calls =
    Begin 0 ∷ Begin 0 ∷ DraftCall 0 0 (says 5) ∷ Close 0 ∷ Deliver 0 ∷ Deliver 0
    ∷ DraftCall 1 0 (says 6) ∷ Close 1 ∷ Deliver 1 ∷ Deliver 1 ∷ []

newer-named : ((play (two 2) (reverse newer_calls)).state.records 1).named ≡ Some (record { key = 0; conflict = Newer 0 0 1 })
unfolding put
newer-named = refl

abbrev full_calls : List Call
full_calls =
    Begin 0 ∷ DraftCall 0 0 (says 5) ∷ Close 0 ∷ Deliver 0 ∷ Deliver 0 ∷ Begin 0
    ∷ DraftCall 1 0 (says 6) ∷ Close 1 ∷ Deliver 1 ∷ Deliver 1 ∷ []

full-tells : tells (two 1) full_calls ≡
    Ok (Begun 0) ∷ Ok (Drafts 1) ∷ Ok (Sent 1) ∷ Ok (Prepared 0 0) ∷ Ok (Placed 0 1) ∷ Ok (Begun 1)
    ∷ Ok (Drafts 1) ∷ Ok (Sent 1) ∷ Ok (Prepared 1 3) ∷ Ok (ToldRefused 1 0) ∷ []
unfolding put
full-tells = refl

-- ## Reads and faults

-- a read of an own draft, reads over the air, a full reading list, and calls that are turned down
abbrev read_calls : List Call
read_calls =
    Begin 2 ∷ Begin 0 ∷ Read 5 9 ∷ DraftCall 0 0 (says 5) ∷ Read 0 0 ∷ Read 0 9 ∷ Close 0 ∷ Read 0 9 ∷ Deliver 7
    ∷ Deliver 0 ∷ Deliver 0 ∷ Begin 1 ∷ Begin 0 ∷ Read 2 0 ∷ Read 1 0 ∷ Deliver 1
    ∷ []

read-tells : tells (two 1) read_calls ≡
    Err Tower ∷ Ok (Begun 0) ∷ Err Unknown ∷ Ok (Drafts 1) ∷ Ok (Own (says 5)) ∷ Err Key ∷ Ok (Sent 1) ∷ Err PhaseFault ∷ Err NoMessage
    ∷ Ok (Prepared 0 0) ∷ Ok (Placed 0 1) ∷ Ok (Begun 1) ∷ Ok (Begun 2) ∷ Ok (Sent 1) ∷ Err Air ∷ Ok (Queried 2)
    ∷ []
unfolding put
read-tells = refl

abbrev list_calls : List Call
list_calls =
    Begin 0 ∷ DraftCall 0 0 (says 5) ∷ Close 0 ∷ Deliver 0 ∷ Deliver 0 ∷ Deliver 0 ∷ Begin 1 ∷ Read 1 0 ∷ Deliver 0 ∷ Deliver 0
    ∷ Read 1 2 ∷ Deliver 0 ∷ Deliver 0 ∷ DropCall 1 ∷ Begin 0 ∷ Close 2 ∷ Begin 0 ∷ []

list_tells : tells (two 1) list_calls ≡
    Ok (Begun 0) ∷ Ok (Drafts 1) ∷ Ok (Sent 1) ∷ Ok (Prepared 0 0) ∷ Ok (Placed 0 1) ∷ Ok (Ended 0 1) ∷ Ok (Begun 1) ∷ Ok (Sent 1) ∷ Ok (Queried 1) ∷ Ok (Shown 1 0 (Some (says 5)))
    ∷ Ok (Sent 1) ∷ Ok (Queried 1) ∷ Err ListFull ∷ Err PhaseFault ∷ Ok (Begun 2) ∷ Ok ReadOnly ∷ Err Full ∷ []
unfolding put
list_tells = refl

-- a query that comes before the outcome that its bound has
abbrev early_calls : List Call
early_calls =
    Begin 0 ∷ DraftCall 0 0 (says 5) ∷ Close 0 ∷ Deliver 0 ∷ Deliver 0 ∷ Begin 0 ∷ Read 1 1 ∷ Deliver 1 ∷ Deliver 0 ∷ Deliver 0 ∷ Deliver 0 ∷ []

early_tells : tells (two 1) early_calls ≡
    Ok (Begun 0) ∷ Ok (Drafts 1) ∷ Ok (Sent 1) ∷ Ok (Prepared 0 0) ∷ Ok (Placed 0 1) ∷ Ok (Begun 1) ∷ Ok (Sent 1) ∷ Err Early ∷ Ok (Ended 0 1) ∷ Ok (Queried 1) ∷ Ok (Shown 1 1 None) ∷ []
unfolding put
early_tells = refl

-- an answer of a home that is ahead of the origin is ripe; the vote on what was drafted then comes early
abbrev ahead_calls : List Call
ahead_calls =
    Begin 1 ∷ DraftCall 0 1 (says 5) ∷ Close 0 ∷ Deliver 0 ∷ Deliver 0 ∷ Begin 0 ∷ Read 1 1 ∷ Deliver 1 ∷ Deliver 1
    ∷ DraftCall 1 1 (says 6) ∷ Close 1 ∷ Deliver 1 ∷ Deliver 1 ∷ Deliver 0 ∷ Deliver 0 ∷ []

ahead-tells : tells (two 2) ahead_calls ≡
    Ok (Begun 0) ∷ Ok (Drafts 1) ∷ Ok (Sent 1) ∷ Ok (Prepared 0 0) ∷ Ok (Placed 0 1) ∷ Ok (Begun 1) ∷ Ok (Sent 1) ∷ Ok (Queried 1) ∷ Ok (Shown 1 1 (Some (says 5)))
    ∷ Ok (Drafts 1) ∷ Ok (Sent 1) ∷ Ok (Prepared 1 0) ∷ Err Early ∷ Ok (Ended 0 0) ∷ Ok (Placed 1 2) ∷ []
unfolding put
ahead-tells = refl
