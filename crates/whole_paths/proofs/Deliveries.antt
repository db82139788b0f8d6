-- Who is told the end has all, and was told so from then on.
use Rattle.std.proofs.Common.{◌≡◌, refl, sym, ap, ◌∙◌, Bool, true, false, true≢false, ◌&&◌, ◌||◌, Some, None, Option, List, ◌++◌}
use Rattle.std.specs.List.{list_any, slice_get}
use Rattle.std.proofs.lemmas.Bool.{and_from, both_ways}
use Rattle.std.proofs.lemmas.List.Folds.{list_any-append}
use Rattle.sides.specs.declared.side.Side.{Side}
use Rattle.sides.specs.declared.side.Side.TheVariants.{A, B}
use Rattle.sides.specs.Side.{peer}
use Rattle.actor_desk.specs.declared.ask.Note.{Note}
use Rattle.actor_desk.specs.Words.{pick}
use Rattle.path_core.specs.Values.{Carried, values}
use Rattle.world_laws.specs.Actors.{ActorCrew}
use Rattle.world_laws.specs.Openings.{Start}
use Rattle.world_laws.specs.Outcomes.{are_all_dead, note_tells, notes_of, notes_or, outcome_by, tells_abort, tells_end, was_told}
use Rattle.world_laws.specs.Promises.{was_told_end}
use Rattle.world_laws.specs.RoundDone.{reached}
use Rattle.world_laws.specs.Worlds.{WorldState, Turn, world_run}
use Rattle.world_laws.proofs.Promises.AbortsHaveACause.{aborts_have_cause}
use Rattle.whole_paths.specs.Deliveries.{WhoIsToldHasAll}
use Rattle.whole_paths.specs.Mild.{IsMildStart}
use Rattle.whole_paths.proofs.Breaking.{none_noted}
use Rattle.whole_paths.proofs.GoesOn.{goes_on_so}

-- ---- who is told the end

-- no reader of such a connection is told an abort
pub never_aborted : (start : Start) (turns : List Turn) → IsMildStart start → (s : Side) → was_told tells_abort (notes_of s (reached values start turns).crew) ≡ false
never_aborted start turns mild s = by (was_told tells_abort (notes_of s (reached values start turns).crew)) refl
  where
    by : (b : Bool) → was_told tells_abort (notes_of s (reached values start turns).crew) ≡ b → was_told tells_abort (notes_of s (reached values start turns).crew) ≡ false
    by false is = is
    by true is = absurd (both_ways _ (none_noted start turns mild (peer s)) (aborts_have_cause start turns s is).asked)

pub who_is_told_has_all : WhoIsToldHasAll
who_is_told_has_all start turns mild told =
    let crew = (reached values start turns).crew in
    ap (λ (b : Bool). outcome_by b (was_told tells_abort (notes_of B crew)) (was_told tells_end (notes_of A crew) && was_told tells_end (notes_of B crew)) (are_all_dead crew)) (never_aborted start turns mild A)
    ∙ ap (λ (b : Bool). outcome_by false b (was_told tells_end (notes_of A crew) && was_told tells_end (notes_of B crew)) (are_all_dead crew)) (never_aborted start turns mild B)
    ∙ ap (λ (b : Bool). outcome_by false false b (are_all_dead crew)) (and_from (was_told tells_end (notes_of A crew)) (was_told tells_end (notes_of B crew)) (told A) (told B))

more_told : (test : Note → Bool) (xs ys : List Note) → list_any test xs ≡ true → list_any test (xs ++ ys) ≡ true
more_told test xs ys is = list_any-append test xs ys ∙ ap (λ b. b || list_any test ys) is

pub still_told : (w : WorldState Carried) (more : List Turn) (s : Side) → was_told_end s w ≡ true → was_told_end s (world_run values more w) ≡ true
still_told w more s told = by (slice_get w.crew (pick s 0 1)) refl told
  where
    by : (o : Option (ActorCrew Carried)) → slice_get w.crew (pick s 0 1) ≡ o → was_told tells_end (notes_or (slice_get w.crew (pick s 0 1))) ≡ true
        → was_told tells_end (notes_or (slice_get (world_run values more w).crew (pick s 0 1))) ≡ true
    by None there is = absurd (true≢false (sym is ∙ ap (λ (o : Option (ActorCrew Carried)). was_told tells_end (notes_or o)) there))
    by (Some c) there is =
        let found = (goes_on_so values w more).crew (pick s 0 1) c there in
        ap (λ (o : Option (ActorCrew Carried)). was_told tells_end (notes_or o)) found.1 ∙ ap (was_told tells_end) found.2.list_is
        ∙ more_told (note_tells tells_end) c.list found.2.more (sym (ap (λ (o : Option (ActorCrew Carried)). was_told tells_end (notes_or o)) there) ∙ is)
