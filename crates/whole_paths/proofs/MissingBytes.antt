-- A byte that isn't acknowledged as a round is over is waited for by the path, or by another one that holds it; or the window is shut.
use Rattle.std.proofs.Common.{◌≡◌, refl, sym, subst, ap, ◌∙◌, ℕ, ◌+◌, ◌<◌, arith, Bool, true, false, true≢false, not, Some, List, [], ◌++◌, length, map}
use Rattle.std.specs.List.{slice_get}
use Rattle.std.proofs.lemmas.Bool.{eq-eqb}
use Rattle.sides.specs.declared.side.Side.{Side}
use Rattle.send_book.specs.declared.mark.ByteMark.{ByteMark}
use Rattle.send_book.specs.declared.mark.ByteMark.TheVariants.{Acked, Held, Free}
use Rattle.send_book.specs.Marks.{is_acked}
use Rattle.send_book.specs.Tried.{contains}
use Rattle.stream_lanes.specs.Marks.{spent}
use Rattle.path_core.specs.Emission.{may_ask}
use Rattle.path_core.specs.State.{PathState, end_at}
use Rattle.path_core.specs.Values.{Carried, values}
use Rattle.world_laws.specs.Actors.{is_over}
use Rattle.world_laws.specs.Openings.{Start, opened_world}
use Rattle.world_laws.specs.Promises.{written_by}
use Rattle.world_laws.specs.RoundDone.{reached}
use Rattle.world_laws.specs.RoundNumbers.{BeginsRound, after_steps, steps_since}
use Rattle.world_laws.specs.Worlds.{Turn, WorldState, all_over}
use Rattle.world_laws.proofs.Rounds.Lifting.{all_over_each}
use Rattle.world_laws.proofs.Weaving.WholeRounds.{run_append}
use Rattle.whole_paths.specs.BookNews.{is_free}
use Rattle.whole_paths.specs.Finish.{IsPathAt}
use Rattle.whole_paths.specs.FirstMissing.{HasAHolder}
use Rattle.whole_paths.specs.FirstMissing.{HasAHolder as has}
use Rattle.whole_paths.specs.Holders.{holds, let_go}
use Rattle.whole_paths.specs.Mild.{IsMildStart}
use Rattle.whole_paths.specs.MissingBytes.{IsMissing, WhatIsMissingIsAwaited}
use Rattle.whole_paths.specs.MissingBytes.{IsMissing as missing}
use Rattle.whole_paths.specs.Refusals.{IsLeft}
use Rattle.whole_paths.specs.Refusals.{IsLeft as left_by}
use Rattle.whole_paths.specs.Unstopped.{NothingIsStopped}
use Rattle.whole_paths.proofs.BookNews.{AreAsFar, holders_low, is_done, marks_as_far, spent_rises, what_is_given_back_counts}
use Rattle.whole_paths.proofs.FirstMissing.{each_missing_byte_is_held}
use Rattle.whole_paths.proofs.GivenBack.{count_rises, held_apart, marks_are_right, rightly}
use Rattle.whole_paths.proofs.InTime.{nil_so}
use Rattle.whole_paths.proofs.Refused.{some_crew, who_asks_is_refused}
use Rattle.whole_paths.proofs.TriedBytes.{marks_are_whole}
use Rattle.whole_paths.proofs.Unstopped.{sides_are_never_stopped}

module _ (start : Start) (since : List Turn) (order : List ℕ) (mild : IsMildStart start) (begins : BeginsRound values start (reached values start since))
    (over : all_over (after_steps values order (reached values start since)).crew ≡ true) where
  abbrev begun : WorldState Carried
  begun = reached values start since

  abbrev w : WorldState Carried
  w = after_steps values order begun

  abbrev steps : List Turn
  steps = map (λ actor. Turn.Step actor) order

  same : reached values start (since ++ steps) ≡ w
  same = run_append values since steps (opened_world start)

  module _ (number : ℕ) (p : PathState Carried) (here : IsPathAt number w p) (s : Side) (may : may_ask p.profile s (end_at s p) ≡ true) (place : ℕ) (within : place < length (written_by s begun).written) where
    abbrev Result : Type 0
    Result = IsMissing start s number place begun w p

    far : AreAsFar (written_by s begun).marks (written_by s w).marks
    far = marks_as_far values start since steps s

    stopped : NothingIsStopped w
    stopped = subst (λ (u : WorldState Carried). NothingIsStopped u) same (sides_are_never_stopped start (since ++ steps) mild)

    idle : p.agenda ≡ []
    idle = nil_so p.agenda (ap is_over (sym here.is) ∙ all_over_each w.crew (2 + number) here.crew over here.there)

    -- it was free as the round began
    asked : is_free number (slice_get (written_by s begun).marks place) ≡ true → Result
    asked free = by (who_asks_is_refused values start since order begins number p here idle s may (stopped.send s) (stopped.owner s) place free)
      where
        by : IsLeft start s place (steps_since (2 + number) begun w) begun w (end_at s p) → Result
        by (left_by.standby is) = missing.standby is
        by (left_by.taken t) = missing.counts (spent_rises (length start.paths) t.other (written_by s begun).marks (written_by s w).marks far t.low place t.was t.now)
        by (left_by.shut is edge) = missing.shut is edge

    -- who held it as the round began gave it back
    given_up : (holder : ℕ) (among : List Bool) → slice_get (written_by s begun).marks place ≡ Some (Held holder among) → let_go holder (slice_get (written_by s w).marks place) ≡ true → Result
    given_up holder among there gone =
        let held : holds holder (slice_get (written_by s begun).marks place) ≡ true = ap (holds holder) there ∙ eq-eqb holder holder refl in
        missing.counts (what_is_given_back_counts values start since steps s holder (holders_low values start since s place holder held)
        (count_rises (let_go holder) refl place (written_by s begun).marks (written_by s w).marks (far.gone holder) (held_apart holder (slice_get (written_by s begun).marks place) held) gone))

    module _ (among : List Bool) (now : slice_get (written_by s w).marks place ≡ Some (Free among)) (untried : contains number among ≡ false) where
      was : (m : ByteMark) → slice_get (written_by s begun).marks place ≡ Some m → Result
      was Acked there = absurd (true≢false (sym (far.done place (ap is_done there)) ∙ ap is_done now))
      was (Held holder before) there = given_up holder before there (ap (let_go holder) now ∙ (sym (ap (spent holder) now) ∙ far.spent_so holder place (ap (spent holder) there ∙ (sym (ap rightly there) ∙ marks_are_right values start since s place))))
      was (Free before) there = by (contains number before) refl
        where
          by : (c : Bool) → contains number before ≡ c → Result
          by true is = absurd (true≢false (sym (far.spent_so number place (ap (spent number) there ∙ is)) ∙ ap (spent number) now ∙ untried))
          by false is = asked (ap (is_free number) there ∙ ap not is)

      free_now : Result
      free_now =
          let whole = marks_are_whole start since mild.plain.size s in
          let found = some_crew place (written_by s begun).marks (omega (arith, within, whole)) in was found.0 found.1

    by_holder : (mark : ByteMark) → slice_get (written_by s w).marks place ≡ Some mark → HasAHolder s number place w p → Result
    by_holder mark now (has.own is) = missing.own is
    by_holder mark now (has.lent other q apart there back) = missing.lent other q apart there back
    by_holder mark now (has.free free) = by mark now (sym (ap (is_free number) now) ∙ free)
      where
        by : (m : ByteMark) → slice_get (written_by s w).marks place ≡ Some m → is_free number (Some m) ≡ true → Result
        by Acked now free = absurd (true≢false (sym free))
        by (Held holder among) now free = absurd (true≢false (sym free))
        by (Free among) now free = free_now among now (unset (contains number among) free)
          where
            unset : (c : Bool) → not c ≡ true → c ≡ false
            unset true is = absurd (true≢false (sym is))
            unset false is = refl

    awaited : (mark : ByteMark) → slice_get (written_by s w).marks place ≡ Some mark → is_acked mark ≡ false → Result
    awaited mark now unacked = by_holder mark now (subst (λ (u : WorldState Carried). all_over u.crew ≡ true → IsPathAt number u p → slice_get (written_by s u).marks place ≡ Some mark → HasAHolder s number place u p) same
        (λ is at there. each_missing_byte_is_held start (since ++ steps) mild.plain.size is number p at s place mark there unacked) over here now)

pub what_is_missing_is_awaited : WhatIsMissingIsAwaited
what_is_missing_is_awaited start since order mild begins over number p here s may place within mark now unacked = awaited start since order mild begins over number p here s may place within mark now unacked
