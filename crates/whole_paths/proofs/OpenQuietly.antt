-- Where nothing comes early no more of A's records may be lost as path 0 opens than segments were harmed.
use Rattle.std.proofs.Common.{◌≡◌, refl, sym, subst, ap, ◌∙◌, ℕ, ◌+◌, arith, nat_lt, Bool, true, false, ◌&&◌, if◌then◌else◌, Option, Some, None, List, [], ◌∷◌, ◌++◌, length}
use Rattle.std.specs.List.{slice_get}
use Rattle.std.specs.Prelude.{min}
use Rattle.std.proofs.lemmas.List.{append_assoc}
use Rattle.link_model.specs.Steps.{arriving}
use Rattle.link_model.specs.declared.flight.Due.{Due}
use Rattle.link_script.specs.Places.{same_side}
use Rattle.path_segments.specs.Heard.{HeardSegment}
use Rattle.sides.specs.declared.side.Side.{Side}
use Rattle.sides.specs.declared.side.Side.TheVariants.{A, B}
use Rattle.path_agenda.specs.declared.duty.Duty.{Duty}
use Rattle.path_agenda.specs.declared.duty.Duty.TheVariants as duties
use Rattle.path_agenda.specs.declared.duty.StepDuty.TheVariants as step_duties
use Rattle.path_core.specs.Arrival.{heard_in}
use Rattle.path_core.specs.Events.{next_event}
use Rattle.path_core.specs.State.{PathState}
use Rattle.path_core.specs.Values.{Carried, values}
use Rattle.path_core.specs.declared.events.Event.{Event}
use Rattle.path_core.specs.declared.events.Event.TheVariants as happenings
use Rattle.world_laws.specs.Actors.{Actor, ActorCrew}
use Rattle.world_laws.specs.declared.member.Member.TheVariants.{App, Path}
use Rattle.world_laws.specs.Members.{of_kind}
use Rattle.world_laws.specs.Openings.{Start}
use Rattle.world_laws.specs.RoundDone.{reached}
use Rattle.world_laws.specs.Worlds.{Turn, WorldState, after_turn}
use Rattle.whole_paths.specs.Brought.{Comes}
use Rattle.whole_paths.specs.EarlyCopies.{LosesFew, brings_octets, came_from, comes_early, counted_by, early_at, expiries_at, has_octets, may_send_at, octets_next}
use Rattle.whole_paths.specs.Mild.{IsMildStart}
use Rattle.whole_paths.specs.News.{one_if}
use Rattle.whole_paths.specs.OpenQuietly.{NothingComesEarly, OpensQuietly}
use Rattle.whole_paths.proofs.EarlyCopies.{opens_losing_few}
use Rattle.whole_paths.proofs.RecordWaits.{last}

-- ---- a path to whose B nothing comes

module _ (p : PathState Carried) (none : (x : Comes values p) → x.due.to ≡ B → length x.segment.payload + one_if x.segment.fin ≡ 0) where
  heard_none : (others : List Duty) → p.agenda ≡ duties.Step step_duties.Events ∷ others → (due : Due) → next_event p ≡ Some (happenings.Arrives due) → due.to ≡ B
      → (o : Option HeardSegment) → heard_in values due.to (arriving due p.link) p ≡ o → has_octets o ≡ false
  heard_none others first due next to None is = refl
  heard_none others first due next to (Some segment) is =
      ap (λ n. nat_lt 0 n) (none (record { others = others; first = first; due = due; next = next; segment = segment; heard = is }) to)

  side_none : (others : List Duty) → p.agenda ≡ duties.Step step_duties.Events ∷ others → (due : Due) → next_event p ≡ Some (happenings.Arrives due)
      → (s : Side) → due.to ≡ s → same_side s B && has_octets (heard_in values due.to (arriving due p.link) p) ≡ false
  side_none others first due next A to = refl
  side_none others first due next B to = heard_none others first due next to (heard_in values due.to (arriving due p.link) p) refl

  event_none : (others : List Duty) → p.agenda ≡ duties.Step step_duties.Events ∷ others → (o : Option Event) → next_event p ≡ o → brings_octets o p ≡ false
  event_none others first None next = refl
  event_none others first (Some (happenings.Arrives due)) next = side_none others first due next due.to refl
  event_none others first (Some _) next = refl

  next_none : (ds : List Duty) → p.agenda ≡ ds → octets_next ds p ≡ false
  next_none [] is = refl
  next_none (duties.Step step_duties.Events ∷ others) is = event_none others is (next_event p) refl
  next_none _ is = refl

  none_early : comes_early p ≡ false
  none_early = next_none p.agenda refl

-- ---- by turns

module _ (start : Start) (mild : IsMildStart start) (turns : List Turn) (none : NothingComesEarly start turns) where
  none_at : (before more : List Turn) (turn : Turn) → turns ≡ before ++ turn ∷ more → (o : Option (ActorCrew Carried)) → slice_get (reached values start before).crew 2 ≡ o → early_at o ≡ false
  none_at before more turn is None at = refl
  none_at before more turn is (Some c) at = by c.member refl
    where
      by : (m : Actor Carried) → c.member ≡ m → of_kind (λ app. false) comes_early m ≡ false
      by (App a) same = refl
      by (Path p) same = none_early p (none before more turn is p (record { crew = c; there = at; is = same }))

  module _ (before more : List Turn) (turn : Turn) (is : turns ≡ before ++ turn ∷ more) where
    abbrev w : WorldState Carried
    w = reached values start before

    abbrev v : WorldState Carried
    v = after_turn values turn w

    none_counts : counted_by 0 w v ≡ 0
    none_counts = ap (λ m. if nat_lt (expiries_at (slice_get w.crew 2)) (expiries_at (slice_get v.crew 2)) then min (0 + one_if m) 1 else 0 + one_if m) (none_at before more turn is (slice_get w.crew 2) refl)
        ∙ by (nat_lt (expiries_at (slice_get w.crew 2)) (expiries_at (slice_get v.crew 2)))
      where
        by : (m : Bool) → (if m then min (0 + one_if false) 1 else 0 + one_if false) ≡ 0
        by true = refl
        by false = refl

    none_then : came_from 0 more (reached values start (before ++ turn ∷ [])) ≡ 0 → came_from 0 (turn ∷ more) w ≡ 0
    none_then rest = by (may_send_at (slice_get w.crew 2))
      where
        later : came_from (counted_by 0 w v) more v ≡ 0
        later = ap (λ n. came_from n more v) none_counts ∙ subst (λ (x : WorldState Carried). came_from 0 more x ≡ 0) (last start mild before turn) rest

        by : (m : Bool) → (if m then 0 else came_from (counted_by 0 w v) more v) ≡ 0
        by true = refl
        by false = later

  none_came : (before more : List Turn) → turns ≡ before ++ more → came_from 0 more (reached values start before) ≡ 0
  none_came before [] is = by (may_send_at (slice_get (reached values start before).crew 2))
    where
      by : (m : Bool) → ◌≡◌ {A = ℕ} (if m then 0 else 0) 0
      by true = refl
      by false = refl
  none_came before (turn ∷ more) is = none_then before more turn is (none_came (before ++ turn ∷ []) more (is ∙ sym (append_assoc before (turn ∷ []) more)))

pub opens_quietly : OpensQuietly
opens_quietly start plan turns one h none = record { lost = few.lost; well = few.well; few = (let low = few.few in let came = none_came start one.mild turns none [] turns refl in omega (arith, low, came)) }
  where
    few : LosesFew start turns h.now.path
    few = opens_losing_few start plan turns one h
