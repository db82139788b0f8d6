-- What is owed stays told but for harms, which are counted; what a round leaves told is heard four rounds later.
use Rattle.std.proofs.Common.{◌≡◌, refl, sym, subst, ap, ◌⊎◌, inl, inr, ⊎_elim, ◌+◌, ◌-◌, ◌<◌, ◌≤◌, ℕ, min, arith, Bool, true, false, List, [], ◌∷◌, ◌++◌, length}
use Rattle.sides.specs.declared.side.Side.{Side}
use Rattle.sides.specs.declared.side.Side.TheVariants.{A, B}
use Rattle.actor_desk.specs.Words.{pick}
use Rattle.path_core.specs.State.{PathState, end_at}
use Rattle.path_core.specs.Values.{Carried, values}
use Rattle.world_laws.specs.Openings.{PathPlan, Start, opened_world}
use Rattle.world_laws.specs.Promises.{written_by}
use Rattle.world_laws.specs.RoundDone.{reached}
use Rattle.world_laws.specs.Worlds.{Turn, WorldState}
use Rattle.world_laws.proofs.Weaving.WholeRounds.{run_append}
use Rattle.whole_paths.specs.AsFar.{IsActorAsFar, IsPathAsFar}
use Rattle.whole_paths.specs.CalmWindows.{OwedSince, WhatIsOwedIsTold, WindowIsKept, WindowsHoldSo}
use Rattle.whole_paths.specs.CalmWindows.{OwedSince as owed, WindowIsKept as kept}
use Rattle.whole_paths.specs.Counts.{CountsAsMuch, with_events}
use Rattle.whole_paths.specs.Delivery.{IsAllThere}
use Rattle.whole_paths.specs.Finish.{is_harmed}
use Rattle.whole_paths.specs.Mending.{IsBegunTurn}
use Rattle.whole_paths.specs.News.{one_if}
use Rattle.whole_paths.specs.OnePathScripts.{BeginsWithOnePath}
use Rattle.whole_paths.specs.OpenCourses.{IsOpenAfter}
use Rattle.whole_paths.specs.SegmentRounds.{IsRound, Rounds, read_after}
use Rattle.whole_paths.specs.Straying.{IsOpen}
use Rattle.whole_paths.specs.UnitRounds.{WellRounds}
use Rattle.whole_paths.specs.WindowKinds.{WindowsStand}
use Rattle.whole_paths.specs.WindowsHeld.{StallsOf}
use Rattle.whole_paths.proofs.Delivery.{what_is_there_stays}
use Rattle.whole_paths.proofs.Directions.{harms_so}
use Rattle.whole_paths.proofs.GoesOn.{goes_on_so}
use Rattle.whole_paths.proofs.OpenTurns.{with_both}
use Rattle.whole_paths.proofs.RecordWaits.{path_is}
use Rattle.whole_paths.proofs.RoundSteps.{Between, between, far, open_last}
use Rattle.whole_paths.proofs.SegmentRounds.{stays_there}
use Rattle.whole_paths.proofs.UnitRounds.{Parted, parted, rounds_of, well_after}
use Rattle.whole_paths.proofs.WindowsAssured.{four_rounds_assure}
use Rattle.whole_paths.proofs.WindowRoom.{one_path_is_roomy}

open_then : (start : Start) (s : Side) (turns : List Turn) → OwedSince start s turns → IsOpenAfter start turns
open_then start s turns (owed.now ts now due) = now
open_then start s turns (owed.later ts before last is o g none) = subst (IsOpenAfter start) (sym is) g.after

module _ (start : Start) (plan : PathPlan) (s : Side) (one : BeginsWithOnePath start plan) where
  -- the side may send as far still
  edge_on : (turns : List Turn) (turn : Turn) → (written_by s (reached values start turns)).edge ≤ (written_by s (reached values start (turns ++ turn ∷ []))).edge
  edge_on turns turn = subst (λ (w : WorldState Carried). (written_by s (reached values start turns)).edge ≤ (written_by s w).edge) (sym (run_append values turns (turn ∷ []) (opened_world start)))
      ((goes_on_so values (reached values start turns) (turn ∷ [])).sides s).send.edge

  -- ---- a turn

  module _ (turns : List Turn) (turn : Turn) (h : IsBegunTurn start turns turn) where
    abbrev later : List Turn
    later = turns ++ turn ∷ []

    -- the ends stay open
    open_on : IsOpenAfter start turns → IsOpen h.after.path
    open_on now = record { first = h.after.is_open.first; past = h.after.is_open.past; living = h.after.is_open.living; clear = clear }
      where
        far_on : IsPathAsFar h.before.path h.after.path
        far_on = with_both start turns turn h IsActorAsFar (let found = (goes_on_so values (reached values start turns) (turn ∷ [])).crew 2 h.before.here.crew h.before.here.there in (found.0, found.1, found.2.member))

        clear_before : (u : Side) → (end_at u h.before.path).modes.clear ≡ true
        clear_before u = subst (λ (z : PathState Carried). (end_at u z).modes.clear ≡ true) (path_is (reached values start turns) now.path h.before.path now.here h.before.here) (now.is_open.clear u)

        clear : (u : Side) → (end_at u h.after.path).modes.clear ≡ true
        clear A = far_on.a.clear (clear_before A)
        clear B = far_on.b.clear (clear_before B)

    -- neither end's segment is harmed
    calm_on : OwedSince start s turns → ((u : Side) → is_harmed u h.before.path h.after.path ≡ false) → OwedSince start s later
    calm_on o none =
        let now = open_then start s turns o in
        owed.later later turns turn refl o
        (record { mild = h.mild; before = now; after = record { path = h.after.path; here = h.after.here; is_open = open_on now; faithful = h.after.faithful; few = h.after.few } })
        (λ u. subst (λ (z : PathState Carried). is_harmed u z h.after.path ≡ false) (path_is (reached values start turns) h.before.path now.path h.before.here now.here) (none u))

  -- ---- what is held

  module _ (count : List Turn → ℕ) (counts : CountsAsMuch start (with_events start ((λ turns. true) ∷ [])) count) (turns : List Turn) (turn : Turn) (h : IsBegunTurn start turns turn) where
    abbrev Goes : Type 0
    Goes = (count turns < count (turns ++ turn ∷ [])) ⊎ WindowIsKept start s (turns ++ turn ∷ [])

    since_on : OwedSince start s turns → Goes
    since_on o = by (is_harmed A h.before.path h.after.path) refl (is_harmed B h.before.path h.after.path) refl
      where
        counted : (u : Side) → is_harmed u h.before.path h.after.path ≡ true → count turns < count (turns ++ turn ∷ [])
        counted u harmed = (let is = harms_so start (one_path_is_roomy start plan one) turns turn h u in let once = ap one_if harmed in let more = counts.rises turns turn h in omega (arith, is, once, more))

        by : (a : Bool) → is_harmed A h.before.path h.after.path ≡ a → (b : Bool) → is_harmed B h.before.path h.after.path ≡ b → Goes
        by true a b is = inl (counted A a)
        by false a true b = inl (counted B b)
        by false a false b = inr (kept.since (calm_on turns turn h o (elim [ A ↦ a | B ↦ b ])))

    held_on : WindowIsKept start s turns → Goes
    held_on (kept.since o) = since_on o
    held_on (kept.fits enough) = inr (kept.fits (let up = edge_on turns turn in omega (arith, enough, up)))
    held_on (kept.there all) = inr (kept.there (what_is_there_stays start turns (turn ∷ []) one.mild s all))

-- ---- six rounds

module _ (Also : Start → PathPlan → Type 0) (tells : WhatIsOwedIsTold Also) (start : Start) (plan : PathPlan) (s : Side) (v u : List Turn) (one : BeginsWithOnePath start plan) (also : Also start plan)
    (rounds : WellRounds start (WindowsStand Also WindowIsKept StallsOf start) 6 v u) where
  abbrev Stand : List Turn → Type 0
  Stand = WindowsStand Also WindowIsKept StallsOf start

  abbrev Goal : Type 0
  Goal = IsAllThere s (reached values start u)
      ⊎ (min (length (pick s start.file_a start.file_b)) (read_after start s v + (plan.mss - 28)) ≤ (written_by s (reached values start u)).edge)

  edge_at : List Turn → ℕ
  edge_at turns = (written_by s (reached values start turns)).edge

  -- the first one, and five more, of which four bring what is told
  first : Parted start Stand 1 5 v u
  first = parted start Stand 1 5 6 v u refl rounds

  abbrev a : List Turn
  a = first.between_them

  four : Parted start Stand 4 1 a u
  four = parted start Stand 4 1 5 a u refl first.rest

  abbrev b : List Turn
  b = four.between_them

  first_round : Rounds start 1 v a
  first_round = rounds_of start Stand 1 v a first.first

  is_round : IsRound start v a
  is_round = subst (λ t. IsRound start t a) (sym first_round.1.0) first_round.1.1

  to_end : Between start a u
  to_end = between start 4 a u (rounds_of start Stand 5 a u first.rest)

  from_b : Between start b u
  from_b = between start 0 b u (rounds_of start Stand 1 b u four.rest)

  up : (from : List Turn) → Between start from u → (written_by s (reached values start from)).edge ≤ (written_by s (reached values start u)).edge
  up from way = ((far start from u way).sides s).send.edge

  open_a : IsOpenAfter start a
  open_a = let way = between start 0 v a first_round in subst (IsOpenAfter start) (sym way.is) (open_last start v way.more way.stays_open)

  heard_so : Goal
  heard_so = by ((well_after start Stand 1 v a first.first).holds s)
    where
      by : WindowIsKept start s a → Goal
      by (kept.fits enough) = inr (let more = up a to_end in omega (arith, enough, more))
      by (kept.there all) = inl (stays_there start one.mild a u s to_end all)
      by (kept.since o) = ⊎_elim
          (λ all. inl (stays_there start one.mild a u s to_end all))
          (λ assured. inr (let heard = four_rounds_assure start plan a b one (rounds_of start Stand 4 a b four.first) s open_a.path open_a.here (read_after start s v + (plan.mss - 28)) assured in let more = up b from_b in omega (arith, heard, more)))
          (tells start plan s v a one also is_round o open_a.path open_a.here)

pub windows_hold_so : (Also : Start → PathPlan → Type 0) → WindowsHoldSo Also
windows_hold_so Also tells = record {
  stays = λ start plan s count one also counts turns turn h. held_on start plan s one count counts turns turn h;
  meets = λ start plan s one also. record {
    owed = λ turns h due. kept.since (owed.now turns h due);
    fits = λ turns h enough. kept.fits enough;
    there = λ turns h all. kept.there all;
  };
  heard = λ start plan s v u one also rounds. heard_so Also tells start plan s v u one also rounds;
}
