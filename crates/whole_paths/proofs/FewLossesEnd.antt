-- Where each expiry is answered but for harmed segments, few losses let no end die.
use Rattle.std.proofs.Common.{◌≡◌, refl, sym, subst, ap, ◌∙◌, ⊎_elim, ℕ, ◌+◌, ◌-◌, ◌^◌, ◌<◌, ◌≤◌, arith, false, is_none, if◌then◌else◌, Option, Some, None, List, [], ◌∷◌, ◌++◌, length, length-append}
use Rattle.std.proofs.lemmas.List.{append-nil, append_assoc}
use Rattle.std.specs.List.{slice_get}
use Rattle.std.proofs.lemmas.Bool.{both_ways}
use Rattle.sides.specs.declared.side.Side.{Side}
use Rattle.sides.specs.declared.side.Side.TheVariants.{A, B}
use Rattle.stream_lanes.specs.Words.{Every}
use Rattle.subflow_tcp.specs.States.{is_dead}
use Rattle.path_core.specs.Codec.{Codec}
use Rattle.path_core.specs.Events.{before}
use Rattle.path_core.specs.Start.{first_turn, waiting_path}
use Rattle.path_core.specs.State.{PathState, end_at}
use Rattle.path_core.specs.Values.{Carried, values}
use Rattle.subflow_tcp.specs.declared.handshake.State.TheVariants as phase
use Rattle.world_laws.specs.declared.member.Member.TheVariants.{App, Path}
use Rattle.world_laws.specs.Actors.{Actor, ActorCrew}
use Rattle.world_laws.specs.Members.{HoldsOfKind}
use Rattle.world_laws.specs.Openings.{PathPlan, Start, opened_world, path_begins}
use Rattle.world_laws.specs.RoundDone.{reached}
use Rattle.world_laws.specs.Worlds.{WorldState, Turn, after_turn, world_run}
use Rattle.world_laws.proofs.Rounds.Lifting.{opened_lifted}
use Rattle.world_laws.proofs.Weaving.WholeRounds.{run_append}
use Rattle.world_laws.proofs.Writes.Steps.{begins_lasts}
use Rattle.whole_paths.specs.ExpiriesInARow.{ExpiriesAreAnswered, HoldsAlong, IsPaid, RowsGoOn, in_a_row}
use Rattle.whole_paths.specs.ExpiriesInARow.IsPaid.{paid}
use Rattle.whole_paths.specs.FewLossesEnd.{HarmsNoEnd, RunsAlive}
use Rattle.whole_paths.specs.Finish.{AnEndDied, IsPathAt, harmed}
use Rattle.whole_paths.proofs.Courses.{harmed_append}
use Rattle.whole_paths.proofs.Deaths.{begins_living}
use Rattle.whole_paths.proofs.ExpiriesInARow.{BothSame, expiries_alone_count, same_lasts}
use Rattle.whole_paths.proofs.FewLosses.{never_sixth, turns_paid}
use Rattle.whole_paths.proofs.FirstHere.{first_here}
use Rattle.whole_paths.proofs.HarmlessDeaths.{harmless_ends_die_of_expiries}
use Rattle.whole_paths.proofs.NoResets.{IsGone, living_or}
use Rattle.whole_paths.proofs.RecordWaits.{path_is}

module _ {C : Type 0} where
  -- at the beginning no end has an expiry
  opened_rows : (start : Start) → Every (λ (c : ActorCrew C). HoldsOfKind (λ app. Unit {0}) (λ (p : PathState C). (s : Side) → in_a_row (end_at s p) ≡ 0) c.member) (opened_world {C = C} start).crew
  opened_rows start = opened_lifted (λ c. HoldsOfKind (λ app. Unit {0}) (λ (p : PathState C). (s : Side) → in_a_row (end_at s p) ≡ 0) c.member) start tt tt
      (λ number plan there s. let p : PathState C = waiting_path (path_begins start number plan) start.lines in begins_lasts BothSame same_lasts p s ∙ first number plan s)
    where
      first : (number : ℕ) (plan : PathPlan) (s : Side) → in_a_row (end_at s (waiting_path {C = C} (path_begins start number plan) start.lines)) ≡ 0
      first number plan A = refl
      first number plan B = refl

-- ---- along the turns

module _ {C : Type 0} (k : Codec C) (Holds : WorldState C → Type 0) where
  along_then : (turns : List Turn) (turn : Turn) (w : WorldState C) → HoldsAlong k Holds turns w → Holds (world_run k (turns ++ turn ∷ []) w) → HoldsAlong k Holds (turns ++ turn ∷ []) w
  along_then [] turn w along now = (along, now)
  along_then (first ∷ turns) turn w along now = (along.0, along_then turns turn (after_turn k first w) along.1 now)

module _ (start : Start) (Comes : Side → WorldState Carried → Type 0) (answers : ExpiriesAreAnswered values (RunsAlive start) Comes) (h : HarmsNoEnd start) where
  abbrev at : List Turn → WorldState Carried
  at turns = reached values start turns

  abbrev first : WorldState Carried
  first = opened_world start

  paid_so : (turns : List Turn) → HoldsAlong values (RunsAlive start) turns first → (s : Side) (p : PathState Carried) → IsPathAt 0 (at turns) p → IsPaid Comes (harmed values 0 turns first) s (at turns) p
  paid_so turns along s p here = subst (λ n. IsPaid Comes n s (at turns) p) (let n : ℕ = harmed values 0 turns first in let sum : 0 + n ≡ n = omega arith in sum) (turns_paid values (RunsAlive start) Comes answers (λ w alive. (alive.path, alive.here)) turns 0 first along
      (λ t q there. paid (let none = subst (HoldsOfKind (λ app. Unit {0}) (λ (p : PathState Carried). (s : Side) → in_a_row (end_at s p) ≡ 0)) there.is ((opened_rows start).each 2 there.crew there.there) t in omega (arith, none)))
      s p here)

  -- a first death isn't there
  no_death : (before : List Turn) (turn : Turn) → HoldsAlong values (RunsAlive start) before first → (alive : RunsAlive start (at before)) → harmed values 0 before first ≤ 4
      → (q : PathState Carried) → IsPathAt 0 (after_turn values turn (at before)) q → IsGone q → ⊥
  no_death before turn along alive few q there gone =
      let six = harmless_ends_die_of_expiries start before turn h.mild h.harmless alive.path q alive.here there alive.living gone.side gone.dead in
      let less = never_sixth values (RunsAlive start) Comes answers (harmed values 0 before first) (at before) few alive gone.side alive.path alive.here
      (paid_so before along gone.side alive.path alive.here) six.tick six.out in
      let many = six.many in omega (arith, less, many)

  -- it isn't there later, if it isn't there now
  abbrev Later : List Turn → List Turn → Type 0
  Later before more = HoldsAlong values (RunsAlive start) before first → RunsAlive start (at before) → length (before ++ more) < 2 ^ 64 - 1 → harmed values 0 (before ++ more) first ≤ 4 → AnEndDied 0 (at (before ++ more)) → ⊥

  none_died : (before more : List Turn) → Later before more
  none_died before [] along alive short few died =
      let same : at (before ++ []) ≡ at before = ap at (append-nil before) in
      let died_now : AnEndDied 0 (at before) = subst (AnEndDied 0) same died in
      both_ways (is_dead (end_at died_now.side died_now.path).tcp.state)
      (subst (λ (p : PathState Carried). is_dead (end_at died_now.side p).tcp.state ≡ false) (path_is (at before) alive.path died_now.path alive.here died_now.here) (alive.living died_now.side)) died_now.dead
  none_died before (turn ∷ more) along alive short few died = by (none_died (before ++ turn ∷ []) more) next.0 next.1 next.2
    where
      w : WorldState Carried
      w = at before

      after : at (before ++ turn ∷ []) ≡ after_turn values turn w
      after = run_append values before (turn ∷ []) first

      rest : (before ++ turn ∷ []) ++ more ≡ before ++ turn ∷ more
      rest = append_assoc before (turn ∷ []) more

      harms : harmed values 0 before first ≤ 4
      harms = let sum = harmed_append values 0 before (turn ∷ more) first in omega (arith, sum, few)

      next : (d : ActorCrew Carried) × (slice_get (after_turn values turn w).crew 2 ≡ Some d) × RowsGoOn (Path alive.path) d.member
      next = let found = expiries_alone_count values w turn 2 alive.here.crew alive.here.there in (found.0, found.1, subst (λ m. RowsGoOn m found.0.member) alive.here.is found.2)

      goes : Later (before ++ turn ∷ []) more → (q : PathState Carried) → IsPathAt 0 (after_turn values turn w) q → ⊥
      goes later q there = ⊎_elim
          (λ gone. no_death before turn along alive harms q there gone)
          (λ living.
          let now : RunsAlive start (at (before ++ turn ∷ [])) = record {
            turns = before ++ turn ∷ [];
            is = refl;
            few = (let sum = length-append before (turn ∷ []) in let all = length-append before (turn ∷ more) in omega (arith, sum, all, short));
            path = q;
            here = subst (λ v. IsPathAt 0 v q) (sym after) there;
            living = living;
          } in
          later (along_then values (RunsAlive start) before turn first along now) now
          (subst (λ ts. length ts < 2 ^ 64 - 1) (sym rest) short) (subst (λ ts. harmed values 0 ts first ≤ 4) (sym rest) few) (subst (λ ts. AnEndDied 0 (at ts)) (sym rest) died))
          (living_or q)

      by : Later (before ++ turn ∷ []) more → (d : ActorCrew Carried) → slice_get (after_turn values turn w).crew 2 ≡ Some d → RowsGoOn (Path alive.path) d.member → ⊥
      by later d found rows = member d.member refl rows
        where
          member : (m : Actor Carried) → d.member ≡ m → RowsGoOn (Path alive.path) m → ⊥
          member (App a) is rows = rows
          member (Path q) is rows = goes later q (record { crew = d; there = found; is = is })

pub few_losses_end_none_so : (start : Start) (Comes : Side → WorldState Carried → Type 0) → ExpiriesAreAnswered values (RunsAlive start) Comes → HarmsNoEnd start
    → (turns : List Turn) → length turns < 2 ^ 64 - 1 → harmed values 0 turns (opened_world start) ≤ 4 → AnEndDied 0 (reached values start turns) → ⊥
few_losses_end_none_so start Comes answers h turns short few died = none_died start Comes answers h [] turns runs runs short few died
  where
    opens : PathState Carried
    opens = waiting_path (path_begins start 0 h.plan) start.lines

    live : (s : Side) → is_dead (end_at s opens).tcp.state ≡ false
    live A = waits (path_begins start 0 h.plan).joined_at
      where
        waits : (o : Option ℕ) → is_dead (if is_none o then phase.SynSent else phase.Waiting) ≡ false
        waits None = refl
        waits (Some tick) = refl
    live B = refl

    runs : RunsAlive start (opened_world {C = Carried} start)
    runs = record {
      turns = [];
      is = refl;
      few = omega arith;
      path = first_turn (path_begins start 0 h.plan) start.lines;
      here = first_here start h.plan h.there;
      living = λ s. begins_living values opens s (live s);
    }
