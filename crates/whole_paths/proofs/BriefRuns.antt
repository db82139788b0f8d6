-- How many turns were made, by the steps that the actors noted: each step is one, and each round has a step of the path.
use Rattle.std.proofs.Common.{◌≡◌, refl, sym, subst, ap, ◌∙◌, ℕ, zero, suc, ◌+◌, ◌*◌, ◌-◌, ◌^◌, ◌<◌, ◌≤◌, arith, true, false, true≢false, if◌then◌else◌, Option, Some, None, List, [], ◌∷◌, length, map}
use Rattle.std.specs.List.{slice_get, slice_set}
use Rattle.std.proofs.lemmas.Bool.{not-true}
use Rattle.std.proofs.lemmas.List.{length-append}
use Rattle.std.proofs.lemmas.Option.{same_Some}
use Rattle.sides.specs.declared.side.Side.TheVariants.{A, B}
use Rattle.stream_lanes.specs.Words.{Every}
use Rattle.stream_apps.specs.declared.duty.AppDuty.{AppDuty}
use Rattle.stream_apps.specs.AppSteps.{app_asks_first}
use Rattle.stream_apps.specs.Starts.{fast_close_of, first_app_turn}
use Rattle.actor_desk.specs.declared.ask.Ask.{Ask}
use Rattle.actor_desk.specs.Words.{is_nil}
use Rattle.path_agenda.specs.declared.duty.Duty.{Duty}
use Rattle.path_core.specs.Codec.{Codec}
use Rattle.path_core.specs.Octets.{octets}
use Rattle.path_core.specs.Start.{first_turn}
use Rattle.path_core.specs.Steps.{asks_first}
use Rattle.world_laws.specs.declared.member.Member.TheVariants.{App, Path}
use Rattle.world_laws.specs.Actors.{Actor, ActorCrew, is_over, member_asks}
use Rattle.world_laws.specs.Openings.{PathPlan, Start, new_crew, new_path, opened_world, path_begins, paths_from, plan_of, plans_from, start_of}
use Rattle.world_laws.specs.RoundDone.{EndsAt, RoundState, first_round, next_round, reached, round_after, round_of}
use Rattle.world_laws.specs.Timely.{IsTimelyMember}
use Rattle.world_laws.specs.Worlds.{AreLawful, Turn, WorldState, asked, begins, crew_after, end_round, goes, greatest, stepped, world_run, world_step}
use Rattle.world_laws.proofs.Rounds.AStepAtLeast.{each_round_has_a_step}
use Rattle.world_laws.proofs.Rounds.DoneByTheEnd.{rounds_end_on_time}
use Rattle.whole_paths.specs.AsFar.{IsActorAsFar}
use Rattle.whole_paths.specs.FewTexts.{FewStepsAreBrief}
use Rattle.whole_paths.specs.Finish.{rounds_in}
use Rattle.whole_paths.proofs.GoesOn.{goes_on_so}

module _ {C : Type 0} where
  -- how many steps the actors noted
  abbrev steps_of : List (ActorCrew C) → ℕ
  steps_of [] = 0
  steps_of (c ∷ crew) = length c.list + steps_of crew

  -- one more
  noted : (crew : List (ActorCrew C)) (i : ℕ) (c d : ActorCrew C) → slice_get crew i ≡ Some c → length d.list ≡ suc (length c.list)
      → (steps_of (slice_set crew i d) ≡ suc (steps_of crew)) × (length (slice_set crew i d) ≡ length crew)
  noted [] i c d there more = cc
  noted (e ∷ crew) zero c d there more = ((let same = ap (λ (x : ActorCrew C). length x.list) (same_Some e c there) in omega (arith, same, more)), refl)
  noted (e ∷ crew) (suc i) c d there more = let rest = noted crew i c d there more in (ap (λ n. length e.list + n) rest.0 ∙ omega arith, ap suc rest.1)

  same_steps : (stamp : ℕ) (crew : List (ActorCrew C)) → (steps_of (map (begins stamp) crew) ≡ steps_of crew) × (length (map (begins stamp) crew) ≡ length crew)
  same_steps stamp [] = (refl, refl)
  same_steps stamp (c ∷ crew) = let rest = same_steps stamp crew in (ap (λ n. length c.list + n) rest.0, ap suc rest.1)

  few_steps : (crew : List (ActorCrew C)) → Every (λ c. length c.list < 2 ^ 57) crew → steps_of crew ≤ length crew * 2 ^ 57
  few_steps [] few = omega arith
  few_steps (c ∷ crew) few = let first = few.each 0 c refl in let rest = few_steps crew (record { each = λ i d at. few.each (suc i) d at }) in omega (arith, first, rest)

  -- who isn't done asks
  asks_some : (k : Codec C) (m : Actor C) → is_over m ≡ false → (x : Ask) × (member_asks k m ≡ Some x)
  asks_some k (App a) going = by a.agenda going
    where
      by : (ds : List AppDuty) → is_nil ds ≡ false → (x : Ask) × (app_asks_first ds a ≡ Some x)
      by [] is = absurd (true≢false is)
      by (d ∷ ds) is = (_, refl)
  asks_some k (Path p) going = by p.agenda going
    where
      by : (ds : List Duty) → is_nil ds ≡ false → (x : Ask) × (asks_first k ds p ≡ Some x)
      by [] is = absurd (true≢false is)
      by (d ∷ ds) is = (_, refl)

  record Counted (k : Codec C) (turns : List Turn) (w : WorldState C) : Type 0 where
    steps : steps_of w.crew + length turns ≤ steps_of (world_run k turns w).crew + rounds_in turns
    many : length (world_run k turns w).crew ≡ length w.crew

  counted : (k : Codec C) (turns : List Turn) (w : WorldState C) → AreLawful k turns w → Counted k turns w
  counted k [] w lawful = record { steps = omega arith; many = refl }
  counted k (Turn.Step actor ∷ turns) w lawful = by (slice_get w.crew actor) refl lawful.0 (counted k turns (world_step k actor w) lawful.1)
    where
      by_ask : (c : ActorCrew C) → slice_get w.crew actor ≡ Some c → (x : Ask) → world_step k actor w ≡ asked k actor (Some x) c w → Counted k turns (world_step k actor w) → Counted k (Turn.Step actor ∷ turns) w
      by_ask c there x is rest =
          let more = noted w.crew actor c (crew_after k x w.books c) there (length-append c.list _ ∙ omega arith) in
          let same = ap (λ (v : WorldState C). steps_of v.crew) is in let size = ap (λ (v : WorldState C). length v.crew) is in let one = more.0 in let kept = more.1 in
          record {
            steps = (let low = rest.steps in omega (arith, low, same, one));
            many = rest.many ∙ size ∙ kept;
          }

      by : (o : Option (ActorCrew C)) → slice_get w.crew actor ≡ o → goes o ≡ true → Counted k turns (world_step k actor w) → Counted k (Turn.Step actor ∷ turns) w
      by None there going rest = absurd (true≢false (sym going))
      by (Some c) there going rest =
          let x = asks_some k c.member (not-true (is_over c.member) going) in
          by_ask c there x.0 (ap (λ o. stepped k actor o w) there ∙ ap (λ o. asked k actor o c w) x.1) rest
  counted k (Turn.Round ∷ turns) w lawful =
      let rest = counted k turns (end_round w) lawful.1 in
      let is : end_round w ≡ record w { crew = map (begins (greatest 0 w.crew)) w.crew } = ap (λ b. if b then record w { crew = map (begins (greatest 0 w.crew)) w.crew } else w) lawful.0 in
      let kept = same_steps (greatest 0 w.crew) w.crew in
      let same = ap (λ (v : WorldState C). steps_of v.crew) is ∙ kept.0 in let size = ap (λ (v : WorldState C). length v.crew) is ∙ kept.1 in
      record { steps = (let low = rest.steps in omega (arith, low, same)); many = rest.many ∙ size }

  -- ---- rounds

  numbered : (k : Codec C) (turns : List Turn) (w : WorldState C) (r : RoundState C) → AreLawful k turns w → (round_after k turns w r).number ≡ r.number + rounds_in turns
  numbered k [] w r lawful = omega arith
  numbered k (Turn.Step actor ∷ turns) w r lawful = numbered k turns (world_step k actor w) r lawful.1
  numbered k (Turn.Round ∷ turns) w r lawful =
      let rest = numbered k turns (end_round w) (next_round w r) lawful.1 in
      let one : (next_round w r).number ≡ r.number + 1 = ap (λ b. (if b then record { number = r.number + 1; top = greatest 0 w.crew; begun = end_round w } else r).number) lawful.0 in
      omega (arith, rest, one)

module _ (start : Start) (plan : PathPlan) (one : start.paths ≡ plan ∷ []) (turns : List Turn) (lawful : AreLawful octets turns (opened_world start))
    (few : Every (λ c. length c.list < 2 ^ 57) (reached octets start turns).crew) where
  first_there : slice_get (opened_world {C = List ℕ} start).crew 2 ≡ Some (new_path start 0 plan)
  first_there = subst (λ ps. slice_get (new_crew 0 (App (first_app_turn A start.buffer start.file_a (fast_close_of A start.lines)))
      ∷ new_crew 1 (App (first_app_turn B start.buffer start.file_b (fast_close_of B start.lines))) ∷ paths_from start 0 ps) 2 ≡ Some (new_path {C = List ℕ} start 0 plan)) (sym one) refl

  few_rounds : rounds_in turns ≤ 2 ^ 57
  few_rounds = let found = (goes_on_so octets (opened_world start) turns).crew 2 (new_path start 0 plan) first_there in by found.0 found.1 found.0.member refl found.2.member
    where
      by : (d : ActorCrew (List ℕ)) → slice_get (reached octets start turns).crew 2 ≡ Some d → (m : Actor (List ℕ)) → d.member ≡ m → IsActorAsFar (Path (first_turn (path_begins start 0 plan) start.lines)) d.member
          → rounds_in turns ≤ 2 ^ 57
      by d there (App a) is far = absurd (subst (λ m. IsActorAsFar (Path (first_turn (path_begins start 0 plan) start.lines)) m) is far)
      by d there (Path p) is far =
          let ends = subst (EndsAt (100 * ((round_of octets start turns).number + 1))) is ((rounds_end_on_time octets start turns).each 2 d there) in
          let timely = subst (IsTimelyMember (length d.list)) is ((each_round_has_a_step octets start turns).each 2 d there) in
          let begun = timely.begun in let low = few.each 2 d there in let number = numbered octets turns (opened_world start) (first_round start) lawful in
          omega (arith, ends, begun, low, number)

  three : length (opened_world {C = List ℕ} start).crew ≡ 3
  three = subst (λ ps. length (new_crew 0 (App (first_app_turn A start.buffer start.file_a (fast_close_of A start.lines)))
      ∷ new_crew 1 (App (first_app_turn B start.buffer start.file_b (fast_close_of B start.lines))) ∷ paths_from {C = List ℕ} start 0 ps) ≡ 3) (sym one) refl

  few_turns : length turns < 2 ^ 64 - 1
  few_turns =
      let all = counted octets turns (opened_world start) lawful in let low = all.steps in let many = all.many in let size = three in
      let steps = few_steps (reached octets start turns).crew few in let rounds = few_rounds in
      let most : length (reached octets start turns).crew * 2 ^ 57 ≡ 3 * 2 ^ 57 = ap (λ n. n * 2 ^ 57) (many ∙ size) in
      omega (arith, low, steps, rounds, most)

pub few_steps_are_brief : FewStepsAreBrief
few_steps_are_brief script path file_a file_b turns one lawful few =
    record { few = few_turns (start_of script file_a file_b) (plan_of script 0 path) (ap (plans_from script 0) one) turns lawful few }
