-- Connections over one path by mild scripts begin mildly; what is said by how they begin holds of them, and their ways stay.
use Rattle.std.proofs.Common.{◌≡◌, refl, sym, subst, ap, ◌∙◌, ℕ, suc, ◌+◌, ◌-◌, ◌*◌, ◌/◌, ◌^◌, ◌<◌, ◌≤◌, ◌⊎◌, arith, Option, Some, None, List, [], ◌∷◌, ◌++◌, length, append_assoc, le_refl}
use Rattle.std.specs.List.{All, slice_get}
use Rattle.std.proofs.lemmas.List.Elements.{All-head}
use Rattle.std.proofs.lemmas.Option.{same_Some}
use Rattle.std.proofs.Math.Nat.{lt-div-mul-add}
use Rattle.sides.specs.declared.side.Side.{Side}
use Rattle.sides.specs.declared.side.Side.TheVariants.{A, B}
use Rattle.sides.specs.Side.{peer}
use Rattle.link_script.specs.Scripts.{IsPath}
use Rattle.link_script.specs.declared.script.PathLine.{PathLine}
use Rattle.link_model.specs.State.{LinkState}
use Rattle.link_model.specs.Steps.{lines_of}
use Rattle.actor_desk.specs.declared.ask.Reply.{Reply}
use Rattle.path_core.specs.Codec.{Codec}
use Rattle.path_core.specs.Start.{waiting_path}
use Rattle.path_core.specs.State.{PathState}
use Rattle.path_core.specs.Steps.{begins_turn}
use Rattle.path_core.specs.Values.{Carried, values}
use Rattle.world_laws.specs.declared.member.Member.TheVariants.{App, Path}
use Rattle.world_laws.specs.declared.outcome.Outcome.TheVariants.{Delivered}
use Rattle.world_laws.specs.Actors.{Actor, ActorCrew, member_next, member_takes}
use Rattle.world_laws.specs.Members.{HoldsOfKind}
use Rattle.world_laws.specs.Openings.{PathPlan, Start, opened_world, path_begins, plan_of, plans_from, start_of}
use Rattle.world_laws.specs.Outcomes.{outcome_of}
use Rattle.world_laws.specs.RoundDone.{reached}
use Rattle.world_laws.specs.StampedBooks.{answer_to}
use Rattle.world_laws.specs.Worlds.{WorldState, Turn, AreLawful, after_turn, world_run}
use Rattle.world_laws.proofs.Worlds.Opened.{opened_actors}
use Rattle.world_laws.proofs.Writes.Steps.{begins_lasts}
use Rattle.whole_paths.specs.Finish.{rounds_in}
use Rattle.whole_paths.specs.Harms.{longest_way}
use Rattle.whole_paths.specs.OnePathScripts.{Allowance, AnEndDiedEarly, BriefPathsEndBy, Count, EndsAsItBegins, EndsAsItBeginsBy, EndsBy, EndsWithin, MildScriptsBeginWithOnePath, OnlyWaysStay, WaysStay, harms_alone, rounds_within, way_by, way_there_and_back}
use Rattle.whole_paths.proofs.Copies.{LinkStays, links_last}
use Rattle.whole_paths.proofs.Flying.{takes_frames}
use Rattle.whole_paths.proofs.Mild.{mild_scripts_start_mildly}
use Rattle.whole_paths.proofs.SentByTurns.{none_later}
use Rattle.whole_paths.proofs.Turns.{turns_each}

pub mild_scripts_begin_with_one_path : MildScriptsBeginWithOnePath
mild_scripts_begin_with_one_path script path file_a file_b h =
    let short_a = h.a in let short_b = h.b in let least = h.ranges.buffer.least in
    record {
      mild = mild_scripts_start_mildly script file_a file_b (record { ranges = h.ranges; short_a = omega (arith, short_a); short_b = omega (arith, short_b) }) h.mild;
      one = ap (plans_from script 0) h.one;
      size = (let most = (All-head IsPath path [] (subst (λ (ps : List PathLine). All IsPath ps) h.one h.ranges.paths)).mss.most in omega (arith, most));
      buffer = omega (arith, least);
    }

-- ---- ways

module _ {C : Type 0} where
  abbrev SameWays : Actor C → Actor C → Type 0
  SameWays (Path p) (Path q) = (s : Side) → longest_way s q.link ≡ longest_way s p.link
  SameWays (App a) (App b) = Unit {0}
  SameWays _ _ = ⊥

  stays_same : (m : Actor C) → SameWays m m
  stays_same (App a) = tt
  stays_same (Path p) = λ s. refl

  takes_same : (k : Codec C) (r : Reply) (m : Actor C) → SameWays m (member_takes k r m)
  takes_same k r (App a) = tt
  takes_same k r (Path p) = (takes_frames k r p).way

  begins_same : (m : Actor C) → SameWays m (member_next m)
  begins_same (App a) = tt
  begins_same (Path p) = λ s. ap (λ (l : LinkState C). longest_way s l) (begins_lasts LinkStays links_last (record p { clock = p.until; until = p.until + 100 }))

  then_same : (l m n : Actor C) → SameWays l m → SameWays m n → SameWays l n
  then_same (App a) (App b) (App c) x y = tt
  then_same (Path p) (Path q) (Path r) x y = λ s. y s ∙ x s
  then_same (App a) (App b) (Path r) x y = absurd y
  then_same (App a) (Path q) n x y = absurd x
  then_same (Path p) (App b) n x y = absurd x
  then_same (Path p) (Path q) (App c) x y = absurd y

  ways_after : (k : Codec C) (turns : List Turn) (w : WorldState C) (actor : ℕ) (c : ActorCrew C) → slice_get w.crew actor ≡ Some c
      → (d : ActorCrew C) × (slice_get (world_run k turns w).crew actor ≡ Some d) × SameWays c.member d.member
  ways_after k turns w actor c there = turns_each k (λ x y. SameWays x.member y.member) (λ x. stays_same x.member) (λ ask books x. takes_same k (answer_to books ask) x.member)
      (λ stamp x over. begins_same x.member) (λ x y z. then_same x.member y.member z.member) turns w actor c there

  module _ (start : Start) (number : ℕ) (plan : PathPlan) where
    -- the ways that are planned
    abbrev Planned : Actor C → Type 0
    Planned = HoldsOfKind (λ app. Unit {0}) (λ (p : PathState C). (s : Side) → longest_way s p.link ≡ way_by s plan.delay (lines_of number start.lines))

    still_planned : (m n : Actor C) → SameWays m n → Planned m → Planned n
    still_planned (App a) (App b) same h = tt
    still_planned (Path p) (Path q) same h = λ s. same s ∙ h s
    still_planned (App a) (Path q) same h = absurd same
    still_planned (Path p) (App b) same h = tt

    first_planned : slice_get start.paths number ≡ Some plan → (c : ActorCrew C) → slice_get (opened_world start).crew (2 + number) ≡ Some c → Planned c.member
    first_planned is c there = opened_actors (λ actor c. actor ≡ 2 + number → Planned c.member) start (λ zeroth. absurd (omega (arith, zeroth))) (λ first. absurd (omega (arith, first))) by (2 + number) c there refl
      where
        by : (n : ℕ) (other : PathPlan) → slice_get start.paths n ≡ Some other → suc (suc n) ≡ 2 + number → let q = begins_turn (waiting_path {C = C} (path_begins start n other) start.lines) in
            (s : Side) → longest_way s q.link ≡ way_by s plan.delay (lines_of number start.lines)
        by n other at same s =
            let p : PathState C = waiting_path (path_begins start n other) start.lines in
            let here : n ≡ number = omega (arith, same) in
            let plans : other ≡ plan = same_Some other plan (sym at ∙ ap (slice_get start.paths) here ∙ is) in
            ap (λ (l : LinkState C). longest_way s l) (begins_lasts LinkStays links_last p)
            ∙ ap (λ (n : ℕ). way_by s other.delay (lines_of n start.lines)) here
            ∙ ap (λ (x : PathPlan). way_by s x.delay (lines_of number start.lines)) plans

  pub ways_stay : (k : Codec C) → WaysStay k
  ways_stay k start turns number plan is c there = by (slice_get (opened_world {C = C} start).crew (2 + number)) refl
    where
      by : (o : Option (ActorCrew C)) → slice_get (opened_world {C = C} start).crew (2 + number) ≡ o → Planned start number plan c.member
      by None none = let gone : None ≡ Some c = sym (none_later k turns (opened_world start) (2 + number) none) ∙ there in cc
      by (Some x) at =
          let after = ways_after k turns (opened_world start) (2 + number) x at in
          let same : after.0 ≡ c = same_Some after.0 c (sym after.1 ∙ there) in
          subst (λ (y : ActorCrew C). Planned start number plan y.member) same (still_planned start number plan x.member after.0.member after.2 (first_planned start number plan is x at))

  both_ways : (start : Start) (plan : PathPlan) (p : PathState C) → start.paths ≡ plan ∷ [] → ((s : Side) → longest_way s p.link ≡ way_by s plan.delay (lines_of 0 start.lines))
      → (s : Side) → longest_way s p.link + longest_way (peer s) p.link ≡ way_there_and_back start.paths start.lines
  both_ways start plan p one ways s = by s ∙ ap (λ (plans : List PathPlan). way_there_and_back plans start.lines) (sym one)
    where
      by : (s : Side) → longest_way s p.link + longest_way (peer s) p.link ≡ way_by A plan.delay (lines_of 0 start.lines) + way_by B plan.delay (lines_of 0 start.lines)
      by A = let there = ways A in let back = ways B in omega (arith, there, back)
      by B = let there = ways A in let back = ways B in omega (arith, there, back)

  pub only_ways_stay : (k : Codec C) → OnlyWaysStay k
  only_ways_stay k start turns plan one p here =
      both_ways start plan p one (subst (HoldsOfKind (λ app. Unit {0}) (λ (q : PathState C). (s : Side) → longest_way s q.link ≡ way_by s plan.delay (lines_of 0 start.lines))) here.is
      (ways_stay k start turns 0 plan (ap (λ plans. slice_get plans 0) one) here.crew here.there))

-- ---- from the beginning to the script

lawful_rest : (ts us : List Turn) (w : WorldState Carried) → AreLawful values (ts ++ us) w → AreLawful values us (world_run values ts w)
lawful_rest [] us w lawful = lawful
lawful_rest (t ∷ ts) us w lawful = lawful_rest ts us (after_turn values t w) lawful.1

pub rounds_so : (n rounds : ℕ) → n / 100 + 4 ≤ rounds → n + 300 < 100 * rounds
rounds_so n rounds many = let less = lt-div-mul-add {a = n} {b = 100} (omega arith) in omega (arith, less, many)

ends_by : (Also : Start → PathPlan → Type 0) (count : Count) (bound : Allowance) → EndsBy Also count bound → BriefPathsEndBy values Also count (rounds_within bound)
ends_by Also count bound ends script path file_a file_b before more mild also brief lawful first many =
    subst Enough same enough brief.few (subst (λ ts. AreLawful values ts (opened_world start)) (sym same) lawful) many
  where
    start : Start
    start = start_of script file_a file_b

    begun : List Turn
    begun = before ++ Turn.Round ∷ []

    same : begun ++ more ≡ before ++ Turn.Round ∷ more
    same = append_assoc before (Turn.Round ∷ []) more

    Enough : List Turn → Type 0
    Enough ts = length ts < 2 ^ 64 - 1 → AreLawful values (begun ++ more) (opened_world start)
        → rounds_within bound script path file_a file_b (count start ts) ≤ rounds_in more
        → (outcome_of (reached values start ts).crew ≡ Delivered) ⊎ AnEndDiedEarly values start ts

    enough : Enough (begun ++ more)
    enough few going many =
        let counted = count start (begun ++ more) in
        ends start (plan_of script 0 path) begun more counted (mild_scripts_begin_with_one_path script path file_a file_b mild) also
        (lawful_rest begun more (opened_world start) going) few first (le_refl counted) (rounds_so (bound start counted) (rounds_in more) many)

pub ends_as_it_begins_by : EndsAsItBeginsBy values
ends_as_it_begins_by Also count counted bound same ends script path file_a file_b before more mild also brief lawful first many =
    ends_by Also count bound ends script path file_a file_b before more mild also brief lawful first
    (subst (λ n. rounds_within bound script path file_a file_b n ≤ rounds_in more)
    (same (start_of script file_a file_b) (mild_scripts_begin_with_one_path script path file_a file_b mild).mild (before ++ Turn.Round ∷ more)) many)

-- where nothing else is asked of them
pub ends_always : (bound : Allowance) → EndsWithin bound → EndsBy (λ start plan. Unit {0}) (harms_alone values) bound
ends_always bound ends start plan before more most begins also = ends start plan before more most begins

pub ends_as_it_begins : EndsAsItBegins values
ends_as_it_begins bound ends script path file_a file_b before more mild =
    ends_by (λ start plan. Unit {0}) (harms_alone values) bound (ends_always bound ends) script path file_a file_b before more mild tt
