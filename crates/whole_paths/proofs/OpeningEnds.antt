-- From its beginning on path 0 of a connection opens in time, and then delivers both files over one path, or an end of the path died.
use Rattle.std.proofs.Common.{◌≡◌, refl, sym, subst, ap, ◌∙◌, ◌⊎◌, ⊎_elim, inl, inr, ℕ, ◌+◌, ◌-◌, ◌*◌, ◌/◌, ◌^◌, ◌<◌, ◌≤◌, arith, le_refl, Bool, true, false, Some, List, [], ◌++◌, length}
use Rattle.std.proofs.Math.Nat.{div-mul-le_self, lt-div-mul-add}
use Rattle.std.specs.List.{slice_get}
use Rattle.std.proofs.lemmas.Bool.{both_ways}
use Rattle.std.proofs.lemmas.List.{length-append}
use Rattle.sides.specs.declared.side.Side.{Side}
use Rattle.sides.specs.declared.side.Side.TheVariants.{A, B}
use Rattle.subflow_tcp.specs.States.{is_dead}
use Rattle.subflow_tcp.specs.declared.handshake.State.{State}
use Rattle.path_core.specs.Start.{first_turn}
use Rattle.path_core.specs.State.{PathState, end_at}
use Rattle.path_core.specs.Octets.{octets}
use Rattle.path_core.specs.Values.{Carried, values}
use Rattle.world_laws.specs.declared.member.Member.TheVariants.{App, Path}
use Rattle.world_laws.specs.declared.outcome.Outcome.TheVariants.{Delivered}
use Rattle.world_laws.specs.Actors.{Actor, ActorCrew}
use Rattle.world_laws.specs.Members.{HoldsOfKind}
use Rattle.world_laws.specs.Openings.{PathPlan, Start, opened_world, path_begins, plan_of, start_of}
use Rattle.world_laws.specs.Outcomes.{outcome_of}
use Rattle.world_laws.specs.RoundDone.{reached}
use Rattle.world_laws.specs.Worlds.{Turn, WorldState, AreLawful, world_run}
use Rattle.world_laws.proofs.Weaving.WholeRounds.{run_append}
use Rattle.whole_paths.specs.AsFar.{IsActorAsFar, IsPathAsFar, stage}
use Rattle.whole_paths.specs.Finish.{AnEndDied, IsPathAt, IsWhole, OneBriefPathEnds, harmed, rounds_in}
use Rattle.whole_paths.specs.Mild.{IsMildStart, LinkIsMild}
use Rattle.whole_paths.specs.OnePathScripts.{Allowance, AnEndDiedEarly, BeginsWithOnePath, EndsWithin, for_all_news}
use Rattle.whole_paths.specs.OnlyPaths.{news_within}
use Rattle.whole_paths.specs.Opened.{opened_or_harmed}
use Rattle.whole_paths.specs.OpeningCourses.{opening_allowance, opening_patience, with_opening, AwaitsAStep, BeginsServing, DeliversWithin, FirstPathsOpenWithin, IsOpenOrDone, OpensWithin}
use Rattle.whole_paths.specs.OpeningWaits.{IsAliveAfter}
use Rattle.whole_paths.specs.SentByTurns.{SentAtMost}
use Rattle.whole_paths.proofs.Courses.{harmed_append, paid_exchanges_end}
use Rattle.whole_paths.proofs.Delivery.{all_there_is_delivered}
use Rattle.whole_paths.proofs.FirstHere.{first_here}
use Rattle.whole_paths.proofs.GoesOn.{goes_on_so}
use Rattle.whole_paths.proofs.Mild.{links_are_mild}
use Rattle.whole_paths.proofs.OnePathScripts.{mild_scripts_begin_with_one_path, rounds_so}
use Rattle.whole_paths.proofs.OnlyPaths.{only_paths_end}
use Rattle.whole_paths.proofs.OpenCourses.{IsFirstPath, each_first, lawful_parts}
use Rattle.whole_paths.proofs.OpeningCourses.{exchanges}
use Rattle.whole_paths.proofs.OverOctets.{as_far, ended}
use Rattle.whole_paths.proofs.RecordWaits.{path_is}
use Rattle.whole_paths.proofs.SentByTurns.{each_turn_sends_one_at_most}
use Rattle.whole_paths.proofs.Standing.{MemberServes, opened_serves, run_serves}
use Rattle.whole_paths.proofs.ThereInTime.{LastRounds, dead_stage, last_rounds}

-- ---- deaths

dead_up : (x y : State) → is_dead x ≡ true → stage x ≤ stage y → is_dead y ≡ true
dead_up x y dead up = by y (let high = dead_stage x dead in omega (arith, high, up))
  where
    by : (y : State) → 7 ≤ stage y → is_dead y ≡ true
    by State.Dead high = refl
    by State.Waiting high = absurd (omega (arith, high))
    by _ high = absurd (omega (arith, high))

-- the path of a later moment
pub record LaterPath (w v : WorldState Carried) (p : PathState Carried) : Type 0 where
  pub path : PathState Carried
  pub here : IsPathAt 0 v path
  pub far : IsPathAsFar p path

pub later_path : (w : WorldState Carried) (more : List Turn) (p : PathState Carried) → IsPathAt 0 w p → LaterPath w (world_run values more w) p
later_path w more p here =
    let found = (goes_on_so values w more).crew 2 here.crew here.there in
    by found.0 found.1 found.0.member refl (subst (λ m. IsActorAsFar m found.0.member) here.is found.2.member)
  where
    by : (d : ActorCrew Carried) → slice_get (world_run values more w).crew 2 ≡ Some d → (m : Actor Carried) → d.member ≡ m → IsActorAsFar (Path p) d.member → LaterPath w (world_run values more w) p
    by d there (Path q) is far = record { path = q; here = record { crew = d; there = there; is = is }; far = subst (λ m. IsActorAsFar (Path p) m) is far }
    by d there (App a) is far = absurd (subst (λ m. IsActorAsFar (Path p) m) is far)

far_state : (s : Side) (p q : PathState Carried) → IsPathAsFar p q → stage (end_at s p).tcp.state ≤ stage (end_at s q).tcp.state
far_state A p q far = far.a.subflow.state
far_state B p q far = far.b.subflow.state

pub died_stays : (w : WorldState Carried) (more : List Turn) → AnEndDied 0 w → AnEndDied 0 (world_run values more w)
died_stays w more died =
    let later = later_path w more died.path died.here in
    record { path = later.path; here = later.here; side = died.side; dead = dead_up (end_at died.side died.path).tcp.state (end_at died.side later.path).tcp.state died.dead (far_state died.side died.path later.path later.far) }

-- ---- no end dies

module _ (start : Start) (plan : PathPlan) (has : slice_get start.paths 0 ≡ Some plan) (mild : IsMildStart start) (turns : List Turn) (few : length turns < 2 ^ 64 - 1) where
  path_now : (ts : List Turn) → (p : PathState Carried) × IsPathAt 0 (reached values start ts) p
  path_now ts = let found = later_path (opened_world start) ts (first_turn (path_begins start 0 plan) start.lines) (first_here start plan has) in (found.path, found.here)

  module _ (p : PathState Carried) (here : IsPathAt 0 (reached values start turns) p) (living : (s : Side) → is_dead (end_at s p).tcp.state ≡ false) (ts us : List Turn) (is : ts ++ us ≡ turns) where
    q : PathState Carried
    q = (path_now ts).0

    there : IsPathAt 0 (reached values start ts) q
    unfolding q path_now
    there = (path_now ts).1

    last_is : world_run values us (reached values start ts) ≡ reached values start turns
    last_is = sym (run_append values ts us (opened_world start)) ∙ ap (reached values start) is

    later : LaterPath (reached values start ts) (world_run values us (reached values start ts)) q
    later = later_path (reached values start ts) us q there

    same : later.path ≡ p
    same = path_is (reached values start turns) later.path p (subst (λ (w : WorldState Carried). IsPathAt 0 w later.path) last_is later.here) here

    lived : (s : Side) → is_dead (end_at s q).tcp.state ≡ false
    lived s = by (is_dead (end_at s q).tcp.state) refl
      where
        by : (b : Bool) → is_dead (end_at s q).tcp.state ≡ b → b ≡ false
        by false was = refl
        by true was = absurd (both_ways (is_dead (end_at s p).tcp.state) (living s)
            (subst (λ (x : PathState Carried). is_dead (end_at s x).tcp.state ≡ true) same (dead_up (end_at s q).tcp.state (end_at s later.path).tcp.state was (far_state s q later.path later.far))))

    first : IsFirstPath start q
    first = subst (HoldsOfKind (λ app. Unit {0}) (IsFirstPath start)) there.is (each_first start ts mild.plain.size there.crew there.there)

    link : LinkIsMild start.lines q
    link = subst (HoldsOfKind (λ app. Unit {0}) (LinkIsMild start.lines)) there.is ((links_are_mild values start ts mild).each 2 there.crew there.there)

    shorter : length ts ≤ length turns
    shorter = let sum = length-append ts us in let all = ap length is in omega (arith, sum, all)

    alive_then : IsAliveAfter start 0 ts
    alive_then = record {
      path = q;
      here = there;
      is_open = record { living = lived };
      faithful = record { joined = first.first; whole = link.strips; plain = link.alters };
      few = λ s. let sent = subst (SentAtMost (length ts)) there.is (each_turn_sends_one_at_most values start ts 2 there.crew there.there) s in let most = shorter in omega (arith, sent, most, few);
    }

  -- at each moment both live, or one died
  alive_or_died : ((ts us : List Turn) → ts ++ us ≡ turns → IsAliveAfter start 0 ts) ⊎ AnEndDied 0 (reached values start turns)
  alive_or_died = by (is_dead p.a.tcp.state) refl (is_dead p.b.tcp.state) refl
    where
      p : PathState Carried
      p = (path_now turns).0

      here : IsPathAt 0 (reached values start turns) p
      here = (path_now turns).1

      by : (a : Bool) → is_dead p.a.tcp.state ≡ a → (b : Bool) → is_dead p.b.tcp.state ≡ b → ((ts us : List Turn) → ts ++ us ≡ turns → IsAliveAfter start 0 ts) ⊎ AnEndDied 0 (reached values start turns)
      by true dead b is = inr (record { path = p; here = here; side = A; dead = dead })
      by false living true dead = inr (record { path = p; here = here; side = B; dead = dead })
      by false living_a false living_b = inl (λ ts us is. alive_then p here (elim [ A ↦ living_a | B ↦ living_b ]) ts us is)

-- ---- it opens

pub first_paths_open_within : FirstPathsOpenWithin opening_allowance
first_paths_open_within start turns most begins lawful few low enough = ⊎_elim
    (λ alive. inl (paid_exchanges_end values start (IsAliveAfter start most) most (61100 * (5 + most)) (λ ts. IsOpenOrDone (reached values start ts)) (λ n ts. n ≤ 61100 * opened_or_harmed start ts) (λ n x ts. AwaitsAStep start most n x ts)
    (exchanges start most begins.mild begins.buffer begins.serves) [] turns (omega arith) lawful alive low enough))
    (λ died. inr died)
    (alive_or_died start begins.plan begins.there begins.mild turns few)

-- the only path has none to stand by for
pub only_paths_serve : (start : Start) (plan : PathPlan) → BeginsWithOnePath start plan → BeginsServing start
only_paths_serve start plan begins = record {
  mild = begins.mild;
  plan = plan;
  there = ap (λ (plans : List PathPlan). slice_get plans 0) begins.one;
  buffer = (let least = begins.buffer in omega (arith, least));
  serves = λ turns p here. (subst (λ m. MemberServes values m) here.is ((run_serves values turns (opened_world start) (opened_serves values start plan begins.one)).each 2 here.crew here.there)).none;
}

pub opens_within : OpensWithin opening_allowance
opens_within start plan turns most begins lawful few low enough = first_paths_open_within start turns most (only_paths_serve start plan begins) lawful few low enough

-- ---- and delivers

-- after turns of which some open it, where those that are left deliver both files
module _ (start : Start) (mild : IsMildStart start) (turns : List Turn) (lawful : AreLawful values turns (opened_world start)) (opened rest : ℕ)
    (opens : (first more : List Turn) → first ++ more ≡ turns → AreLawful values first (opened_world start) → opened < 100 * rounds_in first → IsOpenOrDone (reached values start first) ⊎ AnEndDied 0 (reached values start first))
    (ends : (first more : List Turn) → first ++ more ≡ turns → AreLawful values more (reached values start first) → IsWhole 0 (reached values start first) → rest + 300 < 100 * rounds_in more
    → (outcome_of (reached values start (first ++ more)).crew ≡ Delivered) ⊎ AnEndDiedEarly values start (first ++ more))
    (enough : opened + rest + 400 < 100 * rounds_in turns) where
  abbrev last : ℕ
  last = rest / 100 + 4

  last_few : 100 * last ≤ rest + 400
  last_few = omega (arith, div-mul-le_self rest 100)

  last_enough : rest + 300 < 100 * last
  last_enough = let high = lt-div-mul-add {a = rest} {b = 100} (omega arith) in omega (arith, high)

  abbrev Ends : List Turn → Type 0
  Ends ts = (outcome_of (reached values start ts).crew ≡ Delivered) ⊎ AnEndDied 0 (reached values start ts)

  parts : LastRounds last turns
  parts = last_rounds last turns (omega (arith, enough, last_few))

  at_last : (ts us : List Turn) → AnEndDied 0 (reached values start ts) → AnEndDied 0 (reached values start (ts ++ us))
  at_last ts us died = subst (AnEndDied 0) (sym (run_append values ts us (opened_world start))) (died_stays (reached values start ts) us died)

  by : (first more : List Turn) → first ++ more ≡ turns → AreLawful values first (opened_world start) × AreLawful values more (reached values start first) → rounds_in more ≡ last → opened < 100 * rounds_in first → Ends (first ++ more)
  by first more is going rounds many = ⊎_elim opened_so (λ died. inr (at_last first more died)) (opens first more is going.0 many)
    where
      early : AnEndDiedEarly values start (first ++ more) → Ends (first ++ more)
      early h = inr (subst (λ ts. AnEndDied 0 (reached values start ts)) (sym h.is) (at_last h.first h.rest h.died))

      opened_so : IsOpenOrDone (reached values start first) → Ends (first ++ more)
      opened_so (inl whole) = ⊎_elim (λ delivered. inl delivered) early (ends first more is going.1 whole (let enough_now = last_enough in omega (arith, enough_now, rounds)))
      opened_so (inr all) = inl (all_there_is_delivered start first more mild all going.1 (omega (arith, rounds)))

  pub delivers_from : Ends turns
  delivers_from = subst Ends (sym parts.is) (by parts.first parts.rest (sym parts.is) (lawful_parts parts.first parts.rest (opened_world start) (subst (λ ts. AreLawful values ts (opened_world start)) parts.is lawful)) parts.last
      (let all = parts.all in omega (arith, enough, all, last_few)))

pub delivers_within : (rest : Allowance) → EndsWithin rest → DeliversWithin opening_allowance rest
delivers_within rest ends start plan turns most begins lawful few low enough = delivers_from start begins.mild turns lawful (opening_allowance start most) (rest start most)
    (λ first more is going many. opens_within start plan first most begins going
    (let sum = length-append first more in let all = ap length is in omega (arith, few, sum, all))
    (let harms = harmed_append values 0 first more (opened_world start) in let all = ap (λ ts. harmed values 0 ts (opened_world start)) is in omega (arith, harms, all, low)) many)
    (λ first more is going whole many. ends start plan first more most begins going (let all = ap length is in omega (arith, few, all)) whole (let all = ap (λ ts. harmed values 0 ts (opened_world start)) is in omega (arith, all, low)) many)
    enough

pub all_news_deliver : DeliversWithin opening_allowance (for_all_news news_within)
all_news_deliver = delivers_within (for_all_news news_within) only_paths_end

-- ---- by scripts

pub one_path_ends : OneBriefPathEnds values opening_patience
one_path_ends script path file_a file_b turns mild brief lawful many =
    let start : Start = start_of script file_a file_b in
    let harms = harmed values 0 turns (opened_world start) in
    let enough = rounds_so (with_opening (for_all_news news_within) start harms) (rounds_in turns) many in
    all_news_deliver start (plan_of script 0 path) turns harms (mild_scripts_begin_with_one_path script path file_a file_b mild) lawful brief.few (le_refl harms) (omega (arith, enough))

pub one_path_ends_in_octets : OneBriefPathEnds octets opening_patience
one_path_ends_in_octets script path file_a file_b turns mild brief lawful many =
    let whole = as_far script path file_a file_b mild turns in
    ended (start_of script file_a file_b) turns whole
    (one_path_ends script path file_a file_b turns mild brief (whole.lawful.0 lawful) (subst (λ n. opening_patience script path file_a file_b n ≤ rounds_in turns) (whole.harms 0) many))
