-- On each path the ticks of what is sent don't fall.
use Rattle.std.proofs.Common.{◌≡◌, refl, sym, ap, subst, ◌∙◌, ℕ, suc, ◌+◌, ◌≤◌, ◌==◌, ◌⊎◌, inl, inr, Bool, true, false, if◌then◌else◌, Option, Some, None, option_map, option_and_then, List, [], ◌∷◌, ◌++◌, map, set, slice_get, arith}
use Rattle.std.proofs.lemmas.Bool.{eqb-true}
use Rattle.std.proofs.lemmas.Option.{same_Some}
use Rattle.std.specs.Option.{option_to_list}
use Rattle.actor_desk.specs.declared.ask.Ask.{Ask}
use Rattle.actor_desk.specs.declared.ask.Reply.{Reply}
use Rattle.path_core.specs.declared.looking.Departing.{Departing}
use Rattle.path_core.specs.Looking.{departing}
use Rattle.path_core.specs.Octets.{octets}
use Rattle.path_core.specs.State.{PathState, path_of}
use Rattle.world_core.specs.Looking.{crew_path, member_path}
use Rattle.world_laws.specs.Actors.{Actor, ActorCrew, member_asks, member_takes, member_next}
use Rattle.world_laws.specs.declared.member.Member.TheVariants.{App, Path}
use Rattle.world_laws.specs.Openings.{opened_world}
use Rattle.world_laws.specs.StampedBooks.{answer_to}
use Rattle.world_laws.specs.Worlds.{WorldState, Turn, all_over, asked, begins, crew_after, end_round, greatest, stepped, world_step}
use Rattle.link_trace.specs.declared.sent.Sent.{Sent}
use Rattle.run_trace.specs.Telling.{RiseFrom, TicksRiseByPath, on_path}
use Rattle.run_trace.specs.Trace.{sent_as, sent_by, sent_next, trace_of}
use Rattle.world_core.proofs.Clocks.{begun_clock, takes_climbs}
use Rattle.run_trace.proofs.Numbered.{AreNumbered, StandsAt, map_got, opened_numbered, set_got, turn_numbered}

-- ---- a path is at this tick, or later

abbrev NotBefore : ℕ → Actor (List ℕ) → Type 0
NotBefore tick (App a) = Unit {0}
NotBefore tick (Path p) = tick ≤ p.clock

takes_later : (tick : ℕ) (r : Reply) (m : Actor (List ℕ)) → NotBefore tick m → NotBefore tick (member_takes octets r m)
takes_later tick r (App a) before = tt
takes_later tick r (Path p) before = omega (arith, before, (takes_climbs octets r p).rises)

next_later : (tick i : ℕ) (m : Actor (List ℕ)) → NotBefore tick m → StandsAt i m → NotBefore tick (member_next m)
next_later tick i (App a) before stands = tt
next_later tick i (Path p) before stands =
    let q : PathState (List ℕ) = record p { clock = p.until; until = p.until + 100 } in omega (arith, before, stands.1, begun_clock q)

-- the actor of this number, if it is a path
abbrev Reached : ℕ → ℕ → List (ActorCrew (List ℕ)) → Type 0
Reached tick n crew = (c : ActorCrew (List ℕ)) → slice_get crew n ≡ Some c → NotBefore tick c.member

one_reached : (tick i n : ℕ) (crew : List (ActorCrew (List ℕ))) (c d : ActorCrew (List ℕ)) → slice_get crew i ≡ Some c
    → (NotBefore tick c.member → NotBefore tick d.member) → Reached tick n crew → Reached tick n (set crew i d)
one_reached tick i n crew c d there later h x is = elim (set_got crew i n d x is)
    [ inl same ↦ h x same | inr new ↦ subst (λ (y : ActorCrew (List ℕ)). NotBefore tick y.member) (sym new.1) (later (h c (subst (λ (m : ℕ). slice_get crew m ≡ Some c) (sym new.0) there))) ]

step_reached : (tick i n : ℕ) (w : WorldState (List ℕ)) → Reached tick n w.crew → Reached tick n (world_step octets i w).crew
step_reached tick i n w h = (elim (slice_get w.crew i) as (λ o. slice_get w.crew i ≡ o → Reached tick n (stepped octets i o w).crew)
    [ None ↦ λ there. h | Some c ↦ λ there. so (member_asks octets c.member) c there ]) refl
  where
    so : (o : Option Ask) (c : ActorCrew (List ℕ)) → slice_get w.crew i ≡ Some c → Reached tick n (asked octets i o c w).crew
    so None c there = h
    so (Some ask) c there =
        one_reached tick i n w.crew c (crew_after octets ask w.books c) there (takes_later tick (answer_to w.books ask) c.member) h

round_reached : (tick n : ℕ) (w : WorldState (List ℕ)) → AreNumbered w.crew → Reached tick n w.crew → Reached tick n (end_round w).crew
round_reached tick n w numbered h = elim (all_over w.crew) as (λ b. Reached tick n (if b then record w { crew = map (begins (greatest 0 w.crew)) w.crew } else w).crew)
    [ true ↦ next | false ↦ h ]
  where
    next : Reached tick n (map (begins (greatest 0 w.crew)) w.crew)
    next d is =
        let g = map_got (begins (greatest 0 w.crew)) w.crew n d is in
        subst (λ (y : ActorCrew (List ℕ)). NotBefore tick y.member) (sym g.1.1)
        (next_later tick n g.0.member (h g.0 g.1.0) (numbered n g.0 g.1.0))

-- ---- who sends

-- a path that sends this at its tick
record Sends (i : ℕ) (w : WorldState (List ℕ)) (s : Sent) : Type 0 where
  actor : ActorCrew (List ℕ)
  path : PathState (List ℕ)
  there : slice_get w.crew i ≡ Some actor
  member : actor.member ≡ Path path
  tick : s.tick ≡ path.clock
  number : s.path ≡ path_of path

who_sends : (i : ℕ) (w : WorldState (List ℕ)) (s : Sent) → sent_next i w ≡ Some s → Sends i w s
who_sends i w s is = (elim (slice_get w.crew i) as (λ o. slice_get w.crew i ≡ o → option_and_then sent_by (crew_path o) ≡ Some s → Sends i w s)
    [ None ↦ λ there is. cc | Some c ↦ λ there is. so c.member c there refl is ]) refl is
  where
    at_tick : (p : PathState (List ℕ)) (c : ActorCrew (List ℕ)) → slice_get w.crew i ≡ Some c → c.member ≡ Path p
        → (o : Option Departing) → option_map (sent_as p) o ≡ Some s → Sends i w s
    at_tick p c there member None is = cc
    at_tick p c there member (Some d) is =
        let same = same_Some (sent_as p d) s is in record {
          actor = c;
          path = p;
          there = there;
          member = member;
          tick = ap (λ (x : Sent). x.tick) (sym same);
          number = ap (λ (x : Sent). x.path) (sym same);
        }

    so : (m : Actor (List ℕ)) (c : ActorCrew (List ℕ)) → slice_get w.crew i ≡ Some c → c.member ≡ m
        → option_and_then sent_by (member_path m) ≡ Some s → Sends i w s
    so (App a) c there member is = cc
    so (Path p) c there member is = at_tick p c there member (departing p) is

-- its actor stands two behind its number
sender_at : (i : ℕ) (w : WorldState (List ℕ)) (s : Sent) → AreNumbered w.crew → Sends i w s → i ≡ suc (suc s.path)
sender_at i w s numbered g =
    let stands = subst (StandsAt i) g.member (numbered i g.actor g.there) in stands.0 ∙ ap (λ (n : ℕ). suc (suc n)) (sym g.number)

sender_reached : (i : ℕ) (w : WorldState (List ℕ)) (s : Sent) → Sends i w s → Reached s.tick i w.crew
sender_reached i w s g x is =
    let same = same_Some g.actor x (sym g.there ∙ is) in
    subst (λ (y : ActorCrew (List ℕ)). NotBefore s.tick y.member) same (subst (NotBefore s.tick) (sym g.member) (omega (arith, g.tick)))

sent_later : (tick i : ℕ) (w : WorldState (List ℕ)) (s : Sent) → Sends i w s → Reached tick i w.crew → tick ≤ s.tick
sent_later tick i w s g h =
    let before = subst (NotBefore tick) g.member (h g.actor g.there) in omega (arith, before, g.tick)

-- ---- turns

-- what is sent now, and what rises from there
first_rises : (path tick : ℕ) (s : Sent) (rest : List Sent) (b : Bool) → (s.path == path) ≡ b
    → (b ≡ true → (tick ≤ s.tick) × RiseFrom s.tick (on_path path rest)) → RiseFrom tick (on_path path rest)
    → RiseFrom tick (on_path path (s ∷ rest))
first_rises path tick s rest b is here elsewhere =
    subst (λ (t : Bool). RiseFrom tick (if t then s ∷ on_path path rest else on_path path rest)) (sym is) (by b here)
  where
    by : (b : Bool) → (b ≡ true → (tick ≤ s.tick) × RiseFrom s.tick (on_path path rest))
        → RiseFrom tick (if b then s ∷ on_path path rest else on_path path rest)
    by true here = here refl
    by false here = elsewhere

rises : (turns : List Turn) (path tick : ℕ) (w : WorldState (List ℕ)) → AreNumbered w.crew → Reached tick (suc (suc path)) w.crew
    → RiseFrom tick (on_path path (trace_of turns w))
rises [] path tick w numbered h = tt
rises (Turn.Round ∷ turns) path tick w numbered h =
    rises turns path tick (end_round w) (turn_numbered Turn.Round w numbered) (round_reached tick (suc (suc path)) w numbered h)
rises (Turn.Step i ∷ turns) path tick w numbered h =
    by (sent_next i w) refl
    (λ t reached. rises turns path t (world_step octets i w) (turn_numbered (Turn.Step i) w numbered) (step_reached t i (suc (suc path)) w reached))
  where
    by : (o : Option Sent) → sent_next i w ≡ o
        → ((t : ℕ) → Reached t (suc (suc path)) w.crew → RiseFrom t (on_path path (trace_of turns (world_step octets i w))))
        → RiseFrom tick (on_path path (option_to_list o ++ trace_of turns (world_step octets i w)))
    by None is rest = rest tick h
    by (Some s) is rest =
        let g = who_sends i w s is in
        first_rises path tick s (trace_of turns (world_step octets i w)) (s.path == path) refl
        (λ same.
        let at : i ≡ suc (suc path) = sender_at i w s numbered g ∙ ap (λ (n : ℕ). suc (suc n)) (eqb-true s.path path same) in (
          sent_later tick i w s g (subst (λ (m : ℕ). Reached tick m w.crew) (sym at) h),
          rest s.tick (subst (λ (m : ℕ). Reached s.tick m w.crew) at (sender_reached i w s g)),
        ))
        (rest tick h)

from_nothing : (m : Actor (List ℕ)) → NotBefore 0 m
from_nothing (App a) = tt
from_nothing (Path p) = omega arith

pub ticks_rise : TicksRiseByPath
ticks_rise start turns path = rises turns path 0 (opened_world start) (opened_numbered start) (λ c is. from_nothing c.member)
