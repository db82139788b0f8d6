-- After the turns of all actors each turn has ended.
use Rattle.std.proofs.Common.{◌≡◌, refl, sym, ◌∙◌, ap, subst, ℕ, zero, suc, ◌+◌, ◌<◌, Bool, true, false, ◌&&◌, not, Option, Some, None, List, [], ◌∷◌, set, length, map, ◌==◌, arith}
use Rattle.std.specs.List.{slice_get}
use Rattle.std.proofs.lemmas.List.{length-map}
use Rattle.actor_desk.specs.declared.ask.Note.{Note}
use Rattle.stream_lanes.proofs.Lists.{set_other}
use Rattle.actor_desk.specs.declared.ask.Ask.{Ask}
use Rattle.path_core.specs.Octets.{octets}
use Rattle.world_laws.specs.Actors.{ActorCrew, member_asks, is_over}
use Rattle.world_laws.specs.Serial.{after_steps, IsTurn, AreTurns, after_turns}
use Rattle.world_laws.specs.Worlds.{crew_after, asked, stepped, world_step, goes, is_going, all_over, greatest}
use Rattle.world_laws.specs.Fine.{lists_of}
use Rattle.world_core.specs.Rounds.{RoundTo}
use Rattle.mptcp_run.specs.Rounds.{Begins}
use Rattle.mptcp_run.specs.Task.{Connection}
use Rattle.world_core.specs.Weaving.{AllGrewAbove, IsSince}
use Rattle.mptcp_run.proofs.UnderWay.{begins_going, turns_go, next_begins, lists_at_end}

-- a step of an actor leaves the turns of the others
other_goes : (actor other : ℕ) (w : Connection) → (other ≡ actor → ⊥) → is_going other (world_step octets actor w) ≡ is_going other w
other_goes actor other w apart = by (slice_get w.crew actor)
  where
    asks : (o : Option Ask) (c : ActorCrew (List ℕ)) → is_going other (asked octets actor o c w) ≡ is_going other w
    asks None c = refl
    asks (Some ask) c = ap goes (set_other w.crew actor (crew_after octets ask w.books c) other apart)

    by : (o : Option (ActorCrew (List ℕ))) → is_going other (stepped octets actor o w) ≡ is_going other w
    by None = refl
    by (Some c) = asks (member_asks octets c.member) c

others_go : (actor other n : ℕ) (w : Connection) → (other ≡ actor → ⊥) → is_going other (after_steps octets actor n w) ≡ is_going other w
others_go actor other zero w apart = refl
others_go actor other (suc n) w apart = others_go actor other n (world_step octets actor w) apart ∙ other_goes actor other w apart

turn_ended : (actor n : ℕ) (w : Connection) → IsTurn octets actor n w → is_going actor (after_steps octets actor n w) ≡ false
turn_ended actor zero w h = h
turn_ended actor (suc n) w h = turn_ended actor n (world_step octets actor w) h.1

ended_so_far : (actor n : ℕ) (w : Connection) → IsTurn octets actor n w → ((j : ℕ) → j < actor → is_going j w ≡ false)
    → (j : ℕ) → j < suc actor → (b : Bool) → (j == actor) ≡ b → is_going j (after_steps octets actor n w) ≡ false
ended_so_far actor n w h before j within true is = let same : j ≡ actor = grind arith in subst (λ k. is_going k (after_steps octets actor n w) ≡ false) (sym same) (turn_ended actor n w h)
ended_so_far actor n w h before j within false is =
    let apart : j ≡ actor → ⊥ = λ same. grind (arith) in
    others_go actor j n w apart ∙ before j (grind arith)

turns_ended : (more actor : ℕ) (counts : List ℕ) (w : Connection) → AreTurns octets more actor counts w → ((j : ℕ) → j < actor → is_going j w ≡ false)
    → (j : ℕ) → j < actor + more → is_going j (after_turns octets actor counts w) ≡ false
turns_ended zero actor counts w h before j within =
    subst (λ cs. is_going j (after_turns octets actor cs w) ≡ false) (sym h) (before j (omega (arith, within)))
turns_ended (suc more) actor [] w h before j within = absurd h
turns_ended (suc more) actor (n ∷ counts) w h before j within =
    turns_ended more (suc actor) counts (after_steps octets actor n w) h.1 (λ i few. ended_so_far actor n w h.0 before i few (i == actor) refl) j (omega (arith, within))

-- ---- as many actors as before

length-set : {X : Type 0} (xs : List X) (i : ℕ) (x : X) → length (set xs i x) ≡ length xs
length-set [] i x = refl
length-set (y ∷ xs) zero x = refl
length-set (y ∷ xs) (suc i) x = ap suc (length-set xs i x)

pub step_length : (actor : ℕ) (w : Connection) → length (world_step octets actor w).crew ≡ length w.crew
step_length actor w = by (slice_get w.crew actor)
  where
    asks : (o : Option Ask) (c : ActorCrew (List ℕ)) → length (asked octets actor o c w).crew ≡ length w.crew
    asks None c = refl
    asks (Some ask) c = length-set w.crew actor (crew_after octets ask w.books c)

    by : (o : Option (ActorCrew (List ℕ))) → length (stepped octets actor o w).crew ≡ length w.crew
    by None = refl
    by (Some c) = asks (member_asks octets c.member) c

steps_length : (actor n : ℕ) (w : Connection) → length (after_steps octets actor n w).crew ≡ length w.crew
steps_length actor zero w = refl
steps_length actor (suc n) w = steps_length actor n (world_step octets actor w) ∙ step_length actor w

turns_length : (actor : ℕ) (counts : List ℕ) (w : Connection) → length (after_turns octets actor counts w).crew ≡ length w.crew
turns_length actor [] w = refl
turns_length actor (n ∷ counts) w = turns_length (suc actor) counts (after_steps octets actor n w) ∙ steps_length actor n w

-- ---- all of them

not_going : (b : Bool) → not b ≡ false → b ≡ true
not_going true e = refl
not_going false e = cc

all_ended : (crew : List (ActorCrew (List ℕ))) → ((j : ℕ) → j < length crew → goes (slice_get crew j) ≡ false) → all_over crew ≡ true
all_ended [] each = refl
all_ended (c ∷ crew) each =
    let first : is_over c.member ≡ true = not_going (is_over c.member) (each 0 (omega arith)) in
    let rest = all_ended crew (λ j within. each (suc j) (omega (arith, within))) in
    ap (λ b. b && all_over crew) first ∙ rest

round_over : (counts : List ℕ) (w : Connection) → AreTurns octets (length w.crew) 0 counts w → all_over (after_turns octets 0 counts w).crew ≡ true
round_over counts w h =
    let many = turns_length 0 counts w in
    all_ended (after_turns octets 0 counts w).crew
    (λ j within. turns_ended (length w.crew) 0 counts w h (λ i few. absurd (omega (arith, few))) j (omega (arith, within, many)))

-- a round made, the next one begins
pub round_begins : (w v : Connection) → Begins w → RoundTo octets w v → Begins v
round_begins w v h r =
    subst (λ x. Begins x) (sym r.2)
    (next_begins (greatest 0 w.crew) (after_turns octets 0 r.0 w) (turns_go w w 0 r.0 (begins_going w h)).fine (round_over r.0 w r.1))

-- and its lists grew
pub round_since : (made : List ℕ) (w v : Connection) → made ≡ map length (lists_of w.crew) → Begins w → RoundTo octets w v → IsSince w made v
round_since made w v is h r = record {
  made_is = is;
  grew = subst (λ x. AllGrewAbove (greatest 0 w.crew) (lists_of w.crew) (lists_of x.crew)) (sym r.2)
      (subst (λ lists. AllGrewAbove (greatest 0 w.crew) (lists_of w.crew) lists) (sym (lists_at_end (after_turns octets 0 r.0 w))) (turns_go w w 0 r.0 (begins_going w h)).grew);
}

many_grew : (top : ℕ) (lasts lists : List (List Note)) → AllGrewAbove top lasts lists → length lists ≡ length lasts
many_grew top [] [] h = refl
many_grew top [] (list ∷ lists) h = absurd h
many_grew top (before ∷ lasts) [] h = absurd h
many_grew top (before ∷ lasts) (list ∷ lists) h = ap suc (many_grew top lasts lists h.1)

-- there are as many actors
pub since_length : (made : List ℕ) (last w : Connection) → IsSince last made w → length made ≡ length w.crew
since_length made last w h =
    ap (λ ns. length ns) h.made_is ∙ length-map (lists_of last.crew) length ∙ sym (many_grew (greatest 0 last.crew) (lists_of last.crew) (lists_of w.crew) h.grew)
    ∙ length-map w.crew (λ (c : ActorCrew (List ℕ)). c.list)
