-- A round more of a connection, and of each one of a table.
use Rattle.std.proofs.Common.{◌≡◌, refl, sym, ◌∙◌, ap, subst, ℕ, zero, suc, ◌+◌, ◌-◌, ◌<◌, ◌≤◌, Bool, true, false, List, [], ◌∷◌, ◌++◌, length, map, if◌then◌else◌, not, ◌&&◌, arith}
use Rattle.std.specs.List.{All}
use Rattle.std.proofs.lemmas.List.Elements.{All-nil, All-cons}
use Rattle.path_core.specs.Octets.{octets}
use Rattle.run_log.specs.declared.turn.Turn.TheVariants.{Round, Step}
use Rattle.world_core.specs.Kept.{Kept, standing}
use Rattle.world_core.specs.Rounds.{RoundTo, TurnsFrom, after_rounds}
use Rattle.world_core.proofs.RoundsMade.{turn_more, turn_over, turns_more, turns_over, turns_round}
use Rattle.world_laws.specs.Outcomes.{outcome_of}
use Rattle.world_laws.specs.Serial.{AreRounds, AreTurns, OneOf, TurnTo, after_round, goes_on}
use Rattle.world_laws.specs.Worlds.{all_over, begins, end_round, greatest, is_going, world_step}
use Rattle.connection_table.specs.ManyRounds.{EachRound, IsSerialEnd, Made, RoundIfGoing, RoundMade, Runs, StepMade, TurnMade, TurnsMade, goes_on_still}
use Rattle.connection_table.specs.Steps.{after_end, after_step, ends}
use Rattle.connection_table.specs.Tables.{Connection, Entry, Stands}

-- ---- rounds of one connection

abbrev still_goes : Connection → Bool
still_goes w = goes_on (outcome_of w.crew)

abbrev no_rounds : List (List ℕ)
no_rounds = []

none_left : (b : Bool) → OneOf b (no_rounds ≡ []) (no_rounds ≡ [])
none_left true = refl
none_left false = refl

pub first_round : (w v : Connection) → RoundTo octets w v → IsSerialEnd 1 w v
first_round w v r = (r.0 ∷ [], (r.1, none_left (still_goes (after_round octets r.0 w))), r.2)

-- a round in front of those behind it
round_before : (most : ℕ) (counts : List ℕ) (w x : Connection) → AreTurns octets (length w.crew) 0 counts w → still_goes (after_round octets counts w) ≡ true
    → IsSerialEnd most (after_round octets counts w) x → IsSerialEnd (suc most) w x
round_before most counts w x turns going behind = (
  counts ∷ behind.0,
  (turns, subst (λ b. OneOf b (AreRounds octets most behind.0 (after_round octets counts w)) (behind.0 ≡ [])) (sym going) behind.1),
  behind.2,
)

pub round_more : (most : ℕ) (rounds : List (List ℕ)) (w v x : Connection) → AreRounds octets (suc most) rounds w → v ≡ after_rounds octets rounds w → RoundIfGoing v x
    → IsSerialEnd (suc (suc most)) w x
round_more most [] w v x are is next = absurd are
round_more most (counts ∷ rounds) w v x are is next =
    by (λ n behind. round_more n rounds (after_round octets counts w) v x behind is next) (still_goes (after_round octets counts w)) refl are.1
  where
    y : Connection
    y = after_round octets counts w

    -- one more behind the rounds that follow the first one
    More : Type 0
    More = (n : ℕ) → AreRounds octets (suc n) rounds y → IsSerialEnd (suc (suc n)) y x

    -- the last round was made
    stays : still_goes y ≡ false → rounds ≡ [] → IsSerialEnd (suc (suc most)) w x
    stays over none =
        let v_is : v ≡ y = is ∙ ap (λ rs. after_rounds octets rs y) none in
        let x_is : x ≡ v = subst (λ b. OneOf b (RoundTo octets v x) (x ≡ v)) (ap still_goes v_is ∙ over) next in
        (counts ∷ [], (are.0, subst (λ b. OneOf b (AreRounds octets (suc most) no_rounds y) (no_rounds ≡ [])) (sym over) refl), x_is ∙ v_is)

    goes : More → (n : ℕ) → n ≡ most → still_goes y ≡ true → AreRounds octets most rounds y → IsSerialEnd (suc (suc most)) w x
    goes more zero e going behind =
        let none : rounds ≡ [] = subst (λ m. AreRounds octets m rounds y) (sym e) behind in
        let v_is : v ≡ y = is ∙ ap (λ rs. after_rounds octets rs y) none in
        let made : RoundTo octets v x = subst (λ b. OneOf b (RoundTo octets v x) (x ≡ v)) (ap still_goes v_is ∙ going) next in
        round_before (suc most) counts w x are.0 going
        (subst (λ m. IsSerialEnd (suc m) y x) e (first_round y x (subst (λ z. RoundTo octets z x) v_is made)))
    goes more (suc n) e going behind =
        round_before (suc most) counts w x are.0 going
        (subst (λ m. IsSerialEnd (suc m) y x) e (more n (subst (λ m. AreRounds octets m rounds y) (sym e) behind)))

    by : More → (b : Bool) → still_goes y ≡ b → OneOf b (AreRounds octets most rounds y) (rounds ≡ []) → IsSerialEnd (suc (suc most)) w x
    by more false over none = stays over none
    by more true going behind = goes more most refl going behind

-- a serial end after n rounds, of one round at least, and one round more is a serial end after n + 1
pub serial_more : (n : ℕ) → 1 ≤ n → (w v x : Connection) → IsSerialEnd n w v → RoundIfGoing v x → IsSerialEnd (n + 1) w x
serial_more zero few w v x end next = absurd (omega (arith, few))
serial_more (suc n) few w v x end next =
    let e : suc (suc n) ≡ suc n + 1 = omega arith in
    subst (λ m. IsSerialEnd m w x) e (round_more n end.0 w v x end.1 end.2 next)

-- ---- the end of a round

kept_is : (k : Kept) → k.failed ≡ false → k ≡ standing k.state
kept_is k stands = ap (λ f. let kept : Kept = record { failed = f; state = k.state } in kept) stands

-- where it hasn't failed it is the round's end
pub end_is : (e : Entry) → Stands e → (after_end e).world ≡ standing (end_round e.world.state)
end_is e stands = by (all_over e.world.state.crew) refl
  where
    ended : Entry
    ended = record e { turns = e.turns ++ Round ∷ []; world = standing (end_round e.world.state) }

    by : (b : Bool) → all_over e.world.state.crew ≡ b → (if (not e.world.failed && b) then ended else e).world ≡ standing (end_round e.world.state)
    by true over = subst (λ f. (if (not f && true) then ended else e).world ≡ standing (end_round e.world.state)) (sym stands) refl
    by false over =
        let still : end_round e.world.state ≡ e.world.state =
        ap (λ b. if b then record e.world.state { crew = map (begins (greatest 0 e.world.state.crew)) e.world.state.crew } else e.world.state) over in
        subst (λ f. (if (not f && false) then ended else e).world ≡ standing (end_round e.world.state)) (sym stands) (kept_is e.world stands ∙ ap standing (sym still))

-- a turn that has ended
pub turn_ends : (actor : ℕ) (e new : Entry) → is_going actor e.world.state ≡ false → new ≡ after_step actor e → TurnTo octets actor e.world.state new.world.state
turn_ends actor e new over is =
    let same : new ≡ e =
    is ∙ ap (λ b. if b then record e { turns = e.turns ++ Step actor ∷ []; world = standing (world_step octets actor e.world.state) } else e) over in
    subst (λ (n : Entry). TurnTo octets actor e.world.state n.world.state) (sym same) (turn_over octets actor e.world.state over)

-- all turns are those from the first one on
pub all_turns : (n : ℕ) (w v : Connection) → TurnsFrom octets (n - 0) 0 w v → TurnsFrom octets n 0 w v
all_turns n w v h = let e : n - 0 ≡ n = omega arith in subst (λ m. TurnsFrom octets m 0 w v) e h

-- the turns of a round, and its end
pub round_is : (old middle new : Entry) → TurnsMade old middle → new ≡ after_end middle → new.input ≡ middle.input → RoundMade old new
round_is old middle new made is input_is =
    let world_is : new.world ≡ standing (end_round middle.world.state) = ap (λ (e : Entry). e.world) is ∙ end_is middle made.stands in
    record {
      input = input_is ∙ made.input;
      stands = ap (λ (k : Kept). k.failed) world_is;
      state = subst (λ v. RoundTo octets old.world.state v) (sym (ap (λ (k : Kept). k.state) world_is)) (turns_round octets old.world.state middle.world.state made.state);
    }

-- a round where it goes on
pub went_on : (old new : Entry) → goes_on_still old ≡ true → RoundMade old new → Made RoundIfGoing old new
went_on old new going made = record {
  input = made.input;
  stands = made.stands;
  state = subst (λ b. OneOf b (RoundTo octets old.world.state new.world.state) (new.world.state ≡ old.world.state)) (sym going) made.state;
}

pub stayed : (old : Entry) → Stands old → goes_on_still old ≡ false → Made RoundIfGoing old old
stayed old stands over = record {
  input = refl;
  stands = stands;
  state = subst (λ b. OneOf b (RoundTo octets old.world.state old.world.state) (old.world.state ≡ old.world.state)) (sym over) refl;
}

-- ---- an actor's turn, step by step

step_input : (actor : ℕ) (e : Entry) → (after_step actor e).input ≡ e.input
step_input actor e = by (is_going actor e.world.state)
  where
    by : (b : Bool) → (if b then record e { turns = e.turns ++ Step actor ∷ []; world = standing (world_step octets actor e.world.state) } else e).input ≡ e.input
    by true = refl
    by false = refl

-- where it goes
step_goes : (actor : ℕ) (e : Entry) → is_going actor e.world.state ≡ true → (after_step actor e).world ≡ standing (world_step octets actor e.world.state)
step_goes actor e going =
    ap (λ b. (if b then record e { turns = e.turns ++ Step actor ∷ []; world = standing (world_step octets actor e.world.state) } else e).world) going

-- what the rest of the turn comes to, the whole turn does
pub record TurnSoFar (actor : ℕ) (before now : Entry) : Type 0 where
  pub input : now.input ≡ before.input
  pub stands : Stands now
  pub whole : (v : Connection) → TurnTo octets actor now.world.state v → TurnTo octets actor before.world.state v

pub turn_begins : (actor : ℕ) (x : Entry) → Runs x → TurnSoFar actor x x
turn_begins actor x runs = record { input = refl; stands = runs.stands; whole = λ v h. h }

pub turn_goes : (actor : ℕ) (x y z : Entry) → TurnSoFar actor x y → StepMade actor true y z → TurnSoFar actor x z
turn_goes actor x y z so step =
    let going = sym step.going in
    let world_is : z.world ≡ standing (world_step octets actor y.world.state) = ap (λ (e : Entry). e.world) step.is ∙ step_goes actor y going in
    record {
      input = ap (λ (e : Entry). e.input) step.is ∙ step_input actor y ∙ so.input;
      stands = ap (λ (k : Kept). k.failed) world_is;
      whole = λ v h. so.whole v (turn_more octets actor y.world.state v going (subst (λ w. TurnTo octets actor w v) (ap (λ (k : Kept). k.state) world_is) h));
    }

pub turn_made : (actor : ℕ) (x y z : Entry) → TurnSoFar actor x y → StepMade actor false y z → TurnMade actor x z
turn_made actor x y z so step =
    let over = sym step.going in
    let same : z ≡ y =
    step.is ∙ ap (λ b. if b then record y { turns = y.turns ++ Step actor ∷ []; world = standing (world_step octets actor y.world.state) } else y) over in
    record {
      input = ap (λ (e : Entry). e.input) same ∙ so.input;
      stands = ap (λ (e : Entry). e.world.failed) same ∙ so.stands;
      state = so.whole z.world.state (turn_ends actor y z over step.is);
    }

-- ---- the turns of a round, one after the other

-- what the turns that are left come to, all turns do
pub record TurnsSoFar (n i : ℕ) (before now : Entry) : Type 0 where
  pub input : now.input ≡ before.input
  pub stands : Stands now
  pub whole : (v : Connection) → TurnsFrom octets (n - i) i now.world.state v → TurnsFrom octets n 0 before.world.state v

pub turns_begin : (n : ℕ) (x : Entry) → Runs x → TurnsSoFar n 0 x x
turns_begin n x runs = record { input = refl; stands = runs.stands; whole = λ v h. all_turns n x.world.state v h }

pub turns_go : (n i : ℕ) → i < n → (x y z : Entry) → TurnsSoFar n i x y → TurnMade i y z → TurnsSoFar n (i + 1) x z
turns_go n i within x y z so made = record {
  input = made.input ∙ so.input;
  stands = made.stands;
  whole = λ v h. so.whole v
      (turns_more octets (n - i) (n - (i + 1)) i (i + 1) y.world.state z.world.state v (omega (arith, within)) (omega arith) made.state h);
}

pub turns_made : (n i : ℕ) → n ≤ i → (x y : Entry) → n ≡ length x.world.state.crew → TurnsSoFar n i x y → TurnsMade x y
turns_made n i past x y count so = record {
  input = so.input;
  stands = so.stands;
  state = subst (λ m. TurnsFrom octets m 0 x.world.state y.world.state) count
      (so.whole y.world.state (turns_over octets (n - i) i y.world.state (omega (arith, past))));
}

end_input : (e : Entry) → (after_end e).input ≡ e.input
end_input e = by (ends e)
  where
    by : (b : Bool) → (if b then record e { turns = e.turns ++ Round ∷ []; world = standing (end_round e.world.state) } else e).input ≡ e.input
    by true = refl
    by false = refl

-- and the round's end
pub round_made : (x y z : Entry) → TurnsMade x y → z ≡ after_end y → RoundMade x z
round_made x y z made is = round_is x y z made is (ap (λ (e : Entry). e.input) is ∙ end_input y)

-- ---- of each connection of a table

module _ (P Q R : Connection → Connection → Type 0) (both : (w v x : Connection) → P w v → Q v x → R w x) where
  pub each_then : (old middle new : List Entry) → EachRound P old middle → EachRound Q middle new → EachRound R old new
  each_then [] [] [] p q = p
  each_then [] [] (z ∷ new) p q = absurd q
  each_then [] (y ∷ middle) new p q = absurd p
  each_then (x ∷ old) [] new p q = absurd p
  each_then (x ∷ old) (y ∷ middle) [] p q = absurd q
  each_then (x ∷ old) (y ∷ middle) (z ∷ new) p q = (
    record { input = q.0.input ∙ p.0.input; stands = q.0.stands; state = both x.world.state y.world.state z.world.state p.0.state q.0.state },
    each_then old middle new p.1 q.1,
  )

-- what one says, the other does
module _ (P Q : Connection → Connection → Type 0) (says : (w v : Connection) → P w v → Q w v) where
  pub each_says : (old new : List Entry) → EachRound P old new → EachRound Q old new
  each_says [] [] p = p
  each_says [] (y ∷ new) p = absurd p
  each_says (x ∷ old) [] p = absurd p
  each_says (x ∷ old) (y ∷ new) p = (record { input = p.0.input; stands = p.0.stands; state = says x.world.state y.world.state p.0.state }, each_says old new p.1)

module _ (P : Connection → Connection → Type 0) where
  pub each_stands : (old new : List Entry) → EachRound P old new → All Stands new
  each_stands [] [] p = All-nil Stands
  each_stands [] (y ∷ new) p = absurd p
  each_stands (x ∷ old) [] p = absurd p
  each_stands (x ∷ old) (y ∷ new) p = All-cons Stands y new p.0.stands (each_stands old new p.1)
