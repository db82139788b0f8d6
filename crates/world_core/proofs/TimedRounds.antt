-- Rounds by tick: which step is next, how they are made, that no clock goes back, and that such rounds are lawful and the only ones.
use Rattle.std.proofs.Common.{◌≡◌, refl, sym, ◌∙◌, ap, subst, ℕ, zero, suc, ◌+◌, ◌-◌, ◌^◌, ◌<◌, ◌≤◌, ◌&&◌, ◌⊎◌, inl, inr, Bool, true, false, not, nat_lt, if◌then◌else◌, IfSome, IsNone, Option, Some, None, option_and_then, List, [], ◌∷◌, ◌++◌, length, set, slice_get, arith}
use Rattle.std.proofs.lemmas.Bool.{both_ways, cases_lt, cases_eq, ltb-true, ltb-false}
use Rattle.std.proofs.lemmas.Option.{same_Some, slice_get_past}
use Rattle.std.specs.Option.{option_to_list}
use Rattle.actor_desk.specs.declared.ask.Ask.{Ask}
use Rattle.actor_desk.specs.declared.ask.Reply.{Reply}
use Rattle.path_core.specs.Codec.{Codec}
use Rattle.path_core.specs.Looking.{next_tick}
use Rattle.path_core.specs.Octets.{octets}
use Rattle.path_core.specs.State.{PathState, has_ended}
use Rattle.path_core.specs.Steps.{takes}
use Rattle.stream_lanes.proofs.Lists.{set_same}
use Rattle.world_laws.specs.Actors.{Actor, ActorCrew, member_asks, member_takes, is_over}
use Rattle.world_laws.specs.declared.member.Member.TheVariants.{App, Path}
use Rattle.world_laws.specs.Outcomes.{outcome_of}
use Rattle.world_laws.specs.Serial.{goes_on, OneOf}
use Rattle.world_laws.specs.StampedBooks.{answer_to}
use Rattle.world_laws.specs.Weaving.{steps_by}
use Rattle.world_laws.specs.Worlds.{WorldState, Turn, crew_after, asked, stepped, world_step, goes, is_going, all_over, AreLawful}
use Rattle.world_laws.proofs.Rounds.SerialIsLawful.{other_stays}
use Rattle.world_laws.proofs.Weaving.WholeRounds.{lawful_append}
use Rattle.world_core.specs.Cuts.{ShowsAs}
use Rattle.world_core.specs.declared.timed_rounds.NextStep.{NextStep}
use Rattle.world_core.specs.Sooner.{sooner}
use Rattle.world_core.specs.Steps.{GoesUp, StampRises, stamp_or}
use Rattle.world_core.specs.TimedRounds.{member_tick, step_tick, tick_at, IsNext, AreInTime, AreTimedTurns, TimedTurnsTo, TimedCut, after_timed, turns_by, AreTimedRounds, IsTimed, ticks_of, RiseFrom, NoClockGoesBack}
use Rattle.world_core.proofs.Clocks.{next_later, takes_clock}

first_over : (a b : Bool) → (a && b) ≡ true → not a ≡ false
first_over = elim [ true ↦ λ b over. refl | false ↦ λ b over. cc ]

rest_over : (a b : Bool) → (a && b) ≡ true → b ≡ true
rest_over = elim [ true ↦ λ b over. over | false ↦ λ b over. cc ]

no_tick : {P : Type 0} (tick : ℕ) → None ≡ Some tick → P
no_tick tick is = cc

-- what holds of the first numbers and of the next one
among : {P : ℕ → Type 0} (n : ℕ) → ((other : ℕ) → other < n → P other) → P n → (other : ℕ) → other < suc n → P other
among {P} n low here other within = elim (cases_eq other n) [ inl same ↦ subst P (sym same) here | inr apart ↦ low other (omega (arith, within, apart)) ]

module _ {C : Type 0} where
  -- ---- which step is next

  -- an actor has a tick just where its turn goes on
  tick_goes : (o : Option (ActorCrew C)) (tick : ℕ) → option_and_then (λ c. step_tick c.member) o ≡ Some tick → goes o ≡ true
  tick_goes None tick is = cc
  tick_goes (Some c) tick is = (elim (is_over c.member) as (λ b. (if b then None else Some (member_tick c.member)) ≡ Some tick → not b ≡ true)
      [ true ↦ λ is. cc | false ↦ λ is. refl ]) is

  rests : (o : Option (ActorCrew C)) → option_and_then (λ c. step_tick c.member) o ≡ None → goes o ≡ false
  rests None none = refl
  rests (Some c) none = (elim (is_over c.member) as (λ b. (if b then None else Some (member_tick c.member)) ≡ None → not b ≡ false)
      [ true ↦ λ none. refl | false ↦ λ none. cc ]) none

  pub next_goes : (actor : ℕ) (w : WorldState C) → IsNext actor w.crew → is_going actor w ≡ true
  next_goes actor w next = tick_goes (slice_get w.crew actor) next.tick next.stands

  -- where each turn is over nobody goes
  none_goes : (crew : List (ActorCrew C)) (actor : ℕ) → all_over crew ≡ true → goes (slice_get crew actor) ≡ false
  none_goes [] actor over = refl
  none_goes (c ∷ crew) zero over = first_over (is_over c.member) (all_over crew) over
  none_goes (c ∷ crew) (suc actor) over = none_goes crew actor (rest_over (is_over c.member) (all_over crew) over)

  -- one actor alone is next
  one_next : (x y : ℕ) (crew : List (ActorCrew C)) → IsNext x crew → IsNext y crew → x ≡ y
  one_next x y crew a b =
      let up = a.least y b.tick b.stands in
      let down = b.least x a.tick a.stands in
      let same : a.tick ≡ b.tick = omega (arith, up, down) in
      let before = a.first y (b.stands ∙ ap Some (sym same)) in
      let behind = b.first x (a.stands ∙ ap Some same) in
      omega (arith, before, behind)

  -- ---- how it is found

  -- of so many first actors this one's step stands earliest
  pub record IsFirst (n : ℕ) (step : NextStep) (crew : List (ActorCrew C)) : Type 0 where
    pub stands : tick_at step.actor crew ≡ Some step.tick
    pub within : step.actor < n
    pub least : (other later : ℕ) → other < n → tick_at other crew ≡ Some later → step.tick ≤ later
    pub first : (other : ℕ) → other < n → tick_at other crew ≡ Some step.tick → step.actor ≤ other

  -- or none of them has one
  abbrev pub IsFirstIf : ℕ → Option NextStep → List (ActorCrew C) → Type 0
  IsFirstIf n None crew = (other : ℕ) → other < n → tick_at other crew ≡ None
  IsFirstIf n (Some step) crew = IsFirst n step crew

  module _ (n : ℕ) (crew : List (ActorCrew C)) where
    alone : (tick : ℕ) → tick_at n crew ≡ Some tick → ((other : ℕ) → other < n → tick_at other crew ≡ None)
        → IsFirst (suc n) (record { actor = n; tick = tick }) crew
    alone tick is none = record {
      stands = is;
      within = omega arith;
      least = λ other later within at. among {P = λ i. tick_at i crew ≡ Some later → tick ≤ later} n (λ i low x. no_tick later (sym (none i low) ∙ x))
          (λ x. let same = same_Some tick later (sym is ∙ x) in omega (arith, same)) other within at;
      first = λ other within at. among {P = λ i. tick_at i crew ≡ Some tick → n ≤ i} n (λ i low x. no_tick tick (sym (none i low) ∙ x))
          (λ x. omega arith) other within at;
    }

    earlier : (tick : ℕ) (step : NextStep) → tick_at n crew ≡ Some tick → tick < step.tick → IsFirst n step crew
        → IsFirst (suc n) (record { actor = n; tick = tick }) crew
    earlier tick step is less h = record {
      stands = is;
      within = omega arith;
      least = λ other later within at. among {P = λ i. tick_at i crew ≡ Some later → tick ≤ later} n
          (λ i low x. let more = h.least i later low x in omega (arith, less, more))
          (λ x. let same = same_Some tick later (sym is ∙ x) in omega (arith, same)) other within at;
      first = λ other within at. among {P = λ i. tick_at i crew ≡ Some tick → n ≤ i} n
          (λ i low x. let more = h.least i tick low x in absurd (omega (arith, less, more)))
          (λ x. omega arith) other within at;
    }

    later : (step : NextStep) → ((tick : ℕ) → tick_at n crew ≡ Some tick → step.tick ≤ tick) → IsFirst n step crew → IsFirst (suc n) step crew
    later step more h = record {
      stands = h.stands;
      within = let within = h.within in omega (arith, within);
      least = λ other later within at. among {P = λ i. tick_at i crew ≡ Some later → step.tick ≤ later} n (λ i low x. h.least i later low x)
          (λ x. more later x) other within at;
      first = λ other within at. among {P = λ i. tick_at i crew ≡ Some step.tick → step.actor ≤ i} n (λ i low x. h.first i low x)
          (λ x. let low = h.within in omega (arith, low)) other within at;
    }

    pub first_more : (m : ℕ) (step : Option NextStep) (tick : Option ℕ) → m ≡ suc n → tick ≡ tick_at n crew → IsFirstIf n step crew
        → IsFirstIf m (sooner step n tick) crew
    first_more m step tick next is h = subst (λ x. IsFirstIf x (sooner step n tick) crew) (sym next) (by step tick is h)
      where
        less : (tick : ℕ) (s : NextStep) → tick_at n crew ≡ Some tick → IsFirst n s crew → (b : Bool) → nat_lt tick s.tick ≡ b
            → IsFirstIf (suc n) (if b then Some (record { actor = n; tick = tick }) else Some s) crew
        less tick s is h true test = earlier tick s is (ltb-true tick s.tick test) h
        less tick s is h false test =
            later s (λ other x. let same = same_Some tick other (sym is ∙ x) in let more = ltb-false tick s.tick test in omega (arith, same, more)) h

        by : (step : Option NextStep) (tick : Option ℕ) → tick ≡ tick_at n crew → IsFirstIf n step crew → IsFirstIf (suc n) (sooner step n tick) crew
        by None None is h = λ other within. among {P = λ i. tick_at i crew ≡ None} n h (sym is) other within
        by (Some s) None is h = later s (λ tick x. no_tick tick (is ∙ x)) h
        by None (Some tick) is h = alone tick (sym is) h
        by (Some s) (Some tick) is h = less tick s (sym is) h (nat_lt tick s.tick) refl

  -- behind all of them
  past : (crew : List (ActorCrew C)) (i later : ℕ) → length crew ≤ i → tick_at i crew ≡ Some later → ⊥
  past crew i later behind at = no_tick later (sym (ap (option_and_then (λ (c : ActorCrew C). step_tick c.member)) (slice_get_past crew i behind)) ∙ at)

  pub first_is_next : (crew : List (ActorCrew C)) (n : ℕ) (step : Option NextStep) → n ≡ length crew → IsFirstIf n step crew → IfSome step (λ s. IsNext s.actor crew)
  first_is_next crew n None all h = tt
  first_is_next crew n (Some s) all h = record {
    tick = s.tick;
    stands = h.stands;
    least = λ other later at. by other (cases_lt other (length crew)) (λ low. h.least other later (omega (arith, low, all)) at) (λ behind. absurd (past crew other later behind at));
    first = λ other at. by other (cases_lt other (length crew)) (λ low. h.first other (omega (arith, low, all)) at) (λ behind. absurd (past crew other s.tick behind at));
  }
    where
      by : {P : Type 0} (other : ℕ) → (other < length crew) ⊎ (length crew ≤ other) → (other < length crew → P) → (length crew ≤ other → P) → P
      by other (inl low) x y = x low
      by other (inr behind) x y = y behind

  -- where nobody goes each turn is over
  over_if_none : (crew : List (ActorCrew C)) → ((i : ℕ) → goes (slice_get crew i) ≡ false) → all_over crew ≡ true
  over_if_none [] rest = refl
  over_if_none (c ∷ crew) rest = (elim (is_over c.member) as (λ b. not b ≡ false → all_over crew ≡ true → (b && all_over crew) ≡ true)
      [ true ↦ λ first behind. behind | false ↦ λ first behind. cc ]) (rest 0) (over_if_none crew (λ i. rest (suc i)))

  pub first_is_none : (crew : List (ActorCrew C)) (n : ℕ) (step : Option NextStep) → n ≡ length crew → IsFirstIf n step crew → IsNone step → all_over crew ≡ true
  first_is_none crew n (Some s) all h none = cc
  first_is_none crew n None all h none = over_if_none crew (λ i. by i (cases_lt i (length crew)))
    where
      by : (i : ℕ) → (i < length crew) ⊎ (length crew ≤ i) → goes (slice_get crew i) ≡ false
      by i (inl low) = rests (slice_get crew i) (h i (omega (arith, low, all)))
      by i (inr behind) = ap goes (slice_get_past crew i behind)

-- ---- how a round is made

module _ {C : Type 0} (k : Codec C) where
  -- a step more in front
  pub timed_more : (actor : ℕ) (w x v : WorldState C) → IsNext actor w.crew → x ≡ world_step k actor w → TimedTurnsTo k x v → TimedTurnsTo k w v
  timed_more actor w x v next is h = by (subst (λ y. TimedTurnsTo k y v) is h)
    where
      by : TimedTurnsTo k (world_step k actor w) v → TimedTurnsTo k w v
      by h = record { order = actor ∷ h.order; turns = record { steps = (next, h.turns.steps); over = h.turns.over }; world = h.world }

  pub timed_cut_more : (actor : ℕ) (w x v : WorldState C) → IsNext actor w.crew → x ≡ world_step k actor w → TimedCut k x v → TimedCut k w v
  timed_cut_more actor w x v next is h = by (subst (λ y. TimedCut k y v) is h)
    where
      by : TimedCut k (world_step k actor w) v → TimedCut k w v
      by h = record { order = actor ∷ h.order; steps = (next, h.steps); shows = h.shows }

  pub timed_cut_now : (w v : WorldState C) → ShowsAs w v → TimedCut k w v
  timed_cut_now w v shows = record { order = []; steps = tt; shows = shows }

-- as many stamps are left for the actors
abbrev pub stamps_left : List (ActorCrew (List ℕ)) → ℕ
stamps_left [] = 0
stamps_left (c ∷ crew) = (2 ^ 62 - c.pass.stamp) + stamps_left crew

fewer_left : (crew : List (ActorCrew (List ℕ))) (i : ℕ) (c d : ActorCrew (List ℕ)) → slice_get crew i ≡ Some c → GoesUp c.pass.stamp d.pass.stamp
    → stamps_left (set crew i d) < stamps_left crew
fewer_left [] i c d there up = cc
fewer_left (x ∷ crew) zero c d there up =
    let same = ap (λ (y : ActorCrew (List ℕ)). y.pass.stamp) (same_Some x c there) in let more = up.more in let small = up.small in omega (arith, same, more, small)
fewer_left (x ∷ crew) (suc i) c d there up = let rest = fewer_left crew i c d there up in omega (arith, rest)

-- a step uses some of them up
pub step_uses : (actor : ℕ) (w : WorldState (List ℕ)) → is_going actor w ≡ true → StampRises actor w (world_step octets actor w)
    → stamps_left (world_step octets actor w).crew < stamps_left w.crew
step_uses actor w going rises = by (slice_get w.crew actor) refl (rises going)
  where
    so : (c : ActorCrew (List ℕ)) (o : Option Ask) → slice_get w.crew actor ≡ Some c
        → GoesUp (stamp_or (slice_get w.crew actor)) (stamp_or (slice_get (asked octets actor o c w).crew actor)) → stamps_left (asked octets actor o c w).crew < stamps_left w.crew
    so c None there up = let more = up.more in absurd (omega (arith, more))
    so c (Some ask) there up =
        let d : ActorCrew (List ℕ) = crew_after octets ask w.books c in
        fewer_left w.crew actor c d there
        (subst (λ o. GoesUp (stamp_or o) d.pass.stamp) there (subst (λ o. GoesUp (stamp_or (slice_get w.crew actor)) (stamp_or o)) (set_same w.crew actor d c there) up))

    by : (o : Option (ActorCrew (List ℕ))) → slice_get w.crew actor ≡ o
        → GoesUp (stamp_or (slice_get w.crew actor)) (stamp_or (slice_get (stepped octets actor o w).crew actor)) → stamps_left (stepped octets actor o w).crew < stamps_left w.crew
    by None there up = let more = up.more in absurd (omega (arith, more))
    by (Some c) there up = so c (member_asks octets c.member) there up

-- ---- no clock goes back

module _ {C : Type 0} (k : Codec C) where
  -- an actor's next step doesn't stand before the one that it made
  path_later : (r : Reply) (p : PathState C) (before after : ℕ) → (b : Bool) → has_ended p ≡ b → (if b then None else Some (next_tick p)) ≡ Some before
      → (c : Bool) → (if c then None else Some (next_tick (takes k r p))) ≡ Some after → before ≤ after
  path_later r p before after true over is c then_is = cc
  path_later r p before after false going is true then_is = cc
  path_later r p before after false going is false then_is =
      let stood = same_Some (next_tick p) before is in
      let stands = same_Some (next_tick (takes k r p)) after then_is in
      let clock = takes_clock k r p going in
      let more = next_later (takes k r p) in
      omega (arith, stood, stands, clock, more)

  app_later : (before after : ℕ) (b : Bool) → (if b then None else Some 0) ≡ Some before → before ≤ after
  app_later before after true is = cc
  app_later before after false is = let same = same_Some 0 before is in omega (arith, same)

  member_later : (r : Reply) (m : Actor C) (before after : ℕ) → step_tick m ≡ Some before → step_tick (member_takes k r m) ≡ Some after → before ≤ after
  member_later r (App a) before after is then_is = app_later before after (is_over {C = C} (App a)) is
  member_later r (Path p) before after is then_is = path_later r p before after (has_ended p) refl is (has_ended (takes k r p)) then_is

  -- nor any other actor's
  same_later : (actor later : ℕ) (w : WorldState C) (next : IsNext actor w.crew) → tick_at actor (world_step k actor w).crew ≡ Some later → next.tick ≤ later
  same_later actor later w next = by (slice_get w.crew actor) refl next.stands
    where
      so : (c : ActorCrew C) (o : Option Ask) → slice_get w.crew actor ≡ Some c → step_tick c.member ≡ Some next.tick
          → tick_at actor (asked k actor o c w).crew ≡ Some later → next.tick ≤ later
      so c None there stood stands = next.least actor later stands
      so c (Some ask) there stood stands =
          let d : ActorCrew C = crew_after k ask w.books c in
          member_later (answer_to w.books ask) c.member next.tick later stood
          (sym (ap (option_and_then (λ (x : ActorCrew C). step_tick x.member)) (set_same w.crew actor d c there)) ∙ stands)

      by : (o : Option (ActorCrew C)) → slice_get w.crew actor ≡ o → option_and_then (λ (x : ActorCrew C). step_tick x.member) o ≡ Some next.tick
          → tick_at actor (stepped k actor o w).crew ≡ Some later → next.tick ≤ later
      by None there stood stands = cc
      by (Some c) there stood stands = so c (member_asks k c.member) there stood stands

  all_later : (actor other later : ℕ) (w : WorldState C) (next : IsNext actor w.crew) → tick_at other (world_step k actor w).crew ≡ Some later → next.tick ≤ later
  all_later actor other later w next stands = elim (cases_eq other actor) [
    | inl same ↦ same_later actor later w next (subst (λ i. tick_at i (world_step k actor w).crew ≡ Some later) same stands)
    | inr apart ↦ next.least other later (sym (ap (option_and_then (λ (x : ActorCrew C). step_tick x.member)) (other_stays k actor other w apart)) ∙ stands)
  ]

  rise_from : (order : List ℕ) (tick : ℕ) (w : WorldState C) → ((other later : ℕ) → tick_at other w.crew ≡ Some later → tick ≤ later) → AreInTime k order w
      → RiseFrom tick (ticks_of k order w)
  rise_from [] tick w below h = tt
  rise_from (actor ∷ order) tick w below (next, rest) =
      subst (λ o. RiseFrom tick (option_to_list o ++ ticks_of k order (world_step k actor w))) (sym next.stands)
      (below actor next.tick next.stands, rise_from order next.tick (world_step k actor w) (λ other later at. all_later actor other later w next at) rest)

  pub no_clock_goes_back : NoClockGoesBack k
  no_clock_goes_back order w h = rise_from order 0 w (λ other later at. omega arith) h

-- ---- such rounds are lawful

module _ {C : Type 0} (k : Codec C) where
  in_time_lawful : (order : List ℕ) (w : WorldState C) → AreInTime k order w → AreLawful k (steps_by order) w
  in_time_lawful [] w h = tt
  in_time_lawful (actor ∷ order) w (next, rest) = (next_goes actor w next, in_time_lawful order (world_step k actor w) rest)

  pub timed_lawful : (most : ℕ) (rounds : List (List ℕ)) (w : WorldState C) → AreTimedRounds k most rounds w → AreLawful k (turns_by rounds) w
  timed_lawful zero [] w h = tt
  timed_lawful zero (order ∷ rounds) w h = cc
  timed_lawful (suc most) [] w h = absurd h
  timed_lawful (suc most) (order ∷ rounds) w (turns, rest) =
      lawful_append k (steps_by order) (Turn.Round ∷ turns_by rounds) w (in_time_lawful order w turns.steps)
      (turns.over, by (goes_on (outcome_of (after_timed k order w).crew)) (timed_lawful most rounds (after_timed k order w)) rest)
    where
      by : (b : Bool) → (AreTimedRounds k most rounds (after_timed k order w) → AreLawful k (turns_by rounds) (after_timed k order w))
          → OneOf b (AreTimedRounds k most rounds (after_timed k order w)) (rounds ≡ []) → AreLawful k (turns_by rounds) (after_timed k order w)
      by true more rest = more rest
      by false more none = subst (λ rs. AreLawful k (turns_by rs) (after_timed k order w)) (sym none) tt

  -- ---- and the only ones

  over_not_next : (actor : ℕ) (w : WorldState C) → all_over w.crew ≡ true → IsNext actor w.crew → ⊥
  over_not_next actor w over next = both_ways (is_going actor w) (none_goes w.crew actor over) (next_goes actor w next)

  one_order : (os us : List ℕ) (w : WorldState C) → AreTimedTurns k os w → AreTimedTurns k us w → os ≡ us
  one_order [] [] w x y = refl
  one_order [] (u ∷ us) w x y = absurd (over_not_next u w x.over y.steps.0)
  one_order (o ∷ os) [] w x y = absurd (over_not_next o w y.over x.steps.0)
  one_order (o ∷ os) (u ∷ us) w x y =
      let same = one_next o u w.crew x.steps.0 y.steps.0 in
      let other : AreTimedTurns k (o ∷ us) w = subst (λ a. AreTimedTurns k (a ∷ us) w) (sym same) y in
      ap (λ a. a ∷ os) same ∙ ap (λ rest. u ∷ rest)
      (one_order os us (world_step k o w) (record { steps = x.steps.1; over = x.over }) (record { steps = other.steps.1; over = other.over }))

  one_list_of_orders : (most : ℕ) (rs us : List (List ℕ)) (w : WorldState C) → AreTimedRounds k most rs w → AreTimedRounds k most us w → rs ≡ us
  one_list_of_orders zero rs us w x y = x ∙ sym y
  one_list_of_orders (suc most) [] us w x y = absurd x
  one_list_of_orders (suc most) (o ∷ rs) [] w x y = absurd y
  one_list_of_orders (suc most) (o ∷ rs) (p ∷ us) w x y =
      let same = one_order o p w x.0 y.0 in
      let other = subst (λ os. OneOf (goes_on (outcome_of (after_timed k os w).crew)) (AreTimedRounds k most us (after_timed k os w)) (us ≡ [])) (sym same) y.1 in
      ap (λ os. os ∷ rs) same ∙ ap (λ os. p ∷ os)
      (by (goes_on (outcome_of (after_timed k o w).crew)) (one_list_of_orders most rs us (after_timed k o w)) x.1 other)
    where
      by : (b : Bool) → (AreTimedRounds k most rs (after_timed k o w) → AreTimedRounds k most us (after_timed k o w) → rs ≡ us)
          → OneOf b (AreTimedRounds k most rs (after_timed k o w)) (rs ≡ []) → OneOf b (AreTimedRounds k most us (after_timed k o w)) (us ≡ []) → rs ≡ us
      by = elim [ true ↦ λ rest x y. rest x y | false ↦ λ rest x y. x ∙ sym y ]

  pub timed_is_one : (most : ℕ) (ts us : List Turn) (w : WorldState C) → IsTimed k most ts w → IsTimed k most us w → ts ≡ us
  timed_is_one most ts us w x y = x.2 ∙ ap turns_by (one_list_of_orders most x.0 y.0 w x.1 y.1) ∙ sym y.2
