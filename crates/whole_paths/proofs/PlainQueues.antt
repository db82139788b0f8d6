-- The copies that go to B, in the order of their arrival, where no line moves a segment of A's: each that is sent goes last, and the first one arrives.
use Rattle.std.proofs.Common.{◌≡◌, refl, sym, subst, ap, ◌∙◌, ◌⊎◌, inl, inr, ⊎_elim, ℕ, ◌+◌, ◌≤◌, le_refl, arith, nat_lt, ◌&&◌, ◌==◌, Bool, true, false, true≢false, cond, if◌then◌else◌, Option, Some, None, IfSome, List, [], ◌∷◌, ◌++◌}
use Rattle.std.specs.Prelude.{find, fold}
use Rattle.std.specs.List.{AllByRecursion, position}
use Rattle.std.specs.Option.{option_and_then}
use Rattle.std.proofs.lemmas.Bool.{both_ways, eq-eqb, eqb-true, le-leb, or_from}
use Rattle.sides.specs.declared.side.Side.{Side}
use Rattle.sides.specs.declared.side.Side.TheVariants.{A, B}
use Rattle.link_script.specs.Places.{same_side}
use Rattle.link_script.specs.declared.script.Happens.TheVariants.{Altered, Again, Late, Lost, Stripped}
use Rattle.link_script.specs.declared.script.ScriptLine.{ScriptLine}
use Rattle.link_script.specs.declared.script.ScriptLine.TheVariants.{OnDirection, OnSegment}
use Rattle.link_model.specs.Fate.{fate_of, fate_told, is_named, told_if, told_or}
use Rattle.link_model.specs.Passage.{plain_shape, shape_of, shaped_by, with_impairment}
use Rattle.link_model.specs.declared.fate.Fate.{Fate}
use Rattle.link_model.specs.declared.passage.Shape.{Shape}
use Rattle.link_model.specs.declared.flight.Due.{Due}
use Rattle.link_model.specs.declared.flight.Flight.{Flight}
use Rattle.link_model.specs.Laws.{WereSentBefore, going_to, moves, plain_flight}
use Rattle.link_model.specs.Order.{AreInOrder}
use Rattle.link_model.specs.State.{LinkState}
use Rattle.link_model.specs.Steps.{after_delivery, after_send, arriving, arrivals, comes_before, counted, due_of, fate_at, first_arrival, is_due, is_lost, is_lost_at_once, is_refused, next_due, next_number, rank, with_flight, with_flights, without}
use Rattle.link_model.proofs.Order.{behind_is, in_order_delivered, in_order_sent, in_order_with}
use Rattle.link_model.proofs.Plain.{IsBefore, all_push, at_once, before_all, counts_on, goes_last, not_by_chance, not_refused, nothing_told, side_is, still_before}
use Rattle.subflow_tcp.specs.States.{is_waiting}
use Rattle.subflow_tcp.specs.declared.handshake.State.{State}
use Rattle.path_agenda.specs.declared.duty.Duty.{Duty}
use Rattle.path_core.specs.Codec.{Codec}
use Rattle.path_core.specs.Events.{before, earlier, earliest, next_copy, next_event, next_join, next_line, tick_of}
use Rattle.path_core.specs.State.{PathState}
use Rattle.path_core.specs.Timer.{next_fire}
use Rattle.path_core.specs.declared.events.Event.{Event}
use Rattle.path_core.specs.declared.events.Event.TheVariants as happenings
use Rattle.path_store.specs.declared.lines.LineLeft.{LineLeft}
use Rattle.std.specs.Prelude.{nat_le}
use Rattle.whole_paths.specs.QuietTexts.{is_first}
use Rattle.whole_paths.proofs.Copies.{LinkStep, without_first}
use Rattle.whole_paths.proofs.Copies.LinkStep.{stays, hands, delivers, is_cut}

same_itself : (s : Side) → same_side s s ≡ true
same_itself A = refl
same_itself B = refl

-- ---- lines that move none of A's first eight segments

abbrev pub FirstStay : List ScriptLine → Type 0
FirstStay lines = AllByRecursion (λ line. (moves A line && is_first 8 line) ≡ false) lines

only_first : (b : Bool) → (b && true) ≡ false → b ≡ false
only_first true is = is
only_first false is = refl

-- they give A's direction no shape
unshaped : (shape : Shape) (line : ScriptLine) → (moves A line && is_first 8 line) ≡ false → shaped_by A shape line ≡ shape
unshaped shape (OnDirection d impairment) is = ap (λ (b : Bool). cond b (with_impairment impairment shape) shape) (only_first (same_side d.from A) is)
unshaped shape line is = refl

all_unshaped : (shape : Shape) (lines : List ScriptLine) → FirstStay lines → fold (shaped_by A) shape lines ≡ shape
all_unshaped shape [] stay = refl
all_unshaped shape (line ∷ lines) stay = ap (λ (s : Shape). fold (shaped_by A) s lines) (unshaped shape line stay.0) ∙ all_unshaped shape lines stay.1

unnamed : (b : Bool) (at number : ℕ) → number ≤ 8 → (b && nat_le at 8) ≡ false → (b && at == number) ≡ false
unnamed false at number low is = refl
unnamed true at number low is = by (at == number) refl
  where
    by : (c : Bool) → (at == number) ≡ c → c ≡ false
    by false apart = refl
    by true same = absurd (both_ways (nat_le at 8) is (le-leb at 8 (let equal = eqb-true at number same in omega (arith, equal, low))))

-- and say nothing of these segments
untold : (number : ℕ) (line : ScriptLine) → number ≤ 8 → (moves A line && is_first 8 line) ≡ false → fate_told A number line ≡ None
untold number (OnSegment s Lost) low is = ap (λ b. told_if b (Some Fate.Lost)) (unnamed (same_side s.from A) s.number number low is)
untold number (OnSegment s (Late ticks)) low is = ap (λ b. told_if b (Some (Fate.Late ticks))) (unnamed (same_side s.from A) s.number number low is)
untold number (OnSegment s (Again ticks)) low is = ap (λ b. told_if b (Some (Fate.Twice ticks))) (unnamed (same_side s.from A) s.number number low is)
untold number (OnSegment s Stripped) low is = nothing_told (is_named A number s)
untold number (OnSegment s Altered) low is = nothing_told (is_named A number s)
untold number line low is = refl

on_time : (number : ℕ) (lines : List ScriptLine) → number ≤ 8 → FirstStay lines → fate_of A number lines ≡ Fate.OnTime
on_time number [] low stay = refl
on_time number (line ∷ lines) low stay = ap (λ (t : Option Fate). told_or t (fate_of A number lines)) (untold number line low stay.0) ∙ on_time number lines low stay.1

module _ {C : Type 0} (number size now : ℕ) (link : LinkState C) (stay : FirstStay link.lines) where
  shape_is : shape_of A link.lines ≡ plain_shape
  shape_is = all_unshaped plain_shape link.lines stay

  -- each comes a delay later, or later still
  pub comes_at_once : first_arrival A number size now link ≡ now + link.delay
  comes_at_once = at_once A number size now link shape_is

  first_fate : number ≤ 8 → fate_at A number size now link ≡ Fate.OnTime
  first_fate low =
      let told = on_time number link.lines low stay in
      let not_lost : is_lost_at_once A number link ≡ false = or_from _ _ (ap is_lost told) (not_by_chance A number size now link shape_is) in
      ap (λ (b : Bool). cond b Fate.Lost (cond (is_refused A size now link) Fate.Full (fate_of A number link.lines))) not_lost
      ∙ ap (λ (b : Bool). cond b Fate.Full (fate_of A number link.lines)) (not_refused A number size now link shape_is) ∙ told

-- one of the first eight goes last
pub goes_last_first : {C : Type 0} (strip alter : Side → C → C) (carried : C) (size now : ℕ) (link : LinkState C) → FirstStay link.lines → next_number A link ≤ 8 → AreInOrder link.under_way
    → WereSentBefore (next_number A link) (now + link.delay) (going_to B link.under_way)
    → going_to B (after_send strip alter A carried size now link).under_way ≡ going_to B link.under_way ++ plain_flight strip alter A carried now link ∷ []
goes_last_first strip alter carried size now link stay low order sent =
    rw (first_fate (next_number A link) size now link stay low, comes_at_once (next_number A link) size now link stay) (goes_last (plain_flight strip alter A carried now link) link.under_way order sent)

module _ {C : Type 0} where
  -- ---- what B sends leaves them

  one_more : (f : Flight C) (fs : List (Flight C)) → f.to ≡ A → going_to B (with_flight f fs) ≡ going_to B fs
  one_more f [] to = ap (λ s. cond (same_side s B) (f ∷ []) []) to
  one_more f (g ∷ fs) to = by (comes_before f g) (one_more f fs to)
    where
      by : (b : Bool) → going_to B (with_flight f fs) ≡ going_to B fs → going_to B (if b then f ∷ g ∷ fs else g ∷ with_flight f fs) ≡ going_to B (g ∷ fs)
      by true rest = ap (λ s. cond (same_side s B) (f ∷ going_to B (g ∷ fs)) (going_to B (g ∷ fs))) to
      by false rest = ap (λ more. cond (same_side g.to B) (g ∷ more) more) rest

  all_more : (number : ℕ) (carried : C) (ticks : List ℕ) (fs : List (Flight C)) → going_to B (with_flights A number carried ticks fs) ≡ going_to B fs
  all_more number carried [] fs = refl
  all_more number carried (tick ∷ ticks) fs =
      let f : Flight C = record { tick = tick; to = A; number = number; carried = carried } in
      all_more number carried ticks (with_flight f fs) ∙ one_more f fs refl

  pub sent_by_b : (strip alter : Side → C → C) (carried : C) (size now : ℕ) (link : LinkState C) → going_to B (after_send strip alter B carried size now link).under_way ≡ going_to B link.under_way
  sent_by_b strip alter carried size now link = all_more (next_number B link) _ (arrivals (fate_at B (next_number B link) size now link) (first_arrival B (next_number B link) size now link)) link.under_way

  -- ---- the first one arrives

  pub due_now : (f : Flight C) → is_due (due_of f) f ≡ true
  due_now f = ap (λ b. b && (same_side f.to f.to && f.number == f.number)) (eq-eqb f.tick f.tick refl) ∙ ap (λ b. b && f.number == f.number) (same_itself f.to) ∙ eq-eqb f.number f.number refl

  pub first_leaves : (f : Flight C) (fs : List (Flight C)) (link : LinkState C) → link.under_way ≡ f ∷ fs → (after_delivery (due_of f) link).under_way ≡ fs
  first_leaves f fs link is =
      ap (λ xs. without (position (is_due (due_of f)) xs) xs) is ∙ without_first (is_due (due_of f)) f fs
      ∙ ap (λ b. if b then fs else f ∷ without (position (is_due (due_of f)) fs) fs) (due_now f)

  pub first_found : (f : Flight C) (fs : List (Flight C)) (link : LinkState C) → link.under_way ≡ f ∷ fs → arriving (due_of f) link ≡ Some f
  first_found f fs link is = ap (λ xs. find (is_due (due_of f)) xs) is ∙ ap (λ b. if b then Some f else find (is_due (due_of f)) fs) (due_now f)

  -- the copy that comes next is the first that is under way
  pub record IsFirstOf (due : Due) (flights : List (Flight C)) : Type 0 where
    pub first : Flight C
    pub others : List (Flight C)
    pub flights_are : flights ≡ first ∷ others
    pub due_is : due ≡ due_of first

  module _ (p : PathState C) where
    abbrev ComesFirst : Event → Type 0
    ComesFirst (happenings.Arrives due) = IsFirstOf due p.link.under_way
    ComesFirst _ = Unit {0}

    earlier_first : (x y : Option Event) → IfSome x ComesFirst → IfSome y ComesFirst → IfSome (earlier x y) ComesFirst
    earlier_first None y one other = other
    earlier_first (Some x) None one other = one
    earlier_first (Some x) (Some y) one other = elim (nat_le (tick_of x) (tick_of y)) as (λ b. IfSome (if b then Some x else Some y) ComesFirst) [ true ↦ one | false ↦ other ]

    join_first : (state : State) (o : Option ℕ) → IfSome (next_join state o) ComesFirst
    join_first state None = tt
    join_first state (Some tick) = elim (is_waiting state) as (λ b. IfSome (if b then Some (happenings.Joins tick) else None) ComesFirst) [ true ↦ tt | false ↦ tt ]

    line_first : (lines : List LineLeft) → IfSome (next_line lines) ComesFirst
    line_first [] = tt
    line_first (line ∷ lines) = tt

    copy_first : (flights : List (Flight C)) → p.link.under_way ≡ flights → IfSome (next_copy (next_due flights)) ComesFirst
    copy_first [] is = tt
    copy_first (f ∷ fs) is = record { first = f; others = fs; flights_are = is; due_is = refl }

    fire_first : (s : Side) (o : Option ℕ) → IfSome (next_fire s o) ComesFirst
    fire_first s None = tt
    fire_first s (Some tick) = tt

    soon_first : (until : ℕ) (o : Option Event) → IfSome o ComesFirst → IfSome (option_and_then (before until) o) ComesFirst
    soon_first until None h = tt
    soon_first until (Some event) h = elim (nat_lt (tick_of event) until) as (λ b. IfSome (if b then Some event else None) ComesFirst) [ true ↦ h | false ↦ tt ]

    pub comes_first : (due : Due) → next_event p ≡ Some (happenings.Arrives due) → IsFirstOf due p.link.under_way
    comes_first due is = subst (λ o. IfSome o ComesFirst) is (soon_first p.until (earliest p)
        (earlier_first (next_join p.a.tcp.state p.joined_at) _ (join_first p.a.tcp.state p.joined_at)
        (earlier_first (next_line p.lines) _ (line_first p.lines)
        (earlier_first (next_copy (next_due p.link.under_way)) _ (copy_first p.link.under_way refl)
        (earlier_first (next_fire A p.a.tcp.timing.timer) (next_fire B p.b.tcp.timing.timer) (fire_first A p.a.tcp.timing.timer) (fire_first B p.b.tcp.timing.timer))))))

  -- ---- their order

  -- No line moves one of A's first eight segments. Until the ninth goes each copy to B was sent before the next segment of A's, and comes no later than one
  -- sent at this tick.
  pub record IsQueued (now : ℕ) (link : LinkState C) : Type 0 where
    pub lines : FirstStay link.lines
    pub order : AreInOrder link.under_way
    pub sent : next_number A link ≤ 9 → WereSentBefore (next_number A link) (now + link.delay) (going_to B link.under_way)
    pub delay : link.delay ≤ 400

  pub queued_later : (now more : ℕ) (link : LinkState C) → now ≤ more → IsQueued now link → IsQueued more link
  queued_later now more link up h = record {
    lines = h.lines;
    order = h.order;
    sent = λ few. still_before (next_number A link) (next_number A link) (now + link.delay) (more + link.delay) (going_to B link.under_way) (le_refl (next_number A link)) (omega (arith, up)) (h.sent few);
    delay = h.delay;
  }

  behind_first : (number tick : ℕ) (f : Flight C) (fs : List (Flight C)) → WereSentBefore number tick (going_to B (f ∷ fs)) → WereSentBefore number tick (going_to B fs)
  behind_first number tick f fs = elim (same_side f.to B) as (λ b. WereSentBefore number tick (cond b (f ∷ going_to B fs) (going_to B fs)) → WereSentBefore number tick (going_to B fs))
      [ true ↦ λ h. h.1 | false ↦ λ h. h ]

  delivered_queued : (now : ℕ) (due : Due) (link : LinkState C) → IsFirstOf due link.under_way → IsQueued now link → IsQueued now (after_delivery due link)
  delivered_queued now due link x h = record {
    lines = h.lines;
    order = in_order_delivered due link h.order;
    sent = λ few. subst (WereSentBefore (next_number A link) (now + link.delay))
        (sym (ap (λ fs. going_to B fs) (ap (λ d. (after_delivery d link).under_way) x.due_is ∙ first_leaves x.first x.others link x.flights_are)))
        (behind_first (next_number A link) (now + link.delay) x.first x.others (subst (λ fs. WereSentBefore (next_number A link) (now + link.delay) (going_to B fs)) x.flights_are (h.sent few)));
    delay = h.delay;
  }

  sent_queued : (strip alter : Side → C → C) (s : Side) (carried : C) (size now : ℕ) (link : LinkState C) → IsQueued now link → IsQueued now (after_send strip alter s carried size now link)
  sent_queued strip alter A carried size now link h = record {
    lines = h.lines;
    order = in_order_sent strip alter A carried size now link h.order;
    sent = λ few. (let low : next_number A link ≤ 8 = omega (arith, few) in
        subst (WereSentBefore (counted (next_number A link)) (now + link.delay)) (sym (goes_last_first strip alter carried size now link h.lines low h.order (h.sent (omega (arith, low)))))
        (all_push _ _ (plain_flight strip alter A carried now link)
        (still_before (next_number A link) (counted (next_number A link)) (now + link.delay) (now + link.delay) _ (counts_on link.from_a) (le_refl (now + link.delay)) (h.sent (omega (arith, low)))) (le_refl (now + link.delay), counts_on link.from_a)));
    delay = h.delay;
  }
  sent_queued strip alter B carried size now link h = record {
    lines = h.lines;
    order = in_order_sent strip alter B carried size now link h.order;
    sent = λ few. subst (WereSentBefore (next_number A link) (now + link.delay)) (sym (sent_by_b strip alter carried size now link)) (h.sent few);
    delay = h.delay;
  }

  pub step_queued : {d : Duty} (k : Codec C) (p q : PathState C) → LinkStep d k p q → p.clock ≤ q.clock → IsQueued p.clock p.link → IsQueued q.clock q.link
  step_queued k p q step up h = queued_later p.clock q.clock q.link up (by step)
    where
      by : {d : Duty} → LinkStep d k p q → IsQueued p.clock q.link
      by (stays is) = subst (IsQueued p.clock) (sym is) h
      by (hands s carried size still is) = subst (IsQueued p.clock) (sym is) (sent_queued (k.strips p.profile.spelling) (k.alters p.profile.spelling) s carried size p.clock p.link h)
      by (delivers event due next is) = subst (IsQueued p.clock) (sym is) (delivered_queued p.clock due p.link (comes_first p due next) h)
      by (is_cut line next action is dead) = subst (IsQueued p.clock) (sym is) (record { lines = h.lines; order = tt; sent = λ few. tt; delay = h.delay })

-- ---- a copy that stays ahead

-- two copies to B of which the second was sent later, and comes no earlier
sent_behind : {C : Type 0} (k f : Flight C) → k.to ≡ f.to → k.tick ≤ f.tick → k.number ≤ f.number → comes_before f k ≡ false
sent_behind k f to tick number = behind_is k.tick (rank k.to) k.number f.tick (rank f.to) f.number tick (ap rank to) number

module _ {C : Type 0} (First Bare : Flight C → Type 0) where
  -- The first of these copies stands before any that isn't bare, and all up to it come by this tick, with no greater numbers.
  abbrev pub StandsAhead : ℕ → ℕ → List (Flight C) → Type 0
  StandsAhead number tick [] = ⊥
  StandsAhead number tick (f ∷ fs) = ((f.tick ≤ tick) × (f.number ≤ number)) × (First f ⊎ (Bare f × StandsAhead number tick fs))

  pub ahead_later : (number more tick later : ℕ) (fs : List (Flight C)) → number ≤ more → tick ≤ later → StandsAhead number tick fs → StandsAhead more later fs
  ahead_later number more tick later [] n t h = h
  ahead_later number more tick later (f ∷ fs) n t h =
      let by = h.0.0 in let low = h.0.1 in
      ((omega (arith, by, t), omega (arith, low, n)), ⊎_elim (λ first. inl first) (λ rest. inr (rest.0, ahead_later number more tick later fs n t rest.1)) h.1)

  module _ (number tick : ℕ) (f : Flight C) (to : f.to ≡ B) (late : tick ≤ f.tick) (more : number ≤ f.number) where
    never_first : (flights : List (Flight C)) → IsBefore f flights → StandsAhead number tick (going_to B flights) → ⊥
    never_first [] before h = h
    never_first (k ∷ ks) before h = by (same_side k.to B) refl h (λ rest. never_first ks before.1 rest)
      where
        by : (b : Bool) → same_side k.to B ≡ b → StandsAhead number tick (cond b (k ∷ going_to B ks) (going_to B ks)) → (StandsAhead number tick (going_to B ks) → ⊥) → ⊥
        by true is h rest = true≢false (sym before.0 ∙ sent_behind k f (side_is k.to B is ∙ sym to) (let by = h.0.0 in omega (arith, by, late)) (let low = h.0.1 in omega (arith, low, more)))
        by false is h rest = rest h

    ahead_with : (flights : List (Flight C)) → AreInOrder flights → StandsAhead number tick (going_to B flights) → StandsAhead number tick (going_to B (with_flight f flights))
    ahead_with [] order h = absurd h
    ahead_with (g ∷ flights) order h = by (comes_before f g) refl (λ rest. ahead_with flights order.1 rest)
      where
        kept : (b : Bool) → StandsAhead number tick (cond b (g ∷ going_to B flights) (going_to B flights)) → (StandsAhead number tick (going_to B flights) → StandsAhead number tick (going_to B (with_flight f flights)))
            → StandsAhead number tick (cond b (g ∷ going_to B (with_flight f flights)) (going_to B (with_flight f flights)))
        kept true h rest = (h.0, ⊎_elim (λ first. inl first) (λ others. inr (others.0, rest others.1)) h.1)
        kept false h rest = rest h

        by : (b : Bool) → comes_before f g ≡ b → (StandsAhead number tick (going_to B flights) → StandsAhead number tick (going_to B (with_flight f flights)))
            → StandsAhead number tick (going_to B (if b then f ∷ g ∷ flights else g ∷ with_flight f flights))
        by true first rest = absurd (never_first (g ∷ flights) (first, before_all f g flights first order.0) h)
        by false later rest = kept (same_side g.to B) h rest

  ahead_all : (number tick at : ℕ) (carried : C) (ticks : List ℕ) (flights : List (Flight C)) → number ≤ at → AllByRecursion (λ n. tick ≤ n) ticks → AreInOrder flights
      → StandsAhead number tick (going_to B flights) → StandsAhead number tick (going_to B (with_flights B at carried ticks flights))
  ahead_all number tick at carried [] flights more late order h = h
  ahead_all number tick at carried (n ∷ ticks) flights more late order h =
      let f : Flight C = record { tick = n; to = B; number = at; carried = carried } in
      ahead_all number tick at carried ticks (with_flight f flights) more late.1 (in_order_with f flights order) (ahead_with number tick f refl late.0 more flights order h)

  arrivals_late : (fate : Fate) (tick : ℕ) → AllByRecursion (λ n. tick ≤ n) (arrivals fate tick)
  arrivals_late Fate.OnTime tick = (le_refl tick, tt)
  arrivals_late Fate.Lost tick = tt
  arrivals_late Fate.Full tick = tt
  arrivals_late (Fate.Late ticks) tick = (omega arith, tt)
  arrivals_late (Fate.Twice ticks) tick = (le_refl tick, (omega arith, tt))

  -- still ahead as A sends one more, whatever becomes of that
  pub ahead_sent : (strip alter : Side → C → C) (carried : C) (size now : ℕ) (link : LinkState C) → FirstStay link.lines → AreInOrder link.under_way
      → StandsAhead (next_number A link) (now + link.delay) (going_to B link.under_way)
      → StandsAhead (next_number A link) (now + link.delay) (going_to B (after_send strip alter A carried size now link).under_way)
  ahead_sent strip alter carried size now link stay order h =
      ahead_all (next_number A link) (now + link.delay) (next_number A link) _ _ link.under_way (le_refl (next_number A link))
      (subst (λ n. AllByRecursion (λ m. n ≤ m) (arrivals (fate_at A (next_number A link) size now link) (first_arrival A (next_number A link) size now link))) (comes_at_once (next_number A link) size now link stay)
      (arrivals_late (fate_at A (next_number A link) size now link) (first_arrival A (next_number A link) size now link))) order h

  -- where all come so
  pub ahead_of_all : (number tick : ℕ) (fs : List (Flight C)) (Stands : List (Flight C) → Type 0) → (Stands [] → ⊥) → ((f : Flight C) (gs : List (Flight C)) → Stands (f ∷ gs) → First f ⊎ (Bare f × Stands gs))
      → WereSentBefore number tick fs → Stands fs → StandsAhead number tick fs
  ahead_of_all number tick [] Stands none some sent h = none h
  ahead_of_all number tick (f ∷ fs) Stands none some sent h = (sent.0, ⊎_elim (λ first. inl first) (λ rest. inr (rest.0, ahead_of_all number tick fs Stands none some sent.1 rest.1)) (some f fs h))
