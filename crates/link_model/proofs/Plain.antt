-- A direction of which no line speaks: its copies are in order of sending, each due a delay after it was sent.
use Rattle.std.proofs.Common.{◌≡◌, ◌∙◌, refl, sym, ap, ℕ, ◌+◌, ◌<◌, ◌≤◌, Bool, true, false, ◌&&◌, cond, List, [], ◌∷◌, ◌++◌, Option, Some, None, subst, arith}
use Rattle.std.specs.Prelude.{◌*◌, ◌-◌, ◌^◌, fold}
use Rattle.std.specs.List.{AllByRecursion}
use Rattle.std.proofs.lemmas.Bool.{le-ltb, or_from}
use Rattle.key_material.specs.Drawing.{drawn_word}
use Rattle.key_material.proofs.Bounds.{drawn_word_below}
use Rattle.sides.specs.declared.side.Side.{Side}
use Rattle.sides.specs.declared.side.Side.TheVariants.{A, B}
use Rattle.sides.specs.Side.{peer}
use Rattle.link_script.specs.declared.script.Happens.TheVariants.{Lost, Late, Again, Stripped, Altered}
use Rattle.link_script.specs.declared.script.ScriptLine.{ScriptLine}
use Rattle.link_script.specs.declared.script.ScriptLine.TheVariants.{OnSegment, OnDirection}
use Rattle.link_script.specs.Places.{same_side}
use Rattle.link_model.specs.declared.fate.Fate.{Fate}
use Rattle.link_model.specs.declared.flight.Flight.{Flight}
use Rattle.link_model.specs.declared.passage.Shape.{Shape}
use Rattle.link_model.specs.Passage.{plain_shape, with_impairment, shaped_by, shape_of, loss_stream, jitter_stream, is_drawn, ticks_drawn, is_full, ticks_queued}
use Rattle.link_model.specs.Fate.{is_named, fate_told, told_if, told_or, fate_of}
use Rattle.link_model.specs.State.{LinkState}
use Rattle.link_model.specs.Steps.{rank, comes_before, with_flight, counted, next_number, waiting_of, is_lost, is_lost_by_chance, is_lost_at_once, is_refused, fate_at, waiting_after, first_arrival, after_send}
use Rattle.link_model.specs.Order.{IsFirst, AreInOrder}
use Rattle.link_model.specs.Laws.{moves, going_to, WereSentBefore, plain_flight}
use Rattle.link_model.proofs.Order.{before_behind, behind_is}

pub told_nothing : (b named : Bool) (told : Option Fate) → b ≡ false → told_if (b && named) told ≡ None
told_nothing b named told e = ap (λ (t : Bool). told_if (t && named) told) e

pub nothing_told : (named : Bool) → told_if named None ≡ None
nothing_told = elim [ true ↦ refl | false ↦ refl ]

none_told : (from : Side) (number : ℕ) (line : ScriptLine) → moves from line ≡ false → fate_told from number line ≡ None
none_told from number (OnSegment s Lost) e = told_nothing (same_side s.from from) _ (Some Fate.Lost) e
none_told from number (OnSegment s (Late ticks)) e = told_nothing (same_side s.from from) _ (Some (Fate.Late ticks)) e
none_told from number (OnSegment s (Again ticks)) e = told_nothing (same_side s.from from) _ (Some (Fate.Twice ticks)) e
none_told from number (OnSegment s Stripped) e = nothing_told (is_named from number s)
none_told from number (OnSegment s Altered) e = nothing_told (is_named from number s)
none_told from number line e = refl

pub comes_on_time : (from : Side) (number : ℕ) (lines : List ScriptLine) → AllByRecursion (λ line. moves from line ≡ false) lines → fate_of from number lines ≡ Fate.OnTime
comes_on_time from number [] plain = refl
comes_on_time from number (line ∷ lines) plain =
    ap (λ (t : Option Fate). told_or t (fate_of from number lines)) (none_told from number line plain.0) ∙ comes_on_time from number lines plain.1

-- lines that don't speak of a direction give it no shape
no_line : (from : Side) (shape : Shape) (line : ScriptLine) → moves from line ≡ false → shaped_by from shape line ≡ shape
no_line from shape (OnDirection d impairment) e = ap (λ (b : Bool). cond b (with_impairment impairment shape) shape) e
no_line from shape line e = refl

no_shape : (from : Side) (shape : Shape) (lines : List ScriptLine) → AllByRecursion (λ line. moves from line ≡ false) lines → fold (shaped_by from) shape lines ≡ shape
no_shape from shape [] plain = refl
no_shape from shape (line ∷ lines) plain =
    ap (λ (s : Shape). fold (shaped_by from) s lines) (no_line from shape line plain.0) ∙ no_shape from shape lines plain.1

none_drawn : (word : ℕ) → is_drawn 0 word ≡ false
none_drawn word = le-ltb (word * 1000000) 0 (omega arith)

pub none_waited : (word : ℕ) → word < 2 ^ 32 → ticks_drawn 0 word ≡ 0
none_waited word low = omega (arith, low)

-- a direction without a rate, loss and jitter
module _ {C : Type 0} (from : Side) (number length now : ℕ) (link : LinkState C) (shape : shape_of from link.lines ≡ plain_shape) where
  pub not_by_chance : is_lost_by_chance from number link ≡ false
  not_by_chance =
      let word = drawn_word link.seed (loss_stream link.path from) (number - 1) in
      ap (λ (s : Shape). is_drawn s.loss word) shape ∙ none_drawn word

  pub not_refused : is_refused from length now link ≡ false
  not_refused = ap (λ (s : Shape). is_full s.rate now (length + 20) (waiting_of from link)) shape

  pub at_once : first_arrival from number length now link ≡ now + link.delay
  at_once =
      let word = drawn_word link.seed (jitter_stream link.path from) (number - 1) in
      let waits = ap (λ (s : Shape). ticks_queued s.rate (waiting_after from number length now link) + ticks_drawn s.jitter word) shape in
      omega (arith, waits, none_waited word (drawn_word_below link.seed (jitter_stream link.path from) (number - 1)))

module _ {C : Type 0} (from : Side) (number length now : ℕ) (link : LinkState C) (plain : AllByRecursion (λ line. moves from line ≡ false) link.lines) where
  shape : shape_of from link.lines ≡ plain_shape
  shape = no_shape from plain_shape link.lines plain

  told : fate_of from number link.lines ≡ Fate.OnTime
  told = comes_on_time from number link.lines plain

  not_lost : is_lost_at_once from number link ≡ false
  not_lost = or_from _ _ (ap is_lost told) (not_by_chance from number length now link shape)

  pub plain_fate : fate_at from number length now link ≡ Fate.OnTime
  plain_fate =
      ap (λ (b : Bool). cond b Fate.Lost (cond (is_refused from length now link) Fate.Full (fate_of from number link.lines))) not_lost
      ∙ ap (λ (b : Bool). cond b Fate.Full (fate_of from number link.lines)) (not_refused from number length now link shape) ∙ told

  pub plain_arrival : first_arrival from number length now link ≡ now + link.delay
  plain_arrival = at_once from number length now link shape

pub side_is : (a b : Side) → same_side a b ≡ true → a ≡ b
side_is A A e = refl
side_is B B e = refl
side_is A B e = absurd cc
side_is B A e = absurd cc

pub same_as_itself : (a : Side) → same_side a a ≡ true
same_as_itself = elim [ A ↦ refl | B ↦ refl ]

-- a copy that goes where those went which were sent before arrives before none of them
sent_behind : {C : Type 0} (k f : Flight C) → k.to ≡ f.to → k.tick ≤ f.tick → k.number ≤ f.number → comes_before f k ≡ false
sent_behind k f to tick number = behind_is k.tick (rank k.to) k.number f.tick (rank f.to) f.number tick (ap rank to) number

-- a copy arrives before each of these
abbrev pub IsBefore : {C : Type 0} → Flight C → List (Flight C) → Type 0
IsBefore f flights = AllByRecursion (λ k. comes_before f k ≡ true) flights

pub before_all : {C : Type 0} (f g : Flight C) (flights : List (Flight C)) → comes_before f g ≡ true → IsFirst g flights → IsBefore f flights
before_all f g [] low first = tt
before_all f g (k ∷ flights) low first = (before_behind f g k low first.0, before_all f g flights low first.1)

none_going : {C : Type 0} (f : Flight C) (flights : List (Flight C)) → IsBefore f flights → WereSentBefore f.number f.tick (going_to f.to flights) → going_to f.to flights ≡ []
none_going f [] first sent = refl
none_going f (k ∷ flights) first sent = by (same_side k.to f.to) refl sent (none_going f flights first.1)
  where
    by : (b : Bool) → same_side k.to f.to ≡ b → WereSentBefore f.number f.tick (cond b (k ∷ going_to f.to flights) (going_to f.to flights))
        → (WereSentBefore f.number f.tick (going_to f.to flights) → going_to f.to flights ≡ []) → cond b (k ∷ going_to f.to flights) (going_to f.to flights) ≡ []
    by true e sent rest =
        let earlier : true ≡ false = sym first.0 ∙ sent_behind k f (side_is k.to f.to e) sent.0.0 sent.0.1 in
        absurd cc
    by false e sent rest = rest sent

pub goes_last : {C : Type 0} (f : Flight C) (flights : List (Flight C)) → AreInOrder flights → WereSentBefore f.number f.tick (going_to f.to flights)
    → going_to f.to (with_flight f flights) ≡ going_to f.to flights ++ f ∷ []
goes_last f [] order sent = ap (λ (b : Bool). cond b (f ∷ []) []) (same_as_itself f.to)
goes_last f (g ∷ flights) order sent = by (comes_before f g) refl (same_side g.to f.to) refl (goes_last f flights order.1)
  where
    rest_sent : (b : Bool) → WereSentBefore f.number f.tick (cond b (g ∷ going_to f.to flights) (going_to f.to flights)) → WereSentBefore f.number f.tick (going_to f.to flights)
    rest_sent = elim [ true ↦ λ sent. sent.1 | false ↦ λ sent. sent ]

    more : (t : Bool) → going_to f.to (with_flight f flights) ≡ going_to f.to flights ++ f ∷ []
        → cond t (g ∷ going_to f.to (with_flight f flights)) (going_to f.to (with_flight f flights)) ≡ cond t (g ∷ going_to f.to flights) (going_to f.to flights) ++ f ∷ []
    more = elim [ true ↦ λ e. ap (λ rest. g ∷ rest) e | false ↦ λ e. e ]

    by : (b : Bool) → comes_before f g ≡ b → (t : Bool) → same_side g.to f.to ≡ t
        → (WereSentBefore f.number f.tick (going_to f.to flights) → going_to f.to (with_flight f flights) ≡ going_to f.to flights ++ f ∷ [])
        → going_to f.to (cond b (f ∷ g ∷ flights) (g ∷ with_flight f flights)) ≡ going_to f.to (g ∷ flights) ++ f ∷ []
    by true e t s rest =
        let none : going_to f.to (g ∷ flights) ≡ [] = none_going f (g ∷ flights) (e, before_all f g flights e order.0) sent in
        ap (λ (b : Bool). cond b (f ∷ going_to f.to (g ∷ flights)) (going_to f.to (g ∷ flights))) (same_as_itself f.to)
        ∙ ap (λ gs. f ∷ gs) none ∙ ap (λ gs. gs ++ f ∷ []) (sym none)
    by false e t s rest = more (same_side g.to f.to) (rest (rest_sent (same_side g.to f.to) sent))

-- the next segment of such a direction is one copy behind the others of it
pub sent_last : {C : Type 0} (strip alter : Side → C → C) (from : Side) (carried : C) (length now : ℕ) (link : LinkState C)
    → AllByRecursion (λ line. moves from line ≡ false) link.lines → AreInOrder link.under_way
    → WereSentBefore (next_number from link) (now + link.delay) (going_to (peer from) link.under_way)
    → going_to (peer from) (after_send strip alter from carried length now link).under_way
    ≡ going_to (peer from) link.under_way ++ plain_flight strip alter from carried now link ∷ []
sent_last strip alter A carried length now link plain order sent =
    rw (plain_fate A (next_number A link) length now link plain, plain_arrival A (next_number A link) length now link plain) (goes_last (plain_flight strip alter A carried now link) link.under_way order sent)
sent_last strip alter B carried length now link plain order sent =
    rw (plain_fate B (next_number B link) length now link plain, plain_arrival B (next_number B link) length now link plain) (goes_last (plain_flight strip alter B carried now link) link.under_way order sent)

pub all_push : {X : Type 0} (P : X → Type 0) (xs : List X) (x : X) → AllByRecursion P xs → P x → AllByRecursion P (xs ++ x ∷ [])
all_push P [] x all here = (here, tt)
all_push P (y ∷ xs) x all here = (all.0, all_push P xs x all.1 here)

pub still_before : {C : Type 0} (number more tick later : ℕ) (flights : List (Flight C)) → number ≤ more → tick ≤ later → WereSentBefore number tick flights → WereSentBefore more later flights
still_before number more tick later [] n t sent = tt
still_before number more tick later (f ∷ flights) n t sent =
    ((omega (arith, sent.0.0, t), omega (arith, sent.0.1, n)), still_before number more tick later flights n t sent.1)

-- the number after that isn't less
pub counts_on : (n : ℕ) → counted n ≤ counted (counted n)
counts_on n = omega arith

-- and so it goes on
pub sent_before_next : {C : Type 0} (strip alter : Side → C → C) (from : Side) (carried : C) (length now later : ℕ) (link : LinkState C)
    → AllByRecursion (λ line. moves from line ≡ false) link.lines → AreInOrder link.under_way → now ≤ later
    → WereSentBefore (next_number from link) (now + link.delay) (going_to (peer from) link.under_way)
    → WereSentBefore (next_number from (after_send strip alter from carried length now link)) (later + link.delay) (going_to (peer from) (after_send strip alter from carried length now link).under_way)
sent_before_next strip alter A carried length now later link plain order low sent =
    subst (WereSentBefore (counted (next_number A link)) (later + link.delay)) (sym (sent_last strip alter A carried length now link plain order sent))
    (all_push _ _ (plain_flight strip alter A carried now link) (still_before (next_number A link) (counted (next_number A link)) (now + link.delay) (later + link.delay) _ (counts_on link.from_a) (omega (arith, low)) sent) (omega (arith, low), counts_on link.from_a))
sent_before_next strip alter B carried length now later link plain order low sent =
    subst (WereSentBefore (counted (next_number B link)) (later + link.delay)) (sym (sent_last strip alter B carried length now link plain order sent))
    (all_push _ _ (plain_flight strip alter B carried now link) (still_before (next_number B link) (counted (next_number B link)) (now + link.delay) (later + link.delay) _ (counts_on link.from_b) (omega (arith, low)) sent) (omega (arith, low), counts_on link.from_b))
