-- A direction whose segments are neither late nor repeated: its copies are in the order of sending, whatever its rate is.
use Rattle.std.proofs.Common.{◌≡◌, ◌∙◌, refl, sym, ap, ℕ, ◌+◌, ◌-◌, ◌≤◌, ◌⊎◌, inl, inr, Bool, true, false, ◌||◌, cond, List, [], ◌∷◌, ◌++◌, Option, Some, None, subst, arith}
use Rattle.std.specs.Prelude.{fold}
use Rattle.std.specs.List.{AllByRecursion}
use Rattle.std.proofs.lemmas.Bool.{false≢true}
use Rattle.std.proofs.lemmas.List.{append-nil}
use Rattle.key_material.specs.Drawing.{drawn_word}
use Rattle.key_material.proofs.Bounds.{drawn_word_below}
use Rattle.sides.specs.declared.side.Side.{Side}
use Rattle.sides.specs.declared.side.Side.TheVariants.{A, B}
use Rattle.sides.specs.Side.{peer}
use Rattle.link_script.specs.declared.script.Happens.TheVariants.{Lost, Late, Again, Stripped, Altered}
use Rattle.link_script.specs.declared.script.Impairment.{Impairment}
use Rattle.link_script.specs.declared.script.ScriptLine.{ScriptLine}
use Rattle.link_script.specs.declared.script.ScriptLine.TheVariants.{OnSegment, OnDirection}
use Rattle.link_script.specs.Places.{same_side}
use Rattle.link_model.specs.declared.fate.Fate.{Fate}
use Rattle.link_model.specs.declared.flight.Flight.{Flight}
use Rattle.link_model.specs.declared.passage.Shape.{Shape}
use Rattle.link_model.specs.declared.passage.Waiting.{Waiting}
use Rattle.link_model.specs.Bounds.{HasRate}
use Rattle.link_model.specs.Fate.{is_named, told_if, told_or, fate_told, fate_of, is_stripped, is_altered}
use Rattle.link_model.specs.Laws.{delays, going_to, WereSentBefore, free_at, AreFirst}
use Rattle.link_model.specs.Order.{AreInOrder}
use Rattle.link_model.specs.Passage.{plain_shape, with_impairment, shaped_by, shape_of, loss_stream, jitter_stream, is_drawn, ticks_drawn, ticks_queued}
use Rattle.link_model.specs.State.{LinkState}
use Rattle.link_model.specs.Steps.{with_flight, with_flights, arrivals, changed, counted, segments_sent, next_number, is_lost, rate_of, waiting_of, is_lost_at_once, is_refused, fate_at, waiting_with, waiting_after, first_arrival, after_send}
use Rattle.link_model.proofs.Plain.{goes_last, still_before, all_push, counts_on, none_waited, told_nothing}
use Rattle.link_model.proofs.Waits.{ticks_behind, more_wait_longer, later_behind, later_behind_it}

-- ---- what no line delays

-- a segment is on time, or lost
abbrev IsPlain : Fate → Type 0
IsPlain f = (f ≡ Fate.OnTime) ⊎ (f ≡ Fate.Lost)

plain_or : (named : Bool) (told : Option Fate) (other : Fate) → (told ≡ None) ⊎ (told ≡ Some Fate.Lost) → IsPlain other → IsPlain (told_or (told_if named told) other)
plain_or false told other t h = h
plain_or true told other (inl none) h = subst (λ (o : Option Fate). IsPlain (told_or o other)) (sym none) h
plain_or true told other (inr lost) h = subst (λ (o : Option Fate). IsPlain (told_or o other)) (sym lost) (inr refl)

plain_line : (from : Side) (number : ℕ) (line : ScriptLine) (other : Fate) → delays from line ≡ false → IsPlain other → IsPlain (told_or (fate_told from number line) other)
plain_line from number (OnSegment s Lost) other e h = plain_or (is_named from number s) (Some Fate.Lost) other (inr refl) h
plain_line from number (OnSegment s (Late ticks)) other e h = subst (λ (o : Option Fate). IsPlain (told_or o other)) (sym (told_nothing (same_side s.from from) _ (Some (Fate.Late ticks)) e)) h
plain_line from number (OnSegment s (Again ticks)) other e h = subst (λ (o : Option Fate). IsPlain (told_or o other)) (sym (told_nothing (same_side s.from from) _ (Some (Fate.Twice ticks)) e)) h
plain_line from number (OnSegment s Stripped) other e h = plain_or (is_named from number s) None other (inl refl) h
plain_line from number (OnSegment s Altered) other e h = plain_or (is_named from number s) None other (inl refl) h
plain_line from number line other e h = h

plain_told : (from : Side) (number : ℕ) (lines : List ScriptLine) → AllByRecursion (λ line. delays from line ≡ false) lines → IsPlain (fate_of from number lines)
plain_told from number [] plain = inl refl
plain_told from number (line ∷ lines) plain = plain_line from number line (fate_of from number lines) plain.0 (plain_told from number lines plain.1)

same_jitter : (from : Side) (shape : Shape) (line : ScriptLine) → delays from line ≡ false → (shaped_by from shape line).jitter ≡ shape.jitter
same_jitter from shape (OnDirection d (Impairment.Rate octets queue)) e = by (same_side d.from from)
  where
    by : (b : Bool) → (cond b (with_impairment (Impairment.Rate octets queue) shape) shape).jitter ≡ shape.jitter
    by true = refl
    by false = refl
same_jitter from shape (OnDirection d (Impairment.Loss parts)) e = by (same_side d.from from)
  where
    by : (b : Bool) → (cond b (with_impairment (Impairment.Loss parts) shape) shape).jitter ≡ shape.jitter
    by true = refl
    by false = refl
same_jitter from shape (OnDirection d (Impairment.Jitter ticks)) e = ap (λ (b : Bool). (cond b (with_impairment (Impairment.Jitter ticks) shape) shape).jitter) e
same_jitter from shape line e = refl

no_jitter : (from : Side) (shape : Shape) (lines : List ScriptLine) → AllByRecursion (λ line. delays from line ≡ false) lines → (fold (shaped_by from) shape lines).jitter ≡ shape.jitter
no_jitter from shape [] plain = refl
no_jitter from shape (line ∷ lines) plain = no_jitter from (shaped_by from shape line) lines plain.1 ∙ same_jitter from shape line plain.0

-- ---- a segment that is sent

module _ {C : Type 0} (strip alter : Side → C → C) (from : Side) (carried : C) (length now : ℕ) (link : LinkState C)
    (is : HasRate (rate_of from link)) (plain : AllByRecursion (λ line. delays from line ≡ false) link.lines) where
  abbrev pub number : ℕ
  number = next_number from link

  abbrev pub arriving : C
  arriving = changed (strip from) (alter from) (is_stripped from number now link.lines) (is_altered from number link.lines) carried

  -- the copies behind which it goes
  abbrev pub others : List (Flight C)
  others = going_to (peer from) link.under_way

  abbrev pub waits : Waiting
  waits = waiting_after from number length now link

  arrival : first_arrival from number length now link ≡ now + link.delay + ticks_queued (rate_of from link) waits
  arrival =
      let word = drawn_word link.seed (jitter_stream link.path from) (number - 1) in
      let none = ap (λ (ticks : ℕ). ticks_drawn ticks word) (no_jitter from plain_shape link.lines plain) in
      omega (arith, none, none_waited word (drawn_word_below link.seed (jitter_stream link.path from) (number - 1)))

  -- its copy, where it has one
  abbrev pub one : Flight C
  one = record { tick = first_arrival from number length now link; to = peer from; number = number; carried = arriving }

  counts_up : number ≤ counted number
  counts_up = counts_on (segments_sent from link)

  -- nothing is sent and nothing more waits, or one copy is that waits behind the others
  abbrev IsSent : List (Flight C) → Waiting → Type 0
  IsSent flights w =
      ((flights ≡ link.under_way) × (w ≡ waiting_of from link)) ⊎ ((flights ≡ with_flight one link.under_way) × (w ≡ waiting_with from length now link))

  by_fate : (f : Fate) (lost refused : Bool) → IsPlain f → (f ≡ Fate.Lost → lost ≡ true)
      → IsSent (with_flights (peer from) number arriving (arrivals (cond lost Fate.Lost (cond refused Fate.Full f)) (first_arrival from number length now link)) link.under_way)
      (cond lost (waiting_of from link) (cond refused (waiting_of from link) (waiting_with from length now link)))
  by_fate f true refused h known = inl (refl, refl)
  by_fate f false true h known = inl (refl, refl)
  by_fate f false false (inl on) known =
      subst (λ (g : Fate). IsSent (with_flights (peer from) number arriving (arrivals g (first_arrival from number length now link)) link.under_way) (waiting_with from length now link)) (sym on) (inr (refl, refl))
  by_fate f false false (inr gone) known = absurd (false≢true (known gone))

  abbrev pub flights : List (Flight C)
  flights = with_flights (peer from) number arriving (arrivals (fate_at from number length now link) (first_arrival from number length now link)) link.under_way

  sent : IsSent flights waits
  sent =
      by_fate (fate_of from number link.lines) (is_lost_at_once from number link) (is_refused from length now link) (plain_told from number link.lines plain)
      (λ lost. ap (λ (f : Fate). is_lost f || is_drawn (shape_of from link.lines).loss (drawn_word link.seed (loss_stream link.path from) (number - 1))) lost)

  -- a segment goes behind the others of its direction where it waits
  one_behind : AreInOrder link.under_way → WereSentBefore number (free_at from now link) others → waits ≡ waiting_with from length now link
      → (going_to (peer from) (with_flight one link.under_way) ≡ others ++ one ∷ []) × (free_at from now link ≤ one.tick)
  one_behind order before w =
      let longer = more_wait_longer (rate_of from link) now (length + 20) (waiting_of from link) is in
      let here = ap (ticks_queued (rate_of from link)) w in
      let late : free_at from now link ≤ one.tick = omega (arith, longer, here, arrival) in
      (goes_last one link.under_way order (still_before number number (free_at from now link) one.tick others (omega arith) late before), late)

  pub stands_behind : AreInOrder link.under_way → WereSentBefore number (free_at from now link) others → AreFirst others (going_to (peer from) flights)
  stands_behind order before = by sent
    where
      by : IsSent flights waits → AreFirst others (going_to (peer from) flights)
      by (inl none) = ([], ap (going_to (peer from)) none.0 ∙ sym (append-nil others))
      by (inr some) = (one ∷ [], ap (going_to (peer from)) some.0 ∙ (one_behind order before some.1).0)

  -- behind what waits after it, the next one comes no earlier
  pub comes_after : (later : ℕ) → now ≤ later → AreInOrder link.under_way → WereSentBefore number (free_at from now link) others
      → WereSentBefore (counted number) (later + link.delay + ticks_behind (rate_of from link) later waits) (going_to (peer from) flights)
  comes_after later le order before = by sent
    where
      end : ℕ
      end = later + link.delay + ticks_behind (rate_of from link) later waits

      by : IsSent flights waits → WereSentBefore (counted number) end (going_to (peer from) flights)
      by (inl none) =
          let longer = later_behind (rate_of from link) now later (waiting_of from link) is le in
          let here = ap (ticks_behind (rate_of from link) later) none.1 in
          subst (WereSentBefore (counted number) end) (sym (ap (going_to (peer from)) none.0))
          (still_before number (counted number) (free_at from now link) end others (counts_up) (omega (arith, longer, here)) before)
      by (inr some) =
          let goes = one_behind order before some.1 in
          let longer = later_behind_it (rate_of from link) now later (length + 20) (waiting_of from link) is le in
          let here = ap (ticks_behind (rate_of from link) later) some.1 in
          let there = ap (ticks_queued (rate_of from link)) some.1 in
          let soon : one.tick ≤ end = omega (arith, longer, here, there, arrival) in
          subst (WereSentBefore (counted number) end) (sym (ap (going_to (peer from)) some.0 ∙ goes.0))
          (all_push _ others one (still_before number (counted number) (free_at from now link) end others (counts_up) (omega (arith, soon, goes.1)) before) (soon, counts_up))

pub sent_behind : {C : Type 0} (strip alter : Side → C → C) (from : Side) (carried : C) (length now : ℕ) (link : LinkState C) → HasRate (rate_of from link)
    → AllByRecursion (λ line. delays from line ≡ false) link.lines → AreInOrder link.under_way → WereSentBefore (next_number from link) (free_at from now link) (going_to (peer from) link.under_way)
    → AreFirst (going_to (peer from) link.under_way) (going_to (peer from) (after_send strip alter from carried length now link).under_way)
sent_behind strip alter A carried length now link is plain order before = stands_behind strip alter A carried length now link is plain order before
sent_behind strip alter B carried length now link is plain order before = stands_behind strip alter B carried length now link is plain order before

pub sent_after : {C : Type 0} (strip alter : Side → C → C) (from : Side) (carried : C) (length now later : ℕ) (link : LinkState C) → HasRate (rate_of from link)
    → AllByRecursion (λ line. delays from line ≡ false) link.lines → AreInOrder link.under_way → now ≤ later
    → WereSentBefore (next_number from link) (free_at from now link) (going_to (peer from) link.under_way)
    → WereSentBefore (next_number from (after_send strip alter from carried length now link)) (free_at from later (after_send strip alter from carried length now link))
    (going_to (peer from) (after_send strip alter from carried length now link).under_way)
sent_after strip alter A carried length now later link is plain order le before = comes_after strip alter A carried length now link is plain later le order before
sent_after strip alter B carried length now later link is plain order le before = comes_after strip alter B carried length now link is plain later le order before
