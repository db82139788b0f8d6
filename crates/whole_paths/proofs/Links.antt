-- A segment that is sent uses a line of the script, or its direction loses it, or a copy of it comes when it is handed on.
use Rattle.std.proofs.Common.{◌≡◌, refl, sym, subst, ap, ◌∙◌, ℕ, zero, suc, ◌+◌, ◌<◌, ◌≤◌, ◌*◌, ◌^◌, ◌&&◌, ◌||◌, ◌==◌, nat_lt, Bool, true, false, if◌then◌else◌, ◌⊎◌, inl, inr, ⊎_elim, Option, Some, None, List, [], ◌∷◌, min, arith}
use Rattle.std.specs.Prelude.{◌-◌, ◌/◌, ◌%◌}
use Rattle.std.specs.Int.{div_ceil}
use Rattle.std.specs.List.{slice_get}
use Rattle.std.proofs.lemmas.Bool.{and_parts, cases_lt, eqb-true, ltb-true, ltb-false, lt-ltb, or_parts, or_from}
use Rattle.std.proofs.lemmas.Grind.{div_ceil_times}
use Rattle.std.proofs.Math.Nat.{div-zero, mod-zero, mul-le-mul_right, mul-lt-mul_of_pos_right, div-mul-le_self}
use Rattle.sides.specs.declared.side.Side.{Side}
use Rattle.sides.specs.declared.side.Side.TheVariants.{A, B}
use Rattle.key_material.specs.Drawing.{drawn_word}
use Rattle.key_material.proofs.Bounds.{drawn_word_below}
use Rattle.link_script.specs.declared.script.ScriptLine.{ScriptLine}
use Rattle.link_script.specs.declared.script.ScriptLine.TheVariants.{OnSegment}
use Rattle.link_script.specs.declared.script.Happens.TheVariants as happens
use Rattle.link_script.specs.Places.{same_side}
use Rattle.link_model.specs.declared.fate.Fate.{Fate}
use Rattle.link_model.specs.declared.fate.Fate.TheVariants as fates
use Rattle.link_model.specs.declared.flight.Flight.{Flight}
use Rattle.link_model.specs.declared.passage.Rate.{Rate}
use Rattle.link_model.specs.declared.passage.Shape.{Shape}
use Rattle.link_model.specs.declared.passage.Waiting.{Waiting}
use Rattle.link_model.specs.Fate.{fate_of, fate_told, told_if, told_or, is_named}
use Rattle.link_model.specs.Passage.{shape_of, jitter_stream, ticks_drawn, left_at, is_full, queued, ticks_queued}
use Rattle.link_model.specs.State.{LinkState}
use Rattle.link_model.specs.Steps.{comes_before, with_flight, with_flights, arrivals, next_number, is_lost, is_lost_by_chance, is_lost_at_once, is_refused, fate_by, fate_at, waiting_of, waiting_with, waiting_after, first_arrival, after_send}
use Rattle.link_model.proofs.Plain.{not_by_chance, not_refused, at_once}
use Rattle.stream_lanes.specs.Words.{Has}
use Rattle.whole_paths.specs.Harms.{is_unused, unused, harms_left, as_it_arrives, loses, full_queue_waits, longest_way, IsOnTime, EachUsesALineOrComes, PlainDirectionsHandOnAtOnce}

-- ---- lines

-- by this fate a segment is lost or late; no line on it says that a queue is full
abbrev harms : Fate → Bool
harms fates.Lost = true
harms fates.Full = true
harms (fates.Late ticks) = true
harms _ = false

not_lost : (f : Fate) → harms f ≡ false → is_lost f ≡ false
not_lost fates.Lost h = absurd cc
not_lost _ h = refl

abbrev one_if : Bool → ℕ
one_if b = if b then 1 else 0

-- a line that isn't used now wasn't before
stays_unused : (b : Bool) (count number : ℕ) → one_if (b && nat_lt (suc count) number) ≤ one_if (b && nat_lt count number)
stays_unused false count number = omega arith
stays_unused true count number = by (nat_lt (suc count) number) refl
  where
    by : (c : Bool) → nat_lt (suc count) number ≡ c → one_if c ≤ one_if (nat_lt count number)
    by true is =
        let later = ltb-true (suc count) number is in
        let before : nat_lt count number ≡ true = lt-ltb count number (omega (arith, later)) in subst (λ d. 1 ≤ one_if d) (sym before) (omega arith)
    by false is = omega arith

line_stays : (from : Side) (count : ℕ) (line : ScriptLine) → one_if (is_unused from (suc count) line) ≤ one_if (is_unused from count line)
line_stays from count (OnSegment segment happens.Lost) = stays_unused (same_side segment.from from) count segment.number
line_stays from count (OnSegment segment (happens.Late ticks)) = stays_unused (same_side segment.from from) count segment.number
line_stays from count _ = omega arith

pub fewer : (from : Side) (count : ℕ) (lines : List ScriptLine) → unused from (suc count) lines ≤ unused from count lines
fewer from count [] = omega arith
fewer from count (line ∷ lines) = let one = line_stays from count line in let rest = fewer from count lines in omega (arith, one, rest)

-- one that names the next segment is used by it
named_used : (b : Bool) (count number : ℕ) → (b && number == suc count) ≡ true → one_if (b && nat_lt (suc count) number) < one_if (b && nat_lt count number)
named_used b count number is =
    let parts = and_parts b (number == suc count) is in
    let same : number ≡ suc count = eqb-true number (suc count) parts.1 in
    subst (λ c. one_if (c && nat_lt (suc count) number) < one_if (c && nat_lt count number)) (sym parts.0)
    (subst (λ n. one_if (nat_lt (suc count) n) < one_if (nat_lt count n)) (sym same) (at_it count))
  where
    at_it : (n : ℕ) → one_if (nat_lt (suc n) (suc n)) < one_if (nat_lt n (suc n))
    at_it n = subst (λ c. one_if (nat_lt (suc n) (suc n)) < one_if c) (sym (lt-ltb n (suc n) (omega arith))) (by (nat_lt (suc n) (suc n)) refl)
      where
        by : (c : Bool) → nat_lt (suc n) (suc n) ≡ c → one_if c < 1
        by true is = let wrong = ltb-true (suc n) (suc n) is in absurd (omega (arith, wrong))
        by false is = omega arith

-- what a line tells of the next segment: nothing, or a fate; where that harms, the line is used
line_used : (from : Side) (count : ℕ) (line : ScriptLine) → (fate_told from (suc count) line ≡ None) ⊎ ((f : Fate) × (fate_told from (suc count) line ≡ Some f)
    × (harms f ≡ true → one_if (is_unused from (suc count) line) < one_if (is_unused from count line)))
line_used from count (OnSegment segment happens.Lost) = by (is_named from (suc count) segment) refl
  where
    by : (b : Bool) → is_named from (suc count) segment ≡ b → (told_if b (Some fates.Lost) ≡ None) ⊎ ((f : Fate) × (told_if b (Some fates.Lost) ≡ Some f)
        × (harms f ≡ true → one_if (is_unused from (suc count) (OnSegment segment happens.Lost)) < one_if (is_unused from count (OnSegment segment happens.Lost))))
    by true is = inr (fates.Lost, refl, λ h. named_used (same_side segment.from from) count segment.number is)
    by false is = inl refl
line_used from count (OnSegment segment (happens.Late ticks)) = by (is_named from (suc count) segment) refl
  where
    by : (b : Bool) → is_named from (suc count) segment ≡ b → (told_if b (Some (fates.Late ticks)) ≡ None) ⊎ ((f : Fate) × (told_if b (Some (fates.Late ticks)) ≡ Some f)
        × (harms f ≡ true → one_if (is_unused from (suc count) (OnSegment segment (happens.Late ticks))) < one_if (is_unused from count (OnSegment segment (happens.Late ticks)))))
    by true is = inr (fates.Late ticks, refl, λ h. named_used (same_side segment.from from) count segment.number is)
    by false is = inl refl
line_used from count (OnSegment segment (happens.Again ticks)) = by (is_named from (suc count) segment) refl
  where
    by : (b : Bool) → is_named from (suc count) segment ≡ b → (told_if b (Some (fates.Twice ticks)) ≡ None) ⊎ ((f : Fate) × (told_if b (Some (fates.Twice ticks)) ≡ Some f)
        × (harms f ≡ true → one_if (is_unused from (suc count) (OnSegment segment (happens.Again ticks))) < one_if (is_unused from count (OnSegment segment (happens.Again ticks)))))
    by true is = inr (fates.Twice ticks, refl, λ h. cc)
    by false is = inl refl
line_used from count (OnSegment segment happens.Stripped) = by (is_named from (suc count) segment)
  where
    by : (b : Bool) → (told_if b None ≡ None) ⊎ ((f : Fate) × (told_if b None ≡ Some f)
        × (harms f ≡ true → one_if (is_unused from (suc count) (OnSegment segment happens.Stripped)) < one_if (is_unused from count (OnSegment segment happens.Stripped))))
    by true = inl refl
    by false = inl refl
line_used from count (OnSegment segment happens.Altered) = by (is_named from (suc count) segment)
  where
    by : (b : Bool) → (told_if b None ≡ None) ⊎ ((f : Fate) × (told_if b None ≡ Some f)
        × (harms f ≡ true → one_if (is_unused from (suc count) (OnSegment segment happens.Altered)) < one_if (is_unused from count (OnSegment segment happens.Altered))))
    by true = inl refl
    by false = inl refl
line_used from count _ = inl refl

used : (from : Side) (count : ℕ) (lines : List ScriptLine) → harms (fate_of from (suc count) lines) ≡ true → unused from (suc count) lines < unused from count lines
used from count [] h = cc
used from count (line ∷ lines) h = ⊎_elim
    (λ none.
    let rest = used from count lines (subst (λ t. harms (told_or t (fate_of from (suc count) lines)) ≡ true) none h) in
    let one = line_stays from count line in omega (arith, rest, one))
    (λ told.
    let one = told.2 (subst (λ t. harms (told_or t (fate_of from (suc count) lines)) ≡ true) told.1 h) in
    let rest = fewer from count lines in omega (arith, one, rest))
    (line_used from count line)

-- ---- how long a segment is under way

-- fewer octets wait no longer
ceil_more : (x y n : ℕ) → x ≤ y → div_ceil x n ≤ div_ceil y n
ceil_more x y n le = ⊎_elim (λ some. by some (cases_lt (div_ceil y n) (div_ceil x n))) (λ none. subst (λ (k : ℕ). div_ceil x k ≤ div_ceil y k) (none_is n none) at_none) (cases_lt 0 n)
  where
    by : 0 < n → (div_ceil y n < div_ceil x n) ⊎ (div_ceil x n ≤ div_ceil y n) → div_ceil x n ≤ div_ceil y n
    by some (inr low) = low
    by some (inl high) =
        let times : (div_ceil y n + 1) * n ≤ div_ceil x n * n = mul-le-mul_right n (omega (arith, high)) in
        absurd (omega (arith, le, times, (div_ceil_times x n some).1, (div_ceil_times y n some).0))

    none_is : (k : ℕ) → k ≤ 0 → 0 ≡ k
    none_is k none = omega (arith, none)

    sums : (a b c d : ℕ) → a ≡ 0 → b ≡ 0 → c ≡ x → d ≡ y → a + min 1 c ≤ b + min 1 d
    sums a b c d first second third fourth = omega (arith, le, first, second, third, fourth)

    at_none : div_ceil x 0 ≤ div_ceil y 0
    at_none = sums (x / 0) (y / 0) (x % 0) (y % 0) (div-zero x) (div-zero y) (mod-zero x) (mod-zero y)

-- one that finds room waits no longer than a full queue
queue_waits : (rate : Option Rate) (now octets : ℕ) (w : Waiting) → is_full rate now octets w ≡ false → ticks_queued rate (queued rate now octets w) ≤ full_queue_waits rate
queue_waits None now octets w room = omega arith
queue_waits (Some rate) now octets w room = ceil_more (left_at rate now w + octets) rate.queue rate.octets (ltb-false rate.queue (left_at rate now w + octets) room)

-- the ticks that are drawn are so many at most
drawn_most : (ticks word : ℕ) → word < 2 ^ 32 → ticks_drawn ticks word ≤ ticks
drawn_most ticks word low = by (cases_lt ticks (ticks_drawn ticks word))
  where
    product : word * (ticks + 1) < 2 ^ 32 * (ticks + 1)
    product = mul-lt-mul_of_pos_right low (omega arith)

    by : (ticks < ticks_drawn ticks word) ⊎ (ticks_drawn ticks word ≤ ticks) → ticks_drawn ticks word ≤ ticks
    by (inr few) = few
    by (inl many) = absurd (omega (arith, many, product, div-mul-le_self (word * (ticks + 1)) (2 ^ 32)))

-- ---- copies

module _ {C : Type 0} (P : Flight C → Type 0) where
  pub has_more : (f : Flight C) (flights : List (Flight C)) → Has P flights → Has P (with_flight f flights)
  has_more f flights h = at flights h.at h.item h.there h.holds
    where
      first : (g : Flight C) (fs : List (Flight C)) → P g → Has P (g ∷ fs)
      first g fs holds = record { at = 0; item = g; there = refl; holds = holds }

      behind : (g : Flight C) (fs : List (Flight C)) → Has P fs → Has P (g ∷ fs)
      behind g fs h = record { at = suc h.at; item = h.item; there = h.there; holds = h.holds }

      at : (fs : List (Flight C)) (i : ℕ) (x : Flight C) → slice_get fs i ≡ Some x → P x → Has P (with_flight f fs)
      at [] i x there holds = cc
      at (g ∷ fs) zero x there holds = by (comes_before f g)
        where
          by : (b : Bool) → Has P (if b then f ∷ g ∷ fs else g ∷ with_flight f fs)
          by true = record { at = 1; item = x; there = there; holds = holds }
          by false = record { at = 0; item = x; there = there; holds = holds }
      at (g ∷ fs) (suc i) x there holds = by (comes_before f g) (at fs i x there holds)
        where
          by : (b : Bool) → Has P (with_flight f fs) → Has P (if b then f ∷ g ∷ fs else g ∷ with_flight f fs)
          by true rest = record { at = suc (suc i); item = x; there = there; holds = holds }
          by false rest = behind g (with_flight f fs) rest

  has_this : (f : Flight C) (flights : List (Flight C)) → P f → Has P (with_flight f flights)
  has_this f [] holds = record { at = 0; item = f; there = refl; holds = holds }
  has_this f (g ∷ flights) holds = by (comes_before f g) (has_this f flights holds)
    where
      by : (b : Bool) → Has P (with_flight f flights) → Has P (if b then f ∷ g ∷ flights else g ∷ with_flight f flights)
      by true rest = record { at = 0; item = f; there = refl; holds = holds }
      by false rest = record { at = suc rest.at; item = rest.item; there = rest.there; holds = rest.holds }

module _ {C : Type 0} where
  -- one that isn't lost or late comes on time
  comes : (P : Flight C → Type 0) (to : Side) (number on_time : ℕ) (carried : C) (fate : Fate) (flights : List (Flight C)) → harms fate ≡ false
      → P (record { tick = on_time; to = to; number = number; carried = carried }) → Has P (with_flights to number carried (arrivals fate on_time) flights)
  comes P to number on_time carried fates.OnTime flights h holds = has_this P _ flights holds
  comes P to number on_time carried (fates.Twice ticks) flights h holds = has_more P _ _ (has_this P _ flights holds)
  comes P to number on_time carried fates.Lost flights h holds = absurd cc
  comes P to number on_time carried fates.Full flights h holds = absurd cc
  comes P to number on_time carried (fates.Late ticks) flights h holds = absurd cc

  -- where the direction doesn't lose it, what becomes of it is what lines on it say
  by_lines : (from : Side) (number size now : ℕ) (link : LinkState C) → harms (fate_of from number link.lines) ≡ false
      → (is_lost_by_chance from number link || is_refused from size now link) ≡ false → fate_at from number size now link ≡ fate_of from number link.lines
  by_lines from number size now link h kept =
      let told : Fate = fate_of from number link.lines in
      let parts = or_parts (is_lost_by_chance from number link) (is_refused from size now link) kept in
      ap (λ (b : Bool). fate_by b (is_refused from size now link) told) (or_from (is_lost told) (is_lost_by_chance from number link) (not_lost told h) parts.0)
      ∙ ap (λ (b : Bool). fate_by false b told) parts.1

  in_time : (from : Side) (number size now : ℕ) (link : LinkState C) → harms (fate_of from number link.lines) ≡ false
      → (is_lost_by_chance from number link || is_refused from size now link) ≡ false → first_arrival from number size now link ≤ now + longest_way from link
  in_time from number size now link h kept =
      let shape : Shape = shape_of from link.lines in
      let word : ℕ = drawn_word link.seed (jitter_stream link.path from) (number - 1) in
      let parts = or_parts (is_lost_by_chance from number link) (is_refused from size now link) kept in
      let stays : is_lost_at_once from number link ≡ false = or_from (is_lost (fate_of from number link.lines)) (is_lost_by_chance from number link) (not_lost (fate_of from number link.lines) h) parts.0 in
      let waits : waiting_after from number size now link ≡ waiting_with from size now link =
      ap (λ (b : Bool). if b then waiting_of from link else (if is_refused from size now link then waiting_of from link else waiting_with from size now link)) stays
      ∙ ap (λ (b : Bool). if b then waiting_of from link else waiting_with from size now link) parts.1 in
      let queue : ticks_queued shape.rate (waiting_after from number size now link) ≤ full_queue_waits shape.rate =
      subst (λ (w : Waiting). ticks_queued shape.rate w ≤ full_queue_waits shape.rate) (sym waits) (queue_waits shape.rate now (size + 20) (waiting_of from link) parts.1) in
      sums now link.delay (ticks_queued shape.rate (waiting_after from number size now link)) (ticks_drawn shape.jitter word) (full_queue_waits shape.rate) shape.jitter queue
      (drawn_most shape.jitter word (drawn_word_below link.seed (jitter_stream link.path from) (number - 1)))
    where
      sums : (now delay a b c d : ℕ) → a ≤ c → b ≤ d → now + delay + (a + b) ≤ now + (delay + c + d)
      sums now delay a b c d queue drawn = omega (arith, queue, drawn)

  pub hands_on_at_once : PlainDirectionsHandOnAtOnce C
  hands_on_at_once from size now link shape =
      let number : ℕ = next_number from link in (
        or_from (is_lost_by_chance from number link) (is_refused from size now link) (not_by_chance from number size now link shape) (not_refused from number size now link shape),
        at_once from number size now link shape,
        subst (λ (x : Shape). link.delay + full_queue_waits x.rate + x.jitter ≡ link.delay) (sym shape) (omega arith),
      )

  pub each_uses_a_line_or_comes : EachUsesALineOrComes C
  each_uses_a_line_or_comes strip alter A carried size now link few = by (harms (fate_of A (next_number A link) link.lines)) refl
    where
      next : next_number A link ≡ suc link.from_a
      next = omega (arith, few)

      or_comes : (b : Bool) → loses A size now link ≡ b → harms (fate_of A (next_number A link) link.lines) ≡ false
          → (loses A size now link ≡ true) ⊎ Has (IsOnTime A size now (as_it_arrives strip alter A carried now link) link) (after_send strip alter A carried size now link).under_way
      or_comes true lost h = inl lost
      or_comes false kept h =
          let number : ℕ = next_number A link in
          inr (comes (IsOnTime A size now (as_it_arrives strip alter A carried now link) link) B number (first_arrival A number size now link) _ (fate_at A number size now link) link.under_way
          (ap harms (by_lines A number size now link h kept) ∙ h) (record { tick = refl; in_time = in_time A number size now link h kept; to = refl; number = refl; carried = refl }))

      by : (b : Bool) → harms (fate_of A (next_number A link) link.lines) ≡ b → let after = after_send strip alter A carried size now link in
          (harms_left after < harms_left link)
          ⊎ ((harms_left after ≤ harms_left link) × ((loses A size now link ≡ true) ⊎ Has (IsOnTime A size now (as_it_arrives strip alter A carried now link) link) after.under_way))
      by true h =
          let one = used A link.from_a link.lines (subst (λ n. harms (fate_of A n link.lines) ≡ true) next h) in
          inl (subst (λ n. unused A n link.lines + unused B link.from_b link.lines < harms_left link) (sym next) (omega (arith, one)))
      by false h =
          let less = fewer A link.from_a link.lines in
          inr (
            subst (λ n. unused A n link.lines + unused B link.from_b link.lines ≤ harms_left link) (sym next) (omega (arith, less)),
            or_comes (loses A size now link) refl h,
          )
  each_uses_a_line_or_comes strip alter B carried size now link few = by (harms (fate_of B (next_number B link) link.lines)) refl
    where
      next : next_number B link ≡ suc link.from_b
      next = omega (arith, few)

      or_comes : (b : Bool) → loses B size now link ≡ b → harms (fate_of B (next_number B link) link.lines) ≡ false
          → (loses B size now link ≡ true) ⊎ Has (IsOnTime B size now (as_it_arrives strip alter B carried now link) link) (after_send strip alter B carried size now link).under_way
      or_comes true lost h = inl lost
      or_comes false kept h =
          let number : ℕ = next_number B link in
          inr (comes (IsOnTime B size now (as_it_arrives strip alter B carried now link) link) A number (first_arrival B number size now link) _ (fate_at B number size now link) link.under_way
          (ap harms (by_lines B number size now link h kept) ∙ h) (record { tick = refl; in_time = in_time B number size now link h kept; to = refl; number = refl; carried = refl }))

      by : (b : Bool) → harms (fate_of B (next_number B link) link.lines) ≡ b → let after = after_send strip alter B carried size now link in
          (harms_left after < harms_left link)
          ⊎ ((harms_left after ≤ harms_left link) × ((loses B size now link ≡ true) ⊎ Has (IsOnTime B size now (as_it_arrives strip alter B carried now link) link) after.under_way))
      by true h =
          let one = used B link.from_b link.lines (subst (λ n. harms (fate_of B n link.lines) ≡ true) next h) in
          inl (subst (λ n. unused A link.from_a link.lines + unused B n link.lines < harms_left link) (sym next) (omega (arith, one)))
      by false h =
          let less = fewer B link.from_b link.lines in
          inr (
            subst (λ n. unused A link.from_a link.lines + unused B n link.lines ≤ harms_left link) (sym next) (omega (arith, less)),
            or_comes (loses B size now link) refl h,
          )
