-- The words of a segment's fate are few, where the numbers of the script's lines have 64 bits.
use Rattle.std.proofs.Common.{◌≡◌, refl, sym, ap, subst, ◌∙◌, ℕ, suc, ◌+◌, ◌-◌, ◌*◌, ◌^◌, ◌<◌, ◌≤◌, ◌==◌, Bool, true, false, if◌then◌else◌, Option, Some, None, List, [], ◌∷◌, ◌++◌, length, length-append, codes, arith, ◌⊎◌, inl, inr}
use Rattle.std.proofs.lemmas.Bool.{cases_lt, ltb-false}
use Rattle.std.proofs.lemmas.Fmt.{length-decimal-le_wide}
use Rattle.std.specs.Fmt.{decimal}
use Rattle.std.specs.Prelude.{fold}
use Rattle.std.specs.Int.{div_ceil}
use Rattle.std.specs.Option.{IfSome}
use Rattle.std.proofs.Math.Nat.{div-le_self, div-mul-le_self, mul-lt-mul_of_pos_right}
use Rattle.key_material.proofs.Bounds.{drawn_word_below}
use Rattle.key_material.specs.Drawing.{drawn_word}
use Rattle.link_model.specs.Fate.{arrival_told, cut_short, fate_of, fate_told, is_dead_at, is_named, lost_if, ticks_of, told_if, told_or}
use Rattle.link_model.specs.Passage.{is_full, jitter_stream, left_at, plain_shape, queued, shape_of, shaped_by, ticks_drawn, ticks_queued, with_impairment}
use Rattle.link_model.specs.State.{LinkState}
use Rattle.link_model.specs.Steps.{fate_at, fate_by, first_arrival, is_lost_at_once, is_refused, segment_fate, ticks_waited, waiting_after, waiting_of, waiting_with}
use Rattle.link_model.specs.declared.fate.Fate.TheVariants as fates
use Rattle.link_model.specs.declared.fate.Fate.{Fate}
use Rattle.link_model.specs.declared.fate.SegmentFate.{SegmentFate}
use Rattle.link_model.specs.declared.passage.Rate.{Rate}
use Rattle.link_model.specs.declared.passage.Shape.{Shape}
use Rattle.link_model.specs.declared.passage.Waiting.{Waiting}
use Rattle.link_script.specs.Places.{same_side}
use Rattle.link_script.specs.declared.script.Happens.TheVariants as happens
use Rattle.link_script.specs.declared.script.Happens.{Happens}
use Rattle.link_script.specs.declared.script.Impairment.TheVariants as script
use Rattle.link_script.specs.declared.script.Impairment.{Impairment}
use Rattle.link_script.specs.declared.script.ScriptLine.TheVariants.{OnDirection, OnSegment}
use Rattle.link_script.specs.declared.script.ScriptLine.{ScriptLine}
use Rattle.link_trace.specs.Fates.{arrival_words, fate_words}
use Rattle.link_trace.specs.Multipath.{word_if}
use Rattle.sides.specs.declared.side.Side.{Side}
use Rattle.stream_lanes.specs.Words.{Every}
use Rattle.own_runs.specs.Fitting.{LineIsShort}

-- ---- words

decimal_short : (n : ℕ) → n < 2 ^ 80 → length (decimal n) ≤ 64
decimal_short n small = length-decimal-le_wide 64 n (omega arith) (omega (arith, small)) (omega (arith, small))

if_short : (b : Bool) (xs ys : List ℕ) → length xs ≤ 200 → length ys ≤ 200 → length (if b then xs else ys) ≤ 200
if_short true xs ys one other = one
if_short false xs ys one other = other

late_short : (ticks : ℕ) → ticks < 2 ^ 80 → length (codes "late by " ++ decimal ticks) ≤ 200
late_short ticks small = omega (arith, length-append (codes "late by ") (decimal ticks), decimal_short ticks small)

again_short : (ticks : ℕ) → ticks < 2 ^ 80 → length (codes "repeated after " ++ decimal ticks) ≤ 200
again_short ticks small = omega (arith, length-append (codes "repeated after ") (decimal ticks), decimal_short ticks small)

both_short : (waited ticks : ℕ) → waited < 2 ^ 80 → ticks < 2 ^ 80 → length (codes "late by " ++ (decimal waited ++ (codes ", repeated after " ++ decimal ticks))) ≤ 200
both_short waited ticks early small =
    omega (
      arith,
      length-append (codes "late by ") (decimal waited ++ (codes ", repeated after " ++ decimal ticks)),
      length-append (decimal waited) (codes ", repeated after " ++ decimal ticks),
      length-append (codes ", repeated after ") (decimal ticks),
      decimal_short waited early,
      decimal_short ticks small,
    )

-- what is lost has no number, and what isn't has short ones
abbrev IsBrief : ℕ → Fate → Type 0
IsBrief waited fates.Lost = Unit {0}
IsBrief waited fates.Full = Unit {0}
IsBrief waited f = (waited < 2 ^ 79) × (ticks_of f < 2 ^ 79)

arrival_short : (waited : ℕ) (f : Fate) → IsBrief waited f → length (arrival_words waited f) ≤ 200
arrival_short waited fates.OnTime h = let early = h.0 in if_short (waited == 0) (codes "on time") (codes "late by " ++ decimal waited) (omega arith) (late_short waited (omega (arith, early)))
arrival_short waited fates.Lost h = omega arith
arrival_short waited fates.Full h = omega arith
arrival_short waited (fates.Late ticks) h = let early = h.0 in let small = h.1 in late_short (waited + ticks) (omega (arith, early, small))
arrival_short waited (fates.Twice ticks) h =
    let early = h.0 in let small = h.1 in
    if_short (waited == 0) (codes "repeated after " ++ decimal ticks) (codes "late by " ++ (decimal waited ++ (codes ", repeated after " ++ decimal ticks)))
    (again_short ticks (omega (arith, small))) (both_short waited ticks (omega (arith, early)) (omega (arith, small)))

word_short : (flag : Bool) (word : List ℕ) → length (word_if flag word) ≤ length word
word_short true word = omega arith
word_short false word = omega arith

words_short : (f : SegmentFate) → IsBrief f.waited f.arrival → length (fate_words f) < 2 ^ 16
words_short f brief =
    let stripped = word_if f.stripped (codes ", stripped") in let altered = word_if f.altered (codes ", altered") in
    omega (
      arith,
      arrival_short f.waited f.arrival brief,
      length-append (arrival_words f.waited f.arrival) (stripped ++ altered),
      length-append stripped altered,
      word_short f.stripped (codes ", stripped"),
      word_short f.altered (codes ", altered"),
    )

-- ---- lines

tail_short : (line : ScriptLine) (lines : List ScriptLine) → Every LineIsShort (line ∷ lines) → Every LineIsShort lines
tail_short line lines h = record { each = λ i x at. h.each (suc i) x at }

-- a fate by lines has short ticks
told_short : (from : Side) (number : ℕ) (line : ScriptLine) (other : Fate) → LineIsShort line → ticks_of other < 2 ^ 64 → ticks_of (told_or (fate_told from number line) other) < 2 ^ 64
told_short from number (OnSegment segment what) other short rest = by (is_named from number segment) what short
  where
    by : (b : Bool) (what : Happens) → LineIsShort (OnSegment segment what) → ticks_of (told_or (told_if b (arrival_told what)) other) < 2 ^ 64
    by false what short = rest
    by true happens.Lost short = omega arith
    by true (happens.Late ticks) short = short
    by true (happens.Again ticks) short = short
    by true happens.Stripped short = rest
    by true happens.Altered short = rest
told_short from number _ other short rest = rest

fate_of_short : (from : Side) (number : ℕ) (lines : List ScriptLine) → Every LineIsShort lines → ticks_of (fate_of from number lines) < 2 ^ 64
fate_of_short from number [] h = omega arith
fate_of_short from number (line ∷ lines) h = told_short from number line (fate_of from number lines) (h.each 0 line refl) (fate_of_short from number lines (tail_short line lines h))

-- the shape of a direction
record ShapeIsShort (shape : Shape) : Type 0 where
  queue : IfSome shape.rate (λ rate. rate.queue < 2 ^ 64)
  jitter : shape.jitter < 2 ^ 64

shaped_short : (from : Side) (shape : Shape) (line : ScriptLine) → LineIsShort line → ShapeIsShort shape → ShapeIsShort (shaped_by from shape line)
shaped_short from shape (OnDirection direction what) short h = by (same_side direction.from from) what short
  where
    by : (b : Bool) (what : Impairment) → LineIsShort (OnDirection direction what) → ShapeIsShort (if b then with_impairment what shape else shape)
    by false what short = h
    by true (script.Rate octets queue) short = record { queue = short; jitter = h.jitter }
    by true (script.Loss parts) short = record { queue = h.queue; jitter = h.jitter }
    by true (script.Jitter ticks) short = record { queue = h.queue; jitter = short }
shaped_short from shape _ short h = h

fold_short : (from : Side) (lines : List ScriptLine) (shape : Shape) → Every LineIsShort lines → ShapeIsShort shape → ShapeIsShort (fold (shaped_by from) shape lines)
fold_short from [] shape each h = h
fold_short from (line ∷ lines) shape each h = fold_short from lines (shaped_by from shape line) (tail_short line lines each) (shaped_short from shape line (each.each 0 line refl) h)

shape_short : (from : Side) (lines : List ScriptLine) → Every LineIsShort lines → ShapeIsShort (shape_of from lines)
shape_short from lines each = fold_short from lines plain_shape each (record { queue = tt; jitter = omega arith })

-- ---- ticks

ceil_small : (x y : ℕ) → div_ceil x y ≤ x + 1
ceil_small x y = let whole = div-le_self x y in omega (arith, whole)

queue_waits : (rate : Option Rate) (now octets : ℕ) (w : Waiting) → is_full rate now octets w ≡ false → IfSome rate (λ r. r.queue < 2 ^ 64) → ticks_queued rate (queued rate now octets w) ≤ 2 ^ 64
queue_waits None now octets w room short = omega arith
queue_waits (Some rate) now octets w room short =
    let few = ltb-false rate.queue (left_at rate now w + octets) room in
    let waits = ceil_small (left_at rate now w + octets) rate.octets in
    omega (arith, few, waits, short)

-- the ticks that are drawn are so many at most
drawn_most : (ticks word : ℕ) → word < 2 ^ 32 → ticks_drawn ticks word ≤ ticks
drawn_most ticks word low = by (cases_lt ticks (ticks_drawn ticks word))
  where
    product : word * (ticks + 1) < 2 ^ 32 * (ticks + 1)
    product = mul-lt-mul_of_pos_right low (omega arith)

    by : (ticks < ticks_drawn ticks word) ⊎ (ticks_drawn ticks word ≤ ticks) → ticks_drawn ticks word ≤ ticks
    by (inr few) = few
    by (inl many) = absurd (omega (arith, many, product, div-mul-le_self (word * (ticks + 1)) (2 ^ 32)))

lost_brief : (dead : Bool) (waited : ℕ) (f : Fate) → IsBrief waited f → IsBrief waited (lost_if dead f)
lost_brief true waited f h = tt
lost_brief false waited f h = h

cut_brief : (lines : List ScriptLine) (on_time waited : ℕ) (f : Fate) → waited < 2 ^ 79 → ticks_of f < 2 ^ 79 → IsBrief waited (cut_short lines on_time f)
cut_brief lines on_time waited fates.OnTime early small = lost_brief (is_dead_at lines on_time) waited fates.OnTime (early, small)
cut_brief lines on_time waited fates.Lost early small = tt
cut_brief lines on_time waited fates.Full early small = tt
cut_brief lines on_time waited (fates.Late ticks) early small = lost_brief (is_dead_at lines (on_time + ticks)) waited (fates.Late ticks) (early, small)
cut_brief lines on_time waited (fates.Twice ticks) early small = lost_brief (is_dead_at lines on_time) waited _ (second (is_dead_at lines (on_time + ticks)))
  where
    second : (b : Bool) → IsBrief waited (if b then fates.OnTime else fates.Twice ticks)
    second true = (early, omega arith)
    second false = (early, small)

module _ {C : Type 0} (from : Side) (number size now : ℕ) (link : LinkState C) (short : Every LineIsShort link.lines) where
  abbrev shape : Shape
  shape = shape_of from link.lines

  waits : is_lost_at_once from number link ≡ false → is_refused from size now link ≡ false → ticks_waited from number size now link < 2 ^ 79
  waits kept room =
      let is = shape_short from link.lines short in
      let word : ℕ = drawn_word link.seed (jitter_stream link.path from) (number - 1) in
      let same : waiting_after from number size now link ≡ waiting_with from size now link =
      ap (λ (b : Bool). if b then waiting_of from link else (if is_refused from size now link then waiting_of from link else waiting_with from size now link)) kept
      ∙ ap (λ (b : Bool). if b then waiting_of from link else waiting_with from size now link) room in
      let queue : ticks_queued shape.rate (waiting_after from number size now link) ≤ 2 ^ 64 =
      subst (λ (w : Waiting). ticks_queued shape.rate w ≤ 2 ^ 64) (sym same) (queue_waits shape.rate now (size + 20) (waiting_of from link) room is.queue) in
      sums (ticks_queued shape.rate (waiting_after from number size now link)) (ticks_drawn shape.jitter word) shape.jitter queue
      (drawn_most shape.jitter word (drawn_word_below link.seed (jitter_stream link.path from) (number - 1))) is.jitter
    where
      sums : (waited drawn jitter : ℕ) → waited ≤ 2 ^ 64 → drawn ≤ jitter → jitter < 2 ^ 64 → waited + drawn < 2 ^ 79
      sums waited drawn jitter q d j = omega (arith, q, d, j)

  brief : IsBrief (ticks_waited from number size now link) (cut_short link.lines (first_arrival from number size now link) (fate_at from number size now link))
  brief = by (is_lost_at_once from number link) (is_refused from size now link) refl refl
    where
      told : Fate
      told = fate_of from number link.lines

      on_time : ℕ
      on_time = first_arrival from number size now link

      by : (lost refused : Bool) → is_lost_at_once from number link ≡ lost → is_refused from size now link ≡ refused
          → IsBrief (ticks_waited from number size now link) (cut_short link.lines on_time (fate_by lost refused told))
      by true refused lost full = tt
      by false true lost full = tt
      by false false kept room =
          let few = fate_of_short from number link.lines short in
          cut_brief link.lines on_time (ticks_waited from number size now link) told (waits kept room) (omega (arith, few))

  pub fate_short : length (fate_words (segment_fate from number size now link)) < 2 ^ 16
  fate_short = words_short (segment_fate from number size now link) brief
