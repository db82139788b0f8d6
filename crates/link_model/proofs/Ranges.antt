-- The numbers of a link are those that a script can say.
use Rattle.std.proofs.Common.{◌≡◌, refl, ℕ, zero, suc, ◌<◌, ◌≤◌, Bool, true, false, cond, List, [], ◌∷◌, length, get_or, All, Some, None, arith}
use Rattle.std.specs.Prelude.{fold}
use Rattle.std.specs.List.{AllByRecursion}
use Rattle.std.proofs.lemmas.List.Elements.{All-filter, recursion_from_All}
use Rattle.sides.specs.declared.side.Side.{Side}
use Rattle.sides.specs.declared.side.Side.TheVariants.{A, B}
use Rattle.link_script.specs.declared.script.PathLine.{PathLine}
use Rattle.link_script.specs.declared.script.Script.{Script}
use Rattle.link_script.specs.declared.script.Happens.TheVariants.{Lost, Late, Again, Stripped, Altered}
use Rattle.link_script.specs.declared.script.Impairment.{Impairment}
use Rattle.link_script.specs.declared.script.ScriptLine.{ScriptLine}
use Rattle.link_script.specs.declared.script.ScriptLine.TheVariants.{OnSegment, OnDirection}
use Rattle.link_script.specs.Places.{path_named, same_side}
use Rattle.link_script.specs.Scripts.{HasRanges, IsImpairment, IsEvent}
use Rattle.link_model.specs.declared.fate.Fate.{Fate}
use Rattle.link_model.specs.declared.passage.Shape.{Shape}
use Rattle.link_model.specs.Bounds.{IsShape}
use Rattle.link_model.specs.Passage.{plain_shape, with_impairment, shaped_by, shape_of, empty_queue}
use Rattle.link_model.specs.Fate.{is_named, fate_told, told_if, told_or, fate_of, ticks_of}
use Rattle.link_model.specs.State.{IsLink, ticks_told}
use Rattle.link_model.specs.Steps.{delay_of, is_path, lines_of}
use Rattle.link_model.proofs.Waits.{no_room}

pub delay_at : (path : ℕ) (lines : List PathLine) (d : PathLine) → path < length lines → (get_or lines path d).delay ≡ delay_of path lines
delay_at path [] d within = absurd (omega (arith, within))
delay_at zero (line ∷ lines) d within = refl
delay_at (suc path) (line ∷ lines) d within = delay_at path lines d (omega (arith, within))

event_is_short : (paths : ℕ) (line : ScriptLine) → IsEvent paths line → ticks_told line ≤ 100000
event_is_short paths (OnSegment segment (Late ticks)) is = is.2.most
event_is_short paths (OnSegment segment (Again ticks)) is = is.2.most
event_is_short paths (OnSegment segment happens) is = omega arith
event_is_short paths line is = omega arith

impairment_fits : (impairment : Impairment) (shape : Shape) → IsImpairment impairment → IsShape shape → IsShape (with_impairment impairment shape)
impairment_fits (Impairment.Rate octets queue) shape h s = record {
  rate = record { some_octets = h.0.least; few_octets = h.0.most; small_queue = h.1.most };
  loss = s.loss;
  jitter = s.jitter;
}
impairment_fits (Impairment.Loss parts) shape h s = record { rate = s.rate; loss = h.most; jitter = s.jitter }
impairment_fits (Impairment.Jitter ticks) shape h s = record { rate = s.rate; loss = s.loss; jitter = h.most }

line_fits : (from : Side) (paths : ℕ) (shape : Shape) (line : ScriptLine) → IsEvent paths line → IsShape shape → IsShape (shaped_by from shape line)
line_fits from paths shape (OnDirection d impairment) h s = by (same_side d.from from) (impairment_fits impairment shape h.1 s)
  where
    by : (b : Bool) → IsShape (with_impairment impairment shape) → IsShape (cond b (with_impairment impairment shape) shape)
    by true fits = fits
    by false fits = s
line_fits from paths shape line h s = s

shape_fits : (from : Side) (paths : ℕ) (shape : Shape) (lines : List ScriptLine) → AllByRecursion (IsEvent paths) lines → IsShape shape → IsShape (fold (shaped_by from) shape lines)
shape_fits from paths shape [] h s = s
shape_fits from paths shape (line ∷ lines) h s = shape_fits from paths (shaped_by from shape line) lines h.1 (line_fits from paths shape line h.0 s)

pub limits_of : (script : Script) (path : ℕ) (d : PathLine) → HasRanges script → path < length script.paths
    → IsLink (get_or script.paths path d).delay (lines_of path script.lines) (shape_of A (lines_of path script.lines)) (shape_of B (lines_of path script.lines)) empty_queue empty_queue
limits_of script path d ranges within =
    let line = ranges.paths path d within in
    let own = All-filter (λ line. is_path path (path_named line)) (IsEvent (length script.paths)) script.lines ranges.lines in
    record {
      some_delay = line.delay.least;
      short_delay = line.delay.most;
      short_ticks = λ k e low. event_is_short (length script.paths) _ (own k e low);
      by_lines_a = refl;
      by_lines_b = refl;
      shape_a = fits A own;
      shape_b = fits B own;
      room_a = no_room (shape_of A (lines_of path script.lines)).rate;
      room_b = no_room (shape_of B (lines_of path script.lines)).rate;
    }
  where
    fits : (from : Side) → All (IsEvent (length script.paths)) (lines_of path script.lines) → IsShape (shape_of from (lines_of path script.lines))
    fits from own =
        shape_fits from (length script.paths) plain_shape (lines_of path script.lines) (recursion_from_All (IsEvent (length script.paths)) (lines_of path script.lines) own)
        (record { rate = tt; loss = omega arith; jitter = omega arith })

told_is_short : (b : Bool) (f other : Fate) → ticks_of f ≤ 100000 → ticks_of other ≤ 100000 → ticks_of (told_or (told_if b (Some f)) other) ≤ 100000
told_is_short = elim [ true ↦ λ f other short rest. short | false ↦ λ f other short rest. rest ]

none_is_short : (b : Bool) (other : Fate) → ticks_of other ≤ 100000 → ticks_of (told_or (told_if b None) other) ≤ 100000
none_is_short = elim [ true ↦ λ other rest. rest | false ↦ λ other rest. rest ]

fate_is_short : (from : Side) (number : ℕ) (line : ScriptLine) (other : Fate) → ticks_told line ≤ 100000 → ticks_of other ≤ 100000
    → ticks_of (told_or (fate_told from number line) other) ≤ 100000
fate_is_short from number (OnSegment s Lost) other short rest = told_is_short (is_named from number s) Fate.Lost other (omega arith) rest
fate_is_short from number (OnSegment s (Late ticks)) other short rest = told_is_short (is_named from number s) (Fate.Late ticks) other short rest
fate_is_short from number (OnSegment s (Again ticks)) other short rest = told_is_short (is_named from number s) (Fate.Twice ticks) other short rest
fate_is_short from number (OnSegment s Stripped) other short rest = none_is_short (is_named from number s) other rest
fate_is_short from number (OnSegment s Altered) other short rest = none_is_short (is_named from number s) other rest
fate_is_short from number line other short rest = rest

fates_are_short : (from : Side) (number : ℕ) (lines : List ScriptLine) → AllByRecursion (λ line. ticks_told line ≤ 100000) lines → ticks_of (fate_of from number lines) ≤ 100000
fates_are_short from number [] short = omega arith
fates_are_short from number (line ∷ lines) short = fate_is_short from number line (fate_of from number lines) short.0 (fates_are_short from number lines short.1)

pub ticks_are_short : (from : Side) (number : ℕ) (lines : List ScriptLine) → All (λ line. ticks_told line ≤ 100000) lines → ticks_of (fate_of from number lines) ≤ 100000
ticks_are_short from number lines short = fates_are_short from number lines (recursion_from_All (λ line. ticks_told line ≤ 100000) lines short)
