-- The fate of a segment, line after line.
use Rattle.std.proofs.Common.{◌≡◌, ◌∙◌, ap, ℕ, ◌+◌, ◌<◌, ◌≤◌, length, drop, get_or, List, Option, Some, None}
use Rattle.std.proofs.lemmas.List.{at_drop_more, drop_all}
use Rattle.sides.specs.declared.side.Side.{Side}
use Rattle.link_script.specs.declared.script.ScriptLine.{ScriptLine}
use Rattle.link_model.specs.declared.fate.Fate.{Fate}
use Rattle.link_model.specs.Fate.{fate_told, fate_of, told_or}

-- a line that speaks of the segment decides over all from it on
pub fate_here : (from : Side) (number : ℕ) (lines : List ScriptLine) (i : ℕ) (d : ScriptLine) (f : Fate) → i < length lines
    → fate_told from number (get_or lines i d) ≡ Some f → fate_of from number (drop i lines) ≡ f
fate_here from number lines i d f within told =
    at_drop_more (fate_of from number) lines i d within
    ∙ ap (λ (t : Option Fate). told_or t (fate_of from number (drop (i + 1) lines))) told

-- a line that doesn't leaves it to those behind it
pub fate_later : (from : Side) (number : ℕ) (lines : List ScriptLine) (i : ℕ) (d : ScriptLine) → i < length lines
    → fate_told from number (get_or lines i d) ≡ None → fate_of from number (drop i lines) ≡ fate_of from number (drop (i + 1) lines)
fate_later from number lines i d within told =
    at_drop_more (fate_of from number) lines i d within
    ∙ ap (λ (t : Option Fate). told_or t (fate_of from number (drop (i + 1) lines))) told

pub fate_at_end : (from : Side) (number : ℕ) (lines : List ScriptLine) (i : ℕ) → length lines ≤ i → fate_of from number (drop i lines) ≡ Fate.OnTime
fate_at_end from number lines i beyond = ap (fate_of from number) (drop_all i lines beyond)
