-- How it ends with what was judged.
use Rattle.std.specs.Prelude.{Bool, true, false, not, ◌&&◌, ◌||◌, if◌then◌else◌, List, [], ◌∷◌}
use Rattle.std.specs.List.{list_any}
use Rattle.seen_connections.specs.declared.flow.Flow.{Flow}
use Rattle.seen_connections.specs.Flows.{is_stray}
use Rattle.rule_book.specs.State.{BookValue, JudgedValue}
use Rattle.capture_verdict.specs.declared.ending.Ending.{Ending}
use Rattle.capture_verdict.specs.declared.ending.Ending.TheVariants.{Kept, Broken, NoConnection}

abbrev pub has_none : {X : Type 0} → List X → Bool
has_none [] = true
has_none (x ∷ more) = false

-- a side broke a rule
abbrev pub broke_rule : BookValue → Bool
broke_rule book = not (has_none book.a.broken) || not (has_none book.b.broken)

-- a join whose connection wasn't found, and which the other end reset
abbrev pub was_refused : Flow → Bool
was_refused flow = is_stray flow && flow.was_reset

abbrev pub is_broken : JudgedValue → Bool
is_broken judged = list_any broke_rule judged.books || list_any was_refused judged.seen.flows

abbrev pub ending_of : JudgedValue → Ending
ending_of judged = if has_none judged.books then NoConnection else (if is_broken judged then Broken else Kept)
