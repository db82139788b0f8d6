use Rattle.path_core.proofs.Words.{◌≡◌, [], length, heard_left, heard_value}
use Rattle.path_core.proofs.options_in.without_options.Given as goal

abbrev pub invariant-loop : goal.invariant-loop
invariant-loop l = record (heard_value l.rest) { options = [] } ≡ record (heard_value l.heard) { options = [] }

abbrev pub decreases-loop : goal.decreases-loop
decreases-loop l = length (heard_left l.rest.options)
