use Rattle.path_core.specs.Octets.{octets}
use Rattle.path_core.specs.Values.{values}
use Rattle.whole_paths.proofs.Clearing as clearing
use Rattle.whole_paths.proofs.EndsHeard as ends_heard
use Rattle.whole_paths.proofs.EndsUntold as ends_untold
use Rattle.whole_paths.proofs.SendsEnds as sends_ends
use Rattle.whole_paths.proofs.laws.clear_ends_are_past.Goals as goal

pub returns-clause-octets : goal.returns-clause-octets
returns-clause-octets c = clearing.clear_ends_are_past octets

pub returns-clause-values : goal.returns-clause-values
returns-clause-values c = clearing.clear_ends_are_past values

pub returns-clause-done : goal.returns-clause-done
returns-clause-done c = sends_ends.who_is_done_is_clear

pub returns-clause-unheard : goal.returns-clause-unheard
returns-clause-unheard c = ends_heard.a_hears_no_end_before

pub returns-clause-untold : goal.returns-clause-untold
returns-clause-untold c = ends_untold.a_is_told_no_end_before
