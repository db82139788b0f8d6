-- Over one path both files are delivered once it is whole, or an end dies early: what is said of each start holds of each script, over octets too.
use Rattle.std.proofs.Common.{arith}
use Rattle.path_core.specs.Octets.{octets}
use Rattle.path_core.specs.Values.{values}
use Rattle.whole_paths.specs.Finish.{BriefPathsDeliver}
use Rattle.whole_paths.specs.OnePathScripts.{EndsWithin, BriefPathsEnd, for_all_news}
use Rattle.whole_paths.specs.OnlyPaths.{long_patience, news_within}
use Rattle.whole_paths.specs.WholeCourses.{IsAwaited}
use Rattle.whole_paths.specs.WindowWaits.{AwaitsAWindow}
use Rattle.whole_paths.proofs.OnePathScripts.{ends_as_it_begins}
use Rattle.whole_paths.proofs.OverOctets.{ends_as_it_begins_in_octets}
use Rattle.whole_paths.proofs.ShutWaits.{shut_windows_open_in_time}
use Rattle.whole_paths.proofs.ThereInTime.{exchanges_bring_all, what_is_there_in_time_is_delivered, whole_paths_didnt_die}
use Rattle.whole_paths.proofs.WholeCourses.{exchanges}
use Rattle.whole_paths.specs.Halted.{IsHalted}

-- of a start
pub only_paths_end : EndsWithin (for_all_news news_within)
only_paths_end = what_is_there_in_time_is_delivered (for_all_news news_within) (exchanges_bring_all news_within
    (λ start most n x turns. IsAwaited start 60800 (λ n x turns. AwaitsAWindow IsHalted start x turns) n x turns)
    (λ start plan most begins. (
    let least = begins.buffer in
    exchanges start plan most 60800 (λ n x turns. AwaitsAWindow IsHalted start x turns) begins.one begins.mild (omega (arith, least)) (omega arith)
    (shut_windows_open_in_time start plan most begins.one begins.mild (omega (arith, least))))))

pub paths_end : BriefPathsEnd values long_patience
paths_end = ends_as_it_begins (for_all_news news_within) only_paths_end

pub paths_end_in_octets : BriefPathsEnd octets long_patience
paths_end_in_octets = ends_as_it_begins_in_octets (for_all_news news_within) only_paths_end

pub whole_paths_deliver : BriefPathsDeliver values long_patience
whole_paths_deliver = whole_paths_didnt_die values long_patience paths_end

pub whole_paths_deliver_in_octets : BriefPathsDeliver octets long_patience
whole_paths_deliver_in_octets = whole_paths_didnt_die octets long_patience paths_end_in_octets
