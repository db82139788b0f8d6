-- Lanes by the numbers of a clean script finish within the rounds that are enough.
use Rattle.clean_finish.proofs.Words.{subst, max, List, [], All, arith, All-head, PathLine, IsPath, segments, setting_of, CleanLanesFinish}
use Rattle.pace.proofs.Telling.{courses_told}
use Rattle.clean_finish.proofs.Ranges.{in_ranges, in_segments, in_more, bound_is}

pub lanes_finish : CleanLanesFinish
lanes_finish script path length_a length_b rounds ranges one told a b wide wide_back more long u x course =
    let line : IsPath path = All-head IsPath path [] (subst (λ (ps : List PathLine). All IsPath ps) one ranges.paths) in
    let bound = bound_is script.paths script.lines path length_a length_b rounds one told in
    let n = max (segments path.mss length_a) (segments path.mss length_b) in
    let there = in_more (segments path.mss length_a) n _ length_a (in_segments path.mss length_a line.mss.least)
    (omega arith) in
    let back = in_more (segments path.mss length_b) n _ length_b (in_segments path.mss length_b line.mss.least)
    (omega arith) in
    courses_told (setting_of path script.buffer length_a) (setting_of path script.buffer length_b)
    (in_ranges path script.buffer length_a line ranges.buffer) (in_ranges path script.buffer length_b line ranges.buffer)
    a b (omega (arith, wide)) (omega (arith, wide_back)) n more there back (omega (arith, bound, long)) u x course
