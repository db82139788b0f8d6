-- Each segment that is harmed uses a line of the script, where no line speaks of a direction. So few such lines are few losses, and rounds enough for
-- the lines are enough for the segments that they harm.
use Rattle.std.proofs.Common.{subst, ℕ, suc, ◌+◌, ◌/◌, ◌≤◌, arith, List}
use Rattle.std.proofs.Math.Nat.{div-mul-le_self, lt-div-mul-add}
use Rattle.link_script.specs.declared.script.PathLine.{PathLine}
use Rattle.link_script.specs.declared.script.Script.{Script}
use Rattle.path_core.specs.Octets.{octets}
use Rattle.path_core.specs.Values.{values}
use Rattle.world_laws.specs.Openings.{Start, start_of}
use Rattle.whole_paths.specs.Finish.{BriefFewLinesFinish, harms_to}
use Rattle.whole_paths.specs.News.{most_news}
use Rattle.whole_paths.specs.OnlyPaths.{news_within}
use Rattle.whole_paths.specs.OnePathScripts.{for_all_news}
use Rattle.whole_paths.specs.OpeningCourses.{opening_patience, with_opening}
use Rattle.whole_paths.proofs.FewLossesDeliver.{few_losses_finish, few_losses_finish_in_octets}
use Rattle.whole_paths.proofs.Harmed.{harms_use_lines}
use Rattle.whole_paths.proofs.OverOctets.{as_far}
use Rattle.whole_paths.proofs.Rounds.{ticks_up}

rounds_up : (m n : ℕ) → m ≤ n → m / 100 + 4 ≤ n / 100 + 4
rounds_up m n low = let down = div-mul-le_self m 100 in let up = lt-div-mul-add {a = n} {b = 100} (omega arith) in omega (arith, low, down, up)

more : (k m n : ℕ) → m ≤ n → suc (k + m) ≤ suc (k + n)
more k m n low = omega (arith, low)

patience_up : (script : Script) (path : PathLine) (file_a file_b : List ℕ) (m n : ℕ) → m ≤ n → opening_patience script path file_a file_b m ≤ opening_patience script path file_a file_b n
patience_up script path file_a file_b m n low =
    let start : Start = start_of script file_a file_b in
    let ticks = ticks_up (news_within start) (suc (most_news start + m)) (suc (most_news start + n)) (more (most_news start) m n low) in
    rounds_up (with_opening (for_all_news news_within) start m) (with_opening (for_all_news news_within) start n) (omega (arith, low, ticks))

at_most : (k m n : ℕ) → m ≤ n → n ≤ k → m ≤ k
at_most k m n low high = omega (arith, low, high)

pub few_lines_finish_in_octets : BriefFewLinesFinish octets opening_patience
few_lines_finish_in_octets script path file_a file_b turns mild brief harmless none few lawful many =
    let uses = harms_use_lines script file_a file_b 0 turns mild.ranges none in
    few_losses_finish_in_octets script path file_a file_b turns mild brief harmless (at_most 4 _ _ uses few) lawful (at_most _ _ _ (patience_up script path file_a file_b _ _ uses) many)

pub few_lines_finish : BriefFewLinesFinish values opening_patience
few_lines_finish script path file_a file_b turns mild brief harmless none few lawful many =
    let far = as_far script path file_a file_b mild turns in
    let uses = subst (λ h. h ≤ harms_to 0 script) (far.harms 0) (harms_use_lines script file_a file_b 0 turns mild.ranges none) in
    few_losses_finish script path file_a file_b turns mild brief harmless (at_most 4 _ _ uses few) lawful (at_most _ _ _ (patience_up script path file_a file_b _ _ uses) many)
