-- Connections by scripts keep their promises, and by scripts that alter nothing all of them.
use Rattle.world_laws.proofs.Words.{◌≡◌, refl, sym, ap, subst, ℕ, zero, suc, ◌+◌, ◌≤◌, Bool, true, false, cond, Some, List, [], ◌∷◌, length, arith, ◌<◌, ◌^◌}
use Rattle.world_laws.proofs.Words.{◌*◌, or_parts, or_from, same_Some, list_any, slice_get, All, All-head, All-tail, Side, path_named, ScriptLine, lines_of}
use Rattle.world_laws.proofs.Words.{is_altered_by, key_of, octets, AltersNothing, CanRunPath, PathPlan, start_of, plan_of, plans_from}
use Rattle.key_material.proofs.Bounds.{drawn_word_below}
use Rattle.link_model.specs.Steps.{is_path}
use Rattle.link_script.specs.declared.script.PathLine.{PathLine}
use Rattle.link_script.specs.declared.script.Script.{Script}
use Rattle.link_script.specs.declared.script.Happens.TheVariants.{Altered}
use Rattle.link_script.specs.declared.script.ScriptLine.TheVariants.{OnSegment}
use Rattle.link_script.specs.Scripts.{IsPath}
use Rattle.world_laws.specs.PlainScripts.{alters_payload, IsPlainScript, IsShortScript, ScriptsFit, ScriptsKeepAnyway, CheckedScriptsKeepOctets, ScriptsAreShownOfValues, PlainScriptsStartPlainly, PlainScriptsKeepAllPromises, ScriptsCanRun}
use Rattle.world_laws.proofs.Promises.AbortsHaveACause.{aborts_have_cause_in_octets}
use Rattle.world_laws.proofs.Promises.AbortedHearThatAlone.{abort_is_last}
use Rattle.world_laws.proofs.Promises.InfiniteMappingsAreRight.{infinite_mappings_are_right}
use Rattle.world_laws.proofs.Promises.InfiniteOverOctets.{infinite_mappings_are_heard_right}
use Rattle.world_laws.proofs.Promises.ChecksumsAreRight.{checksums_are_right}
use Rattle.world_laws.proofs.Falls.ChecksPass.{checks_pass_in_octets}
use Rattle.world_laws.proofs.Falls.AreRight.{falls_in_octets, falls_last_in_octets, places_in_octets, places_were_in_octets}
use Rattle.world_laws.proofs.Places.GrantedOnce.{granted_once}
use Rattle.world_laws.proofs.Announcements.AsTold.{announcements_end}
use Rattle.world_laws.proofs.Standby.GrantedNothing.{backups_get_nothing}
use Rattle.world_laws.proofs.Numbers.LowHalves.{short_numbers}
use Rattle.world_laws.proofs.Places.Agree.{mappings_agree_in_octets}
use Rattle.world_laws.proofs.Joins.NoBytesBeforeClear.{joins_wait}
use Rattle.world_laws.proofs.Joins.OverOctets.{each_copy_is_welcome_in_octets}
use Rattle.world_laws.proofs.Falls.ForGood.{falls_for_good}
use Rattle.world_laws.proofs.Promises.Made.{keep_their_word_in_octets, keep_count_in_octets, nothing_follows_in_octets, one_step_each_in_octets, nothing_refused_in_octets, keys_in_octets, addresses_in_octets, joins_in_octets, prefix_in_octets, placed_in_octets, run_fresh}

-- ---- lines

module _ (such test : ScriptLine → Bool) (among : (line : ScriptLine) → such line ≡ false → test line ≡ false) where
  pub none_passes : (path : ℕ) (lines : List ScriptLine) → list_any such lines ≡ false → list_any test (lines_of path lines) ≡ false
  none_passes path [] is = refl
  none_passes path (line ∷ lines) is =
      (elim (is_path path (path_named line)) as (λ b. list_any test (lines_of path lines) ≡ false → list_any test (cond b (line ∷ lines_of path lines) (lines_of path lines)) ≡ false)
      [ true ↦ λ rest. or_from (test line) (list_any test (lines_of path lines)) (among line parts.0) rest | false ↦ λ rest. rest ]) (none_passes path lines parts.1)
    where
      parts : (such line ≡ false) × (list_any such lines ≡ false)
      parts = or_parts (such line) (list_any such lines) is

never_alters : (from : Side) (number : ℕ) (line : ScriptLine) → alters_payload line ≡ false → is_altered_by from number line ≡ false
never_alters from number (OnSegment segment Altered) is = cc
never_alters from number line is = refl

alters_nothing : (path : ℕ) (lines : List ScriptLine) → list_any alters_payload lines ≡ false → AltersNothing (lines_of path lines)
alters_nothing path lines is = record { alters = λ from number. none_passes alters_payload (is_altered_by from number) (never_alters from number) path lines is }

-- ---- numbers

key_below : (seed first : ℕ) → key_of seed first < 2 ^ 64
key_below seed first = let high = drawn_word_below seed 0 first in let low = drawn_word_below seed 0 (first + 1) in omega (arith, high, low)

-- the plan of a line
plan_there : (script : Script) (first i : ℕ) (lines : List PathLine) (plan : PathPlan) → slice_get (plans_from script first lines) i ≡ Some plan
    → (line : PathLine) × (slice_get lines i ≡ Some line) × ((plan.mss ≡ line.mss) × (plan.delay ≡ line.delay))
plan_there script first i [] plan there = cc
plan_there script first zero (line ∷ lines) plan there = let is = sym (same_Some _ plan there) in (line, refl, (ap (λ p. p.mss) is, ap (λ p. p.delay) is))
plan_there script first (suc i) (line ∷ lines) plan there = plan_there script (suc first) i lines plan there

-- nonces are words
nonces_below : (script : Script) (first i : ℕ) (lines : List PathLine) (plan : PathPlan) → slice_get (plans_from script first lines) i ≡ Some plan
    → (plan.nonce_a < 2 ^ 32) × (plan.nonce_b < 2 ^ 32)
nonces_below script first i [] plan there = cc
nonces_below script first zero (line ∷ lines) plan there =
    subst (λ (p : PathPlan). (p.nonce_a < 2 ^ 32) × (p.nonce_b < 2 ^ 32)) (same_Some (plan_of script first line) plan there)
    (drawn_word_below script.seed (1 + 2 * first) 1, drawn_word_below script.seed (2 + 2 * first) 1)
nonces_below script first (suc i) (line ∷ lines) plan there = nonces_below script (suc first) i lines plan there

plan_count : (script : Script) (first : ℕ) (lines : List PathLine) → length (plans_from script first lines) ≡ length lines
plan_count script first [] = refl
plan_count script first (line ∷ lines) = ap (λ n. suc n) (plan_count script (suc first) lines)

line_fits : (i : ℕ) (lines : List PathLine) (line : PathLine) → All IsPath lines → slice_get lines i ≡ Some line → IsPath line
line_fits i [] line all there = cc
line_fits zero (first ∷ lines) line all there = subst IsPath (same_Some first line there) (All-head IsPath first lines all)
line_fits (suc i) (first ∷ lines) line all there = line_fits i lines line (All-tail IsPath first lines all) there

pub scripts_fit : ScriptsFit
scripts_fit script file_a file_b h = (
  record { each = λ i plan there. (size i plan there).0 },
  record {
    short_a = h.short_a;
    short_b = h.short_b;
    paths = let count = plan_count script 0 script.paths in let most = h.ranges.few_paths in omega (arith, count, most);
    size = record { each = λ i plan there. (size i plan there).1 };
    buffer = let most = h.ranges.buffer.most in omega (arith, most);
    key_a = key_below script.seed 0;
    key_b = key_below script.seed 2;
    nonces_a = record { each = λ i plan there. (nonces_below script 0 i script.paths plan there).0 };
    nonces_b = record { each = λ i plan there. (nonces_below script 0 i script.paths plan there).1 };
  },
)
  where
    size : (i : ℕ) (plan : PathPlan) → slice_get (plans_from script 0 script.paths) i ≡ Some plan → (29 ≤ plan.mss) × (plan.mss ≤ 65503)
    size i plan there =
        let found = plan_there script 0 i script.paths plan there in
        let mss = (line_fits i script.paths found.0 h.ranges.paths found.1).mss in
        let least = mss.least in let most = mss.most in let same = found.2.0 in
        (omega (arith, least, same), omega (arith, most, same))

pub short_of : (script : Script) (file_a file_b : List ℕ) → IsPlainScript script file_a file_b → IsShortScript script file_a file_b
short_of script file_a file_b h = record { ranges = h.ranges; short_a = h.short_a; short_b = h.short_b }

pub plain_scripts_start_plainly : PlainScriptsStartPlainly
plain_scripts_start_plainly script file_a file_b h =
    let fits = scripts_fit script file_a file_b (short_of script file_a file_b h) in
    (record { unaltered = λ path. alters_nothing path script.lines h.unaltered; size = fits.0 }, fits.1)

-- ---- promises

pub scripts_keep_anyway : ScriptsKeepAnyway
scripts_keep_anyway script file_a file_b turns h =
    let start = start_of script file_a file_b in
    let starts = scripts_fit script file_a file_b h in
    record {
      count = keep_count_in_octets start turns starts.0 starts.1;
      end = nothing_follows_in_octets start turns starts.0 starts.1;
      steps = one_step_each_in_octets start turns starts.0 starts.1;
      keys = keys_in_octets start turns starts.0 starts.1;
      joins = joins_in_octets start turns starts.0 starts.1;
      addresses = addresses_in_octets start turns starts.0 starts.1;
      copies = each_copy_is_welcome_in_octets start turns starts.0 starts.1;
      mappings = mappings_agree_in_octets start turns starts.0 starts.1;
      falls = falls_in_octets start turns starts.0 starts.1;
      lasting = falls_last_in_octets start turns starts.0 starts.1;
      places = places_in_octets start turns starts.0 starts.1;
      for_good = falls_for_good octets start turns;
      granted = granted_once octets start turns;
      standbys = backups_get_nothing octets start turns;
      announcements = announcements_end octets start turns;
      aborts = aborts_have_cause_in_octets start turns starts.0 starts.1;
      stopped = abort_is_last octets start turns;
      waiting = joins_wait octets start turns;
      infinite = infinite_mappings_are_heard_right start turns starts.0 starts.1;
      whole = places_were_in_octets start turns starts.0 starts.1;
    }

pub plain_scripts_keep_all_promises : PlainScriptsKeepAllPromises
plain_scripts_keep_all_promises script file_a file_b turns h =
    let start = start_of script file_a file_b in
    let starts = plain_scripts_start_plainly script file_a file_b h in
    record {
      word = keep_their_word_in_octets start turns starts.0 starts.1;
      refused = nothing_refused_in_octets start turns starts.0 starts.1;
      checks = checks_pass_in_octets start turns starts.0 starts.1;
      anyway = scripts_keep_anyway script file_a file_b turns (short_of script file_a file_b h);
    }

pub checked_scripts_keep_octets : CheckedScriptsKeepOctets
checked_scripts_keep_octets script file_a file_b turns h uses =
    let start = start_of script file_a file_b in
    let starts = scripts_fit script file_a file_b h in
    record { prefix = prefix_in_octets start turns starts.0 starts.1 uses; placed = placed_in_octets start turns starts.0 starts.1 uses }

pub scripts_are_shown_of_values : ScriptsAreShownOfValues
scripts_are_shown_of_values script file_a file_b turns h =
    let start = start_of script file_a file_b in
    let starts = scripts_fit script file_a file_b h in
    record { shown = run_fresh start turns starts.0 starts.1; short = short_numbers start turns; infinite = infinite_mappings_are_right start turns starts.0; sums = checksums_are_right start turns starts.0 }

-- ---- running

pub scripts_can_run : ScriptsCanRun
scripts_can_run script file_a file_b ranges = record { paths = record { each = at } }
  where
    at : (i : ℕ) (plan : PathPlan) → slice_get (plans_from script 0 script.paths) i ≡ Some plan → CanRunPath plan
    at i plan there =
        let found = plan_there script 0 i script.paths plan there in
        let line = line_fits i script.paths found.0 ranges.paths found.1 in
        let size = line.mss.least in let mss = found.2.0 in let wait = line.delay.least in let delay = found.2.1 in
        record { delay = omega (arith, wait, delay); payload = omega (arith, size, mss) }
