-- The table of events (after RFC 8684, sections 3.7 and 3.8): for each event its rows, of which the first that applies
-- decides. What no row names changes nothing.
use Rattle.std.specs.Prelude.{ℕ, Bool, true, false, not, ◌&&◌, ◌==◌, if◌then◌else◌, Option, Some, None, is_none}
use Rattle.fallback_state.specs.declared.fall.Fall.{Fall}
use Rattle.fallback_state.specs.declared.fall.Mode.{Mode}
use Rattle.fallback_state.specs.declared.fall.Mode.TheVariants.{Sure, Identity, Aborted}
use Rattle.fallback_state.specs.declared.fall.Event.{Event}
use Rattle.fallback_state.specs.declared.fall.Event.TheVariants.{PlainHandshake, PlainData, PlainAck, KeysHeard, MappingHeard, AckHeard, InfiniteHeard, CheckFailed, FailHeard, Stop}
use Rattle.fallback_state.specs.declared.fall.Verdict.{Verdict}
use Rattle.fallback_state.specs.declared.fall.Verdict.TheVariants.{Stay, Went, SendFail, BreakPath}
use Rattle.fallback_state.specs.Modes.{is_starting, is_identity, reads_mappings, writes_mappings, with_infinite_receive, with_infinite_send}

-- a row that changes nothing
abbrev pub stays : Fall → Fall × Verdict
stays fall = (fall, Stay)

-- a row that gives the side a new mode
abbrev pub goes : Mode → Fall → Fall × Verdict
goes mode fall = (record fall { mode = mode }, Went mode)

-- a row that resets the path for this reason (RFC 8684, section 3.6), and changes nothing at the side
abbrev pub breaks : ℕ → Fall → Fall × Verdict
breaks reason fall = (fall, BreakPath reason)

-- the path is the one on which a checksum was wrong
abbrev pub is_failed_path : Option ℕ → ℕ → Bool
is_failed_path (Some failed) path = failed == path
is_failed_path None path = false

-- PlainHandshake, PlainData, PlainAck: a side that is not sure and joined nothing falls back to plain TCP.
abbrev pub after_plain : Fall → Fall × Verdict
after_plain fall = if is_starting fall.mode && not fall.joined then goes Identity fall else stays fall

-- KeysHeard: unless it fell back, the side is confirmed.
abbrev pub after_keys : Fall → Fall × Verdict
after_keys fall = if is_identity fall.mode then stays fall else (record fall { confirmed = true }, Stay)

-- MappingHeard, AckHeard: the first one makes the side sure.
abbrev pub after_sure_sign : Fall → Fall × Verdict
after_sure_sign fall = if is_starting fall.mode then goes Sure fall else stays fall

-- InfiniteHeard, while the peer's mappings count: after a failed checksum on this path, which is the sole one, the side
-- receives under the infinite mapping. Else a side that joined nothing, where nothing failed and which does not send
-- under an infinite mapping, falls back to plain TCP. Else the path is broken, with reason 1.
abbrev pub after_infinite : ℕ → Bool → Fall → Fall × Verdict
after_infinite path sole fall =
    if not (reads_mappings fall.mode) then stays fall
    else (if sole && is_failed_path fall.failed path then goes (with_infinite_receive fall.mode) fall
    else (if writes_mappings fall.mode && not fall.joined && is_none fall.failed then goes Identity fall
    else breaks 1 fall))

-- CheckFailed, while the peer's mappings count: on the sole path it is noted and told by MP_FAIL. Else the path is
-- broken, with reason 6.
abbrev pub after_failed_check : ℕ → Bool → Fall → Fall × Verdict
after_failed_check path sole fall =
    if not (reads_mappings fall.mode) then stays fall
    else (if sole then (record fall { failed = Some path }, SendFail) else breaks 6 fall)

-- FailHeard, while the own mappings count: on the sole path, where the data is contiguous, the side sends under an
-- infinite mapping. Else the path is broken, with reason 1.
abbrev pub after_fail : Bool → Bool → Fall → Fall × Verdict
after_fail sole contiguous fall =
    if not (writes_mappings fall.mode) then stays fall
    else (if sole && contiguous then goes (with_infinite_send fall.mode) fall else breaks 1 fall)

-- the table: where a side stands after an event on a path, which may be the side's sole one, and what it does about it
abbrev pub fall_step : Fall → ℕ → Bool → Event → Fall × Verdict
fall_step fall path sole PlainHandshake = after_plain fall
fall_step fall path sole PlainData = after_plain fall
fall_step fall path sole PlainAck = after_plain fall
fall_step fall path sole KeysHeard = after_keys fall
fall_step fall path sole MappingHeard = after_sure_sign fall
fall_step fall path sole AckHeard = after_sure_sign fall
fall_step fall path sole InfiniteHeard = after_infinite path sole fall
fall_step fall path sole CheckFailed = after_failed_check path sole fall
fall_step fall path sole (FailHeard contiguous) = after_fail sole contiguous fall
fall_step fall path sole Stop = goes Aborted fall
