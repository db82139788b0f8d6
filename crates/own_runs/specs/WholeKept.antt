-- What the judge says of the capture of a connection whose script alters no payload and takes no options away.
use Rattle.std.specs.Prelude.{◌≡◌, ◌≤◌, ℕ, true, if◌then◌else◌, Option, Some, Ok, List, [], length}
use Rattle.capture_verdict.specs.Ending.{ending_of, has_none}
use Rattle.capture_verdict.specs.Judging.{judged_capture}
use Rattle.capture_verdict.specs.Report.{kept_line, side_words, strays_words}
use Rattle.capture_verdict.specs.declared.ending.Ending.TheVariants.{Kept, NoConnection}
use Rattle.capture_verdict.specs.declared.totals.Unread.{Unread}
use Rattle.judge_laws.specs.GoesOn.{stream_in}
use Rattle.judge_words.specs.Lines.{kept_words}
use Rattle.path_core.specs.Octets.{octets}
use Rattle.rule_book.specs.State.{JudgedValue}
use Rattle.seen_streams.specs.State.{StreamValue}
use Rattle.sides.specs.declared.side.Side.{Side}
use Rattle.world_laws.specs.NeverFalls.{IsWhole}
use Rattle.world_laws.specs.Openings.{Start, opened_world}
use Rattle.world_laws.specs.Outcomes.{outcome_of}
use Rattle.world_laws.specs.Promises.{IsPlain, NumbersFit}
use Rattle.world_laws.specs.Worlds.{Turn, world_run}
use Rattle.world_laws.specs.declared.outcome.Outcome.TheVariants.{Delivered}
use Rattle.own_runs.specs.Fitting.{RunFits}
use Rattle.own_runs.specs.Runs.{capture_of}

-- At most one connection is seen. Where it is, no side broke a rule, and no join was refused.
pub record EndsWell (judged : JudgedValue) : Type 0 where
  pub one : length judged.books ≤ 1
  pub ending : ending_of judged ≡ (if has_none judged.books then NoConnection else Kept)

-- the capture is read, and the judge ends well with it
abbrev pub WholeRunsEndWell : Type 0
WholeRunsEndWell =
    (start : Start) (turns : List Turn) → IsPlain start → IsWhole start → NumbersFit start → RunFits start turns
    → (side : Side) (at : Option Side)
    → (judged : JudgedValue) × (judged_capture at true (capture_of start turns side) ≡ Ok judged) × EndsWell judged

-- Once such a run is delivered its connection is seen, and kept.
abbrev pub DeliveredRunsAreKept : Type 0
DeliveredRunsAreKept =
    (start : Start) (turns : List Turn) → IsPlain start → IsWhole start → NumbersFit start → RunFits start turns
    → outcome_of (world_run octets turns (opened_world start)).crew ≡ Delivered → (side : Side) (at : Option Side)
    → (judged : JudgedValue) → judged_capture at true (capture_of start turns side) ≡ Ok judged → ending_of judged ≡ Kept

-- what is told of such a run: each side's line says that it kept all rules, and no line is of a join
abbrev pub WholeReportsAreKept : Type 0
WholeReportsAreKept =
    (start : Start) (turns : List Turn) → IsPlain start → IsWhole start → NumbersFit start → RunFits start turns
    → (side : Side) (at : Option Side) (judged : JudgedValue) → judged_capture at true (capture_of start turns side) ≡ Ok judged
    → ((connection : ℕ) (s : Side) (stream : StreamValue) → stream_in judged connection s ≡ Some stream
    → (unread : Unread) (syn_data : ℕ) → side_words s stream unread syn_data ≡ kept_words (kept_line s stream unread syn_data))
    × (strays_words judged.seen.flows ≡ [])
