-- In the capture of a run no rule on tokens and options is broken.
use Rattle.std.proofs.Common.{◌≡◌, refl, sym, ap, ◌∙◌, ℕ, suc, ◌<◌, true, Ok, Result, List, [], ◌∷◌, length, map, arith}
use Rattle.std.specs.Prelude.{All}
use Rattle.std.proofs.lemmas.List.Elements.{All-cons, All-nil}
use Rattle.std.proofs.lemmas.Option.{slice_get_within}
use Rattle.capture_reader.specs.Captured.{Captured}
use Rattle.capture_reader.specs.Steps.{◌>>=◌}
use Rattle.capture_verdict.specs.Judging.{judged_packets}
use Rattle.judge_laws.specs.GoesOn.{stream_in}
use Rattle.sides.specs.declared.side.Side.{Side}
use Rattle.judge_rules.specs.declared.finding.Rule.{Rule}
use Rattle.link_trace.specs.declared.sent.Sent.{Sent}
use Rattle.rule_book.specs.Judged.{nothing_judged}
use Rattle.rule_book.specs.State.{JudgedValue}
use Rattle.run_trace.specs.Trace.{trace_of}
use Rattle.stream_lanes.specs.Words.{Every}
use Rattle.world_laws.specs.Openings.{Start, opened_world}
use Rattle.own_runs.specs.Runs.{NoRunBreaks}
use Rattle.own_runs.proofs.Fitting.{traces_fit}
use Rattle.own_runs.specs.Traces.{packet_for}
use Rattle.path_core.specs.Octets.{octets}
use Rattle.path_segments.specs.Spelled.{PlainSegment}
use Rattle.world_laws.specs.Worlds.{world_run}
use Rattle.own_runs.proofs.LateJoins.{trace_behind}
use Rattle.own_runs.proofs.Moments.{IsSpoken, Nothing, also_nothing, trace_spoken}
use Rattle.own_runs.proofs.OwnUntold.{none_broke}
use Rattle.own_runs.proofs.OwnPositions.{is_option}
use Rattle.own_runs.proofs.Traces.{traces_are}

pub all_on : (Q : ℕ → Side → PlainSegment → Type 0) (start : Start) (trace : List Sent) → Every (IsSpoken Q start) trace → All (λ s. s.path < length start.paths) trace
all_on Q start [] each = All-nil (λ s. s.path < length start.paths)
all_on Q start (x ∷ trace) each =
    All-cons (λ s. s.path < length start.paths) x trace (let s = each.each 0 x refl in slice_get_within start.paths x.path s.plan s.there)
    (all_on Q start trace (record { each = λ i y at. each.each (suc i) y at }))

pub same_judged : (one other : JudgedValue) → {E : Type 0} → (let made : Result JudgedValue E = Ok one in made) ≡ Ok other → one ≡ other
same_judged one other e = cc

pub no_run_breaks : (r : Rule) → is_option r ≡ true → NoRunBreaks r
no_run_breaks r is start turns size fit run side at judged read connection s stream there =
    let trace = trace_of turns (opened_world start) in
    let room = traces_fit start turns size fit run in
    let spoken = trace_spoken Nothing start turns size fit (λ more later is. also_nothing (world_run octets more (opened_world start))) in
    let packets = map packet_for trace in
    let few = fit.paths in
    let all = traces_are side (length start.paths) trace (omega (arith, few)) (all_on Nothing start trace spoken) room in
    let same : judged_packets at true nothing_judged 1 packets ≡ judged =
    same_judged (judged_packets at true nothing_judged 1 packets) judged
    (sym (ap (λ (m : Result (List Captured) ℕ). m >>= λ packets. Ok (judged_packets at true nothing_judged 1 packets)) all) ∙ read) in
    none_broke start at trace (trace_behind start turns size fit) room connection s stream
    (ap (λ (j : JudgedValue). stream_in j connection s) same ∙ there) r is
