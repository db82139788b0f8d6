-- The trace of a run fits a capture.
use Rattle.std.proofs.Common.{◌≡◌, refl, sym, ap, subst, ℕ, ◌≤◌, ◌<◌, ◌^◌, Option, Some, None, option_map, List, [], ◌∷◌, length, arith}
use Rattle.std.specs.Prelude.{All}
use Rattle.std.specs.List.{slice_get}
use Rattle.std.specs.Option.{IfSome, option_and_then, option_to_list}
use Rattle.std.proofs.lemmas.List.Elements.{All-append, All-cons, All-nil}
use Rattle.link_trace.specs.declared.sent.Sent.{Sent}
use Rattle.path_core.specs.Looking.{departing_as, first_sends, segment_sent}
use Rattle.path_core.specs.Octets.{made, octets}
use Rattle.path_core.specs.End.{PathEnd}
use Rattle.path_core.specs.Said.{said_by}
use Rattle.link_model.specs.Steps.{next_number}
use Rattle.path_segments.specs.Spelled.{PlainSegment}
use Rattle.path_core.specs.Shown.{shown_path}
use Rattle.path_core.specs.State.{PathState, end_at}
use Rattle.path_core.specs.Values.{Carried, values}
use Rattle.run_trace.specs.Trace.{sent_as, sent_at, sent_by, sent_next, trace_of}
use Rattle.sides.specs.declared.side.Side.TheVariants.{A, B}
use Rattle.sides.specs.declared.side.Side.{Side}
use Rattle.stream_lanes.proofs.Lists.{in_map}
use Rattle.stream_lanes.specs.Words.{Every}
use Rattle.world_core.specs.Looking.{crew_path, member_path}
use Rattle.world_laws.proofs.Promises.Made.{run_fresh}
use Rattle.world_laws.specs.Actors.{Actor, ActorCrew}
use Rattle.world_laws.specs.Fresh.{shown_crew, shown_member}
use Rattle.world_laws.specs.Openings.{Start, opened_world}
use Rattle.world_laws.specs.Promises.{HasRoom, NumbersFit}
use Rattle.world_laws.specs.Worlds.{Turn, WorldState, after_turn, world_run}
use Rattle.world_laws.specs.declared.member.Member.TheVariants.{App, Path}
use Rattle.own_runs.specs.Fitting.{LineIsShort, TracesFit}
use Rattle.own_runs.specs.Traces.{FitsCapture}
use Rattle.own_runs.proofs.FateWords.{fate_short}
use Rattle.own_runs.proofs.Moments.{MemberSpeaks, PathSpeaks, Spoken, end_shown, first_same, valued}
use Rattle.own_runs.proofs.ShortOctets.{IsLight, first_light, octets_few}
use Rattle.own_runs.proofs.ShortPieces.{IsShort, MemberShort, PathShort, always_short}
use Rattle.own_runs.proofs.Speaking.{ToSend}
use Rattle.own_runs.proofs.Ticks.{MemberTimed, PathTimed, always_timed}

-- what a member sends next fits
abbrev MemberFits : Actor (List ℕ) → Type 0
MemberFits (App a) = Unit {0}
MemberFits (Path p) = IfSome (sent_by p) FitsCapture

module _ (start : Start) (turns : List Turn) (few : length turns < 2 ^ 57) (lines : Every LineIsShort start.lines) where
  path_fits : (p : PathState Carried) → PathSpeaks start p → PathShort 65467 p → PathTimed start (length turns) p → IfSome (sent_by (shown_path p)) FitsCapture
  path_fits p said short timed = by (first_sends p.agenda p) (first_sends (shown_path p).agenda (shown_path p)) (first_same p.agenda p) said.5 (first_light 65467 p records p.agenda)
    where
      records : (s : Side) → Every (IsShort 65467) (end_at s p).tcp.send.records
      records A = short.a
      records B = short.b

      each_line : Every LineIsShort p.link.lines
      each_line = record { each = λ i line at. let found = timed.lines.each i line at in subst LineIsShort found.holds (lines.each found.at found.item found.there) }

      one : (t : ToSend) → Spoken start said.0 p.profile t.from (end_at t.from p) (segment_sent p t) → IsLight 65467 p records t → FitsCapture (sent_as (shown_path p) (departing_as (shown_path p) t))
      one t spoken light =
          let size = octets_few 65467 p.profile t.from (segment_sent p t) (omega arith) spoken.tells.sayable light in
          let same : segment_sent (shown_path p) t ≡ segment_sent p t = ap (λ (e : PathEnd). said_by t.kind p.profile t.from e) (sym (end_shown t.from p)) in
          record {
            tick = let clock = timed.clock in let until = timed.until in omega (arith, clock, until, few);
            comment = fate_short t.from (next_number t.from (shown_path p).link) (length (made p.profile.spelling t.from (segment_sent (shown_path p) t))) p.clock (shown_path p).link each_line;
            octets = subst (λ (sg : PlainSegment). length (made p.profile.spelling t.from sg) ≤ 65515) (sym same) size;
          }

      by : (o q : Option ToSend) → q ≡ o → IfSome o (λ t. Spoken start said.0 p.profile t.from (end_at t.from p) (segment_sent p t)) → IfSome o (IsLight 65467 p records)
          → IfSome (option_map (sent_as (shown_path p)) (option_map (departing_as (shown_path p)) q)) FitsCapture
      by None q same spoken light = subst (λ (q : Option ToSend). IfSome (option_map (sent_as (shown_path p)) (option_map (departing_as (shown_path p)) q)) FitsCapture) (sym same) tt
      by (Some t) q same spoken light =
          subst (λ (q : Option ToSend). IfSome (option_map (sent_as (shown_path p)) (option_map (departing_as (shown_path p)) q)) FitsCapture) (sym same) (one t spoken light)

  member_fits : (m : Actor Carried) → MemberSpeaks start m → MemberShort 65467 m → MemberTimed start (length turns) m → MemberFits (shown_member m)
  member_fits (App a) said short timed = tt
  member_fits (Path p) said short timed = path_fits p said short timed

-- ---- worlds

abbrev WorldFits : WorldState (List ℕ) → Type 0
WorldFits w = (i : ℕ) (c : ActorCrew (List ℕ)) → slice_get w.crew i ≡ Some c → MemberFits c.member

module _ (start : Start) (size : HasRoom start) (fit : NumbersFit start) where
  world_fits : (turns : List Turn) → length turns < 2 ^ 57 → Every (λ plan. plan.mss ≤ 65495) start.paths → Every LineIsShort start.lines → WorldFits (world_run octets turns (opened_world start))
  world_fits turns few small lines =
      subst WorldFits (sym (run_fresh start turns size fit))
      (λ i c at.
      let found = in_map shown_crew (world_run values turns (opened_world start)).crew i c at in
      subst (λ (y : ActorCrew (List ℕ)). MemberFits y.member) found.2
      (member_fits start turns few lines found.0.member (valued start turns size fit i found.0 found.1)
      (always_short 65467 start turns (λ number plan there. let most = small.each number plan there in omega (arith, most)) i found.0 found.1)
      (always_timed start turns i found.0 found.1)))

some_fit : (o : Option Sent) → IfSome o FitsCapture → All FitsCapture (option_to_list o)
some_fit None h = All-nil FitsCapture
some_fit (Some x) h = All-cons FitsCapture x [] h (All-nil FitsCapture)

next_fits : (i : ℕ) (w : WorldState (List ℕ)) → WorldFits w → IfSome (sent_next i w) FitsCapture
next_fits i w h = by (slice_get w.crew i) refl
  where
    member : (m : Actor (List ℕ)) → MemberFits m → IfSome (option_and_then sent_by (member_path m)) FitsCapture
    member (App a) h = tt
    member (Path p) h = h

    by : (o : Option (ActorCrew (List ℕ))) → slice_get w.crew i ≡ o → IfSome (option_and_then sent_by (crew_path o)) FitsCapture
    by None at = tt
    by (Some c) at = member c.member (h i c at)

turn_fits : (turn : Turn) (w : WorldState (List ℕ)) → WorldFits w → All FitsCapture (sent_at turn w)
turn_fits (Turn.Step i) w h = some_fit (sent_next i w) (next_fits i w h)
turn_fits Turn.Round w h = All-nil FitsCapture

run_fits : (turns : List Turn) (w : WorldState (List ℕ)) → ((more : List Turn) → length more ≤ length turns → WorldFits (world_run octets more w)) → All FitsCapture (trace_of turns w)
run_fits [] w h = All-nil FitsCapture
run_fits (turn ∷ turns) w h =
    All-append FitsCapture (sent_at turn w) (trace_of turns (after_turn octets turn w)) (turn_fits turn w (h [] (omega arith)))
    (run_fits turns (after_turn octets turn w) (λ more few. h (turn ∷ more) (omega (arith, few))))

pub traces_fit : TracesFit
traces_fit start turns size fit run =
    run_fits turns (opened_world start) (λ more less. world_fits start size fit more (let few = run.few in omega (arith, few, less)) run.size run.lines)
