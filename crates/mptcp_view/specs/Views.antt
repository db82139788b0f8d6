-- What OUT shows of what the words ask for, and why it doesn't.
use Rattle.std.specs.Prelude.{◌≡◌, ◌≢◌, ◌⊎◌, Result, Ok, IfOk, IfErr, ℕ, ◌+◌, ◌/◌, ◌^◌, ◌≤◌, Option, Some, None, option_map, unwrap_or, IfSome, List, [], ◌∷◌, ◌++◌, length, take}
use Rattle.world_core.specs.Logged.{all_turns}
use Rattle.outside_kit.specs.Calls.{Call}
use Rattle.outside_kit.specs.Calls as call
use Rattle.outside_kit.specs.declared.port.Port.{Port}
use Rattle.outside_kit.specs.declared.port.Port.TheVariants as port
use Rattle.outside_kit.specs.Outside.{Told, HasRisen, HoldsAfter}
use Rattle.key_material.specs.KeyDigest.{idsn_of}
use Rattle.link_script.specs.declared.script.Script.{Script}
use Rattle.link_trace.specs.Captures.{blocks_of}
use Rattle.link_trace.specs.Carrying.{all_carried, base_of}
use Rattle.link_trace.specs.Intervals.{rates_text}
use Rattle.link_trace.specs.Lines.{lines_of}
use Rattle.link_trace.specs.Pictures.{picture_of}
use Rattle.link_trace.specs.Points.{seen_at}
use Rattle.link_trace.specs.Rows.{rows_of}
use Rattle.link_trace.specs.Tables.{summary_of}
use Rattle.link_trace.specs.Ticks.{AreByTick}
use Rattle.link_trace.specs.Told.{all_told}
use Rattle.link_trace.specs.declared.carried.Base.{Base}
use Rattle.link_trace.specs.declared.rows.Rates as table
use Rattle.link_trace.specs.declared.sent.Sent.{Sent}
use Rattle.link_trace.specs.declared.text.InitialData.{InitialData}
use Rattle.message_pipe.specs.Lined.{framed_told}
use Rattle.path_core.specs.Octets.{octets}
use Rattle.path_core.specs.Start.{key_of}
use Rattle.path_core.specs.State.{PathState}
use Rattle.pcap_text.specs.Blocks.{capture_text}
use Rattle.run_log.specs.declared.turn.Turn as logged
use Rattle.run_outside.specs.Inputs.{AreWithinLimits, IsLoggedFault, content_of, opening_count}
use Rattle.run_outside.specs.Loading.{InputAdds}
use Rattle.run_outside.specs.Plan.{AddsAll, AddsCut, loads_of}
use Rattle.run_outside.specs.Ports.{IsUntouched}
use Rattle.link_script.specs.Reading.{reading}
use Rattle.run_outside.specs.declared.input.Input.{Input}
use Rattle.run_outside.specs.declared.status.Named.TheVariants as named
use Rattle.run_outside.specs.declared.status.Status.{Status}
use Rattle.run_outside.specs.declared.status.Status.TheVariants as status
use Rattle.run_trace.specs.Initials.{initials_in}
use Rattle.run_trace.specs.Rates.{measured_in, rates_of}
use Rattle.run_trace.specs.Trace.{StopsAt, trace_of}
use Rattle.run_trace.specs.declared.making.TraceFault.{TraceFault}
use Rattle.run_trace.specs.declared.making.TraceFault.TheVariants as fault
use Rattle.run_words.specs.Lines.{Line}
use Rattle.trace_json.specs.Pages.{page_of}
use Rattle.trace_json.specs.Runs.{IsJsonOf, Run}
use Rattle.sides.specs.declared.side.Side.{Side}
use Rattle.sides.specs.declared.side.Side.TheVariants.{A}
use Rattle.world_core.specs.Looking.{path_at}
use Rattle.world_laws.specs.Openings.{opened_world, start_of}
use Rattle.world_laws.specs.Worlds.{AreLawful, Turn, WorldState, world_run}
use Rattle.mptcp_view.specs.Asking.{Asking}
use Rattle.mptcp_view.specs.Cutting.{IsRead, IsUnread}
use Rattle.mptcp_view.specs.Deaths.{deaths_in}
use Rattle.mptcp_view.specs.Telling.{untold}
use Rattle.mptcp_view.specs.declared.asking.DataNumbers.{DataNumbers}
use Rattle.mptcp_view.specs.declared.asking.DataNumbers.TheVariants.{Relative, Absolute}
use Rattle.mptcp_view.specs.declared.asking.View.{View}
use Rattle.mptcp_view.specs.declared.asking.View.TheVariants.{Capture, Rates, Summary, Picture, Text, Json, Page}
use Rattle.mptcp_view.specs.declared.cutting.Extent.{Extent}

-- ---- the view

-- the connection before its first step
abbrev pub first_world : Input → WorldState (List ℕ)
first_world input = opened_world (start_of input.script input.file_a input.file_b)

-- the numbers from which those of a run of this script count
abbrev pub base_in : Script → Base
base_in script = base_of (key_of script.seed 0) (key_of script.seed 2) script.checksum

-- the initial data sequence numbers of both sides, from which data numbers are told; none where they are told as they stand
abbrev pub data_in : DataNumbers → Script → Option InitialData
data_in Relative script = Some (record { a = idsn_of (key_of script.seed 0); b = idsn_of (key_of script.seed 2) })
data_in Absolute script = None

-- the tick at which a run ended: clocks meet as a round ends, so that of path 0, which is the actor 2
abbrev pub end_of : WorldState (List ℕ) → ℕ
end_of w = unwrap_or (option_map (λ (p : PathState (List ℕ)). p.clock) (path_at 2 w.crew)) 0

-- the capture of what this side sees of these segments, by tick
abbrev pub IsCaptureAt : Side → Script → ℕ → List Sent → List ℕ → Type 0
IsCaptureAt side script end told shown =
    (seen : List Sent) × (AreByTick (seen_at side script.paths end told) seen × (shown ≡ capture_text (blocks_of side (length script.paths) seen)))

-- the picture of these segments of a run of this script, whose ends measured this, and which ended with this world; it has 2 MiB at most
abbrev pub IsPictureOf : Script → WorldState (List ℕ) → List table.Rates → List Sent → List ℕ → Type 0
IsPictureOf script w measured told shown =
    (shown ≡ picture_of (length script.paths) (deaths_in w script.lines) measured (all_carried (base_in script) (initials_in script) told))
    × (length shown ≤ 2 ^ 21)

-- what is told of a run of this script, which ended with this world, where its segments stand in this order
abbrev pub run_of : Script → WorldState (List ℕ) → List Sent → Run
run_of script w told = record {
  script = script;
  key_a = key_of script.seed 0;
  key_b = key_of script.seed 2;
  end = end_of w;
  trace = told;
  carried = all_carried (base_in script) (initials_in script) told;
  words = all_told script.checksum (data_in Relative script) told told;
  rows = rows_of (rates_of w.crew) (all_carried (base_in script) (initials_in script) told);
}

abbrev pub IsPageOf : Run → List ℕ → Type 0
IsPageOf run shown = (json : List ℕ) × (IsJsonOf run json × (shown ≡ page_of json))

-- a view of these segments of a run of this script, whose ends measured this as its rounds ended, and which ended with this world
module _ (script : Script) (w : WorldState (List ℕ)) (measured : List table.Rates) where
  abbrev pub IsViewFrom : View → List Sent → List ℕ → Type 0
  -- as they are handed to the links, with directions as A sees them
  IsViewFrom (Capture None) told shown = shown ≡ capture_text (blocks_of A (length script.paths) told)
  IsViewFrom (Capture (Some side)) told shown = IsCaptureAt side script (end_of w) told shown
  IsViewFrom Rates told shown =
      shown ≡ rates_text measured (length script.paths) (end_of w / 100) (all_carried (base_in script) (initials_in script) told)
  IsViewFrom Summary told shown = shown ≡ summary_of (rates_of w.crew) (all_carried (base_in script) (initials_in script) told)
  IsViewFrom (Text numbers) told shown = shown ≡ lines_of script.checksum (data_in numbers script) told
  IsViewFrom Picture told shown = IsPictureOf script w measured told shown
  IsViewFrom Json told shown = IsJsonOf (run_of script w told) shown
  IsViewFrom Page told shown = IsPageOf (run_of script w told) shown

  -- the segments stand by tick
  abbrev pub IsShownByTick : View → List Sent → List ℕ → Type 0
  IsShownByTick view trace shown = (told : List Sent) × (AreByTick trace told × IsViewFrom view told shown)

-- a view of what these turns send
abbrev pub IsViewOf : View → Input → List Turn → List ℕ → Type 0
IsViewOf view input turns shown =
    let w = first_world input in
    IsShownByTick input.script (world_run octets turns w) (measured_in turns w) view (trace_of turns w) shown

-- ---- the inputs

-- the inputs and the log are those of the line, as far as they are told, and each is within its limit
pub record AreInputs (content : List ℕ → Option (List ℕ)) (line : Line) (input : Input) (log : List ℕ) : Type 0 where
  pub within : AreWithinLimits content line
  pub script : IfSome (content line.names.script) (λ told. reading told ≡ Ok input.script)
  pub file_a : IfSome (content line.names.file_a) (λ told. input.file_a ≡ told)
  pub file_b : IfSome (content line.names.file_b) (λ told. input.file_b ≡ told)
  pub whole : IfSome (content_of content line named.Order) (λ told. log ≡ told)

-- some inputs of this line, of which this holds
abbrev pub WithInputs : (List ℕ → Option (List ℕ)) → Line → (Input → List ℕ → Type 0) → Type 0
WithInputs content line P = (input : Input) × ((log : List ℕ) × (AreInputs content line input log × P input log))

-- P holds of some inputs of this line and of what is read of its log: how much of it, its octets, and their turns
abbrev pub WithTurns : (List ℕ → Option (List ℕ)) → Line → (Extent → Input → List ℕ → List Turn → Type 0) → Type 0
WithTurns content line P = WithInputs content line (λ input log.
    (extent : Extent) × ((part : List ℕ) × ((turns : List logged.Turn)
    × (IsRead input.script log extent part turns × P extent input part (all_turns turns)))))

-- The turns that are read can be made, what they send is just what their lines tell, and this holds of a view of it.
abbrev pub WithView : (List ℕ → Option (List ℕ)) → Asking → (Extent → List ℕ → Type 0) → Type 0
WithView content asked P = WithTurns content asked.line (λ extent input part turns.
    AreLawful octets turns (first_world input) × ((untold part (trace_of turns (first_world input)) ≡ None)
    × ((shown : List ℕ) × (IsViewOf asked.view input turns shown × P extent shown))))

-- ---- OUT

-- OUT is made anew, and this is put
abbrev pub out_calls : List ℕ → List ℕ → List Call
out_calls out shown = call.Bind port.ReadByB out ∷ call.Put port.ReadByB shown ∷ []

-- behind the loads of all inputs
abbrev pub view_calls : Line → List ℕ → List Call
view_calls line shown = loads_of line ++ out_calls line.names.read_by_b shown

-- where a port told what it held, it holds that, or the first octets of this text
abbrev pub HoldsCut : Option (List ℕ) → Option (List ℕ) → List ℕ → Type 0
HoldsCut old new shown = IfSome old (λ held. (new ≡ Some held) ⊎ ((count : ℕ) × (new ≡ Some (take count shown))))

-- OUT can't be written
abbrev pub IsOutFault : ℕ → ℕ → Status → Type 0
IsOutFault old new (status.Put at) = (at ≡ port.ReadByB) × HasRisen old new
IsOutFault old new status.Memory = Unit {0}
IsOutFault old new _ = ⊥

-- ---- why nothing is shown

-- a line of the log tells another segment than the one that is sent
abbrev pub IsUntold : List ℕ → List Sent → Status → Type 0
IsUntold log trace (status.Log line) = untold log trace ≡ Some line
IsUntold log trace status.Memory = Unit {0}
IsUntold log trace _ = ⊥

-- the turn at this line of the log can't be made; or all can, and this line tells another segment than the one that is sent
abbrev pub IsTurnsFault : List Turn → Input → List ℕ → Status → Type 0
IsTurnsFault turns input part (status.Log line) =
    ((place : ℕ) × ((line ≡ opening_count part + place + 1) × StopsAt place turns (first_world input)))
    ⊎ (untold part (trace_of turns (first_world input)) ≡ Some line)
IsTurnsFault turns input part status.Memory = Unit {0}
IsTurnsFault turns input part _ = ⊥

-- where so many lines stand before the first turn; the first line of the log is line 1
abbrev pub stopped_at : ℕ → TraceFault → Status
stopped_at lines (fault.Turn place) = status.Log (lines + place + 1)
stopped_at lines fault.Memory = status.Memory

-- the status comes before OUT is made anew; want of memory, which may come at any time, isn't among those
abbrev pub IsBeforeOut : Status → Type 0
IsBeforeOut (status.Put at) = ⊥
IsBeforeOut status.Memory = ⊥
IsBeforeOut _ = Unit {0}

-- ---- what is answered

-- of a run of messages: its files hold the frames of their lines, and its calls aren't told
abbrev pub over_frames : Line → Told → Told
over_frames line t = framed_told line.names.file_a line.names.file_b t

module _ (asked : Asking) (old new : Told) where
  -- OUT holds the view of what the turns of so much of the log send: it was put, all inputs being loaded
  abbrev pub Shows : Extent → Type 0
  Shows extent = WithView old.content asked (λ read shown. (read ≡ extent)
      × (HoldsAfter (old.holds port.ReadByB) (new.holds port.ReadByB) (λ _. shown) × AddsAll (view_calls asked.line shown) old.calls new.calls))

  -- a view of what was asked was made, and not written whole
  abbrev pub IsCut : Status → Type 0
  IsCut s = WithView old.content asked (λ read shown.
      HoldsCut (old.holds port.ReadByB) (new.holds port.ReadByB) shown × AddsCut (view_calls asked.line shown) s old.calls new.calls)

  -- what is loaded, or OUT; what is refused of a log is its form, the first turn that can't be made, or the first line that tells
  -- another segment
  abbrev pub IsViewFault : Status → Type 0
  IsViewFault (status.Put at) =
      IsOutFault (old.port_faults port.ReadByB) (new.port_faults port.ReadByB) (status.Put at) × IsCut (status.Put at)
  IsViewFault status.Memory =
      (IsUntouched old new × AddsCut (loads_of asked.line) status.Memory old.calls new.calls) ⊎ IsCut status.Memory
  IsViewFault (status.Log at) =
      (WithInputs old.content asked.line (λ input log. IsUnread input.script log (status.Log at))
      ⊎ WithTurns old.content asked.line (λ extent input part turns. IsTurnsFault turns input part (status.Log at)))
      × AddsAll (loads_of asked.line) old.calls new.calls
  IsViewFault s =
      IsLoggedFault old.content asked.line old.load_faults new.load_faults s × InputAdds asked.line (loads_of asked.line) old.calls new.calls s

  -- how a view ends, of a run of messages too: then the files of these contents are the frames of their lines
  pub record IsViewAnswer (result : Result Extent Status) : Type 0 where
    pub shown : IfOk result Shows
    pub fault : IfErr result IsViewFault
    -- after an error before OUT no port was touched
    pub untouched : IfErr result (λ s. IsBeforeOut s → IsUntouched old new)
    -- of the ports only that of OUT is touched
    pub other_ports : (at : Port) → at ≢ port.ReadByB → new.holds at ≡ old.holds at
    pub other_counts : (at : Port) → at ≢ port.ReadByB → new.port_faults at ≡ old.port_faults at
