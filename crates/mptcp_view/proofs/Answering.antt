-- What is answered is put together of what its parts answer.
use Rattle.std.proofs.Common.{◌≡◌, ◌≢◌, ◌∙◌, refl, sym, ap, subst, ℕ, List, Option, None, Result, Ok, Err, IfSome, IfOk}
use Rattle.std.specs.Prelude.{option_and_then}
use Rattle.world_core.specs.Logged.{all_turns}
use Rattle.link_script.specs.declared.script.Script.{Script}
use Rattle.link_trace.specs.Carrying.{all_carried}
use Rattle.link_trace.specs.Tables.{summary_of}
use Rattle.link_trace.specs.declared.carried.Carried.{Carried}
use Rattle.link_trace.specs.declared.rows.Rates.{Rates}
use Rattle.link_trace.specs.declared.sent.Sent.{Sent}
use Rattle.outside_kit.specs.Outside.{Told, HoldsAfter}
use Rattle.outside_kit.specs.declared.port.Port.{Port}
use Rattle.outside_kit.specs.declared.port.Port.TheVariants.{ReadByB}
use Rattle.path_core.specs.Octets.{octets}
use Rattle.run_log.specs.declared.turn.Turn as logged
use Rattle.run_outside.specs.Inputs.{AreWithinLimits, order_of}
use Rattle.run_outside.specs.Plan.{AddsAll, AddsCut, loads_of}
use Rattle.run_outside.specs.Ports.{IsUntouched}
use Rattle.run_outside.proofs.Calls.{all_then, cut_then}
use Rattle.link_script.specs.Reading.{reading}
use Rattle.run_outside.specs.declared.input.Input.{Input}
use Rattle.run_outside.specs.declared.status.Status.{Status}
use Rattle.run_trace.specs.Initials.{initials_in}
use Rattle.run_trace.specs.Rates.{measured_in, rates_of}
use Rattle.run_trace.specs.Trace.{trace_of}
use Rattle.run_words.specs.Lines.{Work, replay}
use Rattle.world_core.specs.Kept.{Kept, standing}
use Rattle.world_laws.specs.Worlds.{AreLawful, Turn, WorldState, world_run}
use Rattle.mptcp_view.specs.Asking.{Asking}
use Rattle.mptcp_view.specs.Cutting.{IsRead}
use Rattle.mptcp_view.specs.Telling.{untold}
use Rattle.mptcp_view.specs.declared.cutting.Extent.{Extent}
use Rattle.mptcp_view.specs.Views.{AreInputs, HoldsCut, IsOutFault, IsShownByTick, IsViewAnswer, IsViewFault, IsViewFrom, IsViewOf, Shows, WithView, base_in, first_world, out_calls}
use Rattle.mptcp_view.specs.declared.asking.View.{View}
use Rattle.mptcp_view.specs.declared.asking.View.TheVariants.{Summary}
use Rattle.mptcp_view.proofs.Refusing.{late, out_refused}

-- the table of what a trace carries
pub table_shown : {V E : Type 0} (items : V → List ℕ) (view : View) (script : Script) (w : WorldState (List ℕ)) (measured : List Rates) (trace : List Sent) (rates : List Rates) (carried : List Carried)
    → view ≡ Summary → rates ≡ rates_of w.crew → carried ≡ all_carried (base_in script) (initials_in script) trace
    → (r : Result V E) → IfOk r (λ text. items text ≡ summary_of rates carried) → IfOk r (λ shown. IsViewFrom script w measured view trace (items shown))
table_shown items view script w measured trace rates carried is rates_are carried_are (Err e) h = tt
table_shown items view script w measured trace rates carried is rates_are carried_are (Ok text) h = rw (is, ← rates_are, ← carried_are) h

-- the view of turns that were made in the connection's first world
pub view_made : (view : View) (input : Input) (turns order : List Turn) (old new : Kept) (measured : List Rates) (trace : List Sent) (shown : List ℕ)
    → old ≡ standing (first_world input) → order ≡ turns → new ≡ standing (world_run octets order old.state) → measured ≡ measured_in order old.state → trace ≡ trace_of order old.state
    → IsShownByTick input.script new.state measured view trace shown → IsViewOf view input turns shown
view_made view input turns order old new measured trace shown opened order_is new_is measured_is trace_is h =
    let W : Type 0 = WorldState (List ℕ) in let first : W = first_world input in let e : old.state ≡ first = ap (λ (k : Kept). k.state) opened in
    let world : new.state ≡ world_run octets turns first =
    ap (λ (k : Kept). k.state) new_is ∙ ap (λ (ts : List Turn). world_run octets ts old.state) order_is ∙ ap (λ (w : W). world_run octets turns w) e in
    let rates : measured ≡ measured_in turns first = measured_is ∙ ap (λ (ts : List Turn). measured_in ts old.state) order_is ∙ ap (λ (w : W). measured_in turns w) e in
    let sent : trace ≡ trace_of turns first = trace_is ∙ ap (λ (ts : List Turn). trace_of ts old.state) order_is ∙ ap (λ (w : W). trace_of turns w) e in
    subst (λ (s : List Sent). IsShownByTick input.script (world_run octets turns first) (measured_in turns first) view s shown) sent
    (subst (λ (m : List Rates). IsShownByTick input.script (world_run octets turns first) m view trace shown) rates
    (subst (λ (w : W). IsShownByTick input.script w measured view trace shown) world h))

pub are_inputs : (content : List ℕ → Option (List ℕ)) (asked : Asking) (name : List ℕ) (input : Input) (log : List ℕ) → asked.line.work ≡ replay name → AreWithinLimits content asked.line
    → IfSome (content asked.line.names.script) (λ told. reading told ≡ Ok input.script)
    → IfSome (content asked.line.names.file_a) (λ told. input.file_a ≡ told) → IfSome (content asked.line.names.file_b) (λ told. input.file_b ≡ told)
    → IfSome (content name) (λ told. log ≡ told) → AreInputs content asked.line input log
are_inputs content asked name input log named within script file_a file_b whole = record {
  within = within;
  script = script;
  file_a = file_a;
  file_b = file_b;
  whole = subst (λ (work : Work). IfSome (option_and_then content (order_of work)) (λ told. log ≡ told)) (sym named) whole;
}

-- ---- all that is said of an answer

-- before OUT was touched
pub refused_early : (asked : Asking) (old new : Told) (s : Status) → IsViewFault asked old new s → IsUntouched old new → IsViewAnswer asked old new (Err s)
refused_early asked old new s fault untouched = record {
  shown = tt;
  fault = fault;
  untouched = λ before. untouched;
  other_ports = λ at other. (untouched at).0;
  other_counts = λ at other. (untouched at).1;
}

-- OUT was written behind all loads, which touched no port, and no other port was touched then
module _ (asked : Asking) (input : Input) (log : List ℕ) (extent : Extent) (part : List ℕ) (turns : List logged.Turn) (old middle new : Told) (shown : List ℕ)
    (are : AreInputs old.content asked.line input log) (is_read : IsRead input.script log extent part turns) (lawful : AreLawful octets (all_turns turns) (first_world input))
    (all_told : untold part (trace_of (all_turns turns) (first_world input)) ≡ None) (is : IsViewOf asked.view input (all_turns turns) shown)
    (untouched : IsUntouched old middle) (loaded : AddsAll (loads_of asked.line) old.calls middle.calls)
    (others : (at : Port) → at ≢ ReadByB → new.holds at ≡ middle.holds at) (other_counts : (at : Port) → at ≢ ReadByB → new.port_faults at ≡ middle.port_faults at) where
  with_view : {P : Extent → List ℕ → Type 0} → P extent shown → WithView old.content asked P
  with_view p = (input, (log, (are, (extent, (part, (turns, (is_read, (lawful, (all_told, (shown, (is, p)))))))))))

  -- the port holds the view
  pub answered : HoldsAfter (middle.holds ReadByB) (new.holds ReadByB) (λ _. shown) → AddsAll (out_calls asked.line.names.read_by_b shown) middle.calls new.calls
      → IsViewAnswer asked old new (Ok extent)
  answered put made =
      let then = subst (λ (o : Option (List ℕ)). HoldsAfter o (new.holds ReadByB) (λ _. shown)) (untouched ReadByB).0 put in
      let calls = all_then (loads_of asked.line) (out_calls asked.line.names.read_by_b shown) old.calls middle.calls new.calls loaded made in
      let shows : Shows asked old new extent = with_view (refl, (then, calls)) in
      record {
        shown = shows;
        fault = tt;
        untouched = tt;
        other_ports = λ at other. others at other ∙ (untouched at).0;
        other_counts = λ at other. other_counts at other ∙ (untouched at).1;
      }

  -- the view isn't written whole
  pub refused_late : (s : Status) → HoldsCut (middle.holds ReadByB) (new.holds ReadByB) shown → IsOutFault (middle.port_faults ReadByB) (new.port_faults ReadByB) s
      → AddsCut (out_calls asked.line.names.read_by_b shown) s middle.calls new.calls → IsViewAnswer asked old new (Err s)
  refused_late s put fault cut =
      let then = subst (λ (o : Option (List ℕ)). HoldsCut o (new.holds ReadByB) shown) (untouched ReadByB).0 put in
      let calls = cut_then (loads_of asked.line) (out_calls asked.line.names.read_by_b shown) s old.calls middle.calls new.calls loaded cut in
      record {
        shown = tt;
        fault = out_refused asked old new (middle.port_faults ReadByB) (untouched ReadByB).1 s fault (with_view (then, calls));
        untouched = late (middle.port_faults ReadByB) (new.port_faults ReadByB) (IsUntouched old new) s fault;
        other_ports = λ at other. others at other ∙ (untouched at).0;
        other_counts = λ at other. other_counts at other ∙ (untouched at).1;
      }
