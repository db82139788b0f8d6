-- Why nothing is shown: by what is read, by a turn, or by OUT.
use Rattle.std.proofs.Common.{◌≡◌, refl, subst, ℕ, Option, Some, None, List, [], ◌++◌, Result, Ok, Err, OnOk, OnErr, IfErr, inl, inr}
use Rattle.outside_kit.specs.Calls.{Call}
use Rattle.outside_kit.specs.Outside.{Told, HoldsAfter, HoldsPrefix}
use Rattle.outside_kit.specs.declared.port.Port.TheVariants as port
use Rattle.run_outside.specs.declared.input.Input.{Input}
use Rattle.run_outside.specs.declared.status.Status.{Status}
use Rattle.run_outside.specs.declared.status.Status.TheVariants as status
use Rattle.run_outside.specs.Inputs.{IsLoggedFault}
use Rattle.run_outside.specs.Loading.{InputAdds}
use Rattle.run_outside.specs.Plan.{AddsAll, AddsCut, loads_of}
use Rattle.run_outside.specs.Ports.{IsUntouched}
use Rattle.run_outside.proofs.Calls.{ToldCalls, adds_none, all_then, cut_none, cut_over, cut_then}
use Rattle.run_outside.proofs.PortsLemmas.{IfErr-map}
use Rattle.run_log.specs.declared.turn.Turn as logged
use Rattle.world_core.specs.Logged.{all_turns}
use Rattle.mptcp_view.specs.Asking.{Asking}
use Rattle.mptcp_view.specs.Cutting.{IsRead, IsUnread}
use Rattle.mptcp_view.specs.Views.{AreInputs, HoldsCut, IsBeforeOut, IsCut, IsOutFault, IsTurnsFault, IsViewAnswer, IsViewFault}
use Rattle.mptcp_view.specs.declared.cutting.Extent.{Extent}

module _ (asked : Asking) (old new : Told) where
  -- by what is loaded
  pub inputs_refused : (s : Status) → IsLoggedFault old.content asked.line old.load_faults new.load_faults s → InputAdds asked.line (loads_of asked.line) old.calls new.calls s
      → IsUntouched old new → IsViewFault asked old new s
  inputs_refused (status.Script at kind) h adds untouched = (h, adds)
  inputs_refused (status.Load input) h adds untouched = (h, adds)
  inputs_refused (status.TooLong input) h adds untouched = (h, adds)
  inputs_refused status.Memory h adds untouched = inl (untouched, adds)
  inputs_refused _ h adds untouched = absurd h

  module _ (input : Input) (log : List ℕ) (are : AreInputs old.content asked.line input log) (made : AddsAll (loads_of asked.line) old.calls new.calls)
      (untouched : IsUntouched old new) where
    -- by the log
    pub log_refused : (s : Status) → IsUnread input.script log s → IsViewFault asked old new s
    log_refused status.Memory h = inl (untouched, cut_over (loads_of asked.line) old.calls new.calls made)
    log_refused (status.Log at) h = (inl (input, (log, (are, h))), made)
    log_refused _ h = absurd h

    -- by a turn that can't be made, or tells another segment
    pub turns_refused : (extent : Extent) (part : List ℕ) (turns : List logged.Turn) → IsRead input.script log extent part turns → (s : Status)
        → IsTurnsFault (all_turns turns) input part s → IsViewFault asked old new s
    turns_refused extent part turns read status.Memory h = inl (untouched, cut_over (loads_of asked.line) old.calls new.calls made)
    turns_refused extent part turns read (status.Log at) h = (inr (input, (log, (are, (extent, (part, (turns, (read, h))))))), made)
    turns_refused extent part turns read _ h = absurd h

  -- by OUT
  pub out_refused : (middle : ℕ) → middle ≡ old.port_faults port.ReadByB → (s : Status) → IsOutFault middle (new.port_faults port.ReadByB) s
      → IsCut asked old new s → IsViewFault asked old new s
  out_refused middle same (status.Put at) h cut = (subst (λ (n : ℕ). IsOutFault n (new.port_faults port.ReadByB) (status.Put at)) same h, cut)
  out_refused middle same status.Memory h cut = inr cut
  out_refused middle same _ h cut = absurd h

-- a fault of OUT comes late
pub late : (old new : ℕ) (X : Type 0) (s : Status) → IsOutFault old new s → IsBeforeOut s → X
late old new X (status.Put at) h before = absurd before
late old new X status.Memory h before = absurd before
late old new X _ h before = absurd h

-- ---- OUT

-- OUT is as it was
pub kept_out : (old new : Option (List ℕ)) (shown : List ℕ) → new ≡ old → HoldsCut old new shown
kept_out None new shown same = tt
kept_out (Some held) new shown same = inl same

-- OUT was emptied, and got some of the view
pub cut_out : (old middle new : Option (List ℕ)) (shown : List ℕ) → HoldsAfter old middle (λ _. []) → HoldsPrefix middle new shown → HoldsCut old new shown
cut_out None middle new shown bound put = tt
cut_out (Some held) middle new shown bound put =
    let some = subst (λ (o : Option (List ℕ)). HoldsPrefix o new shown) bound put in inr (some.0, some.1)

pub cut_put : {X : Type 0} (old middle new : Option (List ℕ)) (shown : List ℕ) → HoldsAfter old middle (λ _. []) → (r : Result X Status)
    → OnErr r (HoldsPrefix middle new shown) → OnErr r (HoldsCut old new shown)
cut_put old middle new shown bound (Ok x) put = tt
cut_put old middle new shown bound (Err s) put = cut_out old middle new shown bound put

-- ---- calls, one part behind another

pub made_then : {X : Type 0} (xs ys : List Call) (a b c : ToldCalls) → AddsAll xs a b → (r : Result X Status) → OnOk r (AddsAll ys b c) → OnOk r (AddsAll (xs ++ ys) a c)
made_then xs ys a b c first (Ok x) more = all_then xs ys a b c first more
made_then xs ys a b c first (Err s) more = tt

pub cut_behind : {X : Type 0} (xs ys : List Call) (a b c : ToldCalls) → AddsAll xs a b → (r : Result X Status) → IfErr r (λ s. AddsCut ys s b c)
    → IfErr r (λ s. AddsCut (xs ++ ys) s a c)
cut_behind xs ys a b c first (Ok x) more = tt
cut_behind xs ys a b c first (Err s) more = cut_then xs ys s a b c first more

-- ---- a run of messages

-- nothing was begun for want of memory
pub unbegun : (asked : Asking) (t : Told) → IsViewAnswer asked t t (Err status.Memory)
unbegun asked t = record {
  shown = tt;
  fault = inl (λ at. (refl, refl), cut_none (loads_of asked.line) status.Memory t.calls t.calls refl (adds_none t.calls));
  untouched = λ before. absurd before;
  other_ports = λ at other. refl;
  other_counts = λ at other. refl;
}

-- nothing is said of the contents behind it
module _ (asked : Asking) (old new : Told) (contents : List ℕ → Option (List ℕ)) where
  fault_stays : (s : Status) → IsViewFault asked old new s → IsViewFault asked old (record new { content = contents }) s
  fault_stays (status.Put at) h = h
  fault_stays status.Memory h = h
  fault_stays (status.Log at) h = h
  fault_stays _ h = h

  pub whatever_contents : (r : Result Extent Status) → IsViewAnswer asked old new r → IsViewAnswer asked old (record new { content = contents }) r
  whatever_contents r h = record {
    shown = h.shown;
    fault = IfErr-map r fault_stays h.fault;
    untouched = h.untouched;
    other_ports = h.other_ports;
    other_counts = h.other_counts;
  }

-- a view that is answered isn't refused for its words
pub no_usage : (asked : Asking) (old new : Told) (r : Result Extent Status) → IsViewAnswer asked old new r → r ≡ Err status.Usage → ⊥
no_usage asked old new r h is =
    let fault : IsViewFault asked old new status.Usage = subst (λ e. IfErr e (IsViewFault asked old new)) is h.fault in
    absurd fault.0

pub not_none : {A : Type 0} (o : Option A) (a : A) → Some a ≡ o → o ≡ None → ⊥
not_none None a some none = cc
not_none (Some b) a some none = cc
