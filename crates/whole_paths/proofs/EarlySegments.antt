-- What an end of path 0 sends before both SYNs came: B nothing, and A its SYN, which acknowledges nothing; or a reset.
use Rattle.std.proofs.Common.{◌≡◌, refl, sym, ap, ◌∙◌, ◌⊎◌, inl, inr, ℕ, ◌≤◌, ◌&&◌, arith, true, false, true≢false, not, if◌then◌else◌, Option, Some, None, IfSome, is_some, List, [], ◌∷◌}
use Rattle.std.specs.List.{list_any, slice_get}
use Rattle.std.proofs.lemmas.Bool.{and_parts, both_ways, leb-true, or_left}
use Rattle.sides.specs.declared.side.Side.{Side}
use Rattle.sides.specs.declared.side.Side.TheVariants.{A, B}
use Rattle.path_segments.specs.Spelled.{PlainSegment}
use Rattle.subflow_send.specs.Records.{Record}
use Rattle.subflow_tcp.specs.State.{has_records, is_some_record}
use Rattle.subflow_tcp.specs.States.{is_closed_to_segments, is_opening, may_finish}
use Rattle.subflow_tcp.specs.declared.handshake.State.{State}
use Rattle.subflow_tcp.specs.declared.handshake.State.TheVariants as phase
use Rattle.path_agenda.specs.declared.duty.Duty.{Duty}
use Rattle.path_agenda.specs.declared.duty.Duty.TheVariants as duties
use Rattle.path_agenda.specs.declared.duty.SendDuty.TheVariants as send_duties
use Rattle.path_agenda.specs.declared.duty.StepDuty.TheVariants as step_duties
use Rattle.path_agenda.specs.declared.heard.Heard.{Heard}
use Rattle.path_agenda.specs.declared.heard.Heard.TheVariants as says
use Rattle.path_core.specs.DssIn.{is_clash}
use Rattle.path_core.specs.Duties.{stands}
use Rattle.path_core.specs.Emission.{ack_resent, data_stands, first_record, first_unsent, fits, resend_said}
use Rattle.path_core.specs.End.{PathEnd}
use Rattle.path_core.specs.Fallback.{breaks_by_ack}
use Rattle.link_script.specs.Places.{same_side}
use Rattle.path_core.specs.Looking.{broken_by, duty_sends, first_sends, heard_sends, segment_sent, send_of, unsent_sends}
use Rattle.path_core.specs.OptionsOut.{record_or_ack}
use Rattle.path_core.specs.Profile.{Profile}
use Rattle.path_core.specs.Standing.{is_connected}
use Rattle.path_core.specs.State.{PathState, end_at}
use Rattle.path_core.specs.Treating.{item_of}
use Rattle.path_core.specs.Turns.{FirstStands, IsSettled}
use Rattle.path_core.specs.Values.{Carried}
use Rattle.world_laws.specs.Openings.{Start}
use Rattle.world_laws.proofs.Keys.WhatWakes.{itself}
use Rattle.world_laws.proofs.Lanes.Showing.{is_unfinished}
use Rattle.whole_paths.specs.AsFar.{stage}
use Rattle.whole_paths.specs.Mild.{IsUnbroken, is_harsh}
use Rattle.whole_paths.specs.OpeningStates.{GoByTheHandshake, IsOfA, IsOfB}
use Rattle.whole_paths.specs.OpeningStates.{IsOfA as of_a}
use Rattle.whole_paths.specs.OpeningStates.{IsOfB as of_b}
use Rattle.whole_paths.proofs.Clearing.{AllClear, refused_at}
use Rattle.whole_paths.proofs.Early.{PathEarly, late_at}
use Rattle.whole_paths.proofs.OpenCourses.{IsFirstPath}
use Rattle.whole_paths.proofs.Reached.{EndsAreReached, none_left}
use Rattle.whole_paths.proofs.Saying.{ToSend}

-- ---- states

pub connected_far : (x : State) → is_connected x ≡ true → 2 ≤ stage x
connected_far phase.Waiting is = absurd (true≢false (sym is))
connected_far phase.Listen is = absurd (true≢false (sym is))
connected_far phase.SynSent is = absurd (true≢false (sym is))
connected_far phase.SynReceived is = absurd (true≢false (sym is))
connected_far phase.Dead is = absurd (true≢false (sym is))
connected_far _ is = omega arith

pub finish_far : (x : State) → may_finish x ≡ true → 2 ≤ stage x
finish_far phase.Established is = omega arith
finish_far phase.CloseWait is = omega arith
finish_far _ is = absurd (true≢false (sym is))

a_opens : (x : State) → IsOfA x → 1 ≤ stage x → stage x ≤ 1 → is_opening x ≡ true
a_opens x (of_a.waiting is) up low = absurd (let none = ap stage is in omega (arith, none, up))
a_opens x (of_a.sent is) up low = ap is_opening is
a_opens x (of_a.past high) up low = absurd (omega (arith, high, low))

b_never_opens : (x : State) → IsOfB x → is_opening x ≡ true → ⊥
b_never_opens x (of_b.listening is) opens = true≢false (sym opens ∙ ap is_opening is)
b_never_opens x (of_b.half_open is) opens = true≢false (sym opens ∙ ap is_opening is)
b_never_opens x (of_b.past high) opens = by x high opens
  where
    by : (y : State) → 3 ≤ stage y → is_opening y ≡ true → ⊥
    by phase.SynSent high opens = omega (arith, high)
    by _ high opens = true≢false (sym opens)

-- ---- what is known of path 0 at a moment

pub record Moment (start : Start) (p : PathState Carried) : Type 0 where
  pub first : IsFirstPath start p
  pub states : GoByTheHandshake p
  -- A's end doesn't wait for its tick
  pub awake : 1 ≤ stage p.a.tcp.state
  pub reached : EndsAreReached p
  pub early : PathEarly p.agenda p
  pub unbroken : IsUnbroken p
  pub clears : AllClear p.agenda p
  pub settled : IsSettled p

-- ---- segments

-- an end before both SYNs came sends a reset, or is A's and acknowledges nothing
abbrev pub SaysEarly : PathState Carried → Side → PlainSegment → Type 0
SaysEarly p s x = stage (end_at s p).tcp.state ≤ 1 → (x.rst ≡ true) ⊎ ((s ≡ A) × (x.acknowledged ≡ None))

abbrev pub AllEarly : Option ToSend → PathState Carried → Type 0
AllEarly o p = IfSome o (λ (t : ToSend). SaysEarly p t.from (segment_sent p t))

broken_early : (s : Side) (reason : ℕ) (p : PathState Carried) → AllEarly (broken_by s reason p) p
broken_early s reason p = elim (end_at s p).treated.asked as (λ b. AllEarly (if b then None else send_of (send_duties.BreakReset s reason)) p) [ true ↦ tt | false ↦ λ low. inl refl ]

heard_early : (s : Side) (o : Option Heard) (p : PathState Carried) → AllEarly (heard_sends s o p) p
heard_early s (Some (says.Mapping fin)) p = elim (is_clash (end_at s p)) as (λ b. AllEarly (if b then broken_by s 1 p else None) p) [ true ↦ broken_early s 1 p | false ↦ tt ]
heard_early s _ p = tt

-- a record acknowledges nothing as long as the end opens
opening_record : (c : Profile) (s : Side) (o : Option Record) (e : PathEnd) → is_opening e.tcp.state ≡ true → is_some o ≡ true → (record_or_ack c s o e).acknowledged ≡ None
opening_record c s (Some r) e opens some = ap (λ b. if b then None else Some e.tcp.recv.edge) opens
opening_record c s None e opens some = absurd (true≢false (sym some))

first_some : (rs : List Record) → is_some_record rs ≡ true → is_some (slice_get rs 0) ≡ true
first_some (r ∷ rs) is = refl
first_some [] is = absurd (true≢false (sym is))

none_some : (rs : List Record) → is_some_record rs ≡ false → rs ≡ []
none_some [] is = refl
none_some (r ∷ rs) is = absurd (true≢false is)

module _ (start : Start) (p : PathState Carried) (m : Moment start p) where
  high : {X : Type 0} (s : Side) → 2 ≤ stage (end_at s p).tcp.state → stage (end_at s p).tcp.state ≤ 1 → X
  high s two low = absurd (omega (arith, two, low))

  -- an end that opens is A's
  opening_early : (s : Side) (x : PlainSegment) → is_opening (end_at s p).tcp.state ≡ true → x.acknowledged ≡ None → SaysEarly p s x
  opening_early A x opens none low = inr (refl, none)
  opening_early B x opens none low = absurd (b_never_opens p.b.tcp.state m.states.b opens)

  syn_early : (s : Side) → (is_opening (end_at s p).tcp.state && is_some (first_unsent (end_at s p))) ≡ true → SaysEarly p s (record_or_ack p.profile s (first_unsent (end_at s p)) (end_at s p))
  syn_early s due =
      let parts = and_parts (is_opening (end_at s p).tcp.state) (is_some (first_unsent (end_at s p))) due in
      opening_early s (record_or_ack p.profile s (first_unsent (end_at s p)) (end_at s p)) parts.0 (opening_record p.profile s (first_unsent (end_at s p)) (end_at s p) parts.0 parts.1)

  -- A's SYN waits to be acknowledged
  a_waits : stage p.a.tcp.state ≤ 1 → has_records p.a.tcp ≡ false → ⊥
  a_waits low none =
      let all = none_left p.a.tcp (m.reached A) (none_some p.a.tcp.send.records none) in
      let una = (m.reached A).opening (omega (arith, low)) in
      let begun = m.first.begun A (by p.a.tcp.state m.states.a m.awake low) in omega (arith, all, una, begun)
    where
      by : (x : State) → IsOfA x → 1 ≤ stage x → stage x ≤ 1 → is_unfinished x ≡ true
      by x (of_a.waiting is) up low = ap is_unfinished is
      by x (of_a.sent is) up low = ap is_unfinished is
      by x (of_a.past high) up low = absurd (omega (arith, high, low))

  a_resends : stage p.a.tcp.state ≤ 1 → (resend_said p.profile A p.a).acknowledged ≡ None
  a_resends low = (elim (has_records p.a.tcp) as (λ b. has_records p.a.tcp ≡ b → (if b then record_or_ack p.profile A (first_record p.a) p.a else ack_resent p.profile A p.a).acknowledged ≡ None)
      [ true ↦ λ is. opening_record p.profile A (first_record p.a) p.a (a_opens p.a.tcp.state m.states.a m.awake low) (first_some p.a.tcp.send.records is) | false ↦ λ is. absurd (a_waits low is) ]) refl

  data_early : (s : Side) (o : Option Record) → data_stands p.profile s (end_at s p) o ≡ true → AllEarly (unsent_sends s o) p
  data_early s None is = tt
  data_early s (Some r) is = λ low. absurd
      (let fit = (and_parts (not (is_closed_to_segments (end_at s p).tcp.state)) (fits (end_at s p).tcp r) is).1 in
      let one = leb-true 1 (end_at s p).tcp.send.una (and_parts _ _ fit).0 in
      let none = (m.reached s).opening (omega (arith, low)) in omega (arith, one, none))

  marked : (d : Duty) (ds : List Duty) → p.agenda ≡ d ∷ ds → (s : Side) → late_at s d ≡ true → 2 ≤ stage (end_at s p).tcp.state
  marked d ds is s late = m.early.late s (ap (list_any (late_at s)) is ∙ or_left (late_at s d) (list_any (late_at s) ds) late)

  resend_early : (s : Side) (ds : List Duty) → p.agenda ≡ duties.Send (send_duties.Resend s) ∷ ds → SaysEarly p s (resend_said p.profile s (end_at s p))
  resend_early A ds is low = inr (refl, a_resends low)
  resend_early B ds is low = absurd (let two = marked (duties.Send (send_duties.Resend B)) ds is B refl in omega (arith, two, low))

  first_early : (d : Duty) (ds : List Duty) → p.agenda ≡ d ∷ ds → stands d p ≡ true → AllEarly (duty_sends d p) p
  first_early (duties.Step (step_duties.Heard s index)) ds is due = heard_early s (item_of index (end_at s p)) p
  first_early (duties.Step (step_duties.PlainAck s)) ds is due = elim (breaks_by_ack p.profile (end_at s p)) as (λ b. AllEarly (if b then broken_by s 6 p else None) p) [ true ↦ broken_early s 6 p | false ↦ tt ]
  first_early (duties.Step (step_duties.Unmapped s)) ds is due = broken_early s 6 p
  first_early (duties.Step (step_duties.Data s)) ds is due = data_early s (first_unsent (end_at s p)) due
  first_early (duties.Send (send_duties.Syn s)) ds is due = syn_early s due
  first_early (duties.Send (send_duties.Again s)) ds is due = high s (marked _ ds is s (itself s))
  first_early (duties.Send (send_duties.SynAck s)) ds is due = high s (marked _ ds is s (itself s))
  first_early (duties.Send (send_duties.Answer s)) ds is due = high s (marked _ ds is s (itself s))
  first_early (duties.Send (send_duties.Acknowledge s)) ds is due = high s (marked _ ds is s (itself s))
  first_early (duties.Send (send_duties.Resend s)) ds is due = resend_early s ds is
  first_early (duties.Send (send_duties.Update s)) ds is due = high s (connected_far (end_at s p).tcp.state (and_parts (is_connected (end_at s p).tcp.state) _ due).0)
  first_early (duties.Send (send_duties.FastClose s)) ds is due = high s (connected_far (end_at s p).tcp.state (and_parts (is_connected (end_at s p).tcp.state) _ due).0)
  first_early (duties.Send (send_duties.Notice s)) ds is due = high s (connected_far (end_at s p).tcp.state (and_parts (is_connected (end_at s p).tcp.state) _ (and_parts _ _ due).0).0)
  first_early (duties.Send (send_duties.DataFin s)) ds is due = high s (finish_far (end_at s p).tcp.state (and_parts (may_finish (end_at s p).tcp.state) _ due).0)
  first_early (duties.Send (send_duties.Fin s)) ds is due = high s (finish_far (end_at s p).tcp.state (and_parts (may_finish (end_at s p).tcp.state) _ due).0)
  first_early (duties.Send (send_duties.Refuse s)) ds is due =
      absurd (both_ways (list_any is_harsh p.agenda) m.unbroken.duties (ap (list_any is_harsh) is))
  first_early (duties.Send (send_duties.ResetAnswer s)) ds is due =
      high s (let dead = (m.clears s).dead (ap (list_any (refused_at s)) is ∙ or_left (same_side s s) (list_any (refused_at s) ds) (itself s)) in omega (arith, dead))
  first_early (duties.Send (send_duties.BreakReset s reason)) ds is due = λ low. inl refl
  first_early (duties.Send (send_duties.Reset s)) ds is due = λ low. inl refl
  first_early (duties.Send (send_duties.ResetNoted s)) ds is due = λ low. inl refl
  first_early _ ds is due = tt

  -- whatever the path is to send next
  pub next_early : AllEarly (first_sends p.agenda p) p
  next_early = by p.agenda refl m.settled
    where
      by : (ds : List Duty) → p.agenda ≡ ds → FirstStands ds p → AllEarly (first_sends ds p) p
      by [] is due = tt
      by (d ∷ ds) is due = first_early d ds is due
