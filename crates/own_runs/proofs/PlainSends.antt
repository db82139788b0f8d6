-- What an end sends that is no reset is sent by one that isn't closed; and what is no SYN either, where both SYNs are acknowledged. A reset kills its end, or answers a
-- SYN at one that listens.
use Rattle.std.proofs.Common.{◌≡◌, refl, ap, ℕ, ◌-◌, not, inl, inr, ◌⊎◌, ⊎_elim, Bool, true, false, if◌then◌else◌, Option, Some, None, is_some, List, [], ◌∷◌}
use Rattle.std.specs.List.{find, slice_get}
use Rattle.std.specs.Option.{IfSome}
use Rattle.std.proofs.lemmas.Bool.{and_parts, both_ways, false≢true}
use Rattle.actor_desk.specs.declared.ask.Reply.{Reply}
use Rattle.path_agenda.specs.Agenda.{leaves, resets}
use Rattle.path_agenda.specs.Words.{first_of, replaced}
use Rattle.path_agenda.specs.declared.duty.AskDuty.{AskDuty}
use Rattle.path_agenda.specs.declared.duty.Duty.{Duty}
use Rattle.path_agenda.specs.declared.duty.SendDuty.{SendDuty}
use Rattle.path_agenda.specs.declared.duty.StepDuty.{StepDuty}
use Rattle.path_agenda.specs.declared.heard.Heard.{Heard}
use Rattle.path_agenda.specs.declared.notice.OwnNotice.{OwnNotice}
use Rattle.path_core.specs.Breaking.{answered_break, reset_on}
use Rattle.path_core.specs.DataFin.{is_data_fin_owed}
use Rattle.path_core.specs.DssIn.{is_clash}
use Rattle.path_core.specs.Duties.{answered, stands}
use Rattle.path_core.specs.Emission.{ack_resent, answer_said, data_stands, first_record, first_unsent, outgoing_or, resend_said}
use Rattle.path_core.specs.End.{PathEnd}
use Rattle.path_core.specs.Fallback.{breaks_by_ack}
use Rattle.path_core.specs.Looking.{broken_by, duty_sends, first_sends, heard_sends, segment_sent, unsent_sends}
use Rattle.path_core.specs.MpJoin.{is_listening}
use Rattle.path_core.specs.OptionsOut.{ack_said, carried_said, noted_said, record_or_ack, syn_ack_said}
use Rattle.path_core.specs.Profile.{Profile}
use Rattle.path_core.specs.Standing.{answered_ack_out, is_connected, may_note}
use Rattle.path_core.specs.State.{PathState, end_at}
use Rattle.path_core.specs.Treating.{answered_item, item_of}
use Rattle.path_core.specs.Turns.{FirstStands}
use Rattle.path_core.specs.Values.{Carried, values}
use Rattle.sides.specs.declared.side.Side.TheVariants.{A, B}
use Rattle.sides.specs.declared.side.Side.{Side}
use Rattle.subflow_send.specs.Records.{Record}
use Rattle.subflow_send.specs.Rules.{is_unsent}
use Rattle.subflow_tcp.specs.Emitting.{reset_segment}
use Rattle.subflow_tcp.specs.State.{EndState, has_records, is_some_record}
use Rattle.subflow_tcp.specs.States.{is_closed_to_segments, is_dead, is_opening, may_finish}
use Rattle.subflow_tcp.specs.declared.handshake.State.{State as EndPhase}
use Rattle.subflow_tcp.specs.declared.segments.Outgoing.{Outgoing}
use Rattle.own_runs.proofs.AgendaFits.{Fits, OwesAt, first_owes, is_lead, is_weighty, put_holds}
use Rattle.own_runs.proofs.Opening.{PathOpens, answer_at, still_at}
use Rattle.own_runs.proofs.OpeningEnds.{IsReset, OneSyn, TcpStill, finishing_met, is_before, met_so, open_cases}
use Rattle.own_runs.proofs.Speaking.{ToSend}

-- ---- segments

module _ (c : Profile) (s : Side) (e : PathEnd) where
  -- the SYN where there is nothing else
  first_syn : (rs : List Record) → OneSyn rs → (record_or_ack c s (slice_get rs 0) e).syn ≡ true
  first_syn [] h = absurd h
  first_syn (r ∷ []) h = h
  first_syn (r ∷ x ∷ rs) h = absurd h

  unsent_syn : (rs : List Record) → OneSyn rs → is_some (find is_unsent rs) ≡ true → (record_or_ack c s (find is_unsent rs) e).syn ≡ true
  unsent_syn [] h some = absurd h
  unsent_syn (r ∷ x ∷ rs) h some = absurd h
  unsent_syn (r ∷ []) h some = by (is_unsent r) some
    where
      by : (b : Bool) → is_some (if b then Some r else None) ≡ true → (record_or_ack c s (if b then Some r else None) e).syn ≡ true
      by true some = h
      by false some = absurd (false≢true some)

  resent_syn : (rs : List Record) → OneSyn rs → (if is_some_record rs then record_or_ack c s (slice_get rs 0) e else ack_resent c s e).syn ≡ true
  resent_syn [] h = absurd h
  resent_syn (r ∷ []) h = h
  resent_syn (r ∷ x ∷ rs) h = absurd h

  answer_syn : (b : Bool) → b ≡ true → (if b then syn_ack_said c s e else ack_said c s e.tcp.send.nxt None e).syn ≡ true
  answer_syn true is = refl
  answer_syn false is = absurd (false≢true is)

  -- none of these is a reset
  record_rst : (o : Option Record) → (record_or_ack c s o e).rst ≡ false
  record_rst None = refl
  record_rst (Some r) = refl

  carried_rst : (o : Option ℕ) → (carried_said c s o e).rst ≡ false
  carried_rst None = refl
  carried_rst (Some key) = refl

  noted_rst : (o : Option OwnNotice) → (noted_said c s o e).rst ≡ false
  noted_rst None = refl
  noted_rst (Some notice) = refl

  answer_rst : (answer_said c s e).rst ≡ false
  answer_rst = by e.tcp.due.syn_ack
    where
      by : (b : Bool) → (if b then syn_ack_said c s e else ack_said c s e.tcp.send.nxt None e).rst ≡ false
      by true = refl
      by false = refl

  resend_rst : (resend_said c s e).rst ≡ false
  resend_rst = by (has_records e.tcp) e.modes.owes_third e.notices.fast_closed (is_data_fin_owed e)
    where
      by : (some third closed owes : Bool) → (if some then record_or_ack c s (first_record e) e else (if third then ack_said c s e.tcp.send.nxt None e else (if closed then carried_said c s e.notices.carrier e
          else (if owes then ack_said c s e.tcp.send.nxt e.sending.known_end e else ack_said c s (e.tcp.send.una - 1) None e)))).rst ≡ false
      by true third closed owes = record_rst (first_record e)
      by false true closed owes = refl
      by false false true owes = carried_rst e.notices.carrier
      by false false false true = refl
      by false false false false = refl

resets_as : (o : Option Outgoing) (t : EndState) → IfSome o IsReset → IsReset (outgoing_or o (reset_segment t))
resets_as None t is = (refl, refl)
resets_as (Some x) t is = is

opening_open : (state : EndPhase) → is_opening state ≡ true → is_closed_to_segments state ≡ false
opening_open EndPhase.SynSent is = refl
opening_open EndPhase.Waiting is = absurd (false≢true is)
opening_open _ is = absurd (false≢true is)

-- ---- what is sent next

pub record SendsWell (p : PathState Carried) (t : ToSend) : Type 0 where
  pub opened : ((segment_sent p t).rst ≡ false) ⊎ ((segment_sent p t).syn ≡ true) → is_closed_to_segments (end_at t.from p).tcp.state ≡ false
  pub plain : (segment_sent p t).syn ≡ false → (segment_sent p t).rst ≡ false → is_connected (end_at t.from p).tcp.state ≡ true

-- a reset leaves a dead end, or comes of one that listens
pub record FallsSo (p q : PathState Carried) (t : ToSend) : Type 0 where
  pub falls : (segment_sent p t).rst ≡ true → (is_dead (end_at t.from q).tcp.state ≡ true) ⊎ (is_listening (end_at t.from p).tcp.state ≡ true)

module _ (p : PathState Carried) where
  sends_met : (t : ToSend) → is_connected (end_at t.from p).tcp.state ≡ true → SendsWell p t
  sends_met t is = record { opened = λ some. (met_so (end_at t.from p).tcp.state is).opened; plain = λ syn rst. is }

  sends_reset : (t : ToSend) → ((segment_sent p t).rst ≡ true) × ((segment_sent p t).syn ≡ false) → SendsWell p t
  sends_reset t is = record {
    opened = λ some. ⊎_elim (λ rst. absurd (both_ways (segment_sent p t).rst rst is.0)) (λ syn. absurd (both_ways (segment_sent p t).syn is.1 syn)) some;
    plain = λ syn rst. absurd (both_ways (segment_sent p t).rst rst is.0);
  }

  -- before both SYNs are acknowledged it is a SYN
  sends_syn : (t : ToSend) → is_closed_to_segments (end_at t.from p).tcp.state ≡ false → (is_before (end_at t.from p).tcp.state ≡ true → (segment_sent p t).syn ≡ true) → SendsWell p t
  sends_syn t is_open syns = record {
    opened = λ some. is_open;
    plain = λ syn rst. ⊎_elim (λ before. absurd (both_ways (segment_sent p t).syn syn (syns before))) (λ met. met) (open_cases (end_at t.from p).tcp.state is_open);
  }

module _ (U T V : Type 0) (X : Side → Type 0) (p : PathState Carried) (h : PathOpens U T V X p) where
  still : (s : Side) → TcpStill (end_at s p).tcp
  still s = still_at U T V X s p h

  rests : (s : Side) → IsReset (outgoing_or (end_at s p).treated.answer (reset_segment (end_at s p).tcp))
  rests s = resets_as (end_at s p).treated.answer (end_at s p).tcp (answer_at U T V X s p h)

  unless_sends : (b : Bool) (o : Option ToSend) → IfSome o (SendsWell p) → IfSome (if b then None else o) (SendsWell p)
  unless_sends true o is = tt
  unless_sends false o is = is

  break_sends : (s : Side) (reason : ℕ) → IfSome (broken_by s reason p) (SendsWell p)
  break_sends s reason = unless_sends (end_at s p).treated.asked _ (sends_reset p _ (refl, refl))

  if_sends : (b : Bool) (o : Option ToSend) → IfSome o (SendsWell p) → IfSome (if b then o else None) (SendsWell p)
  if_sends true o is = is
  if_sends false o is = tt

  heard_sends_so : (s : Side) (o : Option Heard) → IfSome (heard_sends s o p) (SendsWell p)
  heard_sends_so s (Some (Heard.Mapping fin)) = if_sends (is_clash (end_at s p)) _ (break_sends s 1)
  heard_sends_so s _ = tt

  unsent_sends_so : (s : Side) (o : Option Record) → first_unsent (end_at s p) ≡ o → data_stands p.profile s (end_at s p) o ≡ true → IfSome (unsent_sends s o) (SendsWell p)
  unsent_sends_so s None is stood = tt
  unsent_sends_so s (Some r) is stood =
      sends_syn p _ (un _ (and_parts (not (is_closed_to_segments (end_at s p).tcp.state)) _ stood).0)
      (λ before. unsent_syn p.profile s (end_at s p) (end_at s p).tcp.send.records ((still s).syns before) (ap is_some is))
    where
      un : (b : Bool) → not b ≡ true → b ≡ false
      un true is = absurd (false≢true is)
      un false is = refl

  send_sends : (d : SendDuty) → stands (Duty.Send d) p ≡ true → (is_weighty (Duty.Send d) ≡ true → Fits U (Duty.Send d) p) → IfSome (duty_sends (Duty.Send d) p) (SendsWell p)
  send_sends (SendDuty.Update s) stood fits = sends_met p _ (and_parts (is_connected (end_at s p).tcp.state) _ stood).0
  send_sends (SendDuty.Acknowledge s) stood fits = sends_met p _ ((still s).acks stood)
  send_sends (SendDuty.Syn s) stood fits =
      let both = and_parts (is_opening (end_at s p).tcp.state) _ stood in
      sends_syn p _ (opening_open (end_at s p).tcp.state both.0) (λ before. unsent_syn p.profile s (end_at s p) (end_at s p).tcp.send.records ((still s).syns before) both.1)
  send_sends (SendDuty.FastClose s) stood fits = sends_met p _ (and_parts (is_connected (end_at s p).tcp.state) _ stood).0
  send_sends (SendDuty.Notice s) stood fits = sends_met p _ (and_parts (is_connected (end_at s p).tcp.state) _ (and_parts (may_note (end_at s p)) _ stood).0).0
  send_sends (SendDuty.DataFin s) stood fits = sends_met p _ (finishing_met (end_at s p).tcp.state (and_parts (may_finish (end_at s p).tcp.state) _ stood).0)
  send_sends (SendDuty.Fin s) stood fits = sends_met p _ (finishing_met (end_at s p).tcp.state (and_parts (may_finish (end_at s p).tcp.state) _ stood).0)
  send_sends (SendDuty.SynAck s) stood fits = sends_syn p _ (fits refl) (λ before. refl)
  send_sends (SendDuty.Refuse s) stood fits = sends_reset p _ (rests s)
  send_sends (SendDuty.Again s) stood fits =
      sends_syn p _ ((still s).again (and_parts (end_at s p).tcp.due.first _ stood).0) (λ before. first_syn p.profile s (end_at s p) (end_at s p).tcp.send.records ((still s).syns before))
  send_sends (SendDuty.Answer s) stood fits =
      sends_syn p _ (fits refl).0
      (λ before. ⊎_elim (λ owed. answer_syn p.profile s (end_at s p) (end_at s p).tcp.due.syn_ack owed)
      (λ met. absurd (both_ways (is_before (end_at s p).tcp.state) (met_so (end_at s p).tcp.state met).past before)) (fits refl).1)
  send_sends (SendDuty.ResetAnswer s) stood fits = sends_reset p _ (rests s)
  send_sends (SendDuty.Resend s) stood fits = sends_syn p _ (fits refl) (λ before. resent_syn p.profile s (end_at s p) (end_at s p).tcp.send.records ((still s).syns before))
  send_sends (SendDuty.BreakReset s reason) stood fits = sends_reset p _ (refl, refl)
  send_sends (SendDuty.Reset s) stood fits = sends_reset p _ (refl, refl)
  send_sends (SendDuty.ResetNoted s) stood fits = sends_reset p _ (refl, refl)

  step_sends_so : (d : StepDuty) → stands (Duty.Step d) p ≡ true → IfSome (duty_sends (Duty.Step d) p) (SendsWell p)
  step_sends_so (StepDuty.Data s) stood = unsent_sends_so s (first_unsent (end_at s p)) refl stood
  step_sends_so (StepDuty.Heard s index) stood = heard_sends_so s (item_of index (end_at s p))
  step_sends_so (StepDuty.PlainAck s) stood = if_sends (breaks_by_ack p.profile (end_at s p)) _ (break_sends s 6)
  step_sends_so (StepDuty.Unmapped s) stood = break_sends s 6
  step_sends_so _ stood = tt

  duty_sends_so : (d : Duty) → stands d p ≡ true → (is_weighty d ≡ true → Fits U d p) → IfSome (duty_sends d p) (SendsWell p)
  duty_sends_so (Duty.Send d) stood fits = send_sends d stood fits
  duty_sends_so (Duty.Step d) stood fits = step_sends_so d stood
  duty_sends_so _ stood fits = tt

  weighty_last : (d : Duty) → is_weighty d ≡ true → is_lead d ≡ false
  weighty_last (Duty.Ask (AskDuty.SynHeard s)) is = absurd (false≢true is)
  weighty_last (Duty.Ask (AskDuty.PlainHandshake s)) is = absurd (false≢true is)
  weighty_last (Duty.Ask (AskDuty.GoIdentity s)) is = absurd (false≢true is)
  weighty_last (Duty.Ask (AskDuty.Return s)) is = absurd (false≢true is)
  weighty_last _ is = refl

  -- what stands first
  pub first_fits : (d : Duty) (ds : List Duty) → OwesAt U (d ∷ ds) p → is_weighty d ≡ true → Fits U d p
  first_fits d ds owes is = first_owes U d ds p owes is (weighty_last d is)

  -- ---- what becomes of the end that sent a reset

  reset_dies : (s : Side) (reason : Option ℕ) (ds : List Duty) → is_dead (end_at s (reset_on values s reason ds p)).tcp.state ≡ true
  reset_dies A reason ds = refl
  reset_dies B reason ds = refl

  never_falls : (q : PathState Carried) (t : ToSend) → (segment_sent p t).rst ≡ false → FallsSo p q t
  never_falls q t none = record { falls = λ is. absurd (both_ways (segment_sent p t).rst none is) }

  unless_falls : (b : Bool) (o : Option ToSend) (q x : PathState Carried) → IfSome o (FallsSo p x) → IfSome (if b then None else o) (FallsSo p (if b then q else x))
  unless_falls true o q x is = tt
  unless_falls false o q x is = is

  break_falls : (r : Reply) (s : Side) (reason : ℕ) → IfSome (broken_by s reason p) (FallsSo p (answered_break values s reason r p))
  break_falls r s reason =
      unless_falls (end_at s p).treated.asked _ (answered_ack_out s r (resets s reason) p) (reset_on values s (Some reason) (leaves s) p) (record { falls = λ is. inl (reset_dies s (Some reason) (leaves s)) })

  if_falls : (b : Bool) (o : Option ToSend) (q x : PathState Carried) → IfSome o (FallsSo p q) → IfSome (if b then o else None) (FallsSo p (if b then q else x))
  if_falls true o q x is = is
  if_falls false o q x is = tt

  heard_falls : (r : Reply) (s : Side) (o : Option Heard) → IfSome (heard_sends s o p) (FallsSo p (answered_item values s o r p))
  heard_falls r s (Some (Heard.Mapping fin)) = if_falls (is_clash (end_at s p)) _ _ _ (break_falls r s 1)
  heard_falls r s _ = tt

  unsent_falls : (q : PathState Carried) (s : Side) (o : Option Record) → IfSome (unsent_sends s o) (FallsSo p q)
  unsent_falls q s None = tt
  unsent_falls q s (Some r) = never_falls q _ (record_rst p.profile s (end_at s p) (first_unsent (end_at s p)))

  send_falls : (r : Reply) (d : SendDuty) → (is_weighty (Duty.Send d) ≡ true → Fits U (Duty.Send d) p) → IfSome (duty_sends (Duty.Send d) p) (FallsSo p (answered values (Duty.Send d) r p))
  send_falls r (SendDuty.Update s) fits = never_falls _ _ refl
  send_falls r (SendDuty.Acknowledge s) fits = never_falls _ _ refl
  send_falls r (SendDuty.Syn s) fits = never_falls _ _ (record_rst p.profile s (end_at s p) (first_unsent (end_at s p)))
  send_falls r (SendDuty.FastClose s) fits = never_falls _ _ (carried_rst p.profile s (end_at s p) (end_at s p).notices.carrier)
  send_falls r (SendDuty.Notice s) fits = never_falls _ _ (noted_rst p.profile s (end_at s p) (first_of (end_at s p).notices.queue))
  send_falls r (SendDuty.DataFin s) fits = never_falls _ _ refl
  send_falls r (SendDuty.Fin s) fits = never_falls _ _ refl
  send_falls r (SendDuty.SynAck s) fits = never_falls _ _ refl
  send_falls r (SendDuty.Refuse s) fits = record { falls = λ is. inr (fits refl) }
  send_falls r (SendDuty.Again s) fits = never_falls _ _ (record_rst p.profile s (end_at s p) (first_record (end_at s p)))
  send_falls r (SendDuty.Answer s) fits = never_falls _ _ (answer_rst p.profile s (end_at s p))
  send_falls r (SendDuty.ResetAnswer s) fits = record { falls = λ is. inl (put_holds s (λ t. is_dead t.state ≡ true) (end_at s p) [] p (fits refl)) }
  send_falls r (SendDuty.Resend s) fits = never_falls _ _ (resend_rst p.profile s (end_at s p))
  send_falls r (SendDuty.BreakReset s reason) fits = record { falls = λ is. inl (reset_dies s (Some reason) (leaves s)) }
  send_falls r (SendDuty.Reset s) fits = record { falls = λ is. inl (reset_dies s None (replaced (Duty.Ask (AskDuty.Leave s)) p.agenda)) }
  send_falls r (SendDuty.ResetNoted s) fits = record { falls = λ is. inl (reset_dies s None (replaced (Duty.Ask (AskDuty.Leave s)) p.agenda)) }

  step_falls : (r : Reply) (d : StepDuty) → IfSome (duty_sends (Duty.Step d) p) (FallsSo p (answered values (Duty.Step d) r p))
  step_falls r (StepDuty.Data s) = unsent_falls _ s (first_unsent (end_at s p))
  step_falls r (StepDuty.Heard s index) = heard_falls r s (item_of index (end_at s p))
  step_falls r (StepDuty.PlainAck s) = if_falls (breaks_by_ack p.profile (end_at s p)) _ _ _ (break_falls r s 6)
  step_falls r (StepDuty.Unmapped s) = break_falls r s 6
  step_falls r _ = tt

  pub duty_falls : (r : Reply) (d : Duty) → (is_weighty d ≡ true → Fits U d p) → IfSome (duty_sends d p) (FallsSo p (answered values d r p))
  duty_falls r (Duty.Send d) fits = send_falls r d fits
  duty_falls r (Duty.Step d) fits = step_falls r d
  duty_falls r _ fits = tt

  pub sends_at : (ds : List Duty) → OwesAt U ds p → FirstStands ds p → IfSome (first_sends ds p) (SendsWell p)
  sends_at [] owes stood = tt
  sends_at (d ∷ ds) owes stood = duty_sends_so d stood (first_fits d ds owes)
