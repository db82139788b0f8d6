-- Where the FIN of a segment stands: it is that of a record, or the one that its end is about to push (RFC 9293, section 3.6).
use Rattle.std.proofs.Common.{◌≡◌, refl, ℕ, ◌-◌, Bool, true, false, if◌then◌else◌, Option, Some, None, List, [], ◌∷◌}
use Rattle.std.specs.Option.{IfSome}
use Rattle.std.proofs.lemmas.Bool.{both_ways, false≢true}
use Rattle.path_agenda.specs.Words.{first_of}
use Rattle.path_agenda.specs.declared.duty.Duty.{Duty}
use Rattle.path_agenda.specs.declared.duty.SendDuty.{SendDuty}
use Rattle.path_agenda.specs.declared.duty.StepDuty.{StepDuty}
use Rattle.path_agenda.specs.declared.heard.Heard.{Heard}
use Rattle.path_agenda.specs.declared.notice.OwnNotice.{OwnNotice}
use Rattle.path_core.specs.DataFin.{is_data_fin_owed}
use Rattle.path_core.specs.DssIn.{is_clash}
use Rattle.path_core.specs.Emission.{ack_resent, answer_said, first_record, first_unsent, outgoing_or, resend_said}
use Rattle.path_core.specs.End.{PathEnd}
use Rattle.path_core.specs.Fallback.{breaks_by_ack}
use Rattle.path_core.specs.Looking.{broken_by, duty_sends, first_sends, heard_sends, segment_sent, unsent_sends}
use Rattle.path_core.specs.OptionsOut.{ack_said, carried_said, noted_said, record_or_ack, reset_options, segment_of, syn_ack_said}
use Rattle.path_core.specs.Profile.{Profile}
use Rattle.path_core.specs.State.{PathState, end_at}
use Rattle.path_core.specs.Treating.{item_of}
use Rattle.path_core.specs.Values.{Carried}
use Rattle.path_segments.specs.Options.{PlainOption}
use Rattle.path_segments.specs.Spelled.{PlainSegment}
use Rattle.sides.specs.declared.side.Side.{Side}
use Rattle.stream_lanes.specs.Words.{Every}
use Rattle.subflow_send.specs.Records.{Record}
use Rattle.subflow_send.specs.Rules.{is_fin, is_unsent}
use Rattle.subflow_tcp.specs.Emitting.{fin_position, reset_segment}
use Rattle.subflow_tcp.specs.State.{has_records}
use Rattle.subflow_tcp.specs.declared.segments.Outgoing.{Outgoing}
use Rattle.world_laws.proofs.Lanes.Records.{every_at, every_find}
use Rattle.own_runs.proofs.Speaking.{ToSend}

-- by where FINs of a side stand
module _ (F : Side → ℕ → Type 0) where
  -- a segment's FIN, where it has one
  abbrev pub FinStands : Side → PlainSegment → Type 0
  FinStands s sg = sg.fin ≡ true → (sg.rst ≡ false) × (sg.payload ≡ []) × F s sg.position

  -- of an end: the FIN's record, and an answer of a dead end has none
  pub record EndFins (s : Side) (e : PathEnd) : Type 0 where
    pub records : Every (λ r. is_fin r.kind ≡ true → (r.piece ≡ []) × F s r.pos) e.tcp.send.records
    pub answer : IfSome e.treated.answer (λ o. o.fin ≡ false)

  module _ (c : Profile) (s : Side) (e : PathEnd) (h : EndFins s e) where
    record_stands : (o : Option Record) → IfSome o (λ r. is_fin r.kind ≡ true → (r.piece ≡ []) × F s r.pos) → FinStands s (record_or_ack c s o e)
    record_stands None is = λ fin. absurd (false≢true fin)
    record_stands (Some r) is = λ fin. let it = is fin in (refl, it.0, it.1)

    unsent_stands : FinStands s (record_or_ack c s (first_unsent e) e)
    unsent_stands = record_stands (first_unsent e) (every_find is_unsent e.tcp.send.records h.records)

    again_stands : FinStands s (record_or_ack c s (first_record e) e)
    again_stands = record_stands (first_record e) (every_at 0 e.tcp.send.records h.records)

    closing_stands : (o : Option ℕ) → FinStands s (carried_said c s o e)
    closing_stands None = λ fin. absurd (false≢true fin)
    closing_stands (Some key) = λ fin. absurd (false≢true fin)

    noted_stands : (o : Option OwnNotice) → FinStands s (noted_said c s o e)
    noted_stands None = λ fin. absurd (false≢true fin)
    noted_stands (Some notice) = λ fin. absurd (false≢true fin)

    dead_stands : (options : List PlainOption) → FinStands s (segment_of c (outgoing_or e.treated.answer (reset_segment e.tcp)) options [] e)
    dead_stands options = λ fin. absurd (both_ways (outgoing_or e.treated.answer (reset_segment e.tcp)).fin (none e.treated.answer h.answer) fin)
      where
        none : (o : Option Outgoing) → IfSome o (λ o. o.fin ≡ false) → (outgoing_or o (reset_segment e.tcp)).fin ≡ false
        none None is = refl
        none (Some o) is = is

    answer_stands : FinStands s (answer_said c s e)
    answer_stands = by e.tcp.due.syn_ack
      where
        by : (b : Bool) → FinStands s (if b then syn_ack_said c s e else ack_said c s e.tcp.send.nxt None e)
        by true = λ fin. absurd (false≢true fin)
        by false = λ fin. absurd (false≢true fin)

    resent_stands : FinStands s (ack_resent c s e)
    resent_stands = by e.modes.owes_third e.notices.fast_closed (is_data_fin_owed e)
      where
        by : (third closed owes : Bool) → FinStands s (if third then ack_said c s e.tcp.send.nxt None e else (if closed then carried_said c s e.notices.carrier e
            else (if owes then ack_said c s e.tcp.send.nxt e.sending.known_end e else ack_said c s (e.tcp.send.una - 1) None e)))
        by true closed owes = λ fin. absurd (false≢true fin)
        by false true owes = closing_stands e.notices.carrier
        by false false true = λ fin. absurd (false≢true fin)
        by false false false = λ fin. absurd (false≢true fin)

    resend_stands : FinStands s (resend_said c s e)
    resend_stands = by (has_records e.tcp)
      where
        by : (b : Bool) → FinStands s (if b then record_or_ack c s (first_record e) e else ack_resent c s e)
        by true = again_stands
        by false = resent_stands

  -- ---- by what is to be done

  module _ (p : PathState Carried) (h : (s : Side) → EndFins s (end_at s p)) where
    abbrev pub SendsFin : ToSend → Type 0
    SendsFin t = FinStands t.from (segment_sent p t)

    unless_stands : (b : Bool) (o : Option ToSend) → IfSome o SendsFin → IfSome (if b then None else o) SendsFin
    unless_stands true o is = tt
    unless_stands false o is = is

    only_stands : (b : Bool) (o : Option ToSend) → IfSome o SendsFin → IfSome (if b then o else None) SendsFin
    only_stands true o is = is
    only_stands false o is = tt

    break_stands : (s : Side) (reason : ℕ) → IfSome (broken_by s reason p) SendsFin
    break_stands s reason = unless_stands (end_at s p).treated.asked _ (λ fin. absurd (false≢true fin))

    heard_stands : (s : Side) (o : Option Heard) → IfSome (heard_sends s o p) SendsFin
    heard_stands s (Some (Heard.Mapping fin)) = only_stands (is_clash (end_at s p)) _ (break_stands s 1)
    heard_stands s _ = tt

    data_stands : (s : Side) (o : Option Record) → IfSome (unsent_sends s o) SendsFin
    data_stands s None = tt
    data_stands s (Some unsent) = unsent_stands p.profile s (end_at s p) (h s)

    send_stands : (d : SendDuty) → ((s : Side) → d ≡ SendDuty.Fin s → F s (fin_position (end_at s p).tcp.send)) → IfSome (duty_sends (Duty.Send d) p) SendsFin
    send_stands (SendDuty.Syn s) new = unsent_stands p.profile s (end_at s p) (h s)
    send_stands (SendDuty.Again s) new = again_stands p.profile s (end_at s p) (h s)
    send_stands (SendDuty.Answer s) new = answer_stands p.profile s (end_at s p) (h s)
    send_stands (SendDuty.Resend s) new = resend_stands p.profile s (end_at s p) (h s)
    send_stands (SendDuty.FastClose s) new = closing_stands p.profile s (end_at s p) (h s) (end_at s p).notices.carrier
    send_stands (SendDuty.Notice s) new = noted_stands p.profile s (end_at s p) (h s) (first_of (end_at s p).notices.queue)
    send_stands (SendDuty.Refuse s) new = dead_stands p.profile s (end_at s p) (h s) (reset_options (Some 1))
    send_stands (SendDuty.ResetAnswer s) new = dead_stands p.profile s (end_at s p) (h s) []
    send_stands (SendDuty.Fin s) new = λ fin. (refl, refl, new s refl)
    send_stands _ new = λ fin. absurd (false≢true fin)

    step_stands : (d : StepDuty) → IfSome (duty_sends (Duty.Step d) p) SendsFin
    step_stands (StepDuty.Data s) = data_stands s (first_unsent (end_at s p))
    step_stands (StepDuty.Heard s index) = heard_stands s (item_of index (end_at s p))
    step_stands (StepDuty.PlainAck s) = only_stands (breaks_by_ack p.profile (end_at s p)) _ (break_stands s 6)
    step_stands (StepDuty.Unmapped s) = break_stands s 6
    step_stands _ = tt

    pub first_stands : (ds : List Duty) → ((s : Side) (rest : List Duty) → ds ≡ Duty.Send (SendDuty.Fin s) ∷ rest → F s (fin_position (end_at s p).tcp.send)) → IfSome (first_sends ds p) SendsFin
    first_stands [] new = tt
    first_stands (Duty.Send d ∷ ds) new = send_stands d (λ s is. new s ds (same is))
      where
        same : {x y : SendDuty} → x ≡ y → (let one : List Duty = Duty.Send x ∷ ds in one) ≡ Duty.Send y ∷ ds
        same e = cc
    first_stands (Duty.Step d ∷ ds) new = step_stands d
    first_stands (Duty.Ask d ∷ ds) new = tt
    first_stands (Duty.Silent d ∷ ds) new = tt
    first_stands (Duty.End ∷ ds) new = tt
