-- What payload a segment bears: that of a record, or none.
use Rattle.std.proofs.Common.{◌≡◌, refl, ℕ, ◌⊎◌, inl, ◌-◌, Bool, true, false, if◌then◌else◌, Option, Some, None, List, [], ◌∷◌}
use Rattle.std.specs.Option.{IfSome}
use Rattle.mptcp_options.specs.declared.capable.CapableKeys.TheVariants.{WithData}
use Rattle.path_agenda.specs.Words.{first_of}
use Rattle.path_agenda.specs.declared.duty.Duty.{Duty}
use Rattle.path_agenda.specs.declared.duty.SendDuty.{SendDuty}
use Rattle.path_agenda.specs.declared.duty.StepDuty.{StepDuty}
use Rattle.path_agenda.specs.declared.heard.Heard.{Heard}
use Rattle.path_agenda.specs.declared.notice.OwnNotice.{OwnNotice}
use Rattle.path_core.specs.DataFin.{is_data_fin_owed}
use Rattle.path_core.specs.DssIn.{is_clash}
use Rattle.path_core.specs.Emission.{ack_resent, answer_said, first_record, first_unsent, resend_said}
use Rattle.path_core.specs.End.{PathEnd}
use Rattle.path_core.specs.Fallback.{breaks_by_ack}
use Rattle.path_core.specs.Looking.{broken_by, duty_sends, first_sends, heard_sends, segment_sent, unsent_sends}
use Rattle.path_core.specs.OptionsOut.{ack_said, carried_said, noted_said, record_or_ack, record_said, syn_ack_said}
use Rattle.path_core.specs.Profile.{Profile}
use Rattle.path_core.specs.State.{PathState, end_at}
use Rattle.path_core.specs.Treating.{item_of}
use Rattle.path_core.specs.Values.{Carried}
use Rattle.path_segments.specs.Options.{PlainOption}
use Rattle.path_segments.specs.Spelled.{PlainSegment}
use Rattle.path_segments.specs.declared.segment.PathMapping.TheVariants.{Bytes}
use Rattle.path_segments.specs.declared.segment.PathOption.TheVariants.{Capable, Dss}
use Rattle.sides.specs.declared.side.Side.{Side}
use Rattle.stream_lanes.specs.Words.{Every}
use Rattle.subflow_send.specs.Records.{Record}
use Rattle.subflow_send.specs.Rules.{is_unsent}
use Rattle.subflow_tcp.specs.State.{has_records}
use Rattle.world_laws.proofs.Lanes.Records.{every_at, every_find}
use Rattle.own_runs.proofs.Speaking.{ToSend}

-- an option that maps octets
abbrev pub maps_octets : PlainOption → Bool
maps_octets (Dss next (Some (Bytes place position len fin checksum))) = true
maps_octets (Capable flag_a flag_c (WithData sender receiver len checksum)) = true
maps_octets _ = false

-- of a segment with payload
module _ (P : Side → PlainSegment → Type 0) where
  abbrev pub Carries : Side → PlainSegment → Type 0
  Carries s sg = (sg.payload ≡ []) ⊎ P s sg

  abbrev pub RecordsCarry : Profile → Side → PathEnd → Type 0
  RecordsCarry c s e = Every (λ (r : Record). Carries s (record_said c s r e)) e.tcp.send.records

  module _ (c : Profile) (s : Side) (e : PathEnd) (h : RecordsCarry c s e) where
    record_carries : (o : Option Record) → IfSome o (λ r. Carries s (record_said c s r e)) → Carries s (record_or_ack c s o e)
    record_carries None is = inl refl
    record_carries (Some r) is = is

    unsent_carries : Carries s (record_or_ack c s (first_unsent e) e)
    unsent_carries = record_carries (first_unsent e) (every_find is_unsent e.tcp.send.records h)

    again_carries : Carries s (record_or_ack c s (first_record e) e)
    again_carries = record_carries (first_record e) (every_at 0 e.tcp.send.records h)

    closing_carries : (o : Option ℕ) → Carries s (carried_said c s o e)
    closing_carries None = inl refl
    closing_carries (Some key) = inl refl

    noted_carries : (o : Option OwnNotice) → Carries s (noted_said c s o e)
    noted_carries None = inl refl
    noted_carries (Some notice) = inl refl

    answer_carries : Carries s (answer_said c s e)
    answer_carries = by e.tcp.due.syn_ack
      where
        by : (b : Bool) → Carries s (if b then syn_ack_said c s e else ack_said c s e.tcp.send.nxt None e)
        by true = inl refl
        by false = inl refl

    resent_carries : Carries s (ack_resent c s e)
    resent_carries = by e.modes.owes_third e.notices.fast_closed (is_data_fin_owed e)
      where
        by : (third closed owes : Bool) → Carries s (if third then ack_said c s e.tcp.send.nxt None e else (if closed then carried_said c s e.notices.carrier e
            else (if owes then ack_said c s e.tcp.send.nxt e.sending.known_end e else ack_said c s (e.tcp.send.una - 1) None e)))
        by true closed owes = inl refl
        by false true owes = closing_carries e.notices.carrier
        by false false true = inl refl
        by false false false = inl refl

    resend_carries : Carries s (resend_said c s e)
    resend_carries = by (has_records e.tcp)
      where
        by : (b : Bool) → Carries s (if b then record_or_ack c s (first_record e) e else ack_resent c s e)
        by true = again_carries
        by false = resent_carries

  -- ---- by what is to be done

  module _ (p : PathState Carried) (h : (s : Side) → RecordsCarry p.profile s (end_at s p)) where
    abbrev pub SendsCarry : ToSend → Type 0
    SendsCarry t = Carries t.from (segment_sent p t)

    unless_carries : (b : Bool) (o : Option ToSend) → IfSome o SendsCarry → IfSome (if b then None else o) SendsCarry
    unless_carries true o is = tt
    unless_carries false o is = is

    only_carries : (b : Bool) (o : Option ToSend) → IfSome o SendsCarry → IfSome (if b then o else None) SendsCarry
    only_carries true o is = is
    only_carries false o is = tt

    break_carries : (s : Side) (reason : ℕ) → IfSome (broken_by s reason p) SendsCarry
    break_carries s reason = unless_carries (end_at s p).treated.asked _ (inl refl)

    heard_carries : (s : Side) (o : Option Heard) → IfSome (heard_sends s o p) SendsCarry
    heard_carries s (Some (Heard.Mapping fin)) = only_carries (is_clash (end_at s p)) _ (break_carries s 1)
    heard_carries s _ = tt

    data_carries : (s : Side) (o : Option Record) → IfSome (unsent_sends s o) SendsCarry
    data_carries s None = tt
    data_carries s (Some unsent) = unsent_carries p.profile s (end_at s p) (h s)

    send_carries : (d : SendDuty) → IfSome (duty_sends (Duty.Send d) p) SendsCarry
    send_carries (SendDuty.Syn s) = unsent_carries p.profile s (end_at s p) (h s)
    send_carries (SendDuty.Again s) = again_carries p.profile s (end_at s p) (h s)
    send_carries (SendDuty.Answer s) = answer_carries p.profile s (end_at s p) (h s)
    send_carries (SendDuty.Resend s) = resend_carries p.profile s (end_at s p) (h s)
    send_carries (SendDuty.FastClose s) = closing_carries p.profile s (end_at s p) (h s) (end_at s p).notices.carrier
    send_carries (SendDuty.Notice s) = noted_carries p.profile s (end_at s p) (h s) (first_of (end_at s p).notices.queue)
    send_carries _ = inl refl

    step_carries : (d : StepDuty) → IfSome (duty_sends (Duty.Step d) p) SendsCarry
    step_carries (StepDuty.Data s) = data_carries s (first_unsent (end_at s p))
    step_carries (StepDuty.Heard s index) = heard_carries s (item_of index (end_at s p))
    step_carries (StepDuty.PlainAck s) = only_carries (breaks_by_ack p.profile (end_at s p)) _ (break_carries s 6)
    step_carries (StepDuty.Unmapped s) = break_carries s 6
    step_carries _ = tt

    duty_carries : (d : Duty) → IfSome (duty_sends d p) SendsCarry
    duty_carries (Duty.Send d) = send_carries d
    duty_carries (Duty.Step d) = step_carries d
    duty_carries _ = tt

    pub first_carries : (ds : List Duty) → IfSome (first_sends ds p) SendsCarry
    first_carries [] = tt
    first_carries (d ∷ ds) = duty_carries d
