-- Which segments map octets or tell a DATA_FIN: those of records with octets that were granted, and acknowledgements of an end that may send a DSS.
use Rattle.std.proofs.Common.{◌≡◌, refl, ◌⊎◌, inl, inr, ◌-◌, ◌&&◌, not, Bool, true, false, if◌then◌else◌, ℕ, Option, Some, None, List, [], ◌∷◌}
use Rattle.std.specs.List.{list_any}
use Rattle.std.specs.Option.{IfSome}
use Rattle.path_agenda.specs.Words.{first_of}
use Rattle.path_agenda.specs.declared.duty.Duty.{Duty}
use Rattle.path_agenda.specs.declared.duty.SendDuty.{SendDuty}
use Rattle.path_agenda.specs.declared.duty.StepDuty.{StepDuty}
use Rattle.path_agenda.specs.declared.heard.Heard.{Heard}
use Rattle.path_agenda.specs.declared.notice.OwnNotice.{OwnNotice}
use Rattle.path_core.specs.DataFin.{is_data_fin_owed}
use Rattle.path_core.specs.DssIn.{is_clash}
use Rattle.path_core.specs.DssOut.{data_fin_mapping, fail_beside, fin_options, infinite_or, owes_mapping, plain_options}
use Rattle.path_core.specs.Emission.{ack_resent, answer_said, first_record, first_unsent, resend_said}
use Rattle.path_core.specs.End.{PathEnd}
use Rattle.path_core.specs.Fallback.{breaks_by_ack}
use Rattle.path_core.specs.Looking.{broken_by, duty_sends, first_sends, heard_sends, segment_sent, unsent_sends}
use Rattle.path_core.specs.MpJoin.{is_joined, join_options, third_options}
use Rattle.path_core.specs.OptionsOut.{ack_options, ack_said, broken_options, capable_options, carried_said, key_options, noted_said, record_options, record_or_ack, record_said, reset_said, syn_ack_said, syn_options}
use Rattle.path_core.specs.Profile.{Profile}
use Rattle.path_core.specs.State.{PathState, end_at}
use Rattle.path_core.specs.Treating.{item_of}
use Rattle.path_core.specs.Values.{Carried}
use Rattle.path_segments.specs.Options.{PlainOption}
use Rattle.path_segments.specs.Spelled.{PlainSegment}
use Rattle.path_segments.specs.declared.segment.PathMapping.TheVariants.{Infinite}
use Rattle.path_segments.specs.declared.segment.PathOption.TheVariants.{Dss}
use Rattle.sides.specs.declared.side.Side.TheVariants.{A, B}
use Rattle.sides.specs.declared.side.Side.{Side}
use Rattle.stream_lanes.specs.Words.{Every}
use Rattle.subflow_send.specs.Records.{Record}
use Rattle.subflow_send.specs.Rules.{is_unsent}
use Rattle.subflow_send.specs.declared.record.RecordKind.TheVariants.{Data, Fin, Syn}
use Rattle.subflow_send.specs.declared.record.RecordKind.{RecordKind}
use Rattle.subflow_tcp.specs.Emitting.{fin_position}
use Rattle.subflow_tcp.specs.State.{has_records}
use Rattle.world_laws.proofs.Lanes.Records.{every_at, every_find}
use Rattle.own_runs.specs.KeysShown.{bears_option}
use Rattle.own_runs.proofs.KeyedPieces.{KindNeeds, Needs}
use Rattle.own_runs.proofs.Speaking.{ToSend}

module _ (R : Side → Type 0) where
  abbrev pub Bears : Side → PlainSegment → Type 0
  Bears s sg = (list_any bears_option sg.options ≡ false) ⊎ R s

  module _ (c : Profile) (s : Side) (e : PathEnd) (clear : e.modes.clear ≡ true → R s) where
    abbrev None_in : List PlainOption → Type 0
    None_in options = list_any bears_option options ≡ false

    pick_none : (b : Bool) (options : List PlainOption) → None_in options → None_in (if b then options else [])
    pick_none true options none = none
    pick_none false options none = refl

    keys_none : (t : Side) (o : Option ℕ) → None_in (key_options c t o e)
    keys_none A (Some peer) = refl
    keys_none A None = refl
    keys_none B o = refl

    pub ack_bears : (fin : Option ℕ) → None_in (ack_options c s fin e) ⊎ R s
    ack_bears fin = by e.modes.identity e.modes.clear refl e.modes.owes_third
      where
        by : (plain x : Bool) → e.modes.clear ≡ x → (third : Bool) → None_in (if plain then [] else (if x then Dss (Some e.receiving.next) (data_fin_mapping c s fin) ∷ fail_beside fin e.modes
            else (if third then third_options e.modes else key_options c s e.modes.peer_key e))) ⊎ R s
        by true x is third = inl refl
        by false true is third = inr (clear is)
        by false false is true = inl refl
        by false false is false = inl (keys_none s e.modes.peer_key)

    syn_none : None_in (syn_options c s e)
    syn_none = by (is_joined c) s
      where
        by : (b : Bool) (t : Side) → None_in (if b then join_options c t e.modes else capable_options c t e)
        by true A = refl
        by true B = refl
        by false A = refl
        by false B = pick_none (e.modes.capable_asked && not e.modes.identity) _ refl

    plain_none : (position : ℕ) → None_in (plain_options position e)
    plain_none position = pick_none (owes_mapping e) _ refl

    infinite_none : (place position : ℕ) (b : Bool) → None_in (Dss (Some e.receiving.next) (if b then Some (Infinite place position) else None) ∷ [])
    infinite_none place position true = refl
    infinite_none place position false = refl

    fin_none : (position : ℕ) → None_in (fin_options position e)
    fin_none position = by e.modes.identity e.modes.own_infinite
      where
        by : (b : Bool) (o : _) → None_in (if b then plain_options position e else infinite_or o (Dss (Some e.receiving.next) None ∷ []) e)
        by true o = plain_none position
        by false None = refl
        by false (Some mapping) = infinite_none mapping.place mapping.position (owes_mapping e)

    -- ---- segments

    record_bears : (r : Record) → Needs (R s) r → Bears s (record_said c s r e)
    record_bears r need = by r.kind need
      where
        by : (kind : RecordKind) → KindNeeds (R s) kind → None_in (record_options kind c s r e) ⊎ R s
        by Syn need = inl syn_none
        by Data need = inr need
        by Fin need = inl (fin_none r.pos)

    reset_none : (reason : Option ℕ) → None_in (reset_said c reason e).options
    reset_none reason = by e.modes.identity reason e.treated.failed_mapping
      where
        by : (b : Bool) (reason failed : Option ℕ) → None_in (if b then [] else broken_options failed reason)
        by true reason failed = refl
        by false None failed = refl
        by false (Some reason) None = refl
        by false (Some reason) (Some place) = refl

    noted_bears : (o : Option OwnNotice) → Bears s (noted_said c s o e)
    noted_bears None = ack_bears None
    noted_bears (Some (OwnNotice.AddAddr id)) = inl refl
    noted_bears (Some (OwnNotice.AddEcho id address port)) = inl refl
    noted_bears (Some (OwnNotice.Removes id)) = inl refl
    noted_bears (Some (OwnNotice.Prio backup)) = inl refl

    closing_bears : (o : Option ℕ) → Bears s (carried_said c s o e)
    closing_bears None = ack_bears None
    closing_bears (Some key) = inl refl

    module _ (h : Every (Needs (R s)) e.tcp.send.records) where
      either_bears : (o : Option Record) → IfSome o (Needs (R s)) → Bears s (record_or_ack c s o e)
      either_bears None is = ack_bears None
      either_bears (Some r) is = record_bears r is

      unsent_bears : Bears s (record_or_ack c s (first_unsent e) e)
      unsent_bears = either_bears (first_unsent e) (every_find is_unsent e.tcp.send.records h)

      again_bears : Bears s (record_or_ack c s (first_record e) e)
      again_bears = either_bears (first_record e) (every_at 0 e.tcp.send.records h)

      answer_bears : Bears s (answer_said c s e)
      answer_bears = by e.tcp.due.syn_ack
        where
          by : (b : Bool) → Bears s (if b then syn_ack_said c s e else ack_said c s e.tcp.send.nxt None e)
          by true = inl syn_none
          by false = ack_bears None

      resent_bears : Bears s (ack_resent c s e)
      resent_bears = by e.modes.owes_third e.notices.fast_closed (is_data_fin_owed e)
        where
          by : (third closed owes : Bool) → Bears s (if third then ack_said c s e.tcp.send.nxt None e else (if closed then carried_said c s e.notices.carrier e
              else (if owes then ack_said c s e.tcp.send.nxt e.sending.known_end e else ack_said c s (e.tcp.send.una - 1) None e)))
          by true closed owes = ack_bears None
          by false true owes = closing_bears e.notices.carrier
          by false false true = ack_bears e.sending.known_end
          by false false false = ack_bears None

      resend_bears : Bears s (resend_said c s e)
      resend_bears = by (has_records e.tcp)
        where
          by : (b : Bool) → Bears s (if b then record_or_ack c s (first_record e) e else ack_resent c s e)
          by true = again_bears
          by false = resent_bears

  -- ---- by what is to be done

  module _ (p : PathState Carried) (clear : (s : Side) → (end_at s p).modes.clear ≡ true → R s) (h : (s : Side) → Every (Needs (R s)) (end_at s p).tcp.send.records) where
    abbrev pub SendBears : ToSend → Type 0
    SendBears t = Bears t.from (segment_sent p t)

    unless_bears : (b : Bool) (o : Option ToSend) → IfSome o SendBears → IfSome (if b then None else o) SendBears
    unless_bears true o is = tt
    unless_bears false o is = is

    only_bears : (b : Bool) (o : Option ToSend) → IfSome o SendBears → IfSome (if b then o else None) SendBears
    only_bears true o is = is
    only_bears false o is = tt

    break_bears : (s : Side) (reason : ℕ) → IfSome (broken_by s reason p) SendBears
    break_bears s reason = unless_bears (end_at s p).treated.asked _ (inl (reset_none p.profile s (end_at s p) (clear s) (Some reason)))

    heard_bears : (s : Side) (o : Option Heard) → IfSome (heard_sends s o p) SendBears
    heard_bears s (Some (Heard.Mapping fin)) = only_bears (is_clash (end_at s p)) _ (break_bears s 1)
    heard_bears s _ = tt

    data_bears : (s : Side) (o : Option Record) → IfSome (unsent_sends s o) SendBears
    data_bears s None = tt
    data_bears s (Some unsent) = unsent_bears p.profile s (end_at s p) (clear s) (h s)

    send_bears : (d : SendDuty) → IfSome (duty_sends (Duty.Send d) p) SendBears
    send_bears (SendDuty.Update s) = ack_bears p.profile s (end_at s p) (clear s) None
    send_bears (SendDuty.Syn s) = unsent_bears p.profile s (end_at s p) (clear s) (h s)
    send_bears (SendDuty.FastClose s) = closing_bears p.profile s (end_at s p) (clear s) (end_at s p).notices.carrier
    send_bears (SendDuty.Notice s) = noted_bears p.profile s (end_at s p) (clear s) (first_of (end_at s p).notices.queue)
    send_bears (SendDuty.DataFin s) = ack_bears p.profile s (end_at s p) (clear s) (end_at s p).sending.known_end
    send_bears (SendDuty.Fin s) = inl (fin_none p.profile s (end_at s p) (clear s) (fin_position (end_at s p).tcp.send))
    send_bears (SendDuty.SynAck s) = inl (syn_none p.profile s (end_at s p) (clear s))
    send_bears (SendDuty.Refuse s) = inl refl
    send_bears (SendDuty.Acknowledge s) = ack_bears p.profile s (end_at s p) (clear s) None
    send_bears (SendDuty.Again s) = again_bears p.profile s (end_at s p) (clear s) (h s)
    send_bears (SendDuty.Answer s) = answer_bears p.profile s (end_at s p) (clear s) (h s)
    send_bears (SendDuty.ResetAnswer s) = inl refl
    send_bears (SendDuty.Resend s) = resend_bears p.profile s (end_at s p) (clear s) (h s)
    send_bears (SendDuty.BreakReset s reason) = inl (reset_none p.profile s (end_at s p) (clear s) (Some reason))
    send_bears (SendDuty.Reset s) = inl (reset_none p.profile s (end_at s p) (clear s) None)
    send_bears (SendDuty.ResetNoted s) = inl (reset_none p.profile s (end_at s p) (clear s) None)

    step_bears : (d : StepDuty) → IfSome (duty_sends (Duty.Step d) p) SendBears
    step_bears (StepDuty.Data s) = data_bears s (first_unsent (end_at s p))
    step_bears (StepDuty.Heard s index) = heard_bears s (item_of index (end_at s p))
    step_bears (StepDuty.PlainAck s) = only_bears (breaks_by_ack p.profile (end_at s p)) _ (break_bears s 6)
    step_bears (StepDuty.Unmapped s) = break_bears s 6
    step_bears _ = tt

    duty_bears : (d : Duty) → IfSome (duty_sends d p) SendBears
    duty_bears (Duty.Send d) = send_bears d
    duty_bears (Duty.Step d) = step_bears d
    duty_bears _ = tt

    pub first_bears : (ds : List Duty) → IfSome (first_sends ds p) SendBears
    first_bears [] = tt
    first_bears (d ∷ ds) = duty_bears d
