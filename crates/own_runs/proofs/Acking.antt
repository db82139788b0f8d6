-- Which Data ACK a side tells: that which its end was told last.
use Rattle.std.proofs.Common.{◌≡◌, refl, ℕ, ◌-◌, ◌&&◌, not, Bool, true, false, if◌then◌else◌, Option, Some, None, List, [], ◌∷◌}
use Rattle.std.specs.Option.{IfSome}
use Rattle.mptcp_options.specs.declared.capable.CapableKeys.TheVariants.{Sender}
use Rattle.path_agenda.specs.Words.{first_of}
use Rattle.path_agenda.specs.declared.duty.Duty.{Duty}
use Rattle.path_agenda.specs.declared.duty.SendDuty.{SendDuty}
use Rattle.path_agenda.specs.declared.duty.StepDuty.{StepDuty}
use Rattle.path_agenda.specs.declared.heard.Heard.{Heard}
use Rattle.path_agenda.specs.declared.notice.OwnNotice.{OwnNotice}
use Rattle.path_core.specs.DataFin.{is_data_fin_owed}
use Rattle.path_core.specs.DssIn.{is_clash}
use Rattle.path_core.specs.DssOut.{data_fin_mapping, fail_beside, fail_options, fin_options, first_piece_options, infinite_or, is_first_piece, mapped_options, owes_mapping, piece_mapping, piece_options, plain_options}
use Rattle.path_core.specs.Emission.{ack_resent, answer_said, first_record, first_unsent, resend_said}
use Rattle.path_core.specs.End.{PathEnd}
use Rattle.path_core.specs.Fallback.{breaks_by_ack}
use Rattle.path_core.specs.Looking.{broken_by, duty_sends, first_sends, heard_sends, segment_sent, unsent_sends}
use Rattle.path_core.specs.Modes.{receives_infinite}
use Rattle.path_core.specs.MpJoin.{is_joined, join_options, third_options}
use Rattle.path_core.specs.OptionsOut.{ack_said, broken_options, capable_options, carried_said, key_options, noted_said, notice_option, opening_options, record_options, record_or_ack, reset_options, reset_said, syn_ack_said, syn_options}
use Rattle.path_core.specs.Profile.{Profile}
use Rattle.path_core.specs.State.{PathState, end_at}
use Rattle.path_core.specs.Treating.{item_of}
use Rattle.path_core.specs.Values.{Carried}
use Rattle.path_segments.specs.Options.{PlainOption}
use Rattle.path_segments.specs.declared.segment.PathMapping.TheVariants.{Infinite}
use Rattle.path_segments.specs.declared.segment.PathOption.TheVariants.{Capable, Dss, Reset}
use Rattle.path_store.specs.declared.infinite_mapping.InfiniteMapping.{InfiniteMapping}
use Rattle.sides.specs.declared.side.Side.TheVariants.{A, B}
use Rattle.sides.specs.declared.side.Side.{Side}
use Rattle.stream_lanes.proofs.Lists.{Every-append, Every-nil}
use Rattle.stream_lanes.specs.Words.{Every}
use Rattle.subflow_send.specs.Records.{Record}
use Rattle.subflow_send.specs.declared.record.RecordKind.TheVariants.{Data, Fin, Syn}
use Rattle.subflow_send.specs.declared.record.RecordKind.{RecordKind}
use Rattle.subflow_tcp.specs.Emitting.{fin_position}
use Rattle.subflow_tcp.specs.State.{has_records}
use Rattle.own_runs.proofs.Offering.{every_one, every_two}
use Rattle.own_runs.proofs.Speaking.{ToSend}

-- a Data ACK in it is this one
abbrev pub OptionAcks : ℕ → PlainOption → Type 0
OptionAcks n (Dss (Some next) mapping) = next ≡ n
OptionAcks n _ = Unit {0}

abbrev pub AllAcks : ℕ → List PlainOption → Type 0
AllAcks n options = Every (OptionAcks n) options

none_acks : (n : ℕ) → AllAcks n []
none_acks n = Every-nil (OptionAcks n)

reset_acks : (n : ℕ) (o : Option ℕ) → AllAcks n (reset_options o)
reset_acks n None = none_acks n
reset_acks n (Some reason) = every_one (Reset false reason) tt

fail_acks : (n : ℕ) (o : Option ℕ) → AllAcks n (fail_options o)
fail_acks n None = none_acks n
fail_acks n (Some place) = every_one _ tt

broken_acks : (n : ℕ) (failed reason : Option ℕ) → AllAcks n (broken_options failed reason)
broken_acks n failed None = none_acks n
broken_acks n failed (Some reason) = Every-append (fail_acks n failed) (reset_acks n (Some reason))

note_acks : (n : ℕ) (notice : OwnNotice) (e : PathEnd) → OptionAcks n (notice_option notice e.modes)
note_acks n (OwnNotice.AddAddr id) e = tt
note_acks n (OwnNotice.AddEcho id address port) e = tt
note_acks n (OwnNotice.Removes id) e = tt
note_acks n (OwnNotice.Prio backup) e = tt

module _ (c : Profile) (s : Side) (e : PathEnd) where
  abbrev n : ℕ
  n = e.receiving.next

  beside_acks : (fin : Option ℕ) → AllAcks e.receiving.next (fail_beside fin e.modes)
  beside_acks (Some fin) = none_acks n
  beside_acks None = fail_acks n (if receives_infinite e.modes.mode then None else e.modes.failed_mapping)

  key_acks : (t : Side) (o : Option ℕ) → AllAcks e.receiving.next (key_options c t o e)
  key_acks A (Some key) = every_one _ tt
  key_acks A None = none_acks n
  key_acks B o = none_acks n

  opening_acks : AllAcks e.receiving.next (opening_options c s e)
  opening_acks = by e.modes.owes_third
    where
      by : (b : Bool) → AllAcks e.receiving.next (if b then third_options e.modes else key_options c s e.modes.peer_key e)
      by true = every_one _ tt
      by false = key_acks s e.modes.peer_key

  ack_acks : (position : ℕ) (fin : Option ℕ) → AllAcks e.receiving.next (ack_said c s position fin e).options
  ack_acks position fin = by e.modes.identity e.modes.clear
    where
      by : (fell clear : Bool) → AllAcks e.receiving.next (if fell then [] else (if clear then Dss (Some e.receiving.next) (data_fin_mapping c s fin) ∷ fail_beside fin e.modes else opening_options c s e))
      by true clear = none_acks n
      by false true = Every-append {xs = Dss (Some e.receiving.next) (data_fin_mapping c s fin) ∷ []} (every_one _ refl) (beside_acks fin)
      by false false = opening_acks

  plain_acks : AllAcks e.receiving.next (ack_said c s e.tcp.send.nxt None e).options
  plain_acks = ack_acks e.tcp.send.nxt None

  syn_acks : AllAcks e.receiving.next (syn_options c s e)
  syn_acks = by s (is_joined c)
    where
      by : (t : Side) (joined : Bool) → AllAcks e.receiving.next (if joined then join_options c t e.modes else capable_options c t e)
      by A true = every_one _ tt
      by A false = every_one _ tt
      by B true = every_one _ tt
      by B false = answered (e.modes.capable_asked && not e.modes.identity)
        where
          answered : (b : Bool) → AllAcks e.receiving.next (if b then Capable c.spelling.checksums false (Sender e.modes.own_key) ∷ [] else [])
          answered true = every_one _ tt
          answered false = none_acks n

  tcp_acks : (position : ℕ) → AllAcks e.receiving.next (plain_options position e)
  tcp_acks position = by (owes_mapping e)
    where
      by : (b : Bool) → AllAcks e.receiving.next (if b then Dss None (Some (Infinite (position - 1) position)) ∷ [] else [])
      by true = every_one _ tt
      by false = none_acks n

  infinite_acks : (o : Option InfiniteMapping) (options : List PlainOption) → AllAcks e.receiving.next options → AllAcks e.receiving.next (infinite_or o options e)
  infinite_acks None options h = h
  infinite_acks (Some mapping) options h = every_one _ refl

  first_acks : (o : Option ℕ) (r : Record) → AllAcks e.receiving.next (first_piece_options c o r e)
  first_acks (Some key) r = every_one _ tt
  first_acks None r = none_acks n

  mapped_acks : (r : Record) → AllAcks e.receiving.next (mapped_options c s r e)
  mapped_acks r = by (is_first_piece s r e)
    where
      by : (b : Bool) → AllAcks e.receiving.next (if b then first_piece_options c e.modes.peer_key r e else Dss (Some e.receiving.next) (Some (piece_mapping c s r)) ∷ [])
      by true = first_acks e.modes.peer_key r
      by false = every_one _ refl

  piece_acks : (r : Record) → AllAcks e.receiving.next (piece_options c s r e)
  piece_acks r = by e.modes.identity
    where
      by : (b : Bool) → AllAcks e.receiving.next (if b then plain_options r.pos e else infinite_or e.modes.own_infinite (mapped_options c s r e) e)
      by true = tcp_acks r.pos
      by false = infinite_acks e.modes.own_infinite (mapped_options c s r e) (mapped_acks r)

  fin_acks : (position : ℕ) → AllAcks e.receiving.next (fin_options position e)
  fin_acks position = by e.modes.identity
    where
      by : (b : Bool) → AllAcks e.receiving.next (if b then plain_options position e else infinite_or e.modes.own_infinite (Dss (Some e.receiving.next) None ∷ []) e)
      by true = tcp_acks position
      by false = infinite_acks e.modes.own_infinite (Dss (Some e.receiving.next) None ∷ []) (every_one _ refl)

  kind_acks : (kind : RecordKind) (r : Record) → AllAcks e.receiving.next (record_options kind c s r e)
  kind_acks Syn r = syn_acks
  kind_acks Data r = piece_acks r
  kind_acks Fin r = fin_acks r.pos

  record_acks : (o : Option Record) → AllAcks e.receiving.next (record_or_ack c s o e).options
  record_acks None = plain_acks
  record_acks (Some r) = kind_acks r.kind r

  carried_acks : (o : Option ℕ) → AllAcks e.receiving.next (carried_said c s o e).options
  carried_acks None = plain_acks
  carried_acks (Some key) = every_two _ _ refl tt

  noted_acks : (o : Option OwnNotice) → AllAcks e.receiving.next (noted_said c s o e).options
  noted_acks None = plain_acks
  noted_acks (Some notice) = every_two _ _ refl (note_acks n notice e)

  own_reset_acks : (reason : Option ℕ) → AllAcks e.receiving.next (reset_said c reason e).options
  own_reset_acks reason = by e.modes.identity
    where
      by : (b : Bool) → AllAcks e.receiving.next (if b then [] else broken_options e.treated.failed_mapping reason)
      by true = none_acks n
      by false = broken_acks n e.treated.failed_mapping reason

  answer_acks : AllAcks e.receiving.next (answer_said c s e).options
  answer_acks = by e.tcp.due.syn_ack
    where
      by : (b : Bool) → AllAcks e.receiving.next (if b then syn_ack_said c s e else ack_said c s e.tcp.send.nxt None e).options
      by true = syn_acks
      by false = plain_acks

  resent_acks : AllAcks e.receiving.next (ack_resent c s e).options
  resent_acks = by e.modes.owes_third e.notices.fast_closed (is_data_fin_owed e)
    where
      by : (third closed owes : Bool) → AllAcks e.receiving.next (if third then ack_said c s e.tcp.send.nxt None e else (if closed then carried_said c s e.notices.carrier e
          else (if owes then ack_said c s e.tcp.send.nxt e.sending.known_end e else ack_said c s (e.tcp.send.una - 1) None e))).options
      by true closed owes = plain_acks
      by false true owes = carried_acks e.notices.carrier
      by false false true = ack_acks e.tcp.send.nxt e.sending.known_end
      by false false false = ack_acks (e.tcp.send.una - 1) None

  resend_acks : AllAcks e.receiving.next (resend_said c s e).options
  resend_acks = by (has_records e.tcp)
    where
      by : (b : Bool) → AllAcks e.receiving.next (if b then record_or_ack c s (first_record e) e else ack_resent c s e).options
      by true = record_acks (first_record e)
      by false = resent_acks

-- ---- by what is to be done

module _ (p : PathState Carried) where
  abbrev pub SendsAcks : ToSend → Type 0
  SendsAcks t = AllAcks (end_at t.from p).receiving.next (segment_sent p t).options

  unless_acks : (b : Bool) (o : Option ToSend) → IfSome o SendsAcks → IfSome (if b then None else o) SendsAcks
  unless_acks true o is = tt
  unless_acks false o is = is

  only_acks : (b : Bool) (o : Option ToSend) → IfSome o SendsAcks → IfSome (if b then o else None) SendsAcks
  only_acks true o is = is
  only_acks false o is = tt

  break_acks : (s : Side) (reason : ℕ) → IfSome (broken_by s reason p) SendsAcks
  break_acks s reason = unless_acks (end_at s p).treated.asked _ (own_reset_acks p.profile s (end_at s p) (Some reason))

  heard_acks : (s : Side) (o : Option Heard) → IfSome (heard_sends s o p) SendsAcks
  heard_acks s (Some (Heard.Mapping fin)) = only_acks (is_clash (end_at s p)) _ (break_acks s 1)
  heard_acks s _ = tt

  data_acks : (s : Side) (o : Option Record) → IfSome (unsent_sends s o) SendsAcks
  data_acks s None = tt
  data_acks s (Some unsent) = record_acks p.profile s (end_at s p) (first_unsent (end_at s p))

  duty_acks : (d : Duty) → IfSome (duty_sends d p) SendsAcks
  duty_acks (Duty.Send (SendDuty.Update s)) = plain_acks p.profile s (end_at s p)
  duty_acks (Duty.Send (SendDuty.Acknowledge s)) = plain_acks p.profile s (end_at s p)
  duty_acks (Duty.Send (SendDuty.Syn s)) = record_acks p.profile s (end_at s p) (first_unsent (end_at s p))
  duty_acks (Duty.Send (SendDuty.FastClose s)) = carried_acks p.profile s (end_at s p) (end_at s p).notices.carrier
  duty_acks (Duty.Send (SendDuty.Notice s)) = noted_acks p.profile s (end_at s p) (first_of (end_at s p).notices.queue)
  duty_acks (Duty.Send (SendDuty.DataFin s)) = ack_acks p.profile s (end_at s p) (end_at s p).tcp.send.nxt (end_at s p).sending.known_end
  duty_acks (Duty.Send (SendDuty.Fin s)) = fin_acks p.profile s (end_at s p) (fin_position (end_at s p).tcp.send)
  duty_acks (Duty.Send (SendDuty.SynAck s)) = syn_acks p.profile s (end_at s p)
  duty_acks (Duty.Send (SendDuty.Refuse s)) = reset_acks (end_at s p).receiving.next (Some 1)
  duty_acks (Duty.Send (SendDuty.Again s)) = record_acks p.profile s (end_at s p) (first_record (end_at s p))
  duty_acks (Duty.Send (SendDuty.Answer s)) = answer_acks p.profile s (end_at s p)
  duty_acks (Duty.Send (SendDuty.ResetAnswer s)) = none_acks (end_at s p).receiving.next
  duty_acks (Duty.Send (SendDuty.Resend s)) = resend_acks p.profile s (end_at s p)
  duty_acks (Duty.Send (SendDuty.BreakReset s reason)) = own_reset_acks p.profile s (end_at s p) (Some reason)
  duty_acks (Duty.Send (SendDuty.Reset s)) = own_reset_acks p.profile s (end_at s p) None
  duty_acks (Duty.Send (SendDuty.ResetNoted s)) = own_reset_acks p.profile s (end_at s p) None
  duty_acks (Duty.Step (StepDuty.Data s)) = data_acks s (first_unsent (end_at s p))
  duty_acks (Duty.Step (StepDuty.Heard s index)) = heard_acks s (item_of index (end_at s p))
  duty_acks (Duty.Step (StepDuty.PlainAck s)) = only_acks (breaks_by_ack p.profile (end_at s p)) _ (break_acks s 6)
  duty_acks (Duty.Step (StepDuty.Unmapped s)) = break_acks s 6
  duty_acks d = tt

  pub first_sent_acks : (ds : List Duty) → IfSome (first_sends ds p) SendsAcks
  first_sent_acks [] = tt
  first_sent_acks (d ∷ ds) = duty_acks d
