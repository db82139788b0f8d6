-- Where the mappings of a segment stand: at its own position, with the length of its payload. A SYN stands at position 0, without payload.
-- And the key that MP_FASTCLOSE tells: that which its end carries.
use Rattle.std.proofs.Common.{◌≡◌, refl, sym, ◌∙◌, ℕ, ◌-◌, ◌&&◌, not, Bool, true, false, if◌then◌else◌, Option, Some, None, List, [], ◌∷◌, length}
use Rattle.std.specs.Option.{IfSome}
use Rattle.std.proofs.lemmas.Bool.{and_parts, eqb-true, false≢true}
use Rattle.mptcp_options.specs.declared.capable.CapableKeys.TheVariants.{Sender, WithData}
use Rattle.path_agenda.specs.Words.{first_of}
use Rattle.path_agenda.specs.declared.notice.OwnNotice.{OwnNotice}
use Rattle.path_core.specs.DataFin.{is_data_fin_owed}
use Rattle.path_core.specs.DssOut.{data_fin_mapping, fail_beside, fail_options, fin_options, first_piece_options, infinite_or, is_first_piece, mapped_options, owes_mapping, piece_mapping, piece_options, plain_options}
use Rattle.path_core.specs.Emission.{ack_resent, answer_said, first_record, first_unsent, outgoing_or, resend_said}
use Rattle.path_core.specs.End.{PathEnd}
use Rattle.path_core.specs.Modes.{receives_infinite}
use Rattle.path_core.specs.MpJoin.{is_joined, join_options, third_options}
use Rattle.path_core.specs.OptionsOut.{ack_said, broken_options, capable_options, carried_said, fin_said, key_options, noted_said, notice_option, opening_options, record_options, record_or_ack, reset_options, reset_said, segment_of, syn_ack_said, syn_options}
use Rattle.path_core.specs.Profile.{Profile}
use Rattle.path_segments.specs.Options.{PlainOption}
use Rattle.path_segments.specs.Spelled.{PlainSegment}
use Rattle.path_segments.specs.declared.segment.PathMapping.TheVariants.{Bytes, Infinite}
use Rattle.path_segments.specs.declared.segment.PathOption.TheVariants.{Capable, Dss, Fail, FastClose, Reset}
use Rattle.path_store.specs.declared.infinite_mapping.InfiniteMapping.{InfiniteMapping}
use Rattle.sides.specs.declared.side.Side.TheVariants.{A, B}
use Rattle.sides.specs.declared.side.Side.{Side}
use Rattle.stream_lanes.proofs.Lists.{Every-append, Every-nil}
use Rattle.stream_lanes.specs.Words.{Every}
use Rattle.subflow_send.specs.Records.{Record}
use Rattle.subflow_send.specs.Rules.{is_unsent}
use Rattle.subflow_send.specs.declared.record.RecordKind.TheVariants.{Syn, Data, Fin}
use Rattle.subflow_send.specs.declared.record.RecordKind.{RecordKind}
use Rattle.subflow_tcp.specs.Emitting.{fin_position, is_syn, reset_segment}
use Rattle.subflow_tcp.specs.State.{has_records}
use Rattle.subflow_tcp.specs.declared.segments.Outgoing.{Outgoing}
use Rattle.world_laws.proofs.Lanes.Records.{every_at, every_find}
use Rattle.own_runs.proofs.Offering.{every_one, every_two}
use Rattle.own_runs.proofs.Syns.{RecordsStand, Stands, StandsWell}
use Rattle.path_agenda.specs.declared.duty.Duty.{Duty}
use Rattle.path_agenda.specs.declared.duty.SendDuty.{SendDuty}
use Rattle.path_agenda.specs.declared.duty.StepDuty.{StepDuty}
use Rattle.path_agenda.specs.declared.heard.Heard.{Heard}
use Rattle.path_core.specs.DssIn.{is_clash}
use Rattle.path_core.specs.Fallback.{breaks_by_ack}
use Rattle.path_core.specs.Looking.{broken_by, duty_sends, first_sends, heard_sends, segment_sent, unsent_sends}
use Rattle.path_core.specs.State.{PathState, end_at}
use Rattle.path_core.specs.Treating.{item_of}
use Rattle.path_core.specs.Values.{Carried}
use Rattle.own_runs.proofs.Speaking.{ToSend}

-- an option of a segment at this position, with so many octets, from an end with this key of its peer's
abbrev pub PlacedIn : ℕ → ℕ → ℕ → PlainOption → Type 0
PlacedIn key position octets (Dss next (Some (Bytes place at len fin checksum))) = (at ≡ position) × (len ≡ octets) × (fin ≡ false)
PlacedIn key position octets (Capable flag_a flag_c (WithData sender receiver len checksum)) = (1 ≡ position) × (len ≡ octets)
PlacedIn key position octets (FastClose told) = told ≡ key
PlacedIn key position octets _ = Unit {0}

module _ (key : ℕ) where
  abbrev AllPlaced : ℕ → ℕ → List PlainOption → Type 0
  AllPlaced position octets options = Every (PlacedIn key position octets) options

  pub record Placed (sg : PlainSegment) : Type 0 where
    pub syn : sg.syn ≡ true → (sg.position ≡ 0) × (sg.payload ≡ [])
    pub options : AllPlaced sg.position (length sg.payload) sg.options

module _ (key at n : ℕ) where
  none_placed : AllPlaced key at n []
  none_placed = Every-nil (PlacedIn key at n)

  fail_placed : (o : Option ℕ) → AllPlaced key at n (fail_options o)
  fail_placed None = none_placed
  fail_placed (Some place) = every_one (Fail place) tt

  reset_placed : (o : Option ℕ) → AllPlaced key at n (reset_options o)
  reset_placed None = none_placed
  reset_placed (Some reason) = every_one (Reset false reason) tt

  broken_placed : (failed reason : Option ℕ) → AllPlaced key at n (broken_options failed reason)
  broken_placed failed None = none_placed
  broken_placed failed (Some reason) = Every-append (fail_placed failed) (reset_placed (Some reason))

  note_placed : (notice : OwnNotice) (e : PathEnd) → PlacedIn key at n (notice_option notice e.modes)
  note_placed (OwnNotice.AddAddr id) e = tt
  note_placed _ e = tt

  plain_placed : (position : ℕ) (e : PathEnd) → AllPlaced key at n (plain_options position e)
  plain_placed position e = by (owes_mapping e)
    where
      by : (b : Bool) → AllPlaced key at n (if b then Dss None (Some (Infinite (position - 1) position)) ∷ [] else [])
      by true = every_one _ tt
      by false = none_placed

  infinite_placed : (o : Option InfiniteMapping) (options : List PlainOption) (e : PathEnd) → AllPlaced key at n options → AllPlaced key at n (infinite_or o options e)
  infinite_placed None options e h = h
  infinite_placed (Some mapping) options e h = every_one _ (by (owes_mapping e))
    where
      by : (b : Bool) → PlacedIn key at n (Dss (Some e.receiving.next) (if b then Some (Infinite mapping.place mapping.position) else None))
      by true = tt
      by false = tt

module _ (key : ℕ) (c : Profile) (s : Side) (e : PathEnd) (stand : RecordsStand e.tcp.send) (answer : IfSome e.treated.answer (λ o. o.syn ≡ false)) (carries : IfSome e.notices.carrier (λ told. told ≡ key)) where
  beside_placed : (at n : ℕ) (fin : Option ℕ) → AllPlaced key at n (fail_beside fin e.modes)
  beside_placed at n (Some fin) = none_placed key at n
  beside_placed at n None = fail_placed key at n (if receives_infinite e.modes.mode then None else e.modes.failed_mapping)

  key_placed : (at n : ℕ) (t : Side) (o : Option ℕ) → AllPlaced key at n (key_options c t o e)
  key_placed at n A (Some key) = every_one _ tt
  key_placed at n A None = none_placed key at n
  key_placed at n B o = none_placed key at n

  opening_placed : (at n : ℕ) → AllPlaced key at n (opening_options c s e)
  opening_placed at n = by e.modes.owes_third
    where
      by : (b : Bool) → AllPlaced key at n (if b then third_options e.modes else key_options c s e.modes.peer_key e)
      by true = every_one _ tt
      by false = key_placed at n s e.modes.peer_key

  ack_options_placed : (at n : ℕ) (fin : Option ℕ) → AllPlaced key at n (ack_said c s at fin e).options
  ack_options_placed at n fin = by e.modes.identity e.modes.clear
    where
      end_placed : (o : Option ℕ) → PlacedIn key at n (Dss (Some e.receiving.next) (data_fin_mapping c s o))
      end_placed None = tt
      end_placed (Some place) = tt

      by : (fell clear : Bool) → AllPlaced key at n (if fell then [] else (if clear then Dss (Some e.receiving.next) (data_fin_mapping c s fin) ∷ fail_beside fin e.modes else opening_options c s e))
      by true clear = none_placed key at n
      by false true = Every-append {xs = Dss (Some e.receiving.next) (data_fin_mapping c s fin) ∷ []} (every_one _ (end_placed fin)) (beside_placed at n fin)
      by false false = opening_placed at n

  ack_placed : (at : ℕ) (fin : Option ℕ) → Placed key (ack_said c s at fin e)
  ack_placed at fin = record { syn = λ is. absurd (false≢true is); options = ack_options_placed at 0 fin }

  plain : Placed key (ack_said c s e.tcp.send.nxt None e)
  plain = ack_placed e.tcp.send.nxt None

  syn_options_placed : (at n : ℕ) → AllPlaced key at n (syn_options c s e)
  syn_options_placed at n = by s (is_joined c)
    where
      by : (t : Side) (joined : Bool) → AllPlaced key at n (if joined then join_options c t e.modes else capable_options c t e)
      by A true = every_one _ tt
      by A false = every_one _ tt
      by B true = every_one _ tt
      by B false = answered (e.modes.capable_asked && not e.modes.identity)
        where
          answered : (b : Bool) → AllPlaced key at n (if b then Capable c.spelling.checksums false (Sender e.modes.own_key) ∷ [] else [])
          answered true = every_one _ tt
          answered false = none_placed key at n

  first_placed : (o : Option ℕ) (r : Record) → r.pos ≡ 1 → StandsWell Data r → AllPlaced key r.pos (length r.piece) (first_piece_options c o r e)
  first_placed (Some key) r first is = every_one _ (sym first, is)
  first_placed None r first is = none_placed key r.pos (length r.piece)

  piece_placed : (r : Record) → StandsWell Data r → AllPlaced key r.pos (length r.piece) (piece_options c s r e)
  piece_placed r is = by e.modes.identity
    where
      mapped : (b : Bool) → is_first_piece s r e ≡ b
          → AllPlaced key r.pos (length r.piece) (if b then first_piece_options c e.modes.peer_key r e else Dss (Some e.receiving.next) (Some (piece_mapping c s r)) ∷ [])
      mapped true first = first_placed e.modes.peer_key r (eqb-true r.pos 1 (and_parts (not e.modes.clear) _ (and_parts _ _ first).1).1) is
      mapped false first = every_one _ (refl, is, refl)

      by : (b : Bool) → AllPlaced key r.pos (length r.piece) (if b then plain_options r.pos e else infinite_or e.modes.own_infinite (mapped_options c s r e) e)
      by true = plain_placed key r.pos (length r.piece) r.pos e
      by false = infinite_placed key r.pos (length r.piece) e.modes.own_infinite (mapped_options c s r e) e (mapped (is_first_piece s r e) refl)

  fin_placed : (at n position : ℕ) → AllPlaced key at n (fin_options position e)
  fin_placed at n position = by e.modes.identity
    where
      by : (b : Bool) → AllPlaced key at n (if b then plain_options position e else infinite_or e.modes.own_infinite (Dss (Some e.receiving.next) None ∷ []) e)
      by true = plain_placed key at n position e
      by false = infinite_placed key at n e.modes.own_infinite _ e (every_one _ tt)

  record_placed : (o : Option Record) → IfSome o Stands → Placed key (record_or_ack c s o e)
  record_placed None is = plain
  record_placed (Some r) is = record { syn = starts r.kind is; options = kinds r.kind is }
    where
      starts : (kind : RecordKind) → StandsWell kind r → is_syn kind ≡ true → (r.pos ≡ 0) × (r.piece ≡ [])
      starts Syn is syn = is
      starts Data is syn = absurd (false≢true syn)
      starts Fin is syn = absurd (false≢true syn)

      kinds : (kind : RecordKind) → StandsWell kind r → AllPlaced key r.pos (length r.piece) (record_options kind c s r e)
      kinds Syn is = syn_options_placed r.pos (length r.piece)
      kinds Data is = piece_placed r is
      kinds Fin is = fin_placed r.pos (length r.piece) r.pos

  unsent_placed : Placed key (record_or_ack c s (first_unsent e) e)
  unsent_placed = record_placed (first_unsent e) (every_find is_unsent e.tcp.send.records stand)

  again_placed : Placed key (record_or_ack c s (first_record e) e)
  again_placed = record_placed (first_record e) (every_at 0 e.tcp.send.records stand)

  syn_ack_placed : Placed key (syn_ack_said c s e)
  syn_ack_placed = record { syn = λ is. (refl, refl); options = syn_options_placed 0 0 }

  carried_placed : (o : Option ℕ) → IfSome o (λ told. told ≡ key) → Placed key (carried_said c s o e)
  carried_placed None is = plain
  carried_placed (Some told) is = record { syn = λ is. absurd (false≢true is); options = every_two _ _ tt is }

  noted_placed : (o : Option OwnNotice) → Placed key (noted_said c s o e)
  noted_placed None = plain
  noted_placed (Some notice) = record { syn = λ is. absurd (false≢true is); options = every_two _ _ tt (note_placed key e.tcp.send.nxt 0 notice e) }

  own_reset_placed : (reason : Option ℕ) → Placed key (reset_said c reason e)
  own_reset_placed reason = record { syn = λ is. absurd (false≢true is); options = by e.modes.identity }
    where
      by : (b : Bool) → AllPlaced key (reset_said c reason e).position 0 (if b then [] else broken_options e.treated.failed_mapping reason)
      by true = none_placed key (reset_said c reason e).position 0
      by false = broken_placed key (reset_said c reason e).position 0 e.treated.failed_mapping reason

  answer_placed : Placed key (answer_said c s e)
  answer_placed = by e.tcp.due.syn_ack
    where
      by : (b : Bool) → Placed key (if b then syn_ack_said c s e else ack_said c s e.tcp.send.nxt None e)
      by true = syn_ack_placed
      by false = plain

  resent_placed : Placed key (ack_resent c s e)
  resent_placed = by e.modes.owes_third e.notices.fast_closed (is_data_fin_owed e)
    where
      by : (third closed owes : Bool) → Placed key (if third then ack_said c s e.tcp.send.nxt None e else (if closed then carried_said c s e.notices.carrier e
          else (if owes then ack_said c s e.tcp.send.nxt e.sending.known_end e else ack_said c s (e.tcp.send.una - 1) None e)))
      by true closed owes = plain
      by false true owes = carried_placed e.notices.carrier carries
      by false false true = ack_placed e.tcp.send.nxt e.sending.known_end
      by false false false = ack_placed (e.tcp.send.una - 1) None

  resend_placed : Placed key (resend_said c s e)
  resend_placed = by (has_records e.tcp)
    where
      by : (b : Bool) → Placed key (if b then record_or_ack c s (first_record e) e else ack_resent c s e)
      by true = again_placed
      by false = resent_placed

  dead_placed : (reason : Option ℕ) → Placed key (segment_of c (outgoing_or e.treated.answer (reset_segment e.tcp)) (reset_options reason) [] e)
  dead_placed reason = record { syn = λ is. absurd (false≢true (sym (no_syn e.treated.answer answer) ∙ is)); options = reset_placed key _ 0 reason }
    where
      no_syn : (o : Option Outgoing) → IfSome o (λ x. x.syn ≡ false) → (outgoing_or o (reset_segment e.tcp)).syn ≡ false
      no_syn None is = refl
      no_syn (Some o) is = is

  fin_said_placed : Placed key (fin_said c e)
  fin_said_placed = record { syn = λ is. absurd (false≢true is); options = fin_placed (fin_position e.tcp.send) 0 (fin_position e.tcp.send) }

-- ---- by what is to be done

abbrev pub EndStands : ℕ → PathEnd → Type 0
EndStands key e = RecordsStand e.tcp.send × IfSome e.treated.answer (λ o. o.syn ≡ false) × IfSome e.notices.carrier (λ told. told ≡ key)

module _ (key : Side → ℕ) (p : PathState Carried) (h : (s : Side) → EndStands (key s) (end_at s p)) where
  abbrev pub IsPlaced : ToSend → Type 0
  IsPlaced t = Placed (key t.from) (segment_sent p t)

  unless_placed : (b : Bool) (o : Option ToSend) → IfSome o IsPlaced → IfSome (if b then None else o) IsPlaced
  unless_placed true o is = tt
  unless_placed false o is = is

  only_placed : (b : Bool) (o : Option ToSend) → IfSome o IsPlaced → IfSome (if b then o else None) IsPlaced
  only_placed true o is = is
  only_placed false o is = tt

  break_placed : (s : Side) (reason : ℕ) → IfSome (broken_by s reason p) IsPlaced
  break_placed s reason = unless_placed (end_at s p).treated.asked _ (own_reset_placed (key s) p.profile s (end_at s p) (h s).0 (h s).1 (h s).2 (Some reason))

  heard_placed : (s : Side) (o : Option Heard) → IfSome (heard_sends s o p) IsPlaced
  heard_placed s (Some (Heard.Mapping fin)) = only_placed (is_clash (end_at s p)) _ (break_placed s 1)
  heard_placed s _ = tt

  data_placed : (s : Side) (o : Option Record) → IfSome (unsent_sends s o) IsPlaced
  data_placed s None = tt
  data_placed s (Some unsent) = unsent_placed (key s) p.profile s (end_at s p) (h s).0 (h s).1 (h s).2

  duty_placed : (d : Duty) → IfSome (duty_sends d p) IsPlaced
  duty_placed (Duty.Send (SendDuty.Update s)) = plain (key s) p.profile s (end_at s p) (h s).0 (h s).1 (h s).2
  duty_placed (Duty.Send (SendDuty.Acknowledge s)) = plain (key s) p.profile s (end_at s p) (h s).0 (h s).1 (h s).2
  duty_placed (Duty.Send (SendDuty.Syn s)) = unsent_placed (key s) p.profile s (end_at s p) (h s).0 (h s).1 (h s).2
  duty_placed (Duty.Send (SendDuty.FastClose s)) = carried_placed (key s) p.profile s (end_at s p) (h s).0 (h s).1 (h s).2 (end_at s p).notices.carrier (h s).2
  duty_placed (Duty.Send (SendDuty.Notice s)) = noted_placed (key s) p.profile s (end_at s p) (h s).0 (h s).1 (h s).2 (first_of (end_at s p).notices.queue)
  duty_placed (Duty.Send (SendDuty.DataFin s)) = ack_placed (key s) p.profile s (end_at s p) (h s).0 (h s).1 (h s).2 (end_at s p).tcp.send.nxt (end_at s p).sending.known_end
  duty_placed (Duty.Send (SendDuty.Fin s)) = fin_said_placed (key s) p.profile s (end_at s p) (h s).0 (h s).1 (h s).2
  duty_placed (Duty.Send (SendDuty.SynAck s)) = syn_ack_placed (key s) p.profile s (end_at s p) (h s).0 (h s).1 (h s).2
  duty_placed (Duty.Send (SendDuty.Refuse s)) = dead_placed (key s) p.profile s (end_at s p) (h s).0 (h s).1 (h s).2 (Some 1)
  duty_placed (Duty.Send (SendDuty.Again s)) = again_placed (key s) p.profile s (end_at s p) (h s).0 (h s).1 (h s).2
  duty_placed (Duty.Send (SendDuty.Answer s)) = answer_placed (key s) p.profile s (end_at s p) (h s).0 (h s).1 (h s).2
  duty_placed (Duty.Send (SendDuty.ResetAnswer s)) = dead_placed (key s) p.profile s (end_at s p) (h s).0 (h s).1 (h s).2 None
  duty_placed (Duty.Send (SendDuty.Resend s)) = resend_placed (key s) p.profile s (end_at s p) (h s).0 (h s).1 (h s).2
  duty_placed (Duty.Send (SendDuty.BreakReset s reason)) = own_reset_placed (key s) p.profile s (end_at s p) (h s).0 (h s).1 (h s).2 (Some reason)
  duty_placed (Duty.Send (SendDuty.Reset s)) = own_reset_placed (key s) p.profile s (end_at s p) (h s).0 (h s).1 (h s).2 None
  duty_placed (Duty.Send (SendDuty.ResetNoted s)) = own_reset_placed (key s) p.profile s (end_at s p) (h s).0 (h s).1 (h s).2 None
  duty_placed (Duty.Step (StepDuty.Data s)) = data_placed s (first_unsent (end_at s p))
  duty_placed (Duty.Step (StepDuty.Heard s index)) = heard_placed s (item_of index (end_at s p))
  duty_placed (Duty.Step (StepDuty.PlainAck s)) = only_placed (breaks_by_ack p.profile (end_at s p)) _ (break_placed s 6)
  duty_placed (Duty.Step (StepDuty.Unmapped s)) = break_placed s 6
  duty_placed d = tt

  pub first_placed_sent : (ds : List Duty) → IfSome (first_sends ds p) IsPlaced
  first_placed_sent [] = tt
  first_placed_sent (d ∷ ds) = duty_placed d
