-- How many octets a segment has whose payload has so many at most.
use Rattle.std.proofs.Common.{◌≡◌, refl, ap, ℕ, ◌-◌, ◌≤◌, inl, inr, ◌⊎◌, ⊎_elim, Bool, true, false, if◌then◌else◌, Option, Some, None, option_map, List, [], ◌∷◌, ◌++◌, length, length-append, replicate, arith}
use Rattle.std.specs.Option.{IfSome}
use Rattle.std.proofs.lemmas.List.{append-nil, length-replicate}
use Rattle.mptcp_options.specs.Text.{option_text}
use Rattle.mptcp_options.specs.Value as wire
use Rattle.mptcp_options.specs.declared.capable.CapableKeys.TheVariants.{WithData}
use Rattle.mptcp_options.specs.declared.dss.DataNumber.TheVariants.{Whole, Low}
use Rattle.mptcp_options.specs.declared.dss.DataNumber.{DataNumber}
use Rattle.mptcp_options.specs.declared.dss.DssMap.{DssMap}
use Rattle.path_core.specs.DssOut.{checksum_told, first_piece_options, infinite_or, is_first_piece, mapped_options, owes_mapping, piece_mapping, piece_options, plain_options}
use Rattle.path_core.specs.Emission.{ack_resent, answer_said, first_record, first_unsent, resend_said}
use Rattle.path_core.specs.End.{PathEnd}
use Rattle.path_core.specs.OptionsOut.{record_options, record_or_ack, noted_said, carried_said}
use Rattle.path_core.specs.Octets.{made}
use Rattle.path_core.specs.Profile.{Profile}
use Rattle.path_segments.specs.Options.{PlainOption, mapping_ends_stream, said_mapping, said_option}
use Rattle.path_segments.specs.Spelling.{data_number}
use Rattle.path_segments.specs.declared.segment.PathMapping.{PathMapping}
use Rattle.sides.specs.Side.{peer}
use Rattle.path_segments.specs.Spelled.{CanSay, PlainSegment, options_text, padding, spelled, syn_text, unpadded_options}
use Rattle.path_segments.specs.declared.segment.PathMapping.TheVariants.{Infinite}
use Rattle.path_segments.specs.declared.segment.PathOption.TheVariants.{Capable, Dss}
use Rattle.path_store.specs.declared.infinite_mapping.InfiniteMapping.{InfiniteMapping}
use Rattle.segment_wire.proofs.Text.{length-octets_with}
use Rattle.segment_wire.specs.Paths.{addresses_from}
use Rattle.segment_wire.specs.Segment.{checksum_field, segment_text}
use Rattle.sides.specs.declared.side.Side.{Side}
use Rattle.subflow_send.specs.Records.{Record}
use Rattle.subflow_send.specs.declared.record.RecordKind.TheVariants.{Syn, Data, Fin}
use Rattle.subflow_send.specs.declared.record.RecordKind.{RecordKind}
use Rattle.subflow_tcp.specs.Emitting.{is_syn}
use Rattle.own_runs.proofs.ShortPieces.{IsShort, PieceIs}
use Rattle.path_agenda.specs.Words.{first_of}
use Rattle.path_agenda.specs.declared.notice.OwnNotice.{OwnNotice}
use Rattle.path_core.specs.DataFin.{is_data_fin_owed}
use Rattle.stream_lanes.specs.Words.{Every}
use Rattle.subflow_send.specs.Rules.{is_unsent}
use Rattle.subflow_tcp.specs.State.{has_records}
use Rattle.world_laws.proofs.Lanes.Records.{every_at, every_find}
use Rattle.path_agenda.specs.declared.duty.Duty.{Duty}
use Rattle.path_agenda.specs.declared.duty.SendDuty.{SendDuty}
use Rattle.path_agenda.specs.declared.duty.StepDuty.{StepDuty}
use Rattle.path_agenda.specs.declared.heard.Heard.{Heard}
use Rattle.path_core.specs.DssIn.{is_clash}
use Rattle.path_core.specs.Fallback.{breaks_by_ack}
use Rattle.path_core.specs.Looking.{broken_by, duty_sends, first_sends, heard_sends, segment_sent, unsent_sends}
use Rattle.path_core.specs.State.{PathState, end_at}
use Rattle.path_core.specs.Treating.{item_of}
use Rattle.path_core.specs.Values.{Carried}
use Rattle.own_runs.proofs.Speaking.{ToSend}
use Rattle.stream_lanes.specs.Words.{Every}

-- ---- options

none_none : (fin : Bool) → length (option_text (wire.Dss None None fin)) ≤ 28
unfolding option_text
none_none fin = omega arith

some_none : (ack : DataNumber) (fin : Bool) → length (option_text (wire.Dss (Some ack) None fin)) ≤ 28
unfolding option_text
some_none (Whole ack) fin = omega arith
some_none (Low ack) fin = omega arith

abbrev map_of : DataNumber → ℕ → ℕ → Option ℕ → DssMap
map_of number relative len checksum = record { number = number; relative = relative; length = len; checksum = checksum }

none_some : (number : DataNumber) (relative len : ℕ) (checksum : Option ℕ) (fin : Bool) → length (option_text (wire.Dss None (Some (map_of number relative len checksum)) fin)) ≤ 28
unfolding option_text
none_some (Whole number) relative len None fin = omega arith
none_some (Whole number) relative len (Some checksum) fin = omega arith
none_some (Low number) relative len None fin = omega arith
none_some (Low number) relative len (Some checksum) fin = omega arith

some_some : (ack number : DataNumber) (relative len : ℕ) (checksum : Option ℕ) (fin : Bool) → length (option_text (wire.Dss (Some ack) (Some (map_of number relative len checksum)) fin)) ≤ 28
unfolding option_text
some_some (Whole ack) (Whole number) relative len None fin = omega arith
some_some (Whole ack) (Whole number) relative len (Some checksum) fin = omega arith
some_some (Whole ack) (Low number) relative len None fin = omega arith
some_some (Whole ack) (Low number) relative len (Some checksum) fin = omega arith
some_some (Low ack) (Whole number) relative len None fin = omega arith
some_some (Low ack) (Whole number) relative len (Some checksum) fin = omega arith
some_some (Low ack) (Low number) relative len None fin = omega arith
some_some (Low ack) (Low number) relative len (Some checksum) fin = omega arith

dss_length : (ack : Option DataNumber) (map : Option DssMap) (fin : Bool) → length (option_text (wire.Dss ack map fin)) ≤ 28
dss_length None None fin = none_none fin
dss_length (Some ack) None fin = some_none ack fin
dss_length None (Some map) fin = none_some map.number map.relative map.length map.checksum fin
dss_length (Some ack) (Some map) fin = some_some ack map.number map.relative map.length map.checksum fin

capable_length : (flag_a flag_c : Bool) (sender receiver len : ℕ) (checksum : Option ℕ) → length (option_text (wire.Capable flag_a flag_c (WithData sender receiver len checksum))) ≤ 28
unfolding option_text
capable_length flag_a flag_c sender receiver len None = omega arith
capable_length flag_a flag_c sender receiver len (Some checksum) = omega arith

module _ (c : Profile) (s : Side) where
  abbrev Few : List PlainOption → Type 0
  Few options = length (options_text c.spelling s options) ≤ 28

  one_few : (o : PlainOption) → length (option_text (said_option c.spelling s o)) ≤ 28 → Few (o ∷ [])
  one_few o few = omega (arith, few, ap length (append-nil (option_text (said_option c.spelling s o))))

  dss_few : (next : Option ℕ) (mapping : Option (PathMapping ℕ)) → Few (Dss next mapping ∷ [])
  dss_few next mapping = one_few (Dss next mapping) (dss_length (option_map (data_number c.spelling (peer s)) next) (option_map (said_mapping c.spelling s) mapping) (mapping_ends_stream mapping))

  none_few : Few []
  none_few = omega arith

  module _ (e : PathEnd) where
    plain_few : (position : ℕ) → Few (plain_options position e)
    plain_few position = by (owes_mapping e)
      where
        by : (b : Bool) → Few (if b then Dss None (Some (Infinite (position - 1) position)) ∷ [] else [])
        by true = dss_few None (Some (Infinite (position - 1) position))
        by false = none_few

    infinite_few : (o : Option InfiniteMapping) (options : List PlainOption) → Few options → Few (infinite_or o options e)
    infinite_few None options h = h
    infinite_few (Some mapping) options h = dss_few (Some e.receiving.next) (if owes_mapping e then Some (Infinite mapping.place mapping.position) else None)

    first_few : (o : Option ℕ) (r : Record) → Few (first_piece_options c o r e)
    first_few (Some peer) r =
        one_few (Capable c.spelling.checksums false (WithData e.modes.own_key peer r.mapping.length (checksum_told c r.mapping.checksum)))
        (capable_length c.spelling.checksums false e.modes.own_key peer r.mapping.length (checksum_told c r.mapping.checksum))
    first_few None r = none_few

    mapped_few : (r : Record) → Few (mapped_options c s r e)
    mapped_few r = by (is_first_piece s r e)
      where
        by : (b : Bool) → Few (if b then first_piece_options c e.modes.peer_key r e else Dss (Some e.receiving.next) (Some (piece_mapping c s r)) ∷ [])
        by true = first_few e.modes.peer_key r
        by false = dss_few (Some e.receiving.next) (Some (piece_mapping c s r))

    pub piece_few : (r : Record) → Few (piece_options c s r e)
    piece_few r = by e.modes.identity
      where
        by : (b : Bool) → Few (if b then plain_options r.pos e else infinite_or e.modes.own_infinite (mapped_options c s r e) e)
        by true = plain_few r.pos
        by false = infinite_few e.modes.own_infinite (mapped_options c s r e) (mapped_few r)

-- ---- segments

-- without payload, or with so many octets of it at most behind 28 octets of options
abbrev pub Light : ℕ → Profile → Side → PlainSegment → Type 0
Light most c s sg = (sg.payload ≡ []) ⊎ ((length (unpadded_options c.spelling s sg) ≤ 28) × (length sg.payload ≤ most))

pub octets_few : (most : ℕ) (c : Profile) (s : Side) (sg : PlainSegment) → most ≤ 65467 → CanSay c.spelling s sg → Light most c s sg → length (made c.spelling s sg) ≤ 65515
unfolding segment_text spelled
octets_few most c s sg low can light =
    let text = unpadded_options c.spelling s sg in
    let n : ℕ = length text in
    let all = length-octets_with (checksum_field (addresses_from c.spelling.path s) (spelled c.spelling s sg)) (spelled c.spelling s sg) in
    let zeros = length-replicate {A = ℕ} (padding n) 0 in
    let behind = length-append text (replicate (padding n) 0) in
    let room = can.room in
    ⊎_elim (λ none. omega (arith, all, zeros, behind, room, ap length none)) (λ is. let few = is.0 in let short = is.1 in omega (arith, all, zeros, behind, few, short, low)) light

-- ---- by what is to be done

module _ (most : ℕ) (c : Profile) (s : Side) (e : PathEnd) (short : Every (IsShort most) e.tcp.send.records) where
  abbrev Is : PlainSegment → Type 0
  Is = Light most c s

  record_light : (o : Option Record) → IfSome o (IsShort most) → Is (record_or_ack c s o e)
  record_light None is = inl refl
  record_light (Some r) is = kinds r.kind is
    where
      kinds : (kind : RecordKind) → PieceIs most kind r
          → (r.piece ≡ []) ⊎ ((length (syn_text (if is_syn kind then Some c.mss else None) ++ options_text c.spelling s (record_options kind c s r e)) ≤ 28) × (length r.piece ≤ most))
      kinds Syn is = inl is
      kinds Data is = inr (piece_few c s e r, is)
      kinds Fin is = inl is

  unsent_light : Is (record_or_ack c s (first_unsent e) e)
  unsent_light = record_light (first_unsent e) (every_find is_unsent e.tcp.send.records short)

  again_light : Is (record_or_ack c s (first_record e) e)
  again_light = record_light (first_record e) (every_at 0 e.tcp.send.records short)

  carried_light : (o : Option ℕ) → Is (carried_said c s o e)
  carried_light None = inl refl
  carried_light (Some key) = inl refl

  noted_light : (o : Option OwnNotice) → Is (noted_said c s o e)
  noted_light None = inl refl
  noted_light (Some notice) = inl refl

  either_light : (b : Bool) (x y : PlainSegment) → Is x → Is y → Is (if b then x else y)
  either_light true x y h g = h
  either_light false x y h g = g

  answer_light : Is (answer_said c s e)
  answer_light = either_light e.tcp.due.syn_ack _ _ (inl refl) (inl refl)

  resent_light : Is (ack_resent c s e)
  resent_light = either_light e.modes.owes_third _ _ (inl refl) (either_light e.notices.fast_closed _ _ (carried_light e.notices.carrier) (either_light (is_data_fin_owed e) _ _ (inl refl) (inl refl)))

  resend_light : Is (resend_said c s e)
  resend_light = either_light (has_records e.tcp) _ _ again_light resent_light

module _ (most : ℕ) (p : PathState Carried) (h : (s : Side) → Every (IsShort most) (end_at s p).tcp.send.records) where
  abbrev pub IsLight : ToSend → Type 0
  IsLight t = Light most p.profile t.from (segment_sent p t)

  unless_light : (b : Bool) (o : Option ToSend) → IfSome o IsLight → IfSome (if b then None else o) IsLight
  unless_light true o is = tt
  unless_light false o is = is

  only_light : (b : Bool) (o : Option ToSend) → IfSome o IsLight → IfSome (if b then o else None) IsLight
  only_light true o is = is
  only_light false o is = tt

  break_light : (s : Side) (reason : ℕ) → IfSome (broken_by s reason p) IsLight
  break_light s reason = unless_light (end_at s p).treated.asked _ (inl refl)

  heard_light : (s : Side) (o : Option Heard) → IfSome (heard_sends s o p) IsLight
  heard_light s (Some (Heard.Mapping fin)) = only_light (is_clash (end_at s p)) _ (break_light s 1)
  heard_light s _ = tt

  data_light : (s : Side) (o : Option Record) → IfSome (unsent_sends s o) IsLight
  data_light s None = tt
  data_light s (Some unsent) = unsent_light most p.profile s (end_at s p) (h s)

  duty_light : (d : Duty) → IfSome (duty_sends d p) IsLight
  duty_light (Duty.Send (SendDuty.Syn s)) = unsent_light most p.profile s (end_at s p) (h s)
  duty_light (Duty.Send (SendDuty.FastClose s)) = carried_light most p.profile s (end_at s p) (h s) (end_at s p).notices.carrier
  duty_light (Duty.Send (SendDuty.Notice s)) = noted_light most p.profile s (end_at s p) (h s) (first_of (end_at s p).notices.queue)
  duty_light (Duty.Send (SendDuty.Again s)) = again_light most p.profile s (end_at s p) (h s)
  duty_light (Duty.Send (SendDuty.Answer s)) = answer_light most p.profile s (end_at s p) (h s)
  duty_light (Duty.Send (SendDuty.Resend s)) = resend_light most p.profile s (end_at s p) (h s)
  duty_light (Duty.Send d) = inl refl
  duty_light (Duty.Step (StepDuty.Data s)) = data_light s (first_unsent (end_at s p))
  duty_light (Duty.Step (StepDuty.Heard s index)) = heard_light s (item_of index (end_at s p))
  duty_light (Duty.Step (StepDuty.PlainAck s)) = only_light (breaks_by_ack p.profile (end_at s p)) _ (break_light s 6)
  duty_light (Duty.Step (StepDuty.Unmapped s)) = break_light s 6
  duty_light d = tt

  pub first_light : (ds : List Duty) → IfSome (first_sends ds p) IsLight
  first_light [] = tt
  first_light (d ∷ ds) = duty_light d
