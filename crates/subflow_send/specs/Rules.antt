-- What each event makes of a sending side (RFC 9293, sections 3.4 and 3.10.7.4; RFC 6298, section 3).
use Rattle.std.specs.Prelude.{ℕ, ◌+◌, ◌-◌, ◌==◌, ◌&&◌, min, max, Bool, true, false, nat_lt, nat_le, if◌then◌else◌, Option, Some, None, List, [], ◌∷◌, ◌++◌, length, map, slice_get, sum_by, unwrap_or}
use Rattle.std.specs.Option.{option_and_then, option_map_or}
use Rattle.seq_units.specs.declared.mapping.Mapping.{Mapping}
use Rattle.subflow_send.specs.declared.record.RecordKind.{RecordKind}
use Rattle.subflow_send.specs.declared.record.RecordKind.TheVariants.{Syn, Data, Fin}
use Rattle.subflow_send.specs.declared.record.AckKind.{AckKind}
use Rattle.subflow_send.specs.declared.record.AckKind.TheVariants.{New, Duplicate, Old, Future}
use Rattle.subflow_send.specs.declared.record.Sending.{Sending}
use Rattle.subflow_send.specs.Sendings.{never_sent, sent_again, first_at_an_expiry, to_be_sent}
use Rattle.subflow_send.specs.Records.{Record, SendState, end_of}

-- the SYN and the FIN have none
abbrev pub no_mapping : Mapping
no_mapping = record { number = 0; relative = 0; length = 0; checksum = 0 }

-- the SYN stands at position 0
abbrev pub syn_record : Sending → Record
syn_record sending = record { pos = 0; kind = Syn; piece = []; mapping = no_mapping; sending = sending }

-- the FIN at this position
abbrev pub fin_record : ℕ → Sending → Record
fin_record pos sending = record { pos = pos; kind = Fin; piece = []; mapping = no_mapping; sending = sending }

-- a side that has sent nothing: its SYN is to be sent
abbrev pub opening : SendState
opening = record { una = 0; nxt = 1; records = syn_record never_sent ∷ []; finished = false }

-- a piece more, to be sent
abbrev pub after_push : List ℕ → Mapping → SendState → SendState
after_push piece mapping v = record v {
  nxt = v.nxt + length piece;
  records = v.records ++ (record { pos = v.nxt; kind = Data; piece = piece; mapping = mapping; sending = never_sent } ∷ []);
}

-- the FIN after the last octet, to be sent
abbrev pub after_finish : SendState → SendState
after_finish v = record v { nxt = v.nxt + 1; records = v.records ++ (fin_record v.nxt never_sent ∷ []); finished = true }

-- ---- acknowledgements
-- the records that end past this position
abbrev pub uncovered : ℕ → List Record → List Record
uncovered pos [] = []
uncovered pos (r ∷ rs) = if nat_le (end_of r) pos then uncovered pos rs else r ∷ rs

-- how many octets of this record lie from `una` on and below `pos`
abbrev pub octets_between : ℕ → ℕ → Record → ℕ
octets_between una pos r = min pos (r.pos + length r.piece) - max una r.pos

-- how many octets of data an acknowledgement of this position acknowledges for the first time
abbrev pub newly_acknowledged : ℕ → SendState → ℕ
newly_acknowledged pos v = sum_by (octets_between v.una pos) v.records

-- what an acknowledgement of this position is
abbrev pub ack_kind : ℕ → SendState → AckKind
ack_kind pos v =
    if nat_lt v.nxt pos then Future
    else (if nat_lt v.una pos then New (newly_acknowledged pos v) else (if pos == v.una then Duplicate else Old))

-- what was covered whole is let go
abbrev pub after_acknowledge : ℕ → SendState → SendState
after_acknowledge pos v =
    if nat_lt v.una pos && nat_le pos v.nxt then record v { una = pos; records = uncovered pos v.records } else v

-- the last record that ends at or before this position
abbrev pub last_covered : ℕ → List Record → Option Record
last_covered pos [] = None
last_covered pos (r ∷ rs) = if nat_le (end_of r) pos then Some (unwrap_or (last_covered pos rs) r) else None

-- the tick of the only sending of a record; a record that was sent again gives no sample (RFC 6298, section 3)
abbrev pub only_sending : Record → Option ℕ
only_sending r = if r.sending.times == 1 then Some r.sending.first else None

-- since when an acknowledgement of this position measures the round trip
abbrev pub sample_of : ℕ → SendState → Option ℕ
sample_of pos v = option_and_then only_sending (last_covered pos v.records)

-- ---- sending
-- a record is to be sent, for the first time or again
abbrev pub is_unsent : Record → Bool
is_unsent r = r.sending.unsent

-- the first record that is to be sent is sent
abbrev pub first_unsent_sent : ℕ → List Record → List Record
first_unsent_sent now [] = []
first_unsent_sent now (r ∷ rs) =
    if is_unsent r then record r { sending = sent_again now r.sending } ∷ rs else r ∷ first_unsent_sent now rs

abbrev pub after_sent : ℕ → SendState → SendState
after_sent now v = record v { records = first_unsent_sent now v.records }

-- the first record is sent, whether it was to be sent or not
abbrev pub first_sent : ℕ → List Record → List Record
first_sent now [] = []
first_sent now (r ∷ rs) = record r { sending = sent_again now r.sending } ∷ rs

abbrev pub after_resent : ℕ → SendState → SendState
after_resent now v = record v { records = first_sent now v.records }

-- ---- expiries
-- a record that is to be sent again
abbrev pub unsent_again : Record → Record
unsent_again r = record r { sending = to_be_sent r.sending }

-- the first record is marked as that, and every other one is to be sent again
abbrev pub expired_records : List Record → List Record
expired_records [] = []
expired_records (r ∷ rs) = record r { sending = first_at_an_expiry r.sending } ∷ map unsent_again rs

abbrev pub after_expired : SendState → SendState
after_expired v = record v { records = expired_records v.records }

abbrev pub was_first_at_expiry : Record → Bool
was_first_at_expiry r = r.sending.first_at_expiry

-- whether the first record was the first one at an earlier expiry too
abbrev pub again_at_expiry : SendState → Bool
again_at_expiry v = option_map_or was_first_at_expiry (slice_get v.records 0) false

-- the octets of a record that are acknowledged while it isn't acknowledged whole: SND.UNA lies in it
abbrev pub acknowledged_in : ℕ → Record → ℕ
acknowledged_in una r = if nat_lt una (end_of r) then una - r.pos else 0

-- the octets of a record that are under way: none where it is to be sent
abbrev pub octets_under_way : ℕ → Record → ℕ
octets_under_way una r = if is_unsent r then 0 else length r.piece - acknowledged_in una r

-- the octets of data that are under way: neither acknowledged nor to be sent
abbrev pub flight : SendState → ℕ
flight v = sum_by (octets_under_way v.una) v.records

-- ---- by position, and the FIN by itself
-- its first position is this one
abbrev pub stands_at : ℕ → Record → Bool
stands_at pos r = r.pos == pos

abbrev pub is_data : RecordKind → Bool
is_data Data = true
is_data _ = false

-- it is a piece of data that begins at this position
abbrev pub is_piece_at : ℕ → Record → Bool
is_piece_at pos r = is_data r.kind && r.pos == pos

abbrev pub octets_of : Record → List ℕ
octets_of r = r.piece

abbrev pub is_fin : RecordKind → Bool
is_fin Fin = true
is_fin _ = false

-- a FIN that was never sent
abbrev pub is_new_fin : Record → Bool
is_new_fin r = is_fin r.kind && r.sending.times == 0

-- the FIN is sent, whatever is to be sent before it
abbrev pub fin_sent : ℕ → Record → Record
fin_sent now r = if is_fin r.kind then record r { sending = sent_again now r.sending } else r

abbrev pub after_fin_sent : ℕ → SendState → SendState
after_fin_sent now v = record v { records = map (fin_sent now) v.records }
