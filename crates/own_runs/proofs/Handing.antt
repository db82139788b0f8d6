-- What was granted to a path goes out by the path's next step.
use Rattle.own_runs.proofs.Words.{◌≡◌, refl, sym, ◌∙◌, ap, subst, ℕ, ◌+◌, ◌-◌, ◌≤◌, Bool, true, false, if◌then◌else◌, nat_le, Option, Some, None, option_map}
use Rattle.own_runs.proofs.Words.{List, [], ◌∷◌, ◌++◌, length, length-append, drop, arith, ◌&&◌, ◌%◌, not, replicate, find, sum_by, and_parts, false≢true}
use Rattle.own_runs.proofs.Words.{le-leb, leb-true, and_from, Side, A, B, header_len, Segment, fixed_header, octets_with, segment_text, Record, is_unsent}
use Rattle.own_runs.proofs.Words.{octets_under_way, Data, is_at_limit, may_finish, is_closed_to_segments, Sent, PlainSegment, padded, padding, spelled}
use Rattle.own_runs.proofs.Words.{unpadded_options, whole_number, Duty, StepDuty, Reply, stands, passed, answered_data, first_unsent, data_stands, may_ask}
use Rattle.own_runs.proofs.Words.{payload_size, fits, granted, may_send_data, PathEnd, PathState, end_at, goes_on, with_agenda, record_or_ack, settled}
use Rattle.own_runs.proofs.Words.{answers, takes, settles_down, departing_as, unsent_sends, first_sends, departing, made, octets, sum_of, Departing}
use Rattle.own_runs.proofs.Words.{mapping_of, Profile, sent_as, sent_by, payload_in}
use Rattle.std.proofs.lemmas.List.{drop_at, drop-drop, length-replicate}
use Rattle.std.proofs.lemmas.List.Sums.{sum_by_push}
use Rattle.path_segments.specs.declared.spelling.Spelling.{Spelling}
use Rattle.send_book.specs.declared.call.Span.{Span}
use Rattle.send_book.specs.declared.call.SendReply.{SendReply}
use Rattle.subflow_send.specs.Sendings.{never_sent}
use Rattle.subflow_tcp.specs.declared.handshake.State.{State as EndPhase}
use Rattle.subflow_tcp.specs.Sizes.{room}
use Rattle.own_runs.proofs.Acknowledged.{Acks}

-- ---- the payload of a segment that is made

padded_len : (text : List ℕ) → length (padded text) % 4 ≡ 0
padded_len text =
    let zero : ℕ = 0 in
    omega (arith, length-append text (replicate (padding (length text)) zero), length-replicate (padding (length text)) zero)

header_is : (checksum : ℕ) (segment : Segment) → length segment.options % 4 ≡ 0 → header_len (octets_with checksum segment) ≡ 20 + length segment.options
unfolding fixed_header
header_is checksum segment whole = omega arith

rest_is : (checksum : ℕ) (segment : Segment) → drop 20 (octets_with checksum segment) ≡ segment.options ++ segment.payload
unfolding fixed_header
rest_is checksum segment = refl

payload_is : (checksum : ℕ) (segment : Segment) → length segment.options % 4 ≡ 0
    → drop (header_len (octets_with checksum segment)) (octets_with checksum segment) ≡ segment.payload
payload_is checksum segment whole =
    ap (λ (n : ℕ). drop n (octets_with checksum segment)) (header_is checksum segment whole)
    ∙ sym (drop-drop (length segment.options) 20 (octets_with checksum segment)) ∙ ap (drop (length segment.options)) (rest_is checksum segment)
    ∙ drop_at segment.options segment.payload (length segment.options) refl

pub made_payload : (spelling : Spelling) (s : Side) (segment : PlainSegment) → payload_in (made spelling s segment) ≡ segment.payload
unfolding segment_text spelled
made_payload spelling s segment = payload_is (sum_of spelling s segment) (spelled spelling s segment)
    (padded_len (unpadded_options spelling s segment))

-- ---- a record that is pushed

find_pushed : (rs : List Record) (r : Record) → find is_unsent rs ≡ None → is_unsent r ≡ true → find is_unsent (rs ++ r ∷ []) ≡ Some r
find_pushed [] r none unsent = ap (λ (b : Bool). if b then Some r else None) unsent
find_pushed (x ∷ rs) r none unsent = by (is_unsent x) none (find_pushed rs r)
  where
    by : (b : Bool) → (if b then Some x else find is_unsent rs) ≡ None → (find is_unsent rs ≡ None → is_unsent r ≡ true → find is_unsent (rs ++ r ∷ []) ≡ Some r)
        → (if b then Some x else find is_unsent (rs ++ r ∷ [])) ≡ Some r
    by = elim [ true ↦ λ none rest. cc | false ↦ λ none rest. rest none unsent ]

module _ (c : Profile) (s : Side) (span : Span) (piece : List ℕ) (e : PathEnd) where
  -- the record of what was granted
  abbrev pushed : Record
  pushed = record { pos = e.tcp.send.nxt; kind = Data; piece = piece; mapping = mapping_of c s span.from e.tcp.send.nxt piece; sending = never_sent }

  abbrev then_granted : PathEnd
  then_granted = granted c s span piece e

  unsent_is : first_unsent e ≡ None → first_unsent then_granted ≡ Some pushed
  unsent_is none = find_pushed e.tcp.send.records pushed none refl

  same_room : room then_granted.tcp ≡ room e.tcp
  same_room = ap (λ (n : ℕ). e.tcp.congestion.reno.window - n) (sum_by_push (octets_under_way e.tcp.send.una) e.tcp.send.records pushed ∙ (let n = sum_by (octets_under_way e.tcp.send.una) e.tcp.send.records in omega arith))

  never_closed : (x : EndPhase) → may_finish x ≡ true → is_closed_to_segments x ≡ false
  never_closed EndPhase.Established may = refl
  never_closed EndPhase.CloseWait may = refl
  never_closed EndPhase.Waiting may = absurd (false≢true may)
  never_closed EndPhase.Listen may = absurd (false≢true may)
  never_closed EndPhase.Dead may = absurd (false≢true may)
  never_closed _ may = refl

  -- a granted piece may be sent at once
  data_goes : may_ask c s e ≡ true → Acks e.tcp → length piece ≤ payload_size c → first_unsent e ≡ None → data_stands c s then_granted (first_unsent then_granted) ≡ true
  data_goes asks acked short none =
      let first = and_parts (may_finish e.tcp.state) (nat_le (payload_size c) (room e.tcp) && (not (is_at_limit e.tcp) && may_send_data c s e)) asks in
      let second = and_parts (nat_le (payload_size c) (room e.tcp)) (not (is_at_limit e.tcp) && may_send_data c s e) first.1 in
      let within = leb-true (payload_size c) (room e.tcp) second.0 in
      let same = same_room in
      subst (λ (o : Option Record). data_stands c s then_granted o ≡ true) (sym (unsent_is none))
      (and_from (not (is_closed_to_segments e.tcp.state)) (fits then_granted.tcp pushed) (ap not (never_closed e.tcp.state first.0))
      (and_from (nat_le 1 e.tcp.send.una) (nat_le (length piece) (room then_granted.tcp)) (le-leb 1 e.tcp.send.una (acked first.0))
      (le-leb (length piece) (room then_granted.tcp) (omega (arith, short, within, same)))))

-- ---- a path whose next step sends a piece

-- the piece from this place of the side's stream on
pub record SendsNext (s : Side) (from_place : ℕ) (piece : List ℕ) (p : PathState (List ℕ)) : Type 0 where
  pub sent : Sent
  pub is : sent_by p ≡ Some sent
  pub from : sent.from ≡ s
  pub payload : payload_in sent.octets ≡ piece
  -- its record is the first unsent one
  pub source : Record
  pub sends : first_sends p.agenda p ≡ unsent_sends s (Some source)
  pub unsent : first_unsent (end_at s p) ≡ Some source
  pub number : source.mapping.number ≡ whole_number p.profile.spelling s from_place
  pub piece_is : source.piece ≡ piece

-- what departs is of this side, and has this payload
abbrev DepartsWith : Side → List ℕ → Option Departing → Type 0
DepartsWith s piece None = ⊥
DepartsWith s piece (Some d) = (d.from ≡ s) × (payload_in d.octets ≡ piece)

departs : (s : Side) (from_place : ℕ) (piece : List ℕ) (r : Record) (p : PathState (List ℕ)) (o : Option Departing) → departing p ≡ o → DepartsWith s piece o
    → first_sends p.agenda p ≡ unsent_sends s (Some r) → first_unsent (end_at s p) ≡ Some r
    → r.mapping.number ≡ whole_number p.profile.spelling s from_place → r.piece ≡ piece → SendsNext s from_place piece p
departs s from_place piece r p None is with_it sends unsent number piece_is = absurd with_it
departs s from_place piece r p (Some d) is with_it sends unsent number piece_is = record {
  sent = sent_as p d;
  is = ap (λ (o : Option Departing). option_map (sent_as p) o) is;
  from = with_it.0;
  payload = with_it.1;
  source = r;
  sends = sends;
  unsent = unsent;
  number = number;
  piece_is = piece_is;
}

-- with its record as the first unsent one
sends_record : (s : Side) (from_place : ℕ) (piece : List ℕ) (ds : List Duty) (r : Record) (p : PathState (List ℕ)) → p.agenda ≡ Duty.Step (StepDuty.Data s) ∷ ds
    → first_unsent (end_at s p) ≡ Some r → r.mapping.number ≡ whole_number p.profile.spelling s from_place → r.piece ≡ piece → SendsNext s from_place piece p
sends_record s from_place piece ds r p agenda first number piece_is =
    departs s from_place piece r p (option_map (departing_as p) (unsent_sends s (Some r)))
    (ap (λ (todo : List Duty). option_map (departing_as p) (first_sends todo p)) agenda
    ∙ ap (λ (o : Option Record). option_map (departing_as p) (unsent_sends s o)) first) (
      refl,
      made_payload p.profile.spelling s (record_or_ack p.profile s (first_unsent (end_at s p)) (end_at s p))
          ∙ ap (λ (o : Option Record). (record_or_ack p.profile s o (end_at s p)).payload) first ∙ piece_is,
    )
    (ap (λ (todo : List Duty). first_sends todo p) agenda ∙ ap (unsent_sends s) first) first number piece_is

-- the reply to an ask for bytes
abbrev pub grants : Span → List ℕ → Reply
grants span piece = Reply.Send (SendReply.Granted span piece)

module _ (s : Side) (ds : List Duty) (span : Span) (piece : List ℕ) (p : PathState (List ℕ)) where
  abbrev q : PathState (List ℕ)
  q = goes_on s (granted p.profile s span piece (end_at s p)) (Duty.Step (StepDuty.Data s) ∷ ds) p

  end_is : (s : Side) (e : PathEnd) (ds : List Duty) (p : PathState (List ℕ)) → end_at s (goes_on s e ds p) ≡ e
  end_is = elim [ A ↦ λ e ds p. refl | B ↦ λ e ds p. refl ]

  profile_is : (s : Side) (e : PathEnd) (ds : List Duty) (p : PathState (List ℕ)) → (goes_on s e ds p).profile ≡ p.profile
  profile_is = elim [ A ↦ λ e ds p. refl | B ↦ λ e ds p. refl ]

  stands_so : may_ask p.profile s (end_at s p) ≡ true → Acks (end_at s p).tcp → length piece ≤ payload_size p.profile → first_unsent (end_at s p) ≡ None
      → stands (Duty.Step (StepDuty.Data s)) q ≡ true
  stands_so asks acked short none =
      subst (λ (e : PathEnd). data_stands p.profile s e (first_unsent e) ≡ true) (sym (end_is s (granted p.profile s span piece (end_at s p)) (Duty.Step (StepDuty.Data s) ∷ ds) p))
      (data_goes p.profile s span piece (end_at s p) asks acked short none)

  settled_is : stands (Duty.Step (StepDuty.Data s)) q ≡ true → settled (Duty.Step (StepDuty.Data s) ∷ ds) q ≡ with_agenda (Duty.Step (StepDuty.Data s) ∷ ds) q
  settled_is is = ap (λ (b : Bool). if b then with_agenda (Duty.Step (StepDuty.Data s) ∷ ds) q else settled ds (passed (Duty.Step (StepDuty.Data s)) q)) is

  taken_is : p.agenda ≡ Duty.Step (StepDuty.Data s) ∷ ds → first_unsent (end_at s p) ≡ None → takes octets (grants span piece) p ≡ settled (Duty.Step (StepDuty.Data s) ∷ ds) q
  taken_is agenda none =
      ap (λ (todo : List Duty). settles_down (answers octets todo (grants span piece) p)) agenda
      ∙ ap (λ (o : Option Record). settles_down (answered_data octets s o (grants span piece) p)) none
      ∙ ap (λ (todo : List Duty). settled todo (goes_on s (granted p.profile s span piece (end_at s p)) todo p)) agenda

  -- what was granted is sent next
  pub granted_goes : p.agenda ≡ Duty.Step (StepDuty.Data s) ∷ ds → first_unsent (end_at s p) ≡ None → may_ask p.profile s (end_at s p) ≡ true → Acks (end_at s p).tcp
      → length piece ≤ payload_size p.profile → SendsNext s span.from piece (takes octets (grants span piece) p)
  granted_goes agenda none asks acked short =
      let is = taken_is agenda none ∙ settled_is (stands_so asks acked short none) in
      subst (SendsNext s span.from piece) (sym is)
      (sends_record s span.from piece ds (pushed p.profile s span piece (end_at s p)) (with_agenda (Duty.Step (StepDuty.Data s) ∷ ds) q) refl
      (ap first_unsent (end_is s (granted p.profile s span piece (end_at s p)) (Duty.Step (StepDuty.Data s) ∷ ds) p) ∙ unsent_is p.profile s span piece (end_at s p) none)
      (ap (λ (c : Profile). whole_number c.spelling s span.from) (sym (profile_is s (granted p.profile s span piece (end_at s p)) (Duty.Step (StepDuty.Data s) ∷ ds) p))) refl)
