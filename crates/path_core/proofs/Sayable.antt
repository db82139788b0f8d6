-- Every segment that an end sends can be said.
--
-- One definition by cases on the kind of a segment (`said_by`) serves asking and sending; that it can be said is a
-- lemma about the definition (`proofs/Sayable`), with what is lent, the window and the path's number as premises, which
-- the code shows by reading them first.
use Rattle.path_core.proofs.Words.{◌≡◌, refl, ap, subst, ℕ, ◌-◌, ◌≤◌, ◌&&◌, Bool, true, false, if◌then◌else◌, Option, Some, None, List, [], ◌∷◌, ◌++◌, length}
use Rattle.path_core.proofs.Words.{length-append, arith, ◌^◌, is_some, not, All-nil, All-cons, IfSome, Side, peer, A, B, JoinForm, Answer, Third, CapableKeys}
use Rattle.path_core.proofs.Words.{NoKey, Sender, Both, WithData, option_text, Record, record_of, has_records, Spelling, syn_text, options_text, CanSayOption}
use Rattle.path_core.proofs.Words.{Capable, Dss, FastClose, Infinite, data_number, InfiniteMapping, first_of, OwnNotice, CanBeSaid, said_by, is_joined}
use Rattle.path_core.proofs.Words.{peer_key_of, join_options, third_options, PathEnd, Profile, is_data_fin_owed, first_unsent, first_record, outgoing_or}
use Rattle.path_core.proofs.Words.{ack_resent, SegmentKind}
use Rattle.std.proofs.lemmas.List.{append-nil}
use Rattle.std.specs.Prelude.{All}
use Rattle.key_material.specs.JoinHmac.{join_a160_of, join_b64_of}
use Rattle.key_material.specs.KeyDigest.{token_of}
use Rattle.key_material.proofs.Bounds.{length-join_a160_of}
use Rattle.mptcp_options.specs.declared.dss.DataNumber.{DataNumber}
use Rattle.mptcp_options.specs.declared.dss.DataNumber.TheVariants.{Whole, Low}
use Rattle.mptcp_options.specs.Value as wire
use Rattle.std.specs.Int.{w16, w64}
use Rattle.key_material.specs.Address.{octets_of}
use Rattle.mptcp_options.specs.Octets.{optional}
use Rattle.path_segments.specs.Options.{PlainOption, said_option, relative_number}
use Rattle.subflow_send.specs.declared.record.RecordKind.{RecordKind}
use Rattle.subflow_send.specs.declared.record.RecordKind.TheVariants.{Syn, Data, Fin}
use Rattle.subflow_send.specs.declared.record.RecordRef.{RecordRef}
use Rattle.std.specs.Option.{option_map}
use Rattle.subflow_tcp.specs.declared.segments.Outgoing.{Outgoing}
use Rattle.path_core.specs.declared.modes.Modes.{Modes}
use Rattle.path_core.specs.Modes.{receives_infinite}
use Rattle.path_core.specs.DssOut.{fail_options, fail_beside, infinite_options, infinite_or, mapped_options, checksum_told, data_fin_mapping, is_first_piece, first_piece_options, piece_options, owes_mapping, plain_options, fin_options, piece_mapping}
use Rattle.path_core.specs.OptionsOut.{broken_options, capable_options, syn_options, key_options, opening_options, ack_options, own_reset, record_options, reset_options, segment_of, ack_said, noted_said, carried_said, record_or_ack, syn_ack_said, notice_option, dss_and, HasAddress}
use Rattle.subflow_tcp.specs.Emitting.{ack_at, record_segment, syn_ack_segment, fin_position, fin_segment, reset_segment}

-- ---- lengths

capable_length : (flag_a flag_c : Bool) (keys : CapableKeys) → length (option_text (wire.Capable flag_a flag_c keys)) ≤ 28
unfolding option_text
capable_length flag_a flag_c (WithData sender receiver len None) = omega arith
capable_length flag_a flag_c (WithData sender receiver len (Some checksum)) = omega arith
capable_length flag_a flag_c _ = omega arith

ack_length : (ack : DataNumber) (fin : Bool) → length (option_text (wire.Dss (Some ack) None fin)) ≤ 28
unfolding option_text
ack_length (Whole ack) fin = omega arith
ack_length (Low ack) fin = omega arith

dss_length : (ack number : DataNumber) (relative len : ℕ) (checksum : Option ℕ) (fin : Bool)
    → length (option_text (wire.Dss (Some ack) (Some (record { number = number; relative = relative; length = len; checksum = checksum })) fin)) ≤ 28
unfolding option_text
dss_length (Whole ack) (Whole number) relative len None fin = omega arith
dss_length (Whole ack) (Whole number) relative len (Some checksum) fin = omega arith
dss_length (Whole ack) (Low number) relative len None fin = omega arith
dss_length (Whole ack) (Low number) relative len (Some checksum) fin = omega arith
dss_length (Low ack) (Whole number) relative len None fin = omega arith
dss_length (Low ack) (Whole number) relative len (Some checksum) fin = omega arith
dss_length (Low ack) (Low number) relative len None fin = omega arith
dss_length (Low ack) (Low number) relative len (Some checksum) fin = omega arith

-- an infinite mapping alone
infinite_length : (number : DataNumber) (relative : ℕ) (checksum : Option ℕ)
    → length (option_text (wire.Dss None (Some (record { number = number; relative = relative; length = 0; checksum = checksum })) false)) ≤ 28
unfolding option_text
infinite_length (Whole number) relative None = omega arith
infinite_length (Whole number) relative (Some checksum) = omega arith
infinite_length (Low number) relative None = omega arith
infinite_length (Low number) relative (Some checksum) = omega arith

reset_length : (transient : Bool) (reason : ℕ) → length (option_text (wire.Reset transient reason)) ≤ 28
unfolding option_text
reset_length transient reason = omega arith

join_syn_length : (backup : Bool) (id token nonce : ℕ) → length (option_text (wire.Join (JoinForm.Syn backup id token nonce))) ≤ 28
unfolding option_text
join_syn_length backup id token nonce = omega arith

join_answer_length : (backup : Bool) (id hmac nonce : ℕ) → length (option_text (wire.Join (Answer backup id hmac nonce))) ≤ 28
unfolding option_text
join_answer_length backup id hmac nonce = omega arith

third_length : (key_a key_b nonce_a nonce_b : ℕ) → length (option_text (wire.Join (Third (join_a160_of key_a key_b nonce_a nonce_b)))) ≤ 28
unfolding option_text
third_length key_a key_b nonce_a nonce_b = omega (arith, length-join_a160_of key_a key_b nonce_a nonce_b)

-- a notice behind a DSS has room
notice_length : (notice : OwnNotice) (m : Modes) → HasAddress notice
    → (spelling : Spelling) (from : Side) → length (option_text (said_option spelling from (notice_option notice m))) ≤ 28
unfolding option_text
notice_length (OwnNotice.AddAddr id) m has spelling from = omega arith
notice_length (OwnNotice.AddEcho id address None) m has spelling from =
    omega (arith, has, length-append (octets_of address) (optional w16 None ++ optional w64 None), length-append (octets_of address ++ optional w16 None) (optional w64 None), length-append (octets_of address) (optional w16 None))
notice_length (OwnNotice.AddEcho id address (Some port)) m has spelling from =
    omega (arith, has, length-append (octets_of address) (optional w16 (Some port) ++ optional w64 None), length-append (octets_of address ++ optional w16 (Some port)) (optional w64 None), length-append (octets_of address) (optional w16 (Some port)))
notice_length (OwnNotice.Removes id) m has spelling from = omega arith
notice_length (OwnNotice.Prio backup) m has spelling from = omega arith

short_ack : (ack : DataNumber) → length (option_text (wire.Dss (Some ack) None false)) ≤ 12
unfolding option_text
short_ack (Whole ack) = omega arith
short_ack (Low ack) = omega arith

close_length : (key : ℕ) → length (option_text (wire.FastClose key)) ≤ 28
unfolding option_text
close_length key = omega arith

fail_length : (number : ℕ) → length (option_text (wire.Fail number)) ≤ 12
unfolding option_text
fail_length number = omega arith

short_reset : (transient : Bool) (reason : ℕ) → length (option_text (wire.Reset transient reason)) ≤ 12
unfolding option_text
short_reset transient reason = omega arith

-- a checksum stands exactly where checksums are used
told_form : (used : Bool) (checksum : ℕ) → is_some (if used then Some checksum else None) ≡ used
told_form = elim [ true ↦ λ checksum. refl | false ↦ λ checksum. refl ]

-- ---- options

-- two of these are short
pub record ArePair (spelling : Spelling) (from : Side) (first second : PlainOption) : Type 0 where
  pub can_first : CanSayOption spelling from first
  pub can_second : CanSayOption spelling from second
  pub few : length (option_text (said_option spelling from first)) ≤ 12
  pub less : length (option_text (said_option spelling from second)) ≤ 12

-- one option of 28 octets at most, or two of 12 each
abbrev AreShort : Spelling → Side → List PlainOption → Type 0
AreShort spelling from [] = Unit {0}
AreShort spelling from (o ∷ []) = CanSayOption spelling from o × (length (option_text (said_option spelling from o)) ≤ 28)
AreShort spelling from (o ∷ other ∷ []) = ArePair spelling from o other
AreShort spelling from (o ∷ other ∷ another ∷ others) = ⊥

each_of : (spelling : Spelling) (from : Side) (options : List PlainOption) → AreShort spelling from options → All (CanSayOption spelling from) options
each_of spelling from [] short = All-nil (CanSayOption spelling from)
each_of spelling from (o ∷ []) short = All-cons (CanSayOption spelling from) o [] short.0 (All-nil (CanSayOption spelling from))
each_of spelling from (o ∷ other ∷ []) short =
    All-cons (CanSayOption spelling from) o (other ∷ []) short.can_first
    (All-cons (CanSayOption spelling from) other [] short.can_second (All-nil (CanSayOption spelling from)))
each_of spelling from (o ∷ other ∷ another ∷ others) short = absurd short

pair_length : (spelling : Spelling) (from : Side) (first second : PlainOption) → ArePair spelling from first second
    → length (options_text spelling from (first ∷ second ∷ [])) ≤ 24
pair_length spelling from first second pair =
    omega (arith, pair.few, pair.less, ap length (append-nil (option_text (said_option spelling from second))), length-append (option_text (said_option spelling from first)) (option_text (said_option spelling from second) ++ []))

room_of : (syn : Bool) (mss : ℕ) (spelling : Spelling) (from : Side) (options : List PlainOption) → AreShort spelling from options
    → length (syn_text (if syn then Some mss else None) ++ options_text spelling from options) ≤ 40
room_of true mss spelling from [] short = omega arith
room_of false mss spelling from [] short = omega arith
room_of true mss spelling from (o ∷ []) short = omega (arith, short.1, ap length (append-nil (option_text (said_option spelling from o))))
room_of false mss spelling from (o ∷ []) short = omega (arith, short.1, ap length (append-nil (option_text (said_option spelling from o))))
room_of true mss spelling from (o ∷ other ∷ []) short = omega (arith, pair_length spelling from o other short)
room_of false mss spelling from (o ∷ other ∷ []) short = omega (arith, pair_length spelling from o other short)
room_of syn mss spelling from (o ∷ other ∷ another ∷ others) short = absurd short

join_short : (c : Profile) (s : Side) (m : Modes) → AreShort c.spelling s (join_options c s m)
join_short c A m = (record { form = tt }, join_syn_length c.backup c.spelling.path (token_of (peer_key_of m)) m.own_nonce)
join_short c B m = (
  record { form = tt },
  join_answer_length c.backup c.spelling.path (join_b64_of (peer_key_of m) m.own_key m.peer_nonce m.own_nonce) m.own_nonce,
)

third_short : (c : Profile) (s : Side) (m : Modes) → AreShort c.spelling s (third_options m)
third_short c s m = (record { form = tt }, third_length m.own_key (peer_key_of m) m.own_nonce m.peer_nonce)

capable_short : (c : Profile) (s : Side) (e : PathEnd) → AreShort c.spelling s (capable_options c s e)
capable_short c A e = (record { form = tt }, capable_length c.spelling.checksums false NoKey)
capable_short c B e = elim (e.modes.capable_asked && not e.modes.identity) as (λ asked. AreShort c.spelling B (if asked then Capable c.spelling.checksums false (Sender e.modes.own_key) ∷ [] else []))
    [ true ↦ (record { form = tt }, capable_length c.spelling.checksums false (Sender e.modes.own_key)) | false ↦ tt ]

syn_short : (c : Profile) (s : Side) (e : PathEnd) → AreShort c.spelling s (syn_options c s e)
syn_short c s e = elim (is_joined c) as (λ joined. AreShort c.spelling s (if joined then join_options c s e.modes else capable_options c s e))
    [ true ↦ join_short c s e.modes | false ↦ capable_short c s e ]

key_short : (c : Profile) (s : Side) (peer : Option ℕ) (e : PathEnd) → AreShort c.spelling s (key_options c s peer e)
key_short c A None e = tt
key_short c A (Some peer) e = (record { form = tt }, capable_length c.spelling.checksums false (Both e.modes.own_key peer))
key_short c B peer e = tt

opening_short : (c : Profile) (s : Side) (e : PathEnd) → AreShort c.spelling s (opening_options c s e)
opening_short c s e = elim e.modes.owes_third as (λ owes. AreShort c.spelling s (if owes then third_options e.modes else key_options c s e.modes.peer_key e))
    [ true ↦ third_short c s e.modes | false ↦ key_short c s e.modes.peer_key e ]

end_short : (c : Profile) (s : Side) (fin : Option ℕ) (next : ℕ) → AreShort c.spelling s (Dss (Some next) (data_fin_mapping c s fin) ∷ [])
end_short c s None next = (record { form = (tt, refl) }, ack_length (data_number c.spelling (peer s) next) false)
end_short c s (Some place) next = (
  record { form = (told_form c.spelling.checksums _, tt) },
  dss_length (data_number c.spelling (peer s) next) (data_number c.spelling s place) 0 1 _ true,
)

-- MP_FAIL stands behind a DSS without a mapping
beside_short : (c : Profile) (s : Side) (failed : Option ℕ) (next : ℕ) → AreShort c.spelling s (Dss (Some next) None ∷ fail_options failed)
beside_short c s None next = end_short c s None next
beside_short c s (Some place) next = record {
  can_first = record { form = (tt, refl) };
  can_second = record { form = tt };
  few = short_ack (data_number c.spelling (peer s) next);
  less = fail_length _;
}

clear_short : (c : Profile) (s : Side) (fin : Option ℕ) (next : ℕ) (m : Modes)
    → AreShort c.spelling s (Dss (Some next) (data_fin_mapping c s fin) ∷ fail_beside fin m)
clear_short c s (Some place) next m = end_short c s (Some place) next
clear_short c s None next m = beside_short c s (if receives_infinite m.mode then None else m.failed_mapping) next

ack_short : (c : Profile) (s : Side) (fin : Option ℕ) (e : PathEnd) → AreShort c.spelling s (ack_options c s fin e)
ack_short c s fin e = by e.modes.identity e.modes.clear
  where
    by : (identity clear : Bool) → AreShort c.spelling s
        (if identity then [] else (if clear then Dss (Some e.receiving.next) (data_fin_mapping c s fin) ∷ fail_beside fin e.modes else opening_options c s e))
    by true clear = tt
    by false true = clear_short c s fin e.receiving.next e.modes
    by false false = opening_short c s e

-- after a fallback
plain_short : (c : Profile) (s : Side) (position : ℕ) (e : PathEnd) → AreShort c.spelling s (plain_options position e)
plain_short c s position e = by (owes_mapping e)
  where
    by : (owes : Bool) → AreShort c.spelling s (if owes then Dss None (Some (Infinite (position - 1) position)) ∷ [] else [])
    by true = (
      record { form = (told_form c.spelling.checksums 0, tt) },
      infinite_length (data_number c.spelling s (position - 1)) (relative_number position) (if c.spelling.checksums then Some 0 else None),
    )
    by false = tt

first_short : (c : Profile) (s : Side) (peer : Option ℕ) (r : Record) (e : PathEnd) → AreShort c.spelling s (first_piece_options c peer r e)
first_short c s None r e = tt
first_short c s (Some peer) r e = (
  record { form = told_form c.spelling.checksums r.mapping.checksum },
  capable_length c.spelling.checksums false (WithData e.modes.own_key peer r.mapping.length (checksum_told c r.mapping.checksum)),
)

-- after the peer's MP_FAIL
infinite_short : (c : Profile) (s : Side) (mapping : InfiniteMapping) (e : PathEnd) → AreShort c.spelling s (infinite_options mapping e)
infinite_short c s mapping e = by (owes_mapping e)
  where
    by : (owes : Bool) → AreShort c.spelling s
        (Dss (Some e.receiving.next) (if owes then Some (Infinite mapping.place mapping.position) else None) ∷ [])
    by true = (
      record { form = (told_form c.spelling.checksums 0, tt) },
      dss_length (data_number c.spelling (peer s) e.receiving.next) (data_number c.spelling s mapping.place)
          (relative_number mapping.position) 0 (if c.spelling.checksums then Some 0 else None) false,
    )
    by false = (record { form = (tt, refl) }, ack_length (data_number c.spelling (peer s) e.receiving.next) false)

either_short : (c : Profile) (s : Side) (mapping : Option InfiniteMapping) (options : List PlainOption) (e : PathEnd)
    → AreShort c.spelling s options → AreShort c.spelling s (infinite_or mapping options e)
either_short c s None options e short = short
either_short c s (Some mapping) options e short = infinite_short c s mapping e

mapped_short : (c : Profile) (s : Side) (r : Record) (e : PathEnd) → AreShort c.spelling s (mapped_options c s r e)
mapped_short c s r e = by (is_first_piece s r e)
  where
    by : (first : Bool) → AreShort c.spelling s
        (if first then first_piece_options c e.modes.peer_key r e else Dss (Some e.receiving.next) (Some (piece_mapping c s r)) ∷ [])
    by true = first_short c s e.modes.peer_key r e
    by false = (
      record { form = (told_form c.spelling.checksums r.mapping.checksum, tt) },
      dss_length (data_number c.spelling (peer s) e.receiving.next) _ (relative_number r.pos) r.mapping.length
          (checksum_told c r.mapping.checksum) false,
    )

piece_short : (c : Profile) (s : Side) (r : Record) (e : PathEnd) → AreShort c.spelling s (piece_options c s r e)
piece_short c s r e = elim e.modes.identity as (λ identity. AreShort c.spelling s (if identity then plain_options r.pos e else infinite_or e.modes.own_infinite (mapped_options c s r e) e))
    [ true ↦ plain_short c s r.pos e | false ↦ either_short c s e.modes.own_infinite (mapped_options c s r e) e (mapped_short c s r e) ]

fin_short : (c : Profile) (s : Side) (position : ℕ) (e : PathEnd) → AreShort c.spelling s (fin_options position e)
fin_short c s position e = by e.modes.identity
  where
    by : (identity : Bool) → AreShort c.spelling s
        (if identity then plain_options position e else infinite_or e.modes.own_infinite (Dss (Some e.receiving.next) None ∷ []) e)
    by true = plain_short c s position e
    by false = either_short c s e.modes.own_infinite (Dss (Some e.receiving.next) None ∷ []) e plain
      where
        plain : AreShort c.spelling s (Dss (Some e.receiving.next) None ∷ [])
        plain = (record { form = (tt, refl) }, ack_length (data_number c.spelling (peer s) e.receiving.next) false)

record_short : (kind : RecordKind) (c : Profile) (s : Side) (r : Record) (e : PathEnd)
    → AreShort c.spelling s (record_options kind c s r e)
record_short Syn c s r e = syn_short c s e
record_short Data c s r e = piece_short c s r e
record_short Fin c s r e = fin_short c s r.pos e

reset_short : (c : Profile) (s : Side) (reason : Option ℕ) → AreShort c.spelling s (reset_options reason)
reset_short c s None = tt
reset_short c s (Some reason) = (record { form = tt }, reset_length false reason)

broken_short : (c : Profile) (s : Side) (failed reason : Option ℕ) → AreShort c.spelling s (broken_options failed reason)
broken_short c s failed None = tt
broken_short c s None (Some reason) = reset_short c s (Some reason)
broken_short c s (Some place) (Some reason) = record {
  can_first = record { form = tt };
  can_second = record { form = tt };
  few = fail_length _;
  less = short_reset false reason;
}

own_reset_short : (c : Profile) (s : Side) (failed reason : Option ℕ) (identity : Bool)
    → AreShort c.spelling s (if identity then [] else broken_options failed reason)
own_reset_short c s failed reason true = tt
own_reset_short c s failed reason false = broken_short c s failed reason

-- two options, of 12 and of 28 octets at most, have room where there is no SYN
two_room : (spelling : Spelling) (from : Side) (first second : PlainOption) → length (option_text (said_option spelling from first)) ≤ 12
    → length (option_text (said_option spelling from second)) ≤ 28 → length (options_text spelling from (first ∷ second ∷ [])) ≤ 40
two_room spelling from first second few less =
    omega (arith, few, less, ap length (append-nil (option_text (said_option spelling from second))), length-append (option_text (said_option spelling from first)) (option_text (said_option spelling from second) ++ []))

-- ---- segments

fits_of : (lent : Option RecordRef) (r : Option Record) → option_map record_of lent ≡ r → IfSome lent (λ r. length r.piece.now ≤ 65475)
    → IfSome r (λ r. length r.piece ≤ 65475)
fits_of None r is few = subst (λ r. IfSome r (λ r. length r.piece ≤ 65475)) is tt
fits_of (Some lent) r is few = subst (λ r. IfSome r (λ r. length r.piece ≤ 65475)) is few

module _ (c : Profile) (s : Side) (e : PathEnd) (path : c.spelling.path ≤ 15) (window : e.receiving.window ≤ 2 ^ 20) where
  says : (o : Outgoing) (options : List PlainOption) (payload : List ℕ) → AreShort c.spelling s options → length payload ≤ 65475
      → CanBeSaid c.spelling s (segment_of c o options payload e)
  says o options payload short few = record {
    path = path;
    window = window;
    options = each_of c.spelling s options short;
    room = room_of o.syn c.mss c.spelling s options short;
    fits = few;
  }

  pub ack_can : (position : ℕ) (fin : Option ℕ) → CanBeSaid c.spelling s (ack_said c s position fin e)
  ack_can position fin = says (ack_at position e.tcp) (ack_options c s fin e) [] (ack_short c s fin e) (omega arith)

  pub record_can : (r : Option Record) → IfSome r (λ r. length r.piece ≤ 65475) → CanBeSaid c.spelling s (record_or_ack c s r e)
  record_can None few = ack_can e.tcp.send.nxt None
  record_can (Some r) few = says (record_segment e.tcp r) (record_options r.kind c s r e) r.piece (record_short r.kind c s r e) few

  says_two : (o : Outgoing) (first second : PlainOption) → o.syn ≡ false → CanSayOption c.spelling s first
      → CanSayOption c.spelling s second → length (options_text c.spelling s (first ∷ second ∷ [])) ≤ 40
      → CanBeSaid c.spelling s (segment_of c o (first ∷ second ∷ []) [] e)
  says_two o first second plain can_first can_second room = record {
    path = path;
    window = window;
    options =
        All-cons (CanSayOption c.spelling s) first (second ∷ []) can_first
        (All-cons (CanSayOption c.spelling s) second [] can_second (All-nil (CanSayOption c.spelling s)));
    room = rw plain room;
    fits = omega arith;
  }

  dss_and_can : (option : PlainOption) → CanSayOption c.spelling s option
      → length (option_text (said_option c.spelling s option)) ≤ 28 → CanBeSaid c.spelling s (dss_and c (option ∷ []) e)
  dss_and_can option can short =
      says_two (ack_at e.tcp.send.nxt e.tcp) (Dss (Some e.receiving.next) None) option refl (record { form = (tt, refl) }) can
      (two_room c.spelling s (Dss (Some e.receiving.next) None) option (short_ack (data_number c.spelling (peer s) e.receiving.next)) short)

  notice_form : (notice : OwnNotice) → CanSayOption c.spelling s (notice_option notice e.modes)
  notice_form (OwnNotice.AddAddr id) = record { form = refl }
  notice_form (OwnNotice.AddEcho id address port) = record { form = refl }
  notice_form (OwnNotice.Removes id) = record { form = (omega arith, omega arith) }
  notice_form (OwnNotice.Prio backup) = record { form = tt }

  pub syn_ack_can : CanBeSaid c.spelling s (syn_ack_said c s e)
  syn_ack_can = says (syn_ack_segment e.tcp) (syn_options c s e) [] (syn_short c s e) (omega arith)

  answer_can : (syn_ack : Bool) → CanBeSaid c.spelling s (if syn_ack then syn_ack_said c s e else ack_said c s e.tcp.send.nxt None e)
  answer_can = elim [ true ↦ syn_ack_can | false ↦ ack_can e.tcp.send.nxt None ]

  pub noted_can : (notice : Option OwnNotice) → IfSome notice HasAddress → CanBeSaid c.spelling s (noted_said c s notice e)
  noted_can (Some notice) has =
      dss_and_can (notice_option notice e.modes) (notice_form notice) (notice_length notice e.modes has c.spelling s)
  noted_can None has = ack_can e.tcp.send.nxt None

  pub carried_can : (carrier : Option ℕ) → CanBeSaid c.spelling s (carried_said c s carrier e)
  carried_can (Some key) = dss_and_can (FastClose key) (record { form = tt }) (close_length key)
  carried_can None = ack_can e.tcp.send.nxt None

  resent_can : (third closed end : Bool) → CanBeSaid c.spelling s (if third then ack_said c s e.tcp.send.nxt None e
      else (if closed then carried_said c s e.notices.carrier e
      else (if end then ack_said c s e.tcp.send.nxt e.sending.known_end e else ack_said c s (e.tcp.send.una - 1) None e)))
  resent_can true closed end = ack_can e.tcp.send.nxt None
  resent_can false true end = carried_can e.notices.carrier
  resent_can false false true = ack_can e.tcp.send.nxt e.sending.known_end
  resent_can false false false = ack_can (e.tcp.send.una - 1) None

  resend_can : (first : Bool) → IfSome (first_record e) (λ r. length r.piece ≤ 65475)
      → CanBeSaid c.spelling s (if first then record_or_ack c s (first_record e) e else ack_resent c s e)
  resend_can true few = record_can (first_record e) few
  resend_can false few = resent_can e.modes.owes_third e.notices.fast_closed (is_data_fin_owed e)

  pub said_can : (kind : SegmentKind) → IfSome (first_of e.notices.queue) HasAddress → IfSome (first_unsent e) (λ r. length r.piece ≤ 65475)
      → IfSome (first_record e) (λ r. length r.piece ≤ 65475) → CanBeSaid c.spelling s (said_by kind c s e)
  said_can SegmentKind.Notice has unsent first = noted_can (first_of e.notices.queue) has
  said_can SegmentKind.FastClose has unsent first = carried_can e.notices.carrier
  said_can SegmentKind.Ack has unsent first = ack_can e.tcp.send.nxt None
  said_can SegmentKind.DataFin has unsent first = ack_can e.tcp.send.nxt e.sending.known_end
  said_can SegmentKind.Fin has unsent first = says (fin_segment e.tcp) (fin_options (fin_position e.tcp.send) e) [] (fin_short c s (fin_position e.tcp.send) e) (omega arith)
  said_can SegmentKind.Unsent has unsent first = record_can (first_unsent e) unsent
  said_can SegmentKind.First has unsent first = record_can (first_record e) first
  said_can SegmentKind.SynAck has unsent first = syn_ack_can
  said_can SegmentKind.Answer has unsent first = answer_can e.tcp.due.syn_ack
  said_can SegmentKind.DeadAnswer has unsent first = says (outgoing_or e.treated.answer (reset_segment e.tcp)) [] [] tt (omega arith)
  said_can SegmentKind.Resend has unsent first = resend_can (has_records e.tcp) first
  said_can SegmentKind.Refusal has unsent first =
      says (outgoing_or e.treated.answer (reset_segment e.tcp)) (reset_options (Some 1)) [] (reset_short c s (Some 1)) (omega arith)
  said_can (SegmentKind.Reset reason) has unsent first =
      says (own_reset e) (if e.modes.identity then [] else broken_options e.treated.failed_mapping reason) []
      (own_reset_short c s e.treated.failed_mapping reason e.modes.identity) (omega arith)

  -- records that are lent fit in a segment
  pub can_be_said : (kind : SegmentKind) (unsent first : Option RecordRef) → IfSome (first_of e.notices.queue) HasAddress → option_map record_of unsent ≡ first_unsent e
      → IfSome unsent (λ r. length r.piece.now ≤ 65475) → option_map record_of first ≡ first_record e
      → IfSome first (λ r. length r.piece.now ≤ 65475) → CanBeSaid c.spelling s (said_by kind c s e)
  can_be_said kind unsent first has is_unsent few_unsent is_first few_first =
      said_can kind has (fits_of unsent (first_unsent e) is_unsent few_unsent) (fits_of first (first_record e) is_first few_first)
