-- The numbers that a path tells: each is below 2^31, so that each is near every one that may be expected.
use Rattle.world_laws.proofs.Words.{◌≡◌, refl, sym, ap, subst, ℕ, ◌+◌, ◌-◌, ◌≤◌, ◌&&◌, not, inl, inr, ◌⊎◌, ⊎_elim, Bool, true, false, if◌then◌else◌, Option}
use Rattle.world_laws.proofs.Words.{Some, None, List, [], ◌∷◌, ◌++◌, length, arith, is_some, ◌<◌, ◌^◌, ◌%◌, cases_lt, ne_eqb, length-append, append-nil, IfSome}
use Rattle.world_laws.proofs.Words.{All, All-nil, All-cons, All-weaker, Address, token_of, join_a160_of, join_b64_of, Side, A, B, peer, with_turned_bit}
use Rattle.world_laws.proofs.Words.{JoinForm, CapableKeys, NoKey, Sender, Both, WithData, FormFits, path_address, Record, SendState, RecordKind, Syn, Data, Fin}
use Rattle.world_laws.proofs.Words.{is_fin, is_opening, ack_at, syn_ack_segment, reset_segment, fin_position, fin_segment, is_syn, record_segment, Outgoing}
use Rattle.world_laws.proofs.Words.{occupied, one_if, PlainOption, said_option, relative_number, syn_text, options_text, PlainSegment, CanSayOption, CanSay}
use Rattle.world_laws.proofs.Words.{Capable, Dss, Fail, meant, IsPositionFresh, IsPlaceFresh, IsBytes, IsMappingFresh, IsOptionFresh, IsHearable, IsFresh}
use Rattle.world_laws.proofs.Words.{Expected, whole_number, data_number, PathMapping, Bytes, Infinite, InfiniteMapping, OwnNotice, Heard, PeerNotice, PathEnd}
use Rattle.world_laws.proofs.Words.{Notices, copy_of, expected_by, outgoing_or, is_joined, join_options, third_options, peer_key_of, receives_infinite}
use Rattle.world_laws.proofs.Words.{bare_mapping, checksum_in, place_numbered, checksum_told, owes_mapping, plain_options, data_fin_mapping, piece_mapping}
use Rattle.world_laws.proofs.Words.{is_first_piece, first_piece_options, piece_options, fin_options, fail_options, fail_beside, infinite_options, infinite_or}
use Rattle.world_laws.proofs.Words.{mapped_options, is_syn_unsent, own_reset, capable_options, syn_options, key_options, opening_options, ack_options}
use Rattle.world_laws.proofs.Words.{record_options, reset_options, segment_of, ack_said, carried_said, record_said, syn_ack_said, fin_said, reset_said}
use Rattle.world_laws.proofs.Words.{record_or_ack, broken_options, noted_said, notice_option, HasAddress, Profile, IsFarReset, Modes, Treated, Every, if_so}
use Rattle.std.proofs.lemmas.Int.{ints}
use Rattle.std.specs.Option.{IsSome}
use Rattle.seq_units.specs.declared.mapping.Mapping.{Mapping}
use Rattle.key_material.proofs.Bounds.{token_of_below, join_b64_of_below, AreOctets-join_a160_of, length-join_a160_of, add_addr64_of_below}
use Rattle.mptcp_options.specs.declared.dss.DataNumber.{DataNumber}
use Rattle.mptcp_options.specs.declared.dss.DataNumber.TheVariants.{Whole, Low}
use Rattle.mptcp_options.specs.Dss.{DataNumberFits}
use Rattle.mptcp_options.specs.Octets.{IsBelow}
use Rattle.mptcp_options.specs.Text.{option_text, Fits}
use Rattle.mptcp_options.specs.Value as wire
use Rattle.path_segments.specs.declared.segment.PathMapping.TheVariants.{End}
use Rattle.path_segments.specs.declared.segment.PathOption.TheVariants.{FastClose}
use Rattle.path_segments.specs.declared.spelling.Spelling.{Spelling}
use Rattle.path_segments.specs.HeardLent.{IsExpected}
use Rattle.path_core.specs.Sending.{Sending}
use Rattle.path_store.specs.Receiving.{Receiving}
use Rattle.key_material.specs.declared.address.Address.TheVariants.{V4, V6}
use Rattle.mptcp_options.specs.Address.{AddressFits}
use Rattle.path_core.proofs.Sayable.{noted_can, carried_can}

abbrev pub IsShort : ℕ → Type 0
IsShort n = n < 2 ^ 31

-- ---- what a segment tells

abbrev pub MappingIsShort : PathMapping ℕ → Type 0
MappingIsShort (Bytes place position len fin checksum) = IsShort place × IsShort position × IsBytes position len fin
MappingIsShort (End place checksum) = IsShort place
MappingIsShort (Infinite place position) = IsShort place × IsShort position

abbrev pub OptionIsShort : PlainOption → Type 0
OptionIsShort (Dss next mapping) = IfSome next IsShort × IfSome mapping MappingIsShort
OptionIsShort (Fail place) = IsShort place
OptionIsShort _ = Unit {0}

-- an option whose numbers fit their fields, and are small
pub record OptionTells (c : Profile) (s : Side) (o : PlainOption) : Type 0 where
  pub fits : Fits (said_option c.spelling s o)
  pub short : OptionIsShort o

-- A reset of a dead end, which answers a SYN at number 0: that may be any position below 2^32.
pub record IsStray (rst : Bool) (acknowledged : Option ℕ) (position : ℕ) : Type 0 where
  pub reset : rst ≡ true
  pub acknowledging : IsSome acknowledged
  pub low : position < 2 ^ 32

-- a segment of a side that can be said, with small numbers, but for the position of a stray reset
pub record SegmentTells (c : Profile) (s : Side) (sg : PlainSegment) : Type 0 where
  pub sayable : CanSay c.spelling s sg
  pub position : IsStray sg.rst sg.acknowledged sg.position ⊎ IsShort sg.position
  pub acknowledged : IfSome sg.acknowledged IsShort
  -- where it acknowledges nothing, the position after it is small too
  pub reaches : sg.acknowledged ≡ None → IsShort (sg.position + occupied (copy_of (meant sg)))
  pub syn : is_some sg.mss ≡ sg.syn
  pub mss : IfSome sg.mss (λ n. n < 2 ^ 16)
  pub options : All (OptionTells c s) sg.options

-- with a bit of its payload turned it tells the same
length-turned : (octets : List ℕ) → length (with_turned_bit octets) ≡ length octets
length-turned = elim [ [] ↦ refl | first ∷ rest ↦ refl ]

pub altered_tells : (c : Profile) (s : Side) (sg : PlainSegment) → SegmentTells c s sg → SegmentTells c s (record sg { payload = with_turned_bit sg.payload })
altered_tells c s sg h = record {
  sayable = record {
    path = h.sayable.path;
    window = h.sayable.window;
    options = h.sayable.options;
    room = h.sayable.room;
    fits = let same = length-turned sg.payload in let fits = h.sayable.fits in omega (arith, same, fits);
  };
  position = h.position;
  acknowledged = h.acknowledged;
  reaches = λ none. let same = length-turned sg.payload in let old = h.reaches none in omega (arith, same, old);
  syn = h.syn;
  mss = h.mss;
  options = h.options;
}

-- without its options it tells less
syn_room : (mss : Option ℕ) → length (syn_text mss ++ []) ≤ 40
syn_room = elim [ None ↦ omega arith | Some mss ↦ omega arith ]

pub bare_tells : (c : Profile) (s : Side) (sg : PlainSegment) → SegmentTells c s sg → SegmentTells c s (record sg { options = [] })
bare_tells c s sg h = record {
  sayable = record { path = h.sayable.path; window = h.sayable.window; options = All-nil (CanSayOption c.spelling s); room = syn_room sg.mss; fits = h.sayable.fits };
  position = h.position;
  acknowledged = h.acknowledged;
  reaches = h.reaches;
  syn = h.syn;
  mss = h.mss;
  options = All-nil (OptionTells c s);
}

-- ---- near

-- also where it is less than 2^31 ahead
near_below : (expected n : ℕ) → IsShort expected → n < expected + 2 ^ 31 → IsPositionFresh expected n
near_below expected n a b = record { behind = omega (arith, ints); ahead = omega (arith, ints) }

near : (expected n : ℕ) → IsShort expected → IsShort n → IsPositionFresh expected n
near expected n a b = near_below expected n a (omega (arith, b))

near_place : (short : Bool) (expected n : ℕ) → IsShort expected → IsShort n → IsPlaceFresh short expected n
near_place short expected n a b = record { below = omega (arith, b); near = λ is. near expected n a b }

-- what an end expects is small
pub record IsShortly (x : Expected) : Type 0 where
  pub edge : IsShort x.edge
  pub unacknowledged : IsShort x.unacknowledged
  pub told : IsShort x.told
  pub place : IsShort x.place

pub expected_from : (x : Expected) → IsShortly x → IsExpected x
expected_from x h =
    let a = h.edge in let b = h.unacknowledged in let c = h.told in let d = h.place in
    record { edge = omega (arith, a); unacknowledged = omega (arith, b); told = omega (arith, c); place = omega (arith, d) }

module _ (short : Bool) (x : Expected) (h : IsShortly x) where
  mapping_near : (m : PathMapping ℕ) → MappingIsShort m → IsMappingFresh short x m
  mapping_near (Bytes place position len fin checksum) m = (near_place short x.place place h.place m.0, near x.edge position h.edge m.1, m.2)
  mapping_near (End place checksum) m = near_place short x.place place h.place m
  mapping_near (Infinite place position) m = (near_place short x.place place h.place m.0, near x.edge position h.edge m.1)

  mappings_near : (o : Option (PathMapping ℕ)) → IfSome o MappingIsShort → IfSome o (IsMappingFresh short x)
  mappings_near = elim [ None ↦ λ m. tt | Some mapping ↦ λ m. mapping_near mapping m ]

  numbers_near : (o : Option ℕ) → IfSome o IsShort → IfSome o (IsPlaceFresh short x.told)
  numbers_near = elim [ None ↦ λ n. tt | Some next ↦ λ n. near_place short x.told next h.told n ]

  option_near : (o : PlainOption) → OptionIsShort o → IsOptionFresh short x o
  option_near (Dss next mapping) o = (numbers_near next o.0, mappings_near mapping o.1)
  option_near (Fail place) o = near_place false x.told place h.told o
  option_near _ o = tt

-- a segment that tells is fresh, at each position that is
fresh_at : (c : Profile) (s : Side) (x : Expected) (sg : PlainSegment) (position : ℕ) → SegmentTells c s sg → IsPositionFresh x.edge position → IsShortly x
    → IsFresh c.spelling s x (record sg { position = position })
fresh_at c s x sg position tells at h = record {
  position = at;
  acknowledged = acknowledged_near sg.acknowledged tells.acknowledged;
  syn = tells.syn;
  mss = tells.mss;
  options = All-weaker (OptionTells c s) (IsHearable c.spelling s x) (λ o t. record { fits = t.fits; fresh = option_near c.spelling.short x h o t.short }) sg.options tells.options;
}
  where
    acknowledged_near : (o : Option ℕ) → IfSome o IsShort → IfSome o (IsPositionFresh x.unacknowledged)
    acknowledged_near None n = tt
    acknowledged_near (Some n) short = near x.unacknowledged n h.unacknowledged short

-- and so it is at its own, unless it is a reset that is far
pub fresh_or_far : (c : Profile) (s : Side) (x : Expected) (sg : PlainSegment) → SegmentTells c s sg → IsShortly x
    → IsFresh c.spelling s x sg ⊎ IsFarReset c.spelling s x sg
fresh_or_far c s x sg tells h = ⊎_elim
    (λ stray. ⊎_elim
    (λ below. inl (fresh_at c s x sg sg.position tells (near_below x.edge sg.position h.edge below) h))
    (λ ahead. inr (record { reset = stray.reset; acknowledging = stray.acknowledging; ahead = ahead; low = stray.low; others = fresh_at c s x sg x.edge tells (near x.edge x.edge h.edge h.edge) h }))
    (cases_lt sg.position (x.edge + 2 ^ 31)))
    (λ short. inl (fresh_at c s x sg sg.position tells (near x.edge sg.position h.edge short) h))
    tells.position

-- ---- an end

-- a record that may be sent again
abbrev pub RecordKindTells : Profile → Side → RecordKind → Record → Type 0
RecordKindTells c s Syn r = Unit {0}
RecordKindTells c s Data r = (1 ≤ r.mapping.length) × (r.mapping.length < 2 ^ 16) × (r.mapping.checksum < 2 ^ 16) × IsShort (place_numbered c s r.mapping.number) × (r.mapping.length ≡ length r.piece)
RecordKindTells c s Fin r = Unit {0}

pub record RecordTells (c : Profile) (s : Side) (r : Record) : Type 0 where
  pub reaches : IsShort (r.pos + length r.piece + 1)
  pub octets : length r.piece ≤ 65475
  pub mapped : RecordKindTells c s r.kind r

abbrev pub IsKey : ℕ → Type 0
IsKey key = key < 2 ^ 64

abbrev pub IsNonce : ℕ → Type 0
IsNonce nonce = nonce < 2 ^ 32

-- an address by its id, perhaps with a port
abbrev pub AddressTells : ℕ → Address → Option ℕ → Type 0
AddressTells id address port = (id < 256) × AddressFits address × IsBelow (2 ^ 16) port

-- what an end has to note
abbrev pub NoteTells : OwnNotice → Type 0
NoteTells (OwnNotice.AddAddr id) = id < 256
NoteTells (OwnNotice.AddEcho id address port) = AddressTells id address port
NoteTells (OwnNotice.Removes id) = id < 256
NoteTells (OwnNotice.Prio backup) = Unit {0}

pub has_address : (notice : OwnNotice) → NoteTells notice → HasAddress notice
has_address (OwnNotice.AddEcho id (V4 octets) port) is = let four = is.1.1 in omega (arith, four)
has_address (OwnNotice.AddEcho id (V6 octets) port) is = let sixteen = is.1.1 in omega (arith, sixteen)
has_address _ is = tt

-- what a copy noted
abbrev pub PeerTells : PeerNotice → Type 0
PeerTells (PeerNotice.AddAddr id address port hmac) = AddressTells id address port
PeerTells _ = Unit {0}

-- a thing that a copy said
abbrev pub ItemTells : Heard → Type 0
ItemTells (Heard.Notice notice) = PeerTells notice
ItemTells (Heard.DataAck next window) = IsShort next
ItemTells (Heard.DataFin place) = IsShort place
ItemTells (Heard.PeerKey key) = IsKey key
ItemTells (Heard.Keys own peer) = IsKey own × IsKey peer
ItemTells (Heard.Join form) = FormFits form
ItemTells _ = Unit {0}

-- none after a fallback
pub known_item : (identity : Bool) (o : Option Heard) → IfSome o ItemTells → IfSome (if identity then None else o) ItemTells
known_item = elim [ true ↦ λ o h. tt | false ↦ λ o h. h ]

-- the answer of a dead end, and of an end that refuses, is a reset
pub record AnswerTells (o : Outgoing) : Type 0 where
  pub rst : o.rst ≡ true
  pub low : o.position < 2 ^ 32
  pub acknowledged : IfSome o.acknowledged IsShort
  pub reaches : o.acknowledged ≡ None → IsShort o.position
  pub syn : o.syn ≡ false
  pub fin : o.fin ≡ false

pub record SenderTells (c : Profile) (s : Side) (v : SendState) : Type 0 where
  pub next : IsShort v.nxt
  pub unacknowledged : v.una ≤ v.nxt
  pub records : Every (RecordTells c s) v.records

pub record StreamTells (v : Sending) : Type 0 where
  pub heard : IsShort v.heard
  pub known_end : IfSome v.known_end IsShort

pub record WindowTells (v : Receiving) : Type 0 where
  pub next : IsShort v.next
  pub window : v.window ≤ 2 ^ 20

-- the keys and nonces of both sides, and the mapping whose check failed
pub record KeysTell (own : ℕ) (peer : Option ℕ) (nonce heard : ℕ) (failed : Option ℕ) : Type 0 where
  pub own_key : IsKey own
  pub peer_key : IfSome peer IsKey
  pub own_nonce : IsNonce nonce
  pub peer_nonce : IsNonce heard
  pub failed_mapping : IfSome failed IsShort

abbrev pub ModesTell : Modes → Type 0
ModesTell m = KeysTell m.own_key m.peer_key m.own_nonce m.peer_nonce m.failed_mapping

pub record TreatedTells (t : Treated) : Type 0 where
  pub items : Every ItemTells t.items
  pub answer : IfSome t.answer AnswerTells
  pub acknowledged : IsShort t.acknowledged
  pub failed_mapping : IfSome t.failed_mapping IsShort

-- where an infinite mapping begins
pub record PairTells (m : InfiniteMapping) : Type 0 where
  pub place : IsShort m.place
  pub position : IsShort m.position

-- the key of a fast close that it carries, and what it has to note
pub record NoticesTell (n : Notices) : Type 0 where
  pub carrier : IfSome n.carrier IsKey
  pub queue : Every NoteTells n.queue

pub record EndTells (c : Profile) (s : Side) (e : PathEnd) : Type 0 where
  pub sender : SenderTells c s e.tcp.send
  pub edge : IsShort e.tcp.recv.edge
  pub stream : StreamTells e.sending
  pub window : WindowTells e.receiving
  pub modes : ModesTell e.modes
  pub treated : TreatedTells e.treated
  pub notices : NoticesTell e.notices

pub expected_shortly : (c : Profile) (s : Side) (e : PathEnd) → EndTells c s e → IsShortly (expected_by e)
expected_shortly c s e h =
    let una = h.sender.unacknowledged in let nxt = h.sender.next in
    record { edge = h.edge; unacknowledged = omega (arith, una, nxt); told = h.stream.heard; place = h.window.next }

-- ---- what an end says

data_fits : (spelling : Spelling) (side : Side) (place : ℕ) → DataNumberFits (data_number spelling side place)
data_fits spelling side place =
    if_so DataNumberFits spelling.short (Low (whole_number spelling side place % 2 ^ 32)) (Whole (whole_number spelling side place))
    (omega arith) (omega arith)

pub sum_small : (c : Profile) (mapping : Mapping) (octets : List ℕ) → checksum_in c mapping octets < 2 ^ 16
sum_small c mapping octets = (elim c.spelling.checksums as (λ b. c.spelling.checksums ≡ b → checksum_in c mapping octets < 2 ^ 16)
    [ true ↦ λ is. rw is (omega arith) | false ↦ λ is. rw is (omega arith) ]) refl

told_below : (c : Profile) (n : ℕ) → n < 2 ^ 16 → IsBelow (2 ^ 16) (checksum_told c n)
told_below c n low = if_so (IsBelow (2 ^ 16)) c.spelling.checksums (Some n) None low tt

capable_length : (flag_a flag_c : Bool) (keys : CapableKeys) → length (option_text (wire.Capable flag_a flag_c keys)) ≤ 28
unfolding option_text
capable_length flag_a flag_c (WithData sender receiver len None) = omega arith
capable_length flag_a flag_c (WithData sender receiver len (Some checksum)) = omega arith
capable_length flag_a flag_c _ = omega arith

ack_length : (ack : DataNumber) (fin : Bool) → length (option_text (wire.Dss (Some ack) None fin)) ≤ 28
unfolding option_text
ack_length (Whole ack) fin = omega arith
ack_length (Low ack) fin = omega arith

dss_length : (ack number : DataNumber) (relative len : ℕ) (checksum : Option ℕ) (fin : Bool)
    → length (option_text (wire.Dss (Some ack) (Some (record { number = number; relative = relative; length = len; checksum = checksum })) fin)) ≤ 28
unfolding option_text
dss_length (Whole ack) (Whole number) relative len None fin = omega arith
dss_length (Whole ack) (Whole number) relative len (Some checksum) fin = omega arith
dss_length (Whole ack) (Low number) relative len None fin = omega arith
dss_length (Whole ack) (Low number) relative len (Some checksum) fin = omega arith
dss_length (Low ack) (Whole number) relative len None fin = omega arith
dss_length (Low ack) (Whole number) relative len (Some checksum) fin = omega arith
dss_length (Low ack) (Low number) relative len None fin = omega arith
dss_length (Low ack) (Low number) relative len (Some checksum) fin = omega arith

-- an infinite mapping
infinite_length : (number : DataNumber) (relative : ℕ) (checksum : Option ℕ)
    → length (option_text (wire.Dss None (Some (record { number = number; relative = relative; length = 0; checksum = checksum })) false)) ≤ 28
unfolding option_text
infinite_length (Whole number) relative None = omega arith
infinite_length (Whole number) relative (Some checksum) = omega arith
infinite_length (Low number) relative None = omega arith
infinite_length (Low number) relative (Some checksum) = omega arith

reset_length : (transient : Bool) (reason : ℕ) → length (option_text (wire.Reset transient reason)) ≤ 28
unfolding option_text
reset_length transient reason = omega arith

reset_little : (transient : Bool) (reason : ℕ) → length (option_text (wire.Reset transient reason)) ≤ 12
unfolding option_text
reset_little transient reason = omega arith

fail_little : (number : ℕ) → length (option_text (wire.Fail number)) ≤ 12
unfolding option_text
fail_little number = omega arith

join_syn_length : (backup : Bool) (id token nonce : ℕ) → length (option_text (wire.Join (JoinForm.Syn backup id token nonce))) ≤ 28
unfolding option_text
join_syn_length backup id token nonce = omega arith

join_answer_length : (backup : Bool) (id hmac nonce : ℕ) → length (option_text (wire.Join (JoinForm.Answer backup id hmac nonce))) ≤ 28
unfolding option_text
join_answer_length backup id hmac nonce = omega arith

third_length : (key_a key_b nonce_a nonce_b : ℕ) → length (option_text (wire.Join (JoinForm.Third (join_a160_of key_a key_b nonce_a nonce_b)))) ≤ 28
unfolding option_text
third_length key_a key_b nonce_a nonce_b = omega (arith, length-join_a160_of key_a key_b nonce_a nonce_b)

-- a checksum stands exactly where checksums are used
told_form : (used : Bool) (checksum : ℕ) → is_some (if used then Some checksum else None) ≡ used
told_form = elim [ true ↦ λ checksum. refl | false ↦ λ checksum. refl ]

-- an option that can be said in 28 octets, and tells
record Says (c : Profile) (s : Side) (o : PlainOption) : Type 0 where
  can : CanSayOption c.spelling s o
  few : length (option_text (said_option c.spelling s o)) ≤ 28
  tells : OptionTells c s o

-- one option at most
abbrev OneSays : Profile → Side → List PlainOption → Type 0
OneSays c s [] = Unit {0}
OneSays c s (o ∷ []) = Says c s o
OneSays c s (o ∷ other ∷ others) = ⊥

-- an option that can be said in 12 octets, and tells
record SaysLittle (c : Profile) (s : Side) (o : PlainOption) : Type 0 where
  can : CanSayOption c.spelling s o
  little : length (option_text (said_option c.spelling s o)) ≤ 12
  tells : OptionTells c s o

-- that one and another at most
abbrev TwoSay : Profile → Side → List PlainOption → Type 0
TwoSay c s [] = Unit {0}
TwoSay c s (o ∷ []) = Says c s o
TwoSay c s (o ∷ other ∷ []) = Says c s o × SaysLittle c s other
TwoSay c s (o ∷ other ∷ another ∷ others) = ⊥

module _ (c : Profile) (s : Side) where
  says_little : (o : PlainOption) → SaysLittle c s o → Says c s o
  says_little o h = let little = h.little in record { can = h.can; few = omega (arith, little); tells = h.tells }

  one_of_two : (os : List PlainOption) → OneSays c s os → TwoSay c s os
  one_of_two [] h = tt
  one_of_two (o ∷ []) h = h
  one_of_two (o ∷ other ∷ others) h = absurd h

  two_said : (os : List PlainOption) → TwoSay c s os → All (CanSayOption c.spelling s) os
  two_said [] h = All-nil (CanSayOption c.spelling s)
  two_said (o ∷ []) h = All-cons (CanSayOption c.spelling s) o [] h.can (All-nil (CanSayOption c.spelling s))
  two_said (o ∷ other ∷ []) h =
      All-cons (CanSayOption c.spelling s) o (other ∷ []) h.0.can
      (All-cons (CanSayOption c.spelling s) other [] h.1.can (All-nil (CanSayOption c.spelling s)))
  two_said (o ∷ other ∷ another ∷ others) h = absurd h

  two_told : (os : List PlainOption) → TwoSay c s os → All (OptionTells c s) os
  two_told [] h = All-nil (OptionTells c s)
  two_told (o ∷ []) h = All-cons (OptionTells c s) o [] h.tells (All-nil (OptionTells c s))
  two_told (o ∷ other ∷ []) h = All-cons (OptionTells c s) o (other ∷ []) h.0.tells (All-cons (OptionTells c s) other [] h.1.tells (All-nil (OptionTells c s)))
  two_told (o ∷ other ∷ another ∷ others) h = absurd h

  two_room : (os : List PlainOption) → TwoSay c s os → length (syn_text None ++ options_text c.spelling s os) ≤ 40
  two_room [] h = omega arith
  two_room (o ∷ []) h = let few = h.few in omega (arith, few, ap length (append-nil (option_text (said_option c.spelling s o))))
  two_room (o ∷ other ∷ []) h =
      let first = option_text (said_option c.spelling s o) in
      let second = option_text (said_option c.spelling s other) in
      let few = h.0.few in let little = h.1.little in
      omega (arith, few, little, length-append first (second ++ []), ap length (append-nil second))
  two_room (o ∷ other ∷ another ∷ others) h = absurd h

  each_said : (os : List PlainOption) → OneSays c s os → All (CanSayOption c.spelling s) os
  each_said [] h = All-nil (CanSayOption c.spelling s)
  each_said (o ∷ []) h = All-cons (CanSayOption c.spelling s) o [] h.can (All-nil (CanSayOption c.spelling s))
  each_said (o ∷ other ∷ others) h = absurd h

  each_told : (os : List PlainOption) → OneSays c s os → All (OptionTells c s) os
  each_told [] h = All-nil (OptionTells c s)
  each_told (o ∷ []) h = All-cons (OptionTells c s) o [] h.tells (All-nil (OptionTells c s))
  each_told (o ∷ other ∷ others) h = absurd h

  room_of : (syn : Bool) (mss : ℕ) (os : List PlainOption) → OneSays c s os
      → length (syn_text (if syn then Some mss else None) ++ options_text c.spelling s os) ≤ 40
  room_of true mss [] h = omega arith
  room_of false mss [] h = omega arith
  room_of true mss (o ∷ []) h = let few = h.few in omega (arith, few, ap length (append-nil (option_text (said_option c.spelling s o))))
  room_of false mss (o ∷ []) h = let few = h.few in omega (arith, few, ap length (append-nil (option_text (said_option c.spelling s o))))
  room_of syn mss (o ∷ other ∷ others) h = absurd h

module _ (c : Profile) (s : Side) (path : c.spelling.path ≤ 15) (mss : c.mss < 2 ^ 16) (e : PathEnd) (h : EndTells c s e) where
  abbrev One : List PlainOption → Type 0
  One os = OneSays c s os

  abbrev ack_number : DataNumber
  ack_number = data_number c.spelling (peer s) e.receiving.next

  capable_tells : (t : Side) → One (capable_options c t e)
  capable_tells A = record { can = record { form = tt }; few = capable_length c.spelling.checksums false NoKey; tells = record { fits = tt; short = tt } }
  capable_tells B =
      if_so One (e.modes.capable_asked && not e.modes.identity) (Capable c.spelling.checksums false (Sender e.modes.own_key) ∷ []) []
      (record { can = record { form = tt }; few = capable_length c.spelling.checksums false (Sender e.modes.own_key); tells = record { fits = h.modes.own_key; short = tt } }) tt

  -- the address id is the path's number
  id_fits : c.spelling.path < 256
  id_fits = omega (arith, path)

  join_tells : (t : Side) → One (join_options c t e.modes)
  join_tells A = record {
    can = record { form = tt };
    few = join_syn_length c.backup c.spelling.path (token_of (peer_key_of e.modes)) e.modes.own_nonce;
    tells = record { fits = (id_fits, token_of_below (peer_key_of e.modes), h.modes.own_nonce); short = tt };
  }
  join_tells B = record {
    can = record { form = tt };
    few = join_answer_length c.backup c.spelling.path (join_b64_of (peer_key_of e.modes) e.modes.own_key e.modes.peer_nonce e.modes.own_nonce) e.modes.own_nonce;
    tells = record { fits = (id_fits, join_b64_of_below (peer_key_of e.modes) e.modes.own_key e.modes.peer_nonce e.modes.own_nonce, h.modes.own_nonce); short = tt };
  }

  third_tells : One (third_options e.modes)
  third_tells =
      let own = e.modes.own_key in let other = peer_key_of e.modes in let nonce = e.modes.own_nonce in let other_nonce = e.modes.peer_nonce in
      record {
        can = record { form = tt };
        few = third_length own other nonce other_nonce;
        tells = record { fits = (AreOctets-join_a160_of own other nonce other_nonce, length-join_a160_of own other nonce other_nonce); short = tt };
      }

  syn_tells : (t : Side) → One (syn_options c t e)
  syn_tells t = if_so One (is_joined c) (join_options c t e.modes) (capable_options c t e) (join_tells t) (capable_tells t)

  key_tells : (t : Side) (o : Option ℕ) → IfSome o IsKey → One (key_options c t o e)
  key_tells A None k = tt
  key_tells A (Some key) k = record {
    can = record { form = tt };
    few = capable_length c.spelling.checksums false (Both e.modes.own_key key);
    tells = record { fits = (h.modes.own_key, k); short = tt };
  }
  key_tells B o k = tt

  opening_tells : One (opening_options c s e)
  opening_tells = if_so One e.modes.owes_third (third_options e.modes) (key_options c s e.modes.peer_key e) third_tells (key_tells s e.modes.peer_key h.modes.peer_key)

  end_tells : (o : Option ℕ) → IfSome o IsShort → Says c s (Dss (Some e.receiving.next) (data_fin_mapping c s o))
  end_tells None n = record {
    can = record { form = (tt, refl) };
    few = ack_length ack_number false;
    tells = record { fits = (data_fits c.spelling (peer s) e.receiving.next, tt); short = (h.window.next, tt) };
  }
  end_tells (Some place) n = record {
    can = record { form = (told_form c.spelling.checksums _, tt) };
    few = dss_length ack_number (data_number c.spelling s place) 0 1 _ true;
    tells = record {
      fits = (
        data_fits c.spelling (peer s) e.receiving.next,
        (data_fits c.spelling s place, omega arith, omega arith, told_below c _ (sum_small c (bare_mapping c s place 0 1) [])),
      );
      short = (h.window.next, n);
    };
  }

  -- MP_FAIL, which is short
  fail_tells : (place : ℕ) → IsShort place → SaysLittle c s (Fail place)
  fail_tells place short = record {
    can = record { form = tt };
    little = fail_little (whole_number c.spelling (peer s) place);
    tells = record { fits = omega arith; short = short };
  }

  -- MP_FAIL stands beside a DSS
  beside_tells : (fin : Option ℕ) → IfSome fin IsShort → TwoSay c s (Dss (Some e.receiving.next) (data_fin_mapping c s fin) ∷ fail_beside fin e.modes)
  beside_tells (Some place) n = end_tells (Some place) n
  beside_tells None n = elim (receives_infinite e.modes.mode) as (λ b. TwoSay c s (Dss (Some e.receiving.next) None ∷ fail_options (if b then None else e.modes.failed_mapping)))
      [ true ↦ end_tells None tt | false ↦ failed e.modes.failed_mapping h.modes.failed_mapping ]
    where
      failed : (o : Option ℕ) → IfSome o IsShort → TwoSay c s (Dss (Some e.receiving.next) None ∷ fail_options o)
      failed None short = end_tells None tt
      failed (Some place) short = (end_tells None tt, fail_tells place short)

  ack_tells : (fin : Option ℕ) → IfSome fin IsShort → TwoSay c s (ack_options c s fin e)
  ack_tells fin n = by e.modes.identity e.modes.clear
    where
      by : (identity clear : Bool)
          → TwoSay c s (if identity then [] else (if clear then Dss (Some e.receiving.next) (data_fin_mapping c s fin) ∷ fail_beside fin e.modes else opening_options c s e))
      by true clear = tt
      by false true = beside_tells fin n
      by false false = one_of_two c s (opening_options c s e) opening_tells

  checksum_zero : IsBelow (2 ^ 16) (if c.spelling.checksums then Some 0 else None)
  checksum_zero = told_below c 0 (omega arith)

  -- the infinite mapping of a position and the place before it
  plain_tells : (position : ℕ) → IsShort position → One (plain_options position e)
  plain_tells position at = by (owes_mapping e)
    where
      by : (b : Bool) → One (if b then Dss None (Some (Infinite (position - 1) position)) ∷ [] else [])
      by true = record {
        can = record { form = (told_form c.spelling.checksums 0, tt) };
        few = infinite_length (data_number c.spelling s (position - 1)) (relative_number position) (checksum_told c 0);
        tells = record { fits = (tt, (data_fits c.spelling s (position - 1), omega arith, omega arith, checksum_zero)); short = (tt, (omega (arith, at), at)) };
      }
      by false = tt

  -- the infinite mapping after the peer's MP_FAIL
  infinite_tells : (mapping : InfiniteMapping) → PairTells mapping → One (infinite_options mapping e)
  infinite_tells mapping pair = by (owes_mapping e)
    where
      by : (b : Bool) → Says c s (Dss (Some e.receiving.next) (if b then Some (Infinite mapping.place mapping.position) else None))
      by true = record {
        can = record { form = (told_form c.spelling.checksums 0, tt) };
        few = dss_length ack_number (data_number c.spelling s mapping.place) (relative_number mapping.position) 0 (checksum_told c 0) false;
        tells = record {
          fits = (
            data_fits c.spelling (peer s) e.receiving.next,
            (data_fits c.spelling s mapping.place, omega arith, omega arith, checksum_zero),
          );
          short = (h.window.next, (pair.place, pair.position));
        };
      }
      by false = end_tells None tt

  infinite_or_tells : (o : Option InfiniteMapping) → IfSome o PairTells → (os : List PlainOption) → One os → One (infinite_or o os e)
  infinite_or_tells = elim [ None ↦ λ own os one. one | Some mapping ↦ λ own os one. infinite_tells mapping own ]

  fin_tells : IfSome e.modes.own_infinite PairTells → (position : ℕ) → IsShort position → One (fin_options position e)
  fin_tells own position at =
      if_so One e.modes.identity (plain_options position e) (infinite_or e.modes.own_infinite (Dss (Some e.receiving.next) None ∷ []) e)
      (plain_tells position at) (infinite_or_tells e.modes.own_infinite own (Dss (Some e.receiving.next) None ∷ []) (end_tells None tt))

  bytes_of : (position len : ℕ) → 1 ≤ len → IsBytes position len false
  bytes_of position len some = record { some = ne_eqb len 0 (λ is. absurd (omega (arith, some, is))); no_end = refl }

  first_tells : (o : Option ℕ) (r : Record) → IfSome o IsKey → RecordKindTells c s Data r → One (first_piece_options c o r e)
  first_tells None r k m = tt
  first_tells (Some key) r k m = record {
    can = record { form = told_form c.spelling.checksums r.mapping.checksum };
    few = capable_length c.spelling.checksums false (WithData e.modes.own_key key r.mapping.length (checksum_told c r.mapping.checksum));
    tells = record { fits = (h.modes.own_key, k, m.1, told_below c r.mapping.checksum m.2); short = tt };
  }

  mapped_tells : (r : Record) → IsShort r.pos → RecordKindTells c s Data r → One (mapped_options c s r e)
  mapped_tells r at m = by (is_first_piece s r e)
    where
      by : (first : Bool) → One (if first then first_piece_options c e.modes.peer_key r e else Dss (Some e.receiving.next) (Some (piece_mapping c s r)) ∷ [])
      by true = first_tells e.modes.peer_key r h.modes.peer_key m
      by false = record {
        can = record { form = (told_form c.spelling.checksums r.mapping.checksum, tt) };
        few = dss_length ack_number _ (relative_number r.pos) r.mapping.length (checksum_told c r.mapping.checksum) false;
        tells = record {
          fits = (
            data_fits c.spelling (peer s) e.receiving.next,
            (data_fits c.spelling s (place_numbered c s r.mapping.number), omega arith, m.1, told_below c r.mapping.checksum m.2),
          );
          short = (h.window.next, (m.3, at, bytes_of r.pos r.mapping.length m.0));
        };
      }

  piece_tells : IfSome e.modes.own_infinite PairTells → (r : Record) → IsShort r.pos → RecordKindTells c s Data r → One (piece_options c s r e)
  piece_tells own r at m =
      if_so One e.modes.identity (plain_options r.pos e) (infinite_or e.modes.own_infinite (mapped_options c s r e) e)
      (plain_tells r.pos at) (infinite_or_tells e.modes.own_infinite own (mapped_options c s r e) (mapped_tells r at m))

  record_options_tell : IfSome e.modes.own_infinite PairTells → (kind : RecordKind) (r : Record) → IsShort r.pos → RecordKindTells c s kind r → One (record_options kind c s r e)
  record_options_tell own Syn r at m = syn_tells s
  record_options_tell own Data r at m = piece_tells own r at m
  record_options_tell own Fin r at m = fin_tells own r.pos at

  mss_is : (syn : Bool) → is_some (if syn then Some c.mss else None) ≡ syn
  mss_is = elim [ true ↦ refl | false ↦ refl ]

  mss_low : (syn : Bool) → IfSome (if syn then Some c.mss else None) (λ n. n < 2 ^ 16)
  mss_low = elim [ true ↦ mss | false ↦ tt ]

  segment_tells : (o : Outgoing) (options : List PlainOption) (payload : List ℕ) → length payload ≤ 65475
      → IsStray o.rst o.acknowledged o.position ⊎ IsShort o.position → IfSome o.acknowledged IsShort → (o.acknowledged ≡ None → IsShort (o.position + occupied (copy_of (meant (segment_of c o options payload e)))))
      → One options → SegmentTells c s (segment_of c o options payload e)
  segment_tells o options payload most at ack reaches one = record {
    sayable = record { path = path; window = h.window.window; options = each_said c s options one; room = room_of c s o.syn c.mss options one; fits = most };
    position = at;
    acknowledged = ack;
    reaches = reaches;
    syn = mss_is o.syn;
    mss = mss_low o.syn;
    options = each_told c s options one;
  }

  -- without a SYN there is room for two
  plain_tells_two : (o : Outgoing) (options : List PlainOption) (payload : List ℕ) → length payload ≤ 65475
      → IsStray o.rst o.acknowledged o.position ⊎ IsShort o.position → IfSome o.acknowledged IsShort → (o.acknowledged ≡ None → IsShort (o.position + occupied (copy_of (meant (segment_of c o options payload e)))))
      → o.syn ≡ false → TwoSay c s options → SegmentTells c s (segment_of c o options payload e)
  plain_tells_two o options payload most at ack reaches plain two = record {
    sayable = record {
      path = path;
      window = h.window.window;
      options = two_said c s options two;
      room = subst (λ b. length (syn_text (if b then Some c.mss else None) ++ options_text c.spelling s options) ≤ 40) (sym plain) (two_room c s options two);
      fits = most;
    };
    position = at;
    acknowledged = ack;
    reaches = reaches;
    syn = mss_is o.syn;
    mss = mss_low o.syn;
    options = two_told c s options two;
  }

  none_is : (n : ℕ) {X : Type 0} → Some n ≡ None → X
  none_is n is = cc

  pub ack_said_tells : (position : ℕ) (fin : Option ℕ) → IsShort position → IfSome fin IsShort → SegmentTells c s (ack_said c s position fin e)
  ack_said_tells position fin at n = plain_tells_two (ack_at position e.tcp) (ack_options c s fin e) [] (omega arith) (inr at) h.edge (λ is. none_is _ is) refl (ack_tells fin n)

  ack_or_none : (opening : Bool) → IfSome (if opening then None else Some e.tcp.recv.edge) IsShort
  ack_or_none = elim [ true ↦ tt | false ↦ h.edge ]

  at_of : (r : Record) → RecordTells c s r → IsShort r.pos
  at_of r t = let reaches = t.reaches in omega (arith, reaches)

  one_at_most : (kind : RecordKind) (n : ℕ) → n + (one_if (is_syn kind) + one_if (is_fin kind)) ≤ n + 1
  one_at_most = elim [ Syn ↦ λ n. omega arith | Data ↦ λ n. omega arith | Fin ↦ λ n. omega arith ]

  record_reaches : (r : Record) → RecordTells c s r → IsShort (r.pos + occupied (copy_of (meant (record_said c s r e))))
  record_reaches r t = let reaches = t.reaches in let most = one_at_most r.kind (r.pos + length r.piece) in omega (arith, reaches, most)

  pub record_said_tells : IfSome e.modes.own_infinite PairTells → (o : Option Record) → IfSome o (RecordTells c s) → SegmentTells c s (record_or_ack c s o e)
  record_said_tells own None t = ack_said_tells e.tcp.send.nxt None h.sender.next tt
  record_said_tells own (Some r) t =
      segment_tells (record_segment e.tcp r) (record_options r.kind c s r e) r.piece t.octets (inr (at_of r t)) (ack_or_none (is_opening e.tcp.state)) (λ is. record_reaches r t)
      (record_options_tell own r.kind r (at_of r t) t.mapped)

  -- a DSS and MP_FASTCLOSE behind it
  pub carried_tells : (o : Option ℕ) → IfSome o IsKey → SegmentTells c s (carried_said c s o e)
  carried_tells None key = ack_said_tells e.tcp.send.nxt None h.sender.next tt
  carried_tells (Some key) is = record {
    sayable = carried_can c s e path h.window.window (Some key);
    position = inr h.sender.next;
    acknowledged = h.edge;
    reaches = λ none. none_is _ none;
    syn = refl;
    mss = tt;
    options =
        All-cons (OptionTells c s) (Dss (Some e.receiving.next) None) (FastClose key ∷ []) (end_tells None tt).tells
        (All-cons (OptionTells c s) (FastClose key) [] (record { fits = is; short = tt }) (All-nil (OptionTells c s)));
  }

  note_tells : (notice : OwnNotice) → NoteTells notice → OptionTells c s (notice_option notice e.modes)
  note_tells (OwnNotice.AddAddr id) is = record {
    fits = (
      is,
      (
        All-cons (λ (n : ℕ). n < 256) 10 (0 ∷ id ∷ 2 ∷ []) (omega arith) (All-cons (λ (n : ℕ). n < 256) 0 (id ∷ 2 ∷ []) (omega arith)
            (All-cons (λ (n : ℕ). n < 256) id (2 ∷ []) is (All-cons (λ (n : ℕ). n < 256) 2 [] (omega arith) (All-nil (λ (n : ℕ). n < 256))))),
        refl,
      ),
      tt,
      add_addr64_of_below e.modes.own_key (peer_key_of e.modes) id (path_address id) 0,
    );
    short = tt;
  }
  note_tells (OwnNotice.AddEcho id address port) is = record { fits = (is.0, is.1, is.2, tt); short = tt }
  note_tells (OwnNotice.Removes id) is = record { fits = All-cons (λ (n : ℕ). n < 256) id [] is (All-nil (λ (n : ℕ). n < 256)); short = tt }
  note_tells (OwnNotice.Prio backup) is = record { fits = tt; short = tt }

  -- a DSS and a notice behind it
  pub noted_tells : (o : Option OwnNotice) → IfSome o NoteTells → SegmentTells c s (noted_said c s o e)
  noted_tells None told = ack_said_tells e.tcp.send.nxt None h.sender.next tt
  noted_tells (Some notice) told = record {
    sayable = noted_can c s e path h.window.window (Some notice) (has_address notice told);
    position = inr h.sender.next;
    acknowledged = h.edge;
    reaches = λ none. none_is _ none;
    syn = refl;
    mss = tt;
    options =
        All-cons (OptionTells c s) (Dss (Some e.receiving.next) None) (notice_option notice e.modes ∷ []) (end_tells None tt).tells
        (All-cons (OptionTells c s) (notice_option notice e.modes) [] (note_tells notice told) (All-nil (OptionTells c s)));
  }

  pub syn_ack_tells : SegmentTells c s (syn_ack_said c s e)
  syn_ack_tells = segment_tells (syn_ack_segment e.tcp) (syn_options c s e) [] (omega arith) (inr (omega arith)) h.edge (λ is. none_is _ is) (syn_tells s)

  pub fin_said_tells : IfSome e.modes.own_infinite PairTells → IsShort (fin_position e.tcp.send) → SegmentTells c s (fin_said c e)
  fin_said_tells own at =
      segment_tells (fin_segment e.tcp) (fin_options (fin_position e.tcp.send) e) [] (omega arith) (inr at) h.edge (λ is. none_is _ is) (fin_tells own (fin_position e.tcp.send) at)

  reset_options_tell : (o : Option ℕ) → IfSome o (λ n. n < 256) → One (reset_options o)
  reset_options_tell None low = tt
  reset_options_tell (Some reason) low = record { can = record { form = tt }; few = reset_length false reason; tells = record { fits = low; short = tt } }

  broken_options_tell : (failed : Option ℕ) → IfSome failed IsShort → (o : Option ℕ) → IfSome o (λ n. n < 256) → TwoSay c s (broken_options failed o)
  broken_options_tell failed short None low = tt
  broken_options_tell None short (Some reason) low = reset_options_tell (Some reason) low
  broken_options_tell (Some place) short (Some reason) low =
      (says_little c s (Fail place) (fail_tells place short), record { can = record { form = tt }; little = reset_little false reason; tells = record { fits = low; short = tt } })

  none_more : (n : ℕ) → IsShort n → IsShort (n + (0 + (0 + 0)))
  none_more n short = omega (arith, short)

  pub reset_tells : (reason : Option ℕ) → IfSome reason (λ n. n < 256) → SegmentTells c s (reset_said c reason e)
  reset_tells reason low = elim e.modes.identity as (λ b. SegmentTells c s (segment_of c (own_reset e) (if b then [] else broken_options e.treated.failed_mapping reason) [] e))
      [ true ↦ said [] tt | false ↦ said (broken_options e.treated.failed_mapping reason) (broken_options_tell e.treated.failed_mapping h.treated.failed_mapping reason low) ]
    where
      at : (unsent : Bool) → IsShort (if unsent then 0 else e.tcp.send.nxt)
      at = elim [ true ↦ omega arith | false ↦ h.sender.next ]

      said : (options : List PlainOption) → TwoSay c s options → SegmentTells c s (segment_of c (own_reset e) options [] e)
      said options two = plain_tells_two (own_reset e) options [] (omega arith) (inr (at (is_syn_unsent e))) tt (λ is. none_more _ (at (is_syn_unsent e))) refl two

  answer_tells : (o : Outgoing) (reason : Option ℕ) → IfSome reason (λ n. n < 256) → AnswerTells o → SegmentTells c s (segment_of c o (reset_options reason) [] e)
  answer_tells o reason low a = segment_tells o (reset_options reason) [] (omega arith) (stands o.acknowledged refl) a.acknowledged reaches (reset_options_tell reason low)
    where
      stands : (ack : Option ℕ) → o.acknowledged ≡ ack → IsStray o.rst o.acknowledged o.position ⊎ IsShort o.position
      stands None is = inr (a.reaches is)
      stands (Some n) is = inl (record { reset = a.rst; acknowledging = rw is refl; low = a.low })

      reaches : o.acknowledged ≡ None → IsShort (o.position + occupied (copy_of (meant (segment_of c o (reset_options reason) [] e))))
      reaches is =
          let short = a.reaches is in
          let syn : one_if o.syn ≡ 0 = ap one_if a.syn in
          let fin : one_if o.fin ≡ 0 = ap one_if a.fin in
          omega (arith, short, syn, fin)

  answered_tells : (reason : Option ℕ) → IfSome reason (λ n. n < 256) → SegmentTells c s (segment_of c (outgoing_or e.treated.answer (reset_segment e.tcp)) (reset_options reason) [] e)
  answered_tells reason low = (elim e.treated.answer as (λ o. IfSome o AnswerTells → SegmentTells c s (segment_of c (outgoing_or o (reset_segment e.tcp)) (reset_options reason) [] e)) [
    | None ↦ λ a. answer_tells (reset_segment e.tcp) reason low (record { rst = refl; low = let next = h.sender.next in omega (arith, next); acknowledged = tt; reaches = λ is. h.sender.next; syn = refl; fin = refl })
    | Some o ↦ λ a. answer_tells o reason low a
  ]) h.treated.answer

  -- the answer of a dead end, and a refusal
  pub dead_answer_tells : SegmentTells c s (segment_of c (outgoing_or e.treated.answer (reset_segment e.tcp)) [] [] e)
  dead_answer_tells = answered_tells None tt

  pub refusal_tells : SegmentTells c s (segment_of c (outgoing_or e.treated.answer (reset_segment e.tcp)) (reset_options (Some 1)) [] e)
  refusal_tells = answered_tells (Some 1) (omega arith)
