-- What the ends of a path and the copies on its link have to do with the two lanes that the path is shown as. Positions of a
-- path count its SYN, those of a lane its bytes alone.
--
-- A lane keeps all that was ever sent, so a witness for each copy that may be sent is put there as soon as it may be,
-- whether it is sent or not: acknowledgements at the reply to AckOut, the piece at its grant, the end at the refusal
-- that told it. So a segment shows its lane at any time, and no fact on the agenda is needed (`proofs/Lanes/Showing`,
-- `Doing`).
use Rattle.world_laws.proofs.Words.{◌≡◌, ℕ, suc, ◌+◌, ◌-◌, ◌≤◌, ◌⊎◌, Bool, true, false, Option, Some, None, List, [], length, take, drop, is_some, slice_get}
use Rattle.world_laws.proofs.Words.{IfSome, Side, A, B, ScriptLine, dss_checksum, with_turned_bit, CapableKeys, WithData, KeptMapping, Receiving, Record}
use Rattle.world_laws.proofs.Words.{SendState, RecordKind, Syn, Data, Fin, EndPhase, is_altered, PlainOption, PlainSegment, Capable, Dss, Fail, window_told}
use Rattle.world_laws.proofs.Words.{PathMapping, Bytes, Infinite, InfiniteMapping, GrantedPiece, Heard, PathEnd, PathState, Carried, join_asked, checksum_heard}
use Rattle.world_laws.proofs.Words.{bare_mapping, place_numbered, Profile, Modes, Treated, Every, HasPlace, Cell, Mapping, Pair, DataCopy, AckCopy, Lane}
use Rattle.world_laws.proofs.Words.{bytes_of}
use Rattle.path_segments.specs.declared.segment.PathMapping.TheVariants.{End}
use Rattle.subflow_recv.specs.Receiving.{by_place, merged}
use Rattle.stream_lanes.specs.Words.{Has}
use Rattle.dss_mapping.specs.Mappings.{octets_of}
use Rattle.path_store.specs.declared.mapped_data_fin.MappedDataFin.{MappedDataFin}
use Rattle.world_laws.proofs.Lanes.SentRecords.{SentShows}

-- ---- what was ever sent on a lane

-- an acknowledgement with this place and this window
pub record IsAckOf (next window : ℕ) (a : AckCopy) : Type 0 where
  pub next_is : a.next ≡ next
  pub window_is : a.window ≡ window

abbrev pub HasAck : List AckCopy → ℕ → ℕ → Type 0
HasAck acks next window = Has (IsAckOf next window) acks

-- one whose subflow wants this position next, which counts no SYN
pub record IsSubOf (sub window : ℕ) (a : AckCopy) : Type 0 where
  pub sub_is : a.sub ≡ sub
  pub window_is : a.window ≡ window

abbrev pub HasSub : List AckCopy → ℕ → ℕ → Type 0
HasSub acks sub window = Has (IsSubOf sub window) acks

-- one of nothing, with this window
pub record IsNoneOf (window : ℕ) (a : AckCopy) : Type 0 where
  pub next_is : a.next ≡ 0
  pub sub_is : a.sub ≡ 0
  pub window_is : a.window ≡ window

abbrev pub HasNone : List AckCopy → ℕ → Type 0
HasNone acks window = Has (IsNoneOf window) acks

-- octets from this position of the path on
pub record IsDataOf (position : ℕ) (octets : List ℕ) (d : DataCopy) : Type 0 where
  pub position_is : suc d.pos ≡ position
  pub octets_are : d.bytes ≡ octets

abbrev pub HasData : List DataCopy → ℕ → List ℕ → Type 0
HasData datas position octets = Has (IsDataOf position octets) datas

-- a mapping from this place, this position of the path and this length
pub record IsMappingOf (place position len : ℕ) (m : Mapping) : Type 0 where
  pub place_is : m.place ≡ place
  pub position_is : suc m.pos ≡ position
  pub len_is : m.len ≡ len

pub record IsMappedTo (place position len : ℕ) (d : DataCopy) : Type 0 where
  pub mapping : Mapping
  pub there : d.mapping ≡ Some mapping
  pub is : IsMappingOf place position len mapping

abbrev pub HasMapping : List DataCopy → ℕ → ℕ → ℕ → Type 0
HasMapping datas place position len = Has (IsMappedTo place position len) datas

abbrev pub HasNumber : List ℕ → ℕ → Type 0
HasNumber numbers n = Has (λ m. m ≡ n) numbers

-- a FIN at this position of the path
abbrev pub HasFin : List ℕ → ℕ → Type 0
HasFin fins position = Has (λ m. suc m ≡ position) fins

-- an infinite mapping from this place and this position of the path on
pub record IsPairOf (place position : ℕ) (m : Pair) : Type 0 where
  pub place_is : m.place ≡ place
  pub position_is : suc m.pos ≡ position

abbrev pub HasPair : List Pair → ℕ → ℕ → Type 0
HasPair pairs place position = Has (IsPairOf place position) pairs

-- a pair was sent, or it stands behind the FIN, where nothing is placed by it
abbrev pub PairTold : List Pair → List ℕ → ℕ → ℕ → Type 0
PairTold pairs fins place position = HasPair pairs place position ⊎ HasFin fins (position - 1)

-- the lane goes by the infinite mapping that its sender's end goes by, which may be told, and its link may alter payload
pub record OwnIs (pair : Option Pair) (pairs : List Pair) (fins : List ℕ) (alters : Bool) (mapping : InfiniteMapping) : Type 0 where
  pub item : Pair
  pub there : pair ≡ Some item
  pub place_is : item.place ≡ mapping.place
  pub position_is : (suc item.pos ≡ mapping.position) ⊎ HasFin fins (mapping.position - 1)
  pub told : PairTold pairs fins mapping.place mapping.position
  pub may : alters ≡ true

-- and it took the one that its receiver's end goes by
pub record PeerIs (taken : Option Pair) (mapping : InfiniteMapping) : Type 0 where
  pub item : Pair
  pub there : taken ≡ Some item
  pub is : IsPairOf mapping.place mapping.position item

-- An end goes by the infinite mappings that its lanes go by, also by the own one that the book gave; as long as it isn't in plain TCP it
-- knows where it goes by the peer's; and a check failed only where links may alter payload.
abbrev pub PairsShow : Modes → Option InfiniteMapping → Option ℕ → Lane → Lane → Type 0
PairsShow m own failed out back =
    IfSome m.own_infinite (OwnIs out.pair out.pairs out.fins out.alters)
    × IfSome m.peer_infinite (λ mapping. PeerIs back.taken mapping ⊎ HasFin back.fins (mapping.position - 1))
    × (m.identity ≡ false → is_some m.peer_infinite ≡ true → back.receiver_loose ≡ true)
    × IfSome own (OwnIs out.pair out.pairs out.fins out.alters)
    × IfSome m.failed_mapping (λ _. out.alters ≡ true)
    × IfSome failed (λ _. out.alters ≡ true)

-- ---- checksums

-- where checksums are used, that of a mapping is that of the record's bytes
pub record IsSummed (c : Profile) (s : Side) (sent : List Cell) (place position len checksum : ℕ) : Type 0 where
  pub within : (position - 1) + len ≤ length sent
  pub right : c.spelling.checksums ≡ true → checksum ≡ dss_checksum (bare_mapping c s place position len) (take len (drop (position - 1) (bytes_of sent)))

-- a mapping that was heard has the checksum of what was sent
pub record KeptSummed (c : Profile) (sent : List Cell) (kept : KeptMapping) : Type 0 where
  pub within : (kept.pos - 1) + octets_of kept ≤ length sent
  pub right : c.spelling.checksums ≡ true → dss_checksum kept.mapping (take (octets_of kept) (drop (kept.pos - 1) (bytes_of sent))) ≡ kept.mapping.checksum

-- ---- the sending half of an end

-- a record that may be sent again
pub record IsPiece (c : Profile) (s : Side) (alters : Bool) (sent : List Cell) (datas : List DataCopy) (r : Record) : Type 0 where
  pub octets : HasData datas r.pos r.piece
  pub turned : alters ≡ true → HasData datas r.pos (with_turned_bit r.piece)
  pub mapping : HasMapping datas (place_numbered c s r.mapping.number) r.pos r.mapping.length
  pub summed : IsSummed c s sent (place_numbered c s r.mapping.number) r.pos r.mapping.length r.mapping.checksum

abbrev pub KindShows : Profile → Side → Bool → List Cell → List DataCopy → List ℕ → RecordKind → Record → Type 0
KindShows c s alters sent datas fins Syn r = r.piece ≡ []
KindShows c s alters sent datas fins Data r = IsPiece c s alters sent datas r
KindShows c s alters sent datas fins Fin r = (r.piece ≡ []) × HasFin fins r.pos

abbrev pub RecordShows : Profile → Side → Bool → List Cell → List DataCopy → List ℕ → Record → Type 0
RecordShows c s alters sent datas fins r = KindShows c s alters sent datas fins r.kind r

-- no FIN was sent, and the end isn't dead
abbrev pub is_unfinished : EndPhase → Bool
is_unfinished EndPhase.Waiting = true
is_unfinished EndPhase.Listen = true
is_unfinished EndPhase.SynSent = true
is_unfinished EndPhase.SynReceived = true
is_unfinished EndPhase.Established = true
is_unfinished EndPhase.CloseWait = true
is_unfinished _ = false

-- the lane was granted the last place of a piece
pub record IsGrantedTo (sent : List Cell) (piece : GrantedPiece) : Type 0 where
  pub last : ℕ
  pub last_is : suc last ≡ piece.to
  pub has : HasPlace sent last

-- what the end knows of the stream that it sends, and whether it is in plain TCP
pub record Knowledge : Type 0 where
  pub known_end : Option ℕ
  pub acked : Bool
  pub heard : ℕ
  -- the pieces that were granted to it and aren't acknowledged
  pub granted : List GrantedPiece
  pub identity : Bool

abbrev pub identity_of : PathEnd → Bool
identity_of e = e.modes.identity

abbrev pub knowledge_of : PathEnd → Knowledge
knowledge_of e = record {
  known_end = e.sending.known_end;
  acked = e.sending.close.own_acked;
  heard = e.sending.heard;
  granted = e.sending.granted;
  identity = identity_of e;
}

pub record SenderShows (c : Profile) (s : Side) (state : EndPhase) (v : SendState) (k : Knowledge) (p : Lane) : Type 0 where
  pub plain : p.sender_plain ≡ k.identity
  -- the next position is that after the bytes that were granted
  pub next : is_unfinished state ≡ true → v.nxt ≡ suc (length p.sent)
  pub unfinished : is_unfinished state ≡ true → v.finished ≡ false
  pub pieces : Every (RecordShows c s p.alters p.sent p.datas p.fins) v.records
  pub known_end : IfSome k.known_end (HasNumber p.data_fins)
  pub same_end : p.known_end ≡ k.known_end
  pub heard : p.heard ≡ k.heard
  pub granted : Every (IsGrantedTo p.sent) k.granted
  pub fin_acked : k.acked ≡ true → p.fin_acked ≡ true
  pub sent : SentShows v.finished v.nxt k.heard k.granted p.sent p.fins p.pair

-- ---- the receiving half

-- what is kept at a place is kept there on the lane
pub record Under (places kept : List (Option ℕ)) : Type 0 where
  pub each : (i byte : ℕ) → slice_get places i ≡ Some (Some byte) → slice_get kept i ≡ Some (Some byte)

-- a payload that is held and not kept yet: so many octets of a copy
pub record IsHeld (datas : List DataCopy) (edge : ℕ) (places held : List (Option ℕ)) : Type 0 where
  pub position : ℕ
  pub octets : List ℕ
  pub count : ℕ
  pub has : HasData datas position octets
  pub is : held ≡ merged places (drop edge (by_place position (take count octets)))

-- The edge is that of the lane, or behind the FIN, where nothing is kept. What is kept is kept on the lane, and nothing else, unless
-- the end let all of it go.
pub record IsAtEdge (recv : Receiving) (p : Lane) : Type 0 where
  pub edge_is : recv.edge ≡ suc p.edge
  pub under : Under recv.places p.kept
  pub only : Under p.kept recv.places ⊎ (recv.places ≡ [])
  pub held : IfSome recv.incoming (IsHeld p.datas recv.edge recv.places)

pub record IsPastFin (fin_at : Option ℕ) (recv : Receiving) (p : Lane) : Type 0 where
  pub at_is : fin_at ≡ Some (suc p.edge)
  pub none : (i byte : ℕ) → slice_get recv.places i ≡ Some (Some byte) → ⊥
  pub edge_is : recv.edge ≡ suc (suc p.edge)
  pub fin_in : p.fin_in ≡ true

abbrev pub KeptShows : List Mapping → KeptMapping → Type 0
KeptShows maps kept = Has (IsMappingOf kept.place kept.pos (octets_of kept)) maps

-- a mapping that was heard and isn't learned yet
abbrev pub HeldShows : Profile → List Cell → List DataCopy → KeptMapping → Type 0
HeldShows c sent datas kept = HasMapping datas kept.place kept.pos (octets_of kept) × (kept.fin ≡ false) × KeptSummed c sent kept

-- none of them has a DATA_FIN behind its bytes, and none waits for the edge
pub record HoldsShow (c : Profile) (sent : List Cell) (datas : List DataCopy) (held live : List KeptMapping) (mapped_data_fin : Option MappedDataFin) : Type 0 where
  pub each : Every (HeldShows c sent datas) held
  pub summed : Every (KeptSummed c sent) live
  pub none : mapped_data_fin ≡ None

-- the windows that segments tell are those of acknowledgements of the lane, with and without the place
pub record WindowShows (next window : ℕ) (acks : List AckCopy) : Type 0 where
  pub ack : HasAck acks next (window_told false window)
  pub alone : HasNone acks (window_told false window)
  pub syn : HasNone acks (window_told true window)

-- Where nothing was told since the book was asked what is to be acknowledged, the receive edge is acknowledged too.
pub record AcksShow (next window : ℕ) (asked : Bool) (edge : ℕ) (p : Lane) : Type 0 where
  pub windows : WindowShows next window p.acks
  pub latest : p.latest ≡ record { next = next; window = window }
  pub due : asked ≡ false → p.due ≡ false
  pub sub : asked ≡ false → HasSub p.acks (edge - 1) (window_told false window)

pub record ReceiverShows (recv : Receiving) (fin_at : Option ℕ) (live : List KeptMapping) (plain : Bool) (p : Lane) : Type 0 where
  pub same_mode : p.receiver_plain ≡ plain
  pub edge : IsAtEdge recv p ⊎ IsPastFin fin_at recv p
  pub fin : IfSome fin_at (HasFin p.fins)
  pub mapped : Every (KeptShows p.maps) live

-- ---- what was heard

-- a thing that a copy said: acknowledgements were sent on the one lane, the rest on the other
abbrev pub ItemShows : List AckCopy → Lane → Heard → Type 0
ItemShows acks p (Heard.DataAck next window) = HasAck acks next window
ItemShows acks p (Heard.DataFin place) = HasNumber p.data_fins place
ItemShows acks p (Heard.InfiniteMapping place position) = IfSome position (PairTold p.pairs p.fins place)
ItemShows acks p Heard.Fail = p.alters ≡ true
ItemShows acks p _ = Unit {0}

-- what was treated, part by part
pub record TreatedParts (I F A W S N : Type 0) : Type 0 where
  pub items : I
  pub fins : F
  pub answer : A
  -- the window of a SYN that asks to join
  pub window : W
  -- what it acknowledges of the subflow; and nothing may be acknowledged
  pub sub : S
  pub nothing : N

abbrev pub TreatedShows : Treated → List AckCopy → Lane → Type 0
TreatedShows t acks p =
    TreatedParts (Every (ItemShows acks p) t.items) (Every (HasNumber p.data_fins) t.fins) (IfSome t.answer (λ o. (o.fin ≡ false) × (o.rst ≡ true)))
    (IfSome (join_asked t.items) (λ asked. HasNone acks t.window)) (HasSub acks (t.acknowledged - 1) t.window) (HasNone acks 0)

-- ---- an end: `out` carries what its side sends, and `back` what it hears

-- what an end shows, part by part: an end and lanes of which all parts say the same show the same
pub record Parts (S R A T X P H : Type 0) : Type 0 where
  pub sender : S
  pub receiver : R
  pub acks : A
  pub told : T
  pub treated : X
  pub pairs : P
  pub held : H

abbrev pub EndShows : Profile → Side → PathEnd → Lane → Lane → Type 0
EndShows c s e out back =
    Parts (SenderShows c s e.tcp.state e.tcp.send (knowledge_of e) out)
    (ReceiverShows e.tcp.recv e.tcp.fin_at e.receiving.mappings.live (identity_of e) back)
    (AcksShow e.receiving.next e.receiving.window e.treated.asked e.tcp.recv.edge back)
    (HasNone out.acks e.tcp.congestion.told.window)
    (TreatedShows e.treated out.acks back)
    (PairsShow e.modes e.treated.infinite_mapping e.treated.failed_mapping out back)
    (HoldsShow c back.sent back.datas e.receiving.mappings.held e.receiving.mappings.live e.receiving.mapped_data_fin)

-- ---- copies

-- a mapping in an option
abbrev pub MappingShows : Profile → Side → Option (PathMapping ℕ) → Lane → Type 0
MappingShows c s None p = Unit {0}
MappingShows c s (Some (Bytes place position len true checksum)) p = ⊥
MappingShows c s (Some (Bytes place position len false checksum)) p =
    HasMapping p.datas place position len × IsSummed c s p.sent place position len (checksum_heard checksum)
MappingShows c s (Some (End place checksum)) p = HasNumber p.data_fins place
MappingShows c s (Some (Infinite place position)) p = PairTold p.pairs p.fins place position

abbrev pub KeysShow : Profile → Side → CapableKeys → Lane → Type 0
KeysShow c s (WithData sender receiver len checksum) p = HasMapping p.datas 0 1 len × IsSummed c s p.sent 0 1 len (checksum_heard checksum)
KeysShow c s _ p = Unit {0}

abbrev pub OptionShows : Profile → Side → ℕ → List AckCopy → Lane → PlainOption → Type 0
OptionShows c s window acks p (Capable flag_a flag_c keys) = KeysShow c s keys p
OptionShows c s window acks p (Dss next mapping) = IfSome next (λ n. HasAck acks n window) × MappingShows c s mapping p
OptionShows c s window acks p (Fail place) = p.alters ≡ true
OptionShows c s window acks p _ = Unit {0}

-- a segment of a side on the lane whose acknowledgements are those of the other one
pub record SegmentShows (c : Profile) (s : Side) (acks : List AckCopy) (p : Lane) (sg : PlainSegment) : Type 0 where
  pub window : HasNone acks (window_told sg.syn sg.window)
  -- what it acknowledges of the subflow, unless it is a SYN or a reset
  pub sub : sg.syn ≡ false → sg.rst ≡ false → IfSome sg.acknowledged (λ n. HasSub acks (n - 1) (window_told sg.syn sg.window))
  pub options : Every (OptionShows c s (window_told sg.syn sg.window) acks p) sg.options
  pub payload : (sg.payload ≡ []) ⊎ HasData p.datas sg.position sg.payload
  -- and over links that alter payload the same with a bit turned
  pub turned : p.alters ≡ true → (sg.payload ≡ []) ⊎ HasData p.datas sg.position (with_turned_bit sg.payload)
  pub fin : sg.fin ≡ true → (sg.payload ≡ []) × HasFin p.fins sg.position
  pub plain : sg.syn ≡ true → sg.fin ≡ false

abbrev pub FlightShows : Profile → Lane → Lane → Side → PlainSegment → Type 0
FlightShows c ab ba B sg = SegmentShows c A ba.acks ab sg
FlightShows c ab ba A sg = SegmentShows c B ab.acks ba sg

-- ---- the path

-- what a script alters the links of these lanes may alter
pub record MayAlter (lines : List ScriptLine) (to_b to_a : Bool) : Type 0 where
  pub a : (number : ℕ) → is_altered A number lines ≡ true → to_b ≡ true
  pub b : (number : ℕ) → is_altered B number lines ≡ true → to_a ≡ true

pub record PathShows (c : Profile) (p : PathState Carried) (ab ba : Lane) : Type 0 where
  pub profile : p.profile ≡ c
  pub may : MayAlter p.link.lines ab.alters ba.alters
  pub a : EndShows c A p.a ab ba
  pub b : EndShows c B p.b ba ab
  pub copies : Every (λ f. FlightShows c ab ba f.to f.carried.segment) p.link.under_way
