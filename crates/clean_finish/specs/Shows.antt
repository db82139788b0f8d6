-- How the two lanes of a connection over one clean path show in its path and books: what the lemmas of the duties keep.
-- `out` is the sending end of the lane on which an end sends, and `back` the receiving end of the one on which it receives.
use Rattle.std.specs.Prelude.{ℕ, zero, suc, ◌≡◌, ◌+◌, ◌-◌, ◌<◌, ◌≤◌, ◌⊎◌, min, Bool, true, false, not, ◌||◌, nat_lt, if◌then◌else◌, Option, Some, None, IfSome, List, [], ◌∷◌, ◌++◌, length, map, All}
use Rattle.sides.specs.declared.side.Side.{Side}
use Rattle.sides.specs.declared.side.Side.TheVariants.{A, B}
use Rattle.sides.specs.Side.{peer}
use Rattle.link_model.specs.declared.flight.Flight.{Flight}
use Rattle.control_book.specs.declared.registry.PathState.{PathState as RegistryPath}
use Rattle.address_manager.specs.IdSet.{lowest}
use Rattle.control_book.specs.Control.{Control, withdrawals_on}
use Rattle.control_book.specs.Registry.{opening_paths}
use Rattle.fallback_state.specs.declared.fall.Mode.{Mode}
use Rattle.fallback_state.specs.declared.fall.Mode.TheVariants.{Starting, Sure}
use Rattle.send_book.specs.declared.mark.ByteMark.{ByteMark}
use Rattle.send_book.specs.Marks.{is_free_for}
use Rattle.send_book.specs.State.{Sending as SendBook}
use Rattle.path_segments.specs.Laws.{window_told}
use Rattle.std.specs.FinMap.{get as place_of}
use Rattle.dss_mapping.specs.Mappings.{Mappings}
use Rattle.subflow_send.specs.declared.record.RecordKind.TheVariants.{Data}
use Rattle.subflow_send.specs.Records.{Record, Tile, span_of}
use Rattle.subflow_send.specs.Rules.{is_unsent, syn_record}
use Rattle.subflow_send.specs.Sendings.{never_sent}
use Rattle.subflow_tcp.specs.declared.handshake.State.{State}
use Rattle.subflow_tcp.specs.declared.handshake.State.TheVariants.{Listen, SynSent, SynReceived}
use Rattle.subflow_tcp.specs.Dues.{nothing_due}
use Rattle.subflow_tcp.specs.Sizes.{room}
use Rattle.subflow_tcp.specs.State.{EndState}
use Rattle.subflow_tcp.specs.States.{may_finish, is_closed_to_segments, is_half_open, is_opening}
use Rattle.subflow_tcp.specs.Segments.{one_if}
use Rattle.actor_desk.specs.Words.{pick, tail_of}
use Rattle.path_store.specs.declared.granted_piece.GrantedPiece.{GrantedPiece}
use Rattle.path_store.specs.declared.mapped_data_fin.MappedDataFin.{MappedDataFin}
use Rattle.path_core.specs.declared.modes.Modes.{Modes}
use Rattle.path_core.specs.End.{PathEnd}
use Rattle.path_core.specs.Sending.{Sending}
use Rattle.path_core.specs.Notices.{Notices}
use Rattle.path_store.specs.Receiving.{Receiving}
use Rattle.path_core.specs.Standing.{is_connected}
use Rattle.path_core.specs.Profile.{Profile}
use Rattle.path_core.specs.Values.{Carried}
use Rattle.pace.specs.Lane.{Setting, Telling, Copy, Sender, Receiver}
use Rattle.pace.specs.Rules.{repeats, next_row}
use Rattle.clean_finish.specs.Machine.{IsLong, IsPiece, seen_timer}
use Rattle.clean_finish.specs.Reading.{end_known}
use Rattle.clean_finish.specs.Segments.{Sent, Keys, copy_in, dss_from, FlyAs, Follow, Rise, edge_after, low_after, control_after, keys_after}

-- ---- what is in hand

-- The segment that an end treats: its calls have still to take what it brings, and what it acknowledges, or not.
pub record Hand : Type 0 where
  pub sent : Sent
  pub brings : Bool
  pub tells : Bool

-- the segment as long as it stands in the lane of what it brings, or in that of what it acknowledges
abbrev pub sent_if : Bool → Sent → List Sent
sent_if true x = x ∷ []
sent_if false x = []

abbrev pub brings_in : Option Hand → List Sent
brings_in None = []
brings_in (Some h) = sent_if h.brings h.sent

abbrev pub tells_in : Option Hand → List Sent
tells_in None = []
tells_in (Some h) = sent_if h.tells h.sent

-- what the last segment told that arrived
abbrev pub last_told : Telling → Option Hand → Telling
last_told t None = t
last_told t (Some h) = if h.tells then h.sent.telling else t

-- the lane has still to take what the segment in hand brings
abbrev pub brings_still : Option Hand → Bool
brings_still None = false
brings_still (Some h) = h.brings

-- duplicates in a row as the lane counts them, with the segment in hand
abbrev pub row_seen : Sender → Option Hand → ℕ
row_seen out None = out.row
row_seen out (Some h) = if h.tells then next_row (repeats out.heard (copy_in h.sent)) out.row else out.row

-- ---- the subflow of an end

-- both SYNs are acknowledged, and the FIN is sent or not
pub record IsOpen (finished : Bool) (state : State) : Type 0 where
  pub finish : may_finish state ≡ not finished
  pub closed : is_closed_to_segments state ≡ false
  pub half : is_half_open state ≡ false
  pub opening : is_opening state ≡ false
  pub connected : is_connected state ≡ true

-- the phase of an end: A's SYN isn't answered, B heard none, B's isn't acknowledged, or both are
pub data IsPhase (s : Side) (came una : ℕ) (finished : Bool) (state : State) : Type 0 where
  Opening : s ≡ A → came ≡ 0 → una ≡ 0 → state ≡ SynSent → IsPhase s came una finished state
  Listening : s ≡ B → came ≡ 0 → una ≡ 0 → state ≡ Listen → IsPhase s came una finished state
  HalfOpen : s ≡ B → came ≡ 1 → una ≡ 0 → state ≡ SynReceived → IsPhase s came una finished state
  Open : 1 ≤ came → 1 ≤ una → IsOpen finished state → IsPhase s came una finished state

-- What waits to be sent: the SYN, nothing, or the bytes of a grant.
pub data Waits (k : Setting) (out : Sender) : List Record → ℕ → Type 0 where
  WaitsSyn : out.control_sent ≡ 0 → Waits k out (syn_record never_sent ∷ []) 0
  WaitsNone : 1 ≤ out.control_sent → Waits k out [] 0
  WaitsBytes : out.control_sent ≡ 1 → (r : Record) → r.kind ≡ Data → r.pos ≡ out.granted + 1 → is_unsent r ≡ true
      → 1 ≤ length r.piece → length r.piece ≤ k.payload → out.granted + length r.piece ≤ out.edge → Waits k out (r ∷ []) (length r.piece)

-- Records: those that were sent, and what waits.
pub record RecordsAre (k : Setting) (out : Sender) (waiting : ℕ) (tcp : EndState) : Type 0 where
  pub sent : List Record
  pub rest : List Record
  pub all : tcp.send.records ≡ sent ++ rest
  pub gone : All (λ r. is_unsent r ≡ false) sent
  pub waits : Waits k out rest waiting
  pub pieces : All (IsPiece k.payload) tcp.send.records
  pub tile : Tile tcp.send.una tcp.send.nxt (map span_of tcp.send.records)
  pub next : tcp.send.nxt ≡ 1 + out.granted + waiting + (out.control_sent - 1)
  pub finished : tcp.send.finished ≡ nat_lt 1 out.control_sent
  pub control : out.control_sent ≤ 2
  -- there is room for what was granted
  pub fits : waiting ≤ room tcp

-- how far the acknowledgements of the subflow are ahead of what the lane heard
pub record IsAhead (k : Setting) (out : Sender) (tcp : EndState) : Type 0 where
  pub bytes : min out.acked k.total ≤ tcp.send.una - 1
  pub opened : min 1 out.control_acked ≤ tcp.send.una
  pub finished : out.control_acked ≡ 2 → tcp.send.una ≡ tcp.send.nxt
  -- the lane heard of SYN and FIN what the last segment told
  pub seen : out.heard.seen ≤ out.control_acked

-- the congestion window is that of the lane or larger, and the row of duplicates that of the lane or shorter
pub record CongestionIs (k : Setting) (out : Sender) (hand : Option Hand) (tcp : EndState) : Type 0 where
  pub window : k.payload + out.window ≤ tcp.congestion.reno.window
  pub most : tcp.congestion.reno.window ≤ 1048576
  pub steady : tcp.congestion.reno.in_fast_recovery ≡ false
  pub row : tcp.congestion.duplicates ≤ row_seen out hand

-- What has come: SYN, bytes in order, FIN. The payload in hand is held at the edge, or kept there.
pub record HasCome (back : Receiver) (tcp : EndState) : Type 0 where
  pub edge : tcp.recv.edge ≡ 1 + back.received + (back.control_came - 1)
  pub window : tcp.recv.window ≡ 1048576

-- the subflow between two arrivals: nothing is held, and no FIN is known but one that was passed
pub record IsIdle (back : Receiver) (tcp : EndState) : Type 0 where
  pub places : tcp.recv.places ≡ []
  pub incoming : tcp.recv.incoming ≡ None
  pub fin : tcp.fin_at ≡ (if nat_lt 1 back.control_came then Some (back.received + 1) else None)

-- No mapping is known of a position from the receive edge on, and no DATA_FIN waits behind bytes.
pub record NoneMapped (edge : ℕ) (v : Mappings) (fin : Option MappedDataFin) : Type 0 where
  pub live : v.live ≡ []
  pub tail : v.tail ≡ None
  pub beyond : (p : ℕ) → edge ≤ p → place_of v.places p ≡ None
  pub no_fin : fin ≡ None
  pub forgotten : v.forgotten ≤ edge

-- What the last segment that arrived told of the own stream, as far as it is compared with the next one, and the position
-- that it acknowledged.
pub record HeardIs (s : Side) (total : ℕ) (t : Telling) (tcp : EndState) : Type 0 where
  pub told : IfSome tcp.congestion.told.place
      (λ n. (t.next ≡ n) × (t.edge ≡ n + tcp.congestion.told.window) × (1 ≤ t.seen) × (t.dss ≡ dss_from (peer s)))
  pub most : tcp.send.una ≤ 1 + total + (t.seen - 1)
  pub end : t.seen ≡ 2 → total + 2 ≤ tcp.send.una
  pub few : t.seen ≤ 2
  pub some : 1 ≤ tcp.send.una → 1 ≤ t.seen

-- all of this, of the subflow of an end
pub record SubflowIs (s : Side) (k : Setting) (out : Sender) (back : Receiver) (hand : Option Hand) (owes : Bool) (waiting : ℕ) (tcp : EndState) : Type 0 where
  pub phase : IsPhase s back.control_came tcp.send.una tcp.send.finished tcp.state
  pub opens : tcp.numbers.opens ≡ pick s true false
  pub records : RecordsAre k out waiting tcp
  pub ahead : IsAhead k out tcp
  pub congestion : CongestionIs k out hand tcp
  pub come : HasCome back tcp
  pub heard : HeardIs s k.total (last_told out.heard hand) tcp
  -- before both SYNs are acknowledged nothing has come, and nothing may be sent
  pub quiet : is_connected tcp.state ≡ false → (back.received ≡ 0) × (out.ready ≡ 0) × (back.data_fin_came ≡ 0) × (back.keys_came ≡ 0)
  -- B's SYN goes out after A's came
  pub begun : s ≡ B → min 1 out.control_sent ≤ back.control_came
  -- at B the keys come with what acknowledges its SYN
  pub keyed : s ≡ B → 1 ≤ tcp.send.una → brings_still hand ≡ false → 1 ≤ back.keys_came
  pub long : IsLong tcp.timing
  pub due : tcp.due ≡ record nothing_due { ack = owes }

-- ---- the streams at an end

-- a span of bytes that were granted, and aren't all acknowledged
pub record IsGranted (out : Sender) (waiting : ℕ) (span : GrantedPiece) : Type 0 where
  pub waits : out.acked < span.to
  pub within : span.to ≤ out.granted + waiting

-- the spans of what isn't acknowledged, one behind the other
abbrev pub AreSpans : ℕ → ℕ → List GrantedPiece → Type 0
AreSpans from to [] = to ≤ from
AreSpans from to (span ∷ spans) = (span.from ≤ from) × AreSpans span.to to spans

-- what an end knows of its own stream is what the lane on which it sends counts
pub record SendingIs (k : Setting) (out : Sender) (back : Receiver) (waiting : ℕ) (v : Sending) : Type 0 where
  pub heard : v.heard ≡ out.acked
  pub known : v.known_end ≡ end_known out.known k.total
  pub data_fin : out.data_fin_sent ≡ one_if v.fin_sent
  pub acked : v.close.own_acked ≡ nat_lt k.total out.acked
  pub came : back.data_fin_came ≡ one_if v.close.peer_came
  -- the grant of bytes that wait opened it again
  pub shut : (waiting ≡ 0 → v.shut ≡ out.shut) × (1 ≤ waiting → v.shut ≡ false)
  pub granted : All (IsGranted out waiting) v.granted
  pub spans : AreSpans out.acked (out.granted + waiting) v.granted
  -- bytes go where they may, the DATA_FIN where there is a DSS, the FIN once that was acknowledged
  pub bytes : 1 ≤ out.granted + waiting → 1 ≤ out.ready
  pub end : out.data_fin_sent ≤ out.clear
  pub acked_end : k.total < out.acked → 1 ≤ out.data_fin_sent
  pub finish : 2 ≤ out.control_sent → k.total < out.acked

-- What the last segment told: the lane's edge; or at A, until it acknowledges the first bytes, more than the SYN could tell.
pub data IsToldEdge (s : Side) (j : Setting) (owes : Bool) (back : Receiver) (edge : ℕ) : Type 0 where
  Same : back.told.edge ≡ edge → IsToldEdge s j owes back edge
  Before : s ≡ A → (back.received ≡ 0) ⊎ (owes ≡ true) → back.told.edge ≡ j.least → j.buffer ≤ edge + 31 → IsToldEdge s j owes back edge

-- what an end knows of the peer's stream is what the lane on which it receives counts
pub record ReceivingIs (s : Side) (j : Setting) (out : Sender) (owes : Bool) (back : Receiver) (v : Receiving) : Type 0 where
  pub next : v.next ≡ back.next
  pub limit : back.limit ≡ v.next + window_told false v.window
  pub told : IsToldEdge s j owes back v.told_edge
  pub least : 1 ≤ out.control_sent → j.least ≤ back.told.edge + 31
  pub unmapped : v.unmapped ≡ 0
  pub fin_told : v.fin_told ≡ false
  -- a DATA_FIN that it said is one that it sent
  pub said : back.said ≤ out.data_fin_sent
  -- until A heard a DSS no bytes and no FIN came, and what it showed its keys with told all of its buffer
  pub unended : s ≡ A → out.clear ≡ 0 → back.control_came ≤ 1
  pub unheard : s ≡ A → out.clear ≡ 0 → (back.received ≡ 0) × (back.data_fin_came ≡ 0) × (1 ≤ out.keys_sent → j.buffer ≤ v.told_edge + 31)

-- ---- how an end stands to Multipath TCP

-- neither fallen back nor stopped: Multipath TCP is settled, or isn't yet
pub data IsPlainMode (mode : Mode) : Type 0 where
  Starts : mode ≡ Starting → IsPlainMode mode
  IsSure : mode ≡ Sure → IsPlainMode mode

-- No fallback: mappings count both ways, and no check failed.
abbrev pub IsMapping : Modes → Type 0
IsMapping m = (m.identity ≡ false) × (m.own_infinite ≡ None) × (m.peer_infinite ≡ None) × (m.failed_mapping ≡ None)

-- A side has the peer's key from one moment on, and both may be used: A has B's by the SYN/ACK, B A's as A shows it.
-- B may use the DSS from then on, and A once it heard one.
pub record ModesAre (s : Side) (keys : Keys) (out : Sender) (back : Receiver) (m : Modes) : Type 0 where
  pub mode : IsPlainMode m.mode
  pub standby : m.standby ≡ false
  pub mapping : IsMapping m
  pub owes_third : m.owes_third ≡ false
  pub owes_mapping : m.owes_mapping ≡ false
  pub mapped_to : m.mapped_to ≡ None
  pub plain_acks : m.plain_acks ≡ 0
  pub own_key : m.own_key ≡ pick s keys.a keys.b
  pub peer_key : m.peer_key ≡ (if nat_lt 0 out.ready then Some (pick s keys.b keys.a) else None)
  pub clear : out.clear ≡ one_if m.clear
  pub capable : s ≡ B → 1 ≤ back.control_came → m.capable_asked ≡ true
  pub ready : out.ready ≤ min 1 back.control_came
  pub cleared : out.clear ≤ out.ready
  pub both : s ≡ B → (out.ready ≡ out.clear) × (back.keys_came ≤ out.ready)
  -- the keys are shown by A alone
  pub shown : out.keys_sent ≤ pick s out.ready 0

-- the end has no address to note, neither sends a fast close nor was told to be reset
pub record NoticesAre (n : Notices) : Type 0 where
  pub queue : n.queue ≡ []
  pub reset : n.reset ≡ false
  pub carrier : n.carrier ≡ None
  pub fast_closed : n.fast_closed ≡ false

-- ---- an end, and the books of its side

-- all of this, and the timer as the lane sees it
pub record EndIs (s : Side) (keys : Keys) (k j : Setting) (out : Sender) (back : Receiver) (hand : Option Hand) (owes : Bool) (waiting : ℕ)
    (e : PathEnd) : Type 0 where
  pub subflow : SubflowIs s k out back hand owes waiting e.tcp
  pub sending : SendingIs k out back waiting e.sending
  pub receiving : ReceivingIs s j out owes back e.receiving
  pub modes : ModesAre s keys out back e.modes
  pub timer : out.timer ≡ seen_timer (e.tcp.timing.news || e.sending.news) e.tcp.timing.timer
  pub notices : NoticesAre e.notices

-- path 0 may take the byte
abbrev pub IsFree : ByteMark → Type 0
IsFree m = is_free_for 0 m ≡ true

-- The path took so many bytes, and behind them all are free.
abbrev pub AreTaken : ℕ → List ByteMark → Type 0
AreTaken zero marks = All IsFree marks
AreTaken (suc n) [] = ⊥
AreTaken (suc n) (m ∷ marks) = (is_free_for 0 m ≡ false) × AreTaken n marks

-- the book of a stream that goes on one path, which took what was granted
pub record BookIs (out : Sender) (waiting : ℕ) (b : SendBook) : Type 0 where
  pub edge : b.edge ≡ out.edge
  pub owner : b.owner ≡ None
  pub marks : length b.marks ≡ length b.written
  pub taken : AreTaken (out.granted + waiting) b.marks

-- one path is there, and nothing but Multipath TCP is known
pub record ControlIs (s : Side) (keys : Keys) (b : Control) : Type 0 where
  pub mode : IsPlainMode b.fall.mode
  pub joined : b.fall.joined ≡ false
  pub own_key : b.keys.own ≡ pick s keys.a keys.b
  pub first : RegistryPath
  pub alone : b.paths ≡ first ∷ tail_of opening_paths
  -- nothing stops it
  pub carrier : b.notices.carrier ≡ None
  pub stays : first.removed ≡ false
  -- no address is to be announced or taken back
  pub announces : lowest b.addresses.due ≡ None
  pub withdraws : lowest (withdrawals_on b.notices.withdrawals 0) ≡ None

-- ---- the way from one side

-- What is in hand at the other end and what is under way are the copies of both lanes. They follow what came, and the last
-- of them is the last that was sent. They acknowledge from `una` on, up to the position that the sender hasn't passed.
pub record WayIs (c : Profile) (keys : Keys) (j k : Setting) (from : Side) (out : Sender) (other : Receiver) (datas acks : List Copy) (hand : Option Hand)
    (una edge : ℕ) (flying : List (Flight Carried)) : Type 0 where
  pub sent : List Sent
  pub flights : FlyAs c keys from flying sent
  pub datas_are : datas ≡ map copy_in (brings_in hand ++ sent)
  pub acks_are : acks ≡ map copy_in (tells_in hand ++ sent)
  pub follow : Follow j.least j.total k.total from other.received other.control_came other.keys_came (brings_in hand ++ sent)
  pub low : low_after other.received (brings_in hand ++ sent) ≡ out.granted
  pub control : control_after other.control_came (brings_in hand ++ sent) ≡ out.control_sent
  pub keys_shown : keys_after other.keys_came (brings_in hand ++ sent) ≡ out.keys_sent
  pub rise : Rise una sent
  pub passed : edge_after una sent ≤ edge
