-- The relation that a world of one clean path keeps with the two lanes at every moment of a round: both lanes came by moves
-- from the round's start, and show in the path and the books.
use Rattle.std.specs.Prelude.{ℕ, zero, suc, ◌≡◌, ◌+◌, ◌-◌, ◌*◌, ◌≤◌, ◌⊎◌, min, length, nat_lt, if◌then◌else◌, not, Bool, true, false, ◌||◌, Option, Some, None, List, [], ◌∷◌, map, ◌<◌}
use Rattle.std.specs.FinMap.{get as place_of}
use Rattle.dss_mapping.specs.declared.kept.KeptMapping.{KeptMapping}
use Rattle.dss_mapping.specs.Mappings.{Mappings}
use Rattle.sides.specs.declared.side.Side.{Side}
use Rattle.sides.specs.declared.side.Side.TheVariants.{A, B}
use Rattle.sides.specs.Side.{peer}
use Rattle.link_script.specs.Places.{same_side}
use Rattle.path_segments.specs.Laws.{window_told}
use Rattle.send_book.specs.State.{Sending as SendBook}
use Rattle.subflow_send.specs.Records.{Record}
use Rattle.subflow_tcp.specs.Judging.{is_at}
use Rattle.reassembly_book.specs.State.{Arriving as ArrivingBook, filled}
use Rattle.link_model.specs.declared.flight.Flight.{Flight}
use Rattle.link_model.specs.Laws.{going_to, WereSentBefore}
use Rattle.link_model.specs.Order.{AreInOrder}
use Rattle.link_model.specs.State.{LinkState}
use Rattle.link_model.specs.Steps.{next_number}
use Rattle.control_book.specs.Control.{Control}
use Rattle.actor_desk.specs.Books.{books_in}
use Rattle.actor_desk.specs.Desk.{SixBooks, send_of, reassembly_of, control_of}
use Rattle.actor_desk.specs.Words.{pick, is_nil}
use Rattle.path_agenda.specs.Agenda.{emission, heard_and, payload_came}
use Rattle.path_agenda.specs.declared.heard.Heard.{Heard}
use Rattle.path_agenda.specs.declared.heard.Heard.TheVariants as says
use Rattle.path_agenda.specs.Items.{key_heard}
use Rattle.stream_apps.specs.declared.duty.AppDuty.{AppDuty}
use Rattle.stream_apps.specs.declared.duty.AppDuty.TheVariants.{Write, Close, Read, End}
use Rattle.stream_apps.specs.Apps.{AppState}
use Rattle.path_agenda.specs.declared.duty.Duty.{Duty}
use Rattle.path_agenda.specs.declared.duty.Duty.TheVariants as duties
use Rattle.path_agenda.specs.declared.duty.AskDuty.TheVariants as ask_duties
use Rattle.path_agenda.specs.declared.duty.SendDuty.TheVariants as send_duties
use Rattle.path_agenda.specs.declared.duty.SilentDuty.TheVariants as silent_duties
use Rattle.path_agenda.specs.declared.duty.StepDuty.TheVariants as step_duties
use Rattle.path_core.specs.DssIn.{kept_of}
use Rattle.path_core.specs.Start.{PathStart}
use Rattle.path_core.specs.Emission.{first_unsent}
use Rattle.path_core.specs.End.{PathEnd}
use Rattle.path_store.specs.declared.mapped_data_fin.MappedDataFin.{MappedDataFin}
use Rattle.path_core.specs.DssOut.{mapping_of, bare_mapping, checksum_in}
use Rattle.path_core.specs.Choices.{item_at}
use Rattle.path_core.specs.State.{PathState, end_at}
use Rattle.path_core.specs.Profile.{Profile}
use Rattle.path_core.specs.Values.{Carried, values}
use Rattle.world_laws.specs.Openings.{PathPlan, Start, path_begins, opened_world}
use Rattle.world_laws.specs.Worlds.{Turn, world_run}
use Rattle.world_laws.proofs.Worlds.Casts.{Walker, Cast, world_of}
use Rattle.pace.specs.Lane.{Setting, Lane, Sender, Receiver, Stage, all_left}
use Rattle.pace.specs.Laws.{HasRanges}
use Rattle.pace.specs.Rounds.{Moves}
use Rattle.clean_finish.specs.Books.{ReceiverIs}
use Rattle.clean_finish.specs.Reading.{ReaderShows}
use Rattle.clean_finish.specs.Segments.{Sent, Keys, Brings, is_opening, is_subflow_end, shows_keys, is_third, is_piece, is_news, is_owed, octets_of}
use Rattle.clean_finish.specs.Segments.Brings.{OpensSubflow, ShowsKeys, FirstPiece, Piece, Acknowledges, EndsStream, EndsSubflow}
use Rattle.clean_finish.specs.Shows.{Hand, brings_still, IsIdle, NoneMapped, EndIs, BookIs, ControlIs, WayIs}
use Rattle.clean_finish.specs.Writing.{WriterShows}

-- ---- what is still to be done

-- the duty is among them
abbrev pub Has : Duty → List Duty → Type 0
Has d [] = ⊥
Has d (x ∷ xs) = (d ≡ x) ⊎ Has d xs

-- an answer is owed: the SYN/ACK, or an acknowledgement
abbrev pub Answers : Side → Bool → List Duty → Type 0
Answers r owes ds = Has (duties.Send (send_duties.SynAck r)) ds ⊎ (Has (duties.Send (send_duties.Acknowledge r)) ds × (owes ≡ true))

-- The stage of the lane from s to r says what is still to be done, by these duties: what none of them does is done.
pub record StageIs (s r : Side) (ds : List Duty) (asked owes : Bool) (p : Stage) : Type 0 where
  pub window : (p.window ≡ false) ⊎ Has (duties.Ask (ask_duties.Window r)) ds
  pub update : (p.update ≡ false) ⊎ Has (duties.Send (send_duties.Update r)) ds
  pub emit : (p.emit ≡ false) ⊎ Has (duties.Step (step_duties.Data s)) ds
  pub finish : (p.finish ≡ false) ⊎ Has (duties.Send (send_duties.DataFin s)) ds
  pub wait : (p.wait ≡ false) ⊎ Has (duties.Step step_duties.Events) ds
  pub tell : (p.tell ≡ false) ⊎ Answers r owes ds
  pub ask : (p.ask ≡ false) ⊎ (Has (duties.Ask (ask_duties.Window r)) ds ⊎ (Has (duties.Ask (ask_duties.AckOut r)) ds × (asked ≡ true)))

-- ---- a lane, with its books and applications

-- some moves lead from the lane as the round began, with everything still to be done, to this lane and stage
pub record LaneStands (k : Setting) (begun : Lane) (stage : Stage) (lane : Lane) : Type 0 where
  pub count : ℕ
  pub moves : Moves k begun count all_left begun stage lane

-- the lane shows in its writer and that side's send book, and in its reader and that side's reassembly book
pub record AppsShow (k : Setting) (lane : Lane) (waiting : ℕ) (writer : AppState) (send : SendBook) (reader : AppState) (arrived : ArrivingBook) : Type 0 where
  pub writes : WriterShows k lane writer send
  pub reads : ReaderShows k lane reader arrived
  pub receives : ReceiverIs k lane arrived
  pub book : BookIs lane.sender waiting send
  -- what waits to be sent was written
  pub room : lane.granted + waiting ≤ lane.written
  -- all that came is in order
  pub whole : arrived.places ≡ map Some (filled arrived.places)
  pub fin : send.fin ≡ true → k.total < lane.acked

-- what is left of the turn of an application
pub data IsAppTurn : List AppDuty → Type 0 where
  Begun : IsAppTurn (Write ∷ Close ∷ Read ∷ End ∷ [])
  Written : IsAppTurn (Close ∷ Read ∷ End ∷ [])
  Closed : IsAppTurn (Read ∷ End ∷ [])
  ReadAll : IsAppTurn (End ∷ [])
  Ended : IsAppTurn []

-- the path itself
abbrev pub PathIs : PathStart → ℕ → PathState Carried → Type 0
PathIs start ticks p = record {
  profile : p.profile ≡ start.profile;
  delay : p.link.delay ≡ ticks;
  number : p.link.path ≡ 0;
  unspoken : p.link.lines ≡ [];
  lines : p.lines ≡ [];
  joined : p.joined_at ≡ None;
}

-- the copies on the link: the next one to arrive stands first, and the next one that is sent comes last on its way
pub record LinkIs (clock : ℕ) (link : LinkState Carried) : Type 0 where
  pub order : AreInOrder link.under_way
  pub from_a : WereSentBefore (next_number A link) (clock + link.delay) (going_to B link.under_way)
  pub from_b : WereSentBefore (next_number B link) (clock + link.delay) (going_to A link.under_way)

abbrev pub keys_in : Start → Keys
keys_in start = record { a = start.key_a; b = start.key_b }

-- the world came by turns from its opening
pub record Came (start : Start) (t : Cast Carried) : Type 0 where
  pub turns : List Turn
  pub is : world_of t ≡ world_run values turns (opened_world start)

-- The numbers of a lane are those of the path. A window update is due from `threshold` on.
pub record IsSetting (c : Profile) (ticks : ℕ) (k : Setting) : Type 0 where
  pub delay : ticks ≡ k.delay
  pub payload : c.mss - 28 ≡ k.payload
  pub threshold : min c.buffer (4 * c.mss) ≤ 2 * k.threshold
  pub some : 1 ≤ k.threshold
  pub update : 128 ≤ min c.buffer (4 * c.mss)
  pub buffer : c.buffer ≡ k.buffer
  pub least : k.least ≡ min 65535 k.buffer
  pub rto : k.rto ≡ 1000
  pub small : k.total ≤ 16777216
  pub most : k.buffer ≤ 1048576
  pub path : c.spelling.path ≡ 0
  pub ranges : HasRanges k

-- ---- the world from one side

-- What a side has: its end of the path, its application, its books, and its copies on their way.
pub record Half : Type 0 where
  pub end : PathEnd
  pub app : AppState
  pub send : SendBook
  pub arrived : ArrivingBook
  pub control : Control
  pub flying : List (Flight Carried)

-- the timer is settled, or still to be
abbrev pub IsSettledSoon : Side → List Duty → PathEnd → Type 0
IsSettledSoon s ds e = ((e.tcp.timing.news || e.sending.news) ≡ false) ⊎ Has (duties.Silent (silent_duties.Timer s)) ds

-- An end that has sent nothing: no more than a SYN has come, and A's SYN is the first that it sends.
pub record HasNotBegun (s : Side) (j : Setting) (out : Sender) (back : Receiver) (e : PathEnd) (ds : List Duty) : Type 0 where
  pub ready : out.ready ≡ 0
  pub received : back.received ≡ 0
  pub data_fin : back.data_fin_came ≡ 0
  pub keys : back.keys_came ≡ 0
  pub told : back.told.edge ≡ 0
  pub next : e.receiving.next ≡ 0
  pub window : (e.receiving.window ≡ j.buffer) ⊎ Has (duties.Ask (ask_duties.Window s)) ds
  pub syn : s ≡ A → (back.control_came ≡ 0) × Has (duties.Send (send_duties.Syn A)) ds

-- Both lanes and both halves, as this side sees them: `out` is the lane that it sends on, and `begun` that lane as the round
-- began.
pub record Facing (s : Side) (keys : Keys) (k j : Setting) (c : Profile) (begun begun_back : Lane) (m n : Half) (clock until : ℕ)
    (ds : List Duty) : Type 0 where
  pub out : Lane
  pub back : Lane
  pub stage : Stage
  pub stage_back : Stage
  pub going : LaneStands k begun stage out
  pub going_back : LaneStands j begun_back stage_back back
  pub now : (out.clock ≡ clock) × (out.until ≡ until)
  pub now_back : (back.clock ≡ clock) × (back.until ≡ until)
  -- what each end has in hand, whether it owes an acknowledgement, and how many octets were granted to it and wait
  pub hand : Option Hand
  pub hand_back : Option Hand
  pub owes : Bool
  pub owes_back : Bool
  pub waiting : ℕ
  pub waiting_back : ℕ
  pub own : EndIs s keys k j out.sender back.receiver hand owes waiting m.end
  pub other : EndIs (peer s) keys j k back.sender out.receiver hand_back owes_back waiting_back n.end
  pub way : WayIs c keys j k s out.sender out.receiver out.datas back.acks hand_back n.end.tcp.send.una m.end.tcp.recv.edge m.flying
  pub way_back : WayIs c keys k j (peer s) back.sender back.receiver back.datas out.acks hand m.end.tcp.send.una
      n.end.tcp.recv.edge n.flying
  pub apps : AppsShow k out waiting m.app m.send n.app n.arrived
  pub apps_back : AppsShow j back waiting_back n.app n.send m.app m.arrived
  pub stages : StageIs s (peer s) ds n.end.treated.asked owes_back stage
  pub stages_back : StageIs (peer s) s ds m.end.treated.asked owes stage_back
  pub control : ControlIs s keys m.control
  pub control_back : ControlIs (peer s) keys n.control
  pub turn : IsAppTurn m.app.agenda
  pub turn_back : IsAppTurn n.app.agenda
  pub settles : IsSettledSoon s ds m.end
  pub settles_back : IsSettledSoon (peer s) ds n.end
  pub begins : (1 ≤ out.control_sent) ⊎ HasNotBegun s j out.sender back.receiver m.end ds
  pub begins_back : (1 ≤ back.control_sent) ⊎ HasNotBegun (peer s) k back.sender out.receiver n.end ds
  -- where an acknowledgement is owed the lane has still to answer
  pub owed : owes ≡ true → brings_still hand ≡ false → stage_back.tell ≡ true
  pub owed_back : owes_back ≡ true → brings_still hand_back ≡ false → stage.tell ≡ true

-- ---- what is treated

-- an end with its lanes and what it has in hand
pub record Bench : Type 0 where
  pub profile : Profile
  pub out : Sender
  pub back : Receiver
  pub hand : Option Hand
  pub owes : Bool
  pub waiting : ℕ
  pub end : PathEnd

-- the end of this side
abbrev pub own_bench : {s : Side} {keys : Keys} {k j : Setting} {c : Profile} {begun begun_back : Lane} {m n : Half} {clock until : ℕ}
    {ds : List Duty} → Facing s keys k j c begun begun_back m n clock until ds → Bench
own_bench {s} {keys} {k} {j} {c} {begun} {begun_back} {m} h =
    record { profile = c; out = h.out.sender; back = h.back.receiver; hand = h.hand; owes = h.owes; waiting = h.waiting; end = m.end }

-- the end of the other side
abbrev pub other_bench : {s : Side} {keys : Keys} {k j : Setting} {c : Profile} {begun begun_back : Lane} {m n : Half} {clock until : ℕ}
    {ds : List Duty} → Facing s keys k j c begun begun_back m n clock until ds → Bench
other_bench {s} {keys} {k} {j} {c} {begun} {begun_back} {m} {n} h =
    record { profile = c; out = h.back.sender; back = h.out.receiver; hand = h.hand_back; owes = h.owes_back; waiting = h.waiting_back; end = n.end }

-- Nothing is in hand: what came was answered, and A has B's key and showed its own where the SYN/ACK came.
pub record IsBetween (s : Side) (x : Bench) : Type 0 where
  pub none : x.hand ≡ None
  pub idle : IsIdle x.back x.end.tcp
  pub owes : x.owes ≡ false
  pub answered : min 1 x.back.control_came ≤ x.out.control_sent
  pub ready : s ≡ A → min 1 x.back.control_came ≤ x.out.ready
  pub shown : s ≡ A → x.out.ready ≤ x.out.keys_sent
  pub mapped : NoneMapped x.end.tcp.recv.edge x.end.receiving.mappings x.end.receiving.mapped_data_fin
  -- B was told A's window by its SYN
  pub least : s ≡ B → 1 ≤ x.back.control_came → min 65535 x.profile.buffer ≤ x.out.edge

-- B has A's SYN in hand, and its own wasn't sent
pub record TreatsSyn (q : Side) (tells : Bool) (x : Bench) : Type 0 where
  pub side : q ≡ B
  pub sent : Sent
  pub hand : x.hand ≡ Some (record { sent = sent; brings = false; tells = tells })
  pub brings : sent.brings ≡ OpensSubflow
  pub edge : sent.telling.edge ≡ x.end.tcp.congestion.told.window
  pub seen : sent.telling ≡ record { next = 0; edge = sent.telling.edge; seen = 0; dss = 0 }
  pub idle : IsIdle x.back x.end.tcp
  pub owes : x.owes ≡ false
  pub came : x.back.control_came ≡ 1
  pub unsent : x.out.control_sent ≡ 0
  pub waiting : x.waiting ≡ 0
  pub mapped : NoneMapped x.end.tcp.recv.edge x.end.receiving.mappings x.end.receiving.mapped_data_fin
  pub full : min 65535 x.profile.buffer ≤ sent.telling.edge
  pub least : tells ≡ false → min 65535 x.profile.buffer ≤ x.out.edge

-- A has the SYN/ACK in hand, which its third segment answers; `keyed` is 1 once B's key is kept
pub record TreatsSynAck (q : Side) (tells : Bool) (keyed : ℕ) (keys : Keys) (x : Bench) : Type 0 where
  pub side : q ≡ A
  pub sent : Sent
  pub hand : x.hand ≡ Some (record { sent = sent; brings = false; tells = tells })
  pub brings : sent.brings ≡ OpensSubflow
  pub edge : tells ≡ true → sent.telling.edge ≡ x.end.tcp.congestion.told.window
  pub seen : sent.telling ≡ record { next = 0; edge = sent.telling.edge; seen = 1; dss = 0 }
  pub idle : IsIdle x.back x.end.tcp
  pub owes : x.owes ≡ true
  pub came : x.back.control_came ≡ 1
  pub sent_one : x.out.control_sent ≡ 1
  pub received : x.back.received ≡ 0
  pub ready : x.out.ready ≡ keyed
  pub unclear : x.out.clear ≡ 0
  pub unshown : x.out.keys_sent ≡ 0
  pub data_fin : x.back.data_fin_came ≡ 0
  pub key : keyed ≡ 0 → key_heard x.end.treated.items ≡ Some keys.b
  pub opened : x.end.treated.opened ≡ true
  pub news : x.end.tcp.timing.news ≡ true
  pub waiting : x.waiting ≡ 0
  pub mapped : NoneMapped x.end.tcp.recv.edge x.end.receiving.mappings x.end.receiving.mapped_data_fin

-- How far the treatment of a copy is: nothing that it says was heard, or the first thing, or two, or all; its payload is kept.
pub data Treatment : Type 0 where
  AtFirst : Treatment
  AfterOne : Treatment
  AfterTwo : Treatment
  AfterAll : Treatment
  AfterKeeping : Treatment

-- one thing at least was heard
abbrev pub is_begun : Treatment → Bool
is_begun AtFirst = false
is_begun AfterOne = true
is_begun AfterTwo = true
is_begun AfterAll = true
is_begun AfterKeeping = true

-- What a copy says that acknowledges this place with this window.
abbrev pub heard_by : Keys → ℕ → ℕ → Brings → List Heard
heard_by keys next window OpensSubflow = []
heard_by keys next window ShowsKeys = says.Keys keys.b keys.a ∷ []
heard_by keys next window (FirstPiece octets) = says.Keys keys.b keys.a ∷ says.Mapping false ∷ []
heard_by keys next window (Piece octets) = says.Dss ∷ says.DataAck next window ∷ says.Mapping false ∷ []
heard_by keys next window Acknowledges = says.Dss ∷ says.DataAck next window ∷ []
heard_by keys next window (EndsStream place) = says.Dss ∷ says.DataAck next window ∷ says.DataFin place ∷ []
heard_by keys next window EndsSubflow = says.Dss ∷ says.DataAck next window ∷ []

-- the lane has still to take what the segment brings (`brings_at`), and what it acknowledges (`tells_at`)
abbrev pub brings_at : Treatment → Brings → Bool
brings_at AtFirst b = true
brings_at AfterOne b = not (is_third b)
brings_at AfterTwo b = is_news b
brings_at AfterAll b = is_news b
brings_at AfterKeeping b = is_news b

abbrev pub tells_at : Treatment → Brings → Bool
tells_at AtFirst b = true
tells_at AfterOne b = not (shows_keys b)
tells_at AfterTwo b = false
tells_at AfterAll b = false
tells_at AfterKeeping b = false

-- the segment's mapping is learned
abbrev pub is_learned : Treatment → Brings → Bool
is_learned AtFirst b = false
is_learned AfterOne b = false
is_learned AfterTwo b = shows_keys b
is_learned AfterAll b = true
is_learned AfterKeeping b = true

-- the ends of the stream that are to be told
abbrev pub fin_in : Brings → List ℕ
fin_in (EndsStream place) = place ∷ []
fin_in _ = []

-- the ends of the stream that a copy brings are known once all that it says was heard
abbrev pub fins_at : Treatment → Brings → List ℕ
fins_at AtFirst b = []
fins_at AfterOne b = []
fins_at AfterTwo b = []
fins_at AfterAll b = fin_in b
fins_at AfterKeeping b = fin_in b

-- the payload, where it is kept and where it is held
abbrev pub places_at : Treatment → List ℕ → List (Option ℕ)
places_at AfterKeeping octets = map Some octets
places_at _ octets = []

abbrev pub incoming_at : Treatment → List ℕ → Option (List (Option ℕ))
incoming_at AfterKeeping octets = None
incoming_at _ octets = if is_nil octets then None else Some (map Some octets)

-- the mapping of a segment's payload, as the end of this side learns it
abbrev pub kept_piece : Profile → Side → Sent → List ℕ → KeptMapping
kept_piece c q x octets = kept_of c q x.low (x.low + x.control) (length octets) false
    (checksum_in c (bare_mapping c (peer q) x.low (x.low + x.control) (length octets)) octets)

-- none without bytes
abbrev pub kept_in : Profile → Side → Sent → List ℕ → List KeptMapping
kept_in c q x octets = if is_nil octets then [] else kept_piece c q x octets ∷ []

-- the mappings of an end at this edge, of which the told ones are learned or held
pub record MapsAs (edge : ℕ) (learned : Bool) (told : List KeptMapping) (count : ℕ) (v : Mappings) (fin : Option MappedDataFin) : Type 0 where
  pub live : v.live ≡ (if learned then told else [])
  pub held : v.held ≡ (if learned then [] else told)
  pub tail : v.tail ≡ None
  pub beyond : (p : ℕ) → (if learned then edge + count else edge) ≤ p → place_of v.places p ≡ None
  pub no_fin : fin ≡ None
  pub forgotten : v.forgotten ≤ edge

-- A copy that is no SYN is treated. `told` says that its keys were told to the control book.
pub record TreatsCopy (q : Side) (keys : Keys) (at : Treatment) (told : Bool) (b : Brings) (x : Bench) : Type 0 where
  pub sent : Sent
  pub brings : sent.brings ≡ b
  pub hand : x.hand ≡ Some (record { sent = sent; brings = brings_at at b; tells = tells_at at b })
  pub kind : is_opening b ≡ false
  pub some : is_piece b ≡ true → 1 ≤ length (octets_of b)
  pub keyed : shows_keys b ≡ true → q ≡ B
  pub items : x.end.treated.items ≡ heard_by keys sent.telling.next (window_told false sent.window) b
  pub opened : x.end.treated.opened ≡ is_third b
  pub keys_told : x.end.treated.keys_told ≡ told
  pub has_option : x.end.treated.has_option ≡ true
  pub fins : x.end.treated.fins ≡ fins_at at b
  pub asked : x.end.treated.asked ≡ false
  pub plain_ack : x.end.treated.plain_ack ≡ false
  pub held_edge : x.end.treated.held_edge ≡ (if is_nil (octets_of b) then None else Some x.end.tcp.recv.edge)
  pub owes : x.owes ≡ is_owed b
  pub came : 1 ≤ x.back.control_came
  -- the subflow acknowledges what the segment does
  pub una : x.end.tcp.send.una ≡ sent.edge
  pub high : sent.edge ≤ x.end.tcp.send.nxt
  pub rests : x.out.control_acked < sent.telling.seen → x.out.timer ≡ None
  pub waiting : x.waiting ≡ 0
  pub answered : min 1 x.back.control_came ≤ x.out.control_sent
  pub ready : q ≡ A → min 1 x.back.control_came ≤ x.out.ready
  pub shown : q ≡ A → x.out.ready ≤ x.out.keys_sent
  pub least : q ≡ B → min 65535 x.profile.buffer ≤ x.out.edge
  -- at B all but the third segment come behind the keys; it may use the DSS once a thing was heard, or the keys were told
  pub clear : (q ≡ B → is_third b ≡ false → 1 ≤ x.out.clear) × (told ≡ true → 1 ≤ x.out.clear) × (is_begun at ≡ true → 1 ≤ x.out.clear)
  pub unkeyed : is_third b ≡ true → told ≡ false → x.out.ready ≡ 0
  pub places : x.end.tcp.recv.places ≡ places_at at (octets_of b)
  pub incoming : x.end.tcp.recv.incoming ≡ incoming_at at (octets_of b)
  pub fin : x.end.tcp.fin_at
      ≡ (if is_subflow_end b then Some x.end.tcp.recv.edge else (if nat_lt 1 x.back.control_came then Some (x.back.received + 1) else None))
  pub maps : MapsAs x.end.tcp.recv.edge (is_learned at b) (kept_in x.profile q sent (octets_of b)) (length (octets_of b)) x.end.receiving.mappings
      x.end.receiving.mapped_data_fin

-- What a copy brings and acknowledges is taken; it is perhaps still to be acknowledged.
pub record TreatsLast (q : Side) (x : Bench) : Type 0 where
  pub sent : Sent
  pub hand : x.hand ≡ Some (record { sent = sent; brings = false; tells = false })
  pub idle : IsIdle x.back x.end.tcp
  pub waiting : x.waiting ≡ 0
  pub answered : min 1 x.back.control_came ≤ x.out.control_sent
  pub ready : q ≡ A → min 1 x.back.control_came ≤ x.out.ready
  pub shown : q ≡ A → x.out.ready ≤ x.out.keys_sent
  -- the side may use the DSS
  pub clear : 1 ≤ x.out.clear
  pub mapped : NoneMapped x.end.tcp.recv.edge x.end.receiving.mappings x.end.receiving.mapped_data_fin
  pub least : q ≡ B → min 65535 x.profile.buffer ≤ x.out.edge

-- a FIN that its lane has still to take: the receive edge is there
pub record TreatsFin (q : Side) (x : Bench) : Type 0 where
  pub sent : Sent
  pub hand : x.hand ≡ Some (record { sent = sent; brings = true; tells = false })
  pub brings : sent.brings ≡ EndsSubflow
  pub places : x.end.tcp.recv.places ≡ []
  pub fin : x.end.tcp.fin_at ≡ Some x.end.tcp.recv.edge
  pub owes : x.owes ≡ true
  pub waiting : x.waiting ≡ 0
  pub answered : min 1 x.back.control_came ≤ x.out.control_sent
  pub ready : q ≡ A → min 1 x.back.control_came ≤ x.out.ready
  pub shown : q ≡ A → x.out.ready ≤ x.out.keys_sent
  pub clear : 1 ≤ x.out.clear
  pub mapped : NoneMapped x.end.tcp.recv.edge x.end.receiving.mappings x.end.receiving.mapped_data_fin
  pub least : q ≡ B → min 65535 x.profile.buffer ≤ x.out.edge

-- a DATA_FIN that its lane has still to take
pub record TreatsDataFin (q : Side) (x : Bench) : Type 0 where
  pub sent : Sent
  pub hand : x.hand ≡ Some (record { sent = sent; brings = true; tells = false })
  pub place : ℕ
  pub brings : sent.brings ≡ EndsStream place
  pub fins : x.end.treated.fins ≡ place ∷ []
  pub idle : IsIdle x.back x.end.tcp
  pub owes : x.owes ≡ true
  pub waiting : x.waiting ≡ 0
  pub answered : min 1 x.back.control_came ≤ x.out.control_sent
  pub ready : q ≡ A → min 1 x.back.control_came ≤ x.out.ready
  pub shown : q ≡ A → x.out.ready ≤ x.out.keys_sent
  pub clear : 1 ≤ x.out.clear
  pub mapped : NoneMapped x.end.tcp.recv.edge x.end.receiving.mappings x.end.receiving.mapped_data_fin
  pub least : q ≡ B → min 65535 x.profile.buffer ≤ x.out.edge

-- All bytes of a copy are taken, but perhaps not its DATA_FIN or its FIN.
abbrev pub TreatsEnd : Side → Bench → Type 0
TreatsEnd q x = ((TreatsLast q x ⊎ TreatsFin q x) × (x.end.treated.fins ≡ [])) ⊎ TreatsDataFin q x

-- the byte at the receive edge isn't one of the copy
abbrev pub IsLanded : Bench → Type 0
IsLanded x = is_at x.end.tcp.recv.edge x.end.treated.held_edge ≡ false

-- bytes of a copy that are kept, and are to be placed
abbrev pub TreatsBytes : Side → Keys → Bench → Type 0
TreatsBytes q keys x = (b : Brings) × (told : Bool) × TreatsCopy q keys AfterKeeping told b x × (1 ≤ length (octets_of b))

-- the duties of a turn that treat no copy
abbrev pub is_plain : Duty → Bool
is_plain (duties.Ask ask_duties.JoinAgain) = true
is_plain (duties.Step (step_duties.Look s)) = true
is_plain (duties.Ask (ask_duties.Window s)) = true
is_plain (duties.Send (send_duties.Update s)) = true
is_plain (duties.Ask (ask_duties.LeaveNoted s)) = true
is_plain (duties.Send (send_duties.ResetNoted s)) = true
is_plain (duties.Send (send_duties.Syn s)) = true
is_plain (duties.Send (send_duties.FastClose s)) = true
is_plain (duties.Send (send_duties.Notice s)) = true
is_plain (duties.Step (step_duties.Data s)) = true
is_plain (duties.Send (send_duties.DataFin s)) = true
is_plain (duties.Send (send_duties.Fin s)) = true
is_plain (duties.Send (send_duties.Again s)) = true
is_plain (duties.Silent (silent_duties.Timer s)) = true
is_plain (duties.Step step_duties.Events) = true
is_plain duties.End = true
is_plain _ = false

-- the duty asks for the window of this side
abbrev pub is_window : Side → Duty → Bool
is_window s (duties.Ask (ask_duties.Window q)) = same_side s q
is_window s _ = false

abbrev pub is_syn : Side → Duty → Bool
is_syn s (duties.Send (send_duties.Syn q)) = same_side s q
is_syn s _ = false

abbrev pub any_duty : (Duty → Bool) → List Duty → Bool
any_duty is [] = false
any_duty is (d ∷ ds) = is d || any_duty is ds

-- what comes behind a duty, and what doesn't
abbrev pub IsBefore : Duty → List Duty → Type 0
IsBefore (duties.Send (send_duties.Update s)) ds = (any_duty (is_window s) ds ≡ false) × Has (duties.Step step_duties.Events) ds
IsBefore (duties.Send (send_duties.Syn s)) ds = (any_duty (is_window s) ds ≡ false) × Has (duties.Step step_duties.Events) ds
IsBefore (duties.Step (step_duties.Data s)) ds =
    (any_duty (is_window s) ds ≡ false) × Has (duties.Send (send_duties.DataFin s)) ds × Has (duties.Step step_duties.Events) ds
IsBefore (duties.Send (send_duties.DataFin s)) ds = (any_duty (is_window s) ds ≡ false) × Has (duties.Step step_duties.Events) ds
IsBefore (duties.Send (send_duties.Fin s)) ds = (any_duty (is_window s) ds ≡ false) × Has (duties.Step step_duties.Events) ds
IsBefore (duties.Silent (silent_duties.Timer s)) ds = any_duty (is_syn s) ds ≡ false
IsBefore (duties.Step step_duties.Events) ds = ds ≡ duties.End ∷ []
IsBefore duties.End ds = ds ≡ []
IsBefore _ ds = Unit {0}

-- the rest of a turn in which no copy is treated
abbrev pub ArePlain : List Duty → Type 0
ArePlain [] = Unit {0}
ArePlain (d ∷ ds) = (is_plain d ≡ true) × IsBefore d ds × ArePlain ds

-- bytes that wait have the mapping of their place
abbrev pub IsMapped : Side → Bench → Type 0
IsMapped q x = 1 ≤ x.waiting → (r : Record) → first_unsent x.end ≡ Some r → r.mapping ≡ mapping_of x.profile q x.out.granted r.pos r.piece

-- nothing is in hand at either end
abbrev pub AreBetween : Bench → Bench → Type 0
AreBetween a b = IsBetween A a × IsBetween B b

-- The acknowledgement answers the SYN/ACK, or a copy.
abbrev pub TreatsThird : Side → Keys → Bench → Bench → List Duty → Type 0
TreatsThird q keys a b ds = TreatsSynAck q false 1 keys a × IsBetween B b × (b.waiting ≡ 0) × (ds ≡ emission q)

abbrev pub TreatsTaken : Side → Bench → Bench → List Duty → List Duty → Type 0
TreatsTaken q a b ds es = TreatsLast q (pick q a b) × IsBetween (peer q) (pick q b a) × ((pick q b a).waiting ≡ 0) × (ds ≡ es)

-- from the question of what is acknowledged on
abbrev pub last_duties : Side → List Duty
last_duties q =
    duties.Ask (ask_duties.AckOut q) ∷ duties.Ask (ask_duties.Rate q) ∷ duties.Send (send_duties.Acknowledge q) ∷ duties.Send (send_duties.Again q) ∷ emission q

-- from the peer's FIN on, and from its DATA_FIN on
abbrev pub fin_duties : Side → List Duty
fin_duties q = duties.Silent (silent_duties.PassFin q) ∷ duties.Ask (ask_duties.SubflowFin q) ∷ last_duties q

abbrev pub end_duties : Side → List Duty
end_duties q =
    duties.Ask (ask_duties.HeardFin q 0) ∷ duties.Ask (ask_duties.HeardFin q 1) ∷ duties.Ask (ask_duties.HeardFin q 2) ∷ fin_duties q

-- the other end, which treats nothing, and what is left
abbrev pub Beside : Side → Bench → Bench → List Duty → List Duty → Type 0
Beside q a b ds es = IsBetween (peer q) (pick q b a) × ((pick q b a).waiting ≡ 0) × (ds ≡ es)

-- from the placing of bytes on
abbrev pub place_duties : Side → List Duty
place_duties q = duties.Ask (ask_duties.Edge q) ∷ duties.Ask (ask_duties.CheckFailed q) ∷ duties.Step (step_duties.Unmapped q) ∷ end_duties q

-- no second end of the stream is to be told
abbrev pub AreFew : Bench → Type 0
AreFew x = (n : ℕ) → item_at (suc n) x.end.treated.fins ≡ None

-- how many things a copy says
abbrev pub count_in : Brings → ℕ
count_in OpensSubflow = 0
count_in ShowsKeys = 1
count_in (FirstPiece octets) = 2
count_in (Piece octets) = 3
count_in Acknowledges = 2
count_in (EndsStream place) = 3
count_in EndsSubflow = 2

-- the path lives: for A, which has B's key, or by a copy
abbrev pub TreatsAnswered : Side → Keys → Bench → Bench → List Duty → Type 0
TreatsAnswered q keys a b ds =
    TreatsSynAck q false 1 keys a × IsBetween B b × (b.waiting ≡ 0) × (ds ≡ duties.Send (send_duties.Acknowledge q) ∷ emission q)

abbrev pub TreatsKeyed : Side → Keys → Bench → Bench → List Duty → Type 0
TreatsKeyed q keys a b ds =
    (k : Brings) × TreatsCopy q keys AtFirst (is_third k) k (pick q a b) × Beside q a b ds (heard_and q 0 (count_in k) (payload_came q))

-- What is treated, by the duty that comes first. Bytes wait for nothing else but their sending.
abbrev pub Treats : Keys → Bench → Bench → List Duty → Type 0
Treats keys a b [] = AreBetween a b × (a.waiting ≡ 0) × (b.waiting ≡ 0)
Treats keys a b (duties.Step (step_duties.Data q) ∷ ds) =
    AreBetween a b × (pick q b.waiting a.waiting ≡ 0) × IsMapped q (pick q a b) × IsBefore (duties.Step (step_duties.Data q)) ds × ArePlain ds
Treats keys a b (duties.Ask (ask_duties.SynHeard q) ∷ ds) =
    TreatsSyn q true b × IsBetween A a × (a.waiting ≡ 0) × (ds ≡ duties.Ask (ask_duties.PlainHandshake q) ∷ duties.Send (send_duties.SynAck q) ∷ emission q)
Treats keys a b (duties.Ask (ask_duties.PlainHandshake q) ∷ ds) =
    TreatsSyn q false b × IsBetween A a × (a.waiting ≡ 0) × (ds ≡ duties.Send (send_duties.SynAck q) ∷ emission q)
Treats keys a b (duties.Send (send_duties.SynAck q) ∷ ds) = TreatsSyn q false b × IsBetween A a × (a.waiting ≡ 0) × (ds ≡ emission q)
Treats keys a b (duties.Ask (ask_duties.SynAnswered q) ∷ ds) =
    TreatsSynAck q true 0 keys a × IsBetween B b × (b.waiting ≡ 0)
    × (ds ≡ duties.Ask (ask_duties.PeerKey q) ∷ duties.Ask (ask_duties.Live q) ∷ duties.Send (send_duties.Acknowledge q) ∷ emission q)
Treats keys a b (duties.Ask (ask_duties.PeerKey q) ∷ ds) =
    TreatsSynAck q false 0 keys a × IsBetween B b × (b.waiting ≡ 0) × (ds ≡ duties.Ask (ask_duties.Live q) ∷ duties.Send (send_duties.Acknowledge q) ∷ emission q)
Treats keys a b (duties.Ask (ask_duties.Live q) ∷ ds) =
    TreatsAnswered q keys a b ds ⊎ TreatsKeyed q keys a b ds
Treats keys a b (duties.Step (step_duties.Heard q zero) ∷ ds) =
    (k : Brings) × TreatsCopy q keys AtFirst (is_third k) k (pick q a b) × Beside q a b ds (heard_and q 1 (count_in k - 1) (payload_came q))
Treats keys a b (duties.Step (step_duties.Heard q (suc zero)) ∷ ds) =
    (k : Brings) × TreatsCopy q keys AfterOne (shows_keys k) k (pick q a b) × (2 ≤ count_in k) × Beside q a b ds (heard_and q 2 (count_in k - 2) (payload_came q))
Treats keys a b (duties.Step (step_duties.Heard q (suc (suc (suc i)))) ∷ ds) = ⊥
Treats keys a b (duties.Step (step_duties.Heard q (suc (suc zero))) ∷ ds) =
    (k : Brings) × TreatsCopy q keys AfterTwo (shows_keys k) k (pick q a b) × (count_in k ≡ 3) × Beside q a b ds (payload_came q)
Treats keys a b (duties.Ask (ask_duties.AckHeard q) ∷ ds) =
    (k : Brings) × TreatsCopy q keys AfterTwo (shows_keys k) k (pick q a b) × (shows_keys k ≡ false) × Beside q a b ds (heard_and q 2 (count_in k - 2) (payload_came q))
Treats keys a b (duties.Step (step_duties.PlainAck q) ∷ ds) =
    (k : Brings) × TreatsCopy q keys AfterAll (shows_keys k) k (pick q a b)
    × Beside q a b ds (duties.Ask (ask_duties.SubflowAck q) ∷ duties.Ask (ask_duties.PlainData q) ∷ duties.Silent (silent_duties.Keep q) ∷ place_duties q)
Treats keys a b (duties.Ask (ask_duties.SubflowAck q) ∷ ds) =
    (k : Brings) × TreatsCopy q keys AfterAll (shows_keys k) k (pick q a b)
    × Beside q a b ds (duties.Ask (ask_duties.PlainData q) ∷ duties.Silent (silent_duties.Keep q) ∷ place_duties q)
Treats keys a b (duties.Ask (ask_duties.PlainData q) ∷ ds) =
    (k : Brings) × TreatsCopy q keys AfterAll (shows_keys k) k (pick q a b) × Beside q a b ds (duties.Silent (silent_duties.Keep q) ∷ place_duties q)
Treats keys a b (duties.Silent (silent_duties.Keep q) ∷ ds) =
    (k : Brings) × TreatsCopy q keys AfterAll (shows_keys k) k (pick q a b) × Beside q a b ds (place_duties q)
Treats keys a b (duties.Ask (ask_duties.Edge q) ∷ ds) =
    (TreatsBytes q keys (pick q a b) ⊎ (TreatsEnd q (pick q a b) × IsLanded (pick q a b)))
    × Beside q a b ds (duties.Ask (ask_duties.CheckFailed q) ∷ duties.Step (step_duties.Unmapped q) ∷ end_duties q)
Treats keys a b (duties.Ask (ask_duties.CheckFailed q) ∷ ds) =
    (TreatsEnd q (pick q a b) × IsLanded (pick q a b)) × Beside q a b ds (duties.Step (step_duties.Unmapped q) ∷ end_duties q)
Treats keys a b (duties.Step (step_duties.Unmapped q) ∷ ds) = (TreatsEnd q (pick q a b) × IsLanded (pick q a b)) × Beside q a b ds (end_duties q)
Treats keys a b (duties.Ask (ask_duties.HeardFin q zero) ∷ ds) =
    TreatsEnd q (pick q a b) × Beside q a b ds (duties.Ask (ask_duties.HeardFin q 1) ∷ duties.Ask (ask_duties.HeardFin q 2) ∷ fin_duties q)
Treats keys a b (duties.Ask (ask_duties.HeardFin q (suc zero)) ∷ ds) =
    ((TreatsLast q (pick q a b) ⊎ TreatsFin q (pick q a b)) × AreFew (pick q a b)) × Beside q a b ds (duties.Ask (ask_duties.HeardFin q 2) ∷ fin_duties q)
Treats keys a b (duties.Ask (ask_duties.HeardFin q (suc (suc i))) ∷ ds) =
    ((TreatsLast q (pick q a b) ⊎ TreatsFin q (pick q a b)) × AreFew (pick q a b)) × Beside q a b ds (fin_duties q)
Treats keys a b (duties.Silent (silent_duties.PassFin q) ∷ ds) =
    (TreatsLast q (pick q a b) ⊎ TreatsFin q (pick q a b)) × IsBetween (peer q) (pick q b a) × ((pick q b a).waiting ≡ 0)
    × (ds ≡ duties.Ask (ask_duties.SubflowFin q) ∷ last_duties q)
Treats keys a b (duties.Ask (ask_duties.SubflowFin q) ∷ ds) = TreatsTaken q a b ds (last_duties q)
Treats keys a b (duties.Ask (ask_duties.AckOut q) ∷ ds) =
    TreatsTaken q a b ds (duties.Ask (ask_duties.Rate q) ∷ duties.Send (send_duties.Acknowledge q) ∷ duties.Send (send_duties.Again q) ∷ emission q)
Treats keys a b (duties.Ask (ask_duties.Rate q) ∷ ds) =
    TreatsTaken q a b ds (duties.Send (send_duties.Acknowledge q) ∷ duties.Send (send_duties.Again q) ∷ emission q)
Treats keys a b (duties.Send (send_duties.Acknowledge q) ∷ ds) = TreatsThird q keys a b ds ⊎ TreatsTaken q a b ds (duties.Send (send_duties.Again q) ∷ emission q)
Treats keys a b (duties.Ask (ask_duties.Opened q) ∷ ds) =
    (k : Brings) × TreatsCopy q keys AtFirst false k (pick q a b) × Beside q a b ds (duties.Ask (ask_duties.Live q) ∷ heard_and q 0 (count_in k) (payload_came q))
Treats keys a b (d ∷ ds) = AreBetween a b × (a.waiting ≡ 0) × (b.waiting ≡ 0) × (is_plain d ≡ true) × IsBefore d ds × ArePlain ds

-- ---- all

abbrev pub half : Side → AppState → SixBooks → PathState Carried → Half
half s app books p = record {
  end = end_at s p;
  app = app;
  send = send_of s books;
  arrived = reassembly_of s books;
  control = control_of s books;
  flying = going_to (peer s) p.link.under_way;
}

-- as A sees the world, of which `s` and `v` are the lanes as the round began
abbrev pub FacesOfA : Keys → Setting → Setting → Lane → Lane → AppState → AppState → SixBooks → PathState Carried → Type 0
FacesOfA keys k j s v a b books p =
    Facing A keys k j p.profile s v (half A a books p) (half B b books p) p.clock p.until p.agenda

-- as B sees the world, of which `s` and `v` are the lanes as the round began
abbrev pub FacesOfB : Keys → Setting → Setting → Lane → Lane → AppState → AppState → SixBooks → PathState Carried → Type 0
FacesOfB keys k j s v a b books p =
    Facing B keys j k p.profile v s (half B b books p) (half A a books p) p.clock p.until p.agenda

-- `s` and `v` are the lanes as the round began.
pub record Runs (start : Start) (plan : PathPlan) (k j : Setting) (s v : Lane) (a b : AppState) (books : SixBooks) (p : PathState Carried) : Type 0 where
  pub path : PathIs (path_begins start 0 plan) plan.delay p
  pub link : LinkIs p.clock p.link
  pub faces : FacesOfA (keys_in start) k j s v a b books p
  pub open faces use *
  pub treats : Treats (keys_in start) (own_bench faces) (other_bench faces) p.agenda

-- a world whose paths are just one runs as a path does, with the lanes `s` and `v` as the round began
pub record Running (start : Start) (plan : PathPlan) (k j : Setting) (s v : Lane) (t : Cast Carried) : Type 0 where
  pub walker : Walker Carried
  pub alone : t.paths ≡ walker ∷ []
  pub runs : Runs start plan k j s v t.a t.b (books_in t.books) walker.path
  pub open runs use *
