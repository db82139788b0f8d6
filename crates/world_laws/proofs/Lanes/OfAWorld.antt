-- What the two directions of a connection show of its world, and what a step of the world is there: moves of the lanes, at most
-- one call of a book, and moves again.
--
-- A path among the others: what a turn shows is said of one path's two lanes (`duo_at`), with the lanes and modes of
-- the others as a variable (`Others` in `proofs/Lanes/OfAWorld`); `proofs/Lanes/EveryTurn` puts them back into the
-- lists. An event of one lane is one of the list (`there_again`, `moved_there` in `proofs/Lanes/Roads`).
--
-- Links that alter (`Links`, `Carries` of `proofs/Lanes/OfAWorld`) are a constant of the lanes that a run is shown on.
-- Where they may alter, every piece stands there twice, as it was sent and with a bit turned (`IsPiece.turned`), and a
-- grant sends both at once: so an alteration is no move, and nothing has to be said of the turn that makes it. A lane
-- hears bytes when they are kept beside the edge, not when they are held for it: the first byte for a position stays on
-- both sides then (`keeps_held` of `proofs/Lanes/Taking`).
--
-- What a turn needs of the world is one record, `IsSteady` (`proofs/Lanes/OfAWorld`), and a premise of the law on
-- turns; that it holds at every moment is proved apart from the lanes (`proofs/Worlds/Steady`), so none of its parts is
-- carried through the rules of an end.
use Rattle.world_laws.proofs.Words.{◌≡◌, refl, sym, ◌∙◌, ap, ℕ, zero, suc, ◌-◌, ◌≤◌, ◌&&◌, not, Bool, true, false, Option, Some, None, List, [], ◌∷◌, ◌++◌}
use Rattle.world_laws.proofs.Words.{length, ◌<◌, ◌^◌, set, and_parts, and_from, both_ways, false≢true, true≢false, slice_get, list_all, Side, A, B, ControlCall}
use Rattle.world_laws.proofs.Words.{is_sure, ReassemblyCall, SendCall, may_finish, lines_of, Duty, StepDuty, AskDuty, Heard, Ask, books_in, SixBooks, send_of}
use Rattle.world_laws.proofs.Words.{control_of, after_ask, PathState, end_at, IsSettled, Carried, values, item_ask, item_of, AltersNothing, item_at, Every}
use Rattle.world_laws.proofs.Words.{From, Duo, after_events, after_event, flags_ab, flags_ba, opening_over, Holds, Lane, LaneAsk, Direction, StreamEvent}
use Rattle.world_laws.proofs.Words.{is_done, Reader, ToB, ToA, FallA, FallB, LoosenA, LoosenB, BeginJoin, SendJoin, HearJoin, Flags, Move, AskGrant, AskAckIn}
use Rattle.world_laws.proofs.Words.{AskPlace, AskFin, AskAckOut, Return, GoIdentity, AbortRead, Moves, Asks, App, Path, Actor, ActorCrew, member_asks, PathPlan}
use Rattle.world_laws.proofs.Words.{Start, path_begins, opened_world, WorldState, Turn, after_turn, world_run, IsPlain, is_fallback}
use Rattle.stream_lanes.specs.Streams.StreamEvent.{Write, Close, GoInfinite, AbortSend, Read}
use Rattle.stream_lanes.specs.Duo.{Modes, Event}
use Rattle.world_laws.proofs.Lanes.Applying.{Reads}
use Rattle.world_laws.proofs.Worlds.Casts.{Walker, Cast, world_of, Fare}
use Rattle.world_laws.proofs.Falls.WhereASideStands.{is_plain, is_loose}
use Rattle.world_laws.proofs.Places.Sent.{KnowsThose}
use Rattle.world_laws.proofs.Lanes.Roads.{direction}
use Rattle.world_laws.proofs.Lanes.Showing.{PathShows}
use Rattle.world_laws.proofs.Asks.AckOutDuties.{is_shield}

-- ---- what is shown

-- What is so of a connection for ever: whether its links may alter payload, and whether mappings are checked. And a side may be firm:
-- it falls back by no turn that is looked at. Of another one that was stopped it isn't known whether it had fallen back.
pub record Links : Type 0 where
  pub alters : Bool
  pub checked : Bool
  pub firm_a : Bool
  pub firm_b : Bool

abbrev pub is_firm : Links → Side → Bool
is_firm links A = links.firm_a
is_firm links B = links.firm_b

-- a side that isn't firm fell back to plain TCP, or to an infinite mapping of the peer's, or may have done so before it was stopped
abbrev pub plain_at : Links → Side → SixBooks → Bool
plain_at links s six = not (is_firm links s) && is_plain (control_of s six).fall

abbrev pub loose_at : Links → Side → SixBooks → Bool
loose_at links s six = not (is_firm links s) && is_loose (control_of s six).fall

pub plain_unless : (links : Links) (s : Side) (six : SixBooks) → is_firm links s ≡ false → is_plain (control_of s six).fall ≡ true → plain_at links s six ≡ true
plain_unless links s six none is = ap (λ b. not b && is_plain (control_of s six).fall) none ∙ is

-- by the control books: which side fell back, whether A began a join, and whether B answered one
abbrev pub modes_by : Links → SixBooks → Modes
modes_by links six = record {
  plain_a = plain_at links A six;
  plain_b = plain_at links B six;
  loose_a = loose_at links A six;
  loose_b = loose_at links B six;
  begun = six.control_a.fall.joined;
  join_sent = six.control_a.fall.joined;
  answered = six.control_b.fall.joined;
  alters = links.alters;
  checked = links.checked;
}

-- what the direction on which a side sends needs of them
abbrev pub flags_of : Links → Side → SixBooks → Flags
flags_of links A six = flags_ab (modes_by links six)
flags_of links B six = flags_ba (modes_by links six)

pub flags_are : (links : Links) (s : Side) (six : SixBooks) → ((flags_of links s six).alters ≡ links.alters) × ((flags_of links s six).checked ≡ links.checked)
flags_are links A six = (refl, refl)
flags_are links B six = (refl, refl)

-- the books of a world in the two directions, with a lane for each path
abbrev pub duo_of : Links → SixBooks → List Lane → List Lane → Reader → Reader → Duo
duo_of links six lanes_ab lanes_ba reader_a reader_b = record {
  modes = modes_by links six;
  ab = direction six.send_a six.reassembly_b lanes_ab reader_b;
  ba = direction six.send_b six.reassembly_a lanes_ba reader_a;
}

-- what there is beside the lanes of one path: what the links may do, the number of the path, the other lanes, and what the readers got
pub record Others : Type 0 where
  pub links : Links
  pub number : ℕ
  pub lanes_ab : List Lane
  pub lanes_ba : List Lane
  pub within_ab : number < length lanes_ab
  pub within_ba : number < length lanes_ba
  pub reader_a : Reader
  pub reader_b : Reader

-- with these lanes of that path
abbrev pub duo_at : SixBooks → Lane → Lane → Others → Duo
duo_at six ab ba others =
    duo_of others.links six (set others.lanes_ab others.number ab) (set others.lanes_ba others.number ba) others.reader_a others.reader_b

-- Path 0 has open lanes; on a path that joins A was granted nothing as long as it may send no DSS.
abbrev pub StandsSo : ℕ → PathState Carried → Lane → Lane → Type 0
StandsSo zero p ab ba = (ab.opened ≡ true) × (ba.opened ≡ true)
StandsSo (suc number) p ab ba = p.a.modes.clear ≡ false → ab.sent ≡ []

-- on path 0 A may send a DSS
abbrev pub FirstIsClear : List (Walker Carried) → Type 0
FirstIsClear paths = (x : Walker Carried) → slice_get paths 0 ≡ Some x → x.path.a.modes.clear ≡ true

-- A path shows on the two lanes with its number.
pub record PathThere (start : Start) (lanes_ab lanes_ba : List Lane) (number : ℕ) (p : PathState Carried) : Type 0 where
  pub plan : PathPlan
  pub plan_there : slice_get start.paths number ≡ Some plan
  pub numbered : p.link.path ≡ number
  pub ab : Lane
  pub ba : Lane
  pub ab_there : slice_get lanes_ab number ≡ Some ab
  pub ba_there : slice_get lanes_ba number ≡ Some ba
  pub shows : PathShows (path_begins start number plan).profile p ab ba
  pub stands : StandsSo number p ab ba
  pub knows : KnowsThose ab ba p

-- The directions have the books, each reader is what the steps of its application say, and each path shows on its lanes.
pub record WorldShows (links : Links) (start : Start) (d : Duo) (w : WorldState Carried) : Type 0 where
  pub cast : Cast Carried
  pub is : w ≡ world_of cast
  pub fare : Fare start cast
  pub settled : Every (λ x. IsSettled x.path) cast.paths
  pub lanes_ab : List Lane
  pub lanes_ba : List Lane
  pub reader_a : Reader
  pub reader_b : Reader
  pub duo_is : d ≡ duo_of links (books_in cast.books) lanes_ab lanes_ba reader_a reader_b
  pub reads_a : Reads cast.a.told cast.at_a.list reader_a
  pub reads_b : Reads cast.b.told cast.at_b.list reader_b
  pub paths : From (λ number x. PathThere start lanes_ab lanes_ba number x.path) 0 cast.paths

-- ---- what a turn is

-- what the actor of a turn asks, where it asks
abbrev pub asked_by : Option (ActorCrew Carried) → Option Ask
asked_by None = None
asked_by (Some c) = member_asks values c.member

abbrev pub asked_in : Turn → WorldState Carried → Option Ask
asked_in (Turn.Step actor) w = asked_by (slice_get w.crew actor)
asked_in Turn.Round w = None

-- the lane of a path is about to ask this
pub record IsAsking (path : ℕ) (ask : LaneAsk) (d : Direction) : Type 0 where
  pub lane : Lane
  pub there : slice_get d.lanes path ≡ Some lane
  pub asks : lane.asking ≡ ask

-- the event is that a lane asks this
pub record LaneAsks (ask : LaneAsk) (d : Direction) (event : StreamEvent) : Type 0 where
  pub path : ℕ
  pub event_is : event ≡ Asks path
  pub asking : IsAsking path ask d

-- a call of a book is this event of its direction
abbrev pub SendCallIs : SendCall → Direction → StreamEvent → Type 0
SendCallIs (SendCall.Write bytes) d event = event ≡ Write bytes
SendCallIs SendCall.Close d event = event ≡ Close
SendCallIs (SendCall.Grant path max standby) d event = (event ≡ Asks path) × IsAsking path (AskGrant max standby) d
SendCallIs (SendCall.AckIn next window) d event = LaneAsks (AskAckIn next window) d event
SendCallIs (SendCall.Return path) d event = event ≡ Return path
SendCallIs SendCall.GoIdentity d event = event ≡ GoIdentity
SendCallIs (SendCall.GoInfinite path) d event = (pos : ℕ) × (event ≡ GoInfinite path pos)
SendCallIs SendCall.Abort d event = event ≡ AbortSend

abbrev pub ReassemblyCallIs : ReassemblyCall → Direction → StreamEvent → Type 0
ReassemblyCallIs (ReassemblyCall.Place at bytes) d event = LaneAsks (AskPlace at bytes) d event
ReassemblyCallIs (ReassemblyCall.Fin at) d event = LaneAsks (AskFin at) d event
ReassemblyCallIs (ReassemblyCall.Read most) d event = (event ≡ Read most) × (is_done d.reader ≡ false)
ReassemblyCallIs ReassemblyCall.AckOut d event = LaneAsks AskAckOut d event
ReassemblyCallIs (ReassemblyCall.Abort by_peer) d event = event ≡ AbortRead by_peer

-- what is asked is this event; a control book and a local step are none
abbrev pub CallIs : Option Ask → Duo → Option Event → Type 0
CallIs (Some (Ask.Send A c)) d call = (event : StreamEvent) × (call ≡ Some (ToB event)) × SendCallIs c d.ab event
CallIs (Some (Ask.Send B c)) d call = (event : StreamEvent) × (call ≡ Some (ToA event)) × SendCallIs c d.ba event
CallIs (Some (Ask.Reassembly A c)) d call = (event : StreamEvent) × (call ≡ Some (ToA event)) × ReassemblyCallIs c d.ba event
CallIs (Some (Ask.Reassembly B c)) d call = (event : StreamEvent) × (call ≡ Some (ToB event)) × ReassemblyCallIs c d.ab event
CallIs _ d call = call ≡ None

-- ---- moves

-- a lane of a path moves, or a side falls back or goes on with joins: no book is called
abbrev pub is_silent : Event → Bool
is_silent (ToB (Moves path m)) = true
is_silent (ToA (Moves path m)) = true
is_silent FallA = true
is_silent FallB = true
is_silent LoosenA = true
is_silent LoosenB = true
is_silent BeginJoin = true
is_silent SendJoin = true
is_silent HearJoin = true
is_silent _ = false

abbrev pub AreSilent : List Event → Type 0
AreSilent events = list_all is_silent events ≡ true

-- moves of a path's lane from A to B, and then of that from B to A
pub record LaneMoves : Type 0 where
  pub path : ℕ
  pub ab : List Move
  pub ba : List Move

abbrev pub moves_to_b : ℕ → List Move → List Event
moves_to_b path [] = []
moves_to_b path (m ∷ ms) = ToB (Moves path m) ∷ moves_to_b path ms

abbrev pub moves_to_a : ℕ → List Move → List Event
moves_to_a path [] = []
moves_to_a path (m ∷ ms) = ToA (Moves path m) ∷ moves_to_a path ms

abbrev pub move_events : LaneMoves → List Event
move_events ms = moves_to_b ms.path ms.ab ++ moves_to_a ms.path ms.ba

pub silent_append : (xs ys : List Event) → AreSilent xs → AreSilent ys → AreSilent (xs ++ ys)
silent_append [] ys a b = b
silent_append (x ∷ xs) ys a b = let parts = and_parts (is_silent x) (list_all is_silent xs) a in and_from (is_silent x) (list_all is_silent (xs ++ ys)) parts.0 (silent_append xs ys parts.1 b)

to_b_silent : (path : ℕ) (ms : List Move) → AreSilent (moves_to_b path ms)
to_b_silent path [] = refl
to_b_silent path (m ∷ ms) = to_b_silent path ms

to_a_silent : (path : ℕ) (ms : List Move) → AreSilent (moves_to_a path ms)
to_a_silent path [] = refl
to_a_silent path (m ∷ ms) = to_a_silent path ms

pub moves_silent : (ms : LaneMoves) → AreSilent (move_events ms)
moves_silent ms = silent_append (moves_to_b ms.path ms.ab) (moves_to_a ms.path ms.ba) (to_b_silent ms.path ms.ab) (to_a_silent ms.path ms.ba)

abbrev pub call_events : Option Event → List Event
call_events None = []
call_events (Some event) = event ∷ []

-- a join is begun by A, and answered after it was begun
abbrev pub MayBegin : Side → Type 0
MayBegin A = Unit {0}
MayBegin B = ⊥

abbrev pub MayAnswer : Side → SixBooks → Type 0
MayAnswer A six = Unit {0}
MayAnswer B six = six.control_a.fall.joined ≡ true

-- a call of a control book after which the modes of the connection go on by moves
abbrev pub MayCall : Side → ControlCall → SixBooks → Type 0
MayCall s (ControlCall.JoinBegin path) six = MayBegin s
MayCall s (ControlCall.JoinHeard path token) six = MayAnswer s six
MayCall s _ six = Unit {0}

-- by this ask no firm side falls back
abbrev pub StaysFirm : Links → Side → SixBooks → Ask → Type 0
StaysFirm links s six ask = is_firm links s ≡ true → is_fallback (control_of s (after_ask ask six)).fall.mode ≡ false

-- a duty whose step may be made: B hears only of joins that were begun, and an end falls back with its side
abbrev pub MayDo : SixBooks → Duty → Type 0
MayDo six (Duty.Ask (AskDuty.JoinHeard s)) = MayAnswer s six
MayDo six (Duty.Ask (AskDuty.GoIdentity s)) = is_plain (control_of s six).fall ≡ true
MayDo six _ = Unit {0}

-- a duty by which no firm side falls back: its end learns of no fall, and no item that it hears is one by which the side falls
abbrev pub DutyIsFirm : Links → SixBooks → PathState Carried → Duty → Type 0
DutyIsFirm links six p (Duty.Ask (AskDuty.GoIdentity s)) = is_firm links s ≡ false
DutyIsFirm links six p (Duty.Step (StepDuty.Heard s index)) = StaysFirm links s six (item_ask values s (item_of index (end_at s p)) p)
DutyIsFirm links six p _ = Unit {0}

-- on a path that joins MP_FAIL is heard only where B joined
abbrev pub FailsJoined : SixBooks → ℕ → PathState Carried → Duty → Type 0
FailsJoined six number p (Duty.Step (StepDuty.Heard s index)) =
    (n : ℕ) → number ≡ suc n → item_at index (end_at s p).treated.items ≡ Some Heard.Fail → six.control_b.fall.joined ≡ true
FailsJoined six number p _ = Unit {0}

-- A's side is sure of Multipath TCP only where A may send a DSS on path 0.
abbrev pub IsClearAt : Actor Carried → Type 0
IsClearAt (App a) = Unit {0}
IsClearAt (Path p) = p.a.modes.clear ≡ true

abbrev pub SureIsClear : WorldState Carried → Type 0
SureIsClear w = is_sure (books_in w.books).control_a.fall.mode ≡ true → (c : ActorCrew Carried) → slice_get w.crew 2 ≡ Some c → IsClearAt c.member

-- What a path may do next: as far as its first duty isn't one by which a book is asked or told, nothing was told since the books
-- were asked what is to be acknowledged; its first duty may be done; an end that may finish, of a path that joins, has joined; and
-- after a join A may send a DSS on path 0; no end of a path that joins fell back.
pub record PathIsSteady (six : SixBooks) (number : ℕ) (p : PathState Carried) : Type 0 where
  pub calm : (d : Duty) (ds : List Duty) → p.agenda ≡ d ∷ ds → (s : Side) → is_shield s d ≡ false → (end_at s p).treated.asked ≡ false
  pub may : (d : Duty) (ds : List Duty) → p.agenda ≡ d ∷ ds → MayDo six d
  pub fails : (d : Duty) (ds : List Duty) → p.agenda ≡ d ∷ ds → FailsJoined six number p d
  pub joined : (n : ℕ) → number ≡ suc n → (s : Side) → may_finish (end_at s p).tcp.state ≡ true → six.control_b.fall.joined ≡ true
  pub clear : number ≡ 0 → six.control_b.fall.joined ≡ true → p.a.modes.clear ≡ true
  pub mode : (n : ℕ) → number ≡ suc n → (s : Side) → (end_at s p).modes.identity ≡ false

abbrev pub MemberIsSteady : SixBooks → ℕ → Actor Carried → Type 0
MemberIsSteady six number (App a) = Unit {0}
MemberIsSteady six number (Path p) = PathIsSteady six number p

pub record IsSteady (w : WorldState Carried) : Type 0 where
  pub each : (number : ℕ) (c : ActorCrew Carried) → slice_get w.crew (suc (suc number)) ≡ Some c → MemberIsSteady (books_in w.books) number c.member
  -- and no book has too many bytes
  pub short : (s : Side) → length (send_of s (books_in w.books)).written ≤ 2 ^ 62 - 3

-- by the first duty of a path no firm side falls back
abbrev pub MemberIsFirm : Links → SixBooks → Actor Carried → Type 0
MemberIsFirm links six (App a) = Unit {0}
MemberIsFirm links six (Path p) = (d : Duty) (ds : List Duty) → p.agenda ≡ d ∷ ds → DutyIsFirm links six p d

-- nor by this turn
abbrev pub TurnIsFirm : Links → Turn → WorldState Carried → Type 0
TurnIsFirm links (Turn.Step (suc (suc number))) w = (c : ActorCrew Carried) → slice_get w.crew (suc (suc number)) ≡ Some c → MemberIsFirm links (books_in w.books) c.member
TurnIsFirm links _ w = Unit {0}

-- nor by these
abbrev pub RunIsFirm : Links → List Turn → WorldState Carried → Type 0
RunIsFirm links [] w = Unit {0}
RunIsFirm links (turn ∷ turns) w = TurnIsFirm links turn w × RunIsFirm links turns (after_turn values turn w)

-- no side is firm
abbrev pub NoneIsFirm : Links → Type 0
NoneIsFirm links = (s : Side) → is_firm links s ≡ false

module _ (links : Links) (none : NoneIsFirm links) where
  pub free_duty : (six : SixBooks) (p : PathState Carried) (d : Duty) → DutyIsFirm links six p d
  free_duty six p (Duty.Ask (AskDuty.GoIdentity s)) = none s
  free_duty six p (Duty.Step (StepDuty.Heard s index)) = λ firm. absurd (both_ways _ (none s) firm)
  free_duty six p _ = tt

  free_member : (six : SixBooks) (m : Actor Carried) → MemberIsFirm links six m
  free_member six (App a) = tt
  free_member six (Path p) = λ d ds is. free_duty six p d

  pub free_turn : (turn : Turn) (w : WorldState Carried) → TurnIsFirm links turn w
  free_turn (Turn.Step (suc (suc number))) w = λ c there. free_member (books_in w.books) c.member
  free_turn _ w = tt

  pub free_run : (turns : List Turn) (w : WorldState Carried) → RunIsFirm links turns w
  free_run [] w = tt
  free_run (turn ∷ turns) w = (free_turn turn w, free_run turns (after_turn values turn w))

-- The connection goes from one state to another by moves of its lanes, the call that was asked, and moves.
pub record TurnShows (ask : Option Ask) (d e : Duo) : Type 0 where
  pub before : List Event
  pub before_silent : AreSilent before
  pub call : Option Event
  pub after : List Event
  pub after_silent : AreSilent after
  pub calls : CallIs ask (after_events before d) call
  pub to : e ≡ after_events after (after_events (call_events call) (after_events before d))

-- ---- the two laws, and what follows

-- the connection of so many paths, before anything happens
abbrev pub first_duo : Links → Start → Duo
first_duo links start = opening_over links.alters links.checked (length start.paths) start.buffer start.buffer

-- Links that may carry a connection: they alter payload only where these may; mappings are checked only where it uses checksums; and a
-- full segment of each path has room for octets beside its options.
pub record Carries (start : Start) : Type 0 where
  pub links : Links
  pub may : links.alters ≡ false → (path : ℕ) → AltersNothing (lines_of path start.lines)
  pub checks : links.checked ≡ true → start.checksums ≡ true
  pub size : Every (λ plan. 29 ≤ plan.mss) start.paths

-- links that alter anything, and links that alter nothing; no side is firm
abbrev pub anyhow : (start : Start) → Every (λ plan. 29 ≤ plan.mss) start.paths → Carries start
anyhow start size = record { links = record { alters = true; checked = false; firm_a = false; firm_b = false }; may = λ none. absurd (true≢false none); checks = λ is. absurd (false≢true is); size = size }

-- links that alter anything, where mappings are checked
abbrev pub checkedly : (start : Start) → Every (λ plan. 29 ≤ plan.mss) start.paths → start.checksums ≡ true → Carries start
checkedly start size uses = record { links = record { alters = true; checked = true; firm_a = false; firm_b = false }; may = λ none. absurd (true≢false none); checks = λ is. uses; size = size }

abbrev pub plainly : (start : Start) → IsPlain start → Carries start
plainly start plain = record { links = record { alters = false; checked = false; firm_a = false; firm_b = false }; may = λ none. plain.unaltered; checks = λ is. absurd (false≢true is); size = plain.size }

pub anyhow_free : (start : Start) (size : Every (λ plan. 29 ≤ plan.mss) start.paths) → NoneIsFirm (anyhow start size).links
anyhow_free start size A = refl
anyhow_free start size B = refl

pub checkedly_free : (start : Start) (size : Every (λ plan. 29 ≤ plan.mss) start.paths) (uses : start.checksums ≡ true) → NoneIsFirm (checkedly start size uses).links
checkedly_free start size uses A = refl
checkedly_free start size uses B = refl

pub plainly_free : (start : Start) (plain : IsPlain start) → NoneIsFirm (plainly start plain).links
plainly_free start plain A = refl
plainly_free start plain B = refl

-- moves of the lanes before the first turn
abbrev pub OpenedShows : Links → Start → Type 0
OpenedShows links start = (events : List Event) × WorldShows links start (after_events events (first_duo links start)) (opened_world start)

pub record Shown (links : Links) (start : Start) (turn : Turn) (d : Duo) (w : WorldState Carried) : Type 0 where
  pub duo : Duo
  pub turn_shows : TurnShows (asked_in turn w) d duo
  pub world_shows : WorldShows links start duo (after_turn values turn w)

-- the opened world shows
abbrev pub EachOpeningShows : Type 0
EachOpeningShows = (start : Start) (can : Carries start) → OpenedShows can.links start

-- and every turn by which no firm side falls back keeps it, lawful or not
abbrev pub EachTurnShows : Type 0
EachTurnShows = (start : Start) (can : Carries start) (turn : Turn) (d : Duo) (w : WorldState Carried) → TurnIsFirm can.links turn w → IsSteady w → Holds d → WorldShows can.links start d w → Shown can.links start turn d w

-- after each list of turns the world shows in a connection that comes about by events from the opening
pub record Reached (links : Links) (start : Start) (w : WorldState Carried) : Type 0 where
  pub events : List Event
  pub shows : WorldShows links start (after_events events (first_duo links start)) w

abbrev pub EachRunShows : Type 0
EachRunShows = (start : Start) (can : Carries start) (turns : List Turn) → RunIsFirm can.links turns (opened_world start) → Reached can.links start (world_run values turns (opened_world start))

-- ---- events

pub events_append : (xs ys : List Event) (d : Duo) → after_events (xs ++ ys) d ≡ after_events ys (after_events xs d)
events_append [] ys d = refl
events_append (event ∷ xs) ys d = events_append xs ys (after_event event d)

abbrev pub turn_events : {ask : Option Ask} {d e : Duo} → TurnShows ask d e → List Event
turn_events t = t.before ++ (call_events t.call ++ t.after)

-- a turn is these events
pub turn_is : {ask : Option Ask} {d e : Duo} (t : TurnShows ask d e) → e ≡ after_events (turn_events t) d
turn_is {d = d} t =
    t.to ∙ sym (events_append (call_events t.call) t.after (after_events t.before d))
    ∙ sym (events_append t.before (call_events t.call ++ t.after) d)

-- ---- moves alone

-- the lanes moved, and no book was called
pub record Moved (d e : Duo) : Type 0 where
  pub events : List Event
  pub silent : AreSilent events
  pub to : e ≡ after_events events d

pub moved_along : (d e : Duo) → d ≡ e → Moved d e
moved_along d e same = record { events = []; silent = refl; to = sym same }

pub unmoved : (d : Duo) → Moved d d
unmoved d = record { events = []; silent = refl; to = refl }

pub then_moved : (c d e : Duo) → Moved c d → Moved d e → Moved c e
then_moved c d e x y = record {
  events = x.events ++ y.events;
  silent = silent_append x.events y.events x.silent y.silent;
  to = y.to ∙ ap (after_events y.events) x.to ∙ sym (events_append x.events y.events c);
}
