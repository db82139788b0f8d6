-- How far a connection is, by what can't be lost again: one moment is as far as another one.
use Rattle.std.specs.Prelude.{ℕ, ◌≡◌, ◌≤◌, true, is_some, Some, List, ◌++◌, length, slice_get}
use Rattle.octet_text.specs.Prefix.{IsPrefix}
use Rattle.sides.specs.declared.side.Side.{Side}
use Rattle.send_book.specs.Laws.{IsAckedAt}
use Rattle.send_book.specs.State.{Sending}
use Rattle.reassembly_book.specs.State.{Arriving, received}
use Rattle.subflow_tcp.specs.declared.handshake.State.{State}
use Rattle.subflow_tcp.specs.declared.handshake.State.TheVariants.{Waiting, Listen, SynSent, SynReceived, Established, FinWait1, FinWait2, CloseWait, Closing, LastAck, TimeWait, Dead}
use Rattle.subflow_tcp.specs.State.{EndState}
use Rattle.actor_desk.specs.declared.ask.Note.{Note}
use Rattle.actor_desk.specs.Books.{books_in}
use Rattle.actor_desk.specs.Desk.{SixBooks, send_of, reassembly_of}
use Rattle.path_core.specs.Codec.{Codec}
use Rattle.path_core.specs.End.{PathEnd}
use Rattle.path_core.specs.Sending.{Sending as OwnStream}
use Rattle.path_core.specs.State.{PathState}
use Rattle.world_laws.specs.declared.member.Member.TheVariants.{App, Path}
use Rattle.world_laws.specs.Actors.{Actor, ActorCrew}
use Rattle.world_laws.specs.Worlds.{WorldState, Turn, world_run}

-- ---- an end of a path

-- how far a state is on the way from the opening to the end (RFC 9293, section 3.3.2)
abbrev pub stage : State → ℕ
stage Waiting = 0
stage Listen = 0
stage SynSent = 1
stage SynReceived = 2
stage Established = 3
stage FinWait1 = 4
stage CloseWait = 4
stage FinWait2 = 5
stage Closing = 5
stage LastAck = 5
stage TimeWait = 6
stage Dead = 7

-- the subflow: SND.UNA, SND.NXT and RCV.NXT by position, and the state
pub record IsSubflowAsFar (s t : EndState) : Type 0 where
  pub acknowledged : s.send.una ≤ t.send.una
  pub pushed : s.send.nxt ≤ t.send.nxt
  pub received : s.recv.edge ≤ t.recv.edge
  pub state : stage s.state ≤ stage t.state

-- the side's own stream, as this end knows it: how many bytes its peer acknowledged (RFC 8684, section 3.3.2), that it sent the
-- DATA_FIN, that this is acknowledged, and that the peer's came (section 3.3.3)
pub record IsStreamAsFar (v w : OwnStream) : Type 0 where
  pub heard : v.heard ≤ w.heard
  pub fin_sent : v.fin_sent ≡ true → w.fin_sent ≡ true
  pub fin_acknowledged : v.close.own_acked ≡ true → w.close.own_acked ≡ true
  pub fin_came : v.close.peer_came ≡ true → w.close.peer_came ≡ true

pub record IsEndAsFar (e f : PathEnd) : Type 0 where
  pub subflow : IsSubflowAsFar e.tcp f.tcp
  pub stream : IsStreamAsFar e.sending f.sending
  -- the end may send a DSS
  pub clear : e.modes.clear ≡ true → f.modes.clear ≡ true
  -- it knows its peer's key
  pub keyed : is_some e.modes.peer_key ≡ true → is_some f.modes.peer_key ≡ true

-- ---- a path

pub record IsPathAsFar {C : Type 0} (p q : PathState C) : Type 0 where
  pub a : IsEndAsFar p.a q.a
  pub b : IsEndAsFar p.b q.b
  -- the first tick after the round
  pub until : p.until ≤ q.until
  -- lines that aren't taken yet
  pub lines : length q.lines ≤ length p.lines

-- ---- a side

-- a side's send book: what is written, each acknowledged byte, the edge of the peer's window, and the end
pub record IsSendAsFar (b c : Sending) : Type 0 where
  pub written : IsPrefix b.written c.written
  pub closed : b.closed ≡ true → c.closed ≡ true
  pub acknowledged : (place : ℕ) → IsAckedAt place b → IsAckedAt place c
  pub edge : b.edge ≤ c.edge
  pub fin : b.fin ≡ true → c.fin ≡ true

-- a side's reassembly book: how much is read, and received without a gap, and where the peer's stream ends
pub record IsArrivalAsFar (b c : Arriving) : Type 0 where
  pub read : b.read ≤ c.read
  pub received : received b ≤ received c
  pub end : (place : ℕ) → b.known_end ≡ Some place → c.known_end ≡ Some place

pub record IsSideAsFar (s : Side) (v w : SixBooks) : Type 0 where
  pub send : IsSendAsFar (send_of s v) (send_of s w)
  pub arrival : IsArrivalAsFar (reassembly_of s v) (reassembly_of s w)

-- ---- the connection

module _ {C : Type 0} where
  -- an application stays one, and a path
  abbrev pub IsActorAsFar : Actor C → Actor C → Type 0
  IsActorAsFar (App a) (App b) = Unit {0}
  IsActorAsFar (Path p) (Path q) = IsPathAsFar p q
  IsActorAsFar _ _ = ⊥

  -- with the steps that it made, and more
  pub record IsCrewAsFar (c d : ActorCrew C) : Type 0 where
    pub member : IsActorAsFar c.member d.member
    pub more : List Note
    pub list_is : d.list ≡ c.list ++ more

  -- each actor, and each side
  pub record IsAsFar (w v : WorldState C) : Type 0 where
    pub crew : (actor : ℕ) (c : ActorCrew C) → slice_get w.crew actor ≡ Some c
        → (d : ActorCrew C) × (slice_get v.crew actor ≡ Some d) × IsCrewAsFar c d
    pub sides : (s : Side) → IsSideAsFar s (books_in w.books) (books_in v.books)

  -- by whatever turns
  abbrev pub NothingGoesBack : Codec C → Type 0
  NothingGoesBack k = (w : WorldState C) (more : List Turn) → IsAsFar w (world_run k more w)
