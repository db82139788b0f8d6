-- The exchange of an ask between the open ends of a path: where it asks for the Data ACK of a DATA_FIN, the peer heard that before it
-- answers (RFC 8684, section 3.3.3).
use Rattle.std.specs.Prelude.{ℕ, ◌+◌, ◌-◌, ◌^◌, ◌≡◌, ◌<◌, ◌≤◌, ◌⊎◌, Bool, true, Some, List, [], slice_get}
use Rattle.sides.specs.declared.side.Side.{Side}
use Rattle.sides.specs.Side.{peer}
use Rattle.link_model.specs.Steps.{segments_sent}
use Rattle.reassembly_book.specs.State.{received}
use Rattle.actor_desk.specs.Books.{books_in}
use Rattle.actor_desk.specs.Desk.{SixBooks, reassembly_of}
use Rattle.path_core.specs.DataFin.{is_data_fin_owed}
use Rattle.path_core.specs.State.{PathState, end_at}
use Rattle.path_core.specs.Values.{Carried, values}
use Rattle.world_laws.specs.declared.member.Member.TheVariants.{Path}
use Rattle.world_laws.specs.Actors.{Actor, ActorCrew}
use Rattle.world_laws.specs.Members.{HoldsOfKind}
use Rattle.world_laws.specs.Openings.{Start, opened_world}
use Rattle.world_laws.specs.Worlds.{Turn, after_turn, world_run}
use Rattle.whole_paths.specs.Closing.{IsFinHeard}
use Rattle.whole_paths.specs.DataAcksAsked.{IsAskedSo}
use Rattle.whole_paths.specs.DataAcksExchanged.{IsInquired}
use Rattle.whole_paths.specs.DataAcksExchanged.IsInquired.{asks}
use Rattle.whole_paths.specs.Exchanges.{IsHeldUp}
use Rattle.whole_paths.specs.Mild.{IsMildStart}
use Rattle.whole_paths.specs.News.{one_if}
use Rattle.whole_paths.specs.OpenAsks.{IsHardlyAwry, IsUnansweredAt}
use Rattle.whole_paths.specs.Straying.{IsOpen}
use Rattle.whole_paths.specs.DataAcksOwed.{KnowsWhereItSends}

-- ---- an exchange

-- what the end asks brings its DATA_FIN
abbrev pub BringsEnd : {s : Side} {place : ℕ} {fin : Bool} {by : ℕ} {p : PathState Carried} → IsInquired s place fin by p → Type 0
BringsEnd (asks arrival soon h so) = IsAskedSo (λ e stripped altered. is_data_fin_owed e ≡ true) h
BringsEnd _ = ⊥

-- An end without a record waits for the Data ACK of this place, to be answered by this tick, as the books are so. The peer's book has all bytes
-- before the place, but for that of the DATA_FIN; and that the peer heard it, or it is on its way.
pub record IsAnswerAwaited (six : SixBooks) (s : Side) (place : ℕ) (fin : Bool) (by : ℕ) (p : PathState Carried) : Type 0 where
  pub none : (end_at s p).tcp.send.records ≡ []
  pub unanswered : IsUnansweredAt six s place fin p
  pub has : place ≤ received (reassembly_of (peer s) six) + one_if fin
  pub inquiry : IsInquired s place fin by p
  pub end : (fin ≡ true → IsFinHeard (peer s) p) ⊎ BringsEnd inquiry

-- ---- what becomes of it

-- as the path becomes another one, and the books are so
pub data AnswerIsAwaitedOn (later : SixBooks) (s : Side) (place : ℕ) (fin : Bool) (by : ℕ) (p q : PathState Carried) : Type 0 where
  on : IsAnswerAwaited later s place fin by q → AnswerIsAwaitedOn later s place fin by p q
  -- the end has a record: SND.NXT rose
  sends : (end_at s p).tcp.send.nxt < (end_at s q).tcp.send.nxt → AnswerIsAwaitedOn later s place fin by p q
  -- there is news, as where the end was answered, or a segment is harmed, or an end dies
  held_up : IsHeldUp s p q → AnswerIsAwaitedOn later s place fin by p q
  awry : IsHardlyAwry s p q → AnswerIsAwaitedOn later s place fin by p q

-- of paths of which this holds
module _ (Holds : PathState Carried → Type 0) where
  -- As the path becomes this actor, and it still holds, with fewer than 2^64 - 1 segments sent from each side. The peer's end knows as it sends that
  -- the place is wanted, once the DATA_FIN was heard.
  abbrev pub AnswerIsAwaitedBy : SixBooks → SixBooks → Actor Carried → Actor Carried → Type 0
  AnswerIsAwaitedBy six later (Path p) (Path q) =
      Holds p → Holds q → ((t : Side) → segments_sent t p.link < 2 ^ 64 - 1)
      → (s : Side) (place : ℕ) (fin : Bool) (by : ℕ) → ((fin ≡ true → IsFinHeard (peer s) p) → KnowsWhereItSends (peer s) place p)
      → IsAnswerAwaited six s place fin by p → AnswerIsAwaitedOn later s place fin by p q
  AnswerIsAwaitedBy six later _ _ = Unit {0}

  -- where the turn of the path is over such a wait begins, for a minute and 400 ticks there and back
  abbrev pub AnswerIsAwaitedFrom : SixBooks → PathState Carried → Type 0
  AnswerIsAwaitedFrom six p = Holds p → p.agenda ≡ [] → (s : Side) → (end_at s p).tcp.send.records ≡ [] → (place : ℕ) (fin : Bool) → IsUnansweredAt six s place fin p
      → place ≤ received (reassembly_of (peer s) six) + one_if fin
      → IsAnswerAwaited six s place fin (p.clock + 60000 + 400 + 400) p

  -- at any moment of a mild connection, and by any turn
  pub record AsksAreAnswered : Type 0 where
    pub begin : (start : Start) (turns : List Turn) → IsMildStart start → let w = world_run values turns (opened_world start) in
        (actor : ℕ) (c : ActorCrew Carried) → slice_get w.crew actor ≡ Some c → HoldsOfKind (λ app. Unit {0}) (AnswerIsAwaitedFrom (books_in w.books)) c.member
    pub goes_on : (start : Start) (turns : List Turn) (turn : Turn) → IsMildStart start
        → let w = world_run values turns (opened_world start) in let v = after_turn values turn w in
        (actor : ℕ) (c d : ActorCrew Carried) → slice_get w.crew actor ≡ Some c → slice_get v.crew actor ≡ Some d
        → AnswerIsAwaitedBy (books_in w.books) (books_in v.books) c.member d.member

abbrev pub OpenAsksAreAnswered : Type 0
OpenAsksAreAnswered = AsksAreAnswered IsOpen
