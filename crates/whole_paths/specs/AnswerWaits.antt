-- A wait for the answer of an ask: until its exchange is over by this tick (RFC 8684, section 3.3.2).
use Rattle.std.specs.Prelude.{ℕ, ◌+◌, ◌≡◌, ◌<◌, ◌≤◌, ◌⊎◌, Bool, true, List, [], None}
use Rattle.sides.specs.declared.side.Side.{Side}
use Rattle.sides.specs.Side.{peer}
use Rattle.reassembly_book.specs.State.{received}
use Rattle.actor_desk.specs.Books.{books_in}
use Rattle.actor_desk.specs.Desk.{SixBooks, reassembly_of}
use Rattle.path_core.specs.State.{PathState, end_at}
use Rattle.path_core.specs.Values.{Carried, values}
use Rattle.world_laws.specs.Openings.{Start}
use Rattle.world_laws.specs.RoundDone.{reached}
use Rattle.world_laws.specs.Worlds.{Turn}
use Rattle.whole_paths.specs.AskStages.{IsAnswerAwaited}
use Rattle.whole_paths.specs.Courses.{counted_at, round_end}
use Rattle.whole_paths.specs.Finish.{IsPathAt}
use Rattle.whole_paths.specs.Mild.{IsMildStart}
use Rattle.whole_paths.specs.News.{one_if}
use Rattle.whole_paths.specs.OpenAsks.{IsUnansweredAt}
use Rattle.whole_paths.specs.RecordWaits.{OpensAt, StepsAt}
use Rattle.whole_paths.specs.Straying.{IsOpen}
use Rattle.whole_paths.specs.Wanted.{WantsUpTo}

-- the side's book wants this place, and its end knows so or asks before it sends; or the book doesn't know yet where the stream ends
abbrev pub IsWantedOrUnknown : SixBooks → Side → ℕ → Bool → PathState Carried → Type 0
IsWantedOrUnknown six s place fin p = WantsUpTo six s place p ⊎ ((fin ≡ true) × ((reassembly_of s six).known_end ≡ None))

module _ (number : ℕ) (start : Start) where
  -- After these turns an end of the path of this number without a record waits for an answer, and its peer sent no more than the end's window has room
  -- for. The peer's book wants the place, and its end knows so or asks before it sends; or the book isn't told yet where the stream ends.
  pub record AwaitsAnAnswerAt (x : ℕ) (turns : List Turn) : Type 0 where
    pub path : PathState Carried
    pub here : IsPathAt number (reached values start turns) path
    pub side : Side
    pub place : ℕ
    pub fin : Bool
    pub by : ℕ
    pub soon : by ≤ x
    pub room : (end_at (peer side) path).tcp.send.nxt ≤ (end_at side path).tcp.recv.edge + 1048576
    pub waits : IsAnswerAwaited (books_in (reached values start turns).books) side place fin by path
    pub wanted : IsWantedOrUnknown (books_in (reached values start turns).books) (peer side) place fin path

  -- such an end is to be answered by a place all before which its peer's book has, but for the byte of the DATA_FIN
  pub record HasAnAskAt (turns : List Turn) : Type 0 where
    pub path : PathState Carried
    pub here : IsPathAt number (reached values start turns) path
    pub side : Side
    pub place : ℕ
    pub fin : Bool
    pub none : (end_at side path).tcp.send.records ≡ []
    pub unanswered : IsUnansweredAt (books_in (reached values start turns).books) side place fin path
    pub has : place ≤ received (reassembly_of (peer side) (books_in (reached values start turns).books)) + one_if fin
    pub room : (end_at (peer side) path).tcp.send.nxt ≤ (end_at side path).tcp.recv.edge + 1048576

  abbrev RisesAt : List Turn → List Turn → Type 0
  RisesAt v u = counted_at values start number v < counted_at values start number u

  -- Of each moment this is known of the path. As a round begins a wait begins, for a minute and 400 ticks there and back; it goes on by each step, and
  -- as the next round begins, or something is counted; and no round begins past it.
  pub record AnswersAreAwaitedAt (Holds : PathState Carried → Type 0) (most : ℕ) : Type 0 where
    pub begins : (v u : List Turn) → OpensAt number Holds start most v u → HasAnAskAt v → AwaitsAnAnswerAt (round_end values start v + 60800) u
    pub on : (x : ℕ) (v u : List Turn) → StepsAt number Holds start most v u → AwaitsAnAnswerAt x v → RisesAt v u ⊎ AwaitsAnAnswerAt x u
    pub next : (x : ℕ) (v u : List Turn) → OpensAt number Holds start most v u → AwaitsAnAnswerAt x v → RisesAt v u ⊎ AwaitsAnAnswerAt x u
    pub due : (x : ℕ) (v u : List Turn) → OpensAt number Holds start most v u → AwaitsAnAnswerAt x v → x < round_end values start v → RisesAt v u

-- where path 0 is open
module _ (start : Start) where
  abbrev pub AwaitsAnAnswer : ℕ → List Turn → Type 0
  AwaitsAnAnswer = AwaitsAnAnswerAt 0 start

  abbrev pub HasAnAsk : List Turn → Type 0
  HasAnAsk = HasAnAskAt 0 start

  abbrev pub AnswersAreAwaited : ℕ → Type 0
  AnswersAreAwaited = AnswersAreAwaitedAt 0 start IsOpen

-- in each mild connection, over however many paths
abbrev pub AnswersAreAwaitedAlways : Type 0
AnswersAreAwaitedAlways = (start : Start) (most : ℕ) → IsMildStart start → AnswersAreAwaited start most
