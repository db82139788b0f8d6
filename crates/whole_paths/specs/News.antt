-- How far a connection is, as one number: the sum of all that can't be lost again.
use Rattle.std.specs.Prelude.{ℕ, ◌+◌, ◌-◌, ◌*◌, ◌≡◌, ◌<◌, ◌≤◌, Bool, true, false, not, if◌then◌else◌, is_some, Some, List, length, sum_by, slice_get}
use Rattle.sides.specs.declared.side.Side.{Side}
use Rattle.sides.specs.declared.side.Side.TheVariants.{A, B}
use Rattle.send_book.specs.State.{Sending}
use Rattle.reassembly_book.specs.State.{Arriving, received}
use Rattle.subflow_tcp.specs.State.{EndState}
use Rattle.subflow_tcp.specs.States.{is_dead}
use Rattle.actor_desk.specs.Books.{books_in}
use Rattle.actor_desk.specs.Desk.{SixBooks, send_of, reassembly_of}
use Rattle.path_core.specs.Codec.{Codec}
use Rattle.path_core.specs.End.{PathEnd}
use Rattle.path_core.specs.Sending.{Sending as OwnStream}
use Rattle.path_core.specs.State.{PathState, end_at}
use Rattle.world_laws.specs.declared.member.Member.TheVariants.{Path}
use Rattle.world_laws.specs.Actors.{Actor, ActorCrew}
use Rattle.world_laws.specs.Members.{of_kind}
use Rattle.world_laws.specs.Openings.{Start}
use Rattle.world_laws.specs.Promises.{IsPlain, NumbersFit}
use Rattle.world_laws.specs.RoundDone.{reached}
use Rattle.world_laws.specs.Worlds.{WorldState, Turn, world_run}
use Rattle.whole_paths.specs.AsFar.{stage}
use Rattle.whole_paths.specs.Harms.{harms_left}
use Rattle.whole_paths.specs.Waits.{IsNews}

abbrev pub one_if : Bool → ℕ
one_if b = if b then 1 else 0

-- SND.UNA, SND.NXT and RCV.NXT, and how far the state is (RFC 9293, section 3.3)
abbrev pub subflow_news : EndState → ℕ
subflow_news t = t.send.una + t.send.nxt + t.recv.edge + stage t.state

-- the bytes that are acknowledged by Data ACKs (RFC 8684, section 3.3.2), and what is known of both DATA_FINs (section 3.3.3)
abbrev pub stream_news : OwnStream → ℕ
stream_news v = v.heard + one_if v.fin_sent + one_if v.close.own_acked + one_if v.close.peer_came

-- with it, whether the end may send a DSS, and whether no answer to its third MP_JOIN is missing (section 3.2)
abbrev pub end_news : PathEnd → ℕ
end_news e = subflow_news e.tcp + stream_news e.sending + one_if e.modes.clear + one_if (not e.modes.owes_third)

-- what a side wrote, the edge of its peer's window, whether its stream is closed, and whether the end of it is acknowledged
abbrev pub sent_news : Sending → ℕ
sent_news b = length b.written + b.edge + one_if b.closed + one_if b.fin

-- what it received without a gap and read, and whether it knows the end of the peer's stream
abbrev pub arrived_news : Arriving → ℕ
arrived_news b = received b + b.read + one_if (is_some b.known_end)

abbrev pub side_news : SixBooks → Side → ℕ
side_news books s = sent_news (send_of s books) + arrived_news (reassembly_of s books)

-- What a side gains: more is written, received without a gap or read, the edge of its peer's window rises, its stream is closed, or it knows
-- where its peer's ends.
pub data Gains (s : Side) (v w : SixBooks) : Type 0 where
  writes : length (send_of s v).written < length (send_of s w).written → Gains s v w
  opens : (send_of s v).edge < (send_of s w).edge → Gains s v w
  closes : (send_of s v).closed ≡ false → (send_of s w).closed ≡ true → Gains s v w
  receives : received (reassembly_of s v) < received (reassembly_of s w) → Gains s v w
  reads : (reassembly_of s v).read < (reassembly_of s w).read → Gains s v w
  learns : is_some (reassembly_of s v).known_end ≡ false → is_some (reassembly_of s w).known_end ≡ true → Gains s v w

-- the greatest number that there can be
abbrev pub most_news : Start → ℕ
most_news start =
    let bytes = length start.file_a + length start.file_b in
    4 * bytes + 2 * start.buffer + 8 + length start.paths * (4 * bytes + 38 + length start.lines)

module _ {C : Type 0} where
  -- lines of the script that aren't taken yet, and those by which segments will be lost or late
  abbrev pub lines_left : PathState C → ℕ
  lines_left p = length p.lines + harms_left p.link

  -- both ends, and the lines that are used
  abbrev pub path_news : Start → PathState C → ℕ
  path_news start p = end_news p.a + end_news p.b + (length start.lines - lines_left p)

  -- all paths, and both sides
  abbrev pub news : Start → WorldState C → ℕ
  news start w =
      sum_by (λ c. of_kind (λ app. 0) (path_news start) c.member) w.crew + side_news (books_in w.books) A + side_news (books_in w.books) B

  -- by no turns it falls
  abbrev pub NewsNeverFalls : Codec C → Type 0
  NewsNeverFalls k = (start : Start) (before more : List Turn) → let w = reached k start before in news start w ≤ news start (world_run k more w)

  -- What counts: there is news at an end, or its RCV.NXT or SND.NXT rises, or it goes further on the way from the opening on, may send a DSS, or
  -- dies; or a line of the script is taken, or used by a segment.
  pub data Counts (p q : PathState C) : Type 0 where
    at_end : (s : Side) → IsNews (end_at s p) (end_at s q) → Counts p q
    in_order : (s : Side) → (end_at s p).tcp.recv.edge < (end_at s q).tcp.recv.edge → Counts p q
    sent_more : (s : Side) → (end_at s p).tcp.send.nxt < (end_at s q).tcp.send.nxt → Counts p q
    further : (s : Side) → stage (end_at s p).tcp.state < stage (end_at s q).tcp.state → Counts p q
    clears : (s : Side) → (end_at s p).modes.clear ≡ false → (end_at s q).modes.clear ≡ true → Counts p q
    dies : (s : Side) → is_dead (end_at s p).tcp.state ≡ false → is_dead (end_at s q).tcp.state ≡ true → Counts p q
    line : length q.lines < length p.lines → Counts p q
    harm : harms_left q.link < harms_left p.link → Counts p q

  -- on a path, as it becomes this actor
  abbrev pub ActorCounts : Actor C → Actor C → Type 0
  ActorCounts (Path p) (Path q) = Counts p q
  ActorCounts _ _ = ⊥

  -- with each of these it rises
  abbrev pub EachNewsCounts : Codec C → Type 0
  EachNewsCounts k = (start : Start) (before more : List Turn) → let w = reached k start before in let v = world_run k more w in
      (actor : ℕ) (c d : ActorCrew C) → slice_get w.crew actor ≡ Some c → slice_get v.crew actor ≡ Some d → ActorCounts c.member d.member
      → news start w < news start v

  -- with each gain of a side it rises too
  abbrev pub EachGainCounts : Codec C → Type 0
  EachGainCounts k = (start : Start) (before more : List Turn) → let w = reached k start before in let v = world_run k more w in
      (s : Side) → Gains s (books_in w.books) (books_in v.books) → news start w < news start v

  -- There is so much at most: each byte of a file counts eight times over one path, and four times more for each further one.
  abbrev pub NewsIsBounded : Codec C → Type 0
  NewsIsBounded k = (start : Start) (turns : List Turn) → IsPlain start → NumbersFit start → news start (reached k start turns) ≤ most_news start
