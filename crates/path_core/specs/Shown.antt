-- A path over segments as values, shown over octets.
use Rattle.std.specs.Prelude.{ℕ, ◌≡◌, ◌+◌, ◌^◌, ◌<◌, ◌≤◌, ◌⊎◌, true, false, if◌then◌else◌, IfSome, IsSome, Some, List}
use Rattle.sides.specs.declared.side.Side.{Side}
use Rattle.sides.specs.Side.{peer}
use Rattle.link_script.specs.declared.script.ScriptLine.{ScriptLine}
use Rattle.link_model.specs.declared.flight.Due.{Due}
use Rattle.link_model.specs.declared.flight.Flight.{Flight}
use Rattle.link_model.specs.Fate.{is_altered}
use Rattle.link_model.specs.Laws.{with_copies_shown}
use Rattle.link_model.specs.Octets.{octets_stripped}
use Rattle.link_model.specs.Steps.{next_number, arriving}
use Rattle.path_segments.specs.declared.expected.Expected.{Expected}
use Rattle.path_segments.specs.declared.spelling.Spelling.{Spelling}
use Rattle.path_segments.specs.HeardLent.{IsExpected}
use Rattle.path_segments.specs.Laws.{IsFresh}
use Rattle.path_segments.specs.Spelled.{PlainSegment, CanSay}
use Rattle.actor_desk.specs.declared.ask.Reply.{Reply}
use Rattle.path_core.specs.Arrival.{expected_by}
use Rattle.path_core.specs.Events.{next_event}
use Rattle.path_core.specs.declared.events.Event.TheVariants as happenings
use Rattle.path_core.specs.declared.looking.ToSend.{ToSend}
use Rattle.path_core.specs.Looking.{first_sends, segment_sent}
use Rattle.path_core.specs.Octets.{made, octets}
use Rattle.path_core.specs.Said.{CanBeSaid}
use Rattle.path_core.specs.State.{PathState, end_at}
use Rattle.path_core.specs.Steps.{asks_of, takes, next_round}
use Rattle.path_core.specs.Values.{Carried, values}

-- the octets of what is carried: those of the segment, or these without its options of Multipath TCP
abbrev pub octets_of : Spelling → Carried → List ℕ
octets_of spelling carried =
    let whole = made spelling carried.from carried.segment in
    if carried.stripped then octets_stripped spelling.path carried.from whole else whole

-- the path with the copies on its link as octets
abbrev pub shown_path : PathState Carried → PathState (List ℕ)
shown_path p = record {
  profile = p.profile;
  link = with_copies_shown (octets_of p.profile.spelling) p.link;
  clock = p.clock;
  until = p.until;
  lines = p.lines;
  joined_at = p.joined_at;
  a = p.a;
  b = p.b;
  agenda = p.agenda;
}

-- a script that alters no payload
pub record AltersNothing (lines : List ScriptLine) : Type 0 where
  pub alters : (from : Side) (number : ℕ) → is_altered from number lines ≡ false

-- A reset 2^31 positions or more ahead of what the end expects, below position 2^32; all its other numbers are near. The
-- nearest position that its number means would be before the first, so that octets tell none. A dead end sends such resets,
-- since it answers a segment without an acknowledgement at number 0, wherever that lies (RFC 9293, section 3.10.7.1).
pub record IsFarReset (spelling : Spelling) (from : Side) (expected : Expected) (s : PlainSegment) : Type 0 where
  pub reset : s.rst ≡ true
  pub acknowledging : IsSome s.acknowledged
  pub ahead : expected.edge + 2 ^ 31 ≤ s.position
  pub low : s.position < 2 ^ 32
  pub others : IsFresh spelling from expected (record s { position = expected.edge })

-- The segment of a copy that arrives can be said, and its numbers are near those that the end expects, but for the position of a
-- far reset. That is said of the segment with all its options, also where these were taken away.
pub record IsFreshCopy (p : PathState Carried) (to : Side) (carried : Carried) : Type 0 where
  pub from : carried.from ≡ peer to
  pub sayable : CanSay p.profile.spelling (peer to) carried.segment
  pub expected : IsExpected (expected_by (end_at to p))
  pub fresh : IsFresh p.profile.spelling (peer to) (expected_by (end_at to p)) carried.segment
      ⊎ IsFarReset p.profile.spelling (peer to) (expected_by (end_at to p)) carried.segment

-- the copy that is due next is fresh, where one is
abbrev pub NextIsFresh : PathState Carried → Type 0
NextIsFresh p = (due : Due) (flight : Flight Carried) → next_event p ≡ Some (happenings.Arrives due) → arriving due p.link ≡ Some flight
    → IsFreshCopy p due.to flight.carried

-- where a bit of its payload is turned on its way, the segment can be said
abbrev pub CanBeAltered : PathState Carried → ToSend → Type 0
CanBeAltered p t = is_altered t.from (next_number t.from p.link) p.link.lines ≡ true
    → CanBeSaid p.profile.spelling t.from (segment_sent p t)

-- the segment that the next step sends, where it sends one
abbrev pub SentCanBeAltered : PathState Carried → Type 0
SentCanBeAltered p = IfSome (first_sends p.agenda p) (CanBeAltered p)

-- what a path over octets asks is what the path over values asks
abbrev pub AsksTheSame : Type 0
AsksTheSame = (p : PathState Carried) → asks_of octets (shown_path p) ≡ asks_of values p

-- a path over octets takes each reply as the path over values does, shown over octets
abbrev pub TakesTheSame : Type 0
TakesTheSame = (r : Reply) (p : PathState Carried) → SentCanBeAltered p → NextIsFresh p
    → takes octets r (shown_path p) ≡ shown_path (takes values r p)

-- a round begins with the path over octets and the path over values alike
abbrev pub BeginsTheSame : Type 0
BeginsTheSame = (p : PathState Carried) → next_round (shown_path p) ≡ shown_path (next_round p)
