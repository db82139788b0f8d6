-- What arrived of a side's stream was sent.
use Rattle.std.specs.Prelude.{◌≡◌, ℕ, ◌-◌, ◌<◌, ◌≤◌, ◌⊎◌, Some, List, length, take}
use Rattle.std.specs.List.{slice_get}
use Rattle.sides.specs.Side.{peer}
use Rattle.sides.specs.declared.side.Side.{Side}
use Rattle.actor_desk.specs.Books.{books_in}
use Rattle.actor_desk.specs.Desk.{reassembly_of}
use Rattle.link_trace.specs.declared.sent.Sent.{Sent}
use Rattle.path_core.specs.Octets.{made, octets}
use Rattle.path_segments.specs.Options.{PlainOption}
use Rattle.path_segments.specs.Spelled.{PlainSegment}
use Rattle.path_segments.specs.declared.segment.PathOption.TheVariants.{Dss}
use Rattle.path_segments.specs.declared.spelling.Spelling.{Spelling}
use Rattle.reassembly_book.specs.State.{Arriving}
use Rattle.run_trace.specs.Trace.{trace_of}
use Rattle.stream_lanes.specs.Words.{Every, Has}
use Rattle.own_runs.specs.Sending.{CarriesPlace}
use Rattle.world_laws.specs.Openings.{Start, opened_world}
use Rattle.world_laws.specs.Promises.{HasRoom, IsPlain, NumbersFit}
use Rattle.world_laws.specs.Worlds.{Turn, world_run}
use Rattle.own_runs.specs.Runs.{file_of}

-- The receiver's book gave the octet at this place to its reader, or holds it.
abbrev pub HasCome : ℕ → Arriving → Type 0
HasCome place book = (place < book.read) ⊎ ((book.read ≤ place) × ((octet : ℕ) × (slice_get book.places (place - book.read) ≡ Some (Some octet))))

-- After any turns of a connection whose script alters no payload, each octet that came to a side was in a segment that the other side handed to
-- a link, as a part of its file.
abbrev pub WhatCameWasSent : Type 0
WhatCameWasSent =
    (start : Start) (turns : List Turn) → IsPlain start → NumbersFit start
    → (s : Side) (place : ℕ) → HasCome place (reassembly_of (peer s) (books_in (world_run octets turns (opened_world start)).books))
    → Has (CarriesPlace s (file_of start s) place) (trace_of turns (opened_world start))

-- A Data ACK in it covers octets of the other side's file that were carried before, and perhaps the place of the DATA_FIN behind the last one.
abbrev pub AckIsCarried : Start → List Sent → Side → PlainOption → Type 0
AckIsCarried start before s (Dss (Some next) mapping) =
    (place : ℕ) → place < next → Has (CarriesPlace (peer s) (file_of start (peer s)) place) before ⊎ (place ≡ length (file_of start (peer s)))
AckIsCarried start before s _ = Unit {0}

-- The segment, as it was made.
pub record AcksAreCarried (start : Start) (before : List Sent) (x : Sent) : Type 0 where
  pub spelling : Spelling
  pub segment : PlainSegment
  pub octets : x.octets ≡ made spelling x.from segment
  pub acks : Every (AckIsCarried start before x.from) segment.options

-- So it is with each segment of a trace, and those before it.
abbrev pub EachAckIsCarried : Type 0
EachAckIsCarried =
    (start : Start) (turns : List Turn) → IsPlain start → NumbersFit start
    → (i : ℕ) (x : Sent) → slice_get (trace_of turns (opened_world start)) i ≡ Some x → AcksAreCarried start (take i (trace_of turns (opened_world start))) x

-- A Data ACK is no less than an earlier one.
abbrev pub AckRises : PlainOption → PlainOption → Type 0
AckRises (Dss (Some one) mapping) (Dss (Some other) more) = one ≤ other
AckRises _ _ = Unit {0}

-- Two segments, as they were made: each Data ACK of the second is no less than each of the first.
pub record AcksRise (x y : Sent) : Type 0 where
  pub spelling : Spelling
  pub one : PlainSegment
  pub one_octets : x.octets ≡ made spelling x.from one
  pub other_spelling : Spelling
  pub other : PlainSegment
  pub other_octets : y.octets ≡ made other_spelling y.from other
  pub rises : Every (λ o. Every (AckRises o) other.options) one.options

-- So it is with each two segments of a side on a path, in the order of the trace.
abbrev pub EachAckRises : Type 0
EachAckRises =
    (start : Start) (turns : List Turn) → HasRoom start → NumbersFit start
    → (i j : ℕ) (x y : Sent) → i ≤ j → slice_get (trace_of turns (opened_world start)) i ≡ Some x → slice_get (trace_of turns (opened_world start)) j ≡ Some y
    → x.path ≡ y.path → x.from ≡ y.from → AcksRise x y
