-- Checksums of mappings (RFC 8684, section 3.3.1): each that is told is that of its octets. Where no payload is altered no check fails,
-- no MP_FAIL is under way, and no side knows of a failure or goes by an infinite mapping (section 3.7).
use Rattle.std.specs.Prelude.{ℕ, ◌≡◌, ◌+◌, ◌%◌, ◌^◌, ◌≤◌, Bool, true, false, Option, Some, None, List, length, take, drop, slice_get, unwrap_or}
use Rattle.std.specs.List.{list_any}
use Rattle.sides.specs.declared.side.Side.{Side}
use Rattle.sides.specs.Side.{peer}
use Rattle.dss_checksum.specs.Checksum.{dss_checksum}
use Rattle.fallback_state.specs.declared.fall.Event.TheVariants.{CheckFailed}
use Rattle.fallback_state.specs.Modes.{is_infinite}
use Rattle.control_book.specs.declared.call.ControlCall.TheVariants.{Fell}
use Rattle.link_model.specs.declared.flight.Flight.{Flight}
use Rattle.mptcp_options.specs.declared.capable.CapableKeys.{CapableKeys}
use Rattle.mptcp_options.specs.declared.capable.CapableKeys.TheVariants.{WithData}
use Rattle.path_segments.specs.declared.segment.PathMapping.{PathMapping}
use Rattle.path_segments.specs.declared.segment.PathMapping.TheVariants.{Bytes}
use Rattle.path_segments.specs.declared.segment.PathOption.TheVariants.{Capable, Dss, Fail}
use Rattle.path_segments.specs.declared.spelling.Spelling.{Spelling}
use Rattle.path_segments.specs.Options.{PlainOption}
use Rattle.path_segments.specs.Spelling.{numbers_of}
use Rattle.stream_lanes.specs.Words.{Every}
use Rattle.actor_desk.specs.declared.ask.Ask.{Ask}
use Rattle.actor_desk.specs.declared.ask.Ask.TheVariants.{Control}
use Rattle.actor_desk.specs.declared.ask.Note.{Note}
use Rattle.actor_desk.specs.Books.{books_in}
use Rattle.actor_desk.specs.Desk.{control_of}
use Rattle.path_core.specs.Values.{Carried}
use Rattle.world_laws.specs.declared.member.Member.TheVariants.{App, Path}
use Rattle.world_laws.specs.Actors.{Actor, ActorCrew}
use Rattle.world_laws.specs.Outcomes.{notes_at}
use Rattle.world_laws.specs.Promises.{written_by}
use Rattle.world_laws.specs.Worlds.{WorldState}

-- ---- checksums

-- the checksum of a mapping of `len` octets of a side's stream from this place on: over the data number with 64 bits,
-- the relative subflow number, the length, and the octets
abbrev pub sum_over : Spelling → Side → List ℕ → ℕ → ℕ → ℕ → ℕ
sum_over spelling s written place position len =
    dss_checksum
    (record {
      number = ((numbers_of spelling s).idsn.0 + (place + 1)) % 2 ^ 64;
      relative = position % 2 ^ 32;
      length = len;
      checksum = 0;
    })
    (take len (drop place written))

-- a mapping names octets that were written, and where checksums are used tells theirs; one that isn't told counts as 0
pub record IsSummedUp (spelling : Spelling) (s : Side) (written : List ℕ) (place position len : ℕ) (sum : Option ℕ) : Type 0 where
  pub within : place + len ≤ length written
  pub right : spelling.checksums ≡ true → unwrap_or sum 0 ≡ sum_over spelling s written place position len

abbrev pub MappingIsSummed : Spelling → Side → List ℕ → Option (PathMapping ℕ) → Type 0
MappingIsSummed spelling s written (Some (Bytes place position len fin sum)) = IsSummedUp spelling s written place position len sum
MappingIsSummed spelling s written _ = Unit {0}

-- MP_CAPABLE with data maps the stream's first octets (RFC 8684, section 3.1)
abbrev pub KeysAreSummed : Spelling → Side → List ℕ → CapableKeys → Type 0
KeysAreSummed spelling s written (WithData sender receiver len sum) = IsSummedUp spelling s written 0 1 len sum
KeysAreSummed spelling s written _ = Unit {0}

abbrev pub OptionIsSummed : Spelling → Side → List ℕ → PlainOption → Type 0
OptionIsSummed spelling s written (Dss next mapping) = MappingIsSummed spelling s written mapping
OptionIsSummed spelling s written (Capable flag_a flag_c keys) = KeysAreSummed spelling s written keys
OptionIsSummed spelling s written _ = Unit {0}

-- a copy under way, which the peer of the side sent to which it goes
abbrev pub FlightIsSummed : Spelling → WorldState Carried → Flight Carried → Type 0
FlightIsSummed spelling w f = Every (OptionIsSummed spelling (peer f.to) (written_by (peer f.to) w).written) f.carried.segment.options

abbrev pub PathIsSummed : WorldState Carried → Actor Carried → Type 0
PathIsSummed w (App a) = Unit {0}
PathIsSummed w (Path p) = Every (FlightIsSummed p.profile.spelling w) p.link.under_way

-- each copy under way, on every path
pub record ChecksumsAreRight (w : WorldState Carried) : Type 0 where
  pub each : (actor : ℕ) (c : ActorCrew Carried) → slice_get w.crew actor ≡ Some c → PathIsSummed w c.member

-- ---- no failure

-- a control book is told that a check failed
abbrev pub tells_failure : Ask → Bool
tells_failure (Control s (Fell path CheckFailed)) = true
tells_failure _ = false

abbrev pub note_tells_failure : Note → Bool
note_tells_failure note = tells_failure note.ask

-- no failed check was told, neither side knows of a failed path, and neither sends or receives by an infinite mapping
pub record ChecksPass {C : Type 0} (w : WorldState C) : Type 0 where
  pub checks : (actor : ℕ) → list_any note_tells_failure (notes_at actor w.crew) ≡ false
  pub unfailed : (s : Side) → (control_of s (books_in w.books)).fall.failed ≡ None
  pub finite : (s : Side) → is_infinite (control_of s (books_in w.books)).fall.mode ≡ false

abbrev pub is_fail : PlainOption → Bool
is_fail (Fail place) = true
is_fail _ = false

abbrev pub TellsNoFailure : Actor Carried → Type 0
TellsNoFailure (App a) = Unit {0}
TellsNoFailure (Path p) = Every (λ f. Every (λ o. is_fail o ≡ false) f.carried.segment.options) p.link.under_way

-- no copy that is under way has an MP_FAIL
pub record NoFailureIsTold (w : WorldState Carried) : Type 0 where
  pub each : (actor : ℕ) (c : ActorCrew Carried) → slice_get w.crew actor ≡ Some c → TellsNoFailure c.member
