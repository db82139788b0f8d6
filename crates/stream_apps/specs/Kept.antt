-- What an application keeps: its whole file, how much of it is written, and the duty that stands first.
use Rattle.std.specs.Prelude.{ℕ, ◌<◌, ◌≤◌, Bool, Option, Some, None, List, [], ◌∷◌, length, drop}
use Rattle.sides.specs.declared.side.Side.{Side}
use Rattle.stream_apps.specs.declared.duty.AppDuty.{AppDuty}
use Rattle.stream_apps.specs.declared.duty.AppDuty.TheVariants.{FastClose, AbortSend, AbortReceive, Write, Close, Read, End}
use Rattle.stream_apps.specs.Apps.{AppState}

-- a duty is followed by those that come after it in every turn
abbrev pub agenda_from : Option AppDuty → List AppDuty
agenda_from (Some FastClose) = FastClose ∷ AbortSend ∷ AbortReceive ∷ Write ∷ Close ∷ Read ∷ End ∷ []
agenda_from (Some AbortSend) = AbortSend ∷ AbortReceive ∷ Write ∷ Close ∷ Read ∷ End ∷ []
agenda_from (Some AbortReceive) = AbortReceive ∷ Write ∷ Close ∷ Read ∷ End ∷ []
agenda_from (Some Write) = Write ∷ Close ∷ Read ∷ End ∷ []
agenda_from (Some Close) = Close ∷ Read ∷ End ∷ []
agenda_from (Some Read) = Read ∷ End ∷ []
agenda_from (Some End) = End ∷ []
agenda_from None = []

-- an application of these fields, of whose file so much is written
abbrev pub as_app_state : Side → ℕ → List ℕ → ℕ → Bool → Bool → ℕ → Option ℕ → Option AppDuty → AppState
as_app_state s buffer file written closed told count stops_in due = record {
  side = s;
  buffer = buffer;
  rest = drop written file;
  closed = closed;
  told = told;
  count = count;
  stops_in = stops_in;
  agenda = agenda_from due;
}

-- as long as it may read, too few octets were read in this turn
abbrev pub MayRead : Option AppDuty → ℕ → ℕ → Type 0
MayRead (Some FastClose) count buffer = count < buffer
MayRead (Some AbortSend) count buffer = count < buffer
MayRead (Some AbortReceive) count buffer = count < buffer
MayRead (Some Write) count buffer = count < buffer
MayRead (Some Close) count buffer = count < buffer
MayRead (Some Read) count buffer = count < buffer
MayRead (Some End) count buffer = Unit {0}
MayRead None count buffer = Unit {0}

-- no more is written than the file has; the buffer has 1 to 1,048,576 octets, and as long as it may read, fewer were read
pub record IsKept (buffer : ℕ) (file : List ℕ) (written count : ℕ) (due : Option AppDuty) : Type 0 where
  pub within : written ≤ length file
  pub room : 1 ≤ buffer
  pub most : buffer ≤ 1048576
  pub reads : MayRead due count buffer
