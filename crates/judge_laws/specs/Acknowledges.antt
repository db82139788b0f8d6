-- What a segment acknowledges of the other side's stream.
use Rattle.std.specs.Prelude.{ℕ, ◌≡◌, ◌≤◌, max, Bool, false, if◌then◌else◌, Option, Some, List, ◌∷◌, ◌++◌}
use Rattle.std.specs.List.{list_any}
use Rattle.sides.specs.declared.side.Side.{Side}
use Rattle.sides.specs.Side.{peer}
use Rattle.capture_reader.specs.Seen.{Seen}
use Rattle.mptcp_options.specs.declared.dss.DataNumber.{DataNumber}
use Rattle.mptcp_options.specs.declared.dss.DssMap.{DssMap}
use Rattle.mptcp_options.specs.Value.{Dss}
use Rattle.judge_rules.specs.Acks.{behind_fin}
use Rattle.judge_rules.specs.Numbers.{place_near}
use Rattle.seen_connections.specs.declared.flow.Opening.{Opening}
use Rattle.seen_connections.specs.SeenOptions.{SeenValue, Readable, Formless, seen_options}
use Rattle.seen_octets.specs.Places.{whole}
use Rattle.seen_streams.specs.State.{LaneValue, StreamValue}
use Rattle.rule_book.specs.Facts.{first_of}
use Rattle.rule_book.specs.State.{JudgedValue}
use Rattle.rule_book.specs.Stream.{closes_fast, plain_on}
use Rattle.judge_laws.specs.Brings.{IsOf}

-- A Data ACK among its options, where the other side's key is known: place 0 of that side has the number `first`.
pub record Acknowledges (at : Option Side) (check_sums : Bool) (state : JudgedValue) (packet : ℕ) (seen : Seen) (connection : ℕ) (side : Side)
    (it : IsOf at check_sums state packet seen connection side) (number : DataNumber) : Type 0 where
  pub before : List SeenValue
  pub mapping : Option DssMap
  pub fin : Bool
  pub after : List SeenValue
  pub first : ℕ
  pub among : seen_options it.keys.checksums seen.segment.options ≡ before ++ Readable (Dss (Some number) mapping fin) ∷ after
  pub has_first : first_of (peer side) it.keys ≡ Some first

-- an MP_FASTCLOSE that can be read
abbrev pub shows_fast_close : SeenValue → Bool
shows_fast_close (Readable option) = closes_fast option
shows_fast_close (Formless octets) = false

-- behind which place the other side's stream had come in plain TCP, for a segment with an MP_FASTCLOSE
abbrev pub plain_for : Bool → Seen → Opening → StreamValue → LaneValue → ℕ
plain_for checksums seen opening peers lane =
    if list_any shows_fast_close (seen_options checksums seen.segment.options) then plain_on opening peers lane else 0

-- The number means a place up to which all places were seen, and one more where the DATA_FIN stands there, or up to which all came in plain
-- TCP.
pub record WasSeen (stream : StreamValue) (plain first : ℕ) (number : DataNumber) : Type 0 where
  pub place : ℕ
  pub means : place_near first stream.top number ≡ Some place
  pub seen : place ≤ max (behind_fin stream.fin (whole stream.seen 0)) plain
