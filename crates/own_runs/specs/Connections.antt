-- The connection that the judge finds in the capture of a run, whatever the run's script does.
use Rattle.std.specs.Prelude.{◌≡◌, ◌<◌, ◌≤◌, ℕ, true, if◌then◌else◌, Option, Some, IfSome, Ok, List, [], length}
use Rattle.std.specs.List.{list_any, slice_get}
use Rattle.capture_reader.specs.declared.seen.End.{End}
use Rattle.capture_verdict.specs.Ending.{broke_rule, ending_of, has_none}
use Rattle.capture_verdict.specs.Judging.{judged_capture}
use Rattle.capture_verdict.specs.Report.{strays_words}
use Rattle.capture_verdict.specs.declared.ending.Ending.TheVariants.{Broken, Kept, NoConnection}
use Rattle.key_material.specs.declared.address.Address.TheVariants.{V4}
use Rattle.rule_book.specs.State.{JudgedValue}
use Rattle.seen_connections.specs.declared.connections.Keys.{Keys}
use Rattle.seen_connections.specs.declared.flow.Flow.{Flow}
use Rattle.segment_wire.specs.Paths.{address_of, port_of}
use Rattle.sides.specs.declared.side.Side.TheVariants.{A, B}
use Rattle.sides.specs.declared.side.Side.{Side}
use Rattle.world_laws.specs.Openings.{Start}
use Rattle.world_laws.specs.Promises.{HasRoom, NumbersFit}
use Rattle.world_laws.specs.Worlds.{Turn}
use Rattle.own_runs.specs.Fitting.{RunFits}
use Rattle.own_runs.specs.Runs.{capture_of}

-- a side's end of a path
abbrev pub end_on : ℕ → Side → End
end_on path s = record { address = V4 (address_of path s); port = port_of path s }

-- A subflow runs between the ends of a path, A opened it, and its SYN has no payload. None of its packets is cut, and none has a wrong sum.
pub record RunsOn (path : ℕ) (flow : Flow) : Type 0 where
  pub opener : flow.opener ≡ end_on path A
  pub other : flow.other ≡ end_on path B
  pub syn : flow.syn_octets ≡ 0
  pub cut : flow.cut ≡ 0
  pub wrong_sums : flow.wrong_sums ≡ 0

-- B's key is that of the start, and A's, where it was shown; and checksums are used where the start says so.
pub record HasItsKeys (start : Start) (keys : Keys) : Type 0 where
  pub a : IfSome keys.a (λ key. key ≡ start.key_a)
  pub b : keys.b ≡ start.key_b
  pub checksums : keys.checksums ≡ start.checksums

-- At most one connection is seen, and it is the start's. Each subflow runs on a path of the start, and no two on the same. Each join's connection is
-- found, so no line is of one, and what the capture comes to is for the rules of the two sides alone.
pub record SeesTheConnection (start : Start) (judged : JudgedValue) : Type 0 where
  pub one : length judged.books ≤ 1
  pub keys : (connection : ℕ) (keys : Keys) → slice_get judged.seen.connections connection ≡ Some keys → HasItsKeys start keys
  -- the subflow that opened it runs on path 0
  pub first : (connection : ℕ) (keys : Keys) → slice_get judged.seen.connections connection ≡ Some keys
      → (flow : Flow) × (slice_get judged.seen.flows keys.flow ≡ Some flow) × RunsOn 0 flow
  pub subflows : (i : ℕ) (flow : Flow) → slice_get judged.seen.flows i ≡ Some flow → (path : ℕ) × (path < length start.paths) × RunsOn path flow
  pub apart : (i j : ℕ) (f g : Flow) → slice_get judged.seen.flows i ≡ Some f → slice_get judged.seen.flows j ≡ Some g → f.opener ≡ g.opener → i ≡ j
  pub few : length judged.seen.flows ≤ length start.paths
  pub joins : strays_words judged.seen.flows ≡ []
  pub ending : ending_of judged ≡ (if has_none judged.books then NoConnection else (if list_any broke_rule judged.books then Broken else Kept))

-- The capture is read, and the judge sees the connection.
abbrev pub EachRunIsOneConnection : Type 0
EachRunIsOneConnection =
    (start : Start) (turns : List Turn) → HasRoom start → NumbersFit start → RunFits start turns → (side : Side) (at : Option Side)
    → (judged : JudgedValue) × (judged_capture at true (capture_of start turns side) ≡ Ok judged) × SeesTheConnection start judged
