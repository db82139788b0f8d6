-- How the state of a lane and of a stream is kept, in runs of positions and places, and what is read off it.
use Rattle.std.specs.Prelude.{ℕ, pos, neg_ℤ, ◌≡◌, ◌^◌, ◌<◌, ◌≤◌, ◌<ℤ◌, ◌≤ℤ◌, true, All, Option, IfSome, List}
use Rattle.std.specs.List.{list_any}
use Rattle.first_runs.specs.declared.run.Run.{Run}
use Rattle.first_runs.specs.Runs.{told_at}
use Rattle.seen_octets.specs.Octets.{Kept, octet_at}
use Rattle.seen_octets.specs.Places.{is_seen}
use Rattle.judge_rules.specs.declared.acks.ToldPlace.{ToldPlace}
use Rattle.judge_rules.specs.declared.broken.Broken.{Broken}
use Rattle.judge_rules.specs.declared.broken.Fault.{Fault}
use Rattle.judge_rules.specs.declared.broken.Fault.TheVariants as kept
use Rattle.judge_rules.specs.declared.mappings.Line.{Line}
use Rattle.seen_streams.specs.declared.told.Infinite.{Infinite}
use Rattle.seen_streams.specs.declared.told.Learnt.{Learnt}
use Rattle.seen_streams.specs.declared.told.ToldMapping.{ToldMapping}
use Rattle.seen_streams.specs.declared.told.Waiting.{Waiting}
use Rattle.seen_streams.specs.Same.{same_mapping}
use Rattle.seen_streams.specs.State.{LaneValue, StreamValue, FaultValue, BrokenValue, NoOption, Found}
use Rattle.seen_streams.specs.Mapped.{Mapped}
use Rattle.judge_rules.specs.Mappings.{natural}

-- ---- a lane

pub record LaneKept : Type 0 where
  pub octets : Kept
  pub seen : List Run
  pub places : List Run
  pub line : Option Line
  pub top : ℕ
  pub fin : Option ℕ
  pub acknowledged : ℕ
  pub summed : List ToldMapping
  pub waiting : List Waiting

abbrev pub lane_of : LaneKept → LaneValue
lane_of lane = record {
  octet = octet_at lane.octets;
  seen = is_seen lane.seen;
  placed = told_at lane.places;
  line = lane.line;
  top = lane.top;
  fin = lane.fin;
  acknowledged = lane.acknowledged;
  summed = λ mapping. list_any (same_mapping mapping) lane.summed;
  waiting = lane.waiting;
}

-- a line begins not far before the SYN, and its places and positions are below 2^62
pub record IsLineBounded (line : Line) : Type 0 where
  pub begins : neg_ℤ (pos (2 ^ 62)) ≤ℤ line.position
  pub ends : line.position <ℤ pos (2 ^ 62)
  pub place : line.place < 2 ^ 62

-- positions of payload and FIN are up to 2^61
pub record IsLaneBounded (end : ℕ) (told : Option ℕ) (known : Option Line) : Type 0 where
  pub top : end ≤ 2 ^ 61
  pub fin : IfSome told (λ position. position ≤ 2 ^ 61)
  pub line : IfSome known IsLineBounded

-- the positions with which mappings begin
abbrev pub AreBegun : List Run → List ToldMapping → Type 0
AreBegun begun mappings = All (λ mapping. is_seen begun (natural mapping.position) ≡ true) mappings

-- ---- a stream

abbrev pub as_fault : Fault → FaultValue
as_fault (kept.NoOption octets) = NoOption octets.now
as_fault (kept.Found finding) = Found finding

abbrev pub as_broken : Broken → BrokenValue
as_broken broken = record { rule = broken.rule; packet = broken.packet; fault = as_fault broken.fault }

pub record StreamKept : Type 0 where
  pub broken : List BrokenValue
  pub keys : ℕ
  pub joins : ℕ
  pub mappings : ℕ
  pub sums : ℕ
  pub data_acks : ℕ
  pub octets : Kept
  pub seen : List Run
  pub top : ℕ
  pub fin : Option ToldPlace
  pub acknowledged : ℕ
  pub starts : List Run
  pub infinite : Option Infinite

abbrev pub stream_of : StreamKept → StreamValue
stream_of stream = record {
  broken = stream.broken;
  keys = stream.keys;
  joins = stream.joins;
  mappings = stream.mappings;
  sums = stream.sums;
  data_acks = stream.data_acks;
  octet = octet_at stream.octets;
  seen = is_seen stream.seen;
  top = stream.top;
  fin = stream.fin;
  acknowledged = stream.acknowledged;
  starts = is_seen stream.starts;
  infinite = stream.infinite;
}

-- ---- both, with what a segment told so far

abbrev pub mapped_of : StreamKept → LaneKept → Learnt → Mapped
mapped_of stream lane learnt =
    record { stream = stream_of stream; lane = lane_of lane; learnt = learnt.mappings.items; has_line = learnt.has_line }
