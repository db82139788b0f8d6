-- What is known of the stream of one side, and of what it sent on one subflow, as functions of places and positions. Positions count
-- from the SYN, which is 0; places are those of the data stream, from 0 on (RFC 8684, section 3.3).
use Rattle.std.specs.Prelude.{ℕ, ◌+◌, Bool, false, ◌&&◌, ◌==◌, nat_lt, nat_le, min, if◌then◌else◌, Option, Some, None, option_map, List, [], ◌∷◌, ◌++◌}
use Rattle.std.specs.Option.{option_or}
use Rattle.std.specs.List.{list_any}
use Rattle.first_runs.specs.Runs.{Told}
use Rattle.seen_octets.specs.declared.octet.Octet.{Octet}
use Rattle.judge_rules.specs.declared.acks.ToldPlace.{ToldPlace}
use Rattle.judge_rules.specs.declared.finding.Finding.{Finding}
use Rattle.judge_rules.specs.declared.finding.Rule.{Rule}
use Rattle.judge_rules.specs.declared.mappings.Line.{Line}
use Rattle.judge_rules.specs.Mappings.{place_on_line}
use Rattle.judge_rules.specs.Rules.{rule_number}
use Rattle.seen_streams.specs.declared.told.Infinite.{Infinite}
use Rattle.seen_streams.specs.declared.told.ToldMapping.{ToldMapping}
use Rattle.seen_streams.specs.declared.told.Waiting.{Waiting}

-- what one side sent on one subflow
pub record LaneValue : Type 0 where
  -- of each position the octet that was held first, and its packet
  pub octet : ℕ → Option Octet
  -- the positions that were seen, held or cut off
  pub seen : ℕ → Bool
  -- of each position that a finite mapping has its place, and the packet that told it first
  pub placed : ℕ → Option Told
  pub line : Option Line
  -- the end of the payload that was seen
  pub top : ℕ
  pub fin : Option ℕ
  -- the highest Data ACK
  pub acknowledged : ℕ
  -- the mappings with a checksum, and in order those of them whose octets weren't all held
  pub summed : ToldMapping → Bool
  pub waiting : List Waiting

-- why a rule was broken
pub data FaultValue : Type 0 where
  -- `form`: these octets read as no option
  NoOption : List ℕ → FaultValue
  Found : Finding → FaultValue

-- a rule that a side broke, where it broke it first
pub record BrokenValue : Type 0 where
  pub rule : Rule
  pub packet : ℕ
  pub fault : FaultValue

-- what one side sent, over all subflows
pub record StreamValue : Type 0 where
  pub broken : List BrokenValue
  -- how many were tried: options with keys, HMACs of joins, finite mappings, checksums, Data ACKs
  pub keys : ℕ
  pub joins : ℕ
  pub mappings : ℕ
  pub sums : ℕ
  pub data_acks : ℕ
  -- of each place the octet that was held first, and its packet
  pub octet : ℕ → Option Octet
  -- the places that were seen, held or cut off
  pub seen : ℕ → Bool
  -- the end of the mapped places
  pub top : ℕ
  pub fin : Option ToldPlace
  -- the highest place that it acknowledged
  pub acknowledged : ℕ
  -- the places with which its mappings begin
  pub starts : ℕ → Bool
  pub infinite : Option Infinite

-- ---- words

-- one more, up to the most that a number of 64 bits is
abbrev pub counted : ℕ → ℕ
counted count = min (count + 1) 18446744073709551615

-- one of so many from a number on
abbrev pub is_of : ℕ → ℕ → ℕ → Bool
is_of from count n = nat_le from n && nat_lt n (from + count)

-- A position's place is that of its finite mapping, else that of the infinite one (section 3.7).
abbrev pub line_place : Option Line → ℕ → Option ℕ
line_place None position = None
line_place (Some line) position = place_on_line line position

abbrev pub place_of : LaneValue → ℕ → Option ℕ
place_of lane position = option_or (option_map (λ told. told.image) (lane.placed position)) (line_place lane.line position)

-- ---- a rule that is broken: the first time stays

abbrev pub same_rule : Rule → BrokenValue → Bool
same_rule rule broken = rule_number broken.rule == rule_number rule

abbrev pub with_broken : BrokenValue → List BrokenValue → List BrokenValue
with_broken fault broken = if list_any (same_rule fault.rule) broken then broken else broken ++ fault ∷ []

abbrev pub tell : Rule → ℕ → FaultValue → StreamValue → StreamValue
tell rule packet fault stream =
    record stream { broken = with_broken (record { rule = rule; packet = packet; fault = fault }) stream.broken }

-- what was found, if anything was
abbrev pub with_found : Rule → ℕ → Option Finding → List BrokenValue → List BrokenValue
with_found rule packet None broken = broken
with_found rule packet (Some finding) broken = with_broken (record { rule = rule; packet = packet; fault = Found finding }) broken

abbrev pub tell_found : Rule → ℕ → Option Finding → StreamValue → StreamValue
tell_found rule packet finding stream = record stream { broken = with_found rule packet finding stream.broken }

-- ---- nothing was sent

abbrev pub empty_lane : LaneValue
empty_lane = record {
  octet = λ position. None;
  seen = λ position. false;
  placed = λ position. None;
  line = None;
  top = 1;
  fin = None;
  acknowledged = 0;
  summed = λ mapping. false;
  waiting = [];
}

abbrev pub empty_stream : StreamValue
empty_stream = record {
  broken = [];
  keys = 0;
  joins = 0;
  mappings = 0;
  sums = 0;
  data_acks = 0;
  octet = λ place. None;
  seen = λ place. false;
  top = 0;
  fin = None;
  acknowledged = 0;
  starts = λ place. false;
  infinite = None;
}
