-- What a segment of a flow is judged by.
use Rattle.std.specs.Prelude.{ℕ, ◌+◌, ◌-◌, Bool, if◌then◌else◌, Option, option_map, max, List, take, drop}
use Rattle.sides.specs.declared.side.Side.{Side}
use Rattle.capture_reader.specs.Seen.{Seen, as_seen}
use Rattle.seen_connections.specs.declared.flow.Flow.{Flow}
use Rattle.seen_connections.specs.declared.flow.Opened.{Opened}
use Rattle.seen_connections.specs.declared.connections.Keys.{Keys}
use Rattle.seen_connections.specs.Connections.{key_of}
use Rattle.judge_rules.specs.Numbers.{first_number}
use Rattle.seen_streams.specs.Content.{PayloadValue}
use Rattle.seen_streams.specs.State.{LaneValue}
use Rattle.rule_book.specs.declared.judging.Judging.{Judging}
use Rattle.rule_book.specs.State.{LanesValue}

pub record Facts : Type 0 where
  pub packet : ℕ
  pub seen : Seen
  -- its flow, by number
  pub index : ℕ
  pub flow : Flow
  pub opened : Opened
  -- who sent it, and whether that side opened the flow
  pub side : Side
  pub is_opener : Bool
  -- the capture was taken at its sender
  pub at_sender : Bool
  -- behind which place the other side's stream came in plain TCP
  pub plain : ℕ

abbrev pub facts_of : Judging → Facts
facts_of judging = record {
  packet = judging.packet;
  seen = as_seen judging.seen;
  index = judging.index;
  flow = judging.flow;
  opened = judging.opened;
  side = judging.side;
  is_opener = judging.is_opener;
  at_sender = judging.at_sender;
  plain = judging.plain;
}

-- the data number of place 0 of a side, where its key is known
abbrev pub first_of : Side → Keys → Option ℕ
first_of side keys = option_map first_number (key_of side keys)

-- the numbers of position 0 of the sender, and of the other end
abbrev pub own_base : Facts → ℕ
own_base facts = if facts.is_opener then facts.opened.opener_base else facts.opened.other_base

abbrev pub peers_base : Facts → ℕ
peers_base facts = if facts.is_opener then facts.opened.other_base else facts.opened.opener_base

abbrev pub own_lane : Facts → LanesValue → LaneValue
own_lane facts lanes = if facts.is_opener then lanes.opener else lanes.other

abbrev pub peers_lane : Facts → LanesValue → LaneValue
peers_lane facts lanes = if facts.is_opener then lanes.other else lanes.opener

abbrev pub with_own_lane : Facts → LaneValue → LanesValue → LanesValue
with_own_lane facts lane lanes = if facts.is_opener then record lanes { opener = lane } else record lanes { other = lane }

-- how many octets of payload it has, held or not, and those of them that are held: those of a RST aren't looked at
abbrev pub payload_len : Facts → ℕ
payload_len facts = if facts.seen.segment.head.rst then 0 else facts.seen.payload_len

abbrev pub held_payload : Facts → List ℕ
held_payload facts = take (payload_len facts) facts.seen.segment.payload

-- its positions behind the SYN
abbrev pub payload_at : Facts → ℕ → PayloadValue
payload_at facts position = record {
  from = max position 1;
  to = max (max position 1) (position + payload_len facts);
  held = drop (max position 1 - position) (held_payload facts);
}
