-- The rules `data-ack` and `fail`, and what TCP acknowledges.
use Rattle.std.specs.Prelude.{ℕ, ◌+◌, ◌-◌, ◌%◌, ◌^◌, Bool, false, ◌&&◌, ◌==◌, nat_lt, max, if◌then◌else◌, Option, Some, None, is_none, Result, Ok, Err}
use Rattle.mptcp_options.specs.declared.dss.DataNumber.{DataNumber}
use Rattle.judge_rules.specs.declared.acks.AckFacts.{AckFacts}
use Rattle.judge_rules.specs.declared.acks.ToldPlace.{ToldPlace}
use Rattle.judge_rules.specs.declared.finding.Finding.{Finding}
use Rattle.judge_rules.specs.declared.finding.Finding.TheVariants.{NoMapping}
use Rattle.judge_rules.specs.declared.finding.Rule.TheVariants as rule
use Rattle.judge_rules.specs.declared.mappings.Line.{Line}
use Rattle.judge_rules.specs.Acks.{ack_place}
use Rattle.judge_rules.specs.Mappings.{place_on_line}
use Rattle.seen_octets.specs.Places.{whole}
use Rattle.seen_streams.specs.State.{LaneValue, StreamValue, Found, counted, place_of, tell}

-- ---- TCP's acknowledgement

-- all positions from 1 on and below it were seen
abbrev pub whole_positions : LaneValue → ℕ
whole_positions lane = whole lane.seen 1

abbrev pub is_fin_at : Option ℕ → ℕ → Bool
is_fin_at None position = false
is_fin_at (Some fin) position = fin == position

-- behind what was seen without a hole, the FIN too
abbrev pub behind_positions : LaneValue → ℕ
behind_positions lane = if is_fin_at lane.fin (whole_positions lane) then whole_positions lane + 1 else whole_positions lane

-- ---- plain TCP: no mapping is told, and the octet at position k + 1 of the first subflow is at place k (section 3.7)

-- Where the first place that is missing came so, at a position without a mapping, all came that the subflow has without a hole, FIN too.
abbrev pub plain_from : ℕ → LaneValue → ℕ
plain_from missing lane =
    if nat_lt (missing + 1) (behind_positions lane) && is_none (place_of lane (missing + 1)) then behind_positions lane - 1 else 0

abbrev pub plain_end : StreamValue → LaneValue → ℕ
plain_end stream lane = plain_from (whole stream.seen 0) lane

-- ---- under an infinite mapping FIN is the DATA_FIN, where none was told (section 3.7)

abbrev pub fin_place : Option ℕ → ℕ → Option ToldPlace
fin_place None packet = None
fin_place (Some place) packet = Some (record { place = place; packet = packet })

abbrev pub fin_on_line : Option Line → Option ℕ → ℕ → Option ToldPlace
fin_on_line (Some line) (Some fin) packet = fin_place (place_on_line line fin) packet
fin_on_line _ _ packet = None

abbrev pub fin_told : Option ToldPlace → Option Line → Option ℕ → ℕ → Option ToldPlace
fin_told (Some told) line fin packet = Some told
fin_told None line fin packet = fin_on_line line fin packet

abbrev pub ended_by_fin : LaneValue → ℕ → StreamValue → StreamValue
ended_by_fin lane packet stream = record stream { fin = fin_told stream.fin lane.line lane.fin packet }

-- ---- `data-ack`

-- the highest of a subflow, and of all
pub record Acked : Type 0 where
  pub stream : StreamValue
  pub lane : LaneValue

-- what a Data ACK of the peers' stream is judged by: on its subflow it falls where the capture was taken at its sender
abbrev pub ack_facts : Bool → ℕ → ℕ → StreamValue → LaneValue → AckFacts
ack_facts at_sender plain first peers lane = record {
  first = first;
  top = peers.top;
  whole = whole peers.seen 0;
  fin = peers.fin;
  plain = plain;
  highest = if at_sender then Some lane.acknowledged else None;
}

abbrev pub acked_by : Result ℕ Finding → ℕ → Acked → Acked
acked_by (Err finding) packet acked = record acked { stream = tell rule.DataAck packet (Found finding) acked.stream }
acked_by (Ok place) packet acked = record {
  stream = record acked.stream { acknowledged = max acked.stream.acknowledged place };
  lane = record acked.lane { acknowledged = max acked.lane.acknowledged place };
}

abbrev pub ack_counted : Acked → Acked
ack_counted acked = record acked { stream = record acked.stream { data_acks = counted acked.stream.data_acks } }

-- the peers' stream has this first number, and came up to a place in plain TCP
abbrev pub acked_with : Bool → ℕ → ℕ → ℕ → StreamValue → DataNumber → Acked → Acked
acked_with at_sender plain packet first peers number acked =
    acked_by (ack_place (ack_facts at_sender plain first peers acked.lane) number) packet (ack_counted acked)

-- ---- `fail`: the number names a place with which a mapping begins

abbrev pub named_place : ℕ → ℕ → ℕ
named_place first number = (number + (2 ^ 64 - first)) % 2 ^ 64

abbrev pub failed_with : ℕ → ℕ → StreamValue → ℕ → StreamValue → StreamValue
failed_with packet first peers number stream =
    if peers.starts (named_place first number) then stream else tell rule.Fail packet (Found (NoMapping number)) stream
