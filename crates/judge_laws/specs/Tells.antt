-- A mapping that a segment tells, and the one that was learnt of it (RFC 8684, section 3.3.1).
use Rattle.std.specs.Prelude.{ℕ, ◌≡◌, ◌==◌, Bool, false, Option, Some, List, ◌∷◌, ◌++◌}
use Rattle.sides.specs.declared.side.Side.{Side}
use Rattle.capture_reader.specs.Seen.{Seen}
use Rattle.mptcp_options.specs.declared.dss.DataNumber.{DataNumber}
use Rattle.mptcp_options.specs.declared.dss.DssMap.{DssMap}
use Rattle.mptcp_options.specs.Value.{Dss}
use Rattle.judge_rules.specs.declared.finding.Rule.TheVariants as rule
use Rattle.judge_rules.specs.declared.mappings.Offer.{Offer}
use Rattle.judge_rules.specs.Mappings.{mapped_place, position_near}
use Rattle.seen_connections.specs.SeenOptions.{SeenValue, Readable, seen_options}
use Rattle.seen_streams.specs.declared.told.ToldMapping.{ToldMapping}
use Rattle.seen_streams.specs.State.{StreamValue}
use Rattle.rule_book.specs.Facts.{first_of}
use Rattle.rule_book.specs.State.{JudgedValue}
use Rattle.judge_laws.specs.Brings.{IsOf}
use Rattle.judge_laws.specs.GoesOn.{broke}

abbrev pub offer_by : DssMap → Bool → Offer
offer_by mapping fin =
    record { number = mapping.number; relative = mapping.relative; length = mapping.length; checksum = mapping.checksum; fin = fin }

-- A finite mapping with a checksum in a DSS among its options, where its sender's key is known: place 0 has the number `first`.
pub record Tells (at : Option Side) (check_sums : Bool) (state : JudgedValue) (packet : ℕ) (seen : Seen) (connection : ℕ) (side : Side)
    (it : IsOf at check_sums state packet seen connection side) (mapping : DssMap) (fin : Bool) : Type 0 where
  pub before : List SeenValue
  pub ack : Option DataNumber
  pub after : List SeenValue
  pub first : ℕ
  pub sum : ℕ
  pub among : seen_options it.keys.checksums seen.segment.options ≡ before ++ Readable (Dss ack (Some mapping) fin) ∷ after
  pub has_first : first_of side it.keys ≡ Some first
  pub is_finite : (mapping.length == 0) ≡ false
  pub has_sum : mapping.checksum ≡ Some sum

-- Its place is the one nearest the end of the mapped places, its position the one nearest that of the segment.
pub record IsMeant (first near : ℕ) (mapping : DssMap) (ends : Bool) (told : ToldMapping) : Type 0 where
  pub top : ℕ
  pub place : mapped_place first top (offer_by mapping ends) ≡ Some told.place
  pub position : told.position ≡ position_near near mapping.relative
  pub length : told.length ≡ mapping.length
  pub checksum : told.checksum ≡ mapping.checksum
  pub fin : told.fin ≡ ends

-- no rule on mappings is broken
pub record KeepsMappings (stream : StreamValue) : Type 0 where
  pub mapping : broke rule.Mapping stream ≡ false
  pub infinite : broke rule.Infinite stream ≡ false
  pub data_fin : broke rule.DataFin stream ≡ false
