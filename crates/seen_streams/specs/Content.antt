-- The rule `place-content`: of each place the first octet stays, and no other one is told of it before it is acknowledged.
use Rattle.std.specs.Prelude.{ℕ, zero, suc, pos, ◌+◌, ◌-◌, Bool, true, false, not, ◌&&◌, ◌||◌, int_lt, nat_lt, nat_le, max, if◌then◌else◌, Option, Some, None, option_map, List, [], ◌∷◌, drop}
use Rattle.std.specs.List.{list_any, slice_get}
use Rattle.std.specs.Option.{option_or}
use Rattle.seen_octets.specs.declared.octet.Octet.{Octet}
use Rattle.seen_octets.specs.declared.octet.OtherOctet.{OtherOctet}
use Rattle.seen_octets.specs.Octets.{octet_by}
use Rattle.seen_octets.specs.Others.{first_other}
use Rattle.judge_rules.specs.declared.finding.Finding.{Finding}
use Rattle.judge_rules.specs.declared.finding.Finding.TheVariants as finding
use Rattle.judge_rules.specs.declared.finding.Rule.TheVariants as rule
use Rattle.judge_rules.specs.declared.mappings.Line.{Line}
use Rattle.seen_streams.specs.declared.content.Payload.{Payload}
use Rattle.seen_streams.specs.declared.told.ToldMapping.{ToldMapping}
use Rattle.seen_streams.specs.State.{LaneValue, StreamValue, is_of, place_of, with_found}
use Rattle.seen_streams.specs.Mapped.{Mapped, octets_of}
use Rattle.judge_rules.specs.Mappings.{natural}

-- the positions of a payload, from one behind the SYN on, and its octets that are held
pub record PayloadValue : Type 0 where
  pub from : ℕ
  pub to : ℕ
  pub held : List ℕ

abbrev pub payload_of : Payload → PayloadValue
payload_of payload = record { from = payload.from; to = payload.to; held = payload.held.now }

-- ---- the lane behind a payload: of each position the octet that was held first stays

abbrev pub is_between : ℕ → ℕ → ℕ → Bool
is_between from to p = nat_le from p && nat_lt p to

abbrev pub with_payload : PayloadValue → ℕ → LaneValue → LaneValue
with_payload payload packet lane = record lane {
  octet = λ p. option_or (lane.octet p) (octet_by payload.from payload.held packet p);
  seen = λ p. lane.seen p || is_between payload.from payload.to p;
  top = max lane.top payload.to;
}

-- ---- which octets come to their places: those of the payload, and those that were seen before of positions that are mapped now

abbrev pub maps : ℕ → ToldMapping → Bool
maps p mapping = is_of (natural mapping.position) (octets_of mapping) p

abbrev pub is_on_line : Bool → Option Line → ℕ → Bool
is_on_line true (Some line) p = not (int_lt (pos p) line.position)
is_on_line _ _ p = false

abbrev pub is_mapped_by : List ToldMapping → Bool → Option Line → ℕ → Bool
is_mapped_by mappings has_line line p = list_any (maps p) mappings || is_on_line has_line line p

abbrev pub octet_of : LaneValue → ℕ → Option ℕ
octet_of lane p = option_map (λ octet. octet.octet) (lane.octet p)

-- the octet of a position that comes to its place, or that it was cut off
abbrev pub in_payload : PayloadValue → ℕ → Option (Option ℕ)
in_payload payload p = Some (slice_get payload.held (p - payload.from))

abbrev pub earlier : List ToldMapping → Bool → LaneValue → ℕ → Option (Option ℕ)
earlier learnt has_line lane p = if is_mapped_by learnt has_line lane.line p && lane.seen p then Some (octet_of lane p) else None

abbrev pub comes : PayloadValue → Mapped → LaneValue → ℕ → Option (Option ℕ)
comes payload mapped lane p =
    if is_between payload.from payload.to p then in_payload payload p else earlier mapped.learnt mapped.has_line lane p

-- ---- what becomes of places

abbrev pub other_octet : Option OtherOctet → Option Finding
other_octet None = None
other_octet (Some other) = Some (finding.OtherOctet other.place other.was other.teller other.is)

-- of places from one on the first that has another octet, and isn't acknowledged
abbrev pub content_fault : ℕ → (ℕ → Option Octet) → ℕ → List ℕ → Option Finding
content_fault acknowledged octet place part =
    other_octet (first_other octet (max place acknowledged) (drop (acknowledged - place) part))

-- A count of places from one on is seen, and the octets come to the first of them.
abbrev pub shown : ℕ → ℕ → ℕ → ℕ → List ℕ → StreamValue → StreamValue
shown acknowledged packet place count part stream =
    record stream {
      broken = with_found rule.PlaceContent packet (content_fault acknowledged stream.octet place part) stream.broken;
      octet = λ q. option_or (stream.octet q) (octet_by place part packet q);
      seen = λ q. stream.seen q || is_of place count q;
    }

abbrev pub as_part : Option ℕ → List ℕ
as_part None = []
as_part (Some octet) = octet ∷ []

abbrev pub at_place : ℕ → ℕ → Option (Option ℕ) → Option ℕ → StreamValue → StreamValue
at_place acknowledged packet None place stream = stream
at_place acknowledged packet (Some octet) None stream = stream
at_place acknowledged packet (Some octet) (Some place) stream = shown acknowledged packet place 1 (as_part octet) stream

-- a count of positions from one on, the lowest first, where the other side acknowledged all places below this one
abbrev pub shown_from : (ℕ → Option ℕ) → (ℕ → Option (Option ℕ)) → ℕ → ℕ → ℕ → ℕ → StreamValue → StreamValue
shown_from place comes acknowledged packet p zero stream = stream
shown_from place comes acknowledged packet p (suc count) stream =
    shown_from place comes acknowledged packet (p + 1) count (at_place acknowledged packet (comes p) (place p) stream)

-- all positions that were seen, from 1 on
abbrev pub shown_all : PayloadValue → ℕ → ℕ → Mapped → LaneValue → StreamValue
shown_all payload acknowledged packet mapped lane =
    shown_from (place_of lane) (comes payload mapped lane) acknowledged packet 1 (lane.top - 1) mapped.stream
