-- What an option maps, and the rules on one mapping (RFC 8684, sections 3.1, 3.3.1 to 3.3.3 and 3.7).
use Rattle.std.specs.Prelude.{ℕ, ℤ, pos, negsuc, ◌+◌, ◌-◌, ◌%◌, ◌^◌, ◌+ℤ◌, ◌-ℤ◌, Bool, true, false, not, ◌&&◌, ◌==◌, nat_lt, nat_le, max, int_lt, if◌then◌else◌, Option, Some, None, option_and_then}
use Rattle.std.specs.Int.{w32, cast_signed, from_bool}
use Rattle.std.specs.Option.{option_or}
use Rattle.std.specs.Ordering.{int_eq}
use Rattle.mptcp_options.specs.declared.capable.CapableKeys.TheVariants.{WithData}
use Rattle.mptcp_options.specs.declared.dss.DataNumber.TheVariants.{Whole}
use Rattle.mptcp_options.specs.Value.{OptionValue, Capable, Dss}
use Rattle.judge_rules.specs.declared.acks.ToldPlace.{ToldPlace}
use Rattle.judge_rules.specs.declared.finding.Finding.{Finding}
use Rattle.judge_rules.specs.declared.finding.Finding.TheVariants.{OtherFin, BeyondFin, MappedBeyond, Outside}
use Rattle.judge_rules.specs.declared.mappings.Line.{Line}
use Rattle.judge_rules.specs.declared.mappings.Offer.{Offer}
use Rattle.judge_rules.specs.Numbers.{place_near}

-- ---- what an option maps

-- An MP_CAPABLE with data maps it from place 0, whose data number is `first`, and from position 1 on.
abbrev pub offer_of : ℕ → OptionValue → Option Offer
offer_of first (Capable flag_a flag_c (WithData sender receiver data_length checksum)) =
    Some (record { number = Whole first; relative = 1; length = data_length; checksum = checksum; fin = false })
offer_of first (Dss ack (Some mapping) fin) =
    Some (record { number = mapping.number; relative = mapping.relative; length = mapping.length; checksum = mapping.checksum; fin = fin })
offer_of _ _ = None

-- the DATA_FIN counts as one octet of the length
abbrev pub mapped_octets : Offer → ℕ
mapped_octets offer = offer.length - from_bool offer.fin

-- the place of the first octet, where the one behind the last is a place, too
abbrev pub mapped_place : ℕ → ℕ → Offer → Option ℕ
mapped_place first top offer =
    option_and_then (λ place. if nat_lt (place + mapped_octets offer) (2 ^ 62) then Some place else None) (place_near first top offer.number)

-- the position nearest another that a relative number means: at a distance d from it, -2^31 <= d < 2^31
abbrev pub position_near : ℕ → ℕ → ℤ
position_near position relative = pos position +ℤ cast_signed w32 ((relative + (2 ^ 32 - position % 2 ^ 32)) % 2 ^ 32)

-- ---- `data-fin`: one place ends the stream, and nothing is mapped behind it

abbrev pub fin_told : Option ToldPlace → ℕ → Bool → Option Finding
fin_told None end fin = None
fin_told (Some told) end true = if told.place == end then None else Some (OtherFin end told.place told.packet)
fin_told (Some told) end false = if nat_lt told.place end then Some (BeyondFin end told.place told.packet) else None

abbrev pub is_too_early : ℕ → ℕ → Bool → Option Finding
is_too_early top end fin = if fin && nat_lt end top then Some (MappedBeyond end top) else None

abbrev pub fin_fault : Option ToldPlace → ℕ → ℕ → Bool → Option Finding
fin_fault told top end fin = option_or (fin_told told end fin) (is_too_early top end fin)

-- ---- `within`: payload lies within each mapping of its segment

abbrev pub within_fault : ℕ → ℕ → ℕ → ℕ → Option Finding
within_fault position len mapped_from octets =
    if nat_le mapped_from position && nat_le (position + len) (mapped_from + octets) then None
    else Some (Outside position (position + len - 1) mapped_from (mapped_from + octets - 1))

-- ---- `infinite`: what an infinite mapping maps stays mapped so

-- a number that isn't below 0
abbrev pub natural : ℤ → ℕ
natural (pos n) = n
natural (negsuc n) = 0

-- as far behind the line's place as a position lies behind that of the line, if it isn't before it
abbrev pub place_on_line : Line → ℕ → Option ℕ
place_on_line line position =
    if int_lt (pos position) line.position then None else Some (line.place + natural (pos position -ℤ line.position))

-- place less position
abbrev pub shift_of : ℕ → ℤ → ℤ
shift_of place position = pos place -ℤ position

-- this count of octets from a position on reaches past that of the line
abbrev pub reaches_past : ℤ → ℤ → ℕ → Bool
reaches_past line position octets = int_lt line (position +ℤ pos octets)

-- on its own subflow octets behind its position have another place
abbrev pub after_line : Line → ℤ → ℕ → ℕ → Bool
after_line line position place octets =
    reaches_past line.position position octets && not (int_eq (shift_of place position) (shift_of line.place line.position))

-- on another subflow places are mapped that neither a mapping had, nor the line's lowest
abbrev pub elsewhere : ℕ → ℕ → ℕ → Bool
elsewhere top line_place end = nat_lt (max top line_place) end
