-- The TCP segment that an IP packet carries (RFC 791, section 3.1; RFC 8200, sections 3 and 4).
use Rattle.std.specs.Prelude.{ℕ, zero, suc, ◌+◌, ◌-◌, ◌*◌, ◌/◌, ◌%◌, Bool, ◌&&◌, ◌||◌, ◌==◌, nat_lt, nat_le, if◌then◌else◌, Option, Some, None, option_map, List, [], ◌∷◌, length, take, drop, slice_range, bit_and}
use Rattle.std.specs.Int.{w16}
use Rattle.octet_text.specs.Octets.{octet, number_at}
use Rattle.key_material.specs.declared.address.Address.{Address}
use Rattle.key_material.specs.declared.address.Address.TheVariants.{V4, V6}

-- what an IP packet carries: between which addresses, how many octets it has by the length of the packet, and those that are held
pub record CarriedValue : Type 0 where
  pub source : Address
  pub destination : Address
  pub size : ℕ
  pub octets : List ℕ

-- a payload of this size, of which at most these octets are held
abbrev pub carried_of : Address → Address → ℕ → List ℕ → CarriedValue
carried_of source destination size held =
    record { source = source; destination = destination; size = size; octets = take size held }

-- ---- IPv4 (RFC 791, section 3.1)

-- how many octets the header has: the low half of the first octet counts words of four
abbrev pub header_len : List ℕ → ℕ
header_len packet = 4 * (octet packet 0 % 16)

-- The header is there, its protocol is TCP (6), and the packet is no fragment: no more follow, and it has no offset.
unfoldable pub carries_tcp : List ℕ → Bool
carries_tcp packet =
    nat_le 20 (length packet)
    && (nat_le 20 (header_len packet)
    && (nat_le (header_len packet) (length packet)
    && (octet packet 9 == 6 && bit_and (number_at w16 packet 6) 0x3FFF == 0)))

-- how many octets follow the header by the total length, or to the packet's end where it is 0
unfoldable pub size_behind_header : List ℕ → ℕ
size_behind_header packet =
    let total = number_at w16 packet 2 in
    (if total == 0 then length packet else total) - header_len packet

unfoldable pub carried_by_4 : List ℕ → Option CarriedValue
carried_by_4 packet =
    if carries_tcp packet
    then Some (carried_of (V4 (slice_range packet 12 16)) (V4 (slice_range packet 16 20)) (size_behind_header packet) (drop (header_len packet) packet))
    else None

-- ---- IPv6 (RFC 8200)

-- the extension headers that are passed over: hop-by-hop options (0), routing (43), destination options (60)
abbrev pub is_extension : ℕ → Bool
is_extension kind = kind == 0 || (kind == 43 || kind == 60)

-- The octets behind all extension headers, where TCP (6) follows. Each of these has eight octets and as many more words of eight
-- as its second octet says; the first one is the type of what follows. As many octets as `left` are still of the header before.
abbrev pub behind_extensions : ℕ → ℕ → List ℕ → Option (List ℕ)
behind_extensions kind (suc left) [] = None
behind_extensions kind (suc left) (x ∷ rest) = behind_extensions kind left rest
behind_extensions kind zero [] = if kind == 6 then Some [] else None
behind_extensions kind zero (x ∷ []) = if kind == 6 then Some (x ∷ []) else None
behind_extensions kind zero (next ∷ len ∷ rest) =
    if is_extension kind
    then (if nat_lt (length rest) 6 then None else behind_extensions next (6 + 8 * len) rest)
    else (if kind == 6 then Some (next ∷ len ∷ rest) else None)

-- How many octets TCP has by the payload's length, or to the packet's end where it is 0, where these follow the header and these
-- the extension headers.
unfoldable pub size_behind : ℕ → List ℕ → List ℕ → ℕ
size_behind payload_len payload held =
    (if payload_len == 0 then length payload else payload_len) - (length payload - length held)

unfoldable pub carried_by_6 : List ℕ → Option CarriedValue
carried_by_6 packet =
    if nat_lt (length packet) 40 then None
    else option_map
    (λ held. carried_of (V6 (slice_range packet 8 24)) (V6 (slice_range packet 24 40)) (size_behind (number_at w16 packet 4) (drop 40 packet) held) held)
    (behind_extensions (octet packet 6) 0 (drop 40 packet))

-- ---- either, by the version in the high half of the first octet

unfoldable pub carried_by : List ℕ → Option CarriedValue
carried_by packet =
    if length packet == 0 then None
    else (if octet packet 0 / 16 == 4 then carried_by_4 packet
    else (if octet packet 0 / 16 == 6 then carried_by_6 packet
    else None))
