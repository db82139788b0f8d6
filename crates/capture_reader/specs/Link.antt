-- What stands before an IP packet, by link type (the registry of link types of the tcpdump group).
use Rattle.std.specs.Prelude.{ℕ, Bool, ◌||◌, ◌==◌, nat_lt, if◌then◌else◌, Option, Some, None, List, [], ◌∷◌, length, drop}
use Rattle.std.specs.Int.{w16, from_be_bytes}
use Rattle.octet_text.specs.Octets.{number_at}

-- raw IP, by each of its numbers: 12, 14, 101, and 228 for IPv4 and 229 for IPv6
abbrev pub is_raw : ℕ → Bool
is_raw link = link == 12 || (link == 14 || (link == 101 || (link == 228 || link == 229)))

-- a VLAN tag (IEEE 802.1Q)
abbrev pub is_tag : ℕ → Bool
is_tag kind = kind == 0x8100 || (kind == 0x88A8 || kind == 0x9100)

-- IPv4 or IPv6
abbrev pub is_internet : ℕ → Bool
is_internet kind = kind == 0x0800 || kind == 0x86DD

-- The octets of the IP packet behind a type field and any tags: each tag is two octets and the type of what follows.
abbrev pub behind_tags : ℕ → List ℕ → Option (List ℕ)
behind_tags kind (a ∷ b ∷ high ∷ low ∷ rest) =
    if is_tag kind then behind_tags (from_be_bytes w16 (high ∷ low ∷ [])) rest
    else (if is_internet kind then Some (a ∷ b ∷ high ∷ low ∷ rest) else None)
behind_tags kind octets = if is_internet kind then Some octets else None

-- behind a header of so many octets, whose type field stands at this place
unfoldable pub behind_header : ℕ → ℕ → List ℕ → Option (List ℕ)
behind_header place len octets =
    if nat_lt (length octets) len then None else behind_tags (number_at w16 octets place) (drop len octets)

-- The octets of the IP packet. Ethernet (1) has its type at octet 12 of 14, Linux's cooked headers at 14 of 16 (113) and at 0 of
-- 20 (276).
unfoldable pub internet_packet : ℕ → List ℕ → Option (List ℕ)
internet_packet link octets =
    if is_raw link then Some octets
    else (if link == 1 then behind_header 12 14 octets
    else (if link == 113 then behind_header 14 16 octets
    else (if link == 276 then behind_header 0 20 octets
    else None)))
