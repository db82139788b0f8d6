-- The bits that reading ignores: reserved ones, and flags that say nothing where another one is not set.
use Rattle.std.specs.Prelude.{ℕ, ◌==◌, ◌||◌, if◌then◌else◌, List, [], ◌∷◌, length, drop, bit_and, bit_or}
use Rattle.octet_text.specs.Octets.{octet}
use Rattle.mptcp_options.specs.Dss.{has_ack, has_mapping}
use Rattle.mptcp_options.specs.Meaning.{subtype}

-- what is read of the third octet: of MP_CAPABLE all, with the version; of the first two forms of MP_JOIN, of ADD_ADDR,
-- MP_PRIO and MP_TCPRST the subtype and the lowest flag; else the subtype alone
unfoldable pub third_mask : List ℕ → ℕ
third_mask octets =
    if subtype octets == 0 then 0xFF
    else (if subtype octets == 1 then (if length octets == 24 then 0xF0 else 0xF1)
    else (if subtype octets == 3 || subtype octets == 5 || subtype octets == 8 then 0xF1 else 0xF0))

-- of a DSS: A, and a where there is a Data ACK; M, and m and F where there is a mapping
abbrev pub dss_mask : ℕ → ℕ
dss_mask flags = bit_or (if has_ack flags then 0x03 else 0) (if has_mapping flags then 0x1C else 0)

-- what is read of the fourth octet: of MP_CAPABLE the flags A, C and H, with B 0; nothing on the third ACK of a join, of
-- MP_FAIL and MP_FASTCLOSE
unfoldable pub fourth_mask : List ℕ → ℕ
fourth_mask octets =
    if subtype octets == 0 then 0xA1
    else (if subtype octets == 1 then (if length octets == 24 then 0 else 0xFF)
    else (if subtype octets == 2 then dss_mask (octet octets 3)
    else (if subtype octets == 6 || subtype octets == 7 then 0 else 0xFF)))

-- the first octet under a mask
abbrev pub masked : ℕ → List ℕ → List ℕ
masked mask [] = []
masked mask (flags ∷ rest) = bit_and flags mask ∷ rest

-- the octets with the ignored bits cleared
abbrev pub cleared : List ℕ → List ℕ
cleared octets =
    octet octets 0 ∷ octet octets 1 ∷ bit_and (octet octets 2) (third_mask octets) ∷ masked (fourth_mask octets) (drop 3 octets)
