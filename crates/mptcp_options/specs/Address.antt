-- ADD_ADDR (RFC 8684, section 3.4.1): subtype 3, with the echo flag E 0x01 in its octet, the address id, an address
-- of 4 or 16 octets, perhaps a port, and where it is no echo an HMAC of 8. REMOVE_ADDR (section 3.4.2): subtype 4,
-- and the address ids from the fourth octet on.
use Rattle.std.specs.Prelude.{◌≡◌, ℕ, ◌+◌, ◌<◌, ◌≤◌, ◌^◌, Bool, true, false, not, if◌then◌else◌, Option, Some, None, is_some, List, [], ◌∷◌, ◌++◌, length, map, filter, take, drop, bit_or}
use Rattle.std.specs.Int.{w16, w64}
use Rattle.key_material.specs.declared.address.Address.{Address}
use Rattle.key_material.specs.declared.address.Address.TheVariants.{V4, V6}
use Rattle.key_material.specs.Address.{octets_of}
use Rattle.key_material.specs.Octets.{AreOctets}
use Rattle.octet_text.specs.Octets.{octet, number_at, is_set}
use Rattle.mptcp_options.specs.Octets.{flag_if, is_among, optional, IsBelow}

-- the octets after kind and length
abbrev pub add_addr_body : Bool → ℕ → Address → Option ℕ → Option ℕ → List ℕ
add_addr_body echo id address port hmac =
    bit_or 0x30 (flag_if echo 0x01) ∷ id ∷ octets_of address ++ optional w16 port ++ optional w64 hmac

-- the octets of a REMOVE_ADDR after kind and length
abbrev pub remove_addr_body : List ℕ → List ℕ
remove_addr_body ids = 0x40 ∷ ids

-- ---- ADD_ADDR as it is read: the length tells the form

-- a form: how many octets the whole option has; whether the address is IPv4, of 4 octets, or else IPv6, of 16;
-- whether a port of 2 follows it, and an HMAC of 8; and whether it is an echo, with flag E set
pub record AddAddrForm : Type 0 where
  pub octets : ℕ
  pub ipv4 : Bool
  pub port : Bool
  pub hmac : Bool
  pub echo : Bool

-- a row of the table
abbrev form : ℕ → Bool → Bool → Bool → Bool → AddAddrForm
form octets ipv4 port hmac echo = record { octets = octets; ipv4 = ipv4; port = port; hmac = hmac; echo = echo }

-- each form has a length of its own
abbrev pub add_addr_forms : List AddAddrForm
add_addr_forms =
    -- octets IPv4  port  HMAC  echo
    form 8 true false false true
    ∷ form 10 true true false true
    ∷ form 16 true false true false
    ∷ form 18 true true true false
    ∷ form 20 false false false true
    ∷ form 22 false true false true
    ∷ form 28 false false true false
    ∷ form 30 false true true false
    ∷ []

-- how many octets those forms have that pass a test
abbrev pub lengths_where : (AddAddrForm → Bool) → List ℕ
lengths_where test = map (λ (f : AddAddrForm). f.octets) (filter test add_addr_forms)

-- the flag E of the octets
abbrev pub is_echo : List ℕ → Bool
is_echo octets = is_set (octet octets 2) 0x01

-- how many octets an echo has, or else an announcement
abbrev pub add_addr_lengths : Bool → List ℕ
add_addr_lengths true = lengths_where (λ (f : AddAddrForm). f.echo)
add_addr_lengths false = lengths_where (λ (f : AddAddrForm). not f.echo)

-- by its length the option has an address of 4 octets
abbrev pub is_ipv4 : List ℕ → Bool
is_ipv4 octets = is_among (length octets) (lengths_where (λ (f : AddAddrForm). f.ipv4))

-- by its length it has a port
abbrev pub has_port : List ℕ → Bool
has_port octets = is_among (length octets) (lengths_where (λ (f : AddAddrForm). f.port))

-- by its length it has an HMAC
abbrev pub has_hmac : List ℕ → Bool
has_hmac octets = is_among (length octets) (lengths_where (λ (f : AddAddrForm). f.hmac))

-- where the address ends
abbrev pub port_place : List ℕ → ℕ
port_place octets = if is_ipv4 octets then 8 else 20

-- where the HMAC begins
abbrev pub hmac_place : List ℕ → ℕ
hmac_place octets = port_place octets + (if has_port octets then 2 else 0)

-- the address, from the fifth octet on
abbrev pub address_at : List ℕ → Address
address_at octets = if is_ipv4 octets then V4 (take 4 (drop 4 octets)) else V6 (take 16 (drop 4 octets))

-- the port, where there is one
abbrev pub port_at : List ℕ → Option ℕ
port_at octets = if has_port octets then Some (number_at w16 octets (port_place octets)) else None

-- the 64 bits of the HMAC, where there is one
abbrev pub hmac_at : List ℕ → Option ℕ
hmac_at octets = if has_hmac octets then Some (number_at w64 octets (hmac_place octets)) else None

-- ---- REMOVE_ADDR as it is read

-- the ids, from the fourth octet on
abbrev pub ids_at : List ℕ → List ℕ
ids_at octets = drop 3 octets

-- ---- which may be written

-- an HMAC stands exactly where it is no echo
abbrev pub AddAddrHasForm : Bool → Option ℕ → Type 0
AddAddrHasForm echo hmac = is_some hmac ≡ not echo

-- an option has at most 40 octets
abbrev pub IdsHaveForm : List ℕ → Type 0
IdsHaveForm ids = (1 ≤ length ids) × (length ids ≤ 37)

-- an IPv4 address has 4 octets, an IPv6 address 16
abbrev pub AddressFits : Address → Type 0
AddressFits (V4 octets) = AreOctets octets × (length octets ≡ 4)
AddressFits (V6 octets) = AreOctets octets × (length octets ≡ 16)

-- each field has the range of its type
abbrev pub AddAddrFits : ℕ → Address → Option ℕ → Option ℕ → Type 0
AddAddrFits id address port hmac = (id < 256) × AddressFits address × IsBelow (2 ^ 16) port × IsBelow (2 ^ 64) hmac
