-- The options of Multipath TCP in words (RFC 8684, section 3): names and fields as tcpdump's print-mptcp.c has them, numbers of
-- fields in decimal, keys, tokens, nonces, HMACs and checksums in hexadecimal.
use Rattle.std.specs.Prelude.{ℕ, ◌+◌, ◌-◌, ◌%◌, ◌^◌, Bool, true, false, if◌then◌else◌, Option, Some, None, List, [], ◌∷◌, ◌++◌, codes}
use Rattle.std.specs.Fmt.{decimal, digits}
use Rattle.std.specs.List.{flat_map}
use Rattle.hex.specs.Hex.{encode_lower}
use Rattle.key_material.specs.declared.address.Address.{Address}
use Rattle.key_material.specs.declared.address.Address.TheVariants.{V4, V6}
use Rattle.mptcp_options.specs.declared.capable.CapableKeys.{CapableKeys}
use Rattle.mptcp_options.specs.declared.capable.CapableKeys.TheVariants.{NoKey, Sender, Both, WithData}
use Rattle.mptcp_options.specs.declared.join.JoinForm.{JoinForm}
use Rattle.mptcp_options.specs.declared.join.JoinForm.TheVariants as join
use Rattle.mptcp_options.specs.declared.dss.DataNumber.{DataNumber}
use Rattle.mptcp_options.specs.declared.dss.DataNumber.TheVariants.{Whole, Low}
use Rattle.mptcp_options.specs.declared.dss.DssMap.{DssMap}
use Rattle.mptcp_options.specs.Value as wire
use Rattle.std.specs.Prelude.{slice_index}
use Rattle.link_trace.specs.declared.multipath.DataInitials.{DataInitials}

-- a number in lower-case digits behind `0x`
abbrev pub hexadecimal : ℕ → List ℕ
hexadecimal n = codes "0x" ++ digits 16 false n

-- the word where the flag is set, or nothing
abbrev pub word_if : Bool → List ℕ → List ℕ
word_if flag word = if flag then word else []

-- a checksum, where there is one
abbrev pub optional_checksum : Option ℕ → List ℕ
optional_checksum None = []
optional_checksum (Some checksum) = codes " csum " ++ hexadecimal checksum

-- ---- MP_CAPABLE

-- the keys in braces, and behind those of a segment with data its length and checksum
abbrev pub key_words : CapableKeys → List ℕ
key_words NoKey = []
key_words (Sender sender) = codes " {" ++ hexadecimal sender ++ codes "}"
key_words (Both sender receiver) = codes " {" ++ hexadecimal sender ++ codes "," ++ hexadecimal receiver ++ codes "}"
key_words (WithData sender receiver len checksum) =
    codes " {" ++ hexadecimal sender ++ codes "," ++ hexadecimal receiver ++ codes "} len " ++ decimal len ++ optional_checksum checksum

-- `csum` where checksums are required
abbrev pub capable_words : Bool → CapableKeys → List ℕ
capable_words required keys = codes "capable v1" ++ word_if required (codes " csum") ++ key_words keys

-- ---- MP_JOIN

-- the 20 octets of an HMAC
abbrev pub third_words : List ℕ → List ℕ
third_words hmac = codes " hmac 0x" ++ encode_lower hmac

-- the form by its fields
abbrev pub join_words : JoinForm → List ℕ
join_words (join.Syn backup id token nonce) =
    codes "join" ++ word_if backup (codes " backup") ++ codes " id " ++ decimal id
    ++ codes " token " ++ hexadecimal token ++ codes " nonce " ++ hexadecimal nonce
join_words (join.Answer backup id hmac nonce) =
    codes "join" ++ word_if backup (codes " backup") ++ codes " id " ++ decimal id
    ++ codes " hmac " ++ hexadecimal hmac ++ codes " nonce " ++ hexadecimal nonce
join_words (join.Third hmac) = codes "join" ++ third_words hmac

-- ---- DSS

abbrev pub low_half : ℕ → ℕ
low_half number = number % 2 ^ 32

-- a data number relative to the initial one, as wide as it stands; or as it stands, where there is none
abbrev pub number_told : Option ℕ → DataNumber → ℕ
number_told None (Whole number) = number
number_told None (Low low) = low
number_told (Some initial) (Whole number) = (number + (2 ^ 64 - initial)) % 2 ^ 64
number_told (Some initial) (Low low) = (low + (2 ^ 32 - low_half initial)) % 2 ^ 32

-- the Data ACK, where there is one
abbrev pub ack_words : Option ℕ → Option DataNumber → List ℕ
ack_words initial None = []
ack_words initial (Some number) = codes " ack " ++ decimal (number_told initial number)

-- the mapping, where there is one
abbrev pub mapping_words : Option ℕ → Option DssMap → List ℕ
mapping_words initial None = []
mapping_words initial (Some map) =
    codes " seq " ++ decimal (number_told initial map.number) ++ codes " subseq " ++ decimal map.relative
    ++ codes " len " ++ decimal map.length ++ optional_checksum map.checksum

-- `fin` where flag F is set; a Data ACK counts from the number of the peer's stream, a mapping from that of the own one
abbrev pub dss_words : DataInitials → Option DataNumber → Option DssMap → Bool → List ℕ
dss_words initials ack mapping fin =
    codes "dss" ++ word_if fin (codes " fin") ++ ack_words initials.peer ack ++ mapping_words initials.own mapping

-- ---- addresses

-- four numbers with points between them
abbrev pub v4_words : List ℕ → List ℕ
v4_words octets =
    codes " " ++ decimal (slice_index octets 0) ++ codes "." ++ decimal (slice_index octets 1)
    ++ codes "." ++ decimal (slice_index octets 2) ++ codes "." ++ decimal (slice_index octets 3)

-- an IPv6 address's octets in hexadecimal, with nothing between them
abbrev pub v6_words : List ℕ → List ℕ
v6_words octets = codes " " ++ encode_lower octets

abbrev pub address_words : Address → List ℕ
address_words (V4 octets) = v4_words octets
address_words (V6 octets) = v6_words octets

-- a port, where there is one
abbrev pub port_words : Option ℕ → List ℕ
port_words None = []
port_words (Some port) = codes ":" ++ decimal port

-- an HMAC, where there is one
abbrev pub hmac_words : Option ℕ → List ℕ
hmac_words None = []
hmac_words (Some hmac) = codes " hmac " ++ hexadecimal hmac

-- each id behind a space
abbrev pub ids_words : List ℕ → List ℕ
ids_words ids = flat_map (λ id. codes " " ++ decimal id) ids

-- what ADD_ADDR tells behind the id
abbrev pub announced_words : Address → Option ℕ → Option ℕ → List ℕ
announced_words address port hmac = address_words address ++ port_words port ++ hmac_words hmac

-- the ids of REMOVE_ADDR
abbrev pub removed_words : List ℕ → List ℕ
removed_words ids = codes "rem-addr id" ++ ids_words ids

-- ---- all of them

abbrev pub key_told : ℕ → List ℕ
key_told key = codes " key " ++ hexadecimal key

abbrev pub fast_close_words : ℕ → List ℕ
fast_close_words key = codes "fast-close" ++ key_told key

-- an option by its name and fields
abbrev pub value_words : DataInitials → wire.OptionValue → List ℕ
value_words initials (wire.Capable flag_a flag_c keys) = capable_words flag_a keys
value_words initials (wire.Join form) = join_words form
value_words initials (wire.Dss ack mapping fin) = dss_words initials ack mapping fin
value_words initials (wire.AddAddr echo id address port hmac) =
    codes "add-addr" ++ word_if echo (codes " echo") ++ codes " id " ++ decimal id ++ announced_words address port hmac
value_words initials (wire.RemoveAddr ids) = removed_words ids
value_words initials (wire.Prio backup) = codes "prio" ++ word_if backup (codes " backup")
value_words initials (wire.Fail number) = codes "fail seq " ++ decimal number
value_words initials (wire.FastClose key) = fast_close_words key
value_words initials (wire.Reset transient reason) =
    codes "rst" ++ word_if transient (codes " transient") ++ codes " reason " ++ decimal reason
