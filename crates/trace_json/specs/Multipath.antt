-- The options of Multipath TCP as objects, by their names in RFC 8684, section 3: keys, data numbers, tokens, nonces, HMACs and checksums
-- are strings of hexadecimal digits, all other numbers are numbers.
use Rattle.std.specs.Prelude.{ℕ, Bool, Option, Some, None, List, ◌++◌, codes, map, slice_index}
use Rattle.std.specs.Fmt.{decimal}
use Rattle.hex.specs.Hex.{encode_lower}
use Rattle.key_material.specs.declared.address.Address.{Address}
use Rattle.key_material.specs.declared.address.Address.TheVariants.{V4, V6}
use Rattle.mptcp_options.specs.declared.capable.CapableKeys.{CapableKeys}
use Rattle.mptcp_options.specs.declared.capable.CapableKeys.TheVariants.{NoKey, Sender, Both, WithData}
use Rattle.mptcp_options.specs.declared.join.JoinForm.{JoinForm}
use Rattle.mptcp_options.specs.declared.join.JoinForm.TheVariants as join
use Rattle.mptcp_options.specs.declared.dss.DataNumber.{DataNumber}
use Rattle.mptcp_options.specs.declared.dss.DataNumber.TheVariants.{Whole, Low}
use Rattle.mptcp_options.specs.declared.dss.DssMap.{DssMap}
use Rattle.mptcp_options.specs.Value as wire
use Rattle.serde_json.specs.Data.{Data, Members, null, boolean, number, unsigned, string, array, object, member, no_members, put}
use Rattle.serde_json.specs.View.{items_of}
use Rattle.trace_json.specs.Fields.{digits_or_null, hexadecimal, number_or_null}

-- ---- MP_CAPABLE

abbrev pub sender_of : CapableKeys → Option ℕ
sender_of NoKey = None
sender_of (Sender sender) = Some sender
sender_of (Both sender receiver) = Some sender
sender_of (WithData sender receiver len checksum) = Some sender

abbrev pub receiver_of : CapableKeys → Option ℕ
receiver_of (Both sender receiver) = Some receiver
receiver_of (WithData sender receiver len checksum) = Some receiver
receiver_of _ = None

-- the octets of data that it maps
abbrev pub length_of : CapableKeys → Option ℕ
length_of (WithData sender receiver len checksum) = Some len
length_of _ = None

abbrev pub checksum_of : CapableKeys → Option ℕ
checksum_of (WithData sender receiver len checksum) = checksum
checksum_of _ = None

-- whether checksums are required, and the keys and the mapping as far as they stand there
abbrev pub capable_data : Bool → CapableKeys → Data
capable_data required keys = object (
    member (codes "checksum") (digits_or_null (checksum_of keys)) (
    member (codes "checksum_required") (boolean required) (
    member (codes "length") (number_or_null (length_of keys)) (
    member (codes "name") (string (codes "MP_CAPABLE")) (
    member (codes "receiver") (digits_or_null (receiver_of keys)) (
    member (codes "sender") (digits_or_null (sender_of keys)) no_members))))))

-- ---- MP_JOIN

abbrev pub join_syn : Bool → ℕ → ℕ → ℕ → Data
join_syn backup id token nonce = object (
    member (codes "backup") (boolean backup) (
    member (codes "id") (number (unsigned id)) (
    member (codes "name") (string (codes "MP_JOIN")) (
    member (codes "nonce") (string (hexadecimal nonce)) (
    member (codes "token") (string (hexadecimal token)) no_members)))))

abbrev pub join_answer : Bool → ℕ → ℕ → ℕ → Data
join_answer backup id hmac nonce = object (
    member (codes "backup") (boolean backup) (
    member (codes "hmac") (string (hexadecimal hmac)) (
    member (codes "id") (number (unsigned id)) (
    member (codes "name") (string (codes "MP_JOIN")) (
    member (codes "nonce") (string (hexadecimal nonce)) no_members)))))

-- the 20 octets of an HMAC
abbrev pub join_third : List ℕ → Data
join_third hmac = object (
    member (codes "hmac") (string (codes "0x" ++ encode_lower hmac)) (
    member (codes "name") (string (codes "MP_JOIN")) no_members))

abbrev pub join_data : JoinForm → Data
join_data (join.Syn backup id token nonce) = join_syn backup id token nonce
join_data (join.Answer backup id hmac nonce) = join_answer backup id hmac nonce
join_data (join.Third hmac) = join_third hmac

-- ---- DSS

-- a data number, as wide as it stands
abbrev pub number_of : DataNumber → ℕ
number_of (Whole whole) = whole
number_of (Low low) = low

abbrev pub ack_data : Option DataNumber → Data
ack_data None = null
ack_data (Some ack) = string (hexadecimal (number_of ack))

-- the data number, the relative number on the subflow, the octets
abbrev pub map_data : DssMap → Data
map_data m = object (
    member (codes "checksum") (digits_or_null m.checksum) (
    member (codes "length") (number (unsigned m.length)) (
    member (codes "number") (string (hexadecimal (number_of m.number))) (
    member (codes "relative") (number (unsigned m.relative)) no_members))))

abbrev pub mapping_data : Option DssMap → Data
mapping_data None = null
mapping_data (Some m) = map_data m

abbrev pub with_dss : Option DataNumber → Option DssMap → Bool → Members → Members
with_dss ack mapping fin ms =
    put (codes "name") (string (codes "DSS")) (
    put (codes "fin") (boolean fin) (
    put (codes "ack") (ack_data ack) (
    put (codes "mapping") (mapping_data mapping) ms)))

-- the Data ACK, flag F, the mapping
abbrev pub dss_data : Option DataNumber → Option DssMap → Bool → Data
dss_data ack mapping fin = object (
    member (codes "ack") (ack_data ack) (
    member (codes "fin") (boolean fin) (
    member (codes "mapping") (mapping_data mapping) (
    member (codes "name") (string (codes "DSS")) no_members))))

-- ---- addresses

-- four numbers with points between them
abbrev pub v4_text : List ℕ → List ℕ
v4_text octets =
    decimal (slice_index octets 0) ++ (codes "." ++ (decimal (slice_index octets 1)
    ++ (codes "." ++ (decimal (slice_index octets 2) ++ (codes "." ++ decimal (slice_index octets 3))))))

-- one of sixteen octets in hexadecimal, with nothing between them
abbrev pub address_text : Address → List ℕ
address_text (V4 octets) = v4_text octets
address_text (V6 octets) = encode_lower octets

abbrev pub announced_data : Bool → ℕ → Address → Option ℕ → Option ℕ → Data
announced_data echo id address port hmac = object (
    member (codes "address") (string (address_text address)) (
    member (codes "echo") (boolean echo) (
    member (codes "hmac") (digits_or_null hmac) (
    member (codes "id") (number (unsigned id)) (
    member (codes "name") (string (codes "ADD_ADDR")) (
    member (codes "port") (number_or_null port) no_members))))))

abbrev pub ids_data : List ℕ → List Data
ids_data ids = map (λ id. number (unsigned id)) ids

abbrev pub removed_data : List ℕ → Data
removed_data ids = object (
    member (codes "ids") (array (items_of (ids_data ids))) (
    member (codes "name") (string (codes "REMOVE_ADDR")) no_members))

-- ---- all of them

abbrev pub prio_data : Bool → Data
prio_data backup = object (member (codes "backup") (boolean backup) (member (codes "name") (string (codes "MP_PRIO")) no_members))

abbrev pub fail_data : ℕ → Data
fail_data data_number = object (
    member (codes "name") (string (codes "MP_FAIL")) (
    member (codes "number") (string (hexadecimal data_number)) no_members))

abbrev pub fast_close_data : ℕ → Data
fast_close_data key = object (
    member (codes "key") (string (hexadecimal key)) (
    member (codes "name") (string (codes "MP_FASTCLOSE")) no_members))

abbrev pub reset_data : Bool → ℕ → Data
reset_data transient reason = object (
    member (codes "name") (string (codes "MP_TCPRST")) (
    member (codes "reason") (number (unsigned reason)) (
    member (codes "transient") (boolean transient) no_members)))

abbrev pub value_data : wire.OptionValue → Data
value_data (wire.Capable flag_a flag_c keys) = capable_data flag_a keys
value_data (wire.Join form) = join_data form
value_data (wire.Dss ack mapping fin) = dss_data ack mapping fin
value_data (wire.AddAddr echo id address port hmac) = announced_data echo id address port hmac
value_data (wire.RemoveAddr ids) = removed_data ids
value_data (wire.Prio backup) = prio_data backup
value_data (wire.Fail data_number) = fail_data data_number
value_data (wire.FastClose key) = fast_close_data key
value_data (wire.Reset transient reason) = reset_data transient reason
