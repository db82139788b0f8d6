-- The token by which a segment asks to join a connection (RFC 8684, section 3.2).
use Rattle.std.specs.Prelude.{ℕ, ◌&&◌, ◌==◌, Bool, not, if◌then◌else◌, List, find, Option, Some, None, option_and_then}
use Rattle.std.specs.Result.{result_ok}
use Rattle.octet_text.specs.Octets.{octet}
use Rattle.mptcp_options.specs.declared.join.JoinForm.TheVariants.{Syn}
use Rattle.mptcp_options.specs.Meaning.{option_meaning, subtype}
use Rattle.mptcp_options.specs.Value.{Meaning, Known, Join}
use Rattle.segment_wire.specs.declared.head.Addresses.{Addresses}
use Rattle.segment_wire.specs.Options.{option_octets}
use Rattle.segment_wire.specs.Reading.{segment_meaning}
use Rattle.segment_wire.specs.Segment.{Segment}

-- an option of kind 30 and subtype 1 is MP_JOIN, whole or not
abbrev pub is_join : List ℕ → Bool
is_join option = octet option 0 == 0x1E && subtype option == 1

-- the first one of a segment with these option octets
abbrev pub first_join : List ℕ → Option (List ℕ)
first_join options = find is_join (option_octets options)

-- the token of an MP_JOIN that has the form of a SYN: 12 octets
abbrev pub meant_token : Meaning → Option ℕ
meant_token (Known (Join (Syn backup id token nonce))) = Some token
meant_token _ = None

-- the token of an option's octets, where they are an MP_JOIN that has the form of a SYN
abbrev pub option_token : List ℕ → Option ℕ
option_token option = meant_token (option_meaning option Bool.false)

-- a SYN without ACK
abbrev pub asks_to_open : Segment → Bool
asks_to_open segment = segment.head.syn && not segment.head.ack_set

-- the token of a SYN without ACK, by the first MP_JOIN that it has
abbrev pub segment_token : Segment → Option ℕ
segment_token segment = if asks_to_open segment then option_and_then option_token (first_join segment.options) else None

-- the token by which octets that went between these addresses ask to join
abbrev pub join_token : Addresses → List ℕ → Option ℕ
join_token addresses octets = option_and_then segment_token (result_ok (segment_meaning addresses octets))
