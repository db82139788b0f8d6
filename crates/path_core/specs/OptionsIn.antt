-- What the options of a copy say (RFC 8684, section 3).
use Rattle.std.specs.Prelude.{ℕ, ◌+◌, Bool, ◌≤◌, ◌&&◌, not, true, false, nat_lt, nat_le, if◌then◌else◌, List, ◌++◌, Option, [], Some, ◌∷◌, None, length, map}
use Rattle.std.specs.List.{flat_map, list_any}
use Rattle.sides.specs.declared.side.Side.{Side}
use Rattle.path_segments.specs.declared.segment.PathOption.TheVariants.{Capable, Dss, Join, AddAddr, Remove, Prio, Fail, FastClose, Reset}
use Rattle.path_agenda.specs.declared.heard.Heard.{Heard}
use Rattle.path_agenda.specs.declared.heard.Heard.TheVariants as says
use Rattle.path_agenda.specs.declared.notice.PeerNotice.TheVariants as notes
use Rattle.path_segments.specs.Heard.{HeardSegment}
use Rattle.subflow_tcp.specs.declared.segments.Hint.{Hint}
use Rattle.path_agenda.specs.Items.{place_in_first, wants_ack}
use Rattle.subflow_send.specs.declared.record.AckKind.TheVariants.{New}
use Rattle.subflow_tcp.specs.declared.verdicts.Arrival.{Arrival}
use Rattle.subflow_tcp.specs.declared.verdicts.Arrival.TheVariants.{Took}
use Rattle.subflow_tcp.specs.declared.verdicts.Meaning.{Meaning}
use Rattle.subflow_tcp.specs.declared.verdicts.Meaning.TheVariants as means
use Rattle.subflow_tcp.specs.declared.handshake.State.{State as EndPhase}
use Rattle.subflow_tcp.specs.States.{is_half_open}
use Rattle.mptcp_options.specs.declared.capable.CapableKeys.TheVariants.{NoKey}
use Rattle.path_core.specs.DssIn.{HeardOption, ack_items, map_items}
use Rattle.path_core.specs.Addresses.{address_items, item_removed}
use Rattle.path_core.specs.MpJoin.{join_items}
use Rattle.path_core.specs.MpCapable.{key_items}
use Rattle.path_core.specs.End.{PathEnd}

-- MP_CAPABLE says nothing on a path that joins
abbrev pub items_in : Bool → Side → ℕ → HeardOption → List Heard
items_in joined s window (Capable flag_a flag_c keys) = if joined then [] else key_items s keys
items_in joined s window (Dss next mapping) = says.Dss ∷ (ack_items next window ++ map_items mapping)
items_in joined s window (Join form) = join_items s form
items_in joined s window (AddAddr echo id address port hmac) = address_items echo id address port hmac
items_in joined s window (Remove ids) = map item_removed ids
items_in joined s window (Prio backup) = says.Notice (notes.Prio backup) ∷ []
items_in joined s window (Fail place) = says.Fail ∷ []
items_in joined s window (FastClose key) = says.FastClose key ∷ []
items_in joined s window (Reset transient reason) = []

-- all that a copy says to the end of this side, in the order of its options
abbrev pub items_of : Bool → Side → HeardSegment → List Heard
items_of joined s h = flat_map (items_in joined s h.window) h.options

-- the options of a segment say 37 things at most
pub record SaysFew (options : List HeardOption) : Type 0 where
  pub few : (joined : Bool) (s : Side) (window : ℕ) → length (flat_map (items_in joined s window) options) ≤ 37

-- after a fallback no option is heard (RFC 8684, section 3.7)
abbrev pub options_heard : PathEnd → HeardSegment → HeardSegment
options_heard e h = record h { options = (if e.modes.identity then [] else h.options) }

-- ---- what is asked of them as the copy arrives

-- the payload of a copy is kept later, if at all
abbrev pub hint_of : List Heard → Hint
hint_of items = record { data_ack = place_in_first items; keep = false }

-- a DSS with a Data ACK, whatever that names
abbrev pub has_data_ack : HeardOption → Bool
has_data_ack (Dss (Some next) mapping) = true
has_data_ack _ = false

-- the octets that a copy acknowledges for the first time; one that opens an end acknowledges the end's SYN alone
abbrev pub octets_acked : Arrival → ℕ
octets_acked (Took (New octets) new fin) = octets
octets_acked _ = 0

-- the copy acknowledges data for the first time, and none of its options has a Data ACK
abbrev pub is_plain_ack : Arrival → HeardSegment → Bool
is_plain_ack arrival h = nat_lt 0 (octets_acked arrival) && not (list_any has_data_ack h.options)

-- a copy that is taken may want an acknowledgement by what it says
abbrev pub owes_by : Meaning → List Heard → Bool
owes_by (means.Taken position acknowledged) items = list_any wants_ack items
owes_by _ items = false

-- the copy establishes the end
abbrev pub opens_by : Meaning → EndPhase → Bool
opens_by (means.Taken position acknowledged) state = is_half_open state
opens_by (means.Accepts acknowledged) state = true
opens_by _ state = false

-- the SYN that opens path 0 asks for Multipath TCP, or doesn't
abbrev pub asks_capable : HeardOption → Bool
asks_capable (Capable flag_a flag_c NoKey) = true
asks_capable _ = false

-- the edge, where the payload has the octet there
abbrev pub edge_in_payload : Meaning → List ℕ → ℕ → Option ℕ
edge_in_payload (means.Taken position acknowledged) octets edge =
    if nat_le position edge && nat_lt edge (position + length octets) then Some edge else None
edge_in_payload _ octets edge = None
