-- What lists of calls promise.
use Rattle.std.specs.Prelude.{ℕ, ◌≡◌, ◌+◌, ◌-◌, ◌<◌, ◌≤◌, ◌↔◌, ◌⊎◌, ◌&&◌, true, nat_le, nat_lt, if◌then◌else◌, Option, Some, None, List, [], ◌∷◌, length, take, drop, slice_get}
use Rattle.subflow_recv.specs.Receiving.{Receiving, filled, window_end, is_outside, after_accept, after_hold, after_keep_held, after_advance, after_forget_from, octet_at}

-- what can happen to a side to which parts of one list of octets come
pub data Event : Type 0 where
  -- a number of octets, from this one on, come
  Comes : ℕ → ℕ → Event
  -- the edge moves over so many positions
  Advances : ℕ → Event
  -- what lies at or past this position is forgotten
  Forgets : ℕ → Event

-- the octets of a list, of which the first one stands at the position `start`
abbrev pub after_event : ℕ → List ℕ → Event → Receiving → Receiving
after_event start octets (Comes from count) v = after_accept (start + from) (take count (drop from octets)) v
after_event start octets (Advances count) v = after_advance (v.edge + count) v
after_event start octets (Forgets pos) v = after_forget_from pos v

-- the side after these events, the first one first
abbrev pub after_events : ℕ → List ℕ → List Event → Receiving → Receiving
after_events start octets [] v = v
after_events start octets (event ∷ events) v = after_events start octets events (after_event start octets event v)

-- the octets that came in order are the first ones of the list from the edge on
abbrev pub IsHeldPrefix : ℕ → List ℕ → Receiving → Type 0
IsHeldPrefix start octets v = filled v.places ≡ take (length (filled v.places)) (drop (v.edge - start) octets)

-- whatever parts of one list come, and in any order, what is held is a prefix of the list from the edge on
abbrev pub HeldIsAPrefix : Type 0
HeldIsAPrefix = (start : ℕ) (octets : List ℕ) (events : List Event) (v : Receiving) → v.places ≡ [] → start ≤ v.edge
    → IsHeldPrefix start octets (after_events start octets events v)

-- the side after these payloads, each at its position, the first one first
abbrev pub after_payloads : List (ℕ × List ℕ) → Receiving → Receiving
after_payloads [] v = v
after_payloads (p ∷ ps) v = after_payloads ps (after_accept p.0 p.1 v)

-- no payload, whatever its octets are, changes an octet that is kept
abbrev pub KeptOctetsStay : Type 0
KeptOctetsStay = (payloads : List (ℕ × List ℕ)) (v : Receiving) (pos octet : ℕ)
    → octet_at pos v ≡ Some octet → octet_at pos (after_payloads payloads v) ≡ Some octet

-- the octet that a payload has for a position, if it has one; its first octet stands at `at`
abbrev pub payload_octet : ℕ → ℕ → List ℕ → Option ℕ
payload_octet pos at payload = if nat_lt pos at then None else slice_get payload (pos - at)

-- the first one, or else the second
abbrev pub first_of : Option ℕ → Option ℕ → Option ℕ
first_of None other = other
first_of (Some octet) other = Some octet

-- a position in the window keeps its octet, or else takes that of the payload; no other position changes
abbrev pub WhatComesFirstIsKept : Type 0
WhatComesFirstIsKept = (v : Receiving) (at : ℕ) (payload : List ℕ) (pos : ℕ)
    → octet_at pos (after_accept at payload v)
    ≡ (if nat_le v.edge pos && nat_lt pos (window_end v) then first_of (octet_at pos v) (payload_octet pos at payload) else octet_at pos v)

-- at or past the position nothing is kept, and all before it is as it was
abbrev pub ForgottenOctetsAreGone : Type 0
ForgottenOctetsAreGone = (v : Receiving) (from pos : ℕ) → v.edge ≤ from
    → octet_at pos (after_forget_from from v) ≡ (if nat_lt pos from then octet_at pos v else None)

-- a payload is outside exactly where each of its octets is below the edge or past the window
abbrev pub OutsideIsNoOctetInTheWindow : Type 0
OutsideIsNoOctetInTheWindow = (pos : ℕ) (payload : List ℕ) (v : Receiving) → 0 < v.window
    → (is_outside pos payload v ≡ true) ↔ ((k : ℕ) → k < length payload → (pos + k < v.edge) ⊎ (window_end v ≤ pos + k))

-- a payload that is held and then kept is kept as if it had been accepted at once
abbrev pub HeldPayloadsAreKept : Type 0
HeldPayloadsAreKept = (v : Receiving) (pos : ℕ) (payload : List ℕ) → after_keep_held (after_hold pos payload v) ≡ after_accept pos payload v
