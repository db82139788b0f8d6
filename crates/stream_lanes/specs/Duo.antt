-- Both directions of a connection. They share nothing but what the two sides know of the connection's mode: the side that
-- begins joins is A, the one that answers them is B (RFC 8684, sections 3.2 and 3.7).
use Rattle.std.specs.Prelude.{ℕ, Bool, true, false, not, ◌&&◌, if◌then◌else◌, List, [], ◌∷◌}
use Rattle.stream_lanes.specs.Moves.{Flags}
use Rattle.stream_lanes.specs.Streams.{Direction, StreamEvent, after, opening_direction}

-- what both directions depend on
pub record Modes : Type 0 where
  -- the side is or was in Identity: it fell back to plain TCP on path 0
  pub plain_a : Bool
  pub plain_b : Bool
  -- the side is or was in InfiniteReceive or InfiniteBoth: it takes the peer's bytes by an infinite mapping
  pub loose_a : Bool
  pub loose_b : Bool
  -- A began a join
  pub begun : Bool
  -- a segment that asks for a join was sent
  pub join_sent : Bool
  -- B answered a join
  pub answered : Bool
  -- links may alter payload, and mappings are checked: neither ever changes
  pub alters : Bool
  pub checked : Bool

-- a connection
pub record Duo : Type 0 where
  pub modes : Modes
  -- from A to B, and from B to A
  pub ab : Direction
  pub ba : Direction

-- An event of the direction to B or to A; a side falls to plain TCP, or loosens: it falls to an infinite mapping as a receiver;
-- A begins a join, a segment asks for it, and B answers.
pub data Event : Type 0 where
  ToB : (event : StreamEvent) → Event
  ToA : (event : StreamEvent) → Event
  FallA : Event
  FallB : Event
  LoosenA : Event
  LoosenB : Event
  BeginJoin : Event
  SendJoin : Event
  HearJoin : Event

-- a side that joined doesn't fall
abbrev pub falls_a : Modes → Modes
falls_a m = if m.begun then m else record m { plain_a = true }

abbrev pub falls_b : Modes → Modes
falls_b m = if m.answered then m else record m { plain_b = true }

-- a side that fell doesn't join
abbrev pub begins_join : Modes → Modes
begins_join m = if m.plain_a then m else record m { begun = true }

-- a segment asks for a join only once A began one
abbrev pub sends_join : Modes → Modes
sends_join m = if m.begun then record m { join_sent = true } else m

-- B answers where it was asked and didn't fall
abbrev pub hears_join : Modes → Modes
hears_join m = if m.join_sent && not m.plain_b then record m { answered = true } else m

-- the modes as the direction from A to B needs them
abbrev pub flags_ab : Modes → Flags
flags_ab m = record { answered = m.answered; sender = m.plain_a; receiver = m.plain_b; loose = m.loose_b; alters = m.alters; checked = m.checked }

-- the modes as the direction from B to A needs them
abbrev pub flags_ba : Modes → Flags
flags_ba m = record { answered = m.answered; sender = m.plain_b; receiver = m.plain_a; loose = m.loose_a; alters = m.alters; checked = m.checked }

-- the connection after an event; one that isn't allowed changes nothing
abbrev pub after_event : Event → Duo → Duo
after_event (ToB event) w = record w { ab = after (flags_ab w.modes) event w.ab }
after_event (ToA event) w = record w { ba = after (flags_ba w.modes) event w.ba }
after_event FallA w = record w { modes = falls_a w.modes }
after_event FallB w = record w { modes = falls_b w.modes }
after_event LoosenA w = record w { modes = record w.modes { loose_a = true } }
after_event LoosenB w = record w { modes = record w.modes { loose_b = true } }
after_event BeginJoin w = record w { modes = begins_join w.modes }
after_event SendJoin w = record w { modes = sends_join w.modes }
after_event HearJoin w = record w { modes = hears_join w.modes }

-- the connection after these events, the first one first
abbrev pub after_events : List Event → Duo → Duo
after_events [] w = w
after_events (event ∷ events) w = after_events events (after_event event w)

-- a connection of so many paths before its first event, with equal buffers and equal capacities at both sides, over links
-- that may alter payload or may not, with mappings that are checked or not
abbrev pub opening_over : Bool → Bool → ℕ → ℕ → ℕ → Duo
opening_over alters checked paths buffer capacity = record {
  modes = record { plain_a = false; plain_b = false; loose_a = false; loose_b = false; begun = false; join_sent = false; answered = false; alters = alters; checked = checked };
  ab = opening_direction alters checked paths buffer capacity;
  ba = opening_direction alters checked paths buffer capacity;
}

-- two sides before their first event, over links that alter nothing, where no check is needed
abbrev pub opening : ℕ → ℕ → ℕ → Duo
opening paths buffer capacity = opening_over false false paths buffer capacity
