-- How an end stands to Multipath TCP.
use Rattle.std.specs.Prelude.{ℕ, ◌-◌, Bool, true, ◌||◌, false, if◌then◌else◌, Option, Some, is_some, None}
use Rattle.fallback_state.specs.declared.fall.Mode.TheVariants.{Starting, Sure, Identity, InfiniteSend, InfiniteReceive, InfiniteBoth, Aborted}
use Rattle.fallback_state.specs.declared.fall.Mode.{Mode}
use Rattle.path_store.specs.declared.infinite_mapping.InfiniteMapping.{InfiniteMapping}
use Rattle.path_store.specs.InfiniteMappings.{place_under, covers, fin_place as fin_at}
use Rattle.path_core.specs.declared.modes.Modes.{Modes}

-- the own key and nonce are there, and nothing was heard of the peer
abbrev pub first_modes : ℕ → ℕ → Modes
first_modes own_key own_nonce = record {
  mode = Starting;
  standby = false;
  sole = false;
  clear = false;
  own_key = own_key;
  peer_key = None;
  own_nonce = own_nonce;
  peer_nonce = 0;
  backup_heard = false;
  owes_third = false;
  covered = false;
  capable_asked = false;
  identity = false;
  own_infinite = None;
  peer_infinite = None;
  owes_mapping = false;
  mapped_to = None;
  failed_mapping = None;
  plain_acks = 0;
}

-- the peer's infinite mapping came
abbrev pub receives_infinite : Mode → Bool
receives_infinite InfiniteReceive = true
receives_infinite InfiniteBoth = true
receives_infinite Starting = false
receives_infinite Sure = false
receives_infinite Identity = false
receives_infinite InfiniteSend = false
receives_infinite Aborted = false

-- the peer's MP_FAIL came
abbrev pub sends_infinite : Mode → Bool
sends_infinite InfiniteSend = true
sends_infinite InfiniteBoth = true
sends_infinite Starting = false
sends_infinite Sure = false
sends_infinite Identity = false
sends_infinite InfiniteReceive = false
sends_infinite Aborted = false

-- the side sends without mappings of pieces: it fell back to plain TCP, or the peer's MP_FAIL came
abbrev pub sends_plainly : Modes → Bool
sends_plainly m = m.identity || is_some m.own_infinite

-- what the acknowledgement of a position stands for: all bytes before it
abbrev pub acknowledged_under : Option InfiniteMapping → ℕ → Option ℕ
acknowledged_under None position = None
acknowledged_under (Some mapping) position = place_under mapping position

-- by how the side sends: in plain TCP the place of a position is one less, and with mappings of pieces it stands for nothing
abbrev pub bytes_acknowledged : Modes → ℕ → Option ℕ
bytes_acknowledged m position = if m.identity then Some (position - 1) else acknowledged_under m.own_infinite position

-- the peer's byte at this position has no mapping of a piece: the side fell back to plain TCP, or the peer's infinite mapping came
abbrev pub receives_plainly : Modes → ℕ → Bool
receives_plainly m position = m.identity || covers m.peer_infinite position

-- the end of the peer's stream for which a FIN at this position stands, by how the side receives
abbrev pub fin_place : Modes → ℕ → Option ℕ
fin_place m position = fin_at m.identity m.peer_infinite position
