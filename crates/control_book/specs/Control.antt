-- What a side keeps of its connection.
use Rattle.std.specs.Prelude.{ℕ, ◌==◌, Bool, false, List, Option, Some, None, replicate, slice_set, slice_index_or}
use Rattle.sides.specs.declared.side.Side.{Side}
use Rattle.fallback_state.specs.declared.fall.Fall.{Fall}
use Rattle.fallback_state.specs.Fall.{opening as fall_opening}
use Rattle.key_material.specs.declared.address.Address.{Address}
use Rattle.address_manager.specs.Addresses.{Addresses, no_addresses}
use Rattle.address_manager.specs.IdSet.{no_ids}
use Rattle.control_book.specs.declared.registry.PathState.{PathState}
use Rattle.control_book.specs.declared.book.Keys.{Keys}
use Rattle.control_book.specs.declared.book.Notices.{Notices}
use Rattle.control_book.specs.Registry.{opening_paths}

pub record Control : Type 0 where
  -- the side whose book it is
  pub side : Side
  -- the side's key, and the peer's
  pub keys : Keys
  -- how the side stands to Multipath TCP
  pub fall : Fall
  -- the paths of the connection
  pub paths : List PathState
  -- the addresses, and the backups
  pub addresses : Addresses Address
  -- the carrier of a fast close, and the addresses to be taken back
  pub notices : Notices

-- no id is to be taken back on any path
unfoldable pub no_withdrawals : List (List Bool)
no_withdrawals = replicate 16 no_ids

-- when the connection opens
abbrev pub new_control : Side → ℕ → Control
new_control side key = record {
  side = side;
  keys = record { own = key; peer = None };
  fall = fall_opening;
  paths = opening_paths;
  addresses = no_addresses;
  notices = record { carrier = None; withdrawals = no_withdrawals };
}

-- the peer's key, and 0 while there is none
abbrev pub peer_or_zero : Option ℕ → ℕ
peer_or_zero (Some key) = key
peer_or_zero None = 0

-- a path that may be one
abbrev pub is_path : Option ℕ → ℕ → Bool
is_path (Some one) path = one == path
is_path None path = false

-- the ids that are to be taken back on a path
abbrev pub withdrawals_on : List (List Bool) → ℕ → List Bool
withdrawals_on withdrawals path = slice_index_or withdrawals path no_ids

-- the id is to be taken back on the path, or no longer
abbrev pub with_withdrawal_due : ℕ → Bool → ℕ → List (List Bool) → List (List Bool)
with_withdrawal_due id due path withdrawals = slice_set withdrawals path (slice_set (withdrawals_on withdrawals path) id due)
