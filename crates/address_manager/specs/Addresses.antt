-- The addresses that a side announced and keeps, by their ids (RFC 8684, section 3.4), in the order in which they came;
-- of which ids the announcement has not ended; and which paths are backups. What an address is stands open.
use Rattle.std.specs.Prelude.{ℕ, ◌==◌, Bool, ◌||◌, List, [], Option, is_some}
use Rattle.std.specs.Map.{lookup}
use Rattle.address_manager.specs.IdSet.{no_ids}

pub record Addresses (A : Type 0) : Type 0 where
  pub announced : List (ℕ × A)
  pub kept : List (ℕ × A)
  pub due : List Bool
  pub backups : List Bool

module _ {A : Type 0} where
  abbrev pub no_addresses : Addresses A
  no_addresses = record { announced = []; kept = []; due = no_ids; backups = no_ids }

  -- the address of that id
  abbrev pub address_of : ℕ → List (ℕ × A) → Option A
  address_of id addresses = lookup (λ other. id == other) addresses

  -- there is an announced or a kept one
  abbrev pub knows : ℕ → Addresses A → Bool
  knows id a = is_some (address_of id a.announced) || is_some (address_of id a.kept)
