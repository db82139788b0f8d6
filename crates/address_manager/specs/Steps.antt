-- What each call changes and answers. `same` tells whether two addresses are one.
use Rattle.std.specs.Prelude.{ℕ, ◌==◌, Bool, true, false, not, if◌then◌else◌, Option, Some, None, slice_set}
use Rattle.std.specs.Map.{remove_entry}
use Rattle.indexmap.specs.IndexMap.{insert_entry}
use Rattle.address_manager.specs.declared.manager.Heard.{Heard}
use Rattle.address_manager.specs.declared.manager.Heard.TheVariants.{Echo, BadHmac, Known}
use Rattle.address_manager.specs.Addresses.{Addresses, address_of}

module _ {A : Type 0} where
  -- the address is announced under its id, and the announcement has not ended
  abbrev pub after_announce : ℕ → A → Addresses A → Addresses A
  after_announce id address a =
      record a { announced = insert_entry ◌==◌ a.announced id address; due = slice_set a.due id true }

  -- the address is the one that stands there
  abbrev pub is_kept : (A → A → Bool) → Option A → A → Bool
  is_kept same (Some kept) address = same kept address
  is_kept same None address = false

  -- an announced address is right or wrong, and known already or new under its id
  abbrev pub heard_reply : (A → A → Bool) → ℕ → A → Bool → Addresses A → Heard
  heard_reply same id address right a =
      if not right then BadHmac else (if is_kept same (address_of id a.kept) address then Known else Echo)

  -- a right one is kept, in place of another one of that id
  abbrev pub after_heard : ℕ → A → Bool → Addresses A → Addresses A
  after_heard id address right a = if right then record a { kept = insert_entry ◌==◌ a.kept id address } else a

  -- what was announced and what was kept under the id is dropped
  abbrev pub after_removed : ℕ → Addresses A → Addresses A
  after_removed id a =
      record a {
        announced = remove_entry (λ other. id == other) a.announced;
        kept = remove_entry (λ other. id == other) a.kept;
        due = slice_set a.due id false;
      }
