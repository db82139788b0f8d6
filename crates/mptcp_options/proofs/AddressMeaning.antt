-- What octets of an ADD_ADDR and of a REMOVE_ADDR mean.
use Rattle.std.proofs.Common.{◌≡◌, ℕ, ◌-◌, Bool, nat_le, List, length, take, drop, refl, arith}
use Rattle.std.proofs.lemmas.Grind.{common_steps}
use Rattle.octet_text.specs.Octets.{octet}
use Rattle.mptcp_options.specs.Octets.{is_among}
use Rattle.mptcp_options.specs.Value.{AddAddr, RemoveAddr}
use Rattle.mptcp_options.specs.Address.{is_echo, add_addr_lengths, address_at, port_at, hmac_at, ids_at}
use Rattle.mptcp_options.specs.Meaning.{IsFramed, subtype, has_length_of_table, value_at, option_meaning}
use Rattle.mptcp_options.proofs.MeaningByTable.{known_if, by_length}

module _ (octets : List ℕ) (framed : IsFramed octets) where
  pub add_addr_length : subtype octets ≡ 3 → has_length_of_table octets ≡ (is_among (length octets) (add_addr_lengths (is_echo octets)))
  unfolding has_length_of_table
  add_addr_length e = rw e refl

  pub add_addr_value : subtype octets ≡ 3 → value_at octets ≡ AddAddr (is_echo octets) (octet octets 3) (address_at octets) (port_at octets) (hmac_at octets)
  unfolding value_at
  add_addr_value e = rw e refl

  pub option_meaning_add_addr : subtype octets ≡ 3 → (checksum : Bool)
      → option_meaning octets checksum ≡ known_if (is_among (length octets) (add_addr_lengths (is_echo octets))) (AddAddr (is_echo octets) (octet octets 3) (address_at octets) (port_at octets) (hmac_at octets))
  option_meaning_add_addr e = by_length octets framed 3 e refl refl refl _ _ (add_addr_length e) (add_addr_value e)

  pub remove_addr_length : subtype octets ≡ 4 → has_length_of_table octets ≡ (nat_le 4 (length octets))
  unfolding has_length_of_table
  remove_addr_length e = rw e refl

  pub remove_addr_value : subtype octets ≡ 4 → value_at octets ≡ RemoveAddr (ids_at octets)
  unfolding value_at
  remove_addr_value e = rw e refl

  pub option_meaning_remove_addr : subtype octets ≡ 4 → (checksum : Bool)
      → option_meaning octets checksum ≡ known_if (nat_le 4 (length octets)) (RemoveAddr (ids_at octets))
  option_meaning_remove_addr e = by_length octets framed 4 e refl refl refl _ _ (remove_addr_length e) (remove_addr_value e)

  -- a slice from the fourth octet on is all that follows the third
  pub take-after_three : take (length octets - 3) (drop 3 octets) ≡ drop 3 octets
  take-after_three = grind (arith, common_steps)

pub ruleset remove_addr_forms = (option_meaning_remove_addr, take-after_three)
