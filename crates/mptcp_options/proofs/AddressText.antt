-- ADD_ADDR and REMOVE_ADDR, written and read.
use Rattle.std.proofs.Common.{◌≡◌, ℕ, ◌+◌, ◌≤◌, Bool, true, false, nat_le, if◌then◌else◌, Option, Some, None, List, [], ◌∷◌, ◌++◌, length, take, drop, refl, ap, sym, subst, ◌∙◌, append_assoc, arith}
use Rattle.std.specs.Int.{w16, w64}
use Rattle.std.proofs.lemmas.List.{drop_all}
use Rattle.std.proofs.Math.Seq.{drop-cons}
use Rattle.std.proofs.lemmas.Bool.{le-leb, leb-true}
use Rattle.key_material.specs.Octets.{AreOctets}
use Rattle.key_material.specs.Address.{octets_of}
use Rattle.key_material.specs.declared.address.Address.{Address}
use Rattle.key_material.specs.declared.address.Address.TheVariants.{V4, V6}
use Rattle.octet_text.specs.Octets.{octet}
use Rattle.mptcp_options.specs.Octets.{is_among, optional}
use Rattle.mptcp_options.specs.Address.{is_echo, is_ipv4, has_port, has_hmac, add_addr_lengths, address_at, port_at, hmac_at, ids_at, AddAddrHasForm, AddressFits, AddAddrFits, IdsHaveForm}
use Rattle.mptcp_options.specs.Value.{AddAddr, RemoveAddr, Known}
use Rattle.mptcp_options.specs.Text.{option_text}
use Rattle.mptcp_options.specs.Meaning.{IsFramed, subtype, is_of_another_kind, is_misframed, is_foreign, has_no_flags, is_unusable, has_length_of_table, differs_in_checksum, value_at, option_meaning}
use Rattle.mptcp_options.specs.Ignored.{third_mask, fourth_mask, cleared}
use Rattle.mptcp_options.proofs.Among.{first_or, no_more}
use Rattle.mptcp_options.proofs.Cells.{first_cells, cells, again, again-16, again-64}
use Rattle.mptcp_options.proofs.NumbersAgain.{written_again_16, written_again_64, last_field, then_rest}
use Rattle.mptcp_options.proofs.TextAgain.{text_again, four_again, subtype_again, flag_again, octet_again}
use Rattle.mptcp_options.proofs.AddressMeaning.{add_addr_length, remove_addr_length, option_meaning_remove_addr}

-- ---- what is written is read

-- an HMAC exactly where it is no echo
abbrev hmac_if : Bool → ℕ → Option ℕ
hmac_if true hmac = None
hmac_if false hmac = Some hmac

same_address : (echo : Bool) (id : ℕ) (address : Address) (p port h hmac : Option ℕ) → p ≡ port → h ≡ hmac
    → Known (AddAddr echo id address p h) ≡ Known (AddAddr echo id address port hmac)
same_address echo id address p port h hmac e f = cc

by_cells_v4 : (echo : Bool) (id : ℕ) (xs : List ℕ) (port : Option ℕ) (hmac : ℕ) (checksum : Bool)
    → option_meaning (option_text (AddAddr echo id (V4 (first_cells 4 xs)) port (hmac_if echo hmac))) checksum
    ≡ Known (AddAddr echo id (V4 (first_cells 4 xs)) (again w16 port) (again w64 (hmac_if echo hmac)))
unfolding option_text option_meaning is_of_another_kind is_misframed is_foreign has_no_flags is_unusable has_length_of_table differs_in_checksum value_at
by_cells_v4 true id xs None hmac true = refl
by_cells_v4 true id xs None hmac false = refl
by_cells_v4 true id xs (Some port) hmac true = refl
by_cells_v4 true id xs (Some port) hmac false = refl
by_cells_v4 false id xs None hmac true = refl
by_cells_v4 false id xs None hmac false = refl
by_cells_v4 false id xs (Some port) hmac true = refl
by_cells_v4 false id xs (Some port) hmac false = refl

by_cells_v6 : (echo : Bool) (id : ℕ) (xs : List ℕ) (port : Option ℕ) (hmac : ℕ) (checksum : Bool)
    → option_meaning (option_text (AddAddr echo id (V6 (first_cells 16 xs)) port (hmac_if echo hmac))) checksum
    ≡ Known (AddAddr echo id (V6 (first_cells 16 xs)) (again w16 port) (again w64 (hmac_if echo hmac)))
unfolding option_text option_meaning is_of_another_kind is_misframed is_foreign has_no_flags is_unusable has_length_of_table differs_in_checksum value_at
by_cells_v6 true id xs None hmac true = refl
by_cells_v6 true id xs None hmac false = refl
by_cells_v6 true id xs (Some port) hmac true = refl
by_cells_v6 true id xs (Some port) hmac false = refl
by_cells_v6 false id xs None hmac true = refl
by_cells_v6 false id xs None hmac false = refl
by_cells_v6 false id xs (Some port) hmac true = refl
by_cells_v6 false id xs (Some port) hmac false = refl

by_cells : (echo : Bool) (id : ℕ) (address : Address) (port : Option ℕ) (hmac : ℕ) (checksum : Bool) → AddressFits address
    → option_meaning (option_text (AddAddr echo id address port (hmac_if echo hmac))) checksum
    ≡ Known (AddAddr echo id address (again w16 port) (again w64 (hmac_if echo hmac)))
by_cells echo id (V4 octets) port hmac checksum fits =
    subst (λ xs. option_meaning (option_text (AddAddr echo id (V4 xs) port (hmac_if echo hmac))) checksum
    ≡ Known (AddAddr echo id (V4 xs) (again w16 port) (again w64 (hmac_if echo hmac))))
    (sym (cells 4 octets fits.1)) (by_cells_v4 echo id octets port hmac checksum)
by_cells echo id (V6 octets) port hmac checksum fits =
    subst (λ xs. option_meaning (option_text (AddAddr echo id (V6 xs) port (hmac_if echo hmac))) checksum
    ≡ Known (AddAddr echo id (V6 xs) (again w16 port) (again w64 (hmac_if echo hmac))))
    (sym (cells 16 octets fits.1)) (by_cells_v6 echo id octets port hmac checksum)

pub read_again-add_addr : (echo : Bool) (id : ℕ) (address : Address) (port hmac : Option ℕ) (checksum : Bool)
    → AddAddrHasForm echo hmac → AddAddrFits id address port hmac
    → option_meaning (option_text (AddAddr echo id address port hmac)) checksum ≡ Known (AddAddr echo id address port hmac)
read_again-add_addr true id address port None checksum form fits =
    by_cells true id address port 0 checksum fits.1 ∙ same_address true id address _ port _ None (again-16 port fits.2) refl
read_again-add_addr false id address port (Some hmac) checksum form fits =
    by_cells false id address port hmac checksum fits.1
    ∙ same_address false id address _ port _ (Some hmac) (again-16 port fits.2) (again-64 (Some hmac) fits.3)
read_again-add_addr true id address port (Some hmac) checksum form fits = absurd cc
read_again-add_addr false id address port None checksum form fits = absurd cc

pub read_again-remove_addr : (ids : List ℕ) (checksum : Bool) → IdsHaveForm ids
    → option_meaning (option_text (RemoveAddr ids)) checksum ≡ Known (RemoveAddr ids)
unfolding option_text
read_again-remove_addr ids checksum form =
    let some : 1 ≤ length ids = form.0 in
    option_meaning_remove_addr (option_text (RemoveAddr ids))
    (record { kind = refl; counted = omega arith; long = omega arith }) refl checksum
    ∙ rw (le-leb 4 (length (option_text (RemoveAddr ids))) (omega arith)) refl

-- ---- what is read is written

-- how many octets the address, the port and the HMAC have
abbrev address_octets : Bool → ℕ
address_octets ipv4 = if ipv4 then 4 else 16

abbrev port_octets : Bool → ℕ
port_octets port = if port then 2 else 0

abbrev hmac_octets : Bool → ℕ
hmac_octets hmac = if hmac then 8 else 0

address_end : (ipv4 : Bool) → (if ipv4 then 8 else 20) ≡ 4 + address_octets ipv4
address_end true = refl
address_end false = refl

module _ (octets : List ℕ) (framed : IsFramed octets) (are : AreOctets octets) where
  address_part : (ipv4 : Bool) → is_ipv4 octets ≡ ipv4 → octets_of (address_at octets) ≡ take (address_octets ipv4) (drop 4 octets)
  address_part true family = rw family refl
  address_part false family = rw family refl

  port_part : (ipv4 port : Bool) → is_ipv4 octets ≡ ipv4 → has_port octets ≡ port
      → (if ipv4 then 8 else 20) + port_octets port ≤ length octets
      → optional w16 (port_at octets) ≡ take (port_octets port) (drop (if ipv4 then 8 else 20) octets)
  port_part ipv4 false family none inside = rw none refl
  port_part true true family some inside = rw (some, family) (written_again_16 octets are 8 inside)
  port_part false true family some inside = rw (some, family) (written_again_16 octets are 20 inside)

  hmac_part : (ipv4 port hmac : Bool) → is_ipv4 octets ≡ ipv4 → has_port octets ≡ port → has_hmac octets ≡ hmac
      → length octets ≡ (if ipv4 then 8 else 20) + port_octets port + hmac_octets hmac
      → optional w64 (hmac_at octets) ≡ drop ((if ipv4 then 8 else 20) + port_octets port) octets
  hmac_part ipv4 port false family has none long = rw none (sym (drop_all _ octets (omega arith)))
  hmac_part ipv4 port true family has some long =
      let place = (if ipv4 then 8 else 20) + port_octets port in
      rw (some, family, has) (written_again_64 octets are place (omega arith) ∙ last_field octets place 8 long)

  parts : (ipv4 port hmac : Bool) → is_ipv4 octets ≡ ipv4 → has_port octets ≡ port → has_hmac octets ≡ hmac
      → length octets ≡ (if ipv4 then 8 else 20) + port_octets port + hmac_octets hmac
      → octets_of (address_at octets) ++ optional w16 (port_at octets) ++ optional w64 (hmac_at octets) ≡ drop 4 octets
  parts ipv4 port hmac family has keyed long =
      append_assoc (octets_of (address_at octets)) (optional w16 (port_at octets)) (optional w64 (hmac_at octets))
      ∙ then_rest (octets_of (address_at octets)) _ octets 4 (address_octets ipv4) (if ipv4 then 8 else 20) (address_end ipv4)
      (address_part ipv4 family)
      (then_rest (optional w16 (port_at octets)) _ octets (if ipv4 then 8 else 20) (port_octets port) _ refl
      (port_part ipv4 port family has (omega arith)) (hmac_part ipv4 port hmac family has keyed long))

  module _ (e : subtype octets ≡ 3) where
    add_addr_third : third_mask octets ≡ 0xF1
    unfolding third_mask
    add_addr_third = rw e refl

    add_addr_fourth : fourth_mask octets ≡ 0xFF
    unfolding fourth_mask
    add_addr_fourth = rw e refl

    by_parts : (ipv4 port hmac : Bool) → is_ipv4 octets ≡ ipv4 → has_port octets ≡ port → has_hmac octets ≡ hmac
        → 4 ≤ length octets → length octets ≡ (if ipv4 then 8 else 20) + port_octets port + hmac_octets hmac
        → cleared octets ≡ option_text (AddAddr (is_echo octets) (octet octets 3) (address_at octets) (port_at octets) (hmac_at octets))
    unfolding option_text
    by_parts ipv4 port hmac family has keyed four long =
        text_again octets framed _ (four_again octets framed four _ _ _
        (rw add_addr_third (flag_again octets framed are 3 e)) (rw add_addr_fourth (octet_again octets framed are))
        (parts ipv4 port hmac family has keyed long))

    by_length : (ipv4 port hmac : Bool) (n : ℕ) → is_among n (8 ∷ 10 ∷ 16 ∷ 18 ∷ []) ≡ ipv4
        → is_among n (10 ∷ 18 ∷ 22 ∷ 30 ∷ []) ≡ port → is_among n (16 ∷ 18 ∷ 28 ∷ 30 ∷ []) ≡ hmac → nat_le 4 n ≡ true
        → n ≡ (if ipv4 then 8 else 20) + port_octets port + hmac_octets hmac → length octets ≡ n
        → cleared octets ≡ option_text (AddAddr (is_echo octets) (octet octets 3) (address_at octets) (port_at octets) (hmac_at octets))
    by_length ipv4 port hmac n family has keyed four long is_n =
        by_parts ipv4 port hmac (rw is_n family) (rw is_n has) (rw is_n keyed) (rw is_n (leb-true 4 n four)) (rw is_n long)

    by_echo : (echo : Bool) → is_among (length octets) (add_addr_lengths echo) ≡ true
        → cleared octets ≡ option_text (AddAddr (is_echo octets) (octet octets 3) (address_at octets) (port_at octets) (hmac_at octets))
    by_echo true among =
        let n = length octets in
        first_or n 8 (10 ∷ 20 ∷ 22 ∷ []) among (by_length true false false 8 refl refl refl refl refl)
        (λ among. first_or n 10 (20 ∷ 22 ∷ []) among (by_length true true false 10 refl refl refl refl refl)
        (λ among. first_or n 20 (22 ∷ []) among (by_length false false false 20 refl refl refl refl refl)
        (λ among. first_or n 22 [] among (by_length false true false 22 refl refl refl refl refl) (no_more n))))
    by_echo false among =
        let n = length octets in
        first_or n 16 (18 ∷ 28 ∷ 30 ∷ []) among (by_length true false true 16 refl refl refl refl refl)
        (λ among. first_or n 18 (28 ∷ 30 ∷ []) among (by_length true true true 18 refl refl refl refl refl)
        (λ among. first_or n 28 (30 ∷ []) among (by_length false false true 28 refl refl refl refl refl)
        (λ among. first_or n 30 [] among (by_length false true true 30 refl refl refl refl refl) (no_more n))))

    pub text_again-add_addr : has_length_of_table octets ≡ true
        → cleared octets ≡ option_text (AddAddr (is_echo octets) (octet octets 3) (address_at octets) (port_at octets) (hmac_at octets))
    text_again-add_addr long = by_echo (is_echo octets) (sym (add_addr_length octets framed e) ∙ long)

  module _ (e : subtype octets ≡ 4) where
    remove_addr_third : third_mask octets ≡ 0xF0
    unfolding third_mask
    remove_addr_third = rw e refl

    remove_addr_fourth : fourth_mask octets ≡ 0xFF
    unfolding fourth_mask
    remove_addr_fourth = rw e refl

    pub text_again-remove_addr : has_length_of_table octets ≡ true → cleared octets ≡ option_text (RemoveAddr (ids_at octets))
    unfolding option_text
    text_again-remove_addr long =
        let four : 4 ≤ length octets = leb-true 4 (length octets) (sym (remove_addr_length octets framed e) ∙ long) in
        let ids : drop 3 octets ≡ octet octets 3 ∷ drop 4 octets = drop-cons octets 3 0 (omega arith) in
        text_again octets framed _ (ap (λ tail. 0x40 ∷ tail) ids ∙ four_again octets framed four _ _ _
        (rw remove_addr_third (subtype_again octets framed are 4 e)) (rw remove_addr_fourth (octet_again octets framed are)) refl)
