-- The mappings that a copy says lie within the places, and the one at the edge begins there or before.
use Rattle.path_core.proofs.Words.{◌≡◌, refl, ℕ, ◌+◌, ◌≤◌, ◌&&◌, nat_le, nat_lt, Bool, true, false, if◌then◌else◌, Option, Some, None, List, [], ◌∷◌, ◌^◌, All}
use Rattle.path_core.proofs.Words.{cond, find, flat_map, leb-true, All-nil, All-cons, All-append, Side, A, B, CapableKeys, NoKey, Sender, Both, WithData}
use Rattle.path_core.proofs.Words.{KeptMapping, Capable, Dss, PathMapping, Bytes, HeardOption, held_in, checksum_heard, held_if, key_held, map_held, kept_of}
use Rattle.path_core.proofs.Words.{is_joined, Profile}
use Rattle.std.proofs.Common.{IfSome}
use Rattle.dss_mapping.specs.Learning.{IsWithin}
use Rattle.dss_mapping.specs.Mappings.{Mappings, mapping_at, octets_in, run_of}
use Rattle.dss_mapping.specs.Runs.{covers}

-- ---- the mapping at the edge

begins : (p : ℕ) (kept : KeptMapping) → covers p (run_of kept) ≡ true → kept.pos ≤ p
begins p kept is = (elim (nat_le kept.pos p) as (λ b. nat_le kept.pos p ≡ b → (b && nat_lt p (run_of kept).to) ≡ true → kept.pos ≤ p)
    [ true ↦ λ le is. leb-true _ _ le | false ↦ λ le is. cc ]) refl is

found_begins : (p : ℕ) (live : List KeptMapping) → IfSome (find (λ kept. covers p (run_of kept)) live) (λ kept. kept.pos ≤ p)
found_begins p [] = tt
found_begins p (kept ∷ live) = by (covers p (run_of kept)) refl (found_begins p live)
  where
    by : (b : Bool) → covers p (run_of kept) ≡ b → IfSome (find (λ kept. covers p (run_of kept)) live) (λ kept. kept.pos ≤ p)
        → IfSome (cond b (Some kept) (find (λ kept. covers p (run_of kept)) live)) (λ kept. kept.pos ≤ p)
    by = elim [ true ↦ λ is rest. begins p kept is | false ↦ λ is rest. rest ]

pub mapping_begins : (v : Mappings) (p : ℕ) → IfSome (mapping_at v p) (λ kept. kept.pos ≤ p)
mapping_begins v p =
    (elim (nat_lt p v.forgotten) as (λ b. IfSome (find (λ kept. covers p (run_of kept)) v.live) (λ kept. kept.pos ≤ p) → IfSome (if b then None else find (λ kept. covers p (run_of kept)) v.live) (λ kept. kept.pos ≤ p)) [
      | true ↦ λ rest. tt
      | false ↦ λ rest. rest
    ]) (found_begins p v.live)

-- ---- the mappings that a copy says

within_if : (c : Profile) (s : Side) (place position len : ℕ) (fin : Bool) (checksum : Option ℕ) → All IsWithin (held_if c s place position len fin checksum)
within_if c s place position len fin checksum = by (nat_lt 0 position) (nat_le (place + octets_in len fin) (2 ^ 62)) refl
  where
    by : (a b : Bool) → nat_le (place + octets_in len fin) (2 ^ 62) ≡ b
        → All IsWithin (if a && b then kept_of c s place position len fin (checksum_heard checksum) ∷ [] else [])
    by true true is = All-cons IsWithin _ [] (leb-true _ _ is) (All-nil IsWithin)
    by true false is = All-nil IsWithin
    by false b is = All-nil IsWithin

within_keys : (c : Profile) (s : Side) (keys : CapableKeys) → All IsWithin (key_held c s keys)
within_keys c A keys = All-nil IsWithin
within_keys c B NoKey = All-nil IsWithin
within_keys c B (Sender sender) = All-nil IsWithin
within_keys c B (Both sender receiver) = All-nil IsWithin
within_keys c B (WithData sender receiver len checksum) =
    (elim (nat_lt 0 len) as (λ b. All IsWithin (held_if c B 0 1 len false checksum) → All IsWithin (if b then held_if c B 0 1 len false checksum else []))
    [ true ↦ λ within. within | false ↦ λ within. All-nil IsWithin ]) (within_if c B 0 1 len false checksum)

within_map : (c : Profile) (s : Side) (mapping : Option (PathMapping (Option ℕ))) → All IsWithin (map_held c s mapping)
within_map c s (Some (Bytes None position len fin checksum)) = All-nil IsWithin
within_map c s (Some (Bytes (Some place) None len fin checksum)) = All-nil IsWithin
within_map c s (Some (Bytes (Some place) (Some position) len fin checksum)) = within_if c s place position len fin checksum
within_map c s _ = All-nil IsWithin

within_in : (c : Profile) (s : Side) (option : HeardOption) → All IsWithin (held_in c s option)
within_in c s (Capable flag_a flag_c keys) = elim (is_joined c) as (λ joined. All IsWithin (if joined then [] else key_held c s keys))
    [ true ↦ All-nil IsWithin | false ↦ within_keys c s keys ]
within_in c s (Dss next mapping) = within_map c s mapping
within_in c s _ = All-nil IsWithin

pub all_within : (c : Profile) (s : Side) (options : List HeardOption) → All IsWithin (flat_map (held_in c s) options)
all_within c s [] = All-nil IsWithin
all_within c s (option ∷ options) = All-append IsWithin (held_in c s option) (flat_map (held_in c s) options) (within_in c s option) (all_within c s options)
