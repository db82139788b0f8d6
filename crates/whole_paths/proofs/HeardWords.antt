-- An end hears that an address is taken back, or a priority, only where an option of the copy says it.
use Rattle.std.proofs.Common.{◌≡◌, refl, ◌∙◌, ℕ, ◌+◌, ◌&&◌, nat_lt, nat_le, Bool, true, false, if◌then◌else◌, Option, Some, None, List, ◌∷◌, ◌++◌, map, []}
use Rattle.std.specs.Prelude.{option_map, ◌^◌}
use Rattle.std.specs.List.{flat_map, list_any}
use Rattle.std.proofs.lemmas.Bool.{or_from, or_parts}
use Rattle.sides.specs.declared.side.Side.{Side}
use Rattle.sides.specs.declared.side.Side.TheVariants.{A, B}
use Rattle.key_material.specs.declared.address.Address.{Address}
use Rattle.path_segments.specs.Laws.{meant_mapping, meant_option}
use Rattle.path_segments.specs.Options.{PlainOption}
use Rattle.path_segments.specs.declared.segment.PathOption.TheVariants as options
use Rattle.path_segments.specs.declared.segment.PathMapping.{PathMapping}
use Rattle.path_segments.specs.declared.segment.PathMapping.TheVariants as mappings
use Rattle.mptcp_options.specs.declared.capable.CapableKeys.{CapableKeys}
use Rattle.mptcp_options.specs.declared.capable.CapableKeys.TheVariants as keys
use Rattle.mptcp_options.specs.declared.join.JoinForm.{JoinForm}
use Rattle.mptcp_options.specs.declared.join.JoinForm.TheVariants as forms
use Rattle.path_agenda.specs.declared.heard.Heard.{Heard}
use Rattle.path_agenda.specs.declared.heard.Heard.TheVariants as says
use Rattle.path_core.specs.Addresses.{address_items, item_removed}
use Rattle.path_core.specs.DssIn.{ack_items, map_items, mapping_items}
use Rattle.path_core.specs.MpCapable.{key_items}
use Rattle.path_core.specs.MpJoin.{join_items}
use Rattle.path_core.specs.OptionsIn.{items_in}
use Rattle.whole_paths.specs.Priorities.{BackupsAreSaid}
use Rattle.whole_paths.proofs.NoticeWords.{AreUnheard, Word, flag_of, flags, is_heard, no_backup, ranks, removes, is_said, same_options}

module _ (word : Word) where
  abbrev SayNone : List Heard → Type 0
  SayNone items = AreUnheard word items

  both_say : (xs ys : List Heard) → SayNone xs → SayNone ys → SayNone (xs ++ ys)
  both_say [] ys x y = y
  both_say (item ∷ xs) ys x y =
      let parts = or_parts (is_heard word item) (list_any (is_heard word) xs) x in or_from (is_heard word item) (list_any (is_heard word) (xs ++ ys)) parts.0 (both_say xs ys parts.1 y)

  either_say : (b : Bool) (xs ys : List Heard) → SayNone xs → SayNone ys → SayNone (if b then xs else ys)
  either_say true xs ys x y = x
  either_say false xs ys x y = y

  removed_say : (ids : List ℕ) → list_any (removes word) ids ≡ false → SayNone (map item_removed ids)
  removed_say [] h = refl
  removed_say (id ∷ ids) h = let parts = or_parts (removes word id) (list_any (removes word) ids) h in or_from (removes word id) (list_any (is_heard word) (map item_removed ids)) parts.0 (removed_say ids parts.1)

  address_say : (echo : Bool) (id : ℕ) (address : Address) (port hmac : Option ℕ) → SayNone (address_items echo id address port hmac)
  address_say true id address port hmac = refl
  address_say false id address port (Some hmac) = refl
  address_say false id address port None = refl

  mapping_say : (place position count : ℕ) (fin : Bool) → SayNone (mapping_items place position count fin)
  mapping_say place position count fin = either_say (nat_lt 0 position && nat_le (place + count) (2 ^ 62)) (says.Mapping fin ∷ []) [] refl refl

  first_say : (len : ℕ) → SayNone (if nat_lt 0 len then mapping_items 0 1 len false else [])
  first_say len = either_say (nat_lt 0 len) (mapping_items 0 1 len false) [] (mapping_say 0 1 len false) refl

  key_say : (s : Side) (form : CapableKeys) → SayNone (key_items s form)
  key_say A (keys.Sender sender) = refl
  key_say B (keys.Both sender receiver) = refl
  key_say B (keys.WithData sender receiver len checksum) = first_say len
  key_say A _ = refl
  key_say B _ = refl

  join_say : (s : Side) (form : JoinForm) → flags word && flag_of form ≡ false → SayNone (join_items s form)
  join_say A (forms.Answer backup id hmac nonce) none = or_from (flags word && backup) false none refl
  join_say B (forms.Syn backup id token nonce) none = or_from (flags word && backup) false none refl
  join_say B (forms.Third hmac) none = or_from (flags word && false) false none refl
  join_say A _ none = refl
  join_say B _ none = refl

  ack_say : (window : ℕ) (next : Option ℕ) → SayNone (ack_items (option_map (λ n. Some n) next) window)
  ack_say window None = refl
  ack_say window (Some next) = either_say (nat_lt next (2 ^ 62)) (says.DataAck next window ∷ []) [] refl refl

  map_say : (mapping : Option (PathMapping ℕ)) → SayNone (map_items (option_map meant_mapping mapping))
  map_say None = refl
  map_say (Some (mappings.Bytes place position len fin checksum)) = mapping_say place position _ fin
  map_say (Some (mappings.End place checksum)) = either_say (nat_le place (2 ^ 62)) (says.DataFin place ∷ []) [] refl refl
  map_say (Some (mappings.Infinite place position)) = either_say (nat_lt place (2 ^ 62)) (says.InfiniteMapping place (Some position) ∷ []) [] refl refl

  option_says : (joined : Bool) (s : Side) (window : ℕ) (x : PlainOption) → is_said word x ≡ false → SayNone (items_in joined s window (meant_option x))
  option_says joined s window (options.Remove ids) none = removed_say ids none
  option_says joined s window (options.Capable flag_a flag_c form) none = either_say joined [] (key_items s form) refl (key_say s form)
  option_says joined s window (options.Dss next mapping) none = both_say (ack_items (option_map (λ n. Some n) next) window) (map_items (option_map meant_mapping mapping)) (ack_say window next) (map_say mapping)
  option_says joined s window (options.Join form) none = join_say s form none
  option_says joined s window (options.AddAddr echo id address port hmac) none = address_say echo id address port hmac
  option_says joined s window (options.Prio backup) none = or_from (ranks word) false none refl
  option_says joined s window (options.Fail place) none = refl
  option_says joined s window (options.FastClose key) none = refl
  option_says joined s window (options.Reset transient reason) none = refl

  pub options_say : (joined : Bool) (s : Side) (window : ℕ) (xs : List PlainOption) → list_any (is_said word) xs ≡ false → SayNone (flat_map (items_in joined s window) (map meant_option xs))
  options_say joined s window [] none = refl
  options_say joined s window (x ∷ xs) none =
      let parts = or_parts (is_said word x) (list_any (is_said word) xs) none in
      both_say (items_in joined s window (meant_option x)) (flat_map (items_in joined s window) (map meant_option xs)) (option_says joined s window x parts.0) (options_say joined s window xs parts.1)

pub backups_are_said : BackupsAreSaid
backups_are_said joined s window xs none = no_backup (flat_map (items_in joined s window) (map meant_option xs)) (options_say Word.priority joined s window xs (same_options xs ∙ none))
