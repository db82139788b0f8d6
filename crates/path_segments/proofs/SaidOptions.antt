-- The octets of options, put one after the other, are those of all of them.
use Rattle.std.proofs.Common.{◌≡◌, refl, ℕ, ◌+◌, ◌<◌, ◌≤◌, List, ◌++◌, length, get_or, take, subst, ap, length-append, arith}
use Rattle.std.specs.List.{flat_map}
use Rattle.std.specs.Prelude.{All}
use Rattle.std.proofs.lemmas.List.{take_all}
use Rattle.std.proofs.lemmas.List.Folds.{length-flat_map-take}
use Rattle.std.proofs.lemmas.List.Elements.{All-get_or}
use Rattle.sides.specs.declared.side.Side.{Side}
use Rattle.mptcp_options.specs.Text.{option_text}
use Rattle.path_segments.specs.declared.spelling.Spelling.{Spelling}
use Rattle.path_segments.specs.Options.{PlainOption, said_option}
use Rattle.path_segments.specs.Spelled.{options_text, CanSayOption}

-- the octets of an option
abbrev pub said_text : Spelling → Side → PlainOption → List ℕ
said_text spelling from o = option_text (said_option spelling from o)

module _ (spelling : Spelling) (from : Side) (options : List PlainOption) where
  pub options_text-each : options_text spelling from options ≡ flat_map (said_text spelling from) options
  options_text-each = refl

  -- each of them can be said
  pub can_say_at : All (CanSayOption spelling from) options → (i : ℕ) (d : PlainOption) → i < length options
      → CanSayOption spelling from (get_or options i d)
  can_say_at all i d inside = All-get_or (CanSayOption spelling from) options i d inside all

  -- and has room behind those before it
  pub room_at : (before : List ℕ) → length (before ++ options_text spelling from options) ≤ 40
      → (i : ℕ) (d : PlainOption) → i < length options → (so_far : List ℕ)
      → so_far ≡ before ++ flat_map (said_text spelling from) (take i options)
      → length so_far + length (said_text spelling from (get_or options i d)) ≤ 40
  room_at before room i d inside so_far is =
      omega (
        arith,
        room,
        ap length is,
        ap length options_text-each,
        length-append before (options_text spelling from options),
        length-append before (flat_map (said_text spelling from) (take i options)),
        length-flat_map-take (said_text spelling from) options i d inside,
      )

  -- all that fill their room, and one more
  pub room_after : (left room i : ℕ) (d : PlainOption) → i < length options
      → left + length (flat_map (said_text spelling from) (take i options)) ≡ room
      → left < length (said_text spelling from (get_or options i d))
      → room < length (options_text spelling from options)
  room_after left room i d inside so_far none =
      omega (
        arith,
        so_far,
        none,
        ap length options_text-each,
        length-flat_map-take (said_text spelling from) options i d inside,
      )

  -- all of them are those taken
  pub room_of_all : (left room i : ℕ) → length options ≤ i
      → left + length (flat_map (said_text spelling from) (take i options)) ≡ room
      → length (options_text spelling from options) ≤ room
  room_of_all left room i end so_far =
      omega (
        arith,
        so_far,
        ap length options_text-each,
        ap (λ (os : List PlainOption). length (flat_map (said_text spelling from) os)) (take_all i options end),
      )

  -- each of those taken is each of them
  pub each_of_all : (i : ℕ) → length options ≤ i → All (CanSayOption spelling from) (take i options)
      → All (CanSayOption spelling from) options
  each_of_all i end all = subst (All (CanSayOption spelling from)) (take_all i options end) all
