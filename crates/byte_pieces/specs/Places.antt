-- Bytes by position: what is kept from some position on, and what each call makes of it.
use Rattle.std.specs.Prelude.{ℕ, ◌+◌, ◌-◌, suc, zero, Option, Some, None, is_some, unwrap_or, List, [], ◌∷◌, ◌++◌, length, drop, replicate, map, count_by}

pub record PlacedBytes : Type 0 where
  -- the first position that counts
  pub from : ℕ
  -- the positions from there on, each with its byte or without one; the last one has a byte
  pub places : List (Option ℕ)
  -- the places with the bytes that are held too, where bytes are held until they are kept
  pub incoming : Option (List (Option ℕ))

-- nothing is kept, and nothing held
abbrev pub no_bytes : ℕ → PlacedBytes
no_bytes from = record { from = from; places = []; incoming = None }

-- the position after the last byte
abbrev pub top : PlacedBytes → ℕ
top v = v.from + length v.places

-- bytes by their places, from place 0 on
abbrev pub by_place : ℕ → List ℕ → List (Option ℕ)
by_place at [] = []
by_place at (byte ∷ bytes) = replicate at None ++ map Some (byte ∷ bytes)

-- a place that is empty takes its byte, and a filled one keeps its own
abbrev pub merged : List (Option ℕ) → List (Option ℕ) → List (Option ℕ)
merged [] others = others
merged (place ∷ places) [] = place ∷ places
merged (Some byte ∷ places) (other ∷ others) = Some byte ∷ merged places others
merged (None ∷ places) (other ∷ others) = other ∷ merged places others

-- the bytes before the first place without one
abbrev pub filled : List (Option ℕ) → List ℕ
filled [] = []
filled (None ∷ places) = []
filled (Some byte ∷ places) = byte ∷ filled places

-- how many places before the first byte are empty; none where there is no byte
abbrev pub gap_len : List (Option ℕ) → ℕ
gap_len [] = 0
gap_len (None ∷ places) = suc (gap_len places)
gap_len (Some byte ∷ places) = 0

-- an empty place before the others; with no byte after it, it is none
abbrev pub gap_before : List (Option ℕ) → List (Option ℕ)
gap_before [] = []
gap_before (place ∷ places) = None ∷ place ∷ places

-- the first places, up to the last one that has a byte
abbrev pub cut : ℕ → List (Option ℕ) → List (Option ℕ)
cut zero places = []
cut (suc n) [] = []
cut (suc n) (Some byte ∷ places) = Some byte ∷ cut n places
cut (suc n) (None ∷ places) = gap_before (cut n places)

-- how many bytes are kept
abbrev pub kept_count : List (Option ℕ) → ℕ
kept_count places = count_by is_some places

-- the places with the bytes that come at a position: those that stand where none is
abbrev pub places_with : ℕ → List ℕ → PlacedBytes → List (Option ℕ)
places_with at bytes v = merged v.places (drop v.from (by_place at bytes))

-- bytes that come at a position are kept. This and any other change of what is kept lets go of the bytes that are held.
abbrev pub after_put : ℕ → List ℕ → PlacedBytes → PlacedBytes
after_put at bytes v = record v { places = places_with at bytes v; incoming = None }

-- bytes that come at a position are held, to be kept later
abbrev pub after_hold : ℕ → List ℕ → PlacedBytes → PlacedBytes
after_hold at bytes v = record v { incoming = Some (places_with at bytes v) }

-- what is held is kept
abbrev pub after_keep_held : PlacedBytes → PlacedBytes
after_keep_held v = record v { places = unwrap_or v.incoming v.places; incoming = None }

-- nothing is held any more
abbrev pub without_held : PlacedBytes → PlacedBytes
without_held v = record v { incoming = None }

-- what lies below a position counts no longer
abbrev pub after_drop_front : ℕ → PlacedBytes → PlacedBytes
after_drop_front to v = record { from = to; places = drop (to - v.from) v.places; incoming = None }

-- what lies at or past a position is taken away
abbrev pub after_cut_back : ℕ → PlacedBytes → PlacedBytes
after_cut_back to v = record v { places = cut (to - v.from) v.places; incoming = None }
