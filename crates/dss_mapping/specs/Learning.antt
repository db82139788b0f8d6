-- What becomes of a mapping that is told, position by position, and of the mappings that are held until they are treated.
use Rattle.std.specs.Prelude.{ℕ, zero, suc, ◌+◌, ◌-◌, ◌^◌, ◌≤◌, Bool, true, false, ◌&&◌, ◌==◌, if◌then◌else◌, is_some, Option, Some, None, List, [], ◌∷◌}
use Rattle.dss_mapping.specs.declared.kept.KeptMapping.{KeptMapping}
use Rattle.dss_mapping.specs.declared.learn.Learn.{Learn}
use Rattle.dss_mapping.specs.declared.learn.Learn.TheVariants.{New, Same, Clash}
use Rattle.dss_mapping.specs.declared.run.Run.{Run}
use Rattle.dss_mapping.specs.Runs.{place_in}
use Rattle.dss_mapping.specs.Mappings.{Mappings, octets_of, run_of, place_at, after_learn}

-- ---- what is answered

-- a clash at this position, where it has another place than the told one, or else what the others say
abbrev pub clash_or : Option ℕ → ℕ → Run → Option Learn → Option Learn
clash_or None at told others = others
clash_or (Some place) at told others = if place == place_in at told then others else Some (Clash at place (place_in at told))

-- the first of so many positions from this one on that has another place than the told one, and both places
abbrev pub clash_from : ℕ → ℕ → Run → Mappings → Option Learn
clash_from zero at told v = None
clash_from (suc count) at told v = clash_or (place_at v at) at told (clash_from count (suc at) told v)

-- the first position of the told run that has another place than the told one, and both places
abbrev pub clash_of : Run → Mappings → Option Learn
clash_of told v = clash_from (told.to - told.pos) told.pos told v

-- each of so many positions from this one on has a place
abbrev pub all_covered : ℕ → ℕ → Mappings → Bool
all_covered zero at v = true
all_covered (suc count) at v = is_some (place_at v at) && all_covered count (suc at) v

-- each position of the told run has a place
abbrev pub is_known : Run → Mappings → Bool
is_known told v = all_covered (told.to - told.pos) told.pos v

-- the clash, or else whether each position had a place before
abbrev pub answer_by : Option Learn → Run → Mappings → Learn
answer_by (Some clash) told v = clash
answer_by None told v = if is_known told v then Same else New

-- a clash, or else whether all its positions had their places before
abbrev pub learn_of : KeptMapping → Mappings → Learn
learn_of kept v = answer_by (clash_of (run_of kept) v) (run_of kept) v

-- ---- what it changes

-- the mappings after they were told this one
abbrev pub learned : KeptMapping → Mappings → Mappings
learned kept v = after_learn kept (learn_of kept v) v

-- the mapping gives a position another place
abbrev pub clashes : KeptMapping → Mappings → Bool
clashes kept v = is_some (clash_of (run_of kept) v)

-- ---- mappings that are held until they are treated, one after the other

-- the mapping's places are at most 2^62
abbrev pub IsWithin : KeptMapping → Type 0
IsWithin kept = kept.place + octets_of kept ≤ 2 ^ 62

abbrev pub first_of : List KeptMapping → Option KeptMapping
first_of [] = None
first_of (kept ∷ others) = Some kept

abbrev pub others_of : List KeptMapping → List KeptMapping
others_of [] = []
others_of (kept ∷ others) = others

-- the told mappings are held, in place of those that were
abbrev pub after_hold : List KeptMapping → Mappings → Mappings
after_hold told v = record v { held = told }

abbrev pub first_held : Mappings → Option KeptMapping
first_held v = first_of v.held

-- there is a mapping, and it gives a position another place
abbrev pub clashes_if : Option KeptMapping → Mappings → Bool
clashes_if None v = false
clashes_if (Some kept) v = clashes kept v

-- the first one gives a position another place
abbrev pub held_clashes : Mappings → Bool
held_clashes v = clashes_if (first_held v) v

-- the first one is held no longer
abbrev pub after_skip_held : Mappings → Mappings
after_skip_held v = record v { held = others_of v.held }

-- the mapping is learned, where there is one
abbrev pub learned_if : Option KeptMapping → Mappings → Mappings
learned_if None v = v
learned_if (Some kept) v = learned kept v

-- the first one is learned, and held no longer
abbrev pub after_learn_held : Mappings → Mappings
after_learn_held v = after_skip_held (learned_if (first_held v) v)
