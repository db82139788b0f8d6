-- What a side learned of a subflow's mappings: the places of its positions, by the mappings and by an infinite one (RFC
-- 8684, sections 3.3.1 and 3.7), and the mappings that may be asked for, which are those that were not let go.
use Rattle.std.specs.Prelude.{ℕ, ◌≡◌, ◌≢◌, ◌+◌, ◌-◌, ◌^◌, ◌<◌, ◌≤◌, max, min, nat_lt, Bool, if◌then◌else◌, Option, Some, None, IfSome, List, [], ◌∷◌, ◌++◌, filter, find}
use Rattle.std.specs.Option.{option_or}
use Rattle.std.specs.Coded.{Coded, code_by, coded×, coded_ℕ, coded_list, coded_option}
use Rattle.std.specs.FinMap as map
use Rattle.dss_mapping.specs.declared.kept.KeptMapping.{KeptMapping}
use Rattle.dss_mapping.specs.declared.learn.Learn.{Learn}
use Rattle.dss_mapping.specs.declared.learn.Learn.TheVariants.{New, Same, Clash}
use Rattle.dss_mapping.specs.declared.run.Run.{Run}
use Rattle.dss_mapping.specs.contracts.run.Run.{the_row as run_row}
use Rattle.dss_mapping.specs.contracts.kept.KeptMapping.{the_row as kept_row}
use Rattle.std.proofs.Common.{refl}
use Rattle.dss_mapping.specs.Runs.{covers, place_in, infinite_run}
use Rattle.dss_mapping.specs.Places.{Places, with_run}

pub record Mappings : Type 0 where
  -- the places by the mappings that were learned
  pub places : Places
  -- the positions of the infinite mapping
  pub tail : Option Run
  -- the mappings that may be asked for, in the order in which they were learned
  pub live : List KeptMapping
  -- below this position no mapping is told
  pub forgotten : ℕ
  -- the mappings that were told and are still to be treated, in order
  pub held : List KeptMapping

-- the mappings, and for how many more there is room
pub record MappingStore : Type 0 where
  pub mappings : Mappings
  pub ready : ℕ

-- how mappings are stored
abbrev pub mappings_code : Coded Mappings
mappings_code =
    code_by (Places × (Option Run × (List KeptMapping × (ℕ × List KeptMapping))))
    (coded× (map.code coded_ℕ coded_ℕ) (coded× (coded_option run_row.coded) (coded× (coded_list kept_row.coded) (coded× coded_ℕ (coded_list kept_row.coded)))))
    (λ v. (v.places, (v.tail, (v.live, (v.forgotten, v.held)))))
    (λ p. record { places = p.0; tail = p.1.0; live = p.1.1.0; forgotten = p.1.1.1.0; held = p.1.1.1.1 }) (λ _. refl)

-- how mappings are stored with the room beside them
abbrev pub store_code : Coded MappingStore
store_code =
    code_by (Mappings × ℕ) (coded× mappings_code coded_ℕ) (λ v. (v.mappings, v.ready)) (λ p. record { mappings = p.0; ready = p.1 }) (λ _. refl)

abbrev pub no_mappings : Mappings
no_mappings = record { places = map.empty; tail = None; live = []; forgotten = 0; held = [] }

-- how many octets a mapping of this length has: its last number may be the DATA_FIN's (section 3.3.3)
abbrev pub octets_in : ℕ → Bool → ℕ
octets_in len fin = if fin then len - 1 else len

-- how many octets a mapping has, DATA_FIN left out
abbrev pub octets_of : KeptMapping → ℕ
octets_of kept = octets_in kept.mapping.length kept.fin

-- the positions of a mapping, those from 2 ^ 64 - 1 on left out
abbrev pub run_of : KeptMapping → Run
run_of kept = record { pos = kept.pos; place = kept.place; to = min (kept.pos + octets_of kept) (2 ^ 64 - 1) }

-- the place of a position by the infinite mapping
abbrev pub tail_at : Option Run → ℕ → Option ℕ
tail_at None p = None
tail_at (Some run) p = if covers p run then Some (place_in p run) else None

-- the place of a position, where it has one
abbrev pub place_at : Mappings → ℕ → Option ℕ
place_at v p = option_or (map.get v.places p) (tail_at v.tail p)

-- no position of the told run below `to` has another place
pub record Agree (told : Run) (to : ℕ) (v : Mappings) : Type 0 where
  pub each : (p : ℕ) → told.pos ≤ p → p < to → IfSome (place_at v p) (λ place. place ≡ place_in p told)

-- a position of the told run has no place
pub record HasNew (told : Run) (v : Mappings) : Type 0 where
  pub at : ℕ
  pub first : told.pos ≤ at
  pub last : at < told.to
  pub none : place_at v at ≡ None

-- each position of the told run has its place
pub record HasAll (told : Run) (v : Mappings) : Type 0 where
  pub each : (p : ℕ) → told.pos ≤ p → p < told.to → place_at v p ≡ Some (place_in p told)

-- pos is the first position of the told run that has another place, which is `kept`
pub record IsClash (told : Run) (v : Mappings) (pos kept here : ℕ) : Type 0 where
  pub first : told.pos ≤ pos
  pub last : pos < told.to
  pub before : Agree told pos v
  pub kept_is : place_at v pos ≡ Some kept
  pub here_is : here ≡ place_in pos told
  pub differ : kept ≢ here

-- what is answered: a clash where there is one, and else whether each position had its place already
abbrev pub IsAnswer : Run → Mappings → Learn → Type 0
IsAnswer told v (Clash pos kept here) = IsClash told v pos kept here
IsAnswer told v Same = HasAll told v
IsAnswer told v New = Agree told told.to v × HasNew told v

-- what stands after the answer: a new mapping gives its positions their places, and is the last one
abbrev pub after_learn : KeptMapping → Learn → Mappings → Mappings
after_learn kept New v = record v { places = with_run (run_of kept) v.places; live = v.live ++ kept ∷ [] }
after_learn kept Same v = v
after_learn kept (Clash pos place here) v = v

-- a new infinite one is the tail
abbrev pub after_infinite : ℕ → ℕ → Learn → Mappings → Mappings
after_infinite pos place New v = record v { tail = Some (infinite_run pos place) }
after_infinite pos place Same v = v
after_infinite pos place (Clash at kept here) v = v

-- the mapping learned first of those that cover the position, where it was not let go
abbrev pub mapping_at : Mappings → ℕ → Option KeptMapping
mapping_at v p = if nat_lt p v.forgotten then None else find (λ kept. covers p (run_of kept)) v.live

-- mappings that lie below pos are let go
abbrev pub after_forget : ℕ → Mappings → Mappings
after_forget pos v = record v { live = filter (λ kept. nat_lt pos (run_of kept).to) v.live; forgotten = max v.forgotten pos }
