-- The mappings that may be asked for.
use Rattle.std.specs.Prelude.{ℕ, nat_lt, Bool, List}
use Rattle.dss_mapping.specs.declared.kept.KeptMapping.{KeptMapping}
use Rattle.dss_mapping.specs.Mappings.{run_of}

-- in the order in which they were learned, and for how many more there is room
pub record LiveMappings : Type 0 where
  pub kept : List KeptMapping
  pub ready : ℕ

-- the position behind a mapping's last one
abbrev pub end_of : KeptMapping → ℕ
end_of kept = (run_of kept).to

-- a mapping has a position at or past this one
abbrev pub ends_after : ℕ → KeptMapping → Bool
ends_after pos kept = nat_lt pos (run_of kept).to
