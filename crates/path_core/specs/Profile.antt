-- What never changes at a path.
use Rattle.std.specs.Prelude.{ℕ, Bool}
use Rattle.path_segments.specs.declared.spelling.Spelling.{Spelling}

-- what never changes
pub record Profile : Type 0 where
  -- octets of the maximum segment size
  pub mss : ℕ
  -- octets that each side buffers
  pub buffer : ℕ
  -- the script's word: the path is a backup
  pub backup : Bool
  -- how its segments are said
  pub spelling : Spelling
