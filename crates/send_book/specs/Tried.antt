-- A set of paths, as a truth value for each path from path 0 on.
use Rattle.std.specs.Prelude.{ℕ, zero, suc, Bool, true, false, List, [], ◌∷◌, replicate, slice_index_or, if◌then◌else◌}

-- none of the paths 0 to 15
abbrev pub no_paths : List Bool
no_paths = replicate 16 false

abbrev pub contains : ℕ → List Bool → Bool
contains path paths = slice_index_or paths path false

-- none of the paths is one of these
abbrev pub has_none : List Bool → Bool
has_none [] = true
has_none (one ∷ paths) = if one then false else has_none paths

abbrev pub insert : ℕ → List Bool → List Bool
insert zero [] = true ∷ []
insert zero (first ∷ paths) = true ∷ paths
insert (suc path) [] = false ∷ insert path []
insert (suc path) (first ∷ paths) = first ∷ insert path paths
