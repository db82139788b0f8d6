-- The paths of a side, by their numbers 0 to 15.
use Rattle.std.specs.Prelude.{ℕ, ◌==◌, Bool, true, false, not, ◌&&◌, if◌then◌else◌, List, [], ◌∷◌, Option, Some, None, position, slice_set, slice_index_or}
use Rattle.std.specs.List.{list_any, filter_map}
use Rattle.linked_increase.specs.declared.rows.Row.{Row}
use Rattle.address_manager.specs.IdSet.{is_member}
use Rattle.control_book.specs.declared.registry.Phase.{Phase}
use Rattle.control_book.specs.declared.registry.Phase.TheVariants.{Idle, Opening, Living}
use Rattle.control_book.specs.declared.registry.PathState.{PathState}

unfoldable pub every_path : List ℕ
every_path = 0 ∷ 1 ∷ 2 ∷ 3 ∷ 4 ∷ 5 ∷ 6 ∷ 7 ∷ 8 ∷ 9 ∷ 10 ∷ 11 ∷ 12 ∷ 13 ∷ 14 ∷ 15 ∷ []

-- a path of which nothing happened
abbrev pub idle : PathState
idle = record { phase = Idle; removed = false; row = None }

-- when a connection opens, path 0 opens
unfoldable pub opening_paths : List PathState
opening_paths =
    record { phase = Opening; removed = false; row = None } ∷ idle ∷ idle ∷ idle ∷ idle ∷ idle ∷ idle ∷ idle
    ∷ idle ∷ idle ∷ idle ∷ idle ∷ idle ∷ idle ∷ idle ∷ idle ∷ []

abbrev pub is_living : Phase → Bool
is_living Living = true
is_living Opening = false
is_living Idle = false

-- the path lives or opens
abbrev pub is_standing : Phase → Bool
is_standing Living = true
is_standing Opening = true
is_standing Idle = false

-- what is kept of a path, which is idle past the last one
abbrev pub state_of : List PathState → ℕ → PathState
state_of paths path = slice_index_or paths path idle

abbrev pub lives : List PathState → ℕ → Bool
lives paths path = is_living (state_of paths path).phase

-- the path lives or opens
abbrev pub stands : List PathState → ℕ → Bool
stands paths path = is_standing (state_of paths path).phase

-- a path other than this one lives or opens
unfoldable pub stands_beside : List PathState → ℕ → ℕ → Bool
stands_beside paths path other = not (other == path) && stands paths other

-- no other path lives or opens
abbrev pub sole : List PathState → ℕ → Bool
sole paths path = not (list_any (stands_beside paths path) every_path)

abbrev pub lowest_living : List PathState → Option ℕ
lowest_living paths = position (λ state. is_living state.phase) paths

-- a path other than this one lives, and is no backup
unfoldable pub serves_beside : List PathState → List Bool → ℕ → ℕ → Bool
serves_beside paths backups path other = not (other == path) && lives paths other && not (is_member backups other)

-- the path is a backup, and another living one is not
abbrev pub standby : List PathState → List Bool → ℕ → Bool
standby paths backups path =
    is_member backups path && list_any (serves_beside paths backups path) every_path

-- the row of a path that is told beside a row that just came: that row itself, and the one kept of each other living path
unfoldable pub told_row : List PathState → Row → ℕ → Option Row
told_row paths came path = if path == came.path then Some came else (if lives paths path then (state_of paths path).row else None)

-- the rows that are told beside one that just came, it among them, in the order of their paths
abbrev pub rows_with : List PathState → Row → List Row
rows_with paths came = filter_map (told_row paths came) every_path

-- the path in another phase
abbrev pub with_phase : ℕ → Phase → List PathState → List PathState
with_phase path phase paths = slice_set paths path (record (state_of paths path) { phase = phase })

-- with this row
abbrev pub with_row : ℕ → Row → List PathState → List PathState
with_row path row paths = slice_set paths path (record (state_of paths path) { row = Some row })

-- with its address removed
abbrev pub with_removed : ℕ → List PathState → List PathState
with_removed path paths = slice_set paths path (record (state_of paths path) { removed = true })
