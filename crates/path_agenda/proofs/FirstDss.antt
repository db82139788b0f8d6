-- The first DSS among the things that a copy says.
use Rattle.std.proofs.Common.{◌≡◌, refl, false, List, ◌∷◌}
use Rattle.path_agenda.specs.declared.heard.Heard.{Heard}
use Rattle.path_agenda.specs.Items.{is_dss, place_in_first}

pub dss_later : (item : Heard) (items : List Heard) → is_dss item ≡ false → place_in_first (item ∷ items) ≡ place_in_first items
dss_later Heard.Dss items is = cc
dss_later _ items is = refl
