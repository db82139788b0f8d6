-- A path that told no side that it is a backup stands by at no moment; so both files are delivered.
use Rattle.std.proofs.Common.{ℕ, ◌∷◌, ◌++◌}
use Rattle.path_core.specs.Octets.{octets}
use Rattle.path_core.specs.Values.{values}
use Rattle.world_laws.specs.Openings.{start_of}
use Rattle.world_laws.specs.Worlds.{Turn}
use Rattle.whole_paths.specs.ManyPaths.{DeliversAt}
use Rattle.whole_paths.specs.RegularPaths.{RegularDeliversAt, RegularPathsDeliver}
use Rattle.whole_paths.proofs.Backups.{who_is_no_backup_serves, who_is_no_backup_serves_in_octets}
use Rattle.whole_paths.proofs.ManyPaths.{first_paths_deliver, first_paths_deliver_in_octets}

module _ (number : ℕ) where
  pub regular_delivers_at : DeliversAt values number → RegularDeliversAt values number
  regular_delivers_at delivers script file_a file_b before more mild brief lawful first last told many =
      delivers script file_a file_b before more mild brief lawful first last (who_is_no_backup_serves (start_of script file_a file_b) number (before ++ Turn.Round ∷ more) told) many

  pub regular_delivers_at_in_octets : DeliversAt octets number → RegularDeliversAt octets number
  regular_delivers_at_in_octets delivers script file_a file_b before more mild brief lawful first last told many =
      delivers script file_a file_b before more mild brief lawful first last (who_is_no_backup_serves_in_octets (start_of script file_a file_b) number (before ++ Turn.Round ∷ more) told) many

pub regular_paths_deliver : RegularPathsDeliver values
regular_paths_deliver = regular_delivers_at 0 first_paths_deliver

pub regular_paths_deliver_in_octets : RegularPathsDeliver octets
regular_paths_deliver_in_octets = regular_delivers_at_in_octets 0 first_paths_deliver_in_octets
