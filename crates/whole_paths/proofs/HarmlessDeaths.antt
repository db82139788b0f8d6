-- An end of path 0 of a mild connection dies of expiries alone, where no line of the script lets that path die or takes its address back.
use Rattle.std.proofs.Common.{ap, subst}
use Rattle.std.proofs.lemmas.Bool.{both_ways}
use Rattle.path_core.specs.State.{PathState}
use Rattle.path_core.specs.Values.{Carried, values}
use Rattle.world_laws.specs.RoundDone.{reached}
use Rattle.whole_paths.specs.KeptAddresses.{FirstAddressesStay, HarmlessEndsDieOfExpiries, IsSixth}
use Rattle.whole_paths.specs.MildDeaths.{DiesMildly}
use Rattle.whole_paths.specs.MildDeaths.{DiesMildly as dies}
use Rattle.whole_paths.proofs.ByTurns.{Of}
use Rattle.whole_paths.proofs.HarmlessLines.{first_lives, is_death}
use Rattle.whole_paths.proofs.KeptAddresses.{first_address_is_kept}
use Rattle.whole_paths.proofs.LinesLeft as left
use Rattle.whole_paths.proofs.MildDeaths.{mild_ends_die_of_expiries}

pub first_addresses_stay : FirstAddressesStay
first_addresses_stay start turns harmless s is = first_address_is_kept start turns harmless s is

pub harmless_ends_die_of_expiries : HarmlessEndsDieOfExpiries
harmless_ends_die_of_expiries start turns turn mild harmless p q here there lives s dead = by (mild_ends_die_of_expiries start turns turn mild p q here there lives s dead)
  where
    by : DiesMildly s (reached values start turns).books p → IsSixth s p
    by (dies.sixth tick out many) = record { tick = tick; out = out; many = many }
    by (dies.line line next is) = absurd (both_ways (is_death line.action)
        (left.no_harm_comes is_death p (subst (Of (λ (p : PathState Carried). left.Spares is_death p.lines)) here.is ((first_lives start turns harmless).each here.crew here.there)) line next) (ap is_death is))
    by (dies.taken_back t is) = absurd (first_address_is_kept start turns harmless t is)
