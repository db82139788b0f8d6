-- With few losses no end dies, so what ends by a count is delivered by it.
use Rattle.std.proofs.Common.{◌≡◌, subst, ⊎_elim, ◌≤◌, List}
use Rattle.path_core.specs.Codec.{Codec}
use Rattle.path_core.specs.Octets.{octets}
use Rattle.path_core.specs.Values.{values}
use Rattle.world_laws.specs.Openings.{PathPlan, Start, start_of}
use Rattle.world_laws.specs.Worlds.{Turn}
use Rattle.whole_paths.specs.Finish.{BriefLossesEndNone, Patience, rounds_in}
use Rattle.whole_paths.specs.Mild.{IsMildStart}
use Rattle.whole_paths.specs.OnePathScripts.{Count}
use Rattle.whole_paths.specs.PaidEnds.{FewLossesFinishBy, OnePathEndsBy}
use Rattle.whole_paths.proofs.OnePathScripts.{mild_scripts_begin_with_one_path}
use Rattle.whole_paths.proofs.OverOctets.{as_far, ended}

pub few_losses_finish_by : {C : Type 0} (k : Codec C) (Also : Start → PathPlan → Type 0) (count : Count) (enough : Patience) → OnePathEndsBy k Also count enough → BriefLossesEndNone k
    → FewLossesFinishBy k Also count enough
few_losses_finish_by k Also count enough one none script path file_a file_b turns mild also brief harmless few lawful rounds = ⊎_elim
    (λ delivered. delivered)
    (λ died. absurd (none script path file_a file_b turns mild brief harmless few died))
    (one script path file_a file_b turns mild also brief lawful rounds)

-- over octets by what counts as much
pub one_path_ends_by_in_octets : (Also : Start → PathPlan → Type 0) (count counted : Count) (enough : Patience) → ((start : Start) → IsMildStart start → (turns : List Turn) → counted start turns ≡ count start turns)
    → OnePathEndsBy values Also count enough → OnePathEndsBy octets Also counted enough
one_path_ends_by_in_octets Also count counted enough same ends script path file_a file_b turns mild also brief lawful rounds =
    let whole = as_far script path file_a file_b mild turns in
    ended (start_of script file_a file_b) turns whole
    (ends script path file_a file_b turns mild also brief (whole.lawful.0 lawful)
    (subst (λ n. enough script path file_a file_b n ≤ rounds_in turns) (same (start_of script file_a file_b) (mild_scripts_begin_with_one_path script path file_a file_b mild).mild turns) rounds))
