-- A file that fits into the first window is never shut in by it.
use Rattle.std.proofs.Common.{◌≡◌, ◌+◌, ◌≤◌, arith, true, List, ◌∷◌, length}
use Rattle.sides.specs.declared.side.Side.{Side}
use Rattle.sides.specs.declared.side.Side.TheVariants.{A, B}
use Rattle.actor_desk.specs.Words.{pick}
use Rattle.path_agenda.specs.declared.duty.Duty.{Duty}
use Rattle.path_agenda.specs.declared.duty.Duty.TheVariants as duties
use Rattle.path_agenda.specs.declared.duty.StepDuty.TheVariants as step_duties
use Rattle.path_core.specs.State.{PathState, end_at}
use Rattle.path_core.specs.Values.{Carried, values}
use Rattle.world_laws.specs.Openings.{PathPlan, Start}
use Rattle.world_laws.specs.Promises.{written_by}
use Rattle.world_laws.specs.RoundDone.{reached}
use Rattle.world_laws.specs.Worlds.{Turn, all_over}
use Rattle.whole_paths.specs.AsFar.{stage}
use Rattle.whole_paths.specs.FilesFit.{FitsFirstWindow, FittingFilesAreNeverShut}
use Rattle.whole_paths.specs.Finish.{IsPathAt}
use Rattle.whole_paths.specs.OnePathScripts.{BeginsWithOnePath}
use Rattle.whole_paths.specs.OpenCourses.{IsOpenAfter}
use Rattle.whole_paths.specs.OpeningWaits.{IsAlive}
use Rattle.whole_paths.proofs.AnsweredWindows as answered
use Rattle.whole_paths.proofs.FirstWindows as first
use Rattle.whole_paths.proofs.KnownWindows.{edge_asks, edge_at}
use Rattle.whole_paths.proofs.Received.{nobody_joins}
use Rattle.whole_paths.proofs.RoundSteps.{silent}

module _ (start : Start) (plan : PathPlan) (x : BeginsWithOnePath start plan) (u : List Turn) (h : IsOpenAfter start u) (over : all_over (reached values start u).crew ≡ true) where
  alive : IsAlive h.path
  alive = record { living = h.is_open.living }

  edge_so : (s : Side) → FitsFirstWindow start s → length (pick s start.file_a start.file_b) + 1 ≤ (written_by s (reached values start u)).edge
  edge_so A fits = edge_at start x.mild A start.buffer (length start.file_a + 1) fits.syn (omega arith) (omega arith)
      (λ turns alone p here living low. (let few = answered.fewer start x.mild turns alone p here living low in let room = fits.buffer in omega (arith, few, room)))
      u (nobody_joins start plan x.one x.mild u) h.path h.here alive (let past = h.is_open.past A in omega (arith, past)) (silent start u h.path over h.here)
  edge_so B fits = edge_at start x.mild B start.buffer (length start.file_b + 1) fits.syn (omega arith) (omega arith)
      (λ turns alone p here living low. (let none = first.fewer start x.mild turns alone p here living low in let room = fits.buffer in omega (arith, none, room)))
      u (nobody_joins start plan x.one x.mild u) h.path h.here alive (let past = h.is_open.past B in omega (arith, past)) (silent start u h.path over h.here)

pub fitting_files_are_never_shut : FittingFilesAreNeverShut
fitting_files_are_never_shut start plan s x fits u h over = (let edge = edge_so start plan x u h over s fits in omega (arith, edge))

-- nor as its end asks for bytes
module _ (start : Start) (plan : PathPlan) (x : BeginsWithOnePath start plan) (turns : List Turn) (p : PathState Carried) (here : IsPathAt 0 (reached values start turns) p) (alive : IsAlive p) where
  pub fits_as_it_asks : (s : Side) → FitsFirstWindow start s → 2 ≤ stage (end_at s p).tcp.state → (others : List Duty) → p.agenda ≡ duties.Step (step_duties.Data s) ∷ others
      → length (pick s start.file_a start.file_b) ≤ (written_by s (reached values start turns)).edge
  fits_as_it_asks A fits met others asks =
      let edge = edge_asks start x.mild A start.buffer (length start.file_a + 1) fits.syn (omega arith) (omega arith)
      (λ turns alone p here living low. (let few = answered.fewer start x.mild turns alone p here living low in let room = fits.buffer in omega (arith, few, room)))
      turns (nobody_joins start plan x.one x.mild turns) p here alive met others asks in omega (arith, edge)
  fits_as_it_asks B fits met others asks =
      let edge = edge_asks start x.mild B start.buffer (length start.file_b + 1) fits.syn (omega arith) (omega arith)
      (λ turns alone p here living low. (let none = first.fewer start x.mild turns alone p here living low in let room = fits.buffer in omega (arith, none, room)))
      turns (nobody_joins start plan x.one x.mild turns) p here alive met others asks in omega (arith, edge)
