-- The link of a path has the number by which its segments are spelled: so copies arrive between the addresses by which they are heard.
use Rattle.std.proofs.Common.{◌≡◌, sym, ◌∙◌, ap, ℕ, ◌+◌, List}
use Rattle.stream_lanes.specs.Words.{Every}
use Rattle.actor_desk.specs.declared.ask.Reply.{Reply}
use Rattle.path_core.specs.Codec.{Codec}
use Rattle.path_core.specs.Start.{waiting_path}
use Rattle.path_core.specs.State.{PathState, path_of}
use Rattle.world_laws.specs.declared.member.Member.TheVariants.{App, Path}
use Rattle.world_laws.specs.Actors.{Actor, ActorCrew, member_takes, member_next}
use Rattle.world_laws.specs.StampedBooks.{answer_to}
use Rattle.world_laws.specs.Openings.{PathPlan, Start, path_begins, new_path, opened_world}
use Rattle.world_laws.specs.Worlds.{Turn, world_run}
use Rattle.world_laws.proofs.Rounds.Frame.{takes_keeps, first_keeps}
use Rattle.world_laws.proofs.Rounds.Lifting.{run_lifted, opened_lifted}

module _ {C : Type 0} (k : Codec C) where
  abbrev pub HasNumber : Actor C → Type 0
  HasNumber (App a) = Unit {0}
  HasNumber (Path p) = path_of p ≡ p.profile.spelling.path

  abbrev pub CrewHasNumber : ActorCrew C → Type 0
  CrewHasNumber c = HasNumber c.member

  takes_number : (r : Reply) (m : Actor C) → HasNumber m → HasNumber (member_takes k r m)
  takes_number r (App a) h = tt
  takes_number r (Path p) h = let keeps = takes_keeps k r p in keeps.2 ∙ h ∙ ap (λ c. c.spelling.path) (sym keeps.1)

  next_number : (m : Actor C) → HasNumber m → HasNumber (member_next m)
  next_number (App a) h = tt
  next_number (Path p) h =
      let q : PathState C = record p { clock = p.until; until = p.until + 100 } in
      let keeps = first_keeps q in keeps.2 ∙ h ∙ ap (λ c. c.spelling.path) (sym keeps.1)

  new_number : (start : Start) (number : ℕ) (plan : PathPlan) → CrewHasNumber (new_path start number plan)
  new_number start number plan =
      let keeps = first_keeps (waiting_path {C = C} (path_begins start number plan) start.lines) in keeps.2 ∙ ap (λ c. c.spelling.path) (sym keeps.1)

  -- of each path at every moment
  pub paths_have_their_numbers : (start : Start) (turns : List Turn) → Every CrewHasNumber (world_run k turns (opened_world start)).crew
  paths_have_their_numbers start turns =
      run_lifted k CrewHasNumber (λ books c x is h. takes_number (answer_to books x) c.member h) (λ stamp c over h. next_number c.member h) turns (opened_world start)
      (opened_lifted CrewHasNumber start tt tt (λ number plan there. new_number start number plan))
