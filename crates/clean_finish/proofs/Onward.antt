-- What has to be shown of the duties of the path, so that the relation goes on with each step of the world.
use Rattle.clean_finish.proofs.Words.{ℕ, Setting, Lane, all_left, Going, PathPlan, Start}
use Rattle.clean_finish.proofs.Stepping.{Passes, Answers}

-- In each round in which both lanes go on, duties that come to nothing are passed, and those that come to something are answered.
pub record DutiesGoOn (start : Start) (plan : PathPlan) (k j : Setting) : Type 0 where
  pub passes : (s v : Lane) (t u : ℕ) → Going k s t all_left s → Going j v u all_left v → Passes start plan k j s v
  pub answering : (s v : Lane) (t u : ℕ) → Going k s t all_left s → Going j v u all_left v → Answers start plan k j s v
