use Rattle.ruled_desk.proofs.Words.{refl, inl, inr}
use Rattle.ruled_desk.proofs.WholeRounds.{same_extend}
use Rattle.ruled_desk.proofs.rounds.ride_all.Goals as goal

pub returns-in-Ok-clause-turned : goal.returns-in-Ok-clause-turned
returns-in-Ok-clause-turned g c = inl c.ride_at.ensures.turned

pub returns-in-Err-clause-turned : goal.returns-in-Err-clause-turned
returns-in-Err-clause-turned g c = inr (record { memory = refl; crew = refl; books = c.in-Err.ensures.back })

pub returns-in-Err-clause-extend : goal.returns-in-Err-clause-extend
returns-in-Err-clause-extend g c = same_extend c.args.books _ c.in-Err.ensures.back
