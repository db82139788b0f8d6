-- Words that several files of these proofs use, given on.
pub use Rattle.std.proofs.Common.{◌≡◌, refl, sym, ◌∙◌, ap, subst, ℕ, zero, suc, ◌⊎◌, inl, inr, Bool, true, false, List, [], ◌∷◌, Option, Some, None, eqb, ◌≢◌, ne_eqb, set, ◌++◌, arith}
pub use Rattle.std.specs.Prelude.{slice_set, slice_index}
pub use mathlib.Core.Option.{some, none, some-injective, some-ne-none}
pub use lib.ListN.{get_elem?}
pub use prog.Atomic.{either}
pub use Rattle.atomic_table.specs.Table.{State, Me, Act, keeps, takes, gives, Allows, Valid, homes_after, carried_after, opening, Splits, rest}
pub use Rattle.atomic_table.proofs.Lists.{exchanged}
pub use Rattle.berth.specs.declared.rule.View.{View}
pub use Rattle.berth.specs.declared.rule.View.TheVariants.{Both, Rests, Opened, Awaits, Free, Works}
pub use Rattle.berth.specs.Rule.{Mine, Home, OpenedWhere, IsOpened, IsGiven, RecalledWhere, IsRecalled, HasBack, FetchedWhere, IsFetched, AtRest, IsSame, TakenWhere, IsTaken, IsFree, HasDone, HasJob, IsGivers, IsWorkers, IsWork, IsDone, Stands, AreSeated, IsBerthed, giver, worker, job_of, given}
