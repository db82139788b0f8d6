use Rattle.ruled_desk.proofs.Words.{refl, sym, ◌∙◌, ap, subst, ◌⊎◌, inr, List, length, length-map, Crew, AreNumbered, EndsAsTurns, IsWholeRound}
use Rattle.ruled_desk.proofs.Words.{OneIsFull, OneKnowsLast, crew_of, without_pass, NoTurnMade}
use Rattle.std.proofs.Common.{OnOk}
use Rattle.ruled_desk.proofs.WholeRounds.{crew_again, numbered_riders, same_extend}
use Rattle.ruled_desk.proofs.rounds.round_at_tables.Goals as goal

pub ride_all-told-requires-clause-numbered : goal.ride_all-told-requires-clause-numbered
ride_all-told-requires-clause-numbered g c =
    subst (λ l. AreNumbered 0 l) (sym c.in-Ok.ensures.riders) (numbered_riders 0 c.args.crew.now.items c.requires.numbered)

pub returns-clause-ok : goal.returns-clause-ok
returns-clause-ok g c =
    subst (λ (crew : List (Crew g.row.A.Denot)). OnOk c.ride_all-told.result.0
    (IsWholeRound g.A.Actor.asks g.A.Actor.takes c.args.crew.now.items crew c.args.books c.ride_all-told.result.1)) (sym c.dismount.ensures)
    (subst (λ (crew : List (Crew g.row.A.Denot)). OnOk c.ride_all-told.result.0
    (IsWholeRound g.A.Actor.asks g.A.Actor.takes crew (crew_of c.ride_all-told.new.riders.items) c.args.books c.ride_all-told.result.1))
    (ap (λ l. crew_of l) c.in-Ok.ensures.riders ∙ crew_again c.args.crew.now.items) c.ride_all-told.ensures.ok)

pub returns-clause-used_up : goal.returns-clause-used_up
returns-clause-used_up g c is =
    subst (λ (crew : List (Crew g.row.A.Denot)). OneKnowsLast crew ⊎ OneIsFull c.ride_all-told.result.1) (sym c.dismount.ensures) (c.ride_all-told.ensures.used_up is)

pub returns-clause-many : goal.returns-clause-many
returns-clause-many g c =
    ap (λ (l : List (Crew g.row.A.Denot)). length l) c.dismount.ensures ∙ length-map c.ride_all-told.new.riders.items (λ rider. rider.crew) ∙ c.ride_all-told.ensures.many
    ∙ ap (λ l. length l) c.in-Ok.ensures.riders ∙ length-map c.args.crew.now.items without_pass

pub returns-clause-turned : goal.returns-clause-turned
returns-clause-turned g c =
    subst (λ (crew : List (Crew g.row.A.Denot)). EndsAsTurns g.A.Actor.asks g.A.Actor.takes c.args.crew.now.items crew c.ride_all-told.result.0
    ⊎ NoTurnMade c.args.crew.now.items crew c.args.books c.ride_all-told.result.1 c.ride_all-told.result.0) (sym c.dismount.ensures)
    (subst (λ (crew : List (Crew g.row.A.Denot)). EndsAsTurns g.A.Actor.asks g.A.Actor.takes crew (crew_of c.ride_all-told.new.riders.items) c.ride_all-told.result.0
    ⊎ NoTurnMade crew (crew_of c.ride_all-told.new.riders.items) c.args.books c.ride_all-told.result.1 c.ride_all-told.result.0)
    (ap (λ l. crew_of l) c.in-Ok.ensures.riders ∙ crew_again c.args.crew.now.items) c.ride_all-told.ensures.turned)

pub returns-in-Err-clause-turned : goal.returns-in-Err-clause-turned
returns-in-Err-clause-turned g c = inr (record { memory = refl; crew = c.in-Err.ensures.err; books = refl })

pub returns-in-Err-clause-extend : goal.returns-in-Err-clause-extend
returns-in-Err-clause-extend g c = same_extend c.args.books c.args.books refl
