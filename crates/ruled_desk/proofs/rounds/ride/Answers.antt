use Rattle.ruled_desk.proofs.Words.{◌≡◌, sym, ◌∙◌, subst, Option, Some, Rider, Rode, Passed}
use Rattle.ruled_desk.proofs.rounds.ride.Goals as goal

pub returns : goal.returns
returns g c =
    let was : c.deref_mut-rider.result.now ≡ c.args.rider.now = c.deref_mut-rider.ensures.value ∙ c.rider.view_is in
    subst (λ (old : Rider g.row.A.Denot). Rode g.A.Actor.asks g.A.Actor.takes c.args.desk.now old
    (record { crew = c.turn_with.new.crew; pass = Some c.turn_with.result })) was
    (subst (λ (p : Option Passed). Rode g.A.Actor.asks g.A.Actor.takes c.args.desk.now (record { crew = c.deref_mut-rider.result.now.crew; pass = p })
    (record { crew = c.turn_with.new.crew; pass = Some c.turn_with.result }))
    (sym c.in-Some.is ∙ c.take.ensures.value) c.turn_with.ensures)
