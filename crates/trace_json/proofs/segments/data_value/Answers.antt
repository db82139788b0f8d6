use Rattle.std.proofs.Common.{◌≡◌, subst, IfOk}
use Rattle.serde_json.specs.Data.{Data}
use Rattle.serde_json.specs.View.{view}
use Rattle.trace_json.proofs.AtPlaces.{no_carried, some_carried}
use Rattle.trace_json.proofs.segments.data_value.Goals as goal

pub returns-in-None : goal.returns-in-None
returns-in-None c = no_carried c.args.carried.now c.args.place c.in-None.ensures.lookup.3

pub returns-in-Some : goal.returns-in-Some
returns-in-Some c =
    let found = c.in-Some.ensures.lookup in
    subst (λ (d : Data). IfOk c.carried_value.result (λ value. view value ≡ d))
    (some_carried c.args.carried.now c.args.place c.in-Some.carried.now found.3.0 found.1)
    c.carried_value.ensures
