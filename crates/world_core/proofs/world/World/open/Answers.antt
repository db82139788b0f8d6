use Rattle.std.proofs.Common.{ap, ℕ, List, length, arith}
use Rattle.world_laws.specs.Actors.{ActorCrew}
use Rattle.world_laws.specs.Openings.{start_of}
use Rattle.world_core.proofs.Ending.{opened_parts}
use Rattle.world_core.proofs.Opening.{crew_many}
use Rattle.world_core.proofs.world.World.open.Goals as goal

pub from_parts-requires-clause-sound : goal.from_parts-requires-clause-sound
from_parts-requires-clause-sound c = λ _.
    opened_parts (start_of c.args.input.now.script c.args.input.now.file_a c.args.input.now.file_b) c.in_ok-crew.crew.items c.in_ok-books.books c.in_ok-crew.ensures c.in_ok-books.ensures

pub from_parts-requires-clause-few : goal.from_parts-requires-clause-few
from_parts-requires-clause-few c =
    let same = ap (λ (crew : List (ActorCrew (List ℕ))). length crew) c.in_ok-crew.ensures in
    let many = crew_many c.args.input.now.script c.args.input.now.file_a c.args.input.now.file_b in
    let few = c.requires.few_paths in
    omega (arith, same, many, few)
