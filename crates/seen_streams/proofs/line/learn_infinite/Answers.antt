use Rattle.std.proofs.Common.{to_z, of_z, w64, ◌≡◌, ◌∙◌, ℕ, Option, Some, None, ap, sym}
use Rattle.std.proofs.lemmas.Int.{to_z-of_z}
use Rattle.std.proofs.lemmas.Result.{on_ok_weaker}
use Rattle.judge_rules.specs.Numbers.{place_near}
use Rattle.seen_streams.specs.Mapped.{infinite_at}
use Rattle.seen_streams.specs.Shows.{mapped_of}
use Rattle.seen_streams.proofs.Learning.{told_in}
use Rattle.seen_streams.proofs.line.learn_infinite.Goals as goal

pub returns-in-Some : goal.returns-in-Some
returns-in-Some c =
    let same : to_z w64 (of_z w64 c.args.position) ≡ c.args.position = to_z-of_z w64 c.args.position c.ranges.position in
    let state = mapped_of c.args.stream.now c.args.lane.now c.args.learnt.now in
    let first = c.args.teller.now.first in
    let place : Some c.in-Some.place ≡ place_near first state.stream.top c.args.offer.now.number =
    sym c.in-Some.is ∙ c.place_of.ensures.value ∙ ap (λ (n : ℕ). place_near first n c.args.offer.now.number) c.top.ensures.value in
    on_ok_weaker c.learn_line.result
    (λ is. is ∙ ap (λ (o : Option ℕ). infinite_at o c.args.teller.now c.args.offer.now c.args.position state) place) (rw same at c.learn_line.ensures)

pub returns-in-None : goal.returns-in-None
returns-in-None c =
    let state = mapped_of c.args.stream.now c.args.lane.now c.args.learnt.now in
    let first = c.args.teller.now.first in
    let place : None ≡ place_near first state.stream.top c.args.offer.now.number =
    sym c.in-None.is ∙ c.place_of.ensures.value ∙ ap (λ (n : ℕ). place_near first n c.args.offer.now.number) c.top.ensures.value in
    on_ok_weaker c.find_no_place.result
    (λ is. ap (told_in state) is ∙ ap (λ (o : Option ℕ). infinite_at o c.args.teller.now c.args.offer.now c.args.position state) place) c.find_no_place.ensures
