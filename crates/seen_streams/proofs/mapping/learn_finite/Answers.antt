use Rattle.std.proofs.Common.{to_z, of_z, w64, ◌≡◌, ◌∙◌, ℕ, Option, Some, None, ap, sym}
use Rattle.std.proofs.lemmas.Int.{to_z-of_z}
use Rattle.std.proofs.lemmas.Result.{on_ok_weaker}
use Rattle.judge_rules.specs.declared.finding.Finding.TheVariants.{NoPlace}
use Rattle.judge_rules.specs.declared.finding.Rule.TheVariants as rule
use Rattle.judge_rules.specs.Mappings.{mapped_place}
use Rattle.judge_rules.specs.Numbers.{told_number}
use Rattle.seen_streams.specs.Mapped.{finite_at, finite_by, finite_fault, one_more, told_mapping}
use Rattle.seen_streams.specs.Shows.{mapped_of, stream_of}
use Rattle.seen_streams.specs.State.{StreamValue, Found, tell}
use Rattle.seen_streams.proofs.Learning.{told_in}
use Rattle.seen_streams.proofs.mapping.learn_finite.Goals as goal

pub returns-in-Some : goal.returns-in-Some
returns-in-Some c =
    let same : to_z w64 (of_z w64 c.args.position) ≡ c.args.position = to_z-of_z w64 c.args.position c.ranges.position in
    let counted = one_more (mapped_of c.args.stream.now c.args.lane.now c.args.learnt.now) in
    let first = c.args.teller.now.first in
    let place : Some c.in-Some.place ≡ mapped_place first (stream_of c.args.stream.now).top c.args.offer.now =
    sym c.in-Some.is ∙ c.place.ensures.value
    ∙ ap (λ (n : ℕ). mapped_place first n c.args.offer.now) (c.top.ensures.value ∙ ap (λ (s : StreamValue). s.top) c.count_mapping.ensures) in
    on_ok_weaker c.learn_placed.result
    (λ is. is ∙ ap (λ (s : StreamValue). finite_by (finite_fault c.args.teller.now s counted.lane c.args.offer.now c.args.position c.in-Some.place)
    c.args.teller.now.packet (told_mapping c.args.offer.now c.args.position c.in-Some.place) (told_in counted s)) c.count_mapping.ensures
    ∙ ap (λ (o : Option ℕ). finite_at o c.args.teller.now c.args.offer.now c.args.position counted) place) (rw same at c.learn_placed.ensures)

pub returns-in-None : goal.returns-in-None
returns-in-None c =
    let counted = one_more (mapped_of c.args.stream.now c.args.lane.now c.args.learnt.now) in
    let first = c.args.teller.now.first in
    let place : None ≡ mapped_place first (stream_of c.args.stream.now).top c.args.offer.now =
    sym c.in-None.is ∙ c.place.ensures.value
    ∙ ap (λ (n : ℕ). mapped_place first n c.args.offer.now) (c.top.ensures.value ∙ ap (λ (s : StreamValue). s.top) c.count_mapping.ensures) in
    on_ok_weaker c.find_no_place.result
    (λ is. ap (told_in counted)
    (is ∙ ap (λ (s : StreamValue). tell rule.Mapping c.args.teller.now.packet (Found (NoPlace (told_number c.args.offer.now.number))) s) c.count_mapping.ensures)
    ∙ ap (λ (o : Option ℕ). finite_at o c.args.teller.now c.args.offer.now c.args.position counted) place) c.find_no_place.ensures
