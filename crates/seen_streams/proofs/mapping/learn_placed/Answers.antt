use Rattle.std.proofs.Common.{to_z, of_z, w64, ◌≡◌, ◌∙◌, Option, ap, sym}
use Rattle.std.proofs.lemmas.Int.{to_z-of_z}
use Rattle.std.proofs.lemmas.Result.{on_ok_weaker}
use Rattle.seen_streams.specs.declared.told.Broke.{Broke}
use Rattle.seen_streams.specs.declared.told.ToldMapping.{ToldMapping}
use Rattle.seen_streams.specs.Mapped.{finite_by, finite_learnt, told_mapping}
use Rattle.seen_streams.specs.Shows.{mapped_of}
use Rattle.seen_streams.proofs.Learning.{told_in}
use Rattle.seen_streams.proofs.mapping.learn_placed.Goals as goal

pub returns-in-Some : goal.returns-in-Some
returns-in-Some c =
    let same : to_z w64 (of_z w64 c.args.position) ≡ c.args.position = to_z-of_z w64 c.args.position c.ranges.position in
    let state = mapped_of c.args.stream.now c.args.lane.now c.args.learnt.now in
    let packet = c.args.teller.now.packet in
    on_ok_weaker c.find.result
    (λ is. ap (told_in state) is ∙ ap (λ (o : Option Broke). finite_by o packet (told_mapping c.args.offer.now c.args.position c.args.place) state)
    (sym c.in-Some.is ∙ (rw same at c.finite_fault.ensures))) c.find.ensures

pub returns-in-None : goal.returns-in-None
returns-in-None c =
    let same : to_z w64 (of_z w64 c.args.position) ≡ c.args.position = to_z-of_z w64 c.args.position c.ranges.position in
    let state = mapped_of c.args.stream.now c.args.lane.now c.args.learnt.now in
    let packet = c.args.teller.now.packet in
    on_ok_weaker c.keep.result
    (λ is. is ∙ ap (λ (m : ToldMapping). finite_learnt packet m state) (rw same at c.told_mapping-mapping.ensures)
    ∙ ap (λ (o : Option Broke). finite_by o packet (told_mapping c.args.offer.now c.args.position c.args.place) state)
    (sym c.in-None.is ∙ (rw same at c.finite_fault.ensures))) c.keep.ensures
