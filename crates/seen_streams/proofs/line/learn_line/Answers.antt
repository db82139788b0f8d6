use Rattle.std.proofs.Common.{to_z, of_z, w64, ◌≡◌, ◌∙◌, Option, Some, None, ap, sym}
use Rattle.std.proofs.lemmas.Int.{to_z-of_z}
use Rattle.std.proofs.lemmas.Result.{on_ok_weaker}
use Rattle.judge_rules.specs.declared.finding.Finding.{Finding}
use Rattle.judge_rules.specs.declared.mappings.Line.{Line}
use Rattle.seen_streams.specs.declared.told.Infinite.{Infinite}
use Rattle.seen_streams.specs.Mapped.{infinite_by, line_fault, lowest_line, with_line}
use Rattle.seen_streams.specs.Shows.{mapped_of}
use Rattle.seen_streams.proofs.Learning.{told_in}
use Rattle.seen_streams.proofs.line.learn_line.Goals as goal

pub returns-in-Some : goal.returns-in-Some
returns-in-Some c =
    let same : to_z w64 (of_z w64 c.args.position) ≡ c.args.position = to_z-of_z w64 c.args.position c.ranges.position in
    let state = mapped_of c.args.stream.now c.args.lane.now c.args.learnt.now in
    let flow = c.args.teller.now.flow in
    let fault : Some c.in-Some.finding ≡ line_fault state.stream.infinite flow state.lane.line c.args.position c.args.place =
    sym c.in-Some.is ∙ (rw same at c.line_fault.ensures) ∙ ap (λ (i : Option Infinite). line_fault i flow c.line-known.result c.args.position c.args.place) c.infinite.ensures
    ∙ ap (λ (l : Option Line). line_fault state.stream.infinite flow l c.args.position c.args.place) c.line-known.ensures.value in
    on_ok_weaker c.find.result
    (λ is. ap (told_in state) is ∙ ap (λ (o : Option Finding). infinite_by o c.args.teller.now c.args.position c.args.place state) fault) c.find.ensures

pub returns-in-None : goal.returns-in-None
returns-in-None c =
    let same : to_z w64 (of_z w64 c.args.position) ≡ c.args.position = to_z-of_z w64 c.args.position c.ranges.position in
    let state = mapped_of c.args.stream.now c.args.lane.now c.args.learnt.now in
    let flow = c.args.teller.now.flow in
    let fault : None ≡ line_fault state.stream.infinite flow state.lane.line c.args.position c.args.place =
    sym c.in-None.is ∙ (rw same at c.line_fault.ensures) ∙ ap (λ (i : Option Infinite). line_fault i flow c.line-known.result c.args.position c.args.place) c.infinite.ensures
    ∙ ap (λ (l : Option Line). line_fault state.stream.infinite flow l c.args.position c.args.place) c.line-known.ensures.value in
    let line : c.lowest_line-line.result ≡ lowest_line state.lane.line c.args.position c.args.place =
    (rw same at c.lowest_line-line.ensures.value) ∙ ap (λ (l : Option Line). lowest_line l c.args.position c.args.place) c.line-known.ensures.value in
    on_ok_weaker c.keep_line.result
    (λ is. is ∙ ap (λ (l : Line). with_line c.args.teller.now c.args.place l state) line
    ∙ ap (λ (o : Option Finding). infinite_by o c.args.teller.now c.args.position c.args.place state) fault) c.keep_line.ensures
