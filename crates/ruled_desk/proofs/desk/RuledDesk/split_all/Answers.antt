use Rattle.ruled_desk.proofs.Words.{◌≡◌, sym, ◌∙◌, ap, subst, ◌<◌, length, arith, set, get_or, get_or_default, given_pass, AreOf}
use Rattle.std.proofs.lemmas.List.Edits.{map_over_more}
use Rattle.ruled_desk.proofs.PassesGiven.{next_actor, others_more}
use Rattle.ruled_desk.proofs.desk.RuledDesk.split_all.Goals as goal

pub give_pass-requires-clause-root : goal.give_pass-requires-clause-root
give_pass-requires-clause-root g c =
    subst (AreOf c.args.self.now) (sym c.loop-rider.invariant.books) c.requires.root

pub give_pass-requires-clause-home : goal.give_pass-requires-clause-home
give_pass-requires-clause-home g c =
    let i = c.loop-rider.rider-index in
    let inside : i < length c.loop-rider.riders = omega (arith, c.loop-rider.auto.riders, c.loop-rider-test.true) in
    let item = get_or c.loop-rider.riders i c.rider-item.result in
    let is : item.crew.pass.actor ≡ i = next_actor (given_pass c.args.self.now) c.args.riders.now c.loop-rider.riders i c.rider-item.result c.requires.numbered c.loop-rider.invariant.riders c.loop-rider-test.true in
    c.loop-rider.invariant.others item.crew.pass.actor (omega (arith, is))

pub loop-rider-preserved : goal.loop-rider-preserved
loop-rider-preserved g c =
    let i = c.loop-rider.rider-index in
    let inside : i < length c.loop-rider.riders = omega (arith, c.loop-rider.auto.riders, c.loop-rider-test.true) in
    let item = get_or c.loop-rider.riders i c.rider-item.result in
    let is : item.crew.pass.actor ≡ i = next_actor (given_pass c.args.self.now) c.args.riders.now c.loop-rider.riders i c.rider-item.result c.requires.numbered c.loop-rider.invariant.riders c.loop-rider-test.true in
    record {
      riders =
          ap (set c.loop-rider.riders i) c.give_pass.ensures.rider
          ∙ map_over_more (given_pass c.args.self.now) c.args.riders.now c.loop-rider.riders i item c.loop-rider-test.true c.loop-rider.invariant.riders
          (get_or_default c.loop-rider.riders i c.rider-item.result item inside);
      books = ap (λ r. r.books) c.give_pass.ensures.root ∙ c.loop-rider.invariant.books;
      others = others_more c.loop-rider.root.out c.give_pass.new.root.out i item.crew.pass.actor is (ap (λ r. r.out) c.give_pass.ensures.root) c.loop-rider.invariant.others;
    }
