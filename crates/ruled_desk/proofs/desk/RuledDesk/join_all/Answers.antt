use Rattle.ruled_desk.proofs.Words.{◌≡◌, sym, ◌∙◌, ap, subst, ◌<◌, length, take, arith, set, get_or, get_or_default, HasPass, all_joined, known_with}
use Rattle.ruled_desk.proofs.Words.{pass_taken, AreOf}
use Rattle.std.proofs.lemmas.List.Edits.{map_over_more}
use Rattle.ruled_desk.proofs.PassesGiven.{home_more, joined_more, next_actor, next_same, of_with}
use Rattle.ruled_desk.proofs.desk.RuledDesk.join_all.Goals as goal

pub take_pass-requires-clause-pass : goal.take_pass-requires-clause-pass
take_pass-requires-clause-pass g c =
    let i = c.loop-rider.rider-index in
    subst (HasPass c.args.self.now) (sym (next_same pass_taken c.args.riders.now c.loop-rider.riders i c.rider-item.result c.loop-rider.invariant.riders c.loop-rider-test.true))
    (c.requires.passes i c.rider-item.result c.loop-rider-test.true)

pub loop-rider-preserved : goal.loop-rider-preserved
loop-rider-preserved g c =
    let i = c.loop-rider.rider-index in
    let inside : i < length c.loop-rider.riders = omega (arith, c.loop-rider.auto.riders, c.loop-rider-test.true) in
    let item = get_or c.loop-rider.riders i c.rider-item.result in
    let same = next_same pass_taken c.args.riders.now c.loop-rider.riders i c.rider-item.result c.loop-rider.invariant.riders c.loop-rider-test.true in
    let is : item.crew.pass.actor ≡ i = next_actor pass_taken c.args.riders.now c.loop-rider.riders i c.rider-item.result c.requires.numbered c.loop-rider.invariant.riders c.loop-rider-test.true in
    let books : c.take_pass.new.root.books ≡ known_with c.loop-rider.root.books item.pass = ap (λ r. r.books) c.take_pass.ensures.root in
    record {
      riders =
          ap (set c.loop-rider.riders i) c.take_pass.ensures.rider
          ∙ map_over_more pass_taken c.args.riders.now c.loop-rider.riders i item c.loop-rider-test.true c.loop-rider.invariant.riders
          (get_or_default c.loop-rider.riders i c.rider-item.result item inside);
      books =
          books ∙ ap (λ b. known_with b item.pass) c.loop-rider.invariant.books
          ∙ ap (λ r. known_with (all_joined c.args.root.now.books (take i c.args.riders.now)) r.pass) same
          ∙ sym (joined_more c.args.root.now.books c.args.riders.now i c.rider-item.result c.loop-rider-test.true);
      of = subst (AreOf c.args.self.now) (sym books) (of_with c.args.self.now c.loop-rider.root.books item.pass c.loop-rider.invariant.of);
      home = home_more c.loop-rider.root.out c.take_pass.new.root.out i (length c.args.riders.now) item.crew.pass.actor is (ap (λ r. r.out) c.take_pass.ensures.root) c.loop-rider.invariant.home;
    }
