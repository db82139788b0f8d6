use Rattle.ruled_desk.proofs.Words.{◌≡◌, sym, ◌∙◌, ap, subst, length, arith, length-map, All, AreNumbered, HasPass, given_pass, AreOf, is_out, AllGainJust, given_to}
use Rattle.ruled_desk.proofs.PassesGiven.{nobody_is_out, of_nothing}
use Rattle.ruled_desk.proofs.WholeRounds.{all_extend, all_given, all_have, ends_then, numbered_given, still_numbered, used_up_then, whole_ok}
use Rattle.ruled_desk.proofs.rounds.ride_at.Goals as goal

pub give_passes-requires-clause-root : goal.give_passes-requires-clause-root
give_passes-requires-clause-root g c = subst (λ r. AreOf c.args.desk r.books) (sym c.requires.root) (of_nothing c.args.desk)

pub give_passes-requires-clause-home : goal.give_passes-requires-clause-home
give_passes-requires-clause-home g c actor = ap (λ r. is_out r.out actor) c.requires.root ∙ nobody_is_out actor

pub ruled_round-told-requires-clause-passes : goal.ruled_round-told-requires-clause-passes
ruled_round-told-requires-clause-passes g c =
    subst (λ l. All (HasPass c.args.desk) l) (sym c.give_passes.ensures.riders) (all_given c.args.desk c.args.riders.now.items)

pub take_passes-requires-clause-root : goal.take_passes-requires-clause-root
take_passes-requires-clause-root g c =
    subst (λ d. AreOf d c.give_passes.new.root.books) (sym c.ruled_round-told.ensures.desk)
    (subst (λ b. AreOf c.args.desk b) (sym (c.give_passes.ensures.books ∙ ap (λ r. r.books) c.requires.root)) (of_nothing c.args.desk))

pub take_passes-requires-clause-passes : goal.take_passes-requires-clause-passes
take_passes-requires-clause-passes g c =
    subst (λ d. All (HasPass d) c.ruled_round-told.new.riders.items) (sym c.ruled_round-told.ensures.desk)
    (all_have g.A.Actor.asks g.A.Actor.takes c.args.desk c.give_passes.new.riders.items c.ruled_round-told.new.riders.items c.ruled_round-told.ensures.many
    c.ruled_round-told.ensures.rode)

pub take_passes-requires-clause-numbered : goal.take_passes-requires-clause-numbered
take_passes-requires-clause-numbered g c =
    still_numbered g.A.Actor.asks g.A.Actor.takes c.args.desk 0 c.give_passes.new.riders.items c.ruled_round-told.new.riders.items c.ruled_round-told.ensures.many
    c.ruled_round-told.ensures.rode
    (subst (λ l. AreNumbered 0 l) (sym c.give_passes.ensures.riders) (numbered_given c.args.desk 0 c.args.riders.now.items c.requires.numbered))

pub take_passes-requires-clause-others : goal.take_passes-requires-clause-others
take_passes-requires-clause-others g c actor later =
    let many : length c.ruled_round-told.new.riders.items ≡ length c.args.riders.now.items =
    c.ruled_round-told.ensures.many ∙ ap (λ l. length l) c.give_passes.ensures.riders ∙ length-map c.args.riders.now.items (given_pass c.args.desk) in
    c.give_passes.ensures.others actor (omega (arith, many, later))

pub returns-clause-ok : goal.returns-clause-ok
returns-clause-ok g c =
    whole_ok g.A.Actor.asks g.A.Actor.takes c.args.desk c.ruled_round-told.result.0 c.args.riders.now.items c.give_passes.new.riders.items c.ruled_round-told.new.riders.items
    c.take_passes.new.riders.items _ c.close.result c.take_passes.new.root.books c.give_passes.new.root.books c.give_passes.ensures.riders c.ruled_round-told.ensures.many
    c.ruled_round-told.ensures.rode c.take_passes.ensures.riders (c.give_passes.ensures.books ∙ ap (λ r. r.books) c.requires.root) c.take_passes.ensures.books
    (subst (λ d. AllGainJust (given_to d) c.close.result c.take_passes.new.root.books) c.ruled_round-told.ensures.desk c.close.ensures) c.ruled_round-told.ensures.done

pub returns-clause-used_up : goal.returns-clause-used_up
returns-clause-used_up g c is =
    used_up_then c.ruled_round-told.new.riders.items c.take_passes.new.riders.items _ c.close.result c.take_passes.new.root.books c.give_passes.new.root.books
    c.take_passes.ensures.riders c.take_passes.ensures.books (subst (λ d. AllGainJust (given_to d) c.close.result c.take_passes.new.root.books) c.ruled_round-told.ensures.desk c.close.ensures) (c.ruled_round-told.ensures.used_up is)

pub returns-clause-turned : goal.returns-clause-turned
returns-clause-turned g c =
    ends_then g.A.Actor.asks g.A.Actor.takes c.args.desk c.ruled_round-told.result.0 c.args.riders.now.items c.give_passes.new.riders.items c.ruled_round-told.new.riders.items
    c.take_passes.new.riders.items c.give_passes.ensures.riders c.ruled_round-told.ensures.many c.ruled_round-told.ensures.rode c.take_passes.ensures.riders
    c.ruled_round-told.ensures.memory c.ruled_round-told.ensures.stamps

pub returns-clause-extend : goal.returns-clause-extend
returns-clause-extend g c = all_extend _ c.close.result c.take_passes.new.root.books (subst (λ d. AllGainJust (given_to d) c.close.result c.take_passes.new.root.books) c.ruled_round-told.ensures.desk c.close.ensures)
