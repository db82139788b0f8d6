use Rattle.std.proofs.Common.{◌∙◌, ap, map, List}
use Rattle.std.proofs.lemmas.Result.{IfOk-weaker}
use Rattle.std.specs.Borrow.{Bor}
use Rattle.actor_desk.specs.declared.ask.Note.{Note}
use Rattle.world_laws.specs.StampedBooks.{journals_of}
use Rattle.journal_weave.specs.Weaving.{lists_in}
use Rattle.actor_desk.proofs.Inserting.{lent, actors_lent}
use Rattle.journal_weave.proofs.Paired.{all_asked, paired_above}
use Rattle.journal_weave.proofs.weaving.weave.Goals as goal

pub returns-clause-order : goal.returns-clause-order
returns-clause-order g c =
    IfOk-weaker c.actors_of.result _ _
    (λ order is. is ∙ (actors_lent c.deref.result.now
    ∙ ap (λ notes. map (λ note. note.actor) notes) (ap (λ (notes : List (Bor Note)). lent notes) c.deref.ensures.value ∙ c.in_ok-order.ensures)))
    c.actors_of.ensures

pub returns-clause-journals : goal.returns-clause-journals
returns-clause-journals g c =
    all_asked c.args.after (lists_in c.args.crew.now) c.args.books.now c.requires.own c.journals_rise.ensures
    (paired_above c.args.after (lists_in c.args.crew.now) (journals_of c.args.books.now) c.requires.paired)

pub returns-in_err-order-clause-journals : goal.returns-in_err-order-clause-journals
returns-in_err-order-clause-journals g c =
    all_asked c.args.after (lists_in c.args.crew.now) c.args.books.now c.requires.own c.journals_rise.ensures
    (paired_above c.args.after (lists_in c.args.crew.now) (journals_of c.args.books.now) c.requires.paired)
