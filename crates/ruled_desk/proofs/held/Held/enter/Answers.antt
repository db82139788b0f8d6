use Rattle.ruled_desk.proofs.Words.{book_of}
use Rattle.ruled_desk.proofs.Entering.{stays_sound, used_up_then}
use Rattle.ruled_desk.proofs.held.Held.enter.Goals as goal

pub invariant_of-self : goal.invariant_of-self
invariant_of-self g c =
    stays_sound g.O.Book.reply_to g.O.Book.after g.O.Kept.sound c.self.inside.book c.enter.new.self c.args.pass.now c.args.call.now c.enter.result
    c.enter.ensures.entry c.enter.ensures.err c.self.invariant
    (λ sound. c.stays.ensures (book_of g.O.Book.reply_to g.O.Book.after c.self.inside.book) c.args.call.now c.requires sound)

pub returns-clause-stamps : goal.returns-clause-stamps
returns-clause-stamps g c =
    used_up_then c.self.inside.book c.enter.new.self c.args.pass.now c.enter.result c.stamps_rise.ensures.small c.enter.ensures.err c.enter.ensures.stamps.0
