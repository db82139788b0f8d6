use Rattle.std.proofs.Common.{◌≡◌, ◌∙◌, ap, ◌+◌, max}
use Rattle.stamped_book.specs.Journal.{last_stamp}
use Rattle.stamped_book.proofs.Journals.{IsReplay-push}
use Rattle.stamped_book.proofs.stamped.Stamped.take.Goals as goal

pub invariant_of-self-2 : goal.invariant_of-self-2
invariant_of-self-2 g c =
    let journal : c.self.inside.journal.items ≡ c.args.self.now.journal = ap (λ stamped. stamped.journal) c.self.view_is in
    let next : c.args.stamp ≡ max (last_stamp 0 c.self.inside.journal.items) c.args.pass.stamp + 1 = rw journal c.requires.next in
    IsReplay-push _ _ _ _ _ _ c.self.inside.journal.items _ _ _ _ c.self.invariant
    (ap g.O.Book.opening c.in_ok-reply.ensures.after ∙ g.met.O.Book.opening_stays _ _)
    c.push_reserved.ensures c.reserve.ensures.items
    c.in_ok-kept_call.ensures c.in_ok-kept_reply.ensures next c.requires.small c.in_ok-reply.ensures.after
