use Rattle.ruled_desk.proofs.Words.{◌∙◌, ap, subst, ◌^◌, ◌<◌, Rise, last_stamp}
use Rattle.ruled_desk.proofs.Entering.{full_test}
use Rattle.ruled_desk.proofs.held.Held.is_full.Goals as goal

pub returns : goal.returns
returns g c =
    full_test c.last_stamp.result c.args.self.now.journal (c.last_stamp.ensures ∙ ap (λ s. last_stamp 0 s.journal) c.self.view_is)
    (subst (λ s. Rise 0 s.journal) c.self.view_is c.stamps_rise.ensures.rise)
    (subst (λ s. last_stamp 0 s.journal < 2 ^ 62) c.self.view_is c.stamps_rise.ensures.small)
