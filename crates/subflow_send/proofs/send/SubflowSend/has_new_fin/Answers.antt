use Rattle.std.proofs.Common.{◌-◌, sym, ap, ◌∙◌}
use Rattle.subflow_send.proofs.ByPosition.{new_fin_of_all, is_new_sending}
use Rattle.subflow_send.proofs.send.SubflowSend.has_new_fin.Goals as goal

pub returns-in-Some : goal.returns-in-Some
returns-in-Some c =
    rw (← c.self.view_is)
    (sym (new_fin_of_all c.self.inside.syn c.self.inside.pieces (c.self.inside.nxt - 1) c.self.inside.fin ∙ ap is_new_sending c.in-Some.is))

pub returns-in-None : goal.returns-in-None
returns-in-None c =
    rw (← c.self.view_is)
    (sym (new_fin_of_all c.self.inside.syn c.self.inside.pieces (c.self.inside.nxt - 1) c.self.inside.fin ∙ ap is_new_sending c.in-None.is))
