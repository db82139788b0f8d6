use Rattle.std.proofs.Common.{◌-◌, List, sym, ap, ◌∙◌}
use Rattle.subflow_send.specs.Records.{Record}
use Rattle.subflow_send.specs.Pieces.{all_records}
use Rattle.subflow_send.proofs.ByPosition.{fin_sent_of_all}
use Rattle.subflow_send.proofs.send.SubflowSend.fin_sent.Goals as goal

pub returns : goal.returns
returns c =
    rw (← c.self.view_is)
    (ap (λ (rs : List Record). record { una = c.self.inside.una; nxt = c.self.inside.nxt; records = rs; finished = c.self.inside.finished })
    (ap (all_records c.self.inside.syn c.self.inside.pieces (c.self.inside.nxt - 1)) c.again-self-inside.ensures
    ∙ sym (fin_sent_of_all c.args.now c.self.inside.syn c.self.inside.pieces (c.self.inside.nxt - 1) c.self.inside.fin)))
