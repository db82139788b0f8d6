use Rattle.std.proofs.Common.{List, sym, ap}
use Rattle.subflow_send.specs.Records.{Record}
use Rattle.subflow_send.proofs.PieceLoops.{lt_true, le_true}
use Rattle.subflow_send.proofs.Covering.{uncovered_all, kept_after}
use Rattle.subflow_send.proofs.send.SubflowSend.let_go.Goals as goal

pub invariant_of-self : goal.invariant_of-self
invariant_of-self c =
    let above = rw (← c.self.view_is) at c.requires.above in
    let within = rw (← c.self.view_is) at c.requires.within in
    rw (c.drop_covered.ensures, c.unless-self-inside.ensures)
    (kept_after c.self.inside.una c.self.inside.nxt c.self.inside.syn c.self.inside.pieces c.self.inside.fin c.self.inside.finished c.args.pos c.self.invariant above within)

pub returns : goal.returns
returns c =
    let above = rw (← c.self.view_is) at c.requires.above in
    let within = rw (← c.self.view_is) at c.requires.within in
    rw (← c.self.view_is, c.drop_covered.ensures, c.unless-self-inside.ensures, lt_true c.self.inside.una c.args.pos above, le_true c.args.pos c.self.inside.nxt within)
    (ap (λ (rs : List Record). record { una = c.args.pos; nxt = c.self.inside.nxt; records = rs; finished = c.self.inside.finished })
    (sym (uncovered_all c.self.inside.syn c.self.inside.pieces c.self.inside.fin c.self.inside.una c.self.inside.nxt c.args.pos c.self.invariant.tile c.self.invariant.begun above within)))
