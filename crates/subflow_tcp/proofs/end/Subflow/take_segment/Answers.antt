use Rattle.std.proofs.Common.{refl, sym, subst}
use Rattle.subflow_tcp.specs.Segments.{copy_of}
use Rattle.subflow_tcp.specs.Judging.{IsBelow}
use Rattle.subflow_tcp.specs.State.{EndState, IsFinTold}
use Rattle.subflow_tcp.proofs.Meant.{OpensNothing, below-meant, open-meant}
use Rattle.subflow_tcp.proofs.end.Subflow.take_segment.Goals as goal

pub take-requires : goal.take-requires
take-requires c =
    subst IsBelow c.in-Taken.is
    (subst IsBelow (sym c.requires) (below-meant c.args.self.now.state (copy_of c.args.arriving.now) c.args.self.now refl))

pub take_syn-requires : goal.take_syn-requires
take_syn-requires c =
    open-meant (copy_of c.args.arriving.now) c.args.self.now c.args.meaning
    (subst (λ (v : EndState). IsFinTold v.send.finished v.state) c.self.view_is c.self.invariant) c.requires
    (λ h. subst OpensNothing c.in-Opens.is h)

pub take_syn_ack-requires : goal.take_syn_ack-requires
take_syn_ack-requires c =
    open-meant (copy_of c.args.arriving.now) c.args.self.now c.args.meaning
    (subst (λ (v : EndState). IsFinTold v.send.finished v.state) c.self.view_is c.self.invariant) c.requires
    (λ h. subst OpensNothing c.in-Accepts.is h)
