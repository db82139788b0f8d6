use Rattle.std.proofs.Common.{refl, sym, ap, ◌∙◌, subst}
use Rattle.subflow_tcp.specs.Segments.{copy_of}
use Rattle.subflow_tcp.specs.Judging.{IsBelow, meaning_of}
use Rattle.subflow_tcp.proofs.Meant.{below-meant, meant-kept}
use Rattle.subflow_tcp.proofs.end.Subflow.treat.Goals as goal

pub keep_for-requires-clause-below : goal.keep_for-requires-clause-below
keep_for-requires-clause-below c =
    subst IsBelow (sym c.requires.meaning) (below-meant c.args.self.now.state (copy_of c.args.arriving.now) c.args.self.now refl)

pub take_segment-arrival-requires : goal.take_segment-arrival-requires
take_segment-arrival-requires c =
    c.requires.meaning
    ∙ sym (ap (meaning_of (copy_of c.args.arriving.now)) c.in_ok-new.ensures.ok
    ∙ meant-kept c.args.meaning c.args.hint.now.keep c.args.arriving.now.payload.now (copy_of c.args.arriving.now) c.args.self.now)
