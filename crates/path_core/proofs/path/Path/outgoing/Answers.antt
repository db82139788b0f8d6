use Rattle.path_core.proofs.Words.{◌≡◌, ◌∙◌, subst, ℕ, List, PathState, IsTold}
use Rattle.std.proofs.Common.{IfOk}
use Rattle.path_core.proofs.SegmentsTold.{outgoing_told}
use Rattle.path_core.proofs.path.Path.outgoing.Goals as goal

pub returns-clause-told : goal.returns-clause-told
returns-clause-told c = subst (λ (p : PathState (List ℕ)). IfOk c.outgoing.result (λ d. IsTold d p)) (c.deref.ensures ∙ c.self.view_is)
    (outgoing_told _ _ c.outgoing.ensures.value)
