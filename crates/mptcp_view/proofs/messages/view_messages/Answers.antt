use Rattle.std.proofs.Common.{subst, IfSome}
use Rattle.mptcp_view.specs.Views.{IsViewAnswer, over_frames}
use Rattle.mptcp_view.proofs.Refusing.{no_usage, not_none}
use Rattle.mptcp_view.proofs.messages.view_messages.Goals as goal

pub returns-in-Some-clause-usage : goal.returns-in-Some-clause-usage
returns-in-Some-clause-usage g c = (
  λ is. absurd (no_usage _ _ _ c.show_messages.result.0 c.show_messages.ensures is),
  λ none. absurd (not_none _ _ c.in-Some.ensures.asked none),
)

pub returns-in-Some-clause-answer : goal.returns-in-Some-clause-answer
returns-in-Some-clause-answer g c =
    let first = g.O.Outside.told c.args.outside in let last = g.O.Outside.told c.show_messages.result.1 in
    subst (λ o. IfSome o (λ asked. IsViewAnswer asked (over_frames asked.line first) (over_frames asked.line last) c.show_messages.result.0)) c.in-Some.ensures.asked c.show_messages.ensures

pub returns-in-Some-clause-untouched : goal.returns-in-Some-clause-untouched
returns-in-Some-clause-untouched g c is = absurd (no_usage _ _ _ c.show_messages.result.0 c.show_messages.ensures is)
