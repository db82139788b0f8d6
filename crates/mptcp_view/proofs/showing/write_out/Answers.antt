use Rattle.std.proofs.Common.{refl, [], ◌∷◌}
use Rattle.outside_kit.specs.Calls as call
use Rattle.outside_kit.specs.declared.port.Port.TheVariants.{ReadByB}
use Rattle.run_outside.proofs.Calls.{cut_first}
use Rattle.mptcp_view.proofs.Refusing.{cut_behind, cut_put, made_then}
use Rattle.mptcp_view.proofs.showing.write_out.Goals as goal

pub returns-in-Err-Failed-clause-cut : goal.returns-in-Err-Failed-clause-cut
returns-in-Err-Failed-clause-cut g c =
    cut_first (call.Bind ReadByB c.args.out.now) (call.Put ReadByB c.args.shown.now ∷ []) _ _ _ refl c.in-Err-Failed.ensures.recorded

pub returns-in-Err-Memory-clause-cut : goal.returns-in-Err-Memory-clause-cut
returns-in-Err-Memory-clause-cut g c =
    cut_first (call.Bind ReadByB c.args.out.now) (call.Put ReadByB c.args.shown.now ∷ []) _ _ _ tt c.in-Err-Memory.ensures.recorded

pub returns-in-Ok-clause-made : goal.returns-in-Ok-clause-made
returns-in-Ok-clause-made g c =
    made_then (call.Bind ReadByB c.args.out.now ∷ []) (call.Put ReadByB c.args.shown.now ∷ []) _ _ _ c.in-Ok.ensures.recorded c.put_out.result c.put_out.ensures.made

pub returns-in-Ok-clause-cut : goal.returns-in-Ok-clause-cut
returns-in-Ok-clause-cut g c =
    cut_behind (call.Bind ReadByB c.args.out.now ∷ []) (call.Put ReadByB c.args.shown.now ∷ []) _ _ _ c.in-Ok.ensures.recorded c.put_out.result c.put_out.ensures.cut

pub returns-in-Ok-clause-err : goal.returns-in-Ok-clause-err
returns-in-Ok-clause-err g c = cut_put _ _ _ c.args.shown.now c.in-Ok.ensures.empty c.put_out.result c.put_out.ensures.err
