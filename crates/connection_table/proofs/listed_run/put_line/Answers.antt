use Rattle.std.proofs.Common.{◌∙◌, ap, inr, refl, true, false, [], ◌∷◌}
use Rattle.std.proofs.lemmas.Result.{err_from_is_err_and}
use Rattle.outside_kit.specs.declared.port.Port.{Port}
use Rattle.outside_kit.specs.Calls as call
use Rattle.connection_table.specs.ManyLines.{line_at}
use Rattle.connection_table.proofs.CallsMade.{none_made, one_failed, one_told}
use Rattle.connection_table.proofs.listed_run.put_line.Goals as goal

pub returns-in_err-line-clause-calls_cut : goal.returns-in_err-line-clause-calls_cut
returns-in_err-line-clause-calls_cut g c =
    let p = err_from_is_err_and c.from_residual.result c.from_residual.ensures.1 in
    rw (p.1, p.2) (none_made (call.Put Port.Log (line_at c.args.connection c.args.table.now) ∷ []) (g.O.Outside.told c.args.outside.now).calls)

pub returns-in-Ok-clause-calls : goal.returns-in-Ok-clause-calls
returns-in-Ok-clause-calls g c =
    one_told (call.Put Port.Log c.as_bytes.result.now) (call.Put Port.Log (line_at c.args.connection c.args.table.now)) _ true _ _ c.in-Ok.ensures.recorded
    (ap (λ piece. call.Put Port.Log piece) (c.as_bytes.ensures.value ∙ c.in_ok-line.ensures)) refl

pub returns-in-Err-Failed-clause-calls_cut : goal.returns-in-Err-Failed-clause-calls_cut
returns-in-Err-Failed-clause-calls_cut g c =
    one_failed (call.Put Port.Log (line_at c.args.connection c.args.table.now)) _ _
    (one_told (call.Put Port.Log c.as_bytes.result.now) (call.Put Port.Log (line_at c.args.connection c.args.table.now)) _ false _ _ c.in-Err-Failed.ensures.recorded
    (ap (λ piece. call.Put Port.Log piece) (c.as_bytes.ensures.value ∙ c.in_ok-line.ensures)) refl)

pub returns-clause-calls_cut : goal.returns-clause-calls_cut
returns-clause-calls_cut g c =
    inr (one_failed (call.Put Port.Log (line_at c.args.connection c.args.table.now)) _ _
    (one_told (call.Put Port.Log c.as_bytes.result.now) (call.Put Port.Log (line_at c.args.connection c.args.table.now)) _ false _ _ c.in-Err-Memory.ensures.recorded
    (ap (λ piece. call.Put Port.Log piece) (c.as_bytes.ensures.value ∙ c.in_ok-line.ensures)) refl))
