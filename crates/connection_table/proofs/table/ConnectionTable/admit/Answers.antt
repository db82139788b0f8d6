use Rattle.std.proofs.Common.{sym, ◌∙◌, ap, subst, ℕ, [], ◌∷◌, ◌++◌, arith}
use Rattle.std.specs.Prelude.{Err}
use Rattle.std.proofs.lemmas.Result.{err_from_is_err_and}
use Rattle.connection_table.specs.Tables.{Entry, IsTable, holder_of, key_token, opened_entry}
use Rattle.connection_table.proofs.Holders.{table_admits, wants_memory}
use Rattle.connection_table.proofs.table.ConnectionTable.admit.Goals as goal

pub invariant_of-self : goal.invariant_of-self
invariant_of-self c = subst IsTable (sym c.in_err-push.ensures.items) c.self.invariant

pub returns-in_err-push-clause-same : goal.returns-in_err-push-clause-same
returns-in_err-push-clause-same c = λ holder.
    let p = err_from_is_err_and c.from_residual-in_err-push.result c.from_residual-in_err-push.ensures.1 in
    wants_memory c.from_residual-in_err-push.result (key_token c.args.input.now.script) holder c.args.self.now (p.1 ∙ ap Err p.2)
    (ap (λ (token : ℕ). holder_of token c.args.self.now) (sym c.token_of.ensures) ∙ sym c.in_default.ensures)

pub invariant_of-self-2 : goal.invariant_of-self-2
invariant_of-self-2 c =
    let items = c.self.inside.slots.items in
    subst IsTable (sym c.in_ok-push.ensures.items)
    (subst (λ (e : Entry). IsTable (items ++ e ∷ [])) (sym c.in_ok-slot.ensures)
    (table_admits items (opened_entry c.args.input.now) c.self.invariant
    (omega (arith, c.if-len-eq-MOST_CONNECTIONS.false, c.len.ensures, c.self.invariant.few))
    (ap (holder_of (key_token c.args.input.now.script)) c.self.view_is
    ∙ (ap (λ (token : ℕ). holder_of token c.args.self.now) (sym c.token_of.ensures) ∙ sym c.in_default.ensures))))
