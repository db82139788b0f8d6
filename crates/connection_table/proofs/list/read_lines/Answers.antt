use Rattle.std.proofs.Common.{◌≡◌, ◌+◌, [], ◌∷◌, ◌++◌, ap, subst, sym, length, map, List, Vec, Global, arith}
use Rattle.std.proofs.lemmas.List.{length-append}
use Rattle.std.proofs.lemmas.Result.{err_from_is_err_and}
use Rattle.octet_text.specs.Lines.{text_lines}
use Rattle.connection_table.specs.declared.list.Listed.{Listed}
use Rattle.connection_table.specs.Lists.{as_names, read_on}
use Rattle.connection_table.proofs.ReadOn.{goes_on, stops, ends}
use Rattle.connection_table.proofs.list.read_lines.Goals as goal

pub returns-in_err-listed_at-clause-exact : goal.returns-in_err-listed_at-clause-exact
returns-in_err-listed_at-clause-exact c =
    let p = err_from_is_err_and c.from_residual.result c.from_residual.ensures.1 in
    rw (p.1, p.2) (stops (λ (v : Vec Listed Global). map as_names v.items) c.in_err-listed_at.field-0.0 c.loop-rest.number (map as_names c.loop-rest.connections.items)
    c.loop-rest.rest.now c.split_line.result.0.now c.split_line.result.1.now _ c.split_line.ensures.line c.in_err-listed_at.ensures.exact c.loop-rest.invariant.same)

pub loop-rest-preserved : goal.loop-rest-preserved
loop-rest-preserved c =
    let items : c.push.new.self.items ≡ c.loop-rest.connections.items ++ c.in_ok-listed_at.field-0 ∷ [] = c.in_ok-push.ensures.items in
    let few = c.in_ok-listed_at.ensures.few in
    record {
      count = omega (arith, ap length items, length-append c.loop-rest.connections.items (c.in_ok-listed_at.field-0 ∷ []));
      few = omega (arith, few);
      same = subst (λ (xs : List Listed). read_on (c.loop-rest.number + 1) (map as_names xs) (text_lines c.split_line.result.1.now) ≡ read_on 1 [] (text_lines c.args.list.now)) (sym items)
          (goes_on c.loop-rest.number c.loop-rest.connections.items c.in_ok-listed_at.field-0 c.loop-rest.rest.now c.split_line.result.0.now c.split_line.result.1.now _
          c.split_line.ensures.line c.in_ok-listed_at.ensures.exact c.loop-rest.invariant.same);
    }

pub returns-clause-exact : goal.returns-clause-exact
returns-clause-exact c =
    ends c.loop-rest.number (map as_names c.loop-rest.connections.items) c.loop-rest.rest.now _ (sym c.loop-rest-test.ensures) c.loop-rest.invariant.same
