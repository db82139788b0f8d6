use Rattle.std.proofs.Common.{sym, ◌∙◌, nat_eq}
use Rattle.std.specs.HashMap.{get}
use Rattle.seen_connections.proofs.FirstTold.{none-is, stays, gets}
use Rattle.seen_connections.proofs.known_keys.keep_first.Goals as goal

pub returns-then-contains_key-clause-ok : goal.returns-then-contains_key-clause-ok
returns-then-contains_key-clause-ok c =
    stays (get nat_eq c.args.first.now) c.args.key (sym c.contains_key.ensures ∙ c.if-contains_key.true)

pub returns-clause-ok : goal.returns-clause-ok
returns-clause-ok c =
    gets (get nat_eq c.args.first.now) (get nat_eq c.insert.new.self) c.args.key
    (none-is (get nat_eq c.args.first.now c.args.key.token) (sym c.contains_key.ensures ∙ c.if-contains_key.false))
    c.in_ok-insert.ensures.updates.0
