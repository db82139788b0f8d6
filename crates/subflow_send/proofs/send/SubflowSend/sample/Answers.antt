use Rattle.std.proofs.Common.{Option, sym, ap, arith}
use Rattle.std.specs.Option.{option_and_then}
use Rattle.subflow_send.specs.Records.{Record}
use Rattle.subflow_send.specs.Rules.{only_sending}
use Rattle.subflow_send.proofs.Covering.{nothing_covered}
use Rattle.subflow_send.proofs.send.SubflowSend.sample.Goals as goal

pub returns-then-pos-una : goal.returns-then-pos-una
returns-then-pos-una c =
    sym (ap (λ (o : Option Record). option_and_then only_sending o)
    (nothing_covered c.args.self.now.records c.args.self.now.una c.args.self.now.nxt c.args.pos c.una.ensures.tile (omega (arith, c.una.ensures.value))))
