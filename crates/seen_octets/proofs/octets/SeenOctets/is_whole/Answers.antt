use Rattle.std.proofs.Common.{◌∙◌, ap, ◌-◌}
use Rattle.seen_octets.specs.Octets.{Kept, all_held, octet_at}
use Rattle.seen_octets.proofs.Kept.{whole_by}
use Rattle.seen_octets.proofs.octets.SeenOctets.is_whole.Goals as goal

pub returns : goal.returns
returns c =
    let kept : Kept = record { octets = c.self.inside.octets.items; runs = c.self.inside.runs } in
    whole_by kept c.args.from c.args.to c.first_gap.result c.is_none.result c.first_gap.ensures.some c.first_gap.ensures.none c.is_none.ensures
    ∙ ap (λ (k : Kept). all_held (octet_at k) c.args.from (c.args.to - c.args.from)) c.self.view_is
