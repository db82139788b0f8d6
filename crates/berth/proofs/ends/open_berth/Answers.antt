use Rattle.std.proofs.Common.{rules}
use Rattle.berth.proofs.Keeping.{begins, parts}
use Rattle.berth.proofs.ends.open_berth.Goals as goal

pub vacant-requires : goal.vacant-requires
vacant-requires g c = begins g.D.Deed.may g.D.Deed.does

pub split_seat-works-requires : goal.split_seat-works-requires
split_seat-works-requires g c = (search rules, search rules, parts g.D.Deed.may g.D.Deed.does _ _ (search rules))
