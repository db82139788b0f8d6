use Rattle.ruled_desk.proofs.Words.{◌∙◌, ap, is_out}
use Rattle.ruled_desk.proofs.Outs.{all_left}
use Rattle.ruled_desk.proofs.desk.RuledDesk.close.Goals as goal

pub close_seats-requires-clause-parts : goal.close_seats-requires-clause-parts
close_seats-requires-clause-parts c =
    all_left c.root.inside.out c.root.inside.seats (λ actor. ap (λ r. is_out r.out actor) c.root.view_is ∙ c.requires.home actor) c.root.invariant
