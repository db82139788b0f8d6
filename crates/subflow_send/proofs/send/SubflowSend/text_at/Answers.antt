use Rattle.std.proofs.Common.{◌-◌, ◌∙◌, sym, ap}
use Rattle.std.specs.Option.{option_map}
use Rattle.subflow_send.specs.Rules.{octets_of}
use Rattle.subflow_send.proofs.AtPosition.{pieces_rise, piece_of_all}
use Rattle.subflow_send.proofs.send.SubflowSend.text_at.Goals as goal

pub text_at-requires : goal.text_at-requires
text_at-requires c = pieces_rise c.self.inside.syn c.self.inside.pieces c.self.inside.fin c.self.inside.una c.self.inside.nxt (c.self.inside.nxt - 1) c.self.invariant.tile

pub returns : goal.returns
returns c =
    rw (← c.self.view_is)
    (c.text_at.ensures ∙ ap (option_map octets_of) (sym (piece_of_all c.args.pos (c.self.inside.nxt - 1) c.self.inside.syn c.self.inside.pieces c.self.inside.fin)))
