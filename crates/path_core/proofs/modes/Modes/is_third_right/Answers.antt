use Rattle.path_core.proofs.Words.{◌≡◌, sym, ◌∙◌}
use Rattle.path_core.proofs.Thirds.{step_is_right}
use Rattle.path_core.proofs.modes.Modes.is_third_right.Goals as goal

pub returns-in-Some : goal.returns-in-Some
returns-in-Some c =
    c.is_ok.ensures.value ∙ step_is_right c.args.items.now c.args.self.now c.in-Some.form (sym c.join_heard.ensures ∙ c.in-Some.is)
    c.peer_key_of-peer.result c.peer_key_of-peer.ensures c.server_third.result c.server_third.ensures.right
