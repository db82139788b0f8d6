use Rattle.path_core.proofs.modes.Modes.answer_join.Goals as goal

pub returns : goal.returns
returns c = cc (c.unnumbered.ensures, c.answer_option-option.ensures, c.peer_key_of-peer.ensures, c.is_backup-backup.ensures, c.spelling.ensures.value)
