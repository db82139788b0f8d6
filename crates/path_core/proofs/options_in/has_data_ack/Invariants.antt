use Rattle.path_core.proofs.Words.{◌≡◌, list_any, heard_left, has_data_ack}
use Rattle.path_core.proofs.options_in.has_data_ack.Given as goal

abbrev pub invariant-loop-option : goal.invariant-loop-option
invariant-loop-option l = list_any has_data_ack (heard_left l.option-iterator) ≡ list_any has_data_ack (heard_left l.heard.options)
