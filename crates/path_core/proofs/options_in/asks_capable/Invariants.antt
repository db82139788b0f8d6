use Rattle.path_core.proofs.Words.{◌≡◌, list_any, heard_left, asks_capable}
use Rattle.path_core.proofs.options_in.asks_capable.Given as goal

abbrev pub invariant-loop-option : goal.invariant-loop-option
invariant-loop-option l = list_any asks_capable (heard_left l.option-iterator) ≡ list_any asks_capable (heard_left l.heard.options)
