use Rattle.path_core.proofs.Words.{◌≡◌, ◌++◌, flat_map, heard_left, items_in, held_in}
use Rattle.path_core.proofs.options_in.read_options.Given as goal

abbrev pub invariant-loop-option : goal.invariant-loop-option
invariant-loop-option l = record {
  items :
      l.items.items ++ flat_map (items_in l.joined l.side l.heard.window) (heard_left l.option-iterator)
      ≡ flat_map (items_in l.joined l.side l.heard.window) (heard_left l.heard.options);
  told :
      l.told.items ++ flat_map (held_in l.profile l.side) (heard_left l.option-iterator)
      ≡ flat_map (held_in l.profile l.side) (heard_left l.heard.options);
}
