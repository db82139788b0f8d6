use Rattle.std.proofs.Common.{◌≡◌, drop, max}
use Rattle.link_trace.specs.Windows.{top_window}
use Rattle.link_trace.proofs.windows.top_window.Given as goal

abbrev pub invariant-loop-window : goal.invariant-loop-window
invariant-loop-window l = max l.top (top_window (drop l.window-index l.windows)) ≡ top_window l.windows
