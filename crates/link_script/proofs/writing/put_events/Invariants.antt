use Rattle.std.proofs.Common.{◌≡◌, ◌++◌, drop, string_bytes}
use Rattle.std.specs.List.{flat_map}
use Rattle.link_script.specs.Writing.{ended, event_lines}
use Rattle.link_script.proofs.writing.put_events.Given as goal

abbrev pub invariant-loop-event : goal.invariant-loop-event
invariant-loop-event l = string_bytes l.text ++ flat_map ended (event_lines (drop l.event-index l.events)) ≡ string_bytes l.fn.text ++ flat_map ended (event_lines l.events)
