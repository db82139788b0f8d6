use Rattle.std.proofs.Common.{◌≡◌, ◌≢◌, ◌≤◌, ◌++◌, length}
use Rattle.outside_kit.specs.declared.port.Port.{Port}
use Rattle.outside_kit.specs.Outside.{HoldsAfter}
use Rattle.run_outside.specs.Plan.{AddsAll}
use Rattle.connection_table.proofs.CallsMade.{puts_upto}
use Rattle.connection_table.proofs.LinesPut.{lines_upto}
use Rattle.connection_table.proofs.listed_run.put_lines.Given as goal

-- the lines of the first connections were put
abbrev pub invariant-loop-connection : goal.invariant-loop-connection
invariant-loop-connection g l = record {
  within : l.connection ≤ length l.table;
  held : HoldsAfter ((g.O.Outside.told l.initial.outside).holds Port.Log) ((g.O.Outside.told l.outside).holds Port.Log) (λ text. text ++ lines_upto 0 l.connection l.table);
  calls : AddsAll (puts_upto 0 l.connection l.table) (g.O.Outside.told l.initial.outside).calls (g.O.Outside.told l.outside).calls;
  counted : (g.O.Outside.told l.initial.outside).port_faults Port.Log ≤ (g.O.Outside.told l.outside).port_faults Port.Log;
  loads : (g.O.Outside.told l.outside).load_faults ≡ (g.O.Outside.told l.initial.outside).load_faults;
  other_counts : (other : Port) → other ≢ Port.Log → (g.O.Outside.told l.outside).port_faults other ≡ (g.O.Outside.told l.initial.outside).port_faults other;
  other_ports : (other : Port) → other ≢ Port.Log → (g.O.Outside.told l.outside).holds other ≡ (g.O.Outside.told l.initial.outside).holds other;
}
