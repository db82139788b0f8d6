-- As an end asks its reassembly book behind a copy what is to be acknowledged, it owes an acknowledgement (RFC 9293, section 3.10.7.4).
use Rattle.std.specs.Prelude.{◌≡◌, true, false, List, ◌∷◌}
use Rattle.sides.specs.declared.side.Side.{Side}
use Rattle.subflow_tcp.specs.States.{is_dead}
use Rattle.path_agenda.specs.declared.duty.Duty.{Duty}
use Rattle.path_agenda.specs.declared.duty.Duty.TheVariants as duties
use Rattle.path_agenda.specs.declared.duty.AskDuty.TheVariants as ask_duties
use Rattle.path_core.specs.State.{PathState, end_at}
use Rattle.path_core.specs.Values.{Carried, values}
use Rattle.world_laws.specs.Openings.{Start}
use Rattle.world_laws.specs.RoundDone.{reached}
use Rattle.world_laws.specs.Worlds.{Turn}
use Rattle.whole_paths.specs.Finish.{IsPathAt}
use Rattle.whole_paths.specs.Mild.{IsMildStart}

-- on path 0 of a mild connection, at a living end
abbrev pub WhoAsksOwes : Type 0
WhoAsksOwes = (start : Start) (turns : List Turn) → IsMildStart start → (p : PathState Carried) → IsPathAt 0 (reached values start turns) p → (t : Side)
    → is_dead (end_at t p).tcp.state ≡ false → (others : List Duty) → p.agenda ≡ duties.Ask (ask_duties.AckOut t) ∷ others → (end_at t p).tcp.due.ack ≡ true
