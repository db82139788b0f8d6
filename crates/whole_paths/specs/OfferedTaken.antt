-- An end tells no more than its side's reassembly book takes (RFC 9293, section 3.8.6; RFC 8684, section 3.3.5).
use Rattle.std.specs.Prelude.{suc, ◌≡◌, ◌≤◌, false, List}
use Rattle.sides.specs.declared.side.Side.{Side}
use Rattle.reassembly_book.specs.Steps as arriving
use Rattle.subflow_tcp.specs.States.{is_dead}
use Rattle.actor_desk.specs.Books.{books_in}
use Rattle.actor_desk.specs.Desk.{SixBooks, reassembly_of}
use Rattle.path_core.specs.State.{PathState, end_at}
use Rattle.path_core.specs.Values.{Carried, values}
use Rattle.world_laws.specs.Openings.{Start}
use Rattle.world_laws.specs.RoundDone.{reached}
use Rattle.world_laws.specs.Worlds.{Turn}
use Rattle.whole_paths.specs.Finish.{IsPathAt}
use Rattle.whole_paths.specs.Mild.{IsMildStart}
use Rattle.whole_paths.specs.ToldEdges.{offer, told}

-- The end of this side knows of no more than the side's book takes, but for the DATA_FIN; and it told no more, unless it is dead.
pub record TellsWhatIsTaken (six : SixBooks) (s : Side) (p : PathState Carried) : Type 0 where
  pub offered : offer (end_at s p) ≤ suc (arriving.edge (reassembly_of s six))
  pub told_so : is_dead (end_at s p).tcp.state ≡ false → told (end_at s p) ≤ suc (arriving.edge (reassembly_of s six))
  -- nor more than it knows of
  pub known : is_dead (end_at s p).tcp.state ≡ false → told (end_at s p) ≤ suc (offer (end_at s p))

-- so it is on path 0 of a mild connection, always
abbrev pub WhatIsToldIsTaken : Type 0
WhatIsToldIsTaken = (start : Start) (turns : List Turn) → IsMildStart start → (p : PathState Carried) → IsPathAt 0 (reached values start turns) p → (s : Side)
    → TellsWhatIsTaken (books_in (reached values start turns).books) s p
