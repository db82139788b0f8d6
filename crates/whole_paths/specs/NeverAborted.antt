-- In a mild connection no side is stopped by a fast close (RFC 8684, section 3.5).
use Rattle.std.specs.Prelude.{◌≡◌, false, List}
use Rattle.sides.specs.declared.side.Side.{Side}
use Rattle.control_book.specs.Replies.{is_aborted}
use Rattle.path_core.specs.Values.{values}
use Rattle.world_laws.specs.ModesSoFar.{was_ever}
use Rattle.world_laws.specs.Openings.{Start}
use Rattle.world_laws.specs.RoundDone.{reached}
use Rattle.world_laws.specs.Worlds.{Turn}
use Rattle.whole_paths.specs.Mild.{IsMildStart}

-- no control book is or was aborted
abbrev pub NoSideIsStopped : Type 0
NoSideIsStopped = (start : Start) (turns : List Turn) → IsMildStart start → (s : Side) → was_ever is_aborted s (reached values start turns) ≡ false
