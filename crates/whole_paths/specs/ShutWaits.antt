-- A window that is shut as a round is over opens in time, or something is counted (RFC 9293, section 3.8.6.1).
use Rattle.std.specs.Prelude.{ℕ, ◌≡◌, ◌≤◌, [], ◌∷◌}
use Rattle.world_laws.specs.Openings.{PathPlan, Start}
use Rattle.whole_paths.specs.Halted.{IsHalted}
use Rattle.whole_paths.specs.Mild.{IsMildStart}
use Rattle.whole_paths.specs.WholeCourses.{ShutWindowsOpen}
use Rattle.whole_paths.specs.WindowWaits.{AwaitsAWindow}

-- in each mild connection over one path, with buffers of 32 bytes at least
abbrev pub ShutWindowsOpenInTime : Type 0
ShutWindowsOpenInTime = (start : Start) (plan : PathPlan) (most : ℕ) → start.paths ≡ plan ∷ [] → IsMildStart start → 32 ≤ start.buffer
    → ShutWindowsOpen start most 60800 (λ n x turns. AwaitsAWindow IsHalted start x turns)
