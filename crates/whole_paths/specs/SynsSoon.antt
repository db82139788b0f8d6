-- A SYN that is sent is harmed, or awaited within 400 ticks.
use Rattle.std.specs.Prelude.{◌+◌, ◌-◌, ◌^◌, ◌≡◌, ◌<◌, ◌⊎◌, true, false, List, [], ◌∷◌, ◌++◌}
use Rattle.sides.specs.declared.side.Side.{Side}
use Rattle.link_model.specs.Steps.{segments_sent}
use Rattle.path_core.specs.Looking.{first_sends, segment_sent}
use Rattle.path_core.specs.State.{PathState}
use Rattle.path_core.specs.Values.{Carried, values}
use Rattle.world_laws.specs.Openings.{Start}
use Rattle.world_laws.specs.RoundDone.{reached}
use Rattle.world_laws.specs.Worlds.{Turn}
use Rattle.whole_paths.specs.Finish.{IsPathAt, is_harmed}
use Rattle.whole_paths.specs.Mild.{IsMildStart}
use Rattle.whole_paths.specs.RecordsGo.{IsOneSo}
use Rattle.whole_paths.specs.Syns.{IsSynAwaited, IsToOpen}

-- the segment that goes next is a SYN of this side
abbrev pub GoesASyn : Side → PathState Carried → Type 0
GoesASyn s p = IsOneSo (first_sends p.agenda p) (λ t. (t.from ≡ s) × ((segment_sent p t).syn ≡ true) × ((segment_sent p t).rst ≡ false))

-- As the path becomes another one, and its link takes it, while the end opens: it is harmed, or comes within 400 ticks, twice the longest delay.
abbrev pub SynsComeSoon : PathState Carried → PathState Carried → Type 0
SynsComeSoon p q = (s : Side) → IsToOpen s p → IsToOpen s q → GoesASyn s p → segments_sent s p.link < segments_sent s q.link → segments_sent s p.link < 2 ^ 64 - 1
    → (is_harmed s p q ≡ true) ⊎ IsSynAwaited s (p.clock + 400) q

-- on path 0, by each turn of a mild connection
abbrev pub EachSynComesSoon : Type 0
EachSynComesSoon = (start : Start) (turns : List Turn) (turn : Turn) → IsMildStart start → (p q : PathState Carried) → IsPathAt 0 (reached values start turns) p
    → IsPathAt 0 (reached values start (turns ++ turn ∷ [])) q → SynsComeSoon p q
