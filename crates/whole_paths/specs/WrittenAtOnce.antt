-- An application writes a file at once that fits what its side buffers.
use Rattle.std.specs.Prelude.{ℕ, ◌≡◌, ◌≤◌, ◌⊎◌, List, length}
use Rattle.sides.specs.declared.side.Side.{Side}
use Rattle.actor_desk.specs.Words.{pick}
use Rattle.path_core.specs.Codec.{Codec}
use Rattle.world_laws.specs.Openings.{Start}
use Rattle.world_laws.specs.Promises.{NumbersFit, written_by}
use Rattle.world_laws.specs.RoundDone.{reached}
use Rattle.world_laws.specs.Worlds.{Turn}

-- at every moment nothing of it is written, or all
abbrev pub WhatFitsIsWrittenAtOnce : {C : Type 0} → Codec C → Type 0
WhatFitsIsWrittenAtOnce k = (start : Start) (turns : List Turn) (s : Side) → NumbersFit start → let file : List ℕ = pick s start.file_a start.file_b in
    length file ≤ start.buffer
    → (length (written_by s (reached k start turns)).written ≡ 0) ⊎ (length (written_by s (reached k start turns)).written ≡ length file)
