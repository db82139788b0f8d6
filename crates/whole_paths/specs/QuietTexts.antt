-- Where no line of the script moves one of A's first eight segments, none with octets comes to B's end before that may send a DSS: these come in the
-- order in which they were sent, and no later one comes before. Six of them at most are SYNs, as A's timer runs out five times at most; then the
-- first one goes that acknowledges B's SYN, and shows both keys (RFC 8684, section 3.1).
use Rattle.std.specs.Prelude.{ℕ, ◌-◌, ◌^◌, ◌≡◌, ◌<◌, ◌≤◌, nat_le, Bool, ◌&&◌, not, true, List, length}
use Rattle.std.specs.List.{list_all}
use Rattle.sides.specs.declared.side.Side.TheVariants.{A}
use Rattle.link_script.specs.declared.script.ScriptLine.{ScriptLine}
use Rattle.link_script.specs.declared.script.ScriptLine.TheVariants.{OnSegment}
use Rattle.link_model.specs.Laws.{moves}
use Rattle.path_core.specs.Values.{values}
use Rattle.world_laws.specs.Openings.{PathPlan, Start}
use Rattle.world_laws.specs.RoundDone.{reached}
use Rattle.world_laws.specs.Worlds.{Turn}
use Rattle.whole_paths.specs.Finish.{AnEndDied}
use Rattle.whole_paths.specs.OnePathScripts.{BeginsWithOnePath}
use Rattle.whole_paths.specs.QuietOpenings.{lost_early}

-- by none of these lines a segment of A's is lost, late or repeated, or waits
abbrev pub MovesNoneOfA : List ScriptLine → Type 0
MovesNoneOfA lines = list_all (λ line. not (moves A line)) lines ≡ true

-- the line speaks of one of the first so many segments of a side, or of a whole direction
abbrev pub is_first : ℕ → ScriptLine → Bool
is_first most (OnSegment segment happens) = nat_le segment.number most
is_first most line = true

-- by none of these lines one of the first so many segments of A's is lost, late or repeated, and none waits
abbrev pub MovesNoneOfFirst : ℕ → List ScriptLine → Type 0
MovesNoneOfFirst most lines = list_all (λ line. not (moves A line && is_first most line)) lines ≡ true

-- none of A's records is lost so in fewer than 2^64 - 1 turns, as long as no end is dead
abbrev pub NothingComesEarlyByText : Type 0
NothingComesEarlyByText = (start : Start) (plan : PathPlan) (turns : List Turn) → BeginsWithOnePath start plan → plan.delay ≤ 400
    → MovesNoneOfFirst 8 start.lines → length turns < 2 ^ 64 - 1 → (AnEndDied 0 (reached values start turns) → ⊥) → lost_early start turns ≡ 0
