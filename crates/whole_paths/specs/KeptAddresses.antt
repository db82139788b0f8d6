-- Where no line of the script lets path 0 die or takes its address back: no side counts that address as removed, and an end of path 0 dies of expiries
-- alone.
use Rattle.std.specs.Prelude.{ℕ, ◌≡◌, ◌≤◌, ◌==◌, nat_lt, not, Bool, true, false, List}
use Rattle.std.specs.List.{list_all}
use Rattle.sides.specs.declared.side.Side.{Side}
use Rattle.link_script.specs.declared.script.ScriptLine.{ScriptLine}
use Rattle.link_script.specs.declared.script.ScriptLine.TheVariants.{Die, Remove}
use Rattle.subflow_tcp.specs.States.{is_dead}
use Rattle.path_core.specs.State.{PathState, end_at}
use Rattle.path_core.specs.Values.{Carried, values}
use Rattle.world_laws.specs.Openings.{Start}
use Rattle.world_laws.specs.RoundDone.{reached}
use Rattle.world_laws.specs.Worlds.{Turn, after_turn}
use Rattle.whole_paths.specs.Expiries.{RunsOut}
use Rattle.whole_paths.specs.ExpiriesInARow.{in_a_row}
use Rattle.whole_paths.specs.Finish.{IsPathAt}
use Rattle.whole_paths.specs.Mild.{IsMildStart}
use Rattle.whole_paths.specs.MildDeaths.{IsTakenBack}

-- the line lets path 0 live, and takes back no address of it, whose id is 0: its ends would be reset then (RFC 8684, section 3.4.2)
abbrev pub spares_first : ScriptLine → Bool
spares_first (Die path tick) = not (path == 0)
spares_first (Remove side id tick) = nat_lt 0 id
spares_first _ = true

-- no side ever counts it as removed
abbrev pub FirstAddressesStay : Type 0
FirstAddressesStay = (start : Start) (turns : List Turn) → list_all spares_first start.lines ≡ true → (s : Side) → IsTakenBack 0 s (reached values start turns).books → ⊥

-- what comes next is that the timer of this side's end runs out, for the sixth time in a row at least
pub record IsSixth {C : Type 0} (s : Side) (p : PathState C) : Type 0 where
  pub tick : ℕ
  pub out : RunsOut s tick p
  pub many : 5 ≤ in_a_row (end_at s p)

-- by any turn by which an end of path 0 dies of such a mild connection, both of which live before
abbrev pub HarmlessEndsDieOfExpiries : Type 0
HarmlessEndsDieOfExpiries = (start : Start) (turns : List Turn) (turn : Turn) → IsMildStart start → list_all spares_first start.lines ≡ true → let w = reached values start turns in (p q : PathState Carried)
    → IsPathAt 0 w p → IsPathAt 0 (after_turn values turn w) q → ((s : Side) → is_dead (end_at s p).tcp.state ≡ false)
    → (s : Side) → is_dead (end_at s q).tcp.state ≡ true → IsSixth s p
