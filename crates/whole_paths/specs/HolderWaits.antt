-- How long a path holds a byte: until its end's timer runs out, for a minute at most, unless there is news (RFC 6298, section 5).
use Rattle.std.specs.Prelude.{ℕ, ◌+◌, ◌≡◌, ◌<◌, ◌≤◌, true, false, List, [], slice_get}
use Rattle.sides.specs.declared.side.Side.{Side}
use Rattle.subflow_tcp.specs.States.{is_dead}
use Rattle.path_agenda.specs.Agenda.{expired}
use Rattle.path_core.specs.State.{PathState, end_at}
use Rattle.path_core.specs.Values.{Carried, values}
use Rattle.world_laws.specs.Openings.{Start}
use Rattle.world_laws.specs.Promises.{HasRoom, written_by}
use Rattle.world_laws.specs.RoundDone.{reached}
use Rattle.world_laws.specs.Worlds.{Turn, WorldState, after_turn}
use Rattle.whole_paths.specs.Finish.{IsPathAt}
use Rattle.whole_paths.specs.GivenBack.{given_back}
use Rattle.whole_paths.specs.Holders.{holds}
use Rattle.whole_paths.specs.Running.{IsRunning}
use Rattle.whole_paths.specs.Waits.{IsNews}

module _ {C : Type 0} where
  -- the path gives back by this tick what it holds: the timer of this side's end runs, or it ran out, and to give back comes next
  pub data LetsGo (s : Side) (by : ℕ) (p : PathState C) : Type 0 where
    runs : (tick : ℕ) → IsRunning tick (end_at s p) → tick ≤ by → LetsGo s by p
    gives : p.agenda ≡ expired s → p.clock ≤ by → LetsGo s by p

  -- the path of this number holds a byte of the side's stream, and gives it back by this tick
  pub record IsLent (s : Side) (number place by : ℕ) (w : WorldState C) : Type 0 where
    pub path : PathState C
    pub here : IsPathAt number w path
    pub held : holds number (slice_get (written_by s w).marks place) ≡ true
    pub back : LetsGo s by path

  -- from one moment to another one
  pub data LentGoesOn (s : Side) (number place by : ℕ) (w v : WorldState C) : Type 0 where
    on : IsLent s number place by v → LentGoesOn s number place by w v
    -- there is news at the end, or it dies
    news : (p q : PathState C) → IsPathAt number w p → IsPathAt number v q → IsNews (end_at s p) (end_at s q) → LentGoesOn s number place by w v
    dies : (p q : PathState C) → IsPathAt number w p → IsPathAt number v q → is_dead (end_at s p).tcp.state ≡ false → is_dead (end_at s q).tcp.state ≡ true
        → LentGoesOn s number place by w v
    -- the byte is acknowledged, or given back
    returned : given_back number (written_by s w).marks < given_back number (written_by s v).marks → LentGoesOn s number place by w v

-- Where a path's turn is over, each byte that it holds comes back within a minute; so it is by each turn; and where the turn is over the round
-- ends by that tick.
pub record HoldersLetGo : Type 0 where
  pub begins : (start : Start) (turns : List Turn) → HasRoom start → let w = reached values start turns in (s : Side) (number place : ℕ) (p : PathState Carried) → IsPathAt number w p
      → p.agenda ≡ [] → holds number (slice_get (written_by s w).marks place) ≡ true → IsLent s number place (p.clock + 60000) w
  pub goes_on : (start : Start) (turns : List Turn) (turn : Turn) → HasRoom start → let w = reached values start turns in (s : Side) (number place by : ℕ)
      → IsLent s number place by w → LentGoesOn s number place by w (after_turn values turn w)
  pub due : (start : Start) (turns : List Turn) → let w = reached values start turns in (s : Side) (number place by : ℕ) (h : IsLent s number place by w)
      → h.path.agenda ≡ [] → h.path.until ≤ by
