-- How much a path gave back of what it was granted: a number that never falls, and rises as a path gives back bytes that it holds.
use Rattle.std.specs.Prelude.{ℕ, zero, suc, ◌+◌, ◌≡◌, ◌<◌, ◌≤◌, ◌⊎◌, true, false, Some, List, ◌∷◌, length, count_by, slice_get}
use Rattle.sides.specs.declared.side.Side.{Side}
use Rattle.send_book.specs.declared.mark.ByteMark.{ByteMark}
use Rattle.actor_desk.specs.Words.{pick}
use Rattle.path_agenda.specs.declared.duty.Duty.{Duty}
use Rattle.path_agenda.specs.declared.duty.Duty.TheVariants as duties
use Rattle.path_agenda.specs.declared.duty.AskDuty.TheVariants as ask_duties
use Rattle.path_core.specs.Codec.{Codec}
use Rattle.path_core.specs.State.{PathState}
use Rattle.path_core.specs.Values.{values}
use Rattle.world_laws.specs.Openings.{Start}
use Rattle.world_laws.specs.Promises.{HasRoom, written_by}
use Rattle.world_laws.specs.RoundDone.{reached}
use Rattle.world_laws.specs.Worlds.{Turn, WorldState, after_turn, world_run}
use Rattle.whole_paths.specs.Finish.{IsPathAt}
use Rattle.whole_paths.specs.Holders.{holds, let_go}

-- how many bytes are acknowledged, or were tried by the path and are held by it no longer
abbrev pub given_back : ℕ → List ByteMark → ℕ
given_back path marks = count_by (λ mark. let_go path (Some mark)) marks

-- that number of each of the first paths, summed up
abbrev pub all_given_back : ℕ → List ByteMark → ℕ
all_given_back zero marks = 0
all_given_back (suc path) marks = given_back path marks + all_given_back path marks

-- by the duty the path of this side's end gives back what it holds: its timer ran out, it is dead, or its side noted that it leaves
pub data IsReturn (s : Side) : Duty → Type 0 where
  expires : IsReturn s (duties.Ask (ask_duties.Return s))
  leaves : IsReturn s (duties.Ask (ask_duties.Leave s))
  notes : IsReturn s (duties.Ask (ask_duties.LeaveNoted s))

module _ {C : Type 0} where
  -- from one moment to another one: the path holds nothing of the side's stream, and where it held something, it gave back more
  pub record GivesBack (s : Side) (path : ℕ) (w v : WorldState C) : Type 0 where
    pub none : (place : ℕ) → holds path (slice_get (written_by s v).marks place) ≡ false
    pub more : (place : ℕ) → holds path (slice_get (written_by s w).marks place) ≡ true
        → given_back path (written_by s w).marks < given_back path (written_by s v).marks

  module _ (k : Codec C) where
    -- by no turns it falls
    abbrev pub GivenBackNeverFalls : Type 0
    GivenBackNeverFalls = (start : Start) (before more : List Turn) → let w = reached k start before in (s : Side) (path : ℕ)
        → given_back path (written_by s w).marks ≤ given_back path (written_by s (world_run k more w)).marks

    -- by any turn a path with such a duty ahead stays as it is, or gives back
    abbrev pub EachReturnCounts : Type 0
    EachReturnCounts = (start : Start) (turns : List Turn) (turn : Turn) → let w = reached k start turns in let v = after_turn k turn w in
        (number : ℕ) (p : PathState C) → IsPathAt number w p → (s : Side) (d : Duty) (ds : List Duty) → p.agenda ≡ d ∷ ds → IsReturn s d
        → (q : PathState C) × IsPathAt number v q × ((q ≡ p) ⊎ GivesBack s number w v)

-- it is no more than what the side's file has
abbrev pub GivenBackIsBounded : Type 0
GivenBackIsBounded = (start : Start) (turns : List Turn) → HasRoom start → (s : Side) (path : ℕ)
    → given_back path (written_by s (reached values start turns)).marks ≤ length (pick s start.file_a start.file_b)
