-- What becomes of the windows that an end is told: each counts, once the end has treated what the copy says before (RFC 8684, section
-- 3.3.5).
use Rattle.std.specs.Prelude.{ℕ, ◌+◌, ◌≡◌, ◌≤◌, ◌⊎◌, true, Some, IsSome, List}
use Rattle.sides.specs.declared.side.Side.{Side}
use Rattle.subflow_tcp.specs.States.{is_dead}
use Rattle.actor_desk.specs.declared.ask.Note.{Note}
use Rattle.actor_desk.specs.Desk.{SixBooks, send_of}
use Rattle.path_agenda.specs.declared.heard.Heard.TheVariants as says
use Rattle.path_core.specs.Choices.{item_at}
use Rattle.path_core.specs.Codec.{Codec}
use Rattle.path_core.specs.MpJoin.{is_joined}
use Rattle.path_core.specs.OptionsIn.{items_of, options_heard}
use Rattle.path_core.specs.State.{PathState, end_at}
use Rattle.world_laws.specs.Outcomes.{was_told}
use Rattle.world_laws.specs.Promises.{tells_refusal}
use Rattle.whole_paths.specs.Between.{EachPathBetween}
use Rattle.whole_paths.specs.Brought.{Brings, IsToReset}
use Rattle.whole_paths.specs.DataAcksHeard.{IsToHear}

module _ {C : Type 0} where
  -- ---- a window that came

  -- The side may send up to this place, which its send book knows; or a copy says so that the end treats, and it is heard in its turn. The
  -- window begins at the place of the Data ACK.
  pub data IsOpenTo (six : SixBooks) (s : Side) (at : ℕ) (p : PathState C) : Type 0 where
    counts : at ≤ (send_of s six).edge → IsOpenTo six s at p
    told : (next window : ℕ) → at ≤ next + window → IsToHear s (says.DataAck next window) (end_at s p).treated.items p.agenda → IsOpenTo six s at p

  -- what becomes of it, as the path becomes another one, its steps are these, and the books are so
  pub data StaysOpenTo (after : SixBooks) (s : Side) (at : ℕ) (steps : List Note) (q : PathState C) : Type 0 where
    on : IsOpenTo after s at q → StaysOpenTo after s at steps q
    -- the end is dead, or reset next
    gone : is_dead (end_at s q).tcp.state ≡ true → StaysOpenTo after s at steps q
    reset : IsToReset s q.agenda → StaysOpenTo after s at steps q
    -- the side fell back to plain TCP, or sends by an infinite mapping
    plain : (end_at s q).modes.identity ≡ true → StaysOpenTo after s at steps q
    infinite : IsSome (end_at s q).modes.own_infinite → StaysOpenTo after s at steps q
    -- the send book refused the Data ACK, since so much was never written
    refused : was_told tells_refusal steps ≡ true → StaysOpenTo after s at steps q

  -- ---- of any path, as it becomes another one

  pub record HearsWindows (k : Codec C) (six after : SixBooks) (steps : List Note) (p q : PathState C) : Type 0 where
    -- each that a taken copy tells is heard, unless the path stays as it is
    pub tells : (b : Brings k p) (index next window at : ℕ) → at ≤ next + window
        → item_at index (items_of (is_joined p.profile) b.copy.due.to (options_heard (end_at b.copy.due.to p) b.copy.segment)) ≡ Some (says.DataAck next window)
        → (q ≡ p) ⊎ StaysOpenTo after b.copy.due.to at steps q
    -- each stays so
    pub stays : (s : Side) (at : ℕ) → IsOpenTo six s at p → StaysOpenTo after s at steps q

  -- by any turn
  abbrev pub EachWindowCounts : Codec C → Type 0
  EachWindowCounts k = EachPathBetween k (HearsWindows k)
