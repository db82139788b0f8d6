-- A path stands by only for another one that lives and is no backup (RFC 8684, section 3.3.8).
use Rattle.std.specs.Prelude.{ℕ, ◌≡◌, true, false, slice_index_or}
use Rattle.sides.specs.declared.side.Side.{Side}
use Rattle.control_book.specs.Control.{Control}
use Rattle.control_book.specs.Registry.{lives, standby}
use Rattle.actor_desk.specs.Books.{books_in}
use Rattle.actor_desk.specs.Desk.{control_of}
use Rattle.path_core.specs.State.{PathState}
use Rattle.world_laws.specs.Worlds.{WorldState}
use Rattle.whole_paths.specs.Finish.{IsPathAt}
use Rattle.whole_paths.specs.LivingPaths.{MayLive}

module _ {C : Type 0} where
  -- the control book of this side
  abbrev pub control_in : Side → WorldState C → Control
  control_in s w = control_of s (books_in w.books)

  -- Another path than this one lives by the book of this side, and is no backup: its end is past the handshake, and lives, or its side is told next that
  -- it doesn't.
  pub record IsServedBeside (s : Side) (number : ℕ) (w : WorldState C) : Type 0 where
    pub other : ℕ
    pub apart : other ≡ number → ⊥
    pub lives_so : lives (control_in s w).paths other ≡ true
    pub regular : slice_index_or (control_in s w).addresses.backups other false ≡ false
    pub path : PathState C
    pub here : IsPathAt other w path
    pub living : MayLive s path

  -- where the book of this side tells a path that it stands by, this is for such a one
  pub record StandbyIsForAnother (w : WorldState C) : Type 0 where
    pub each : (s : Side) (number : ℕ) → standby (control_in s w).paths (control_in s w).addresses.backups number ≡ true → IsServedBeside s number w
