-- A path stands by only where it told a side that it is a backup (RFC 8684, section 3.3.8).
use Rattle.std.specs.Prelude.{ℕ, ◌+◌, ◌≡◌, Bool, false, Some, List, ◌++◌, slice_get}
use Rattle.std.specs.List.{list_any}
use Rattle.control_book.specs.declared.call.ControlCall.TheVariants as control_calls
use Rattle.actor_desk.specs.declared.ask.Ask.{Ask}
use Rattle.actor_desk.specs.declared.ask.Ask.TheVariants as asks
use Rattle.actor_desk.specs.declared.ask.Note.{Note}
use Rattle.path_core.specs.Codec.{Codec}
use Rattle.world_laws.specs.Actors.{ActorCrew}
use Rattle.world_laws.specs.Openings.{Start}
use Rattle.world_laws.specs.RoundDone.{reached}
use Rattle.world_laws.specs.Worlds.{Turn, WorldState}
use Rattle.whole_paths.specs.Serving.{ServesAt}

-- a side is told that the path which asks is a backup: as it lives, or by a priority that came
abbrev pub tells_backup : Ask → Bool
tells_backup (asks.Control s (control_calls.Live path backup)) = backup
tells_backup (asks.Control s (control_calls.Backup path on)) = on
tells_backup _ = false

abbrev pub noted_backup : Note → Bool
noted_backup note = tells_backup note.ask

module _ {C : Type 0} where
  -- the path of this number told it in none of its steps
  abbrev pub ToldNoBackup : ℕ → WorldState C → Type 0
  ToldNoBackup number w = (c : ActorCrew C) → slice_get w.crew (2 + number) ≡ Some c → list_any noted_backup c.list ≡ false

  -- then it stands by after none of the first of these turns
  abbrev pub WhoIsNoBackupServes : Codec C → Type 0
  WhoIsNoBackupServes k = (start : Start) (number : ℕ) (turns : List Turn) → ToldNoBackup number (reached k start turns)
      → (ts us : List Turn) → ts ++ us ≡ turns → ServesAt number (reached k start ts)
