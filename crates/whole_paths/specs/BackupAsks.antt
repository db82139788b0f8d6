-- A path tells that it is a backup only where an end of it heard so (RFC 8684, sections 3.2 and 3.3.8).
use Rattle.std.specs.Prelude.{◌≡◌, Bool, false, Some}
use Rattle.std.specs.List.{list_any}
use Rattle.sides.specs.declared.side.Side.{Side}
use Rattle.actor_desk.specs.declared.ask.Ask.{Ask}
use Rattle.path_agenda.specs.declared.heard.Heard.{Heard}
use Rattle.path_agenda.specs.declared.heard.Heard.TheVariants as says
use Rattle.path_agenda.specs.declared.notice.PeerNotice.TheVariants as notes
use Rattle.path_core.specs.Codec.{Codec}
use Rattle.path_core.specs.End.{PathEnd}
use Rattle.path_core.specs.State.{PathState, end_at}
use Rattle.path_core.specs.Steps.{asks_of}
use Rattle.whole_paths.specs.Backups.{tells_backup}

-- the peer notes that the path is one
abbrev pub notes_backup : Heard → Bool
notes_backup (says.Notice (notes.Prio backup)) = backup
notes_backup _ = false

-- of the peer's MP_JOIN, and of what the end has to treat of the copy that came last
pub record HeardOfNone (e : PathEnd) : Type 0 where
  pub joined : e.modes.backup_heard ≡ false
  pub noted : list_any notes_backup e.treated.items ≡ false

-- where neither end heard so, the path's next step doesn't tell it
abbrev pub WhoHeardOfNoneTellsNone : {C : Type 0} → Codec C → Type 0
WhoHeardOfNoneTellsNone {C} k = (p : PathState C) (x : Ask) → asks_of k p ≡ Some x → ((s : Side) → HeardOfNone (end_at s p)) → tells_backup x ≡ false
