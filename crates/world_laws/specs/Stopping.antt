-- What a reader is told once the connection was aborted at its side, by itself or by its peer (RFC 8684, section 3.5).
use Rattle.std.specs.Prelude.{◌≡◌, Bool, Some, List, ◌++◌, All}
use Rattle.sides.specs.declared.side.Side.{Side}
use Rattle.reassembly_book.specs.declared.call.ReassemblyReply.TheVariants.{Bytes, End, NoneYet, Aborted}
use Rattle.actor_desk.specs.declared.ask.Note.{Note}
use Rattle.actor_desk.specs.declared.ask.Reply.{Reply}
use Rattle.actor_desk.specs.declared.ask.Reply.TheVariants as replies
use Rattle.path_core.specs.Codec.{Codec}
use Rattle.world_laws.specs.Outcomes.{notes_of, output_of}
use Rattle.world_laws.specs.Promises.{arrived_at}
use Rattle.world_laws.specs.Worlds.{WorldState, Turn, world_run}

-- what answers a read tells of the abort, and by whom it was
abbrev pub TellsAbortAlone : Bool → Reply → Type 0
TellsAbortAlone by_peer (replies.Reassembly (Aborted by)) = by ≡ by_peer
TellsAbortAlone by_peer (replies.Reassembly (Bytes bytes)) = ⊥
TellsAbortAlone by_peer (replies.Reassembly End) = ⊥
TellsAbortAlone by_peer (replies.Reassembly NoneYet) = ⊥
TellsAbortAlone by_peer _ = Unit {0}

module _ {C : Type 0} where
  -- At a later moment the reader of the side has made more steps, each of which, where it read, told of the abort; it has no byte more,
  -- and the abort is still that of the same side.
  pub record HearsAbortAlone (s : Side) (by_peer : Bool) (w later : WorldState C) : Type 0 where
    pub aborted : (arrived_at s later).aborted ≡ Some by_peer
    pub steps : List Note
    pub list_is : notes_of s later.crew ≡ notes_of s w.crew ++ steps
    pub told : All (λ n. TellsAbortAlone by_peer n.reply) steps
    pub read : output_of s later ≡ output_of s w

  -- once the reassembly book of a side is aborted, its reader hears that alone, by whatever turns follow
  abbrev pub AbortIsLast : Codec C → WorldState C → Type 0
  AbortIsLast k w =
      (s : Side) (by_peer : Bool) → (arrived_at s w).aborted ≡ Some by_peer → (more : List Turn) → HearsAbortAlone s by_peer w (world_run k more w)
