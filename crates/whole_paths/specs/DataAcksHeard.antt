-- What becomes of the Data ACKs that an end takes: each counts, once the end has treated what the copy says before (RFC 8684, sections
-- 3.3.2 and 3.3.3).
use Rattle.std.specs.Prelude.{ℕ, ◌^◌, ◌≡◌, ◌<◌, ◌≤◌, ◌⊎◌, Bool, true, false, Option, Some, IsSome, List, [], ◌∷◌, length, slice_get}
use Rattle.path_segments.specs.Laws.{meant}
use Rattle.path_segments.specs.Options.{PlainOption}
use Rattle.path_segments.specs.Spelled.{PlainSegment}
use Rattle.path_segments.specs.declared.segment.PathMapping.{PathMapping}
use Rattle.path_segments.specs.declared.segment.PathOption.TheVariants.{Dss}
use Rattle.sides.specs.declared.side.Side.{Side}
use Rattle.subflow_tcp.specs.States.{is_dead}
use Rattle.actor_desk.specs.declared.ask.Note.{Note}
use Rattle.actor_desk.specs.Books.{StampedBooks, books_in}
use Rattle.actor_desk.specs.Desk.{send_of}
use Rattle.path_agenda.specs.declared.duty.Duty.{Duty}
use Rattle.path_agenda.specs.declared.duty.Duty.TheVariants as duties
use Rattle.path_agenda.specs.declared.duty.StepDuty.TheVariants as step_duties
use Rattle.path_agenda.specs.declared.heard.Heard.{Heard}
use Rattle.path_agenda.specs.declared.heard.Heard.TheVariants as says
use Rattle.path_core.specs.Choices.{item_at}
use Rattle.path_core.specs.Codec.{Codec}
use Rattle.path_core.specs.End.{PathEnd}
use Rattle.path_core.specs.MpJoin.{is_joined}
use Rattle.path_core.specs.OptionsIn.{items_of, options_heard}
use Rattle.path_core.specs.Sending.{Sending}
use Rattle.path_core.specs.State.{PathState, end_at}
use Rattle.world_laws.specs.declared.member.Member.TheVariants.{App, Path}
use Rattle.world_laws.specs.Actors.{Actor, ActorCrew}
use Rattle.world_laws.specs.Outcomes.{was_told}
use Rattle.world_laws.specs.Promises.{tells_refusal}
use Rattle.world_laws.specs.Worlds.{WorldState, Turn, after_turn}
use Rattle.world_laws.specs.Writes.{side_of}
use Rattle.whole_paths.specs.Brought.{Brings, IsToReset, comes_before_keeping}

-- this side's end hears this of a copy, once all is treated that the copy says before
abbrev pub IsToHear : Side → Heard → List Heard → List Duty → Type 0
IsToHear s item items [] = ⊥
IsToHear s item items (duties.Step (step_duties.Heard t index) ∷ ds) = (t ≡ s) × ((item_at index items ≡ Some item) ⊎ IsToHear s item items ds)
IsToHear s item items (d ∷ ds) = (side_of d ≡ s) × ((comes_before_keeping d ≡ true) × IsToHear s item items ds)

-- all before this place is acknowledged to the end, with the DATA_FIN or without
pub record IsAckedUpTo (next : ℕ) (fin : Bool) (v : Sending) : Type 0 where
  pub heard : next ≤ v.heard
  pub end : fin ≡ true → v.close.own_acked ≡ true

-- the place acknowledges the DATA_FIN only where it is past all that the side wrote
abbrev pub IsPastTheEnd : StampedBooks → Side → ℕ → Bool → Type 0
IsPastTheEnd books s next fin = fin ≡ true → length (send_of s (books_in books)).written < next

-- a segment with a DSS says its Data ACK to an end that reads its options, as values: a place below 2^62
abbrev pub EachDataAckIsSaid : Type 0
EachDataAckIsSaid = (x : PlainSegment) (e : PathEnd) (joined : Bool) (s : Side) (next : ℕ) (mapping : Option (PathMapping ℕ)) (others : List PlainOption)
    → x.options ≡ Dss (Some next) mapping ∷ others → next < 2 ^ 62 → e.modes.identity ≡ false
    → item_at 1 (items_of joined s (options_heard e (meant x))) ≡ Some (says.DataAck next (meant x).window)

module _ {C : Type 0} where
  -- ---- a Data ACK that came

  -- the Data ACK counts; or the copy says so that the end treats, and it is heard in its turn
  pub data IsHeard (s : Side) (next : ℕ) (fin : Bool) (p : PathState C) : Type 0 where
    counts : IsAckedUpTo next fin (end_at s p).sending → IsHeard s next fin p
    told : (window : ℕ) → IsToHear s (says.DataAck next window) (end_at s p).treated.items p.agenda → IsHeard s next fin p

  -- what becomes of it, as the path becomes another one and its steps are these
  pub data StaysHeard (s : Side) (next : ℕ) (fin : Bool) (steps : List Note) (q : PathState C) : Type 0 where
    on : IsHeard s next fin q → StaysHeard s next fin steps q
    -- the end is dead, or reset next
    gone : is_dead (end_at s q).tcp.state ≡ true → StaysHeard s next fin steps q
    reset : IsToReset s q.agenda → StaysHeard s next fin steps q
    -- the acknowledgements of the subflow count in its place: the side fell back to plain TCP, or sends by an infinite mapping
    plain : (end_at s q).modes.identity ≡ true → StaysHeard s next fin steps q
    infinite : IsSome (end_at s q).modes.own_infinite → StaysHeard s next fin steps q
    -- the send book refused it, since so much was never written
    refused : was_told tells_refusal steps ≡ true → StaysHeard s next fin steps q

  -- ---- of any path, as it becomes another one

  pub record HearsDataAcks (k : Codec C) (books : StampedBooks) (steps : List Note) (p q : PathState C) : Type 0 where
    -- each that a taken copy says is heard, unless the path stays as it is
    pub tells : (b : Brings k p) (index next window : ℕ) (fin : Bool)
        → item_at index (items_of (is_joined p.profile) b.copy.due.to (options_heard (end_at b.copy.due.to p) b.copy.segment)) ≡ Some (says.DataAck next window)
        → (q ≡ p) ⊎ StaysHeard b.copy.due.to next fin steps q
    -- each stays so
    pub stays : (s : Side) (next : ℕ) (fin : Bool) → IsPastTheEnd books s next fin → IsHeard s next fin p → StaysHeard s next fin steps q

  -- as the path becomes this actor
  abbrev pub PathsHear : Codec C → StampedBooks → List Note → Actor C → Actor C → Type 0
  PathsHear k books steps (Path p) (Path q) = HearsDataAcks k books steps p q
  PathsHear k books steps (App a) (App b) = Unit {0}
  PathsHear k books steps _ _ = ⊥

  -- by any turn
  abbrev pub EachDataAckCounts : Codec C → Type 0
  EachDataAckCounts k = (w : WorldState C) (turn : Turn) (actor : ℕ) (c : ActorCrew C) → slice_get w.crew actor ≡ Some c
      → (d : ActorCrew C) × (slice_get (after_turn k turn w).crew actor ≡ Some d) × PathsHear k w.books d.list c.member d.member
