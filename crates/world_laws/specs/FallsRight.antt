-- A side that fell back to plain TCP did so rightly: neither side began or answers a join, so that path 0 carries all of both streams,
-- each byte at the position of its place (RFC 8684, section 3.7).
use Rattle.std.specs.Prelude.{ℕ, suc, ◌≡◌, ◌||◌, Bool, true, false, Some, List, slice_get}
use Rattle.std.specs.List.{list_any}
use Rattle.sides.specs.declared.side.Side.{Side}
use Rattle.sides.specs.declared.side.Side.TheVariants.{A, B}
use Rattle.fallback_state.specs.Modes.{is_identity}
use Rattle.subflow_send.specs.declared.record.RecordKind.{RecordKind}
use Rattle.subflow_send.specs.declared.record.RecordKind.TheVariants.{Syn, Data, Fin}
use Rattle.subflow_send.specs.Records.{Record}
use Rattle.control_book.specs.Replies.{is_aborted}
use Rattle.stream_lanes.specs.Words.{Every}
use Rattle.actor_desk.specs.declared.ask.Note.{Note}
use Rattle.actor_desk.specs.Books.{books_in}
use Rattle.actor_desk.specs.Desk.{control_of}
use Rattle.path_core.specs.Codec.{Codec}
use Rattle.path_core.specs.End.{PathEnd}
use Rattle.path_core.specs.DssOut.{place_numbered}
use Rattle.path_core.specs.Profile.{Profile}
use Rattle.path_core.specs.State.{end_at}
use Rattle.world_laws.specs.declared.member.Member.TheVariants.{App, Path}
use Rattle.world_laws.specs.Actors.{Actor, ActorCrew}
use Rattle.world_laws.specs.ModesSoFar.{was_ever}
use Rattle.world_laws.specs.RoundEnd.{asks_grant}
use Rattle.world_laws.specs.Worlds.{WorldState, Turn, world_run}

-- bytes of a stream are asked for
abbrev pub asks_bytes : Note → Bool
asks_bytes note = asks_grant A note.ask || asks_grant B note.ask

-- a record of data has the place before its position
abbrev pub IsAtPlace : RecordKind → Profile → Side → Record → Type 0
IsAtPlace Data c s r = suc (place_numbered c s r.mapping.number) ≡ r.pos
IsAtPlace Syn c s r = Unit {0}
IsAtPlace Fin c s r = Unit {0}

-- each record of data has the place before its position, and so has each mapping that the end learned
pub record EndIsPlain (c : Profile) (s : Side) (e : PathEnd) : Type 0 where
  pub records : Every (λ r. IsAtPlace r.kind c s r) e.tcp.send.records
  pub learned : Every (λ kept. suc kept.place ≡ kept.pos) e.receiving.mappings.live

module _ {C : Type 0} where
  -- the side is in plain TCP
  abbrev pub is_fallen : Side → WorldState C → Bool
  is_fallen s w = is_identity (control_of s (books_in w.books)).fall.mode

  -- the side is in plain TCP, or was, by its control book's journal
  abbrev pub has_fallen : Side → WorldState C → Bool
  has_fallen s w = was_ever is_identity s w

  -- the connection was stopped there, by the side itself or its peer
  abbrev pub is_stopped : Side → WorldState C → Bool
  is_stopped s w = is_aborted (control_of s (books_in w.books)).fall.mode

  -- the side began a join, or answered one
  abbrev pub has_joined : Side → WorldState C → Bool
  has_joined s w = (control_of s (books_in w.books)).fall.joined

  -- bytes were asked for on path 0 alone
  pub record OnlyFirstAsked (w : WorldState C) : Type 0 where
    pub each : (number : ℕ) (c : ActorCrew C) → slice_get w.crew (suc (suc (suc number))) ≡ Some c → list_any asks_bytes c.list ≡ false

  -- A side that fell has neither begun nor answered a join. Where either side fell B answered none, and no path but path 0 asked for
  -- bytes.
  pub record FallsAreRight (w : WorldState C) : Type 0 where
    pub joins : (s : Side) → has_fallen s w ≡ true → has_joined s w ≡ false
    pub answered : (s : Side) → has_fallen s w ≡ true → has_joined B w ≡ false
    pub only : (s : Side) → has_fallen s w ≡ true → OnlyFirstAsked w

  -- a side that fell stays in plain TCP until the connection is stopped
  abbrev pub FallsLast : Codec C → WorldState C → Type 0
  FallsLast k w =
      (s : Side) (more : List Turn) → has_fallen s w ≡ true → (is_fallen s (world_run k more w) || is_stopped s (world_run k more w)) ≡ true

  -- on path 0 positions are places
  abbrev pub PathIsPlain : Actor C → Type 0
  PathIsPlain (App a) = Unit {0}
  PathIsPlain (Path p) = (s : Side) → EndIsPlain p.profile s (end_at s p)

  -- where a side fell, on path 0 positions are places
  pub record PositionsArePlaces (w : WorldState C) : Type 0 where
    pub each : (s : Side) → has_fallen s w ≡ true → (c : ActorCrew C) → slice_get w.crew 2 ≡ Some c → PathIsPlain c.member

  -- Where a side falls by the turns that follow, or fell before, on path 0 positions are places already: each record of
  -- data that it has, also one that is acknowledged when the side falls, has the place before its position.
  abbrev pub PositionsWerePlaces : Codec C → WorldState C → Type 0
  PositionsWerePlaces k w =
      (s : Side) (more : List Turn) → has_fallen s (world_run k more w) ≡ true → (c : ActorCrew C) → slice_get w.crew 2 ≡ Some c → PathIsPlain c.member
