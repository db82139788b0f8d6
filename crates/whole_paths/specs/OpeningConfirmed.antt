-- What confirms Multipath TCP to an end, so that it may send a DSS: to B both keys, and to A the first DSS (RFC 8684, section 3.1).
use Rattle.std.specs.Prelude.{ℕ, ◌≡◌, ◌⊎◌, Bool, true, false, Option, Some, List, [], ◌∷◌, slice_get}
use Rattle.mptcp_options.specs.declared.capable.CapableKeys.TheVariants.{Both, WithData}
use Rattle.path_segments.specs.Laws.{meant}
use Rattle.path_segments.specs.Options.{PlainOption}
use Rattle.path_segments.specs.Spelled.{PlainSegment}
use Rattle.path_segments.specs.declared.segment.PathMapping.{PathMapping}
use Rattle.path_segments.specs.declared.segment.PathOption.TheVariants.{Capable, Dss}
use Rattle.sides.specs.declared.side.Side.{Side}
use Rattle.sides.specs.declared.side.Side.TheVariants.{A, B}
use Rattle.subflow_tcp.specs.States.{is_dead}
use Rattle.actor_desk.specs.declared.ask.Note.{Note}
use Rattle.path_agenda.specs.declared.duty.Duty.{Duty}
use Rattle.path_agenda.specs.declared.heard.Heard.{Heard}
use Rattle.path_agenda.specs.declared.heard.Heard.TheVariants as says
use Rattle.path_core.specs.Choices.{item_at}
use Rattle.path_core.specs.Codec.{Codec}
use Rattle.path_core.specs.End.{PathEnd}
use Rattle.path_core.specs.MpJoin.{is_joined}
use Rattle.path_core.specs.OptionsIn.{items_of, options_heard}
use Rattle.path_core.specs.State.{PathState, end_at}
use Rattle.world_laws.specs.declared.member.Member.TheVariants.{App, Path}
use Rattle.world_laws.specs.Actors.{Actor, ActorCrew}
use Rattle.world_laws.specs.Outcomes.{was_told}
use Rattle.world_laws.specs.Promises.{tells_other_key}
use Rattle.world_laws.specs.Worlds.{WorldState, Turn, after_turn}
use Rattle.world_laws.specs.Writes.{side_of}
use Rattle.whole_paths.specs.Brought.{Brings, IsToReset, comes_before_keeping}
use Rattle.whole_paths.specs.DataAcksHeard.{IsToHear}

-- this is heard behind the first duty, which treats what the copy says before
abbrev pub IsBehind : Side → Heard → List Heard → List Duty → Type 0
IsBehind s item items [] = ⊥
IsBehind s item items (d ∷ ds) = (side_of d ≡ s) × ((comes_before_keeping d ≡ true) × IsToHear s item items ds)

-- what a copy says confirms it to the end of this side
pub data Confirms (s : Side) : Heard → Type 0 where
  dss : s ≡ A → Confirms s says.Dss
  keys : (own other : ℕ) → Confirms s (says.Keys own other)

-- what segments say so, as values, to an end that reads their options: a DSS, and on the path that opens the connection both keys, with data
-- or without
pub record SignsAreSaid : Type 0 where
  pub dss : (x : PlainSegment) (e : PathEnd) (joined : Bool) (s : Side) (next : Option ℕ) (mapping : Option (PathMapping ℕ)) (others : List PlainOption)
      → x.options ≡ Dss next mapping ∷ others → e.modes.identity ≡ false → item_at 0 (items_of joined s (options_heard e (meant x))) ≡ Some says.Dss
  pub keys : (x : PlainSegment) (e : PathEnd) (sender receiver : ℕ) (flag_a flag_c : Bool) (others : List PlainOption)
      → x.options ≡ Capable flag_a flag_c (Both sender receiver) ∷ others → e.modes.identity ≡ false
      → item_at 0 (items_of false B (options_heard e (meant x))) ≡ Some (says.Keys receiver sender)
  pub first_piece : (x : PlainSegment) (e : PathEnd) (sender receiver len : ℕ) (checksum : Option ℕ) (flag_a flag_c : Bool) (others : List PlainOption)
      → x.options ≡ Capable flag_a flag_c (WithData sender receiver len checksum) ∷ others → e.modes.identity ≡ false
      → item_at 0 (items_of false B (options_heard e (meant x))) ≡ Some (says.Keys receiver sender)

module _ {C : Type 0} where
  -- the end may send a DSS; or it hears a DSS, or both keys, in its turn
  pub data IsConfirmed (s : Side) (p : PathState C) : Type 0 where
    clear : (end_at s p).modes.clear ≡ true → IsConfirmed s p
    by_dss : s ≡ A → IsBehind s says.Dss (end_at s p).treated.items p.agenda → IsConfirmed s p
    by_keys : (own other : ℕ) → (end_at s p).treated.keys_told ≡ false → IsToHear s (says.Keys own other) (end_at s p).treated.items p.agenda → IsConfirmed s p

  -- what becomes of it, as the path becomes another one and its steps are these
  pub data ConfirmedOn (s : Side) (steps : List Note) (q : PathState C) : Type 0 where
    on : IsConfirmed s q → ConfirmedOn s steps q
    -- the end is dead, or reset next
    gone : is_dead (end_at s q).tcp.state ≡ true → ConfirmedOn s steps q
    reset : IsToReset s q.agenda → ConfirmedOn s steps q
    -- the side fell back to plain TCP
    plain : (end_at s q).modes.identity ≡ true → ConfirmedOn s steps q
    -- the control book was told another key for its own
    refused : was_told tells_other_key steps ≡ true → ConfirmedOn s steps q

  -- ---- of any path, as it becomes another one

  pub record Confirming (k : Codec C) (steps : List Note) (p q : PathState C) : Type 0 where
    -- a copy that is taken confirms it, unless the path stays as it is
    pub tells : (b : Brings k p) (index : ℕ) (item : Heard) → Confirms b.copy.due.to item
        → item_at index (items_of (is_joined p.profile) b.copy.due.to (options_heard (end_at b.copy.due.to p) b.copy.segment)) ≡ Some item
        → (q ≡ p) ⊎ ConfirmedOn b.copy.due.to steps q
    -- an end to which Multipath TCP was confirmed stays so
    pub stays : (s : Side) → IsConfirmed s p → ConfirmedOn s steps q

  -- as the path becomes this actor
  abbrev pub PathsConfirm : Codec C → List Note → Actor C → Actor C → Type 0
  PathsConfirm k steps (Path p) (Path q) = Confirming k steps p q
  PathsConfirm k steps (App a) (App b) = Unit {0}
  PathsConfirm k steps _ _ = ⊥

  -- by any turn
  abbrev pub EachConfirmationCounts : Codec C → Type 0
  EachConfirmationCounts k = (w : WorldState C) (turn : Turn) (actor : ℕ) (c : ActorCrew C) → slice_get w.crew actor ≡ Some c
      → (d : ActorCrew C) × (slice_get (after_turn k turn w).crew actor ≡ Some d) × PathsConfirm k d.list c.member d.member
