-- What may come between in an exchange of a mild connection, where both ends of path 0 are open and may send a DSS.
use Rattle.std.specs.Prelude.{ℕ, ◌+◌, ◌≡◌, ◌<◌, ◌≤◌, true, false, is_some, None, Some, List, ◌∷◌, ◌++◌, slice_get}
use Rattle.sides.specs.declared.side.Side.{Side}
use Rattle.sides.specs.Side.{peer}
use Rattle.fallback_state.specs.Modes.{reads_mappings}
use Rattle.subflow_send.specs.Records.{Record, end_of}
use Rattle.subflow_tcp.specs.State.{is_fin_passed}
use Rattle.subflow_tcp.specs.States.{is_dead}
use Rattle.path_agenda.specs.declared.duty.Duty.{Duty}
use Rattle.path_agenda.specs.declared.duty.Duty.TheVariants as duties
use Rattle.path_agenda.specs.declared.duty.SendDuty.TheVariants as send_duties
use Rattle.path_core.specs.MpJoin.{is_joined}
use Rattle.path_core.specs.State.{PathState, end_at}
use Rattle.path_core.specs.Values.{Carried, values}
use Rattle.world_laws.specs.declared.member.Member.TheVariants.{App, Path}
use Rattle.world_laws.specs.Actors.{Actor, ActorCrew}
use Rattle.world_laws.specs.Openings.{Start, opened_world}
use Rattle.world_laws.specs.Worlds.{WorldState, Turn, after_turn, world_run}
use Rattle.whole_paths.specs.AsFar.{stage}
use Rattle.whole_paths.specs.Exchanges.{IsAstray}
use Rattle.whole_paths.specs.Finish.{IsWhole}
use Rattle.whole_paths.specs.InHand.{IsPartial}
use Rattle.whole_paths.specs.Mild.{IsMildStart, IsUnbroken}

-- path 0, whose ends are past the handshake, may send a DSS and aren't dead
pub record IsOpen (p : PathState Carried) : Type 0 where
  pub first : is_joined p.profile ≡ false
  pub past : (s : Side) → 3 ≤ stage (end_at s p).tcp.state
  pub living : (s : Side) → is_dead (end_at s p).tcp.state ≡ false
  pub clear : (s : Side) → (end_at s p).modes.clear ≡ true

-- Path 0, whose ends are past the handshake and aren't dead: this side's end may send a DSS, and so may B's, and A's knows B's key. So it is from
-- B on before A may send one.
pub record IsOpenFrom (s : Side) (p : PathState Carried) : Type 0 where
  pub first : is_joined p.profile ≡ false
  pub past : (t : Side) → 3 ≤ stage (end_at t p).tcp.state
  pub living : (t : Side) → is_dead (end_at t p).tcp.state ≡ false
  pub clear : (end_at s p).modes.clear ≡ true
  pub sure : p.b.modes.clear ≡ true
  pub keyed : is_some p.a.modes.peer_key ≡ true

-- ---- of any number of paths

-- A path whose ends are past the handshake and aren't dead. This side's end and B's may send a DSS, and each end has the other's key. None receives by
-- an infinite mapping, breaks, or answers a copy by a reset.
pub record IsSoundFrom (s : Side) (p : PathState Carried) : Type 0 where
  pub past : (t : Side) → 3 ≤ stage (end_at t p).tcp.state
  pub living : (t : Side) → is_dead (end_at t p).tcp.state ≡ false
  pub clear : (end_at s p).modes.clear ≡ true
  pub sure : p.b.modes.clear ≡ true
  pub keyed : (t : Side) → is_some (end_at t p).modes.peer_key ≡ true
  pub finite : (t : Side) → (end_at t p).modes.peer_infinite ≡ None
  pub unbroken : IsUnbroken p
  pub accepts : (t : Side) (others : List Duty) → p.agenda ≡ duties.Send (send_duties.ResetAnswer t) ∷ others → ⊥

-- so from both sides, and no end owes the third MP_JOIN
pub record IsSound (p : PathState Carried) : Type 0 where
  pub past : (s : Side) → 3 ≤ stage (end_at s p).tcp.state
  pub living : (s : Side) → is_dead (end_at s p).tcp.state ≡ false
  pub clear : (s : Side) → (end_at s p).modes.clear ≡ true
  pub keyed : (s : Side) → is_some (end_at s p).modes.peer_key ≡ true
  pub third : (s : Side) → (end_at s p).modes.owes_third ≡ false
  pub finite : (s : Side) → (end_at s p).modes.peer_infinite ≡ None
  pub unbroken : IsUnbroken p
  pub accepts : (s : Side) (others : List Duty) → p.agenda ≡ duties.Send (send_duties.ResetAnswer s) ∷ others → ⊥

-- of all that leads an exchange astray this is left
pub data IsHardlyAstray (s : Side) (r : Record) (p q : PathState Carried) : Type 0 where
  -- the peer is past the end's FIN
  behind_fin : is_fin_passed (end_at (peer s) q).tcp ≡ true → IsHardlyAstray s r p q
  -- with checksums: the control book isn't told of a failed check, or the mapping at the peer's RCV.NXT isn't whole
  untold : q.profile.spelling.checksums ≡ true → reads_mappings (end_at (peer s) q).modes.mode ≡ false → IsHardlyAstray s r p q
  partial : IsPartial (peer s) (end_of r) p → IsHardlyAstray s r p q
  -- the peer sent more than the end's window has room for
  past_window : (end_at s p).tcp.recv.edge + 1048576 < (end_at (peer s) p).tcp.send.nxt → IsHardlyAstray s r p q

-- as the path becomes this actor, and is still open
abbrev pub HardlyStrays : Actor Carried → Actor Carried → Type 0
HardlyStrays (Path p) (Path q) = IsOpen p → IsOpen q → (s : Side) (r : Record) → IsAstray s r p q → IsHardlyAstray s r p q
HardlyStrays _ _ = Unit {0}

-- and is open from the side that sends
abbrev pub HardlyStraysFrom : Actor Carried → Actor Carried → Type 0
HardlyStraysFrom (Path p) (Path q) = (s : Side) → IsOpenFrom s p → IsOpenFrom s q → (r : Record) → IsAstray s r p q → IsHardlyAstray s r p q
HardlyStraysFrom _ _ = Unit {0}

-- by any turn of a mild connection
abbrev pub SendersHardlyStray : Type 0
SendersHardlyStray = (start : Start) (turns : List Turn) (turn : Turn) → IsMildStart start → let w = world_run values turns (opened_world start) in
    (actor : ℕ) (c d : ActorCrew Carried) → slice_get w.crew actor ≡ Some c → slice_get (after_turn values turn w).crew actor ≡ Some d
    → HardlyStraysFrom c.member d.member

abbrev pub OpenEndsHardlyStray : Type 0
OpenEndsHardlyStray = (start : Start) (turns : List Turn) (turn : Turn) → IsMildStart start → let w = world_run values turns (opened_world start) in
    (actor : ℕ) (c d : ActorCrew Carried) → slice_get w.crew actor ≡ Some c → slice_get (after_turn values turn w).crew actor ≡ Some d
    → HardlyStrays c.member d.member

-- ---- a path that is whole, and still is later

-- path 0, between two moments at which its ends are open and may send a DSS
abbrev pub IsOpenBetween : Actor Carried → Type 0
IsOpenBetween (Path p) = is_joined p.profile ≡ false → IsOpen p
IsOpenBetween (App a) = ⊥

abbrev pub WholePathsAreOpen : Type 0
WholePathsAreOpen = (w : WorldState Carried) (more later : List Turn) → IsWhole 0 w → IsWhole 0 (world_run values (more ++ later) w)
    → (c : ActorCrew Carried) → slice_get (world_run values more w).crew 2 ≡ Some c → IsOpenBetween c.member
