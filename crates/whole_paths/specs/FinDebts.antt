-- What is owed of a side's DATA_FIN, and how it is mended (RFC 8684, section 3.3.3). While bytes wait for the peer's window it may go before them,
-- and be overtaken. Once all bytes of the stream are acknowledged nothing is sent behind it: it comes; or it is owed, and goes again as the timer
-- runs out.
use Rattle.std.specs.Prelude.{ℕ, suc, ◌+◌, ◌≡◌, ◌<◌, ◌≤◌, Bool, true, false, nat_lt, Option, None, Some, List, [], ◌∷◌, ◌++◌, length}
use Rattle.std.specs.List.{slice_get}
use Rattle.sides.specs.declared.side.Side.{Side}
use Rattle.sides.specs.Side.{peer}
use Rattle.actor_desk.specs.Words.{pick}
use Rattle.path_core.specs.State.{PathState, end_at}
use Rattle.path_core.specs.Values.{Carried, values}
use Rattle.world_laws.specs.Actors.{ActorCrew}
use Rattle.world_laws.specs.Members.{of_kind}
use Rattle.world_laws.specs.Openings.{PathPlan, Start}
use Rattle.world_laws.specs.RoundDone.{reached}
use Rattle.world_laws.specs.Worlds.{Turn, WorldState}
use Rattle.whole_paths.specs.Closing.{IsFinHeard}
use Rattle.whole_paths.specs.Delivery.{IsAllThere}
use Rattle.whole_paths.specs.EndRounds.{EndIsKnown, FinIsSent}
use Rattle.whole_paths.specs.Expiries.{IsToSendAgain}
use Rattle.whole_paths.specs.Finish.{IsPathAt, is_harmed}
use Rattle.whole_paths.specs.FinsComing.{FinComesBy}
use Rattle.whole_paths.specs.Mending.{IsBegunTurn, IsOpenTurn}
use Rattle.whole_paths.specs.OnePathScripts.{BeginsWithOnePath}
use Rattle.whole_paths.specs.Running.{IsRunning}
use Rattle.whole_paths.specs.SegmentRounds.{Rounds}

-- what is read off the path of an actor that is there
abbrev pub on_path : (PathState Carried → Bool) → Option (ActorCrew Carried) → Bool
on_path read None = false
on_path read (Some c) = of_kind (λ app. false) read c.member

module _ (start : Start) (s : Side) where
  -- how many bytes the side's file has
  abbrev pub file_size : ℕ
  file_size = length (pick s start.file_a start.file_b)

  -- all of them are acknowledged to its end: SND.UNA is past them
  abbrev pub is_all_acked : PathState Carried → Bool
  is_all_acked p = nat_lt file_size (end_at s p).tcp.send.una

  -- to that of path 0, after these turns
  abbrev pub all_is_acked : List Turn → Bool
  all_is_acked turns = on_path is_all_acked (slice_get (reached values start turns).crew 2)

  -- ---- the debt

  -- Nothing is owed of the DATA_FIN: bytes before it aren't acknowledged, it wasn't sent, the peer heard it, or it comes within 400 ticks; or all of
  -- the stream is with the peer, which knows its end.
  pub data FinStands (p : PathState Carried) (w : WorldState Carried) : Type 0 where
    bytes : (end_at s p).tcp.send.una ≤ file_size → FinStands p w
    unsent : (end_at s p).sending.fin_sent ≡ false → FinStands p w
    heard : IsFinHeard (peer s) p → FinStands p w
    comes : (position : ℕ) → FinComesBy s position (p.clock + 400) p → FinStands p w
    all_there : IsAllThere s w → FinStands p w

  -- after these turns, on path 0
  pub record FinStandsAfter (turns : List Turn) : Type 0 where
    pub path : PathState Carried
    pub here : IsPathAt 0 (reached values start turns) path
    pub stands : FinStands path (reached values start turns)

  -- ---- the wait

  -- the DATA_FIN was sent, and all bytes before it are acknowledged
  pub record IsEndLeft (p : PathState Carried) : Type 0 where
    pub acked : file_size < (end_at s p).tcp.send.una
    pub sent : (end_at s p).sending.fin_sent ≡ true

  -- by this tick it goes again
  pub data FinGoesBy (x : ℕ) (p : PathState Carried) : Type 0 where
    -- the timer runs, and no Data ACK of bytes is to come
    waits : IsEndLeft p → (end_at s p).tcp.send.una ≤ suc (end_at s p).sending.heard → (tick : ℕ) → IsRunning tick (end_at s p) → tick ≤ x
        → FinGoesBy x p
    -- the timer ran out
    resends : IsEndLeft p → IsToSendAgain s p → FinGoesBy x p

  pub record FinGoesAfter (x : ℕ) (turns : List Turn) : Type 0 where
    pub path : PathState Carried
    pub here : IsPathAt 0 (reached values start turns) path
    pub goes : FinGoesBy x path

-- ---- by turns

module _ (start : Start) (s : Side) (turns : List Turn) (turn : Turn) (p q : PathState Carried) where
  -- by a turn in which all bytes are acknowledged, or a segment of the side is harmed, it may be owed
  pub data FinStandsOn : Type 0 where
    on : FinStands start s q (reached values start (turns ++ turn ∷ [])) → FinStandsOn
    acked : (end_at s p).tcp.send.una ≤ file_size start s → file_size start s < (end_at s q).tcp.send.una → FinStandsOn
    harmed : is_harmed s p q ≡ true → FinStandsOn

  -- it goes again, unless it is harmed
  pub data FinGoesOn (x : ℕ) : Type 0 where
    waits_on : FinGoesBy start s x q → FinGoesOn x
    stands : FinStands start s q (reached values start (turns ++ turn ∷ [])) → FinGoesOn x
    harmed : is_harmed s p q ≡ true → FinGoesOn x

-- from when B's end may send a DSS, over one path
abbrev pub FinsStandOn : Type 0
FinsStandOn = (start : Start) (plan : PathPlan) (turns : List Turn) (turn : Turn) → BeginsWithOnePath start plan
    → (h : IsBegunTurn start turns turn) (s : Side) → FinStands start s h.before.path (reached values start turns)
    → FinStandsOn start s turns turn h.before.path h.after.path

-- between open ends
abbrev pub FinsGoAgain : Type 0
FinsGoAgain = (start : Start) (plan : PathPlan) (turns : List Turn) (turn : Turn) → BeginsWithOnePath start plan
    → (h : IsOpenTurn start turns turn) (s : Side) (x : ℕ) → FinGoesBy start s x h.before.path
    → FinGoesOn start s turns turn h.before.path h.after.path x

-- Where it isn't owed, was sent, and all bytes before it are acknowledged, the peer's side knows the end of the stream in four rounds.
abbrev pub FinsAreHeard : Type 0
FinsAreHeard = (start : Start) (plan : PathPlan) (s : Side) (v u : List Turn) → BeginsWithOnePath start plan → Rounds start 4 v u
    → FinStandsAfter start s v → FinIsSent start s v → EndIsKnown start s u
