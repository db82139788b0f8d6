-- The course of a mild connection between two moments at which path 0 is whole: its ends are open at each moment, and what holds up an exchange
-- is counted.
use Rattle.std.specs.Prelude.{ℕ, zero, suc, ◌+◌, ◌-◌, ◌*◌, ◌^◌, ◌≡◌, ◌<◌, ◌≤◌, false, Some, List, [], ◌∷◌, ◌++◌, slice_get}
use Rattle.sides.specs.declared.side.Side.{Side}
use Rattle.link_model.specs.Steps.{segments_sent}
use Rattle.subflow_tcp.specs.States.{is_dead}
use Rattle.path_core.specs.State.{PathState, end_at}
use Rattle.path_core.specs.Values.{Carried, values}
use Rattle.world_laws.specs.declared.member.Member.TheVariants.{Path}
use Rattle.world_laws.specs.Actors.{Actor, ActorCrew}
use Rattle.world_laws.specs.Openings.{Start}
use Rattle.world_laws.specs.RoundDone.{reached}
use Rattle.world_laws.specs.Worlds.{WorldState, Turn, AreLawful, after_turn}
use Rattle.whole_paths.specs.Courses.{Exchanges, counted_at, harmed_so_far}
use Rattle.whole_paths.specs.Exchanges.{IsFaithful, IsHeldUp, LetsThrough}
use Rattle.whole_paths.specs.Finish.{IsPathAt, IsWhole, rounds_in}
use Rattle.whole_paths.specs.Mild.{IsMildStart}
use Rattle.whole_paths.specs.News.{most_news}
use Rattle.whole_paths.specs.Rounds.{ticks_for}
use Rattle.whole_paths.specs.Straying.{IsOpen}

-- ---- a moment

-- No line takes options away on the path, or alters payload; path 0 opens the connection, and of another one both ends are past the handshake.
abbrev pub IsFaithfulAt : ℕ → PathState Carried → Type 0
IsFaithfulAt zero p = IsFaithful p
IsFaithfulAt (suc number) p = LetsThrough p

-- This holds of the path of this number. No line takes options away or alters payload, and the link took
-- fewer than 2^64 - 1 segments from each side.
pub record IsNowAt (number : ℕ) (Holds : PathState Carried → Type 0) (w : WorldState Carried) : Type 0 where
  pub path : PathState Carried
  pub here : IsPathAt number w path
  pub is_open : Holds path
  pub faithful : IsFaithfulAt number path
  pub few : (s : Side) → segments_sent s path.link < 2 ^ 64 - 1

-- of path 0
abbrev pub IsNow : (PathState Carried → Type 0) → WorldState Carried → Type 0
IsNow = IsNowAt 0

-- both ends of it are open
abbrev pub IsOpenNow : WorldState Carried → Type 0
IsOpenNow w = IsNow IsOpen w

-- after these turns
abbrev pub IsOpenAfter : Start → List Turn → Type 0
IsOpenAfter start turns = IsOpenNow (reached values start turns)

-- ---- what holds an exchange up

-- as a path becomes this actor, and none of its ends is dead before or after
abbrev pub HoldUpsCount : Type 0 → Actor Carried → Actor Carried → Type 0
HoldUpsCount Counted (Path p) (Path q) = ((s : Side) → is_dead (end_at s p).tcp.state ≡ false) → ((s : Side) → is_dead (end_at s q).tcp.state ≡ false)
    → ((s : Side) → segments_sent s p.link < 2 ^ 64 - 1) → (s : Side) → IsHeldUp s p q → Counted
HoldUpsCount Counted _ _ = Unit {0}

-- by any turn, of the path of any number
abbrev pub WhatHoldsUpCounts : Type 0
WhatHoldsUpCounts = (start : Start) (number : ℕ) (turns : List Turn) (turn : Turn) → let w = reached values start turns in (c d : ActorCrew Carried)
    → slice_get w.crew (2 + number) ≡ Some c → slice_get (after_turn values turn w).crew (2 + number) ≡ Some d
    → HoldUpsCount (counted_at values start number turns < counted_at values start number (turns ++ turn ∷ [])) c.member d.member

-- ---- the course

-- Where exchanges go on between open ends until something is over, it is over after lawful turns from where path 0 is whole to where it still
-- is, with rounds enough. It is said of fewer than 2^64 - 1 segments from each side.
abbrev pub OpenExchangesEnd : Type 1
OpenExchangesEnd = (start : Start) (most within : ℕ) (Over : List Turn → Type 0) (Waits : ℕ → ℕ → List Turn → Type 0) → IsMildStart start
    → Exchanges values start (IsOpenAfter start) most within Over Waits
    → (before more : List Turn) → AreLawful values more (reached values start before) → IsWhole 0 (reached values start before)
    → (last : IsWhole 0 (reached values start (before ++ more))) → ((s : Side) → segments_sent s last.path.link < 2 ^ 64 - 1)
    → harmed_so_far values start (before ++ more) ≤ most → ticks_for within (suc (most_news start + most)) < 100 * rounds_in more → Over (before ++ more)
