-- No copy that arrives on a path that joins is refused for what it says, unless its options were taken away on the way: each SYN asks
-- to join, and each HMAC is the one that its end demands (RFC 8684, section 3.2).
use Rattle.std.specs.Prelude.{ℕ, ◌≡◌, false, Some, slice_get}
use Rattle.path_segments.specs.Heard.{HeardSegment}
use Rattle.actor_desk.specs.Words.{is_nil}
use Rattle.link_model.specs.declared.flight.Due.{Due}
use Rattle.link_model.specs.Steps.{arriving}
use Rattle.path_core.specs.declared.events.Event.TheVariants.{Arrives}
use Rattle.path_core.specs.declared.judged.Judged.{Judged}
use Rattle.path_core.specs.declared.judged.Judged.TheVariants.{As, Asks, Lacks, Forged}
use Rattle.path_core.specs.Arrival.{judged_in, heard_in}
use Rattle.path_core.specs.Codec.{Codec}
use Rattle.path_core.specs.Events.{next_event}
use Rattle.path_core.specs.MpJoin.{is_joined}
use Rattle.path_core.specs.State.{PathState, end_at}
use Rattle.world_laws.specs.declared.member.Member.TheVariants.{App, Path}
use Rattle.world_laws.specs.Actors.{Actor, ActorCrew}
use Rattle.world_laws.specs.Worlds.{WorldState}

-- the copy lacks no MP_JOIN, and no HMAC of it is wrong
abbrev pub IsWelcome : Judged → Type 0
IsWelcome (As meaning) = Unit {0}
IsWelcome Asks = Unit {0}
IsWelcome Lacks = ⊥
IsWelcome Forged = ⊥

module _ {C : Type 0} (k : Codec C) where
  -- the copy that arrives next, where it shows any options
  abbrev pub NextIsWelcome : PathState C → Type 0
  NextIsWelcome p = (due : Due) (h : HeardSegment) → next_event p ≡ Some (Arrives due) → heard_in k due.to (arriving due p.link) p ≡ Some h
      → is_nil h.options ≡ false → IsWelcome (judged_in (is_joined p.profile) due.to h (end_at due.to p))

  abbrev pub WelcomesNext : Actor C → Type 0
  WelcomesNext (App a) = Unit {0}
  WelcomesNext (Path p) = NextIsWelcome p

  -- the copy that arrives next on every path is welcome
  pub record EachCopyIsWelcome (w : WorldState C) : Type 0 where
    pub each : (actor : ℕ) (c : ActorCrew C) → slice_get w.crew actor ≡ Some c → WelcomesNext c.member
