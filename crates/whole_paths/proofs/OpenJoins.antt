-- A path that joined is sound where both its ends are open, as long as nothing breaks it.
use Rattle.std.proofs.Common.{◌≡◌, ℕ, ◌≤◌, true, None, Some, List}
use Rattle.std.specs.List.{slice_get}
use Rattle.sides.specs.declared.side.Side.{Side}
use Rattle.path_core.specs.MpJoin.{is_joined}
use Rattle.path_core.specs.State.{PathState, end_at}
use Rattle.path_core.specs.Values.{Carried, values}
use Rattle.world_laws.specs.declared.member.Member.TheVariants.{App, Path}
use Rattle.world_laws.specs.Actors.{Actor, ActorCrew}
use Rattle.world_laws.specs.Openings.{Start}
use Rattle.world_laws.specs.RoundDone.{reached}
use Rattle.world_laws.specs.Worlds.{Turn}
use Rattle.whole_paths.specs.AsFar.{stage}
use Rattle.whole_paths.specs.JoinedEnds.{KnowsItsPeer}
use Rattle.whole_paths.specs.Mild.{IsUnbroken}
use Rattle.whole_paths.specs.Straying.{IsSound}
use Rattle.whole_paths.proofs.Clearing.{Clearing, always_clears, never_refuses}
use Rattle.whole_paths.proofs.JoinedEnds.{joined_ends_know_their_peers}
use Rattle.whole_paths.proofs.RecordWaits.{living_open}
use Rattle.whole_paths.proofs.SoundCourses.{BothEndsOpen, OfPaths, OpenJoinsAreSound}

-- of each path that joined, at every moment
abbrev pub OfEachJoin : Start → (PathState Carried → Type 0) → Type 0
OfEachJoin start P = (turns : List Turn) (actor : ℕ) (c : ActorCrew Carried) → slice_get (reached values start turns).crew actor ≡ Some c → OfPaths (λ p. is_joined p.profile ≡ true → P p) c.member

-- nothing breaks it once both ends are past the handshake
abbrev pub IsUnbrokenPast : PathState Carried → Type 0
IsUnbrokenPast p = ((s : Side) → 3 ≤ stage (end_at s p).tcp.state) → IsUnbroken p

-- and no end receives by an infinite mapping
abbrev pub IsFinite : PathState Carried → Type 0
IsFinite p = (s : Side) → (end_at s p).modes.peer_infinite ≡ None

pub open_joins_are_sound : (start : Start) → OfEachJoin start IsUnbrokenPast → OfEachJoin start IsFinite → OpenJoinsAreSound start
open_joins_are_sound start unbroken finite turns actor c there =
    by c.member (unbroken turns actor c there) (finite turns actor c there) (joined_ends_know_their_peers start turns actor c there) ((always_clears values start turns).each actor c there)
  where
    by : (m : Actor Carried) → OfPaths (λ p. is_joined p.profile ≡ true → IsUnbrokenPast p) m → OfPaths (λ p. is_joined p.profile ≡ true → IsFinite p) m
        → OfPaths (λ p. is_joined p.profile ≡ true → (s : Side) → KnowsItsPeer (end_at s p)) m → Clearing m → OfPaths (λ p. is_joined p.profile ≡ true → BothEndsOpen p → IsSound p) m
    by (App a) unbroken finite knows clears = tt
    by (Path p) unbroken finite knows clears = λ joined opened. record {
      past = λ s. (opened s).past;
      living = λ s. (opened s).living;
      clear = λ s. (opened s).clear;
      keyed = λ s. (knows joined s).keyed (living_open (end_at s p).tcp.state (opened s).past (opened s).living);
      third = λ s. (knows joined s).third (opened s).clear;
      finite = finite joined;
      unbroken = unbroken joined (λ s. (opened s).past);
      accepts = λ s others is. never_refuses p s clears (opened s).living others is;
    }
