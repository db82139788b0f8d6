-- Each end of a path that joined has the other's key, and owes no third MP_JOIN once it may send a DSS.
use Rattle.std.proofs.Common.{◌≡◌, refl, ◌≤◌, arith, nat_le, Bool, true, false}
use Rattle.std.proofs.lemmas.Bool.{both_ways, leb-false, leb-true}
use Rattle.sides.specs.declared.side.Side.{Side}
use Rattle.path_core.specs.End.{PathEnd}
use Rattle.path_core.specs.MpJoin.{is_joined}
use Rattle.path_core.specs.State.{PathState, end_at}
use Rattle.path_core.specs.Values.{Carried, values}
use Rattle.world_laws.specs.declared.member.Member.TheVariants.{App, Path}
use Rattle.world_laws.specs.Actors.{Actor}
use Rattle.world_laws.specs.Members.{HoldsOfKind}
use Rattle.whole_paths.specs.AsFar.{stage}
use Rattle.whole_paths.specs.JoinedEnds.{JoinedEndsKnowTheirPeers, KnowsItsPeer}
use Rattle.whole_paths.proofs.Clearing.{Clearing, Clears, always_clears}
use Rattle.whole_paths.proofs.JoinedKeys.{HasJoinedKeys, joined_ends_have_keys}
use Rattle.whole_paths.proofs.JoinedThirds.{BothOweUnclear, OwesUnclear, joined_ends_owe_unclear}

abbrev OfJoined : (PathState Carried → Type 0) → Actor Carried → Type 0
OfJoined P = HoldsOfKind (λ app. Unit {0}) (λ (p : PathState Carried). is_joined p.profile ≡ true → P p)

past_so : (s : Side) (p : PathState Carried) → Clears s p.agenda (end_at s p) → (end_at s p).modes.clear ≡ true → 3 ≤ stage (end_at s p).tcp.state
past_so s p h clear = by (nat_le 3 (stage (end_at s p).tcp.state)) refl
  where
    by : (b : Bool) → nat_le 3 (stage (end_at s p).tcp.state) ≡ b → 3 ≤ stage (end_at s p).tcp.state
    by true is = leb-true 3 (stage (end_at s p).tcp.state) is
    by false is = absurd (both_ways (end_at s p).modes.clear (h.early (let low = leb-false 3 (stage (end_at s p).tcp.state) is in omega (arith, low))) clear)

not_owed : (e : PathEnd) → OwesUnclear e → e.modes.clear ≡ true → e.modes.owes_third ≡ false
not_owed e h clear = by e.modes.owes_third refl
  where
    by : (b : Bool) → e.modes.owes_third ≡ b → b ≡ false
    by false is = refl
    by true is = absurd (both_ways e.modes.clear (h.owes is).1 clear)

pub joined_ends_know_their_peers : JoinedEndsKnowTheirPeers
joined_ends_know_their_peers start turns actor c there = by c.member (joined_ends_have_keys start turns actor c there) ((always_clears values start turns).each actor c there) (joined_ends_owe_unclear start turns actor c there)
  where
    by : (m : Actor Carried) → OfJoined HasJoinedKeys m → Clearing m → OfJoined BothOweUnclear m → OfJoined (λ p. (s : Side) → KnowsItsPeer (end_at s p)) m
    by (App a) keys clears owe = tt
    by (Path p) keys clears owe = λ joined s. record {
      keyed = (keys joined).keyed s;
      past = past_so s p (clears s);
      third = not_owed (end_at s p) (owe joined s);
    }
