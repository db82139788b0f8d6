-- Where both ends of a path are open, nearly nothing leads an exchange of a mild connection astray.
use Rattle.std.proofs.Common.{◌≡◌, refl, sym, subst, ap, ◌∙◌, inl, inr, ⊎_elim, arith, ℕ, ◌≤◌, Bool, true, false, true≢false, not, ◌&&◌, ◌==◌, Some, is_some, List, [], ◌∷◌, ◌++◌}
use Rattle.std.specs.List.{list_any, slice_get}
use Rattle.std.proofs.lemmas.Bool.{both_ways}
use Rattle.std.proofs.lemmas.Option.{same_Some}
use Rattle.sides.specs.declared.side.Side.{Side}
use Rattle.sides.specs.declared.side.Side.TheVariants.{A, B}
use Rattle.sides.specs.Side.{peer}
use Rattle.stream_lanes.specs.Words.{Every}
use Rattle.subflow_send.specs.Records.{Record}
use Rattle.subflow_tcp.specs.States.{is_dead}
use Rattle.subflow_tcp.specs.declared.handshake.State.{State}
use Rattle.subflow_tcp.specs.declared.handshake.State.TheVariants as phase
use Rattle.path_core.specs.Choices.{is_side_a}
use Rattle.path_core.specs.MpJoin.{is_joined}
use Rattle.path_core.specs.Standing.{is_connected}
use Rattle.path_core.specs.Deliver.{failing_mapping}
use Rattle.path_core.specs.State.{PathState, end_at}
use Rattle.path_core.specs.Values.{Carried, values}
use Rattle.world_laws.specs.declared.member.Member.TheVariants.{App, Path}
use Rattle.world_laws.specs.Actors.{Actor, ActorCrew}
use Rattle.world_laws.specs.Members.{HoldsOfKind}
use Rattle.world_laws.specs.Openings.{Start, opened_world}
use Rattle.whole_paths.specs.Finish.{IsPathAt}
use Rattle.world_laws.specs.Worlds.{Turn, WorldState, after_turn, world_run}
use Rattle.world_laws.proofs.Weaving.WholeRounds.{run_append}
use Rattle.whole_paths.specs.AsFar.{IsActorAsFar, IsEndAsFar, IsPathAsFar, stage}
use Rattle.whole_paths.specs.Brought.{IsToReset}
use Rattle.whole_paths.specs.Brought.IsToReset.{broken, is_reset, stopped}
use Rattle.whole_paths.specs.Exchanges.{IsAstray}
use Rattle.whole_paths.specs.Exchanges.{IsAstray as stray}
use Rattle.whole_paths.specs.Mild.{IsMildStart, IsUnbroken, EndsGoByMappings, EndsHaveKeys, NeverBreaks, HasKeys, IsNeverBroken, KeysAreKnown, MappingIsKept, is_harsh}
use Rattle.whole_paths.specs.Owed.{IsToRefuse}
use Rattle.whole_paths.specs.Owed.{IsToRefuse as refuse}
use Rattle.whole_paths.specs.Straying.{HardlyStrays, HardlyStraysFrom, IsHardlyAstray, IsOpen, IsOpenBetween, IsOpenFrom, IsSound, IsSoundFrom, OpenEndsHardlyStray, SendersHardlyStray, WholePathsAreOpen}
use Rattle.whole_paths.specs.Straying.{IsHardlyAstray as hardly}
use Rattle.whole_paths.proofs.Breaking.{never_breaks}
use Rattle.whole_paths.proofs.Clearing.{Clears, MemberClears, each_clears, never_refuses, never_treats}
use Rattle.whole_paths.proofs.GoesOn.{goes_on_so}
use Rattle.whole_paths.proofs.Keyed.{keys_are_known}
use Rattle.whole_paths.proofs.Mild.{mapping_is_kept}

-- no end is reset next
pub never_resets : (q : PathState Carried) → IsUnbroken q → (t : Side) → IsToReset t q.agenda → ⊥
never_resets q unbroken t (broken reason is) = unbroken.broken t reason is
never_resets q unbroken t (is_reset reason is) = unbroken.is_reset t reason is
never_resets q unbroken t (stopped is) = unbroken.stopped t is

module _ (p q : PathState Carried) (s : Side) (sound_p : IsSoundFrom s p) (sound_q : IsSoundFrom s q) (mapped_p : EndsGoByMappings p) (mapped_q : EndsGoByMappings q) where
  refused_so : (r : Record) → IsToRefuse (peer s) p.agenda → IsHardlyAstray s r p q
  refused_so r (refuse.refuses others is) = absurd (true≢false (sym (ap (λ ds. list_any is_harsh ds) is) ∙ sound_p.unbroken.duties))
  refused_so r (refuse.answers others is) = absurd (sound_p.accepts (peer s) others is)

  pub sound_ends_hardly_stray : (r : Record) → IsAstray s r p q → IsHardlyAstray s r p q
  sound_ends_hardly_stray r (stray.reset is) = absurd (never_resets q sound_q.unbroken (peer s) is)
  sound_ends_hardly_stray r (stray.resets is) = refused_so r is
  sound_ends_hardly_stray r (stray.behind_fin is) = hardly.behind_fin is
  sound_ends_hardly_stray r (stray.unopened low) = absurd (let past = sound_p.past (peer s) in omega (arith, past, low))
  sound_ends_hardly_stray r (stray.half_open low passed) = absurd (let past = sound_p.past (peer s) in omega (arith, past, low))
  sound_ends_hardly_stray r (stray.unsure is) = absurd (both_ways q.b.modes.clear (subst (λ t. (end_at t q).modes.clear ≡ false) is.at_b is.clear) sound_q.sure)
  sound_ends_hardly_stray r (stray.unkeyed none) = absurd (both_ways (is_some (end_at (peer s) q).modes.peer_key) (ap is_some none) (sound_q.keyed (peer s)))
  sound_ends_hardly_stray r (stray.plain t (inl is)) = absurd (both_ways (end_at t p).modes.identity (mapped_p t).identity is)
  sound_ends_hardly_stray r (stray.plain t (inr is)) = absurd (both_ways (end_at t q).modes.identity (mapped_q t).identity is)
  sound_ends_hardly_stray r (stray.infinite (inl is)) = absurd (both_ways (is_some (end_at s p).modes.own_infinite) (ap is_some (mapped_p s).own) is)
  sound_ends_hardly_stray r (stray.infinite (inr is)) = absurd (both_ways (is_some (end_at (peer s) p).modes.peer_infinite) (ap is_some (sound_p.finite (peer s))) is)
  sound_ends_hardly_stray r (stray.past_window far) = hardly.past_window far
  sound_ends_hardly_stray r (stray.fails (inl is)) = absurd (sound_p.unbroken.fails (peer s) is)
  sound_ends_hardly_stray r (stray.fails (inr is)) = absurd (both_ways (is_some (failing_mapping p.profile (end_at (peer s) p))) (ap is_some (mapped_p (peer s)).right) is)
  sound_ends_hardly_stray r (stray.untold sums reads mapped) = hardly.untold sums reads
  sound_ends_hardly_stray r (stray.partial is) = hardly.partial is
  sound_ends_hardly_stray r (stray.first_piece is) = absurd (both_ways _ (ap (λ b. is_side_a s && (not b && r.pos == 1)) sound_p.clear ∙ never (is_side_a s)) is)
    where
      never : (b : Bool) → (b && false) ≡ false
      never true = refl
      never false = refl

abbrev OfPaths : (PathState Carried → Type 0) → Actor Carried → Type 0
OfPaths P = HoldsOfKind (λ app. Unit {0}) P

-- path 0, open from a side
pub from_sound : (s : Side) (p : PathState Carried) → EndsGoByMappings p → HasKeys p → IsNeverBroken p → MemberClears (Path p) → IsOpenFrom s p → IsSoundFrom s p
from_sound s p mapped keys breaks clears open_p = record {
  past = open_p.past;
  living = open_p.living;
  clear = open_p.clear;
  sure = open_p.sure;
  keyed = elim [ A ↦ open_p.keyed | B ↦ (keys open_p.first).b open_p.sure ];
  finite = λ t. (mapped t).peer open_p.first;
  unbroken = breaks open_p.first;
  accepts = λ t others is. never_refuses p t (clears open_p.first) (open_p.living t) others is;
}

-- a sound path from either side
pub sound_from : (p : PathState Carried) → IsSound p → (s : Side) → IsSoundFrom s p
sound_from p h s = record {
  past = h.past;
  living = h.living;
  clear = h.clear s;
  sure = h.clear B;
  keyed = h.keyed;
  finite = h.finite;
  unbroken = h.unbroken;
  accepts = h.accepts;
}

member_from : (m n : Actor Carried) → OfPaths EndsGoByMappings m → OfPaths EndsGoByMappings n → OfPaths HasKeys m → OfPaths HasKeys n → OfPaths IsNeverBroken m → OfPaths IsNeverBroken n → MemberClears m → MemberClears n → HardlyStraysFrom m n
member_from (Path p) (Path q) mapped_p mapped_q keys_p keys breaks_p breaks_so clears_p clears = λ s open_p open_q r is.
    sound_ends_hardly_stray p q s (from_sound s p mapped_p keys_p breaks_p clears_p open_p) (from_sound s q mapped_q keys breaks_so clears open_q) mapped_p mapped_q r is
member_from (Path p) (App b) mapped_p mapped_q keys_p keys breaks_p breaks_so clears_p clears = tt
member_from (App a) n mapped_p mapped_q keys_p keys breaks_p breaks_so clears_p clears = tt

module _ (start : Start) (turns : List Turn) (turn : Turn) (mild : IsMildStart start) where
  abbrev v : WorldState Carried
  v = after_turn values turn (world_run values turns (opened_world start))

  same : world_run values (turns ++ turn ∷ []) (opened_world start) ≡ v
  same = run_append values turns (turn ∷ []) (opened_world start)

  keys_after : KeysAreKnown v
  keys_after = subst KeysAreKnown same (keys_are_known start (turns ++ turn ∷ []) mild)

  clears_after : Every (λ (x : ActorCrew Carried). MemberClears x.member) v.crew
  clears_after = subst (λ (x : WorldState Carried). Every (λ (y : ActorCrew Carried). MemberClears y.member) x.crew) same (each_clears values start (turns ++ turn ∷ []))

  stray_from : (actor : ℕ) (c d : ActorCrew Carried) → slice_get (world_run values turns (opened_world start)).crew actor ≡ Some c → slice_get v.crew actor ≡ Some d → HardlyStraysFrom c.member d.member
  stray_from actor c d was now =
      let mapped : MappingIsKept v = subst MappingIsKept same (mapping_is_kept start (turns ++ turn ∷ []) mild) in
      let breaks_so : NeverBreaks v = subst NeverBreaks same (never_breaks start (turns ++ turn ∷ []) mild) in
      member_from c.member d.member ((mapping_is_kept start turns mild).each actor c was) (mapped.each actor d now) ((keys_are_known start turns mild).each actor c was) (keys_after.each actor d now)
      ((never_breaks start turns mild).each actor c was) (breaks_so.each actor d now) ((each_clears values start turns).each actor c was) (clears_after.each actor d now)

pub senders_hardly_stray : SendersHardlyStray
senders_hardly_stray start turns turn mild actor c d was now = stray_from start turns turn mild actor c d was now

-- ---- where both ends may send a DSS

-- A's end knows B's key
pub a_knows : (p : PathState Carried) → EndsHaveKeys p → ((t : Side) → Clears t p.agenda (end_at t p)) → IsOpen p → is_some p.a.modes.peer_key ≡ true
a_knows p keys clears open_p = ⊎_elim (λ some. some) (λ treats. absurd (never_treats p clears open_p.clear treats)) (keys.a (let past = open_p.past A in omega (arith, past)) (open_p.living A))

from_open : (s : Side) (p : PathState Carried) → HasKeys p → MemberClears (Path p) → IsOpen p → IsOpenFrom s p
from_open s p keys clears open_p = record {
  first = open_p.first;
  past = open_p.past;
  living = open_p.living;
  clear = open_p.clear s;
  sure = open_p.clear B;
  keyed = a_knows p (keys open_p.first) (clears open_p.first) open_p;
}

-- of path 0, open from a side, at any moment
pub open_from_sound : (start : Start) → IsMildStart start → (turns : List Turn) (p : PathState Carried) → IsPathAt 0 (world_run values turns (opened_world start)) p → (s : Side) → IsOpenFrom s p → IsSoundFrom s p
open_from_sound start mild turns p here s open_p = from_sound s p (subst (OfPaths EndsGoByMappings) here.is ((mapping_is_kept start turns mild).each 2 here.crew here.there))
    (subst (OfPaths HasKeys) here.is ((keys_are_known start turns mild).each 2 here.crew here.there)) (subst (OfPaths IsNeverBroken) here.is ((never_breaks start turns mild).each 2 here.crew here.there))
    (subst MemberClears here.is ((each_clears values start turns).each 2 here.crew here.there)) open_p

-- such a path is open from both
pub open_from : (start : Start) (turns : List Turn) → IsMildStart start → (p : PathState Carried) → IsPathAt 0 (world_run values turns (opened_world start)) p → IsOpen p → (s : Side) → IsOpenFrom s p
open_from start turns mild p here open_p s = from_open s p (subst (OfPaths HasKeys) here.is ((keys_are_known start turns mild).each 2 here.crew here.there))
    (subst MemberClears here.is ((each_clears values start turns).each 2 here.crew here.there)) open_p

member_strays : (m n : Actor Carried) → HardlyStraysFrom m n → OfPaths HasKeys m → OfPaths HasKeys n → MemberClears m → MemberClears n → HardlyStrays m n
member_strays (Path p) (Path q) strays keys_p keys clears_p clears = λ open_p open_q s r is. strays s (from_open s p keys_p clears_p open_p) (from_open s q keys clears open_q) r is
member_strays (Path p) (App b) strays keys_p keys clears_p clears = tt
member_strays (App a) n strays keys_p keys clears_p clears = tt

pub open_ends_hardly_stray : OpenEndsHardlyStray
open_ends_hardly_stray start turns turn mild actor c d was now =
    member_strays c.member d.member (stray_from start turns turn mild actor c d was now) ((keys_are_known start turns mild).each actor c was) ((keys_after start turns turn mild).each actor d now)
    ((each_clears values start turns).each actor c was) ((clears_after start turns turn mild).each actor d now)

-- ---- a path that is whole, and still is later

pub connected_stage : (state : State) → is_connected state ≡ true → (3 ≤ stage state) × (stage state ≤ 6)
connected_stage phase.Waiting is = absurd (true≢false (sym is))
connected_stage phase.Listen is = absurd (true≢false (sym is))
connected_stage phase.SynSent is = absurd (true≢false (sym is))
connected_stage phase.SynReceived is = absurd (true≢false (sym is))
connected_stage phase.Dead is = absurd (true≢false (sym is))
connected_stage _ is = (omega arith, omega arith)

pub alive : (state : State) → stage state ≤ 6 → is_dead state ≡ false
alive phase.Dead low = absurd (omega (arith, low))
alive _ low = refl

pub end_far : {C : Type 0} (p q : PathState C) → IsPathAsFar p q → (s : Side) → IsEndAsFar (end_at s p) (end_at s q)
end_far p q h A = h.a
end_far p q h B = h.b

open_between : (p q r : PathState Carried) → IsPathAsFar p q → IsPathAsFar q r → ((s : Side) → is_connected (end_at s p).tcp.state ≡ true) → ((s : Side) → (end_at s p).modes.clear ≡ true)
    → ((s : Side) → is_connected (end_at s r).tcp.state ≡ true) → is_joined q.profile ≡ false → IsOpen q
open_between p q r before after was clear is first = record {
  first = first;
  past = λ s. let low = (connected_stage (end_at s p).tcp.state (was s)).0 in let up = (end_far p q before s).subflow.state in omega (arith, low, up);
  living = λ s. alive (end_at s q).tcp.state (let high = (connected_stage (end_at s r).tcp.state (is s)).1 in let up = (end_far q r after s).subflow.state in omega (arith, high, up));
  clear = λ s. (end_far p q before s).clear (clear s);
}

member_open : (l m n : Actor Carried) (p r : PathState Carried) → l ≡ Path p → n ≡ Path r → IsActorAsFar l m → IsActorAsFar m n → ((s : Side) → is_connected (end_at s p).tcp.state ≡ true)
    → ((s : Side) → (end_at s p).modes.clear ≡ true) → ((s : Side) → is_connected (end_at s r).tcp.state ≡ true) → IsOpenBetween m
member_open l (Path q) n p r from to before after was clear is =
    open_between p q r (subst (λ x. IsActorAsFar x (Path q)) from before) (subst (λ x. IsActorAsFar (Path q) x) to after) was clear is
member_open l (App a) n p r from to before after was clear is = subst (λ x. IsActorAsFar x (App a)) from before

pub whole_paths_are_open : WholePathsAreOpen
whole_paths_are_open w more later one other c there =
    let v : WorldState Carried = world_run values more w in
    let first = (goes_on_so values w more).crew 2 one.here.crew one.here.there in
    let then_on = (goes_on_so values v later).crew 2 c there in
    let last : slice_get (world_run values later v).crew 2 ≡ Some other.here.crew = subst (λ (u : WorldState Carried). slice_get u.crew 2 ≡ Some other.here.crew) (run_append values more later w) other.here.there in
    member_open one.here.crew.member c.member other.here.crew.member one.path other.path one.here.is other.here.is
    (subst (λ (x : ActorCrew Carried). IsActorAsFar one.here.crew.member x.member) (same_Some first.0 c (sym first.1 ∙ there)) first.2.member)
    (subst (λ (x : ActorCrew Carried). IsActorAsFar c.member x.member) (same_Some then_on.0 other.here.crew (sym then_on.1 ∙ last)) then_on.2.member)
    one.connected one.clear other.connected
