-- Between two moments at which a path is whole nothing breaks it, by each turn between them, and its ends are open.
use Rattle.std.proofs.Common.{◌≡◌, refl, sym, subst, ap, ◌∙◌, ℕ, zero, suc, ◌+◌, ◌-◌, ◌^◌, ◌<◌, ◌≤◌, arith, Bool, true, false, Some, List, ◌++◌}
use Rattle.std.specs.List.{slice_get}
use Rattle.std.proofs.lemmas.Option.{same_Some}
use Rattle.sides.specs.declared.side.Side.{Side}
use Rattle.link_model.specs.Steps.{segments_sent}
use Rattle.path_core.specs.MpJoin.{is_joined}
use Rattle.path_core.specs.State.{PathState, end_at}
use Rattle.path_core.specs.Values.{Carried, values}
use Rattle.world_laws.specs.declared.member.Member.TheVariants.{App, Path}
use Rattle.world_laws.specs.Actors.{Actor, ActorCrew}
use Rattle.world_laws.specs.Members.{HoldsOfKind}
use Rattle.world_laws.specs.Openings.{Start, opened_world}
use Rattle.world_laws.specs.RoundDone.{reached}
use Rattle.world_laws.specs.Worlds.{Turn, WorldState, world_run}
use Rattle.world_laws.proofs.Weaving.WholeRounds.{run_append}
use Rattle.whole_paths.specs.AsFar.{IsActorAsFar, IsPathAsFar, stage}
use Rattle.whole_paths.specs.Finish.{IsPathAt, IsWhole}
use Rattle.whole_paths.specs.GoingOn.{IsEndOpen}
use Rattle.whole_paths.specs.Mild.{IsMildStart, LinkIsMild}
use Rattle.whole_paths.specs.OpenCourses.{IsFaithfulAt, IsNowAt}
use Rattle.whole_paths.specs.Straying.{IsOpen, IsSound}
use Rattle.whole_paths.proofs.GoesOn.{goes_on_so}
use Rattle.whole_paths.proofs.Mild.{links_are_mild}
use Rattle.whole_paths.proofs.OpenAsks.{each_open_is_sound}
use Rattle.whole_paths.proofs.OpenCourses.{ActorLater, IsFirstPath, Later, each_first, each_later}
use Rattle.whole_paths.proofs.Straying.{alive, connected_stage, end_far}

abbrev pub OfPaths : (PathState Carried → Type 0) → Actor Carried → Type 0
OfPaths P = HoldsOfKind (λ app. Unit {0}) P

abbrev pub BothEndsOpen : PathState Carried → Type 0
BothEndsOpen p = (s : Side) → IsEndOpen s p

-- each path that joined is sound where both its ends are open
abbrev pub OpenJoinsAreSound : Start → Type 0
OpenJoinsAreSound start = (turns : List Turn) (actor : ℕ) (c : ActorCrew Carried) → slice_get (reached values start turns).crew actor ≡ Some c
    → OfPaths (λ p. is_joined p.profile ≡ true → BothEndsOpen p → IsSound p) c.member

-- ---- a path that is whole, and still is later

open_between : (p q r : PathState Carried) → IsPathAsFar p q → IsPathAsFar q r → ((s : Side) → 3 ≤ stage (end_at s p).tcp.state) → ((s : Side) → (end_at s p).modes.clear ≡ true)
    → ((s : Side) → stage (end_at s r).tcp.state ≤ 6) → BothEndsOpen q
open_between p q r before after past clear low s = record {
  past = (let was = past s in let up = (end_far p q before s).subflow.state in omega (arith, was, up));
  living = alive (end_at s q).tcp.state (let high = low s in let up = (end_far q r after s).subflow.state in omega (arith, high, up));
  clear = (end_far p q before s).clear (clear s);
}

module _ (number : ℕ) (w : WorldState Carried) (more later : List Turn) (one : IsWhole number w) (other : IsWhole number (world_run values (more ++ later) w)) where
  abbrev v : WorldState Carried
  v = world_run values more w

  record OpenHere : Type 0 where
    path : PathState Carried
    here : IsPathAt number v path
    opened : BothEndsOpen path

  found : (c : ActorCrew Carried) (m : Actor Carried) → slice_get v.crew (2 + number) ≡ Some c → c.member ≡ m → IsActorAsFar (Path one.path) m → IsActorAsFar m (Path other.path) → OpenHere
  found c (Path q) there is before after = record {
    path = q;
    here = record { crew = c; there = there; is = is };
    opened = open_between one.path q other.path before after (λ s. (connected_stage (end_at s one.path).tcp.state (one.connected s)).0) one.clear (λ s. (connected_stage (end_at s other.path).tcp.state (other.connected s)).1);
  }
  found c (App a) there is before after = absurd before

  open_here : OpenHere
  open_here =
      let first = (goes_on_so values w more).crew (2 + number) one.here.crew one.here.there in
      let then_on = (goes_on_so values v later).crew (2 + number) first.0 first.1 in
      let last : slice_get (world_run values later v).crew (2 + number) ≡ Some other.here.crew = subst (λ (u : WorldState Carried). slice_get u.crew (2 + number) ≡ Some other.here.crew) (run_append values more later w) other.here.there in
      found first.0 first.0.member first.1 refl
      (subst (λ m. IsActorAsFar m first.0.member) one.here.is first.2.member)
      (subst (λ m. IsActorAsFar first.0.member m) (ap (λ (c : ActorCrew Carried). c.member) (same_Some then_on.0 other.here.crew (sym then_on.1 ∙ last)) ∙ other.here.is) then_on.2.member)

-- ---- at such a moment

module _ (number : ℕ) (start : Start) (mild : IsMildStart start) (joins : OpenJoinsAreSound start) (turns : List Turn) (p : PathState Carried) (here : IsPathAt number (reached values start turns) p) (opened : BothEndsOpen p) where
  is_sound : IsSound p
  is_sound = by (is_joined p.profile) refl
    where
      by : (b : Bool) → is_joined p.profile ≡ b → IsSound p
      by true joined = (subst (OfPaths (λ q. is_joined q.profile ≡ true → BothEndsOpen q → IsSound q)) here.is (joins turns (2 + number) here.crew here.there)) joined opened
      by false first = (subst (OfPaths (λ q. IsOpen q → IsSound q)) here.is (each_open_is_sound start turns mild (2 + number) here.crew here.there))
          (record { first = first; past = λ s. (opened s).past; living = λ s. (opened s).living; clear = λ s. (opened s).clear })

  mild_link : LinkIsMild start.lines p
  mild_link = subst (OfPaths (LinkIsMild start.lines)) here.is ((links_are_mild values start turns mild).each (2 + number) here.crew here.there)

faithful_at : (number : ℕ) (start : Start) → IsMildStart start → (turns : List Turn) (p : PathState Carried) → IsPathAt number (reached values start turns) p → BothEndsOpen p → LinkIsMild start.lines p → IsFaithfulAt number p
faithful_at zero start mild turns p here opened link =
    let first : IsFirstPath start p = subst (OfPaths (IsFirstPath start)) here.is (each_first start turns mild.plain.size here.crew here.there) in record { joined = first.first; whole = link.strips; plain = link.alters }
faithful_at (suc number) start mild turns p here opened link = record { joined = λ s joined. (opened s).past; whole = link.strips; plain = link.alters }

-- ---- the turns between

later_so : (number : ℕ) (more : List Turn) (v : WorldState Carried) (p q : PathState Carried) → IsPathAt number v p → IsPathAt number (world_run values more v) q → Later p q
later_so number more v p q was now =
    let found = each_later more v (2 + number) was.crew was.there in
    subst (λ m. ActorLater m (Path q)) was.is
    (subst (λ m. ActorLater was.crew.member m) (ap (λ (c : ActorCrew Carried). c.member) (same_Some found.0 now.crew (sym found.1 ∙ now.there)) ∙ now.is) found.2)

pub sound_along : (number : ℕ) (start : Start) → IsMildStart start → OpenJoinsAreSound start → (before more : List Turn) → IsWhole number (reached values start before) → (last : IsWhole number (reached values start (before ++ more)))
    → ((s : Side) → segments_sent s last.path.link < 2 ^ 64 - 1) → (ts us : List Turn) → ts ++ us ≡ more → IsNowAt number IsSound (reached values start (before ++ ts))
sound_along number start mild joins before more whole last few ts us is = record {
  path = h.path;
  here = here;
  is_open = is_sound number start mild joins (before ++ ts) h.path here h.opened;
  faithful = faithful_at number start mild (before ++ ts) h.path here h.opened (mild_link number start mild joins (before ++ ts) h.path here h.opened);
  few = λ s. (later_so number us (world_run values ts w) h.path last.path h.here (subst (λ (v : WorldState Carried). IsPathAt number v last.path) (last_is ∙ run_append values ts us w) last.here)).fewer s (few s);
}
  where
    w : WorldState Carried
    w = reached values start before

    last_is : reached values start (before ++ more) ≡ world_run values (ts ++ us) w
    last_is = run_append values before more (opened_world start) ∙ ap (λ (xs : List Turn). world_run values xs w) (sym is)

    h : OpenHere number w ts us whole (subst (IsWhole number) last_is last)
    h = open_here number w ts us whole (subst (IsWhole number) last_is last)

    here : IsPathAt number (reached values start (before ++ ts)) h.path
    here = subst (λ (v : WorldState Carried). IsPathAt number v h.path) (sym (run_append values before ts (opened_world start))) h.here
