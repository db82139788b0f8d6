-- What holds up an exchange between open ends is counted: as news, or as a segment of the path that is harmed.
use Rattle.std.proofs.Common.{◌≡◌, refl, sym, subst, ap, ◌∙◌, inl, inr, ℕ, ◌+◌, ◌-◌, ◌^◌, ◌<◌, ◌≤◌, arith, true, false, true≢false, Some, List, [], ◌∷◌, ◌++◌}
use Rattle.std.specs.List.{slice_get}
use Rattle.sides.specs.declared.side.Side.{Side}
use Rattle.sides.specs.declared.side.Side.TheVariants.{A, B}
use Rattle.link_model.specs.Steps.{segments_sent}
use Rattle.subflow_tcp.specs.States.{is_dead}
use Rattle.path_core.specs.State.{PathState, end_at}
use Rattle.path_core.specs.Values.{Carried, values}
use Rattle.world_laws.specs.declared.member.Member.TheVariants.{App, Path}
use Rattle.world_laws.specs.Actors.{Actor, ActorCrew}
use Rattle.world_laws.specs.Openings.{Start, opened_world}
use Rattle.world_laws.specs.RoundDone.{reached}
use Rattle.world_laws.specs.Worlds.{WorldState, Turn, after_turn, world_run}
use Rattle.world_laws.proofs.Weaving.WholeRounds.{run_append}
use Rattle.whole_paths.specs.Courses.{counted_at}
use Rattle.whole_paths.specs.Exchanges.{IsHeldUp}
use Rattle.whole_paths.specs.Exchanges.{IsHeldUp as held}
use Rattle.whole_paths.specs.Finish.{harmed, harms_between, harms_of, is_harmed}
use Rattle.whole_paths.specs.News.{ActorCounts, news, one_if}
use Rattle.whole_paths.specs.News.{Counts as counts}
use Rattle.whole_paths.specs.OpenCourses.{HoldUpsCount, WhatHoldsUpCounts}
use Rattle.whole_paths.proofs.Courses.{harmed_append}
use Rattle.whole_paths.proofs.Due.{LinkIs, LinkMember, each_link}
use Rattle.whole_paths.proofs.News.{each_news_counts, news_never_falls}

pub one_harmed : (s : Side) (p q : PathState Carried) → is_harmed s p q ≡ true → 0 < harms_between (Path p) (Path q)
one_harmed A p q is = let one = ap one_if is in omega (arith, one)
one_harmed B p q is = let one = ap one_if is in omega (arith, one)

-- ---- a turn

pub harmed_more : (number : ℕ) (turns : List Turn) (turn : Turn) (w : WorldState Carried) → let v = world_run values turns w in
    harmed values number (turns ++ turn ∷ []) w ≡ harmed values number turns w + harms_of (slice_get v.crew (2 + number)) (slice_get (after_turn values turn v).crew (2 + number))
harmed_more number [] turn w = omega arith
harmed_more number (first ∷ turns) turn w = let rest = harmed_more number turns turn (after_turn values first w) in omega (arith, rest)

pub harmed_snoc : (turns : List Turn) (turn : Turn) (w : WorldState Carried) → let v = world_run values turns w in
    harmed values 0 (turns ++ turn ∷ []) w ≡ harmed values 0 turns w + harms_of (slice_get v.crew 2) (slice_get (after_turn values turn v).crew 2)
harmed_snoc turns turn w = harmed_more 0 turns turn w

module _ (start : Start) (number : ℕ) (turns : List Turn) (turn : Turn) where
  abbrev w : WorldState Carried
  w = reached values start turns

  abbrev v : WorldState Carried
  v = after_turn values turn w

  abbrev Rises : Type 0
  Rises = counted_at values start number turns < counted_at values start number (turns ++ turn ∷ [])

  last : world_run values (turns ++ turn ∷ []) (opened_world start) ≡ v
  last = run_append values turns (turn ∷ []) (opened_world start)

  pub by_news : news start w < news start v → Rises
  by_news more =
      let up : news start w < news start (reached values start (turns ++ turn ∷ [])) = subst (λ (x : WorldState Carried). news start w < news start x) (sym last) more in
      let harms = harmed_append values number turns (turn ∷ []) (opened_world start) in omega (arith, up, harms)

  pub by_harm : (c d : ActorCrew Carried) → slice_get w.crew (2 + number) ≡ Some c → slice_get v.crew (2 + number) ≡ Some d → 0 < harms_between c.member d.member → Rises
  by_harm c d was now harms =
      let is = harmed_more number turns turn (opened_world start) in
      let one : harms_of (slice_get w.crew (2 + number)) (slice_get v.crew (2 + number)) ≡ harms_between c.member d.member = rw (was, now) refl in
      let up : news start w ≤ news start (reached values start (turns ++ turn ∷ [])) = subst (λ (x : WorldState Carried). news start w ≤ news start x) (sym last) (news_never_falls values start turns (turn ∷ [])) in
      omega (arith, is, one, harms, up)

  module _ (c d : ActorCrew Carried) (was : slice_get w.crew (2 + number) ≡ Some c) (now : slice_get v.crew (2 + number) ≡ Some d) where
    pub by_counts : ActorCounts c.member d.member → Rises
    by_counts is = by_news (each_news_counts values start turns (turn ∷ []) (2 + number) c d was now is)

    path_counts : (p q : PathState Carried) → c.member ≡ Path p → d.member ≡ Path q → LinkIs p.link → ((s : Side) → is_dead (end_at s p).tcp.state ≡ false) → ((s : Side) → is_dead (end_at s q).tcp.state ≡ false) → ((s : Side) → segments_sent s p.link < 2 ^ 64 - 1) → (s : Side) → IsHeldUp s p q → Rises
    path_counts p q from to link living_p living_q few s h = by h
      where
        counts_so : ActorCounts (Path p) (Path q) → Rises
        counts_so is = by_counts (subst (λ m. ActorCounts m d.member) (sym from) (subst (λ n. ActorCounts (Path p) n) (sym to) is))

        by : IsHeldUp s p q → Rises
        by (held.news is) = counts_so (counts.at_end s is)
        by (held.more_came more) = counts_so (counts.in_order s more)
        by (held.harmed t is) = by_harm c d was now (subst (λ m. 0 < harms_between m d.member) (sym from) (subst (λ n. 0 < harms_between (Path p) n) (sym to) (one_harmed t p q is)))
        by (held.gone t (inl dead)) = absurd (true≢false (sym dead ∙ living_p t))
        by (held.gone t (inr dead)) = absurd (true≢false (sym dead ∙ living_q t))
        by (held.dies line next is dead) = absurd (true≢false (sym dead ∙ living_q A))

    held_counts : (m n : Actor Carried) → c.member ≡ m → d.member ≡ n → LinkMember m → HoldUpsCount Rises m n
    held_counts (Path p) (Path q) from to link = λ living_p living_q few s h. path_counts p q from to link living_p living_q few s h
    held_counts (Path p) (App b) from to link = tt
    held_counts (App a) n from to link = tt

pub what_holds_up_counts : WhatHoldsUpCounts
what_holds_up_counts start number turns turn c d was now = held_counts start number turns turn c d was now c.member d.member refl refl ((each_link values start turns).each (2 + number) c was)
