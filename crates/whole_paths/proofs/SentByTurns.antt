-- A turn sends one segment on a path at most: an actor's step does one duty.
use Rattle.std.proofs.Common.{◌≡◌, refl, sym, subst, ap, ◌∙◌, ℕ, suc, ◌+◌, ◌≤◌, arith, Option, Some, None, List, [], ◌∷◌, length}
use Rattle.std.specs.List.{slice_get}
use Rattle.std.proofs.lemmas.Option.{same_Some}
use Rattle.sides.specs.declared.side.Side.{Side}
use Rattle.sides.specs.declared.side.Side.TheVariants.{A, B}
use Rattle.link_model.specs.State.{LinkState}
use Rattle.link_model.specs.Steps.{after_send, segments_sent}
use Rattle.stream_lanes.specs.Words.{Every}
use Rattle.actor_desk.specs.declared.ask.Reply.{Reply}
use Rattle.path_agenda.specs.declared.duty.Duty.{Duty}
use Rattle.path_core.specs.Codec.{Codec}
use Rattle.path_core.specs.Duties.{answered}
use Rattle.path_core.specs.Start.{waiting_path}
use Rattle.path_core.specs.State.{PathState, with_agenda}
use Rattle.path_core.specs.Steps.{begins_turn, takes}
use Rattle.world_laws.specs.declared.member.Member.TheVariants.{App, Path}
use Rattle.world_laws.specs.Actors.{Actor, ActorCrew, member_next, member_takes}
use Rattle.world_laws.specs.Openings.{Start, opened_world, path_begins}
use Rattle.world_laws.specs.StampedBooks.{answer_to}
use Rattle.world_laws.specs.Worlds.{WorldState, Turn, after_turn, world_run}
use Rattle.world_laws.proofs.Rounds.Lifting.{opened_lifted}
use Rattle.world_laws.proofs.Writes.Steps.{begins_lasts, settled_lasts}
use Rattle.whole_paths.specs.SentByTurns.{EachTurnSendsOneAtMost, SentAtMost}
use Rattle.whole_paths.proofs.Copies.{LinkStep, LinkStays, link_step, links_last}
use Rattle.whole_paths.proofs.Copies.LinkStep.{stays, hands, delivers, is_cut}
use Rattle.whole_paths.proofs.Harmed.{none_stays}
use Rattle.whole_paths.proofs.Turns.{turn_each}

module _ {C : Type 0} where
  -- ---- a link

  abbrev OneMore : LinkState C → LinkState C → Type 0
  OneMore l m = (s : Side) → segments_sent s m ≤ suc (segments_sent s l)

  none_more : (l m : LinkState C) → m ≡ l → OneMore l m
  none_more l m is = λ s. let same : segments_sent s m ≡ segments_sent s l = ap (segments_sent s) is in omega (arith, same)

  one_sent : (strip alter : Side → C → C) (from : Side) (carried : C) (size now : ℕ) (l : LinkState C) → OneMore l (after_send strip alter from carried size now l)
  one_sent strip alter A carried size now l A = omega arith
  one_sent strip alter A carried size now l B = omega arith
  one_sent strip alter B carried size now l A = omega arith
  one_sent strip alter B carried size now l B = omega arith

  same_counts : (l m : LinkState C) → m.from_a ≡ l.from_a → m.from_b ≡ l.from_b → OneMore l m
  same_counts l m a b A = omega (arith, a)
  same_counts l m a b B = omega (arith, b)

  step_one : {d : Duty} (k : Codec C) (p q : PathState C) → LinkStep d k p q → OneMore p.link q.link
  step_one k p q (stays is) = none_more p.link q.link is
  step_one k p q (hands from carried size still is) = subst (OneMore p.link) (sym is) (one_sent (k.strips p.profile.spelling) (k.alters p.profile.spelling) from carried size p.clock p.link)
  step_one k p q (delivers event due next is) = subst (OneMore p.link) (sym is) (same_counts p.link _ refl refl)
  step_one k p q (is_cut line next action is dead) = subst (OneMore p.link) (sym is) (same_counts p.link _ refl refl)

  -- ---- a turn

  takes_one : (k : Codec C) (r : Reply) (p : PathState C) → OneMore p.link (takes k r p).link
  takes_one k r p = by p.agenda
    where
      by : (ds : List Duty) → OneMore p.link (takes k r (with_agenda ds p)).link
      by [] = none_more p.link p.link refl
      by (d ∷ ds) =
          let x : PathState C = with_agenda (d ∷ ds) p in let q : PathState C = answered k d r x in
          subst (OneMore p.link) (sym (settled_lasts LinkStays links_last q.agenda q)) (step_one k x q (link_step k d r x))

  abbrev Sends : Actor C → Actor C → Type 0
  Sends m n = (most : ℕ) → SentAtMost most m → SentAtMost (suc most) n

  by_one : (l m : LinkState C) → OneMore l m → (most : ℕ) → ((s : Side) → segments_sent s l ≤ most) → (s : Side) → segments_sent s m ≤ suc most
  by_one l m one most low s = let more = one s in let is = low s in omega (arith, more, is)

  member_stays : (m : Actor C) → Sends m m
  member_stays (App a) = λ most low. tt
  member_stays (Path p) = by_one p.link p.link (none_more p.link p.link refl)

  member_takes_one : (k : Codec C) (r : Reply) (m : Actor C) → Sends m (member_takes k r m)
  member_takes_one k r (App a) = λ most low. tt
  member_takes_one k r (Path p) = by_one p.link (takes k r p).link (takes_one k r p)

  member_begins : (m : Actor C) → Sends m (member_next m)
  member_begins (App a) = λ most low. tt
  member_begins (Path p) =
      let q : PathState C = record p { clock = p.until; until = p.until + 100 } in
      by_one p.link (begins_turn q).link (none_more p.link (begins_turn q).link (begins_lasts LinkStays links_last q))

  -- ---- turns

  sent_after : (k : Codec C) (turns : List Turn) (w : WorldState C) (actor : ℕ) (c : ActorCrew C) (most : ℕ) → slice_get w.crew actor ≡ Some c → SentAtMost most c.member
      → (d : ActorCrew C) × (slice_get (world_run k turns w).crew actor ≡ Some d) × SentAtMost (length turns + most) d.member
  sent_after k [] w actor c most there low = let same : most ≡ 0 + most = omega arith in (c, there, subst (λ n. SentAtMost n c.member) same low)
  sent_after k (turn ∷ turns) w actor c most there low =
      let next = turn_each k (λ x y. Sends x.member y.member) (λ x. member_stays x.member) (λ ask books x. member_takes_one k (answer_to books ask) x.member) (λ stamp x over. member_begins x.member) turn w actor c there in
      let rest = sent_after k turns (after_turn k turn w) actor next.0 (suc most) next.1 (next.2 most low) in
      let same : length turns + suc most ≡ suc (length turns) + most = omega arith in
      (rest.0, rest.1, subst (λ n. SentAtMost n rest.0.member) same rest.2)

  pub none_later : (k : Codec C) (turns : List Turn) (w : WorldState C) (actor : ℕ) → slice_get w.crew actor ≡ None → slice_get (world_run k turns w).crew actor ≡ None
  none_later k [] w actor none = none
  none_later k (turn ∷ turns) w actor none = none_later k turns (after_turn k turn w) actor (none_stays k turn w actor none)

  first_none : (start : Start) → Every (λ (c : ActorCrew C). SentAtMost 0 c.member) (opened_world start).crew
  first_none start = opened_lifted (λ c. SentAtMost 0 c.member) start tt tt (λ number plan there.
      let p : PathState C = waiting_path (path_begins start number plan) start.lines in
      subst (λ (l : LinkState C). (s : Side) → segments_sent s l ≤ 0) (sym (begins_lasts LinkStays links_last p)) (elim [ A ↦ omega arith | B ↦ omega arith ]))

  pub each_turn_sends_one_at_most : (k : Codec C) → EachTurnSendsOneAtMost k
  each_turn_sends_one_at_most k start turns actor c there = by (slice_get (opened_world {C = C} start).crew actor) refl
    where
      by : (o : Option (ActorCrew C)) → slice_get (opened_world {C = C} start).crew actor ≡ o → SentAtMost (length turns) c.member
      by None none = let gone : None ≡ Some c = sym (none_later k turns (opened_world start) actor none) ∙ there in cc
      by (Some x) at =
          let after = sent_after k turns (opened_world start) actor x 0 at ((first_none start).each actor x at) in
          let same : after.0 ≡ c = same_Some after.0 c (sym after.1 ∙ there) in
          let most : length turns + 0 ≡ length turns = omega arith in
          subst (λ (y : ActorCrew C). SentAtMost (length turns) y.member) same (subst (λ n. SentAtMost n after.0.member) most after.2)
