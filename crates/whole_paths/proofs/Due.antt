-- What arrives as a copy is due is what the copy carries: the copies of one segment carry the same, and no two segments of a side have one number.
use Rattle.std.proofs.Common.{◌≡◌, refl, sym, subst, ap, ◌∙◌, ℕ, zero, suc, ◌+◌, ◌-◌, ◌^◌, ◌<◌, ◌≤◌, ◌&&◌, ◌==◌, arith, Bool, true, false, if◌then◌else◌, Option, Some, None, List, [], ◌∷◌}
use Rattle.std.specs.Prelude.{find}
use Rattle.std.specs.List.{position, slice_get}
use Rattle.std.proofs.lemmas.Bool.{and_parts, eq-eqb, eqb-true}
use Rattle.std.proofs.lemmas.Option.{same_Some}
use Rattle.sides.specs.declared.side.Side.{Side}
use Rattle.sides.specs.declared.side.Side.TheVariants.{A, B}
use Rattle.sides.specs.Side.{peer}
use Rattle.link_script.specs.Places.{same_side}
use Rattle.link_model.specs.declared.flight.Due.{Due}
use Rattle.link_model.specs.declared.flight.Flight.{Flight}
use Rattle.link_model.specs.State.{LinkState}
use Rattle.link_model.specs.Steps.{after_delivery, after_send, arrivals, comes_before, due_of, fate_at, first_arrival, is_due, next_number, segments_sent, with_flight, with_flights, without}
use Rattle.stream_lanes.specs.Words.{Every}
use Rattle.actor_desk.specs.declared.ask.Reply.{Reply}
use Rattle.path_agenda.specs.Agenda.{start_of_turn}
use Rattle.path_agenda.specs.declared.duty.Duty.{Duty}
use Rattle.path_core.specs.Codec.{Codec}
use Rattle.path_core.specs.Duties.{answered}
use Rattle.path_core.specs.Start.{waiting_path}
use Rattle.path_core.specs.State.{PathState, with_agenda}
use Rattle.path_core.specs.Steps.{takes, begins_turn}
use Rattle.world_laws.specs.declared.member.Member.TheVariants.{App, Path}
use Rattle.world_laws.specs.Actors.{Actor, member_takes, member_next}
use Rattle.world_laws.specs.Laws.{Always}
use Rattle.world_laws.specs.Members.{HoldsOfKind}
use Rattle.world_laws.specs.Openings.{Start, path_begins, opened_world}
use Rattle.world_laws.specs.StampedBooks.{answer_to}
use Rattle.world_laws.specs.Worlds.{Turn, world_run}
use Rattle.world_laws.proofs.Keys.Held.{in_removed}
use Rattle.world_laws.proofs.Rounds.Lifting.{run_lifted, opened_lifted}
use Rattle.world_laws.proofs.Worlds.Finding.{find_every, one_side}
use Rattle.world_laws.proofs.Writes.Steps.{settled_lasts}
use Rattle.whole_paths.specs.Due.{CopiesArriveSo, CopiesArriveAsSent}
use Rattle.whole_paths.specs.Harms.{as_it_arrives}
use Rattle.whole_paths.proofs.Copies.{LinkStep, LinkStays, link_step, links_last}
use Rattle.whole_paths.proofs.Copies.LinkStep.{stays, hands, delivers, is_cut}

same_sides : (s : Side) → same_side s s ≡ true
same_sides A = refl
same_sides B = refl

module _ {C : Type 0} where
  -- ---- copies that are put among others

  put : (P : Flight C → Type 0) (x : Flight C) (xs : List (Flight C)) → P x → Every P xs → Every P (x ∷ xs)
  put P x xs first rest = record { each = at }
    where
      at : (i : ℕ) (y : Flight C) → slice_get (x ∷ xs) i ≡ Some y → P y
      at zero y is = subst P (same_Some x y is) first
      at (suc i) y is = rest.each i y is

  with_one : (P : Flight C → Type 0) (f : Flight C) (fs : List (Flight C)) → P f → Every P fs → Every P (with_flight f fs)
  with_one P f [] here h = put P f [] here h
  with_one P f (g ∷ fs) here h = by (comes_before f g) (with_one P f fs here (record { each = λ i x is. h.each (suc i) x is }))
    where
      by : (b : Bool) → Every P (with_flight f fs) → Every P (if b then f ∷ g ∷ fs else g ∷ with_flight f fs)
      by true more = put P f (g ∷ fs) here h
      by false more = put P g (with_flight f fs) (h.each 0 g refl) more

  pub with_all : (P : Flight C → Type 0) (to : Side) (number : ℕ) (carried : C) → ((tick : ℕ) → P (record { tick = tick; to = to; number = number; carried = carried })) → (ticks : List ℕ) (fs : List (Flight C))
      → Every P fs → Every P (with_flights to number carried ticks fs)
  with_all P to number carried new [] fs h = h
  with_all P to number carried new (tick ∷ ticks) fs h = with_all P to number carried new ticks _ (with_one P (record { tick = tick; to = to; number = number; carried = carried }) fs (new tick) h)

  -- ---- the link

  abbrev Alike : Flight C → Flight C → Type 0
  Alike f g = g.to ≡ f.to → g.number ≡ f.number → f.number < 2 ^ 64 - 1 → g.carried ≡ f.carried

  abbrev pub Counted : LinkState C → Flight C → Type 0
  Counted link f = f.number ≤ segments_sent (peer f.to) link

  pub record LinkIs (link : LinkState C) : Type 0 where
    pub low : Every (Counted link) link.under_way
    most_a : link.from_a ≤ 2 ^ 64 - 1
    most_b : link.from_b ≤ 2 ^ 64 - 1
    alike : Every (λ f. Every (Alike f) link.under_way) link.under_way

  -- an earlier copy, or one of the segment that is sent
  data Old (fs : List (Flight C)) (to : Side) (number : ℕ) (carried : C) (g : Flight C) : Type 0 where
    before : (i : ℕ) → slice_get fs i ≡ Some g → Old fs to number carried g
    fresh : g.to ≡ to → g.number ≡ number → g.carried ≡ carried → Old fs to number carried g

  -- no earlier copy has the number of the segment that is sent
  apart : (sent : ℕ) (g : Flight C) (link : LinkState C) (from : Side) → segments_sent from link ≡ sent → Counted link g → g.to ≡ peer from → g.number ≡ next_number from link → g.number < 2 ^ 64 - 1 → ⊥
  apart sent g link A is low to number few = let most : g.number ≤ link.from_a = subst (λ s. g.number ≤ segments_sent (peer s) link) to low in omega (arith, number, few, most)
  apart sent g link B is low to number few = let most : g.number ≤ link.from_b = subst (λ s. g.number ≤ segments_sent (peer s) link) to low in omega (arith, number, few, most)

  alike_so : (link : LinkState C) (from : Side) (carried : C) → LinkIs link → (f g : Flight C) → Old link.under_way (peer from) (next_number from link) carried f → Old link.under_way (peer from) (next_number from link) carried g
      → Alike f g
  alike_so link from carried h f g (before i there) (before j here) to number few = (h.alike.each i f there).each j g here to number few
  alike_so link from carried h f g (fresh f_to f_number f_is) (fresh g_to g_number g_is) to number few = g_is ∙ sym f_is
  alike_so link from carried h f g (before i there) (fresh g_to g_number g_is) to number few =
      absurd (apart (segments_sent from link) f link from refl (h.low.each i f there) (sym to ∙ g_to) (sym number ∙ g_number) few)
  alike_so link from carried h f g (fresh f_to f_number f_is) (before j here) to number few =
      absurd (apart (segments_sent from link) g link from refl (h.low.each j g here) (to ∙ f_to) (number ∙ f_number) (subst (λ n. n < 2 ^ 64 - 1) (sym number) few))

  -- counts never fall
  counted_a : (link next : LinkState C) (f : Flight C) → next.from_a ≡ next_number A link → next.from_b ≡ link.from_b → link.from_a ≤ 2 ^ 64 - 1 → Counted link f → Counted next f
  counted_a link next f a b most low = by f.to low
    where
      by : (s : Side) → f.number ≤ segments_sent (peer s) link → f.number ≤ segments_sent (peer s) next
      by A is = omega (arith, is, b)
      by B is = omega (arith, is, a, most)

  counted_same : (link next : LinkState C) (f : Flight C) → next.from_a ≡ link.from_a → next.from_b ≡ link.from_b → Counted link f → Counted next f
  counted_same link next f a b low = by f.to low
    where
      by : (s : Side) → f.number ≤ segments_sent (peer s) link → f.number ≤ segments_sent (peer s) next
      by A is = omega (arith, is, b)
      by B is = omega (arith, is, a)

  counted_b : (link next : LinkState C) (f : Flight C) → next.from_b ≡ next_number B link → next.from_a ≡ link.from_a → link.from_b ≤ 2 ^ 64 - 1 → Counted link f → Counted next f
  counted_b link next f b a most low = by f.to low
    where
      by : (s : Side) → f.number ≤ segments_sent (peer s) link → f.number ≤ segments_sent (peer s) next
      by A is = omega (arith, is, b, most)
      by B is = omega (arith, is, a)

  sent_is : (strip alter : Side → C → C) (from : Side) (carried : C) (size now : ℕ) (link : LinkState C) → LinkIs link → LinkIs (after_send strip alter from carried size now link)
  sent_is strip alter A carried size now link h = record {
    low = record { each = λ i f at. counted f (old.each i f at) };
    most_a = omega (arith, h.most_a);
    most_b = omega (arith, h.most_b);
    alike = record { each = λ i f at. record { each = λ j g here. alike_so link A _ h f g (old.each i f at) (old.each j g here) } };
  }
    where
      next : LinkState C
      next = after_send strip alter A carried size now link

      old : Every (Old link.under_way B (next_number A link) (as_it_arrives strip alter A carried now link)) next.under_way
      old = with_all (Old link.under_way B (next_number A link) (as_it_arrives strip alter A carried now link)) B (next_number A link) (as_it_arrives strip alter A carried now link) (λ tick. fresh refl refl refl)
          (arrivals (fate_at A (next_number A link) size now link) (first_arrival A (next_number A link) size now link)) link.under_way (record { each = λ i g at. before i at })

      counted : (f : Flight C) → Old link.under_way B (next_number A link) (as_it_arrives strip alter A carried now link) f → Counted next f
      counted f (before i there) = counted_a link next f refl refl h.most_a (h.low.each i f there)
      counted f (fresh to number is) = subst (λ s. f.number ≤ segments_sent (peer s) next) (sym to) (omega (arith, number))
  sent_is strip alter B carried size now link h = record {
    low = record { each = λ i f at. counted f (old.each i f at) };
    most_a = omega (arith, h.most_a);
    most_b = omega (arith, h.most_b);
    alike = record { each = λ i f at. record { each = λ j g here. alike_so link B _ h f g (old.each i f at) (old.each j g here) } };
  }
    where
      next : LinkState C
      next = after_send strip alter B carried size now link

      old : Every (Old link.under_way A (next_number B link) (as_it_arrives strip alter B carried now link)) next.under_way
      old = with_all (Old link.under_way A (next_number B link) (as_it_arrives strip alter B carried now link)) A (next_number B link) (as_it_arrives strip alter B carried now link) (λ tick. fresh refl refl refl)
          (arrivals (fate_at B (next_number B link) size now link) (first_arrival B (next_number B link) size now link)) link.under_way (record { each = λ i g at. before i at })

      counted : (f : Flight C) → Old link.under_way A (next_number B link) (as_it_arrives strip alter B carried now link) f → Counted next f
      counted f (before i there) = counted_b link next f refl refl h.most_b (h.low.each i f there)
      counted f (fresh to number is) = subst (λ s. f.number ≤ segments_sent (peer s) next) (sym to) (omega (arith, number))

  delivered_is : (due : Due) (link : LinkState C) → LinkIs link → LinkIs (after_delivery due link)
  delivered_is due link h = by (position (is_due due) link.under_way)
    where
      by : (o : Option ℕ) → LinkIs (record link { under_way = without o link.under_way })
      by None = record { low = h.low; most_a = h.most_a; most_b = h.most_b; alike = h.alike }
      by (Some place) = record {
        low = record { each = λ i f at. let there = in_removed link.under_way place i f at in counted_same link (record link { under_way = without (Some place) link.under_way }) f refl refl (h.low.each there.0 f there.1) };
        most_a = h.most_a;
        most_b = h.most_b;
        alike = record {
          each = λ i f at. let there = in_removed link.under_way place i f at in
              record { each = λ j g here. let other = in_removed link.under_way place j g here in (h.alike.each there.0 f there.1).each other.0 g other.1 };
        };
      }

  step_is : {d : Duty} (k : Codec C) (p q : PathState C) → LinkStep d k p q → LinkIs p.link → LinkIs q.link
  step_is k p q (stays is) h = subst LinkIs (sym is) h
  step_is k p q (hands from carried size still is) h = subst LinkIs (sym is) (sent_is (k.strips p.profile.spelling) (k.alters p.profile.spelling) from carried size p.clock p.link h)
  step_is k p q (delivers event due next is) h = subst LinkIs (sym is) (delivered_is due p.link h)
  step_is k p q (is_cut line next action is dead) h = subst LinkIs (sym is) (record { low = record { each = λ i f there. cc }; most_a = h.most_a; most_b = h.most_b; alike = record { each = λ i f there. cc } })

  -- ---- what arrives

  found_so : (test : Flight C → Bool) (fs : List (Flight C)) (i : ℕ) (f : Flight C) → slice_get fs i ≡ Some f → test f ≡ true → (g : Flight C) × (find test fs ≡ Some g)
  found_so test [] i f there is = cc
  found_so test (x ∷ xs) zero f there is = (x, ap (λ b. if b then Some x else find test xs) (ap test (same_Some x f there) ∙ is))
  found_so test (x ∷ xs) (suc i) f there is = by (test x) (found_so test xs i f there is)
    where
      by : (b : Bool) → (g : Flight C) × (find test xs ≡ Some g) → (g : Flight C) × ((if b then Some x else find test xs) ≡ Some g)
      by true rest = (x, refl)
      by false rest = rest

  arrives_so : (p : PathState C) → LinkIs p.link → CopiesArriveSo p
  arrives_so p h f there few =
      let at : slice_get p.link.under_way there.at ≡ Some f = there.there ∙ ap Some there.holds in
      let found = found_so (is_due (due_of f)) p.link.under_way there.at f at (due_now f) in
      let others : Every (Alike f) p.link.under_way = h.alike.each there.at f at in
      let is = find_every (Alike f) (is_due (due_of f)) p.link.under_way found.0 others found.1 in
      let parts = and_parts (found.0.tick == f.tick) (same_side found.0.to f.to && found.0.number == f.number) is.1 in
      let more = and_parts (same_side found.0.to f.to) (found.0.number == f.number) parts.1 in
      record { first = found.0; there = found.1; same = is.0 (one_side found.0.to f.to more.0) (eqb-true found.0.number f.number more.1) few }
    where
      due_now : (f : Flight C) → is_due (due_of f) f ≡ true
      due_now f = ap (λ b. b && (same_side f.to f.to && f.number == f.number)) (eq-eqb f.tick f.tick refl) ∙ ap (λ b. b && f.number == f.number) (same_sides f.to) ∙ eq-eqb f.number f.number refl

  -- ---- the world

  takes_is : (k : Codec C) (r : Reply) (p : PathState C) → LinkIs p.link → LinkIs (takes k r p).link
  takes_is k r p h = by p.agenda
    where
      by : (ds : List Duty) → LinkIs (takes k r (with_agenda ds p)).link
      by [] = h
      by (d ∷ ds) =
          let x : PathState C = with_agenda (d ∷ ds) p in let q : PathState C = answered k d r x in
          subst LinkIs (sym (settled_lasts LinkStays links_last q.agenda q)) (step_is k x q (link_step k d r x) h)

  begins_is : (p : PathState C) → LinkIs p.link → LinkIs (begins_turn p).link
  begins_is p h = subst LinkIs (sym (settled_lasts LinkStays links_last start_of_turn (with_agenda start_of_turn p))) h

  abbrev pub LinkMember : Actor C → Type 0
  LinkMember = HoldsOfKind (λ app. Unit {0}) (λ (p : PathState C). LinkIs p.link)

  member_takes_is : (k : Codec C) (r : Reply) (m : Actor C) → LinkMember m → LinkMember (member_takes k r m)
  member_takes_is k r (App a) h = tt
  member_takes_is k r (Path p) h = takes_is k r p h

  member_begins : (m : Actor C) → LinkMember m → LinkMember (member_next m)
  member_begins (App a) h = tt
  member_begins (Path p) h = begins_is (record p { clock = p.until; until = p.until + 100 }) h

  member_so : (m : Actor C) → LinkMember m → HoldsOfKind (λ app. Unit {0}) CopiesArriveSo m
  member_so (App a) h = tt
  member_so (Path p) h = arrives_so p h

  -- at every moment
  pub each_link : (k : Codec C) (start : Start) (turns : List Turn) → Every (λ c. LinkMember c.member) (world_run k turns (opened_world start)).crew
  each_link k start turns = run_lifted k (λ c. LinkMember c.member) (λ books c x asks h. member_takes_is k (answer_to books x) c.member h) (λ stamp c over h. member_begins c.member h) turns (opened_world start)
      (opened_lifted (λ c. LinkMember c.member) start tt tt (λ number plan there. begins_is (waiting_path (path_begins start number plan) start.lines)
      (record { low = record { each = λ i f there. cc }; most_a = omega arith; most_b = omega arith; alike = record { each = λ i f there. cc } })))

  pub copies_arrive_as_sent : (k : Codec C) → Always k (λ start w. CopiesArriveAsSent w)
  copies_arrive_as_sent k start turns = record { each = λ actor c there. member_so c.member ((each_link k start turns).each actor c there) }
