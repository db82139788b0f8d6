-- While none of the ends of path 0 is dead the peer of an end that has both SYNs has both, too: no copy comes that says so before.
use Rattle.std.proofs.Common.{◌≡◌, refl, sym, subst, ap, ◌∙◌, ◌⊎◌, inl, inr, ⊎_elim, ℕ, ◌+◌, ◌<◌, ◌≤◌, ◌&&◌, ◌==◌, nat_lt, zero, suc, arith, Bool, true, false, true≢false, Option, Some, None, option_map, List, [], ◌∷◌}
use Rattle.std.specs.List.{list_any}
use Rattle.std.proofs.lemmas.Bool.{and_parts, both_ways, cases_lt, lt-ltb}
use Rattle.std.proofs.lemmas.Option.{same_Some}
use Rattle.path_segments.specs.Heard.{HeardSegment}
use Rattle.path_segments.specs.Laws.{meant}
use Rattle.path_segments.specs.Spelled.{PlainSegment}
use Rattle.path_segments.specs.declared.position.HeardPosition.TheVariants.{At}
use Rattle.sides.specs.declared.side.Side.{Side}
use Rattle.sides.specs.declared.side.Side.TheVariants.{A, B}
use Rattle.sides.specs.Side.{peer}
use Rattle.link_script.specs.Places.{same_side}
use Rattle.link_model.specs.Steps.{arriving, is_due}
use Rattle.link_model.specs.declared.flight.Flight.{Flight}
use Rattle.stream_lanes.specs.Words.{Every}
use Rattle.subflow_tcp.specs.Judging.{meaning_of}
use Rattle.subflow_tcp.specs.States.{is_dead, is_waiting}
use Rattle.subflow_tcp.specs.declared.handshake.State.{State}
use Rattle.subflow_tcp.specs.declared.handshake.State.TheVariants as phase
use Rattle.subflow_tcp.specs.declared.verdicts.Meaning.{Meaning}
use Rattle.subflow_tcp.specs.declared.verdicts.Meaning.TheVariants as means
use Rattle.actor_desk.specs.declared.ask.Reply.{Reply}
use Rattle.path_agenda.specs.declared.duty.Duty.{Duty}
use Rattle.path_agenda.specs.declared.duty.Duty.TheVariants as duties
use Rattle.path_agenda.specs.declared.duty.AskDuty.TheVariants as ask_duties
use Rattle.path_core.specs.Arrival.{acknowledged_in, copy_of, heard_in}
use Rattle.path_core.specs.Duties.{answered, passed, stands}
use Rattle.path_core.specs.End.{PathEnd}
use Rattle.path_core.specs.Judged.{judged_of}
use Rattle.path_core.specs.Looking.{first_sends, segment_sent}
use Rattle.path_core.specs.MpJoin.{is_joined}
use Rattle.path_core.specs.OptionsIn.{items_of, options_heard}
use Rattle.path_core.specs.Start.{waiting_path}
use Rattle.path_core.specs.State.{PathState, end_at}
use Rattle.path_core.specs.Steps.{begins_turn, next_round, takes}
use Rattle.path_core.specs.Turns.{FirstStands}
use Rattle.path_core.specs.Values.{Carried, as_arrived, values}
use Rattle.path_core.specs.declared.events.Event.TheVariants as happenings
use Rattle.path_core.specs.declared.judged.Judged.TheVariants as judged
use Rattle.world_laws.specs.declared.member.Member.TheVariants.{App, Path}
use Rattle.world_laws.specs.Actors.{Actor}
use Rattle.world_laws.specs.Openings.{PathPlan, Start, opened_world, path_begins}
use Rattle.world_laws.specs.RoundDone.{reached}
use Rattle.world_laws.specs.Worlds.{Turn}
use Rattle.world_laws.proofs.Keys.WhatWakes.{next_happens}
use Rattle.world_laws.proofs.Rounds.Lifting.{opened_lifted}
use Rattle.world_laws.proofs.Whole.Ends.{MeansIs, means_so}
use Rattle.world_laws.proofs.Whole.Falls.{MemberUpright, PathUpright, each_upright}
use Rattle.world_laws.proofs.Worlds.Finding.{find_every, one_side}
use Rattle.world_laws.specs.Writes.{PathView}
use Rattle.world_laws.proofs.Writes.Paths.{passes_no_more}
use Rattle.world_laws.proofs.Writes.Steps.{Lasts, begins_lasts, takes_lasts}
use Rattle.whole_paths.specs.AgendaSteps.{hears_join}
use Rattle.whole_paths.specs.AsFar.{stage}
use Rattle.whole_paths.specs.Brought.{Comes, IsTo}
use Rattle.whole_paths.specs.Finish.{IsPathAt}
use Rattle.whole_paths.specs.Mild.{IsMildStart, IsNeverBroken, IsUnbroken, LinkIsMild}
use Rattle.whole_paths.specs.Opening.{opens_to}
use Rattle.whole_paths.specs.OpeningStates.{GoByTheHandshake, IsOfA, IsOfB}
use Rattle.whole_paths.specs.OpeningStates.{IsOfA as of_a}
use Rattle.whole_paths.specs.OpeningStates.{IsOfB as of_b}
use Rattle.whole_paths.specs.OpeningWaits.{IsAlive, IsOpening, LivingEndsOpenOrArePast}
use Rattle.whole_paths.specs.OpeningWaits.{IsOpening as opens}
use Rattle.whole_paths.specs.Rising.{OpensBy, is_joining}
use Rattle.whole_paths.specs.Rising.{OpensBy as opens_by}
use Rattle.whole_paths.specs.Syns.{IsToOpen as to_open}
use Rattle.whole_paths.proofs.Breaking.{never_breaks}
use Rattle.whole_paths.proofs.ByTurns.{Of, OfFirst, each_first_moment}
use Rattle.whole_paths.proofs.Clearing.{AllClear, PathClears, each_clears}
use Rattle.whole_paths.proofs.Duties.{answered_steps, passed_steps}
use Rattle.whole_paths.proofs.Early.{PathEarly, begins_early, takes_early}
use Rattle.whole_paths.proofs.EarlySegments.{AllEarly, Moment, SaysEarly, next_early}
use Rattle.whole_paths.proofs.Mild.{links_are_mild}
use Rattle.whole_paths.proofs.OpenCourses.{IsFirstPath, each_first}
use Rattle.whole_paths.proofs.OpeningStates.{ends_go_by_the_handshake}
use Rattle.whole_paths.proofs.Reached.{EndsAreReached, each_is_reached}
use Rattle.whole_paths.proofs.Rising.{begins_dead, next_dead, takes_open}
use Rattle.whole_paths.proofs.Saying.{ToSend}
use Rattle.whole_paths.proofs.UnderWay.{OfSent, next_all, takes_all}
use Rattle.whole_paths.proofs.Waiting.{Far, far_then, path_far, same_far}

-- ---- how far both ends are

pub record AllFar (p q : PathState Carried) : Type 0 where
  pub at : (s : Side) → Far (end_at s p) (end_at s q)

far_lasts : Lasts {C = Carried} AllFar
far_lasts = record {
  agenda = λ ds p. record { at = λ s. same_far (end_at s p) };
  chains = λ p q r x y. record { at = λ s. far_then (end_at s p) (end_at s q) (end_at s r) (x.at s) (y.at s) };
  passes = λ d p. record { at = path_far p (passed d p) (passed_steps d p) };
}

pub takes_far : (r : Reply) (p : PathState Carried) → AllFar p (takes values r p)
takes_far r p = takes_lasts AllFar far_lasts values r p (λ d. record { at = path_far p (answered values d r p) (answered_steps values d r p) })

pub begins_far : (p : PathState Carried) → AllFar p (begins_turn p)
begins_far p = begins_lasts AllFar far_lasts p

pub next_far : (p : PathState Carried) → AllFar p (next_round p)
next_far p = record { at = elim [ A ↦ h.at A | B ↦ h.at B ] }
  where
    h : AllFar (record p { clock = p.until; until = p.until + 100 }) (next_round p)
    h = begins_far (record p { clock = p.until; until = p.until + 100 })

-- ---- copies

-- a segment to this side says nothing that takes an end too far
abbrev MetBy : PathState Carried → Side → PlainSegment → Type 0
MetBy p A x = 2 ≤ stage p.b.tcp.state
MetBy p B x = (x.acknowledged ≡ None) ⊎ (2 ≤ stage p.a.tcp.state)

abbrev CopyMet : PathState Carried → Flight Carried → Type 0
CopyMet p f = (f.carried.segment.rst ≡ true) ⊎ MetBy p f.to f.carried.segment

met_later : (p q : PathState Carried) → AllFar p q → (s : Side) (x : PlainSegment) → MetBy p s x → MetBy q s x
met_later p q far A x h = let up = (far.at B).subflow.state in omega (arith, h, up)
met_later p q far B x (inl none) = inl none
met_later p q far B x (inr h) = inr (let up = (far.at A).subflow.state in omega (arith, h, up))

all_later : (p q : PathState Carried) → AllFar p q → (fs : List (Flight Carried)) → Every (CopyMet p) fs → Every (CopyMet q) fs
all_later p q far fs h = record { each = λ i f there. ⊎_elim (λ rst. inl rst) (λ met. inr (met_later p q far f.to f.carried.segment met)) (h.each i f there) }

-- ---- a copy that comes

module _ (p : PathState Carried) (first : is_joined p.profile ≡ false) (copies : Every (CopyMet p) p.link.under_way) (c : Comes values p) (m : Meaning) (is : IsTo values p c (judged.As m)) where
  abbrev s : Side
  s = c.due.to

  abbrev e : PathEnd
  e = end_at s p

  abbrev h : HeardSegment
  h = options_heard e c.segment

  same_as : (x y : Meaning) → judged.As x ≡ judged.As y → x ≡ y
  same_as x y equal = cc

  fits : MeansIs (copy_of h) e.tcp m
  fits = subst (MeansIs (copy_of h) e.tcp)
      (same_as (meaning_of (copy_of h) e.tcp) m (sym (ap (λ j. judged_of j h.rst (items_of j s h) (meaning_of (copy_of h) e.tcp) e) first) ∙ is)) (means_so (copy_of h) e.tcp)

  -- what opens an end is no reset
  no_reset : (n : Meaning) → MeansIs (copy_of h) e.tcp n → 0 < opens_to n → (copy_of h).rst ≡ false
  no_reset means.Opens fits some = fits.1.1.0
  no_reset (means.Accepts acknowledged) fits some = fits.1.1
  no_reset (means.Taken pos acknowledged) fits some = fits.1.1.0
  no_reset _ fits some = absurd (omega (arith, some))

  record Found : Type 0 where
    flight : Flight Carried
    to : flight.to ≡ s
    met : CopyMet p flight
    heard : meant (as_arrived flight.carried) ≡ c.segment

  found : Found
  found = by (arriving c.due p.link) refl c.heard
    where
      by : (o : Option (Flight Carried)) → arriving c.due p.link ≡ o → heard_in values s o p ≡ Some c.segment → Found
      by None there heard = cc
      by (Some f) there heard =
          let row = find_every (CopyMet p) (is_due c.due) p.link.under_way f copies there in
          let parts = and_parts (f.tick == c.due.tick) (same_side f.to s && f.number == c.due.copy) row.1 in
          record { flight = f; to = one_side f.to s (and_parts (same_side f.to s) (f.number == c.due.copy) parts.1).0; met = row.0; heard = same_Some _ c.segment heard }

  abbrev sent : PlainSegment
  sent = found.flight.carried.segment

  same_rst : sent.rst ≡ c.segment.rst
  same_rst = ap (λ (x : HeardSegment). x.rst) found.heard

  met_by : 0 < opens_to m → MetBy p s sent
  met_by some = ⊎_elim (λ rst. absurd (both_ways sent.rst (same_rst ∙ no_reset m fits some) rst)) (λ met. subst (λ t. MetBy p t sent) found.to met) found.met

  acked : (copy_of h).acknowledged ≡ acknowledged_in (option_map (λ n. At n) sent.acknowledged)
  acked = ap (λ (x : HeardSegment). acknowledged_in x.acknowledged) (sym found.heard)

  pub met_a : s ≡ A → 0 < opens_to m → 2 ≤ stage p.b.tcp.state
  met_a at some = subst (λ t. MetBy p t sent) at (met_by some)

  pub met_b : s ≡ B → IsOfB p.b.tcp.state → 3 ≤ opens_to m → 2 ≤ stage p.a.tcp.state
  met_b at b far = ⊎_elim (λ none. absurd (unacked m fits far none)) (λ met. met) (subst (λ t. MetBy p t sent) at (met_by (omega (arith, far))))
    where
      never : (x : State) → IsOfB x → x ≡ phase.SynSent → ⊥
      never x (of_b.listening is) opens = let both : phase.Listen ≡ phase.SynSent = sym is ∙ opens in cc
      never x (of_b.half_open is) opens = let both : phase.SynReceived ≡ phase.SynSent = sym is ∙ opens in cc
      never x (of_b.past high) opens = (let low = ap stage opens in omega (arith, low, high))

      unacked : (n : Meaning) → MeansIs (copy_of h) e.tcp n → 3 ≤ opens_to n → sent.acknowledged ≡ None → ⊥
      unacked (means.Taken pos acknowledged) fits far none =
          let some : None ≡ Some acknowledged = sym (acked ∙ ap (λ o. acknowledged_in (option_map (λ n. At n) o)) none) ∙ fits.1.1.1.1 in cc
      unacked (means.Accepts acknowledged) fits far none = never p.b.tcp.state b (subst (λ t. (end_at t p).tcp.state ≡ phase.SynSent) at fits.0)
      unacked means.Opens fits far none = omega (arith, far)
      unacked _ fits far none = omega (arith, far)

-- ---- path 0

-- what is known of it at a moment
pub record Given (start : Start) (p : PathState Carried) : Type 0 where
  first : IsFirstPath start p
  pub states : GoByTheHandshake p
  reached : EndsAreReached p
  unbroken : IsUnbroken p
  clears : AllClear p.agenda p
  pub upright : PathUpright p
  link : LinkIsMild start.lines p

pub record PathMet (p : PathState Carried) : Type 0 where
  pub early : PathEarly p.agenda p
  -- A's end doesn't wait for its tick
  pub awake : 1 ≤ stage p.a.tcp.state
  copies : Every (CopyMet p) p.link.under_way
  pub a : 2 ≤ stage p.a.tcp.state → is_dead p.a.tcp.state ≡ false → 2 ≤ stage p.b.tcp.state
  pub b : 3 ≤ stage p.b.tcp.state → is_dead p.b.tcp.state ≡ false → 2 ≤ stage p.a.tcp.state

pub living_before : (e f : PathEnd) → Far e f → is_dead f.tcp.state ≡ false → is_dead e.tcp.state ≡ false
living_before e f far living = by (is_dead e.tcp.state) refl
  where
    high : (x : State) → 7 ≤ stage x → is_dead x ≡ true
    high phase.Dead up = refl
    high x up = absurd (omega (arith, up))

    dead_far : (x y : State) → is_dead x ≡ true → stage x ≤ stage y → is_dead y ≡ true
    dead_far phase.Dead y dead up = high y up
    dead_far x y dead up = absurd (true≢false (sym dead))

    by : (b : Bool) → is_dead e.tcp.state ≡ b → b ≡ false
    by false is = refl
    by true is = absurd (both_ways (is_dead f.tcp.state) living (dead_far e.tcp.state f.tcp.state is far.subflow.state))

module _ (start : Start) (p : PathState Carried) (g : Given start p) (h : PathMet p) where
  pub moment : Moment start p
  moment = record { first = g.first; states = g.states; awake = h.awake; reached = g.reached; early = h.early; unbroken = g.unbroken; clears = g.clears; settled = g.upright.passes.settled }

  -- no path joins here
  pub never_waits : is_waiting p.a.tcp.state ≡ true → ⊥
  never_waits is = by p.a.tcp.state h.awake is
    where
      by : (x : State) → 1 ≤ stage x → is_waiting x ≡ true → ⊥
      by phase.Waiting up is = omega (arith, up)
      by _ up is = true≢false (sym is)

  pub never_joins : (d : Duty) (others : List Duty) → p.agenda ≡ d ∷ others → is_joining d ≡ true → ⊥
  never_joins d others is joins = by d (subst (λ ds. FirstStands ds p) is g.upright.passes.settled) (ap (list_any hears_join) (sym is) ∙ h.early.joins) joins
    where
      by : (d : Duty) → stands d p ≡ true → list_any hears_join (d ∷ others) ≡ false → is_joining d ≡ true → ⊥
      by (duties.Ask ask_duties.JoinAgain) due none joins = never_waits (and_parts (is_waiting p.a.tcp.state) _ due).0
      by (duties.Ask (ask_duties.JoinHeard s)) due none joins = true≢false none
      by _ due none joins = true≢false (sym joins)

  opens_a : OpensBy values 2 A p → 2 ≤ stage p.b.tcp.state
  opens_a (opens_by.copy c to m is far) = met_a p g.first.first h.copies c m is to (omega (arith, far))
  opens_a (opens_by.joins tick next) = absurd (never_waits (next_happens p (happenings.Joins tick) next))
  opens_a (opens_by.duty d others is joins) = absurd (never_joins d others is joins)

  opens_b : OpensBy values 3 B p → 2 ≤ stage p.a.tcp.state
  opens_b (opens_by.copy c to m is far) = met_b p g.first.first h.copies c m is to g.states.b far
  opens_b (opens_by.joins tick next) = absurd (never_waits (next_happens p (happenings.Joins tick) next))
  opens_b (opens_by.duty d others is joins) = absurd (never_joins d others is joins)

  sent_met : (q : PathState Carried) → AllFar p q → OfSent (CopyMet q) (first_sends p.agenda p) p
  sent_met q far = by (first_sends p.agenda p) (next_early start p moment)
    where
      says : (from : Side) (x : PlainSegment) → SaysEarly p from x → (x.rst ≡ true) ⊎ MetBy q (peer from) x
      says A x early = ⊎_elim
          (λ low. ⊎_elim (λ rst. inl rst) (λ none. inr (inl none.1)) (early (omega (arith, low))))
          (λ high. inr (inr (let up = (far.at A).subflow.state in omega (arith, high, up))))
          (cases_lt (stage p.a.tcp.state) 2)
      says B x early = ⊎_elim
          (λ low. ⊎_elim (λ rst. inl rst) (λ none. absurd (let other : B ≡ A = none.0 in cc)) (early (omega (arith, low))))
          (λ high. inr (let up = (far.at B).subflow.state in omega (arith, high, up)))
          (cases_lt (stage p.b.tcp.state) 2)

      by : (o : Option ToSend) → AllEarly o p → OfSent (CopyMet q) o p
      by None early = tt
      by (Some t) early = λ f to carried. ⊎_elim
          (λ rst. inl (ap (λ (x : Carried). x.segment.rst) carried ∙ rst))
          (λ met. inr (subst (λ s. MetBy q s f.carried.segment) (sym to) (subst (λ (x : PlainSegment). MetBy q (peer t.from) x) (sym (ap (λ (x : Carried). x.segment) carried)) met)))
          (says t.from (segment_sent p t) early)

  -- by a turn
  module _ (q : PathState Carried) (far : AllFar p q) (rise_a : 2 ≤ stage q.a.tcp.state → stage p.a.tcp.state < 2 → is_dead q.a.tcp.state ≡ false → 2 ≤ stage p.b.tcp.state)
      (rise_b : 3 ≤ stage q.b.tcp.state → stage p.b.tcp.state < 3 → is_dead q.b.tcp.state ≡ false → 2 ≤ stage p.a.tcp.state)
      (early : PathEarly q.agenda q) (copies : Every (CopyMet q) q.link.under_way) where
    goes_met : PathMet q
    goes_met = record {
      early = early;
      awake = let low = h.awake in let up = (far.at A).subflow.state in omega (arith, low, up);
      copies = copies;
      a = λ high living. let up = (far.at B).subflow.state in let two = ⊎_elim (λ low. rise_a high low living) (λ was. h.a was (living_before p.a q.a (far.at A) living)) (cases_lt (stage p.a.tcp.state) 2) in omega (arith, two, up);
      b = λ high living. let up = (far.at A).subflow.state in let two = ⊎_elim (λ low. rise_b high low living) (λ was. h.b was (living_before p.b q.b (far.at B) living)) (cases_lt (stage p.b.tcp.state) 3) in omega (arith, two, up);
    }

  takes_met : (r : Reply) → PathMet (takes values r p)
  takes_met r =
      let q : PathState Carried = takes values r p in let far = takes_far r p in
      goes_met q far
      (λ high low living. ⊎_elim (λ dead. absurd (both_ways (is_dead q.a.tcp.state) living dead)) (λ by. opens_a by) (takes_open 2 (omega arith) (omega arith) values r p A low high))
      (λ high low living. ⊎_elim (λ dead. absurd (both_ways (is_dead q.b.tcp.state) living dead)) (λ by. opens_b by) (takes_open 3 (omega arith) (omega arith) values r p B low high))
      (takes_early r p g.first.first g.states.b (g.upright.holds g.first.first) h.early)
      (takes_all (CopyMet q) r p g.link.strips g.link.alters (sent_met q far) (all_later p q far p.link.under_way h.copies))

  next_met : PathMet (next_round p)
  next_met =
      let q : PathState Carried = next_round p in let far = next_far p in
      goes_met q far
      (λ high low living. absurd (both_ways (is_dead q.a.tcp.state) living (next_dead 2 (omega arith) (omega arith) values A p low high)))
      (λ high low living. absurd (both_ways (is_dead q.b.tcp.state) living (next_dead 3 (omega arith) (omega arith) values B p low high)))
      (begins_early (record p { clock = p.until; until = p.until + 100 }) h.early.asked)
      (next_all (CopyMet q) p (all_later p q far p.link.under_way h.copies))

-- ---- the opening

profile_lasts : Lasts {C = Carried} (λ p q. q.profile ≡ p.profile)
profile_lasts = record {
  agenda = λ ds p. refl;
  chains = λ p q r one other. other ∙ one;
  passes = λ d p. ap (λ (v : PathView Carried). v.profile) (passes_no_more d p).same;
}

begins_profile : (p : PathState Carried) → (begins_turn p).profile ≡ p.profile
begins_profile p = begins_lasts (λ p q. q.profile ≡ p.profile) profile_lasts p

opened_met : (start : Start) (number : ℕ) (plan : PathPlan) → is_joined (begins_turn {C = Carried} (waiting_path (path_begins start number plan) start.lines)).profile ≡ false
    → PathMet (begins_turn (waiting_path (path_begins start number plan) start.lines))
opened_met start zero plan first =
    let p : PathState Carried = waiting_path (path_begins start 0 plan) start.lines in let q : PathState Carried = begins_turn p in let far = begins_far p in
    record {
      early = begins_early p (λ is. absurd (true≢false (sym is)));
      awake = (far.at A).subflow.state;
      copies = record { each = λ i f there. cc };
      a = λ high living. absurd (both_ways (is_dead q.a.tcp.state) living (begins_dead 2 (omega arith) (omega arith) values A p (omega arith) high));
      b = λ high living. absurd (both_ways (is_dead q.b.tcp.state) living (begins_dead 3 (omega arith) (omega arith) values B p (omega arith) high));
    }
opened_met start (suc number) plan first = absurd (both_ways (nat_lt 0 (suc number)) (ap is_joined (sym (begins_profile (waiting_path {C = Carried} (path_begins start (suc number) plan) start.lines))) ∙ first) (lt-ltb 0 (suc number) (omega arith)))

-- ---- the world

module _ (start : Start) (mild : IsMildStart start) where
  given_first : (m : Actor Carried) → Of (IsFirstPath start) m → Of (λ (p : PathState Carried). GoByTheHandshake p) m → Of EndsAreReached m → Of IsNeverBroken m → Of PathClears m → MemberUpright m
      → Of (LinkIsMild start.lines) m → Of (Given start) m
  given_first (App a) first states reached unbroken clears upright link = tt
  given_first (Path p) first states reached unbroken clears upright link =
      record { first = first; states = states; reached = reached; unbroken = unbroken first.first; clears = clears first.first; upright = upright; link = link }

  pub given : (turns : List Turn) → OfFirst (Given start) (reached values start turns)
  given turns = record {
    each = λ c there. given_first c.member (each_first start turns mild.plain.size c there) ((ends_go_by_the_handshake values start turns).each 2 c there) ((each_is_reached values start turns).each 2 c there)
        ((never_breaks start turns mild).each 2 c there) ((each_clears values start turns).each 2 c there) ((each_upright start turns mild.plain mild.strips).each 2 c there) ((links_are_mild values start turns mild).each 2 c there);
  }

  opened_first : OfFirst PathMet (opened_world start)
  opened_first = record {
    each = λ c there. by c.member ((given []).each c there)
        ((opened_lifted (λ c. Of (λ (p : PathState Carried). is_joined p.profile ≡ false → PathMet p) c.member) start tt tt (λ number plan at. opened_met start number plan)).each 2 c there);
  }
    where
      by : (m : Actor Carried) → Of (Given start) m → Of (λ (p : PathState Carried). is_joined p.profile ≡ false → PathMet p) m → Of PathMet m
      by (App a) g h = tt
      by (Path p) g h = h g.first.first

  pub each_met : (turns : List Turn) → OfFirst PathMet (reached values start turns)
  each_met = each_first_moment values start (Given start) PathMet given opened_first (λ r p g h. takes_met start p g h r) (λ p g h. next_met start p g h)

  -- which wait there is
  open_or_past : (p : PathState Carried) → IsAlive p → GoByTheHandshake p → PathMet p → IsOpening p ⊎ ((s : Side) → 3 ≤ stage (end_at s p).tcp.state)
  open_or_past p alive states met = by states.a states.b
    where
      by : IsOfA p.a.tcp.state → IsOfB p.b.tcp.state → IsOpening p ⊎ ((s : Side) → 3 ≤ stage (end_at s p).tcp.state)
      by (of_a.waiting is) b = absurd (let up = met.awake in let none = ap stage is in omega (arith, up, none))
      by (of_a.sent is) (of_b.listening at) = inl (opens.syn A (to_open.asks refl is at))
      by (of_a.sent is) (of_b.half_open at) = inl (opens.syn B (to_open.answers refl is at))
      by (of_a.sent is) (of_b.past high) = absurd (let two = met.b high (alive.living B) in let one = ap stage is in omega (arith, two, one))
      by (of_a.past high) (of_b.listening at) = absurd (let two = met.a (omega (arith, high)) (alive.living A) in let none = ap stage at in omega (arith, two, none))
      by (of_a.past high) (of_b.half_open at) = inl (opens.answer high at)
      by (of_a.past high) (of_b.past higher) = inr (elim [ A ↦ high | B ↦ higher ])

  living : (turns : List Turn) (p : PathState Carried) → IsPathAt 0 (reached values start turns) p → IsAlive p → IsOpening p ⊎ ((s : Side) → 3 ≤ stage (end_at s p).tcp.state)
  living turns p here alive = open_or_past p alive
      (subst (Of (λ (x : PathState Carried). GoByTheHandshake x)) here.is ((ends_go_by_the_handshake values start turns).each 2 here.crew here.there))
      (subst (Of PathMet) here.is ((each_met turns).each here.crew here.there))

pub living_ends_open_or_are_past : LivingEndsOpenOrArePast
living_ends_open_or_are_past start turns mild p here alive = living start mild turns p here alive
