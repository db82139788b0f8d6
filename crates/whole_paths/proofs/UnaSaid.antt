-- SND.UNA is by each turn what it was, or what the copy acknowledges that is taken next.
use Rattle.std.proofs.Common.{◌≡◌, refl, sym, subst, ap, ◌∙◌, ◌⊎◌, inl, inr, ⊎_elim, ℕ, ◌+◌, ◌==◌, false, true≢false, ◌&&◌, Option, Some, None, List, [], ◌∷◌}
use Rattle.std.specs.Option.{option_map}
use Rattle.std.proofs.lemmas.Bool.{and_parts}
use Rattle.std.proofs.lemmas.Option.{same_Some}
use Rattle.path_segments.specs.declared.position.HeardPosition.TheVariants.{At}
use Rattle.path_segments.specs.Heard.{HeardSegment}
use Rattle.path_segments.specs.Laws.{meant}
use Rattle.sides.specs.declared.side.Side.{Side}
use Rattle.sides.specs.declared.side.Side.TheVariants.{A, B}
use Rattle.sides.specs.Side.{peer}
use Rattle.link_script.specs.Places.{same_side}
use Rattle.link_model.specs.Steps.{arriving, after_delivery, is_due}
use Rattle.link_model.specs.declared.flight.Due.{Due}
use Rattle.link_model.specs.declared.flight.Flight.{Flight}
use Rattle.stream_lanes.specs.Words.{Every}
use Rattle.subflow_tcp.specs.declared.verdicts.Meaning.{Meaning}
use Rattle.subflow_tcp.specs.declared.verdicts.Meaning.TheVariants as means
use Rattle.subflow_tcp.specs.Judging.{meaning_of}
use Rattle.actor_desk.specs.declared.ask.Reply.{Reply}
use Rattle.actor_desk.specs.Words.{tail_of, pick}
use Rattle.path_agenda.specs.Agenda.{start_of_turn, leaves, emission}
use Rattle.path_agenda.specs.declared.duty.Duty.{Duty}
use Rattle.path_agenda.specs.declared.duty.Duty.TheVariants as duties
use Rattle.path_agenda.specs.declared.duty.StepDuty.TheVariants as step_duties
use Rattle.path_store.specs.declared.lines.LineAction.{LineAction}
use Rattle.path_store.specs.declared.lines.LineAction.TheVariants as actions
use Rattle.path_core.specs.Addresses.{with_priority}
use Rattle.path_core.specs.Arrival.{acknowledged_in, judged_in, after_judged, copy_heard, heard_in, copy_of}
use Rattle.path_core.specs.Duties.{answered}
use Rattle.path_core.specs.End.{PathEnd}
use Rattle.path_core.specs.Events.{next_event, after_line, happens_if}
use Rattle.path_core.specs.Judged.{is_ignored, taken_as}
use Rattle.path_core.specs.MpJoin.{is_joined}
use Rattle.path_core.specs.OptionsIn.{items_of, options_heard}
use Rattle.path_core.specs.State.{PathState, at_tick, end_at, with_agenda}
use Rattle.path_core.specs.Steps.{settled, takes, next_round}
use Rattle.path_core.specs.Timer.{after_firing, timer_fired}
use Rattle.path_core.specs.Values.{Carried, values, as_arrived}
use Rattle.path_core.specs.declared.judged.Judged.{Judged}
use Rattle.path_core.specs.declared.judged.Judged.TheVariants as judged
use Rattle.path_core.specs.declared.events.Event.{Event}
use Rattle.path_core.specs.declared.events.Event.TheVariants as happenings
use Rattle.path_core.proofs.Judgements.{judged_taken}
use Rattle.world_laws.specs.declared.member.Member.TheVariants.{App, Path}
use Rattle.world_laws.specs.Actors.{Actor, member_takes, member_next}
use Rattle.world_laws.specs.StampedBooks.{answer_to}
use Rattle.world_laws.proofs.Worlds.Finding.{find_every, one_side}
use Rattle.world_laws.proofs.Writes.Steps.{settled_lasts}
use Rattle.whole_paths.specs.AgendaSteps.{is_gone}
use Rattle.whole_paths.specs.Copies.{IsUnderWay}
use Rattle.whole_paths.specs.UnaSaid.{EachUnaIsSaid, IsTakenNext, UnaFrom, UnasAreSaid}
use Rattle.whole_paths.specs.UnaSaid.{UnaFrom as una_from}
use Rattle.whole_paths.proofs.Agendas.{own_end}
use Rattle.whole_paths.proofs.Settling.{sides}
use Rattle.whole_paths.proofs.Turns.{turn_by}
use Rattle.whole_paths.proofs.Waiting.{gone_stays}
use Rattle.whole_paths.proofs.Came.{Acks, AllBoth, AllRest, Both, IsHeardAs, Rests, Unas, acks_of, answered_rest, at_end, begun_rests, both_last, calm, died_rests, fired_rests, heard_una, side, stay}
use Rattle.whole_paths.proofs.Came.Unas.{acked, killed, unmoved}

una_so : (s : Side) (p q : PathState Carried) → Rests (end_at s p) (end_at s q) → UnaFrom s p q
una_so s p q rest = ⊎_elim (λ dead. una_from.gone dead) (λ same. una_from.stays same) rest.una

una_then : (s : Side) (p q r : PathState Carried) → UnaFrom s p q → Both (end_at s q) (end_at s r) → UnaFrom s p r
una_then s p q r (una_from.gone dead) more = una_from.gone (gone_stays (end_at s q) (end_at s r) more.far dead)
una_then s p q r (una_from.stays same) more = ⊎_elim (λ dead. una_from.gone dead) (λ still. una_from.stays (still ∙ same)) more.rest.una
una_then s p q r (una_from.comes copy there to rst acks next) more = ⊎_elim
    (λ dead. una_from.gone dead)
    (λ still. una_from.comes copy there to rst (acks ∙ ap (λ n. Some n) (sym still)) (subst (λ n. IsTakenNext s n p copy) (sym still) next))
    more.rest.una

line_rest : (action : LineAction) (p : PathState Carried) → AllRest p (after_line action p)
line_rest actions.Die p = record { a = died_rests p.a; b = died_rests p.b }
line_rest (actions.Prio s backup) p = calm s (with_priority backup (end_at s p)) p _ refl refl refl refl
line_rest (actions.Announce s id) p = stay p _ refl refl
line_rest (actions.Withdraw s id) p = stay p _ refl refl

-- what is taken for this, and not ignored, is judged so
verdict_so : (j : Judged) (m : Meaning) → taken_as j ≡ m → is_ignored m ≡ false → j ≡ judged.As m
verdict_so (judged.As meaning) m is some = ap judged.As is
verdict_so judged.Asks m is some = absurd (true≢false (ap is_ignored is ∙ some))
verdict_so judged.Lacks m is some = absurd (true≢false (ap is_ignored is ∙ some))
verdict_so judged.Forged m is some = absurd (true≢false (ap is_ignored is ∙ some))

-- a copy that arrives
module _ (s : Side) (f : Flight Carried) (p : PathState Carried) where
  abbrev arrived_at_end : HeardSegment
  arrived_at_end = options_heard (end_at s p) (meant (as_arrived f.carried))

  abbrev verdict : Judged
  verdict = judged_in (is_joined p.profile) s arrived_at_end (end_at s p)

  abbrev end_then : PathEnd
  end_then = after_judged p.profile s p.clock arrived_at_end verdict (end_at s p)

  una_heard : Unas (copy_of arrived_at_end) (taken_as verdict) (end_at s p) end_then
  una_heard = heard_una p.profile s p.clock arrived_at_end (end_at s p) (taken_as verdict)
      (judged_taken arrived_at_end.rst (items_of (is_joined p.profile) s arrived_at_end) (end_at s p) (λ n. Acks (copy_of arrived_at_end) n) tt (is_joined p.profile) (meaning_of (copy_of arrived_at_end) (end_at s p).tcp) (acks_of (copy_of arrived_at_end) (end_at s p).tcp _ refl))

  abbrev path_then : PathState Carried
  path_then = copy_heard s (Some (meant (as_arrived f.carried))) p

  -- what the copy is taken to acknowledge it acknowledges
  said_so : (n : ℕ) → (copy_of arrived_at_end).acknowledged ≡ Some n → f.carried.segment.acknowledged ≡ Some n
  said_so n acks = by f.carried.segment.acknowledged acks
    where
      by : (o : Option ℕ) → acknowledged_in (option_map (λ n. At n) o) ≡ Some n → o ≡ Some n
      by None is = cc
      by (Some a) is = ap (λ n. Some n) (same_Some a n is)

  copy_una : (q : PathState Carried) → IsUnderWay f q → f.to ≡ s → ((t : Side) → (end_at t p).tcp.send.una ≡ (end_at t q).tcp.send.una) → ((n : ℕ) → IsHeardAs n (taken_as verdict) → IsTakenNext s n q f)
      → (t : Side) → UnaFrom t q path_then
  copy_una q there to same next t = by (sides t s)
    where
      other : (s t : Side) (a b g : PathEnd) → peer s ≡ t → pick t (pick s g a) (pick s b g) ≡ pick t a b
      other A A a b g is = cc
      other A B a b g is = refl
      other B A a b g is = refl
      other B B a b g is = cc

      own : (end_at s path_then) ≡ end_then
      own = own_end s end_then p.a p.b

      una_is : (end_at s path_then).tcp.send.una ≡ end_then.tcp.send.una
      una_is = ap (λ (e : PathEnd). e.tcp.send.una) own

      of_own : Unas (copy_of arrived_at_end) (taken_as verdict) (end_at s p) end_then → UnaFrom s q path_then
      of_own (unmoved is) = una_from.stays (una_is ∙ is ∙ same s)
      of_own (acked n acks rst is as_one) = una_from.comes f there to rst (said_so n acks ∙ ap (λ n. Some n) (sym (una_is ∙ is))) (subst (λ n. IsTakenNext s n q f) (sym (una_is ∙ is)) (next n as_one))
      of_own (killed dead) = una_from.gone (ap is_gone own ∙ dead)

      by : (s ≡ t) ⊎ (peer s ≡ t) → UnaFrom t q path_then
      by (inl is) = subst (λ t. UnaFrom t q path_then) is (of_own una_heard)
      by (inr away) = una_from.stays (ap (λ (e : PathEnd). e.tcp.send.una) (other s t p.a p.b end_then away) ∙ same t)

-- an event
module _ (p : PathState Carried) (others : List Duty) (first : p.agenda ≡ duties.Step step_duties.Events ∷ others) (r : Reply) (s : Side) where
  module _ (due : Due) (next : next_event p ≡ Some (happenings.Arrives due)) where
    abbrev brought : PathState Carried
    brought = record (at_tick due.tick p) { link = after_delivery due p.link }

    abbrev heard_then : PathState Carried
    heard_then = copy_heard due.to (heard_in values due.to (arriving due p.link) p) brought

    same_end : (t : Side) → end_at t brought ≡ end_at t p
    same_end A = refl
    same_end B = refl

    same : (t : Side) → (end_at t brought).tcp.send.una ≡ (end_at t p).tcp.send.una
    same A = refl
    same B = refl

    each_there : Every (λ g. IsUnderWay g p) p.link.under_way
    each_there = record { each = λ i g there. record { at = i; item = g; there = there; holds = refl } }

    nothing_heard : (t : Side) → UnaFrom t p (copy_heard due.to None brought)
    nothing_heard A = una_so A p (copy_heard due.to None brought) (stay brought (copy_heard due.to None brought) refl refl).a
    nothing_heard B = una_so B p (copy_heard due.to None brought) (stay brought (copy_heard due.to None brought) refl refl).b

    copy_next : (f : Flight Carried) → arriving due p.link ≡ Some f → (n : ℕ) → IsHeardAs n (taken_as (verdict due.to f brought)) → IsTakenNext due.to n p f
    copy_next f is n as_one = record {
      takes = record {
        copy = record { others = others; first = first; due = due; next = next; segment = meant (as_arrived f.carried); heard = ap (λ (o : Option (Flight Carried)). heard_in values due.to o p) is };
        acknowledged = n;
        taken = ⊎_elim (λ taken. inl (taken.0, judged_so (means.Taken taken.0 n) taken.1 refl)) (λ accepted. inr (judged_so (means.Accepts n) accepted refl)) as_one;
      };
      to = refl;
      segment = refl;
      acknowledged = refl;
    }
      where
        judged_so : (m : Meaning) → taken_as (verdict due.to f brought) ≡ m → is_ignored m ≡ false
            → let e = end_at due.to p in judged_in (is_joined p.profile) due.to (options_heard e (meant (as_arrived f.carried))) e ≡ judged.As m
        judged_so m is some = subst (λ e. judged_in (is_joined p.profile) due.to (options_heard e (meant (as_arrived f.carried))) e ≡ judged.As m) (same_end due.to) (verdict_so (verdict due.to f brought) m is some)

    arrives_una : UnaFrom s p heard_then
    arrives_una = by (arriving due p.link) refl
      where
        by : (o : Option (Flight Carried)) → arriving due p.link ≡ o → UnaFrom s p (copy_heard due.to (heard_in values due.to o p) brought)
        by None is = nothing_heard s
        by (Some f) is =
            let found = find_every (λ g. IsUnderWay g p) (is_due due) p.link.under_way f each_there is in
            let parts = and_parts (f.tick == due.tick) (same_side f.to due.to && f.number == due.copy) found.1 in
            let to = one_side f.to due.to (and_parts (same_side f.to due.to) (f.number == due.copy) parts.1).0 in
            copy_una due.to f brought p found.0 to same (copy_next f is) s

  event_una : (o : Option Event) → next_event p ≡ o → UnaFrom s p (happens_if values o r p)
  event_una None next = una_so s p (happens_if values None r p) (at_end (stay p (happens_if values None r p) refl refl) s)
  event_una (Some (happenings.Joins tick)) next =
      let begun = begun_rests r (leaves A) (emission A) (record (at_tick tick p) { joined_at = None }) in
      una_so s p (happens_if values (Some (happenings.Joins tick)) r p) (by begun s)
    where
      by : AllRest (record (at_tick tick p) { joined_at = None }) (happens_if values (Some (happenings.Joins tick)) r p) → (s : Side) → Rests (end_at s p) (end_at s (happens_if values (Some (happenings.Joins tick)) r p))
      by begun A = begun.a
      by begun B = begun.b
  event_una (Some (happenings.Takes line)) next = una_so s p (happens_if values (Some (happenings.Takes line)) r p) (by (line_rest line.action (record (at_tick line.tick p) { lines = tail_of p.lines })) s)
    where
      by : AllRest (record (at_tick line.tick p) { lines = tail_of p.lines }) (happens_if values (Some (happenings.Takes line)) r p) → (s : Side) → Rests (end_at s p) (end_at s (happens_if values (Some (happenings.Takes line)) r p))
      by rest A = rest.a
      by rest B = rest.b
  event_una (Some (happenings.Arrives due)) next = arrives_una due next
  event_una (Some (happenings.Fires t tick)) next =
      una_so s p (timer_fired t (at_tick tick p)) (at_end (side t (after_firing (at_tick tick p).clock (end_at t p)) p (timer_fired t (at_tick tick p)) (fired_rests (at_tick tick p).clock (end_at t p)) refl refl) s)

duty_una : (d : Duty) (ds : List Duty) (r : Reply) (p : PathState Carried) (s : Side) → UnaFrom s (with_agenda (d ∷ ds) p) (answered values d r (with_agenda (d ∷ ds) p))
duty_una (duties.Step step_duties.Events) ds r p s = let x : PathState Carried = with_agenda (duties.Step step_duties.Events ∷ ds) p in event_una x ds refl r s (next_event x) refl
duty_una d ds r p s = let x : PathState Carried = with_agenda (d ∷ ds) p in una_so s x (answered values d r x) (at_end (answered_rest values d r x refl) s)

takes_una : (r : Reply) (p : PathState Carried) (s : Side) → UnaFrom s p (takes values r p)
takes_una r p s = by p.agenda
  where
    by : (ds : List Duty) → UnaFrom s (with_agenda ds p) (takes values r (with_agenda ds p))
    by [] = una_from.stays refl
    by (d ∷ ds) =
        let x : PathState Carried = with_agenda (d ∷ ds) p in
        let q : PathState Carried = answered values d r x in
        una_then s x q (settled q.agenda q) (duty_una d ds r p s) (settled_lasts AllBoth both_last q.agenda q s)

next_una : (p : PathState Carried) (s : Side) → UnaFrom s p (next_round p)
next_una p s = let x : PathState Carried = with_agenda start_of_turn (record p { clock = p.until; until = p.until + 100 }) in
    una_then s p x (settled start_of_turn x) (una_from.stays refl) (settled_lasts AllBoth both_last start_of_turn x s)

member_una : (r : Reply) (m : Actor Carried) → UnasAreSaid m (member_takes values r m)
member_una r (App a) = tt
member_una r (Path p) = λ s. takes_una r p s

member_una_next : (m : Actor Carried) → UnasAreSaid m (member_next m)
member_una_next (App a) = tt
member_una_next (Path p) = λ s. next_una p s

member_una_stays : (m : Actor Carried) → UnasAreSaid m m
member_una_stays (App a) = tt
member_una_stays (Path p) = λ s. una_from.stays refl

pub each_una_is_said : EachUnaIsSaid
each_una_is_said w turn = turn_by values (λ books c d. UnasAreSaid c.member d.member) (λ books c. member_una_stays c.member)
    (λ books ask c asks. member_una (answer_to books ask) c.member) (λ books stamp c over. member_una_next c.member) turn w
