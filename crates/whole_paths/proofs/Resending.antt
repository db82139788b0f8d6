-- An expiry sends the first record again.
use Rattle.std.proofs.Common.{◌≡◌, refl, sym, subst, ap, ◌∙◌, inl, inr, ℕ, ◌+◌, ◌*◌, min, nat_le, arith, Bool, true, false, true≢false, if◌then◌else◌, Some, List, [], ◌∷◌, map}
use Rattle.std.specs.List.{slice_get}
use Rattle.std.proofs.lemmas.Bool.{leb-true, le-leb}
use Rattle.sides.specs.declared.side.Side.{Side}
use Rattle.subflow_send.specs.Records.{Record}
use Rattle.subflow_send.specs.Rules.{expired_records, unsent_again}
use Rattle.subflow_send.specs.Sendings.{first_at_an_expiry}
use Rattle.subflow_tcp.specs.State.{is_some_record}
use Rattle.subflow_tcp.specs.Expiring.{after_expiry, is_sixth}
use Rattle.subflow_tcp.specs.Taking.{after_death}
use Rattle.actor_desk.specs.Words.{is_nil}
use Rattle.actor_desk.specs.declared.ask.Reply.{Reply}
use Rattle.path_agenda.specs.Agenda.{emission, expired}
use Rattle.path_agenda.specs.declared.duty.Duty.{Duty}
use Rattle.path_agenda.specs.declared.duty.Duty.TheVariants as duties
use Rattle.path_agenda.specs.declared.duty.AskDuty.TheVariants as ask_duties
use Rattle.path_agenda.specs.declared.duty.SendDuty.TheVariants as send_duties
use Rattle.path_agenda.specs.declared.duty.StepDuty.TheVariants as step_duties
use Rattle.path_core.specs.Codec.{Codec}
use Rattle.path_core.specs.Duties.{stands, answered}
use Rattle.path_core.specs.Emission.{ack_resent, resend_of}
use Rattle.path_core.specs.End.{PathEnd}
use Rattle.path_core.specs.Events.{next_event, happens_if}
use Rattle.path_core.specs.OptionsOut.{record_or_ack}
use Rattle.path_core.specs.Profile.{Profile}
use Rattle.path_core.specs.State.{PathState, at_tick, end_at, goes_on, with_agenda}
use Rattle.path_core.specs.Steps.{settled, takes, next_round}
use Rattle.path_core.specs.Timer.{template_fired}
use Rattle.path_core.specs.declared.events.Event.TheVariants as happenings
use Rattle.world_laws.specs.declared.member.Member.TheVariants.{App, Path}
use Rattle.world_laws.specs.Actors.{Actor, member_takes, member_next, is_over}
use Rattle.world_laws.specs.StampedBooks.{answer_to}
use Rattle.world_laws.proofs.Writes.Steps.{settled_lasts}
use Rattle.whole_paths.specs.Expiries.{IsSegmentOf, IsSaidAt, IsToSend, IsToSendAgain, Expires, SendsAgain, GoesAgain, PathsGoAgain, WhatRunsOutGoesAgain}
use Rattle.whole_paths.specs.Reasons.{IsOutstanding}
use Rattle.whole_paths.specs.Reasons.{IsOutstanding as outstanding}
use Rattle.whole_paths.proofs.Agendas.{own_end, gone_end}
use Rattle.whole_paths.proofs.Copies.{LinkStays, links_last}
use Rattle.whole_paths.proofs.Turns.{turn_each}

-- the segment that is sent again
resent_so : (c : Profile) (s : Side) (e : PathEnd) (rs : List Record) (r : Record) (others : List Record) → rs ≡ r ∷ others
    → let x = (if is_some_record rs then record_or_ack c s (slice_get rs 0) e else ack_resent c s e) in IsSegmentOf r x × IsSaidAt c s r e x
resent_so c s e rs r others is = subst (λ xs. let x = (if is_some_record xs then record_or_ack c s (slice_get xs 0) e else ack_resent c s e) in IsSegmentOf r x × IsSaidAt c s r e x) (sym is)
    (record { position = refl; syn = refl; fin = refl; rst = refl; payload = refl }, record { options = refl; acknowledged = refl })

none_so : (c : Profile) (s : Side) (e : PathEnd) (rs : List Record) → rs ≡ [] → (if is_some_record rs then record_or_ack c s (slice_get rs 0) e else ack_resent c s e) ≡ ack_resent c s e
none_so c s e rs is = ap (λ xs. if is_some_record xs then record_or_ack c s (slice_get xs 0) e else ack_resent c s e) is

-- what is outstanding is so after an expiry
still_outstanding : (now : ℕ) (e : PathEnd) → IsOutstanding e → IsOutstanding (record e { tcp = after_expiry now e.tcp })
still_outstanding now e (outstanding.on_subflow first others is) =
    outstanding.on_subflow (record first { sending = first_at_an_expiry first.sending }) (map unsent_again others) (ap expired_records is)
still_outstanding now e (outstanding.on_stream first others is) = outstanding.on_stream first others is
still_outstanding now e (outstanding.data_fin identity infinite sent unacked) = outstanding.data_fin identity infinite sent unacked
still_outstanding now e (outstanding.shut is) = outstanding.shut is
still_outstanding now e (outstanding.third is) = outstanding.third is
still_outstanding now e (outstanding.fast_close is) = outstanding.fast_close is

-- the end of this side, as its timer ran out for the sixth time or not
abbrev fired : Bool → ℕ → PathEnd → PathEnd
fired sixth now e = record e { tcp = if sixth then after_death true e.tcp else after_expiry now e.tcp }

-- a path whose turn is over has nothing to do
pub busy : (ds : List Duty) (d : Duty) (others : List Duty) → is_nil ds ≡ true → ds ≡ d ∷ others → ⊥
busy ds d others over is = true≢false (sym over ∙ ap is_nil is)

module _ {C : Type 0} where
  -- ---- an expiry

  -- what is to be done then, where nothing may have to be given back
  record Ready (s : Side) (x q : PathState C) : Type 0 where
    next : IsToSendAgain s q
    own : end_at s q ≡ end_at s x
    clock : q.clock ≡ x.clock

  ready : (s : Side) (x : PathState C) → Ready s x (settled (expired s) x)
  ready s x = by (stands (duties.Ask (ask_duties.Return s)) x)
    where
      by : (b : Bool) → Ready s x (if b then with_agenda (expired s) x else with_agenda (duties.Send (send_duties.Resend s) ∷ emission s) x)
      by true = record { next = inl refl; own = refl; clock = refl }
      by false = record { next = inr refl; own = refl; clock = refl }

  abbrev fired_path : Side → Bool → PathState C → PathState C
  fired_path s sixth x = goes_on s (fired sixth x.clock (end_at s x)) (template_fired sixth s) x

  expires : (s : Side) (p x : PathState C) → end_at s x ≡ end_at s p → (b : Bool) → nat_le 5 (end_at s p).tcp.timing.expiries ≡ b
      → let y = fired_path s b x in Expires s p (settled y.agenda y)
  expires s p x same true is = record {
    again = λ few. (let many = leb-true 5 (end_at s p).tcp.timing.expiries is in absurd (omega (arith, many, few)));
    sixth = λ many. gone_end s (fired true x.clock (end_at s x)) x.a x.b refl;
  }
  expires s p x same false is =
      let e : PathEnd = end_at s x in
      let f : PathEnd = fired false x.clock e in
      let y : PathState C = fired_path s false x in
      let h : Ready s y (settled y.agenda y) = ready s y in
      record {
        again = λ few. record {
          next = h.next;
          outstanding = λ out. subst IsOutstanding (sym (h.own ∙ own_end s f x.a x.b)) (still_outstanding x.clock e (subst IsOutstanding (sym same) out));
          timer = ap (λ (g : PathEnd). g.tcp.timing.timer) (h.own ∙ own_end s f x.a x.b)
              ∙ timer_so x.clock (settled y.agenda y).clock e (end_at s p) same h.clock;
        };
        sixth = λ many. absurd (true≢false (sym (le-leb 5 (end_at s p).tcp.timing.expiries many) ∙ is));
      }
    where
      timer_so : (now later : ℕ) (e g : PathEnd) → e ≡ g → later ≡ now
          → (after_expiry now e.tcp).timing.timer ≡ Some (later + min 60000 (2 * g.tcp.timing.rtt.rto))
      timer_so now later e g same clock = rw (clock, same) refl

  fires_so : (k : Codec C) (r : Reply) (s : Side) (tick : ℕ) (others : List Duty) (p : PathState C) → next_event p ≡ Some (happenings.Fires s tick)
      → let x = with_agenda (duties.Step step_duties.Events ∷ others) p in Expires s x (takes k r x)
  fires_so k r s tick others p next =
      let x : PathState C = with_agenda (duties.Step step_duties.Events ∷ others) p in
      subst (λ o. let y = happens_if k o r x in Expires s x (settled y.agenda y)) (sym next)
      (expires s x (at_tick tick x) refl (is_sixth (end_at s p).tcp) refl)

  -- ---- what is sent again

  sends_so : (k : Codec C) (r : Reply) (s : Side) (p : PathState C)
      → let x = with_agenda (duties.Send (send_duties.Resend s) ∷ emission s) p in SendsAgain k s x (takes k r x)
  sends_so k r s p =
      let x : PathState C = with_agenda (duties.Send (send_duties.Resend s) ∷ emission s) p in
      let y : PathState C = answered k (duties.Send (send_duties.Resend s)) r x in
      record {
        segment = resend_of s x;
        first = resent_so p.profile s (end_at s p) (end_at s p).tcp.send.records;
        without = none_so p.profile s (end_at s p) (end_at s p).tcp.send.records;
        taken = settled_lasts LinkStays links_last y.agenda y;
      }

  takes_again : (k : Codec C) (r : Reply) (p : PathState C) → GoesAgain k p (takes k r p)
  takes_again k r p = record {
    fires = λ s tick h. inr (subst (λ ds. Expires s (with_agenda ds p) (takes k r (with_agenda ds p))) (sym h.first) (fires_so k r s tick h.others p h.next));
    gives_back = λ s is. inr (subst (λ ds. IsToSend s (takes k r (with_agenda ds p)) × (end_at s (takes k r (with_agenda ds p)) ≡ end_at s p)) (sym is) (refl, refl));
    sends = λ s is. inr (subst (λ ds. SendsAgain k s (with_agenda ds p) (takes k r (with_agenda ds p))) (sym is) (sends_so k r s p));
  }

  next_again : (k : Codec C) (p q : PathState C) → is_nil p.agenda ≡ true → GoesAgain k p q
  next_again k p q over = record {
    fires = λ s tick h. absurd (busy p.agenda (duties.Step step_duties.Events) h.others over h.first);
    gives_back = λ s is. absurd (busy p.agenda (duties.Ask (ask_duties.Return s)) (duties.Send (send_duties.Resend s) ∷ emission s) over is);
    sends = λ s is. absurd (busy p.agenda (duties.Send (send_duties.Resend s)) (emission s) over is);
  }

  -- ---- the world

  member_again : (k : Codec C) (r : Reply) (m : Actor C) → PathsGoAgain k m (member_takes k r m)
  member_again k r (App a) = tt
  member_again k r (Path p) = takes_again k r p

  member_begins : (k : Codec C) (m : Actor C) → is_over m ≡ true → PathsGoAgain k m (member_next m)
  member_begins k (App a) over = tt
  member_begins k (Path p) over = next_again k p (next_round p) over

  member_stays : (k : Codec C) (m : Actor C) → PathsGoAgain k m m
  member_stays k (App a) = tt
  member_stays k (Path p) = record { fires = λ s tick h. inl refl; gives_back = λ s is. inl refl; sends = λ s is. inl refl }

  pub what_runs_out_goes_again : (k : Codec C) → WhatRunsOutGoesAgain k
  what_runs_out_goes_again k w turn actor c there = turn_each k (λ c d. PathsGoAgain k c.member d.member) (λ c. member_stays k c.member)
      (λ ask books c. member_again k (answer_to books ask) c.member) (λ stamp c over. member_begins k c.member over) turn w actor c there
