-- An expiry lets each record behind the first one be sent again.
use Rattle.std.proofs.Common.{◌≡◌, refl, sym, subst, ap, ◌∙◌, inl, inr, ℕ, zero, suc, ◌<◌, nat_le, arith, Bool, true, false, ◌||◌, if◌then◌else◌, Some, List, [], ◌∷◌, map}
use Rattle.std.specs.List.{slice_get}
use Rattle.std.proofs.lemmas.Bool.{leb-true}
use Rattle.std.proofs.lemmas.Option.{same_Some}
use Rattle.sides.specs.declared.side.Side.{Side}
use Rattle.subflow_send.specs.Records.{Record}
use Rattle.subflow_send.specs.Rules.{expired_records, first_sent, unsent_again}
use Rattle.subflow_tcp.specs.declared.segments.Occasion.TheVariants as to_send
use Rattle.subflow_tcp.specs.Emitting.{after_sending}
use Rattle.subflow_tcp.specs.Expiring.{after_expiry, is_sixth}
use Rattle.subflow_tcp.specs.State.{has_records}
use Rattle.subflow_tcp.specs.Taking.{after_death}
use Rattle.actor_desk.specs.Words.{is_nil}
use Rattle.actor_desk.specs.declared.ask.Reply.{Reply}
use Rattle.path_agenda.specs.Agenda.{emission}
use Rattle.path_agenda.specs.declared.duty.Duty.{Duty}
use Rattle.path_agenda.specs.declared.duty.Duty.TheVariants as duties
use Rattle.path_agenda.specs.declared.duty.AskDuty.TheVariants as ask_duties
use Rattle.path_agenda.specs.declared.duty.SendDuty.TheVariants as send_duties
use Rattle.path_agenda.specs.declared.duty.StepDuty.TheVariants as step_duties
use Rattle.path_core.specs.Codec.{Codec}
use Rattle.path_core.specs.DataFin.{is_data_fin_owed}
use Rattle.path_core.specs.Duties.{answered}
use Rattle.path_core.specs.Emission.{resend_occasion, resend_of}
use Rattle.path_core.specs.End.{PathEnd}
use Rattle.path_core.specs.Events.{next_event, happens_if}
use Rattle.path_core.specs.Handover.{having_sent}
use Rattle.path_core.specs.State.{PathState, at_tick, end_at, goes_on, with_agenda}
use Rattle.path_core.specs.Steps.{settled, takes, next_round}
use Rattle.path_core.specs.Timer.{after_firing, template_fired}
use Rattle.path_core.specs.declared.events.Event.TheVariants as happenings
use Rattle.world_laws.specs.declared.member.Member.TheVariants.{App, Path}
use Rattle.world_laws.specs.Actors.{Actor, member_takes, member_next, is_over}
use Rattle.world_laws.specs.StampedBooks.{answer_to}
use Rattle.world_laws.proofs.Writes.Steps.{settled_lasts}
use Rattle.whole_paths.specs.Kept.{IsSameRecord}
use Rattle.whole_paths.specs.SentAgain.{EachExpirySendsAllAgain, HasTheSameRecords, OthersAreUnsent, PathsSendAllAgain, SendsAllAgain}
use Rattle.whole_paths.proofs.Agendas.{own_end}
use Rattle.whole_paths.proofs.Flying.{same_record}
use Rattle.whole_paths.proofs.RecordsGo.{SameRecords, same_lasts}
use Rattle.whole_paths.proofs.Resending.{busy}
use Rattle.whole_paths.proofs.Turns.{turn_each}

-- ---- lists of records

-- each of these but the first is to be sent
abbrev Unsent : List Record → Type 0
Unsent rs = (place : ℕ) (r : Record) → slice_get rs (suc place) ≡ Some r → r.sending.unsent ≡ true

all_unsent : (rs : List Record) (place : ℕ) (r : Record) → slice_get (map unsent_again rs) place ≡ Some r → r.sending.unsent ≡ true
all_unsent [] place r there = cc
all_unsent (x ∷ rs) zero r there = ap (λ (y : Record). y.sending.unsent) (sym (same_Some _ r there))
all_unsent (x ∷ rs) (suc place) r there = all_unsent rs place r there

expired_unsent : (rs : List Record) → Unsent (expired_records rs)
expired_unsent [] place r there = cc
expired_unsent (x ∷ rs) place r there = all_unsent rs place r there

first_unsent : (now : ℕ) (rs : List Record) → Unsent rs → Unsent (first_sent now rs)
first_unsent now [] h place r there = h place r there
first_unsent now (x ∷ rs) h place r there = h place r there

-- each stood there before
abbrev Same : List Record → List Record → Type 0
Same rs ts = (place : ℕ) (r : Record) → slice_get ts place ≡ Some r → (t : Record) × (slice_get rs place ≡ Some t) × IsSameRecord t r

the_same : (rs : List Record) → Same rs rs
the_same rs place r there = (r, there, same_record r)

first_same : (now : ℕ) (rs : List Record) → Same rs (first_sent now rs)
first_same now [] place r there = (r, there, same_record r)
first_same now (x ∷ rs) zero r there = (x, refl, subst (IsSameRecord x) (same_Some _ r there) (record { pos = refl; kind = refl; piece = refl; mapping = refl }))
first_same now (x ∷ rs) (suc place) r there = (r, there, same_record r)

with_records : (e : PathEnd) (rs : List Record) → e.tcp.send.records ≡ rs → Unsent rs → OthersAreUnsent e
with_records e rs is h = record { each = subst Unsent (sym is) h }

module _ {C : Type 0} where
  -- ---- an expiry

  expired_at : (s : Side) (x : PathState C) → (end_at s x).tcp.timing.expiries < 5
      → let y : PathState C = goes_on s (after_firing x.clock (end_at s x)) (template_fired (is_sixth (end_at s x).tcp) s) x in OthersAreUnsent (end_at s (settled y.agenda y))
  expired_at s x few =
      let y : PathState C = goes_on s (after_firing x.clock (end_at s x)) (template_fired (is_sixth (end_at s x).tcp) s) x in
      with_records (end_at s (settled y.agenda y)) _ (settled_lasts SameRecords same_lasts y.agenda y s ∙ ap (λ (e : PathEnd). e.tcp.send.records) (own_end s (after_firing x.clock (end_at s x)) x.a x.b))
      (by (is_sixth (end_at s x).tcp) refl)
    where
      by : (b : Bool) → nat_le 5 (end_at s x).tcp.timing.expiries ≡ b → Unsent (if b then after_death true (end_at s x).tcp else after_expiry x.clock (end_at s x).tcp).send.records
      by true is = absurd (let many = leb-true 5 (end_at s x).tcp.timing.expiries is in omega (arith, many, few))
      by false is = expired_unsent (end_at s x).tcp.send.records

  fires_so : (k : Codec C) (r : Reply) (s : Side) (tick : ℕ) (others : List Duty) (p : PathState C) → next_event p ≡ Some (happenings.Fires s tick) → (end_at s p).tcp.timing.expiries < 5
      → OthersAreUnsent (end_at s (takes k r (with_agenda (duties.Step step_duties.Events ∷ others) p)))
  fires_so k r s tick others p next few =
      let x : PathState C = with_agenda (duties.Step step_duties.Events ∷ others) p in
      subst (λ o. let y = happens_if k o r x in OthersAreUnsent (end_at s (settled y.agenda y))) (sym next) (expired_at s (at_tick tick x) few)

  -- ---- the first record goes again

  sends_so : (k : Codec C) (r : Reply) (s : Side) (p : PathState C) → OthersAreUnsent (end_at s p) → OthersAreUnsent (end_at s (takes k r (with_agenda (duties.Send (send_duties.Resend s) ∷ emission s) p)))
  sends_so k r s p h =
      let x : PathState C = with_agenda (duties.Send (send_duties.Resend s) ∷ emission s) p in
      let y : PathState C = answered k (duties.Send (send_duties.Resend s)) r x in
      with_records (end_at s (settled y.agenda y)) _
      (settled_lasts SameRecords same_lasts y.agenda y s ∙ ap (λ (e : PathEnd). e.tcp.send.records) (own_end s (having_sent (resend_occasion (end_at s p)) p.clock (resend_of s p) (end_at s p)) p.a p.b))
      (by (has_records (end_at s p).tcp) ((end_at s p).modes.owes_third || ((end_at s p).notices.fast_closed || is_data_fin_owed (end_at s p))))
    where
      by : (b c : Bool) → Unsent (after_sending (if b then to_send.First else (if c then to_send.Ack else to_send.Probe)) p.clock (end_at s p).tcp).send.records
      by true c = first_unsent p.clock (end_at s p).tcp.send.records h.each
      by false true = h.each
      by false false = h.each

  same_so : (k : Codec C) (r : Reply) (s : Side) (p : PathState C) → HasTheSameRecords (end_at s p) (end_at s (takes k r (with_agenda (duties.Send (send_duties.Resend s) ∷ emission s) p)))
  same_so k r s p =
      let x : PathState C = with_agenda (duties.Send (send_duties.Resend s) ∷ emission s) p in
      let y : PathState C = answered k (duties.Send (send_duties.Resend s)) r x in
      record {
        each = subst (Same (end_at s p).tcp.send.records)
            (sym (settled_lasts SameRecords same_lasts y.agenda y s ∙ ap (λ (e : PathEnd). e.tcp.send.records) (own_end s (having_sent (resend_occasion (end_at s p)) p.clock (resend_of s p) (end_at s p)) p.a p.b)))
            (by (has_records (end_at s p).tcp) ((end_at s p).modes.owes_third || ((end_at s p).notices.fast_closed || is_data_fin_owed (end_at s p))));
      }
    where
      by : (b c : Bool) → Same (end_at s p).tcp.send.records (after_sending (if b then to_send.First else (if c then to_send.Ack else to_send.Probe)) p.clock (end_at s p).tcp).send.records
      by true c = first_same p.clock (end_at s p).tcp.send.records
      by false true = the_same (end_at s p).tcp.send.records
      by false false = the_same (end_at s p).tcp.send.records

  takes_all : (k : Codec C) (r : Reply) (p : PathState C) → SendsAllAgain p (takes k r p)
  takes_all k r p = record {
    fires = λ s tick h few. inr (subst (λ ds. OthersAreUnsent (end_at s (takes k r (with_agenda ds p)))) (sym h.first) (fires_so k r s tick h.others p h.next few));
    gives_back = λ s is h. subst OthersAreUnsent (sym (subst (λ ds. end_at s (takes k r (with_agenda ds p)) ≡ end_at s p) (sym is) refl)) h;
    sends = λ s is h. subst (λ ds. OthersAreUnsent (end_at s (takes k r (with_agenda ds p)))) (sym is) (sends_so k r s p h);
    no_other = λ s is. subst (λ ds. HasTheSameRecords (end_at s p) (end_at s (takes k r (with_agenda ds p)))) (sym is) (same_so k r s p);
  }

  next_all : (p q : PathState C) → is_nil p.agenda ≡ true → SendsAllAgain p q
  next_all p q over = record {
    fires = λ s tick h few. absurd (busy p.agenda (duties.Step step_duties.Events) h.others over h.first);
    gives_back = λ s is h. absurd (busy p.agenda (duties.Ask (ask_duties.Return s)) (duties.Send (send_duties.Resend s) ∷ emission s) over is);
    sends = λ s is h. absurd (busy p.agenda (duties.Send (send_duties.Resend s)) (emission s) over is);
    no_other = λ s is. absurd (busy p.agenda (duties.Send (send_duties.Resend s)) (emission s) over is);
  }

  -- ---- the world

  member_all : (k : Codec C) (r : Reply) (m : Actor C) → PathsSendAllAgain m (member_takes k r m)
  member_all k r (App a) = tt
  member_all k r (Path p) = takes_all k r p

  member_begins : (m : Actor C) → is_over m ≡ true → PathsSendAllAgain m (member_next m)
  member_begins (App a) over = tt
  member_begins (Path p) over = next_all p (next_round p) over

  member_stays : (m : Actor C) → PathsSendAllAgain m m
  member_stays (App a) = tt
  member_stays (Path p) = record { fires = λ s tick h few. inl refl; gives_back = λ s is h. h; sends = λ s is h. h; no_other = λ s is. record { each = the_same (end_at s p).tcp.send.records } }

  pub each_expiry_sends_all_again : (k : Codec C) → EachExpirySendsAllAgain k
  each_expiry_sends_all_again k w turn actor c there = turn_each k (λ c d. PathsSendAllAgain c.member d.member) (λ c. member_stays c.member)
      (λ ask books c. member_all k (answer_to books ask) c.member) (λ stamp c over. member_begins c.member over) turn w actor c there
