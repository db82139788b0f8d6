-- The SYN that comes to a listening end is answered by the SYN/ACK, behind the two asks that it needs.
use Rattle.std.proofs.Common.{◌≡◌, refl, sym, subst, ap, ◌⊎◌, inl, inr, ℕ, Bool, true, false, if◌then◌else◌, Some, List, [], ◌∷◌}
use Rattle.std.specs.List.{slice_get}
use Rattle.sides.specs.declared.side.Side.{Side}
use Rattle.path_segments.specs.Heard.{HeardSegment}
use Rattle.subflow_tcp.specs.declared.verdicts.Meaning.TheVariants as means
use Rattle.actor_desk.specs.Words.{is_nil}
use Rattle.actor_desk.specs.declared.ask.Reply.{Reply}
use Rattle.path_agenda.specs.Agenda.{emission, syn_again, syn_came}
use Rattle.path_agenda.specs.declared.duty.Duty.{Duty}
use Rattle.path_agenda.specs.declared.duty.Duty.TheVariants as duties
use Rattle.path_agenda.specs.declared.duty.AskDuty.TheVariants as ask_duties
use Rattle.path_agenda.specs.declared.duty.SendDuty.TheVariants as send_duties
use Rattle.path_agenda.specs.declared.duty.StepDuty.TheVariants as step_duties
use Rattle.path_core.specs.Arrival.{template_of}
use Rattle.path_core.specs.Duties.{answered, stands}
use Rattle.path_core.specs.Handover.{handed}
use Rattle.path_core.specs.MpJoin.{is_joined}
use Rattle.path_core.specs.OptionsIn.{items_of, options_heard}
use Rattle.path_core.specs.OptionsOut.{syn_ack_said}
use Rattle.path_core.specs.State.{PathState, end_at, with_agenda}
use Rattle.path_core.specs.Steps.{next_round, settled, takes}
use Rattle.path_core.specs.Values.{Carried, values}
use Rattle.path_core.specs.declared.judged.Judged.TheVariants as judged
use Rattle.world_laws.specs.declared.member.Member.TheVariants.{App, Path}
use Rattle.world_laws.specs.Actors.{Actor, ActorCrew, is_over, member_next, member_takes}
use Rattle.world_laws.specs.StampedBooks.{answer_to}
use Rattle.world_laws.specs.Worlds.{Turn, WorldState, after_turn}
use Rattle.world_laws.proofs.Writes.Steps.{settled_lasts}
use Rattle.whole_paths.specs.Brought.{Comes, IsTo}
use Rattle.whole_paths.proofs.Bringing.{comes_so, first_so}
use Rattle.whole_paths.proofs.Copies.{LinkStays, links_last}
use Rattle.whole_paths.proofs.Resending.{busy}
use Rattle.whole_paths.proofs.Turns.{turn_each}

-- the second ask is behind the first
abbrev pub syn_heard : Side → List Duty
syn_heard s = duties.Ask (ask_duties.PlainHandshake s) ∷ syn_again s

-- as the path becomes another one
pub record SynIsAnswered (p q : PathState Carried) : Type 0 where
  pub opens : (c : Comes values p) → IsTo values p c (judged.As means.Opens) → (q ≡ p) ⊎ (q.agenda ≡ syn_came c.due.to)
  pub asks : (s : Side) → p.agenda ≡ syn_came s → (q ≡ p) ⊎ ((q.agenda ≡ syn_heard s) ⊎ (q.agenda ≡ syn_again s))
  pub answers : (s : Side) → p.agenda ≡ syn_again s → (q ≡ p) ⊎ (q.link ≡ handed values s (syn_ack_said p.profile s (end_at s p)) p)

module _ (r : Reply) (p : PathState Carried) where
  abbrev after : List Duty → PathState Carried
  after ds = takes values r (with_agenda ds p)

  abbrev by_event : Duty
  by_event = duties.Step step_duties.Events

  opens_then : (ds : List Duty) (c : Comes values (with_agenda (by_event ∷ ds) p)) → IsTo values (with_agenda (by_event ∷ ds) p) c (judged.As means.Opens)
      → (after (by_event ∷ ds)).agenda ≡ syn_came c.due.to
  opens_then ds c is = subst (λ es. (settled es y).agenda ≡ syn_came s) (sym came) refl
    where
      s : Side
      s = c.due.to

      y : PathState Carried
      y = answered values by_event r (with_agenda (by_event ∷ ds) p)

      said : HeardSegment
      said = options_heard (end_at s p) c.segment

      came : y.agenda ≡ syn_came s
      came = comes_so (λ (v : PathState Carried). v.agenda ≡ syn_came s) values ds r p c (ap (λ v. template_of (is_joined p.profile) s (items_of (is_joined p.profile) s said) v) is)

  asks_then : (s : Side) → ((after (syn_came s)).agenda ≡ syn_heard s) ⊎ ((after (syn_came s)).agenda ≡ syn_again s)
  asks_then s = by (stands (duties.Ask (ask_duties.PlainHandshake s)) p)
    where
      by : (b : Bool) → ((if b then with_agenda (syn_heard s) p else with_agenda (syn_again s) p).agenda ≡ syn_heard s) ⊎ ((if b then with_agenda (syn_heard s) p else with_agenda (syn_again s) p).agenda ≡ syn_again s)
      by true = inl refl
      by false = inr refl

  answers_then : (s : Side) → (after (syn_again s)).link ≡ handed values s (syn_ack_said p.profile s (end_at s p)) p
  answers_then s = let y : PathState Carried = answered values (duties.Send (send_duties.SynAck s)) r (with_agenda (syn_again s) p) in settled_lasts LinkStays links_last y.agenda y

  duty_answered : (d : Duty) (ds : List Duty) → SynIsAnswered (with_agenda (d ∷ ds) p) (after (d ∷ ds))
  duty_answered d ds = record {
    opens = λ c is. inr (subst Opens (sym (first_so d by_event ds c.others c.first)) (opens_then ds) c is);
    asks = λ s is. inr (subst (λ es. ((after es).agenda ≡ syn_heard s) ⊎ ((after es).agenda ≡ syn_again s)) (sym is) (asks_then s));
    answers = λ s is. inr (subst (λ es. (after es).link ≡ handed values s (syn_ack_said p.profile s (end_at s p)) p) (sym is) (answers_then s));
  }
    where
      Opens : Duty → Type 0
      Opens e = (c : Comes values (with_agenda (e ∷ ds) p)) → IsTo values (with_agenda (e ∷ ds) p) c (judged.As means.Opens) → (after (e ∷ ds)).agenda ≡ syn_came c.due.to

same_answered : (p : PathState Carried) → SynIsAnswered p p
same_answered p = record { opens = λ c is. inl refl; asks = λ s is. inl refl; answers = λ s is. inl refl }

takes_answered : (r : Reply) (p : PathState Carried) → SynIsAnswered p (takes values r p)
takes_answered r p = by p.agenda
  where
    by : (ds : List Duty) → let x : PathState Carried = with_agenda ds p in SynIsAnswered x (takes values r x)
    by [] = same_answered (with_agenda [] p)
    by (d ∷ ds) = duty_answered r p d ds

next_answered : (p : PathState Carried) → is_nil p.agenda ≡ true → SynIsAnswered p (next_round p)
next_answered p over = record {
  opens = λ c is. absurd (busy p.agenda (duties.Step step_duties.Events) c.others over c.first);
  asks = λ s is. absurd (busy p.agenda (duties.Ask (ask_duties.SynHeard s)) (syn_heard s) over is);
  answers = λ s is. absurd (busy p.agenda (duties.Send (send_duties.SynAck s)) (emission s) over is);
}

-- ---- the world

abbrev pub PathsAnswer : Actor Carried → Actor Carried → Type 0
PathsAnswer (Path p) (Path q) = SynIsAnswered p q
PathsAnswer (App a) (App b) = Unit {0}
PathsAnswer _ _ = ⊥

member_answers : (r : Reply) (m : Actor Carried) → PathsAnswer m (member_takes values r m)
member_answers r (App a) = tt
member_answers r (Path p) = takes_answered r p

member_begins : (m : Actor Carried) → is_over m ≡ true → PathsAnswer m (member_next m)
member_begins (App a) over = tt
member_begins (Path p) over = next_answered p over

member_stays : (m : Actor Carried) → PathsAnswer m m
member_stays (App a) = tt
member_stays (Path p) = same_answered p

pub each_syn_is_answered : (w : WorldState Carried) (turn : Turn) (actor : ℕ) (c : ActorCrew Carried) → slice_get w.crew actor ≡ Some c
    → (d : ActorCrew Carried) × (slice_get (after_turn values turn w).crew actor ≡ Some d) × PathsAnswer c.member d.member
each_syn_is_answered w turn = turn_each values (λ c d. PathsAnswer c.member d.member) (λ c. member_stays c.member) (λ ask books c. member_answers (answer_to books ask) c.member)
    (λ stamp c over. member_begins c.member over) turn w
