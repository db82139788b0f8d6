-- What an end knows of its peer's window: a refused grant tells it, and nothing else.
use Rattle.std.proofs.Common.{◌≡◌, refl, sym, subst, ap, ◌∙◌, ℕ, Bool, true, false, true≢false, Option, Some, None, List, ◌∷◌}
use Rattle.std.proofs.lemmas.Bool.{both_ways}
use Rattle.sides.specs.declared.side.Side.{Side}
use Rattle.sides.specs.declared.side.Side.TheVariants.{A, B}
use Rattle.send_book.specs.declared.call.SendCall.TheVariants as calls
use Rattle.send_book.specs.declared.call.SendReply.TheVariants as send_replies
use Rattle.send_book.specs.declared.call.Why.{Why}
use Rattle.subflow_send.specs.Records.{Record}
use Rattle.actor_desk.specs.declared.ask.Ask.{Ask}
use Rattle.actor_desk.specs.declared.ask.Ask.TheVariants as asks
use Rattle.actor_desk.specs.declared.ask.Reply.{Reply}
use Rattle.actor_desk.specs.declared.ask.Reply.TheVariants as replies
use Rattle.path_agenda.specs.declared.duty.Duty.{Duty}
use Rattle.path_agenda.specs.declared.duty.Duty.TheVariants as duties
use Rattle.path_agenda.specs.declared.duty.AskDuty.TheVariants as ask_duties
use Rattle.path_agenda.specs.declared.duty.SendDuty.TheVariants as send_duties
use Rattle.path_agenda.specs.declared.duty.SilentDuty.TheVariants as silent_duties
use Rattle.path_agenda.specs.declared.duty.StepDuty.TheVariants as step_duties
use Rattle.path_core.specs.Codec.{Codec}
use Rattle.path_core.specs.DataFin.{is_shut}
use Rattle.path_core.specs.Duties.{answered, ask_for, passed}
use Rattle.path_core.specs.Emission.{answered_data, answered_grant, data_ask, first_unsent, grant_in, payload_size}
use Rattle.path_core.specs.End.{PathEnd}
use Rattle.path_core.specs.State.{PathState, end_at, path_of, with_agenda}
use Rattle.path_core.specs.Steps.{settled, takes}
use Rattle.world_laws.specs.RoundEnd.{asks_grant}
use Rattle.world_laws.specs.Writes.{EndView, OnlyAt, side_of, writes}
use Rattle.world_laws.proofs.Rounds.GrantAtOneDuty.{ask_isn't, asks_none}
use Rattle.world_laws.proofs.Writes.Paths.{passes_no_more, writes_no_more}
use Rattle.world_laws.proofs.Writes.Steps.{Lasts, both_ends, settled_lasts, unwritten}

-- ---- what an end knows of the window

module _ {C : Type 0} (k : Codec C) where
  record Same (p q : PathState C) : Type 0 where
    a : q.a.sending.shut ≡ p.a.sending.shut
    b : q.b.sending.shut ≡ p.b.sending.shut

  stays : (p q : PathState C) → q.a.sending.shut ≡ p.a.sending.shut → q.b.sending.shut ≡ p.b.sending.shut → Same p q
  stays p q a b = record { a = a; b = b }

  duty_same : (d : Duty) (p q : PathState C) → (writes d).own.shut ≡ false → (writes d).other.shut ≡ false → OnlyAt (side_of d) (writes d) p q → Same p q
  duty_same d p q own other x = by (both_ends (λ (e f : PathEnd). f.sending.shut ≡ e.sending.shut) (side_of d) (writes d) p q
      (λ e f only. unwritten (writes d).own.shut e.sending.shut f.sending.shut own (ap (λ (v : EndView). v.shut) only.same))
      (λ e f only. unwritten (writes d).other.shut e.sending.shut f.sending.shut other (ap (λ (v : EndView). v.shut) only.same)) x)
    where
      by : (q.a.sending.shut ≡ p.a.sending.shut) × (q.b.sending.shut ≡ p.b.sending.shut) → Same p q
      by both = stays p q both.0 both.1

  passed_shut : (d : Duty) (p : PathState C) → Same p (passed d p)
  passed_shut (duties.Step (step_duties.Data s)) p = stays p p refl refl
  passed_shut (duties.Step step_duties.Events) p = stays p p refl refl
  passed_shut (duties.Ask ask_duties.JoinAgain) p = stays p p refl refl
  passed_shut (duties.Send (send_duties.Update s)) p = stays p p refl refl
  passed_shut (duties.Silent (silent_duties.Timer s)) p = duty_same (duties.Silent (silent_duties.Timer s)) p _ refl refl (passes_no_more (duties.Silent (silent_duties.Timer s)) p)
  passed_shut d p = duty_same d p (passed d p) refl refl (passes_no_more d p)

  shut_lasts : Lasts Same
  shut_lasts = record { agenda = λ ds p. stays p (record p { agenda = ds }) refl refl; chains = λ p q r x y. stays p r (y.a ∙ x.a) (y.b ∙ x.b); passes = passed_shut }

  at_side : (s : Side) (p q : PathState C) → Same p q → (end_at s q).sending.shut ≡ (end_at s p).sending.shut
  at_side A p q x = x.a
  at_side B p q x = x.b

  -- ---- a duty that doesn't ask for bytes of the side's stream

  data_shut : (s t : Side) (o : Option Record) (r : Reply) (p : PathState C) → asks_grant s (data_ask k t o p) ≡ false → (end_at s (answered_data k t o r p)).sending.shut ≡ (end_at s p).sending.shut
  data_shut A A (Some u) r p none = refl
  data_shut A B (Some u) r p none = refl
  data_shut B A (Some u) r p none = refl
  data_shut B B (Some u) r p none = refl
  data_shut A A None r p none = absurd (true≢false none)
  data_shut B B None r p none = absurd (true≢false none)
  data_shut A B None r p none = elim (grant_in r) as (λ o. (answered_grant B o r p).a.sending.shut ≡ p.a.sending.shut) [ None ↦ refl | Some grant ↦ refl ]
  data_shut B A None r p none = elim (grant_in r) as (λ o. (answered_grant A o r p).b.sending.shut ≡ p.b.sending.shut) [ None ↦ refl | Some grant ↦ refl ]

  answered_shut : (s : Side) (d : Duty) (r : Reply) (p : PathState C) → asks_grant s (ask_for k d p) ≡ false → (end_at s (answered k d r p)).sending.shut ≡ (end_at s p).sending.shut
  answered_shut s (duties.Step (step_duties.Data t)) r p none = data_shut s t (first_unsent (end_at t p)) r p none
  answered_shut s (duties.Step step_duties.Events) r p none =
      at_side s p _ (duty_same (duties.Step step_duties.Events) p (answered k (duties.Step step_duties.Events) r p) refl refl (writes_no_more k (duties.Step step_duties.Events) r p))
  answered_shut s (duties.Ask ask_duties.JoinAgain) r p none =
      at_side s p _ (duty_same (duties.Ask ask_duties.JoinAgain) p (answered k (duties.Ask ask_duties.JoinAgain) r p) refl refl (writes_no_more k (duties.Ask ask_duties.JoinAgain) r p))
  answered_shut s (duties.Send (send_duties.Update t)) r p none =
      at_side s p _ (duty_same (duties.Send (send_duties.Update t)) p (answered k (duties.Send (send_duties.Update t)) r p) refl refl (writes_no_more k (duties.Send (send_duties.Update t)) r p))
  answered_shut s (duties.Silent (silent_duties.Timer t)) r p none =
      at_side s p _ (duty_same (duties.Silent (silent_duties.Timer t)) p (answered k (duties.Silent (silent_duties.Timer t)) r p) refl refl (writes_no_more k (duties.Silent (silent_duties.Timer t)) r p))
  answered_shut s d r p none = at_side s p _ (duty_same d p (answered k d r p) refl refl (writes_no_more k d r p))

  settled_shut : (s : Side) (q : PathState C) → (end_at s (settled q.agenda q)).sending.shut ≡ (end_at s q).sending.shut
  settled_shut s q = at_side s q (settled q.agenda q) (settled_lasts Same shut_lasts q.agenda q)

  pub shut_stays : (s : Side) (d : Duty) (ds : List Duty) (r : Reply) (p : PathState C) → p.agenda ≡ d ∷ ds → asks_grant s (ask_for k d p) ≡ false → (end_at s (takes k r p)).sending.shut ≡ (end_at s p).sending.shut
  shut_stays s d ds r p first none = subst (λ (agenda : List Duty). (end_at s (takes k r (with_agenda agenda p))).sending.shut ≡ (end_at s (with_agenda agenda p)).sending.shut) (sym first)
      (settled_shut s (answered k d r (with_agenda (d ∷ ds) p)) ∙ answered_shut s d r (with_agenda (d ∷ ds) p) (at s none))
    where
      at : (s : Side) → asks_grant s (ask_for k d p) ≡ false → asks_grant s (ask_for k d (with_agenda (d ∷ ds) p)) ≡ false
      at s none = subst (λ (agenda : List Duty). asks_grant s (ask_for k d (with_agenda agenda p)) ≡ false) first none

  -- ---- one that does

  -- the ask is one for bytes, and a refusal tells whether the window is shut
  pub record AsksNow (s : Side) (x : Ask) (r : Reply) (p q : PathState C) : Type 0 where
    pub max : ℕ
    pub stands : Bool
    pub is : x ≡ asks.Send s (calls.Grant (path_of p) max stands)
    pub knows : (why : Why) (known : Option ℕ) → r ≡ replies.Send (send_replies.NoGrant why known) → (end_at s q).sending.shut ≡ is_shut why

  refused_shut : (s : Side) (why : Why) (known : Option ℕ) (r : Reply) (p : PathState C) → r ≡ replies.Send (send_replies.NoGrant why known)
      → (end_at s (answered_grant s (grant_in r) r p)).sending.shut ≡ is_shut why
  refused_shut A why known r p is = subst (λ (x : Reply). (answered_grant A (grant_in x) x p).a.sending.shut ≡ is_shut why) (sym is) refl
  refused_shut B why known r p is = subst (λ (x : Reply). (answered_grant B (grant_in x) x p).b.sending.shut ≡ is_shut why) (sym is) refl

  asks_data : (s t : Side) (ds : List Duty) (r : Reply) (p : PathState C) (o : Option Record) → asks_grant s (data_ask k t o p) ≡ true
      → AsksNow s (data_ask k t o p) r p (settled (answered_data k t o r p).agenda (answered_data k t o r p))
  asks_data A t ds r p (Some u) is = absurd (true≢false (sym is))
  asks_data B t ds r p (Some u) is = absurd (true≢false (sym is))
  asks_data A A ds r p None is = record { max = payload_size p.profile; stands = p.a.modes.standby; is = refl; knows = λ why known no. settled_shut A (answered_data k A None r p) ∙ refused_shut A why known r p no }
  asks_data B B ds r p None is = record { max = payload_size p.profile; stands = p.b.modes.standby; is = refl; knows = λ why known no. settled_shut B (answered_data k B None r p) ∙ refused_shut B why known r p no }
  asks_data A B ds r p None is = absurd (true≢false (sym is))
  asks_data B A ds r p None is = absurd (true≢false (sym is))

  duty_asks : (s : Side) (d : Duty) (ds : List Duty) (r : Reply) (p : PathState C) → let x = with_agenda (d ∷ ds) p in asks_grant s (ask_for k d x) ≡ true → AsksNow s (ask_for k d x) r x (takes k r x)
  duty_asks s (duties.Step (step_duties.Data t)) ds r p is = let x : PathState C = with_agenda (duties.Step (step_duties.Data t) ∷ ds) p in asks_data s t ds r x (first_unsent (end_at t x)) is
  duty_asks s d ds r p is = absurd (both_ways _ (ask_isn't s (ask_for k d (with_agenda (d ∷ ds) p)) (asks_none k (with_agenda (d ∷ ds) p) d tt)) is)

  pub asks_now : (s : Side) (d : Duty) (ds : List Duty) (r : Reply) (p : PathState C) → p.agenda ≡ d ∷ ds → asks_grant s (ask_for k d p) ≡ true → AsksNow s (ask_for k d p) r p (takes k r p)
  asks_now s d ds r p first = subst (λ (agenda : List Duty). let x = with_agenda agenda p in asks_grant s (ask_for k d x) ≡ true → AsksNow s (ask_for k d x) r x (takes k r x)) (sym first) (duty_asks s d ds r p)
