-- A DATA_FIN counts as sent from the duty on by which it goes, and by no other.
use Rattle.std.proofs.Common.{◌≡◌, refl, sym, subst, ap, ◌∙◌, ◌⊎◌, inl, inr, ⊎_elim, ℕ, ◌+◌, false, Some, List, [], ◌∷◌}
use Rattle.std.specs.List.{slice_get}
use Rattle.sides.specs.declared.side.Side.{Side}
use Rattle.sides.specs.declared.side.Side.TheVariants.{A, B}
use Rattle.actor_desk.specs.declared.ask.Reply.{Reply}
use Rattle.path_agenda.specs.Agenda.{start_of_turn}
use Rattle.path_agenda.specs.declared.duty.Duty.{Duty}
use Rattle.path_agenda.specs.declared.duty.Duty.TheVariants as duties
use Rattle.path_agenda.specs.declared.duty.AskDuty.{AskDuty}
use Rattle.path_agenda.specs.declared.duty.AskDuty.TheVariants as ask_duties
use Rattle.path_agenda.specs.declared.duty.SendDuty.{SendDuty}
use Rattle.path_agenda.specs.declared.duty.SendDuty.TheVariants as send_duties
use Rattle.path_agenda.specs.declared.duty.SilentDuty.{SilentDuty}
use Rattle.path_agenda.specs.declared.duty.SilentDuty.TheVariants as silent_duties
use Rattle.path_agenda.specs.declared.duty.StepDuty.{StepDuty}
use Rattle.path_agenda.specs.declared.duty.StepDuty.TheVariants as step_duties
use Rattle.path_core.specs.Codec.{Codec}
use Rattle.path_core.specs.Duties.{answered, passed}
use Rattle.path_core.specs.End.{PathEnd}
use Rattle.path_core.specs.State.{PathState, end_at, with_agenda}
use Rattle.path_core.specs.Steps.{next_round, settled, takes}
use Rattle.world_laws.specs.declared.member.Member.TheVariants.{App, Path}
use Rattle.world_laws.specs.Actors.{Actor, ActorCrew, member_next, member_takes}
use Rattle.world_laws.specs.StampedBooks.{answer_to}
use Rattle.world_laws.specs.Worlds.{Turn, WorldState, after_turn}
use Rattle.world_laws.specs.Writes.{EndView, OnlyAt, Writes, ask_writes, send_writes, side_of, silent_writes, step_writes, writes}
use Rattle.world_laws.proofs.Writes.Paths.{passes_no_more, writes_no_more}
use Rattle.world_laws.proofs.Writes.Steps.{Lasts, both_ends, settled_lasts, unwritten}
use Rattle.whole_paths.proofs.Turns.{turn_each}

ask_quiet : (d : AskDuty) → (ask_writes d).fin_sent ≡ false
ask_quiet ask_duties.JoinAgain = refl
ask_quiet _ = refl

step_quiet : (d : StepDuty) → ((step_writes d).own.fin_sent ≡ false) × ((step_writes d).other.fin_sent ≡ false)
step_quiet step_duties.Events = (refl, refl)
step_quiet _ = (refl, refl)

silent_quiet : (d : SilentDuty) → (silent_writes d).fin_sent ≡ false
silent_quiet (silent_duties.Timer s) = refl
silent_quiet _ = refl

send_quiet : (d : SendDuty) → ((send_writes d).fin_sent ≡ false) ⊎ ((s : Side) × (d ≡ send_duties.DataFin s))
send_quiet (send_duties.DataFin s) = inr (s, refl)
send_quiet _ = inl refl

quiet_or_fin : (d : Duty) → (((writes d).own.fin_sent ≡ false) × ((writes d).other.fin_sent ≡ false)) ⊎ ((s : Side) × (d ≡ duties.Send (send_duties.DataFin s)))
quiet_or_fin (duties.Ask d) = inl (ask_quiet d, refl)
quiet_or_fin (duties.Step d) = inl (step_quiet d)
quiet_or_fin (duties.Send d) = ⊎_elim (λ quiet. inl (quiet, refl)) (λ fin. inr (fin.0, ap (λ d. duties.Send d) fin.1)) (send_quiet d)
quiet_or_fin (duties.Silent d) = inl (silent_quiet d, refl)
quiet_or_fin duties.End = inl (refl, refl)

module _ {C : Type 0} where
  -- as many ends sent theirs
  record Same (p q : PathState C) : Type 0 where
    at : (s : Side) → (end_at s q).sending.fin_sent ≡ (end_at s p).sending.fin_sent

  same_ends : (p q : PathState C) → q.a.sending.fin_sent ≡ p.a.sending.fin_sent → q.b.sending.fin_sent ≡ p.b.sending.fin_sent → Same p q
  same_ends p q a b = record { at = elim [ A ↦ a | B ↦ b ] }

  masked : (s : Side) (w : Writes) (p q : PathState C) → w.own.fin_sent ≡ false → w.other.fin_sent ≡ false → OnlyAt s w p q → Same p q
  masked s w p q own other x =
      let both = both_ends (λ (e : PathEnd) (f : PathEnd). f.sending.fin_sent ≡ e.sending.fin_sent) s w p q
      (λ e f y. unwritten w.own.fin_sent e.sending.fin_sent f.sending.fin_sent own (ap (λ (v : EndView). v.fin_sent) y.same))
      (λ e f y. unwritten w.other.fin_sent e.sending.fin_sent f.sending.fin_sent other (ap (λ (v : EndView). v.fin_sent) y.same)) x in
      same_ends p q both.0 both.1

  passed_same : (d : Duty) (p : PathState C) → Same p (passed d p)
  passed_same d p = ⊎_elim
      (λ quiet. masked (side_of d) (writes d) p (passed d p) quiet.0 quiet.1 (passes_no_more d p))
      (λ fin. subst (λ (d : Duty). Same p (passed d p)) (sym fin.1) (same_ends p p refl refl))
      (quiet_or_fin d)

  same_lasts : Lasts Same
  same_lasts = record {
    agenda = λ ds p. same_ends p (with_agenda ds p) refl refl;
    chains = λ p q r x y. record { at = λ s. y.at s ∙ x.at s };
    passes = λ d p. passed_same d p;
  }

  -- it counts as sent as much as it did, or it goes next
  abbrev pub FinGoesNext : Side → PathState C → PathState C → Type 0
  FinGoesNext s p q = ((end_at s q).sending.fin_sent ≡ (end_at s p).sending.fin_sent) ⊎ ((others : List Duty) × (p.agenda ≡ duties.Send (send_duties.DataFin s) ∷ others))

  answered_fin : (k : Codec C) (d : Duty) (ds : List Duty) (r : Reply) (p : PathState C) (u : Side) → let x : PathState C = with_agenda (d ∷ ds) p in FinGoesNext u x (answered k d r x)
  answered_fin k d ds r p u = ⊎_elim
      (λ quiet. (let x : PathState C = with_agenda (d ∷ ds) p in inl ((masked (side_of d) (writes d) x (answered k d r x) quiet.0 quiet.1 (writes_no_more k d r x)).at u)))
      (λ fin. subst (λ (d : Duty). let x : PathState C = with_agenda (d ∷ ds) p in FinGoesNext u x (answered k d r x)) (sym fin.1) (goes fin.0 u))
      (quiet_or_fin d)
    where
      goes : (s u : Side) → let x : PathState C = with_agenda (duties.Send (send_duties.DataFin s) ∷ ds) p in FinGoesNext u x (answered k (duties.Send (send_duties.DataFin s)) r x)
      goes A A = inr (ds, refl)
      goes A B = inl refl
      goes B A = inl refl
      goes B B = inr (ds, refl)

  then_so : (s : Side) (p q r : PathState C) → FinGoesNext s p q → Same q r → FinGoesNext s p r
  then_so s p q r (inl same) more = inl (more.at s ∙ same)
  then_so s p q r (inr next) more = inr next

  takes_fin : (k : Codec C) (r : Reply) (p : PathState C) (s : Side) → FinGoesNext s p (takes k r p)
  takes_fin k r p s = by p.agenda
    where
      by : (ds : List Duty) → FinGoesNext s (with_agenda ds p) (takes k r (with_agenda ds p))
      by [] = inl refl
      by (d ∷ ds) =
          let x : PathState C = with_agenda (d ∷ ds) p in
          let q : PathState C = answered k d r x in then_so s x q (settled q.agenda q) (answered_fin k d ds r p s) (settled_lasts Same same_lasts q.agenda q)

  next_fin : (p : PathState C) (s : Side) → FinGoesNext s p (next_round p)
  next_fin p s =
      let x : PathState C = with_agenda start_of_turn (record p { clock = p.until; until = p.until + 100 }) in then_so s p x (next_round p) (inl (still s)) (settled_lasts Same same_lasts start_of_turn x)
    where
      still : (s : Side) → (end_at s (with_agenda start_of_turn (record p { clock = p.until; until = p.until + 100 }))).sending.fin_sent ≡ (end_at s p).sending.fin_sent
      still A = refl
      still B = refl

  -- ---- the world

  abbrev pub FinsGoNext : Actor C → Actor C → Type 0
  FinsGoNext (Path p) (Path q) = (s : Side) → FinGoesNext s p q
  FinsGoNext (App a) (App b) = Unit {0}
  FinsGoNext _ _ = ⊥

  member_takes_fin : (k : Codec C) (r : Reply) (m : Actor C) → FinsGoNext m (member_takes k r m)
  member_takes_fin k r (App a) = tt
  member_takes_fin k r (Path p) = takes_fin k r p

  member_next_fin : (m : Actor C) → FinsGoNext m (member_next m)
  member_next_fin (App a) = tt
  member_next_fin (Path p) = next_fin p

  member_stays : (m : Actor C) → FinsGoNext m m
  member_stays (App a) = tt
  member_stays (Path p) = λ s. inl refl

  pub fins_go_next : (k : Codec C) (w : WorldState C) (turn : Turn) (actor : ℕ) (c : ActorCrew C) → slice_get w.crew actor ≡ Some c
      → (d : ActorCrew C) × (slice_get (after_turn k turn w).crew actor ≡ Some d) × FinsGoNext c.member d.member
  fins_go_next k w turn = turn_each k (λ c d. FinsGoNext c.member d.member) (λ c. member_stays c.member) (λ ask books c. member_takes_fin k (answer_to books ask) c.member)
      (λ stamp c over. member_next_fin c.member) turn w
