-- How a path stands, as its ends were told in their last Look, nothing changes but a Look.
use Rattle.world_laws.proofs.Words.{◌≡◌, refl, sym, ◌∙◌, ap, ℕ, ◌+◌, Bool, true, false, if◌then◌else◌, Some, None, List, [], ◌∷◌, false≢true, same_Some, Side}
use Rattle.world_laws.proofs.Words.{A, B, ControlCall, ControlReply, Duty, SendDuty, StepDuty, AskDuty, SilentDuty, Ask, Reply, Codec, ask_for, passed}
use Rattle.world_laws.proofs.Words.{answered, after_look, modes_told, PathState, end_at, goes_on, left, path_of, settled, settles_down, answers, asks_of}
use Rattle.world_laws.proofs.Words.{asks_first, takes, begins_turn, next_round, Modes, looks, standby_told, Writes, OnlyAt, EndView, writes, side_of}
use Rattle.world_laws.proofs.Standby.OneDutyLooks.{MayNotLook, look_isn't, looks_none}
use Rattle.world_laws.proofs.Writes.Paths.{writes_no_more, passes_no_more}
use Rattle.world_laws.proofs.Writes.Steps.{both_ends, Lasts, unwritten, settled_lasts, begins_lasts}

-- a Look tells its own end
told_modes : (r : Reply) (m : Modes) → (modes_told r m).standby ≡ standby_told m.standby r
told_modes (Reply.Control (ControlReply.Standing mode standby sole notice)) m = refl
told_modes _ m = refl

module _ {C : Type 0} where
  pub record Keeps (p q : PathState C) : Type 0 where
    pub a : q.a.modes.standby ≡ p.a.modes.standby
    pub b : q.b.modes.standby ≡ p.b.modes.standby

  -- where it may be written at neither end
  kept_by : (s : Side) (w : Writes) (p q : PathState C) → w.own.standby ≡ false → w.other.standby ≡ false → OnlyAt s w p q → Keeps p q
  kept_by s w p q own other x =
      let both = both_ends (λ e f. f.modes.standby ≡ e.modes.standby) s w p q
      (λ e f y. unwritten w.own.standby e.modes.standby f.modes.standby own (ap (λ (v : EndView). v.standby) y.same))
      (λ e f y. unwritten w.other.standby e.modes.standby f.modes.standby other (ap (λ (v : EndView). v.standby) y.same)) x in
      record { a = both.0; b = both.1 }

  passed_kept : (d : Duty) (p : PathState C) → Keeps p (passed d p)
  passed_kept (Duty.Step (StepDuty.Look s)) p = record { a = refl; b = refl }
  passed_kept (Duty.Ask AskDuty.JoinAgain) p = record { a = refl; b = refl }
  passed_kept (Duty.Send (SendDuty.Update s)) p = record { a = refl; b = refl }
  passed_kept (Duty.Silent (SilentDuty.Timer s)) p =
      kept_by s (writes (Duty.Silent (SilentDuty.Timer s))) p _ refl refl (passes_no_more (Duty.Silent (SilentDuty.Timer s)) p)
  passed_kept d p = kept_by (side_of d) (writes d) p _ refl refl (passes_no_more d p)

  -- but for a Look
  answered_kept : (k : Codec C) (d : Duty) → MayNotLook d → (r : Reply) (p : PathState C) → Keeps p (answered k d r p)
  answered_kept k (Duty.Step (StepDuty.Look s)) other r p = absurd other
  answered_kept k (Duty.Ask (AskDuty.SynHeard s)) other r p = record { a = refl; b = refl }
  answered_kept k (Duty.Send (SendDuty.Update s)) other r p =
      kept_by s (writes (Duty.Send (SendDuty.Update s))) p _ refl refl (writes_no_more k (Duty.Send (SendDuty.Update s)) r p)
  answered_kept k (Duty.Silent d) other r p = record { a = refl; b = refl }
  answered_kept k d other r p = kept_by (side_of d) (writes d) p _ refl refl (writes_no_more k d r p)

  keeps_lasts : Lasts (λ (p q : PathState C). Keeps p q)
  keeps_lasts = record { agenda = λ ds p. record { a = refl; b = refl }; chains = λ p q r x y. record { a = y.a ∙ x.a; b = y.b ∙ x.b }; passes = λ d p. passed_kept d p }

  settled_kept : (ds : List Duty) (p : PathState C) → Keeps p (settled ds p)
  settled_kept ds p = settled_lasts (λ p q. Keeps p q) keeps_lasts ds p

  look_stands : (s t : Side) (path : ℕ) (r : Reply) (p : PathState C)
      → (end_at t (goes_on s (after_look r (end_at s p)) (left p) p)).modes.standby
      ≡ (if looks t (Ask.Control s (ControlCall.Look path)) then standby_told (end_at t p).modes.standby r else (end_at t p).modes.standby)
  look_stands A A path r p = told_modes r p.a.modes
  look_stands A B path r p = refl
  look_stands B A path r p = refl
  look_stands B B path r p = told_modes r p.b.modes

  -- after this reply to its ask
  abbrev Stands : Codec C → Duty → Reply → PathState C → Type 0
  Stands k d r p =
      (t : Side) → (end_at t (answered k d r p)).modes.standby
      ≡ (if looks t (ask_for k d p) then standby_told (end_at t p).modes.standby r else (end_at t p).modes.standby)

  other_stands : (k : Codec C) (d : Duty) (r : Reply) (p : PathState C) → MayNotLook d → Stands k d r p
  other_stands k d r p other t = kept t (answered_kept k d other r p) ∙ same (looks t (ask_for k d p)) (look_isn't t (ask_for k d p) (looks_none k p d other))
    where
      kept : (t : Side) → Keeps p (answered k d r p) → (end_at t (answered k d r p)).modes.standby ≡ (end_at t p).modes.standby
      kept = elim [ A ↦ λ h. h.a | B ↦ λ h. h.b ]

      same : (b : Bool) → b ≡ false → (end_at t p).modes.standby ≡ (if b then standby_told (end_at t p).modes.standby r else (end_at t p).modes.standby)
      same = elim [ false ↦ λ none. refl | true ↦ λ none. absurd (false≢true (sym none)) ]

  answered_stands : (k : Codec C) (d : Duty) (r : Reply) (p : PathState C) → Stands k d r p
  answered_stands k (Duty.Step step) r p = step_stands step
    where
      step_stands : (step : StepDuty) → Stands k (Duty.Step step) r p
      step_stands (StepDuty.Look s) = λ t. look_stands s t (path_of p) r p
      step_stands step = other_stands k (Duty.Step step) r p tt
  answered_stands k (Duty.Ask ask) r p = other_stands k (Duty.Ask ask) r p tt
  answered_stands k d r p = other_stands k d r p tt

  -- after each step of a path standby is as the last look told
  pub takes_stands : (k : Codec C) (x : Ask) (r : Reply) (p : PathState C) → asks_of k p ≡ Some x → (t : Side)
      → (end_at t (takes k r p)).modes.standby ≡ (if looks t x then standby_told (end_at t p).modes.standby r else (end_at t p).modes.standby)
  takes_stands k x r p asks t = by p.agenda refl
    where
      kept : (t : Side) (q : PathState C) → Keeps q (settles_down q) → (end_at t (settles_down q)).modes.standby ≡ (end_at t q).modes.standby
      kept = elim [ A ↦ λ q h. h.a | B ↦ λ q h. h.b ]

      by : (ds : List Duty) → p.agenda ≡ ds
          → (end_at t (settles_down (answers k ds r p))).modes.standby ≡ (if looks t x then standby_told (end_at t p).modes.standby r else (end_at t p).modes.standby)
      by [] same = let never : None ≡ Some x = sym (ap (λ xs. asks_first k xs p) same) ∙ asks in cc
      by (d ∷ ds) same =
          let q : PathState C = answered k d r p in
          let asked : ask_for k d p ≡ x = same_Some (ask_for k d p) x (sym (ap (λ xs. asks_first k xs p) same) ∙ asks) in
          kept t q (settled_kept q.agenda q) ∙ answered_stands k d r p t
          ∙ ap (λ y. if looks t y then standby_told (end_at t p).modes.standby r else (end_at t p).modes.standby) asked

  pub begins_kept : (p : PathState C) → Keeps p (begins_turn p)
  begins_kept p = begins_lasts (λ p q. Keeps p q) keeps_lasts p

  pub next_kept : (p : PathState C) → Keeps p (next_round p)
  next_kept p =
      let q : PathState C = record p { clock = p.until; until = p.until + 100 } in
      keeps_lasts.chains p q (next_round p) (record { a = refl; b = refl }) (begins_kept q)
