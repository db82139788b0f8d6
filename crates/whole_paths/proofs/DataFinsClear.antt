-- An end of path 0 sent its DATA_FIN only where it may send a DSS.
use Rattle.std.proofs.Common.{◌≡◌, refl, sym, subst, ap, ◌∙◌, inl, inr, ◌⊎◌, ⊎_elim, ℕ, ◌+◌, Bool, true, false, true≢false, not, List, [], ◌∷◌}
use Rattle.std.proofs.lemmas.Bool.{and_parts}
use Rattle.sides.specs.declared.side.Side.{Side}
use Rattle.sides.specs.declared.side.Side.TheVariants.{A, B}
use Rattle.sides.specs.Side.{peer}
use Rattle.subflow_tcp.specs.States.{may_finish}
use Rattle.actor_desk.specs.declared.ask.Reply.{Reply}
use Rattle.path_agenda.specs.declared.duty.Duty.{Duty}
use Rattle.path_agenda.specs.declared.duty.Duty.TheVariants as duties
use Rattle.path_agenda.specs.declared.duty.AskDuty.TheVariants as ask_duties
use Rattle.path_agenda.specs.declared.duty.SendDuty.TheVariants as send_duties
use Rattle.path_agenda.specs.declared.duty.SilentDuty.TheVariants as silent_duties
use Rattle.path_agenda.specs.declared.duty.StepDuty.TheVariants as step_duties
use Rattle.path_core.specs.Duties.{answered, passed, stands}
use Rattle.path_core.specs.Modes.{sends_plainly}
use Rattle.path_core.specs.Start.{waiting_path}
use Rattle.path_core.specs.State.{PathState, end_at, with_agenda}
use Rattle.path_core.specs.Steps.{begins_turn, next_round, takes}
use Rattle.path_core.specs.Turns.{FirstStands, IsSettled}
use Rattle.path_core.specs.Values.{Carried, values}
use Rattle.world_laws.specs.Openings.{PathPlan, Start, opened_world, path_begins}
use Rattle.world_laws.specs.RoundDone.{reached}
use Rattle.world_laws.specs.Worlds.{Turn}
use Rattle.world_laws.specs.Writes.{EndView, OnlyAt, PathView, side_of, writes}
use Rattle.world_laws.proofs.Falls.ClearStays.{Clears, next_clear, takes_clear}
use Rattle.world_laws.proofs.Rounds.Lifting.{opened_lifted}
use Rattle.world_laws.proofs.Writes.Paths.{passes_no_more, writes_no_more}
use Rattle.world_laws.proofs.Writes.Steps.{Lasts, begins_lasts, settled_lasts, unwritten}
use Rattle.whole_paths.specs.Finish.{IsPathAt}
use Rattle.whole_paths.specs.Mild.{IsMildStart}
use Rattle.whole_paths.proofs.ByTurns.{Of, OfFirst, each_first_moment}
use Rattle.whole_paths.proofs.Handshaking.{Given, given}
use Rattle.whole_paths.proofs.Pieces.{own_only}
use Rattle.whole_paths.proofs.Settling.{sides}

abbrev sent_at : Side → PathState Carried → Bool
sent_at t p = (end_at t p).sending.fin_sent

abbrev sends_end : Duty → Bool
sends_end (duties.Send (send_duties.DataFin s)) = true
sends_end _ = false

own_unwritten : (d : Duty) → sends_end d ≡ false → (writes d).own.fin_sent ≡ false
own_unwritten (duties.Send (send_duties.DataFin s)) none = absurd (true≢false none)
own_unwritten (duties.Send (send_duties.Update s)) none = refl
own_unwritten (duties.Ask (ask_duties.Window s)) none = refl
own_unwritten (duties.Step step_duties.Events) none = refl
own_unwritten (duties.Silent (silent_duties.Timer s)) none = refl
own_unwritten _ none = refl

other_unwritten : (d : Duty) → (writes d).other.fin_sent ≡ false
other_unwritten (duties.Step step_duties.Events) = refl
other_unwritten d = refl

same_sent : (t : Side) (d : Duty) (p q : PathState Carried) → (side_of d ≡ t → sends_end d ≡ false) → OnlyAt (side_of d) (writes d) p q → sent_at t q ≡ sent_at t p
same_sent t d p q none x = ⊎_elim
    (λ own. subst (λ u. sent_at u q ≡ sent_at u p) own
    (unwritten (writes d).own.fin_sent (end_at (side_of d) p).sending.fin_sent (end_at (side_of d) q).sending.fin_sent (own_unwritten d (none own))
    (ap (λ (v : EndView). v.fin_sent) (own_only (side_of d) (writes d) p q x).same)))
    (λ away. subst (λ u. sent_at u q ≡ sent_at u p) away
    (unwritten (writes d).other.fin_sent (end_at (peer (side_of d)) p).sending.fin_sent (end_at (peer (side_of d)) q).sending.fin_sent (other_unwritten d)
    (ap (λ (v : EndView). v.fin_sent) (ap (λ (v : PathView Carried). v.other) x.same))))
    (sides t (side_of d))

passed_sent : (t : Side) (d : Duty) (p : PathState Carried) → sent_at t (passed d p) ≡ sent_at t p
passed_sent t (duties.Step step_duties.Events) p = refl
passed_sent t (duties.Send d) p = refl
passed_sent t d p = same_sent t d p (passed d p) (λ own. refl) (passes_no_more d p)

abbrev SentStays : PathState Carried → PathState Carried → Type 0
SentStays p q = (t : Side) → sent_at t q ≡ sent_at t p

sent_lasts : Lasts {C = Carried} SentStays
sent_lasts = record { agenda = λ ds p t. refl; chains = λ p q r x y t. y t ∙ x t; passes = λ d p t. passed_sent t d p }

-- ---- a turn

pub record SentClear (p : PathState Carried) : Type 0 where
  pub each : (t : Side) → sent_at t p ≡ true → (end_at t p).modes.clear ≡ true

clear_on : (t : Side) (p q : PathState Carried) → Clears p q → (end_at t p).modes.clear ≡ true → (end_at t q).modes.clear ≡ true
clear_on A p q x = x.a.0
clear_on B p q x = x.b.0

-- the duty that sends it stands where the end may send a DSS
answered_sent : (t : Side) (d : Duty) (ds : List Duty) (r : Reply) (p : PathState Carried) → let x : PathState Carried = with_agenda (d ∷ ds) p in stands d x ≡ true
    → sent_at t (answered values d r x) ≡ true → (sent_at t p ≡ true) ⊎ ((end_at t p).modes.clear ≡ true)
answered_sent t (duties.Send (send_duties.DataFin s)) ds r p due is =
    let d : Duty = duties.Send (send_duties.DataFin s) in let x : PathState Carried = with_agenda (d ∷ ds) p in let q : PathState Carried = answered values d r x in ⊎_elim
    (λ own. inr (subst (λ u. (end_at u p).modes.clear ≡ true) own
    (and_parts (end_at s p).modes.clear _ (and_parts (not (sends_plainly (end_at s p).modes)) _ (and_parts (may_finish (end_at s p).tcp.state) _ due).1).1).0))
    (λ away. inl (sym (subst (λ u. sent_at u q ≡ sent_at u p) away
    (unwritten (writes d).other.fin_sent (end_at (peer s) p).sending.fin_sent (end_at (peer s) q).sending.fin_sent refl (ap (λ (v : EndView). v.fin_sent) (ap (λ (v : PathView Carried). v.other) (writes_no_more values d r x).same)))) ∙ is))
    (sides t s)
answered_sent t d ds r p due is = let x : PathState Carried = with_agenda (d ∷ ds) p in inl (sym (same_sent t d x (answered values d r x) (λ own. refl) (writes_no_more values d r x)) ∙ is)

takes_sent : (t : Side) (r : Reply) (p : PathState Carried) → FirstStands p.agenda p → sent_at t (takes values r p) ≡ true → (sent_at t p ≡ true) ⊎ ((end_at t p).modes.clear ≡ true)
takes_sent t r p = by p.agenda
  where
    by : (ds : List Duty) → FirstStands ds (with_agenda ds p) → sent_at t (takes values r (with_agenda ds p)) ≡ true → (sent_at t p ≡ true) ⊎ ((end_at t p).modes.clear ≡ true)
    by [] due is = inl is
    by (d ∷ ds) due is =
        let q : PathState Carried = answered values d r (with_agenda (d ∷ ds) p) in answered_sent t d ds r p due (sym (settled_lasts SentStays sent_lasts q.agenda q t) ∙ is)

takes_clear_so : (r : Reply) (p : PathState Carried) → IsSettled p → SentClear p → SentClear (takes values r p)
takes_clear_so r p due h = record {
  each = λ t is. clear_on t p (takes values r p) (takes_clear values r p) (⊎_elim (λ was. h.each t was) (λ clear. clear) (takes_sent t r p due is));
}

next_clear_so : (p : PathState Carried) → SentClear p → SentClear (next_round p)
next_clear_so p h = record { each = λ t is. clear_on t p (next_round p) (next_clear p) (h.each t (by t is)) }
  where
    q : PathState Carried
    q = record p { clock = p.until; until = p.until + 100 }

    by : (t : Side) → sent_at t (next_round p) ≡ true → sent_at t p ≡ true
    by t is = sym (begins_lasts SentStays sent_lasts q t) ∙ is

opened_clear : (start : Start) (number : ℕ) (plan : PathPlan) → SentClear (begins_turn (waiting_path (path_begins start number plan) start.lines))
opened_clear start number plan = record { each = λ t is. absurd (true≢false (sym is ∙ begins_lasts SentStays sent_lasts p t ∙ none t)) }
  where
    p : PathState Carried
    p = waiting_path (path_begins start number plan) start.lines

    none : (t : Side) → sent_at t p ≡ false
    none A = refl
    none B = refl

-- ---- the world

module _ (start : Start) (mild : IsMildStart start) where
  opened_first : OfFirst SentClear (opened_world start)
  opened_first = record { each = λ c there. (opened_lifted (λ c. Of SentClear c.member) start tt tt (λ number plan at. opened_clear start number plan)).each 2 c there }

  each_clear : (turns : List Turn) → OfFirst SentClear (reached values start turns)
  each_clear = each_first_moment values start (Given start) SentClear (given start mild) opened_first (λ r p g h. takes_clear_so r p g.upright.passes.settled h) (λ p g h. next_clear_so p h)

pub who_sent_its_end_is_clear : (start : Start) (turns : List Turn) → IsMildStart start → (p : PathState Carried) → IsPathAt 0 (reached values start turns) p → (t : Side)
    → (end_at t p).sending.fin_sent ≡ true → (end_at t p).modes.clear ≡ true
who_sent_its_end_is_clear start turns mild p here t = (subst (Of SentClear) here.is ((each_clear start mild turns).each here.crew here.there)).each t
