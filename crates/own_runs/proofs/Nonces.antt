-- The nonces of both ends of a path are those that were drawn, at every moment.
use Rattle.std.proofs.Common.{◌≡◌, refl, sym, ap, ◌∙◌, subst, ℕ, zero, suc, ◌+◌, false, Some, List}
use Rattle.std.specs.List.{slice_get}
use Rattle.std.proofs.Common.{⊎_elim}
use Rattle.std.proofs.lemmas.Option.{same_Some}
use Rattle.actor_desk.specs.declared.ask.Reply.{Reply}
use Rattle.path_agenda.specs.declared.duty.AskDuty.{AskDuty}
use Rattle.path_agenda.specs.declared.duty.Duty.{Duty}
use Rattle.path_agenda.specs.declared.duty.SendDuty.{SendDuty}
use Rattle.path_agenda.specs.declared.duty.SilentDuty.{SilentDuty}
use Rattle.path_agenda.specs.declared.duty.StepDuty.{StepDuty}
use Rattle.path_core.specs.Duties.{answered, passed}
use Rattle.path_core.specs.End.{PathEnd}
use Rattle.path_core.specs.Start.{first_turn, waiting_path}
use Rattle.path_core.specs.State.{PathState}
use Rattle.path_core.specs.Steps.{takes, next_round}
use Rattle.path_core.specs.Values.{Carried, values}
use Rattle.stream_lanes.proofs.Lists.{in_map, in_set}
use Rattle.world_laws.proofs.Worlds.Opened.{opened_actors}
use Rattle.world_laws.proofs.Worlds.Turns.{run_so}
use Rattle.world_laws.proofs.Writes.Paths.{writes_no_more, passes_no_more}
use Rattle.world_laws.proofs.Writes.Steps.{Lasts, both_ends, unwritten, takes_lasts, begins_lasts}
use Rattle.world_laws.specs.Actors.{Actor, ActorCrew, member_takes, member_next}
use Rattle.world_laws.specs.Openings.{Start, PathPlan, path_begins, opened_world}
use Rattle.world_laws.specs.StampedBooks.{answer_to}
use Rattle.world_laws.specs.Worlds.{WorldState, Turn, world_run, crew_after, begins, greatest}
use Rattle.world_laws.specs.Writes.{send_writes}
use Rattle.world_laws.specs.Writes.{writes, side_of, ask_writes, step_writes, silent_writes, Only, OnlyAt, EndWrites, EndView}
use Rattle.world_laws.specs.declared.member.Member.TheVariants.{App, Path}

-- ---- no duty writes them

no_ask : (d : AskDuty) → (ask_writes d).own_nonce ≡ false
no_ask AskDuty.JoinAgain = refl
no_ask _ = refl

no_send : (d : SendDuty) → (send_writes d).own_nonce ≡ false
no_send (SendDuty.Update s) = refl
no_send _ = refl

no_silent : (d : SilentDuty) → (silent_writes d).own_nonce ≡ false
no_silent (SilentDuty.Timer s) = refl
no_silent _ = refl

no_step : (d : StepDuty) → ((step_writes d).own.own_nonce ≡ false) × ((step_writes d).other.own_nonce ≡ false)
no_step StepDuty.Events = (refl, refl)
no_step _ = (refl, refl)

not_written : (d : Duty) → ((writes d).own.own_nonce ≡ false) × ((writes d).other.own_nonce ≡ false)
not_written (Duty.Ask d) = (no_ask d, refl)
not_written (Duty.Step d) = no_step d
not_written (Duty.Send d) = (no_send d, refl)
not_written (Duty.Silent d) = (no_silent d, refl)
not_written Duty.End = (refl, refl)

abbrev SameEnd : PathEnd → PathEnd → Type 0
SameEnd e f = f.modes.own_nonce ≡ e.modes.own_nonce

same_end : (w : EndWrites) → w.own_nonce ≡ false → (e f : PathEnd) → Only w e f → SameEnd e f
same_end w never e f x = unwritten w.own_nonce e.modes.own_nonce f.modes.own_nonce never (ap (λ (v : EndView). v.own_nonce) x.same)

abbrev Same : PathState Carried → PathState Carried → Type 0
Same p q = SameEnd p.a q.a × SameEnd p.b q.b

only_same : (d : Duty) (p q : PathState Carried) → OnlyAt (side_of d) (writes d) p q → Same p q
only_same d p q x =
    both_ends SameEnd (side_of d) (writes d) p q (same_end (writes d).own (not_written d).0) (same_end (writes d).other (not_written d).1) x

lasts : Lasts Same
lasts = record {
  agenda = λ ds p. (refl, refl);
  chains = λ p q r x y. (y.0 ∙ x.0, y.1 ∙ x.1);
  passes = λ d p. only_same d p (passed d p) (passes_no_more d p);
}

takes_same : (r : Reply) (p : PathState Carried) → Same p (takes values r p)
takes_same r p = takes_lasts Same lasts values r p (λ d. only_same d p (answered values d r p) (writes_no_more values d r p))

next_same : (p : PathState Carried) → Same p (next_round p)
next_same p = begins_lasts Same lasts (record p { clock = p.until; until = p.until + 100 })

-- ---- worlds

-- those of the path of this number
abbrev pub HasNonces : Start → ℕ → PathState Carried → Type 0
HasNonces start number p = (plan : PathPlan) → slice_get start.paths number ≡ Some plan → (p.a.modes.own_nonce ≡ plan.nonce_a) × (p.b.modes.own_nonce ≡ plan.nonce_b)

abbrev pub ActorHas : Start → ℕ → Actor Carried → Type 0
ActorHas start zero m = Unit {0}
ActorHas start (suc zero) m = Unit {0}
ActorHas start (suc (suc number)) (App a) = Unit {0}
ActorHas start (suc (suc number)) (Path p) = HasNonces start number p

abbrev pub WorldHas : Start → WorldState Carried → Type 0
WorldHas start w = (actor : ℕ) (c : ActorCrew Carried) → slice_get w.crew actor ≡ Some c → ActorHas start actor c.member

module _ (start : Start) where
  later : (number : ℕ) (p q : PathState Carried) → Same p q → HasNonces start number p → HasNonces start number q
  later number p q same h plan there = (same.0 ∙ (h plan there).0, same.1 ∙ (h plan there).1)

  takes_has : (actor : ℕ) (r : Reply) (m : Actor Carried) → ActorHas start actor m → ActorHas start actor (member_takes values r m)
  takes_has zero r m h = tt
  takes_has (suc zero) r m h = tt
  takes_has (suc (suc number)) r (App a) h = tt
  takes_has (suc (suc number)) r (Path p) h = later number p (takes values r p) (takes_same r p) h

  next_has : (actor : ℕ) (m : Actor Carried) → ActorHas start actor m → ActorHas start actor (member_next m)
  next_has zero m h = tt
  next_has (suc zero) m h = tt
  next_has (suc (suc number)) (App a) h = tt
  next_has (suc (suc number)) (Path p) h = later number p (next_round p) (next_same p) h

  opened_has : WorldHas start (opened_world start)
  opened_has = opened_actors (λ actor c. ActorHas start actor c.member) start tt tt (λ number plan there. path number plan there)
    where
      path : (number : ℕ) (plan : PathPlan) → slice_get start.paths number ≡ Some plan → HasNonces start number (first_turn (path_begins start number plan) start.lines)
      path number plan there other at =
          let same : plan ≡ other = same_Some plan other (sym there ∙ at) in
          let begun = begins_lasts Same lasts (waiting_path (path_begins start number plan) start.lines) in
          (begun.0 ∙ ap (λ (x : PathPlan). x.nonce_a) same, begun.1 ∙ ap (λ (x : PathPlan). x.nonce_b) same)

  pub always_has : (turns : List Turn) → WorldHas start (world_run values turns (opened_world start))
  always_has turns =
      run_so values (WorldHas start)
      (λ w h actor c x there is i d at.
      ⊎_elim
      (λ here. subst (λ (n : ℕ). ActorHas start n d.member) (sym here.0)
      (subst (λ (y : ActorCrew Carried). ActorHas start actor y.member) here.1 (takes_has actor (answer_to w.books x) c.member (h actor c there))))
      (λ other. h i d other.1)
      (in_set w.crew actor (crew_after values x w.books c) i d at))
      (λ w h over i d at.
      let found = in_map (begins (greatest 0 w.crew)) w.crew i d at in
      subst (λ (y : ActorCrew Carried). ActorHas start i y.member) found.2 (next_has i found.0.member (h i found.0 found.1)))
      turns (opened_world start) opened_has
