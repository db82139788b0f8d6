-- A timer that runs goes on as long as something of its end is outstanding, unless there is news.
use Rattle.std.proofs.Common.{◌≡◌, refl, sym, ap, ◌∙◌, ℕ, ◌+◌, ◌≤◌, arith, Bool, true, false, true≢false, not, ◌&&◌, ◌||◌, is_none, if◌then◌else◌, Option, Some, None, List, [], ◌∷◌}
use Rattle.sides.specs.declared.side.Side.{Side}
use Rattle.sides.specs.declared.side.Side.TheVariants.{A, B}
use Rattle.subflow_tcp.specs.Closing.{is_fin_next, after_passing_fin}
use Rattle.subflow_tcp.specs.declared.handshake.State.{State as EndPhase}
use Rattle.subflow_tcp.specs.declared.handshake.State.TheVariants as phase
use Rattle.subflow_tcp.specs.State.{is_some_record}
use Rattle.subflow_tcp.specs.States.{is_closed_to_segments, after_fin_passed}
use Rattle.subflow_tcp.specs.Taking.{after_dropping_held, after_keeping_held}
use Rattle.actor_desk.specs.declared.ask.Reply.{Reply}
use Rattle.path_agenda.specs.declared.duty.Duty.{Duty}
use Rattle.path_agenda.specs.declared.duty.Duty.TheVariants as duties
use Rattle.path_agenda.specs.declared.duty.AskDuty.TheVariants as ask_duties
use Rattle.path_agenda.specs.declared.duty.SilentDuty.TheVariants as silent_duties
use Rattle.path_agenda.specs.declared.duty.StepDuty.TheVariants as step_duties
use Rattle.path_agenda.specs.declared.heard.Heard.{Heard}
use Rattle.path_agenda.specs.declared.heard.Heard.TheVariants as says
use Rattle.path_store.specs.Granted.{is_all_acknowledged}
use Rattle.path_core.specs.Codec.{Codec}
use Rattle.path_core.specs.DataFin.{after_pass_fin}
use Rattle.path_core.specs.Deliver.{mapping_here, after_check, after_pieces, after_keep, is_dropped, is_not_kept}
use Rattle.path_core.specs.DssIn.{counts, with_learned, with_skipped, with_data_fin}
use Rattle.path_core.specs.Duties.{passed, answered}
use Rattle.path_core.specs.End.{PathEnd}
use Rattle.path_core.specs.Fallback.{with_plain_ack}
use Rattle.path_core.specs.Modes.{sends_plainly}
use Rattle.path_core.specs.State.{PathState, end_at, with_agenda, with_end}
use Rattle.path_core.specs.Steps.{takes, next_round}
use Rattle.path_core.specs.Timer.{with_timer_settled}
use Rattle.path_core.specs.Treating.{item_passed, item_of}
use Rattle.world_laws.specs.declared.member.Member.TheVariants.{App, Path}
use Rattle.world_laws.specs.Actors.{Actor, member_takes, member_next}
use Rattle.world_laws.specs.StampedBooks.{answer_to}
use Rattle.world_laws.proofs.Falls.FailedChecks.{forgets_so}
use Rattle.world_laws.proofs.Writes.Steps.{Lasts, settled_lasts, begins_lasts}
use Rattle.whole_paths.specs.AgendaSteps.{is_gone}
use Rattle.whole_paths.specs.AsFar.{stage}
use Rattle.whole_paths.specs.Running.{IsRunning, RunsOn, EndsRunOn, TimersRunOn}
use Rattle.whole_paths.specs.Running.{RunsOn as run}
use Rattle.whole_paths.specs.Waits.{IsNews}
use Rattle.whole_paths.proofs.Duties.{passed_steps, answered_steps}
use Rattle.whole_paths.proofs.Reasons.{has_reason, reasons, outstanding_so}
use Rattle.whole_paths.proofs.Turns.{turn_each}
use Rattle.whole_paths.proofs.Waiting.{Timed, TimedAt, Far, far_then, same_far, calmly, closed_gone, living_stage, news_up, news_stays, gone_stays, item_timed, answered_timed, duty_passes, path_far}
use Rattle.whole_paths.proofs.Waiting.{Timed as timed}
use Rattle.whole_paths.proofs.Waiting.{TimedAt as timed_at}

-- ---- an end

data Goes (tick : ℕ) (e f : PathEnd) : Type 0 where
  on : IsRunning tick f → (f.modes.owes_third ≡ true → e.modes.owes_third ≡ true) → Goes tick e f
  changes : IsNews e f → Goes tick e f
  leaves_it : is_gone f ≡ true → Goes tick e f
  idle : has_reason f ≡ false → Goes tick e f

goes_so : (tick : ℕ) (e f : PathEnd) → Timed e f → Far e f → IsRunning tick e → Goes tick e f
goes_so tick e f (timed.changed x) far h = changes x
goes_so tick e f (timed.gone x) far h = leaves_it x
goes_so tick e f (timed.calm x) far h = by (is_closed_to_segments f.tcp.state) refl
  where
    by : (b : Bool) → is_closed_to_segments f.tcp.state ≡ b → Goes tick e f
    by true closed = let low = living_stage e.tcp.state h.living in let up = far.subflow.state in leaves_it (closed_gone f.tcp.state (omega (arith, low, up)) closed)
    by false living = on (record { timer = x.timer ∙ h.timer; settled = record { subflow = x.subflow ∙ h.settled.subflow; stream = x.stream ∙ h.settled.stream }; living = living }) x.third

-- the timer goes on where it is settled for a reason, without news
settled_stays : (reason news restart : Bool) (o : Option ℕ) (now rto tick : ℕ) → reason ≡ true → o ≡ Some tick → news ≡ false → restart ≡ false
    → (if reason then (if is_none o || (news || restart) then Some (now + rto) else o) else None) ≡ Some tick
settled_stays reason news restart o now rto tick has some quiet still = rw (has, some, quiet, still) refl

timer_goes : (tick now : ℕ) (e : PathEnd) → IsRunning tick e → Goes tick e (with_timer_settled now e)
timer_goes tick now e h = by (has_reason e) refl
  where
    by : (b : Bool) → has_reason e ≡ b → Goes tick e (with_timer_settled now e)
    by false none = idle none
    by true has = on (record {
      timer = settled_stays (has_reason e) e.tcp.timing.news e.sending.news e.tcp.timing.timer now e.tcp.timing.rtt.rto tick has h.timer h.settled.subflow h.settled.stream;
      settled = record { subflow = refl; stream = refl };
      living = h.living;
    }) (λ is. is)

-- no reason comes
abbrev NoneComes : PathEnd → PathEnd → Type 0
NoneComes e f = has_reason e ≡ false → has_reason f ≡ false

third_less : (closed waits third close records : Bool) → (not closed && ((waits || (third || close)) || records)) ≡ false → (not closed && ((waits || (false || close)) || records)) ≡ false
third_less true waits third close records none = refl
third_less false waits false close records none = none
third_less false true true close records none = absurd (true≢false none)
third_less false false true close records none = absurd (true≢false none)

item_less : (s : Side) (o : Option Heard) (e : PathEnd) → NoneComes e (item_passed s o e)
item_less s None e = λ none. none
item_less s (Some says.Dss) e = third_less (is_closed_to_segments e.tcp.state)
    ((not (sends_plainly e.modes) && (e.sending.fin_sent && not e.sending.close.own_acked)) || (not (is_all_acknowledged e.sending.granted) || e.sending.shut))
    e.modes.owes_third e.notices.fast_closed (is_some_record e.tcp.send.records)
item_less s (Some (says.Mapping fin)) e = elim (counts e) as (λ b. NoneComes e (if b then with_learned e else with_skipped e)) [ true ↦ λ none. none | false ↦ λ none. none ]
item_less s (Some (says.DataFin place)) e = elim (counts e) as (λ b. NoneComes e (if b then with_data_fin place e else e)) [ true ↦ λ none. none | false ↦ λ none. none ]
item_less s (Some _) e = λ none. none

fin_less : (state : EndPhase) (rest : Bool) → (not (is_closed_to_segments state) && rest) ≡ false → (not (is_closed_to_segments (after_fin_passed state)) && rest) ≡ false
fin_less phase.Established rest none = none
fin_less phase.FinWait1 rest none = none
fin_less phase.FinWait2 rest none = none
fin_less _ rest none = none

-- what a duty that is passed makes of it
record PassesSo (e f : PathEnd) : Type 0 where
  none : NoneComes e f
  goes : (tick : ℕ) → IsRunning tick e → Goes tick e f

calm_so : (e f : PathEnd) → Timed e f → Far e f → NoneComes e f → PassesSo e f
calm_so e f x far none = record { none = none; goes = λ tick h. goes_so tick e f x far h }

record Passes (e f : PathEnd) : Type 0 where
  far : Far e f
  third : f.modes.owes_third ≡ true → e.modes.owes_third ≡ true
  so : PassesSo e f

same_so : (e : PathEnd) → PassesSo e e
same_so e = calm_so e e (calmly e e refl refl refl) (same_far e) (λ none. none)

goes_then : (tick : ℕ) (e f g : PathEnd) → Far e f → Goes tick e f → Passes f g → Goes tick e g
goes_then tick e f g far (changes x) y = changes (news_stays e f g y.far y.third x)
goes_then tick e f g far (leaves_it x) y = leaves_it (gone_stays f g y.far x)
goes_then tick e f g far (idle none) y = idle (y.so.none none)
goes_then tick e f g far (on h owes) y = by (y.so.goes tick h)
  where
    by : Goes tick f g → Goes tick e g
    by (on k owed) = on k (λ is. owes (owed is))
    by (changes x) = changes (news_up e f g far owes x)
    by (leaves_it x) = leaves_it x
    by (idle none) = idle none

passes_then : (e f g : PathEnd) → Passes e f → Passes f g → Passes e g
passes_then e f g x y = record {
  far = far_then e f g x.far y.far;
  third = λ is. x.third (y.third is);
  so = record { none = λ none. y.so.none (x.so.none none); goes = λ tick h. goes_then tick e f g x.far (x.so.goes tick h) y };
}

-- what is held is kept or dropped, and the peer's FIN is passed
keep_so : (s : Side) (e : PathEnd) → Far e (after_keep s e) → PassesSo e (after_keep s e)
keep_so s e = elim (is_dropped s e) as
    (λ b. let f = record e { tcp = (if b then after_dropping_held e.tcp else after_keeping_held e.tcp); treated = record e.treated { held_edge = (if is_not_kept s e then None else e.treated.held_edge) } } in
    Far e f → PassesSo e f)
    [ true ↦ λ far. calm_so e _ (calmly e _ refl refl refl) far (λ none. none) | false ↦ λ far. calm_so e _ (calmly e _ refl refl refl) far (λ none. none) ]

pass_so : (e : PathEnd) → Far e (after_pass_fin e) → PassesSo e (after_pass_fin e)
pass_so e = elim (is_fin_next e.tcp) as (λ b. let f = record e { tcp = if b then after_passing_fin e.tcp else e.tcp } in Far e f → PassesSo e f)
    [ true ↦ λ far. calm_so e _ (calmly e _ refl refl refl) far (λ none. fin_less e.tcp.state (reasons e) none) | false ↦ λ far. same_so e ]

-- ---- a path

module _ {C : Type 0} where
  abbrev BothPass : PathState C → PathState C → Type 0
  BothPass p q = (s : Side) → Passes (end_at s p) (end_at s q)

  at_side : (s : Side) (e : PathEnd) (p : PathState C) → PassesSo (end_at s p) e → (t : Side) → PassesSo (end_at t p) (end_at t (with_end s e p))
  at_side A e p x A = x
  at_side A e p x B = same_so p.b
  at_side B e p x A = same_so p.a
  at_side B e p x B = x

  own_far : (s : Side) (e : PathEnd) (p : PathState C) → ((t : Side) → Far (end_at t p) (end_at t (with_end s e p))) → Far (end_at s p) e
  own_far A e p far = far A
  own_far B e p far = far B

  duty_so : (d : Duty) (p : PathState C) → ((t : Side) → Far (end_at t p) (end_at t (passed d p))) → (t : Side) → PassesSo (end_at t p) (end_at t (passed d p))
  duty_so (duties.Silent (silent_duties.Timer s)) p far =
      let e : PathEnd = end_at s p in at_side s (with_timer_settled p.clock e) p (record { none = λ none. none; goes = λ tick h. timer_goes tick p.clock e h })
  duty_so (duties.Silent (silent_duties.Keep s)) p far =
      let e : PathEnd = end_at s p in at_side s (after_keep s e) p (keep_so s e (own_far s (after_keep s e) p far))
  duty_so (duties.Silent (silent_duties.PassFin s)) p far =
      let e : PathEnd = end_at s p in at_side s (after_pass_fin e) p (pass_so e (own_far s (after_pass_fin e) p far))
  duty_so (duties.Ask (ask_duties.CheckFailed s)) p far =
      let e : PathEnd = end_at s p in
      at_side s (after_check p.profile e) p (forgets_so (λ f. Far e f → PassesSo e f) p.profile.spelling.checksums (mapping_here e) e
      (λ recv forgets far. calm_so e _ (calmly e _ refl refl refl) far (λ none. none)) (own_far s (after_check p.profile e) p far))
  duty_so (duties.Step (step_duties.Heard s index)) p far =
      let e : PathEnd = end_at s p in let f : PathEnd = item_passed s (item_of index e) e in
      at_side s f p (calm_so e f (item_timed s (item_of index e) e).timed (own_far s f p far) (item_less s (item_of index e) e))
  duty_so (duties.Step (step_duties.PlainAck s)) p far =
      let e : PathEnd = end_at s p in at_side s (with_plain_ack e) p (calm_so e (with_plain_ack e) (calmly e _ refl refl refl) (own_far s (with_plain_ack e) p far) (λ none. none))
  duty_so (duties.Step (step_duties.Unmapped s)) p far =
      let e : PathEnd = end_at s p in at_side s (after_pieces e) p (calm_so e (after_pieces e) (calmly e _ refl refl refl) (own_far s (after_pieces e) p far) (λ none. none))
  duty_so _ p far = λ t. same_so (end_at t p)

  duty_passed : (d : Duty) (p : PathState C) → BothPass p (passed d p)
  duty_passed d p s =
      let x = duty_passes d p (passed_steps d p) in
      record { far = (x s).far; third = (x s).third; so = duty_so d p (λ t. (x t).far) s }

  passes_last : Lasts BothPass
  passes_last = record {
    agenda = λ ds p s. record { far = same_far (end_at s p); third = λ is. is; so = same_so (end_at s p) };
    chains = λ p q r x y s. passes_then (end_at s p) (end_at s q) (end_at s r) (x s) (y s);
    passes = duty_passed;
  }

  -- ---- a turn

  runs_by : (s : Side) (tick : ℕ) (p q : PathState C) → 1 ≤ stage (end_at s q).tcp.state → Goes tick (end_at s p) (end_at s q) → RunsOn s tick p q
  runs_by s tick p q low (on h owes) = run.on h
  runs_by s tick p q low (changes x) = run.news x
  runs_by s tick p q low (leaves_it x) = run.gone x
  runs_by s tick p q low (idle none) = by (is_closed_to_segments (end_at s q).tcp.state) refl
    where
      by : (b : Bool) → is_closed_to_segments (end_at s q).tcp.state ≡ b → RunsOn s tick p q
      by true closed = run.gone (closed_gone (end_at s q).tcp.state low closed)
      by false living = run.done (λ out. true≢false (sym (outstanding_so (end_at s q) out living) ∙ none))

  answer_runs : (d : Duty) (ds : List Duty) (s : Side) (tick : ℕ) (p q r : PathState C) → p.agenda ≡ d ∷ ds → TimedAt d s p q → Far (end_at s p) (end_at s q) → Passes (end_at s q) (end_at s r)
      → IsRunning tick (end_at s p) → RunsOn s tick p r
  answer_runs d ds s tick p q r first (timed_at.out at is next) far y h = run.runs_out at (record { next = next; others = ds; first = first ∙ ap (λ x. x ∷ ds) is })
  answer_runs d ds s tick p q r first (timed_at.at_end x) far y h =
      let low = living_stage (end_at s p).tcp.state h.living in let up = far.subflow.state in let more = y.far.subflow.state in
      runs_by s tick p r (omega (arith, low, up, more)) (goes_then tick (end_at s p) (end_at s q) (end_at s r) far (goes_so tick (end_at s p) (end_at s q) x far h) y)

  takes_runs : (k : Codec C) (r : Reply) (p : PathState C) (s : Side) (tick : ℕ) → IsRunning tick (end_at s p) → RunsOn s tick p (takes k r p)
  takes_runs k r p s tick h = by p.agenda h
    where
      by : (ds : List Duty) → IsRunning tick (end_at s p) → let x = with_agenda ds p in RunsOn s tick x (takes k r x)
      by [] h = run.on h
      by (d ∷ ds) h =
          let x : PathState C = with_agenda (d ∷ ds) p in
          let q : PathState C = answered k d r x in
          answer_runs d ds s tick x q (takes k r x) refl (answered_timed k d r x s) (path_far x q (answered_steps k d r x) s) (settled_lasts BothPass passes_last q.agenda q s) h

  next_runs : (p : PathState C) (s : Side) (tick : ℕ) → IsRunning tick (end_at s p) → RunsOn s tick p (next_round p)
  next_runs p s tick h =
      let x = begins_lasts BothPass passes_last (record p { clock = p.until; until = p.until + 100 }) s in
      let low = living_stage (end_at s p).tcp.state h.living in let up = x.far.subflow.state in
      runs_by s tick p (next_round p) (omega (arith, low, up)) (x.so.goes tick h)

  member_runs : (k : Codec C) (r : Reply) (m : Actor C) → EndsRunOn m (member_takes k r m)
  member_runs k r (App a) = tt
  member_runs k r (Path p) = takes_runs k r p

  member_begins : (m : Actor C) → EndsRunOn m (member_next m)
  member_begins (App a) = tt
  member_begins (Path p) = next_runs p

  member_stays : (m : Actor C) → EndsRunOn m m
  member_stays (App a) = tt
  member_stays (Path p) = λ s tick h. run.on h

  pub timers_run_on : (k : Codec C) → TimersRunOn k
  timers_run_on k = λ w turn. turn_each k (λ c d. EndsRunOn c.member d.member) (λ c. member_stays c.member) (λ ask books c. member_runs k (answer_to books ask) c.member)
      (λ stamp c over. member_begins c.member) turn w
