-- An end has records of data only once it is past the handshake: nothing else is pushed than what it was granted, or its FIN.
use Rattle.std.proofs.Common.{◌≡◌, refl, sym, subst, ap, ◌∙◌, ◌⊎◌, inl, inr, ⊎_elim, ℕ, zero, suc, ◌+◌, ◌≤◌, arith, true, true≢false, Option, Some, None, List, [], ◌∷◌, ◌++◌}
use Rattle.std.specs.List.{slice_get}
use Rattle.std.proofs.lemmas.Bool.{and_parts}
use Rattle.std.proofs.lemmas.Option.{same_Some}
use Rattle.sides.specs.declared.side.Side.{Side}
use Rattle.sides.specs.declared.side.Side.TheVariants.{A, B}
use Rattle.stream_lanes.specs.Words.{Has}
use Rattle.subflow_send.specs.Records.{Record}
use Rattle.subflow_send.specs.Rules.{syn_record}
use Rattle.subflow_send.specs.Sendings.{never_sent}
use Rattle.subflow_send.specs.declared.record.RecordKind.TheVariants.{Data, Syn}
use Rattle.subflow_tcp.specs.States.{may_finish}
use Rattle.subflow_tcp.specs.declared.handshake.State.{State as EndPhase}
use Rattle.subflow_tcp.specs.declared.handshake.State.TheVariants as phase
use Rattle.actor_desk.specs.declared.ask.Reply.{Reply}
use Rattle.path_agenda.specs.declared.duty.Duty.{Duty}
use Rattle.path_agenda.specs.declared.duty.Duty.TheVariants as duties
use Rattle.path_agenda.specs.declared.duty.SendDuty.TheVariants as send_duties
use Rattle.path_agenda.specs.declared.duty.StepDuty.TheVariants as step_duties
use Rattle.path_core.specs.DataFin.{is_fin_due}
use Rattle.path_core.specs.Duties.{answered, passed, stands}
use Rattle.path_core.specs.Emission.{answered_data, answered_grant, data_stands, first_unsent, grant_in, may_ask}
use Rattle.path_core.specs.Events.{next_event}
use Rattle.path_core.specs.Start.{waiting_path}
use Rattle.path_core.specs.State.{PathState, end_at, with_agenda}
use Rattle.path_core.specs.Steps.{begins_turn, takes}
use Rattle.path_core.specs.Turns.{FirstStands, IsSettled}
use Rattle.path_core.specs.Values.{Carried, values}
use Rattle.world_laws.specs.Openings.{PathPlan, Start, opened_world, path_begins}
use Rattle.world_laws.specs.RoundDone.{reached}
use Rattle.world_laws.specs.Worlds.{Turn}
use Rattle.world_laws.proofs.Rounds.Lifting.{opened_lifted}
use Rattle.world_laws.proofs.Whole.Falls.{MemberUpright, each_upright}
use Rattle.world_laws.proofs.Writes.Steps.{Lasts, begins_lasts, settled_lasts}
use Rattle.whole_paths.specs.AsFar.{stage}
use Rattle.whole_paths.specs.Finish.{IsPathAt}
use Rattle.whole_paths.specs.Kept.{IsSameRecord}
use Rattle.whole_paths.specs.Mending.{IsRecordOf}
use Rattle.whole_paths.specs.Mild.{IsMildStart}
use Rattle.whole_paths.proofs.ByTurns.{Becomes, Of, OfFirst, each_step}
use Rattle.whole_paths.proofs.Handshaking.{next_far, takes_far}
use Rattle.whole_paths.proofs.OldRecords.{becomes_old}
use Rattle.whole_paths.proofs.Pushing.{AllStay, answered_next, event_next, passed_next, unsent_next}
use Rattle.whole_paths.proofs.RecordsGo.{SameRecords, same_lasts}
use Rattle.whole_paths.proofs.WholePieces.{RecordsAreWhole, all_are_whole}

-- ---- by a turn

abbrev pub Same : PathState Carried → PathState Carried → Type 0
Same p q = (s : Side) → (end_at s q).tcp.send.nxt ≡ (end_at s p).tcp.send.nxt

pub all_same : (p q : PathState Carried) → AllStay p q → Same p q
all_same p q h A = h.a
all_same p q h B = h.b

pub same_last : Lasts {C = Carried} Same
same_last = record { agenda = λ ds p s. refl; chains = λ p q r x y s. y s ∙ x s; passes = λ d p. all_same p (passed d p) (passed_next d p) }

-- SND.NXT stays, or the end is past the handshake
abbrev pub Pushes : Side → PathState Carried → PathState Carried → Type 0
Pushes s p q = ((end_at s q).tcp.send.nxt ≡ (end_at s p).tcp.send.nxt) ⊎ (may_finish (end_at s p).tcp.state ≡ true)

granted_row : (s t : Side) (r : Reply) (p : PathState Carried) → may_ask p.profile t (end_at t p) ≡ true → Pushes s p (answered_grant t (grant_in r) r p)
granted_row A A r p stood = inr (and_parts (may_finish p.a.tcp.state) _ stood).0
granted_row B B r p stood = inr (and_parts (may_finish p.b.tcp.state) _ stood).0
granted_row A B r p stood = inl (elim (grant_in r) as (λ o. (answered_grant B o r p).a.tcp.send.nxt ≡ p.a.tcp.send.nxt) [ None ↦ refl | Some grant ↦ refl ])
granted_row B A r p stood = inl (elim (grant_in r) as (λ o. (answered_grant A o r p).b.tcp.send.nxt ≡ p.b.tcp.send.nxt) [ None ↦ refl | Some grant ↦ refl ])

data_row : (s t : Side) (o : Option Record) (r : Reply) (p : PathState Carried) → data_stands p.profile t (end_at t p) o ≡ true → Pushes s p (answered_data values t o r p)
data_row s t (Some u) r p stood = inl (all_same p (answered_data values t (Some u) r p) (unsent_next values t u r p) s)
data_row s t None r p stood = granted_row s t r p stood

fin_row : (s t : Side) (r : Reply) (p : PathState Carried) → is_fin_due (end_at t p) ≡ true → Pushes s p (answered values (duties.Send (send_duties.Fin t)) r p)
fin_row A A r p stood = inr (and_parts (may_finish p.a.tcp.state) _ stood).0
fin_row B B r p stood = inr (and_parts (may_finish p.b.tcp.state) _ stood).0
fin_row A B r p stood = inl refl
fin_row B A r p stood = inl refl

duty_row : (s : Side) (d : Duty) (r : Reply) (p : PathState Carried) → stands d p ≡ true → Pushes s p (answered values d r p)
duty_row s (duties.Step (step_duties.Data t)) r p stood = data_row s t (first_unsent (end_at t p)) r p stood
duty_row s (duties.Step step_duties.Events) r p stood = inl (all_same p (answered values (duties.Step step_duties.Events) r p) (event_next values (next_event p) r p) s)
duty_row s (duties.Send (send_duties.Fin t)) r p stood = fin_row s t r p stood
duty_row s d r p stood = inl (all_same p (answered values d r p) (answered_next values d r p refl refl) s)

then_same : (s : Side) (p y q : PathState Carried) → Same y q → Pushes s p y → Pushes s p q
then_same s p y q same (inl is) = inl (same s ∙ is)
then_same s p y q same (inr past) = inr past

pub takes_row : (r : Reply) (p : PathState Carried) → IsSettled p → (s : Side) → Pushes s p (takes values r p)
takes_row r p settled s = by p.agenda settled
  where
    by : (ds : List Duty) → FirstStands ds (with_agenda ds p) → Pushes s (with_agenda ds p) (takes values r (with_agenda ds p))
    by [] stood = inl refl
    by (d ∷ ds) stood =
        let x : PathState Carried = with_agenda (d ∷ ds) p in let y : PathState Carried = answered values d r x in
        then_same s x y (takes values r x) (settled_lasts Same same_last y.agenda y) (duty_row s d r x stood)

pub past_so : (state : EndPhase) → may_finish state ≡ true → 3 ≤ stage state
past_so phase.Established is = omega arith
past_so phase.CloseWait is = omega arith
past_so _ is = absurd (true≢false (sym is))

-- ---- the records of data

abbrev pub DataIsPast : PathState Carried → Type 0
DataIsPast p = (s : Side) (r : Record) → IsRecordOf (end_at s p) r → r.kind ≡ Data → 3 ≤ stage (end_at s p).tcp.state

-- whose record it is after a turn, that was past it before
had_past : (p q : PathState Carried) → IsSettled p → RecordsAreWhole q → Becomes values p q → DataIsPast p → (s : Side) (r : Record) → IsRecordOf (end_at s q) r → r.kind ≡ Data → 3 ≤ stage (end_at s p).tcp.state
had_past p q settled whole becomes h s r one kind = by ((becomes_old values p q becomes s).each one.at r (one.there ∙ ap Some one.holds))
  where
    pushes : (q : PathState Carried) → Becomes values p q → Pushes s p q
    pushes q Becomes.stays = inl refl
    pushes q (Becomes.takes_a_reply r) = takes_row r p settled s
    pushes q Becomes.begins_anew = inl (begins_lasts Same same_last (record p { clock = p.until; until = p.until + 100 }) s)

    by : Has (λ u. IsSameRecord u r) (end_at s p).tcp.send.records ⊎ ((end_at s p).tcp.send.nxt ≤ r.pos) → 3 ≤ stage (end_at s p).tcp.state
    by (inl was) = h s was.item (record { at = was.at; item = was.item; there = was.there; holds = refl }) (sym was.holds.kind ∙ kind)
    by (inr late) = ⊎_elim
        (λ same. absurd (let it = whole.each s r one kind in let some = it.some in let sent = it.sent in omega (arith, late, same, some, sent)))
        (λ may. past_so (end_at s p).tcp.state may)
        (pushes q becomes)

stage_up : (p q : PathState Carried) → Becomes values p q → (s : Side) → stage (end_at s p).tcp.state ≤ stage (end_at s q).tcp.state
stage_up p q Becomes.stays s = omega arith
stage_up p q (Becomes.takes_a_reply r) s = ((takes_far r p).at s).subflow.state
stage_up p q Becomes.begins_anew s = ((next_far p).at s).subflow.state

-- ---- a connection

-- at first an end has its SYN alone
pub opened_alone : (start : Start) (number : ℕ) (plan : PathPlan) (s : Side) (r : Record) → IsRecordOf (end_at s (begins_turn (waiting_path {C = Carried} (path_begins start number plan) start.lines))) r → r ≡ syn_record never_sent
opened_alone start number plan s r one = let p : PathState Carried = waiting_path (path_begins start number plan) start.lines in alone s ((begins_lasts SameRecords same_lasts p) s) one
  where
    syn_alone : (rs : List Record) (i : ℕ) → rs ≡ syn_record never_sent ∷ [] → slice_get rs i ≡ Some r → r ≡ syn_record never_sent
    syn_alone rs i is at = by i (sym (ap (λ (xs : List Record). slice_get xs i) is) ∙ at)
      where
        by : (i : ℕ) → slice_get (syn_record never_sent ∷ []) i ≡ Some r → r ≡ syn_record never_sent
        by zero at = sym (same_Some (syn_record never_sent) r at)
        by (suc i) at = cc

    alone : (s : Side) → (end_at s (begins_turn (waiting_path {C = Carried} (path_begins start number plan) start.lines))).tcp.send.records ≡ (end_at s (waiting_path {C = Carried} (path_begins start number plan) start.lines)).tcp.send.records
        → IsRecordOf (end_at s (begins_turn (waiting_path {C = Carried} (path_begins start number plan) start.lines))) r → r ≡ syn_record never_sent
    alone A same one = syn_alone _ one.at same (one.there ∙ ap Some one.holds)
    alone B same one = syn_alone _ one.at same (one.there ∙ ap Some one.holds)

-- so none of data
pub opened_without : (start : Start) (number : ℕ) (plan : PathPlan) (s : Side) (r : Record) → IsRecordOf (end_at s (begins_turn (waiting_path {C = Carried} (path_begins start number plan) start.lines))) r → r.kind ≡ Data → ⊥
opened_without start number plan s r one kind = let same = ap (λ (x : Record). x.kind) (opened_alone start number plan s r one) in let apart : Syn ≡ Data = sym same ∙ kind in cc

module _ (start : Start) (mild : IsMildStart start) where
  settled_at : (turns : List Turn) (p : PathState Carried) → IsPathAt 0 (reached values start turns) p → IsSettled p
  settled_at turns p here = (subst MemberUpright here.is ((each_upright start turns mild.plain mild.strips).each 2 here.crew here.there)).passes.settled

  whole_at : (turns : List Turn) (p : PathState Carried) → IsPathAt 0 (reached values start turns) p → RecordsAreWhole p
  whole_at turns p here = subst (Of RecordsAreWhole) here.is ((all_are_whole start turns mild.plain.size).each 2 here.crew here.there)

  step_on : (turns : List Turn) (turn : Turn) (p q : PathState Carried) → IsPathAt 0 (reached values start turns) p → IsPathAt 0 (reached values start (turns ++ turn ∷ [])) q → Becomes values p q → DataIsPast p → DataIsPast q
  step_on turns turn p q here there becomes h s r one kind =
      let was = had_past p q (settled_at turns p here) (whole_at (turns ++ turn ∷ []) q there) becomes h s r one kind in let up = stage_up p q becomes s in omega (arith, was, up)

  opened_first : OfFirst DataIsPast (opened_world start)
  opened_first = record { each = λ c there. (opened_lifted (λ c. Of DataIsPast c.member) start tt tt (λ number plan at s r one kind. absurd (opened_without start number plan s r one kind))).each 2 c there }

  past_at : (turns : List Turn) (p : PathState Carried) → IsPathAt 0 (reached values start turns) p → DataIsPast p
  past_at turns p here = subst (Of DataIsPast) here.is ((each_step values start DataIsPast opened_first step_on turns).each here.crew here.there)

  -- so it was before the last turn
  pub past_before : (turns : List Turn) (turn : Turn) (p q : PathState Carried) → IsPathAt 0 (reached values start turns) p → IsPathAt 0 (reached values start (turns ++ turn ∷ [])) q → Becomes values p q
      → (s : Side) (r : Record) → IsRecordOf (end_at s q) r → r.kind ≡ Data → 3 ≤ stage (end_at s p).tcp.state
  past_before turns turn p q here there becomes = had_past p q (settled_at turns p here) (whole_at (turns ++ turn ∷ []) q there) becomes (past_at turns p here)
