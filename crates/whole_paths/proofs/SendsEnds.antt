-- A's DATA_FIN is acknowledged, and its FIN sent, only where A may send a DSS: each sign of Multipath TCP comes to it behind a first DSS.
use Rattle.std.proofs.Common.{◌≡◌, refl, sym, subst, ap, ◌∙◌, ◌⊎◌, inl, inr, ⊎_elim, ℕ, ◌+◌, ◌<◌, arith, ◌&&◌, Bool, true, false, true≢false, if◌then◌else◌, Option, Some, None, is_some, List, [], ◌∷◌}
use Rattle.std.proofs.lemmas.Bool.{and_parts, both_ways}
use Rattle.path_segments.specs.Heard.{HeardSegment}
use Rattle.sides.specs.declared.side.Side.{Side}
use Rattle.sides.specs.declared.side.Side.TheVariants.{A, B}
use Rattle.sides.specs.Side.{peer}
use Rattle.link_model.specs.Steps.{after_delivery, arriving}
use Rattle.link_model.specs.declared.flight.Due.{Due}
use Rattle.subflow_tcp.specs.Closing.{after_passing_fin}
use Rattle.subflow_tcp.specs.States.{is_dead}
use Rattle.subflow_tcp.specs.declared.handshake.State.{State}
use Rattle.subflow_tcp.specs.declared.handshake.State.TheVariants as phase
use Rattle.subflow_tcp.specs.declared.verdicts.Meaning.{Meaning}
use Rattle.subflow_tcp.specs.declared.verdicts.Meaning.TheVariants as means
use Rattle.actor_desk.specs.declared.ask.Reply.{Reply}
use Rattle.path_agenda.specs.declared.duty.Duty.{Duty}
use Rattle.path_agenda.specs.declared.duty.Duty.TheVariants as duties
use Rattle.path_agenda.specs.declared.duty.AskDuty.TheVariants as ask_duties
use Rattle.path_agenda.specs.declared.duty.SendDuty.TheVariants as send_duties
use Rattle.path_agenda.specs.declared.duty.SilentDuty.TheVariants as silent_duties
use Rattle.path_agenda.specs.declared.duty.StepDuty.TheVariants as step_duties
use Rattle.path_agenda.specs.declared.heard.Heard.{Heard}
use Rattle.path_agenda.specs.declared.heard.Heard.TheVariants as says
use Rattle.path_core.specs.Arrival.{after_judged, copy_heard, copy_judged, heard_in, judged_in, owing_if, reset_for, with_payload, copy_of}
use Rattle.path_core.specs.Codec.{Codec}
use Rattle.path_core.specs.DssIn.{counts, held_of}
use Rattle.path_core.specs.Duties.{answered, passed, sent_for, stands}
use Rattle.path_core.specs.End.{PathEnd}
use Rattle.path_core.specs.Events.{next_event}
use Rattle.path_core.specs.Judged.{taken_as}
use Rattle.path_core.specs.MpJoin.{is_joined}
use Rattle.path_core.specs.OptionsIn.{hint_of, items_of, options_heard, owes_by}
use Rattle.path_core.specs.Profile.{Profile}
use Rattle.path_core.specs.Start.{first_state, waiting_path}
use Rattle.path_core.specs.State.{PathState, at_tick, end_at, with_agenda}
use Rattle.path_core.specs.Steps.{begins_turn, next_round, takes}
use Rattle.path_core.specs.Treating.{answered_heard, answered_item, item_of, item_passed}
use Rattle.path_core.specs.Turns.{FirstStands}
use Rattle.path_core.specs.Values.{Carried, values}
use Rattle.path_core.specs.declared.events.Event.TheVariants as happenings
use Rattle.world_laws.specs.declared.member.Member.TheVariants.{App, Path}
use Rattle.world_laws.specs.Actors.{Actor}
use Rattle.world_laws.specs.Openings.{PathPlan, Start, opened_world, path_begins}
use Rattle.world_laws.specs.RoundDone.{reached}
use Rattle.world_laws.specs.Worlds.{Turn}
use Rattle.world_laws.specs.Writes.{EndView, OnlyAt, PathView, side_of, writes}
use Rattle.world_laws.proofs.Falls.ClearStays.{next_clear, takes_clear}
use Rattle.world_laws.proofs.Falls.FailedChecks.{fail_answered_so}
use Rattle.world_laws.proofs.Keys.DssIsTheSign.{IsLed, IsUnclear, Leads, LeadsWell, begins_lead, next_leads, takes_leads, unheard, unled}
use Rattle.world_laws.proofs.Keys.WhatWakes.{next_happens}
use Rattle.world_laws.proofs.Rounds.Lifting.{opened_lifted}
use Rattle.world_laws.proofs.Writes.Paths.{passes_no_more, writes_no_more}
use Rattle.world_laws.proofs.Writes.Steps.{Lasts, begins_lasts, settled_lasts, unwritten}
use Rattle.path_core.specs.DssIn.{with_data_fin, with_learned, with_skipped}
use Rattle.path_core.specs.Choices.{item_at}
use Rattle.path_core.specs.DataFin.{is_all_granted, is_fin_due}
use Rattle.path_core.specs.Fallback.{plain_next}
use Rattle.subflow_tcp.specs.State.{EndState}
use Rattle.subflow_tcp.specs.States.{may_finish}
use Rattle.subflow_tcp.specs.Taking.{after_arrival}
use Rattle.whole_paths.specs.Clear.{WhoIsDoneIsClear}
use Rattle.whole_paths.specs.Delivery.{HasFinished}
use Rattle.whole_paths.specs.Finish.{IsPathAt}
use Rattle.whole_paths.specs.Mild.{EndsGoByMappings, IsMildStart}
use Rattle.whole_paths.specs.Rising.{is_joining}
use Rattle.whole_paths.proofs.ByTurns.{Of, OfFirst, each_first_moment}
use Rattle.whole_paths.proofs.Finished.{arrival_stays, behind_ending, fin_passed_back, is_ending}
use Rattle.whole_paths.proofs.GoingOn.{plain_none}
use Rattle.whole_paths.proofs.Handshaking.{Given, PathMet, each_met, given, never_joins, never_waits}
use Rattle.whole_paths.proofs.Mild.{mapping_is_kept}
use Rattle.whole_paths.proofs.Opening.{held_state, owing_state}
use Rattle.whole_paths.proofs.Pieces.{own_only}
use Rattle.whole_paths.proofs.Settling.{sides}
use Rattle.whole_paths.proofs.StatesByDuties.{AllKept, Fate, answered_fate, at_end, by_event, ends, from_there, kept_lasts, side, stay}

-- ---- the FIN

-- an end is behind its FIN only where it was
record Back (e f : PathEnd) : Type 0 where
  back : is_ending f.tcp.state ≡ true → is_ending e.tcp.state ≡ true

same : (e f : PathEnd) → f.tcp.state ≡ e.tcp.state → Back e f
same e f is = record { back = λ ending. ap is_ending (sym is) ∙ ending }

never_ending : (x : State) → is_dead x ≡ true → is_ending x ≡ true → ⊥
never_ending phase.Dead dead ending = true≢false (sym ending)
never_ending _ dead ending = true≢false (sym dead)

gone : (e f : PathEnd) → is_dead f.tcp.state ≡ true → Back e f
gone e f dead = record { back = λ ending. absurd (never_ending f.tcp.state dead ending) }

back_then : (e f g : PathEnd) → Back e f → Back f g → Back e g
back_then e f g x y = record { back = λ ending. x.back (y.back ending) }

passes_back : (e : PathEnd) → Back e (record e { tcp = after_passing_fin e.tcp })
passes_back e = record { back = fin_passed_back e.tcp.state }

module _ (c : Profile) (s : Side) (now : ℕ) (h : HeardSegment) (e : PathEnd) where
  abbrev heard_as : Meaning → PathEnd
  heard_as m = copy_judged (is_joined c) (held_of c s h) (reset_for c s h) s now h m e

  abbrev arrived_as : Meaning → EndState
  arrived_as m = after_arrival m (hint_of (items_of (is_joined c) s h)) now (copy_of h) (with_payload m h.payload e.tcp)

  arrived : (m : Meaning) → (heard_as m).tcp ≡ owing_if (owes_by m (items_of (is_joined c) s h)) (arrived_as m) → Back e (heard_as m)
  arrived m is = record {
    back = λ ending.
        let at = ap is_ending (sym (ap (λ (t : EndState). t.state) is ∙ owing_state (owes_by m (items_of (is_joined c) s h)) (arrived_as m))) ∙ ending in
        ap is_ending (sym (held_state m h.payload e.tcp)) ∙ (arrival_stays m (hint_of (items_of (is_joined c) s h)) now (copy_of h) (with_payload m h.payload e.tcp)).state at;
  }

heard_back : (c : Profile) (s : Side) (now : ℕ) (h : HeardSegment) (e : PathEnd) (m : Meaning) → Back e (copy_judged (is_joined c) (held_of c s h) (reset_for c s h) s now h m e)
heard_back c s now h e means.Opens = record { back = λ is. absurd (true≢false (sym is)) }
heard_back c s now h e (means.Accepts n) = arrived c s now h e (means.Accepts n) refl
heard_back c s now h e (means.Taken pos n) = arrived c s now h e (means.Taken pos n) refl
heard_back c s now h e means.Kills = gone e _ refl
heard_back c s now h e _ = same e _ refl

module _ {C : Type 0} (k : Codec C) where
  -- by what an end gets behind its FIN
  data EndsBy (t : Side) (p : PathState C) : Type 0 where
    sends : (others : List Duty) → p.agenda ≡ duties.Send (send_duties.Fin t) ∷ others → EndsBy t p
    joins : (tick : ℕ) → next_event p ≡ Some (happenings.Joins tick) → EndsBy t p
    duty : (d : Duty) (others : List Duty) → p.agenda ≡ d ∷ others → is_joining d ≡ true → EndsBy t p

  finishes : (s : Side) (others : List Duty) (p : PathState C) → p.agenda ≡ duties.Send (send_duties.Fin s) ∷ others → (t : Side) → Fate Back EndsBy t p (sent_for k (send_duties.Fin s) p)
  finishes A others p first A = inr (EndsBy.sends others first)
  finishes A others p first B = inl (same p.b (sent_for k (send_duties.Fin A) p).b refl)
  finishes B others p first A = inl (same p.a (sent_for k (send_duties.Fin B) p).a refl)
  finishes B others p first B = inr (EndsBy.sends others first)

  heard_fate : (due : Due) (others : List Duty) (p : PathState C) → p.agenda ≡ by_event ∷ others → next_event p ≡ Some (happenings.Arrives due) → (o : Option HeardSegment)
      → heard_in k due.to (arriving due p.link) p ≡ o → (t : Side) → Fate Back EndsBy t p (copy_heard due.to o (record (at_tick due.tick p) { link = after_delivery due p.link }))
  heard_fate due others p first next None is t =
      let q : PathState C = record (at_tick due.tick p) { link = after_delivery due p.link } in
      ends Back EndsBy p (copy_heard due.to None q) (from_there Back p q (copy_heard due.to None q) refl refl (stay Back same gone q (copy_heard due.to None q) refl refl)) t
  heard_fate due others p first next (Some heard) is t = ends Back EndsBy p (copy_heard s (Some heard) q) (from_there Back p q (copy_heard s (Some heard) q) refl refl
      (side Back same gone s (after_judged q.profile s q.clock h (judged_in (is_joined q.profile) s h e) e) q (copy_heard s (Some heard) q)
      (heard_back q.profile s q.clock h e (taken_as (judged_in (is_joined q.profile) s h e))) refl refl)) t
    where
      s : Side
      s = due.to

      q : PathState C
      q = record (at_tick due.tick p) { link = after_delivery due p.link }

      e : PathEnd
      e = end_at s q

      h : HeardSegment
      h = options_heard e heard

  back_lasts : Lasts {C = C} (AllKept Back)
  back_lasts = kept_lasts Back same gone back_then passes_back

  takes_back : (r : Reply) (p : PathState C) (t : Side) → is_ending (end_at t (takes k r p)).tcp.state ≡ true → (is_ending (end_at t p).tcp.state ≡ true) ⊎ EndsBy t p
  takes_back r p t = by p.agenda
    where
      by : (ds : List Duty) → let x = record p { agenda = ds } in is_ending (end_at t (takes k r x)).tcp.state ≡ true → (is_ending (end_at t x).tcp.state ≡ true) ⊎ EndsBy t x
      by [] ending = inl ending
      by (d ∷ ds) ending =
          let x : PathState C = record p { agenda = d ∷ ds } in
          let q : PathState C = answered k d r x in
          let was = (at_end Back (settled_lasts (AllKept Back) back_lasts q.agenda q) t).back ending in
          ⊎_elim (λ kept. inl (kept.back was)) (λ by. inr by)
          (answered_fate Back same gone k EndsBy (λ t tick p next. EndsBy.joins tick next) (λ t d others p first is. EndsBy.duty d others first is) finishes heard_fate d ds r x refl t)

  next_back : (p : PathState C) → Back p.a (next_round p).a
  next_back p =
      let q : PathState C = record p { clock = p.until; until = p.until + 100 } in
      at_end Back (from_there Back p q (next_round p) refl refl (begins_lasts (AllKept Back) back_lasts q)) A

-- ---- the DATA_FIN

abbrev own_acked : PathState Carried → Bool
own_acked p = p.a.sending.close.own_acked

-- with it, how many bytes are acknowledged
abbrev told_of : PathEnd → Bool × ℕ
told_of e = (e.sending.close.own_acked, e.sending.heard)

abbrev told : PathState Carried → Bool × ℕ
told p = told_of p.a

-- what is heard at A's end, and the subflow's acknowledgement
abbrev acks : Duty → Bool
acks (duties.Step (step_duties.Heard s index)) = true
acks (duties.Ask (ask_duties.SubflowAck s)) = true
acks _ = false

own_unwritten : (d : Duty) → acks d ≡ false → ((writes d).own.own_acked ≡ false) × ((writes d).own.heard ≡ false)
own_unwritten (duties.Step (step_duties.Heard s index)) none = absurd (true≢false none)
own_unwritten (duties.Ask (ask_duties.SubflowAck s)) none = absurd (true≢false none)
own_unwritten (duties.Send (send_duties.Update s)) none = (refl, refl)
own_unwritten (duties.Silent (silent_duties.Timer s)) none = (refl, refl)
own_unwritten _ none = (refl, refl)

other_unwritten : (d : Duty) → ((writes d).other.own_acked ≡ false) × ((writes d).other.heard ≡ false)
other_unwritten (duties.Step step_duties.Events) = (refl, refl)
other_unwritten d = (refl, refl)

both_told : (e f : PathEnd) → f.sending.close.own_acked ≡ e.sending.close.own_acked → f.sending.heard ≡ e.sending.heard → told_of f ≡ told_of e
both_told e f acked heard = ap (λ b. (b, f.sending.heard)) acked ∙ ap (λ n. (e.sending.close.own_acked, n)) heard

-- at A's end, by the duties of the other one, and by the most of its own
same_acked : (d : Duty) (p q : PathState Carried) → (side_of d ≡ A → acks d ≡ false) → OnlyAt (side_of d) (writes d) p q → told q ≡ told p
same_acked d p q none x = ⊎_elim
    (λ own. subst (λ t. told_of (end_at t q) ≡ told_of (end_at t p)) own
    (let view = (own_only (side_of d) (writes d) p q x).same in let kept = own_unwritten d (none own) in both_told (end_at (side_of d) p) (end_at (side_of d) q)
    (unwritten (writes d).own.own_acked (end_at (side_of d) p).sending.close.own_acked (end_at (side_of d) q).sending.close.own_acked kept.0 (ap (λ (v : EndView). v.own_acked) view))
    (unwritten (writes d).own.heard (end_at (side_of d) p).sending.heard (end_at (side_of d) q).sending.heard kept.1 (ap (λ (v : EndView). v.heard) view))))
    (λ away. subst (λ t. told_of (end_at t q) ≡ told_of (end_at t p)) away
    (let view = ap (λ (v : PathView Carried). v.other) x.same in let kept = other_unwritten d in both_told (end_at (peer (side_of d)) p) (end_at (peer (side_of d)) q)
    (unwritten (writes d).other.own_acked (end_at (peer (side_of d)) p).sending.close.own_acked (end_at (peer (side_of d)) q).sending.close.own_acked kept.0 (ap (λ (v : EndView). v.own_acked) view))
    (unwritten (writes d).other.heard (end_at (peer (side_of d)) p).sending.heard (end_at (peer (side_of d)) q).sending.heard kept.1 (ap (λ (v : EndView). v.heard) view))))
    (sides A (side_of d))

item_acked : (o : Option Heard) (e : PathEnd) → told_of (item_passed A o e) ≡ told_of e
item_acked None e = refl
item_acked (Some (says.Mapping fin)) e = elim (counts e) as (λ b. told_of (if b then with_learned e else with_skipped e) ≡ told_of e) [ true ↦ refl | false ↦ refl ]
item_acked (Some (says.DataFin place)) e = elim (counts e) as (λ b. told_of (if b then with_data_fin place e else e) ≡ told_of e) [ true ↦ refl | false ↦ refl ]
item_acked (Some _) e = refl

passed_acked : (d : Duty) (p : PathState Carried) → told (passed d p) ≡ told p
passed_acked (duties.Step (step_duties.Heard A index)) p = item_acked (item_of index p.a) p.a
passed_acked (duties.Step (step_duties.Heard B index)) p = refl
passed_acked (duties.Ask (ask_duties.SubflowAck s)) p = refl
passed_acked (duties.Step step_duties.Events) p = refl
passed_acked d p = same_acked d p (passed d p) (λ own. refl) (passes_no_more d p)

acked_lasts : Lasts {C = Carried} (λ p q. told q ≡ told p)
acked_lasts = record { agenda = λ ds p. refl; chains = λ p q r x y. y ∙ x; passes = λ d p. passed_acked d p }

-- what a copy says to A's end, which may send no DSS yet, is nothing that a DSS says
module _ (index : ℕ) (ds : List Duty) (r : Reply) (p : PathState Carried) (above : p.a.modes.identity ≡ false) (unclear : p.a.modes.clear ≡ false) where
  abbrev x : PathState Carried
  x = with_agenda (duties.Step (step_duties.Heard A index) ∷ ds) p

  is_led : Leads (duties.Step (step_duties.Heard A index) ∷ ds) x → (item : Heard) → item_at index p.a.treated.items ≡ Some item → IsLed false item
  is_led leads item is = ⊎_elim
      (λ clear. absurd (both_ways p.a.modes.clear unclear clear))
      (λ (u : IsUnclear (duties.Step (step_duties.Heard A index) ∷ ds) x).
      unled u.n p.a.treated.items item leads.led (unheard x u.n above u.none) (subst (λ n. item_at n p.a.treated.items ≡ Some item) u.follows.0 is))
      leads.clear

  thing_acked : (item : Heard) → IsLed false item → told (answered_heard values A item r x) ≡ told x
  thing_acked (says.DataAck next window) led = absurd (true≢false (sym led))
  thing_acked (says.Mapping fin) led = absurd (true≢false (sym led))
  thing_acked (says.DataFin place) led = absurd (true≢false (sym led))
  thing_acked (says.InfiniteMapping place position) led = absurd (true≢false (sym led))
  thing_acked (says.Keys own other) led = refl
  thing_acked (says.Notice notice) led = refl
  thing_acked says.Fail led = fail_answered_so (λ q. told q ≡ told x) A r x refl refl
  thing_acked _ led = refl

  things_acked : Leads (duties.Step (step_duties.Heard A index) ∷ ds) x → (o : Option Heard) → item_at index p.a.treated.items ≡ o → told (answered_item values A o r x) ≡ told x
  things_acked leads None is = refl
  things_acked leads (Some item) is = thing_acked item (is_led leads item is)

  heard_acked : Leads (duties.Step (step_duties.Heard A index) ∷ ds) x → told (answered_item values A (item_of index p.a) r x) ≡ told x
  heard_acked leads = by p.a.modes.identity above
    where
      by : (b : Bool) → b ≡ false → told (answered_item values A (if b then None else item_at index p.a.treated.items) r x) ≡ told x
      by true is = absurd (true≢false is)
      by false is = things_acked leads (item_at index p.a.treated.items) refl

-- ---- a turn

plain_none_next : (e : PathEnd) → e.modes.identity ≡ false → e.modes.own_infinite ≡ None → plain_next e ≡ None
plain_none_next e identity infinite = rw (identity, infinite) refl

pub record EndsClear (p : PathState Carried) : Type 0 where
  pub leads : LeadsWell p
  pub acked : own_acked p ≡ true → p.a.modes.clear ≡ true
  pub heard : 0 < p.a.sending.heard → p.a.modes.clear ≡ true
  pub ended : is_ending p.a.tcp.state ≡ true → p.a.modes.clear ≡ true

module _ (p : PathState Carried) (maps : EndsGoByMappings p) (unclear : p.a.modes.clear ≡ false) where
  answered_acked : (d : Duty) (ds : List Duty) (r : Reply) → let x : PathState Carried = with_agenda (d ∷ ds) p in stands d x ≡ true → Leads (d ∷ ds) x → told (answered values d r x) ≡ told x
  answered_acked (duties.Step (step_duties.Heard A index)) ds r due leads = heard_acked index ds r p (maps A).identity unclear leads
  answered_acked (duties.Ask (ask_duties.SubflowAck A)) ds r due leads =
      absurd (true≢false (sym (and_parts (is_some (plain_next p.a)) _ due).0 ∙ ap is_some (plain_none_next p.a (maps A).identity (maps A).own)))
  answered_acked (duties.Step (step_duties.Heard B index)) ds r due leads =
      let d : Duty = duties.Step (step_duties.Heard B index) in let x : PathState Carried = with_agenda (d ∷ ds) p in same_acked d x (answered values d r x) (λ own. cc) (writes_no_more values d r x)
  answered_acked (duties.Ask (ask_duties.SubflowAck B)) ds r due leads =
      let d : Duty = duties.Ask (ask_duties.SubflowAck B) in let x : PathState Carried = with_agenda (d ∷ ds) p in same_acked d x (answered values d r x) (λ own. cc) (writes_no_more values d r x)
  answered_acked d ds r due leads = let x : PathState Carried = with_agenda (d ∷ ds) p in same_acked d x (answered values d r x) (λ own. refl) (writes_no_more values d r x)

  takes_acked : (r : Reply) → FirstStands p.agenda p → LeadsWell p → told (takes values r p) ≡ told p
  takes_acked r = by p.agenda
    where
      by : (ds : List Duty) → FirstStands ds (with_agenda ds p) → Leads ds (with_agenda ds p) → told (takes values r (with_agenda ds p)) ≡ told p
      by [] due leads = refl
      by (d ∷ ds) due leads =
          let x : PathState Carried = with_agenda (d ∷ ds) p in let q : PathState Carried = answered values d r x in
          settled_lasts (λ p q. told q ≡ told p) acked_lasts q.agenda q ∙ answered_acked d ds r due leads

module _ (start : Start) (p : PathState Carried) (g : Given start p) (h : PathMet p) (maps : EndsGoByMappings p) (c : EndsClear p) where
  unacked : p.a.modes.clear ≡ false → own_acked p ≡ true → ⊥
  unacked unclear is = both_ways p.a.modes.clear unclear (c.acked is)

  -- the FIN goes where the DATA_FIN is acknowledged
  fin_acked : (others : List Duty) → p.agenda ≡ duties.Send (send_duties.Fin A) ∷ others → own_acked p ≡ true
  fin_acked others first =
      let due : is_fin_due p.a ≡ true = subst (λ ds. FirstStands ds p) first g.upright.passes.settled in
      let goes = (and_parts (may_finish p.a.tcp.state) _ due).1 in
      let maps_so = plain_none p.a (maps A).identity (maps A).own in
      (and_parts (own_acked p) p.a.sending.close.peer_came (subst (λ b. (if b then is_all_granted p.a.sending.known_end p.a.sending else (own_acked p && p.a.sending.close.peer_came)) ≡ true) maps_so goes)).0

  ends_by : EndsBy values A p → own_acked p ≡ true
  ends_by (EndsBy.sends others first) = fin_acked others first
  ends_by (EndsBy.joins tick next) = absurd (never_waits start p g h (next_happens p (happenings.Joins tick) next))
  ends_by (EndsBy.duty d others is may) = absurd (never_joins start p g h d others is may)

  takes_ends : (r : Reply) → EndsClear (takes values r p)
  takes_ends r =
      let q : PathState Carried = takes values r p in
      let on = (takes_clear values r p).a.0 in
      record {
        leads = takes_leads values r p g.upright.passes.settled c.leads;
        acked = λ is. by q on p.a.modes.clear refl is;
        heard = λ some. by_heard q on p.a.modes.clear refl some;
        ended = λ is. on (⊎_elim (λ was. c.ended was) (λ by. c.acked (ends_by by)) (takes_back values r p A is));
      }
    where
      by : (q : PathState Carried) → (p.a.modes.clear ≡ true → q.a.modes.clear ≡ true) → (b : Bool) → p.a.modes.clear ≡ b → own_acked (takes values r p) ≡ true → q.a.modes.clear ≡ true
      by q on true clear is = on clear
      by q on false unclear is = absurd (unacked unclear (sym (ap (λ (t : Bool × ℕ). t.0) (takes_acked p maps unclear r g.upright.passes.settled c.leads)) ∙ is))

      by_heard : (q : PathState Carried) → (p.a.modes.clear ≡ true → q.a.modes.clear ≡ true) → (b : Bool) → p.a.modes.clear ≡ b → 0 < (takes values r p).a.sending.heard → q.a.modes.clear ≡ true
      by_heard q on true clear some = on clear
      by_heard q on false unclear some = on (c.heard (let same = ap (λ (t : Bool × ℕ). t.1) (takes_acked p maps unclear r g.upright.passes.settled c.leads) in omega (arith, some, same)))

  next_ends : EndsClear (next_round p)
  next_ends =
      let q : PathState Carried = record p { clock = p.until; until = p.until + 100 } in
      let on = (next_clear p).a.0 in
      record {
        leads = next_leads p c.leads;
        acked = λ is. on (c.acked (sym (ap (λ (t : Bool × ℕ). t.0) (begins_lasts (λ p q. told q ≡ told p) acked_lasts q)) ∙ is));
        heard = λ some. on (c.heard (let same = ap (λ (t : Bool × ℕ). t.1) (begins_lasts (λ p q. told q ≡ told p) acked_lasts q) in omega (arith, some, same)));
        ended = λ is. on (c.ended ((next_back values p).back is));
      }

-- ---- the opening

opened_ends : (start : Start) (number : ℕ) (plan : PathPlan) → EndsClear (begins_turn (waiting_path (path_begins start number plan) start.lines))
opened_ends start number plan =
    let p : PathState Carried = waiting_path (path_begins start number plan) start.lines in
    record {
      leads = begins_lead p (record { led = tt; clear = inr (record { n = 0; none = inr tt; follows = tt }) });
      acked = λ is. absurd (true≢false (sym is ∙ ap (λ (t : Bool × ℕ). t.0) (begins_lasts (λ p q. told q ≡ told p) acked_lasts p)));
      heard = λ some. absurd (let same = ap (λ (t : Bool × ℕ). t.1) (begins_lasts (λ p q. told q ≡ told p) acked_lasts p) in omega (arith, some, same));
      ended = λ is. absurd (true≢false (sym ((at_end Back (begins_lasts (AllKept Back) (back_lasts values) p) A).back is) ∙ unsent (path_begins start number plan).joined_at));
    }
  where
    unsent : (o : Option ℕ) → is_ending (first_state o) ≡ false
    unsent None = refl
    unsent (Some tick) = refl

-- ---- the world

module _ (start : Start) (mild : IsMildStart start) where
  record Known (p : PathState Carried) : Type 0 where
    given : Given start p
    met : PathMet p
    maps : EndsGoByMappings p

  known_first : (m : Actor Carried) → Of (Given start) m → Of PathMet m → Of EndsGoByMappings m → Of Known m
  known_first (App a) g h maps = tt
  known_first (Path p) g h maps = record { given = g; met = h; maps = maps }

  known : (turns : List Turn) → OfFirst Known (reached values start turns)
  known turns = record { each = λ c there. known_first c.member ((given start mild turns).each c there) ((each_met start mild turns).each c there) ((mapping_is_kept start turns mild).each 2 c there) }

  opened_first : OfFirst EndsClear (opened_world start)
  opened_first = record {
    each = λ c there. (opened_lifted (λ c. Of EndsClear c.member) start tt tt (λ number plan at. opened_ends start number plan)).each 2 c there;
  }

  pub each_ends : (turns : List Turn) → OfFirst EndsClear (reached values start turns)
  each_ends = each_first_moment values start Known EndsClear known opened_first (λ r p k h. takes_ends start p k.given k.met k.maps h r) (λ p k h. next_ends start p k.given k.met k.maps h)

  done_clear : (p : PathState Carried) → EndsClear p → HasFinished p.a → p.a.modes.clear ≡ true
  done_clear p h (HasFinished.acknowledged is) = h.acked is
  done_clear p h (HasFinished.sent_fin behind living) = h.ended (behind_ending p.a.tcp.state behind living)

  done_at : (turns : List Turn) (p : PathState Carried) → IsPathAt 0 (reached values start turns) p → HasFinished p.a → p.a.modes.clear ≡ true
  done_at turns p here done = done_clear p (subst (Of EndsClear) here.is ((each_ends turns).each here.crew here.there)) done

pub who_is_done_is_clear : WhoIsDoneIsClear
who_is_done_is_clear start turns mild p here done = done_at start mild turns p here done
