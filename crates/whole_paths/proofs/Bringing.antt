-- Each octet that comes to an end is kept until RCV.NXT passes it.
use Rattle.std.proofs.Common.{◌≡◌, refl, sym, subst, ap, ◌∙◌, ◌⊎◌, inl, inr, ⊎_elim, ℕ, zero, suc, ◌+◌, ◌-◌, ◌^◌, ◌<◌, ◌≤◌, arith, nat_lt, nat_le, ◌==◌, Bool, true, false, true≢false, ◌&&◌, if◌then◌else◌, Option, Some, None, is_some, List, [], ◌∷◌, length}
use Rattle.std.specs.Prelude.{unwrap_or}
use Rattle.std.specs.List.{slice_get}
use Rattle.std.proofs.lemmas.Bool.{and_parts, cases_lt, eqb-true, lt-ltb, le-leb}
use Rattle.std.proofs.lemmas.Option.{same_Some}
use Rattle.path_segments.specs.Heard.{HeardSegment}
use Rattle.sides.specs.declared.side.Side.{Side}
use Rattle.sides.specs.Side.{peer}
use Rattle.dss_mapping.specs.Mappings.{octets_of}
use Rattle.dss_mapping.specs.declared.kept.KeptMapping.{KeptMapping}
use Rattle.fallback_state.specs.declared.fall.Event.TheVariants as events
use Rattle.link_model.specs.Steps.{after_delivery}
use Rattle.subflow_recv.specs.Laws.{first_of as first_octet, payload_octet}
use Rattle.subflow_recv.specs.Receiving.{Receiving, filled, window_end, place_at, octet_at, cut, without_held, after_keep_held, after_forget_from}
use Rattle.subflow_recv.proofs.ByPosition.{what_comes_first_is_kept_lem}
use Rattle.subflow_tcp.specs.Closing.{is_fin_next, after_passing_fin}
use Rattle.subflow_tcp.specs.State.{EndState, is_fin_passed}
use Rattle.subflow_tcp.specs.Taking.{after_keeping_held, after_dropping_held}
use Rattle.subflow_tcp.specs.declared.verdicts.Meaning.TheVariants as means
use Rattle.actor_desk.specs.declared.ask.Reply.{Reply}
use Rattle.actor_desk.specs.Words.{is_nil, pick}
use Rattle.path_agenda.specs.Agenda.{start_of_turn, copy_came}
use Rattle.path_agenda.specs.Words.{first_of}
use Rattle.path_agenda.specs.declared.duty.Duty.{Duty}
use Rattle.path_agenda.specs.declared.duty.Duty.TheVariants as duties
use Rattle.path_agenda.specs.declared.duty.AskDuty.TheVariants as ask_duties
use Rattle.path_agenda.specs.declared.duty.SilentDuty.TheVariants as silent_duties
use Rattle.path_agenda.specs.declared.duty.StepDuty.TheVariants as step_duties
use Rattle.path_store.specs.Passing.{is_there}
use Rattle.path_core.specs.Arrival.{after_judged, copy_heard, template_of, with_payload}
use Rattle.path_core.specs.Codec.{Codec}
use Rattle.path_core.specs.DataFin.{after_pass_fin}
use Rattle.path_core.specs.Deliver.{mapping_here, is_wrong, failing_by, forgotten_by, after_check, after_pieces, is_dropped, after_keep}
use Rattle.path_core.specs.Duties.{stands, passed, answered}
use Rattle.path_core.specs.End.{PathEnd}
use Rattle.path_core.specs.Events.{next_event, happens_if}
use Rattle.path_core.specs.Fallback.{after_fell, with_plain_ack, after_check_failed}
use Rattle.path_core.specs.MpJoin.{is_joined}
use Rattle.path_core.specs.OptionsIn.{items_of, options_heard}
use Rattle.path_core.specs.Profile.{Profile}
use Rattle.path_core.specs.State.{PathState, at_tick, end_at, with_agenda}
use Rattle.path_core.specs.Steps.{settled, takes, next_round}
use Rattle.path_core.specs.Timer.{with_timer_settled}
use Rattle.path_core.specs.Treating.{item_of, item_passed}
use Rattle.path_core.specs.declared.events.Event.{Event}
use Rattle.path_core.specs.declared.judged.Judged.{Judged}
use Rattle.path_core.specs.declared.judged.Judged.TheVariants as judged
use Rattle.world_laws.specs.declared.member.Member.TheVariants.{App, Path}
use Rattle.world_laws.specs.Actors.{Actor, member_takes, member_next, is_over}
use Rattle.world_laws.specs.StampedBooks.{answer_to}
use Rattle.world_laws.specs.Writes.{PathView, side_of}
use Rattle.world_laws.proofs.Falls.FailedChecks.{forgets_so}
use Rattle.world_laws.proofs.Writes.Paths.{writes_no_more}
use Rattle.whole_paths.specs.Brought.{IsKept, IsToKeep, FailsItsCheck, IsThere, Comes, Brings, StaysThere, KeepsWhatComes, PathsKeepWhatComes, WhatComesIsKept}
use Rattle.whole_paths.specs.Brought.{IsThere as there}
use Rattle.whole_paths.specs.Brought.{StaysThere as stay}
use Rattle.whole_paths.proofs.Agendas.{own_end}
use Rattle.whole_paths.proofs.Duties.{answered_steps}
use Rattle.whole_paths.proofs.Moving.{taken_recv, item_recv, event_moves, answered_moves, answered_other_recv, passed_other_recv}
use Rattle.whole_paths.proofs.Settling.{sides}
use Rattle.whole_paths.proofs.Staying.{same_kept, kept_moves, Soon, Now, then_soon, copy_soon, Fails, fails_so, failed_so, failure_tcp, told_end, settled_so}
use Rattle.whole_paths.proofs.Staying.Lies.{below, at_place, at_dead}
use Rattle.whole_paths.proofs.Staying.Now.{lies, in_hand, resets_next}
use Rattle.whole_paths.proofs.Treating.{Leads, Before, before_answers}
use Rattle.whole_paths.proofs.Treating.Leads.{as_they_are, one_more}
use Rattle.whole_paths.proofs.Treating.Before.{on, resets_then, dies}
use Rattle.whole_paths.proofs.Turns.{turn_each}
use Rattle.whole_paths.proofs.Waiting.{path_far}

-- nothing is kept, and no payload held
record Empty (v : Receiving) : Type 0 where
  places : v.places ≡ []
  incoming : v.incoming ≡ None

empty_at : (pos : ℕ) (v : Receiving) → Empty v → octet_at pos v ≡ None
empty_at pos v h = ap (λ (places : List (Option ℕ)). if nat_lt pos v.edge then None else place_at (pos - v.edge) places) h.places
    ∙ elim (nat_lt pos v.edge) as (λ b. (if b then None else place_at (pos - v.edge) []) ≡ None) [ true ↦ refl | false ↦ refl ]

forgotten_empty : (x : KeptMapping) (n : ℕ) (t : EndState) → is_there x t.recv.edge n ≡ true → Empty (after_forget_from x.pos t.recv)
forgotten_empty x n t is =
    let first = eqb-true x.pos t.recv.edge (and_parts (x.pos == t.recv.edge) (nat_lt 0 (octets_of x) && (nat_le (octets_of x) n && nat_le (x.place + octets_of x) (2 ^ 62))) is).0 in
    let all : x.pos - t.recv.edge ≡ 0 = omega (arith, first) in
    record { places = ap (λ n. cut n t.recv.places) all; incoming = refl }

-- ---- what is forgotten

empty_keep : (b : Bool) (t : EndState) → Empty t.recv → Empty (if b then after_dropping_held t else after_keeping_held t).recv
empty_keep true t h = record { places = h.places; incoming = refl }
empty_keep false t h = elim (is_fin_passed t) as (λ b. Empty (if b then without_held t.recv else after_keep_held t.recv)) [
  | true ↦ record { places = h.places; incoming = refl }
  | false ↦ record { places = ap (λ (o : Option (List (Option ℕ))). unwrap_or o t.recv.places) h.incoming ∙ h.places; incoming = refl }
]

cut_nil : (n : ℕ) → cut n [] ≡ []
cut_nil zero = refl
cut_nil (suc n) = refl

empty_check : (c : Profile) (e : PathEnd) → Empty e.tcp.recv → Empty (after_check c e).tcp.recv
empty_check c e h = forgets_so (λ f. Empty f.tcp.recv) c.spelling.checksums (mapping_here e) e (λ recv forgotten. ⊎_elim
    (λ is. subst Empty (sym is) h)
    (λ from. subst Empty (sym from.1) (record { places = ap (cut (from.0 - e.tcp.recv.edge)) h.places ∙ cut_nil (from.0 - e.tcp.recv.edge); incoming = refl }))
    forgotten)

own_empty : (s : Side) (f a b : PathEnd) → Empty f.tcp.recv → Empty (pick s (pick s f a) (pick s b f)).tcp.recv
own_empty s f a b h = subst (λ (g : PathEnd). Empty g.tcp.recv) (sym (own_end s f a b)) h

pub first_so : (d first : Duty) (ds others : List Duty) → d ∷ ds ≡ first ∷ others → d ≡ first
first_so d first ds others is = same_Some d first (ap first_of is)

module _ {C : Type 0} where
  -- ---- a duty that is answered

  same_profile : (k : Codec C) (d : Duty) (ds : List Duty) (r : Reply) (p : PathState C) → (answered k d r (with_agenda (d ∷ ds) p)).profile ≡ p.profile
  same_profile k d ds r p = ap (λ (v : PathView C). v.profile) (writes_no_more k d r (with_agenda (d ∷ ds) p)).same

  told_check : (s : Side) (pos octet : ℕ) (next ds : List Duty) (p : PathState C) → let x : PathState C = with_agenda (duties.Ask (ask_duties.CheckFailed s) ∷ ds) p in let e : PathEnd = end_at s p in
      let sums : Bool = p.profile.spelling.checksums in (o : Option KeptMapping) (g : PathEnd) → mapping_here e ≡ o → g.tcp ≡ e.tcp → IsKept pos octet e.tcp.recv
      → FailsItsCheck s x ⊎ Now s pos octet next p.profile (forgotten_by sums o g)
  told_check s pos octet next ds p None g is tcp h = inr (lies (at_place (same_kept pos octet (end_at s p).tcp.recv g.tcp.recv (ap (λ (t : EndState). t.recv) tcp) h)))
  told_check s pos octet next ds p (Some m) g is tcp h = (elim (is_wrong sums m g.tcp) as
      (λ b. is_wrong sums m g.tcp ≡ b → FailsItsCheck s x ⊎ Now s pos octet next p.profile (if b then record g { tcp = record g.tcp { recv = after_forget_from m.pos g.tcp.recv } } else g)) [
        | true ↦ λ wrong. (let h : Fails sums m (end_at s p).tcp = fails_so sums m (end_at s p).tcp (subst (λ t. is_wrong sums m t ≡ true) tcp wrong) in
            inl (record { others = ds; first = refl; checksums = h.sums; mapping = m; here = is; there = h.there; wrong = h.wrong }))
        | false ↦ λ right. inr (lies (at_place (same_kept pos octet (end_at s p).tcp.recv g.tcp.recv (ap (λ (t : EndState). t.recv) tcp) h)))
      ]) refl
    where
      x : PathState C
      x = with_agenda (duties.Ask (ask_duties.CheckFailed s) ∷ ds) p

      sums : Bool
      sums = p.profile.spelling.checksums

  check_answers : (k : Codec C) (s : Side) (pos octet : ℕ) (ds : List Duty) (r : Reply) (p : PathState C) → let d : Duty = duties.Ask (ask_duties.CheckFailed s) in let x : PathState C = with_agenda (d ∷ ds) p in
      let q : PathState C = answered k d r x in IsKept pos octet (end_at s p).tcp.recv → FailsItsCheck s x ⊎ Now s pos octet q.agenda p.profile (end_at s q)
  check_answers k s pos octet ds r p h =
      let d : Duty = duties.Ask (ask_duties.CheckFailed s) in let x : PathState C = with_agenda (d ∷ ds) p in let q : PathState C = answered k d r x in
      let e : PathEnd = end_at s p in let sums = p.profile.spelling.checksums in
      subst (λ f. FailsItsCheck s x ⊎ Now s pos octet q.agenda p.profile f) (sym (own_end s (after_check_failed sums r e) p.a p.b))
      (told_check s pos octet q.agenda ds p (mapping_here e) (told_end p.profile r e) refl (failure_tcp (failing_by sums (mapping_here e) e.tcp) r (after_fell events.CheckFailed r e)) h)

  -- an octet that is kept
  kept_answer : (k : Codec C) (s : Side) (pos octet : ℕ) (d : Duty) (ds : List Duty) (r : Reply) (p : PathState C) → let x : PathState C = with_agenda (d ∷ ds) p in let q : PathState C = answered k d r x in
      IsKept pos octet (end_at s p).tcp.recv → FailsItsCheck s x ⊎ Now s pos octet q.agenda p.profile (end_at s q)
  kept_answer k s pos octet (duties.Step step_duties.Events) ds r p h =
      let x : PathState C = with_agenda (duties.Step step_duties.Events ∷ ds) p in let q : PathState C = answered k (duties.Step step_duties.Events) r x in
      inr (lies (kept_moves pos octet (end_at s x) (end_at s q) h (event_moves k (next_event x) r x s)))
  kept_answer k s pos octet (duties.Ask (ask_duties.CheckFailed t)) ds r p h = ⊎_elim
      (λ own. subst (λ u. IsKept pos octet (end_at u p).tcp.recv → FailsItsCheck u x ⊎ Now u pos octet q.agenda p.profile (end_at u q)) own (check_answers k t pos octet ds r p) h)
      (λ away. subst (λ u. IsKept pos octet (end_at u p).tcp.recv → FailsItsCheck u x ⊎ Now u pos octet q.agenda p.profile (end_at u q)) away
      (λ h. inr (lies (at_place (same_kept pos octet (end_at (peer t) p).tcp.recv (end_at (peer t) q).tcp.recv (answered_other_recv k d r x refl) h)))) h)
      (sides s t)
    where
      d : Duty
      d = duties.Ask (ask_duties.CheckFailed t)

      x : PathState C
      x = with_agenda (d ∷ ds) p

      q : PathState C
      q = answered k d r x
  kept_answer k s pos octet d ds r p h =
      let x : PathState C = with_agenda (d ∷ ds) p in let q : PathState C = answered k d r x in
      inr (lies (kept_moves pos octet (end_at s x) (end_at s q) h (answered_moves k s d r x refl refl)))

  -- one that is held
  hand_answer : (k : Codec C) (s : Side) (pos octet : ℕ) (d : Duty) (ds : List Duty) (r : Reply) (p : PathState C) → let q : PathState C = answered k d r (with_agenda (d ∷ ds) p) in
      octet_at pos (after_keep_held (end_at s p).tcp.recv) ≡ Some octet → IsToKeep s (d ∷ ds) → Now s pos octet q.agenda p.profile (end_at s q)
  hand_answer k s pos octet d ds r p at keep =
      by (subst (λ u. Before u ds (end_at u p) (end_at u q) q.agenda) keep.0 (before_answers k d ds r p keep.1.0))
    where
      q : PathState C
      q = answered k d r (with_agenda (d ∷ ds) p)

      soon : (next : List Duty) → Leads s ds next → Soon s next
      soon next as_they_are = keep.1.1
      soon next (one_more e own before heard) = then_soon s e ds own before keep.1.1

      by : Before s ds (end_at s p) (end_at s q) q.agenda → Now s pos octet q.agenda p.profile (end_at s q)
      by (on is leads) = in_hand (ap (λ (v : Receiving). octet_at pos (after_keep_held v)) is.recv ∙ at) (soon q.agenda leads)
      by (resets_then is) = resets_next is
      by (dies is) = lies (at_dead is)

  there_answer : (k : Codec C) (s : Side) (pos octet : ℕ) (d : Duty) (ds : List Duty) (r : Reply) (p : PathState C) → let x : PathState C = with_agenda (d ∷ ds) p in let q : PathState C = answered k d r x in
      IsThere s pos octet x → FailsItsCheck s x ⊎ Now s pos octet q.agenda p.profile (end_at s q)
  there_answer k s pos octet d ds r p (there.passed low) =
      let x : PathState C = with_agenda (d ∷ ds) p in let up = (path_far x (answered k d r x) (answered_steps k d r x) s).subflow.received in inr (lies (below (omega (arith, low, up))))
  there_answer k s pos octet d ds r p (there.kept h) = kept_answer k s pos octet d ds r p h
  there_answer k s pos octet d ds r p (there.held at keep) = inr (hand_answer k s pos octet d ds r p at keep)

  -- ---- a copy comes

  -- the path without it, at its tick
  abbrev pub coming_by : {k : Codec C} (ds : List Duty) (p : PathState C) → Comes k (with_agenda (duties.Step step_duties.Events ∷ ds) p) → PathState C
  coming_by ds p c = record (at_tick c.due.tick (with_agenda (duties.Step step_duties.Events ∷ ds) p)) { link = after_delivery c.due p.link }

  pub comes_so : (P : PathState C → Type 0) (k : Codec C) (ds : List Duty) (r : Reply) (p : PathState C) (c : Comes k (with_agenda (duties.Step step_duties.Events ∷ ds) p))
      → P (copy_heard c.due.to (Some c.segment) (coming_by ds p c)) → P (answered k (duties.Step step_duties.Events) r (with_agenda (duties.Step step_duties.Events ∷ ds) p))
  comes_so P k ds r p c h =
      subst (λ (o : Option Event). P (happens_if k o r (with_agenda (duties.Step step_duties.Events ∷ ds) p))) (sym c.next)
      (subst (λ (o : Option HeardSegment). P (copy_heard c.due.to o (coming_by ds p c))) (sym c.heard) h)

  module _ (k : Codec C) (ds : List Duty) (r : Reply) (p : PathState C) (b : Brings k (with_agenda (duties.Step step_duties.Events ∷ ds) p)) where
    abbrev at_copy : PathState C
    at_copy = with_agenda (duties.Step step_duties.Events ∷ ds) p

    abbrev own : PathEnd
    own = end_at b.copy.due.to p

    abbrev coming : PathState C
    coming = coming_by ds p b.copy

    abbrev said : HeardSegment
    said = options_heard own b.copy.segment

    held_at : (pos octet : ℕ) (payload : List ℕ) → payload_octet pos b.position payload ≡ Some octet → own.tcp.recv.edge ≤ pos → pos < window_end own.tcp.recv
        → octet_at pos (after_keep_held (with_payload (means.Taken b.position b.acknowledged) payload own.tcp).recv) ≡ Some (unwrap_or (octet_at pos own.tcp.recv) octet)
    held_at pos octet [] is high within = absurd (no_octet (nat_lt pos b.position) is)
      where
        no_octet : (low : Bool) → (if low then None else slice_get {X = ℕ} [] (pos - b.position)) ≡ Some octet → ⊥
        no_octet true is = true≢false (sym (ap is_some is))
        no_octet false is = true≢false (sym (ap is_some is))
    held_at pos octet (first ∷ payload) is high within =
        let v = own.tcp.recv in
        what_comes_first_is_kept_lem v b.position (first ∷ payload) pos
        ∙ ap (λ c. if c then first_octet (octet_at pos v) (payload_octet pos b.position (first ∷ payload)) else octet_at pos v)
        (ap (λ c. c && nat_lt pos (window_end v)) (le-leb v.edge pos high) ∙ lt-ltb pos (window_end v) within)
        ∙ ap (first_octet (octet_at pos v)) is ∙ either (octet_at pos v)
      where
        either : (o : Option ℕ) → first_octet o (Some octet) ≡ Some (unwrap_or o octet)
        either None = refl
        either (Some other) = refl

    -- as it is taken
    taken_now : (pos octet : ℕ) → payload_octet pos b.position b.copy.segment.payload ≡ Some octet → own.tcp.recv.edge ≤ pos → pos < window_end own.tcp.recv
        → let q = copy_heard b.copy.due.to (Some b.copy.segment) coming in Now b.copy.due.to pos (unwrap_or (octet_at pos own.tcp.recv) octet) q.agenda p.profile (end_at b.copy.due.to q)
    taken_now pos octet is high within =
        subst (λ (verdict : Judged). Now s pos o (template_of (is_joined p.profile) s (items_of (is_joined p.profile) s said) verdict) p.profile
        (pick s (pick s (after_judged p.profile s coming.clock said verdict own) p.a) (pick s p.b (after_judged p.profile s coming.clock said verdict own))))
        (sym b.taken)
        (subst (λ f. Now s pos o (copy_came s (length (items_of (is_joined p.profile) s said))) p.profile f) (sym (own_end s taken p.a p.b))
        (in_hand (ap (λ (v : Receiving). octet_at pos (after_keep_held v)) (taken_recv p.profile s coming.clock said own b.position b.acknowledged) ∙ held_at pos octet b.copy.segment.payload is high within)
        (copy_soon s (length (items_of (is_joined p.profile) s said)))))
      where
        s : Side
        s = b.copy.due.to

        o : ℕ
        o = unwrap_or (octet_at pos own.tcp.recv) octet

        taken : PathEnd
        taken = after_judged p.profile s coming.clock said (judged.As (means.Taken b.position b.acknowledged)) own

    brought : (pos octet : ℕ) → payload_octet pos b.position b.copy.segment.payload ≡ Some octet → pos < window_end own.tcp.recv
        → let q = answered k (duties.Step step_duties.Events) r at_copy in Now b.copy.due.to pos (unwrap_or (octet_at pos own.tcp.recv) octet) q.agenda p.profile (end_at b.copy.due.to q)
    brought pos octet is within = ⊎_elim
        (λ low. (let d : Duty = duties.Step step_duties.Events in
        let up = (path_far at_copy (answered k d r at_copy) (answered_steps k d r at_copy) b.copy.due.to).subflow.received in lies (below (omega (arith, low, up)))))
        (λ high. comes_so (λ q. Now b.copy.due.to pos (unwrap_or (octet_at pos own.tcp.recv) octet) q.agenda p.profile (end_at b.copy.due.to q)) k ds r p b.copy (taken_now pos octet is high within))
        (cases_lt pos own.tcp.recv.edge)

  -- ---- what is forgotten

  passed_empty : (d : Duty) (p : PathState C) → Empty (end_at (side_of d) p).tcp.recv → Empty (end_at (side_of d) (passed d p)).tcp.recv
  passed_empty (duties.Ask (ask_duties.CheckFailed s)) p h = own_empty s (after_check p.profile (end_at s p)) p.a p.b (empty_check p.profile (end_at s p) h)
  passed_empty (duties.Step (step_duties.Heard s index)) p h =
      let e = end_at s p in own_empty s (item_passed s (item_of index e) e) p.a p.b (subst Empty (sym (item_recv s (item_of index e) e)) h)
  passed_empty (duties.Step (step_duties.PlainAck s)) p h = own_empty s (with_plain_ack (end_at s p)) p.a p.b h
  passed_empty (duties.Step (step_duties.Unmapped s)) p h = own_empty s (after_pieces (end_at s p)) p.a p.b h
  passed_empty (duties.Silent (silent_duties.Timer s)) p h = own_empty s (with_timer_settled p.clock (end_at s p)) p.a p.b h
  passed_empty (duties.Silent (silent_duties.Keep s)) p h = own_empty s (after_keep s (end_at s p)) p.a p.b (empty_keep (is_dropped s (end_at s p)) (end_at s p).tcp h)
  passed_empty (duties.Silent (silent_duties.PassFin s)) p h =
      let e = end_at s p in own_empty s (after_pass_fin e) p.a p.b (elim (is_fin_next e.tcp) as (λ b. Empty (if b then after_passing_fin e.tcp else e.tcp).recv) [ true ↦ record { places = refl; incoming = refl } | false ↦ h ])
  passed_empty _ p h = h

  empty_passes : (s : Side) (d : Duty) (p : PathState C) → Empty (end_at s p).tcp.recv → Empty (end_at s (passed d p)).tcp.recv
  empty_passes s d p h = ⊎_elim
      (λ own. subst (λ t. Empty (end_at t p).tcp.recv → Empty (end_at t (passed d p)).tcp.recv) own (passed_empty d p) h)
      (λ away. subst (λ t. Empty (end_at t p).tcp.recv → Empty (end_at t (passed d p)).tcp.recv) away (λ h. subst Empty (sym (passed_other_recv d p)) h) h)
      (sides s (side_of d))

  settled_empty : (s : Side) (ds : List Duty) (p : PathState C) → Empty (end_at s p).tcp.recv → Empty (end_at s (settled ds p)).tcp.recv
  settled_empty s [] p h = h
  settled_empty s (d ∷ ds) p h = elim (stands d p) as (λ b. Empty (end_at s (if b then with_agenda (d ∷ ds) p else settled ds (passed d p))).tcp.recv)
      [ true ↦ h | false ↦ settled_empty s ds (passed d p) (empty_passes s d p h) ]

  check_forgets : (k : Codec C) (s : Side) (ds : List Duty) (r : Reply) (p : PathState C) → let x : PathState C = with_agenda (duties.Ask (ask_duties.CheckFailed s) ∷ ds) p in FailsItsCheck s x
      → Empty (end_at s (answered k (duties.Ask (ask_duties.CheckFailed s)) r x)).tcp.recv
  check_forgets k s ds r p h =
      own_empty s (after_check_failed sums r e) p.a p.b
      (subst (λ o. Empty (forgotten_by sums o (told_end p.profile r e)).tcp.recv) (sym h.here)
      (subst (λ (b : Bool). Empty (if b then record (told_end p.profile r e) { tcp = record (told_end p.profile r e).tcp { recv = after_forget_from h.mapping.pos (told_end p.profile r e).tcp.recv } } else told_end p.profile r e).tcp.recv)
      (sym (subst (λ t. is_wrong sums h.mapping t ≡ true) (sym tcp) wrong))
      (subst (λ (t : EndState). Empty (after_forget_from h.mapping.pos t.recv)) (sym tcp) (forgotten_empty h.mapping (length (filled e.tcp.recv.places)) e.tcp h.there))))
    where
      e : PathEnd
      e = end_at s p

      sums : Bool
      sums = p.profile.spelling.checksums

      tcp : (told_end p.profile r e).tcp ≡ e.tcp
      tcp = failure_tcp (failing_by sums (mapping_here e) e.tcp) r (after_fell events.CheckFailed r e)

      wrong : is_wrong sums h.mapping e.tcp ≡ true
      wrong = failed_so sums h.mapping e.tcp (record { sums = h.checksums; there = h.there; wrong = h.wrong })

  -- ---- a turn

  module _ (k : Codec C) (ds : List Duty) (r : Reply) (p : PathState C) where
    -- behind the duty, and as it is answered
    abbrev from : Duty → PathState C
    from d = with_agenda (d ∷ ds) p

    abbrev to : Duty → PathState C
    to d = answered k d r (from d)

    settles : (d : Duty) (s : Side) (pos octet : ℕ) → Now s pos octet (to d).agenda p.profile (end_at s (to d)) → StaysThere s pos octet (from d) (takes k r (from d))
    settles d s pos octet now = settled_so s pos octet (from d) (to d).agenda (to d)
        (subst (λ c. Now s pos octet (to d).agenda c (end_at s (to d))) (sym (same_profile k d ds r p)) now)

    abbrev Brought : (d : Duty) → Brings k (from d) → Type 0
    Brought d b = (pos octet : ℕ) → let v : Receiving = (end_at b.copy.due.to p).tcp.recv in payload_octet pos b.position b.copy.segment.payload ≡ Some octet → pos < window_end v
        → (takes k r (from d) ≡ from d) ⊎ StaysThere b.copy.due.to pos (unwrap_or (octet_at pos v) octet) (from d) (takes k r (from d))

    comes : (b : Brings k (from (duties.Step step_duties.Events))) → Brought (duties.Step step_duties.Events) b
    comes b pos octet is within =
        inr (settles (duties.Step step_duties.Events) b.copy.due.to pos (unwrap_or (octet_at pos (end_at b.copy.due.to p).tcp.recv) octet) (brought k ds r p b pos octet is within))

    abbrev Forgotten : Side → Duty → Type 0
    Forgotten s d = FailsItsCheck s (from d) → (pos : ℕ) → octet_at pos (end_at s (takes k r (from d))).tcp.recv ≡ None

    forgets : (s : Side) → Forgotten s (duties.Ask (ask_duties.CheckFailed s))
    forgets s h pos =
        let d : Duty = duties.Ask (ask_duties.CheckFailed s) in
        empty_at pos (end_at s (takes k r (from d))).tcp.recv (settled_empty s (to d).agenda (to d) (check_forgets k s ds r p h))

    answer_keeps : (d : Duty) → KeepsWhatComes k (from d) (takes k r (from d))
    answer_keeps d = record {
      brings = λ b. subst (λ d. (b : Brings k (from d)) → Brought d b) (sym (first_so d (duties.Step step_duties.Events) ds b.copy.others b.copy.first)) comes b;
      stays = λ s pos octet h. ⊎_elim (λ fails. stay.fails fails) (λ now. settles d s pos octet now) (there_answer k s pos octet d ds r p h);
      forgets = λ s h. inr (subst (λ d. Forgotten s d) (sym (first_so d (duties.Ask (ask_duties.CheckFailed s)) ds h.others h.first)) (forgets s) h);
    }

  path_stays : (k : Codec C) (p : PathState C) → KeepsWhatComes k p p
  path_stays k p = record { brings = λ b pos octet is within. inl refl; stays = λ s pos octet h. stay.on h; forgets = λ s h. inl refl }

  takes_keeps : (k : Codec C) (r : Reply) (p : PathState C) → KeepsWhatComes k p (takes k r p)
  takes_keeps k r p = by p.agenda
    where
      by : (ds : List Duty) → let x : PathState C = with_agenda ds p in KeepsWhatComes k x (takes k r x)
      by [] = path_stays k (with_agenda [] p)
      by (d ∷ ds) = answer_keeps k ds r p d

  next_keeps : (k : Codec C) (p : PathState C) → is_nil p.agenda ≡ true → KeepsWhatComes k p (next_round p)
  next_keeps k p over = record {
    brings = λ b pos octet is within. absurd (none b.copy.first);
    stays = λ s pos octet h. settled_so s pos octet p start_of_turn (with_agenda start_of_turn (record p { clock = p.until; until = p.until + 100 })) (by s pos octet h);
    forgets = λ s h. absurd (none h.first);
  }
    where
      none : {d : Duty} {others : List Duty} → p.agenda ≡ d ∷ others → ⊥
      none is = true≢false (sym over ∙ ap is_nil is)

      idle : (s : Side) (ds : List Duty) → is_nil ds ≡ true → IsToKeep s ds → ⊥
      idle s [] over keep = keep
      idle s (d ∷ ds) over keep = true≢false (sym over)

      by : (s : Side) (pos octet : ℕ) → IsThere s pos octet p → Now s pos octet start_of_turn p.profile (end_at s p)
      by s pos octet (there.passed low) = lies (below low)
      by s pos octet (there.kept h) = lies (at_place h)
      by s pos octet (there.held at keep) = absurd (idle s p.agenda over keep)

  member_keeps : (k : Codec C) (r : Reply) (m : Actor C) → PathsKeepWhatComes k m (member_takes k r m)
  member_keeps k r (App a) = tt
  member_keeps k r (Path p) = takes_keeps k r p

  member_begins : (k : Codec C) (m : Actor C) → is_over m ≡ true → PathsKeepWhatComes k m (member_next m)
  member_begins k (App a) over = tt
  member_begins k (Path p) over = next_keeps k p over

  member_stays : (k : Codec C) (m : Actor C) → PathsKeepWhatComes k m m
  member_stays k (App a) = tt
  member_stays k (Path p) = path_stays k p

  pub what_comes_is_kept : (k : Codec C) → WhatComesIsKept k
  what_comes_is_kept k = λ w turn. turn_each k (λ c d. PathsKeepWhatComes k c.member d.member) (λ c. member_stays k c.member) (λ ask books c. member_keeps k (answer_to books ask) c.member)
      (λ stamp c over. member_begins k c.member over) turn w
