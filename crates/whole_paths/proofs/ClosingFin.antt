-- RCV.NXT moves over a FIN in its turn.
use Rattle.std.proofs.Common.{◌≡◌, refl, sym, subst, ap, ◌∙◌, ◌⊎◌, inl, inr, ⊎_elim, ℕ, zero, suc, ◌+◌, ◌^◌, ◌<◌, arith, nat_lt, ◌==◌, Bool, true, false, true≢false, ◌&&◌, if◌then◌else◌, Option, Some, None, List, [], ◌∷◌, length}
use Rattle.std.proofs.lemmas.Bool.{and_parts, cases_lt, eq-eqb, eqb-true, lt-ltb}
use Rattle.path_segments.specs.Heard.{HeardSegment}
use Rattle.sides.specs.declared.side.Side.{Side}
use Rattle.sides.specs.Side.{peer}
use Rattle.control_book.specs.declared.call.ControlReply.TheVariants as control_replies
use Rattle.fallback_state.specs.declared.fall.Mode.TheVariants as modes
use Rattle.fallback_state.specs.declared.fall.Verdict.TheVariants as verdicts
use Rattle.subflow_recv.specs.Receiving.{Receiving, after_keep_held, without_held}
use Rattle.subflow_send.specs.Rules.{ack_kind, after_acknowledge, sample_of}
use Rattle.subflow_send.specs.declared.record.AckKind.TheVariants.{New, Duplicate, Old, Future}
use Rattle.subflow_tcp.specs.Closing.{is_fin_next, after_passing_fin}
use Rattle.subflow_tcp.specs.Judging.{is_at}
use Rattle.subflow_tcp.specs.Segments.{Copy}
use Rattle.subflow_tcp.specs.State.{EndState, is_fin_passed}
use Rattle.subflow_tcp.specs.Taking.{first_fin, after_ack_kind, after_acknowledgement, after_established, after_heard_ack, after_hearing, after_keeping_held, after_dropping_held, after_payload, after_taken, after_telling, after_duplicate, after_interruption, is_duplicate, told_by}
use Rattle.subflow_tcp.specs.declared.segments.Hint.{Hint}
use Rattle.subflow_tcp.specs.declared.verdicts.Meaning.TheVariants as means
use Rattle.actor_desk.specs.declared.ask.Reply.{Reply}
use Rattle.actor_desk.specs.declared.ask.Reply.TheVariants as replies
use Rattle.actor_desk.specs.Words.{is_nil, pick}
use Rattle.path_agenda.specs.Agenda.{start_of_turn, heard_and, payload_came, copy_came, leaves, resets}
use Rattle.path_agenda.specs.declared.duty.Duty.{Duty}
use Rattle.path_agenda.specs.declared.duty.Duty.TheVariants as duties
use Rattle.path_agenda.specs.declared.duty.AskDuty.TheVariants as ask_duties
use Rattle.path_agenda.specs.declared.duty.SilentDuty.TheVariants as silent_duties
use Rattle.path_agenda.specs.declared.duty.StepDuty.TheVariants as step_duties
use Rattle.path_agenda.specs.declared.heard.Heard.{Heard}
use Rattle.path_store.specs.Passing.{Piece}
use Rattle.path_core.specs.Arrival.{after_judged, copy_of, copy_judged, owing_if, reset_for, template_of, with_payload}
use Rattle.path_core.specs.Breaking.{answered_break, reset_on}
use Rattle.path_core.specs.Codec.{Codec}
use Rattle.path_core.specs.DataFin.{is_fin_set, answered_fin_heard, after_pass_fin}
use Rattle.path_core.specs.Deliver.{mapping_here, piece_of, is_placed, answered_piece, after_check, is_dropped, after_keep, after_pieces}
use Rattle.path_core.specs.DssIn.{held_of}
use Rattle.path_core.specs.Duties.{stands, passed, answered}
use Rattle.path_core.specs.End.{PathEnd, died}
use Rattle.path_core.specs.Fallback.{breaks_by, fell_duties, with_plain_ack}
use Rattle.path_core.specs.MpJoin.{is_joined}
use Rattle.path_core.specs.OptionsIn.{items_of, options_heard, hint_of, owes_by}
use Rattle.path_core.specs.Profile.{Profile}
use Rattle.path_core.specs.Standing.{answered_ack_out}
use Rattle.path_core.specs.State.{PathState, end_at, with_agenda}
use Rattle.path_core.specs.Steps.{settled, takes, next_round}
use Rattle.path_core.specs.Timer.{with_timer_settled}
use Rattle.path_core.specs.Treating.{item_of, item_passed}
use Rattle.path_core.specs.declared.judged.Judged.{Judged}
use Rattle.path_core.specs.declared.judged.Judged.TheVariants as judged
use Rattle.world_laws.specs.declared.member.Member.TheVariants.{App, Path}
use Rattle.world_laws.specs.Actors.{Actor, member_takes, member_next, is_over}
use Rattle.world_laws.specs.StampedBooks.{answer_to}
use Rattle.world_laws.specs.Writes.{EndView, writes, side_of}
use Rattle.world_laws.proofs.Falls.FailedChecks.{forgets_so}
use Rattle.world_laws.proofs.Writes.Paths.{writes_no_more}
use Rattle.world_laws.proofs.Writes.Steps.{unwritten}
use Rattle.whole_paths.specs.AgendaSteps.{is_gone}
use Rattle.whole_paths.specs.Brought.{Brings, IsToReset, comes_before_keeping}
use Rattle.whole_paths.specs.Brought.{IsToReset as resetting}
use Rattle.whole_paths.specs.ClosingFin.{comes_before_pass, PassesFin, IsToPass, IsToPassBehind, IsFinPassed, FinPasses, PassesFins, PathsPassFins, EachFinIsPassed}
use Rattle.whole_paths.specs.ClosingFin.{IsFinPassed as there}
use Rattle.whole_paths.specs.ClosingFin.{FinPasses as stay}
use Rattle.whole_paths.proofs.Agendas.{own_end, gone_end}
use Rattle.whole_paths.proofs.Bringing.{coming_by, comes_so, first_so}
use Rattle.whole_paths.proofs.Duties.{passed_steps, answered_steps}
use Rattle.whole_paths.proofs.Moving.{item_recv, passed_other_recv}
use Rattle.whole_paths.proofs.Pieces.{own_only}
use Rattle.whole_paths.proofs.Settling.{sides}
use Rattle.whole_paths.proofs.Staying.{Rests, passed_rests, reset_stands}
use Rattle.whole_paths.proofs.Treating.{Leads, Before, before_answers}
use Rattle.whole_paths.proofs.Treating.Leads.{as_they_are, one_more}
use Rattle.whole_paths.proofs.Treating.{Before as staged}
use Rattle.whole_paths.proofs.Turns.{turn_each}
use Rattle.whole_paths.proofs.Waiting.{gone_stays, path_far}

-- ---- a copy that is taken

heard_fin : (n : ℕ) (hint : Hint) (now : ℕ) (c : Copy) (s : EndState) → (after_heard_ack n hint now c s).fin_at ≡ s.fin_at
heard_fin n hint now c s = elim (is_duplicate (ack_kind n s.send) (told_by hint c) c (after_acknowledgement n now s)) as
    (λ b. (after_telling (told_by hint c) (if b then after_duplicate (after_acknowledgement n now s) else after_interruption (after_acknowledgement n now s))).fin_at ≡ s.fin_at)
    [ true ↦ acked | false ↦ acked ]
  where
    acked : (after_acknowledgement n now s).fin_at ≡ s.fin_at
    acked = elim (ack_kind n s.send) as (λ kind. (after_ack_kind kind (sample_of n s.send) now (record s { send = after_acknowledge n s.send })).fin_at ≡ s.fin_at)
        [ New octets ↦ refl | Duplicate ↦ refl | Old ↦ refl | Future ↦ refl ]

owing_fin : (b : Bool) (s : EndState) → (owing_if b s).fin_at ≡ s.fin_at
owing_fin true s = refl
owing_fin false s = refl

held_fin : (pos n : ℕ) (payload : List ℕ) (s : EndState) → (with_payload (means.Taken pos n) payload s).fin_at ≡ s.fin_at
held_fin pos n [] s = refl
held_fin pos n (octet ∷ octets) s = refl

taken_fin : (c : Profile) (s : Side) (now : ℕ) (x : HeardSegment) (e : PathEnd) (pos n : ℕ)
    → (copy_judged (is_joined c) (held_of c s x) (reset_for c s x) s now x (means.Taken pos n) e).tcp.fin_at ≡ first_fin e.tcp.fin_at x.fin (pos + length x.payload)
taken_fin c s now x e pos n =
    let items : List Heard = items_of (is_joined c) s x in
    let hint = hint_of items in
    let held = with_payload (means.Taken pos n) x.payload e.tcp in
    let ready = after_established (after_hearing (after_payload pos hint (copy_of x) held)) in
    owing_fin (owes_by (means.Taken pos n) items) (after_taken pos n hint now (copy_of x) held)
    ∙ heard_fin n hint now (copy_of x) ready
    ∙ ap (λ (o : Option ℕ). first_fin o x.fin (pos + length x.payload)) (held_fin pos n x.payload e.tcp)

-- ---- what is to be done before

fins_pass : (d : Duty) → comes_before_keeping d ≡ true → comes_before_pass d ≡ true
fins_pass (duties.Ask (ask_duties.HeardFin s index)) before = refl
fins_pass (duties.Silent (silent_duties.Keep s)) before = refl
fins_pass (duties.Ask (ask_duties.Edge s)) before = refl
fins_pass (duties.Ask (ask_duties.CheckFailed s)) before = refl
fins_pass (duties.Step (step_duties.Unmapped s)) before = refl
fins_pass d before = before

heard_passes : (s : Side) (from n : ℕ) (ds : List Duty) → IsToPass s ds → IsToPass s (heard_and s from n ds)
heard_passes s from zero ds pass = pass
heard_passes s from (suc n) ds pass = inr (refl, (refl, heard_passes s (from + 1) n ds pass))

payload_passes : (s : Side) → IsToPass s (payload_came s)
payload_passes s = inr (refl, (refl, inr (refl, (refl, inr (refl, (refl, inr (refl, (refl, inr (refl, (refl, inr (refl, (refl, inr (refl, (refl, inr (refl, (refl, inr (refl, (refl, inr (refl, (refl, inl refl))))))))))))))))))))

copy_passes : (s : Side) (n : ℕ) → IsToPass s (copy_came s n)
copy_passes s n = inr (refl, (refl, inr (refl, (refl, heard_passes s 0 n (payload_came s) (payload_passes s)))))

-- ---- an end behind which these duties stand

data Now (s : Side) (pos : ℕ) (ds : List Duty) (e : PathEnd) : Type 0 where
  over : pos < e.tcp.recv.edge → Now s pos ds e
  to_pass : e.tcp.fin_at ≡ Some pos → IsToPass s ds → Now s pos ds e
  below : e.tcp.fin_at ≡ Some pos → e.tcp.recv.edge < pos → Now s pos ds e
  at_dead : is_gone e ≡ true → Now s pos ds e
  resets_next : IsToReset s ds → Now s pos ds e

-- the FIN at a position is next only there
next_there : (pos : ℕ) (t : EndState) → t.fin_at ≡ Some pos → is_fin_next t ≡ true → t.recv.edge ≡ pos
next_there pos t fin is = sym (eqb-true pos t.recv.edge (ap (is_at t.recv.edge) (sym fin) ∙ (and_parts (is_at t.recv.edge t.fin_at) (nat_lt t.recv.edge (2 ^ 62)) is).0))

there_next : (pos : ℕ) (t : EndState) → t.fin_at ≡ Some pos → t.recv.edge ≡ pos → pos < 2 ^ 62 → is_fin_next t ≡ true
there_next pos t fin at low =
    ap (λ (o : Option ℕ). is_at t.recv.edge o && nat_lt t.recv.edge (2 ^ 62)) fin ∙ ap (λ n. pos == n && nat_lt n (2 ^ 62)) at
    ∙ ap (λ b. b && nat_lt pos (2 ^ 62)) (eq-eqb pos pos refl) ∙ lt-ltb pos (2 ^ 62) low

pass_so : (s : Side) (pos : ℕ) (ds : List Duty) (e : PathEnd) → pos < 2 ^ 62 → e.tcp.fin_at ≡ Some pos → Now s pos ds (after_pass_fin e)
pass_so s pos ds e low fin = (elim (is_fin_next e.tcp) as (λ b. is_fin_next e.tcp ≡ b → Now s pos ds (record e { tcp = if b then after_passing_fin e.tcp else e.tcp })) [
  | true ↦ λ is. over (let at = next_there pos e.tcp fin is in omega (arith, at))
  | false ↦ λ none. ⊎_elim
      (λ under. below fin under)
      (λ high. ⊎_elim (λ past. over past) (λ not_past. absurd (true≢false (sym (there_next pos e.tcp fin (omega (arith, high, not_past)) low) ∙ none))) (cases_lt pos e.tcp.recv.edge))
      (cases_lt e.tcp.recv.edge pos)
]) refl

-- RCV.NXT stays below a FIN that isn't next
keep_edge : (b : Bool) (t : EndState) → (if b then after_dropping_held t else after_keeping_held t).recv.edge ≡ t.recv.edge
keep_edge true t = refl
keep_edge false t = elim (is_fin_passed t) as (λ b. (if b then without_held t.recv else after_keep_held t.recv).edge ≡ t.recv.edge) [ true ↦ refl | false ↦ refl ]

module _ {C : Type 0} where
  -- ---- a duty that is passed

  -- RCV.NXT stays, unless it moves over the FIN that is next
  passed_own : (d : Duty) (p : PathState C) → is_fin_next (end_at (side_of d) p).tcp ≡ false → (end_at (side_of d) (passed d p)).tcp.recv.edge ≡ (end_at (side_of d) p).tcp.recv.edge
  passed_own (duties.Ask (ask_duties.CheckFailed s)) p none =
      let e = end_at s p in
      ap (λ (f : PathEnd). f.tcp.recv.edge) (own_end s (after_check p.profile e) p.a p.b)
      ∙ forgets_so (λ f. f.tcp.recv.edge ≡ e.tcp.recv.edge) p.profile.spelling.checksums (mapping_here e) e (λ recv forgotten. ⊎_elim (λ is. ap (λ (v : Receiving). v.edge) is) (λ from. ap (λ (v : Receiving). v.edge) from.1) forgotten)
  passed_own (duties.Step (step_duties.Heard s index)) p none =
      let e = end_at s p in ap (λ (f : PathEnd). f.tcp.recv.edge) (own_end s (item_passed s (item_of index e) e) p.a p.b) ∙ ap (λ (v : Receiving). v.edge) (item_recv s (item_of index e) e)
  passed_own (duties.Step (step_duties.PlainAck s)) p none = ap (λ (f : PathEnd). f.tcp.recv.edge) (own_end s (with_plain_ack (end_at s p)) p.a p.b)
  passed_own (duties.Step (step_duties.Unmapped s)) p none = ap (λ (f : PathEnd). f.tcp.recv.edge) (own_end s (after_pieces (end_at s p)) p.a p.b)
  passed_own (duties.Silent (silent_duties.Timer s)) p none = ap (λ (f : PathEnd). f.tcp.recv.edge) (own_end s (with_timer_settled p.clock (end_at s p)) p.a p.b)
  passed_own (duties.Silent (silent_duties.Keep s)) p none =
      let e = end_at s p in ap (λ (f : PathEnd). f.tcp.recv.edge) (own_end s (after_keep s e) p.a p.b) ∙ keep_edge (is_dropped s e) e.tcp
  passed_own (duties.Silent (silent_duties.PassFin s)) p none =
      let e = end_at s p in ap (λ (f : PathEnd). f.tcp.recv.edge) (own_end s (after_pass_fin e) p.a p.b) ∙ ap (λ b. (if b then after_passing_fin e.tcp else e.tcp).recv.edge) none
  passed_own d p none = refl

  passed_edge : (s : Side) (d : Duty) (p : PathState C) → is_fin_next (end_at s p).tcp ≡ false → (end_at s (passed d p)).tcp.recv.edge ≡ (end_at s p).tcp.recv.edge
  passed_edge s d p none = by (sides s (side_of d))
    where
      by : (side_of d ≡ s) ⊎ (peer (side_of d) ≡ s) → (end_at s (passed d p)).tcp.recv.edge ≡ (end_at s p).tcp.recv.edge
      by (inl own) = subst (λ t. is_fin_next (end_at t p).tcp ≡ false → (end_at t (passed d p)).tcp.recv.edge ≡ (end_at t p).tcp.recv.edge) own (passed_own d p) none
      by (inr away) = subst (λ t. (end_at t (passed d p)).tcp.recv.edge ≡ (end_at t p).tcp.recv.edge) away (ap (λ (v : Receiving). v.edge) (passed_other_recv d p))

  first_passes : (s : Side) (pos : ℕ) (d : Duty) (ds : List Duty) (p : PathState C) → pos < 2 ^ 62 → PassesFin s d → (end_at s p).tcp.fin_at ≡ Some pos → Now s pos ds (end_at s (passed d p))
  first_passes s pos (duties.Silent (silent_duties.PassFin t)) ds p low first fin =
      subst (λ u. Now s pos ds (end_at s (passed (duties.Silent (silent_duties.PassFin u)) p))) (sym first)
      (subst (λ f. Now s pos ds f) (sym (own_end s (after_pass_fin (end_at s p)) p.a p.b)) (pass_so s pos ds (end_at s p) low fin))
  first_passes s pos _ ds p low first fin = absurd first

  pass_now : (s : Side) (pos : ℕ) (d : Duty) (ds : List Duty) (p : PathState C) → pos < 2 ^ 62 → stands d p ≡ false → Now s pos (d ∷ ds) (end_at s p) → Now s pos ds (end_at s (passed d p))
  pass_now s pos d ds p low quiet h = by h
    where
      q : PathState C
      q = passed d p

      x : Rests s (end_at s p) (end_at s q)
      x = passed_rests s d p

      not_next : (end_at s p).tcp.fin_at ≡ Some pos → (end_at s p).tcp.recv.edge < pos → is_fin_next (end_at s p).tcp ≡ false
      not_next fin under = (elim (is_fin_next (end_at s p).tcp) as (λ b. is_fin_next (end_at s p).tcp ≡ b → b ≡ false)
          [ true ↦ λ is. absurd (let at = next_there pos (end_at s p).tcp fin is in omega (arith, at, under)) | false ↦ λ is. refl ]) refl

      by : Now s pos (d ∷ ds) (end_at s p) → Now s pos ds (end_at s q)
      by (over past) = over (let up = (path_far p q (passed_steps d p) s).subflow.received in omega (arith, past, up))
      by (to_pass fin (inl first)) = first_passes s pos d ds p low first fin
      by (to_pass fin (inr rest)) = to_pass (x.fin_at ∙ fin) rest.1.1
      by (below fin under) = below (x.fin_at ∙ fin) (subst (λ n. n < pos) (sym (passed_edge s d p (not_next fin under))) under)
      by (at_dead is) = at_dead (gone_stays (end_at s p) (end_at s q) (path_far p q (passed_steps d p) s) is)
      by (resets_next is) = absurd (true≢false (sym (reset_stands s (d ∷ ds) p is) ∙ quiet))

  -- RCV.NXT moves over the FIN without a step
  never_first : (s : Side) (d : Duty) (p : PathState C) → PassesFin s d → stands d p ≡ true → ⊥
  never_first s (duties.Silent (silent_duties.PassFin t)) p first is = true≢false (sym is)
  never_first s _ p first is = first

  now_so : (s : Side) (pos : ℕ) (ds : List Duty) (p : PathState C) → (IsToPass s ds → IsToPassBehind s ds) → Now s pos ds (end_at s p) → FinPasses s pos (with_agenda ds p)
  now_so s pos ds p behind (over past) = stay.on (there.passed past)
  now_so s pos ds p behind (to_pass fin pass) = stay.on (there.waits fin (behind pass))
  now_so s pos ds p behind (below fin under) = stay.gap under
  now_so s pos ds p behind (at_dead is) = stay.gone is
  now_so s pos ds p behind (resets_next is) = stay.reset is

  settled_so : (s : Side) (pos : ℕ) (ds : List Duty) (p : PathState C) → pos < 2 ^ 62 → Now s pos ds (end_at s p) → FinPasses s pos (settled ds p)
  settled_so s pos [] p low h = now_so s pos [] p (λ none. none) h
  settled_so s pos (d ∷ ds) p low h = by (stands d p) refl (λ quiet. settled_so s pos ds (passed d p) low (pass_now s pos d ds p low quiet h))
    where
      by : (b : Bool) → stands d p ≡ b → (stands d p ≡ false → FinPasses s pos (settled ds (passed d p))) → FinPasses s pos (if b then with_agenda (d ∷ ds) p else settled ds (passed d p))
      by true is rest = now_so s pos (d ∷ ds) p (λ pass. ⊎_elim (λ first. absurd (never_first s d p first is)) (λ more. more) pass) h
      by false is rest = rest is

  -- ---- a duty that is answered

  -- behind a verdict
  fell_so : (s : Side) (d : Duty) (ds : List Duty) (r : Reply) (p : PathState C) → IsToPass s ds
      → let next : List Duty = fell_duties s r (with_agenda (d ∷ ds) p) in IsToPass s next ⊎ IsToReset s next
  fell_so s d ds (replies.Control (control_replies.Verdict (verdicts.Went modes.Identity))) p pass = inl (inr (refl, (refl, pass)))
  fell_so s d ds (replies.Control (control_replies.Verdict (verdicts.BreakPath reason))) p pass = inr (by (end_at s p).treated.asked)
    where
      by : (asked : Bool) → IsToReset s (breaks_by asked s reason)
      by true = resetting.broken reason refl
      by false = resetting.is_reset reason refl
  fell_so s d ds _ p pass = inl pass

  -- what is ahead then, or the end is reset next, or dead
  abbrev Then : Side → PathState C → Type 0
  Then s q = (IsToPass s q.agenda ⊎ IsToReset s q.agenda) ⊎ (is_gone (end_at s q) ≡ true)

  before_then : (s : Side) (ds : List Duty) (e : PathEnd) (q : PathState C) → IsToPass s ds → Before s ds e (end_at s q) q.agenda → Then s q
  before_then s ds e q pass (staged.on x leads) = inl (inl (by q.agenda leads))
    where
      by : (next : List Duty) → Leads s ds next → IsToPass s next
      by next as_they_are = pass
      by next (one_more d own before heard) = inr (own, (fins_pass d before, pass))
  before_then s ds e q pass (staged.resets_then is) = inl (inr is)
  before_then s ds e q pass (staged.dies gone) = inr gone

  pieces_then : (s : Side) (o : Option Piece) (taken : Bool) (ds : List Duty) (p : PathState C) → IsToPass s ds → Then s (answered_piece s o taken (with_agenda (duties.Ask (ask_duties.Edge s) ∷ ds) p))
  pieces_then s (Some piece) true ds p pass = inl (inl (inr (refl, (refl, pass))))
  pieces_then s (Some piece) false ds p pass = inl (inr (resetting.broken 1 refl))
  pieces_then s None taken ds p pass = inl (inr (resetting.broken 1 refl))

  fin_then : (s : Side) (index : ℕ) (set : Bool) (ds : List Duty) (p : PathState C) → IsToPass s ds → Then s (answered_fin_heard s set (with_agenda (duties.Ask (ask_duties.HeardFin s index) ∷ ds) p))
  fin_then s index true ds p pass = inl (inl pass)
  fin_then s index false ds p pass = inl (inr (resetting.broken 1 refl))

  breaks_then : (k : Codec C) (s : Side) (ds : List Duty) (r : Reply) (p : PathState C) → Then s (answered_break k s 6 r (with_agenda (duties.Step (step_duties.Unmapped s) ∷ ds) p))
  breaks_then k s ds r p =
      let x : PathState C = with_agenda (duties.Step (step_duties.Unmapped s) ∷ ds) p in
      elim (end_at s p).treated.asked as (λ b. Then s (if b then answered_ack_out s r (resets s 6) x else reset_on k s (Some 6) (leaves s) x))
      [ true ↦ inl (inr (resetting.is_reset 6 refl)) | false ↦ inr (gone_end s (died (end_at s p)) p.a p.b refl) ]

  own_then : (k : Codec C) (d : Duty) (ds : List Duty) (r : Reply) (p : PathState C) → comes_before_pass d ≡ true → IsToPass (side_of d) ds → Then (side_of d) (answered k d r (with_agenda (d ∷ ds) p))
  own_then k (duties.Ask (ask_duties.HeardFin s index)) ds r p before pass = fin_then s index (is_fin_set r) ds p pass
  own_then k (duties.Silent (silent_duties.Keep s)) ds r p before pass = inl (inl pass)
  own_then k (duties.Ask (ask_duties.Edge s)) ds r p before pass = pieces_then s (piece_of s p) (is_placed r) ds p pass
  own_then k (duties.Ask (ask_duties.CheckFailed s)) ds r p before pass = inl (fell_so s (duties.Ask (ask_duties.CheckFailed s)) ds r p pass)
  own_then k (duties.Step (step_duties.Unmapped s)) ds r p before pass = breaks_then k s ds r p
  own_then k d ds r p before pass = before_then (side_of d) ds (end_at (side_of d) p) (answered k d r (with_agenda (d ∷ ds) p)) pass (before_answers k d ds r p before)

  -- the FIN stays where it is
  own_fin : (k : Codec C) (d : Duty) (r : Reply) (p : PathState C) → comes_before_pass d ≡ true → (end_at (side_of d) (answered k d r p)).tcp.fin_at ≡ (end_at (side_of d) p).tcp.fin_at
  own_fin k (duties.Ask (ask_duties.JoinHeard s)) r p before = absurd (true≢false (sym before))
  own_fin k (duties.Step step_duties.Events) r p before = absurd (true≢false (sym before))
  own_fin k (duties.Send d) r p before = absurd (true≢false (sym before))
  own_fin k (duties.Silent d) r p before = refl
  own_fin k d r p before = unwritten (writes d).own.fin_at (end_at (side_of d) p).tcp.fin_at (end_at (side_of d) (answered k d r p)).tcp.fin_at refl
      (ap (λ (v : EndView). v.fin_at) (own_only (side_of d) (writes d) p (answered k d r p) (writes_no_more k d r p)).same)

  there_now : (k : Codec C) (s : Side) (pos : ℕ) (d : Duty) (ds : List Duty) (r : Reply) (p : PathState C) → let x : PathState C = with_agenda (d ∷ ds) p in let q : PathState C = answered k d r x in
      IsFinPassed s pos x → Now s pos q.agenda (end_at s q)
  there_now k s pos d ds r p (there.passed past) =
      let x : PathState C = with_agenda (d ∷ ds) p in let q : PathState C = answered k d r x in over (let up = (path_far x q (answered_steps k d r x) s).subflow.received in omega (arith, past, up))
  there_now k s pos d ds r p (there.waits fin pass) = by (subst (λ u. IsToPass u ds → Then u q) pass.0 (own_then k d ds r p pass.1.0) pass.1.1)
    where
      q : PathState C
      q = answered k d r (with_agenda (d ∷ ds) p)

      same : (end_at s q).tcp.fin_at ≡ (end_at s p).tcp.fin_at
      same = subst (λ u. (end_at u q).tcp.fin_at ≡ (end_at u p).tcp.fin_at) pass.0 (own_fin k d r (with_agenda (d ∷ ds) p) pass.1.0)

      by : Then s q → Now s pos q.agenda (end_at s q)
      by (inl (inl more)) = to_pass (same ∙ fin) more
      by (inl (inr is)) = resets_next is
      by (inr gone) = at_dead gone

  -- ---- a copy comes

  module _ (k : Codec C) (ds : List Duty) (r : Reply) (p : PathState C) (b : Brings k (with_agenda (duties.Step step_duties.Events ∷ ds) p)) (pos : ℕ) where
    abbrev to : Side
    to = b.copy.due.to

    abbrev own : PathEnd
    own = end_at to p

    abbrev said : HeardSegment
    said = options_heard own b.copy.segment

    abbrev items : List Heard
    items = items_of (is_joined p.profile) to said

    comes_now : first_fin own.tcp.fin_at b.copy.segment.fin (b.position + length b.copy.segment.payload) ≡ Some pos
        → let q = answered k (duties.Step step_duties.Events) r (with_agenda (duties.Step step_duties.Events ∷ ds) p) in Now to pos q.agenda (end_at to q)
    comes_now is = comes_so (λ q. Now to pos q.agenda (end_at to q)) k ds r p b.copy
        (subst (λ (verdict : Judged). Now to pos (template_of (is_joined p.profile) to items verdict)
        (pick to (pick to (after_judged p.profile to tick said verdict own) p.a) (pick to p.b (after_judged p.profile to tick said verdict own)))) (sym b.taken)
        (subst (λ f. Now to pos (copy_came to (length items)) f) (sym (own_end to taken p.a p.b))
        (to_pass (taken_fin p.profile to tick said own b.position b.acknowledged ∙ is) (copy_passes to (length items)))))
      where
        tick : ℕ
        tick = (coming_by ds p b.copy).clock

        taken : PathEnd
        taken = after_judged p.profile to tick said (judged.As (means.Taken b.position b.acknowledged)) own

  -- ---- a turn

  module _ (k : Codec C) (ds : List Duty) (r : Reply) (p : PathState C) where
    abbrev behind : Duty → PathState C
    behind d = with_agenda (d ∷ ds) p

    abbrev Come : (d : Duty) → Brings k (behind d) → Type 0
    Come d b = (pos : ℕ) → first_fin (end_at b.copy.due.to p).tcp.fin_at b.copy.segment.fin (b.position + length b.copy.segment.payload) ≡ Some pos → pos < 2 ^ 62
        → (takes k r (behind d) ≡ behind d) ⊎ FinPasses b.copy.due.to pos (takes k r (behind d))

    comes : (b : Brings k (behind (duties.Step step_duties.Events))) → Come (duties.Step step_duties.Events) b
    comes b pos is low =
        let d : Duty = duties.Step step_duties.Events in let q : PathState C = answered k d r (behind d) in inr (settled_so b.copy.due.to pos q.agenda q low (comes_now k ds r p b pos is))

    answer_passes : (d : Duty) → PassesFins k (behind d) (takes k r (behind d))
    answer_passes d = record {
      comes = λ b. subst (λ d. (b : Brings k (behind d)) → Come d b) (sym (first_so d (duties.Step step_duties.Events) ds b.copy.others b.copy.first)) comes b;
      stays = λ s pos low h. (let q : PathState C = answered k d r (behind d) in settled_so s pos q.agenda q low (there_now k s pos d ds r p h));
    }

  path_stays : (k : Codec C) (p : PathState C) → PassesFins k p p
  path_stays k p = record { comes = λ b pos is low. inl refl; stays = λ s pos low h. stay.on h }

  takes_passes : (k : Codec C) (r : Reply) (p : PathState C) → PassesFins k p (takes k r p)
  takes_passes k r p = by p.agenda
    where
      by : (ds : List Duty) → let x : PathState C = with_agenda ds p in PassesFins k x (takes k r x)
      by [] = path_stays k (with_agenda [] p)
      by (d ∷ ds) = answer_passes k ds r p d

  next_passes : (k : Codec C) (p : PathState C) → is_nil p.agenda ≡ true → PassesFins k p (next_round p)
  next_passes k p over_now = record {
    comes = λ b pos is low. absurd (true≢false (sym over_now ∙ ap is_nil b.copy.first));
    stays = λ s pos low h. settled_so s pos start_of_turn (with_agenda start_of_turn (record p { clock = p.until; until = p.until + 100 })) low (by s pos h);
  }
    where
      idle : (s : Side) (ds : List Duty) → is_nil ds ≡ true → IsToPassBehind s ds → ⊥
      idle s [] none pass = pass
      idle s (d ∷ ds) none pass = true≢false (sym none)

      by : (s : Side) (pos : ℕ) → IsFinPassed s pos p → Now s pos start_of_turn (end_at s p)
      by s pos (there.passed past) = over past
      by s pos (there.waits fin pass) = absurd (idle s p.agenda over_now pass)

  -- ---- the world

  member_passes : (k : Codec C) (r : Reply) (m : Actor C) → PathsPassFins k m (member_takes k r m)
  member_passes k r (App a) = tt
  member_passes k r (Path p) = takes_passes k r p

  member_begins : (k : Codec C) (m : Actor C) → is_over m ≡ true → PathsPassFins k m (member_next m)
  member_begins k (App a) ended = tt
  member_begins k (Path p) ended = next_passes k p ended

  member_stays : (k : Codec C) (m : Actor C) → PathsPassFins k m m
  member_stays k (App a) = tt
  member_stays k (Path p) = path_stays k p

  pub each_fin_is_passed : (k : Codec C) → EachFinIsPassed k
  each_fin_is_passed k = λ w turn. turn_each k (λ c d. PathsPassFins k c.member d.member) (λ c. member_stays k c.member) (λ ask books c. member_passes k (answer_to books ask) c.member)
      (λ stamp c ended. member_begins k c.member ended) turn w
