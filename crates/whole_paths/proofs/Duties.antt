-- What each duty makes of the ends of a path, whether it is answered or passed: steps of the subflow, and one of the stream.
use Rattle.std.proofs.Common.{◌≡◌, refl, sym, subst, ap, ◌∙◌, ℕ, Bool, true, false, if◌then◌else◌, ⊎_elim, inl, inr, Option, Some, None, List, [], length}
use Rattle.sides.specs.declared.side.Side.{Side}
use Rattle.sides.specs.declared.side.Side.TheVariants.{A, B}
use Rattle.path_segments.specs.Heard.{HeardSegment}
use Rattle.join_handshake.specs.declared.hearing.JoinSyn.{JoinSyn}
use Rattle.link_model.specs.Steps.{arriving, after_delivery}
use Rattle.subflow_recv.specs.Receiving.{Receiving}
use Rattle.subflow_send.specs.Records.{Record}
use Rattle.subflow_tcp.specs.declared.handshake.State.{State as EndPhase}
use Rattle.subflow_tcp.specs.declared.handshake.State.TheVariants as phase
use Rattle.subflow_tcp.specs.declared.segments.Occasion.{Occasion}
use Rattle.subflow_tcp.specs.declared.segments.Occasion.TheVariants as to_send
use Rattle.subflow_tcp.specs.declared.verdicts.Meaning.{Meaning}
use Rattle.subflow_tcp.specs.declared.verdicts.Meaning.TheVariants as means
use Rattle.subflow_tcp.specs.Segments.{Copy}
use Rattle.subflow_tcp.specs.State.{EndState}
use Rattle.subflow_tcp.specs.States.{is_dead, is_waiting}
use Rattle.subflow_tcp.specs.Judging.{meaning_of}
use Rattle.subflow_tcp.specs.Closing.{is_fin_next, after_finishing, after_passing_fin}
use Rattle.subflow_tcp.specs.Emitting.{after_sending}
use Rattle.subflow_tcp.specs.Opening.{after_begin}
use Rattle.subflow_tcp.specs.Taking.{after_arrival, after_syn, unkept, after_dropping_held, after_keeping_held, after_holding}
use Rattle.actor_desk.specs.declared.ask.Reply.{Reply}
use Rattle.actor_desk.specs.Words.{tail_of, is_nil}
use Rattle.path_agenda.specs.Agenda.{leaves, emission}
use Rattle.path_agenda.specs.Items.{key_heard, keys_heard}
use Rattle.path_agenda.specs.declared.duty.Duty.{Duty}
use Rattle.path_agenda.specs.declared.duty.Duty.TheVariants as duties
use Rattle.path_agenda.specs.declared.duty.AskDuty.TheVariants as ask_duties
use Rattle.path_agenda.specs.declared.duty.SendDuty.{SendDuty}
use Rattle.path_agenda.specs.declared.duty.SendDuty.TheVariants as send_duties
use Rattle.path_agenda.specs.declared.duty.SilentDuty.TheVariants as silent_duties
use Rattle.path_agenda.specs.declared.duty.StepDuty.TheVariants as step_duties
use Rattle.path_agenda.specs.declared.heard.Heard.{Heard}
use Rattle.path_agenda.specs.declared.heard.Heard.TheVariants as says
use Rattle.path_agenda.specs.declared.keys.KeyPair.{KeyPair}
use Rattle.path_store.specs.Passing.{Piece}
use Rattle.path_store.specs.declared.lines.LineAction.{LineAction}
use Rattle.path_store.specs.declared.lines.LineAction.TheVariants as actions
use Rattle.path_core.specs.Arrival.{IsTakenAs, judged_in, after_judged, copy_heard, heard_in, told_at, copy_of, owing_if, with_payload}
use Rattle.path_core.specs.OptionsIn.{items_of, options_heard, hint_of, owes_by}
use Rattle.path_core.specs.Judged.{taken_as}
use Rattle.path_core.specs.DssIn.{counts, is_clash}
use Rattle.path_core.specs.Breaking.{answered_break}
use Rattle.path_core.specs.Codec.{Codec}
use Rattle.path_core.specs.Deliver.{mapping_here, answered_piece, is_placed, piece_of, is_dropped}
use Rattle.path_core.specs.DataFin.{acked_in, is_fin_set, answered_fin_heard, answered_plain_fin}
use Rattle.path_core.specs.Duties.{passed, sent_for, answered}
use Rattle.path_core.specs.Emission.{Grant, grant_in, answered_grant, answered_data, refused_in, first_unsent, answer_occasion, resend_occasion}
use Rattle.path_core.specs.End.{PathEnd, died}
use Rattle.path_core.specs.Events.{next_event, after_line, happens_if}
use Rattle.path_core.specs.Fallback.{plain_next, plainly_acked, breaks_by_ack}
use Rattle.path_core.specs.MpCapable.{answered_opened, answered_peer_key}
use Rattle.path_core.specs.MpJoin.{join_begun, never_joined, keys_begun, is_never, opened_by, join_taken, asked_at, is_listening, after_joining_syn, syn_of_window, is_joined}
use Rattle.path_core.specs.Sending.{Sending}
use Rattle.path_core.specs.State.{PathState, at_tick, end_at, goes_on}
use Rattle.path_core.specs.Treating.{item_passed, answered_heard, answered_item, item_of}
use Rattle.path_core.specs.declared.events.Event.{Event}
use Rattle.path_core.specs.declared.events.Event.TheVariants as happenings
use Rattle.path_core.proofs.Judgements.{judged_taken}
use Rattle.path_core.proofs.Meanings.{taken_the_same}
use Rattle.world_laws.proofs.Falls.FailedChecks.{Forgets, forgets_so, check_failed_so, fail_heard_so, infinite_came_so, fail_answered_so}
use Rattle.world_laws.proofs.Writes.Ends.{acked_so, refused_so}
use Rattle.whole_paths.specs.EndSteps.{SubflowStep, SubflowSteps, StreamStep, EndStep, PathStep}
use Rattle.whole_paths.specs.EndSteps.SubflowStep.{arrives, holds, owes, keeps, drops, advances, passes, forgets, pushes, finishes, sends, settles, fires, grows, begins, joins, dies}
use Rattle.whole_paths.specs.EndSteps.SubflowSteps.{none, more}
use Rattle.whole_paths.specs.EndSteps.{StreamStep as stream}

-- ---- an end

one : (now : ℕ) (s t : EndState) → SubflowStep now s t → SubflowSteps now s t
one now s t step = more s t none step

-- neither subflow nor stream changes
rests : (now : ℕ) (e f : PathEnd) → f.tcp ≡ e.tcp → f.sending ≡ e.sending → EndStep now e f
rests now e f tcp sending = record {
  subflow = subst (λ s. SubflowSteps now e.tcp s) (sym tcp) none;
  stream = subst (λ v. StreamStep e.sending v) (sym sending) stream.stays;
}

-- the subflow alone does
subflow_goes : (now : ℕ) (e f : PathEnd) → f.sending ≡ e.sending → SubflowSteps now e.tcp f.tcp → EndStep now e f
subflow_goes now e f sending steps = record { subflow = steps; stream = subst (λ v. StreamStep e.sending v) (sym sending) stream.stays }

subflow_steps : (now : ℕ) (e f : PathEnd) → f.sending ≡ e.sending → SubflowStep now e.tcp f.tcp → EndStep now e f
subflow_steps now e f sending step = subflow_goes now e f sending (one now e.tcp f.tcp step)

-- the stream alone does
stream_goes : (now : ℕ) (e f : PathEnd) → f.tcp ≡ e.tcp → StreamStep e.sending f.sending → EndStep now e f
stream_goes now e f tcp step = record { subflow = subst (λ s. SubflowSteps now e.tcp s) (sym tcp) none; stream = step }

either_end : (now : ℕ) (b : Bool) (e f g : PathEnd) → EndStep now e f → EndStep now e g → EndStep now e (if b then f else g)
either_end now true e f g x y = x
either_end now false e f g x y = y

died_steps : (now : ℕ) (e f : PathEnd) → f.tcp ≡ (died e).tcp → f.sending ≡ e.sending → EndStep now e f
died_steps now e f tcp sending = subflow_goes now e f sending (subst (λ s. SubflowSteps now e.tcp s) (sym tcp) (one now e.tcp (died e).tcp dies))

acked_steps : (next : ℕ) (r : Reply) (v : Sending) → StreamStep v (acked_in next r v)
acked_steps next r v = acked_so (λ w. StreamStep v w) next r v (λ fin. stream.hears next fin) stream.stays

plainly_steps : (next : Option ℕ) (r : Reply) (v : Sending) → StreamStep v (plainly_acked next r v)
plainly_steps = elim [ None ↦ λ r v. stream.stays | Some next ↦ λ r v. acked_steps next r v ]

refused_steps : (r : Reply) (v : Sending) → StreamStep v (refused_in r v)
refused_steps r v = refused_so (λ w. StreamStep v w) r v (λ shut known. stream.is_refused shut known)

-- some of what was kept is forgotten
forgets_steps : (now : ℕ) (e f : PathEnd) (recv : Receiving) → Forgets e.tcp.recv recv → f.sending ≡ e.sending → f.tcp ≡ record e.tcp { recv = recv } → EndStep now e f
forgets_steps now e f recv (inl is) sending tcp = rests now e f (tcp ∙ ap (λ v. record e.tcp { recv = v }) is) sending
forgets_steps now e f recv (inr (from, is)) sending tcp =
    subflow_goes now e f sending
    (subst (λ s. SubflowSteps now e.tcp s) (sym (tcp ∙ ap (λ v. record e.tcp { recv = v }) is)) (one now e.tcp _ (forgets from)))

passed_item : (now : ℕ) (s : Side) (o : Option Heard) (e : PathEnd) → EndStep now e (item_passed s o e)
passed_item now s None e = rests now e e refl refl
passed_item now s (Some says.Dss) e = stream_goes now e _ refl (stream.tells _)
passed_item now s (Some (says.Mapping fin)) e = either_end now (counts e) e _ _ (rests now e _ refl refl) (rests now e _ refl refl)
passed_item now s (Some (says.DataFin place)) e = either_end now (counts e) e _ _ (rests now e _ refl refl) (rests now e _ refl refl)
passed_item now s (Some _) e = rests now e _ refl refl

opened_steps : (now : ℕ) (keys : Option KeyPair) (e : PathEnd) → EndStep now e (opened_by keys e)
opened_steps now None e = rests now e e refl refl
opened_steps now (Some keys) e = subflow_goes now e _ refl (by e.tcp.state refl)
  where
    by : (state : EndPhase) → e.tcp.state ≡ state → SubflowSteps now e.tcp (if is_waiting state then after_begin e.tcp else e.tcp)
    by phase.Waiting is = one now e.tcp (after_begin e.tcp) (begins is)
    by _ is = none

joining_steps : (now window : ℕ) (s : EndState) → SubflowSteps now s (after_joining_syn window s)
joining_steps now window s = (elim s.state as (λ state. s.state ≡ state → SubflowSteps now s (if is_listening state then after_syn (unkept None) (syn_of_window window) s else s))
    [ phase.Listen ↦ λ is. one now s _ (joins window is) | _ ↦ λ is. none ]) refl

-- a copy that is taken as this, with these items
taken_steps : (now : ℕ) (items : List Heard) (c : Copy) (octets : List ℕ) (s : EndState) (m : Meaning) → IsTakenAs m c s
    → SubflowSteps now s (owing_if (owes_by m items) (after_arrival m (hint_of items) now c (with_payload m octets s)))
taken_steps now items c octets s m taken = ⊎_elim
    (λ ignored. subst (λ x. SubflowSteps now s (owing_if (owes_by x items) (after_arrival x (hint_of items) now c (with_payload x octets s)))) (sym ignored) none)
    (λ is. owing (owes_by m items) (more (with_payload m octets s) arrived (held m) (arrives m (hint_of items) c is)))
    (taken_the_same m octets c s taken)
  where
    arrived : EndState
    arrived = after_arrival m (hint_of items) now c (with_payload m octets s)

    hold : (b : Bool) (pos : ℕ) → SubflowSteps now s (if b then s else after_holding pos octets s)
    hold = elim [ true ↦ λ pos. none | false ↦ λ pos. one now s _ (holds pos octets) ]

    held : (x : Meaning) → SubflowSteps now s (with_payload x octets s)
    held = elim [ means.Taken pos acknowledged ↦ hold (is_nil octets) pos | _ ↦ none ]

    owing : (b : Bool) → SubflowSteps now s arrived → SubflowSteps now s (owing_if b arrived)
    owing true steps = more arrived (owing_if true arrived) steps owes
    owing false steps = steps

copy_steps : (joined : Bool) (s : Side) (now : ℕ) (x : HeardSegment) (e f : PathEnd) → let items = items_of joined s x in let m : Meaning = taken_as (judged_in joined s x e) in
    f.sending ≡ e.sending → f.tcp ≡ owing_if (owes_by m items) (after_arrival m (hint_of items) now (copy_of x) (with_payload m x.payload e.tcp)) → EndStep now e f
copy_steps joined s now x e f sending tcp =
    let items : List Heard = items_of joined s x in
    let c : Copy = copy_of x in
    let m : Meaning = taken_as (judged_in joined s x e) in
    let taken : IsTakenAs m c e.tcp = judged_taken x.rst items e (λ n. IsTakenAs n c e.tcp) (inl refl) joined (meaning_of c e.tcp) (inr refl) in
    subflow_goes now e f sending (subst (λ t. SubflowSteps now e.tcp t) (sym tcp) (taken_steps now items c x.payload e.tcp m taken))

-- ---- a path

module _ {C : Type 0} where
  both_rest : (p q : PathState C) → q.a ≡ p.a → q.b ≡ p.b → PathStep p q
  both_rest p q a b = record {
    a = rests q.clock p.a q.a (ap (λ e. e.tcp) a) (ap (λ e. e.sending) a);
    b = rests q.clock p.b q.b (ap (λ e. e.tcp) b) (ap (λ e. e.sending) b);
  }

  either : (c : Bool) (q r p : PathState C) → PathStep p q → PathStep p r → PathStep p (if c then q else r)
  either = elim [ true ↦ λ q r p x y. x | false ↦ λ q r p x y. y ]

  -- the end of a side becomes this, whatever else is on the path
  side : (s : Side) (e : PathEnd) (p q : PathState C) → EndStep q.clock (end_at s p) e → q.a ≡ (goes_on s e [] p).a → q.b ≡ (goes_on s e [] p).b → PathStep p q
  side A e p q x same_a same_b = record {
    a = subst (EndStep q.clock p.a) (sym same_a) x;
    b = rests q.clock p.b q.b (ap (λ f. f.tcp) same_b) (ap (λ f. f.sending) same_b);
  }
  side B e p q x same_a same_b = record {
    a = rests q.clock p.a q.a (ap (λ f. f.tcp) same_a) (ap (λ f. f.sending) same_a);
    b = subst (EndStep q.clock p.b) (sym same_b) x;
  }

  -- its subflow and its stream stay
  calm : (s : Side) (e : PathEnd) (p q : PathState C) → e.tcp ≡ (end_at s p).tcp → e.sending ≡ (end_at s p).sending → q.a ≡ (goes_on s e [] p).a → q.b ≡ (goes_on s e [] p).b
      → PathStep p q
  calm s e p q tcp sending same_a same_b = side s e p q (rests q.clock (end_at s p) e tcp sending) same_a same_b

  -- the end dies
  dying : (s : Side) (e : PathEnd) (p q : PathState C) → e.tcp ≡ (died (end_at s p)).tcp → e.sending ≡ (end_at s p).sending → q.a ≡ (goes_on s e [] p).a → q.b ≡ (goes_on s e [] p).b
      → PathStep p q
  dying s e p q tcp sending same_a same_b = side s e p q (died_steps q.clock (end_at s p) e tcp sending) same_a same_b

  -- the end sends a segment on this occasion
  sent : (occasion : Occasion) (s : Side) (e : PathEnd) (p q : PathState C) → q.clock ≡ p.clock → e.sending ≡ (end_at s p).sending
      → e.tcp ≡ after_sending occasion p.clock (end_at s p).tcp → q.a ≡ (goes_on s e [] p).a → q.b ≡ (goes_on s e [] p).b → PathStep p q
  sent occasion s e p q clock sending tcp same_a same_b =
      let t : EndState = (end_at s p).tcp in
      let step : SubflowSteps q.clock t (after_sending occasion p.clock t) = subst (λ n. SubflowSteps q.clock t (after_sending occasion n t)) clock (one q.clock t _ (sends occasion)) in
      side s e p q (subflow_goes q.clock (end_at s p) e sending (subst (λ u. SubflowSteps q.clock t u) (sym tcp) step)) same_a same_b

  pub passed_steps : (d : Duty) (p : PathState C) → PathStep p (passed d p)
  passed_steps (duties.Ask (ask_duties.CheckFailed s)) p =
      let e = end_at s p in
      side s _ p _
      (forgets_so (λ f. EndStep p.clock e f) p.profile.spelling.checksums (mapping_here e) e (λ recv forgotten. forgets_steps p.clock e _ recv forgotten refl refl)) refl refl
  passed_steps (duties.Step (step_duties.Heard s index)) p = side s _ p _ (passed_item p.clock s (item_of index (end_at s p)) (end_at s p)) refl refl
  passed_steps (duties.Step (step_duties.PlainAck s)) p = calm s _ p _ refl refl refl refl
  passed_steps (duties.Step (step_duties.Unmapped s)) p = calm s _ p _ refl refl refl refl
  passed_steps (duties.Silent (silent_duties.Timer s)) p =
      let e = end_at s p in
      side s _ p _ (record { subflow = one p.clock e.tcp _ (settles _ e.sending.news); stream = stream.tells false }) refl refl
  passed_steps (duties.Silent (silent_duties.Keep s)) p = side s _ p _ (subflow_goes p.clock (end_at s p) _ refl (kept (is_dropped s (end_at s p)))) refl refl
    where
      t : EndState
      t = (end_at s p).tcp

      kept : (b : Bool) → SubflowSteps p.clock t (if b then after_dropping_held t else after_keeping_held t)
      kept = elim [ true ↦ one p.clock t _ drops | false ↦ one p.clock t _ keeps ]
  passed_steps (duties.Silent (silent_duties.PassFin s)) p = side s _ p _ (subflow_goes p.clock (end_at s p) _ refl (over (is_fin_next (end_at s p).tcp) refl)) refl refl
    where
      t : EndState
      t = (end_at s p).tcp

      over : (b : Bool) → is_fin_next t ≡ b → SubflowSteps p.clock t (if b then after_passing_fin t else t)
      over = elim [ true ↦ λ is. one p.clock t _ (passes is) | false ↦ λ is. none ]
  passed_steps (duties.Send (send_duties.Update s)) p = both_rest p p refl refl
  passed_steps _ p = both_rest p p refl refl

  -- ---- what happens by itself

  begun_steps : (r : Reply) (dead living : List Duty) (p : PathState C) → PathStep p (join_begun r dead living p)
  begun_steps r dead living p =
      either (is_never r) (goes_on A (never_joined r (end_at A p)) dead p) (goes_on A (opened_by (keys_begun r) (end_at A p)) living p) p
      (dying A _ p _ refl refl refl refl) (side A _ p _ (opened_steps p.clock (keys_begun r) p.a) refl refl)

  line_steps : (action : LineAction) (p : PathState C) → PathStep p (after_line action p)
  line_steps actions.Die p = record {
    a = either_end p.clock (is_dead p.a.tcp.state) p.a p.a (died p.a) (rests p.clock p.a p.a refl refl) (died_steps p.clock p.a (died p.a) refl refl);
    b = either_end p.clock (is_dead p.b.tcp.state) p.b p.b (died p.b) (rests p.clock p.b p.b refl refl) (died_steps p.clock p.b (died p.b) refl refl);
  }
  line_steps (actions.Prio s backup) p = calm s _ p _ refl refl refl refl
  line_steps (actions.Announce s id) p = both_rest p _ refl refl
  line_steps (actions.Withdraw s id) p = both_rest p _ refl refl

  heard_steps : (s : Side) (heard : Option HeardSegment) (p : PathState C) → PathStep p (copy_heard s heard p)
  heard_steps s None p = both_rest p _ refl refl
  heard_steps s (Some heard) p =
      let e = end_at s p in
      let x : HeardSegment = options_heard e heard in
      let after : PathEnd = after_judged p.profile s p.clock x (judged_in (is_joined p.profile) s x e) e in
      side s after p (told_at p.clock s x p) (copy_steps (is_joined p.profile) s p.clock x e after refl refl) refl refl

  -- a path's step is one too from a path with another clock and another link
  from_there : (p q r : PathState C) → q.a ≡ p.a → q.b ≡ p.b → PathStep q r → PathStep p r
  from_there p q r a b x = record { a = subst (λ e. EndStep r.clock e r.a) a x.a; b = subst (λ e. EndStep r.clock e r.b) b x.b }

  happens_steps : (k : Codec C) (event : Option Event) (r : Reply) (p : PathState C) → PathStep p (happens_if k event r p)
  happens_steps k None r p = both_rest p _ refl refl
  happens_steps k (Some (happenings.Joins tick)) r p =
      let q : PathState C = record (at_tick tick p) { joined_at = None } in from_there p q _ refl refl (begun_steps r (leaves A) (emission A) q)
  happens_steps k (Some (happenings.Takes line)) r p =
      let q : PathState C = record (at_tick line.tick p) { lines = tail_of p.lines } in from_there p q _ refl refl (line_steps line.action q)
  happens_steps k (Some (happenings.Arrives due)) r p =
      let q : PathState C = record (at_tick due.tick p) { link = after_delivery due p.link } in
      from_there p q _ refl refl (heard_steps due.to (heard_in k due.to (arriving due p.link) p) q)
  happens_steps k (Some (happenings.Fires s tick)) r p =
      let q : PathState C = at_tick tick p in
      from_there p q _ refl refl (side s _ q _ (subflow_steps q.clock (end_at s q) _ refl fires) refl refl)

  -- ---- replies

  break_steps : (k : Codec C) (s : Side) (reason : ℕ) (r : Reply) (p : PathState C) → PathStep p (answered_break k s reason r p)
  break_steps k s reason r p = either (end_at s p).treated.asked _ _ p (calm s _ p _ refl refl refl refl) (dying s _ p _ refl refl refl refl)

  granted_steps : (s : Side) (grant : Option Grant) (r : Reply) (p : PathState C) → PathStep p (answered_grant s grant r p)
  granted_steps s (Some grant) r p =
      let e = end_at s p in side s _ p _ (record { subflow = one p.clock e.tcp _ (pushes grant.piece _); stream = stream.takes _ }) refl refl
  granted_steps s None r p = side s _ p _ (stream_goes p.clock (end_at s p) _ refl (refused_steps r (end_at s p).sending)) refl refl

  bytes_steps : (k : Codec C) (s : Side) (next : Option Record) (r : Reply) (p : PathState C) → PathStep p (answered_data k s next r p)
  bytes_steps k s (Some next) r p = sent to_send.Unsent s _ p _ refl refl refl refl refl
  bytes_steps k s None r p = granted_steps s (grant_in r) r p

  joins_steps : (s : Side) (keys : Option KeyPair) (asked : Option JoinSyn) (r : Reply) (p : PathState C) → PathStep p (join_taken s keys asked r p)
  joins_steps s (Some keys) (Some asked) r p =
      let e = end_at s p in side s _ p _ (subflow_goes p.clock e _ refl (joining_steps p.clock e.treated.window e.tcp)) refl refl
  joins_steps s None (Some asked) r p = calm s _ p _ refl refl refl refl
  joins_steps s (Some keys) None r p = both_rest p _ refl refl
  joins_steps s None None r p = both_rest p _ refl refl

  piece_steps : (s : Side) (o : Option Piece) (taken : Bool) (p : PathState C) → PathStep p (answered_piece s o taken p)
  piece_steps s None taken p = calm s _ p _ refl refl refl refl
  piece_steps s (Some piece) true p = side s _ p _ (subflow_steps p.clock (end_at s p) _ refl (advances (length piece.octets))) refl refl
  piece_steps s (Some piece) false p = calm s _ p _ refl refl refl refl

  keys_steps : (s : Side) (o : Option KeyPair) (r : Reply) (p : PathState C) → PathStep p (answered_opened s o r p)
  keys_steps s None r p = calm s _ p _ refl refl refl refl
  keys_steps s (Some keys) r p = calm s _ p _ refl refl refl refl

  key_steps : (s : Side) (o : Option ℕ) (r : Reply) (p : PathState C) → PathStep p (answered_peer_key s o r p)
  key_steps s None r p = calm s _ p _ refl refl refl refl
  key_steps s (Some key) r p = calm s _ p _ refl refl refl refl

  fin_steps : (s : Side) (set : Bool) (p : PathState C) → PathStep p (answered_fin_heard s set p)
  fin_steps s true p = side s _ p _ (stream_goes p.clock (end_at s p) _ refl stream.closes) refl refl
  fin_steps s false p = calm s _ p _ refl refl refl refl

  plain_fin_steps : (s : Side) (set : Bool) (p : PathState C) → PathStep p (answered_plain_fin s set p)
  plain_fin_steps s true p = side s _ p _ (stream_goes p.clock (end_at s p) _ refl stream.closes) refl refl
  plain_fin_steps s false p = calm s _ p _ refl refl refl refl

  thing_steps : (k : Codec C) (s : Side) (item : Heard) (r : Reply) (p : PathState C) → PathStep p (answered_heard k s item r p)
  thing_steps k s (says.DataAck next window) r p = side s _ p _ (stream_goes p.clock (end_at s p) _ refl (acked_steps next r (end_at s p).sending)) refl refl
  thing_steps k s (says.Mapping fin) r p = either (is_clash (end_at s p)) _ _ p (break_steps k s 1 r p) (calm s _ p _ refl refl refl refl)
  thing_steps k s (says.DataFin place) r p = calm s _ p _ refl refl refl refl
  thing_steps k s (says.InfiniteMapping place position) r p =
      let e = end_at s p in side s _ p _ (infinite_came_so (λ f. EndStep p.clock e f) place position r e (λ other. rests p.clock e _ refl refl)) refl refl
  thing_steps k s (says.Keys own peer) r p = calm s _ p _ refl refl refl refl
  thing_steps k s (says.Notice notice) r p = calm s _ p _ refl refl refl refl
  thing_steps k s says.Fail r p = fail_answered_so (PathStep p) s r p (calm s _ p _ refl refl refl refl) (calm s _ p _ refl refl refl refl)
  thing_steps k s _ r p = both_rest p _ refl refl

  item_steps : (k : Codec C) (s : Side) (item : Option Heard) (r : Reply) (p : PathState C) → PathStep p (answered_item k s item r p)
  item_steps k s None r p = both_rest p _ refl refl
  item_steps k s (Some item) r p = thing_steps k s item r p

  send_steps : (k : Codec C) (d : SendDuty) (p : PathState C) → PathStep p (sent_for k d p)
  send_steps k (send_duties.Syn s) p = sent to_send.Unsent s _ p _ refl refl refl refl refl
  send_steps k (send_duties.SynAck s) p = sent to_send.SynAck s _ p _ refl refl refl refl refl
  send_steps k (send_duties.Again s) p = sent to_send.First s _ p _ refl refl refl refl refl
  send_steps k (send_duties.Answer s) p = sent (answer_occasion (end_at s p)) s _ p _ refl refl refl refl refl
  send_steps k (send_duties.Resend s) p = sent (resend_occasion (end_at s p)) s _ p _ refl refl refl refl refl
  send_steps k (send_duties.Update s) p = sent to_send.Ack s _ p _ refl refl refl refl refl
  send_steps k (send_duties.FastClose s) p = sent to_send.Ack s _ p _ refl refl refl refl refl
  send_steps k (send_duties.Notice s) p = sent to_send.Ack s _ p _ refl refl refl refl refl
  send_steps k (send_duties.Acknowledge s) p = sent to_send.Ack s _ p _ refl refl refl refl refl
  send_steps k (send_duties.DataFin s) p =
      let e = end_at s p in side s _ p _ (record { subflow = one p.clock e.tcp _ (sends to_send.Ack); stream = stream.ends }) refl refl
  send_steps k (send_duties.Fin s) p =
      let t : EndState = (end_at s p).tcp in
      side s _ p _ (subflow_goes p.clock (end_at s p) _ refl (more (after_finishing t) _ (one p.clock t _ finishes) (sends to_send.Fin))) refl refl
  send_steps k (send_duties.Refuse s) p = calm s _ p _ refl refl refl refl
  send_steps k (send_duties.ResetAnswer s) p = calm s _ p _ refl refl refl refl
  send_steps k (send_duties.BreakReset s reason) p = dying s _ p _ refl refl refl refl
  send_steps k (send_duties.Reset s) p = dying s _ p _ refl refl refl refl
  send_steps k (send_duties.ResetNoted s) p = dying s _ p _ refl refl refl refl

  pub answered_steps : (k : Codec C) (d : Duty) (r : Reply) (p : PathState C) → PathStep p (answered k d r p)
  answered_steps k (duties.Ask ask_duties.JoinAgain) r p = begun_steps r _ _ p
  answered_steps k (duties.Ask (ask_duties.Window s)) r p = calm s _ p _ refl refl refl refl
  answered_steps k (duties.Ask (ask_duties.PlainHandshake s)) r p = calm s _ p _ refl refl refl refl
  answered_steps k (duties.Ask (ask_duties.PeerKey s)) r p = key_steps s (key_heard (end_at s p).treated.items) r p
  answered_steps k (duties.Ask (ask_duties.JoinHeard s)) r p = joins_steps s (keys_begun r) (asked_at s p) r p
  answered_steps k (duties.Ask (ask_duties.Opened s)) r p = keys_steps s (keys_heard (end_at s p).treated.items) r p
  answered_steps k (duties.Ask (ask_duties.AckHeard s)) r p = calm s _ p _ refl refl refl refl
  answered_steps k (duties.Ask (ask_duties.FailHeard s)) r p =
      let e = end_at s p in side s _ p _ (fail_heard_so (λ f. EndStep p.clock e f) r e (λ own owing. rests p.clock e _ refl refl)) refl refl
  answered_steps k (duties.Ask (ask_duties.SubflowAck s)) r p =
      let e = end_at s p in side s _ p _ (stream_goes p.clock e _ refl (plainly_steps (plain_next e) r e.sending)) refl refl
  answered_steps k (duties.Ask (ask_duties.PlainData s)) r p = calm s _ p _ refl refl refl refl
  answered_steps k (duties.Ask (ask_duties.GoIdentity s)) r p = calm s _ p _ refl refl refl refl
  answered_steps k (duties.Ask (ask_duties.Edge s)) r p = piece_steps s (piece_of s p) (is_placed r) p
  answered_steps k (duties.Ask (ask_duties.CheckFailed s)) r p =
      let e = end_at s p in
      side s _ p _
      (check_failed_so (λ f. EndStep p.clock e f) p.profile.spelling.checksums r e (λ told broken recv forgotten. forgets_steps p.clock e _ recv forgotten refl refl)) refl refl
  answered_steps k (duties.Ask (ask_duties.HeardFin s index)) r p = fin_steps s (is_fin_set r) p
  answered_steps k (duties.Ask (ask_duties.SubflowFin s)) r p = plain_fin_steps s (is_fin_set r) p
  answered_steps k (duties.Ask (ask_duties.AckOut s)) r p = calm s _ p _ refl refl refl refl
  answered_steps k (duties.Ask (ask_duties.Rate s)) r p = side s _ p _ (subflow_steps p.clock (end_at s p) _ refl (grows _)) refl refl
  answered_steps k (duties.Ask (ask_duties.LeaveNoted s)) r p = dying s _ p _ refl refl refl refl
  answered_steps k (duties.Ask (ask_duties.BreakAck s reason)) r p = calm s _ p _ refl refl refl refl
  answered_steps k (duties.Step (step_duties.Look s)) r p = calm s _ p _ refl refl refl refl
  answered_steps k (duties.Step (step_duties.Data s)) r p = bytes_steps k s (first_unsent (end_at s p)) r p
  answered_steps k (duties.Step step_duties.Events) r p = happens_steps k (next_event p) r p
  answered_steps k (duties.Step (step_duties.Heard s index)) r p = item_steps k s (item_of index (end_at s p)) r p
  answered_steps k (duties.Step (step_duties.PlainAck s)) r p =
      either (breaks_by_ack p.profile (end_at s p)) _ _ p (break_steps k s 6 r p) (calm s _ p _ refl refl refl refl)
  answered_steps k (duties.Step (step_duties.Unmapped s)) r p = break_steps k s 6 r p
  answered_steps k (duties.Send d) r p = send_steps k d p
  answered_steps k _ r p = both_rest p _ refl refl
