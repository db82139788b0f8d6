-- An end that sent its DATA_FIN knows where its stream ends, and one that sent MP_FASTCLOSE has the key that this carries; each piece that an
-- end was granted and waits for ends behind what it heard acknowledged.
use Rattle.std.proofs.Common.{◌≡◌, refl, sym, subst, ap, ◌∙◌, ℕ, ◌+◌, ◌<◌, max, nat_lt, Bool, true, false, true≢false, not, if◌then◌else◌, ◌&&◌, ◌||◌, Option, Some, None, IfSome, is_some, List, [], ◌∷◌, ◌++◌, filter}
use Rattle.std.specs.List.{AllByRecursion}
use Rattle.std.proofs.lemmas.Bool.{and_parts, ltb-true, or_parts}
use Rattle.path_segments.specs.Heard.{HeardSegment}
use Rattle.sides.specs.declared.side.Side.{Side}
use Rattle.sides.specs.declared.side.Side.TheVariants.{A, B}
use Rattle.link_model.specs.Steps.{arriving, after_delivery}
use Rattle.send_book.specs.declared.call.SendReply.TheVariants as send_replies
use Rattle.control_book.specs.declared.call.ControlReply.TheVariants as control_replies
use Rattle.control_book.specs.declared.call.Notice.{Notice}
use Rattle.control_book.specs.declared.call.Notice.TheVariants as told
use Rattle.subflow_send.specs.Records.{Record}
use Rattle.subflow_tcp.specs.States.{is_dead, may_finish}
use Rattle.actor_desk.specs.declared.ask.Reply.{Reply}
use Rattle.actor_desk.specs.declared.ask.Reply.TheVariants as replies
use Rattle.actor_desk.specs.Words.{tail_of}
use Rattle.path_agenda.specs.Agenda.{leaves, emission, start_of_turn}
use Rattle.path_agenda.specs.declared.duty.Duty.{Duty}
use Rattle.path_agenda.specs.declared.duty.Duty.TheVariants as duties
use Rattle.path_agenda.specs.declared.duty.AskDuty.TheVariants as ask_duties
use Rattle.path_agenda.specs.declared.duty.SendDuty.TheVariants as send_duties
use Rattle.path_agenda.specs.declared.duty.SilentDuty.TheVariants as silent_duties
use Rattle.path_agenda.specs.declared.duty.StepDuty.TheVariants as step_duties
use Rattle.path_agenda.specs.declared.heard.Heard.{Heard}
use Rattle.path_agenda.specs.declared.heard.Heard.TheVariants as says
use Rattle.path_agenda.specs.declared.keys.KeyPair.{KeyPair}
use Rattle.path_store.specs.Granted.{is_open}
use Rattle.path_store.specs.declared.granted_piece.GrantedPiece.{GrantedPiece}
use Rattle.path_store.specs.declared.lines.LineAction.{LineAction}
use Rattle.path_store.specs.declared.lines.LineAction.TheVariants as actions
use Rattle.path_core.specs.Arrival.{copy_heard, heard_in}
use Rattle.path_core.specs.Breaking.{answered_break}
use Rattle.path_core.specs.Choices.{told_last}
use Rattle.path_core.specs.Codec.{Codec}
use Rattle.path_core.specs.DataFin.{acked_in}
use Rattle.path_core.specs.DssIn.{is_clash}
use Rattle.path_core.specs.Duties.{answered, passed, stands}
use Rattle.path_core.specs.Emission.{Grant, answered_data, answered_grant, first_unsent, grant_in, refused}
use Rattle.path_core.specs.End.{PathEnd, died}
use Rattle.path_core.specs.Events.{next_event, after_line, happens_if}
use Rattle.path_core.specs.Fallback.{breaks_by_ack, plain_next, plainly_acked}
use Rattle.path_core.specs.MpJoin.{is_never, join_begun, keys_begun, never_joined, opened_by}
use Rattle.path_core.specs.Modes.{sends_plainly}
use Rattle.path_core.specs.Notices.{Notices, after_notice}
use Rattle.path_core.specs.Sending.{Sending}
use Rattle.path_core.specs.Standing.{after_look, is_connected, may_note}
use Rattle.path_core.specs.Start.{first_turn, waiting_path}
use Rattle.path_core.specs.State.{PathState, at_tick, end_at, goes_on, with_agenda}
use Rattle.path_core.specs.Steps.{next_round, settled, takes}
use Rattle.path_core.specs.Treating.{answered_heard, answered_item, item_of}
use Rattle.path_core.specs.Turns.{FirstStands, IsSettled}
use Rattle.path_core.specs.declared.events.Event.{Event}
use Rattle.path_core.specs.declared.events.Event.TheVariants as happenings
use Rattle.world_laws.specs.Openings.{PathPlan, Start, path_begins}
use Rattle.world_laws.specs.Writes.{EndWrites, EndView, Writes, Only, OnlyAt, writes, side_of}
use Rattle.world_laws.proofs.Falls.FailedChecks.{infinite_came_so, fail_answered_so}
use Rattle.world_laws.proofs.Worlds.Settled.{settled_settled}
use Rattle.world_laws.proofs.Writes.Ends.{acked_so, item_so}
use Rattle.world_laws.proofs.Writes.Paths.{writes_no_more, passes_no_more}
use Rattle.world_laws.proofs.Writes.Steps.{Lasts, both_ends, settled_lasts, unwritten}

-- ---- an end

abbrev pub AllAreOpen : Sending → Type 0
AllAreOpen v = AllByRecursion (λ (piece : GrantedPiece). v.heard < piece.to) v.granted

pub record KnowsItsEnd (e : PathEnd) : Type 0 where
  pub ended : e.sending.fin_sent ≡ true → is_some e.sending.known_end ≡ true
  pub closed : e.notices.fast_closed ≡ true → is_some e.notices.carrier ≡ true
  pub open_pieces : AllAreOpen e.sending

record Keeps (e f : PathEnd) : Type 0 where
  keeps : KnowsItsEnd e → KnowsItsEnd f

-- its stream but for what is acknowledged of it, and for the DATA_FIN of the peer
pub record SameStream (v w : Sending) : Type 0 where
  sent : w.fin_sent ≡ v.fin_sent
  known : w.known_end ≡ v.known_end
  pieces : AllAreOpen v → AllAreOpen w

same_pieces : (v w : Sending) → w.granted ≡ v.granted → w.heard ≡ v.heard → AllAreOpen v → AllAreOpen w
same_pieces v w granted heard h = subst (λ n. AllByRecursion (λ (piece : GrantedPiece). n < piece.to) w.granted) (sym heard) (subst (λ gs. AllByRecursion (λ (piece : GrantedPiece). v.heard < piece.to) gs) (sym granted) h)

same_stream : (v w : Sending) → w.fin_sent ≡ v.fin_sent → w.known_end ≡ v.known_end → w.granted ≡ v.granted → w.heard ≡ v.heard → SameStream v w
same_stream v w sent known granted heard = record { sent = sent; known = known; pieces = same_pieces v w granted heard }

keeps_so : (e f : PathEnd) → SameStream e.sending f.sending → f.notices.fast_closed ≡ e.notices.fast_closed → f.notices.carrier ≡ e.notices.carrier → Keeps e f
keeps_so e f same closed carrier = record {
  keeps = λ h. record {
    ended = λ is. ap is_some same.known ∙ h.ended (sym same.sent ∙ is);
    closed = λ is. ap is_some carrier ∙ h.closed (sym closed ∙ is);
    open_pieces = same.pieces h.open_pieces;
  };
}

same_keeps : (e f : PathEnd) → f.sending.fin_sent ≡ e.sending.fin_sent → f.sending.known_end ≡ e.sending.known_end → f.sending.granted ≡ e.sending.granted → f.sending.heard ≡ e.sending.heard
    → f.notices.fast_closed ≡ e.notices.fast_closed → f.notices.carrier ≡ e.notices.carrier → Keeps e f
same_keeps e f sent known granted heard closed carrier = keeps_so e f (same_stream e.sending f.sending sent known granted heard) closed carrier

calm_keeps : (e f : PathEnd) → f.sending ≡ e.sending → f.notices ≡ e.notices → Keeps e f
calm_keeps e f sending notices = same_keeps e f (ap (λ (v : Sending). v.fin_sent) sending) (ap (λ (v : Sending). v.known_end) sending) (ap (λ (v : Sending). v.granted) sending) (ap (λ (v : Sending). v.heard) sending)
    (ap (λ (n : Notices). n.fast_closed) notices) (ap (λ (n : Notices). n.carrier) notices)

-- what it carries is dropped
died_keeps : (e f : PathEnd) → f.sending ≡ e.sending → f.notices.fast_closed ≡ false → Keeps e f
died_keeps e f sending none = record {
  keeps = λ h. record {
    ended = λ is. ap (λ (v : Sending). is_some v.known_end) sending ∙ h.ended (ap (λ (v : Sending). v.fin_sent) (sym sending) ∙ is);
    closed = λ is. absurd (true≢false (sym is ∙ none));
    open_pieces = subst AllAreOpen (sym sending) h.open_pieces;
  };
}

-- none of these parts is written
abbrev LeavesEnds : EndWrites → Type 0
LeavesEnds w = ((w.fin_sent || (w.known_end || (w.granted || (w.heard || (w.fast_closed || w.carrier))))) ≡ false)

only_keeps : (w : EndWrites) (e f : PathEnd) → LeavesEnds w → Only w e f → Keeps e f
only_keeps w e f none x =
    let one = or_parts w.fin_sent _ none in let two = or_parts w.known_end _ one.1 in let three = or_parts w.granted _ two.1 in let four = or_parts w.heard _ three.1 in let five = or_parts w.fast_closed w.carrier four.1 in
    same_keeps e f
    (unwritten w.fin_sent e.sending.fin_sent f.sending.fin_sent one.0 (ap (λ (v : EndView). v.fin_sent) x.same))
    (unwritten w.known_end e.sending.known_end f.sending.known_end two.0 (ap (λ (v : EndView). v.known_end) x.same))
    (unwritten w.granted e.sending.granted f.sending.granted three.0 (ap (λ (v : EndView). v.granted) x.same))
    (unwritten w.heard e.sending.heard f.sending.heard four.0 (ap (λ (v : EndView). v.heard) x.same))
    (unwritten w.fast_closed e.notices.fast_closed f.notices.fast_closed five.0 (ap (λ (v : EndView). v.fast_closed) x.same))
    (unwritten w.carrier e.notices.carrier f.notices.carrier five.1 (ap (λ (v : EndView). v.carrier) x.same))

-- what is acknowledged whole is let go
open_after : (heard : ℕ) (pieces : List GrantedPiece) → AllByRecursion (λ (piece : GrantedPiece). heard < piece.to) (filter (is_open heard) pieces)
open_after heard [] = tt
open_after heard (piece ∷ pieces) = by (nat_lt heard piece.to) refl (open_after heard pieces)
  where
    by : (b : Bool) → nat_lt heard piece.to ≡ b → AllByRecursion (λ (piece : GrantedPiece). heard < piece.to) (filter (is_open heard) pieces)
        → AllByRecursion (λ (piece : GrantedPiece). heard < piece.to) (if b then piece ∷ filter (is_open heard) pieces else filter (is_open heard) pieces)
    by true is rest = (ltb-true heard piece.to is, rest)
    by false is rest = rest

acked_same : (next : ℕ) (r : Reply) (v : Sending) → SameStream v (acked_in next r v)
acked_same next r v = acked_so (λ w. SameStream v w) next r v (λ fin. record { sent = refl; known = refl; pieces = λ h. open_after (max v.heard next) v.granted }) (same_stream v v refl refl refl refl)

plainly_same : (next : Option ℕ) (r : Reply) (v : Sending) → SameStream v (plainly_acked next r v)
plainly_same None r v = same_stream v v refl refl refl refl
plainly_same (Some next) r v = acked_same next r v

-- one more
pushed_open : (heard : ℕ) (pieces : List GrantedPiece) (piece : GrantedPiece) → AllByRecursion (λ (x : GrantedPiece). heard < x.to) pieces → heard < piece.to → AllByRecursion (λ (x : GrantedPiece). heard < x.to) (pieces ++ piece ∷ [])
pushed_open heard [] piece all high = (high, tt)
pushed_open heard (x ∷ pieces) piece all high = (all.0, pushed_open heard pieces piece all.1 high)

-- a side that tells who carries its fast close tells so before it is sent
notice_keeps : (notice : Notice) (may : Bool) (n : Notices) → (n.fast_closed ≡ true → is_some n.carrier ≡ true)
    → (after_notice notice may n).fast_closed ≡ true → is_some (after_notice notice may n).carrier ≡ true
notice_keeps told.Nothing may n h is = h is
notice_keeps (told.Announce id) true n h is = h is
notice_keeps (told.Announce id) false n h is = h is
notice_keeps (told.Withdraw id) may n h is = h is
notice_keeps (told.Carrier key) may n h is = (elim n.fast_closed as (λ b. (b ≡ true → is_some n.carrier ≡ true) → is_some (if b then n.carrier else Some key) ≡ true)
    [ true ↦ λ h. h refl | false ↦ λ h. refl ]) h
notice_keeps told.Reset may n h is = h is

look_keeps : (r : Reply) (e : PathEnd) → Keeps e (after_look r e)
look_keeps (replies.Control (control_replies.Standing mode standby sole notice)) e = record { keeps = λ h. record { ended = h.ended; closed = by h; open_pieces = h.open_pieces } }
  where
    by : KnowsItsEnd e → (if is_dead e.tcp.state then e.notices else after_notice notice (may_note e) e.notices).fast_closed ≡ true
        → is_some (if is_dead e.tcp.state then e.notices else after_notice notice (may_note e) e.notices).carrier ≡ true
    by h = elim (is_dead e.tcp.state) as (λ b. (if b then e.notices else after_notice notice (may_note e) e.notices).fast_closed ≡ true → is_some (if b then e.notices else after_notice notice (may_note e) e.notices).carrier ≡ true)
        [ true ↦ h.closed | false ↦ notice_keeps notice (may_note e) e.notices h.closed ]
look_keeps _ e = calm_keeps e _ refl refl

-- a known end isn't forgotten
told_some : (known before : Option ℕ) → is_some before ≡ true → is_some (told_last known before) ≡ true
told_some None before some = some
told_some (Some end) before some = refl

refused_keeps : (r : Reply) (e : PathEnd) → Keeps e (refused r e)
refused_keeps (replies.Send (send_replies.NoGrant why known)) e = record { keeps = λ h. record { ended = λ is. told_some known e.sending.known_end (h.ended is); closed = h.closed; open_pieces = h.open_pieces } }
refused_keeps _ e = calm_keeps e _ refl refl

opened_keeps : (keys : Option KeyPair) (e : PathEnd) → Keeps e (opened_by keys e)
opened_keeps None e = calm_keeps e e refl refl
opened_keeps (Some keys) e = calm_keeps e _ refl refl

either_keeps : (b : Bool) (e : PathEnd) → Keeps e (if b then e else died e)
either_keeps true e = calm_keeps e e refl refl
either_keeps false e = died_keeps e (died e) refl refl

-- what a path is granted ends behind all that its end heard acknowledged
abbrev pub EndsBehind : ℕ → Option Grant → Type 0
EndsBehind heard o = IfSome o (λ grant. heard < grant.span.to)

keeps_then : (e f g : PathEnd) → Keeps e f → Keeps f g → Keeps e g
keeps_then e f g x y = record { keeps = λ h. y.keeps (x.keeps h) }

-- nothing of it is sent or granted at the opening
first_known : (C : Type 0) (start : Start) (number : ℕ) (plan : PathPlan) (s : Side) → KnowsItsEnd (end_at s (waiting_path {C = C} (path_begins start number plan) start.lines))
first_known C start number plan A = record { ended = λ is. absurd (true≢false (sym is)); closed = λ is. absurd (true≢false (sym is)); open_pieces = tt }
first_known C start number plan B = record { ended = λ is. absurd (true≢false (sym is)); closed = λ is. absurd (true≢false (sym is)); open_pieces = tt }

-- ---- a path

module _ {C : Type 0} where
  record Kept (p q : PathState C) : Type 0 where
    a : Keeps p.a q.a
    b : Keeps p.b q.b

  -- the end of this side becomes that one
  side : (s : Side) (e : PathEnd) (p q : PathState C) → Keeps (end_at s p) e → q.a ≡ (goes_on s e [] p).a → q.b ≡ (goes_on s e [] p).b → Kept p q
  side A e p q x same_a same_b = record { a = subst (Keeps p.a) (sym same_a) x; b = subst (Keeps p.b) (sym same_b) (calm_keeps p.b p.b refl refl) }
  side B e p q x same_a same_b = record { a = subst (Keeps p.a) (sym same_a) (calm_keeps p.a p.a refl refl); b = subst (Keeps p.b) (sym same_b) x }

  calm : (s : Side) (e : PathEnd) (p q : PathState C) → q.a ≡ (goes_on s e [] p).a → q.b ≡ (goes_on s e [] p).b → e.sending ≡ (end_at s p).sending → e.notices ≡ (end_at s p).notices → Kept p q
  calm s e p q same_a same_b sending notices = side s e p q (calm_keeps (end_at s p) e sending notices) same_a same_b

  dying : (s : Side) (e : PathEnd) (p q : PathState C) → q.a ≡ (goes_on s e [] p).a → q.b ≡ (goes_on s e [] p).b → e.sending ≡ (end_at s p).sending → e.notices.fast_closed ≡ false → Kept p q
  dying s e p q same_a same_b sending none = side s e p q (died_keeps (end_at s p) e sending none) same_a same_b

  rest : (p q : PathState C) → q.a ≡ p.a → q.b ≡ p.b → Kept p q
  rest p q same_a same_b = calm A p.a p q same_a same_b refl refl

  either : (b : Bool) (q r p : PathState C) → Kept p q → Kept p r → Kept p (if b then q else r)
  either true q r p x y = x
  either false q r p x y = y

  from_there : (p q r : PathState C) → q.a ≡ p.a → q.b ≡ p.b → Kept q r → Kept p r
  from_there p q r a b x = record { a = subst (λ e. Keeps e r.a) a x.a; b = subst (λ e. Keeps e r.b) b x.b }

  plain : (s : Side) (w : Writes) (p q : PathState C) → LeavesEnds w.own → LeavesEnds w.other → OnlyAt s w p q → Kept p q
  plain s w p q own other x = let both = both_ends (λ e f. Keeps e f) s w p q (λ e f only. only_keeps w.own e f own only) (λ e f only. only_keeps w.other e f other only) x in record { a = both.0; b = both.1 }

  -- ---- replies

  break_kept : (k : Codec C) (s : Side) (reason : ℕ) (r : Reply) (p : PathState C) → Kept p (answered_break k s reason r p)
  break_kept k s reason r p = either (end_at s p).treated.asked _ _ p (calm s _ p _ refl refl refl refl) (dying s _ p _ refl refl refl refl)

  thing_kept : (k : Codec C) (s : Side) (item : Heard) (r : Reply) (p : PathState C) → Kept p (answered_heard k s item r p)
  thing_kept k s (says.DataAck next window) r p =
      side s _ p _ (keeps_so (end_at s p) _ (acked_same next r (end_at s p).sending) refl refl) refl refl
  thing_kept k s (says.Mapping fin) r p = either (is_clash (end_at s p)) _ _ p (break_kept k s 1 r p) (calm s _ p _ refl refl refl refl)
  thing_kept k s (says.DataFin place) r p = calm s _ p _ refl refl refl refl
  thing_kept k s (says.InfiniteMapping place position) r p =
      let e = end_at s p in side s _ p _ (infinite_came_so (λ f. Keeps e f) place position r e (λ other. calm_keeps e _ refl refl)) refl refl
  thing_kept k s (says.Keys own peer) r p = calm s _ p _ refl refl refl refl
  thing_kept k s (says.Notice notice) r p = side s _ p _ (same_keeps (end_at s p) _ refl refl refl refl refl refl) refl refl
  thing_kept k s says.Fail r p = fail_answered_so (Kept p) s r p (calm s _ p _ refl refl refl refl) (calm s _ p _ refl refl refl refl)
  thing_kept k s _ r p = rest p _ refl refl

  things_kept : (k : Codec C) (s : Side) (item : Option Heard) (r : Reply) (p : PathState C) → Kept p (answered_item k s item r p)
  things_kept k s None r p = rest p _ refl refl
  things_kept k s (Some item) r p = thing_kept k s item r p

  -- ---- events

  begun_kept : (r : Reply) (dead living : List Duty) (p : PathState C) → Kept p (join_begun r dead living p)
  begun_kept r dead living p =
      either (is_never r) (goes_on A (never_joined r (end_at A p)) dead p) (goes_on A (opened_by (keys_begun r) (end_at A p)) living p) p
      (dying A _ p _ refl refl refl refl) (side A (opened_by (keys_begun r) p.a) p _ (opened_keeps (keys_begun r) p.a) refl refl)

  line_kept : (action : LineAction) (p : PathState C) → Kept p (after_line action p)
  line_kept actions.Die p = record { a = either_keeps (is_dead p.a.tcp.state) p.a; b = either_keeps (is_dead p.b.tcp.state) p.b }
  line_kept (actions.Prio s backup) p = side s _ p _ (same_keeps (end_at s p) _ refl refl refl refl refl refl) refl refl
  line_kept (actions.Announce s id) p = rest p _ refl refl
  line_kept (actions.Withdraw s id) p = rest p _ refl refl

  heard_kept : (s : Side) (o : Option HeardSegment) (p : PathState C) → Kept p (copy_heard s o p)
  heard_kept s None p = rest p _ refl refl
  heard_kept s (Some heard) p = calm s _ p _ refl refl refl refl

  happens_kept : (k : Codec C) (o : Option Event) (r : Reply) (p : PathState C) → Kept p (happens_if k o r p)
  happens_kept k None r p = rest p _ refl refl
  happens_kept k (Some (happenings.Joins tick)) r p =
      let q : PathState C = record (at_tick tick p) { joined_at = None } in from_there p q _ refl refl (begun_kept r (leaves A) (emission A) q)
  happens_kept k (Some (happenings.Takes line)) r p =
      let q : PathState C = record (at_tick line.tick p) { lines = tail_of p.lines } in from_there p q _ refl refl (line_kept line.action q)
  happens_kept k (Some (happenings.Arrives due)) r p =
      let q : PathState C = record (at_tick due.tick p) { link = after_delivery due p.link } in
      from_there p q _ refl refl (heard_kept due.to (heard_in k due.to (arriving due p.link) p) q)
  happens_kept k (Some (happenings.Fires s tick)) r p = calm s _ p _ refl refl refl refl

  -- ---- bytes

  granted_kept : (s : Side) (grant : Option Grant) (r : Reply) (p : PathState C) → EndsBehind (end_at s p).sending.heard grant → Kept p (answered_grant s grant r p)
  granted_kept s (Some grant) r p high = let e = end_at s p in
      side s _ p _ (record { keeps = λ h. record { ended = h.ended; closed = h.closed; open_pieces = pushed_open e.sending.heard e.sending.granted _ h.open_pieces high } }) refl refl
  granted_kept s None r p high = side s _ p _ (refused_keeps r (end_at s p)) refl refl

  bytes_kept : (k : Codec C) (s : Side) (o : Option Record) (r : Reply) (p : PathState C) → (o ≡ None → EndsBehind (end_at s p).sending.heard (grant_in r)) → Kept p (answered_data k s o r p)
  bytes_kept k s (Some next) r p high = calm s _ p _ refl refl refl refl
  bytes_kept k s None r p high = granted_kept s (grant_in r) r p (high refl)

  -- what a book replies to a duty that asks for bytes ends behind all that is acknowledged
  abbrev pub GrantsBehind : Duty → Reply → PathState C → Type 0
  GrantsBehind (duties.Step (step_duties.Data s)) r p = first_unsent (end_at s p) ≡ None → EndsBehind (end_at s p).sending.heard (grant_in r)
  GrantsBehind _ r p = Unit {0}

  -- ---- any duty that stands

  answered_kept : (k : Codec C) (d : Duty) (r : Reply) (p : PathState C) → stands d p ≡ true → GrantsBehind d r p → Kept p (answered k d r p)
  answered_kept k (duties.Step step_duties.Events) r p stood high = happens_kept k (next_event p) r p
  answered_kept k (duties.Step (step_duties.Heard s index)) r p stood high = things_kept k s (item_of index (end_at s p)) r p
  answered_kept k (duties.Step (step_duties.PlainAck s)) r p stood high =
      either (breaks_by_ack p.profile (end_at s p)) _ _ p (break_kept k s 6 r p) (calm s _ p _ refl refl refl refl)
  answered_kept k (duties.Step (step_duties.Unmapped s)) r p stood high = break_kept k s 6 r p
  answered_kept k (duties.Step (step_duties.Look s)) r p stood high = side s _ p _ (look_keeps r (end_at s p)) refl refl
  answered_kept k (duties.Step (step_duties.Data s)) r p stood high = bytes_kept k s (first_unsent (end_at s p)) r p high
  answered_kept k (duties.Ask ask_duties.JoinAgain) r p stood high = begun_kept r _ _ p
  answered_kept k (duties.Ask (ask_duties.LeaveNoted s)) r p stood high = dying s _ p _ refl refl refl refl
  answered_kept k (duties.Ask (ask_duties.SubflowAck s)) r p stood high =
      let e = end_at s p in side s _ p _ (keeps_so e _ (plainly_same (plain_next e) r e.sending) refl refl) refl refl
  answered_kept k (duties.Send (send_duties.FastClose s)) r p stood high =
      let e = end_at s p in
      let carried = (and_parts (is_some e.notices.carrier) (not e.notices.fast_closed) (and_parts (is_some e.notices.carrier && not e.notices.fast_closed) (e.modes.clear || e.modes.identity) (and_parts (is_connected e.tcp.state) _ stood).1).0).0 in
      side s _ p _ (record { keeps = λ h. record { ended = h.ended; closed = λ is. carried; open_pieces = h.open_pieces } }) refl refl
  answered_kept k (duties.Send (send_duties.DataFin s)) r p stood high =
      let e = end_at s p in
      let known = (and_parts (is_some e.sending.known_end) _ (and_parts e.modes.clear _ (and_parts (not (sends_plainly e.modes)) _ (and_parts (may_finish e.tcp.state) _ stood).1).1).1).0 in
      side s _ p _ (record { keeps = λ h. record { ended = λ is. known; closed = h.closed; open_pieces = h.open_pieces } }) refl refl
  answered_kept k (duties.Send (send_duties.BreakReset s reason)) r p stood high = dying s _ p _ refl refl refl refl
  answered_kept k (duties.Send (send_duties.Reset s)) r p stood high = dying s _ p _ refl refl refl refl
  answered_kept k (duties.Send (send_duties.ResetNoted s)) r p stood high = dying s _ p _ refl refl refl refl
  answered_kept k (duties.Silent d) r p stood high = rest p _ refl refl
  answered_kept k d r p stood high = plain (side_of d) (writes d) p (answered k d r p) refl refl (writes_no_more k d r p)

  passed_kept : (d : Duty) (p : PathState C) → Kept p (passed d p)
  passed_kept (duties.Ask (ask_duties.CheckFailed s)) p =
      plain s (writes (duties.Ask (ask_duties.CheckFailed s))) p _ refl refl (passes_no_more (duties.Ask (ask_duties.CheckFailed s)) p)
  passed_kept (duties.Step (step_duties.Heard s index)) p =
      let e = end_at s p in
      side s _ p _
      (item_so (λ f. Keeps e f) s (item_of index e) e (calm_keeps e e refl refl) (same_keeps e _ refl refl refl refl refl refl) (λ next. calm_keeps e _ refl refl)
      (calm_keeps e _ refl refl) (calm_keeps e _ refl refl) (λ place. calm_keeps e _ refl refl)) refl refl
  passed_kept (duties.Step (step_duties.PlainAck s)) p = calm s _ p _ refl refl refl refl
  passed_kept (duties.Step (step_duties.Unmapped s)) p = calm s _ p _ refl refl refl refl
  passed_kept (duties.Silent (silent_duties.Timer s)) p = side s _ p _ (same_keeps (end_at s p) _ refl refl refl refl refl refl) refl refl
  passed_kept (duties.Silent (silent_duties.Keep s)) p = calm s _ p _ refl refl refl refl
  passed_kept (duties.Silent (silent_duties.PassFin s)) p = calm s _ p _ refl refl refl refl
  passed_kept (duties.Send (send_duties.Update s)) p = rest p p refl refl
  passed_kept _ p = rest p p refl refl

  kept_lasts : Lasts (λ (p q : PathState C). Kept p q)
  kept_lasts = record {
    agenda = λ ds p. rest p _ refl refl;
    chains = λ p q r x y. record { a = keeps_then p.a q.a r.a x.a y.a; b = keeps_then p.b q.b r.b x.b y.b };
    passes = λ d p. passed_kept d p;
  }

  -- ---- at every moment

  pub record BothKnowTheirEnd (p : PathState C) : Type 0 where
    first : IsSettled p
    pub knows : (s : Side) → KnowsItsEnd (end_at s p)

  known_then : (p q : PathState C) → Kept p q → ((s : Side) → KnowsItsEnd (end_at s p)) → (s : Side) → KnowsItsEnd (end_at s q)
  known_then p q x h A = x.a.keeps (h A)
  known_then p q x h B = x.b.keeps (h B)

  settled_knows : (ds : List Duty) (p : PathState C) → ((s : Side) → KnowsItsEnd (end_at s p)) → BothKnowTheirEnd (settled ds p)
  settled_knows ds p h = record { first = settled_settled ds p; knows = known_then p (settled ds p) (settled_lasts (λ p q. Kept p q) kept_lasts ds p) h }

  stood : (d : Duty) (ds : List Duty) (p : PathState C) → stands d p ≡ true → stands d (with_agenda (d ∷ ds) p) ≡ true
  stood (duties.Ask ask_duties.JoinAgain) ds p is = is
  stood (duties.Step (step_duties.Look s)) ds p is = is
  stood (duties.Send (send_duties.Update s)) ds p is = is
  stood (duties.Silent (silent_duties.Timer s)) ds p is = is
  stood _ ds p is = is

  -- of the duty that comes first
  abbrev pub FirstGrantsBehind : List Duty → Reply → PathState C → Type 0
  FirstGrantsBehind [] r p = Unit {0}
  FirstGrantsBehind (d ∷ ds) r p = GrantsBehind d r p

  pub takes_knows : (k : Codec C) (r : Reply) (p : PathState C) → FirstGrantsBehind p.agenda r p → BothKnowTheirEnd p → BothKnowTheirEnd (takes k r p)
  takes_knows k r p high h = by p.agenda high h.first h.knows
    where
      by : (ds : List Duty) → FirstGrantsBehind ds r (with_agenda ds p) → FirstStands ds p → ((s : Side) → KnowsItsEnd (end_at s p)) → BothKnowTheirEnd (takes k r (with_agenda ds p))
      by [] high first knows = settled_knows [] (with_agenda [] p) (known_then p (with_agenda [] p) (rest p _ refl refl) knows)
      by (d ∷ ds) high first knows =
          let x : PathState C = with_agenda (d ∷ ds) p in let q : PathState C = answered k d r x in
          settled_knows q.agenda q (known_then x q (answered_kept k d r x (stood d ds p first) high) (known_then p x (rest p _ refl refl) knows))

  begins_knows : (ds : List Duty) (p q : PathState C) → q.a ≡ p.a → q.b ≡ p.b → ((s : Side) → KnowsItsEnd (end_at s p)) → BothKnowTheirEnd (settled ds q)
  begins_knows ds p q a b knows = settled_knows ds q (known_then p q (rest p q a b) knows)

  pub next_knows : (p : PathState C) → BothKnowTheirEnd p → BothKnowTheirEnd (next_round p)
  next_knows p h = begins_knows start_of_turn p (with_agenda start_of_turn (record p { clock = p.until; until = p.until + 100 })) refl refl h.knows

  pub first_knows : (start : Start) (number : ℕ) (plan : PathPlan) → BothKnowTheirEnd (first_turn {C = C} (path_begins start number plan) start.lines)
  first_knows start number plan = let p : PathState C = waiting_path (path_begins start number plan) start.lines in begins_knows start_of_turn p (with_agenda start_of_turn p) refl refl (first_known C start number plan)
