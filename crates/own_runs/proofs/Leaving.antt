-- An end that is to leave its path's books, or is to be told to be dead there, isn't connected: no step but an event connects an end, and none but one by which
-- it dies lets it leave.
use Rattle.std.proofs.Common.{◌≡◌, refl, sym, ap, ◌∙◌, subst, ℕ, ◌⊎◌, inl, inr, ⊎_elim, Bool, true, false, if◌then◌else◌, Option, Some, None, List, [], ◌∷◌}
use Rattle.std.specs.List.{list_any}
use Rattle.std.proofs.lemmas.Bool.{both_ways, false≢true, or_cases, or_right}
use Rattle.actor_desk.specs.Words.{pick, tail_of}
use Rattle.actor_desk.specs.declared.ask.Reply.{Reply}
use Rattle.join_handshake.specs.declared.hearing.JoinSyn.{JoinSyn}
use Rattle.link_script.specs.Places.{same_side}
use Rattle.path_agenda.specs.Agenda.{breaks, leaves, resets, stops}
use Rattle.path_agenda.specs.Items.{key_heard, keys_heard}
use Rattle.path_agenda.specs.Words.{replaced}
use Rattle.path_agenda.specs.declared.duty.AskDuty.{AskDuty}
use Rattle.path_agenda.specs.declared.duty.Duty.{Duty}
use Rattle.path_agenda.specs.declared.duty.SendDuty.{SendDuty}
use Rattle.path_agenda.specs.declared.duty.SilentDuty.{SilentDuty}
use Rattle.path_agenda.specs.declared.duty.StepDuty.{StepDuty}
use Rattle.path_agenda.specs.declared.heard.Heard.{Heard}
use Rattle.path_agenda.specs.declared.keys.KeyPair.{KeyPair}
use Rattle.path_core.specs.Breaking.{answered_break, reset_on}
use Rattle.path_core.specs.Codec.{Codec}
use Rattle.path_core.specs.DataFin.{answered_fin_heard, answered_plain_fin, is_fin_set}
use Rattle.path_core.specs.Deliver.{answered_piece, is_placed, piece_of}
use Rattle.path_core.specs.DssIn.{is_clash, told_next}
use Rattle.path_core.specs.Duties.{answered, passed, sent_for, stands}
use Rattle.path_core.specs.Emission.{Grant, answer_occasion, answered_data, answered_grant, first_unsent, grant_in, resend_occasion}
use Rattle.path_core.specs.End.{PathEnd, died}
use Rattle.path_core.specs.Fallback.{breaks_by_ack, fell_duties}
use Rattle.path_core.specs.FastClose.{is_stopped_by}
use Rattle.path_core.specs.MpCapable.{answered_opened, answered_peer_key}
use Rattle.path_core.specs.MpJoin.{asked_at, is_listening, is_never, join_begun, join_taken, joined_by, keys_begun, never_joined, opened_by, syn_of_window}
use Rattle.path_core.specs.Standing.{after_ack_out, answered_ack_out, is_connected}
use Rattle.path_core.specs.State.{PathState, end_at, left, with_agenda}
use Rattle.path_core.specs.Steps.{settled}
use Rattle.path_core.specs.Treating.{answered_heard, answered_item, item_of, item_passed}
use Rattle.path_store.specs.Passing.{Piece}
use Rattle.sides.specs.declared.side.Side.TheVariants.{A, B}
use Rattle.sides.specs.declared.side.Side.{Side}
use Rattle.subflow_send.specs.Records.{Record}
use Rattle.subflow_tcp.specs.Closing.{after_passing_fin, is_fin_next}
use Rattle.subflow_tcp.specs.Emitting.{after_sending}
use Rattle.subflow_tcp.specs.State.{EndState}
use Rattle.subflow_tcp.specs.Taking.{after_syn, unkept}
use Rattle.subflow_tcp.specs.States.{after_fin_passed, after_finish, is_waiting}
use Rattle.subflow_tcp.specs.declared.handshake.State.{State as EndPhase}
use Rattle.subflow_tcp.specs.declared.segments.Occasion.{Occasion}
use Rattle.world_laws.proofs.Falls.FailedChecks.{fail_answered_so, infinite_came_so}
use Rattle.world_laws.proofs.Falls.Verdicts.{fell_cases}
use Rattle.world_laws.proofs.Writes.Ends.{item_so}
use Rattle.world_laws.proofs.Writes.Paths.{passes_no_more, writes_no_more}
use Rattle.world_laws.proofs.Writes.Steps.{Lasts, both_ends, unwritten}
use Rattle.world_laws.specs.Writes.{EndView, EndWrites, Only, OnlyAt, Writes, nothing, side_of, writes}

abbrev pub is_up : PathEnd → Bool
is_up e = is_connected e.tcp.state

-- a duty by which this side's end leaves, or is told to be dead
abbrev pub is_leaving : Side → Duty → Bool
is_leaving t (Duty.Ask (AskDuty.Leave u)) = same_side u t
is_leaving t (Duty.Ask (AskDuty.Dead u)) = same_side u t
is_leaving t _ = false

abbrev pub leaving : Side → List Duty → Bool
leaving t ds = list_any (is_leaving t) ds

pub same_is : (s t : Side) → same_side s t ≡ true → t ≡ s
same_is A A is = refl
same_is B B is = refl
same_is A B is = absurd (false≢true is)
same_is B A is = absurd (false≢true is)

tail_leaving : (t : Side) (ds : List Duty) → leaving t (tail_of ds) ≡ true → leaving t ds ≡ true
tail_leaving t [] is = is
tail_leaving t (d ∷ ds) is = or_right (is_leaving t d) (leaving t ds) is

put_leaving : (t : Side) (x : Duty) (ds : List Duty) → leaving t (replaced x ds) ≡ true → (is_leaving t x ≡ true) ⊎ (leaving t ds ≡ true)
put_leaving t x [] is = inr is
put_leaving t x (d ∷ ds) is = ⊎_elim (λ here. inl here) (λ more. inr (or_right (is_leaving t d) (leaving t ds) more)) (or_cases (is_leaving t x) (leaving t ds) is)

-- ---- states

finish_up : (state : EndPhase) → is_connected (after_finish state) ≡ true → is_connected state ≡ true
finish_up EndPhase.Established is = refl
finish_up EndPhase.CloseWait is = refl
finish_up EndPhase.Waiting is = is
finish_up _ is = is

passed_up : (state : EndPhase) → is_connected (after_fin_passed state) ≡ true → is_connected state ≡ true
passed_up EndPhase.Established is = refl
passed_up EndPhase.FinWait1 is = refl
passed_up EndPhase.FinWait2 is = refl
passed_up EndPhase.Waiting is = is
passed_up _ is = is

-- ---- ends

only_up : (w : EndWrites) (e f : PathEnd) → w.phase ≡ false → Only w e f → is_up f ≡ true → is_up e ≡ true
only_up w e f none x up = ap is_connected (sym (unwritten w.phase e.tcp.state f.tcp.state none (ap (λ (v : EndView). v.phase) x.same))) ∙ up

pub own_leaves : (s t : Side) → leaving t (leaves s) ≡ true → t ≡ s
own_leaves s t is = ⊎_elim (λ own. same_is s t own) (λ never. absurd (false≢true never)) (or_cases (same_side s t) false is)

pub opened_up : (o : Option KeyPair) (e : PathEnd) → is_up (opened_by o e) ≡ true → is_up e ≡ true
opened_up None e up = up
opened_up (Some keys) e up = by (is_waiting e.tcp.state) up
  where
    by : (b : Bool) → is_up (record e { tcp = (if b then record e.tcp { state = EndPhase.SynSent } else e.tcp) }) ≡ true → is_up e ≡ true
    by true up = absurd (false≢true up)
    by false up = up

item_up : (s : Side) (o : Option Heard) (e : PathEnd) → is_up (item_passed s o e) ≡ true → is_up e ≡ true
item_up s o e = item_so (λ (f : PathEnd). is_up f ≡ true → is_up e ≡ true) s o e (λ up. up) (λ up. up) (λ next up. up) (λ up. up) (λ up. up) (λ place up. up)

fin_up : (b : Bool) (e : PathEnd) → is_up (record e { tcp = (if b then after_passing_fin e.tcp else e.tcp) }) ≡ true → is_up e ≡ true
fin_up true e up = passed_up e.tcp.state up
fin_up false e up = up

sending : (occasion : Occasion) (now : ℕ) (s : EndState) → (after_sending occasion now s).state ≡ s.state
sending Occasion.Reset now s = refl
sending _ now s = refl

joined_up : (keys : KeyPair) (asked : JoinSyn) (e : PathEnd) → is_up (joined_by keys asked e) ≡ true → is_up e ≡ true
joined_up keys asked e up = by (is_listening e.tcp.state) up
  where
    by : (b : Bool) → is_connected (if b then after_syn (unkept None) (syn_of_window e.treated.window) e.tcp else e.tcp).state ≡ true → is_up e ≡ true
    by true up = absurd (false≢true up)
    by false up = up

-- ---- what a step leaves

module _ {C : Type 0} where
  pub record Ups (p q : PathState C) : Type 0 where
    pub a : is_up q.a ≡ true → is_up p.a ≡ true
    pub b : is_up q.b ≡ true → is_up p.b ≡ true

  pub ups_at : (t : Side) (p q : PathState C) → Ups p q → is_up (end_at t q) ≡ true → is_up (end_at t p) ≡ true
  ups_at A p q h = h.a
  ups_at B p q h = h.b

  -- an end leaves where it was to, or isn't connected any more
  abbrev Leaves : PathState C → PathState C → Type 0
  Leaves p q = (t : Side) → leaving t q.agenda ≡ true → (leaving t p.agenda ≡ true) ⊎ (is_up (end_at t q) ≡ false)

  pub record Next (p q : PathState C) : Type 0 where
    pub ups : Ups p q
    pub leaves : Leaves p q

  -- what these let leave was to leave
  abbrev Keeps : PathState C → List Duty → Type 0
  Keeps p es = (t : Side) → leaving t es ≡ true → leaving t p.agenda ≡ true

  keeps_left : (p : PathState C) → Keeps p (left p)
  keeps_left p t is = tail_leaving t p.agenda is

  keeps_put : (p : PathState C) (x : Duty) → ((t : Side) → is_leaving t x ≡ false) → Keeps p (replaced x p.agenda)
  keeps_put p x none t is = ⊎_elim (λ here. absurd (both_ways (is_leaving t x) (none t) here)) (λ was. was) (put_leaving t x p.agenda is)

  keeps_fell : (s : Side) (r : Reply) (p : PathState C) → Keeps p (fell_duties s r p)
  keeps_fell s r p =
      fell_cases (λ (ds : List Duty). Keeps p ds) s p r (λ fell. keeps_put p (Duty.Ask (AskDuty.GoIdentity s)) (λ t. refl)) (λ reason t is. absurd (false≢true is)) (λ reason t is. absurd (false≢true is))
      (keeps_left p)

  side_ups : (s : Side) (f : PathEnd) (p q : PathState C) → (is_up f ≡ true → is_up (end_at s p) ≡ true) → q.a ≡ pick s f p.a → q.b ≡ pick s p.b f → Ups p q
  side_ups A f p q up a b = record { a = λ is. up (ap is_up (sym a) ∙ is); b = λ is. ap is_up (sym b) ∙ is }
  side_ups B f p q up a b = record { a = λ is. ap is_up (sym a) ∙ is; b = λ is. up (ap is_up (sym b) ∙ is) }

  own_is : (s : Side) (f : PathEnd) (p q : PathState C) → q.a ≡ pick s f p.a → q.b ≡ pick s p.b f → end_at s q ≡ f
  own_is A f p q a b = a
  own_is B f p q a b = b

  -- the end of a side goes on
  goes : (s : Side) (f : PathEnd) (es : List Duty) (p q : PathState C) → (is_up f ≡ true → is_up (end_at s p) ≡ true) → q.a ≡ pick s f p.a → q.b ≡ pick s p.b f → q.agenda ≡ es → Keeps p es → Next p q
  goes s f es p q up a b is keeps = record { ups = side_ups s f p q up a b; leaves = λ t leave. inl (keeps t (ap (leaving t) (sym is) ∙ leave)) }

  -- with the state that it has
  calm : (s : Side) (f : PathEnd) (es : List Duty) (p q : PathState C) → f.tcp.state ≡ (end_at s p).tcp.state → q.a ≡ pick s f p.a → q.b ≡ pick s p.b f → q.agenda ≡ es → Keeps p es → Next p q
  calm s f es p q state a b is keeps = goes s f es p q (λ up. ap is_connected (sym state) ∙ up) a b is keeps

  -- or it dies
  dies : (s : Side) (f : PathEnd) (es : List Duty) (p q : PathState C) → is_up f ≡ false → q.a ≡ pick s f p.a → q.b ≡ pick s p.b f → q.agenda ≡ es
      → ((t : Side) → leaving t es ≡ true → (leaving t p.agenda ≡ true) ⊎ (t ≡ s)) → Next p q
  dies s f es p q down a b is leave = record {
    ups = side_ups s f p q (λ up. absurd (both_ways (is_up f) down up)) a b;
    leaves = λ t now. ⊎_elim (λ was. inl was)
        (λ own. inr (subst (λ (u : Side). is_up (end_at u q) ≡ false) (sym own) (ap is_up (own_is s f p q a b) ∙ down)))
        (leave t (ap (leaving t) (sym is) ∙ now));
  }

  stay : (es : List Duty) (p q : PathState C) → q.a ≡ p.a → q.b ≡ p.b → q.agenda ≡ es → Keeps p es → Next p q
  stay es p q a b is keeps = record {
    ups = record { a = λ up. ap is_up (sym a) ∙ up; b = λ up. ap is_up (sym b) ∙ up };
    leaves = λ t leave. inl (keeps t (ap (leaving t) (sym is) ∙ leave));
  }

  either : (b : Bool) (p q r : PathState C) → Next p q → Next p r → Next p (if b then q else r)
  either true p q r x y = x
  either false p q r x y = y

  plain_ups : (s : Side) (w : Writes) (p q : PathState C) → w.own.phase ≡ false → w.other ≡ nothing → OnlyAt s w p q → Ups p q
  plain_ups s w p q none other x =
      let both = both_ends (λ e f. is_up f ≡ true → is_up e ≡ true) s w p q (λ e f y. only_up w.own e f none y) (λ e f y. only_up nothing e f refl (subst (λ (v : EndWrites). Only v e f) other y)) x in
      record { a = both.0; b = both.1 }

  plain : (s : Side) (w : Writes) (es : List Duty) (p q : PathState C) → w.own.phase ≡ false → w.other ≡ nothing → OnlyAt s w p q → q.agenda ≡ es → Keeps p es → Next p q
  plain s w es p q none other x is keeps = record { ups = plain_ups s w p q none other x; leaves = λ t leave. inl (keeps t (ap (leaving t) (sym is) ∙ leave)) }

  -- ---- replies

  break_next : (k : Codec C) (s : Side) (reason : ℕ) (r : Reply) (p : PathState C) → Next p (answered_break k s reason r p)
  break_next k s reason r p = either (end_at s p).treated.asked p (answered_ack_out s r (resets s reason) p) (reset_on k s (Some reason) (leaves s) p)
      (calm s (after_ack_out r (end_at s p)) (resets s reason) p _ refl refl refl refl (λ t is. absurd (false≢true is)))
      (dies s (died (end_at s p)) (leaves s) p _ refl refl refl refl (λ t is. inr (own_leaves s t is)))

  fell_next : (s : Side) (f : PathEnd) (r : Reply) (p q : PathState C) → f.tcp.state ≡ (end_at s p).tcp.state → q.a ≡ pick s f p.a → q.b ≡ pick s p.b f → q.agenda ≡ fell_duties s r p → Next p q
  fell_next s f r p q state a b is = calm s f (fell_duties s r p) p q state a b is (keeps_fell s r p)

  told_keeps : (s : Side) (covers : Bool) (p : PathState C) → Keeps p (told_next s covers p)
  told_keeps s true p = keeps_put p (Duty.Ask (AskDuty.AckHeard s)) (λ t. refl)
  told_keeps s false p = keeps_left p

  stopped_keeps : (s : Side) (b : Bool) (p : PathState C) → Keeps p (if b then stops s else left p)
  stopped_keeps s true p t is = absurd (false≢true is)
  stopped_keeps s false p t is = keeps_left p t is

  thing_next : (k : Codec C) (s : Side) (item : Heard) (r : Reply) (p : PathState C) → Next p (answered_heard k s item r p)
  thing_next k s (Heard.DataAck next window) r p = calm s _ _ p _ refl refl refl refl (told_keeps s _ p)
  thing_next k s (Heard.Mapping fin) r p = either (is_clash (end_at s p)) p _ _ (break_next k s 1 r p) (fell_next s _ r p _ refl refl refl refl)
  thing_next k s (Heard.DataFin place) r p = fell_next s _ r p _ refl refl refl refl
  thing_next k s (Heard.InfiniteMapping place position) r p =
      let e = end_at s p in
      goes s _ (fell_duties s r p) p _ (infinite_came_so (λ (f : PathEnd). is_up f ≡ true → is_up e ≡ true) place position r e (λ other up. up)) refl refl refl (keeps_fell s r p)
  thing_next k s (Heard.Keys own peer) r p = calm s _ (left p) p _ refl refl refl refl (keeps_left p)
  thing_next k s (Heard.Notice notice) r p = calm s _ (left p) p _ refl refl refl refl (keeps_left p)
  thing_next k s Heard.Fail r p =
      fail_answered_so (Next p) s r p (calm s _ _ p _ refl refl refl refl (keeps_put p (Duty.Ask (AskDuty.FailHeard s)) (λ t. refl))) (fell_next s _ r p _ refl refl refl refl)
  thing_next k s (Heard.FastClose key) r p = stay _ p _ refl refl refl (stopped_keeps s (is_stopped_by r) p)
  thing_next k s _ r p = stay (left p) p _ refl refl refl (keeps_left p)

  item_next : (k : Codec C) (s : Side) (item : Option Heard) (r : Reply) (p : PathState C) → Next p (answered_item k s item r p)
  item_next k s None r p = stay (left p) p _ refl refl refl (keeps_left p)
  item_next k s (Some item) r p = thing_next k s item r p

  grant_next : (s : Side) (o : Option Grant) (r : Reply) (p : PathState C) → Next p (answered_grant s o r p)
  grant_next s (Some grant) r p = calm s _ p.agenda p _ refl refl refl refl (λ t is. is)
  grant_next s None r p = calm s _ (left p) p _ refl refl refl refl (keeps_left p)

  data_next : (k : Codec C) (s : Side) (o : Option Record) (r : Reply) (p : PathState C) → Next p (answered_data k s o r p)
  data_next k s (Some unsent) r p = calm s _ p.agenda p _ (sending Occasion.Unsent p.clock (end_at s p).tcp) refl refl refl (λ t is. is)
  data_next k s None r p = grant_next s (grant_in r) r p

  -- by a segment
  sent_next : (occasion : Occasion) (s : Side) (f : PathEnd) (p q : PathState C) → f.tcp ≡ after_sending occasion p.clock (end_at s p).tcp → q.a ≡ pick s f p.a → q.b ≡ pick s p.b f → q.agenda ≡ left p → Next p q
  sent_next occasion s f p q tcp a b is = calm s f (left p) p q (ap (λ (x : EndState). x.state) tcp ∙ sending occasion p.clock (end_at s p).tcp) a b is (keeps_left p)

  put_leaves : (s : Side) (p : PathState C) (t : Side) → leaving t (replaced (Duty.Ask (AskDuty.Leave s)) p.agenda) ≡ true → (leaving t p.agenda ≡ true) ⊎ (t ≡ s)
  put_leaves s p t is = ⊎_elim (λ own. inr (same_is s t own)) (λ was. inl was) (put_leaving t (Duty.Ask (AskDuty.Leave s)) p.agenda is)

  put_dead : (s : Side) (p : PathState C) (t : Side) → leaving t (replaced (Duty.Ask (AskDuty.Dead s)) p.agenda) ≡ true → (leaving t p.agenda ≡ true) ⊎ (t ≡ s)
  put_dead s p t is = ⊎_elim (λ own. inr (same_is s t own)) (λ was. inl was) (put_leaving t (Duty.Ask (AskDuty.Dead s)) p.agenda is)

  segment_next : (k : Codec C) (d : SendDuty) (p : PathState C) → Next p (sent_for k d p)
  segment_next k (SendDuty.Fin s) p = goes s _ (left p) p _ (finish_up (end_at s p).tcp.state) refl refl refl (keeps_left p)
  segment_next k (SendDuty.Syn s) p = sent_next Occasion.Unsent s _ p _ refl refl refl refl
  segment_next k (SendDuty.SynAck s) p = sent_next Occasion.SynAck s _ p _ refl refl refl refl
  segment_next k (SendDuty.Again s) p = sent_next Occasion.First s _ p _ refl refl refl refl
  segment_next k (SendDuty.Answer s) p = sent_next (answer_occasion (end_at s p)) s _ p _ refl refl refl refl
  segment_next k (SendDuty.Resend s) p = sent_next (resend_occasion (end_at s p)) s _ p _ refl refl refl refl
  segment_next k (SendDuty.Refuse s) p = calm s _ (left p) p _ refl refl refl refl (keeps_left p)
  segment_next k (SendDuty.ResetAnswer s) p = calm s _ (left p) p _ refl refl refl refl (keeps_left p)
  segment_next k (SendDuty.BreakReset s reason) p = dies s _ (leaves s) p _ refl refl refl refl (λ t is. inr (own_leaves s t is))
  segment_next k (SendDuty.Reset s) p = dies s _ _ p _ refl refl refl refl (put_leaves s p)
  segment_next k (SendDuty.ResetNoted s) p = dies s _ _ p _ refl refl refl refl (put_leaves s p)
  segment_next k (SendDuty.Notice s) p = calm s _ p.agenda p _ (sending Occasion.Ack p.clock (end_at s p).tcp) refl refl refl (λ t is. is)
  segment_next k (SendDuty.Update s) p = sent_next Occasion.Ack s _ p _ refl refl refl refl
  segment_next k (SendDuty.FastClose s) p = sent_next Occasion.Ack s _ p _ refl refl refl refl
  segment_next k (SendDuty.Acknowledge s) p = sent_next Occasion.Ack s _ p _ refl refl refl refl
  segment_next k (SendDuty.DataFin s) p = sent_next Occasion.Ack s _ p _ refl refl refl refl

  -- ---- other replies

  begun_next : (r : Reply) (p : PathState C) → Next p (join_begun r (replaced (Duty.Ask (AskDuty.Leave A)) p.agenda) (left p) p)
  begun_next r p = either (is_never r) p _ _
      (dies A (never_joined r p.a) _ p _ refl refl refl refl (put_leaves A p))
      (goes A (opened_by (keys_begun r) p.a) (left p) p _ (opened_up (keys_begun r) p.a) refl refl refl (keeps_left p))

  joined_next : (s : Side) (o : Option KeyPair) (asked : Option JoinSyn) (r : Reply) (p : PathState C) → Next p (join_taken s o asked r p)
  joined_next s (Some keys) (Some asked) r p =
      goes s (joined_by keys asked (end_at s p)) _ p _ (joined_up keys asked (end_at s p)) refl refl refl (keeps_put p (Duty.Send (SendDuty.SynAck s)) (λ t. refl))
  joined_next s None (Some asked) r p = calm s _ _ p _ refl refl refl refl (keeps_put p (Duty.Send (SendDuty.Refuse s)) (λ t. refl))
  joined_next s (Some keys) None r p = stay _ p _ refl refl refl (keeps_put p (Duty.Send (SendDuty.Refuse s)) (λ t. refl))
  joined_next s None None r p = stay _ p _ refl refl refl (keeps_put p (Duty.Send (SendDuty.Refuse s)) (λ t. refl))

  key_next : (s : Side) (o : Option ℕ) (r : Reply) (p : PathState C) → Next p (answered_peer_key s o r p)
  key_next s None r p = fell_next s _ r p _ refl refl refl refl
  key_next s (Some key) r p = calm s _ (left p) p _ refl refl refl refl (keeps_left p)

  keys_next : (s : Side) (o : Option KeyPair) (r : Reply) (p : PathState C) → Next p (answered_opened s o r p)
  keys_next s None r p = fell_next s _ r p _ refl refl refl refl
  keys_next s (Some keys) r p = calm s _ (left p) p _ refl refl refl refl (keeps_left p)

  piece_next : (s : Side) (o : Option Piece) (taken : Bool) (p : PathState C) → Next p (answered_piece s o taken p)
  piece_next s None taken p = calm s _ (breaks s 1) p _ refl refl refl refl (λ t is. absurd (false≢true is))
  piece_next s (Some piece) true p = calm s _ p.agenda p _ refl refl refl refl (λ t is. is)
  piece_next s (Some piece) false p = calm s _ (breaks s 1) p _ refl refl refl refl (λ t is. absurd (false≢true is))

  fin_next : (s : Side) (set : Bool) (p : PathState C) → Next p (answered_fin_heard s set p)
  fin_next s true p = calm s _ (left p) p _ refl refl refl refl (keeps_left p)
  fin_next s false p = calm s _ (breaks s 1) p _ refl refl refl refl (λ t is. absurd (false≢true is))

  plain_fin_next : (s : Side) (set : Bool) (p : PathState C) → Next p (answered_plain_fin s set p)
  plain_fin_next s true p = calm s _ (left p) p _ refl refl refl refl (keeps_left p)
  plain_fin_next s false p = calm s _ (breaks s 1) p _ refl refl refl refl (λ t is. absurd (false≢true is))

  -- where an end leaves it is told to be dead next
  leave_keeps : (s : Side) (ds : List Duty) (p : PathState C) → p.agenda ≡ Duty.Ask (AskDuty.Leave s) ∷ ds → Keeps p (replaced (Duty.Ask (AskDuty.Dead s)) p.agenda)
  leave_keeps s ds p first t is = ap (leaving t) first ∙ ap (λ (xs : List Duty). leaving t (replaced (Duty.Ask (AskDuty.Dead s)) xs)) (sym first) ∙ is

  pub answered_next : (k : Codec C) (d : Duty) (ds : List Duty) (r : Reply) (p : PathState C) → p.agenda ≡ d ∷ ds → (d ≡ Duty.Step StepDuty.Events → ⊥) → Next p (answered k d r p)
  answered_next k (Duty.Step StepDuty.Events) ds r p first other = absurd (other refl)
  answered_next k (Duty.Step (StepDuty.Look s)) ds r p first other =
      plain s (writes (Duty.Step (StepDuty.Look s))) (left p) p _ refl refl (writes_no_more k (Duty.Step (StepDuty.Look s)) r p) refl (keeps_left p)
  answered_next k (Duty.Step (StepDuty.Data s)) ds r p first other = data_next k s (first_unsent (end_at s p)) r p
  answered_next k (Duty.Step (StepDuty.Heard s index)) ds r p first other = item_next k s (item_of index (end_at s p)) r p
  answered_next k (Duty.Step (StepDuty.PlainAck s)) ds r p first other =
      either (breaks_by_ack p.profile (end_at s p)) p _ _ (break_next k s 6 r p) (fell_next s _ r p _ refl refl refl refl)
  answered_next k (Duty.Step (StepDuty.Unmapped s)) ds r p first other = break_next k s 6 r p
  answered_next k (Duty.Ask AskDuty.JoinAgain) ds r p first other = begun_next r p
  answered_next k (Duty.Ask (AskDuty.JoinHeard s)) ds r p first other = joined_next s (keys_begun r) (asked_at s p) r p
  answered_next k (Duty.Ask (AskDuty.PlainHandshake s)) ds r p first other = fell_next s _ r p _ refl refl refl refl
  answered_next k (Duty.Ask (AskDuty.PeerKey s)) ds r p first other = key_next s (key_heard (end_at s p).treated.items) r p
  answered_next k (Duty.Ask (AskDuty.Opened s)) ds r p first other = keys_next s (keys_heard (end_at s p).treated.items) r p
  answered_next k (Duty.Ask (AskDuty.AckHeard s)) ds r p first other = fell_next s _ r p _ refl refl refl refl
  answered_next k (Duty.Ask (AskDuty.FailHeard s)) ds r p first other =
      plain s (writes (Duty.Ask (AskDuty.FailHeard s))) (fell_duties s r p) p _ refl refl (writes_no_more k (Duty.Ask (AskDuty.FailHeard s)) r p) refl (keeps_fell s r p)
  answered_next k (Duty.Ask (AskDuty.PlainData s)) ds r p first other = fell_next s _ r p _ refl refl refl refl
  answered_next k (Duty.Ask (AskDuty.CheckFailed s)) ds r p first other =
      plain s (writes (Duty.Ask (AskDuty.CheckFailed s))) (fell_duties s r p) p _ refl refl (writes_no_more k (Duty.Ask (AskDuty.CheckFailed s)) r p) refl (keeps_fell s r p)
  answered_next k (Duty.Ask (AskDuty.Edge s)) ds r p first other = piece_next s (piece_of s p) (is_placed r) p
  answered_next k (Duty.Ask (AskDuty.HeardFin s index)) ds r p first other = fin_next s (is_fin_set r) p
  answered_next k (Duty.Ask (AskDuty.SubflowFin s)) ds r p first other = plain_fin_next s (is_fin_set r) p
  answered_next k (Duty.Ask (AskDuty.LeaveNoted s)) ds r p first other = dies s (died (end_at s p)) _ p _ refl refl refl refl (put_dead s p)
  answered_next k (Duty.Ask (AskDuty.Leave s)) ds r p first other = stay _ p _ refl refl refl (leave_keeps s ds p first)
  answered_next k (Duty.Ask (AskDuty.BreakAck s reason)) ds r p first other =
      calm s (after_ack_out r (end_at s p)) (resets s reason) p _ refl refl refl refl (λ t is. absurd (false≢true is))
  answered_next k (Duty.Send d) ds r p first other = segment_next k d p
  answered_next k (Duty.Silent d) ds r p first other = stay (left p) p _ refl refl refl (keeps_left p)
  answered_next k Duty.End ds r p first other = stay [] p _ refl refl refl (λ t is. absurd (false≢true is))
  answered_next k d ds r p first other = plain (side_of d) (writes d) (left p) p _ refl refl (writes_no_more k d r p) refl (keeps_left p)

  -- ---- what is passed

  pub passed_ups : (d : Duty) (p : PathState C) → Ups p (passed d p)
  passed_ups (Duty.Silent (SilentDuty.PassFin s)) p = side_ups s _ p _ (fin_up (is_fin_next (end_at s p).tcp) (end_at s p)) refl refl
  passed_ups (Duty.Step (StepDuty.Heard s index)) p = side_ups s _ p _ (item_up s (item_of index (end_at s p)) (end_at s p)) refl refl
  passed_ups (Duty.Step (StepDuty.PlainAck s)) p = side_ups s _ p _ (λ up. up) refl refl
  passed_ups (Duty.Step (StepDuty.Unmapped s)) p = side_ups s _ p _ (λ up. up) refl refl
  passed_ups (Duty.Step (StepDuty.Data s)) p = record { a = λ up. up; b = λ up. up }
  passed_ups (Duty.Ask AskDuty.JoinAgain) p = record { a = λ up. up; b = λ up. up }
  passed_ups (Duty.Ask (AskDuty.JoinHeard s)) p = record { a = λ up. up; b = λ up. up }
  passed_ups (Duty.Ask (AskDuty.LeaveNoted s)) p = record { a = λ up. up; b = λ up. up }
  passed_ups (Duty.Step StepDuty.Events) p = record { a = λ up. up; b = λ up. up }
  passed_ups (Duty.Send d) p = record { a = λ up. up; b = λ up. up }
  passed_ups d p = plain_ups (side_of d) (writes d) p (passed d p) refl refl (passes_no_more d p)

  pub ups_last : Lasts (λ (p q : PathState C). Ups p q)
  ups_last = record {
    agenda = λ ds p. record { a = λ up. up; b = λ up. up };
    chains = λ p q r x y. record { a = λ up. x.a (y.a up); b = λ up. x.b (y.b up) };
    passes = λ d p. passed_ups d p;
  }

  -- what is left of what is passed
  pub settled_leaving : (t : Side) (ds : List Duty) (p : PathState C) → leaving t (settled ds p).agenda ≡ true → leaving t ds ≡ true
  settled_leaving t [] p is = is
  settled_leaving t (d ∷ ds) p is = by (stands d p) (settled_leaving t ds (passed d p)) is
    where
      by : (b : Bool) → (leaving t (settled ds (passed d p)).agenda ≡ true → leaving t ds ≡ true) → leaving t (if b then with_agenda (d ∷ ds) p else settled ds (passed d p)).agenda ≡ true → leaving t (d ∷ ds) ≡ true
      by true rest now = now
      by false rest now = or_right (is_leaving t d) (leaving t ds) (rest now)
