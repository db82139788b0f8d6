-- Each reply to path 0, and each round, keeps that A's side has B's key, or is past being sure, where B answered.
use Rattle.world_laws.proofs.Words.{◌≡◌, refl, sym, ◌∙◌, ap, subst, ℕ, ◌&&◌, not, nat_lt, inl, inr, Bool, true, false, if◌then◌else◌, Option, Some, None, List}
use Rattle.world_laws.proofs.Words.{[], ◌∷◌, is_some, and_parts, both_ways, false≢true, or_left, not-true, FallEvent, is_starting, Side, A, B, JoinSyn}
use Rattle.world_laws.proofs.Words.{ControlCall, ControlReply, SendCall, Record, after_sending, EndState, EndPhase, Occasion, after_syn, unkept, PlainSegment}
use Rattle.world_laws.proofs.Words.{Piece, leaves, resets, stops, start_of_turn, Duty, SendDuty, StepDuty, AskDuty, Heard, KeyPair, replaced, key_heard}
use Rattle.world_laws.proofs.Words.{keys_heard, Ask, Reply, tail_of, ask_for, answered, PathEnd, died, answered_ack_out, after_look, after_ack_out, PathState}
use Rattle.world_laws.proofs.Words.{end_at, goes_on, with_agenda, left, path_of, settled, answers, asks_of, asks_first, takes, begins_turn, Carried, values}
use Rattle.world_laws.proofs.Words.{reset_of, reset_on, answered_break, refusal_of, break_ask, answered_data, answered_grant, first_unsent, grant_in}
use Rattle.world_laws.proofs.Words.{answer_occasion, answer_of, dead_answer, resend_occasion, resend_of, next_event, asked_at, is_listening, join_taken}
use Rattle.world_laws.proofs.Words.{joined_by, keys_begun, syn_of_window, with_mode_refused, join_heard_ask, piece_of, is_placed, answered_piece, fin_segment_of}
use Rattle.world_laws.proofs.Words.{having_sent_fin, answered_plain_fin, answered_fin_heard, is_fin_set, is_clash, with_learned, with_data_fin, with_acked}
use Rattle.world_laws.proofs.Words.{heard_ask, item_ask, answered_heard, answered_item, item_of, fell_ask, after_fell, fell_duties, plain_ack_ask}
use Rattle.world_laws.proofs.Words.{answered_plain_ack, with_plain_ack, breaks_by_ack, may_go_infinite, book_answered, answered_fell, with_infinite, fell_in}
use Rattle.world_laws.proofs.Words.{in_identity, after_keys, peer_key_ask, opened_ask, answered_peer_key, answered_opened, with_peer_key, keys_in}
use Rattle.world_laws.proofs.Words.{is_stopped_by, after_peer_notice, having_sent, sent_on, Modes, if_so}
use Rattle.path_agenda.specs.Agenda.{breaks}
use Rattle.path_core.specs.Emission.{Grant}
use Rattle.path_core.specs.DssIn.{is_acked}
use Rattle.world_laws.proofs.Falls.FailedChecks.{check_failed_so, checked_so, fail_heard_so, failed_so, infinite_came_so, infinite_so}
use Rattle.world_laws.proofs.Falls.Verdicts.{fell_cases}
use Rattle.world_laws.proofs.Keys.AnswerHeardFirst.{is_met, finish_met, is_key_duty, is_calm, is_sign_duty, signs, Fewer, same_duties, tail_fewer, replaced_fewer, new_duties}
use Rattle.world_laws.proofs.Keys.LearnedByA.{settles_met, settled_met, agenda_met, own_agenda, died_goes, event_met, begun_met, goes_met, sent_met, same_goes, told_goes, state_goes, known_met, look_mode, fell_mode, refused_mode, CalmMet, PathMet, Keying, Gains, Goes, OfA}

module _ (T : Type 0) where
  -- ---- replies

  reset_met : (s : Side) (reason : Option ℕ) (ds : List Duty) (p : PathState Carried) → Fewer p.agenda ds → CalmMet T p → CalmMet T (reset_on values s reason ds p)
  reset_met s reason ds p fewer h = sent_met T s (reset_of s reason p) (died (end_at s p)) ds p (died_goes T s p) fewer h

  -- B's and A's own templates
  leaves_fewer : (s : Side) (ds : List Duty) → Fewer ds (leaves s)
  leaves_fewer = elim [ A ↦ λ ds. new_duties ds (leaves A) refl refl | B ↦ λ ds. new_duties ds (leaves B) refl refl ]

  resets_fewer : (s : Side) (reason : ℕ) (ds : List Duty) → Fewer ds (resets s reason)
  resets_fewer A reason ds = new_duties ds (resets A reason) refl refl
  resets_fewer B reason ds = new_duties ds (resets B reason) refl refl

  breaks_fewer : (s : Side) (reason : ℕ) (ds : List Duty) → Fewer ds (breaks s reason)
  breaks_fewer A reason ds = new_duties ds (breaks A reason) refl refl
  breaks_fewer B reason ds = new_duties ds (breaks B reason) refl refl

  -- one duty in the place of the first, which is none that is spoken of
  other_fewer : (d : Duty) (ds : List Duty) → is_key_duty d ≡ false → is_sign_duty d ≡ false → Fewer ds (replaced d ds)
  other_fewer d ds key sign = replaced_fewer d ds key (λ is. absurd (both_ways _ sign is))

  falls_fewer : (s : Side) (ds : List Duty) → Fewer ds (replaced (Duty.Ask (AskDuty.GoIdentity s)) ds)
  falls_fewer A ds = other_fewer (Duty.Ask (AskDuty.GoIdentity A)) ds refl refl
  falls_fewer B ds = other_fewer (Duty.Ask (AskDuty.GoIdentity B)) ds refl refl

  fails_fewer : (s : Side) (ds : List Duty) → Fewer ds (replaced (Duty.Ask (AskDuty.FailHeard s)) ds)
  fails_fewer A ds = other_fewer (Duty.Ask (AskDuty.FailHeard A)) ds refl refl
  fails_fewer B ds = other_fewer (Duty.Ask (AskDuty.FailHeard B)) ds refl refl

  leave_fewer : (s : Side) (ds : List Duty) → Fewer ds (replaced (Duty.Ask (AskDuty.Leave s)) ds)
  leave_fewer A ds = other_fewer (Duty.Ask (AskDuty.Leave A)) ds refl refl
  leave_fewer B ds = other_fewer (Duty.Ask (AskDuty.Leave B)) ds refl refl

  fell_fewer : (s : Side) (r : Reply) (p : PathState Carried) → Fewer p.agenda (fell_duties s r p)
  fell_fewer s r p =
      fell_cases (λ ds. Fewer p.agenda ds) s p r (λ fell. falls_fewer s p.agenda) (λ reason. breaks_fewer s reason p.agenda) (λ reason. resets_fewer s reason p.agenda) (tail_fewer p.agenda)

  -- the end as it is, as far as it is spoken of here
  same_met : (s : Side) (e : PathEnd) (ds : List Duty) (p : PathState Carried) → e.tcp.state ≡ (end_at s p).tcp.state → e.modes.mode ≡ (end_at s p).modes.mode → Fewer p.agenda ds → CalmMet T p
      → CalmMet T (goes_on s e ds p)
  same_met s e ds p state mode fewer h = goes_met T s e ds p (same_goes T s e p state mode) fewer h

  same_sent_met : (s : Side) (sg : PlainSegment) (e : PathEnd) (ds : List Duty) (p : PathState Carried) → e.tcp.state ≡ (end_at s p).tcp.state → e.modes.mode ≡ (end_at s p).modes.mode
      → Fewer p.agenda ds → CalmMet T p → CalmMet T (sent_on values s sg e ds p)
  same_sent_met s sg e ds p state mode fewer h = sent_met T s sg e ds p (same_goes T s e p state mode) fewer h

  -- what a verdict tells
  fell_goes : (s : Side) (event : FallEvent) (call : ControlCall) (r : Reply) (e : PathEnd) (p : PathState Carried) → e.tcp.state ≡ (end_at s p).tcp.state
      → e.modes.mode ≡ (fell_in event r (end_at s p).modes).mode → Gains T (Ask.Control s call) r → Goes T s p e
  fell_goes A event call r e p state mode gains = told_goes T A e p state (λ is. fell_mode T event r p.a.modes gains.0 (ap is_starting (sym mode) ∙ is))
  fell_goes B event call r e p state mode gains = tt

  verdict_met : (s : Side) (event : FallEvent) (r : Reply) (e : PathEnd) (p : PathState Carried) → e.tcp.state ≡ (end_at s p).tcp.state
      → e.modes.mode ≡ (fell_in event r (end_at s p).modes).mode → Gains T (fell_ask s event p) r → CalmMet T p → CalmMet T (goes_on s e (fell_duties s r p) p)
  verdict_met s event r e p state mode gains h =
      goes_met T s e (fell_duties s r p) p (fell_goes s event (ControlCall.Fell (path_of p) event) r e p state mode gains) (fell_fewer s r p) h

  told_met : (s : Side) (event : FallEvent) (r : Reply) (p : PathState Carried) → Gains T (fell_ask s event p) r → CalmMet T p → CalmMet T (answered_fell s event r p)
  told_met s event r p gains h = verdict_met s event r (after_fell event r (end_at s p)) p refl refl gains h

  break_met : (s : Side) (reason : ℕ) (r : Reply) (p : PathState Carried) → CalmMet T p → CalmMet T (answered_break values s reason r p)
  break_met s reason r p h =
      if_so (CalmMet T) (end_at s p).treated.asked (answered_ack_out s r (resets s reason) p) (reset_on values s (Some reason) (leaves s) p)
      (same_met s (after_ack_out r (end_at s p)) (resets s reason) p refl refl (resets_fewer s reason p.agenda) h) (reset_met s (Some reason) (leaves s) p (leaves_fewer s p.agenda) h)

  grant_met : (s : Side) (o : Option Grant) (r : Reply) (p : PathState Carried) → CalmMet T p → CalmMet T (answered_grant s o r p)
  grant_met s None r p h = same_met s _ (left p) p refl refl (tail_fewer p.agenda) h
  grant_met s (Some grant) r p h = same_met s _ p.agenda p refl refl (same_duties p.agenda) h

  data_met : (s : Side) (o : Option Record) (r : Reply) (p : PathState Carried) → CalmMet T p → CalmMet T (answered_data values s o r p)
  data_met s (Some unsent) r p h = same_sent_met s _ _ p.agenda p refl refl (same_duties p.agenda) h
  data_met s None r p h = grant_met s (grant_in r) r p h

  -- keys that the book noted
  keys_mode : (r : Reply) (o : Option KeyPair) (m : Modes) → (keys_in r o m).mode ≡ m.mode
  keys_mode (Reply.Control ControlReply.Noted) (Some keys) m = refl
  keys_mode (Reply.Control ControlReply.Noted) None m = refl
  keys_mode _ o m = refl

  keys_met : (s : Side) (r : Reply) (o : Option KeyPair) (p : PathState Carried) → CalmMet T p → CalmMet T (goes_on s (after_keys r o (end_at s p)) (left p) p)
  keys_met s r o p h = same_met s (after_keys r o (end_at s p)) (left p) p refl (keys_mode r o (end_at s p).modes) (tail_fewer p.agenda) h

  -- A's agenda has a sign
  abbrev is_signed : Side → PathState Carried → Type 0
  is_signed s p = OfA T s (signs p.agenda ≡ true)

  heard_answered_met : (s : Side) (item : Heard) (r : Reply) (p : PathState Carried) → Gains T (heard_ask values s item p) r → is_signed s p → CalmMet T p → CalmMet T (answered_heard values s item r p)
  heard_answered_met s (Heard.DataAck next window) r p gains sign h =
      elim (is_acked r && nat_lt 0 next) as (λ b. CalmMet T (goes_on s (with_acked next r (end_at s p)) (if b then replaced (Duty.Ask (AskDuty.AckHeard s)) p.agenda else left p) p)) [
        | true ↦ same_met s (with_acked next r (end_at s p)) (replaced (Duty.Ask (AskDuty.AckHeard s)) p.agenda) p refl refl (told s sign) h
        | false ↦ same_met s (with_acked next r (end_at s p)) (left p) p refl refl (tail_fewer p.agenda) h
      ]
    where
      told : (s : Side) → is_signed s p → Fewer p.agenda (replaced (Duty.Ask (AskDuty.AckHeard s)) p.agenda)
      told A sign = replaced_fewer (Duty.Ask (AskDuty.AckHeard A)) p.agenda refl (λ is. sign)
      told B sign = replaced_fewer (Duty.Ask (AskDuty.AckHeard B)) p.agenda refl (λ is. absurd (false≢true is))
  heard_answered_met s (Heard.Mapping fin) r p gains sign h = by (is_clash (end_at s p)) gains
    where
      by : (b : Bool) → Gains T (if b then break_ask values s 1 p else fell_ask s FallEvent.MappingHeard p) r
          → CalmMet T (if b then answered_break values s 1 r p else goes_on s (with_learned (after_fell FallEvent.MappingHeard r (end_at s p))) (fell_duties s r p) p)
      by true gains = break_met s 1 r p h
      by false gains = verdict_met s FallEvent.MappingHeard r (with_learned (after_fell FallEvent.MappingHeard r (end_at s p))) p refl refl gains h
  heard_answered_met s (Heard.DataFin place) r p gains sign h = verdict_met s FallEvent.MappingHeard r (with_data_fin place (after_fell FallEvent.MappingHeard r (end_at s p))) p refl refl gains h
  heard_answered_met s (Heard.InfiniteMapping place position) r p gains sign h =
      infinite_came_so (λ e. CalmMet T (goes_on s e (fell_duties s r p) p)) place position r (end_at s p)
      (λ other. verdict_met s FallEvent.InfiniteHeard r (infinite_so r other (end_at s p)) p refl refl gains h)
  heard_answered_met s (Heard.Keys mine other) r p gains sign h = keys_met s r (Some (record { own = mine; peer = other })) p h
  heard_answered_met s Heard.Dss r p gains sign h = agenda_met T (left p) p (tail_fewer p.agenda) h
  heard_answered_met s (Heard.PeerKey key) r p gains sign h = agenda_met T (left p) p (tail_fewer p.agenda) h
  heard_answered_met s (Heard.Join form) r p gains sign h = agenda_met T (left p) p (tail_fewer p.agenda) h
  heard_answered_met s (Heard.Notice notice) r p gains sign h = same_met s (after_peer_notice notice r (end_at s p)) (left p) p refl refl (tail_fewer p.agenda) h
  heard_answered_met s Heard.Fail r p gains sign h = by (may_go_infinite (end_at s p)) gains
    where
      by : (b : Bool) → Gains T (if b then Ask.Send s (SendCall.GoInfinite (path_of p)) else fell_ask s (FallEvent.FailHeard false) p) r
          → CalmMet T (if b then book_answered s r p else answered_fell s (FallEvent.FailHeard false) r p)
      by true gains = same_met s (with_infinite r (end_at s p)) (replaced (Duty.Ask (AskDuty.FailHeard s)) p.agenda) p refl refl (fails_fewer s p.agenda) h
      by false gains = told_met s (FallEvent.FailHeard false) r p gains h
  heard_answered_met s (Heard.FastClose key) r p gains sign h = elim (is_stopped_by r) as (λ b. CalmMet T (with_agenda (if b then stops s else left p) p))
      [ true ↦ agenda_met T (stops s) p (fewer s) h | false ↦ agenda_met T (left p) p (tail_fewer p.agenda) h ]
    where
      fewer : (s : Side) → Fewer p.agenda (stops s)
      fewer = elim [ A ↦ new_duties p.agenda (stops A) refl refl | B ↦ new_duties p.agenda (stops B) refl refl ]

  item_answered_met : (s : Side) (o : Option Heard) (r : Reply) (p : PathState Carried) → Gains T (item_ask values s o p) r → is_signed s p → CalmMet T p → CalmMet T (answered_item values s o r p)
  item_answered_met s None r p gains sign h = agenda_met T (left p) p (tail_fewer p.agenda) h
  item_answered_met s (Some item) r p gains sign h = heard_answered_met s item r p gains sign h

  plain_ack_met : (s : Side) (r : Reply) (p : PathState Carried) → Gains T (plain_ack_ask values s p) r → CalmMet T p → CalmMet T (answered_plain_ack values s r p)
  plain_ack_met s r p gains h = by (breaks_by_ack p.profile (end_at s p)) gains
    where
      by : (b : Bool) → Gains T (if b then break_ask values s 6 p else fell_ask s FallEvent.PlainAck p) r
          → CalmMet T (if b then answered_break values s 6 r p else goes_on s (with_plain_ack (after_fell FallEvent.PlainAck r (end_at s p))) (fell_duties s r p) p)
      by true gains = break_met s 6 r p h
      by false gains = verdict_met s FallEvent.PlainAck r (with_plain_ack (after_fell FallEvent.PlainAck r (end_at s p))) p refl refl gains h

  opened_met : (s : Side) (o : Option KeyPair) (r : Reply) (p : PathState Carried) → Gains T (opened_ask s o p) r → CalmMet T p → CalmMet T (answered_opened s o r p)
  opened_met s None r p gains h = told_met s FallEvent.PlainHandshake r p gains h
  opened_met s (Some keys) r p gains h = keys_met s r (Some keys) p h

  refused_met : (s : Side) (e : PathEnd) (p : PathState Carried) → e.tcp.state ≡ (end_at s p).tcp.state → e.modes.mode ≡ (end_at s p).modes.mode → CalmMet T p → CalmMet T (goes_on s e (breaks s 1) p)
  refused_met s e p state mode h = same_met s e (breaks s 1) p state mode (breaks_fewer s 1 p.agenda) h

  piece_met : (s : Side) (o : Option Piece) (taken : Bool) (p : PathState Carried) → CalmMet T p → CalmMet T (answered_piece s o taken p)
  piece_met s None taken p h = refused_met s _ p refl refl h
  piece_met s (Some piece) true p h = same_met s _ p.agenda p refl refl (same_duties p.agenda) h
  piece_met s (Some piece) false p h = refused_met s _ p refl refl h

  fin_set_met : (s : Side) (set : Bool) (p : PathState Carried) → CalmMet T p → CalmMet T (answered_fin_heard s set p)
  fin_set_met s true p h = same_met s _ (left p) p refl refl (tail_fewer p.agenda) h
  fin_set_met s false p h = refused_met s _ p refl refl h

  plain_fin_met : (s : Side) (set : Bool) (p : PathState Carried) → CalmMet T p → CalmMet T (answered_plain_fin s set p)
  plain_fin_met s true p h = same_met s _ (left p) p refl refl (tail_fewer p.agenda) h
  plain_fin_met s false p h = refused_met s _ p refl refl h

  -- a join is heard of
  refuse_met : (s : Side) (p : PathState Carried) → CalmMet T p → CalmMet T (with_agenda (replaced (Duty.Send (SendDuty.Refuse s)) p.agenda) p)
  refuse_met A p h = agenda_met T (replaced (Duty.Send (SendDuty.Refuse A)) p.agenda) p (other_fewer (Duty.Send (SendDuty.Refuse A)) p.agenda refl refl) h
  refuse_met B p h = agenda_met T (replaced (Duty.Send (SendDuty.Refuse B)) p.agenda) p (other_fewer (Duty.Send (SendDuty.Refuse B)) p.agenda refl refl) h

  joined_met : (s : Side) (o : Option KeyPair) (asked : Option JoinSyn) (r : Reply) (p : PathState Carried) → Gains T (join_heard_ask s asked p) r → CalmMet T p → CalmMet T (join_taken s o asked r p)
  joined_met A None (Some asked) r p gains h =
      goes_met T A (with_mode_refused r p.a) (replaced (Duty.Send (SendDuty.Refuse A)) p.agenda) p (told_goes T A (with_mode_refused r p.a) p refl (λ is. refused_mode T r p.a.modes.mode gains.0 is))
      (other_fewer (Duty.Send (SendDuty.Refuse A)) p.agenda refl refl) h
  joined_met B None (Some asked) r p gains h = goes_met T B (with_mode_refused r p.b) (replaced (Duty.Send (SendDuty.Refuse B)) p.agenda) p tt (other_fewer (Duty.Send (SendDuty.Refuse B)) p.agenda refl refl) h
  joined_met s None None r p gains h = refuse_met s p h
  joined_met s (Some keys) None r p gains h = refuse_met s p h
  joined_met A (Some keys) (Some asked) r p gains h =
      goes_met T A (joined_by keys asked p.a) (replaced (Duty.Send (SendDuty.SynAck A)) p.agenda) p (state_goes T A (joined_by keys asked p.a) p (listens (is_listening p.a.tcp.state) refl) refl)
      (other_fewer (Duty.Send (SendDuty.SynAck A)) p.agenda refl refl) h
    where
      listening : (state : EndPhase) → is_listening state ≡ true → is_met state ≡ true
      listening EndPhase.Listen is = refl
      listening EndPhase.Waiting is = absurd (false≢true is)
      listening _ is = absurd (false≢true is)

      listens : (b : Bool) → is_listening p.a.tcp.state ≡ b → is_met (if b then after_syn (unkept None) (syn_of_window p.a.treated.window) p.a.tcp else p.a.tcp).state ≡ true → is_met p.a.tcp.state ≡ true
      listens = elim [ true ↦ λ is met. listening p.a.tcp.state is | false ↦ λ is met. met ]
  joined_met B (Some keys) (Some asked) r p gains h =
      goes_met T B (joined_by keys asked p.b) (replaced (Duty.Send (SendDuty.SynAck B)) p.agenda) p tt (other_fewer (Duty.Send (SendDuty.SynAck B)) p.agenda refl refl) h

  occasion_goes : (s : Side) (o : Occasion) (sg : PlainSegment) (p : PathState Carried) → Goes T s p (having_sent o p.clock sg (end_at s p))
  occasion_goes s o sg p = same_goes T s (having_sent o p.clock sg (end_at s p)) p (same o) refl
    where
      tcp : EndState
      tcp = (end_at s p).tcp

      same : (o : Occasion) → (after_sending o p.clock tcp).state ≡ tcp.state
      same = elim [ Occasion.Reset ↦ refl | _ ↦ refl ]

  look_goes : (s : Side) (r : Reply) (p : PathState Carried) → Gains T (Ask.Control s (ControlCall.Look (path_of p))) r → Goes T s p (after_look r (end_at s p))
  look_goes A r p gains = told_goes T A (after_look r p.a) p refl (λ is. look_mode T r p.a.modes gains.0 is)
  look_goes B r p gains = tt

  -- a duty that isn't to learn the key
  answered_met : (d : Duty) (r : Reply) (p : PathState Carried) → is_key_duty d ≡ false → (is_sign_duty d ≡ true → signs p.agenda ≡ true) → Gains T (ask_for values d p) r
      → CalmMet T p → PathMet T (answered values d r p)
  answered_met (Duty.Ask AskDuty.JoinAgain) r p none sign gains h =
      inl (begun_met T r (replaced (Duty.Ask (AskDuty.Leave A)) p.agenda) (left p) p gains.0 (other_fewer (Duty.Ask (AskDuty.Leave A)) p.agenda refl refl) (tail_fewer p.agenda) h)
  answered_met (Duty.Step (StepDuty.Look s)) r p none sign gains h = inl (goes_met T s (after_look r (end_at s p)) (left p) p (look_goes s r p gains) (tail_fewer p.agenda) h)
  answered_met (Duty.Ask (AskDuty.Window s)) r p none sign gains h = inl (same_met s (after_ack_out r (end_at s p)) (left p) p refl refl (tail_fewer p.agenda) h)
  answered_met (Duty.Send (SendDuty.Update s)) r p none sign gains h = inl (same_sent_met s _ _ (left p) p refl refl (tail_fewer p.agenda) h)
  answered_met (Duty.Send (SendDuty.FastClose s)) r p none sign gains h = inl (same_sent_met s _ _ (left p) p refl refl (tail_fewer p.agenda) h)
  answered_met (Duty.Send (SendDuty.Notice s)) r p none sign gains h = inl (same_sent_met s _ _ p.agenda p refl refl (same_duties p.agenda) h)
  answered_met (Duty.Send (SendDuty.Syn s)) r p none sign gains h = inl (same_sent_met s _ _ (left p) p refl refl (tail_fewer p.agenda) h)
  answered_met (Duty.Step (StepDuty.Data s)) r p none sign gains h = inl (data_met s (first_unsent (end_at s p)) r p h)
  answered_met (Duty.Send (SendDuty.DataFin s)) r p none sign gains h = inl (same_sent_met s _ _ (left p) p refl refl (tail_fewer p.agenda) h)
  answered_met (Duty.Send (SendDuty.Fin s)) r p none sign gains h =
      inl (sent_met T s (fin_segment_of s p) (having_sent_fin s p) (left p) p (state_goes T s (having_sent_fin s p) p (λ met. sym (finish_met (end_at s p).tcp.state) ∙ met) refl) (tail_fewer p.agenda) h)
  answered_met (Duty.Step StepDuty.Events) r p none sign gains h = event_met T (next_event p) r p gains h
  answered_met (Duty.Ask (AskDuty.PlainHandshake s)) r p none sign gains h = inl (told_met s FallEvent.PlainHandshake r p gains h)
  answered_met (Duty.Ask (AskDuty.PeerKey A)) r p none sign gains h = absurd (false≢true (sym none))
  answered_met (Duty.Ask (AskDuty.PeerKey B)) r p none sign gains h = inl (b_key (key_heard p.b.treated.items))
    where
      b_key : (o : Option ℕ) → CalmMet T (answered_peer_key B o r p)
      b_key None = goes_met T B (after_fell FallEvent.PlainHandshake r p.b) (fell_duties B r p) p tt (fell_fewer B r p) h
      b_key (Some key) = goes_met T B (with_peer_key (Some key) p.b) (left p) p tt (tail_fewer p.agenda) h
  answered_met (Duty.Ask (AskDuty.SynAnswered A)) r p none sign gains h = absurd (false≢true (sym none))
  answered_met (Duty.Ask (AskDuty.SynAnswered B)) r p none sign gains h = inl (agenda_met T (left p) p (tail_fewer p.agenda) h)
  answered_met (Duty.Send (SendDuty.SynAck s)) r p none sign gains h = inl (same_sent_met s _ _ (left p) p refl refl (tail_fewer p.agenda) h)
  answered_met (Duty.Ask (AskDuty.JoinHeard s)) r p none sign gains h = inl (joined_met s (keys_begun r) (asked_at s p) r p gains h)
  answered_met (Duty.Send (SendDuty.Refuse s)) r p none sign gains h = inl (same_sent_met s (refusal_of s p) (end_at s p) (left p) p refl refl (tail_fewer p.agenda) h)
  answered_met (Duty.Ask (AskDuty.Opened s)) r p none sign gains h = inl (opened_met s (keys_heard (end_at s p).treated.items) r p gains h)
  answered_met (Duty.Step (StepDuty.Heard s index)) r p none sign gains h = inl (item_answered_met s (item_of index (end_at s p)) r p gains (by s sign) h)
    where
      by : (s : Side) → (is_sign_duty (Duty.Step (StepDuty.Heard s index)) ≡ true → signs p.agenda ≡ true) → is_signed s p
      by = elim [ A ↦ λ sign. sign refl | B ↦ λ sign. tt ]
  answered_met (Duty.Ask (AskDuty.AckHeard s)) r p none sign gains h = inl (told_met s FallEvent.AckHeard r p gains h)
  answered_met (Duty.Ask (AskDuty.FailHeard s)) r p none sign gains h =
      inl (fail_heard_so (λ e. CalmMet T (goes_on s e (fell_duties s r p) p)) r (end_at s p)
      (λ own owes. verdict_met s (FallEvent.FailHeard (is_some (end_at s p).treated.infinite_mapping)) r (failed_so r own owes (end_at s p)) p refl refl gains h))
  answered_met (Duty.Step (StepDuty.PlainAck s)) r p none sign gains h = inl (plain_ack_met s r p gains h)
  answered_met (Duty.Ask (AskDuty.SubflowAck s)) r p none sign gains h = inl (same_met s _ (left p) p refl refl (tail_fewer p.agenda) h)
  answered_met (Duty.Ask (AskDuty.PlainData s)) r p none sign gains h = inl (told_met s FallEvent.PlainData r p gains h)
  answered_met (Duty.Ask (AskDuty.GoIdentity s)) r p none sign gains h = inl (same_met s (in_identity (end_at s p)) (left p) p refl refl (tail_fewer p.agenda) h)
  answered_met (Duty.Step (StepDuty.Unmapped s)) r p none sign gains h = inl (break_met s 6 r p h)
  answered_met (Duty.Ask (AskDuty.SubflowFin s)) r p none sign gains h = inl (plain_fin_met s (is_fin_set r) p h)
  answered_met (Duty.Ask (AskDuty.Edge s)) r p none sign gains h = inl (piece_met s (piece_of s p) (is_placed r) p h)
  answered_met (Duty.Ask (AskDuty.CheckFailed s)) r p none sign gains h =
      inl (check_failed_so (λ e. CalmMet T (goes_on s e (fell_duties s r p) p)) p.profile.spelling.checksums r (end_at s p)
      (λ told broken recv forgets. verdict_met s FallEvent.CheckFailed r (checked_so r told broken recv (end_at s p)) p refl refl gains h))
  answered_met (Duty.Ask (AskDuty.HeardFin s index)) r p none sign gains h = inl (fin_set_met s (is_fin_set r) p h)
  answered_met (Duty.Ask (AskDuty.AckOut s)) r p none sign gains h = inl (same_met s (after_ack_out r (end_at s p)) (left p) p refl refl (tail_fewer p.agenda) h)
  answered_met (Duty.Ask (AskDuty.Rate s)) r p none sign gains h = inl (same_met s _ (left p) p refl refl (tail_fewer p.agenda) h)
  answered_met (Duty.Send (SendDuty.Acknowledge s)) r p none sign gains h = inl (same_sent_met s _ _ (left p) p refl refl (tail_fewer p.agenda) h)
  answered_met (Duty.Send (SendDuty.Again s)) r p none sign gains h = inl (same_sent_met s _ _ (left p) p refl refl (tail_fewer p.agenda) h)
  answered_met (Duty.Send (SendDuty.Answer s)) r p none sign gains h =
      inl (sent_met T s (answer_of s p) _ (left p) p (occasion_goes s (answer_occasion (end_at s p)) (answer_of s p) p) (tail_fewer p.agenda) h)
  answered_met (Duty.Send (SendDuty.ResetAnswer s)) r p none sign gains h = inl (same_sent_met s (dead_answer s p) (end_at s p) (left p) p refl refl (tail_fewer p.agenda) h)
  answered_met (Duty.Send (SendDuty.Resend s)) r p none sign gains h =
      inl (sent_met T s (resend_of s p) _ (left p) p (occasion_goes s (resend_occasion (end_at s p)) (resend_of s p) p) (tail_fewer p.agenda) h)
  answered_met (Duty.Ask (AskDuty.BreakAck s reason)) r p none sign gains h = inl (same_met s (after_ack_out r (end_at s p)) (resets s reason) p refl refl (resets_fewer s reason p.agenda) h)
  answered_met (Duty.Send (SendDuty.BreakReset s reason)) r p none sign gains h = inl (reset_met s (Some reason) (leaves s) p (leaves_fewer s p.agenda) h)
  answered_met (Duty.Send (SendDuty.Reset s)) r p none sign gains h = inl (reset_met s None (replaced (Duty.Ask (AskDuty.Leave s)) p.agenda) p (leave_fewer s p.agenda) h)
  answered_met (Duty.Send (SendDuty.ResetNoted s)) r p none sign gains h = inl (reset_met s None (replaced (Duty.Ask (AskDuty.Leave s)) p.agenda) p (leave_fewer s p.agenda) h)
  answered_met (Duty.Ask (AskDuty.Leave s)) r p none sign gains h = inl (agenda_met T (replaced (Duty.Ask (AskDuty.Dead s)) p.agenda) p (by s) h)
    where
      by : (s : Side) → Fewer p.agenda (replaced (Duty.Ask (AskDuty.Dead s)) p.agenda)
      by A = other_fewer (Duty.Ask (AskDuty.Dead A)) p.agenda refl refl
      by B = other_fewer (Duty.Ask (AskDuty.Dead B)) p.agenda refl refl
  answered_met (Duty.Ask (AskDuty.LeaveNoted s)) r p none sign gains h =
      inl (goes_met T s (died (end_at s p)) (replaced (Duty.Ask (AskDuty.Dead s)) p.agenda) p (died_goes T s p) (by s) h)
    where
      by : (s : Side) → Fewer p.agenda (replaced (Duty.Ask (AskDuty.Dead s)) p.agenda)
      by A = other_fewer (Duty.Ask (AskDuty.Dead A)) p.agenda refl refl
      by B = other_fewer (Duty.Ask (AskDuty.Dead B)) p.agenda refl refl
  answered_met Duty.End r p none sign gains h = inl (agenda_met T [] p (new_duties p.agenda [] refl refl) h)
  answered_met _ r p none sign gains h = inl (agenda_met T (left p) p (tail_fewer p.agenda) h)

  -- A learns the key, or that there is none
  learns_met : (r : Reply) (p : PathState Carried) → (h : Keying T p) → ((x : Ask) → asks_of values p ≡ Some x → Gains T x r) → PathMet T (takes values r p)
  learns_met r p h gains = by h.begins h.agenda_is
    where
      calm_tail : p.agenda ≡ Duty.Ask (AskDuty.PeerKey A) ∷ h.rest → is_calm (left p) ≡ true
      calm_tail same = ap (λ ds. is_calm (tail_of ds)) same ∙ h.calm

      fallen : (o : Option ℕ) → p.agenda ≡ Duty.Ask (AskDuty.PeerKey A) ∷ h.rest → T → CalmMet T (answered_peer_key A o r p)
      fallen (Some key) same known = known_met T (goes_on A (with_peer_key (Some key) p.a) (left p) p) h.first (calm_tail same) known
      fallen None same known =
          known_met T (answered_fell A FallEvent.PlainHandshake r p) h.first
          (fell_cases (λ ds. is_calm ds ≡ true) A p r (λ fell. ap (λ ds. is_calm (replaced (Duty.Ask (AskDuty.GoIdentity A)) ds)) same ∙ h.calm) (λ reason. refl) (λ reason. refl) (calm_tail same)) known

      told : (o : Option ℕ) → Gains T (peer_key_ask A o p) r → T
      told = elim [ None ↦ λ gain. gain.1 | Some key ↦ λ gain. gain.1 ]

      by : (begins : Bool) → p.agenda ≡ (if begins then Duty.Ask (AskDuty.SynAnswered A) ∷ Duty.Ask (AskDuty.PeerKey A) ∷ h.rest else Duty.Ask (AskDuty.PeerKey A) ∷ h.rest) → PathMet T (takes values r p)
      by true same =
          subst (λ ds. PathMet T (settled (answers values ds r p).agenda (answers values ds r p))) (sym same)
          (settles_met T (with_agenda (left p) p) (inr (record { first = h.first; begins = false; rest = h.rest; agenda_is = ap tail_of same; calm = h.calm; mode = h.mode })))
      by false same =
          subst (λ ds. PathMet T (settled (answers values ds r p).agenda (answers values ds r p))) (sym same)
          (settles_met T (answered_peer_key A (key_heard p.a.treated.items) r p)
          (inl (fallen (key_heard p.a.treated.items) same
          (told (key_heard p.a.treated.items) (gains (peer_key_ask A (key_heard p.a.treated.items) p) (ap (λ ds. asks_first values ds p) same))))))

  calm_met : (r : Reply) (p : PathState Carried) → ((x : Ask) → asks_of values p ≡ Some x → Gains T x r) → CalmMet T p → PathMet T (takes values r p)
  calm_met r p gains h = by p.agenda refl
    where
      key_free : (d : Duty) (ds : List Duty) → is_calm (d ∷ ds) ≡ true → is_key_duty d ≡ false
      key_free d ds calm = not-true (is_key_duty d) (and_parts (not (is_key_duty d)) (is_calm ds) calm).0

      by : (ds : List Duty) → p.agenda ≡ ds → PathMet T (settled (answers values ds r p).agenda (answers values ds r p))
      by [] same = settles_met T p (inl h)
      by (d ∷ ds) same =
          settles_met T (answered values d r p)
          (answered_met d r p (key_free d ds (ap is_calm (sym same) ∙ h.calm)) (λ sign. ap signs same ∙ or_left (is_sign_duty d) (signs ds) sign)
          (gains (ask_for values d p) (ap (λ xs. asks_first values xs p) same)) h)

  pub takes_met : (r : Reply) (p : PathState Carried) → ((x : Ask) → asks_of values p ≡ Some x → Gains T x r) → PathMet T p → PathMet T (takes values r p)
  takes_met r p gains (inl h) = calm_met r p gains h
  takes_met r p gains (inr h) = learns_met r p h gains

  pub begun_turn : (p : PathState Carried) → CalmMet T (with_agenda start_of_turn p) → CalmMet T (begins_turn p)
  begun_turn p h = settled_met T start_of_turn (with_agenda start_of_turn p) (own_agenda T (with_agenda start_of_turn p) h)
