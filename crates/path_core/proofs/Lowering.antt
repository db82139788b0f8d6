-- Each reply of the asked kind lowers the numbers of a turn.
use Rattle.path_core.proofs.Words.{◌≡◌, refl, ap, subst, ℕ, ◌+◌, ◌-◌, ◌<◌, ◌≤◌, ◌&&◌, nat_lt, Bool, true, false, if◌then◌else◌, Option, Some, None, List, []}
use Rattle.path_core.proofs.Words.{◌∷◌, length, arith, is_some, not, ltb-true, leb-true, Side, A, B, JoinSyn, SendCall, filled, Record, EndState, may_finish}
use Rattle.path_core.proofs.Words.{Occasion, PlainSegment, Piece, some_piece, InfiniteMapping, Heard, key_heard, keys_heard, leaves, resets, breaks, stops}
use Rattle.path_core.proofs.Words.{replaced, Duty, AskDuty, StepDuty, KeyPair, SendDuty, SilentDuty, weight, weights, OwnNotice, Reply, is_nil, tail_of, Then}
use Rattle.path_core.proofs.Words.{Ask, IsOfKind, IsSomeOf, with_learned, is_clash, with_data_fin, is_acked, told_next, with_acked, answered_mapping}
use Rattle.path_core.proofs.Words.{syn_ack_of, with_peer_key, answered_peer_key, after_keys, answered_opened, never_joined, join_begun, with_mode_refused}
use Rattle.path_core.proofs.Words.{is_never, keys_begun, opened_by, joined_by, asked_at, join_taken, is_note_due, note_of, having_noted, answered_note}
use Rattle.path_core.proofs.Words.{after_peer_notice, after_fell, fell_duties, answered_fell, in_identity, after_check_failed, answered_check_failed}
use Rattle.path_core.proofs.Words.{is_infinite_receive, after_infinite, answered_infinite, may_go_infinite, with_infinite, book_answered, is_infinite_send}
use Rattle.path_core.proofs.Words.{after_fail_heard, answered_fail_heard, breaks_by_ack, with_plain_ack, answered_plain_ack, with_plain_acked, PathState}
use Rattle.path_core.proofs.Words.{end_at, with_agenda, goes_on, left, path_of, PathEnd, died, Profile, Codec, stands, ask_for, answered, data_fin_segment}
use Rattle.path_core.proofs.Words.{having_sent_data_fin, fin_segment_of, having_sent_fin, is_fin_set, with_peer_data_fin, answered_fin_heard, with_fin_told}
use Rattle.path_core.proofs.Words.{answered_plain_fin, first_unsent, unsent_segment, having_sent_unsent, may_ask, data_stands, payload_size, grant_ask}
use Rattle.path_core.proofs.Words.{data_ask, Grant, grant_in, granted, refused, answered_grant, answered_data, first_segment, answer_occasion, answer_of}
use Rattle.path_core.proofs.Words.{dead_answer, resend_occasion, resend_of, TakesTime, refusal_of, reset_of, reset_on, answered_break, work, having_asked}
use Rattle.path_core.proofs.Words.{piece_of, is_placed, placed, answered_piece, plain_piece, infinite_piece, piece_by, mapping_here, next_piece, after_piece}
use Rattle.path_core.proofs.Words.{after_rate, having_sent, sent_on, may_note, after_look, after_ack_out, answered_ack_out, ack_segment, acknowledges, item_of}
use Rattle.path_core.proofs.Words.{answered_item}
use Rattle.send_book.specs.declared.call.SendReply.{SendReply}
use Rattle.subflow_send.specs.declared.record.RecordKind.TheVariants.{Data}
use Rattle.subflow_send.specs.Sendings.{never_sent}
use Rattle.subflow_tcp.specs.Sizes.{room}
use Rattle.path_core.specs.FastClose.{fast_close_of, having_fast_closed, is_stopped_by}
use Rattle.path_core.proofs.Joined.{never_rests, opened_rests, joined_rests}
use Rattle.fallback_state.specs.declared.fall.Event.{Event}
use Rattle.path_core.specs.Deliver as passing
use Rattle.path_store.specs.InfiniteMappings.{covers}
use Rattle.path_core.specs.DssOut.{mapping_of}
use Rattle.path_core.proofs.Happening.{event_lowers}
use Rattle.path_core.proofs.Ranking.{Rests, same_rests, goes_calm, sent_calm, agenda_calm, Lowers, lowers}
use Rattle.path_core.proofs.Resting.{sent_same, check_failed_same, sending_same, receiving_same}
use Rattle.path_core.proofs.Fallen.{after_a_verdict}
use Rattle.path_core.proofs.Sendings.{Fits, sent_count, sent_outstanding, none_unsent, pushed_outstanding, some_open, pushed_count, filled_drop, piece_fits, infinite_fits}

-- the record of a granted piece
abbrev pushed : Profile → Side → Grant → PathEnd → Record
pushed c s grant e = record {
  pos = e.tcp.send.nxt;
  kind = Data;
  piece = grant.piece;
  mapping = mapping_of c s grant.span.from e.tcp.send.nxt grant.piece;
  sending = never_sent;
}

-- a piece takes as many octets of room as it has, and is to be sent once
granted_work : (c : Profile) (s : Side) (grant : Grant) (e : PathEnd) → first_unsent e ≡ None → IsSomeOf (payload_size c) grant.piece
    → payload_size c ≤ room e.tcp → work (granted c s grant.span grant.piece e) < work e
granted_work c s grant e none kind fits =
    let una : ℕ = e.tcp.send.una in
    let idle = none_unsent una e.tcp.send.records none in
    let some = some_open una e.tcp.send.nxt (length grant.piece) kind.some in
    let most : length grant.piece ≤ payload_size c = kind.most in
    omega (arith, some, most, fits, idle.0, idle.1, pushed_outstanding una e.tcp.send.records (pushed c s grant e), pushed_count e.tcp.send.records (pushed c s grant e) refl)

-- a granted piece is of the asked kind
grant_kind : (path max : ℕ) (standby : Bool) (s : Side) (r : Reply) (grant : Grant) → grant_in r ≡ Some grant
    → IsOfKind (Ask.Send s (SendCall.Grant path max standby)) r → IsSomeOf max grant.piece
grant_kind path max standby s (Reply.Send (SendReply.Granted span piece)) grant e kind =
    let same : piece ≡ grant.piece = cc in subst (IsSomeOf max) same kind.0
grant_kind path max standby s (Reply.Send (SendReply.Taken count)) grant e kind = cc
grant_kind path max standby s _ grant e kind = cc

first_true : (x y : Bool) → (x && y) ≡ true → x ≡ true
first_true = elim [ true ↦ λ y both. refl | false ↦ λ y both. cc ]

second_true : (x y : Bool) → (x && y) ≡ true → y ≡ true
second_true = elim [ true ↦ λ y both. both | false ↦ λ y both. cc ]

one_shorter : (queue : List OwnNotice) → not (is_nil queue) ≡ true → length (tail_of queue) < length queue
one_shorter = elim [ [] ↦ λ some. cc | notice ∷ queue ↦ λ some. omega arith ]

-- what is asked for has room
asked_fits : (c : Profile) (s : Side) (e : PathEnd) → may_ask c s e ≡ true → payload_size c ≤ room e.tcp
asked_fits c s e may =
    leb-true _ _ (first_true _ _ (second_true (may_finish e.tcp.state) _ may))

-- all that is in order is placed after a fallback
plain_fits : (s : EndState) (piece : Piece) → some_piece (plain_piece s) ≡ Some piece → Fits s piece
plain_fits s piece e = (elim (nat_lt 0 (length (filled s.recv.places))) as (λ b. nat_lt 0 (length (filled s.recv.places)) ≡ b → (if b then Some (plain_piece s) else None) ≡ Some piece → Fits s piece)
    [ true ↦ λ is e. let same : plain_piece s ≡ piece = cc in subst (Fits s) same (record { some = omega (arith, ltb-true _ _ is); within = omega arith }) | false ↦ λ is e. cc ]) refl e

next_fits : (c : Profile) (e : PathEnd) (piece : Piece) → next_piece c e ≡ Some piece → Fits e.tcp piece
next_fits c e piece is = by e.modes.identity (covers e.modes.peer_infinite e.tcp.recv.edge) is
  where
    by : (b covered : Bool)
        → (if b then some_piece (plain_piece e.tcp)
        else (if covered then infinite_piece e.modes.peer_infinite e.tcp else piece_by c.spelling.checksums (mapping_here e) e.tcp)) ≡ Some piece
        → Fits e.tcp piece
    by true covered is = plain_fits e.tcp piece is
    by false true is = infinite_fits e.modes.peer_infinite e.tcp piece is
    by false false is = piece_fits c.spelling.checksums (mapping_here e) e.tcp piece is

module _ {C : Type 0} where
  -- ---- by weight

  pub left_less : (d : Duty) (ds : List Duty) (p : PathState C) → p.agenda ≡ d ∷ ds → weights (left p) < weights p.agenda
  left_less d ds p is = rw is (omega arith)

  goes_less : (s : Side) (e : PathEnd) (new : List Duty) (p : PathState C) → TakesTime p → Rests p.clock (end_at s p) e
      → weights new < weights p.agenda → Lowers p (goes_on s e new p)
  goes_less s e new p t rests less = lowers p (goes_on s e new p) (goes_calm s e new p t rests) (Then.Falls less)

  sent_less : (k : Codec C) (s : Side) (segment : PlainSegment) (e : PathEnd) (new : List Duty) (p : PathState C) → TakesTime p
      → Rests p.clock (end_at s p) e → weights new < weights p.agenda → Lowers p (sent_on k s segment e new p)
  sent_less k s segment e new p t rests less = lowers p (sent_on k s segment e new p) (sent_calm k s segment e new p t rests) (Then.Falls less)

  agenda_less : (new : List Duty) (p : PathState C) → TakesTime p → weights new < weights p.agenda → Lowers p (with_agenda new p)
  agenda_less new p t less = lowers p (with_agenda new p) (agenda_calm new p t) (Then.Falls less)

  acked_less : (k : Codec C) (s : Side) (p : PathState C) → TakesTime p → weights (left p) < weights p.agenda → Lowers p (acknowledges k s p)
  acked_less k s p t less =
      let e = end_at s p in let f : PathEnd = having_sent Occasion.Ack p.clock (ack_segment s p) e in
      sent_less k s (ack_segment s p) f (left p) p t (same_rests p.clock e f refl) less

  -- ---- bytes that are placed

  placed_less : (s : Side) (piece : Piece) (p : PathState C) → TakesTime p → next_piece p.profile (end_at s p) ≡ Some piece → Lowers p (placed s piece p)
  placed_less A piece p t is =
      let e = p.a in
      let fits = next_fits p.profile e piece is in
      let some : 1 ≤ length piece.octets = fits.some in
      let count : e.tcp.recv.edge + length piece.octets - e.tcp.recv.edge ≡ length piece.octets = omega arith in
      let fewer = filled_drop (length piece.octets) e.tcp.recv.places fits.within in
      lowers p (placed A piece p) (goes_calm A (having_asked (after_piece piece e)) p.agenda p t (same_rests p.clock e (having_asked (after_piece piece e)) refl))
      (Then.Stays (omega arith) (Then.Falls (rw count (omega (arith, some, fewer)))))
  placed_less B piece p t is =
      let e = p.b in
      let fits = next_fits p.profile e piece is in
      let some : 1 ≤ length piece.octets = fits.some in
      let count : e.tcp.recv.edge + length piece.octets - e.tcp.recv.edge ≡ length piece.octets = omega arith in
      let fewer = filled_drop (length piece.octets) e.tcp.recv.places fits.within in
      lowers p (placed B piece p) (goes_calm B (having_asked (after_piece piece e)) p.agenda p t (same_rests p.clock e (having_asked (after_piece piece e)) refl))
      (Then.Stays (omega arith) (Then.Falls (rw count (omega (arith, some, fewer)))))

  refused_less : (s : Side) (p : PathState C) → TakesTime p → 12 ≤ weights p.agenda → Lowers p (passing.refused s p)
  refused_less s p t heavy =
      goes_less s (having_asked (end_at s p)) (breaks s 1) p t (same_rests p.clock (end_at s p) (having_asked (end_at s p)) refl) (omega (arith, heavy))

  piece_lowers : (s : Side) (piece : Option Piece) (taken : Bool) (p : PathState C) → TakesTime p → 12 ≤ weights p.agenda
      → next_piece p.profile (end_at s p) ≡ piece → Lowers p (answered_piece s piece taken p)
  piece_lowers s None taken p t heavy is = refused_less s p t heavy
  piece_lowers s (Some piece) true p t heavy is = placed_less s piece p t is
  piece_lowers s (Some piece) false p t heavy is = refused_less s p t heavy

  fin_lowers : (s : Side) (set : Bool) (p : PathState C) → TakesTime p → weights (left p) < weights p.agenda → 12 ≤ weights p.agenda
      → Lowers p (answered_fin_heard s set p)
  fin_lowers s true p t less heavy =
      goes_less s (having_asked (with_peer_data_fin (end_at s p))) (left p) p t
      (same_rests p.clock (end_at s p) (having_asked (with_peer_data_fin (end_at s p))) refl) less
  fin_lowers s false p t less heavy = refused_less s p t heavy

  plain_fin_lowers : (s : Side) (set : Bool) (p : PathState C) → TakesTime p → weights (left p) < weights p.agenda → 12 ≤ weights p.agenda
      → Lowers p (answered_plain_fin s set p)
  plain_fin_lowers s true p t less heavy =
      let e = end_at s p in let f : PathEnd = having_asked (with_peer_data_fin (with_fin_told e)) in
      goes_less s f (left p) p t (same_rests p.clock e f refl) less
  plain_fin_lowers s false p t less heavy = refused_less s p t heavy

  -- ---- what is sent, and what is granted

  -- one notice less is to be told
  note_less : (k : Codec C) (s : Side) (p : PathState C) → TakesTime p → is_note_due (end_at s p) ≡ true → Lowers p (answered_note k s p)
  note_less k A p t due =
      lowers p (answered_note k A p)
      (sent_calm k A (note_of A p) (having_noted A p) p.agenda p t (same_rests p.clock p.a (having_noted A p) refl))
      (Then.Stays (omega arith) (Then.Stays (omega arith) (omega (arith, one_shorter p.a.notices.queue (second_true (may_note p.a) _ due)))))
  note_less k B p t due =
      lowers p (answered_note k B p)
      (sent_calm k B (note_of B p) (having_noted B p) p.agenda p t (same_rests p.clock p.b (having_noted B p) refl))
      (Then.Stays (omega arith) (Then.Stays (omega arith) (omega (arith, one_shorter p.b.notices.queue (second_true (may_note p.b) _ due)))))

  unsent_less : (k : Codec C) (s : Side) (r : Record) (p : PathState C) → TakesTime p → first_unsent (end_at s p) ≡ Some r
      → Lowers p (sent_on k s (unsent_segment s p) (having_sent_unsent s p) p.agenda p)
  unsent_less k A r p t is =
      lowers p (sent_on k A (unsent_segment A p) (having_sent_unsent A p) p.agenda p)
      (sent_calm k A (unsent_segment A p) (having_sent_unsent A p) p.agenda p t (same_rests p.clock p.a (having_sent_unsent A p) refl))
      (Then.Stays (omega arith) (Then.Stays (omega arith)
      (omega (arith, sent_count p.clock p.a.tcp.send.records r is, sent_outstanding p.clock p.a.tcp.send.una p.a.tcp.send.records))))
  unsent_less k B r p t is =
      lowers p (sent_on k B (unsent_segment B p) (having_sent_unsent B p) p.agenda p)
      (sent_calm k B (unsent_segment B p) (having_sent_unsent B p) p.agenda p t (same_rests p.clock p.b (having_sent_unsent B p) refl))
      (Then.Stays (omega arith) (Then.Stays (omega arith)
      (omega (arith, sent_count p.clock p.b.tcp.send.records r is, sent_outstanding p.clock p.b.tcp.send.una p.b.tcp.send.records))))

  granted_less : (s : Side) (grant : Grant) (p : PathState C) → TakesTime p → first_unsent (end_at s p) ≡ None → IsSomeOf (payload_size p.profile) grant.piece
      → payload_size p.profile ≤ room (end_at s p).tcp
      → Lowers p (goes_on s (granted p.profile s grant.span grant.piece (end_at s p)) p.agenda p)
  granted_less A grant p t none kind fits =
      let e : PathEnd = granted p.profile A grant.span grant.piece p.a in
      lowers p (goes_on A e p.agenda p) (goes_calm A e p.agenda p t (same_rests p.clock p.a e refl))
      (Then.Stays (omega arith) (Then.Stays (omega arith) (omega (arith, granted_work p.profile A grant p.a none kind fits))))
  granted_less B grant p t none kind fits =
      let e : PathEnd = granted p.profile B grant.span grant.piece p.b in
      lowers p (goes_on B e p.agenda p) (goes_calm B e p.agenda p t (same_rests p.clock p.b e refl))
      (Then.Stays (omega arith) (Then.Stays (omega arith) (omega (arith, granted_work p.profile B grant p.b none kind fits))))

  grant_lowers : (s : Side) (o : Option Grant) (r : Reply) (p : PathState C) → TakesTime p → weights (left p) < weights p.agenda
      → grant_in r ≡ o → first_unsent (end_at s p) ≡ None → payload_size p.profile ≤ room (end_at s p).tcp → IsOfKind (grant_ask s p) r
      → Lowers p (answered_grant s o r p)
  grant_lowers s (Some grant) r p t less is none fits kind =
      granted_less s grant p t none (grant_kind (path_of p) (payload_size p.profile) (end_at s p).modes.standby s r grant is kind) fits
  grant_lowers s None r p t less is none fits kind =
      goes_less s (refused r (end_at s p)) (left p) p t (same_rests p.clock (end_at s p) (refused r (end_at s p)) refl) less

  data_lowers : (k : Codec C) (s : Side) (o : Option Record) (r : Reply) (p : PathState C) → TakesTime p → weights (left p) < weights p.agenda
      → first_unsent (end_at s p) ≡ o → data_stands p.profile s (end_at s p) o ≡ true → IsOfKind (data_ask k s o p) r → Lowers p (answered_data k s o r p)
  data_lowers k s (Some record_due) r p t less is stands kind = unsent_less k s record_due p t is
  data_lowers k s None r p t less is stands kind =
      grant_lowers s (grant_in r) r p t less refl is (asked_fits p.profile s (end_at s p) stands) kind

  -- ---- verdicts

  -- the duty is lighter than each agenda that may follow a verdict
  pub record Heavy (s : Side) (p : PathState C) : Type 0 where
    pub done : weights (left p) < weights p.agenda
    pub falls : weights (replaced (Duty.Ask (AskDuty.GoIdentity s)) p.agenda) < weights p.agenda
    pub breaks : 12 ≤ weights p.agenda

  fell_less : (s : Side) (e : PathEnd) (r : Reply) (p : PathState C) → TakesTime p → Rests p.clock (end_at s p) e → Heavy s p
      → Lowers p (goes_on s e (fell_duties s r p) p)
  fell_less s e r p t rests heavy =
      goes_less s e (fell_duties s r p) p t rests
      (after_a_verdict (λ ds. weights ds < weights p.agenda) s p heavy.falls (λ reason. omega (arith, heavy.breaks)) (λ reason. omega (arith, heavy.breaks))
      heavy.done r)

  verdict_lowers : (s : Side) (event : Event) (r : Reply) (p : PathState C) → TakesTime p → Heavy s p → Lowers p (answered_fell s event r p)
  verdict_lowers s event r p t heavy =
      fell_less s (after_fell event r (end_at s p)) r p t (same_rests p.clock (end_at s p) (after_fell event r (end_at s p)) refl) heavy

  check_lowers : (s : Side) (r : Reply) (p : PathState C) → TakesTime p → Heavy s p → Lowers p (answered_check_failed s r p)
  check_lowers s r p t heavy =
      let e = end_at s p in let f : PathEnd = after_check_failed p.profile.spelling.checksums r e in
      fell_less s f r p t (same_rests p.clock e f (check_failed_same p.profile.spelling.checksums r e)) heavy

  fail_heard_lowers : (s : Side) (r : Reply) (p : PathState C) → TakesTime p → Heavy s p → Lowers p (answered_fail_heard s r p)
  fail_heard_lowers s r p t heavy =
      let e = end_at s p in let f : PathEnd = after_fail_heard r e in let mapping : Option InfiniteMapping = e.treated.infinite_mapping in
      fell_less s f r p t
      (same_rests p.clock e f (ap (λ tcp. tcp.timing) (sending_same mapping (is_infinite_send r) (after_fell (Event.FailHeard (is_some mapping)) r e)))) heavy

  infinite_lowers : (s : Side) (place : ℕ) (position : Option ℕ) (r : Reply) (p : PathState C) → TakesTime p → Heavy s p
      → Lowers p (answered_infinite s place position r p)
  infinite_lowers s place position r p t heavy =
      let e = end_at s p in let f : PathEnd = after_infinite place position r e in
      fell_less s f r p t
      (same_rests p.clock e f (ap (λ tcp. tcp.timing) (receiving_same place position (is_infinite_receive r) (after_fell Event.InfiniteHeard r e)))) heavy

  fail_less : (s : Side) (may : Bool) (r : Reply) (p : PathState C) → TakesTime p
      → weights (replaced (Duty.Ask (AskDuty.FailHeard s)) p.agenda) < weights p.agenda → Heavy s p
      → Lowers p (if may then book_answered s r p else answered_fell s (Event.FailHeard false) r p)
  fail_less s true r p t next heavy =
      let e = end_at s p in let f : PathEnd = with_infinite r e in
      goes_less s f (replaced (Duty.Ask (AskDuty.FailHeard s)) p.agenda) p t (same_rests p.clock e f refl) next
  fail_less s false r p t next heavy = verdict_lowers s (Event.FailHeard false) r p t heavy

  peer_key_lowers : (s : Side) (key : Option ℕ) (r : Reply) (p : PathState C) → TakesTime p → Heavy s p → Lowers p (answered_peer_key s key r p)
  peer_key_lowers s None r p t heavy = verdict_lowers s Event.PlainHandshake r p t heavy
  peer_key_lowers s (Some key) r p t heavy =
      let e = end_at s p in let f : PathEnd = with_peer_key (Some key) e in goes_less s f (left p) p t (same_rests p.clock e f refl) heavy.done

  opened_lowers : (s : Side) (keys : Option KeyPair) (r : Reply) (p : PathState C) → TakesTime p → Heavy s p → Lowers p (answered_opened s keys r p)
  opened_lowers s None r p t heavy = verdict_lowers s Event.PlainHandshake r p t heavy
  opened_lowers s (Some keys) r p t heavy =
      let e = end_at s p in let f : PathEnd = after_keys r (Some keys) e in goes_less s f (left p) p t (same_rests p.clock e f refl) heavy.done

  -- ---- breaks, and what a copy says

  reset_less : (k : Codec C) (s : Side) (reason : Option ℕ) (new : List Duty) (p : PathState C) → TakesTime p → weights new < weights p.agenda
      → Lowers p (reset_on k s reason new p)
  reset_less k s reason new p t less =
      sent_less k s (reset_of s reason p) (died (end_at s p)) new p t (record { due = omega arith; timeout = λ some. some }) less

  break_lowers : (k : Codec C) (s : Side) (reason : ℕ) (r : Reply) (p : PathState C) → TakesTime p → 12 ≤ weights p.agenda
      → Lowers p (answered_break k s reason r p)
  break_lowers k s reason r p t heavy = elim (end_at s p).treated.asked as (λ b. Lowers p (if b then answered_ack_out s r (resets s reason) p else reset_on k s (Some reason) (leaves s) p)) [
    | true ↦ goes_less s (after_ack_out r (end_at s p)) (resets s reason) p t (same_rests p.clock (end_at s p) (after_ack_out r (end_at s p)) refl) (omega (arith, heavy))
    | false ↦ reset_less k s (Some reason) (leaves s) p t (omega (arith, heavy))
  ]

  mapping_lowers : (k : Codec C) (s : Side) (r : Reply) (p : PathState C) → TakesTime p → Heavy s p → Lowers p (answered_mapping k s r p)
  mapping_lowers k s r p t heavy = elim (is_clash (end_at s p)) as (λ b. Lowers p (if b then answered_break k s 1 r p else goes_on s f (fell_duties s r p) p))
      [ true ↦ break_lowers k s 1 r p t heavy.breaks | false ↦ fell_less s f r p t (same_rests p.clock (end_at s p) f refl) heavy ]
    where
      f : PathEnd
      f = with_learned (after_fell Event.MappingHeard r (end_at s p))

  plain_ack_lowers : (k : Codec C) (s : Side) (r : Reply) (p : PathState C) → TakesTime p → Heavy s p → Lowers p (answered_plain_ack k s r p)
  plain_ack_lowers k s r p t heavy = elim (breaks_by_ack p.profile (end_at s p)) as (λ b. Lowers p (if b then answered_break k s 6 r p else goes_on s f (fell_duties s r p) p))
      [ true ↦ break_lowers k s 6 r p t heavy.breaks | false ↦ fell_less s f r p t (same_rests p.clock (end_at s p) f refl) heavy ]
    where
      f : PathEnd
      f = with_plain_ack (after_fell Event.PlainAck r (end_at s p))

  -- the peer's fast close
  fast_heard_less : (s : Side) (stopped : Bool) (p : PathState C) → TakesTime p → Heavy s p
      → Lowers p (with_agenda (if stopped then stops s else left p) p)
  fast_heard_less s true p t heavy = agenda_less (stops s) p t (omega (arith, heavy.breaks))
  fast_heard_less s false p t heavy = agenda_less (left p) p t heavy.done

  told_less : (s : Side) (covers : Bool) (p : PathState C) → weights (left p) < weights p.agenda → weights (replaced (Duty.Ask (AskDuty.AckHeard s)) p.agenda) < weights p.agenda
      → weights (told_next s covers p) < weights p.agenda
  told_less s true p less next = next
  told_less s false p less next = less

  heard_lowers : (k : Codec C) (s : Side) (item : Option Heard) (r : Reply) (p : PathState C) → TakesTime p
      → weights (replaced (Duty.Ask (AskDuty.AckHeard s)) p.agenda) < weights p.agenda
      → weights (replaced (Duty.Ask (AskDuty.FailHeard s)) p.agenda) < weights p.agenda → Heavy s p → Lowers p (answered_item k s item r p)
  heard_lowers k s None r p t next failed heavy = agenda_less (left p) p t heavy.done
  heard_lowers k s (Some Heard.Dss) r p t next failed heavy = agenda_less (left p) p t heavy.done
  heard_lowers k s (Some (Heard.DataAck place window)) r p t next failed heavy =
      goes_less s (with_acked place r (end_at s p)) (told_next s (is_acked r && nat_lt 0 place) p) p t
      (same_rests p.clock (end_at s p) (with_acked place r (end_at s p)) refl) (told_less s (is_acked r && nat_lt 0 place) p heavy.done next)
  heard_lowers k s (Some (Heard.Mapping fin)) r p t next failed heavy = mapping_lowers k s r p t heavy
  heard_lowers k s (Some (Heard.DataFin place)) r p t next failed heavy =
      let f : PathEnd = with_data_fin place (after_fell Event.MappingHeard r (end_at s p)) in
      fell_less s f r p t (same_rests p.clock (end_at s p) f refl) heavy
  heard_lowers k s (Some (Heard.InfiniteMapping place position)) r p t next failed heavy = infinite_lowers s place position r p t heavy
  heard_lowers k s (Some (Heard.PeerKey key)) r p t next failed heavy = agenda_less (left p) p t heavy.done
  heard_lowers k s (Some (Heard.Keys own peer)) r p t next failed heavy =
      goes_less s (after_keys r (Some (record { own = own; peer = peer })) (end_at s p)) (left p) p t
      (same_rests p.clock (end_at s p) (after_keys r (Some (record { own = own; peer = peer })) (end_at s p)) refl) heavy.done
  heard_lowers k s (Some (Heard.Join form)) r p t next failed heavy = agenda_less (left p) p t heavy.done
  heard_lowers k s (Some (Heard.Notice notice)) r p t next failed heavy =
      goes_less s (after_peer_notice notice r (end_at s p)) (left p) p t
      (same_rests p.clock (end_at s p) (after_peer_notice notice r (end_at s p)) refl) heavy.done
  heard_lowers k s (Some Heard.Fail) r p t next failed heavy = fail_less s (may_go_infinite (end_at s p)) r p t failed heavy
  heard_lowers k s (Some (Heard.FastClose key)) r p t next failed heavy = fast_heard_less s (is_stopped_by r) p t heavy

  -- ---- joins

  join_less : (r : Reply) (dead living : List Duty) (p : PathState C) → TakesTime p → weights dead < weights p.agenda → weights living < weights p.agenda
      → Lowers p (join_begun r dead living p)
  join_less r dead living p t less_dead less_living =
      elim (is_never r) as (λ b. Lowers p (if b then goes_on A (never_joined r (end_at A p)) dead p else goes_on A (opened_by (keys_begun r) (end_at A p)) living p)) [
        | true ↦ goes_less A (never_joined r p.a) dead p t (never_rests p.clock r p.a) less_dead
        | false ↦ goes_less A (opened_by (keys_begun r) p.a) living p t (opened_rests p.clock (keys_begun r) p.a) less_living
      ]

  taken_less : (s : Side) (keys : Option KeyPair) (asked : Option JoinSyn) (r : Reply) (p : PathState C) → TakesTime p
      → weights (replaced (Duty.Send (SendDuty.SynAck s)) p.agenda) < weights p.agenda → weights (replaced (Duty.Send (SendDuty.Refuse s)) p.agenda) < weights p.agenda
      → Lowers p (join_taken s keys asked r p)
  taken_less s (Some keys) (Some asked) r p t less_taken less_refused =
      goes_less s (joined_by keys asked (end_at s p)) (replaced (Duty.Send (SendDuty.SynAck s)) p.agenda) p t (joined_rests p.clock keys asked (end_at s p)) less_taken
  taken_less s (Some keys) None r p t less_taken less_refused = agenda_less (replaced (Duty.Send (SendDuty.Refuse s)) p.agenda) p t less_refused
  taken_less s None None r p t less_taken less_refused = agenda_less (replaced (Duty.Send (SendDuty.Refuse s)) p.agenda) p t less_refused
  taken_less s None (Some asked) r p t less_taken less_refused =
      goes_less s (with_mode_refused r (end_at s p)) (replaced (Duty.Send (SendDuty.Refuse s)) p.agenda) p t (same_rests p.clock (end_at s p) (with_mode_refused r (end_at s p)) refl) less_refused

  -- ---- every duty

  heavy_by : (d : Duty) (ds : List Duty) (s : Side) (p : PathState C) → p.agenda ≡ d ∷ ds → 11 ≤ weight d → Heavy s p
  heavy_by d ds s p is least = record { done = rw is (omega arith); falls = rw is (omega (arith, least)); breaks = rw is (omega (arith, least)) }

  pub answered_lowers : (k : Codec C) (d : Duty) (ds : List Duty) (r : Reply) (p : PathState C) → TakesTime p → p.agenda ≡ d ∷ ds → stands d p ≡ true
      → IsOfKind (ask_for k d p) r → Lowers p (answered k d r p)
  answered_lowers k (Duty.Ask AskDuty.JoinAgain) ds r p t is stands kind =
      join_less r (replaced (Duty.Ask (AskDuty.Leave A)) p.agenda) (left p) p t (rw is (omega arith)) (left_less _ ds p is)
  answered_lowers k (Duty.Step (StepDuty.Look s)) ds r p t is stands kind =
      goes_less s (after_look r (end_at s p)) (left p) p t (same_rests p.clock (end_at s p) (after_look r (end_at s p)) refl) (left_less _ ds p is)
  answered_lowers k (Duty.Ask (AskDuty.LeaveNoted s)) ds r p t is stands kind =
      goes_less s (died (end_at s p)) (replaced (Duty.Ask (AskDuty.Dead s)) p.agenda) p t (record { due = omega arith; timeout = λ some. some }) (rw is (omega arith))
  answered_lowers k (Duty.Send (SendDuty.ResetNoted s)) ds r p t is stands kind = reset_less k s None (replaced (Duty.Ask (AskDuty.Leave s)) p.agenda) p t (rw is (omega arith))
  answered_lowers k (Duty.Ask (AskDuty.Window s)) ds r p t is stands kind =
      goes_less s (after_ack_out r (end_at s p)) (left p) p t (same_rests p.clock (end_at s p) (after_ack_out r (end_at s p)) refl) (left_less _ ds p is)
  answered_lowers k (Duty.Send (SendDuty.Update s)) ds r p t is stands kind = acked_less k s p t (left_less _ ds p is)
  answered_lowers k (Duty.Send (SendDuty.FastClose s)) ds r p t is stands kind =
      sent_less k s (fast_close_of s p) (having_fast_closed s p) (left p) p t (same_rests p.clock (end_at s p) (having_fast_closed s p) refl) (left_less _ ds p is)
  answered_lowers k (Duty.Send (SendDuty.Notice s)) ds r p t is stands kind = note_less k s p t stands
  answered_lowers k (Duty.Send (SendDuty.Syn s)) ds r p t is stands kind =
      sent_less k s (unsent_segment s p) (having_sent_unsent s p) (left p) p t (same_rests p.clock (end_at s p) (having_sent_unsent s p) refl) (left_less _ ds p is)
  answered_lowers k (Duty.Step (StepDuty.Data s)) ds r p t is stands kind = data_lowers k s (first_unsent (end_at s p)) r p t (left_less _ ds p is) refl stands kind
  answered_lowers k (Duty.Send (SendDuty.DataFin s)) ds r p t is stands kind =
      sent_less k s (data_fin_segment s p) (having_sent_data_fin s p) (left p) p t (same_rests p.clock (end_at s p) (having_sent_data_fin s p) refl) (left_less _ ds p is)
  answered_lowers k (Duty.Send (SendDuty.Fin s)) ds r p t is stands kind =
      sent_less k s (fin_segment_of s p) (having_sent_fin s p) (left p) p t (same_rests p.clock (end_at s p) (having_sent_fin s p) refl) (left_less _ ds p is)
  answered_lowers k (Duty.Silent (SilentDuty.Timer s)) ds r p t is stands kind = agenda_less (left p) p t (left_less _ ds p is)
  answered_lowers k (Duty.Step StepDuty.Events) ds r p t is stands kind = event_lowers k r p t stands
  answered_lowers k (Duty.Ask (AskDuty.SynHeard s)) ds r p t is stands kind = agenda_less (left p) p t (left_less _ ds p is)
  answered_lowers k (Duty.Ask (AskDuty.SynAnswered s)) ds r p t is stands kind = agenda_less (left p) p t (left_less _ ds p is)
  answered_lowers k (Duty.Ask (AskDuty.PlainHandshake s)) ds r p t is stands kind =
      verdict_lowers s Event.PlainHandshake r p t (heavy_by _ ds s p is (omega arith))
  answered_lowers k (Duty.Ask (AskDuty.PeerKey s)) ds r p t is stands kind =
      peer_key_lowers s (key_heard (end_at s p).treated.items) r p t (heavy_by _ ds s p is (omega arith))
  answered_lowers k (Duty.Send (SendDuty.SynAck s)) ds r p t is stands kind =
      let e = end_at s p in let f : PathEnd = having_sent Occasion.SynAck p.clock (syn_ack_of s p) e in
      sent_less k s (syn_ack_of s p) f (left p) p t (same_rests p.clock e f refl) (left_less _ ds p is)
  answered_lowers k (Duty.Ask (AskDuty.JoinHeard s)) ds r p t is stands kind =
      taken_less s (keys_begun r) (asked_at s p) r p t (rw is (omega arith)) (rw is (omega arith))
  answered_lowers k (Duty.Send (SendDuty.Refuse s)) ds r p t is stands kind =
      sent_less k s (refusal_of s p) (end_at s p) (left p) p t (same_rests p.clock (end_at s p) (end_at s p) refl) (left_less _ ds p is)
  answered_lowers k (Duty.Ask (AskDuty.Opened s)) ds r p t is stands kind =
      opened_lowers s (keys_heard (end_at s p).treated.items) r p t (heavy_by _ ds s p is (omega arith))
  answered_lowers k (Duty.Ask (AskDuty.Live s)) ds r p t is stands kind = agenda_less (left p) p t (left_less _ ds p is)
  answered_lowers k (Duty.Step (StepDuty.Heard s index)) ds r p t is stands kind =
      heard_lowers k s (item_of index (end_at s p)) r p t (rw is (omega arith)) (rw is (omega arith)) (heavy_by _ ds s p is (omega arith))
  answered_lowers k (Duty.Ask (AskDuty.AckHeard s)) ds r p t is stands kind = verdict_lowers s Event.AckHeard r p t (heavy_by _ ds s p is (omega arith))
  answered_lowers k (Duty.Step (StepDuty.PlainAck s)) ds r p t is stands kind = plain_ack_lowers k s r p t (heavy_by _ ds s p is (omega arith))
  answered_lowers k (Duty.Ask (AskDuty.FailHeard s)) ds r p t is stands kind = fail_heard_lowers s r p t (heavy_by _ ds s p is (omega arith))
  answered_lowers k (Duty.Ask (AskDuty.SubflowAck s)) ds r p t is stands kind =
      let e = end_at s p in let f : PathEnd = with_plain_acked r e in goes_less s f (left p) p t (same_rests p.clock e f refl) (left_less _ ds p is)
  answered_lowers k (Duty.Ask (AskDuty.PlainData s)) ds r p t is stands kind = verdict_lowers s Event.PlainData r p t (heavy_by _ ds s p is (omega arith))
  answered_lowers k (Duty.Ask (AskDuty.GoIdentity s)) ds r p t is stands kind =
      let e = end_at s p in let f : PathEnd = in_identity e in goes_less s f (left p) p t (same_rests p.clock e f refl) (left_less _ ds p is)
  answered_lowers k (Duty.Silent (SilentDuty.Keep s)) ds r p t is stands kind = agenda_less (left p) p t (left_less _ ds p is)
  answered_lowers k (Duty.Ask (AskDuty.Edge s)) ds r p t is stands kind = piece_lowers s (piece_of s p) (is_placed r) p t (rw is (omega arith)) refl
  answered_lowers k (Duty.Ask (AskDuty.CheckFailed s)) ds r p t is stands kind = check_lowers s r p t (heavy_by _ ds s p is (omega arith))
  answered_lowers k (Duty.Step (StepDuty.Unmapped s)) ds r p t is stands kind = break_lowers k s 6 r p t (rw is (omega arith))
  answered_lowers k (Duty.Ask (AskDuty.HeardFin s index)) ds r p t is stands kind =
      fin_lowers s (is_fin_set r) p t (left_less _ ds p is) (rw is (omega arith))
  answered_lowers k (Duty.Silent (SilentDuty.PassFin s)) ds r p t is stands kind = agenda_less (left p) p t (left_less _ ds p is)
  answered_lowers k (Duty.Ask (AskDuty.SubflowFin s)) ds r p t is stands kind =
      plain_fin_lowers s (is_fin_set r) p t (left_less _ ds p is) (rw is (omega arith))
  answered_lowers k (Duty.Ask (AskDuty.AckOut s)) ds r p t is stands kind =
      goes_less s (after_ack_out r (end_at s p)) (left p) p t (same_rests p.clock (end_at s p) (after_ack_out r (end_at s p)) refl) (left_less _ ds p is)
  answered_lowers k (Duty.Ask (AskDuty.Rate s)) ds r p t is stands kind =
      let e = end_at s p in let f : PathEnd = after_rate (path_of p) p.profile.mss r e in
      goes_less s f (left p) p t (same_rests p.clock e f refl) (left_less _ ds p is)
  answered_lowers k (Duty.Send (SendDuty.Acknowledge s)) ds r p t is stands kind = acked_less k s p t (left_less _ ds p is)
  answered_lowers k (Duty.Send (SendDuty.Again s)) ds r p t is stands kind =
      let e = end_at s p in let f : PathEnd = having_sent Occasion.First p.clock (first_segment s p) e in
      sent_less k s (first_segment s p) f (left p) p t (same_rests p.clock e f refl) (left_less _ ds p is)
  answered_lowers k (Duty.Send (SendDuty.Answer s)) ds r p t is stands kind =
      let e = end_at s p in let f : PathEnd = having_sent (answer_occasion e) p.clock (answer_of s p) e in
      sent_less k s (answer_of s p) f (left p) p t (same_rests p.clock e f (sent_same (answer_occasion e) p.clock e.tcp)) (left_less _ ds p is)
  answered_lowers k (Duty.Send (SendDuty.ResetAnswer s)) ds r p t is stands kind =
      sent_less k s (dead_answer s p) (end_at s p) (left p) p t (same_rests p.clock (end_at s p) (end_at s p) refl) (left_less _ ds p is)
  answered_lowers k (Duty.Ask (AskDuty.Return s)) ds r p t is stands kind = agenda_less (left p) p t (left_less _ ds p is)
  answered_lowers k (Duty.Ask (AskDuty.AbortSend s)) ds r p t is stands kind = agenda_less (left p) p t (left_less _ ds p is)
  answered_lowers k (Duty.Ask (AskDuty.AbortReceive s)) ds r p t is stands kind = agenda_less (left p) p t (left_less _ ds p is)
  answered_lowers k (Duty.Ask (AskDuty.Announce s id)) ds r p t is stands kind = agenda_less (left p) p t (left_less _ ds p is)
  answered_lowers k (Duty.Ask (AskDuty.Withdraw s id)) ds r p t is stands kind = agenda_less (left p) p t (left_less _ ds p is)
  answered_lowers k (Duty.Send (SendDuty.Resend s)) ds r p t is stands kind =
      let e = end_at s p in let f : PathEnd = having_sent (resend_occasion e) p.clock (resend_of s p) e in
      sent_less k s (resend_of s p) f (left p) p t (same_rests p.clock e f (sent_same (resend_occasion e) p.clock e.tcp)) (left_less _ ds p is)
  answered_lowers k (Duty.Ask (AskDuty.BreakAck s reason)) ds r p t is stands kind =
      goes_less s (after_ack_out r (end_at s p)) (resets s reason) p t (same_rests p.clock (end_at s p) (after_ack_out r (end_at s p)) refl) (rw is (omega arith))
  answered_lowers k (Duty.Send (SendDuty.BreakReset s reason)) ds r p t is stands kind = reset_less k s (Some reason) (leaves s) p t (rw is (omega arith))
  answered_lowers k (Duty.Send (SendDuty.Reset s)) ds r p t is stands kind = reset_less k s None (replaced (Duty.Ask (AskDuty.Leave s)) p.agenda) p t (rw is (omega arith))
  answered_lowers k (Duty.Ask (AskDuty.Leave s)) ds r p t is stands kind = agenda_less (replaced (Duty.Ask (AskDuty.Dead s)) p.agenda) p t (rw is (omega arith))
  answered_lowers k (Duty.Ask (AskDuty.Dead s)) ds r p t is stands kind = agenda_less (left p) p t (left_less _ ds p is)
  answered_lowers k Duty.End ds r p t is stands kind = agenda_less [] p t (rw is (omega arith))
