-- Every step of a path keeps its keys and nonces, those of what was heard, and those of the copies under way.
use Rattle.world_laws.proofs.Words.{◌≡◌, refl, sym, ◌∙◌, ap, subst, ℕ, zero, suc, ◌-◌, ◌&&◌, ◌||◌, ◌==◌, not, nat_lt, Bool, true, false, if◌then◌else◌, Option}
use Rattle.world_laws.proofs.Words.{Some, None, List, [], ◌∷◌, ◌++◌, is_none, is_some, position, and_parts, false≢true, IfSome, FallEvent, token_of, Side, A, B}
use Rattle.world_laws.proofs.Words.{peer, same_side, Asked, ControlCall, ControlReply, Notice, ReassemblyCall, SendCall}
use Rattle.world_laws.proofs.Words.{Receiving, Record, is_closed_to_segments, is_opening, is_dead, may_finish, is_waiting, is_sixth, after_expiry, fin_position}
use Rattle.world_laws.proofs.Words.{has_records, EndPhase, Occasion, after_death, after_dropping_held, after_keeping_held, after_begin, is_due, arriving}
use Rattle.world_laws.proofs.Words.{after_delivery, Flight, LineAction, Piece, rest_of_turn, emission, leaves, resets, stops, start_of_turn, Duty, SendDuty}
use Rattle.world_laws.proofs.Words.{StepDuty, AskDuty, SilentDuty, Heard, KeyPair, replaced, first_of, key_heard, keys_heard, Ask, Reply, tail_of, stands}
use Rattle.world_laws.proofs.Words.{ask_for, passed, answered, PathEnd, died, after_notice, OwnNotices, answered_ack_out, after_look, is_connected, may_note}
use Rattle.world_laws.proofs.Words.{modes_told, notices_told, at_tick, PathState, end_at, goes_on, with_end, with_agenda, left, path_of, settled, answers}
use Rattle.world_laws.proofs.Words.{asks_of, asks_first, takes, begins_turn, FirstStands, IsSettled, Carried, values, reset_of, reset_on, answered_break}
use Rattle.world_laws.proofs.Words.{path_died, refusal_of, break_ask, answered_data, answered_grant, data_stands, first_unsent, grant_in, answer_occasion}
use Rattle.world_laws.proofs.Words.{answer_of, resend_occasion, resend_of, first_record, fits, next_event, step_for, after_line, happens_if, join_begun}
use Rattle.world_laws.proofs.Words.{never_joined, asked_at, is_never, join_taken, joined_by, keys_begun, opened_by, with_mode_refused, is_joined}
use Rattle.world_laws.proofs.Words.{join_heard_ask, with_timer_settled, template_fired, timer_fired, mapping_here, piece_of, is_placed, answered_piece}
use Rattle.world_laws.proofs.Words.{after_pieces, is_dropped, is_data_fin_owed, fin_segment_of, having_sent_fin, answered_plain_fin}
use Rattle.world_laws.proofs.Words.{answered_fin_heard, is_fin_set, after_pass_fin, is_clash, with_learned, with_data_fin, with_skipped, counts, with_acked}
use Rattle.world_laws.proofs.Words.{after_dss, with_data_ack, heard_ask, item_ask, answered_heard, answered_item, item_of, item_passed, answered_check_failed}
use Rattle.world_laws.proofs.Words.{fell_ask, after_fell, fell_duties, plain_ack_ask, answered_plain_ack, with_plain_ack, breaks_by_ack, may_go_infinite}
use Rattle.world_laws.proofs.Words.{book_answered, answered_fell, with_infinite, is_fall, in_identity, peer_key_ask, opened_ask, answered_peer_key}
use Rattle.world_laws.proofs.Words.{answered_opened, is_stopped_by, is_fast_close_due, with_priority, is_note_due, having_noted, after_peer_notice, with_echo}
use Rattle.world_laws.proofs.Words.{ack_said, carried_said, syn_ack_said, record_or_ack, having_sent, Modes, is_side_a, item_at, Every-nil, Every, if_so}
use Rattle.path_core.specs.declared.events.Event.{Event}
use Rattle.path_core.specs.Emission.{Grant}
use Rattle.path_core.specs.Addresses.{note_of}
use Rattle.path_core.specs.DssIn.{is_acked}
use Rattle.path_core.specs.FastClose.{fast_close_of}
use Rattle.world_laws.proofs.Writes.Ends.{item_so}
use Rattle.world_laws.proofs.Worlds.Finding.{find_every, one_side}
use Rattle.world_laws.proofs.Announcements.Queued.{announced_told, echo_queued, first_queued, look_queued, prio_queued, tail_queued}
use Rattle.world_laws.proofs.Falls.FailedChecks.{forgets_so, check_failed_so, checked_so, fail_heard_so, failed_so, infinite_came_so, infinite_so}
use Rattle.world_laws.proofs.Falls.Verdicts.{fell_cases}
use Rattle.world_laws.proofs.Keys.Held.{VoiceIs, with_voice, fewer_known, stays_same, replaced_known, is_noted, look_leaves, verdict_leaves, fell_leaves, opening_open, not_closed, finish_open, IsSign, FlightIs, OnJoined, AreKnown, PathIs, end_is, Fewer, none_left, Stays, requeued, goes_by, goes_is, with_is, agenda_is, kept_end, same_goes, sent_is, same_sent, died_is, refused_is, unless_dead_is, key_found, PairIs, pair_found, AskedIs, asked_is, rekeyed, rekeyed_knows, keys_are, keys_stay, BeginIs, opened_end, opened_stays, joined_end, joined_knows, joined_waits}
use Rattle.world_laws.proofs.Keys.AreDrawn.{Deed, Secrets, HmacIs, KeysFor, NoteIs, told_in, known_in, OfB, drawn_key, SegmentIs, ItemIs, EndIs, Needs, Knows, same_knows, same_modes, reset_options_are, reset_is as reset_said_is, fin_options_are, ack_is, syn_ack_is, record_or_ack_is, carried_is, noted_is, dss_known, knows_b, is_past, of_b}
use Rattle.world_laws.proofs.Keys.WhatWakes.{is_up, NoWaking, open_is_up, timer_up, sending_up, finishing_up, passing_up, is_said_by, speaks, tail_speaks, replaced_speaks, same_or_calm, itself, next_happens, first_speaks, Voice, tells_same, falls_same}
use Rattle.world_laws.proofs.Keys.Copies.{copy_is, delivered_is, own_knows, voices}

-- a connected end heard the peer's SYN
connected_past : (state : EndPhase) → is_connected state ≡ true → is_past state ≡ true
connected_past EndPhase.Waiting is = absurd (false≢true is)
connected_past EndPhase.Listen is = absurd (false≢true is)
connected_past EndPhase.SynSent is = absurd (false≢true is)
connected_past EndPhase.SynReceived is = absurd (false≢true is)
connected_past EndPhase.Dead is = absurd (false≢true is)
connected_past _ is = refl

-- the key of the fast close that an end is to carry
abbrev pub carrier_in : Notice → Option ℕ
carrier_in (Notice.Carrier key) = Some key
carrier_in _ = None

abbrev pub carrier_told : Reply → Option ℕ
carrier_told (Reply.Control (ControlReply.Standing mode standby sole notice)) = carrier_in notice
carrier_told _ = None

module _ (k : Secrets) (right : Bool) (w : Side → Type 0) (did : Deed → Side → Type 0) where
  -- ---- in silence

  pub item_there : (joined : Bool) (items : List Heard) (s : Side) (index : ℕ) → Every (ItemIs k right w did joined s) items → IfSome (item_at index items) (ItemIs k right w did joined s)
  item_there joined [] s index h = tt
  item_there joined (item ∷ items) s zero h = h.each 0 item refl
  item_there joined (item ∷ items) s (suc index) h = item_there joined items s index (record { each = λ i x at. h.each (suc i) x at })

  pub item_found : (joined : Bool) (s : Side) (index : ℕ) (e : PathEnd) → Every (ItemIs k right w did joined s) e.treated.items → IfSome (item_of index e) (ItemIs k right w did joined s)
  item_found joined s index e h =
      if_so (λ z. IfSome z (ItemIs k right w did joined s)) e.modes.identity None (item_at index e.treated.items)
      tt (item_there joined e.treated.items s index h)

  -- a DSS lets A's end send one, too
  cleared_by : (joined : Bool) (s : Side) (m : Modes) → ItemIs k right w did joined s Heard.Dss → (joined ≡ true → m.clear ≡ true → w B) → joined ≡ true → m.clear || is_side_a s ≡ true → w B
  cleared_by joined s m said was joins now = (elim m.clear as (λ b. m.clear ≡ b → b || is_side_a s ≡ true → w B)
      [ true ↦ λ is now. was joins is | false ↦ λ is now. at s (said joins) now ]) refl now
    where
      at : (s : Side) → OfB (peer s) (w B) → is_side_a s ≡ true → w B
      at = elim [ A ↦ λ said own. said | B ↦ λ said own. absurd (false≢true own) ]

  -- B's end may send one where it might
  cleared_meets : (s : Side) (b : Bool) (P : Type 0) → (b ≡ true → OfB s P) → b || is_side_a s ≡ true → OfB s P
  cleared_meets A b P has now = tt
  cleared_meets B true P has now = has refl
  cleared_meets B false P has now = absurd (false≢true now)

  passed_item : (joined : Bool) (s : Side) (o : Option Heard) (e : PathEnd) → IfSome o (ItemIs k right w did joined s) → EndIs k right w did joined s e → EndIs k right w did joined s (item_passed s o e)
  passed_item joined s None e said h = h
  passed_item joined s (Some Heard.Dss) e said h = record {
    modes = record {
      own = h.modes.own;
      nonce = h.modes.nonce;
      peer_is = h.modes.peer_is;
      joins = λ owes. absurd (false≢true owes);
      third = λ owes. absurd (false≢true owes);
      cleared = cleared_by joined s e.modes said h.modes.cleared;
      fell = h.modes.fell;
      keyed = h.modes.keyed;
      meets = λ sure now. cleared_meets s e.modes.clear _ (h.modes.meets sure) now;
    };
    items = h.items;
    woken = λ is up. let has = h.woken is up in (has.0, λ sure. by s (has.1 sure));
    past = h.past;
    carries = h.carries;
    queued = h.queued;
    failing = h.failing;
  }
    where
      by : (t : Side) → Needs k right t e.modes → Needs k right t (item_passed s (Some Heard.Dss) e).modes
      by = elim [ A ↦ λ has. has | B ↦ λ has. has ]
  passed_item joined s (Some (Heard.DataAck next window)) e said h =
      kept_end k right w did joined s e (with_data_ack next e) refl refl (record { up = λ x. x; waits = λ x. x; past = λ x. x }) h
  passed_item joined s (Some (Heard.Mapping fin)) e said h = elim (counts e) as (λ b. EndIs k right w did joined s (if b then with_learned e else with_skipped e)) [
    | true ↦ record { modes = h.modes; items = h.items; woken = h.woken; past = h.past; carries = h.carries; queued = h.queued; failing = h.failing }
    | false ↦ record { modes = h.modes; items = h.items; woken = h.woken; past = h.past; carries = h.carries; queued = h.queued; failing = h.failing }
  ]
  passed_item joined s (Some (Heard.DataFin place)) e said h =
      if_so (EndIs k right w did joined s) (counts e) (with_data_fin place e) e
      (record { modes = h.modes; items = h.items; woken = h.woken; past = h.past; carries = h.carries; queued = h.queued; failing = h.failing }) h
  passed_item joined s (Some Heard.Fail) e said h = h
  passed_item joined s _ e said h = h

  -- an end knows what it knew
  passed_stays : (t s : Side) (o : Option Heard) (e : PathEnd) → Knows k right w did t e.modes → Knows k right w did t (item_passed s o e).modes
  passed_stays t s o e has =
      item_so (λ f. Knows k right w did t f.modes) s o e has (signed t has) (λ next. same_knows k right w did t e.modes (with_data_ack next e).modes refl has) has has (λ place. has)
    where
      signed : (t : Side) → Knows k right w did t e.modes → Knows k right w did t (after_dss s e).modes
      signed = elim [ A ↦ λ has. (has.0, has.1) | B ↦ λ has. (has.0, has.1) ]

  item_waits : (s : Side) (o : Option Heard) (e : PathEnd) → is_waiting (item_passed s o e).tcp.state ≡ true → is_waiting e.tcp.state ≡ true
  item_waits s o e =
      item_so (λ f. is_waiting f.tcp.state ≡ true → is_waiting e.tcp.state ≡ true) s o e (λ is. is) (λ is. is) (λ next is. is) (λ is. is) (λ is. is) (λ place is. is)

  passed_is : (d : Duty) (p : PathState Carried) → PathIs k right w did p → PathIs k right w did (passed d p)
  passed_is (Duty.Silent (SilentDuty.Timer s)) p h =
      with_is k right w did s (with_timer_settled p.clock (end_at s p)) p (kept_end k right w did (is_joined p.profile) s (end_at s p) (with_timer_settled p.clock (end_at s p)) refl refl (timer_up p.clock (end_at s p)) (end_is k right w did s p h)) (λ is. is) (λ is has. has) h
  passed_is (Duty.Step (StepDuty.Heard s index)) p h =
      with_is k right w did s _ p
      (passed_item (is_joined p.profile) s (item_of index (end_at s p)) (end_at s p) (item_found (is_joined p.profile) s index (end_at s p) (end_is k right w did s p h).items) (end_is k right w did s p h))
      (item_waits s (item_of index (end_at s p)) (end_at s p)) (λ is has. passed_stays s s (item_of index (end_at s p)) (end_at s p) has) h
  passed_is (Duty.Silent (SilentDuty.Keep s)) p h = by (is_dropped s (end_at s p)) _
    where
      e : PathEnd
      e = end_at s p

      by : (b : Bool) (held : Option ℕ) → PathIs k right w did (with_end s (record e { tcp = (if b then after_dropping_held e.tcp else after_keeping_held e.tcp); treated = record e.treated { held_edge = held } }) p)
      by true held =
          let f : PathEnd = record e { tcp = after_dropping_held e.tcp; treated = record e.treated { held_edge = held } } in
          with_is k right w did s f p (kept_end k right w did (is_joined p.profile) s e f refl refl (record { up = λ x. x; waits = λ x. x; past = λ x. x }) (end_is k right w did s p h)) (λ is. is) (λ is has. has) h
      by false held =
          let f : PathEnd = record e { tcp = after_keeping_held e.tcp; treated = record e.treated { held_edge = held } } in
          with_is k right w did s f p (kept_end k right w did (is_joined p.profile) s e f refl refl (record { up = λ x. x; waits = λ x. x; past = λ x. x }) (end_is k right w did s p h)) (λ is. is) (λ is has. has) h
  passed_is (Duty.Ask (AskDuty.CheckFailed s)) p h =
      let e = end_at s p in
      forgets_so (λ f. PathIs k right w did (with_end s f p)) p.profile.spelling.checksums (mapping_here e) e
      (λ recv forgotten. with_is k right w did s (record e { tcp = record e.tcp { recv = recv } }) p (kept_end k right w did (is_joined p.profile) s e (record e { tcp = record e.tcp { recv = recv } }) refl refl (record { up = λ x. x; waits = λ x. x; past = λ x. x }) (end_is k right w did s p h)) (λ is. is) (λ is has. has) h)
  passed_is (Duty.Silent (SilentDuty.PassFin s)) p h =
      let up = passing_up (end_at s p).tcp in
      with_is k right w did s (after_pass_fin (end_at s p)) p (kept_end k right w did (is_joined p.profile) s (end_at s p) (after_pass_fin (end_at s p)) refl refl up (end_is k right w did s p h)) up.waits (λ is has. has) h
  passed_is (Duty.Step (StepDuty.PlainAck s)) p h =
      with_is k right w did s (with_plain_ack (end_at s p)) p
      (kept_end k right w did (is_joined p.profile) s (end_at s p) (with_plain_ack (end_at s p)) refl refl (record { up = λ x. x; waits = λ x. x; past = λ x. x }) (end_is k right w did s p h)) (λ is. is) (λ is has. (has.0, λ sure. by s (has.1 sure))) h
    where
      by : (t : Side) → Needs k right t (end_at s p).modes → Needs k right t (with_plain_ack (end_at s p)).modes
      by = elim [ A ↦ λ has. has | B ↦ λ has. has ]
  passed_is (Duty.Step (StepDuty.Unmapped s)) p h =
      with_is k right w did s (after_pieces (end_at s p)) p
      (kept_end k right w did (is_joined p.profile) s (end_at s p) (after_pieces (end_at s p)) refl refl (record { up = λ x. x; waits = λ x. x; past = λ x. x }) (end_is k right w did s p h)) (λ is. is) (λ is has. has) h
  passed_is _ p h = h

  passed_known : (d : Duty) (ds : List Duty) (p : PathState Carried) → AreKnown k right w did p ds → AreKnown k right w did (passed d p) ds
  passed_known d ds p known = by d
    where
      with_known : (s : Side) (e : PathEnd) → Stays k right w did s e p → AreKnown k right w did (with_end s e p) ds
      with_known s e stays x spoken = with_voice k right w did s e p stays x (known x spoken)

      kept_known : (s : Side) (b : Bool) (held : Option ℕ)
          → AreKnown k right w did (with_end s (record (end_at s p) { tcp = (if b then after_dropping_held (end_at s p).tcp else after_keeping_held (end_at s p).tcp); treated = record (end_at s p).treated { held_edge = held } }) p) ds
      kept_known s true held = with_known s (record (end_at s p) { tcp = after_dropping_held (end_at s p).tcp; treated = record (end_at s p).treated { held_edge = held } }) (λ is has. has)
      kept_known s false held = with_known s (record (end_at s p) { tcp = after_keeping_held (end_at s p).tcp; treated = record (end_at s p).treated { held_edge = held } }) (λ is has. has)

      by : (d : Duty) → AreKnown k right w did (passed d p) ds
      by (Duty.Silent (SilentDuty.Timer s)) = with_known s (with_timer_settled p.clock (end_at s p)) (λ is has. has)
      by (Duty.Step (StepDuty.Heard s index)) = with_known s (item_passed s (item_of index (end_at s p)) (end_at s p)) (λ is has. passed_stays s s (item_of index (end_at s p)) (end_at s p) has)
      by (Duty.Silent (SilentDuty.Keep s)) = kept_known s (is_dropped s (end_at s p)) _
      by (Duty.Step (StepDuty.PlainAck s)) = with_known s (with_plain_ack (end_at s p)) (λ is has. same_knows k right w did s (end_at s p).modes (with_plain_ack (end_at s p)).modes refl has)
      by (Duty.Step (StepDuty.Unmapped s)) = with_known s (after_pieces (end_at s p)) (λ is has. has)
      by (Duty.Ask (AskDuty.CheckFailed s)) =
          let e = end_at s p in
          forgets_so (λ f. AreKnown k right w did (with_end s f p) ds) p.profile.spelling.checksums (mapping_here e) e
          (λ recv forgotten. with_known s (record e { tcp = record e.tcp { recv = recv } }) (λ is has. has))
      by (Duty.Silent (SilentDuty.PassFin s)) = with_known s (after_pass_fin (end_at s p)) (λ is has. has)
      by (Duty.Ask AskDuty.JoinAgain) = known
      by _ = known

  -- an agenda in place of the path's own
  agenda_by : (ds : List Duty) (p : PathState Carried) → AreKnown k right w did p ds → PathIs k right w did p → PathIs k right w did (with_agenda ds p)
  agenda_by ds p known h = record { a = h.a; b = h.b; copies = h.copies; known = by; waits = h.waits }
    where
      by : (x : Voice) → speaks x ds ≡ true → VoiceIs k right w did (with_agenda ds p) x
      by (Voice.Says A) spoken = known (Voice.Says A) spoken
      by (Voice.Says B) spoken = known (Voice.Says B) spoken
      by (Voice.Falls t) spoken = known (Voice.Falls t) spoken
      by (Voice.Aborts t) spoken = known (Voice.Aborts t) spoken

  tail_known : (d : Duty) (ds : List Duty) (p : PathState Carried) → AreKnown k right w did p (d ∷ ds) → AreKnown k right w did p ds
  tail_known d ds p known x spoken = known x (tail_speaks x (d ∷ ds) spoken)

  settled_is : (ds : List Duty) (p : PathState Carried) → AreKnown k right w did p ds → PathIs k right w did p → PathIs k right w did (settled ds p)
  settled_is [] p known h = agenda_by [] p known h
  settled_is (d ∷ ds) p known h = (elim (stands d p) as (λ b. PathIs k right w did (settled ds (passed d p)) → PathIs k right w did (if b then with_agenda (d ∷ ds) p else settled ds (passed d p)))
      [ true ↦ λ rest. agenda_by (d ∷ ds) p known h | false ↦ λ rest. rest ]) (settled_is ds (passed d p) (passed_known d ds p (tail_known d ds p known)) (passed_is d p h))

  -- ---- what is asked, and answered

  -- Keys that are told to a control book are those of its side and of the peer, and a token that is told is that of its key. An
  -- address has the HMAC of both keys, and the book has the peer's. A fast close is asked for where the side's application did.
  abbrev pub CallIs : Side → ControlCall → Type 0
  CallIs s (ControlCall.PeerKey key) = key ≡ drawn_key k right (peer s)
  CallIs s (ControlCall.Keys own other) = (own ≡ drawn_key k right s) × (other ≡ drawn_key k right (peer s)) × KeysFor k right w did s
  CallIs s (ControlCall.Fell path event) = IsSign event
  CallIs s (ControlCall.JoinBegin path) = s ≡ A
  CallIs s (ControlCall.JoinHeard path token) = (s ≡ B) × (w (peer s) × (right ≡ true → token ≡ token_of (drawn_key k right s)))
  CallIs s ControlCall.FastClose = did Deed.Closed s
  CallIs s (ControlCall.Heard id address port hmac) = HmacIs k right w did (peer s) s id address port hmac
  CallIs s _ = Unit {0}

  -- a path tells a reassembly book of the peer's fast close where the side was stopped by it
  abbrev pub ReceiveIs : Side → ReassemblyCall → Type 0
  ReceiveIs s (ReassemblyCall.Abort by_peer) = by_peer ≡ true → did Deed.Stopped s × did Deed.Closed (peer s)
  ReceiveIs s _ = Unit {0}

  abbrev pub AskIs : Ask → Type 0
  AskIs (Ask.Control s call) = CallIs s call
  AskIs (Ask.Send s call) = Unit {0}
  AskIs (Ask.Reassembly s call) = ReceiveIs s call
  AskIs (Ask.Local local) = Unit {0}

  -- a join that may go on has the book's keys
  abbrev pub BeginsAt : Side → Reply → Type 0
  BeginsAt A r = IfSome (keys_begun r) (BeginIs k right w did A)
  BeginsAt B r = Unit {0}

  -- a side falls back that didn't join
  abbrev pub FallIs : Side → Reply → Type 0
  FallIs s r = is_fall r ≡ true → did Deed.Fell s × (w s → ⊥)

  abbrev pub CallReplyIs : Side → ControlCall → Reply → Type 0
  CallReplyIs s (ControlCall.Look path) r =
      IfSome (carrier_told r) (λ key. did Deed.Closed s) × IfSome (announced_told r) (λ id. (s ≡ B) × did Deed.Keyed (peer s))
  CallReplyIs s (ControlCall.PeerKey key) r = did Deed.Keyed s
  CallReplyIs s (ControlCall.Keys own other) r = is_noted r ≡ true → did Deed.Keyed s
  CallReplyIs s (ControlCall.FastHeard key) r = is_stopped_by r ≡ true → did Deed.Stopped s
  CallReplyIs s (ControlCall.JoinHeard path token) r = IfSome (keys_begun r) (BeginIs k right w did s)
  CallReplyIs s (ControlCall.JoinBegin path) r = BeginsAt s r
  CallReplyIs s (ControlCall.Fell path event) r = FallIs s r
  CallReplyIs s _ r = Unit {0}

  abbrev pub ReplyIs : Ask → Reply → Type 0
  ReplyIs (Ask.Control s call) r = CallReplyIs s call r
  ReplyIs _ r = Unit {0}

  -- ---- events

  died_path : (p : PathState Carried) → PathIs k right w did p → PathIs k right w did (path_died p)
  died_path p h = record {
    a = unless_dead_is k right w did (is_joined p.profile) A p.a h.a;
    b = unless_dead_is k right w did (is_joined p.profile) B p.b h.b;
    copies = Every-nil _;
    known = λ x spoken. absurd (false≢true (sym (calm x (is_dead p.a.tcp.state) (is_dead p.b.tcp.state)) ∙ spoken));
    waits = λ waiting. h.waits (still (is_dead p.a.tcp.state) waiting);
  }
    where
      calm : (t : Voice) (x y : Bool) → speaks t ((if x then [] else Duty.Ask (AskDuty.Leave A) ∷ []) ++ ((if y then [] else Duty.Ask (AskDuty.Leave B) ∷ []) ++ rest_of_turn)) ≡ false
      calm t true true = refl
      calm t true false = refl
      calm t false true = refl
      calm t false false = refl

      still : (b : Bool) → is_waiting (if b then p.a else died p.a).tcp.state ≡ true → is_waiting p.a.tcp.state ≡ true
      still = elim [ true ↦ λ waiting. waiting | false ↦ λ waiting. absurd (false≢true waiting) ]

  line_is : (action : LineAction) (p : PathState Carried) → PathIs k right w did p → PathIs k right w did (after_line action p)
  line_is LineAction.Die p h = died_path p h
  line_is (LineAction.Prio s backup) p h =
      let e = end_at s p in let own = end_is k right w did s p h in
      goes_is k right w did s (with_priority backup e) (emission s) p
      (requeued k right w did (is_joined p.profile) s (with_priority backup e).notices.queue e
      (prio_queued (NoteIs k right w did s) (λ id. tt) (λ id address port. tt) (λ backup. tt) backup (is_dead e.tcp.state) e.notices.queue own.queued) own)
      (λ waiting. waiting) (λ t spoken. absurd (false≢true spoken)) (λ is has. has) h
  line_is (LineAction.Announce s id) p h = agenda_is k right w did _ p (λ t spoken. absurd (false≢true spoken)) h
  line_is (LineAction.Withdraw s id) p h = agenda_is k right w did _ p (λ t spoken. absurd (false≢true spoken)) h

  -- A begins a join, where the path joins
  begun_is : (r : Reply) (dead living : List Duty) (p : PathState Carried) → is_joined p.profile ≡ true → IfSome (keys_begun r) (BeginIs k right w did A)
      → ((t : Voice) → speaks t dead ≡ true → speaks t p.agenda ≡ true) → ((t : Voice) → speaks t living ≡ true → speaks t p.agenda ≡ true) → PathIs k right w did p → PathIs k right w did (join_begun r dead living p)
  begun_is r dead living p joins is to_dead to_living h = by (is_never r)
    where
      own : EndIs k right w did true A p.a
      own = subst (λ j. EndIs k right w did j A p.a) joins h.a

      open_waits : (o : Option KeyPair) → is_waiting (opened_by o p.a).tcp.state ≡ true → is_waiting p.a.tcp.state ≡ true
      open_waits None waiting = waiting
      open_waits (Some keys) waiting =
          (elim (is_waiting p.a.tcp.state) as (λ b. is_waiting p.a.tcp.state ≡ b → is_waiting (if b then after_begin p.a.tcp else p.a.tcp).state ≡ true → is_waiting p.a.tcp.state ≡ true)
          [ true ↦ λ waits waiting. waits | false ↦ λ waits waiting. waiting ]) refl waiting

      by : (b : Bool) → PathIs k right w did (if b then goes_on A (never_joined r p.a) dead p else goes_on A (opened_by (keys_begun r) p.a) living p)
      by true = goes_is k right w did A (never_joined r p.a) dead p (refused_is k right w did (is_joined p.profile) A r (died p.a) (died_is k right w did (is_joined p.profile) A p.a h.a)) (λ waiting. absurd (false≢true waiting)) to_dead (λ is has. has) h
      by false =
          goes_is k right w did A (opened_by (keys_begun r) p.a) living p
          (subst (λ j. EndIs k right w did j A (opened_by (keys_begun r) p.a)) (sym joins) (opened_end k right w did A (keys_begun r) p.a is own refl))
          (open_waits (keys_begun r)) to_living (λ joined has. opened_stays k right w did (keys_begun r) p.a is has) h

  fired_is : (s : Side) (q : PathState Carried) → is_up (end_at s q).tcp ≡ true → PathIs k right w did q → PathIs k right w did (timer_fired s q)
  fired_is s q up h = by (is_sixth e.tcp)
    where
      e : PathEnd
      e = end_at s q

      own : EndIs k right w did (is_joined q.profile) s e
      own = end_is k right w did s q h

      by : (b : Bool) → PathIs k right w did (goes_on s (record e { tcp = (if b then after_death true e.tcp else after_expiry q.clock e.tcp) }) (template_fired b s) q)
      by true =
          goes_is k right w did s (record e { tcp = after_death true e.tcp }) (template_fired true s) q (record { modes = own.modes; items = own.items; woken = λ is woken. absurd (false≢true woken); past = λ is so. absurd (false≢true so); carries = own.carries; queued = own.queued; failing = own.failing })
          (λ waiting. absurd (false≢true waiting)) (λ t spoken. absurd (false≢true spoken)) (λ is has. has) h
      by false =
          goes_by k right w did s (record e { tcp = after_expiry q.clock e.tcp }) (template_fired false s) q (record { modes = own.modes; items = own.items; woken = λ is woken. own.woken is up; past = own.past; carries = own.carries; queued = own.queued; failing = own.failing })
          (λ waiting. waiting) (voices k right w did (with_end s (record e { tcp = after_expiry q.clock e.tcp }) q) (template_fired false s) (λ t spoken is. own_knows k right w did s t (record e { tcp = after_expiry q.clock e.tcp }) q (same_or_calm t s spoken) (own.woken is up)) (λ t. (refl, refl))) h

  event_is : (o : Option Event) (r : Reply) (p : PathState Carried) → next_event p ≡ o → ReplyIs (step_for p.link.path o) r → PathIs k right w did p → PathIs k right w did (happens_if values o r p)
  event_is None r p next is h = agenda_is k right w did _ p (λ t spoken. absurd (false≢true spoken)) h
  event_is (Some (Event.Joins tick)) r p next is h =
      begun_is r (leaves A) (emission A) (record (at_tick tick p) { joined_at = None }) (h.waits (next_happens p (Event.Joins tick) next)) is
      (λ t spoken. absurd (false≢true spoken)) (λ t spoken. absurd (false≢true spoken))
      (record { a = h.a; b = h.b; copies = h.copies; known = h.known; waits = h.waits })
  event_is (Some (Event.Takes line)) r p next is h =
      line_is line.action (record (at_tick line.tick p) { lines = tail_of p.lines }) (record { a = h.a; b = h.b; copies = h.copies; known = h.known; waits = h.waits })
  event_is (Some (Event.Arrives due)) r p next is h =
      copy_is k right w did due.to (arriving due p.link) p (record (at_tick due.tick p) { link = after_delivery due p.link }) said (delivered_is k right w did due p h)
    where
      said : (f : Flight Carried) → arriving due p.link ≡ Some f → SegmentIs k right w did p.profile (peer due.to) f.carried.segment
      said f is =
          let found = find_every (FlightIs k right w did p.profile) (is_due due) p.link.under_way f h.copies is in
          let parts = and_parts (f.tick == due.tick) (same_side f.to due.to && f.number == due.copy) found.1 in
          let to = one_side f.to due.to (and_parts (same_side f.to due.to) (f.number == due.copy) parts.1).0 in
          subst (λ s. SegmentIs k right w did p.profile (peer s) f.carried.segment) to found.0
  event_is (Some (Event.Fires s tick)) r p next is h = (elim s as (λ t. is_up (end_at t p).tcp ≡ true → PathIs k right w did (timer_fired t (at_tick tick p)))
      [ A ↦ λ up. fired_is A (at_tick tick p) up h_q | B ↦ λ up. fired_is B (at_tick tick p) up h_q ]) (next_happens p (Event.Fires s tick) next)
    where
      h_q : PathIs k right w did (at_tick tick p)
      h_q = record { a = h.a; b = h.b; copies = h.copies; known = h.known; waits = h.waits }

  -- ---- replies

  -- an end that is up knows what it has to
  abbrev Said : Side → PathState Carried → Type 0
  Said s p = OnJoined k right w did p.profile (Knows k right w did s (end_at s p).modes)

  -- what is still to be said after a verdict; no side falls on a path that joins
  not_joined : (s : Side) (r : Reply) (p : PathState Carried) → Said s p → FallIs s r → is_fall r ≡ true → (is_joined p.profile ≡ false) × did Deed.Fell s
  not_joined s r p said is fell = (by (is_joined p.profile) refl, (is fell).0)
    where
      by : (b : Bool) → is_joined p.profile ≡ b → b ≡ false
      by = elim [ true ↦ λ joins. absurd ((is fell).1 (said joins).0) | false ↦ λ joins. refl ]

  fell_known : (s : Side) (e : PathEnd) (r : Reply) (p : PathState Carried) → Said s p → FallIs s r → Stays k right w did s e p → PathIs k right w did p
      → AreKnown k right w did (with_end s e p) (fell_duties s r p)
  fell_known s e r p said is stays h =
      fell_cases (λ ds. AreKnown k right w did (with_end s e p) ds) s p r
      (λ fell. replaced_known k right w did s (Duty.Ask (AskDuty.GoIdentity s)) e p
      (λ x falling. subst (VoiceIs k right w did (with_end s e p)) (sym (falls_same x s falling)) (with_voice k right w did s e p stays (Voice.Falls s) (not_joined s r p said is fell))) stays h)
      (λ reason x spoken. absurd (false≢true spoken)) (λ reason x spoken. absurd (false≢true spoken))
      (fewer_known k right w did s e (left p) p (none_left k right w did p) stays h)

  -- an end that knows what it knew goes on after a verdict
  verdict_is : (s : Side) (e : PathEnd) (r : Reply) (p : PathState Carried) → known_in e.modes ≡ known_in (end_at s p).modes → told_in e ≡ told_in (end_at s p)
      → NoWaking (end_at s p).tcp e.tcp → Said s p → FallIs s r → PathIs k right w did p → PathIs k right w did (goes_on s e (fell_duties s r p) p)
  verdict_is s e r p same told up said is h =
      let stays = stays_same k right w did s e p same in
      goes_by k right w did s e (fell_duties s r p) p (kept_end k right w did (is_joined p.profile) s (end_at s p) e same told up (end_is k right w did s p h)) up.waits
      (fell_known s e r p said is stays h) h

  told_is : (s : Side) (event : FallEvent) (r : Reply) (p : PathState Carried) → Said s p → FallIs s r → PathIs k right w did p → PathIs k right w did (answered_fell s event r p)
  told_is s event r p said is h =
      verdict_is s (after_fell event r (end_at s p)) r p (fell_leaves event r (end_at s p).modes) refl (record { up = λ x. x; waits = λ x. x; past = λ x. x }) said is h

  -- where the place of a failed check is told, B's key is known
  lost : (s : Side) (m : Modes) (o : Option ℕ) → Knows k right w did s m → IfSome o (λ place. OfB s (w B))
  lost s m None knows = tt
  lost s m (Some place) knows = knows_b k right w did s m knows

  checked_end : (joined : Bool) (s : Side) (r : Reply) (told broken : Option ℕ) (recv : Receiving) (e : PathEnd) → (joined ≡ true → Knows k right w did s e.modes) → EndIs k right w did joined s e
      → EndIs k right w did joined s (checked_so r told broken recv e)
  checked_end joined s r told broken recv e knows h = let same = verdict_leaves r e.modes in record {
    modes = same_modes k right w did joined s e.modes (checked_so r told broken recv e).modes same h.modes;
    items = h.items;
    woken = λ is up. same_knows k right w did s e.modes (checked_so r told broken recv e).modes same (h.woken is up);
    past = h.past;
    carries = h.carries;
    queued = h.queued;
    failing = λ is. lost s e.modes broken (knows is);
  }

  checked_is : (s : Side) (r : Reply) (p : PathState Carried) → Said s p → FallIs s r → PathIs k right w did p → PathIs k right w did (answered_check_failed s r p)
  checked_is s r p said is h =
      check_failed_so (λ e. PathIs k right w did (goes_on s e (fell_duties s r p) p)) p.profile.spelling.checksums r (end_at s p)
      (λ told broken recv forgets.
      let e = checked_so r told broken recv (end_at s p) in
      let stays = stays_same k right w did s e p (verdict_leaves r (end_at s p).modes) in
      goes_by k right w did s e (fell_duties s r p) p (checked_end (is_joined p.profile) s r told broken recv (end_at s p) said (end_is k right w did s p h)) (λ waiting. waiting)
      (fell_known s e r p said is stays h) h)

  -- a duty of this side that says something comes in the place of the first one
  says_next : (s : Side) (d : Duty) (e : PathEnd) (p : PathState Carried) → ((x : Voice) → is_said_by x d ≡ true → x ≡ Voice.Says s) → known_in e.modes ≡ known_in (end_at s p).modes
      → told_in e ≡ told_in (end_at s p) → NoWaking (end_at s p).tcp e.tcp → Said s p → PathIs k right w did p → PathIs k right w did (goes_on s e (replaced d p.agenda) p)
  says_next s d e p own same told up said h =
      let stays = stays_same k right w did s e p same in
      goes_by k right w did s e (replaced d p.agenda) p (kept_end k right w did (is_joined p.profile) s (end_at s p) e same told up (end_is k right w did s p h)) up.waits
      (replaced_known k right w did s d e p
      (λ x telling. subst (VoiceIs k right w did (with_end s e p)) (sym (own x telling)) (with_voice k right w did s e p stays (Voice.Says s) said)) stays h) h

  reset_is : (s : Side) (reason : Option ℕ) (ds : List Duty) (p : PathState Carried) → Fewer k right w did p ds → PathIs k right w did p → PathIs k right w did (reset_on values s reason ds p)
  reset_is s reason ds p fewer h =
      sent_is k right w did s (reset_of s reason p) (died (end_at s p)) ds p (reset_said_is k right w did p.profile s (end_at s p) (end_is k right w did s p h) reason)
      (died_is k right w did (is_joined p.profile) s (end_at s p) (end_is k right w did s p h)) (λ waiting. absurd (false≢true waiting)) fewer (λ is has. has) h

  break_is : (s : Side) (reason : ℕ) (r : Reply) (p : PathState Carried) → PathIs k right w did p → PathIs k right w did (answered_break values s reason r p)
  break_is s reason r p h = elim (end_at s p).treated.asked as (λ b. PathIs k right w did (if b then answered_ack_out s r (resets s reason) p else reset_on values s (Some reason) (leaves s) p)) [
    | true ↦ same_goes k right w did s _ _ p refl refl (record { up = λ x. x; waits = λ x. x; past = λ x. x }) (λ t spoken. absurd (false≢true spoken)) h
    | false ↦ reset_is s (Some reason) (leaves s) p (λ t spoken. absurd (false≢true spoken)) h
  ]

  grant_is : (s : Side) (o : Option Grant) (r : Reply) (p : PathState Carried) → PathIs k right w did p → PathIs k right w did (answered_grant s o r p)
  grant_is s None r p h = same_goes k right w did s _ _ p refl refl (record { up = λ x. x; waits = λ x. x; past = λ x. x }) (none_left k right w did p) h
  grant_is s (Some grant) r p h = same_goes k right w did s _ _ p refl refl (record { up = λ x. x; waits = λ x. x; past = λ x. x }) (λ t is. is) h

  up_knows : (s : Side) (p : PathState Carried) → is_up (end_at s p).tcp ≡ true → PathIs k right w did p → Said s p
  up_knows s p up h is = (end_is k right w did s p h).woken is up

  data_is : (s : Side) (o : Option Record) (r : Reply) (p : PathState Carried) → first_unsent (end_at s p) ≡ o → data_stands p.profile s (end_at s p) o ≡ true → PathIs k right w did p
      → PathIs k right w did (answered_data values s o r p)
  data_is s (Some unsent) r p first stands h =
      let e = end_at s p in
      let opens = not_closed (is_closed_to_segments e.tcp.state) (and_parts (not (is_closed_to_segments e.tcp.state)) (fits e.tcp unsent) stands).0 in
      same_sent k right w did s _ _ p.agenda p (record_or_ack_is k right w did p.profile s e (end_is k right w did s p h) (up_knows s p (open_is_up e.tcp opens) h) (first_unsent e)) refl refl
      (sending_up Occasion.Unsent p.clock e.tcp) (λ t is. is) h
  data_is s None r p first stands h = grant_is s (grant_in r) r p h

  heard_answered : (s : Side) (item : Heard) (r : Reply) (p : PathState Carried) → ItemIs k right w did (is_joined p.profile) s item → Said s p → ReplyIs (heard_ask values s item p) r → PathIs k right w did p → PathIs k right w did (answered_heard values s item r p)
  heard_answered s (Heard.DataAck next window) r p own said is h =
      elim (is_acked r && nat_lt 0 next) as (λ b. PathIs k right w did (goes_on s (with_acked next r (end_at s p)) (if b then replaced (Duty.Ask (AskDuty.AckHeard s)) p.agenda else left p) p)) [
        | true ↦ says_next s (Duty.Ask (AskDuty.AckHeard s)) (with_acked next r (end_at s p)) p (λ x telling. tells_same x s telling) refl refl (record { up = λ x. x; waits = λ x. x; past = λ x. x }) said h
        | false ↦ same_goes k right w did s (with_acked next r (end_at s p)) (left p) p refl refl (record { up = λ x. x; waits = λ x. x; past = λ x. x }) (none_left k right w did p) h
      ]
  heard_answered s (Heard.Mapping fin) r p own said is h = by (is_clash (end_at s p)) is
    where
      by : (b : Bool) → ReplyIs (if b then break_ask values s 1 p else fell_ask s FallEvent.MappingHeard p) r
          → PathIs k right w did (if b then answered_break values s 1 r p else goes_on s (with_learned (after_fell FallEvent.MappingHeard r (end_at s p))) (fell_duties s r p) p)
      by true is = break_is s 1 r p h
      by false is =
          verdict_is s (with_learned (after_fell FallEvent.MappingHeard r (end_at s p))) r p (verdict_leaves r (end_at s p).modes) refl (record { up = λ x. x; waits = λ x. x; past = λ x. x }) said is h
  heard_answered s (Heard.DataFin place) r p own said is h =
      verdict_is s (with_data_fin place (after_fell FallEvent.MappingHeard r (end_at s p))) r p (verdict_leaves r (end_at s p).modes) refl (record { up = λ x. x; waits = λ x. x; past = λ x. x }) said is h
  heard_answered s (Heard.InfiniteMapping place position) r p own said is h =
      infinite_came_so (λ e. PathIs k right w did (goes_on s e (fell_duties s r p) p)) place position r (end_at s p)
      (λ other. verdict_is s (infinite_so r other (end_at s p)) r p (verdict_leaves r (end_at s p).modes) refl (record { up = λ x. x; waits = λ x. x; past = λ x. x }) said is h)
  heard_answered s (Heard.Keys mine other) r p own said is h =
      goes_is k right w did s _ _ p (keys_are k right w did (is_joined p.profile) s r (Some (record { own = mine; peer = other })) (end_at s p) own is (end_is k right w did s p h)) (λ waiting. waiting) (none_left k right w did p)
      (keys_stay k right w did s r (Some (record { own = mine; peer = other })) p own) h
  heard_answered s Heard.Dss r p own said is h = agenda_is k right w did _ p (none_left k right w did p) h
  heard_answered s (Heard.PeerKey key) r p own said is h = agenda_is k right w did _ p (none_left k right w did p) h
  heard_answered s (Heard.Join form) r p own said is h = agenda_is k right w did _ p (none_left k right w did p) h
  heard_answered s (Heard.Notice notice) r p own said is h =
      let e = end_at s p in let held = end_is k right w did s p h in
      goes_is k right w did s (after_peer_notice notice r e) (left p) p
      (requeued k right w did (is_joined p.profile) s (with_echo notice r e.notices.queue) e
      (echo_queued (NoteIs k right w did s) (λ id. tt) (λ id address port. tt) (λ backup. tt) notice r e.notices.queue held.queued) held)
      (λ waiting. waiting) (none_left k right w did p) (λ is has. has) h
  heard_answered s Heard.Fail r p own said is h = by (may_go_infinite (end_at s p)) is
    where
      by : (b : Bool) → ReplyIs (if b then Ask.Send s (SendCall.GoInfinite (path_of p)) else fell_ask s (FallEvent.FailHeard false) p) r
          → PathIs k right w did (if b then book_answered s r p else answered_fell s (FallEvent.FailHeard false) r p)
      by true is =
          says_next s (Duty.Ask (AskDuty.FailHeard s)) (with_infinite r (end_at s p)) p (λ x telling. tells_same x s telling) refl refl (record { up = λ x. x; waits = λ x. x; past = λ x. x }) said h
      by false is = told_is s (FallEvent.FailHeard false) r p said is h
  heard_answered s (Heard.FastClose key) r p own said is h = (elim (is_stopped_by r) as (λ b. (b ≡ true → did Deed.Stopped s) → PathIs k right w did (with_agenda (if b then stops s else left p) p))
      [ true ↦ λ stopped. agenda_by (stops s) p (known s (stopped refl) own) h | false ↦ λ stopped. agenda_is k right w did _ p (none_left k right w did p) h ]) is
    where
      known : (t : Side) → did Deed.Stopped t → did Deed.Closed (peer t) → (x : Voice) → speaks x (stops t) ≡ true → VoiceIs k right w did p x
      known A stopped closed (Voice.Aborts A) spoken = (stopped, closed)
      known B stopped closed (Voice.Aborts B) spoken = (stopped, closed)
      known A stopped closed (Voice.Aborts B) spoken = absurd (false≢true spoken)
      known B stopped closed (Voice.Aborts A) spoken = absurd (false≢true spoken)
      known t stopped closed (Voice.Says u) spoken = absurd (false≢true spoken)
      known t stopped closed (Voice.Falls u) spoken = absurd (false≢true spoken)

  item_answered : (s : Side) (o : Option Heard) (r : Reply) (p : PathState Carried) → IfSome o (ItemIs k right w did (is_joined p.profile) s) → Said s p → ReplyIs (item_ask values s o p) r → PathIs k right w did p → PathIs k right w did (answered_item values s o r p)
  item_answered s None r p own said is h = agenda_is k right w did _ p (none_left k right w did p) h
  item_answered s (Some item) r p own said is h = heard_answered s item r p own said is h

  piece_is : (s : Side) (o : Option Piece) (taken : Bool) (p : PathState Carried) → PathIs k right w did p → PathIs k right w did (answered_piece s o taken p)
  piece_is s None taken p h = same_goes k right w did s _ _ p refl refl (record { up = λ x. x; waits = λ x. x; past = λ x. x }) (λ t spoken. absurd (false≢true spoken)) h
  piece_is s (Some piece) true p h = same_goes k right w did s _ _ p refl refl (record { up = λ x. x; waits = λ x. x; past = λ x. x }) (λ t is. is) h
  piece_is s (Some piece) false p h = same_goes k right w did s _ _ p refl refl (record { up = λ x. x; waits = λ x. x; past = λ x. x }) (λ t spoken. absurd (false≢true spoken)) h

  fin_is : (s : Side) (set : Bool) (p : PathState Carried) → PathIs k right w did p → PathIs k right w did (answered_fin_heard s set p)
  fin_is s true p h = same_goes k right w did s _ _ p refl refl (record { up = λ x. x; waits = λ x. x; past = λ x. x }) (none_left k right w did p) h
  fin_is s false p h = same_goes k right w did s _ _ p refl refl (record { up = λ x. x; waits = λ x. x; past = λ x. x }) (λ t spoken. absurd (false≢true spoken)) h

  -- what an end says
  ack_said_is : (s : Side) (position : ℕ) (fin : Option ℕ) (p : PathState Carried) → PathIs k right w did p → SegmentIs k right w did p.profile s (ack_said p.profile s position fin (end_at s p))
  ack_said_is s position fin p h = ack_is k right w did p.profile s (end_at s p) (end_is k right w did s p h) position fin

  answer_is : (s : Side) (p : PathState Carried) → Said s p → PathIs k right w did p → SegmentIs k right w did p.profile s (answer_of s p)
  answer_is s p said h =
      if_so (SegmentIs k right w did p.profile s) (end_at s p).tcp.due.syn_ack (syn_ack_said p.profile s (end_at s p)) (ack_said p.profile s (end_at s p).tcp.send.nxt None (end_at s p))
      (syn_ack_is k right w did p.profile s (end_at s p) (end_is k right w did s p h) said) (ack_said_is s (end_at s p).tcp.send.nxt None p h)

  resend_is : (s : Side) (p : PathState Carried) → Said s p → PathIs k right w did p → SegmentIs k right w did p.profile s (resend_of s p)
  resend_is s p said h = by (has_records (end_at s p).tcp) (end_at s p).modes.owes_third (end_at s p).notices.fast_closed (is_data_fin_owed (end_at s p))
    where
      e : PathEnd
      e = end_at s p

      by : (records third closed owes : Bool) → SegmentIs k right w did p.profile s (if records then record_or_ack p.profile s (first_record e) e
          else (if third then ack_said p.profile s e.tcp.send.nxt None e
          else (if closed then carried_said p.profile s e.notices.carrier e
          else (if owes then ack_said p.profile s e.tcp.send.nxt e.sending.known_end e else ack_said p.profile s (e.tcp.send.una - 1) None e))))
      by true third closed owes = record_or_ack_is k right w did p.profile s e (end_is k right w did s p h) said (first_record e)
      by false true closed owes = ack_said_is s e.tcp.send.nxt None p h
      by false false true owes = carried_is k right w did p.profile s e (end_is k right w did s p h) (dss_known k right w did p.profile s e (end_is k right w did s p h) said) e.notices.carrier (end_is k right w did s p h).carries
      by false false false true = ack_said_is s e.tcp.send.nxt e.sending.known_end p h
      by false false false false = ack_said_is s (e.tcp.send.una - 1) None p h

  -- an end that is connected knows that its side joined
  fast_close_is : (s : Side) (p : PathState Carried) → is_fast_close_due (end_at s p) ≡ true → PathIs k right w did p → SegmentIs k right w did p.profile s (fast_close_of s p)
  fast_close_is s p due h =
      let e = end_at s p in
      let own = end_is k right w did s p h in
      carried_is k right w did p.profile s e own
      (λ joins. of_b s (w B) (own.past joins (connected_past e.tcp.state (and_parts (is_connected e.tcp.state) _ due).0))) e.notices.carrier own.carries

  note_is : (s : Side) (p : PathState Carried) → is_note_due (end_at s p) ≡ true → PathIs k right w did p → SegmentIs k right w did p.profile s (note_of s p)
  note_is s p due h =
      let e = end_at s p in
      let own = end_is k right w did s p h in
      let notes = and_parts (is_connected e.tcp.state) _ (and_parts (may_note e) _ due).0 in
      noted_is k right w did p.profile s e own
      (λ joins. of_b s (w B) (own.past joins (connected_past e.tcp.state notes.0))) (and_parts e.modes.clear _ notes.1).0
      (first_of e.notices.queue) (first_queued (NoteIs k right w did s) (λ id. tt) (λ id address port. tt) (λ backup. tt) e.notices.queue own.queued)

  fin_segment_is : (s : Side) (p : PathState Carried) → Said s p → PathIs k right w did p → SegmentIs k right w did p.profile s (fin_segment_of s p)
  fin_segment_is s p said h = fin_options_are k right w did p.profile s (end_at s p) (end_is k right w did s p h) said (fin_position (end_at s p).tcp.send)

  refusal_is : (s : Side) (p : PathState Carried) → PathIs k right w did p → SegmentIs k right w did p.profile s (refusal_of s p)
  refusal_is s p h = reset_options_are k right w did p.profile s (end_at s p) (end_is k right w did s p h) (Some 1)

  -- the first key that was heard, or that there is none
  key_kept : (s : Side) (o : Option ℕ) (r : Reply) (p : PathState Carried) → IfSome o (λ key. key ≡ drawn_key k right (peer s)) → Said s p → ReplyIs (peer_key_ask s o p) r → PathIs k right w did p
      → PathIs k right w did (answered_peer_key s o r p)
  key_kept s None r p is said falls h = told_is s FallEvent.PlainHandshake r p said falls h
  key_kept s (Some key) r p is said falls h =
      let own = end_is k right w did s p h in let m = (end_at s p).modes in
      goes_is k right w did s _ _ p (record {
        modes = rekeyed k right w did (is_joined p.profile) s key m.clear m is (λ joins now. now) falls own.modes;
        items = own.items;
        woken = λ joined up. rekeyed_knows k right w did s key m.clear m is (own.woken joined up);
        past = own.past;
        carries = own.carries;
        queued = own.queued;
        failing = own.failing;
      }) (λ waiting. waiting) (none_left k right w did p) (λ joined has. rekeyed_knows k right w did s key m.clear m is has) h

  -- both keys that were told are kept
  keys_kept : (s : Side) (o : Option KeyPair) (r : Reply) (p : PathState Carried) → IfSome o (PairIs k right w did (is_joined p.profile) s) → Said s p → ReplyIs (opened_ask s o p) r → PathIs k right w did p → PathIs k right w did (answered_opened s o r p)
  keys_kept s None r p pair said falls h = told_is s FallEvent.PlainHandshake r p said falls h
  keys_kept s (Some keys) r p pair said falls h =
      goes_is k right w did s _ _ p (keys_are k right w did (is_joined p.profile) s r (Some keys) (end_at s p) pair falls (end_is k right w did s p h)) (λ waiting. waiting) (none_left k right w did p)
      (keys_stay k right w did s r (Some keys) p pair) h

  plain_ack_is : (s : Side) (r : Reply) (p : PathState Carried) → Said s p → ReplyIs (plain_ack_ask values s p) r → PathIs k right w did p → PathIs k right w did (answered_plain_ack values s r p)
  plain_ack_is s r p said is h = by (breaks_by_ack p.profile (end_at s p)) is
    where
      by : (b : Bool) → ReplyIs (if b then break_ask values s 6 p else fell_ask s FallEvent.PlainAck p) r
          → PathIs k right w did (if b then answered_break values s 6 r p else goes_on s (with_plain_ack (after_fell FallEvent.PlainAck r (end_at s p))) (fell_duties s r p) p)
      by true is = break_is s 6 r p h
      by false is =
          verdict_is s (with_plain_ack (after_fell FallEvent.PlainAck r (end_at s p))) r p (verdict_leaves r (end_at s p).modes) refl (record { up = λ x. x; waits = λ x. x; past = λ x. x }) said is h

  -- a FIN that stands for the end of the stream
  plain_fin_is : (s : Side) (set : Bool) (p : PathState Carried) → PathIs k right w did p → PathIs k right w did (answered_plain_fin s set p)
  plain_fin_is s true p h = same_goes k right w did s _ _ p refl refl (record { up = λ x. x; waits = λ x. x; past = λ x. x }) (none_left k right w did p) h
  plain_fin_is s false p h = same_goes k right w did s _ _ p refl refl (record { up = λ x. x; waits = λ x. x; past = λ x. x }) (λ t spoken. absurd (false≢true spoken)) h

  -- the join that B heard of
  heard_join : (s : Side) (o : Option KeyPair) (asked : Option Asked) (r : Reply) (p : PathState Carried) → (IfSome asked (λ x. IfSome o (BeginIs k right w did s))) → IfSome asked (AskedIs k right w did (is_joined p.profile) s) → PathIs k right w did p → PathIs k right w did (join_taken s o asked r p)
  heard_join s None (Some asked) r p begins heard h =
      same_goes k right w did s (with_mode_refused r (end_at s p)) (replaced (Duty.Send (SendDuty.Refuse s)) p.agenda) p refl refl (record { up = λ x. x; waits = λ x. x; past = λ x. x })
      (λ t spoken. replaced_speaks t (Duty.Send (SendDuty.Refuse s)) p.agenda refl spoken) h
  heard_join s None None r p begins heard h = agenda_is k right w did _ p (λ t spoken. replaced_speaks t (Duty.Send (SendDuty.Refuse s)) p.agenda refl spoken) h
  heard_join s (Some keys) None r p begins heard h = agenda_is k right w did _ p (λ t spoken. replaced_speaks t (Duty.Send (SendDuty.Refuse s)) p.agenda refl spoken) h
  heard_join s (Some keys) (Some asked) r p begins heard h =
      let joins = heard.0 in
      let now : EndIs k right w did true s (end_at s p) = subst (λ j. EndIs k right w did j s (end_at s p)) joins (end_is k right w did s p h) in
      let told : AskedIs k right w did true s asked = subst (λ j. AskedIs k right w did j s asked) joins heard in
      let met : Knows k right w did s (joined_by keys asked (end_at s p)).modes = joined_knows k right w did s keys asked (end_at s p) begins told in
      goes_by k right w did s (joined_by keys asked (end_at s p)) (replaced (Duty.Send (SendDuty.SynAck s)) p.agenda) p
      (subst (λ j. EndIs k right w did j s (joined_by keys asked (end_at s p))) (sym joins) (joined_end k right w did s keys asked (end_at s p) begins told now))
      (joined_waits k right w did keys asked (end_at s p))
      (replaced_known k right w did s (Duty.Send (SendDuty.SynAck s)) (joined_by keys asked (end_at s p)) p
      (λ x telling. subst (VoiceIs k right w did (with_end s (joined_by keys asked (end_at s p)) p)) (sym (tells_same x s telling)) (λ is. own_knows k right w did s s (joined_by keys asked (end_at s p)) p refl met))
      (λ is has. met) h) h

  -- the fast close that an end is told to carry
  look_carries : (s : Side) (r : Reply) (e : PathEnd) → IfSome (carrier_told r) (λ key. did Deed.Closed s) → IfSome e.notices.carrier (λ key. did Deed.Closed s)
      → IfSome (notices_told r e).carrier (λ key. did Deed.Closed s)
  look_carries s (Reply.Control (ControlReply.Standing mode standby sole notice)) e closed was = by (is_dead e.tcp.state) notice closed
    where
      if_may : (b : Bool) (n : OwnNotices) → IfSome e.notices.carrier (λ key. did Deed.Closed s) → n.carrier ≡ e.notices.carrier → IfSome (if b then n else e.notices).carrier (λ key. did Deed.Closed s)
      if_may true n was same = subst (λ o. IfSome o (λ key. did Deed.Closed s)) (sym same) was
      if_may false n was same = was

      kept : (b : Bool) (key : ℕ) → did Deed.Closed s → IfSome (if b then e.notices.carrier else Some key) (λ key. did Deed.Closed s)
      kept = elim [ true ↦ λ key closed. was | false ↦ λ key closed. closed ]

      by : (dead : Bool) (notice : Notice) → IfSome (carrier_in notice) (λ key. did Deed.Closed s)
          → IfSome (if dead then e.notices else after_notice notice (may_note e) e.notices).carrier (λ key. did Deed.Closed s)
      by true notice closed = was
      by false Notice.Nothing closed = was
      by false (Notice.Announce id) closed = if_may (may_note e) _ was refl
      by false (Notice.Withdraw id) closed = was
      by false (Notice.Carrier key) closed = kept e.notices.fast_closed key closed
      by false Notice.Reset closed = was
  look_carries s (Reply.Control ControlReply.Noted) e closed was = was
  look_carries s _ e closed was = was

  identity_knows : (s : Side) (e : PathEnd) → Knows k right w did s e.modes → Knows k right w did s (in_identity e).modes
  identity_knows = elim [ A ↦ λ e has. has | B ↦ λ e has. has ]

  answered_is : (d : Duty) (r : Reply) (p : PathState Carried) → stands d p ≡ true → ((x : Voice) → is_said_by x d ≡ true → VoiceIs k right w did p x)
      → ReplyIs (ask_for values d p) r → PathIs k right w did p → PathIs k right w did (answered values d r p)
  answered_is (Duty.Ask AskDuty.JoinAgain) r p stands said is h =
      begun_is r (replaced (Duty.Ask (AskDuty.Leave A)) p.agenda) (left p) p (h.waits (and_parts (is_waiting p.a.tcp.state) (is_none p.joined_at) stands).0) is
      (λ t spoken. replaced_speaks t (Duty.Ask (AskDuty.Leave A)) p.agenda refl spoken) (none_left k right w did p) h
  answered_is (Duty.Step (StepDuty.Look s)) r p stands said is h =
      let e = end_at s p in let own = end_is k right w did s p h in let same = look_leaves r e.modes in
      goes_is k right w did s (after_look r e) (left p) p
      (record {
        modes = same_modes k right w did (is_joined p.profile) s e.modes (modes_told r e.modes) same own.modes;
        items = own.items;
        woken = λ joined up. same_knows k right w did s e.modes (modes_told r e.modes) same (own.woken joined up);
        past = own.past;
        carries = look_carries s r e is.0 own.carries;
        queued = look_queued (NoteIs k right w did s) (λ id. tt) (λ id address port. tt) (λ backup. tt) r e is.1 own.queued;
        failing = own.failing;
      })
      (λ waiting. waiting) (none_left k right w did p) (λ joined has. same_knows k right w did s e.modes (modes_told r e.modes) same has) h
  answered_is (Duty.Ask (AskDuty.Window s)) r p stands said is h = same_goes k right w did s _ _ p refl refl (record { up = λ x. x; waits = λ x. x; past = λ x. x }) (none_left k right w did p) h
  answered_is (Duty.Send (SendDuty.Update s)) r p stands said is h =
      same_sent k right w did s _ _ _ p (ack_said_is s (end_at s p).tcp.send.nxt None p h) refl refl (record { up = λ x. x; waits = λ x. x; past = λ x. x }) (none_left k right w did p) h
  answered_is (Duty.Send (SendDuty.FastClose s)) r p stands said is h =
      same_sent k right w did s _ _ _ p (fast_close_is s p stands h) refl refl (record { up = λ x. x; waits = λ x. x; past = λ x. x }) (none_left k right w did p) h
  answered_is (Duty.Send (SendDuty.Notice s)) r p stands said is h =
      let e = end_at s p in
      let own = end_is k right w did s p h in
      let sent = having_sent Occasion.Ack p.clock (note_of s p) e in
      sent_is k right w did s (note_of s p) (having_noted s p) p.agenda p (note_is s p stands h)
      (requeued k right w did (is_joined p.profile) s (tail_of e.notices.queue) sent
      (tail_queued (NoteIs k right w did s) (λ id. tt) (λ id address port. tt) (λ backup. tt) e.notices.queue own.queued)
      (kept_end k right w did (is_joined p.profile) s e sent refl refl (record { up = λ x. x; waits = λ x. x; past = λ x. x }) own))
      (λ waiting. waiting) (λ t is. is) (stays_same k right w did s (having_noted s p) p refl) h
  answered_is (Duty.Send (SendDuty.Syn s)) r p stands said is h =
      let e = end_at s p in
      let opens = opening_open e.tcp.state (and_parts (is_opening e.tcp.state) (is_some (first_unsent e)) stands).0 in
      same_sent k right w did s _ _ _ p (record_or_ack_is k right w did p.profile s e (end_is k right w did s p h) (up_knows s p (open_is_up e.tcp opens) h) (first_unsent e)) refl refl
      (sending_up Occasion.Unsent p.clock e.tcp) (none_left k right w did p) h
  answered_is (Duty.Step (StepDuty.Data s)) r p stands said is h = data_is s (first_unsent (end_at s p)) r p refl stands h
  answered_is (Duty.Send (SendDuty.DataFin s)) r p stands said is h =
      same_sent k right w did s _ _ _ p (ack_said_is s (end_at s p).tcp.send.nxt (end_at s p).sending.known_end p h) refl refl (record { up = λ x. x; waits = λ x. x; past = λ x. x }) (none_left k right w did p) h
  answered_is (Duty.Send (SendDuty.Fin s)) r p stands said is h = same_sent k right w did s _ _ _ p (fin_segment_is s p (up_knows s p (may_finish_up s (and_parts (may_finish (end_at s p).tcp.state) _ stands).0) h) h) refl refl (fin_up s p) (none_left k right w did p) h
    where
      fin_up : (s : Side) (p : PathState Carried) → NoWaking (end_at s p).tcp (having_sent_fin s p).tcp
      fin_up s p = let up = finishing_up (end_at s p).tcp in record { up = up.up; waits = up.waits; past = up.past }

      may_finish_up : (s : Side) → may_finish (end_at s p).tcp.state ≡ true → is_up (end_at s p).tcp ≡ true
      may_finish_up s may = open_is_up (end_at s p).tcp (finish_open (end_at s p).tcp.state may)
  answered_is (Duty.Step StepDuty.Events) r p stands said is h = event_is (next_event p) r p refl is h
  answered_is (Duty.Ask (AskDuty.PlainHandshake s)) r p stands said is h = told_is s FallEvent.PlainHandshake r p (said (Voice.Says s) (itself s)) is h
  answered_is (Duty.Ask (AskDuty.PeerKey s)) r p stands said is h =
      key_kept s (key_heard (end_at s p).treated.items) r p (key_found k right w did (is_joined p.profile) s (end_at s p).treated.items (end_is k right w did s p h).items) (said (Voice.Says s) (itself s)) is h
  answered_is (Duty.Send (SendDuty.SynAck s)) r p stands said is h =
      same_sent k right w did s _ _ _ p (syn_ack_is k right w did p.profile s (end_at s p) (end_is k right w did s p h) (said (Voice.Says s) (itself s))) refl refl
      (sending_up Occasion.SynAck p.clock (end_at s p).tcp) (none_left k right w did p) h
  answered_is (Duty.Ask (AskDuty.JoinHeard s)) r p stands said is h =
      heard_join s (keys_begun r) (asked_at s p) r p (by (asked_at s p) is) (asked_is k right w did (is_joined p.profile) s (end_at s p).treated.items (end_is k right w did s p h).items) h
    where
      by : (o : Option Asked) → ReplyIs (join_heard_ask s o p) r → IfSome o (λ x. IfSome (keys_begun r) (BeginIs k right w did s))
      by = elim [ None ↦ λ is. tt | Some asked ↦ λ is. is ]
  answered_is (Duty.Send (SendDuty.Refuse s)) r p stands said is h = same_sent k right w did s _ _ _ p (refusal_is s p h) refl refl (record { up = λ x. x; waits = λ x. x; past = λ x. x }) (none_left k right w did p) h
  answered_is (Duty.Ask (AskDuty.Opened s)) r p stands said is h =
      keys_kept s (keys_heard (end_at s p).treated.items) r p (pair_found k right w did (is_joined p.profile) s (end_at s p).treated.items (end_is k right w did s p h).items) (said (Voice.Says s) (itself s)) is h
  answered_is (Duty.Step (StepDuty.Heard s index)) r p stands said is h =
      item_answered s (item_of index (end_at s p)) r p (item_found (is_joined p.profile) s index (end_at s p) (end_is k right w did s p h).items) (said (Voice.Says s) (itself s)) is h
  answered_is (Duty.Ask (AskDuty.AckHeard s)) r p stands said is h = told_is s FallEvent.AckHeard r p (said (Voice.Says s) (itself s)) is h
  answered_is (Duty.Ask (AskDuty.FailHeard s)) r p stands said is h =
      fail_heard_so (λ e. PathIs k right w did (goes_on s e (fell_duties s r p) p)) r (end_at s p)
      (λ own owes.
      verdict_is s (failed_so r own owes (end_at s p)) r p (verdict_leaves r (end_at s p).modes) refl (record { up = λ x. x; waits = λ x. x; past = λ x. x }) (said (Voice.Says s) (itself s)) is h)
  answered_is (Duty.Step (StepDuty.PlainAck s)) r p stands said is h = plain_ack_is s r p (said (Voice.Says s) (itself s)) is h
  answered_is (Duty.Ask (AskDuty.SubflowAck s)) r p stands said is h = same_goes k right w did s _ _ p refl refl (record { up = λ x. x; waits = λ x. x; past = λ x. x }) (none_left k right w did p) h
  answered_is (Duty.Ask (AskDuty.PlainData s)) r p stands said is h = told_is s FallEvent.PlainData r p (said (Voice.Says s) (itself s)) is h
  answered_is (Duty.Ask (AskDuty.GoIdentity s)) r p stands said is h =
      let own = end_is k right w did s p h in let m = own.modes in
      goes_is k right w did s (in_identity (end_at s p)) (left p) p
      (record {
        modes = record { own = m.own; nonce = m.nonce; peer_is = m.peer_is; joins = m.joins; third = m.third; cleared = m.cleared; fell = λ goes. said (Voice.Falls s) (itself s); keyed = m.keyed; meets = m.meets };
        items = own.items;
        woken = λ joined woken. identity_knows s (end_at s p) (own.woken joined woken);
        past = own.past;
        carries = own.carries;
        queued = own.queued;
        failing = own.failing;
      })
      (λ waiting. waiting) (none_left k right w did p) (λ joined has. identity_knows s (end_at s p) has) h
  answered_is (Duty.Step (StepDuty.Unmapped s)) r p stands said is h = break_is s 6 r p h
  answered_is (Duty.Ask (AskDuty.SubflowFin s)) r p stands said is h = plain_fin_is s (is_fin_set r) p h
  answered_is (Duty.Ask (AskDuty.Edge s)) r p stands said is h = piece_is s (piece_of s p) (is_placed r) p h
  answered_is (Duty.Ask (AskDuty.CheckFailed s)) r p stands said is h = checked_is s r p (said (Voice.Says s) (itself s)) is h
  answered_is (Duty.Ask (AskDuty.HeardFin s index)) r p stands said is h = fin_is s (is_fin_set r) p h
  answered_is (Duty.Ask (AskDuty.AckOut s)) r p stands said is h = same_goes k right w did s _ _ p refl refl (record { up = λ x. x; waits = λ x. x; past = λ x. x }) (none_left k right w did p) h
  answered_is (Duty.Ask (AskDuty.Rate s)) r p stands said is h = same_goes k right w did s _ _ p refl refl (record { up = λ x. x; waits = λ x. x; past = λ x. x }) (none_left k right w did p) h
  answered_is (Duty.Send (SendDuty.Acknowledge s)) r p stands said is h =
      same_sent k right w did s _ _ _ p (ack_said_is s (end_at s p).tcp.send.nxt None p h) refl refl (record { up = λ x. x; waits = λ x. x; past = λ x. x }) (none_left k right w did p) h
  answered_is (Duty.Send (SendDuty.Again s)) r p stands said is h =
      same_sent k right w did s _ _ _ p (record_or_ack_is k right w did p.profile s (end_at s p) (end_is k right w did s p h) (said (Voice.Says s) (itself s)) (first_record (end_at s p))) refl refl
      (sending_up Occasion.First p.clock (end_at s p).tcp) (none_left k right w did p) h
  answered_is (Duty.Send (SendDuty.Answer s)) r p stands said is h =
      same_sent k right w did s _ _ _ p (answer_is s p (said (Voice.Says s) (itself s)) h) refl refl (sending_up (answer_occasion (end_at s p)) p.clock (end_at s p).tcp) (none_left k right w did p) h
  answered_is (Duty.Send (SendDuty.ResetAnswer s)) r p stands said is h = same_sent k right w did s _ _ _ p (Every-nil _) refl refl (record { up = λ x. x; waits = λ x. x; past = λ x. x }) (none_left k right w did p) h
  answered_is (Duty.Send (SendDuty.Resend s)) r p stands said is h =
      same_sent k right w did s _ _ _ p (resend_is s p (said (Voice.Says s) (itself s)) h) refl refl (sending_up (resend_occasion (end_at s p)) p.clock (end_at s p).tcp) (none_left k right w did p) h
  answered_is (Duty.Ask (AskDuty.BreakAck s reason)) r p stands said is h = same_goes k right w did s _ _ p refl refl (record { up = λ x. x; waits = λ x. x; past = λ x. x }) (λ t spoken. absurd (false≢true spoken)) h
  answered_is (Duty.Send (SendDuty.BreakReset s reason)) r p stands said is h = reset_is s (Some reason) (leaves s) p (λ t spoken. absurd (false≢true spoken)) h
  answered_is (Duty.Send (SendDuty.Reset s)) r p stands said is h = reset_is s None (replaced (Duty.Ask (AskDuty.Leave s)) p.agenda) p (λ t spoken. replaced_speaks t (Duty.Ask (AskDuty.Leave s)) p.agenda refl spoken) h
  answered_is (Duty.Send (SendDuty.ResetNoted s)) r p stands said is h = reset_is s None (replaced (Duty.Ask (AskDuty.Leave s)) p.agenda) p (λ t spoken. replaced_speaks t (Duty.Ask (AskDuty.Leave s)) p.agenda refl spoken) h
  answered_is (Duty.Ask (AskDuty.Leave s)) r p stands said is h = agenda_is k right w did _ p (λ t spoken. replaced_speaks t (Duty.Ask (AskDuty.Dead s)) p.agenda refl spoken) h
  answered_is (Duty.Ask (AskDuty.LeaveNoted s)) r p stands said is h =
      goes_is k right w did s (died (end_at s p)) (replaced (Duty.Ask (AskDuty.Dead s)) p.agenda) p
      (died_is k right w did (is_joined p.profile) s (end_at s p) (end_is k right w did s p h)) (λ waiting. absurd (false≢true waiting))
      (λ t spoken. replaced_speaks t (Duty.Ask (AskDuty.Dead s)) p.agenda refl spoken) (λ is has. has) h
  answered_is Duty.End r p stands said is h = agenda_is k right w did _ p (λ t spoken. absurd (false≢true spoken)) h
  answered_is _ r p stands said is h = agenda_is k right w did _ p (none_left k right w did p) h

  settles_is : (p : PathState Carried) → PathIs k right w did p → PathIs k right w did (settled p.agenda p)
  settles_is p h = settled_is p.agenda p (λ x spoken. h.known x spoken) h

  pub takes_is : (r : Reply) (p : PathState Carried) → IsSettled p → ((x : Ask) → asks_of values p ≡ Some x → ReplyIs x r) → PathIs k right w did p → PathIs k right w did (takes values r p)
  takes_is r p first is h = by p.agenda refl
    where
      by : (ds : List Duty) → p.agenda ≡ ds → PathIs k right w did (settled (answers values ds r p).agenda (answers values ds r p))
      by [] same = settles_is p h
      by (d ∷ ds) same =
          settles_is (answered values d r p)
          (answered_is d r p (subst (λ xs. FirstStands xs p) same first)
          (λ x spoken. h.known x (subst (λ xs. speaks x xs ≡ true) (sym same) (first_speaks x d ds spoken)))
          (is (ask_for values d p) (ap (λ xs. asks_first values xs p) same)) h)

  pub begins_is : (p : PathState Carried) → PathIs k right w did p → PathIs k right w did (begins_turn p)
  begins_is p h = settled_is start_of_turn (with_agenda start_of_turn p) (λ x spoken. absurd (false≢true spoken)) (agenda_is k right w did start_of_turn p (λ t spoken. absurd (false≢true spoken)) h)
