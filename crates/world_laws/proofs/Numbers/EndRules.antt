-- What each rule of an end leaves of the numbers that it tells.
use Rattle.world_laws.proofs.Words.{◌≡◌, refl, sym, ap, subst, ℕ, ◌+◌, ◌-◌, ◌≤◌, ◌&&◌, ◌==◌, min, nat_lt, nat_le, ⊎_elim, Bool, true, false, if◌then◌else◌}
use Rattle.world_laws.proofs.Words.{Option, Some, None, Ok, Err, List, [], ◌∷◌, ◌++◌, length, arith, ◌<◌, ◌^◌, and_parts, ltb-false, leb-true, IfSome}
use Rattle.world_laws.proofs.Words.{option_or, result_ok, Verdict, Mode, Address, join_b64_of, Side, JoinForm, FormFits, JoinAnswer, BadHmac, answer_heard}
use Rattle.world_laws.proofs.Words.{answer_taken, syn_heard, ControlReply, Notice, ReassemblyReply, Span, Why, acked_len, SendBook, is_future, fin_after}
use Rattle.world_laws.proofs.Words.{ack_reply, SendReply, KeptMapping, after_forget_from, without_held, after_keep_held, Receiving, Record, SendState}
use Rattle.world_laws.proofs.Words.{RecordKind, Syn, Data, Fin, uncovered, after_acknowledge, after_sent, after_resent, after_expired, after_fin_sent}
use Rattle.world_laws.proofs.Words.{RecordSending, after_sending, syn_resent, EndState, is_fin_passed, Occasion, after_begin, is_fin_next, after_passing_fin}
use Rattle.world_laws.proofs.Words.{after_finishing, PlainSegment, Piece, OwnNotice, Heard, KeyPair, key_in, key_heard, pair_in, keys_heard, is_of_step}
use Rattle.world_laws.proofs.Words.{join_in, join_heard, PeerNotice, JoinStep, Reply, tail_of, PathEnd, died, Notices, without_first, after_notice, after_look}
use Rattle.world_laws.proofs.Words.{may_note, modes_told, notices_told, after_ack_out, died_unless_dead, granted, refused, opened_by, with_mode_refused}
use Rattle.world_laws.proofs.Words.{join_answer, join_asked, peer_key_of, join_value, with_keys, with_timer_settled, after_firing, having_asked, after_piece, is_wrong}
use Rattle.world_laws.proofs.Words.{failing_by, mapping_here, forgotten_by, after_keep, after_pieces, is_dropped, with_peer_data_fin, with_fin_told}
use Rattle.world_laws.proofs.Words.{after_pass_fin, acked_in, with_data_fin_sent, with_learned, with_data_fin, with_skipped, with_acked, after_dss}
use Rattle.world_laws.proofs.Words.{with_data_ack, covered_by, after_check_failed, after_fell, with_plain_ack, plainly_acked, after_fail_heard, with_infinite}
use Rattle.world_laws.proofs.Words.{fell_in, in_identity, mode_in, after_keys, with_peer_key, keys_in, with_fast_closed, with_priority, after_peer_notice}
use Rattle.world_laws.proofs.Words.{with_echo, is_kept, with_noted, bare_mapping, Profile, having_sent, with_told, after_rate, Modes, told_last, Treated}
use Rattle.world_laws.proofs.Words.{nothing_treated, Every-push, Every-nil, Every, if_so}
use Rattle.fallback_state.specs.declared.fall.Event.{Event}
use Rattle.subflow_tcp.specs.Expiring as expiring
use Rattle.subflow_tcp.specs.States as states
use Rattle.subflow_tcp.specs.Taking as taking
use Rattle.path_core.specs.Sending.{Sending}
use Rattle.path_core.specs.Fallback.{after_infinite}
use Rattle.world_laws.proofs.Lanes.Doing.{place_is}
use Rattle.world_laws.proofs.Lanes.Records.{unsent_sent_kept, first_sent_kept, fin_sent_kept, expired_kept, uncovered_kept, every_first, every_rest}
use Rattle.world_laws.proofs.Numbers.TellSmall.{IsShort, RecordKindTells, RecordTells, IsKey, IsNonce, ItemTells, AddressTells, NoteTells, PeerTells, SenderTells, ModesTell, TreatedTells, NoticesTell, EndTells, sum_small, StreamTells}
use Rattle.world_laws.proofs.Falls.FailedChecks.{Forgets, IsMarked, check_failed_marked, fail_heard_so, infinite_came_so}

-- ---- records

same_kind : (c : Profile) (s : Side) (kind : RecordKind) (r : Record) (x : RecordSending) → RecordKindTells c s kind r → RecordKindTells c s kind (record r { sending = x })
same_kind c s Syn r x h = h
same_kind c s Data r x h = h
same_kind c s Fin r x h = h

same_record : (c : Profile) (s : Side) (r : Record) (x : RecordSending) → RecordTells c s r → RecordTells c s (record r { sending = x })
same_record c s r x h = record { reaches = h.reaches; octets = h.octets; mapped = same_kind c s r.kind r x h.mapped }

module _ (c : Profile) (s : Side) (v : SendState) (h : SenderTells c s v) where
  with_records : (rs : List Record) → Every (RecordTells c s) rs → SenderTells c s (record v { records = rs })
  with_records rs records = record { next = h.next; unacknowledged = h.unacknowledged; records = records }

  sent_tells : (now : ℕ) → SenderTells c s (after_sent now v)
  sent_tells now = with_records _ (unsent_sent_kept _ (same_record c s) now v.records h.records)

  resent_tells : (now : ℕ) → SenderTells c s (after_resent now v)
  resent_tells now = with_records _ (first_sent_kept _ (same_record c s) now v.records h.records)

  fin_sent_tells : (now : ℕ) → SenderTells c s (after_fin_sent now v)
  fin_sent_tells now = with_records _ (fin_sent_kept _ (same_record c s) now v.records h.records)

  expired_tells : SenderTells c s (after_expired v)
  expired_tells = with_records _ (expired_kept _ (same_record c s) v.records h.records)

  syn_resent_tells : (now : ℕ) → SenderTells c s (syn_resent now v)
  syn_resent_tells now = if_so (SenderTells c s) (v.una == 0) (after_resent now v) v (resent_tells now) h

  pub acknowledged_tells : (pos : ℕ) → SenderTells c s (after_acknowledge pos v)
  acknowledged_tells pos =
      (elim (nat_lt v.una pos && nat_le pos v.nxt) as (λ b. (nat_lt v.una pos && nat_le pos v.nxt) ≡ b → SenderTells c s (if b then record v { una = pos; records = uncovered pos v.records } else v)) [
        | true ↦ λ is. record { next = h.next; unacknowledged = leb-true pos v.nxt (and_parts (nat_lt v.una pos) (nat_le pos v.nxt) is).1; records = uncovered_kept pos v.records h.records }
        | false ↦ λ is. h
      ]) refl

-- ---- modes

told_modes : (r : Reply) (m : Modes) → ModesTell m → ModesTell (modes_told r m)
told_modes (Reply.Control (ControlReply.Standing mode standby sole notice)) m h = h
told_modes _ m h = h

went_modes : (r : Reply) (m : Modes) → ModesTell m → ModesTell (mode_in r m)
went_modes (Reply.Control (ControlReply.Verdict (Verdict.Went mode))) m h = h
went_modes _ m h = h

fell_modes : (event : Event) (r : Reply) (m : Modes) → ModesTell m → ModesTell (fell_in event r m)
fell_modes Event.PlainData r m h = went_modes r m h
fell_modes Event.PlainAck r m h = went_modes r m h
fell_modes _ r m h = went_modes r m h

keyed_modes : (r : Reply) (o : Option KeyPair) (m : Modes) → IfSome o (λ k. IsKey k.peer) → ModesTell m → ModesTell (keys_in r o m)
keyed_modes (Reply.Control ControlReply.Noted) (Some keys) m k h = record { own_key = h.own_key; peer_key = k; own_nonce = h.own_nonce; peer_nonce = h.peer_nonce; failed_mapping = h.failed_mapping }
keyed_modes _ _ m k h = h

pub keys_modes : (keys : KeyPair) (m : Modes) → IsKey keys.own × IsKey keys.peer → ModesTell m → ModesTell (with_keys keys m)
keys_modes keys m k h = record { own_key = k.0; peer_key = k.1; own_nonce = h.own_nonce; peer_nonce = h.peer_nonce; failed_mapping = h.failed_mapping }

-- a key that was heard
key_of : (item : Heard) → ItemTells item → IfSome (key_in item) IsKey
key_of = elim [ Heard.PeerKey key ↦ λ h. h | _ ↦ λ h. tt ]

first_key : (o other : Option ℕ) → IfSome o IsKey → IfSome other IsKey → IfSome (option_or o other) IsKey
first_key = elim [ None ↦ λ other a b. b | Some key ↦ λ other a b. a ]

pub heard_key : (items : List Heard) → Every ItemTells items → IfSome (key_heard items) IsKey
heard_key [] h = tt
heard_key (item ∷ items) h = first_key (key_in item) (key_heard items) (key_of item (every_first item items h)) (heard_key items (every_rest item items h))

pair_of : (item : Heard) → ItemTells item → IfSome (pair_in item) (λ k. IsKey k.peer)
pair_of = elim [ Heard.Keys own peer ↦ λ h. h.1 | _ ↦ λ h. tt ]

first_pair : (o other : Option KeyPair) → IfSome o (λ k. IsKey k.peer) → IfSome other (λ k. IsKey k.peer) → IfSome (option_or o other) (λ k. IsKey k.peer)
first_pair = elim [ None ↦ λ other a b. b | Some keys ↦ λ other a b. a ]

pub heard_keys : (items : List Heard) → Every ItemTells items → IfSome (keys_heard items) (λ k. IsKey k.peer)
heard_keys [] h = tt
heard_keys (item ∷ items) h = first_pair (pair_in item) (keys_heard items) (pair_of item (every_first item items h)) (heard_keys items (every_rest item items h))

-- ---- joins that were heard

form_of : (step : JoinStep) (item : Heard) → ItemTells item → IfSome (join_in step item) FormFits
form_of step (Heard.Join form) h = if_so (λ z. IfSome z FormFits) (is_of_step step form) (Some form) None h tt
form_of step _ h = tt

first_form : (o other : Option JoinForm) → IfSome o FormFits → IfSome other FormFits → IfSome (option_or o other) FormFits
first_form = elim [ None ↦ λ other a b. b | Some form ↦ λ other a b. a ]

heard_form : (step : JoinStep) (items : List Heard) → Every ItemTells items → IfSome (join_heard step items) FormFits
heard_form step [] h = tt
heard_form step (item ∷ items) h =
    first_form (join_in step item) (join_heard step items) (form_of step item (every_first item items h)) (heard_form step items (every_rest item items h))

asked_by_form : (o : Option JoinForm) → IfSome o FormFits → IfSome (syn_heard (join_value o)) (λ asked. IsNonce asked.nonce)
asked_by_form (Some (JoinForm.Syn backup id token nonce)) h = h.2
asked_by_form _ h = tt

-- what A asks for
pub asked_nonce : (items : List Heard) → Every ItemTells items → IfSome (join_asked items) (λ asked. IsNonce asked.nonce)
asked_nonce items h = asked_by_form (join_heard JoinStep.Syn items) (heard_form JoinStep.Syn items h)

answered_by_form : (own other nonce : ℕ) (o : Option JoinForm) → IfSome o FormFits
    → IfSome (result_ok (answer_taken own other nonce (answer_heard (join_value o)))) (λ answer. IsNonce answer.nonce)
answered_by_form own other nonce None h = tt
answered_by_form own other nonce (Some (JoinForm.Syn backup id token n)) h = tt
answered_by_form own other nonce (Some (JoinForm.Answer backup id hmac n)) h =
    elim (hmac == join_b64_of own other nonce n) as (λ b. IfSome (result_ok (if b then Ok (record { backup = backup; id = id; nonce = n }) else Err BadHmac)) (λ (answer : JoinAnswer). IsNonce answer.nonce)) [
      | true ↦ h.2
      | false ↦ tt
    ]
answered_by_form own other nonce (Some (JoinForm.Third hmac)) h = tt

-- and what B answers
pub answer_nonce : (items : List Heard) (m : Modes) → Every ItemTells items → IfSome (join_answer items m) (λ answer. IsNonce answer.nonce)
answer_nonce items m h = answered_by_form m.own_key (peer_key_of m) m.own_nonce (join_heard JoinStep.Answer items) (heard_form JoinStep.Answer items h)

-- both keys of a join
abbrev pub AreKeys : KeyPair → Type 0
AreKeys keys = IsKey keys.own × IsKey keys.peer

-- ---- an end

-- the key that the side tells to an end that carries the fast close, and the id that it tells to announce or to take back
abbrev pub NoticeTells : Reply → Type 0
NoticeTells (Reply.Control (ControlReply.Standing mode standby sole (Notice.Carrier key))) = IsKey key
NoticeTells (Reply.Control (ControlReply.Standing mode standby sole (Notice.Announce id))) = id < 256
NoticeTells (Reply.Control (ControlReply.Standing mode standby sole (Notice.Withdraw id))) = id < 256
NoticeTells _ = Unit {0}

module _ (c : Profile) (s : Side) (e : PathEnd) (h : EndTells c s e) where
  with_modes : (m : Modes) → ModesTell m → EndTells c s (record e { modes = m })
  with_modes m modes = record { sender = h.sender; edge = h.edge; stream = h.stream; window = h.window; modes = modes; treated = h.treated; notices = h.notices }

  -- a join is refused, which tells the mode
  pub join_refused_tells : (r : Reply) → EndTells c s (with_mode_refused r e)
  join_refused_tells r = with_modes (with_mode_refused r e).modes h.modes

  notice_noted : (notice : Notice) (may : Bool) → (mode : Mode) (standby sole : Bool) → NoticeTells (Reply.Control (ControlReply.Standing mode standby sole notice))
      → NoticesTell (after_notice notice may e.notices)
  notice_noted Notice.Nothing may mode standby sole told = h.notices
  notice_noted (Notice.Announce id) true mode standby sole told =
      record { carrier = h.notices.carrier; queue = Every-push (OwnNotice.AddAddr id) h.notices.queue told }
  notice_noted (Notice.Announce id) false mode standby sole told = h.notices
  notice_noted (Notice.Withdraw id) may mode standby sole told =
      record { carrier = h.notices.carrier; queue = Every-push (OwnNotice.Removes id) h.notices.queue told }
  notice_noted Notice.Reset may mode standby sole told = record { carrier = h.notices.carrier; queue = h.notices.queue }
  notice_noted (Notice.Carrier other) may mode standby sole told = record { carrier = by e.notices.fast_closed; queue = h.notices.queue }
    where
      by : (closed : Bool) → IfSome (if closed then e.notices.carrier else Some other) IsKey
      by = elim [ true ↦ h.notices.carrier | false ↦ told ]

  notices_noted : (r : Reply) → NoticeTells r → NoticesTell (notices_told r e)
  notices_noted (Reply.Control (ControlReply.Standing mode standby sole notice)) told =
      if_so NoticesTell (states.is_dead e.tcp.state) e.notices (after_notice notice (may_note e) e.notices)
      h.notices (notice_noted notice (may_note e) mode standby sole told)
  notices_noted (Reply.Control ControlReply.Noted) told = h.notices
  notices_noted _ told = h.notices

  with_notices : (n : Notices) → NoticesTell n → EndTells c s (record e { notices = n })
  with_notices n told = record { sender = h.sender; edge = h.edge; stream = h.stream; window = h.window; modes = h.modes; treated = h.treated; notices = told }

  -- a notice goes out, is echoed, or waits
  pub noted_out_tells : EndTells c s (with_noted e)
  noted_out_tells = with_notices (without_first e.notices) (record { carrier = h.notices.carrier; queue = rest e.notices.queue h.notices.queue })
    where
      rest : (queue : List OwnNotice) → Every NoteTells queue → Every NoteTells (tail_of queue)
      rest = elim [ [] ↦ λ each. each | notice ∷ queue ↦ λ each. every_rest notice queue each ]

  with_queue : (queue : List OwnNotice) → Every NoteTells queue → EndTells c s (record e { notices = record e.notices { queue = queue } })
  with_queue queue told = with_notices (record e.notices { queue = queue }) (record { carrier = h.notices.carrier; queue = told })

  pub peer_notice_tells : (notice : PeerNotice) (r : Reply) → PeerTells notice → EndTells c s (after_peer_notice notice r e)
  peer_notice_tells notice r said = with_queue (with_echo notice r e.notices.queue) (by notice said)
    where
      kept : (b : Bool) (id : ℕ) (address : Address) (port : Option ℕ) → AddressTells id address port
          → Every NoteTells (if b then e.notices.queue ++ OwnNotice.AddEcho id address port ∷ [] else e.notices.queue)
      kept true id address port said = Every-push (OwnNotice.AddEcho id address port) h.notices.queue said
      kept false id address port said = h.notices.queue

      by : (notice : PeerNotice) → PeerTells notice → Every NoteTells (with_echo notice r e.notices.queue)
      by (PeerNotice.AddAddr id address port hmac) said = kept (is_kept r) id address port said
      by _ said = h.notices.queue

  pub priority_tells : (backup : Bool) → EndTells c s (with_priority backup e)
  priority_tells backup = with_queue (with_priority backup e).notices.queue (by (states.is_dead e.tcp.state))
    where
      by : (dead : Bool) → Every NoteTells (if dead then e.notices.queue else e.notices.queue ++ OwnNotice.Prio backup ∷ [])
      by true = h.notices.queue
      by false = Every-push (OwnNotice.Prio backup) h.notices.queue tt

  pub look_tells : (r : Reply) → NoticeTells r → EndTells c s (after_look r e)
  look_tells r key =
      let told = with_modes (modes_told r e.modes) (told_modes r e.modes h.modes) in
      record { sender = told.sender; edge = told.edge; stream = told.stream; window = told.window; modes = told.modes; treated = told.treated; notices = notices_noted r key }

  pub fast_closed_tells : EndTells c s (with_fast_closed e)
  fast_closed_tells = record { sender = h.sender; edge = h.edge; stream = h.stream; window = h.window; modes = h.modes; treated = h.treated; notices = record { carrier = h.notices.carrier; queue = h.notices.queue } }

  pub fell_tells : (event : Event) (r : Reply) → EndTells c s (after_fell event r e)
  fell_tells event r = with_modes (fell_in event r e.modes) (fell_modes event r e.modes h.modes)

  pub identity_tells : EndTells c s (in_identity e)
  identity_tells = with_modes (record e.modes { identity = true }) h.modes

  pub plain_ack_tells : EndTells c s (with_plain_ack e)
  plain_ack_tells = with_modes (with_plain_ack e).modes h.modes

  pub peer_key_tells : (o : Option ℕ) → IfSome o IsKey → EndTells c s (with_peer_key o e)
  peer_key_tells o key = with_modes (record e.modes { peer_key = o }) (record { own_key = h.modes.own_key; peer_key = key; own_nonce = h.modes.own_nonce; peer_nonce = h.modes.peer_nonce; failed_mapping = h.modes.failed_mapping })

  -- A's end opens where the join may begin
  pub opened_tells : (o : Option KeyPair) → IfSome o AreKeys → EndTells c s (opened_by o e)
  opened_tells None keys = h
  opened_tells (Some pair) keys = elim (states.is_waiting e.tcp.state) as (λ b. EndTells c s (record e { tcp = (if b then after_begin e.tcp else e.tcp); modes = with_keys pair e.modes })) [
    | true ↦ record { sender = h.sender; edge = h.edge; stream = h.stream; window = h.window; modes = keys_modes pair e.modes keys h.modes; treated = h.treated; notices = h.notices }
    | false ↦ with_modes (with_keys pair e.modes) (keys_modes pair e.modes keys h.modes)
  ]

  pub dss_tells : EndTells c s (after_dss s e)
  dss_tells = record {
    sender = h.sender;
    edge = h.edge;
    stream = record { heard = h.stream.heard; known_end = h.stream.known_end };
    window = h.window;
    modes = h.modes;
    treated = h.treated;
    notices = h.notices;
  }

  pub keys_tell : (r : Reply) (o : Option KeyPair) → IfSome o (λ k. IsKey k.peer) → EndTells c s (after_keys r o e)
  keys_tell r o key = record {
    sender = h.sender;
    edge = h.edge;
    stream = h.stream;
    window = h.window;
    modes = keyed_modes r o e.modes key h.modes;
    treated = record { items = h.treated.items; answer = h.treated.answer; acknowledged = h.treated.acknowledged; failed_mapping = h.treated.failed_mapping };
    notices = h.notices;
  }

  -- ---- what is to be acknowledged

  pub told_tells : (next window : ℕ) → IsShort next → window ≤ 2 ^ 20 → EndTells c s (after_ack_out (Reply.Reassembly (ReassemblyReply.Ack next window)) e)
  told_tells next window short most = record {
    sender = h.sender;
    edge = h.edge;
    stream = h.stream;
    window = record { next = short; window = most };
    modes = h.modes;
    treated = record { items = h.treated.items; answer = h.treated.answer; acknowledged = h.treated.acknowledged; failed_mapping = h.treated.failed_mapping };
    notices = h.notices;
  }

  -- ---- what was heard

  pub stream_acked : (next : ℕ) (r : SendReply) → IsShort next → EndTells c s (with_acked next (Reply.Send r) e)
  stream_acked next (SendReply.Acked bytes fin) short = record {
    sender = h.sender;
    edge = h.edge;
    stream = record { heard = let heard = h.stream.heard in omega (arith, heard, short); known_end = h.stream.known_end };
    window = h.window;
    modes = h.modes;
    treated = record { items = h.treated.items; answer = h.treated.answer; acknowledged = h.treated.acknowledged; failed_mapping = h.treated.failed_mapping };
    notices = h.notices;
  }
  stream_acked next _ short = record {
    sender = h.sender;
    edge = h.edge;
    stream = h.stream;
    window = h.window;
    modes = h.modes;
    treated = record { items = h.treated.items; answer = h.treated.answer; acknowledged = h.treated.acknowledged; failed_mapping = h.treated.failed_mapping };
    notices = h.notices;
  }

  -- where an acknowledgement of the subflow stands for one of the stream, it says as much
  with_sending : (v : Sending) → StreamTells v → EndTells c s (record e { sending = v })
  with_sending v stream = record { sender = h.sender; edge = h.edge; stream = stream; window = h.window; modes = h.modes; treated = h.treated; notices = h.notices }

  pub plain_acked : (next : ℕ) (b : SendBook) → IsShort (length b.written + 1) → EndTells c s (record e { sending = acked_in next (Reply.Send (ack_reply next b)) e.sending })
  plain_acked next b short = by (is_future next b) refl
    where
      one_more : (closed : Bool) → length b.written + (if closed then 1 else 0) ≤ length b.written + 1
      one_more = elim [ true ↦ omega arith | false ↦ omega arith ]

      by : (future : Bool) → is_future next b ≡ future
          → EndTells c s (record e {
            sending = acked_in next (Reply.Send (if future then SendReply.AckFuture (length b.written) else SendReply.Acked (min next (length b.written) - acked_len b.marks) (fin_after next b))) e.sending;
          })
      by true is = with_sending e.sending h.stream
      by false is =
          let most = one_more b.closed in
          let within = ltb-false (length b.written + (if b.closed then 1 else 0)) next is in
          let heard = h.stream.heard in
          with_sending _ (record { heard = omega (arith, heard, most, within, short); known_end = h.stream.known_end })

  pub unacked : (r : Reply) → EndTells c s (record e { sending = plainly_acked None r e.sending })
  unacked r = with_sending e.sending h.stream

  -- a Data ACK that counts for nothing but itself
  pub data_ack_tells : (next : ℕ) → EndTells c s (with_data_ack next e)
  data_ack_tells next = with_modes (covered_by next e.modes) h.modes

  -- ---- failed checks, and infinite mappings

  marked_tells : (failing : Option KeptMapping) (old new : Option ℕ) → IsMarked failing old new → IfSome failing (λ kept. IsShort kept.place) → IfSome old IsShort → IfSome new IsShort
  marked_tells failing old new is failed short =
      ⊎_elim (λ same. subst (λ o. IfSome o IsShort) (sym same) short)
      (λ found. subst (λ o. IfSome o IsShort) (sym found.2) (subst (λ o. IfSome o (λ (kept : KeptMapping). IsShort kept.place)) found.1 failed)) is

  pub failed_tells : (checksums : Bool) (r : Reply) → IfSome (failing_by checksums (mapping_here e) e.tcp) (λ kept. IsShort kept.place) → EndTells c s (after_check_failed checksums r e)
  failed_tells checksums r failed =
      check_failed_marked (λ f. EndTells c s f) checksums r e (λ told broken recv is so forgotten.
      let w = went_modes r e.modes h.modes in
      record {
        sender = h.sender;
        edge = subst IsShort (sym (forgotten_edge recv forgotten)) h.edge;
        stream = h.stream;
        window = h.window;
        modes = record {
          own_key = w.own_key;
          peer_key = w.peer_key;
          own_nonce = w.own_nonce;
          peer_nonce = w.peer_nonce;
          failed_mapping = marked_tells _ e.modes.failed_mapping told is failed h.modes.failed_mapping;
        };
        treated = record {
          items = h.treated.items;
          answer = h.treated.answer;
          acknowledged = h.treated.acknowledged;
          failed_mapping = marked_tells _ e.treated.failed_mapping broken so failed h.treated.failed_mapping;
        };
        notices = h.notices;
      })
    where
      forgotten_edge : (recv : Receiving) → Forgets e.tcp.recv recv → recv.edge ≡ e.tcp.recv.edge
      forgotten_edge recv forgotten = ⊎_elim (λ same. ap (λ (v : Receiving). v.edge) same) (λ found. ap (λ (v : Receiving). v.edge) found.1) forgotten

  pub fail_heard_tells : (r : Reply) → EndTells c s (after_fail_heard r e)
  fail_heard_tells r =
      fail_heard_so (λ f. EndTells c s f) r e (λ own owes. let w = went_modes r e.modes h.modes in
      with_modes _ w)

  pub infinite_tells : (place : ℕ) (position : Option ℕ) (r : Reply) → EndTells c s (after_infinite place position r e)
  infinite_tells place position r =
      infinite_came_so (λ f. EndTells c s f) place position r e (λ other. let w = went_modes r e.modes h.modes in
      with_modes _ w)

  pub with_infinite_tells : (r : Reply) → EndTells c s (with_infinite r e)
  with_infinite_tells r = record {
    sender = h.sender;
    edge = h.edge;
    stream = h.stream;
    window = h.window;
    modes = h.modes;
    treated = record { items = h.treated.items; answer = h.treated.answer; acknowledged = h.treated.acknowledged; failed_mapping = h.treated.failed_mapping };
    notices = h.notices;
  }

  pub fin_tells : (place : ℕ) → EndTells c s (with_data_fin place e)
  fin_tells place = record { sender = h.sender; edge = h.edge; stream = h.stream; window = h.window; modes = h.modes; treated = record { items = h.treated.items; answer = h.treated.answer; acknowledged = h.treated.acknowledged; failed_mapping = h.treated.failed_mapping }; notices = h.notices }

  pub learned_tells : EndTells c s (with_learned e)
  learned_tells = record { sender = h.sender; edge = h.edge; stream = h.stream; window = record { next = h.window.next; window = h.window.window }; modes = h.modes; treated = h.treated; notices = h.notices }

  pub skipped_tells : EndTells c s (with_skipped e)
  skipped_tells = record { sender = h.sender; edge = h.edge; stream = h.stream; window = record { next = h.window.next; window = h.window.window }; modes = h.modes; treated = h.treated; notices = h.notices }

  pub asked_tells : EndTells c s (having_asked e)
  asked_tells = record { sender = h.sender; edge = h.edge; stream = h.stream; window = h.window; modes = h.modes; treated = record { items = h.treated.items; answer = h.treated.answer; acknowledged = h.treated.acknowledged; failed_mapping = h.treated.failed_mapping }; notices = h.notices }

  pub peer_end_tells : EndTells c s (with_peer_data_fin e)
  peer_end_tells = record { sender = h.sender; edge = h.edge; stream = record { heard = h.stream.heard; known_end = h.stream.known_end }; window = h.window; modes = h.modes; treated = h.treated; notices = h.notices }

  pub fin_told_tells : EndTells c s (with_fin_told e)
  fin_told_tells = record { sender = h.sender; edge = h.edge; stream = h.stream; window = record { next = h.window.next; window = h.window.window }; modes = h.modes; treated = h.treated; notices = h.notices }

  pub unmapped_tells : EndTells c s (after_pieces e)
  unmapped_tells = record { sender = h.sender; edge = h.edge; stream = h.stream; window = record { next = h.window.next; window = h.window.window }; modes = h.modes; treated = record { items = h.treated.items; answer = h.treated.answer; acknowledged = h.treated.acknowledged; failed_mapping = h.treated.failed_mapping }; notices = h.notices }

  pub piece_tells : (piece : Piece) → IsShort (e.tcp.recv.edge + length piece.octets) → EndTells c s (after_piece piece e)
  piece_tells piece short = record { sender = h.sender; edge = short; stream = h.stream; window = record { next = h.window.next; window = h.window.window }; modes = h.modes; treated = h.treated; notices = h.notices }

  pub rate_tells : (path mss : ℕ) (r : Reply) → EndTells c s (after_rate path mss r e)
  rate_tells path mss r = record { sender = h.sender; edge = h.edge; stream = h.stream; window = h.window; modes = h.modes; treated = h.treated; notices = h.notices }

  pub timer_tells : (now : ℕ) → EndTells c s (with_timer_settled now e)
  timer_tells now = record { sender = h.sender; edge = h.edge; stream = record { heard = h.stream.heard; known_end = h.stream.known_end }; window = h.window; modes = h.modes; treated = h.treated; notices = h.notices }

  -- ---- grants

  pub granted_tells : (span : Span) (piece : List ℕ) → 1 ≤ length piece → length piece ≤ 65475 → IsShort span.from → IsShort (e.tcp.send.nxt + length piece + 1)
      → EndTells c s (granted c s span piece e)
  granted_tells span piece some most place reaches =
      let una = h.sender.unacknowledged in
      record {
        sender = record {
          next = omega (arith, reaches);
          unacknowledged = omega (arith, una);
          records = Every-push _ h.sender.records (record {
            reaches = reaches;
            octets = most;
            mapped = (
              some,
              omega (arith, most),
              sum_small c (bare_mapping c s span.from e.tcp.send.nxt (length piece)) piece,
              subst IsShort (sym (place_is c s span.from e.tcp.send.nxt (length piece) (omega (arith, place)))) place,
              refl,
            );
          });
        };
        edge = h.edge;
        stream = record { heard = h.stream.heard; known_end = h.stream.known_end };
        window = h.window;
        modes = h.modes;
        treated = h.treated;
        notices = h.notices;
      }

  pub refused_tells : (why : Why) (known : Option ℕ) → IfSome known IsShort → EndTells c s (refused (Reply.Send (SendReply.NoGrant why known)) e)
  refused_tells why known short = record {
    sender = h.sender;
    edge = h.edge;
    stream = record { heard = h.stream.heard; known_end = by known short };
    window = h.window;
    modes = h.modes;
    treated = h.treated;
    notices = h.notices;
  }
    where
      by : (known : Option ℕ) → IfSome known IsShort → IfSome (told_last known e.sending.known_end) IsShort
      by = elim [ None ↦ λ short. h.stream.known_end | Some place ↦ λ short. short ]

  -- ---- sendings

  with_sender : (tcp : EndState) → tcp.recv ≡ e.tcp.recv → SenderTells c s tcp.send → (sg : PlainSegment) → EndTells c s (record (with_told sg e) { tcp = tcp })
  with_sender tcp same sender sg = record {
    sender = sender;
    edge = subst (λ recv. IsShort recv.edge) (sym same) h.edge;
    stream = h.stream;
    window = record { next = h.window.next; window = h.window.window };
    modes = h.modes;
    treated = h.treated;
    notices = h.notices;
  }

  pub sent_end_tells : (occasion : Occasion) (now : ℕ) (sg : PlainSegment) → EndTells c s (having_sent occasion now sg e)
  sent_end_tells Occasion.SynAck now sg = with_sender _ refl (syn_resent_tells c s e.tcp.send h.sender now) sg
  sent_end_tells Occasion.First now sg = with_sender _ refl (resent_tells c s e.tcp.send h.sender now) sg
  sent_end_tells Occasion.Unsent now sg = with_sender _ refl (sent_tells c s e.tcp.send h.sender now) sg
  sent_end_tells Occasion.Fin now sg = with_sender _ refl (fin_sent_tells c s e.tcp.send h.sender now) sg
  sent_end_tells _ now sg = with_sender _ refl h.sender sg

  pub told_end_tells : (sg : PlainSegment) → EndTells c s (with_told sg e)
  told_end_tells sg = with_sender e.tcp refl h.sender sg

  -- the record of the FIN, which is sent at once
  pub fin_record_tells : (now : ℕ) → EndTells c s (record e { tcp = after_sending Occasion.Fin now e.tcp })
  fin_record_tells now = record { sender = fin_sent_tells c s e.tcp.send h.sender now; edge = h.edge; stream = h.stream; window = h.window; modes = h.modes; treated = h.treated; notices = h.notices }

  pub end_sent_tells : EndTells c s (record e { sending = with_data_fin_sent e.sending })
  end_sent_tells = record { sender = h.sender; edge = h.edge; stream = record { heard = h.stream.heard; known_end = h.stream.known_end }; window = h.window; modes = h.modes; treated = h.treated; notices = h.notices }

  pub finished_tells : IsShort (e.tcp.send.nxt + 1) → EndTells c s (record e { tcp = after_finishing e.tcp })
  finished_tells short =
      let una = h.sender.unacknowledged in
      record {
        sender = record {
          next = short;
          unacknowledged = omega (arith, una);
          records = Every-push _ h.sender.records (record { reaches = omega (arith, short); octets = omega arith; mapped = tt });
        };
        edge = h.edge;
        stream = h.stream;
        window = h.window;
        modes = h.modes;
        treated = h.treated;
        notices = h.notices;
      }

  -- ---- death and the timer

  dead_tells : (reset : Bool) (t : Treated) → TreatedTells t → EndTells c s (record e { tcp = taking.after_death reset e.tcp; treated = t })
  dead_tells reset t treated = record { sender = acknowledged_tells c s e.tcp.send h.sender e.tcp.send.nxt; edge = h.edge; stream = h.stream; window = h.window; modes = h.modes; treated = treated; notices = h.notices }

  pub died_tells : EndTells c s (died e)
  died_tells =
      let told = dead_tells false nothing_treated (record { items = Every-nil _; answer = tt; acknowledged = omega arith; failed_mapping = tt }) in
      record { sender = told.sender; edge = told.edge; stream = told.stream; window = told.window; modes = told.modes; treated = told.treated; notices = record { carrier = tt; queue = Every-nil _ } }

  pub died_unless_tells : EndTells c s (died_unless_dead e)
  died_unless_tells = if_so (EndTells c s) (states.is_dead e.tcp.state) e (died e) h died_tells

  pub fired_tells : (now : ℕ) → EndTells c s (after_firing now e)
  fired_tells now = elim (expiring.is_sixth e.tcp) as (λ b. EndTells c s (record e { tcp = if b then taking.after_death true e.tcp else expiring.after_expiry now e.tcp })) [
    | true ↦ dead_tells true e.treated h.treated
    | false ↦ record { sender = expired_tells c s e.tcp.send h.sender; edge = h.edge; stream = h.stream; window = h.window; modes = h.modes; treated = h.treated; notices = h.notices }
  ]

  -- ---- what is kept

  same_edge : (tcp : EndState) → tcp.send ≡ e.tcp.send → tcp.recv.edge ≡ e.tcp.recv.edge → EndTells c s (record e { tcp = tcp })
  same_edge tcp send edge = record {
    sender = subst (SenderTells c s) (sym send) h.sender;
    edge = subst IsShort (sym edge) h.edge;
    stream = h.stream;
    window = h.window;
    modes = h.modes;
    treated = h.treated;
    notices = h.notices;
  }

  pub check_tells : (checksums : Bool) (o : Option KeptMapping) → EndTells c s (forgotten_by checksums o e)
  check_tells checksums None = h
  check_tells checksums (Some kept) = elim (is_wrong checksums kept e.tcp) as (λ b. EndTells c s (if b then record e { tcp = record e.tcp { recv = after_forget_from kept.pos e.tcp.recv } } else e))
      [ false ↦ h | true ↦ same_edge (record e.tcp { recv = after_forget_from kept.pos e.tcp.recv }) refl refl ]

  pub keep_tells : EndTells c s (after_keep s e)
  keep_tells = kept_so (is_dropped s e)
    where
      kept : (b : Bool) → (if b then taking.after_dropping_held e.tcp else taking.after_keeping_held e.tcp).recv.edge ≡ e.tcp.recv.edge
      kept true = refl
      kept false = elim (is_fin_passed e.tcp) as (λ b. (if b then without_held e.tcp.recv else after_keep_held e.tcp.recv).edge ≡ e.tcp.recv.edge)
          [ true ↦ refl | false ↦ refl ]

      by : (b : Bool) → EndTells c s (record e { tcp = if b then taking.after_dropping_held e.tcp else taking.after_keeping_held e.tcp })
      by true = same_edge (taking.after_dropping_held e.tcp) refl (kept true)
      by false = same_edge (taking.after_keeping_held e.tcp) refl (kept false)

      kept_so : (b : Bool) → EndTells c s (record e { tcp = (if b then taking.after_dropping_held e.tcp else taking.after_keeping_held e.tcp); treated = (after_keep s e).treated })
      kept_so b =
          let f = by b in
          record {
            sender = f.sender;
            edge = f.edge;
            stream = h.stream;
            window = h.window;
            modes = h.modes;
            treated = record { items = h.treated.items; answer = h.treated.answer; acknowledged = h.treated.acknowledged; failed_mapping = h.treated.failed_mapping };
            notices = h.notices;
          }

  pub pass_fin_tells : (is_fin_next e.tcp ≡ true → IsShort (e.tcp.recv.edge + 1)) → EndTells c s (after_pass_fin e)
  pass_fin_tells short = (elim (is_fin_next e.tcp) as (λ b. is_fin_next e.tcp ≡ b → EndTells c s (record e { tcp = if b then after_passing_fin e.tcp else e.tcp }))
      [ false ↦ λ is. h | true ↦ λ is. record { sender = h.sender; edge = short is; stream = h.stream; window = h.window; modes = h.modes; treated = h.treated; notices = h.notices } ]) refl
