-- What a step hands to the link is what it tells, and no other step tells a segment.
use Rattle.path_core.proofs.Words.{◌≡◌, refl, sym, ap, subst, ◌∙◌, ℕ, ◌+◌, ◌<◌, Bool, true, false, if◌then◌else◌, Option, Some, None, List, [], ◌∷◌, ◌++◌}
use Rattle.path_core.proofs.Words.{length, drop, length-append, arith, ◌^◌, Ok, ◌%◌, IfSome, replicate, drop_at, drop-drop, length-replicate, Side, peer}
use Rattle.path_core.proofs.Words.{segment_meaning, header_len, Segment, fixed_header, octets_with, segment_text, segment_meaning-written, addresses_from}
use Rattle.path_core.proofs.Words.{JoinSyn, SendCall, Record, next_number, Flight, Spelling, PlainSegment, padding, padded, unpadded_options, spelled, four}
use Rattle.path_core.proofs.Words.{written, Piece, Heard, key_heard, keys_heard, leaves, resets, Duty, AskDuty, StepDuty, KeyPair, SendDuty, SilentDuty, Reply}
use Rattle.path_core.proofs.Words.{Ask, made, octets, sum_of, CanBeSaid, with_learned, is_clash, peer_key_ask, opened_ask, asked_at, join_heard_ask, after_fell}
use Rattle.path_core.proofs.Words.{fell_duties, may_go_infinite, breaks_by_ack, with_plain_ack, fell_ask, plain_next, plain_ack_in, PathState, end_at}
use Rattle.path_core.proofs.Words.{with_agenda, goes_on, path_of, Codec, stands, ask_for, passed, answered, settled, settles_down, asks_first, answers}
use Rattle.path_core.proofs.Words.{data_fin_of, fin_ask, place_of_fin, first_unsent, data_ask, answered_data, next_event, step_for, reset_of, reset_on, break_ask}
use Rattle.path_core.proofs.Words.{answered_break, piece_of, piece_ask, rate_ask, sends, handed, answered_ack_out, ack_out_ask, item_of, item_ask}
use Rattle.path_core.proofs.Words.{answered_item, SegmentKind, Arrived, arrived_as, to_send, broken_by, heard_sends, send_of, unsent_sends, duty_sends}
use Rattle.path_core.proofs.Words.{first_sends, departing, departing_as, step_told, tells_a_segment, segment_sent, HandsOrTellsNone, EachSegmentIsTold, IsTold}
use Rattle.std.proofs.Common.{Result, Err, option_map}
use Rattle.std.specs.Prelude.{IfOk, IsOk, IsSome}
use Rattle.std.specs.Int.{w16}
use Rattle.std.proofs.lemmas.Nat.{from_be_bytes-to_be_bytes_2}
use Rattle.octet_text.specs.Octets.{number_at}
use Rattle.loss_recovery.specs.declared.windows.Pending.{Pending}
use Rattle.actor_desk.specs.declared.ask.LocalStep.{LocalStep}
use Rattle.fallback_state.specs.declared.fall.Event.TheVariants as events
use Rattle.path_core.specs.declared.events.Event.{Event}
use Rattle.path_core.specs.declared.looking.Departing.{Departing}
use Rattle.path_core.specs.declared.looking.ToSend.{ToSend}

-- ---- asks that tell no segment

quiet_piece : (s : Side) (piece : Option Piece) → tells_a_segment (Some (piece_ask s piece)) ≡ false
quiet_piece s None = refl
quiet_piece s (Some piece) = refl

quiet_fin : (s : Side) (place : Option ℕ) → tells_a_segment (Some (fin_ask s place)) ≡ false
quiet_fin s None = refl
quiet_fin s (Some place) = refl

quiet_ack : (s : Side) (next : Option ℕ) (window : ℕ) → tells_a_segment (Some (plain_ack_in s next window)) ≡ false
quiet_ack s None window = refl
quiet_ack s (Some next) window = refl

quiet_event : (path : ℕ) (event : Option Event) → tells_a_segment (Some (step_for path event)) ≡ false
quiet_event path None = refl
quiet_event path (Some (Event.Joins tick)) = refl
quiet_event path _ = refl

module _ {C : Type 0} where
  -- ---- settling leaves the link

  passed_link : (d : Duty) (p : PathState C) → (passed d p).link ≡ p.link
  passed_link (Duty.Ask (AskDuty.Edge s)) p = refl
  passed_link (Duty.Step (StepDuty.Heard s index)) p = refl
  passed_link (Duty.Silent (SilentDuty.Timer s)) p = refl
  passed_link _ p = refl

  either_link : (b : Bool) (p q r : PathState C) → q.link ≡ p.link → r.link ≡ p.link → (if b then q else r).link ≡ p.link
  either_link = elim [ true ↦ λ p q r same other. same | false ↦ λ p q r same other. other ]

  settled_link : (ds : List Duty) (p : PathState C) → (settled ds p).link ≡ p.link
  settled_link [] p = refl
  settled_link (d ∷ ds) p =
      either_link (stands d p) p (with_agenda (d ∷ ds) p) (settled ds (passed d p)) refl (settled_link ds (passed d p) ∙ passed_link d p)

  quiet_peer_key : (s : Side) (key : Option ℕ) (p : PathState C) → tells_a_segment (Some (peer_key_ask s key p)) ≡ false
  quiet_peer_key s None p = refl
  quiet_peer_key s (Some key) p = refl

  quiet_join : (s : Side) (asked : Option JoinSyn) (p : PathState C) → tells_a_segment (Some (join_heard_ask s asked p)) ≡ false
  quiet_join s None p = refl
  quiet_join s (Some asked) p = refl

  quiet_opened : (s : Side) (keys : Option KeyPair) (p : PathState C) → tells_a_segment (Some (opened_ask s keys p)) ≡ false
  quiet_opened s None p = refl
  quiet_opened s (Some keys) p = refl

  quiet_fail : (s : Side) (may : Bool) (p : PathState C)
      → tells_a_segment (Some (if may then Ask.Send s (SendCall.GoInfinite (path_of p)) else fell_ask s (events.FailHeard false) p)) ≡ false
  quiet_fail s true p = refl
  quiet_fail s false p = refl

  quiet_rate : (s : Side) (pending : Option Pending) (p : PathState C) → tells_a_segment (Some (rate_ask s pending p)) ≡ false
  quiet_rate s None p = refl
  quiet_rate s (Some pending) p = refl

  module _ (k : Codec C) where
    -- what a duty asks, and where the link is then
    abbrev Told : Option ToSend → Ask → (Reply → PathState C) → PathState C → Type 0
    Told None ask after p = tells_a_segment (Some ask) ≡ false
    Told (Some t) ask after p = (ask ≡ sends k t.from (segment_sent p t) p) × ((r : Reply) → (after r).link ≡ handed k t.from (segment_sent p t) p)

    told_data : (s : Side) (unsent : Option Record) (p : PathState C)
        → Told (unsent_sends s unsent) (data_ask k s unsent p) (λ r. answered_data k s unsent r p) p
    told_data s None p = refl
    told_data s (Some record_) p = (refl, λ r. refl)

    told_break : (s : Side) (reason : ℕ) (asked : Bool) (p : PathState C)
        → Told (if asked then None else to_send s (SegmentKind.Reset (Some reason)))
        (if asked then ack_out_ask s else sends k s (reset_of s (Some reason) p) p)
        (λ r. if asked then answered_ack_out s r (resets s reason) p else reset_on k s (Some reason) (leaves s) p) p
    told_break s reason true p = refl
    told_break s reason false p = (refl, λ r. refl)

    told_mapping : (s : Side) (clash : Bool) (p : PathState C)
        → Told (if clash then broken_by s 1 p else None) (if clash then break_ask k s 1 p else fell_ask s events.MappingHeard p)
        (λ r. if clash then answered_break k s 1 r p
        else goes_on s (with_learned (after_fell events.MappingHeard r (end_at s p))) (fell_duties s r p) p) p
    told_mapping s true p = told_break s 1 (end_at s p).treated.asked p
    told_mapping s false p = refl

    told_ack : (s : Side) (breaks : Bool) (p : PathState C)
        → Told (if breaks then broken_by s 6 p else None) (if breaks then break_ask k s 6 p else fell_ask s events.PlainAck p)
        (λ r. if breaks then answered_break k s 6 r p
        else goes_on s (with_plain_ack (after_fell events.PlainAck r (end_at s p))) (fell_duties s r p) p) p
    told_ack s true p = told_break s 6 (end_at s p).treated.asked p
    told_ack s false p = refl

    told_item : (s : Side) (item : Option Heard) (p : PathState C) → Told (heard_sends s item p) (item_ask k s item p) (λ r. answered_item k s item r p) p
    told_item s (Some (Heard.Mapping fin)) p = told_mapping s (is_clash (end_at s p)) p
    told_item s (Some Heard.Fail) p = quiet_fail s (may_go_infinite (end_at s p)) p
    told_item s _ p = refl

    told_so : (d : Duty) (p : PathState C) → Told (duty_sends d p) (ask_for k d p) (λ r. answered k d r p) p
    told_so (Duty.Ask (AskDuty.PeerKey s)) p = quiet_peer_key s (key_heard (end_at s p).treated.items) p
    told_so (Duty.Ask (AskDuty.JoinHeard s)) p = quiet_join s (asked_at s p) p
    told_so (Duty.Ask (AskDuty.Opened s)) p = quiet_opened s (keys_heard (end_at s p).treated.items) p
    told_so (Duty.Ask (AskDuty.SubflowAck s)) p = quiet_ack s (plain_next (end_at s p)) (end_at s p).treated.window
    told_so (Duty.Ask (AskDuty.Edge s)) p = quiet_piece s (piece_of s p)
    told_so (Duty.Ask (AskDuty.HeardFin s index)) p = quiet_fin s (data_fin_of index (end_at s p))
    told_so (Duty.Ask (AskDuty.SubflowFin s)) p = quiet_fin s (place_of_fin (end_at s p))
    told_so (Duty.Ask (AskDuty.Rate s)) p = quiet_rate s (end_at s p).tcp.congestion.pending p
    told_so (Duty.Step (StepDuty.Data s)) p = told_data s (first_unsent (end_at s p)) p
    told_so (Duty.Step StepDuty.Events) p = quiet_event (path_of p) (next_event p)
    told_so (Duty.Step (StepDuty.Heard s index)) p = told_item s (item_of index (end_at s p)) p
    told_so (Duty.Step (StepDuty.PlainAck s)) p = told_ack s (breaks_by_ack p.profile (end_at s p)) p
    told_so (Duty.Step (StepDuty.Unmapped s)) p = told_break s 6 (end_at s p).treated.asked p
    told_so (Duty.Send (SendDuty.Update s)) p = (refl, λ r. refl)
    told_so (Duty.Send (SendDuty.Syn s)) p = (refl, λ r. refl)
    told_so (Duty.Send (SendDuty.FastClose s)) p = (refl, λ r. refl)
    told_so (Duty.Send (SendDuty.Notice s)) p = (refl, λ r. refl)
    told_so (Duty.Send (SendDuty.DataFin s)) p = (refl, λ r. refl)
    told_so (Duty.Send (SendDuty.Fin s)) p = (refl, λ r. refl)
    told_so (Duty.Send (SendDuty.SynAck s)) p = (refl, λ r. refl)
    told_so (Duty.Send (SendDuty.Refuse s)) p = (refl, λ r. refl)
    told_so (Duty.Send (SendDuty.Acknowledge s)) p = (refl, λ r. refl)
    told_so (Duty.Send (SendDuty.Again s)) p = (refl, λ r. refl)
    told_so (Duty.Send (SendDuty.Answer s)) p = (refl, λ r. refl)
    told_so (Duty.Send (SendDuty.ResetAnswer s)) p = (refl, λ r. refl)
    told_so (Duty.Send (SendDuty.Resend s)) p = (refl, λ r. refl)
    told_so (Duty.Send (SendDuty.BreakReset s reason)) p = (refl, λ r. refl)
    told_so (Duty.Send (SendDuty.Reset s)) p = (refl, λ r. refl)
    told_so (Duty.Send (SendDuty.ResetNoted s)) p = (refl, λ r. refl)
    told_so _ p = refl

    -- the step of a duty that sends a segment
    pub step_sent : (d : SendDuty) (t : ToSend) (p : PathState C) → Some t ≡ send_of d
        → sends k t.from (segment_sent p t) p ≡ ask_for k (Duty.Send d) p
    step_sent d t p is =
        sym (subst (λ (sent : Option ToSend). Told sent (ask_for k (Duty.Send d) p) (λ r. answered k (Duty.Send d) r p) p) (sym is)
        (told_so (Duty.Send d) p)).0

    -- ---- a step

    abbrev TellsAt : Option ToSend → List Duty → PathState C → Type 0
    TellsAt None ds p = tells_a_segment (asks_first k ds p) ≡ false
    TellsAt (Some t) ds p =
        (asks_first k ds p ≡ Some (sends k t.from (segment_sent p t) p))
        × ((r : Reply) → (settles_down (answers k ds r p)).link ≡ handed k t.from (segment_sent p t) p)

    with_settling : (sent : Option ToSend) (d : Duty) (ds : List Duty) (p : PathState C)
        → Told sent (ask_for k d p) (λ r. answered k d r p) p → TellsAt sent (d ∷ ds) p
    with_settling None d ds p told = told
    with_settling (Some t) d ds p told =
        (ap Some told.0, λ r. settled_link (answered k d r p).agenda (answered k d r p) ∙ told.1 r)

    tells_at : (ds : List Duty) (p : PathState C) → TellsAt (first_sends ds p) ds p
    tells_at [] p = refl
    tells_at (d ∷ ds) p = with_settling (duty_sends d p) d ds p (told_so d p)

    as_law : (sent : Option ToSend) (p : PathState C) → TellsAt sent p.agenda p → HandsOrTellsNone k p sent
    as_law None p tells = tells
    as_law (Some t) p tells = record { told = tells.0; taken = tells.1 }

    pub each_segment_is_told : EachSegmentIsTold k
    each_segment_is_told p = as_law (first_sends p.agenda p) p (tells_at p.agenda p)

-- ---- its octets tell what the step tells

padded_len : (text : List ℕ) → length (padded text) % 4 ≡ 0
padded_len text =
    let zero : ℕ = 0 in
    omega (arith, length-append text (replicate (padding (length text)) zero), length-replicate (padding (length text)) zero)

header_is : (checksum : ℕ) (segment : Segment) → length segment.options % 4 ≡ 0 → header_len (octets_with checksum segment) ≡ 20 + length segment.options
unfolding fixed_header
header_is checksum segment whole = omega arith

rest_is : (checksum : ℕ) (segment : Segment) → drop 20 (octets_with checksum segment) ≡ segment.options ++ segment.payload
unfolding fixed_header
rest_is checksum segment = refl

payload_is : (checksum : ℕ) (segment : Segment) → length segment.options % 4 ≡ 0
    → drop (header_len (octets_with checksum segment)) (octets_with checksum segment) ≡ segment.payload
payload_is checksum segment whole =
    ap (λ (n : ℕ). drop n (octets_with checksum segment)) (header_is checksum segment whole)
    ∙ sym (drop-drop (length segment.options) 20 (octets_with checksum segment)) ∙ ap (drop (length segment.options)) (rest_is checksum segment)
    ∙ drop_at segment.options segment.payload (length segment.options) refl

sum_is : (checksum : ℕ) (segment : Segment) → checksum < 2 ^ 16 → number_at w16 (octets_with checksum segment) 16 ≡ checksum
unfolding fixed_header
sum_is checksum segment fits = from_be_bytes-to_be_bytes_2 checksum fits

made_payload : (spelling : Spelling) (s : Side) (segment : PlainSegment)
    → drop (header_len (made spelling s segment)) (made spelling s segment) ≡ segment.payload
unfolding segment_text spelled
made_payload spelling s segment = payload_is (sum_of spelling s segment) (spelled spelling s segment)
    (padded_len (unpadded_options spelling s segment))

made_sum : (spelling : Spelling) (s : Side) (segment : PlainSegment) → number_at w16 (made spelling s segment) 16 ≡ sum_of spelling s segment
unfolding segment_text
made_sum spelling s segment = sum_is (sum_of spelling s segment) (spelled spelling s segment) (omega arith)

step_is : (p : PathState (List ℕ)) (t : ToSend) → sends octets t.from (segment_sent p t) p ≡ step_told (departing_as p t)
step_is p t =
    let text : List ℕ = made p.profile.spelling t.from (segment_sent p t) in
    ap (λ (n : ℕ). Ask.Local (LocalStep.Sent t.from (next_number t.from p.link) n (sum_of p.profile.spelling t.from (segment_sent p t))))
    (sym (ap length (made_payload p.profile.spelling t.from (segment_sent p t))))
    ∙ ap (λ (n : ℕ). Ask.Local (LocalStep.Sent t.from (next_number t.from p.link) (length (drop (header_len text) text)) n))
    (sym (made_sum p.profile.spelling t.from (segment_sent p t)))

told_where : (sent : Option ToSend) (p : PathState (List ℕ)) → HandsOrTellsNone octets p sent → IsTold (option_map (departing_as p) sent) p
told_where = elim [ None ↦ λ p hands. tt | Some t ↦ λ p hands. hands.told ∙ ap Some (step_is p t) ]

departing_told : (p : PathState (List ℕ)) → IsTold (departing p) p
departing_told p = told_where (first_sends p.agenda p) p (each_segment_is_told octets p)

pub outgoing_told : {E : Type 0} (p : PathState (List ℕ)) (result : Result (Option Departing) E) → IfOk result (λ d. d ≡ departing p)
    → IfOk result (λ d. IsTold d p)
outgoing_told p (Ok d) is = subst (λ d. IsTold d p) (sym is) (departing_told p)
outgoing_told p (Err e) is = tt

-- ---- a copy that arrives

abbrev some_arrived : ℕ → Side → List ℕ → Option Arrived
some_arrived path to carried = Some (record { to = to; octets = carried; addresses = addresses_from path (peer to) })

pub arrived_is : (path : ℕ) (to : Side) (carried : List ℕ) (flight : Option (Flight (List ℕ))) → IsSome flight → IfSome flight (λ f. carried ≡ f.carried)
    → some_arrived path to carried ≡ option_map (arrived_as path to) flight
arrived_is path to carried (Some f) there is = rw is refl
arrived_is path to carried None there is = cc

-- ---- octets that are made are a segment

pub made_whole : (spelling : Spelling) (path : ℕ) (s : Side) (segment : PlainSegment) → spelling.path ≡ path → CanBeSaid spelling s segment
    → IsOk (segment_meaning (addresses_from path s) (made spelling s segment))
made_whole spelling path s segment same can =
    let addresses = addresses_from spelling.path s in
    let reads : segment_meaning addresses (made spelling s segment) ≡ Ok (spelled spelling s segment) =
    segment_meaning-written addresses (spelled spelling s segment) (four spelling.path s) (four spelling.path (peer s)) (written spelling s segment can) in
    subst (λ a. IsOk (segment_meaning a (made spelling s segment))) (ap (λ n. addresses_from n s) same)
    (subst (λ r. IsOk r) (sym reads) refl)
