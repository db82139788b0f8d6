-- A path over octets is the path over values, shown: one clause for each duty.
use Rattle.path_core.proofs.Words.{◌≡◌, ◌⊎◌, inl, inr, refl, sym, ap, subst, ◌∙◌, ℕ, ◌+◌, ◌≤◌, ◌&&◌, nat_lt, Bool, true, false, if◌then◌else◌, Option, Some}
use Rattle.path_core.proofs.Words.{None, List, [], ◌∷◌, length, map, ◌^◌, is_some, not, cond, find, position, position_or_len, length-map, take-map, drop-map}
use Rattle.path_core.proofs.Words.{map-append, Verdict, FallEvent, Side, peer, A, B, JoinSyn, ControlReply, SendCall, Record, Occasion, segments_sent}
use Rattle.path_core.proofs.Words.{next_number, is_due, next_due, arriving, after_delivery, without, after_send, changed, arrivals, with_flights, one_more}
use Rattle.path_core.proofs.Words.{Flight, Spelling, PlainSegment, Expected, IsFresh, meant, subflow_number, HeardSegment, Piece, Heard, key_heard, keys_heard}
use Rattle.path_core.proofs.Words.{emission, leaves, resets, start_of_turn, replaced, Duty, AskDuty, StepDuty, KeyPair, SendDuty, SilentDuty, Reply, tail_of}
use Rattle.path_core.proofs.Words.{Ask, copy_heard, copy_taken, expected_by, octets, CanBeSaid, octets_of, shown_path, CanBeAltered, SentCanBeAltered}
use Rattle.path_core.proofs.Words.{IsFarReset, IsFreshCopy, NextIsFresh, Carried, as_arrived, values, with_learned, is_clash, with_data_fin, is_acked}
use Rattle.path_core.proofs.Words.{told_next, with_acked, syn_ack_of, answered_peer_key, answered_opened, peer_key_ask, opened_ask, never_joined, is_never}
use Rattle.path_core.proofs.Words.{keys_begun, opened_by, asked_at, join_taken, join_heard_ask, note_of, having_noted, after_fell, fell_duties, answered_fell}
use Rattle.path_core.proofs.Words.{after_check_failed, after_infinite, may_go_infinite, book_answered, after_fail_heard, breaks_by_ack, with_plain_ack}
use Rattle.path_core.proofs.Words.{fell_ask, at_tick, PathState, end_at, with_agenda, goes_on, left, path_of, PathEnd, died, stands, ask_for, passed, answered}
use Rattle.path_core.proofs.Words.{settled, settles_down, asks_first, asks_of, answers, takes, next_round, data_fin_segment, having_sent_data_fin}
use Rattle.path_core.proofs.Words.{fin_segment_of, having_sent_fin, is_fin_set, answered_fin_heard, answered_plain_fin, first_unsent, unsent_segment}
use Rattle.path_core.proofs.Words.{having_sent_unsent, data_ask, Grant, grant_in, answered_grant, answered_data, first_segment, answer_occasion, answer_of}
use Rattle.path_core.proofs.Words.{dead_answer, resend_occasion, resend_of, next_event, after_line, happens_if, step_for, refusal_of, reset_of, reset_on}
use Rattle.path_core.proofs.Words.{break_ask, answered_break, piece_of, is_placed, answered_piece, rate_ask, sends, having_sent, handed, sent_on}
use Rattle.path_core.proofs.Words.{answered_ack_out, ack_segment, ack_out_ask, item_of, item_ask, answered_item, SegmentKind, to_send, broken_by, heard_sends}
use Rattle.path_core.proofs.Words.{unsent_sends, duty_sends, first_sends, made}
use Rattle.std.specs.Option.{IfSome, IsSome, option_map}
use Rattle.link_model.specs.declared.flight.Due.{Due}
use Rattle.link_model.specs.Fate.{is_stripped, is_altered}
use Rattle.link_model.specs.Laws.{with_copies_shown, shown_flight}
use Rattle.link_model.specs.State.{LinkState}
use Rattle.link_model.specs.Steps.{counted, with_waiting, waiting_after, fate_at, first_arrival}
use Rattle.link_model.proofs.Shown.{sent_shown}
use Rattle.path_segments.specs.declared.position.HeardPosition.TheVariants.{At}
use Rattle.path_core.proofs.ChangedCopies.{octets_changed}
use Rattle.path_core.proofs.CopiesRead.{near_read, far_read}
use Rattle.path_core.proofs.FarResets.{far_treated}
use Rattle.path_core.specs.Arrival.{heard_in}
use Rattle.path_core.specs.declared.events.Event.{Event}
use Rattle.fallback_state.specs.declared.fall.Mode.TheVariants.{Identity}
use Rattle.path_core.specs.FastClose.{fast_close_of, having_fast_closed}
use Rattle.path_store.specs.declared.lines.LineAction.{LineAction}
use Rattle.loss_recovery.specs.declared.windows.Pending.{Pending}

-- ---- the next event

same_due : (p : PathState Carried) (flights : List (Flight Carried)) → next_due (map (shown_flight (octets_of p.profile.spelling)) flights) ≡ next_due flights
same_due p [] = refl
same_due p (f ∷ flights) = refl

pub same_event : (p : PathState Carried) → next_event (shown_path p) ≡ next_event p
same_event p = rw (same_due p p.link.under_way) refl

-- ---- what stands, and what is passed

same_stands : (d : Duty) (p : PathState Carried) → stands d (shown_path p) ≡ stands d p
same_stands (Duty.Ask AskDuty.JoinAgain) p = refl
same_stands (Duty.Send (SendDuty.ResetNoted s)) p = refl
same_stands (Duty.Silent (SilentDuty.Timer s)) p = refl
same_stands (Duty.Step StepDuty.Events) p = ap is_some (same_event p)
same_stands _ p = refl

same_taken : (s : Side) (spelling : Spelling) (link : LinkState Carried) → segments_sent s (with_copies_shown (octets_of spelling) link) ≡ segments_sent s link
same_taken = elim [ A ↦ λ spelling link. refl | B ↦ λ spelling link. refl ]

same_sends : (s : Side) (segment : PlainSegment) (p : PathState Carried) → sends octets s segment (shown_path p) ≡ sends values s segment p
same_sends s segment p = rw (same_taken s p.profile.spelling p.link) refl

same_break : (s : Side) (asked : Bool) (reason : ℕ) (p : PathState Carried)
    → (if asked then ack_out_ask s else sends octets s (reset_of s (Some reason) (shown_path p)) (shown_path p))
    ≡ (if asked then ack_out_ask s else sends values s (reset_of s (Some reason) p) p)
same_break s true reason p = refl
same_break s false reason p = same_sends s (reset_of s (Some reason) p) p

same_data : (s : Side) (o : Option Record) (p : PathState Carried) → data_ask octets s o (shown_path p) ≡ data_ask values s o p
same_data s None p = refl
same_data s (Some r) p = same_sends s (unsent_segment s p) p

same_break_or : (s : Side) (breaks : Bool) (reason : ℕ) (event : FallEvent) (p : PathState Carried)
    → (if breaks then break_ask octets s reason (shown_path p) else fell_ask s event (shown_path p))
    ≡ (if breaks then break_ask values s reason p else fell_ask s event p)
same_break_or s true reason event p = same_break s (end_at s p).treated.asked reason p
same_break_or s false reason event p = refl

same_peer_key : (s : Side) (key : Option ℕ) (p : PathState Carried) → peer_key_ask s key (shown_path p) ≡ peer_key_ask s key p
same_peer_key s None p = refl
same_peer_key s (Some key) p = refl

same_opened : (s : Side) (keys : Option KeyPair) (p : PathState Carried) → opened_ask s keys (shown_path p) ≡ opened_ask s keys p
same_opened s None p = refl
same_opened s (Some keys) p = refl

same_rate : (s : Side) (pending : Option Pending) (p : PathState Carried) → rate_ask s pending (shown_path p) ≡ rate_ask s pending p
same_rate s None p = refl
same_rate s (Some pending) p = refl

same_fail : (s : Side) (may : Bool) (p : PathState Carried)
    → (if may then Ask.Send s (SendCall.GoInfinite (path_of (shown_path p))) else fell_ask s (FallEvent.FailHeard false) (shown_path p))
    ≡ (if may then Ask.Send s (SendCall.GoInfinite (path_of p)) else fell_ask s (FallEvent.FailHeard false) p)
same_fail s true p = refl
same_fail s false p = refl

same_item : (s : Side) (item : Option Heard) (p : PathState Carried) → item_ask octets s item (shown_path p) ≡ item_ask values s item p
same_item s (Some (Heard.Mapping fin)) p = same_break_or s (is_clash (end_at s p)) 1 FallEvent.MappingHeard p
same_item s (Some Heard.Fail) p = same_fail s (may_go_infinite (end_at s p)) p
same_item s _ p = refl

same_join : (s : Side) (asked : Option JoinSyn) (p : PathState Carried) → join_heard_ask s asked (shown_path p) ≡ join_heard_ask s asked p
same_join s None p = refl
same_join s (Some asked) p = refl

same_asks : (d : Duty) (p : PathState Carried) → ask_for octets d (shown_path p) ≡ ask_for values d p
same_asks (Duty.Send (SendDuty.ResetNoted s)) p = same_sends s (reset_of s None p) p
same_asks (Duty.Send (SendDuty.Update s)) p = same_sends s (ack_segment s p) p
same_asks (Duty.Send (SendDuty.FastClose s)) p = same_sends s (fast_close_of s p) p
same_asks (Duty.Send (SendDuty.Notice s)) p = same_sends s (note_of s p) p
same_asks (Duty.Send (SendDuty.Syn s)) p = same_sends s (unsent_segment s p) p
same_asks (Duty.Step (StepDuty.Data s)) p = same_data s (first_unsent (end_at s p)) p
same_asks (Duty.Send (SendDuty.DataFin s)) p = same_sends s (data_fin_segment s p) p
same_asks (Duty.Send (SendDuty.Fin s)) p = same_sends s (fin_segment_of s p) p
same_asks (Duty.Silent (SilentDuty.Timer s)) p = refl
same_asks (Duty.Step StepDuty.Events) p = ap (step_for (path_of p)) (same_event p)
same_asks (Duty.Ask (AskDuty.PeerKey s)) p = same_peer_key s (key_heard (end_at s p).treated.items) p
same_asks (Duty.Send (SendDuty.SynAck s)) p = same_sends s (syn_ack_of s p) p
same_asks (Duty.Ask (AskDuty.JoinHeard s)) p = same_join s (asked_at s p) p
same_asks (Duty.Send (SendDuty.Refuse s)) p = same_sends s (refusal_of s p) p
same_asks (Duty.Ask (AskDuty.Opened s)) p = same_opened s (keys_heard (end_at s p).treated.items) p
same_asks (Duty.Step (StepDuty.Heard s index)) p = same_item s (item_of index (end_at s p)) p
same_asks (Duty.Step (StepDuty.PlainAck s)) p = same_break_or s (breaks_by_ack p.profile (end_at s p)) 6 FallEvent.PlainAck p
same_asks (Duty.Step (StepDuty.Unmapped s)) p = same_break s (end_at s p).treated.asked 6 p
same_asks (Duty.Ask (AskDuty.Rate s)) p = same_rate s (end_at s p).tcp.congestion.pending p
same_asks (Duty.Send (SendDuty.Acknowledge s)) p = same_sends s (ack_segment s p) p
same_asks (Duty.Send (SendDuty.Again s)) p = same_sends s (first_segment s p) p
same_asks (Duty.Send (SendDuty.Answer s)) p = same_sends s (answer_of s p) p
same_asks (Duty.Send (SendDuty.ResetAnswer s)) p = same_sends s (dead_answer s p) p
same_asks (Duty.Send (SendDuty.Resend s)) p = same_sends s (resend_of s p) p
same_asks (Duty.Send (SendDuty.BreakReset s reason)) p = same_sends s (reset_of s (Some reason) p) p
same_asks (Duty.Send (SendDuty.Reset s)) p = same_sends s (reset_of s None p) p
same_asks _ p = refl

same_passed : (d : Duty) (p : PathState Carried) → passed d (shown_path p) ≡ shown_path (passed d p)
same_passed (Duty.Ask AskDuty.JoinAgain) p = refl
same_passed (Duty.Step (StepDuty.Look s)) p = refl
same_passed (Duty.Send (SendDuty.ResetNoted s)) p = refl
same_passed (Duty.Silent (SilentDuty.Timer s)) p = refl
same_passed _ p = refl

pub same_settled : (ds : List Duty) (p : PathState Carried) → settled ds (shown_path p) ≡ shown_path (settled ds p)
same_settled [] p = refl
same_settled (d ∷ ds) p =
    (elim (stands d p) as (λ b. stands d p ≡ b → settled ds (shown_path (passed d p)) ≡ shown_path (settled ds (passed d p)) → settled (d ∷ ds) (shown_path p) ≡ shown_path (settled (d ∷ ds) p))
    [ true ↦ λ is rest. rw (same_stands d p, is) refl | false ↦ λ is rest. rw (same_stands d p, is, same_passed d p) rest ]) refl (same_settled ds (passed d p))

pub asks_the_same : (p : PathState Carried) → asks_of octets (shown_path p) ≡ asks_of values p
asks_the_same p = elim p.agenda as (λ ds. asks_first octets ds (shown_path p) ≡ asks_first values ds p) [ [] ↦ refl | d ∷ ds ↦ ap Some (same_asks d p) ]

pub begins_the_same : (p : PathState Carried) → next_round (shown_path p) ≡ shown_path (next_round p)
begins_the_same p = same_settled start_of_turn (with_agenda start_of_turn (record p { clock = p.until; until = p.until + 100 }))

-- ---- what is sent

-- what arrives is carried by a link that changes nothing
arrives_alone : {C : Type 0} (strip alter : C → C) (stripped altered : Bool) (carried : C)
    → changed strip alter stripped altered carried ≡ changed (λ c. c) (λ c. c) stripped altered (changed strip alter stripped altered carried)
arrives_alone strip alter true true carried = refl
arrives_alone strip alter true false carried = refl
arrives_alone strip alter false true carried = refl
arrives_alone strip alter false false carried = refl

alone_send : {C : Type 0} (strip alter : Side → C → C) (from : Side) (carried : C) (length now : ℕ) (link : LinkState C)
    → after_send strip alter from carried length now link
    ≡ after_send (λ side c. c) (λ side c. c) from
    (changed (strip from) (alter from) (is_stripped from (next_number from link) now link.lines) (is_altered from (next_number from link) link.lines) carried) length now link
alone_send strip alter from carried length now link =
    let number = next_number from link in
    ap (λ arriving. one_more from (with_waiting from (waiting_after from number length now link) (record link {
      under_way =
          with_flights (peer from) number arriving (arrivals (fate_at from number length now link) (first_arrival from number length now link)) link.under_way;
    })))
    (arrives_alone (strip from) (alter from) (is_stripped from number now link.lines) (is_altered from number link.lines) carried)

same_handed : (s : Side) (segment : PlainSegment) (p : PathState Carried)
    → (is_altered s (next_number s p.link) p.link.lines ≡ true → CanBeSaid p.profile.spelling s segment)
    → handed octets s segment (shown_path p) ≡ with_copies_shown (octets_of p.profile.spelling) (handed values s segment p)
same_handed s segment p said =
    let spelling = p.profile.spelling in let show : Carried → List ℕ = octets_of spelling in
    let strips : ℕ → Bool = λ taken. is_stripped s (counted taken) p.clock p.link.lines in
    let alters : ℕ → Bool = λ taken. is_altered s (counted taken) p.link.lines in
    let taken : ℕ = segments_sent s p.link in
    let size : ℕ = length (made spelling s segment) in
    let arrives : Carried = changed (values.strips spelling s) (values.alters spelling s) (strips taken) (alters taken) (values.makes spelling s segment) in
    alone_send (octets.strips spelling) (octets.alters spelling) s (octets.makes spelling s segment) size p.clock (with_copies_shown show p.link)
    ∙ ap (λ (n : ℕ). after_send (λ side c. c) (λ side c. c) s
    (changed (octets.strips spelling s) (octets.alters spelling s) (strips n) (alters n) (octets.makes spelling s segment)) size p.clock (with_copies_shown show p.link))
    (same_taken s spelling p.link)
    ∙ ap (λ c. after_send (λ side c. c) (λ side c. c) s c size p.clock (with_copies_shown show p.link))
    (sym (octets_changed spelling s segment (strips taken) (alters taken) said))
    ∙ sym (sent_shown show (λ side c. c) (λ side c. c) (λ side c. c) (λ side c. c) (λ side c. refl) (λ side c. refl) s arrives size p.clock p.link)
    ∙ ap (with_copies_shown show) (sym (alone_send (values.strips spelling) (values.alters spelling) s (values.makes spelling s segment) size p.clock p.link))

pub same_sent : (s : Side) (segment : PlainSegment) (e : PathEnd) (ds : List Duty) (p : PathState Carried)
    → (is_altered s (next_number s p.link) p.link.lines ≡ true → CanBeSaid p.profile.spelling s segment)
    → sent_on octets s segment e ds (shown_path p) ≡ shown_path (sent_on values s segment e ds p)
same_sent s segment e ds p said = ap (λ (link : LinkState (List ℕ)). record (goes_on s e ds (shown_path p)) { link = link }) (same_handed s segment p said)

-- ---- what is answered

same_reset : (s : Side) (reason : Option ℕ) (ds : List Duty) (p : PathState Carried)
    → CanBeAltered p (record { from = s; kind = SegmentKind.Reset reason })
    → reset_on octets s reason ds (shown_path p) ≡ shown_path (reset_on values s reason ds p)
same_reset s reason ds p said = same_sent s (reset_of s reason p) (died (end_at s p)) ds p said

same_broken : (s : Side) (asked : Bool) (reason : ℕ) (r : Reply) (p : PathState Carried)
    → IfSome (if asked then None else to_send s (SegmentKind.Reset (Some reason))) (CanBeAltered p)
    → (if asked then answered_ack_out s r (resets s reason) (shown_path p) else reset_on octets s (Some reason) (leaves s) (shown_path p))
    ≡ shown_path (if asked then answered_ack_out s r (resets s reason) p else reset_on values s (Some reason) (leaves s) p)
same_broken s true reason r p said = refl
same_broken s false reason r p said = same_reset s (Some reason) (leaves s) p said

-- ---- what follows from a verdict

same_fell_duties : (s : Side) (r : Reply) (p : PathState Carried) → fell_duties s r (shown_path p) ≡ fell_duties s r p
same_fell_duties s (Reply.Control (ControlReply.Verdict (Verdict.Went Identity))) p = refl
same_fell_duties s (Reply.Control (ControlReply.Verdict (Verdict.BreakPath reason))) p = refl
same_fell_duties s _ p = refl

same_fallen : (s : Side) (r : Reply) (e : PathEnd) (p : PathState Carried)
    → goes_on s e (fell_duties s r (shown_path p)) (shown_path p) ≡ shown_path (goes_on s e (fell_duties s r p) p)
same_fallen s r e p = ap (λ (ds : List Duty). goes_on s e ds (shown_path p)) (same_fell_duties s r p)

same_fell : (s : Side) (event : FallEvent) (r : Reply) (p : PathState Carried) → answered_fell s event r (shown_path p) ≡ shown_path (answered_fell s event r p)
same_fell s event r p = same_fallen s r (after_fell event r (end_at s p)) p

same_broken_or : (s : Side) (breaks : Bool) (reason : ℕ) (r : Reply) (e : PathEnd) (p : PathState Carried)
    → IfSome (if breaks then broken_by s reason p else None) (CanBeAltered p)
    → (if breaks then answered_break octets s reason r (shown_path p) else goes_on s e (fell_duties s r (shown_path p)) (shown_path p))
    ≡ shown_path (if breaks then answered_break values s reason r p else goes_on s e (fell_duties s r p) p)
same_broken_or s true reason r e p said = same_broken s (end_at s p).treated.asked reason r p said
same_broken_or s false reason r e p said = same_fallen s r e p

same_peer_key_answered : (s : Side) (key : Option ℕ) (r : Reply) (p : PathState Carried)
    → answered_peer_key s key r (shown_path p) ≡ shown_path (answered_peer_key s key r p)
same_peer_key_answered s None r p = same_fell s FallEvent.PlainHandshake r p
same_peer_key_answered s (Some key) r p = refl

same_opened_answered : (s : Side) (keys : Option KeyPair) (r : Reply) (p : PathState Carried)
    → answered_opened s keys r (shown_path p) ≡ shown_path (answered_opened s keys r p)
same_opened_answered s None r p = same_fell s FallEvent.PlainHandshake r p
same_opened_answered s (Some keys) r p = refl

same_told : (s : Side) (covers : Bool) (p : PathState Carried) → told_next s covers (shown_path p) ≡ told_next s covers p
same_told s true p = refl
same_told s false p = refl

same_failed : (s : Side) (may : Bool) (r : Reply) (p : PathState Carried)
    → (if may then book_answered s r (shown_path p) else answered_fell s (FallEvent.FailHeard false) r (shown_path p))
    ≡ shown_path (if may then book_answered s r p else answered_fell s (FallEvent.FailHeard false) r p)
same_failed s true r p = refl
same_failed s false r p = same_fell s (FallEvent.FailHeard false) r p

same_heard : (s : Side) (item : Option Heard) (r : Reply) (p : PathState Carried) → IfSome (heard_sends s item p) (CanBeAltered p)
    → answered_item octets s item r (shown_path p) ≡ shown_path (answered_item values s item r p)
same_heard s None r p said = refl
same_heard s (Some Heard.Dss) r p said = refl
same_heard s (Some (Heard.DataAck next window)) r p said =
    ap (λ ds. goes_on s (with_acked next r (end_at s p)) ds (shown_path p)) (same_told s (is_acked r && nat_lt 0 next) p)
same_heard s (Some (Heard.Mapping fin)) r p said =
    same_broken_or s (is_clash (end_at s p)) 1 r (with_learned (after_fell FallEvent.MappingHeard r (end_at s p))) p said
same_heard s (Some (Heard.DataFin place)) r p said = same_fallen s r (with_data_fin place (after_fell FallEvent.MappingHeard r (end_at s p))) p
same_heard s (Some (Heard.InfiniteMapping place position)) r p said = same_fallen s r (after_infinite place position r (end_at s p)) p
same_heard s (Some Heard.Fail) r p said = same_failed s (may_go_infinite (end_at s p)) r p
same_heard s _ r p said = refl

same_grant : (s : Side) (o : Option Grant) (r : Reply) (p : PathState Carried) → answered_grant s o r (shown_path p) ≡ shown_path (answered_grant s o r p)
same_grant s None r p = refl
same_grant s (Some grant) r p = refl

same_data_answered : (s : Side) (o : Option Record) (r : Reply) (p : PathState Carried) → IfSome (unsent_sends s o) (CanBeAltered p)
    → answered_data octets s o r (shown_path p) ≡ shown_path (answered_data values s o r p)
same_data_answered s (Some record_due) r p said = same_sent s (unsent_segment s p) (having_sent_unsent s p) p.agenda p said
same_data_answered s None r p said = same_grant s (grant_in r) r p

same_piece : (s : Side) (piece : Option Piece) (taken : Bool) (p : PathState Carried) → answered_piece s piece taken (shown_path p) ≡ shown_path (answered_piece s piece taken p)
same_piece s None segments_sent p = refl
same_piece s (Some piece) true p = refl
same_piece s (Some piece) false p = refl

same_fin : (s : Side) (set : Bool) (p : PathState Carried) → answered_fin_heard s set (shown_path p) ≡ shown_path (answered_fin_heard s set p)
same_fin s true p = refl
same_fin s false p = refl

same_plain_fin : (s : Side) (set : Bool) (p : PathState Carried) → answered_plain_fin s set (shown_path p) ≡ shown_path (answered_plain_fin s set p)
same_plain_fin s true p = refl
same_plain_fin s false p = refl

-- ---- joins

same_begun : (never : Bool) (r : Reply) (dead living : List Duty) (p : PathState Carried)
    → (if never then goes_on A (never_joined r (end_at A p)) dead (shown_path p) else goes_on A (opened_by (keys_begun r) (end_at A p)) living (shown_path p))
    ≡ shown_path (if never then goes_on A (never_joined r (end_at A p)) dead p else goes_on A (opened_by (keys_begun r) (end_at A p)) living p)
same_begun = elim [ true ↦ λ r dead living p. refl | false ↦ λ r dead living p. refl ]

same_join_again : (never : Bool) (r : Reply) (p : PathState Carried)
    → (if never then goes_on A (never_joined r (end_at A p)) (replaced (Duty.Ask (AskDuty.Leave A)) p.agenda) (shown_path p)
    else goes_on A (opened_by (keys_begun r) (end_at A p)) (left p) (shown_path p))
    ≡ shown_path (if never then goes_on A (never_joined r (end_at A p)) (replaced (Duty.Ask (AskDuty.Leave A)) p.agenda) p
    else goes_on A (opened_by (keys_begun r) (end_at A p)) (left p) p)
same_join_again never r p = same_begun never r (replaced (Duty.Ask (AskDuty.Leave A)) p.agenda) (left p) p

same_join_taken : (s : Side) (keys : Option KeyPair) (asked : Option JoinSyn) (r : Reply) (p : PathState Carried)
    → join_taken s keys asked r (shown_path p) ≡ shown_path (join_taken s keys asked r p)
same_join_taken s (Some keys) (Some asked) r p = refl
same_join_taken s (Some keys) None r p = refl
same_join_taken s None (Some asked) r p = refl
same_join_taken s None None r p = refl

-- ---- events

module _ (show : Carried → List ℕ) where
  same_arriving : (due : Due) (flights : List (Flight Carried))
      → find (is_due due) (map (shown_flight show) flights) ≡ option_map (shown_flight show) (find (is_due due) flights)
  same_arriving due [] = refl
  same_arriving due (f ∷ flights) = by (is_due due f) (same_arriving due flights)
    where
      by : (b : Bool) → find (is_due due) (map (shown_flight show) flights) ≡ option_map (shown_flight show) (find (is_due due) flights)
          → cond b (Some (shown_flight show f)) (find (is_due due) (map (shown_flight show) flights))
          ≡ option_map (shown_flight show) (cond b (Some f) (find (is_due due) flights))
      by = elim [ true ↦ λ rest. refl | false ↦ λ rest. rest ]

  same_place : (due : Due) (flights : List (Flight Carried)) → position_or_len (is_due due) (map (shown_flight show) flights) ≡ position_or_len (is_due due) flights
  same_place due [] = refl
  same_place due (f ∷ flights) = ap (λ n. cond (not (is_due due f)) (1 + n) 0) (same_place due flights)

  same_position : (due : Due) (flights : List (Flight Carried)) → position (is_due due) (map (shown_flight show) flights) ≡ position (is_due due) flights
  same_position due flights = rw (same_place due flights, length-map flights (shown_flight show)) refl

  same_without : (place : Option ℕ) (flights : List (Flight Carried)) → without place (map (shown_flight show) flights) ≡ map (shown_flight show) (without place flights)
  same_without None flights = refl
  same_without (Some n) flights = rw (take-map, drop-map, ← map-append) refl

  same_delivery : (due : Due) (link : LinkState Carried) → after_delivery due (with_copies_shown show link) ≡ with_copies_shown show (after_delivery due link)
  same_delivery due link =
      let gone : without (position (is_due due) (map (shown_flight show) link.under_way)) (map (shown_flight show) link.under_way)
      ≡ map (shown_flight show) (without (position (is_due due) link.under_way) link.under_way)
      = rw (same_position due link.under_way) (same_without (position (is_due due) link.under_way) link.under_way) in
      ap (λ flights. record (with_copies_shown show link) { under_way = flights }) gone

same_line : (action : LineAction) (p : PathState Carried) → after_line action (shown_path p) ≡ shown_path (after_line action p)
same_line = elim [ LineAction.Die ↦ λ p. refl | _ ↦ λ p. refl ]

same_copy_heard : (s : Side) (heard : Option HeardSegment) (p : PathState Carried) → copy_heard s heard (shown_path p) ≡ shown_path (copy_heard s heard p)
same_copy_heard s None p = refl
same_copy_heard s (Some h) p = refl

heard_ack : (acknowledged : Option ℕ) → IsSome acknowledged → IsSome (option_map (λ n. At n) acknowledged)
heard_ack = elim [ Some n ↦ λ some. refl | None ↦ λ some. absurd (cc some) ]

-- a fresh copy is heard as it was meant, and a far reset without its position
same_read : (s : Side) (o : Option (Flight Carried)) (p : PathState Carried) (q : PathState (List ℕ)) → end_at s q ≡ end_at s p
    → ((flight : Flight Carried) → o ≡ Some flight → IsFreshCopy p s flight.carried)
    → copy_heard s (heard_in octets s (option_map (shown_flight (octets_of p.profile.spelling)) o) (shown_path p)) q ≡ copy_heard s (heard_in values s o p) q
same_read s None p q same fresh = refl
same_read s (Some flight) p q same fresh = by (fresh flight refl).fresh
  where
    is : IsFreshCopy p s flight.carried
    is = fresh flight refl

    segment : PlainSegment
    segment = as_arrived flight.carried

    expected : Expected
    expected = expected_by (end_at s p)

    by : IsFresh p.profile.spelling (peer s) expected flight.carried.segment ⊎ IsFarReset p.profile.spelling (peer s) expected flight.carried.segment
        → copy_heard s (octets.reads p.profile.spelling (peer s) expected (octets_of p.profile.spelling flight.carried)) q ≡ copy_heard s (Some (meant segment)) q
    by (inl near) = ap (λ h. copy_heard s h q) (near_read p.profile.spelling (peer s) expected flight.carried is.from is.sayable is.expected near)
    by (inr far) =
        ap (λ h. copy_heard s h q) (far_read p.profile.spelling (peer s) expected flight.carried is.from is.sayable is.expected far)
        ∙ far_treated (subflow_number p.profile.spelling (peer s) segment.position) (meant segment) segment.position far.reset refl s q (heard_ack segment.acknowledged far.acknowledging) (subst (λ e. e.tcp.recv.edge + 2 ^ 31 ≤ segment.position) (sym same) far.ahead)

same_copy : (due : Due) (p : PathState Carried)
    → ((flight : Flight Carried) → arriving due p.link ≡ Some flight → IsFreshCopy p due.to flight.carried)
    → copy_taken octets due (shown_path p) ≡ shown_path (copy_taken values due p)
same_copy due p fresh =
    let show : Carried → List ℕ = octets_of p.profile.spelling in
    let heard : Option HeardSegment = heard_in values due.to (arriving due p.link) p in
    let after : PathState (List ℕ) = record (at_tick due.tick (shown_path p)) { link = after_delivery due (with_copies_shown show p.link) } in
    ap (λ (o : Option (Flight (List ℕ))). copy_heard due.to (heard_in octets due.to o (shown_path p)) after) (same_arriving show due p.link.under_way)
    ∙ same_read due.to (arriving due p.link) p after refl fresh
    ∙ ap (λ link. copy_heard due.to heard (record (at_tick due.tick (shown_path p)) { link = link })) (same_delivery show due p.link)
    ∙ same_copy_heard due.to heard (record (at_tick due.tick p) { link = after_delivery due p.link })

same_happening : (o : Option Event) (r : Reply) (p : PathState Carried)
    → ((due : Due) (flight : Flight Carried) → o ≡ Some (Event.Arrives due) → arriving due p.link ≡ Some flight → IsFreshCopy p due.to flight.carried)
    → happens_if octets o r (shown_path p) ≡ shown_path (happens_if values o r p)
same_happening None r p fresh = refl
same_happening (Some (Event.Joins tick)) r p fresh =
    same_begun (is_never r) r (leaves A) (emission A) (record (at_tick tick p) { joined_at = None })
same_happening (Some (Event.Takes line)) r p fresh = same_line line.action (record (at_tick line.tick p) { lines = tail_of p.lines })
same_happening (Some (Event.Arrives due)) r p fresh = same_copy due p (λ flight is. fresh due flight refl is)
same_happening (Some (Event.Fires s tick)) r p fresh = refl

-- ---- every duty

same_answered : (d : Duty) (r : Reply) (p : PathState Carried) → IfSome (duty_sends d p) (CanBeAltered p) → NextIsFresh p
    → answered octets d r (shown_path p) ≡ shown_path (answered values d r p)
same_answered (Duty.Ask AskDuty.JoinAgain) r p said fresh = same_join_again (is_never r) r p
same_answered (Duty.Step (StepDuty.Look s)) r p said fresh = refl
same_answered (Duty.Ask (AskDuty.LeaveNoted s)) r p said fresh = refl
same_answered (Duty.Send (SendDuty.ResetNoted s)) r p said fresh = same_reset s None (replaced (Duty.Ask (AskDuty.Leave s)) p.agenda) p said
same_answered (Duty.Ask (AskDuty.Window s)) r p said fresh = refl
same_answered (Duty.Send (SendDuty.Update s)) r p said fresh = same_sent s (ack_segment s p) (having_sent Occasion.Ack p.clock (ack_segment s p) (end_at s p)) (left p) p said
same_answered (Duty.Send (SendDuty.FastClose s)) r p said fresh = same_sent s (fast_close_of s p) (having_fast_closed s p) (left p) p said
same_answered (Duty.Send (SendDuty.Notice s)) r p said fresh = same_sent s (note_of s p) (having_noted s p) p.agenda p said
same_answered (Duty.Send (SendDuty.Syn s)) r p said fresh = same_sent s (unsent_segment s p) (having_sent_unsent s p) (left p) p said
same_answered (Duty.Step (StepDuty.Data s)) r p said fresh = same_data_answered s (first_unsent (end_at s p)) r p said
same_answered (Duty.Send (SendDuty.DataFin s)) r p said fresh = same_sent s (data_fin_segment s p) (having_sent_data_fin s p) (left p) p said
same_answered (Duty.Send (SendDuty.Fin s)) r p said fresh = same_sent s (fin_segment_of s p) (having_sent_fin s p) (left p) p said
same_answered (Duty.Silent (SilentDuty.Timer s)) r p said fresh = refl
same_answered (Duty.Step StepDuty.Events) r p said fresh =
    ap (λ o. happens_if octets o r (shown_path p)) (same_event p) ∙ same_happening (next_event p) r p fresh
same_answered (Duty.Ask (AskDuty.SynHeard s)) r p said fresh = refl
same_answered (Duty.Ask (AskDuty.SynAnswered s)) r p said fresh = refl
same_answered (Duty.Ask (AskDuty.PlainHandshake s)) r p said fresh = same_fell s FallEvent.PlainHandshake r p
same_answered (Duty.Ask (AskDuty.PeerKey s)) r p said fresh = same_peer_key_answered s (key_heard (end_at s p).treated.items) r p
same_answered (Duty.Send (SendDuty.SynAck s)) r p said fresh = same_sent s (syn_ack_of s p) (having_sent Occasion.SynAck p.clock (syn_ack_of s p) (end_at s p)) (left p) p said
same_answered (Duty.Ask (AskDuty.JoinHeard s)) r p said fresh = same_join_taken s (keys_begun r) (asked_at s p) r p
same_answered (Duty.Send (SendDuty.Refuse s)) r p said fresh = same_sent s (refusal_of s p) (end_at s p) (left p) p said
same_answered (Duty.Ask (AskDuty.Opened s)) r p said fresh = same_opened_answered s (keys_heard (end_at s p).treated.items) r p
same_answered (Duty.Ask (AskDuty.Live s)) r p said fresh = refl
same_answered (Duty.Step (StepDuty.Heard s index)) r p said fresh = same_heard s (item_of index (end_at s p)) r p said
same_answered (Duty.Ask (AskDuty.AckHeard s)) r p said fresh = same_fell s FallEvent.AckHeard r p
same_answered (Duty.Step (StepDuty.PlainAck s)) r p said fresh =
    same_broken_or s (breaks_by_ack p.profile (end_at s p)) 6 r (with_plain_ack (after_fell FallEvent.PlainAck r (end_at s p))) p said
same_answered (Duty.Ask (AskDuty.FailHeard s)) r p said fresh = same_fallen s r (after_fail_heard r (end_at s p)) p
same_answered (Duty.Ask (AskDuty.SubflowAck s)) r p said fresh = refl
same_answered (Duty.Ask (AskDuty.PlainData s)) r p said fresh = same_fell s FallEvent.PlainData r p
same_answered (Duty.Ask (AskDuty.GoIdentity s)) r p said fresh = refl
same_answered (Duty.Silent (SilentDuty.Keep s)) r p said fresh = refl
same_answered (Duty.Ask (AskDuty.Edge s)) r p said fresh = same_piece s (piece_of s p) (is_placed r) p
same_answered (Duty.Ask (AskDuty.CheckFailed s)) r p said fresh =
    same_fallen s r (after_check_failed p.profile.spelling.checksums r (end_at s p)) p
same_answered (Duty.Step (StepDuty.Unmapped s)) r p said fresh = same_broken s (end_at s p).treated.asked 6 r p said
same_answered (Duty.Ask (AskDuty.HeardFin s index)) r p said fresh = same_fin s (is_fin_set r) p
same_answered (Duty.Silent (SilentDuty.PassFin s)) r p said fresh = refl
same_answered (Duty.Ask (AskDuty.SubflowFin s)) r p said fresh = same_plain_fin s (is_fin_set r) p
same_answered (Duty.Send (SendDuty.Acknowledge s)) r p said fresh = same_sent s (ack_segment s p) (having_sent Occasion.Ack p.clock (ack_segment s p) (end_at s p)) (left p) p said
same_answered (Duty.Send (SendDuty.Again s)) r p said fresh = same_sent s (first_segment s p) (having_sent Occasion.First p.clock (first_segment s p) (end_at s p)) (left p) p said
same_answered (Duty.Send (SendDuty.Answer s)) r p said fresh = same_sent s (answer_of s p) (having_sent (answer_occasion (end_at s p)) p.clock (answer_of s p) (end_at s p)) (left p) p said
same_answered (Duty.Send (SendDuty.ResetAnswer s)) r p said fresh = same_sent s (dead_answer s p) (end_at s p) (left p) p said
same_answered (Duty.Send (SendDuty.Resend s)) r p said fresh = same_sent s (resend_of s p) (having_sent (resend_occasion (end_at s p)) p.clock (resend_of s p) (end_at s p)) (left p) p said
same_answered (Duty.Send (SendDuty.BreakReset s reason)) r p said fresh = same_reset s (Some reason) (leaves s) p said
same_answered (Duty.Send (SendDuty.Reset s)) r p said fresh = same_reset s None (replaced (Duty.Ask (AskDuty.Leave s)) p.agenda) p said
same_answered _ r p said fresh = refl

same_answers : (ds : List Duty) (r : Reply) (p : PathState Carried) → IfSome (first_sends ds p) (CanBeAltered p) → NextIsFresh p
    → answers octets ds r (shown_path p) ≡ shown_path (answers values ds r p)
same_answers = elim [ [] ↦ λ r p said fresh. refl | d ∷ ds ↦ λ r p said fresh. same_answered d r p said fresh ]

pub takes_the_same : (r : Reply) (p : PathState Carried) → SentCanBeAltered p → NextIsFresh p → takes octets r (shown_path p) ≡ shown_path (takes values r p)
takes_the_same r p said fresh =
    ap settles_down (same_answers p.agenda r p said fresh) ∙ same_settled (answers values p.agenda r p).agenda (answers values p.agenda r p)
