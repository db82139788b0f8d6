-- What each duty's reply leaves of the numbers that a path's ends and copies tell.
use Rattle.world_laws.proofs.Words.{◌≡◌, refl, ap, subst, ℕ, suc, ◌+◌, ◌-◌, ◌≤◌, ◌&&◌, not, min, nat_lt, ⊎_elim, Bool, true, false, if◌then◌else◌, Option, Some}
use Rattle.world_laws.proofs.Words.{None, Result, Ok, Err, List, [], ◌∷◌, length, take, drop, arith, is_none, is_some, ◌<◌, ◌^◌, find, ltb-true, and_parts}
use Rattle.world_laws.proofs.Words.{and_from, length-take, length-drop, IfSome, Verdict, is_identity, is_starting, reads_mappings, with_infinite_receive, with_infinite_send}
use Rattle.world_laws.proofs.Words.{writes_mappings, Fall, after_sure_sign, after_plain, after_failed_check, after_fail, is_failed_path, goes, fall_step, Side}
use Rattle.world_laws.proofs.Words.{A, B, peer, JoinSyn, ControlReply, sole, next_wanted, window, Span, Why, SendBook, decision, reply_by, given_by}
use Rattle.world_laws.proofs.Words.{grant_reply, ack_reply, decision-MayTake, SendReply, KeptMapping, run_of, mapping_at, covers, Record, is_unsent}
use Rattle.world_laws.proofs.Words.{has_records, Occasion, after_finishing, PlainSegment, Piece, InfiniteMapping, leaves, resets, stops, Duty, SendDuty}
use Rattle.world_laws.proofs.Words.{StepDuty, OwnNotice, AskDuty, SilentDuty, Heard, KeyPair, replaced, first_of, key_heard, keys_heard, Ask, Reply, SixBooks}
use Rattle.world_laws.proofs.Words.{send_of, reassembly_of, control_of, reply_of, after_ask, pick, stands, ask_for, answered, PathEnd, died, answered_ack_out}
use Rattle.world_laws.proofs.Words.{after_look, after_ack_out, ack_out_ask, ack_segment, look_ask, PathState, end_at, goes_on, with_agenda, left, path_of}
use Rattle.world_laws.proofs.Words.{Carried, values, reset_of, reset_on, answered_break, refusal_of, break_ask, answered_refusal, answered_data, answered_grant}
use Rattle.world_laws.proofs.Words.{data_stands, first_unsent, grant_in, granted, unsent_segment, answer_occasion, answer_of, dead_answer, first_segment}
use Rattle.world_laws.proofs.Words.{resend_occasion, resend_of, data_ask, first_record, payload_size, refused, answered_dead, next_event, step_for, asked_at}
use Rattle.world_laws.proofs.Words.{join_taken, joined_by, keys_begun, with_mode_refused, join_heard_ask, answered_join_heard, having_asked, after_piece}
use Rattle.world_laws.proofs.Words.{is_wrong, failing_by, mapping_here, piece_of, is_placed, answered_piece, piece_ask, is_data_fin_owed, data_fin_segment}
use Rattle.world_laws.proofs.Words.{having_sent_data_fin, answered_data_fin_sent, fin_segment_of, having_sent_fin, answered_fin, with_peer_data_fin, place_of_fin}
use Rattle.world_laws.proofs.Words.{with_fin_told, answered_plain_fin, data_fin_of, fin_ask, answered_fin_heard, is_fin_set, is_clash, with_learned}
use Rattle.world_laws.proofs.Words.{with_data_fin, with_acked, told_next, mapping_ask, answered_mapping, heard_ask, item_ask, answered_heard, answered_item}
use Rattle.world_laws.proofs.Words.{item_of, check_failed_ask, after_check_failed, answered_check_failed, answered_infinite, fell_ask, after_fell, fell_duties}
use Rattle.world_laws.proofs.Words.{plain_ack_ask, subflow_ack_ask, answered_plain_ack, answered_subflow_ack, with_plain_ack, plain_next, plain_ack_in}
use Rattle.world_laws.proofs.Words.{plainly_acked, breaks_by_ack, may_go_infinite, fail_ask, answered_fail, book_answered, fail_heard_ask, answered_fail_heard}
use Rattle.world_laws.proofs.Words.{after_fail_heard, answered_fell, with_infinite, in_identity, breaks_by, after_infinite_heard, keys_ask, after_keys}
use Rattle.world_laws.proofs.Words.{peer_key_ask, opened_ask, answered_peer_key, answered_opened, with_peer_key, syn_ack_of, is_stopped_by, answered_fast_close}
use Rattle.world_laws.proofs.Words.{fast_heard_ask, having_fast_closed, having_noted, after_peer_notice, notice_ask, answered_note, receives_plainly, ack_said}
use Rattle.world_laws.proofs.Words.{carried_said, syn_ack_said, record_or_ack, Profile, sends, having_sent, sent_on, with_told, rate_ask, after_rate, Every}
use Rattle.world_laws.proofs.Words.{Holds, IsEndless, LaneHolds, Lane, View, view_of, AskPlace, LaneIsShort, if_so}
use Rattle.send_book.specs.declared.call.SendCall.TheVariants.{Grant, GoInfinite}
use Rattle.send_book.specs.Steps.{end_of, part_of}
use Rattle.fallback_state.specs.declared.fall.Event.{Event}
use Rattle.fallback_state.specs.declared.fall.Mode.TheVariants.{Starting, Sure, Identity, InfiniteSend, InfiniteReceive, InfiniteBoth, Aborted}
use Rattle.fallback_state.specs.Table as falling
use Rattle.fallback_state.specs.Table.{after_infinite}
use Rattle.byte_pieces.proofs.Ordered.{lt_true}
use Rattle.subflow_tcp.specs.States as states
use Rattle.path_agenda.specs.Agenda.{breaks}
use Rattle.path_core.specs.DssIn.{is_acked}
use Rattle.path_core.specs.FastClose.{fast_close_of}
use Rattle.path_core.specs.Addresses.{note_of}
use Rattle.world_laws.proofs.Lanes.Answering.{IsReady}
use Rattle.world_laws.proofs.Lanes.Ending.{unfinished_if}
use Rattle.world_laws.proofs.Lanes.OfAWorld.{flags_of, Others, duo_at}
use Rattle.world_laws.proofs.Lanes.Placing.{IsNextReady, next_ready}
use Rattle.world_laws.proofs.Lanes.Records.{every_find, every_at, every_first}
use Rattle.world_laws.proofs.Lanes.Replying.{every_item, granted_step}
use Rattle.world_laws.proofs.Lanes.Roads.{Strolls, stays}
use Rattle.world_laws.proofs.Lanes.Showing.{EndShows, PathShows, OwnIs, KeptShows}
use Rattle.world_laws.proofs.Lanes.Sides.{Answered}
use Rattle.world_laws.proofs.Lanes.Strolling.{side_shows, strolls_held, back_holds, out_holds}
use Rattle.world_laws.proofs.Lanes.Turning.{answered_holds}
use Rattle.world_laws.proofs.Numbers.TellSmall.{IsShort, IsKey, IsNonce, ItemTells, known_item, SegmentTells, EndTells, ack_said_tells, record_said_tells, syn_ack_tells, fin_said_tells, reset_tells, dead_answer_tells, refusal_tells, carried_tells, noted_tells, NoteTells, PairTells}
use Rattle.world_laws.proofs.Numbers.Arrivals.{joined_tells}
use Rattle.world_laws.proofs.Numbers.KeysFit.{again_keys, step_keys, joined_keys, look_key}
use Rattle.world_laws.proofs.Numbers.Events.{join_tells, events_tell}
use Rattle.world_laws.proofs.Numbers.EndRules as rules
use Rattle.world_laws.proofs.Numbers.EndRules.{AreKeys, heard_key, heard_keys, asked_nonce}
use Rattle.world_laws.proofs.Numbers.PathSteps.{is_fair, AreFair, PathTells, BooksAreShort, tail_fair, replaced_fair, sent_short, next_short, window_short, out_short, back_short, tells_at, tells_on, tells_agenda, tells_sent}

-- ---- grants

-- a granted piece has octets, no more than were asked for, and lies within what is written
record Within (most : ℕ) (b : SendBook) (span : Span) (piece : List ℕ) : Type 0 where
  some : 1 ≤ length piece
  few : length piece ≤ most
  place : span.from ≤ length b.written

granted_within : (path most : ℕ) (standby : Bool) (b : SendBook) (span : Span) (piece : List ℕ) → 1 ≤ most → length b.marks ≡ length b.written
    → grant_reply path most standby b ≡ SendReply.Granted span piece → Within most b span piece
granted_within path most standby b span piece some whole is = by (decision path most standby b) refl is
  where
    by : (d : Result Span Why) → decision path most standby b ≡ d → reply_by d b ≡ SendReply.Granted span piece → Within most b span piece
    by (Ok x) decided e =
        let same : x ≡ span = cc in
        let part : part_of x b.written ≡ piece = cc in
        let may = decision-MayTake path most standby b x decided in
        let to = may.whole in let within = may.within in let least = may.some some in let limit = may.most in
        let l : length piece ≡ min (x.to - x.from) (length b.written - x.from) =
        subst (λ ys. length ys ≡ min (x.to - x.from) (length b.written - x.from)) part
        (subst (λ n. length (take (x.to - x.from) (drop x.from b.written)) ≡ min (x.to - x.from) n) (length-drop x.from b.written) (length-take (x.to - x.from) (drop x.from b.written))) in
        record {
          some = omega (arith, l, to, within, least, whole);
          few = omega (arith, l, to, limit);
          place = subst (λ y. y.from ≤ length b.written) same (omega (arith, to, within, whole));
        }
    by (Err why) decided e = cc

-- where no more is written, the end is the number of octets
end_short : (b : SendBook) → IsShort (length b.written) → IfSome (end_of b) IsShort
end_short b short = if_so (λ z. IfSome z IsShort) (b.closed && not b.aborted) (Some (length b.written)) None short tt

-- a grant writes nothing
given_written : (path : ℕ) (d : Result Span Why) (b : SendBook) → (given_by path d b).written ≡ b.written
given_written path (Ok span) b = refl
given_written path (Err why) b = refl

grant_written : (s : Side) (path most : ℕ) (standby : Bool) (six : SixBooks) → (send_of s (after_ask (Ask.Send s (Grant path most standby)) six)).written ≡ (send_of s six).written
grant_written A path most standby six = given_written path (decision path most standby six.send_a) six.send_a
grant_written B path most standby six = given_written path (decision path most standby six.send_b) six.send_b

-- ---- after a step of the path

end_on : (s : Side) (f : PathEnd) (ds : List Duty) (p : PathState Carried) → end_at s (goes_on s f ds p) ≡ f
end_on = elim [ A ↦ λ f ds p. refl | B ↦ λ f ds p. refl ]

-- the lanes hold
pub after_holds : (c : Profile) (six : SixBooks) (others : Others) (ask : Ask) (q : PathState Carried) (ab ba : Lane) (a : Answered c six others ask q ab ba)
    → Holds (duo_at six ab ba others) → Holds (duo_at (after_ask ask six) a.after.ab_after a.after.ba_after others)
after_holds c six others ask q ab ba a holds =
    strolls_held (after_ask ask six) others a.ab_called a.after.ab_after a.ba_called a.after.ba_after a.after.ab_moves a.after.ba_moves (answered_holds c six others ask q ab ba holds a)

-- ---- the infinite mapping

-- what a lane goes by begins within what is written, or behind the FIN
own_tells : (v : View) (path : ℕ) (out : Lane) → LaneHolds v path out → LaneIsShort (length v.written) out → length v.written + 3 ≤ 2 ^ 31
    → (mapping : InfiniteMapping) → OwnIs out.pair out.pairs out.fins out.alters mapping → PairTells mapping
own_tells v path out holds lane short mapping is =
    let endless = (subst (λ o. IfSome o (λ m. IsEndless path v out.sent m × (m.place ≤ v.acked) × (v.owner ≡ Some path))) is.there holds.pairs.own).0 in
    let within = endless.within in let upto = endless.upto in let sent = lane.sent in
    record {
      place = let same = is.place_is in omega (arith, same, upto, short);
      position = ⊎_elim (λ at. omega (arith, at, within, sent, short))
          (λ has. let below = lane.fins.each has.at has.item has.there in let position = has.holds in omega (arith, below, position, short)) is.position_is;
    }

-- ---- verdicts

-- a path is broken with a reason of an octet
abbrev IsLow : Verdict → Type 0
IsLow (Verdict.BreakPath reason) = reason < 256
IsLow _ = Unit {0}

plain_low : (fall : Fall) → IsLow (after_plain fall).1
plain_low fall = elim (is_starting fall.mode && not fall.joined) as (λ b. IsLow (if b then goes Identity fall else falling.stays fall).1) [ true ↦ tt | false ↦ tt ]

sign_low : (fall : Fall) → IsLow (after_sure_sign fall).1
sign_low fall = elim (is_starting fall.mode) as (λ b. IsLow (if b then goes Sure fall else falling.stays fall).1) [ true ↦ tt | false ↦ tt ]

infinite_low : (path : ℕ) (sole : Bool) (fall : Fall) → IsLow (after_infinite path sole fall).1
infinite_low path sole fall = by (not (reads_mappings fall.mode)) (sole && is_failed_path fall.failed path) (writes_mappings fall.mode && not fall.joined && is_none fall.failed)
  where
    by : (deaf failed falls : Bool) → IsLow (if deaf then falling.stays fall
        else (if failed then goes (with_infinite_receive fall.mode) fall else (if falls then goes Identity fall else falling.breaks 1 fall))).1
    by true failed falls = tt
    by false true falls = tt
    by false false true = tt
    by false false false = omega arith

keys_low : (fall : Fall) → IsLow (falling.after_keys fall).1
keys_low fall = elim (is_identity fall.mode) as (λ b. IsLow (if b then falling.stays fall else (record fall { confirmed = true }, Verdict.Stay)).1)
    [ true ↦ tt | false ↦ tt ]

check_low : (path : ℕ) (sole : Bool) (fall : Fall) → IsLow (after_failed_check path sole fall).1
check_low path sole fall = by (not (reads_mappings fall.mode)) sole
  where
    by : (deaf sole : Bool) → IsLow (if deaf then falling.stays fall else (if sole then (record fall { failed = Some path }, Verdict.SendFail) else falling.breaks 6 fall)).1
    by true sole = tt
    by false true = tt
    by false false = omega arith

fail_low : (sole contiguous : Bool) (fall : Fall) → IsLow (after_fail sole contiguous fall).1
fail_low sole contiguous fall = by (not (writes_mappings fall.mode)) (sole && contiguous)
  where
    by : (deaf goes_on : Bool) → IsLow (if deaf then falling.stays fall else (if goes_on then goes (with_infinite_send fall.mode) fall else falling.breaks 1 fall)).1
    by true goes_on = tt
    by false true = tt
    by false false = omega arith

step_low : (fall : Fall) (path : ℕ) (sole : Bool) (event : Event) → IsLow (fall_step fall path sole event).1
step_low fall path sole Event.KeysHeard = keys_low fall
step_low fall path sole Event.MappingHeard = sign_low fall
step_low fall path sole Event.AckHeard = sign_low fall
step_low fall path sole Event.InfiniteHeard = infinite_low path sole fall
step_low fall path sole Event.CheckFailed = check_low path sole fall
step_low fall path sole (Event.FailHeard contiguous) = fail_low sole contiguous fall
step_low fall path sole Event.Stop = tt
step_low fall path sole _ = plain_low fall

-- what is to be done by a verdict
verdict_fair : (s : Side) (p : PathState Carried) (v : Verdict) → IsLow v → AreFair p.agenda → AreFair (fell_duties s (Reply.Control (ControlReply.Verdict v)) p)
verdict_fair s p (Verdict.Went Identity) low fair = replaced_fair (Duty.Ask (AskDuty.GoIdentity s)) p.agenda refl fair
verdict_fair s p (Verdict.Went Starting) low fair = tail_fair p.agenda fair
verdict_fair s p (Verdict.Went Sure) low fair = tail_fair p.agenda fair
verdict_fair s p (Verdict.Went InfiniteSend) low fair = tail_fair p.agenda fair
verdict_fair s p (Verdict.Went InfiniteReceive) low fair = tail_fair p.agenda fair
verdict_fair s p (Verdict.Went InfiniteBoth) low fair = tail_fair p.agenda fair
verdict_fair s p (Verdict.Went Aborted) low fair = tail_fair p.agenda fair
verdict_fair s p (Verdict.BreakPath reason) low fair = elim (end_at s p).treated.asked as (λ b. AreFair (breaks_by b s reason))
    [ true ↦ and_from (nat_lt reason 256) true octet refl | false ↦ and_from (nat_lt reason 256) true octet refl ]
  where
    octet : nat_lt reason 256 ≡ true
    octet = lt_true reason 256 low
verdict_fair s p Verdict.Stay low fair = tail_fair p.agenda fair
verdict_fair s p Verdict.SendFail low fair = tail_fair p.agenda fair

module _ (six : SixBooks) (others : Others) (p : PathState Carried) (ab ba : Lane) (h : PathShows p.profile p ab ba) (holds : Holds (duo_at six ab ba others))
    (ready : IsReady p ab ba) (numbered : path_of p ≡ others.number)
    (short : BooksAreShort six) (path : p.profile.spelling.path ≤ 15) (size : 29 ≤ p.profile.mss) (mss : p.profile.mss ≤ 65503) (t : PathTells p.profile p) where
  abbrev Tells : PathState Carried → Type 0
  Tells q = PathTells p.profile q

  left_fair : AreFair (left p)
  left_fair = tail_fair p.agenda t.agenda

  done_tells : Tells (with_agenda (left p) p)
  done_tells = tells_agenda p.profile p t (left p) left_fair

  module _ (s : Side) where
    abbrev e : PathEnd
    e = end_at s p

    abbrev tells : EndTells p.profile s e
    tells = tells_at p.profile p t s

    abbrev out : Lane
    out = pick s ab ba

    abbrev back : Lane
    back = pick s ba ab

    abbrev shows : EndShows p.profile s e out back
    shows = side_shows p.profile s p ab ba h

    abbrev out_is : LaneIsShort (length (send_of s six).written) out
    out_is = out_short six others ab ba holds short s

    abbrev back_is : LaneIsShort (length (send_of (peer s) six).written) back
    back_is = back_short six others ab ba holds short s

    -- the infinite mapping that the end goes by
    own_pair : IfSome e.modes.own_infinite PairTells
    own_pair = (elim e.modes.own_infinite as (λ o. IfSome o (OwnIs out.pair out.pairs out.fins out.alters) → IfSome o PairTells)
        [ None ↦ λ is. tt | Some mapping ↦ λ is. own_tells _ others.number out (out_holds six others s ab ba holds) out_is (short.written s) mapping is ]) shows.pairs.0

    -- the mapping whose check fails
    failed_short : IfSome (failing_by p.profile.spelling.checksums (mapping_here e) e.tcp) (λ kept. IsShort kept.place)
    failed_short =
        elim (receives_plainly e.modes e.tcp.recv.edge) as (λ b. IfSome (failing_by p.profile.spelling.checksums (if b then None else mapping_at e.receiving.mappings e.tcp.recv.edge) e.tcp) (λ kept. IsShort kept.place)) [
          | true ↦ tt
          | false ↦ found (mapping_at e.receiving.mappings e.tcp.recv.edge) (kept_at (nat_lt e.tcp.recv.edge e.receiving.mappings.forgotten))
        ]
      where
        found : (o : Option KeptMapping) → IfSome o (KeptShows back.maps) → IfSome (failing_by p.profile.spelling.checksums o e.tcp) (λ kept. IsShort kept.place)
        found None is = tt
        found (Some kept) is = elim (is_wrong p.profile.spelling.checksums kept e.tcp) as (λ b. IfSome (if b then Some kept else None) (λ (kept : KeptMapping). IsShort kept.place))
            [ false ↦ tt | true ↦ let low = back_is.maps.each is.at is.item is.there in let same = is.holds.place_is in let written = short.written (peer s) in omega (arith, low, same, written) ]

        kept_at : (b : Bool) → IfSome (if b then None else find (λ kept. covers e.tcp.recv.edge (run_of kept)) e.receiving.mappings.live) (KeptShows back.maps)
        kept_at true = tt
        kept_at false = every_find (λ kept. covers e.tcp.recv.edge (run_of kept)) e.receiving.mappings.live shows.receiver.mapped

    -- the end becomes this
    on : (f : PathEnd) (ds : List Duty) → EndTells p.profile s f → AreFair ds → Tells (goes_on s f ds p)
    on f ds x fair = tells_on p.profile p t s f ds x fair

    -- ---- a segment is sent

    on_occasion : (sg : PlainSegment) (occasion : Occasion) (ds : List Duty) → SegmentTells p.profile s sg → AreFair ds
        → Tells (sent_on values s sg (having_sent occasion p.clock sg e) ds p)
    on_occasion sg occasion ds said fair =
        tells_sent p.profile p t s sg (having_sent occasion p.clock sg e) ds said (rules.sent_end_tells p.profile s e tells occasion p.clock sg) fair

    abbrev wide : p.profile.mss < 2 ^ 16
    wide = omega (arith, mss)

    ack_tells : (position : ℕ) (fin : Option ℕ) → IsShort position → IfSome fin IsShort → SegmentTells p.profile s (ack_said p.profile s position fin e)
    ack_tells position fin at n = ack_said_tells p.profile s path wide e tells position fin at n

    acknowledged : (ds : List Duty) → AreFair ds → Tells (sent_on values s (ack_segment s p) (having_sent Occasion.Ack p.clock (ack_segment s p) e) ds p)
    acknowledged ds fair = on_occasion (ack_segment s p) Occasion.Ack ds (ack_tells e.tcp.send.nxt None tells.sender.next tt) fair

    unsent_told : (ds : List Duty) → AreFair ds → Tells (sent_on values s (unsent_segment s p) (having_sent Occasion.Unsent p.clock (unsent_segment s p) e) ds p)
    unsent_told ds fair =
        on_occasion (unsent_segment s p) Occasion.Unsent ds (record_said_tells p.profile s path wide e tells own_pair (first_unsent e) (every_find is_unsent e.tcp.send.records tells.sender.records)) fair

    first_told : SegmentTells p.profile s (record_or_ack p.profile s (first_record e) e)
    first_told = record_said_tells p.profile s path wide e tells own_pair (first_record e) (every_at 0 e.tcp.send.records tells.sender.records)

    syn_ack_told : (ds : List Duty) → AreFair ds → Tells (sent_on values s (syn_ack_of s p) (having_sent Occasion.SynAck p.clock (syn_ack_of s p) e) ds p)
    syn_ack_told ds fair = on_occasion (syn_ack_of s p) Occasion.SynAck ds (syn_ack_tells p.profile s path wide e tells) fair

    -- MP_FASTCLOSE, as it is carried
    fast_closed : Tells (answered_fast_close values s p)
    fast_closed =
        tells_sent p.profile p t s (fast_close_of s p) (having_fast_closed s p) (left p) (carried_tells p.profile s path wide e tells e.notices.carrier tells.notices.carrier)
        (rules.fast_closed_tells p.profile s (having_sent Occasion.Ack p.clock (fast_close_of s p) e) (rules.sent_end_tells p.profile s e tells Occasion.Ack p.clock (fast_close_of s p))) left_fair

    -- a notice, of what is to be noted
    noted : Tells (answered_note values s p)
    noted =
        tells_sent p.profile p t s (note_of s p) (having_noted s p) p.agenda
        (noted_tells p.profile s path wide e tells (first_of e.notices.queue) (first_note e.notices.queue tells.notices.queue))
        (rules.noted_out_tells p.profile s (having_sent Occasion.Ack p.clock (note_of s p) e) (rules.sent_end_tells p.profile s e tells Occasion.Ack p.clock (note_of s p))) t.agenda
      where
        first_note : (queue : List OwnNotice) → Every NoteTells queue → IfSome (first_of queue) NoteTells
        first_note = elim [ [] ↦ λ each. tt | notice ∷ queue ↦ λ each. every_first notice queue each ]

    answer_told : SegmentTells p.profile s (answer_of s p)
    answer_told =
        if_so (SegmentTells p.profile s) e.tcp.due.syn_ack (syn_ack_said p.profile s e) (ack_said p.profile s e.tcp.send.nxt None e)
        (syn_ack_tells p.profile s path wide e tells) (ack_tells e.tcp.send.nxt None tells.sender.next tt)

    resend_told : SegmentTells p.profile s (resend_of s p)
    resend_told = by (has_records e.tcp) e.modes.owes_third e.notices.fast_closed (is_data_fin_owed e)
      where
        by : (some third closed owes : Bool) → SegmentTells p.profile s (if some then record_or_ack p.profile s (first_record e) e
            else (if third then ack_said p.profile s e.tcp.send.nxt None e
            else (if closed then carried_said p.profile s e.notices.carrier e
            else (if owes then ack_said p.profile s e.tcp.send.nxt e.sending.known_end e else ack_said p.profile s (e.tcp.send.una - 1) None e))))
        by true third closed owes = first_told
        by false true closed owes = ack_tells e.tcp.send.nxt None tells.sender.next tt
        by false false true owes = carried_tells p.profile s path wide e tells e.notices.carrier tells.notices.carrier
        by false false false true = ack_tells e.tcp.send.nxt e.sending.known_end tells.sender.next tells.stream.known_end
        by false false false false = ack_tells (e.tcp.send.una - 1) None (let una = tells.sender.unacknowledged in let next = tells.sender.next in omega (arith, una, next)) tt

    reset_told : (reason : Option ℕ) (ds : List Duty) → IfSome reason (λ n. n < 256) → AreFair ds → Tells (reset_on values s reason ds p)
    reset_told reason ds low fair =
        tells_sent p.profile p t s (reset_of s reason p) (died e) ds (reset_tells p.profile s path wide e tells reason low) (rules.died_tells p.profile s e tells) fair

    dead_told : Tells (answered_dead values s p)
    dead_told = tells_sent p.profile p t s (dead_answer s p) e (left p) (dead_answer_tells p.profile s path wide e tells) tells left_fair

    refused_told : Tells (answered_refusal values s p)
    refused_told = tells_sent p.profile p t s (refusal_of s p) e (left p) (refusal_tells p.profile s path wide e tells) tells left_fair

    -- ---- what is to be acknowledged, and a break

    ack_out_told : (ds : List Duty) → AreFair ds → Tells (answered_ack_out s (reply_of six (ack_out_ask s)) ds p)
    ack_out_told ds fair =
        on (after_ack_out (reply_of six (ack_out_ask s)) e) ds
        (rules.told_tells p.profile s e tells (next_wanted (reassembly_of s six)) (window (reassembly_of s six)) (next_short six others ab ba holds short s) (window_short six others ab ba holds short s)) fair

    break_told : (reason : ℕ) → AreFair (resets s reason) → reason < 256 → Tells (answered_break values s reason (reply_of six (break_ask values s reason p)) p)
    break_told reason fair low = by e.treated.asked
      where
        by : (b : Bool) → Tells (if b then answered_ack_out s (reply_of six (if b then ack_out_ask s else sends values s (reset_of s (Some reason) p) p)) (resets s reason) p else reset_on values s (Some reason) (leaves s) p)
        by true = ack_out_told (resets s reason) fair
        by false = reset_told (Some reason) (leaves s) low refl

    -- ---- what is told of the mode

    fell_fair : (event : Event) → AreFair (fell_duties s (reply_of six (fell_ask s event p)) p)
    fell_fair event =
        let control = control_of s six in
        verdict_fair s p (fall_step control.fall (path_of p) (sole control.paths (path_of p)) event).1 (step_low control.fall (path_of p) (sole control.paths (path_of p)) event) t.agenda

    fell_told : (event : Event) → Tells (answered_fell s event (reply_of six (fell_ask s event p)) p)
    fell_told event =
        let r : Reply = reply_of six (fell_ask s event p) in on (after_fell event r e) (fell_duties s r p) (rules.fell_tells p.profile s e tells event r) (fell_fair event)

    plain_ack_told : Tells (answered_plain_ack values s (reply_of six (plain_ack_ask values s p)) p)
    plain_ack_told = by (breaks_by_ack p.profile e)
      where
        by : (b : Bool) → let x = if b then break_ask values s 6 p else fell_ask s Event.PlainAck p in
            Tells (if b then answered_break values s 6 (reply_of six x) p else goes_on s (with_plain_ack (after_fell Event.PlainAck (reply_of six x) e)) (fell_duties s (reply_of six x) p) p)
        by true = break_told 6 refl (omega arith)
        by false =
            let r : Reply = reply_of six (fell_ask s Event.PlainAck p) in
            let f : PathEnd = after_fell Event.PlainAck r e in
            on (with_plain_ack f) (fell_duties s r p) (rules.plain_ack_tells p.profile s f (rules.fell_tells p.profile s e tells Event.PlainAck r)) (fell_fair Event.PlainAck)

    subflow_ack_told : Tells (answered_subflow_ack s (reply_of six (subflow_ack_ask s e)) p)
    subflow_ack_told = elim (plain_next e) as (λ o. Tells (goes_on s (record e { sending = plainly_acked o (reply_of six (plain_ack_in s o e.treated.window)) e.sending }) (left p) p)) [
      | None ↦ on _ (left p) (rules.unacked p.profile s e tells (reply_of six (plain_ack_in s None e.treated.window))) left_fair
      | Some next ↦ let written = short.written s in on _ (left p) (rules.plain_acked p.profile s e tells next (send_of s six) (omega (arith, written))) left_fair
    ]

    -- ---- a check that failed, and MP_FAIL

    check_failed_told : Tells (answered_check_failed s (reply_of six (check_failed_ask s p)) p)
    check_failed_told =
        let r : Reply = reply_of six (check_failed_ask s p) in
        on (after_check_failed p.profile.spelling.checksums r e) (fell_duties s r p) (rules.failed_tells p.profile s e tells p.profile.spelling.checksums r failed_short) (fell_fair Event.CheckFailed)

    fail_heard_told : Tells (answered_fail_heard s (reply_of six (fail_heard_ask s p)) p)
    fail_heard_told =
        let r : Reply = reply_of six (fail_heard_ask s p) in
        on (after_fail_heard r e) (fell_duties s r p) (rules.fail_heard_tells p.profile s e tells r) (fell_fair (Event.FailHeard (is_some e.treated.infinite_mapping)))

    infinite_told : (place : ℕ) (position : Option ℕ) → let r = reply_of six (fell_ask s Event.InfiniteHeard p) in Tells (answered_infinite s place position r p)
    infinite_told place position =
        let r : Reply = reply_of six (fell_ask s Event.InfiniteHeard p) in
        on (after_infinite_heard place position r e) (fell_duties s r p) (rules.infinite_tells p.profile s e tells place position r) (fell_fair Event.InfiniteHeard)

    failed_told : Tells (answered_fail s (reply_of six (fail_ask s p)) p)
    failed_told = by (may_go_infinite e)
      where
        by : (b : Bool) → let r = reply_of six (if b then Ask.Send s (GoInfinite (path_of p)) else fell_ask s (Event.FailHeard false) p) in
            Tells (if b then book_answered s r p else answered_fell s (Event.FailHeard false) r p)
        by true =
            let r : Reply = reply_of six (Ask.Send s (GoInfinite (path_of p))) in
            on (with_infinite r e) (replaced (Duty.Ask (AskDuty.FailHeard s)) p.agenda) (rules.with_infinite_tells p.profile s e tells r)
            (replaced_fair (Duty.Ask (AskDuty.FailHeard s)) p.agenda refl t.agenda)
        by false = fell_told (Event.FailHeard false)

    -- ---- keys, and what a copy said

    keyed : (r : Reply) (keys : Option KeyPair) → IfSome keys (λ k. IsKey k.peer) → Tells (goes_on s (after_keys r keys e) (left p) p)
    keyed r keys key = on (after_keys r keys e) (left p) (rules.keys_tell p.profile s e tells r keys key) left_fair

    acked_fair : (covers : Bool) → AreFair (told_next s covers p)
    acked_fair true = replaced_fair (Duty.Ask (AskDuty.AckHeard s)) p.agenda refl t.agenda
    acked_fair false = left_fair

    mapping_told : Tells (answered_mapping values s (reply_of six (mapping_ask values s p)) p)
    mapping_told = by (is_clash e)
      where
        by : (b : Bool) → let x = if b then break_ask values s 1 p else fell_ask s Event.MappingHeard p in
            Tells (if b then answered_break values s 1 (reply_of six x) p else goes_on s (with_learned (after_fell Event.MappingHeard (reply_of six x) e)) (fell_duties s (reply_of six x) p) p)
        by true = break_told 1 refl (omega arith)
        by false =
            let r : Reply = reply_of six (fell_ask s Event.MappingHeard p) in
            let f : PathEnd = after_fell Event.MappingHeard r e in
            on (with_learned f) (fell_duties s r p) (rules.learned_tells p.profile s f (rules.fell_tells p.profile s e tells Event.MappingHeard r)) (fell_fair Event.MappingHeard)

    heard_told : (item : Heard) → ItemTells item → Tells (answered_heard values s item (reply_of six (heard_ask values s item p)) p)
    heard_told (Heard.DataAck next window) x =
        let r : SendReply = ack_reply next (send_of s six) in
        on (with_acked next (Reply.Send r) e) (told_next s (is_acked (Reply.Send r) && nat_lt 0 next) p) (rules.stream_acked p.profile s e tells next r x) (acked_fair (is_acked (Reply.Send r) && nat_lt 0 next))
    heard_told (Heard.Mapping fin) x = mapping_told
    heard_told (Heard.DataFin place) x =
        let r : Reply = reply_of six (fell_ask s Event.MappingHeard p) in
        let f : PathEnd = after_fell Event.MappingHeard r e in
        on (with_data_fin place f) (fell_duties s r p) (rules.fin_tells p.profile s f (rules.fell_tells p.profile s e tells Event.MappingHeard r) place) (fell_fair Event.MappingHeard)
    heard_told (Heard.InfiniteMapping place position) x = infinite_told place position
    heard_told (Heard.Keys own peer) x =
        let keys : Option KeyPair = Some (record { own = own; peer = peer }) in keyed (reply_of six (keys_ask s keys)) keys x.1
    heard_told Heard.Dss x = done_tells
    heard_told (Heard.PeerKey key) x = done_tells
    heard_told (Heard.Join form) x = done_tells
    heard_told (Heard.Notice notice) x =
        on (after_peer_notice notice (reply_of six (notice_ask s notice p)) e) (left p)
        (rules.peer_notice_tells p.profile s e tells notice (reply_of six (notice_ask s notice p)) x) left_fair
    heard_told Heard.Fail x = failed_told
    heard_told (Heard.FastClose key) x = elim (is_stopped_by (reply_of six (fast_heard_ask s key))) as (λ b. Tells (with_agenda (if b then stops s else left p) p))
        [ true ↦ tells_agenda p.profile p t (stops s) refl | false ↦ done_tells ]

    -- ---- the SYN of a join

    join_by : (keys : Option KeyPair) (asked : Option JoinSyn) → IfSome keys AreKeys → IfSome asked (λ a. IsNonce a.nonce) → Tells (join_taken s keys asked (reply_of six (join_heard_ask s (asked_at s p) p)) p)
    join_by None (Some asked) pair nonce =
        on (with_mode_refused (reply_of six (join_heard_ask s (asked_at s p) p)) e) (replaced (Duty.Send (SendDuty.Refuse s)) p.agenda) (rules.join_refused_tells p.profile s e tells (reply_of six (join_heard_ask s (asked_at s p) p)))
        (replaced_fair (Duty.Send (SendDuty.Refuse s)) p.agenda refl t.agenda)
    join_by None None pair nonce = tells_agenda p.profile p t (replaced (Duty.Send (SendDuty.Refuse s)) p.agenda) (replaced_fair (Duty.Send (SendDuty.Refuse s)) p.agenda refl t.agenda)
    join_by (Some keys) None pair nonce = tells_agenda p.profile p t (replaced (Duty.Send (SendDuty.Refuse s)) p.agenda) (replaced_fair (Duty.Send (SendDuty.Refuse s)) p.agenda refl t.agenda)
    join_by (Some keys) (Some asked) pair nonce =
        on (joined_by keys asked e) (replaced (Duty.Send (SendDuty.SynAck s)) p.agenda) (joined_tells p.profile s keys asked e pair nonce tells) (replaced_fair (Duty.Send (SendDuty.SynAck s)) p.agenda refl t.agenda)

    join_told : Tells (answered_join_heard s (reply_of six (join_heard_ask s (asked_at s p) p)) p)
    join_told = join_by (keys_begun (reply_of six (join_heard_ask s (asked_at s p) p))) (asked_at s p) (joined_keys six short.control s (asked_at s p) p) (asked_nonce e.treated.items tells.treated.items)

    item_by : (o : Option Heard) → IfSome o ItemTells → Tells (answered_item values s o (reply_of six (item_ask values s o p)) p)
    item_by = elim [ None ↦ λ x. done_tells | Some item ↦ λ x. heard_told item x ]

    item_told : (index : ℕ) → Tells (answered_item values s (item_of index e) (reply_of six (item_ask values s (item_of index e) p)) p)
    item_told index = item_by (item_of index e) (known_item e.modes.identity _ (every_item index e.treated.items tells.treated.items))

    -- ---- the opening

    peer_key_told : (o : Option ℕ) → IfSome o IsKey → Tells (answered_peer_key s o (reply_of six (peer_key_ask s o p)) p)
    peer_key_told None key = fell_told Event.PlainHandshake
    peer_key_told (Some n) key = on (with_peer_key (Some n) e) (left p) (rules.peer_key_tells p.profile s e tells (Some n) key) left_fair

    opened_told : (o : Option KeyPair) → IfSome o (λ k. IsKey k.peer) → Tells (answered_opened s o (reply_of six (opened_ask s o p)) p)
    opened_told None key = fell_told Event.PlainHandshake
    opened_told (Some keys) key = keyed (reply_of six (keys_ask s (Some keys))) (Some keys) key

    -- ---- grants

    -- an end that may finish has sent all positions of its lane
    next_is : states.may_finish e.tcp.state ≡ true → e.tcp.send.nxt ≡ suc (length out.sent)
    next_is may = shows.sender.next (unfinished_if e.tcp.state may)

    marks_whole : length (send_of s six).marks ≡ length (send_of s six).written
    marks_whole = elim s as (λ s. length (send_of s six).marks ≡ length (send_of s six).written) [ A ↦ holds.ab.send.whole | B ↦ holds.ba.send.whole ]

    module _ (may : states.may_finish e.tcp.state ≡ true) where
      abbrev grant : Ask
      grant = Ask.Send s (Grant (path_of p) (payload_size p.profile) e.modes.standby)

      abbrev Grants : SendReply → Type 0
      Grants r = Answered p.profile six others grant (answered_grant s (grant_in (Reply.Send r)) (Reply.Send r) p) ab ba

      grants : (r : SendReply) → grant_reply (path_of p) (payload_size p.profile) e.modes.standby (send_of s six) ≡ r → Grants r
      grants r is =
          let whole = marks_whole in let written = short.written s in
          subst Grants is (granted_step six others p ab ba h holds ready s (payload_size p.profile) e.modes.standby (omega (arith, size)) (omega (arith, whole, written)) marks_whole may numbered)

      -- all that was granted was written
      granted_reaches : (span : Span) (piece : List ℕ) → Grants (SendReply.Granted span piece) → IsShort (e.tcp.send.nxt + length piece + 1)
      granted_reaches span piece a =
          let w = a.after in
          let lane : LaneIsShort (length (send_of s (after_ask grant six)).written) (pick s w.ab_after w.ba_after) =
          sent_short (after_ask grant six) others w.ab_after w.ba_after (after_holds p.profile six others grant _ ab ba a holds) s in
          let shown : EndShows p.profile s (granted p.profile s span piece e) (pick s w.ab_after w.ba_after) (pick s w.ba_after w.ab_after) =
          subst (λ f. EndShows p.profile s f (pick s w.ab_after w.ba_after) (pick s w.ba_after w.ab_after)) (end_on s (granted p.profile s span piece e) p.agenda p)
          (side_shows p.profile s (goes_on s (granted p.profile s span piece e) p.agenda p) w.ab_after w.ba_after w.shows) in
          let next : e.tcp.send.nxt + length piece ≡ suc (length (pick s w.ab_after w.ba_after).sent) = shown.sender.next (unfinished_if e.tcp.state may) in
          let sent = lane.sent in let same = ap (λ (xs : List ℕ). length xs) (grant_written s (path_of p) (payload_size p.profile) e.modes.standby six) in let written = short.written s in
          omega (arith, next, sent, same, written)

      grant_by : (r : SendReply) → grant_reply (path_of p) (payload_size p.profile) e.modes.standby (send_of s six) ≡ r → Tells (answered_grant s (grant_in (Reply.Send r)) (Reply.Send r) p)
      grant_by (SendReply.Granted span piece) is = on (granted p.profile s span piece e) p.agenda granted_told t.agenda
        where
          granted_told : EndTells p.profile s (granted p.profile s span piece e)
          granted_told =
              let w = granted_within (path_of p) (payload_size p.profile) e.modes.standby (send_of s six) span piece (omega (arith, size)) marks_whole is in
              let few = w.few in let place = w.place in let written = short.written s in
              let reaches = granted_reaches span piece (grants (SendReply.Granted span piece) is) in
              rules.granted_tells p.profile s e tells span piece w.some (omega (arith, few, mss)) (omega (arith, place, written)) reaches
      grant_by (SendReply.NoGrant why told) is = refused_by (decision (path_of p) (payload_size p.profile) e.modes.standby (send_of s six)) is
        where
          refused_by : (d : Result Span Why) → reply_by d (send_of s six) ≡ SendReply.NoGrant why told → Tells (goes_on s (refused (Reply.Send (SendReply.NoGrant why told)) e) (left p) p)
          refused_by (Ok span) same = cc
          refused_by (Err reason) same =
              let known : end_of (send_of s six) ≡ told = cc in let written = short.written s in
              on (refused (Reply.Send (SendReply.NoGrant why told)) e) (left p)
              (rules.refused_tells p.profile s e tells why told (subst (λ o. IfSome o IsShort) known (end_short (send_of s six) (omega (arith, written))))) left_fair
      grant_by (SendReply.Acked bytes fin) is = on e (left p) tells left_fair
      grant_by _ is = on e (left p) tells left_fair

    -- ---- bytes

    -- the lane that the side hears, with other fields
    heard_holds : (q : Lane) → Strolls back q → LaneHolds (view_of (flags_of others.links (peer s) six) (send_of (peer s) six) (reassembly_of s six)) others.number q
    heard_holds = elim s as (λ s. (q : Lane) → Strolls (pick s ba ab) q → LaneHolds (view_of (flags_of others.links (peer s) six) (send_of (peer s) six) (reassembly_of s six)) others.number q) [
      | A ↦ λ q x. back_holds six others A ab q (strolls_held six others ab ab ba q (stays ab) x holds)
      | B ↦ λ q x. back_holds six others B q ba (strolls_held six others ab q ba ba x (stays ba) holds)
    ]

    broken : Tells (goes_on s (having_asked e) (breaks s 1) p)
    broken = on (having_asked e) (breaks s 1) (rules.asked_tells p.profile s e tells) refl

    -- the bytes that the edge passes were sent
    piece_reaches : (piece : Piece) → IsNextReady p.profile s out back e piece → IsShort (e.tcp.recv.edge + length piece.octets)
    piece_reaches piece n =
        let at = n.at.edge_is in
        let asks = (heard_holds (record back { asking = AskPlace piece.place piece.octets }) n.wants).ask.within in
        let sent = back_is.sent in let written = short.written (peer s) in
        omega (arith, at, asks, sent, written)

    piece_by : (o : Option Piece) → piece_of s p ≡ o → (taken : Bool) → Tells (answered_piece s o taken p)
    piece_by None is taken = broken
    piece_by (Some piece) is false = broken
    piece_by (Some piece) is true =
        let f : PathEnd = after_piece piece e in
        on (having_asked f) p.agenda (rules.asked_tells p.profile s f (rules.piece_tells p.profile s e tells piece (piece_reaches piece (next_ready p.profile s out back _ others.number (heard_holds back (stays back)) (ready.checks s) e piece is shows)))) t.agenda

    fin_told : (set : Bool) → Tells (answered_fin_heard s set p)
    fin_told false = broken
    fin_told true =
        let f : PathEnd = with_peer_data_fin e in
        on (having_asked f) (left p) (rules.asked_tells p.profile s f (rules.peer_end_tells p.profile s e tells)) left_fair

    plain_fin_told : (set : Bool) → Tells (answered_plain_fin s set p)
    plain_fin_told false = broken
    plain_fin_told true =
        let f : PathEnd = with_fin_told e in
        let g : PathEnd = with_peer_data_fin f in
        on (having_asked g) (left p) (rules.asked_tells p.profile s g (rules.peer_end_tells p.profile s f (rules.fin_told_tells p.profile s e tells))) left_fair

    -- ---- the ends of the streams

    data_fin_told : Tells (answered_data_fin_sent values s p)
    data_fin_told =
        let f : PathEnd = having_sent Occasion.Ack p.clock (data_fin_segment s p) e in
        tells_sent p.profile p t s (data_fin_segment s p) (having_sent_data_fin s p) (left p) (ack_tells e.tcp.send.nxt e.sending.known_end tells.sender.next tells.stream.known_end)
        (rules.end_sent_tells p.profile s f (rules.sent_end_tells p.profile s e tells Occasion.Ack p.clock (data_fin_segment s p))) left_fair

    fin_at : (finished : Bool) → IsShort (if finished then e.tcp.send.nxt - 1 else e.tcp.send.nxt)
    fin_at true = let next = tells.sender.next in omega (arith, next)
    fin_at false = tells.sender.next

    fin_due : stands (Duty.Send (SendDuty.Fin s)) p ≡ true → Tells (answered_fin values s p)
    fin_due is =
        let may = (and_parts (states.may_finish e.tcp.state) _ is).0 in
        let next = next_is may in let sent = out_is.sent in let written = short.written s in
        let f : PathEnd = with_told (fin_segment_of s p) e in
        let g : PathEnd = record f { tcp = after_finishing f.tcp } in
        tells_sent p.profile p t s (fin_segment_of s p) (having_sent_fin s p) (left p) (fin_said_tells p.profile s path wide e tells own_pair (fin_at e.tcp.send.finished))
        (rules.fin_record_tells p.profile s g
        (rules.finished_tells p.profile s f (rules.told_end_tells p.profile s e tells (fin_segment_of s p)) (omega (arith, next, sent, written))) p.clock) left_fair

    data_by : (o : Option Record) → first_unsent e ≡ o → data_stands p.profile s e o ≡ true → Tells (answered_data values s o (reply_of six (data_ask values s o p)) p)
    data_by (Some r) is stands = unsent_told p.agenda t.agenda
    data_by None is stands = grant_by (and_parts (states.may_finish e.tcp.state) _ stands).0 (grant_reply (path_of p) (payload_size p.profile) e.modes.standby (send_of s six)) refl

  pub duty_tells : (d : Duty) → stands d p ≡ true → is_fair d ≡ true → Tells (answered values d (reply_of six (ask_for values d p)) p)
  duty_tells (Duty.Ask AskDuty.JoinAgain) is fair =
      join_tells p t (reply_of six (ask_for values (Duty.Ask AskDuty.JoinAgain) p)) (replaced (Duty.Ask (AskDuty.Leave A)) p.agenda) (left p) p (again_keys six short.control p)
      (replaced_fair (Duty.Ask (AskDuty.Leave A)) p.agenda refl t.agenda) left_fair t
  duty_tells (Duty.Step (StepDuty.Look s)) is fair = let r : Reply = reply_of six (look_ask s p) in on s (after_look r (end_at s p)) (left p) (rules.look_tells p.profile s (end_at s p) (tells s) r (look_key six short.control s p)) left_fair
  duty_tells (Duty.Ask (AskDuty.Window s)) is fair = ack_out_told s (left p) left_fair
  duty_tells (Duty.Send (SendDuty.Update s)) is fair = acknowledged s (left p) left_fair
  duty_tells (Duty.Send (SendDuty.FastClose s)) is fair = fast_closed s
  duty_tells (Duty.Send (SendDuty.Notice s)) is fair = noted s
  duty_tells (Duty.Send (SendDuty.Syn s)) is fair = unsent_told s (left p) left_fair
  duty_tells (Duty.Step (StepDuty.Data s)) is fair = data_by s (first_unsent (end_at s p)) refl is
  duty_tells (Duty.Send (SendDuty.DataFin s)) is fair = data_fin_told s
  duty_tells (Duty.Send (SendDuty.Fin s)) is fair = fin_due s is
  duty_tells (Duty.Silent (SilentDuty.Timer s)) is fair = done_tells
  duty_tells (Duty.Step StepDuty.Events) is fair = events_tell p t (next_event p) (reply_of six (step_for (path_of p) (next_event p))) (step_keys six short.control (path_of p) (next_event p))
  duty_tells (Duty.Ask (AskDuty.PlainHandshake s)) is fair = fell_told s Event.PlainHandshake
  duty_tells (Duty.Ask (AskDuty.PeerKey s)) is fair = peer_key_told s (key_heard (end_at s p).treated.items) (heard_key (end_at s p).treated.items (tells s).treated.items)
  duty_tells (Duty.Send (SendDuty.SynAck s)) is fair = syn_ack_told s (left p) left_fair
  duty_tells (Duty.Ask (AskDuty.JoinHeard s)) is fair = join_told s
  duty_tells (Duty.Send (SendDuty.Refuse s)) is fair = refused_told s
  duty_tells (Duty.Ask (AskDuty.Opened s)) is fair = opened_told s (keys_heard (end_at s p).treated.items) (heard_keys (end_at s p).treated.items (tells s).treated.items)
  duty_tells (Duty.Step (StepDuty.Heard s index)) is fair = item_told s index
  duty_tells (Duty.Ask (AskDuty.AckHeard s)) is fair = fell_told s Event.AckHeard
  duty_tells (Duty.Ask (AskDuty.FailHeard s)) is fair = fail_heard_told s
  duty_tells (Duty.Step (StepDuty.PlainAck s)) is fair = plain_ack_told s
  duty_tells (Duty.Ask (AskDuty.SubflowAck s)) is fair = subflow_ack_told s
  duty_tells (Duty.Ask (AskDuty.PlainData s)) is fair = fell_told s Event.PlainData
  duty_tells (Duty.Ask (AskDuty.GoIdentity s)) is fair = on s (in_identity (end_at s p)) (left p) (rules.identity_tells p.profile s (end_at s p) (tells s)) left_fair
  duty_tells (Duty.Step (StepDuty.Unmapped s)) is fair = break_told s 6 refl (omega arith)
  duty_tells (Duty.Ask (AskDuty.SubflowFin s)) is fair = plain_fin_told s (is_fin_set (reply_of six (fin_ask s (place_of_fin (end_at s p)))))
  duty_tells (Duty.Ask (AskDuty.Edge s)) is fair = piece_by s (piece_of s p) refl (is_placed (reply_of six (piece_ask s (piece_of s p))))
  duty_tells (Duty.Ask (AskDuty.CheckFailed s)) is fair = check_failed_told s
  duty_tells (Duty.Ask (AskDuty.HeardFin s index)) is fair = fin_told s (is_fin_set (reply_of six (fin_ask s (data_fin_of index (end_at s p)))))
  duty_tells (Duty.Ask (AskDuty.AckOut s)) is fair = ack_out_told s (left p) left_fair
  duty_tells (Duty.Ask (AskDuty.Rate s)) is fair =
      let r : Reply = reply_of six (rate_ask s (end_at s p).tcp.congestion.pending p) in
      on s (after_rate (path_of p) p.profile.mss r (end_at s p)) (left p) (rules.rate_tells p.profile s (end_at s p) (tells s) (path_of p) p.profile.mss r) left_fair
  duty_tells (Duty.Send (SendDuty.Acknowledge s)) is fair = acknowledged s (left p) left_fair
  duty_tells (Duty.Send (SendDuty.Again s)) is fair = on_occasion s (first_segment s p) Occasion.First (left p) (first_told s) left_fair
  duty_tells (Duty.Send (SendDuty.Answer s)) is fair = on_occasion s (answer_of s p) (answer_occasion (end_at s p)) (left p) (answer_told s) left_fair
  duty_tells (Duty.Send (SendDuty.ResetAnswer s)) is fair = dead_told s
  duty_tells (Duty.Send (SendDuty.Resend s)) is fair = on_occasion s (resend_of s p) (resend_occasion (end_at s p)) (left p) (resend_told s) left_fair
  duty_tells (Duty.Ask (AskDuty.BreakAck s reason)) is fair = ack_out_told s (resets s reason) (and_from (nat_lt reason 256) true fair refl)
  duty_tells (Duty.Send (SendDuty.BreakReset s reason)) is fair = reset_told s (Some reason) (leaves s) (ltb-true reason 256 fair) refl
  duty_tells (Duty.Send (SendDuty.Reset s)) is fair = reset_told s None (replaced (Duty.Ask (AskDuty.Leave s)) p.agenda) tt (replaced_fair (Duty.Ask (AskDuty.Leave s)) p.agenda refl t.agenda)
  duty_tells (Duty.Send (SendDuty.ResetNoted s)) is fair = reset_told s None (replaced (Duty.Ask (AskDuty.Leave s)) p.agenda) tt (replaced_fair (Duty.Ask (AskDuty.Leave s)) p.agenda refl t.agenda)
  duty_tells (Duty.Ask (AskDuty.Leave s)) is fair = tells_agenda p.profile p t (replaced (Duty.Ask (AskDuty.Dead s)) p.agenda) (replaced_fair (Duty.Ask (AskDuty.Dead s)) p.agenda refl t.agenda)
  duty_tells (Duty.Ask (AskDuty.LeaveNoted s)) is fair =
      on s (died (end_at s p)) (replaced (Duty.Ask (AskDuty.Dead s)) p.agenda) (rules.died_tells p.profile s (end_at s p) (tells s)) (replaced_fair (Duty.Ask (AskDuty.Dead s)) p.agenda refl t.agenda)
  duty_tells Duty.End is fair = tells_agenda p.profile p t [] refl
  duty_tells _ is fair = done_tells
