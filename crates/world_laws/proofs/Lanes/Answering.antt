-- What each duty's reply makes of the path and of its lanes: the duties that ask no event.
use Rattle.world_laws.proofs.Words.{◌≡◌, refl, sym, ◌∙◌, ℕ, suc, ◌-◌, ◌≤◌, inl, Bool, true, false, if◌then◌else◌, Option, Some, None, List, [], ◌∷◌, length}
use Rattle.world_laws.proofs.Words.{arith, both_ways, false≢true, append-nil, IfSome, Side, A, B, JoinSyn, next_wanted, window, Record, RecordKind, Syn, Data}
use Rattle.world_laws.proofs.Words.{Fin, is_unsent, Pending, reset_segment, fin_position, is_syn, has_records, Occasion, Outgoing, after_finishing}
use Rattle.world_laws.proofs.Words.{PlainSegment, leaves, resets, Duty, SendDuty, StepDuty, OwnNotice, Heard, KeyPair, replaced, first_of, Ask, Reply, SixBooks}
use Rattle.world_laws.proofs.Words.{reassembly_of, reply_of, pick, PathEnd, died, answered_ack_out, after_ack_out, ack_out_ask, ack_segment, PathState, end_at}
use Rattle.world_laws.proofs.Words.{goes_on, with_agenda, left, Carried, values, reset_of, reset_on, answered_break, refusal_of, break_ask, answered_refusal}
use Rattle.world_laws.proofs.Words.{first_unsent, having_sent_unsent, unsent_segment, answer_occasion, answer_of, answered_again, answered_answer}
use Rattle.world_laws.proofs.Words.{answered_resend, dead_answer, first_segment, outgoing_or, resend_occasion, resend_of, first_record, ack_resent}
use Rattle.world_laws.proofs.Words.{answered_dead, asked_at, join_taken, joined_by, keys_begun, with_mode_refused, join_heard_ask, answered_join_heard}
use Rattle.world_laws.proofs.Words.{is_data_fin_owed, data_fin_segment, having_sent_data_fin, answered_data_fin_sent, fin_segment_of, having_sent_fin}
use Rattle.world_laws.proofs.Words.{answered_fin, with_data_fin_sent, syn_ack_of, answered_fast_close, having_fast_closed, with_fast_closed, having_noted}
use Rattle.world_laws.proofs.Words.{answered_note, with_noted, reset_options, segment_of, ack_said, carried_said, syn_ack_said, record_or_ack, noted_said}
use Rattle.world_laws.proofs.Words.{Profile, sends, having_sent, sent_on, rate_ask, is_side_a, item_at, IfSome-map, Every, Lane}
use Rattle.subflow_tcp.specs.States as states
use Rattle.path_core.specs.FastClose.{fast_close_of}
use Rattle.path_core.specs.Addresses.{note_of}
use Rattle.world_laws.proofs.Lanes.Doing.{has_last, with_fin_sent, fin_goes, wants_ack_out, with_plain_pair, sends_plain_pair, plain_pair_goes, plain_pair_told}
use Rattle.world_laws.proofs.Lanes.Growing.{receiver_stays, sender_pairs}
use Rattle.world_laws.proofs.Lanes.Ending.{Did, did_nothing, told_end, finished_shows, unfinished_if}
use Rattle.world_laws.proofs.Lanes.Records.{every_find, every_at, sent_end}
use Rattle.world_laws.proofs.Lanes.Roads.{Strolls, stays, then_strolls}
use Rattle.world_laws.proofs.Lanes.RulesLeaveAlone.{refused_shows, died_shows, joined_shows}
use Rattle.world_laws.proofs.Lanes.OfAWorld.{Others, MayAnswer}
use Rattle.world_laws.proofs.Lanes.Saying.{TellsFalls, RecordTold, ack_says, syn_ack_says, fin_says, reset_says, outgoing_says, record_says, carried_says, noted_says}
use Rattle.world_laws.proofs.Lanes.Showing.{HasMapping, HasFin, KindShows, RecordShows, EndShows, SegmentShows, PathShows, HasNone}
use Rattle.world_laws.proofs.Lanes.Sides.{SideDid, Answered, IsQuiet, side_kept, side_sent, quiet, quiet_side, told_side}
use Rattle.world_laws.proofs.Lanes.Strolling.{Strolled, side_shows}
use Rattle.world_laws.proofs.Lanes.EndParts.{new_sender, new_pairs}

-- ---- what holds of the lanes

-- As long as A may send no DSS, what it sent from the first position on begins at the first place.
abbrev pub BeginsFirst : Side → PathEnd → Lane → Type 0
BeginsFirst s e p = is_side_a s ≡ true → e.modes.clear ≡ false → (place len : ℕ) → HasMapping p.datas place 1 len → place ≡ 0

-- at both ends A's first mapping is at place 0; where an end may ask for bytes, or is in plain TCP, its lane is open; FINs stand behind
-- the record; lanes check only where checksums are used
pub record IsReady (p : PathState Carried) (ab ba : Lane) : Type 0 where
  pub first : (s : Side) → BeginsFirst s (end_at s p) (pick s ab ba)
  pub opened : (s : Side) → states.may_finish (end_at s p).tcp.state ≡ true → (pick s ab ba).opened ≡ true
  pub checks : (s : Side) → (pick s ba ab).checked ≡ true → p.profile.spelling.checksums ≡ true
  pub plain : (s : Side) → (end_at s p).modes.identity ≡ true → (pick s ab ba).opened ≡ true
  pub fins : (s : Side) → Every (λ n. n ≡ length (pick s ab ba).sent) (pick s ab ba).fins

-- where an end hears MP_FAIL its lane is open
abbrev pub FailOpens : PathState Carried → Lane → Lane → Duty → Type 0
FailOpens p ab ba (Duty.Step (StepDuty.Heard s index)) = item_at index (end_at s p).treated.items ≡ Some Heard.Fail → (pick s ab ba).opened ≡ true
FailOpens p ab ba _ = Unit {0}

-- a rule more, which leaves the lanes alone
pub did_then : (c : Profile) (s : Side) (e f : PathEnd) (out out_called back back_called : Lane) (d : Did c s e out out_called back back_called)
    → (EndShows c s e d.out_after d.back_after → EndShows c s f d.out_after d.back_after) → Did c s f out out_called back back_called
did_then c s e f out out_called back back_called d rule = record {
  out_after = d.out_after;
  back_after = d.back_after;
  out_moves = d.out_moves;
  back_moves = d.back_moves;
  sender = d.sender;
  receiver = d.receiver;
  shows = rule d.shows;
}

-- what is told of the modes, as far as the lanes have to do with it
pub falls_told : (c : Profile) (s : Side) (e : PathEnd) (out back : Lane) → EndShows c s e out back → TellsFalls e out
falls_told c s e out back h = record { own = IfSome-map e.modes.own_infinite (λ m own. own.told) h.pairs.0; failing = h.pairs.4; broken = h.pairs.5 }

-- an end whose lane sent the infinite mapping of a position
pub paired_shows : (c : Profile) (s : Side) (pos : ℕ) (e : PathEnd) (out back : Lane) → EndShows c s e out back → EndShows c s e (with_plain_pair out pos) back
paired_shows c s pos e out back h = new_sender (record {
  plain = h.sender.plain;
  next = h.sender.next;
  unfinished = h.sender.unfinished;
  pieces = h.sender.pieces;
  known_end = h.sender.known_end;
  same_end = h.sender.same_end;
  heard = h.sender.heard;
  granted = h.sender.granted;
  fin_acked = h.sender.fin_acked;
  sent = h.sender.sent;
})
    (new_pairs (sender_pairs e.modes e.treated.infinite_mapping e.treated.failed_mapping out (with_plain_pair out pos) back (plain_pair_goes out pos) refl h.pairs) h)

-- ---- a step of the path

module _ (six : SixBooks) (others : Others) (p : PathState Carried) (ab ba : Lane) (h : PathShows p.profile p ab ba) (ready : IsReady p ab ba) where
  -- the path becomes this after this ask
  abbrev pub Steps : Ask → PathState Carried → Type 0
  Steps ask q = Answered p.profile six others ask q ab ba

  abbrev pub shows_at : (s : Side) → EndShows p.profile s (end_at s p) (pick s ab ba) (pick s ba ab)
  shows_at s = side_shows p.profile s p ab ba h

  -- the agenda changes alone
  pub agenda_shows : (ds : List Duty) → PathShows p.profile (with_agenda ds p) ab ba
  agenda_shows ds = record { profile = h.profile; may = h.may; a = h.a; b = h.b; copies = h.copies }

  pub agenda_strolled : (ds : List Duty) → Strolled p.profile (with_agenda ds p) ab ba
  agenda_strolled ds = record { ab_after = ab; ba_after = ba; ab_moves = stays ab; ba_moves = stays ba; shows = agenda_shows ds }

  pub agenda_step : (ask : Ask) (ds : List Duty) → IsQuiet six ask → Steps ask (with_agenda ds p)
  agenda_step ask ds is = quiet p.profile six others ask (with_agenda ds p) ab ba is (agenda_strolled ds)

  -- after a call too
  pub agenda_side : (s : Side) (out_called back_called : Lane) (ds : List Duty) → Did p.profile s (end_at s p) (pick s ab ba) out_called (pick s ba ab) back_called
      → SideDid p.profile s p (with_agenda ds p) ab ba out_called back_called
  agenda_side A out_called back_called ds d = side_kept p.profile p ab ba h A out_called back_called p.a ds d
  agenda_side B out_called back_called ds d = side_kept p.profile p ab ba h B out_called back_called p.b ds d

  -- the end becomes this, and nothing is called
  pub end_step : (s : Side) (ask : Ask) (e : PathEnd) (ds : List Duty) → IsQuiet six ask → EndShows p.profile s e (pick s ab ba) (pick s ba ab) → Steps ask (goes_on s e ds p)
  end_step s ask e ds is shows =
      quiet_side p.profile six others s p (goes_on s e ds p) ab ba ask h is
      (side_kept p.profile p ab ba h s (pick s ab ba) (pick s ba ab) e ds (did_nothing p.profile s (pick s ab ba) (pick s ba ab) e shows))

  -- or it does something by itself
  pub did_step : (s : Side) (ask : Ask) (e : PathEnd) (ds : List Duty) → IsQuiet six ask → Did p.profile s e (pick s ab ba) (pick s ab ba) (pick s ba ab) (pick s ba ab) → Steps ask (goes_on s e ds p)
  did_step s ask e ds is d =
      quiet_side p.profile six others s p (goes_on s e ds p) ab ba ask h is
      (side_kept p.profile p ab ba h s (pick s ab ba) (pick s ba ab) e ds d)

  -- ---- a segment is sent

  -- this one, and the end becomes this
  pub sent_step : (s : Side) (sg : PlainSegment) (e : PathEnd) (ds : List Duty) → SegmentShows p.profile s (pick s ba ab).acks (pick s ab ba) sg → EndShows p.profile s e (pick s ab ba) (pick s ba ab)
      → Steps (sends values s sg p) (sent_on values s sg e ds p)
  sent_step s sg e ds said shows =
      quiet_side p.profile six others s p (sent_on values s sg e ds p) ab ba (sends values s sg p) h tt
      (side_sent p.profile p ab ba h s (pick s ab ba) (pick s ba ab) e ds sg (did_nothing p.profile s (pick s ab ba) (pick s ba ab) e shows) said)

  pub occasion_step : (s : Side) (sg : PlainSegment) (occasion : Occasion) (ds : List Duty) → SegmentShows p.profile s (pick s ba ab).acks (pick s ab ba) sg
      → Steps (sends values s sg p) (sent_on values s sg (having_sent occasion p.clock sg (end_at s p)) ds p)
  occasion_step s sg occasion ds said =
      sent_step s sg (having_sent occasion p.clock sg (end_at s p)) ds said (sent_end p.profile s (pick s ab ba) (pick s ba ab) occasion p.clock sg (end_at s p) (shows_at s))

  module _ (s : Side) where
    abbrev out : Lane
    out = pick s ab ba

    abbrev back : Lane
    back = pick s ba ab

    abbrev e : PathEnd
    e = end_at s p

    abbrev shows : EndShows p.profile s e out back
    shows = shows_at s

    fell : TellsFalls e out
    fell = falls_told p.profile s e out back shows

    -- where nothing was told since the book was asked what is to be acknowledged
    abbrev pub IsCalm : Type 0
    IsCalm = e.treated.asked ≡ false

    ack_said_shows : IsCalm → (position : ℕ) → SegmentShows p.profile s back.acks out (ack_said p.profile s position None e)
    ack_said_shows calm position = ack_says p.profile s e back.acks out shows.acks.windows fell (shows.acks.sub calm) position None tt

    -- a record, or an acknowledgement: in plain TCP the infinite mapping of its position is sent first on the lane
    abbrev RecordIs : Record → Type 0
    RecordIs = RecordShows p.profile s out.alters out.sent out.datas out.fins

    abbrev Sends : Occasion → List Duty → PlainSegment → Type 0
    Sends occasion ds sg = Steps (sends values s sg p) (sent_on values s sg (having_sent occasion p.clock sg e) ds p)

    paired_step : (pos : ℕ) → e.modes.identity ≡ true → pos ≤ length out.sent → (sg : PlainSegment) (occasion : Occasion) (ds : List Duty) → SegmentShows p.profile s back.acks (with_plain_pair out pos) sg → Sends occasion ds sg
    paired_step pos fallen within sg occasion ds said =
        quiet_side p.profile six others s p (sent_on values s sg (having_sent occasion p.clock sg e) ds p) ab ba (sends values s sg p) h tt
        (side_sent p.profile p ab ba h s out back (having_sent occasion p.clock sg e) ds sg did said)
      where
        did : Did p.profile s (having_sent occasion p.clock sg e) out out back back
        did = record {
          out_after = with_plain_pair out pos;
          back_after = back;
          out_moves = sends_plain_pair out pos (shows.sender.plain ∙ fallen) (ready.plain s fallen) within;
          back_moves = stays back;
          sender = plain_pair_goes out pos;
          receiver = receiver_stays back;
          shows = sent_end p.profile s (with_plain_pair out pos) back occasion p.clock sg e (paired_shows p.profile s pos e out back shows);
        }

    -- the position of a record counts the SYN, and is one of its lane's, or behind it
    at_record : (kind : RecordKind) (r : Record) → KindShows p.profile s out.alters out.sent out.datas out.fins kind r → is_syn kind ≡ false → (suc (r.pos - 1) ≡ r.pos) × (r.pos - 1 ≤ length out.sent)
    at_record Syn r h not_syn = absurd (false≢true (sym not_syn))
    at_record Data r h not_syn =
        let at = h.octets.holds.position_is in let within = h.summed.within in
        (omega (arith, at), omega (arith, within))
    at_record Fin r h not_syn =
        let at = h.1.holds in let last = (ready.fins s).each h.1.at h.1.item h.1.there in
        (omega (arith, at), omega (arith, at, last))

    record_sent : IsCalm → (o : Option Record) → IfSome o RecordIs → (occasion : Occasion) (ds : List Duty) → Sends occasion ds (record_or_ack p.profile s o e)
    record_sent calm None is occasion ds = occasion_step s (record_or_ack p.profile s None e) occasion ds (ack_said_shows calm e.tcp.send.nxt)
    record_sent calm (Some r) is occasion ds = by e.modes.identity refl (is_syn r.kind) refl
      where
        as_it_is : (RecordTold e out r) → Sends occasion ds (record_or_ack p.profile s (Some r) e)
        as_it_is told = occasion_step s (record_or_ack p.profile s (Some r) e) occasion ds
            (record_says p.profile s e back.acks out shows.acks.windows fell (shows.acks.sub calm) (ready.first s) r told is)

        by : (fallen : Bool) → e.modes.identity ≡ fallen → (syn : Bool) → is_syn r.kind ≡ syn → Sends occasion ds (record_or_ack p.profile s (Some r) e)
        by false above syn kind = as_it_is (λ not_syn fallen. absurd (both_ways e.modes.identity above fallen))
        by true fallen true kind = as_it_is (λ not_syn. absurd (both_ways (is_syn r.kind) not_syn kind))
        by true fallen false not_syn =
            let at = at_record r.kind r is not_syn in
            paired_step (r.pos - 1) fallen at.1 (record_or_ack p.profile s (Some r) e) occasion ds
            (record_says p.profile s e back.acks (with_plain_pair out (r.pos - 1)) shows.acks.windows
            (falls_told p.profile s e (with_plain_pair out (r.pos - 1)) back (paired_shows p.profile s (r.pos - 1) e out back shows)) (shows.acks.sub calm) (ready.first s) r
            (λ _ _. inl (plain_pair_told out (r.pos - 1) r.pos at.0)) is)

    pub acknowledges_step : IsCalm → (ds : List Duty) → Steps (sends values s (ack_segment s p) p) (sent_on values s (ack_segment s p) (having_sent Occasion.Ack p.clock (ack_segment s p) e) ds p)
    acknowledges_step calm ds = occasion_step s (ack_segment s p) Occasion.Ack ds (ack_said_shows calm e.tcp.send.nxt)

    pub unsent_step : IsCalm → (ds : List Duty) → Steps (sends values s (unsent_segment s p) p) (sent_on values s (unsent_segment s p) (having_sent_unsent s p) ds p)
    unsent_step calm ds = record_sent calm (first_unsent e) (every_find is_unsent e.tcp.send.records shows.sender.pieces) Occasion.Unsent ds

    pub again_step : IsCalm → Steps (sends values s (first_segment s p) p) (answered_again values s p)
    again_step calm = record_sent calm (first_record e) (every_at 0 e.tcp.send.records shows.sender.pieces) Occasion.First _

    carried_shows : IsCalm → (o : Option ℕ) → SegmentShows p.profile s back.acks out (carried_said p.profile s o e)
    carried_shows calm = carried_says p.profile s e back.acks out shows.acks.windows fell (shows.acks.sub calm)

    pub fast_close_step : IsCalm → Steps (sends values s (fast_close_of s p) p) (answered_fast_close values s p)
    fast_close_step calm =
        sent_step s (fast_close_of s p) (having_fast_closed s p) _ (carried_shows calm e.notices.carrier)
        (closed (having_sent Occasion.Ack p.clock (fast_close_of s p) e) (sent_end p.profile s out back Occasion.Ack p.clock (fast_close_of s p) e shows))
      where
        closed : (f : PathEnd) → EndShows p.profile s f out back → EndShows p.profile s (with_fast_closed f) out back
        closed f x = x

    noted_shows : IsCalm → (o : Option OwnNotice) → SegmentShows p.profile s back.acks out (noted_said p.profile s o e)
    noted_shows calm = noted_says p.profile s e back.acks out shows.acks.windows fell (shows.acks.sub calm)

    pub note_step : IsCalm → Steps (sends values s (note_of s p) p) (answered_note values s p)
    note_step calm =
        sent_step s (note_of s p) (having_noted s p) _ (noted_shows calm (first_of e.notices.queue))
        (noted (having_sent Occasion.Ack p.clock (note_of s p) e) (sent_end p.profile s out back Occasion.Ack p.clock (note_of s p) e shows))
      where
        noted : (f : PathEnd) → EndShows p.profile s f out back → EndShows p.profile s (with_noted f) out back
        noted f x = x

    pub syn_ack_step : (ds : List Duty) → Steps (sends values s (syn_ack_of s p) p) (sent_on values s (syn_ack_of s p) (having_sent Occasion.SynAck p.clock (syn_ack_of s p) e) ds p)
    syn_ack_step ds = occasion_step s (syn_ack_of s p) Occasion.SynAck ds (syn_ack_says p.profile s e back.acks out shows.acks.windows fell)

    pub answer_step : IsCalm → Steps (sends values s (answer_of s p) p) (answered_answer values s p)
    answer_step calm = occasion_step s (answer_of s p) (answer_occasion e) _ (by e.tcp.due.syn_ack)
      where
        by : (b : Bool) → SegmentShows p.profile s back.acks out (if b then syn_ack_said p.profile s e else ack_said p.profile s e.tcp.send.nxt None e)
        by true = syn_ack_says p.profile s e back.acks out shows.acks.windows fell
        by false = ack_said_shows calm e.tcp.send.nxt

    pub dead_step : Steps (sends values s (dead_answer s p) p) (answered_dead values s p)
    dead_step = sent_step s (dead_answer s p) e _ (by e.treated.answer shows.treated.answer) shows
      where
        by : (o : Option Outgoing) → IfSome o (λ x. (x.fin ≡ false) × (x.rst ≡ true)) → SegmentShows p.profile s back.acks out (segment_of p.profile (outgoing_or o (reset_segment e.tcp)) [] [] e)
        by None none = outgoing_says p.profile s e back.acks out shows.acks.windows fell (reset_segment e.tcp) None refl refl
        by (Some o) none = outgoing_says p.profile s e back.acks out shows.acks.windows fell o None none.0 none.1

    pub refuse_step : Steps (sends values s (refusal_of s p) p) (answered_refusal values s p)
    refuse_step = sent_step s (refusal_of s p) e _ (by e.treated.answer shows.treated.answer) shows
      where
        by : (o : Option Outgoing) → IfSome o (λ x. (x.fin ≡ false) × (x.rst ≡ true)) → SegmentShows p.profile s back.acks out (segment_of p.profile (outgoing_or o (reset_segment e.tcp)) (reset_options (Some 1)) [] e)
        by None none = outgoing_says p.profile s e back.acks out shows.acks.windows fell (reset_segment e.tcp) (Some 1) refl refl
        by (Some o) none = outgoing_says p.profile s e back.acks out shows.acks.windows fell o (Some 1) none.0 none.1

    pub resend_step : IsCalm → Steps (sends values s (resend_of s p) p) (answered_resend values s p)
    resend_step calm = elim (has_records e.tcp) as (λ some. Sends (resend_occasion e) (left p) (if some then record_or_ack p.profile s (first_record e) e else ack_resent p.profile s e)) [
      | true ↦ record_sent calm (first_record e) (every_at 0 e.tcp.send.records shows.sender.pieces) (resend_occasion e) (left p)
      | false ↦ occasion_step s (ack_resent p.profile s e) (resend_occasion e) (left p) (others_said e.modes.owes_third e.notices.fast_closed (is_data_fin_owed e))
    ]
      where
        others_said : (third closed owes : Bool) → SegmentShows p.profile s back.acks out (if third then ack_said p.profile s e.tcp.send.nxt None e
            else (if closed then carried_said p.profile s e.notices.carrier e
            else (if owes then ack_said p.profile s e.tcp.send.nxt e.sending.known_end e else ack_said p.profile s (e.tcp.send.una - 1) None e)))
        others_said true closed owes = ack_said_shows calm e.tcp.send.nxt
        others_said false true owes = carried_shows calm e.notices.carrier
        others_said false false true = ack_says p.profile s e back.acks out shows.acks.windows fell (shows.acks.sub calm) e.tcp.send.nxt e.sending.known_end shows.sender.known_end
        others_said false false false = ack_said_shows calm (e.tcp.send.una - 1)

    pub reset_step : IsCalm → (reason : Option ℕ) (ds : List Duty) → Steps (sends values s (reset_of s reason p) p) (reset_on values s reason ds p)
    reset_step calm reason ds =
        sent_step s (reset_of s reason p) (died e) ds (reset_says p.profile s e back.acks out shows.acks.windows fell reason) (died_shows p.profile s out back e calm shows)

    -- ---- the ends of the streams

    pub data_fin_step : IsCalm → Steps (sends values s (data_fin_segment s p) p) (answered_data_fin_sent values s p)
    data_fin_step calm =
        sent_step s (data_fin_segment s p) (having_sent_data_fin s p) _ (ack_says p.profile s e back.acks out shows.acks.windows fell (shows.acks.sub calm) e.tcp.send.nxt e.sending.known_end shows.sender.known_end)
        (ended (having_sent Occasion.Ack p.clock (data_fin_segment s p) e) (sent_end p.profile s out back Occasion.Ack p.clock (data_fin_segment s p) e shows))
      where
        ended : (f : PathEnd) → EndShows p.profile s f out back → EndShows p.profile s (record f { sending = with_data_fin_sent f.sending }) out back
        ended f x = x

    -- the FIN, by a move of the lane; in plain TCP the infinite mapping of its position is sent with it
    pub fin_step : IsCalm → states.may_finish e.tcp.state ≡ true → Strolls out (with_fin_sent out) → Steps (sends values s (fin_segment_of s p) p) (answered_fin values s p)
    fin_step calm may moves = by e.modes.identity refl
      where
        next : e.tcp.send.nxt ≡ suc (length out.sent)
        next = shows.sender.next (unfinished_if e.tcp.state may)

        position : fin_position e.tcp.send ≡ suc (length out.sent)
        position = (elim e.tcp.send.finished as (λ b. e.tcp.send.finished ≡ b → ◌≡◌ {A = ℕ} (if b then e.tcp.send.nxt - 1 else e.tcp.send.nxt) (suc (length out.sent)))
            [ false ↦ λ is. next | true ↦ λ is. absurd (both_ways e.tcp.send.finished (shows.sender.unfinished (unfinished_if e.tcp.state may)) is) ]) refl

        fin_there : HasFin (with_fin_sent out).fins (fin_position e.tcp.send)
        fin_there = has_last out.fins (length out.sent) (sym position)

        finished : EndShows p.profile s (record e { tcp = after_finishing e.tcp }) (with_fin_sent out) back
        finished = finished_shows p.profile s out back e may shows

        alone : Did p.profile s (having_sent_fin s p) out out back back
        alone = record {
          out_after = with_fin_sent out;
          back_after = back;
          out_moves = moves;
          back_moves = stays back;
          sender = fin_goes out;
          receiver = receiver_stays back;
          shows = sent_end p.profile s (with_fin_sent out) back Occasion.Fin p.clock (fin_segment_of s p) (record e { tcp = after_finishing e.tcp }) finished;
        }

        paired : Lane
        paired = with_plain_pair (with_fin_sent out) (length out.sent)

        with_pair : e.modes.identity ≡ true → Did p.profile s (having_sent_fin s p) out out back back
        with_pair fallen = record {
          out_after = paired;
          back_after = back;
          out_moves = then_strolls out (with_fin_sent out) paired moves (sends_plain_pair (with_fin_sent out) (length out.sent) (shows.sender.plain ∙ fallen) (ready.plain s fallen) (omega arith));
          back_moves = stays back;
          sender = record {
            cells = [];
            pieces = out.pieces;
            known_end = out.known_end;
            heard = out.heard;
            fin_acked = out.fin_acked;
            asking = out.asking;
            datas = [];
            data_fins = [];
            fins = length out.sent ∷ [];
            pair = out.pair;
            pairs = record { pos = length out.sent; place = length out.sent } ∷ [];
            is = rw (append-nil out.sent, append-nil out.datas, append-nil out.data_fins) refl;
          };
          receiver = receiver_stays back;
          shows = sent_end p.profile s paired back Occasion.Fin p.clock (fin_segment_of s p) (record e { tcp = after_finishing e.tcp })
              (paired_shows p.profile s (length out.sent) (record e { tcp = after_finishing e.tcp }) (with_fin_sent out) back finished);
        }

        by : (b : Bool) → e.modes.identity ≡ b → Steps (sends values s (fin_segment_of s p) p) (answered_fin values s p)
        by false above =
            quiet_side p.profile six others s p (answered_fin values s p) ab ba (sends values s (fin_segment_of s p) p) h tt
            (side_sent p.profile p ab ba h s out back (having_sent_fin s p) (left p) (fin_segment_of s p) alone
            (fin_says p.profile s e back.acks (with_fin_sent out) shows.acks.windows (record { own = (falls_told p.profile s (record e { tcp = after_finishing e.tcp }) (with_fin_sent out) back finished).own; failing = shows.pairs.4; broken = shows.pairs.5 })
            (shows.acks.sub calm) (λ fallen. absurd (both_ways e.modes.identity above fallen)) fin_there))
        by true fallen =
            quiet_side p.profile six others s p (answered_fin values s p) ab ba (sends values s (fin_segment_of s p) p) h tt
            (side_sent p.profile p ab ba h s out back (having_sent_fin s p) (left p) (fin_segment_of s p) (with_pair fallen)
            (fin_says p.profile s e back.acks paired shows.acks.windows
            (record {
              own = (falls_told p.profile s (record e { tcp = after_finishing e.tcp }) paired back
                  (paired_shows p.profile s (length out.sent) (record e { tcp = after_finishing e.tcp }) (with_fin_sent out) back finished)).own;
              failing = shows.pairs.4;
              broken = shows.pairs.5;
            })
            (shows.acks.sub calm) (λ _. inl (plain_pair_told (with_fin_sent out) (length out.sent) (fin_position e.tcp.send) (sym position))) fin_there))

    -- ---- what is to be acknowledged

    pub told_step : (ds : List Duty) → Steps (ack_out_ask s) (answered_ack_out s (reply_of six (ack_out_ask s)) ds p)
    told_step ds =
        told_side p.profile six others s p (answered_ack_out s (reply_of six (ack_out_ask s)) ds p) ab ba h (wants_ack_out back)
        (side_kept p.profile p ab ba h s out _ (after_ack_out (reply_of six (ack_out_ask s)) e) ds
        (told_end p.profile s out back (next_wanted (reassembly_of s six)) (window (reassembly_of s six)) e shows))

    -- ---- a join

    join_heard_quiet : (o : Option JoinSyn) → MayAnswer s six → IsQuiet six (join_heard_ask s o p)
    join_heard_quiet = elim [ None ↦ λ may. tt | Some asked ↦ λ may. may ]

    join_by : (keys : Option KeyPair) (o : Option JoinSyn) (r : Reply) (ask : Ask) → IsQuiet six ask → IfSome o (λ asked. HasNone out.acks e.treated.window) → Steps ask (join_taken s keys o r p)
    join_by (Some keys) (Some asked) r ask is has =
        end_step s ask (joined_by keys asked e) (replaced (Duty.Send (SendDuty.SynAck s)) p.agenda) is (joined_shows p.profile s out back keys asked e has shows)
    join_by (Some keys) None r ask is has = agenda_step ask (replaced (Duty.Send (SendDuty.Refuse s)) p.agenda) is
    join_by None (Some asked) r ask is has = end_step s ask (with_mode_refused r e) (replaced (Duty.Send (SendDuty.Refuse s)) p.agenda) is (refused_shows p.profile s out back r e shows)
    join_by None None r ask is has = agenda_step ask (replaced (Duty.Send (SendDuty.Refuse s)) p.agenda) is

    -- the reply to JoinHeard
    pub join_heard_step : (r : Reply) → MayAnswer s six → Steps (join_heard_ask s (asked_at s p) p) (answered_join_heard s r p)
    join_heard_step r may = join_by (keys_begun r) (asked_at s p) r (join_heard_ask s (asked_at s p) p) (join_heard_quiet (asked_at s p) may) shows.treated.window

    -- ---- a break

    pub break_step : (reason : ℕ) → Steps (break_ask values s reason p) (answered_break values s reason (reply_of six (break_ask values s reason p)) p)
    break_step reason = by e.treated.asked refl
      where
        by : (b : Bool) → e.treated.asked ≡ b → Steps (if b then ack_out_ask s else sends values s (reset_of s (Some reason) p) p)
            (if b then answered_ack_out s (reply_of six (if b then ack_out_ask s else sends values s (reset_of s (Some reason) p) p)) (resets s reason) p
            else reset_on values s (Some reason) (leaves s) p)
        by true asked = told_step (resets s reason)
        by false calm = reset_step calm (Some reason) (leaves s)

-- ---- asks of the control book alone

pub rate_quiet : {C : Type 0} (six : SixBooks) (s : Side) (o : Option Pending) (p : PathState C) → IsQuiet six (rate_ask s o p)
rate_quiet six s None p = tt
rate_quiet six s (Some pending) p = tt
