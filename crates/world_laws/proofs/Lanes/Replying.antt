-- What the replies of the books make of the path and of its lanes: what a copy said, grants, bytes that are placed, ends of the streams.
use Rattle.world_laws.proofs.Words.{◌≡◌, refl, sym, ◌∙◌, ap, subst, ℕ, zero, suc, ◌-◌, ◌≤◌, nat_lt, Bool, true, false, if◌then◌else◌, Option, Some, None}
use Rattle.world_laws.proofs.Words.{Result, Ok, Err, List, [], ◌∷◌, ◌++◌, length, drop, arith, is_some, ◌<◌, ◌^◌, and_parts, false≢true, length-take}
use Rattle.world_laws.proofs.Words.{length-drop, same_Some, IfSome, Side, A, B, peer, ControlCall, ReassemblyReply, Span, Why, SendBook, decision, reply_by}
use Rattle.world_laws.proofs.Words.{grant_reply, AckIn, GoInfiniteBook, GoIdentityBook, decision-MayTake, SendReply, KeptMapping, Piece, InfiniteMapping, stops}
use Rattle.world_laws.proofs.Words.{Duty, Heard, KeyPair, PeerNotice, Ask, Reply, SixBooks, send_of, reply_of, after_ask, pick, LocalStep, PathEnd, PathState}
use Rattle.world_laws.proofs.Words.{end_at, goes_on, with_agenda, left, path_of, Carried, values, answered_break, break_ask, answered_grant, grant_in, granted}
use Rattle.world_laws.proofs.Words.{refused, having_asked, after_piece, failing_by, mapping_here, piece_of, is_placed, answered_piece, piece_ask}
use Rattle.world_laws.proofs.Words.{with_peer_data_fin, place_of_fin, with_fin_told, answered_plain_fin, data_fin_of, fin_ask, answered_fin_heard, is_fin_set}
use Rattle.world_laws.proofs.Words.{acked_in, is_clash, with_learned, with_data_fin, with_acked, mapping_ask, answered_mapping, answered_ack, heard_ask}
use Rattle.world_laws.proofs.Words.{item_ask, answered_heard, answered_item, item_of, item_stands, check_failed_ask, with_failure, after_check_failed}
use Rattle.world_laws.proofs.Words.{answered_check_failed, is_infinite_receive, receiving_infinite, answered_infinite, fell_ask, subflow_ack_stands, after_fell}
use Rattle.world_laws.proofs.Words.{fell_duties, plain_ack_ask, subflow_ack_ask, answered_plain_ack, answered_subflow_ack, with_plain_ack, plain_next}
use Rattle.world_laws.proofs.Words.{plain_ack_in, plainly_acked, breaks_by_ack, may_go_infinite, fail_ask, answered_fail, book_answered, fail_heard_ask}
use Rattle.world_laws.proofs.Words.{answered_fail_heard, after_fail_heard, is_infinite_send, identity_ask, answered_identity, answered_fell, syn_window_ask}
use Rattle.world_laws.proofs.Words.{keys_ask, after_keys, peer_key_ask, opened_ask, answered_peer_key, answered_opened, with_peer_key, is_stopped_by}
use Rattle.world_laws.proofs.Words.{fast_heard_ask, after_peer_notice, notice_ask, acknowledged_under, Profile, rate_ask, after_rate, answered_rate, item_at}
use Rattle.world_laws.proofs.Words.{Every-push, IfSome-map, Every, after_events, LaneEvent, Holds, Lane, with_send, ToB, ToA, takes_grant, takes_placed}
use Rattle.world_laws.proofs.Words.{takes_fin, AskAckIn, GoIdentity}
use Rattle.send_book.specs.declared.call.SendCall.TheVariants.{Grant}
use Rattle.send_book.specs.Steps.{part_of}
use Rattle.subflow_tcp.specs.States as states
use Rattle.fallback_state.specs.declared.fall.Event.{Event}
use Rattle.path_agenda.specs.Agenda.{breaks}
use Rattle.world_laws.proofs.Lanes.Answering.{IsReady, Steps, shows_at, agenda_step, agenda_side, end_step, did_step, did_then, break_step, rate_quiet}
use Rattle.world_laws.proofs.Lanes.Doing.{granted_lane, refused_lane, wants_grant, hears_ack, wants_fin, hears_none, hears_sub}
use Rattle.world_laws.proofs.Lanes.Ending.{granted_end, refused_end, idle_end, IsFit, heard_end, unheard_end}
use Rattle.world_laws.proofs.Lanes.OfAWorld.{Others, plain_at, loose_at, duo_at, flags_are, StaysFirm, MayCall, Moved, moved_along}
use Rattle.world_laws.proofs.Falls.Loosening.{call_loosens, loosened, loosen_side, taken_end}
use Rattle.world_laws.proofs.Lanes.Placing.{learned_end, asked_back, asked_end, placed_end, next_ready, failing_alters, plain_fin_came}
use Rattle.world_laws.proofs.Lanes.Records.{every_first, every_rest}
use Rattle.world_laws.proofs.Lanes.RulesLeaveAlone.{asked_shows, keys_show, peer_end_shows, rate_shows, fell_alike, fell_shows, failure_shows, noted_shows, plain_ack_shows, key_shows, fin_told_shows, check_did}
use Rattle.world_laws.proofs.Falls.GivenToOnePath.{book_step, sends_by, hears_own}
use Rattle.world_laws.proofs.Lanes.Showing.{OwnIs, HasAck, HasNumber, PairTold, ItemShows, EndShows, PathShows}
use Rattle.world_laws.proofs.Lanes.Strolling.{agrees, out_holds, back_holds}
use Rattle.world_laws.proofs.Lanes.Sides.{SideDid, side_kept, grant_side, ack_reply_at, ack_side, place_reply_at, place_side, fin_reply_at, fin_side, IsQuiet}
use Rattle.world_laws.proofs.Lanes.Waking.{look_moves, looked_out, looked_back, path_looks}
use Rattle.world_laws.proofs.Lanes.Roads.{Strolls, stays}
use Rattle.world_laws.proofs.Lanes.EndParts.{new_treated}

-- ---- ends

-- an end of the stream that is told later
pub fin_shows : (c : Profile) (s : Side) (place : ℕ) (e : PathEnd) (out back : Lane) → HasNumber back.data_fins place → EndShows c s e out back → EndShows c s (with_data_fin place e) out back
fin_shows c s place e out back has h = new_treated (record { items = h.treated.items; fins = by (nat_lt (length e.treated.fins) 3); answer = h.treated.answer; window = h.treated.window; sub = h.treated.sub; nothing = h.treated.nothing }) h
  where
    by : (b : Bool) → Every (HasNumber back.data_fins) (if b then e.treated.fins ++ place ∷ [] else e.treated.fins)
    by = elim [ true ↦ Every-push place h.treated.fins has | false ↦ h.treated.fins ]

pub every_item : {X : Type 0} {P : X → Type 0} (n : ℕ) (xs : List X) → Every P xs → IfSome (item_at n xs) P
every_item n [] h = tt
every_item zero (x ∷ xs) h = every_first x xs h
every_item (suc n) (x ∷ xs) h = every_item n xs (every_rest x xs h)

-- a granted span begins at a written place, and has as many bytes as the piece
granted_fits : (c : Profile) (s : Side) (out back : Lane) (path most : ℕ) (standby : Bool) (b : SendBook) (span : Span) (piece : List ℕ) → length b.marks < 2 ^ 63 → length b.marks ≡ length b.written → 1 ≤ most
    → grant_reply path most standby b ≡ SendReply.Granted span piece → IsFit c s out back span piece
granted_fits c s out back path most standby b span piece short tiles some is = by (decision path most standby b) refl is
  where
    by : (d : Result Span Why) → decision path most standby b ≡ d → reply_by d b ≡ SendReply.Granted span piece → IsFit c s out back span piece
    by (Ok x) decided e =
        let same : x ≡ span = cc in
        let bytes : part_of x b.written ≡ piece = cc in
        let may = decision-MayTake path most standby b x decided in
        let whole = may.whole in let within = may.within in let counts = may.some some in
        let count : length (part_of x b.written) ≡ x.to - x.from =
        length-take (x.to - x.from) (drop x.from b.written) ∙ (let l = length-drop x.from b.written in omega (arith, l, whole, within, tiles)) in
        subst (λ y. IsFit c s out back y piece) same (subst (IsFit c s out back x) bytes (record {
          small = omega (arith, whole, within, short);
          whole = omega (arith, count, whole);
          some = omega (arith, count, whole, counts);
        }))
    by (Err why) decided e = cc

-- ---- the steps

abbrev given_event : Side → LaneEvent
given_event A = ToB GoIdentity
given_event B = ToA GoIdentity

-- where its side fell back, GoIdentity is that call of the book
given_to_one : (s : Side) (six : SixBooks) (others : Others) (ab ba : Lane) → plain_at others.links s six ≡ true
    → Moved (after_events (given_event s ∷ []) (duo_at six ab ba others)) (duo_at (after_ask (identity_ask s) six) ab ba others)
given_to_one A six others ab ba plain = moved_along _ _ (
    ap (λ (fell : Bool). record (duo_at six ab ba others) { ab = if fell then with_send GoIdentityBook (duo_at six ab ba others).ab else (duo_at six ab ba others).ab }) plain)
given_to_one B six others ab ba plain = moved_along _ _ (
    ap (λ (fell : Bool). record (duo_at six ab ba others) { ba = if fell then with_send GoIdentityBook (duo_at six ab ba others).ba else (duo_at six ab ba others).ba }) plain)

module _ (six : SixBooks) (others : Others) (p : PathState Carried) (ab ba : Lane) (h : PathShows p.profile p ab ba) (holds : Holds (duo_at six ab ba others))
    (ready : IsReady p ab ba) where
  abbrev Makes : Ask → PathState Carried → Type 0
  Makes ask q = Steps six others p ab ba h ready ask q

  module _ (s : Side) where
    abbrev out : Lane
    out = pick s ab ba

    abbrev back : Lane
    back = pick s ba ab

    abbrev e : PathEnd
    e = end_at s p

    abbrev shows : EndShows p.profile s e out back
    shows = shows_at six others p ab ba h ready s

    -- ---- acknowledgements

    abbrev ack_of : ℕ → ℕ → SendReply
    ack_of next window = ack_reply_at p.profile six others next window s

    pub data_ack_step : (next window : ℕ) → e.modes.identity ≡ false → HasAck out.acks next window
        → Makes (Ask.Send s (AckIn next window)) (answered_ack s next (reply_of six (Ask.Send s (AckIn next window))) p)
    data_ack_step next window above has =
        ack_side p.profile six others next window s p _ ab ba h (hears_ack out next window (shows.sender.plain ∙ above) has)
        (side_kept p.profile p ab ba h s _ back (with_acked next (Reply.Send (ack_of next window)) e) _
        (did_then p.profile s _ (with_acked next (Reply.Send (ack_of next window)) e) out _ back back (heard_end p.profile s out back next (ack_of next window) e shows)
        (noted_shows p.profile s _ _ next (record e { sending = acked_in next (Reply.Send (ack_of next window)) e.sending }))))

    -- where the side sends without mappings that of the subflow stands for it
    abbrev AcksBy : Option ℕ → Type 0
    AcksBy o = Makes (plain_ack_in s o e.treated.window) (goes_on s (record e { sending = plainly_acked o (reply_of six (plain_ack_in s o e.treated.window)) e.sending }) (left p) p)

    plain_acked : (o : Option ℕ) → plain_next e ≡ o → (identity : Bool) → e.modes.identity ≡ identity → (own : Option InfiniteMapping) → e.modes.own_infinite ≡ own
        → IfSome o (λ next. Strolls out (record out { asking = AskAckIn next e.treated.window }))
    plain_acked None is identity fell own mapping = tt
    plain_acked (Some next) is true fell own mapping =
        let at : e.treated.acknowledged - 1 ≡ next = same_Some (e.treated.acknowledged - 1) next
        (sym (ap (λ (b : Bool). if b then Some (e.treated.acknowledged - 1) else acknowledged_under e.modes.own_infinite e.treated.acknowledged) fell) ∙ is) in
        subst (λ n. Strolls out (record out { asking = AskAckIn n e.treated.window })) at
        (hears_sub out (e.treated.acknowledged - 1) e.treated.window (shows.sender.plain ∙ fell) shows.treated.sub)
    plain_acked (Some next) is false above None mapping =
        let none : None ≡ Some next = sym (ap (λ o. acknowledged_under o e.treated.acknowledged) mapping)
        ∙ sym (ap (λ (b : Bool). if b then Some (e.treated.acknowledged - 1) else acknowledged_under e.modes.own_infinite e.treated.acknowledged) above) ∙ is in cc
    plain_acked (Some next) is false above (Some own) mapping =
        hears_own _ others.number out own e.treated.acknowledged e.treated.window next (out_holds six others s ab ba holds)
        (subst (λ o. IfSome o (OwnIs out.pair out.pairs out.fins out.alters)) mapping shows.pairs.0) shows.treated.sub
        (sym (ap (λ o. acknowledged_under o e.treated.acknowledged) mapping)
        ∙ sym (ap (λ (b : Bool). if b then Some (e.treated.acknowledged - 1) else acknowledged_under e.modes.own_infinite e.treated.acknowledged) above) ∙ is)

    pub subflow_ack_step : subflow_ack_stands e ≡ true → Makes (subflow_ack_ask s e) (answered_subflow_ack s (reply_of six (subflow_ack_ask s e)) p)
    subflow_ack_step is = by (plain_next e) refl (plain_acked (plain_next e) refl e.modes.identity refl e.modes.own_infinite refl)
      where
        by : (o : Option ℕ) → plain_next e ≡ o → IfSome o (λ next. Strolls out (record out { asking = AskAckIn next e.treated.window })) → AcksBy o
        by None none strolls = absurd (false≢true (sym (ap is_some none) ∙ (and_parts (is_some (plain_next e)) _ is).0))
        by (Some next) some strolls =
            let window = e.treated.window in
            ack_side p.profile six others next window s p _ ab ba h strolls
            (side_kept p.profile p ab ba h s _ back (record e { sending = acked_in next (Reply.Send (ack_of next window)) e.sending }) _ (heard_end p.profile s out back next (ack_of next window) e shows))

    pub syn_window_step : Makes (syn_window_ask s e) (with_agenda (left p) p)
    syn_window_step =
        let window = e.tcp.congestion.told.window in
        ack_side p.profile six others 0 window s p _ ab ba h (hears_none out window shows.told)
        (agenda_side six others p ab ba h ready s _ back (left p)
        (unheard_end p.profile s out back (ack_of 0 window) e shows))

    -- ---- what a copy said

    -- what is told of the mode changes the end's modes, and then these are to be done
    pub fell_step : (event : Event) → MayCall s (ControlCall.Fell (path_of p) event) six → (f : PathEnd → PathEnd)
        → ((e : PathEnd) → EndShows p.profile s e out back → EndShows p.profile s (f e) out back) → (ds : List Duty)
        → Makes (fell_ask s event p) (goes_on s (f (after_fell event (reply_of six (fell_ask s event p)) e)) ds p)
    fell_step event may f rule ds =
        let r : Reply = reply_of six (fell_ask s event p) in
        end_step six others p ab ba h ready s (fell_ask s event p) (f (after_fell event r e)) ds may (rule (after_fell event r e) (fell_shows p.profile s out back event r e shows))

    pub told_fell : (event : Event) → MayCall s (ControlCall.Fell (path_of p) event) six → Makes (fell_ask s event p) (answered_fell s event (reply_of six (fell_ask s event p)) p)
    told_fell event may = fell_step event may (λ e. e) (λ e shows. shows) (fell_duties s (reply_of six (fell_ask s event p)) p)

    -- ---- MP_FAIL

    -- both links may alter payload, or none
    both_alter : back.alters ≡ true → out.alters ≡ true
    both_alter is =
        (out_holds six others s ab ba holds).link.alters_is ∙ (flags_are others.links s six).0
        ∙ sym (flags_are others.links (peer s) six).0 ∙ sym (back_holds six others s ab ba holds).link.alters_is ∙ is

    -- where MP_FAIL is heard the lane is open, and the stream is short
    abbrev pub FailFits : Type 0
    FailFits = (out.opened ≡ true) × (path_of p ≡ others.number) × (length (send_of s six).marks < 2 ^ 63)

    -- where it may be told, and the bytes of this end stand together at the end of its record, the book is asked
    fail_step : FailFits → back.alters ≡ true → Makes (fail_ask s p) (answered_fail s (reply_of six (fail_ask s p)) p)
    fail_step fits altered = by (may_go_infinite e) refl
      where
        by : (b : Bool) → may_go_infinite e ≡ b → let x = if b then Ask.Send s (GoInfiniteBook (path_of p)) else fell_ask s (Event.FailHeard false) p in
            Makes x (if b then book_answered s (reply_of six x) p else answered_fell s (Event.FailHeard false) (reply_of six x) p)
        by true goes = book_step six others p ab ba h holds ready s fits.0 (both_alter altered) fits.2 goes fits.1
        by false scattered = told_fell (Event.FailHeard false) tt

    -- what the book answered is told, and the side may send by that mapping
    pub fail_heard_step : Makes (fail_heard_ask s p) (answered_fail_heard s (reply_of six (fail_heard_ask s p)) p)
    fail_heard_step =
        let r : Reply = reply_of six (fail_heard_ask s p) in
        let event : Event = Event.FailHeard (is_some e.treated.infinite_mapping) in
        let f : PathEnd = after_fell event r e in
        end_step six others p ab ba h ready s (fail_heard_ask s p) (after_fail_heard r e) (fell_duties s r p) tt
        (sends_by p.profile s out back e.treated.infinite_mapping (is_infinite_send r) f refl (fell_shows p.profile s out back event r e shows))

    mapping_step : Makes (mapping_ask values s p) (answered_mapping values s (reply_of six (mapping_ask values s p)) p)
    mapping_step = by (is_clash e)
      where
        by : (b : Bool) → Makes (if b then break_ask values s 1 p else fell_ask s Event.MappingHeard p)
            (if b then answered_break values s 1 (reply_of six (if b then break_ask values s 1 p else fell_ask s Event.MappingHeard p)) p
            else goes_on s (with_learned (after_fell Event.MappingHeard (reply_of six (if b then break_ask values s 1 p else fell_ask s Event.MappingHeard p)) e))
            (fell_duties s (reply_of six (if b then break_ask values s 1 p else fell_ask s Event.MappingHeard p)) p) p)
        by true = break_step six others p ab ba h ready s 1
        by false =
            let r : Reply = reply_of six (fell_ask s Event.MappingHeard p) in
            let f : PathEnd = after_fell Event.MappingHeard r e in
            did_step six others p ab ba h ready s (fell_ask s Event.MappingHeard p) (with_learned f) (fell_duties s r p) tt
            (learned_end p.profile s out back f (agrees six others s ab ba holds) (fell_shows p.profile s out back Event.MappingHeard r e shows))

    -- by the peer's infinite mapping the side falls back to plain TCP, receives from now on, or breaks the path
    infinite_step : (place : ℕ) (position : Option ℕ) → StaysFirm others.links s six (fell_ask s Event.InfiniteHeard p) → e.modes.identity ≡ false
        → IfSome position (PairTold back.pairs back.fins place) → Makes (fell_ask s Event.InfiniteHeard p) (answered_infinite s place position (reply_of six (fell_ask s Event.InfiniteHeard p)) p)
    infinite_step place None firm above has = told_fell Event.InfiniteHeard tt
    infinite_step place (Some position) firm above has = by (is_infinite_receive r) refl
      where
        r : Reply
        r = reply_of six (fell_ask s Event.InfiniteHeard p)

        f : PathEnd
        f = after_fell Event.InfiniteHeard r e

        by : (b : Bool) → is_infinite_receive r ≡ b → Makes (fell_ask s Event.InfiniteHeard p) (goes_on s (receiving_infinite place (Some position) b f) (fell_duties s r p) p)
        by false is = told_fell Event.InfiniteHeard tt
        by true is =
            let told = call_loosens others.links s (path_of p) six firm is in
            loosen_side p.profile six others s (ControlCall.Fell (path_of p) Event.InfiniteHeard) p _ ab ba h tt told.0 told.1
            (side_kept p.profile p ab ba h s out (loosened back) (receiving_infinite place (Some position) true f) (fell_duties s r p)
            (taken_end p.profile s out back place position f ((fell_alike Event.InfiniteHeard r e.modes).identity ∙ above) (fell_shows p.profile s out back Event.InfiniteHeard r e shows) has))

    -- the next acknowledgement, bytes, end or sign of Multipath TCP of a copy, which an end hears that didn't fall back
    heard_step : (item : Heard) → (item ≡ Heard.Fail → FailFits) → StaysFirm others.links s six (heard_ask values s item p) → e.modes.identity ≡ false → ItemShows out.acks back item → Makes (heard_ask values s item p) (answered_heard values s item (reply_of six (heard_ask values s item p)) p)
    heard_step (Heard.DataAck next window) opens firm above has = data_ack_step next window above has
    heard_step (Heard.Mapping fin) opens firm above has = mapping_step
    heard_step (Heard.DataFin place) opens firm above has =
        fell_step Event.MappingHeard tt (with_data_fin place) (λ f x. fin_shows p.profile s place f out back has x) (fell_duties s (reply_of six (fell_ask s Event.MappingHeard p)) p)
    heard_step (Heard.InfiniteMapping place position) opens firm above has = infinite_step place position firm above has
    heard_step (Heard.Keys own peer) opens firm above has =
        let keys : Option KeyPair = Some (record { own = own; peer = peer }) in
        let r : Reply = reply_of six (keys_ask s keys) in
        end_step six others p ab ba h ready s (keys_ask s keys) (after_keys r keys e) (left p) tt (keys_show p.profile s out back r keys e shows)
    heard_step Heard.Dss opens firm above has = agenda_step six others p ab ba h ready (Ask.Local LocalStep.End) (left p) tt
    heard_step (Heard.PeerKey key) opens firm above has = agenda_step six others p ab ba h ready (Ask.Local LocalStep.End) (left p) tt
    heard_step (Heard.Join form) opens firm above has = agenda_step six others p ab ba h ready (Ask.Local LocalStep.End) (left p) tt
    heard_step (Heard.Notice notice) opens firm above has =
        end_step six others p ab ba h ready s (notice_ask s notice p) (after_peer_notice notice (reply_of six (notice_ask s notice p)) e) (left p) (quiet notice) noted
      where
        quiet : (notice : PeerNotice) → IsQuiet six (notice_ask s notice p)
        quiet = elim [ PeerNotice.AddAddr id address port hmac ↦ tt | _ ↦ tt ]

        noted : EndShows p.profile s (after_peer_notice notice (reply_of six (notice_ask s notice p)) e) out back
        noted = shows
    heard_step Heard.Fail opens firm above has = fail_step (opens refl) has
    heard_step (Heard.FastClose key) opens firm above has = stopped_step (is_stopped_by (reply_of six (fast_heard_ask s key)))
      where
        stopped_step : (b : Bool) → Makes (fast_heard_ask s key) (with_agenda (if b then stops s else left p) p)
        stopped_step b = agenda_step six others p ab ba h ready (fast_heard_ask s key) (if b then stops s else left p) tt

    item_by : (o : Option Heard) → (o ≡ Some Heard.Fail → FailFits) → StaysFirm others.links s six (item_ask values s o p) → e.modes.identity ≡ false → IfSome o (ItemShows out.acks back) → Makes (item_ask values s o p) (answered_item values s o (reply_of six (item_ask values s o p)) p)
    item_by None opens firm above has = agenda_step six others p ab ba h ready (Ask.Local LocalStep.End) (left p) tt
    item_by (Some item) opens firm above has = heard_step item (λ is. opens (ap Some is)) firm above has

    pub item_step : (index : ℕ) → (item_at index e.treated.items ≡ Some Heard.Fail → FailFits) → StaysFirm others.links s six (item_ask values s (item_of index e) p) → item_stands (item_of index e) e ≡ true
        → Makes (item_ask values s (item_of index e) p) (answered_item values s (item_of index e) (reply_of six (item_ask values s (item_of index e) p)) p)
    item_step index opens firm is = by e.modes.identity refl firm is
      where
        by : (b : Bool) → e.modes.identity ≡ b → StaysFirm others.links s six (item_ask values s (if b then None else item_at index e.treated.items) p) → item_stands (if b then None else item_at index e.treated.items) e ≡ true
            → let o = if b then None else item_at index e.treated.items in Makes (item_ask values s o p) (answered_item values s o (reply_of six (item_ask values s o p)) p)
        by true plain firm none = absurd (false≢true none)
        by false above firm none = item_by (item_at index e.treated.items) opens firm above (every_item index e.treated.items shows.treated.items)

    -- ---- an acknowledgement without a Data ACK

    pub plain_ack_step : Makes (plain_ack_ask values s p) (answered_plain_ack values s (reply_of six (plain_ack_ask values s p)) p)
    plain_ack_step = by (breaks_by_ack p.profile e)
      where
        by : (b : Bool) → let x = if b then break_ask values s 6 p else fell_ask s Event.PlainAck p in
            Makes x (if b then answered_break values s 6 (reply_of six x) p else goes_on s (with_plain_ack (after_fell Event.PlainAck (reply_of six x) e)) (fell_duties s (reply_of six x) p) p)
        by true = break_step six others p ab ba h ready s 6
        by false = fell_step Event.PlainAck tt with_plain_ack (plain_ack_shows p.profile s out back) (fell_duties s (reply_of six (fell_ask s Event.PlainAck p)) p)

    -- ---- the opening

    pub peer_key_step : (o : Option ℕ) → Makes (peer_key_ask s o p) (answered_peer_key s o (reply_of six (peer_key_ask s o p)) p)
    peer_key_step None = told_fell Event.PlainHandshake tt
    peer_key_step (Some key) =
        end_step six others p ab ba h ready s (peer_key_ask s (Some key) p) (with_peer_key (Some key) e) (left p) tt (key_shows p.profile s out back (Some key) e shows)

    pub opened_step : (o : Option KeyPair) → Makes (opened_ask s o p) (answered_opened s o (reply_of six (opened_ask s o p)) p)
    opened_step None = told_fell Event.PlainHandshake tt
    opened_step (Some keys) =
        let r : Reply = reply_of six (keys_ask s (Some keys)) in
        end_step six others p ab ba h ready s (keys_ask s (Some keys)) (after_keys r (Some keys) e) (left p) tt (keys_show p.profile s out back r (Some keys) e shows)

    -- ---- grants

    module _ (most : ℕ) (standby : Bool) (some : 1 ≤ most) (short : length (send_of s six).marks < 2 ^ 63) (tiles : length (send_of s six).marks ≡ length (send_of s six).written) (may : states.may_finish e.tcp.state ≡ true) where
      grant_did : (r : SendReply) → grant_reply others.number most standby (send_of s six) ≡ r
          → SideDid p.profile s p (answered_grant s (grant_in (Reply.Send r)) (Reply.Send r) p) ab ba (takes_grant r out) back
      grant_did (SendReply.Granted span piece) is =
          side_kept p.profile p ab ba h s (granted_lane span piece out) back (granted p.profile s span piece e) p.agenda
          (granted_end p.profile s out back span piece e may (granted_fits p.profile s out back others.number most standby (send_of s six) span piece short tiles some is) shows)
      grant_did (SendReply.NoGrant why told) is =
          side_kept p.profile p ab ba h s (refused_lane why told out) back (refused (Reply.Send (SendReply.NoGrant why told)) e) (left p) (refused_end p.profile s out back why told e shows)
      grant_did (SendReply.Acked bytes fin) is = side_kept p.profile p ab ba h s _ back e (left p) (idle_end p.profile s out back e shows)
      grant_did _ is = side_kept p.profile p ab ba h s _ back e (left p) (idle_end p.profile s out back e shows)

      abbrev GrantedAt : ℕ → Type 0
      GrantedAt path =
          let r : Reply = reply_of six (Ask.Send s (Grant path most standby)) in
          Makes (Ask.Send s (Grant path most standby)) (answered_grant s (grant_in r) r p)

      at_path : GrantedAt others.number
      at_path =
          grant_side p.profile six others most standby s p _ ab ba h (wants_grant out most standby (ready.opened s may) some)
          (grant_did (grant_reply others.number most standby (send_of s six)) refl)

      pub granted_step : path_of p ≡ others.number → GrantedAt (path_of p)
      granted_step numbered = subst GrantedAt (sym numbered) at_path

    -- ---- bytes

    pub piece_step : (o : Option Piece) → piece_of s p ≡ o → Makes (piece_ask s o) (answered_piece s o (is_placed (reply_of six (piece_ask s o))) p)
    piece_step None is = end_step six others p ab ba h ready s (Ask.Local LocalStep.End) (having_asked e) (breaks s 1) tt (asked_shows p.profile s out back e shows)
    piece_step (Some piece) is =
        let n = next_ready p.profile s out back _ others.number (back_holds six others s ab ba holds) (ready.checks s) e piece is shows in
        place_side p.profile six others piece.place piece.octets s p _ ab ba h n.wants
        (by (place_reply_at p.profile six others piece.place piece.octets s))
      where
        other : SideDid p.profile s p (goes_on s (having_asked e) (breaks s 1) p) ab ba out (asked_back p.profile s out back back.due)
        other = side_kept p.profile p ab ba h s out _ (having_asked e) (breaks s 1) (asked_end p.profile s out back back.due (having_asked e) refl (asked_shows p.profile s out back e shows))

        by : (r : ReassemblyReply) → SideDid p.profile s p (answered_piece s (Some piece) (is_placed (Reply.Reassembly r)) p) ab ba out (takes_placed (length piece.octets) r back)
        by (ReassemblyReply.Placed new) =
            let n = next_ready p.profile s out back _ others.number (back_holds six others s ab ba holds) (ready.checks s) e piece is shows in
            side_kept p.profile p ab ba h s out _ (having_asked (after_piece piece e)) p.agenda (placed_end p.profile s out back new e piece n.at shows)
        by (ReassemblyReply.Beyond edge) = other
        by _ = other

    -- ---- a check that fails

    -- links alter payload both ways, or none
    pub check_failed_step : Makes (check_failed_ask s p) (answered_check_failed s (reply_of six (check_failed_ask s p)) p)
    check_failed_step =
        let r : Reply = reply_of six (check_failed_ask s p) in
        let checks : Bool = p.profile.spelling.checksums in
        let failing : Option KeptMapping = failing_by checks (mapping_here e) e.tcp in
        let f : PathEnd = after_fell Event.CheckFailed r e in
        let may : IfSome failing (λ _. out.alters ≡ true) =
        IfSome-map failing (λ kept is. both_alter is) (failing_alters p.profile s out back _ others.number (back_holds six others s ab ba holds) e shows) in
        did_step six others p ab ba h ready s (check_failed_ask s p) (after_check_failed checks r e) (fell_duties s r p) tt
        (check_did p.profile s out back checks (mapping_here e) (with_failure failing r f)
        (failure_shows p.profile s out back failing r f may (fell_shows p.profile s out back Event.CheckFailed r e shows)))

    -- ---- the end of the stream

    fin_by : (o : Option ℕ) → IfSome o (HasNumber back.data_fins) → Makes (fin_ask s o) (answered_fin_heard s (is_fin_set (reply_of six (fin_ask s o))) p)
    fin_by None has = end_step six others p ab ba h ready s (Ask.Local LocalStep.End) (having_asked e) (breaks s 1) tt (asked_shows p.profile s out back e shows)
    fin_by (Some place) has =
        fin_side p.profile six others place s p _ ab ba h (wants_fin back place has) (by (fin_reply_at p.profile six others place s))
      where
        other : SideDid p.profile s p (goes_on s (having_asked e) (breaks s 1) p) ab ba out (asked_back p.profile s out back back.due)
        other = side_kept p.profile p ab ba h s out _ (having_asked e) (breaks s 1) (asked_end p.profile s out back back.due (having_asked e) refl (asked_shows p.profile s out back e shows))

        by : (r : ReassemblyReply) → SideDid p.profile s p (answered_fin_heard s (is_fin_set (Reply.Reassembly r)) p) ab ba out (takes_fin r back)
        by ReassemblyReply.FinSet =
            side_kept p.profile p ab ba h s out _ (having_asked (with_peer_data_fin e)) (left p)
            (asked_end p.profile s out back true (having_asked (with_peer_data_fin e)) refl (asked_shows p.profile s out back (with_peer_data_fin e) (peer_end_shows p.profile s out back e shows)))
        by (ReassemblyReply.Placed new) = other
        by _ = other

    pub fin_heard_step : (index : ℕ) → Makes (fin_ask s (data_fin_of index e)) (answered_fin_heard s (is_fin_set (reply_of six (fin_ask s (data_fin_of index e)))) p)
    fin_heard_step index = fin_by (data_fin_of index e) (every_item index e.treated.fins shows.treated.fins)

    -- without mappings the FIN stands for it
    pub plain_fin_step : (o : Option ℕ) → place_of_fin e ≡ o → Makes (fin_ask s o) (answered_plain_fin s (is_fin_set (reply_of six (fin_ask s o))) p)
    plain_fin_step None is = end_step six others p ab ba h ready s (Ask.Local LocalStep.End) (having_asked e) (breaks s 1) tt (asked_shows p.profile s out back e shows)
    plain_fin_step (Some place) is =
        fin_side p.profile six others place s p _ ab ba h
        (plain_fin_came p.profile s out back _ _ e place (back_holds six others s ab ba holds) shows is)
        (by (fin_reply_at p.profile six others place s))
      where
        other : SideDid p.profile s p (goes_on s (having_asked e) (breaks s 1) p) ab ba out (asked_back p.profile s out back back.due)
        other = side_kept p.profile p ab ba h s out _ (having_asked e) (breaks s 1) (asked_end p.profile s out back back.due (having_asked e) refl (asked_shows p.profile s out back e shows))

        by : (r : ReassemblyReply) → SideDid p.profile s p (answered_plain_fin s (is_fin_set (Reply.Reassembly r)) p) ab ba out (takes_fin r back)
        by ReassemblyReply.FinSet =
            let f : PathEnd = with_peer_data_fin (with_fin_told e) in
            side_kept p.profile p ab ba h s out _ (having_asked f) (left p)
            (asked_end p.profile s out back true (having_asked f) refl (asked_shows p.profile s out back f (peer_end_shows p.profile s out back (with_fin_told e) (fin_told_shows p.profile s out back e shows))))
        by (ReassemblyReply.Placed new) = other
        by _ = other

    -- ---- the growth of the window

    pub rate_step : Makes (rate_ask s e.tcp.congestion.pending p) (answered_rate s (reply_of six (rate_ask s e.tcp.congestion.pending p)) p)
    rate_step =
        let r : Reply = reply_of six (rate_ask s e.tcp.congestion.pending p) in
        end_step six others p ab ba h ready s (rate_ask s e.tcp.congestion.pending p) (after_rate (path_of p) p.profile.mss r e) (left p) (rate_quiet six s e.tcp.congestion.pending p)
        (rate_shows p.profile s out back (path_of p) p.profile.mss r e shows)

  -- ---- the fall

  -- the ends look at what their sides know before the send book is told
  pub identity_step : (s : Side) → plain_at others.links s six ≡ true → Makes (identity_ask s) (answered_identity s p)
  identity_step A plain = record {
    ab_before = looked_out ab;
    ba_before = looked_back (loose_at others.links A six) ba;
    before = look_moves A six others ab ba plain;
    call = Some (ToB GoIdentity);
    calls = (GoIdentity, refl, refl);
    ab_called = looked_out ab;
    ba_called = looked_back (loose_at others.links A six) ba;
    called = given_to_one A six others (looked_out ab) (looked_back (loose_at others.links A six) ba) plain;
    after = record {
      ab_after = looked_out ab;
      ba_after = looked_back (loose_at others.links A six) ba;
      ab_moves = stays (looked_out ab);
      ba_moves = stays (looked_back (loose_at others.links A six) ba);
      shows = path_looks p.profile A (loose_at others.links A six) p ab ba (left p) h;
    };
  }
  identity_step B plain = record {
    ab_before = looked_back (loose_at others.links B six) ab;
    ba_before = looked_out ba;
    before = look_moves B six others ab ba plain;
    call = Some (ToA GoIdentity);
    calls = (GoIdentity, refl, refl);
    ab_called = looked_back (loose_at others.links B six) ab;
    ba_called = looked_out ba;
    called = given_to_one B six others (looked_back (loose_at others.links B six) ab) (looked_out ba) plain;
    after = record {
      ab_after = looked_back (loose_at others.links B six) ab;
      ba_after = looked_out ba;
      ab_moves = stays (looked_back (loose_at others.links B six) ab);
      ba_moves = stays (looked_out ba);
      shows = path_looks p.profile B (loose_at others.links B six) p ab ba (left p) h;
    };
  }
