-- A copy that is no SYN arrives: what its end knows of it, and the world from its side.
--
-- A state that a Bool or an answer chooses is written with the choice inside the field that differs, so that all other
-- fields compute; that it is what the machine makes is one equation at the end, and `subst` over the end or the state
-- as a whole (`judged_is` of `proofs/CopyComes`).
use Rattle.clean_finish.proofs.Words.{◌≡◌, refl, sym, subst, ap, ◌∙◌, ℕ, ◌+◌, ◌-◌, ◌<◌, ◌≤◌, min, nat_lt, Bool, true, false, not, ◌&&◌, ◌||◌, if◌then◌else◌}
use Rattle.clean_finish.proofs.Words.{◌⊎◌, inl, inr, Option, None, List, [], ◌∷◌, length, map, arith, Some, nat_le, ◌^◌, both_ways, cases_lt, and_parts, lt-ltb}
use Rattle.clean_finish.proofs.Words.{le-ltb, lt-leb, list_any, Side, A, B, peer, KeptMapping, after_hold_mappings, Receiving, after_hold, AckKind, Duplicate}
use Rattle.clean_finish.proofs.Words.{ack_kind, State, EndState, is_half_open, after_telling, after_occupying, is_duplicate, is_empty, arrival_of}
use Rattle.clean_finish.proofs.Words.{after_holding, Outgoing, Meaning, meaning_of, occupied, owing_ack, Flight, window_told, Duty, StepDuty, copy_came}
use Rattle.clean_finish.proofs.Words.{place_in_first, wants_ack, Heard, pick, is_nil, Profile, Carried, held_of, copy_judged, after_copy, owing_if}
use Rattle.clean_finish.proofs.Words.{is_connected, edge_in_payload, has_data_ack, hint_of, is_plain_ack, octets_acked, is_joined, Setting, Telling, Copy, Lane}
use Rattle.clean_finish.proofs.Words.{all_left, Going, Covers, may_tell, pending, is_same, Chain, In, repeated, Hand, EndIs, HeardIs, RecordsAre, WayIs}
use Rattle.clean_finish.proofs.Words.{last_told, row_seen, brings_still, Sent, Keys, Brings, BringsAs, shows_keys, is_third, is_subflow_end, copy_in, octets_of}
use Rattle.clean_finish.proofs.Words.{position_by, position_of, CountsAs, TellsAs, AcknowledgesAs, ShowsFirst, Rise, edge_after, OpensSubflow, ShowsKeys}
use Rattle.clean_finish.proofs.Words.{FirstPiece, Piece, Acknowledges, EndsStream, EndsSubflow, TreatsCopy, count_in, heard_by, IsSetting, Facing, Half}
use Rattle.clean_finish.proofs.Words.{IsBetween, AtFirst}
use Rattle.subflow_tcp.specs.declared.verdicts.Arrival.TheVariants.{Took, Opened}
use Rattle.subflow_tcp.specs.Taking.{told_by}
use Rattle.pace.proofs.Lists.{chain_le}
use Rattle.clean_finish.specs.Segments.{is_opening}
use Rattle.clean_finish.proofs.AckNew.{kind_same}
use Rattle.clean_finish.proofs.AnswerComes.{edge_first}
use Rattle.clean_finish.proofs.CopyArrived.{copy_arrived}
use Rattle.clean_finish.proofs.Hands.{in_hand}
use Rattle.clean_finish.proofs.CopyKinds.{keys_shown_by, first_keys, third_first, third_shows, later_keys, fin_once, some_bytes, not_true, opens_third, third_opens, open_una, has_options, acks_data, length_heard, held_at, incoming_is, places_kept, fin_is}
use Rattle.clean_finish.proofs.CopySays.{says_are, held_are, owed_is}
use Rattle.clean_finish.proofs.CopyHeeded.{Repeated, Heeds, heeded, heeds, open_after}
use Rattle.clean_finish.proofs.Quiet.{now_out, now_back}
use Rattle.clean_finish.proofs.TakenMeant.{taken_meant}
use Rattle.clean_finish.proofs.TakenOwn.{held, heard, holds, copy, items, fresh, rested_if, owes_after, end_by, taken_own}
use Rattle.clean_finish.proofs.TakenRepeats.{TellsPlace, empty_nil, placed, tells_by, repeats_lane}

some_one : {x : ℕ} → x ≡ 1 → 1 ≤ x
some_one is = omega (arith, is)

some_two : {x : ℕ} → x ≡ 2 → 1 ≤ x
some_two is = omega (arith, is)

some_same : {x y : ℕ} → 1 ≤ x → y ≡ x → 1 ≤ y
some_same one is = omega (arith, one, is)

-- all but a SYN come after one
counts_some : (control keys control_then keys_then : ℕ) (b : Brings) → is_opening b ≡ false → CountsAs control keys control_then keys_then b → 1 ≤ control
counts_some control keys control_then keys_then OpensSubflow e is = absurd (both_ways _ e refl)
counts_some control keys control_then keys_then ShowsKeys e is = one is.0
  where
    one : {x : ℕ} → x ≡ 1 → 1 ≤ x
    one same = omega (arith, same)
counts_some control keys control_then keys_then (FirstPiece octets) e is = one is.0
  where
    one : {x : ℕ} → x ≡ 1 → 1 ≤ x
    one same = omega (arith, same)
counts_some control keys control_then keys_then (Piece octets) e is = is.0
counts_some control keys control_then keys_then Acknowledges e is = is.0
counts_some control keys control_then keys_then (EndsStream place) e is = is.0
counts_some control keys control_then keys_then EndsSubflow e is = one is.0
  where
    one : {x : ℕ} → x ≡ 1 → 1 ≤ x
    one same = omega (arith, same)

-- a copy that opens no subflow has one at least before it
control_some : (control keys control_then keys_then : ℕ) (b : Brings) → is_opening b ≡ false → CountsAs control keys control_then keys_then b → 1 ≤ control_then
control_some control keys control_then keys_then OpensSubflow e is = absurd (both_ways _ e refl)
control_some control keys control_then keys_then ShowsKeys e is = some_one is.1
control_some control keys control_then keys_then (FirstPiece octets) e is = some_one is.1
control_some control keys control_then keys_then EndsSubflow e is = some_two is.1
control_some control keys control_then keys_then _ e is = some_same is.0 is.1

-- all but A's SYN acknowledge a SYN
tells_seen : (least : ℕ) (s : Side) (window : ℕ) (t : Telling) (b : Brings) → is_opening b ≡ false → TellsAs least s window t b → 1 ≤ t.seen
tells_seen least s window t OpensSubflow e is = absurd (both_ways _ e refl)
tells_seen least s window t ShowsKeys e is = some_one is.2
tells_seen least s window t (FirstPiece octets) e is = some_one is.2
tells_seen least s window t _ e is = is.1

-- the copy stands at the edge of what came
at_edge : (x : Sent) (received control keys : ℕ) → is_opening x.brings ≡ false → x.low ≡ received → CountsAs control keys x.control x.keys x.brings
    → position_of x ≡ 1 + received + (control - 1)
at_edge x received control keys opens low counts = by x.brings opens counts
  where
    next : {low now : ℕ} → low ≡ received → now ≡ control → 1 ≤ control → low + now ≡ 1 + received + (control - 1)
    next a b one = omega (arith, a, b, one)

    one_of : {now : ℕ} → control ≡ 1 → now ≡ 1 → (now ≡ control) × (1 ≤ control)
    one_of a b = (omega (arith, a, b), omega (arith, a))

    fin : {low now : ℕ} → low ≡ received → control ≡ 1 → now ≡ 2 → low + now - 1 ≡ 1 + received + (control - 1)
    fin a b d = omega (arith, a, b, d)

    by : (b : Brings) → is_opening b ≡ false → CountsAs control keys x.control x.keys b → position_by (x.low + x.control) b ≡ 1 + received + (control - 1)
    by OpensSubflow e is = absurd (both_ways _ e refl)
    by ShowsKeys e is = let o = one_of is.0 is.1 in next low o.0 o.1
    by (FirstPiece octets) e is = let o = one_of is.0 is.1 in next low o.0 o.1
    by EndsSubflow e is = fin low is.0 is.1
    by _ e is = next low is.1 is.0

-- with keys that never came before, and what acknowledges no SYN
module _ {s : Side} {keys : Keys} {k j : Setting} {c : Profile} {begun begun_back : Lane} {m n : Half} {clock until : ℕ} (ticks t u : ℕ)
    (k_is : IsSetting c ticks k) (j_is : IsSetting c ticks j)
    (going : Going k begun t all_left begun) (going_back : Going j begun_back u all_left begun_back)
    (h : Facing s keys k j c begun begun_back m n clock until ((Duty.Step StepDuty.Events) ∷ Duty.End ∷ []))
    (none : h.hand ≡ None) (unowed : h.owes ≡ false) (waiting : h.waiting ≡ 0) (answered : min 1 h.back.control_came ≤ h.out.control_sent)
    (f : Flight Carried) (fs : List (Flight Carried)) (x : Sent) (xs : List Sent)
    (w : WayIs c keys k j (peer s) h.back.sender h.back.receiver h.back.datas h.out.acks None m.end.tcp.send.una n.end.tcp.recv.edge (f ∷ fs))
    (sent : w.sent ≡ x ∷ xs) (opens : is_opening x.brings ≡ false) (low : x.low ≡ h.back.received)
    (counts : CountsAs h.back.control_came h.back.keys_came x.control x.keys x.brings)
    (tells : TellsAs k.least (peer s) x.window x.telling x.brings) (acknowledges : AcknowledgesAs k.total x) (shows : ShowsFirst (peer s) x)
    (told : List KeptMapping) (answer : Outgoing)
  where
    pub lane : Going k begun t h.stage h.out
    lane = now_out ticks t u k_is j_is going going_back h

    pub lane_back : Going j begun_back u h.stage_back h.back
    lane_back = now_back ticks t u k_is j_is going going_back h

    pub came : 1 ≤ h.back.control_came
    came = counts_some h.back.control_came h.back.keys_came x.control x.keys x.brings opens counts

    pub sent_some : 1 ≤ h.out.control_sent
    sent_some = up came answered
      where
        up : {a b : ℕ} → 1 ≤ a → min 1 a ≤ b → 1 ≤ b
        up p q = omega (arith, p, q)

    pub sent_back : 1 ≤ h.back.control_sent
    sent_back = up came lane_back.numbers.control
      where
        up : {a b : ℕ} → 1 ≤ a → a ≤ b → 1 ≤ b
        up p q = omega (arith, p, q)

    pub rise : Rise m.end.tcp.send.una (x ∷ xs)
    rise = subst (λ (ys : List Sent). Rise m.end.tcp.send.una ys) sent w.rise

    pub high : x.edge ≤ m.end.tcp.send.nxt
    high = most h.waiting (edge_first x.edge xs rise.1) (subst (λ (ys : List Sent). edge_after m.end.tcp.send.una ys ≤ n.end.tcp.recv.edge) sent w.passed)
        h.other.subflow.come.edge lane.numbers.received lane.numbers.control h.own.subflow.records.next
      where
        most : {a b e r c g d nxt : ℕ} (w : ℕ) → a ≤ b → b ≤ e → e ≡ 1 + r + (c - 1) → r ≤ g → c ≤ d → nxt ≡ 1 + g + w + (d - 1) → a ≤ nxt
        most w p q is a b is_next = omega (arith, p, q, is, a, b, is_next)

    pub far_next : {nxt g w d total : ℕ} → nxt ≡ 1 + g + w + (d - 1) → w ≡ 0 → d ≤ 2 → g ≤ total → total ≤ 16777216 → nxt < 2 ^ 61
    far_next is none two most small = omega (arith, is, none, two, most, small)

    pub far_come : {e r c d total g : ℕ} → e ≡ 1 + r + (c - 1) → r ≤ g → g ≤ total → c ≤ d → d ≤ 2 → total ≤ 16777216 → e < 2 ^ 61
    far_come is a b d two small = omega (arith, is, a, b, d, two, small)

    pub up_two : {a b d : ℕ} → a ≤ b → b ≤ d → a ≤ d
    up_two p q = omega (arith, p, q)

    pub far : nat_le (2 ^ 61) m.end.tcp.send.nxt ≡ false
    far = lt-leb (2 ^ 61) m.end.tcp.send.nxt (far_next h.own.subflow.records.next waiting h.own.subflow.records.control
        (up_two lane.numbers.granted lane.numbers.written) k_is.small)

    pub far_edge : nat_le (2 ^ 61) m.end.tcp.recv.edge ≡ false
    far_edge = lt-leb (2 ^ 61) m.end.tcp.recv.edge (far_come h.own.subflow.come.edge lane_back.numbers.received
        (up_two lane_back.numbers.granted lane_back.numbers.written) lane_back.numbers.control h.other.subflow.records.control j_is.small)

    pub meaning : meaning_of (copy h x told answer) m.end.tcp ≡ Meaning.Taken (position_of x) x.edge
    meaning = taken_meant c keys (peer s) s x h.back.control_came m.end.tcp.send.una m.end.tcp.send.finished m.end.tcp h.own.subflow.phase came opens far far_edge
        (at_edge x h.back.received h.back.control_came h.back.keys_came opens low counts ∙ sym h.own.subflow.come.edge) high acknowledges.some

    -- ---- what it acknowledges

    pub acks_are : h.out.acks ≡ map copy_in (x ∷ xs)
    acks_are = w.acks_are ∙ ap (λ (ys : List Sent). map copy_in ys) sent

    pub covers : Covers (may_tell k h.out) x.telling
    covers = lane.under_way.acks_are (copy_in x) (subst (λ (cs : List Copy). In (copy_in x) cs) (sym acks_are) (inl refl))

    pub seen : x.telling.seen ≤ 2
    seen = up covers.2 lane.numbers.control h.own.subflow.records.control
      where
        up : {a b d : ℕ} → a ≤ b → b ≤ d → d ≤ 2 → a ≤ 2
        up p q r = omega (arith, p, q, r)

    pub seen_some : 1 ≤ x.telling.seen
    seen_some = tells_seen k.least (peer s) x.window x.telling x.brings opens tells

    pub small : nat_lt x.telling.next (2 ^ 62) ≡ true
    small = lt-ltb x.telling.next (2 ^ 62) (few h.out.data_fin_came covers.0 lane.numbers.received (up_two lane.numbers.granted lane.numbers.written) k_is.small)
      where
        few : {a r g total : ℕ} (w : ℕ) → a ≤ r + min w ((r + 1) - total) → r ≤ g → g ≤ total → total ≤ 16777216 → a < 2 ^ 62
        few w p q r z = omega (arith, p, q, r, z)

    pub tells_place : TellsPlace (peer s) (place_in_first (items h x told answer)) (copy h x told answer).window x.telling
    tells_place = subst (λ (b : Bool). TellsPlace (peer s) (place_in_first (items h x told answer)) (window_told b x.window) x.telling) (sym opens)
        (tells_by c keys (peer s) x small s k.least x.brings opens tells)

    -- a copy that acknowledges the same again shows no keys for the first time
    pub before : HeardIs s k.total h.out.heard m.end.tcp
    before = subst (λ (o : Option Hand). HeardIs s k.total (last_told h.out.heard o) m.end.tcp) none h.own.subflow.heard

    pub no_keys_again : (b : Brings) → x.brings ≡ b → x.edge ≡ m.end.tcp.send.una → is_empty (octets_of b) ≡ true → is_opening b ≡ false → shows_keys b ≡ false
    no_keys_again OpensSubflow is again empty e = absurd (both_ways _ e refl)
    no_keys_again (FirstPiece octets) is again empty e =
        absurd (some_octets (subst (λ (y : Brings). CountsAs h.back.control_came h.back.keys_came x.control x.keys y) is counts).3 (empty_nil octets empty))
      where
        some_octets : {ys : List ℕ} → 1 ≤ length ys → ys ≡ [] → ⊥
        some_octets {ys} one nil = none_less (subst (λ (zs : List ℕ). 1 ≤ length zs) nil one)
          where
            none_less : 1 ≤ 0 → ⊥
            none_less less = absurd (omega (arith, less))
    no_keys_again ShowsKeys is again empty e = by s refl
      where
        count : CountsAs h.back.control_came h.back.keys_came x.control x.keys ShowsKeys
        count = subst (λ (y : Brings). CountsAs h.back.control_came h.back.keys_came x.control x.keys y) is counts

        some_one : {a b : ℕ} → 1 ≤ a → a ≡ b → 1 ≤ b
        some_one one same = omega (arith, one, same)

        not_both : {a : ℕ} → 1 ≤ a → a ≡ 0 → ⊥
        not_both one is_zero = absurd (omega (arith, one, is_zero))

        shown_low : {a b : ℕ} → 1 ≤ a → a ≤ b → b ≤ 0 → ⊥
        shown_low p q r = absurd (omega (arith, p, q, r))

        same_one : {a b : ℕ} → a ≡ 1 → a ≤ b → 1 ≤ b
        same_one p q = omega (arith, p, q)

        by : (q : Side) → s ≡ q → shows_keys ShowsKeys ≡ false
        by B is_b = absurd (not_both (h.own.subflow.keyed is_b (some_one acknowledges.some again) (ap brings_still none)) count.2)
        by A is_a = absurd (never is_a)
          where
            never : s ≡ A → ⊥
            never side = shown_low (same_one count.3 key_sent) (same (h.back.keys_sent)) (subst (λ (z : Side). h.back.keys_sent ≤ pick (peer z) h.back.ready 0) side h.other.modes.shown)
              where
                same : (a : ℕ) → a ≤ a
                same a = omega arith

                key_sent : x.keys ≤ h.back.keys_sent
                key_sent = (lane_back.under_way.datas_are (copy_in x) (subst (λ (cs : List Copy). In (copy_in x) cs)
                    (sym (w.datas_are ∙ ap (λ (ys : List Sent). map copy_in ys) sent)) (inl refl))).2
    no_keys_again (Piece octets) is again empty e = refl
    no_keys_again _ is again empty e = refl

    pub unsent : m.end.tcp.state ≡ State.SynReceived → m.end.tcp.send.finished ≡ false
    unsent is = h.own.subflow.records.finished ∙ by (cases_lt 1 h.out.control_sent)
      where
        by : (1 < h.out.control_sent) ⊎ (h.out.control_sent ≤ 1) → nat_lt 1 h.out.control_sent ≡ false
        by (inr few) = le-ltb 1 h.out.control_sent few
        by (inl two) = absurd (zero_ready (h.own.sending.acked_end (h.own.sending.finish (two_is two))) h.own.sending.end h.own.modes.cleared
            (h.own.subflow.quiet (ap is_connected is)).1)
          where
            two_is : {a : ℕ} → 1 < a → 2 ≤ a
            two_is less = omega (arith, less)

            zero_ready : {a b d : ℕ} → 1 ≤ a → a ≤ b → b ≤ d → d ≡ 0 → ⊥
            zero_ready one p q is_zero = absurd (omega (arith, one, p, q, is_zero))

    pub few_rows : (copy_in x).solid ≡ false → is_same h.out.heard x.telling ≡ true → h.out.row ≤ 1
    few_rows solid same = one (repeated x.telling (map copy_in xs)) (pending k h.stage h.out) (subst (λ (a : ℕ). h.out.row + a + pending k h.stage h.out ≤ h.out.said + h.out.data_fin_came) counted lane.repeats.few)
        (told_once h.other.receiving.said lane_back.numbers.data_fin_sent lane_back.numbers.known lane_back.numbers.closed)
        (came_once lane.numbers.data_fin_came lane.numbers.data_fin_sent lane.numbers.known lane.numbers.closed)
      where
        counted : repeated h.out.heard h.out.acks ≡ 1 + repeated x.telling (map copy_in xs)
        counted = ap (λ (cs : List Copy). repeated h.out.heard cs) acks_are
            ∙ ap (λ (a : ℕ). a + repeated x.telling (map copy_in xs)) (rw (solid, same) refl)

        one : {row said came : ℕ} (more pays : ℕ) → row + (1 + more) + pays ≤ said + came → said ≤ 1 → came ≤ 1 → row ≤ 1
        one more pays p q r = omega (arith, p, q, r)

        told_once : {said a b d : ℕ} → said ≤ a → a ≤ b → b ≤ d → d ≤ 1 → said ≤ 1
        told_once p q r z = omega (arith, p, q, r, z)

        came_once : {came a b d : ℕ} → came ≤ a → a ≤ b → b ≤ d → d ≤ 1 → came ≤ 1
        came_once p q r z = omega (arith, p, q, r, z)

    pub repeated_lane : is_duplicate Duplicate (told_by (hint_of (items h x told answer)) (copy h x told answer)) (copy h x told answer) (held h x told answer) ≡ true
        → x.edge ≡ m.end.tcp.send.una → Repeated h.out.sender x m.end.tcp.congestion.duplicates
    repeated_lane duplicate again =
        repeats_lane h.out.sender (peer s) x m.end.tcp.congestion.duplicates k.total m.end.tcp.send.una m.end.tcp.congestion.told
        (told_by (hint_of (items h x told answer)) (copy h x told answer)) (copy h x told answer) (held h x told answer) duplicate again refl refl refl before.told
        tells_place
        (placed c keys (peer s) x small s x.brings opens (no_keys_again x.brings refl again (and_parts (is_empty (octets_of x.brings)) _ duplicate).0 opens))
        before.few seen before.most acknowledges.most before.end acknowledges.end

    pub records_held : RecordsAre k h.out.sender h.waiting (held h x told answer)
    records_held = record {
      sent = h.own.subflow.records.sent;
      rest = h.own.subflow.records.rest;
      all = h.own.subflow.records.all;
      gone = h.own.subflow.records.gone;
      waits = h.own.subflow.records.waits;
      pieces = h.own.subflow.records.pieces;
      tile = h.own.subflow.records.tile;
      next = h.own.subflow.records.next;
      finished = h.own.subflow.records.finished;
      control = h.own.subflow.records.control;
      fits = h.own.subflow.records.fits;
    }

    pub row_before : m.end.tcp.congestion.duplicates ≤ h.out.row
    row_before = subst (λ (o : Option Hand). m.end.tcp.congestion.duplicates ≤ row_seen h.out.sender o) none h.own.subflow.congestion.row

    abbrev pub taken : EndState
    taken = heeded k h.out.sender (rested_if (fresh h x told answer) h.out).sender refl refl h.waiting x clock
        (told_by (hint_of (items h x told answer)) (copy h x told answer)) (copy h x told answer) (held h x told answer) records_held waiting sent_some
        (open_after s h.back.control_came m.end.tcp.send.una m.end.tcp.send.finished m.end.tcp.state h.own.subflow.phase came unsent)
        h.own.subflow.congestion.window h.own.subflow.congestion.most h.own.subflow.congestion.steady row_before h.own.subflow.long
        rise.0 high few_rows repeated_lane

    pub heed : Heeds k h.out.sender (rested_if (fresh h x told answer) h.out).sender x (held h x told answer) taken
    heed = heeds k h.out.sender (rested_if (fresh h x told answer) h.out).sender refl refl h.waiting x clock
        (told_by (hint_of (items h x told answer)) (copy h x told answer)) (copy h x told answer) (held h x told answer) records_held waiting sent_some
        (open_after s h.back.control_came m.end.tcp.send.una m.end.tcp.send.finished m.end.tcp.state h.own.subflow.phase came unsent)
        h.own.subflow.congestion.window h.own.subflow.congestion.most h.own.subflow.congestion.steady row_before h.own.subflow.long
        rise.0 high few_rows repeated_lane

    pub edge_kept : (b : Bool) → (if b then m.end.tcp.recv else after_hold (position_of x) (octets_of x.brings) m.end.tcp.recv).edge ≡ m.end.tcp.recv.edge
    edge_kept true = refl
    edge_kept false = refl

    pub own : EndIs s keys k j (rested_if (fresh h x told answer) h.out).sender h.back.receiver (in_hand x true true) (owes_after h x told answer) 0
        (end_by h x told answer taken)
    own = taken_own h x told answer taken heed none unowed came waiting acknowledges.some rise.0 high acknowledges seen seen_some tells_place

    -- all is as it was, but for what has arrived
    abbrev pub comes : Facing s keys k j c begun begun_back (record m { end = end_by h x told answer taken }) (record n { flying = fs }) clock until
        (copy_came s (length (items h x told answer)))
    comes = copy_arrived h x told answer taken heed (edge_kept (is_nil (octets_of x.brings))) waiting sent_some sent_back (length (items h x told answer))
        f fs xs w sent own

    -- and that is what the path makes of it
    pub judged_is : copy_judged false told answer s clock (heard h x told answer) (Meaning.Taken (position_of x) x.edge) m.end ≡ end_by h x told answer taken
    judged_is = ap (λ (y : EndState). after_copy (items h x told answer) answer clock (heard h x told answer) (Meaning.Taken (position_of x) x.edge)
        (record m.end { tcp = y; receiving = record m.end.receiving { mappings = after_hold_mappings told m.end.receiving.mappings } })) (holds_is (is_nil (octets_of x.brings)))
        ∙ ap (λ (y : EndState). record (end_by h x told answer taken) { tcp = y })
        (owing_is (list_any wants_ack (items h x told answer)) (after_occupying (copy h x told answer)
        (after_telling (told_by (hint_of (items h x told answer)) (copy h x told answer)) taken)))
      where
        owing_is : (b : Bool) (y : EndState) → owing_if b y ≡ record y { due = (if b then owing_ack y.due else y.due) }
        owing_is true y = refl
        owing_is false y = refl

        holds_is : (b : Bool) → (if b then m.end.tcp else after_holding (position_of x) (octets_of x.brings) m.end.tcp)
            ≡ record m.end.tcp { recv = (if b then m.end.tcp.recv else after_hold (position_of x) (octets_of x.brings) m.end.tcp.recv) }
        holds_is true = refl
        holds_is false = refl

    -- ---- what is treated

    pub chain : (x.low ≤ x.low + length (octets_of x.brings)) × Chain (x.low + length (octets_of x.brings)) (map copy_in xs) h.back.granted
    chain = let all = subst (λ (cs : List Copy). Chain h.back.received cs h.back.granted)
        (w.datas_are ∙ ap (λ (ys : List Sent). map copy_in ys) sent) lane_back.under_way.chain in (subst (λ (n : ℕ). n ≤ x.low + length (octets_of x.brings)) (sym all.0) all.1, all.2)

    pub high_is : x.low + length (octets_of x.brings) ≤ h.back.granted
    high_is = chain_le (x.low + length (octets_of x.brings)) h.back.granted (map copy_in xs) chain.1

    module _ (brings : BringsAs j.total x.low x.edge x.brings)
        (between : IsBetween s (record { profile = c; out = h.out.sender; back = h.back.receiver; hand = h.hand; owes = h.owes; waiting = h.waiting; end = m.end }))
        (path : is_joined c ≡ false) (told_is : told ≡ held_of c s (heard h x told answer))
      where
        few_octets : x.low + length (octets_of x.brings) ≤ 2 ^ 62
        few_octets = up high_is lane_back.numbers.granted lane_back.numbers.written j_is.small
          where
            up : {a g v total : ℕ} → a ≤ g → g ≤ v → v ≤ total → total ≤ 16777216 → a ≤ 2 ^ 62
            up p q r z = omega (arith, p, q, r, z)

        small_total : j.total ≤ 2 ^ 62
        small_total = up j_is.small
          where
            up : {total : ℕ} → total ≤ 16777216 → total ≤ 2 ^ 62
            up z = omega (arith, z)

        short : length (octets_of x.brings) ≤ 1048576
        short = up high_is lane_back.numbers.fits lane_back.numbers.read low j_is.most
          where
            up : {l n g r received buffer : ℕ} → l + n ≤ g → g ≤ r + buffer → r ≤ received → l ≡ received → buffer ≤ 1048576 → n ≤ 1048576
            up p q r is z = omega (arith, p, q, r, is, z)

        key_sent : x.keys ≤ h.back.keys_sent
        key_sent = (lane_back.under_way.datas_are (copy_in x) (subst (λ (cs : List Copy). In (copy_in x) cs)
            (sym (w.datas_are ∙ ap (λ (ys : List Sent). map copy_in ys) sent)) (inl refl))).2

        -- A hears no keys in this way
        not_at_a : s ≡ A → 1 ≤ x.keys → ⊥
        not_at_a side one = low_none one key_sent (subst (λ (z : Side). h.back.keys_sent ≤ pick (peer z) h.back.ready 0) side h.other.modes.shown)
          where
            low_none : {a b : ℕ} → 1 ≤ a → a ≤ b → b ≤ 0 → ⊥
            low_none p q r = absurd (omega (arith, p, q, r))

        keyed : shows_keys x.brings ≡ true → s ≡ B
        keyed e = by s refl
          where
            by : (q : Side) → s ≡ q → s ≡ B
            by B is = is
            by A is = absurd (not_at_a is (keys_shown_by h.back.control_came h.back.keys_came x.control x.keys x.brings e counts))

        shows_b : s ≡ B → 1 ≤ x.keys
        shows_b is = shows (ap peer is) opens

        half : s ≡ B → is_connected m.end.tcp.state ≡ false → is_third x.brings ≡ true
        half side quiet = first_keys h.back.control_came h.back.keys_came x.control x.keys x.brings opens counts (h.own.subflow.quiet quiet).3 (shows_b side)

        whole : 1 ≤ m.end.tcp.send.una → is_third x.brings ≡ false
        whole una = not_true (is_third x.brings) (λ e. none_some (third_first h.back.control_came h.back.keys_came x.control x.keys x.brings e counts)
            (h.own.subflow.keyed (keyed (third_shows x.brings e)) una (ap brings_still none)))
          where
            none_some : {a : ℕ} → a ≡ 0 → 1 ≤ a → ⊥
            none_some p q = absurd (omega (arith, p, q))

        opened_is : is_half_open m.end.tcp.state ≡ is_third x.brings
        opened_is = opens_third s h.back.control_came m.end.tcp.send.una m.end.tcp.send.finished m.end.tcp.state (is_third x.brings) h.own.subflow.phase came half whole

        some_key : s ≡ B → is_third x.brings ≡ false → 1 ≤ h.out.clear
        some_key side other = up (later_keys h.back.control_came h.back.keys_came x.control x.keys x.brings opens other counts (shows_b side))
            (h.own.modes.both side).1 (h.own.modes.both side).0
          where
            up : {a r d : ℕ} → 1 ≤ a → a ≤ r → r ≡ d → 1 ≤ d
            up p q is = omega (arith, p, q, is)

        says : items h x told answer ≡ heard_by keys x.telling.next (window_told false x.window) x.brings
        says = says_are c keys x s x.brings opens keyed small (some_control came counts) few_octets j.total small_total brings h.back.control_came h.back.keys_came counts
          where
            some_control : 1 ≤ h.back.control_came → CountsAs h.back.control_came h.back.keys_came x.control x.keys x.brings → 1 ≤ x.control
            some_control p is = control_some h.back.control_came h.back.keys_came x.control x.keys x.brings opens is

        pos_is : position_of x ≡ m.end.tcp.recv.edge
        pos_is = at_edge x h.back.received h.back.control_came h.back.keys_came opens low counts ∙ sym h.own.subflow.come.edge

        recv_is : (end_by h x told answer taken).tcp.recv ≡ (if is_nil (octets_of x.brings) then m.end.tcp.recv else after_hold (position_of x) (octets_of x.brings) m.end.tcp.recv)
        recv_is = heed.recv

        edge_is : (end_by h x told answer taken).tcp.recv.edge ≡ m.end.tcp.recv.edge
        edge_is = ap (λ (r : Receiving). r.edge) recv_is ∙ edge_kept (is_nil (octets_of x.brings))

        -- a copy with a Data ACK, or one that acknowledges no data for the first time
        plain_ack : is_plain_ack (arrival_of (Meaning.Taken (position_of x) x.edge) (hint_of (items h x told answer)) (copy h x told answer) (holds h x told answer))
            (heard h x told answer) ≡ false
        plain_ack = by (shows_keys x.brings) refl
          where
            no_and : (a b : Bool) → b ≡ true → (a && not b) ≡ false
            no_and true b e = ap not e
            no_and false b e = refl

            by : (b : Bool) → shows_keys x.brings ≡ b → is_plain_ack (arrival_of (Meaning.Taken (position_of x) x.edge) (hint_of (items h x told answer)) (copy h x told answer) (holds h x told answer))
                (heard h x told answer) ≡ false
            by false e = no_and _ _ (acks_data c keys (peer s) x x.brings opens e)
            by true e = ap (λ (n : ℕ). nat_lt 0 n && not (list_any has_data_ack (heard h x told answer).options)) (none_acked (is_third x.brings) refl)
              where
                none_acked : (b : Bool) → is_third x.brings ≡ b
                    → octets_acked (if is_half_open m.end.tcp.state then Opened else Took (ack_kind x.edge m.end.tcp.send) 0 (is_subflow_end x.brings)) ≡ 0
                none_acked true third = ap (λ (y : Bool). octets_acked (if y then Opened else Took (ack_kind x.edge m.end.tcp.send) 0 (is_subflow_end x.brings))) (opened_is ∙ third)
                none_acked false other =
                    ap (λ (y : Bool). octets_acked (if y then Opened else Took (ack_kind x.edge m.end.tcp.send) 0 (is_subflow_end x.brings))) (opened_is ∙ other)
                    ∙ ap (λ (kind : AckKind). octets_acked (Took kind 0 (is_subflow_end x.brings))) (kind_same x.edge m.end.tcp.send
                    (same (one_edge x.brings e other brings) rise.0 (open_una s h.back.control_came m.end.tcp.send.una m.end.tcp.send.finished m.end.tcp.state h.own.subflow.phase came (opened_is ∙ other))) high)
                  where
                    same : {a b : ℕ} → a ≡ 1 → b ≤ a → 1 ≤ b → a ≡ b
                    same p q r = omega (arith, p, q, r)

                    one_edge : (b : Brings) → shows_keys b ≡ true → is_third b ≡ false → BringsAs j.total x.low x.edge b → x.edge ≡ 1
                    one_edge ShowsKeys e f is = is
                    one_edge (FirstPiece octets) e f is = is.0
                    one_edge _ e f is = absurd (both_ways false refl e)

        -- where a SYN or FIN is acknowledged for the first time, something new is
        rests_before : h.out.control_acked < x.telling.seen → (if fresh h x told answer then None else h.out.timer) ≡ None
        rests_before less = ap (λ (b : Bool). if b then None else h.out.timer) (lt-ltb m.end.tcp.send.una x.edge (newer (cases_lt m.end.tcp.send.una x.edge)))
          where
            two : {a b : ℕ} → 1 ≤ a → a < b → b ≤ 2 → b ≡ 2
            two p q r = omega (arith, p, q, r)

            last : {una edge seen : ℕ} (total : ℕ) → edge ≤ una → total + 2 ≤ edge → una ≤ 1 + total + (seen - 1) → 2 ≤ seen
            last total p q r = omega (arith, p, q, r)

            not_both : {a b : ℕ} → 2 ≤ a → a ≤ b → b < 2 → ⊥
            not_both p q r = absurd (omega (arith, p, q, r))

            up : {a b : ℕ} → a ≤ b → 1 ≤ a → 1 ≤ b
            up p q = omega (arith, p, q)

            some_edge : {a b : ℕ} → 1 ≤ a → a ≤ b → 1 ≤ b
            some_edge p q = omega (arith, p, q)

            seen_two : {a b : ℕ} → b ≡ 2 → a < b → a < 2
            seen_two p q = omega (arith, p, q)

            newer : (m.end.tcp.send.una < x.edge) ⊎ (x.edge ≤ m.end.tcp.send.una) → m.end.tcp.send.una < x.edge
            newer (inl some) = some
            newer (inr again) =
                let one = up h.own.subflow.ahead.seen (before.some (some_edge acknowledges.some again)) in
                let second = two one less seen in
                absurd (not_both (last k.total again (acknowledges.end second) before.most) h.own.subflow.ahead.seen (seen_two second less))

        pub count_is : length (items h x told answer) ≡ count_in x.brings
        count_is = ap (λ (ys : List Heard). length ys) says ∙ length_heard keys x.telling.next (window_told false x.window) x.brings

        pub treats : TreatsCopy s keys AtFirst false x.brings (record {
          profile = c;
          out = (rested_if (fresh h x told answer) h.out).sender;
          back = h.back.receiver;
          hand = in_hand x true true;
          owes = owes_after h x told answer;
          waiting = 0;
          end = end_by h x told answer taken;
        })
        treats = record {
          sent = x;
          brings = refl;
          hand = refl;
          kind = opens;
          some = λ e. some_bytes h.back.control_came h.back.keys_came x.control x.keys x.brings e counts;
          keyed = keyed;
          items = says;
          opened = opened_is;
          keys_told = refl;
          has_option = has_options c keys (peer s) x x.brings opens;
          fins = refl;
          asked = refl;
          plain_ack = plain_ack;
          held_edge = ap (λ (n : ℕ). edge_in_payload (Meaning.Taken (position_of x) x.edge) (octets_of x.brings) n) (edge_kept (is_nil (octets_of x.brings)))
              ∙ (held_at (position_of x) m.end.tcp.recv.edge x.edge (octets_of x.brings) pos_is
              ∙ ap (λ (n : ℕ). if is_nil (octets_of x.brings) then None else Some n) (sym edge_is));
          owes = ap (λ (ys : List Heard). list_any wants_ack ys || nat_lt 0 (occupied (copy h x told answer))) says
              ∙ owed_is c keys x s x.brings opens x.telling.next (window_told false x.window) h.back.control_came h.back.keys_came counts;
          came = came;
          una = heed.una;
          high = subst (λ (n : ℕ). x.edge ≤ n) (sym heed.next) high;
          rests = rests_before;
          waiting = refl;
          answered = between.answered;
          ready = between.ready;
          shown = between.shown;
          least = λ side. between.least side came;
          clear = (some_key, λ e. absurd (both_ways false refl e), λ e. absurd (both_ways false refl e));
          unkeyed = λ third e. (h.own.subflow.quiet (third_opens s h.back.control_came m.end.tcp.send.una m.end.tcp.send.finished m.end.tcp.state h.own.subflow.phase came (opened_is ∙ third))).1;
          places = ap (λ (r : Receiving). r.places) recv_is ∙ (places_kept (position_of x) (octets_of x.brings) m.end.tcp.recv ∙ between.idle.places);
          incoming = ap (λ (r : Receiving). r.incoming) recv_is
              ∙ incoming_is (position_of x) (octets_of x.brings) m.end.tcp.recv pos_is between.idle.places between.idle.incoming h.own.subflow.come.window short;
          fin = heed.fin_at
              ∙ (fin_is x.brings m.end.tcp.fin_at h.back.control_came h.back.received (position_of x) m.end.tcp.recv.edge between.idle.fin
              (λ e. fin_once h.back.control_came h.back.keys_came x.control x.keys x.brings e counts) pos_is
              ∙ ap (λ (n : ℕ). if is_subflow_end x.brings then Some n else (if nat_lt 1 h.back.control_came then Some (h.back.received + 1) else None)) (sym edge_is));
          maps = record {
            live = between.mapped.live;
            held = told_is ∙ held_are c keys x s x.brings opens keyed path (control_some h.back.control_came h.back.keys_came x.control x.keys x.brings opens counts) few_octets
                j.total h.back.control_came h.back.keys_came brings counts;
            tail = between.mapped.tail;
            beyond = λ p less. between.mapped.beyond p (subst (λ (n : ℕ). n ≤ p) edge_is less);
            no_fin = between.mapped.no_fin;
            forgotten = subst (λ (n : ℕ). m.end.receiving.mappings.forgotten ≤ n) (sym edge_is) between.mapped.forgotten;
          };
        }
