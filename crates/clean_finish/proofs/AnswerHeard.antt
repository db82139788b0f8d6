-- The SYN/ACK arrives at A: the end.
use Rattle.clean_finish.proofs.Words.{◌≡◌, refl, sym, ap, ◌∙◌, ℕ, ◌+◌, ◌-◌, ◌<◌, ◌≤◌, min, max, nat_lt, true, false, not, inr, Option, List, [], arith, Some}
use Rattle.clean_finish.proofs.Words.{both_ways, and_parts, All-weaker, A, B, KeptMapping, newly_acknowledged, sample_of, timing_heard, measured, rtt_told}
use Rattle.clean_finish.proofs.Words.{EndState, after_hearing, after_payload, after_new_ack, after_acknowledgement, after_telling, after_occupying, told_by_syn}
use Rattle.clean_finish.proofs.Words.{is_fin_acked, acknowledged_grows, Outgoing, Established, Meaning, SubflowCopy, Due, meant, HeardSegment, Duty, Profile}
use Rattle.clean_finish.proofs.Words.{PathEnd, copy_of, copy_judged, treated_of, with_held, hint_of, items_of, Setting, Lane, hears_data, rested, Hand, EndIs}
use Rattle.clean_finish.proofs.Words.{IsGranted, row_seen, IsOpen, IsToldEdge, Sent, Keys, copy_in, said, OpensSubflow, Same, Before, Facing, Half, Open}
use Rattle.clean_finish.proofs.AckNew.{acked_to, new_ack, records_acked, row_ends, window_on, open_acked}
use Rattle.clean_finish.proofs.Machine.{stays_long}
use Rattle.clean_finish.proofs.Spans.{spans_for}

-- B's SYN with what varies of it
abbrev pub answer_at : (at low window edge least : ℕ) → Sent
answer_at at low window edge least = record {
  at = at;
  brings = OpensSubflow;
  low = low;
  control = 1;
  keys = 0;
  telling = record { next = 0; edge = least; seen = 1; dss = 0 };
  window = window;
  edge = edge;
}

module _ {keys : Keys} {k j : Setting} {c : Profile} {begun begun_back : Lane} {m n : Half} {clock until : ℕ} {ds : List Duty}
    (h : Facing A keys k j c begun begun_back m n clock until ds) (none_came : h.back.control_came ≡ 0)
    (low : m.end.tcp.send.una ≡ 0) (sent_one : h.out.control_sent ≡ 1) (nothing_waits : h.waiting ≡ 0)
    (tick place window edge : ℕ) (at : place ≡ h.back.received) (some : 1 ≤ edge) (one_edge : edge ≤ 1) (most_edge : edge ≤ m.end.tcp.send.nxt)
    (told : List KeptMapping) (answer : Outgoing)
  where
    sent_some : 1 ≤ h.out.control_sent
    sent_some = one sent_one
      where
        one : {y : ℕ} → y ≡ 1 → 1 ≤ y
        one is = omega (arith, is)

    unfinished : true ≡ not m.end.tcp.send.finished
    unfinished = ap not (sym (h.own.subflow.records.finished ∙ ap (λ (y : ℕ). nat_lt 1 y) sent_one))

    abbrev pub x : Sent
    x = answer_at tick place window edge k.least

    abbrev pub hand_after : Option Hand
    hand_after = Some (record { sent = x; brings = false; tells = true })

    abbrev pub heard : HeardSegment
    heard = meant (said c keys B x)

    abbrev pub copy : SubflowCopy
    copy = copy_of heard

    -- as it is established, before the acknowledgement
    abbrev pub opened : EndState
    opened = record (after_hearing (after_payload 1 (hint_of (items_of false A heard)) copy m.end.tcp)) { state = Established }

    abbrev pub octets : ℕ
    octets = newly_acknowledged edge opened.send

    abbrev pub since : Option ℕ
    since = sample_of edge opened.send

    abbrev pub rtt : ℕ
    rtt = rtt_told (measured since clock (timing_heard m.end.tcp.timing))

    abbrev pub acked : EndState
    acked = after_new_ack octets since clock (acked_to edge opened)

    abbrev pub tcp_after : EndState → EndState
    tcp_after s = after_occupying copy (after_telling (told_by_syn copy) s)

    -- with what the acknowledgement makes of the subflow
    abbrev pub end_by : EndState → PathEnd
    end_by s = record (with_held told heard (Meaning.Accepts edge) m.end) {
      tcp = tcp_after s;
      treated = treated_of (items_of false A heard) (Meaning.Accepts edge) heard answer m.end.tcp;
    }

    abbrev pub end_after : PathEnd
    end_after = end_by acked

    pub above : {y z : ℕ} → y ≡ 0 → 1 ≤ z → y < z
    above is one = omega (arith, is, one)

    -- the acknowledgement leaves this end
    pub acked_is : after_acknowledgement edge clock opened ≡ acked
    acked_is = new_ack edge clock opened (above low some) most_edge

    pub judged_is : copy_judged false told answer A clock heard (Meaning.Accepts edge) m.end ≡ end_by (after_acknowledgement edge clock opened)
    judged_is = refl

    pub came_some : {y : ℕ} → y ≡ 0 → 1 ≤ max y 1
    came_some is = omega (arith, is)

    pub max_none : (y : ℕ) → max y 0 ≡ y
    max_none y = omega arith

    pub not_b : A ≡ B → ⊥
    not_b e = cc

    pub zero_low : {y : ℕ} (z : ℕ) → y ≡ 0 → y ≤ z
    zero_low z is = omega (arith, is)

    pub bytes_on : {y una : ℕ} → una ≡ 0 → y ≤ una - 1 → y ≤ edge - 1
    bytes_on is less = omega (arith, is, less)

    pub opened_on : {y una : ℕ} → una ≡ 0 → y ≤ una → y ≤ edge
    opened_on is less = omega (arith, is, less)

    pub not_next : {una nxt : ℕ} → una ≡ 0 → una ≡ nxt → 1 ≤ edge → edge ≤ nxt → ⊥
    not_next is same one most = absurd (omega (arith, is, same, one, most))

    pub una_low : {y : ℕ} (total : ℕ) → y ≤ 1 → y ≤ 1 + total + (1 - 1)
    una_low total less = omega (arith, less)

    pub edge_on : {e received came place : ℕ} → e ≡ 1 + received + (came - 1) → place ≡ received → came ≡ 0 → e ≡ 1 + (place + 0) + (max came 1 - 1)
    edge_on is same none = omega (arith, is, same, none)

    pub within : {to waiting : ℕ} (granted : ℕ) → waiting ≡ 0 → to ≤ granted + waiting → to ≤ granted + 0
    within granted none less = omega (arith, none, less)

    pub bytes_some : {waiting : ℕ} (granted : ℕ) → waiting ≡ 0 → 1 ≤ granted + 0 → 1 ≤ granted + waiting
    bytes_some granted none less = omega (arith, none, less)

    pub one_most : {y : ℕ} → y ≡ 0 → max y 1 ≤ 1
    one_most is = omega (arith, is)

    pub zero_max : {y : ℕ} → y ≡ 0 → max y 0 ≡ 0
    zero_max is = omega (arith, is)

    pub ready_on : {ready came : ℕ} → ready ≤ min 1 came → came ≡ 0 → ready ≤ min 1 (max came 1)
    ready_on few none = omega (arith, few, none)

    pub plus_zero : {y z : ℕ} → y ≡ z → z ≡ 0 → y + 0 ≡ 0
    plus_zero a b = omega (arith, a, b)

    pub told_on : {e : ℕ} → IsToldEdge A j h.owes h.back.receiver e → IsToldEdge A j true (hears_data (copy_in x) [] h.back).receiver e
    told_on (Same same) = Same same
    told_on (Before side received least full) = Before side (inr refl) least full

    pub open_is : IsOpen m.end.tcp.send.finished (tcp_after acked).state
    open_is = open_acked m.end.tcp.send.finished (is_fin_acked (acked_to edge opened).send) Established
        (λ is. (and_parts m.end.tcp.send.finished _ is).0)
        (record { finish = unfinished; closed = refl; half = refl; opening = refl; connected = refl })

    pub grown : (k.payload + h.out.window ≤ (tcp_after acked).congestion.reno.window) × ((tcp_after acked).congestion.reno.window ≤ 1048576)
        × ((tcp_after acked).congestion.reno.in_fast_recovery ≡ false)
    grown =
        let grows = acknowledged_grows octets rtt m.end.tcp.congestion h.own.subflow.congestion.most h.own.subflow.congestion.steady in (
          window_on k.payload h.out.window octets rtt m.end.tcp.congestion h.own.subflow.congestion.window h.own.subflow.congestion.most
              h.own.subflow.congestion.steady,
          grows.cap,
          grows.calm,
        )

    pub heard_own : EndIs A keys k j (rested h.out).sender (hears_data (copy_in x) [] h.back).receiver hand_after true 0 end_after
    heard_own = record {
      subflow = record {
        phase = Open (came_some none_came) some (open_is);
        opens = h.own.subflow.opens;
        records = records_acked k h.out.sender (rested h.out).sender h.waiting edge m.end.tcp (tcp_after acked) h.own.subflow.records nothing_waits sent_some
            (above low some) most_edge refl refl refl;
        ahead = record {
          bytes = bytes_on low h.own.subflow.ahead.bytes;
          opened = opened_on low h.own.subflow.ahead.opened;
          finished = λ e. absurd (not_next low (h.own.subflow.ahead.finished e) some most_edge);
          seen = h.own.subflow.ahead.seen;
        };
        congestion = record {
          window = grown.0;
          most = grown.1;
          steady = grown.2;
          row = zero_low (row_seen h.out.sender hand_after) (row_ends octets rtt m.end.tcp.congestion);
        };
        come = record { edge = edge_on h.own.subflow.come.edge at none_came; window = h.own.subflow.come.window };
        heard = record { told = tt; most = una_low k.total one_edge; end = λ e. absurd (omega (arith, e)); few = omega arith; some = λ e. omega arith };
        quiet = λ e. absurd (both_ways _ e open_is.connected);
        begun = λ is. absurd (not_b is);
        keyed = λ is. absurd (not_b is);
        long = stays_long.measured since clock (timing_heard m.end.tcp.timing) (stays_long.heard m.end.tcp.timing h.own.subflow.long);
        due = ap (λ (d : Due). record d { ack = true }) h.own.subflow.due;
      };
      sending = record {
        heard = h.own.sending.heard;
        known = h.own.sending.known;
        data_fin = h.own.sending.data_fin;
        acked = h.own.sending.acked;
        came = max_none h.back.data_fin_came ∙ h.own.sending.came;
        shut = (λ e. h.own.sending.shut.0 nothing_waits, λ some. absurd (omega (arith, some)));
        granted = All-weaker (IsGranted h.out.sender h.waiting) (IsGranted (rested h.out).sender 0)
            (λ span is. record { waits = is.waits; within = within h.out.granted nothing_waits is.within }) m.end.sending.granted h.own.sending.granted;
        spans = spans_for m.end.sending.granted h.out.acked h.out.granted h.waiting h.out.granted refl nothing_waits h.own.sending.spans;
        bytes = λ some_bytes. h.own.sending.bytes (bytes_some h.out.granted nothing_waits some_bytes);
        end = h.own.sending.end;
        acked_end = h.own.sending.acked_end;
        finish = h.own.sending.finish;
      };
      receiving = record {
        next = h.own.receiving.next;
        limit = h.own.receiving.limit;
        told = told_on h.own.receiving.told;
        least = h.own.receiving.least;
        unmapped = h.own.receiving.unmapped;
        fin_told = h.own.receiving.fin_told;
        said = h.own.receiving.said;
        unended = λ is clear. one_most none_came;
        unheard = λ is clear. (plus_zero at (h.own.receiving.unheard is clear).0, zero_max (h.own.receiving.unheard is clear).1, (h.own.receiving.unheard is clear).2);
      };
      modes = record {
        mode = h.own.modes.mode;
        standby = h.own.modes.standby;
        mapping = h.own.modes.mapping;
        owes_third = h.own.modes.owes_third;
        owes_mapping = h.own.modes.owes_mapping;
        mapped_to = h.own.modes.mapped_to;
        plain_acks = h.own.modes.plain_acks;
        own_key = h.own.modes.own_key;
        peer_key = h.own.modes.peer_key;
        clear = h.own.modes.clear;
        capable = λ is. absurd (not_b is);
        ready = ready_on h.own.modes.ready none_came;
        cleared = h.own.modes.cleared;
        both = λ is. absurd (not_b is);
        shown = h.own.modes.shown;
      };
      timer = refl;
      notices = h.own.notices;
    }
