-- The SYN arrives at B, as B sees it: the end, and both lanes.
use Rattle.clean_finish.proofs.Words.{◌≡◌, refl, subst, ap, ◌∙◌, ℕ, ◌+◌, ◌-◌, ◌≤◌, min, max, true, false, Option, None, List, [], arith, Some, suc, zero, A, B}
use Rattle.clean_finish.proofs.Words.{KeptMapping, Outgoing, Listen, Meaning, meant, Duty, Profile, PathEnd, copy_judged, is_connected, Setting, Lane, repeats}
use Rattle.clean_finish.proofs.Words.{hears_data, next_row, Hand, EndIs, row_seen, IsToldEdge, Sent, Keys, copy_in, said, OpensSubflow, Same, Before, Facing}
use Rattle.clean_finish.proofs.Words.{Half, HalfOpen}

-- A's SYN with what varies of it
abbrev pub syn_at : (at low window edge least : ℕ) → Sent
syn_at at low window edge least = record {
  at = at;
  brings = OpensSubflow;
  low = low;
  control = 1;
  keys = 0;
  telling = record { next = 0; edge = least; seen = 0; dss = 0 };
  window = window;
  edge = edge;
}

module _ {keys : Keys} {k j : Setting} {c : Profile} {begun begun_back : Lane} {m n : Half} {clock until : ℕ} {ds : List Duty}
    (h : Facing B keys k j c begun begun_back m n clock until ds) (none : h.hand ≡ None) (none_came : h.back.control_came ≡ 0)
    (low : m.end.tcp.send.una ≡ 0) (listens : m.end.tcp.state ≡ Listen)
    (tick place window edge : ℕ) (at : place ≡ h.back.received) (unrowed : h.out.row ≡ 0)
  where
    abbrev pub x : Sent
    x = syn_at tick place window edge k.least

    abbrev pub hand_after : Option Hand
    hand_after = Some (record { sent = x; brings = false; tells = true })

    abbrev pub end_after : List KeptMapping → Outgoing → PathEnd
    end_after told answer = copy_judged false told answer B clock (meant (said c keys A x)) Meaning.Opens m.end

    came_one : {y : ℕ} → y ≡ 0 → max y 1 ≡ 1
    came_one is = omega (arith, is)

    max_none : (y : ℕ) → max y 0 ≡ y
    max_none y = omega arith

    row_on : {y row : ℕ} (n : ℕ) → y ≤ row → row ≡ 0 → y ≤ next_row n row
    row_on zero low is = omega (arith, low, is)
    row_on (suc n) low is = omega (arith, low, is)

    una_low : {y : ℕ} (total : ℕ) → y ≡ 0 → y ≤ 1 + total + (0 - 1)
    una_low total is = omega (arith, is)

    edge_on : {e received came place : ℕ} → e ≡ 1 + received + (came - 1) → place ≡ received → came ≡ 0 → e ≡ 1 + (place + 0) + (max came 1 - 1)
    edge_on is same none = omega (arith, is, same, none)

    sum_is : {y z : ℕ} → y ≡ z → z ≡ 0 → y + 0 ≡ 0
    sum_is a b = omega (arith, a, b)

    not_a : B ≡ A → ⊥
    not_a e = cc

    none_acked : {y : ℕ} → 1 ≤ y → y ≡ 0 → ⊥
    none_acked one is = absurd (omega (arith, one, is))

    zero_max : {y : ℕ} → y ≡ 0 → max y 0 ≡ 0
    zero_max is = omega (arith, is)

    ready_on : {ready came : ℕ} → ready ≤ min 1 came → came ≡ 0 → ready ≤ min 1 (max came 1)
    ready_on few none = omega (arith, few, none)

    keys_on : {y z : ℕ} → y ≤ z → max y 0 ≤ z
    keys_on low = omega (arith, low)

    told_on : {e : ℕ} → IsToldEdge B j h.owes h.back.receiver e → IsToldEdge B j h.owes (hears_data (copy_in x) [] h.back).receiver e
    told_on (Same same) = Same same
    told_on (Before side received least full) = absurd (not_b side)
      where
        not_b : B ≡ A → ⊥
        not_b e = cc

    begun_on : {came : ℕ} (sent : ℕ) → min 1 sent ≤ came → came ≡ 0 → min 1 sent ≤ max came 1
    begun_on sent low is = omega (arith, low, is)

    pub heard_own : (told : List KeptMapping) (answer : Outgoing)
        → EndIs B keys k j h.out.sender (hears_data (copy_in x) [] h.back).receiver hand_after h.owes h.waiting (end_after told answer)
    heard_own told answer = record {
      subflow = record {
        phase = HalfOpen refl (came_one none_came) low refl;
        opens = h.own.subflow.opens;
        records = record {
          sent = h.own.subflow.records.sent;
          rest = h.own.subflow.records.rest;
          all = h.own.subflow.records.all;
          gone = h.own.subflow.records.gone;
          waits = h.own.subflow.records.waits;
          pieces = h.own.subflow.records.pieces;
          tile = h.own.subflow.records.tile;
          next = h.own.subflow.records.next;
          finished = h.own.subflow.records.finished;
          control = h.own.subflow.records.control;
          fits = h.own.subflow.records.fits;
        };
        ahead = record {
          bytes = h.own.subflow.ahead.bytes;
          opened = h.own.subflow.ahead.opened;
          finished = h.own.subflow.ahead.finished;
          seen = h.own.subflow.ahead.seen;
        };
        congestion = record {
          window = h.own.subflow.congestion.window;
          most = h.own.subflow.congestion.most;
          steady = h.own.subflow.congestion.steady;
          row = row_on (repeats h.out.heard (copy_in x)) (subst (λ (o : Option Hand). m.end.tcp.congestion.duplicates ≤ row_seen h.out.sender o) none h.own.subflow.congestion.row) unrowed;
        };
        come = record { edge = edge_on h.own.subflow.come.edge at none_came; window = h.own.subflow.come.window };
        heard = record { told = tt; most = una_low k.total low; end = λ e. absurd (omega (arith, e)); few = omega arith; some = λ some_una. absurd (none_acked some_una low) };
        quiet = λ e. (
          sum_is at (h.own.subflow.quiet (ap is_connected listens)).0,
          (h.own.subflow.quiet (ap is_connected listens)).1,
          zero_max (h.own.subflow.quiet (ap is_connected listens)).2,
          zero_max (h.own.subflow.quiet (ap is_connected listens)).3,
        );
        begun = λ is. begun_on h.out.control_sent (h.own.subflow.begun is) none_came;
        keyed = λ is one still. absurd (none_acked one low);
        long = h.own.subflow.long;
        due = h.own.subflow.due;
      };
      sending = record {
        heard = h.own.sending.heard;
        known = h.own.sending.known;
        data_fin = h.own.sending.data_fin;
        acked = h.own.sending.acked;
        came = max_none h.back.data_fin_came ∙ h.own.sending.came;
        shut = h.own.sending.shut;
        granted = h.own.sending.granted;
        spans = h.own.sending.spans;
        bytes = h.own.sending.bytes;
        end = h.own.sending.end;
        acked_end = h.own.sending.acked_end;
        finish = h.own.sending.finish;
      };
      receiving = record {
        next = h.own.receiving.next;
        limit = h.own.receiving.limit;
        told = told_on h.own.receiving.told;
        least = h.own.receiving.least;
        unmapped = h.own.receiving.unmapped;
        fin_told = h.own.receiving.fin_told;
        said = h.own.receiving.said;
        unended = λ is. absurd (not_a is);
        unheard = λ is. absurd (not_a is);
      };
      modes = record {
        mode = h.own.modes.mode;
        standby = h.own.modes.standby;
        mapping = h.own.modes.mapping;
        owes_third = h.own.modes.owes_third;
        owes_mapping = h.own.modes.owes_mapping;
        mapped_to = h.own.modes.mapped_to;
        plain_acks = h.own.modes.plain_acks;
        own_key = h.own.modes.own_key;
        peer_key = h.own.modes.peer_key;
        clear = h.own.modes.clear;
        capable = λ is came. refl;
        ready = ready_on h.own.modes.ready none_came;
        cleared = h.own.modes.cleared;
        both = λ is. ((h.own.modes.both is).0, keys_on (h.own.modes.both is).1);
        shown = h.own.modes.shown;
      };
      timer = h.own.timer;
      notices = h.own.notices;
    }
