-- A copy that is taken arrives at an end that had nothing in hand: the end.
use Rattle.clean_finish.proofs.Words.{◌≡◌, refl, sym, subst, ap, ◌∙◌, ℕ, ◌+◌, ◌-◌, ◌≤◌, min, nat_lt, Bool, true, false, ◌||◌, if◌then◌else◌, inl, inr, None}
use Rattle.clean_finish.proofs.Words.{List, arith, IfSome, both_ways, ltb-false, ltb-true, All-weaker, list_any, Side, peer, KeptMapping, Receiving, after_hold}
use Rattle.clean_finish.proofs.Words.{timing_heard, EndState, after_hearing, after_payload, after_telling, after_occupying, after_established, Outgoing}
use Rattle.clean_finish.proofs.Words.{Meaning, SubflowCopy, occupied, Due, nothing_due, owing_ack, meant, HeardSegment, Duty, place_in_first, wants_ack, Heard}
use Rattle.clean_finish.proofs.Words.{is_nil, Profile, PathEnd, copy_of, treated_of, with_held, hint_of, items_of, Setting, Lane, seen_timer, EndIs, IsGranted}
use Rattle.clean_finish.proofs.Words.{IsToldEdge, Sent, Keys, octets_of, position_of, AcknowledgesAs, said, dss_from, Same, Before, Facing, Half, Open}
use Rattle.loss_recovery.specs.declared.timers.Timing.{Timing}
use Rattle.subflow_tcp.specs.declared.spelling.Numbers.{Numbers}
use Rattle.subflow_tcp.specs.Taking.{told_by}
use Rattle.clean_finish.proofs.CopyHeeded.{Heeds}
use Rattle.clean_finish.proofs.Hands.{in_hand}
use Rattle.clean_finish.proofs.Spans.{spans_for}

-- the timer rests where something new is acknowledged
abbrev pub rested_if : Bool → Lane → Lane
rested_if fresh w = record w { sender = record w.sender { timer = (if fresh then None else w.timer) } }

module _ {s : Side} {keys : Keys} {k j : Setting} {c : Profile} {begun begun_back : Lane} {m n : Half} {clock until : ℕ} {ds : List Duty}
    (h : Facing s keys k j c begun begun_back m n clock until ds) (x : Sent) (told : List KeptMapping) (answer : Outgoing)
  where
    abbrev pub payload : List ℕ
    payload = octets_of x.brings

    abbrev pub heard : HeardSegment
    heard = meant (said c keys (peer s) x)

    abbrev pub copy : SubflowCopy
    copy = copy_of heard

    abbrev pub items : List Heard
    items = items_of false s heard

    -- with its payload held
    abbrev pub holds : EndState
    holds = record m.end.tcp { recv = (if is_nil payload then m.end.tcp.recv else after_hold (position_of x) payload m.end.tcp.recv) }

    -- before the acknowledgement
    abbrev pub held : EndState
    held = after_established (after_hearing (after_payload (position_of x) (hint_of items) copy holds))

    abbrev pub owes_after : Bool
    owes_after = list_any wants_ack items || nat_lt 0 (occupied copy)

    abbrev pub tcp_after : EndState → EndState
    tcp_after y = record (after_occupying copy (after_telling (told_by (hint_of items) copy) y)) {
      due = (if list_any wants_ack items then owing_ack (after_occupying copy y).due else (after_occupying copy y).due);
    }

    -- with what the acknowledgement makes of the subflow
    abbrev pub end_by : EndState → PathEnd
    end_by y = record (with_held told heard (Meaning.Taken (position_of x) x.edge) m.end) {
      tcp = tcp_after y;
      treated = treated_of items (Meaning.Taken (position_of x) x.edge) heard answer holds;
    }

    abbrev pub fresh : Bool
    fresh = nat_lt m.end.tcp.send.una x.edge

    abbrev pub out_after : Lane
    out_after = rested_if fresh h.out

    module _ (y : EndState) (heed : Heeds k h.out.sender out_after.sender x held y) (none : h.hand ≡ None) (unowed : h.owes ≡ false)
        (came : 1 ≤ h.back.control_came) (waiting : h.waiting ≡ 0) (some : 1 ≤ x.edge) (low : m.end.tcp.send.una ≤ x.edge) (high : x.edge ≤ m.end.tcp.send.nxt)
        (acknowledges : AcknowledgesAs k.total x) (seen : x.telling.seen ≤ 2) (tells_some : 1 ≤ x.telling.seen)
        (tells : IfSome (place_in_first items)
        (λ n. (x.telling.next ≡ n) × (x.telling.edge ≡ n + copy.window) × (1 ≤ x.telling.seen) × (x.telling.dss ≡ dss_from (peer s))))
      where
        up : {a b d : ℕ} → a ≤ b → b ≤ d → a ≤ d
        up p q = omega (arith, p, q)

        bytes_on : {a una edge : ℕ} → a ≤ una - 1 → una ≤ edge → a ≤ edge - 1
        bytes_on p q = omega (arith, p, q)

        between : {una edge nxt : ℕ} → una ≤ edge → edge ≤ nxt → una ≡ nxt → edge ≡ nxt
        between p q is = omega (arith, p, q, is)

        within : {to waits : ℕ} (granted : ℕ) → waits ≡ 0 → to ≤ granted + waits → to ≤ granted + 0
        within granted is less = omega (arith, is, less)

        bytes_some : {waits : ℕ} (granted : ℕ) → waits ≡ 0 → 1 ≤ granted + 0 → 1 ≤ granted + waits
        bytes_some granted is less = omega (arith, is, less)

        edge_kept : (b : Bool) → (if b then m.end.tcp.recv else after_hold (position_of x) payload m.end.tcp.recv).edge ≡ m.end.tcp.recv.edge
        edge_kept true = refl
        edge_kept false = refl

        window_kept : (b : Bool) → (if b then m.end.tcp.recv else after_hold (position_of x) payload m.end.tcp.recv).window ≡ m.end.tcp.recv.window
        window_kept true = refl
        window_kept false = refl

        told_on : {e : ℕ} → IsToldEdge s j h.owes h.back.receiver e → IsToldEdge s j owes_after h.back.receiver e
        told_on (Same same) = Same same
        told_on (Before side (inl received) least full) = Before side (inl received) least full
        told_on (Before side (inr owed) least full) = absurd (both_ways _ unowed owed)

        -- the end owes an acknowledgement for what occupies a position, and for what wants one
        due_is : y.due ≡ held.due → (tcp_after y).due ≡ record nothing_due { ack = owes_after }
        due_is same = by (list_any wants_ack items) (nat_lt 0 (occupied copy))
            (same ∙ (h.own.subflow.due ∙ ap (λ (b : Bool). record nothing_due { ack = b }) unowed))
          where
            by : (wants occupies : Bool) {d : Due} → d ≡ record nothing_due { ack = false }
                → (if wants then record (if occupies then record d { ack = true } else d) { ack = true } else (if occupies then record d { ack = true } else d))
                ≡ record nothing_due { ack = wants || occupies }
            by true true e = ap (λ (d : Due). record d { ack = true }) e
            by true false e = ap (λ (d : Due). record d { ack = true }) e
            by false true e = ap (λ (d : Due). record d { ack = true }) e
            by false false e = e

        timer_is : (if fresh then None else h.out.timer) ≡ seen_timer (y.timing.news || m.end.sending.news) y.timing.timer
        timer_is = by fresh refl
          where
            by : (b : Bool) → fresh ≡ b → (if b then None else h.out.timer) ≡ seen_timer (y.timing.news || m.end.sending.news) y.timing.timer
            by true e = sym (ap (λ (b : Bool). seen_timer (b || m.end.sending.news) y.timing.timer) (heed.news (ltb-true _ _ e)))
            by false e =
                let timing : y.timing ≡ timing_heard m.end.tcp.timing =
                heed.rest (same low (ltb-false _ _ e)) in
                h.own.timer ∙ sym (ap (λ (t : Timing). seen_timer (t.news || m.end.sending.news) t.timer) timing)
              where
                same : {a b : ℕ} → a ≤ b → b ≤ a → b ≡ a
                same p q = omega (arith, p, q)

        pub taken_own : EndIs s keys k j out_after.sender h.back.receiver (in_hand x true true) owes_after 0 (end_by y)
        taken_own = record {
          subflow = record {
            phase = Open came (subst (λ (n : ℕ). 1 ≤ n) (sym heed.una) some) heed.stands;
            opens = ap (λ (y : Numbers). y.opens) heed.numbers ∙ h.own.subflow.opens;
            records = record {
              sent = heed.records.sent;
              rest = heed.records.rest;
              all = heed.records.all;
              gone = heed.records.gone;
              waits = heed.records.waits;
              pieces = heed.records.pieces;
              tile = heed.records.tile;
              next = heed.records.next;
              finished = heed.records.finished;
              control = heed.records.control;
              fits = omega arith;
            };
            ahead = record {
              bytes = subst (λ (n : ℕ). min h.out.acked k.total ≤ n - 1) (sym heed.una) (bytes_on h.own.subflow.ahead.bytes low);
              opened = subst (λ (n : ℕ). min 1 h.out.control_acked ≤ n) (sym heed.una) (up h.own.subflow.ahead.opened low);
              finished = λ e. heed.una ∙ (between low high (h.own.subflow.ahead.finished e) ∙ sym heed.next);
              seen = h.own.subflow.ahead.seen;
            };
            congestion = record { window = heed.window; most = heed.most; steady = heed.steady; row = heed.row };
            come = record {
              edge = ap (λ (y : Receiving). y.edge) heed.recv ∙ (edge_kept (is_nil payload) ∙ h.own.subflow.come.edge);
              window = ap (λ (y : Receiving). y.window) heed.recv ∙ (window_kept (is_nil payload) ∙ h.own.subflow.come.window);
            };
            heard = record {
              told = tells;
              most = subst (λ (n : ℕ). n ≤ 1 + k.total + (x.telling.seen - 1)) (sym heed.una) acknowledges.most;
              end = λ e. subst (λ (n : ℕ). k.total + 2 ≤ n) (sym heed.una) (acknowledges.end e);
              few = seen;
              some = λ e. tells_some;
            };
            quiet = λ e. absurd (both_ways _ e heed.stands.connected);
            begun = h.own.subflow.begun;
            keyed = λ is one b. absurd (both_ways true b refl);
            long = heed.long;
            due = due_is heed.due;
          };
          sending = record {
            heard = h.own.sending.heard;
            known = h.own.sending.known;
            data_fin = h.own.sending.data_fin;
            acked = h.own.sending.acked;
            came = h.own.sending.came;
            shut = (λ e. h.own.sending.shut.0 waiting, λ some. absurd (omega (arith, some)));
            granted = All-weaker (IsGranted h.out.sender h.waiting) (IsGranted out_after.sender 0)
                (λ span is. record { waits = is.waits; within = within h.out.granted waiting is.within }) m.end.sending.granted h.own.sending.granted;
            spans = spans_for m.end.sending.granted h.out.acked h.out.granted h.waiting h.out.granted refl waiting h.own.sending.spans;
            bytes = λ one. h.own.sending.bytes (bytes_some h.out.granted waiting one);
            end = h.own.sending.end;
            acked_end = h.own.sending.acked_end;
            finish = h.own.sending.finish;
          };
          receiving = record {
            next = h.own.receiving.next;
            limit = h.own.receiving.limit;
            told = told_on h.own.receiving.told;
            least = h.own.receiving.least;
            unmapped = h.own.receiving.unmapped;
            fin_told = h.own.receiving.fin_told;
            said = h.own.receiving.said;
            unended = h.own.receiving.unended;
            unheard = h.own.receiving.unheard;
          };
          modes = record {
            mode = h.own.modes.mode;
            standby = h.own.modes.standby;
            mapping = h.own.modes.mapping;
            owes_third = h.own.modes.owes_third;
            owes_mapping = h.own.modes.owes_mapping;
            mapped_to = h.own.modes.mapped_to;
            plain_acks = h.own.modes.plain_acks;
            own_key = h.own.modes.own_key;
            peer_key = h.own.modes.peer_key;
            clear = h.own.modes.clear;
            capable = h.own.modes.capable;
            ready = h.own.modes.ready;
            cleared = h.own.modes.cleared;
            both = h.own.modes.both;
            shown = h.own.modes.shown;
          };
          timer = timer_is;
          notices = h.own.notices;
        }
