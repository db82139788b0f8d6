-- The receive edge moves over the FIN of the peer.
use Rattle.clean_finish.proofs.Words.{◌≡◌, refl, sym, subst, ap, ◌∙◌, ℕ, ◌+◌, ◌-◌, ◌<◌, ◌≤◌, min, max, Bool, true, false, ◌⊎◌, inl, inr, Option, List, ◌∷◌}
use Rattle.clean_finish.proofs.Words.{◌++◌, length, arith, both_ways, Side, B, peer, after_pass, State, after_fin_passed, Duty, SendDuty, StepDuty, AskDuty}
use Rattle.clean_finish.proofs.Words.{SilentDuty, Profile, PathEnd, Setting, Lane, Hand, EndIs, HeardIs, last_told, row_seen, brings_in, IsOpen, IsToldEdge}
use Rattle.clean_finish.proofs.Words.{Sent, Keys, Brings, octets_of, CountsAs, Follow, data_fin_of, EndsSubflow, Same, Before, Facing, Half, Has, end_known}
use Rattle.clean_finish.proofs.Words.{ReaderIs, ReaderShows, Open, ReceiverIs}
use Rattle.clean_finish.specs.Segments.{is_opening}
use Rattle.clean_finish.proofs.Brought.{back_after, brought, end_after}
use Rattle.clean_finish.proofs.Hands.{in_hand}

-- both SYNs stay acknowledged
pub open_passed : (finished : Bool) (state : State) → IsOpen finished state → IsOpen finished (after_fin_passed state)
open_passed finished State.Established is = record { finish = is.finish; closed = refl; half = refl; opening = refl; connected = refl }
open_passed finished State.FinWait1 is = record { finish = is.finish; closed = refl; half = refl; opening = refl; connected = refl }
open_passed finished State.FinWait2 is = record { finish = is.finish; closed = refl; half = refl; opening = refl; connected = refl }
open_passed finished _ is = is

module _ {s : Side} {keys : Keys} {k j : Setting} {c : Profile} {begun begun_back : Lane} {m n : Half} {clock until : ℕ} {ds : List Duty}
    (h : Facing s keys k j c begun begun_back m n clock until (Duty.Silent (SilentDuty.PassFin s) ∷ ds)) (x : Sent) (hand : h.hand ≡ in_hand x true false)
    (brings : x.brings ≡ EndsSubflow)
  where
    pub follow : Follow k.least k.total j.total (peer s) h.back.received h.back.control_came h.back.keys_came (x ∷ h.way_back.sent)
    follow = subst (λ (o : Option Hand). Follow k.least k.total j.total (peer s) h.back.received h.back.control_came h.back.keys_came (brings_in o ++ h.way_back.sent))
        hand h.way_back.follow

    pub counts : (h.back.control_came ≡ 1) × (x.control ≡ 2) × (x.keys ≡ h.back.keys_came)
    counts = subst (λ (b : Brings). CountsAs h.back.control_came h.back.keys_came x.control x.keys b) brings follow.1

    pub none : length (octets_of x.brings) ≡ 0
    none = ap (λ (b : Brings). length (octets_of b)) brings

    pub none_fin : data_fin_of x.brings ≡ 0
    none_fin = ap data_fin_of brings

    abbrev pub back_now : Lane
    back_now = back_after h refl x false hand

    pub received : back_now.received ≡ h.back.received
    received = sum follow.0 none
      where
        sum : {a b r : ℕ} → a ≡ r → b ≡ 0 → a + b ≡ r
        sum p q = omega (arith, p, q)

    pub data_fin : back_now.data_fin_came ≡ h.back.data_fin_came
    data_fin = same none_fin
      where
        same : {a b : ℕ} → b ≡ 0 → max a b ≡ a
        same is = omega (arith, is)

    abbrev pub end_now : PathEnd
    end_now = end_after h refl x false hand (after_pass m.end.tcp.recv) (after_fin_passed m.end.tcp.state) m.end.sending
        m.end.receiving m.end.modes m.end.treated m.arrived

    module _ (una : 1 ≤ m.end.tcp.send.una) (came : 1 ≤ h.back.control_came) (clear : 1 ≤ h.out.clear) (is_open : IsOpen m.end.tcp.send.finished m.end.tcp.state) where
      open_now : IsOpen m.end.tcp.send.finished (after_fin_passed m.end.tcp.state)
      open_now = open_passed m.end.tcp.send.finished m.end.tcp.state is_open

      up : {a b d : ℕ} → a ≤ b → b ≤ d → a ≤ d
      up p q = omega (arith, p, q)

      less_max : (a b : ℕ) → a ≤ max a b
      less_max a b = omega arith

      some_max : {a : ℕ} (b : ℕ) → 1 ≤ a → 1 ≤ max a b
      some_max b p = omega (arith, p)

      min_max : {r : ℕ} (a b : ℕ) → r ≤ min 1 a → r ≤ min 1 (max a b)
      min_max a b p = omega (arith, p)

      max_none : {a b : ℕ} → b ≡ 0 → max a b ≡ a
      max_none is = omega (arith, is)

      not_clear : {a : ℕ} → 1 ≤ a → a ≡ 0 → ⊥
      not_clear p q = absurd (omega (arith, p, q))

      edge_is : {e r a b now : ℕ} → e ≡ 1 + r + (a - 1) → now ≡ r → a ≡ 1 → b ≡ 2 → e + 1 ≡ 1 + now + (max a b - 1)
      edge_is at same p q = omega (arith, at, same, p, q)

      keys_low : {r : ℕ} → h.back.keys_came ≤ r → max h.back.keys_came x.keys ≤ r
      keys_low less = low counts.2 less
        where
          low : {a b r : ℕ} → b ≡ a → a ≤ r → max a b ≤ r
          low is p = omega (arith, is, p)

      shows : s ≡ B → 1 ≤ max h.back.keys_came x.keys
      shows is = some h.back.keys_came (follow.3.1 (ap peer is) (ap is_opening brings))
        where
          some : {b : ℕ} (a : ℕ) → 1 ≤ b → 1 ≤ max a b
          some a p = omega (arith, p)

      told_on : IsToldEdge s j h.owes h.back.receiver m.end.receiving.told_edge → IsToldEdge s j h.owes back_now.receiver m.end.receiving.told_edge
      told_on (Same same) = Same same
      told_on (Before side (inl none_came) least full) = Before side (inl (received ∙ none_came)) least full
      told_on (Before side (inr owed) least full) = Before side (inr owed) least full

      heard_on : HeardIs s k.total (last_told h.out.heard (in_hand x true false)) m.end.tcp
      heard_on = subst (λ (o : Option Hand). HeardIs s k.total (last_told h.out.heard o) m.end.tcp) hand h.own.subflow.heard

      pub own_passed : EndIs s keys k j h.out.sender back_now.receiver (in_hand x false false) h.owes h.waiting end_now
      own_passed = record {
        subflow = record {
          phase = Open (some_max x.control came) una open_now;
          opens = h.own.subflow.opens;
          records = record {
            sent = h.own.subflow.records.sent;
            rest = h.own.subflow.records.rest;
            all = h.own.subflow.records.all;
            gone = h.own.subflow.records.gone;
            waits = h.own.subflow.records.waits;
            pieces = h.own.subflow.records.pieces;
            tile = h.own.subflow.records.tile;
            next = h.own.subflow.records.next;
            finished = h.own.subflow.records.finished;
            control = h.own.subflow.records.control;
            fits = h.own.subflow.records.fits;
          };
          ahead = record {
            bytes = h.own.subflow.ahead.bytes;
            opened = h.own.subflow.ahead.opened;
            finished = h.own.subflow.ahead.finished;
            seen = h.own.subflow.ahead.seen;
          };
          congestion = record {
            window = h.own.subflow.congestion.window;
            most = h.own.subflow.congestion.most;
            steady = h.own.subflow.congestion.steady;
            row = subst (λ (o : Option Hand). m.end.tcp.congestion.duplicates ≤ row_seen h.out.sender o) hand h.own.subflow.congestion.row;
          };
          come = record { edge = edge_is h.own.subflow.come.edge received counts.0 counts.1; window = h.own.subflow.come.window };
          heard = record { told = heard_on.told; most = heard_on.most; end = heard_on.end; few = heard_on.few; some = heard_on.some };
          quiet = λ off. absurd (both_ways _ off open_now.connected);
          begun = λ is. up (h.own.subflow.begun is) (less_max h.back.control_came x.control);
          keyed = λ is one b. shows is;
          long = h.own.subflow.long;
          due = h.own.subflow.due;
        };
        sending = record {
          heard = h.own.sending.heard;
          known = h.own.sending.known;
          data_fin = h.own.sending.data_fin;
          acked = h.own.sending.acked;
          came = max_none none_fin ∙ h.own.sending.came;
          shut = h.own.sending.shut;
          granted = h.own.sending.granted;
          spans = h.own.sending.spans;
          bytes = h.own.sending.bytes;
          end = h.own.sending.end;
          acked_end = h.own.sending.acked_end;
          finish = h.own.sending.finish;
        };
        receiving = record {
          next = h.own.receiving.next;
          limit = h.own.receiving.limit;
          told = told_on h.own.receiving.told;
          least = h.own.receiving.least;
          unmapped = h.own.receiving.unmapped;
          fin_told = h.own.receiving.fin_told;
          said = h.own.receiving.said;
          unended = λ is none_clear. absurd (not_clear clear none_clear);
          unheard = λ is none_clear. absurd (not_clear clear none_clear);
        };
        modes = record {
          mode = h.own.modes.mode;
          standby = h.own.modes.standby;
          mapping = h.own.modes.mapping;
          owes_third = h.own.modes.owes_third;
          owes_mapping = h.own.modes.owes_mapping;
          mapped_to = h.own.modes.mapped_to;
          plain_acks = h.own.modes.plain_acks;
          own_key = h.own.modes.own_key;
          peer_key = h.own.modes.peer_key;
          clear = h.own.modes.clear;
          capable = λ is some. h.own.modes.capable is came;
          ready = min_max h.back.control_came x.control h.own.modes.ready;
          cleared = h.own.modes.cleared;
          both = λ is. ((h.own.modes.both is).0, keys_low (h.own.modes.both is).1);
          shown = h.own.modes.shown;
        };
        timer = h.own.timer;
        notices = h.own.notices;
      }

      pub reads_on : ReaderShows j back_now m.app m.arrived
      reads_on = record {
        numbers = subst (λ (y : ℕ). ReaderIs j h.back.read y h.back.got h.back.told_end m.app m.arrived) (sym data_fin) h.apps_back.reads.numbers;
        received = received ∙ h.apps_back.reads.received;
        over = h.apps_back.reads.over;
      }

      pub receives_on : ReceiverIs j back_now m.arrived
      receives_on = record {
        read = h.apps_back.receives.read;
        received = received ∙ h.apps_back.receives.received;
        known = h.apps_back.receives.known ∙ ap (λ (y : ℕ). end_known y j.total) (sym data_fin);
        capacity = h.apps_back.receives.capacity;
      }

      pub control_is : max h.back.control_came x.control ≡ x.control
      control_is = same counts.0 counts.1
        where
          same : {a b : ℕ} → a ≡ 1 → b ≡ 2 → max a b ≡ b
          same p q = omega (arith, p, q)

      pub shown_is : max h.back.keys_came x.keys ≡ x.keys
      shown_is = same counts.2
        where
          same : {a b : ℕ} → b ≡ a → max a b ≡ b
          same is = omega (arith, is)

      pub more : h.back.control_came < x.control
      more = less counts.0 counts.1
        where
          less : {a b : ℕ} → a ≡ 1 → b ≡ 2 → a < b
          less p q = omega (arith, p, q)

      pub all_of : back_now.received ≡ h.back.received + length (octets_of x.brings)
      all_of = received ∙ plus h.back.received none
        where
          plus : {b : ℕ} (a : ℕ) → b ≡ 0 → a ≡ a + b
          plus a is = omega (arith, is)

      pub no_bytes : x.low + length (octets_of x.brings) ≤ x.low
      no_bytes = low x.low none
        where
          low : {b : ℕ} (a : ℕ) → b ≡ 0 → a + b ≤ a
          low a is = omega (arith, is)

      pub no_fin : data_fin_of x.brings ≤ 0
      no_fin = low none_fin
        where
          low : {b : ℕ} → b ≡ 0 → b ≤ 0
          low is = omega (arith, is)

      pub further : (y : ℕ) → y ≤ y + 1
      further y = omega arith

      module _ (some_sent : 1 ≤ h.out.control_sent) (owes : h.owes ≡ true) (acknowledges : Has (Duty.Send (SendDuty.Acknowledge s)) ds)
          (events : Has (Duty.Step StepDuty.Events) ds)
          (asks : (h.stage_back.ask ≡ false) ⊎ (Has (Duty.Ask (AskDuty.Window s)) ds ⊎ (Has (Duty.Ask (AskDuty.AckOut s)) ds × (m.end.treated.asked ≡ true))))
        where
          abbrev pub fin_passed : Facing s keys k j c begun begun_back (record m { end = end_now }) n clock until ds
          fin_passed = brought h refl x false hand (after_pass m.end.tcp.recv) (after_fin_passed m.end.tcp.state) m.end.sending
              m.end.receiving m.end.modes m.end.treated m.arrived h.stage_back.ask some_sent owes acknowledges events (inr (inr (inl more)))
              (λ e. (e, no_bytes, no_fin)) asks all_of control_is shown_is (further m.end.tcp.recv.edge) own_passed reads_on receives_on h.apps_back.whole refl
