-- The end once its lane has taken what a copy brings: keys, bytes or a DATA_FIN.
use Rattle.clean_finish.proofs.Words.{◌≡◌, sym, subst, ap, ◌∙◌, ℕ, ◌+◌, ◌-◌, ◌≤◌, min, max, true, false, inr, Option, List, ◌∷◌, ◌++◌, length, arith, both_ways}
use Rattle.clean_finish.proofs.Words.{Side, B, peer, Mappings, SubflowReceiving, one_if, MappedDataFin, Duty, Profile, PathEnd, Treated, Setting, Lane, Hand}
use Rattle.clean_finish.proofs.Words.{EndIs, HeardIs, last_told, row_seen, brings_in, IsOpen, IsToldEdge, Sent, Keys, octets_of, Follow, data_fin_of, Same}
use Rattle.clean_finish.proofs.Words.{Before, Facing, Half, end_known, ReaderIs, ReaderShows, Open, ReceiverIs}
use Rattle.data_close.specs.declared.close_state.CloseState.{CloseState}
use Rattle.clean_finish.specs.Segments.{is_opening}
use Rattle.clean_finish.proofs.Brought.{back_after}
use Rattle.clean_finish.proofs.Dropping.{is_waited}
use Rattle.clean_finish.proofs.Hands.{in_hand}

module _ {s : Side} {keys : Keys} {k j : Setting} {c : Profile} {begun begun_back : Lane} {m n : Half} {clock until : ℕ} {d : Duty} {ds : List Duty}
    (h : Facing s keys k j c begun begun_back m n clock until (d ∷ ds)) (free : is_waited d ≡ false)
    (x : Sent) (hand : h.hand ≡ in_hand x true false) (kind : is_opening x.brings ≡ false)
  where
    pub follow : Follow k.least k.total j.total (peer s) h.back.received h.back.control_came h.back.keys_came (x ∷ h.way_back.sent)
    follow = subst (λ (o : Option Hand). Follow k.least k.total j.total (peer s) h.back.received h.back.control_came h.back.keys_came (brings_in o ++ h.way_back.sent))
        hand h.way_back.follow

    abbrev pub back_now : Lane
    back_now = back_after h free x false hand

    pub all_of : back_now.received ≡ h.back.received + length (octets_of x.brings)
    all_of = ap (λ (a : ℕ). a + length (octets_of x.brings)) follow.0

    module _ (owes : h.owes ≡ true) (una : 1 ≤ m.end.tcp.send.una) (is_open : IsOpen m.end.tcp.send.finished m.end.tcp.state) (came : 1 ≤ h.back.control_came)
        (clear : 1 ≤ h.out.clear) (control : x.control ≡ h.back.control_came) (keys_low : s ≡ B → max h.back.keys_came x.keys ≤ h.out.ready)
        (r : SubflowReceiving) (edge : r.edge ≡ m.end.tcp.recv.edge + length (octets_of x.brings)) (window : r.window ≡ m.end.tcp.recv.window)
        (cl : CloseState) (own_acked : cl.own_acked ≡ m.end.sending.close.own_acked)
        (fin_came : max h.back.data_fin_came (data_fin_of x.brings) ≡ one_if cl.peer_came)
        (v : Mappings) (fin : Option MappedDataFin) (tr : Treated)
      where
        abbrev pub end_now : PathEnd
        end_now = record m.end {
          tcp = record m.end.tcp { recv = r };
          sending = record m.end.sending { close = cl };
          receiving = record m.end.receiving { mappings = v; mapped_data_fin = fin };
          treated = tr;
        }

        up : {a b g : ℕ} → a ≤ b → b ≤ g → a ≤ g
        up p q = omega (arith, p, q)

        less_max : (a b : ℕ) → a ≤ max a b
        less_max a b = omega arith

        some_max : {a : ℕ} (b : ℕ) → 1 ≤ a → 1 ≤ max a b
        some_max b p = omega (arith, p)

        min_max : {g : ℕ} (a b : ℕ) → g ≤ min 1 a → g ≤ min 1 (max a b)
        min_max a b p = omega (arith, p)

        not_clear : {a : ℕ} → 1 ≤ a → a ≡ 0 → ⊥
        not_clear p q = absurd (omega (arith, p, q))

        edge_is : {e now g a q : ℕ} (b l : ℕ) → e ≡ 1 + g + (b - 1) → now ≡ e + l → a ≡ g → q ≡ b → now ≡ 1 + (a + l) + (max b q - 1)
        edge_is b l at more low same = omega (arith, at, more, low, same)

        shows : s ≡ B → 1 ≤ max h.back.keys_came x.keys
        shows is = some h.back.keys_came (follow.3.1 (ap peer is) kind)
          where
            some : {b : ℕ} (a : ℕ) → 1 ≤ b → 1 ≤ max a b
            some a p = omega (arith, p)

        told_on : IsToldEdge s j h.owes h.back.receiver m.end.receiving.told_edge → IsToldEdge s j h.owes back_now.receiver m.end.receiving.told_edge
        told_on (Same same) = Same same
        told_on (Before side none least full) = Before side (inr owes) least full

        heard_now : HeardIs s k.total h.out.heard m.end.tcp
        heard_now = subst (λ (o : Option Hand). HeardIs s k.total (last_told h.out.heard o) m.end.tcp) hand h.own.subflow.heard

        pub own_taken : EndIs s keys k j h.out.sender back_now.receiver (in_hand x false false) h.owes h.waiting end_now
        own_taken = record {
          subflow = record {
            phase = Open (some_max x.control came) una is_open;
            opens = h.own.subflow.opens;
            records = record {
              sent = h.own.subflow.records.sent;
              rest = h.own.subflow.records.rest;
              all = h.own.subflow.records.all;
              gone = h.own.subflow.records.gone;
              waits = h.own.subflow.records.waits;
              pieces = h.own.subflow.records.pieces;
              tile = h.own.subflow.records.tile;
              next = h.own.subflow.records.next;
              finished = h.own.subflow.records.finished;
              control = h.own.subflow.records.control;
              fits = h.own.subflow.records.fits;
            };
            ahead = record {
              bytes = h.own.subflow.ahead.bytes;
              opened = h.own.subflow.ahead.opened;
              finished = h.own.subflow.ahead.finished;
              seen = h.own.subflow.ahead.seen;
            };
            congestion = record {
              window = h.own.subflow.congestion.window;
              most = h.own.subflow.congestion.most;
              steady = h.own.subflow.congestion.steady;
              row = subst (λ (o : Option Hand). m.end.tcp.congestion.duplicates ≤ row_seen h.out.sender o) hand h.own.subflow.congestion.row;
            };
            come = record {
              edge = edge_is h.back.control_came (length (octets_of x.brings)) h.own.subflow.come.edge edge follow.0 control;
              window = window ∙ h.own.subflow.come.window;
            };
            heard = record { told = heard_now.told; most = heard_now.most; end = heard_now.end; few = heard_now.few; some = heard_now.some };
            quiet = λ off. absurd (both_ways _ off is_open.connected);
            begun = λ is. up (h.own.subflow.begun is) (less_max h.back.control_came x.control);
            keyed = λ is one b. shows is;
            long = h.own.subflow.long;
            due = h.own.subflow.due;
          };
          sending = record {
            heard = h.own.sending.heard;
            known = h.own.sending.known;
            data_fin = h.own.sending.data_fin;
            acked = own_acked ∙ h.own.sending.acked;
            came = fin_came;
            shut = h.own.sending.shut;
            granted = h.own.sending.granted;
            spans = h.own.sending.spans;
            bytes = h.own.sending.bytes;
            end = h.own.sending.end;
            acked_end = h.own.sending.acked_end;
            finish = h.own.sending.finish;
          };
          receiving = record {
            next = h.own.receiving.next;
            limit = h.own.receiving.limit;
            told = told_on h.own.receiving.told;
            least = h.own.receiving.least;
            unmapped = h.own.receiving.unmapped;
            fin_told = h.own.receiving.fin_told;
            said = h.own.receiving.said;
            unended = λ is none_clear. absurd (not_clear clear none_clear);
            unheard = λ is none_clear. absurd (not_clear clear none_clear);
          };
          modes = record {
            mode = h.own.modes.mode;
            standby = h.own.modes.standby;
            mapping = h.own.modes.mapping;
            owes_third = h.own.modes.owes_third;
            owes_mapping = h.own.modes.owes_mapping;
            mapped_to = h.own.modes.mapped_to;
            plain_acks = h.own.modes.plain_acks;
            own_key = h.own.modes.own_key;
            peer_key = h.own.modes.peer_key;
            clear = h.own.modes.clear;
            capable = λ is some. h.own.modes.capable is came;
            ready = min_max h.back.control_came x.control h.own.modes.ready;
            cleared = h.own.modes.cleared;
            both = λ is. ((h.own.modes.both is).0, keys_low is);
            shown = h.own.modes.shown;
          };
          timer = h.own.timer;
          notices = h.own.notices;
        }

    pub control_is : x.control ≡ h.back.control_came → back_now.control_came ≡ x.control
    control_is same = sum same
      where
        sum : {a b : ℕ} → b ≡ a → max a b ≡ b
        sum is = omega (arith, is)

    -- where it brings no DATA_FIN
    module _ (none : data_fin_of x.brings ≡ 0) where
      pub data_fin : back_now.data_fin_came ≡ h.back.data_fin_came
      data_fin = same none
        where
          same : {a b : ℕ} → b ≡ 0 → max a b ≡ a
          same is = omega (arith, is)

      pub no_fin : data_fin_of x.brings ≤ 0
      no_fin = low none
        where
          low : {b : ℕ} → b ≡ 0 → b ≤ 0
          low is = omega (arith, is)

      pub numbers_on : ReaderIs j h.back.read back_now.data_fin_came h.back.got h.back.told_end m.app m.arrived
      numbers_on = subst (λ (y : ℕ). ReaderIs j h.back.read y h.back.got h.back.told_end m.app m.arrived) (sym data_fin) h.apps_back.reads.numbers

      -- and no bytes
      module _ (no_bytes : length (octets_of x.brings) ≡ 0) where
        pub received : back_now.received ≡ h.back.received
        received = sum follow.0 no_bytes
          where
            sum : {a b g : ℕ} → a ≡ g → b ≡ 0 → a + b ≡ g
            sum p q = omega (arith, p, q)

        pub low_bytes : x.low + length (octets_of x.brings) ≤ x.low
        low_bytes = low x.low no_bytes
          where
            low : {b : ℕ} (a : ℕ) → b ≡ 0 → a + b ≤ a
            low a is = omega (arith, is)

        pub reads_on : ReaderShows j back_now m.app m.arrived
        reads_on = record { numbers = numbers_on; received = received ∙ h.apps_back.reads.received; over = h.apps_back.reads.over }

        pub receives_on : ReceiverIs j back_now m.arrived
        receives_on = record {
          read = h.apps_back.receives.read;
          received = received ∙ h.apps_back.receives.received;
          known = h.apps_back.receives.known ∙ ap (λ (y : ℕ). end_known y j.total) (sym data_fin);
          capacity = h.apps_back.receives.capacity;
        }
