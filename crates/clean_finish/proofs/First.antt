-- The relation holds as the first round begins.
use Rattle.clean_finish.proofs.Words.{◌≡◌, refl, sym, subst, ℕ, ◌+◌, ◌≤◌, Bool, true, false, inl, inr, None, List, [], ◌∷◌, length, arith, both_ways, le-ltb}
use Rattle.clean_finish.proofs.Words.{All-nil, All-cons, Side, A, B, withdrawals_on, new_control, no_withdrawals, opening_paths, Record, is_unsent, syn_record}
use Rattle.clean_finish.proofs.Words.{never_sent, State, Listen, SynSent, start_of_turn, pick, tail_of, AppState, start_of_app, opening_end, Setting, Lane}
use Rattle.clean_finish.proofs.Words.{all_left, Writer, Reader, Going, first_lane, Moves, all_moves_going, PathPlan, Start, first_cast, new_walker, IsPiece}
use Rattle.clean_finish.proofs.Words.{EndIs, IsGranted, IsPhase, ControlIs, IsFree, WaitsSyn, Keys, Same, keys_in, Running, IsAppTurn, ArePlain, WriterShows}
use Rattle.clean_finish.proofs.Words.{WriterGoes, ReaderShows, ReaderGoes, Begun, Written, Listening, Opens, Starts}
use Rattle.std.specs.FinMap.{get-empty}
use Rattle.std.specs.Ordering.{nat_cmp}
use Rattle.reno_window.specs.Rules.{initial_window}
use Rattle.send_book.specs.State as send_books
use Rattle.subflow_tcp.specs.Opening.{new_end}
use Rattle.reassembly_book.specs.State as reassembly_books
use Rattle.control_book.specs.declared.registry.Phase.TheVariants.{Opening}
use Rattle.address_manager.specs.IdSet.{lowest, no_ids}
use Rattle.stream_apps.specs.Starts.{first_app_turn}
use Rattle.clean_finish.proofs.Moving.{more_than, moves_then}
use Rattle.clean_finish.proofs.Writing.{turn_begins}
use Rattle.clean_finish.proofs.Reading.{reading_begins}

pub first_plain : ArePlain (tail_of (tail_of (tail_of start_of_turn)))
first_plain = (refl, tt, (refl, (refl, inr (inr (inr (inr (inr (inr (inr (inr (inr (inr (inr (inr (inr (inr (inr (inr (inr (inr (inr (inr (inl refl))))))))))))))))))))), (refl, tt, (refl, (refl, inr (inr (inr (inr (inr (inr (inr (inr (inr (inr (inr (inr (inr (inr (inr (inr (inr (inr (inl refl))))))))))))))))))), (refl, tt, (refl, tt, (refl, (refl, inr (inr (inr (inr (inr (inr (inr (inr (inr (inr (inr (inr (inr (inr (inr (inl refl)))))))))))))))), (refl, tt, (refl, tt, (refl, (refl, inl refl, inr (inr (inr (inr (inr (inr (inr (inr (inr (inr (inr (inr (inl refl))))))))))))), (refl, (refl, inr (inr (inr (inr (inr (inr (inr (inr (inr (inr (inr (inl refl)))))))))))), (refl, (refl, inr (inr (inr (inr (inr (inr (inr (inr (inr (inr (inl refl))))))))))), (refl, refl, (refl, tt, (refl, tt, (refl, (refl, inr (inr (inr (inr (inr (inr (inl refl))))))), (refl, tt, (refl, tt, (refl, (refl, inl refl, inr (inr (inr (inl refl)))), (refl, (refl, inr (inr (inl refl))), (refl, (refl, inr (inl refl)), (refl, refl, (refl, refl, (refl, refl, tt))))))))))))))))))))))))

no : {X : Type 0} → false ≡ true → X
no is = absurd (both_ways _ refl is)

-- ---- a lane of which the applications' turns began

abbrev with_apps : ℕ → Writer → Reader → Lane
with_apps window writer reader = record (first_lane window) { writer = writer; reader = reader }

record Began (k : Setting) (window : ℕ) (writer reader : AppState) : Type 0 where
  writes_by : Writer
  reads_by : Reader
  count : ℕ
  moves : Moves k (first_lane window) count all_left (first_lane window) all_left (with_apps window writes_by reads_by)
  writes : WriterShows k (with_apps window writes_by reads_by) writer (send_books.new_sending k.buffer)
  reads : ReaderShows k (with_apps window writes_by reads_by) reader (reassembly_books.new_arriving k.buffer)

abbrev waiting : Side → ℕ → List ℕ → AppState
waiting side buffer file =
    record { side = side; buffer = buffer; rest = file; closed = false; told = false; count = 0; stops_in = None; agenda = start_of_app }

module _ (k : Setting) (window t : ℕ) (going : Going k (first_lane window) t all_left (first_lane window)) where
  abbrev w : Lane
  w = first_lane window

  writes_first : (side : Side) (file : List ℕ) → length file ≡ k.total
      → WriterGoes k w all_left w (first_app_turn side k.buffer file None) (send_books.new_sending k.buffer)
  writes_first side file total = turn_begins k w t all_left w (waiting side k.buffer file) (send_books.new_sending k.buffer) going
      (record {
        file = omega (arith, total);
        bytes = refl;
        shut = refl;
        told = refl;
        whole = no;
        heard = omega arith;
        offers = refl;
        buffer = refl;
        unaborted = refl;
        stays = refl;
      }) refl

  reads_next : (writer : Writer) (side : Side) (file : List ℕ) → Going k w t all_left (record w { writer = writer })
      → ReaderGoes k w all_left (record w { writer = writer }) (first_app_turn side k.buffer file None) (reassembly_books.new_arriving k.buffer)
  reads_next writer side file now =
      reading_begins k w t all_left (record w { writer = writer }) (waiting side k.buffer file) (reassembly_books.new_arriving k.buffer) now
      (record { bytes = refl; count = refl; known = refl; end = refl; whole = no; buffer = refl; unaborted = refl; stays = refl }) refl refl

  begins : (side other : Side) (file other_file : List ℕ) → length file ≡ k.total
      → Began k window (first_app_turn side k.buffer file None) (first_app_turn other k.buffer other_file None)
  begins side other file other_file total =
      let g = writes_first side file total in
      let h = reads_next g.writer other other_file
      (all_moves_going k w t g.count all_left w all_left (record w { writer = g.writer }) g.moves going) in
      record {
        writes_by = g.writer;
        reads_by = h.reader;
        count = more_than h.count g.count;
        moves = moves_then k w g.count h.count all_left w all_left (record w { writer = g.writer }) all_left
            (with_apps window g.writer h.reader) g.moves h.moves;
        writes = record { numbers = g.shows.numbers; over = g.shows.over };
        reads = h.shows;
      }

-- ---- an end

module _ (k j : Setting) (window window_back : ℕ) (writer writer_back : Writer) (reader reader_back : Reader) where
  abbrev out : Lane
  out = with_apps window writer reader

  abbrev back : Lane
  back = with_apps window_back writer_back reader_back

  first_end : (s : Side) (keys : Keys) (state : State) (opens : Bool) (path initial mss key nonce : ℕ)
      → k.payload + window ≤ initial_window mss → initial_window mss ≤ 1048576
      → IsPhase s 0 0 false state → opens ≡ pick s true false → key ≡ pick s keys.a keys.b → 0 ≤ pick s 0 0
      → EndIs s keys k j out.sender back.receiver None false 0 (opening_end (new_end state opens path initial mss) key nonce)
  first_end s keys state opens path initial mss key nonce room most phase opens_is key_is shown = record {
    subflow = record {
      phase = phase;
      opens = opens_is;
      records = record {
        sent = [];
        rest = syn_record never_sent ∷ [];
        all = refl;
        gone = All-nil (λ (r : Record). is_unsent r ≡ false);
        waits = WaitsSyn refl;
        pieces = All-cons (IsPiece k.payload) (syn_record never_sent) [] (omega arith, omega arith) (All-nil (IsPiece k.payload));
        tile = (omega arith, omega arith, refl);
        next = refl;
        finished = refl;
        control = omega arith;
        fits = omega arith;
      };
      ahead = record { bytes = omega arith; opened = omega arith; finished = λ e. absurd (omega (arith, e)); seen = omega arith };
      congestion = record { window = room; most = most; steady = refl; row = omega arith };
      come = record { edge = refl; window = refl };
      quiet = λ e. (refl, refl, refl, refl);
      begun = λ is. omega arith;
      keyed = λ is one still. absurd (omega (arith, one));
      heard = record { told = tt; most = omega arith; end = λ e. absurd (omega (arith, e)); few = omega arith; some = λ e. absurd (omega (arith, e)) };
      long = omega arith;
      due = refl;
    };
    sending = record {
      heard = refl;
      known = refl;
      data_fin = refl;
      acked = sym (le-ltb k.total 0 (omega arith));
      came = refl;
      shut = (λ e. refl, λ some. absurd (omega (arith, some)));
      granted = All-nil (IsGranted out.sender 0);
      spans = omega arith;
      bytes = λ some. absurd (omega (arith, some));
      end = omega arith;
      acked_end = λ more. absurd (omega (arith, more));
      finish = λ two. absurd (omega (arith, two));
    };
    receiving = record {
      next = refl;
      limit = refl;
      told = Same refl;
      least = λ sent. absurd (omega (arith, sent));
      unmapped = refl;
      fin_told = refl;
      said = omega arith;
      unended = λ is none. omega arith;
      unheard = λ is none. (refl, refl, λ one. absurd (omega (arith, one)));
    };
    modes = record {
      mode = Starts refl;
      standby = refl;
      mapping = (refl, refl, refl, refl);
      owes_third = refl;
      owes_mapping = refl;
      mapped_to = refl;
      plain_acks = refl;
      own_key = key_is;
      peer_key = refl;
      clear = refl;
      capable = λ is came. absurd (omega (arith, came));
      ready = omega arith;
      cleared = omega arith;
      both = λ is. (refl, omega arith);
      shown = shown;
    };
    timer = refl;
    notices = record { queue = refl; reset = refl; carrier = refl; fast_closed = refl };
  }

-- ---- the world

-- One path, which opens the connection, and no line: the buffers of both lanes are those of the connection.
module _ (start : Start) (plan : PathPlan) (k j : Setting) (a b t t' : ℕ)
    (buffer : k.buffer ≡ start.buffer) (buffer_back : j.buffer ≡ start.buffer)
    (total : length start.file_a ≡ k.total) (total_back : length start.file_b ≡ j.total)
    (room : k.payload + a ≤ initial_window plan.mss) (room_back : j.payload + b ≤ initial_window plan.mss)
    (most : initial_window plan.mss ≤ 1048576) (delay : plan.delay ≡ k.delay) (delay_back : plan.delay ≡ j.delay)
    (going : Going k (first_lane a) t all_left (first_lane a)) (going_back : Going j (first_lane b) t' all_left (first_lane b))
  where
    abbrev one_path : Start
    one_path = record start { lines = []; paths = plan ∷ [] }

    abbrev keys : Keys
    keys = keys_in start

    there : Began k a (first_app_turn A start.buffer start.file_a None) (first_app_turn B start.buffer start.file_b None)
    there = subst (λ (n : ℕ). Began k a (first_app_turn A n start.file_a None) (first_app_turn B n start.file_b None)) buffer
        (begins k a t going A B start.file_a start.file_b total)

    here : Began j b (first_app_turn B start.buffer start.file_b None) (first_app_turn A start.buffer start.file_a None)
    here = subst (λ (n : ℕ). Began j b (first_app_turn B n start.file_b None) (first_app_turn A n start.file_a None)) buffer_back
        (begins j b t' going_back B A start.file_b start.file_a total_back)

    first_turn_is : (side : Side) (file : List ℕ) → IsAppTurn (first_app_turn side start.buffer file None).agenda
    first_turn_is side [] = Written
    first_turn_is side (octet ∷ file) = Begun

    opening_first : opening_paths ≡ record { phase = Opening; removed = false; row = None } ∷ tail_of opening_paths
    unfolding opening_paths
    opening_first = refl

    none_due : lowest no_ids ≡ None
    unfolding no_ids
    none_due = refl

    none_withdrawn : lowest (withdrawals_on no_withdrawals 0) ≡ None
    unfolding no_withdrawals no_ids
    none_withdrawn = refl

    first_control : (q : Side) (key : ℕ) → key ≡ pick q keys.a keys.b → ControlIs q keys (new_control q key)
    first_control q key is = record {
      mode = Starts refl;
      joined = refl;
      own_key = is;
      first = record { phase = Opening; removed = false; row = None };
      alone = opening_first;
      carrier = refl;
      stays = refl;
      announces = none_due;
      withdraws = none_withdrawn;
    }

    pub first_running : Running one_path plan k j (first_lane a) (first_lane b) (first_cast one_path)
    first_running = record {
      walker = new_walker one_path 0 plan;
      alone = refl;
      runs = record {
        path = record { profile = refl; delay = refl; number = refl; unspoken = refl; lines = refl; joined = refl };
        link = record { order = tt; from_a = tt; from_b = tt };
        faces = record {
          out = with_apps a there.writes_by there.reads_by;
          back = with_apps b here.writes_by here.reads_by;
          stage = all_left;
          stage_back = all_left;
          going = record { count = there.count; moves = there.moves };
          going_back = record { count = here.count; moves = here.moves };
          now = (refl, refl);
          now_back = (refl, refl);
          hand = None;
          hand_back = None;
          owes = false;
          owes_back = false;
          waiting = 0;
          waiting_back = 0;
          own = first_end k j a b there.writes_by here.writes_by there.reads_by here.reads_by A keys SynSent true 0 plan.initial_a
              plan.mss start.key_a plan.nonce_a room most (Opens refl refl refl refl) refl refl (omega arith);
          other = first_end j k b a here.writes_by there.writes_by here.reads_by there.reads_by B keys Listen false 0 plan.initial_b
              plan.mss start.key_b plan.nonce_b room_back most (Listening refl refl refl refl) refl refl (omega arith);
          way = record {
            sent = [];
            flights = tt;
            datas_are = refl;
            acks_are = refl;
            follow = tt;
            low = refl;
            control = refl;
            keys_shown = refl;
            rise = tt;
            passed = omega arith;
          };
          way_back = record {
            sent = [];
            flights = tt;
            datas_are = refl;
            acks_are = refl;
            follow = tt;
            low = refl;
            control = refl;
            keys_shown = refl;
            rise = tt;
            passed = omega arith;
          };
          apps = record {
            writes = subst (λ (n : ℕ). WriterShows k (with_apps a there.writes_by there.reads_by) (first_app_turn A start.buffer start.file_a None)
                (send_books.new_sending n)) buffer there.writes;
            reads = subst (λ (n : ℕ). ReaderShows k (with_apps a there.writes_by there.reads_by) (first_app_turn B start.buffer start.file_b None)
                (reassembly_books.new_arriving n)) buffer there.reads;
            receives = record { read = there.reads.numbers.bytes; received = there.reads.received; known = there.reads.numbers.known; capacity = sym buffer };
            book = record { edge = refl; owner = refl; marks = refl; taken = All-nil IsFree };
            room = omega arith;
            whole = refl;
            fin = λ e. absurd (both_ways false refl e);
          };
          apps_back = record {
            writes = subst (λ (n : ℕ). WriterShows j (with_apps b here.writes_by here.reads_by) (first_app_turn B start.buffer start.file_b None)
                (send_books.new_sending n)) buffer_back here.writes;
            reads = subst (λ (n : ℕ). ReaderShows j (with_apps b here.writes_by here.reads_by) (first_app_turn A start.buffer start.file_a None)
                (reassembly_books.new_arriving n)) buffer_back here.reads;
            receives = record { read = here.reads.numbers.bytes; received = here.reads.received; known = here.reads.numbers.known; capacity = sym buffer_back };
            book = record { edge = refl; owner = refl; marks = refl; taken = All-nil IsFree };
            room = omega arith;
            whole = refl;
            fin = λ e. absurd (both_ways false refl e);
          };
          stages = record {
            window = inr (inr (inr (inr (inr (inl refl)))));
            update = inr (inr (inr (inr (inr (inr (inl refl))))));
            emit = inr (inr (inr (inr (inr (inr (inr (inr (inr (inr (inr (inr (inl refl))))))))))));
            finish = inr (inr (inr (inr (inr (inr (inr (inr (inr (inr (inr (inr (inr (inl refl)))))))))))));
            wait = inr (inr (inr (inr (inr (inr (inr (inr (inr (inr (inr (inr (inr (inr (inr (inr (inr (inr (inr (inr (inr (inr (inr (inr (inr (inl refl)))))))))))))))))))))))));
            tell = inl refl;
            ask = inr (inl (inr (inr (inr (inr (inl refl))))));
          };
          stages_back = record {
            window = inr (inr (inr (inl refl)));
            update = inr (inr (inr (inr (inl refl))));
            emit = inr (inr (inr (inr (inr (inr (inr (inr (inr (inr (inr (inr (inr (inr (inr (inr (inr (inr (inr (inr (inr (inl refl)))))))))))))))))))));
            finish = inr (inr (inr (inr (inr (inr (inr (inr (inr (inr (inr (inr (inr (inr (inr (inr (inr (inr (inr (inr (inr (inr (inl refl))))))))))))))))))))));
            wait = inr (inr (inr (inr (inr (inr (inr (inr (inr (inr (inr (inr (inr (inr (inr (inr (inr (inr (inr (inr (inr (inr (inr (inr (inr (inl refl)))))))))))))))))))))))));
            tell = inl refl;
            ask = inr (inl (inr (inr (inl refl))));
          };
          control = first_control A start.key_a refl;
          control_back = first_control B start.key_b refl;
          turn = first_turn_is A start.file_a;
          turn_back = first_turn_is B start.file_b;
          settles = inl refl;
          settles_back = inl refl;
          begins = inr (record {
            ready = refl;
            received = refl;
            data_fin = refl;
            keys = refl;
            told = refl;
            next = refl;
            window = inr (inr (inr (inl refl)));
            syn = λ is. (refl, inr (inr (inr (inr (inr (inr (inr (inr (inl refl)))))))));
          });
          begins_back = inr (record {
            ready = refl;
            received = refl;
            data_fin = refl;
            keys = refl;
            told = refl;
            next = refl;
            window = inr (inr (inr (inr (inr (inl refl)))));
            syn = λ is. cc;
          });
          owed = λ e b. absurd (both_ways false refl e);
          owed_back = λ e b. absurd (both_ways false refl e);
        };
        treats = (
          (
            record {
              none = refl;
              idle = record { places = refl; incoming = refl; fin = refl };
              mapped = record { live = refl; tail = refl; beyond = λ p less. get-empty nat_cmp p; no_fin = refl; forgotten = omega arith };
              least = λ is some. absurd (omega (arith, some));
              owes = refl;
              answered = omega arith;
              ready = λ is. omega arith;
              shown = λ is. omega arith;
            },
            record {
              none = refl;
              idle = record { places = refl; incoming = refl; fin = refl };
              mapped = record { live = refl; tail = refl; beyond = λ p less. get-empty nat_cmp p; no_fin = refl; forgotten = omega arith };
              least = λ is some. absurd (omega (arith, some));
              owes = refl;
              answered = omega arith;
              ready = λ is. omega arith;
              shown = λ is. omega arith;
            },
          ),
          refl,
          refl,
          refl,
          tt,
          (refl, tt, first_plain),
        );
      };
    }
