-- Where the turn of an application is over, it has read all that had arrived without a gap as the round began, or was told of an abort.
use Rattle.world_laws.proofs.Words.{◌≡◌, refl, sym, ◌∙◌, ap, subst, ℕ, ◌+◌, ◌≤◌, not, inl, inr, ◌⊎◌, ⊎_elim, true, false, if◌then◌else◌, Option, Some, List, []}
use Rattle.world_laws.proofs.Words.{◌∷◌, ◌++◌, length, map, arith, slice_get, Side, A, B, ReassemblyCall, Arriving, received, new_arriving, Duty, Ask, Note}
use Rattle.world_laws.proofs.Words.{Reply, books_in, SixBooks, reassembly_of, reply_of, after_ask, after_reassembly_call, is_nil, pick, AppDuty, AppState}
use Rattle.world_laws.proofs.Words.{fresh_turn, start_of_app, app_ask, bytes_in, app_reads_on, app_settled, app_takes, untouched, first_app_turn, AbortReceive}
use Rattle.world_laws.proofs.Words.{Codec, ask_for, Start, opened_world, WorldState, Turn, all_over, greatest, begins, end_round, world_run, note_of, is_going}
use Rattle.world_laws.proofs.Words.{BeginsRound, InEachRound, ReadersCaughtUp, notes_of, output_of, read_by}
use Rattle.reassembly_book.specs.Steps.{after_call, reply_to}
use Rattle.reassembly_book.proofs.Bounds.{sound-after_call, sound-opened}
use Rattle.reassembly_book.proofs.Merging.{filled-le}
use Rattle.stream_apps.specs.declared.duty.AppDuty.TheVariants.{FastClose, AbortSend, Write, Close, Read, End}
use Rattle.stream_apps.specs.Starts.{fast_close_of}
use Rattle.world_laws.specs.RoundNumbers.{after_steps}
use Rattle.world_laws.proofs.Rounds.CatchingUp.{is_read, arrives, aborts, Reading, Ahead, IsThrough, WasStopped, through_more, Caught, settled_caught, grown_caught, noted_reading, read_caught}
use Rattle.world_laws.proofs.Weaving.Journals.{books_after}
use Rattle.world_laws.proofs.Asks.OfPaths.{IsPathAsk, path_asks}
use Rattle.world_laws.proofs.Worlds.CastLifting.{Has, Stepwise, steps_have, turns_have, ended_has}
use Rattle.world_laws.proofs.Worlds.Casts.{Walker, Cast, Fare, world_of, after_a, after_b, after_path, next_cast, first_cast, first_fare, opened_is}

-- ---- a step of an application at the book of its side

own_after : (s : Side) (call : ReassemblyCall) (six : SixBooks) → reassembly_of s (after_reassembly_call s call six) ≡ after_call (reassembly_of s six) call
own_after = elim [ A ↦ λ call six. refl | B ↦ λ call six. refl ]

module _ (arrived read : ℕ) (six : SixBooks) (notes : List Note) (n : Note) where
  abbrev book_after : AppDuty → AppState → Arriving
  book_after d a = reassembly_of a.side (after_ask (app_ask d a) six)

  -- a step that reads nothing
  quiet : (ds : List AppDuty) (a m : AppState) (r : Reply) → n.reply ≡ r → bytes_in r ≡ [] → m.buffer ≡ a.buffer → m.told ≡ a.told → m.count ≡ a.count
      → Ahead (IsThrough arrived (reassembly_of a.side six).read (notes ++ n ∷ [])) ds → Caught arrived read a notes (reassembly_of a.side six)
      → Caught arrived read (app_settled ds m) (notes ++ n ∷ []) (reassembly_of a.side six)
  quiet ds a m r is none buffer told count ahead h =
      let b : Arriving = reassembly_of a.side six in
      let noted = noted_reading a notes n b (ap bytes_in is ∙ none) h.reading in
      settled_caught arrived read ds m (notes ++ n ∷ []) b (record {
        sound = noted.sound;
        capacity = noted.capacity ∙ sym buffer;
        whole = noted.whole;
        told = λ t. noted.told (sym told ∙ t);
      }) (record {
        from = subst (λ k. arrived ≤ read + k) (sym buffer) h.numbers.from;
        count = h.numbers.count ∙ ap (λ k. read + k) (sym count);
        within = h.numbers.within;
      }) ahead

  -- at the end of the turn
  abbrev Done : AppState → Type 0
  Done a = IsThrough arrived (reassembly_of a.side six).read (notes ++ n ∷ [])

  duty_caught : (d : AppDuty) (ds : List AppDuty) (a : AppState) → n.reply ≡ reply_of six (app_ask d a) → Caught arrived read (record a { agenda = d ∷ ds }) notes (reassembly_of a.side six)
      → Caught arrived read (app_takes (reply_of six (app_ask d a)) (record a { agenda = d ∷ ds })) (notes ++ n ∷ []) (book_after d a)
  duty_caught FastClose ds a is h =
      quiet ds (record a { agenda = FastClose ∷ ds }) _ _ is refl refl refl refl (subst (Ahead (Done a)) (sym h.ahead) refl) h
  duty_caught AbortSend ds a is h =
      quiet ds (record a { agenda = AbortSend ∷ ds }) _ _ is refl refl refl refl (subst (Ahead (Done a)) (sym h.ahead) refl) h
  duty_caught Write ds a is h =
      quiet ds (record a { agenda = Write ∷ ds }) _ _ is refl refl refl refl (subst (Ahead (Done a)) (sym h.ahead) refl) h
  duty_caught Close ds a is h =
      quiet ds (record a { agenda = Close ∷ ds }) _ _ is refl refl refl refl (subst (Ahead (Done a)) (sym h.ahead) refl) h
  duty_caught AbortReceive ds a is h =
      let b : Arriving = reassembly_of a.side six in
      let call : ReassemblyCall = ReassemblyCall.Abort false in
      let m : AppState = record a { agenda = AbortReceive ∷ ds } in
      let later = quiet ds m (record m { agenda = ds }) _ is refl refl refl refl (subst (Ahead (Done a)) (sym h.ahead) refl) h in
      subst (Caught arrived read (app_takes (reply_of six (app_ask AbortReceive a)) m) (notes ++ n ∷ [])) (sym (own_after a.side call six))
      (grown_caught arrived read _ (notes ++ n ∷ []) b (after_call b call) (sound-after_call call b h.reading.sound) (aborts false b) later)
  duty_caught End ds a is h = quiet [] (record a { agenda = End ∷ ds }) (record a { agenda = [] }) _ is refl refl refl refl (through_more arrived _ notes n h.ahead.1) h
  duty_caught Read ds a is h =
      let b : Arriving = reassembly_of a.side six in
      let m : AppState = record a { agenda = Read ∷ ds } in
      let call : ReassemblyCall = ReassemblyCall.Read 65536 in
      subst (Caught arrived read (app_takes (reply_of six (app_ask Read a)) m) (notes ++ n ∷ [])) (sym (own_after a.side call six))
      (read_caught arrived read m notes n b (after_call b call) (reply_to b call) (sound-after_call call b h.reading.sound) (is_read b) is h.reading
      h.numbers ds h.ahead (app_reads_on (bytes_in (Reply.Reassembly (reply_to b call))) m) refl)

  pub step_caught : (d : AppDuty) (ds : List AppDuty) (a : AppState) → a.agenda ≡ d ∷ ds → n.reply ≡ reply_of six (app_ask d a) → Caught arrived read a notes (reassembly_of a.side six)
      → Caught arrived read (app_takes (reply_of six (app_ask d a)) a) (notes ++ n ∷ []) (book_after d a)
  step_caught d ds a agenda is h =
      let same : a ≡ record a { agenda = d ∷ ds } = ap (λ es. record a { agenda = es }) agenda in
      subst (λ m. Caught arrived read (app_takes (reply_of six (app_ask d a)) m) (notes ++ n ∷ []) (book_after d a)) (sym same)
      (duty_caught d ds a is (subst (λ m. Caught arrived read m notes (reassembly_of a.side six)) same h))

-- ---- steps of the others

-- the other application leaves the book
other_a : (d : AppDuty) (a : AppState) (six : SixBooks) → a.side ≡ B → (after_ask (app_ask d a) six).reassembly_a ≡ six.reassembly_a
other_a AbortReceive a six is = ap (λ s. (after_reassembly_call s (ReassemblyCall.Abort false) six).reassembly_a) is
other_a Read a six is = ap (λ s. (after_reassembly_call s (ReassemblyCall.Read 65536) six).reassembly_a) is
other_a _ a six is = refl

other_b : (d : AppDuty) (a : AppState) (six : SixBooks) → a.side ≡ A → (after_ask (app_ask d a) six).reassembly_b ≡ six.reassembly_b
other_b AbortReceive a six is = ap (λ s. (after_reassembly_call s (ReassemblyCall.Abort false) six).reassembly_b) is
other_b Read a six is = ap (λ s. (after_reassembly_call s (ReassemblyCall.Read 65536) six).reassembly_b) is
other_b _ a six is = refl

-- a path lets it grow
module _ (arrived read : ℕ) (a : AppState) (notes : List Note) (six : SixBooks) where
  grown_a : (ask : Ask) → IsPathAsk ask → Caught arrived read a notes six.reassembly_a → Caught arrived read a notes (after_ask ask six).reassembly_a
  grown_a (Ask.Reassembly A call) is h =
      grown_caught arrived read a notes six.reassembly_a (after_call six.reassembly_a call) (sound-after_call call six.reassembly_a h.reading.sound) (arrives six.reassembly_a call is) h
  grown_a (Ask.Reassembly B call) is h = h
  grown_a _ is h = h

  grown_b : (ask : Ask) → IsPathAsk ask → Caught arrived read a notes six.reassembly_b → Caught arrived read a notes (after_ask ask six).reassembly_b
  grown_b (Ask.Reassembly B call) is h =
      grown_caught arrived read a notes six.reassembly_b (after_call six.reassembly_b call) (sound-after_call call six.reassembly_b h.reading.sound) (arrives six.reassembly_b call is) h
  grown_b (Ask.Reassembly A call) is h = h
  grown_b _ is h = h

-- ---- the world

module _ {C : Type 0} (k : Codec C) (start : Start) where
  -- both readers, in a round that began with so much arrived and read
  pub record BothCaught (arrived_a read_a arrived_b read_b : ℕ) (t : Cast C) : Type 0 where
    pub a : Caught arrived_a read_a t.a t.at_a.list (books_in t.books).reassembly_a
    pub b : Caught arrived_b read_b t.b t.at_b.list (books_in t.books).reassembly_b

  module _ (arrived_a read_a arrived_b read_b : ℕ) where
    abbrev Q : Cast C → Type 0
    Q t = BothCaught arrived_a read_a arrived_b read_b t

    by_a : (t : Cast C) → Fare start t → (d : AppDuty) (ds : List AppDuty) → t.a.agenda ≡ d ∷ ds → Q t → Q (after_a (app_ask d t.a) t)
    by_a t f d ds is h =
        let six = books_in t.books in let ask = app_ask d t.a in
        let same = sym (books_after ask t.at_a.pass t.books) in
        let own : Caught arrived_a read_a t.a t.at_a.list (reassembly_of t.a.side six) = subst (λ s. Caught arrived_a read_a t.a t.at_a.list (reassembly_of s six)) (sym f.a.side_is) h.a in
        let next = step_caught arrived_a read_a six t.at_a.list (note_of t.books t.at_a.pass ask) d ds t.a is refl own in
        record {
          a = subst (λ x. Caught arrived_a read_a (app_takes (reply_of six ask) t.a) (t.at_a.list ++ note_of t.books t.at_a.pass ask ∷ []) x.reassembly_a) same
              (subst (λ s. Caught arrived_a read_a (app_takes (reply_of six ask) t.a) (t.at_a.list ++ note_of t.books t.at_a.pass ask ∷ []) (reassembly_of s (after_ask ask six))) f.a.side_is next);
          b = subst (λ x. Caught arrived_b read_b t.b t.at_b.list x.reassembly_b) same
              (subst (Caught arrived_b read_b t.b t.at_b.list) (sym (other_b d t.a six f.a.side_is)) h.b);
        }

    by_b : (t : Cast C) → Fare start t → (d : AppDuty) (ds : List AppDuty) → t.b.agenda ≡ d ∷ ds → Q t → Q (after_b (app_ask d t.b) t)
    by_b t f d ds is h =
        let six = books_in t.books in let ask = app_ask d t.b in
        let same = sym (books_after ask t.at_b.pass t.books) in
        let own : Caught arrived_b read_b t.b t.at_b.list (reassembly_of t.b.side six) = subst (λ s. Caught arrived_b read_b t.b t.at_b.list (reassembly_of s six)) (sym f.b.side_is) h.b in
        let next = step_caught arrived_b read_b six t.at_b.list (note_of t.books t.at_b.pass ask) d ds t.b is refl own in
        record {
          a = subst (λ x. Caught arrived_a read_a t.a t.at_a.list x.reassembly_a) same
              (subst (Caught arrived_a read_a t.a t.at_a.list) (sym (other_a d t.b six f.b.side_is)) h.a);
          b = subst (λ x. Caught arrived_b read_b (app_takes (reply_of six ask) t.b) (t.at_b.list ++ note_of t.books t.at_b.pass ask ∷ []) x.reassembly_b) same
              (subst (λ s. Caught arrived_b read_b (app_takes (reply_of six ask) t.b) (t.at_b.list ++ note_of t.books t.at_b.pass ask ∷ []) (reassembly_of s (after_ask ask six))) f.b.side_is next);
        }

    by_path : (t : Cast C) → Fare start t → (number : ℕ) (x : Walker C) → slice_get t.paths number ≡ Some x → (d : Duty) (ds : List Duty) → x.path.agenda ≡ d ∷ ds → Q t
        → Q (after_path k number x (ask_for k d x.path) t)
    by_path t f number x there d ds is h =
        let six = books_in t.books in let ask = ask_for k d x.path in
        let same = sym (books_after ask x.at.pass t.books) in
        let own = path_asks k x.path d in
        record {
          a = subst (λ y. Caught arrived_a read_a t.a t.at_a.list y.reassembly_a) same (grown_a arrived_a read_a t.a t.at_a.list six ask own h.a);
          b = subst (λ y. Caught arrived_b read_b t.b t.at_b.list y.reassembly_b) same (grown_b arrived_b read_b t.b t.at_b.list six ask own h.b);
        }

    pub caught_stepwise : Stepwise k start Q
    caught_stepwise = record { a = by_a; b = by_b; path = by_path }

  -- both readers, in whatever round
  pub record Readers (t : Cast C) : Type 0 where
    pub arrived_a : ℕ
    pub read_a : ℕ
    pub arrived_b : ℕ
    pub read_b : ℕ
    pub both : BothCaught arrived_a read_a arrived_b read_b t

  readers_stepwise : Stepwise k start Readers
  readers_stepwise = record {
    a = λ t f d ds is h. record { arrived_a = h.arrived_a; read_a = h.read_a; arrived_b = h.arrived_b; read_b = h.read_b; both = by_a h.arrived_a h.read_a h.arrived_b h.read_b t f d ds is h.both };
    b = λ t f d ds is h. record { arrived_a = h.arrived_a; read_a = h.read_a; arrived_b = h.arrived_b; read_b = h.read_b; both = by_b h.arrived_a h.read_a h.arrived_b h.read_b t f d ds is h.both };
    path = λ t f number x there d ds is h. record {
      arrived_a = h.arrived_a;
      read_a = h.read_a;
      arrived_b = h.arrived_b;
      read_b = h.read_b;
      both = by_path h.arrived_a h.read_a h.arrived_b h.read_b t f number x there d ds is h.both;
    };
  }

-- as a turn begins
starts_caught : (m : AppState) (notes : List Note) (b : Arriving) → m.count ≡ 0 → Reading m notes b → Caught (received b) b.read (app_settled start_of_app m) notes b
starts_caught m notes b none h =
    let l = filled-le b.places in let fits = h.sound.fits in let capacity = h.capacity in
    settled_caught (received b) b.read start_of_app m notes b h (record { from = omega (arith, l, fits, capacity); count = omega (arith, none); within = omega arith }) refl

begun_caught : (a : AppState) (notes : List Note) (b : Arriving) → Reading a notes b → Caught (received b) b.read (app_settled start_of_app (fresh_turn a)) notes b
begun_caught a notes b h = starts_caught (fresh_turn a) notes b refl (record { sound = h.sound; capacity = h.capacity; whole = h.whole; told = h.told })

opened_reading : (s : Side) (buffer : ℕ) (file : List ℕ) (tick : Option ℕ) → Reading (untouched s buffer file tick) [] (new_arriving buffer)
opened_reading s buffer file tick = record { sound = sound-opened buffer; capacity = refl; whole = refl; told = λ never. cc }

opened_caught : (s : Side) (buffer : ℕ) (file : List ℕ) (tick : Option ℕ)
    → Caught (received (new_arriving buffer)) (new_arriving buffer).read (first_app_turn s buffer file tick) [] (new_arriving buffer)
opened_caught s buffer file tick = starts_caught (untouched s buffer file tick) [] (new_arriving buffer) refl (opened_reading s buffer file tick)

module _ {C : Type 0} (k : Codec C) (start : Start) where
  -- in a round that began with these books
  abbrev CaughtSince : SixBooks → Cast C → Type 0
  CaughtSince six t =
      BothCaught k start (received six.reassembly_a) six.reassembly_a.read (received six.reassembly_b) six.reassembly_b.read t

  opened_has : Has {C = C} start (CaughtSince (books_in (opened_world {C = C} start).books)) (opened_world start)
  opened_has = record {
    cast = first_cast start;
    is = opened_is start;
    fare = first_fare start;
    holds = record {
      a = opened_caught A start.buffer start.file_a (fast_close_of A start.lines);
      b = opened_caught B start.buffer start.file_b (fast_close_of B start.lines);
    };
  }

  next_both : (t : Cast C) → Readers k start t → CaughtSince (books_in t.books) (next_cast t)
  next_both t h = record {
    a = begun_caught t.a t.at_a.list (books_in t.books).reassembly_a h.both.a.reading;
    b = begun_caught t.b t.at_b.list (books_in t.books).reassembly_b h.both.b.reading;
  }

  readers_of : (six : SixBooks) (t : Cast C) → CaughtSince six t → Readers k start t
  readers_of six t h = record { arrived_a = _; read_a = _; arrived_b = _; read_b = _; both = h }

  -- at every moment
  always_readers : (turns : List Turn) → Has start (Readers k start) (world_run k turns (opened_world start))
  always_readers turns =
      turns_have k start (Readers k start) (readers_stepwise k start) (λ t f h. readers_of (books_in t.books) (next_cast t) (next_both t h)) turns (opened_world start)
      (record { cast = opened_has.cast; is = opened_has.is; fare = opened_has.fare; holds = readers_of (books_in (opened_world {C = C} start).books) opened_has.cast opened_has.holds })

  -- with the books of this world
  abbrev ReadersAt : WorldState C → Cast C → Type 0
  ReadersAt v t = Readers k start t × (t.books ≡ v.books)

  same_books : (v : WorldState C) → (end_round v).books ≡ v.books
  same_books v = elim (all_over v.crew) as (λ b. (if b then record v { crew = map (begins (greatest 0 v.crew)) v.crew } else v).books ≡ v.books)
      [ true ↦ refl | false ↦ refl ]

  begun_has : (u : WorldState C) → BeginsRound k start u → Has start (CaughtSince (books_in u.books)) u
  begun_has u (BeginsRound.First is) = subst (λ w. Has start (CaughtSince (books_in w.books)) w) (sym is) opened_has
  begun_has u (BeginsRound.Next turns over is) =
      let v = world_run k turns (opened_world start) in
      let h = always_readers turns in
      let there : Has start (ReadersAt v) v = record { cast = h.cast; is = h.is; fare = h.fare; holds = (h.holds, sym (ap (λ (w : WorldState C). w.books) h.is)) } in
      let ended = ended_has start (ReadersAt v) (CaughtSince (books_in v.books))
      (λ t f p. subst (λ books. CaughtSince (books_in books) (next_cast t)) p.1 (next_both t p.0)) v over there in
      subst (λ w. Has start (CaughtSince (books_in w.books)) w) (sym is)
      (subst (λ books. Has start (CaughtSince (books_in books)) (end_round v)) (sym (same_books v)) ended)

  over_nil : (ds : List AppDuty) → not (is_nil ds) ≡ false → ds ≡ []
  over_nil = elim [ [] ↦ λ over. refl | d ∷ ds ↦ λ over. cc ]

  all_read : (arrived read : ℕ) (a : AppState) (notes : List Note) (b : Arriving) → not (is_nil a.agenda) ≡ false → Caught arrived read a notes b → (arrived ≤ length (read_by notes)) ⊎ WasStopped notes
  all_read arrived read a notes b over h =
      let done : IsThrough arrived b.read notes = subst (Ahead (IsThrough arrived b.read notes)) (over_nil a.agenda over) h.ahead in
      let whole = h.reading.whole in ⊎_elim (λ all. inl (omega (arith, all, whole))) (λ stopped. inr stopped) done

  -- a reader of a side has caught up
  abbrev ReadAll : SixBooks → Side → WorldState C → Type 0
  ReadAll six s w = (received (reassembly_of s six) ≤ length (output_of s w)) ⊎ WasStopped (notes_of s w.crew)

  cast_read : (six : SixBooks) (t : Cast C) → CaughtSince six t → (s : Side) → is_going (pick s 0 1) (world_of t) ≡ false → ReadAll six s (world_of t)
  cast_read six t h A over = all_read _ _ t.a t.at_a.list (books_in t.books).reassembly_a over h.a
  cast_read six t h B over = all_read _ _ t.b t.at_b.list (books_in t.books).reassembly_b over h.b

  has_read : (six : SixBooks) (w : WorldState C) → Has start (CaughtSince six) w → (s : Side) → is_going (pick s 0 1) w ≡ false → ReadAll six s w
  has_read six w h = subst (λ v. (s : Side) → is_going (pick s 0 1) v ≡ false → ReadAll six s v) (sym h.is) (cast_read six h.cast h.holds)

pub readers_caught_up : {C : Type 0} (k : Codec C) → InEachRound k ReadersCaughtUp
readers_caught_up k start begun order begins =
    let six = books_in begun.books in
    let q = CaughtSince k start six in
    has_read k start six (after_steps k order begun)
    (steps_have k start q (caught_stepwise k start (received six.reassembly_a) six.reassembly_a.read (received six.reassembly_b) six.reassembly_b.read) order begun (begun_has k start begun begins))
