-- An application that reads is moves of the lane that comes to it.
use Rattle.clean_finish.proofs.Words.{◌≡◌, refl, sym, subst, ap, ◌∙◌, ℕ, ◌+◌, ◌≤◌, min, nat_lt, Bool, true, false, not, if◌then◌else◌, ◌⊎◌, inl, inr, ⊎_elim}
use Rattle.clean_finish.proofs.Words.{Option, None, List, [], ◌∷◌, length, arith, Some, suc, le_refl, zero, drop, take, length-take, both_ways, cases_lt}
use Rattle.clean_finish.proofs.Words.{ltb-false, eqb-true, eqb-false, Arriving, filled, received, after_read, after_reading, is_end, read_reply, bytes_reply}
use Rattle.clean_finish.proofs.Words.{NoneYet, TheEnd, one_if, Reply, AppDuty, Read, End, AppState, app_takes, app_next_round, app_settled, Setting, Lane}
use Rattle.clean_finish.proofs.Words.{Stage, Going, MayEndReading, ends_reading, reads, has_read, is_reading, end_known, ReaderIs, ReaderShows, ReaderGoes}

filled_left : (n : ℕ) (places : List (Option ℕ)) → n ≤ length (filled places)
    → n + length (filled (drop n places)) ≡ length (filled places)
filled_left zero places within = omega arith
filled_left (suc n) [] within = absurd (omega (arith, within))
filled_left (suc n) (None ∷ places) within = absurd (omega (arith, within))
filled_left (suc n) (Some byte ∷ places) within = omega (arith, filled_left n places (omega (arith, within)))

module _ (k : Setting) (s : Lane) (t : ℕ) (p : Stage) (w : Lane) where
  -- the turn isn't over
  reads_on : (n : ℕ) (a : AppState) (b : Arriving)
      → ReaderIs k (w.read + n) w.data_fin_came (w.got + n) w.told_end a b → w.received ≡ received b
      → is_reading a.agenda ≡ true → w.reader_over ≡ false → w.read + n ≤ w.received → ReaderGoes k s p w a b
  reads_on n a b numbers came reading turn within = record {
    reader = (has_read n w).reader;
    count = 1;
    moves = (p, w, (refl, refl), reads n within);
    shows = record { numbers = numbers; received = came; over = turn ∙ sym (ap not reading) };
  }

  -- the turn is over
  reads_last : (n told : ℕ) (a : AppState) (b : Arriving)
      → ReaderIs k (w.read + n) w.data_fin_came (w.got + n) told a b → w.received ≡ received b
      → is_reading a.agenda ≡ false → w.read + n ≤ w.received → MayEndReading k s told (has_read n w)
      → ReaderGoes k s p w a b
  reads_last n told a b numbers came reading within may = record {
    reader = record (has_read n w).reader { reader_over = true; told_end = told };
    count = 2;
    moves = (p, has_read n w, (p, w, (refl, refl), reads n within), ends_reading told may);
    shows = record { numbers = numbers; received = came; over = sym (ap not reading) };
  }

  -- what is read, at most `max` octets at once
  module _ (a : AppState) (b : Arriving) (max : ℕ) (some : 1 ≤ max) (h : Going k s t p w)
      (is : ReaderIs k w.read w.data_fin_came w.got w.told_end (record a { told = false }) b)
      (came : w.received ≡ received b)
      (turn : w.reader_over ≡ false) where
    abbrev n : ℕ
    n = min max (length (filled b.places))

    within : w.read + n ≤ w.received
    within = omega (arith, came, is.bytes)

    left : w.received ≡ received (after_reading max b)
    left = let rest = filled_left n b.places (omega arith) in omega (arith, rest, came)

    -- the book knows the end there
    at_end : is_end b.known_end b.read ≡ true → b.read ≡ k.total
    at_end = subst (λ (o : Option ℕ). is_end o b.read ≡ true → b.read ≡ k.total) (sym is.known) (by w.data_fin_came)
      where
        by : (c : ℕ) → is_end (end_known c k.total) b.read ≡ true → b.read ≡ k.total
        by zero e = absurd (both_ways _ refl e)
        by (suc c) e = sym (eqb-true _ _ e)

    -- or no end is there
    no_end : is_end b.known_end b.read ≡ false → (w.data_fin_came ≤ 0) ⊎ (b.read ≡ k.total → ⊥)
    no_end =
        subst (λ (o : Option ℕ). is_end o b.read ≡ false → (w.data_fin_came ≤ 0) ⊎ (b.read ≡ k.total → ⊥))
        (sym is.known) (by w.data_fin_came)
      where
        by : (c : ℕ) → is_end (end_known c k.total) b.read ≡ false → (c ≤ 0) ⊎ (b.read ≡ k.total → ⊥)
        by zero e = inl (le_refl _)
        by (suc c) e = inr (λ same. eqb-false _ _ e (sym same))

    numbers : (m told : ℕ) (t' : Bool) (ds : List AppDuty) → m ≡ n → told ≡ one_if t' → (t' ≡ true → b.read + n ≡ k.total)
        → ReaderIs k (w.read + n) w.data_fin_came (w.got + n) told
        (record a { told = t'; count = a.count + m; agenda = ds }) (after_reading max b)
    numbers m told t' ds size end whole = record {
      bytes = omega (arith, is.bytes);
      count = omega (arith, is.count, size);
      known = is.known;
      end = end;
      whole = whole;
      buffer = is.buffer;
      unaborted = is.unaborted;
      stays = is.stays;
    }

    none_told : w.told_end ≡ 0
    none_told = is.end

    -- nothing is there to be read
    nothing : 0 ≡ n → (e : Bool) → e ≡ is_end b.known_end b.read
        → ReaderGoes k s p w (app_takes (Reply.Reassembly (if e then TheEnd else NoneYet))
        (record a { told = false; agenda = Read ∷ End ∷ [] }))
        (after_reading max b)
    nothing zero' true e =
        reads_last n 1 _ _ (numbers 0 1 true (End ∷ []) zero' refl
        (λ _. omega (arith, at_end (sym e), zero'))) left refl within
        (record {
          more = omega (arith, none_told);
          read = omega (arith, came, is.bytes, zero', some, h.since.received);
          told = omega (arith, h.since.data_fin_came, h.numbers);
        })
    nothing zero' false e =
        reads_last n 0 _ _ (numbers 0 0 false (End ∷ []) zero' refl (λ c. absurd (both_ways _ refl c))) left refl within
        (record {
          more = omega (arith, none_told);
          read = omega (arith, came, is.bytes, zero', some, h.since.received);
          told = ⊎_elim
              (λ none. omega (arith, none, h.since.data_fin_came))
              (λ apart. ⊎_elim
              (λ below. omega (arith, below, is.bytes, h.since.read))
              (λ all. absurd (apart (omega (arith, all, is.bytes, h.numbers))))
              (cases_lt b.read k.total))
              (no_end (sym e));
        })

    -- bytes came: it reads on as long as it got less than a buffer
    bytes : (y : ℕ) (ys : List ℕ) → length (y ∷ ys) ≡ n → (less : Bool) → nat_lt (a.count + length (y ∷ ys)) a.buffer ≡ less
        → ReaderGoes k s p w (app_settled (if less then Read ∷ End ∷ [] else End ∷ [])
        (record a { told = false; count = a.count + length (y ∷ ys); agenda = (if less then Read ∷ End ∷ [] else End ∷ []) }))
        (after_reading max b)
    bytes y ys size true e =
        reads_on n _ _ (numbers _ w.told_end false (Read ∷ End ∷ []) size none_told
        (λ c. absurd (both_ways _ refl c))) left refl turn within
    bytes y ys size false e =
        let full = ltb-false _ _ e in
        reads_last n 0 _ _ (numbers _ 0 false (End ∷ []) size refl (λ c. absurd (both_ways _ refl c))) left refl within
        (record {
          more = omega (arith, none_told);
          read = omega (arith, full, size, is.count, is.buffer, h.round.got);
          told = omega (arith, size, within, h.since.read, h.numbers);
        })

    taken : (xs : List ℕ) → length xs ≡ n
        → ReaderGoes k s p w (app_takes (Reply.Reassembly (bytes_reply xs b))
        (record a { told = false; agenda = Read ∷ End ∷ [] })) (after_reading max b)
    taken [] size = nothing size (is_end b.known_end b.read) refl
    taken (y ∷ ys) size = bytes y ys size (nat_lt (a.count + length (y ∷ ys)) a.buffer) refl

    all_taken : ReaderGoes k s p w (app_takes (Reply.Reassembly (bytes_reply (take max (filled b.places)) b))
        (record a { told = false; agenda = Read ∷ End ∷ [] }))
        (after_reading max b)
    all_taken = taken (take max (filled b.places)) (length-take max (filled b.places))

  pub read_step : (a : AppState) (b : Arriving) → Going k s t p w → ReaderShows k w a b
      → a.agenda ≡ Read ∷ End ∷ [] → a.told ≡ false
      → (most : ℕ) → 1 ≤ most
      → ReaderGoes k s p w (app_takes (Reply.Reassembly (read_reply most b)) a) (after_read most b)
  read_step a b h shows at untold most some =
      subst (λ (ds : List AppDuty). Goes ds a.told b.aborted) (sym at)
      (subst (λ (t' : Bool). Goes (Read ∷ End ∷ []) t' b.aborted) (sym untold)
      (subst (λ (ab : Option Bool). Goes (Read ∷ End ∷ []) false ab) (sym shows.numbers.unaborted)
      (all_taken a (record b { aborted = None }) most some h now shows.received turn)))
    where
      Goes : List AppDuty → Bool → Option Bool → Type 0
      Goes ds t' ab =
          ReaderGoes k s p w (app_takes (Reply.Reassembly (read_reply most (record b { aborted = ab })))
          (record a { told = t'; agenda = ds }))
          (after_read most (record b { aborted = ab }))

      turn : w.reader_over ≡ false
      turn = shows.over ∙ ap (λ (ds : List AppDuty). not (is_reading ds)) at

      now : ReaderIs k w.read w.data_fin_came w.got w.told_end (record a { told = false }) (record b { aborted = None })
      now = subst (λ (t' : Bool). ReaderIs k w.read w.data_fin_came w.got w.told_end (record a { told = t' })
          (record b { aborted = None })) untold
          (subst (λ (ab : Option Bool). ReaderIs k w.read w.data_fin_came w.got w.told_end a (record b { aborted = ab }))
          shows.numbers.unaborted shows.numbers)

  pub follows : (a : AppState) (b : Arriving) → Going k s t p w
      → ReaderIs k w.read w.data_fin_came w.got w.told_end a b → w.received ≡ received b
      → (is_reading a.agenda ≡ false → a.told ≡ true) → w.reader_over ≡ false → ReaderGoes k s p w a b
  follows a b h is came only turn = by (is_reading a.agenda) refl
    where
      by : (reading : Bool) → is_reading a.agenda ≡ reading → ReaderGoes k s p w a b
      by true e = record {
        reader = w.reader;
        count = 0;
        moves = (refl, refl);
        shows = record { numbers = is; received = came; over = turn ∙ sym (ap not e) };
      }
      by false e =
          let all = is.whole (only e) in
          let one : w.told_end ≡ 1 = is.end ∙ ap one_if (only e) in
          record {
            reader = record w.reader { reader_over = true };
            count = 1;
            moves = (
              p,
              w,
              (refl, refl),
              ends_reading w.told_end (record {
                more = le_refl _;
                read = omega (arith, all, is.bytes, h.since.received, h.numbers);
                told = omega (arith, one, h.since.data_fin_came, h.numbers);
              }),
            );
            shows = record { numbers = is; received = came; over = sym (ap not e) };
          }

  pub reading_begins : (a : AppState) (b : Arriving) → Going k s t p w
      → ReaderIs k w.read w.data_fin_came w.got w.told_end (record a { count = 0 }) b
      → w.received ≡ received b → w.reader_over ≡ false → ReaderGoes k s p w (app_next_round a) b
  reading_begins a b h is came turn = by a.stops_in is.stays a.rest a.closed a.told is
    where
      same : {a' : AppState} {ds : List AppDuty} → ReaderIs k w.read w.data_fin_came w.got w.told_end a' b
          → ReaderIs k w.read w.data_fin_came w.got w.told_end (record a' { agenda = ds }) b
      same {a'} {ds} now = record {
        bytes = now.bytes;
        count = now.count;
        known = now.known;
        end = now.end;
        whole = now.whole;
        buffer = now.buffer;
        unaborted = now.unaborted;
        stays = now.stays;
      }

      by : (o : Option ℕ) → o ≡ None → (r : List ℕ) (c t' : Bool)
          → ReaderIs k w.read w.data_fin_came w.got w.told_end
          (record a { stops_in = o; rest = r; closed = c; told = t'; count = 0 }) b
          → ReaderGoes k s p w (app_next_round (record a { stops_in = o; rest = r; closed = c; told = t' })) b
      by (Some n) none r c t' now = cc
      by None none (x ∷ r) c t' now = follows _ b h (same now) came (λ e. absurd (both_ways _ e refl)) turn
      by None none [] false t' now = follows _ b h (same now) came (λ e. absurd (both_ways _ e refl)) turn
      by None none [] true false now = follows _ b h (same now) came (λ e. absurd (both_ways _ e refl)) turn
      by None none [] true true now = follows _ b h (same now) came (λ e. refl) turn
