-- An application that writes and closes is moves of its lane.
use Rattle.clean_finish.proofs.Words.{◌≡◌, refl, sym, subst, ap, ◌∙◌, ℕ, ◌+◌, ◌-◌, ◌≤◌, min, Bool, true, false, cond, not, Option, None, List, [], ◌∷◌, ◌++◌}
use Rattle.clean_finish.proofs.Words.{length, arith, Some, suc, le_refl, drop, replicate, take, length-take, fold, both_ways, after_write, after_close}
use Rattle.clean_finish.proofs.Words.{write_reply, close_reply, bytes_taken, acked_len, Free, no_paths, ByteMark, is_acked, one_if, Reply, AppDuty, Write}
use Rattle.clean_finish.proofs.Words.{Close, Read, End, AppState, app_takes, app_next_round, offered, app_settled, Setting, Lane, Stage, Going, MayEndWriting}
use Rattle.clean_finish.proofs.Words.{closes, ends_writing, writes, Moves, is_writing, WriterIs, WriterShows, WriterGoes}
use Rattle.std.proofs.Common.{length-append, length-drop}
use Rattle.send_book.specs.declared.call.SendReply.TheVariants.{Closed}
use Rattle.send_book.specs.State.{Sending}

-- more marks count no fewer acknowledged bytes
marks_more : (n : ℕ) (xs ys : List ByteMark)
    → fold (λ m x. m + cond (is_acked x) 1 0) n xs ≤ fold (λ m x. m + cond (is_acked x) 1 0) n (xs ++ ys)
marks_more n (x ∷ xs) ys = marks_more (n + cond (is_acked x) 1 0) xs ys
marks_more n [] [] = le_refl n
marks_more n [] (y ∷ ys) = let more = marks_more (n + cond (is_acked y) 1 0) [] ys in omega (arith, more)

module _ (k : Setting) (s : Lane) (t : ℕ) (p : Stage) (w : Lane) where
  abbrev with_writer : ℕ → ℕ → Lane
  with_writer n c = record w { writer = record w.writer { written = n; closed = c } }

  -- the turn isn't over
  goes_on : (n c count : ℕ) (a : AppState) (b : Sending) → WriterIs k n c w.acked a b → is_writing a.agenda ≡ true
      → w.writer_over ≡ false
      → Moves k s count p w p (with_writer n c) → WriterGoes k s p w a b
  goes_on n c count a b numbers writing turn moves = record {
    writer = record w.writer { written = n; closed = c };
    count = count;
    moves = moves;
    shows = record { numbers = numbers; over = turn ∙ sym (ap not writing) };
  }

  -- the turn is over
  ends : (n c count : ℕ) (a : AppState) (b : Sending) → WriterIs k n c w.acked a b → is_writing a.agenda ≡ false
      → MayEndWriting k s (with_writer n c) → Moves k s count p w p (with_writer n c) → WriterGoes k s p w a b
  ends n c count a b numbers writing may moves = record {
    writer = record w.writer { written = n; closed = c; writer_over = true };
    count = suc count;
    moves = (p, with_writer n c, moves, ends_writing may);
    shows = record { numbers = numbers; over = sym (ap not writing) };
  }

  -- the stream is closed once the file is written
  closing : (told : Bool) (a : AppState) (b : Sending) → Going k s t p w
      → WriterIs k w.written w.closed w.acked (record a { rest = [] }) b
      → WriterGoes k s p w (app_takes (Reply.Send Closed)
      (record a { rest = []; told = told; agenda = Close ∷ Read ∷ End ∷ [] }))
      (record b { closed = true })
  closing told a b h is = by told
    where
      all : w.written ≡ k.total
      all = omega (arith, is.bytes, is.file)

      moves : Moves k s 1 p w p (with_writer w.written 1)
      moves = (p, w, (refl, refl), closes 1 (record { more = h.numbers.closed; whole = omega (arith, all) }))

      may : MayEndWriting k s (with_writer w.written 1)
      may = record { wrote = omega (arith, all); closed = omega (arith, all) }

      now : (ds : List AppDuty) (b' : Bool)
          → WriterIs k w.written 1 w.acked (record a { rest = []; closed = true; told = b'; agenda = ds })
          (record b { closed = true })
      now ds b' = record {
        file = is.file;
        bytes = is.bytes;
        shut = refl;
        told = refl;
        whole = λ _. refl;
        heard = is.heard;
        offers = is.offers;
        buffer = is.buffer;
        unaborted = is.unaborted;
        stays = is.stays;
      }

      by : (b' : Bool)
          → WriterGoes k s p w (app_takes (Reply.Send Closed)
          (record a { rest = []; told = b'; agenda = Close ∷ Read ∷ End ∷ [] }))
          (record b { closed = true })
      by false = ends w.written 1 1 _ _ (now (Read ∷ End ∷ []) false) refl may moves
      by true = ends w.written 1 1 _ _ (now (End ∷ []) true) refl may moves

  -- the next part of the file is written, as far as the book has room
  writing : (a : AppState) (b : Sending) → Going k s t p w
      → WriterIs k w.written w.closed w.acked (record a { closed = false }) (record b { closed = false })
      → w.writer_over ≡ false → 1 ≤ length a.rest → k.total ≤ 16777216 → (n : ℕ) → n ≡ bytes_taken (offered a) b
      → (told : Bool) (rest : List ℕ) → rest ≡ drop n a.rest
      → WriterGoes k s p w (app_settled (Close ∷ Read ∷ End ∷ [])
      (record a { rest = rest; closed = false; told = told; agenda = Close ∷ Read ∷ End ∷ [] }))
      (record b { closed = false; written = b.written ++ take n (offered a); marks = b.marks ++ replicate n (Free no_paths) })
  writing a b h is turn some small n count told rest left = by rest left told
    where
      len : length (b.written ++ take n (offered a)) ≡ length b.written + n
      len = let one = length-append b.written (take n (offered a)) in
          let two = length-take n (offered a) in omega (arith, one, two, count)

      least : length (drop n a.rest) ≡ length a.rest - n
      least = length-drop n a.rest

      offer : length (offered a) ≡ min a.buffer (length a.rest)
      offer = length-take a.buffer a.rest

      heard : w.acked ≤ acked_len b.marks
      heard = omega (arith, is.heard, is.bytes, is.file, some, h.numbers)

      more_marks : acked_len b.marks ≤ acked_len (b.marks ++ replicate n (Free no_paths))
      more_marks = marks_more 0 b.marks (replicate n (Free no_paths))

      some_left : (r : List ℕ) → r ≡ drop n a.rest → length b.written + n + length r ≡ k.total
      some_left r e =
          let size : length r ≡ length (drop n a.rest) = ap length e in
          omega (arith, size, least, is.file, count, offer)

      now : (r : List ℕ) → r ≡ drop n a.rest → (b' : Bool) (ds : List AppDuty)
          → WriterIs k (length b.written + n) w.closed w.acked
          (record a { rest = r; closed = false; told = b'; agenda = ds })
          (record b { closed = false; written = b.written ++ take n (offered a); marks = b.marks ++ replicate n (Free no_paths) })
      now r e b' ds = record {
        file = let left = some_left r e in omega (arith, left, len);
        bytes = sym len;
        shut = is.shut;
        told = refl;
        whole = λ c. absurd (both_ways _ refl c);
        heard = omega (arith, heard, more_marks);
        offers = is.offers;
        buffer = is.buffer;
        unaborted = is.unaborted;
        stays = is.stays;
      }

      moves : (r : List ℕ) → r ≡ drop n a.rest → Moves k s 1 p w p (with_writer (length b.written + n) w.closed)
      moves r e = let left = some_left r e in (
        p,
        w,
        (refl, refl),
        writes (length b.written + n)
            (record { turn = turn; more = omega (arith, is.bytes); within = omega (arith, left) }),
      )

      -- more of the file is left, so the book is full
      may : (x : ℕ) (r : List ℕ) → x ∷ r ≡ drop n a.rest → MayEndWriting k s (with_writer (length b.written + n) w.closed)
      may x r e =
          let left = some_left (x ∷ r) e in
          let since = h.since.acked in
          record {
            wrote = omega (arith, left, count, offer, is.file, is.offers, is.buffer, heard, since, small);
            closed = omega (arith, left);
          }

      by : (r : List ℕ) → r ≡ drop n a.rest → (b' : Bool)
          → WriterGoes k s p w (app_settled (Close ∷ Read ∷ End ∷ [])
          (record a { rest = r; closed = false; told = b'; agenda = Close ∷ Read ∷ End ∷ [] }))
          (record b { closed = false; written = b.written ++ take n (offered a); marks = b.marks ++ replicate n (Free no_paths) })
      by [] e b' =
          goes_on (length b.written + n) w.closed 1 _ _ (now [] e b' (Close ∷ Read ∷ End ∷ [])) refl turn (moves [] e)
      by (x ∷ r) e false =
          ends (length b.written + n) w.closed 1 _ _ (now (x ∷ r) e false (Read ∷ End ∷ [])) refl (may x r e) (moves
          (x ∷ r) e)
      by (x ∷ r) e true =
          ends (length b.written + n) w.closed 1 _ _ (now (x ∷ r) e true (End ∷ [])) refl (may x r e) (moves (x ∷ r) e)

  pub close_step : (a : AppState) (b : Sending) → Going k s t p w → WriterShows k w a b
      → a.agenda ≡ Close ∷ Read ∷ End ∷ [] → a.rest ≡ []
      → WriterGoes k s p w (app_takes (Reply.Send (close_reply b)) a) (after_close b)
  close_step a b h shows at none =
      subst (λ (ds : List AppDuty). Goes ds a.rest b.aborted) (sym at)
      (subst (λ (r : List ℕ). Goes (Close ∷ Read ∷ End ∷ []) r b.aborted) (sym none)
      (subst (λ (ab : Bool). Goes (Close ∷ Read ∷ End ∷ []) [] ab) (sym shows.numbers.unaborted)
      (closing a.told a (record b { aborted = false }) h now)))
    where
      Goes : List AppDuty → List ℕ → Bool → Type 0
      Goes ds r ab =
          WriterGoes k s p w (app_takes (Reply.Send (close_reply (record b { aborted = ab })))
          (record a { rest = r; agenda = ds }))
          (after_close (record b { aborted = ab }))

      now : WriterIs k w.written w.closed w.acked (record a { rest = [] }) (record b { aborted = false })
      now = subst (λ (r : List ℕ). WriterIs k w.written w.closed w.acked (record a { rest = r })
          (record b { aborted = false })) none
          (subst (λ (ab : Bool). WriterIs k w.written w.closed w.acked a (record b { aborted = ab }))
          shows.numbers.unaborted shows.numbers)

  pub write_step : (a : AppState) (b : Sending) → Going k s t p w → WriterShows k w a b
      → a.agenda ≡ Write ∷ Close ∷ Read ∷ End ∷ []
      → 1 ≤ length a.rest → k.total ≤ 16777216
      → WriterGoes k s p w (app_takes (Reply.Send (write_reply (offered a) b)) a) (after_write (offered a) b)
  write_step a b h shows at some small =
      subst (λ (ds : List AppDuty). Goes ds a.closed b.closed b.aborted) (sym at)
      (subst (λ (c : Bool). Goes duties c b.closed b.aborted) (sym (shows.numbers.told ∙ unclosed))
      (subst (λ (c : Bool). Goes duties false c b.aborted) (sym unclosed)
      (subst (λ (ab : Bool). Goes duties false false ab) (sym shows.numbers.unaborted)
      (writing a b' h now turn some small (bytes_taken (offered a) b') refl a.told
      (drop (bytes_taken (offered a) b') a.rest) refl))))
    where
      duties : List AppDuty
      duties = Write ∷ Close ∷ Read ∷ End ∷ []

      b' : Sending
      b' = record b { closed = false; aborted = false }

      Goes : List AppDuty → Bool → Bool → Bool → Type 0
      Goes ds c1 c2 ab = WriterGoes k s p w
          (app_takes (Reply.Send (write_reply (offered a) (record b { closed = c2; aborted = ab })))
          (record a { closed = c1; agenda = ds }))
          (after_write (offered a) (record b { closed = c2; aborted = ab }))

      unclosed : b.closed ≡ false
      unclosed = by b.closed shows.numbers.whole
        where
          by : (c : Bool) → (c ≡ true → a.rest ≡ []) → c ≡ false
          by false whole = refl
          by true whole = absurd (subst (λ (r : List ℕ). 1 ≤ length r → ⊥) (sym (whole refl)) (λ e. omega (arith, e)) some)

      turn : w.writer_over ≡ false
      turn = shows.over ∙ ap (λ (ds : List AppDuty). not (is_writing ds)) at

      now : WriterIs k w.written w.closed w.acked (record a { closed = false }) (record b' { closed = false })
      now = subst (λ (c : Bool). WriterIs k w.written w.closed w.acked (record a { closed = c })
          (record b' { closed = false })) (shows.numbers.told ∙ unclosed)
          (subst (λ (c : Bool). WriterIs k w.written w.closed w.acked a (record b { closed = c; aborted = false })) unclosed
          (subst (λ (ab : Bool). WriterIs k w.written w.closed w.acked a (record b { aborted = ab }))
          shows.numbers.unaborted shows.numbers))

  -- a turn begins
  pub turn_begins : (a : AppState) (b : Sending) → Going k s t p w → WriterIs k w.written w.closed w.acked a b
      → w.writer_over ≡ false
      → WriterGoes k s p w (app_next_round a) b
  turn_begins a b h is turn = by a.stops_in is.stays a.rest a.closed a.told is
    where
      still : Moves k s 0 p w p (with_writer w.written w.closed)
      still = (refl, refl)

      -- the count and the duties don't matter
      same : {a' : AppState} {n : ℕ} {ds : List AppDuty} → WriterIs k w.written w.closed w.acked a' b
          → WriterIs k w.written w.closed w.acked (record a' { count = n; agenda = ds }) b
      same {a'} {n} {ds} now = record {
        file = now.file;
        bytes = now.bytes;
        shut = now.shut;
        told = now.told;
        whole = now.whole;
        heard = now.heard;
        offers = now.offers;
        buffer = now.buffer;
        unaborted = now.unaborted;
        stays = now.stays;
      }

      may : {o : Option ℕ} {b' : Bool}
          → WriterIs k w.written w.closed w.acked (record a { stops_in = o; rest = []; closed = true; told = b' }) b
          → MayEndWriting k s (with_writer w.written w.closed)
      may now =
          let shut : w.closed ≡ 1 = now.shut ∙ ap one_if (sym now.told) in
          record { wrote = omega (arith, now.file, now.bytes); closed = omega (arith, now.file, now.bytes, shut) }

      stays : (a' : AppState) → WriterIs k w.written w.closed w.acked a' b → is_writing a'.agenda ≡ true
          → WriterGoes k s p w a' b
      stays a' now writing = goes_on w.written w.closed 0 a' b now writing turn still

      by : (o : Option ℕ) → o ≡ None → (r : List ℕ) (c b' : Bool)
          → WriterIs k w.written w.closed w.acked (record a { stops_in = o; rest = r; closed = c; told = b' }) b
          → WriterGoes k s p w (app_next_round (record a { stops_in = o; rest = r; closed = c; told = b' })) b
      by (Some n) none r c b' now = cc
      by None none (x ∷ r) c b' now = stays _ (same now) refl
      by None none [] false b' now = stays _ (same now) refl
      by None none [] true false now = ends w.written w.closed 0 _ b (same now) refl (may now) still
      by None none [] true true now = ends w.written w.closed 0 _ b (same now) refl (may now) still
