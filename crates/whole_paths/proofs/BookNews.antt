-- What became of a byte stays so: it is acknowledged, tried or let go for ever.
use Rattle.std.proofs.Common.{◌≡◌, refl, sym, subst, ap, ◌∙◌, ⊎_elim, ℕ, zero, suc, ◌+◌, ◌*◌, ◌<◌, ◌≤◌, ◌==◌, arith, Bool, true, false, true≢false, not, ◌&&◌, if◌then◌else◌, Option, Some, None, List, [], ◌∷◌, ◌++◌, length, length-append}
use Rattle.octet_text.specs.Prefix.{IsPrefix}
use Rattle.std.specs.List.{slice_get}
use Rattle.std.proofs.lemmas.Bool.{cases_lt, eq-eqb}
use Rattle.std.proofs.lemmas.List.{length-map, length-set}
use Rattle.std.proofs.lemmas.Option.{slice_get_within}
use Rattle.std.proofs.Math.Nat.{mul-le-mul_left, suc-mul}
use Rattle.std.proofs.lemmas.List.Sums.{count_by-le-length}
use Rattle.sides.specs.declared.side.Side.{Side}
use Rattle.sides.specs.declared.side.Side.TheVariants.{A, B}
use Rattle.send_book.specs.declared.call.SendCall.{SendCall}
use Rattle.send_book.specs.declared.mark.ByteMark.{ByteMark}
use Rattle.send_book.specs.declared.mark.ByteMark.TheVariants.{Acked, Held, Free}
use Rattle.send_book.specs.Marks.{is_acked, returned}
use Rattle.send_book.specs.Tried.{contains}
use Rattle.send_book.proofs.PathSets.{contains-insert_more}
use Rattle.stream_lanes.specs.Marks.{spent, spent_count}
use Rattle.actor_desk.specs.Desk.{SixBooks, after_ask, send_of}
use Rattle.actor_desk.specs.Words.{pick}
use Rattle.actor_desk.specs.declared.ask.Ask.{Ask}
use Rattle.path_core.specs.Codec.{Codec}
use Rattle.path_core.specs.State.{PathState}
use Rattle.path_core.specs.Values.{values}
use Rattle.world_laws.specs.Openings.{PathPlan, Start, opened_world, paths_from}
use Rattle.world_laws.specs.Promises.{written_by}
use Rattle.world_laws.specs.RoundDone.{reached}
use Rattle.world_laws.specs.Worlds.{Turn, WorldState, world_run}
use Rattle.world_laws.proofs.Weaving.WholeRounds.{run_append}
use Rattle.world_laws.proofs.Worlds.CastLifting.{writes_the_files}
use Rattle.world_laws.proofs.Worlds.Turns.{run_so}
use Rattle.whole_paths.specs.BookNews.{BookNewsIsBounded, BookNewsNeverFalls, EachByteCounts, WhatIsGivenBackCounts, byte_news, is_free}
use Rattle.whole_paths.specs.Finish.{IsPathAt}
use Rattle.whole_paths.specs.GivenBack.{given_back}
use Rattle.whole_paths.specs.Holders.{holds, let_go}
use Rattle.whole_paths.proofs.GivenBack.{ask_lets_go, ask_marks, count_rises, count_up, marks_are_right, rightly}
use Rattle.whole_paths.proofs.Holding.{holders_live}
use Rattle.whole_paths.proofs.MarkSteps.{MarkStep}
use Rattle.whole_paths.proofs.MarkSteps.MarkStep.{same, is_written, gives, acked, returns}
use Rattle.whole_paths.proofs.TriedBytes.{marks_are_whole}
use Rattle.whole_paths.proofs.Turns.{books_by_turns}

-- ---- what stays by a call

abbrev pub is_done : Option ByteMark → Bool
is_done None = false
is_done (Some mark) = is_acked mark

done_stays : (call : SendCall) (o q : Option ByteMark) → MarkStep call o q → is_done o ≡ true → is_done q ≡ true
done_stays call o q (same is) h = ap is_done is ∙ h
done_stays call o q (is_written none is) h = absurd (true≢false (sym h ∙ ap is_done none))
done_stays call o q (gives asker max standby among asks there untried is) h = absurd (true≢false (sym h ∙ ap is_done there))
done_stays call o q (acked m there is) h = ap is_done is
done_stays call o q (returns asker m asks there is) h = ap is_done is ∙ by m (sym (ap is_done there) ∙ h)
  where
    by : (m : ByteMark) → is_acked m ≡ true → is_acked (returned asker m) ≡ true
    by Acked is = is
    by (Held holder among) is = absurd (true≢false (sym is))
    by (Free among) is = absurd (true≢false (sym is))

spent_if : (path holder : ℕ) (among : List Bool) (c : Bool) → contains path among ≡ true → spent path (Some (if c then Free among else Held holder among)) ≡ true
spent_if path holder among true h = h
spent_if path holder among false h = h

pub spent_returned : (path asker : ℕ) (m : ByteMark) → spent path (Some m) ≡ true → spent path (Some (returned asker m)) ≡ true
spent_returned path asker Acked h = h
spent_returned path asker (Held holder among) h = spent_if path holder among (holder == asker) h
spent_returned path asker (Free among) h = h

pub spent_stays : (path : ℕ) (call : SendCall) (o q : Option ByteMark) → MarkStep call o q → spent path o ≡ true → spent path q ≡ true
spent_stays path call o q (same is) h = ap (spent path) is ∙ h
spent_stays path call o q (is_written none is) h = absurd (true≢false (sym h ∙ ap (spent path) none))
spent_stays path call o q (gives asker max standby among asks there untried is) h = ap (spent path) is ∙ contains-insert_more asker path among (sym (ap (spent path) there) ∙ h)
spent_stays path call o q (acked m there is) h = ap (spent path) is
spent_stays path call o q (returns asker m asks there is) h = ap (spent path) is ∙ spent_returned path asker m (sym (ap (spent path) there) ∙ h)

-- a mark is there
abbrev is_there : Option ByteMark → Bool
is_there None = false
is_there (Some mark) = true

there_stays : (call : SendCall) (o q : Option ByteMark) → MarkStep call o q → is_there o ≡ true → is_there q ≡ true
there_stays call o q (same is) h = ap is_there is ∙ h
there_stays call o q (is_written none is) h = ap is_there is
there_stays call o q (gives asker max standby among asks there untried is) h = ap is_there is
there_stays call o q (acked m there is) h = ap is_there is
there_stays call o q (returns asker m asks there is) h = ap is_there is

-- ---- from one book to a later one

-- each byte is as far
pub record AreAsFar (ms ns : List ByteMark) : Type 0 where
  pub there : (place : ℕ) → is_there (slice_get ms place) ≡ true → is_there (slice_get ns place) ≡ true
  pub done : (place : ℕ) → is_done (slice_get ms place) ≡ true → is_done (slice_get ns place) ≡ true
  pub spent_so : (path place : ℕ) → spent path (slice_get ms place) ≡ true → spent path (slice_get ns place) ≡ true
  pub gone : (path place : ℕ) → let_go path (slice_get ms place) ≡ true → let_go path (slice_get ns place) ≡ true

pub as_far_then : (ms ns os : List ByteMark) → AreAsFar ms ns → AreAsFar ns os → AreAsFar ms os
as_far_then ms ns os x y = record {
  there = λ place h. y.there place (x.there place h);
  done = λ place h. y.done place (x.done place h);
  spent_so = λ path place h. y.spent_so path place (x.spent_so path place h);
  gone = λ path place h. y.gone path place (x.gone path place h);
}

pub as_far_same : (ms : List ByteMark) → AreAsFar ms ms
as_far_same ms = record { there = λ place h. h; done = λ place h. h; spent_so = λ path place h. h; gone = λ path place h. h }

pub ask_as_far : (s : Side) (x : Ask) (six : SixBooks) → AreAsFar (send_of s six).marks (send_of s (after_ask x six)).marks
ask_as_far s x six = record {
  there = λ place. ask_marks s place x six (λ o q. is_there o ≡ true → is_there q ≡ true) (λ o h. h) (λ call o q step. there_stays call o q step);
  done = λ place. ask_marks s place x six (λ o q. is_done o ≡ true → is_done q ≡ true) (λ o h. h) (λ call o q step. done_stays call o q step);
  spent_so = λ path place. ask_marks s place x six (λ o q. spent path o ≡ true → spent path q ≡ true) (λ o h. h) (λ call o q step. spent_stays path call o q step);
  gone = λ path place. ask_lets_go s path place x six;
}

pub news_up : (n : ℕ) (ms ns : List ByteMark) → AreAsFar ms ns → byte_news n ms ≤ byte_news n ns
news_up zero ms ns h = count_up is_done refl ms ns h.done
news_up (suc path) ms ns h =
    let one = count_up (spent path) refl ms ns (h.spent_so path) in let two = count_up (let_go path) refl ms ns (h.gone path) in let rest = news_up path ms ns h in omega (arith, one, two, rest)

-- a byte is acknowledged; or tried by one of the paths
done_rises : (n : ℕ) (ms ns : List ByteMark) → AreAsFar ms ns → (place : ℕ) → is_done (slice_get ms place) ≡ false → is_done (slice_get ns place) ≡ true → byte_news n ms < byte_news n ns
done_rises zero ms ns h place was now = count_rises is_done refl place ms ns h.done was now
done_rises (suc path) ms ns h place was now =
    let one = count_up (spent path) refl ms ns (h.spent_so path) in let two = count_up (let_go path) refl ms ns (h.gone path) in
    let rest = done_rises path ms ns h place was now in omega (arith, one, two, rest)

pub spent_rises : (n path : ℕ) (ms ns : List ByteMark) → AreAsFar ms ns → path < n → (place : ℕ) → spent path (slice_get ms place) ≡ false → spent path (slice_get ns place) ≡ true → byte_news n ms < byte_news n ns
spent_rises zero path ms ns h low place was now = absurd (omega (arith, low))
spent_rises (suc n) path ms ns h low place was now = ⊎_elim
    (λ less. let one = count_up (spent n) refl ms ns (h.spent_so n) in let two = count_up (let_go n) refl ms ns (h.gone n) in
    let rest = spent_rises n path ms ns h less place was now in omega (arith, one, two, rest))
    (λ high. let one = count_rises (spent path) refl place ms ns (h.spent_so path) was now in let two = count_up (let_go n) refl ms ns (h.gone n) in let rest = news_up n ms ns h in
    let last : path ≡ n = omega (arith, low, high) in
    let at : spent_count n ms < spent_count n ns = subst (λ (i : ℕ). spent_count i ms < spent_count i ns) last one in omega (arith, at, two, rest))
    (cases_lt path n)

back_rises : (n path : ℕ) (ms ns : List ByteMark) → AreAsFar ms ns → path < n → given_back path ms < given_back path ns → byte_news n ms < byte_news n ns
back_rises zero path ms ns h low more = absurd (omega (arith, low))
back_rises (suc n) path ms ns h low more = ⊎_elim
    (λ less. let one = count_up (spent n) refl ms ns (h.spent_so n) in let two = count_up (let_go n) refl ms ns (h.gone n) in let rest = back_rises n path ms ns h less more in omega (arith, one, two, rest))
    (λ high. let one = count_up (spent n) refl ms ns (h.spent_so n) in let rest = news_up n ms ns h in let last : path ≡ n = omega (arith, low, high) in
    let at : given_back n ms < given_back n ns = subst (λ (i : ℕ). given_back i ms < given_back i ns) last more in omega (arith, at, one, rest))
    (cases_lt path n)

free_before : (path : ℕ) (o : Option ByteMark) → is_free path o ≡ true → (among : List Bool) × (o ≡ Some (Free among)) × (contains path among ≡ false)
free_before path None free = absurd (true≢false (sym free))
free_before path (Some Acked) free = absurd (true≢false (sym free))
free_before path (Some (Held holder among)) free = absurd (true≢false (sym free))
free_before path (Some (Free among)) free = (among, refl, by (contains path among) free)
  where
    by : (c : Bool) → not c ≡ true → c ≡ false
    by true is = absurd (true≢false (sym is))
    by false is = refl

-- A byte was granted to a path of the connection, or acknowledged: a path may be granted it no more that might before.
pub record IsSpentNow (n place : ℕ) (ms ns : List ByteMark) : Type 0 where
  pub other : ℕ
  pub low : other < n
  pub was : spent other (slice_get ms place) ≡ false
  pub now : spent other (slice_get ns place) ≡ true

-- a byte that was free for a path, and isn't any longer
pub free_spent : (n path place : ℕ) (ms ns : List ByteMark) → AreAsFar ms ns → path < n → is_free path (slice_get ms place) ≡ true → is_free path (slice_get ns place) ≡ false
    → rightly (slice_get ns place) ≡ true → ((holder : ℕ) → holds holder (slice_get ns place) ≡ true → holder < n) → IsSpentNow n place ms ns
free_spent n path place ms ns h low free taken right known = by (slice_get ns place) refl
  where
    was : (among : List Bool) × (slice_get ms place ≡ Some (Free among)) × (contains path among ≡ false)
    was = free_before path (slice_get ms place) free

    unspent : (x : ℕ) → contains x was.0 ≡ false → spent x (slice_get ms place) ≡ false
    unspent x is = ap (spent x) was.1 ∙ is

    held : (holder : ℕ) (among : List Bool) → slice_get ns place ≡ Some (Held holder among) → (c : Bool) → contains holder was.0 ≡ c → IsSpentNow n place ms ns
    held holder among is true tried = absurd (true≢false (sym (h.gone holder place (ap (let_go holder) was.1 ∙ tried)) ∙ ap (let_go holder) is ∙ own (contains holder among) (holder == holder) (eq-eqb holder holder refl)))
      where
        own : (b c : Bool) → c ≡ true → (b && not c) ≡ false
        own true true is = refl
        own false true is = refl
        own b false is = absurd (true≢false (sym is))
    held holder among is false tried = record {
      other = holder;
      low = known holder (ap (holds holder) is ∙ eq-eqb holder holder refl);
      was = unspent holder tried;
      now = ap (spent holder) is ∙ (sym (ap rightly is) ∙ right);
    }

    by : (o : Option ByteMark) → slice_get ns place ≡ o → IsSpentNow n place ms ns
    by None is = absurd (true≢false (sym (h.there place (ap is_there was.1)) ∙ ap is_there is))
    by (Some Acked) is = record { other = path; low = low; was = unspent path was.2; now = ap (spent path) is }
    by (Some (Held holder among)) is = held holder among is (contains holder was.0) refl
    by (Some (Free among)) is = record { other = path; low = low; was = unspent path was.2; now = ap (spent path) is ∙ tried (contains path among) (sym (ap (is_free path) is) ∙ taken) }
      where
        tried : (c : Bool) → not c ≡ false → c ≡ true
        tried true is = refl
        tried false is = absurd (true≢false is)

pub free_counts : (n path place : ℕ) (ms ns : List ByteMark) → AreAsFar ms ns → path < n → is_free path (slice_get ms place) ≡ true → is_free path (slice_get ns place) ≡ false
    → rightly (slice_get ns place) ≡ true → ((holder : ℕ) → holds holder (slice_get ns place) ≡ true → holder < n) → byte_news n ms < byte_news n ns
free_counts n path place ms ns h low free taken right known = let t = free_spent n path place ms ns h low free taken right known in spent_rises n t.other ms ns h t.low place t.was t.now

-- ---- how many paths there are

module _ {C : Type 0} (k : Codec C) (start : Start) where
  paths_long : (number : ℕ) (plans : List PathPlan) → length (paths_from {C = C} start number plans) ≡ length plans
  paths_long number [] = refl
  paths_long number (plan ∷ plans) = ap suc (paths_long (suc number) plans)

  pub crew_long : (turns : List Turn) → length (reached k start turns).crew ≡ suc (suc (length start.paths))
  crew_long turns = run_so k (λ w. length w.crew ≡ suc (suc (length start.paths))) (λ w h actor c x there asking. length-set w.crew actor _ ∙ h) (λ w h over. length-map w.crew _ ∙ h) turns (opened_world start)
      (ap (λ n. suc (suc n)) (paths_long 0 start.paths))

  pub number_low : (turns : List Turn) (number : ℕ) (p : PathState C) → IsPathAt number (reached k start turns) p → number < length start.paths
  number_low turns number p here = let low = slice_get_within (reached k start turns).crew (2 + number) here.crew here.there in let long = crew_long turns in omega (arith, low, long)

  -- ---- laws

  pub marks_as_far : (turns more : List Turn) (s : Side) → let w = reached k start turns in AreAsFar (written_by s w).marks (written_by s (world_run k more w)).marks
  marks_as_far turns more s =
      let w = reached k start turns in
      books_by_turns k (λ six. AreAsFar (written_by s w).marks (send_of s six).marks)
      (λ x six h. as_far_then (written_by s w).marks (send_of s six).marks (send_of s (after_ask x six)).marks h (ask_as_far s x six)) more w (as_far_same (written_by s w).marks)

  pub holders_low : (turns : List Turn) (s : Side) (place holder : ℕ) → holds holder (slice_get (written_by s (reached k start turns)).marks place) ≡ true → holder < length start.paths
  holders_low turns s place holder held = let found = (holders_live k start turns).each s holder place held in number_low turns holder found.0 found.1

module _ {C : Type 0} (k : Codec C) where
  pub book_news_never_falls : BookNewsNeverFalls k
  book_news_never_falls start before more s =
      news_up (length start.paths) (written_by s (reached k start before)).marks (written_by s (world_run k more (reached k start before))).marks (marks_as_far k start before more s)

  pub each_byte_counts : EachByteCounts k
  each_byte_counts start before more s path place low free taken =
      let same : reached k start (before ++ more) ≡ world_run k more (reached k start before) = run_append k before more (opened_world start) in
      free_counts (length start.paths) path place (written_by s (reached k start before)).marks (written_by s (world_run k more (reached k start before))).marks (marks_as_far k start before more s) low free taken
      (subst (λ (u : WorldState C). rightly (slice_get (written_by s u).marks place) ≡ true) same (marks_are_right k start (before ++ more) s place))
      (λ holder. subst (λ (u : WorldState C). holds holder (slice_get (written_by s u).marks place) ≡ true → holder < length start.paths) same (holders_low k start (before ++ more) s place holder))

module _ {C : Type 0} (k : Codec C) where
  pub what_is_given_back_counts : WhatIsGivenBackCounts k
  what_is_given_back_counts start before more s path low rises =
      back_rises (length start.paths) path (written_by s (reached k start before)).marks (written_by s (world_run k more (reached k start before))).marks (marks_as_far k start before more s) low rises

byte_news_most : (n : ℕ) (ms : List ByteMark) → byte_news n ms ≤ length ms + 2 * (n * length ms)
byte_news_most zero ms = let most = count_by-le-length is_acked ms in omega (arith, most)
byte_news_most (suc path) ms =
    let rest = byte_news_most path ms in let one = count_by-le-length (λ m. spent path (Some m)) ms in let two = count_by-le-length (λ m. let_go path (Some m)) ms in
    omega (arith, rest, one, two, suc-mul path (length ms))

pub book_news_is_bounded : BookNewsIsBounded
book_news_is_bounded start turns size s =
    let most = byte_news_most (length start.paths) (written_by s (reached values start turns)).marks in let whole = marks_are_whole start turns size s in let file = fits s in
    let all = by whole file in let more = mul-le-mul_left (length start.paths) all in omega (arith, most, all, more)
  where
    prefix_len : (xs ys : List ℕ) → IsPrefix xs ys → length xs ≤ length ys
    prefix_len xs ys h = (let whole = ap (λ (zs : List ℕ). length zs) h.whole_is in omega (arith, whole, length-append xs h.rest))

    fits : (s : Side) → length (written_by s (reached values start turns)).written ≤ length (pick s start.file_a start.file_b)
    fits A = prefix_len _ _ (writes_the_files values start turns).a.prefix
    fits B = prefix_len _ _ (writes_the_files values start turns).b.prefix

    by : length (written_by s (reached values start turns)).marks ≡ length (written_by s (reached values start turns)).written → length (written_by s (reached values start turns)).written ≤ length (pick s start.file_a start.file_b)
        → length (written_by s (reached values start turns)).marks ≤ length (pick s start.file_a start.file_b)
    by whole file = omega (arith, whole, file)
