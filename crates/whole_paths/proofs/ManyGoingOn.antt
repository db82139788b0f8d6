-- Where all bytes are acknowledged that were written, a side writes, closes or says where its stream ends within two rounds, over any number of paths.
use Rattle.std.proofs.Common.{◌≡◌, refl, sym, subst, ap, ◌∙◌, inl, inr, ◌⊎◌, ⊎_elim, ℕ, ◌+◌, ◌<◌, ◌≤◌, arith, Bool, true, false, is_some, Option, Some, None, List, [], ◌∷◌, ◌++◌, append_assoc, length}
use Rattle.std.specs.List.{slice_get}
use Rattle.std.proofs.lemmas.Bool.{both_ways, cases_lt}
use Rattle.std.proofs.lemmas.List.{append-nil}
use Rattle.std.proofs.lemmas.Option.{same_Some}
use Rattle.sides.specs.declared.side.Side.{Side}
use Rattle.sides.specs.declared.side.Side.TheVariants.{A, B}
use Rattle.sides.specs.Side.{peer}
use Rattle.send_book.specs.State.{acked_len}
use Rattle.reassembly_book.specs.State.{received}
use Rattle.subflow_tcp.specs.States.{may_finish}
use Rattle.actor_desk.specs.Books.{StampedBooks, books_in}
use Rattle.actor_desk.specs.Desk.{send_of}
use Rattle.actor_desk.specs.Words.{pick}
use Rattle.path_core.specs.Modes.{sends_plainly}
use Rattle.path_core.specs.State.{PathState, end_at}
use Rattle.path_core.specs.Values.{Carried, values}
use Rattle.world_laws.specs.Actors.{is_over}
use Rattle.world_laws.specs.Members.{HoldsOfKind}
use Rattle.world_laws.specs.Openings.{Start, opened_world}
use Rattle.world_laws.specs.Promises.{arrived_at, written_by}
use Rattle.world_laws.specs.RoundDone.{reached}
use Rattle.world_laws.specs.RoundNumbers.{BeginsRound, after_steps}
use Rattle.world_laws.specs.Worlds.{Turn, WorldState, all_over, end_round, goes, is_going, world_run}
use Rattle.world_laws.proofs.Rounds.Lifting.{all_over_each}
use Rattle.world_laws.proofs.Weaving.WholeRounds.{run_append}
use Rattle.whole_paths.specs.AsFar.{IsSideAsFar}
use Rattle.whole_paths.specs.CountedCourses.{counted_with}
use Rattle.whole_paths.specs.Delivery.{AllIsThere, FinishedIsThere, HasFinished, IsAllThere}
use Rattle.whole_paths.specs.GoingOn.{steps_of}
use Rattle.whole_paths.specs.KnownEnds.{ClosedIsAcknowledged, WaitsForNoEnd}
use Rattle.whole_paths.specs.ManyGoingOn.{AwaitsItsEnd, HasMore, IsAboutToGoOnBy, PathsGoOn}
use Rattle.whole_paths.specs.ManyGoingOn.IsAboutToGoOnBy.{this_round, next_round}
use Rattle.whole_paths.specs.Mild.{EndsGoByMappings, IsMildStart}
use Rattle.whole_paths.specs.News.{Gains}
use Rattle.whole_paths.specs.ReturnWaits.{all_news}
use Rattle.whole_paths.specs.Unstopped.{NothingIsStopped}
use Rattle.whole_paths.specs.Writers.{GoesOnWriting}
use Rattle.whole_paths.proofs.BookNews.{book_news_never_falls}
use Rattle.whole_paths.proofs.Courses.{harmed_append}
use Rattle.whole_paths.proofs.FinishedThere.{each_finished_is_there}
use Rattle.whole_paths.proofs.GoingOn.{one_more, open_behind, plain_none, prefix_up, same_books, sides_far, there_or}
use Rattle.whole_paths.proofs.InTime.{nil_so}
use Rattle.whole_paths.proofs.KnownEnds.{what_is_closed_is_acknowledged}
use Rattle.whole_paths.proofs.Mild.{mapping_is_kept}
use Rattle.whole_paths.proofs.News.{each_gain_counts}
use Rattle.whole_paths.proofs.Unstopped.{sides_are_never_stopped}
use Rattle.whole_paths.proofs.Writers.{writers_go_on}

-- ---- what is counted

module _ (start : Start) (number : ℕ) where
  abbrev at : List Turn → WorldState Carried
  at turns = reached values start turns

  abbrev count : List Turn → ℕ
  count turns = counted_with start number turns

  runs : (turns more : List Turn) → at (turns ++ more) ≡ world_run values more (at turns)
  runs turns more = run_append values turns more (opened_world start)

  -- with what a side gains
  gain_counts : (turns more : List Turn) (s : Side) → Gains s (books_in (at turns).books) (books_in (at (turns ++ more)).books) → count turns < count (turns ++ more)
  gain_counts turns more s gain =
      let rises = each_gain_counts values start turns more s (subst (λ (w : WorldState Carried). Gains s (books_in (at turns).books) (books_in w.books)) (runs turns more) gain) in
      let a = book_news_never_falls values start turns more A in
      let b = book_news_never_falls values start turns more B in
      let up : all_news start (at turns) < all_news start (world_run values more (at turns)) = omega (arith, rises, a, b) in
      let moved : all_news start (at turns) < all_news start (at (turns ++ more)) = subst (λ (w : WorldState Carried). all_news start (at turns) < all_news start w) (sym (runs turns more)) up in
      let harms = harmed_append values number turns more (opened_world start) in
      omega (arith, moved, harms)

  -- with all of a stream that is there at last
  all_counts : (turns more : List Turn) (s : Side) → (IsAllThere s (at turns) → ⊥) → IsAllThere s (at (turns ++ more)) → count turns < count (turns ++ more)
  all_counts turns more s never later = by_closed (written_by s (at turns)).closed refl
    where
      own : IsSideAsFar s (books_in (at turns).books) (books_in (at (turns ++ more)).books)
      own = sides_far start turns more s

      theirs : IsSideAsFar (peer s) (books_in (at turns).books) (books_in (at (turns ++ more)).books)
      theirs = sides_far start turns more (peer s)

      written : length (written_by s (at turns)).written ≤ length (written_by s (at (turns ++ more))).written
      written = prefix_up (written_by s (at turns)).written (written_by s (at (turns ++ more))).written own.send.written

      by_known : (written_by s (at turns)).closed ≡ true → length (written_by s (at turns)).written ≡ length (written_by s (at (turns ++ more))).written
          → received (arrived_at (peer s) (at turns)) ≡ length (written_by s (at turns)).written → (o : Option ℕ) → (arrived_at (peer s) (at turns)).known_end ≡ o → count turns < count (turns ++ more)
      by_known closed same all None known = gain_counts turns more (peer s) (Gains.learns (ap is_some known) (ap is_some later.known))
      by_known closed same all (Some e) known =
          absurd (never (record {
            closed = closed;
            received = all;
            known = known ∙ ap (λ n. Some n) (same_Some e (length (written_by s (at (turns ++ more))).written) (sym (theirs.arrival.end e known) ∙ later.known) ∙ sym same);
          }))

      by_received : (written_by s (at turns)).closed ≡ true → length (written_by s (at turns)).written ≡ length (written_by s (at (turns ++ more))).written → count turns < count (turns ++ more)
      by_received closed same = ⊎_elim
          (λ less. gain_counts turns more (peer s) (Gains.receives (let all = later.received in omega (arith, less, all))))
          (λ most. by_known closed same (let up = theirs.arrival.received in let all = later.received in omega (arith, most, up, all, same)) (arrived_at (peer s) (at turns)).known_end refl)
          (cases_lt (received (arrived_at (peer s) (at turns))) (length (written_by s (at (turns ++ more))).written))

      by_closed : (c : Bool) → (written_by s (at turns)).closed ≡ c → count turns < count (turns ++ more)
      by_closed false closed = gain_counts turns more s (Gains.closes closed later.closed)
      by_closed true closed = ⊎_elim
          (λ less. gain_counts turns more s (Gains.writes less))
          (λ most. by_received closed (omega (arith, written, most)))
          (cases_lt (length (written_by s (at turns)).written) (length (written_by s (at (turns ++ more))).written))

  -- ---- as a round begins, and by a step

  abbrev About : ℕ → ℕ → List Turn → Type 0
  About n rounds turns = IsAboutToGoOnBy start (counted_with start number) n rounds turns

  begins_so : (turns : List Turn) → BeginsRound values start (at turns) → AllIsThere (at turns) ⊎ About (count turns) 2 turns
  begins_so turns begin = by (there_or A (at turns)) (there_or B (at turns))
    where
      about : (s : Side) → (IsAllThere s (at turns) → ⊥) → About (count turns) 2 turns
      about s none = this_round s turns [] refl (sym (append-nil turns)) refl begin none

      by : IsAllThere A (at turns) ⊎ (IsAllThere A (at turns) → ⊥) → IsAllThere B (at turns) ⊎ (IsAllThere B (at turns) → ⊥) → AllIsThere (at turns) ⊎ About (count turns) 2 turns
      by (inl a) (inl b) = inl (record { of = elim [ A ↦ a | B ↦ b ] })
      by (inl a) (inr none) = inr (about B none)
      by (inr none) b = inr (about A none)

  step_so : (n rounds : ℕ) (turns : List Turn) (actor : ℕ) → About n rounds turns → About n rounds (turns ++ Turn.Step actor ∷ [])
  step_so n rounds turns actor (this_round s since order left is was begin none) = this_round s since (order ++ actor ∷ []) left (one_more start since turns order actor is) was begin none
  step_so n rounds turns actor (next_round s since more order left is was begin unclosed all) =
      next_round s since more (order ++ actor ∷ []) left (one_more start (since ++ more) turns order actor is) was begin unclosed all

  -- ---- as a round ends

  module _ (mild : IsMildStart start) (some : 1 ≤ start.buffer) where
    stopped_at : (turns : List Turn) → NothingIsStopped (at turns)
    stopped_at turns = sides_are_never_stopped start turns mild

    module _ (since : List Turn) (order : List ℕ) (s : Side) (p : PathState Carried) (h : HasMore start number since order s p) where
      abbrev turns : List Turn
      turns = since ++ steps_of order

      ended : at turns ≡ after_steps values order (at since)
      ended = run_append values since (steps_of order) (opened_world start)

      agenda : p.agenda ≡ []
      agenda = nil_so p.agenda (subst (λ m. is_over m ≡ true) h.here.is (all_over_each (at turns).crew (2 + number) h.here.crew h.over h.here.there))

      finished : HasFinished (end_at s p) → count since < count turns
      finished done = all_counts since (steps_of order) s h.missing
          (subst (HoldsOfKind (λ app. Unit {0}) (FinishedIsThere (at turns))) h.here.is (each_finished_is_there start turns mild (2 + number) h.here.crew h.here.there) s done)

      behind : may_finish (end_at s p).tcp.state ≡ false → count since < count turns
      behind none = finished (HasFinished.sent_fin (open_behind (end_at s p).tcp.state h.opened.past h.opened.living none) h.opened.living)

      kept : EndsGoByMappings p
      kept = subst (HoldsOfKind (λ app. Unit {0}) EndsGoByMappings) h.here.is ((mapping_is_kept start turns mild).each (2 + number) h.here.crew h.here.there)

      maps : sends_plainly (end_at s p).modes ≡ false
      maps = plain_none (end_at s p) (kept s).identity (kept s).own

      abbrev Result : Type 0
      Result = (count since < count turns) ⊎ (AwaitsItsEnd s (at since) (at turns) p ⊎ About (count since) 1 (turns ++ Turn.Round ∷ []))

      module _ (may : may_finish (end_at s p).tcp.state ≡ true) (empty : (end_at s p).tcp.send.records ≡ []) (low : length (written_by s (at since)).written ≤ acked_len (written_by s (at turns)).marks) where
        -- no DATA_FIN is outstanding
        heard : (written_by s (at since)).closed ≡ true → WaitsForNoEnd (end_at s p) → count since < count turns
        heard closed waits = ⊎_elim
            (λ acked. finished (HasFinished.acknowledged acked))
            (λ stop. absurd (both_ways _ (subst (λ (w : WorldState Carried). (written_by s w).aborted ≡ false) ended ((stopped_at turns).send s)) stop))
            (ends agenda s closed may h.opened.clear maps empty waits)
          where
            ends : ClosedIsAcknowledged (at since) (after_steps values order (at since)) p
            ends = subst (HoldsOfKind (λ app. Unit {0}) (ClosedIsAcknowledged (at since) (after_steps values order (at since)))) h.here.is
                (what_is_closed_is_acknowledged start (at since) order mild.plain.size mild.fit h.begin (2 + number) h.here.crew (ap (λ (w : WorldState Carried). slice_get w.crew (2 + number)) (sym ended) ∙ h.here.there))

        by_end : (written_by s (at since)).closed ≡ true → (f : Bool) → (end_at s p).sending.fin_sent ≡ f → (a : Bool) → (end_at s p).sending.close.own_acked ≡ a → Result
        by_end closed false sent a is = inl (heard closed (λ was open_end. both_ways (end_at s p).sending.fin_sent sent was))
        by_end closed true sent true is = inl (heard closed (λ was open_end. both_ways (end_at s p).sending.close.own_acked open_end is))
        by_end closed true sent false unacked = ⊎_elim
            (λ less. inl (gain_counts since (steps_of order) s (Gains.writes less)))
            (λ most. inr (inl (record { closed = closed; all = omega (arith, low, most); sent = sent; unacked = unacked })))
            (cases_lt (length (written_by s (at since)).written) (length (written_by s (at turns)).written))

        later : (written_by s (at since)).closed ≡ false → Result
        later unclosed =
            let more : List Turn = steps_of order ++ Turn.Round ∷ [] in
            let same : turns ++ Turn.Round ∷ [] ≡ since ++ more = append_assoc since (steps_of order) (Turn.Round ∷ []) in
            let round : at (since ++ more) ≡ end_round (at turns) = ap at (sym same) ∙ run_append values turns (Turn.Round ∷ []) (opened_world start) in
            inr (inr (next_round s since more [] refl (same ∙ sym (append-nil (since ++ more))) refl (BeginsRound.Next turns h.over round) unclosed
            (subst (λ (books : StampedBooks). length (written_by s (at since)).written ≤ acked_len (send_of s (books_in books)).marks) (sym (ap (λ (w : WorldState Carried). w.books) round ∙ same_books (at turns))) low)))

        acknowledged : Result
        acknowledged = by (written_by s (at since)).closed refl
          where
            by : (b : Bool) → (written_by s (at since)).closed ≡ b → Result
            by true closed = by_end closed (end_at s p).sending.fin_sent refl (end_at s p).sending.close.own_acked refl
            by false unclosed = later unclosed

    -- where each turn is over nobody goes on
    not_going : (actor : ℕ) (w : WorldState Carried) → all_over w.crew ≡ true → is_going actor w ≡ false
    not_going actor w over = by (slice_get w.crew actor) refl
      where
        by : (o : Option _) → slice_get w.crew actor ≡ o → goes o ≡ false
        by None there = refl
        by (Some c) there = rw (all_over_each w.crew actor c over there) refl

    -- the application wrote, or closed the stream, in the round
    pub has_written : (since : List Turn) (order : List ℕ) → BeginsRound values start (at since) → all_over (at (since ++ steps_of order)).crew ≡ true → (s : Side)
        → ((written_by s (at (since ++ steps_of order))).closed ≡ true) ⊎ (1 ≤ length (written_by s (at (since ++ steps_of order))).written)
    has_written since order begin over s =
        by (subst Goes (sym ended) (writers_go_on start (at since) order mild.fit begin s (not_going (pick s 0 1) (after_steps values order (at since)) (subst (λ (w : WorldState Carried). all_over w.crew ≡ true) ended over))))
      where
        turns : List Turn
        turns = since ++ steps_of order

        ended : at turns ≡ after_steps values order (at since)
        ended = run_append values since (steps_of order) (opened_world start)

        Goes : WorldState Carried → Type 0
        Goes w = GoesOnWriting (pick s start.file_a start.file_b) start.buffer (acked_len (written_by s (at since)).marks) (written_by s w)

        by : GoesOnWriting (pick s start.file_a start.file_b) start.buffer (acked_len (written_by s (at since)).marks) (written_by s (at turns))
            → ((written_by s (at turns)).closed ≡ true) ⊎ (1 ≤ length (written_by s (at turns)).written)
        by (GoesOnWriting.whole file closed) = inl closed
        by (GoesOnWriting.more written) = inr (omega (arith, some, written))
        by (GoesOnWriting.stopped stop) = absurd (both_ways _ ((stopped_at turns).send s) stop)

    second_so : (s : Side) (since more : List Turn) (order : List ℕ) → BeginsRound values start (at (since ++ more)) → all_over (at ((since ++ more) ++ steps_of order)).crew ≡ true
        → (written_by s (at since)).closed ≡ false → length (written_by s (at since)).written ≤ acked_len (written_by s (at (since ++ more))).marks
        → count since < count ((since ++ more) ++ steps_of order)
    second_so s since more order begin over unclosed low =
        by (subst (GoOnAt) (sym ended) (writers_go_on start (at (since ++ more)) order mild.fit begin s (not_going (pick s 0 1) (after_steps values order (at (since ++ more))) (subst (λ (w : WorldState Carried). all_over w.crew ≡ true) ended over))))
      where
        whole : List Turn
        whole = more ++ steps_of order

        ended : at ((since ++ more) ++ steps_of order) ≡ after_steps values order (at (since ++ more))
        ended = run_append values (since ++ more) (steps_of order) (opened_world start)

        same : (since ++ more) ++ steps_of order ≡ since ++ whole
        same = append_assoc since more (steps_of order)

        GoOnAt : WorldState Carried → Type 0
        GoOnAt w = GoesOnWriting (pick s start.file_a start.file_b) start.buffer (acked_len (written_by s (at (since ++ more))).marks) (written_by s w)

        counts : Gains s (books_in (at since).books) (books_in (at ((since ++ more) ++ steps_of order)).books) → count since < count ((since ++ more) ++ steps_of order)
        counts gain = subst (λ ts. count since < count ts) (sym same) (gain_counts since whole s (subst (λ ts. Gains s (books_in (at since).books) (books_in (at ts).books)) same gain))

        by : GoesOnWriting (pick s start.file_a start.file_b) start.buffer (acked_len (written_by s (at (since ++ more))).marks) (written_by s (at ((since ++ more) ++ steps_of order)))
            → count since < count ((since ++ more) ++ steps_of order)
        by (GoesOnWriting.whole file closed) = counts (Gains.closes unclosed closed)
        by (GoesOnWriting.more written) = counts (Gains.writes (omega (arith, low, some, written)))
        by (GoesOnWriting.stopped stop) = absurd (both_ways _ ((stopped_at ((since ++ more) ++ steps_of order)).send s) stop)

    next_so : (n : ℕ) (turns : List Turn) → all_over (at turns).crew ≡ true → About n 1 turns → n < count turns
    next_so n ts over (this_round s since order left is was begin none) = absurd (omega (arith, left))
    next_so n ts over (next_round s since more order left is was begin unclosed all) =
        subst (λ ts. n < count ts) (sym is)
        (subst (λ m. m < count ((since ++ more) ++ steps_of order)) was
        (second_so s since more order begin (subst (λ ts. all_over (at ts).crew ≡ true) is over) unclosed all))

pub paths_go_on : PathsGoOn
paths_go_on start number mild some = record {
  begins = begins_so start number;
  on = step_so start number;
  behind = λ since order s p h none. behind start number mild some since order s p h none;
  acknowledged = λ since order s p h may empty low. acknowledged start number mild some since order s p h may empty low;
  next = next_so start number mild some;
}
