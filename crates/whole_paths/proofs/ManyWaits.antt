-- By the first byte that isn't acknowledged: who holds it, or that the window is shut, says what is waited for.
use Rattle.std.proofs.Common.{◌≡◌, refl, sym, subst, ◌⊎◌, ⊎_elim, inl, inr, ℕ, zero, suc, ◌+◌, ◌<◌, ◌≤◌, arith, nat_le, nat_lt, true, false, Option, Some, None, List, [], ◌∷◌, ◌++◌, length}
use Rattle.std.specs.List.{slice_get}
use Rattle.std.proofs.lemmas.Bool.{and_parts, both_ways, cases_lt, leb-true, ltb-true}
use Rattle.sides.specs.declared.side.Side.{Side}
use Rattle.sides.specs.declared.side.Side.TheVariants.{A, B}
use Rattle.sides.specs.Side.{peer}
use Rattle.send_book.specs.declared.mark.ByteMark.{ByteMark}
use Rattle.send_book.specs.Marks.{is_acked}
use Rattle.send_book.specs.State.{acked_len}
use Rattle.reassembly_book.specs.State.{Arriving, filled, received}
use Rattle.stream_lanes.specs.Marks.{AreAcked}
use Rattle.stream_lanes.specs.View.{IsPlaced}
use Rattle.stream_lanes.specs.View.{IsPlaced as places}
use Rattle.subflow_send.specs.Records.{Record}
use Rattle.subflow_tcp.specs.States.{may_finish}
use Rattle.actor_desk.specs.Books.{books_in}
use Rattle.actor_desk.specs.Words.{pick}
use Rattle.path_core.specs.Emission.{may_ask}
use Rattle.path_core.specs.State.{PathState, end_at}
use Rattle.path_core.specs.Values.{Carried, values}
use Rattle.world_laws.specs.Members.{HoldsOfKind}
use Rattle.world_laws.specs.Openings.{Start, opened_world}
use Rattle.world_laws.specs.Outcomes.{notes_of, output_of, tells_stop, was_told}
use Rattle.world_laws.specs.Promises.{arrived_at, written_by}
use Rattle.world_laws.specs.RoundDone.{reached}
use Rattle.world_laws.specs.RoundNumbers.{BeginsRound, after_steps, last_on_standby, steps_since}
use Rattle.world_laws.specs.Worlds.{Turn, WorldState, all_over}
use Rattle.world_laws.proofs.Promises.Made.{keep_their_word}
use Rattle.world_laws.proofs.Rounds.ReadAll.{readers_caught_up}
use Rattle.world_laws.proofs.Weaving.WholeRounds.{run_append}
use Rattle.world_laws.proofs.Whole.Falls.{MemberUpright, PathUpright, each_upright}
use Rattle.whole_paths.specs.AnswerWaits.{AnswersAreAwaitedAt}
use Rattle.whole_paths.specs.BookNews.{book_news}
use Rattle.whole_paths.specs.CountedCourses.{CountsOfPaths, counted_with}
use Rattle.whole_paths.specs.Courses.{counted_at, round_end}
use Rattle.whole_paths.specs.EdgeStands.{IsShutOutAt}
use Rattle.whole_paths.specs.Finish.{IsPathAt}
use Rattle.whole_paths.specs.GoingOn.{steps_of}
use Rattle.whole_paths.specs.HolderWaits.{IsLent, LetsGo}
use Rattle.whole_paths.specs.HolderWaits.{LetsGo as lets}
use Rattle.whole_paths.specs.Holders.{IsAwaitedAt}
use Rattle.whole_paths.specs.ManyWaits.{EachMissingByteIsWaitedFor, EachMissingByteIsWaitedForAt, WaitsForAByte}
use Rattle.whole_paths.specs.ManyWaits.{WaitsForAByte as waits}
use Rattle.whole_paths.specs.Mild.{IsMildStart}
use Rattle.whole_paths.specs.MissingBytes.{IsMissing}
use Rattle.whole_paths.specs.MissingBytes.{IsMissing as missing}
use Rattle.whole_paths.specs.News.{Gains, news}
use Rattle.whole_paths.specs.OpenAsks.IsUnanswered.{bytes}
use Rattle.whole_paths.specs.Received.{GrantedIsPlaced}
use Rattle.whole_paths.specs.RecordWaits.{LeavesRoom, OpensAt, RecordsAreAwaitedAt, SentNoFinAt}
use Rattle.whole_paths.specs.ReturnWaits.{AwaitsAReturn, ReturnsAreAwaited, all_news}
use Rattle.whole_paths.specs.Room.{HasWindows}
use Rattle.whole_paths.specs.Serving.{ServesAt}
use Rattle.whole_paths.specs.Straying.{IsOpen, IsSound}
use Rattle.whole_paths.specs.WindowWaits.{WindowsAreAwaitedAt}
use Rattle.whole_paths.proofs.AnswerWaits.{answers_await}
use Rattle.whole_paths.proofs.BookNews.{book_news_never_falls}
use Rattle.whole_paths.proofs.CountedCourses.{paths_are_counted}
use Rattle.whole_paths.proofs.Courses.{harmed_append}
use Rattle.whole_paths.proofs.Delivery.{bounds_at}
use Rattle.whole_paths.proofs.EdgeStands.{send_is_tiled}
use Rattle.whole_paths.proofs.GoingOn.{gains_count_at, prefix_up, sides_far}
use Rattle.whole_paths.proofs.MissingBytes.{what_is_missing_is_awaited}
use Rattle.whole_paths.proofs.News.{news_never_falls}
use Rattle.whole_paths.proofs.Offered.{what_is_taken_is_offered}
use Rattle.whole_paths.proofs.Received.{what_is_granted_is_placed}
use Rattle.whole_paths.proofs.OpenAsks.{open_sound}
use Rattle.whole_paths.proofs.RecordWaits.{records_are_awaited}
use Rattle.whole_paths.proofs.ReturnWaits.{returns_are_awaited_always}
use Rattle.whole_paths.proofs.Room.{who_is_done_may_ask}
use Rattle.whole_paths.proofs.ShutWindows.{not_going}
use Rattle.whole_paths.proofs.Unstopped.{sides_are_never_stopped}
use Rattle.whole_paths.proofs.WindowWaits.{HoldsOfSound, shut_ends_await}

-- the mark behind those that are acknowledged isn't
unacked_at : (n : ℕ) (ms : List ByteMark) → AreAcked n ms → n < length ms → (m : ByteMark) × (slice_get ms n ≡ Some m) × (is_acked m ≡ false)
unacked_at n [] are within = absurd (omega (arith, within))
unacked_at zero (m ∷ ms) are within = (m, refl, are.0)
unacked_at (suc n) (m ∷ ms) are within = unacked_at n ms are.1 (omega (arith, within))

-- a byte that stands behind all bytes without a gap is one of these
filled_more : (ps : List (Option ℕ)) (i byte : ℕ) → slice_get ps i ≡ Some (Some byte) → i ≤ length (filled ps) → i < length (filled ps)
filled_more [] i byte there low = cc
filled_more (None ∷ ps) zero byte there low = cc
filled_more (None ∷ ps) (suc i) byte there low = absurd (omega (arith, low))
filled_more (Some x ∷ ps) zero byte there low = omega arith
filled_more (Some x ∷ ps) (suc i) byte there low = let more = filled_more ps i byte there (omega (arith, low)) in omega (arith, more)

received_more : (b : Arriving) (place : ℕ) → IsPlaced b.read b.places place → place ≤ received b → place < received b
received_more b place (places.was_read low) upto = omega (arith, low)
received_more b place (places.stands i byte is there) upto = let more = filled_more b.places i byte there (omega (arith, is, upto)) in omega (arith, is, more)

-- a byte that comes back by a tick does by a later one
return_later : (start : Start) (turns : List Turn) (x more : ℕ) → x ≤ more → AwaitsAReturn start x turns → AwaitsAReturn start more turns
return_later start turns x more low h = record {
  side = h.side;
  number = h.number;
  place = h.place;
  lent = record { path = h.lent.path; here = h.lent.here; held = h.lent.held; back = by h.lent.back };
}
  where
    by : LetsGo h.side x h.lent.path → LetsGo h.side more h.lent.path
    by (lets.runs tick run at) = lets.runs tick run (omega (arith, low, at))
    by (lets.gives agenda at) = lets.gives agenda (omega (arith, low, at))

-- ---- what is counted

module _ (number : ℕ) (start : Start) where
  abbrev count : List Turn → ℕ
  count turns = counted_with start number turns

  books_up : (turns more : List Turn) (s : Side) → book_news start s (reached values start turns) ≤ book_news start s (reached values start (turns ++ more))
  books_up turns more s = subst (λ (u : WorldState Carried). book_news start s (reached values start turns) ≤ book_news start s u) (sym (run_append values turns more (opened_world start))) (book_news_never_falls values start turns more s)

  pub news_up : (turns more : List Turn) → all_news start (reached values start turns) < all_news start (reached values start (turns ++ more)) → count turns < count (turns ++ more)
  news_up turns more up = let harms = harmed_append values number turns more (opened_world start) in omega (arith, up, harms)

  -- what counts without bytes does with them
  pub counts_too : (turns more : List Turn) → counted_at values start number turns < counted_at values start number (turns ++ more) → count turns < count (turns ++ more)
  counts_too turns more up = let a = books_up turns more A in let b = books_up turns more B in omega (arith, up, a, b)

  pub book_counts : (turns more : List Turn) (s : Side) → book_news start s (reached values start turns) < book_news start s (reached values start (turns ++ more)) → count turns < count (turns ++ more)
  book_counts turns more s up = news_up turns more (by s up)
    where
      news_so : news start (reached values start turns) ≤ news start (reached values start (turns ++ more))
      news_so = subst (λ (u : WorldState Carried). news start (reached values start turns) ≤ news start u) (sym (run_append values turns more (opened_world start))) (news_never_falls values start turns more)

      by : (s : Side) → book_news start s (reached values start turns) < book_news start s (reached values start (turns ++ more)) → all_news start (reached values start turns) < all_news start (reached values start (turns ++ more))
      by A up = let one = news_so in let b = books_up turns more B in omega (arith, up, one, b)
      by B up = let one = news_so in let a = books_up turns more A in omega (arith, up, one, a)

-- ---- as a round is over

module _ (number : ℕ) (Holds : PathState Carried → Type 0) (start : Start) (mild : IsMildStart start) (sound : HoldsOfSound number Holds start) (buffer : 32 ≤ start.buffer) (most : ℕ) (since : List Turn)
    (order : List ℕ) (u : List Turn) (begin : BeginsRound values start (reached values start since)) (step : OpensAt number Holds start most (since ++ steps_of order) u)
    (serves : ServesAt number (reached values start (since ++ steps_of order))) (s : Side) where
  abbrev v : List Turn
  v = since ++ steps_of order

  abbrev was : WorldState Carried
  was = reached values start since

  abbrev w : WorldState Carried
  w = reached values start v

  abbrev p : PathState Carried
  p = step.before.path

  abbrev Up : Type 0
  Up = counted_with start number since < counted_with start number u

  abbrev Result : Type 0
  Result = Up ⊎ WaitsForAByte number start (round_end values start v + 60800) u

  of_counts : CountsOfPaths start number
  of_counts = paths_are_counted start number mild.plain mild.fit

  to_v : counted_with start number since ≤ counted_with start number v
  to_v = of_counts.counts since (steps_of order)

  to_u : counted_with start number v ≤ counted_with start number u
  to_u = subst (λ ts. counted_with start number v ≤ counted_with start number ts) (sym step.is) (of_counts.counts v (Turn.Round ∷ []))

  in_round : counted_with start number since < counted_with start number v → Up
  in_round more = let on = to_u in omega (arith, more, on)

  by_gain : (t : Side) → Gains t (books_in was.books) (books_in w.books) → Up
  by_gain t gain = in_round (counts_too number start since (steps_of order) (gains_count_at start number since (steps_of order) t gain))

  is_sound : IsSound p
  is_sound = sound v p step.before.here step.before.is_open

  pub upright : PathUpright p
  upright = subst MemberUpright step.before.here.is ((each_upright start v mild.plain mild.strips).each (2 + number) step.before.here.crew step.before.here.there)

  -- where the end may still send its FIN
  module _ (may : may_finish (end_at s p).tcp.state ≡ true) where
    abbrev sender : SentNoFinAt number start v
    sender = record { path = p; here = step.before.here; side = s; unfinished = upright.passes.unfinished s may }

    records_wait : RecordsAreAwaitedAt number Holds start most
    records_wait = records_are_awaited number start most mild Holds sound

    -- it has a record, or its peer sent more than it has room for, or neither
    pub by_records : (LeavesRoom sender → (end_at s p).tcp.send.records ≡ [] → Result) → Result
    by_records rest = ⊎_elim (λ h. inr (waits.piece h)) (λ room. by room (end_at s p).tcp.send.records refl) (records_wait.room v u step sender)
      where
        by : LeavesRoom sender → (rs : List Record) → (end_at s p).tcp.send.records ≡ rs → Result
        by room [] none = rest room none
        by room (first ∷ others) records = inr (waits.piece (records_wait.begins v u step
            (record { path = p; here = step.before.here; side = s; first = first; others = others; records = records; unfinished = sender.unfinished })))

    module _ (stood : last_on_standby s false (steps_since (2 + number) was w) ≡ false) (left : acked_len (written_by s w).marks < length (written_by s was).written) where
      abbrev y : ℕ
      y = acked_len (written_by s w).marks

      ended : w ≡ after_steps values order was
      ended = run_append values since (steps_of order) (opened_world start)

      more_written : length (written_by s was).written ≤ length (written_by s w).written
      more_written = prefix_up (written_by s was).written (written_by s w).written (sides_far start since (steps_of order) s).send.written

      acked_received : (t : Side) → acked_len (written_by t w).marks ≤ received (arrived_at (peer t) w)
      acked_received A = (keep_their_word start v mild.plain).ab.acked
      acked_received B = (keep_their_word start v mild.plain).ba.acked

      module _ (room : LeavesRoom sender) (none : (end_at s p).tcp.send.records ≡ []) where
        asks : may_ask p.profile s (end_at s p) ≡ true
        asks =
            let windows : HasWindows p = subst (HoldsOfKind (λ app. Unit {0}) HasWindows) step.before.here.is (who_is_done_may_ask start v mild.plain.size mild.fit (2 + number) step.before.here.crew step.before.here.there) in
            windows.unsent s may (is_sound.clear s) none

        -- its path waits for the byte
        by_own : IsAwaitedAt y (end_at s p).sending → Result
        by_own h = inr (waits.answer (answers.begins v u step (record {
          path = p;
          here = step.before.here;
          side = s;
          place = y + 1;
          fin = false;
          none = none;
          unanswered = bytes refl (record { at = h.piece.at; item = h.piece.item; there = h.piece.there; holds = (let low = under in omega (arith, low)) }) (let heard = h.unheard in omega (arith, heard));
          has = (let come = received_more (arrived_at (peer s) w) y stands (acked_received s) in let all : y + 1 ≤ received (arrived_at (peer s) w) + 0 = omega (arith, come) in all);
          room = room;
        })))
          where
            answers : AnswersAreAwaitedAt number start Holds most
            answers = answers_await number start mild Holds sound most

            ends : (nat_le h.piece.item.from y ≡ true) × (nat_lt y h.piece.item.to ≡ true)
            ends = and_parts (nat_le h.piece.item.from y) (nat_lt y h.piece.item.to) h.piece.holds

            over : h.piece.item.from ≤ y
            over = leb-true h.piece.item.from y ends.0

            under : y < h.piece.item.to
            under = ltb-true y h.piece.item.to ends.1

            placed : GrantedIsPlaced w p
            placed = subst (HoldsOfKind (λ app. Unit {0}) (GrantedIsPlaced w)) step.before.here.is ((what_is_granted_is_placed start v mild.plain.size).each (2 + number) step.before.here.crew step.before.here.there)

            stands : IsPlaced (arrived_at (peer s) w).read (arrived_at (peer s) w).places y
            stands = (placed s (is_sound.living s) none).each h.piece.at h.piece.item h.piece.there y over under

        -- another path holds it
        by_lent : (other : ℕ) (q : PathState Carried) → IsPathAt other w q → IsLent s other y (q.clock + 60000) w → Result
        by_lent other q at lent = ⊎_elim
            (λ more. inl (let now : counted_with start number v < counted_with start number u = subst (λ ts. counted_with start number v < counted_with start number ts) (sym step.is) (news_up number start v (Turn.Round ∷ []) more) in let before = to_v in omega (arith, before, now)))
            (λ h. inr (waits.lent (subst (λ ts. AwaitsAReturn start (round_end values start v + 60800) ts) (sym step.is) h)))
            (returns.on v Turn.Round (round_end values start v + 60800) (later (returns.begins v s other y q at lent)))
          where
            returns : ReturnsAreAwaited start
            returns = returns_are_awaited_always start mild.plain.size

            later : AwaitsAReturn start (round_end values start v + 60000) v → AwaitsAReturn start (round_end values start v + 60800) v
            later h = return_later start v (round_end values start v + 60000) (round_end values start v + 60800) (omega arith) h

        -- the window is shut
        by_shut : (end_at s p).sending.shut ≡ true → (written_by s was).edge ≤ y → Result
        by_shut shut edge = ⊎_elim (λ rose. inl (by_gain s (Gains.opens rose)))
            (λ still. ⊎_elim (λ came. inl (by_gain (peer s) (Gains.receives came)))
            (λ same. inr (waits.window (windows.begins v u step serves (record {
              path = p;
              here = step.before.here;
              side = s;
              no_record = none;
              halted = record { shut = shut; stands = record { acked = omega (arith, edge, still); left = (let up = more_written in omega (arith, left, up)) } };
              takes = (let got = acked_received s in let read = caught_up in let cap = size in omega (arith, edge, still, got, same, read, cap, buffer));
              room = room;
            }))))
            (cases_lt (received (arrived_at (peer s) was)) (received (arrived_at (peer s) w))))
            (cases_lt (written_by s was).edge (written_by s w).edge)
          where
            windows : WindowsAreAwaitedAt IsShutOutAt number Holds start (λ turns. ServesAt number (reached values start turns)) most
            windows = shut_ends_await number Holds start mild sound most

            size : (arrived_at (peer s) w).capacity ≡ start.buffer
            size = (what_is_taken_is_offered values).sizes start v (peer s)

            caught_up : received (arrived_at (peer s) was) ≤ (arrived_at (peer s) w).read
            caught_up = ⊎_elim
                (λ read. (let output = (bounds_at start v mild s).output in
                let now : received (arrived_at (peer s) was) ≤ length (output_of (peer s) w) = subst (λ (x : WorldState Carried). received (arrived_at (peer s) was) ≤ length (output_of (peer s) x)) (sym ended) read in omega (arith, now, output)))
                (λ stopped. absurd (both_ways _ (subst (λ (x : WorldState Carried). was_told tells_stop (notes_of (peer s) x.crew) ≡ false) ended ((sides_are_never_stopped start v mild).told (peer s))) stopped))
                (readers_caught_up values start was order begin (peer s) (not_going (pick (peer s) 0 1) (after_steps values order was) (subst (λ (x : WorldState Carried). all_over x.crew ≡ true) ended step.over)))

        by_missing : IsMissing start s number y was w p → Result
        by_missing (missing.counts more) = inl (in_round (book_counts number start since (steps_of order) s more))
        by_missing (missing.own is) = by_own is
        by_missing (missing.lent other q apart at lent) = by_lent other q at lent
        by_missing (missing.shut shut edge) = by_shut shut edge
        by_missing (missing.standby is) = absurd (both_ways _ stood is)

        by_byte : Result
        by_byte =
            let tiled = send_is_tiled start v mild.plain.size s in
            let whole = tiled.0 in let up = more_written in
            let found = unacked_at y (written_by s w).marks tiled.1 (omega (arith, whole, up, left)) in
            by_missing (subst (λ (x : WorldState Carried). all_over x.crew ≡ true → IsPathAt number x p → slice_get (written_by s x).marks y ≡ Some found.0 → IsMissing start s number y was x p) (sym ended)
            (λ over here there. what_is_missing_is_awaited start since order mild begin over number p here s asks y left found.0 there found.2) step.over step.before.here found.1)

      missing_waits : Result
      missing_waits = by_records (λ room none. by_byte room none)

pub each_missing_byte : (number : ℕ) (Holds : PathState Carried → Type 0) (start : Start) → IsMildStart start → HoldsOfSound number Holds start → EachMissingByteIsWaitedForAt number Holds start
each_missing_byte number Holds start mild sound most since order u again buffer begin step serves s stood may left = missing_waits number Holds start mild sound buffer most since order u begin step serves s may stood left

pub each_missing_byte_is_waited_for : EachMissingByteIsWaitedFor
each_missing_byte_is_waited_for start most since order u mild = each_missing_byte 0 IsOpen start mild (open_sound start mild) most since order u mild
