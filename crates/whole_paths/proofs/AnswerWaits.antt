-- A wait for an answer goes on by each turn between sound ends, or something is counted.
use Rattle.std.proofs.Common.{◌≡◌, sym, subst, ap, ◌∙◌, ◌⊎◌, ⊎_elim, inl, inr, ℕ, ◌+◌, ◌<◌, ◌≤◌, arith, true, List, [], ◌∷◌, ◌++◌, Bool, false, if◌then◌else◌, Option, Some, None, IfSome, IsSome, is_some, map, refl, true≢false}
use Rattle.std.proofs.lemmas.Bool.{cases_lt}
use Rattle.sides.specs.declared.side.Side.{Side}
use Rattle.sides.specs.Side.{peer}
use Rattle.actor_desk.specs.Books.{books_in}
use Rattle.actor_desk.specs.Desk.{SixBooks, reassembly_of}
use Rattle.path_core.specs.State.{PathState, end_at}
use Rattle.path_core.specs.Values.{Carried, values}
use Rattle.world_laws.specs.Actors.{Actor, is_over, ActorCrew, member_next}
use Rattle.world_laws.specs.Members.{HoldsOfKind}
use Rattle.world_laws.specs.Openings.{PathPlan, Start, opened_world}
use Rattle.world_laws.specs.RoundDone.{EndsAt, reached}
use Rattle.world_laws.specs.Worlds.{WorldState, Turn, after_turn, all_over, begins, greatest}
use Rattle.world_laws.proofs.Rounds.DoneByTheEnd.{rounds_end_on_time}
use Rattle.world_laws.proofs.Rounds.Lifting.{all_over_each}
use Rattle.world_laws.proofs.Weaving.WholeRounds.{run_append}
use Rattle.whole_paths.specs.AnswerWaits.{AnswersAreAwaitedAlways, AwaitsAnAnswerAt, HasAnAskAt, AnswersAreAwaited, AnswersAreAwaitedAt, IsWantedOrUnknown}
use Rattle.whole_paths.specs.AskStages.{AnswerIsAwaitedBy, AnswerIsAwaitedFrom, AnswerIsAwaitedOn, IsAnswerAwaited}
use Rattle.whole_paths.specs.AskStages.{AnswerIsAwaitedOn as goes}
use Rattle.whole_paths.specs.Courses.{BeginsARoundAt, TakesAStepAt, counted_at, round_end}
use Rattle.whole_paths.specs.Finish.{IsPathAt}
use Rattle.whole_paths.specs.Mild.{IsMildStart}
use Rattle.whole_paths.specs.News.{Counts as counts}
use Rattle.whole_paths.specs.OpenAsks.{AskIsDue, IsHardlyAwry, IsUnansweredAt}
use Rattle.whole_paths.specs.News.{Gains as gains}
use Rattle.whole_paths.specs.OpenAsks.{IsHardlyAwry as hardly}
use Rattle.whole_paths.specs.OpenCourses.{HoldUpsCount, IsNowAt}
use Rattle.whole_paths.specs.Straying.{IsOpen, IsSound}
use Rattle.whole_paths.specs.Timers.{TimersAreNear}
use Rattle.whole_paths.proofs.AskStages.{sound_asks_are_answered}
use Rattle.whole_paths.proofs.Counted.{what_holds_up_counts, by_news}
use Rattle.whole_paths.proofs.InTime.{nil_so}
use Rattle.whole_paths.proofs.OpenAsks.{open_sound}
use Rattle.whole_paths.proofs.OpenAsksGoOn.{open_asks_are_in_time, past_the_end}
use Rattle.whole_paths.proofs.RecordWaits.{counts_so, edge_up, here, path_is, with_both}
use Rattle.whole_paths.proofs.RoundBegins.{no_round_counts}
use Rattle.whole_paths.proofs.Timing.{timers_run_out}
use Rattle.whole_paths.specs.Closing.{IsFinHeard}
use Rattle.whole_paths.specs.ClosingKnown.{HasTheEnd}
use Rattle.whole_paths.specs.DataAcksOwed.{KnowsWhereItSends}
use Rattle.whole_paths.proofs.ClosingKnown.{each_end_is_told_first, wanted_or_unknown, who_heard_the_end_knows_it}
use Rattle.std.specs.List.{slice_get}
use Rattle.std.proofs.lemmas.Option.{same_Some}
use Rattle.reassembly_book.specs.Steps.{next_wanted}
use Rattle.actor_desk.specs.declared.ask.Note.{Note}
use Rattle.subflow_tcp.specs.States.{is_dead}
use Rattle.path_core.specs.Looking.{first_sends, segment_sent}
use Rattle.path_core.specs.Steps.{next_round}
use Rattle.stream_lanes.proofs.Lists.{in_map}
use Rattle.whole_paths.specs.Between.{PathsBetween}
use Rattle.whole_paths.specs.Wanted.{WantsOn, WantsUpTo}
use Rattle.whole_paths.proofs.News.{each_gain_counts}
use Rattle.whole_paths.proofs.Saying.{ToSend}
use Rattle.whole_paths.proofs.Wanted.{what_is_wanted_is_told}

-- ---- a round begins

round_is : (w : WorldState Carried) → all_over w.crew ≡ true → after_turn values Turn.Round w ≡ record w { crew = map (begins (greatest 0 w.crew)) w.crew }
round_is w over = ap (λ b. if b then record w { crew = map (begins (greatest 0 w.crew)) w.crew } else w) over

-- the path is the next round's then
at_round : {number : ℕ} (w : WorldState Carried) → all_over w.crew ≡ true → (p q : PathState Carried) → IsPathAt number w p → IsPathAt number (after_turn values Turn.Round w) q → (P : PathState Carried → Type 0) → P (next_round p) → P q
at_round {number} w over p q here there P h =
    let found = in_map (begins (greatest 0 w.crew)) w.crew (2 + number) there.crew (subst (λ (u : WorldState Carried). slice_get u.crew (2 + number) ≡ Some there.crew) (round_is w over) there.there) in
    let first : found.0 ≡ here.crew = same_Some found.0 here.crew (sym found.1 ∙ here.there) in
    let member : member_next here.crew.member ≡ there.crew.member = ap (λ (c : ActorCrew Carried). member_next c.member) (sym first) ∙ ap (λ (c : ActorCrew Carried). c.member) found.2 in
    subst (HoldsOfKind (λ app. Unit {0}) P) there.is (subst (HoldsOfKind (λ app. Unit {0}) P) member (subst (λ (m : Actor Carried). HoldsOfKind (λ app. Unit {0}) P (member_next m)) (sym here.is) h))

module _ (number : ℕ) (start : Start) (mild : IsMildStart start) (Holds : PathState Carried → Type 0)
    (sound : (v : List Turn) (p : PathState Carried) → IsPathAt number (reached values start v) p → Holds p → IsSound p) where
  abbrev Now : List Turn → Type 0
  Now turns = IsNowAt number Holds (reached values start turns)

  -- ---- a turn

  module _ (turns : List Turn) (turn : Turn) where
    abbrev more : List Turn
    more = turns ++ turn ∷ []

    abbrev w : WorldState Carried
    w = reached values start turns

    abbrev v : WorldState Carried
    v = after_turn values turn w

    abbrev Rises : Type 0
    Rises = counted_at values start number turns < counted_at values start number more

    last : reached values start more ≡ v
    last = run_append values turns (turn ∷ []) (opened_world start)

    -- an end of the path waits for an answer
    module _ (x : ℕ) (before : IsNowAt number Holds w) (after : IsNowAt number Holds v) (s : Side) (place : ℕ) (fin : Bool) (by : ℕ) (soon : by ≤ x)
        (room : (end_at (peer s) before.path).tcp.send.nxt ≤ (end_at s before.path).tcp.recv.edge + 1048576)
        (waits : IsAnswerAwaited (books_in w.books) s place fin by before.path) where
      abbrev p : PathState Carried
      p = before.path

      abbrev q : PathState Carried
      q = after.path

      abbrev six : SixBooks
      six = books_in w.books

      abbrev later : SixBooks
      later = books_in v.books

      abbrev Next : Type 0
      Next = Rises ⊎ AwaitsAnAnswerAt number start x more

      abbrev IsWanted : SixBooks → PathState Carried → Type 0
      IsWanted books p = IsWantedOrUnknown books (peer s) place fin p

      sound_p : IsSound p
      sound_p = sound turns p before.here before.is_open

      sound_q : IsSound q
      sound_q = sound more q (subst (λ (y : WorldState Carried). IsPathAt number y q) (sym last) after.here) after.is_open

      so_counted : counts p q → Rises
      so_counted is = counts_so start mild turns turn before after is

      -- the peer sends no more, or that counts
      if_room : ((end_at (peer s) q).tcp.send.nxt ≤ (end_at s q).tcp.recv.edge + 1048576 → Next) → Next
      if_room still = ⊎_elim (λ more_sent. inl (so_counted (counts.sent_more (peer s) more_sent)))
          (λ few. still (let up = edge_up start mild turns turn before after s in omega (arith, few, room, up)))
          (cases_lt (end_at (peer s) p).tcp.send.nxt (end_at (peer s) q).tcp.send.nxt)

      goes_by : IsWanted later q → IsAnswerAwaited later s place fin by q → Next
      goes_by wanted then_waits = if_room (λ then_room. inr (record {
        path = q;
        here = subst (λ (y : WorldState Carried). IsPathAt number y q) (sym last) after.here;
        side = s;
        place = place;
        fin = fin;
        by = by;
        soon = soon;
        room = then_room;
        waits = subst (λ (y : WorldState Carried). IsAnswerAwaited (books_in y.books) s place fin by q) (sym last) then_waits;
        wanted = subst (λ (y : WorldState Carried). IsWanted (books_in y.books) q) (sym last) wanted;
      }))

      is_awry : IsHardlyAwry s p q → Next
      is_awry (hardly.past_window past) = absurd (omega (arith, past, room))

      by_answer : IsWanted later q → AnswerIsAwaitedOn later s place fin by p q → Next
      by_answer wanted (goes.on then_waits) = goes_by wanted then_waits
      by_answer wanted (goes.sends more_sent) = inl (so_counted (counts.sent_more s more_sent))
      by_answer wanted (goes.held_up held) = inl (here start mild turns turn before after (λ m n. HoldUps m n)
          (what_holds_up_counts start number turns turn before.here.crew after.here.crew before.here.there after.here.there) sound_p.living sound_q.living before.few s held)
        where
          HoldUps : Actor Carried → Actor Carried → Type 0
          HoldUps m n = HoldUpsCount Rises m n
      by_answer wanted (goes.awry is) = is_awry is

      goes_on : ((fin ≡ true → IsFinHeard (peer s) p) → KnowsWhereItSends (peer s) place p) → IsWanted later q → Next
      goes_on knows wanted = by_answer wanted (here start mild turns turn before after (AnswerIsAwaitedBy IsSound six later)
          (sound_asks_are_answered.goes_on start turns turn mild (2 + number) before.here.crew after.here.crew before.here.there after.here.there)
          sound_p sound_q before.few s place fin by knows waits)

      -- the peer's end knows what its book wants as it sends; where the book isn't told the end, none was heard as a segment goes
      knows_so : IsWanted six p → (fin ≡ true → IsFinHeard (peer s) p) → KnowsWhereItSends (peer s) place p
      knows_so (inl wants) came = (what_is_wanted_is_told values).sends six (peer s) place p wants
      knows_so (inr unknown) came = none_sent (first_sends p.agenda p) (each_end_is_told_first p (peer s) (came unknown.0))
        where
          has_end : HasTheEnd six p
          has_end = subst (HoldsOfKind (λ app. Unit {0}) (HasTheEnd six)) before.here.is ((who_heard_the_end_knows_it values start turns).each (2 + number) before.here.crew before.here.there)

          none_sent : (o : Option ToSend) → IfSome o (λ t. t.from ≡ peer s → (segment_sent p t).rst ≡ false → (end_at (peer s) p).sending.close.peer_came ≡ true)
              → IfSome o (λ t. t.from ≡ peer s → is_dead (end_at (peer s) p).tcp.state ≡ false → (segment_sent p t).rst ≡ false → place ≤ (end_at (peer s) p).receiving.next)
          none_sent None told = tt
          none_sent (Some t) told = λ own living unreset. absurd (true≢false (sym (subst IsSome unknown.1 (has_end (peer s) (told own unreset)))))

      -- it is wanted still, or the book is told the end, which counts
      wanted_on : IsWanted six p → Rises ⊎ IsWanted later q
      wanted_on (inl wants) = inr (inl ((with_both start mild turns turn before after (λ m n. (steps : List Note) × PathsBetween WantsOn w.books v.books steps m n)
          (let found = (what_is_wanted_is_told values).goes_on w turn (2 + number) before.here.crew before.here.there in (found.0, found.1, (found.0.list, found.2)))).1 (peer s) place wants))
      wanted_on (inr unknown) = by_end (reassembly_of (peer s) later).known_end refl
        where
          by_end : (o : Option ℕ) → (reassembly_of (peer s) later).known_end ≡ o → Rises ⊎ IsWanted later q
          by_end None now = inr (inr (unknown.0, now))
          by_end (Some e) now = inl (by_news start number turns turn (each_gain_counts values start turns (turn ∷ []) (peer s) (gains.learns (ap is_some unknown.1) (ap is_some now))))

      waits_on : IsWanted six p → Next
      waits_on wanted = ⊎_elim (λ rises. inl rises) (λ then_wanted. goes_on (knows_so wanted) then_wanted) (wanted_on wanted)

    turn_on : (x : ℕ) → Now turns → Now more → AwaitsAnAnswerAt number start x turns → Rises ⊎ AwaitsAnAnswerAt number start x more
    turn_on x before after h =
        let same : h.path ≡ before.path = path_is w h.path before.path h.here before.here in
        waits_on x before (subst (IsNowAt number Holds) last after) h.side h.place h.fin h.by h.soon
        (subst (λ (y : PathState Carried). (end_at (peer h.side) y).tcp.send.nxt ≤ (end_at h.side y).tcp.recv.edge + 1048576) same h.room)
        (subst (IsAnswerAwaited (books_in w.books) h.side h.place h.fin h.by) same h.waits)
        (subst (IsWantedOrUnknown (books_in w.books) (peer h.side) h.place h.fin) same h.wanted)

  -- ---- rounds

  module _ (most : ℕ) where
    abbrev Goes : ℕ → List Turn → List Turn → Type 0
    Goes x v u = AwaitsAnAnswerAt number start x v → (counted_at values start number v < counted_at values start number u) ⊎ AwaitsAnAnswerAt number start x u

    steps_on : (x : ℕ) (v u : List Turn) → TakesAStepAt values start number Now most v u → Goes x v u
    steps_on x v u step h = subst (λ t. (counted_at values start number v < counted_at values start number t) ⊎ AwaitsAnAnswerAt number start x t) (sym step.is)
        (turn_on v (Turn.Step step.actor) x step.before (subst Now step.is step.after) h)

    module _ (v u : List Turn) (step : BeginsARoundAt values start number Now most v u) where
      opens_on : (x : ℕ) → Goes x v u
      opens_on x h = subst (λ t. (counted_at values start number v < counted_at values start number t) ⊎ AwaitsAnAnswerAt number start x t) (sym step.is)
          (turn_on v Turn.Round x step.before (subst Now step.is step.after) h)

      abbrev ended : WorldState Carried
      ended = reached values start v

      module _ (p : PathState Carried) (at : IsPathAt number ended p) where
        until : p.until ≡ round_end values start v
        until = subst (EndsAt (round_end values start v)) at.is ((rounds_end_on_time values start v).each (2 + number) at.crew at.there)

        silent : p.agenda ≡ []
        silent = nil_so p.agenda (subst (λ m. is_over m ≡ true) at.is (all_over_each ended.crew (2 + number) at.crew step.over at.there))

        is_sound : IsSound p
        is_sound = sound v p at (subst Holds (path_is ended step.before.path p step.before.here at) step.before.is_open)

        near : TimersAreNear p
        near = subst (HoldsOfKind (λ app. Unit {0}) TimersAreNear) at.is ((timers_run_out values start v).each (2 + number) at.crew at.there)

        is_due : AskIsDue (books_in ended.books) p
        is_due = subst (HoldsOfKind (λ app. Unit {0}) (AskIsDue (books_in ended.books))) at.is ((open_asks_are_in_time start v mild).due (2 + number) at.crew at.there)

        begun : AnswerIsAwaitedFrom IsSound (books_in ended.books) p
        begun = subst (HoldsOfKind (λ app. Unit {0}) (AnswerIsAwaitedFrom IsSound (books_in ended.books))) at.is (sound_asks_are_answered.begin start v mild (2 + number) at.crew at.there)

      none_late : (x : ℕ) → AwaitsAnAnswerAt number start x v → x < round_end values start v → ⊥
      none_late x h late = is_due h.path h.here (is_sound h.path h.here).living (silent h.path h.here) h.side h.place h.fin h.by
          (let low = h.soon in let ends = until h.path h.here in omega (arith, low, ends, late)) h.waits.inquiry h.waits.unanswered

      wait_begins : HasAnAskAt number start v → AwaitsAnAnswerAt number start (round_end values start v + 60800) u
      wait_begins h = ⊎_elim
          (λ rises. absurd (let same = ap (counted_at values start number) step.is ∙ no_round_counts start number v step.over in let up = subst (λ t. counted_at values start number v < counted_at values start number t) (sym step.is) rises in omega (arith, up, same)))
          (λ waits. subst (AwaitsAnAnswerAt number start (round_end values start v + 60800)) (sym step.is) waits)
          (goes_on v Turn.Round (round_end values start v + 60800) step.before after h.side h.place h.fin (q.clock + 60000 + 400 + 400)
          (let clock = (near q step.before.here).clock in let ends = until q step.before.here in omega (arith, clock, ends))
          (subst (λ (y : PathState Carried). (end_at (peer h.side) y).tcp.send.nxt ≤ (end_at h.side y).tcp.recv.edge + 1048576) same h.room)
          (begun q step.before.here (is_sound q step.before.here) (silent q step.before.here) h.side (subst (λ (y : PathState Carried). (end_at h.side y).tcp.send.records ≡ []) same h.none) h.place h.fin unanswered h.has)
          (λ came. subst (λ ds. IfSome (first_sends ds q) (λ t. t.from ≡ peer h.side → is_dead (end_at (peer h.side) q).tcp.state ≡ false → (segment_sent q t).rst ≡ false → h.place ≤ (end_at (peer h.side) q).receiving.next))
          (sym (silent q step.before.here)) tt)
          wanted)
        where
          q : PathState Carried
          q = step.before.path

          same : h.path ≡ q
          same = path_is ended h.path q h.here step.before.here

          now : WorldState Carried
          now = after_turn values Turn.Round ended

          after : IsNowAt number Holds now
          after = subst (IsNowAt number Holds) (run_append values v (Turn.Round ∷ []) (opened_world start)) (subst Now step.is step.after)

          unanswered : IsUnansweredAt (books_in ended.books) h.side h.place h.fin q
          unanswered = subst (IsUnansweredAt (books_in ended.books) h.side h.place h.fin) same h.unanswered

          same_books : books_in now.books ≡ books_in ended.books
          same_books = ap (λ (y : WorldState Carried). books_in y.books) (round_is ended step.over)

          wanted : IsWantedOrUnknown (books_in now.books) (peer h.side) h.place h.fin after.path
          wanted = ⊎_elim
              (λ wants. inl (at_round ended step.over q after.path step.before.here after.here (WantsUpTo (books_in now.books) (peer h.side) h.place)
              ((what_is_wanted_is_told values).begins (books_in now.books) (peer h.side) h.place q (subst (λ (six : SixBooks). h.place ≤ next_wanted (reassembly_of (peer h.side) six)) (sym same_books) wants))))
              (λ unknown. inr (unknown.0, ap (λ (six : SixBooks). (reassembly_of (peer h.side) six).known_end) same_books ∙ unknown.1))
              (wanted_or_unknown start v mild.plain.size h.side h.place h.fin (past_the_end h.place h.fin _ _ unanswered) h.has)

  pub answers_await : (most : ℕ) → AnswersAreAwaitedAt number start Holds most
  answers_await most = record {
    begins = λ v u step h. wait_begins most v u step h;
    on = λ x v u step h. steps_on most x v u step h;
    next = λ x v u step h. opens_on most v u step x h;
    due = λ x v u step h late. absurd (none_late most v u step x h late);
  }

pub answers_are_awaited : AnswersAreAwaitedAlways
answers_are_awaited start most mild = answers_await 0 start mild IsOpen (open_sound start mild) most

-- over one path
pub answers_are_awaited_always : (start : Start) (plan : PathPlan) (most : ℕ) → start.paths ≡ plan ∷ [] → IsMildStart start → AnswersAreAwaited start most
answers_are_awaited_always start plan most one mild = answers_are_awaited start most mild
