-- Over one path all that was written as a round began is acknowledged once its end has nothing outstanding, and may ask for more.
use Rattle.std.proofs.Common.{◌≡◌, refl, sym, subst, ap, ◌∙◌, ⊎_elim, ℕ, zero, suc, ◌+◌, ◌<◌, ◌≤◌, max, arith, Bool, true, false, true≢false, cond, if◌then◌else◌, Ok, Err, Result, Option, Some, List, [], ◌∷◌, ◌++◌, drop, length, length-append, map, set, le_refl}
use Rattle.std.specs.List.{slice_get}
use Rattle.std.proofs.lemmas.List.Sums.{sum_by-cons}
use Rattle.sides.specs.declared.side.Side.{Side}
use Rattle.sides.specs.declared.side.Side.TheVariants.{A, B}
use Rattle.send_book.specs.declared.call.SendCall.{SendCall}
use Rattle.send_book.specs.declared.call.SendCall.TheVariants as calls
use Rattle.send_book.specs.declared.call.SendReply.TheVariants as send_replies
use Rattle.send_book.specs.declared.call.Span.{Span}
use Rattle.send_book.specs.declared.call.Why.{Why}
use Rattle.send_book.specs.declared.mark.ByteMark.{ByteMark}
use Rattle.send_book.specs.declared.mark.ByteMark.TheVariants.{Acked, Free, Held}
use Rattle.send_book.specs.Marks.{is_acked}
use Rattle.send_book.specs.State.{Sending, acked_len, new_sending}
use Rattle.send_book.specs.Steps.{after_call, decision, end_of, given_by, reply_by, reply_to}
use Rattle.send_book.proofs.Grants.{spent}
use Rattle.stream_lanes.specs.Marks.{tried}
use Rattle.stream_lanes.proofs.Lists.{Every-nil, in_map, in_set}
use Rattle.stamped_book.specs.declared.stamped.Pass.{Pass}
use Rattle.actor_desk.specs.declared.ask.Ask.{Ask}
use Rattle.actor_desk.specs.declared.ask.Ask.TheVariants as asks
use Rattle.actor_desk.specs.declared.ask.Note.{Note}
use Rattle.actor_desk.specs.declared.ask.Reply.{Reply}
use Rattle.actor_desk.specs.declared.ask.Reply.TheVariants as replies
use Rattle.actor_desk.specs.Books.{StampedBooks, after_entry, books_in}
use Rattle.actor_desk.specs.Desk.{SixBooks, after_ask, reply_of, send_of}
use Rattle.stream_apps.specs.AppSteps.{app_ask}
use Rattle.path_agenda.specs.declared.duty.Duty.{Duty}
use Rattle.subflow_send.specs.Records.{Record}
use Rattle.path_store.specs.declared.granted_piece.GrantedPiece.{GrantedPiece}
use Rattle.path_core.specs.Codec.{Codec}
use Rattle.path_core.specs.Duties.{answered, ask_for}
use Rattle.path_core.specs.DataFin.{is_shut}
use Rattle.path_core.specs.Emission.{may_ask}
use Rattle.path_core.specs.End.{PathEnd}
use Rattle.path_core.specs.Octets.{octets}
use Rattle.path_core.specs.Start.{waiting_path}
use Rattle.path_core.specs.State.{PathState, end_at, path_of}
use Rattle.path_core.specs.Steps.{takes}
use Rattle.path_core.specs.Values.{Carried, values}
use Rattle.world_laws.specs.declared.member.Member.TheVariants.{App, Path}
use Rattle.world_laws.specs.Actors.{Actor, ActorCrew}
use Rattle.world_laws.specs.Members.{HoldsOfKind, of_kind}
use Rattle.world_laws.specs.Openings.{PathPlan, Start, opened_world, path_begins}
use Rattle.world_laws.specs.Outcomes.{notes_at, notes_or}
use Rattle.world_laws.specs.Promises.{HasRoom, NumbersFit, written_by}
use Rattle.world_laws.specs.RoundEnd.{asks_grant, is_no_grant, last_refused, refused_after}
use Rattle.world_laws.specs.RoundNumbers.{AreDoneAsking, BeginsRound, after_steps, is_standby, last_on_standby, steps_since}
use Rattle.world_laws.specs.RoundNumbers.BeginsRound.{First, Next}
use Rattle.world_laws.specs.StampedBooks.{answer_to}
use Rattle.world_laws.specs.Worlds.{WorldState, Turn, greatest, note_of, world_run}
use Rattle.world_laws.proofs.Asks.SendBooks.{last_more}
use Rattle.world_laws.proofs.Rounds.AskingForNothing as asking
use Rattle.world_laws.proofs.Rounds.Frame.{first_keeps, takes_keeps}
use Rattle.world_laws.proofs.Weaving.Journals.{books_after}
use Rattle.world_laws.proofs.Weaving.WholeRounds.{run_append}
use Rattle.world_laws.proofs.Worlds.CastLifting.{Has, Stepwise, path_actor, steps_have, turns_have}
use Rattle.world_laws.proofs.Worlds.Casts.{Cast, Fare, Walker, first_cast, first_fare, next_cast, opened_is, walked, walking, walker_there, walks_on, world_of}
use Rattle.world_laws.proofs.Writes.Asks.{asks_no_more}
use Rattle.whole_paths.specs.Acknowledged.{AllIsAcknowledged, GrantedIsAcknowledged, IdleIsAcknowledged, IsAllAcknowledged, IsIdle, WhatIdleEndsWroteIsAcknowledged, WhatWasGrantedIsAcknowledged, WhatWasWrittenIsAcknowledged, WrittenIsAcknowledged}
use Rattle.whole_paths.specs.Reasons.{IsOutstanding}
use Rattle.whole_paths.specs.Room.{HasWindows, WhoIsDoneMayAsk}
use Rattle.whole_paths.specs.Shut.{IsSentToTheEdge, LeavesNothingBeforeTheEdge, WhatIsLeftIsPastTheEdge}
use Rattle.whole_paths.specs.Shut.{IsSentToTheEdge as sent}
use Rattle.whole_paths.proofs.Acknowledged.{what_was_granted_is_acknowledged, what_was_granted_is_acknowledged_in_octets}
use Rattle.whole_paths.proofs.Refusals.{AtGrant, at_grant, takes_told}
use Rattle.whole_paths.proofs.Refusals.AtGrant.{asks_none_of_it, asks_bytes}
use Rattle.whole_paths.proofs.Room.{who_is_done_may_ask, who_is_done_may_ask_in_octets}
use Rattle.whole_paths.proofs.OnlyBooks.{AreSpent, AskIsOf, BookStep, BooksAreOf, IsAckedInTurn, IsOf, Refusal, aborted_step, app_asks_own, ask_of, book_step, path_asks_own, refusal, spent_step, written_step}
use Rattle.whole_paths.proofs.OnlyBooks.Refusal.{by_window, by_standby, by_stop, by_spent}

-- ---- what became of the bytes that were asked for, by the steps of a round

data Fate (s : Side) (n : Sending) (steps : List Note) (e : PathEnd) (b : Sending) : Type 0 where
  unasked : last_refused s false steps ≡ false → Fate s n steps e b
  all_spent : e.sending.shut ≡ false → AreSpent (length n.written) b → Fate s n steps e b
  on_standby : last_on_standby s false steps ≡ true → Fate s n steps e b
  is_stopped : b.aborted ≡ true → Fate s n steps e b
  shuts : e.sending.shut ≡ true → AreSpent n.edge b → n.edge < length b.written → Fate s n steps e b

-- the path took all that was written then, or all before the edge of the peer's window as it was; or it was on standby when it asked last, or the
-- connection was stopped
pub data Spends (s : Side) (n : Sending) (steps : List Note) (e : PathEnd) (b : Sending) : Type 0 where
  written : AreSpent (length n.written) b → Spends s n steps e b
  edge : e.sending.shut ≡ true → AreSpent n.edge b → Spends s n steps e b
  standby : last_on_standby s false steps ≡ true → Spends s n steps e b
  stopped : b.aborted ≡ true → Spends s n steps e b

pub refused_more : (s : Side) (before : Bool) (steps : List Note) (n : Note) → last_refused s before (steps ++ n ∷ []) ≡ refused_after s n (last_refused s before steps)
refused_more s before [] n = refl
refused_more s before (m ∷ steps) n = refused_more s (refused_after s m before) steps n

pub choice : {X : Type 0} (c d : Bool) (x y : X) → c ≡ d → (if c then x else y) ≡ (if d then x else y)
choice c d x y same = ap (λ b. if b then x else y) same

-- a step that asks for no bytes of the side
fate_on : (s : Side) (n : Sending) (steps : List Note) (e f : PathEnd) (b c : Sending) → BookStep b c → f.sending.shut ≡ e.sending.shut → Fate s n steps e b → Fate s n steps f c
fate_on s n steps e f b c step same (unasked is) = unasked is
fate_on s n steps e f b c step same (all_spent is_open is) = all_spent (same ∙ is_open) (spent_step (length n.written) b c step is)
fate_on s n steps e f b c step same (on_standby is) = on_standby is
fate_on s n steps e f b c step same (is_stopped is) = is_stopped (aborted_step b c step is)
fate_on s n steps e f b c step same (shuts is all more) = shuts (same ∙ is) (spent_step n.edge b c step all) (let up = written_step b c step in omega (arith, more, up))

fate_noted : (s : Side) (n : Sending) (steps : List Note) (note : Note) (e : PathEnd) (b : Sending) → asks_grant s note.ask ≡ false → Fate s n steps e b → Fate s n (steps ++ note ∷ []) e b
fate_noted s n steps note e b quiet (unasked is) = unasked (refused_more s false steps note ∙ choice _ false _ _ quiet ∙ is)
fate_noted s n steps note e b quiet (all_spent is_open is) = all_spent is_open is
fate_noted s n steps note e b quiet (on_standby is) = on_standby (last_more s false steps note ∙ choice _ false _ _ quiet ∙ is)
fate_noted s n steps note e b quiet (is_stopped is) = is_stopped is
fate_noted s n steps note e b quiet (shuts is all more) = shuts is all more

pub own_grant : (s : Side) (asker max : ℕ) (stands : Bool) → asks_grant s (asks.Send s (calls.Grant asker max stands)) ≡ true
own_grant = elim [ A ↦ λ asker max stands. refl | B ↦ λ asker max stands. refl ]

pub own_standby : (s : Side) (asker max : ℕ) (stands : Bool) → is_standby (asks.Send s (calls.Grant asker max stands)) ≡ stands
own_standby s asker max stands = refl

-- a step that asks for bytes of the side
fate_asked : (s : Side) (n : Sending) (steps : List Note) (note : Note) (max : ℕ) (stands : Bool) (f : PathEnd) (b : Sending) → IsOf n b → note.ask ≡ asks.Send s (calls.Grant 0 max stands)
    → (r : Result Span Why) → decision 0 max stands b ≡ r → note.reply ≡ replies.Send (reply_by r b) → ((why : Why) → r ≡ Err why → f.sending.shut ≡ is_shut why)
    → Fate s n (steps ++ note ∷ []) f (given_by 0 r b)
fate_asked s n steps note max stands f b h asked (Ok span) decided replied tells =
    let asks_it : asks_grant s note.ask ≡ true = ap (asks_grant s) asked ∙ own_grant s 0 max stands in
    unasked (refused_more s false steps note ∙ choice _ true _ _ asks_it ∙ ap is_no_grant replied)
fate_asked s n steps note max stands f b h asked (Err why) decided replied tells = by (refusal n b h max stands why decided)
  where
    by : Refusal n b stands why → Fate s n (steps ++ note ∷ []) f b
    by (by_window same all more) = shuts (tells why refl ∙ ap is_shut same) all more
    by (by_standby stood) =
        let asks_it : asks_grant s note.ask ≡ true = ap (asks_grant s) asked ∙ own_grant s 0 max stands in
        on_standby (last_more s false steps note ∙ choice _ true _ _ asks_it ∙ ap is_standby asked ∙ stood)
    by (by_stop is) = is_stopped is
    by (by_spent is_open is) = all_spent (tells why refl ∙ is_open) is

-- ---- the world

pub send_after : (s : Side) (x : SendCall) (six : SixBooks) → send_of s (after_ask (asks.Send s x) six) ≡ after_call (send_of s six) x
send_after = elim [ A ↦ λ x six. refl | B ↦ λ x six. refl ]

pub send_replied : (s : Side) (x : SendCall) (six : SixBooks) → reply_of six (asks.Send s x) ≡ replies.Send (reply_to (send_of s six) x)
send_replied = elim [ A ↦ λ x six. refl | B ↦ λ x six. refl ]

drop_more : (n : ℕ) (xs ys : List Note) → n ≤ length xs → drop n (xs ++ ys) ≡ drop n xs ++ ys
drop_more zero xs ys low = refl
drop_more (suc n) [] ys low = absurd (omega (arith, low))
drop_more (suc n) (x ∷ xs) ys low = drop_more n xs ys (omega (arith, low))

module _ {C : Type 0} where
  -- there is path 0 alone
  abbrev pub IsOnly : List (Walker C) → Type 0
  IsOnly paths = (i : ℕ) (x : Walker C) → slice_get paths i ≡ Some x → (i ≡ 0) × (path_of x.path ≡ 0)

  pub record Alone (sizes : Side → Sending) (t : Cast C) : Type 0 where
    pub paths : IsOnly t.paths
    pub books : BooksAreOf sizes (books_in t.books)

  -- and in a round: the steps that the path had made as it began, and what became of the bytes since
  record InRound (sizes : Side → Sending) (count : ℕ) (t : Cast C) : Type 0 where
    alone : Alone sizes t
    noted : (i : ℕ) (x : Walker C) → slice_get t.paths i ≡ Some x → count ≤ length x.at.list
    fates : (i : ℕ) (x : Walker C) → slice_get t.paths i ≡ Some x → (s : Side) → Fate s (sizes s) (drop count x.at.list) (end_at s x.path) (send_of s (books_in t.books))

  module _ (k : Codec C) (start : Start) where
    -- ---- each step

    books_so : (sizes : Side → Sending) (x : Ask) (pass : Pass) (books : StampedBooks) → AskIsOf 0 x → BooksAreOf sizes (books_in books) → BooksAreOf sizes (books_in (after_entry x pass books))
    books_so sizes x pass books own h = subst (BooksAreOf sizes) (sym (books_after x pass books)) (ask_of sizes x (books_in books) own h)

    pub step_so : (x : Ask) (pass : Pass) (books : StampedBooks) → AskIsOf 0 x → (s : Side) → BookStep (send_of s (books_in books)) (send_of s (books_in (after_entry x pass books)))
    step_so x pass books own s = subst (λ (six : SixBooks). BookStep (send_of s (books_in books)) (send_of s six)) (sym (books_after x pass books)) (book_step x (books_in books) own s)

    pub path_own : (p : PathState C) (d : Duty) → path_of p ≡ 0 → AskIsOf 0 (ask_for k d p)
    path_own p d zero_is = subst (λ n. AskIsOf n (ask_for k d p)) zero_is (path_asks_own p (ask_for k d p) (asks_no_more k p d).own)

    walked_only : (t : Cast C) (number : ℕ) (x : Walker C) (d : Duty) → IsOnly t.paths → slice_get t.paths number ≡ Some x → IsOnly (set t.paths number (walked k (ask_for k d x.path) t.books x))
    walked_only t number x d h there i y at =
        let here = h number x there in
        ⊎_elim
        (λ same. (same.0 ∙ here.0, subst (λ (z : Walker C). path_of z.path ≡ 0) same.1 ((takes_keeps k _ x.path).2 ∙ here.1)))
        (λ other. h i y other.1)
        (in_set t.paths number (walked k (ask_for k d x.path) t.books x) i y at)

    pub alone_kept : (sizes : Side → Sending) → Stepwise k start (Alone sizes)
    alone_kept sizes = record {
      a = λ t f d ds is h. record { paths = h.paths; books = books_so sizes (app_ask d t.a) t.at_a.pass t.books (app_asks_own d t.a) h.books };
      b = λ t f d ds is h. record { paths = h.paths; books = books_so sizes (app_ask d t.b) t.at_b.pass t.books (app_asks_own d t.b) h.books };
      path = λ t f number x there d ds is h. record {
        paths = walked_only t number x d h.paths there;
        books = books_so sizes (ask_for k d x.path) x.at.pass t.books (path_own x.path d (h.paths number x there).1) h.books;
      };
    }

    pub alone_next : (sizes : Side → Sending) (t : Cast C) → Fare start t → Alone sizes t → Alone sizes (next_cast t)
    alone_next sizes t f h = record {
      paths = λ i x there.
          (let found = in_map (walks_on (greatest 0 (world_of t).crew)) t.paths i x there in let at = h.paths i found.0 found.1 in (
            at.0,
            subst (λ (y : Walker C). path_of y.path ≡ 0) found.2
                ((first_keeps (record found.0.path { clock = found.0.path.until; until = found.0.path.until + 100 })).2 ∙ at.1),
          ));
      books = h.books;
    }

    abbrev pub nothing_written : Side → Sending
    nothing_written s = new_sending start.buffer

    pub first_alone : (plan : PathPlan) → start.paths ≡ plan ∷ [] → Alone nothing_written (first_cast start)
    first_alone plan one = record {
      paths = λ i x there.
          (let found = walker_there {C = C} start 0 i i start.paths x (omega arith) there in
          let first : i ≡ 0 = only i found.0 (subst (λ ps. slice_get ps i ≡ Some found.0) one found.1) in (
            first,
            subst (λ (y : Walker C). path_of y.path ≡ 0) (sym found.2)
                ((first_keeps (waiting_path {C = C} (path_begins start i found.0) start.lines)).2 ∙ first),
          ));
      books = elim [ A ↦ nothing_of | B ↦ nothing_of ];
    }
      where
        only : (i : ℕ) (x : PathPlan) → slice_get (plan ∷ []) i ≡ Some x → i ≡ 0
        only zero x is = refl
        only (suc i) x is = cc

        nothing_of : IsOf (new_sending start.buffer) (new_sending start.buffer)
        nothing_of = record {
          tried = λ other place is. absurd (true≢false (sym is));
          held = Every-nil _;
          ones = record { tried = Every-nil _; whole = refl; grown = omega arith };
          opened = omega arith;
          owner = refl;
          in_turn = record { first = refl; fits = omega arith };
        }

    pub always_alone : (plan : PathPlan) → start.paths ≡ plan ∷ [] → (turns : List Turn) → Has start (Alone nothing_written) (world_run k turns (opened_world start))
    always_alone plan one turns =
        turns_have k start (Alone nothing_written) (alone_kept nothing_written) (alone_next nothing_written) turns (opened_world start)
        (record { cast = first_cast start; is = opened_is start; fare = first_fare start; holds = first_alone plan one })

    -- ---- in a round

    module _ (sizes : Side → Sending) (count : ℕ) where
      app_kept : (t : Cast C) (x : Ask) (pass : Pass) → AskIsOf 0 x → InRound sizes count t → (i : ℕ) (y : Walker C) → slice_get t.paths i ≡ Some y → (s : Side)
          → Fate s (sizes s) (drop count y.at.list) (end_at s y.path) (send_of s (books_in (after_entry x pass t.books)))
      app_kept t x pass own h i y there s =
          fate_on s (sizes s) (drop count y.at.list) (end_at s y.path) (end_at s y.path) (send_of s (books_in t.books)) _ (step_so x pass t.books own s) refl (h.fates i y there s)

      module _ (t : Cast C) (number : ℕ) (x : Walker C) (d : Duty) where
        abbrev ask : Ask
        ask = ask_for k d x.path

        abbrev reply : Reply
        reply = answer_to t.books ask

        abbrev note : Note
        note = note_of t.books x.at.pass ask

        abbrev six : SixBooks
        six = books_in t.books

        -- where bytes of the side are asked for
        granted_fate : (s : Side) (max : ℕ) (stands : Bool) → ask ≡ asks.Send s (calls.Grant 0 max stands) → IsOf (sizes s) (send_of s six)
            → ((why : Why) (known : Option ℕ) → reply ≡ replies.Send (send_replies.NoGrant why known) → (end_at s (takes k reply x.path)).sending.shut ≡ is_shut why)
            → Fate s (sizes s) (drop count x.at.list ++ note ∷ []) (end_at s (takes k reply x.path)) (send_of s (after_ask ask six))
        granted_fate s max stands asked own tells =
            let b : Sending = send_of s six in
            let call : SendCall = calls.Grant 0 max stands in
            let after : send_of s (after_ask ask six) ≡ given_by 0 (decision 0 max stands b) b = ap (λ y. send_of s (after_ask y six)) asked ∙ send_after s call six in
            let replied : reply ≡ replies.Send (reply_by (decision 0 max stands b) b) = ap (λ y. reply_of six y) asked ∙ send_replied s call six in
            subst (λ (c : Sending). Fate s (sizes s) (drop count x.at.list ++ note ∷ []) (end_at s (takes k reply x.path)) c) (sym after)
            (fate_asked s (sizes s) (drop count x.at.list) note max stands (end_at s (takes k reply x.path)) b own asked (decision 0 max stands b) refl replied
            (λ why refused. tells why (end_of b) (replied ∙ ap (λ r. replies.Send (reply_by r b)) refused)))

        path_fate : slice_get t.paths number ≡ Some x → (ds : List Duty) → x.path.agenda ≡ d ∷ ds → InRound sizes count t → (s : Side)
            → Fate s (sizes s) (drop count x.at.list ++ note ∷ []) (end_at s (takes k reply x.path)) (send_of s (after_ask ask six))
        path_fate there ds is h s = by (at_grant k x.path d s)
          where
            by : AtGrant s x.path ask (λ r. answered k d r x.path) → Fate s (sizes s) (drop count x.at.list ++ note ∷ []) (end_at s (takes k reply x.path)) (send_of s (after_ask ask six))
            by (asks_none_of_it quiet same) =
                fate_noted s (sizes s) (drop count x.at.list) note (end_at s (takes k reply x.path)) (send_of s (after_ask ask six)) quiet
                (fate_on s (sizes s) (drop count x.at.list) (end_at s x.path) (end_at s (takes k reply x.path)) (send_of s six) (send_of s (after_ask ask six))
                (book_step ask six (path_own x.path d (h.alone.paths number x there).1) s) ((takes_told k x.path reply d ds is s).shut ∙ (same reply).shut) (h.fates number x there s))
            by (asks_bytes max stands asked tells size gives) =
                granted_fate s max stands (asked ∙ ap (λ n. asks.Send s (calls.Grant n max stands)) (h.alone.paths number x there).1) (h.alone.books s)
                (λ why known refused. (takes_told k x.path reply d ds is s).shut ∙ ap (λ r. (end_at s (answered k d r x.path)).sending.shut) refused ∙ (tells why known).shut)

        walked_fate : slice_get t.paths number ≡ Some x → (ds : List Duty) → x.path.agenda ≡ d ∷ ds → InRound sizes count t → (s : Side)
            → Fate s (sizes s) (drop count (x.at.list ++ note ∷ [])) (end_at s (takes k reply x.path)) (send_of s (books_in (after_entry ask x.at.pass t.books)))
        walked_fate there ds is h s =
            subst (λ (steps : List Note). Fate s (sizes s) steps (end_at s (takes k reply x.path)) (send_of s (books_in (after_entry ask x.at.pass t.books))))
            (sym (drop_more count x.at.list (note ∷ []) (h.noted number x there)))
            (subst (λ (y : SixBooks). Fate s (sizes s) (drop count x.at.list ++ note ∷ []) (end_at s (takes k reply x.path)) (send_of s y)) (sym (books_after ask x.at.pass t.books))
            (path_fate there ds is h s))

      round_kept : Stepwise k start (InRound sizes count)
      round_kept = record {
        a = λ t f d ds is h. record { alone = (alone_kept sizes).a t f d ds is h.alone; noted = h.noted; fates = app_kept t (app_ask d t.a) t.at_a.pass (app_asks_own d t.a) h };
        b = λ t f d ds is h. record { alone = (alone_kept sizes).b t f d ds is h.alone; noted = h.noted; fates = app_kept t (app_ask d t.b) t.at_b.pass (app_asks_own d t.b) h };
        path = λ t f number x there d ds is h.
            (let ask : Ask = ask_for k d x.path in
            let y : Walker C = walked k ask t.books x in
            let low = h.noted number x there in
            record {
              alone = (alone_kept sizes).path t f number x there d ds is h.alone;
              noted = λ i z at. ⊎_elim
                  (λ same. subst (λ (v : Walker C). count ≤ length v.at.list) same.1 (omega (arith, low, length-append x.at.list (note_of t.books x.at.pass ask ∷ []))))
                  (λ other. h.noted i z other.1)
                  (in_set t.paths number y i z at);
              fates = λ i z at s. ⊎_elim
                  (λ same. subst (λ (v : Walker C). Fate s (sizes s) (drop count v.at.list) (end_at s v.path) (send_of s (books_in (after_entry ask x.at.pass t.books)))) same.1
                  (walked_fate t number x d there ds is h s))
                  (λ other. app_kept t ask x.at.pass (path_own x.path d (h.alone.paths number x there).1) h i z other.1 s)
                  (in_set t.paths number y i z at);
            });
      }

    -- ---- from the round's beginning

    drop_all : (xs : List Note) → drop (length xs) xs ≡ []
    drop_all [] = refl
    drop_all (x ∷ xs) = drop_all xs

    pub notes_there : (t : Cast C) (i : ℕ) (x : Walker C) → slice_get t.paths i ≡ Some x → i ≡ 0 → notes_at 2 (world_of t).crew ≡ x.at.list
    notes_there t zero x there first = ap (λ o. notes_or o) (path_actor t 0 x there)
    notes_there t (suc i) x there first = absurd (omega (arith, first))

    begun_round : (begun : WorldState C) → Has start (Alone nothing_written) begun → Has start (InRound (λ s. written_by s begun) (length (notes_at 2 begun.crew))) begun
    begun_round begun h = record { cast = h.cast; is = h.is; fare = h.fare; holds = record { alone = record { paths = h.holds.paths; books = books }; noted = noted; fates = fates } }
      where
        books : (s : Side) → IsOf (written_by s begun) (send_of s (books_in h.cast.books))
        books s =
            let own = h.holds.books s in
            record {
              tried = own.tried;
              held = own.held;
              ones = record {
                tried = own.ones.tried;
                whole = own.ones.whole;
                grown = subst (λ (w : WorldState C). length (written_by s begun).written ≤ length (written_by s w).written) h.is (le_refl (length (written_by s begun).written));
              };
              opened = subst (λ (w : WorldState C). (written_by s begun).edge ≤ (written_by s w).edge) h.is (le_refl (written_by s begun).edge);
              owner = own.owner;
              in_turn = own.in_turn;
            }

        listed : (i : ℕ) (x : Walker C) → slice_get h.cast.paths i ≡ Some x → notes_at 2 begun.crew ≡ x.at.list
        listed i x there = ap (λ (w : WorldState C). notes_at 2 w.crew) h.is ∙ notes_there h.cast i x there (h.holds.paths i x there).0

        noted : (i : ℕ) (x : Walker C) → slice_get h.cast.paths i ≡ Some x → length (notes_at 2 begun.crew) ≤ length x.at.list
        noted i x there = let same : length (notes_at 2 begun.crew) ≡ length x.at.list = ap (λ (ns : List Note). length ns) (listed i x there) in omega (arith, same)

        fates : (i : ℕ) (x : Walker C) → slice_get h.cast.paths i ≡ Some x → (s : Side)
            → Fate s (written_by s begun) (drop (length (notes_at 2 begun.crew)) x.at.list) (end_at s x.path) (send_of s (books_in h.cast.books))
        fates i x there s = unasked (
            ap (λ (ns : List Note). last_refused s false (drop (length ns) x.at.list)) (listed i x there) ∙ ap (λ (ns : List Note). last_refused s false ns) (drop_all x.at.list))

    pub reached_at : (begun : WorldState C) (order : List ℕ) → BeginsRound k start begun → (turns : List Turn) × (begun ≡ world_run k turns (opened_world start))
    reached_at begun order (First is) = ([], is)
    reached_at begun order (Next turns over is) = (turns ++ Turn.Round ∷ [], is ∙ sym (run_append k turns (Turn.Round ∷ []) (opened_world start)))

    -- ---- its end

    -- bytes that are spent, of which path 0 tried none that isn't acknowledged, are acknowledged
    pub first_acked : (n : ℕ) (ms : List ByteMark) → ((place : ℕ) → place < n → spent 0 (slice_get ms place) ≡ true) → ((place : ℕ) → tried 0 (slice_get ms place) ≡ false) → n ≤ acked_len ms
    first_acked zero ms all none = omega arith
    first_acked (suc n) [] all none = absurd (true≢false (sym (all 0 (omega arith))))
    first_acked (suc n) (m ∷ ms) all none =
        let first : is_acked m ≡ true = by m (all 0 (omega arith)) (none 0) in
        let one : cond {A = ℕ} (is_acked m) 1 0 ≡ 1 = ap (λ c. cond {A = ℕ} c 1 0) first in
        let rest = first_acked n ms (λ place low. all (suc place) (omega (arith, low))) (λ place. none (suc place)) in
        omega (arith, one, rest, sum_by-cons (λ (y : ByteMark). cond (is_acked y) 1 0) m ms)
      where
        by : (m : ByteMark) → spent 0 (Some m) ≡ true → tried 0 (Some m) ≡ false → is_acked m ≡ true
        by Acked is none = refl
        by (Held holder among) is none = absurd (true≢false (sym is ∙ none))
        by (Free among) is none = absurd (true≢false (sym is ∙ none))

    fate_sent : (s : Side) (n : Sending) (steps : List Note) (e : PathEnd) (b : Sending) → Fate s n steps e b → last_refused s false steps ≡ true → IsAckedInTurn b → AllIsAcknowledged 0 b → IsSentToTheEdge s steps n e b
    fate_sent s n steps e b (unasked is) refused in_turn all = absurd (true≢false (sym refused ∙ is))
    fate_sent s n steps e b (all_spent is_open is) refused in_turn all = sent.acknowledged is_open (first_acked (length n.written) b.marks is all)
    fate_sent s n steps e b (on_standby is) refused in_turn all = sent.standby is
    fate_sent s n steps e b (is_stopped is) refused in_turn all = sent.stopped is
    fate_sent s n steps e b (shuts is spent more) refused in_turn all = sent.shut is (first_acked n.edge b.marks spent all) more in_turn.fits

    fate_spent : (s : Side) (n : Sending) (steps : List Note) (e : PathEnd) (b : Sending) → Fate s n steps e b → last_refused s false steps ≡ true → Spends s n steps e b
    fate_spent s n steps e b (unasked is) refused = absurd (true≢false (sym refused ∙ is))
    fate_spent s n steps e b (all_spent is_open is) refused = Spends.written is
    fate_spent s n steps e b (on_standby is) refused = Spends.standby is
    fate_spent s n steps e b (is_stopped is) refused = Spends.stopped is
    fate_spent s n steps e b (shuts is spent more) refused = Spends.edge is spent

    sent_acked : (s : Side) (n : Sending) (steps : List Note) (e : PathEnd) (b : Sending) → IsIdle e → IsSentToTheEdge s steps n e b → IsAllAcknowledged s steps (length n.written) b
    sent_acked s n steps e b idle (sent.acknowledged is_open is) = IsAllAcknowledged.acknowledged is
    sent_acked s n steps e b idle (sent.shut is low more fits) = absurd (true≢false (sym is ∙ idle.open_window))
    sent_acked s n steps e b idle (sent.standby is) = IsAllAcknowledged.standby is
    sent_acked s n steps e b idle (sent.stopped is) = IsAllAcknowledged.stopped is

    module _ (begun : WorldState C) (order : List ℕ) (plan : PathPlan) (one : start.paths ≡ plan ∷ []) (begins : BeginsRound k start begun) (all : WhatWasGrantedIsAcknowledged (after_steps k order begun)) where
      abbrev w : WorldState C
      w = after_steps k order begun

      round : Has start (InRound (λ s. written_by s begun) (length (notes_at 2 begun.crew))) w
      round =
          let at = reached_at begun order begins in
          steps_have k start (InRound (λ s. written_by s begun) (length (notes_at 2 begun.crew))) (round_kept (λ s. written_by s begun) (length (notes_at 2 begun.crew))) order begun
          (begun_round begun (subst (Has start (Alone nothing_written)) (sym at.1) (always_alone plan one at.0)))

      -- what became of the bytes that were asked for, where the turn of the path is over
      path_fate_at : (c : ActorCrew C) (p : PathState C) → c.member ≡ Path p → slice_get w.crew 2 ≡ Some c → (s : Side) → Fate s (written_by s begun) (steps_since 2 begun w) (end_at s p) (written_by s w)
      path_fate_at c p kind there s =
          let crew : slice_get (world_of round.cast).crew 2 ≡ Some c = ap (λ (v : WorldState C). slice_get v.crew 2) (sym round.is) ∙ there in
          let found = in_map walking round.cast.paths 0 c crew in
          let is_path : Path found.0.path ≡ Path p = ap (λ (y : ActorCrew C). y.member) found.2 ∙ kind in
          let same : found.0.path ≡ p = ap (of_kind (λ app. p) (λ (q : PathState C). q)) is_path in
          let listed : notes_at 2 w.crew ≡ found.0.at.list = ap (λ (v : WorldState C). notes_at 2 v.crew) round.is ∙ notes_there round.cast 0 found.0 found.1 refl in
          let fate : Fate s (written_by s begun) (drop (length (notes_at 2 begun.crew)) found.0.at.list) (end_at s found.0.path) (send_of s (books_in round.cast.books)) = round.holds.fates 0 found.0 found.1 s in
          subst (λ (v : WorldState C). Fate s (written_by s begun) (steps_since 2 begun w) (end_at s p) (written_by s v)) (sym round.is)
          (subst (λ (q : PathState C). Fate s (written_by s begun) (steps_since 2 begun w) (end_at s q) (send_of s (books_in round.cast.books))) same
          (subst (λ (ns : List Note). Fate s (written_by s begun) (drop (length (notes_at 2 begun.crew)) ns) (end_at s found.0.path) (send_of s (books_in round.cast.books))) (sym listed) fate))

      refused_at : (c : ActorCrew C) (p : PathState C) → c.member ≡ Path p → slice_get w.crew 2 ≡ Some c → p.agenda ≡ [] → (s : Side) → may_ask p.profile s (end_at s p) ≡ true → last_refused s false (steps_since 2 begun w) ≡ true
      refused_at c p kind there over s may = subst (λ m. AreDoneAsking m (steps_since 2 begun w)) kind ((asking.grants_are_done k start begun order begins).each 2 c there) over s may

      path_sent : (c : ActorCrew C) (m : Actor C) → c.member ≡ m → slice_get w.crew 2 ≡ Some c → HoldsOfKind (λ app. Unit {0}) (LeavesNothingBeforeTheEdge begun w) m
      path_sent c (App a) kind there = tt
      path_sent c (Path p) kind there = λ over s may nothing_granted.
          (let crew : slice_get (world_of round.cast).crew 2 ≡ Some c = ap (λ (v : WorldState C). slice_get v.crew 2) (sym round.is) ∙ there in
          let found = in_map walking round.cast.paths 0 c crew in
          let is_path : Path found.0.path ≡ Path p = ap (λ (y : ActorCrew C). y.member) found.2 ∙ kind in
          let same : found.0.path ≡ p = ap (of_kind (λ app. p) (λ (q : PathState C). q)) is_path in
          let zero_is : path_of p ≡ 0 = sym (ap (λ (q : PathState C). path_of q) same) ∙ (round.holds.alone.paths 0 found.0 found.1).1 in
          let granted : AllIsAcknowledged (path_of p) (written_by s w) = subst (HoldsOfKind (λ app. Unit {0}) (GrantedIsAcknowledged w)) kind (all.each 2 c there) s nothing_granted in
          fate_sent s (written_by s begun) (steps_since 2 begun w) (end_at s p) (written_by s w) (path_fate_at c p kind there s) (refused_at c p kind there over s may)
          (subst (λ (v : WorldState C). IsAckedInTurn (written_by s v)) (sym round.is) (round.holds.alone.books s).in_turn) (subst (λ n. AllIsAcknowledged n (written_by s w)) zero_is granted))

      -- where the end may ask for bytes the path took all that was written as the round began, or all before the edge of the window that the side had then
      pub path_spends : (c : ActorCrew C) (p : PathState C) → c.member ≡ Path p → slice_get w.crew 2 ≡ Some c → p.agenda ≡ [] → (s : Side) → may_ask p.profile s (end_at s p) ≡ true → Spends s (written_by s begun) (steps_since 2 begun w) (end_at s p) (written_by s w)
      path_spends c p kind there over s may = fate_spent s (written_by s begun) (steps_since 2 begun w) (end_at s p) (written_by s w) (path_fate_at c p kind there s) (refused_at c p kind there over s may)

      path_acked : (m : Actor C) → HoldsOfKind (λ app. Unit {0}) HasWindows m → HoldsOfKind (λ app. Unit {0}) (LeavesNothingBeforeTheEdge begun w) m → HoldsOfKind (λ app. Unit {0}) (IdleIsAcknowledged begun w) m
      path_acked (App a) windows h = tt
      path_acked (Path p) windows h = λ over s may clear idle.
          sent_acked s (written_by s begun) (steps_since 2 begun w) (end_at s p) (written_by s w) idle (h over s (windows.unsent s may clear idle.records) idle.pieces)

-- where it is so at every moment
abbrev AllAcknowledges : {C : Type 0} → Codec C → Type 0
AllAcknowledges k = (start : Start) (turns : List Turn) → HasRoom start → NumbersFit start → WhatWasGrantedIsAcknowledged (world_run k turns (opened_world start))

left_past : {C : Type 0} (k : Codec C) → AllAcknowledges k → WhatIsLeftIsPastTheEdge k
left_past {C} k granted start plan begun order one size fit begins c there =
    let at = reached_at k start begun order begins in
    let steps : List Turn = map (λ actor. Turn.Step actor) order in
    let now : after_steps k order begun ≡ world_run k (at.0 ++ steps) (opened_world start) = ap (λ (w : WorldState C). world_run k steps w) at.1 ∙ sym (run_append k at.0 steps (opened_world start)) in
    path_sent k start begun order plan one begins (subst WhatWasGrantedIsAcknowledged (sym now) (granted start (at.0 ++ steps) size fit)) c c.member refl there

idle_acked : {C : Type 0} (k : Codec C) → AllAcknowledges k → WhoIsDoneMayAsk k → WhatIdleEndsWroteIsAcknowledged k
idle_acked {C} k granted windows start plan begun order one size fit begins c there =
    let at = reached_at k start begun order begins in
    let steps : List Turn = map (λ actor. Turn.Step actor) order in
    let now : after_steps k order begun ≡ world_run k (at.0 ++ steps) (opened_world start) = ap (λ (w : WorldState C). world_run k steps w) at.1 ∙ sym (run_append k at.0 steps (opened_world start)) in
    path_acked k start begun order plan one begins (subst WhatWasGrantedIsAcknowledged (sym now) (granted start (at.0 ++ steps) size fit)) c.member
    (windows start (at.0 ++ steps) size fit 2 c (subst (λ (w : WorldState C). slice_get w.crew 2 ≡ Some c) now there)) (left_past k granted start plan begun order one size fit begins c there)

all_acknowledges : AllAcknowledges values
all_acknowledges start turns size fit = what_was_granted_is_acknowledged start turns size

pub what_is_left_is_past_the_edge : WhatIsLeftIsPastTheEdge values
what_is_left_is_past_the_edge = left_past values all_acknowledges

pub what_is_left_is_past_the_edge_in_octets : WhatIsLeftIsPastTheEdge octets
what_is_left_is_past_the_edge_in_octets = left_past octets what_was_granted_is_acknowledged_in_octets

pub what_idle_ends_wrote_is_acknowledged : WhatIdleEndsWroteIsAcknowledged values
what_idle_ends_wrote_is_acknowledged = idle_acked values all_acknowledges who_is_done_may_ask

pub what_idle_ends_wrote_is_acknowledged_in_octets : WhatIdleEndsWroteIsAcknowledged octets
what_idle_ends_wrote_is_acknowledged_in_octets = idle_acked octets what_was_granted_is_acknowledged_in_octets who_is_done_may_ask_in_octets

-- ---- where nothing is outstanding

none_outstanding : (e : PathEnd) → (IsOutstanding e → ⊥) → IsIdle e
none_outstanding e none = record { records = by_records e.tcp.send.records refl; pieces = by_pieces e.sending.granted refl; open_window = by_window e.sending.shut refl }
  where
    by_records : (xs : List Record) → e.tcp.send.records ≡ xs → e.tcp.send.records ≡ []
    by_records [] is = is
    by_records (x ∷ xs) is = absurd (none (IsOutstanding.on_subflow x xs is))

    by_pieces : (xs : List GrantedPiece) → e.sending.granted ≡ xs → e.sending.granted ≡ []
    by_pieces [] is = is
    by_pieces (x ∷ xs) is = absurd (none (IsOutstanding.on_stream x xs is))

    by_window : (b : Bool) → e.sending.shut ≡ b → e.sending.shut ≡ false
    by_window false is = is
    by_window true is = absurd (none (IsOutstanding.shut is))

written_acked : {C : Type 0} (k : Codec C) → WhatIdleEndsWroteIsAcknowledged k → WhatWasWrittenIsAcknowledged k
written_acked {C} k idle start plan begun order one size fit begins c there = by c.member (idle start plan begun order one size fit begins c there)
  where
    by : (m : Actor C) → HoldsOfKind (λ app. Unit {0}) (IdleIsAcknowledged begun (after_steps k order begun)) m → HoldsOfKind (λ app. Unit {0}) (WrittenIsAcknowledged begun (after_steps k order begun)) m
    by (App a) h = tt
    by (Path p) h = λ over s may clear none. h over s may clear (none_outstanding (end_at s p) none)

pub what_was_written_is_acknowledged : WhatWasWrittenIsAcknowledged values
what_was_written_is_acknowledged = written_acked values what_idle_ends_wrote_is_acknowledged

pub what_was_written_is_acknowledged_in_octets : WhatWasWrittenIsAcknowledged octets
what_was_written_is_acknowledged_in_octets = written_acked octets what_idle_ends_wrote_is_acknowledged_in_octets

-- where the end may ask for bytes
pub what_was_written_is_spent : (start : Start) (plan : PathPlan) (begun : WorldState Carried) (order : List ℕ) → start.paths ≡ plan ∷ [] → HasRoom start → NumbersFit start → BeginsRound values start begun
    → let w = after_steps values order begun in (c : ActorCrew Carried) (p : PathState Carried) → c.member ≡ Path p → slice_get w.crew 2 ≡ Some c → p.agenda ≡ [] → (s : Side) → may_ask p.profile s (end_at s p) ≡ true
    → Spends s (written_by s begun) (steps_since 2 begun w) (end_at s p) (written_by s w)
what_was_written_is_spent start plan begun order one size fit begins c p kind there over s may =
    let at = reached_at values start begun order begins in
    let steps : List Turn = map (λ actor. Turn.Step actor) order in
    let now : after_steps values order begun ≡ world_run values (at.0 ++ steps) (opened_world start) = ap (λ (w : WorldState Carried). world_run values steps w) at.1 ∙ sym (run_append values at.0 steps (opened_world start)) in
    path_spends values start begun order plan one begins (subst WhatWasGrantedIsAcknowledged (sym now) (all_acknowledges start (at.0 ++ steps) size fit)) c p kind there over s may
