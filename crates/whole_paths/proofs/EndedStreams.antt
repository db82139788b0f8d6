-- What was refused last says of an end that knows where its side's stream ends whether all before that was asked for.
use Rattle.std.proofs.Common.{◌≡◌, refl, sym, subst, ap, ◌∙◌, ⊎_elim, ℕ, zero, suc, ◌+◌, arith, le_refl, Bool, true, false, true≢false, not, ◌&&◌, if◌then◌else◌, Option, Some, None, Result, Ok, Err, IfSome, List, [], ◌∷◌, ◌++◌, length, drop}
use Rattle.std.specs.List.{slice_get}
use Rattle.std.proofs.lemmas.Bool.{and_parts}
use Rattle.sides.specs.declared.side.Side.{Side}
use Rattle.sides.specs.declared.side.Side.TheVariants.{A, B}
use Rattle.send_book.specs.declared.call.SendCall.{SendCall}
use Rattle.send_book.specs.declared.call.SendCall.TheVariants as calls
use Rattle.send_book.specs.declared.call.SendReply.TheVariants as send_replies
use Rattle.send_book.specs.declared.call.Span.{Span}
use Rattle.send_book.specs.declared.call.Why.{Why}
use Rattle.send_book.specs.State.{Sending}
use Rattle.send_book.specs.Steps.{decision, end_of, given_by, part_of, reply_by}
use Rattle.stream_lanes.proofs.Lists.{in_map, in_set}
use Rattle.stamped_book.specs.declared.stamped.Pass.{Pass}
use Rattle.actor_desk.specs.Books.{after_entry, books_in}
use Rattle.actor_desk.specs.Desk.{SixBooks, after_ask, reply_of, send_of}
use Rattle.actor_desk.specs.declared.ask.Ask.{Ask}
use Rattle.actor_desk.specs.declared.ask.Ask.TheVariants as asks
use Rattle.actor_desk.specs.declared.ask.Note.{Note}
use Rattle.actor_desk.specs.declared.ask.Reply.{Reply}
use Rattle.actor_desk.specs.declared.ask.Reply.TheVariants as replies
use Rattle.path_agenda.specs.declared.duty.Duty.{Duty}
use Rattle.path_agenda.specs.declared.duty.Duty.TheVariants as duties
use Rattle.path_agenda.specs.declared.duty.AskDuty.TheVariants as ask_duties
use Rattle.path_agenda.specs.declared.duty.SendDuty.TheVariants as send_duties
use Rattle.path_agenda.specs.declared.duty.SilentDuty.TheVariants as silent_duties
use Rattle.path_agenda.specs.declared.duty.StepDuty.TheVariants as step_duties
use Rattle.stream_apps.specs.AppSteps.{app_ask}
use Rattle.subflow_send.specs.Records.{Record}
use Rattle.path_core.specs.Choices.{told_last}
use Rattle.path_core.specs.Codec.{Codec}
use Rattle.path_core.specs.DataFin.{is_shut}
use Rattle.path_core.specs.Duties.{answered, ask_for}
use Rattle.path_core.specs.Emission.{answered_data, first_unsent}
use Rattle.path_core.specs.End.{PathEnd}
use Rattle.path_core.specs.Octets.{octets}
use Rattle.path_core.specs.Start.{PathStart, waiting_path}
use Rattle.path_core.specs.State.{PathState, end_at, path_of}
use Rattle.path_core.specs.Steps.{begins_turn, takes}
use Rattle.path_core.specs.Values.{values}
use Rattle.world_laws.specs.declared.member.Member.TheVariants.{App, Path}
use Rattle.world_laws.specs.Actors.{Actor, ActorCrew}
use Rattle.world_laws.specs.Members.{HoldsOfKind, of_kind}
use Rattle.world_laws.specs.Openings.{PathPlan, Start, opened_world, path_begins}
use Rattle.world_laws.specs.Outcomes.{notes_at}
use Rattle.world_laws.specs.Promises.{HasRoom, NumbersFit, written_by}
use Rattle.world_laws.specs.RoundEnd.{asks_grant, is_no_grant, last_refused, refused_after}
use Rattle.world_laws.specs.RoundNumbers.{AreDoneAsking, BeginsRound, after_steps, is_standby, last_on_standby, steps_since}
use Rattle.world_laws.specs.StampedBooks.{answer_to}
use Rattle.world_laws.specs.Worlds.{WorldState, Turn, greatest, note_of, world_run}
use Rattle.world_laws.specs.Writes.{side_of, writes}
use Rattle.world_laws.proofs.Asks.SendBooks.{last_more}
use Rattle.world_laws.proofs.Rounds.AskingForNothing as asking
use Rattle.world_laws.proofs.Weaving.Journals.{books_after}
use Rattle.world_laws.proofs.Worlds.CastLifting.{Has, Stepwise, turns_have}
use Rattle.world_laws.proofs.Worlds.Casts.{Cast, Fare, Walker, first_cast, first_fare, next_cast, opened_is, walked, walking, walker_there, walks_on, world_of}
use Rattle.world_laws.proofs.Writes.Paths.{writes_no_more}
use Rattle.world_laws.proofs.Writes.Steps.{begins_lasts}
use Rattle.whole_paths.specs.Acknowledged.{AllIsAcknowledged, GrantedIsAcknowledged, IsAllAcknowledged, WhatWasGrantedIsAcknowledged}
use Rattle.whole_paths.specs.EndedStreams.{EndedIsAcknowledged, WhatEndedIsAcknowledged}
use Rattle.whole_paths.proofs.Acknowledged.{what_was_granted_is_acknowledged, what_was_granted_is_acknowledged_in_octets}
use Rattle.whole_paths.proofs.Books.{send_up}
use Rattle.whole_paths.proofs.InRounds.{InARound, in_a_round}
use Rattle.whole_paths.proofs.KnownEnds.{closed_written}
use Rattle.whole_paths.proofs.OnePath.{Alone, alone_kept, alone_next, choice, first_acked, first_alone, notes_there, nothing_written, own_grant, path_own, refused_more, send_after, send_replied, step_so}
use Rattle.whole_paths.proofs.OnlyBooks.{AreSpent, AskIsOf, BookStep, IsOf, Refusal, aborted_step, app_asks_own, book_step, refusal, spent_step}
use Rattle.whole_paths.proofs.OnlyBooks.BookStep.{unchanged, called}
use Rattle.whole_paths.proofs.OnlyBooks.Refusal.{by_window, by_standby, by_stop, by_spent}
use Rattle.whole_paths.proofs.Refusals.{AtGrant, NothingTold, TellsNothing, at_grant, takes_told, told_by, told_last_of_all}
use Rattle.whole_paths.proofs.Refusals.AtGrant.{asks_none_of_it, asks_bytes}

-- ---- a book

-- the stream is closed, and has so many bytes
abbrev KnowsIn : Sending → ℕ → Type 0
KnowsIn b m = (b.closed ≡ true) × (m ≡ length b.written)

mapped : (P Q : ℕ → Type 0) → ((m : ℕ) → P m → Q m) → (o : Option ℕ) → IfSome o P → IfSome o Q
mapped P Q f None h = tt
mapped P Q f (Some m) h = f m h

knows_step : (b c : Sending) → BookStep b c → (m : ℕ) → KnowsIn b m → KnowsIn c m
knows_step b c unchanged m h = h
knows_step b c (called x own) m h = ((send_up b x).closed h.0, h.1 ∙ ap (λ (xs : List ℕ). length xs) (sym (closed_written b x h.0)))

-- a refusal tells the end of a closed stream
told_knows : (b : Sending) (o : Option ℕ) → IfSome o (KnowsIn b) → IfSome (told_last (end_of b) o) (KnowsIn b)
told_knows b o h = (elim (b.closed && not b.aborted) as (λ c. (b.closed && not b.aborted) ≡ c → IfSome (told_last (if c then Some (length b.written) else None) o) (KnowsIn b))
    [ true ↦ λ is. ((and_parts b.closed (not b.aborted) is).0, refl) | false ↦ λ is. h ]) refl

-- as the book is now
now_of : (n b : Sending) → IsOf n b → IsOf b b
now_of n b h = record {
  tried = h.tried;
  held = h.held;
  ones = record { tried = h.ones.tried; whole = h.ones.whole; grown = le_refl (length b.written) };
  opened = le_refl b.edge;
  owner = h.owner;
  in_turn = h.in_turn;
}

-- ---- what became of the bytes before the end, by the steps of a path

data Fate (s : Side) (notes : List Note) (e : PathEnd) (b : Sending) : Type 0 where
  none_refused : last_refused s false notes ≡ false → Fate s notes e b
  spent_all : IfSome e.sending.known_end (λ m. AreSpent m b) → Fate s notes e b
  stood_by : last_on_standby s false notes ≡ true → Fate s notes e b
  halted : b.aborted ≡ true → Fate s notes e b
  window_shut : e.sending.shut ≡ true → Fate s notes e b

record EndSo (s : Side) (notes : List Note) (e : PathEnd) (b : Sending) : Type 0 where
  knows : IfSome e.sending.known_end (KnowsIn b)
  fate : Fate s notes e b

-- a step that asks for no bytes of the side
on_so : (s : Side) (notes : List Note) (e f : PathEnd) (b c : Sending) → BookStep b c → TellsNothing e f → EndSo s notes e b → EndSo s notes f c
on_so s notes e f b c step same h = record {
  knows = subst (λ o. IfSome o (KnowsIn c)) (sym same.known) (mapped (KnowsIn b) (KnowsIn c) (knows_step b c step) e.sending.known_end h.knows);
  fate = by h.fate;
}
  where
    by : Fate s notes e b → Fate s notes f c
    by (none_refused is) = none_refused is
    by (spent_all is) = spent_all (subst (λ o. IfSome o (λ m. AreSpent m c)) (sym same.known) (mapped (λ m. AreSpent m b) (λ m. AreSpent m c) (λ m all. spent_step m b c step all) e.sending.known_end is))
    by (stood_by is) = stood_by is
    by (halted is) = halted (aborted_step b c step is)
    by (window_shut is) = window_shut (same.shut ∙ is)

noted_so : (s : Side) (notes : List Note) (note : Note) (e : PathEnd) (b : Sending) → asks_grant s note.ask ≡ false → EndSo s notes e b → EndSo s (notes ++ note ∷ []) e b
noted_so s notes note e b quiet h = record { knows = h.knows; fate = by h.fate }
  where
    by : Fate s notes e b → Fate s (notes ++ note ∷ []) e b
    by (none_refused is) = none_refused (refused_more s false notes note ∙ choice _ false _ _ quiet ∙ is)
    by (spent_all is) = spent_all is
    by (stood_by is) = stood_by (last_more s false notes note ∙ choice _ false _ _ quiet ∙ is)
    by (halted is) = halted is
    by (window_shut is) = window_shut is

-- a step that asks for bytes of the side
asked_so : (s : Side) (notes : List Note) (note : Note) (max : ℕ) (stands : Bool) (e f : PathEnd) (b : Sending) → IsOf b b → note.ask ≡ asks.Send s (calls.Grant 0 max stands)
    → (r : Result Span Why) → decision 0 max stands b ≡ r → note.reply ≡ replies.Send (reply_by r b)
    → ((why : Why) → r ≡ Err why → (f.sending.shut ≡ is_shut why) × (f.sending.known_end ≡ told_last (end_of b) e.sending.known_end)) → ((span : Span) → r ≡ Ok span → f.sending.known_end ≡ e.sending.known_end)
    → IfSome e.sending.known_end (KnowsIn b) → EndSo s (notes ++ note ∷ []) f (given_by 0 r b)
asked_so s notes note max stands e f b own asked (Ok span) decided replied tells keeps knows = record {
  knows = subst (λ o. IfSome o (KnowsIn b)) (sym (keeps span refl)) knows;
  fate = none_refused (refused_more s false notes note ∙ choice _ true _ _ (ap (asks_grant s) asked ∙ own_grant s 0 max stands) ∙ ap is_no_grant replied);
}
asked_so s notes note max stands e f b own asked (Err why) decided replied tells keeps knows = record { knows = knows_now; fate = by (refusal b b own max stands why decided) }
  where
    told : (f.sending.shut ≡ is_shut why) × (f.sending.known_end ≡ told_last (end_of b) e.sending.known_end)
    told = tells why refl

    knows_now : IfSome f.sending.known_end (KnowsIn b)
    knows_now = subst (λ o. IfSome o (KnowsIn b)) (sym told.1) (told_knows b e.sending.known_end knows)

    by : Refusal b b stands why → Fate s (notes ++ note ∷ []) f b
    by (by_window same all more) = window_shut (told.0 ∙ ap is_shut same)
    by (by_standby stood) = stood_by (last_more s false notes note ∙ choice _ true _ _ (ap (asks_grant s) asked ∙ own_grant s 0 max stands) ∙ ap is_standby asked ∙ stood)
    by (by_stop is) = halted is
    by (by_spent is_open is) = spent_all (mapped (KnowsIn b) (λ m. AreSpent m b) (λ m known. subst (λ n. AreSpent n b) (sym known.1) is) f.sending.known_end knows_now)

-- ---- the last one of all was the last one of some

later_refused : (s : Side) (notes : List Note) (before : Bool) → last_refused s false notes ≡ true → last_refused s before notes ≡ true
later_refused s [] before is = absurd (true≢false (sym is))
later_refused s (note ∷ notes) before is =
    (elim (asks_grant s note.ask) as (λ c. last_refused s (if c then is_no_grant note.reply else false) notes ≡ true → last_refused s (if c then is_no_grant note.reply else before) notes ≡ true)
    [ true ↦ λ is. is | false ↦ λ is. later_refused s notes before is ]) is

all_refused : (s : Side) (n : ℕ) (notes : List Note) (before : Bool) → last_refused s false (drop n notes) ≡ true → last_refused s before notes ≡ true
all_refused s zero notes before is = later_refused s notes before is
all_refused s (suc n) [] before is = absurd (true≢false (sym is))
all_refused s (suc n) (note ∷ notes) before is = all_refused s n notes (refused_after s note before) is

-- ---- a path

module _ {C : Type 0} (k : Codec C) (p : PathState C) (span : Span) (piece : List ℕ) where
  abbrev grants : Reply
  grants = replies.Send (send_replies.Granted span piece)

  abbrev Keeps : Side → PathState C → Type 0
  Keeps s q = (end_at s q).sending.known_end ≡ (end_at s p).sending.known_end

  data_keeps : (t s : Side) (o : Option Record) → Keeps s (answered_data k t o grants p)
  data_keeps A A (Some unsent) = refl
  data_keeps A B (Some unsent) = refl
  data_keeps B A (Some unsent) = refl
  data_keeps B B (Some unsent) = refl
  data_keeps A A None = refl
  data_keeps A B None = refl
  data_keeps B A None = refl
  data_keeps B B None = refl

  -- a grant tells nothing of the end
  grant_keeps : (d : Duty) (s : Side) → Keeps s (answered k d grants p)
  grant_keeps (duties.Step (step_duties.Data t)) s = data_keeps t s (first_unsent (end_at t p))
  grant_keeps (duties.Ask ask_duties.JoinAgain) s =
      (told_by A (writes (duties.Ask ask_duties.JoinAgain)) p _ (refl, refl) (refl, refl) (writes_no_more k (duties.Ask ask_duties.JoinAgain) grants p) s).known
  grant_keeps (duties.Send (send_duties.Update t)) s =
      (told_by t (writes (duties.Send (send_duties.Update t))) p _ (refl, refl) (refl, refl) (writes_no_more k (duties.Send (send_duties.Update t)) grants p) s).known
  grant_keeps (duties.Silent (silent_duties.Timer t)) s =
      (told_by t (writes (duties.Silent (silent_duties.Timer t))) p _ (refl, refl) (refl, refl) (writes_no_more k (duties.Silent (silent_duties.Timer t)) grants p) s).known
  grant_keeps d s = (told_by (side_of d) (writes d) p _ (refl, refl) (refl, refl) (writes_no_more k d grants p) s).known

-- ---- the world

module _ {C : Type 0} (k : Codec C) (start : Start) where
  record AllSo (t : Cast C) : Type 0 where
    alone : Alone (nothing_written k start) t
    ends : (i : ℕ) (x : Walker C) → slice_get t.paths i ≡ Some x → (s : Side) → EndSo s x.at.list (end_at s x.path) (send_of s (books_in t.books))

  app_so : (t : Cast C) (x : Ask) (pass : Pass) → AskIsOf 0 x → AllSo t → (i : ℕ) (y : Walker C) → slice_get t.paths i ≡ Some y → (s : Side)
      → EndSo s y.at.list (end_at s y.path) (send_of s (books_in (after_entry x pass t.books)))
  app_so t x pass own h i y there s =
      on_so s y.at.list (end_at s y.path) (end_at s y.path) (send_of s (books_in t.books)) _ (step_so k start x pass t.books own s) (record { shut = refl; known = refl }) (h.ends i y there s)

  module _ (t : Cast C) (number : ℕ) (x : Walker C) (d : Duty) (there : slice_get t.paths number ≡ Some x) (ds : List Duty) (is : x.path.agenda ≡ d ∷ ds) (h : AllSo t) (s : Side) where
    abbrev ask : Ask
    ask = ask_for k d x.path

    abbrev reply : Reply
    reply = answer_to t.books ask

    abbrev note : Note
    note = note_of t.books x.at.pass ask

    abbrev six : SixBooks
    six = books_in t.books

    abbrev after_it : PathEnd
    after_it = end_at s (takes k reply x.path)

    -- where bytes of the side are asked for
    granted_so : (max : ℕ) (stands : Bool) → ask ≡ asks.Send s (calls.Grant 0 max stands)
        → ((why : Why) (known : Option ℕ) → reply ≡ replies.Send (send_replies.NoGrant why known) → (after_it.sending.shut ≡ is_shut why) × (after_it.sending.known_end ≡ told_last known (end_at s x.path).sending.known_end))
        → ((span : Span) (piece : List ℕ) → reply ≡ replies.Send (send_replies.Granted span piece) → after_it.sending.known_end ≡ (end_at s x.path).sending.known_end)
        → EndSo s (x.at.list ++ note ∷ []) after_it (send_of s (after_ask ask six))
    granted_so max stands asked tells keeps =
        let b : Sending = send_of s six in
        let call : SendCall = calls.Grant 0 max stands in
        let after : send_of s (after_ask ask six) ≡ given_by 0 (decision 0 max stands b) b = ap (λ y. send_of s (after_ask y six)) asked ∙ send_after s call six in
        let replied : reply ≡ replies.Send (reply_by (decision 0 max stands b) b) = ap (λ y. reply_of six y) asked ∙ send_replied s call six in
        subst (λ (c : Sending). EndSo s (x.at.list ++ note ∷ []) after_it c) (sym after)
        (asked_so s x.at.list note max stands (end_at s x.path) after_it b (now_of _ b (h.alone.books s)) asked (decision 0 max stands b) refl replied
        (λ why refused. tells why (end_of b) (replied ∙ ap (λ r. replies.Send (reply_by r b)) refused))
        (λ span taken. keeps span (part_of span b.written) (replied ∙ ap (λ r. replies.Send (reply_by r b)) taken))
        (h.ends number x there s).knows)

    path_so : EndSo s (x.at.list ++ note ∷ []) after_it (send_of s (after_ask ask six))
    path_so = by (at_grant k x.path d s)
      where
        taken : TellsNothing (end_at s (answered k d reply x.path)) after_it
        taken = takes_told k x.path reply d ds is s

        by : AtGrant s x.path ask (λ r. answered k d r x.path) → EndSo s (x.at.list ++ note ∷ []) after_it (send_of s (after_ask ask six))
        by (asks_none_of_it quiet same) =
            noted_so s x.at.list note after_it (send_of s (after_ask ask six)) quiet
            (on_so s x.at.list (end_at s x.path) after_it (send_of s six) (send_of s (after_ask ask six)) (book_step ask six (path_own k start x.path d (h.alone.paths number x there).1) s)
            (record { shut = taken.shut ∙ (same reply).shut; known = taken.known ∙ (same reply).known }) (h.ends number x there s))
        by (asks_bytes max stands asked tells size gives) = granted_so max stands (asked ∙ ap (λ n. asks.Send s (calls.Grant n max stands)) (h.alone.paths number x there).1)
            (λ why known refused. (
              taken.shut ∙ ap (λ r. (end_at s (answered k d r x.path)).sending.shut) refused ∙ (tells why known).shut,
              taken.known ∙ ap (λ r. (end_at s (answered k d r x.path)).sending.known_end) refused ∙ (tells why known).known,
            ))
            (λ span piece given. taken.known ∙ ap (λ r. (end_at s (answered k d r x.path)).sending.known_end) given ∙ grant_keeps k x.path span piece d s)

    walked_so : EndSo s (x.at.list ++ note ∷ []) after_it (send_of s (books_in (after_entry ask x.at.pass t.books)))
    walked_so = subst (λ (y : SixBooks). EndSo s (x.at.list ++ note ∷ []) after_it (send_of s y)) (sym (books_after ask x.at.pass t.books)) path_so

  kept : Stepwise k start AllSo
  kept = record {
    a = λ t f d ds is h. record { alone = (alone_kept k start (nothing_written k start)).a t f d ds is h.alone; ends = app_so t (app_ask d t.a) t.at_a.pass (app_asks_own d t.a) h };
    b = λ t f d ds is h. record { alone = (alone_kept k start (nothing_written k start)).b t f d ds is h.alone; ends = app_so t (app_ask d t.b) t.at_b.pass (app_asks_own d t.b) h };
    path = λ t f number x there d ds is h.
        (let ask : Ask = ask_for k d x.path in
        let y : Walker C = walked k ask t.books x in
        record {
          alone = (alone_kept k start (nothing_written k start)).path t f number x there d ds is h.alone;
          ends = λ i z at s. ⊎_elim
              (λ same. subst (λ (v : Walker C). EndSo s v.at.list (end_at s v.path) (send_of s (books_in (after_entry ask x.at.pass t.books)))) same.1 (walked_so t number x d there ds is h s))
              (λ other. app_so t ask x.at.pass (path_own k start x.path d (h.alone.paths number x there).1) h i z other.1 s)
              (in_set t.paths number y i z at);
        });
  }

  begun_tells : (s : Side) (p : PathState C) → TellsNothing (end_at s p) (end_at s (begins_turn (record p { clock = p.until; until = p.until + 100 })))
  begun_tells s p = by s (begins_lasts (λ p q. NothingTold p q) told_last_of_all (record p { clock = p.until; until = p.until + 100 }) s)
    where
      by : (s : Side) → TellsNothing (end_at s (record p { clock = p.until; until = p.until + 100 })) (end_at s (begins_turn (record p { clock = p.until; until = p.until + 100 })))
          → TellsNothing (end_at s p) (end_at s (begins_turn (record p { clock = p.until; until = p.until + 100 })))
      by = elim [ A ↦ λ h. h | B ↦ λ h. h ]

  next_so : (t : Cast C) → Fare start t → AllSo t → AllSo (next_cast t)
  next_so t f h = record {
    alone = alone_next k start (nothing_written k start) t f h.alone;
    ends = λ i x there s.
        (let found = in_map (walks_on (greatest 0 (world_of t).crew)) t.paths i x there in
        subst (λ (y : Walker C). EndSo s y.at.list (end_at s y.path) (send_of s (books_in t.books))) found.2
        (on_so s found.0.at.list (end_at s found.0.path) _ (send_of s (books_in t.books)) (send_of s (books_in t.books)) unchanged (begun_tells s found.0.path) (h.ends i found.0 found.1 s)));
  }

  first_tells : (s : Side) (x : PathStart) → TellsNothing (end_at s (waiting_path {C = C} x start.lines)) (end_at s (begins_turn (waiting_path {C = C} x start.lines)))
  first_tells s x = begins_lasts (λ p q. NothingTold p q) told_last_of_all (waiting_path x start.lines) s

  first_knows : (s : Side) (x : PathStart) → (end_at s (waiting_path {C = C} x start.lines)).sending.known_end ≡ None
  first_knows = elim [ A ↦ λ x. refl | B ↦ λ x. refl ]

  first_so : (plan : PathPlan) → start.paths ≡ plan ∷ [] → AllSo (first_cast start)
  first_so plan one = record {
    alone = first_alone k start plan one;
    ends = λ i x there s.
        (let found = walker_there {C = C} start 0 i i start.paths x (omega arith) there in
        subst (λ (y : Walker C). EndSo s y.at.list (end_at s y.path) (send_of s (books_in (first_cast {C = C} start).books))) (sym found.2)
        (record { knows = subst (λ o. IfSome o (KnowsIn (send_of s (books_in (first_cast {C = C} start).books)))) (sym ((first_tells s (path_begins start i found.0)).known ∙ first_knows s (path_begins start i found.0))) tt; fate = none_refused refl }));
  }

  always_so : (plan : PathPlan) → start.paths ≡ plan ∷ [] → (turns : List Turn) → Has start AllSo (world_run k turns (opened_world start))
  always_so plan one turns =
      turns_have k start AllSo kept next_so turns (opened_world start) (record { cast = first_cast start; is = opened_is start; fare = first_fare start; holds = first_so plan one })

  -- ---- as a turn is over

  acked_by : (s : Side) (notes : List Note) (e : PathEnd) (b : Sending) → Fate s notes e b → last_refused s false notes ≡ true → e.sending.shut ≡ false → (n : ℕ) → e.sending.known_end ≡ Some n → AllIsAcknowledged 0 b
      → IsAllAcknowledged s notes n b
  acked_by s notes e b (none_refused is) refused unshut n known all = absurd (true≢false (sym refused ∙ is))
  acked_by s notes e b (spent_all is) refused unshut n known all = IsAllAcknowledged.acknowledged (first_acked k start n b.marks (subst (λ o. IfSome o (λ m. AreSpent m b)) known is) all)
  acked_by s notes e b (stood_by is) refused unshut n known all = IsAllAcknowledged.standby is
  acked_by s notes e b (halted is) refused unshut n known all = IsAllAcknowledged.stopped is
  acked_by s notes e b (window_shut is) refused unshut n known all = absurd (true≢false (sym is ∙ unshut))

  module _ (begun : WorldState C) (order : List ℕ) (begins : BeginsRound k start begun) (all : WhatWasGrantedIsAcknowledged (after_steps k order begun)) (so : Has start AllSo (after_steps k order begun)) where
    abbrev w : WorldState C
    w = after_steps k order begun

    path_ended : (c : ActorCrew C) (m : Actor C) → c.member ≡ m → slice_get w.crew 2 ≡ Some c → HoldsOfKind (λ app. Unit {0}) (EndedIsAcknowledged w) m
    path_ended c (App a) kind there = tt
    path_ended c (Path p) kind there = λ over s may nothing_granted unshut n known.
        (let crew : slice_get (world_of so.cast).crew 2 ≡ Some c = ap (λ (v : WorldState C). slice_get v.crew 2) (sym so.is) ∙ there in
        let found = in_map walking so.cast.paths 0 c crew in
        let is_path : Path found.0.path ≡ Path p = ap (λ (y : ActorCrew C). y.member) found.2 ∙ kind in
        let same : found.0.path ≡ p = ap (of_kind (λ app. p) (λ (q : PathState C). q)) is_path in
        let zero_is : path_of p ≡ 0 = sym (ap (λ (q : PathState C). path_of q) same) ∙ (so.holds.alone.paths 0 found.0 found.1).1 in
        let listed : notes_at 2 w.crew ≡ found.0.at.list = ap (λ (v : WorldState C). notes_at 2 v.crew) so.is ∙ notes_there k start so.cast 0 found.0 found.1 refl in
        let granted : AllIsAcknowledged (path_of p) (written_by s w) = subst (HoldsOfKind (λ app. Unit {0}) (GrantedIsAcknowledged w)) kind (all.each 2 c there) s nothing_granted in
        let refused : last_refused s false (steps_since 2 begun w) ≡ true =
        subst (λ m. AreDoneAsking m (steps_since 2 begun w)) kind ((asking.grants_are_done k start begun order begins).each 2 c there) over s may in
        let fate : Fate s found.0.at.list (end_at s found.0.path) (send_of s (books_in so.cast.books)) = (so.holds.ends 0 found.0 found.1 s).fate in
        acked_by s (notes_at 2 w.crew) (end_at s p) (written_by s w)
        (subst (λ (v : WorldState C). Fate s (notes_at 2 w.crew) (end_at s p) (written_by s v)) (sym so.is)
        (subst (λ (q : PathState C). Fate s (notes_at 2 w.crew) (end_at s q) (send_of s (books_in so.cast.books))) same
        (subst (λ (ns : List Note). Fate s ns (end_at s found.0.path) (send_of s (books_in so.cast.books))) (sym listed) fate)))
        (all_refused s _ (notes_at 2 w.crew) false refused) unshut n known (subst (λ n. AllIsAcknowledged n (written_by s w)) zero_is granted))

-- where it is so at every moment
ended_acked : {C : Type 0} (k : Codec C) → ((start : Start) (turns : List Turn) → HasRoom start → NumbersFit start → WhatWasGrantedIsAcknowledged (world_run k turns (opened_world start))) → WhatEndedIsAcknowledged k
ended_acked {C} k granted start plan turns one size fit =
    let r : InARound k start (world_run k turns (opened_world start)) = in_a_round k start turns in
    subst (λ (w : WorldState C). (c : ActorCrew C) → slice_get w.crew 2 ≡ Some c → HoldsOfKind (λ app. Unit {0}) (EndedIsAcknowledged w) c.member) (sym r.is)
    (λ c there. path_ended k start r.begun r.order r.begins (subst WhatWasGrantedIsAcknowledged r.is (granted start turns size fit))
    (subst (λ (w : WorldState C). Has start (AllSo k start) w) r.is (always_so k start plan one turns)) c c.member refl there)

pub what_ended_is_acknowledged : WhatEndedIsAcknowledged values
what_ended_is_acknowledged = ended_acked values (λ start turns size fit. what_was_granted_is_acknowledged start turns size)

pub what_ended_is_acknowledged_in_octets : WhatEndedIsAcknowledged octets
what_ended_is_acknowledged_in_octets = ended_acked octets what_was_granted_is_acknowledged_in_octets
