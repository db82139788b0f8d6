-- An end that asks for bytes of a stream that was closed before, and gets none, is told where it ends; and so it sends its DATA_FIN.
use Rattle.std.proofs.Common.{◌≡◌, refl, sym, subst, ap, ◌∙◌, inl, inr, ⊎_elim, ℕ, zero, suc, ◌≤◌, arith, Bool, true, false, true≢false, if◌then◌else◌, Ok, Err, Result, Option, Some, List, [], ◌∷◌, ◌++◌, drop, length, length-append, map}
use Rattle.std.specs.List.{slice_get}
use Rattle.sides.specs.declared.side.Side.{Side}
use Rattle.send_book.specs.declared.call.SendCall.{SendCall}
use Rattle.send_book.specs.declared.call.SendCall.TheVariants as calls
use Rattle.send_book.specs.declared.call.Span.{Span}
use Rattle.send_book.specs.declared.call.Why.{Why}
use Rattle.send_book.specs.State.{Sending}
use Rattle.send_book.specs.Steps.{after_call, decision, end_of, given_by, is_future, is_gathered, reply_by}
use Rattle.stream_lanes.proofs.Lists.{in_set}
use Rattle.actor_desk.specs.declared.ask.Ask.{Ask}
use Rattle.actor_desk.specs.declared.ask.Ask.TheVariants as asks
use Rattle.actor_desk.specs.declared.ask.Note.{Note}
use Rattle.actor_desk.specs.declared.ask.Reply.{Reply}
use Rattle.actor_desk.specs.declared.ask.Reply.TheVariants as replies
use Rattle.actor_desk.specs.Books.{after_entry, books_in}
use Rattle.actor_desk.specs.Desk.{SixBooks, after_ask, reply_of, send_of}
use Rattle.stamped_book.specs.declared.stamped.Pass.{Pass}
use Rattle.stream_apps.specs.AppSteps.{app_ask}
use Rattle.path_agenda.specs.declared.duty.Duty.{Duty}
use Rattle.path_core.specs.Choices.{told_last}
use Rattle.path_core.specs.Codec.{Codec}
use Rattle.path_core.specs.DataFin.{is_data_fin_due}
use Rattle.path_core.specs.Duties.{answered, ask_for}
use Rattle.path_core.specs.End.{PathEnd}
use Rattle.path_core.specs.Modes.{sends_plainly}
use Rattle.path_core.specs.Octets.{octets}
use Rattle.path_core.specs.State.{end_at, path_of}
use Rattle.path_core.specs.Steps.{takes}
use Rattle.path_core.specs.Values.{values}
use Rattle.subflow_tcp.specs.States.{may_finish}
use Rattle.world_laws.specs.declared.member.Member.TheVariants.{App, Path}
use Rattle.world_laws.specs.Actors.{Actor, ActorCrew}
use Rattle.world_laws.specs.Members.{HoldsOfKind}
use Rattle.world_laws.specs.Openings.{Start, opened_world}
use Rattle.world_laws.specs.Outcomes.{notes_at, notes_or}
use Rattle.world_laws.specs.Promises.{written_by}
use Rattle.world_laws.specs.RoundEnd.{asks_grant, is_no_grant, last_refused, refused_after}
use Rattle.world_laws.specs.RoundNumbers.{AreDoneAsking, BeginsRound, after_steps, steps_since}
use Rattle.world_laws.specs.StampedBooks.{answer_to}
use Rattle.world_laws.specs.Worlds.{WorldState, Turn, note_of, world_run}
use Rattle.world_laws.proofs.Rounds.AskingForNothing as asking
use Rattle.world_laws.proofs.Weaving.Journals.{books_after}
use Rattle.world_laws.proofs.Weaving.WholeRounds.{run_append}
use Rattle.world_laws.proofs.Worlds.CastLifting.{Has, Stepwise, always_cast, each_actor, path_actor, steps_have}
use Rattle.world_laws.proofs.Worlds.Casts.{Cast, Walker, walked, world_of}
use Rattle.whole_paths.specs.Ends.{EndsAreSentAt, OwesNoEnd}
use Rattle.whole_paths.specs.KnownEnds.{ClosedIsAcknowledged, EndIsKnown, EndsAreKnown, KnowsTheEnd, WaitsForNoEnd, WhatIsClosedIsAcknowledged}
use Rattle.whole_paths.specs.Room.{HasWindows, WhoIsDoneMayAsk}
use Rattle.whole_paths.proofs.Books.{send_up}
use Rattle.whole_paths.proofs.Ends.{ends_are_sent}
use Rattle.whole_paths.proofs.Refusals.{AtGrant, at_grant, takes_told}
use Rattle.whole_paths.proofs.Refusals.AtGrant.{asks_none_of_it, asks_bytes}
use Rattle.whole_paths.proofs.Room.{who_is_done_may_ask, who_is_done_may_ask_in_octets}
use Rattle.whole_paths.proofs.Writers.{Changes, changed_by, stopped_after}
use Rattle.whole_paths.proofs.Writers.Changes.{stays_so, by_call}

-- ---- a closed book

same_written : (c : Bool) (x y : Sending) (n : List ℕ) → x.written ≡ n → y.written ≡ n → (if c then x else y).written ≡ n
same_written true x y n first second = first
same_written false x y n first second = second

-- nothing more is written
pub closed_written : (b : Sending) (call : SendCall) → b.closed ≡ true → (after_call b call).written ≡ b.written
closed_written b (calls.Write bytes) is = rw is refl
closed_written b calls.Close is = same_written b.aborted b _ b.written refl refl
closed_written b (calls.Grant asker max stands) is = elim (decision asker max stands b) as (λ r. (given_by asker r b).written ≡ b.written) [ Err why ↦ refl | Ok span ↦ refl ]
closed_written b (calls.AckIn next window) is = same_written (is_future next b) b _ b.written refl refl
closed_written b (calls.Return asker) is = refl
closed_written b calls.GoIdentity is = refl
closed_written b (calls.GoInfinite asker) is = same_written (is_gathered asker b) _ b b.written refl refl
closed_written b calls.Abort is = refl

changed_written : (b c : Sending) → Changes b c → b.closed ≡ true → c.written ≡ b.written
changed_written b _ stays_so is = refl
changed_written b _ (by_call x) is = closed_written b x is

changed_closed : (b c : Sending) → Changes b c → b.closed ≡ true → c.closed ≡ true
changed_closed b _ stays_so is = is
changed_closed b _ (by_call x) is = (send_up b x).closed is

changed_stopped : (b c : Sending) → Changes b c → b.aborted ≡ true → c.aborted ≡ true
changed_stopped b _ stays_so is = is
changed_stopped b _ (by_call x) is = stopped_after b x is

-- ---- what an end knows, by the steps of a round

data KnowsSo (s : Side) (steps : List Note) (e : PathEnd) (b : Sending) : Type 0 where
  unasked : last_refused s false steps ≡ false → KnowsSo s steps e b
  knows : e.sending.known_end ≡ Some (length b.written) → KnowsSo s steps e b
  is_stopped : b.aborted ≡ true → KnowsSo s steps e b

refused_more : (s : Side) (before : Bool) (steps : List Note) (n : Note) → last_refused s before (steps ++ n ∷ []) ≡ refused_after s n (last_refused s before steps)
refused_more s before [] n = refl
refused_more s before (m ∷ steps) n = refused_more s (refused_after s m before) steps n

choice : (c d : Bool) (x y : Bool) → c ≡ d → (if c then x else y) ≡ (if d then x else y)
choice c d x y same = ap (λ b. if b then x else y) same

knows_on : (s : Side) (steps : List Note) (e f : PathEnd) (b c : Sending) → Changes b c → b.closed ≡ true → f.sending.known_end ≡ e.sending.known_end → KnowsSo s steps e b → KnowsSo s steps f c
knows_on s steps e f b c step closed same (unasked is) = unasked is
knows_on s steps e f b c step closed same (knows is) = knows (same ∙ is ∙ ap (λ (xs : List ℕ). Some (length xs)) (sym (changed_written b c step closed)))
knows_on s steps e f b c step closed same (is_stopped is) = is_stopped (changed_stopped b c step is)

-- a step that asks for no bytes of the side
knows_noted : (s : Side) (steps : List Note) (note : Note) (e : PathEnd) (b : Sending) → asks_grant s note.ask ≡ false → KnowsSo s steps e b → KnowsSo s (steps ++ note ∷ []) e b
knows_noted s steps note e b quiet (unasked is) = unasked (refused_more s false steps note ∙ choice _ false _ _ quiet ∙ is)
knows_noted s steps note e b quiet (knows is) = knows is
knows_noted s steps note e b quiet (is_stopped is) = is_stopped is

own_grant : (s : Side) (asker max : ℕ) (stands : Bool) → asks_grant s (asks.Send s (calls.Grant asker max stands)) ≡ true
own_grant = elim [ Side.A ↦ λ asker max stands. refl | Side.B ↦ λ asker max stands. refl ]

-- one that does
knows_asked : (s : Side) (steps : List Note) (note : Note) (asker max : ℕ) (stands : Bool) (before : Option ℕ) (f : PathEnd) (b : Sending) → b.closed ≡ true → note.ask ≡ asks.Send s (calls.Grant asker max stands)
    → (r : Result Span Why) → note.reply ≡ replies.Send (reply_by r b) → ((why : Why) → r ≡ Err why → f.sending.known_end ≡ told_last (end_of b) before) → KnowsSo s (steps ++ note ∷ []) f (given_by asker r b)
knows_asked s steps note asker max stands before f b closed asked (Ok span) replied tells =
    unasked (refused_more s false steps note ∙ choice _ true _ _ (ap (asks_grant s) asked ∙ own_grant s asker max stands) ∙ ap is_no_grant replied)
knows_asked s steps note asker max stands before f b closed asked (Err why) replied tells = by b.aborted refl (tells why refl)
  where
    by : (c : Bool) → b.aborted ≡ c → f.sending.known_end ≡ told_last (end_of b) before → KnowsSo s (steps ++ note ∷ []) f b
    by true is told = is_stopped is
    by false is told = knows (told ∙ ap (λ o. told_last o before) (ends is))
      where
        ends : b.aborted ≡ false → end_of b ≡ Some (length b.written)
        ends is = rw (closed, is) refl

-- ---- the world

send_after : (s : Side) (x : SendCall) (six : SixBooks) → send_of s (after_ask (asks.Send s x) six) ≡ after_call (send_of s six) x
send_after = elim [ Side.A ↦ λ x six. refl | Side.B ↦ λ x six. refl ]

granted_reply : (s : Side) (asker max : ℕ) (stands : Bool) (six : SixBooks) → reply_of six (asks.Send s (calls.Grant asker max stands)) ≡ replies.Send (reply_by (decision asker max stands (send_of s six)) (send_of s six))
granted_reply = elim [ Side.A ↦ λ asker max stands six. refl | Side.B ↦ λ asker max stands six. refl ]

drop_more : (n : ℕ) (xs ys : List Note) → n ≤ length xs → drop n (xs ++ ys) ≡ drop n xs ++ ys
drop_more zero xs ys low = refl
drop_more (suc n) [] ys low = absurd (omega (arith, low))
drop_more (suc n) (x ∷ xs) ys low = drop_more n xs ys (omega (arith, low))

drop_all : (xs : List Note) → drop (length xs) xs ≡ []
drop_all [] = refl
drop_all (x ∷ xs) = drop_all xs

module _ {C : Type 0} (k : Codec C) (start : Start) where
  module _ (shut : Side → Bool) (counts : ℕ → ℕ) where
    -- in a round that began with these streams closed, as each path had made so many steps
    record InRound (t : Cast C) : Type 0 where
      closed : (s : Side) → shut s ≡ true → (send_of s (books_in t.books)).closed ≡ true
      noted : (i : ℕ) (x : Walker C) → slice_get t.paths i ≡ Some x → counts i ≤ length x.at.list
      known : (i : ℕ) (x : Walker C) → slice_get t.paths i ≡ Some x → (s : Side) → shut s ≡ true → KnowsSo s (drop (counts i) x.at.list) (end_at s x.path) (send_of s (books_in t.books))

    -- an ask of another actor
    module _ (t : Cast C) (x : Ask) (pass : Pass) (h : InRound t) where
      changes : (s : Side) → Changes (send_of s (books_in t.books)) (send_of s (books_in (after_entry x pass t.books)))
      changes s = subst (λ (six : SixBooks). Changes (send_of s (books_in t.books)) (send_of s six)) (sym (books_after x pass t.books)) (changed_by x (books_in t.books) s)

      still_closed : (s : Side) → shut s ≡ true → (send_of s (books_in (after_entry x pass t.books))).closed ≡ true
      still_closed s is = changed_closed _ _ (changes s) (h.closed s is)

      still_known : (i : ℕ) (y : Walker C) → slice_get t.paths i ≡ Some y → (s : Side) → shut s ≡ true
          → KnowsSo s (drop (counts i) y.at.list) (end_at s y.path) (send_of s (books_in (after_entry x pass t.books)))
      still_known i y there s is = knows_on s _ (end_at s y.path) (end_at s y.path) _ _ (changes s) (h.closed s is) refl (h.known i y there s is)

    module _ (t : Cast C) (number : ℕ) (x : Walker C) (d : Duty) (h : InRound t) (there : slice_get t.paths number ≡ Some x) (ds : List Duty) (is : x.path.agenda ≡ d ∷ ds) where
      abbrev ask : Ask
      ask = ask_for k d x.path

      abbrev reply : Reply
      reply = answer_to t.books ask

      abbrev note : Note
      note = note_of t.books x.at.pass ask

      abbrev six : SixBooks
      six = books_in t.books

      -- its own ask
      own_known : (s : Side) → shut s ≡ true → KnowsSo s (drop (counts number) x.at.list ++ note ∷ []) (end_at s (takes k reply x.path)) (send_of s (after_ask ask six))
      own_known s closes = by (at_grant k x.path d s)
        where
          by : AtGrant s x.path ask (λ r. answered k d r x.path) → KnowsSo s (drop (counts number) x.at.list ++ note ∷ []) (end_at s (takes k reply x.path)) (send_of s (after_ask ask six))
          by (asks_none_of_it quiet same) =
              knows_noted s (drop (counts number) x.at.list) note (end_at s (takes k reply x.path)) (send_of s (after_ask ask six)) quiet
              (knows_on s (drop (counts number) x.at.list) (end_at s x.path) (end_at s (takes k reply x.path)) (send_of s six) (send_of s (after_ask ask six)) (changed_by ask six s) (h.closed s closes) ((takes_told k x.path reply d ds is s).known ∙ (same reply).known) (h.known number x there s closes))
          by (asks_bytes max stands asked tells size gives) =
              let b : Sending = send_of s six in
              let after : send_of s (after_ask ask six) ≡ given_by (path_of x.path) (decision (path_of x.path) max stands b) b = ap (λ y. send_of s (after_ask y six)) asked ∙ send_after s (calls.Grant (path_of x.path) max stands) six in
              let replied : reply ≡ replies.Send (reply_by (decision (path_of x.path) max stands b) b) = ap (λ y. reply_of six y) asked ∙ granted_reply s (path_of x.path) max stands six in
              subst (λ (c : Sending). KnowsSo s (drop (counts number) x.at.list ++ note ∷ []) (end_at s (takes k reply x.path)) c) (sym after)
              (knows_asked s (drop (counts number) x.at.list) note (path_of x.path) max stands (end_at s x.path).sending.known_end (end_at s (takes k reply x.path)) b (h.closed s closes) asked (decision (path_of x.path) max stands b) replied
              (λ why refused. (takes_told k x.path reply d ds is s).known
              ∙ ap (λ r. (end_at s (answered k d r x.path)).sending.known_end) (replied ∙ ap (λ r. replies.Send (reply_by r b)) refused)
              ∙ (tells why (end_of b)).known))

      walked_known : (s : Side) → shut s ≡ true
          → KnowsSo s (drop (counts number) (x.at.list ++ note ∷ [])) (end_at s (takes k reply x.path)) (send_of s (books_in (after_entry ask x.at.pass t.books)))
      walked_known s closes =
          subst (λ (steps : List Note). KnowsSo s steps (end_at s (takes k reply x.path)) (send_of s (books_in (after_entry ask x.at.pass t.books))))
          (sym (drop_more (counts number) x.at.list (note ∷ []) (h.noted number x there)))
          (subst (λ (y : SixBooks). KnowsSo s (drop (counts number) x.at.list ++ note ∷ []) (end_at s (takes k reply x.path)) (send_of s y)) (sym (books_after ask x.at.pass t.books)) (own_known s closes))

    round_kept : Stepwise k start InRound
    round_kept = record {
      a = λ t f d ds is h. record { closed = still_closed t (app_ask d t.a) t.at_a.pass h; noted = h.noted; known = still_known t (app_ask d t.a) t.at_a.pass h };
      b = λ t f d ds is h. record { closed = still_closed t (app_ask d t.b) t.at_b.pass h; noted = h.noted; known = still_known t (app_ask d t.b) t.at_b.pass h };
      path = λ t f number x there d ds is h.
          (let ask : Ask = ask_for k d x.path in
          let y : Walker C = walked k ask t.books x in
          let low = h.noted number x there in
          record {
            closed = still_closed t ask x.at.pass h;
            noted = λ i z at. ⊎_elim
                (λ same. subst (λ n. counts n ≤ length z.at.list) (sym same.0) (subst (λ (v : Walker C). counts number ≤ length v.at.list) same.1 (omega (arith, low, length-append x.at.list (note_of t.books x.at.pass ask ∷ [])))))
                (λ other. h.noted i z other.1)
                (in_set t.paths number y i z at);
            known = λ i z at s closes. ⊎_elim
                (λ same. subst (λ n. KnowsSo s (drop (counts n) z.at.list) (end_at s z.path) (send_of s (books_in (after_entry ask x.at.pass t.books)))) (sym same.0)
                (subst (λ (v : Walker C). KnowsSo s (drop (counts number) v.at.list) (end_at s v.path) (send_of s (books_in (after_entry ask x.at.pass t.books)))) same.1 (walked_known t number x d h there ds is s closes)))
                (λ other. still_known t ask x.at.pass h i z other.1 s closes)
                (in_set t.paths number y i z at);
          });
    }

  module _ (begun : WorldState C) (order : List ℕ) (begins : BeginsRound k start begun) where
    abbrev w : WorldState C
    w = after_steps k order begun

    abbrev shut_then : Side → Bool
    shut_then s = (written_by s begun).closed

    abbrev counts_then : ℕ → ℕ
    counts_then i = length (notes_at (suc (suc i)) begun.crew)

    reached_at : BeginsRound k start begun → (turns : List Turn) × (begun ≡ world_run k turns (opened_world start))
    reached_at (BeginsRound.First is) = ([], is)
    reached_at (BeginsRound.Next turns over is) = (turns ++ Turn.Round ∷ [], is ∙ sym (run_append k turns (Turn.Round ∷ []) (opened_world start)))

    notes_there : (t : Cast C) (i : ℕ) (x : Walker C) → slice_get t.paths i ≡ Some x → notes_at (suc (suc i)) (world_of t).crew ≡ x.at.list
    notes_there t i x there = ap (λ o. notes_or o) (path_actor t i x there)

    begun_round : Has start (InRound shut_then counts_then) begun
    begun_round =
        let at = reached_at begins in
        let h = always_cast k start at.0 in
        let is : begun ≡ world_of h.cast = at.1 ∙ h.is in
        record {
          cast = h.cast;
          is = is;
          fare = h.fare;
          holds = record {
            closed = λ s closes. subst (λ (v : WorldState C). (written_by s v).closed ≡ true) is closes;
            noted = λ i x there. (let same : counts_then i ≡ length x.at.list = ap (λ (v : WorldState C). length (notes_at (suc (suc i)) v.crew)) is ∙ ap (λ (ns : List Note). length ns) (notes_there h.cast i x there) in
                omega (arith, same));
            known = λ i x there s closes. unasked (
                ap (λ n. last_refused s false (drop n x.at.list)) (ap (λ (v : WorldState C). length (notes_at (suc (suc i)) v.crew)) is ∙ ap (λ (ns : List Note). length ns) (notes_there h.cast i x there))
                ∙ ap (λ ns. last_refused s false ns) (drop_all x.at.list));
          };
        }

    round : Has start (InRound shut_then counts_then) w
    round = steps_have k start (InRound shut_then counts_then) (round_kept shut_then counts_then) order begun begun_round

    knows_by : (s : Side) (steps : List Note) (e : PathEnd) (b : Sending) → last_refused s false steps ≡ true → KnowsSo s steps e b → KnowsTheEnd b e
    knows_by s steps e b refused (unasked is) = absurd (true≢false (sym refused ∙ is))
    knows_by s steps e b refused (knows is) = inl is
    knows_by s steps e b refused (is_stopped is) = inr is

    abbrev Ends : WorldState C → ℕ → ActorCrew C → Type 0
    Ends v actor c = AreDoneAsking c.member (steps_since actor begun v) → HoldsOfKind (λ app. Unit {0}) (EndIsKnown begun v) c.member

    pub each_end : (actor : ℕ) (c : ActorCrew C) → slice_get w.crew actor ≡ Some c → HoldsOfKind (λ app. Unit {0}) (EndIsKnown begun w) c.member
    each_end actor c there =
        subst (λ (v : WorldState C). (actor : ℕ) (c : ActorCrew C) → slice_get v.crew actor ≡ Some c → Ends v actor c) (sym round.is)
        (each_actor (Ends (world_of round.cast)) round.cast (λ done. tt) (λ done. tt)
        (λ number x at done over s closed may.
        knows_by s (drop (counts_then number) x.at.list) (end_at s x.path) (send_of s (books_in round.cast.books))
        (subst (λ (ns : List Note). last_refused s false (drop (counts_then number) ns) ≡ true) (notes_there round.cast number x at) (done over s may))
        (round.holds.known number x at s closed)))
        actor c there ((asking.grants_are_done k start begun order begins).each actor c there)

pub ends_are_known : {C : Type 0} (k : Codec C) → EndsAreKnown k
ends_are_known k start begun order begins = each_end k start begun order begins

-- ---- without a record

-- an end that knows where its stream ends, and owes no DATA_FIN, has it acknowledged, or waits for that
known_acked : (n : ℕ) (e : PathEnd) → e.sending.known_end ≡ Some n → may_finish e.tcp.state ≡ true → e.modes.clear ≡ true → sends_plainly e.modes ≡ false → OwesNoEnd e → WaitsForNoEnd e → e.sending.close.own_acked ≡ true
known_acked n e known may clear maps owes none = by e.sending.close.own_acked e.sending.fin_sent refl refl
  where
    by : (acked sent : Bool) → e.sending.close.own_acked ≡ acked → e.sending.fin_sent ≡ sent → e.sending.close.own_acked ≡ true
    by true sent is was = is
    by false true is was = absurd (none was is)
    by false false is was = absurd (true≢false (sym due ∙ owes.data_fin))
      where
        due : is_data_fin_due e ≡ true
        due = rw (known, may, clear, maps, was, is) refl

module _ {C : Type 0} (k : Codec C) (windows : WhoIsDoneMayAsk k) where
  closed_acked : WhatIsClosedIsAcknowledged k
  closed_acked start begun order size fit begins actor c there =
      by c.member (each_end k start begun order begins actor c there) (windows_at actor c there) (ends_at actor c there)
    where
      at : (turns : List Turn) × (begun ≡ world_run k turns (opened_world start))
      at = reached_at k start begun order begins begins

      steps : List Turn
      steps = map (λ actor. Turn.Step actor) order

      now : after_steps k order begun ≡ world_run k (at.0 ++ steps) (opened_world start)
      now = ap (λ (w : WorldState C). world_run k steps w) at.1 ∙ sym (run_append k at.0 steps (opened_world start))

      windows_at : (actor : ℕ) (c : ActorCrew C) → slice_get (after_steps k order begun).crew actor ≡ Some c → HoldsOfKind (λ app. Unit {0}) HasWindows c.member
      windows_at actor c there = windows start (at.0 ++ steps) size fit actor c (subst (λ (w : WorldState C). slice_get w.crew actor ≡ Some c) now there)

      ends_at : (actor : ℕ) (c : ActorCrew C) → slice_get (after_steps k order begun).crew actor ≡ Some c → HoldsOfKind (λ app. Unit {0}) EndsAreSentAt c.member
      ends_at actor c there = (ends_are_sent k start (at.0 ++ steps)).each actor c (subst (λ (w : WorldState C). slice_get w.crew actor ≡ Some c) now there)

      by : (m : Actor C) → HoldsOfKind (λ app. Unit {0}) (EndIsKnown begun (after_steps k order begun)) m → HoldsOfKind (λ app. Unit {0}) HasWindows m → HoldsOfKind (λ app. Unit {0}) EndsAreSentAt m
          → HoldsOfKind (λ app. Unit {0}) (ClosedIsAcknowledged begun (after_steps k order begun)) m
      by (App a) known room sent = tt
      by (Path p) known room sent = λ over s closed may clear maps empty none. ⊎_elim
          (λ is. inl (known_acked _ (end_at s p) is may clear maps (sent over s) none))
          (λ is. inr is)
          (known over s closed (room.unsent s may clear empty))

pub what_is_closed_is_acknowledged : WhatIsClosedIsAcknowledged values
what_is_closed_is_acknowledged = closed_acked values who_is_done_may_ask

pub what_is_closed_is_acknowledged_in_octets : WhatIsClosedIsAcknowledged octets
what_is_closed_is_acknowledged_in_octets = closed_acked octets who_is_done_may_ask_in_octets
