-- In each turn an application writes what there is room for, and closes its stream behind the last byte.
use Rattle.std.proofs.Common.{◌≡◌, refl, sym, subst, ap, ◌∙◌, inl, inr, ◌⊎◌, ⊎_elim, ℕ, zero, suc, ◌+◌, ◌-◌, ◌^◌, ◌<◌, ◌≤◌, ◌&&◌, ◌||◌, min, arith, Bool, true, false, true≢false, not, cond, if◌then◌else◌, Ok, Err, Option, Some, None, List, [], ◌∷◌, ◌++◌, drop, length, length-append, length-take, map, take, replicate, le_refl}
use Rattle.std.specs.List.{slice_get}
use Rattle.std.proofs.lemmas.Bool.{and_parts, cases_lt, or_cases}
use Rattle.std.proofs.lemmas.List.{append-nil}
use Rattle.std.proofs.lemmas.List.Sums.{count_by-le-length, sum_by-cons}
use Rattle.std.proofs.lemmas.Option.{same_Some}
use Rattle.sides.specs.declared.side.Side.{Side}
use Rattle.sides.specs.declared.side.Side.TheVariants.{A, B}
use Rattle.send_book.specs.declared.call.SendCall.{SendCall}
use Rattle.send_book.specs.declared.call.SendCall.TheVariants as calls
use Rattle.send_book.specs.declared.call.SendReply.TheVariants as send_replies
use Rattle.send_book.specs.declared.mark.ByteMark.{ByteMark}
use Rattle.send_book.specs.declared.mark.ByteMark.TheVariants.{Acked, Free, Held}
use Rattle.send_book.specs.Marks.{is_acked}
use Rattle.send_book.specs.State.{Sending, acked_len, new_sending}
use Rattle.send_book.specs.Steps.{after_call, bytes_taken, decision, given_by, is_future, is_gathered, write_reply}
use Rattle.send_book.specs.Tried.{contains, no_paths}
use Rattle.stream_lanes.specs.Marks.{IsHeldRightly}
use Rattle.stream_lanes.specs.Words.{Every}
use Rattle.stream_lanes.proofs.Lists.{Every-nil}
use Rattle.stream_lanes.proofs.MarkLists.{held-acked, held-given, held-returned, held-written}
use Rattle.actor_desk.specs.declared.ask.Ask.{Ask}
use Rattle.actor_desk.specs.declared.ask.Ask.TheVariants as asks
use Rattle.actor_desk.specs.declared.ask.Reply.{Reply}
use Rattle.actor_desk.specs.declared.ask.Reply.TheVariants as replies
use Rattle.actor_desk.specs.Books.{books_in}
use Rattle.actor_desk.specs.Desk.{SixBooks, after_ask, after_send_call, reply_of, send_of}
use Rattle.actor_desk.specs.Words.{is_nil, pick, tail_of}
use Rattle.stream_apps.specs.declared.duty.AppDuty.{AppDuty}
use Rattle.stream_apps.specs.declared.duty.AppDuty.TheVariants as app_duties
use Rattle.stream_apps.specs.Apps.{AppState}
use Rattle.stream_apps.specs.AppSteps.{app_answered, app_answers, app_ask, app_left, app_next_round, app_reads_on, app_settled, app_settles_down, app_stands, app_takes, bytes_in, fresh_turn, is_due, offered, start_of_app, taken_in}
use Rattle.stream_apps.specs.Starts.{fast_close_of, untouched}
use Rattle.stream_apps.specs.Turns.{FirstAppStands, IsAppSettled}
use Rattle.path_core.specs.Codec.{Codec}
use Rattle.path_core.specs.Duties.{ask_for}
use Rattle.path_core.specs.Octets.{octets}
use Rattle.path_core.specs.Values.{values}
use Rattle.world_laws.specs.Openings.{Start, opened_world}
use Rattle.world_laws.specs.Promises.{NumbersFit}
use Rattle.world_laws.specs.RoundNumbers.{BeginsRound, after_steps}
use Rattle.world_laws.specs.Worlds.{Turn, WorldState, all_over, begins, end_round, greatest, is_going, world_run}
use Rattle.world_laws.proofs.Asks.SendBooks as send_books
use Rattle.world_laws.proofs.Asks.SendBooks.{IsOnes, IsTried}
use Rattle.world_laws.proofs.Lanes.Applying.{Writes, settled_app}
use Rattle.world_laws.proofs.Weaving.Journals.{books_after}
use Rattle.world_laws.proofs.Worlds.CastLifting.{Has, Stepwise, ended_has, steps_have, turns_have}
use Rattle.world_laws.proofs.Worlds.Casts.{Cast, Fare, Fares, first_cast, first_fare, next_cast, opened_is, world_of}
use Rattle.whole_paths.specs.Writers.{GoesOnWriting, WritersGoOn}
use Rattle.whole_paths.proofs.Books.{send_up}

-- ---- a book

abbrev Rightly : Sending → Type 0
Rightly b = Every IsHeldRightly b.marks

either_rightly : (c : Bool) (b d : Sending) → Rightly b → Rightly d → Rightly (if c then b else d)
either_rightly true b d x y = x
either_rightly false b d x y = y

rightly_after : (b : Sending) (call : SendCall) → Rightly b → Rightly (after_call b call)
rightly_after b (calls.Write bytes) h = either_rightly (b.closed || b.aborted) b _ h (held-written (bytes_taken bytes b) b.marks h)
rightly_after b calls.Close h = either_rightly b.aborted b _ h h
rightly_after b (calls.Grant asker max stands) h = elim (decision asker max stands b) as (λ r. Rightly (given_by asker r b)) [ Err why ↦ h | Ok span ↦ held-given asker span b.marks h ]
rightly_after b (calls.AckIn next window) h = either_rightly (is_future next b) b _ h (held-acked next (min next (length b.marks)) b.marks h)
rightly_after b (calls.Return asker) h = held-returned asker b.marks h
rightly_after b calls.GoIdentity h = h
rightly_after b (calls.GoInfinite asker) h = either_rightly (is_gathered asker b) _ b h h
rightly_after b calls.Abort h = h

-- a mark for each byte
ones_of : (asker : ℕ) (b : Sending) → Rightly b → length b.marks ≡ length b.written → IsOnes asker 0 b
ones_of asker b h whole = record { tried = record { each = λ i m there. by m (h.each i m there) }; whole = whole; grown = omega arith }
  where
    by : (m : ByteMark) → IsHeldRightly m → IsTried asker m
    by Acked held = tt
    by (Held holder among) held = λ own. subst (λ n. contains n among ≡ true) own held
    by (Free among) held = tt

abbrev asker_of : SendCall → ℕ
asker_of (calls.Grant asker max stands) = asker
asker_of _ = 0

ordinary : (call : SendCall) → send_books.IsOrdinary (asker_of call) call
ordinary (calls.Grant asker max stands) = refl
ordinary _ = tt

whole_after : (b : Sending) (call : SendCall) → Rightly b → length b.marks ≡ length b.written → length (after_call b call).marks ≡ length (after_call b call).written
whole_after b call h whole = (send_books.ones_after (asker_of call) 0 b (ones_of (asker_of call) b h whole) call (ordinary call)).whole

-- no fewer are acknowledged
acked_more : (ms ns : List ByteMark) → ((place : ℕ) → slice_get ms place ≡ Some Acked → slice_get ns place ≡ Some Acked) → acked_len ms ≤ acked_len ns
acked_more [] ns stay = omega arith
acked_more (m ∷ ms) [] stay =
    let rest = acked_more ms [] (λ place there. stay (suc place) there) in
    let first : is_acked m ≡ false = by m (λ is. stay 0 (ap (λ x. Some x) is)) in
    let none : cond {A = ℕ} (is_acked m) 1 0 ≡ 0 = ap (λ c. cond {A = ℕ} c 1 0) first in
    omega (arith, rest, none, sum_by-cons (λ (y : ByteMark). cond (is_acked y) 1 0) m ms)
  where
    by : (m : ByteMark) → (m ≡ Acked → None ≡ Some Acked) → is_acked m ≡ false
    by Acked wrong = let is : None ≡ Some Acked = wrong refl in cc
    by (Held holder among) wrong = refl
    by (Free among) wrong = refl
acked_more (m ∷ ms) (n ∷ ns) stay =
    let rest = acked_more ms ns (λ place there. stay (suc place) there) in
    let first : cond {A = ℕ} (is_acked m) 1 0 ≤ cond {A = ℕ} (is_acked n) 1 0 = by m (λ is. same_Some n Acked (stay 0 (ap (λ x. Some x) is))) in
    omega (arith, rest, first, sum_by-cons (λ (y : ByteMark). cond (is_acked y) 1 0) m ms, sum_by-cons (λ (y : ByteMark). cond (is_acked y) 1 0) n ns)
  where
    by : (m : ByteMark) → (m ≡ Acked → n ≡ Acked) → cond {A = ℕ} (is_acked m) 1 0 ≤ cond {A = ℕ} (is_acked n) 1 0
    by Acked same = subst (λ (y : ByteMark). 1 ≤ cond {A = ℕ} (is_acked y) 1 0) (sym (same refl)) (omega arith)
    by (Held holder among) same = omega arith
    by (Free among) same = omega arith

acked_up : (b : Sending) (call : SendCall) → acked_len b.marks ≤ acked_len (after_call b call).marks
acked_up b call = acked_more b.marks (after_call b call).marks (send_up b call).acknowledged

either_buffer : (c : Bool) (x y : Sending) (n : ℕ) → x.buffer ≡ n → y.buffer ≡ n → (if c then x else y).buffer ≡ n
either_buffer true x y n first second = first
either_buffer false x y n first second = second

pub buffer_after : (b : Sending) (call : SendCall) → (after_call b call).buffer ≡ b.buffer
buffer_after b (calls.Write bytes) = either_buffer (b.closed || b.aborted) b _ b.buffer refl refl
buffer_after b calls.Close = either_buffer b.aborted b _ b.buffer refl refl
buffer_after b (calls.Grant asker max stands) = elim (decision asker max stands b) as (λ r. (given_by asker r b).buffer ≡ b.buffer) [ Err why ↦ refl | Ok span ↦ refl ]
buffer_after b (calls.AckIn next window) = either_buffer (is_future next b) b _ b.buffer refl refl
buffer_after b (calls.Return asker) = refl
buffer_after b calls.GoIdentity = refl
buffer_after b (calls.GoInfinite asker) = either_buffer (is_gathered asker b) _ b b.buffer refl refl
buffer_after b calls.Abort = refl

either_stopped : (c : Bool) (x y : Sending) → x.aborted ≡ true → y.aborted ≡ true → (if c then x else y).aborted ≡ true
either_stopped true x y first second = first
either_stopped false x y first second = second

pub stopped_after : (b : Sending) (call : SendCall) → b.aborted ≡ true → (after_call b call).aborted ≡ true
stopped_after b (calls.Write bytes) is = either_stopped (b.closed || b.aborted) b _ is is
stopped_after b calls.Close is = either_stopped b.aborted b _ is is
stopped_after b (calls.Grant asker max stands) is = elim (decision asker max stands b) as (λ r. (given_by asker r b).aborted ≡ true) [ Err why ↦ is | Ok span ↦ is ]
stopped_after b (calls.AckIn next window) is = either_stopped (is_future next b) b _ is is
stopped_after b (calls.Return asker) is = is
stopped_after b calls.GoIdentity is = is
stopped_after b (calls.GoInfinite asker) is = either_stopped (is_gathered asker b) _ b is is
stopped_after b calls.Abort is = refl

-- its own book after a duty
abbrev pub own_after : AppDuty → AppState → Sending → Sending
own_after app_duties.Write a b = after_call b (calls.Write (offered a))
own_after app_duties.AbortSend a b = after_call b calls.Abort
own_after app_duties.Close a b = after_call b calls.Close
own_after _ a b = b

drop_long : (n : ℕ) (xs : List ℕ) → length xs ≤ n → drop n xs ≡ []
drop_long zero [] low = refl
drop_long zero (x ∷ xs) low = absurd (omega (arith, low))
drop_long (suc n) [] low = refl
drop_long (suc n) (x ∷ xs) low = drop_long n xs (omega (arith, low))

-- ---- the places of the duties

abbrev number_of : AppDuty → ℕ
number_of app_duties.FastClose = 0
number_of app_duties.AbortSend = 1
number_of app_duties.AbortReceive = 2
number_of app_duties.Write = 3
number_of app_duties.Close = 4
number_of app_duties.Read = 5
number_of app_duties.End = 6

abbrev first_number : List AppDuty → ℕ
first_number [] = 7
first_number (d ∷ ds) = number_of d

placed : (n : ℕ) (d : AppDuty) (ds : List AppDuty) → d ∷ ds ≡ drop n start_of_app → (n ≡ number_of d) × (ds ≡ drop (suc n) start_of_app)
placed zero d ds is = (sym (ap first_number is), ap tail_of is)
placed (suc zero) d ds is = (sym (ap first_number is), ap tail_of is)
placed (suc (suc zero)) d ds is = (sym (ap first_number is), ap tail_of is)
placed (suc (suc (suc zero))) d ds is = (sym (ap first_number is), ap tail_of is)
placed (suc (suc (suc (suc zero)))) d ds is = (sym (ap first_number is), ap tail_of is)
placed (suc (suc (suc (suc (suc zero))))) d ds is = (sym (ap first_number is), ap tail_of is)
placed (suc (suc (suc (suc (suc (suc zero)))))) d ds is = (sym (ap first_number is), ap tail_of is)
placed (suc (suc (suc (suc (suc (suc (suc zero))))))) d ds is = cc
placed (suc (suc (suc (suc (suc (suc (suc (suc n)))))))) d ds is = cc

all_behind : (n : ℕ) → [] ≡ drop n start_of_app → 7 ≤ n
all_behind zero is = cc
all_behind (suc zero) is = cc
all_behind (suc (suc zero)) is = cc
all_behind (suc (suc (suc zero))) is = cc
all_behind (suc (suc (suc (suc zero)))) is = cc
all_behind (suc (suc (suc (suc (suc zero))))) is = cc
all_behind (suc (suc (suc (suc (suc (suc zero)))))) is = cc
all_behind (suc (suc (suc (suc (suc (suc (suc n))))))) is = omega arith

nil_so : (xs : List ℕ) → is_nil xs ≡ true → xs ≡ []
nil_so [] is = refl
nil_so (x ∷ xs) is = absurd (true≢false (sym is))

module _ (buffer acked : ℕ) where
  -- a book of this size, of which so much was acknowledged before
  record BookSo (b : Sending) : Type 0 where
    room : b.buffer ≡ buffer
    rightly : Rightly b
    whole : length b.marks ≡ length b.written
    low : acked ≤ acked_len b.marks

  book_after : (b : Sending) (call : SendCall) → BookSo b → BookSo (after_call b call)
  book_after b call h = record {
    room = buffer_after b call ∙ h.room;
    rightly = rightly_after b call h.rightly;
    whole = whole_after b call h.rightly h.whole;
    low = (let low = h.low in let up = acked_up b call in omega (arith, low, up));
  }

  -- what was written by a turn, and that the stream was closed
  data Wrote (rest : List ℕ) (b : Sending) : Type 0 where
    wrote_all : rest ≡ [] → Wrote rest b
    wrote_more : acked + buffer ≤ length b.written → Wrote rest b
    wrote_none : b.aborted ≡ true → Wrote rest b

  data Shut (rest : List ℕ) (closed : Bool) (b : Sending) : Type 0 where
    shut_all : rest ≡ [] → closed ≡ true → Shut rest closed b
    shut_more : acked + buffer ≤ length b.written → Shut rest closed b
    shut_none : b.aborted ≡ true → Shut rest closed b

  -- by how many of its duties are behind
  record TurnSo (ds : List AppDuty) (rest : List ℕ) (closed : Bool) (b : Sending) : Type 0 where
    count : ℕ
    at : ds ≡ drop count start_of_app
    wrote : count ≡ 4 → Wrote rest b
    shut : 5 ≤ count → Shut rest closed b

  -- ---- what others make of it

  wrote_up : (rest : List ℕ) (b c : Sending) → length b.written ≤ length c.written → (b.aborted ≡ true → c.aborted ≡ true) → Wrote rest b → Wrote rest c
  wrote_up rest b c grown stops (wrote_all is) = wrote_all is
  wrote_up rest b c grown stops (wrote_more is) = wrote_more (omega (arith, grown, is))
  wrote_up rest b c grown stops (wrote_none is) = wrote_none (stops is)

  shut_up : (rest : List ℕ) (closed : Bool) (b c : Sending) → length b.written ≤ length c.written → (b.aborted ≡ true → c.aborted ≡ true) → Shut rest closed b → Shut rest closed c
  shut_up rest closed b c grown stops (shut_all is shuts) = shut_all is shuts
  shut_up rest closed b c grown stops (shut_more is) = shut_more (omega (arith, grown, is))
  shut_up rest closed b c grown stops (shut_none is) = shut_none (stops is)

  turn_up : (ds : List AppDuty) (rest : List ℕ) (closed : Bool) (b c : Sending) → length b.written ≤ length c.written → (b.aborted ≡ true → c.aborted ≡ true) → TurnSo ds rest closed b → TurnSo ds rest closed c
  turn_up ds rest closed b c grown stops h =
      record { count = h.count; at = h.at; wrote = λ is. wrote_up rest b c grown stops (h.wrote is); shut = λ low. shut_up rest closed b c grown stops (h.shut low) }

  -- ---- duties that come to nothing are passed over

  module _ (b : Sending) (a : AppState) where
    abbrev Turned : List AppDuty → Type 0
    Turned ds = TurnSo (app_settled ds a).agenda a.rest a.closed b

    settle6 : Shut a.rest a.closed b → Turned (app_duties.End ∷ [])
    settle6 s = record { count = 6; at = refl; wrote = λ is. absurd (omega (arith, is)); shut = λ low. s }

    settle5 : Shut a.rest a.closed b → Turned (app_duties.Read ∷ app_duties.End ∷ [])
    settle5 s = by (not a.told)
      where
        by : (c : Bool) → TurnSo (if c then record a { agenda = app_duties.Read ∷ app_duties.End ∷ [] } else app_settled (app_duties.End ∷ []) a).agenda a.rest a.closed b
        by true = record { count = 5; at = refl; wrote = λ is. absurd (omega (arith, is)); shut = λ low. s }
        by false = settle6 s

    shut_then : Wrote a.rest b → (is_nil a.rest && not a.closed) ≡ false → Shut a.rest a.closed b
    shut_then (wrote_all none) is = shut_all none (by a.closed (subst (λ (xs : List ℕ). (is_nil xs && not a.closed) ≡ false) none is))
      where
        by : (c : Bool) → not c ≡ false → c ≡ true
        by true is = refl
        by false is = absurd (true≢false is)
    shut_then (wrote_more is) none = shut_more is
    shut_then (wrote_none is) none = shut_none is

    settle4 : Wrote a.rest b → Turned (app_duties.Close ∷ app_duties.Read ∷ app_duties.End ∷ [])
    settle4 w = by (is_nil a.rest && not a.closed) refl
      where
        by : (c : Bool) → (is_nil a.rest && not a.closed) ≡ c
            → TurnSo (if c then record a { agenda = app_duties.Close ∷ app_duties.Read ∷ app_duties.End ∷ [] } else app_settled (app_duties.Read ∷ app_duties.End ∷ []) a).agenda a.rest a.closed b
        by true is = record { count = 4; at = refl; wrote = λ same. w; shut = λ low. absurd (omega (arith, low)) }
        by false is = settle5 (shut_then w is)

    settle3 : Turned (app_duties.Write ∷ app_duties.Close ∷ app_duties.Read ∷ app_duties.End ∷ [])
    settle3 = by (not (is_nil a.rest)) refl
      where
        nothing_left : (xs : List ℕ) → not (is_nil xs) ≡ false → xs ≡ []
        nothing_left [] is = refl
        nothing_left (x ∷ xs) is = absurd (true≢false is)

        by : (c : Bool) → not (is_nil a.rest) ≡ c
            → TurnSo (if c then record a { agenda = app_duties.Write ∷ app_duties.Close ∷ app_duties.Read ∷ app_duties.End ∷ [] } else app_settled (app_duties.Close ∷ app_duties.Read ∷ app_duties.End ∷ []) a).agenda a.rest a.closed b
        by true is = record { count = 3; at = refl; wrote = λ same. absurd (omega (arith, same)); shut = λ low. absurd (omega (arith, low)) }
        by false is = settle4 (wrote_all (nothing_left a.rest is))

    settle2 : Turned (app_duties.AbortReceive ∷ app_duties.Write ∷ app_duties.Close ∷ app_duties.Read ∷ app_duties.End ∷ [])
    settle2 = by (is_due a.stops_in)
      where
        by : (c : Bool) → TurnSo (if c then record a { agenda = drop 2 start_of_app } else app_settled (drop 3 start_of_app) a).agenda a.rest a.closed b
        by true = record { count = 2; at = refl; wrote = λ same. absurd (omega (arith, same)); shut = λ low. absurd (omega (arith, low)) }
        by false = settle3

    settle1 : Turned (app_duties.AbortSend ∷ app_duties.AbortReceive ∷ app_duties.Write ∷ app_duties.Close ∷ app_duties.Read ∷ app_duties.End ∷ [])
    settle1 = by (is_due a.stops_in)
      where
        by : (c : Bool) → TurnSo (if c then record a { agenda = drop 1 start_of_app } else app_settled (drop 2 start_of_app) a).agenda a.rest a.closed b
        by true = record { count = 1; at = refl; wrote = λ same. absurd (omega (arith, same)); shut = λ low. absurd (omega (arith, low)) }
        by false = settle2

    settle0 : Turned start_of_app
    settle0 = by (is_due a.stops_in)
      where
        by : (c : Bool) → TurnSo (if c then record a { agenda = start_of_app } else app_settled (drop 1 start_of_app) a).agenda a.rest a.closed b
        by true = record { count = 0; at = refl; wrote = λ same. absurd (omega (arith, same)); shut = λ low. absurd (omega (arith, low)) }
        by false = settle1

  -- ---- what a duty makes of it

  -- as much is written as there is room for
  writes_so : (b : Sending) (rest : List ℕ) (n : ℕ) → n ≡ bytes_taken (take buffer rest) b → BookSo b → length b.written + length rest < 2 ^ 31
      → Wrote (drop n rest) (record b { written = b.written ++ take n (take buffer rest); marks = b.marks ++ replicate n (Free no_paths) })
  writes_so b rest n is h few = ⊎_elim
      (λ some. wrote_more (
      let one = length-take buffer rest in let low = h.low in let room = h.room in let whole = h.whole in let most = count_by-le-length is_acked b.marks in
      let two = length-take n (take buffer rest) in let three = length-append b.written (take n (take buffer rest)) in
      omega (arith, is, one, two, three, low, room, whole, most, few, some)))
      (λ long. wrote_all (drop_long n rest long))
      (cases_lt n (length rest))

  record AppSo (a : AppState) (b : Sending) : Type 0 where
    book : BookSo b
    size : a.buffer ≡ buffer
    ended : a.closed ≡ true → (b.closed ≡ true) ⊎ (b.aborted ≡ true)
    turn : TurnSo a.agenda a.rest a.closed b

  -- a call by another actor
  app_after : (a : AppState) (b : Sending) (call : SendCall) → AppSo a b → AppSo a (after_call b call)
  app_after a b call h =
      let up = send_up b call in
      let more_written : length (after_call b call).written ≡ length (b.written ++ up.written.rest) = ap (λ (xs : List ℕ). length xs) up.written.whole_is in
      record {
        book = book_after b call h.book;
        size = h.size;
        ended = λ is. ⊎_elim (λ closed. inl (up.closed closed)) (λ aborted. inr (stopped_after b call aborted)) (h.ended is);
        turn = turn_up a.agenda a.rest a.closed b (after_call b call) (omega (arith, more_written, length-append b.written up.written.rest)) (stopped_after b call) h.turn;
      }

  -- where a turn goes on from a duty
  module _ (a : AppState) (b : Sending) (h : AppSo a b) (few : length b.written + length a.rest < 2 ^ 31) (open_while : b.closed ≡ true → a.rest ≡ []) where
    abbrev Next : AppDuty → Reply → Type 0
    Next d r = let m = app_answered d r a in TurnSo (app_settled m.agenda m).agenda m.rest m.closed (own_after d a b)

    from_here : (m : AppState) (c : Sending) (ds es : List AppDuty) → m.agenda ≡ ds → ds ≡ es → TurnSo (app_settled es m).agenda m.rest m.closed c → TurnSo (app_settled m.agenda m).agenda m.rest m.closed c
    from_here m c ds es first second x = subst (λ (xs : List AppDuty). TurnSo (app_settled xs m).agenda m.rest m.closed c) (sym (first ∙ second)) x

    wrote_next : (r : Reply) → not (is_nil a.rest) ≡ true → r ≡ replies.Send (write_reply (offered a) b) → Wrote (drop (taken_in r) a.rest) (after_call b (calls.Write (offered a)))
    wrote_next r some is = subst (λ x. Wrote (drop (taken_in x) a.rest) (after_call b (calls.Write (offered a)))) (sym is) (by (b.closed || b.aborted) refl)
      where
        n_taken : Wrote (drop (bytes_taken (offered a) b) a.rest) (record b { written = b.written ++ take (bytes_taken (offered a) b) (offered a); marks = b.marks ++ replicate (bytes_taken (offered a) b) (Free no_paths) })
        n_taken = subst (λ m. Wrote (drop (bytes_taken (take m a.rest) b) a.rest) (record b { written = b.written ++ take (bytes_taken (take m a.rest) b) (take m a.rest); marks = b.marks ++ replicate (bytes_taken (take m a.rest) b) (Free no_paths) }))
            (sym h.size) (writes_so b a.rest (bytes_taken (take buffer a.rest) b) refl h.book few)

        not_closed : b.closed ≡ true → ⊥
        not_closed closed = true≢false (sym some ∙ ap (λ (xs : List ℕ). not (is_nil xs)) (open_while closed))

        by : (c : Bool) → (b.closed || b.aborted) ≡ c → Wrote (drop (taken_in (replies.Send (if c then send_replies.Shut else send_replies.Taken (bytes_taken (offered a) b)))) a.rest)
            (if c then b else record b { written = b.written ++ take (bytes_taken (offered a) b) (offered a); marks = b.marks ++ replicate (bytes_taken (offered a) b) (Free no_paths) })
        by true ends = ⊎_elim (λ closed. absurd (not_closed closed)) (λ aborted. wrote_none aborted) (or_cases b.closed b.aborted ends)
        by false goes = n_taken

    at_place : (d : AppDuty) (ds : List AppDuty) → a.agenda ≡ d ∷ ds → (h.turn.count ≡ number_of d) × (ds ≡ drop (suc h.turn.count) start_of_app)
    at_place d ds is = placed h.turn.count d ds (sym is ∙ h.turn.at)

    tails : (d : AppDuty) (ds : List AppDuty) → a.agenda ≡ d ∷ ds → ds ≡ drop (suc (number_of d)) start_of_app
    tails d ds is = let at = at_place d ds is in subst (λ n. ds ≡ drop (suc n) start_of_app) at.0 at.1

    shut_now : (d : AppDuty) (ds : List AppDuty) → a.agenda ≡ d ∷ ds → 5 ≤ number_of d → Shut a.rest a.closed b
    shut_now d ds is late = let at = (at_place d ds is).0 in h.turn.shut (omega (arith, at, late))

    reads_or_goes : (r : Reply) (ds : List AppDuty) → a.agenda ≡ app_duties.Read ∷ ds
        → ((app_answered app_duties.Read r a).agenda ≡ app_duties.Read ∷ ds) ⊎ ((app_answered app_duties.Read r a).agenda ≡ ds)
    reads_or_goes r ds is = by (app_reads_on (bytes_in r) a)
      where
        by : (c : Bool) → ((if c then a.agenda else app_left a) ≡ app_duties.Read ∷ ds) ⊎ ((if c then a.agenda else app_left a) ≡ ds)
        by true = inl is
        by false = inr (ap tail_of is)

    -- its duties have their places in the turn
    step_turn : (d : AppDuty) (ds : List AppDuty) (r : Reply) → a.agenda ≡ d ∷ ds → app_stands d a ≡ true → (d ≡ app_duties.Write → r ≡ replies.Send (write_reply (offered a) b)) → Next d r
    step_turn app_duties.FastClose ds r is stands told = let m = app_answered app_duties.FastClose r a in
        from_here m b ds (drop 1 start_of_app) (ap tail_of is) (tails app_duties.FastClose ds is) (settle1 b m)
    step_turn app_duties.AbortSend ds r is stands told = let m = app_answered app_duties.AbortSend r a in
        from_here m (after_call b calls.Abort) ds (drop 2 start_of_app) (ap tail_of is) (tails app_duties.AbortSend ds is) (settle2 (after_call b calls.Abort) m)
    step_turn app_duties.AbortReceive ds r is stands told = let m = app_answered app_duties.AbortReceive r a in
        from_here m b ds (drop 3 start_of_app) (ap tail_of is) (tails app_duties.AbortReceive ds is) (settle3 b m)
    step_turn app_duties.Write ds r is stands told = let m = app_answered app_duties.Write r a in let c = after_call b (calls.Write (offered a)) in
        from_here m c ds (drop 4 start_of_app) (ap tail_of is) (tails app_duties.Write ds is) (settle4 c m (wrote_next r stands (told refl)))
    step_turn app_duties.Close ds r is stands told = let m = app_answered app_duties.Close r a in let c = after_call b calls.Close in
        from_here m c ds (drop 5 start_of_app) (ap tail_of is) (tails app_duties.Close ds is) (settle5 c m (shut_all (nil_so a.rest (and_parts (is_nil a.rest) (not a.closed) stands).0) refl))
    step_turn app_duties.Read ds r is stands told = let m = app_answered app_duties.Read r a in
        ⊎_elim
        (λ again. from_here m b (app_duties.Read ∷ ds) (drop 5 start_of_app) again (ap (λ xs. app_duties.Read ∷ xs) (tails app_duties.Read ds is)) (settle5 b m (shut_now app_duties.Read ds is (omega arith))))
        (λ on. from_here m b ds (drop 6 start_of_app) on (tails app_duties.Read ds is) (settle6 b m (shut_now app_duties.Read ds is (omega arith))))
        (reads_or_goes r ds is)
    step_turn app_duties.End ds r is stands told =
        record { count = 7; at = refl; wrote = λ same. absurd (omega (arith, same)); shut = λ low. shut_now app_duties.End ds is (omega arith) }

    -- ---- the application after it

    size_stays : (d : AppDuty) (r : Reply) → (app_answered d r a).buffer ≡ a.buffer
    size_stays app_duties.FastClose r = refl
    size_stays _ r = refl

    own_book : (d : AppDuty) → BookSo (own_after d a b)
    own_book app_duties.AbortSend = book_after b calls.Abort h.book
    own_book app_duties.Write = book_after b (calls.Write (offered a)) h.book
    own_book app_duties.Close = book_after b calls.Close h.book
    own_book _ = h.book

    after_ended : (call : SendCall) → a.closed ≡ true → ((after_call b call).closed ≡ true) ⊎ ((after_call b call).aborted ≡ true)
    after_ended call is = ⊎_elim (λ closed. inl ((send_up b call).closed closed)) (λ aborted. inr (stopped_after b call aborted)) (h.ended is)

    closes : (c : Bool) → b.aborted ≡ c → ((if c then b else record b { closed = true }).closed ≡ true) ⊎ ((if c then b else record b { closed = true }).aborted ≡ true)
    closes true is = inr is
    closes false is = inl refl

    own_ended : (d : AppDuty) (r : Reply) → (app_answered d r a).closed ≡ true → ((own_after d a b).closed ≡ true) ⊎ ((own_after d a b).aborted ≡ true)
    own_ended app_duties.AbortSend r is = after_ended calls.Abort is
    own_ended app_duties.Write r is = after_ended (calls.Write (offered a)) is
    own_ended app_duties.Close r is = closes b.aborted refl
    own_ended app_duties.FastClose r is = h.ended is
    own_ended app_duties.AbortReceive r is = h.ended is
    own_ended app_duties.Read r is = h.ended is
    own_ended app_duties.End r is = h.ended is

    app_step : (d : AppDuty) (ds : List AppDuty) (r : Reply) → a.agenda ≡ d ∷ ds → app_stands d a ≡ true → (d ≡ app_duties.Write → r ≡ replies.Send (write_reply (offered a) b))
        → AppSo (app_takes r a) (own_after d a b)
    app_step d ds r is stands told =
        let m : AppState = app_answered d r a in
        let z : AppState = app_settled m.agenda m in
        let st = settled_app m.agenda m in
        let turned : TurnSo z.agenda m.rest m.closed (own_after d a b) = step_turn d ds r is stands told in
        subst (λ (y : AppState). AppSo y (own_after d a b)) (sym (ap (λ xs. app_settles_down (app_answers xs r a)) is))
        (record {
          book = own_book d;
          size = ap (λ (y : AppState). y.buffer) st.is ∙ (size_stays d r ∙ h.size);
          ended = λ closed. own_ended d r (sym (ap (λ (y : AppState). y.closed) st.is) ∙ closed);
          turn = subst (λ (y : AppState). TurnSo z.agenda y.rest y.closed (own_after d a b)) (sym st.is) turned;
        })

  -- as a turn begins
  begun_so : (m : AppState) (b : Sending) → BookSo b → m.buffer ≡ buffer → (m.closed ≡ true → (b.closed ≡ true) ⊎ (b.aborted ≡ true)) → AppSo (app_settled start_of_app m) b
  begun_so m b book size ended =
      let z : AppState = app_settled start_of_app m in
      let st = settled_app start_of_app m in
      record {
        book = book;
        size = ap (λ (y : AppState). y.buffer) st.is ∙ size;
        ended = λ closed. ended (sym (ap (λ (y : AppState). y.closed) st.is) ∙ closed);
        turn = subst (λ (y : AppState). TurnSo z.agenda y.rest y.closed b) (sym st.is) (settle0 b m);
      }

  -- as it is over
  goes_on : (s : Side) (file : List ℕ) (a : AppState) (b : Sending) → not (is_nil a.agenda) ≡ false → Fares s file a b → AppSo a b → GoesOnWriting file buffer acked b
  goes_on s file a b over f h = by (h.turn.shut (let all = all_behind h.turn.count (sym (over_nil a.agenda over) ∙ h.turn.at) in omega (arith, all)))
    where
      over_nil : (ds : List AppDuty) → not (is_nil ds) ≡ false → ds ≡ []
      over_nil [] is = refl
      over_nil (d ∷ ds) is = absurd (true≢false is)

      by : Shut a.rest a.closed b → GoesOnWriting file buffer acked b
      by (shut_all none closed) = ⊎_elim
          (λ is. GoesOnWriting.whole (sym (f.writes.prefix ∙ ap (λ xs. b.written ++ xs) none ∙ append-nil b.written)) is)
          (λ is. GoesOnWriting.stopped is)
          (h.ended closed)
      by (shut_more is) = GoesOnWriting.more is
      by (shut_none is) = GoesOnWriting.stopped is

-- ---- what an ask makes of a book

pub data Changes (b : Sending) : Sending → Type 0 where
  stays_so : Changes b b
  by_call : (x : SendCall) → Changes b (after_call b x)

pub changed_by : (x : Ask) (six : SixBooks) (s : Side) → Changes (send_of s six) (send_of s (after_ask x six))
changed_by (asks.Send A x) six A = by_call x
changed_by (asks.Send A x) six B = stays_so
changed_by (asks.Send B x) six A = stays_so
changed_by (asks.Send B x) six B = by_call x
changed_by (asks.Reassembly t x) six A = stays_so
changed_by (asks.Reassembly t x) six B = stays_so
changed_by (asks.Control t x) six A = stays_so
changed_by (asks.Control t x) six B = stays_so
changed_by (asks.Local step) six s = stays_so

pub own_a : (d : AppDuty) (a : AppState) (six : SixBooks) → a.side ≡ A → (after_ask (app_ask d a) six).send_a ≡ own_after d a six.send_a
own_a app_duties.AbortSend a six is = ap (λ s. (after_send_call s calls.Abort six).send_a) is
own_a app_duties.Write a six is = ap (λ s. (after_send_call s (calls.Write (offered a)) six).send_a) is
own_a app_duties.Close a six is = ap (λ s. (after_send_call s calls.Close six).send_a) is
own_a _ a six is = refl

pub own_b : (d : AppDuty) (a : AppState) (six : SixBooks) → a.side ≡ B → (after_ask (app_ask d a) six).send_b ≡ own_after d a six.send_b
own_b app_duties.AbortSend a six is = ap (λ s. (after_send_call s calls.Abort six).send_b) is
own_b app_duties.Write a six is = ap (λ s. (after_send_call s (calls.Write (offered a)) six).send_b) is
own_b app_duties.Close a six is = ap (λ s. (after_send_call s calls.Close six).send_b) is
own_b _ a six is = refl

pub told_a : (d : AppDuty) (a : AppState) (six : SixBooks) → a.side ≡ A → d ≡ app_duties.Write → reply_of six (app_ask d a) ≡ replies.Send (write_reply (offered a) six.send_a)
told_a d a six is same = ap (λ e. reply_of six (app_ask e a)) same ∙ ap (λ s. reply_of six (asks.Send s (calls.Write (offered a)))) is

pub told_b : (d : AppDuty) (a : AppState) (six : SixBooks) → a.side ≡ B → d ≡ app_duties.Write → reply_of six (app_ask d a) ≡ replies.Send (write_reply (offered a) six.send_b)
told_b d a six is same = ap (λ e. reply_of six (app_ask e a)) same ∙ ap (λ s. reply_of six (asks.Send s (calls.Write (offered a)))) is

-- the first duty of an application comes to something
first_stands : (a : AppState) (d : AppDuty) (ds : List AppDuty) → a.agenda ≡ d ∷ ds → IsAppSettled a → app_stands d a ≡ true
first_stands a d ds is h = subst (λ xs. FirstAppStands xs a) is h

few_left : (file rest : List ℕ) (b : Sending) → Writes file rest b → length file < 2 ^ 31 - 2 → length b.written + length rest < 2 ^ 31
few_left file rest b w short = let parts = ap (λ (xs : List ℕ). length xs) w.prefix in omega (arith, parts, short, length-append b.written rest)

-- ---- the world

module _ {C : Type 0} (k : Codec C) (start : Start) (fit : NumbersFit start) where
  module _ (acked_a acked_b : ℕ) where
    record BothSo (t : Cast C) : Type 0 where
      a : AppSo start.buffer acked_a t.a (books_in t.books).send_a
      b : AppSo start.buffer acked_b t.b (books_in t.books).send_b

    other_so : (acked : ℕ) (a : AppState) (b c : Sending) → Changes b c → AppSo start.buffer acked a b → AppSo start.buffer acked a c
    other_so acked a b _ stays_so h = h
    other_so acked a b _ (by_call x) h = app_after start.buffer acked a b x h

    both_kept : Stepwise k start BothSo
    both_kept = record {
      a = λ t f d ds is h.
          (let six = books_in t.books in let ask = app_ask d t.a in let same = sym (books_after ask t.at_a.pass t.books) in
          record {
            a = subst (λ (x : SixBooks). AppSo start.buffer acked_a (app_takes (reply_of six ask) t.a) x.send_a) same
                (subst (AppSo start.buffer acked_a (app_takes (reply_of six ask) t.a)) (sym (own_a d t.a six f.a.side_is))
                (app_step start.buffer acked_a t.a six.send_a h.a (few_left start.file_a t.a.rest six.send_a f.a.writes fit.short_a) f.a.writes.whole d ds (reply_of six ask) is
                (first_stands t.a d ds is f.a.settled) (told_a d t.a six f.a.side_is)));
            b = subst (λ (x : SixBooks). AppSo start.buffer acked_b t.b x.send_b) same (other_so acked_b t.b six.send_b (after_ask ask six).send_b (changed_by ask six B) h.b);
          });
      b = λ t f d ds is h.
          (let six = books_in t.books in let ask = app_ask d t.b in let same = sym (books_after ask t.at_b.pass t.books) in
          record {
            a = subst (λ (x : SixBooks). AppSo start.buffer acked_a t.a x.send_a) same (other_so acked_a t.a six.send_a (after_ask ask six).send_a (changed_by ask six A) h.a);
            b = subst (λ (x : SixBooks). AppSo start.buffer acked_b (app_takes (reply_of six ask) t.b) x.send_b) same
                (subst (AppSo start.buffer acked_b (app_takes (reply_of six ask) t.b)) (sym (own_b d t.b six f.b.side_is))
                (app_step start.buffer acked_b t.b six.send_b h.b (few_left start.file_b t.b.rest six.send_b f.b.writes fit.short_b) f.b.writes.whole d ds (reply_of six ask) is
                (first_stands t.b d ds is f.b.settled) (told_b d t.b six f.b.side_is)));
          });
      path = λ t f number x there d ds is h.
          (let six = books_in t.books in let ask = ask_for k d x.path in let same = sym (books_after ask x.at.pass t.books) in
          record {
            a = subst (λ (y : SixBooks). AppSo start.buffer acked_a t.a y.send_a) same (other_so acked_a t.a six.send_a (after_ask ask six).send_a (changed_by ask six A) h.a);
            b = subst (λ (y : SixBooks). AppSo start.buffer acked_b t.b y.send_b) same (other_so acked_b t.b six.send_b (after_ask ask six).send_b (changed_by ask six B) h.b);
          });
    }

  -- in a round that began with these books
  abbrev Since : SixBooks → Cast C → Type 0
  Since six t = BothSo (acked_len six.send_a.marks) (acked_len six.send_b.marks) t

  turned_so : (low : ℕ) (a : AppState) (b : Sending) → AppSo start.buffer low a b → AppSo start.buffer (acked_len b.marks) (app_next_round a) b
  turned_so low a b h = begun_so start.buffer (acked_len b.marks) (fresh_turn a) b
      (record { room = h.book.room; rightly = h.book.rightly; whole = h.book.whole; low = le_refl (acked_len b.marks) }) h.size h.ended

  next_both : (low_a low_b : ℕ) (t : Cast C) → BothSo low_a low_b t → Since (books_in t.books) (next_cast t)
  next_both low_a low_b t h = record { a = turned_so low_a t.a (books_in t.books).send_a h.a; b = turned_so low_b t.b (books_in t.books).send_b h.b }

  -- at every moment
  abbrev Ever : Cast C → Type 0
  Ever t = BothSo 0 0 t

  lower : (low : ℕ) (a : AppState) (b : Sending) → AppSo start.buffer low (app_next_round a) b → AppSo start.buffer 0 (app_next_round a) b
  lower low a b h = begun_so start.buffer 0 (fresh_turn a) b (record { room = h.book.room; rightly = h.book.rightly; whole = h.book.whole; low = omega arith })
      (sym (ap (λ (y : AppState). y.buffer) (settled_app start_of_app (fresh_turn a)).is) ∙ h.size) (λ is. h.ended (ap (λ (y : AppState). y.closed) (settled_app start_of_app (fresh_turn a)).is ∙ is))

  next_ever : (t : Cast C) → Fare start t → Ever t → Ever (next_cast t)
  next_ever t f h = let n = next_both 0 0 t h in record { a = lower _ t.a (books_in t.books).send_a n.a; b = lower _ t.b (books_in t.books).send_b n.b }

  opened_so : (s : Side) (file : List ℕ) (tick : Option ℕ) → AppSo start.buffer 0 (app_settled start_of_app (untouched s start.buffer file tick)) (new_sending start.buffer)
  opened_so s file tick = begun_so start.buffer 0 (untouched s start.buffer file tick) (new_sending start.buffer)
      (record { room = refl; rightly = Every-nil _; whole = refl; low = omega arith }) refl (λ is. absurd (true≢false (sym is)))

  opened_both : Ever (first_cast start)
  opened_both = record { a = opened_so A start.file_a (fast_close_of A start.lines); b = opened_so B start.file_b (fast_close_of B start.lines) }

  opened_has : Has {C = C} start Ever (opened_world start)
  opened_has = record { cast = first_cast start; is = opened_is start; fare = first_fare start; holds = opened_both }

  always_so : (turns : List Turn) → Has start Ever (world_run k turns (opened_world start))
  always_so turns = turns_have k start Ever (both_kept 0 0) next_ever turns (opened_world start) opened_has

  abbrev At : WorldState C → Cast C → Type 0
  At v t = Ever t × (t.books ≡ v.books)

  same_books : (v : WorldState C) → (end_round v).books ≡ v.books
  same_books v = elim (all_over v.crew) as (λ b. (if b then record v { crew = map (begins (greatest 0 v.crew)) v.crew } else v).books ≡ v.books)
      [ true ↦ refl | false ↦ refl ]

  begun_has : (u : WorldState C) → BeginsRound k start u → Has start (Since (books_in u.books)) u
  begun_has u (BeginsRound.First is) = subst (λ (w : WorldState C). Has start (Since (books_in w.books)) w) (sym is)
      (record { cast = first_cast start; is = opened_is start; fare = first_fare start; holds = opened_both })
  begun_has u (BeginsRound.Next turns over is) =
      let v = world_run k turns (opened_world start) in
      let h = always_so turns in
      let there : Has start (At v) v = record { cast = h.cast; is = h.is; fare = h.fare; holds = (h.holds, sym (ap (λ (w : WorldState C). w.books) h.is)) } in
      let ended = ended_has start (At v) (Since (books_in v.books)) (λ t f p. subst (λ books. Since (books_in books) (next_cast t)) p.1 (next_both 0 0 t p.0)) v over there in
      subst (λ (w : WorldState C). Has start (Since (books_in w.books)) w) (sym is)
      (subst (λ books. Has start (Since (books_in books)) (end_round v)) (sym (same_books v)) ended)

  abbrev GoOn : SixBooks → WorldState C → Type 0
  GoOn six w = (s : Side) → is_going (pick s 0 1) w ≡ false
      → GoesOnWriting (pick s start.file_a start.file_b) start.buffer (acked_len (send_of s six).marks) (send_of s (books_in w.books))

  cast_on : (six : SixBooks) (t : Cast C) → Fare start t → Since six t → GoOn six (world_of t)
  cast_on six t f h A over = goes_on start.buffer (acked_len six.send_a.marks) A start.file_a t.a (books_in t.books).send_a over f.a h.a
  cast_on six t f h B over = goes_on start.buffer (acked_len six.send_b.marks) B start.file_b t.b (books_in t.books).send_b over f.b h.b

  has_on : (six : SixBooks) (w : WorldState C) → Has start (Since six) w → GoOn six w
  has_on six w h = subst (GoOn six) (sym h.is) (cast_on six h.cast h.fare h.holds)

go_on : {C : Type 0} (k : Codec C) → WritersGoOn k
go_on {C} k start begun order fit begins =
    let six = books_in begun.books in
    has_on k start fit six (after_steps k order begun)
    (steps_have k start (Since k start fit six) (both_kept k start fit (acked_len six.send_a.marks) (acked_len six.send_b.marks)) order begun (begun_has k start fit begun begins))

pub writers_go_on : WritersGoOn values
writers_go_on = go_on values

pub writers_go_on_in_octets : WritersGoOn octets
writers_go_on_in_octets = go_on octets
