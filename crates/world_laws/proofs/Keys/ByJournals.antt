-- What the paths know of both sides, as lists and journals have it: that a side fell back to plain TCP, was asked for a fast close, or
-- accepted one. So a reader is told of an abort by its peer only where the peer's application asked for it.
use Rattle.world_laws.proofs.Words.{◌≡◌, refl, sym, ◌∙◌, ap, subst, ℕ, ◌||◌, ◌==◌, Bool, true, false, if◌then◌else◌, Option, Some, None, List, [], ◌∷◌, ◌++◌}
use Rattle.world_laws.proofs.Words.{take, arith, is_some, false≢true, list_any, slice_get, IfSome, FallEvent, is_identity, Pass, entry_of, Side, A, B, peer}
use Rattle.world_laws.proofs.Words.{ControlCall, ControlReply, Notice, sole_path, Control, peer_or_zero, is_path, ReassemblyCall, Arriving, filled}
use Rattle.world_laws.proofs.Words.{ReassemblyReply, places_after, fin_clash, is_end, bytes_reply, reading, after_reading, first_abort, Duty, Ask, Note, Reply}
use Rattle.world_laws.proofs.Words.{StampedBooks, books_in, after_entry, SixBooks, reassembly_of, control_of, reply_of, after_ask, pick, AppDuty, AppState}
use Rattle.world_laws.proofs.Words.{app_ask, ask_for, PathState, asks_first, Carried, values, is_fall, is_stopped_by, in_map, Every, asks_fast_close}
use Rattle.world_laws.proofs.Words.{note_asks_fast_close, accepts_fast_close, entry_accepts, control_journal, Start, opened_world, Turn, greatest, world_run}
use Rattle.world_laws.proofs.Words.{note_of, if_so, was_told, note_tells, tells_abort}
use Rattle.reassembly_book.specs.Steps.{is_taken, after_call}
use Rattle.control_book.specs.Replies as controlling
use Rattle.control_book.specs.Steps as control
use Rattle.world_laws.proofs.Worlds.CastLifting.{Has, turns_have}
use Rattle.world_laws.proofs.Worlds.Casts.{Cast, Every-put, Fare, Seat, Walker, after_a, after_b, after_path, first_cast, first_fare, next_cast, opened_is, walked, walker_there, walks_on, world_of}
use Rattle.world_laws.proofs.Weaving.Journals.{books_after}
use Rattle.world_laws.proofs.Keys.ToldAreOwn.{AsksFor, BooksAre, NoMore, PathKnows, Tells, app_asks_are, ask_keeps, opened_books_are, opened_path, path_asks, path_more, path_next, path_same, path_takes}
use Rattle.world_laws.proofs.Keys.StepsKeep.{carrier_in}
use Rattle.world_laws.proofs.Keys.AreDrawn.{Deed}
use Rattle.world_laws.proofs.Falls.ByTheJournal.{Was, was_now, was_stays}
use Rattle.world_laws.proofs.Falls.WhereASideStands.{row_falls}

-- ---- lists

-- one that has such an element has it for ever
any_more : {X : Type 0} (test : X → Bool) (xs ys : List X) → list_any test xs ≡ true → list_any test (xs ++ ys) ≡ true
any_more test [] ys is = absurd (false≢true is)
any_more test (x ∷ xs) ys is = (elim (test x) as (λ b. b || list_any test xs ≡ true → (list_any test xs ≡ true → list_any test (xs ++ ys) ≡ true) → b || list_any test (xs ++ ys) ≡ true)
    [ true ↦ λ is rest. refl | false ↦ λ is rest. rest is ]) is (any_more test xs ys)

-- a list has such an element where its last one is
any_last : {X : Type 0} (test : X → Bool) (xs : List X) (y : X) → test y ≡ true → list_any test (xs ++ y ∷ []) ≡ true
any_last test [] y is = ap (λ b. b || false) is
any_last test (x ∷ xs) y is = (elim (test x) as (λ b. list_any test (xs ++ y ∷ []) ≡ true → b || list_any test (xs ++ y ∷ []) ≡ true)
    [ true ↦ λ rest. refl | false ↦ λ rest. rest ]) (any_last test xs y is)

-- and no other
any_pushed : {X : Type 0} (P : Type 0) (test : X → Bool) (xs : List X) (y : X) → list_any test (xs ++ y ∷ []) ≡ true → (list_any test xs ≡ true → P) → (test y ≡ true → P) → P
any_pushed P test [] y is old new = (elim (test y) as (λ b. b || false ≡ true → (b ≡ true → P) → P)
    [ true ↦ λ is new. new refl | false ↦ λ is new. absurd (false≢true is) ]) is new
any_pushed P test (x ∷ xs) y is old new =
    (elim (test x) as (λ b. b || list_any test (xs ++ y ∷ []) ≡ true → (b || list_any test xs ≡ true → P) → (list_any test (xs ++ y ∷ []) ≡ true → (list_any test xs ≡ true → P) → (test y ≡ true → P) → P) → P) [
      | true ↦ λ is old rest. old refl
      | false ↦ λ is old rest. rest is old new
    ]) is old (any_pushed P test xs y)

-- ---- the control book

-- a side that is to carry a fast close has named who does
module _ (P : Type 0) (path key : ℕ) where
  address_carries : (announced withdrawn : Option ℕ) → IfSome (carrier_in (controlling.address_notice announced withdrawn)) (λ key. P)
  address_carries (Some id) withdrawn = tt
  address_carries None (Some id) = tt
  address_carries None None = tt

  notice_carries : (resets : Bool) (carrier announced withdrawn : Option ℕ) → (is_some carrier ≡ true → P)
      → IfSome (carrier_in (if resets then Notice.Reset else (if is_path carrier path then Notice.Carrier key else controlling.address_notice announced withdrawn))) (λ key. P)
  notice_carries true carrier announced withdrawn named = tt
  notice_carries false None announced withdrawn named = address_carries announced withdrawn
  notice_carries false (Some one) announced withdrawn named =
      if_so (λ z. IfSome (carrier_in z) (λ key. P)) (one == path) (Notice.Carrier key) (controlling.address_notice announced withdrawn)
      (named refl) (address_carries announced withdrawn)

look_carries : (P : Type 0) (path : ℕ) (c : Control) → (is_some c.notices.carrier ≡ true → P) → IfSome (carrier_in (controlling.notice_on c path)) (λ key. P)
look_carries P path c named =
    notice_carries P path (peer_or_zero c.keys.peer) (controlling.resets c path) c.notices.carrier (controlling.announcement c path) _ named

-- who carries it is named by a fast close alone
if_carries : (P : Type 0) (b : Bool) (c d : Control) → is_some (if b then d else c).notices.carrier ≡ true → d.notices.carrier ≡ c.notices.carrier → (is_some c.notices.carrier ≡ true → P) → P
if_carries P true c d is same was = was (sym (ap is_some same) ∙ is)
if_carries P false c d is same was = was is

call_carries : (P : Type 0) (c : Control) (call : ControlCall) → is_some (control.after c call).notices.carrier ≡ true → (is_some c.notices.carrier ≡ true → P) → (call ≡ ControlCall.FastClose → P) → P
call_carries P c (ControlCall.Look path) is was closes = (elim (controlling.notice_on c path) as (λ n. is_some (control.after_notice n path c).notices.carrier ≡ true → P)
    [ Notice.Withdraw id ↦ λ is. was is | _ ↦ λ is. was is ]) is
call_carries P c (ControlCall.PeerKey key) is was closes = was is
call_carries P c (ControlCall.Keys own other) is was closes = if_carries P (own == c.keys.own) c _ is refl was
call_carries P c (ControlCall.Fell path event) is was closes = was is
call_carries P c (ControlCall.JoinBegin path) is was closes = if_carries P (controlling.may_join c) c _ is refl was
call_carries P c (ControlCall.JoinHeard path token) is was closes = if_carries P _ c _ is refl was
call_carries P c (ControlCall.Live path backup) is was closes = was is
call_carries P c (ControlCall.Dead path) is was closes = was is
call_carries P c (ControlCall.Backup path on) is was closes = was is
call_carries P c (ControlCall.Rate path window rtt) is was closes = was is
call_carries P c (ControlCall.Announce id) is was closes = was is
call_carries P c (ControlCall.Withdraw id) is was closes = if_carries P (control.is_known id c) c _ is refl was
call_carries P c (ControlCall.Heard id address port hmac) is was closes = was is
call_carries P c (ControlCall.Echoed id) is was closes = if_carries P (control.is_known id c) c _ is refl was
call_carries P c (ControlCall.Removed id) is was closes = if_carries P (control.is_known id c) c _ is refl was
call_carries P c ControlCall.FastClose is was closes = closes refl
call_carries P c (ControlCall.FastHeard key) is was closes = if_carries P (key == c.keys.own) c _ is refl was

-- where a call tells of a fall, the side is in plain TCP then
fell_to : (s : Side) (path : ℕ) (event : FallEvent) (six : SixBooks) → let ask = Ask.Control s (ControlCall.Fell path event) in is_fall (reply_of six ask) ≡ true
    → is_identity (control_of s (after_ask ask six)).fall.mode ≡ true
fell_to A path event six fell = (row_falls path (sole_path six.control_a.paths path) event six.control_a.fall fell).2
fell_to B path event six fell = (row_falls path (sole_path six.control_b.paths path) event six.control_b.fall fell).2

-- a fast close with the side's key is accepted
stopped_accepts : (key : ℕ) (r : ControlReply) → is_stopped_by (Reply.Control r) ≡ true → accepts_fast_close (ControlCall.FastHeard key) r ≡ true
stopped_accepts key ControlReply.Stopped is = refl
stopped_accepts key ControlReply.Noted is = absurd (false≢true is)
stopped_accepts key _ is = absurd (false≢true is)

-- ---- the reassembly book

-- a reassembly book is aborted by the call that says so alone
call_aborts : (P : Type 0) (b : Arriving) (call : ReassemblyCall) → (after_call b call).aborted ≡ Some true → (b.aborted ≡ Some true → P) → (call ≡ ReassemblyCall.Abort true → P) → P
call_aborts P b (ReassemblyCall.Place at bytes) is was aborts = (elim (is_taken at bytes b) as (λ c. (if c then record b { places = places_after at bytes b } else b).aborted ≡ Some true → P)
    [ true ↦ λ is. was is | false ↦ λ is. was is ]) is
call_aborts P b (ReassemblyCall.Fin at) is was aborts = (elim (is_some (fin_clash b.known_end at b)) as (λ c. (if c then b else record b { known_end = Some at }).aborted ≡ Some true → P)
    [ true ↦ λ is. was is | false ↦ λ is. was is ]) is
call_aborts P b (ReassemblyCall.Read max) is was aborts = (elim (is_some b.aborted) as (λ c. (if c then b else after_reading max b).aborted ≡ Some true → P)
    [ true ↦ λ is. was is | false ↦ λ is. was is ]) is
call_aborts P b ReassemblyCall.AckOut is was aborts = was is
call_aborts P b (ReassemblyCall.Abort by_peer) is was aborts = (elim b.aborted as (λ o. first_abort o by_peer ≡ Some true → (o ≡ Some true → P) → P)
    [ None ↦ λ is was. aborts (now by_peer is) | Some first ↦ λ is was. was is ]) is was
  where
    now : (c : Bool) → Some c ≡ Some true → ReassemblyCall.Abort c ≡ ReassemblyCall.Abort true
    now = elim [ true ↦ λ is. refl | false ↦ λ is. cc ]

-- a read that tells of the peer's abort was answered by a book that was aborted so
told_so : (six : SixBooks) (a : AppState) (d : AppDuty) → tells_abort (reply_of six (app_ask d a)) ≡ true → (reassembly_of a.side six).aborted ≡ Some true
told_so six a AppDuty.FastClose is = (elim a.side as (λ s. tells_abort (reply_of six (app_ask AppDuty.FastClose (record a { side = s }))) ≡ true → (reassembly_of s six).aborted ≡ Some true)
    [ A ↦ λ is. absurd (false≢true is) | B ↦ λ is. absurd (false≢true is) ]) is
told_so six a AppDuty.AbortSend is = (elim a.side as (λ s. tells_abort (reply_of six (app_ask AppDuty.AbortSend (record a { side = s }))) ≡ true → (reassembly_of s six).aborted ≡ Some true)
    [ A ↦ λ is. absurd (false≢true is) | B ↦ λ is. absurd (false≢true is) ]) is
told_so six a AppDuty.AbortReceive is = (elim a.side as (λ s. tells_abort (reply_of six (app_ask AppDuty.AbortReceive (record a { side = s }))) ≡ true → (reassembly_of s six).aborted ≡ Some true)
    [ A ↦ λ is. absurd (false≢true is) | B ↦ λ is. absurd (false≢true is) ]) is
told_so six a AppDuty.Write is = (elim a.side as (λ s. tells_abort (reply_of six (app_ask AppDuty.Write (record a { side = s }))) ≡ true → (reassembly_of s six).aborted ≡ Some true)
    [ A ↦ λ is. absurd (false≢true is) | B ↦ λ is. absurd (false≢true is) ]) is
told_so six a AppDuty.Close is = (elim a.side as (λ s. tells_abort (reply_of six (app_ask AppDuty.Close (record a { side = s }))) ≡ true → (reassembly_of s six).aborted ≡ Some true)
    [ A ↦ λ is. absurd (false≢true is) | B ↦ λ is. absurd (false≢true is) ]) is
told_so six a AppDuty.Read is = (elim a.side as (λ s. tells_abort (reply_of six (app_ask AppDuty.Read (record a { side = s }))) ≡ true → (reassembly_of s six).aborted ≡ Some true)
    [ A ↦ λ is. told six.reassembly_a.aborted six.reassembly_a is | B ↦ λ is. told six.reassembly_b.aborted six.reassembly_b is ]) is
  where
    unread : (bytes : List ℕ) (b : Arriving) → tells_abort (Reply.Reassembly (bytes_reply bytes b)) ≡ false
    unread [] b = elim (is_end b.known_end b.read) as (λ ends. tells_abort (Reply.Reassembly (if ends then ReassemblyReply.End else ReassemblyReply.NoneYet)) ≡ false)
        [ true ↦ refl | false ↦ refl ]
    unread (byte ∷ bytes) b = refl

    told : (o : Option Bool) (b : Arriving) → tells_abort (Reply.Reassembly (reading o 65536 b)) ≡ true → o ≡ Some true
    told (Some by_peer) b is = ap (λ c. Some c) is
    told None b is = absurd (false≢true (sym (unread (take 65536 (filled b.places)) b) ∙ is))
told_so six a AppDuty.End is = absurd (false≢true is)

-- ---- worlds

abbrev pub seat_of : Side → Cast Carried → Seat
seat_of s t = pick s t.at_a t.at_b

-- a side fell back to plain TCP, by its control book's journal; its application asked for a fast close; and it accepted its peer's
abbrev pub Facts : Cast Carried → Deed → Side → Type 0
Facts t Deed.Fell s = Was is_identity t.books s
Facts t Deed.Closed s = list_any (note_asks_fast_close s) (seat_of s t).list ≡ true
Facts t Deed.Stopped s = list_any entry_accepts (control_journal s t.books).journal ≡ true
Facts t Deed.Keyed s = Unit {0}

-- a side was stopped by its peer, whose application asked for it
abbrev pub Caused : Cast Carried → Side → Type 0
Caused t s = Facts t Deed.Stopped s × Facts t Deed.Closed (peer s)

module _ (start : Start) where
  abbrev pub Knows : Cast Carried → PathState Carried → Type 0
  Knows t p = PathKnows start.key_a start.key_b false (Facts t) (books_in t.books) p

  pub record Causes (t : Cast Carried) : Type 0 where
    pub paths : Every (λ x. Knows t x.path) t.paths
    books : BooksAre start.key_a start.key_b false (books_in t.books)
    carries : (s : Side) → is_some (control_of s (books_in t.books)).notices.carrier ≡ true → Facts t Deed.Closed s
    aborted : (s : Side) → (reassembly_of s (books_in t.books)).aborted ≡ Some true → Caused t s
    pub told : (s : Side) → was_told tells_abort (seat_of s t).list ≡ true → Caused t s

  -- ---- a step: an ask, entered with a pass

  accepts_more : (x : Ask) (pass : Pass) (books : StampedBooks) (s : Side) → list_any entry_accepts (control_journal s books).journal ≡ true
      → list_any entry_accepts (control_journal s (after_entry x pass books)).journal ≡ true
  accepts_more (Ask.Control A call) pass books A is = any_more entry_accepts books.control_a.journal _ is
  accepts_more (Ask.Control A call) pass books B is = is
  accepts_more (Ask.Control B call) pass books A is = is
  accepts_more (Ask.Control B call) pass books B is = any_more entry_accepts books.control_b.journal _ is
  accepts_more (Ask.Send t call) pass books A is = is
  accepts_more (Ask.Send t call) pass books B is = is
  accepts_more (Ask.Reassembly t call) pass books A is = is
  accepts_more (Ask.Reassembly t call) pass books B is = is
  accepts_more (Ask.Local step) pass books s is = is

  -- the world after it, as far as it is spoken of here
  record Goes (x : Ask) (pass : Pass) (t u : Cast Carried) : Type 0 where
    books : u.books ≡ after_entry x pass t.books
    closed : (s : Side) → Facts t Deed.Closed s → Facts u Deed.Closed s
    -- what is asked is so
    closes : (s : Side) → x ≡ Ask.Control s ControlCall.FastClose → Facts u Deed.Closed s
    aborts : (s : Side) → x ≡ Ask.Reassembly s (ReassemblyCall.Abort true) → Caused u s

  module _ (x : Ask) (pass : Pass) (t u : Cast Carried) (g : Goes x pass t u) (h : Causes t) where
    abbrev six : SixBooks
    six = books_in t.books

    rises : (d : Deed) (s : Side) → Facts t d s → Facts u d s
    rises Deed.Fell s is = subst (λ (b : StampedBooks). Was is_identity b s) (sym g.books) (was_stays is_identity x pass t.books s is)
    rises Deed.Closed s is = g.closed s is
    rises Deed.Keyed s is = tt
    rises Deed.Stopped s is = subst (λ (b : StampedBooks). list_any entry_accepts (control_journal s b).journal ≡ true) (sym g.books) (accepts_more x pass t.books s is)

    caused : (s : Side) → Caused t s → Caused u s
    caused s is = (rises Deed.Stopped s is.0, rises Deed.Closed (peer s) is.1)

    six_is : books_in u.books ≡ after_ask x six
    six_is = ap books_in g.books ∙ books_after x pass t.books

    -- what the reply tells
    fell_now : (s : Side) (path : ℕ) (event : FallEvent) → x ≡ Ask.Control s (ControlCall.Fell path event) → is_fall (reply_of six (Ask.Control s (ControlCall.Fell path event))) ≡ true → Facts u Deed.Fell s
    fell_now s path event same fell =
        was_now is_identity u.books s
        (subst (λ (y : SixBooks). is_identity (control_of s y).fall.mode ≡ true) (sym (six_is ∙ ap (λ y. after_ask y six) same)) (fell_to s path event six fell))

    accepts_now : (s : Side) (key : ℕ) → x ≡ Ask.Control s (ControlCall.FastHeard key) → is_stopped_by (reply_of six (Ask.Control s (ControlCall.FastHeard key))) ≡ true → Facts u Deed.Stopped s
    accepts_now A key same is =
        subst (λ (b : StampedBooks). list_any entry_accepts b.control_a.journal ≡ true) (sym (g.books ∙ ap (λ y. after_entry y pass t.books) same))
        (any_last entry_accepts t.books.control_a.journal (entry_of controlling.reply_to control.after t.books.control_a pass (ControlCall.FastHeard key)) (stopped_accepts key _ is))
    accepts_now B key same is =
        subst (λ (b : StampedBooks). list_any entry_accepts b.control_b.journal ≡ true) (sym (g.books ∙ ap (λ y. after_entry y pass t.books) same))
        (any_last entry_accepts t.books.control_b.journal (entry_of controlling.reply_to control.after t.books.control_b pass (ControlCall.FastHeard key)) (stopped_accepts key _ is))

    tells : (y : Ask) → x ≡ y → Tells start.key_a start.key_b false (Facts u) y (reply_of six y)
    tells (Ask.Control s (ControlCall.Look path)) same = look_carries (Facts u Deed.Closed s) path (control_of s six) (λ named. rises Deed.Closed s (h.carries s named))
    tells (Ask.Control s (ControlCall.Fell path event)) same = fell_now s path event same
    tells (Ask.Control s (ControlCall.FastHeard key)) same = accepts_now s key same
    tells (Ask.Control s ControlCall.FastClose) same = tt
    tells _ same = tt

    -- what the books are then
    carries_on : (y : Ask) → x ≡ y → (s : Side) → is_some (control_of s (after_ask y six)).notices.carrier ≡ true → Facts u Deed.Closed s
    carries_on (Ask.Control A call) same A is = call_carries (Facts u Deed.Closed A) six.control_a call is (λ was. rises Deed.Closed A (h.carries A was)) (λ closes. g.closes A (same ∙ ap (λ c. Ask.Control A c) closes))
    carries_on (Ask.Control A call) same B is = rises Deed.Closed B (h.carries B is)
    carries_on (Ask.Control B call) same A is = rises Deed.Closed A (h.carries A is)
    carries_on (Ask.Control B call) same B is = call_carries (Facts u Deed.Closed B) six.control_b call is (λ was. rises Deed.Closed B (h.carries B was)) (λ closes. g.closes B (same ∙ ap (λ c. Ask.Control B c) closes))
    carries_on (Ask.Send A call) same s is = (elim s as (λ s. is_some (control_of s (after_ask (Ask.Send A call) six)).notices.carrier ≡ true → Facts u Deed.Closed s)
        [ A ↦ λ is. rises Deed.Closed A (h.carries A is) | B ↦ λ is. rises Deed.Closed B (h.carries B is) ]) is
    carries_on (Ask.Send B call) same s is = (elim s as (λ s. is_some (control_of s (after_ask (Ask.Send B call) six)).notices.carrier ≡ true → Facts u Deed.Closed s)
        [ A ↦ λ is. rises Deed.Closed A (h.carries A is) | B ↦ λ is. rises Deed.Closed B (h.carries B is) ]) is
    carries_on (Ask.Reassembly other call) same A is = rises Deed.Closed A (h.carries A is)
    carries_on (Ask.Reassembly other call) same B is = rises Deed.Closed B (h.carries B is)
    carries_on (Ask.Local step) same s is = rises Deed.Closed s (h.carries s is)

    aborted_on : (y : Ask) → x ≡ y → (s : Side) → (reassembly_of s (after_ask y six)).aborted ≡ Some true → Caused u s
    aborted_on (Ask.Reassembly A call) same A is = call_aborts (Caused u A) six.reassembly_a call is (λ was. caused A (h.aborted A was)) (λ aborts. g.aborts A (same ∙ ap (λ c. Ask.Reassembly A c) aborts))
    aborted_on (Ask.Reassembly A call) same B is = caused B (h.aborted B is)
    aborted_on (Ask.Reassembly B call) same A is = caused A (h.aborted A is)
    aborted_on (Ask.Reassembly B call) same B is = call_aborts (Caused u B) six.reassembly_b call is (λ was. caused B (h.aborted B was)) (λ aborts. g.aborts B (same ∙ ap (λ c. Ask.Reassembly B c) aborts))
    aborted_on (Ask.Send other call) same A is = caused A (h.aborted A is)
    aborted_on (Ask.Send other call) same B is = caused B (h.aborted B is)
    aborted_on (Ask.Control other call) same A is = caused A (h.aborted A is)
    aborted_on (Ask.Control other call) same B is = caused B (h.aborted B is)
    aborted_on (Ask.Local step) same s is = caused s (h.aborted s is)

    path_on : (p : PathState Carried) → Knows t p → Knows u p
    path_on p knows = subst (λ (y : SixBooks). PathKnows start.key_a start.key_b false (Facts u) y p) (sym six_is) (path_more start.key_a start.key_b false (Facts t) (Facts u) rises six x p knows)

    goes_on : Every (λ y. Knows u y.path) u.paths → BooksAre start.key_a start.key_b false (after_ask x six) → ((s : Side) → was_told tells_abort (seat_of s u).list ≡ true → Caused u s) → Causes u
    goes_on paths books told = record {
      paths = paths;
      books = subst (BooksAre start.key_a start.key_b false) (sym six_is) books;
      carries = λ s is. carries_on x refl s (subst (λ (y : SixBooks). is_some (control_of s y).notices.carrier ≡ true) six_is is);
      aborted = λ s is. aborted_on x refl s (subst (λ (y : SixBooks). (reassembly_of s y).aborted ≡ Some true) six_is is);
      told = told;
    }

  -- ---- a step of an application

  asks_closes : (s : Side) (x : Ask) → x ≡ Ask.Control s ControlCall.FastClose → asks_fast_close s x ≡ true
  asks_closes = elim [ A ↦ λ x same. ap (asks_fast_close A) same | B ↦ λ x same. ap (asks_fast_close B) same ]

  other_closes : (P : Type 0) (s own : Side) (d : AppDuty) (a : AppState) → a.side ≡ own → app_ask d a ≡ Ask.Control s ControlCall.FastClose → (s ≡ own → P) → P
  other_closes P s own AppDuty.FastClose a side same is = is (sym (ap side_asked same) ∙ side)
    where
      side_asked : Ask → Side
      side_asked (Ask.Control t call) = t
      side_asked (Ask.Send t call) = t
      side_asked (Ask.Reassembly t call) = t
      side_asked (Ask.Local step) = A
  other_closes P s own AppDuty.AbortSend a side same is = cc
  other_closes P s own AppDuty.AbortReceive a side same is = cc
  other_closes P s own AppDuty.Write a side same is = cc
  other_closes P s own AppDuty.Close a side same is = cc
  other_closes P s own AppDuty.Read a side same is = cc
  other_closes P s own AppDuty.End a side same is = cc

  never_aborts : (P : Type 0) (s : Side) (d : AppDuty) (a : AppState) → app_ask d a ≡ Ask.Reassembly s (ReassemblyCall.Abort true) → P
  never_aborts P s AppDuty.FastClose a same = cc
  never_aborts P s AppDuty.AbortSend a same = cc
  never_aborts P s AppDuty.AbortReceive a same = absurd (false≢true (ap by_peer same))
    where
      by_peer : Ask → Bool
      by_peer (Ask.Reassembly t (ReassemblyCall.Abort told)) = told
      by_peer _ = false
  never_aborts P s AppDuty.Write a same = cc
  never_aborts P s AppDuty.Close a same = cc
  never_aborts P s AppDuty.Read a same = cc
  never_aborts P s AppDuty.End a same = cc

  by_a : (t : Cast Carried) → Fare start t → (d : AppDuty) (ds : List AppDuty) → t.a.agenda ≡ d ∷ ds → Causes t → Causes (after_a (app_ask d t.a) t)
  by_a t f d ds is h =
      goes_on x t.at_a.pass t u goes h (record { each = λ i y there. path_on x t.at_a.pass t u goes h y.path (h.paths.each i y there) })
      (ask_keeps start.key_a start.key_b false NoMore (books_in t.books) x (app_asks_are start.key_a start.key_b false (books_in t.books) d t.a) h.books) told
    where
      x : Ask
      x = app_ask d t.a

      u : Cast Carried
      u = after_a x t

      note : Note
      note = note_of t.books t.at_a.pass x

      closed : (s : Side) → Facts t Deed.Closed s → Facts u Deed.Closed s
      closed A is = any_more (note_asks_fast_close A) t.at_a.list (note ∷ []) is
      closed B is = is

      own : x ≡ Ask.Control A ControlCall.FastClose → Facts u Deed.Closed A
      own same = any_last (note_asks_fast_close A) t.at_a.list note (asks_closes A x same)

      goes : Goes x t.at_a.pass t u
      goes = record {
        books = refl;
        closed = closed;
        closes = λ s same. other_closes (Facts u Deed.Closed s) s A d t.a f.a.side_is same (λ side. subst (Facts u Deed.Closed) (sym side) (own (same ∙ ap (λ y. Ask.Control y ControlCall.FastClose) side)));
        aborts = λ s same. never_aborts (Caused u s) s d t.a same;
      }

      told : (s : Side) → was_told tells_abort (seat_of s u).list ≡ true → Caused u s
      told A is =
          any_pushed (Caused u A) (note_tells tells_abort) t.at_a.list note is (λ was. caused x t.at_a.pass t u goes h A (h.told A was))
          (λ now. caused x t.at_a.pass t u goes h A (h.aborted A (subst (λ y. (reassembly_of y (books_in t.books)).aborted ≡ Some true) f.a.side_is (told_so (books_in t.books) t.a d now))))
      told B is = caused x t.at_a.pass t u goes h B (h.told B is)

  by_b : (t : Cast Carried) → Fare start t → (d : AppDuty) (ds : List AppDuty) → t.b.agenda ≡ d ∷ ds → Causes t → Causes (after_b (app_ask d t.b) t)
  by_b t f d ds is h =
      goes_on x t.at_b.pass t u goes h (record { each = λ i y there. path_on x t.at_b.pass t u goes h y.path (h.paths.each i y there) })
      (ask_keeps start.key_a start.key_b false NoMore (books_in t.books) x (app_asks_are start.key_a start.key_b false (books_in t.books) d t.b) h.books) told
    where
      x : Ask
      x = app_ask d t.b

      u : Cast Carried
      u = after_b x t

      note : Note
      note = note_of t.books t.at_b.pass x

      closed : (s : Side) → Facts t Deed.Closed s → Facts u Deed.Closed s
      closed A is = is
      closed B is = any_more (note_asks_fast_close B) t.at_b.list (note ∷ []) is

      own : x ≡ Ask.Control B ControlCall.FastClose → Facts u Deed.Closed B
      own same = any_last (note_asks_fast_close B) t.at_b.list note (asks_closes B x same)

      goes : Goes x t.at_b.pass t u
      goes = record {
        books = refl;
        closed = closed;
        closes = λ s same. other_closes (Facts u Deed.Closed s) s B d t.b f.b.side_is same (λ side. subst (Facts u Deed.Closed) (sym side) (own (same ∙ ap (λ y. Ask.Control y ControlCall.FastClose) side)));
        aborts = λ s same. never_aborts (Caused u s) s d t.b same;
      }

      told : (s : Side) → was_told tells_abort (seat_of s u).list ≡ true → Caused u s
      told A is = caused x t.at_b.pass t u goes h A (h.told A is)
      told B is =
          any_pushed (Caused u B) (note_tells tells_abort) t.at_b.list note is (λ was. caused x t.at_b.pass t u goes h B (h.told B was))
          (λ now. caused x t.at_b.pass t u goes h B (h.aborted B (subst (λ y. (reassembly_of y (books_in t.books)).aborted ≡ Some true) f.b.side_is (told_so (books_in t.books) t.b d now))))

  -- ---- a step of a path

  by_path : (t : Cast Carried) → Fare start t → (number : ℕ) (w : Walker Carried) → slice_get t.paths number ≡ Some w → (d : Duty) (ds : List Duty) → w.path.agenda ≡ d ∷ ds → Causes t
      → Causes (after_path values number w (ask_for values d w.path) t)
  by_path t f number w there d ds is h =
      goes_on x w.at.pass t u goes h
      (Every-put number (walked values x t.books w) taken (record { each = λ i y at. path_on x w.at.pass t u goes h y.path (h.paths.each i y at) }))
      (ask_keeps start.key_a start.key_b false (Facts t) (books_in t.books) x so h.books) told
    where
      x : Ask
      x = ask_for values d w.path

      u : Cast Carried
      u = after_path values number w x t

      knows : Knows t w.path
      knows = h.paths.each number w there

      so : AsksFor start.key_a start.key_b false (Facts t) (books_in t.books) x
      so = path_asks start.key_a start.key_b false (Facts t) (books_in t.books) d ds w.path is knows

      closed : (s : Side) → Facts t Deed.Closed s → Facts u Deed.Closed s
      closed = elim [ A ↦ λ is. is | B ↦ λ is. is ]

      stopped : (s : Side) → Facts t Deed.Stopped s → Facts u Deed.Stopped s
      stopped s is = accepts_more x w.at.pass t.books s is

      aborts : (s : Side) → x ≡ Ask.Reassembly s (ReassemblyCall.Abort true) → Caused u s
      aborts s same = let was = subst (AsksFor start.key_a start.key_b false (Facts t) (books_in t.books)) same so refl in (stopped s was.0, closed (peer s) was.1)

      goes : Goes x w.at.pass t u
      goes = record {
        books = refl;
        closed = closed;
        closes = λ s same. closed s (subst (AsksFor start.key_a start.key_b false (Facts t) (books_in t.books)) same so);
        aborts = aborts;
      }

      taken : Knows u (walked values x t.books w).path
      taken =
          subst (λ (y : SixBooks). PathKnows start.key_a start.key_b false (Facts u) y (walked values x t.books w).path) (sym (six_is x w.at.pass t u goes h))
          (path_takes start.key_a start.key_b false (Facts t) (Facts u) (rises x w.at.pass t u goes h) (books_in t.books) x w.path (ap (λ xs. asks_first values xs w.path) is)
          (tells x w.at.pass t u goes h x refl) (λ right. absurd (false≢true right)) h.books knows)

      told : (s : Side) → was_told tells_abort (seat_of s u).list ≡ true → Caused u s
      told A is = caused x w.at.pass t u goes h A (h.told A is)
      told B is = caused x w.at.pass t u goes h B (h.told B is)

  -- a round leaves all this
  begins_on : (t : Cast Carried) → Fare start t → Causes t → Causes (next_cast t)
  begins_on t f h = record { paths = record { each = each }; books = h.books; carries = carries; aborted = aborted; told = told }
    where
      facts : (d : Deed) (s : Side) → Facts t d s → Facts (next_cast t) d s
      facts Deed.Fell s is = is
      facts Deed.Closed A is = is
      facts Deed.Closed B is = is
      facts Deed.Stopped s is = is
      facts Deed.Keyed s is = tt

      both : (s : Side) → Caused t s → Caused (next_cast t) s
      both s is = (facts Deed.Stopped s is.0, facts Deed.Closed (peer s) is.1)

      carries : (s : Side) → is_some (control_of s (books_in t.books)).notices.carrier ≡ true → Facts (next_cast t) Deed.Closed s
      carries s is = facts Deed.Closed s (h.carries s is)

      aborted : (s : Side) → (reassembly_of s (books_in t.books)).aborted ≡ Some true → Caused (next_cast t) s
      aborted s is = both s (h.aborted s is)

      told : (s : Side) → was_told tells_abort (seat_of s (next_cast t)).list ≡ true → Caused (next_cast t) s
      told = elim [ A ↦ λ is. both A (h.told A is) | B ↦ λ is. both B (h.told B is) ]

      each : (i : ℕ) (x : Walker Carried) → slice_get (next_cast t).paths i ≡ Some x → Knows (next_cast t) x.path
      each i x there =
          let found = in_map (walks_on (greatest 0 (world_of t).crew)) t.paths i x there in
          subst (λ y. Knows (next_cast t) y.path) found.2
          (path_next start.key_a start.key_b false (Facts (next_cast t)) (books_in t.books) found.0.path
          (path_same start.key_a start.key_b false (Facts t) (Facts (next_cast t)) facts (books_in t.books) found.0.path (h.paths.each i found.0 found.1)))

  opened_causes : Causes (first_cast start)
  opened_causes = record {
    paths = record {
      each = λ i x there.
          let found = walker_there start 0 i i start.paths x (omega arith) there in
          subst (λ y. Knows (first_cast start) y.path) (sym found.2) (opened_path (Facts (first_cast start)) false start i found.0);
    };
    books = opened_books_are false start;
    carries = carries;
    aborted = aborted;
    told = told;
  }
    where
      carries : (s : Side) → is_some (control_of s (books_in (first_cast {C = Carried} start).books)).notices.carrier ≡ true → Facts (first_cast start) Deed.Closed s
      carries = elim [ A ↦ λ is. absurd (false≢true is) | B ↦ λ is. absurd (false≢true is) ]

      aborted : (s : Side) → (reassembly_of s (books_in (first_cast {C = Carried} start).books)).aborted ≡ Some true → Caused (first_cast start) s
      aborted = elim [ A ↦ λ is. cc | B ↦ λ is. cc ]

      told : (s : Side) → was_told tells_abort (seat_of s (first_cast start)).list ≡ true → Caused (first_cast start) s
      told = elim [ A ↦ λ is. absurd (false≢true is) | B ↦ λ is. absurd (false≢true is) ]

  pub run_causes : (turns : List Turn) → Has start Causes (world_run values turns (opened_world start))
  run_causes turns =
      turns_have values start Causes (record { a = by_a; b = by_b; path = by_path }) begins_on turns (opened_world start)
      (record { cast = first_cast start; is = opened_is start; fare = first_fare start; holds = opened_causes })
