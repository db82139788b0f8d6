-- Once the reassembly book of a side is aborted, its reader is told that alone.
use Rattle.world_laws.proofs.Words.{◌≡◌, refl, sym, ◌∙◌, ap, subst, Bool, true, false, if◌then◌else◌, Option, Some, List, [], ◌∷◌, ◌++◌, is_some, append-nil}
use Rattle.world_laws.proofs.Words.{append_assoc, All-nil, All-head, All-tail, All-push, Side, A, B, ReassemblyCall, Arriving, ReassemblyReply, places_after}
use Rattle.world_laws.proofs.Words.{fin_clash, reading, after_reading, first_abort, Ask, Note, Reply, books_in, SixBooks, reassembly_of, reply_of, after_ask}
use Rattle.world_laws.proofs.Words.{pick, AppDuty, AppState, app_ask, bytes_in, AbortReceive, Codec, ask_for, Always, Start, opened_world, WorldState}
use Rattle.world_laws.proofs.Words.{world_run, note_of, arrived_at, notes_of, read_by, bytes_noted}
use Rattle.std.proofs.Common.{All}
use Rattle.reassembly_book.specs.Steps.{is_taken, after_call}
use Rattle.stream_apps.specs.declared.duty.AppDuty.TheVariants.{FastClose, AbortSend, Write, Close, Read, End}
use Rattle.world_laws.specs.Stopping.{TellsAbortAlone, AbortIsLast}
use Rattle.world_laws.proofs.Worlds.CastLifting.{Has, Stepwise, always_cast, turns_have}
use Rattle.world_laws.proofs.Worlds.Casts.{Cast, Fare, Seat, world_of, seat_after, next_cast}
use Rattle.world_laws.proofs.Weaving.Journals.{books_after}

-- ---- the book

-- an aborted book stays so, by the same side
call_aborted : (by_peer : Bool) (b : Arriving) (call : ReassemblyCall) → b.aborted ≡ Some by_peer → (after_call b call).aborted ≡ Some by_peer
call_aborted by_peer b (ReassemblyCall.Place at bytes) is = elim (is_taken at bytes b) as (λ c. (if c then record b { places = places_after at bytes b } else b).aborted ≡ Some by_peer)
    [ true ↦ is | false ↦ is ]
call_aborted by_peer b (ReassemblyCall.Fin at) is = elim (is_some (fin_clash b.known_end at b)) as (λ c. (if c then b else record b { known_end = Some at }).aborted ≡ Some by_peer)
    [ true ↦ is | false ↦ is ]
call_aborted by_peer b (ReassemblyCall.Read max) is = elim (is_some b.aborted) as (λ c. (if c then b else after_reading max b).aborted ≡ Some by_peer)
    [ true ↦ is | false ↦ is ]
call_aborted by_peer b ReassemblyCall.AckOut is = is
call_aborted by_peer b (ReassemblyCall.Abort other) is = ap (λ o. first_abort o other) is

ask_aborted : (by_peer : Bool) (s : Side) (six : SixBooks) (ask : Ask) → (reassembly_of s six).aborted ≡ Some by_peer → (reassembly_of s (after_ask ask six)).aborted ≡ Some by_peer
ask_aborted by_peer A six (Ask.Reassembly A call) is = call_aborted by_peer six.reassembly_a call is
ask_aborted by_peer A six (Ask.Reassembly B call) is = is
ask_aborted by_peer B six (Ask.Reassembly A call) is = is
ask_aborted by_peer B six (Ask.Reassembly B call) is = call_aborted by_peer six.reassembly_b call is
ask_aborted by_peer A six (Ask.Send A call) is = is
ask_aborted by_peer A six (Ask.Send B call) is = is
ask_aborted by_peer B six (Ask.Send A call) is = is
ask_aborted by_peer B six (Ask.Send B call) is = is
ask_aborted by_peer A six (Ask.Control A call) is = is
ask_aborted by_peer A six (Ask.Control B call) is = is
ask_aborted by_peer B six (Ask.Control A call) is = is
ask_aborted by_peer B six (Ask.Control B call) is = is
ask_aborted by_peer s six (Ask.Local step) is = is

-- ---- the reader

-- what the application of the side is answered
app_told : (by_peer : Bool) (six : SixBooks) (a : AppState) (d : AppDuty) → (reassembly_of a.side six).aborted ≡ Some by_peer → TellsAbortAlone by_peer (reply_of six (app_ask d a))
app_told by_peer six a FastClose is = elim a.side as (λ s. TellsAbortAlone by_peer (reply_of six (app_ask FastClose (record a { side = s })))) [ A ↦ tt | B ↦ tt ]
app_told by_peer six a AbortSend is = elim a.side as (λ s. TellsAbortAlone by_peer (reply_of six (app_ask AbortSend (record a { side = s })))) [ A ↦ tt | B ↦ tt ]
app_told by_peer six a AbortReceive is = elim a.side as (λ s. TellsAbortAlone by_peer (reply_of six (app_ask AbortReceive (record a { side = s })))) [ A ↦ tt | B ↦ tt ]
app_told by_peer six a Write is = elim a.side as (λ s. TellsAbortAlone by_peer (reply_of six (app_ask Write (record a { side = s })))) [ A ↦ tt | B ↦ tt ]
app_told by_peer six a Close is = elim a.side as (λ s. TellsAbortAlone by_peer (reply_of six (app_ask Close (record a { side = s })))) [ A ↦ tt | B ↦ tt ]
app_told by_peer six a Read is = (elim a.side as (λ s. (reassembly_of s six).aborted ≡ Some by_peer → TellsAbortAlone by_peer (reply_of six (app_ask Read (record a { side = s }))))
    [ A ↦ λ is. told six.reassembly_a is | B ↦ λ is. told six.reassembly_b is ]) is
  where
    told : (b : Arriving) → b.aborted ≡ Some by_peer → TellsAbortAlone by_peer (Reply.Reassembly (reading b.aborted 65536 b))
    told b none = subst (λ (o : Option Bool). TellsAbortAlone by_peer (Reply.Reassembly (reading o 65536 b))) (sym none) refl
app_told by_peer six a End is = tt

-- such answers bring no byte
nothing_came : (by_peer : Bool) (r : Reply) → TellsAbortAlone by_peer r → bytes_in r ≡ []
nothing_came by_peer (Reply.Reassembly (ReassemblyReply.Bytes bytes)) told = absurd told
nothing_came by_peer _ told = refl

nothing_read : (by_peer : Bool) (steps : List Note) → All (λ n. TellsAbortAlone by_peer n.reply) steps → read_by steps ≡ []
nothing_read by_peer [] told = refl
nothing_read by_peer (n ∷ steps) told =
    ap (λ xs. xs ++ read_by steps) (nothing_came by_peer n.reply (All-head (λ m. TellsAbortAlone by_peer m.reply) n steps told))
    ∙ nothing_read by_peer steps (All-tail (λ m. TellsAbortAlone by_peer m.reply) n steps told)

read_before : (before steps : List Note) → read_by steps ≡ [] → read_by (before ++ steps) ≡ read_by before
read_before [] steps none = none
read_before (n ∷ before) steps none = ap (λ xs. bytes_noted n ++ xs) (read_before before steps none)

-- ---- worlds

abbrev seat_of : {C : Type 0} → Side → Cast C → Seat
seat_of s t = pick s t.at_a t.at_b

-- the reader's steps since these
record Hears {C : Type 0} (s : Side) (by_peer : Bool) (before : List Note) (t : Cast C) : Type 0 where
  aborted : (reassembly_of s (books_in t.books)).aborted ≡ Some by_peer
  steps : List Note
  list_is : (seat_of s t).list ≡ before ++ steps
  told : All (λ n. TellsAbortAlone by_peer n.reply) steps

module _ {C : Type 0} (k : Codec C) (start : Start) (by_peer : Bool) (before : List Note) where
  -- one step more
  hears_more : (s : Side) (ask : Ask) (seat : Seat) (t u : Cast C) (h : Hears s by_peer before t) → seat_of s t ≡ seat → seat_of s u ≡ seat_after ask t.books seat
      → books_in u.books ≡ after_ask ask (books_in t.books) → TellsAbortAlone by_peer (reply_of (books_in t.books) ask) → Hears s by_peer before u
  hears_more s ask seat t u h was now books tells = record {
    aborted = subst (λ (six : SixBooks). (reassembly_of s six).aborted ≡ Some by_peer) (sym books) (ask_aborted by_peer s (books_in t.books) ask h.aborted);
    steps = h.steps ++ note_of t.books seat.pass ask ∷ [];
    list_is = ap (λ x. x.list) now ∙ ap (λ xs. xs ++ note_of t.books seat.pass ask ∷ []) (ap (λ x. x.list) (sym was) ∙ h.list_is)
        ∙ append_assoc before h.steps (note_of t.books seat.pass ask ∷ []);
    told = All-push (λ n. TellsAbortAlone by_peer n.reply) h.steps (note_of t.books seat.pass ask) h.told tells;
  }

  -- a step of another actor
  hears_on : (s : Side) (ask : Ask) (t u : Cast C) (h : Hears s by_peer before t) → seat_of s u ≡ seat_of s t → books_in u.books ≡ after_ask ask (books_in t.books) → Hears s by_peer before u
  hears_on s ask t u h same books = record {
    aborted = subst (λ (six : SixBooks). (reassembly_of s six).aborted ≡ Some by_peer) (sym books) (ask_aborted by_peer s (books_in t.books) ask h.aborted);
    steps = h.steps;
    list_is = ap (λ x. x.list) same ∙ h.list_is;
    told = h.told;
  }

  stepwise : (s : Side) → Stepwise k start (Hears s by_peer before)
  stepwise A = record {
    a = λ t f d ds is h. hears_more A (app_ask d t.a) t.at_a t _ h refl refl (books_after (app_ask d t.a) t.at_a.pass t.books)
        (app_told by_peer (books_in t.books) t.a d (subst (λ s. (reassembly_of s (books_in t.books)).aborted ≡ Some by_peer) (sym f.a.side_is) h.aborted));
    b = λ t f d ds is h. hears_on A (app_ask d t.b) t _ h refl (books_after (app_ask d t.b) t.at_b.pass t.books);
    path = λ t f number x there d ds is h. hears_on A (ask_for k d x.path) t _ h refl (books_after (ask_for k d x.path) x.at.pass t.books);
  }
  stepwise B = record {
    a = λ t f d ds is h. hears_on B (app_ask d t.a) t _ h refl (books_after (app_ask d t.a) t.at_a.pass t.books);
    b = λ t f d ds is h. hears_more B (app_ask d t.b) t.at_b t _ h refl refl (books_after (app_ask d t.b) t.at_b.pass t.books)
        (app_told by_peer (books_in t.books) t.b d (subst (λ s. (reassembly_of s (books_in t.books)).aborted ≡ Some by_peer) (sym f.b.side_is) h.aborted));
    path = λ t f number x there d ds is h. hears_on B (ask_for k d x.path) t _ h refl (books_after (ask_for k d x.path) x.at.pass t.books);
  }

  -- a round leaves all this
  begins_on : (s : Side) (t : Cast C) → Fare start t → Hears s by_peer before t → Hears s by_peer before (next_cast t)
  begins_on A t f h = record { aborted = h.aborted; steps = h.steps; list_is = h.list_is; told = h.told }
  begins_on B t f h = record { aborted = h.aborted; steps = h.steps; list_is = h.list_is; told = h.told }

notes_at_seat : {C : Type 0} (s : Side) (t : Cast C) → notes_of s (world_of t).crew ≡ (seat_of s t).list
notes_at_seat A t = refl
notes_at_seat B t = refl

pub abort_is_last : {C : Type 0} (k : Codec C) → Always k (λ start w. AbortIsLast k w)
abort_is_last {C} k start turns s by_peer aborted more =
    let w : WorldState C = world_run k turns (opened_world start) in
    let now = always_cast k start turns in
    let before = notes_of s w.crew in
    let begun : Has start (Hears s by_peer before) w = record {
      cast = now.cast;
      is = now.is;
      fare = now.fare;
      holds = record {
        aborted = subst (λ (v : WorldState C). (arrived_at s v).aborted ≡ Some by_peer) now.is aborted;
        steps = [];
        list_is = sym (append-nil before ∙ ap (λ (v : WorldState C). notes_of s v.crew) now.is ∙ notes_at_seat s now.cast);
        told = All-nil (λ n. TellsAbortAlone by_peer n.reply);
      };
    } in
    let later = turns_have k start (Hears s by_peer before) (stepwise k start by_peer before s) (begins_on k start by_peer before s) more w begun in
    let list_is : notes_of s (world_run k more w).crew ≡ before ++ later.holds.steps =
    ap (λ (v : WorldState C). notes_of s v.crew) later.is ∙ notes_at_seat s later.cast ∙ later.holds.list_is in
    record {
      aborted = subst (λ (v : WorldState C). (arrived_at s v).aborted ≡ Some by_peer) (sym later.is) later.holds.aborted;
      steps = later.holds.steps;
      list_is = list_is;
      told = later.holds.told;
      read = ap read_by list_is ∙ read_before before later.holds.steps (nothing_read by_peer later.holds.steps later.holds.told);
    }
