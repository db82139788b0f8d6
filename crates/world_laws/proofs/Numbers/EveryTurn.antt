-- Every turn of the world leaves the numbers that its path tells small, and so each copy that arrives is fresh.
--
-- Small numbers (`proofs/Numbers`) are an invariant beside the one of the lanes: a predicate on each end and each copy
-- (`EndTells`, `SegmentTells`), with a lemma a rule, and the same dispatch, settling and events. What a reply brings is
-- bounded by the lane after the call (`LaneIsShort` of `after_holds`), so nothing is said of marks. Over the world it
-- is a predicate on actors by cases, so that what the next one takes is read off `slice_get`
-- (`proofs/Numbers/EveryTurn`).
use Rattle.world_laws.proofs.Words.{◌≡◌, refl, sym, ◌∙◌, ap, subst, ℕ, zero, suc, ◌+◌, ◌-◌, ◌≤◌, ⊎_elim, Bool, true, false, if◌then◌else◌, Option, Some, None}
use Rattle.world_laws.proofs.Words.{List, [], ◌∷◌, ◌++◌, length, map, arith, is_some, ◌<◌, ◌^◌, and_parts, length-append, same_Some, slice_get_within}
use Rattle.world_laws.proofs.Words.{slice_get, list_all, IfSome, Side, A, B, ReassemblyCall, Arriving, places_after, fin_clash, after_reading, Sending, Record}
use Rattle.world_laws.proofs.Words.{is_unsent, EndPhase, new_end, arriving, start_of_turn, Duty, OwnNotice, first_of, Ask, books_in, SixBooks, send_of}
use Rattle.world_laws.proofs.Words.{reassembly_of, control_of, reply_of, after_ask, AppDuty, AppState, app_ask, app_asks_first, stands, ask_for, answered}
use Rattle.world_laws.proofs.Words.{opening_end, first_sends, first_state, first_turn, PathState, end_at, with_agenda, settles_down, answers, asks_first, takes}
use Rattle.world_laws.proofs.Words.{next_round, FirstStands, IsSettled, Carried, values, expected_by, first_unsent, first_record, HasAddress, Profile}
use Rattle.world_laws.proofs.Words.{IsFreshCopy, NextIsFresh, CanBeAltered, SentCanBeAltered, in_map, Every-nil, in_set, Every, From, Duo, after_events, Holds}
use Rattle.world_laws.proofs.Words.{Lane, any_held, Reader, App, Path, Actor, ActorCrew, PathPlan, Start, path_begins, opened_world, WorldState, Turn, asked}
use Rattle.world_laws.proofs.Words.{all_over, greatest, begins, end_round, after_turn, world_run, HasRoom, NumbersFit, EveryListIsFresh, IsFreshCrew}
use Rattle.world_laws.proofs.Words.{IsFreshTurn, AreFresh, IsFreshPath}
use Rattle.std.specs.Option.{option_map}
use Rattle.reassembly_book.specs.Steps.{is_taken, after_call}
use Rattle.subflow_tcp.specs.declared.handshake.State.TheVariants.{Listen}
use Rattle.path_core.proofs.Sayable.{said_can}
use Rattle.world_laws.proofs.Worlds.Steady.{always_steady}
use Rattle.world_laws.proofs.Lanes.Applying.{Reads, Writes}
use Rattle.world_laws.proofs.Lanes.Beginning.{first_lane, waiting, six, waiting_shows, alone, alone_holds, turn_reached, opened_reached}
use Rattle.world_laws.proofs.Lanes.EveryTurn.{beside, beside_is, begun_path, fails_open, readied, readied_holds}
use Rattle.world_laws.proofs.Weaving.Journals.{books_after}
use Rattle.world_laws.proofs.Lanes.OfAWorld.{NoneIsFirm, free_duty, free_turn, anyhow_free, Carries, anyhow, duo_of, Others, duo_at, PathThere, WorldShows, PathIsSteady, IsSteady, first_duo, Reached}
use Rattle.world_laws.proofs.Worlds.Opened.{opened_actors}
use Rattle.world_laws.proofs.Lanes.Showing.{PathShows}
use Rattle.world_laws.proofs.Lanes.Sides.{Answered}
use Rattle.world_laws.proofs.Lanes.Stepping.{duty_step}
use Rattle.world_laws.proofs.Lanes.Records.{every_at, every_find, every_first}
use Rattle.world_laws.proofs.Numbers.TellSmall.{IsKey, IsNonce, EndTells, NoteTells, RecordTells, expected_from, expected_shortly, fresh_or_far, has_address}
use Rattle.world_laws.proofs.Numbers.Duties.{after_holds, duty_tells}
use Rattle.world_laws.proofs.Numbers.Events.{due_tells}
use Rattle.world_laws.proofs.Numbers.SettlingTells.{settled_tells}
use Rattle.world_laws.proofs.Numbers.PathSteps.{CopyTells, is_fair, AreFair, PathTells, ControlIsShort, BooksAreShort, tells_at}
use Rattle.world_laws.proofs.Numbers.IdsFit.{opening_fits}
use Rattle.world_laws.proofs.Numbers.KeysFit.{AskTells, BooksKeepShort, kept_at, ask_short, asks_tell}
use Rattle.world_laws.proofs.Worlds.CastLifting.{each_actor, path_actor}
use Rattle.world_laws.proofs.Worlds.Casts.{Walker, Cast, Fare, world_of, walking, seated, walked, map_there, after_a, after_b, after_path, path_asked, path_stepped, path_step_is, fare_after_path, walks_on, next_cast, next_is}
use Rattle.world_laws.proofs.Lanes.Saying.{every_one}

-- ---- the room of a reassembly book never changes

call_room : (b : Arriving) (call : ReassemblyCall) → (after_call b call).capacity ≡ b.capacity
call_room b (ReassemblyCall.Place at bytes) = elim (is_taken at bytes b) as (λ c. (if c then record b { places = places_after at bytes b } else b).capacity ≡ b.capacity)
    [ true ↦ refl | false ↦ refl ]
call_room b (ReassemblyCall.Fin at) = elim (is_some (fin_clash b.known_end at b)) as (λ c. (if c then b else record b { known_end = Some at }).capacity ≡ b.capacity)
    [ true ↦ refl | false ↦ refl ]
call_room b (ReassemblyCall.Read most) = elim (is_some b.aborted) as (λ c. (if c then b else after_reading most b).capacity ≡ b.capacity) [ true ↦ refl | false ↦ refl ]
call_room b ReassemblyCall.AckOut = refl
call_room b (ReassemblyCall.Abort by_peer) = refl

record RoomsAre (n : ℕ) (books : SixBooks) : Type 0 where
  a : books.reassembly_a.capacity ≡ n
  b : books.reassembly_b.capacity ≡ n

ask_rooms : (n : ℕ) (ask : Ask) (books : SixBooks) → RoomsAre n books → RoomsAre n (after_ask ask books)
ask_rooms n (Ask.Reassembly A call) books h = record { a = call_room books.reassembly_a call ∙ h.a; b = h.b }
ask_rooms n (Ask.Reassembly B call) books h = record { a = h.a; b = call_room books.reassembly_b call ∙ h.b }
ask_rooms n (Ask.Send s call) books h = record { a = h.a; b = h.b }
ask_rooms n (Ask.Control s call) books h = record { a = h.a; b = h.b }
ask_rooms n (Ask.Local step) books h = h

-- ---- books of short files

file_short : (file rest : List ℕ) (b : Sending) → length file < 2 ^ 31 - 2 → Writes file rest b → length b.written + 3 ≤ 2 ^ 31
file_short file rest b short w =
    let l : length file ≡ length (b.written ++ rest) = ap (λ (xs : List ℕ). length xs) w.prefix in
    let more = length-append b.written rest in
    omega (arith, short, l, more)

-- ---- a path that nothing happened to

opening_tells : (c : Profile) (s : Side) (state : EndPhase) (opens : Bool) (path own key nonce : ℕ) → IsKey key → IsNonce nonce
    → EndTells c s (opening_end (new_end state opens path own c.mss) key nonce)
opening_tells c s state opens path own key nonce is drawn = record {
  sender = record { next = omega arith; unacknowledged = omega arith; records = every_one _ (record { reaches = omega arith; octets = omega arith; mapped = tt }) };
  edge = omega arith;
  stream = record { heard = omega arith; known_end = tt };
  window = record { next = omega arith; window = omega arith };
  modes = record { own_key = is; peer_key = tt; own_nonce = drawn; peer_nonce = omega arith; failed_mapping = tt };
  treated = record { items = Every-nil _; answer = tt; acknowledged = omega arith; failed_mapping = tt };
  notices = record { carrier = tt; queue = Every-nil _ };
}

-- ---- freshness of a path

path_fresh : (p : PathState Carried) → PathTells p.profile p → NextIsFresh p
path_fresh p h due flight next there = (elim (arriving due p.link) as (λ o. o ≡ Some flight → IfSome o (λ f. CopyTells p.profile due.to f.carried) → IsFreshCopy p due.to flight.carried)
    [ None ↦ λ is tells. cc | Some f ↦ λ is tells. fresh (subst (λ x. CopyTells p.profile due.to x.carried) (same_Some f flight is) tells) ]) there (due_tells p.profile p h due)
  where
    fresh : CopyTells p.profile due.to flight.carried → IsFreshCopy p due.to flight.carried
    fresh tells =
        let end = expected_shortly p.profile due.to (end_at due.to p) (tells_at p.profile p h due.to) in
        record {
          from = tells.from;
          sayable = tells.segment.sayable;
          expected = expected_from (expected_by (end_at due.to p)) end;
          fresh = fresh_or_far p.profile _ (expected_by (end_at due.to p)) flight.carried.segment tells.segment end;
        }

-- each segment that it sends can be said
sent_said : (p : PathState Carried) → PathTells p.profile p → p.profile.spelling.path ≤ 15 → SentCanBeAltered p
sent_said p h path = elim (first_sends p.agenda p) as (λ o. IfSome o (CanBeAltered p)) [
  | None ↦ tt
  | Some t ↦ λ altered. said_can p.profile t.from (end_at t.from p) path (tells t.from).window.window t.kind (noted (end_at t.from p).notices.queue (tells t.from).notices.queue) (unsent t.from) (first t.from)
]
  where
    tells : (s : Side) → EndTells p.profile s (end_at s p)
    tells s = tells_at p.profile p h s

    noted : (queue : List OwnNotice) → Every NoteTells queue → IfSome (first_of queue) HasAddress
    noted [] each = tt
    noted (notice ∷ queue) each = has_address notice (every_first notice queue each)

    fits : (s : Side) (o : Option Record) → IfSome o (RecordTells p.profile s) → IfSome o (λ r. length r.piece ≤ 65475)
    fits s None told = tt
    fits s (Some r) told = told.octets

    unsent : (s : Side) → IfSome (first_unsent (end_at s p)) (λ r. length r.piece ≤ 65475)
    unsent s = fits s (first_unsent (end_at s p)) (every_find is_unsent (end_at s p).tcp.send.records (tells s).sender.records)

    first : (s : Side) → IfSome (first_record (end_at s p)) (λ r. length r.piece ≤ 65475)
    first s = fits s (first_record (end_at s p)) (every_at 0 (end_at s p).tcp.send.records (tells s).sender.records)

-- ---- worlds

-- what its ends and its copies tell
abbrev pub TellsAt : Start → ℕ → PathState Carried → Type 0
TellsAt start number p = (plan : PathPlan) → slice_get start.paths number ≡ Some plan → PathTells (path_begins start number plan).profile p

abbrev pub MemberTells : Start → ℕ → Actor Carried → Type 0
MemberTells start number (App a) = Unit {0}
MemberTells start number (Path p) = TellsAt start number p

-- path i is the actor 2 + i
abbrev pub ActorTells : Start → ℕ → Actor Carried → Type 0
ActorTells start zero m = Unit {0}
ActorTells start (suc zero) m = Unit {0}
ActorTells start (suc (suc number)) m = MemberTells start number m

pub record WorldTells (start : Start) (w : WorldState Carried) : Type 0 where
  pub members : (actor : ℕ) (c : ActorCrew Carried) → slice_get w.crew actor ≡ Some c → ActorTells start actor c.member
  rooms : RoomsAre start.buffer (books_in w.books)
  keys : BooksKeepShort (books_in w.books)

from_cast : (start : Start) (t : Cast Carried) → ((number : ℕ) (x : Walker Carried) → slice_get t.paths number ≡ Some x → TellsAt start number x.path) → RoomsAre start.buffer (books_in t.books)
    → BooksKeepShort (books_in t.books) → WorldTells start (world_of t)
from_cast start t tells rooms keys = record { members = each_actor (λ actor c. ActorTells start actor c.member) t tt tt tells; rooms = rooms; keys = keys }

-- an application tells no key
app_tells : (d : AppDuty) (a : AppState) → AskTells (app_ask d a)
app_tells = elim [ AppDuty.FastClose ↦ λ a. tt | _ ↦ λ a. tt ]

module _ (start : Start) (plain : Carries start) (free : NoneIsFirm plain.links) (fit : NumbersFit start) where
  books_short : (t : Cast Carried) → Fare start t → RoomsAre start.buffer (books_in t.books) → BooksKeepShort (books_in t.books) → BooksAreShort (books_in t.books)
  books_short t fare rooms keys = record { written = written; room = room; control = kept_at (books_in t.books) keys }
    where
      written : (s : Side) → length (send_of s (books_in t.books)).written + 3 ≤ 2 ^ 31
      written A = file_short start.file_a t.a.rest (books_in t.books).send_a fit.short_a fare.a.writes
      written B = file_short start.file_b t.b.rest (books_in t.books).send_b fit.short_b fare.b.writes

      room : (s : Side) → (reassembly_of s (books_in t.books)).capacity ≤ 2 ^ 20
      room A = let same = rooms.a in let most = fit.buffer in omega (arith, same, most)
      room B = let same = rooms.b in let most = fit.buffer in omega (arith, same, most)

  module _ (t : Cast Carried) (fare : Fare start t) (settled_paths : Every (λ x. IsSettled x.path) t.paths) (lanes_ab lanes_ba : List Lane) (reader_a reader_b : Reader)
      (reads_a : Reads t.a.told t.at_a.list reader_a) (reads_b : Reads t.b.told t.at_b.list reader_b) (paths : From (λ n x. PathThere start lanes_ab lanes_ba n x.path) 0 t.paths)
      (steady : IsSteady (world_of t)) (holds : Holds (duo_of plain.links (books_in t.books) lanes_ab lanes_ba reader_a reader_b)) (tells : WorldTells start (world_of t)) where
    abbrev books : SixBooks
    books = books_in t.books

    short : (s : Side) → length (send_of s books).marks < 2 ^ 63
    short A = let most = steady.short A in let whole = holds.ab.send.whole in omega (arith, most, whole)
    short B = let most = steady.short B in let whole = holds.ba.send.whole in omega (arith, most, whole)

    later_rooms : (ask : Ask) → RoomsAre start.buffer (after_ask ask books)
    later_rooms ask = ask_rooms start.buffer ask books tells.rooms

    later_keys : (ask : Ask) → AskTells ask → BooksKeepShort (after_ask ask books)
    later_keys ask told = ask_short books ask told tells.keys

    tells_there : (number : ℕ) (x : Walker Carried) → slice_get t.paths number ≡ Some x → TellsAt start number x.path
    tells_there number x there = tells.members (suc (suc number)) (walking x) (path_actor t number x there)

    unmoved : WorldTells start (world_of t)
    unmoved = tells

    -- ---- a path

    module _ (number : ℕ) (x : Walker Carried) (there : slice_get t.paths number ≡ Some x) where
      abbrev p : PathState Carried
      p = x.path

      abbrev path : PathThere start lanes_ab lanes_ba number p
      path = paths.each number number x (omega arith) there

      abbrev others : Others
      others = beside start plain lanes_ab lanes_ba reader_a reader_b number path.ab path.ba path.ab_there path.ba_there

      at_holds : Holds (duo_at books path.ab path.ba others)
      at_holds = subst Holds (sym (beside_is start plain lanes_ab lanes_ba reader_a reader_b number path.ab path.ba path.ab_there path.ba_there books)) holds

      abbrev c : Profile
      c = (path_begins start number path.plan).profile

      profile : p.profile ≡ c
      profile = path.shows.profile

      own_tells : PathTells p.profile p
      own_tells = subst (λ d. PathTells d p) (sym profile) (tells_there number x there path.plan path.plan_there)

      path_steady : PathIsSteady books number p
      path_steady = steady.each number (walking x) (map_there walking t.paths number ∙ ap (option_map walking) there)

      -- the number of a path is below sixteen
      numbered : p.profile.spelling.path ≤ 15
      numbered =
          let below = slice_get_within start.paths number path.plan path.plan_there in let most = fit.paths in
          subst (λ d. d.spelling.path ≤ 15) (sym profile) (omega (arith, below, most))

      -- a path takes the reply to its first duty, and settles
      taken : (duty : Duty) (ds : List Duty) → p.agenda ≡ duty ∷ ds → PathTells p.profile (takes values (reply_of books (ask_for values duty p)) p)
      taken duty ds is =
          let ask = ask_for values duty p in
          let q = answered values duty (reply_of books ask) p in
          let first : stands duty p ≡ true = subst (λ xs. FirstStands xs p) is (settled_paths.each number x there) in
          let fair : AreFair (duty ∷ ds) = subst AreFair is own_tells.agenda in
          let size : 29 ≤ p.profile.mss = subst (λ d. 29 ≤ d.mss) (sym profile) (plain.size.each number path.plan path.plan_there) in
          let most : p.profile.mss ≤ 65503 = subst (λ d. d.mss ≤ 65503) (sym profile) (fit.size.each number path.plan path.plan_there) in
          let r = readied start plain t fare settled_paths lanes_ab lanes_ba reader_a reader_b reads_a reads_b paths steady holds number x there in
          let now : Others = others in
          let held : Holds (duo_at books r.ab r.ba now) = readied_holds start plain t fare settled_paths lanes_ab lanes_ba reader_a reader_b reads_a reads_b paths steady holds number x there in
          let a : Answered p.profile books now ask q r.ab r.ba =
          duty_step books now p r.ab r.ba r.shows held r.ready path.numbered size short duty first (path_steady.calm duty ds is) (path_steady.may duty ds is) (free_duty plain.links free books p duty)
          (fails_open start plain t fare settled_paths lanes_ab lanes_ba reader_a reader_b reads_a reads_b paths steady holds number x there duty (path_steady.fails duty ds is)) in
          let told : PathTells p.profile q =
          duty_tells books now p r.ab r.ba r.shows held r.ready path.numbered (books_short t fare tells.rooms tells.keys) numbered size most own_tells duty first (and_parts (is_fair duty) (list_all is_fair ds) fair).0 in
          let later : RoomsAre start.buffer (books_in (after_path values number x ask t).books) =
          subst (RoomsAre start.buffer) (sym (books_after ask x.at.pass t.books)) (later_rooms ask) in
          let later_short : BooksAreShort (after_ask ask books) =
          subst BooksAreShort (books_after ask x.at.pass t.books) (books_short (after_path values number x ask t) (fare_after_path values start t fare number x there duty) later
          (subst BooksKeepShort (sym (books_after ask x.at.pass t.books)) (later_keys ask (asks_tell p.profile p own_tells duty)))) in
          subst (PathTells p.profile) (sym (ap (λ xs. settles_down (answers values xs (reply_of books ask) p)) is))
          (settled_tells (after_ask ask books) now p.profile later_short q.agenda q a.after.ab_after a.after.ba_after a.after.shows
          (after_holds p.profile books now ask q r.ab r.ba a held) told told.agenda)

      -- a path begins a round
      begun_tells : PathTells p.profile (next_round p)
      begun_tells =
          settled_tells books others p.profile (books_short t fare tells.rooms tells.keys) start_of_turn (begun_path start plain p) path.ab path.ba
          (record { profile = refl; may = path.shows.may; a = shows.a; b = shows.b; copies = shows.copies }) at_holds
          (record { a = own_tells.a; b = own_tells.b; copies = own_tells.copies; agenda = refl }) refl
        where
          shows : PathShows p.profile p path.ab path.ba
          shows = subst (λ d. PathShows d p path.ab path.ba) (sym profile) path.shows

      -- by its plan
      planned : (q : PathState Carried) → PathTells p.profile q → TellsAt start number q
      planned q told plan at = subst (λ y. PathTells (path_begins start number y).profile q) (same_Some path.plan plan (sym path.plan_there ∙ at)) (subst (λ d. PathTells d q) profile told)

      path_fresh_now : IsFreshPath p
      path_fresh_now = record { next = path_fresh p own_tells; sent = sent_said p own_tells numbered }

    duty_told : (number : ℕ) (x : Walker Carried) → slice_get t.paths number ≡ Some x → (duty : Duty) (ds : List Duty) → x.path.agenda ≡ duty ∷ ds
        → WorldTells start (world_of (after_path values number x (ask_for values duty x.path) t))
    duty_told number x there duty ds is =
        let ask = ask_for values duty x.path in
        from_cast start (after_path values number x ask t)
        (λ n y at. ⊎_elim
        (λ same. subst (λ m. TellsAt start m y.path) (sym same.0) (subst (λ z. TellsAt start number z.path) same.1 (planned number x there _ (taken number x there duty ds is))))
        (λ other. tells_there n y other.1)
        (in_set t.paths number (walked values ask t.books x) n y at))
        (subst (RoomsAre start.buffer) (sym (books_after ask x.at.pass t.books)) (later_rooms ask))
        (subst BooksKeepShort (sym (books_after ask x.at.pass t.books)) (later_keys ask (asks_tell x.path.profile x.path (own_tells number x there) duty)))

    path_told : (number : ℕ) (x : Walker Carried) → slice_get t.paths number ≡ Some x → (ds : List Duty) → x.path.agenda ≡ ds → WorldTells start (path_asked values number x (asks_first values ds x.path) t)
    path_told number x there [] is = unmoved
    path_told number x there (duty ∷ ds) is = duty_told number x there duty ds is

    a_tells : (ds : List AppDuty) → WorldTells start (asked values 0 (app_asks_first ds t.a) (seated t.at_a (App t.a)) (world_of t))
    a_tells [] = unmoved
    a_tells (duty ∷ ds) =
        let ask = app_ask duty t.a in
        from_cast start (after_a ask t) tells_there (subst (RoomsAre start.buffer) (sym (books_after ask t.at_a.pass t.books)) (later_rooms ask))
        (subst BooksKeepShort (sym (books_after ask t.at_a.pass t.books)) (later_keys ask (app_tells duty t.a)))

    b_tells : (ds : List AppDuty) → WorldTells start (asked values 1 (app_asks_first ds t.b) (seated t.at_b (App t.b)) (world_of t))
    b_tells [] = unmoved
    b_tells (duty ∷ ds) =
        let ask = app_ask duty t.b in
        from_cast start (after_b ask t) tells_there (subst (RoomsAre start.buffer) (sym (books_after ask t.at_b.pass t.books)) (later_rooms ask))
        (subst BooksKeepShort (sym (books_after ask t.at_b.pass t.books)) (later_keys ask (app_tells duty t.b)))

    round_tells : WorldTells start (end_round (world_of t))
    round_tells =
        elim (all_over (world_of t).crew) as (λ over. WorldTells start (if over then record (world_of t) { crew = map (begins (greatest 0 (world_of t).crew)) (world_of t).crew } else world_of t))
        [ false ↦ unmoved | true ↦ subst (WorldTells start) (sym (next_is t)) (from_cast start (next_cast t) next tells.rooms tells.keys) ]
      where
        next : (n : ℕ) (y : Walker Carried) → slice_get (next_cast t).paths n ≡ Some y → TellsAt start n y.path
        next n y at =
            let found = in_map (walks_on (greatest 0 (world_of t).crew)) t.paths n y at in
            subst (λ z. TellsAt start n z.path) found.2 (planned n found.0 found.1 _ (begun_tells n found.0 found.1))

    turn_told : (turn : Turn) → WorldTells start (after_turn values turn (world_of t))
    turn_told (Turn.Step zero) = a_tells t.a.agenda
    turn_told (Turn.Step (suc zero)) = b_tells t.b.agenda
    turn_told (Turn.Step (suc (suc number))) = subst (WorldTells start) (sym (path_step_is values number t)) (by (slice_get t.paths number) refl)
      where
        by : (o : Option (Walker Carried)) → slice_get t.paths number ≡ o → WorldTells start (path_stepped values number o t)
        by None there = unmoved
        by (Some x) there = path_told number x there x.path.agenda refl
    turn_told Turn.Round = round_tells

    -- ---- what arrives

    turn_fresh : (turn : Turn) → IsFreshTurn turn (world_of t)
    turn_fresh (Turn.Step zero) = tt
    turn_fresh (Turn.Step (suc zero)) = tt
    turn_fresh (Turn.Step (suc (suc number))) = subst IsFreshCrew (sym (map_there walking t.paths number)) (by (slice_get t.paths number) refl)
      where
        by : (o : Option (Walker Carried)) → slice_get t.paths number ≡ o → IsFreshCrew (option_map walking o)
        by = elim [ None ↦ λ there. tt | Some x ↦ λ there. path_fresh_now number x there ]
    turn_fresh Turn.Round = tt

  -- ---- every list of turns

  record Going (turn : Turn) (w : WorldState Carried) : Type 0 where
    fresh : IsFreshTurn turn w
    tells : WorldTells start (after_turn values turn w)

  goes : (turn : Turn) (d : Duo) (w : WorldState Carried) → IsSteady w → Holds d → WorldShows plain.links start d w → WorldTells start w → Going turn w
  goes turn d w steady holds h tells =
      let t = h.cast in
      let here : WorldTells start (world_of t) = subst (WorldTells start) h.is tells in
      let held = subst Holds h.duo_is holds in
      let steadily = subst IsSteady h.is steady in
      subst (Going turn) (sym h.is) (record {
        fresh = turn_fresh t h.fare h.settled h.lanes_ab h.lanes_ba h.reader_a h.reader_b h.reads_a h.reads_b h.paths steadily held here turn;
        tells = turn_told t h.fare h.settled h.lanes_ab h.lanes_ba h.reader_a h.reader_b h.reads_a h.reads_b h.paths steadily held here turn;
      })

  run_fresh : (turns : List Turn) (w : WorldState Carried) → ((more : List Turn) → IsSteady (world_run values more w)) → Reached plain.links start w → WorldTells start w → AreFresh turns w
  run_fresh [] w steady r tells = tt
  run_fresh (turn ∷ turns) w steady r tells =
      let g : Going turn w = goes turn (after_events r.events (first_duo plain.links start)) w (steady []) (any_held plain.links.alters plain.links.checked (length start.paths) start.buffer start.buffer r.events) r.shows tells in
      (g.fresh, run_fresh turns (after_turn values turn w) (λ more. steady (turn ∷ more)) (turn_reached start plain turn w (free_turn plain.links free turn w) (steady []) r) g.tells)

  run_tells : (turns : List Turn) (w : WorldState Carried) → ((more : List Turn) → IsSteady (world_run values more w)) → Reached plain.links start w → WorldTells start w
      → WorldTells start (world_run values turns w)
  run_tells [] w steady r tells = tells
  run_tells (turn ∷ turns) w steady r tells =
      let g : Going turn w = goes turn (after_events r.events (first_duo plain.links start)) w (steady []) (any_held plain.links.alters plain.links.checked (length start.paths) start.buffer start.buffer r.events) r.shows tells in
      run_tells turns (after_turn values turn w) (λ more. steady (turn ∷ more)) (turn_reached start plain turn w (free_turn plain.links free turn w) (steady []) r) g.tells

  waiting_tells : (number : ℕ) (plan : PathPlan) → slice_get start.paths number ≡ Some plan → PathTells (path_begins start number plan).profile (with_agenda start_of_turn (waiting start plain number plan))
  waiting_tells number plan there = record {
    a = opening_tells (path_begins start number plan).profile A (first_state (path_begins start number plan).joined_at) true number plan.initial_a start.key_a plan.nonce_a fit.key_a (fit.nonces_a.each number plan there);
    b = opening_tells (path_begins start number plan).profile B Listen false number plan.initial_b start.key_b plan.nonce_b fit.key_b (fit.nonces_b.each number plan there);
    copies = Every-nil _;
    agenda = refl;
  }

  opened_short : BooksAreShort (six start plain)
  opened_short = record { written = written; room = room; control = control }
    where
      written : (s : Side) → length (send_of s (six start plain)).written + 3 ≤ 2 ^ 31
      written = elim [ A ↦ omega arith | B ↦ omega arith ]

      room : (s : Side) → (reassembly_of s (six start plain)).capacity ≤ 2 ^ 20
      room = elim [ A ↦ fit.buffer | B ↦ fit.buffer ]

      control : (s : Side) → ControlIsShort (control_of s (six start plain))
      control A = record { keys = record { own = fit.key_a; peer = tt }; ids = opening_fits A start.key_a }
      control B = record { keys = record { own = fit.key_b; peer = tt }; ids = opening_fits B start.key_b }

  -- a path settles its first turn, alone on its lanes
  first_tells : (number : ℕ) (plan : PathPlan) → slice_get start.paths number ≡ Some plan → PathTells (path_begins start number plan).profile (first_turn (path_begins start number plan) start.lines)
  first_tells number plan there =
      settled_tells (six start plain) (alone start plain number) (path_begins start number plan).profile opened_short start_of_turn (with_agenda start_of_turn (waiting start plain number plan))
      (first_lane plain.links number) (first_lane plain.links number) (waiting_shows start plain number plan) (alone_holds start plain number) (waiting_tells number plan there) refl

  opened_tells : WorldTells start (opened_world start)
  opened_tells = record {
    members = opened_actors (λ actor c. ActorTells start actor c.member) start tt tt
        (λ number plan there other at. subst (λ y. PathTells (path_begins start number y).profile (first_turn (path_begins start number plan) start.lines)) (same_Some plan other (sym there ∙ at)) (first_tells number plan there));
    rooms = record { a = refl; b = refl };
    keys = record {
      a = record { keys = record { own = fit.key_a; peer = tt }; ids = opening_fits A start.key_a };
      b = record { keys = record { own = fit.key_b; peer = tt }; ids = opening_fits B start.key_b };
    };
  }

pub every_list_is_fresh : EveryListIsFresh
every_list_is_fresh start turns size fit =
    let can = anyhow start size in
    let free = anyhow_free start size in
    run_fresh start can free fit turns (opened_world start) (always_steady start) (opened_reached start can) (opened_tells start can free fit)

-- what ends and copies tell at every moment
pub always_tells : (start : Start) (turns : List Turn) → HasRoom start → NumbersFit start → WorldTells start (world_run values turns (opened_world start))
always_tells start turns size fit =
    let can = anyhow start size in
    let free = anyhow_free start size in
    run_tells start can free fit turns (opened_world start) (always_steady start) (opened_reached start can) (opened_tells start can free fit)
