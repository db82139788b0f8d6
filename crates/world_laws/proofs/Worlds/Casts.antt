-- The world of two applications and the paths, and what is written in it.
--
-- A world of known actors: `Cast` says that a world is `world_of` a record with both applications, the list of the
-- paths and the books (`proofs/Worlds/Casts`). A step then is a step of an application, or that of the path at a place
-- of the list (`next_cast`), and what holds of the world is a record over the fields. An ask at the stamped books is
-- that call at the six books by `books_after` (`proofs/Weaving/Journals`).
use Rattle.world_laws.proofs.Words.{◌≡◌, refl, sym, ◌∙◌, ap, subst, ℕ, zero, suc, ◌+◌, not, ⊎_elim, true, false, Option, Some, None, List, [], ◌∷◌, ◌++◌, take}
use Rattle.world_laws.proofs.Words.{map, arith, set, and_parts, both_ways, false≢true, append-nil, same_Some, slice_get, Pass, raised, Side, A, B, SendCall}
use Rattle.world_laws.proofs.Words.{Sending, Duty, Ask, Note, Reply, StampedBooks, books_in, unasked, stamp_of, after_entry, SixBooks, send_of, reply_of}
use Rattle.world_laws.proofs.Words.{after_ask, opened_books, after_send_call, is_nil, AppDuty, AppState, fresh_turn, start_of_app, app_stands, app_ask}
use Rattle.world_laws.proofs.Words.{app_answered, app_answers, app_settled, app_settles_down, app_takes, app_next_round, IsAppSettled, FirstAppStands}
use Rattle.world_laws.proofs.Words.{untouched, first_app_turn, Codec, ask_for, waiting_path, first_turn, PathState, asks_first, takes, next_round, in_map}
use Rattle.world_laws.proofs.Words.{in_set, Every, App, Path, Actor, ActorCrew, WritesTheFile, PathPlan, Start, path_begins, new_crew, new_path, paths_from}
use Rattle.world_laws.proofs.Words.{opened_world, WorldState, asked, stepped, world_step, greatest, begins, note_of, answer_to}
use Rattle.std.specs.Option.{option_map}
use Rattle.stamped_book.specs.declared.stamped.Refusal.{Refusal}
use Rattle.send_book.specs.Steps.{after_call}
use Rattle.stream_apps.specs.Starts.{fast_close_of}
use Rattle.world_laws.proofs.Lanes.Applying.{Writes, Settles, settled_app, writes_more, closes}
use Rattle.world_laws.proofs.Asks.NeitherWritesNorCloses.{AskLeavesFile, asks_leave, call_keeps}
use Rattle.world_laws.proofs.Rounds.NothingDueIsLeft.{Shaped, takes_shaped, begun_shaped}
use Rattle.world_laws.proofs.Weaving.Journals.{books_after}

-- ---- an application

is_empty : (xs : List ℕ) → is_nil xs ≡ true → xs ≡ []
is_empty = elim [ [] ↦ λ is. refl | x ∷ xs ↦ λ is. absurd (false≢true is) ]

own_after : (s : Side) (call : SendCall) (six : SixBooks) → send_of s (after_send_call s call six) ≡ after_call (send_of s six) call
own_after = elim [ A ↦ λ call six. refl | B ↦ λ call six. refl ]

other_after_a : (s : Side) (call : SendCall) (six : SixBooks) → s ≡ A → (after_send_call s call six).send_b ≡ six.send_b
other_after_a = elim [ A ↦ λ call six is. refl | B ↦ λ call six is. cc ]

other_after_b : (s : Side) (call : SendCall) (six : SixBooks) → s ≡ B → (after_send_call s call six).send_a ≡ six.send_a
other_after_b = elim [ B ↦ λ call six is. refl | A ↦ λ call six is. cc ]

-- an application of this side, with its file and its book
pub record Fares (s : Side) (file : List ℕ) (a : AppState) (send : Sending) : Type 0 where
  pub side_is : a.side ≡ s
  pub writes : Writes file a.rest send
  pub settled : IsAppSettled a

settles_fares : (s : Side) (file : List ℕ) (m b : AppState) (send : Sending) → Settles m b → m.side ≡ s → Writes file m.rest send → Fares s file b send
settles_fares s file m b send st side writes = record {
  side_is = ap (λ x. x.side) st.is ∙ side;
  writes = subst (λ rest. Writes file rest send) (sym (ap (λ x. x.rest) st.is)) writes;
  settled = st.settled;
}

answered_fares : (file : List ℕ) (six : SixBooks) (a : AppState) (d : AppDuty) → app_stands d a ≡ true → Writes file a.rest (send_of a.side six)
    → Writes file (app_answered d (reply_of six (app_ask d a)) a).rest (send_of a.side (after_ask (app_ask d a) six))
answered_fares file six a AppDuty.FastClose stands h = (elim a.side as (λ s. Writes file a.rest (send_of s six) → Writes file a.rest (send_of s (after_ask (app_ask AppDuty.FastClose a) six)))
    [ A ↦ λ h. h | B ↦ λ h. h ]) h
answered_fares file six a AppDuty.AbortSend stands h =
    subst (Writes file a.rest) (sym (own_after a.side SendCall.Abort six)) (record { prefix = h.prefix; whole = h.whole })
answered_fares file six a AppDuty.AbortReceive stands h = (elim a.side as (λ s. Writes file a.rest (send_of s six) → Writes file a.rest (send_of s (after_ask (app_ask AppDuty.AbortReceive a) six)))
    [ A ↦ λ h. h | B ↦ λ h. h ]) h
answered_fares file six a AppDuty.Write stands h =
    subst (Writes file _) (sym (own_after a.side (SendCall.Write (take a.buffer a.rest)) six)) (writes_more file a.rest a.buffer (send_of a.side six) stands h)
answered_fares file six a AppDuty.Close stands h =
    let none = is_empty a.rest (and_parts (is_nil a.rest) (not a.closed) stands).0 in
    subst (Writes file a.rest) (sym (own_after a.side SendCall.Close six))
    (subst (λ rest. Writes file rest (after_call (send_of a.side six) SendCall.Close)) (sym none) (closes file (send_of a.side six) (subst (λ rest. Writes file rest (send_of a.side six)) none h)))
answered_fares file six a AppDuty.Read stands h = (elim a.side as (λ s. Writes file a.rest (send_of s six) → Writes file a.rest (send_of s (after_ask (app_ask AppDuty.Read a) six)))
    [ A ↦ λ h. h | B ↦ λ h. h ]) h
answered_fares file six a AppDuty.End stands h = h

answered_side : (d : AppDuty) (r : Reply) (a : AppState) → (app_answered d r a).side ≡ a.side
answered_side = elim [ AppDuty.FastClose ↦ λ r a. refl | _ ↦ λ r a. refl ]

-- a step of an application
app_fares : (s : Side) (file : List ℕ) (six : SixBooks) (a : AppState) (d : AppDuty) (ds : List AppDuty) → a.agenda ≡ d ∷ ds → Fares s file a (send_of s six)
    → Fares s file (app_takes (reply_of six (app_ask d a)) a) (send_of s (after_ask (app_ask d a) six))
app_fares s file six a d ds is h =
    let r = reply_of six (app_ask d a) in
    let stands : app_stands d a ≡ true = subst (λ xs. FirstAppStands xs a) is h.settled in
    let own : Writes file a.rest (send_of a.side six) = subst (λ x. Writes file a.rest (send_of x six)) (sym h.side_is) h.writes in
    let m : AppState = app_answered d r a in
    let w : Writes file m.rest (send_of s (after_ask (app_ask d a) six)) =
    subst (λ x. Writes file m.rest (send_of x (after_ask (app_ask d a) six))) h.side_is (answered_fares file six a d stands own) in
    subst (λ b. Fares s file b (send_of s (after_ask (app_ask d a) six))) (sym (ap (λ xs. app_settles_down (app_answers xs r a)) is))
    (settles_fares s file m (app_settled m.agenda m) (send_of s (after_ask (app_ask d a) six)) (settled_app m.agenda m) (answered_side d r a ∙ h.side_is) w)

pub next_fares : (s : Side) (file : List ℕ) (a : AppState) (send : Sending) → Fares s file a send → Fares s file (app_next_round a) send
next_fares s file a send h =
    settles_fares s file (fresh_turn a) (app_next_round a) send (settled_app start_of_app (fresh_turn a)) h.side_is h.writes

-- what an ask of the other side's application, or of a path, leaves
app_leaves_b : (d : AppDuty) (a : AppState) (six : SixBooks) → a.side ≡ A → (after_ask (app_ask d a) six).send_b ≡ six.send_b
app_leaves_b AppDuty.AbortSend a six is = other_after_a a.side SendCall.Abort six is
app_leaves_b AppDuty.Write a six is = other_after_a a.side (SendCall.Write (take a.buffer a.rest)) six is
app_leaves_b AppDuty.Close a six is = other_after_a a.side SendCall.Close six is
app_leaves_b _ a six is = refl

app_leaves_a : (d : AppDuty) (a : AppState) (six : SixBooks) → a.side ≡ B → (after_ask (app_ask d a) six).send_a ≡ six.send_a
app_leaves_a AppDuty.AbortSend a six is = other_after_b a.side SendCall.Abort six is
app_leaves_a AppDuty.Write a six is = other_after_b a.side (SendCall.Write (take a.buffer a.rest)) six is
app_leaves_a AppDuty.Close a six is = other_after_b a.side SendCall.Close six is
app_leaves_a _ a six is = refl

path_leaves_a : (file rest : List ℕ) (ask : Ask) (six : SixBooks) → AskLeavesFile ask → Writes file rest six.send_a → Writes file rest (after_ask ask six).send_a
path_leaves_a file rest (Ask.Send A call) six leaves h = call_keeps file rest six.send_a h call leaves
path_leaves_a file rest (Ask.Send B call) six leaves h = h
path_leaves_a file rest _ six leaves h = h

path_leaves_b : (file rest : List ℕ) (ask : Ask) (six : SixBooks) → AskLeavesFile ask → Writes file rest six.send_b → Writes file rest (after_ask ask six).send_b
path_leaves_b file rest (Ask.Send B call) six leaves h = call_keeps file rest six.send_b h call leaves
path_leaves_b file rest (Ask.Send A call) six leaves h = h
path_leaves_b file rest _ six leaves h = h

-- ---- lists

-- one item is put, which has what all have
pub Every-put : {X : Type 0} {P : X → Type 0} {xs : List X} (i : ℕ) (y : X) → P y → Every P xs → Every P (set xs i y)
Every-put {X} {P} {xs} i y here h = record { each = λ k x there. ⊎_elim (λ same. subst P same.1 here) (λ other. h.each k x other.1) (in_set xs i y k x there) }

-- ---- the world

pub record Seat : Type 0 where
  pub pass : Pass
  pub list : List Note
  pub refused : Option Refusal

-- a path with its seat
pub record Walker (C : Type 0) : Type 0 where
  pub path : PathState C
  pub at : Seat

pub record Cast (C : Type 0) : Type 0 where
  pub a : AppState
  pub b : AppState
  pub at_a : Seat
  pub at_b : Seat
  pub paths : List (Walker C)
  pub books : StampedBooks

abbrev pub seat_after : Ask → StampedBooks → Seat → Seat
seat_after ask books seat = record seat { pass = record seat.pass { stamp = stamp_of ask books seat.pass }; list = seat.list ++ note_of books seat.pass ask ∷ [] }

other_fares : (s : Side) (file : List ℕ) (a : AppState) (send send_after : Sending) → Writes file a.rest send_after → Fares s file a send → Fares s file a send_after
other_fares s file a send send_after writes h = record { side_is = h.side_is; writes = writes; settled = h.settled }

abbrev pub raised_to : ℕ → Seat → Seat
raised_to stamp seat = record seat { pass = raised seat.pass stamp }

abbrev pub new_seat : ℕ → Seat
new_seat number = record { pass = record { actor = number; stamp = 0 }; list = []; refused = None }

opened_fares : (s : Side) (buffer : ℕ) (file : List ℕ) (tick : Option ℕ) (send : Sending) → send.written ≡ [] → send.closed ≡ false → Fares s file (first_app_turn s buffer file tick) send
opened_fares s buffer file tick send none unclosed =
    let m : AppState = untouched s buffer file tick in
    settles_fares s file m (first_app_turn s buffer file tick) send (settled_app start_of_app m) refl
    (record { prefix = ap (λ xs. xs ++ file) (sym none); whole = λ is. absurd (both_ways send.closed unclosed is) })

pub written_from : (file rest : List ℕ) (send : Sending) → Writes file rest send → WritesTheFile file send
written_from file rest send h = record {
  prefix = record { rest = rest; whole_is = h.prefix };
  whole = λ is. sym (h.prefix ∙ ap (λ xs. send.written ++ xs) (h.whole is) ∙ append-nil send.written);
}

pub map_there : {X Y : Type 0} (f : X → Y) (xs : List X) (i : ℕ) → slice_get (map f xs) i ≡ option_map f (slice_get xs i)
map_there f [] i = refl
map_there f (x ∷ xs) zero = refl
map_there f (x ∷ xs) (suc i) = map_there f xs i

pub map_put : {X Y : Type 0} (f : X → Y) (xs : List X) (i : ℕ) (y : X) → set (map f xs) i (f y) ≡ map f (set xs i y)
map_put f [] i y = refl
map_put f (x ∷ xs) zero y = refl
map_put f (x ∷ xs) (suc i) y = ap (λ zs. f x ∷ zs) (map_put f xs i y)

module _ {C : Type 0} where
  abbrev pub seated : Seat → Actor C → ActorCrew C
  seated seat member = record { member = member; pass = seat.pass; list = seat.list; refused = seat.refused }

  -- the actor that a path is
  abbrev pub walking : Walker C → ActorCrew C
  walking x = seated x.at (Path x.path)

  abbrev pub world_of : Cast C → WorldState C
  world_of t = record { crew = seated t.at_a (App t.a) ∷ seated t.at_b (App t.b) ∷ map walking t.paths; books = t.books }

  pub record Fare (start : Start) (t : Cast C) : Type 0 where
    pub a : Fares A start.file_a t.a (books_in t.books).send_a
    pub b : Fares B start.file_b t.b (books_in t.books).send_b
    pub paths : Every (λ x. Shaped x.path.agenda x.path) t.paths

  -- what a step of an application or of a path makes of it
  abbrev pub after_a : Ask → Cast C → Cast C
  after_a ask t = record t { a = app_takes (answer_to t.books ask) t.a; at_a = seat_after ask t.books t.at_a; books = after_entry ask t.at_a.pass t.books }

  abbrev pub after_b : Ask → Cast C → Cast C
  after_b ask t = record t { b = app_takes (answer_to t.books ask) t.b; at_b = seat_after ask t.books t.at_b; books = after_entry ask t.at_b.pass t.books }

  abbrev pub walked : Codec C → Ask → StampedBooks → Walker C → Walker C
  walked k ask books x = record { path = takes k (answer_to books ask) x.path; at = seat_after ask books x.at }

  -- the path of a number, which is this one
  abbrev pub after_path : Codec C → ℕ → Walker C → Ask → Cast C → Cast C
  after_path k number x ask t = record t { paths = set t.paths number (walked k ask t.books x); books = after_entry ask x.at.pass t.books }

  pub fare_after_a : (start : Start) (t : Cast C) → Fare start t → (d : AppDuty) (ds : List AppDuty) → t.a.agenda ≡ d ∷ ds → Fare start (after_a (app_ask d t.a) t)
  fare_after_a start t f d ds is =
      let six = books_in t.books in let ask = app_ask d t.a in
      let same = sym (books_after ask t.at_a.pass t.books) in
      record {
        a = subst (λ x. Fares A start.file_a (app_takes (answer_to t.books ask) t.a) x.send_a) same (app_fares A start.file_a six t.a d ds is f.a);
        b = subst (λ x. Fares B start.file_b t.b x.send_b) same
            (subst (Fares B start.file_b t.b) (sym (app_leaves_b d t.a six f.a.side_is)) f.b);
        paths = f.paths;
      }

  pub fare_after_b : (start : Start) (t : Cast C) → Fare start t → (d : AppDuty) (ds : List AppDuty) → t.b.agenda ≡ d ∷ ds → Fare start (after_b (app_ask d t.b) t)
  fare_after_b start t f d ds is =
      let six = books_in t.books in let ask = app_ask d t.b in
      let same = sym (books_after ask t.at_b.pass t.books) in
      record {
        a = subst (λ x. Fares A start.file_a t.a x.send_a) same
            (subst (Fares A start.file_a t.a) (sym (app_leaves_a d t.b six f.b.side_is)) f.a);
        b = subst (λ x. Fares B start.file_b (app_takes (answer_to t.books ask) t.b) x.send_b) same (app_fares B start.file_b six t.b d ds is f.b);
        paths = f.paths;
      }

  pub fare_after_path : (k : Codec C) (start : Start) (t : Cast C) → Fare start t → (number : ℕ) (x : Walker C) → slice_get t.paths number ≡ Some x → (d : Duty)
      → Fare start (after_path k number x (ask_for k d x.path) t)
  fare_after_path k start t f number x there d =
      let six = books_in t.books in let ask = ask_for k d x.path in
      let same = sym (books_after ask x.at.pass t.books) in
      let leaves = asks_leave k x.path d in
      record {
        a = subst (λ y. Fares A start.file_a t.a y.send_a) same (other_fares A start.file_a t.a six.send_a _ (path_leaves_a start.file_a t.a.rest ask six leaves f.a.writes) f.a);
        b = subst (λ y. Fares B start.file_b t.b y.send_b) same (other_fares B start.file_b t.b six.send_b _ (path_leaves_b start.file_b t.b.rest ask six leaves f.b.writes) f.b);
        paths = Every-put number (walked k ask t.books x) (takes_shaped k (answer_to t.books ask) x.path (f.paths.each number x there)) f.paths;
      }

  -- ---- steps

  -- a step of a path, as it asks
  abbrev pub path_asked : Codec C → ℕ → Walker C → Option Ask → Cast C → WorldState C
  path_asked k number x None t = world_of t
  path_asked k number x (Some ask) t = world_of (after_path k number x ask t)

  abbrev pub path_stepped : Codec C → ℕ → Option (Walker C) → Cast C → WorldState C
  path_stepped k number None t = world_of t
  path_stepped k number (Some x) t = path_asked k number x (asks_first k x.path.agenda x.path) t

  asked_is : (k : Codec C) (number : ℕ) (x : Walker C) (t : Cast C) (o : Option Ask) → asked k (suc (suc number)) o (walking x) (world_of t) ≡ path_asked k number x o t
  asked_is k number x t None = refl
  asked_is k number x t (Some ask) =
      ap (λ crew. record { crew = seated t.at_a (App t.a) ∷ seated t.at_b (App t.b) ∷ crew; books = after_entry ask x.at.pass t.books }) (map_put walking t.paths number (walked k ask t.books x))

  -- what a step of a path is
  pub path_step_is : (k : Codec C) (number : ℕ) (t : Cast C) → world_step k (suc (suc number)) (world_of t) ≡ path_stepped k number (slice_get t.paths number) t
  path_step_is k number t =
      ap (λ o. stepped k (suc (suc number)) o (world_of t)) (map_there walking t.paths number) ∙ by (slice_get t.paths number)
    where
      by : (o : Option (Walker C)) → stepped k (suc (suc number)) (option_map walking o) (world_of t) ≡ path_stepped k number o t
      by None = refl
      by (Some x) = asked_is k number x t (asks_first k x.path.agenda x.path)

  -- ---- the end of a round

  abbrev pub walks_on : ℕ → Walker C → Walker C
  walks_on stamp x = record { path = next_round x.path; at = raised_to stamp x.at }

  -- where each turn ended the next round begins
  abbrev pub next_cast : Cast C → Cast C
  next_cast t =
      let stamp = greatest 0 (world_of t).crew in
      record t { a = app_next_round t.a; b = app_next_round t.b; at_a = raised_to stamp t.at_a; at_b = raised_to stamp t.at_b; paths = map (walks_on stamp) t.paths }

  begun_are : (stamp : ℕ) (paths : List (Walker C)) → map (begins stamp) (map walking paths) ≡ map walking (map (walks_on stamp) paths)
  begun_are stamp [] = refl
  begun_are stamp (x ∷ paths) = ap (λ crew. begins stamp (walking x) ∷ crew) (begun_are stamp paths)

  pub next_is : (t : Cast C) → record (world_of t) { crew = map (begins (greatest 0 (world_of t).crew)) (world_of t).crew } ≡ world_of (next_cast t)
  next_is t =
      let stamp = greatest 0 (world_of t).crew in
      ap (λ crew. record { crew = begins stamp (seated t.at_a (App t.a)) ∷ begins stamp (seated t.at_b (App t.b)) ∷ crew; books = t.books }) (begun_are stamp t.paths)

  pub next_fare : (start : Start) (t : Cast C) → Fare start t → Fare start (next_cast t)
  next_fare start t f = record {
    a = next_fares A start.file_a t.a _ f.a;
    b = next_fares B start.file_b t.b _ f.b;
    paths = record {
      each = λ i x there.
          let found = in_map (walks_on (greatest 0 (world_of t).crew)) t.paths i x there in
          subst (λ y. Shaped y.path.agenda y.path) found.2 (begun_shaped (record found.0.path { clock = found.0.path.until; until = found.0.path.until + 100 }));
    };
  }

  -- ---- the opening

  -- a path that has made no step
  abbrev pub new_walker : Start → ℕ → PathPlan → Walker C
  new_walker start number plan = record { path = first_turn (path_begins start number plan) start.lines; at = new_seat (2 + number) }

  abbrev pub walkers_from : Start → ℕ → List PathPlan → List (Walker C)
  walkers_from start number [] = []
  walkers_from start number (plan ∷ plans) = new_walker start number plan ∷ walkers_from start (suc number) plans

  abbrev pub first_cast : Start → Cast C
  first_cast start = record {
    a = first_app_turn A start.buffer start.file_a (fast_close_of A start.lines);
    b = first_app_turn B start.buffer start.file_b (fast_close_of B start.lines);
    at_a = new_seat 0;
    at_b = new_seat 1;
    paths = walkers_from start 0 start.paths;
    books = unasked (opened_books start.buffer start.key_a start.key_b);
  }

  walkers_are : (start : Start) (number : ℕ) (plans : List PathPlan) → paths_from start number plans ≡ map walking (walkers_from start number plans)
  walkers_are start number [] = refl
  walkers_are start number (plan ∷ plans) = ap (λ crew. new_path start number plan ∷ crew) (walkers_are start (suc number) plans)

  pub opened_is : (start : Start) → opened_world start ≡ world_of (first_cast start)
  opened_is start =
      ap (λ crew. record {
        crew = new_crew 0 (App (first_app_turn A start.buffer start.file_a (fast_close_of A start.lines))) ∷ new_crew 1 (App (first_app_turn B start.buffer start.file_b (fast_close_of B start.lines))) ∷ crew;
        books = unasked (opened_books start.buffer start.key_a start.key_b);
      }) (walkers_are start 0 start.paths)

  -- one of them is that of its plan
  pub walker_there : (start : Start) (first i number : ℕ) (plans : List PathPlan) (x : Walker C) → number ≡ first + i → slice_get (walkers_from start first plans) i ≡ Some x
      → (plan : PathPlan) × (slice_get plans i ≡ Some plan) × (x ≡ new_walker start number plan)
  walker_there start first i number [] x is there = cc
  walker_there start first zero number (plan ∷ plans) x is there =
      let same : number ≡ first = omega (arith, is) in (plan, refl, sym (same_Some _ x there) ∙ ap (λ n. new_walker start n plan) (sym same))
  walker_there start first (suc i) number (plan ∷ plans) x is there = walker_there start (suc first) i number plans x (omega (arith, is)) there

  pub first_fare : (start : Start) → Fare start (first_cast start)
  first_fare start = record {
    a = opened_fares A start.buffer start.file_a (fast_close_of A start.lines) _ refl refl;
    b = opened_fares B start.buffer start.file_b (fast_close_of B start.lines) _ refl refl;
    paths = record {
      each = λ i x there.
          let found = walker_there start 0 i i start.paths x (omega arith) there in
          subst (λ y. Shaped y.path.agenda y.path) (sym found.2) (begun_shaped {C = C} (waiting_path (path_begins start i found.0) start.lines));
    };
  }
