-- In each round, where the turn of a path is over, an end that may ask for bytes asked for all that was written as it began.
use Rattle.world_laws.proofs.Words.{◌≡◌, refl, sym, ◌∙◌, ap, subst, ℕ, zero, suc, ◌+◌, ◌≤◌, ◌||◌, nat_lt, inl, inr, ◌⊎◌, ⊎_elim, Bool, true, false}
use Rattle.world_laws.proofs.Words.{if◌then◌else◌, Some, List, [], ◌∷◌, ◌++◌, length, drop, arith, set, cases_eq, append-nil, append_assoc, same_Some, list_any}
use Rattle.world_laws.proofs.Words.{slice_get, Pass, last_stamp, Side, A, B, Sending, new_sending, Duty, Ask, Note, StampedBooks, books_in, after_entry}
use Rattle.world_laws.proofs.Words.{SixBooks, send_of, after_ask, pick, AppDuty, app_ask, Codec, ask_for, waiting_path, PathState, end_at, path_of, begins_turn}
use Rattle.world_laws.proofs.Words.{is_joined, in_map, Every-nil, in_set, set_same, set_other, Every, Path, ActorCrew, Start, path_begins, opened_world}
use Rattle.world_laws.proofs.Words.{WorldState, Turn, greatest, world_run, note_of, written_by, answer_to, asks_grant, BeginsRound, InEachRound, steps_since}
use Rattle.world_laws.proofs.Words.{last_asked, frees_bytes, frees_after, OthersFreed, AskForAll, AskedForAll, PathsAskForAll, notes_at, notes_or}
use Rattle.world_laws.specs.RoundNumbers.{after_steps}
use Rattle.world_laws.proofs.Asks.SendBooks.{IsOnes, any_last, any_more, asked_last}
use Rattle.world_laws.proofs.Weaving.EdgesAndStamps.{edge_grows, stamp_grows, grant_entered, freeing_entered, lt_true, both_true}
use Rattle.world_laws.proofs.Weaving.Journals.{books_after}
use Rattle.world_laws.proofs.Rounds.AskingForNothing.{begun_grants}
use Rattle.world_laws.proofs.Rounds.PiecesFit.{CrewFits, PathFits, fits_at, paid_or_refused, round_fits}
use Rattle.world_laws.proofs.Rounds.RefusedOverAll.{SideAsks, BothAsk, own_a, own_b, other_a, other_b, path_step, freed_then, other_both, FallsAsk}
use Rattle.world_laws.proofs.Asks.OfPaths.{own_calls}
use Rattle.world_laws.proofs.Rounds.Frame.{takes_keeps, first_keeps}
use Rattle.world_laws.proofs.Rounds.EndsRefused.{Granting, IsPaid, is_owed, is_paid}
use Rattle.world_laws.proofs.Worlds.CastLifting.{Has, Stepwise, steps_have, turns_have, ended_has, path_actor}
use Rattle.world_laws.proofs.Worlds.Casts.{Seat, Walker, Cast, Fare, world_of, walking, walked, raised_to, new_seat, after_a, after_b, after_path, walks_on, next_cast, first_cast, first_fare, opened_is, walker_there}
use Rattle.world_laws.proofs.Joins.NoBytesBeforeClear.{HasJoined, AllWait, wait_steps, wait_next, wait_first}
use Rattle.world_laws.proofs.Falls.Owned.{OwnerSo, GoesSo, ask_owned, app_goes, path_goes, path_falls}
use Rattle.world_laws.proofs.Joins.AwakeAfterBegun.{Awake}
use Rattle.world_laws.proofs.Keys.ToldAreOwn.{FellBack}

-- ---- lists of actors

-- an actor's list went on from this one
record Went (earlier list : List Note) : Type 0 where
  steps : List Note
  is : list ≡ earlier ++ steps

module _ {C : Type 0} (k : Codec C) (start : Start) where
  -- another path freed bytes past an edge, after a stamp, in a round that began with these lists of the paths
  record Freed (number : ℕ) (earlier : ℕ → List Note) (s : Side) (stamp edge : ℕ) (t : Cast C) : Type 0 where
    other : ℕ
    apart : other ≡ number → ⊥
    walker : Walker C
    there : slice_get t.paths other ≡ Some walker
    steps : List Note
    list_is : walker.at.list ≡ earlier other ++ steps
    freed : list_any (frees_after s stamp edge) steps ≡ true

  -- the last stamp of a side's send book
  abbrev book_stamp : Side → StampedBooks → ℕ
  book_stamp s books = last_stamp 0 (pick s books.send_a books.send_b).journal

  -- each path has its number, and its list went on
  record AreGoing (earlier : ℕ → List Note) (t : Cast C) : Type 0 where
    numbered : (n : ℕ) (y : Walker C) → slice_get t.paths n ≡ Some y → (path_of y.path ≡ n) × (is_joined y.path.profile ≡ nat_lt 0 n)
    went : (n : ℕ) (y : Walker C) → slice_get t.paths n ≡ Some y → Went (earlier n) y.at.list

  -- a path in such a round, in which so much was written as it began
  record PathAsking (number : ℕ) (earlier : ℕ → List Note) (written_a written_b : ℕ) (edges : Side → ℕ) (x : Walker C) (t : Cast C) : Type 0 where
    steps : List Note
    list_is : x.at.list ≡ earlier number ++ steps
    flags : Side → Bool
    freed : Side → Bool
    granting : Granting x.path flags
    both : BothAsk (path_of x.path) written_a written_b steps flags freed (books_in t.books)
    others : (s : Side) → freed s ≡ true → Freed number earlier s (last_asked s 0 steps) (edges s) t
    -- the edges are no less than as the round began, and the book has the path's last ask for bytes
    low : (s : Side) → edges s ≤ (send_of s (books_in t.books)).edge
    known : (s : Side) → last_asked s 0 steps ≤ book_stamp s t.books

  pub record RoundAsks (number : ℕ) (earlier : ℕ → List Note) (written_a written_b : ℕ) (edges : Side → ℕ) (t : Cast C) : Type 0 where
    going : AreGoing earlier t
    waits : AllWait k t
    owned : (s : Side) → OwnerSo (books_in t.books) s
    asking : (x : Walker C) → slice_get t.paths number ≡ Some x → PathAsking number earlier written_a written_b edges x t

  -- an ask at a book of the edges, and of the stamps
  ask_low : (edges : Side → ℕ) (x : Ask) (pass : Pass) (books : StampedBooks) → ((s : Side) → edges s ≤ (send_of s (books_in books)).edge)
      → (s : Side) → edges s ≤ (send_of s (books_in (after_entry x pass books))).edge
  ask_low edges x pass books low s =
      let more = edge_grows s x (books_in books) in let least = low s in
      subst (λ (y : SixBooks). edges s ≤ (send_of s y).edge) (sym (books_after x pass books)) (omega (arith, more, least))

  ask_known : (stamp : ℕ) (s : Side) (x : Ask) (pass : Pass) (books : StampedBooks) → stamp ≤ book_stamp s books → stamp ≤ book_stamp s (after_entry x pass books)
  ask_known stamp s x pass books known = let more = stamp_grows s x pass books in omega (arith, more, known)

  -- what was freed stays so as other paths go on
  freed_stays : (number : ℕ) (earlier : ℕ → List Note) (s : Side) (stamp edge : ℕ) (t u : Cast C) → ((n : ℕ) (y : Walker C) → slice_get t.paths n ≡ Some y → (z : Walker C) × (slice_get u.paths n ≡ Some z) × Went y.at.list z.at.list)
      → Freed number earlier s stamp edge t → Freed number earlier s stamp edge u
  freed_stays number earlier s stamp edge t u goes h =
      let next = goes h.other h.walker h.there in
      record {
        other = h.other;
        apart = h.apart;
        walker = next.0;
        there = next.1;
        steps = h.steps ++ next.2.steps;
        list_is = next.2.is ∙ ap (λ xs. xs ++ next.2.steps) h.list_is ∙ append_assoc (earlier h.other) h.steps next.2.steps;
        freed = any_more (frees_after s stamp edge) h.steps next.2.steps h.freed;
      }

  module _ (number : ℕ) (earlier : ℕ → List Note) (written_a written_b : ℕ) (edges : Side → ℕ) where
    abbrev Q : Cast C → Type 0
    Q t = RoundAsks number earlier written_a written_b edges t

    still_owned : (t : Cast C) (x : Ask) (pass : Pass) → GoesSo (books_in t.books) x → ((s : Side) → OwnerSo (books_in t.books) s) → (s : Side) → OwnerSo (books_in (after_entry x pass t.books)) s
    still_owned t x pass goes h s = subst (λ (y : SixBooks). OwnerSo y s) (sym (books_after x pass t.books)) (ask_owned (books_in t.books) x goes s (h s))

    same_paths : (t u : Cast C) → u.paths ≡ t.paths → (n : ℕ) (y : Walker C) → slice_get t.paths n ≡ Some y → (z : Walker C) × (slice_get u.paths n ≡ Some z) × Went y.at.list z.at.list
    same_paths t u same n y there = (y, ap (λ paths. slice_get paths n) same ∙ there, record { steps = []; is = sym (append-nil y.at.list) })

    by_a : (t : Cast C) → Fare start t → (d : AppDuty) (ds : List AppDuty) → t.a.agenda ≡ d ∷ ds → Q t → Q (after_a (app_ask d t.a) t)
    by_a t f d ds is h = record {
      going = record { numbered = h.going.numbered; went = h.going.went };
      waits = (wait_steps k start).a t f d ds is h.waits;
      owned = still_owned t (app_ask d t.a) t.at_a.pass (app_goes (books_in t.books) d t.a) h.owned;
      asking = λ x there. at x (h.asking x there);
    }
      where
        at : (x : Walker C) → PathAsking number earlier written_a written_b edges x t → PathAsking number earlier written_a written_b edges x (after_a (app_ask d t.a) t)
        at x h =
            let six = books_in t.books in let path = path_of x.path in
            record {
              steps = h.steps;
              list_is = h.list_is;
              flags = h.flags;
              freed = h.freed;
              granting = h.granting;
              both = subst (BothAsk path written_a written_b h.steps h.flags h.freed) (sym (books_after (app_ask d t.a) t.at_a.pass t.books)) (record {
                a = own_a path written_a h.steps (h.flags A) (h.freed A) t.a six d f.a.side_is h.both.a;
                b = other_b path written_b h.steps (h.flags B) (h.freed B) t.a six d f.a.side_is h.both.b;
              });
              others = λ s on. freed_stays number earlier s (last_asked s 0 h.steps) (edges s) t (after_a (app_ask d t.a) t) (same_paths t (after_a (app_ask d t.a) t) refl) (h.others s on);
              low = ask_low edges (app_ask d t.a) t.at_a.pass t.books h.low;
              known = λ s. ask_known (last_asked s 0 h.steps) s (app_ask d t.a) t.at_a.pass t.books (h.known s);
            }

    by_b : (t : Cast C) → Fare start t → (d : AppDuty) (ds : List AppDuty) → t.b.agenda ≡ d ∷ ds → Q t → Q (after_b (app_ask d t.b) t)
    by_b t f d ds is h = record {
      going = record { numbered = h.going.numbered; went = h.going.went };
      waits = (wait_steps k start).b t f d ds is h.waits;
      owned = still_owned t (app_ask d t.b) t.at_b.pass (app_goes (books_in t.books) d t.b) h.owned;
      asking = λ x there. at x (h.asking x there);
    }
      where
        at : (x : Walker C) → PathAsking number earlier written_a written_b edges x t → PathAsking number earlier written_a written_b edges x (after_b (app_ask d t.b) t)
        at x h =
            let six = books_in t.books in let path = path_of x.path in
            record {
              steps = h.steps;
              list_is = h.list_is;
              flags = h.flags;
              freed = h.freed;
              granting = h.granting;
              both = subst (BothAsk path written_a written_b h.steps h.flags h.freed) (sym (books_after (app_ask d t.b) t.at_b.pass t.books)) (record {
                a = other_a path written_a h.steps (h.flags A) (h.freed A) t.b six d f.b.side_is h.both.a;
                b = own_b path written_b h.steps (h.flags B) (h.freed B) t.b six d f.b.side_is h.both.b;
              });
              others = λ s on. freed_stays number earlier s (last_asked s 0 h.steps) (edges s) t (after_b (app_ask d t.b) t) (same_paths t (after_b (app_ask d t.b) t) refl) (h.others s on);
              low = ask_low edges (app_ask d t.b) t.at_b.pass t.books h.low;
              known = λ s. ask_known (last_asked s 0 h.steps) s (app_ask d t.b) t.at_b.pass t.books (h.known s);
            }

    module _ (t : Cast C) (f : Fare start t) (n : ℕ) (y : Walker C) (there : slice_get t.paths n ≡ Some y) (d : Duty) (ds : List Duty) (is : y.path.agenda ≡ d ∷ ds) (h : Q t) where
      abbrev ask : Ask
      ask = ask_for k d y.path

      abbrev note : Note
      note = note_of t.books y.at.pass ask

      abbrev z : Walker C
      z = walked k ask t.books y

      abbrev u : Cast C
      u = after_path k n y ask t

      -- the lists of all paths go on
      goes : (m : ℕ) (w : Walker C) → slice_get t.paths m ≡ Some w → (v : Walker C) × (slice_get u.paths m ≡ Some v) × Went w.at.list v.at.list
      goes m w at = ⊎_elim
          (λ same. let own : Some y ≡ Some w = sym there ∙ ap (slice_get t.paths) (sym same) ∙ at in
          (z, ap (λ i. slice_get (set t.paths n z) i) same ∙ set_same t.paths n z y there, subst (λ v. Went v.at.list z.at.list) (same_Some y w own) (record { steps = note ∷ []; is = refl })))
          (λ apart. (w, set_other t.paths n z m apart ∙ at, record { steps = []; is = sym (append-nil w.at.list) }))
          (cases_eq m n)

      number_of : (path_of z.path ≡ n) × (is_joined z.path.profile ≡ nat_lt 0 n)
      number_of =
          let kept = takes_keeps k (answer_to t.books ask) y.path in let old = h.going.numbered n y there in
          (kept.2 ∙ old.0, ap is_joined kept.1 ∙ old.1)

      awake : Awake k (HasJoined (books_in t.books)) (FellBack (books_in t.books)) y.path
      awake = (h.waits.each n y there).awake

      joins_so : is_joined y.path.profile ≡ nat_lt 0 (path_of y.path)
      joins_so = let old = h.going.numbered n y there in old.1 ∙ ap (nat_lt 0) (sym old.0)

      falls_so : FallsAsk (books_in t.books) ask
      falls_so = path_falls k (books_in t.books) y.path awake joins_so d ds is h.owned

      going_on : AreGoing earlier u
      going_on = record {
        numbered = λ m w at. ⊎_elim
            (λ here. subst (λ v. (path_of v.path ≡ m) × (is_joined v.path.profile ≡ nat_lt 0 m)) here.1
            (subst (λ i. (path_of z.path ≡ i) × (is_joined z.path.profile ≡ nat_lt 0 i)) (sym here.0) number_of))
            (λ other. h.going.numbered m w other.1) (in_set t.paths n z m w at);
        went = λ m w at. ⊎_elim
            (λ here. subst (λ v. Went (earlier m) v.at.list) here.1 (let old = h.going.went n y there in
            subst (λ i. Went (earlier i) z.at.list) (sym here.0) (record { steps = old.steps ++ note ∷ []; is = ap (λ xs. xs ++ note ∷ []) old.is ∙ append_assoc (earlier n) old.steps (note ∷ []) })))
            (λ other. h.going.went m w other.1)
            (in_set t.paths n z m w at);
      }

      books_are : (path : ℕ) (steps : List Note) (flags freed : Side → Bool) → BothAsk path written_a written_b steps flags freed (after_ask ask (books_in t.books)) → BothAsk path written_a written_b steps flags freed (books_in u.books)
      books_are path steps flags freed both = subst (BothAsk path written_a written_b steps flags freed) (sym (books_after ask y.at.pass t.books)) both

      -- what the last ask for bytes is after a step
      last_is : (s : Side) (steps : List Note) (b : Bool) → asks_grant s ask ≡ b → last_asked s 0 (steps ++ note ∷ []) ≡ (if b then note.stamp else last_asked s 0 steps)
      last_is s steps b is = asked_last s 0 steps note ∙ ap (λ (c : Bool). if c then note.stamp else last_asked s 0 steps) is

      -- the path itself
      own_step : PathAsking number earlier written_a written_b edges y t → PathAsking number earlier written_a written_b edges z u
      own_step g =
          let then_is = path_step k y.path written_a written_b g.steps note g.flags g.freed (books_in t.books) g.both d ds is falls_so refl g.granting in
          record {
            steps = g.steps ++ note ∷ [];
            list_is = ap (λ xs. xs ++ note ∷ []) g.list_is ∙ append_assoc (earlier number) g.steps (note ∷ []);
            flags = then_is.flags;
            freed = then_is.others;
            granting = then_is.granting;
            both = books_are (path_of z.path) (g.steps ++ note ∷ []) then_is.flags then_is.others
                (subst (λ path. BothAsk path written_a written_b (g.steps ++ note ∷ []) then_is.flags then_is.others (after_ask ask (books_in t.books))) (sym (takes_keeps k (answer_to t.books ask) y.path).2) then_is.both);
            others = λ s on. let before = then_is.before s on in
                subst (λ stamp. Freed number earlier s stamp (edges s) u) (sym (last_is s g.steps false before.1))
                (freed_stays number earlier s (last_asked s 0 g.steps) (edges s) t u goes (g.others s before.0));
            low = ask_low edges ask y.at.pass t.books g.low;
            known = λ s. own_known s g (asks_grant s ask) refl;
          }
        where
          own_known : (s : Side) (g : PathAsking number earlier written_a written_b edges y t) (b : Bool) → asks_grant s ask ≡ b → last_asked s 0 (g.steps ++ note ∷ []) ≤ book_stamp s u.books
          own_known s g true is = let last = last_is s g.steps true is in let entered = grant_entered s ask y.at.pass t.books is in omega (arith, last, entered)
          own_known s g false is =
              let last = last_is s g.steps false is in let kept = ask_known (last_asked s 0 g.steps) s ask y.at.pass t.books (g.known s) in omega (arith, last, kept)

      -- another one
      freed_by : (n ≡ number → ⊥) → (s : Side) (stamp : ℕ) → stamp ≤ book_stamp s t.books → (before : Bool) → (before ≡ true → Freed number earlier s stamp (edges s) u)
          → before || frees_bytes s (edges s) ask (answer_to t.books ask) ≡ true → Freed number earlier s stamp (edges s) u
      freed_by apart s stamp known true old on = old refl
      freed_by apart s stamp known false old on =
          let went = h.going.went n y there in
          record {
            other = n;
            apart = apart;
            walker = z;
            there = set_same t.paths n z y there;
            steps = went.steps ++ note ∷ [];
            list_is = ap (λ xs. xs ++ note ∷ []) went.is ∙ append_assoc (earlier n) went.steps (note ∷ []);
            freed = any_last (frees_after s stamp (edges s)) went.steps note (both_true later on);
          }
        where
          later : nat_lt stamp note.stamp ≡ true
          later = let above = freeing_entered s (edges s) ask (answer_to t.books ask) y.at.pass t.books on in lt_true stamp note.stamp (omega (arith, above, known))

      other_step : (n ≡ number → ⊥) → (x : Walker C) → slice_get t.paths number ≡ Some x → PathAsking number earlier written_a written_b edges x t → PathAsking number earlier written_a written_b edges x u
      other_step apart x at g =
          let mine = (h.going.numbered number x at).0 in let its = (h.going.numbered n y there).0 in
          let freed = freed_then edges ask (answer_to t.books ask) g.freed in
          record {
            steps = g.steps;
            list_is = g.list_is;
            flags = g.flags;
            freed = freed;
            granting = g.granting;
            both = books_are (path_of x.path) g.steps g.flags freed
                (other_both (path_of x.path) written_a written_b edges g.steps g.flags g.freed (books_in t.books) g.both g.low (path_of y.path) ask (λ same. apart (sym its ∙ same ∙ mine)) (own_calls k y.path d) falls_so);
            others = λ s on. freed_by apart s (last_asked s 0 g.steps) (g.known s) (g.freed s) (λ old. freed_stays number earlier s (last_asked s 0 g.steps) (edges s) t u goes (g.others s old)) on;
            low = ask_low edges ask y.at.pass t.books g.low;
            known = λ s. ask_known (last_asked s 0 g.steps) s ask y.at.pass t.books (g.known s);
          }

      pub by_path : Q u
      by_path = record {
        going = going_on;
        waits = (wait_steps k start).path t f n y there d ds is h.waits;
        owned = still_owned t ask y.at.pass (path_goes k (books_in t.books) y.path awake joins_so d ds is) h.owned;
        asking = λ x at. ⊎_elim
            (λ here. subst (λ w. PathAsking number earlier written_a written_b edges w u) here.1 (own_step (h.asking y (ap (slice_get t.paths) here.0 ∙ there))))
            (λ other. other_step (λ same. other.0 (sym same)) x other.1 (h.asking x other.1))
            (in_set t.paths n z number x at);
      }

    pub asks_stepwise : Stepwise k start Q
    asks_stepwise = record { a = by_a; b = by_b; path = λ t f n y there d ds is h. by_path t f n y there d ds is h }

  -- in whatever round
  pub record Asking (number : ℕ) (t : Cast C) : Type 0 where
    pub earlier : ℕ → List Note
    pub written_a : ℕ
    pub written_b : ℕ
    pub edges : Side → ℕ
    pub round : RoundAsks number earlier written_a written_b edges t

  asking_stepwise : (number : ℕ) → Stepwise k start (Asking number)
  asking_stepwise number = record {
    a = λ t f d ds is h. record { earlier = h.earlier; written_a = h.written_a; written_b = h.written_b; edges = h.edges; round = by_a number h.earlier h.written_a h.written_b h.edges t f d ds is h.round };
    b = λ t f d ds is h. record { earlier = h.earlier; written_a = h.written_a; written_b = h.written_b; edges = h.edges; round = by_b number h.earlier h.written_a h.written_b h.edges t f d ds is h.round };
    path = λ t f n y there d ds is h. record { earlier = h.earlier; written_a = h.written_a; written_b = h.written_b; edges = h.edges; round = by_path number h.earlier h.written_a h.written_b h.edges t f n y there d ds is h.round };
  }

  -- ---- as a round begins

  -- the lists of the paths
  abbrev lists_at : WorldState C → ℕ → List Note
  lists_at w number = notes_at (suc (suc number)) w.crew

  -- the edges of the send books
  abbrev edges_at : StampedBooks → Side → ℕ
  edges_at books s = (send_of s (books_in books)).edge

  abbrev Begun : ℕ → Cast C → Type 0
  Begun number t = RoundAsks number (lists_at (world_of t)) (length (books_in t.books).send_a.written) (length (books_in t.books).send_b.written) (edges_at t.books) t

  list_there : (t : Cast C) (number : ℕ) (x : Walker C) → slice_get t.paths number ≡ Some x → x.at.list ≡ lists_at (world_of t) number
  list_there t number x there = sym (ap notes_or (path_actor t number x there))

  begun_side : (path written : ℕ) (s : Side) (b : Sending) → IsOnes path written b → SideAsks path (length b.written) s [] false false b
  begun_side path written s b h = record { ones = record { tried = h.tried; whole = h.whole; grown = omega arith }; all = λ never alone. cc }

  -- a path begins a round with books that are its own, or another's
  begun_path : (number written_a written_b : ℕ) (q : PathState C) (seat : Seat) (t : Cast C) → IsOnes (path_of q) written_a (books_in t.books).send_a → IsOnes (path_of q) written_b (books_in t.books).send_b
      → seat.list ≡ lists_at (world_of t) number
      → PathAsking number (lists_at (world_of t)) (length (books_in t.books).send_a.written) (length (books_in t.books).send_b.written) (edges_at t.books) (record { path = begins_turn q; at = seat }) t
  begun_path number written_a written_b q seat t a b list_is = record {
    steps = [];
    list_is = list_is ∙ sym (append-nil (lists_at (world_of t) number));
    flags = λ s. false;
    freed = λ s. false;
    granting = begun_grants q (λ s. false);
    both = subst (λ path. BothAsk path (length (books_in t.books).send_a.written) (length (books_in t.books).send_b.written) [] (λ s. false) (λ s. false) (books_in t.books)) (sym (first_keeps q).2) (record {
      a = begun_side (path_of q) written_a A (books_in t.books).send_a a;
      b = begun_side (path_of q) written_b B (books_in t.books).send_b b;
    });
    others = λ s never. cc;
    low = λ s. omega arith;
    known = λ s. omega arith;
  }

  going_anew : (t : Cast C) → ((n : ℕ) (y : Walker C) → slice_get t.paths n ≡ Some y → (path_of y.path ≡ n) × (is_joined y.path.profile ≡ nat_lt 0 n)) → AreGoing (lists_at (world_of t)) t
  going_anew t numbered = record {
    numbered = numbered;
    went = λ n y there. record { steps = []; is = list_there t n y there ∙ sym (append-nil (lists_at (world_of t) n)) };
  }

  next_begun : (number : ℕ) (t : Cast C) → Asking number t → Begun number (next_cast t)
  next_begun number t h = record { going = going_anew (next_cast t) numbered; waits = wait_next k t h.round.waits; owned = h.round.owned; asking = asking }
    where
      numbered : (n : ℕ) (y : Walker C) → slice_get (next_cast t).paths n ≡ Some y → (path_of y.path ≡ n) × (is_joined y.path.profile ≡ nat_lt 0 n)
      numbered n y there =
          let found = in_map (walks_on (greatest 0 (world_of t).crew)) t.paths n y there in
          let kept = first_keeps (record found.0.path { clock = found.0.path.until; until = found.0.path.until + 100 }) in
          let old = h.round.going.numbered n found.0 found.1 in
          subst (λ z. (path_of z.path ≡ n) × (is_joined z.path.profile ≡ nat_lt 0 n)) found.2 (kept.2 ∙ old.0, ap is_joined kept.1 ∙ old.1)

      asking : (x : Walker C) → slice_get (next_cast t).paths number ≡ Some x
          → PathAsking number (lists_at (world_of (next_cast t))) (length (books_in t.books).send_a.written) (length (books_in t.books).send_b.written) (edges_at t.books) x (next_cast t)
      asking x there =
          let found = in_map (walks_on (greatest 0 (world_of t).crew)) t.paths number x there in
          let g = h.round.asking found.0 found.1 in
          subst (λ z. PathAsking number (lists_at (world_of (next_cast t))) (length (books_in t.books).send_a.written) (length (books_in t.books).send_b.written) (edges_at t.books) z (next_cast t)) found.2
          (begun_path number h.written_a h.written_b (record found.0.path { clock = found.0.path.until; until = found.0.path.until + 100 }) (raised_to (greatest 0 (world_of t).crew) found.0.at) (next_cast t)
          g.both.a.ones g.both.b.ones (ap (λ z. z.at.list) found.2 ∙ list_there (next_cast t) number x there))

  opened_ones : (path buffer : ℕ) → IsOnes path 0 (new_sending buffer)
  opened_ones path buffer = record { tried = Every-nil _; whole = refl; grown = omega arith }

  opened_begun : (number : ℕ) → Begun number (first_cast start)
  opened_begun number = record { going = going_anew (first_cast start) numbered; waits = wait_first k start; owned = owned; asking = asking }
    where
      numbered : (n : ℕ) (y : Walker C) → slice_get (first_cast {C = C} start).paths n ≡ Some y → (path_of y.path ≡ n) × (is_joined y.path.profile ≡ nat_lt 0 n)
      numbered n y there =
          let found = walker_there start 0 n n start.paths y (omega arith) there in
          let kept = first_keeps {C = C} (waiting_path (path_begins start n found.0) start.lines) in
          subst (λ z. (path_of z.path ≡ n) × (is_joined z.path.profile ≡ nat_lt 0 n)) (sym found.2) (kept.2, ap is_joined kept.1)

      owned : (s : Side) → OwnerSo (books_in (first_cast {C = C} start).books) s
      owned = elim [ A ↦ inl refl | B ↦ inl refl ]

      asking : (x : Walker C) → slice_get (first_cast {C = C} start).paths number ≡ Some x → PathAsking number (lists_at (world_of (first_cast start))) 0 0 (edges_at (first_cast {C = C} start).books) x (first_cast start)
      asking x there =
          let found = walker_there start 0 number number start.paths x (omega arith) there in
          subst (λ z. PathAsking number (lists_at (world_of (first_cast start))) 0 0 (edges_at (first_cast {C = C} start).books) z (first_cast start)) (sym found.2)
          (begun_path number 0 0 (waiting_path (path_begins start number found.0) start.lines) (new_seat (2 + number)) (first_cast start)
          (opened_ones _ start.buffer) (opened_ones _ start.buffer) (ap (λ z. z.at.list) (sym found.2) ∙ list_there (first_cast start) number x there))

  opened_has : (number : ℕ) → Has {C = C} start (Begun number) (opened_world start)
  opened_has number = record { cast = first_cast start; is = opened_is start; fare = first_fare start; holds = opened_begun number }

  asking_from : (number : ℕ) (t : Cast C) → Begun number t → Asking number t
  asking_from number t h = record { earlier = _; written_a = _; written_b = _; edges = _; round = h }

  always_asking : (number : ℕ) (turns : List Turn) → Has start (Asking number) (world_run k turns (opened_world start))
  always_asking number turns =
      turns_have k start (Asking number) (asking_stepwise number) (λ t f h. asking_from number (next_cast t) (next_begun number t h)) turns (opened_world start)
      (record { cast = first_cast start; is = opened_is start; fare = first_fare start; holds = asking_from number (first_cast start) (opened_begun number) })

  -- in a round that began in this world
  abbrev Since : ℕ → WorldState C → Cast C → Type 0
  Since number u t = RoundAsks number (lists_at u) (length (written_by A u).written) (length (written_by B u).written) (edges_at u.books) t

  since_begun : (number : ℕ) (u : WorldState C) → Has start (Begun number) u → Has start (Since number u) u
  since_begun number u h = subst (λ v. Has start (Since number v) v) (sym h.is) (record { cast = h.cast; is = refl; fare = h.fare; holds = h.holds })

  begun_has : (number : ℕ) (u : WorldState C) → BeginsRound k start u → Has start (Begun number) u
  begun_has number u (BeginsRound.First is) = subst (Has start (Begun number)) (sym is) (opened_has number)
  begun_has number u (BeginsRound.Next turns over is) =
      subst (Has start (Begun number)) (sym is)
      (ended_has start (Asking number) (Begun number) (λ t f h. next_begun number t h) (world_run k turns (opened_world start)) over (always_asking number turns))

  -- ---- where the turn is over

  drop_front : (xs ys : List Note) → drop (length xs) (xs ++ ys) ≡ ys
  drop_front [] ys = refl
  drop_front (x ∷ xs) ys = drop_front xs ys

  -- the steps of a path since then
  since_is : (u : WorldState C) (t : Cast C) (number : ℕ) (x : Walker C) (steps : List Note) → slice_get t.paths number ≡ Some x → x.at.list ≡ lists_at u number ++ steps
      → steps_since (suc (suc number)) u (world_of t) ≡ steps
  since_is u t number x steps there is =
      ap (drop (length (lists_at u number))) (sym (list_there t number x there) ∙ is) ∙ drop_front (lists_at u number) steps

  path_asked_all : (u : WorldState C) (t : Cast C) (number : ℕ) (x : Walker C) → slice_get t.paths number ≡ Some x → PathFits x.path → Since number u t → AskForAll u (world_of t) (suc (suc number)) (Path x.path)
  path_asked_all u t number x there fits h over s may = asked (paid_or_refused x.path.profile s (end_at s x.path) (g.flags s) (fits_at s x.path fits) paid may)
    where
      g : PathAsking number (lists_at u) (length (written_by A u).written) (length (written_by B u).written) (edges_at u.books) x t
      g = h.asking x there

      side_all : (s : Side) → g.flags s ≡ true → g.freed s ≡ false → AskedForAll (path_of x.path) s g.steps (length (written_by s u).written) (send_of s (books_in t.books))
      side_all = elim [ A ↦ λ on alone. g.both.a.all on alone | B ↦ λ on alone. g.both.b.all on alone ]

      paid : IsPaid x.path.profile s (end_at s x.path) (g.flags s)
      paid = is_paid x.path x.path.agenda g.flags s (ap (is_owed s) over) (g.granting.each s)

      by : g.flags s ≡ true → (b : Bool) → g.freed s ≡ b → AskedForAll (path_of x.path) s (steps_since (suc (suc number)) u (world_of t)) (length (written_by s u).written) (send_of s (books_in t.books)) ⊎ OthersFreed u (world_of t) (suc (suc number)) s
      by on false alone =
          inl (subst (λ steps. AskedForAll (path_of x.path) s steps (length (written_by s u).written) (send_of s (books_in t.books))) (sym (since_is u t number x g.steps there g.list_is)) (side_all s on alone))
      by refused true on =
          let f = g.others s on in
          inr (record {
            other = suc (suc f.other);
            apart = λ same. f.apart (omega (arith, same));
            freed = subst (λ steps. list_any (frees_after s (last_asked s 0 steps) (written_by s u).edge) (steps_since (suc (suc f.other)) u (world_of t)) ≡ true) (sym (since_is u t number x g.steps there g.list_is))
                (subst (λ steps. list_any (frees_after s (last_asked s 0 g.steps) (written_by s u).edge) steps ≡ true) (sym (since_is u t f.other f.walker f.steps f.there f.list_is)) f.freed);
          })

      asked : g.flags s ≡ true → AskedForAll (path_of x.path) s (steps_since (suc (suc number)) u (world_of t)) (length (written_by s u).written) (send_of s (books_in t.books)) ⊎ OthersFreed u (world_of t) (suc (suc number)) s
      asked on = by on (g.freed s) refl

  has_asked : (u w : WorldState C) → Every CrewFits w.crew → ((number : ℕ) → Has start (Since number u) w) → PathsAskForAll u w
  has_asked u w fits h = record { each = at }
    where
      paths : (number : ℕ) (c : ActorCrew C) → slice_get w.crew (suc (suc number)) ≡ Some c → AskForAll u w (suc (suc number)) c.member
      paths number = let g = h number in
          subst (λ v. (c : ActorCrew C) → slice_get v.crew (suc (suc number)) ≡ Some c → AskForAll u v (suc (suc number)) c.member) (sym g.is)
          (λ c there. let found = in_map walking g.cast.paths number c there in
          let there_fits : CrewFits c = fits.each (suc (suc number)) c (subst (λ (v : WorldState C). slice_get v.crew (suc (suc number)) ≡ Some c) (sym g.is) there) in
          subst (λ y. AskForAll u (world_of g.cast) (suc (suc number)) y.member) found.2
          (path_asked_all u g.cast number found.0 found.1 (subst (λ (y : ActorCrew C). CrewFits y) (sym found.2) there_fits) g.holds))

      apps : (s : Side) (c : ActorCrew C) → slice_get w.crew (pick s 0 1) ≡ Some c → AskForAll u w (pick s 0 1) c.member
      apps s = let g = h 0 in
          subst (λ v. (c : ActorCrew C) → slice_get v.crew (pick s 0 1) ≡ Some c → AskForAll u v (pick s 0 1) c.member) (sym g.is) (on s g.cast)
        where
          on : (s : Side) (t : Cast C) (c : ActorCrew C) → slice_get (world_of t).crew (pick s 0 1) ≡ Some c → AskForAll u (world_of t) (pick s 0 1) c.member
          on A t c there = subst (λ y. AskForAll u (world_of t) 0 y.member) (same_Some _ c there) tt
          on B t c there = subst (λ y. AskForAll u (world_of t) 1 y.member) (same_Some _ c there) tt

      at : (actor : ℕ) (c : ActorCrew C) → slice_get w.crew actor ≡ Some c → AskForAll u w actor c.member
      at zero c there = apps A c there
      at (suc zero) c there = apps B c there
      at (suc (suc number)) c there = paths number c there

pub paths_ask : {C : Type 0} (k : Codec C) → InEachRound k PathsAskForAll
paths_ask k start begun order begins =
    has_asked k start begun (after_steps k order begun) (round_fits k start begun order begins)
    (λ number. steps_have k start (Since k start number begun) (asks_stepwise k start number (lists_at k start begun) (length (written_by A begun).written) (length (written_by B begun).written) (edges_at k start begun.books)) order begun
    (since_begun k start number begun (begun_has k start number begun begins)))
