-- A reader ends its turn only where it was told the end, has read enough, or was answered that there is nothing.
use Rattle.world_laws.proofs.Words.{◌≡◌, refl, sym, ◌∙◌, ap, subst, ℕ, ◌+◌, ◌≤◌, ◌||◌, not, nat_lt, ⊎_elim, Bool, true, false, if◌then◌else◌, Option, Some}
use Rattle.world_laws.proofs.Words.{List, [], ◌∷◌, ◌++◌, length, arith, ltb-false, and_cases, not-false, append_assoc, same_Some, Side, A, B, ReassemblyCall}
use Rattle.world_laws.proofs.Words.{ReassemblyReply, Ask, Note, Reply, StampedBooks, books_in, is_nil, IsReassemblyKind, AppDuty, AppState, fresh_turn}
use Rattle.world_laws.proofs.Words.{start_of_app, app_stands, app_ask, app_asks_first, bytes_in, ends_in, app_reads_on, app_answered, app_answers, app_settled}
use Rattle.world_laws.proofs.Words.{app_settles_down, untouched, first_app_turn, AbortReceive, Codec, Every, App, Path, Actor, ActorCrew, member_asks}
use Rattle.world_laws.proofs.Words.{member_takes, member_next, Always, opened_world, world_run, note_of, answer_to, IsReaderDone, IsDoneReading, ReadersAreDone}
use Rattle.stream_apps.specs.declared.duty.AppDuty.TheVariants.{FastClose, AbortSend, Write, Close, Read, End}
use Rattle.stream_apps.specs.Starts.{fast_close_of}
use Rattle.world_laws.proofs.Rounds.Lifting.{run_lifted, opened_lifted}
use Rattle.world_laws.proofs.Rounds.ReplyKinds.{reassembly_kind}

-- ---- before the turn's end

-- the last step was a read that found nothing
pub record LastIsNone (notes : List Note) : Type 0 where
  pub earlier : List Note
  pub read : Note
  pub parts : notes ≡ earlier ++ read ∷ []
  pub none : read.reply ≡ Reply.Reassembly ReassemblyReply.NoneYet

pub data HasRead (a : AppState) (notes : List Note) : Type 0 where
  Told : a.told ≡ true → HasRead a notes
  Enough : a.buffer ≤ a.count → HasRead a notes
  Nothing : LastIsNone notes → HasRead a notes

-- what is ahead, and what was read where reading is behind
abbrev pub Ready : List AppDuty → AppState → List Note → Type 0
Ready [] a notes = IsReaderDone a notes
Ready (End ∷ ds) a notes = (ds ≡ []) × HasRead a notes
Ready (Read ∷ ds) a notes = ds ≡ End ∷ []
Ready (Close ∷ ds) a notes = ds ≡ Read ∷ End ∷ []
Ready (Write ∷ ds) a notes = ds ≡ Close ∷ Read ∷ End ∷ []
Ready (AbortReceive ∷ ds) a notes = ds ≡ Write ∷ Close ∷ Read ∷ End ∷ []
Ready (AbortSend ∷ ds) a notes = ds ≡ AbortReceive ∷ Write ∷ Close ∷ Read ∷ End ∷ []
Ready (FastClose ∷ ds) a notes = ds ≡ AbortSend ∷ AbortReceive ∷ Write ∷ Close ∷ Read ∷ End ∷ []

-- the agenda is of no account
same_read : (ds : List AppDuty) (a : AppState) (notes : List Note) → HasRead a notes → HasRead (record a { agenda = ds }) notes
same_read ds a notes (HasRead.Told is) = HasRead.Told is
same_read ds a notes (HasRead.Enough most) = HasRead.Enough most
same_read ds a notes (HasRead.Nothing last) = HasRead.Nothing last

same_done : (ds : List AppDuty) (a : AppState) (notes : List Note) → IsReaderDone a notes → IsReaderDone (record a { agenda = ds }) notes
same_done ds a notes (IsReaderDone.Told is) = IsReaderDone.Told is
same_done ds a notes (IsReaderDone.Enough most) = IsReaderDone.Enough most
same_done ds a notes (IsReaderDone.Nothing last) = IsReaderDone.Nothing last

same_ready : (d : AppDuty) (ds es : List AppDuty) (a : AppState) (notes : List Note) → Ready (d ∷ ds) a notes → Ready (d ∷ ds) (record a { agenda = es }) notes
same_ready = elim [ End ↦ λ ds es a notes h. (h.0, same_read es a notes h.1) | _ ↦ λ ds es a notes h. h ]

-- ---- settling

passed_ready : (d : AppDuty) (ds : List AppDuty) (a : AppState) (notes : List Note) → app_stands d a ≡ false → Ready (d ∷ ds) a notes → Ready ds a notes
passed_ready Read ds a notes none h = subst (λ xs. Ready xs a notes) (sym h) (refl, HasRead.Told (not-false a.told none))
passed_ready End ds a notes none h = cc
passed_ready _ ds a notes none h = subst (λ xs. Ready xs a notes) (sym h) refl

settled_ready : (ds : List AppDuty) (a : AppState) (notes : List Note) → Ready ds a notes → Ready (app_settled ds a).agenda (app_settled ds a) notes
settled_ready [] a notes h = same_done [] a notes h
settled_ready (d ∷ ds) a notes h = by (app_stands d a) refl (λ none. settled_ready ds a notes (passed_ready d ds a notes none h))
  where
    by : (b : Bool) → app_stands d a ≡ b → (app_stands d a ≡ false → Ready (app_settled ds a).agenda (app_settled ds a) notes)
        → Ready (if b then record a { agenda = d ∷ ds } else app_settled ds a).agenda (if b then record a { agenda = d ∷ ds } else app_settled ds a) notes
    by = elim [ true ↦ λ is rest. same_ready d ds (d ∷ ds) a notes h | false ↦ λ is rest. rest is ]

-- ---- a read

or_true : (b : Bool) → (b || true) ≡ true
or_true = elim [ true ↦ refl | false ↦ refl ]

some_there : (bytes : List ℕ) → 1 ≤ length bytes → not (is_nil bytes) ≡ false → ⊥
some_there = elim [ [] ↦ λ some is. omega (arith, some) | byte ∷ bytes ↦ λ some is. cc ]

-- after a reply that ends the reading
read_ends : (a : AppState) (ds : List AppDuty) (notes : List Note) (n : Note) (max : ℕ) (r : ReassemblyReply) → n.reply ≡ Reply.Reassembly r → IsReassemblyKind (ReassemblyCall.Read max) r
    → app_reads_on (bytes_in (Reply.Reassembly r)) a ≡ false
    → HasRead (record a { count = a.count + length (bytes_in (Reply.Reassembly r)); told = a.told || ends_in (Reply.Reassembly r); agenda = ds }) (notes ++ n ∷ [])
read_ends a ds notes n max (ReassemblyReply.Bytes bytes) is kind stops = HasRead.Enough (⊎_elim
    (λ nil. absurd (some_there bytes kind.some nil))
    (λ full. ltb-false (a.count + length bytes) a.buffer full)
    (and_cases (not (is_nil bytes)) (nat_lt (a.count + length bytes) a.buffer) stops))
read_ends a ds notes n max ReassemblyReply.End is kind stops = HasRead.Told (or_true a.told)
read_ends a ds notes n max (ReassemblyReply.Aborted by_peer) is kind stops = HasRead.Told (or_true a.told)
read_ends a ds notes n max ReassemblyReply.NoneYet is kind stops = HasRead.Nothing (record { earlier = notes; read = n; parts = refl; none = is })
read_ends a ds notes n max _ is kind stops = absurd kind

-- the turn's end is one step more
ended : (a : AppState) (ds : List AppDuty) (notes : List Note) (n : Note) → HasRead a notes → IsReaderDone (record a { agenda = ds }) (notes ++ n ∷ [])
ended a ds notes n (HasRead.Told is) = IsReaderDone.Told is
ended a ds notes n (HasRead.Enough most) = IsReaderDone.Enough most
ended a ds notes n (HasRead.Nothing last) = IsReaderDone.Nothing (record {
  earlier = last.earlier;
  read = last.read;
  end = n;
  parts = ap (λ xs. xs ++ n ∷ []) last.parts ∙ append_assoc last.earlier (last.read ∷ []) (n ∷ []);
  none = last.none;
})

-- ---- a reply

-- what a book answers to a read
abbrev pub IsAnswered : AppDuty → Reply → Type 0
IsAnswered Read r = (x : ReassemblyReply) × (r ≡ Reply.Reassembly x) × IsReassemblyKind (ReassemblyCall.Read 65536) x
IsAnswered _ r = Unit {0}

read_ready : (ds : List AppDuty) (a : AppState) (notes : List Note) (n : Note) (x : ReassemblyReply) → n.reply ≡ Reply.Reassembly x → IsReassemblyKind (ReassemblyCall.Read 65536) x → ds ≡ End ∷ []
    → (b : Bool) → app_reads_on (bytes_in (Reply.Reassembly x)) a ≡ b
    → Ready (if b then Read ∷ ds else ds)
    (record a { count = a.count + length (bytes_in (Reply.Reassembly x)); told = a.told || ends_in (Reply.Reassembly x); agenda = (if b then Read ∷ ds else ds) }) (notes ++ n ∷ [])
read_ready ds a notes n x is kind then_end true on = then_end
read_ready ds a notes n x is kind then_end false on =
    subst (λ xs. Ready xs (record a { count = a.count + length (bytes_in (Reply.Reassembly x)); told = a.told || ends_in (Reply.Reassembly x); agenda = ds }) (notes ++ n ∷ [])) (sym then_end)
    (refl, read_ends a ds notes n 65536 x is kind on)

answered_ready : (d : AppDuty) (ds : List AppDuty) (a : AppState) (notes : List Note) (n : Note) (r : Reply) → n.reply ≡ r → IsAnswered d r → Ready (d ∷ ds) (record a { agenda = d ∷ ds }) notes
    → Ready (app_answered d r (record a { agenda = d ∷ ds })).agenda (app_answered d r (record a { agenda = d ∷ ds })) (notes ++ n ∷ [])
answered_ready FastClose ds a notes n r is answer h = subst (λ xs. Ready xs (app_answered FastClose r (record a { agenda = FastClose ∷ ds })) (notes ++ n ∷ [])) (sym h) refl
answered_ready AbortSend ds a notes n r is answer h = subst (λ xs. Ready xs (app_answered AbortSend r (record a { agenda = AbortSend ∷ ds })) (notes ++ n ∷ [])) (sym h) refl
answered_ready AbortReceive ds a notes n r is answer h = subst (λ xs. Ready xs (app_answered AbortReceive r (record a { agenda = AbortReceive ∷ ds })) (notes ++ n ∷ [])) (sym h) refl
answered_ready Write ds a notes n r is answer h = subst (λ xs. Ready xs (app_answered Write r (record a { agenda = Write ∷ ds })) (notes ++ n ∷ [])) (sym h) refl
answered_ready Close ds a notes n r is answer h = subst (λ xs. Ready xs (app_answered Close r (record a { agenda = Close ∷ ds })) (notes ++ n ∷ [])) (sym h) refl
answered_ready Read ds a notes n r is answer h =
    let x = answer.0 in
    subst (λ y. Ready (app_answered Read y (record a { agenda = Read ∷ ds })).agenda (app_answered Read y (record a { agenda = Read ∷ ds })) (notes ++ n ∷ [])) (sym answer.1)
    (read_ready ds (record a { agenda = Read ∷ ds }) notes n x (is ∙ answer.1) answer.2 h (app_reads_on (bytes_in (Reply.Reassembly x)) a) refl)
answered_ready End ds a notes n r is answer h = ended (record a { agenda = End ∷ ds }) [] notes n h.1

takes_ready : (a : AppState) (notes : List Note) (n : Note) (r : Reply) (ds : List AppDuty) → a.agenda ≡ ds → n.reply ≡ r
    → ((d : AppDuty) (es : List AppDuty) → ds ≡ d ∷ es → IsAnswered d r) → (x : Ask) → app_asks_first ds a ≡ Some x → Ready ds (record a { agenda = ds }) notes
    → Ready (app_settles_down (app_answers ds r (record a { agenda = ds }))).agenda (app_settles_down (app_answers ds r (record a { agenda = ds }))) (notes ++ n ∷ [])
takes_ready a notes n r [] agenda is answers x asks h = cc
takes_ready a notes n r (d ∷ ds) agenda is answers x asks h =
    let m : AppState = app_answered d r (record a { agenda = d ∷ ds }) in
    settled_ready m.agenda m (notes ++ n ∷ []) (answered_ready d ds a notes n r is (answers d ds refl) h)

-- a book answers a read so
read_answered : (books : StampedBooks) (s : Side) → IsAnswered Read (answer_to books (Ask.Reassembly s (ReassemblyCall.Read 65536)))
read_answered books A = (_, refl, reassembly_kind (books_in books).reassembly_a (ReassemblyCall.Read 65536))
read_answered books B = (_, refl, reassembly_kind (books_in books).reassembly_b (ReassemblyCall.Read 65536))

duty_answered : (books : StampedBooks) (a : AppState) (d : AppDuty) → IsAnswered d (answer_to books (app_ask d a))
duty_answered books a Read = read_answered books a.side
duty_answered books a _ = tt

first_ready : (s : Side) (buffer : ℕ) (file : List ℕ) (tick : Option ℕ) → Ready (first_app_turn s buffer file tick).agenda (first_app_turn s buffer file tick) []
first_ready s buffer file tick =
    settled_ready start_of_app (untouched s buffer file tick) [] refl

module _ {C : Type 0} where
  abbrev pub IsReady : Actor C → List Note → Type 0
  IsReady (App a) notes = Ready a.agenda a notes
  IsReady (Path p) notes = Unit {0}

  member_ready : (k : Codec C) (books : StampedBooks) (m : Actor C) (notes : List Note) (n : Note) (x : Ask) → n.reply ≡ answer_to books x → member_asks k m ≡ Some x → IsReady m notes
      → IsReady (member_takes k (answer_to books x) m) (notes ++ n ∷ [])
  member_ready k books (Path p) notes n x is asks h = tt
  member_ready k books (App a) notes n x is asks h =
      takes_ready a notes n (answer_to books x) a.agenda refl is answers x asks h
    where
      at : (ds : List AppDuty) → app_asks_first ds a ≡ Some x → (d : AppDuty) (es : List AppDuty) → ds ≡ d ∷ es → IsAnswered d (answer_to books x)
      at [] asks d es same = cc
      at (e ∷ ds) asks d es same =
          let one : e ≡ d = cc in
          subst (λ y. IsAnswered d (answer_to books y)) (ap (λ z. app_ask z a) (sym one) ∙ same_Some (app_ask e a) x asks) (duty_answered books a d)

      answers : (d : AppDuty) (es : List AppDuty) → a.agenda ≡ d ∷ es → IsAnswered d (answer_to books x)
      answers d es same = at a.agenda asks d es same

  next_ready : (m : Actor C) (notes : List Note) → IsReady (member_next m) notes
  next_ready (Path p) notes = tt
  next_ready (App a) notes = settled_ready start_of_app (fresh_turn a) notes refl

  abbrev IsReadyCrew : ActorCrew C → Type 0
  IsReadyCrew c = IsReady c.member c.list

  done_reading : (m : Actor C) (notes : List Note) → IsReady m notes → IsDoneReading m notes
  done_reading (Path p) notes h = tt
  done_reading (App a) notes h = λ over. subst (λ ds. Ready ds a notes) over h

  pub readers_are_done : (k : Codec C) → Always k (λ start w. ReadersAreDone w)
  readers_are_done k start turns = record { each = λ actor c there. done_reading c.member c.list (all.each actor c there) }
    where
      all : Every IsReadyCrew (world_run k turns (opened_world start)).crew
      all = run_lifted k IsReadyCrew
          (λ books c x asks h. member_ready k books c.member c.list (note_of books c.pass x) x refl asks h)
          (λ stamp c over h. next_ready c.member c.list)
          turns (opened_world start)
          (opened_lifted IsReadyCrew start (first_ready A start.buffer start.file_a (fast_close_of A start.lines)) (first_ready B start.buffer start.file_b (fast_close_of B start.lines)) (λ number plan there. tt))
