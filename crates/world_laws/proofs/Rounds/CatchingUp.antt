-- An application ends its turn only where it has read all that had arrived as the round began: the book of its side at each step.
use Rattle.world_laws.proofs.Words.{◌≡◌, refl, sym, ◌∙◌, ap, subst, ℕ, ◌+◌, ◌≤◌, ◌||◌, not, min, nat_lt, inl, inr, ◌⊎◌, ⊎_elim, Bool, true, false}
use Rattle.world_laws.proofs.Words.{if◌then◌else◌, Option, Some, None, List, [], ◌∷◌, ◌++◌, length, take, drop, arith, is_some, eqb-true, ltb-false, and_cases}
use Rattle.world_laws.proofs.Words.{not-false, length-append, length-take, append-nil, IfSome, ReassemblyCall, Arriving, IsSound, filled, received}
use Rattle.world_laws.proofs.Words.{ReassemblyReply, places_after, fin_clash, is_end, bytes_reply, reading, after_reading, Note, Reply, is_nil, AppDuty}
use Rattle.world_laws.proofs.Words.{AppState, app_stands, bytes_in, ends_in, app_reads_on, app_settled, AbortReceive, read_by, was_told, note_tells}
use Rattle.world_laws.proofs.Words.{bytes_noted, tells_stop}
use Rattle.reassembly_book.specs.declared.call.ReassemblyReply.TheVariants.{End as TheEnd, NoneYet}
use Rattle.reassembly_book.specs.Steps.{merged, by_place, is_taken, after_call, reply_to}
use Rattle.reassembly_book.proofs.Bounds.{known_end_stays}
use Rattle.reassembly_book.proofs.Merging.{filled-le}
use Rattle.stream_lanes.proofs.Arrivals.{filled_left}
use Rattle.stream_apps.specs.declared.duty.AppDuty.TheVariants.{FastClose, AbortSend, Write, Close, Read, End}
use Rattle.world_laws.proofs.Lanes.Applying.{Settles, any_more, or_true, settled_app}
use Rattle.world_laws.proofs.Asks.OfPaths.{IsArrival}

-- ---- a read

-- what a read makes of the book, by its reply
pub record IsRead (b c : Arriving) (r : ReassemblyReply) : Type 0 where
  pub read : c.read ≡ b.read + length (bytes_in (Reply.Reassembly r))
  pub came : received c ≡ received b
  pub most : length (bytes_in (Reply.Reassembly r)) ≤ length (filled b.places)
  pub empty : bytes_in (Reply.Reassembly r) ≡ [] → (received b ≤ b.read) ⊎ (tells_stop (Reply.Reassembly r) ≡ true)
  pub ended : ends_in (Reply.Reassembly r) ≡ true → (b.known_end ≡ Some b.read) ⊎ (tells_stop (Reply.Reassembly r) ≡ true)
  pub known : c.known_end ≡ b.known_end
  pub capacity : c.capacity ≡ b.capacity

end_known : (o : Option ℕ) (read : ℕ) → is_end o read ≡ true → o ≡ Some read
end_known = elim [ None ↦ λ read is. cc | Some e ↦ λ read is. ap (λ n. Some n) (eqb-true e read is) ]

module _ (b : Arriving) where
  left : min 65536 (length (filled b.places)) + length (filled (drop (min 65536 (length (filled b.places))) b.places)) ≡ length (filled b.places)
  left = filled_left (min 65536 (length (filled b.places))) b.places (omega arith)

  no_bytes : (length (filled b.places) ≡ 0) → (e : Bool) → is_end b.known_end b.read ≡ e → IsRead b (after_reading 65536 b) (if e then TheEnd else NoneYet)
  no_bytes none true is = record {
    read = omega (arith, none);
    came = omega (arith, left);
    most = omega arith;
    empty = λ nil. inl (omega (arith, none));
    ended = λ ends. inl (end_known b.known_end b.read is);
    known = refl;
    capacity = refl;
  }
  no_bytes none false is = record {
    read = omega (arith, none);
    came = omega (arith, left);
    most = omega arith;
    empty = λ nil. inl (omega (arith, none));
    ended = λ never. cc;
    known = refl;
    capacity = refl;
  }

  bytes_read : (bytes : List ℕ) → take 65536 (filled b.places) ≡ bytes → IsRead b (after_reading 65536 b) (bytes_reply bytes b)
  bytes_read [] is =
      let l = length-take 65536 (filled b.places) in
      let none : length (take 65536 (filled b.places)) ≡ 0 = ap (λ (xs : List ℕ). length xs) is in
      no_bytes (omega (arith, l, none)) (is_end b.known_end b.read) refl
  bytes_read (x ∷ xs) is =
      let l = length-take 65536 (filled b.places) in
      let same : length (take 65536 (filled b.places)) ≡ length (x ∷ xs) = ap (λ (ys : List ℕ). length ys) is in
      record {
        read = omega (arith, l, same);
        came = omega (arith, left);
        most = omega (arith, l, same);
        empty = λ never. cc;
        ended = λ never. cc;
        known = refl;
        capacity = refl;
      }

pub is_read : (b : Arriving) → IsRead b (after_call b (ReassemblyCall.Read 65536)) (reply_to b (ReassemblyCall.Read 65536))
is_read b = elim b.aborted as (λ o. IsRead b (if is_some o then b else after_reading 65536 b) (reading o 65536 b)) [
  | None ↦ bytes_read b (take 65536 (filled b.places)) refl
  | Some by_peer ↦ record { read = omega arith; came = refl; most = omega arith; empty = λ nil. inr refl; ended = λ ends. inr refl; known = refl; capacity = refl }
]

-- ---- what arrives

-- as much was read, and no less has arrived
pub record IsGrown (b c : Arriving) : Type 0 where
  pub read : c.read ≡ b.read
  pub grows : received b ≤ received c
  pub known : (e : ℕ) → b.known_end ≡ Some e → c.known_end ≡ Some e
  pub capacity : c.capacity ≡ b.capacity

pub stays_grown : (b : Arriving) → IsGrown b b
stays_grown b = record { read = refl; grows = omega arith; known = λ e is. is; capacity = refl }

merged_more : (xs ys : List (Option ℕ)) → length (filled xs) ≤ length (filled (merged xs ys))
merged_more [] ys = omega arith
merged_more (None ∷ xs) ys = omega arith
merged_more (Some x ∷ xs) [] = omega arith
merged_more (Some x ∷ xs) (y ∷ ys) = let rest = merged_more xs ys in omega (arith, rest)

-- a book that is aborted keeps what it has
pub aborts : (by_peer : Bool) (b : Arriving) → IsGrown b (after_call b (ReassemblyCall.Abort by_peer))
aborts by_peer b = record { read = refl; grows = omega arith; known = λ e is. is; capacity = refl }

pub arrives : (b : Arriving) (call : ReassemblyCall) → IsArrival call → IsGrown b (after_call b call)
arrives b (ReassemblyCall.Place at bytes) is = by (is_taken at bytes b)
  where
    by : (c : Bool) → IsGrown b (if c then record b { places = places_after at bytes b } else b)
    by true = record {
      read = refl;
      grows = (let more = merged_more b.places (drop b.read (by_place at bytes)) in omega (arith, more));
      known = λ e is. is;
      capacity = refl;
    }
    by false = stays_grown b
arrives b (ReassemblyCall.Fin at) is = record {
  read = read (is_some (fin_clash b.known_end at b));
  grows = (let same = same_received (is_some (fin_clash b.known_end at b)) in omega (arith, same));
  known = λ e known. known_end_stays (ReassemblyCall.Fin at ∷ []) b e known;
  capacity = capacity (is_some (fin_clash b.known_end at b));
}
  where
    read : (c : Bool) → (if c then b else record b { known_end = Some at }).read ≡ b.read
    read = elim [ true ↦ refl | false ↦ refl ]

    same_received : (c : Bool) → received (if c then b else record b { known_end = Some at }) ≡ received b
    same_received = elim [ true ↦ refl | false ↦ refl ]

    capacity : (c : Bool) → (if c then b else record b { known_end = Some at }).capacity ≡ b.capacity
    capacity = elim [ true ↦ refl | false ↦ refl ]
arrives b ReassemblyCall.AckOut is = stays_grown b
arrives b (ReassemblyCall.Read max) is = absurd is
arrives b (ReassemblyCall.Abort by_peer) is = aborts by_peer b

-- ---- a reader with its book

-- a reader was told that the connection was aborted
abbrev pub WasStopped : List Note → Type 0
WasStopped notes = was_told tells_stop notes ≡ true

stopped_more : (notes : List Note) (n : Note) → WasStopped notes → WasStopped (notes ++ n ∷ [])
stopped_more notes n is = any_more (note_tells tells_stop) notes n ∙ ap (λ b. b || tells_stop n.reply) is

stopped_now : (notes : List Note) (n : Note) → tells_stop n.reply ≡ true → WasStopped (notes ++ n ∷ [])
stopped_now notes n is = any_more (note_tells tells_stop) notes n ∙ ap (λ b. was_told tells_stop notes || b) is ∙ or_true (was_told tells_stop notes)

-- the book is sound, and it gave what the steps of the application read; a reader that was told the end is there
pub record Reading (a : AppState) (notes : List Note) (b : Arriving) : Type 0 where
  pub sound : IsSound b
  pub capacity : b.capacity ≡ a.buffer
  pub whole : length (read_by notes) ≡ b.read
  pub told : a.told ≡ true → (b.known_end ≡ Some b.read) ⊎ WasStopped notes

-- where the round began with so many bytes that had arrived, and so many that were read
pub record InRound (arrived read : ℕ) (a : AppState) (b : Arriving) : Type 0 where
  pub from : arrived ≤ read + a.buffer
  pub count : b.read ≡ read + a.count
  pub within : arrived ≤ received b

-- all that had arrived is read, or the reader was told that the connection was aborted
abbrev pub IsThrough : ℕ → ℕ → List Note → Type 0
IsThrough arrived now notes = (arrived ≤ now) ⊎ WasStopped notes

pub through_more : (arrived now : ℕ) (notes : List Note) (n : Note) → IsThrough arrived now notes → IsThrough arrived now (notes ++ n ∷ [])
through_more arrived now notes n (inl all) = inl all
through_more arrived now notes n (inr stopped) = inr (stopped_more notes n stopped)

-- what is ahead in the turn, at whose end this is so
abbrev pub Ahead : Type 0 → List AppDuty → Type 0
Ahead done [] = done
Ahead done (End ∷ ds) = (ds ≡ []) × done
Ahead done (Read ∷ ds) = ds ≡ End ∷ []
Ahead done (Close ∷ ds) = ds ≡ Read ∷ End ∷ []
Ahead done (Write ∷ ds) = ds ≡ Close ∷ Read ∷ End ∷ []
Ahead done (AbortReceive ∷ ds) = ds ≡ Write ∷ Close ∷ Read ∷ End ∷ []
Ahead done (AbortSend ∷ ds) = ds ≡ AbortReceive ∷ Write ∷ Close ∷ Read ∷ End ∷ []
Ahead done (FastClose ∷ ds) = ds ≡ AbortSend ∷ AbortReceive ∷ Write ∷ Close ∷ Read ∷ End ∷ []

-- all that had arrived is read where the end was told
data_fin_reached : (arrived : ℕ) (a : AppState) (notes : List Note) (b : Arriving) → Reading a notes b → arrived ≤ received b → a.told ≡ true → IsThrough arrived b.read notes
data_fin_reached arrived a notes b h within told = elim (h.told told) [
  | inr stopped ↦ inr stopped
  | inl known ↦ let ends : b.read + length b.places ≤ b.read = subst (λ o. IfSome o (λ e. b.read + length b.places ≤ e)) known h.sound.ends in let l = filled-le b.places in inl (omega (arith, ends, l, within))
]

passed_ahead : (done : Type 0) (d : AppDuty) (ds : List AppDuty) (a : AppState) → app_stands d a ≡ false → (a.told ≡ true → done) → Ahead done (d ∷ ds) → Ahead done ds
passed_ahead done Read ds a none told h = subst (Ahead done) (sym h) (refl, told (not-false a.told none))
passed_ahead done End ds a none told h = cc
passed_ahead done _ ds a none told h = subst (Ahead done) (sym h) refl

settled_ahead : (done : Type 0) (ds : List AppDuty) (a : AppState) → (a.told ≡ true → done) → Ahead done ds → Ahead done (app_settled ds a).agenda
settled_ahead done [] a told h = h
settled_ahead done (d ∷ ds) a told h =
    (elim (app_stands d a) as (λ b. app_stands d a ≡ b → (app_stands d a ≡ false → Ahead done (app_settled ds a).agenda) → Ahead done (if b then record a { agenda = d ∷ ds } else app_settled ds a).agenda) [
      | true ↦ λ is rest. h
      | false ↦ λ is rest. rest is
    ]) refl (λ none. settled_ahead done ds a told (passed_ahead done d ds a none told h))

pub record Caught (arrived read : ℕ) (a : AppState) (notes : List Note) (b : Arriving) : Type 0 where
  pub reading : Reading a notes b
  pub numbers : InRound arrived read a b
  pub ahead : Ahead (IsThrough arrived b.read notes) a.agenda

same_reading : (ds : List AppDuty) (a : AppState) (notes : List Note) (b : Arriving) → Reading a notes b → Reading (record a { agenda = ds }) notes b
same_reading ds a notes b h = record { sound = h.sound; capacity = h.capacity; whole = h.whole; told = h.told }

same_numbers : (arrived read : ℕ) (ds : List AppDuty) (a : AppState) (b : Arriving) → InRound arrived read a b → InRound arrived read (record a { agenda = ds }) b
same_numbers arrived read ds a b h = record { from = h.from; count = h.count; within = h.within }

-- settling changes the agenda alone
pub settled_caught : (arrived read : ℕ) (ds : List AppDuty) (a : AppState) (notes : List Note) (b : Arriving) → Reading a notes b → InRound arrived read a b → Ahead (IsThrough arrived b.read notes) ds
    → Caught arrived read (app_settled ds a) notes b
settled_caught arrived read ds a notes b h n ahead =
    let st : Settles a (app_settled ds a) = settled_app ds a in
    record {
      reading = subst (λ m. Reading m notes b) (sym st.is) (same_reading st.agenda a notes b h);
      numbers = subst (λ m. InRound arrived read m b) (sym st.is) (same_numbers arrived read st.agenda a b n);
      ahead = settled_ahead (IsThrough arrived b.read notes) ds a (λ told. data_fin_reached arrived a notes b h n.within told) ahead;
    }

-- ---- the book goes on without the reader

pub grown_reading : (a : AppState) (notes : List Note) (b c : Arriving) → IsSound c → IsGrown b c → Reading a notes b → Reading a notes c
grown_reading a notes b c sound g h = record {
  sound = sound;
  capacity = g.capacity ∙ h.capacity;
  whole = h.whole ∙ sym g.read;
  told = λ is. ⊎_elim (λ known. inl (g.known b.read known ∙ ap (λ n. Some n) (sym g.read))) (λ stopped. inr stopped) (h.told is);
}

pub grown_caught : (arrived read : ℕ) (a : AppState) (notes : List Note) (b c : Arriving) → IsSound c → IsGrown b c → Caught arrived read a notes b → Caught arrived read a notes c
grown_caught arrived read a notes b c sound g h = record {
  reading = grown_reading a notes b c sound g h.reading;
  numbers = record { from = h.numbers.from; count = g.read ∙ h.numbers.count; within = omega (arith, h.numbers.within, g.grows) };
  ahead = subst (λ now. Ahead (IsThrough arrived now notes) a.agenda) (sym g.read) h.ahead;
}

-- ---- steps of the reader

noted_more : (notes : List Note) (n : Note) → length (read_by (notes ++ n ∷ [])) ≡ length (read_by notes) + length (bytes_noted n)
noted_more [] n = let same = ap (λ (xs : List ℕ). length xs) (append-nil (bytes_noted n)) in omega (arith, same)
noted_more (m ∷ notes) n =
    let rest = noted_more notes n in
    let one = length-append (bytes_noted m) (read_by (notes ++ n ∷ [])) in let two = length-append (bytes_noted m) (read_by notes) in
    omega (arith, rest, one, two)

-- a step that reads nothing
pub noted_reading : (a : AppState) (notes : List Note) (n : Note) (b : Arriving) → bytes_noted n ≡ [] → Reading a notes b → Reading a (notes ++ n ∷ []) b
noted_reading a notes n b none h =
    let more = noted_more notes n in let zero_is : length (bytes_noted n) ≡ 0 = ap (λ (xs : List ℕ). length xs) none in
    record {
      sound = h.sound;
      capacity = h.capacity;
      whole = omega (arith, more, zero_is, h.whole);
      told = λ is. ⊎_elim (λ known. inl known) (λ stopped. inr (stopped_more notes n stopped)) (h.told is);
    }

module _ (arrived read : ℕ) (a : AppState) (notes : List Note) (n : Note) where
  -- a read
  module _ (b c : Arriving) (x : ReassemblyReply) (sound : IsSound c) (is : IsRead b c x) (noted : n.reply ≡ Reply.Reassembly x) (h : Reading a notes b) where
    abbrev later : List AppDuty → AppState
    later ds = record a { count = a.count + length (bytes_in (Reply.Reassembly x)); told = a.told || ends_in (Reply.Reassembly x); agenda = ds }

    -- the step tells of an abort
    stops_now : tells_stop (Reply.Reassembly x) ≡ true → WasStopped (notes ++ n ∷ [])
    stops_now is = stopped_now notes n (ap tells_stop noted ∙ is)

    -- the end is where it was
    end_kept : b.known_end ≡ Some b.read → c.known_end ≡ Some c.read
    end_kept known =
        let ends : b.read + length b.places ≤ b.read = subst (λ o. IfSome o (λ e. b.read + length b.places ≤ e)) known h.sound.ends in
        let l = filled-le b.places in
        let same : b.read ≡ c.read = omega (arith, is.read, is.most, l, ends) in
        is.known ∙ known ∙ ap (λ m. Some m) same

    told_at : (t e : Bool) → a.told ≡ t → ends_in (Reply.Reassembly x) ≡ e → (t || e) ≡ true → (c.known_end ≡ Some c.read) ⊎ WasStopped (notes ++ n ∷ [])
    told_at true e told ends either = ⊎_elim (λ known. inl (end_kept known)) (λ stopped. inr (stopped_more notes n stopped)) (h.told told)
    told_at false true told ends either = ⊎_elim (λ known. inl (end_kept known)) (λ stopped. inr (stops_now stopped)) (is.ended ends)
    told_at false false told ends either = cc

    pub read_reading : (ds : List AppDuty) → Reading (later ds) (notes ++ n ∷ []) c
    read_reading ds =
        let more = noted_more notes n in
        let same : length (bytes_noted n) ≡ length (bytes_in (Reply.Reassembly x)) = ap (λ r. length (bytes_in r)) noted in
        record {
          sound = sound;
          capacity = is.capacity ∙ h.capacity;
          whole = omega (arith, more, same, h.whole, is.read);
          told = λ told. told_at a.told (ends_in (Reply.Reassembly x)) refl refl told;
        }

    read_numbers : InRound arrived read a b → (ds : List AppDuty) → InRound arrived read (later ds) c
    read_numbers m ds = record { from = m.from; count = omega (arith, is.read, m.count); within = omega (arith, is.came, m.within) }

    -- where it reads no more it has read all that had arrived
    stops : InRound arrived read a b → app_reads_on (bytes_in (Reply.Reassembly x)) a ≡ false → IsThrough arrived c.read (notes ++ n ∷ [])
    stops m off = ⊎_elim
        (λ nil. ⊎_elim (λ none. inl (omega (arith, none, m.within, is.read))) (λ stopped. inr (stops_now stopped)) (is.empty (nothing (bytes_in (Reply.Reassembly x)) nil)))
        (λ full. let enough = ltb-false (a.count + length (bytes_in (Reply.Reassembly x))) a.buffer full in inl (omega (arith, enough, m.from, m.count, is.read)))
        (and_cases (not (is_nil (bytes_in (Reply.Reassembly x)))) (nat_lt (a.count + length (bytes_in (Reply.Reassembly x))) a.buffer) off)
      where
        nothing : (bytes : List ℕ) → not (is_nil bytes) ≡ false → bytes ≡ []
        nothing = elim [ [] ↦ λ nil. refl | byte ∷ bytes ↦ λ nil. cc ]

    pub read_ahead : InRound arrived read a b → (ds : List AppDuty) → ds ≡ End ∷ [] → (on : Bool) → app_reads_on (bytes_in (Reply.Reassembly x)) a ≡ on
        → Ahead (IsThrough arrived c.read (notes ++ n ∷ [])) (if on then Read ∷ ds else ds)
    read_ahead m ds then_end true is_on = then_end
    read_ahead m ds then_end false off = subst (Ahead (IsThrough arrived c.read (notes ++ n ∷ []))) (sym then_end) (refl, stops m off)

    pub read_caught : InRound arrived read a b → (ds : List AppDuty) → ds ≡ End ∷ [] → (on : Bool) → app_reads_on (bytes_in (Reply.Reassembly x)) a ≡ on
        → Caught arrived read (app_settled (if on then Read ∷ ds else ds) (later (if on then Read ∷ ds else ds))) (notes ++ n ∷ []) c
    read_caught m ds then_end on is_on =
        let es : List AppDuty = if on then Read ∷ ds else ds in
        settled_caught arrived read es (later es) (notes ++ n ∷ []) c (read_reading es) (read_numbers m es) (read_ahead m ds then_end on is_on)
