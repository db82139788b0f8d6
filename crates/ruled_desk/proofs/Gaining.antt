-- What the passes of a round note is what the actors' lists gained, so the journals gained it.
use Rattle.ruled_desk.proofs.Words.{◌≡◌, refl, sym, ◌∙◌, ap, subst, ℕ, zero, suc, ◌<◌, ◌⊎◌, inl, inr, Bool, false, List, [], ◌∷◌, ◌++◌, length, map, Option}
use Rattle.ruled_desk.proofs.Words.{Some, None, arith, map-append, append_cancel_left, get_or-map, length-map, MatchOption, All, slice_index_or, Journaled}
use Rattle.ruled_desk.proofs.Words.{Entry, Ask, Note, Reply, is_local, send_note, reassembly_note, control_note, NotesOneMore, noted_all, GainsJust, Rider}
use Rattle.ruled_desk.proofs.Words.{Rode, all_joined, given_pass, known_with, notes_held, SixLocked, SixKnown, Passed, nothing_known, AllGainJust, all_known}
use Rattle.ruled_desk.proofs.Words.{notes_by}
use Rattle.std.specs.List.{Contains}
use Rattle.sides.specs.declared.side.Side.{Side}
use Rattle.actor_desk.specs.Books.{StampedBooks}
use Rattle.actor_desk.specs.Noted.{BookNotes, notes_in, with_note}
use Rattle.ruled_desk.specs.Gaining.{by_book, list_at, GoesOn, IsGained, GainAlike}

-- ---- who stands in a list

module _ {X : Type 0} where
  abbrev pub In : X → List X → Type 0
  In x [] = ⊥
  In x (y ∷ ys) = (y ≡ x) ⊎ In x ys

  pub in_contains : (xs : List X) (x : X) → In x xs → Contains xs x
  in_contains [] x h = absurd h
  in_contains (y ∷ ys) x (inl e) = (0, omega arith, e)
  in_contains (y ∷ ys) x (inr h) = let there = in_contains ys x h in (suc there.0, omega (arith, there.1), there.2)

  at_in : (xs : List X) (x : X) (k : ℕ) → k < length xs → slice_index_or xs k x ≡ x → In x xs
  at_in [] x k within is = absurd (omega (arith, within))
  at_in (y ∷ ys) x zero within is = inl is
  at_in (y ∷ ys) x (suc k) within is = inr (at_in ys x k (omega (arith, within)) is)

  pub contains_in : (xs : List X) (x : X) → Contains xs x → In x xs
  contains_in xs x h = at_in xs x h.0 h.1 h.2

  pub in_append : (xs ys : List X) (x : X) → In x (xs ++ ys) → In x xs ⊎ In x ys
  in_append [] ys x h = inr h
  in_append (y ∷ xs) ys x (inl e) = inl (inl e)
  in_append (y ∷ xs) ys x (inr h) = elim (in_append xs ys x h) [ inl g ↦ inl (inr g) | inr g ↦ inr g ]

  pub in_left : (xs ys : List X) (x : X) → In x xs → In x (xs ++ ys)
  in_left [] ys x h = absurd h
  in_left (y ∷ xs) ys x (inl e) = inl e
  in_left (y ∷ xs) ys x (inr h) = inr (in_left xs ys x h)

  pub in_right : (xs ys : List X) (x : X) → In x ys → In x (xs ++ ys)
  in_right [] ys x h = h
  in_right (y ∷ xs) ys x h = inr (in_right xs ys x h)

in_map : {X Y : Type 0} (f : X → Y) (xs : List X) (y : Y) → In y (map f xs) → (x : X) × In x xs × (f x ≡ y)
in_map f [] y h = absurd h
in_map f (x ∷ xs) y (inl e) = (x, inl refl, e)
in_map f (x ∷ xs) y (inr h) = let there = in_map f xs y h in (there.0, inr there.1, there.2)

map_in : {X Y : Type 0} (f : X → Y) (xs : List X) (x : X) → In x xs → In (f x) (map f xs)
map_in f [] x h = absurd h
map_in f (y ∷ xs) x (inl e) = inl (ap f e)
map_in f (y ∷ xs) x (inr h) = inr (map_in f xs x h)

-- lists with the same members have the same members of any kind
same_map : {X Y : Type 0} (f : X → Y) (xs ys : List X) → ((x : X) → Contains xs x → Contains ys x) → (y : Y) → In y (map f xs) → In y (map f ys)
same_map f xs ys same y h =
    let there = in_map f xs y h in
    subst (λ z. In z (map f ys)) there.2 (map_in f ys there.0 (contains_in ys there.0 (same there.0 (in_contains xs there.0 there.1))))

-- ---- lists side by side

abbrev zipped : List (List Note) → List (List Note) → List (List Note)
zipped [] yss = []
zipped (xs ∷ xss) [] = xs ∷ xss
zipped (xs ∷ xss) (ys ∷ yss) = (xs ++ ys) ∷ zipped xss yss

at_zipped : (xss yss : List (List Note)) (k : ℕ) → length xss ≡ length yss → list_at (zipped xss yss) k ≡ list_at xss k ++ list_at yss k
at_zipped [] [] k long = refl
at_zipped [] (ys ∷ yss) k long = absurd (omega (arith, long))
at_zipped (xs ∷ xss) [] k long = absurd (omega (arith, long))
at_zipped (xs ∷ xss) (ys ∷ yss) zero long = refl
at_zipped (xs ∷ xss) (ys ∷ yss) (suc k) long = at_zipped xss yss k (omega (arith, long))

-- a note more in the list of this place
abbrev put_at : List (List Note) → ℕ → Note → List (List Note)
put_at [] place x = []
put_at (xs ∷ xss) zero x = (xs ++ x ∷ []) ∷ xss
put_at (xs ∷ xss) (suc place) x = xs ∷ put_at xss place x

put_in : (xss : List (List Note)) (place k : ℕ) (x y : Note) → In y (list_at (put_at xss place x) k) → In y (list_at xss k) ⊎ ((x ≡ y) × (place ≡ k))
put_in [] place k x y h = inl h
put_in (xs ∷ xss) zero zero x y h = by (in_append xs (x ∷ []) y h)
  where
    by : In y xs ⊎ In y (x ∷ []) → In y xs ⊎ ((x ≡ y) × (zero ≡ zero))
    by (inl old) = inl old
    by (inr (inl new)) = inr (new, refl)
    by (inr (inr none)) = absurd none
put_in (xs ∷ xss) zero (suc k) x y h = inl h
put_in (xs ∷ xss) (suc place) zero x y h = inl h
put_in (xs ∷ xss) (suc place) (suc k) x y h = elim (put_in xss place k x y h) [ inl old ↦ inl old | inr new ↦ inr (new.0, ap suc new.1) ]

put_stays : (xss : List (List Note)) (place k : ℕ) (x y : Note) → In y (list_at xss k) → In y (list_at (put_at xss place x) k)
put_stays [] place k x y h = h
put_stays (xs ∷ xss) zero zero x y h = in_left xs (x ∷ []) y h
put_stays (xs ∷ xss) zero (suc k) x y h = h
put_stays (xs ∷ xss) (suc place) zero x y h = h
put_stays (xs ∷ xss) (suc place) (suc k) x y h = put_stays xss place k x y h

put_there : (xss : List (List Note)) (place : ℕ) (x : Note) → place < length xss → In x (list_at (put_at xss place x) place)
put_there [] place x within = absurd (omega (arith, within))
put_there (xs ∷ xss) zero x within = in_right xs (x ∷ []) x (inl refl)
put_there (xs ∷ xss) (suc place) x within = put_there xss place x (omega (arith, within))

-- ---- the asked book

-- its place among the six; none of them where nobody is asked
abbrev place_of : Ask → ℕ
place_of (Ask.Send Side.A call) = 0
place_of (Ask.Send Side.B call) = 1
place_of (Ask.Reassembly Side.A call) = 2
place_of (Ask.Reassembly Side.B call) = 3
place_of (Ask.Control Side.A call) = 4
place_of (Ask.Control Side.B call) = 5
place_of (Ask.Local step) = 6

asked_place : (ask : Ask) → is_local ask ≡ false → place_of ask < 6
asked_place (Ask.Send Side.A call) e = omega arith
asked_place (Ask.Send Side.B call) e = omega arith
asked_place (Ask.Reassembly Side.A call) e = omega arith
asked_place (Ask.Reassembly Side.B call) e = omega arith
asked_place (Ask.Control Side.A call) e = omega arith
asked_place (Ask.Control Side.B call) e = omega arith
asked_place (Ask.Local step) e = cc

put_by_book : (ask : Ask) (note : Note) (notes : BookNotes) → by_book (with_note ask note notes) ≡ put_at (by_book notes) (place_of ask) note
put_by_book (Ask.Send Side.A call) note notes = refl
put_by_book (Ask.Send Side.B call) note notes = refl
put_by_book (Ask.Reassembly Side.A call) note notes = refl
put_by_book (Ask.Reassembly Side.B call) note notes = refl
put_by_book (Ask.Control Side.A call) note notes = refl
put_by_book (Ask.Control Side.B call) note notes = refl
put_by_book (Ask.Local step) note notes = refl

-- ---- the notes of a turn, by book

abbrev all_with : BookNotes → List Note → BookNotes
all_with books [] = books
all_with books (note ∷ notes) = all_with (with_note note.ask note books) notes

noted_with : (books : BookNotes) (notes : List Note) → noted_all (Some books) notes ≡ Some (all_with books notes)
noted_with books [] = refl
noted_with books (note ∷ notes) = noted_with (with_note note.ask note books) notes

all_in : (books : BookNotes) (notes : List Note) (k : ℕ) (y : Note) → In y (list_at (by_book (all_with books notes)) k)
    → In y (list_at (by_book books) k) ⊎ (In y notes × (place_of y.ask ≡ k))
all_in books [] k y h = inl h
all_in books (note ∷ notes) k y h = elim (all_in (with_note note.ask note books) notes k y h)
    [ inl here ↦ first (put_in (by_book books) (place_of note.ask) k note y (subst (λ xss. In y (list_at xss k)) (put_by_book note.ask note books) here)) | inr later ↦ inr (inr later.0, later.1) ]
  where
    first : In y (list_at (by_book books) k) ⊎ ((note ≡ y) × (place_of note.ask ≡ k)) → In y (list_at (by_book books) k) ⊎ (In y (note ∷ notes) × (place_of y.ask ≡ k))
    first (inl old) = inl old
    first (inr new) = inr (inl new.0, sym (ap (λ (n : Note). place_of n.ask) new.0) ∙ new.1)

all_stays : (books : BookNotes) (notes : List Note) (k : ℕ) (y : Note) → In y (list_at (by_book books) k) → In y (list_at (by_book (all_with books notes)) k)
all_stays books [] k y h = h
all_stays books (note ∷ notes) k y h =
    all_stays (with_note note.ask note books) notes k y
    (subst (λ xss. In y (list_at xss k)) (sym (put_by_book note.ask note books)) (put_stays (by_book books) (place_of note.ask) k note y h))

all_there : (books : BookNotes) (notes : List Note) (y : Note) → In y notes → place_of y.ask < 6
    → In y (list_at (by_book (all_with books notes)) (place_of y.ask))
all_there books [] y h within = absurd h
all_there books (note ∷ notes) y (inl e) within =
    all_stays (with_note note.ask note books) notes (place_of y.ask) y
    (subst (λ xss. In y (list_at xss (place_of y.ask))) (sym (put_by_book note.ask note books))
    (subst (λ (n : Note). In y (list_at (put_at (by_book books) (place_of n.ask) n) (place_of y.ask))) (sym e)
    (put_there (by_book books) (place_of y.ask) y within)))
all_there books (note ∷ notes) y (inr h) within = all_there (with_note note.ask note books) notes y h within

-- ---- what a pass notes

-- the pass notes this of the book of this place
abbrev pub InPass : ℕ → Note → Option Passed → Type 0
InPass k y None = ⊥
InPass k y (Some pass) = In y (list_at (by_book (notes_by pass.books)) k)

none_yet : (desk : SixLocked) (k : ℕ) (y : Note) → In y (list_at (by_book (notes_by (nothing_known desk))) k) → ⊥
none_yet desk zero y h = h
none_yet desk (suc zero) y h = h
none_yet desk (suc (suc zero)) y h = h
none_yet desk (suc (suc (suc zero))) y h = h
none_yet desk (suc (suc (suc (suc zero)))) y h = h
none_yet desk (suc (suc (suc (suc (suc zero))))) y h = h
none_yet desk (suc (suc (suc (suc (suc (suc k)))))) y h = h

some_same : (a b : BookNotes) → Some a ≡ Some b → a ≡ b
some_same a b e = cc

-- what it notes of a turn that it began with nothing
pass_is : (desk : SixLocked) (pass : Passed) (notes : List Note) → Some (notes_by pass.books) ≡ noted_all (Some (notes_by (nothing_known desk))) notes
    → notes_by pass.books ≡ all_with (notes_by (nothing_known desk)) notes
pass_is desk pass notes e = some_same _ _ (e ∙ noted_with (notes_by (nothing_known desk)) notes)

pub pass_in : (desk : SixLocked) (pass : Option Passed) (notes : List Note) → notes_held pass ≡ noted_all (Some (notes_by (nothing_known desk))) notes
    → (k : ℕ) (y : Note) → InPass k y pass → In y notes × (place_of y.ask ≡ k)
pass_in desk None notes e k y h = absurd h
pass_in desk (Some pass) notes e k y h =
    elim (all_in (notes_by (nothing_known desk)) notes k y (subst (λ b. In y (list_at (by_book b) k)) (pass_is desk pass notes e) h))
    [ inl none ↦ absurd (none_yet desk k y none) | inr some ↦ some ]

none_noted : (books : BookNotes) (notes : List Note) → None ≡ noted_all (Some books) notes → ⊥
none_noted books notes e = let clash : None ≡ Some (all_with books notes) = e ∙ noted_with books notes in cc

pub in_pass : (desk : SixLocked) (pass : Option Passed) (notes : List Note) → notes_held pass ≡ noted_all (Some (notes_by (nothing_known desk))) notes
    → (y : Note) → In y notes → place_of y.ask < 6 → InPass (place_of y.ask) y pass
in_pass desk None notes e y h within = absurd (none_noted (notes_by (nothing_known desk)) notes e)
in_pass desk (Some pass) notes e y h within =
    subst (λ b. In y (list_at (by_book b) (place_of y.ask))) (sym (pass_is desk pass notes e))
    (all_there (notes_by (nothing_known desk)) notes y h within)

-- ---- what the root knows then

known_zips : (books more : SixKnown) → by_book (notes_by (all_known books more)) ≡ zipped (by_book (notes_by books)) (by_book (notes_by more))
known_zips books more =
    rw (
      map-append (send_note Side.A) books.send_a.own more.send_a.own,
      map-append (send_note Side.B) books.send_b.own more.send_b.own,
      map-append (reassembly_note Side.A) books.reassembly_a.own more.reassembly_a.own,
      map-append (reassembly_note Side.B) books.reassembly_b.own more.reassembly_b.own,
      map-append (control_note Side.A) books.control_a.own more.control_a.own,
      map-append (control_note Side.B) books.control_b.own more.control_b.own,
    ) refl

known_at : (books more : SixKnown) (k : ℕ)
    → list_at (by_book (notes_by (all_known books more))) k ≡ list_at (by_book (notes_by books)) k ++ list_at (by_book (notes_by more)) k
known_at books more k = ap (λ xss. list_at xss k) (known_zips books more) ∙ at_zipped (by_book (notes_by books)) (by_book (notes_by more)) k refl

with_in : (books : SixKnown) (pass : Option Passed) (k : ℕ) (y : Note) → In y (list_at (by_book (notes_by (known_with books pass))) k)
    → In y (list_at (by_book (notes_by books)) k) ⊎ InPass k y pass
with_in books None k y h = inl h
with_in books (Some pass) k y h =
    in_append (list_at (by_book (notes_by books)) k) (list_at (by_book (notes_by pass.books)) k) y (subst (In y) (known_at books pass.books k) h)

with_stays : (books : SixKnown) (pass : Option Passed) (k : ℕ) (y : Note) → In y (list_at (by_book (notes_by books)) k)
    → In y (list_at (by_book (notes_by (known_with books pass))) k)
with_stays books None k y h = h
with_stays books (Some pass) k y h =
    subst (In y) (sym (known_at books pass.books k)) (in_left (list_at (by_book (notes_by books)) k) (list_at (by_book (notes_by pass.books)) k) y h)

with_there : (books : SixKnown) (pass : Option Passed) (k : ℕ) (y : Note) → InPass k y pass → In y (list_at (by_book (notes_by (known_with books pass))) k)
with_there books None k y h = absurd h
with_there books (Some pass) k y h =
    subst (In y) (sym (known_at books pass.books k)) (in_right (list_at (by_book (notes_by books)) k) (list_at (by_book (notes_by pass.books)) k) y h)

module _ {A : Type 0} where
  -- some rider's pass notes it
  abbrev pub SomePass : List (Rider A) → ℕ → Note → Type 0
  SomePass riders k y = (i : ℕ) × (i < length riders) × ((d : Rider A) → InPass k y (slice_index_or riders i d).pass)

  pub joined_in : (books : SixKnown) (riders : List (Rider A)) (k : ℕ) (y : Note) → In y (list_at (by_book (notes_by (all_joined books riders))) k)
      → In y (list_at (by_book (notes_by books)) k) ⊎ SomePass riders k y
  joined_in books [] k y h = inl h
  joined_in books (rider ∷ riders) k y h = elim (joined_in (known_with books rider.pass) riders k y h)
      [ inl here ↦ first (with_in books rider.pass k y here) | inr later ↦ inr (suc later.0, omega (arith, later.1), λ d. later.2 d) ]
    where
      first : In y (list_at (by_book (notes_by books)) k) ⊎ InPass k y rider.pass → In y (list_at (by_book (notes_by books)) k) ⊎ SomePass (rider ∷ riders) k y
      first = elim [ inl old ↦ inl old | inr new ↦ inr (0, omega arith, λ d. new) ]

  joined_stays : (books : SixKnown) (riders : List (Rider A)) (k : ℕ) (y : Note) → In y (list_at (by_book (notes_by books)) k)
      → In y (list_at (by_book (notes_by (all_joined books riders))) k)
  joined_stays books [] k y h = h
  joined_stays books (rider ∷ riders) k y h = joined_stays (known_with books rider.pass) riders k y (with_stays books rider.pass k y h)

  pub joined_there : (books : SixKnown) (riders : List (Rider A)) (k i : ℕ) (d : Rider A) (y : Note) → i < length riders
      → InPass k y (slice_index_or riders i d).pass → In y (list_at (by_book (notes_by (all_joined books riders))) k)
  joined_there books [] k i d y within h = absurd (omega (arith, within))
  joined_there books (rider ∷ riders) k zero d y within h = joined_stays (known_with books rider.pass) riders k y (with_there books rider.pass k y h)
  joined_there books (rider ∷ riders) k (suc i) d y within h = joined_there (known_with books rider.pass) riders k i d y (omega (arith, within)) h

-- ---- what the journals gained

module _ (before after : StampedBooks) (known : SixKnown) (gains : AllGainJust before after known) where
  -- the gained entries, as notes
  abbrev gained_notes : BookNotes
  gained_notes = record {
    send_a = map (send_note Side.A) gains.send_a.gained;
    send_b = map (send_note Side.B) gains.send_b.gained;
    reassembly_a = map (reassembly_note Side.A) gains.reassembly_a.gained;
    reassembly_b = map (reassembly_note Side.B) gains.reassembly_b.gained;
    control_a = map (control_note Side.A) gains.control_a.gained;
    control_b = map (control_note Side.B) gains.control_b.gained;
  }

  grew : {O C R : Type 0} (f : Entry C R → Note) (old new : Journaled O C R) (own : List (Entry C R)) (full : Bool) → (g : GainsJust old new own full)
      → map f new.journal ≡ map f old.journal ++ map f g.gained
  grew f old new own full g = ap (λ (j : Journaled _ _ _). map f j.journal) g.new_is ∙ map-append f old.journal g.gained

  after_zips : by_book (notes_in after) ≡ zipped (by_book (notes_in before)) (by_book gained_notes)
  after_zips =
      rw (
        grew (send_note Side.A) before.send_a after.send_a known.send_a.own known.send_a.full gains.send_a,
        grew (send_note Side.B) before.send_b after.send_b known.send_b.own known.send_b.full gains.send_b,
        grew (reassembly_note Side.A) before.reassembly_a after.reassembly_a known.reassembly_a.own known.reassembly_a.full gains.reassembly_a,
        grew (reassembly_note Side.B) before.reassembly_b after.reassembly_b known.reassembly_b.own known.reassembly_b.full gains.reassembly_b,
        grew (control_note Side.A) before.control_a after.control_a known.control_a.own known.control_a.full gains.control_a,
        grew (control_note Side.B) before.control_b after.control_b known.control_b.own known.control_b.full gains.control_b,
      ) refl

  gained_at : (k : ℕ) → list_at (by_book (notes_in after)) k ≡ list_at (by_book (notes_in before)) k ++ list_at (by_book gained_notes) k
  gained_at k = ap (λ xss. list_at xss k) after_zips ∙ at_zipped (by_book (notes_in before)) (by_book gained_notes) k refl

  gained_in : (k : ℕ) (y : Note) → In y (list_at (by_book gained_notes) k) → In y (list_at (by_book (notes_by known)) k)
  gained_in zero y h = same_map (send_note Side.A) gains.send_a.gained known.send_a.own gains.send_a.others y h
  gained_in (suc zero) y h = same_map (send_note Side.B) gains.send_b.gained known.send_b.own gains.send_b.others y h
  gained_in (suc (suc zero)) y h = same_map (reassembly_note Side.A) gains.reassembly_a.gained known.reassembly_a.own gains.reassembly_a.others y h
  gained_in (suc (suc (suc zero))) y h = same_map (reassembly_note Side.B) gains.reassembly_b.gained known.reassembly_b.own gains.reassembly_b.others y h
  gained_in (suc (suc (suc (suc zero)))) y h = same_map (control_note Side.A) gains.control_a.gained known.control_a.own gains.control_a.others y h
  gained_in (suc (suc (suc (suc (suc zero))))) y h = same_map (control_note Side.B) gains.control_b.gained known.control_b.own gains.control_b.others y h
  gained_in (suc (suc (suc (suc (suc (suc k)))))) y h = h

  known_in : (k : ℕ) (y : Note) → In y (list_at (by_book (notes_by known)) k) → In y (list_at (by_book gained_notes) k)
  known_in zero y h = same_map (send_note Side.A) known.send_a.own gains.send_a.gained gains.send_a.known y h
  known_in (suc zero) y h = same_map (send_note Side.B) known.send_b.own gains.send_b.gained gains.send_b.known y h
  known_in (suc (suc zero)) y h = same_map (reassembly_note Side.A) known.reassembly_a.own gains.reassembly_a.gained gains.reassembly_a.known y h
  known_in (suc (suc (suc zero))) y h = same_map (reassembly_note Side.B) known.reassembly_b.own gains.reassembly_b.gained gains.reassembly_b.known y h
  known_in (suc (suc (suc (suc zero)))) y h = same_map (control_note Side.A) known.control_a.own gains.control_a.gained gains.control_a.known y h
  known_in (suc (suc (suc (suc (suc zero))))) y h = same_map (control_note Side.B) known.control_b.own gains.control_b.gained gains.control_b.known y h
  known_in (suc (suc (suc (suc (suc (suc k)))))) y h = h

  -- what a journal gained is known, and what is known it gained
  pub gained_known : (k : ℕ) (y : Note) → IsGained (list_at (by_book (notes_in before)) k) (list_at (by_book (notes_in after)) k) y
      → In y (list_at (by_book (notes_by known)) k)
  gained_known k y g =
      let same : g.gained ≡ list_at (by_book gained_notes) k = append_cancel_left (list_at (by_book (notes_in before)) k) g.gained _ (sym g.new_is ∙ gained_at k) in
      gained_in k y (contains_in _ y (subst (λ l. Contains l y) same g.stands))

  pub journal_goes_on : (k : ℕ) → GoesOn (list_at (by_book (notes_in before)) k) (list_at (by_book (notes_in after)) k)
  journal_goes_on k = record { gained = list_at (by_book gained_notes) k; new_is = gained_at k }

  pub known_gained : (k : ℕ) (y : Note) → In y (list_at (by_book (notes_by known)) k)
      → IsGained (list_at (by_book (notes_in before)) k) (list_at (by_book (notes_in after)) k) y
  known_gained k y h = record { gained = list_at (by_book gained_notes) k; new_is = gained_at k; stands = in_contains _ y (known_in k y h) }

-- ---- a whole round

pub any_of : {X : Type 0} (xs : List X) (i : ℕ) → i < length xs → X
any_of [] i within = absurd (omega (arith, within))
any_of (x ∷ xs) i within = x

module _ {A : Type 0} (asks : A → Option Ask) (takes : Reply → A → A) (desk : SixLocked) (old new : List (Rider A)) where
  -- the list of each rider, before and after
  abbrev pub lists_of : List (Rider A) → List (List Note)
  lists_of riders = map (λ rider. rider.crew.list) riders

  record Told (i : ℕ) : Type 0 where
    d : Rider A
    notes : List Note
    list : list_at (lists_of new) i ≡ list_at (lists_of old) i ++ notes
    held : notes_held (slice_index_or new i d).pass ≡ noted_all (Some (notes_by (nothing_known desk))) notes

  told : length new ≡ length old → ((i : ℕ) (d : Rider A) → i < length old → Rode asks takes desk (given_pass desk (slice_index_or old i d)) (slice_index_or new i d))
      → All (λ rider. rider.crew.refused ≡ None) new → (i : ℕ) → i < length old → Told i
  told long rode done i within =
      let d = any_of old i within in
      let r = rode i d within in
      let over : (slice_index_or new i d).crew.refused ≡ None = done i d (omega (arith, long, within)) in
      record {
        d = d;
        notes = r.turned.notes;
        list =
            get_or-map (λ (rider : Rider A). rider.crew.list) new i d [] (omega (arith, long, within)) ∙ r.turned.made.list
            ∙ ap (λ list. list ++ r.turned.notes) (sym (get_or-map (λ (rider : Rider A). rider.crew.list) old i d [] within));
        held =
            subst (λ o. MatchOption o (notes_held (slice_index_or new i d).pass ≡ noted_all (Some (notes_by (nothing_known desk))) r.turned.notes)
            (λ _. NotesOneMore (noted_all (Some (notes_by (nothing_known desk))) r.turned.notes) (notes_held (slice_index_or new i d).pass))) over r.noted;
      }

  pub gain_alike : (before after : StampedBooks) → length new ≡ length old
      → ((i : ℕ) (d : Rider A) → i < length old → Rode asks takes desk (given_pass desk (slice_index_or old i d)) (slice_index_or new i d))
      → All (λ rider. rider.crew.refused ≡ None) new → AllGainJust before after (all_joined (nothing_known desk) new)
      → GainAlike (lists_of old) (lists_of new) (by_book (notes_in before)) (by_book (notes_in after))
  gain_alike before after long rode done gains =
      let known = all_joined (nothing_known desk) new in record {
        many = length-map new (λ (rider : Rider A). rider.crew.list) ∙ long ∙ sym (length-map old (λ (rider : Rider A). rider.crew.list));
        books = refl;
        lists_go_on = λ actor within.
            (let t = told long rode done actor (omega (arith, length-map old (λ (rider : Rider A). rider.crew.list), within)) in
            record { gained = t.notes; new_is = t.list });
        journals_go_on = λ book within. journal_goes_on before after known gains book;
        entries = λ book note within g.
            some_list book note (joined_in (nothing_known desk) new book note (gained_known before after known gains book note g));
        notes = λ actor note within g asked.
            (let t = told long rode done actor (omega (arith, length-map old (λ (rider : Rider A). rider.crew.list), within)) in
            let same : g.gained ≡ t.notes = append_cancel_left (list_at (lists_of old) actor) g.gained t.notes (sym g.new_is ∙ t.list) in
            let inside : In note t.notes = contains_in t.notes note (subst (λ l. Contains l note) same g.stands) in
            let held = in_pass desk (slice_index_or new actor t.d).pass t.notes t.held note inside (asked_place note.ask asked) in (
              place_of note.ask,
              asked_place note.ask asked,
              known_gained before after known gains (place_of note.ask) note
                  (joined_there (nothing_known desk) new (place_of note.ask) actor t.d note
                  (omega (arith, long, length-map old (λ (rider : Rider A). rider.crew.list), within)) held),
            ));
      }
    where
      some_list : (book : ℕ) (note : Note) → In note (list_at (by_book (notes_by (nothing_known desk))) book) ⊎ SomePass new book note
          → (actor : ℕ) × (actor < length (lists_of old)) × IsGained (list_at (lists_of old) actor) (list_at (lists_of new) actor) note
      some_list book note (inl none) = absurd (none_yet desk book note none)
      some_list book note (inr some) =
          let within : some.0 < length old = omega (arith, long, some.1) in
          let t = told long rode done some.0 within in
          let stands = (pass_in desk (slice_index_or new some.0 t.d).pass t.notes t.held book note (some.2 t.d)).0 in (
            some.0,
            omega (arith, length-map old (λ (rider : Rider A). rider.crew.list), within),
            record { gained = t.notes; new_is = t.list; stands = in_contains t.notes note stands },
          )
