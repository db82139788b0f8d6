-- Where lists and journals are paired, each book's notes of the order are what its journal has.
use Rattle.std.proofs.Common.{◌≡◌, refl, sym, ◌∙◌, ap, subst, ℕ, zero, suc, ◌<◌, inl, inr, false, Some, List, [], ◌∷◌, map, arith}
use Rattle.std.proofs.lemmas.Option.{same_Some, slice_get_within}
use Rattle.std.specs.List.{slice_get}
use Rattle.sides.specs.declared.side.Side.TheVariants.{A, B}
use Rattle.stamped_book.specs.declared.stamped.Entry.{Entry}
use Rattle.stamped_book.specs.Journal.{Rise}
use Rattle.actor_desk.specs.Books.{StampedBooks}
use Rattle.actor_desk.specs.declared.ask.Ask.{Ask}
use Rattle.actor_desk.specs.declared.ask.Note.{Note}
use Rattle.actor_desk.specs.Journals.{is_local, ArePaired, above, in_order, send_note, reassembly_note, control_note}
use Rattle.world_laws.specs.Fine.{NotesRise}
use Rattle.world_laws.specs.StampedBooks.{journals_of}
use Rattle.world_laws.proofs.Weaving.Occurring.{In}
use Rattle.world_laws.proofs.Weaving.TheOrder.{AreNumbered, rises_climb, asked_in_order}
use Rattle.journal_weave.specs.Journals.{JournalsRise}
use Rattle.journal_weave.specs.Weaving.{AreOwn, book_of, asked_at, AreAllAsked}

-- ---- lists

in_get : {X : Type 0} (xs : List X) (x : X) → In x xs → (i : ℕ) × (slice_get xs i ≡ Some x)
in_get [] x none = absurd none
in_get (y ∷ xs) x (inl is) = (0, ap Some is)
in_get (y ∷ xs) x (inr more) = let rest = in_get xs x more in (suc rest.0, rest.1)

own_numbered : (first : ℕ) (lists : List (List Note)) → AreOwn first lists → AreNumbered (λ n. n.actor) first lists
own_numbered first [] h = tt
own_numbered first (list ∷ lists) h =
    ((λ x there. let at = in_get list x there in h.0.each at.0 x at.1), rises_climb 0 list h.1, own_numbered (suc first) lists h.2)

-- ---- journals

module _ {C R : Type 0} (make : Entry C R → Note) where
  notes_rise : ((e : Entry C R) → (make e).stamp ≡ e.stamp) → (before : ℕ) (entries : List (Entry C R)) → Rise before entries → NotesRise before (map make entries)
  notes_rise stamp before [] rise = tt
  notes_rise stamp before (e ∷ entries) rise =
      let is = stamp e in
      (omega (arith, is, rise.0), subst (λ n. NotesRise n (map make entries)) (sym is) (notes_rise stamp e.stamp entries rise.1))

  of_book : (book : ℕ) → ((e : Entry C R) → book_of (make e).ask ≡ book) → (entries : List (Entry C R)) (n : Note) → In n (map make entries) → book_of n.ask ≡ book
  of_book book is [] n none = absurd none
  of_book book is (e ∷ entries) n (inl same) = ap (λ m. book_of m.ask) (sym same) ∙ is e
  of_book book is (e ∷ entries) n (inr more) = of_book book is entries n more

journals_numbered : (books : StampedBooks) → JournalsRise books → AreNumbered (λ n. book_of n.ask) 0 (journals_of books)
journals_numbered books h = (
  of_book (send_note A) 0 (λ e. refl) books.send_a.journal,
  rises_climb 0 _ (notes_rise (send_note A) (λ e. refl) 0 books.send_a.journal h.send_a),
  (
    of_book (send_note B) 1 (λ e. refl) books.send_b.journal,
    rises_climb 0 _ (notes_rise (send_note B) (λ e. refl) 0 books.send_b.journal h.send_b),
    (
      of_book (reassembly_note A) 2 (λ e. refl) books.reassembly_a.journal,
      rises_climb 0 _ (notes_rise (reassembly_note A) (λ e. refl) 0 books.reassembly_a.journal h.reassembly_a),
      (
        of_book (reassembly_note B) 3 (λ e. refl) books.reassembly_b.journal,
        rises_climb 0 _ (notes_rise (reassembly_note B) (λ e. refl) 0 books.reassembly_b.journal h.reassembly_b),
        (
          of_book (control_note A) 4 (λ e. refl) books.control_a.journal,
          rises_climb 0 _ (notes_rise (control_note A) (λ e. refl) 0 books.control_a.journal h.control_a),
          (
            of_book (control_note B) 5 (λ e. refl) books.control_b.journal,
            rises_climb 0 _ (notes_rise (control_note B) (λ e. refl) 0 books.control_b.journal h.control_b),
            tt,
          ),
        ),
      ),
    ),
  ),
)

-- ---- books

below_asked : (x : Ask) (book : ℕ) → book < 6 → book_of x ≡ book → is_local x ≡ false
below_asked (Ask.Local step) book few is = absurd (omega (arith, few, is))
below_asked _ book few is = refl

mapped_at : {X Y : Type 0} (f : X → Y) (xs : List X) (i : ℕ) (y : Y) → slice_get (map f xs) i ≡ Some y → (x : X) × (slice_get xs i ≡ Some x) × (y ≡ f x)
mapped_at f [] i y at = cc
mapped_at f (x ∷ xs) zero y at = (x, refl, sym (same_Some (f x) y at))
mapped_at f (x ∷ xs) (suc i) y at = mapped_at f xs i y at

module _ (after : ℕ) (lists : List (List Note)) (books : StampedBooks) where
  asked_is : AreOwn 0 lists → JournalsRise books → ArePaired after lists (journals_of books) → (book : ℕ) (journal : List Note)
      → slice_get (journals_of books) book ≡ Some journal → asked_at book (in_order after lists) ≡ above after journal
  asked_is own rise paired book journal at =
      let few = slice_get_within (journals_of books) book journal at in
      asked_in_order after (λ n. book_of n.ask) lists (journals_of books) book journal (own_numbered 0 lists own) (journals_numbered books rise) at
      (λ n is. below_asked n.ask book few is) paired

  pub all_asked : AreOwn 0 lists → JournalsRise books → ArePaired after lists (journals_of books)
      → AreAllAsked (in_order after lists) (map (above after) (journals_of books))
  all_asked own rise paired book entries at =
      let from = mapped_at (above after) (journals_of books) book entries at in asked_is own rise paired book from.0 from.1 ∙ sym from.2

-- what is paired at every stamp is paired above each
pub paired_above : (after : ℕ) (lists journals : List (List Note)) → ArePaired 0 lists journals → ArePaired after lists journals
paired_above after lists journals paired = record {
  notes = λ list note there of later book. paired.notes list note there of (omega (arith, later)) book;
  entries = λ journal note there of later. paired.entries journal note there of (omega (arith, later));
}
