-- Stamps: each step has one above all that its actor knew, in lists and in journals.
use Rattle.world_laws.proofs.Words.{◌≡◌, refl, sym, ◌∙◌, ap, subst, ℕ, zero, suc, ◌+◌, ◌≤◌, max, inl, inr, true, Some, List, [], ◌∷◌, ◌++◌, map, arith, ◌<◌}
use Rattle.world_laws.proofs.Words.{append-nil, append_assoc, slice_get, Entry, Pass, last_stamp, A, B, Ask, Note, StampedBooks, stamp_of, after_entry}
use Rattle.world_laws.proofs.Words.{is_local, AreChained, Every, NotesRise, last_noted, AreStamped, BooksAreStamped, IsChainedAbove}
use Rattle.world_laws.proofs.Weaving.Occurring.{In}

-- ---- the stamp of a step

pub stamp_rises : (books : StampedBooks) (pass : Pass) (ask : Ask) → pass.stamp < stamp_of ask books pass
stamp_rises books pass (Ask.Send s call) = omega arith
stamp_rises books pass _ = omega arith

pub local_stamp : (books : StampedBooks) (pass : Pass) (ask : Ask) → is_local ask ≡ true → stamp_of ask books pass ≡ pass.stamp + 1
local_stamp books pass (Ask.Local step) is = refl
local_stamp books pass _ is = cc

-- ---- lists

pub last_noted-more : (before : ℕ) (notes : List Note) (n : Note) → last_noted before (notes ++ n ∷ []) ≡ n.stamp
last_noted-more before [] n = refl
last_noted-more before (note ∷ notes) n = last_noted-more note.stamp notes n

pub NotesRise-more : (before : ℕ) (notes : List Note) (n : Note) → NotesRise before notes → last_noted before notes < n.stamp → NotesRise before (notes ++ n ∷ [])
NotesRise-more before [] n rise above = (above, tt)
NotesRise-more before (note ∷ notes) n rise above = (rise.0, NotesRise-more note.stamp notes n rise.1 above)

last_noted-reached : (before : ℕ) (notes : List Note) → NotesRise before notes → before ≤ last_noted before notes
last_noted-reached before [] rise = omega arith
last_noted-reached before (note ∷ notes) rise = let rest = last_noted-reached note.stamp notes rise.1 in omega (arith, rise.0, rest)

-- no stamp is greater than the last one
pub stamps_below : (before : ℕ) (notes : List Note) → NotesRise before notes → Every (λ n. n.stamp ≤ last_noted before notes) notes
stamps_below before notes rise = record { each = λ i n is. at before notes i n rise is }
  where
    at : (before : ℕ) (notes : List Note) (i : ℕ) (n : Note) → NotesRise before notes → slice_get notes i ≡ Some n → n.stamp ≤ last_noted before notes
    at before [] i n rise is = cc
    at before (note ∷ notes) zero n rise is =
        let same : note ≡ n = cc in let rest = last_noted-reached note.stamp notes rise.1 in subst (λ m. m.stamp ≤ last_noted note.stamp notes) same rest
    at before (note ∷ notes) (suc i) n rise is = at note.stamp notes i n rise.1 is

pub stamps_above : (before : ℕ) (notes : List Note) (n : Note) → NotesRise before notes → In n notes → before < n.stamp
stamps_above before [] n rise there = absurd there
stamps_above before (note ∷ notes) n rise (inl is) = subst (λ m. before < m.stamp) is rise.0
stamps_above before (note ∷ notes) n rise (inr there) = let rest = stamps_above note.stamp notes n rise.1 there in omega (arith, rise.0, rest)

AreChained-more : (seen : ℕ) (notes : List Note) (n : Note) → AreChained seen notes → n.seen ≡ last_noted seen notes → n.seen < n.stamp
    → (is_local n.ask ≡ true → n.stamp ≡ n.seen + 1) → AreChained seen (notes ++ n ∷ [])
AreChained-more seen [] n chained is rises local =
    (is, subst (λ x. x < n.stamp) is rises, (λ l. local l ∙ ap (λ x. x + 1) is), tt)
AreChained-more seen (note ∷ notes) n chained is rises local =
    (chained.0, chained.1, chained.2, AreChained-more note.stamp notes n chained.3 is rises local)

-- one note more, which saw what the actor knew
pub chained_more : (top known : ℕ) (notes : List Note) (n : Note) → IsChainedAbove top known notes → n.seen ≡ known → n.seen < n.stamp
    → (is_local n.ask ≡ true → n.stamp ≡ n.seen + 1) → IsChainedAbove top n.stamp (notes ++ n ∷ [])
chained_more top known notes n h is rises local = record {
  earlier = h.earlier;
  later = h.later ++ n ∷ [];
  parts = ap (λ xs. xs ++ n ∷ []) h.parts ∙ append_assoc h.earlier h.later (n ∷ []);
  below = h.below;
  chained = AreChained-more top h.later n h.chained (is ∙ h.known_is) rises local;
  known_is = sym (last_noted-more top h.later n);
}

-- a round begins: the actor knows the greatest stamp
pub chained_anew : (top : ℕ) (notes : List Note) → Every (λ n. n.stamp ≤ top) notes → IsChainedAbove top top notes
chained_anew top notes below = record { earlier = notes; later = []; parts = sym (append-nil notes); below = below; chained = tt; known_is = refl }

-- ---- journals

module _ {C R : Type 0} where
  pub AreStamped-more : (last : ℕ) (entries : List (Entry C R)) (entry : Entry C R) → AreStamped last entries
      → entry.stamp ≡ max (last_stamp last entries) entry.seen + 1 → AreStamped last (entries ++ entry ∷ [])
  AreStamped-more last [] entry stamped is = (is, tt)
  AreStamped-more last (first ∷ entries) entry stamped is = (stamped.0, AreStamped-more first.stamp entries entry stamped.1 is)

  pub entries_above : (f : Entry C R → Note) → ((e : Entry C R) → (f e).stamp ≡ e.stamp) → (last : ℕ) (entries : List (Entry C R)) (n : Note)
      → AreStamped last entries → In n (map f entries) → 0 < n.stamp
  entries_above f same last [] n stamped there = absurd there
  entries_above f same last (entry ∷ entries) n stamped (inl is) =
      let stamp : entry.stamp ≡ n.stamp = sym (same entry) ∙ ap (λ m. m.stamp) is in omega (arith, stamped.0, stamp)
  entries_above f same last (entry ∷ entries) n stamped (inr there) = entries_above f same entry.stamp entries n stamped.1 there

pub stamped_more : (pass : Pass) (ask : Ask) (books : StampedBooks) → BooksAreStamped books → BooksAreStamped (after_entry ask pass books)
stamped_more pass (Ask.Send A call) books h = record {
  send_a = AreStamped-more 0 books.send_a.journal _ h.send_a refl;
  send_b = h.send_b;
  reassembly_a = h.reassembly_a;
  reassembly_b = h.reassembly_b;
  control_a = h.control_a;
  control_b = h.control_b;
}
stamped_more pass (Ask.Send B call) books h = record {
  send_a = h.send_a;
  send_b = AreStamped-more 0 books.send_b.journal _ h.send_b refl;
  reassembly_a = h.reassembly_a;
  reassembly_b = h.reassembly_b;
  control_a = h.control_a;
  control_b = h.control_b;
}
stamped_more pass (Ask.Reassembly A call) books h = record {
  send_a = h.send_a;
  send_b = h.send_b;
  reassembly_a = AreStamped-more 0 books.reassembly_a.journal _ h.reassembly_a refl;
  reassembly_b = h.reassembly_b;
  control_a = h.control_a;
  control_b = h.control_b;
}
stamped_more pass (Ask.Reassembly B call) books h = record {
  send_a = h.send_a;
  send_b = h.send_b;
  reassembly_a = h.reassembly_a;
  reassembly_b = AreStamped-more 0 books.reassembly_b.journal _ h.reassembly_b refl;
  control_a = h.control_a;
  control_b = h.control_b;
}
stamped_more pass (Ask.Control A call) books h = record {
  send_a = h.send_a;
  send_b = h.send_b;
  reassembly_a = h.reassembly_a;
  reassembly_b = h.reassembly_b;
  control_a = AreStamped-more 0 books.control_a.journal _ h.control_a refl;
  control_b = h.control_b;
}
stamped_more pass (Ask.Control B call) books h = record {
  send_a = h.send_a;
  send_b = h.send_b;
  reassembly_a = h.reassembly_a;
  reassembly_b = h.reassembly_b;
  control_a = h.control_a;
  control_b = AreStamped-more 0 books.control_b.journal _ h.control_b refl;
}
stamped_more pass (Ask.Local step) books h = h
