-- A round at the tables: what the journals gained is what the lists gained, so it is above the stamp with which the round began, and paired.
use Rattle.std.proofs.Common.{◌≡◌, refl, sym, ◌∙◌, ap, subst, ℕ, zero, suc, ◌<◌, inl, inr, List, [], ◌∷◌, ◌++◌, length, map, Some, arith}
use Rattle.std.proofs.lemmas.List.{map-append, append_cancel_left, get_or-map, length-map}
use Rattle.std.specs.List.{Contains, slice_get, slice_index_or}
use Rattle.stamped_book.specs.declared.stamped.Entry.{Entry}
use Rattle.stamped_book.specs.Journal.{Journaled}
use Rattle.send_book.specs.Steps as sending
use Rattle.reassembly_book.specs.Steps as arriving
use Rattle.control_book.specs.Replies as controlling
use Rattle.control_book.specs.Steps as control
use Rattle.stream_lanes.specs.Words.{Every}
use Rattle.sides.specs.declared.side.Side.{Side}
use Rattle.actor_desk.specs.declared.ask.Note.{Note}
use Rattle.actor_desk.specs.Books.{StampedBooks}
use Rattle.actor_desk.specs.Journals.{send_note, reassembly_note, control_note}
use Rattle.actor_desk.specs.Noted.{notes_in}
use Rattle.path_core.specs.Octets.{octets}
use Rattle.actor_turn.specs.Extending.{Extends}
use Rattle.actor_turn.specs.Turns.{AreSteps}
use Rattle.ruled_desk.specs.Gaining.{IsGained, by_book, list_at}
use Rattle.ruled_desk.specs.WholeRounds.{IsWholeRound}
use Rattle.world_laws.specs.Actors.{Actor, ActorCrew, member_asks, member_takes}
use Rattle.world_laws.specs.Fine.{lists_of}
use Rattle.world_laws.specs.Weaving.{BooksGrew}
use Rattle.world_laws.proofs.Weaving.Occurring.{In, contains_in, in_contains}
use Rattle.journal_weave.specs.Journals.{AreJournals}
use Rattle.journal_weave.proofs.JournalsGrown.{journal_grew}

abbrev Crew : Type 0
Crew = ActorCrew (List ℕ)

abbrev Round : List Crew → List Crew → StampedBooks → StampedBooks → Type 0
Round crew after books left = IsWholeRound (member_asks octets) (member_takes octets) crew after books left

-- each step of a turn is above what its actor knew
steps_above : (notes : List Note) (actor : ℕ) (m : Actor (List ℕ)) (seen : ℕ) → AreSteps (member_asks octets) (member_takes octets) actor m seen notes
    → (x : Note) → In x notes → seen < x.stamp
steps_above [] actor m seen h x none = absurd none
steps_above (note ∷ notes) actor m seen h x (inl e) = subst (λ (n : Note). seen < n.stamp) e h.0.rises
steps_above (note ∷ notes) actor m seen h x (inr later) =
    let r = steps_above notes actor (member_takes octets note.reply m) note.stamp h.1 x later in omega (arith, h.0.rises, r)

module _ (top : ℕ) (crew after : List Crew) (books left : StampedBooks) (round : Round crew after books left)
    (known : (i : ℕ) (d : Crew) → i < length crew → (slice_index_or crew i d).pass.stamp ≡ top) where
  -- what a list gained is above the stamp
  list_above : (i : ℕ) (d : Crew) → i < length crew → (x : Note) → IsGained (list_at (lists_of crew) i) (list_at (lists_of after) i) x → top < x.stamp
  list_above i d within x g =
      let t = round.turned i d within in
      let before = get_or-map (λ (c : Crew). c.list) crew i d [] within in
      let behind = get_or-map (λ (c : Crew). c.list) after i d [] (omega (arith, round.many, within)) in
      let same : g.gained ≡ t.notes =
      append_cancel_left (list_at (lists_of crew) i) g.gained t.notes
      (sym g.new_is ∙ behind ∙ t.made.list ∙ ap (λ l. l ++ t.notes) (sym before)) in
      let inside : In x t.notes = contains_in t.notes x (subst (λ l. Contains l x) same g.stands) in
      let high = steps_above t.notes (slice_index_or crew i d).pass.actor (slice_index_or crew i d).member (slice_index_or crew i d).pass.stamp t.made.steps x inside in
      omega (arith, high, known i d within)

  -- each entry that a journal gained stands above the round's first stamp
  entry_above : (book : ℕ) → book < 6 → (x : Note)
      → IsGained (list_at (by_book (notes_in books)) book) (list_at (by_book (notes_in left)) book) x → top < x.stamp
  entry_above book within x g =
      let l = round.alike.entries book x within g in
      let inside : l.0 < length crew = omega (arith, length-map crew (λ (c : Crew). c.list), l.1) in
      list_above l.0 (first_of crew l.0 inside) inside x l.2
    where
      first_of : (xs : List Crew) (i : ℕ) → i < length xs → Crew
      first_of [] i within = absurd (omega (arith, within))
      first_of (c ∷ xs) i within = c

-- the entries behind a journal, where their notes are above the stamp
more_above : {O C R : Type 0} (top : ℕ) (make : Entry C R → Note) → ((e : Entry C R) → (make e).stamp ≡ e.stamp) → (old new : Journaled O C R)
    → (x : Extends old new) → ((note : Note) → IsGained (map make old.journal) (map make new.journal) note → top < note.stamp)
    → Every (λ (e : Entry C R). top < e.stamp) x.more
more_above top make stamp_is old new x above = record {
  each = λ i e is.
      subst (λ s. top < s) (stamp_is e)
      (above (make e) (record {
        gained = map make x.more;
        new_is = ap (map make) x.journal ∙ map-append make old.journal x.more;
        stands = in_contains (map make x.more) (make e) (made_in x.more i e is);
      }));
}
  where
    made_in : (entries : List (Entry _ _)) (i : ℕ) (e : Entry _ _) → slice_get entries i ≡ Some e → In (make e) (map make entries)
    made_in [] i e is = cc
    made_in (y ∷ entries) zero e is = inl (let same : y ≡ e = cc in ap make same)
    made_in (y ∷ entries) (suc i) e is = inr (made_in entries i e is)

-- the books grew by entries above the stamp
pub books_grew : (top : ℕ) (crew after : List Crew) (books left : StampedBooks) → Round crew after books left
    → ((i : ℕ) (d : Crew) → i < length crew → (slice_index_or crew i d).pass.stamp ≡ top) → AreJournals left → BooksGrew top books left
books_grew top crew after books left round known is =
    let above = entry_above top crew after books left round known in record {
      send_a = journal_grew sending.reply_to sending.after_call top books.send_a left.send_a round.extend.send_a is.send_a
          (more_above top (send_note Side.A) (λ e. refl) books.send_a left.send_a round.extend.send_a (above 0 (omega arith)));
      send_b = journal_grew sending.reply_to sending.after_call top books.send_b left.send_b round.extend.send_b is.send_b
          (more_above top (send_note Side.B) (λ e. refl) books.send_b left.send_b round.extend.send_b (above 1 (omega arith)));
      reassembly_a = journal_grew arriving.reply_to arriving.after_call top books.reassembly_a left.reassembly_a round.extend.reassembly_a is.reassembly_a
          (more_above top (reassembly_note Side.A) (λ e. refl) books.reassembly_a left.reassembly_a round.extend.reassembly_a (above 2 (omega arith)));
      reassembly_b = journal_grew arriving.reply_to arriving.after_call top books.reassembly_b left.reassembly_b round.extend.reassembly_b is.reassembly_b
          (more_above top (reassembly_note Side.B) (λ e. refl) books.reassembly_b left.reassembly_b round.extend.reassembly_b (above 3 (omega arith)));
      control_a = journal_grew controlling.reply_to control.after top books.control_a left.control_a round.extend.control_a is.control_a
          (more_above top (control_note Side.A) (λ e. refl) books.control_a left.control_a round.extend.control_a (above 4 (omega arith)));
      control_b = journal_grew controlling.reply_to control.after top books.control_b left.control_b round.extend.control_b is.control_b
          (more_above top (control_note Side.B) (λ e. refl) books.control_b left.control_b round.extend.control_b (above 5 (omega arith)));
    }
