-- Lists and journals that gain alike stay paired.
use Rattle.ruled_desk.proofs.Words.{◌≡◌, sym, ◌∙◌, subst, ℕ, ◌<◌, ◌⊎◌, inl, inr, false, List, [], ◌++◌, length, arith, get_or_default, Note, is_local}
use Rattle.ruled_desk.proofs.Words.{ArePaired}
use Rattle.std.specs.List.{Contains}
use Rattle.ruled_desk.specs.Gaining.{GainAlike, GoesOn, IsGained, list_at}
use Rattle.ruled_desk.proofs.Gaining.{In, contains_in, in_append, in_contains, in_left, in_right}

-- a list of lists has a list at its place
at_place : (lists : List (List Note)) (list : List Note) → Contains lists list → (place : ℕ) × (place < length lists) × (list_at lists place ≡ list)
at_place lists list h = (h.0, h.1, get_or_default lists h.0 [] list h.1 ∙ h.2)

has_place : (lists : List (List Note)) (place : ℕ) → place < length lists → Contains lists (list_at lists place)
has_place lists place within = (place, within, get_or_default lists place (list_at lists place) [] within)

-- of a list that goes on a note is an old one or a new one
old_or_new : (old new : List Note) (note : Note) → GoesOn old new → Contains new note → Contains old note ⊎ IsGained old new note
old_or_new old new note on has = elim (in_append old on.gained note (subst (In note) on.new_is (contains_in new note has)))
    [ inl before ↦ inl (in_contains old note before) | inr behind ↦ inr (record { gained = on.gained; new_is = on.new_is; stands = in_contains on.gained note behind }) ]

still_there : (old new : List Note) (note : Note) → GoesOn old new → Contains old note → Contains new note
still_there old new note on has =
    subst (λ l. Contains l note) (sym on.new_is) (in_contains (old ++ on.gained) note (in_left old on.gained note (contains_in old note has)))

gained_there : (old new : List Note) (note : Note) → IsGained old new note → Contains new note
gained_there old new note g =
    subst (λ l. Contains l note) (sym g.new_is) (in_contains (old ++ g.gained) note (in_right old g.gained note (contains_in g.gained note g.stands)))

pub stay_paired : (lists lists_after journals journals_after : List (List Note)) → GainAlike lists lists_after journals journals_after
    → ArePaired 0 lists journals → ArePaired 0 lists_after journals_after
stay_paired lists lists_after journals journals_after alike paired = record {
  notes = λ list note there has later asked.
      (let at = at_place lists_after list there in
      let within : at.0 < length lists = omega (arith, alike.many, at.1) in
      journal_of note later asked at.0 within (old_or_new (list_at lists at.0) (list_at lists_after at.0) note (alike.lists_go_on at.0 within)
      (subst (λ l. Contains l note) (sym at.2) has)));
  entries = λ journal note there has later.
      (let at = at_place journals_after journal there in
      let within : at.0 < length journals = omega (arith, alike.books, at.1) in
      list_of note later at.0 within (old_or_new (list_at journals at.0) (list_at journals_after at.0) note (alike.journals_go_on at.0 within)
      (subst (λ l. Contains l note) (sym at.2) has)));
}
  where
    in_journal : (note : Note) (book : ℕ) → book < length journals → Contains (list_at journals_after book) note
        → (journal : List Note) × Contains journals_after journal × Contains journal note
    in_journal note book within has = (list_at journals_after book, has_place journals_after book (omega (arith, alike.books, within)), has)

    in_list : (note : Note) (actor : ℕ) → actor < length lists → Contains (list_at lists_after actor) note
        → (list : List Note) × Contains lists_after list × Contains list note
    in_list note actor within has = (list_at lists_after actor, has_place lists_after actor (omega (arith, alike.many, within)), has)

    journal_of : (note : Note) → 0 < note.stamp → is_local note.ask ≡ false → (actor : ℕ) → actor < length lists
        → Contains (list_at lists actor) note ⊎ IsGained (list_at lists actor) (list_at lists_after actor) note
        → (journal : List Note) × Contains journals_after journal × Contains journal note
    journal_of note later asked actor within (inl before) =
        let j = paired.notes (list_at lists actor) note (has_place lists actor within) before later asked in
        let at = at_place journals j.0 j.1 in
        in_journal note at.0 at.1
        (still_there (list_at journals at.0) (list_at journals_after at.0) note (alike.journals_go_on at.0 at.1) (subst (λ l. Contains l note) (sym at.2) j.2))
    journal_of note later asked actor within (inr behind) =
        let j = alike.notes actor note within behind asked in in_journal note j.0 j.1 (gained_there (list_at journals j.0) (list_at journals_after j.0) note j.2)

    list_of : (note : Note) → 0 < note.stamp → (book : ℕ) → book < length journals
        → Contains (list_at journals book) note ⊎ IsGained (list_at journals book) (list_at journals_after book) note
        → (list : List Note) × Contains lists_after list × Contains list note
    list_of note later book within (inl before) =
        let l = paired.entries (list_at journals book) note (has_place journals book within) before later in
        let at = at_place lists l.0 l.1 in
        in_list note at.0 at.1
        (still_there (list_at lists at.0) (list_at lists_after at.0) note (alike.lists_go_on at.0 at.1) (subst (λ m. Contains m note) (sym at.2) l.2))
    list_of note later book within (inr behind) =
        let l = alike.entries book note within behind in in_list note l.0 l.1 (gained_there (list_at lists l.0) (list_at lists_after l.0) note l.2)
