-- The book goes back: what the seat is then.
use Rattle.ruled_desk.proofs.Words.{◌≡◌, sym, ◌∙◌, ap, ℕ, Bool, true, false, ◌||◌, List, [], ◌∷◌, Option, Some, None, append-nil, rest, Journaled, Entry, View}
use Rattle.ruled_desk.proofs.Words.{HasLastStamp, grown, HasTurn, HasOneMore, IsDone, view, IsAdded, IsServed, adds, serves, IsBack}
use Rattle.ruled_desk.proofs.RuleSteps.{Mine}

module _ {O C R : Type 0} where
  pub held_slot : (me mid : Mine O C R) (old new : Option (Journaled O C R)) → me.1 ≡ (0, old) ∷ [] → mid ≡ (me.0, (0, new) ∷ rest me.1) → mid.1 ≡ (0, new) ∷ []
  held_slot me mid old new slot is = ap (λ (m : Mine O C R). m.1) is ∙ ap (λ (l : List (ℕ × Option (Journaled O C R))). (0, new) ∷ rest l) slot

  pub same_view : (me mid : Mine O C R) (new : Option (Journaled O C R)) → mid ≡ (me.0, (0, new) ∷ rest me.1) → mid.0 ≡ me.0
  same_view me mid new is = ap (λ (m : Mine O C R). m.0) is

  -- the slot is held, with something in it
  pub held_some : (me : Mine O C R) (old : Option (Journaled O C R)) → me.1 ≡ (0, old) ∷ [] → (value : Option (Journaled O C R)) × (me.1 ≡ (0, value) ∷ rest me.1)
  held_some me old slot = (old, slot ∙ ap (λ (l : List (ℕ × Option (Journaled O C R))). (0, old) ∷ rest l) (sym slot))

  pub is_back : (full : Bool) (me mid : Mine O C R) (book : Journaled O C R) → HasTurn me book → mid ≡ (me.0, (0, Some book) ∷ rest me.1)
      → (full ≡ true → HasLastStamp book.journal) → IsBack full mid
  is_back full me mid book turn is last = record {
    book = book;
    took = ap (λ (v : View (Journaled O C R) (Entry C R)). v.took) (same_view me mid (Some book) is) ∙ turn.took;
    slot = held_slot me mid None (Some book) turn.slot is;
    last = last;
  }

  pub done_back : (full : Bool) (me mid after : Mine O C R) (book : Journaled O C R) → mid ≡ (me.0, (0, Some book) ∷ rest me.1) → IsServed full mid after
      → IsDone [] full me after
  done_back full me mid after book is served =
      served ∙ ap (λ (v : View (Journaled O C R) (Entry C R)). (serves full v, [])) (same_view me mid (Some book) is)
      ∙ ap (λ (own : List (Entry C R)). (view me.0.parts me.0.tickets [] own (full || me.0.full), [])) (sym (append-nil me.0.own))

  -- ---- with an entry

  pub mid_took : (me mid : Mine O C R) (book : Journaled O C R) (held : Option (Journaled O C R)) → HasTurn me book → mid ≡ (me.0, (0, held) ∷ rest me.1)
      → mid.0.took ≡ book ∷ []
  mid_took me mid book held turn is = ap (λ (v : View (Journaled O C R) (Entry C R)). v.took) (same_view me mid held is) ∙ turn.took

  pub mid_slot : (me mid : Mine O C R) (book held : Journaled O C R) (entry : Entry C R) → HasTurn me book → held ≡ grown book (entry ∷ [])
      → mid ≡ (me.0, (0, Some held) ∷ rest me.1) → mid.1 ≡ (0, Some (grown book (entry ∷ []))) ∷ []
  mid_slot me mid book held entry turn grew is =
      held_slot me mid None (Some held) turn.slot is ∙ ap (λ (b : Journaled O C R). (0, Some b) ∷ []) grew

  pub is_back_more : (me mid late : Mine O C R) (held : Journaled O C R) → HasOneMore me held → mid ≡ (me.0, (0, Some held) ∷ rest me.1) → IsAdded mid late
      → IsBack false late
  is_back_more me mid late held more is added =
      let slot = mid_slot me mid more.book held more.entry more.turn more.grew is in
      let that = added more.book more.entry (mid_took me mid more.book (Some held) more.turn is) slot in
      record { book = grown more.book (more.entry ∷ []); took = ap (λ (m : Mine O C R). m.0.took) that; slot = ap (λ (m : Mine O C R). m.1) that ∙ slot; last = λ e. cc }

  pub done_entry : (me mid late after : Mine O C R) (held : Journaled O C R) → mid ≡ (me.0, (0, Some held) ∷ rest me.1) → IsAdded mid late
      → IsServed false late after → (book : Journaled O C R) (entry : Entry C R) → HasTurn me book → held ≡ grown book (entry ∷ []) → IsDone (entry ∷ []) false me after
  done_entry me mid late after held is added served book entry turn grew =
      let slot = mid_slot me mid book held entry turn grew is in
      let that = added book entry (mid_took me mid book (Some held) turn is) slot in
      served ∙ ap (λ (m : Mine O C R). (serves false m.0, [])) that
      ∙ ap (λ (v : View (Journaled O C R) (Entry C R)). (serves false (adds (grown book (entry ∷ [])) entry v), [])) (same_view me mid (Some held) is)
