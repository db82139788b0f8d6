-- Every step and every end of a round keeps lists and journals paired and chained.
use Rattle.world_laws.proofs.Words.{◌≡◌, refl, sym, ◌∙◌, ap, subst, ℕ, zero, suc, ◌+◌, ◌≤◌, max, inl, inr, Bool, true, false, if◌then◌else◌, Option, Some, None}
use Rattle.world_laws.proofs.Words.{List, [], ◌∷◌, ◌++◌, map, arith, ◌<◌, set, map-append, same_Some, slice_get, Entry, Pass, A, B, Ask, Note, StampedBooks}
use Rattle.world_laws.proofs.Words.{after_entry, is_local, ArePaired, send_note, reassembly_note, control_note, Codec, Every-map, Every-push, in_map, Every-nil}
use Rattle.world_laws.proofs.Words.{From-put, From, Actor, ActorCrew, member_asks, PathPlan, Start, new_crew, new_path, paths_from, opened_world, WorldState}
use Rattle.world_laws.proofs.Words.{Turn, crew_after, asked, stepped, world_step, all_over, greatest, begins, end_round, after_turn, note_of, journals_of}
use Rattle.world_laws.proofs.Words.{BooksAreStamped, IsFineCrew, lists_of, IsFine, IsChainedAbove, top_after}
use Rattle.world_laws.proofs.Worlds.Opened.{opened_actors}
use Rattle.world_laws.proofs.Weaving.Occurring.{Occurs, Pairs, Grown, paired_from, pairs_from, pairs_grow, pairs_local, grown_here, grown_later}
use Rattle.world_laws.proofs.Weaving.StampsChain.{stamp_rises, local_stamp, last_noted-more, NotesRise-more, stamps_below, stamps_above, chained_more, chained_anew, entries_above, stamped_more}

-- ---- the journals after a step

-- a journal with one entry more, as notes
grown_journal : {C R : Type 0} (f : Entry C R → Note) (journal : List (Entry C R)) (entry : Entry C R) (n : Note) → f entry ≡ n
    → map f (journal ++ entry ∷ []) ≡ map f journal ++ n ∷ []
grown_journal f journal entry n is = map-append f journal (entry ∷ []) ∙ ap (λ m. map f journal ++ m ∷ []) is

-- an ask at a book adds its note to the journals
pub grown_journals : (pass : Pass) (ask : Ask) (books : StampedBooks) → is_local ask ≡ false
    → Grown (note_of books pass ask) (journals_of books) (journals_of (after_entry ask pass books))
grown_journals pass (Ask.Send A call) books at = grown_here _ _ _ _ (grown_journal (send_note A) books.send_a.journal _ _ refl)
grown_journals pass (Ask.Send B call) books at = grown_later _ _ _ _ (grown_here _ _ _ _ (grown_journal (send_note B) books.send_b.journal _ _ refl))
grown_journals pass (Ask.Reassembly A call) books at =
    grown_later _ _ _ _ (grown_later _ _ _ _ (grown_here _ _ _ _ (grown_journal (reassembly_note A) books.reassembly_a.journal _ _ refl)))
grown_journals pass (Ask.Reassembly B call) books at =
    grown_later _ _ _ _ (grown_later _ _ _ _ (grown_later _ _ _ _ (grown_here _ _ _ _ (grown_journal (reassembly_note B) books.reassembly_b.journal _ _ refl))))
grown_journals pass (Ask.Control A call) books at =
    grown_later _ _ _ _ (grown_later _ _ _ _ (grown_later _ _ _ _ (grown_later _ _ _ _
    (grown_here _ _ _ _ (grown_journal (control_note A) books.control_a.journal _ _ refl)))))
grown_journals pass (Ask.Control B call) books at =
    grown_later _ _ _ _ (grown_later _ _ _ _ (grown_later _ _ _ _ (grown_later _ _ _ _ (grown_later _ _ _ _
    (grown_here _ _ _ _ (grown_journal (control_note B) books.control_b.journal _ _ refl))))))
grown_journals pass (Ask.Local step) books at = cc

same_journals : (pass : Pass) (ask : Ask) (books : StampedBooks) → is_local ask ≡ true → after_entry ask pass books ≡ books
same_journals pass (Ask.Local step) books at = refl
same_journals pass _ books at = cc

-- each entry has a stamp above 0
journals_above : (books : StampedBooks) → BooksAreStamped books → (n : Note) → Occurs n (journals_of books) → 0 < n.stamp
journals_above books h n (inl there) = entries_above (send_note A) (λ e. refl) 0 books.send_a.journal n h.send_a there
journals_above books h n (inr (inl there)) = entries_above (send_note B) (λ e. refl) 0 books.send_b.journal n h.send_b there
journals_above books h n (inr (inr (inl there))) = entries_above (reassembly_note A) (λ e. refl) 0 books.reassembly_a.journal n h.reassembly_a there
journals_above books h n (inr (inr (inr (inl there)))) = entries_above (reassembly_note B) (λ e. refl) 0 books.reassembly_b.journal n h.reassembly_b there
journals_above books h n (inr (inr (inr (inr (inl there))))) = entries_above (control_note A) (λ e. refl) 0 books.control_a.journal n h.control_a there
journals_above books h n (inr (inr (inr (inr (inr (inl there)))))) = entries_above (control_note B) (λ e. refl) 0 books.control_b.journal n h.control_b there
journals_above books h n (inr (inr (inr (inr (inr (inr none)))))) = absurd none

module _ {C : Type 0} where
  -- ---- the lists after a step

  grown_lists : (crew : List (ActorCrew C)) (actor : ℕ) (c d : ActorCrew C) (n : Note) → slice_get crew actor ≡ Some c → d.list ≡ c.list ++ n ∷ []
      → Grown n (lists_of crew) (lists_of (set crew actor d))
  grown_lists [] actor c d n there is = cc
  grown_lists (first ∷ crew) zero c d n there is =
      let same : first ≡ c = same_Some first c there in
      grown_here n first.list d.list (lists_of crew) (is ∙ ap (λ x. x.list ++ n ∷ []) (sym same))
  grown_lists (first ∷ crew) (suc actor) c d n there is = grown_later n first.list _ _ (grown_lists crew actor c d n there is)

  lists_above : (top first : ℕ) (crew : List (ActorCrew C)) → From (IsFineCrew top) first crew → (n : Note) → Occurs n (lists_of crew) → 0 < n.stamp
  lists_above top first [] h n none = absurd none
  lists_above top first (c ∷ crew) h n (inl there) = stamps_above 0 c.list n (h.each 0 first c (omega arith) refl).rises there
  lists_above top first (c ∷ crew) h n (inr there) =
      lists_above top (suc first) crew (record { each = λ i m x m_is is. h.each (suc i) m x (omega (arith, m_is)) is }) n there

  fine_pairs : (top : ℕ) (w : WorldState C) (h : IsFine top w) → Pairs (lists_of w.crew) (journals_of w.books)
  fine_pairs top w h =
      pairs_from (lists_of w.crew) (journals_of w.books) (lists_above top 0 w.crew h.crew) (journals_above w.books h.journals) (h.paired 0)

  -- ---- a step

  fine_crew : (k : Codec C) (top number : ℕ) (books : StampedBooks) (ask : Ask) (c : ActorCrew C) → IsFineCrew top number c
      → IsFineCrew top number (crew_after k ask books c)
  fine_crew k top number books ask c h = record {
    numbered = h.numbered;
    ours = Every-push (note_of books c.pass ask) h.ours h.numbered;
    rises = NotesRise-more 0 c.list (note_of books c.pass ask) h.rises (omega (arith, h.known, stamp_rises books c.pass ask));
    known = let last = last_noted-more 0 c.list (note_of books c.pass ask) in omega (arith, last);
    chained = chained_more top c.pass.stamp c.list (note_of books c.pass ask) h.chained refl (stamp_rises books c.pass ask) (local_stamp books c.pass ask);
    unrefused = h.unrefused;
  }

  step_pairs : (k : Codec C) (actor : ℕ) (ask : Ask) (c : ActorCrew C) (w : WorldState C) → slice_get w.crew actor ≡ Some c → Pairs (lists_of w.crew) (journals_of w.books)
      → (b : Bool) → is_local ask ≡ b → Pairs (lists_of (asked k actor (Some ask) c w).crew) (journals_of (asked k actor (Some ask) c w).books)
  step_pairs k actor ask c w there h true local =
      subst (λ books. Pairs (lists_of (set w.crew actor (crew_after k ask w.books c))) (journals_of books)) (sym (same_journals c.pass ask w.books local))
      (pairs_local (note_of w.books c.pass ask) (lists_of w.crew) _ (journals_of w.books) local
      (grown_lists w.crew actor c (crew_after k ask w.books c) (note_of w.books c.pass ask) there refl) h)
  step_pairs k actor ask c w there h false asks =
      pairs_grow (note_of w.books c.pass ask) (lists_of w.crew) _ (journals_of w.books) _
      (grown_lists w.crew actor c (crew_after k ask w.books c) (note_of w.books c.pass ask) there refl) (grown_journals c.pass ask w.books asks) h

  asked_fine : (k : Codec C) (actor top : ℕ) (o : Option Ask) (c : ActorCrew C) (w : WorldState C) → slice_get w.crew actor ≡ Some c → IsFine top w → IsFine top (asked k actor o c w)
  asked_fine k actor top None c w there h = h
  asked_fine k actor top (Some ask) c w there h = record {
    crew = From-put actor (crew_after k ask w.books c) (λ n x apart fine. fine) (fine_crew k top actor w.books ask c (h.crew.each actor actor c (omega arith) there)) h.crew;
    journals = stamped_more c.pass ask w.books h.journals;
    paired = λ after. paired_from after _ _ (step_pairs k actor ask c w there (fine_pairs top w h) (is_local ask) refl);
  }

  pub step_fine : (k : Codec C) (actor top : ℕ) (w : WorldState C) → IsFine top w → IsFine top (world_step k actor w)
  step_fine k actor top w h = (elim (slice_get w.crew actor) as (λ o. slice_get w.crew actor ≡ o → IsFine top (stepped k actor o w))
      [ None ↦ λ there. h | Some c ↦ λ there. asked_fine k actor top (member_asks k c.member) c w there h ]) refl

  -- ---- the end of a round

  greatest_reached : (known : ℕ) (crew : List (ActorCrew C)) → known ≤ greatest known crew
  greatest_reached known [] = omega arith
  greatest_reached known (c ∷ crew) = let rest = greatest_reached (max known c.pass.stamp) crew in omega (arith, rest)

  pub greatest_above : (known : ℕ) (crew : List (ActorCrew C)) (i : ℕ) (c : ActorCrew C) → slice_get crew i ≡ Some c → c.pass.stamp ≤ greatest known crew
  greatest_above known [] i c there = cc
  greatest_above known (first ∷ crew) zero c there =
      let same : first ≡ c = same_Some first c there in let rest = greatest_reached (max known first.pass.stamp) crew in
      subst (λ x. x.pass.stamp ≤ greatest (max known first.pass.stamp) crew) same (omega (arith, rest))
  greatest_above known (first ∷ crew) (suc i) c there = greatest_above (max known first.pass.stamp) crew i c there

  same_lists : (stamp : ℕ) (crew : List (ActorCrew C)) → lists_of (map (begins stamp) crew) ≡ lists_of crew
  same_lists stamp [] = refl
  same_lists stamp (c ∷ crew) = ap (λ lists. c.list ∷ lists) (same_lists stamp crew)

  begun_crew : (top stamp number : ℕ) (c : ActorCrew C) → c.pass.stamp ≤ stamp → IsFineCrew top number c → IsFineCrew stamp number (begins stamp c)
  begun_crew top stamp number c most h =
      let same : stamp ≡ max c.pass.stamp stamp = omega (arith, most) in
      record {
        numbered = h.numbered;
        ours = h.ours;
        rises = h.rises;
        known = omega (arith, h.known);
        chained = subst (λ known. IsChainedAbove stamp known c.list) same
            (chained_anew stamp c.list (Every-map (λ n below. omega (arith, below, h.known, most)) (stamps_below 0 c.list h.rises)));
        unrefused = h.unrefused;
      }

  begun_fine : (top : ℕ) (w : WorldState C) → IsFine top w → IsFine (greatest 0 w.crew) (record w { crew = map (begins (greatest 0 w.crew)) w.crew })
  begun_fine top w h = record {
    crew = record {
      each = λ i n c n_is there.
          let found = in_map (begins (greatest 0 w.crew)) w.crew i c there in
          subst (IsFineCrew (greatest 0 w.crew) n) found.2
          (begun_crew top (greatest 0 w.crew) n found.0 (greatest_above 0 w.crew i found.0 found.1) (h.crew.each i n found.0 n_is found.1));
    };
    journals = h.journals;
    paired = λ after. subst (λ lists. ArePaired after lists (journals_of w.books)) (sym (same_lists (greatest 0 w.crew) w.crew)) (h.paired after);
  }

  pub round_fine : (top : ℕ) (w : WorldState C) → IsFine top w → IsFine (top_after Turn.Round w top) (end_round w)
  round_fine top w h = elim (all_over w.crew) as (λ b. IsFine (if b then greatest 0 w.crew else top) (if b then record w { crew = map (begins (greatest 0 w.crew)) w.crew } else w))
      [ true ↦ begun_fine top w h | false ↦ h ]

  -- where each turn was over, by the greatest stamp as the round ended, which each actor knows then
  pub ended_fine : (top : ℕ) (w : WorldState C) → all_over w.crew ≡ true → IsFine top w → IsFine (greatest 0 w.crew) (end_round w)
  ended_fine top w over h = subst (λ (b : Bool). IsFine (if b then greatest 0 w.crew else top) (end_round w)) over (round_fine top w h)

  pub same_greatest : (g known : ℕ) (crew : List (ActorCrew C)) → ((i : ℕ) (c : ActorCrew C) → slice_get crew i ≡ Some c → c.pass.stamp ≡ g) → known ≤ g
      → (i : ℕ) (c : ActorCrew C) → slice_get crew i ≡ Some c → greatest known crew ≡ g
  same_greatest g known [] each most i c there = cc
  same_greatest g known (d ∷ []) each most i c there = let is = each 0 d refl in omega (arith, is, most)
  same_greatest g known (d ∷ e ∷ crew) each most i c there =
      let is = each 0 d refl in same_greatest g (max known d.pass.stamp) (e ∷ crew) (λ j x at. each (suc j) x at) (omega (arith, is, most)) 0 e refl

  begun_known : (crew : List (ActorCrew C)) (i : ℕ) (c : ActorCrew C) → slice_get (map (begins (greatest 0 crew)) crew) i ≡ Some c → c.pass.stamp ≡ greatest 0 crew
  begun_known crew i c there =
      let found = in_map (begins (greatest 0 crew)) crew i c there in
      let most = greatest_above 0 crew i found.0 found.1 in
      let own : max found.0.pass.stamp (greatest 0 crew) ≡ c.pass.stamp = ap (λ x. x.pass.stamp) found.2 in
      omega (arith, own, most)

  pub greatest_begun : (crew : List (ActorCrew C)) → greatest 0 (map (begins (greatest 0 crew)) crew) ≡ greatest 0 crew
  greatest_begun [] = refl
  greatest_begun (c ∷ crew) =
      same_greatest (greatest 0 (c ∷ crew)) 0 (map (begins (greatest 0 (c ∷ crew))) (c ∷ crew)) (begun_known (c ∷ crew)) (omega arith) 0 (begins (greatest 0 (c ∷ crew)) c) refl

  -- the end of a round leaves the greatest stamp
  pub greatest_ended : (w : WorldState C) → greatest 0 (end_round w).crew ≡ greatest 0 w.crew
  greatest_ended w = elim (all_over w.crew) as (λ b. greatest 0 (if b then record w { crew = map (begins (greatest 0 w.crew)) w.crew } else w).crew ≡ greatest 0 w.crew)
      [ true ↦ greatest_begun w.crew | false ↦ refl ]

  -- ---- all turns

  pub turn_fine : (k : Codec C) (turn : Turn) (top : ℕ) (w : WorldState C) → IsFine top w → IsFine (top_after turn w top) (after_turn k turn w)
  turn_fine k (Turn.Step actor) top w h = step_fine k actor top w h
  turn_fine k Turn.Round top w h = round_fine top w h

  new_fine : (number : ℕ) (member : Actor C) → IsFineCrew 0 number (new_crew number member)
  new_fine number member = record {
    numbered = refl;
    ours = Every-nil (λ note. note.actor ≡ number);
    rises = tt;
    known = omega arith;
    chained = chained_anew 0 [] (Every-nil (λ note. note.stamp ≤ 0));
    unrefused = refl;
  }

  pub opened_fine : (start : Start) → IsFine {C = C} 0 (opened_world start)
  opened_fine start = record {
    crew = record { each = at };
    journals = record { send_a = tt; send_b = tt; reassembly_a = tt; reassembly_b = tt; control_a = tt; control_b = tt };
    paired = λ after. paired_from after _ _ (record { notes = no_note; entries = no_entry });
  }
    where
      path_fine : (number : ℕ) (plan : PathPlan) → IsFineCrew {C = C} 0 (suc (suc number)) (new_path {C = C} start number plan)
      path_fine number plan =
          let same : 2 + number ≡ suc (suc number) = omega arith in subst (λ n. IsFineCrew {C = C} 0 n (new_path {C = C} start number plan)) same (new_fine (2 + number) _)

      at : (i n : ℕ) (c : ActorCrew C) → n ≡ 0 + i → slice_get (opened_world {C = C} start).crew i ≡ Some c → IsFineCrew 0 n c
      at i n c n_is there =
          let number : i ≡ n = omega (arith, n_is) in
          subst (λ m. IsFineCrew 0 m c) number (opened_actors (IsFineCrew 0) start (new_fine 0 _) (new_fine 1 _) (λ number plan found. path_fine number plan) i c there)

      no_path : (n : Note) (first : ℕ) (plans : List PathPlan) → Occurs n (lists_of (paths_from {C = C} start first plans)) → ⊥
      no_path n first [] none = none
      no_path n first (plan ∷ plans) (inl none) = none
      no_path n first (plan ∷ plans) (inr more) = no_path n (suc first) plans more

      no_note : (n : Note) → Occurs n (lists_of (opened_world {C = C} start).crew) → is_local n.ask ≡ false → Occurs n (journals_of (opened_world {C = C} start).books)
      no_note n (inl none) asks = absurd none
      no_note n (inr (inl none)) asks = absurd none
      no_note n (inr (inr none)) asks = absurd (no_path n 0 start.paths none)

      no_entry : (n : Note) → Occurs n (journals_of (opened_world {C = C} start).books) → Occurs n (lists_of (opened_world {C = C} start).crew)
      no_entry n (inl none) = absurd none
      no_entry n (inr (inl none)) = absurd none
      no_entry n (inr (inr (inl none))) = absurd none
      no_entry n (inr (inr (inr (inl none)))) = absurd none
      no_entry n (inr (inr (inr (inr (inl none))))) = absurd none
      no_entry n (inr (inr (inr (inr (inr (inl none)))))) = absurd none
      no_entry n (inr (inr (inr (inr (inr (inr none)))))) = absurd none
