-- A round by threads at the tables: lists and journals are paired after it, and it is one of steps by stamp, then actor.
use Rattle.std.proofs.Common.{◌≡◌, refl, sym, ◌∙◌, ap, subst, ℕ, zero, suc, ◌+◌, ◌<◌, true, Some, List, [], ◌∷◌, length, arith}
use Rattle.std.specs.List.{slice_get, slice_index_or}
use Rattle.stream_lanes.specs.Words.{Every}
use Rattle.actor_desk.specs.Books.{StampedBooks}
use Rattle.actor_desk.specs.Journals.{ArePaired, order_of}
use Rattle.path_core.specs.Octets.{octets}
use Rattle.ruled_desk.specs.Gaining.{StaysPaired}
use Rattle.ruled_desk.specs.WholeRounds.{AreActors, IsWholeRound}
use Rattle.world_laws.specs.Actors.{ActorCrew, member_asks, member_takes}
use Rattle.world_laws.specs.Fine.{lists_of}
use Rattle.world_laws.specs.StampedBooks.{journals_of}
use Rattle.world_laws.specs.Weaving.{Begins, Worked}
use Rattle.world_laws.specs.Worlds.{WorldState, all_over, greatest}
use Rattle.world_laws.proofs.Weaving.WholeRounds.{woven_does}
use Rattle.journal_weave.specs.Journals.{AreJournals}
use Rattle.journal_weave.specs.Rounds.{HaveTurned, WeavesTo, known_by}
use Rattle.journal_weave.specs.Weaving.{AreOwn, lists_in}
use Rattle.journal_weave.proofs.AtTables.{books_grew}
use Rattle.journal_weave.proofs.Paired.{paired_above}
use Rattle.journal_weave.proofs.TurnsTaken.{all_stepped, each_over, each_own}

abbrev Crew : Type 0
Crew = ActorCrew (List ℕ)

abbrev World : Type 0
World = WorldState (List ℕ)

-- ---- one round

-- what steps made of a world, up to the end of each turn, is a round of those steps by stamp, then actor
pub worked_round : (w v : World) → Begins (greatest 0 w.crew) w → Worked octets (greatest 0 w.crew) w v → all_over v.crew ≡ true
    → WeavesTo w v (order_of (greatest 0 w.crew) (lists_of v.crew))
worked_round w v begins worked over =
    let does = woven_does octets (greatest 0 w.crew) w v begins worked in
    record {
      round = record {
        lawful = does.0;
        over = subst (λ (z : World). all_over z.crew ≡ true) (sym does.1) over;
        in_order = ap (λ (z : World). order_of (greatest 0 w.crew) (lists_of z.crew)) (sym does.1);
      };
      leads = does.1;
    }

-- ---- by threads

-- the first actor knows the greatest stamp, as all do
known_top : (crew : List Crew) → Every (λ c. c.pass.stamp ≡ greatest 0 crew) crew → known_by (slice_get crew 0) ≡ greatest 0 crew
known_top [] known = refl
known_top (c ∷ crew) known = known.each 0 c refl

-- the actors have their places as their numbers
pub are_actors : (crew : List Crew) (books : StampedBooks) → Begins (greatest 0 crew) (record { crew = crew; books = books }) → AreActors 0 crew
are_actors crew books begins = from 0 crew (λ i n c is there. (begins.fine.crew.each i n c is there).numbered)
  where
    from : (first : ℕ) (xs : List Crew) → ((i n : ℕ) (c : Crew) → n ≡ first + i → slice_get xs i ≡ Some c → c.pass.actor ≡ n) → AreActors first xs
    from first [] numbered = tt
    from first (x ∷ xs) numbered = (numbered 0 first x (omega arith) refl, from (suc first) xs (λ i n c is there. numbered (suc i) n c (omega (arith, is)) there))

-- a round that began with some actors and books, and left others
module _ (crew after : List Crew) (books left : StampedBooks) (begins : Begins (greatest 0 crew) (record { crew = crew; books = books }))
    (whole : IsWholeRound (member_asks octets) (member_takes octets) crew after books left) where
  knows_top : (i : ℕ) (d : Crew) → i < length crew → (slice_index_or crew i d).pass.stamp ≡ greatest 0 crew
  knows_top i d within = begins.known.each i (slice_index_or crew i d) (at_index crew i d within)
    where
      at_index : (xs : List Crew) (i : ℕ) (d : Crew) → i < length xs → slice_get xs i ≡ Some (slice_index_or xs i d)
      at_index [] i d within = absurd (omega (arith, within))
      at_index (x ∷ xs) zero d within = refl
      at_index (x ∷ xs) (suc i) d within = at_index xs i d (omega (arith, within))

  pub have_turned : HaveTurned crew after
  have_turned = record { many = whole.many; turned = whole.turned }

  -- each list is its actor's
  pub lists_own : AreOwn 0 (lists_in after)
  lists_own = each_own (greatest 0 crew) 0 crew after whole.many whole.turned (λ i n c is there. begins.fine.crew.each i n c is there)

  -- lists and journals are paired at every stamp
  pub still_paired : StaysPaired → ArePaired 0 (lists_of after) (journals_of left)
  still_paired stay = stay (lists_of crew) (lists_of after) (journals_of books) (journals_of left) whole.alike (begins.fine.paired 0)

  -- the steps in order are a round, by a stamp that each actor knew
  pub whole_woven : StaysPaired → AreJournals left → (top : ℕ) → top ≡ known_by (slice_get crew 0) → (actors : List ℕ) → actors ≡ order_of top (lists_in after)
      → WeavesTo (record { crew = crew; books = books }) (record { crew = after; books = left }) actors
  whole_woven stay are top top_is actors order =
      let begun : top ≡ greatest 0 crew = top_is ∙ known_top crew begins.known in
      subst (WeavesTo (record { crew = crew; books = books }) (record { crew = after; books = left })) (ap (λ t. order_of t (lists_of after)) (sym begun) ∙ sym order)
      (worked_round (record { crew = crew; books = books }) (record { crew = after; books = left }) begins
      (record {
        crew = all_stepped crew after whole.many whole.turned whole.done (λ i c there. (begins.fine.crew.each i i c (omega arith) there).unrefused);
        books = books_grew (greatest 0 crew) crew after books left whole knows_top are;
        paired = paired_above (greatest 0 crew) (lists_of after) (journals_of left) (still_paired stay);
      })
      (each_over crew after whole.many whole.turned whole.done))
