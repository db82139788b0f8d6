use Rattle.ruled_desk.proofs.Words.{◌≡◌, ℕ, ◌<◌, ◌≤◌, ◌⊎◌, false, ◌++◌, length, map, take, drop, all_joined, pass_taken, AreOf, is_out}
use Rattle.ruled_desk.proofs.desk.RuledDesk.join_all.Given as goal

-- the riders so far gave their passes back, and the root knows what these note
abbrev pub invariant-loop-rider : goal.invariant-loop-rider
invariant-loop-rider g l =
    record {
      riders : l.riders ≡ map pass_taken (take l.rider-index l.initial.riders) ++ drop l.rider-index l.initial.riders;
      books : l.root.books ≡ all_joined l.initial.root.books (take l.rider-index l.initial.riders);
      of : AreOf l.self l.root.books;
      home : (actor : ℕ) → (actor < l.rider-index) ⊎ (length l.initial.riders ≤ actor) → is_out l.root.out actor ≡ false;
    }
