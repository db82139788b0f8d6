use Rattle.ruled_desk.proofs.Words.{◌≡◌, ℕ, ◌≤◌, false, ◌++◌, map, take, drop, given_pass, is_out}
use Rattle.ruled_desk.proofs.desk.RuledDesk.split_all.Given as goal

-- the riders so far have their passes, and no other is out
abbrev pub invariant-loop-rider : goal.invariant-loop-rider
invariant-loop-rider g l =
    record {
      riders : l.riders ≡ map (given_pass l.self) (take l.rider-index l.initial.riders) ++ drop l.rider-index l.initial.riders;
      books : l.root.books ≡ l.initial.root.books;
      others : (actor : ℕ) → l.rider-index ≤ actor → is_out l.root.out actor ≡ false;
    }
