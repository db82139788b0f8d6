-- The parts of the six tables that seats have.
use Rattle.std.specs.Prelude.{ℕ, ◌+◌, ◌-◌, ◌≤◌, ◌++◌, ◌||◌, Bool, false, List, []}
use Rattle.ruled_desk.specs.declared.seats.Seats.{Seats}
use Rattle.ruled_desk.specs.Seats as seat
use Rattle.ruled_desk.specs.SixSeats.{SixLocked, SixKnown, how_many}

-- what these seats know
abbrev pub known_in : Seats → SixKnown
known_in s = record {
  send_a = seat.known_by s.send_a;
  send_b = seat.known_by s.send_b;
  reassembly_a = seat.known_by s.reassembly_a;
  reassembly_b = seat.known_by s.reassembly_b;
  control_a = seat.known_by s.control_a;
  control_b = seat.known_by s.control_b;
}

-- each has so many parts at least
pub record EachHas (count : ℕ) (s : Seats) : Type 0 where
  pub send_a : count ≤ s.send_a.parts
  pub send_b : count ≤ s.send_b.parts
  pub reassembly_a : count ≤ s.reassembly_a.parts
  pub reassembly_b : count ≤ s.reassembly_b.parts
  pub control_a : count ≤ s.control_a.parts
  pub control_b : count ≤ s.control_b.parts

-- of the 1,024 parts of each table, no more are gone than passes are out
pub record AreLeft (out : List Bool) (s : Seats) : Type 0 where
  pub send_a : 1024 ≤ s.send_a.parts + how_many out
  pub send_b : 1024 ≤ s.send_b.parts + how_many out
  pub reassembly_a : 1024 ≤ s.reassembly_a.parts + how_many out
  pub reassembly_b : 1024 ≤ s.reassembly_b.parts + how_many out
  pub control_a : 1024 ≤ s.control_a.parts + how_many out
  pub control_b : 1024 ≤ s.control_b.parts + how_many out

-- a seat with one part less
abbrev pub less_one : {C R : Type 0} → seat.Seated C R → seat.Seated C R
less_one s = record s { parts = s.parts - 1 }

-- the six seats with one part less each
abbrev pub one_part_less : Seats → Seats
one_part_less s = record {
  send_a = less_one s.send_a;
  send_b = less_one s.send_b;
  reassembly_a = less_one s.reassembly_a;
  reassembly_b = less_one s.reassembly_b;
  control_a = less_one s.control_a;
  control_b = less_one s.control_b;
}

-- new seats at the tables of a desk
abbrev pub new_seats : SixLocked → Seats
new_seats desk = record {
  send_a = seat.seated desk.send_a.table 1 [] false;
  send_b = seat.seated desk.send_b.table 1 [] false;
  reassembly_a = seat.seated desk.reassembly_a.table 1 [] false;
  reassembly_b = seat.seated desk.reassembly_b.table 1 [] false;
  control_a = seat.seated desk.control_a.table 1 [] false;
  control_b = seat.seated desk.control_b.table 1 [] false;
}

-- one seat with the parts and entries of both, which notes a full journal where one of them does
abbrev pub both_of : {C R : Type 0} → seat.Seated C R → seat.Seated C R → seat.Seated C R
both_of s t = seat.seated s.table (s.parts + t.parts) (s.own ++ t.own) (s.full || t.full)

-- the parts, entries and notes of both
abbrev pub both_seats : Seats → Seats → Seats
both_seats s t = record {
  send_a = both_of s.send_a t.send_a;
  send_b = both_of s.send_b t.send_b;
  reassembly_a = both_of s.reassembly_a t.reassembly_a;
  reassembly_b = both_of s.reassembly_b t.reassembly_b;
  control_a = both_of s.control_a t.control_a;
  control_b = both_of s.control_b t.control_b;
}
