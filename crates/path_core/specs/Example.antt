-- The first round of a connection: A's file has the five octets of "hello", and B's has none. Path 0 has a maximum segment
-- size of 1,400 octets and a delay of 10 ticks.
use Rattle.std.specs.Prelude.{ℕ, zero, suc, false, Option, Some, None, List, [], codes}
use Rattle.sides.specs.declared.side.Side.TheVariants as side
use Rattle.send_book.specs.declared.call.SendCall.TheVariants as send_calls
use Rattle.reassembly_book.specs.declared.call.ReassemblyCall.TheVariants as reassembly_calls
use Rattle.actor_desk.specs.declared.ask.Ask.{Ask}
use Rattle.actor_desk.specs.declared.ask.Ask.TheVariants as asks
use Rattle.path_core.specs.Codec.{Codec}
use Rattle.actor_desk.specs.Desk.{SixBooks, Step, step_told, reply_of, after_ask, opened_books}
use Rattle.path_core.specs.declared.start.Drawn.{Drawn}
use Rattle.path_core.specs.Start.{PathStart, first_turn}
use Rattle.path_core.specs.State.{PathState}
use Rattle.path_core.specs.Profile.{Profile}
use Rattle.path_core.specs.Steps.{asks_of, takes}

-- ---- the connection

abbrev pub hello : List ℕ
hello = codes "hello"

-- what the seed 1 draws
abbrev pub drawn : Drawn
drawn = record {
  initial_a = 34611174;
  initial_b = 1782856242;
  nonce_a = 849373392;
  nonce_b = 3620216889;
  key_a = 8938189255999614177;
  key_b = 5210603713849882493;
}

-- the initial data sequence numbers are those of the keys
abbrev pub profile : Profile
profile = record {
  mss = 1400;
  buffer = 65536;
  backup = false;
  spelling = record {
    path = 0;
    a = record { initial = record { 0 = 34611174 }; idsn = record { 0 = 5765362236527719691 } };
    b = record { initial = record { 0 = 1782856242 }; idsn = record { 0 = 3246981820192841123 } };
    checksums = false;
    short = false;
  };
}

-- path 0 opens the connection
abbrev pub start : PathStart
start = record { profile = profile; drawn = drawn; seed = 1; delay = 10; joined_at = None }

-- ---- steps at the books

-- a path with the books
pub record PathRun (C : Type 0) : Type 0 where
  pub path : PathState C
  pub books : SixBooks

-- the books answer what the path asks, and both are changed by it
abbrev pub path_step : {C : Type 0} → Codec C → Option Ask → PathRun C → PathRun C
path_step k None w = w
path_step k (Some ask) w = record { path = takes k (reply_of w.books ask) w.path; books = after_ask ask w.books }

-- the path and the books after so many of its steps
abbrev pub after_steps : {C : Type 0} → Codec C → ℕ → PathRun C → PathRun C
after_steps k zero w = w
after_steps k (suc n) w = after_steps k n (path_step k (asks_of k w.path) w)

-- a number of the path's steps, the first one first
abbrev pub steps_made : {C : Type 0} → Codec C → ℕ → PathRun C → List Step
steps_made k zero w = []
steps_made k (suc n) w = step_told (asks_of k w.path) w.books (steps_made k n (path_step k (asks_of k w.path) w))

-- ---- the first round

-- the books when both applications have made their first turns: A wrote its file, and B has none
abbrev pub books_at_first : SixBooks
books_at_first =
    after_ask (asks.Reassembly side.B (reassembly_calls.Read 65536)) (after_ask (asks.Send side.B send_calls.Close)
    (after_ask (asks.Reassembly side.A (reassembly_calls.Read 65536)) (after_ask (asks.Send side.A send_calls.Close)
    (after_ask (asks.Send side.A (send_calls.Write hello)) (opened_books 65536 drawn.key_a drawn.key_b)))))

-- path 0 at the start of its first turn, with those books
abbrev pub path_at_first : {C : Type 0} → PathRun C
path_at_first = record { path = first_turn start []; books = books_at_first }
