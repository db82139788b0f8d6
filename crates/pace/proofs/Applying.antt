-- The applications' moves keep what holds of a lane.
use Rattle.std.proofs.Common.{ℕ, ◌+◌, ◌≤◌, arith}
use Rattle.std.proofs.lemmas.Bool.{both_ways}
use Rattle.pace.specs.Lane.{Setting, Lane, Stage}
use Rattle.pace.specs.Rules.{wrote, closed_by, writer_ended, has_read, reader_ended}
use Rattle.pace.specs.Going.{Going}
use Rattle.pace.specs.Moves.{MayWrite, MayClose, MayEndWriting, MayEndReading}
use Rattle.pace.proofs.Parts.{parts, whole, new_counts, new_turns, new_under_way, new_shut}

module _ (k : Setting) (s : Lane) (t : ℕ) (p : Stage) where
  pub wrote_going : (n : ℕ) (w : Lane) → MayWrite k n w → Going k s t p w → Going k s t p (wrote n w)
  wrote_going n w may h = whole (new_counts (omega (arith, may, h.numbers)) (omega (arith, may, h.since)) (omega (arith, h.round))
      (new_shut (λ is. ((let old = h.shut is in omega (arith, old.0, may.more)), (h.shut is).1))
      (new_turns (record { wrote = λ over. absurd (both_ways _ may.turn over); closed = λ over. absurd (both_ways _ may.turn over); read = h.turns.read; told = h.turns.told }) (parts h))))

  pub closed_going : (n : ℕ) (w : Lane) → MayClose k n w → Going k s t p w → Going k s t p (closed_by n w)
  closed_going n w may h = whole (new_counts (omega (arith, may, h.numbers)) (omega (arith, may, h.since)) (omega (arith, h.round))
      (new_turns (record {
        wrote = h.turns.wrote;
        closed = λ over. let old = h.turns.closed over in omega (arith, old, may.more);
        read = h.turns.read;
        told = h.turns.told;
      }) (parts h)))

  pub writer_ended_going : (w : Lane) → MayEndWriting k s w → Going k s t p w → Going k s t p (writer_ended w)
  writer_ended_going w may h = whole (new_counts (omega (arith, h.numbers)) (omega (arith, h.since)) (omega (arith, h.round))
      (new_turns (record { wrote = λ over. may.wrote; closed = λ over. may.closed; read = h.turns.read; told = h.turns.told }) (parts h)))

  pub read_going : (n : ℕ) (w : Lane) → w.read + n ≤ w.received → Going k s t p w → Going k s t p (has_read n w)
  read_going n w may h = whole (new_counts (omega (arith, may, h.numbers)) (omega (arith, may, h.since)) (omega (arith, may, h.round))
      (new_under_way (record {
        chain = h.under_way.chain;
        datas_at = h.under_way.datas_at;
        acks_at = h.under_way.acks_at;
        datas_are = h.under_way.datas_are;
        acks_are = λ c i. let old = h.under_way.acks_are c i in (old.0, omega (arith, old.1), old.2, old.3);
      })
      (new_turns (record {
        wrote = h.turns.wrote;
        closed = h.turns.closed;
        read = λ over. let old = h.turns.read over in omega (arith, old);
        told = h.turns.told;
      }) (parts h))))

  pub reader_ended_going : (n : ℕ) (w : Lane) → MayEndReading k s n w → Going k s t p w
      → Going k s t p (reader_ended n w)
  reader_ended_going n w may h = whole (new_counts (omega (arith, h.numbers)) (omega (arith, may, h.since)) (omega (arith, h.round))
      (new_turns (record { wrote = h.turns.wrote; closed = h.turns.closed; read = λ over. may.read; told = λ over. may.told }) (parts h)))
