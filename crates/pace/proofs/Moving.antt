-- Each move keeps what holds of a lane, and so do many.
--
-- One record of inequalities, one `omega`: it proves a declared record by its fields, 20 at once, and reads those of a
-- hypothesis. Give it `h.numbers`, not `h`. Flags are numbers too (0 or 1, `max` where they rise), so that no rule goes
-- by cases on them.
--
-- What a move leaves alone is passed on whole (`flags = h.flags`): the groups of an invariant are `abbrev`s of records
-- without a name, over the lane. Two of these are equal where their fields' types are, so they are the same before and
-- after a move that touches none of their fields; two declared records over different lanes never are. A lemma of a
-- move has a line a group.
--
-- `record r { f = .. }` keeps the type of `r`: an invariant over the new state has to be written with all its fields.
--
-- Records in a record are opened (`pub open sender use *`), so that `w.acked` stands for `w.sender.acked`; a change
-- still names both.
--
-- Moves are a family with the state as index, each constructor with one record of conditions: its lemma takes that
-- record, and the dispatch is a line a move (`proofs/Moving`). Conditions stand as inequalities, as `min 1 x ≤ y`,
-- where `omega` is to read them.
use Rattle.std.proofs.Common.{ℕ, zero, suc, subst₂}
use Rattle.pace.specs.Lane.{Setting, Lane, Stage}
use Rattle.pace.specs.Going.{Going}
use Rattle.pace.specs.Moves.{Move}
use Rattle.pace.specs.Moves.Move.{writes, closes, ends_writing, reads, ends_reading, asks, says, keeps_quiet, sends_none, sends_bytes, is_refused, has_emitted, has_finished, waits_no_more, settles, rests, flags, grows, moves, hears, skips, is_acknowledged, goes_back}
use Rattle.pace.specs.Rounds.{Moves}
use Rattle.pace.proofs.Applying.{wrote_going, closed_going, writer_ended_going, read_going, reader_ended_going}
use Rattle.pace.proofs.Saying.{asked_going, said_going, quiet_going}
use Rattle.pace.proofs.Sending.{sent_going, granted_going}
use Rattle.pace.proofs.Settling.{back_going, refused_going, emitted_going, finished_going, over_going, settled_going, rested_going, flagged_going, grown_going, moved_going}
use Rattle.pace.proofs.Hearing.{heard_going, skipped_going, acknowledged_going}

module _ (k : Setting) (s : Lane) (t : ℕ) (p : Stage) (w : Lane) where
  pub moves_going : (q : Stage) (u : Lane) → Move k s p w q u → Going k s t p w → Going k s t q u
  moves_going q u (writes n may) = wrote_going k s t p n w may
  moves_going q u (closes n may) = closed_going k s t p n w may
  moves_going q u (ends_writing may) = writer_ended_going k s t p w may
  moves_going q u (reads n may) = read_going k s t p n w may
  moves_going q u (ends_reading n may) = reader_ended_going k s t p n w may
  moves_going q u (asks limit may) = asked_going k s t p limit w may
  moves_going q u (says tell update x may) = said_going k s t p tell update x w may
  moves_going q u (keeps_quiet may) = quiet_going k s t p w may
  moves_going q u (sends_none x none may) = sent_going k s t p x w none may
  moves_going q u (sends_bytes x may) = granted_going k s t p x w may
  moves_going q u (is_refused shut known may) = refused_going k s t p shut known w may
  moves_going q u (has_emitted may) = emitted_going k s t p w may
  moves_going q u (has_finished may) = finished_going k s t p w may
  moves_going q u (waits_no_more datas acks) = over_going k s t p w datas acks
  moves_going q u (settles runs rto long reason) = settled_going k s t p runs rto w long reason
  moves_going q u rests = rested_going k s t p w
  moves_going q u (flags ready clear may) = flagged_going k s t p ready clear w may
  moves_going q u (grows n emit more) = grown_going k s t p n w emit more
  moves_going q u (moves tick may) = moved_going k s t p tick w may
  moves_going q u (hears ask c rest may) = heard_going k s t p ask c rest w may
  moves_going q u (skips c rest may) = skipped_going k s t p c rest w may
  moves_going q u (is_acknowledged c rest may) = acknowledged_going k s t p c rest w may
  moves_going q u (goes_back r may) = back_going k s t p r w may

pub all_moves_going : (k : Setting) (s : Lane) (t n : ℕ) (p : Stage) (w : Lane) (q : Stage) (u : Lane)
    → Moves k s n p w q u → Going k s t p w → Going k s t q u
all_moves_going k s t zero p w q u same h = subst₂ (λ (r : Stage) (v : Lane). Going k s t r v) same.0 same.1 h
all_moves_going k s t (suc n) p w q u m h = moves_going k s t m.0 m.1 q u m.3 (all_moves_going k s t n p w m.0 m.1 m.2 h)
