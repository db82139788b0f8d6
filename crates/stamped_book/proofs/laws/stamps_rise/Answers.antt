use Rattle.std.proofs.Common.{arith}
use Rattle.stamped_book.proofs.Journals.{IsJournal-rise, IsJournal-last_stamp}
use Rattle.stamped_book.proofs.laws.stamps_rise.Goals as goal

pub returns : goal.returns
returns g c = record {
  rise = IsJournal-rise _ _ _ 0 _ c.journal-journal.ensures.journal;
  small = IsJournal-last_stamp _ _ _ 0 _ (omega arith) c.journal-journal.ensures.journal;
}
