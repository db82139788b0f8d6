use Rattle.reassembly_book.proofs.Bounds.{some_bytes, most_bytes}
use Rattle.reassembly_book.proofs.laws.some_bytes_are_read.Goals as goal

pub returns : goal.returns
returns c = record { some = some_bytes; most = most_bytes }
