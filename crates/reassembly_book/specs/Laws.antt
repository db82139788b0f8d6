-- A reassembly book over lists of calls.
use Rattle.std.specs.Prelude.{ℕ, ◌+◌, if◌then◌else◌, Option, List, [], ◌∷◌, ◌++◌}
use Rattle.reassembly_book.specs.declared.call.ReassemblyCall.{ReassemblyCall}
use Rattle.reassembly_book.specs.declared.call.ReassemblyCall.TheVariants.{Place}
use Rattle.reassembly_book.specs.declared.call.ReassemblyReply.{ReassemblyReply}
use Rattle.reassembly_book.specs.declared.call.ReassemblyReply.TheVariants.{Bytes}
use Rattle.reassembly_book.specs.State.{Arriving}
use Rattle.reassembly_book.specs.Steps.{by_place, merged, is_taken, reply_to, after_call, next_wanted, window}

-- the book after these calls, the first one first
abbrev pub after_calls : List ReassemblyCall → Arriving → Arriving
after_calls [] b = b
after_calls (call ∷ calls) b = after_calls calls (after_call b call)

-- the bytes that a reply gives
abbrev pub bytes_of : ReassemblyReply → List ℕ
bytes_of (Bytes bytes) = bytes
bytes_of _ = []

-- the bytes that these calls read, in order
abbrev pub read_by : List ReassemblyCall → Arriving → List ℕ
read_by [] b = []
read_by (call ∷ calls) b = bytes_of (reply_to b call) ++ read_by calls (after_call b call)

-- the byte that came first for each place, from place 0 on: one that is taken joins those before it
abbrev pub joined : ReassemblyCall → Arriving → List (Option ℕ) → List (Option ℕ)
joined (Place at bytes) b came = if is_taken at bytes b then merged came (by_place at bytes) else came
joined _ b came = came

-- the byte that came first for each place, after some calls, the first one first
abbrev pub came_by : List ReassemblyCall → Arriving → List (Option ℕ) → List (Option ℕ)
came_by [] b came = came
came_by (call ∷ calls) b came = came_by calls (after_call b call) (joined call b came)

-- how far the peer may send, as it was told
abbrev pub told_edge : Arriving → ℕ
told_edge b = next_wanted b + window b
