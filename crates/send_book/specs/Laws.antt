-- A send book over lists of calls.
use Rattle.std.specs.Prelude.{ℕ, ◌≡◌, ◌+◌, ◌-◌, ◌≤◌, Bool, true, false, ◌&&◌, ◌==◌, nat_lt, nat_le, if◌then◌else◌, Some, List, [], ◌∷◌, length, slice_get}
use Rattle.send_book.specs.declared.call.Span.{Span}
use Rattle.send_book.specs.declared.call.SendCall.{SendCall}
use Rattle.send_book.specs.declared.call.SendCall.TheVariants.{Grant}
use Rattle.send_book.specs.declared.call.SendReply.{SendReply}
use Rattle.send_book.specs.declared.call.SendReply.TheVariants.{Granted}
use Rattle.send_book.specs.declared.mark.ByteMark.TheVariants.{Acked}
use Rattle.send_book.specs.State.{Sending}
use Rattle.send_book.specs.Steps.{reply_to, after_call}

-- the book after these calls, the first one first
abbrev pub after_calls : List SendCall → Sending → Sending
after_calls [] b = b
after_calls (call ∷ calls) b = after_calls calls (after_call b call)

-- the call asks for bytes for this path
abbrev pub is_asked_by : ℕ → SendCall → Bool
is_asked_by path (Grant asker max standby) = asker == path
is_asked_by path _ = false

-- the reply grants bytes
abbrev pub is_grant : SendReply → Bool
is_grant (Granted span piece) = true
is_grant _ = false

-- the reply grants the byte at this place
abbrev pub covers : ℕ → SendReply → Bool
covers place (Granted span piece) = nat_le span.from place && nat_lt place span.to
covers place _ = false

-- how often these calls grant the byte at this place to this path
abbrev pub times_granted : ℕ → ℕ → List SendCall → Sending → ℕ
times_granted path place [] b = 0
times_granted path place (call ∷ calls) b =
    (if is_asked_by path call && covers place (reply_to b call) then 1 else 0)
    + times_granted path place calls (after_call b call)

-- the byte at this place is acknowledged
abbrev pub IsAckedAt : ℕ → Sending → Type 0
IsAckedAt place b = slice_get b.marks place ≡ Some Acked

-- what is granted: as many bytes as the span has places, at least one and at most so many
pub record IsPieceOf (span : Span) (piece : List ℕ) (max : ℕ) : Type 0 where
  pub whole : length piece ≡ span.to - span.from
  pub some : 1 ≤ length piece
  pub most : length piece ≤ max
