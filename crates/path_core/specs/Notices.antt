-- What an end has to tell its peer beside its streams, or to do (RFC 8684, sections 3.3.8, 3.4 and 3.5).
use Rattle.std.specs.Prelude.{ℕ, Bool, ◌&&◌, not, true, false, if◌then◌else◌, List, ◌++◌, Option, [], Some, is_some, ◌∷◌, None}
use Rattle.path_agenda.specs.declared.notice.OwnNotice.{OwnNotice}
use Rattle.actor_desk.specs.Words.{tail_of}
use Rattle.control_book.specs.declared.call.Notice.{Notice}
use Rattle.control_book.specs.declared.call.Notice.TheVariants as told
use Rattle.path_agenda.specs.declared.notice.OwnNotice.TheVariants as notes

-- what the end has to tell its peer beside its streams, or to do
pub record Notices : Type 0 where
  -- what is to be noted to the peer, in its order
  pub queue : List OwnNotice
  -- the peer's key, where this end carries the fast close
  pub carrier : Option ℕ
  -- MP_FASTCLOSE was sent
  pub fast_closed : Bool
  -- the end is to be reset
  pub reset : Bool

abbrev pub no_notices : Notices
no_notices = record { queue = []; carrier = None; fast_closed = false; reset = false }

-- behind all others
abbrev pub queued : OwnNotice → Notices → Notices
queued notice n = record n { queue = n.queue ++ notice ∷ [] }

-- the first of it was noted
abbrev pub without_first : Notices → Notices
without_first n = record n { queue = tail_of n.queue }

-- An announcement that the end can't send now is told again in the next round. The key is the last one told before MP_FASTCLOSE is sent.
abbrev pub after_notice : Notice → Bool → Notices → Notices
after_notice told.Nothing may n = n
after_notice (told.Announce id) may n = if may then queued (notes.AddAddr id) n else n
after_notice (told.Withdraw id) may n = queued (notes.Removes id) n
after_notice (told.Carrier key) may n = record n { carrier = (if n.fast_closed then n.carrier else Some key) }
after_notice told.Reset may n = record n { reset = true }

-- something is to be noted to the peer
abbrev pub queues : Notice → Bool → Bool
queues told.Nothing may = false
queues (told.Announce id) may = may
queues (told.Withdraw id) may = true
queues (told.Carrier key) may = false
queues told.Reset may = false

-- MP_FASTCLOSE is to be sent, and never was
abbrev pub is_carried : Notices → Bool
is_carried n = is_some n.carrier && not n.fast_closed
