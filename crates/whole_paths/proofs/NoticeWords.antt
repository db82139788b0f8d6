-- What an end notes to its peer, an option says, and the peer hears: that an address is taken back, a priority, or that a path joins as a backup.
use Rattle.std.proofs.Common.{◌≡◌, refl, sym, ℕ, ◌==◌, ◌||◌, ◌&&◌, inl, inr, Bool, true, false, true≢false, List, [], ◌∷◌}
use Rattle.std.specs.List.{list_any}
use Rattle.std.proofs.lemmas.Bool.{false≢true, or_cases, or_from, or_parts}
use Rattle.path_segments.specs.Options.{PlainOption}
use Rattle.path_segments.specs.Spelled.{PlainSegment}
use Rattle.path_segments.specs.declared.segment.PathOption.TheVariants.{Join, Prio, Remove}
use Rattle.mptcp_options.specs.declared.join.JoinForm.{JoinForm}
use Rattle.mptcp_options.specs.declared.join.JoinForm.TheVariants as forms
use Rattle.path_agenda.specs.declared.heard.Heard.{Heard}
use Rattle.path_agenda.specs.declared.notice.OwnNotice.{OwnNotice}
use Rattle.path_agenda.specs.declared.notice.PeerNotice.{PeerNotice}
use Rattle.path_core.specs.End.{PathEnd}
use Rattle.whole_paths.specs.BackupAsks.{notes_backup}
use Rattle.whole_paths.specs.Priorities.{is_priority_note, says_priority}

-- the address of this id is taken back; a priority; that a path joins as a backup
pub data Word : Type 0 where
  removal : ℕ → Word
  priority : Word
  flag : Word

abbrev pub removes : Word → ℕ → Bool
removes (Word.removal id) other = other == id
removes _ other = false

abbrev pub ranks : Word → Bool
ranks Word.priority = true
ranks _ = false

abbrev pub flags : Word → Bool
flags Word.flag = true
flags _ = false

-- the flag of an MP_JOIN (RFC 8684, section 3.2)
abbrev pub flag_of : JoinForm → Bool
flag_of (forms.Syn backup id token nonce) = backup
flag_of (forms.Answer backup id hmac nonce) = backup
flag_of (forms.Third hmac) = false

-- an own notice is that, and what an end has to note
abbrev pub is_note : Word → OwnNotice → Bool
is_note word (OwnNotice.Removes id) = removes word id
is_note word (OwnNotice.Prio backup) = ranks word
is_note word _ = false

abbrev pub is_queued : Word → List OwnNotice → Bool
is_queued word queue = list_any (is_note word) queue

abbrev pub is_noted : Word → PathEnd → Bool
is_noted word e = is_queued word e.notices.queue

-- an option says it, and a segment
abbrev pub is_said : Word → PlainOption → Bool
is_said word (Remove ids) = list_any (removes word) ids
is_said word (Prio backup) = ranks word
is_said word (Join form) = flags word && flag_of form
is_said word _ = false

abbrev pub is_said_in : Word → PlainSegment → Bool
is_said_in word segment = list_any (is_said word) segment.options

-- a thing is it that an end hears
abbrev pub is_heard : Word → Heard → Bool
is_heard word (Heard.Notice (PeerNotice.Removed id)) = removes word id
is_heard word (Heard.Notice (PeerNotice.Prio backup)) = ranks word
is_heard word (Heard.Join form) = flags word && flag_of form
is_heard word _ = false

-- none of these things is it
abbrev pub AreUnheard : Word → List Heard → Type 0
AreUnheard word items = list_any (is_heard word) items ≡ false

pub either_way : (b : Bool) → (b || false) ≡ true → b ≡ true
either_way b is = elim (or_cases b false is) [ inl here ↦ here | inr never ↦ absurd (false≢true never) ]

-- ---- a priority

-- it takes nothing back
pub rank_alone : (word : Word) → ranks word ≡ true → (id : ℕ) → removes word id ≡ false
rank_alone (Word.removal id) is other = absurd (true≢false (sym is))
rank_alone Word.priority is other = refl
rank_alone Word.flag is other = refl

same_note : (notice : OwnNotice) → is_note Word.priority notice ≡ is_priority_note notice
same_note (OwnNotice.Prio backup) = refl
same_note _ = refl

pub same_queue : (queue : List OwnNotice) → is_queued Word.priority queue ≡ list_any is_priority_note queue
same_queue [] = refl
same_queue (notice ∷ queue) = rw (same_note notice, same_queue queue) refl

none_removed : (ids : List ℕ) → list_any (removes Word.priority) ids ≡ false
none_removed [] = refl
none_removed (id ∷ ids) = none_removed ids

same_option : (x : PlainOption) → is_said Word.priority x ≡ says_priority x
same_option (Remove ids) = none_removed ids
same_option (Prio backup) = refl
same_option _ = refl

pub same_options : (xs : List PlainOption) → list_any (is_said Word.priority) xs ≡ list_any says_priority xs
same_options [] = refl
same_options (x ∷ xs) = rw (same_option x, same_options xs) refl

-- where no priority is heard, none makes the path a backup
no_backup_item : (x : Heard) → is_heard Word.priority x ≡ false → notes_backup x ≡ false
no_backup_item (Heard.Notice (PeerNotice.Prio backup)) none = absurd (true≢false none)
no_backup_item (Heard.Notice (PeerNotice.Removed id)) none = refl
no_backup_item (Heard.Notice _) none = refl
no_backup_item _ none = refl

pub no_backup : (items : List Heard) → AreUnheard Word.priority items → list_any notes_backup items ≡ false
no_backup [] none = refl
no_backup (x ∷ items) none =
    let parts = or_parts (is_heard Word.priority x) (list_any (is_heard Word.priority) items) none in
    or_from (notes_backup x) (list_any notes_backup items) (no_backup_item x parts.0) (no_backup items parts.1)
