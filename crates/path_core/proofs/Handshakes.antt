-- MP_CAPABLE at a path is that of the handshake.
use Rattle.path_core.proofs.Words.{◌≡◌, refl, sym, ap, subst, ℕ, ◌||◌, Bool, true, false, if◌then◌else◌, Option, Some, None, [], ◌∷◌, arith, ◌==◌, ◌≢◌}
use Rattle.path_core.proofs.Words.{CapableKeys, NoKey, Sender, Both, WithData, ControlReply, Capable, Profile}
use Rattle.control_book.specs.Control.{Control}
use Rattle.control_book.specs.Replies.{reply_to}
use Rattle.control_book.specs.declared.call.ControlCall.{ControlCall}
use Rattle.mptcp_options.specs.Value as wire
use Rattle.capable_handshake.specs.Said.{first_data_option}
use Rattle.path_core.specs.Handshakes.{CapableIsHeard, ChecksumsAreThose, KeysAreConfirmed, CapableIsTheHandshake}
use Rattle.path_core.specs.Unnumbered.{unnumbered}

-- the first data says flag A where its mapping has a checksum, and that is where checksums are used
pub first_is_said : (checksums : Bool) (own peer len checksum : ℕ)
    → unnumbered (first_data_option own peer len (if checksums then Some checksum else None))
    ≡ Capable checksums false (WithData own peer len (if checksums then Some checksum else None)) ∷ []
first_is_said = elim [ true ↦ λ own peer len checksum. refl | false ↦ λ own peer len checksum. refl ]

heard : (flag_a flag_c : Bool) (keys : CapableKeys) → CapableIsHeard flag_a flag_c keys
heard flag_a flag_c NoKey = record { syn = refl; syn_ack = refl; ack = refl }
heard flag_a flag_c _ = record { syn = refl; syn_ack = refl; ack = refl }

checksums : (c : Profile) → ChecksumsAreThose c
checksums c = record { syn = same c.spelling.checksums; syn_ack = λ own_key. same c.spelling.checksums }
  where
    same : (used : Bool) → Some (used || used) ≡ Some used
    same = elim [ true ↦ refl | false ↦ refl ]

same_is : (a b : ℕ) → a ≡ b → (a == b) ≡ true
same_is a b e = grind (arith, e)

other_is : (a b : ℕ) → a ≢ b → (a == b) ≡ false
other_is a b differs = grind (arith, differs)

-- the book that has this own key notes both keys, and no others
noted : (own peer : ℕ) (book : Control) → own ≡ book.keys.own → Some (reply_to book (ControlCall.Keys own peer)) ≡ Some ControlReply.Noted
noted own peer book e = rw (same_is own book.keys.own e) refl

refused : (own peer : ℕ) (book : Control) → own ≢ book.keys.own
    → Some (reply_to book (ControlCall.Keys own peer)) ≡ Some (ControlReply.KeysDiffer book.keys.own)
refused own peer book differs = rw (other_is own book.keys.own differs) refl

abbrev second_of : Option (ℕ × ℕ) → ℕ
second_of None = 0
second_of (Some pair) = pair.1

confirmed : (keys : CapableKeys) (book : Control) → KeysAreConfirmed keys book
confirmed NoKey book = record { right = λ flag_a flag_c peer e. cc; other = λ flag_a flag_c peer own e differs. cc }
confirmed (Sender sender) book = record { right = λ flag_a flag_c peer e. cc; other = λ flag_a flag_c peer own e differs. cc }
confirmed (Both sender receiver) book = record {
  right = λ flag_a flag_c peer e. noted receiver sender book (ap second_of e);
  other = λ flag_a flag_c peer own e differs. refused receiver sender book (subst (λ (n : ℕ). n ≢ book.keys.own) (sym (ap second_of e)) differs);
}
confirmed (WithData sender receiver len checksum) book = record {
  right = λ flag_a flag_c peer e. noted receiver sender book (ap second_of e);
  other = λ flag_a flag_c peer own e differs. refused receiver sender book (subst (λ (n : ℕ). n ≢ book.keys.own) (sym (ap second_of e)) differs);
}

pub capable_is_the_handshake : CapableIsTheHandshake
capable_is_the_handshake = record { heard = heard; checksums = checksums; confirmed = confirmed }
