-- Two notes with one line are told alike.
--
-- That a text tells its value: a reading of words in `proofs/` by `cond (bytes_eq word (codes ..))`, total and with no
-- fault, and one line a variant, `refl` or `rw (again n h, ..) refl`. All facts of words at once stand in one Bool test
-- (`is_plain`: octets that are seen, 1 to 20 of them), so that fixed words are `refl`.
--
-- That numbers behind a reference fit their types is a clause of the function that reads them (`fits`), where the
-- `match` copies them out; a record's numbers go by value through a function. For a loop over rows `All-more` and
-- `take_all`.
use Rattle.run_log.proofs.Words.{◌≡◌, ℕ, ◌<◌, ◌≤◌, true, false, eqb, List, [], ◌∷◌, ◌++◌, length, refl, ap, sym, ◌∙◌, arith, append_assoc, cond, codes, decimal}
use Rattle.run_log.proofs.Words.{list_all, and_parts, nat_tests, digits_value-decimal, bytes_eq, digits_value, append-nil, Side, spaced, digits, ControlReply}
use Rattle.run_log.proofs.Words.{Ask, object_of, step_text, AskFits, ReplyFits, NoteFits, LinesTellTheirNotes, object_word, ask_words, send_reply_words}
use Rattle.run_log.proofs.Words.{reassembly_reply_words, control_reply_words, reply_text}
use Rattle.link_script.specs.Words.{words_of}
use Rattle.sides.specs.declared.object.Object.{Object}
use Rattle.actor_desk.specs.declared.ask.Note.{Note}
use Rattle.actor_desk.specs.declared.ask.Reply.{Reply}
use Rattle.actor_desk.specs.Kinds.{IsOfKind}
use Rattle.run_log.specs.Telling.{told_ask, told_reply, as_told}
use Rattle.run_log.proofs.PlainWords.{is_seen, ArePlain, plain_ask, plain_send_reply, plain_reassembly_reply, plain_control_reply}
use Rattle.run_log.proofs.Lengths.{plain_seen, counted, ask_within, few_send_reply, few_reassembly_reply}
use Rattle.run_log.proofs.LogReads.{number_seen, seen_object, step_shape, no_space}
use Rattle.run_log.proofs.Retelling.{send_call_of, send_call_again, send_reply_of, send_reply_again, reassembly_call_of, reassembly_call_again, reassembly_reply_of, reassembly_reply_again, control_call_of, control_call_again, control_reply_of, control_reply_again, local_of, local_again}

-- ---- the words of a line

abbrev IsSeen : List ℕ → Type 0
IsSeen word = list_all is_seen word ≡ true

cut_word : (word rest : List ℕ) → IsSeen word → words_of (word ++ 32 ∷ rest) ≡ word ∷ words_of rest
cut_word [] rest h = refl
cut_word (octet ∷ word) rest h =
    let parts = and_parts (is_seen octet) (list_all is_seen word) h in
    rw (no_space octet parts.0, cut_word word rest parts.1) refl

last_word : (word : List ℕ) → IsSeen word → words_of word ≡ word ∷ []
last_word [] h = refl
last_word (octet ∷ word) h =
    let parts = and_parts (is_seen octet) (list_all is_seen word) h in
    rw (no_space octet parts.0, last_word word parts.1) refl

spaced_words : (words : List (List ℕ)) → ArePlain words → 0 < length words → words_of (spaced words) ≡ words
spaced_words [] h some = absurd (omega arith)
spaced_words (word ∷ []) h some = last_word word (plain_seen word h.0)
spaced_words (word ∷ next ∷ words) h some =
    cut_word word (spaced (next ∷ words)) (plain_seen word h.0) ∙ ap (λ (more : List (List ℕ)). word ∷ more) (spaced_words (next ∷ words) h.1 (omega arith))

then_words : (words : List (List ℕ)) (rest : List ℕ) → ArePlain words → 0 < length words → words_of (spaced words ++ 32 ∷ rest) ≡ words ++ words_of rest
then_words [] rest h some = absurd (omega arith)
then_words (word ∷ []) rest h some = cut_word word rest (plain_seen word h.0)
then_words (word ∷ next ∷ words) rest h some =
    ap words_of (append_assoc word (32 ∷ spaced (next ∷ words)) (32 ∷ rest)) ∙ cut_word word (spaced (next ∷ words) ++ 32 ∷ rest) (plain_seen word h.0)
    ∙ ap (λ (more : List (List ℕ)). word ∷ more) (then_words (next ∷ words) rest h.1 (omega arith))

-- ---- what stands before '=', and what behind it

record Parts : Type 0 where
  asked : List (List ℕ)
  answered : List (List ℕ)

abbrev with_word : List ℕ → Parts → Parts
with_word word parts = record { asked = word ∷ parts.asked; answered = parts.answered }

abbrev parts_of : List (List ℕ) → Parts
parts_of [] = record { asked = []; answered = [] }
parts_of (word ∷ words) = cond (bytes_eq word (codes "=")) (record { asked = []; answered = words }) (with_word word (parts_of words))

no_equals_octet : (octet : ℕ) → is_seen octet ≡ true → eqb octet 61 ≡ false
no_equals_octet octet h = grind (arith, nat_tests)

no_equals : (word : List ℕ) → IsSeen word → bytes_eq word (codes "=") ≡ false
no_equals [] h = refl
no_equals (octet ∷ word) h = rw (no_equals_octet octet (and_parts (is_seen octet) (list_all is_seen word) h).0) refl

parts_both : (words others : List (List ℕ)) → ArePlain words → parts_of (words ++ codes "=" ∷ others) ≡ record { asked = words; answered = others }
parts_both [] others h = refl
parts_both (word ∷ words) others h = rw (no_equals word (plain_seen word h.0), parts_both words others h.1) refl

parts_alone : (words : List (List ℕ)) → ArePlain words → parts_of words ≡ record { asked = words; answered = [] }
parts_alone [] h = refl
parts_alone (word ∷ words) h = rw (no_equals word (plain_seen word h.0), parts_alone words h.1) refl

-- ---- a note from its words

abbrev object_named : List ℕ → Object
object_named word =
    cond (bytes_eq word (codes "sa")) (Object.Send Side.A) (cond (bytes_eq word (codes "sb")) (Object.Send Side.B) (cond (bytes_eq word (codes "ra")) (Object.Reassembly Side.A)
    (cond (bytes_eq word (codes "rb")) (Object.Reassembly Side.B) (cond (bytes_eq word (codes "ca")) (Object.Control Side.A) (cond (bytes_eq word (codes "cb")) (Object.Control Side.B) Object.Me)))))

object_again : (object : Object) → object_named (object_word object) ≡ object
object_again (Object.Send Side.A) = refl
object_again (Object.Send Side.B) = refl
object_again (Object.Reassembly Side.A) = refl
object_again (Object.Reassembly Side.B) = refl
object_again (Object.Control Side.A) = refl
object_again (Object.Control Side.B) = refl
object_again Object.Me = refl

abbrev ask_of : Object → List (List ℕ) → Ask
ask_of (Object.Send side) words = Ask.Send side (send_call_of words)
ask_of (Object.Reassembly side) words = Ask.Reassembly side (reassembly_call_of words)
ask_of (Object.Control side) words = Ask.Control side (control_call_of words)
ask_of Object.Me words = Ask.Local (local_of words)

abbrev reply_of : Object → List (List ℕ) → Reply
reply_of (Object.Send side) words = Reply.Send (send_reply_of words)
reply_of (Object.Reassembly side) words = Reply.Reassembly (reassembly_reply_of words)
reply_of (Object.Control side) words = Reply.Control (control_reply_of words)
reply_of Object.Me words = Reply.Done

abbrev built : ℕ → ℕ → Object → Parts → Note
built stamp actor object parts = record { stamp = stamp; seen = 0; actor = actor; ask = ask_of object parts.asked; reply = reply_of object parts.answered }

abbrev from_words : List (List ℕ) → Note
from_words (stamp ∷ actor ∷ object ∷ words) = built (digits_value 10 stamp) (digits_value 10 actor) (object_named object) (parts_of words)
from_words words = built 0 0 Object.Me (parts_of words)

some_words : (words : List (List ℕ)) → 1 ≤ length (spaced words) → 0 < length words
some_words = elim [ [] ↦ λ h. absurd (omega arith) | word ∷ words ↦ λ h. omega arith ]

some_ask : (ask : Ask) → AskFits ask → 0 < length (ask_words ask)
some_ask ask h = some_words (ask_words ask) (ask_within ask h).0

some_control_reply : (reply : ControlReply) → 0 < length (control_reply_words reply)
some_control_reply = elim [ ControlReply.Standing mode standby sole notice ↦ omega arith | _ ↦ omega arith ]

-- the words of an ask and of a reply
both_parts : (asked answered : List (List ℕ)) → ArePlain asked → 0 < length asked → ArePlain answered → 0 < length answered
    → parts_of (words_of (spaced asked ++ (codes " = " ++ spaced answered))) ≡ record { asked = asked; answered = answered }
both_parts asked answered h some k others =
    let cut : words_of (spaced asked ++ (codes " = " ++ spaced answered)) ≡ asked ++ (codes "=" ∷ words_of (spaced answered)) = then_words asked (codes "= " ++ spaced answered) h some in
    rw (cut, spaced_words answered k others) (parts_both asked answered h)

by_kind : (ask : Ask) (reply : Reply) (stamp actor : ℕ) → AskFits ask → ReplyFits reply → IsOfKind ask reply
    → built stamp actor (object_of ask) (parts_of (words_of (spaced (ask_words ask) ++ reply_text reply))) ≡ record { stamp = stamp; seen = 0; actor = actor; ask = told_ask ask; reply = told_reply reply }
by_kind (Ask.Send side call) (Reply.Send reply) stamp actor h k kind =
    let parts = both_parts (ask_words (Ask.Send side call)) (send_reply_words reply) (plain_ask (Ask.Send side call) h) (some_ask (Ask.Send side call) h) (plain_send_reply reply k) (counted 6 (send_reply_words reply) (few_send_reply reply)).0 in
    ap (built stamp actor (Object.Send side)) parts ∙ rw (send_call_again call h, send_reply_again reply k) refl
by_kind (Ask.Reassembly side call) (Reply.Reassembly reply) stamp actor h k kind =
    let parts = both_parts (ask_words (Ask.Reassembly side call)) (reassembly_reply_words reply) (plain_ask (Ask.Reassembly side call) h) (some_ask (Ask.Reassembly side call) h) (plain_reassembly_reply reply k) (counted 6 (reassembly_reply_words reply) (few_reassembly_reply reply)).0 in
    ap (built stamp actor (Object.Reassembly side)) parts ∙ rw (reassembly_call_again call h, reassembly_reply_again reply k) refl
by_kind (Ask.Control side call) (Reply.Control reply) stamp actor h k kind =
    let parts = both_parts (ask_words (Ask.Control side call)) (control_reply_words reply) (plain_ask (Ask.Control side call) h) (some_ask (Ask.Control side call) h) (plain_control_reply reply k) (some_control_reply reply) in
    ap (built stamp actor (Object.Control side)) parts ∙ rw (control_call_again call h, control_reply_again reply k) refl
by_kind (Ask.Local step) Reply.Done stamp actor h k kind =
    let whole = append-nil (spaced (ask_words (Ask.Local step))) in
    let words = ap words_of whole ∙ spaced_words (ask_words (Ask.Local step)) (plain_ask (Ask.Local step) h) (some_ask (Ask.Local step) h) in
    let parts = ap parts_of words ∙ parts_alone (ask_words (Ask.Local step)) (plain_ask (Ask.Local step) h) in
    ap (built stamp actor Object.Me) parts ∙ rw (local_again step h) refl
by_kind (Ask.Send side call) (Reply.Reassembly reply) stamp actor h k kind = absurd kind
by_kind (Ask.Send side call) (Reply.Control reply) stamp actor h k kind = absurd kind
by_kind (Ask.Send side call) Reply.Done stamp actor h k kind = absurd kind
by_kind (Ask.Reassembly side call) (Reply.Send reply) stamp actor h k kind = absurd kind
by_kind (Ask.Reassembly side call) (Reply.Control reply) stamp actor h k kind = absurd kind
by_kind (Ask.Reassembly side call) Reply.Done stamp actor h k kind = absurd kind
by_kind (Ask.Control side call) (Reply.Send reply) stamp actor h k kind = absurd kind
by_kind (Ask.Control side call) (Reply.Reassembly reply) stamp actor h k kind = absurd kind
by_kind (Ask.Control side call) Reply.Done stamp actor h k kind = absurd kind
by_kind (Ask.Local step) (Reply.Send reply) stamp actor h k kind = absurd kind
by_kind (Ask.Local step) (Reply.Reassembly reply) stamp actor h k kind = absurd kind
by_kind (Ask.Local step) (Reply.Control reply) stamp actor h k kind = absurd kind

note_again : (note : Note) → NoteFits note → IsOfKind note.ask note.reply → from_words (words_of (step_text note)) ≡ as_told note
note_again note f kind =
    let object = object_word (object_of note.ask) in
    let words = spaced (ask_words note.ask) ++ reply_text note.reply in
    let third : words_of (object ++ 32 ∷ words) ≡ object ∷ words_of words = cut_word object words (seen_object (object_of note.ask)) in
    let second : words_of (decimal note.actor ++ 32 ∷ (object ++ 32 ∷ words)) ≡ decimal note.actor ∷ object ∷ words_of words =
    cut_word (decimal note.actor) (object ++ 32 ∷ words) (number_seen note.actor (omega (arith, f.actor))) ∙ ap (λ (more : List (List ℕ)). decimal note.actor ∷ more) third in
    let first : words_of (step_text note) ≡ decimal note.stamp ∷ decimal note.actor ∷ object ∷ words_of words =
    ap words_of (step_shape note) ∙ cut_word (decimal note.stamp) (decimal note.actor ++ 32 ∷ (object ++ 32 ∷ words)) (number_seen note.stamp f.stamp) ∙ ap (λ (more : List (List ℕ)). decimal note.stamp ∷ more) second in
    let stamp = digits_value-decimal digits note.stamp f.stamp in
    let actor = digits_value-decimal digits note.actor (omega (arith, f.actor)) in
    ap from_words first ∙ rw (stamp, actor, object_again (object_of note.ask)) (by_kind note.ask note.reply note.stamp note.actor f.ask f.reply kind)

pub lines_tell_their_notes : LinesTellTheirNotes
lines_tell_their_notes a b f g kind other e =
    sym (note_again a f kind) ∙ ap (λ (text : List ℕ). from_words (words_of text)) e ∙ note_again b g other
