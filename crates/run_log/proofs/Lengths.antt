-- What is asked and answered has 1 to 400 octets, all of which can be printed.
use Rattle.run_log.proofs.Words.{◌≡◌, ℕ, ◌<◌, ◌≤◌, true, ◌&&◌, List, [], ◌∷◌, ◌++◌, length, refl, ap, ◌∙◌, arith, length-append, ◌*◌, nat_lt, nat_le, codes}
use Rattle.run_log.proofs.Words.{All, decimal, list_all, AllByRecursion, flat_map, and_parts, and_from, ltb-true, leb-true, le-leb, nat_tests}
use Rattle.run_log.proofs.Words.{length-decimal-le, recursion_from_All, Row, Event, Verdict, Address, octets_of, spaced, Notice, ControlCall, ControlReply}
use Rattle.run_log.proofs.Words.{ReassemblyCall, ReassemblyReply, SendCall, SendReply, Ask, LocalStep, IsByte, HeardFits, RowFits, AskFits, HasItsOctets}
use Rattle.run_log.proofs.Words.{ReplyFits, RowsFit, HasRowsInRange, verdict_words, notice_words, send_call_words, reassembly_call_words, heard_words}
use Rattle.run_log.proofs.Words.{control_call_words, local_words, ask_words, send_reply_words, reassembly_reply_words, row_words, control_reply_words}
use Rattle.run_log.proofs.Words.{reply_text, is_printable, are_words}
use Rattle.std.proofs.lemmas.List.Folds.{list_all-append}
use Rattle.linked_increase.specs.Paths.{IsInRange}
use Rattle.actor_desk.specs.declared.ask.Reply.{Reply}
use Rattle.run_log.proofs.PlainWords.{is_seen, IsPlain, ArePlain, plain_ask, plain_send_reply, plain_reassembly_reply, plain_control_reply}
use Rattle.run_log.proofs.Spacing.{behind, spaced_behind, heard_is, rows_is}

-- ---- plain words with spaces between them

pub plain_seen : (word : List ℕ) → IsPlain word → list_all is_seen word ≡ true
plain_seen word h = (and_parts (list_all is_seen word) (nat_lt 0 (length word) && nat_le (length word) 20) h).0

plain_long : (word : List ℕ) → IsPlain word → (0 < length word) × (length word ≤ 20)
plain_long word h =
    let sizes = and_parts (nat_lt 0 (length word)) (nat_le (length word) 20) (and_parts (list_all is_seen word) (nat_lt 0 (length word) && nat_le (length word) 20) h).1 in
    (ltb-true 0 (length word) sizes.0, leb-true (length word) 20 sizes.1)

printable_octet : (octet : ℕ) → is_seen octet ≡ true → is_printable octet ≡ true
printable_octet octet h = grind (arith, nat_tests)

pub printable_word : (word : List ℕ) → list_all is_seen word ≡ true → list_all is_printable word ≡ true
printable_word [] h = refl
printable_word (octet ∷ word) h =
    let parts = and_parts (is_seen octet) (list_all is_seen word) h in
    and_from _ _ (printable_octet octet parts.0) (printable_word word parts.1)

pub printable_both : (text more : List ℕ) → list_all is_printable text ≡ true → list_all is_printable more ≡ true → list_all is_printable (text ++ more) ≡ true
printable_both text more h k = list_all-append is_printable text more ∙ and_from _ _ h k

pub printable_words : (words : List (List ℕ)) → ArePlain words → list_all is_printable (spaced words) ≡ true
printable_words [] h = refl
printable_words (word ∷ []) h = printable_word word (plain_seen word h.0)
printable_words (word ∷ next ∷ words) h =
    printable_both word (32 ∷ spaced (next ∷ words)) (printable_word word (plain_seen word h.0)) (printable_words (next ∷ words) h.1)

behind_short : (words : List (List ℕ)) → ArePlain words → length (behind words) ≤ 21 * length words
behind_short [] h = omega arith
behind_short (word ∷ words) h = omega (arith, length-append (32 ∷ word) (behind words), (plain_long word h.0).1, behind_short words h.1)

-- the length of a line of words, each of 20 octets at most
words_short : (words : List (List ℕ)) (most : ℕ) → ArePlain words → length words ≤ most → length (spaced words) ≤ 21 * most
words_short [] most h few = omega arith
words_short (word ∷ words) most h few =
    omega (arith, ap length (spaced_behind word words), length-append word (behind words), (plain_long word h.0).1, behind_short words h.1)

some_word : (words : List (List ℕ)) → ArePlain words → 0 < length words → 1 ≤ length (spaced words)
some_word [] h some = absurd (omega arith)
some_word (word ∷ words) h some = omega (arith, ap length (spaced_behind word words), length-append word (behind words), (plain_long word h.0).0)

-- ---- how many words there are

abbrev IsCount : ℕ → List (List ℕ) → Type 0
IsCount most words = (nat_lt 0 (length words) && nat_le (length words) most) ≡ true

pub counted : (most : ℕ) (words : List (List ℕ)) → IsCount most words → (0 < length words) × (length words ≤ most)
counted most words h =
    let parts = and_parts (nat_lt 0 (length words)) (nat_le (length words) most) h in
    (ltb-true 0 (length words) parts.0, leb-true (length words) most parts.1)

few_fell : (path : ℕ) (event : Event) → IsCount 5 (control_call_words (ControlCall.Fell path event))
few_fell path Event.PlainHandshake = refl
few_fell path _ = refl

few_send_call : (call : SendCall) → IsCount 5 (send_call_words call)
few_send_call = elim [ SendCall.Write bytes ↦ refl | _ ↦ refl ]

few_reassembly_call : (call : ReassemblyCall) → IsCount 5 (reassembly_call_words call)
few_reassembly_call = elim [ ReassemblyCall.Place at bytes ↦ refl | _ ↦ refl ]

few_local : (step : LocalStep) → IsCount 5 (local_words step)
few_local = elim [ LocalStep.Arrive to copy ↦ refl | _ ↦ refl ]

pub few_send_reply : (reply : SendReply) → IsCount 6 (send_reply_words reply)
few_send_reply = elim [ SendReply.Taken count ↦ refl | _ ↦ refl ]

pub few_reassembly_reply : (reply : ReassemblyReply) → IsCount 6 (reassembly_reply_words reply)
few_reassembly_reply = elim [ ReassemblyReply.Placed count ↦ refl | _ ↦ refl ]

few_notices : (notice : Notice) → nat_le (length (notice_words notice)) 2 ≡ true
few_notices = elim [ Notice.Nothing ↦ refl | _ ↦ refl ]

few_verdicts : (verdict : Verdict) → nat_le (length (verdict_words verdict)) 2 ≡ true
few_verdicts = elim [ Verdict.Stay ↦ refl | _ ↦ refl ]

-- ---- what is asked

abbrev IsWithin : ℕ → List ℕ → Type 0
IsWithin most text = (1 ≤ length text) × (length text ≤ most)

few_words : (most bound : ℕ) (words : List (List ℕ)) → ArePlain words → IsCount most words → 21 * most ≤ bound → IsWithin bound (spaced words)
few_words most bound words h few le =
    let count = counted most words few in
    (some_word words h count.0, omega (arith, words_short words most h count.1))

octets_short : (octets : List ℕ) → AllByRecursion IsByte octets → length (flat_map (λ octet. 32 ∷ decimal octet) octets) ≤ 4 * length octets
octets_short [] h = omega arith
octets_short (octet ∷ octets) h =
    omega (arith, length-append (32 ∷ decimal octet) (flat_map (λ octet. 32 ∷ decimal octet) octets), length-decimal-le 3 octet (omega arith) (omega (arith, h.0)) (omega (arith, h.0)), octets_short octets h.1)

few_octets : (address : Address) → HasItsOctets address → length (octets_of address) ≤ 16
few_octets = elim [ Address.V4 octets ↦ λ h. omega arith | Address.V6 octets ↦ λ h. omega arith ]

heard_short : (id : ℕ) (address : Address) (port hmac : ℕ) → HeardFits id address port hmac → IsWithin 105 (spaced (heard_words id (octets_of address) port hmac))
heard_short id address port hmac h =
    let octets = octets_of address in
    let whole = ap length (heard_is id octets port hmac) in
    let front = length-append (codes "heard " ++ decimal id) (flat_map (λ octet. 32 ∷ decimal octet) octets ++ ((32 ∷ decimal port) ++ (32 ∷ decimal hmac))) in
    let named = length-append (codes "heard ") (decimal id) in
    let back = length-append (flat_map (λ octet. 32 ∷ decimal octet) octets) ((32 ∷ decimal port) ++ (32 ∷ decimal hmac)) in
    let last = length-append (32 ∷ decimal port) (32 ∷ decimal hmac) in
    let ids = length-decimal-le 3 id (omega arith) (omega (arith, h.0)) (omega (arith, h.0)) in
    let ports = length-decimal-le 5 port (omega arith) (omega (arith, h.1.1.0)) (omega (arith, h.1.1.0)) in
    let hmacs = length-decimal-le 20 hmac (omega arith) (omega (arith, h.1.1.1)) h.1.1.1 in
    let each = octets_short octets h.1.0.octets in
    (omega (arith, whole, front, named, back, last), omega (arith, whole, front, named, back, last, ids, ports, hmacs, each, few_octets address h.1.0.count))

pub ask_within : (ask : Ask) → AskFits ask → IsWithin 105 (spaced (ask_words ask))
ask_within (Ask.Send side call) h = few_words 5 105 (send_call_words call) (plain_ask (Ask.Send side call) h) (few_send_call call) (omega arith)
ask_within (Ask.Reassembly side call) h = few_words 5 105 (reassembly_call_words call) (plain_ask (Ask.Reassembly side call) h) (few_reassembly_call call) (omega arith)
ask_within (Ask.Local step) h = few_words 5 105 (local_words step) (plain_ask (Ask.Local step) h) (few_local step) (omega arith)
ask_within (Ask.Control side call) h = by call h
  where
    few : (call : ControlCall) → AskFits (Ask.Control side call) → IsCount 5 (control_call_words call) → IsWithin 105 (spaced (control_call_words call))
    few call h count = few_words 5 105 (control_call_words call) (plain_ask (Ask.Control side call) h) count (omega arith)

    by : (call : ControlCall) → AskFits (Ask.Control side call) → IsWithin 105 (spaced (control_call_words call))
    by (ControlCall.Fell path event) h = few (ControlCall.Fell path event) h (few_fell path event)
    by (ControlCall.Heard id address port hmac) h = heard_short id address port hmac h
    by call h = few call h refl

-- ---- what is answered

each_row_short : (rows : List Row) → AllByRecursion RowFits rows → AllByRecursion IsInRange rows → length (flat_map (λ row. 32 ∷ spaced (row_words row)) rows) ≤ 18 * length rows
each_row_short [] h range = omega arith
each_row_short (row ∷ rows) h range =
    let front = length-append (32 ∷ spaced (row_words row)) (flat_map (λ row. 32 ∷ spaced (row_words row)) rows) in
    let path = length-append (decimal row.path) (32 ∷ (decimal row.window ++ 32 ∷ decimal row.rtt)) in
    let window = length-append (decimal row.window) (32 ∷ decimal row.rtt) in
    let paths = length-decimal-le 3 row.path (omega arith) (omega (arith, h.0.path)) (omega (arith, h.0.path)) in
    let windows = length-decimal-le 7 row.window (omega arith) (omega (arith, range.0.window)) h.0.window in
    let rtts = length-decimal-le 5 row.rtt (omega arith) (omega (arith, range.0.rtt)) h.0.rtt in
    let others = each_row_short rows h.1 range.1 in
    omega (arith, front, path, window, paths, windows, rtts, others)

rows_short : (rows : List Row) → RowsFit rows → All IsInRange rows → IsWithin 292 (spaced (codes "rows" ∷ flat_map row_words rows))
rows_short rows h range =
    let whole = ap length (rows_is rows) in
    let front = length-append (codes "rows") (flat_map (λ row. 32 ∷ spaced (row_words row)) rows) in
    let each = each_row_short rows (recursion_from_All RowFits rows h.each) (recursion_from_All IsInRange rows range) in
    (omega (arith, whole, front), omega (arith, whole, front, each, h.few))

control_reply_within : (reply : ControlReply) → ReplyFits (Reply.Control reply) → HasRowsInRange (Reply.Control reply) → IsWithin 292 (spaced (control_reply_words reply))
control_reply_within (ControlReply.Standing mode standby sole notice) h range =
    let words = control_reply_words (ControlReply.Standing mode standby sole notice) in
    let most : length words ≤ 6 = omega (arith, leb-true (length (notice_words notice)) 2 (few_notices notice)) in
    (some_word words (plain_control_reply (ControlReply.Standing mode standby sole notice) h) (omega arith), omega (arith, words_short words 6 (plain_control_reply (ControlReply.Standing mode standby sole notice) h) most))
control_reply_within (ControlReply.Verdict verdict) h range =
    let words = control_reply_words (ControlReply.Verdict verdict) in
    let most : length words ≤ 6 = omega (arith, leb-true (length (verdict_words verdict)) 2 (few_verdicts verdict)) in
    (some_word words (plain_control_reply (ControlReply.Verdict verdict) h) (omega arith), omega (arith, words_short words 6 (plain_control_reply (ControlReply.Verdict verdict) h) most))
control_reply_within (ControlReply.Rows rows) h range = rows_short rows h range
control_reply_within reply h range = few_words 6 292 (control_reply_words reply) (plain_control_reply reply h) refl (omega arith)

pub plain_reply : (reply : Reply) → ReplyFits reply → list_all is_printable (reply_text reply) ≡ true
plain_reply (Reply.Send reply) h = printable_both (codes " = ") (spaced (send_reply_words reply)) refl (printable_words (send_reply_words reply) (plain_send_reply reply h))
plain_reply (Reply.Reassembly reply) h = printable_both (codes " = ") (spaced (reassembly_reply_words reply)) refl (printable_words (reassembly_reply_words reply) (plain_reassembly_reply reply h))
plain_reply (Reply.Control reply) h = printable_both (codes " = ") (spaced (control_reply_words reply)) refl (printable_words (control_reply_words reply) (plain_control_reply reply h))
plain_reply Reply.Done h = refl

reply_short : (reply : Reply) → ReplyFits reply → HasRowsInRange reply → length (reply_text reply) ≤ 295
reply_short (Reply.Send reply) h range =
    omega (arith, length-append (codes " = ") (spaced (send_reply_words reply)), (few_words 6 292 (send_reply_words reply) (plain_send_reply reply h) (few_send_reply reply) (omega arith)).1)
reply_short (Reply.Reassembly reply) h range =
    omega (arith, length-append (codes " = ") (spaced (reassembly_reply_words reply)), (few_words 6 292 (reassembly_reply_words reply) (plain_reassembly_reply reply h) (few_reassembly_reply reply) (omega arith)).1)
reply_short (Reply.Control reply) h range =
    omega (arith, length-append (codes " = ") (spaced (control_reply_words reply)), (control_reply_within reply h range).1)
reply_short Reply.Done h range = omega arith

-- ---- both

pub words_again : (ask : Ask) (reply : Reply) → AskFits ask → ReplyFits reply → HasRowsInRange reply → are_words (spaced (ask_words ask) ++ reply_text reply) ≡ true
words_again ask reply h k range =
    let both = length-append (spaced (ask_words ask)) (reply_text reply) in
    let asked = ask_within ask h in
    let answered = reply_short reply k range in
    let text = spaced (ask_words ask) ++ reply_text reply in
    let some = le-leb 1 (length text) (omega (arith, both, asked.0)) in
    let most = le-leb (length text) 400 (omega (arith, both, asked.1, answered)) in
    and_from _ _ (and_from _ _ some most) (printable_both (spaced (ask_words ask)) (reply_text reply) (printable_words (ask_words ask) (plain_ask ask h)) (plain_reply reply k))
