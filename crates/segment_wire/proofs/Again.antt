-- What is written is read again.
use Rattle.std.proofs.Common.{◌≡◌, ℕ, ◌+◌, ◌*◌, ◌/◌, ◌%◌, ◌<◌, Bool, true, false, List, [], ◌∷◌, ◌++◌, length, take, drop, Result, Ok, refl, sym, ap, ◌∙◌, arith, length-append}
use Rattle.std.specs.Prelude.{not, nat_lt, ◌==◌, bit_and, bit_or, if◌then◌else◌, IsTrue}
use Rattle.std.specs.Int.{w16, to_be_bytes}
use Rattle.std.proofs.lemmas.Bool.{le-ltb, eq-eqb}
use Rattle.std.proofs.lemmas.List.{take_at, drop_at, drop-drop}
use Rattle.std.proofs.lemmas.Nat.{from_be_bytes-to_be_bytes_2, from_be_bytes-to_be_bytes_4}
use Rattle.ones_sum.specs.Words.{word_sum, folded, complement}
use Rattle.ones_sum.proofs.Sums.{word_sum-cons, word_sum-append}
use Rattle.ones_sum.proofs.Folding.{folded-completed}
use Rattle.segment_wire.specs.declared.head.Head.{Head}
use Rattle.segment_wire.specs.declared.head.Addresses.{Addresses}
use Rattle.segment_wire.specs.declared.head.TheConstants.{FIN, SYN, RST, ACK}
use Rattle.segment_wire.specs.declared.reading.SegmentFault.{SegmentFault}
use Rattle.segment_wire.specs.Options.{are_whole}
use Rattle.segment_wire.specs.Checksum.{pseudo_header, covered_sum, checksum_of}
use Rattle.segment_wire.specs.Segment.{Segment, control_bits, ports_and_numbers, fixed_header, octets_with, segment_text, IsHead, CanWrite}
use Rattle.segment_wire.specs.Reading.{head_in, header_len, options_in, segment_in, segment_meaning}
use Rattle.segment_wire.proofs.Text.{length-octets_with}

-- ---- the fields

-- each control bit is told apart from the others
abbrev bits : Bool → Bool → Bool → Bool → ℕ
bits a r s f = bit_or (bit_or (bit_or (if a then ACK else 0) (if r then RST else 0)) (if s then SYN else 0)) (if f then FIN else 0)

abbrev ToldApart : Bool → Bool → Bool → Bool → Type 0
ToldApart a r s f = (not (bit_and (bits a r s f) ACK == 0) ≡ a) × (not (bit_and (bits a r s f) RST == 0) ≡ r) × (not (bit_and (bits a r s f) SYN == 0) ≡ s) × (not (bit_and (bits a r s f) FIN == 0) ≡ f)

told_apart : (a r s f : Bool) → ToldApart a r s f
told_apart true true true true = (refl, refl, refl, refl)
told_apart true true true false = (refl, refl, refl, refl)
told_apart true true false true = (refl, refl, refl, refl)
told_apart true true false false = (refl, refl, refl, refl)
told_apart true false true true = (refl, refl, refl, refl)
told_apart true false true false = (refl, refl, refl, refl)
told_apart true false false true = (refl, refl, refl, refl)
told_apart true false false false = (refl, refl, refl, refl)
told_apart false true true true = (refl, refl, refl, refl)
told_apart false true true false = (refl, refl, refl, refl)
told_apart false true false true = (refl, refl, refl, refl)
told_apart false true false false = (refl, refl, refl, refl)
told_apart false false true true = (refl, refl, refl, refl)
told_apart false false true false = (refl, refl, refl, refl)
told_apart false false false true = (refl, refl, refl, refl)
told_apart false false false false = (refl, refl, refl, refl)

head_with : ℕ → ℕ → ℕ → ℕ → Bool → Bool → Bool → Bool → ℕ → Head
head_with source destination seq ack syn fin rst ack_set window = record { source_port = source; destination_port = destination; seq = seq; ack = ack; syn = syn; fin = fin; rst = rst; ack_set = ack_set; window = window }

same_head : (h k : Head) → h.source_port ≡ k.source_port → h.destination_port ≡ k.destination_port → h.seq ≡ k.seq → h.ack ≡ k.ack → h.syn ≡ k.syn → h.fin ≡ k.fin → h.rst ≡ k.rst → h.ack_set ≡ k.ack_set → h.window ≡ k.window → h ≡ k
unfolding head_with
same_head h k source destination seq ack syn fin rst ack_set window =
    let same : head_with h.source_port h.destination_port h.seq h.ack h.syn h.fin h.rst h.ack_set h.window ≡ head_with k.source_port k.destination_port k.seq k.ack k.syn k.fin k.rst k.ack_set k.window = cc in
    same

header_len-written : (checksum : ℕ) (segment : Segment) → length segment.options % 4 ≡ 0 → header_len (octets_with checksum segment) ≡ 20 + length segment.options
unfolding fixed_header
header_len-written checksum segment padded = omega arith

rest-written : (checksum : ℕ) (segment : Segment) → drop 20 (octets_with checksum segment) ≡ segment.options ++ segment.payload
unfolding fixed_header
rest-written checksum segment = refl

options_in-written : (checksum : ℕ) (segment : Segment) → length segment.options % 4 ≡ 0 → options_in (octets_with checksum segment) ≡ segment.options
options_in-written checksum segment padded =
    ap (λ (n : ℕ). take n (drop 20 (octets_with checksum segment))) (omega (arith, header_len-written checksum segment padded))
    ∙ ap (take (length segment.options)) (rest-written checksum segment) ∙ take_at segment.options segment.payload (length segment.options) refl

payload-written : (checksum : ℕ) (segment : Segment) → length segment.options % 4 ≡ 0 → drop (header_len (octets_with checksum segment)) (octets_with checksum segment) ≡ segment.payload
payload-written checksum segment padded =
    ap (λ (n : ℕ). drop n (octets_with checksum segment)) (header_len-written checksum segment padded)
    ∙ sym (drop-drop (length segment.options) 20 (octets_with checksum segment)) ∙ ap (drop (length segment.options)) (rest-written checksum segment)
    ∙ drop_at segment.options segment.payload (length segment.options) refl

head_in-written : (checksum : ℕ) (segment : Segment) → IsHead segment.head → head_in (octets_with checksum segment) ≡ segment.head
unfolding fixed_header head_in
head_in-written checksum segment fits =
    let head = segment.head in
    let told = told_apart head.ack_set head.rst head.syn head.fin in
    same_head (head_in (octets_with checksum segment)) head (from_be_bytes-to_be_bytes_2 head.source_port fits.source_port) (from_be_bytes-to_be_bytes_2 head.destination_port fits.destination_port) (from_be_bytes-to_be_bytes_4 head.seq fits.seq) (from_be_bytes-to_be_bytes_4 head.ack fits.ack)
    told.2 told.3 told.1 told.0 (from_be_bytes-to_be_bytes_2 head.window fits.window)

-- ---- the checksum

word_sum-written : (checksum : ℕ) (segment : Segment) → checksum < 65536 → word_sum (octets_with checksum segment) ≡ word_sum (octets_with 0 segment) + checksum
unfolding fixed_header
word_sum-written checksum segment fits =
    let head = segment.head in
    let front = ports_and_numbers head ++ ((16 * (5 + length segment.options / 4) ∷ control_bits head ∷ []) ++ to_be_bytes w16 head.window) in
    let back = 0 ∷ 0 ∷ (segment.options ++ segment.payload) in
    let with_field : word_sum (octets_with checksum segment) ≡ word_sum front + word_sum (checksum / 256 % 256 ∷ checksum % 256 ∷ back) = word_sum-append front (checksum / 256 % 256 ∷ checksum % 256 ∷ back) refl in
    let with_zero : word_sum (octets_with 0 segment) ≡ word_sum front + word_sum (0 ∷ 0 ∷ back) = word_sum-append front (0 ∷ 0 ∷ back) refl in
    omega (arith, with_field, with_zero, word_sum-cons (checksum / 256 % 256) (checksum % 256) back, word_sum-cons 0 0 back)

pub covered_sum-written : (addresses : Addresses) (segment : Segment) → length addresses.source ≡ 4 → length addresses.destination ≡ 4 → covered_sum addresses (segment_text addresses segment) ≡ 65535
unfolding covered_sum segment_text
covered_sum-written addresses segment four four' =
    let zero_text = octets_with 0 segment in
    let total = word_sum (pseudo_header addresses (length zero_text) ++ zero_text) in
    let checksum = complement (folded total) in
    let text = octets_with checksum segment in
    let same_length : length text ≡ length zero_text = length-octets_with checksum segment ∙ sym (length-octets_with 0 segment) in
    let even : length (pseudo_header addresses (length zero_text)) % 2 ≡ 0 = omega (arith, length-append addresses.source (addresses.destination ++ (0 ∷ 6 ∷ to_be_bytes w16 (length zero_text))), length-append addresses.destination (0 ∷ 6 ∷ to_be_bytes w16 (length zero_text))) in
    let sums : word_sum (pseudo_header addresses (length zero_text) ++ text) ≡ total + checksum =
    omega (arith, word_sum-append (pseudo_header addresses (length zero_text)) text even, word_sum-append (pseudo_header addresses (length zero_text)) zero_text even, word_sum-written checksum segment (omega arith)) in
    ap (λ (n : ℕ). folded (word_sum (pseudo_header addresses n ++ text))) same_length ∙ ap folded sums ∙ folded-completed total

-- ---- the whole

-- no fault
reads_on : (addresses : Addresses) (octets : List ℕ) → nat_lt (length octets) 20 ≡ false → nat_lt (header_len octets) 20 ≡ false → nat_lt (length octets) (header_len octets) ≡ false
    → are_whole (options_in octets) ≡ true → nat_lt 65535 (length octets) ≡ false → (covered_sum addresses octets == 65535) ≡ true → segment_meaning addresses octets ≡ Ok (segment_in octets)
unfolding segment_meaning
reads_on addresses octets room low within whole short right = rw (room, low, within, whole, short, right) refl

segment_with : Head → List ℕ → List ℕ → Segment
segment_with head options payload = record { head = head; options = options; payload = payload }

same_segment : (s t : Segment) → s.head ≡ t.head → s.options ≡ t.options → s.payload ≡ t.payload → s ≡ t
unfolding segment_with
same_segment s t head options payload =
    let same : segment_with s.head s.options s.payload ≡ segment_with t.head t.options t.payload = cc in
    same

true_of : (b : Bool) → IsTrue b → b ≡ true
true_of b h = h

pub segment_meaning-written : (addresses : Addresses) (segment : Segment) → length addresses.source ≡ 4 → length addresses.destination ≡ 4 → CanWrite segment → segment_meaning addresses (segment_text addresses segment) ≡ Ok segment
unfolding segment_meaning segment_text
segment_meaning-written addresses segment four four' can =
    let checksum = checksum_of addresses (octets_with 0 segment) in
    let text = octets_with checksum segment in
    let padded = can.carried.padded in
    let len : length text ≡ 20 + length segment.options + length segment.payload = length-octets_with checksum segment in
    let head : header_len text ≡ 20 + length segment.options = header_len-written checksum segment padded in
    let room : nat_lt (length text) 20 ≡ false = le-ltb (length text) 20 (omega arith) in
    let low : nat_lt (header_len text) 20 ≡ false = le-ltb (header_len text) 20 (omega arith) in
    let within : nat_lt (length text) (header_len text) ≡ false = le-ltb (length text) (header_len text) (omega arith) in
    let short : nat_lt 65535 (length text) ≡ false = le-ltb 65535 (length text) (omega (arith, can.carried.fits)) in
    let whole : are_whole (options_in text) ≡ true = ap are_whole (options_in-written checksum segment padded) ∙ true_of (are_whole segment.options) can.carried.whole in
    let right : (covered_sum addresses text == 65535) ≡ true = eq-eqb (covered_sum addresses text) 65535 (covered_sum-written addresses segment four four') in
    reads_on addresses text room low within whole short right
    ∙ ap Ok (same_segment (segment_in text) segment (head_in-written checksum segment can.head) (options_in-written checksum segment padded) (payload-written checksum segment padded))

abbrev pub meant : Segment → Result Segment SegmentFault
meant segment = Ok segment

-- for callers that know what was read, as from `written` of `parse`
pub same_from_ok : (s t : Segment) → meant s ≡ meant t → s ≡ t
same_from_ok s t same = cc

pub segment_text-differs : (addresses : Addresses) (s t : Segment) → length addresses.source ≡ 4 → length addresses.destination ≡ 4 → CanWrite s → CanWrite t → segment_text addresses s ≡ segment_text addresses t → s ≡ t
segment_text-differs addresses s t four four' can_s can_t same =
    same_from_ok s t (sym (segment_meaning-written addresses s four four' can_s) ∙ ap (segment_meaning addresses) same ∙ segment_meaning-written addresses t four four' can_t)
