-- The log of some rounds reads to their turns.
use Rattle.run_log.proofs.Words.{◌≡◌, ℕ, suc, ◌+◌, ◌/◌, ◌%◌, ◌^◌, ◌<◌, ◌≤◌, Bool, true, false, eqb, ltb, ◌&&◌, List, [], ◌∷◌, ◌++◌, length, take, drop, map}
use Rattle.run_log.proofs.Words.{Some, None, Result, Ok, refl, ap, sym, ◌∙◌, arith, append_assoc, length-append, rules, nat_le, codes, ◌==◌, slice_index}
use Rattle.run_log.proofs.Words.{decimal, list_all, position_or_len, AllByRecursion, flat_map, and_parts, and_from, le-leb, lt-ltb, agree_below_at, nat_tests}
use Rattle.run_log.proofs.Words.{digits_decimal, digits_value-decimal, decimal_nonempty, length-decimal-le, recursion_from_All, bytes_eq, text_lines, Side}
use Rattle.run_log.proofs.Words.{spaced, digits, LogFault, Expected, Format, Turns, Turn, object_of, step_text, round_text, width_text, key_word, keys_text}
use Rattle.run_log.proofs.Words.{outcome_text, ended, opening_lines, old_opening_lines, round_lines, rounds_lines, IsLong, taken_line, read_on, reading}
use Rattle.run_log.proofs.Words.{CanBeLogged, turns_of_round, turns_of, log_behind, ReadsToItsTurns, object_word, ask_words, reply_text, field, is_number}
use Rattle.run_log.proofs.Words.{actor_of, is_object, is_printable, step_actor, is_lower_hex, is_key, is_keys_line, is_outcome_line}
use Rattle.std.specs.Int.{w64, to_be_bytes}
use Rattle.std.proofs.Math.Seq.{take-append_seam, drop-append-add}
use Rattle.hex.specs.Hex.{lower_digits, encode_with, encode_lower}
use Rattle.hex.proofs.HexLemmas.{length-encode_with}
use Rattle.key_material.proofs.Octets.{AreOctets-to_be_bytes}
use Rattle.link_script.specs.Numbers.{is_numeral}
use Rattle.sides.specs.declared.object.Object.{Object}
use Rattle.actor_desk.specs.declared.ask.Note.{Note}
use Rattle.run_log.specs.declared.outcome.Outcome.{Outcome}
use Rattle.run_log.specs.declared.turn.Turn.TheVariants.{Step}
use Rattle.run_log.proofs.PlainWords.{is_seen, plain_number}
use Rattle.run_log.proofs.Lengths.{plain_seen, printable_word, printable_both, words_again}

-- ---- lines

abbrev pub IsLine : List ℕ → Type 0
IsLine line = list_all is_printable line ≡ true

goes_on_line : (octet : ℕ) → is_printable octet ≡ true → eqb octet 10 ≡ false
goes_on_line octet h = grind (arith, nat_tests)

cut_line : (line rest : List ℕ) → IsLine line → text_lines (line ++ 10 ∷ rest) ≡ line ∷ text_lines rest
cut_line [] rest h = refl
cut_line (octet ∷ line) rest h =
    let parts = and_parts (is_printable octet) (list_all is_printable line) h in
    rw (goes_on_line octet parts.0, cut_line line rest parts.1) refl

pub lines_again : (lines : List (List ℕ)) → AllByRecursion IsLine lines → text_lines (flat_map ended lines) ≡ lines
lines_again [] h = refl
lines_again (line ∷ lines) h =
    let apart : flat_map ended (line ∷ lines) ≡ line ++ 10 ∷ flat_map ended lines = append_assoc line (10 ∷ []) (flat_map ended lines) in
    ap text_lines apart ∙ cut_line line (flat_map ended lines) h.0 ∙ ap (λ (more : List (List ℕ)). line ∷ more) (lines_again lines h.1)

both_lines : (lines more : List (List ℕ)) → AllByRecursion IsLine lines → AllByRecursion IsLine more → AllByRecursion IsLine (lines ++ more)
both_lines [] more h k = k
both_lines (line ∷ lines) more h k = (h.0, both_lines lines more h.1 k)

-- ---- fields

abbrev IsSeen : List ℕ → Type 0
IsSeen word = list_all is_seen word ≡ true

pub no_space : (octet : ℕ) → is_seen octet ≡ true → eqb octet 32 ≡ false
no_space octet h = grind (arith, nat_tests)

first_space : (word rest : List ℕ) → IsSeen word → position_or_len (λ octet. octet == 32) (word ++ 32 ∷ rest) ≡ length word
first_space [] rest h = refl
first_space (octet ∷ word) rest h =
    let parts = and_parts (is_seen octet) (list_all is_seen word) h in
    rw (no_space octet parts.0, first_space word rest parts.1) (omega arith)

pub field_cut : (word rest : List ℕ) → IsSeen word → field (word ++ 32 ∷ rest) ≡ Some (word, rest)
unfolding field
field_cut word rest h =
    let within : ltb (length word) (length (word ++ 32 ∷ rest)) ≡ true = lt-ltb _ _ (omega (arith, length-append word (32 ∷ rest))) in
    let front : take (length word) (word ++ 32 ∷ rest) ≡ word = take-append_seam word (32 ∷ rest) in
    let back : drop (length word + 1) (word ++ 32 ∷ rest) ≡ rest = drop-append-add word (32 ∷ rest) 1 in
    rw (first_space word rest h, within, front, back) refl

no_place : (word : List ℕ) → IsSeen word → position_or_len (λ octet. octet == 32) word ≡ length word
no_place [] h = refl
no_place (octet ∷ word) h =
    let parts = and_parts (is_seen octet) (list_all is_seen word) h in
    rw (no_space octet parts.0, no_place word parts.1) (omega arith)

pub field_none : (word : List ℕ) → IsSeen word → field word ≡ None
unfolding field
field_none word h =
    let past : ltb (length word) (length word) ≡ false = search (rules, nat_tests) in
    rw (no_place word h, past) refl

-- ---- the line of a step

numeral_again : (n : ℕ) → IsLong n → is_numeral (decimal n) ≡ true
numeral_again n h =
    and_from _ _ (and_from _ _ (lt-ltb 0 (length (decimal n)) (decimal_nonempty n h)) (le-leb (length (decimal n)) 20 (length-decimal-le 20 n (omega arith) (omega arith) h))) (digits_decimal digits n h)

actor_again : (actors n : ℕ) → n < actors → IsLong n → actor_of actors (decimal n) ≡ Some n
unfolding actor_of
actor_again actors n l h =
    let number : is_number (decimal n) ≡ true = and_from _ _ (lt-ltb 0 (length (decimal n)) (decimal_nonempty n h)) (digits_decimal digits n h) in
    rw (number, digits_value-decimal digits n h, lt-ltb n actors l) refl

pub seen_object : (object : Object) → IsSeen (object_word object)
seen_object (Object.Send Side.A) = refl
seen_object (Object.Send Side.B) = refl
seen_object (Object.Reassembly Side.A) = refl
seen_object (Object.Reassembly Side.B) = refl
seen_object (Object.Control Side.A) = refl
seen_object (Object.Control Side.B) = refl
seen_object Object.Me = refl

object_again : (object : Object) → is_object (object_word object) ≡ true
object_again (Object.Send Side.A) = refl
object_again (Object.Send Side.B) = refl
object_again (Object.Reassembly Side.A) = refl
object_again (Object.Reassembly Side.B) = refl
object_again (Object.Control Side.A) = refl
object_again (Object.Control Side.B) = refl
object_again Object.Me = refl

pub number_seen : (n : ℕ) → IsLong n → IsSeen (decimal n)
number_seen n h = plain_seen (decimal n) (plain_number n h)

pub step_shape : (note : Note) → step_text note ≡ decimal note.stamp ++ 32 ∷ (decimal note.actor ++ 32 ∷ (object_word (object_of note.ask) ++ 32 ∷ (spaced (ask_words note.ask) ++ reply_text note.reply)))
step_shape note = simp append_assoc

step_again : (actors : ℕ) (note : Note) → CanBeLogged actors note → step_actor actors (step_text note) ≡ Some note.actor
unfolding step_actor
step_again actors note h =
    let f = h.fits in
    let object = object_word (object_of note.ask) in
    let words = spaced (ask_words note.ask) ++ reply_text note.reply in
    let first = field_cut (decimal note.stamp) (decimal note.actor ++ 32 ∷ (object ++ 32 ∷ words)) (number_seen note.stamp f.stamp) in
    let second = field_cut (decimal note.actor) (object ++ 32 ∷ words) (number_seen note.actor (omega (arith, f.actor))) in
    let third = field_cut object words (seen_object (object_of note.ask)) in
    let named = actor_again actors note.actor h.actor (omega (arith, f.actor)) in
    rw (step_shape note, first, second, third, named, numeral_again note.stamp f.stamp, object_again (object_of note.ask), words_again note.ask note.reply f.ask f.reply h.rows) refl

step_line : (actors : ℕ) (note : Note) → CanBeLogged actors note → IsLine (step_text note)
step_line actors note h =
    let f = h.fits in
    let object = object_word (object_of note.ask) in
    let words = spaced (ask_words note.ask) ++ reply_text note.reply in
    let printed : list_all is_printable words ≡ true = (and_parts (nat_le 1 (length words) && nat_le (length words) 400) (list_all is_printable words) (words_again note.ask note.reply f.ask f.reply h.rows)).1 in
    let third = printable_both object (32 ∷ words) (printable_word object (seen_object (object_of note.ask))) printed in
    let second = printable_both (decimal note.actor) (32 ∷ (object ++ 32 ∷ words)) (printable_word (decimal note.actor) (number_seen note.actor (omega (arith, f.actor)))) third in
    let first = printable_both (decimal note.stamp) (32 ∷ (decimal note.actor ++ 32 ∷ (object ++ 32 ∷ words))) (printable_word (decimal note.stamp) (number_seen note.stamp f.stamp)) second in
    ap (list_all is_printable) (step_shape note) ∙ first

-- ---- the other lines

same_octet : (octet : ℕ) → eqb octet octet ≡ true
same_octet octet = search (rules, nat_tests)

pub bytes_same : (text : List ℕ) → bytes_eq text text ≡ true
bytes_same [] = refl
bytes_same (octet ∷ text) = and_from _ _ (same_octet octet) (bytes_same text)

-- a line whose first word is no number and whose second is its last
no_step : (actors : ℕ) (first second : List ℕ) → IsSeen first → IsSeen second → step_actor actors (first ++ 32 ∷ second) ≡ None
unfolding step_actor
no_step actors first second h k = rw (field_cut first second h, field_none second k) refl

pub round_no_step : (actors number : ℕ) → IsLong number → step_actor actors (round_text number) ≡ None
round_no_step actors number h = no_step actors (codes "round") (decimal number) refl (number_seen number h)

pub outcome_no_step : (actors : ℕ) (outcome : Outcome) → step_actor actors (outcome_text outcome) ≡ None
outcome_no_step actors Outcome.Delivered = no_step actors (codes "outcome") (codes "delivered") refl refl
outcome_no_step actors Outcome.Rounds = no_step actors (codes "outcome") (codes "rounds") refl refl
outcome_no_step actors Outcome.NoPath = no_step actors (codes "outcome") (codes "no-path") refl refl
outcome_no_step actors Outcome.Aborted = no_step actors (codes "outcome") (codes "aborted") refl refl

pub outcome_again : (outcome : Outcome) → is_outcome_line (outcome_text outcome) ≡ true
unfolding field
outcome_again Outcome.Delivered = refl
outcome_again _ = refl

outcome_line : (outcome : Outcome) → IsLine (outcome_text outcome)
outcome_line = elim [ Outcome.Delivered ↦ refl | _ ↦ refl ]

round_line : (number : ℕ) → IsLong number → IsLine (round_text number)
round_line number h = printable_both (codes "round ") (decimal number) refl (printable_word (decimal number) (number_seen number h))

-- ---- keys

hex_digit : (d : ℕ) → d < 16 → is_lower_hex (slice_index lower_digits d) ≡ true
hex_digit d l = agree_below_at (λ d. is_lower_hex (slice_index lower_digits d)) (λ d. true) 16 d refl l

hex_digits : (octets : List ℕ) → AllByRecursion (λ octet. octet < 256) octets → list_all is_lower_hex (encode_lower octets) ≡ true
unfolding encode_with
hex_digits [] h = refl
hex_digits (octet ∷ octets) h =
    and_from _ _ (hex_digit (octet / 16) (omega (arith, h.0))) (and_from _ _ (hex_digit (octet % 16) (omega arith)) (hex_digits octets h.1))

hex_seen : (octet : ℕ) → is_lower_hex octet ≡ true → is_seen octet ≡ true
hex_seen octet h = grind (arith, nat_tests)

digits_seen : (word : List ℕ) → list_all is_lower_hex word ≡ true → IsSeen word
digits_seen [] h = refl
digits_seen (octet ∷ word) h =
    let parts = and_parts (is_lower_hex octet) (list_all is_lower_hex word) h in
    and_from _ _ (hex_seen octet parts.0) (digits_seen word parts.1)

key_digits : (key : ℕ) → list_all is_lower_hex (key_word key) ≡ true
key_digits key = hex_digits (to_be_bytes w64 key) (recursion_from_All (λ octet. octet < 256) (to_be_bytes w64 key) (AreOctets-to_be_bytes w64 key))

key_again : (key : ℕ) → is_key (key_word key) ≡ true
key_again key =
    let long : length (key_word key) ≡ 16 = length-encode_with lower_digits (to_be_bytes w64 key) in
    and_from _ _ (ap (λ (n : ℕ). eqb n 16) long) (key_digits key)

pub keys_again : (key_a key_b : ℕ) → is_keys_line (keys_text key_a key_b) ≡ true
keys_again key_a key_b =
    let first = field_cut (codes "keys") (key_word key_a ++ 32 ∷ key_word key_b) refl in
    let second = field_cut (key_word key_a) (key_word key_b) (digits_seen (key_word key_a) (key_digits key_a)) in
    rw (first, second, key_again key_a, key_again key_b) refl

keys_line_text : (key_a key_b : ℕ) → IsLine (keys_text key_a key_b)
keys_line_text key_a key_b =
    let a = printable_word (key_word key_a) (digits_seen (key_word key_a) (key_digits key_a)) in
    let b = printable_word (key_word key_b) (digits_seen (key_word key_b) (key_digits key_b)) in
    printable_both (codes "keys ") (key_word key_a ++ 32 ∷ key_word key_b) refl (printable_both (key_word key_a) (32 ∷ key_word key_b) a b)

-- ---- rounds

module _ (actors width : ℕ) where
  -- what is read behind a round, whatever the number of the line is
  Continues : Expected → List Turn → List (List ℕ) → Result (List Turn) LogFault → Type 0
  Continues expected turns lines whole = (number : ℕ) → read_on actors width number expected turns lines ≡ whole

  round_read : (notes : List Note) (round : ℕ) (may_end : Bool) (turns : List Turn) (rest : List (List ℕ)) (whole : Result (List Turn) LogFault)
      → IsLong round → AllByRecursion (CanBeLogged actors) notes
      → Continues (Turns (suc round) true) (turns ++ turns_of_round notes) rest whole
      → Continues (Turns round may_end) turns (round_lines round notes ++ rest) whole
  unfolding read_on taken_line Continues
  round_read [] round may_end turns rest whole small h more number =
      rw (round_no_step actors round small, bytes_same (round_text round)) (more (suc number))
  round_read (note ∷ notes) round may_end turns rest whole small h more number =
      let grouped : (turns ++ Step note.actor ∷ []) ++ turns_of_round notes ≡ turns ++ turns_of_round (note ∷ notes) = append_assoc turns (Step note.actor ∷ []) (turns_of_round notes) in
      let later : Continues (Turns (suc round) true) ((turns ++ Step note.actor ∷ []) ++ turns_of_round notes) rest whole = λ n. rw grouped (more n) in
      rw (step_again actors note h.0) (round_read notes round false (turns ++ Step note.actor ∷ []) rest whole small h.1 later (suc number))

  abbrev end_lines : Outcome → List (List ℕ)
  end_lines outcome = outcome_text outcome ∷ []

  -- a round, and what is read behind it
  one_more : (notes : List Note) (rounds : List (List Note)) (round : ℕ) (may_end : Bool) (turns : List Turn) (outcome : Outcome)
      → IsLong round → AllByRecursion (CanBeLogged actors) notes
      → Continues (Turns (suc round) true) (turns ++ turns_of_round notes) (rounds_lines (suc round) rounds ++ end_lines outcome) (Ok ((turns ++ turns_of_round notes) ++ turns_of rounds))
      → Continues (Turns round may_end) turns (rounds_lines round (notes ∷ rounds) ++ end_lines outcome) (Ok (turns ++ turns_of (notes ∷ rounds)))
  unfolding Continues
  one_more notes rounds round may_end turns outcome small h later number =
      let lines : rounds_lines round (notes ∷ rounds) ++ end_lines outcome ≡ round_lines round notes ++ (rounds_lines (suc round) rounds ++ end_lines outcome) = append_assoc (round_lines round notes) (rounds_lines (suc round) rounds) (end_lines outcome) in
      let told : (turns ++ turns_of_round notes) ++ turns_of rounds ≡ turns ++ turns_of (notes ∷ rounds) = append_assoc turns (turns_of_round notes) (turns_of rounds) in
      rw (lines, sym told) (round_read notes round may_end turns (rounds_lines (suc round) rounds ++ end_lines outcome) (Ok ((turns ++ turns_of_round notes) ++ turns_of rounds)) small h later number)

  rounds_read : (rounds : List (List Note)) (round : ℕ) (turns : List Turn) (outcome : Outcome)
      → round + length rounds ≤ 2 ^ 64 → AllByRecursion (AllByRecursion (CanBeLogged actors)) rounds
      → Continues (Turns round true) turns (rounds_lines round rounds ++ end_lines outcome) (Ok (turns ++ turns_of rounds))
  unfolding read_on taken_line Continues
  rounds_read [] round turns outcome few h number = rw (outcome_no_step actors outcome, outcome_again outcome) refl
  rounds_read (notes ∷ rounds) round turns outcome few h number =
      one_more notes rounds round true turns outcome (omega arith) h.0 (rounds_read rounds (suc round) (turns ++ turns_of_round notes) outcome (omega arith) h.1) number

  all_rounds_read : (first : List Note) (rounds : List (List Note)) (outcome : Outcome)
      → IsLong (length rounds) → AllByRecursion (AllByRecursion (CanBeLogged actors)) (first ∷ rounds)
      → Continues (Turns 0 false) [] (rounds_lines 0 (first ∷ rounds) ++ end_lines outcome) (Ok (turns_of (first ∷ rounds)))
  all_rounds_read first rounds outcome few h = one_more first rounds 0 false [] outcome (omega arith) h.0 (rounds_read rounds 1 (turns_of_round first) outcome (omega arith) h.1)

  -- ---- the whole

  opens : (key_a key_b : ℕ) (lines : List (List ℕ)) (whole : Result (List Turn) LogFault) → Continues (Turns 0 false) [] lines whole
      → read_on actors width 1 Format [] (opening_lines width key_a key_b ++ lines) ≡ whole
  unfolding read_on taken_line Continues
  opens key_a key_b lines whole more = rw (bytes_same (width_text width), keys_again key_a key_b) (more 4)

  opens_old : (key_a key_b : ℕ) (lines : List (List ℕ)) (whole : Result (List Turn) LogFault) → Continues (Turns 0 false) [] lines whole
      → read_on actors width 1 Format [] (old_opening_lines key_a key_b ++ lines) ≡ whole
  unfolding read_on taken_line Continues
  opens_old key_a key_b lines whole more = rw (keys_again key_a key_b) (more 3)

  are_step_lines : (notes : List Note) → AllByRecursion (CanBeLogged actors) notes → AllByRecursion IsLine (map step_text notes)
  are_step_lines [] h = tt
  are_step_lines (note ∷ notes) h = (step_line actors note h.0, are_step_lines notes h.1)

  are_lines : (rounds : List (List Note)) (round : ℕ) → round + length rounds ≤ 2 ^ 64 → AllByRecursion (AllByRecursion (CanBeLogged actors)) rounds
      → AllByRecursion IsLine (rounds_lines round rounds)
  are_lines [] round few h = tt
  are_lines (notes ∷ rounds) round few h =
      let one = both_lines (map step_text notes) (round_text round ∷ []) (are_step_lines notes h.0) (round_line round (omega arith), tt) in
      both_lines (round_lines round notes) (rounds_lines (suc round) rounds) one (are_lines rounds (suc round) (omega arith) h.1)

  -- a log behind any opening that is read
  log_read : (opening : List (List ℕ)) (first : List Note) (rounds : List (List Note)) (outcome : Outcome) → AllByRecursion IsLine opening
      → IsLong (length rounds) → AllByRecursion (AllByRecursion (CanBeLogged actors)) (first ∷ rounds)
      → read_on actors width 1 Format [] (opening ++ (rounds_lines 0 (first ∷ rounds) ++ end_lines outcome)) ≡ Ok (turns_of (first ∷ rounds))
      → reading actors width (log_behind opening (first ∷ rounds) outcome) ≡ Ok (turns_of (first ∷ rounds))
  unfolding reading
  log_read opening first rounds outcome plain few h read =
      let behind = both_lines (rounds_lines 0 (first ∷ rounds)) (end_lines outcome) (are_lines (first ∷ rounds) 0 (omega arith) h) (outcome_line outcome, tt) in
      rw (lines_again (opening ++ (rounds_lines 0 (first ∷ rounds) ++ end_lines outcome)) (both_lines opening _ plain behind)) read

pub reads_to_its_turns : ReadsToItsTurns
reads_to_its_turns actors width key_a key_b first rounds outcome small few h =
    let body = all_rounds_read actors width first rounds outcome few h in
    let lines = rounds_lines 0 (first ∷ rounds) ++ end_lines actors width outcome in
    let widths : IsLine (width_text width) = printable_both (codes "width ") (decimal width) refl (printable_word (decimal width) (number_seen width (omega arith))) in
    let keys = keys_line_text key_a key_b in (
      log_read actors width (opening_lines width key_a key_b) first rounds outcome (refl, (widths, (keys, tt))) few h (opens actors width key_a key_b lines (Ok (turns_of (first ∷ rounds))) body),
      log_read actors width (old_opening_lines key_a key_b) first rounds outcome (refl, (keys, tt)) few h (opens_old actors width key_a key_b lines (Ok (turns_of (first ∷ rounds))) body),
    )
