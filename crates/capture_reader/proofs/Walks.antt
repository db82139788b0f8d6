-- How the lists of records and of blocks go on behind their first one.
use Rattle.std.proofs.Common.{◌≡◌, refl, sym, ap, ◌∙◌, ℕ, zero, suc, ◌+◌, ◌-◌, ◌<◌, ◌≤◌, Option, Some, None, Result, Ok, Err, List, [], ◌∷◌, ◌++◌, length, length-drop, drop, arith}
use Rattle.std.proofs.lemmas.List.{drop-drop}
use Rattle.capture_reader.specs.declared.order.ByteOrder.{ByteOrder}
use Rattle.capture_reader.specs.Captured.{Captured}
use Rattle.capture_reader.specs.declared.capture.CaptureFault.{CaptureFault}
use Rattle.capture_reader.specs.declared.capture.CaptureFault.TheVariants.{Block, Memory}
use Rattle.capture_reader.specs.Steps.{◌>>=◌, or_fault, Fails}
use Rattle.capture_reader.specs.Records.{record_at, records_after}
use Rattle.capture_reader.specs.Blocks.{ReadSoFar, read_front, blocks_after}

-- ---- records

records_after-skip : (order : ByteOrder) (link place n : ℕ) (packets : List Captured) (xs : List ℕ) → n ≤ length xs
    → records_after order link place n packets xs ≡ records_after order link place 0 packets (drop n xs)
records_after-skip order link place zero packets xs within = refl
records_after-skip order link place (suc n) packets [] within = absurd (omega arith)
records_after-skip order link place (suc n) packets (x ∷ xs) within = records_after-skip order link place n packets xs (omega arith)

step_over : (order : ByteOrder) (link place : ℕ) (packets : List Captured) (p : Captured) (xs : List ℕ)
    → record_at order link xs ≡ Some p → length p.octets + 16 ≤ length xs
    → records_after order link place 0 packets xs ≡ records_after order link (place + 16 + length p.octets) 0 (packets ++ p ∷ []) (drop (suc (15 + length p.octets)) xs)
step_over order link place packets p [] found within = absurd (omega arith)
step_over order link place packets p (x ∷ xs) found within =
    ap (λ (r : Option Captured). or_fault place r >>= λ packet. records_after order link (place + 16 + length packet.octets) (15 + length packet.octets) (packets ++ packet ∷ []) xs) found
    ∙ records_after-skip order link (place + 16 + length p.octets) (15 + length p.octets) (packets ++ p ∷ []) xs (omega arith)

-- the next record, from a place on
pub record_step : (order : ByteOrder) (link place next : ℕ) (packets : List Captured) (p : Captured) (octets : List ℕ) (read : Result (List Captured) ℕ)
    → record_at order link (drop place octets) ≡ Some p → length p.octets + 16 ≤ length (drop place octets)
    → next ≡ place + (16 + length p.octets)
    → records_after order link place 0 packets (drop place octets) ≡ read
    → records_after order link next 0 (packets ++ p ∷ []) (drop next octets) ≡ read
record_step order link place next packets p octets read found within is_next before =
    let here : place + 16 + length p.octets ≡ next = omega arith in
    let there : place + suc (15 + length p.octets) ≡ next = omega arith in
    sym (step_over order link place packets p (drop place octets) found within
    ∙ ap (λ (at : ℕ). records_after order link at 0 (packets ++ p ∷ []) (drop (suc (15 + length p.octets)) (drop place octets))) here
    ∙ ap (records_after order link next 0 (packets ++ p ∷ [])) (drop-drop (suc (15 + length p.octets)) place octets ∙ ap (λ (n : ℕ). drop n octets) there))
    ∙ before

-- no whole record stands there
pub record_fault : (order : ByteOrder) (link place : ℕ) (packets : List Captured) (xs : List ℕ) (read : Result (List Captured) ℕ)
    → record_at order link xs ≡ None → 0 < length xs
    → records_after order link place 0 packets xs ≡ read → read ≡ Err place
record_fault order link place packets [] read none some before = absurd (omega arith)
record_fault order link place packets (x ∷ xs) read none some before =
    sym before ∙ ap (λ (r : Option Captured). or_fault place r >>= λ packet. records_after order link (place + 16 + length packet.octets) (15 + length packet.octets) (packets ++ packet ∷ []) xs) none

-- all records were read
pub records_end : (order : ByteOrder) (link place : ℕ) (packets : List Captured) (xs : List ℕ) (read : Result (List Captured) ℕ)
    → xs ≡ [] → records_after order link place 0 packets xs ≡ read → read ≡ Ok packets
records_end order link place packets xs read none before = sym before ∙ ap (records_after order link place 0 packets) none

-- ---- blocks

blocks_after-skip : (place n : ℕ) (so_far : ReadSoFar) (xs : List ℕ) → n ≤ length xs
    → blocks_after place n so_far xs ≡ blocks_after place 0 so_far (drop n xs)
blocks_after-skip place zero so_far xs within = refl
blocks_after-skip place (suc n) so_far [] within = absurd (omega arith)
blocks_after-skip place (suc n) so_far (x ∷ xs) within = blocks_after-skip place n so_far xs (omega arith)

block_over : (place len : ℕ) (so_far next : ReadSoFar) (xs : List ℕ)
    → or_fault place (read_front so_far xs) ≡ Ok (next, suc len) → suc len ≤ length xs
    → blocks_after place 0 so_far xs ≡ blocks_after (place + suc len) 0 next (drop (suc len) xs)
block_over place len so_far next [] found within = absurd (omega arith)
block_over place len so_far next (x ∷ xs) found within =
    let same : suc len - 1 ≡ len = omega arith in
    ap (λ (r : Result (ReadSoFar × ℕ) ℕ). r >>= λ front. blocks_after (place + front.1) (front.1 - 1) front.0 xs) found
    ∙ ap (λ (n : ℕ). blocks_after (place + suc len) n next xs) same
    ∙ blocks_after-skip (place + suc len) len next xs (omega arith)

pub block_step : (place len : ℕ) (so_far next : ReadSoFar) (octets : List ℕ) (read : Result ReadSoFar ℕ)
    → or_fault place (read_front so_far (drop place octets)) ≡ Ok (next, len) → 0 < len → len ≤ length (drop place octets)
    → blocks_after place 0 so_far (drop place octets) ≡ read
    → blocks_after (place + len) 0 next (drop (place + len) octets) ≡ read
block_step place zero so_far next octets read found some within before = absurd (omega arith)
block_step place (suc len) so_far next octets read found some within before =
    sym (block_over place len so_far next (drop place octets) found within
    ∙ ap (blocks_after (place + suc len) 0 next) (drop-drop (suc len) place octets))
    ∙ before

pub block_fault : (place octet : ℕ) (so_far : ReadSoFar) (xs : List ℕ) (read : Result ReadSoFar ℕ)
    → or_fault place (read_front so_far xs) ≡ Err octet → 0 < length xs
    → blocks_after place 0 so_far xs ≡ read → read ≡ Err octet
block_fault place octet so_far [] read none some before = absurd (omega arith)
block_fault place octet so_far (x ∷ xs) read none some before =
    sym before ∙ ap (λ (r : Result (ReadSoFar × ℕ) ℕ). r >>= λ front. blocks_after (place + front.1) (front.1 - 1) front.0 xs) none

pub blocks_end : (place : ℕ) (so_far : ReadSoFar) (xs : List ℕ) (read : Result ReadSoFar ℕ)
    → xs ≡ [] → blocks_after place 0 so_far xs ≡ read → read ≡ Ok so_far
blocks_end place so_far xs read none before = sym before ∙ ap (blocks_after place 0 so_far) none

-- ---- the same of what is lent from a place on
pub record_from : (order : ByteOrder) (link place next : ℕ) (packets : List Captured) (p : Captured) (octets rest : List ℕ) (read : Result (List Captured) ℕ)
    → Some p ≡ record_at order link rest → rest ≡ drop place octets → length p.octets + 16 ≤ length rest → next ≡ place + (16 + length p.octets)
    → records_after order link place 0 packets (drop place octets) ≡ read
    → records_after order link next 0 (packets ++ p ∷ []) (drop next octets) ≡ read
record_from order link place next packets p octets rest read found is within is_next before =
    record_step order link place next packets p octets read (rw is at (sym found)) (rw is at within) is_next before

pub no_record_from : (order : ByteOrder) (link place : ℕ) (packets : List Captured) (octets rest : List ℕ) (read : Result (List Captured) ℕ)
    → None ≡ record_at order link rest → rest ≡ drop place octets → place < length octets
    → records_after order link place 0 packets (drop place octets) ≡ read → read ≡ Err place
no_record_from order link place packets octets rest read none is within before =
    record_fault order link place packets (drop place octets) read (rw is at (sym none)) (omega (arith, length-drop place octets, within)) before

pub block_from : (place len : ℕ) (so_far next : ReadSoFar) (octets rest : List ℕ) (read : Result ReadSoFar ℕ)
    → or_fault place (read_front so_far rest) ≡ Ok (next, len) → rest ≡ drop place octets → 0 < len → len ≤ length rest
    → blocks_after place 0 so_far (drop place octets) ≡ read
    → blocks_after (place + len) 0 next (drop (place + len) octets) ≡ read
block_from place len so_far next octets rest read found is some within before =
    block_step place len so_far next octets read (rw is at found) some (rw is at within) before

pub no_block_from : (fault : CaptureFault) (place : ℕ) (so_far : ReadSoFar) (octets rest : List ℕ) (read : Result ReadSoFar ℕ)
    → Fails fault (or_fault place (read_front so_far rest)) → rest ≡ drop place octets → place < length octets
    → blocks_after place 0 so_far (drop place octets) ≡ read → Fails fault read
no_block_from Memory place so_far octets rest read found is within before = tt
no_block_from (Block octet) place so_far octets rest read found is within before =
    block_fault place octet so_far (drop place octets) read (rw is at found) (omega (arith, length-drop place octets, within)) before
