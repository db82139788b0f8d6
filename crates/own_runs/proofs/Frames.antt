-- A block that is written is the block that its octets begin with.
use Rattle.std.proofs.Common.{◌≡◌, refl, ◌∙◌, sym, ap, ℕ, zero, suc, ◌+◌, ◌-◌, ◌%◌, ◌^◌, ◌<◌, ◌≤◌, Bool, true, Option, Some, List, [], ◌∷◌, ◌++◌, length, take, drop, arith, append_assoc, length-append}
use Rattle.std.specs.Int.{w32, to_be_bytes, from_be_bytes}
use Rattle.std.specs.Prelude.{slice_range, nat_le, ◌==◌, ◌&&◌, if◌then◌else◌, None, option_and_then, option_map}
use Rattle.std.proofs.lemmas.Bool.{le-leb, le-ltb, eq-eqb}
use Rattle.std.proofs.lemmas.List.{take_at, drop_at}
use Rattle.std.proofs.lemmas.Nat.{from_be_bytes-to_be_bytes_4}
use Rattle.pcap_text.specs.Blocks.{block_with}
use Rattle.capture_reader.specs.declared.order.ByteOrder.{ByteOrder}
use Rattle.capture_reader.specs.declared.order.ByteOrder.TheVariants.{BigEndian}
use Rattle.capture_reader.specs.Order.{word_in}
use Rattle.capture_reader.specs.Blocks.{BlockValue, ReadSoFar, Saying, block_at, block_of, blocks_after, is_framed, order_of_block, order_of_section, read_block, read_front, saying_of, with_saying}
use Rattle.capture_reader.specs.Steps.{◌>>=◌, or_fault}

-- what a reader knows of a block of ours
abbrev pub block_value : ℕ → List ℕ → BlockValue
block_value kind body = record { order = BigEndian; kind = kind; body = body }

-- a length that is in order
has_form : (len total again : ℕ) → 12 ≤ len → len % 4 ≡ 0 → len ≤ total → again ≡ len → (nat_le 12 len && (len % 4 == 0 && (nat_le len total && again == len))) ≡ true
has_form len total again least words there same =
    rw (le-leb 12 len least, eq-eqb (len % 4) 0 words, le-leb len total there, eq-eqb again len same) refl

-- octets of the block before are passed over
passed_over : (place n : ℕ) (so_far : ReadSoFar) (xs rest : List ℕ) → length xs ≡ n → blocks_after place n so_far (xs ++ rest) ≡ blocks_after place 0 so_far rest
passed_over place zero so_far [] rest is = refl
passed_over place (suc n) so_far [] rest is = absurd (omega arith)
passed_over place zero so_far (x ∷ xs) rest is = absurd (omega arith)
passed_over place (suc n) so_far (x ∷ xs) rest is = passed_over place n so_far xs rest (omega arith)

module _ (kind : ℕ) (body rest : List ℕ) (fits : kind < 2 ^ 32) (small : length body + 12 < 2 ^ 32) (words : length body % 4 ≡ 0) where
  abbrev last : List ℕ
  last = to_be_bytes w32 (length body + 12)

  abbrev octets : List ℕ
  octets = block_with kind body ++ rest

  kind_is : word_in BigEndian octets 0 ≡ kind
  unfolding word_in
  kind_is = from_be_bytes-to_be_bytes_4 kind fits

  len_is : word_in BigEndian octets 4 ≡ length body + 12
  unfolding word_in
  len_is = from_be_bytes-to_be_bytes_4 (length body + 12) small

  last_is : word_in BigEndian octets (length body + 8) ≡ length body + 12
  unfolding word_in
  last_is =
      let before : List ℕ = to_be_bytes w32 kind ++ (last ++ body) in
      let joined : octets ≡ before ++ (last ++ rest) = ap (λ (t : List ℕ). to_be_bytes w32 kind ++ (last ++ t)) (append_assoc body last rest) in
      ap (λ (t : List ℕ). from_be_bytes w32 (take 4 t)) (ap (drop (length body + 8)) joined ∙ drop_at before (last ++ rest) (length body + 8) (omega arith))
      ∙ from_be_bytes-to_be_bytes_4 (length body + 12) small

  again : word_in BigEndian octets (word_in BigEndian octets 4 - 4) ≡ word_in BigEndian octets 4
  again =
      let place : word_in BigEndian octets 4 - 4 ≡ length body + 8 = omega (arith, len_is) in
      ap (word_in BigEndian octets) place ∙ last_is ∙ sym len_is

  total : length octets ≡ length body + 12 + length rest
  total = omega (arith, length-append (body ++ last) rest, length-append body last)

  framed : is_framed BigEndian octets ≡ true
  unfolding is_framed
  framed =
      let len = word_in BigEndian octets 4 in
      has_form len (length octets) (word_in BigEndian octets (len - 4)) (omega (arith, len_is)) (omega (arith, len_is, words)) (omega (arith, len_is, total)) again

  body_is : slice_range octets 8 (word_in BigEndian octets 4 - 4) ≡ body
  body_is =
      let counted : word_in BigEndian octets 4 - 4 - 8 ≡ length body = omega (arith, len_is) in
      ap (λ (n : ℕ). take n (drop 8 octets)) counted
      ∙ ap (take (length body)) (append_assoc body last rest)
      ∙ take_at body (last ++ rest) (length body) refl

  block_is : block_of octets BigEndian ≡ Some (block_value kind body)
  unfolding block_of
  block_is =
      let found : List ℕ = slice_range octets 8 (word_in BigEndian octets 4 - 4) in
      ap (λ (b : Bool). if b then Some (block_value (word_in BigEndian octets 0) found) else None) framed
      ∙ ap (λ (k : ℕ). Some (block_value k found)) kind_is
      ∙ ap (λ (b : List ℕ). Some (block_value kind b)) body_is

  -- the order of octets that the block tells, or the one of its section
  abbrev told_order : Option ByteOrder → Option ByteOrder
  told_order opened = if kind == 0x0A0D0D0A then order_of_section (word_in BigEndian octets 8) else opened

  front_is : (so_far : ReadSoFar) (saying : Saying) → told_order so_far.order ≡ Some BigEndian → saying_of so_far.interfaces (block_value kind body) ≡ Some saying
      → read_front so_far octets ≡ Some (with_saying BigEndian saying so_far, length body + 12)
  unfolding read_front block_at read_block order_of_block
  front_is so_far saying told says =
      let order : order_of_block so_far.order octets ≡ Some BigEndian =
      ap (λ (k : ℕ). if k == 0x0A0D0D0A then order_of_section (word_in BigEndian octets 8) else so_far.order) kind_is ∙ told in
      ap (λ (b : Bool). option_and_then (read_block so_far) (if b then None else option_and_then (block_of octets) (order_of_block so_far.order octets)))
      (le-ltb (length octets) 12 (omega (arith, total)))
      ∙ ap (λ (o : Option ByteOrder). option_and_then (read_block so_far) (option_and_then (block_of octets) o)) order
      ∙ ap (option_and_then (read_block so_far)) block_is
      ∙ ap (option_map (λ said. (with_saying BigEndian said so_far, length body + 12))) says

  -- the blocks behind it are read with what it says
  pub goes_on : (place : ℕ) (so_far : ReadSoFar) (saying : Saying) → told_order so_far.order ≡ Some BigEndian
      → saying_of so_far.interfaces (block_value kind body) ≡ Some saying
      → blocks_after place 0 so_far octets ≡ blocks_after (place + (length body + 12)) 0 (with_saying BigEndian saying so_far) rest
  goes_on place so_far saying told says =
      let behind : List ℕ = drop 1 (block_with kind body) in
      ap (λ (o : Option (ReadSoFar × ℕ)). or_fault place o >>= λ front. blocks_after (place + front.1) (front.1 - 1) front.0 (behind ++ rest)) (front_is so_far saying told says)
      ∙ passed_over (place + (length body + 12)) (length body + 12 - 1) (with_saying BigEndian saying so_far) behind rest (omega (arith, length-append body last))
