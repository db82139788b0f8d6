-- A reader finds each field of a block at its place.
use Rattle.std.proofs.Common.{◌≡◌, refl, ◌∙◌, sym, ap, subst, ℕ, ◌+◌, ◌-◌, ◌*◌, ◌/◌, ◌%◌, ◌^◌, ◌<◌, ◌≤◌, List, [], ◌∷◌, ◌++◌, length, take, drop, Some, arith, append_assoc, length-append}
use Rattle.std.specs.Int.{w16, w32, w64, to_be_bytes, from_be_bytes}
use Rattle.std.specs.Prelude.{slice_range, All}
use Rattle.std.proofs.lemmas.List.{take_at, drop_at, drop-drop}
use Rattle.std.proofs.lemmas.List.Elements.{All-head, All-tail}
use Rattle.std.proofs.lemmas.Nat.{from_be_bytes-to_be_bytes_2, from_be_bytes-to_be_bytes_4, from_be_bytes-to_be_bytes_8}
use Rattle.octet_text.specs.Octets.{number_at}
use Rattle.pcap_text.specs.declared.blocks.Direction.{Direction}
use Rattle.pcap_text.specs.declared.blocks.Direction.TheVariants.{Outbound, Inbound}
use Rattle.pcap_text.specs.declared.blocks.Seen.{Seen}
use Rattle.pcap_text.specs.Blocks.{Block, Section, Interface, Packet, CanRecord, block_text, block_with, capture_text, end_of_options, flags_of, interface_body, option_text, packet_body, padded, section_body}
use Rattle.pcap_text.specs.Reading.{AreBlocks, BeginsWith, first_block, first_len, option_at, behind_option, packet_in, up_to_four, direction_of}
use Rattle.pcap_text.proofs.Lengths.{length-padded_up, length-packet_body, length-padded}

-- ---- a block ends where its length says

module _ (kind : ℕ) (body rest : List ℕ) (small : length body + 12 < 2 ^ 32) where
  abbrev octets : List ℕ
  octets = block_with kind body ++ rest

  pub len_is : first_len octets ≡ length body + 12
  len_is = from_be_bytes-to_be_bytes_4 (length body + 12) small

  pub goes_on : drop (first_len octets) octets ≡ rest
  goes_on =
      ap (λ (n : ℕ). drop n octets) len_is
      ∙ drop_at (block_with kind body) rest (length body + 12) (omega (arith, length-append body (to_be_bytes w32 (length body + 12))))

  pub again : number_at w32 octets (first_len octets - 4) ≡ first_len octets
  again =
      let last : List ℕ = to_be_bytes w32 (length body + 12) in
      let before : List ℕ = to_be_bytes w32 kind ++ (last ++ body) in
      let there : drop (length body + 8) (before ++ (last ++ rest)) ≡ last ++ rest = drop_at before (last ++ rest) (length body + 8) (omega arith) in
      let joined : octets ≡ before ++ (last ++ rest) = ap (λ (t : List ℕ). to_be_bytes w32 kind ++ (last ++ t)) (append_assoc body last rest) in
      let place : first_len octets - 4 ≡ length body + 8 = omega (arith, len_is) in
      ap (number_at w32 octets) place
      ∙ ap (λ (t : List ℕ). from_be_bytes w32 (take 4 t)) (ap (drop (length body + 8)) joined ∙ there)
      ∙ from_be_bytes-to_be_bytes_4 (length body + 12) small
      ∙ sym len_is

-- ---- an option stands at a place

module _ (octets : List ℕ) (place code : ℕ) (value rest : List ℕ) (stands : drop place octets ≡ option_text code value ++ rest) (small : length value < 2 ^ 16) where
  behind : (n : ℕ) → drop (place + n) octets ≡ drop n (option_text code value ++ rest)
  behind n = sym (drop-drop n place octets) ∙ ap (drop n) stands

  value_len : number_at w16 octets (place + 2) ≡ length value
  value_len = ap (λ (t : List ℕ). from_be_bytes w16 (take 2 t)) (behind 2) ∙ from_be_bytes-to_be_bytes_2 (length value) small

  pub value_is : option_at octets place ≡ value
  value_is =
      let counted : place + 4 + number_at w16 octets (place + 2) - (place + 4) ≡ length value = omega (arith, value_len) in
      ap (λ (n : ℕ). take n (drop (place + 4) octets)) counted
      ∙ ap (take (length value)) (behind 4 ∙ append_assoc value _ rest)
      ∙ take_at value _ (length value) refl

  pub place_behind : behind_option octets place ≡ place + 4 + up_to_four (length value)
  place_behind = ap (λ (n : ℕ). place + 4 + up_to_four n) value_len

  pub stands_behind : drop (behind_option octets place) octets ≡ rest
  stands_behind =
      let there : behind_option octets place ≡ place + (4 + up_to_four (length value)) = omega (arith, place_behind) in
      ap (λ (n : ℕ). drop n octets) there
      ∙ behind (4 + up_to_four (length value))
      ∙ drop_at (option_text code value) rest (4 + up_to_four (length value)) (omega (arith, length-padded_up value))

-- ---- the blocks

abbrev IsFound : Block → Type 0
IsFound block = (rest : List ℕ) → BeginsWith (block_text block ++ rest) block × (drop (first_len (block_text block ++ rest)) (block_text block ++ rest) ≡ rest)

section_found : IsFound Section
section_found rest =
    let small : length section_body + 12 < 2 ^ 32 = omega arith in
    (record { first = refl; again = again 0x0A0D0D0A section_body rest small }, goes_on 0x0A0D0D0A section_body rest small)

interface_found : (name : List ℕ) → length name < 2 ^ 16 → IsFound (Interface name)
interface_found name fits rest =
    let body = interface_body name in
    let small : length body + 12 < 2 ^ 32 = omega (arith, length-padded name, length-append (padded name) (option_text 9 (3 ∷ []) ++ end_of_options)) in
    let octets = block_with 1 body ++ rest in
    let last : List ℕ = to_be_bytes w32 (length body + 12) in
    let others : List ℕ = option_text 9 (3 ∷ []) ++ end_of_options in
    let stands : drop 16 octets ≡ option_text 2 name ++ (others ++ (last ++ rest)) =
    append_assoc (option_text 2 name ++ others) last rest ∙ append_assoc (option_text 2 name) others (last ++ rest) in
    (record { first = ap (λ (n : List ℕ). Some (Interface n)) (value_is octets 16 2 name (others ++ (last ++ rest)) stands fits); again = again 1 body rest small }, goes_on 1 body rest small)

-- what flags tell
direction_is : (direction : Direction) → direction_of (flags_of direction) ≡ direction
direction_is Outbound = refl
direction_is Inbound = refl

flags_small : (direction : Direction) → flags_of direction < 2 ^ 32
flags_small Outbound = omega arith
flags_small Inbound = omega arith

packet_with : ℕ → ℕ → Direction → List ℕ → List ℕ → Block
packet_with interface millisecond direction packet comment =
    Packet (record { interface = interface; millisecond = millisecond; direction = direction }) packet comment

same_packet : (s t : Seen) (xs ys cs ds : List ℕ) → s.interface ≡ t.interface → s.millisecond ≡ t.millisecond → s.direction ≡ t.direction → xs ≡ ys → cs ≡ ds
    → Packet s xs cs ≡ Packet t ys ds
unfolding packet_with
same_packet s t xs ys cs ds interface millisecond direction packets comments =
    let same : packet_with s.interface s.millisecond s.direction xs cs ≡ packet_with t.interface t.millisecond t.direction ys ds = cc in
    same

module _ (seen : Seen) (packet comment rest : List ℕ) (can : CanRecord (Packet seen packet comment)) where
  abbrev octets_of : List ℕ
  octets_of = block_text (Packet seen packet comment) ++ rest

  small : length (packet_body seen packet comment) + 12 < 2 ^ 32
  small = omega (arith, length-packet_body seen packet comment, can.2, can.3)

  abbrev last : List ℕ
  last = to_be_bytes w32 (length (packet_body seen packet comment) + 12)

  abbrev flags : List ℕ
  flags = to_be_bytes w32 (flags_of seen.direction)

  abbrev tail : List ℕ
  tail = end_of_options ++ (last ++ rest)

  len_there : number_at w32 octets_of 20 ≡ length packet
  len_there = from_be_bytes-to_be_bytes_4 (length packet) (omega (arith, can.2))

  data_stands : drop 28 octets_of ≡ padded packet ++ (option_text 1 comment ++ (option_text 2 flags ++ tail))
  data_stands =
      append_assoc (padded packet ++ (option_text 1 comment ++ (option_text 2 flags ++ end_of_options))) last rest
      ∙ append_assoc (padded packet) (option_text 1 comment ++ (option_text 2 flags ++ end_of_options)) (last ++ rest)
      ∙ ap (λ (t : List ℕ). padded packet ++ t) (append_assoc (option_text 1 comment) (option_text 2 flags ++ end_of_options) (last ++ rest))
      ∙ ap (λ (t : List ℕ). padded packet ++ (option_text 1 comment ++ t)) (append_assoc (option_text 2 flags) end_of_options (last ++ rest))

  data_is : slice_range octets_of 28 (28 + number_at w32 octets_of 20) ≡ packet
  data_is =
      let counted : 28 + number_at w32 octets_of 20 - 28 ≡ length packet = omega (arith, len_there) in
      ap (λ (n : ℕ). take n (drop 28 octets_of)) counted
      ∙ ap (take (length packet)) (data_stands ∙ append_assoc packet _ _)
      ∙ take_at packet _ (length packet) refl

  comment_stands : drop (28 + up_to_four (number_at w32 octets_of 20)) octets_of ≡ option_text 1 comment ++ (option_text 2 flags ++ tail)
  comment_stands =
      ap (λ (n : ℕ). drop (28 + up_to_four n) octets_of) len_there
      ∙ sym (drop-drop (up_to_four (length packet)) 28 octets_of)
      ∙ ap (drop (up_to_four (length packet))) data_stands
      ∙ drop_at (padded packet) _ (up_to_four (length packet)) (length-padded_up packet)

  abbrev comment_place : ℕ
  comment_place = 28 + up_to_four (number_at w32 octets_of 20)

  comment_is : option_at octets_of comment_place ≡ comment
  comment_is = value_is octets_of comment_place 1 comment (option_text 2 flags ++ tail) comment_stands can.3

  flags_there : number_at w32 octets_of (behind_option octets_of comment_place + 4) ≡ flags_of seen.direction
  flags_there =
      let there = stands_behind octets_of comment_place 1 comment (option_text 2 flags ++ tail) comment_stands can.3 in
      ap (λ (t : List ℕ). from_be_bytes w32 (take 4 t)) (sym (drop-drop 4 (behind_option octets_of comment_place) octets_of) ∙ ap (drop 4) there)
      ∙ from_be_bytes-to_be_bytes_4 (flags_of seen.direction) (flags_small seen.direction)

  packet_is : packet_in octets_of ≡ Packet seen packet comment
  packet_is =
      same_packet _ _ _ _ _ _
      (from_be_bytes-to_be_bytes_4 seen.interface can.0)
      (from_be_bytes-to_be_bytes_8 seen.millisecond can.1)
      (ap direction_of flags_there ∙ direction_is seen.direction)
      data_is
      comment_is

  packet_found : BeginsWith octets_of (Packet seen packet comment) × (drop (first_len octets_of) octets_of ≡ rest)
  packet_found = (
    record { first = ap (λ (p : Block). Some p) packet_is; again = again 6 (packet_body seen packet comment) rest small },
    goes_on 6 (packet_body seen packet comment) rest small,
  )

found : (block : Block) → CanRecord block → IsFound block
found Section can = section_found
found (Interface name) can = interface_found name can
found (Packet seen packet comment) can = λ rest. packet_found seen packet comment rest can

pub read_again : (blocks : List Block) → All CanRecord blocks → AreBlocks (capture_text blocks) blocks
read_again [] can = refl
read_again (block ∷ blocks) can =
    let there = found block (All-head CanRecord block blocks can) (capture_text blocks) in
    (there.0, subst (λ (t : List ℕ). AreBlocks t blocks) (sym there.1) (read_again blocks (All-tail CanRecord block blocks can)))
