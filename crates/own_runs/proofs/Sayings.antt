-- What a reader is told by each block of ours.
use Rattle.std.proofs.Common.{◌≡◌, refl, ◌∙◌, sym, ap, ℕ, ◌+◌, ◌%◌, ◌<◌, ◌≤◌, Bool, true, Some, List, [], ◌∷◌, ◌++◌, length, replicate, take, arith, append_assoc, length-append}
use Rattle.std.specs.Int.{w32, to_be_bytes}
use Rattle.std.specs.Prelude.{nat_le, if◌then◌else◌, None, option_and_then, option_map, slice_get}
use Rattle.std.proofs.lemmas.Bool.{le-leb, le-ltb}
use Rattle.std.proofs.lemmas.List.{get_or-replicate, length-replicate, replicate_more, take_at}
use Rattle.std.proofs.lemmas.Option.{slice_get-get_or}
use Rattle.std.proofs.lemmas.Nat.{from_be_bytes-to_be_bytes_4}
use Rattle.pcap_text.specs.declared.blocks.Seen.{Seen}
use Rattle.pcap_text.specs.Blocks.{Packet, CanRecord, end_of_options, flags_of, interface_body, option_text, packet_body, padded, padding, section_body}
use Rattle.capture_reader.specs.declared.order.ByteOrder.TheVariants.{BigEndian}
use Rattle.capture_reader.specs.Captured.{Captured, captured_of}
use Rattle.capture_reader.specs.Order.{short_in, word_in}
use Rattle.capture_reader.specs.Blocks.{Begins, Holds, Names, ReadSoFar, Saying, interface_in, packet_by, packet_in, saying_of, section_in, with_saying}
use Rattle.own_runs.specs.Packets.{raw_packet}
use Rattle.own_runs.proofs.Frames.{block_value}

-- ---- lengths

-- octets with their zeros are a number of words of four, at most three octets more
pub record ArePadded (octets : List ℕ) : Type 0 where
  pub words : length (padded octets) % 4 ≡ 0
  pub most : length (padded octets) ≤ length octets + 3
  pub least : length octets ≤ length (padded octets)

pub are_padded : (octets : List ℕ) → ArePadded octets
are_padded octets =
    let fill : List ℕ = replicate (padding (length octets)) 0 in
    let zeros : length fill ≡ padding (length octets) = length-replicate (padding (length octets)) 0 in
    let all : length (padded octets) ≡ length octets + length fill = length-append octets fill in
    record { words = omega (arith, all, zeros); most = omega (arith, all, zeros); least = omega (arith, all) }

pub record FitsFrame (body : List ℕ) (limit : ℕ) : Type 0 where
  pub words : length body % 4 ≡ 0
  pub most : length body ≤ limit

pub interface_fits : (name : List ℕ) → FitsFrame (interface_body name) (length name + 27)
interface_fits name =
    let it = are_padded name in
    let all = length-append (padded name) (option_text 9 (3 ∷ []) ++ end_of_options) in
    record { words = omega (arith, all, it.words); most = omega (arith, all, it.most) }

pub packet_fits : (seen : Seen) (octets comment : List ℕ) → FitsFrame (packet_body seen octets comment) (length octets + length comment + 42)
packet_fits seen octets comment =
    let flags = option_text 2 (to_be_bytes w32 (flags_of seen.direction)) ++ end_of_options in
    let front = are_padded octets in
    let told = are_padded comment in
    let one = length-append (padded octets) (option_text 1 comment ++ flags) in
    let two = length-append (padded comment) flags in
    record { words = omega (arith, one, two, front.words, told.words); most = omega (arith, one, two, front.most, told.most) }

-- ---- what each says

-- that an interface of ours has a name: raw IPv4, packets of any length
abbrev pub names_raw : Saying
names_raw = Names (record { link = 228; snap_len = 0 })

-- so many, all alike
abbrev AreAll : {X : Type 0} → List X → ℕ → X → Type 0
AreAll xs n x = xs ≡ replicate n x

-- so many interfaces are named, all of ours
abbrev pub AreRaw : ReadSoFar → ℕ → Type 0
AreRaw so_far named = AreAll so_far.interfaces named (record { link = 228; snap_len = 0 })

one_of : {X : Type 0} (xs : List X) (named n : ℕ) (x : X) → xs ≡ replicate named x → n < named → slice_get xs n ≡ Some x
one_of {X} xs named n x are below =
    ap (λ (t : List X). slice_get t n) are
    ∙ slice_get-get_or (replicate named x) n x (omega (arith, length-replicate named x, below))
    ∙ ap (λ (y : X). Some y) (get_or-replicate named n x x below)

one_more : {X : Type 0} (xs : List X) (named : ℕ) (x : X) → xs ≡ replicate named x → xs ++ x ∷ [] ≡ replicate (named + 1) x
one_more {X} xs named x are = ap (λ (t : List X). t ++ x ∷ []) are ∙ replicate_more named x

pub named_too : (so_far : ReadSoFar) (named : ℕ) → AreRaw so_far named → AreRaw (with_saying BigEndian names_raw so_far) (named + 1)
named_too so_far named are = one_more so_far.interfaces named (record { link = 228; snap_len = 0 }) are

pub section_says : (so_far : ReadSoFar) → saying_of so_far.interfaces (block_value 0x0A0D0D0A section_body) ≡ Some Begins
unfolding saying_of section_in short_in
section_says so_far = refl

pub interface_says : (so_far : ReadSoFar) (name : List ℕ) → saying_of so_far.interfaces (block_value 1 (interface_body name)) ≡ Some names_raw
unfolding saying_of interface_in short_in word_in
interface_says so_far name =
    ap (λ (b : Bool). if b then None else Some names_raw) (le-ltb (length (interface_body name)) 8 (omega arith))

abbrev raw_captured : List ℕ → Bool → Captured
raw_captured octets whole = record { link = 228; octets = octets; whole = whole }

-- so many held octets in front are the packet
captured : (octets rest : List ℕ) (held told : ℕ) → held ≡ length octets → told ≡ length octets → captured_of 228 held told (octets ++ rest) ≡ Some (raw_packet octets)
unfolding captured_of
captured octets rest held told all whole =
    let same : (front : List ℕ) (b : Bool) → front ≡ octets → b ≡ true → Some (raw_captured front b) ≡ Some (raw_packet octets) =
    λ front b is yes. ap (λ (t : List ℕ). Some (raw_captured t b)) is ∙ ap (λ (w : Bool). Some (raw_captured octets w)) yes in
    ap (λ (b : Bool). if b then None else Some (raw_captured (take held (octets ++ rest)) (nat_le told held)))
    (le-ltb (length (octets ++ rest)) held (omega (arith, all, length-append octets rest)))
    ∙ same (take held (octets ++ rest)) (nat_le told held) (take_at octets rest held (sym all)) (le-leb told held (omega (arith, all, whole)))

module _ (seen : Seen) (octets comment : List ℕ) (can : CanRecord (Packet seen octets comment)) where
  abbrev body : List ℕ
  body = packet_body seen octets comment

  abbrev options : List ℕ
  options = option_text 1 comment ++ (option_text 2 (to_be_bytes w32 (flags_of seen.direction)) ++ end_of_options)

  interface_is : word_in BigEndian body 0 ≡ seen.interface
  unfolding word_in
  interface_is = from_be_bytes-to_be_bytes_4 seen.interface can.0

  held_is : word_in BigEndian body 12 ≡ length octets
  unfolding word_in
  held_is = from_be_bytes-to_be_bytes_4 (length octets) (omega (arith, can.2))

  told_is : word_in BigEndian body 16 ≡ length octets
  unfolding word_in
  told_is = from_be_bytes-to_be_bytes_4 (length octets) (omega (arith, can.2))

  by_raw : packet_by (block_value 6 body) (record { link = 228; snap_len = 0 }) ≡ Some (Holds (raw_packet octets))
  unfolding packet_by
  by_raw =
      let fill : List ℕ = replicate (padding (length octets)) 0 in
      ap (λ (t : List ℕ). option_map Holds (captured_of 228 (word_in BigEndian body 12) (word_in BigEndian body 16) t)) (append_assoc octets fill options)
      ∙ ap (option_map Holds) (captured octets (fill ++ options) (word_in BigEndian body 12) (word_in BigEndian body 16) held_is told_is)

  long : 20 ≤ length body
  long = omega arith

  pub packet_says : (so_far : ReadSoFar) (named : ℕ) → AreRaw so_far named → seen.interface < named
      → saying_of so_far.interfaces (block_value 6 body) ≡ Some (Holds (raw_packet octets))
  unfolding saying_of packet_in
  packet_says so_far named are below =
      let block = block_value 6 body in
      ap (λ (b : Bool). if b then None else option_and_then (packet_by block) (slice_get so_far.interfaces (word_in BigEndian body 0))) (le-ltb (length body) 20 long)
      ∙ ap (λ (n : ℕ). option_and_then (packet_by block) (slice_get so_far.interfaces n)) interface_is
      ∙ ap (option_and_then (packet_by block)) (one_of so_far.interfaces named seen.interface (record { link = 228; snap_len = 0 }) are below)
      ∙ by_raw
