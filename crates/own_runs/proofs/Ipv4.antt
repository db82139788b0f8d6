-- What an IPv4 packet of ours carries.
use Rattle.std.proofs.Common.{◌≡◌, refl, ◌∙◌, ap, ℕ, ◌+◌, ◌-◌, ◌≤◌, Bool, true, false, Some, List, ◌++◌, length, take, drop, arith, append_assoc, length-append}
use Rattle.std.specs.Int.{w16}
use Rattle.std.specs.Prelude.{slice_range, ◌==◌, ◌&&◌, if◌then◌else◌, None}
use Rattle.std.proofs.Math.Seq.{take-length}
use Rattle.std.proofs.lemmas.Bool.{le-leb, ne_eqb}
use Rattle.std.proofs.lemmas.List.{take_at, drop_at}
use Rattle.std.proofs.lemmas.Nat.{from_be_bytes-to_be_bytes_2}
use Rattle.octet_text.specs.Octets.{number_at}
use Rattle.pcap_text.specs.Ipv4.{header_with}
use Rattle.key_material.specs.declared.address.Address.TheVariants.{V4}
use Rattle.capture_reader.specs.Internet.{CarriedValue, carried_by, carried_by_4, carried_of, carries_tcp, header_len, size_behind_header}

abbrev carried_with : List ℕ → List ℕ → ℕ → List ℕ → CarriedValue
carried_with source destination size octets = record { source = V4 source; destination = V4 destination; size = size; octets = octets }

-- these octets between these addresses, all held
abbrev pub carried_whole : List ℕ → List ℕ → List ℕ → CarriedValue
carried_whole source destination octets = record { source = V4 source; destination = V4 destination; size = length octets; octets = octets }

module _ (checksum : ℕ) (source destination octets : List ℕ) (four : length source ≡ 4) (four_too : length destination ≡ 4) (fits : length octets ≤ 65515) where
  abbrev packet : List ℕ
  packet = header_with checksum source destination (length octets) ++ octets

  pub long : length packet ≡ 20 + length octets
  unfolding header_with
  long = omega (arith, length-append (source ++ destination) octets, length-append source destination, four, four_too)

  total : number_at w16 packet 2 ≡ length octets + 20
  unfolding header_with
  total = from_be_bytes-to_be_bytes_2 (length octets + 20) (omega (arith, fits))

  header_is : header_len packet ≡ 20
  unfolding header_with
  header_is = refl

  source_is : slice_range packet 12 16 ≡ source
  unfolding header_with
  source_is = ap (take 4) (append_assoc source destination octets) ∙ take_at source (destination ++ octets) 4 four

  destination_is : slice_range packet 16 20 ≡ destination
  unfolding header_with
  destination_is =
      ap (λ (t : List ℕ). take 4 (drop 4 t)) (append_assoc source destination octets)
      ∙ ap (take 4) (drop_at source (destination ++ octets) 4 four)
      ∙ take_at destination octets 4 four_too

  behind : drop 20 packet ≡ octets
  unfolding header_with
  behind = drop_at (source ++ destination) octets 8 (omega (arith, length-append source destination, four, four_too))

  tcp : carries_tcp packet ≡ true
  unfolding carries_tcp header_with
  tcp = ap (λ (b : Bool). b && (b && true)) (le-leb 20 (length packet) (omega (arith, long)))

  size_is : size_behind_header packet ≡ length octets
  unfolding size_behind_header
  size_is =
      let some : (length octets + 20 == 0) ≡ false = ne_eqb (length octets + 20) 0 (omega arith) in
      ap (λ (n : ℕ). (if n == 0 then length packet else n) - header_len packet) total
      ∙ ap (λ (b : Bool). (if b then length packet else length octets + 20) - header_len packet) some
      ∙ ap (λ (n : ℕ). length octets + 20 - n) header_is
      ∙ omega arith

  by_4 : carried_by_4 packet ≡ Some (carried_whole source destination octets)
  unfolding carried_by_4
  by_4 =
      let size = size_behind_header packet in
      let held = drop (header_len packet) packet in
      let all : held ≡ octets = ap (λ (n : ℕ). drop n packet) header_is ∙ behind in
      ap (λ (b : Bool). if b then Some (carried_of (V4 (slice_range packet 12 16)) (V4 (slice_range packet 16 20)) size held) else None) tcp
      ∙ ap (λ (a : List ℕ). Some (carried_of (V4 a) (V4 (slice_range packet 16 20)) size held)) source_is
      ∙ ap (λ (a : List ℕ). Some (carried_of (V4 source) (V4 a) size held)) destination_is
      ∙ ap (λ (n : ℕ). Some (carried_of (V4 source) (V4 destination) n held)) size_is
      ∙ ap (λ (t : List ℕ). Some (carried_of (V4 source) (V4 destination) (length octets) t)) all
      ∙ ap (λ (t : List ℕ). Some (carried_with source destination (length octets) t)) (take-length octets)

  pub carried_is : carried_by packet ≡ Some (carried_whole source destination octets)
  unfolding carried_by header_with
  carried_is =
      ap (λ (b : Bool). if b then None else carried_by_4 packet) (ne_eqb (length packet) 0 (omega (arith, long))) ∙ by_4
