-- How long parts of blocks are.
use Rattle.std.proofs.Common.{◌≡◌, ℕ, ◌+◌, ◌-◌, ◌*◌, ◌/◌, ◌%◌, ◌≤◌, List, length, replicate, ◌++◌, arith, length-append}
use Rattle.std.proofs.lemmas.List.{length-replicate}
use Rattle.pcap_text.specs.declared.blocks.Seen.{Seen}
use Rattle.pcap_text.specs.Blocks.{padding, padded, option_text, packet_body, end_of_options, flags_of}
use Rattle.pcap_text.specs.Reading.{up_to_four}
use Rattle.std.specs.Int.{w32, to_be_bytes}

pub length-padded : (octets : List ℕ) → length (padded octets) ≤ length octets + 3
length-padded octets =
    let fill : List ℕ = replicate (padding (length octets)) 0 in
    let zeros : length fill ≡ padding (length octets) = length-replicate (padding (length octets)) 0 in
    omega (arith, length-append octets fill, zeros)

pub length-option : (code : ℕ) (value : List ℕ) → length (option_text code value) ≤ length value + 7
length-option code value = omega (arith, length-padded value)

pub length-packet_body : (seen : Seen) (octets comment : List ℕ) → length (packet_body seen octets comment) ≤ length octets + length comment + 45
length-packet_body seen octets comment =
    let flags = option_text 2 (to_be_bytes w32 (flags_of seen.direction)) in
    omega (arith, length-padded octets, length-option 1 comment, length-append (padded octets) (option_text 1 comment ++ (flags ++ end_of_options)), length-append (option_text 1 comment) (flags ++ end_of_options))

-- octets with their zeros are as long as the next multiple of four
pub length-padded_up : (octets : List ℕ) → length (padded octets) ≡ up_to_four (length octets)
length-padded_up octets =
    let fill : List ℕ = replicate (padding (length octets)) 0 in
    let zeros : length fill ≡ padding (length octets) = length-replicate (padding (length octets)) 0 in
    omega (arith, length-append octets fill, zeros)
