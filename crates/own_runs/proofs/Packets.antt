-- The packets of a capture that is written are read again, block by block.
use Rattle.std.proofs.Common.{◌≡◌, refl, ◌∙◌, sym, ap, ℕ, ◌+◌, ◌^◌, ◌<◌, Bool, Option, Some, Result, Ok, Err, List, [], ◌∷◌, ◌++◌, length, arith, append_assoc}
use Rattle.std.specs.Prelude.{All, None, if◌then◌else◌}
use Rattle.std.proofs.lemmas.Bool.{le-ltb, ne_eqb}
use Rattle.std.proofs.lemmas.List.{append-nil}
use Rattle.std.proofs.lemmas.List.Elements.{All-head, All-tail}
use Rattle.pcap_text.specs.Blocks.{Block, Section, Interface, Packet, CanRecord, block_text, capture_text, interface_body, packet_body, section_body}
use Rattle.capture_reader.specs.declared.order.ByteOrder.{ByteOrder}
use Rattle.capture_reader.specs.declared.order.ByteOrder.TheVariants.{BigEndian}
use Rattle.capture_reader.specs.Captured.{Captured}
use Rattle.capture_reader.specs.Captures.{capture_meaning, meaning_by}
use Rattle.capture_reader.specs.Order.{word_in}
use Rattle.capture_reader.specs.Records.{order_of_magic, record_order}
use Rattle.capture_reader.specs.Blocks.{Begins, Holds, ReadSoFar, blocks_after, blocks_meaning, nothing_read, order_of_section, with_saying}
use Rattle.capture_reader.specs.Steps.{◌>>=◌}
use Rattle.own_runs.specs.Packets.{HaveInterfaces, packets_of, raw_packet}
use Rattle.own_runs.proofs.Frames.{goes_on}
use Rattle.own_runs.proofs.Sayings.{AreRaw, interface_fits, interface_says, named_too, names_raw, packet_fits, packet_says, section_says}

-- the packets of what was read
abbrev packets_in : Result ReadSoFar ℕ → Result (List Captured) ℕ
packets_in read = read >>= λ so_far. Ok so_far.packets

-- where a section is open in which so many interfaces were named
record IsOpen (so_far : ReadSoFar) (named : ℕ) : Type 0 where
  order : so_far.order ≡ Some BigEndian
  interfaces : AreRaw so_far named

magic_is : (rest : List ℕ) → order_of_section (word_in BigEndian (block_text Section ++ rest) 8) ≡ Some BigEndian
unfolding order_of_section word_in
magic_is rest = refl

-- the reader goes on behind a section header
behind_section : (place : ℕ) (so_far : ReadSoFar) (rest : List ℕ) → blocks_after place 0 so_far (block_text Section ++ rest) ≡ blocks_after (place + 28) 0 (with_saying BigEndian Begins so_far) rest
behind_section place so_far rest =
    goes_on 0x0A0D0D0A section_body rest (omega arith) (omega arith) refl place so_far Begins (magic_is rest) (section_says so_far)

read_on : (blocks : List Block) (named place : ℕ) (so_far : ReadSoFar) → IsOpen so_far named → All CanRecord blocks → HaveInterfaces named blocks
    → packets_in (blocks_after place 0 so_far (capture_text blocks)) ≡ Ok (so_far.packets ++ packets_of blocks)
read_on [] named place so_far opened can have = ap (λ (t : List Captured). Ok t) (sym (append-nil so_far.packets))
read_on (Section ∷ blocks) named place so_far opened can have =
    ap packets_in (behind_section place so_far (capture_text blocks))
    ∙ read_on blocks 0 (place + 28) (with_saying BigEndian Begins so_far) (record { order = refl; interfaces = refl }) (All-tail CanRecord Section blocks can) have
read_on (Interface name ∷ blocks) named place so_far opened can have =
    let body = interface_body name in
    let fits = interface_fits name in
    let small : length name < 2 ^ 16 = All-head CanRecord (Interface name) blocks can in
    let next = with_saying BigEndian names_raw so_far in
    let more : IsOpen next (named + 1) = record { order = opened.order; interfaces = named_too so_far named opened.interfaces } in
    ap packets_in (goes_on 1 body (capture_text blocks) (omega arith) (omega (arith, fits.most, small)) fits.words place so_far names_raw opened.order (interface_says so_far name))
    ∙ read_on blocks (named + 1) (place + (length body + 12)) next more (All-tail CanRecord (Interface name) blocks can) have
read_on (Packet seen octets comment ∷ blocks) named place so_far opened can have =
    let body = packet_body seen octets comment in
    let fits = packet_fits seen octets comment in
    let small = All-head CanRecord (Packet seen octets comment) blocks can in
    let packet = raw_packet octets in
    let next = with_saying BigEndian (Holds packet) so_far in
    let still : IsOpen next named = record { order = opened.order; interfaces = opened.interfaces } in
    let says = packet_says seen octets comment small so_far named opened.interfaces have.0 in
    ap packets_in (goes_on 6 body (capture_text blocks) (omega arith) (omega (arith, fits.most, small.2, small.3)) fits.words place so_far (Holds packet) opened.order says)
    ∙ read_on blocks named (place + (length body + 12)) next still (All-tail CanRecord (Packet seen octets comment) blocks can) have.1
    ∙ ap (λ (t : List Captured). Ok t) (append_assoc so_far.packets (packet ∷ []) (packets_of blocks))

no_magic : (rest : List ℕ) → record_order (block_text Section ++ rest) ≡ None
unfolding record_order order_of_magic word_in
no_magic rest =
    ap (λ (b : Bool). if b then None else order_of_magic 0x0A0D0D0A) (le-ltb (length (block_text Section ++ rest)) 4 (omega arith))

pub are_their_packets : (blocks : List Block) → All CanRecord blocks → HaveInterfaces 0 blocks → capture_meaning (capture_text (Section ∷ blocks)) ≡ Ok (packets_of blocks)
unfolding capture_meaning blocks_meaning
are_their_packets blocks can have =
    let octets = capture_text (Section ∷ blocks) in
    ap (λ (o : Option ByteOrder). meaning_by o octets) (no_magic (capture_text blocks))
    ∙ ap (λ (b : Bool). if b then Err 0 else packets_in (blocks_after 0 0 nothing_read octets)) (ne_eqb (length octets) 0 (omega arith))
    ∙ ap packets_in (behind_section 0 nothing_read (capture_text blocks))
    ∙ read_on blocks 0 28 (with_saying BigEndian Begins nothing_read) (record { order = refl; interfaces = refl }) can have
