-- The capture of a trace is read as the packets of its segments.
use Rattle.std.proofs.Common.{◌≡◌, refl, ◌∙◌, ap, subst, ℕ, zero, suc, ◌+◌, ◌^◌, ◌<◌, ◌≤◌, Ok, List, [], ◌∷◌, ◌++◌, map, length, take, codes, arith, length-append}
use Rattle.std.specs.Prelude.{All}
use Rattle.std.specs.Fmt.{decimal}
use Rattle.std.proofs.lemmas.Fmt.{length-decimal-le}
use Rattle.std.proofs.Math.Seq.{take-length}
use Rattle.std.proofs.lemmas.List.Elements.{All-append, All-cons, All-head, All-nil, All-tail}
use Rattle.sides.specs.declared.side.Side.{Side}
use Rattle.segment_wire.specs.Paths.{address_of, addresses_from}
use Rattle.path_segments.proofs.SegmentsAgain.{four}
use Rattle.sides.specs.Side.{peer}
use Rattle.pcap_text.specs.Blocks.{Block, Interface, CanRecord}
use Rattle.ones_sum.specs.Words.{word_sum, folded, complement}
use Rattle.pcap_text.specs.Ipv4.{header_text, header_with}
use Rattle.link_trace.specs.declared.sent.Sent.{Sent}
use Rattle.link_trace.specs.Captures.{interfaces, ipv4_packet, packet_of, segment_len}
use Rattle.capture_reader.specs.Captured.{Captured}
use Rattle.own_runs.specs.Packets.{HaveInterfaces, packets_of, raw_packet}
use Rattle.own_runs.specs.Segments.{packet_text}
use Rattle.own_runs.specs.Traces.{FitsCapture, TracesAreTheirPackets, TracesAreTheirSegments, packet_for}
use Rattle.own_runs.proofs.Ipv4.{long}
use Rattle.own_runs.proofs.Packets.{are_their_packets}
use Rattle.own_runs.proofs.Segments.{are_found}

-- ---- one packet

-- a segment that isn't too long is whole in its packet
module _ (s : Sent) (fits : length s.octets ≤ 65515) where
  len_is : segment_len s ≡ length s.octets
  len_is = omega (arith, fits)

  packet_is : ipv4_packet s ≡ packet_text (addresses_from s.path s.from) s.octets
  packet_is =
      let addresses = addresses_from s.path s.from in
      ap (λ (n : ℕ). header_text addresses.source addresses.destination n ++ take n s.octets) len_is
      ∙ ap (λ (t : List ℕ). header_text addresses.source addresses.destination (length s.octets) ++ t) (take-length s.octets)

  short_packet : length (ipv4_packet s) < 2 ^ 31
  short_packet =
      let from = address_of s.path s.from in let to = address_of s.path (peer s.from) in
      let checksum = complement (folded (word_sum (header_with 0 from to (length s.octets)))) in
      omega (arith, ap length packet_is, long checksum from to s.octets (four s.path s.from) (four s.path (peer s.from)) fits, fits)

-- ---- blocks

name_short : (n : ℕ) → n < 2 ^ 64 → length (codes "path " ++ decimal n) < 2 ^ 16
name_short n small =
    omega (arith, length-append (codes "path ") (decimal n), length-decimal-le 20 n (omega arith) (omega arith) small)

interfaces_fit : (more path : ℕ) → path + more ≤ 2 ^ 32 → All CanRecord (interfaces more path)
interfaces_fit zero path few = All-nil CanRecord
interfaces_fit (suc more) path few =
    All-cons CanRecord (Interface (codes "path " ++ decimal path)) (interfaces more (path + 1)) (name_short path (omega (arith, few)))
    (interfaces_fit more (path + 1) (omega (arith, few)))

abbrev IsOn : ℕ → Sent → Type 0
IsOn paths s = s.path < paths

packets_fit : (side : Side) (paths : ℕ) (trace : List Sent) → paths ≤ 2 ^ 32 → All (IsOn paths) trace → All FitsCapture trace → All CanRecord (map (packet_of side) trace)
packets_fit side paths [] few on fit = All-nil CanRecord
packets_fit side paths (s ∷ trace) few on fit =
    let path = All-head (IsOn paths) s trace on in
    let c = All-head FitsCapture s trace fit in
    All-cons CanRecord (packet_of side s) (map (packet_of side) trace) (omega (arith, path, few), c.tick, short_packet s c.octets, c.comment)
    (packets_fit side paths trace few (All-tail (IsOn paths) s trace on) (All-tail FitsCapture s trace fit))

-- so many interfaces more are named
named_before : (more path named : ℕ) (blocks : List Block) → HaveInterfaces (named + more) blocks → HaveInterfaces named (interfaces more path ++ blocks)
named_before zero path named blocks have = subst (λ (n : ℕ). HaveInterfaces n blocks) (let same : named + 0 ≡ named = omega arith in same) have
named_before (suc more) path named blocks have =
    named_before more (path + 1) (named + 1) blocks
    (subst (λ (n : ℕ). HaveInterfaces n blocks) (let same : named + suc more ≡ named + 1 + more = omega arith in same) have)

have_all : (side : Side) (paths : ℕ) (trace : List Sent) → All (IsOn paths) trace → HaveInterfaces paths (map (packet_of side) trace)
have_all side paths [] on = tt
have_all side paths (s ∷ trace) on = (All-head (IsOn paths) s trace on, have_all side paths trace (All-tail (IsOn paths) s trace on))

-- ---- their packets

behind_interfaces : (more path : ℕ) (blocks : List Block) → packets_of (interfaces more path ++ blocks) ≡ packets_of blocks
behind_interfaces zero path blocks = refl
behind_interfaces (suc more) path blocks = behind_interfaces more (path + 1) blocks

packets_are : (side : Side) (trace : List Sent) → All FitsCapture trace → packets_of (map (packet_of side) trace) ≡ map packet_for trace
packets_are side [] fit = refl
packets_are side (s ∷ trace) fit =
    ap (λ (t : List ℕ). raw_packet t ∷ packets_of (map (packet_of side) trace)) (packet_is s (All-head FitsCapture s trace fit).octets)
    ∙ ap (λ (t : List Captured). packet_for s ∷ t) (packets_are side trace (All-tail FitsCapture s trace fit))

pub traces_are : TracesAreTheirPackets
traces_are side paths trace few on fit =
    let packets = map (packet_of side) trace in
    are_their_packets (interfaces paths 0 ++ packets)
    (All-append CanRecord (interfaces paths 0) packets (interfaces_fit paths 0 (omega (arith, few))) (packets_fit side paths trace few on fit))
    (named_before paths 0 0 packets (subst (λ (n : ℕ). HaveInterfaces n packets) (let same : paths ≡ 0 + paths = omega arith in same) (have_all side paths trace on)))
    ∙ ap (λ (t : List Captured). Ok t) (behind_interfaces paths 0 packets ∙ packets_are side trace fit)

pub segments_are : TracesAreTheirSegments
segments_are s segment short read =
    are_found (addresses_from s.path s.from) s.octets segment (record { source = four s.path s.from; destination = four s.path (peer s.from) }) short read
