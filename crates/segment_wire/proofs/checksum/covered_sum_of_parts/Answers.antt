use Rattle.std.proofs.Common.{◌≡◌, ℕ, ◌%◌, List, ◌++◌, length, length-append, ◌∙◌, arith}
use Rattle.segment_wire.proofs.Sums.{covered_in_parts}
use Rattle.segment_wire.proofs.checksum.covered_sum_of_parts.Goals as goal

pub returns : goal.returns
returns c =
    let pseudo : List ℕ = c.pseudo_header.result in
    let header : List ℕ = c.args.header.now in
    let options : List ℕ = c.args.options.now in
    let payload : List ℕ = c.args.payload.now in
    let even : length pseudo % 2 ≡ 0 = omega arith in
    let even_header : length (pseudo ++ header) % 2 ≡ 0 = omega (arith, length-append pseudo header) in
    let even_options : length ((pseudo ++ header) ++ options) % 2 ≡ 0 =
    omega (arith, length-append (pseudo ++ header) options, length-append pseudo header, c.requires.padded) in
    let through_header = c.sum_more-through_header.ensures.goes_on pseudo even c.sum-before.ensures.value in
    let through_options = c.sum_more-through_options.ensures.goes_on (pseudo ++ header) even_header through_header in
    let through_payload = c.sum_more.ensures.goes_on ((pseudo ++ header) ++ options) even_options through_options in
    c.fold.ensures ∙ covered_in_parts c.args.addresses.now _ pseudo header options payload _ c.pseudo_header.ensures (omega arith) through_payload
