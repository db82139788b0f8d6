use Rattle.std.proofs.Common.{◌+◌, ◌^◌, None, refl, sym, ap, ◌∙◌, arith}
use Rattle.std.specs.List.{sum_by}
use Rattle.byte_pieces.specs.Places.{kept_count}
use Rattle.byte_pieces.specs.Pieces.{piece_len, spread, with_pieces}
use Rattle.byte_pieces.proofs.Ends.{end-least, end-grows, end_past-is}
use Rattle.byte_pieces.proofs.Ordered.{ordered-below}
use Rattle.byte_pieces.proofs.Spreading.{count-spread}
use Rattle.byte_pieces.proofs.Filling.{is_put_from}
use Rattle.byte_pieces.proofs.Loops.{ordered-rises}
use Rattle.byte_pieces.proofs.kept.BytePieces.put_shared.Goals as goal

pub fresh_parts-requires : goal.fresh_parts-requires
fresh_parts-requires c = ordered-below c.self.inside.from 0 (2 ^ 62) c.self.inside.pieces.items (omega arith) c.self.invariant.0

pub count_bytes-count-requires : goal.count_bytes-count-requires
count_bytes-count-requires c =
    let put = is_put_from c.self.inside.from c.args.at (2 ^ 62) c.max.result c.args.bytes.now c.in_ok-rest.rest c.self.inside.pieces.items c.in_ok-parts.parts.items
    (with_pieces c.in_ok-parts.parts.items c.self.inside.pieces.items) c.self.invariant.0 c.requires c.max.ensures c.in_ok-rest.ensures c.in_ok-parts.ensures refl in
    omega (arith, put.few, c.requires)

pub put_pieces-requires-clause-order : goal.put_pieces-requires-clause-order
put_pieces-requires-clause-order c =
    rw c.in_ok-reserve.ensures.items (ordered-rises c.self.inside.from (2 ^ 62) c.self.inside.pieces.items c.self.invariant.0)

pub invariant_of-self-2 : goal.invariant_of-self-2
invariant_of-self-2 c =
    let put = is_put_from c.self.inside.from c.args.at (2 ^ 62) c.max.result c.args.bytes.now c.in_ok-rest.rest c.self.inside.pieces.items c.in_ok-parts.parts.items
    c.put_pieces.new.pieces.items c.self.invariant.0 c.requires c.max.ensures c.in_ok-rest.ensures c.in_ok-parts.ensures
    (c.put_pieces.ensures ∙ ap (with_pieces c.in_ok-parts.parts.items) c.in_ok-reserve.ensures.items) in
    let grows = end-grows c.self.inside.from (2 ^ 62) c.self.inside.pieces.items c.put_pieces.new.pieces.items _ c.self.invariant.0 put.order put.places in
    let least = end-least c.self.inside.from (2 ^ 62) c.self.inside.pieces.items c.self.invariant.0 in
    (put.order, tt, c.end_from-self-inside.ensures ∙ end_past-is c.self.inside.from c.self.inside.end (2 ^ 62) c.put_pieces.new.pieces.items put.order (omega (arith, c.self.invariant.2, least)) (omega (arith, c.self.invariant.2, grows)))

pub end_from-self-inside-requires : goal.end_from-self-inside-requires
end_from-self-inside-requires c =
    let put = is_put_from c.self.inside.from c.args.at (2 ^ 62) c.max.result c.args.bytes.now c.in_ok-rest.rest c.self.inside.pieces.items c.in_ok-parts.parts.items
    c.put_pieces.new.pieces.items c.self.invariant.0 c.requires c.max.ensures c.in_ok-rest.ensures c.in_ok-parts.ensures
    (c.put_pieces.ensures ∙ ap (with_pieces c.in_ok-parts.parts.items) c.in_ok-reserve.ensures.items) in
    ordered-below c.self.inside.from 0 (2 ^ 62) c.put_pieces.new.pieces.items (omega arith) put.order

pub returns-clause-ok : goal.returns-clause-ok
returns-clause-ok c =
    let put = is_put_from c.self.inside.from c.args.at (2 ^ 62) c.max.result c.args.bytes.now c.in_ok-rest.rest c.self.inside.pieces.items c.in_ok-parts.parts.items
    c.put_pieces.new.pieces.items c.self.invariant.0 c.requires c.max.ensures c.in_ok-rest.ensures c.in_ok-parts.ensures
    (c.put_pieces.ensures ∙ ap (with_pieces c.in_ok-parts.parts.items) c.in_ok-reserve.ensures.items) in
    rw (← c.self.view_is) (ap (λ places. record { from = c.self.inside.from; places = places; incoming = None }) put.places)

pub returns-clause-count : goal.returns-clause-count
returns-clause-count c =
    let put = is_put_from c.self.inside.from c.args.at (2 ^ 62) c.max.result c.args.bytes.now c.in_ok-rest.rest c.self.inside.pieces.items c.in_ok-parts.parts.items
    c.put_pieces.new.pieces.items c.self.invariant.0 c.requires c.max.ensures c.in_ok-rest.ensures c.in_ok-parts.ensures
    (c.put_pieces.ensures ∙ ap (with_pieces c.in_ok-parts.parts.items) c.in_ok-reserve.ensures.items) in
    rw (← c.self.view_is)
    (ap (λ n. n + kept_count (spread c.self.inside.from c.self.inside.pieces.items)) c.count_bytes-count.ensures
    ∙ ap (λ n. sum_by piece_len c.in_ok-parts.parts.items + n) (count-spread c.self.inside.from c.self.inside.pieces.items)
    ∙ put.count
    ∙ sym (count-spread c.self.inside.from c.put_pieces.new.pieces.items))

pub returns-clause-few : goal.returns-clause-few
returns-clause-few c =
    let put = is_put_from c.self.inside.from c.args.at (2 ^ 62) c.max.result c.args.bytes.now c.in_ok-rest.rest c.self.inside.pieces.items c.in_ok-parts.parts.items
    c.put_pieces.new.pieces.items c.self.invariant.0 c.requires c.max.ensures c.in_ok-rest.ensures c.in_ok-parts.ensures
    (c.put_pieces.ensures ∙ ap (with_pieces c.in_ok-parts.parts.items) c.in_ok-reserve.ensures.items) in
    omega (arith, put.few, c.count_bytes-count.ensures)
