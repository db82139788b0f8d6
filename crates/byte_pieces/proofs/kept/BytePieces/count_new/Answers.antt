use Rattle.std.proofs.Common.{◌+◌, ◌-◌, ◌^◌, min, length, take, drop, refl, sym, ap, ◌∙◌, arith}
use Rattle.std.specs.List.{sum_by}
use Rattle.byte_pieces.specs.Places.{kept_count}
use Rattle.byte_pieces.specs.Pieces.{piece_len, spread, fresh, with_pieces}
use Rattle.byte_pieces.proofs.Ordered.{ordered-below}
use Rattle.byte_pieces.proofs.Spreading.{count-spread}
use Rattle.byte_pieces.proofs.Filling.{is_put}
use Rattle.byte_pieces.proofs.kept.BytePieces.count_new.Goals as goal

pub count_fresh-requires-clause-order : goal.count_fresh-requires-clause-order
count_fresh-requires-clause-order c = ordered-below c.self.inside.from 0 (2 ^ 62) c.self.inside.pieces.items (omega arith) c.self.invariant.0

pub returns : goal.returns
returns c =
    let rest = take (length c.args.bytes.now - c.min-passed.result) (drop c.min-passed.result c.args.bytes.now) in
    let parts = fresh c.max-first.result rest c.self.inside.pieces.items in
    let put = is_put c.self.inside.from c.args.at (2 ^ 62) c.min-passed.result c.max-first.result c.args.bytes.now rest c.self.inside.pieces.items parts
    (with_pieces parts c.self.inside.pieces.items) c.self.invariant.0 c.requires (c.min-passed.ensures ∙ ap (min (length c.args.bytes.now)) c.saturating_sub.ensures) c.max-first.ensures refl refl refl in
    rw (← c.self.view_is)
    (ap (λ n. n + kept_count (spread c.self.inside.from c.self.inside.pieces.items)) c.count_fresh.ensures
    ∙ ap (λ n. sum_by piece_len parts + n) (count-spread c.self.inside.from c.self.inside.pieces.items)
    ∙ put.count
    ∙ sym (count-spread c.self.inside.from (with_pieces parts c.self.inside.pieces.items))
    ∙ ap kept_count put.places)
