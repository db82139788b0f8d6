use Rattle.std.proofs.Common.{◌≡◌, take}
use Rattle.std.specs.List.{flat_map}
use Rattle.mptcp_options.proofs.body.joined.Given as goal

-- the pieces so far
abbrev pub invariant-loop-piece : goal.invariant-loop-piece
invariant-loop-piece l = l.body.items ≡ flat_map (λ piece. piece.now) (take l.piece-index l.pieces)
