use Rattle.std.proofs.Common.{◌++◌, take}
use Rattle.std.specs.List.{flat_map}
use Rattle.sha2.specs.Hashers.{Holds256}
use Rattle.key_material.specs.Hmac.{mixed_key}
use Rattle.key_material.proofs.keyed_hash.hmac_of_pieces.Given as goal

-- the inner hash has taken the mixed key and the pieces so far
abbrev pub invariant-loop-piece : goal.invariant-loop-piece
invariant-loop-piece l =
    Holds256 l.inner (mixed_key 0x36 l.key ++ flat_map (λ piece. piece.now) (take l.piece-index l.pieces))
