-- Bytes that are to be placed have the right checksum, where they have one: which they are is said without it.
use Rattle.path_core.proofs.Words.{◌≡◌, refl, sym, Bool, true, false, ◌&&◌, Option, Some, None, is_some, if◌then◌else◌, KeptMapping, Profile, plain_piece, infinite_piece, piece_by, mapping_here, next_piece, piece_in, is_whole, is_right}
use Rattle.path_store.specs.Passing.{Piece, some_piece}
use Rattle.path_store.specs.InfiniteMappings.{covers}
use Rattle.subflow_tcp.specs.State.{EndState}
use Rattle.path_core.specs.Deliver.{piece_with}
use Rattle.path_core.specs.End.{PathEnd}

let_pass : (b : Bool) (piece : Option Piece) → is_some (if b then piece else None) ≡ true → piece ≡ (if b then piece else None)
let_pass true piece some = refl
let_pass false piece some = cc

mapped : (checksums : Bool) (kept : Option KeptMapping) (s : EndState) → is_some (piece_by checksums kept s) ≡ true → piece_by false kept s ≡ piece_by checksums kept s
mapped checksums None s some = refl
mapped false (Some kept) s some = refl
mapped true (Some kept) s some = let_pass (is_whole kept s && is_right kept s) (some_piece (piece_in kept s)) some

pub right_piece : (c : Profile) (e : PathEnd) → is_some (next_piece c e) ≡ true → piece_with false e ≡ next_piece c e
right_piece c e some = chosen e.modes.identity (covers e.modes.peer_infinite e.tcp.recv.edge) (some_piece (plain_piece e.tcp)) (infinite_piece e.modes.peer_infinite e.tcp) some
  where
    by : Bool → Option Piece
    by checksums = piece_by checksums (mapping_here e) e.tcp

    chosen : (identity covered : Bool) (plain infinite : Option Piece)
        → is_some (if identity then plain else (if covered then infinite else by c.spelling.checksums)) ≡ true
        → (if identity then plain else (if covered then infinite else by false)) ≡ (if identity then plain else (if covered then infinite else by c.spelling.checksums))
    chosen true covered plain infinite some = refl
    chosen false true plain infinite some = refl
    chosen false false plain infinite some = mapped c.spelling.checksums (mapping_here e) e.tcp some
