-- The bytes that an end's receive edge passes are placed, piece by piece (RFC 8684, section 3.3.1).
use Rattle.std.specs.Prelude.{ℕ, ◌+◌, ◌-◌, Bool, ◌==◌, ◌&&◌, ◌^◌, not, true, ◌||◌, false, nat_lt, nat_le, if◌then◌else◌, List, ◌++◌, Option, [], is_none, Some, is_some, ◌∷◌, None, length, take}
use Rattle.dss_mapping.specs.declared.kept.KeptMapping.{KeptMapping}
use Rattle.subflow_recv.specs.Receiving.{filled, after_advance, after_forget_from}
use Rattle.subflow_tcp.specs.State.{EndState, is_fin_passed}
use Rattle.path_store.specs.Passing.{Piece, named_piece, piece_of_order, is_there, has_its_sum, passing_by, some_piece}
use Rattle.path_store.specs.declared.in_order.InOrder.{InOrder}
use Rattle.path_store.specs.declared.infinite_mapping.InfiniteMapping.{InfiniteMapping}
use Rattle.path_store.specs.InfiniteMappings.{place_under, covers}
use Rattle.dss_mapping.specs.Mappings.{mapping_at, after_forget}
use Rattle.subflow_tcp.specs.Judging.{is_at}
use Rattle.path_store.specs.Counts.{one_more}
use Rattle.control_book.specs.Replies.{is_sure}
use Rattle.path_store.specs.Receiving.{data_fin_reached}
use Rattle.sides.specs.declared.side.Side.{Side}
use Rattle.reassembly_book.specs.declared.call.ReassemblyCall.TheVariants as reassembly_calls
use Rattle.actor_desk.specs.declared.ask.Ask.{Ask}
use Rattle.actor_desk.specs.declared.ask.Ask.TheVariants as asks
use Rattle.actor_desk.specs.declared.ask.LocalStep.TheVariants as steps
use Rattle.reassembly_book.specs.declared.call.ReassemblyReply.TheVariants as reassembly_replies
use Rattle.actor_desk.specs.declared.ask.Reply.{Reply}
use Rattle.actor_desk.specs.declared.ask.Reply.TheVariants as replies
use Rattle.path_agenda.specs.Agenda.{breaks}
use Rattle.subflow_tcp.specs.Taking.{after_keeping_held, after_dropping_held}
use Rattle.path_core.specs.End.{PathEnd}
use Rattle.path_core.specs.Modes.{receives_plainly}
use Rattle.path_core.specs.Profile.{Profile}
use Rattle.path_core.specs.State.{PathState, end_at, goes_on}
use Rattle.path_core.specs.Choices.{is_side_a}

-- ---- what is in order and mapped

-- the octets in order at the edge that this mapping names
abbrev pub piece_in : KeptMapping → EndState → Piece
piece_in kept s = named_piece kept s.recv.edge (filled s.recv.places)

-- the octets that were found in order from the edge on, as a piece at the place of the first one
abbrev pub piece_from : InOrder → EndState → Piece
piece_from found s = piece_of_order found (filled s.recv.places)

-- with checksums: the whole mapping is there
abbrev pub is_whole : KeptMapping → EndState → Bool
is_whole kept s = is_there kept s.recv.edge (length (filled s.recv.places))

-- with checksums: the mapping's checksum is that of its octets
abbrev pub is_right : KeptMapping → EndState → Bool
is_right kept s = has_its_sum kept (filled s.recv.places)

-- the octets that this mapping lets pass: with checksums all of its own, once they are there and right, or none
abbrev pub checked_piece : Bool → KeptMapping → EndState → Option Piece
checked_piece checksums kept s = passing_by checksums kept s.recv.edge (filled s.recv.places)

-- by the mapping that is there, if one is
abbrev pub piece_by : Bool → Option KeptMapping → EndState → Option Piece
piece_by checksums None s = None
piece_by checksums (Some kept) s = checked_piece checksums kept s

-- after a fallback: all that is in order, each byte at the place before its position
abbrev pub plain_piece : EndState → Piece
plain_piece s = record { place = s.recv.edge - 1; octets = filled s.recv.places }

-- under the peer's infinite mapping: all that is in order, with places below 2^62
abbrev pub piece_at : Option ℕ → EndState → Option Piece
piece_at None s = None
piece_at (Some place) s = some_piece (record { place = place; octets = take (2 ^ 62 - place) (filled s.recv.places) })

-- from the edge on, by that mapping
abbrev pub infinite_piece : Option InfiniteMapping → EndState → Option Piece
infinite_piece None s = None
infinite_piece (Some mapping) s = piece_at (place_under mapping s.recv.edge) s

-- the mapping of the position at the edge; where the peer sends without mappings none counts
abbrev pub mapping_here : PathEnd → Option KeptMapping
mapping_here e =
    if receives_plainly e.modes e.tcp.recv.edge then None else mapping_at e.receiving.mappings e.tcp.recv.edge

-- the next bytes to be placed, where the side didn't fall back
abbrev pub mapped_piece : Profile → PathEnd → Option Piece
mapped_piece c e =
    if covers e.modes.peer_infinite e.tcp.recv.edge then infinite_piece e.modes.peer_infinite e.tcp
    else piece_by c.spelling.checksums (mapping_here e) e.tcp

-- the next bytes to be placed
abbrev pub next_piece : Profile → PathEnd → Option Piece
next_piece c e = if e.modes.identity then some_piece (plain_piece e.tcp) else mapped_piece c e

-- the next bytes to be placed, were checksums used or not: where the side didn't fall back, and whether it did or not
abbrev pub mapped_with : Bool → PathEnd → Option Piece
mapped_with checksums e =
    if covers e.modes.peer_infinite e.tcp.recv.edge then infinite_piece e.modes.peer_infinite e.tcp
    else piece_by checksums (mapping_here e) e.tcp

abbrev pub piece_with : Bool → PathEnd → Option Piece
piece_with checksums e = if e.modes.identity then some_piece (plain_piece e.tcp) else mapped_with checksums e

-- the edge is behind them
abbrev pub passed_to : ℕ → PathEnd → PathEnd
passed_to to e = record e {
  tcp = record e.tcp { recv = after_advance to e.tcp.recv };
  receiving = record e.receiving { mappings = after_forget to e.receiving.mappings };
}

abbrev pub after_piece : Piece → PathEnd → PathEnd
after_piece piece e = passed_to (e.tcp.recv.edge + length piece.octets) e

-- ---- a wrong checksum

-- with checksums: all octets of the mapping are there, and their checksum is another one
abbrev pub is_wrong : Bool → KeptMapping → EndState → Bool
is_wrong checksums kept s = checksums && (is_whole kept s && not (is_right kept s))

-- the mapping at the edge, where its octets are all there and aren't those that it was made for
abbrev pub failing_by : Bool → Option KeptMapping → EndState → Option KeptMapping
failing_by checksums None s = None
failing_by checksums (Some kept) s = if is_wrong checksums kept s then Some kept else None

-- the mapping at the end's edge, where its octets are all there and aren't those that it was made for
abbrev pub failing_mapping : Profile → PathEnd → Option KeptMapping
failing_mapping c e = failing_by c.spelling.checksums (mapping_here e) e.tcp

-- every octet from the mapping's first position on is forgotten, so that what comes for it is kept again
abbrev pub forgotten_by : Bool → Option KeptMapping → PathEnd → PathEnd
forgotten_by checksums None e = e
forgotten_by checksums (Some kept) e =
    if is_wrong checksums kept e.tcp then record e { tcp = record e.tcp { recv = after_forget_from kept.pos e.tcp.recv } } else e

-- where the check fails at the edge, every octet from the mapping on is forgotten; else nothing changes
abbrev pub after_check : Profile → PathEnd → PathEnd
after_check c e = forgotten_by c.spelling.checksums (mapping_here e) e

-- ---- the next byte without a mapping

-- the copy has the byte at the edge, which has no mapping
abbrev pub is_unmapped : PathEnd → Bool
is_unmapped e =
    is_at e.tcp.recv.edge e.treated.held_edge && (not (receives_plainly e.modes e.tcp.recv.edge) && is_none (mapping_here e))

-- how often it came so, this copy among them
abbrev pub times_unmapped : PathEnd → ℕ
times_unmapped e = if e.receiving.unmapped_at == e.tcp.recv.edge then one_more e.receiving.unmapped else 1

-- the third time breaks the path of a side that is sure
abbrev pub breaks_by_unmapped : PathEnd → Bool
breaks_by_unmapped e = is_unmapped e && (is_sure e.modes.mode && nat_le 3 (times_unmapped e))

-- a copy whose byte at the edge has no mapping is counted
abbrev pub after_unmapped : PathEnd → PathEnd
after_unmapped e = record e {
  receiving = record e.receiving {
    unmapped = (if is_unmapped e then times_unmapped e else e.receiving.unmapped);
    unmapped_at = (if is_unmapped e then e.tcp.recv.edge else e.receiving.unmapped_at);
  };
}

-- ---- a DATA_FIN behind bytes

-- one end of the stream more that is to be told; three at most come together: two DATA_FINs alone, and one behind bytes
abbrev pub fins_and : Option ℕ → List ℕ → List ℕ
fins_and None fins = fins
fins_and (Some place) fins = if nat_lt (length fins) 3 then fins ++ place ∷ [] else fins

-- the DATA_FIN that the edge reached is told next, and waits no more
abbrev pub with_data_fin_reached : PathEnd → PathEnd
with_data_fin_reached e = record e {
  receiving = record e.receiving {
    mapped_data_fin = (if is_some (data_fin_reached e.receiving.mapped_data_fin e.tcp.recv.edge) then None else e.receiving.mapped_data_fin);
  };
  treated = record e.treated { fins = fins_and (data_fin_reached e.receiving.mapped_data_fin e.tcp.recv.edge) e.treated.fins };
}

-- no more bytes can be placed
abbrev pub after_pieces : PathEnd → PathEnd
after_pieces e = with_data_fin_reached (after_unmapped e)

-- ---- the edge

-- bytes or an end were told, so that what is to be acknowledged is to be asked
abbrev pub having_asked : PathEnd → PathEnd
having_asked e = record e { treated = record e.treated { asked = true } }

-- the reassembly book is to place the bytes
abbrev pub piece_ask : Side → Option Piece → Ask
piece_ask s None = asks.Local steps.End
piece_ask s (Some piece) = asks.Reassembly s (reassembly_calls.Place piece.place piece.octets)

abbrev pub is_placed : Reply → Bool
is_placed (replies.Reassembly (reassembly_replies.Placed count)) = true
is_placed _ = false

-- what the book refuses breaks the path
abbrev pub refused : {C : Type 0} → Side → PathState C → PathState C
refused s p = goes_on s (having_asked (end_at s p)) (breaks s 1) p

-- the edge is behind them, and the duty stays where it is
abbrev pub placed : {C : Type 0} → Side → Piece → PathState C → PathState C
placed s piece p = goes_on s (having_asked (after_piece piece (end_at s p))) p.agenda p

-- what was placed is behind the edge, and the next bytes follow
abbrev pub answered_piece : {C : Type 0} → Side → Option Piece → Bool → PathState C → PathState C
answered_piece s (Some piece) taken p = if taken then placed s piece p else refused s p
answered_piece s None taken p = refused s p

abbrev pub piece_of : {C : Type 0} → Side → PathState C → Option Piece
piece_of s p = next_piece p.profile (end_at s p)

-- ---- the payload that is held

-- B drops the payload of a copy with an option, as long as it has neither both keys nor fell back
abbrev pub is_dropped : Side → PathEnd → Bool
is_dropped s e = not (is_side_a s) && (not (e.modes.clear || e.modes.identity) && e.treated.has_option)

-- behind the peer's FIN nothing is kept
abbrev pub is_not_kept : Side → PathEnd → Bool
is_not_kept s e = is_dropped s e || is_fin_passed e.tcp

-- the payload that is held is kept or dropped
abbrev pub after_keep : Side → PathEnd → PathEnd
after_keep s e = record e {
  tcp = (if is_dropped s e then after_dropping_held e.tcp else after_keeping_held e.tcp);
  treated = record e.treated { held_edge = (if is_not_kept s e then None else e.treated.held_edge) };
}
