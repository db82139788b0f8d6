-- What a DSS says on data: the mapping of a piece, that of the DATA_FIN, an infinite one (RFC 8684, sections 3.3.1, 3.3.3 and
-- 3.7).
use Rattle.std.specs.Prelude.{ℕ, ◌+◌, ◌-◌, ◌%◌, Bool, ◌==◌, ◌&&◌, ◌^◌, not, false, nat_le, if◌then◌else◌, List, Option, [], Some, ◌∷◌, None, length}
use Rattle.sides.specs.declared.side.Side.{Side}
use Rattle.seq_units.specs.declared.mapping.Mapping.{Mapping}
use Rattle.path_segments.specs.Spelling.{whole_number}
use Rattle.path_segments.specs.Options.{relative_number, PlainOption}
use Rattle.dss_checksum.specs.Checksum.{dss_checksum}
use Rattle.path_segments.specs.declared.segment.PathOption.TheVariants.{Dss, Fail, Capable}
use Rattle.path_segments.specs.declared.segment.PathMapping.TheVariants.{Infinite, End, Bytes}
use Rattle.path_store.specs.declared.infinite_mapping.InfiniteMapping.{InfiniteMapping}
use Rattle.path_segments.specs.declared.segment.PathMapping.{PathMapping}
use Rattle.subflow_send.specs.Records.{Record}
use Rattle.mptcp_options.specs.declared.capable.CapableKeys.TheVariants.{WithData}
use Rattle.path_core.specs.Profile.{Profile}
use Rattle.path_core.specs.End.{PathEnd}
use Rattle.path_core.specs.declared.modes.Modes.{Modes}
use Rattle.path_core.specs.Modes.{receives_infinite}
use Rattle.path_core.specs.Choices.{is_side_a}

-- ---- mappings

-- of these bytes, from this place and this position on, before there is a checksum
abbrev pub bare_mapping : Profile → Side → ℕ → ℕ → ℕ → Mapping
bare_mapping c s place position len = record {
  number = whole_number c.spelling s place;
  relative = relative_number position;
  length = len;
  checksum = 0;
}

-- where checksums are used, that of the mapping and its bytes (RFC 8684, section 3.3.1)
abbrev pub checksum_in : Profile → Mapping → List ℕ → ℕ
checksum_in c mapping octets = if c.spelling.checksums then dss_checksum mapping octets else 0

-- the mapping that a granted piece has for ever
abbrev pub mapping_of : Profile → Side → ℕ → ℕ → List ℕ → Mapping
mapping_of c s place position octets =
    record (bare_mapping c s place position (length octets)) {
      checksum = checksum_in c (bare_mapping c s place position (length octets)) octets;
    }

-- the place that the first number of a mapping stands for
abbrev pub place_numbered : Profile → Side → ℕ → ℕ
place_numbered c s number = (number + (2 ^ 64 - whole_number c.spelling s 0)) % 2 ^ 64

-- a checksum stands in an option exactly where checksums are used
abbrev pub checksum_told : Profile → ℕ → Option ℕ
checksum_told c checksum = if c.spelling.checksums then Some checksum else None

-- ---- plain TCP

-- a segment with an infinite mapping is acknowledged
abbrev pub is_reached : Option ℕ → ℕ → Bool
is_reached None una = false
is_reached (Some to) una = nat_le to una

-- the end owes its infinite mapping until a segment that has it is acknowledged
abbrev pub owes_mapping : PathEnd → Bool
owes_mapping e = e.modes.owes_mapping && not (is_reached e.modes.mapped_to e.tcp.send.una)

-- on data and FIN after a fallback: the infinite mapping from this position on, as long as it is owed (RFC 8684, section 3.7)
abbrev pub plain_options : ℕ → PathEnd → List PlainOption
plain_options position e = if owes_mapping e then Dss None (Some (Infinite (position - 1) position)) ∷ [] else []

-- ---- after the peer's MP_FAIL

-- on data and FIN: the infinite mapping, as long as it is owed
abbrev pub infinite_options : InfiniteMapping → PathEnd → List PlainOption
infinite_options mapping e =
    Dss (Some e.receiving.next) (if owes_mapping e then Some (Infinite mapping.place mapping.position) else None) ∷ []

-- the options with the infinite mapping, or else those that an end has without one
abbrev pub infinite_or : Option InfiniteMapping → List PlainOption → PathEnd → List PlainOption
infinite_or None options e = options
infinite_or (Some mapping) options e = infinite_options mapping e

-- the mapping of a DATA_FIN without data: relative number 0 and length 1 (RFC 8684, section 3.3.3)
abbrev pub data_fin_mapping : Profile → Side → Option ℕ → Option (PathMapping ℕ)
data_fin_mapping c s None = None
data_fin_mapping c s (Some place) = Some (End place (checksum_told c (checksum_in c (bare_mapping c s place 0 1) [])))

-- the check of the mapping at this place of the peer's stream failed (RFC 8684, section 3.7)
abbrev pub fail_options : Option ℕ → List PlainOption
fail_options None = []
fail_options (Some place) = Fail place ∷ []

-- a failed check is told by each acknowledgement that has no DATA_FIN, until the peer's infinite mapping came
abbrev pub fail_beside : Option ℕ → Modes → List PlainOption
fail_beside (Some fin) m = []
fail_beside None m = fail_options (if receives_infinite m.mode then None else m.failed_mapping)

-- the mapping that a piece was granted with
abbrev pub piece_mapping : Profile → Side → Record → PathMapping ℕ
piece_mapping c s r =
    Bytes (place_numbered c s r.mapping.number) r.pos r.mapping.length false (checksum_told c r.mapping.checksum)

-- until A may send a DSS its first piece carries both keys
abbrev pub is_first_piece : Side → Record → PathEnd → Bool
is_first_piece s r e = is_side_a s && (not e.modes.clear && r.pos == 1)

-- MP_CAPABLE with both keys, and the data's length and checksum (RFC 8684, section 3.1); nothing without the peer's key
abbrev pub first_piece_options : Profile → Option ℕ → Record → PathEnd → List PlainOption
first_piece_options c (Some peer) r e =
    Capable c.spelling.checksums false (WithData e.modes.own_key peer r.mapping.length (checksum_told c r.mapping.checksum)) ∷ []
first_piece_options c None r e = []

-- on a piece with a mapping of its own: MP_CAPABLE on A's first one, else a DSS with the Data ACK and the mapping
abbrev pub mapped_options : Profile → Side → Record → PathEnd → List PlainOption
mapped_options c s r e =
    if is_first_piece s r e then first_piece_options c e.modes.peer_key r e
    else Dss (Some e.receiving.next) (Some (piece_mapping c s r)) ∷ []

-- on a piece, by how the end sends: in plain TCP, by its infinite mapping, or with the piece's own mapping
abbrev pub piece_options : Profile → Side → Record → PathEnd → List PlainOption
piece_options c s r e =
    if e.modes.identity then plain_options r.pos e else infinite_or e.modes.own_infinite (mapped_options c s r e) e

-- on the FIN at this position
abbrev pub fin_options : ℕ → PathEnd → List PlainOption
fin_options position e =
    if e.modes.identity then plain_options position e
    else infinite_or e.modes.own_infinite (Dss (Some e.receiving.next) None ∷ []) e
