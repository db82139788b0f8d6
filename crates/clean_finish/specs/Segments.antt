-- What goes over a path of which no line speaks: each segment by the numbers of the two lanes in which it stands.
use Rattle.std.specs.Prelude.{ℕ, ◌≡◌, ◌+◌, ◌-◌, ◌≤◌, min, Bool, true, false, not, Option, Some, None, List, [], ◌∷◌, length}
use Rattle.sides.specs.declared.side.Side.{Side}
use Rattle.sides.specs.declared.side.Side.TheVariants.{A, B}
use Rattle.sides.specs.Side.{peer}
use Rattle.link_model.specs.declared.flight.Flight.{Flight}
use Rattle.mptcp_options.specs.declared.capable.CapableKeys.TheVariants.{NoKey, Sender, Both, WithData}
use Rattle.path_segments.specs.declared.segment.PathOption.TheVariants.{Capable, Dss}
use Rattle.path_segments.specs.declared.segment.PathMapping.TheVariants as mapping
use Rattle.path_segments.specs.Laws.{window_told}
use Rattle.path_segments.specs.Options.{PlainOption}
use Rattle.path_segments.specs.Spelled.{PlainSegment}
use Rattle.actor_desk.specs.Words.{is_nil}
use Rattle.path_core.specs.DssOut.{mapping_of, bare_mapping, checksum_in, checksum_told}
use Rattle.path_core.specs.Profile.{Profile}
use Rattle.path_core.specs.Values.{Carried, carried_by}
use Rattle.pace.specs.Lane.{Telling, Copy}

-- What a segment brings, beside what it acknowledges: a SYN; A's keys, without bytes and with the first ones (RFC
-- 8684, section 3.1); bytes; nothing; a DATA_FIN at this place; a FIN.
pub data Brings : Type 0 where
  OpensSubflow : Brings
  ShowsKeys : Brings
  FirstPiece : List ℕ → Brings
  Piece : List ℕ → Brings
  Acknowledges : Brings
  EndsStream : ℕ → Brings
  EndsSubflow : Brings

-- a segment in the numbers of the lanes
pub record Sent : Type 0 where
  -- the tick of its arrival
  pub at : ℕ
  pub brings : Brings
  -- octets of the stream that were sent before it
  pub low : ℕ
  -- how many of SYN and FIN were sent, and how often the keys were shown, itself among them
  pub control : ℕ
  pub keys : ℕ
  -- what the segment tells of the other direction
  pub telling : Telling
  -- the window in octets that the segment tells, and the first position that its sender hadn't passed
  pub window : ℕ
  pub edge : ℕ

-- ---- in a lane

abbrev pub octets_of : Brings → List ℕ
octets_of (FirstPiece octets) = octets
octets_of (Piece octets) = octets
octets_of _ = []

abbrev pub is_subflow_end : Brings → Bool
is_subflow_end EndsSubflow = true
is_subflow_end _ = false

abbrev pub is_opening : Brings → Bool
is_opening OpensSubflow = true
is_opening _ = false

-- the segment shows both keys, and has no Data ACK for that: the third of the handshake, or a first piece
abbrev pub shows_keys : Brings → Bool
shows_keys ShowsKeys = true
shows_keys (FirstPiece octets) = true
shows_keys _ = false

abbrev pub is_third : Brings → Bool
is_third ShowsKeys = true
is_third _ = false

-- the segment brings bytes, a DATA_FIN or a FIN, or opens the subflow: taken after all that it says
abbrev pub is_news : Brings → Bool
is_news ShowsKeys = false
is_news Acknowledges = false
is_news _ = true

-- the segment brings a piece of the stream
abbrev pub is_piece : Brings → Bool
is_piece (FirstPiece octets) = true
is_piece (Piece octets) = true
is_piece _ = false

-- the segment is to be acknowledged
abbrev pub is_owed : Brings → Bool
is_owed Acknowledges = false
is_owed _ = true

-- 1 for a DATA_FIN
abbrev pub data_fin_of : Brings → ℕ
data_fin_of (EndsStream place) = 1
data_fin_of _ = 0

-- the segment brings bytes or a FIN
abbrev pub is_solid : Brings → Bool
is_solid (FirstPiece octets) = not (is_nil octets)
is_solid (Piece octets) = not (is_nil octets)
is_solid EndsSubflow = true
is_solid _ = false

-- the copy of a segment, the same in the lane of what it brings and in the lane of what it acknowledges
abbrev pub copy_in : Sent → Copy
copy_in x = record {
  at = x.at;
  low = x.low;
  high = x.low + length (octets_of x.brings);
  data_fin = data_fin_of x.brings;
  control = x.control;
  keys = x.keys;
  solid = is_solid x.brings;
  telling = x.telling;
}

-- ---- on the link

-- SYN and FIN occupy a position each, and count in `control` themselves
abbrev pub position_by : ℕ → Brings → ℕ
position_by next OpensSubflow = next - 1
position_by next EndsSubflow = next - 1
position_by next _ = next

abbrev pub position_of : Sent → ℕ
position_of x = position_by (x.low + x.control) x.brings

-- all but the SYN of the end that opens acknowledge
abbrev pub acknowledged_by : Side → Brings → ℕ → Option ℕ
acknowledged_by A OpensSubflow edge = None
acknowledged_by s brings edge = Some edge

-- the keys of both sides
pub record Keys : Type 0 where
  pub a : ℕ
  pub b : ℕ

-- on a SYN A asks for Multipath TCP, and B answers with its key (RFC 8684, section 3.1)
abbrev pub opening_options : Profile → Keys → Side → List PlainOption
opening_options c keys A = Capable c.spelling.checksums false NoKey ∷ []
opening_options c keys B = Capable c.spelling.checksums false (Sender keys.b) ∷ []

-- of a segment at this position, behind so many octets of the stream, with this Data ACK
abbrev pub options_by : Profile → Keys → Side → ℕ → ℕ → ℕ → Brings → List PlainOption
options_by c keys s position low next OpensSubflow = opening_options c keys s
options_by c keys s position low next ShowsKeys = Capable c.spelling.checksums false (Both keys.a keys.b) ∷ []
options_by c keys s position low next (FirstPiece octets) =
    Capable c.spelling.checksums false (WithData keys.a keys.b (length octets)
    (checksum_told c (mapping_of c s low position octets).checksum)) ∷ []
options_by c keys s position low next (Piece octets) =
    Dss (Some next) (Some (mapping.Bytes low position (length octets) false
    (checksum_told c (mapping_of c s low position octets).checksum))) ∷ []
options_by c keys s position low next Acknowledges = Dss (Some next) None ∷ []
options_by c keys s position low next (EndsStream place) =
    Dss (Some next) (Some (mapping.End place (checksum_told c (checksum_in c (bare_mapping c s place 0 1) [])))) ∷ []
options_by c keys s position low next EndsSubflow = Dss (Some next) None ∷ []

-- a SYN tells the maximum segment size
abbrev pub mss_by : Profile → Brings → Option ℕ
mss_by c OpensSubflow = Some c.mss
mss_by c _ = None

-- the segment as it is sent
abbrev pub said : Profile → Keys → Side → Sent → PlainSegment
said c keys s x = record {
  position = position_of x;
  acknowledged = acknowledged_by s x.brings x.edge;
  syn = is_opening x.brings;
  fin = is_subflow_end x.brings;
  rst = false;
  window = x.window;
  mss = mss_by c x.brings;
  options = options_by c keys s (position_of x) x.low x.telling.next x.brings;
  payload = octets_of x.brings;
}

-- the copy is this segment from this side, unstripped, on its way to the other one
pub record FliesAs (c : Profile) (keys : Keys) (from : Side) (f : Flight Carried) (x : Sent) : Type 0 where
  pub tick : f.tick ≡ x.at
  pub to : f.to ≡ peer from
  pub carried : f.carried ≡ carried_by c.spelling from (said c keys from x)

-- the copies under way are the segments from this side, one for one
abbrev pub FlyAs : Profile → Keys → Side → List (Flight Carried) → List Sent → Type 0
FlyAs c keys from [] [] = Unit {0}
FlyAs c keys from (f ∷ fs) (x ∷ xs) = FliesAs c keys from f x × FlyAs c keys from fs xs
FlyAs c keys from _ _ = ⊥

-- ---- what is told, and in which order

-- B's segments have a DSS from the keys on
abbrev pub dss_from : Side → ℕ
dss_from A = 0
dss_from B = 1

-- A SYN tells its window unshifted; what shows the keys has no Data ACK, so nothing more is told by it; the others tell
-- the Data ACK, and the window in steps of 32 octets.
abbrev pub TellsAs : ℕ → Side → ℕ → Telling → Brings → Type 0
TellsAs least s window t OpensSubflow =
    (t.next ≡ 0) × (t.edge ≡ least) × (t.seen ≡ dss_from s) × (t.dss ≡ 0) × (min 65535 window ≡ least)
TellsAs least s window t ShowsKeys = (t.next ≡ 0) × (t.edge ≡ least) × (t.seen ≡ 1) × (t.dss ≡ 0)
TellsAs least s window t (FirstPiece octets) = (t.next ≡ 0) × (t.edge ≡ least) × (t.seen ≡ 1) × (t.dss ≡ 0)
TellsAs least s window t _ = (t.edge ≡ t.next + window_told false window) × (1 ≤ t.seen) × (t.dss ≡ dss_from s)

-- how many of SYN and FIN were sent by it, and whether the keys were shown, after so many before
abbrev pub CountsAs : ℕ → ℕ → ℕ → ℕ → Brings → Type 0
CountsAs control keys control_then keys_then OpensSubflow = (control ≡ 0) × (control_then ≡ 1) × (keys_then ≡ 0)
CountsAs control keys control_then keys_then ShowsKeys = (control ≡ 1) × (control_then ≡ 1) × (keys ≡ 0) × (keys_then ≡ 1)
CountsAs control keys control_then keys_then (FirstPiece octets) =
    (control ≡ 1) × (control_then ≡ 1) × (keys_then ≡ 1) × (1 ≤ length octets) × (keys ≡ 1)
CountsAs control keys control_then keys_then (Piece octets) =
    (1 ≤ control) × (control_then ≡ control) × (keys_then ≡ keys) × (1 ≤ length octets)
CountsAs control keys control_then keys_then EndsSubflow = (control ≡ 1) × (control_then ≡ 2) × (keys_then ≡ keys)
CountsAs control keys control_then keys_then _ = (1 ≤ control) × (control_then ≡ control) × (keys_then ≡ keys)

-- a segment acknowledges a stream of `total` octets: its Data ACK isn't ahead of the position, and the FIN comes last
pub record AcknowledgesAs (total : ℕ) (x : Sent) : Type 0 where
  pub some : 1 ≤ x.edge
  pub bytes : min x.telling.next total ≤ x.edge - 1
  pub most : x.edge ≤ 1 + total + (x.telling.seen - 1)
  pub end : x.telling.seen ≡ 2 → total + 2 ≤ x.edge

-- the positions that they acknowledge only rise, from this one on
abbrev pub Rise : ℕ → List Sent → Type 0
Rise edge [] = Unit {0}
Rise edge (x ∷ xs) = (edge ≤ x.edge) × Rise x.edge xs

-- the last of them
abbrev pub edge_after : ℕ → List Sent → ℕ
edge_after edge [] = edge
edge_after edge (x ∷ xs) = edge_after x.edge xs

-- The end that opens the connection shows the keys before anything but its SYN, or with it.
abbrev pub ShowsFirst : Side → Sent → Type 0
ShowsFirst s x = s ≡ A → is_opening x.brings ≡ false → 1 ≤ x.keys

-- What shows the keys acknowledges the SYN alone, the first octets are shown with them, and a DATA_FIN has the place behind
-- all octets of the stream.
abbrev pub BringsAs : ℕ → ℕ → ℕ → Brings → Type 0
BringsAs own low edge ShowsKeys = edge ≡ 1
BringsAs own low edge (FirstPiece octets) = (edge ≡ 1) × (low ≡ 0)
BringsAs own low edge (EndsStream place) = place ≡ own
BringsAs own low edge _ = Unit {0}

-- Segments follow one another, after so many octets, SYN and FIN, and keys. They acknowledge a stream of `total`
-- octets, and are of one of `own`.
abbrev pub Follow : ℕ → ℕ → ℕ → Side → ℕ → ℕ → ℕ → List Sent → Type 0
Follow least total own s low control keys [] = Unit {0}
Follow least total own s low control keys (x ∷ xs) =
    (x.low ≡ low) × CountsAs control keys x.control x.keys x.brings × TellsAs least s x.window x.telling x.brings
    × (AcknowledgesAs total x × ShowsFirst s x × BringsAs own x.low x.edge x.brings) × Follow least total own s (low + length (octets_of x.brings)) x.control x.keys xs

-- after all of them so many octets, SYN and FIN, and keys were sent
abbrev pub low_after : ℕ → List Sent → ℕ
low_after low [] = low
low_after low (x ∷ xs) = low_after (low + length (octets_of x.brings)) xs

abbrev pub control_after : ℕ → List Sent → ℕ
control_after control [] = control
control_after control (x ∷ xs) = control_after x.control xs

abbrev pub keys_after : ℕ → List Sent → ℕ
keys_after keys [] = keys
keys_after keys (x ∷ xs) = keys_after x.keys xs
