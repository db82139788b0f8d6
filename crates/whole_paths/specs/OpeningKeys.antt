-- Until A may send a DSS its segments show both keys (RFC 8684, section 3.1).
use Rattle.std.specs.Prelude.{ℕ, ◌≡◌, Bool, true, false, Option, Some, IfSome, List, ◌∷◌}
use Rattle.sides.specs.declared.side.Side.TheVariants.{A}
use Rattle.mptcp_options.specs.declared.capable.CapableKeys.TheVariants.{Both, WithData}
use Rattle.path_segments.specs.Options.{PlainOption}
use Rattle.path_segments.specs.Spelled.{PlainSegment}
use Rattle.path_segments.specs.declared.segment.PathMapping.{PathMapping}
use Rattle.path_segments.specs.declared.segment.PathOption.TheVariants.{Capable, Dss}
use Rattle.subflow_tcp.specs.declared.segments.Outgoing.{Outgoing}
use Rattle.path_core.specs.End.{PathEnd}
use Rattle.path_core.specs.Looking.{first_sends, segment_sent}
use Rattle.path_core.specs.State.{PathState, end_at}

-- what a segment of A's end shows, where B's key is this one
pub data ShowsKeys (key : ℕ) (e : PathEnd) (x : PlainSegment) : Type 0 where
  -- both keys, A's first: on an acknowledgement, or on the first piece
  bare : (flag_a flag_c : Bool) (others : List PlainOption) → x.options ≡ Capable flag_a flag_c (Both e.modes.own_key key) ∷ others → ShowsKeys key e x
  with_data : (flag_a flag_c : Bool) (len : ℕ) (checksum : Option ℕ) (others : List PlainOption)
      → x.options ≡ Capable flag_a flag_c (WithData e.modes.own_key key len checksum) ∷ others
      → ShowsKeys key e x
  -- a DSS: on a piece behind the first one, a FIN or a notice
  dss : (next : ℕ) (mapping : Option (PathMapping ℕ)) (others : List PlainOption) → x.options ≡ Dss (Some next) mapping ∷ others → ShowsKeys key e x
  -- the segment has a SYN, is a reset, or the one by which a dead end answers a copy, or refuses it
  opens : x.syn ≡ true → ShowsKeys key e x
  resets : x.rst ≡ true → ShowsKeys key e x
  refuses : (answer : Outgoing) → e.treated.answer ≡ Some answer → x.rst ≡ answer.rst → ShowsKeys key e x

-- of the segment that A's end is to send next, where it knows B's key, may send no DSS yet, owes no third MP_JOIN, and didn't fall back to
-- plain TCP
abbrev pub EachSegmentShowsKeys : Type 0 → Type 0
EachSegmentShowsKeys C = (p : PathState C) → IfSome (first_sends p.agenda p) (λ t. t.from ≡ A → (key : ℕ) → (end_at t.from p).modes.peer_key ≡ Some key
    → (end_at t.from p).modes.clear ≡ false → (end_at t.from p).modes.identity ≡ false → (end_at t.from p).modes.owes_third ≡ false
    → ShowsKeys key (end_at t.from p) (segment_sent p t))
