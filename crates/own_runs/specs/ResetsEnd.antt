-- What an end sends once it sent a reset.
use Rattle.std.specs.Prelude.{◌≡◌, ◌<◌, ℕ, true, Some, List}
use Rattle.std.specs.List.{slice_get}
use Rattle.link_trace.specs.declared.sent.Sent.{Sent}
use Rattle.path_core.specs.Octets.{made}
use Rattle.path_segments.specs.Spelled.{PlainSegment}
use Rattle.path_segments.specs.declared.spelling.Spelling.{Spelling}
use Rattle.run_trace.specs.Trace.{trace_of}
use Rattle.sides.specs.declared.side.Side.TheVariants.{B}
use Rattle.world_laws.specs.Openings.{Start, opened_world}
use Rattle.world_laws.specs.Promises.{HasRoom, NumbersFit}
use Rattle.world_laws.specs.Worlds.{Turn}

-- The segments of a trace, as they were made. Behind a SYN of B's and a reset of a side on its path that side sends resets alone there (RFC 9293,
-- section 3.10.7.1). Before it B refuses a join by a reset, and listens on.
pub record ResetsEnd (trace : List Sent) : Type 0 where
  pub segment : (i : ℕ) (x : Sent) → slice_get trace i ≡ Some x → PlainSegment
  pub octets : (i : ℕ) (x : Sent) (there : slice_get trace i ≡ Some x) → (spelling : Spelling) × (x.octets ≡ made spelling x.from (segment i x there))
  pub ends : (i k j : ℕ) (x z y : Sent) (at_i : slice_get trace i ≡ Some x) (at_k : slice_get trace k ≡ Some z) (at_j : slice_get trace j ≡ Some y)
      → j < k → k < i → y.path ≡ x.path → y.from ≡ B → (segment j y at_j).syn ≡ true
      → z.path ≡ x.path → z.from ≡ x.from → (segment k z at_k).rst ≡ true → (segment i x at_i).rst ≡ true

-- of each run, whatever its script does
abbrev pub EachResetEnds : Type 0
EachResetEnds = (start : Start) (turns : List Turn) → HasRoom start → NumbersFit start → ResetsEnd (trace_of turns (opened_world start))
