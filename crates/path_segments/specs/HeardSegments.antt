-- A segment that is heard and lent, by its value.
use Rattle.std.specs.Prelude.{ℕ, ◌≤◌, Option, List, length}
use Rattle.std.specs.Borrow.{Bor}
use Rattle.segment_wire.specs.OptionFront.{octets_alone, options_left}
use Rattle.path_segments.specs.declared.position.HeardPosition.{HeardPosition}
use Rattle.path_segments.specs.declared.segment.PathSegment.{PathSegment}
use Rattle.path_segments.specs.declared.segment.PathOption.{PathOption}
use Rattle.path_segments.specs.declared.heard.HeardOptions.{HeardOptions}
use Rattle.path_segments.specs.Heard.{HeardSegment, heard_options}
use Rattle.path_segments.specs.HeardLent.{IsLow}

-- the options that an iterator has still to give
abbrev pub heard_left : HeardOptions → List (PathOption (Option ℕ) (List ℕ))
heard_left o = heard_options o.spelling o.from o.expected (octets_alone (options_left o.left))

-- a segment whose options and payload are lists
abbrev pub heard_value : PathSegment HeardPosition HeardOptions (Bor (List ℕ)) → HeardSegment
heard_value s = record {
  position = s.position;
  acknowledged = s.acknowledged;
  syn = s.syn;
  fin = s.fin;
  rst = s.rst;
  window = s.window;
  mss = s.mss;
  options = heard_left s.options;
  payload = s.payload.now;
}

-- what octets say has a payload that fits behind a header of 20 octets in a segment, and a position below 2^63
pub record IsHeardShort {O : Type 0} (s : PathSegment HeardPosition O (List ℕ)) : Type 0 where
  pub payload : length s.payload ≤ 65515
  pub position : IsLow s.position
