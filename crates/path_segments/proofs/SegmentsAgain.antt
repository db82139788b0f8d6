-- A segment that was written, heard again.
use Rattle.std.proofs.Common.{◌≡◌, refl, ◌∙◌, ap, ℕ, ◌<◌, ◌≤◌, ◌^◌, Bool, true, false, Option, Some, None, is_some, option_map, unwrap_or, length, arith}
use Rattle.std.specs.Prelude.{IfSome, if◌then◌else◌}
use Rattle.std.specs.Result.{result_ok}
use Rattle.sides.specs.declared.side.Side.{Side}
use Rattle.sides.specs.declared.side.Side.TheVariants.{A, B}
use Rattle.sides.specs.Side.{peer}
use Rattle.segment_wire.specs.Segment.{CanWrite, IsHead}
use Rattle.segment_wire.proofs.Again.{segment_meaning-written}
use Rattle.segment_wire.specs.Paths.{addresses_from, address_of, port_of}
use Rattle.path_segments.specs.declared.expected.Expected.{Expected}
use Rattle.path_segments.specs.declared.spelling.Spelling.{Spelling}
use Rattle.path_segments.specs.Spelling.{subflow_number}
use Rattle.path_segments.specs.Spelled.{PlainSegment, CanSay, window_field, spelled_head, spelled}
use Rattle.path_segments.specs.Heard.{position_or, number_means, window_heard, heard_segment}
use Rattle.path_segments.specs.declared.position.HeardPosition.TheVariants.{At}
use Rattle.path_segments.specs.HeardLent.{IsExpected}
use Rattle.path_segments.specs.Laws.{IsPositionFresh, IsFresh, IsHeardAsMeant, window_told, meant}
use Rattle.path_segments.proofs.Carried.{carried}
use Rattle.path_segments.proofs.NumbersAgain.{position_again}
use Rattle.path_segments.proofs.ListsAgain.{options_again, mss_again}

pub four : (path : ℕ) (side : Side) → length (address_of path side) ≡ 4
four path A = refl
four path B = refl

port-fits : (path : ℕ) (side : Side) → path ≤ 15 → port_of path side < 2 ^ 16
port-fits path A few = omega arith
port-fits path B few = omega arith

window-fits : (syn : Bool) (window : ℕ) → window ≤ 2 ^ 20 → window_field syn window < 2 ^ 16
window-fits true window few = omega arith
window-fits false window few = omega arith

ack-fits : (spelling : Spelling) (side : Side) (position : Option ℕ)
    → unwrap_or (option_map (subflow_number spelling side) position) 0 < 2 ^ 32
ack-fits spelling side None = omega arith
ack-fits spelling side (Some position) = omega arith

module _ (spelling : Spelling) (from : Side) (s : PlainSegment) (can : CanSay spelling from s) where
  head-fits : IsHead (spelled_head spelling from s)
  head-fits = record {
    source_port = port-fits spelling.path from can.path;
    destination_port = port-fits spelling.path (peer from) can.path;
    seq = omega arith;
    ack = ack-fits spelling (peer from) s.acknowledged;
    window = window-fits s.syn s.window can.window;
  }

  pub written : CanWrite (spelled spelling from s)
  unfolding spelled
  written = record { head = head-fits; carried = carried spelling from s can _ s.payload refl refl }

pub window_again : (syn : Bool) (window : ℕ) → window_heard syn (window_field syn window) ≡ window_told syn window
window_again true window = refl
window_again false window = refl

module _ (spelling : Spelling) (from : Side) (expected : ℕ) where
  pub ack_again : (position : Option ℕ) → IfSome position (IsPositionFresh expected)
      → (if is_some position
      then Some (number_means spelling from expected (unwrap_or (option_map (subflow_number spelling from) position) 0)) else None)
      ≡ option_map (λ n. At n) position
  ack_again None fresh = refl
  ack_again (Some position) fresh = ap (λ n. Some (position_or (subflow_number spelling from position) n)) (position_again spelling from expected position fresh)

module _ (spelling : Spelling) (from : Side) (expected : Expected) (s : PlainSegment)
    (can : CanSay spelling from s) (is : IsExpected expected) (fresh : IsFresh spelling from expected s) where
  segment_again : heard_segment spelling from expected (spelled spelling from s) ≡ meant s
  unfolding spelled
  segment_again =
      rw (
        position_again spelling from expected.edge s.position fresh.position,
        ack_again spelling (peer from) expected.unacknowledged s.acknowledged fresh.acknowledged,
        window_again s.syn s.window,
        mss_again spelling from expected is s fresh.syn fresh.mss,
        options_again spelling from expected is s can.options fresh.options,
      ) refl

pub heard_as_meant : IsHeardAsMeant
heard_as_meant spelling from expected s can is fresh =
    ap (λ r. option_map (heard_segment spelling from expected) (result_ok r))
    (segment_meaning-written (addresses_from spelling.path from) (spelled spelling from s)
    (four spelling.path from) (four spelling.path (peer from)) (written spelling from s can))
    ∙ ap (λ t. Some t) (segment_again spelling from expected s can is fresh)
