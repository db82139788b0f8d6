-- The timer of an end is settled as a lane's is, its timeout is a second or more, and its flight is small.
use Rattle.clean_finish.proofs.Words.{◌≡◌, refl, ℕ, ◌+◌, ◌-◌, ◌<◌, ◌≤◌, Bool, true, false, cond, ◌||◌, if◌then◌else◌, Option, None, List, [], ◌∷◌, length, map}
use Rattle.clean_finish.proofs.Words.{All, arith, Some, is_none, sum_by, All-head, All-tail, Record, Tile, span_of, is_unsent, acknowledged_in}
use Rattle.clean_finish.proofs.Words.{octets_under_way, measured, tick_or, seen_timer, SettlesAsALane, IsLong, StaysLong, IsPiece, FlightsAreSmall}
use Rattle.std.proofs.lemmas.List.Sums.{sum_by-cons}
use Rattle.loss_recovery.specs.declared.timers.Timing.{Timing}
use Rattle.subflow_send.specs.Records.{Follow}

pub settles_as_a_lane : SettlesAsALane
settles_as_a_lane reason restart now t = by reason (t.news || restart) t.timer
  where
    by : (runs news : Bool) (o : Option ℕ)
        → (if runs then (if is_none o || news then Some (now + t.rtt.rto) else o) else None)
        ≡ cond runs (Some (tick_or (now + t.rtt.rto) (seen_timer news o))) None
    by false news o = refl
    by true true None = refl
    by true true (Some x) = refl
    by true false None = refl
    by true false (Some x) = refl

pub stays_long : StaysLong
stays_long = record {
  first = omega arith;
  heard = λ t long. long;
  measured = by;
  settled = λ reason restart now t long. long;
  stopped = λ t long. long;
}
  where
    by : (since : Option ℕ) (now : ℕ) (t : Timing) → IsLong t → IsLong (measured since now t)
    by None now t long = long
    by (Some first) now t long = omega arith

under_way_within : (una : ℕ) (r : Record) → octets_under_way una r ≤ length r.piece
under_way_within una r = by (is_unsent r)
  where
    by : (unsent : Bool) → (if unsent then 0 else length r.piece - acknowledged_in una r) ≤ length r.piece
    by true = omega arith
    by false = omega arith

-- records that follow one another have no more octets under way than positions
follow_small : (una payload from to : ℕ) (rs : List Record) → Follow from to (map span_of rs) → All (IsPiece payload) rs
    → sum_by (octets_under_way una) rs + from ≤ to
follow_small una payload from to [] f pieces = omega (arith, f)
follow_small una payload from to (r ∷ rs) f pieces =
    let rest = follow_small una payload (span_of r).1 to rs f.2 (All-tail (IsPiece payload) r rs pieces) in
    let piece = All-head (IsPiece payload) r rs pieces in
    omega (arith, f.0, piece, rest, under_way_within una r, sum_by-cons (octets_under_way una) r rs)

tile_small : (payload una nxt : ℕ) (rs : List Record) → Tile una nxt (map span_of rs) → All (IsPiece payload) rs
    → sum_by (octets_under_way una) rs + una < nxt + payload + 1
tile_small payload una nxt [] t pieces = omega (arith, t)
tile_small payload una nxt (r ∷ rs) t pieces =
    let rest = follow_small una payload _ nxt rs t.2 (All-tail (IsPiece payload) r rs pieces) in
    let piece = All-head (IsPiece payload) r rs pieces in
    omega (arith, t.1, piece, rest, under_way_within una r, sum_by-cons (octets_under_way una) r rs)

pub flights_are_small : FlightsAreSmall
flights_are_small payload v tile pieces = tile_small payload v.una v.nxt v.records tile pieces
