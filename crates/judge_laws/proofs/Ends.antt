-- Where a stream ends.
use Rattle.std.proofs.Common.{◌≡◌, refl, ℕ, ◌<◌, ◌≤◌, Bool, false, Option, Some, None, option_map, List, arith}
use Rattle.sides.specs.declared.side.Side.{Side}
use Rattle.capture_reader.specs.Captured.{Captured}
use Rattle.judge_rules.specs.declared.acks.ToldPlace.{ToldPlace}
use Rattle.judge_rules.specs.declared.finding.Rule.TheVariants as rule
use Rattle.seen_octets.specs.declared.octet.Octet.{Octet}
use Rattle.seen_streams.specs.State.{LaneValue, StreamValue}
use Rattle.rule_book.specs.Facts.{first_of}
use Rattle.judge_laws.specs.Ends.{EndsAt}
use Rattle.judge_laws.specs.GoesOn.{broke, stream_in}
use Rattle.judge_laws.specs.Behind.{judged_first}
use Rattle.judge_laws.specs.Laws.{IsBrought}
use Rattle.judge_laws.proofs.Below.{Below, ended_alone, moves_below, nothing_below, steps, telling}
use Rattle.judge_laws.proofs.Packets.{brought_stays}
use Rattle.judge_laws.proofs.Positions.{at_so}
use Rattle.judge_laws.proofs.Standing.{Stands}
use Rattle.judge_laws.proofs.Throughout.{stream_stands}

below_stands : Stands (λ (first : Option ℕ) (s : StreamValue) (l : LaneValue). Below s l)
below_stands = record {
  empty = λ first. nothing_below;
  telling = λ first l. telling l;
  at = λ facts position options keys peers s l h. at_so facts position options keys peers s l (steps (first_of facts.side keys)) h;
  alone = λ first other s l h. ended_alone s l h;
  moves = λ first s later l goes alone h. moves_below s later l goes alone h;
  known = λ first s l h. h;
}

pub ends_streams : (at : Option Side) (check_sums : Bool) (packets : List Captured) (connection : ℕ) (side : Side) (stream : StreamValue)
    → stream_in (judged_first at check_sums packets) connection side ≡ Some stream → stream.infinite ≡ None
    → (fin : ToldPlace) → stream.fin ≡ Some fin → EndsAt stream fin.place
ends_streams at check_sums packets connection side stream there none fin is =
    let below = (stream_stands below_stands at check_sums packets connection side stream there None none).0 in
    let end : stream.top ≤ fin.place = below.ends fin is in
    record {
      mapped = end;
      seen = λ place h. let lo : place < stream.top = below.places place h in omega (arith, lo, end);
      octets = λ place octet h. let lo : place < stream.top = below.octets place octet h in omega (arith, lo, end);
    }

-- an octet that is known
some_octet : (octet : Option Octet) (o : ℕ) → option_map (λ held. held.octet) octet ≡ Some o → (x : Octet) × (octet ≡ Some x)
some_octet (Some x) o h = (x, refl)
some_octet None o h = cc

pub before_ends : (at : Option Side) (check_sums : Bool) (packets : List Captured) (connection : ℕ) (side : Side) (stream : StreamValue)
    → stream_in (judged_first at check_sums packets) connection side ≡ Some stream → stream.infinite ≡ None
    → (fin : ToldPlace) → stream.fin ≡ Some fin → broke rule.PlaceContent stream ≡ false
    → (place octet : ℕ) → IsBrought at check_sums packets connection side place octet → place < fin.place
before_ends at check_sums packets connection side stream there none fin is kept place octet brought =
    let held = some_octet (stream.octet place) octet (brought_stays at check_sums packets connection side place octet brought stream there kept) in
    (ends_streams at check_sums packets connection side stream there none fin is).octets place held.0 held.1
