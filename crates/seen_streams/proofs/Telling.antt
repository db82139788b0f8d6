-- A rule that is told, and the parts of a stream and a lane that a call changes.
use Rattle.std.proofs.Common.{◌≡◌, refl, ap, ◌∙◌, sym, ℕ, Bool, true, false, ◌||◌, ◌==◌, if◌then◌else◌, Option, None, List, [], ◌∷◌, ◌++◌, map}
use Rattle.std.proofs.Math.Path.{fun_ext}
use Rattle.std.specs.Option.{option_or}
use Rattle.std.specs.List.{list_any}
use Rattle.first_runs.specs.declared.run.Run.{Run}
use Rattle.first_runs.specs.Runs.{Told, told_by}
use Rattle.seen_octets.specs.declared.octet.Octet.{Octet}
use Rattle.seen_octets.specs.Octets.{octet_by}
use Rattle.judge_rules.specs.declared.broken.Broken.{Broken}
use Rattle.judge_rules.specs.Broken.{is_of_rule, told_first}
use Rattle.judge_rules.specs.declared.finding.Rule.{Rule}
use Rattle.judge_rules.specs.declared.finding.Rule.TheVariants as rule
use Rattle.judge_rules.specs.Rules.{rule_number}
use Rattle.seen_streams.specs.State.{LaneValue, StreamValue, BrokenValue, empty_lane, empty_stream, is_of, same_rule, tell_found, with_broken}
use Rattle.seen_streams.specs.Shows.{LaneKept, StreamKept, as_broken, lane_of, stream_of}
use Rattle.seen_streams.specs.Mapped.{started, with_places}
use Rattle.seen_streams.specs.Content.{PayloadValue, content_fault, is_between, shown, with_payload}

-- ---- rules that were broken
any_as : (rule : Rule) (broken : List Broken) → list_any (same_rule rule) (map as_broken broken) ≡ list_any (is_of_rule rule) broken
any_as rule [] = refl
any_as rule (one ∷ broken) = ap (λ b. (rule_number one.rule == rule_number rule) || b) (any_as rule broken)

map_push : (broken : List Broken) (one : Broken) → map as_broken (broken ++ one ∷ []) ≡ map as_broken broken ++ as_broken one ∷ []
map_push [] one = refl
map_push (first ∷ broken) one = ap (λ (rest : List BrokenValue). as_broken first ∷ rest) (map_push broken one)

pub told_is : (fault : Broken) (broken : List Broken) → map as_broken (told_first fault broken) ≡ with_broken (as_broken fault) (map as_broken broken)
told_is fault broken =
    by (list_any (is_of_rule fault.rule) broken)
    ∙ ap (λ b. if b then map as_broken broken else map as_broken broken ++ as_broken fault ∷ []) (sym (any_as fault.rule broken))
  where
    by : (b : Bool) → map as_broken (if b then broken else broken ++ fault ∷ [])
        ≡ (if b then map as_broken broken else map as_broken broken ++ as_broken fault ∷ [])
    by true = refl
    by false = map_push broken fault

-- ---- what a call changes, place by place
pub same_starts : (stream : StreamValue) (place : ℕ) (starts : ℕ → Bool) → ((p : ℕ) → starts p ≡ (stream.starts p || is_of place 1 p))
    → record stream { starts = starts } ≡ started place stream
same_starts stream place starts h = ap (λ (f : ℕ → Bool). record stream { starts = f }) (fun_ext h)

pub same_places : (lane : LaneValue) (run : Run) (placed : ℕ → Option Told) → ((p : ℕ) → placed p ≡ option_or (lane.placed p) (told_by run p))
    → record lane { placed = placed } ≡ with_places run lane
same_places lane run placed h = ap (λ (f : ℕ → Option Told). record lane { placed = f }) (fun_ext h)

pub same_payload : (lane : LaneValue) (payload : PayloadValue) (packet top : ℕ) (octet : ℕ → Option Octet) (seen : ℕ → Bool)
    → ((p : ℕ) → octet p ≡ option_or (lane.octet p) (octet_by payload.from payload.held packet p))
    → ((p : ℕ) → seen p ≡ (lane.seen p || is_between payload.from payload.to p)) → top ≡ (with_payload payload packet lane).top
    → record lane { octet = octet; seen = seen; top = top } ≡ with_payload payload packet lane
same_payload lane payload packet top octet seen h k t =
    ap (λ (f : ℕ → Option Octet). record lane { octet = f; seen = seen; top = top }) (fun_ext h)
    ∙ ap (λ (f : ℕ → Bool). record (with_payload payload packet lane) { seen = f; top = top }) (fun_ext k)
    ∙ ap (λ (n : ℕ). record (with_payload payload packet lane) { top = n }) t

pub shown_kept : (acknowledged packet place count : ℕ) (part : List ℕ) (old told new : StreamValue)
    → told ≡ tell_found rule.PlaceContent packet (content_fault acknowledged old.octet place part) old
    → ((q : ℕ) → new.octet q ≡ option_or (told.octet q) (octet_by place part packet q))
    → ((q : ℕ) → new.seen q ≡ (told.seen q || is_of place count q)) → new ≡ record told { octet = new.octet; seen = new.seen }
    → new ≡ shown acknowledged packet place count part old
shown_kept acknowledged packet place count part old told new e h k is =
    is ∙ ap (λ (s : StreamValue). record s { octet = new.octet; seen = new.seen }) e
    ∙ ap (λ (f : ℕ → Option Octet). record (shown acknowledged packet place count part old) { octet = f; seen = new.seen })
    (fun_ext (λ q. h q ∙ ap (λ (s : StreamValue). option_or (s.octet q) (octet_by place part packet q)) e))
    ∙ ap (λ (f : ℕ → Bool). record (shown acknowledged packet place count part old) { seen = f })
    (fun_ext (λ q. k q ∙ ap (λ (s : StreamValue). s.seen q || is_of place count q) e))

-- ---- nothing was sent
pub empty_lane_of : (lane : LaneKept) → lane ≡ record {
  octets = record { octets = []; runs = [] };
  seen = [];
  places = [];
  line = None;
  top = 1;
  fin = None;
  acknowledged = 0;
  summed = [];
  waiting = [];
} → lane_of lane ≡ empty_lane
empty_lane_of lane is = ap lane_of is

pub empty_stream_of : (stream : StreamKept) → stream ≡ record {
  broken = [];
  keys = 0;
  joins = 0;
  mappings = 0;
  sums = 0;
  data_acks = 0;
  octets = record { octets = []; runs = [] };
  seen = [];
  top = 0;
  fin = None;
  acknowledged = 0;
  starts = [];
  infinite = None;
} → stream_of stream ≡ empty_stream
empty_stream_of stream is = ap stream_of is
