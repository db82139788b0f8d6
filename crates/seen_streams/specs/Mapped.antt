-- The rules `mapping`, `infinite` and `data-fin`, on the mappings of a segment in their order, and what is learnt of them.
use Rattle.std.specs.Prelude.{ℕ, ℤ, pos, ◌+◌, ◌-◌, ◌-ℤ◌, Bool, true, false, ◌&&◌, ◌||◌, ◌==◌, int_lt, max, if◌then◌else◌, Option, Some, None, List, [], ◌∷◌, ◌++◌}
use Rattle.std.specs.Int.{from_bool}
use Rattle.std.specs.Option.{option_or}
use Rattle.std.specs.Ordering.{int_eq}
use Rattle.first_runs.specs.declared.run.Run.{Run}
use Rattle.first_runs.specs.Runs.{told_by}
use Rattle.judge_rules.specs.declared.acks.ToldPlace.{ToldPlace}
use Rattle.judge_rules.specs.declared.finding.Finding.{Finding}
use Rattle.judge_rules.specs.declared.finding.Finding.TheVariants.{NoPlace, NoPosition, AfterInfinite}
use Rattle.judge_rules.specs.declared.finding.Rule.{Rule}
use Rattle.judge_rules.specs.declared.finding.Rule.TheVariants as rule
use Rattle.judge_rules.specs.declared.mappings.Line.{Line}
use Rattle.judge_rules.specs.declared.mappings.Offer.{Offer}
use Rattle.judge_rules.specs.Clashes.{first_clash}
use Rattle.judge_rules.specs.Mappings.{after_line, elsewhere, fin_fault, mapped_octets, mapped_place, natural, position_near}
use Rattle.judge_rules.specs.Numbers.{place_near, told_number}
use Rattle.seen_streams.specs.declared.told.Broke.{Broke}
use Rattle.seen_streams.specs.declared.told.Infinite.{Infinite}
use Rattle.seen_streams.specs.declared.told.Teller.{Teller}
use Rattle.seen_streams.specs.declared.told.ToldMapping.{ToldMapping}
use Rattle.seen_streams.specs.State.{LaneValue, StreamValue, Found, counted, is_of, tell}

-- the sender's stream and lane behind the mappings that a segment told, those of them that were learnt, and whether an infinite one was
pub record Mapped : Type 0 where
  pub stream : StreamValue
  pub lane : LaneValue
  pub learnt : List ToldMapping
  pub has_line : Bool

-- how many octets it maps: the DATA_FIN counts as one of its length
abbrev pub octets_of : ToldMapping → ℕ
octets_of mapping = mapping.length - from_bool mapping.fin

-- ---- what breaks a rule

-- against an infinite mapping (section 3.7), on its own subflow and on others
abbrev pub against_line : Option Line → ℤ → ℕ → ℕ → Bool
against_line None position place octets = false
against_line (Some line) position place octets = after_line line position place octets

abbrev pub goes_on : Infinite → ℕ → ℕ → Option Line → ℤ → ℕ → ℕ → Bool
goes_on infinite flow top line position place octets =
    if infinite.flow == flow then against_line line position place octets else elsewhere top infinite.place (place + octets)

abbrev pub against_infinite : Option Infinite → ℕ → ℕ → Option Line → ℤ → ℕ → ℕ → Option Finding
against_infinite None flow top line position place octets = None
against_infinite (Some infinite) flow top line position place octets =
    if goes_on infinite flow top line position place octets then Some (AfterInfinite position place infinite.packet) else None

abbrev pub by_rule : Rule → Option Finding → Option Broke
by_rule which None = None
by_rule which (Some finding) = Some (record { rule = which; finding = finding })

-- what a mapping of octets breaks, from a position on that isn't below 0
abbrev pub placed_fault : Teller → StreamValue → LaneValue → ℕ → ℕ → ℕ → Option Broke
placed_fault teller stream lane position place octets =
    option_or (by_rule rule.Mapping (first_clash lane.placed position place octets))
    (by_rule rule.Infinite (against_infinite stream.infinite teller.flow stream.top lane.line (pos position) place octets))

abbrev pub octets_fault : Teller → StreamValue → LaneValue → Offer → ℤ → ℕ → Option Broke
octets_fault teller stream lane offer position place =
    if mapped_octets offer == 0 then None
    else (if int_lt position (pos 0) then Some (record { rule = rule.Mapping; finding = NoPosition offer.relative })
    else placed_fault teller stream lane (natural position) place (mapped_octets offer))

-- what a finite mapping breaks, where it has a place
abbrev pub finite_fault : Teller → StreamValue → LaneValue → Offer → ℤ → ℕ → Option Broke
finite_fault teller stream lane offer position place =
    option_or (octets_fault teller stream lane offer position place)
    (by_rule rule.DataFin (fin_fault stream.fin stream.top (place + mapped_octets offer) offer.fin))

-- ---- what is learnt

-- the positions of a mapping, with their places
abbrev pub run_of : ℕ → ToldMapping → Run
run_of packet mapping = record {
  from = natural mapping.position;
  to = natural mapping.position + octets_of mapping;
  image = mapping.place;
  teller = packet;
}

-- of each position the first mapping stays
abbrev pub with_places : Run → LaneValue → LaneValue
with_places run lane = record lane { placed = λ p. option_or (lane.placed p) (told_by run p) }

abbrev pub fin_after : Option ToldPlace → Bool → ℕ → ℕ → Option ToldPlace
fin_after (Some told) fin end packet = Some told
fin_after None true end packet = Some (record { place = end; packet = packet })
fin_after None false end packet = None

-- the stream with a place with which a mapping begins
abbrev pub started : ℕ → StreamValue → StreamValue
started place stream = record stream { starts = λ p. stream.starts p || is_of place 1 p }

-- the stream behind a finite mapping
abbrev pub mapped_to : ℕ → ToldMapping → StreamValue → StreamValue
mapped_to packet mapping stream = record stream {
  top = max stream.top (mapping.place + octets_of mapping);
  fin = fin_after stream.fin mapping.fin (mapping.place + octets_of mapping) packet;
}

abbrev pub with_mapping : ℕ → ToldMapping → StreamValue → StreamValue
with_mapping packet mapping stream = mapped_to packet mapping (started mapping.place stream)

-- a finite mapping that holds
abbrev pub finite_learnt : ℕ → ToldMapping → Mapped → Mapped
finite_learnt packet mapping state = record state {
  stream = with_mapping packet mapping state.stream;
  lane = with_places (run_of packet mapping) state.lane;
  learnt = state.learnt ++ mapping ∷ [];
}

abbrev pub told_mapping : Offer → ℤ → ℕ → ToldMapping
told_mapping offer position place =
    record { place = place; position = position; length = offer.length; checksum = offer.checksum; fin = offer.fin }

abbrev pub broken_by : ℕ → Broke → Mapped → Mapped
broken_by packet broke state = record state { stream = tell broke.rule packet (Found broke.finding) state.stream }

abbrev pub finite_by : Option Broke → ℕ → ToldMapping → Mapped → Mapped
finite_by (Some broke) packet mapping state = broken_by packet broke state
finite_by None packet mapping state = finite_learnt packet mapping state

abbrev pub without_place : ℕ → Offer → Mapped → Mapped
without_place packet offer state =
    broken_by packet (record { rule = rule.Mapping; finding = NoPlace (told_number offer.number) }) state

abbrev pub finite_at : Option ℕ → Teller → Offer → ℤ → Mapped → Mapped
finite_at None teller offer position state = without_place teller.packet offer state
finite_at (Some place) teller offer position state =
    finite_by (finite_fault teller state.stream state.lane offer position place) teller.packet (told_mapping offer position place) state

abbrev pub one_more : Mapped → Mapped
one_more state = record state { stream = record state.stream { mappings = counted state.stream.mappings } }

abbrev pub finite : Teller → Offer → ℤ → Mapped → Mapped
finite teller offer position state =
    finite_at (mapped_place teller.first state.stream.top offer) teller offer position (one_more state)

-- ---- an infinite mapping

-- place less position is that of the line, on the same subflow
abbrev pub agrees : Infinite → ℕ → Option Line → ℤ → ℕ → Bool
agrees infinite flow None position place = false
agrees infinite flow (Some line) position place =
    infinite.flow == flow && int_eq (pos place -ℤ position) (pos line.place -ℤ line.position)

-- the line begins at the lowest position told on it
abbrev pub lowest_line : Option Line → ℤ → ℕ → Line
lowest_line None position place = record { position = position; place = place }
lowest_line (Some line) position place = if int_lt position line.position then record { position = position; place = place } else line

abbrev pub infinite_after : Option Infinite → Teller → ℕ → Infinite
infinite_after None teller place = record { flow = teller.flow; packet = teller.packet; place = place }
infinite_after (Some infinite) teller place = record infinite { place = place }

abbrev pub with_line : Teller → ℕ → Line → Mapped → Mapped
with_line teller place line state = record state {
  stream = record (started place state.stream) { infinite = Some (infinite_after state.stream.infinite teller line.place) };
  lane = record state.lane { line = Some line };
  has_line = true;
}

abbrev pub infinite_learnt : Teller → ℤ → ℕ → Mapped → Mapped
infinite_learnt teller position place state = with_line teller place (lowest_line state.lane.line position place) state

-- what an infinite mapping breaks, after another one
abbrev pub line_fault : Option Infinite → ℕ → Option Line → ℤ → ℕ → Option Finding
line_fault None flow line position place = None
line_fault (Some infinite) flow line position place =
    if agrees infinite flow line position place then None else Some (AfterInfinite position place infinite.packet)

abbrev pub infinite_by : Option Finding → Teller → ℤ → ℕ → Mapped → Mapped
infinite_by (Some finding) teller position place state = broken_by teller.packet (record { rule = rule.Infinite; finding = finding }) state
infinite_by None teller position place state = infinite_learnt teller position place state

abbrev pub infinite_at : Option ℕ → Teller → Offer → ℤ → Mapped → Mapped
infinite_at None teller offer position state = without_place teller.packet offer state
infinite_at (Some place) teller offer position state =
    infinite_by (line_fault state.stream.infinite teller.flow state.lane.line position place) teller position place state

-- ---- a mapping of a segment at a position

abbrev pub mapped_at : Teller → Offer → ℤ → Mapped → Mapped
mapped_at teller offer position state =
    if offer.length == 0 then infinite_at (place_near teller.first state.stream.top offer.number) teller offer position state
    else finite teller offer position state

abbrev pub mapped_by : Teller → ℕ → Offer → Mapped → Mapped
mapped_by teller position offer state = mapped_at teller offer (position_near position offer.relative) state
