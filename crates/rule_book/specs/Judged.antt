-- What a segment leaves, by all rules in their order.
use Rattle.std.specs.Prelude.{ℕ, Bool, true, false, not, ◌||◌, nat_lt, if◌then◌else◌, Option, Some, None, List, [], ◌∷◌, ◌++◌, length}
use Rattle.std.proofs.Math.ListN.{set}
use Rattle.std.specs.List.{slice_get}
use Rattle.sides.specs.declared.side.Side.{Side}
use Rattle.sides.specs.declared.side.Side.TheVariants.{A, B}
use Rattle.sides.specs.Side.{peer}
use Rattle.capture_reader.specs.Seen.{Seen}
use Rattle.judge_rules.specs.declared.finding.Finding.TheVariants.{Number32}
use Rattle.judge_rules.specs.declared.finding.Rule.TheVariants as rule
use Rattle.seen_connections.specs.declared.flow.Belongs.{Belongs}
use Rattle.seen_connections.specs.declared.flow.Flow.{Flow}
use Rattle.seen_connections.specs.declared.flow.Opened.{Opened}
use Rattle.seen_connections.specs.declared.connections.Keys.{Keys}
use Rattle.seen_connections.specs.declared.connections.Place.{Place}
use Rattle.seen_connections.specs.declared.connections.WrongToken.{WrongToken}
use Rattle.seen_connections.specs.Connections.{SeenFlows, Taken, learnt, nothing_seen, taken}
use Rattle.seen_connections.specs.SameEnds.{same_end}
use Rattle.seen_connections.specs.SeenOptions.{SeenValue, seen_options}
use Rattle.seen_streams.specs.State.{Found, empty_lane, empty_stream, tell}
use Rattle.rule_book.specs.Facts.{Facts}
use Rattle.rule_book.specs.Signals.{KeyedValue, judged_options, told_formless}
use Rattle.rule_book.specs.State.{BookValue, LanesValue, JudgedValue, stream_at, with_stream}
use Rattle.rule_book.specs.Stream.{Left, judged_positions}

abbrev pub empty_book : BookValue
empty_book = record { a = empty_stream; b = empty_stream; gaps = 0 }

abbrev pub empty_lanes : LanesValue
empty_lanes = record { opener = empty_lane; other = empty_lane }

abbrev pub nothing_judged : JudgedValue
nothing_judged = record { seen = nothing_seen; books = []; lanes = [] }

-- ---- a segment of a flow whose connection is known

-- what it leaves, and the keys that are known then
pub record Told : Type 0 where
  pub left : Left
  pub keys : Keys

abbrev pub judged_keyed : Facts → KeyedValue → Left → Told
judged_keyed facts made left = record {
  left = judged_positions facts made.options made.keys (record left { book = with_stream facts.side made.stream left.book });
  keys = made.keys;
}

-- where the flow is open
abbrev pub judged_opened : Facts → List SeenValue → Keys → Left → Told
judged_opened facts options keys left =
    judged_keyed facts (judged_options facts options (record { options = []; keys = keys; stream = stream_at facts.side left.book })) left

abbrev pub side_of : Flow → Belongs → Seen → Side
side_of flow belongs seen = if same_end seen.source flow.opener then belongs.opener else peer belongs.opener

abbrev pub is_at : Option Side → Side → Bool
is_at (Some A) A = true
is_at (Some B) B = true
is_at _ _ = false

-- the facts of a segment in an open flow, without what came in plain TCP
abbrev pub opened_facts : Option Side → ℕ → Seen → ℕ → Flow → Opened → Side → Facts
opened_facts at packet seen index flow opened side = record {
  packet = packet;
  seen = seen;
  index = index;
  flow = flow;
  opened = opened;
  side = side;
  is_opener = same_end seen.source flow.opener;
  at_sender = is_at at side;
  plain = 0;
}

-- behind the rule `form`, which is tried before the flow is open, too
abbrev pub judged_formed : Option Side → ℕ → Seen → ℕ → Flow → Option Opened → Side → List SeenValue → Keys → Left → Told
judged_formed at packet seen index flow None side options keys left = record { left = left; keys = keys }
judged_formed at packet seen index flow (Some opened) side options keys left =
    judged_opened (opened_facts at packet seen index flow opened side) options keys left

abbrev pub judged_side : Option Side → ℕ → Seen → ℕ → Flow → Side → Keys → Left → Told
judged_side at packet seen index flow side keys left = by (seen_options keys.checksums seen.segment.options)
  where
    by : List SeenValue → Told
    by options = judged_formed at packet seen index flow flow.opened side options keys
        (record left { book = with_stream side (told_formless packet options (stream_at side left.book)) left.book })

abbrev pub judged_flow : Option Side → ℕ → Seen → ℕ → Flow → Belongs → Keys → Left → Told
judged_flow at packet seen index flow belongs keys left =
    judged_side at packet seen index flow (side_of flow belongs seen) keys left

-- ---- the next segment of a capture

-- one more where there are fewer than so many
abbrev pub grown_to : {A : Type 0} → ℕ → A → List A → List A
grown_to count one items = if nat_lt (length items) count then items ++ one ∷ [] else items

-- a book for each connection, lanes for each flow
abbrev pub grown : SeenFlows → JudgedValue → JudgedValue
grown seen judged = record {
  seen = seen;
  books = grown_to (length seen.connections) empty_book judged.books;
  lanes = grown_to (length seen.flows) empty_lanes judged.lanes;
}

-- `token`: the SYN of a join named no key, though its SYN/ACK shows whose it is
abbrev pub token_told : WrongToken → BookValue → BookValue
token_told wrong book = with_stream wrong.belongs.opener
    (tell rule.Token wrong.packet (Found (Number32 wrong.expected wrong.was)) (stream_at wrong.belongs.opener book)) book

abbrev pub token_in : Option BookValue → WrongToken → List BookValue → List BookValue
token_in None wrong books = books
token_in (Some book) wrong books = set books wrong.belongs.connection (token_told wrong book)

abbrev pub books_told : WrongToken → List BookValue → List BookValue
books_told wrong books = token_in (slice_get books wrong.belongs.connection) wrong books

abbrev pub with_wrong_token : Option WrongToken → JudgedValue → JudgedValue
with_wrong_token None judged = judged
with_wrong_token (Some wrong) judged = record judged { books = books_told wrong judged.books }

-- A's key, where a segment told it
abbrev pub with_key : ℕ → Option ℕ → Option ℕ → SeenFlows → SeenFlows
with_key connection None (Some a) seen = learnt seen connection a
with_key connection _ _ seen = seen

abbrev pub put_back : ℕ → ℕ → Keys → Told → JudgedValue → JudgedValue
put_back index connection before told judged = record {
  seen = with_key connection before.a told.keys.a judged.seen;
  books = set judged.books connection told.left.book;
  lanes = set judged.lanes index told.left.lanes;
}

-- what is known of a segment's flow and connection
abbrev pub judged_known : Option Side → ℕ → Seen → ℕ → Flow → Belongs → Option Keys → Option BookValue → Option LanesValue → JudgedValue → JudgedValue
judged_known at packet seen index flow belongs (Some keys) (Some book) (Some lanes) judged =
    put_back index belongs.connection keys
    (judged_flow at packet seen index flow belongs keys (record { book = book; lanes = lanes })) judged
judged_known _ _ _ _ _ _ _ _ _ judged = judged

abbrev pub judged_belonging : Option Side → ℕ → Seen → ℕ → Flow → Option Belongs → JudgedValue → JudgedValue
judged_belonging at packet seen index flow None judged = judged
judged_belonging at packet seen index flow (Some belongs) judged =
    judged_known at packet seen index flow belongs (slice_get judged.seen.connections belongs.connection)
    (slice_get judged.books belongs.connection) (slice_get judged.lanes index) judged

abbrev pub judged_in_flow : Option Side → ℕ → Seen → ℕ → Option Flow → JudgedValue → JudgedValue
judged_in_flow at packet seen index None judged = judged
judged_in_flow at packet seen index (Some flow) judged = judged_belonging at packet seen index flow flow.belongs judged

abbrev pub judged_by_flow : Option Side → ℕ → Seen → ℕ → JudgedValue → JudgedValue
judged_by_flow at packet seen index judged = judged_in_flow at packet seen index (slice_get judged.seen.flows index) judged

abbrev pub judged_place : Option Side → ℕ → Seen → Option Place → JudgedValue → JudgedValue
judged_place at packet seen None judged = judged
judged_place at packet seen (Some place) judged = judged_by_flow at packet seen place.flow (with_wrong_token place.wrong_token judged)

abbrev pub judged_taken : Option Side → ℕ → Seen → Taken → JudgedValue → JudgedValue
judged_taken at packet seen taken judged = judged_place at packet seen taken.place (grown taken.now judged)

-- A segment of a packet: of one whose sum is bad nothing but its flow's count is changed, unless sums aren't checked.
abbrev pub judged : Option Side → Bool → JudgedValue → ℕ → Seen → JudgedValue
judged at check_sums state packet seen =
    judged_taken at packet seen (taken state.seen packet seen (seen.has_good_sum || not check_sums)) state
