-- What a segment leaves, step by step.
use Rattle.std.proofs.Common.{◌≡◌, refl, ap, ◌∙◌, sym, ℕ, ◌<◌, ◌≤◌, Bool, true, false, not, ◌||◌, if◌then◌else◌, Option, Some, None, List, [], map, length, get_or}
use Rattle.std.proofs.Math.ListN.{set}
use Rattle.std.proofs.lemmas.List.{map-set}
use Rattle.std.specs.List.{slice_get}
use Rattle.sides.specs.declared.side.Side.{Side}
use Rattle.sides.specs.declared.side.Side.TheVariants.{A, B}
use Rattle.sides.specs.Side.{peer}
use Rattle.mptcp_options.specs.Value.{OptionValue}
use Rattle.capture_reader.specs.Seen.{Seen}
use Rattle.seen_connections.specs.declared.connections.Keys.{Keys}
use Rattle.seen_connections.specs.declared.connections.Place.{Place}
use Rattle.seen_connections.specs.declared.connections.WrongToken.{WrongToken}
use Rattle.seen_connections.specs.declared.flow.Belongs.{Belongs}
use Rattle.seen_connections.specs.declared.flow.Flow.{Flow}
use Rattle.seen_connections.specs.declared.flow.Opened.{Opened}
use Rattle.seen_connections.specs.Connections.{SeenFlows, Taken, taken}
use Rattle.seen_connections.specs.SeenOptions.{SeenValue, seen_options}
use Rattle.seen_streams.specs.State.{LaneValue, StreamValue}
use Rattle.seen_streams.specs.Mapped.{Mapped}
use Rattle.seen_streams.specs.Acks.{Acked, ended_by_fin}
use Rattle.seen_streams.specs.Content.{PayloadValue, shown_all, with_payload}
use Rattle.seen_streams.specs.Positions.{position_of}
use Rattle.seen_streams.specs.Sums.{still_waiting, tried_sums, with_sums}
use Rattle.seen_streams.specs.declared.told.ToldMapping.{ToldMapping}
use Rattle.rule_book.specs.Facts.{Facts, first_of, own_base, own_lane, payload_at, peers_lane, with_own_lane}
use Rattle.rule_book.specs.Signals.{KeyedValue, judged_options, keyed_each, signalled, signalled_keyed, told_formless}
use Rattle.rule_book.specs.State.{BookValue, JudgedValue, LanesValue, book_of, stream_at, with_stream}
use Rattle.rule_book.specs.declared.book.Book.{Book}
use Rattle.rule_book.specs.Stream.{Left, acked_each, behind_acks, behind_payload, failed_each, fin_taken, gap_counted, judged_at, judged_by, judged_from, judged_positions, mapped_with, plain_beside, summed, with_judged, with_plain, within_each}
use Rattle.rule_book.specs.Judged.{Told, books_told, grown, judged, judged_formed, judged_keyed, judged_known, judged_opened, judged_place, judged_side, judged_taken, opened_facts, put_back, side_of, token_in, token_told}
use Rattle.rule_book.proofs.Growing.{item_is, none_there}

abbrev pub begun : StreamValue → LaneValue → Mapped
begun stream lane = record { stream = stream; lane = lane; learnt = []; has_line = false }

pub judged_by_steps : (facts : Facts) (position : ℕ) (options : List OptionValue) (keys : Keys) (peers stream : StreamValue) (lane taken : LaneValue)
    (own first : Option ℕ) (mapped : Mapped) (acknowledged : ℕ) (behind tried last : Acked)
    → taken ≡ fin_taken facts position lane → own ≡ first_of facts.side keys
    → mapped ≡ mapped_with facts own position options (record { stream = stream; lane = taken; learnt = []; has_line = false })
    → acknowledged ≡ peers.acknowledged → behind ≡ behind_payload facts position acknowledged mapped → tried ≡ summed facts own mapped.learnt behind
    → first ≡ first_of (peer facts.side) keys → last ≡ behind_acks facts first peers options tried
    → last ≡ judged_at facts position options keys peers stream lane
judged_by_steps facts position options keys peers stream lane taken own first mapped acknowledged behind tried last t o m a b s f l =
    let known = first_of facts.side keys in
    l ∙ ap (λ (x : Option ℕ). behind_acks facts x peers options tried) f
    ∙ ap (behind_acks facts (first_of (peer facts.side) keys) peers options)
    (s ∙ ap (λ (x : Option ℕ). summed facts x mapped.learnt behind) o
    ∙ ap (summed facts known mapped.learnt) (b ∙ ap (λ (x : ℕ). behind_payload facts position x mapped) a)
    ∙ ap (λ (x : Mapped). summed facts known x.learnt (behind_payload facts position peers.acknowledged x))
    (m ∙ ap (λ (x : Option ℕ). mapped_with facts x position options (begun stream taken)) o
    ∙ ap (λ (x : LaneValue). mapped_with facts known position options (begun stream x)) t))

pub nothing_learnt : (stream : StreamValue) (lane : LaneValue) (learnt : List ToldMapping) (has_line : Bool) → learnt ≡ [] → has_line ≡ false
    → record { stream = stream; lane = lane; learnt = learnt; has_line = has_line } ≡ begun stream lane
nothing_learnt stream lane learnt has_line n f =
    ap (λ (ms : List ToldMapping). let made : Mapped = record { stream = stream; lane = lane; learnt = ms; has_line = has_line } in made) n
    ∙ ap (λ (b : Bool). let made : Mapped = record { stream = stream; lane = lane; learnt = []; has_line = b } in made) f

abbrev acked : StreamValue → LaneValue → Acked
acked stream lane = record { stream = stream; lane = lane }

pub payload_by_steps : (facts : Facts) (position acknowledged : ℕ) (old : Mapped) (payload : PayloadValue) (within ended last : StreamValue) (lane : LaneValue)
    → payload ≡ payload_at facts position → within ≡ within_each facts position old.learnt old.stream → ended ≡ ended_by_fin old.lane facts.packet within
    → lane ≡ with_payload payload facts.packet old.lane → last ≡ shown_all payload acknowledged facts.packet (record old { stream = ended }) lane
    → record { stream = last; lane = lane } ≡ behind_payload facts position acknowledged old
payload_by_steps facts position acknowledged old payload within ended last lane p w e l s =
    let place = payload_at facts position in
    let judged : Mapped = record old { stream = ended_by_fin old.lane facts.packet (within_each facts position old.learnt old.stream) } in
    ap (λ (x : StreamValue). acked x lane)
    (s ∙ ap (λ (x : PayloadValue). shown_all x acknowledged facts.packet (record old { stream = ended }) lane) p
    ∙ ap (λ (x : StreamValue). shown_all place acknowledged facts.packet (record old { stream = x }) lane) (e ∙ ap (ended_by_fin old.lane facts.packet) w))
    ∙ ap (λ (x : LaneValue). acked (shown_all place acknowledged facts.packet judged x) x)
    (l ∙ ap (λ (x : PayloadValue). with_payload x facts.packet old.lane) p)

pub sums_by_steps : (facts : Facts) (first : ℕ) (learnt : List ToldMapping) (old : Acked) (added lane : LaneValue) (stream : StreamValue)
    → added ≡ with_sums facts.packet learnt old.lane → stream ≡ tried_sums facts.packet first added.octet added.waiting old.stream → lane ≡ still_waiting added
    → record { stream = stream; lane = lane } ≡ summed facts (Some first) learnt old
sums_by_steps facts first learnt old added lane stream a s l =
    ap (λ (x : StreamValue). acked x lane) s ∙ ap (acked (tried_sums facts.packet first added.octet added.waiting old.stream)) l
    ∙ ap (λ (x : LaneValue). acked (tried_sums facts.packet first x.octet x.waiting old.stream) (still_waiting x)) a

pub acks_by_steps : (facts : Facts) (first : ℕ) (peers : StreamValue) (options : List OptionValue) (old made : Acked) (stream : StreamValue)
    → made ≡ acked_each facts first peers options old → stream ≡ failed_each facts.packet first peers options made.stream
    → record { stream = stream; lane = made.lane } ≡ behind_acks facts (Some first) peers options old
acks_by_steps facts first peers options old made stream m s =
    ap (λ (x : StreamValue). acked x made.lane) s
    ∙ ap (λ (x : Acked). acked (failed_each facts.packet first peers options x.stream) x.lane) m

-- ---- a segment of a side, before its flow is open, and then
module _ (at : Option Side) (packet : ℕ) (seen : Seen) (index : ℕ) (flow : Flow) (side : Side) (keys : Keys) (left : Left) (options : List SeenValue) (book : BookValue)
    (read : options ≡ seen_options keys.checksums seen.segment.options)
    (formed : book ≡ with_stream side (told_formless packet options (stream_at side left.book)) left.book) where
  by_form : judged_formed at packet seen index flow flow.opened side options keys (record left { book = book }) ≡ judged_side at packet seen index flow side keys left
  by_form =
      ap (λ (b : BookValue). judged_formed at packet seen index flow flow.opened side options keys (record left { book = b })) formed
      ∙ ap (λ (os : List SeenValue). judged_formed at packet seen index flow flow.opened side os keys
      (record left { book = with_stream side (told_formless packet os (stream_at side left.book)) left.book })) read

  pub side_closed : (told : Told) → flow.opened ≡ None → told ≡ record { left = record left { book = book }; keys = keys }
      → told ≡ judged_side at packet seen index flow side keys left
  side_closed told closed is =
      is ∙ sym (ap (λ (o : Option Opened). judged_formed at packet seen index flow o side options keys (record left { book = book })) closed) ∙ by_form

  pub side_opened : (told : Told) (opened : Opened) → flow.opened ≡ Some opened
      → told ≡ judged_opened (opened_facts at packet seen index flow opened side) options keys (record left { book = book })
      → told ≡ judged_side at packet seen index flow side keys left
  side_opened told opened there is =
      is ∙ sym (ap (λ (o : Option Opened). judged_formed at packet seen index flow o side options keys (record left { book = book })) there) ∙ by_form

-- ---- a segment of an open flow
abbrev told : Left → Keys → Told
told left keys = record { left = left; keys = keys }

pub opened_by_steps : (facts : Facts) (options : List SeenValue) (keys : Keys) (old last : Left) (none : List OptionValue) (known : Keys) (made : KeyedValue) (book : BookValue)
    → none ≡ [] → known ≡ keys → made ≡ judged_options facts options (record { options = none; keys = known; stream = stream_at facts.side old.book })
    → book ≡ with_stream facts.side made.stream old.book → last ≡ judged_positions facts made.options made.keys (record old { book = book })
    → record { left = last; keys = made.keys } ≡ judged_opened facts options keys old
opened_by_steps facts options keys old last none known made book n k m b l =
    ap (λ (x : Left). told x made.keys) (l ∙ ap (λ (x : BookValue). judged_positions facts made.options made.keys (record old { book = x })) b)
    ∙ ap (λ (x : KeyedValue). judged_keyed facts x old)
    (m ∙ ap (λ (os : List OptionValue). judged_options facts options (record { options = os; keys = known; stream = stream_at facts.side old.book })) n
    ∙ ap (λ (x : Keys). judged_options facts options (record { options = []; keys = x; stream = stream_at facts.side old.book })) k)

-- ---- a segment that isn't a SYN, from a position on
abbrev left_of : BookValue → LanesValue → Left
left_of book lanes = record { book = book; lanes = lanes }

same_stream : (side : Side) (book : BookValue) (gaps : ℕ) → stream_at side (record book { gaps = gaps }) ≡ stream_at side book
same_stream A book gaps = refl
same_stream B book gaps = refl

pub from_by_steps : (facts : Facts) (position : ℕ) (options : List OptionValue) (keys : Keys) (old : Left) (plain : ℕ) (counted book : BookValue) (lane : LaneValue)
    (lanes : LanesValue)
    → counted ≡ (gap_counted facts old).book → plain ≡ plain_beside options facts.flow.opening (stream_at (peer facts.side) counted) (peers_lane facts old.lanes)
    → record { stream = stream_at facts.side book; lane = lane } ≡ judged_at (record facts { plain = plain }) position options keys (stream_at (peer facts.side) counted) (stream_at facts.side counted) (own_lane facts old.lanes)
    → book ≡ with_stream facts.side (stream_at facts.side book) counted → lanes ≡ with_own_lane facts lane old.lanes
    → record { book = book; lanes = lanes } ≡ judged_by facts position options keys old
from_by_steps facts position options keys old plain counted book lane lanes g p j b l =
    let before : Left = gap_counted facts old in
    let made : Acked = record { stream = stream_at facts.side book; lane = lane } in
    let peers : stream_at (peer facts.side) counted ≡ stream_at (peer facts.side) old.book =
    ap (stream_at (peer facts.side)) g ∙ same_stream (peer facts.side) old.book before.book.gaps in
    let own : stream_at facts.side counted ≡ stream_at facts.side old.book = ap (stream_at facts.side) g ∙ same_stream facts.side old.book before.book.gaps in
    let is : made ≡ judged_at (with_plain options old facts) position options keys (stream_at (peer facts.side) old.book) (stream_at facts.side old.book) (own_lane facts old.lanes) =
    j ∙ ap (λ (n : ℕ). judged_at (record facts { plain = n }) position options keys (stream_at (peer facts.side) counted) (stream_at facts.side counted) (own_lane facts old.lanes))
    (p ∙ ap (λ (s : StreamValue). plain_beside options facts.flow.opening s (peers_lane facts old.lanes)) peers)
    ∙ ap (λ (s : StreamValue). judged_at (with_plain options old facts) position options keys s (stream_at facts.side counted) (own_lane facts old.lanes)) peers
    ∙ ap (λ (s : StreamValue). judged_at (with_plain options old facts) position options keys (stream_at (peer facts.side) old.book) s (own_lane facts old.lanes)) own in
    ap (λ (x : BookValue). left_of x lanes) (b ∙ ap (with_stream facts.side made.stream) g) ∙ ap (λ (x : LanesValue). left_of (with_stream facts.side made.stream before.book) x) l
    ∙ ap (λ (x : Acked). with_judged facts x before) is

-- ---- a segment by its place
pub taken_by_steps : (at : Option Side) (check_sums : Bool) (state : JudgedValue) (packet : ℕ) (seen : Seen) (now : SeenFlows) (place : Option Place) (good : Bool) (grew last : JudgedValue)
    → record { now = now; place = place } ≡ taken state.seen packet seen good → good ≡ (seen.has_good_sum || not check_sums) → grew ≡ grown now state
    → last ≡ judged_place at packet seen place grew → last ≡ judged at check_sums state packet seen
taken_by_steps at check_sums state packet seen now place good grew last t g m l =
    l ∙ ap (judged_place at packet seen place) m
    ∙ ap (λ (x : Taken). judged_taken at packet seen x state) (t ∙ ap (λ (b : Bool). taken state.seen packet seen b) g)

pub known_by_steps : (at : Option Side) (packet : ℕ) (seen : Seen) (index : ℕ) (flow : Flow) (belongs : Belongs) (keys : Keys) (old : JudgedValue) (book : BookValue)
    (lanes : LanesValue) (side : Side) (told : Told) (new : JudgedValue)
    → slice_get old.books belongs.connection ≡ Some book → slice_get old.lanes index ≡ Some lanes → side ≡ side_of flow belongs seen
    → told ≡ judged_side at packet seen index flow side keys (record { book = book; lanes = lanes }) → new ≡ put_back index belongs.connection keys told old
    → new ≡ judged_known at packet seen index flow belongs (Some keys) (slice_get old.books belongs.connection) (slice_get old.lanes index) old
known_by_steps at packet seen index flow belongs keys old book lanes side told new b l s t is =
    is ∙ ap (λ (x : Told). put_back index belongs.connection keys x old)
    (t ∙ ap (λ (x : Side). judged_side at packet seen index flow x keys (record { book = book; lanes = lanes })) s)
    ∙ sym (ap (λ (o : Option BookValue). judged_known at packet seen index flow belongs (Some keys) o (slice_get old.lanes index) old) b
    ∙ ap (λ (o : Option LanesValue). judged_known at packet seen index flow belongs (Some keys) (Some book) o old) l)

-- no book, or no lanes
pub no_book : (at : Option Side) (packet : ℕ) (seen : Seen) (index : ℕ) (flow : Flow) (belongs : Belongs) (keys : Keys) (state : JudgedValue) (book : Option BookValue)
    (lanes : Option LanesValue) → book ≡ None → state ≡ judged_known at packet seen index flow belongs (Some keys) book lanes state
no_book at packet seen index flow belongs keys state book lanes e =
    sym (ap (λ (o : Option BookValue). judged_known at packet seen index flow belongs (Some keys) o lanes state) e)

pub no_lanes : (at : Option Side) (packet : ℕ) (seen : Seen) (index : ℕ) (flow : Flow) (belongs : Belongs) (keys : Keys) (state : JudgedValue) (book : Option BookValue)
    (lanes : Option LanesValue) → lanes ≡ None → state ≡ judged_known at packet seen index flow belongs (Some keys) book lanes state
no_lanes at packet seen index flow belongs keys state None lanes e = refl
no_lanes at packet seen index flow belongs keys state (Some book) lanes e =
    sym (ap (λ (o : Option LanesValue). judged_known at packet seen index flow belongs (Some keys) (Some book) o state) e)

-- ---- a token that was wrong
pub token_there : (wrong : WrongToken) (items : List Book) (old new default : Book) → wrong.belongs.connection < length items
    → old ≡ get_or items wrong.belongs.connection default → book_of new ≡ token_told wrong (book_of old)
    → map book_of (set items wrong.belongs.connection new) ≡ books_told wrong (map book_of items)
token_there wrong items old new default within is told =
    map-set book_of items wrong.belongs.connection new ∙ ap (set (map book_of items) wrong.belongs.connection) told
    ∙ sym (ap (λ (o : Option BookValue). token_in o wrong (map book_of items)) (item_is book_of items wrong.belongs.connection old default within is))

pub token_nowhere : (wrong : WrongToken) (items : List Book) → length items ≤ wrong.belongs.connection → map book_of items ≡ books_told wrong (map book_of items)
token_nowhere wrong items past =
    sym (ap (λ (o : Option BookValue). token_in o wrong (map book_of items)) (none_there book_of items wrong.belongs.connection past))

-- ---- the rules on keys, and then those on HMACs
pub stream_by_steps : (facts : Facts) (options : List SeenValue) (old made : KeyedValue) (stream : StreamValue) → made ≡ keyed_each facts options old
    → stream ≡ signalled facts made.keys made.options made.stream → record made { stream = stream } ≡ judged_options facts options old
stream_by_steps facts options old made stream m s = ap (λ (x : StreamValue). record made { stream = x }) s ∙ ap (signalled_keyed facts) m

-- ---- a segment that is a SYN, that has no position, and others
pub syn_left : (facts : Facts) (options : List OptionValue) (keys : Keys) (left : Left) → facts.seen.segment.head.syn ≡ true
    → left ≡ judged_positions facts options keys left
syn_left facts options keys left syn =
    sym (ap (λ (b : Bool). if b then left else judged_from facts
    (position_of (own_base facts) (own_lane facts left.lanes) facts.seen.segment.head.seq facts.seen.payload_len) options keys left) syn)

behind_syn : (facts : Facts) (options : List OptionValue) (keys : Keys) (left : Left) (position : Option ℕ) → facts.seen.segment.head.syn ≡ false
    → position ≡ position_of (own_base facts) (own_lane facts left.lanes) facts.seen.segment.head.seq facts.seen.payload_len
    → judged_from facts position options keys left ≡ judged_positions facts options keys left
behind_syn facts options keys left position syn is =
    ap (λ (o : Option ℕ). judged_from facts o options keys left) is
    ∙ sym (ap (λ (b : Bool). if b then left else judged_from facts
    (position_of (own_base facts) (own_lane facts left.lanes) facts.seen.segment.head.seq facts.seen.payload_len) options keys left) syn)

pub no_position : (facts : Facts) (options : List OptionValue) (keys : Keys) (left : Left) → facts.seen.segment.head.syn ≡ false
    → None ≡ position_of (own_base facts) (own_lane facts left.lanes) facts.seen.segment.head.seq facts.seen.payload_len
    → left ≡ judged_positions facts options keys left
no_position facts options keys left syn is = behind_syn facts options keys left None syn is

pub from_position : (facts : Facts) (options : List OptionValue) (keys : Keys) (left last : Left) (position : ℕ) → facts.seen.segment.head.syn ≡ false
    → Some position ≡ position_of (own_base facts) (own_lane facts left.lanes) facts.seen.segment.head.seq facts.seen.payload_len
    → last ≡ judged_by facts position options keys left → last ≡ judged_positions facts options keys left
from_position facts options keys left last position syn is made = made ∙ behind_syn facts options keys left (Some position) syn is
