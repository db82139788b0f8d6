-- What a segment leaves: each stream goes on.
use Rattle.std.proofs.Common.{◌≡◌, refl, ℕ, Bool, true, false, not, ◌||◌, if◌then◌else◌, Option, Some, None, List, []}
use Rattle.std.specs.List.{slice_get}
use Rattle.sides.specs.declared.side.Side.{Side}
use Rattle.sides.specs.Side.{peer}
use Rattle.mptcp_options.specs.Value.{OptionValue}
use Rattle.capture_reader.specs.Seen.{Seen}
use Rattle.judge_rules.specs.declared.finding.Finding.TheVariants.{Number32}
use Rattle.judge_rules.specs.declared.finding.Rule.TheVariants as rule
use Rattle.seen_connections.specs.declared.flow.Belongs.{Belongs}
use Rattle.seen_connections.specs.declared.flow.Flow.{Flow}
use Rattle.seen_connections.specs.declared.flow.Opened.{Opened}
use Rattle.seen_connections.specs.declared.connections.Keys.{Keys}
use Rattle.seen_connections.specs.declared.connections.Place.{Place}
use Rattle.seen_connections.specs.declared.connections.WrongToken.{WrongToken}
use Rattle.seen_connections.specs.Connections.{Taken, taken}
use Rattle.seen_connections.specs.SeenOptions.{SeenValue, seen_options}
use Rattle.seen_streams.specs.State.{Found}
use Rattle.seen_streams.specs.Positions.{position_of}
use Rattle.rule_book.specs.Facts.{Facts, own_base, own_lane}
use Rattle.rule_book.specs.Signals.{KeyedValue, judged_options, told_formless}
use Rattle.rule_book.specs.State.{BookValue, JudgedValue, LanesValue, stream_at, with_stream}
use Rattle.rule_book.specs.Stream.{Left, gap_counted, judged_at, judged_by, judged_from, judged_positions, with_plain}
use Rattle.rule_book.specs.Judged.{empty_book, grown, judged, judged_belonging, judged_by_flow, judged_flow, judged_formed, judged_in_flow, judged_known, judged_opened, judged_place, judged_taken, opened_facts, side_of, token_in, token_told, with_wrong_token}
use Rattle.judge_laws.proofs.GoesOn.{goes_tell}
use Rattle.judge_laws.proofs.Going.{options_go, told_formless_goes}
use Rattle.judge_laws.proofs.Positions.{at_goes}
use Rattle.judge_laws.proofs.Books.{BookGoes, BooksGo, book_same, book_then, books_grown, books_same, books_set, books_then, counted_goes, stream_goes}

-- ---- a book, behind a segment of its connection

by_goes : (facts : Facts) (position : ℕ) (options : List OptionValue) (keys : Keys) (left : Left) → BookGoes left.book (judged_by facts position options keys left).book
by_goes facts position options keys left =
    counted_goes facts.side (judged_at (with_plain options left facts) position options keys (stream_at (peer facts.side) left.book) (stream_at facts.side left.book) (own_lane facts left.lanes)).stream
    (gap_counted facts left).book.gaps left.book
    (at_goes (with_plain options left facts) position options keys (stream_at (peer facts.side) left.book) (stream_at facts.side left.book) (own_lane facts left.lanes))

from_goes : (facts : Facts) (position : Option ℕ) (options : List OptionValue) (keys : Keys) (left : Left)
    → BookGoes left.book (judged_from facts position options keys left).book
from_goes facts None options keys left = book_same left.book
from_goes facts (Some position) options keys left = by_goes facts position options keys left

positions_go : (facts : Facts) (options : List OptionValue) (keys : Keys) (left : Left) → BookGoes left.book (judged_positions facts options keys left).book
positions_go facts options keys left =
    by facts.seen.segment.head.syn (position_of (own_base facts) (own_lane facts left.lanes) facts.seen.segment.head.seq facts.seen.payload_len)
  where
    by : (b : Bool) (at : Option ℕ) → BookGoes left.book (if b then left else judged_from facts at options keys left).book
    by true at = book_same left.book
    by false at = from_goes facts at options keys left

opened_goes : (facts : Facts) (options : List SeenValue) (keys : Keys) (left : Left) → BookGoes left.book (judged_opened facts options keys left).left.book
opened_goes facts options keys left =
    let first : KeyedValue = record { options = []; keys = keys; stream = stream_at facts.side left.book } in
    let made = judged_options facts options first in
    book_then left.book (with_stream facts.side made.stream left.book) (judged_opened facts options keys left).left.book
    (stream_goes facts.side made.stream left.book (options_go facts options first))
    (positions_go facts made.options made.keys (record left { book = with_stream facts.side made.stream left.book }))

formed_goes : (at : Option Side) (packet : ℕ) (seen : Seen) (index : ℕ) (flow : Flow) (opened : Option Opened) (side : Side) (options : List SeenValue) (keys : Keys)
    (left : Left) → BookGoes left.book (judged_formed at packet seen index flow opened side options keys left).left.book
formed_goes at packet seen index flow None side options keys left = book_same left.book
formed_goes at packet seen index flow (Some opened) side options keys left =
    opened_goes (opened_facts at packet seen index flow opened side) options keys left

pub flow_goes : (at : Option Side) (packet : ℕ) (seen : Seen) (index : ℕ) (flow : Flow) (belongs : Belongs) (keys : Keys) (left : Left)
    → BookGoes left.book (judged_flow at packet seen index flow belongs keys left).left.book
flow_goes at packet seen index flow belongs keys left =
    let side = side_of flow belongs seen in
    let options = seen_options keys.checksums seen.segment.options in
    let formed = with_stream side (told_formless packet options (stream_at side left.book)) left.book in
    book_then left.book formed (judged_flow at packet seen index flow belongs keys left).left.book
    (stream_goes side (told_formless packet options (stream_at side left.book)) left.book (told_formless_goes packet options (stream_at side left.book)))
    (formed_goes at packet seen index flow flow.opened side options keys (record left { book = formed }))

-- ---- all books

token_goes : (wrong : WrongToken) (book : BookValue) → BookGoes book (token_told wrong book)
token_goes wrong book =
    stream_goes wrong.belongs.opener _ book
    (goes_tell rule.Token wrong.packet (Found (Number32 wrong.expected wrong.was)) (stream_at wrong.belongs.opener book))

token_in_goes : (book : Option BookValue) (wrong : WrongToken) (books : List BookValue) → slice_get books wrong.belongs.connection ≡ book
    → BooksGo books (token_in book wrong books)
token_in_goes None wrong books h = books_same books
token_in_goes (Some book) wrong books h = books_set books wrong.belongs.connection book (token_told wrong book) h (token_goes wrong book)

pub wrong_goes : (wrong : Option WrongToken) (state : JudgedValue) → BooksGo state.books (with_wrong_token wrong state).books
wrong_goes None state = books_same state.books
wrong_goes (Some wrong) state = token_in_goes (slice_get state.books wrong.belongs.connection) wrong state.books refl

known_goes : (at : Option Side) (packet : ℕ) (seen : Seen) (index : ℕ) (flow : Flow) (belongs : Belongs) (keys : Option Keys) (book : Option BookValue)
    (lanes : Option LanesValue) (state : JudgedValue) → slice_get state.books belongs.connection ≡ book
    → BooksGo state.books (judged_known at packet seen index flow belongs keys book lanes state).books
known_goes at packet seen index flow belongs (Some keys) (Some book) (Some lanes) state h =
    books_set state.books belongs.connection book (judged_flow at packet seen index flow belongs keys (record { book = book; lanes = lanes })).left.book h
    (flow_goes at packet seen index flow belongs keys (record { book = book; lanes = lanes }))
known_goes at packet seen index flow belongs (Some keys) (Some book) None state h = books_same state.books
known_goes at packet seen index flow belongs (Some keys) None lanes state h = books_same state.books
known_goes at packet seen index flow belongs None book lanes state h = books_same state.books

belonging_goes : (at : Option Side) (packet : ℕ) (seen : Seen) (index : ℕ) (flow : Flow) (belongs : Option Belongs) (state : JudgedValue)
    → BooksGo state.books (judged_belonging at packet seen index flow belongs state).books
belonging_goes at packet seen index flow None state = books_same state.books
belonging_goes at packet seen index flow (Some belongs) state =
    known_goes at packet seen index flow belongs (slice_get state.seen.connections belongs.connection) (slice_get state.books belongs.connection)
    (slice_get state.lanes index) state refl

in_flow_goes : (at : Option Side) (packet : ℕ) (seen : Seen) (index : ℕ) (flow : Option Flow) (state : JudgedValue)
    → BooksGo state.books (judged_in_flow at packet seen index flow state).books
in_flow_goes at packet seen index None state = books_same state.books
in_flow_goes at packet seen index (Some flow) state = belonging_goes at packet seen index flow flow.belongs state

place_goes : (at : Option Side) (packet : ℕ) (seen : Seen) (place : Option Place) (state : JudgedValue) → BooksGo state.books (judged_place at packet seen place state).books
place_goes at packet seen None state = books_same state.books
place_goes at packet seen (Some place) state =
    let told = with_wrong_token place.wrong_token state in
    books_then state.books told.books (judged_by_flow at packet seen place.flow told).books (wrong_goes place.wrong_token state)
    (in_flow_goes at packet seen place.flow (slice_get told.seen.flows place.flow) told)

pub taken_goes : (at : Option Side) (packet : ℕ) (seen : Seen) (it : Taken) (state : JudgedValue) → BooksGo state.books (judged_taken at packet seen it state).books
taken_goes at packet seen it state =
    books_then state.books (grown it.now state).books (judged_taken at packet seen it state).books (books_grown _ empty_book state.books)
    (place_goes at packet seen it.place (grown it.now state))

pub books_go : (at : Option Side) (check_sums : Bool) (state : JudgedValue) (packet : ℕ) (seen : Seen)
    → BooksGo state.books (judged at check_sums state packet seen).books
books_go at check_sums state packet seen = taken_goes at packet seen (taken state.seen packet seen (seen.has_good_sum || not check_sums)) state
