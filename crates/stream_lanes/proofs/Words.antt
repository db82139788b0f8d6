-- Words that several files of these proofs use, given on.
--
-- Words on lists as records of functions: `Every`, `From`, `Cells`, `Has` over `slice_get xs i ≡ Some x`, with `n ≡
-- first + i →` for the number. Being records, they need no arguments where they are used, and append, drop, take and
-- put are one case split each, with no induction.
pub use Rattle.std.proofs.Common.{◌≡◌, refl, sym, ◌∙◌, ap, subst, ℕ, zero, suc, ◌+◌, ◌-◌, ◌<◌, ◌≤◌, min, max, Bool, true, false, not, cond, nat_lt, ◌==◌, ⊎_elim, List, [], ◌∷◌, ◌++◌, length, get_or, take, drop, map, replicate, Option, Some, None, Result, Ok, Err, position, if◌then◌else◌, arith, ◌⊎◌, ◌&&◌, ◌||◌, inl, inr, set, is_some, nat_le, ◌^◌, is_none, bit_xor, count_by}
pub use Rattle.std.proofs.lemmas.Bool.{or_cases, or_left, or_right, and_parts, false≢true, both_ways, not-true, eqb-true, cases_lt, ltb-true, eq-eqb, le-ltb, ltb-false, leb-true, or_parts, cases_eq, and_from, or_from, true≢false, and_right}
pub use Rattle.std.specs.List.{slice_get, list_all, position_or_len}
pub use Rattle.std.proofs.lemmas.List.{length-take, length-drop, map-append, take-append-drop, drop-drop, length-replicate, append-nil, length-map, length-append, take-append-le, take_all, take_min}
pub use Rattle.std.specs.Option.{IfSome, option_map}
pub use Rattle.std.proofs.lemmas.Option.{slice_get_within, get_or_from_slice_get, slice_get-map, same_Some}
pub use Rattle.reassembly_book.specs.declared.call.ReassemblyCall.TheVariants.{Place, Fin, AckOut, Read as ReadBytes, Abort as AbortReading, Abort}
pub use Rattle.reassembly_book.specs.State.{Arriving, filled, received, top, new_arriving as opened_arriving}
pub use Rattle.reassembly_book.specs.Steps.{after_call as after_arrival, reply_to as arrival_reply, by_place, merged, edge, reaches_past, clash, placed_reply, places_after, fin_clash, fin_reply_by, is_taken, bytes_reply, reading, after_reading, first_abort}
pub use Rattle.reassembly_book.specs.declared.call.ReassemblyReply.TheVariants.{End, NoneYet, Placed, Beyond, FinSet}
pub use Rattle.send_book.specs.declared.call.Span.{Span}
pub use Rattle.send_book.specs.declared.call.Why.{Why}
pub use Rattle.send_book.specs.declared.call.SendCall.TheVariants.{Write as WriteBytes, Close as CloseBook, Grant, AckIn, Return as ReturnBytes, GoIdentity as GoIdentityBook, GoInfinite as GoInfiniteBook, Abort as AbortBook}
pub use Rattle.send_book.specs.State.{Sending, acked_len, new_sending as opened_send}
pub use Rattle.send_book.specs.Steps.{after_call as after_send, bytes_taken, is_future, fin_after, is_gathered, decision, given_by, change_part, reply_to as send_reply, reply_by, tried_first, first_free, is_for, span_at, run_len}
pub use Rattle.send_book.proofs.Lists.{slice_get-changed_above, slice_get-changed_inside, slice_get-append_left, slice_get-append_right, slice_get-changed_below, slice_get-drop}
pub use Rattle.send_book.specs.declared.call.SendReply.TheVariants.{AckFuture, Acked as AckedBytes}
pub use Rattle.send_book.specs.declared.mark.ByteMark.{ByteMark}
pub use Rattle.send_book.specs.declared.mark.ByteMark.TheVariants.{Acked, Held, Free}
pub use Rattle.send_book.specs.Marks.{is_acked, is_free_for, returned, has_tried, is_untouched, is_held_rightly}
pub use Rattle.send_book.proofs.Decisions.{MayTake, decision-MayTake}
pub use Rattle.send_book.proofs.Grants.{spent-given, spent-not_free, stays-after_call, spent-stays}
pub use Rattle.send_book.specs.Tried.{no_paths, contains, has_none, insert}
pub use Rattle.stream_lanes.specs.Lane.{DataCopy, AckCopy, Mapping, Pair, Ask, Lane, Cell, lane_over}
pub use Rattle.stream_lanes.specs.Lane.Ask.{Nothing, AskGrant, AskAckIn, AskPlace, AskFin, AskAckOut}
pub use Rattle.stream_lanes.specs.Moves.{Flags, Move, moved, place_by, shifted, hears_sub, sends_pair, sends_fin_pair, takes_pair, places_pair, ends_pair, is_whole, takes_grant, takes_ack, takes_placed, takes_fin, takes_ack_out, hears, sends_piece, sends_altered, altered_piece_of, keeps, learns_mapping, learns, hears_data_fin, hears_fin, places, passes, clashes, lies_in, in_order, may_finish, ack_copy, places_of, bytes_of, place_after, part_of, cells_from, are_same, sends_plain_pair, later_end, known, piece_of, disagree}
pub use Rattle.stream_lanes.specs.Streams.{Reader, Direction, StreamEvent, after, asks, asks_at, moves, reads, is_done, takes_read, with_send, goes_infinite, may_go, opening_direction, rises}
pub use Rattle.stream_lanes.specs.Streams.StreamEvent.{Write, Close, Return, GoIdentity, GoInfinite, AbortSend, Read, AbortRead, Moves, Asks}
pub use Rattle.stream_lanes.specs.Duo.{Modes, Duo, Event, falls_a, falls_b, begins_join, sends_join, hears_join, flags_ab, flags_ba, after_event, after_events, opening, opening_over}
pub use Rattle.stream_lanes.specs.Duo.Event.{ToB, ToA, FallA, FallB, LoosenA, LoosenB, BeginJoin, SendJoin, HearJoin}
pub use Rattle.stream_lanes.specs.Words.{Every, From, Cells, Has}
pub use Rattle.stream_lanes.specs.View.{view_of, all_in, end_of, IsEnd, IsIn, IsPlaced, View, is_exact}
pub use Rattle.stream_lanes.specs.View.IsPlaced.{was_read, stands}
pub use Rattle.stream_lanes.specs.Holding.{IsAll, IsSent, ArrivedHolds, RecordHolds, AloneHolds, ModeHolds, EndsHold, IsFin, HeardHolds, IsAck, ReceiverHolds, PlaceHolds, AskHolds, LinkHolds, LaneHolds, CellFits, AllGranted, IsPassed, PassedHolds, IsAlone, IsEndless, PairsHold, SendHolds, IsRight, DirectionHolds, HasPlace, Came, ReaderHolds, IsByteOf, Holds, IsPiece, AreApart, IsGranted, IsHonest, Starts, ModesHold, IsAckCopy, IsOwnedBy}
pub use Rattle.stream_lanes.specs.Holding.Came.{as_sent, turned}
pub use Rattle.stream_lanes.specs.Laws.{Always, AlwaysChecked, AlwaysAny, BothWays, ReadsAPrefix, AcknowledgesReceivedBytes, EndsAtTheWhole, NothingFollowsTheEnd, AbortedIsNoEnd, EachEventIsOneStep, NothingIsRefused, MappingIsShort, LaneIsShort, PathsAreShort, IsNear, TellsNear, ShortStreamsAreNear, IsPlain, FallsAreRight, RecordsAgree, EndsAtAllBytes, PrefixBeforeTheFall, PlacedBeforeTheFallIsRight, ChecksumsShow, NothingDisagrees, InfiniteMappingsAreRight, flattened, content, PlacedIsRight, pipe_of, IsOneStepOrNone, is_ack_future, is_beyond_or_clash, ask_refused, mapping_clashes, copy_clashes, move_refused, lane_refused, is_refused, is_clash, ask_disagrees, disagrees}
pub use Rattle.stream_lanes.specs.Moves.Move.{Open, LookAtSender, LookAtReceiver, WantGrant, HearAck, HearSubAck, SendPiece, SendAltered, SendDataFin, SendFin, SendPair, SendPlainPair, SendFinPair, Hear, Learn, HearDataFin, HearFin, Forget, WantPlace, WantPlacePlain, WantFin, TakePair, WantPlacePair, WantFinPair, WantAckOut, SendAck}
pub use Rattle.stream_lanes.specs.Marks.{spent, spent_count, AreAcked, AreNew, tried, IsHeldRightly}
pub use Rattle.stream_lanes.specs.Holding.IsAlone.{fell}
