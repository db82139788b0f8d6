-- Words that several files of these proofs use, given on.
pub use Rattle.std.proofs.Common.{◌≡◌, ◌⊎◌, inl, inr, refl, sym, ap, subst, ◌∙◌, ℕ, zero, suc, ◌+◌, ◌-◌, ◌*◌, ◌<◌, ◌≤◌, ◌&&◌, ◌||◌, nat_le, nat_lt, Bool, true, false, if◌then◌else◌, Option, Some, None, List, [], ◌∷◌, ◌++◌, length, map, take, drop, length-append, arith, ◌^◌, is_some, ◌==◌, All, is_none, not, cond, Ok, find, unwrap_or, ⊎_elim, position, ◌≢◌, max, option_and_then, get_or, min, ◌%◌, ◌↔◌}
pub use Rattle.std.specs.List.{flat_map, slice_index, concat, list_any, sum_by, position_or_len}
pub use Rattle.std.proofs.lemmas.Bool.{cases_lt, ltb-true, leb-false, eq-eqb, lt-ltb, leb-true, ltb-false, eqb-true, false≢true}
pub use Rattle.std.proofs.lemmas.List.Elements.{All-nil, All-cons, All-append, All-from_get_or}
pub use Rattle.std.specs.Result.{is_ok, result_ok, OnOk}
pub use Rattle.std.specs.Prelude.{IfSome, filter, IsTrue, replicate}
pub use Rattle.std.proofs.lemmas.List.{length-map, take-map, drop-map, map-append, length-take, length-drop, drop_at, drop-drop, length-replicate}
pub use Rattle.fallback_state.specs.declared.fall.Verdict.{Verdict}
pub use Rattle.fallback_state.specs.declared.fall.Event.{Event as FallEvent}
pub use Rattle.sides.specs.declared.side.Side.{Side}
pub use Rattle.sides.specs.Side.{peer}
pub use Rattle.sides.specs.declared.side.Side.TheVariants.{A, B}
pub use Rattle.segment_wire.specs.Reading.{segment_in, options_in, header_len, is_short, has_wrong_offset, has_broken_option, has_wrong_checksum}
unfoldable pub use Rattle.segment_wire.specs.Reading.{segment_meaning}
pub use Rattle.segment_wire.specs.Segment.{Segment, octets_with, CanWrite}
unfoldable pub use Rattle.segment_wire.specs.Segment.{fixed_header, segment_text}
pub use Rattle.segment_wire.proofs.Again.{segment_meaning-written}
pub use Rattle.segment_wire.specs.Paths.{addresses_from}
pub use Rattle.mptcp_options.specs.declared.join.JoinForm.{JoinForm}
pub use Rattle.mptcp_options.specs.declared.join.JoinForm.TheVariants.{Answer, Third}
pub use Rattle.mptcp_options.specs.declared.capable.CapableKeys.{CapableKeys}
pub use Rattle.mptcp_options.specs.declared.capable.CapableKeys.TheVariants.{NoKey, Sender, Both, WithData}
unfoldable pub use Rattle.mptcp_options.specs.Text.{option_text}
pub use Rattle.join_handshake.specs.declared.hearing.JoinSyn.{JoinSyn}
pub use Rattle.control_book.specs.declared.call.ControlReply.{ControlReply}
pub use Rattle.send_book.specs.declared.call.SendCall.{SendCall}
pub use Rattle.dss_mapping.specs.declared.kept.KeptMapping.{KeptMapping}
pub use Rattle.subflow_recv.specs.Receiving.{filled, after_forget_from}
pub use Rattle.subflow_send.specs.Records.{Record, record_of}
pub use Rattle.subflow_tcp.specs.declared.handshake.State.{State, State as EndPhase}
pub use Rattle.subflow_tcp.specs.declared.verdicts.Meaning.{Meaning}
pub use Rattle.subflow_tcp.specs.Judging.{is_syn_alone, is_acceptable, is_repeated_syn, meaning_answer, meaning_answering, meaning_opening, meaning_outside, meaning_acknowledging, meaning_within, meaning_placed, meaning_connected, meaning_at, meaning_of, is_in_window, ends_in_window, is_at_right_edge, IsBelow}
pub use Rattle.subflow_tcp.specs.Segments.{Copy, occupied}
pub use Rattle.subflow_tcp.specs.State.{EndState, is_at_limit, has_records}
pub use Rattle.subflow_tcp.specs.States.{is_dead, may_finish, is_half_open}
pub use Rattle.subflow_tcp.specs.Taking.{after_arrival, after_payload, after_hearing, after_established, after_acknowledgement, after_ack_kind, is_duplicate, told_by, after_duplicate, after_interruption, after_death, after_keeping_held, after_dropping_held, after_syn, unkept, after_holding}
pub use Rattle.subflow_tcp.specs.declared.segments.Occasion.{Occasion}
pub use Rattle.link_model.specs.Steps.{segments_sent, next_number, is_due, next_due, arriving, after_delivery, without, after_send, changed, arrivals, with_flights, one_more, due_of, comes_before, with_flight}
pub use Rattle.link_model.specs.declared.flight.Flight.{Flight}
pub use Rattle.path_segments.specs.declared.spelling.Spelling.{Spelling}
pub use Rattle.path_segments.specs.Spelled.{PlainSegment, padding, padded, unpadded_options, CanSay, spelled_text, syn_text, options_text, CanSayOption}
unfoldable pub use Rattle.path_segments.specs.Spelled.{spelled}
pub use Rattle.path_segments.proofs.ChangedSegments.{stripped_means, stripped_is_heard, altered_is_said}
pub use Rattle.path_segments.proofs.SegmentsAgain.{four, written, heard_as_meant}
pub use Rattle.path_segments.specs.declared.expected.Expected.{Expected}
pub use Rattle.path_segments.specs.Laws.{IsFresh, meant, IsPositionFresh}
pub use Rattle.path_segments.specs.declared.segment.PathOption.TheVariants.{Capable, Join, Dss, AddAddr, Remove, Prio, Fail, FastClose, Reset}
pub use Rattle.path_segments.specs.declared.segment.PathMapping.{PathMapping}
pub use Rattle.path_segments.specs.declared.segment.PathMapping.TheVariants.{Bytes, End, Infinite}
pub use Rattle.path_segments.specs.Spelling.{numbers_of, subflow_number, data_number}
pub use Rattle.path_segments.specs.Heard.{place_heard, heard_mapping, heard_option, heard_options, heard_segment, known_or, known_in, HeardSegment}
pub use Rattle.path_segments.specs.HeardSegments.{heard_left, heard_value, IsHeardShort}
pub use Rattle.path_store.specs.Passing.{Piece, some_piece, count_in}
pub use Rattle.path_store.specs.declared.infinite_mapping.InfiniteMapping.{InfiniteMapping}
pub use Rattle.path_agenda.specs.declared.heard.Heard.{Heard}
pub use Rattle.path_agenda.specs.Items.{key_heard, keys_heard, IsFair, join_heard}
pub use Rattle.path_agenda.specs.Agenda.{emission, announces, withdraws, leaves, resets, breaks, start_of_turn, stops}
pub use Rattle.path_agenda.specs.Words.{replaced, first_of}
pub use Rattle.path_agenda.specs.declared.duty.Duty.{Duty}
pub use Rattle.path_agenda.specs.declared.duty.AskDuty.{AskDuty}
pub use Rattle.path_agenda.specs.declared.duty.StepDuty.{StepDuty}
pub use Rattle.path_agenda.specs.declared.keys.KeyPair.{KeyPair}
pub use Rattle.path_agenda.specs.declared.duty.SendDuty.{SendDuty}
pub use Rattle.path_agenda.specs.declared.duty.SilentDuty.{SilentDuty}
pub use Rattle.path_agenda.specs.Weights.{weight, weights}
pub use Rattle.path_agenda.specs.declared.notice.OwnNotice.{OwnNotice}
pub use Rattle.actor_desk.specs.declared.ask.Reply.{Reply}
pub use Rattle.actor_desk.specs.Words.{is_nil, tail_of}
pub use Rattle.actor_desk.proofs.Falling.{Ending, Then, less-ends, then-ends, Less}
pub use Rattle.actor_desk.specs.declared.ask.Ask.{Ask}
pub use Rattle.actor_desk.specs.Kinds.{IsOfKind, IsSomeOf}
pub use Rattle.path_core.specs.Arrival.{position_in, copy_of, position_numbered, reset_by, reset_for, with_held, after_copy, judged_in, after_judged, template_of, told_at, copy_heard, IsTakenAs, with_payload, copy_taken, owing_if, expected_by}
pub use Rattle.path_core.specs.Octets.{made, octets, sum_of}
pub use Rattle.path_core.specs.Said.{CanBeSaid, said_by}
pub use Rattle.path_core.specs.Shown.{octets_of, shown_path, CanBeAltered, SentCanBeAltered, IsFarReset, IsFreshCopy, NextIsFresh}
pub use Rattle.path_core.specs.Values.{Carried, as_arrived, values}
pub use Rattle.path_core.specs.DssIn.{HeardOption, is_mapping, mapping_items, ack_items, data_fin_items, infinite_items, map_items, first_items, with_learned, is_clash, with_data_fin, held_in, is_acked, told_next, with_acked, held_of, answered_mapping, checksum_heard, held_if, key_held, map_held, kept_of, with_skipped, counts}
pub use Rattle.path_core.specs.MpCapable.{syn_ack_of, with_peer_key, answered_peer_key, after_keys, answered_opened, key_items, peer_key_ask, opened_ask}
pub use Rattle.path_core.specs.MpJoin.{never_joined, join_begun, with_mode_refused, is_never, keys_begun, opened_by, joined_by, asked_at, join_taken, is_joined, join_items, peer_key_of, join_heard_ask, joins_at_tick, syn_of_window, is_listening, join_asked, join_answer, join_options, third_options, is_hmac_right, is_third_right, join_value, third_in}
pub use Rattle.path_core.specs.Addresses.{is_note_due, note_of, having_noted, answered_note, after_peer_notice, item_removed, address_items, with_priority}
pub use Rattle.path_core.specs.OptionsIn.{options_heard, hint_of, items_of, owes_by, items_in, SaysFew, asks_capable, has_data_ack}
pub use Rattle.path_core.specs.Fallback.{after_fell, fell_duties, answered_fell, in_identity, after_check_failed, answered_check_failed, is_infinite_receive, after_infinite, answered_infinite, may_go_infinite, with_infinite, book_answered, is_infinite_send, after_fail_heard, answered_fail_heard, breaks_by_ack, with_plain_ack, answered_plain_ack, with_plain_acked, fell_ask, breaks_by, with_failure, receiving_infinite, sending_infinite, plain_next, plain_ack_in}
pub use Rattle.path_core.specs.State.{at_tick, PathState, end_at, with_agenda, goes_on, left, path_of, with_end}
pub use Rattle.path_core.specs.declared.judged.Judged.{Judged}
pub use Rattle.path_core.specs.Judged.{is_ignored, is_passed_over, is_forged, join_judged, judged_of, taken_as, after_join, is_taken}
pub use Rattle.path_core.specs.End.{PathEnd, died}
pub use Rattle.path_core.specs.Profile.{Profile}
pub use Rattle.path_core.specs.Codec.{Codec}
pub use Rattle.path_core.specs.Duties.{stands, ask_for, passed, answered}
pub use Rattle.path_core.specs.Steps.{settled, settles_down, asks_first, asks_of, answers, takes, next_round, passable, passable_of, begins_turn}
pub use Rattle.path_core.specs.DataFin.{data_fin_segment, having_sent_data_fin, fin_segment_of, having_sent_fin, is_fin_set, with_peer_data_fin, answered_fin_heard, with_fin_told, answered_plain_fin, is_fin_due, after_pass_fin, is_data_fin_owed, data_fin_of, fin_ask, place_of_fin}
pub use Rattle.path_core.specs.Emission.{first_unsent, unsent_segment, having_sent_unsent, may_ask, data_stands, payload_size, grant_ask, data_ask, Grant, grant_in, granted, refused, answered_grant, answered_data, first_segment, answer_occasion, answer_of, dead_answer, resend_occasion, resend_of, first_record, outgoing_or, ack_resent}
pub use Rattle.path_core.specs.Turns.{Ends, TakesTime, FirstStands, IsSettled}
pub use Rattle.path_core.specs.Events.{tick_of, next_join, next_line, next_copy, earlier, earliest, before, next_event, after_line, line_taken, happens, happens_if, CanHappen, step_for}
pub use Rattle.path_core.specs.Breaking.{refusal_of, reset_of, reset_on, break_ask, answered_break, died_unless_dead}
pub use Rattle.path_core.specs.Ranks.{ticks_left, one_if_due, due_copies, due_timer, due_by_now, bytes_left, sendings_left, due_lines, work, outstanding, unsent_count}
pub use Rattle.path_core.specs.Deliver.{having_asked, piece_of, is_placed, placed, answered_piece, plain_piece, infinite_piece, piece_by, mapping_here, next_piece, after_piece, after_keep, after_check, after_pieces, is_wrong, forgotten_by, failing_by, is_dropped, piece_ask, piece_in, is_whole, is_right, piece_at}
pub use Rattle.path_core.specs.Rate.{after_rate, rate_ask}
pub use Rattle.path_core.specs.Handover.{sends, having_sent, handed, sent_on}
pub use Rattle.path_core.specs.Standing.{may_note, after_look, after_ack_out, answered_ack_out, ack_segment, acknowledges, ack_out_ask}
pub use Rattle.path_core.specs.Treating.{item_of, item_ask, answered_item, item_passed}
pub use Rattle.path_core.specs.declared.said.SegmentKind.{SegmentKind}
pub use Rattle.path_core.specs.Looking.{Arrived, arrived_as, to_send, broken_by, heard_sends, send_of, unsent_sends, duty_sends, first_sends, departing, departing_as, step_told, tells_a_segment, segment_sent, HandsOrTellsNone, EachSegmentIsTold, IsTold}
