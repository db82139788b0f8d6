-- Words that several files of these proofs use, given on.
pub use Rattle.std.proofs.Common.{◌≡◌, refl, sym, ◌∙◌, ap, subst, ℕ, zero, suc, ◌+◌, ◌-◌, ◌≤◌, ◌&&◌, ◌||◌, ◌==◌, not, min, max, nat_lt, nat_le, inl, inr, ◌⊎◌, ⊎_elim, Bool, true, false, cond, if◌then◌else◌, Option, Some, None, Result, Ok, Err, List, [], ◌∷◌, ◌++◌, length, take, drop, map, replicate, arith, is_none, is_some, ◌<◌, ◌^◌, set, option_map, find, ◌*◌, position, unwrap_or, ◌/◌, ◌%◌, filter, remove, get_or-set_same, get_or-set_other, get_or}
pub use Rattle.std.proofs.lemmas.Bool.{cases_eq, cases_order, ltb-true, lt-ltb, le-ltb, eqb-true, eq-eqb, or_cases, or_parts, and_parts, and_from, both_ways, false≢true, true≢false, ltb-false, leb-true, or_right, cases_lt, or_from, or_left, le-leb, not-true, ne_eqb, and_cases, not-false}
pub use Rattle.std.proofs.lemmas.List.{drop-drop, drop_min, length-append, length-take, length-drop, length-map, length-replicate, append-nil, append_assoc, map-append, set-set, length-set, get_or_past, get_or-replicate, set_past}
pub use Rattle.std.proofs.lemmas.Option.{same_Some, slice_get_within, slice_get_past}
pub use Rattle.std.specs.List.{count_by, list_any, slice_get, list_all, flat_map, Contains, slice_index_or}
pub use Rattle.std.specs.Option.{IfSome, option_and_then, option_or}
pub use Rattle.std.proofs.lemmas.List.Sums.{count_by-le-length, sum_by-cons, sum_by-set, sum_by_push}
pub use Rattle.std.specs.Result.{result_ok}
pub use Rattle.std.specs.Prelude.{slice_set, All, sum_by}
pub use Rattle.std.proofs.lemmas.List.Elements.{All-nil, All-head, All-tail, All-push, All-cons, All-weaker, filter-append}
pub use Rattle.fallback_state.specs.declared.fall.Verdict.{Verdict}
pub use Rattle.fallback_state.specs.declared.fall.Mode.{Mode}
pub use Rattle.fallback_state.specs.declared.fall.Event.{Event as FallEvent}
pub use Rattle.fallback_state.specs.Modes.{is_identity, is_infinite, is_starting, reads_mappings, with_infinite_receive, with_infinite_send, writes_mappings}
pub use Rattle.fallback_state.specs.declared.fall.Fall.{Fall}
pub use Rattle.fallback_state.specs.Table.{after_sure_sign, after_plain, after_failed_check, after_fail, is_failed_path, goes, fall_step, stays as stays_so, after_keys as fall_keys, after_plain as fall_plain}
pub use Rattle.fallback_state.specs.declared.fall.Verdict.TheVariants.{Stay, SendFail}
pub use Rattle.stamped_book.specs.declared.stamped.Entry.{Entry}
pub use Rattle.stamped_book.specs.declared.stamped.Pass.{Pass}
pub use Rattle.stamped_book.specs.Entering.{entry_of, after_entering, next_stamp, raised}
pub use Rattle.stamped_book.specs.Journal.{Journaled, book_of, replay, last_stamp}
pub use Rattle.stamped_book.proofs.Journals.{replay-append, last_stamp-append}
pub use Rattle.address_manager.specs.IdSet.{is_member, lowest}
unfoldable pub use Rattle.address_manager.specs.IdSet.{no_ids}
pub use Rattle.address_manager.specs.Addresses.{Addresses, address_of}
pub use Rattle.address_manager.specs.Steps.{after_announce, after_removed, heard_reply, after_heard as addresses_heard, after_removed as addresses_removed}
pub use Rattle.key_material.specs.declared.address.Address.{Address}
pub use Rattle.key_material.specs.KeyDigest.{token_of}
pub use Rattle.key_material.specs.JoinHmac.{join_a160_of, join_b64_of}
pub use Rattle.seq_units.specs.declared.mapping.Mapping.{Mapping as Summed}
pub use Rattle.octet_text.specs.Prefix.{IsPrefix}
pub use Rattle.sides.specs.declared.side.Side.{Side}
pub use Rattle.sides.specs.declared.side.Side.TheVariants.{A, B}
pub use Rattle.sides.specs.Side.{peer}
pub use Rattle.link_script.specs.Places.{same_side, path_named}
pub use Rattle.link_script.specs.declared.script.ScriptLine.{ScriptLine}
pub use Rattle.dss_checksum.specs.Checksum.{dss_checksum}
pub use Rattle.segment_wire.specs.Changes.{with_turned_bit}
pub use Rattle.mptcp_options.specs.declared.join.JoinForm.{JoinForm}
pub use Rattle.mptcp_options.specs.declared.join.JoinForm.TheVariants.{Answer, Third}
pub use Rattle.mptcp_options.specs.declared.capable.CapableKeys.{CapableKeys}
pub use Rattle.mptcp_options.specs.declared.capable.CapableKeys.TheVariants.{NoKey, Sender, Both, WithData}
pub use Rattle.mptcp_options.specs.Join.{FormFits}
pub use Rattle.join_handshake.specs.declared.hearing.JoinSyn.{JoinSyn, JoinSyn as Asked}
pub use Rattle.join_handshake.specs.declared.hearing.JoinAnswer.{JoinAnswer}
pub use Rattle.join_handshake.specs.declared.fault.JoinFault.TheVariants.{BadHmac}
pub use Rattle.join_handshake.specs.Heard.{answer_heard, answer_taken, syn_heard, third_heard}
pub use Rattle.control_book.specs.declared.call.ControlCall.{ControlCall}
pub use Rattle.control_book.specs.declared.call.ControlReply.{ControlReply}
pub use Rattle.control_book.specs.declared.call.Notice.{Notice}
pub use Rattle.control_book.specs.Registry.{with_removed, lowest_living, standby, sole, sole as sole_path, with_phase, every_path, lives}
pub use Rattle.control_book.specs.Control.{Control, new_control, withdrawals_on, with_withdrawal_due, peer_or_zero, is_path}
unfoldable pub use Rattle.control_book.specs.Control.{no_withdrawals}
pub use Rattle.control_book.specs.Replies.{carries, address_notice, notice_on, is_sure, may_join, is_aborted, join_waits, begin, join_begin_reply, look_reply}
pub use Rattle.control_book.specs.Steps.{is_known, withdrawn, path_address}
unfoldable pub use Rattle.control_book.specs.Steps.{withdrawn_on}
pub use Rattle.control_book.specs.declared.registry.Phase.TheVariants.{Opening}
pub use Rattle.reassembly_book.specs.declared.call.ReassemblyCall.{ReassemblyCall}
pub use Rattle.reassembly_book.specs.State.{Arriving, IsSound, filled, received, new_arriving, new_arriving as none}
pub use Rattle.reassembly_book.specs.declared.call.ReassemblyReply.{ReassemblyReply}
pub use Rattle.reassembly_book.specs.Steps.{places_after, fin_clash, is_end, bytes_reply, reading, after_reading, reply_to as arrival_reply, next_wanted, window, first_abort}
pub use Rattle.reassembly_book.specs.declared.call.ReassemblyCall.TheVariants.{Place, AckOut}
pub use Rattle.send_book.specs.declared.call.Span.{Span}
pub use Rattle.send_book.specs.declared.call.Why.{Why}
pub use Rattle.send_book.specs.declared.call.SendCall.{SendCall}
pub use Rattle.send_book.specs.State.{Sending, Tile, acked_len, new_sending, Sending as SendBook}
pub use Rattle.send_book.specs.Steps.{bytes_taken, is_for, span_at, decision, reply_by, run_len, given_by, is_future, fin_after, is_gathered, tried_first, after_call as after_send, reply_to as send_reply, grant_reply, ack_reply}
pub use Rattle.send_book.specs.declared.call.SendCall.TheVariants.{AckIn, Abort, GoInfinite as GoInfiniteBook, GoIdentity as GoIdentityBook, Return as ReturnBytes}
pub use Rattle.send_book.specs.declared.mark.ByteMark.TheVariants.{Acked, Held, Free}
pub use Rattle.send_book.specs.Marks.{is_free_for, is_held_by, given, returned, has_tried, is_untouched}
pub use Rattle.send_book.specs.Tried.{contains, no_paths}
pub use Rattle.send_book.proofs.Decisions.{MayTake, decision-MayTake}
pub use Rattle.send_book.specs.declared.call.SendReply.{SendReply}
pub use Rattle.dss_mapping.specs.declared.kept.KeptMapping.{KeptMapping}
pub use Rattle.dss_mapping.specs.Mappings.{Mappings, run_of, mapping_at, after_learn, octets_in, place_at, after_forget}
pub use Rattle.dss_mapping.specs.Learning.{others_of, learn_of, learned_if, after_skip_held, after_learn_held}
pub use Rattle.dss_mapping.specs.Runs.{covers, place_in}
pub use Rattle.subflow_recv.specs.Receiving.{after_forget_from, without_held, after_keep_held, Receiving, after_accept, after_pass}
pub use Rattle.subflow_send.specs.Records.{Record, SendState}
pub use Rattle.subflow_send.specs.declared.record.RecordKind.{RecordKind}
pub use Rattle.subflow_send.specs.declared.record.RecordKind.TheVariants.{Syn, Data, Fin}
pub use Rattle.subflow_send.specs.declared.record.AckKind.{AckKind}
pub use Rattle.subflow_send.specs.Rules.{is_unsent, uncovered, first_unsent_sent, first_sent, unsent_again, expired_records, after_acknowledge, after_sent, after_resent, after_expired, after_fin_sent, is_fin, ack_kind, sample_of, newly_acknowledged, opening}
pub use Rattle.subflow_send.specs.declared.record.Sending.{Sending as RecordSending}
pub use Rattle.loss_recovery.specs.declared.windows.Pending.{Pending}
pub use Rattle.subflow_tcp.specs.States.{is_closed_to_segments, is_opening, is_dead, is_waiting as is_waiting_phase, may_finish, is_waiting, is_half_open, after_handshake}
pub use Rattle.subflow_tcp.specs.declared.verdicts.Meaning.{Meaning}
pub use Rattle.subflow_tcp.specs.Expiring.{is_sixth, after_expiry, after_fire}
pub use Rattle.subflow_tcp.specs.Emitting.{ack_at, syn_ack_segment, reset_segment, fin_position, fin_segment, is_syn, record_segment, after_sending, syn_resent}
pub use Rattle.subflow_tcp.specs.State.{EndState, has_records, is_at_limit, is_behind, is_fin_passed, is_some_record}
pub use Rattle.subflow_tcp.specs.declared.handshake.State.{State as EndPhase, State}
pub use Rattle.subflow_tcp.specs.declared.segments.Occasion.{Occasion}
pub use Rattle.subflow_tcp.specs.declared.segments.Outgoing.{Outgoing}
pub use Rattle.subflow_tcp.specs.Taking.{after_death, after_dropping_held, after_keeping_held, after_holding, is_fin_acked, after_ack_kind, after_acknowledgement, is_duplicate, after_duplicate, after_interruption, told_by, after_payload, after_hearing, after_established, after_taken, after_syn_ack, after_syn, after_arrival, unkept, arrival_of, kept_new, first_fin}
pub use Rattle.subflow_tcp.specs.Opening.{after_begin, new_end}
pub use Rattle.subflow_tcp.specs.Closing.{is_fin_next, after_passing_fin, after_finishing}
pub use Rattle.subflow_tcp.specs.Judging.{is_syn_alone, is_repeated_syn, is_acceptable, meaning_outside, meaning_acknowledging, meaning_within, meaning_placed, meaning_connected, meaning_answer, meaning_answering, meaning_at, meaning_of, is_at}
pub use Rattle.subflow_tcp.specs.Segments.{Copy, occupied, one_if}
pub use Rattle.subflow_tcp.specs.declared.segments.Hint.{Hint}
pub use Rattle.link_model.specs.Steps.{is_due, arriving, arrivals, changed, next_number, without, after_delivery, lines_of, with_flights, one_more, next_due, comes_before, with_flight}
pub use Rattle.link_model.specs.declared.flight.Due.{Due}
pub use Rattle.link_model.specs.declared.flight.Flight.{Flight}
pub use Rattle.link_model.specs.Fate.{is_stripped, is_altered, fate_of, is_altered_by, is_stripped_by}
pub use Rattle.link_model.specs.State.{LinkState}
pub use Rattle.path_segments.specs.Heard.{HeardSegment}
pub use Rattle.path_segments.specs.Options.{PlainOption, said_option, said_mapping, relative_number}
pub use Rattle.path_segments.specs.Spelled.{syn_text, options_text, PlainSegment, CanSayOption, CanSay}
pub use Rattle.path_segments.specs.declared.segment.PathOption.TheVariants.{Capable, Join, Dss, AddAddr, Remove, Prio, Fail, Reset}
pub use Rattle.path_segments.specs.Laws.{meant, IsPositionFresh, IsPlaceFresh, IsBytes, IsMappingFresh, IsOptionFresh, IsHearable, IsFresh, meant_option, window_told, meant_mapping}
pub use Rattle.path_segments.specs.declared.expected.Expected.{Expected}
pub use Rattle.path_segments.specs.Spelling.{whole_number, data_number, subflow_number, numbers_of}
pub use Rattle.path_segments.specs.declared.segment.PathMapping.{PathMapping}
pub use Rattle.path_segments.specs.declared.segment.PathMapping.TheVariants.{Bytes, Infinite}
pub use Rattle.path_segments.specs.declared.position.HeardPosition.TheVariants.{At}
pub use Rattle.path_store.specs.declared.lines.LineAction.{LineAction}
pub use Rattle.path_store.specs.Passing.{Piece, count_in, some_piece}
pub use Rattle.path_store.specs.declared.infinite_mapping.InfiniteMapping.{InfiniteMapping}
pub use Rattle.path_store.specs.declared.granted_piece.GrantedPiece.{GrantedPiece}
pub use Rattle.path_store.specs.Granted.{is_open, behind, follows, rises_from, is_tail, has_place, position_of, granted_to}
pub use Rattle.path_store.specs.declared.lines.LineLeft.{LineLeft}
pub use Rattle.path_store.specs.Receiving.{data_fin_behind}
pub use Rattle.path_agenda.specs.Agenda.{rest_of_turn, emission, syn_came, syn_ack_came, join_came, refuses, join_answered, heard_and, payload_came, copy_came, syn_again, answers_dead, expired, expired_for_ever, leaves, resets, stops, announces, withdraws, start_of_turn}
pub use Rattle.path_agenda.specs.declared.duty.Duty.{Duty}
pub use Rattle.path_agenda.specs.declared.duty.SendDuty.{SendDuty}
pub use Rattle.path_agenda.specs.declared.duty.StepDuty.{StepDuty}
pub use Rattle.path_agenda.specs.declared.notice.OwnNotice.{OwnNotice}
pub use Rattle.path_agenda.specs.declared.duty.AskDuty.{AskDuty}
pub use Rattle.path_agenda.specs.declared.duty.SilentDuty.{SilentDuty}
pub use Rattle.path_agenda.specs.declared.heard.Heard.{Heard}
pub use Rattle.path_agenda.specs.declared.keys.KeyPair.{KeyPair}
pub use Rattle.path_agenda.specs.Words.{replaced, first_of}
pub use Rattle.path_agenda.specs.Items.{key_in, key_heard, pair_in, keys_heard, is_of_step, join_in, join_heard, is_dss}
pub use Rattle.path_agenda.specs.declared.notice.PeerNotice.{PeerNotice}
pub use Rattle.path_agenda.specs.declared.heard.JoinStep.{JoinStep}
pub use Rattle.actor_desk.specs.declared.ask.Ask.{Ask}
pub use Rattle.actor_desk.specs.declared.ask.Note.{Note}
pub use Rattle.actor_desk.specs.declared.ask.Reply.{Reply}
pub use Rattle.actor_desk.specs.Books.{StampedBooks, books_in, unasked, stamp_of, after_entry, SendJournal}
pub use Rattle.actor_desk.specs.Desk.{SixBooks, send_of, reassembly_of, control_of, reply_of, after_ask, opened_books, after_send_call, after_reassembly_call}
pub use Rattle.actor_desk.specs.Words.{tail_of, is_nil, pick}
pub use Rattle.actor_desk.specs.declared.ask.LocalStep.{LocalStep}
pub use Rattle.actor_desk.specs.Kinds.{IsSendKind, IsReassemblyKind, IsControlKind, IsOfKind}
pub use Rattle.actor_desk.specs.Journals.{is_local, ArePaired, above, comes_first, with_note, with_notes, send_note, reassembly_note, control_note, AreChained}
pub use Rattle.stream_apps.specs.declared.duty.AppDuty.{AppDuty}
pub use Rattle.stream_apps.specs.Apps.{AppState}
pub use Rattle.stream_apps.specs.AppSteps.{fresh_turn, start_of_app, app_stands, app_ask, app_asks_first, bytes_in, ends_in, app_reads_on, app_answered, app_answers, app_settled, app_settles_down, app_takes, app_next_round, offered, taken_in}
pub use Rattle.stream_apps.specs.Turns.{AppEnds, IsAppSettled, FirstAppStands}
pub use Rattle.stream_apps.specs.Starts.{untouched, first_app_turn}
pub use Rattle.stream_apps.specs.declared.duty.AppDuty.TheVariants.{AbortReceive}
pub use Rattle.path_core.specs.Codec.{Codec}
pub use Rattle.path_core.specs.Duties.{stands, ask_for, passed, answered}
pub use Rattle.path_core.specs.End.{PathEnd, died, opening_end}
pub use Rattle.path_core.specs.Looking.{first_sends, segment_sent, broken_by, heard_sends, unsent_sends, step_sends}
pub use Rattle.path_core.specs.Notices.{Notices, without_first, after_notice, Notices as OwnNotices, no_notices}
pub use Rattle.path_core.specs.Standing.{answered_ack_out, after_look, is_connected, may_note, modes_told, notices_told, after_ack_out, ack_out_ask, ack_segment, look_ask, window_in}
pub use Rattle.path_core.specs.Start.{PathStart, first_state, waiting_path, first_turn, key_of}
pub use Rattle.path_core.specs.State.{at_tick, PathState, end_at, goes_on, with_end, with_agenda, left, path_of}
pub use Rattle.path_core.specs.Steps.{settled, settles_down, answers, asks_of, asks_first, takes, begins_turn, next_round}
pub use Rattle.path_core.specs.Turns.{Ends, TakesTime, FirstStands, IsSettled}
pub use Rattle.path_core.specs.Values.{Carried, as_arrived, carried_by, stripped, altered, values}
pub use Rattle.path_core.specs.OptionsIn.{hint_of, items_in, items_of, has_data_ack, octets_acked, is_plain_ack, edge_in_payload, owes_by, asks_capable, options_heard}
pub use Rattle.path_core.specs.Arrival.{after_judged, asked_in, copy_judged, copy_of, judged_in, reset_for, template_by, template_judged, template_of, with_held, heard_in, copy_heard, told_at, owing_if, with_payload, expected_by, heard_at, acknowledged_in, copy_taken, reset_by, position_numbered}
pub use Rattle.path_core.specs.Breaking.{reset_of, reset_on, answered_break, path_died, refusal_of, break_ask, died_unless_dead, answered_refusal, leaves_unless_dead}
pub use Rattle.path_core.specs.Emission.{answered_data, answered_grant, answered_syn, data_stands, first_unsent, grant_in, granted, having_sent_unsent, is_syn_due, unsent_segment, answer_occasion, answer_of, answered_again, answered_answer, answered_resend, dead_answer, first_segment, outgoing_or, resend_occasion, resend_of, data_ask, first_record, payload_size, refused, ack_resent, resend_said, may_ask, fits, grant_ask, answer_said, may_send_data, answered_dead, granted_at, refused_in}
pub use Rattle.path_core.specs.declared.judged.Judged.{Judged}
pub use Rattle.path_core.specs.Events.{tick_of, next_join, next_line, next_copy, earlier, next_event, step_for, after_line, happens, happens_if, earliest, line_taken}
pub use Rattle.path_core.specs.MpJoin.{join_begun, never_joined, asked_at, is_listening, is_never, join_taken, joined_by, keys_begun, opened_by, syn_of_window, with_mode_refused, is_joined, join_heard_ask, join_answer, join_asked, join_options, third_options, peer_key_of, join_items, join_value, with_keys, answered_join_heard, join_begin_ask, is_hmac_right, is_third_right, third_in, mode_refused, after_joining_syn}
pub use Rattle.path_core.specs.Timer.{with_timer_settled, template_fired, after_firing, timer_fired, next_fire}
pub use Rattle.path_core.specs.Deliver.{having_asked, piece_in, checked_piece, piece_by, next_piece, after_piece, plain_piece, infinite_piece, piece_at, is_wrong, failing_by, mapping_here, piece_of, is_placed, answered_piece, forgotten_by, after_keep, after_pieces, is_dropped, after_check, piece_ask, is_not_kept, failing_mapping}
pub use Rattle.path_core.specs.DataFin.{is_data_fin_owed, data_fin_segment, having_sent_data_fin, answered_data_fin_sent, fin_segment_of, having_sent_fin, answered_fin, with_peer_data_fin, place_of_fin, with_fin_told, answered_plain_fin, data_fin_of, fin_ask, answered_fin_heard, is_fin_set, after_pass_fin, acked_in, is_all_granted, with_data_fin_sent, place_passed, after_acked}
pub use Rattle.path_core.specs.DssIn.{ack_items, is_mapping, mapping_items, map_items, first_items, held_if, map_held, key_held, held_in, checksum_heard, kept_of, is_clash, with_learned, with_data_fin, with_skipped, held_of, HeardOption, counts, with_acked, after_dss, told_next, mapping_ask, with_data_ack, answered_mapping, covered_by, data_fin_items, infinite_items, answered_ack}
pub use Rattle.path_core.specs.Treating.{heard_ask, item_ask, answered_heard, answered_item, item_of, item_passed, heard_passed, item_stands, heard_stands}
pub use Rattle.path_core.specs.Fallback.{check_failed_ask, with_failure, after_check_failed, answered_check_failed, is_infinite_receive, receiving_infinite, answered_infinite, fell_ask, subflow_ack_stands, after_fell, fell_duties, plain_ack_ask, subflow_ack_ask, answered_plain_ack, answered_subflow_ack, with_plain_ack, plain_next, plain_ack_in, plainly_acked, breaks_by_ack, may_go_infinite, fail_ask, answered_fail, book_answered, fail_heard_ask, answered_fail_heard, after_fail_heard, is_infinite_send, identity_ask, answered_identity, answered_fell, with_infinite, fell_in, is_fall, in_identity, mode_in, breaks_by, sending_infinite, infinite_from, after_infinite as after_infinite_heard, lacks_data_ack, plain_ack_stands, plain_data_stands, with_plain_acked}
pub use Rattle.path_core.specs.MpCapable.{syn_window_ask, keys_ask, after_keys, peer_key_ask, opened_ask, answered_peer_key, answered_opened, with_peer_key, keys_in, key_items, syn_ack_of, answered_syn_ack, is_opened_by_keys, is_opened_plainly, is_plain_syn}
pub use Rattle.path_core.specs.FastClose.{is_stopped_by, answered_fast_close, fast_heard_ask, having_fast_closed, with_fast_closed, is_fast_close_due, answered_leave_noted}
pub use Rattle.path_core.specs.Addresses.{with_priority, is_note_due, having_noted, after_peer_notice, with_echo, notice_ask, item_removed, address_items, is_kept, answered_note, with_noted, notice_call}
pub use Rattle.path_core.specs.Modes.{receives_plainly, fin_place, receives_infinite, acknowledged_under}
pub use Rattle.path_core.specs.DssOut.{bare_mapping, checksum_in, place_numbered, checksum_told, owes_mapping, plain_options, data_fin_mapping, piece_mapping, is_first_piece, first_piece_options, piece_options, fin_options, fail_options, fail_beside, infinite_options, infinite_or, mapped_options, mapping_of}
pub use Rattle.path_core.specs.OptionsOut.{is_syn_unsent, own_reset, capable_options, syn_options, key_options, opening_options, ack_options, record_options, reset_options, segment_of, ack_said, carried_said, record_said, syn_ack_said, fin_said, reset_said, record_or_ack, broken_options, noted_said, notice_option, HasAddress, dss_and}
pub use Rattle.path_core.specs.Profile.{Profile}
pub use Rattle.path_core.specs.Octets.{octets}
pub use Rattle.path_core.specs.Shown.{shown_path, IsFarReset, IsFreshCopy, NextIsFresh, AltersNothing, CanBeAltered, SentCanBeAltered}
pub use Rattle.path_core.specs.Handover.{sends, having_sent, sent_on, with_told, handed}
pub use Rattle.path_core.specs.Rate.{rate_ask, after_rate, answered_rate}
pub use Rattle.path_core.specs.Judged.{answered_in, cleared_in, is_forged, is_passed_over, join_judged, taken_as, with_answer, judged_of}
pub use Rattle.path_core.specs.declared.modes.Modes.{Modes}
pub use Rattle.path_core.specs.Choices.{is_side_a, item_at, told_last}
pub use Rattle.path_core.proofs.Showing.{asks_the_same, begins_the_same, takes_the_same, same_event, same_settled}
pub use Rattle.path_core.specs.Treated.{Treated, nothing_treated}
pub use Rattle.stream_lanes.proofs.Lists.{Every-map, Every-push, IfSome-map, Has-more, in_append, in_more, in_take, in_drop, in_map, Every-nil, in_set, Every-append, set_same, set_other, From-put, in_replicate, Has-map}
pub use Rattle.stream_lanes.specs.Words.{Every, From}
pub use Rattle.stream_lanes.specs.Duo.{Duo, after_events, falls_a, falls_b, begins_join, sends_join, hears_join, after_event, flags_ab, flags_ba, opening_over, Event as LaneEvent}
pub use Rattle.stream_lanes.specs.Holding.{Holds, IsFin, IsHonest, IsRight, IsEndless, LaneHolds, HasPlace, SendHolds, Came, IsByteOf, CellFits, DirectionHolds}
pub use Rattle.stream_lanes.specs.Lane.{Cell, Mapping, Pair, DataCopy, AckCopy, Lane, Ask as LaneAsk, lane_over}
pub use Rattle.stream_lanes.specs.View.{View, IsEnd, view_of, is_exact}
pub use Rattle.stream_lanes.proofs.Duos.{any_held, link_stays, fallen_ab, after_event_held}
pub use Rattle.stream_lanes.specs.Streams.{Direction, StreamEvent, reads, asks, asks_at, is_done, with_send, goes_infinite, may_go, Reader, rises, takes_read, moves as moves_in, moves as lane_moves}
pub use Rattle.stream_lanes.specs.Duo.Event.{ToB, ToA, FallA, FallB, LoosenA, LoosenB, BeginJoin, SendJoin, HearJoin}
pub use Rattle.stream_lanes.specs.Moves.{Flags, Move, moved, place_by, shifted, is_whole, sends_pair, sends_fin_pair, takes_pair, places_pair, ends_pair, hears, sends_piece, sends_altered, altered_piece_of, keeps, learns, learns_mapping, hears_data_fin, hears_fin, places, passes, lies_in, ack_copy, places_of, takes_grant, takes_ack, takes_placed, takes_fin, takes_ack_out, bytes_of, sub_next, cells_from, known, later_end, place_after, hears_sub as hears_by_sub, are_same}
pub use Rattle.stream_lanes.specs.Lane.Ask.{Nothing, AskGrant, AskAckIn, AskPlace, AskFin, AskAckOut}
pub use Rattle.stream_lanes.specs.Streams.StreamEvent.{Return, GoIdentity, AbortRead, Moves, Asks}
pub use Rattle.stream_lanes.specs.Moves.Move.{Open, LookAtSender, LookAtReceiver, WantGrant, HearAck, HearSubAck, SendPiece, SendAltered, SendDataFin, SendFin, SendPair, SendPlainPair, SendFinPair, Hear, HearDataFin, HearFin, Forget, WantPlace, WantPlacePlain, WantFin, TakePair, WantPlacePair, WantFinPair, WantAckOut, SendAck}
pub use Rattle.stream_lanes.specs.Laws.{pipe_of as lane_pipe, StepsOrStays, EachEventIsOneStep, NothingIsRefused, BothWays, is_ack_future, is_beyond_or_clash, ask_refused, lane_refused, content, flattened, never_fell_a, never_fell_b, copy_clashes, LaneIsShort, move_refused, mapping_clashes}
pub use Rattle.stream_lanes.proofs.Promises.{reads_prefix, ends_whole, ends_at_all, paths_short, nothing_follows_any_end, any_event_is_one_step, prefix_before_the_fall, placed_before_the_fall}
pub use Rattle.world_laws.specs.declared.member.Member.TheVariants.{App, Path}
pub use Rattle.world_laws.specs.AbortCause.{asks_fast_close, note_asks_fast_close, accepts_fast_close, entry_accepts, control_journal, PeerStopped, AbortsHaveCause}
pub use Rattle.world_laws.specs.Actors.{Actor, ActorCrew, member_asks, member_takes, member_next, is_over}
pub use Rattle.world_laws.specs.Announcing.{told_to_announce, ends_turn, look_after, look_of_turn, is_wanted, WasTold, AnnouncesAsTold, AnnouncementsEnd, is_announcement, wanted_after}
pub use Rattle.world_laws.specs.Laws.{Always, IsDone, NothingDueIsLeft, WritesTheFiles, CanRunPath, CanRun, SerialExists, OctetsDoAsValues, WritesTheFile}
pub use Rattle.world_laws.specs.Openings.{PathPlan, Start, path_begins, new_crew, new_path, paths_from, opened_world, start_of, plan_of, plans_from}
pub use Rattle.world_laws.specs.Standbys.{looks, standby_told, standby_last, is_grant, grants_bytes, GrantsAreFree, BackupsGetNothing}
pub use Rattle.world_laws.specs.Worlds.{WorldState, Turn, crew_after, asked, stepped, world_step, all_over, greatest, begins, end_round, after_turn, world_run, AreLawful, note_of, is_going}
pub use Rattle.world_laws.specs.Promises.{HasRoom, NumbersFit, was_told_end, BothKeepTheirWord, NothingCame, NothingFollows, IsOneStep, EachTurnIsOneStep, NothingWasRefused, JoinsAreRight, AddressesAreRight, KeysNeverDiffer, IsPromised, IsPromisedOfOctets, HoldsAnywayOfOctets, OctetsAreValuesShown, HoldsAnyway, tells_bad_address, tells_wrong_join, tells_other_key, arrived_at, written_by, tells_refusal, IsPlain, EveryListIsFresh, KeepsItsWord}
pub use Rattle.world_laws.proofs.Choices.{if_so}
pub use Rattle.world_laws.specs.Writes.{EndWrites, Only, Writes, OnlyAt, EndView, PathView, end_view, path_view, hide, writes, side_of, ask_writes, step_writes, silent_writes, on_link, acking, acknowledged, happening, heard_writes, copy_said, at_end, looking, nothing}
pub use Rattle.world_laws.specs.StampedBooks.{answer_to, journals_of}
pub use Rattle.world_laws.specs.Asking.{May, may, may_reassemble, asking, IsAsked, asks_of_steps, may_send, may_tell, IsOwn, IsAt, asks_of_books}
pub use Rattle.world_laws.specs.RoundEnd.{asks_grant, is_no_grant, refused_after, last_refused, IsReaderDone, IsDoneReading, ReadersAreDone}
pub use Rattle.world_laws.specs.RoundNumbers.{BeginsRound, InEachRound, steps_since, last_asked, frees_bytes, frees_after, OthersFreed, AskForAll, AskedForAll, PathsAskForAll, is_standby, GrantsAreDone, ReadersCaughtUp, taken_len, last_on_standby, AreDoneAsking}
pub use Rattle.world_laws.specs.Fresh.{IsFreshCrew, IsFreshMember, IsFreshTurn, AreFresh, shown_crew, shown_member, shown_world, IsFreshPath}
pub use Rattle.world_laws.specs.Outcomes.{notes_at, notes_of, output_of, pipe_of, read_by, was_told, tells_end, notes_or, outcome_of, note_tells, bytes_noted, tells_abort, tells_stop, pipe_ab, pipe_ba}
pub use Rattle.world_laws.specs.Altered.{BothKeepCount, HoldsCheckedOfOctets, PlacedUntilTheFall, PrefixUntilTheFall, StaysRight, fell_back, is_fallback, octet_at, FallsForGood, KeepsCount, HoldsChecked}
pub use Rattle.world_laws.specs.Fine.{NotesRise, last_noted, AreStamped, BooksAreStamped, IsFineCrew, lists_of, IsFine, IsChainedAbove, top_after}
pub use Rattle.world_laws.specs.Serial.{OneOf, steps_and, round_and, spelled, IsTurn, AreTurns, after_turns, after_round, AreRounds, IsSerial}
pub use Rattle.world_laws.specs.Weaving.{AreEntries, JournalGrew, BooksGrew, after_note, after_notes, IsStepOf, AreStepsOf, Stepped, AllStepped, Begins, Worked, steps_by, woven, woven_rounds, WovenDoes, StepsWeave, RoundsWeave}
