-- Words that several files of these proofs use, given on.
pub use Rattle.std.proofs.Common.{◌≡◌, refl, sym, subst, ap, ◌∙◌, ℕ, ◌+◌, ◌-◌, ◌<◌, ◌≤◌, min, max, nat_lt, Bool, true, false, cond, not, ◌&&◌, ◌||◌, if◌then◌else◌, ◌⊎◌, inl, inr, ⊎_elim, Option, None, List, [], ◌∷◌, ◌++◌, length, map, filter, All, arith, Some, suc, le_refl, zero, is_some, nat_le, drop, ◌==◌, ◌^◌, replicate, take, find, IfSome, is_none, ◌*◌, length-take, fold, unwrap_or, Ok, Err, position, sum_by, ◌/◌, drop_of_length-le, Result, mul-le-mul_right}
pub use Rattle.std.proofs.lemmas.Bool.{both_ways, cases_lt, and_parts, lt-ltb, le-ltb, lt-leb, ltb-false, le-leb, ltb-true, leb-true, eq-eqb, ne_eqb, eqb-true, leb-false, not-true, cases_eq, or_from, eqb-false}
pub use Rattle.std.proofs.lemmas.List.{length-replicate, append-nil}
pub use Rattle.std.proofs.lemmas.List.Elements.{All-nil, All-cons, All-head, All-tail, All-push, All-weaker}
pub use Rattle.std.specs.List.{position_or_len, prefix_len, list_any, AllByRecursion, slice_get}
pub use Rattle.std.proofs.lemmas.Option.{same_Some}
pub use Rattle.std.specs.Option.{option_or, option_and_then}
pub use Rattle.fallback_state.specs.Modes.{is_identity, is_starting, reads_mappings}
pub use Rattle.fallback_state.specs.Table.{after_sure_sign, stays}
pub use Rattle.sides.specs.declared.side.Side.{Side}
pub use Rattle.sides.specs.declared.side.Side.TheVariants.{A, B}
pub use Rattle.sides.specs.Side.{peer}
pub use Rattle.link_script.specs.Places.{same_side}
pub use Rattle.link_script.specs.declared.script.PathLine.{PathLine}
pub use Rattle.link_script.specs.Scripts.{IsInRange, IsPath}
pub use Rattle.link_script.specs.declared.script.ScriptLine.{ScriptLine}
pub use Rattle.control_book.specs.Control.{Control, peer_or_zero, is_path, withdrawals_on, new_control}
unfoldable pub use Rattle.control_book.specs.Control.{no_withdrawals}
pub use Rattle.control_book.specs.Steps.{after_notice, after_look as book_looked, after_keys, after_live, after_peer_key, after_keys as keys_in_book, after_rate}
pub use Rattle.control_book.specs.Replies.{address_notice, announcement, carries, is_aborted, notice_on, look_reply, resets, is_sure}
pub use Rattle.control_book.specs.declared.registry.PathState.{PathState as RegistryPath}
pub use Rattle.control_book.specs.Registry.{lowest_living, standby, state_of, with_phase, with_row}
unfoldable pub use Rattle.control_book.specs.Registry.{every_path, opening_paths, serves_beside}
pub use Rattle.control_book.specs.declared.call.ControlReply.{ControlReply}
pub use Rattle.control_book.specs.declared.call.ControlCall.{ControlCall}
pub use Rattle.reassembly_book.specs.State.{Arriving, filled, received, top}
pub use Rattle.reassembly_book.specs.Steps.{clash, reaches_past, edge, is_taken, places_after, after_place, after_read, after_reading, next_wanted, window, is_end, read_reply, bytes_reply, place_reply, placed_reply, fin_reply_by, fin_clash, after_fin, reading}
pub use Rattle.reassembly_book.specs.declared.call.ReassemblyCall.{ReassemblyCall}
pub use Rattle.reassembly_book.specs.declared.call.ReassemblyReply.TheVariants.{NoneYet, End as TheEnd, Beyond}
pub use Rattle.send_book.specs.Steps.{is_for, first_free, run_len, span_at, decision, fin_after, after_ack, is_future, after_write, after_close, write_reply, close_reply, bytes_taken, reply_by, given_by, part_of, change_part}
pub use Rattle.send_book.specs.State.{acked_len, Sending as SendBook}
pub use Rattle.send_book.specs.declared.mark.ByteMark.TheVariants.{Acked, Held, Free}
pub use Rattle.send_book.specs.declared.call.SendCall.{SendCall}
pub use Rattle.send_book.specs.Tried.{no_paths}
pub use Rattle.send_book.specs.declared.mark.ByteMark.{ByteMark}
pub use Rattle.send_book.specs.Marks.{is_acked, is_free_for, given}
pub use Rattle.send_book.specs.declared.call.Why.{Why}
pub use Rattle.dss_mapping.specs.declared.kept.KeptMapping.{KeptMapping}
pub use Rattle.dss_mapping.specs.Learning.{after_learn_held, all_covered, answer_by, clash_from, clash_of, clash_or, clashes_if, first_held, first_of, held_clashes, learn_of, learned_if, others_of, after_hold as after_hold_mappings}
pub use Rattle.dss_mapping.specs.Mappings.{Mappings, after_learn, place_at, run_of, tail_at, mapping_at, after_forget}
pub use Rattle.subflow_recv.specs.Receiving.{Receiving, after_hold, Receiving as SubflowReceiving, after_pass, after_keep_held, without_held}
pub use Rattle.subflow_send.specs.declared.record.AckKind.{AckKind}
pub use Rattle.subflow_send.specs.declared.record.AckKind.TheVariants.{Duplicate}
pub use Rattle.subflow_send.specs.Records.{Record, SendState, Tile, span_of}
pub use Rattle.subflow_send.specs.Rules.{is_unsent, uncovered, newly_acknowledged, ack_kind, after_acknowledge, sample_of, syn_record, after_resent, acknowledged_in, octets_under_way, flight, is_fin, fin_record, fin_sent, after_fin_sent, after_sent, first_unsent_sent}
pub use Rattle.subflow_send.specs.Sendings.{never_sent, sent_again}
pub use Rattle.subflow_send.specs.declared.record.RecordKind.TheVariants.{Data}
pub use Rattle.loss_recovery.specs.declared.windows.Congestion.{Congestion}
pub use Rattle.loss_recovery.specs.Windows.{is_growth_linked, duplicated, grown_by, after_growth, is_same_place, is_same_told}
pub use Rattle.loss_recovery.specs.Timers.{heard as timing_heard, measured, rtt_told, timer_settled}
pub use Rattle.loss_recovery.specs.declared.windows.Told.{Told}
pub use Rattle.subflow_tcp.specs.declared.handshake.State.{State}
pub use Rattle.subflow_tcp.specs.State.{is_behind, is_fin_passed, EndState, has_records, is_at_limit, is_some_record}
pub use Rattle.subflow_tcp.specs.States.{is_closed_to_segments, may_finish, is_half_open, is_dead, after_fin_acked, after_handshake, after_fin_passed}
pub use Rattle.subflow_tcp.specs.Taking.{after_hearing, after_payload, after_new_ack, after_acknowledgement, after_telling, after_occupying, told_by_syn, is_fin_acked, is_duplicate, is_empty, first_fin, after_ack_kind, arrival_of, after_holding, after_row, after_duplicate, after_interruption, after_dropping_held, after_keeping_held, after_established}
pub use Rattle.subflow_tcp.proofs.WindowGrowth.{Grows, same_grows, ack_grows, acknowledged_grows}
pub use Rattle.subflow_tcp.specs.declared.segments.Outgoing.{Outgoing}
pub use Rattle.subflow_tcp.specs.declared.handshake.State.TheVariants.{Listen, SynSent, Established, Dead}
pub use Rattle.subflow_tcp.specs.declared.verdicts.Meaning.{Meaning}
pub use Rattle.subflow_tcp.specs.Judging.{is_in_window, ends_in_window, is_at_right_edge, is_acceptable, is_repeated_syn, meaning_acknowledging, meaning_at, meaning_connected, meaning_of, meaning_outside, meaning_placed, meaning_within, is_at, is_syn_alone}
pub use Rattle.subflow_tcp.specs.Segments.{Copy as SubflowCopy, occupied, one_if}
pub use Rattle.subflow_tcp.specs.declared.dues.Due.{Due}
pub use Rattle.subflow_tcp.specs.Dues.{nothing_due, owing_ack}
pub use Rattle.subflow_tcp.specs.declared.segments.Occasion.{Occasion}
pub use Rattle.subflow_tcp.specs.Closing.{is_fin_next, after_passing_fin, after_finishing}
pub use Rattle.subflow_tcp.specs.Emitting.{after_sending, ack_at}
pub use Rattle.link_model.specs.declared.flight.Flight.{Flight}
pub use Rattle.link_model.specs.Laws.{going_to, plain_flight, WereSentBefore}
pub use Rattle.link_model.specs.Steps.{without, is_due, due_of, with_flight, with_flights, arrivals, first_arrival, comes_before, after_send, next_number, next_due, arriving, changed}
pub use Rattle.link_model.specs.State.{LinkState}
pub use Rattle.link_model.proofs.Order.{earliest, in_order_sent, earliest as first_of_all}
pub use Rattle.path_segments.specs.Laws.{meant, window_told}
pub use Rattle.path_segments.specs.Heard.{HeardSegment}
pub use Rattle.path_segments.specs.declared.segment.PathOption.TheVariants.{Dss, Capable}
pub use Rattle.path_segments.specs.Spelled.{PlainSegment}
pub use Rattle.path_store.specs.declared.infinite_mapping.InfiniteMapping.{InfiniteMapping}
pub use Rattle.path_store.specs.InfiniteMappings.{fin_under}
pub use Rattle.path_store.specs.Receiving.{data_fin_reached, data_fin_behind}
pub use Rattle.path_store.specs.declared.granted_piece.GrantedPiece.{GrantedPiece}
pub use Rattle.path_store.specs.Granted.{is_newly_heard, is_open, is_all_acknowledged}
pub use Rattle.path_store.specs.Passing.{some_piece}
pub use Rattle.path_store.specs.declared.mapped_data_fin.MappedDataFin.{MappedDataFin}
pub use Rattle.path_agenda.specs.declared.duty.Duty.{Duty}
pub use Rattle.path_agenda.specs.declared.duty.SendDuty.{SendDuty}
pub use Rattle.path_agenda.specs.declared.duty.StepDuty.{StepDuty}
pub use Rattle.path_agenda.specs.declared.duty.AskDuty.{AskDuty}
pub use Rattle.path_agenda.specs.Agenda.{heard_and, payload_came, copy_came, emission, start_of_turn, syn_ack_came, rest_of_turn, syn_came}
pub use Rattle.path_agenda.specs.Items.{place_in_first, wants_ack, keys_heard, key_heard}
pub use Rattle.path_agenda.specs.declared.heard.Heard.{Heard}
pub use Rattle.path_agenda.specs.declared.duty.SilentDuty.{SilentDuty}
pub use Rattle.actor_desk.specs.Words.{pick, is_nil, tail_of}
pub use Rattle.actor_desk.specs.declared.ask.Reply.{Reply}
pub use Rattle.actor_desk.specs.Desk.{SixBooks, reply_of, after_ask, reassembly_of}
pub use Rattle.actor_desk.specs.declared.ask.Ask.{Ask}
pub use Rattle.actor_desk.specs.Books.{books_in, after_entry}
pub use Rattle.stream_apps.specs.declared.duty.AppDuty.{AppDuty}
pub use Rattle.stream_apps.specs.declared.duty.AppDuty.TheVariants.{Write, Close, Read, End, FastClose, AbortSend, AbortReceive}
pub use Rattle.stream_apps.specs.Apps.{AppState}
pub use Rattle.stream_apps.specs.AppSteps.{app_ask, app_answered, app_answers, app_settles_down, app_takes, app_next_round, fresh_turn, start_of_app, ends_in, offered, app_settled, app_wrote, app_done, app_read, app_reads_on, bytes_in, app_stands}
pub use Rattle.path_core.specs.Profile.{Profile}
pub use Rattle.path_core.specs.Values.{Carried, carried_by, stripped, altered, values, as_arrived}
pub use Rattle.path_core.specs.End.{PathEnd, opening_end}
pub use Rattle.path_core.specs.DataFin.{answered_fin_heard, fin_ask, is_fin_set, is_data_fin_due, is_shut, after_acked, with_data_fin_sent, is_fin_due, place_passed, place_of_fin, is_data_fin_news, answered_data_fin_sent, answered_fin, after_pass_fin, is_all_granted, with_peer_data_fin, after_refusal, is_data_fin_owed}
pub use Rattle.path_core.specs.DssIn.{is_mapping, mapping_items, held_of, held_if, key_held, checksum_heard, kept_of, covered_by, answered_mapping, mapping_ask, with_learned, after_dss, answered_ack, with_skipped, with_data_fin}
pub use Rattle.path_core.specs.declared.modes.Modes.{Modes}
pub use Rattle.path_core.specs.Treated.{Treated}
pub use Rattle.path_core.specs.Arrival.{copy_of, copy_judged, reset_for, template_by, template_of, heard_in, copy_heard, copy_taken, told_at, treated_of, with_held, after_copy, owing_if}
pub use Rattle.path_core.specs.Standing.{look_ask, answered_look, ack_out_ask, answered_ack_out, is_connected, is_update_due, acknowledges, may_note, after_ack_out, has_grown, after_look}
pub use Rattle.path_core.specs.State.{at_tick, PathState, end_at, goes_on, with_agenda, with_end, left, path_of}
pub use Rattle.path_core.specs.OptionsIn.{edge_in_payload, has_data_ack, hint_of, is_plain_ack, octets_acked, items_of, options_heard}
pub use Rattle.path_core.specs.OptionsOut.{ack_said, opening_options, segment_of, record_said, record_or_ack, syn_ack_said, fin_said}
pub use Rattle.path_core.specs.Handover.{having_sent, sent_on, with_told}
pub use Rattle.path_core.specs.MpCapable.{syn_window_ask, peer_key_ask, answered_peer_key, live_ask, is_opened_by_keys, is_opened_plainly, with_peer_key, keys_ask, answered_opened, opened_ask, answered_syn_ack, is_plain_syn}
pub use Rattle.path_core.specs.Duties.{stands, ask_for, passed, answered}
pub use Rattle.path_core.specs.Emission.{first_unsent, fits, payload_size, data_stands, data_ask, grant_in, answered_grant, answered_data, is_syn_due, may_send_data, granted_at, with_piece, may_ask, answered_syn}
pub use Rattle.path_core.specs.Modes.{receives_infinite, receives_plainly, sends_plainly, fin_place, acknowledged_under}
pub use Rattle.path_core.specs.Treating.{answered_item, item_ask, item_of, item_passed, item_stands, answered_heard, heard_passed}
pub use Rattle.path_core.specs.MpJoin.{is_joined}
pub use Rattle.path_core.specs.Octets.{made}
pub use Rattle.path_core.specs.DssOut.{mapping_of, place_numbered, checksum_told, is_first_piece, bare_mapping, checksum_in, fail_beside, fail_options}
pub use Rattle.path_core.specs.Steps.{settled, answers, next_round}
pub use Rattle.path_core.specs.Deliver.{after_check, failing_by, forgotten_by, infinite_piece, mapped_piece, mapping_here, next_piece, piece_by, plain_piece, answered_piece, is_placed, piece_ask, fins_and, having_asked, after_pieces, breaks_by_unmapped, times_unmapped, with_data_fin_reached, after_keep, is_dropped, piece_in, is_right, checked_piece, after_piece}
pub use Rattle.path_core.specs.Fallback.{plain_ack_stands, plain_data_stands, subflow_ack_stands, with_plain_ack, mode_in, fell_ask, fell_duties, check_failed_stands, after_fell, answered_fell}
pub use Rattle.path_core.specs.Choices.{item_at, is_side_a, told_last}
pub use Rattle.path_core.specs.Events.{tick_of, earlier, before, next_join, next_line, next_copy, next_event, step_for, happens_if, is_dead_or_listening}
pub use Rattle.path_core.specs.Timer.{next_fire, with_timer_settled}
pub use Rattle.pace.specs.Lane.{Setting, Telling, Copy, Lane, Stage, is_whole, all_left, Sender, Receiver, data_ack, Writer, Reader, window_edge}
pub use Rattle.pace.specs.Going.{Going, Covers, may_tell, pending, Reason}
pub use Rattle.pace.specs.Moves.{Move, MaySay, MaySend, MayMove, MayHearAck, MayRefuse, MaySkip, HasEmitted, IsBefore, MayHearData, MayFlag, MayEndReading, MayEndWriting}
pub use Rattle.pace.specs.Moves.Move.{closes, ends_writing, ends_reading, asks, says, keeps_quiet, sends_none, is_refused, has_emitted, has_finished, waits_no_more, flags, hears, skips, is_acknowledged, goes_back, rests, asks as lane_asks, sends_bytes, moves as lane_moves, reads, settles as lane_settles, writes}
pub use Rattle.pace.specs.Rules.{opens_round, first_lane, said_by, repeats, is_same, hears_data, flagged, hears_ack, rested, sent_by, asked_out, next_row, tick_or, moved_to, has_read, refused_by, sends, settled_by, skipped as lane_skipped}
pub use Rattle.pace.specs.Lists.{Chain, In, repeated, first_at, Timed, data_fins}
pub use Rattle.pace.specs.Rounds.{Moves, Round, Linked, Course}
pub use Rattle.pace.proofs.Moving.{all_moves_going}
pub use Rattle.world_laws.specs.Openings.{PathPlan, Start, path_begins, opened_world, start_of, plan_of}
pub use Rattle.world_laws.specs.StampedBooks.{answer_to}
pub use Rattle.world_laws.proofs.Worlds.Casts.{Walker, Cast, Fare, Every-put, world_of, walking, after_a, after_b, after_path, walked, walks_on, next_cast, first_cast, first_fare, walker_there, new_walker}
pub use Rattle.world_laws.specs.Outcomes.{are_all_dead, is_no_live_path, notes_of, outcome_by, outcome_of, tells_abort, tells_end, was_told, note_tells}
pub use Rattle.world_laws.specs.Worlds.{WorldState, Turn, note_of, all_over, greatest, world_step, end_round, world_run, AreLawful, IsLawfulTurn}
pub use Rattle.clean_finish.specs.Machine.{seen_timer, SettlesAsALane, IsLong, StaysLong, IsPiece, FlightsAreSmall, HeadArrives}
pub use Rattle.clean_finish.specs.Shows.{AreTaken, Hand, EndIs, HeardIs, IsGranted, RecordsAre, WayIs, last_told, row_seen, brings_still, brings_in, IsPhase, IsOpen, IsToldEdge, Waits, tells_in, ControlIs, IsMapping, AreSpans, ModesAre, BookIs, NoticesAre, NoneMapped, IsIdle, IsFree, HasCome, IsPlainMode}
pub use Rattle.clean_finish.specs.Shows.Waits.{WaitsSyn, WaitsNone, WaitsBytes}
pub use Rattle.clean_finish.specs.Segments.{Sent, Keys, Brings, BringsAs, shows_keys, is_third, is_subflow_end, copy_in, octets_of, position_by, position_of, CountsAs, TellsAs, AcknowledgesAs, ShowsFirst, Rise, edge_after, said, FliesAs, Follow, data_fin_of, dss_from, low_after, control_after, keys_after, FlyAs, is_news, is_owed, is_piece, acknowledged_by, is_solid}
pub use Rattle.clean_finish.specs.Segments.Brings.{OpensSubflow, ShowsKeys, FirstPiece, Piece, Acknowledges, EndsStream, EndsSubflow}
pub use Rattle.clean_finish.specs.Shows.IsToldEdge.{Same, Before}
pub use Rattle.clean_finish.specs.Running.{Beside, MapsAs, Treats, TreatsCopy, count_in, heard_by, kept_in, own_bench, other_bench, FacesOfB, IsSetting, Runs, keys_in, Facing, Half, Has, StageIs, HasNotBegun, Bench, Running, FacesOfA, half, IsSettledSoon, any_duty, IsAppTurn, LinkIs, kept_piece, ArePlain, is_window, IsBetween, LaneStands, end_duties, place_duties, TreatsEnd, fin_duties, TreatsLast, TreatsAnswered, fin_in, TreatsDataFin, TreatsFin, last_duties, TreatsKeyed, TreatsBytes, IsLanded, TreatsTaken, AreBetween, IsMapped, is_syn, Treatment, TreatsThird, AppsShow, is_plain}
pub use Rattle.clean_finish.specs.Running.Treatment.{AtFirst, AfterOne, AfterTwo, AfterAll, AfterKeeping}
pub use Rattle.clean_finish.specs.Writing.{is_writing, WriterIs, WriterShows, WriterGoes}
pub use Rattle.clean_finish.specs.Reading.{is_reading, end_known, ReaderIs, ReaderShows, ReaderGoes}
pub use Rattle.clean_finish.specs.Running.IsAppTurn.{Begun, Written, Closed, ReadAll}
pub use Rattle.clean_finish.specs.Shows.IsPhase.{Opening, Listening, HalfOpen, Open, Opening as Opens}
pub use Rattle.clean_finish.specs.Books.{AckOutAsksAsLanes, AckInHearsAsLanes, ReceiverIs, AsksAsALane}
pub use Rattle.clean_finish.specs.Bound.{payload_of, segments, bound_of, enough_on, enough}
pub use Rattle.clean_finish.specs.Finish.{rounds_in, OfCleanRuns, CleanScriptsFinish, CleanScriptsGoOn}
pub use Rattle.clean_finish.specs.Laws.{setting_of, a_path, CleanLanesFinish}
pub use Rattle.clean_finish.specs.Shows.IsPlainMode.{Starts, IsSure}
