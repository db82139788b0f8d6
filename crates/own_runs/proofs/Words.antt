-- Words that several files of these proofs use, given on.
pub use Rattle.std.proofs.Common.{◌≡◌, refl, sym, ◌∙◌, ap, subst, ℕ, zero, suc, ◌+◌, ◌-◌, ◌^◌, ◌<◌, ◌≤◌, ◌⊎◌, inl, inr, ⊎_elim, Bool, true, false, if◌then◌else◌, nat_le, nat_lt, Result, Ok, Err, Option, Some, None, option_map, option_and_then, List, [], ◌∷◌, ◌++◌, length, length-append, length-take, length-drop, take, drop, map, fold, append_assoc, arith, ◌==◌, ◌&&◌, ◌%◌, set, not, replicate, is_some, get_or, find, sum_by, ◌||◌, All, min, unwrap_or, append-nil}
pub use Rattle.std.proofs.lemmas.Bool.{and_parts, both_ways, false≢true, eqb-false, le-leb, leb-true, ltb-false, ltb-true, and_from, eq-eqb, cases_lt, eqb-true, lt-ltb, ne_eqb}
pub use Rattle.std.specs.List.{count_by, slice_get, list_all}
pub use Rattle.std.proofs.lemmas.Option.{same_Some, slice_get_within}
pub use Rattle.std.specs.Option.{IfSome, option_or}
pub use Rattle.key_material.specs.KeyDigest.{idsn_of}
pub use Rattle.sides.specs.declared.side.Side.{Side}
pub use Rattle.sides.specs.declared.side.Side.TheVariants.{A, B}
pub use Rattle.segment_wire.specs.Reading.{has_broken_option, has_wrong_checksum, has_wrong_offset, is_short, segment_in, header_len}
unfoldable pub use Rattle.segment_wire.specs.Reading.{segment_meaning}
pub use Rattle.segment_wire.specs.Segment.{Segment, octets_with}
unfoldable pub use Rattle.segment_wire.specs.Segment.{fixed_header, segment_text}
pub use Rattle.segment_wire.specs.declared.reading.SegmentFault.{SegmentFault}
pub use Rattle.send_book.specs.declared.call.SendCall.{SendCall}
pub use Rattle.send_book.specs.Laws.{covers, is_asked_by}
pub use Rattle.send_book.specs.Steps.{decision, part_of, reply_by, reply_to as send_reply}
pub use Rattle.subflow_send.specs.Records.{Record, SendState}
pub use Rattle.subflow_send.specs.Rules.{ack_kind, after_acknowledge, after_resent, sample_of, uncovered, is_unsent, octets_under_way}
pub use Rattle.subflow_send.specs.declared.record.RecordKind.TheVariants.{Syn, Data, Fin}
pub use Rattle.subflow_tcp.specs.State.{EndState, is_at_limit, has_records}
pub use Rattle.subflow_tcp.specs.States.{is_dead, is_half_open, is_waiting, may_finish, is_closed_to_segments}
pub use Rattle.link_trace.specs.declared.sent.Sent.{Sent}
pub use Rattle.link_trace.specs.Carrying.{behind, carried_in, carried_of, carries, dss_in, dss_read, first_byte, first_number, initial_in, low_half, low_number, mapped, no_dss, payload_len, place_mapped, place_of, shift_by, shift_told, shifted, shifts_after, shifts_in, value_dss, all_carried, carried_behind, initial_at}
pub use Rattle.link_trace.specs.FirstOctets.{EachEndsBy, EndsBy, OneHasOctet, HasOctet}
pub use Rattle.link_trace.specs.declared.carried.Base.{Base}
pub use Rattle.link_trace.specs.declared.carried.PathInitials.{PathInitials}
pub use Rattle.link_trace.specs.Meanings.{meaning_in}
pub use Rattle.path_segments.specs.Spelled.{CanSay, PlainSegment, options_text, padded, padding, spelled_text, syn_text, unpadded_options, CanSayOption}
unfoldable pub use Rattle.path_segments.specs.Spelled.{spelled}
pub use Rattle.path_segments.specs.Spelling.{data_number, numbers_of, subflow_number, whole_number}
pub use Rattle.path_agenda.specs.declared.duty.Duty.{Duty}
pub use Rattle.path_agenda.specs.declared.duty.StepDuty.{StepDuty}
pub use Rattle.actor_desk.specs.declared.ask.Reply.{Reply}
pub use Rattle.actor_desk.specs.Words.{is_nil, tail_of, pick}
pub use Rattle.actor_desk.specs.declared.ask.Ask.{Ask}
pub use Rattle.actor_desk.specs.Books.{books_in}
pub use Rattle.actor_desk.specs.Desk.{send_of, SixBooks}
pub use Rattle.path_core.specs.Duties.{stands, passed, answered, ask_for}
pub use Rattle.path_core.specs.Emission.{Grant, grant_in, answered_grant, answered_data, first_unsent, answer_occasion, answer_of, resend_occasion, dead_answer, resend_of, data_stands, may_ask, payload_size, data_ask, fits, granted, may_send_data, ack_resent, answer_said, first_record, resend_said}
pub use Rattle.path_core.specs.End.{PathEnd, died}
pub use Rattle.path_core.specs.State.{at_tick, PathState, end_at, goes_on, left, with_agenda, with_end, path_of}
pub use Rattle.path_core.specs.OptionsOut.{ack_said, carried_said, noted_said, record_options, record_or_ack, record_said, reset_said, syn_ack_said}
pub use Rattle.path_core.specs.Steps.{settled, answers, takes, begins_turn, asks_first, asks_of, settles_down}
pub use Rattle.path_core.specs.Treating.{answered_heard, answered_item, item_of, item_passed}
pub use Rattle.path_core.specs.Looking.{broken_by, departing_as, duty_sends, heard_sends, unsent_sends, first_sends, departing}
pub use Rattle.path_core.specs.Octets.{made, octets, sum_of}
pub use Rattle.path_core.specs.Values.{values}
pub use Rattle.path_core.specs.declared.looking.Departing.{Departing}
pub use Rattle.path_core.specs.DssOut.{checksum_told, first_piece_options, infinite_or, is_first_piece, mapped_options, owes_mapping, piece_mapping, piece_options, place_numbered, plain_options, mapping_of}
pub use Rattle.path_core.specs.Profile.{Profile}
pub use Rattle.stream_lanes.specs.Words.{Every, Has}
pub use Rattle.stream_lanes.proofs.Lists.{Has-more, in_append, in_map, in_one, in_set, Every-append, Every-nil}
pub use Rattle.stream_lanes.specs.Holding.{AskHolds, DirectionHolds, HasPlace, Holds, LaneHolds, IsHonest, IsRight}
pub use Rattle.stream_lanes.specs.View.{View, view_of}
pub use Rattle.stream_lanes.specs.Lane.{Ask as LaneAsk, Cell, Lane, Mapping}
pub use Rattle.stream_lanes.specs.Duo.{Duo, flags_ab, flags_ba, after_event, after_events}
pub use Rattle.world_laws.specs.Openings.{PathPlan, Start, new_path, opened_world, path_begins, paths_from}
pub use Rattle.world_laws.specs.Promises.{IsPlain, NumbersFit, was_told_end}
pub use Rattle.world_laws.specs.Actors.{Actor, ActorCrew, is_over, member_asks, member_next, member_takes}
pub use Rattle.world_laws.specs.Worlds.{AreLawful, WorldState, Turn, after_turn, all_over, asked, begins, crew_after, end_round, greatest, note_of, stepped, world_run}
pub use Rattle.world_laws.proofs.Worlds.CastLifting.{each_actor, path_actor, writes_the_files}
pub use Rattle.world_laws.proofs.Lanes.OfAWorld.{Carries, IsSteady, Links, NoneIsFirm, Shown, WorldShows, asked_by, asked_in, first_duo, free_turn, plainly, plainly_free, turn_events, turn_is, AreSilent, CallIs, LaneAsks, ReassemblyCallIs, SendCallIs, TurnShows, call_events, is_silent, PathIsSteady, PathThere, StandsSo, duo_of, free_run}
pub use Rattle.world_laws.proofs.Promises.Made.{run_fresh}
pub use Rattle.run_trace.specs.Initials.{initials_of, plan_initials}
pub use Rattle.run_trace.specs.Trace.{sent_as, sent_at, sent_by, sent_next, trace_of}
pub use Rattle.own_runs.specs.Counting.{DeliveredFilesWereCounted, base_from}
pub use Rattle.own_runs.specs.Sending.{CarriesPlace, DeliveredFilesWereSent, ended, payload_in}
