-- Words that several files of these proofs use, given on.
pub use Rattle.std.proofs.Common.{◌≡◌, ℕ, suc, ◌+◌, ◌/◌, ◌%◌, ◌^◌, ◌<◌, ◌≤◌, Bool, true, false, eqb, ltb, ◌&&◌, List, [], ◌∷◌, ◌++◌, length, take, drop, map, Some, None, Result, Ok, refl, ap, sym, ◌∙◌, arith, append_assoc, length-append, rules, cond, Option, subst, Err, string_bytes, ◌*◌, not, add-one}
pub use Rattle.std.specs.Prelude.{nat_lt, nat_le, codes, All, ◌==◌, is_ok, slice_index, MatchResult, IsOk, replicate}
pub use Rattle.std.specs.Fmt.{decimal}
pub use Rattle.std.specs.List.{list_all, position_or_len, AllByRecursion, flat_map}
pub use Rattle.std.proofs.lemmas.Bool.{and_parts, and_from, ltb-true, leb-true, le-leb, lt-ltb, agree_below_at, eqb-true}
pub use Rattle.std.proofs.lemmas.Bool.Decides.{nat_tests}
pub use Rattle.std.proofs.lemmas.Fmt.{digits_decimal, digits_value-decimal, decimal_nonempty, length-decimal-le, IsAscii-from_digits}
pub use Rattle.std.proofs.lemmas.List.Elements.{recursion_from_All, All-more}
pub use Rattle.std.specs.Str.{bytes_eq, IsUtf8}
pub use Rattle.std.specs.Str.Parse.{digits_value, ParsesUnsigned}
pub use Rattle.std.proofs.lemmas.List.{append-nil, nil_from_length, take_all}
pub use Rattle.std.specs.Char.{is_ascii_digit}
pub use Rattle.linked_increase.specs.declared.rows.Row.{Row}
pub use Rattle.fallback_state.specs.declared.fall.Event.{Event}
pub use Rattle.fallback_state.specs.declared.fall.Verdict.{Verdict}
pub use Rattle.key_material.specs.declared.address.Address.{Address}
pub use Rattle.key_material.specs.Address.{octets_of}
pub use Rattle.octet_text.specs.Lines.{text_lines}
pub use Rattle.sides.specs.declared.side.Side.{Side}
pub use Rattle.link_script.specs.Writing.{spaced}
pub use Rattle.link_script.proofs.Numerals.{AreDigits, digits}
pub use Rattle.control_book.specs.declared.call.Notice.{Notice}
pub use Rattle.control_book.specs.declared.call.ControlCall.{ControlCall}
pub use Rattle.control_book.specs.declared.call.ControlReply.{ControlReply}
pub use Rattle.reassembly_book.specs.declared.call.ReassemblyCall.{ReassemblyCall}
pub use Rattle.reassembly_book.specs.declared.call.ReassemblyReply.{ReassemblyReply}
pub use Rattle.send_book.specs.declared.call.SendCall.{SendCall}
pub use Rattle.send_book.specs.declared.call.SendReply.{SendReply}
pub use Rattle.actor_desk.specs.declared.ask.Ask.{Ask}
pub use Rattle.actor_desk.specs.declared.ask.LocalStep.{LocalStep}
pub use Rattle.run_log.specs.declared.fault.LogFault.{LogFault}
pub use Rattle.run_log.specs.declared.form.Expected.{Expected}
pub use Rattle.run_log.specs.declared.form.Expected.TheVariants.{Format, Width, Keys, Turns, Nothing}
pub use Rattle.run_log.specs.declared.turn.Turn.{Turn}
pub use Rattle.run_log.specs.Lines.{object_of, step_text, round_text, width_text, key_word, keys_text, outcome_text, ended, opening_lines, old_opening_lines, round_lines, rounds_lines}
pub use Rattle.run_log.specs.Fitting.{IsLong, IsByte, OptionFits, SendCallFits, SendReplyFits, ReassemblyCallFits, ReassemblyReplyFits, HeardFits, ControlCallFits, VerdictFits, NoticeFits, RowFits, ControlReplyFits, LocalFits, AskFits, HasItsOctets, ReplyFits, RowsFit, NoteFits}
pub use Rattle.run_log.specs.Form.{Fails, HasRoundBelow, is_nothing, silent, tells, step_or, end_line, after_line, turn_list}
unfoldable pub use Rattle.run_log.specs.Form.{taken_line, read_on, reading}
pub use Rattle.run_log.specs.Laws.{CanBeLogged, turns_of_round, turns_of, log_behind, ReadsToItsTurns, BeginsALog, IsFirstRefused, RefusesTheFirst, HasRowsInRange, LinesTellTheirNotes}
pub use Rattle.run_log.specs.Words.{flag_word, optional_word, reason_word, mode_word, event_words, verdict_words, notice_words, object_word}
pub use Rattle.run_log.specs.Calls.{send_call_words, reassembly_call_words, heard_words, control_call_words, local_words, ask_words}
pub use Rattle.run_log.specs.Replies.{send_reply_words, reassembly_reply_words, row_words, control_reply_words, reply_text}
pub use Rattle.run_log.specs.Fields.{is_number, is_object, is_printable, is_lower_hex, is_key, is_keys_line, is_outcome_line, are_words}
unfoldable pub use Rattle.run_log.specs.Fields.{field, actor_of, step_actor}
