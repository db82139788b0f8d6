use Rattle.std.proofs.Common.{sym, map, string_bytes}
use Rattle.run_words.specs.Lines.{as_line}
use Rattle.mptcp_run.specs.Messages.{messages_in}
use Rattle.mptcp_run.proofs.MessagesShown.{messages_shown, messages_called, taken, not_taken, taken_is_asked, of_line, of_nothing, not_nothing, unread_messages, unread_lines, unread_called}
use Rattle.mptcp_run.proofs.MessagesClean.{clean_if_messages, few_if_messages}
use Rattle.mptcp_run.proofs.Asking.{unread}
use Rattle.mptcp_run.proofs.messages.run_messages.Goals as goal

pub run_line-requires-clause-words : goal.run_line-requires-clause-words
run_line-requires-clause-words g c _ _ =
    taken_is_asked (map string_bytes c.args.words.now) (as_line c.in-Ok.line) c.in-Ok.ensures.line (sym c.if-takes_messages.ensures)

pub returns-in-Ok-clause-answer : goal.returns-in-Ok-clause-answer
returns-in-Ok-clause-answer g c =
    of_line (messages_in (map string_bytes c.args.words.now)) (as_line c.in-Ok.line) _
    (taken (map string_bytes c.args.words.now) (as_line c.in-Ok.line) c.in-Ok.ensures.line (sym c.if-takes_messages.ensures)) c.run_line.ensures

pub returns-in-Ok-clause-lines : goal.returns-in-Ok-clause-lines
returns-in-Ok-clause-lines g c =
    of_line (messages_in (map string_bytes c.args.words.now)) (as_line c.in-Ok.line) _
    (taken (map string_bytes c.args.words.now) (as_line c.in-Ok.line) c.in-Ok.ensures.line (sym c.if-takes_messages.ensures))
    (messages_shown (as_line c.in-Ok.line) (g.O.Outside.told c.args.outside) (g.O.Outside.told c.run_line.result.1) c.run_line.result.0
    c.requires.empty_a c.requires.empty_b (sym c.if-takes_messages.ensures) c.run_line.ensures)

pub returns-in-Ok-clause-clean : goal.returns-in-Ok-clause-clean
returns-in-Ok-clause-clean g c =
    clean_if_messages (g.O.Outside.told c.args.outside) (g.O.Outside.told c.run_line.result.1) c.run_line.result.0 (messages_in (map string_bytes c.args.words.now)) (returns-in-Ok-clause-answer g c)

pub returns-in-Ok-clause-few : goal.returns-in-Ok-clause-few
returns-in-Ok-clause-few g c =
    few_if_messages (g.O.Outside.told c.args.outside) (g.O.Outside.told c.run_line.result.1) c.run_line.result.0 (messages_in (map string_bytes c.args.words.now)) (returns-in-Ok-clause-answer g c)

pub returns-in-Ok-clause-neither : goal.returns-in-Ok-clause-neither
returns-in-Ok-clause-neither g c none =
    absurd (not_nothing (messages_in (map string_bytes c.args.words.now)) (as_line c.in-Ok.line)
    (taken (map string_bytes c.args.words.now) (as_line c.in-Ok.line) c.in-Ok.ensures.line (sym c.if-takes_messages.ensures)) none)

pub returns-in-Ok-2-clause-answer : goal.returns-in-Ok-2-clause-answer
returns-in-Ok-2-clause-answer g c =
    of_nothing (messages_in (map string_bytes c.args.words.now)) _
    (not_taken (map string_bytes c.args.words.now) (as_line c.in-Ok.line) c.in-Ok.ensures.line (sym c.if-takes_messages.ensures))

pub returns-in-Ok-2-clause-clean : goal.returns-in-Ok-2-clause-clean
returns-in-Ok-2-clause-clean g c =
    of_nothing (messages_in (map string_bytes c.args.words.now)) _
    (not_taken (map string_bytes c.args.words.now) (as_line c.in-Ok.line) c.in-Ok.ensures.line (sym c.if-takes_messages.ensures))

pub returns-in-Ok-2-clause-few : goal.returns-in-Ok-2-clause-few
returns-in-Ok-2-clause-few g c =
    of_nothing (messages_in (map string_bytes c.args.words.now)) _
    (not_taken (map string_bytes c.args.words.now) (as_line c.in-Ok.line) c.in-Ok.ensures.line (sym c.if-takes_messages.ensures))

-- ---- words that weren't read

pub returns-in-Err-clause-answer : goal.returns-in-Err-clause-answer
returns-in-Err-clause-answer g c =
    unread_messages (g.O.Outside.told c.args.outside)
    (map string_bytes c.args.words.now) c.in-Err.status c.in-Err.ensures.fault

pub returns-in-Err-clause-lines : goal.returns-in-Err-clause-lines
returns-in-Err-clause-lines g c =
    unread_lines (g.O.Outside.told c.args.outside).content (g.O.Outside.told c.args.outside).holds c.requires.empty_a c.requires.empty_b
    (map string_bytes c.args.words.now) c.in-Err.status c.in-Err.ensures.fault

pub returns-in-Err-clause-neither : goal.returns-in-Err-clause-neither
returns-in-Err-clause-neither g c none =
    unread (g.O.Outside.told c.args.outside)
    (map string_bytes c.args.words.now) c.in-Err.status c.in-Err.ensures.fault

pub returns-in-Err-clause-clean : goal.returns-in-Err-clause-clean
returns-in-Err-clause-clean g c =
    clean_if_messages (g.O.Outside.told c.args.outside) (g.O.Outside.told c.args.outside) c.in-Err.status (messages_in (map string_bytes c.args.words.now)) (returns-in-Err-clause-answer g c)

pub returns-in-Err-clause-few : goal.returns-in-Err-clause-few
returns-in-Err-clause-few g c =
    few_if_messages (g.O.Outside.told c.args.outside) (g.O.Outside.told c.args.outside) c.in-Err.status (messages_in (map string_bytes c.args.words.now)) (returns-in-Err-clause-answer g c)

-- ---- the calls

pub returns-in-Ok-clause-calls : goal.returns-in-Ok-clause-calls
returns-in-Ok-clause-calls g c =
    of_line (messages_in (map string_bytes c.args.words.now)) (as_line c.in-Ok.line) _
    (taken (map string_bytes c.args.words.now) (as_line c.in-Ok.line) c.in-Ok.ensures.line (sym c.if-takes_messages.ensures))
    (messages_called (as_line c.in-Ok.line) (g.O.Outside.told c.args.outside) (g.O.Outside.told c.run_line.result.1) c.run_line.result.0 (sym c.if-takes_messages.ensures) c.run_line.ensures)

pub returns-in-Ok-2-clause-calls : goal.returns-in-Ok-2-clause-calls
returns-in-Ok-2-clause-calls g c =
    of_nothing (messages_in (map string_bytes c.args.words.now)) _
    (not_taken (map string_bytes c.args.words.now) (as_line c.in-Ok.line) c.in-Ok.ensures.line (sym c.if-takes_messages.ensures))

pub returns-in-Err-clause-calls : goal.returns-in-Err-clause-calls
returns-in-Err-clause-calls g c =
    unread_called (g.O.Outside.told c.args.outside).content (g.O.Outside.told c.args.outside).calls (map string_bytes c.args.words.now) c.in-Err.status c.in-Err.ensures.fault
