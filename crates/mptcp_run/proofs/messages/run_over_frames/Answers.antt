use Rattle.std.proofs.Common.{sym, subst, [], map, string_bytes, IfSome, Some}
use Rattle.message_pipe.specs.Lined.{lined_content, lined_holds}
use Rattle.run_words.specs.Lines.{as_line}
use Rattle.mptcp_run.specs.Answers.{IsAnswer}
use Rattle.mptcp_run.specs.Asked.{asked_in}
use Rattle.mptcp_run.proofs.MessagesShown.{ran_over_frames}
use Rattle.mptcp_run.proofs.messages.run_over_frames.Goals as goal

pub returns : goal.returns
returns g c =
    let told = g.O.Outside.told in
    let last = c.run-status.new.outside in
    let contents = lined_content last.file_a last.file_b (told last.inner).content in
    let first_is = subst (λ l. IfSome (asked_in (map string_bytes c.args.words.now)) (λ line. IsAnswer line
    (record (told l.inner) { content = lined_content l.file_a l.file_b (told l.inner).content; holds = lined_holds l.read_by_a.octets l.read_by_b.octets (told l.inner).holds; calls = Some l.calls })
    (record (told last.inner) { content = contents; holds = lined_holds last.read_by_a.octets last.read_by_b.octets (told last.inner).holds; calls = Some last.calls })
    c.run-status.result)) c.new-lines.ensures c.run-status.ensures.answer in
    let last_is = subst (λ o. IfSome (asked_in (map string_bytes c.args.words.now)) (λ line. IsAnswer line
    (record (told c.args.outside) { content = lined_content (string_bytes c.args.files.0) (string_bytes c.args.files.1) (told c.args.outside).content; holds = lined_holds [] [] (told c.args.outside).holds; calls = Some [] })
    (record (told o) { content = contents; holds = lined_holds last.read_by_a.octets last.read_by_b.octets (told o).holds; calls = Some last.calls }) c.run-status.result))
    (sym c.into_inner.ensures.inner) first_is in
    ran_over_frames (asked_in (map string_bytes c.args.words.now)) (as_line c.args.line.now) (string_bytes c.args.files.0) (string_bytes c.args.files.1) contents
    (told c.args.outside) (told c.into_inner.result) g.N.Naming.faults g.N.Naming.held g.N.Naming.calls last.calls last.read_by_a last.read_by_b c.run-status.result
    c.requires.words last_is c.requires.held c.requires.faults c.requires.calls c.into_inner.ensures.ports c.into_inner.ensures.calls c.requires.file_a c.requires.file_b
