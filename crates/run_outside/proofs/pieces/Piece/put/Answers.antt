use Rattle.std.proofs.Common.{◌≡◌, ◌∙◌, ◌++◌, Err}
use Rattle.std.proofs.lemmas.Result.{err_from_is_err_and}
use Rattle.outside_kit.specs.declared.port.Port.TheVariants.{ReadByA, ReadByB, Log}
use Rattle.run_outside.specs.Plan.{put_of}
use Rattle.run_outside.proofs.Calling.{puts_then, puts_longer}
use Rattle.run_outside.proofs.PortsLemmas.{OnErr-holds, whole_part, after_from}
use Rattle.run_outside.proofs.pieces.Piece.put.Goals as goal

pub returns-in_err-put_text-2-clause-read_by_b_err : goal.returns-in_err-put_text-2-clause-read_by_b_err
returns-in_err-put_text-2-clause-read_by_b_err g c =
    OnErr-holds _ _ (whole_part _ _ _ c.args.self.now.read_by_b c.in_ok-put_text.ensures.ok
    (c.put_text-2.ensures.other_ports ReadByB (λ e. let no : ReadByB ≡ ReadByA = e in cc (no))))

pub returns-clause-read_by_b_err : goal.returns-clause-read_by_b_err
returns-clause-read_by_b_err g c =
    OnErr-holds _ _ (whole_part _ _ _ c.args.self.now.read_by_b c.in_ok-put_text.ensures.ok
    (c.put_text-3.ensures.other_ports ReadByB (λ e. let no : ReadByB ≡ Log = e in cc (no)) ∙ c.put_text-2.ensures.other_ports ReadByB (λ e. let no : ReadByB ≡ ReadByA = e in cc (no))))

pub returns-clause-read_by_a_err : goal.returns-clause-read_by_a_err
returns-clause-read_by_a_err g c =
    OnErr-holds _ _ (whole_part _ _ _ c.args.self.now.read_by_a
    (after_from _ _ _ (λ held. held ++ c.args.self.now.read_by_a) (c.put_text.ensures.other_ports ReadByA (λ e. let no : ReadByA ≡ ReadByB = e in cc (no))) c.in_ok-put_text-2.ensures.ok)
    (c.put_text-3.ensures.other_ports ReadByA (λ e. let no : ReadByA ≡ Log = e in cc (no))))

pub returns-in_err-put_text-clause-puts : goal.returns-in_err-put_text-clause-puts
returns-in_err-put_text-clause-puts g c =
    let p = err_from_is_err_and c.from_residual.result c.from_residual.ensures.1 in
    rw (p.1, p.2) (puts_longer (put_of ReadByB c.args.self.now.read_by_b) (put_of ReadByA c.args.self.now.read_by_a ++ put_of Log c.args.self.now.lines)
    _ _ c.in_err-put_text.field-0.0 c.in_err-put_text.ensures.puts)

pub returns-in_err-put_text-2-clause-puts : goal.returns-in_err-put_text-2-clause-puts
returns-in_err-put_text-2-clause-puts g c =
    let p = err_from_is_err_and c.from_residual-in_err-put_text-2.result c.from_residual-in_err-put_text-2.ensures.1 in
    rw (p.1, p.2) (puts_then (put_of ReadByB c.args.self.now.read_by_b) (put_of ReadByA c.args.self.now.read_by_a ++ put_of Log c.args.self.now.lines)
    _ _ _ _ (Err c.in_err-put_text-2.field-0.0) c.in_ok-put_text.ensures.puts
    (puts_longer (put_of ReadByA c.args.self.now.read_by_a) (put_of Log c.args.self.now.lines) _ _ c.in_err-put_text-2.field-0.0 c.in_err-put_text-2.ensures.puts))

pub returns-clause-puts : goal.returns-clause-puts
returns-clause-puts g c =
    puts_then (put_of ReadByB c.args.self.now.read_by_b) (put_of ReadByA c.args.self.now.read_by_a ++ put_of Log c.args.self.now.lines)
    _ _ _ _ c.put_text-3.result c.in_ok-put_text.ensures.puts
    (puts_then (put_of ReadByA c.args.self.now.read_by_a) (put_of Log c.args.self.now.lines) _ _ _ _ c.put_text-3.result
    c.in_ok-put_text-2.ensures.puts c.put_text-3.ensures.puts)
