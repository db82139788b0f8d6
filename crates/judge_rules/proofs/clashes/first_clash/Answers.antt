use Rattle.std.proofs.Common.{◌≡◌, sym, ◌∙◌, ap, ◌+◌, ◌-◌, ◌≤◌, ◌<◌, max, None, arith, rules}
use Rattle.first_runs.specs.Runs.{told_at, told_by}
use Rattle.judge_rules.specs.Clashes.{clash_by, first_clash}
use Rattle.judge_rules.proofs.Skipped.{none_told, ends_before, clashes, goes_on}
use Rattle.judge_rules.proofs.clashes.first_clash.Goals as goal

pub returns-in_err-run : goal.returns-in_err-run
returns-in_err-run c =
    let none : c.from_residual.result ≡ None = search rules in
    none
    ∙ sym (none_told (told_at c.args.places.now) c.loop-position.position (c.args.place + (c.loop-position.position - c.args.from))
    (c.args.to - c.loop-position.position) (λ q lo hi. c.in_err-run.ensures.none q lo))
    ∙ c.loop-position.invariant.left

pub returns-then-to-begin : goal.returns-then-to-begin
returns-then-to-begin c =
    let begins : c.max-begin.result ≡ max c.in_ok-run.run'.from c.loop-position.position = search rules in
    sym (ends_before c.args.places.now c.in_ok-run.run' c.loop-position.position (c.args.place + (c.loop-position.position - c.args.from)) c.args.to
    c.max-begin.result c.in_ok-run.ensures.some begins c.if-to-begin.true)
    ∙ c.loop-position.invariant.left

pub returns-in-Some : goal.returns-in-Some
returns-in-Some c =
    let begins : c.max-begin.result ≡ max c.in_ok-run.run'.from c.loop-position.position = search rules in
    let low : c.args.from ≤ c.loop-position.position = c.loop-position.invariant.low in
    let same : c.args.place + (c.loop-position.position - c.args.from) + (c.max-begin.result - c.loop-position.position) ≡ c.args.place + (c.max-begin.result - c.args.from) =
    omega arith in
    sym (clashes c.args.places.now c.in_ok-run.run' c.loop-position.position (c.args.place + (c.loop-position.position - c.args.from)) c.args.to
    c.max-begin.result c.in_ok-run.ensures.some begins c.in-Some.finding c.if-to-begin.false
    (ap (clash_by (told_by c.in_ok-run.run' c.max-begin.result) c.max-begin.result) same ∙ sym c.clash_by.ensures ∙ c.in-Some.is))
    ∙ c.loop-position.invariant.left

pub loop-position-preserved : goal.loop-position-preserved
loop-position-preserved c =
    let begins : c.max-begin.result ≡ max c.in_ok-run.run'.from c.loop-position.position = search rules in
    let low : c.args.from ≤ c.loop-position.position = c.loop-position.invariant.low in
    let behind = c.in_ok-run.ensures.some in
    let past : c.loop-position.position < c.in_ok-run.run'.to = behind.behind in
    let same : c.args.place + (c.loop-position.position - c.args.from) + (c.max-begin.result - c.loop-position.position) ≡ c.args.place + (c.max-begin.result - c.args.from) =
    omega arith in
    let next : c.args.place + (c.in_ok-run.run'.to - c.args.from)
    ≡ c.args.place + (c.loop-position.position - c.args.from) + (c.in_ok-run.run'.to - c.loop-position.position) = omega arith in
    record {
      low = omega arith;
      left = ap (λ x. first_clash (told_at c.args.places.now) c.in_ok-run.run'.to x (c.args.to - c.in_ok-run.run'.to)) next
          ∙ sym (goes_on c.args.places.now c.in_ok-run.run' c.loop-position.position (c.args.place + (c.loop-position.position - c.args.from)) c.args.to
          c.max-begin.result behind begins
          (ap (clash_by (told_by c.in_ok-run.run' c.max-begin.result) c.max-begin.result) same ∙ sym c.clash_by.ensures ∙ c.in_default.is)
          c.loop-position-test.true)
          ∙ c.loop-position.invariant.left;
    }
