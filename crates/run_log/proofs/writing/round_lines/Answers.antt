use Rattle.std.proofs.Common.{◌∙◌, ap}
use Rattle.run_log.proofs.GatheredLines.{gathered, lent_fit}
use Rattle.run_log.proofs.writing.round_lines.Goals as goal

pub returns-clause-exact : goal.returns-clause-exact
returns-clause-exact c =
    c.from.ensures ∙ ap (λ octets. octets.items) c.into_bytes.ensures.value ∙ c.in_ok-writeln.ensures.bytes
    ∙ gathered c.args.number c.args.steps.now _ _ c.new-text.ensures.bytes c.in_ok-put_lines.ensures.text

pub returns-clause-fits : goal.returns-clause-fits
returns-clause-fits c = lent_fit c.args.steps.now c.in_ok-put_lines.ensures.fits
