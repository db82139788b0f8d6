use Rattle.std.proofs.Common.{◌∙◌, ap, sym, List}
use Rattle.std.specs.HashSet.{contains}
use Rattle.link_script.specs.declared.line.Line.{Line}
use Rattle.link_script.specs.declared.settled.Settled.{Settled}
use Rattle.link_script.specs.Places.{is_repeated}
use Rattle.link_script.specs.Settled.{same_key, key_of}
use Rattle.link_script.proofs.SettledKeys.{repeated, never}
use Rattle.link_script.proofs.seen.Seen.is_repeated.Goals as goal

pub returns-in-Some : goal.returns-in-Some
returns-in-Some c =
    c.contains.ensures ∙ ap (λ (key : Settled). contains same_key c.self.inside.settled key) c.key_of.ensures
    ∙ c.self.invariant.2 (key_of c.in-Some.subject)
    ∙ repeated c.self.inside.lines.items c.args.line.now c.in-Some.subject (sym c.settled_by.ensures ∙ c.in-Some.is)
    ∙ ap (λ (lines : List Line). is_repeated lines c.args.line.now) c.self.view_is

pub returns-in-None : goal.returns-in-None
returns-in-None c = never c.args.self.now c.args.line.now (sym c.settled_by.ensures ∙ c.in-None.is)
