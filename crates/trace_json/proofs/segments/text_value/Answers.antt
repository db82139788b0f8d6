use Rattle.std.proofs.Common.{◌≡◌, ◌∙◌, ap, subst, IfOk}
use Rattle.serde_json.specs.Data.{Data, string}
use Rattle.serde_json.specs.View.{view}
use Rattle.trace_json.proofs.AtPlaces.{no_words, some_words}
use Rattle.trace_json.proofs.segments.text_value.Goals as goal

pub returns-in-None : goal.returns-in-None
returns-in-None c = no_words c.args.words.now c.args.place c.in-None.ensures.lookup.3

pub returns-in-Some : goal.returns-in-Some
returns-in-Some c =
    let found = c.in-Some.ensures.lookup in
    subst (λ (d : Data). IfOk c.try_from_str.result (λ value. view value ≡ d))
    (ap string c.as_str.ensures.value ∙ some_words c.args.words.now c.args.place c.in-Some.words.now found.3.0 found.1)
    c.try_from_str.ensures
