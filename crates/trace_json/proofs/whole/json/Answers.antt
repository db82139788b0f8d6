use Rattle.serde_json.specs.View.{view}
use Rattle.trace_json.specs.Runs.{told_of}
use Rattle.trace_json.proofs.Plain.{written_ok}
use Rattle.trace_json.proofs.whole.json.Goals as goal

pub returns : goal.returns
returns c =
    written_ok (told_of c.args.told.now) (view c.in_ok-value.value) c.to_string.result c.in_ok-value.ensures c.to_string.ensures.text c.to_string.ensures.reads_back
