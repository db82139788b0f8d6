use Rattle.trace_json.proofs.laws.json_in_html_reads_alike.Goals as goal
use Rattle.trace_json.proofs.Tags.{reads_alike}

pub returns : goal.returns
returns c = reads_alike
