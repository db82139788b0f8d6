use Rattle.trace_json.proofs.laws.json_in_html_has_no_tag.Goals as goal
use Rattle.trace_json.proofs.Tags.{no_tag}

pub returns : goal.returns
returns c = no_tag
