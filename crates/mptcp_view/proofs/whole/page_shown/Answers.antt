use Rattle.std.proofs.Common.{string_bytes}
use Rattle.mptcp_view.specs.Views.{run_of}
use Rattle.mptcp_view.proofs.Paged.{paged}
use Rattle.mptcp_view.proofs.whole.page_shown.Goals as goal

pub returns : goal.returns
returns c =
    paged (run_of c.args.script.now c.args.world.now.state c.args.told.now) (string_bytes c.in_ok-text.text) c.as_str.result.now c.page.result
    c.in_ok-text.ensures c.as_str.ensures.value c.page.ensures
