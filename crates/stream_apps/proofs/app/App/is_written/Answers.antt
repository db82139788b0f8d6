use Rattle.stream_apps.proofs.Written.{all-written}
use Rattle.stream_apps.proofs.app.App.is_written.Goals as goal

pub returns : goal.returns
returns c = rw (c.len.ensures, ← c.self.view_is) (all-written c.self.inside.written c.self.inside.file c.self.invariant.within)
