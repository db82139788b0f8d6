use Rattle.path_core.proofs.path.Path.inject.Goals as goal

pub returns-clause-ok : goal.returns-clause-ok
returns-clause-ok c = rw (← c.self.view_is, ← c.deref_mut.ensures.value) c.inject-taken.ensures.ok
