use Rattle.std.proofs.Common.{◌∙◌, ap, true, cond}
use Rattle.std.specs.HashSet.{contains}
use Rattle.link_script.specs.declared.settled.Settled.{Settled}
use Rattle.link_script.specs.Settled.{same_key, key_of}
use Rattle.link_script.proofs.SettledKeys.{put, kept}
use Rattle.link_script.proofs.seen.settle.Goals as goal

pub returns-in_ok-insert-in-Some-clause-ok : goal.returns-in_ok-insert-in-Some-clause-ok
returns-in_ok-insert-in-Some-clause-ok c = rw c.in-Some.is (λ key.
    let had = contains same_key c.args.settled.now key in
    c.in_ok-insert-in-Some.ensures.updates.0 key
    ∙ ap (λ (one : Settled). cond (same_key one key) true (contains same_key c.args.settled.now key)) c.key_of.ensures
    ∙ put (same_key (key_of c.in-Some.subject) key) had)

pub returns-in-None-clause-ok : goal.returns-in-None-clause-ok
returns-in-None-clause-ok c = rw c.in-None.is (λ key. kept _)
