use Rattle.world_laws.proofs.Words.{sym, subst, values, opened_world, world_run, KeysNeverDiffer}
use Rattle.world_laws.proofs.Keys.ToldAreOwn as agree
use Rattle.world_laws.proofs.Promises.Made.{keys_in_octets}
use Rattle.world_laws.proofs.Promises.OverOctets.{keys_shown, run_shown}
use Rattle.world_laws.proofs.laws.keys_never_differ.Goals as goal

pub returns-clause-values : goal.returns-clause-values
returns-clause-values c = agree.keys_never_differ

pub returns-clause-octets : goal.returns-clause-octets
returns-clause-octets c = λ start turns fresh.
    subst KeysNeverDiffer (sym (run_shown start turns fresh)) (keys_shown (world_run values turns (opened_world start)) (agree.keys_never_differ start turns))

pub returns-clause-fits : goal.returns-clause-fits
returns-clause-fits c = keys_in_octets
