use Rattle.stream_apps.specs.declared.duty.AppDuty.TheVariants.{Close, Read, End}
use Rattle.std.proofs.Common.{[], ◌∷◌}
use Rattle.stream_apps.proofs.Written.{taken-within}
use Rattle.stream_apps.proofs.app.App.bytes_taken.Goals as goal

pub returns-clause-within : goal.returns-clause-within
returns-clause-within c = rw (c.taken_in.ensures) (taken-within (Close ∷ Read ∷ End ∷ []) c.args.reply.now c.args.self.now c.requires.due c.requires.kind)
