-- What a call that is noted was.
use Rattle.outside_kit.specs.Calls.{Made}
use Rattle.outside_kit.specs.Calls as call
use Rattle.message_pipe.specs.declared.trace.MadeCall.{MadeCall}
use Rattle.message_pipe.specs.declared.trace.MadeCall.TheVariants as kept

abbrev pub noted : MadeCall → Made
noted (kept.Load name ok) = record { call = call.Load name.now; ok = ok }
noted (kept.Bind port name ok) = record { call = call.Bind port name.now; ok = ok }
noted (kept.Put port piece ok) = record { call = call.Put port piece.now; ok = ok }
