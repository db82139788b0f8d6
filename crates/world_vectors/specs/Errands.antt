-- What a caller asks.
use Rattle.std.specs.Prelude.{◌-◌, ◌==◌, Option, Some, None, [], ◌∷◌, if◌then◌else◌}
use Rattle.sides.specs.declared.side.Side.TheVariants as side
use Rattle.send_book.specs.declared.call.SendCall.{SendCall}
use Rattle.send_book.specs.declared.call.SendCall.TheVariants as calls
use Rattle.actor_desk.specs.declared.ask.Ask.{Ask}
use Rattle.actor_desk.specs.declared.ask.Ask.TheVariants as asks
use Rattle.world_vectors.specs.declared.caller.Caller.{Caller}
use Rattle.world_vectors.specs.declared.caller.Errand.{Errand}
use Rattle.world_vectors.specs.declared.caller.Errand.TheVariants as errands

-- the octet of the letter x is 120
abbrev pub call_of : Errand → SendCall
call_of errands.Write = calls.Write (120 ∷ [])
call_of errands.Close = calls.Close
call_of errands.GoIdentity = calls.GoIdentity

-- as long as calls are left, the next one at A's send book
abbrev pub asks_of : Caller → Option Ask
asks_of caller = if caller.left == 0 then None else Some (asks.Send side.A (call_of caller.errand))

abbrev pub one_less : Caller → Caller
one_less caller = record caller { left = caller.left - 1 }
