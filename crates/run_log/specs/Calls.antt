-- The words of a log for what an actor asks. Of octets the log tells how many there are, of an address each one.
use Rattle.std.specs.Prelude.{ℕ, List, [], ◌∷◌, ◌++◌, length, map, codes}
use Rattle.std.specs.Fmt.{decimal}
use Rattle.sides.specs.Side.{side_word}
use Rattle.key_material.specs.Address.{octets_of}
use Rattle.send_book.specs.declared.call.SendCall.{SendCall}
use Rattle.send_book.specs.declared.call.SendCall.TheVariants as send_calls
use Rattle.reassembly_book.specs.declared.call.ReassemblyCall.{ReassemblyCall}
use Rattle.reassembly_book.specs.declared.call.ReassemblyCall.TheVariants as reassembly_calls
use Rattle.control_book.specs.declared.call.ControlCall.{ControlCall}
use Rattle.control_book.specs.declared.call.ControlCall.TheVariants as control_calls
use Rattle.actor_desk.specs.declared.ask.Ask.{Ask}
use Rattle.actor_desk.specs.declared.ask.Ask.TheVariants as asks
use Rattle.actor_desk.specs.declared.ask.LocalStep.{LocalStep}
use Rattle.actor_desk.specs.declared.ask.LocalStep.TheVariants as steps
use Rattle.run_log.specs.Words.{flag_word, event_words}

abbrev pub send_call_words : SendCall → List (List ℕ)
send_call_words (send_calls.Write bytes) = codes "write" ∷ decimal (length bytes) ∷ []
send_call_words send_calls.Close = codes "close" ∷ []
send_call_words (send_calls.Grant path max standby) = codes "grant" ∷ decimal path ∷ decimal max ∷ flag_word standby ∷ []
send_call_words (send_calls.AckIn next window) = codes "ack" ∷ decimal next ∷ decimal window ∷ []
send_call_words (send_calls.Return path) = codes "return" ∷ decimal path ∷ []
send_call_words send_calls.GoIdentity = codes "identity" ∷ []
send_call_words (send_calls.GoInfinite path) = codes "infinite" ∷ decimal path ∷ []
send_call_words send_calls.Abort = codes "abort" ∷ []

abbrev pub reassembly_call_words : ReassemblyCall → List (List ℕ)
reassembly_call_words (reassembly_calls.Place at bytes) = codes "place" ∷ decimal at ∷ decimal (length bytes) ∷ []
reassembly_call_words (reassembly_calls.Fin at) = codes "fin" ∷ decimal at ∷ []
reassembly_call_words (reassembly_calls.Read max) = codes "read" ∷ decimal max ∷ []
reassembly_call_words reassembly_calls.AckOut = codes "ackout" ∷ []
reassembly_call_words (reassembly_calls.Abort by_peer) = codes "abort" ∷ flag_word by_peer ∷ []

-- the id, each octet of the address, the port, and the HMAC
abbrev pub heard_words : ℕ → List ℕ → ℕ → ℕ → List (List ℕ)
heard_words id octets port hmac = codes "heard" ∷ decimal id ∷ (map decimal octets ++ decimal port ∷ decimal hmac ∷ [])

abbrev pub control_call_words : ControlCall → List (List ℕ)
control_call_words (control_calls.Look path) = codes "look" ∷ decimal path ∷ []
control_call_words (control_calls.PeerKey key) = codes "peerkey" ∷ decimal key ∷ []
control_call_words (control_calls.Keys own peer) = codes "keys" ∷ decimal own ∷ decimal peer ∷ []
control_call_words (control_calls.Fell path event) = codes "fell" ∷ decimal path ∷ event_words event
control_call_words (control_calls.JoinBegin path) = codes "joinbegin" ∷ decimal path ∷ []
control_call_words (control_calls.JoinHeard path token) = codes "joinheard" ∷ decimal path ∷ decimal token ∷ []
control_call_words (control_calls.Live path backup) = codes "live" ∷ decimal path ∷ flag_word backup ∷ []
control_call_words (control_calls.Dead path) = codes "dead" ∷ decimal path ∷ []
control_call_words (control_calls.Backup path on) = codes "backup" ∷ decimal path ∷ flag_word on ∷ []
control_call_words (control_calls.Rate path window rtt) = codes "rate" ∷ decimal path ∷ decimal window ∷ decimal rtt ∷ []
control_call_words (control_calls.Announce id) = codes "announce" ∷ decimal id ∷ []
control_call_words (control_calls.Withdraw id) = codes "withdraw" ∷ decimal id ∷ []
control_call_words (control_calls.Heard id address port hmac) = heard_words id (octets_of address) port hmac
control_call_words (control_calls.Echoed id) = codes "echoed" ∷ decimal id ∷ []
control_call_words (control_calls.Removed id) = codes "removed" ∷ decimal id ∷ []
control_call_words control_calls.FastClose = codes "fastclose" ∷ []
control_call_words (control_calls.FastHeard key) = codes "fastheard" ∷ decimal key ∷ []

abbrev pub local_words : LocalStep → List (List ℕ)
local_words (steps.Arrive to copy) = codes "arrive" ∷ side_word to ∷ decimal copy ∷ []
local_words (steps.Fire side) = codes "fire" ∷ side_word side ∷ []
local_words (steps.Line number) = codes "line" ∷ decimal number ∷ []
local_words (steps.Sent from copy length sum) = codes "sent" ∷ side_word from ∷ decimal copy ∷ decimal length ∷ decimal sum ∷ []
local_words steps.End = codes "end" ∷ []

abbrev pub ask_words : Ask → List (List ℕ)
ask_words (asks.Send side call) = send_call_words call
ask_words (asks.Reassembly side call) = reassembly_call_words call
ask_words (asks.Control side call) = control_call_words call
ask_words (asks.Local step) = local_words step
