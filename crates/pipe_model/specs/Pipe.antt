-- A pipe, and what each step does to it: the data stream of RFC 8684, section 3, as one list of bytes.
use Rattle.std.specs.Prelude.{◌≡◌, ◌+◌, true, false, ◌&&◌, ◌||◌, ◌==◌, nat_lt, if◌then◌else◌, [], ◌++◌, length, Option, Some, None}
use Rattle.pipe_model.specs.declared.pipe.Pipe.{Pipe}
use Rattle.pipe_model.specs.declared.pipe.PipeStep.{PipeStep}
use Rattle.pipe_model.specs.declared.pipe.PipeStep.TheVariants.{Write, Close, Read, Ack, TellEnd}
use Rattle.pipe_model.specs.declared.pipe.PipeFault.{PipeFault}
use Rattle.pipe_model.specs.declared.pipe.PipeFault.TheVariants.{Closed, Told, Past, NotAll, Memory}

-- a pipe opens empty, open and untold
abbrev pub opening : Pipe
opening = record { written = []; closed = false; read = 0; acked = 0; told_end = false }

-- Why a pipe refuses a step, or None where the step is allowed.
abbrev pub refusal : PipeStep → Pipe → Option PipeFault
-- nothing is written after the close
refusal (Write bytes) p = if p.closed then Some Closed else None
-- a second close changes nothing
refusal Close p = None
-- nothing is read after the end was told, and nothing that was not written
refusal (Read count) p = if p.told_end then Some Told else if nat_lt (length p.written) (p.read + count) then Some Past else None
-- an acknowledgement goes on, and covers received bytes alone, which are written ones
refusal (Ack to received) p =
    if nat_lt to p.acked || nat_lt received to || nat_lt (length p.written) received then Some Past else None
-- the end is told once, where nothing follows and all was read
refusal TellEnd p = if p.told_end then Some Told else if p.closed && p.read == length p.written then None else Some NotAll

-- What an allowed step makes of a pipe.
abbrev pub after : PipeStep → Pipe → Pipe
after (Write bytes) p = record p { written = p.written ++ bytes }
after Close p = record p { closed = true }
after (Read count) p = record p { read = p.read + count }
after (Ack to received) p = record p { acked = to }
after TellEnd p = record p { told_end = true }

-- a step that keeps bytes, and so may want memory
abbrev pub TakesMemory : PipeStep → Type 0
TakesMemory (Write bytes) = Unit {0}
TakesMemory _ = ⊥

-- when a step is answered by this fault: the pipe refuses it so, or it is allowed and there is no memory for it
abbrev pub IsCause : PipeFault → PipeStep → Pipe → Type 0
IsCause Memory step p = (refusal step p ≡ None) × TakesMemory step
IsCause fault step p = refusal step p ≡ Some fault
