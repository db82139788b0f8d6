-- A pipe over a list of steps, of which the refused ones change nothing: what was written, read and acknowledged.
use Rattle.std.specs.Prelude.{ℕ, is_none, if◌then◌else◌, List, [], ◌∷◌, ◌++◌, take, drop}
use Rattle.pipe_model.specs.declared.pipe.Pipe.{Pipe}
use Rattle.pipe_model.specs.declared.pipe.PipeStep.{PipeStep}
use Rattle.pipe_model.specs.declared.pipe.PipeStep.TheVariants.{Write, Read, Ack}
use Rattle.pipe_model.specs.Pipe.{refusal, after}

-- a pipe after one step
abbrev pub next : PipeStep → Pipe → Pipe
next step p = if is_none (refusal step p) then after step p else p

-- a pipe after all of the steps
abbrev pub after_steps : List PipeStep → Pipe → Pipe
after_steps [] p = p
after_steps (step ∷ steps) p = after_steps steps (next step p)

-- the bytes that a step gives to be written
abbrev pub given_by : PipeStep → List ℕ
given_by (Write bytes) = bytes
given_by _ = []

-- the bytes that the steps write, in order
abbrev pub written_by : List PipeStep → Pipe → List ℕ
written_by [] p = []
written_by (step ∷ steps) p = (if is_none (refusal step p) then given_by step else []) ++ written_by steps (next step p)

-- the bytes that a step reads: the next ones of the pipe
abbrev pub piece_of : PipeStep → Pipe → List ℕ
piece_of (Read count) p = take count (drop p.read p.written)
piece_of _ p = []

-- the bytes that the steps read, in order
abbrev pub read_by : List PipeStep → Pipe → List ℕ
read_by [] p = []
read_by (step ∷ steps) p = (if is_none (refusal step p) then piece_of step p else []) ++ read_by steps (next step p)

-- how many bytes had been received when an acknowledgement told so, or as many as before
abbrev pub received_at : PipeStep → ℕ → ℕ
received_at (Ack to received) before = received
received_at _ before = before

-- how many bytes had been received at the latest acknowledgement of the steps, after these many before them
abbrev pub latest_received : List PipeStep → Pipe → ℕ → ℕ
latest_received [] p before = before
latest_received (step ∷ steps) p before =
    latest_received steps (next step p) (if is_none (refusal step p) then received_at step before else before)
