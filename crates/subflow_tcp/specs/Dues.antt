-- What an end owes beside the records that are to be sent.
use Rattle.std.specs.Prelude.{Bool, true, false, if◌then◌else◌, None}
use Rattle.subflow_tcp.specs.declared.dues.Due.{Due}

abbrev pub nothing_due : Due
nothing_due = record { reset = false; answer = None; syn_ack = false; ack = false; probe = false; first = false }

abbrev pub owing_syn_ack : Due → Due
owing_syn_ack d = record d { syn_ack = true }

abbrev pub owing_ack : Due → Due
owing_ack d = record d { ack = true }

-- an acknowledgement one below SND.UNA
abbrev pub owing_probe : Due → Due
owing_probe d = record d { probe = true }

-- the first record again
abbrev pub owing_first : Due → Due
owing_first d = record d { first = true }

-- an acknowledgement; an end whose SYN isn't acknowledged sends its SYN/ACK instead
abbrev pub owing_answer : Bool → Due → Due
owing_answer half_open d = if half_open then owing_syn_ack d else owing_ack d

-- death lets go of everything but a reset
abbrev pub only_reset : Bool → Due
only_reset reset = record nothing_due { reset = reset }
