-- The ranges of the numbers in a script, how many of each thing there may be, and what is so by default.
use Rattle.std.specs.Prelude.{ℕ, ◌-◌, ◌^◌}
use Rattle.link_script.specs.declared.limits.Limits.{Limits}

-- lines of a text, those that are passed over among them
abbrev pub most_lines : ℕ
most_lines = 4096

-- digits of a number
abbrev pub most_digits : ℕ
most_digits = 20

abbrev pub default_seed : ℕ
default_seed = 1

-- octets of a buffer
abbrev pub default_buffer : ℕ
default_buffer = 65536

-- numbers of 64 bits
abbrev pub seeds : Limits
seeds = record { least = 0; most = 2 ^ 64 - 1 }

-- octets of a buffer
abbrev pub buffers : Limits
buffers = record { least = 4096; most = 1048576 }

-- numbers of paths
abbrev pub path_numbers : Limits
path_numbers = record { least = 0; most = 15 }

-- the number of the path that opens the connection
abbrev pub first_path_number : Limits
first_path_number = record { least = 0; most = 0 }

-- octets of a maximum segment size
abbrev pub segment_sizes : Limits
segment_sizes = record { least = 200; most = 1460 }

-- ticks from one end of a link to the other
abbrev pub delays : Limits
delays = record { least = 1; most = 200 }

-- numbers of segments in one direction
abbrev pub segment_numbers : Limits
segment_numbers = record { least = 1; most = 1000000 }

-- ticks by which a segment is late
abbrev pub latenesses : Limits
latenesses = record { least = 0; most = 100000 }

-- octets that a direction of a link hands on in a tick
abbrev pub rates : Limits
rates = record { least = 10; most = 1000000 }

-- octets that wait before a direction of a link at most
abbrev pub queues : Limits
queues = record { least = 1500; most = 1000000 }

-- how many of a million segments are lost
abbrev pub loss_parts : Limits
loss_parts = record { least = 0; most = 1000000 }

-- ticks that a segment waits at most, drawn by the seed
abbrev pub jitters : Limits
jitters = record { least = 0; most = 100000 }

-- ticks of a run of 65,536 rounds of 100 ticks
abbrev pub run_ticks : Limits
run_ticks = record { least = 0; most = 6553599 }

-- identifiers of addresses
abbrev pub address_ids : Limits
address_ids = record { least = 0; most = 255 }
