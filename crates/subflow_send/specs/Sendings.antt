-- How a record was sent, and what each event makes of it.
use Rattle.std.specs.Prelude.{ℕ, ◌+◌, ◌==◌, min, true, false, if◌then◌else◌}
use Rattle.subflow_send.specs.declared.record.Sending.{Sending}

-- a record is to be sent for the first time
abbrev pub never_sent : Sending
never_sent = record { times = 0; first = 0; unsent = true; first_at_expiry = false }

-- each sending counts, the first one is remembered, and nothing is to be sent then
abbrev pub sent_again : ℕ → Sending → Sending
sent_again now s = record {
  times = min (s.times + 1) 4294967295;
  first = (if s.times == 0 then now else s.first);
  unsent = false;
  first_at_expiry = s.first_at_expiry;
}

-- a record was the first one at an expiry
abbrev pub first_at_an_expiry : Sending → Sending
first_at_an_expiry s = record s { first_at_expiry = true }

-- a record is to be sent again
abbrev pub to_be_sent : Sending → Sending
to_be_sent s = record s { unsent = true }
