-- What each event makes of an end's congestion window and of its row of duplicates (RFC 5681, section 3).
use Rattle.std.specs.Prelude.{ℕ, ◌+◌, min, Bool, true, false, not, ◌&&◌, ◌==◌, nat_lt, nat_le, if◌then◌else◌, Option, Some, None}
use Rattle.reno_window.specs.Window.{Window}
use Rattle.reno_window.specs.Rules as reno
use Rattle.loss_recovery.specs.declared.windows.Told.{Told}
use Rattle.loss_recovery.specs.declared.windows.Pending.{Pending}
use Rattle.loss_recovery.specs.declared.windows.Congestion.{Congestion}

-- at first: the initial window of this segment size, no duplicate, and nothing told
abbrev pub opening : ℕ → Congestion
opening mss = record {
  reno = reno.opening mss;
  duplicates = 0;
  told = record { place = None; window = 0 };
  pending = None;
}

-- as many octets as a window counts
abbrev pub counted : ℕ → ℕ
counted octets = min octets 1048576

-- data was acknowledged in congestion avoidance: outside a fast recovery, with the window at ssthresh or above
abbrev pub is_growth_linked : ℕ → Window → Bool
is_growth_linked octets w = nat_lt 0 octets && (not w.in_fast_recovery && nat_le w.ssthresh w.window)

-- Something new was acknowledged, so many octets of data among it. In congestion avoidance the growth is still to be told;
-- else the window follows at once.
abbrev pub acknowledged : ℕ → ℕ → Congestion → Congestion
acknowledged octets rtt c =
    if is_growth_linked octets c.reno then record c { duplicates = 0; pending = Some (record { acked = counted octets; window = c.reno.window; rtt = rtt }) }
    else record c { duplicates = 0; reno = reno.after_ack (counted octets) 0 c.reno }

-- outside a fast recovery two came before
abbrev pub is_third : Congestion → Bool
is_third c = not c.reno.in_fast_recovery && not (nat_lt c.duplicates 2)

-- A duplicate: in a fast recovery it adds a segment, else it counts, and the third in a row begins one.
abbrev pub duplicated : ℕ → Congestion → Congestion
duplicated flight c =
    if c.reno.in_fast_recovery then record c { reno = reno.after_more_duplicate c.reno }
    else (if nat_lt c.duplicates 2 then record c { duplicates = c.duplicates + 1 }
    else record c { duplicates = 3; reno = reno.after_third_duplicate flight c.reno })

-- a copy that is no duplicate ends the row of duplicates
abbrev pub without_duplicates : Congestion → Congestion
without_duplicates c = record c { duplicates = 0 }

-- what a segment told is kept, to compare the next one with it
abbrev pub with_told : Told → Congestion → Congestion
with_told told c = record c { told = told }

-- the timer ran out: the row and a fast recovery end
abbrev pub expired : ℕ → Bool → Congestion → Congestion
expired flight again c = record c { duplicates = 0; reno = reno.after_expiry flight again c.reno }

-- the growth that was to be told is this one, in octets
abbrev pub grown_by : ℕ → Option Pending → Congestion → Congestion
grown_by growth None c = c
grown_by growth (Some p) c = record c { reno = reno.after_ack p.acked growth c.reno; pending = None }

-- the growth that the window waits for, if it does, is this one, in octets
abbrev pub after_growth : ℕ → Congestion → Congestion
after_growth growth c = grown_by growth c.pending c

-- both places are the same, or there is none both times
abbrev pub is_same_place : Option ℕ → Option ℕ → Bool
is_same_place None None = true
is_same_place (Some p) (Some q) = p == q
is_same_place _ _ = false

-- both times the place is the same, and the window
abbrev pub is_same_told : Told → Told → Bool
is_same_told t u = is_same_place t.place u.place && t.window == u.window

-- no growth is to be told
abbrev pub without_pending : Congestion → Congestion
without_pending c = record c { pending = None }
