-- One end of a path: what it keeps, by concern, and how it dies. The subflow is `subflow_tcp`'s own.
use Rattle.std.specs.Prelude.{ℕ, false}
use Rattle.subflow_tcp.specs.State.{EndState}
use Rattle.path_store.specs.Receiving.{Receiving, no_receiving}
use Rattle.subflow_tcp.specs.Taking.{after_death}
use Rattle.path_core.specs.Notices.{Notices, no_notices}
use Rattle.path_core.specs.Sending.{Sending, no_sending}
use Rattle.path_core.specs.Treated.{Treated, nothing_treated}
use Rattle.path_core.specs.declared.modes.Modes.{Modes}
use Rattle.path_core.specs.Modes.{first_modes}

-- one end
pub record PathEnd : Type 0 where
  pub tcp : EndState
  pub sending : Sending
  pub receiving : Receiving
  pub modes : Modes
  pub treated : Treated
  pub notices : Notices

-- an end of which nothing happened yet
abbrev pub opening_end : EndState → ℕ → ℕ → PathEnd
opening_end tcp own_key own_nonce = record {
  tcp = tcp;
  sending = no_sending;
  receiving = no_receiving;
  modes = first_modes own_key own_nonce;
  treated = nothing_treated;
  notices = no_notices;
}

-- nothing is sent, kept or awaited any more
abbrev pub died : PathEnd → PathEnd
died e = record e { tcp = after_death false e.tcp; treated = nothing_treated; notices = no_notices }
