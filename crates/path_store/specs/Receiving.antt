-- What an end keeps of the peer's stream (RFC 8684, section 3.3.1).
use Rattle.std.specs.Prelude.{ℕ, ◌+◌, Bool, false, nat_le, if◌then◌else◌, Option, Some, None}
use Rattle.dss_mapping.specs.declared.kept.KeptMapping.{KeptMapping}
use Rattle.dss_mapping.specs.Mappings.{Mappings, no_mappings, octets_of, run_of}
use Rattle.path_store.specs.declared.mapped_data_fin.MappedDataFin.{MappedDataFin}

-- what was told of the stream, and which place its positions have
pub record Receiving : Type 0 where
  -- what is to be acknowledged, and how much more is taken, as the book told it last
  pub next : ℕ
  pub window : ℕ
  -- the edge of the window that the last segment told
  pub told_edge : ℕ
  -- the place that each position has
  pub mappings : Mappings
  -- how often, up to three times, the byte at this position was the next one and came without a mapping
  pub unmapped : ℕ
  pub unmapped_at : ℕ
  -- the peer's FIN was told as the end of its stream
  pub fin_told : Bool
  -- a DATA_FIN behind bytes that the edge hasn't passed yet
  pub mapped_data_fin : Option MappedDataFin

-- what was told of the stream, and for how many mappings more there is room
pub record ReceivingStore : Type 0 where
  pub receiving : Receiving
  pub ready : ℕ

-- nothing was mapped, passed or told yet
abbrev pub no_receiving : Receiving
no_receiving =
    record { next = 0; window = 0; told_edge = 0; mappings = no_mappings; unmapped = 0; unmapped_at = 0; fin_told = false; mapped_data_fin = None }

-- a DATA_FIN behind its bytes waits for the edge
abbrev pub data_fin_behind : Option KeptMapping → Option MappedDataFin → Option MappedDataFin
data_fin_behind None other = other
data_fin_behind (Some kept) other =
    if kept.fin then Some (record { position = (run_of kept).to; place = kept.place + octets_of kept }) else other

-- the end of the stream, once the edge reached it
abbrev pub data_fin_reached : Option MappedDataFin → ℕ → Option ℕ
data_fin_reached None edge = None
data_fin_reached (Some fin) edge = if nat_le fin.position edge then Some fin.place else None
