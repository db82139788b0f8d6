-- The option of the octets that an option of a path is said by (RFC 8684, section 3).
use Rattle.std.specs.Prelude.{ℕ, ◌%◌, ◌^◌, Bool, true, false, if◌then◌else◌, Option, Some, None, option_map, List}
use Rattle.std.specs.Borrow.{Bor}
use Rattle.sides.specs.declared.side.Side.{Side}
use Rattle.sides.specs.Side.{peer}
use Rattle.mptcp_options.specs.declared.dss.DssMap.{DssMap}
use Rattle.mptcp_options.specs.Value as wire
use Rattle.path_segments.specs.declared.segment.PathOption.{PathOption}
use Rattle.path_segments.specs.declared.segment.PathOption.TheVariants.{Capable, Join, Dss, AddAddr, Remove, Prio, Fail, FastClose, Reset}
use Rattle.path_segments.specs.declared.segment.PathMapping.{PathMapping}
use Rattle.path_segments.specs.declared.segment.PathMapping.TheVariants.{Bytes, End, Infinite}
use Rattle.path_segments.specs.declared.spelling.Spelling.{Spelling}
use Rattle.path_segments.specs.Spelling.{whole_number, data_number}

-- an option whose ids are a list
abbrev pub PlainOption : Type 0
PlainOption = PathOption ℕ (List ℕ)

-- the option of the code by its value: the ids of a REMOVE_ADDR are a list
abbrev pub plain_option : {N : Type 0} → PathOption N (Bor (List ℕ)) → PathOption N (List ℕ)
plain_option (Capable flag_a flag_c keys) = Capable flag_a flag_c keys
plain_option (Join form) = Join form
plain_option (Dss next mapping) = Dss next mapping
plain_option (AddAddr echo id address port hmac) = AddAddr echo id address port hmac
plain_option (Remove ids) = Remove ids.now
plain_option (Prio backup) = Prio backup
plain_option (Fail place) = Fail place
plain_option (FastClose key) = FastClose key
plain_option (Reset transient reason) = Reset transient reason

-- the relative subflow sequence number of a position
abbrev pub relative_number : ℕ → ℕ
relative_number position = position % 2 ^ 32

-- A DATA_FIN without payload has relative number 0 and length 1; the infinite mapping has length 0, and where checksums are
-- used a checksum of 0.
abbrev pub said_mapping : Spelling → Side → PathMapping ℕ → DssMap
said_mapping spelling from (Bytes place position len fin checksum) = record {
  number = data_number spelling from place;
  relative = relative_number position;
  length = len;
  checksum = checksum;
}
said_mapping spelling from (End place checksum) =
    record { number = data_number spelling from place; relative = 0; length = 1; checksum = checksum }
said_mapping spelling from (Infinite place position) = record {
  number = data_number spelling from place;
  relative = relative_number position;
  length = 0;
  checksum = (if spelling.checksums then Some 0 else None);
}

-- flag F: the mapping ends with the DATA_FIN
abbrev pub ends_stream : PathMapping ℕ → Bool
ends_stream (Bytes place position len fin checksum) = fin
ends_stream (End place checksum) = true
ends_stream (Infinite place position) = false

-- flag F: there is a mapping, and it ends with the DATA_FIN
abbrev pub mapping_ends_stream : Option (PathMapping ℕ) → Bool
mapping_ends_stream None = false
mapping_ends_stream (Some mapping) = ends_stream mapping

-- The Data ACK counts in the peer's stream, as MP_FAIL does; mappings count in the sender's own.
abbrev pub said_option : Spelling → Side → PlainOption → wire.OptionValue
said_option spelling from (Capable flag_a flag_c keys) = wire.Capable flag_a flag_c keys
said_option spelling from (Join form) = wire.Join form
said_option spelling from (Dss next mapping) =
    wire.Dss (option_map (data_number spelling (peer from)) next) (option_map (said_mapping spelling from) mapping)
    (mapping_ends_stream mapping)
said_option spelling from (AddAddr echo id address port hmac) = wire.AddAddr echo id address port hmac
said_option spelling from (Remove ids) = wire.RemoveAddr ids
said_option spelling from (Prio backup) = wire.Prio backup
said_option spelling from (Fail place) = wire.Fail (whole_number spelling (peer from) place)
said_option spelling from (FastClose key) = wire.FastClose key
said_option spelling from (Reset transient reason) = wire.Reset transient reason
