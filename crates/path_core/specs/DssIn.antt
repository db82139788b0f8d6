-- What a DSS that is heard says, and what its mapping and its Data ACK make of the end (RFC 8684, section 3.3).
use Rattle.std.specs.Prelude.{ℕ, ◌+◌, Bool, ◌&&◌, ◌^◌, true, ◌||◌, false, nat_lt, nat_le, if◌then◌else◌, List, Option, [], Some, unwrap_or, is_some, ◌∷◌}
use Rattle.std.specs.List.{flat_map}
use Rattle.path_segments.specs.declared.segment.PathOption.{PathOption}
use Rattle.path_agenda.specs.declared.heard.Heard.{Heard}
use Rattle.path_agenda.specs.declared.heard.Heard.TheVariants as says
use Rattle.dss_mapping.specs.Mappings.{octets_in}
use Rattle.path_segments.specs.declared.segment.PathMapping.{PathMapping}
use Rattle.path_segments.specs.declared.segment.PathMapping.TheVariants.{Bytes, End, Infinite}
use Rattle.dss_mapping.specs.declared.kept.KeptMapping.{KeptMapping}
use Rattle.sides.specs.declared.side.Side.{Side}
use Rattle.sides.specs.Side.{peer}
use Rattle.sides.specs.declared.side.Side.TheVariants.{B}
use Rattle.mptcp_options.specs.declared.capable.CapableKeys.{CapableKeys}
use Rattle.mptcp_options.specs.declared.capable.CapableKeys.TheVariants.{WithData}
use Rattle.path_segments.specs.declared.segment.PathOption.TheVariants.{Capable, Dss}
use Rattle.path_segments.specs.Heard.{HeardSegment}
use Rattle.dss_mapping.specs.Learning.{first_held, after_learn_held, after_skip_held, held_clashes}
use Rattle.path_store.specs.Receiving.{data_fin_behind}
use Rattle.fallback_state.specs.Modes.{is_starting}
use Rattle.fallback_state.specs.declared.fall.Event.TheVariants as events
use Rattle.actor_desk.specs.declared.ask.Ask.{Ask}
use Rattle.send_book.specs.declared.call.SendReply.TheVariants as send_replies
use Rattle.actor_desk.specs.declared.ask.Reply.{Reply}
use Rattle.actor_desk.specs.declared.ask.Reply.TheVariants as replies
use Rattle.path_agenda.specs.declared.duty.Duty.{Duty}
use Rattle.path_agenda.specs.declared.duty.Duty.TheVariants as duties
use Rattle.path_agenda.specs.declared.duty.AskDuty.TheVariants as ask_duties
use Rattle.path_agenda.specs.Words.{replaced}
use Rattle.path_core.specs.Profile.{Profile}
use Rattle.path_core.specs.DssOut.{bare_mapping}
use Rattle.path_core.specs.MpJoin.{is_joined}
use Rattle.path_core.specs.End.{PathEnd}
use Rattle.path_core.specs.Breaking.{break_ask, answered_break}
use Rattle.path_core.specs.Codec.{Codec}
use Rattle.path_core.specs.State.{PathState, end_at, left, goes_on}
use Rattle.path_core.specs.Fallback.{fell_ask, after_fell, fell_duties}
use Rattle.path_core.specs.declared.modes.Modes.{Modes}
use Rattle.path_core.specs.DataFin.{acked_in}
use Rattle.path_core.specs.Deliver.{fins_and}
use Rattle.path_core.specs.Choices.{is_side_a}

-- an option as it is heard: a number may mean no position or place
abbrev pub HeardOption : Type 0
HeardOption = PathOption (Option ℕ) (List ℕ)

-- a Data ACK that names a place below 2^62
abbrev pub ack_items : Option (Option ℕ) → ℕ → List Heard
ack_items (Some (Some next)) window = if nat_lt next (2 ^ 62) then says.DataAck next window ∷ [] else []
ack_items _ window = []

-- without a checksum 0 counts
abbrev pub checksum_heard : Option ℕ → ℕ
checksum_heard checksum = unwrap_or checksum 0

-- a mapping of so many bytes behind the SYN, all of which have places below 2^62
abbrev pub is_mapping : ℕ → ℕ → ℕ → Bool
is_mapping place position count = nat_lt 0 position && nat_le (place + count) (2 ^ 62)

-- a mapping of bytes says that it is there, and whether a DATA_FIN stands behind them; any other says nothing
abbrev pub mapping_items : ℕ → ℕ → ℕ → Bool → List Heard
mapping_items place position count fin = if is_mapping place position count then says.Mapping fin ∷ [] else []

-- the end of the stream, at a place of at most 2^62
abbrev pub data_fin_items : ℕ → List Heard
data_fin_items place = if nat_le place (2 ^ 62) then says.DataFin place ∷ [] else []

-- an infinite mapping, which begins at a place below 2^62
abbrev pub infinite_items : ℕ → Option ℕ → List Heard
infinite_items place position = if nat_lt place (2 ^ 62) then says.InfiniteMapping place position ∷ [] else []

-- a mapping that names a place, the last number of which may be the DATA_FIN's; a DATA_FIN alone; an infinite mapping
abbrev pub map_items : Option (PathMapping (Option ℕ)) → List Heard
map_items (Some (Bytes (Some place) (Some position) len fin checksum)) = mapping_items place position (octets_in len fin) fin
map_items (Some (End (Some place) checksum)) = data_fin_items place
map_items (Some (Infinite (Some place) position)) = infinite_items place position
map_items _ = []

-- the mapping of place 0 at position 1 of the first piece; one of no octets maps nothing
abbrev pub first_items : ℕ → List Heard
first_items len = if nat_lt 0 len then mapping_items 0 1 len false else []

-- ---- mappings

-- a mapping of the peer, as it was heard by the end of this side
abbrev pub kept_of : Profile → Side → ℕ → ℕ → ℕ → Bool → ℕ → KeptMapping
kept_of c s place position len fin checksum = record {
  pos = position;
  place = place;
  mapping = record (bare_mapping c (peer s) place position len) { checksum = checksum };
  fin = fin;
}

-- ---- the mappings among them, which the end holds

-- a mapping that says something, as the end keeps it; any other isn't held
abbrev pub held_if : Profile → Side → ℕ → ℕ → ℕ → Bool → Option ℕ → List KeptMapping
held_if c s place position len fin checksum =
    if is_mapping place position (octets_in len fin) then kept_of c s place position len fin (checksum_heard checksum) ∷ [] else []

-- the mapping of a DSS, where it has bytes and its numbers mean a position and a place
abbrev pub map_held : Profile → Side → Option (PathMapping (Option ℕ)) → List KeptMapping
map_held c s (Some (Bytes (Some place) (Some position) len fin checksum)) = held_if c s place position len fin checksum
map_held c s _ = []

-- MP_CAPABLE with the first piece, which B hears, maps place 0 at position 1, unless the piece has no octets
abbrev pub key_held : Profile → Side → CapableKeys → List KeptMapping
key_held c B (WithData sender receiver len checksum) = if nat_lt 0 len then held_if c B 0 1 len false checksum else []
key_held c _ _ = []

-- of one option; MP_CAPABLE maps nothing on a path that joins
abbrev pub held_in : Profile → Side → HeardOption → List KeptMapping
held_in c s (Capable flag_a flag_c keys) = if is_joined c then [] else key_held c s keys
held_in c s (Dss next mapping) = map_held c s mapping
held_in c s _ = []

-- of all options, in their order
abbrev pub held_of : Profile → Side → HeardSegment → List KeptMapping
held_of c s h = flat_map (held_in c s) h.options

-- the first mapping that is held is learned, and a DATA_FIN behind its bytes waits for the edge
abbrev pub with_learned : PathEnd → PathEnd
with_learned e = record e {
  receiving = record e.receiving {
    mappings = after_learn_held e.receiving.mappings;
    mapped_data_fin = data_fin_behind (first_held e.receiving.mappings) e.receiving.mapped_data_fin;
  };
}

-- the first mapping that is held is dropped without being learned
abbrev pub with_skipped : PathEnd → PathEnd
with_skipped e = record e { receiving = record e.receiving { mappings = after_skip_held e.receiving.mappings } }

-- ---- one thing that was heard

-- mappings and DATA_FINs count once the end has the peer's key
abbrev pub counts : PathEnd → Bool
counts e = is_some e.modes.peer_key

-- the first mapping that is held gives a position another place
abbrev pub is_clash : PathEnd → Bool
is_clash e = held_clashes e.receiving.mappings

-- A mapping that gives a position another place breaks the path. The first ones are told.
abbrev pub mapping_stands : PathEnd → Bool
mapping_stands e = counts e && (is_clash e || is_starting e.modes.mode)

-- a mapping that gives a position another place breaks the path for reason 1, and of any other the control book is told
abbrev pub mapping_ask : {C : Type 0} → Codec C → Side → PathState C → Ask
mapping_ask k s p = if is_clash (end_at s p) then break_ask k s 1 p else fell_ask s events.MappingHeard p

-- a Data ACK that was taken and covers something is told next
abbrev pub is_acked : Reply → Bool
is_acked (replies.Send (send_replies.Acked bytes fin)) = true
is_acked _ = false

-- the control book is told next, where it covers something; else the duty is done
abbrev pub told_next : {C : Type 0} → Side → Bool → PathState C → List Duty
told_next s covers p = if covers then replaced (duties.Ask (ask_duties.AckHeard s)) p.agenda else left p

-- a Data ACK was heard, which covers something or doesn't, whatever the book answers
abbrev pub covered_by : ℕ → Modes → Modes
covered_by next m = record m { covered = m.covered || nat_lt 0 next; plain_acks = 0 }

-- the Data ACK was told to the send book
abbrev pub with_acked : ℕ → Reply → PathEnd → PathEnd
with_acked next r e = record e {
  sending = acked_in next r e.sending;
  modes = covered_by next e.modes;
  treated = record e.treated { data_ack_taken = true };
}

abbrev pub answered_ack : {C : Type 0} → Side → ℕ → Reply → PathState C → PathState C
answered_ack s next r p = goes_on s (with_acked next r (end_at s p)) (told_next s (is_acked r && nat_lt 0 next) p) p

-- a mapping that doesn't break the path is learned, whatever the verdict
abbrev pub answered_mapping : {C : Type 0} → Codec C → Side → Reply → PathState C → PathState C
answered_mapping k s r p =
    if is_clash (end_at s p) then answered_break k s 1 r p
    else goes_on s (with_learned (after_fell events.MappingHeard r (end_at s p))) (fell_duties s r p) p

-- the end of the stream is told later
abbrev pub with_data_fin : ℕ → PathEnd → PathEnd
with_data_fin place e =
    record e { treated = record e.treated { fins = fins_and (Some place) e.treated.fins } }

-- at A the first DSS clears the end, and answers the third MP_JOIN: that is news for the timer
abbrev pub after_dss : Side → PathEnd → PathEnd
after_dss s e = record e {
  modes = record e.modes { clear = e.modes.clear || is_side_a s; owes_third = false };
  sending = record e.sending { news = e.sending.news || e.modes.owes_third };
}

-- a Data ACK counts as one, where the subflow's acknowledgements take its place
abbrev pub with_data_ack : ℕ → PathEnd → PathEnd
with_data_ack next e = record e { modes = covered_by next e.modes }
