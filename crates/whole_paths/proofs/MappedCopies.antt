-- Where each end goes by mappings and no link changes a segment, each copy under way maps all bytes that it carries (RFC 8684, section 3.3.1).
use Rattle.std.proofs.Common.{◌≡◌, refl, sym, subst, ap, ◌∙◌, ℕ, ◌+◌, ◌-◌, ◌<◌, arith, ◌==◌, Bool, true, false, true≢false, not, ◌&&◌, if◌then◌else◌, Option, Some, None, IfSome, List, [], ◌∷◌, ⊎_elim, inl}
use Rattle.std.specs.List.{list_any, position, slice_get}
use Rattle.std.proofs.lemmas.Bool.{and_parts, eqb-true}
use Rattle.mptcp_options.specs.declared.capable.CapableKeys.TheVariants.{WithData}
use Rattle.path_segments.specs.Heard.{HeardSegment}
use Rattle.path_segments.specs.Options.{PlainOption}
use Rattle.path_segments.specs.Spelled.{PlainSegment}
use Rattle.path_segments.specs.declared.segment.PathOption.TheVariants.{Capable, Dss}
use Rattle.sides.specs.declared.side.Side.{Side}
use Rattle.sides.specs.declared.side.Side.TheVariants.{A, B}
use Rattle.path_segments.specs.declared.segment.PathMapping.TheVariants.{Bytes, Infinite}
use Rattle.subflow_tcp.specs.Emitting.{fin_position}
use Rattle.sides.specs.Side.{peer}
use Rattle.link_script.specs.declared.script.ScriptLine.{ScriptLine}
use Rattle.link_model.specs.Fate.{is_stripped, is_altered}
use Rattle.link_model.specs.State.{LinkState}
use Rattle.link_model.specs.Steps.{arriving, changed, is_due, next_number, without}
use Rattle.link_model.specs.declared.flight.Flight.{Flight}
use Rattle.stream_lanes.specs.Duo.{Duo, after_events}
use Rattle.stream_lanes.specs.Lane.{Lane}
use Rattle.stream_lanes.specs.Words.{Every}
use Rattle.stream_lanes.proofs.Lists.{in_map, in_set}
use Rattle.subflow_send.specs.Records.{Record}
use Rattle.subflow_send.specs.Rules.{is_unsent}
use Rattle.subflow_send.specs.declared.record.RecordKind.{RecordKind}
use Rattle.subflow_send.specs.declared.record.RecordKind.TheVariants.{Syn, Data, Fin}
use Rattle.subflow_tcp.specs.State.{has_records}
use Rattle.actor_desk.specs.declared.ask.Reply.{Reply}
use Rattle.path_agenda.specs.Agenda.{emission, leaves, start_of_turn}
use Rattle.path_agenda.specs.Words.{first_of}
use Rattle.path_agenda.specs.declared.duty.Duty.{Duty}
use Rattle.path_agenda.specs.declared.duty.Duty.TheVariants as duties
use Rattle.path_agenda.specs.declared.duty.SendDuty.TheVariants as send_duties
use Rattle.path_agenda.specs.declared.duty.StepDuty.TheVariants as step_duties
use Rattle.path_agenda.specs.declared.heard.Heard.{Heard}
use Rattle.path_agenda.specs.declared.heard.Heard.TheVariants as says
use Rattle.path_agenda.specs.declared.notice.OwnNotice.{OwnNotice}
use Rattle.path_agenda.specs.declared.notice.OwnNotice.TheVariants as notes
use Rattle.path_store.specs.declared.lines.LineAction.{LineAction}
use Rattle.path_store.specs.declared.lines.LineAction.TheVariants as actions
use Rattle.path_core.specs.Arrival.{copy_heard, heard_in}
use Rattle.path_core.specs.Choices.{is_side_a}
use Rattle.path_core.specs.DataFin.{is_data_fin_owed}
use Rattle.path_core.specs.DssIn.{is_clash}
use Rattle.path_core.specs.DssOut.{checksum_told, data_fin_mapping, fail_beside, fail_options, fin_options, first_piece_options, infinite_or, is_first_piece, mapped_options, piece_mapping, plain_options}
use Rattle.path_core.specs.Duties.{answered}
use Rattle.path_core.specs.Emission.{first_record, first_unsent}
use Rattle.path_core.specs.End.{PathEnd}
use Rattle.path_core.specs.Events.{after_line, happens_if, next_event}
use Rattle.path_core.specs.Fallback.{breaks_by_ack}
use Rattle.path_core.specs.Handover.{handed}
use Rattle.path_core.specs.Looking.{broken_by, duty_sends, heard_sends, segment_sent, send_of, unsent_sends, Hands, HandsOrTellsNone}
use Rattle.path_core.specs.MpJoin.{is_joined, is_never, join_options, keys_begun, never_joined, opened_by, third_options}
use Rattle.path_core.specs.Modes.{receives_infinite}
use Rattle.path_core.specs.OptionsOut.{ack_options, ack_said, broken_options, capable_options, carried_said, key_options, noted_said, record_options, record_or_ack, record_said, syn_ack_said, syn_options}
use Rattle.path_core.specs.Profile.{Profile}
use Rattle.path_core.specs.Shown.{AltersNothing}
use Rattle.path_core.specs.Start.{waiting_path}
use Rattle.path_core.specs.State.{PathState, at_tick, end_at, goes_on, with_agenda}
use Rattle.path_core.specs.Steps.{settled, takes}
use Rattle.path_core.specs.Treating.{item_of}
use Rattle.path_core.specs.Values.{Carried, altered, as_arrived, carried_by, stripped, values}
use Rattle.path_core.specs.declared.events.Event.{Event}
use Rattle.path_core.specs.declared.events.Event.TheVariants as happenings
use Rattle.path_core.proofs.SegmentsTold.{each_segment_is_told}
use Rattle.world_laws.specs.declared.member.Member.TheVariants.{App, Path}
use Rattle.world_laws.specs.Actors.{Actor, ActorCrew, member_next, member_takes}
use Rattle.world_laws.specs.Members.{HoldsOfKind}
use Rattle.world_laws.specs.NeverFalls.{StripsNothing}
use Rattle.world_laws.specs.Openings.{Start, opened_world, path_begins}
use Rattle.world_laws.specs.Promises.{HasRoom}
use Rattle.world_laws.specs.StampedBooks.{answer_to}
use Rattle.world_laws.specs.Worlds.{WorldState, Turn, after_turn, begins, crew_after, greatest, world_run}
use Rattle.world_laws.proofs.Keys.Held.{in_removed}
use Rattle.world_laws.proofs.Lanes.Beginning.{each_run_shows}
use Rattle.world_laws.proofs.Lanes.OfAWorld.{Links, WorldShows, anyhow, anyhow_free, first_duo, free_run}
use Rattle.world_laws.proofs.Lanes.Records.{every_at, every_find}
use Rattle.world_laws.proofs.Lanes.Saying.{handed_kept}
use Rattle.world_laws.proofs.Lanes.Showing.{KindShows, PathShows}
use Rattle.world_laws.proofs.Numbers.TellSmall.{RecordKindTells, RecordTells}
use Rattle.world_laws.proofs.Rounds.Lifting.{opened_lifted}
use Rattle.world_laws.proofs.Worlds.CastLifting.{each_actor}
use Rattle.world_laws.proofs.Worlds.Turns.{turn_so}
use Rattle.world_laws.proofs.Writes.Steps.{settled_lasts}
use Rattle.whole_paths.specs.Arrivals.{IsFirstPiece, IsMappedPiece, IsPiece}
use Rattle.whole_paths.specs.Arrivals.{IsMappedPiece as mapped_by}
use Rattle.whole_paths.specs.Mild.{EndsGoByMappings, IsMildStart, LinkIsMild}
use Rattle.whole_paths.proofs.Arrivals.{each_mapped_record_is_a_piece}
use Rattle.whole_paths.proofs.Came.{quiet_link}
use Rattle.whole_paths.proofs.Copies.{LinkStays, links_last}
use Rattle.whole_paths.proofs.Exchanges.{Shown, each_shown}
use Rattle.whole_paths.proofs.Mild.{links_are_mild, mapping_is_kept}
use Rattle.whole_paths.proofs.Pieces.{is_event}
use Rattle.whole_paths.proofs.Saying.{ToSend}

-- ---- a segment

-- the option maps bytes, as an infinite mapping does
abbrev pub maps_bytes : PlainOption → Bool
maps_bytes (Dss next (Some (Bytes place position len fin checksum))) = true
maps_bytes (Dss next (Some (Infinite place position))) = true
maps_bytes (Capable flag_a flag_c (WithData own other len checksum)) = true
maps_bytes _ = false

abbrev pub MapsNone : List PlainOption → Type 0
MapsNone options = list_any maps_bytes options ≡ false

-- a segment of a side has no bytes and maps none, maps all of them, or has no option
pub data MapsAll (s : Side) (x : PlainSegment) : Type 0 where
  none : x.payload ≡ [] → MapsNone x.options → MapsAll s x
  piece : IsPiece x → MapsAll s x
  first : s ≡ A → IsFirstPiece x → MapsAll s x
  bare : x.options ≡ [] → MapsAll s x

of_mapped : (c : Profile) (s : Side) (x : PlainSegment) → IsMappedPiece c s x → MapsAll s x
of_mapped c s x (mapped_by.piece h) = piece h
of_mapped c s x (mapped_by.first opens is h syn fin rst) = first is h

-- bytes stand behind the SYN, and neither it nor the FIN has any
abbrev pub KindBehind : RecordKind → Record → Type 0
KindBehind Syn r = r.piece ≡ []
KindBehind Data r = 0 < r.pos
KindBehind Fin r = r.piece ≡ []

is_a : (s : Side) → is_side_a s ≡ true → s ≡ A
is_a A is = refl
is_a B is = absurd (true≢false (sym is))

-- ---- options that map nothing

either : (xs ys : List PlainOption) (b : Bool) → MapsNone xs → MapsNone ys → MapsNone (if b then xs else ys)
either xs ys true x y = x
either xs ys false x y = y

module _ (c : Profile) (s : Side) (e : PathEnd) where
  joins_none : (s : Side) → MapsNone (join_options c s e.modes)
  joins_none A = refl
  joins_none B = refl

  capable_none : (s : Side) → MapsNone (capable_options c s e)
  capable_none A = refl
  capable_none B = either _ _ (e.modes.capable_asked && not e.modes.identity) refl refl

  syn_none : MapsNone (syn_options c s e)
  syn_none = elim (is_joined c) as (λ b. MapsNone (if b then join_options c s e.modes else capable_options c s e)) [ true ↦ joins_none s | false ↦ capable_none s ]

  keys_none : (s : Side) (peer : Option ℕ) → MapsNone (key_options c s peer e)
  keys_none A (Some peer) = refl
  keys_none A None = refl
  keys_none B peer = refl

  beside_none : (fin : Option ℕ) → MapsNone (Dss (Some e.receiving.next) (data_fin_mapping c s fin) ∷ fail_beside fin e.modes)
  beside_none (Some place) = refl
  beside_none None = by (if receives_infinite e.modes.mode then None else e.modes.failed_mapping)
    where
      by : (o : Option ℕ) → MapsNone (Dss (Some e.receiving.next) None ∷ fail_options o)
      by None = refl
      by (Some place) = refl

  ack_none : (fin : Option ℕ) → MapsNone (ack_options c s fin e)
  ack_none fin = by e.modes.identity e.modes.clear e.modes.owes_third
    where
      by : (plain clear third : Bool) → MapsNone (if plain then []
          else (if clear then Dss (Some e.receiving.next) (data_fin_mapping c s fin) ∷ fail_beside fin e.modes else (if third then third_options e.modes else key_options c s e.modes.peer_key e)))
      by true clear third = refl
      by false true third = beside_none fin
      by false false true = refl
      by false false false = keys_none s e.modes.peer_key

  -- by an end that goes by mappings of pieces
  fin_none : e.modes.identity ≡ false → e.modes.own_infinite ≡ None → (at_position : ℕ) → MapsNone (fin_options at_position e)
  fin_none mapped finite at_position =
      ap (λ b. list_any maps_bytes (if b then plain_options at_position e else infinite_or e.modes.own_infinite (Dss (Some e.receiving.next) None ∷ []) e)) mapped
      ∙ ap (λ o. list_any maps_bytes (infinite_or o (Dss (Some e.receiving.next) None ∷ []) e)) finite

  broken_maps_none : (reason : Option ℕ) → MapsNone (if e.modes.identity then [] else broken_options e.treated.failed_mapping reason)
  broken_maps_none reason = by e.modes.identity e.treated.failed_mapping reason
    where
      by : (plain : Bool) (failed reason : Option ℕ) → MapsNone (if plain then [] else broken_options failed reason)
      by true failed reason = refl
      by false None None = refl
      by false (Some place) None = refl
      by false None (Some reason) = refl
      by false (Some place) (Some reason) = refl

-- ---- what an end says that goes by mappings

module _ (c : Profile) (s : Side) (e : PathEnd) (mapped : e.modes.identity ≡ false) (finite : e.modes.own_infinite ≡ None) where
  abbrev said : Record → PlainSegment
  said r = record_said c s r e

  piece_said : (r : Record) → r.kind ≡ Data → RecordTells c s r → RecordKindTells c s Data r → 0 < r.pos → is_first_piece s r e ≡ false → MapsAll s (said r)
  piece_said r kind told kinds behind later =
      let some = kinds.0 in let place = kinds.3 in let whole = kinds.4 in let reaches = told.reaches in let few = told.octets in
      of_mapped c s (said r) (each_mapped_record_is_a_piece c s r e (said r) (record {
        kind = kind;
        some = omega (arith, some, whole);
        behind_syn = behind;
        short = omega (arith, reaches);
        whole = whole;
        low = omega (arith, place, few);
        mapped = mapped;
        finite = finite;
        few = few;
        told = inl later;
      }) (record { position = refl; syn = refl; fin = refl; rst = refl; payload = refl }) (record { options = refl; acknowledged = refl }))

  first_said : (r : Record) → r.kind ≡ Data → RecordTells c s r → RecordKindTells c s Data r → is_first_piece s r e ≡ true → MapsAll s (said r)
  first_said r kind told kinds is = by e.modes.peer_key refl
    where
      parts : (is_side_a s ≡ true) × ((not e.modes.clear && r.pos == 1) ≡ true)
      parts = and_parts (is_side_a s) (not e.modes.clear && r.pos == 1) is

      with_keys : ℕ → ℕ → List PlainOption
      with_keys other len = Capable c.spelling.checksums false (WithData e.modes.own_key other len (checksum_told c r.mapping.checksum)) ∷ []

      options : record_options r.kind c s r e ≡ first_piece_options c e.modes.peer_key r e
      options = ap (λ kind. record_options kind c s r e) kind
          ∙ ap (λ b. if b then plain_options r.pos e else infinite_or e.modes.own_infinite (mapped_options c s r e) e) mapped
          ∙ ap (λ o. infinite_or o (mapped_options c s r e) e) finite
          ∙ ap (λ b. if b then first_piece_options c e.modes.peer_key r e else Dss (Some e.receiving.next) (Some (piece_mapping c s r)) ∷ []) is

      by : (o : Option ℕ) → e.modes.peer_key ≡ o → MapsAll s (said r)
      by None key = bare (options ∙ ap (λ o. first_piece_options c o r e) key)
      by (Some other) key =
          let some = kinds.0 in let whole = kinds.4 in
          first (is_a s parts.0) (record {
            position = eqb-true r.pos 1 (and_parts (not e.modes.clear) (r.pos == 1) parts.1).1;
            some = omega (arith, some, whole);
            few = told.octets;
            sums = c.spelling.checksums;
            own = e.modes.own_key;
            other = other;
            checksum = checksum_told c r.mapping.checksum;
            options = options ∙ ap (λ o. first_piece_options c o r e) key ∙ ap (λ len. with_keys other len) whole;
          })

  record_maps : (r : Record) → RecordTells c s r → KindBehind r.kind r → MapsAll s (said r)
  record_maps r told behind = by r.kind refl told.mapped behind
    where
      by : (kind : RecordKind) → r.kind ≡ kind → RecordKindTells c s kind r → KindBehind kind r → MapsAll s (said r)
      by Syn kind kinds behind = none behind (ap (λ k. list_any maps_bytes (record_options k c s r e)) kind ∙ syn_none c s e)
      by Data kind kinds behind = (elim (is_first_piece s r e) as (λ b. is_first_piece s r e ≡ b → MapsAll s (said r))
          [ true ↦ λ is. first_said r kind told kinds is | false ↦ λ is. piece_said r kind told kinds behind is ]) refl
      by Fin kind kinds behind = none behind (ap (λ k. list_any maps_bytes (record_options k c s r e)) kind ∙ fin_none c s e mapped finite r.pos)

-- ---- what a duty sends

module _ (c : Profile) (s : Side) (e : PathEnd) where
  or_ack : (o : Option Record) → IfSome o (λ r. MapsAll s (record_said c s r e)) → MapsAll s (record_or_ack c s o e)
  or_ack None maps = none refl (ack_none c s e None)
  or_ack (Some r) maps = maps

  carried_none : (o : Option ℕ) → MapsAll s (carried_said c s o e)
  carried_none None = none refl (ack_none c s e None)
  carried_none (Some key) = none refl refl

  noted_none : (o : Option OwnNotice) → MapsAll s (noted_said c s o e)
  noted_none None = none refl (ack_none c s e None)
  noted_none (Some (notes.AddAddr id)) = none refl refl
  noted_none (Some (notes.AddEcho id address port)) = none refl refl
  noted_none (Some (notes.Removes id)) = none refl refl
  noted_none (Some (notes.Prio backup)) = none refl refl

  answer_none : (b : Bool) → MapsAll s (if b then syn_ack_said c s e else ack_said c s e.tcp.send.nxt None e)
  answer_none true = none refl (syn_none c s e)
  answer_none false = none refl (ack_none c s e None)

  resent_maps : IfSome (first_record e) (λ r. MapsAll s (record_said c s r e)) → (records third close fin : Bool)
      → MapsAll s (if records then record_or_ack c s (first_record e) e
      else (if third then ack_said c s e.tcp.send.nxt None e
      else (if close then carried_said c s e.notices.carrier e
      else (if fin then ack_said c s e.tcp.send.nxt e.sending.known_end e
      else ack_said c s (e.tcp.send.una - 1) None e))))
  resent_maps maps true third close fin = or_ack (first_record e) maps
  resent_maps maps false true close fin = none refl (ack_none c s e None)
  resent_maps maps false false true fin = carried_none e.notices.carrier
  resent_maps maps false false false true = none refl (ack_none c s e e.sending.known_end)
  resent_maps maps false false false false = none refl (ack_none c s e None)

abbrev AllMap : Option ToSend → PathState Carried → Type 0
AllMap o p = IfSome o (λ (t : ToSend). MapsAll t.from (segment_sent p t))

-- each record maps its bytes, as its end would send it now
abbrev RecordsMap : PathState Carried → Type 0
RecordsMap p = (s : Side) → Every (λ r. MapsAll s (record_said p.profile s r (end_at s p))) (end_at s p).tcp.send.records

broken_none : (s : Side) (reason : ℕ) (p : PathState Carried) → AllMap (broken_by s reason p) p
broken_none s reason p = elim (end_at s p).treated.asked as (λ b. AllMap (if b then None else send_of (send_duties.BreakReset s reason)) p) [ true ↦ tt | false ↦ none refl (broken_maps_none p.profile s (end_at s p) (Some reason)) ]

heard_none : (s : Side) (o : Option Heard) (p : PathState Carried) → AllMap (heard_sends s o p) p
heard_none s (Some (says.Mapping fin)) p = elim (is_clash (end_at s p)) as (λ b. AllMap (if b then broken_by s 1 p else None) p) [ true ↦ broken_none s 1 p | false ↦ tt ]
heard_none s _ p = tt

module _ (p : PathState Carried) (maps : RecordsMap p) (goes : EndsGoByMappings p) where
  unsent_maps : (s : Side) → MapsAll s (record_or_ack p.profile s (first_unsent (end_at s p)) (end_at s p))
  unsent_maps s = or_ack p.profile s (end_at s p) (first_unsent (end_at s p)) (every_find is_unsent (end_at s p).tcp.send.records (maps s))

  data_maps : (s : Side) (o : Option Record) → AllMap (unsent_sends s o) p
  data_maps s None = tt
  data_maps s (Some r) = unsent_maps s

  duty_maps : (d : Duty) → AllMap (duty_sends d p) p
  duty_maps (duties.Step (step_duties.Heard s index)) = heard_none s (item_of index (end_at s p)) p
  duty_maps (duties.Step (step_duties.PlainAck s)) = elim (breaks_by_ack p.profile (end_at s p)) as (λ b. AllMap (if b then broken_by s 6 p else None) p) [ true ↦ broken_none s 6 p | false ↦ tt ]
  duty_maps (duties.Step (step_duties.Unmapped s)) = broken_none s 6 p
  duty_maps (duties.Step (step_duties.Data s)) = data_maps s (first_unsent (end_at s p))
  duty_maps (duties.Send (send_duties.Syn s)) = unsent_maps s
  duty_maps (duties.Send (send_duties.Again s)) = or_ack p.profile s (end_at s p) (first_record (end_at s p)) (every_at 0 (end_at s p).tcp.send.records (maps s))
  duty_maps (duties.Send (send_duties.FastClose s)) = carried_none p.profile s (end_at s p) (end_at s p).notices.carrier
  duty_maps (duties.Send (send_duties.Notice s)) = noted_none p.profile s (end_at s p) (first_of (end_at s p).notices.queue)
  duty_maps (duties.Send (send_duties.Answer s)) = answer_none p.profile s (end_at s p) (end_at s p).tcp.due.syn_ack
  duty_maps (duties.Send (send_duties.Resend s)) =
      let e : PathEnd = end_at s p in resent_maps p.profile s e (every_at 0 e.tcp.send.records (maps s)) (has_records e.tcp) e.modes.owes_third e.notices.fast_closed (is_data_fin_owed e)
  duty_maps (duties.Send (send_duties.Update s)) = none refl (ack_none p.profile s (end_at s p) None)
  duty_maps (duties.Send (send_duties.Acknowledge s)) = none refl (ack_none p.profile s (end_at s p) None)
  duty_maps (duties.Send (send_duties.DataFin s)) = none refl (ack_none p.profile s (end_at s p) (end_at s p).sending.known_end)
  duty_maps (duties.Send (send_duties.Fin s)) = none refl (fin_none p.profile s (end_at s p) (goes s).identity (goes s).own (fin_position (end_at s p).tcp.send))
  duty_maps (duties.Send (send_duties.SynAck s)) = none refl (syn_none p.profile s (end_at s p))
  duty_maps (duties.Send (send_duties.Refuse s)) = none refl refl
  duty_maps (duties.Send (send_duties.ResetAnswer s)) = none refl refl
  duty_maps (duties.Send (send_duties.BreakReset s reason)) = none refl (broken_maps_none p.profile s (end_at s p) (Some reason))
  duty_maps (duties.Send (send_duties.Reset s)) = none refl (broken_maps_none p.profile s (end_at s p) None)
  duty_maps (duties.Send (send_duties.ResetNoted s)) = none refl (broken_maps_none p.profile s (end_at s p) None)
  duty_maps _ = tt

-- ---- a link

abbrev pub CopyMaps : Flight Carried → Type 0
CopyMaps f = MapsAll (peer f.to) (as_arrived f.carried)

-- nothing is done to a segment on its way
unchanged : (from : Side) (number now : ℕ) (lines : List ScriptLine) → StripsNothing lines → AltersNothing lines → (carried : Carried)
    → changed stripped altered (is_stripped from number now lines) (is_altered from number lines) carried ≡ carried
unchanged from number now lines strips alters carried = rw (strips.strips from number now, alters.alters from number) refl

handed_maps : (t : ToSend) (p : PathState Carried) → StripsNothing p.link.lines → AltersNothing p.link.lines → AllMap (Some t) p → Every CopyMaps p.link.under_way
    → Every CopyMaps (handed values t.from (segment_sent p t) p).under_way
handed_maps t p strips alters maps h = by t.from maps
  where
    x : PlainSegment
    x = segment_sent p t

    same : (from : Side) → changed stripped altered (is_stripped from (next_number from p.link) p.clock p.link.lines) (is_altered from (next_number from p.link) p.link.lines) (carried_by p.profile.spelling from x) ≡ carried_by p.profile.spelling from x
    same from = unchanged from (next_number from p.link) p.clock p.link.lines strips alters (carried_by p.profile.spelling from x)

    by : (from : Side) → MapsAll from x → Every CopyMaps (handed values from x p).under_way
    by A maps = handed_kept CopyMaps A x p (λ tick. subst (λ (c : Carried). MapsAll A (as_arrived c)) (sym (same A)) maps) h
    by B maps = handed_kept CopyMaps B x p (λ tick. subst (λ (c : Carried). MapsAll B (as_arrived c)) (sym (same B)) maps) h

line_maps : (action : LineAction) (p : PathState Carried) → Every CopyMaps p.link.under_way → Every CopyMaps (after_line action p).link.under_way
line_maps actions.Die p h = record { each = λ i f there. cc }
line_maps (actions.Prio s backup) p h = h
line_maps (actions.Announce s id) p h = h
line_maps (actions.Withdraw s id) p h = h

event_maps : (o : Option Event) (r : Reply) (p : PathState Carried) → Every CopyMaps p.link.under_way → Every CopyMaps (happens_if values o r p).link.under_way
event_maps None r p h = h
event_maps (Some (happenings.Joins tick)) r p h =
    let x = record (at_tick tick p) { joined_at = None } in
    elim (is_never r) as (λ b. Every CopyMaps (if b then goes_on A (never_joined r x.a) (leaves A) x else goes_on A (opened_by (keys_begun r) x.a) (emission A) x).link.under_way) [ true ↦ h | false ↦ h ]
event_maps (Some (happenings.Takes line)) r p h = line_maps line.action _ h
event_maps (Some (happenings.Arrives due)) r p h = by (heard_in values due.to (arriving due p.link) p)
  where
    rest : (o : Option ℕ) → Every CopyMaps (without o p.link.under_way)
    rest None = h
    rest (Some place) = record { each = λ i f at. let there = in_removed p.link.under_way place i f at in h.each there.0 f there.1 }

    by : (o : Option HeardSegment) → Every CopyMaps (copy_heard due.to o (record (at_tick due.tick p) { link = record p.link { under_way = without (position (is_due due) p.link.under_way) p.link.under_way } })).link.under_way
    by None = rest (position (is_due due) p.link.under_way)
    by (Some x) = rest (position (is_due due) p.link.under_way)
event_maps (Some (happenings.Fires s tick)) r p h = h

-- ---- a step

-- what is known of a path as it goes on
record Ready (p : PathState Carried) : Type 0 where
  records : RecordsMap p
  goes : EndsGoByMappings p
  strips : StripsNothing p.link.lines
  alters : AltersNothing p.link.lines

abbrev pub PathMaps : PathState Carried → Type 0
PathMaps p = Every CopyMaps p.link.under_way

same_maps : (p q : PathState Carried) → q.link ≡ p.link → PathMaps p → PathMaps q
same_maps p q is h = subst (λ (l : LinkState Carried). Every CopyMaps l.under_way) (sym is) h

settled_maps : (ds : List Duty) (p : PathState Carried) → PathMaps p → PathMaps (settled ds p)
settled_maps ds p h = same_maps p (settled ds p) (settled_lasts LinkStays links_last ds p) h

module _ (d : Duty) (ds : List Duty) (r : Reply) (p : PathState Carried) where
  abbrev x : PathState Carried
  x = with_agenda (d ∷ ds) p

  abbrev q : PathState Carried
  q = answered values d r x

  sent_maps : is_event d ≡ false → Ready x → PathMaps x → (o : Option ToSend) → duty_sends d x ≡ o → PathMaps q
  sent_maps other ready h None is = same_maps x q (quiet_link values d r x other is) h
  sent_maps other ready h (Some t) is =
      let hands : Hands values x t = subst (HandsOrTellsNone values x) is (each_segment_is_told values x) in
      let link : q.link ≡ handed values t.from (segment_sent x t) x = sym (settled_lasts LinkStays links_last q.agenda q) ∙ hands.taken r in
      subst (λ (l : LinkState Carried). Every CopyMaps l.under_way) (sym link) (handed_maps t x ready.strips ready.alters (subst (λ o. AllMap o x) is (duty_maps x ready.records ready.goes d)) h)

answered_maps : (d : Duty) (ds : List Duty) (r : Reply) (p : PathState Carried) → Ready (with_agenda (d ∷ ds) p) → PathMaps p → PathMaps (answered values d r (with_agenda (d ∷ ds) p))
answered_maps (duties.Step step_duties.Events) ds r p ready h =
    let x : PathState Carried = with_agenda (duties.Step step_duties.Events ∷ ds) p in event_maps (next_event x) r x h
answered_maps d ds r p ready h = sent_maps d ds r p refl ready h (duty_sends d (with_agenda (d ∷ ds) p)) refl

takes_maps : (r : Reply) (p : PathState Carried) → Ready p → PathMaps p → PathMaps (takes values r p)
takes_maps r p = by p.agenda
  where
    by : (ds : List Duty) → Ready (with_agenda ds p) → PathMaps p → PathMaps (takes values r (with_agenda ds p))
    by [] ready h = h
    by (d ∷ ds) ready h = let q : PathState Carried = answered values d r (with_agenda (d ∷ ds) p) in settled_maps q.agenda q (answered_maps d ds r p ready h)

-- ---- the world

abbrev OfPaths : (PathState Carried → Type 0) → Actor Carried → Type 0
OfPaths P = HoldsOfKind (λ app. Unit {0}) P

abbrev pub EndBehind : PathState Carried → Type 0
EndBehind p = (s : Side) → Every (λ (r : Record). KindBehind r.kind r) (end_at s p).tcp.send.records

-- a lane's positions begin behind the SYN
lane_behind : (c : Profile) (s : Side) (out : Lane) (r : Record) (kind : RecordKind) → KindShows c s out.alters out.sent out.datas out.fins kind r → KindBehind kind r
lane_behind c s out r Syn h = h
lane_behind c s out r Data h = let at = h.octets.holds.position_is in omega (arith, at)
lane_behind c s out r Fin h = h.0

path_behind : (c : Profile) (p : PathState Carried) (ab ba : Lane) → PathShows c p ab ba → EndBehind p
path_behind c p ab ba shows A = record { each = λ i r there. lane_behind c A ab r r.kind (shows.a.sender.pieces.each i r there) }
path_behind c p ab ba shows B = record { each = λ i r there. lane_behind c B ba r r.kind (shows.b.sender.pieces.each i r there) }

pub each_behind : (start : Start) (turns : List Turn) → HasRoom start → (actor : ℕ) (c : ActorCrew Carried) → slice_get (world_run values turns (opened_world start)).crew actor ≡ Some c → OfPaths EndBehind c.member
each_behind start turns size =
    let can = anyhow start size in
    let r = each_run_shows start can turns (free_run can.links (anyhow_free start size) turns (opened_world start)) in
    shown_so can.links (after_events r.events (first_duo can.links start)) r.shows
  where
    shown_so : (links : Links) (d : Duo) → WorldShows links start d (world_run values turns (opened_world start))
        → (actor : ℕ) (c : ActorCrew Carried) → slice_get (world_run values turns (opened_world start)).crew actor ≡ Some c → OfPaths EndBehind c.member
    shown_so links d h = subst (λ (w : WorldState Carried). (actor : ℕ) (c : ActorCrew Carried) → slice_get w.crew actor ≡ Some c → OfPaths EndBehind c.member) (sym h.is)
        (each_actor (λ actor c. OfPaths EndBehind c.member) h.cast tt tt (λ number x there.
        let path = h.paths.each number number x (omega arith) there in path_behind (path_begins start number path.plan).profile x.path path.ab path.ba path.shows))

record EachReady (w : WorldState Carried) : Type 0 where
  each : (actor : ℕ) (c : ActorCrew Carried) → slice_get w.crew actor ≡ Some c → OfPaths Ready c.member

each_ready : (start : Start) (turns : List Turn) → IsMildStart start → EachReady (world_run values turns (opened_world start))
each_ready start turns mild = record {
  each = λ actor c there. by c.member ((mapping_is_kept start turns mild).each actor c there) ((links_are_mild values start turns mild).each actor c there)
      (each_shown start turns mild.plain.size mild.fit actor c there) (each_behind start turns mild.plain.size actor c there);
}
  where
    by : (m : Actor Carried) → OfPaths EndsGoByMappings m → OfPaths (LinkIsMild start.lines) m → OfPaths Shown m → OfPaths EndBehind m → OfPaths Ready m
    by (App a) goes link shown behind = tt
    by (Path p) goes link shown behind = record {
      records = λ s. record { each = λ i r there. record_maps p.profile s (end_at s p) (goes s).identity (goes s).own r ((shown.tells s).sender.records.each i r there) ((behind s).each i r there) };
      goes = goes;
      strips = link.strips;
      alters = link.alters;
    }

pub record EachMaps (w : WorldState Carried) : Type 0 where
  pub each : (actor : ℕ) (c : ActorCrew Carried) → slice_get w.crew actor ≡ Some c → OfPaths PathMaps c.member

member_takes_maps : (r : Reply) (m : Actor Carried) → OfPaths Ready m → OfPaths PathMaps m → OfPaths PathMaps (member_takes values r m)
member_takes_maps r (App a) ready h = tt
member_takes_maps r (Path p) ready h = takes_maps r p ready h

member_next_maps : (m : Actor Carried) → OfPaths PathMaps m → OfPaths PathMaps (member_next m)
member_next_maps (App a) h = tt
member_next_maps (Path p) h = let q : PathState Carried = record p { clock = p.until; until = p.until + 100 } in settled_maps start_of_turn (with_agenda start_of_turn q) h

turn_maps : (turn : Turn) (w : WorldState Carried) → EachReady w → EachMaps w → EachMaps (after_turn values turn w)
turn_maps turn w ready h =
    turn_so values EachMaps turn w h
    (λ actor c x there is. record {
      each = λ i d at. ⊎_elim
          (λ here. subst (λ (y : ActorCrew Carried). OfPaths PathMaps y.member) here.1 (member_takes_maps (answer_to w.books x) c.member (ready.each actor c there) (h.each actor c there)))
          (λ other. h.each i d other.1)
          (in_set w.crew actor (crew_after values x w.books c) i d at);
    })
    (λ over. record {
      each = λ i d at.
          let found = in_map (begins (greatest 0 w.crew)) w.crew i d at in
          subst (λ (y : ActorCrew Carried). OfPaths PathMaps y.member) found.2 (member_next_maps found.0.member (h.each i found.0 found.1));
    })

run_maps : (turns : List Turn) (w : WorldState Carried) → ((more : List Turn) → EachReady (world_run values more w)) → EachMaps w → EachMaps (world_run values turns w)
run_maps [] w ever h = h
run_maps (turn ∷ turns) w ever h = run_maps turns (after_turn values turn w) (λ more. ever (turn ∷ more)) (turn_maps turn w (ever []) h)

pub each_maps : (start : Start) (turns : List Turn) → IsMildStart start → EachMaps (world_run values turns (opened_world start))
each_maps start turns mild = run_maps turns (opened_world start) (λ more. each_ready start more mild) (record {
  each = (opened_lifted (λ c. OfPaths PathMaps c.member) start tt tt
      (λ number plan there. settled_maps start_of_turn (with_agenda start_of_turn (waiting_path (path_begins start number plan) start.lines)) (record { each = λ i f there. cc }))).each;
})
