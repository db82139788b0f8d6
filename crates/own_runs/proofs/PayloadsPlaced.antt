-- Over links that alter no payload each segment with a payload tells where it stands in its side's file.
use Rattle.std.proofs.Common.{◌≡◌, refl, sym, ◌∙◌, ap, subst, ℕ, suc, ◌+◌, ◌-◌, ◌%◌, ◌^◌, ◌<◌, ◌≤◌, ◌⊎◌, inl, inr, Bool, true, false, if◌then◌else◌, Result, Ok, Err, Option, Some, None, option_map, List, [], ◌∷◌, length, All, arith}
use Rattle.std.specs.List.{slice_get}
use Rattle.std.specs.Option.{IfSome}
use Rattle.std.proofs.lemmas.List.Elements.{All-head}
use Rattle.std.proofs.lemmas.Option.{slice_get_within}
use Rattle.sides.specs.declared.side.Side.{Side}
use Rattle.sides.specs.declared.side.Side.TheVariants.{A, B}
use Rattle.key_material.specs.KeyDigest.{idsn_of}
use Rattle.segment_wire.specs.declared.head.Addresses.{Addresses}
use Rattle.segment_wire.specs.declared.reading.SegmentFault.{SegmentFault}
use Rattle.segment_wire.specs.declared.reading.SegmentFault.TheVariants.{Short, DataOffset, OptionLength, Checksum}
use Rattle.segment_wire.specs.Reading.{has_broken_option, has_wrong_checksum, has_wrong_offset, is_short, segment_in, segment_meaning}
use Rattle.segment_wire.specs.Segment.{Segment}
use Rattle.path_segments.specs.Options.{PlainOption}
use Rattle.path_segments.specs.Spelled.{CanSayOption, PlainSegment}
use Rattle.path_segments.specs.Spelling.{numbers_of}
use Rattle.subflow_send.specs.declared.record.RecordKind.TheVariants.{Data}
use Rattle.subflow_send.specs.Records.{Record}
use Rattle.subflow_send.specs.Rules.{is_unsent}
use Rattle.subflow_tcp.specs.Emitting.{is_syn}
use Rattle.subflow_tcp.specs.State.{has_records}
use Rattle.stream_lanes.specs.Holding.{IsHonest, IsRight, LaneHolds}
use Rattle.stream_lanes.specs.Lane.{Cell, Lane, Mapping}
use Rattle.stream_lanes.specs.View.{View}
use Rattle.stream_lanes.specs.Words.{Every}
use Rattle.stream_lanes.proofs.Lists.{in_map}
use Rattle.actor_desk.specs.Words.{pick}
use Rattle.link_trace.specs.declared.carried.Base.{Base}
use Rattle.link_trace.specs.declared.carried.PathInitials.{PathInitials}
use Rattle.link_trace.specs.declared.sent.Sent.{Sent}
use Rattle.link_trace.specs.Carrying.{carried_in, carried_of, first_byte, first_number, initial_in, place_mapped, shifts_after}
use Rattle.link_trace.specs.FirstOctets.{EndsBy}
use Rattle.link_trace.specs.Meanings.{meaning_in}
use Rattle.path_agenda.specs.Words.{first_of}
use Rattle.path_store.specs.declared.infinite_mapping.InfiniteMapping.{InfiniteMapping}
use Rattle.path_core.specs.declared.looking.Departing.{Departing}
use Rattle.path_core.specs.Emission.{first_unsent, ack_resent, answer_said, first_record, resend_said}
use Rattle.path_core.specs.End.{PathEnd}
use Rattle.path_core.specs.Looking.{broken_by, departing_as, duty_sends, heard_sends, unsent_sends}
use Rattle.path_core.specs.Fallback.{breaks_by_ack}
use Rattle.path_core.specs.DssIn.{is_clash}
use Rattle.path_core.specs.Treating.{item_of}
use Rattle.path_agenda.specs.declared.duty.Duty.{Duty}
use Rattle.path_agenda.specs.declared.duty.Duty.TheVariants as duties
use Rattle.path_agenda.specs.declared.duty.SendDuty.TheVariants as sends_of
use Rattle.path_agenda.specs.declared.duty.StepDuty.TheVariants as steps_of
use Rattle.path_agenda.specs.declared.heard.Heard.{Heard}
use Rattle.path_agenda.specs.declared.heard.Heard.TheVariants as says
use Rattle.link_trace.specs.declared.carried.Carried.{Carried}
use Rattle.path_core.specs.Octets.{made}
use Rattle.path_core.specs.OptionsOut.{ack_said, carried_said, noted_said, record_options, record_or_ack, record_said, reset_said, syn_ack_said}
use Rattle.path_core.specs.DssOut.{checksum_told, first_piece_options, infinite_or, is_first_piece, mapped_options, owes_mapping, piece_mapping, piece_options, place_numbered, plain_options}
use Rattle.path_core.specs.DataFin.{is_data_fin_owed}
use Rattle.path_agenda.specs.declared.notice.OwnNotice.{OwnNotice}
use Rattle.path_segments.specs.declared.segment.PathMapping.TheVariants.{Infinite}
use Rattle.path_segments.specs.declared.segment.PathOption.TheVariants.{Capable, Dss}
use Rattle.mptcp_options.specs.declared.capable.CapableKeys.TheVariants.{WithData}
use Rattle.path_core.specs.State.{PathState, end_at, path_of}
use Rattle.path_core.specs.Profile.{Profile}
use Rattle.run_trace.specs.Initials.{initials_of}
use Rattle.world_laws.specs.Openings.{Start}
use Rattle.world_laws.proofs.Lanes.Records.{every_at, every_find}
use Rattle.world_laws.proofs.Lanes.Showing.{HasMapping}
use Rattle.world_laws.proofs.Numbers.TellSmall.{EndTells, OptionTells, PairTells, RecordTells, SegmentTells, record_said_tells}
use Rattle.own_runs.specs.Counting.{base_from}
use Rattle.own_runs.specs.Sending.{payload_in}
use Rattle.own_runs.proofs.Handing.{made_payload}
use Rattle.own_runs.proofs.ReadingBack.{IsSaid, OneSaid, Placed, by_mapping, mapping_said, by_position, steady_infinite, steady_keys, steady_none, steady_without, unmapped_infinite, unmapped_keys, unmapped_none}

-- ---- the payload of a segment that is meant

payload_of : (addresses : Addresses) (text : List ℕ) (segment : Segment) → segment_meaning addresses text ≡ Ok segment → segment.payload ≡ payload_in text
unfolding segment_meaning
payload_of addresses text segment = by (is_short text) (has_wrong_offset text) (has_broken_option text) (has_wrong_checksum addresses text)
  where
    meant : ◌≡◌ {A = Result Segment SegmentFault} (Ok (segment_in text)) (Ok segment) → segment.payload ≡ payload_in text
    meant is = let same : segment_in text ≡ segment = cc in sym (ap (λ (g : Segment). g.payload) same)

    by : (a b d w : Bool)
        → ◌≡◌ {A = Result Segment SegmentFault} (if a then Err Short else (if b then Err DataOffset else (if d then Err OptionLength else (if w then Err Checksum else Ok (segment_in text))))) (Ok segment)
        → segment.payload ≡ payload_in text
    by true b d w is = cc
    by false true d w is = cc
    by false false true w is = cc
    by false false false true is = cc
    by false false false false is = meant is

-- ---- a record of an end, and what stands on its lane

-- the record of a payload: it stands in the file of its side, and where no mapping tells its place the position does, on path 0
pub record DataFacts (start : Start) (c : Profile) (n : ℕ) (s : Side) (e : PathEnd) (r : Record) : Type 0 where
  pub kind : r.kind ≡ Data
  pub tells : RecordTells c s r
  pub some : 1 ≤ r.mapping.length
  pub same : r.mapping.length ≡ length r.piece
  pub small : place_numbered c s r.mapping.number < 2 ^ 31
  pub within : place_numbered c s r.mapping.number + length r.piece ≤ length (pick s start.file_a start.file_b)
  pub plain : e.modes.identity ≡ true → (n ≡ 0) × (suc (place_numbered c s r.mapping.number) ≡ r.pos)
  pub first : is_first_piece s r e ≡ true → (n ≡ 0) × (suc (place_numbered c s r.mapping.number) ≡ r.pos)

abbrev pub RecordFacts : Start → Profile → ℕ → Side → PathEnd → Record → Type 0
RecordFacts start c n s e r = (r.piece ≡ []) ⊎ DataFacts start c n s e r

-- an end of a path, whose numbers are those of the start
pub record EndFacts (start : Start) (c : Profile) (n : ℕ) (s : Side) (e : PathEnd) : Type 0 where
  pub records : Every (RecordFacts start c n s e) e.tcp.send.records
  pub infinite : e.modes.own_infinite ≡ None
  pub tells : EndTells c s e
  pub path : c.spelling.path ≡ n
  pub within : n < length start.paths
  pub few : n ≤ 15
  pub mss : c.mss < 2 ^ 16
  pub checksums : start.checksums ≡ c.spelling.checksums
  pub keyed : (numbers_of c.spelling s).idsn.0 ≡ idsn_of (pick s start.key_a start.key_b)
  pub initial : initial_in (initials_of start.paths) n s ≡ (numbers_of c.spelling s).initial.0 % 2 ^ 32

-- the mapping of a record on its lane
module _ (v : View) (n place position len : ℕ) (out : Lane) (holds : LaneHolds v n out) (has : HasMapping out.datas place position len) where
  abbrev m : Mapping
  m = has.holds.mapping

  right : IsRight out.sent m
  right =
      let honest : IsHonest out.alters out.pieces out.sent has.item = holds.bytes.honest.each has.at has.item has.there in
      subst (λ o. IfSome o (IsRight out.sent)) has.holds.there honest.mapping

  -- the cell of one of its places
  cell_at : (j : ℕ) → j < m.len → (x : Cell) × ((slice_get out.sent (m.pos + j) ≡ Some x) × (x.place ≡ m.place + j))
  cell_at j below = let found = in_map (λ (x : Cell). x.place) out.sent (m.pos + j) (m.place + j) (right.places j below) in (found.0, (found.1, found.2))

  pub written_within : 1 ≤ len → place + len ≤ length v.written
  written_within some =
      let l = has.holds.is.len_is in let p = has.holds.is.place_is in
      let last = cell_at (len - 1) (omega (arith, l, some)) in
      let fits = holds.record_of.cells.each (m.pos + (len - 1)) last.0 last.1.0 in
      let below = slice_get_within v.written last.0.place last.0.byte fits.byte in
      let at = last.1.1 in omega (arith, below, at, p, some)

  -- as long as no join was answered places are positions
  pub alone_at : v.alone ≡ true → suc place ≡ position
  alone_at alone =
      let some = right.some in let cell = cell_at 0 (omega (arith, some)) in
      let at = (holds.alone alone).identity.each (m.pos + 0) (m.pos + 0) cell.0 (omega arith) cell.1.0 in
      let same = cell.1.1 in let p = has.holds.is.place_is in let q = has.holds.is.position_is in omega (arith, at, same, p, q)

  pub some_sent : out.sent ≡ [] → ⊥
  some_sent none =
      let within = right.within in let some = right.some in let empty = ap length none in omega (arith, within, some, empty)

-- ---- a record's segment, as a trace reads it

module _ (start : Start) (p : PathState (List ℕ)) (n : ℕ) (x : Sent) (h : EndFacts start p.profile n x.from (end_at x.from p)) (numbered : path_of p ≡ n) (path : x.path ≡ path_of p) where
  abbrev base : Base
  base = base_from start

  abbrev initials : List PathInitials
  initials = initials_of start.paths

  abbrev c : Profile
  c = p.profile

  abbrev s : Side
  s = x.from

  abbrev e : PathEnd
  e = end_at x.from p

  abbrev key : ℕ
  key = pick s start.key_a start.key_b

  first_is : (s : Side) → first_byte base s ≡ first_number (pick s start.key_a start.key_b)
  first_is = elim [ A ↦ refl | B ↦ refl ]

  module _ (r : Record) (f : DataFacts start c n s e r) (is : x.octets ≡ made c.spelling s (record_said c s r e)) where
    abbrev sg : PlainSegment
    sg = record_said c s r e

    abbrev place : ℕ
    place = place_numbered c s r.mapping.number

    no_pair : IfSome e.modes.own_infinite PairTells
    no_pair = subst (λ (o : Option InfiniteMapping). IfSome o PairTells) (sym h.infinite) tt

    told : SegmentTells c s sg
    told = record_said_tells c s (let few = h.few in let same = h.path in omega (arith, few, same)) h.mss e h.tells no_pair (Some r) f.tells

    options_are : sg.options ≡ piece_options c s r e
    options_are = ap (λ kind. record_options kind c s r e) f.kind

    -- its one option can be written
    one_of : (o : PlainOption) → sg.options ≡ o ∷ [] → OneSaid c.spelling s sg.options
    one_of o one =
        subst (OneSaid c.spelling s) (sym one) (
          (All-head (CanSayOption c.spelling s) o [] (subst (All (CanSayOption c.spelling s)) one told.sayable.options)).form,
          (All-head (OptionTells c s) o [] (subst (All (OptionTells c s)) one told.options)).fits,
        )

    none_of : sg.options ≡ [] → OneSaid c.spelling s sg.options
    none_of none = subst (OneSaid c.spelling s) (sym none) tt

    is_said : OneSaid c.spelling s sg.options → IsSaid base initials x c.spelling sg key
    is_said one = record {
      can = told.sayable;
      path = path ∙ numbered ∙ sym h.path;
      octets = is;
      none = ap (λ kind. if is_syn kind then Some c.mss else None) f.kind;
      one = one;
      checksums = h.checksums;
      initial = ap (λ k. initial_in initials k s) (path ∙ numbered) ∙ h.initial;
      keyed = h.keyed;
      first = first_is s;
    }

    -- the position tells the place
    at_position : (one : OneSaid c.spelling s sg.options)
        → place_mapped (mapping_said c.spelling s sg.options) (first_byte base s) (sg.position % 2 ^ 32) ≡ None → shifts_after base x [] ≡ []
        → (n ≡ 0) × (suc place ≡ r.pos) → Placed base initials x place (length r.piece)
    at_position one unmapped steady at = by_position base initials x c.spelling sg key (is_said one) place unmapped steady (path ∙ numbered ∙ at.0) at.1 f.small

    at_none : sg.options ≡ [] → (n ≡ 0) × (suc place ≡ r.pos) → Placed base initials x place (length r.piece)
    at_none are at =
        let one = none_of are in
        at_position one (unmapped_none base initials x c.spelling sg key (is_said one) are) (steady_none base initials x c.spelling sg key (is_said one) are) at

    placed_plain : e.modes.identity ≡ true → Placed base initials x place (length r.piece)
    placed_plain identity = by (owes_mapping e) refl
      where
        are : (b : Bool) → owes_mapping e ≡ b → sg.options ≡ (if b then Dss None (Some (Infinite (r.pos - 1) r.pos)) ∷ [] else [])
        are b owes =
            options_are ∙ ap (λ (i : Bool). if i then plain_options r.pos e else infinite_or e.modes.own_infinite (mapped_options c s r e) e) identity
            ∙ ap (λ (o : Bool). if o then Dss None (Some (Infinite (r.pos - 1) r.pos)) ∷ [] else []) owes

        by : (b : Bool) → owes_mapping e ≡ b → Placed base initials x place (length r.piece)
        by true owes =
            let one = one_of (Dss None (Some (Infinite (r.pos - 1) r.pos))) (are true owes) in
            let at = f.plain identity in let after = at.1 in
            at_position one (unmapped_infinite base initials x c.spelling sg key (is_said one) None (r.pos - 1) r.pos (are true owes))
            (steady_infinite base initials x c.spelling sg key (is_said one) None (r.pos - 1) r.pos (are true owes) (path ∙ numbered ∙ at.0) (omega (arith, after))) at
        by false owes = at_none (are false owes) (f.plain identity)

    placed_mapped : sg.options ≡ mapped_options c s r e → Placed base initials x place (length r.piece)
    placed_mapped are = by (is_first_piece s r e) refl
      where
        next : PlainOption
        next = Dss (Some e.receiving.next) (Some (piece_mapping c s r))

        chosen : (b : Bool) → is_first_piece s r e ≡ b → sg.options ≡ (if b then first_piece_options c e.modes.peer_key r e else next ∷ [])
        chosen b is = are ∙ ap (λ (o : Bool). if o then first_piece_options c e.modes.peer_key r e else next ∷ []) is

        keys : is_first_piece s r e ≡ true → (o : Option ℕ) → e.modes.peer_key ≡ o → Placed base initials x place (length r.piece)
        keys is None none = at_none (chosen true is ∙ ap (λ (k : Option ℕ). first_piece_options c k r e) none) (f.first is)
        keys is (Some peer) there =
            let carried = WithData e.modes.own_key peer r.mapping.length (checksum_told c r.mapping.checksum) in
            let as_keys : sg.options ≡ Capable c.spelling.checksums false carried ∷ [] = chosen true is ∙ ap (λ (k : Option ℕ). first_piece_options c k r e) there in
            let one = one_of (Capable c.spelling.checksums false carried) as_keys in
            at_position one (unmapped_keys base initials x c.spelling sg key (is_said one) c.spelling.checksums false carried as_keys)
            (steady_keys base initials x c.spelling sg key (is_said one) c.spelling.checksums false carried as_keys) (f.first is)

        by : (b : Bool) → is_first_piece s r e ≡ b → Placed base initials x place (length r.piece)
        by true is = keys is e.modes.peer_key refl
        by false is =
            let one = one_of next (chosen false is) in
            by_mapping base initials x c.spelling sg key (is_said one) (Some e.receiving.next) place r.mapping.length (checksum_told c r.mapping.checksum) (chosen false is) f.some f.small

    pub payload_placed : Placed base initials x place (length r.piece)
    payload_placed = by e.modes.identity refl
      where
        by : (b : Bool) → e.modes.identity ≡ b → Placed base initials x place (length r.piece)
        by true is = placed_plain is
        by false is =
            placed_mapped (options_are ∙ ap (λ (i : Bool). if i then plain_options r.pos e else infinite_or e.modes.own_infinite (mapped_options c s r e) e) is
            ∙ ap (λ (o : Option InfiniteMapping). infinite_or o (mapped_options c s r e) e) h.infinite)

-- ---- whichever segment is sent

module _ (start : Start) (p : PathState (List ℕ)) (n : ℕ) (ends : (s : Side) → EndFacts start p.profile n s (end_at s p)) (numbered : path_of p ≡ n) where
  -- a segment without a payload, or that of a record with one
  abbrev pub IsOf : Side → PlainSegment → Type 0
  IsOf s sg = (sg.payload ≡ []) ⊎ ((r : Record) × (DataFacts start p.profile n s (end_at s p) r × (sg ≡ record_said p.profile s r (end_at s p))))

  abbrev pub Sends : Departing → Type 0
  Sends d = (sg : PlainSegment) × ((d.octets ≡ made p.profile.spelling d.from sg) × IsOf d.from sg)

  module _ (s : Side) where
    abbrev e_of : PathEnd
    e_of = end_at s p

    of_record : (o : Option Record) → IfSome o (RecordFacts start p.profile n s e_of) → IsOf s (record_or_ack p.profile s o e_of)
    of_record None facts = inl refl
    of_record (Some r) (inl none) = inl none
    of_record (Some r) (inr facts) = inr (r, (facts, refl))

    of_carried : (o : Option ℕ) → IsOf s (carried_said p.profile s o e_of)
    of_carried = elim [ None ↦ inl refl | Some shown ↦ inl refl ]

    of_noted : (o : Option OwnNotice) → IsOf s (noted_said p.profile s o e_of)
    of_noted = elim [ None ↦ inl refl | Some notice ↦ inl refl ]

    of_resent : IsOf s (ack_resent p.profile s e_of)
    of_resent = by e_of.modes.owes_third e_of.notices.fast_closed (is_data_fin_owed e_of)
      where
        by : (a b d : Bool) → IsOf s (if a then ack_said p.profile s e_of.tcp.send.nxt None e_of else (if b then carried_said p.profile s e_of.notices.carrier e_of
            else (if d then ack_said p.profile s e_of.tcp.send.nxt e_of.sending.known_end e_of else ack_said p.profile s (e_of.tcp.send.una - 1) None e_of)))
        by true b d = inl refl
        by false true d = of_carried e_of.notices.carrier
        by false false true = inl refl
        by false false false = inl refl

    of_first : IsOf s (record_or_ack p.profile s (first_record e_of) e_of)
    of_first = of_record (first_record e_of) (every_at 0 e_of.tcp.send.records (ends s).records)

    of_unsent : IsOf s (record_or_ack p.profile s (first_unsent e_of) e_of)
    of_unsent = of_record (first_unsent e_of) (every_find is_unsent e_of.tcp.send.records (ends s).records)

    of_resend : IsOf s (resend_said p.profile s e_of)
    of_resend = elim (has_records e_of.tcp) as (λ b. IsOf s (if b then record_or_ack p.profile s (first_record e_of) e_of else ack_resent p.profile s e_of))
        [ true ↦ of_first | false ↦ of_resent ]

    of_answer : IsOf s (answer_said p.profile s e_of)
    of_answer = elim e_of.tcp.due.syn_ack as (λ b. IsOf s (if b then syn_ack_said p.profile s e_of else ack_said p.profile s e_of.tcp.send.nxt None e_of))
        [ true ↦ inl refl | false ↦ inl refl ]

  -- what may not be sent
  unless : (b : Bool) (o : _) → IfSome (option_map (departing_as p) o) Sends → IfSome (option_map (departing_as p) (if b then None else o)) Sends
  unless = elim [ true ↦ λ o sends. tt | false ↦ λ o sends. sends ]

  only_if : (b : Bool) (o : _) → IfSome (option_map (departing_as p) o) Sends → IfSome (option_map (departing_as p) (if b then o else None)) Sends
  only_if = elim [ true ↦ λ o sends. sends | false ↦ λ o sends. tt ]

  broken_sends : (s : Side) (reason : ℕ) → IfSome (option_map (departing_as p) (broken_by s reason p)) Sends
  broken_sends s reason = unless (end_at s p).treated.asked _ (_, (refl, inl (reset_none s reason)))
    where
      reset_none : (s : Side) (reason : ℕ) → (reset_said p.profile (Some reason) (end_at s p)).payload ≡ []
      reset_none s reason = refl

  heard_does : (s : Side) (o : Option Heard) → IfSome (option_map (departing_as p) (heard_sends s o p)) Sends
  heard_does s (Some (says.Mapping fin)) = only_if (is_clash (end_at s p)) _ (broken_sends s 1)
  heard_does s _ = tt

  data_does : (s : Side) (o : Option Record) → IfSome (option_map (departing_as p) (unsent_sends s o)) Sends
  data_does s None = tt
  data_does s (Some r) = (_, (refl, of_unsent s))

  pub by_duty : (d : Duty) → IfSome (option_map (departing_as p) (duty_sends d p)) Sends
  by_duty (duties.Send (sends_of.Syn s)) = (_, (refl, of_unsent s))
  by_duty (duties.Send (sends_of.FastClose s)) = (_, (refl, of_carried s (end_at s p).notices.carrier))
  by_duty (duties.Send (sends_of.Notice s)) = (_, (refl, of_noted s (first_of (end_at s p).notices.queue)))
  by_duty (duties.Send (sends_of.Again s)) = (_, (refl, of_first s))
  by_duty (duties.Send (sends_of.Answer s)) = (_, (refl, of_answer s))
  by_duty (duties.Send (sends_of.Resend s)) = (_, (refl, of_resend s))
  by_duty (duties.Step (steps_of.Data s)) = data_does s (first_unsent (end_at s p))
  by_duty (duties.Step (steps_of.Heard s index)) = heard_does s (item_of index (end_at s p))
  by_duty (duties.Step (steps_of.PlainAck s)) = only_if (breaks_by_ack p.profile (end_at s p)) _ (broken_sends s 6)
  by_duty (duties.Step (steps_of.Unmapped s)) = broken_sends s 6
  by_duty (duties.Step (steps_of.Look s)) = tt
  by_duty (duties.Step steps_of.Events) = tt
  by_duty (duties.Ask d) = tt
  by_duty (duties.Silent d) = tt
  by_duty duties.End = tt
  by_duty _ = (_, (refl, inl refl))

  -- what is sent is on a path, and its payload ends within the file
  module _ (x : Sent) (path : x.path ≡ path_of p) (sg : PlainSegment) (is : x.octets ≡ made p.profile.spelling x.from sg) where
    abbrev read_as : Carried
    read_as = carried_of (base_from start) (initials_of start.paths) [] x

    empty_carried : sg.payload ≡ [] → read_as.len ≡ 0
    empty_carried none = (elim (meaning_in x) as (λ o. meaning_in x ≡ o → (carried_in (base_from start) x (initial_in (initials_of start.paths) x.path x.from) [] o).len ≡ 0)
        [ Err fault ↦ λ means. refl | Ok segment ↦ λ means. let same = ap length (payload_of _ x.octets segment means ∙ payload_none) in omega (arith, same) ]) refl
      where
        payload_none : payload_in x.octets ≡ []
        payload_none = ap payload_in is ∙ made_payload p.profile.spelling x.from sg ∙ none

    path_is : read_as.path ≡ x.path
    path_is = elim (meaning_in x) as (λ o. (carried_in (base_from start) x (initial_in (initials_of start.paths) x.path x.from) [] o).path ≡ x.path)
        [ Err fault ↦ refl | Ok segment ↦ refl ]

    empty_steady : sg.payload ≡ [] → shifts_after (base_from start) x [] ≡ []
    empty_steady none =
        let payload_none : payload_in x.octets ≡ [] = ap payload_in is ∙ made_payload p.profile.spelling x.from sg ∙ none in
        steady_without (base_from start) x (λ segment means. let same = ap length (payload_of _ x.octets segment means ∙ payload_none) in omega (arith, same))

    pub sent_ends : IsOf x.from sg
        → (read_as.path < length start.paths) × ((read_as.len ≡ 0) ⊎ EndsBy (length (pick x.from start.file_a start.file_b)) read_as) × (shifts_after (base_from start) x [] ≡ [])
    sent_ends of_it = (let within = (ends x.from).within in let same = path_is in omega (arith, within, same, path, numbered), by of_it, steady of_it)
      where
        steady : IsOf x.from sg → shifts_after (base_from start) x [] ≡ []
        steady (inl none) = empty_steady none
        steady (inr some) = (payload_placed start p n x (ends x.from) numbered path some.0 some.1.0 (is ∙ ap (made p.profile.spelling x.from) some.1.1)).steady

        by : IsOf x.from sg → (read_as.len ≡ 0) ⊎ EndsBy (length (pick x.from start.file_a start.file_b)) read_as
        by (inl none) = inl (empty_carried none)
        by (inr some) =
            let placed = payload_placed start p n x (ends x.from) numbered path some.0 some.1.0 (is ∙ ap (made p.profile.spelling x.from) some.1.1) in
            let within = some.1.0.within in let len = placed.len_is in
            inr (record { place = place_numbered p.profile x.from some.0.mapping.number; told = placed.told; within = omega (arith, within, len) })
