-- What the octets of a payload's segment tell of its place, read as any trace is.
use Rattle.std.proofs.Common.{◌≡◌, refl, ◌∙◌, ap, ℕ, zero, suc, ◌+◌, ◌-◌, ◌%◌, ◌==◌, ◌&&◌, ◌^◌, ◌<◌, ◌≤◌, nat_lt, Bool, true, false, if◌then◌else◌, Result, Ok, Err, Option, Some, None, unwrap_or, List, [], ◌∷◌, ◌++◌, length, replicate, append-nil, arith}
use Rattle.std.specs.Option.{option_or}
use Rattle.std.proofs.lemmas.Bool.{ne_eqb}
use Rattle.sides.specs.declared.side.Side.{Side}
use Rattle.sides.specs.Side.{peer}
use Rattle.key_material.specs.KeyDigest.{idsn_of}
use Rattle.mptcp_options.specs.declared.capable.CapableKeys.{CapableKeys}
use Rattle.mptcp_options.specs.declared.dss.DataNumber.TheVariants.{Low, Whole}
use Rattle.mptcp_options.specs.declared.dss.DssMap.{DssMap}
use Rattle.mptcp_options.specs.Value as wire
use Rattle.mptcp_options.specs.Text.{Fits, HasForm, option_text}
use Rattle.mptcp_options.proofs.OptionLaws.{read_again}
use Rattle.segment_wire.specs.declared.reading.SegmentFault.{SegmentFault}
use Rattle.segment_wire.specs.Options.{option_octets}
use Rattle.segment_wire.specs.Reading.{segment_meaning}
use Rattle.segment_wire.specs.Segment.{Segment}
use Rattle.segment_wire.proofs.Again.{segment_meaning-written}
use Rattle.segment_wire.proofs.Appended.{IsOption, option_octets-append}
use Rattle.segment_wire.specs.Paths.{addresses_from}
use Rattle.path_segments.specs.declared.segment.PathMapping.TheVariants.{Bytes, Infinite}
use Rattle.path_segments.specs.declared.segment.PathOption.TheVariants.{Capable, Dss}
use Rattle.path_segments.specs.declared.spelling.Spelling.{Spelling}
use Rattle.path_segments.specs.Options.{PlainOption, said_mapping, said_option}
use Rattle.path_segments.specs.Spelled.{CanSay, PlainSegment, options_text, padded, padding, spelled, spelled_text, syn_text}
use Rattle.path_segments.specs.Spelling.{data_number, numbers_of, subflow_number, whole_number}
use Rattle.path_segments.proofs.SegmentsAgain.{four, written}
use Rattle.link_trace.specs.declared.carried.Base.{Base}
use Rattle.link_trace.specs.declared.carried.PathInitials.{PathInitials}
use Rattle.link_trace.specs.declared.sent.Sent.{Sent}
use Rattle.link_trace.specs.Carrying.{behind, carried_in, carried_of, carries, dss_in, dss_read, first_byte, first_number, initial_in, low_number, mapped, no_dss, payload_len, place_mapped, place_of, shift_told, shifted, shifts_after, shifts_in, value_dss}
use Rattle.link_trace.specs.Shifts.{shift_in, with_shift}
use Rattle.link_trace.specs.Meanings.{meaning_in}

-- ---- the segment

-- octets that are made of a segment mean it
pub meant : (x : Sent) (spelling : Spelling) (sg : PlainSegment) → CanSay spelling x.from sg → x.path ≡ spelling.path
    → x.octets ≡ spelled_text spelling x.from sg → meaning_in x ≡ Ok (spelled spelling x.from sg)
meant x spelling sg can path is =
    let from = x.from in
    ap (λ (n : ℕ). segment_meaning (addresses_from n x.from) x.octets) path
    ∙ ap (segment_meaning (addresses_from spelling.path from)) is
    ∙ segment_meaning-written (addresses_from spelling.path from) (spelled spelling from sg) (four spelling.path from) (four spelling.path (peer from)) (written spelling from sg can)

-- ---- its DSS

text_is : (option : wire.OptionValue) → IsOption (option_text option)
unfolding option_text
text_is option = record { kind = omega arith; len = omega arith; low = omega arith }

zeros_none : (n : ℕ) → option_octets (replicate n 0) ≡ []
zeros_none = elim [ zero ↦ refl | suc n ↦ refl ]

-- of one option, with its padding
one_read : (v : wire.OptionValue) (checksums : Bool) (k : ℕ) → HasForm checksums v → Fits v
    → dss_in checksums (option_octets ((option_text v ++ []) ++ replicate k 0)) ≡ unwrap_or (value_dss v) no_dss
one_read v checksums k form fits =
    ap (λ (t : List ℕ). dss_in checksums (option_octets (t ++ replicate k 0))) (append-nil (option_text v))
    ∙ ap (dss_in checksums) (option_octets-append (option_text v) (replicate k 0) (text_is v))
    ∙ ap (λ (m : wire.Meaning). unwrap_or (dss_read m) (dss_in checksums (option_octets (replicate k 0)))) (read_again v checksums form fits)
    ∙ ap (λ (os : List (List ℕ)). unwrap_or (value_dss v) (dss_in checksums os)) (zeros_none k)

-- the mapping that a segment's options tell, of which there is one at most
abbrev pub mapping_said : Spelling → Side → List PlainOption → Option DssMap
mapping_said spelling from [] = None
mapping_said spelling from (o ∷ options) = (unwrap_or (value_dss (said_option spelling from o)) no_dss).mapping

-- there is one at most, which can be written
abbrev pub OneSaid : Spelling → Side → List PlainOption → Type 0
OneSaid spelling from [] = Unit {0}
OneSaid spelling from (o ∷ []) = HasForm spelling.checksums (said_option spelling from o) × Fits (said_option spelling from o)
OneSaid spelling from (o ∷ other ∷ others) = ⊥

module _ (spelling : Spelling) (from : Side) where
  options_read : (options : List PlainOption) → OneSaid spelling from options
      → (dss_in spelling.checksums (option_octets (padded (options_text spelling from options)))).mapping ≡ mapping_said spelling from options
  options_read [] one = refl
  options_read (o ∷ []) one = ap (λ d. d.mapping) (one_read (said_option spelling from o) spelling.checksums (padding (length (option_text (said_option spelling from o) ++ []))) one.0 one.1)
  options_read (o ∷ other ∷ others) one = absurd one

-- ---- a segment without SYN

module _ (base : Base) (initials : List PathInitials) (x : Sent) (spelling : Spelling) (sg : PlainSegment) where
  abbrev from : Side
  from = x.from

  -- as it is read
  record Reads : Type 0 where
    len : (carried_of base initials [] x).len ≡ length sg.payload
    place : (carried_of base initials [] x).place ≡ place_of (mapping_said spelling from sg.options) (first_byte base x.from) (shift_in [] x.path x.from) (sg.position % 2 ^ 32)
    shifts : (l : ℕ) × (shifts_after base x [] ≡ with_shift (shift_told (mapping_said spelling from sg.options) (first_byte base x.from) l) x.path x.from [])

  spelled_seq : (spelled spelling from sg).head.seq ≡ subflow_number spelling from sg.position
  unfolding spelled
  spelled_seq = refl

  spelled_payload : (spelled spelling from sg).payload ≡ sg.payload
  unfolding spelled
  spelled_payload = refl

  spelled_options : sg.mss ≡ None → (spelled spelling from sg).options ≡ padded (options_text spelling from sg.options)
  unfolding spelled
  spelled_options none = ap (λ (o : Option ℕ). padded (syn_text o ++ options_text spelling from sg.options)) none

  module _ (can : CanSay spelling from sg) (path : x.path ≡ spelling.path) (is : x.octets ≡ spelled_text spelling from sg) (none : sg.mss ≡ None)
      (one : OneSaid spelling from sg.options) (checksums : base.checksums ≡ spelling.checksums)
      (initial : initial_in initials x.path x.from ≡ (numbers_of spelling from).initial.0 % 2 ^ 32) where
    abbrev text : Segment
    text = spelled spelling from sg

    carried_is : carried_of base initials [] x ≡ carries base x (initial_in initials x.path x.from) [] text
    carried_is = ap (carried_in base x (initial_in initials x.path x.from) []) (meant x spelling sg can path is)

    position_is : behind text.head.seq (initial_in initials x.path x.from) ≡ sg.position % 2 ^ 32
    position_is = omega (arith, spelled_seq, initial)

    mapping_is : (dss_in base.checksums (option_octets text.options)).mapping ≡ mapping_said spelling from sg.options
    mapping_is =
        ap (λ (b : Bool). (dss_in b (option_octets text.options)).mapping) checksums
        ∙ ap (λ (t : List ℕ). (dss_in spelling.checksums (option_octets t)).mapping) (spelled_options none) ∙ options_read spelling from sg.options one

    reads : Reads
    reads = record {
      len = ap (λ c. c.len) carried_is ∙ (let fits = can.fits in let same = ap length spelled_payload in omega (arith, fits, same));
      place = ap (λ c. c.place) carried_is
          ∙ ap (λ (o : Option DssMap). place_of o (first_byte base x.from) (shift_in [] x.path x.from) (behind text.head.seq (initial_in initials x.path x.from))) mapping_is
          ∙ ap (place_of (mapping_said spelling from sg.options) (first_byte base x.from) (shift_in [] x.path x.from)) position_is;
      shifts = (
        payload_len text,
        ap (shifts_in base x []) (meant x spelling sg can path is)
            ∙ ap (λ (o : Option DssMap). with_shift (shift_told o (first_byte base x.from) (payload_len text)) x.path x.from []) mapping_is,
      );
    }

-- without a payload a segment tells no infinite mapping
no_payload : (o : Option DssMap) (first len : ℕ) → len ≡ 0 → shift_told o first len ≡ None
no_payload None first len none = refl
no_payload (Some map) first len none = ap (λ (n : ℕ). if map.length == 0 && nat_lt 0 n then Some (behind (behind (low_number map.number) first) map.relative) else None) none ∙ by (map.length == 0)
  where
    by : (b : Bool) → (if b && false then Some (behind (behind (low_number map.number) first) map.relative) else None) ≡ None
    by = elim [ true ↦ refl | false ↦ refl ]

pub steady_without : (base : Base) (x : Sent) → ((segment : Segment) → meaning_in x ≡ Ok segment → payload_len segment ≡ 0) → shifts_after base x [] ≡ []
steady_without base x empty = by (meaning_in x) refl
  where
    by : (o : Result Segment SegmentFault) → meaning_in x ≡ o → shifts_in base x [] o ≡ []
    by (Err fault) means = refl
    by (Ok segment) means =
        ap (λ (o : Option ℕ). with_shift o x.path x.from [])
        (no_payload (dss_in base.checksums (option_octets segment.options)).mapping (first_byte base x.from) (payload_len segment) (empty segment means))

-- ---- the place of a mapping

low_is : (spelling : Spelling) (side : Side) (place : ℕ) → low_number (data_number spelling side place) ≡ whole_number spelling side place % 2 ^ 32
low_is spelling side place =
    elim spelling.short as (λ b. low_number (if b then Low (whole_number spelling side place % 2 ^ 32) else Whole (whole_number spelling side place)) ≡ whole_number spelling side place % 2 ^ 32)
    [ true ↦ refl | false ↦ refl ]

number_back : (idsn place : ℕ) → behind ((idsn + (place + 1)) % 2 ^ 64 % 2 ^ 32) ((idsn % 2 ^ 32 + 1) % 2 ^ 32) ≡ place % 2 ^ 32
number_back idsn place = omega arith

module _ (spelling : Spelling) (from : Side) (key : ℕ) (keyed : (numbers_of spelling from).idsn.0 ≡ idsn_of key) where
  start_back : (place : ℕ) → behind (low_number (data_number spelling from place)) (first_number key) ≡ place % 2 ^ 32
  start_back place =
      ap (λ (n : ℕ). behind n (first_number key)) (low_is spelling from place)
      ∙ ap (λ (idsn : ℕ). behind ((idsn + (place + 1)) % 2 ^ 64 % 2 ^ 32) (first_number key)) keyed ∙ number_back (idsn_of key) place

  mapped_back : (place position len : ℕ) (checksum : Option ℕ) → 1 ≤ len → place < 2 ^ 31
      → mapped (said_mapping spelling from (Bytes place position len false checksum)) (first_number key) (position % 2 ^ 32) ≡ Some place
  mapped_back place position len checksum some small =
      let start = start_back place in
      let same : (behind (low_number (data_number spelling from place)) (first_number key) + behind (position % 2 ^ 32) (position % 2 ^ 32)) % 2 ^ 32 ≡ place = omega (arith, start, small) in
      ap (λ (b : Bool). if b then None else Some ((behind (low_number (data_number spelling from place)) (first_number key) + behind (position % 2 ^ 32) (position % 2 ^ 32)) % 2 ^ 32))
      (ne_eqb len 0 (λ none. omega (arith, some, none)))
      ∙ ap Some same

-- ---- a segment of a payload

-- where it stands, and how long it is
pub record Placed (base : Base) (initials : List PathInitials) (x : Sent) (place len : ℕ) : Type 0 where
  pub told : (carried_of base initials [] x).place ≡ Some place
  pub len_is : (carried_of base initials [] x).len ≡ len
  -- the segment tells no infinite mapping that says anything new
  pub steady : shifts_after base x [] ≡ []

-- a segment that can be said, without SYN, and with one option at most
pub record IsSaid (base : Base) (initials : List PathInitials) (x : Sent) (spelling : Spelling) (sg : PlainSegment) (key : ℕ) : Type 0 where
  pub can : CanSay spelling x.from sg
  pub path : x.path ≡ spelling.path
  pub octets : x.octets ≡ spelled_text spelling x.from sg
  pub none : sg.mss ≡ None
  pub one : OneSaid spelling x.from sg.options
  pub checksums : base.checksums ≡ spelling.checksums
  pub initial : initial_in initials x.path x.from ≡ (numbers_of spelling x.from).initial.0 % 2 ^ 32
  pub keyed : (numbers_of spelling x.from).idsn.0 ≡ idsn_of key
  pub first : first_byte base x.from ≡ first_number key

module _ (base : Base) (initials : List PathInitials) (x : Sent) (spelling : Spelling) (sg : PlainSegment) (key : ℕ) (h : IsSaid base initials x spelling sg key) where
  read : Reads base initials x spelling sg
  read = reads base initials x spelling sg h.can h.path h.octets h.none h.one h.checksums h.initial

  -- by its mapping
  pub by_mapping : (next : Option ℕ) (place len : ℕ) (checksum : Option ℕ) → sg.options ≡ Dss next (Some (Bytes place sg.position len false checksum)) ∷ []
      → 1 ≤ len → place < 2 ^ 31 → Placed base initials x place (length sg.payload)
  by_mapping next place len checksum options some small = record {
    told = read.place
        ∙ ap (λ (os : List PlainOption). place_of (mapping_said spelling x.from os) (first_byte base x.from) (shift_in [] x.path x.from) (sg.position % 2 ^ 32)) options
        ∙ ap (λ (n : ℕ). place_of (Some (said_mapping spelling x.from (Bytes place sg.position len false checksum))) n (shift_in [] x.path x.from) (sg.position % 2 ^ 32)) h.first
        ∙ ap (λ (o : Option ℕ). option_or o (shifted (shift_in [] x.path x.from) (sg.position % 2 ^ 32))) (mapped_back spelling x.from key h.keyed place sg.position len checksum some small);
    len_is = read.len;
    steady = read.shifts.1
        ∙ ap (λ (os : List PlainOption). with_shift (shift_told (mapping_said spelling x.from os) (first_byte base x.from) read.shifts.0) x.path x.from []) options
        ∙ ap (λ (b : Bool). with_shift (if b && nat_lt 0 read.shifts.0 then Some (behind (behind (low_number (data_number spelling x.from place)) (first_byte base x.from)) (said_mapping spelling x.from (Bytes place sg.position len false checksum)).relative) else None) x.path x.from [])
        (ne_eqb len 0 (λ none. omega (arith, some, none)));
  }

  -- without one on path 0
  pub by_position : (place : ℕ) → place_mapped (mapping_said spelling x.from sg.options) (first_byte base x.from) (sg.position % 2 ^ 32) ≡ None
      → shifts_after base x [] ≡ [] → x.path ≡ 0 → suc place ≡ sg.position → place < 2 ^ 31 → Placed base initials x place (length sg.payload)
  by_position place unmapped steady path at small = record {
    told = read.place
        ∙ ap (λ (o : Option ℕ). option_or o (shifted (shift_in [] x.path x.from) (sg.position % 2 ^ 32))) unmapped
        ∙ ap (λ (n : ℕ). shifted (shift_in [] n x.from) (sg.position % 2 ^ 32)) path
        ∙ ap Some (let same : (sg.position % 2 ^ 32 + (2 ^ 32 - 1)) % 2 ^ 32 ≡ place = omega (arith, at, small) in same);
    len_is = read.len;
    steady = steady;
  }

  pub unmapped_none : sg.options ≡ [] → place_mapped (mapping_said spelling x.from sg.options) (first_byte base x.from) (sg.position % 2 ^ 32) ≡ None
  unmapped_none is = ap (λ (os : List PlainOption). place_mapped (mapping_said spelling x.from os) (first_byte base x.from) (sg.position % 2 ^ 32)) is

  pub unmapped_keys : (a b : Bool) (keys : CapableKeys) → sg.options ≡ Capable a b keys ∷ [] → place_mapped (mapping_said spelling x.from sg.options) (first_byte base x.from) (sg.position % 2 ^ 32) ≡ None
  unmapped_keys a b keys is = ap (λ (os : List PlainOption). place_mapped (mapping_said spelling x.from os) (first_byte base x.from) (sg.position % 2 ^ 32)) is

  -- the infinite mapping
  pub unmapped_infinite : (next : Option ℕ) (place position : ℕ) → sg.options ≡ Dss next (Some (Infinite place position)) ∷ []
      → place_mapped (mapping_said spelling x.from sg.options) (first_byte base x.from) (sg.position % 2 ^ 32) ≡ None
  unmapped_infinite next place position is = ap (λ (os : List PlainOption). place_mapped (mapping_said spelling x.from os) (first_byte base x.from) (sg.position % 2 ^ 32)) is

  pub steady_none : sg.options ≡ [] → shifts_after base x [] ≡ []
  steady_none is = read.shifts.1 ∙ ap (λ (os : List PlainOption). with_shift (shift_told (mapping_said spelling x.from os) (first_byte base x.from) read.shifts.0) x.path x.from []) is

  pub steady_keys : (a b : Bool) (keys : CapableKeys) → sg.options ≡ Capable a b keys ∷ [] → shifts_after base x [] ≡ []
  steady_keys a b keys is = read.shifts.1 ∙ ap (λ (os : List PlainOption). with_shift (shift_told (mapping_said spelling x.from os) (first_byte base x.from) read.shifts.0) x.path x.from []) is

  -- what its infinite mapping says
  abbrev shift_said : ℕ → ℕ → ℕ → ℕ
  shift_said place position number = behind (behind (low_number (data_number spelling x.from place)) number) (said_mapping spelling x.from (Infinite place position)).relative

  abbrev shift_if_some : ℕ → ℕ → ℕ → Option ℕ
  shift_if_some place position number = if nat_lt 0 read.shifts.0 then Some (shift_said place position number) else None

  -- in plain TCP on path 0 the infinite mapping says what is so without one
  pub steady_infinite : (next : Option ℕ) (place position : ℕ) → sg.options ≡ Dss next (Some (Infinite place position)) ∷ [] → x.path ≡ 0 → suc place ≡ position
      → shifts_after base x [] ≡ []
  steady_infinite next place position is path at =
      read.shifts.1
      ∙ ap (λ (os : List PlainOption). with_shift (shift_told (mapping_said spelling x.from os) (first_byte base x.from) read.shifts.0) x.path x.from []) is
      ∙ ap (λ (n : ℕ). with_shift (shift_if_some place position n) x.path x.from []) h.first
      ∙ ap (λ (n : ℕ). with_shift (shift_if_some place position (first_number key)) n x.from []) path ∙ by (nat_lt 0 read.shifts.0)
    where
      same : shift_said place position (first_number key) ≡ 2 ^ 32 - 1
      same = let start = start_back spelling x.from key h.keyed place in omega (arith, start, at)

      by : (b : Bool) → with_shift (if b then Some (shift_said place position (first_number key)) else None) 0 x.from [] ≡ []
      by true = ap (λ (n : ℕ). with_shift (Some n) 0 x.from []) same
      by false = refl
