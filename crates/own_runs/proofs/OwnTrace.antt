-- What is found of each segment of a trace is a segment of a connection of ours.
use Rattle.std.proofs.Common.{◌≡◌, refl, sym, ap, ◌∙◌, subst, ℕ, zero, suc, ◌+◌, ◌-◌, ◌%◌, ◌^◌, inl, inr, ◌||◌, ◌≤◌, Bool, true, false, if◌then◌else◌, Option, Some, None, List, [], ◌∷◌, ◌++◌, length, map, replicate, append_assoc, append-nil, arith, nat_le, ◌&&◌, not, Ok}
use Rattle.std.specs.Prelude.{All, IfSome, unwrap_or}
use Rattle.std.specs.Int.{from_bool}
use Rattle.std.specs.Int.{w16, to_be_bytes}
use Rattle.std.specs.Option.{option_map, option_or}
use Rattle.std.proofs.lemmas.Option.{slice_get_within}
use Rattle.std.proofs.lemmas.Bool.{and_parts, le-leb}
use Rattle.std.proofs.lemmas.List.Elements.{All-cons, All-head, All-nil, All-tail, All-weaker}
use Rattle.capture_reader.specs.Seen.{Seen, segment_in_packet}
use Rattle.capture_reader.specs.declared.seen.End.{End}
use Rattle.key_material.specs.declared.address.Address.TheVariants.{V4}
use Rattle.link_trace.specs.declared.sent.Sent.{Sent}
use Rattle.mptcp_options.proofs.OptionLaws.{read_again}
use Rattle.mptcp_options.specs.Meaning.{is_of_another_kind, option_meaning}
use Rattle.mptcp_options.specs.Text.{Fits, HasForm, option_text}
use Rattle.mptcp_options.specs.declared.capable.CapableKeys.TheVariants.{Both, NoKey, Sender, WithData}
use Rattle.mptcp_options.specs.declared.join.JoinForm.TheVariants.{Answer, Third, Syn}
use Rattle.path_core.specs.End.{PathEnd}
use Rattle.path_core.specs.MpJoin.{is_joined, join_options}
use Rattle.path_core.specs.OptionsOut.{capable_options, syn_options}
use Rattle.path_core.specs.Profile.{Profile}
use Rattle.path_segments.proofs.SegmentsAgain.{four, written}
use Rattle.path_segments.specs.Options.{PlainOption, said_option}
use Rattle.path_segments.specs.Spelled.{CanSay, CanSayOption, PlainSegment, options_text, padded, padding, spelled, spelled_head, syn_text, unpadded_options}
use Rattle.path_segments.specs.declared.segment.PathMapping.TheVariants.{Bytes, End as EndOf, Infinite}
use Rattle.path_segments.specs.declared.segment.PathOption.TheVariants.{Capable, Dss}
use Rattle.path_segments.specs.Spelling.{numbers_of}
use Rattle.path_segments.specs.declared.spelling.Spelling.{Spelling}
use Rattle.seen_connections.specs.Asked.{answered_by, asked_by, first_answer, first_asked}
use Rattle.seen_connections.specs.SeenOptions.{Readable, SeenValue, each_seen, seen_as, seen_broken, seen_options}
use Rattle.seen_connections.specs.declared.flow.Opening.{Opening}
use Rattle.segment_wire.proofs.Again.{segment_meaning-written}
use Rattle.segment_wire.proofs.Appended.{IsOption, option_octets-append}
use Rattle.segment_wire.proofs.Fronts.{later, plain_options-padding}
use Rattle.segment_wire.specs.Options.{are_whole, are_whole_after, broken_after, broken_part, option_octets, plain_options}
use Rattle.segment_wire.specs.Paths.{address_of, addresses_from}
use Rattle.segment_wire.specs.Reading.{segment_meaning}
use Rattle.segment_wire.specs.Segment.{Segment}
use Rattle.segment_wire.specs.declared.head.Head.{Head}
use Rattle.sides.specs.Side.{peer}
use Rattle.sides.specs.declared.side.Side.TheVariants.{A, B}
use Rattle.sides.specs.declared.side.Side.{Side}
use Rattle.stream_lanes.specs.Words.{Every}
use Rattle.world_laws.proofs.Numbers.TellSmall.{OptionTells}
use Rattle.world_laws.specs.Openings.{PathPlan, Start, path_begins}
use Rattle.own_runs.specs.Segments.{seen_between}
use Rattle.own_runs.specs.Traces.{packet_for}
use Rattle.own_runs.proofs.Moments.{IsSpoken, Spoken}
use Rattle.own_runs.proofs.Values.{drawn}
use Rattle.own_runs.proofs.Own.{AnswerIs, Drawn, IsOwn, MapsIn, OpeningIs, ValueIs, first_seq, own_initial, own_key}
use Rattle.own_runs.proofs.Placing.{PlacedIn}
use Rattle.own_runs.proofs.Traces.{segments_are}
use Rattle.seen_connections.specs.declared.asked.Answer.{Answer as Answered}
use Rattle.seen_connections.specs.declared.flow.Opening.TheVariants as opening
use Rattle.mptcp_options.specs.Value as wire

-- ---- the octets of options

text_is : (v : wire.OptionValue) → IsOption (option_text v)
unfolding option_text
text_is v = record { kind = omega arith; len = omega arith; low = omega arith }

octets-later : (n : ℕ) (options : List (ℕ × List ℕ)) → map (λ (o : ℕ × List ℕ). o.1) (later n options) ≡ map (λ (o : ℕ × List ℕ). o.1) options
octets-later n [] = refl
octets-later n (o ∷ options) = ap (λ (t : List (List ℕ)). o.1 ∷ t) (octets-later n options)

octets-padding : (rest : List ℕ) → option_octets (1 ∷ rest) ≡ option_octets rest
octets-padding rest = ap (map (λ (o : ℕ × List ℕ). o.1)) (plain_options-padding (1 ∷ rest) refl) ∙ octets-later 1 (plain_options rest)

octets-zeros : (n : ℕ) → option_octets (replicate n 0) ≡ []
octets-zeros zero = refl
octets-zeros (suc n) = refl

abbrev mss_option : ℕ → List ℕ
mss_option mss = 2 ∷ 4 ∷ to_be_bytes w16 mss

abbrev scale_option : List ℕ
scale_option = 3 ∷ 3 ∷ 5 ∷ []

-- what stands before the options of Multipath TCP
abbrev syn_octets : Option ℕ → List (List ℕ)
syn_octets None = []
syn_octets (Some mss) = mss_option mss ∷ scale_option ∷ []

octets-syn : (mss : Option ℕ) (rest : List ℕ) → option_octets (syn_text mss ++ rest) ≡ syn_octets mss ++ option_octets rest
octets-syn None rest = refl
octets-syn (Some mss) rest =
    option_octets-append (mss_option mss) (scale_option ++ 1 ∷ rest) (record { kind = omega arith; len = refl; low = omega arith })
    ∙ ap (λ (t : List (List ℕ)). mss_option mss ∷ t)
    (option_octets-append scale_option (1 ∷ rest) (record { kind = omega arith; len = refl; low = omega arith })
    ∙ ap (λ (t : List (List ℕ)). scale_option ∷ t) (octets-padding rest))

mss_passed : (mss : ℕ) (checksums : Bool) → option_meaning (mss_option mss) checksums ≡ wire.Unknown
unfolding option_meaning is_of_another_kind
mss_passed mss checksums = refl

scale_passed : (checksums : Bool) → option_meaning scale_option checksums ≡ wire.Unknown
unfolding option_meaning is_of_another_kind
scale_passed checksums = refl

-- ---- whole options have no broken part

fits_behind : (left : ℕ) (octets : List ℕ) → are_whole_after left octets ≡ true → left ≤ length octets
fits_behind zero octets whole = omega arith
fits_behind (suc left) [] whole = cc
fits_behind (suc left) (x ∷ rest) whole = let more = fits_behind left rest whole in omega (arith, more)

none_broken : (left : ℕ) (octets : List ℕ) → are_whole_after left octets ≡ true → broken_after left octets ≡ []
none_broken zero [] whole = refl
none_broken (suc left) [] whole = refl
none_broken (suc left) (x ∷ rest) whole = none_broken left rest whole
none_broken zero (zero ∷ rest) whole = refl
none_broken zero (suc zero ∷ rest) whole = none_broken zero rest whole
none_broken zero (suc (suc kind) ∷ []) whole = cc
none_broken zero (suc (suc kind) ∷ len ∷ rest) whole =
    let both = and_parts (nat_le 2 len) (are_whole_after (len - 2) rest) whole in
    ap (λ (b : Bool). if b && nat_le (len - 2) (length rest) then broken_after (len - 2) rest else suc (suc kind) ∷ len ∷ rest) both.0
    ∙ ap (λ (b : Bool). if b then broken_after (len - 2) rest else suc (suc kind) ∷ len ∷ rest) (le-leb (len - 2) (length rest) (fits_behind (len - 2) rest both.1))
    ∙ none_broken (len - 2) rest both.1

-- ---- a SYN and a SYN/ACK

module _ (start : Start) (path : ℕ) where
  abbrev d : Drawn
  d = drawn start

  -- one option that a SYN of this side may have
  abbrev IsOpening : Side → wire.OptionValue → Type 0
  IsOpening s (wire.Capable flag_a flag_c NoKey) = (flag_a ≡ start.checksums) × (s ≡ A)
  IsOpening s (wire.Capable flag_a flag_c (Sender key)) = flag_a ≡ start.checksums
  IsOpening s (wire.Join (Syn backup id token nonce)) = s ≡ A
  IsOpening s (wire.Join form) = Unit {0}
  IsOpening s _ = ⊥

  openings : (c : Profile) (s : Side) (e : PathEnd) → c.spelling.checksums ≡ start.checksums
      → (o : PlainOption) (options : List PlainOption) → syn_options c s e ≡ o ∷ options → IsOpening s (said_option c.spelling s o) × (options ≡ [])
  openings c s e same o options is = by s (is_joined c) is
    where
      first : (x o : PlainOption) (options : List PlainOption) → x ∷ [] ≡ o ∷ options → (x ≡ o) × (options ≡ [])
      first x o options is = (cc, cc)

      one : (s : Side) (x : PlainOption) → x ∷ [] ≡ o ∷ options → IsOpening s (said_option c.spelling s x) → IsOpening s (said_option c.spelling s o) × (options ≡ [])
      one s x is h = let both = first x o options is in (subst (λ (y : PlainOption). IsOpening s (said_option c.spelling s y)) both.0 h, both.1)

      capable : (b : Bool) → (if b then Capable c.spelling.checksums false (Sender e.modes.own_key) ∷ [] else []) ≡ o ∷ options
          → IsOpening B (said_option c.spelling B o) × (options ≡ [])
      capable true is = one B (Capable c.spelling.checksums false (Sender e.modes.own_key)) is same
      capable false is = cc

      by : (s : Side) (joined : Bool) → (if joined then join_options c s e.modes else capable_options c s e) ≡ o ∷ options
          → IsOpening s (said_option c.spelling s o) × (options ≡ [])
      by A true is = one A _ is refl
      by A false is = one A (Capable c.spelling.checksums false NoKey) is (same, refl)
      by B true is = one B _ is tt
      by B false is = capable (e.modes.capable_asked && not e.modes.identity) is

  asked_so : (s : Side) (v : wire.OptionValue) → Fits v → IsOpening s v → ValueIs d path s v
      → IfSome (asked_by (option_meaning (option_text v) false)) (λ o. (s ≡ A) × OpeningIs d path o)
  asked_so s (wire.Capable flag_a flag_c NoKey) fits is h =
      subst (λ (m : wire.Meaning). IfSome (asked_by m) (λ o. (s ≡ A) × OpeningIs d path o)) (sym (read_again (wire.Capable flag_a flag_c NoKey) false tt fits)) (is.1, is.0)
  asked_so s (wire.Capable flag_a flag_c (Sender key)) fits is h =
      subst (λ (m : wire.Meaning). IfSome (asked_by m) (λ o. (s ≡ A) × OpeningIs d path o)) (sym (read_again (wire.Capable flag_a flag_c (Sender key)) false tt fits)) tt
  asked_so s (wire.Capable flag_a flag_c (Both sender receiver)) fits is h = absurd is
  asked_so s (wire.Capable flag_a flag_c (WithData sender receiver len checksum)) fits is h = absurd is
  asked_so s (wire.Join (Syn backup id token nonce)) fits is h =
      subst (λ (m : wire.Meaning). IfSome (asked_by m) (λ o. (s ≡ A) × OpeningIs d path o)) (sym (read_again (wire.Join (Syn backup id token nonce)) false tt fits))
      (is, subst (λ (t : Side). ValueIs d path t (wire.Join (Syn backup id token nonce))) is h)
  asked_so s (wire.Join (Answer backup id hmac nonce)) fits is h =
      subst (λ (m : wire.Meaning). IfSome (asked_by m) (λ o. (s ≡ A) × OpeningIs d path o)) (sym (read_again (wire.Join (Answer backup id hmac nonce)) false tt fits)) tt
  asked_so s (wire.Join (Third hmac)) fits is h =
      subst (λ (m : wire.Meaning). IfSome (asked_by m) (λ o. (s ≡ A) × OpeningIs d path o)) (sym (read_again (wire.Join (Third hmac)) false tt fits)) tt
  asked_so s _ fits is h = absurd is

  both_used : (a b : Bool) → a ≡ start.checksums → b ≡ start.checksums → (a || b) ≡ start.checksums
  both_used true b first next = first
  both_used false b first next = next

  reply_so : (v : wire.OptionValue) (o : Opening) → IsOpening B v → ValueIs d path B v → OpeningIs d path o
      → IfSome (answered_by o (wire.Known v)) (AnswerIs d path o)
  reply_so (wire.Capable flag_a flag_c (Sender key)) (opening.Capable used) is h opened = (h, both_used used flag_a opened is)
  reply_so (wire.Join (Answer backup id hmac nonce)) (opening.Join token first) is h opened = (opened.1, h.1, h.0)
  reply_so v (opening.Capable used) is h opened = tt
  reply_so v (opening.Join token first) is h opened = tt

  answered_so : (v : wire.OptionValue) (o : Opening) → Fits v → IsOpening B v → ValueIs d path B v → OpeningIs d path o
      → IfSome (answered_by o (option_meaning (option_text v) false)) (AnswerIs d path o)
  answered_so v o fits is h opened = by v is fits (reply_so v o is h opened)
    where
      read : (v : wire.OptionValue) → HasForm false v → Fits v → IfSome (answered_by o (wire.Known v)) (AnswerIs d path o)
          → IfSome (answered_by o (option_meaning (option_text v) false)) (AnswerIs d path o)
      read v form fits known = subst (λ (m : wire.Meaning). IfSome (answered_by o m) (AnswerIs d path o)) (sym (read_again v false form fits)) known

      by : (v : wire.OptionValue) → IsOpening B v → Fits v → IfSome (answered_by o (wire.Known v)) (AnswerIs d path o)
          → IfSome (answered_by o (option_meaning (option_text v) false)) (AnswerIs d path o)
      by (wire.Capable flag_a flag_c NoKey) is fits known = read (wire.Capable flag_a flag_c NoKey) tt fits known
      by (wire.Capable flag_a flag_c (Sender key)) is fits known = read (wire.Capable flag_a flag_c (Sender key)) tt fits known
      by (wire.Capable flag_a flag_c (Both sender receiver)) is fits known = absurd is
      by (wire.Capable flag_a flag_c (WithData sender receiver len checksum)) is fits known = absurd is
      by (wire.Join form) is fits known = read (wire.Join form) tt fits known
      by _ is fits known = absurd is

-- ---- the options of a segment

module _ (spelling : Spelling) (from : Side) where
  -- each can be written
  abbrev CanWriteAll : List PlainOption → Type 0
  CanWriteAll options = All (CanSayOption spelling from) options × All (λ o. Fits (said_option spelling from o)) options

  abbrev pub texts : List PlainOption → List (List ℕ)
  texts options = map (λ (o : PlainOption). option_text (said_option spelling from o)) options

  octets-options : (options : List PlainOption) (rest : List ℕ) → option_octets rest ≡ [] → option_octets (options_text spelling from options ++ rest) ≡ texts options
  octets-options [] rest none = none
  octets-options (o ∷ options) rest none =
      let text = option_text (said_option spelling from o) in
      ap option_octets (append_assoc text (options_text spelling from options) rest)
      ∙ option_octets-append text (options_text spelling from options ++ rest) (text_is (said_option spelling from o))
      ∙ ap (λ (t : List (List ℕ)). text ∷ t) (octets-options options rest none)

  seen-options : (options : List PlainOption) → CanWriteAll options → each_seen spelling.checksums (texts options) ≡ map Readable (map (said_option spelling from) options)
  seen-options [] can = refl
  seen-options (o ∷ options) can =
      let v = said_option spelling from o in
      ap (λ (m : wire.Meaning). seen_as m (option_text v) ++ each_seen spelling.checksums (texts options))
      (read_again v spelling.checksums (All-head (CanSayOption spelling from) o options can.0).form (All-head (λ x. Fits (said_option spelling from x)) o options can.1))
      ∙ ap (λ (t : List SeenValue). Readable v ∷ t)
      (seen-options options (All-tail (CanSayOption spelling from) o options can.0, All-tail (λ x. Fits (said_option spelling from x)) o options can.1))

  seen-syn : (mss : Option ℕ) (rest : List (List ℕ)) → each_seen spelling.checksums (syn_octets mss ++ rest) ≡ each_seen spelling.checksums rest
  seen-syn None rest = refl
  seen-syn (Some mss) rest = rw (mss_passed mss spelling.checksums, scale_passed spelling.checksums) refl

  asked-syn : (mss : Option ℕ) (rest : List (List ℕ)) → first_asked (syn_octets mss ++ rest) ≡ first_asked rest
  asked-syn None rest = refl
  asked-syn (Some mss) rest = rw (mss_passed mss false, scale_passed false) refl

  answer-syn : (o : Opening) (mss : Option ℕ) (rest : List (List ℕ)) → first_answer o (syn_octets mss ++ rest) ≡ first_answer o rest
  answer-syn (opening.Capable used) None rest = refl
  answer-syn (opening.Join token nonce) None rest = refl
  answer-syn (opening.Capable used) (Some mss) rest = rw (mss_passed mss false, scale_passed false) refl
  answer-syn (opening.Join token nonce) (Some mss) rest = rw (mss_passed mss false, scale_passed false) refl

  module _ (sg : PlainSegment) (can : CanSay spelling from sg) (fits : All (λ o. Fits (said_option spelling from o)) sg.options) where
    abbrev written_options : List ℕ
    written_options = padded (unpadded_options spelling from sg)

    octets-all : option_octets written_options ≡ syn_octets sg.mss ++ texts sg.options
    octets-all =
        let zeros : List ℕ = replicate (padding (length (unpadded_options spelling from sg))) 0 in
        ap option_octets (append_assoc (syn_text sg.mss) (options_text spelling from sg.options) zeros)
        ∙ octets-syn sg.mss (options_text spelling from sg.options ++ zeros)
        ∙ ap (λ (t : List (List ℕ)). syn_octets sg.mss ++ t) (octets-options sg.options zeros (octets-zeros (padding (length (unpadded_options spelling from sg)))))

    options_are : (spelled spelling from sg).options ≡ written_options
    unfolding spelled
    options_are = refl

    broken_none : broken_part written_options ≡ []
    broken_none =
        none_broken 0 written_options
        (ap are_whole (sym options_are) ∙ (written spelling from sg can).carried.whole)

    pub seen_are : seen_options spelling.checksums (spelled spelling from sg).options ≡ map Readable (map (said_option spelling from) sg.options)
    seen_are =
        ap (seen_options spelling.checksums) options_are
        ∙ ap (λ (t : List ℕ). each_seen spelling.checksums (option_octets written_options) ++ seen_broken t) broken_none
        ∙ append-nil (each_seen spelling.checksums (option_octets written_options))
        ∙ ap (each_seen spelling.checksums) octets-all ∙ seen-syn sg.mss (texts sg.options) ∙ seen-options sg.options (can.options, fits)

    pub asked_are : first_asked (option_octets (spelled spelling from sg).options) ≡ first_asked (texts sg.options)
    asked_are = ap (λ (t : List ℕ). first_asked (option_octets t)) options_are ∙ ap first_asked octets-all ∙ asked-syn sg.mss (texts sg.options)

    pub answer_are : (o : Opening) → first_answer o (option_octets (spelled spelling from sg).options) ≡ first_answer o (texts sg.options)
    answer_are o = ap (λ (t : List ℕ). first_answer o (option_octets t)) options_are ∙ ap (first_answer o) octets-all ∙ answer-syn o sg.mss (texts sg.options)

-- ---- a segment

pub heads_are : (spelling : Spelling) (from : Side) (sg : PlainSegment) → (spelled spelling from sg).head ≡ spelled_head spelling from sg
unfolding spelled
heads_are spelling from sg = refl

payload_is : (spelling : Spelling) (from : Side) (sg : PlainSegment) → (spelled spelling from sg).payload ≡ sg.payload
unfolding spelled
payload_is spelling from sg = refl

module _ (Q : ℕ → Side → PlainSegment → Type 0) (start : Start) (x : Sent) (s : IsSpoken Q start x) (short : length x.octets ≤ 65515) where
  abbrev pub plan : PathPlan
  plan = s.plan

  abbrev pub c : Profile
  c = (path_begins start x.path plan).profile

  abbrev pub sg : PlainSegment
  sg = s.segment

  abbrev pub own : Drawn
  own = drawn start

  says : Spoken start x.path c x.from s.end sg
  says = s.spoken

  pub fits : All (λ o. Fits (said_option c.spelling x.from o)) sg.options
  fits = All-weaker (OptionTells c x.from) (λ o. Fits (said_option c.spelling x.from o)) (λ o t. t.fits) sg.options says.tells.options

  abbrev pub segment : Segment
  segment = spelled c.spelling x.from sg

  reads : segment_meaning (addresses_from x.path x.from) x.octets ≡ Ok segment
  reads =
      ap (segment_meaning (addresses_from x.path x.from)) s.octets
      ∙ segment_meaning-written (addresses_from x.path x.from) segment (four x.path x.from) (four x.path (peer x.from)) (written c.spelling x.from sg says.tells.sayable)

  pub found : segment_in_packet (packet_for x) ≡ Some (seen_between (addresses_from x.path x.from) segment)
  found = segments_are x segment short reads

  -- a SYN has one option at most
  syn_is : sg.syn ≡ true → (o : PlainOption) (options : List PlainOption) → sg.options ≡ o ∷ options → IsOpening start x.path x.from (said_option c.spelling x.from o) × (options ≡ [])
  syn_is syn o options are = openings start x.path c x.from s.end refl o options (sym (says.syn syn) ∙ are)

  values : All (ValueIs own x.path x.from) (map (said_option c.spelling x.from) sg.options)
  values = each_value sg.options says.values
    where
      each_value : (options : List PlainOption) → Every (λ o. ValueIs own x.path x.from (said_option c.spelling x.from o)) options
          → All (ValueIs own x.path x.from) (map (said_option c.spelling x.from) options)
      each_value [] each = All-nil (ValueIs own x.path x.from)
      each_value (o ∷ options) each =
          All-cons (ValueIs own x.path x.from) (said_option c.spelling x.from o) (map (said_option c.spelling x.from) options) (each.each 0 o refl)
          (each_value options (record { each = λ i y at. each.each (suc i) y at }))

  either_none : {X : Type 0} → (o : Option X) (Q : X → Type 0) → IfSome o Q → IfSome (option_or o None) Q
  either_none None Q h = tt
  either_none (Some x) Q h = h

  asks_so : sg.syn ≡ true → IfSome (first_asked (texts c.spelling x.from sg.options)) (λ o. (x.from ≡ A) × OpeningIs own x.path o)
  asks_so syn = by sg.options refl fits values
    where
      by : (options : List PlainOption) → sg.options ≡ options → All (λ o. Fits (said_option c.spelling x.from o)) options
          → All (ValueIs own x.path x.from) (map (said_option c.spelling x.from) options) → IfSome (first_asked (texts c.spelling x.from options)) (λ o. (x.from ≡ A) × OpeningIs own x.path o)
      by [] are fit each = tt
      by (o ∷ options) are fit each =
          let it = syn_is syn o options are in
          let v = said_option c.spelling x.from o in
          subst (λ (more : List PlainOption). IfSome (first_asked (option_text v ∷ texts c.spelling x.from more)) (λ o. (x.from ≡ A) × OpeningIs own x.path o)) (sym it.1)
          (either_none (asked_by (option_meaning (option_text v) false)) (λ o. (x.from ≡ A) × OpeningIs own x.path o)
          (asked_so start x.path x.from v (All-head (λ o. Fits (said_option c.spelling x.from o)) o options fit) it.0
          (All-head (ValueIs own x.path x.from) v (map (said_option c.spelling x.from) options) each)))

  answers_so : sg.syn ≡ true → x.from ≡ B → (o : Opening) → OpeningIs own x.path o → IfSome (first_answer o (texts c.spelling x.from sg.options)) (AnswerIs own x.path o)
  answers_so syn of_b asked opened = by sg.options refl fits values
    where
      by : (options : List PlainOption) → sg.options ≡ options → All (λ o. Fits (said_option c.spelling x.from o)) options
          → All (ValueIs own x.path x.from) (map (said_option c.spelling x.from) options) → IfSome (first_answer asked (texts c.spelling x.from options)) (AnswerIs own x.path asked)
      by [] are fit each = tt
      by (o ∷ options) are fit each =
          let it = syn_is syn o options are in
          let v = said_option c.spelling x.from o in
          subst (λ (more : List PlainOption). IfSome (first_answer asked (option_text v ∷ texts c.spelling x.from more)) (AnswerIs own x.path asked)) (sym it.1)
          (either_none (answered_by asked (option_meaning (option_text v) false)) (AnswerIs own x.path asked)
          (answered_so start x.path v asked (All-head (λ o. Fits (said_option c.spelling x.from o)) o options fit)
          (subst (λ (t : Side). IsOpening start x.path t v) of_b it.0)
          (subst (λ (t : Side). ValueIs own x.path t v) of_b (All-head (ValueIs own x.path x.from) v (map (said_option c.spelling x.from) options) each)) opened))

  plain : segment.head.syn ≡ true → sg.syn ≡ true
  plain syn = sym (ap (λ (h : Head). h.syn) (heads_are c.spelling x.from sg)) ∙ syn

  pub number : (from : Side) → (numbers_of c.spelling from).initial.0 ≡ own_initial own x.path from
  number A = sym (ap (λ (o : Option PathPlan). unwrap_or (option_map (λ plan. plan.initial_a) o) 0) s.there)
  number B = sym (ap (λ (o : Option PathPlan). unwrap_or (option_map (λ plan. plan.initial_b) o) 0) s.there)

  pub seq_is : segment.head.seq ≡ (own_initial own x.path x.from + sg.position) % 2 ^ 32
  seq_is = ap (λ (h : Head). h.seq) (heads_are c.spelling x.from sg) ∙ ap (λ (n : ℕ). (n + sg.position) % 2 ^ 32) (number x.from)

  pub payload_same : segment.payload ≡ sg.payload
  payload_same = payload_is c.spelling x.from sg

  octets_are : length segment.payload ≡ length sg.payload
  octets_are = ap (λ (octets : List ℕ). length octets) (payload_is c.spelling x.from sg)

  starts_so : sg.syn ≡ true → (segment.head.seq ≡ first_seq own x.path x.from) × (length segment.payload ≡ 0)
  starts_so syn =
      let it = says.placed.syn syn in
      (seq_is ∙ ap (λ (n : ℕ). (own_initial own x.path x.from + n) % 2 ^ 32) it.0, octets_are ∙ ap (λ (octets : List ℕ). length octets) it.1)

  abbrev Maps : wire.OptionValue → Type 0
  Maps v = MapsIn (own_initial own x.path x.from) segment.head.seq (length segment.payload) v

  all_of : (len : ℕ) → len ≡ length segment.payload → len - 0 ≡ length segment.payload
  all_of len same = omega (arith, same)

  map_so : (o : PlainOption) → PlacedIn (own_key own (peer x.from)) sg.position (length sg.payload) o → Maps (said_option c.spelling x.from o)
  map_so (Dss next None) is first = tt
  map_so (Dss next (Some (Bytes place at len fin checksum))) is first =
      inr (seq_is ∙ (let same = is.0 in let initial = own_initial own x.path x.from in omega (arith, same)), ap (λ (b : Bool). len - from_bool b) is.2 ∙ all_of len (is.1 ∙ sym octets_are))
  map_so (Dss next (Some (EndOf place checksum))) is first = inl refl
  map_so (Dss next (Some (Infinite place position))) is first = inl refl
  map_so (Capable flag_a flag_c NoKey) is first = tt
  map_so (Capable flag_a flag_c (Sender sender)) is first = tt
  map_so (Capable flag_a flag_c (Both sender receiver)) is first = tt
  map_so (Capable flag_a flag_c (WithData sender receiver len checksum)) is first =
      inr (seq_is ∙ ap (λ (n : ℕ). (own_initial own x.path x.from + n) % 2 ^ 32) (sym is.0), all_of len (is.1 ∙ sym octets_are))
  map_so _ is first = tt

  maps_so : (options : List PlainOption) → Every (PlacedIn (own_key own (peer x.from)) sg.position (length sg.payload)) options → All Maps (map (said_option c.spelling x.from) options)
  maps_so [] each = All-nil Maps
  maps_so (o ∷ options) each =
      All-cons Maps (said_option c.spelling x.from o) (map (said_option c.spelling x.from) options) (map_so o (each.each 0 o refl))
      (maps_so options (record { each = λ i y at. each.each (suc i) y at }))

  abbrev pub seen_of : Seen
  seen_of = seen_between (addresses_from x.path x.from) (spelled c.spelling x.from sg)

  pub is_own : IsOwn own seen_of
  is_own = record {
    path = x.path;
    within = slice_get_within start.paths x.path s.plan s.there;
    from = x.from;
    source = ap (λ (h : Head). let made : End = record { address = V4 (address_of x.path x.from); port = h.source_port } in made) (heads_are c.spelling x.from sg);
    destination = ap (λ (h : Head). let made : End = record { address = V4 (address_of x.path (peer x.from)); port = h.destination_port } in made) (heads_are c.spelling x.from sg);
    good = refl;
    uncut = refl;
    values = map (said_option c.spelling x.from) sg.options;
    options = seen_are c.spelling x.from sg says.tells.sayable fits;
    each = values;
    asks = λ syn. subst (λ (o : Option Opening). IfSome o (λ o. (x.from ≡ A) × OpeningIs own x.path o)) (sym (asked_are c.spelling x.from sg says.tells.sayable fits)) (asks_so (plain syn));
    starts = λ syn. starts_so (plain syn);
    maps = maps_so sg.options says.placed.options;
    answers = λ syn of_b o opened. subst (λ (a : Option Answered). IfSome a (AnswerIs own x.path o)) (sym (answer_are c.spelling x.from sg says.tells.sayable fits o)) (answers_so (plain syn) of_b o opened);
  }

  -- by its path, its sender and its options
  pub path_is : is_own.path ≡ x.path
  unfolding is_own
  path_is = refl

  pub from_is : is_own.from ≡ x.from
  unfolding is_own
  from_is = refl

  pub values_are : is_own.values ≡ map (said_option (path_begins start x.path s.plan).profile.spelling x.from) s.segment.options
  unfolding is_own
  values_are = refl

  pub packet_own : IfSome (segment_in_packet (packet_for x)) (IsOwn own)
  packet_own = subst (λ (o : Option Seen). IfSome o (IsOwn own)) (sym found) is_own
