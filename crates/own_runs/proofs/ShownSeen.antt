-- What the judge sees of the segments that showed places of a stream, or told its end, before a Data ACK covers them.
use Rattle.std.proofs.Common.{◌≡◌, refl, sym, ap, ◌∙◌, subst, ℕ, suc, ◌⊎◌, inl, inr, ⊎_elim, ◌+◌, ◌-◌, ◌%◌, ◌^◌, ◌<◌, ◌≤◌, ◌||◌, ◌==◌, Bool, true, false, Some, None, List, [], ◌∷◌, map, length, arith}
use Rattle.std.specs.List.{list_any}
use Rattle.std.proofs.lemmas.Bool.{eqb-true, false≢true, or_cases, or_left, or_right}
use Rattle.capture_reader.specs.Seen.{Seen}
use Rattle.judge_rules.specs.Mappings.{offer_of}
use Rattle.judge_rules.specs.Numbers.{first_number}
use Rattle.link_trace.specs.declared.sent.Sent.{Sent}
use Rattle.mptcp_options.specs.Value as wire
use Rattle.mptcp_options.specs.Value.{OptionValue}
use Rattle.path_segments.specs.Options.{PlainOption, said_option}
use Rattle.path_segments.specs.declared.segment.PathMapping.TheVariants.{Bytes, End, Infinite}
use Rattle.path_segments.specs.declared.segment.PathOption.TheVariants.{Capable, Dss, Fail}
use Rattle.path_segments.specs.declared.spelling.Spelling.{Spelling}
use Rattle.seen_connections.specs.SeenOptions.{Readable, SeenValue, seen_options}
use Rattle.sides.specs.declared.side.Side.{Side}
use Rattle.stream_lanes.specs.Duo.{Duo}
use Rattle.world_laws.proofs.Numbers.TellSmall.{IsShort, IsStray}
use Rattle.world_laws.specs.Openings.{Start, path_begins}
use Rattle.world_laws.specs.Promises.{NumbersFit}
use Rattle.own_runs.proofs.AckPositions.{EndsIn, EndsOffer}
use Rattle.own_runs.proofs.EndMarks.{ends_stream}
use Rattle.own_runs.proofs.EndRuns.{TellsEnd}
use Rattle.own_runs.proofs.FineMoments.{IsMapped, Offered, content, file_len, lane_of, place_at}
use Rattle.own_runs.proofs.MapKept.{IsFine}
use Rattle.own_runs.proofs.MapTrace.{few, where_in}
use Rattle.own_runs.proofs.Moments.{IsSpoken, Nothing}
use Rattle.own_runs.proofs.Offering.{AllFine, NoLines, OptionFine}
use Rattle.own_runs.proofs.Own.{own_initial, own_key, same_place}
use Rattle.own_runs.proofs.OwnTrace.{found, from_is, is_own, path_is, payload_same, seen_of, seq_is, values_are}
use Rattle.own_runs.proofs.ShownAcks.{IsShown}
use Rattle.own_runs.proofs.Values.{drawn}
use Rattle.judge_laws.proofs.Standing.{some_same}

-- ---- an option that ends a stream

-- or that maps all from somewhere on
abbrev pub value_ends : OptionValue → Bool
value_ends (wire.Dss ack (Some mapping) fin) = fin || mapping.length == 0
value_ends _ = false

one_says : (spelling : Spelling) (s : Side) (o : PlainOption) → ends_stream o ≡ true → value_ends (said_option spelling s o) ≡ true
one_says spelling s (Dss next (Some (Bytes place position len true checksum))) is = refl
one_says spelling s (Dss next (Some (Bytes place position len false checksum))) is = absurd (false≢true is)
one_says spelling s (Dss next (Some (End place checksum))) is = refl
one_says spelling s (Dss next (Some (Infinite place position))) is = refl
one_says spelling s (Dss next None) is = absurd (false≢true is)
one_says spelling s (Capable flag_a flag_c keys) is = absurd (false≢true is)
one_says spelling s _ is = absurd (false≢true is)

all_say : (spelling : Spelling) (s : Side) (os : List PlainOption) → list_any ends_stream os ≡ true → list_any value_ends (map (said_option spelling s) os) ≡ true
all_say spelling s [] is = absurd (false≢true is)
all_say spelling s (o ∷ os) is =
    ⊎_elim (λ here. or_left (value_ends (said_option spelling s o)) (list_any value_ends (map (said_option spelling s) os)) (one_says spelling s o here))
    (λ later. or_right (value_ends (said_option spelling s o)) (list_any value_ends (map (said_option spelling s) os)) (all_say spelling s os later))
    (or_cases (ends_stream o) (list_any ends_stream os) is)

-- where no other maps so
module _ (start : Start) (last : Duo) (path : ℕ) (s : Side) (spelling : Spelling) (first : ℕ) where
  one_ends : (o : PlainOption) → OptionFine (file_len start) (IsMapped start last path) NoLines ⊥ s o → value_ends (said_option spelling s o) ≡ true → EndsOffer (offer_of first (said_option spelling s o))
  one_ends (Dss next (Some (Bytes place position len false checksum))) fine is = absurd (let some = fine.0 in let none = eqb-true len 0 is in omega (arith, some, none))
  one_ends (Dss next (Some (Bytes place position len true checksum))) fine is = refl
  one_ends (Dss next (Some (End place checksum))) fine is = refl
  one_ends (Dss next (Some (Infinite place position))) fine is = absurd fine
  one_ends (Dss next None) fine is = absurd (false≢true is)
  one_ends (Capable flag_a flag_c keys) fine is = absurd (false≢true is)
  one_ends (Fail place) fine is = absurd fine
  one_ends _ fine is = absurd (false≢true is)

  all_end : (os : List PlainOption) → AllFine (file_len start) (IsMapped start last path) NoLines ⊥ s os → list_any value_ends (map (said_option spelling s) os) ≡ true
      → EndsIn first (map (said_option spelling s) os)
  all_end [] fine is = absurd (false≢true is)
  all_end (o ∷ os) fine is =
      ⊎_elim (λ here. inl (one_ends o (fine.each 0 o refl) here)) (λ later. inr (all_end os (record { each = λ i y at. fine.each (suc i) y at }) later))
      (or_cases (value_ends (said_option spelling s o)) (list_any value_ends (map (said_option spelling s) os)) is)

readable_same : (xs ys : List OptionValue) → map Readable xs ≡ map Readable ys → xs ≡ ys
readable_same [] [] same = refl
readable_same [] (y ∷ ys) same = cc
readable_same (x ∷ xs) [] same = cc
readable_same (x ∷ xs) (y ∷ ys) same = by (heads same) (readable_same xs ys (tails same))
  where
    heads : {a b : OptionValue} {us vs : List SeenValue} → Readable a ∷ us ≡ Readable b ∷ vs → a ≡ b
    heads e = cc

    tails : {a b : SeenValue} {us vs : List SeenValue} → a ∷ us ≡ b ∷ vs → us ≡ vs
    tails e = cc

    by : x ≡ y → xs ≡ ys → x ∷ xs ≡ y ∷ ys
    by head tail = ap (λ (z : OptionValue). z ∷ xs) head ∙ ap (λ (zs : List OptionValue). y ∷ zs) tail

-- ---- a segment of a trace

module _ (start : Start) (last : Duo) (x : Sent) (s : IsSpoken (Offered start last) start x) (short : length x.octets ≤ 65515) where
  -- whoever tells of it tells of what is seen
  module _ (other : IsSpoken Nothing start x) where
    same_seen : seen_of Nothing start x other short ≡ seen_of (Offered start last) start x s short
    same_seen = some_same (seen_of Nothing start x other short) (seen_of (Offered start last) start x s short) (sym (found Nothing start x other short) ∙ found (Offered start last) start x s short)

    same_values : map (said_option (path_begins start x.path other.plan).profile.spelling x.from) other.segment.options
        ≡ map (said_option (path_begins start x.path s.plan).profile.spelling x.from) s.segment.options
    same_values =
        sym (values_are Nothing start x other short)
        ∙ readable_same _ _ (sym (is_own Nothing start x other short).options
        ∙ ap (λ (y : Seen). seen_options (drawn start).checksums y.segment.options) same_seen ∙ (is_own (Offered start last) start x s short).options)
        ∙ values_are (Offered start last) start x s short

  -- one that ends its stream
  pub ends_here : (t : Side) → TellsEnd start t x → list_any value_ends (map (said_option (path_begins start x.path s.plan).profile.spelling x.from) s.segment.options) ≡ true
  ends_here t h =
      subst (λ (vs : List OptionValue). list_any value_ends vs ≡ true) (same_values h.said)
      (all_say (path_begins start x.path h.said.plan).profile.spelling x.from h.said.segment.options h.ends)

module _ (start : Start) (last : Duo) (fit : NumbersFit start) where
  abbrev Fine : Seen → Type 0
  Fine seen = IsFine (drawn start) (file_len start) (few start last fit) (content start) (where_in last) seen

  -- an octet of its payload has this place
  pub record ShowsAt (t : Side) (place : ℕ) (seen : Seen) (fine : Fine seen) : Type 0 where
    pub from : fine.own.from ≡ t
    pub offset : ℕ
    pub within : offset < length seen.segment.payload
    pub sits : where_in last fine.own.path t (fine.at + offset) ≡ place
    pub some : 1 ≤ fine.at + offset

  module _ (x : Sent) (s : IsSpoken (Offered start last) start x) (short : length x.octets ≤ 65515) (fine : Fine (seen_of (Offered start last) start x s short)) where
    -- on its path, of its side
    place_is : (fine.own.path ≡ x.path) × (fine.own.from ≡ x.from)
    place_is =
        let own = is_own (Offered start last) start x s short in
        let same = same_place fine.own.path own.path fine.own.from own.from (sym fine.own.source ∙ own.source) in
        (same.0 ∙ path_is (Offered start last) start x s short, same.1 ∙ from_is (Offered start last) start x s short)

    values : fine.own.values ≡ map (said_option (path_begins start x.path s.plan).profile.spelling x.from) s.segment.options
    values = readable_same _ _ (sym fine.own.options ∙ (is_own (Offered start last) start x s short).options) ∙ values_are (Offered start last) start x s short

    module _ (other : IsSpoken Nothing start x) where
      same : seen_of Nothing start x other short ≡ seen_of (Offered start last) start x s short
      same = same_seen start last x s short other

      same_at : other.segment.position % 2 ^ 32 ≡ fine.at % 2 ^ 32
      same_at =
          let seq = sym (seq_is Nothing start x other short) ∙ ap (λ (y : Seen). y.segment.head.seq) same ∙ fine.seq in
          let initial : own_initial (drawn start) fine.own.path fine.own.from ≡ own_initial (drawn start) x.path x.from =
          ap (λ (path : ℕ). own_initial (drawn start) path fine.own.from) place_is.0 ∙ ap (own_initial (drawn start) x.path) place_is.1 in
          omega (arith, seq, initial)

      same_length : length other.segment.payload ≡ length (seen_of (Offered start last) start x s short).segment.payload
      same_length = ap length (sym (payload_same Nothing start x other short) ∙ ap (λ (y : Seen). y.segment.payload) same)

    pub shows_seen : (t : Side) (place : ℕ) → IsShown start last t place x → ShowsAt t place (seen_of (Offered start last) start x s short) fine
    shows_seen t place h = by h.covers.said.spoken.tells.position
      where
        by : IsStray h.covers.said.segment.rst h.covers.said.segment.acknowledged h.covers.said.segment.position ⊎ IsShort h.covers.said.segment.position → ShowsAt t place (seen_of (Offered start last) start x s short) fine
        by (inl stray) = absurd (false≢true (sym h.covers.plain ∙ stray.reset))
        by (inr few) = record {
          from = place_is.1 ∙ h.covers.from;
          offset = suc h.position - h.covers.said.segment.position;
          within = let low = h.covers.low in let high = h.covers.high in let long = same_length h.covers.said in omega (arith, low, high, long);
          sits =
              ap (λ (path : ℕ). where_in last path t (fine.at + (suc h.position - h.covers.said.segment.position))) place_is.0
              ∙ ap (λ (p : ℕ). place_at (lane_of last x.path t) p) stands ∙ h.sits;
          some = let is = stands in omega (arith, is);
        }
          where
            stands : (fine.at + (suc h.position - h.covers.said.segment.position)) % 2 ^ 32 ≡ suc h.position
            stands =
                let same = same_at h.covers.said in let low = h.covers.low in let high = h.covers.high in
                let most = h.covers.said.spoken.tells.sayable.fits in
                omega (arith, same, low, high, most, few)

    pub ends_seen : (t : Side) → TellsEnd start t x → (fine.own.from ≡ t) × EndsIn (first_number (own_key (drawn start) t)) fine.own.values
    ends_seen t h = (
      place_is.1 ∙ h.from,
      subst (EndsIn (first_number (own_key (drawn start) t))) (sym values)
          (all_end start last x.path x.from (path_begins start x.path s.plan).profile.spelling (first_number (own_key (drawn start) t)) s.segment.options s.also.0 (ends_here start last x s short t h)),
    )
