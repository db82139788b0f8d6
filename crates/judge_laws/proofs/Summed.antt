-- Each mapping with a checksum that is whole has the right one, step after step.
use Rattle.std.proofs.Common.{◌≡◌, refl, sym, ap, ◌∙◌, subst, ℕ, ◌⊎◌, inl, inr, Bool, true, false, ◌||◌, is_some, if◌then◌else◌, Option, Some, None, option_map, List, [], ◌∷◌, ◌++◌, true≢false}
use Rattle.std.specs.List.{list_any, slice_get}
use Rattle.std.specs.Option.{option_or, unwrap_or}
use Rattle.std.proofs.lemmas.Bool.{or_left, or_right}
use Rattle.std.proofs.lemmas.List.Folds.{list_any-append}
use Rattle.sides.specs.declared.side.Side.{Side}
use Rattle.sides.specs.declared.side.Side.TheVariants.{A, B}
use Rattle.sides.specs.Side.{peer}
use Rattle.capture_reader.specs.Captured.{Captured}
use Rattle.dss_checksum.specs.Checksum.{dss_checksum}
use Rattle.judge_rules.specs.declared.finding.Rule.TheVariants as rule
use Rattle.judge_rules.specs.Mappings.{natural}
use Rattle.seen_connections.specs.declared.connections.Keys.{Keys}
use Rattle.seen_connections.specs.declared.flow.Belongs.{Belongs}
use Rattle.seen_connections.specs.declared.flow.Flow.{Flow}
use Rattle.seen_octets.specs.declared.octet.Octet.{Octet}
use Rattle.seen_octets.specs.Octets.{all_held, octet_by}
use Rattle.seen_streams.specs.declared.told.ToldMapping.{ToldMapping}
use Rattle.seen_streams.specs.declared.told.Waiting.{Waiting}
use Rattle.seen_streams.specs.Acks.{Acked}
use Rattle.seen_streams.specs.Content.{PayloadValue, as_part, shown, with_payload}
use Rattle.seen_streams.specs.Mapped.{octets_of}
use Rattle.seen_streams.specs.Same.{same_mapping}
use Rattle.seen_streams.specs.State.{LaneValue, StreamValue, empty_lane, empty_stream, same_rule, tell}
use Rattle.seen_streams.specs.Sums.{are_alike, header_of, still_waiting, tried_sums, with_sum, with_sums}
use Rattle.rule_book.specs.Facts.{Facts, first_of}
use Rattle.rule_book.specs.Judged.{empty_lanes}
use Rattle.rule_book.specs.State.{BookValue, JudgedValue, LanesValue, stream_at}
use Rattle.rule_book.specs.Stream.{summed}
use Rattle.judge_laws.specs.GoesOn.{GoesOn, broke, stream_in}
use Rattle.judge_laws.specs.Behind.{judged_first}
use Rattle.judge_laws.specs.Summed.{HasItsSum, IsWhole, lane_at}
use Rattle.judge_laws.proofs.Folds.{AcksKeep, StepsKeep, TellingKeeps, acks_so, tried_so}
use Rattle.judge_laws.proofs.Going as going
use Rattle.judge_laws.proofs.GoesOn.{goes_counted, goes_same, goes_tell}
use Rattle.judge_laws.proofs.Positions.{at_so, behind, behind_so, mapped, tried}
use Rattle.judge_laws.proofs.Shown.{kept_before, shown_goes}
use Rattle.judge_laws.proofs.Standing.{Fits, IsBound, Stands, some_same}
use Rattle.judge_laws.proofs.Throughout.{first_stand}
use Rattle.judge_laws.proofs.Trying.{HasSum, any_whole, either, mappings_are, none_whole, still_are_open, sum_later, tried_either, waits}

-- Of the number of place 0, whether `dss-sum` is broken, and a lane: each mapping that was told waits or has its sum, and has a checksum,
-- and none waits where the number isn't known.
pub record AreTried (first : Option ℕ) (s : StreamValue) (l : LaneValue) : Type 0 where
  pub tried : broke rule.DssSum s ≡ false → (m : ToldMapping) → l.summed m ≡ true → (waits m l.waiting ≡ true) ⊎ HasSum first l.octet m
  pub with_sums : (m : ToldMapping) → l.summed m ≡ true → is_some m.checksum ≡ true
  pub known : (m : ToldMapping) → l.summed m ≡ true → is_some first ≡ true
  pub nothing : first ≡ None → l.waiting ≡ []

some_none : (x : ℕ) → Some x ≡ None → ⊥
some_none x e = cc

-- another stream that goes on, over the same lane
tried_on : (first : Option ℕ) (s later : StreamValue) (l : LaneValue) → GoesOn s later → AreTried first s l → AreTried first later l
tried_on first s later l goes h = record {
  tried = λ kept m there. h.tried (kept_before s later rule.DssSum goes kept) m there;
  with_sums = h.with_sums;
  known = h.known;
  nothing = h.nothing;
}

telling : (first : Option ℕ) (l : LaneValue) → TellingKeeps (λ (s : StreamValue). AreTried first s l)
telling first l = record {
  tells = λ rule packet fault s h. tried_on first s (tell rule packet fault s) l (goes_tell rule packet fault s) h;
  counts = λ s keys joins mappings sums data_acks h.
      tried_on first s (record s { keys = keys; joins = joins; mappings = mappings; sums = sums; data_acks = data_acks }) l
      (goes_counted s keys joins mappings sums data_acks) h;
}

-- a lane that differs elsewhere
alike : (first : Option ℕ) (s t : StreamValue) (l k : LaneValue) → s.broken ≡ t.broken → l.octet ≡ k.octet → l.summed ≡ k.summed → l.waiting ≡ k.waiting
    → AreTried first s l → AreTried first t k
alike first s t l k broken octet summed waiting h = record {
  tried = λ kept m there.
      subst (λ (o : ℕ → Option Octet). (waits m k.waiting ≡ true) ⊎ HasSum first o m) octet
      (subst (λ (w : List Waiting). (waits m w ≡ true) ⊎ HasSum first l.octet m) waiting
      (h.tried (ap (list_any (same_rule rule.DssSum)) broken ∙ kept) m (ap (λ (f : ToldMapping → Bool). f m) summed ∙ there)));
  with_sums = λ m there. h.with_sums m (ap (λ (f : ToldMapping → Bool). f m) summed ∙ there);
  known = λ m there. h.known m (ap (λ (f : ToldMapping → Bool). f m) summed ∙ there);
  nothing = λ none. sym waiting ∙ h.nothing none;
}

-- octets come
paid : (payload : PayloadValue) (packet : ℕ) (first : Option ℕ) (s : StreamValue) (l : LaneValue) → AreTried first s l
    → AreTried first s (with_payload payload packet l)
paid payload packet first s l h = record {
  tried = λ kept m there. by m (h.tried kept m there);
  with_sums = h.with_sums;
  known = h.known;
  nothing = h.nothing;
}
  where
    stays : (was : Option Octet) (add : Option Octet) (o : Octet) → was ≡ Some o → option_or was add ≡ Some o
    stays (Some x) add o e = e
    stays None add o e = cc

    by : (m : ToldMapping) → (waits m l.waiting ≡ true) ⊎ HasSum first l.octet m → (waits m l.waiting ≡ true) ⊎ HasSum first (with_payload payload packet l).octet m
    by m (inl there) = inl there
    by m (inr has) = inr (sum_later first l.octet (with_payload payload packet l).octet m (λ p o e. stays (l.octet p) (octet_by payload.from payload.held packet p) o e) has)

-- a mapping more
more_tried : (packet known : ℕ) (mapping : ToldMapping) (first : Option ℕ) (s : StreamValue) (l : LaneValue) → first ≡ Some known → is_some mapping.checksum ≡ true
    → AreTried first s l → AreTried first s (with_sum packet mapping l)
more_tried packet known mapping first s l is checksum h = elim (l.summed mapping) as (λ b. AreTried first s (if b then l else more)) [ true ↦ h | false ↦ added ]
  where
    one : Waiting
    one = record { mapping = mapping; packet = packet }

    more : LaneValue
    more = record l { summed = λ other. l.summed other || same_mapping other mapping; waiting = l.waiting ++ one ∷ [] }

    stays : (m : ToldMapping) → (waits m l.waiting ≡ true) ⊎ HasSum first l.octet m → (waits m (l.waiting ++ one ∷ []) ≡ true) ⊎ HasSum first l.octet m
    stays m (inl there) = inl (list_any-append (λ (w : Waiting). same_mapping m w.mapping) l.waiting (one ∷ []) ∙ or_left (waits m l.waiting) (waits m (one ∷ [])) there)
    stays m (inr has) = inr has

    last : (m : ToldMapping) → same_mapping m mapping ≡ true → waits m (l.waiting ++ one ∷ []) ≡ true
    last m same =
        list_any-append (λ (w : Waiting). same_mapping m w.mapping) l.waiting (one ∷ [])
        ∙ or_right (waits m l.waiting) (waits m (one ∷ [])) (or_left (same_mapping m mapping) false same)

    by : (m : ToldMapping) → broke rule.DssSum s ≡ false → (l.summed m ≡ true) ⊎ (same_mapping m mapping ≡ true) → (waits m (l.waiting ++ one ∷ []) ≡ true) ⊎ HasSum first l.octet m
    by m kept (inl there) = stays m (h.tried kept m there)
    by m kept (inr same) = inl (last m same)

    sums_by : (m : ToldMapping) → (l.summed m ≡ true) ⊎ (same_mapping m mapping ≡ true) → is_some m.checksum ≡ true
    sums_by m (inl there) = h.with_sums m there
    sums_by m (inr same) = ap (λ (x : ToldMapping). is_some x.checksum) (mappings_are m mapping same) ∙ checksum

    unknown : first ≡ None → l.waiting ++ one ∷ [] ≡ []
    unknown none = absurd (some_none known (sym is ∙ none))

    added : AreTried first s more
    added = record {
      tried = λ kept m there. by m kept (either (l.summed m) (same_mapping m mapping) there);
      with_sums = λ m there. sums_by m (either (l.summed m) (same_mapping m mapping) there);
      known = λ m there. ap is_some is;
      nothing = unknown;
    }

-- those that are whole are tried
all_tried : (packet known : ℕ) (first : Option ℕ) (s : StreamValue) (l : LaneValue) → first ≡ Some known → AreTried first s l
    → AreTried first (tried_sums packet known l.octet l.waiting s) (still_waiting l)
all_tried packet known first s l is h = record {
  tried = λ kept m there. by m kept (h.tried (kept_before s last rule.DssSum (tried_so (going.telling s) packet known l.octet l.waiting s (goes_same s)) kept) m there);
  with_sums = h.with_sums;
  known = h.known;
  nothing = λ none. absurd (some_none known (sym is ∙ none));
}
  where
    last : StreamValue
    last = tried_sums packet known l.octet l.waiting s

    by : (m : ToldMapping) → broke rule.DssSum last ≡ false → (waits m l.waiting ≡ true) ⊎ HasSum first l.octet m → (waits m (still_waiting l).waiting ≡ true) ⊎ HasSum first l.octet m
    by m kept (inl there) = tried_either packet known first l.octet l.waiting s m is there kept
    by m kept (inr has) = inr has

steps : (first : Option ℕ) → StepsKeep first (λ (s : StreamValue) (l : LaneValue). AreTried first s l)
steps first = record {
  acks = record { telling = telling first; acks = λ place s l h. alike first s _ l _ refl refl refl refl h };
  ends = λ position s l h. alike first s s l _ refl refl refl refl h;
  maps = λ teller offer position place s l e h. alike first s _ l _ refl refl refl refl h;
  lines = λ teller place line s l h. alike first s _ l _ refl refl refl refl h;
  fins = λ packet s l h. alike first s _ l l refl refl refl refl h;
  pays = λ payload packet s l h. paid payload packet first s l h;
  shows = λ acknowledged packet p place octet s l e h.
      tried_on first s (shown acknowledged packet place 1 (as_part octet) s) l (shown_goes acknowledged packet place 1 (as_part octet) s) h;
  sums = λ packet known mapping s l is checksum h. more_tried packet known mapping first s l is checksum h;
  tries = λ packet known s l is h. all_tried packet known first s l is h;
}

-- ---- none that waits is whole

abbrev NoneWhole : StreamValue → LaneValue → Type 0
NoneWhole s l = any_whole l.octet l.waiting ≡ false

acking : AcksKeep NoneWhole
acking = record {
  telling = λ l. record { tells = λ rule packet fault s h. h; counts = λ s keys joins mappings sums data_acks h. h };
  acks = λ place s l h. h;
}

no_waiting : (octet : ℕ → Option Octet) (waiting : List Waiting) → waiting ≡ [] → any_whole octet waiting ≡ false
no_waiting octet waiting e = ap (any_whole octet) e

summed_open : (facts : Facts) (first : Option ℕ) (learnt : List ToldMapping) (acked : Acked) → AreTried first acked.stream acked.lane
    → NoneWhole (summed facts first learnt acked).stream (summed facts first learnt acked).lane
summed_open facts None learnt acked h = no_waiting acked.lane.octet acked.lane.waiting (h.nothing refl)
summed_open facts (Some first) learnt acked h =
    let lane = with_sums facts.packet learnt acked.lane in
    still_are_open lane.octet lane.waiting

-- ---- over a capture

abbrev Sums : Option ℕ → StreamValue → LaneValue → Type 0
Sums first s l = AreTried first s l × NoneWhole s l

nothing_tried : (first : Option ℕ) (s : StreamValue) → AreTried first s empty_lane
nothing_tried first s = record {
  tried = λ kept m there. absurd (true≢false (sym there));
  with_sums = λ m there. absurd (true≢false (sym there));
  known = λ m there. absurd (true≢false (sym there));
  nothing = λ none. refl;
}

becomes_known : (first : ℕ) (s : StreamValue) (l : LaneValue) → AreTried None s l → AreTried (Some first) s l
becomes_known first s l h = record {
  tried = λ kept m there. absurd (true≢false (sym (h.known m there)));
  with_sums = h.with_sums;
  known = λ m there. refl;
  nothing = λ none. absurd (some_none first none);
}

sums_stand : Stands Sums
sums_stand = record {
  empty = λ first. (nothing_tried first empty_stream, refl);
  telling = λ first l. record {
    tells = λ rule packet fault s h. ((telling first l).tells rule packet fault s h.0, h.1);
    counts = λ s keys joins mappings sums data_acks h. ((telling first l).counts s keys joins mappings sums data_acks h.0, h.1);
  };
  at = λ facts position options keys peers s l h.
      let first = first_of facts.side keys in (
        at_so facts position options keys peers s l (steps first) h.0,
        acks_so acking facts (first_of (peer facts.side) keys) peers options (tried facts position options keys peers s l)
            (summed_open facts first (mapped facts position options keys peers s l).learnt (behind facts position options keys peers s l)
            (behind_so facts position options keys peers s l (steps first) h.0)),
      );
  alone = λ first other s l h. (nothing_tried other s, refl);
  moves = λ first s later l goes alone h. (tried_on first s later l goes h.0, h.1);
  known = λ first s l h. (becomes_known first s l h.0, h.1);
}

-- one that is whole has its sum
whole_has : (first : Option ℕ) (s : StreamValue) (l : LaneValue) (m : ToldMapping) → AreTried first s l → NoneWhole s l → broke rule.DssSum s ≡ false → l.summed m ≡ true
    → all_held l.octet (natural m.position) (octets_of m) ≡ true → HasSum first l.octet m
whole_has first s l m h none kept there whole = by (h.tried kept m there)
  where
    by : (waits m l.waiting ≡ true) ⊎ HasSum first l.octet m → HasSum first l.octet m
    by (inl waiting) = absurd (true≢false (sym whole ∙ none_whole l.octet l.waiting m none waiting))
    by (inr has) = has

side_fits : (keys : Keys) (opener side : Side) (book : BookValue) (lanes : LanesValue)
    → Fits Sums keys opener book lanes
    → AreTried (first_of side keys) (stream_at side book) (lane_at opener side lanes) × NoneWhole (stream_at side book) (lane_at opener side lanes)
side_fits keys A A book lanes fits = fits.own
side_fits keys A B book lanes fits = fits.peers
side_fits keys B A book lanes fits = fits.peers
side_fits keys B B book lanes fits = fits.own

nothing_whole : (opener side : Side) (m : ToldMapping) → (lane_at opener side empty_lanes).summed m ≡ false
nothing_whole A A m = refl
nothing_whole A B m = refl
nothing_whole B A m = refl
nothing_whole B B m = refl

some_sum : (checksum : Option ℕ) → is_some checksum ≡ true → checksum ≡ Some (unwrap_or checksum 0)
some_sum (Some sum) e = refl
some_sum None e = absurd (true≢false (sym e))

module _ (state : JudgedValue) (connection : ℕ) (side : Side) (stream : StreamValue) (there : stream_in state connection side ≡ Some stream)
    (kept : broke rule.DssSum stream ≡ false) (m : ToldMapping) (octets : List ℕ) (it : IsWhole state connection side m octets) where
  abbrev lane : LaneValue
  lane = lane_at it.told.belongs.opener side it.told.lanes

  bound_has : IsBound Sums state it.told.index it.told.lanes
      → HasItsSum state connection side m octets
  bound_has bound =
      let flow : bound.flow ≡ it.told.flow = some_same bound.flow it.told.flow (sym bound.has_flow ∙ it.told.has_flow) in
      let belongs : bound.belongs ≡ it.told.belongs = some_same bound.belongs it.told.belongs (sym bound.has_belongs ∙ ap (λ (f : Flow). f.belongs) flow ∙ it.told.has_belongs) in
      let here : bound.belongs.connection ≡ connection = ap (λ (b : Belongs). b.connection) belongs ∙ it.told.of_connection in
      let streams : stream_at side bound.book ≡ stream =
      some_same (stream_at side bound.book) stream
      (sym (ap (option_map (stream_at side)) bound.has_book) ∙ ap (λ (c : ℕ). option_map (stream_at side) (slice_get state.books c)) here ∙ there) in
      let opener : bound.belongs.opener ≡ it.told.belongs.opener = ap (λ (b : Belongs). b.opener) belongs in
      let fits = side_fits bound.keys it.told.belongs.opener side bound.book it.told.lanes
      (subst (λ (o : Side). Fits Sums bound.keys o bound.book it.told.lanes) opener bound.fits) in
      let has = whole_has (first_of side bound.keys) (stream_at side bound.book) lane m fits.0 fits.1
      (ap (broke rule.DssSum) streams ∙ kept) it.told.was_told it.whole in
      record {
        keys = bound.keys;
        first = has.known;
        sum = unwrap_or m.checksum 0;
        has_keys = ap (slice_get state.seen.connections) (sym here) ∙ bound.has_keys;
        has_first = has.has_first;
        has_sum = some_sum m.checksum (fits.0.with_sums m it.told.was_told);
        right = ap (λ (os : List ℕ). are_alike (dss_checksum (header_of has.known m) os) (unwrap_or m.checksum 0)) (sym it.are_first) ∙ has.right;
      }

  has_sum_by : (it.told.lanes ≡ empty_lanes) ⊎ IsBound Sums state it.told.index it.told.lanes
      → HasItsSum state connection side m octets
  has_sum_by (inl fresh) =
      absurd (true≢false (sym it.told.was_told ∙ ap (λ (l : LanesValue). (lane_at it.told.belongs.opener side l).summed m) fresh ∙ nothing_whole it.told.belongs.opener side m))
  has_sum_by (inr bound) = bound_has bound

pub kept_sums : (at : Option Side) (check_sums : Bool) (packets : List Captured) (connection : ℕ) (side : Side) (stream : StreamValue)
    → stream_in (judged_first at check_sums packets) connection side ≡ Some stream → broke rule.DssSum stream ≡ false
    → (m : ToldMapping) (octets : List ℕ) (it : IsWhole (judged_first at check_sums packets) connection side m octets)
    → HasItsSum (judged_first at check_sums packets) connection side m octets
kept_sums at check_sums packets connection side stream there kept m octets it =
    has_sum_by (judged_first at check_sums packets) connection side stream there kept m octets it
    ((first_stand sums_stand at check_sums packets).lanes it.told.index it.told.lanes it.told.has_lanes)
