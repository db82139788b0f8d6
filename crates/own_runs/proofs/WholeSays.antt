-- In a run whose script alters nothing and takes no options away each segment's payload is mapped by an option of it, and a Data ACK of the DATA_FIN's
-- place comes behind a segment that told the DATA_FIN.
use Rattle.std.proofs.Common.{◌≡◌, refl, sym, subst, ℕ, zero, suc, ◌⊎◌, inl, inr, ⊎_elim, true, false, Option, Some, None, List, [], ◌∷◌, map, length, take, arith}
use Rattle.std.specs.Prelude.{All}
use Rattle.std.specs.List.{list_any, slice_get}
use Rattle.std.specs.Option.{IfSome}
use Rattle.std.proofs.lemmas.Bool.{eqb-true, false≢true, or_cases}
use Rattle.std.proofs.lemmas.List.Elements.{All-head, All-tail}
use Rattle.link_trace.specs.declared.sent.Sent.{Sent}
use Rattle.mptcp_options.specs.declared.capable.CapableKeys.TheVariants.{Both, NoKey, Sender, WithData}
use Rattle.path_core.specs.Looking.{first_sends, segment_sent}
use Rattle.path_core.specs.Octets.{octets}
use Rattle.path_core.specs.State.{PathState, path_of}
use Rattle.path_segments.specs.Options.{PlainOption, said_option}
use Rattle.path_segments.specs.Spelled.{PlainSegment}
use Rattle.path_segments.specs.declared.segment.PathMapping.TheVariants.{Bytes, End, Infinite}
use Rattle.path_segments.specs.declared.segment.PathOption.TheVariants.{Capable, Dss, Fail}
use Rattle.path_segments.specs.declared.spelling.Spelling.{Spelling}
use Rattle.run_trace.specs.Trace.{sent_at, trace_of}
use Rattle.sides.specs.Side.{peer}
use Rattle.sides.specs.declared.side.Side.{Side}
use Rattle.stream_lanes.proofs.Lists.{Every-map}
use Rattle.stream_lanes.specs.Duo.{Duo}
use Rattle.stream_lanes.specs.Words.{Every, Has}
use Rattle.world_laws.specs.Actors.{Actor}
use Rattle.world_laws.specs.NeverFalls.{IsWhole}
use Rattle.world_laws.specs.Openings.{Start, opened_world, path_begins}
use Rattle.world_laws.specs.Promises.{IsPlain, NumbersFit}
use Rattle.world_laws.specs.Worlds.{Turn, WorldState, world_run}
use Rattle.world_laws.specs.declared.member.Member.TheVariants.{App, Path}
use Rattle.own_runs.specs.Fitting.{RunFits}
use Rattle.own_runs.specs.Traces.{FitsCapture}
use Rattle.own_runs.specs.WholeSegments.{AckIsTold, DeliveredRunsTellTheEnds, EachSaysWhatItBears, EndsTheFile, IsDataFin, MapsAll}
use Rattle.own_runs.proofs.Bearing.{Carries, maps_octets}
use Rattle.own_runs.proofs.CameSent.{carries, has_map}
use Rattle.own_runs.proofs.EndRuns.{TellsEnd}
use Rattle.own_runs.proofs.FineMoments.{BearsMapped, IsMapped, Offered, file_len}
use Rattle.own_runs.proofs.Fitting.{traces_fit}
use Rattle.own_runs.proofs.Moments.{IsSpoken, MemberAlso, WorldAlso, trace_spoken, turn_spoken, world_speaks}
use Rattle.own_runs.proofs.Offering.{AllFine, NoLines, OptionFine}
use Rattle.own_runs.proofs.Placing.{PlacedIn}
use Rattle.own_runs.proofs.ShownAcks.{EndTold, IsShown, OfferedAndAcked, delivered_ends, whole_acks}
use Rattle.own_runs.proofs.ShownSeen.{ends_here, value_ends}
use Rattle.own_runs.proofs.Speaking.{ToSend}
use Rattle.own_runs.proofs.ToldAcks.{AckShows, AckedBefore, SentIn, sent_in}

-- ---- lists

has_first : {X : Type 0} {P : X → Type 0} (x : X) (xs : List X) → P x → Has P (x ∷ xs)
has_first x xs h = record { at = 0; item = x; there = refl; holds = h }

has_rest : {X : Type 0} {P : X → Type 0} (x : X) (xs : List X) → Has P xs → Has P (x ∷ xs)
has_rest x xs h = record { at = suc h.at; item = h.item; there = h.there; holds = h.holds }

rest_each : {X : Type 0} {P : X → Type 0} (x : X) (xs : List X) → Every P (x ∷ xs) → Every P xs
rest_each x xs h = record { each = λ i y at. h.each (suc i) y at }

in_take : {X : Type 0} (n : ℕ) (xs : List X) (i : ℕ) (x : X) → slice_get (take n xs) i ≡ Some x → slice_get xs i ≡ Some x
in_take zero [] i x at = cc
in_take zero (y ∷ xs) i x at = cc
in_take (suc n) [] i x at = cc
in_take (suc n) (y ∷ xs) zero x at = at
in_take (suc n) (y ∷ xs) (suc i) x at = in_take n xs i x at

all_at : {X : Type 0} (P : X → Type 0) (xs : List X) → All P xs → (i : ℕ) (x : X) → slice_get xs i ≡ Some x → P x
all_at P [] all i x at = cc
all_at P (y ∷ xs) all zero x at = let same : y ≡ x = cc in subst P same (All-head P y xs all)
all_at P (y ∷ xs) all (suc i) x at = all_at P xs (All-tail P y xs all) i x at

-- ---- an option that maps the payload

module _ (key position octets : ℕ) where
  maps_one : (o : PlainOption) → PlacedIn key position octets o → maps_octets o ≡ true → MapsAll position octets o
  maps_one (Dss next (Some (Bytes place at len fin checksum))) placed is = (placed.0, placed.1)
  maps_one (Dss next (Some (End place checksum))) placed is = absurd (false≢true is)
  maps_one (Dss next (Some (Infinite place at))) placed is = absurd (false≢true is)
  maps_one (Dss next None) placed is = absurd (false≢true is)
  maps_one (Capable flag_a flag_c (WithData sender receiver len checksum)) placed is = (sym placed.0, placed.1)
  maps_one (Capable flag_a flag_c NoKey) placed is = absurd (false≢true is)
  maps_one (Capable flag_a flag_c (Sender sender)) placed is = absurd (false≢true is)
  maps_one (Capable flag_a flag_c (Both sender receiver)) placed is = absurd (false≢true is)
  maps_one (Fail place) placed is = absurd (false≢true is)
  maps_one _ placed is = absurd (false≢true is)

  maps_all : (os : List PlainOption) → Every (PlacedIn key position octets) os → list_any maps_octets os ≡ true → Has (MapsAll position octets) os
  maps_all [] placed is = absurd (false≢true is)
  maps_all (o ∷ os) placed is =
      ⊎_elim (λ here. has_first o os (maps_one o (placed.each 0 o refl) here)) (λ later. has_rest o os (maps_all os (rest_each o os placed) later))
      (or_cases (maps_octets o) (list_any maps_octets os) is)

-- ---- a DATA_FIN

module _ (start : Start) (last : Duo) (path : ℕ) (s : Side) (spelling : Spelling) where
  fin_one : (o : PlainOption) → OptionFine (file_len start) (IsMapped start last path) NoLines ⊥ s o → value_ends (said_option spelling s o) ≡ true → IsDataFin (file_len start s) o
  fin_one (Dss next (Some (Bytes place at len false checksum))) fine is = absurd (let some = fine.0 in let none = eqb-true len 0 is in omega (arith, some, none))
  fin_one (Dss next (Some (Bytes place at len true checksum))) fine is = absurd (false≢true (sym fine.1))
  fin_one (Dss next (Some (End place checksum))) fine is = fine.0
  fin_one (Dss next (Some (Infinite place at))) fine is = absurd fine
  fin_one (Dss next None) fine is = absurd (false≢true is)
  fin_one (Capable flag_a flag_c keys) fine is = absurd (false≢true is)
  fin_one (Fail place) fine is = absurd fine
  fin_one _ fine is = absurd (false≢true is)

  fin_all : (os : List PlainOption) → AllFine (file_len start) (IsMapped start last path) NoLines ⊥ s os → list_any value_ends (map (said_option spelling s) os) ≡ true → Has (IsDataFin (file_len start s)) os
  fin_all [] fine is = absurd (false≢true is)
  fin_all (o ∷ os) fine is =
      ⊎_elim (λ here. has_first o os (fin_one o (fine.each 0 o refl) here)) (λ later. has_rest o os (fin_all os (rest_each o os fine) later))
      (or_cases (value_ends (said_option spelling s o)) (list_any value_ends (map (said_option spelling s) os)) is)

-- ---- the trace

first_also : (Q R : ℕ → Side → PlainSegment → Type 0) (w : WorldState (List ℕ)) → WorldAlso (λ n s sg. Q n s sg × R n s sg) w → WorldAlso Q w
first_also Q R w h i c at = member c.member (h i c at)
  where
    path : (p : PathState (List ℕ)) (o : Option ToSend) → IfSome o (λ t. Q (path_of p) t.from (segment_sent p t) × R (path_of p) t.from (segment_sent p t))
        → IfSome o (λ t. Q (path_of p) t.from (segment_sent p t))
    path p None h = tt
    path p (Some t) h = h.0

    member : (m : Actor (List ℕ)) → MemberAlso (λ n s sg. Q n s sg × R n s sg) m → MemberAlso Q m
    member (App a) h = tt
    member (Path p) h = path p (first_sends p.agenda p) h

module _ (start : Start) (turns : List Turn) (plain : IsPlain start) (whole : IsWhole start) (fit : NumbersFit start) (run : RunFits start turns) where
  abbrev trace : List Sent
  trace = trace_of turns (opened_world start)

  abbrev last : Duo
  last = (whole_acks start turns plain whole fit).0

  room : All FitsCapture trace
  room = traces_fit start turns plain.size fit run

  spoken : Every (IsSpoken (Offered start last) start) trace
  spoken = trace_spoken (Offered start last) start turns plain.size fit
      (λ more later is.
      first_also (Offered start last) (AckedBefore (IsShown start last) (EndTold start (trace_of more (opened_world start))) (trace_of more (opened_world start)))
      (world_run octets more (opened_world start)) ((whole_acks start turns plain whole fit).1 more later is))

  -- what told the end of a stream has the DATA_FIN
  fin_at : (i : ℕ) (s : Side) (x : Sent) → slice_get trace i ≡ Some x → TellsEnd start s x → EndsTheFile start s x
  fin_at i s x at told =
      let said = spoken.each i x at in
      let short = (all_at FitsCapture trace room i x at).octets in
      let fin = fin_all start last x.path x.from (path_begins start x.path said.plan).profile.spelling said.segment.options said.also.0 (ends_here start last x said short s told) in
      subst (λ (t : Side). EndsTheFile start t x) told.from
      (record { from = refl; spelling = (path_begins start x.path said.plan).profile.spelling; segment = said.segment; octets = said.octets; fin = fin })

  told_fin : (i : ℕ) (s : Side) → Has (TellsEnd start s) (take i trace) → Has (EndsTheFile start s) (take i trace)
  told_fin i s h = record { at = h.at; item = h.item; there = h.there; holds = fin_at h.at s h.item (in_take i trace h.at h.item h.there) h.holds }

  pub fin_in : (s : Side) → Has (TellsEnd start s) trace → Has (EndsTheFile start s) trace
  fin_in s h = record { at = h.at; item = h.item; there = h.there; holds = fin_at h.at s h.item h.there h.holds }

  ack_told : (i : ℕ) (s : Side) (o : PlainOption) → AckShows (IsShown start last) (EndTold start (take i trace)) (take i trace) s o → AckIsTold start (take i trace) s o
  ack_told i s (Dss (Some next) mapping) h = λ place below.
      ⊎_elim (λ has. inl (has_map (take i trace) (λ x shown. carries start x.path (peer s) shown.position place x shown.covers) has)) (λ end. inr (end.0, told_fin i (peer s) end.1)) (h place below)
  ack_told i s (Dss None mapping) h = tt
  ack_told i s _ h = tt

pub each_says : EachSaysWhatItBears
each_says start turns plain whole fit run i x is =
    let m : SentIn turns (opened_world start) i x = sent_in turns (opened_world start) i x is in
    let before : List Sent = trace_of m.before (opened_world start) in
    let Q : ℕ → Side → PlainSegment → Type 0 = OfferedAndAcked start (last start turns plain whole fit run) before in
    let all : Every (IsSpoken Q start) (sent_at m.turn (world_run octets m.before (opened_world start))) =
    turn_spoken Q start m.turn (world_run octets m.before (opened_world start)) (world_speaks start m.before plain.size fit)
    ((whole_acks start turns plain whole fit).1 m.before m.later m.whole) in
    let said = all.each 0 x m.sends in
    record {
      spelling = _;
      segment = said.segment;
      octets = said.octets;
      maps = mapped said said.also.0.1;
      acks = Every-map (λ o shown. ack_told start turns plain whole fit run i x.from o shown)
          (subst (λ (front : List Sent). Every (AckShows (IsShown start (last start turns plain whole fit run)) (EndTold start front) front x.from) said.segment.options) m.front said.also.1);
    }
  where
    mapped : {Q : ℕ → Side → PlainSegment → Type 0} (said : IsSpoken Q start x) → Carries (BearsMapped start (last start turns plain whole fit run) x.path) x.from said.segment
        → (said.segment.payload ≡ []) ⊎ Has (MapsAll said.segment.position (length said.segment.payload)) said.segment.options
    mapped said (inl none) = inl none
    mapped said (inr bears) = inr (maps_all _ said.segment.position (length said.segment.payload) said.segment.options said.spoken.placed.options bears.1)

pub ends_are_told : DeliveredRunsTellTheEnds
ends_are_told start turns plain whole fit run delivered s = fin_in start turns plain whole fit run s (delivered_ends start turns plain whole fit delivered s)
