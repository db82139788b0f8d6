-- What each segment of a trace maps and bears, where its script alters nothing and takes no options away: each mapping gives its positions the
-- places that they have at the end of the run, and each payload the octets of these places.
use Rattle.std.proofs.Common.{◌≡◌, refl, sym, ap, ◌∙◌, subst, ℕ, suc, ◌+◌, ◌≤◌, ◌<◌, ◌^◌, Bool, true, false, if◌then◌else◌, Option, Some, None, is_some, ◌⊎◌, inl, inr, List, [], ◌∷◌, ◌++◌, length, length-append, arith}
use Rattle.std.specs.Option.{IfSome}
use Rattle.std.specs.List.{list_any, slice_get}
use Rattle.std.proofs.lemmas.Bool.{and_parts, both_ways, false≢true}
use Rattle.actor_desk.specs.Books.{books_in}
use Rattle.actor_desk.specs.Desk.{SixBooks}
use Rattle.actor_desk.specs.Words.{pick}
use Rattle.judge_rules.specs.Numbers.{first_number}
use Rattle.octet_text.specs.Prefix.{IsPrefix}
use Rattle.path_core.specs.Choices.{is_side_a}
use Rattle.path_core.specs.DssOut.{first_piece_options, infinite_or, is_first_piece, mapped_options, piece_mapping, piece_options, plain_options}
use Rattle.path_core.specs.End.{PathEnd}
use Rattle.path_core.specs.Looking.{first_sends, segment_sent}
use Rattle.path_core.specs.Octets.{octets}
use Rattle.path_core.specs.OptionsOut.{record_options, record_said}
use Rattle.path_core.specs.Profile.{Profile}
use Rattle.path_core.specs.Said.{said_by}
use Rattle.path_core.specs.Shown.{shown_path}
use Rattle.path_core.specs.State.{end_at, PathState, path_of}
use Rattle.path_core.specs.Values.{Carried, values}
use Rattle.path_segments.specs.Spelled.{PlainSegment}
use Rattle.path_segments.specs.declared.segment.PathOption.TheVariants.{Dss}
use Rattle.path_store.specs.declared.infinite_mapping.InfiniteMapping.{InfiniteMapping}
use Rattle.send_book.specs.State.{Sending}
use Rattle.sides.specs.declared.side.Side.TheVariants.{A, B}
use Rattle.sides.specs.declared.side.Side.{Side}
use Rattle.stream_lanes.proofs.Duos.{any_held}
use Rattle.stream_lanes.proofs.Lists.{in_map}
use Rattle.stream_lanes.specs.Duo.{Duo}
use Rattle.stream_lanes.specs.Holding.{Holds, LaneHolds}
use Rattle.stream_lanes.specs.Lane.{Lane}
use Rattle.stream_lanes.specs.View.{View, end_of}
use Rattle.subflow_send.specs.Records.{Record}
use Rattle.subflow_send.specs.declared.record.RecordKind.TheVariants.{Syn, Data, Fin}
use Rattle.subflow_send.specs.declared.record.RecordKind.{RecordKind}
use Rattle.world_laws.proofs.Lanes.Answering.{BeginsFirst}
use Rattle.world_laws.proofs.Lanes.OfAWorld.{Carries as MayCarry, PathIsSteady, PathThere, Reached, WorldShows, plainly, plainly_free, duo_of, free_run}
use Rattle.world_laws.proofs.Lanes.Showing.{EndShows, KindShows, OwnIs}
use Rattle.world_laws.proofs.Numbers.EveryTurn.{always_tells}
use Rattle.world_laws.proofs.Numbers.PathSteps.{PathTells}
use Rattle.world_laws.proofs.Numbers.TellSmall.{EndTells}
use Rattle.world_laws.proofs.Promises.Made.{run_fresh}
use Rattle.world_laws.proofs.Whole.Falls.{each_upright}
use Rattle.world_laws.proofs.Worlds.CastLifting.{each_actor, path_actor, writes_the_files}
use Rattle.world_laws.proofs.Worlds.Casts.{Walker, walking}
use Rattle.world_laws.proofs.Worlds.Steady.{always_steady}
use Rattle.world_laws.specs.Actors.{Actor, ActorCrew}
use Rattle.world_laws.specs.Fresh.{shown_crew, shown_member}
use Rattle.world_laws.specs.Laws.{WritesTheFile}
use Rattle.world_laws.specs.NeverFalls.{IsWhole}
use Rattle.world_laws.specs.Openings.{Start, path_begins, opened_world}
use Rattle.world_laws.specs.Promises.{NumbersFit, IsPlain}
use Rattle.world_laws.specs.Worlds.{WorldState, Turn, world_run}
use Rattle.world_laws.specs.declared.member.Member.TheVariants.{App, Path}
pub use Rattle.own_runs.proofs.EndMaps.{IsMapped, MappedOn, content, file_len, lane_of, place_at}
use Rattle.own_runs.proofs.EndMaps.{end_told, kind_so, known_so}
use Rattle.own_runs.proofs.Bearing.{Carries, RecordsCarry, first_carries, maps_octets}
use Rattle.own_runs.proofs.KeyedPieces.{EndKeyed, HasKey, KindNeeds, Needs, always_keyed}
use Rattle.own_runs.proofs.MapPlaces.{bears, first_at, place_on}
use Rattle.own_runs.proofs.MapPositions.{Bears}
use Rattle.own_runs.proofs.Moments.{MemberAlso, PathAlso, WorldAlso, end_shown, first_same}
use Rattle.own_runs.proofs.Offering.{AllFine, EndFine, NoLines, first_fine_sent}
use Rattle.own_runs.proofs.Own.{own_key}
use Rattle.own_runs.proofs.Reached.{duo_at, run_reaches}
use Rattle.own_runs.proofs.SentGrows.{Grows, Longer}
use Rattle.own_runs.proofs.Speaking.{ToSend}
use Rattle.own_runs.proofs.Values.{drawn}

-- a payload at a position
abbrev pub BorneOn : (ℕ → ℕ) → Option Lane → ℕ → List ℕ → Type 0
BorneOn octet lane position payload = (position + length payload < 2 ^ 31) × Bears (λ p. octet (place_at lane p)) position payload

module _ (start : Start) (last : Duo) (path : ℕ) where
  abbrev pub IsBorne : Side → ℕ → List ℕ → Type 0
  IsBorne s position payload = BorneOn (content start s) (lane_of last path s) position payload

  -- a payload that one of the segment's options maps
  abbrev pub BearsMapped : Side → PlainSegment → Type 0
  BearsMapped s sg = IsBorne s sg.position sg.payload × (list_any maps_octets sg.options ≡ true)

  -- what a segment maps and bears
  abbrev pub Offers : Side → PlainSegment → Type 0
  Offers s sg = AllFine (file_len start) (IsMapped start last path) NoLines ⊥ s sg.options × Carries BearsMapped s sg

-- ---- a path at a moment

module _ (start : Start) (last : Duo) where
  abbrev pub Offered : ℕ → Side → PlainSegment → Type 0
  Offered path s sg = Offers start last path s sg

  abbrev PathOffers : {C : Type 0} → PathState C → Type 0
  PathOffers p = PathAlso Offered p

  abbrev MemberOffers : {C : Type 0} → Actor C → Type 0
  MemberOffers m = MemberAlso Offered m

  abbrev WorldOffers : {C : Type 0} → WorldState C → Type 0
  WorldOffers w = WorldAlso Offered w

module _ (start : Start) (turns : List Turn) (plain : IsPlain start) (whole : IsWhole start) (fit : NumbersFit start) (last : Duo)
    (q : Reached (plainly start plain).links start (world_run values turns (opened_world start))) (grown : Grows (duo_at start (plainly start plain) (world_run values turns (opened_world start)) q) last) where
  abbrev v : WorldState Carried
  v = world_run values turns (opened_world start)

  abbrev can : MayCarry start
  can = plainly start plain

  held : Holds (duo_at start can v q)
  held = any_held can.links.alters can.links.checked (length start.paths) start.buffer start.buffer q.events

  abbrev h : WorldShows can.links start (duo_at start can v q) v
  h = q.shows

  abbrev six : SixBooks
  six = books_in h.cast.books

  abbrev duo : Duo
  duo = duo_of can.links six h.lanes_ab h.lanes_ba h.reader_a h.reader_b

  holds : Holds duo
  holds = subst Holds h.duo_is held

  grows : Grows duo last
  grows = subst (λ (d : Duo). Grows d last) h.duo_is grown

  writes_a : WritesTheFile start.file_a six.send_a
  writes_a = subst (λ (w : WorldState Carried). WritesTheFile start.file_a (books_in w.books).send_a) h.is (writes_the_files values start turns).a

  writes_b : WritesTheFile start.file_b six.send_b
  writes_b = subst (λ (w : WorldState Carried). WritesTheFile start.file_b (books_in w.books).send_b) h.is (writes_the_files values start turns).b

  file_length : (file written : List ℕ) → IsPrefix written file → length written ≤ length file
  file_length file written begins_so = let same = ap length begins_so.whole_is in omega (arith, same, length-append written begins_so.rest)

  module _ (n : ℕ) (x : Walker Carried) (at : slice_get h.cast.paths n ≡ Some x) where
    abbrev p : PathState Carried
    p = x.path

    abbrev there : PathThere start h.lanes_ab h.lanes_ba n p
    there = h.paths.each n n x (omega arith) at

    abbrev c : Profile
    c = (path_begins start n there.plan).profile

    here : slice_get v.crew (suc (suc n)) ≡ Some (walking x)
    here = subst (λ (w : WorldState Carried). slice_get w.crew (suc (suc n)) ≡ Some (walking x)) (sym h.is) (path_actor h.cast n x at)

    told : PathTells c p
    told = (always_tells start turns plain.size fit).members (suc (suc n)) (walking x) here there.plan there.plan_there

    upright : (s : Side) → (end_at s p).modes.identity ≡ false
    upright = ((each_upright start turns plain whole).each (suc (suc n)) (walking x) here).identity

    steady : n ≡ 0 → six.control_b.fall.joined ≡ true → p.a.modes.clear ≡ true
    steady =
        let is : PathIsSteady (books_in v.books) n p = (always_steady start turns).each n (walking x) here in
        subst (λ (w : WorldState Carried). n ≡ 0 → (books_in w.books).control_b.fall.joined ≡ true → p.a.modes.clear ≡ true) h.is is.clear

    -- an end, by what it shows on its lanes
    module _ (s : Side) (e : PathEnd) (out back : Lane) (view : View) (shown : EndShows c s e out back) (hold : LaneHolds view n out) (tells : EndTells c s e)
        (unaltered : out.alters ≡ false) (begins : IsPrefix view.written (pick s start.file_a start.file_b)) (ends : (k : ℕ) → view.end ≡ Some k → k ≡ file_len start s)
        (identity : e.modes.identity ≡ false) (later : Lane) (later_there : lane_of last n s ≡ Some later) (longer : Longer out later)
        (first_is : BeginsFirst s e out) (keyed : is_side_a s ≡ true → EndKeyed e) where
      abbrev first : ℕ
      first = first_number (own_key (drawn start) s)

      -- the octet of a position
      abbrev octet_at : ℕ → ℕ
      octet_at p = content start s (place_on later p)

      own_none : e.modes.own_infinite ≡ None
      own_none = (elim e.modes.own_infinite as (λ o. IfSome o (OwnIs out.pair out.pairs out.fins out.alters) → o ≡ None)
          [ None ↦ λ own. refl | Some mapping ↦ λ own. absurd (both_ways out.alters unaltered own.may) ]) shown.pairs.0

      -- what a record bears
      none_bears : (position : ℕ) (piece : List ℕ) → piece ≡ [] → Bears octet_at position piece
      none_bears position piece none j below = absurd (let empty : length piece ≡ 0 = ap (λ (xs : List ℕ). length xs) none in omega (arith, empty, below))

      octets_so : (kind : RecordKind) (r : Record) → KindShows c s out.alters out.sent out.datas out.fins kind r → Bears octet_at r.pos r.piece
      octets_so Syn r is = none_bears r.pos r.piece is
      octets_so Fin r is = none_bears r.pos r.piece is.0
      octets_so Data r is = bears view n out later hold longer (pick s start.file_a start.file_b) begins unaltered r.pos r.piece is.octets

      -- which one of its options maps
      piece_maps : (r : Record) → (is_side_a s ≡ true → HasKey e) → list_any maps_octets (piece_options c s r e) ≡ true
      piece_maps r has =
          subst (λ (b : Bool). list_any maps_octets (if b then plain_options r.pos e else infinite_or e.modes.own_infinite (mapped_options c s r e) e) ≡ true) (sym identity)
          (subst (λ (o : Option InfiniteMapping). list_any maps_octets (infinite_or o (mapped_options c s r e) e) ≡ true) (sym own_none) (by (is_first_piece s r e) refl))
        where
          first_maps : (o : Option ℕ) → is_some o ≡ true → list_any maps_octets (first_piece_options c o r e) ≡ true
          first_maps None some = absurd (false≢true some)
          first_maps (Some key) some = refl

          by : (b : Bool) → is_first_piece s r e ≡ b
              → list_any maps_octets (if b then first_piece_options c e.modes.peer_key r e else Dss (Some e.receiving.next) (Some (piece_mapping c s r)) ∷ []) ≡ true
          by true is = first_maps e.modes.peer_key (has (and_parts (is_side_a s) _ is).0)
          by false is = refl

      bears_so : RecordsCarry (BearsMapped start last n) c s e
      bears_so = record {
        each = λ i r there_one.
            by r (shown.sender.pieces.each i r there_one)
            (subst (λ (o : Option Lane). BorneOn (content start s) o r.pos r.piece) (sym later_there)
            (let reaches = (tells.sender.records.each i r there_one).reaches in omega (arith, reaches), octets_so r.kind r (shown.sender.pieces.each i r there_one)))
            (λ own. (keyed own).each i r there_one);
      }
        where
          of_kind : (kind : RecordKind) (r : Record) → KindShows c s out.alters out.sent out.datas out.fins kind r → IsBorne start last n s r.pos r.piece → (is_side_a s ≡ true → KindNeeds (HasKey e) kind)
              → (r.piece ≡ []) ⊎ (IsBorne start last n s r.pos r.piece × (list_any maps_octets (record_options kind c s r e) ≡ true))
          of_kind Syn r is borne has = inl is
          of_kind Fin r is borne has = inl is.0
          of_kind Data r is borne has = inr (borne, piece_maps r has)

          by : (r : Record) → KindShows c s out.alters out.sent out.datas out.fins r.kind r → IsBorne start last n s r.pos r.piece → (is_side_a s ≡ true → Needs (HasKey e) r)
              → Carries (BearsMapped start last n) s (record_said c s r e)
          by r is borne has = of_kind r.kind r is borne has

      unfailed : (o : Option ℕ) → IfSome o (λ _. out.alters ≡ true) → IfSome o (λ _. ⊥)
      unfailed None may = tt
      unfailed (Some place) may = both_ways out.alters unaltered may

      end_so : EndFine (file_len start) (IsMapped start last n) NoLines ⊥ c s e × RecordsCarry (BearsMapped start last n) c s e
      end_so = (
        record {
          fins = λ is. false≢true (sym identity ∙ is);
          infinite = subst (λ (o : Option InfiniteMapping). IfSome o (λ _. ⊥)) (sym own_none) tt;
          told = unfailed e.modes.failed_mapping shown.pairs.4;
          telling = unfailed e.treated.failed_mapping shown.pairs.5;
          known = known_so start last n there.plan s e out back view shown hold begins ends later later_there longer first_is NoLines ⊥;
          ends = λ place is. end_told start last n there.plan s e out back view shown hold begins ends later later_there longer first_is NoLines ⊥ place;
          records = record {
            each = λ i r there_one. (
              kind_so start last n there.plan s e out back view shown hold begins ends later later_there longer first_is NoLines ⊥ r.kind r (shown.sender.pieces.each i r there_one)
                  (tells.sender.records.each i r there_one).mapped,
              λ is not_syn. false≢true (sym identity ∙ is),
            );
          };
        },
        bears_so,
      )

    -- where a stream is closed its file was written
    closed_so : (file : List ℕ) (b : Sending) → (b.closed ≡ true → b.written ≡ file) → (k : ℕ) → end_of b ≡ Some k → k ≡ length file
    closed_so file b whole k is = by b.closed whole is
      where
        by : (closed : Bool) → (closed ≡ true → b.written ≡ file) → (if closed then Some (length b.written) else None) ≡ Some k → k ≡ length file
        by true whole is = let same : length b.written ≡ k = cc in sym same ∙ ap length (whole refl)
        by false whole is = cc

    fine : (s : Side) → EndFine (file_len start) (IsMapped start last n) NoLines ⊥ c s (end_at s p) × RecordsCarry (BearsMapped start last n) c s (end_at s p)
    fine A =
        let hold = holds.ab.lanes.each n n there.ab (omega arith) there.ab_there in
        let later = grows.ab n there.ab there.ab_there in
        end_so A p.a there.ab there.ba _ there.shows.a hold told.a hold.link.alters_is writes_a.prefix (closed_so start.file_a six.send_a writes_a.whole) (upright A)
        later.0 later.1 later.2 (λ own unclear place len has. first_at _ n six.control_b.fall.joined p there.ab there.ba refl hold steady there.stands unclear place len has)
        (λ own. always_keyed start plain whole turns (suc (suc n)) (walking x) here)
    fine B =
        let hold = holds.ba.lanes.each n n there.ba (omega arith) there.ba_there in
        let later = grows.ba n there.ba there.ba_there in
        end_so B p.b there.ba there.ab _ there.shows.b hold told.b hold.link.alters_is writes_b.prefix (closed_so start.file_b six.send_b writes_b.whole) (upright B)
        later.0 later.1 later.2 (λ own unclear place len has. absurd (false≢true own)) (λ own. absurd (false≢true own))

    offers : PathOffers start last p
    offers = subst (λ (k : ℕ). IfSome (first_sends p.agenda p) (λ t. Offers start last k t.from (segment_sent p t))) (sym there.numbered) (by (first_sends p.agenda p) maps carries)
      where
        maps : IfSome (first_sends p.agenda p) (λ t. AllFine (file_len start) (IsMapped start last n) NoLines ⊥ t.from (segment_sent p t).options)
        maps =
            first_fine_sent (file_len start) (IsMapped start last n) NoLines ⊥ p
            (λ s. subst (λ (d : Profile). EndFine (file_len start) (IsMapped start last n) NoLines ⊥ d s (end_at s p)) (sym there.shows.profile) (fine s).0) p.agenda

        carries : IfSome (first_sends p.agenda p) (λ t. Carries (BearsMapped start last n) t.from (segment_sent p t))
        carries =
            first_carries (BearsMapped start last n) p
            (λ s. subst (λ (d : Profile). RecordsCarry (BearsMapped start last n) d s (end_at s p)) (sym there.shows.profile) (fine s).1) p.agenda

        by : (o : Option ToSend) → IfSome o (λ t. AllFine (file_len start) (IsMapped start last n) NoLines ⊥ t.from (segment_sent p t).options)
            → IfSome o (λ t. Carries (BearsMapped start last n) t.from (segment_sent p t)) → IfSome o (λ t. Offers start last n t.from (segment_sent p t))
        by None one other = tt
        by (Some t) one other = (one, other)

  valued : WorldOffers start last v
  valued =
      subst (λ (w : WorldState Carried). WorldOffers start last w) (sym h.is)
      (each_actor (λ i c. MemberOffers start last c.member) h.cast tt tt (λ n x at. offers n x at))

-- ---- over octets

module _ (start : Start) (last : Duo) where
  path_shown : (p : PathState Carried) → PathOffers start last p → PathOffers start last (shown_path p)
  path_shown p s = subst (λ (o : Option ToSend). IfSome o Shown) (sym (first_same p.agenda p)) (by (first_sends p.agenda p) s)
    where
      Shown : ToSend → Type 0
      Shown = λ t. Offers start last (path_of p) t.from (segment_sent (shown_path p) t)

      by : (o : Option ToSend) → IfSome o (λ t. Offers start last (path_of p) t.from (segment_sent p t)) → IfSome o Shown
      by None said = tt
      by (Some t) said = subst (λ (e : PathEnd). Offers start last (path_of p) t.from (said_by t.kind p.profile t.from e)) (end_shown t.from p) said

  member_shown : (m : Actor Carried) → MemberOffers start last m → MemberOffers start last (shown_member m)
  member_shown (App a) s = tt
  member_shown (Path p) s = path_shown p s

-- at a moment of a run, by its last lanes
pub offered_at : (start : Start) (plain : IsPlain start) → IsWhole start → NumbersFit start → (last : Duo) (more : List Turn)
    → (q : Reached (plainly start plain).links start (world_run values more (opened_world start))) × Grows (duo_at start (plainly start plain) (world_run values more (opened_world start)) q) last
    → WorldAlso (Offered start last) (world_run octets more (opened_world start))
offered_at start plain whole fit last more r =
    subst (λ (w : WorldState (List ℕ)). WorldAlso (Offered start last) w) (sym (run_fresh start more plain.size fit))
    (λ i c at.
    let found = in_map shown_crew (world_run values more (opened_world start)).crew i c at in
    subst (λ (y : ActorCrew (List ℕ)). MemberOffers start last y.member) found.2
    (member_shown start last found.0.member (valued start more plain whole fit last r.0 r.1 i found.0 found.1)))

pub whole_offers : (start : Start) (turns : List Turn) → IsPlain start → IsWhole start → NumbersFit start
    → (last : Duo) × ((more later : List Turn) → more ++ later ≡ turns → WorldAlso (Offered start last) (world_run octets more (opened_world start)))
whole_offers start turns plain whole fit =
    let can = plainly start plain in
    let reached = run_reaches start can turns (free_run can.links (plainly_free start plain) turns (opened_world start)) in
    (reached.0, λ more later is. offered_at start plain whole fit reached.0 more (reached.1 more later is))
