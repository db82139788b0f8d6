-- Grants are full, and a file that fits is written at once and lies before the edge: so each record but the last holds a full segment's payload.
use Rattle.std.proofs.Common.{◌≡◌, refl, sym, subst, ap, ◌∙◌, ◌⊎◌, inl, inr, ⊎_elim, ℕ, zero, suc, ◌+◌, ◌*◌, ◌<◌, ◌≤◌, arith, Bool, true, false, Some, List, [], ◌∷◌, ◌++◌, length, map}
use Rattle.std.specs.Int.{div_ceil}
use Rattle.std.specs.List.{slice_get}
use Rattle.std.proofs.Math.Nat.{mul-le-mul_right, suc-mul, zero-mul}
use Rattle.std.proofs.lemmas.Bool.{both_ways, cases_lt}
use Rattle.std.proofs.lemmas.Grind.{div_ceil_times}
use Rattle.std.proofs.lemmas.Option.{same_Some}
use Rattle.sides.specs.declared.side.Side.{Side}
use Rattle.sides.specs.declared.side.Side.TheVariants.{A, B}
use Rattle.actor_desk.specs.Words.{pick}
use Rattle.subflow_send.specs.Records.{Record, end_of, occupied, span_of}
use Rattle.subflow_send.specs.declared.record.RecordKind.{RecordKind}
use Rattle.subflow_send.specs.declared.record.RecordKind.TheVariants as kinds
use Rattle.subflow_tcp.specs.States.{may_finish}
use Rattle.path_core.specs.Emission.{payload_size}
use Rattle.path_core.specs.Profile.{Profile}
use Rattle.path_core.specs.State.{PathState, end_at}
use Rattle.path_core.specs.Values.{Carried, values}
use Rattle.world_laws.specs.Actors.{ActorCrew}
use Rattle.world_laws.specs.declared.member.Member.TheVariants.{Path}
use Rattle.world_laws.specs.Openings.{PathPlan, Start, opened_world, path_begins}
use Rattle.world_laws.specs.Promises.{written_by}
use Rattle.world_laws.specs.RoundDone.{reached}
use Rattle.world_laws.specs.Worlds.{Turn, WorldState}
use Rattle.world_laws.proofs.Rounds.Lifting.{opened_lifted}
use Rattle.world_laws.proofs.Weaving.WholeRounds.{run_append}
use Rattle.whole_paths.specs.AsFar.{stage}
use Rattle.whole_paths.specs.Directions.{OwesAlong}
use Rattle.whole_paths.specs.Directions.{Owing as owing}
use Rattle.whole_paths.specs.FewRecords.{IsFull, OpensOwingSegments, RecordsAreFull}
use Rattle.whole_paths.specs.FilesFit.{FitsFirstWindow}
use Rattle.whole_paths.specs.Finish.{IsPathAt, payload_of, segments}
use Rattle.whole_paths.specs.FullGrants.{HoldsAFullPiece}
use Rattle.whole_paths.specs.Kept.{IsSameRecord}
use Rattle.whole_paths.specs.Mending.{IsRecordOf}
use Rattle.whole_paths.specs.OnePathScripts.{BeginsWithOnePath}
use Rattle.whole_paths.specs.OpenFirst.{HasJustOpened, OpensByClearing}
use Rattle.whole_paths.specs.OpeningWaits.{IsAlive}
use Rattle.whole_paths.specs.Straying.{IsOpenFrom}
use Rattle.whole_paths.proofs.ByTurns.{Becomes, Of, OfFirst, each_step}
use Rattle.whole_paths.proofs.DataLeft.{EndsAreBegun, each_is_begun}
use Rattle.whole_paths.proofs.DataLast.{DataStands, data_always_stands}
use Rattle.whole_paths.proofs.DataPast.{opened_alone, past_before}
use Rattle.whole_paths.proofs.EarlyRecords.{all_lost, as_many, positions}
use Rattle.whole_paths.proofs.EdgesStay.{alive_before}
use Rattle.whole_paths.proofs.Exchanges.{Shown, each_shown}
use Rattle.whole_paths.proofs.FilesFit.{fits_as_it_asks}
use Rattle.whole_paths.proofs.Finishing.{MemberFinishes, turn_finishes}
use Rattle.whole_paths.proofs.FirstLost.{behind, has_some, left}
use Rattle.whole_paths.proofs.FullGrants.{each_grant_is_full, who_is_granted_asks}
use Rattle.whole_paths.proofs.Losing.{living_low}
use Rattle.whole_paths.proofs.OldRecords.{becomes_old}
use Rattle.whole_paths.proofs.OpenClears.{becomes_far, paths_open_by_clearing}
use Rattle.whole_paths.proofs.OpenCourses.{IsFirstPath, each_first}
use Rattle.whole_paths.proofs.OpenQuiet.{a_owes_records_first}
use Rattle.whole_paths.proofs.PositionCounts.{only_profile, positions_count_bytes}
use Rattle.whole_paths.specs.PositionCounts.{CountsBytes}
use Rattle.whole_paths.proofs.Reached.{EndsAreReached, Joined, Line, each_is_reached, joined_up}
use Rattle.whole_paths.proofs.SegmentRounds.{if_may_so, of_path, unfinished}
use Rattle.whole_paths.proofs.WrittenAtOnce.{what_fits_is_written_at_once}

-- ---- records stand one behind another

-- each ends where the last one does or before
ends_low : (nxt : ℕ) (rs : List Record) (from : ℕ) → Joined from nxt (map span_of rs) → (i : ℕ) (t : Record) → slice_get rs i ≡ Some t → end_of t ≤ nxt
ends_low nxt [] from h i t there = cc
ends_low nxt (r ∷ rs) from h zero t there = let low = joined_up rs (end_of r) nxt h.1 in let same = ap (λ (x : Record). end_of x) (same_Some r t there) in omega (arith, low, same)
ends_low nxt (r ∷ rs) from h (suc i) t there = ends_low nxt rs (end_of r) h.1 i t there

-- and before a later one
in_order : (nxt : ℕ) (rs : List Record) (from : ℕ) → Joined from nxt (map span_of rs) → (i j : ℕ) (r t : Record) → i < j → slice_get rs i ≡ Some r → slice_get rs j ≡ Some t → end_of r ≤ t.pos
in_order nxt [] from h i j r t low first later = cc
in_order nxt (x ∷ rs) from h i zero r t low first later = absurd (omega (arith, low))
in_order nxt (x ∷ rs) from h zero (suc j) r t low first later = let more = behind nxt rs (end_of x) h.1 j t later in let same = ap (λ (y : Record). end_of y) (same_Some x r first) in omega (arith, more, same)
in_order nxt (x ∷ rs) from h (suc i) (suc j) r t low first later = in_order nxt rs (end_of x) h.1 i j r t (omega (arith, low)) first later

-- from the position of the first one on
abbrev first_of : List Record → ℕ → ℕ
first_of [] nxt = nxt
first_of (r ∷ rs) nxt = r.pos

joined_so : (una nxt : ℕ) (rs : List Record) → Line una nxt (map span_of rs) → Joined (first_of rs nxt) nxt (map span_of rs)
joined_so una nxt [] line = refl
joined_so una nxt (r ∷ rs) line = (refl, line.2)

-- ---- how many there are

module _ (payload size nxt : ℕ) (some : 1 ≤ payload) (all : nxt ≤ suc size) where
  -- each of these is full, or the last one
  abbrev AllFull : List Record → Type 0
  AllFull rs = (i : ℕ) (r : Record) → slice_get rs i ≡ Some r → (r.pos < end_of r) × ((r.pos + payload ≤ end_of r) ⊎ (size < end_of r))

  -- all but the last hold so much, and that some
  few_so : (rs : List Record) (from : ℕ) → Joined from nxt (map span_of rs) → AllFull rs → length rs * payload + from < nxt + payload
  few_so [] from h full = omega (arith, h, some)
  few_so (r ∷ rs) from h full =
      let at = h.0 in let up = joined_up rs (end_of r) nxt h.1 in let one = full 0 r refl in let filled = one.0 in
      let rest = few_so rs (end_of r) h.1 (λ i x there. full (suc i) x there) in
      let more : length (r ∷ rs) * payload ≡ length rs * payload + payload = suc-mul (length rs) payload in
      ⊎_elim
      (λ whole. omega (arith, at, rest, more, whole))
      (λ past. none_behind rs (λ x others is. (let next = (subst (λ xs. Joined (end_of r) nxt (map span_of xs)) is h.1).0 in
      let second = full 1 x (ap (λ (xs : List Record). slice_get xs 0) is) in let wide = second.0 in
      let end = ends_low nxt rs (end_of r) h.1 0 x (ap (λ (xs : List Record). slice_get xs 0) is) in omega (arith, next, wide, end, past, all)))
      (λ is. (let none : length rs ≡ 0 = ap (λ (xs : List Record). length xs) is in let zero_of : length rs * payload ≡ 0 = ap (λ n. n * payload) none ∙ zero-mul payload in omega (arith, at, up, filled, more, zero_of))))
      one.1
    where
      none_behind : {X : Type 0} (xs : List Record) → ((x : Record) (others : List Record) → xs ≡ x ∷ others → ⊥) → (xs ≡ [] → X) → X
      none_behind [] some none = none refl
      none_behind (x ∷ others) some none = absurd (some x others refl)

-- as many as a file of this size has segments
segments_so : (payload size count from nxt : ℕ) → 1 ≤ payload → nxt ≤ suc size → 1 ≤ from → count * payload + from < nxt + payload → count ≤ div_ceil size payload
segments_so payload size count from nxt some all begins low = ⊎_elim (λ more. absurd (too_many more)) (λ few. few) (cases_lt (div_ceil size payload) count)
  where
    ceil : size ≤ div_ceil size payload * payload
    ceil = (div_ceil_times size payload some).0

    too_many : div_ceil size payload < count → ⊥
    too_many more =
        let product = mul-le-mul_right payload more in let step = suc-mul (div_ceil size payload) payload in
        let whole = ceil in omega (arith, product, step, whole, low, all, begins)

-- ---- by turns

module _ (start : Start) (plan : PathPlan) (x : BeginsWithOnePath start plan) (s : Side) (fits : FitsFirstWindow start s) where
  abbrev size : ℕ
  size = length (pick s start.file_a start.file_b)

  abbrev EachFull : PathState Carried → Type 0
  EachFull p = IsAlive p → (end_at s p).tcp.send.finished ≡ false → (r : Record) → IsRecordOf (end_at s p) r → IsFull p.profile size r

  profile_at : (turns : List Turn) (p : PathState Carried) → IsPathAt 0 (reached values start turns) p → p.profile ≡ (path_begins start 0 plan).profile
  profile_at turns p here = of_path start x.mild turns p (λ z. z.profile ≡ (path_begins start 0 plan).profile) here (only_profile start plan turns x.one x.mild 2 here.crew here.there)

  shown_at : (turns : List Turn) (p : PathState Carried) → IsPathAt 0 (reached values start turns) p → Shown p
  shown_at turns p here = of_path start x.mild turns p Shown here (each_shown start turns x.mild.plain.size x.mild.fit 2 here.crew here.there)

  joined_at : (turns : List Turn) (p : PathState Carried) → IsPathAt 0 (reached values start turns) p
      → Joined (first_of (end_at s p).tcp.send.records (end_at s p).tcp.send.nxt) (end_at s p).tcp.send.nxt (map span_of (end_at s p).tcp.send.records)
  joined_at turns p here = let lined = (of_path start x.mild turns p EndsAreReached here ((each_is_reached values start turns).each 2 here.crew here.there) s).lined in
      joined_so (end_at s p).tcp.send.una (end_at s p).tcp.send.nxt (end_at s p).tcp.send.records lined.line

  module _ (turns : List Turn) (turn : Turn) (p q : PathState Carried) (here : IsPathAt 0 (reached values start turns) p) (there : IsPathAt 0 (reached values start (turns ++ turn ∷ [])) q)
      (becomes : Becomes values p q) (was : EachFull p) (alive : IsAlive q) (unsent : (end_at s q).tcp.send.finished ≡ false) where
    abbrev w : WorldState Carried
    w = reached values start turns

    alive_p : IsAlive p
    alive_p = alive_before p q (becomes_far p q becomes) alive

    finishes : MemberFinishes (Path p) (Path q)
    finishes =
        let found = turn_finishes values w turn 2 here.crew here.there in
        let crew : found.0 ≡ there.crew = same_Some found.0 there.crew (sym found.1 ∙ subst (λ (v : WorldState Carried). slice_get v.crew 2 ≡ Some there.crew) (run_append values turns (turn ∷ []) (opened_world start)) there.there) in
        subst (λ m. MemberFinishes (Path p) m) there.is (subst (λ m. MemberFinishes m there.crew.member) here.is (subst (λ (d : ActorCrew Carried). MemberFinishes here.crew.member d.member) crew found.2))

    unsent_p : (end_at s p).tcp.send.finished ≡ false
    unsent_p = by (end_at s p).tcp.send.finished refl
      where
        by : (b : Bool) → (end_at s p).tcp.send.finished ≡ b → b ≡ false
        by false is = refl
        by true is = absurd (both_ways (end_at s q).tcp.send.finished unsent ((finishes s).kept is))

    same_profile : q.profile ≡ p.profile
    same_profile = profile_at (turns ++ turn ∷ []) q there ∙ sym (profile_at turns p here)

    old_one : (t r : Record) → IsSameRecord r t → IsFull p.profile size r → IsFull q.profile size t
    old_one t r same h =
        let pos = same.pos in let ends : end_of t ≡ end_of r = rw (same.pos, same.kind, same.piece) refl in
        let payload : payload_size q.profile ≡ payload_size p.profile = ap (λ (c : Profile). payload_size c) same_profile in
        ⊎_elim (λ syn. inl (omega (arith, syn, pos))) (λ rest. inr (⊎_elim (λ full. inl (omega (arith, full, pos, ends, payload))) (λ past. inr (omega (arith, past, ends))) rest)) h

    records_at : (t : Record) (has : IsRecordOf (end_at s q) t) → slice_get (end_at s q).tcp.send.records has.at ≡ Some t
    records_at t has = subst (λ y. slice_get (end_at s q).tcp.send.records has.at ≡ Some y) has.holds has.there

    wide : (t : Record) → IsRecordOf (end_at s q) t → t.pos < end_of t
    wide t has = has_some s q (shown_at (turns ++ turn ∷ []) q there) t has

    within : (t : Record) → IsRecordOf (end_at s q) t → end_of t ≤ (end_at s q).tcp.send.nxt
    within t has = ends_low (end_at s q).tcp.send.nxt (end_at s q).tcp.send.records _ (joined_at (turns ++ turn ∷ []) q there) has.at t (records_at t has)

    -- ---- what is granted

    module _ (g : HoldsAFullPiece p.profile (written_by s w) (end_at s p).tcp.send.nxt (end_at s q)) where
      piece_ends : end_of g.piece ≡ g.piece.pos + length g.piece.piece
      piece_ends = ap (λ k. g.piece.pos + occupied k g.piece.piece) g.kind

      grows : (end_at s q).tcp.send.nxt ≡ (end_at s p).tcp.send.nxt → ⊥
      grows same = let some = wide g.piece g.there in let at = g.pos in let last = g.last in omega (arith, same, some, at, last)

      past_then : 3 ≤ stage (end_at s p).tcp.state
      past_then = past_before start x.mild turns turn p q here there becomes s g.piece g.there g.kind

      before_edge : size ≤ (written_by s w).edge
      before_edge = ⊎_elim (λ same. absurd (grows same)) (λ asks. fits_as_it_asks start plan x turns p here alive_p s fits (let past = past_then in omega (arith, past)) asks.0 asks.1)
          (who_is_granted_asks start plan turns turn x.one x.mild p q here there s unsent)

      all_written : length (written_by s w).written ≡ size
      all_written = ⊎_elim (λ none. absurd (let some = wide g.piece g.there in let part = g.part in let ends = piece_ends in omega (arith, none, some, part, ends))) (λ all. all)
          (what_fits_is_written_at_once values start turns s x.mild.fit (let room = fits.buffer in omega (arith, room)))

      piece_full : IsFull q.profile size g.piece
      piece_full =
          let payload : payload_size q.profile ≡ payload_size p.profile = ap (λ (c : Profile). payload_size c) same_profile in let at = g.pos in
          let edge = before_edge in let all = all_written in
          inr (⊎_elim (λ full. inl (omega (arith, full, at, payload))) (λ past. inr (omega (arith, past, edge, all))) g.full)

      -- a record that begins there is it
      is_piece : (t : Record) → IsRecordOf (end_at s q) t → (end_at s p).tcp.send.nxt ≤ t.pos → g.piece ≡ t
      is_piece t has late = ⊎_elim
          (λ before. absurd (let ends = in_order nxt rs _ joined has.at g.there.at t g.piece before (records_at t has) (records_at g.piece g.there) in let at = g.pos in let some = wide t has in omega (arith, ends, at, some, late)))
          (λ rest. ⊎_elim
          (λ after. absurd (let ends = in_order nxt rs _ joined g.there.at has.at g.piece t after (records_at g.piece g.there) (records_at t has) in let last = g.last in let some = wide t has in let low = within t has in omega (arith, ends, last, some, low)))
          (λ most. same_Some g.piece t (sym (records_at g.piece g.there) ∙ (ap (λ i. slice_get rs i) (omega (arith, rest, most)) ∙ records_at t has)))
          (cases_lt g.there.at has.at))
          (cases_lt has.at g.there.at)
        where
          rs : List Record
          rs = (end_at s q).tcp.send.records

          nxt : ℕ
          nxt = (end_at s q).tcp.send.nxt

          joined : Joined (first_of rs nxt) nxt (map span_of rs)
          joined = joined_at (turns ++ turn ∷ []) q there

    full_then : (t : Record) → IsRecordOf (end_at s q) t → IsFull q.profile size t
    full_then t has = ⊎_elim
        (λ was_there. old_one t was_there.item was_there.holds (was alive_p unsent_p was_there.item (record { at = was_there.at; item = was_there.item; there = was_there.there; holds = refl })))
        (λ late. ⊎_elim
        (λ same. absurd (let some = wide t has in let low = within t has in omega (arith, same, some, low, late)))
        (λ g. subst (λ r. IsFull q.profile size r) (is_piece g t has late) (piece_full g))
        (each_grant_is_full start plan turns turn x.one x.mild p q here there s unsent))
        ((becomes_old values p q becomes s).each has.at t (records_at t has))

  opened_full : OfFirst EachFull (opened_world start)
  opened_full = record { each = λ c there. (opened_lifted (λ c. Of EachFull c.member) start tt tt (λ number plan at alive unsent r has. inl (ap (λ (y : Record). y.pos) (opened_alone start number plan s r has)))).each 2 c there }

  pub full_at : (turns : List Turn) (p : PathState Carried) → IsPathAt 0 (reached values start turns) p → EachFull p
  full_at turns p here = subst (Of EachFull) here.is ((each_step values start EachFull opened_full (λ turns turn p q here there becomes h alive unsent. full_then turns turn p q here there becomes h alive unsent) turns).each here.crew here.there)

pub records_are_full : RecordsAreFull
records_are_full start plan turns s x fits p here alive unsent = full_at start plan x s fits turns p here alive unsent

-- ---- as path 0 opens

module _ (start : Start) (plan : PathPlan) (x : BeginsWithOnePath start plan) (fits : FitsFirstWindow start A) (turns : List Turn) (p : PathState Carried) (here : IsPathAt 0 (reached values start turns) p)
    (is_open : IsOpenFrom B p) (may : may_finish p.a.tcp.state ≡ true) where
  unsent : p.a.tcp.send.finished ≡ false
  unsent = unfinished start x.mild turns p here A may

  first : IsFirstPath start p
  first = of_path start x.mild turns p (IsFirstPath start) here (each_first start turns x.mild.plain.size here.crew here.there)

  begun : 1 ≤ p.a.tcp.send.una
  begun = (of_path start x.mild turns p EndsAreBegun here ((each_is_begun values start turns).each 2 here.crew here.there) A).past (is_open.past A) (living_low p.a.tcp.state (is_open.living A))

  -- none stands at position 0
  none_first : (r : Record) → IsRecordOf p.a r → r.pos ≡ 0 → ⊥
  none_first r has at = by r.kind refl
    where
      there : slice_get p.a.tcp.send.records has.at ≡ Some r
      there = has.there ∙ ap Some has.holds

      by : (k : RecordKind) → r.kind ≡ k → ⊥
      by kinds.Data is = let stands = of_path start x.mild turns p DataStands here ((data_always_stands start turns x.mild.plain.size).each 2 here.crew here.there) in
          let behind = ((stands A).each has.at r there is).behind in omega (arith, behind, at)
      by kinds.Syn is =
          let end : end_of r ≡ r.pos + 1 = ap (λ k. r.pos + occupied k r.piece) is in
          let more = left A p (of_path start x.mild turns p EndsAreReached here ((each_is_reached values start turns).each 2 here.crew here.there)) (shown_at start plan x A fits turns p here) r has in
          let some = begun in omega (arith, end, more, some, at)
      by kinds.Fin is = (first.kinds A unsent).each has.at r there is

  each_full : (i : ℕ) (r : Record) → slice_get p.a.tcp.send.records i ≡ Some r → (r.pos < end_of r) × ((r.pos + payload_of plan.mss ≤ end_of r) ⊎ (length start.file_a < end_of r))
  each_full i r there =
      let has : IsRecordOf p.a r = record { at = i; item = r; there = there; holds = refl } in
      let wide = has_some A p (shown_at start plan x A fits turns p here) r has in
      let mss : p.profile.mss ≡ plan.mss = ap (λ (c : Profile). c.mss) (profile_at start plan x A fits turns p here) in (
        wide,
        ⊎_elim (λ syn. absurd (none_first r has syn)) (λ rest. ⊎_elim (λ full. inl (omega (arith, full, mss, wide))) (λ past. inr past) rest)
            (full_at start plan x A fits turns p here (record { living = is_open.living }) unsent r has),
      )

  next_low : p.a.tcp.send.nxt ≤ suc (length start.file_a)
  next_low =
      let counts : CountsBytes (reached values start turns) p A = of_path start x.mild turns p (λ z. (t : Side) → CountsBytes (reached values start turns) z t) here ((positions_count_bytes start turns plan x.one x.mild).each 2 here.crew here.there) A in
      let low = counts.within unsent in
      ⊎_elim (λ none. omega (arith, none, low)) (λ all. omega (arith, all, low)) (what_fits_is_written_at_once values start turns A x.mild.fit (let room = fits.buffer in omega (arith, room)))

  few_records : length p.a.tcp.send.records ≤ segments plan.mss (length start.file_a)
  few_records = by p.a.tcp.send.records refl (joined_at start plan x A fits turns p here) each_full
    where
      by : (rs : List Record) → p.a.tcp.send.records ≡ rs → Joined (first_of rs p.a.tcp.send.nxt) p.a.tcp.send.nxt (map span_of rs)
          → ((i : ℕ) (r : Record) → slice_get rs i ≡ Some r → (r.pos < end_of r) × ((r.pos + payload_of plan.mss ≤ end_of r) ⊎ (length start.file_a < end_of r)))
          → length rs ≤ segments plan.mss (length start.file_a)
      by [] is joined full = omega arith
      by (r ∷ rs) is joined full = segments_so (payload_of plan.mss) (length start.file_a) (length (r ∷ rs)) r.pos p.a.tcp.send.nxt (omega arith) next_low
          (⊎_elim (λ none. absurd (none_first r (record { at = 0; item = r; there = ap (λ (xs : List Record). slice_get xs 0) is; holds = refl }) (omega (arith, none)))) (λ some. some) (cases_lt r.pos 1))
          (few_so (payload_of plan.mss) (length start.file_a) p.a.tcp.send.nxt (omega arith) next_low (r ∷ rs) r.pos joined full)

pub opens_owing_segments : OpensOwingSegments
opens_owing_segments start plan turns x fits h = by (paths_open_by_clearing start plan turns x h)
  where
    Owes : List Turn → Type 0
    Owes ts = (debts : ℕ) × OwesAlong start A debts ts × (debts ≤ segments plan.mss (length start.file_a))

    by : OpensByClearing start turns → (debts : ℕ) × OwesAlong start A debts turns × (debts ≤ segments plan.mss (length start.file_a))
    by c = subst (λ ts. HasJustOpened start ts → (debts : ℕ) × OwesAlong start A debts ts × (debts ≤ segments plan.mss (length start.file_a))) (sym c.is)
        (λ now. let q : PathState Carried = now.now.path in
        if_may_so start x.mild ((debts : ℕ) × OwesAlong start A debts (c.before ++ c.turn ∷ []) × (debts ≤ segments plan.mss (length start.file_a))) (c.before ++ c.turn ∷ []) q now.now.here A (now.now.is_open.past A) (now.now.is_open.living A)
        (λ all. (0, record { path = q; here = now.now.here; owing = owing.all_there all }, omega arith))
        (λ may. (
          length (positions start plan x q),
          a_owes_records_first start plan c.before c.turn x c.path c.here c.unclear now.now (positions start plan x q) (all_lost start plan x q),
          (let few = few_records start plan x fits (c.before ++ c.turn ∷ []) q now.now.here now.now.is_open may in let same = as_many start plan x q in omega (arith, few, same)),
        ))) h
