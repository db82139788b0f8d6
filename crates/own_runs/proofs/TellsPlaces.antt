-- What each segment of a trace maps and bears, whatever its script does: each finite mapping lies within its side's file, gives its positions the places
-- that they have at the end of the run, and has the checksum of the octets of these places, and each payload has these octets. So does an infinite mapping
-- give the positions behind it their places, or it stands behind the FIN (RFC 8684, section 3.7).
use Rattle.std.proofs.Common.{◌≡◌, refl, sym, ap, ◌∙◌, subst, ℕ, zero, suc, ◌+◌, ◌-◌, ◌≤◌, ◌<◌, ◌^◌, ◌⊎◌, not, inl, inr, ⊎_elim, Bool, true, false, if◌then◌else◌, Option, Some, None, List, [], ◌++◌, length, length-append, take, drop, arith}
use Rattle.std.specs.Prelude.{get_or}
use Rattle.std.specs.Option.{IfSome}
use Rattle.std.specs.List.{slice_get}
use Rattle.std.proofs.lemmas.Bool.{both_ways, false≢true}
use Rattle.std.proofs.lemmas.List.{get_or-drop, get_or-take}
use Rattle.actor_desk.specs.Books.{books_in}
use Rattle.actor_desk.specs.Desk.{SixBooks}
use Rattle.actor_desk.specs.Words.{pick}
use Rattle.judge_rules.specs.Numbers.{first_number}
use Rattle.octet_text.specs.Prefix.{IsPrefix}
use Rattle.path_core.specs.DssOut.{place_numbered}
use Rattle.path_core.specs.End.{PathEnd}
use Rattle.path_core.specs.Looking.{first_sends, segment_sent}
use Rattle.path_core.specs.Octets.{octets}
use Rattle.path_core.specs.Profile.{Profile}
use Rattle.path_core.specs.Said.{said_by}
use Rattle.path_core.specs.Shown.{shown_path}
use Rattle.path_core.specs.State.{end_at, PathState, path_of}
use Rattle.path_core.specs.Values.{Carried, values}
use Rattle.path_segments.specs.Spelled.{PlainSegment}
use Rattle.path_store.specs.declared.infinite_mapping.InfiniteMapping.{InfiniteMapping}
use Rattle.send_book.specs.State.{Sending}
use Rattle.sides.specs.declared.side.Side.TheVariants.{A, B}
use Rattle.sides.specs.declared.side.Side.{Side}
use Rattle.stream_lanes.proofs.Duos.{any_held}
use Rattle.stream_lanes.proofs.Lists.{in_map}
use Rattle.stream_lanes.specs.Duo.{Duo, flags_ab, flags_ba}
use Rattle.stream_lanes.specs.Holding.{Holds, LaneHolds}
use Rattle.stream_lanes.specs.Lane.{Lane}
use Rattle.stream_lanes.specs.View.{View, end_of, view_of}
use Rattle.stream_lanes.specs.Words.{Every}
use Rattle.subflow_send.specs.Records.{Record}
use Rattle.subflow_send.specs.declared.record.RecordKind.TheVariants.{Syn, Data, Fin}
use Rattle.subflow_send.specs.declared.record.RecordKind.{RecordKind}
use Rattle.subflow_tcp.specs.Emitting.{fin_position}
use Rattle.world_laws.proofs.Lanes.Answering.{BeginsFirst}
use Rattle.world_laws.proofs.Lanes.OfAWorld.{Carries as MayCarry, NoneIsFirm, PathIsSteady, PathThere, Reached, WorldShows, anyhow, anyhow_free, duo_of, free_run, plainly, plainly_free}
use Rattle.world_laws.proofs.Lanes.Showing.{EndShows, IsPiece, KindShows, OwnIs, PairTold}
use Rattle.world_laws.proofs.Numbers.EveryTurn.{always_tells}
use Rattle.world_laws.proofs.Numbers.PathSteps.{PathTells}
use Rattle.world_laws.proofs.Numbers.TellSmall.{EndTells, RecordKindTells}
use Rattle.world_laws.proofs.Promises.Made.{run_fresh}
use Rattle.world_laws.proofs.Worlds.CastLifting.{each_actor, path_actor, writes_the_files}
use Rattle.world_laws.proofs.Worlds.Casts.{Walker, walking}
use Rattle.world_laws.proofs.Worlds.Steady.{always_steady}
use Rattle.world_laws.specs.Actors.{Actor, ActorCrew}
use Rattle.world_laws.specs.Fresh.{shown_crew, shown_member}
use Rattle.world_laws.specs.Laws.{WritesTheFile}
use Rattle.world_laws.specs.Openings.{Start, path_begins, opened_world}
use Rattle.world_laws.specs.Promises.{HasRoom, IsPlain, NumbersFit}
use Rattle.world_laws.specs.Worlds.{WorldState, Turn, world_run}
use Rattle.world_laws.specs.declared.member.Member.TheVariants.{App, Path}
use Rattle.own_runs.proofs.Bearing.{Carries, RecordsCarry, first_carries}
use Rattle.own_runs.proofs.EndMaps.{IsMapped, LineAt, LineOn, content, end_told, file_len, kind_so, known_so, lane_of, upto_of}
use Rattle.own_runs.proofs.FineMoments.{BorneOn, IsBorne}
use Rattle.own_runs.proofs.LastLanes.{AtLast, alone_so, at_last, either_plain, fin_line, pair_line, plain_line}
use Rattle.own_runs.proofs.MapPlaces.{first_at, place_on, sits}
use Rattle.own_runs.proofs.MapPositions.{Bears}
use Rattle.own_runs.proofs.Moments.{MemberAlso, PathAlso, WorldAlso, end_shown, first_same}
use Rattle.own_runs.proofs.Offering.{AllFine, EndFine, PlainFine, first_fine_sent}
use Rattle.own_runs.proofs.Own.{own_key}
use Rattle.own_runs.proofs.PiecesTold.{IsPart, PieceOf, always_pieces}
use Rattle.own_runs.proofs.Reached.{EachReaches, duo_at, run_reaches}
use Rattle.own_runs.proofs.SentGrows.{Grows, Longer}
use Rattle.own_runs.proofs.Speaking.{ToSend}
use Rattle.own_runs.proofs.Values.{drawn}

-- ---- by the lanes of the last moment

module _ (start : Start) (last : Duo) where
  -- a payload, at positions that the lane has
  abbrev pub Bearing : ℕ → Side → PlainSegment → Type 0
  Bearing path s sg = IsBorne start last path s sg.position sg.payload × (sg.position + length sg.payload ≤ suc (upto_of (lane_of last path s)))

-- each option of a segment maps such, an infinite mapping, too, of which so much is known, and MP_FAIL is told where so much holds
module _ (start : Start) (Told : Duo → ℕ → Side → ℕ → ℕ → Type 0) (Fails : Type 0) (last : Duo) where
  abbrev pub Tells : ℕ → Side → PlainSegment → Type 0
  Tells path s sg = AllFine (file_len start) (IsMapped start last path) (LineAt start Told last path) Fails s sg.options × Carries (Bearing start last path) s sg

-- So much is known of the infinite mappings of this moment: in plain TCP of that of each position, where a side fell back on path 0 and no join was ever
-- answered; and of an end's own one, where links may alter payload.
pub record LinesKnown (Told : Duo → ℕ → Side → ℕ → ℕ → Type 0) (alters : Bool) (last : Duo) (v : WorldState Carried) : Type 0 where
  pub plain : (n : ℕ) (x : Walker Carried) → slice_get v.crew (suc (suc n)) ≡ Some (walking x) → (s : Side) → n ≡ 0 → (end_at s x.path).modes.identity ≡ true
      → not last.modes.answered ≡ true → (position : ℕ) → 1 ≤ position → Told last n s (position - 1) position
  pub own : (n : ℕ) (x : Walker Carried) → slice_get v.crew (suc (suc n)) ≡ Some (walking x) → alters ≡ true → (s : Side) (m : InfiniteMapping)
      → (end_at s x.path).modes.own_infinite ≡ Some m → Told last n s m.place m.position

-- ---- a path at a moment

-- links that alter payload only where MP_FAIL may be told
module _ (start : Start) (can : MayCarry start) (Told : Duo → ℕ → Side → ℕ → ℕ → Type 0) (Fails : Type 0) (failing : can.links.alters ≡ true → Fails) (turns : List Turn) (size : HasRoom start) (fit : NumbersFit start) (last : Duo)
    (q : Reached can.links start (world_run values turns (opened_world start))) (grown : Grows (duo_at start can (world_run values turns (opened_world start)) q) last) (ended : AtLast start last)
    (lines : LinesKnown Told can.links.alters last (world_run values turns (opened_world start))) where
  abbrev v : WorldState Carried
  v = world_run values turns (opened_world start)

  held : Holds (duo_at start can v q)
  held = any_held can.links.alters can.links.checked (length start.paths) start.buffer start.buffer q.events

  abbrev h : WorldShows can.links start (duo_at start can v q) v
  h = q.shows

  abbrev six : SixBooks
  six = books_in h.cast.books

  abbrev duo : Duo
  duo = duo_of can.links six h.lanes_ab h.lanes_ba h.reader_a h.reader_b

  holds : Holds duo
  holds = subst Holds h.duo_is held

  grows : Grows duo last
  grows = subst (λ (d : Duo). Grows d last) h.duo_is grown

  writes_a : WritesTheFile start.file_a six.send_a
  writes_a = subst (λ (w : WorldState Carried). WritesTheFile start.file_a (books_in w.books).send_a) h.is (writes_the_files values start turns).a

  writes_b : WritesTheFile start.file_b six.send_b
  writes_b = subst (λ (w : WorldState Carried). WritesTheFile start.file_b (books_in w.books).send_b) h.is (writes_the_files values start turns).b

  file_length : (file written : List ℕ) → IsPrefix written file → length written ≤ length file
  file_length file written begins_so = let same = ap length begins_so.whole_is in omega (arith, same, length-append written begins_so.rest)

  module _ (n : ℕ) (x : Walker Carried) (at : slice_get h.cast.paths n ≡ Some x) where
    abbrev p : PathState Carried
    p = x.path

    abbrev there : PathThere start h.lanes_ab h.lanes_ba n p
    there = h.paths.each n n x (omega arith) at

    abbrev c : Profile
    c = (path_begins start n there.plan).profile

    here : slice_get v.crew (suc (suc n)) ≡ Some (walking x)
    here = subst (λ (w : WorldState Carried). slice_get w.crew (suc (suc n)) ≡ Some (walking x)) (sym h.is) (path_actor h.cast n x at)

    told : PathTells c p
    told = (always_tells start turns size fit).members (suc (suc n)) (walking x) here there.plan there.plan_there

    is_steady : PathIsSteady (books_in v.books) n p
    is_steady = (always_steady start turns).each n (walking x) here

    steady : n ≡ 0 → six.control_b.fall.joined ≡ true → p.a.modes.clear ≡ true
    steady = subst (λ (w : WorldState Carried). n ≡ 0 → (books_in w.books).control_b.fall.joined ≡ true → p.a.modes.clear ≡ true) h.is is_steady.clear

    -- plain TCP runs on path 0
    first_path : (s : Side) → (end_at s p).modes.identity ≡ true → n ≡ 0
    first_path s fell = by n is_steady.mode
      where
        by : (number : ℕ) → ((m : ℕ) → number ≡ suc m → (s : Side) → (end_at s p).modes.identity ≡ false) → number ≡ 0
        by zero none = refl
        by (suc m) none = absurd (both_ways (end_at s p).modes.identity (none m refl s) fell)

    -- an end, by what it shows on its lanes
    module _ (s : Side) (e : PathEnd) (out back : Lane) (view : View) (shown : EndShows c s e out back) (hold : LaneHolds view n out) (tells : EndTells c s e)
        (begins : IsPrefix view.written (pick s start.file_a start.file_b)) (ends : (k : ℕ) → view.end ≡ Some k → k ≡ file_len start s)
        (later : Lane) (later_there : lane_of last n s ≡ Some later) (longer : Longer out later) (first_is : BeginsFirst s e out)
        (pieces : Every (IsPart c s (pick s start.file_a start.file_b)) e.tcp.send.records) (alters : out.alters ≡ can.links.alters)
        (view_last : View) (hold_last : LaneHolds view_last n later) (most : length view_last.written ≤ file_len start s) (closed : (k : ℕ) → view_last.end ≡ Some k → k ≡ file_len start s)
        (alone : e.modes.identity ≡ true → view_last.alone ≡ true) (plain_told : e.modes.identity ≡ true → (position : ℕ) → 1 ≤ position → Told last n s (position - 1) position)
        (own_told : can.links.alters ≡ true → (m : InfiniteMapping) → e.modes.own_infinite ≡ Some m → Told last n s m.place m.position) where
      abbrev first : ℕ
      first = first_number (own_key (drawn start) s)

      -- the octet of a position
      abbrev octet_at : ℕ → ℕ
      octet_at p = content start s (place_on later p)

      -- what a record bears: its piece is that part of the file
      part_bears : (r : Record) → IsPiece c s out.alters out.sent out.datas r → RecordKindTells c s Data r
          → r.piece ≡ take (length r.piece) (drop (place_numbered c s r.mapping.number) (pick s start.file_a start.file_b)) → Bears octet_at r.pos r.piece
      part_bears r is kept part j below =
          let place = place_numbered c s r.mapping.number in
          let same = kept.4 in
          ap (λ (octets : List ℕ). get_or octets j 0) part
          ∙ get_or-take (length r.piece) (drop place (pick s start.file_a start.file_b)) j 0 below
          ∙ get_or-drop place (pick s start.file_a start.file_b) j 0
          ∙ ap (content start s) (sym (sits view n out later hold longer place r.pos r.mapping.length is.mapping j (omega (arith, below, same))))

      carries_so : (kind : RecordKind) (r : Record) → KindShows c s out.alters out.sent out.datas out.fins kind r → RecordKindTells c s kind r → r.pos + length r.piece < 2 ^ 31
          → PieceOf c s (pick s start.file_a start.file_b) kind r → (r.piece ≡ []) ⊎ (IsBorne start last n s r.pos r.piece × (r.pos + length r.piece ≤ suc (upto_of (lane_of last n s))))
      carries_so Syn r is kept few part = inl is
      carries_so Fin r is kept few part = inl is.0
      carries_so Data r is kept few part =
          inr (
            subst (λ (o : Option Lane). BorneOn (content start s) o r.pos r.piece) (sym later_there) (few, part_bears r is kept part),
            let within = is.summed.within in let same = kept.4 in let more = ap length longer.is in
                subst (λ (o : Option Lane). r.pos + length r.piece ≤ suc (upto_of o)) (sym later_there) (omega (arith, within, same, more, length-append out.sent longer.more)),
          )

      -- its infinite mappings
      on_last : (place position : ℕ) → LineOn (Some later) (file_len start s) place position → LineOn (lane_of last n s) (file_len start s) place position
      on_last place position is = subst (λ (o : Option Lane). LineOn o (file_len start s) place position) (sym later_there) is

      told_line : (place position : ℕ) → PairTold out.pairs out.fins place position → LineOn (lane_of last n s) (file_len start s) place position
      told_line place position (inl has) =
          let line = pair_line view_last n later hold_last (file_len start s) most closed has.at has.item (longer.says.pairs has.at has.item has.there) in
          on_last place position (subst (λ (q : ℕ). LineOn (Some later) (file_len start s) place q) has.holds.position_is (subst (λ (q : ℕ). LineOn (Some later) (file_len start s) q (suc has.item.pos)) has.holds.place_is line))
      told_line place position (inr has) = on_last place position (fin_line view_last n later hold_last (file_len start s) has.at has.item (longer.says.fins has.at has.item has.there) place position has.holds)

      own_line : (o : Option InfiniteMapping) → e.modes.own_infinite ≡ o → IfSome o (OwnIs out.pair out.pairs out.fins out.alters) → IfSome o (λ m. LineAt start Told last n s m.place m.position)
      own_line None e is = tt
      own_line (Some m) e is = (told_line m.place m.position is.told, own_told (sym alters ∙ is.may) m e)

      plain_at : e.modes.identity ≡ true → (position : ℕ) → 1 ≤ position → LineAt start Told last n s (position - 1) position
      plain_at fell position some =
          (on_last (position - 1) position (plain_line view_last n later hold_last (file_len start s) closed (alone fell) position some), plain_told fell position some)

      record_line : (kind : RecordKind) (r : Record) → KindShows c s out.alters out.sent out.datas out.fins kind r → PlainFine (file_len start) (IsMapped start last n) (LineAt start Told last n) Fails s e.modes.identity kind r
      record_line Syn r is fell not_syn = absurd (false≢true (sym not_syn))
      record_line Data r is fell not_syn = plain_at fell r.pos (let at = is.octets.holds.position_is in omega (arith, at))
      record_line Fin r is fell not_syn = plain_at fell r.pos (let at = is.1.holds in omega (arith, at))

      behind_first : 1 ≤ fin_position e.tcp.send
      behind_first = by e.tcp.send.finished refl
        where
          by : (b : Bool) → e.tcp.send.finished ≡ b → 1 ≤ (if b then e.tcp.send.nxt - 1 else e.tcp.send.nxt)
          by true is = let has = shown.sender.sent.fin is in let at = has.holds in omega (arith, at)
          by false is = let next = shown.sender.sent.next is in omega (arith, next)

      may_fail : {X : Type 0} → (o : Option X) → IfSome o (λ _. out.alters ≡ true) → IfSome o (λ _. Fails)
      may_fail None is = tt
      may_fail (Some x) is = failing (sym alters ∙ is)

      end_so : EndFine (file_len start) (IsMapped start last n) (LineAt start Told last n) Fails c s e
      end_so = record {
        fins = λ fell. plain_at fell (fin_position e.tcp.send) behind_first;
        infinite = own_line e.modes.own_infinite refl shown.pairs.0;
        told = may_fail e.modes.failed_mapping shown.pairs.4;
        telling = may_fail e.treated.failed_mapping shown.pairs.5;
        known = known_so start last n there.plan s e out back view shown hold begins ends later later_there longer first_is (LineAt start Told last n) Fails;
        ends = λ place is. end_told start last n there.plan s e out back view shown hold begins ends later later_there longer first_is (LineAt start Told last n) Fails place;
        records = record {
          each = λ i r there_one. (
            kind_so start last n there.plan s e out back view shown hold begins ends later later_there longer first_is (LineAt start Told last n) Fails r.kind r (shown.sender.pieces.each i r there_one)
                (tells.sender.records.each i r there_one).mapped,
            record_line r.kind r (shown.sender.pieces.each i r there_one),
          );
        };
      }

      bears_so : RecordsCarry (Bearing start last n) c s e
      bears_so = record {
        each = λ i r there_one.
            let told = tells.sender.records.each i r there_one in
            let reaches = told.reaches in
            carries_so r.kind r (shown.sender.pieces.each i r there_one) told.mapped (omega (arith, reaches)) (pieces.each i r there_one);
      }

    -- where a stream is closed its file was written
    closed_so : (file : List ℕ) (b : Sending) → (b.closed ≡ true → b.written ≡ file) → (k : ℕ) → end_of b ≡ Some k → k ≡ length file
    closed_so file b whole k is = by b.closed whole is
      where
        by : (closed : Bool) → (closed ≡ true → b.written ≡ file) → (if closed then Some (length b.written) else None) ≡ Some k → k ≡ length file
        by true whole is = let same : length b.written ≡ k = cc in sym same ∙ ap length (whole refl)
        by false whole is = cc

    own_pieces : (s : Side) → Every (IsPart c s (pick s start.file_a start.file_b)) (end_at s p).tcp.send.records
    own_pieces s =
        let short_a = fit.short_a in let short_b = fit.short_b in
        subst (λ (d : Profile). Every (IsPart d s (pick s start.file_a start.file_b)) (end_at s p).tcp.send.records) there.shows.profile
        (always_pieces start (omega (arith, short_a)) (omega (arith, short_b)) turns (suc (suc n)) (walking x) here s)

    first_a : BeginsFirst A p.a there.ab
    first_a own unclear place len has =
        let hold = holds.ab.lanes.each n n there.ab (omega arith) there.ab_there in
        first_at _ n six.control_b.fall.joined p there.ab there.ba refl hold steady there.stands unclear place len has

    -- the lanes of the last moment
    last_ab : (later : Lane) → slice_get last.ab.lanes n ≡ Some later → LaneHolds (view_of (flags_ab last.modes) last.ab.send last.ab.arrived) n later
    last_ab later at = ended.holds.ab.lanes.each n n later (omega arith) at

    last_ba : (later : Lane) → slice_get last.ba.lanes n ≡ Some later → LaneHolds (view_of (flags_ba last.modes) last.ba.send last.ba.arrived) n later
    last_ba later at = ended.holds.ba.lanes.each n n later (omega arith) at

    fell_so : (duo.modes.plain_a ≡ true) ⊎ (duo.modes.plain_b ≡ true) → not last.modes.answered ≡ true
    fell_so fell = alone_so last ended.holds (⊎_elim (λ a. inl (grows.plain.a a)) (λ b. inr (grows.plain.b b)) fell)

    swapped : (duo.modes.plain_b ≡ true) ⊎ (duo.modes.plain_a ≡ true) → (duo.modes.plain_a ≡ true) ⊎ (duo.modes.plain_b ≡ true)
    swapped (inl b) = inr b
    swapped (inr a) = inl a

    alone_a : p.a.modes.identity ≡ true → not last.modes.answered ≡ true
    alone_a is =
        let hold = holds.ab.lanes.each n n there.ab (omega arith) there.ab_there in
        fell_so (either_plain duo.modes.plain_a duo.modes.plain_b (hold.modes.sender (there.shows.a.sender.plain ∙ is)))

    alone_b : p.b.modes.identity ≡ true → not last.modes.answered ≡ true
    alone_b is =
        let hold = holds.ba.lanes.each n n there.ba (omega arith) there.ba_there in
        fell_so (swapped (either_plain duo.modes.plain_b duo.modes.plain_a (hold.modes.sender (there.shows.b.sender.plain ∙ is))))

    plain_so : (s : Side) → ((end_at s p).modes.identity ≡ true → not last.modes.answered ≡ true) → (end_at s p).modes.identity ≡ true → (position : ℕ) → 1 ≤ position → Told last n s (position - 1) position
    plain_so s alone fell = lines.plain n x here s (first_path s fell) fell (alone fell)

    own_so : (s : Side) → can.links.alters ≡ true → (m : InfiniteMapping) → (end_at s p).modes.own_infinite ≡ Some m → Told last n s m.place m.position
    own_so s may m is = lines.own n x here may s m is

    fine : (s : Side) → EndFine (file_len start) (IsMapped start last n) (LineAt start Told last n) Fails c s (end_at s p) × RecordsCarry (Bearing start last n) c s (end_at s p)
    fine A =
        let hold = holds.ab.lanes.each n n there.ab (omega arith) there.ab_there in
        let later = grows.ab n there.ab there.ab_there in (
          end_so A p.a there.ab there.ba _ there.shows.a hold told.a writes_a.prefix (closed_so start.file_a six.send_a writes_a.whole) later.0 later.1 later.2 first_a (own_pieces A)
              hold.link.alters_is (view_of (flags_ab last.modes) last.ab.send last.ab.arrived) (last_ab later.0 later.1) (ended.written A) (ended.closed A) alone_a (plain_so A alone_a) (own_so A),
          bears_so A p.a there.ab there.ba _ there.shows.a hold told.a writes_a.prefix (closed_so start.file_a six.send_a writes_a.whole) later.0 later.1 later.2 first_a (own_pieces A)
              hold.link.alters_is (view_of (flags_ab last.modes) last.ab.send last.ab.arrived) (last_ab later.0 later.1) (ended.written A) (ended.closed A) alone_a (plain_so A alone_a) (own_so A),
        )
    fine B =
        let hold = holds.ba.lanes.each n n there.ba (omega arith) there.ba_there in
        let later = grows.ba n there.ba there.ba_there in (
          end_so B p.b there.ba there.ab _ there.shows.b hold told.b writes_b.prefix (closed_so start.file_b six.send_b writes_b.whole) later.0 later.1 later.2
              (λ own unclear place len has. absurd (false≢true own)) (own_pieces B) hold.link.alters_is (view_of (flags_ba last.modes) last.ba.send last.ba.arrived) (last_ba later.0 later.1) (ended.written B) (ended.closed B) alone_b (plain_so B alone_b) (own_so B),
          bears_so B p.b there.ba there.ab _ there.shows.b hold told.b writes_b.prefix (closed_so start.file_b six.send_b writes_b.whole) later.0 later.1 later.2
              (λ own unclear place len has. absurd (false≢true own)) (own_pieces B) hold.link.alters_is (view_of (flags_ba last.modes) last.ba.send last.ba.arrived) (last_ba later.0 later.1) (ended.written B) (ended.closed B) alone_b (plain_so B alone_b) (own_so B),
        )

    offers : PathAlso (Tells start Told Fails last) p
    offers = subst (λ (k : ℕ). IfSome (first_sends p.agenda p) (λ t. Tells start Told Fails last k t.from (segment_sent p t))) (sym there.numbered) (by (first_sends p.agenda p) maps carries)
      where
        maps : IfSome (first_sends p.agenda p) (λ t. AllFine (file_len start) (IsMapped start last n) (LineAt start Told last n) Fails t.from (segment_sent p t).options)
        maps =
            first_fine_sent (file_len start) (IsMapped start last n) (LineAt start Told last n) Fails p
            (λ s. subst (λ (d : Profile). EndFine (file_len start) (IsMapped start last n) (LineAt start Told last n) Fails d s (end_at s p)) (sym there.shows.profile) (fine s).0) p.agenda

        carries : IfSome (first_sends p.agenda p) (λ t. Carries (Bearing start last n) t.from (segment_sent p t))
        carries =
            first_carries (Bearing start last n) p
            (λ s. subst (λ (d : Profile). RecordsCarry (Bearing start last n) d s (end_at s p)) (sym there.shows.profile) (fine s).1) p.agenda

        by : (o : Option ToSend) → IfSome o (λ t. AllFine (file_len start) (IsMapped start last n) (LineAt start Told last n) Fails t.from (segment_sent p t).options)
            → IfSome o (λ t. Carries (Bearing start last n) t.from (segment_sent p t)) → IfSome o (λ t. Tells start Told Fails last n t.from (segment_sent p t))
        by None one other = tt
        by (Some t) one other = (one, other)

  valued : WorldAlso (Tells start Told Fails last) v
  valued =
      subst (λ (w : WorldState Carried). WorldAlso (Tells start Told Fails last) w) (sym h.is)
      (each_actor (λ i c. MemberAlso (Tells start Told Fails last) c.member) h.cast tt tt (λ n x at. offers n x at))

-- ---- over octets

module _ (start : Start) (Told : Duo → ℕ → Side → ℕ → ℕ → Type 0) (Fails : Type 0) (last : Duo) where
  path_shown : (p : PathState Carried) → PathAlso (Tells start Told Fails last) p → PathAlso (Tells start Told Fails last) (shown_path p)
  path_shown p s = subst (λ (o : Option ToSend). IfSome o Shown) (sym (first_same p.agenda p)) (by (first_sends p.agenda p) s)
    where
      Shown : ToSend → Type 0
      Shown = λ t. Tells start Told Fails last (path_of p) t.from (segment_sent (shown_path p) t)

      by : (o : Option ToSend) → IfSome o (λ t. Tells start Told Fails last (path_of p) t.from (segment_sent p t)) → IfSome o Shown
      by None said = tt
      by (Some t) said = subst (λ (e : PathEnd). Tells start Told Fails last (path_of p) t.from (said_by t.kind p.profile t.from e)) (end_shown t.from p) said

  member_shown : (m : Actor Carried) → MemberAlso (Tells start Told Fails last) m → MemberAlso (Tells start Told Fails last) (shown_member m)
  member_shown (App a) s = tt
  member_shown (Path p) s = path_shown p s

-- at each moment of a run, by its last lanes
abbrev pub RunTells : Start → (Duo → ℕ → Side → ℕ → ℕ → Type 0) → Type 0 → List Turn → Type 0
RunTells start Told Fails turns =
    (last : Duo) × ((more later : List Turn) → more ++ later ≡ turns → WorldAlso (Tells start Told Fails last) (world_run octets more (opened_world start))) × AtLast start last

-- and how these lanes were reached
abbrev pub RunTold : (start : Start) → MayCarry start → (Duo → ℕ → Side → ℕ → ℕ → Type 0) → Type 0 → List Turn → Type 0
RunTold start can Told Fails turns =
    (last : Duo) × ((more later : List Turn) → more ++ later ≡ turns → WorldAlso (Tells start Told Fails last) (world_run octets more (opened_world start))) × AtLast start last
    × EachReaches start can turns last

-- what is known of infinite mappings at each of its moments
abbrev pub EachLineKnown : (start : Start) → MayCarry start → (Duo → ℕ → Side → ℕ → ℕ → Type 0) → List Turn → Type 0
EachLineKnown start can Told turns =
    (last : Duo) → EachReaches start can turns last → (more later : List Turn) → more ++ later ≡ turns → LinesKnown Told can.links.alters last (world_run values more (opened_world start))

module _ (start : Start) (can : MayCarry start) (free : NoneIsFirm can.links) (Told : Duo → ℕ → Side → ℕ → ℕ → Type 0) (Fails : Type 0) (failing : can.links.alters ≡ true → Fails) (size : HasRoom start)
    (fit : NumbersFit start) where
  pub told_by : (turns : List Turn) → EachLineKnown start can Told turns → RunTold start can Told Fails turns
  told_by turns lines =
      let reached = run_reaches start can turns (free_run can.links free turns (opened_world start)) in
      let ended = at_last start can turns reached.0 reached.2 in
      (reached.0, λ more later is. moment reached.0 ended more (reached.1 more later is) (lines reached.0 reached.1 more later is), ended, reached.1)
    where
      moment : (last : Duo) → AtLast start last → (more : List Turn) → (q : Reached can.links start (world_run values more (opened_world start))) × Grows (duo_at start can (world_run values more (opened_world start)) q) last
          → LinesKnown Told can.links.alters last (world_run values more (opened_world start)) → WorldAlso (Tells start Told Fails last) (world_run octets more (opened_world start))
      moment last ended more r known =
          subst (λ (w : WorldState (List ℕ)). WorldAlso (Tells start Told Fails last) w) (sym (run_fresh start more size fit))
          (λ i c at.
          let found = in_map shown_crew (world_run values more (opened_world start)).crew i c at in
          subst (λ (y : ActorCrew (List ℕ)). MemberAlso (Tells start Told Fails last) y.member) found.2
          (member_shown start Told Fails last found.0.member (valued start can Told Fails failing more size fit last r.0 r.1 ended known i found.0 found.1)))

  pub tells_by : (turns : List Turn) → EachLineKnown start can Told turns → RunTells start Told Fails turns
  tells_by turns lines = let told = told_by turns lines in (told.0, told.1, told.2)

-- ---- nothing more

abbrev pub AnyLine : Duo → ℕ → Side → ℕ → ℕ → Type 0
AnyLine last path s place position = Unit {0}

any_lines : (start : Start) (can : MayCarry start) (turns : List Turn) → EachLineKnown start can AnyLine turns
any_lines start can turns last reaches more later is = record { plain = λ n x at s first fell alone position some. tt; own = λ n x at may s m is. tt }

-- whatever the script does
pub run_tells : (start : Start) (turns : List Turn) → HasRoom start → NumbersFit start → RunTells start AnyLine (Unit {0}) turns
run_tells start turns size fit = tells_by start (anyhow start size) (anyhow_free start size) AnyLine (Unit {0}) (λ is. tt) size fit turns (any_lines start (anyhow start size) turns)

-- no MP_FAIL where it alters no payload
pub plain_tells : (start : Start) (turns : List Turn) → IsPlain start → NumbersFit start → RunTells start AnyLine ⊥ turns
plain_tells start turns plain fit = tells_by start (plainly start plain) (plainly_free start plain) AnyLine ⊥ false≢true plain.size fit turns (any_lines start (plainly start plain) turns)
