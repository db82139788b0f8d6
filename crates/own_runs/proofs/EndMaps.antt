-- What an end maps, by what it shows on its lanes: each mapping gives its positions the places that they have on the lanes of the last moment, within its
-- side's file, and its checksum is that of the octets of these places. So is what it knows of the end of its stream.
use Rattle.std.proofs.Common.{◌≡◌, refl, sym, ap, ◌∙◌, subst, ℕ, suc, ◌+◌, ◌-◌, ◌≤◌, Bool, true, false, if◌then◌else◌, Option, Some, None, [], length, length-append, take, drop, arith}
use Rattle.std.specs.Option.{IfSome}
use Rattle.std.specs.List.{slice_get}
use Rattle.actor_desk.specs.Words.{pick}
use Rattle.dss_checksum.specs.Checksum.{dss_checksum}
use Rattle.judge_rules.specs.Numbers.{first_number}
use Rattle.octet_text.specs.Prefix.{IsPrefix}
use Rattle.path_core.specs.DssOut.{bare_mapping, checksum_in, checksum_told, place_numbered}
use Rattle.path_core.specs.End.{PathEnd}
use Rattle.path_core.specs.Profile.{Profile}
use Rattle.path_segments.specs.Options.{relative_number}
use Rattle.path_segments.specs.declared.segment.PathMapping.TheVariants.{Bytes, End, Infinite}
use Rattle.path_segments.specs.declared.segment.PathMapping.{PathMapping}
use Rattle.sides.specs.declared.side.Side.{Side}
use Rattle.stream_lanes.specs.Duo.{Duo}
use Rattle.stream_lanes.specs.Holding.{LaneHolds}
use Rattle.stream_lanes.specs.Lane.{Lane}
use Rattle.stream_lanes.specs.Moves.{bytes_of}
use Rattle.stream_lanes.specs.View.{View}
use Rattle.subflow_send.specs.Records.{Record}
use Rattle.subflow_send.specs.declared.record.RecordKind.TheVariants.{Syn, Data, Fin}
use Rattle.subflow_send.specs.declared.record.RecordKind.{RecordKind}
use Rattle.world_laws.proofs.Lanes.Answering.{BeginsFirst}
use Rattle.world_laws.proofs.Lanes.Showing.{EndShows, HasFin, HasMapping, IsPiece, IsSummed, KindShows}
use Rattle.world_laws.proofs.Numbers.TellSmall.{RecordKindTells}
use Rattle.world_laws.specs.Openings.{PathPlan, Start, path_begins}
use Rattle.own_runs.proofs.MapPlaces.{octet_in, place_on, sits, stretch, written_within}
use Rattle.own_runs.proofs.MapPositions.{Sit, contents, header}
use Rattle.own_runs.proofs.Numbered.{whole_so}
use Rattle.own_runs.proofs.Offering.{FirstFine, RecordFine}
use Rattle.own_runs.proofs.Own.{own_key}
use Rattle.own_runs.proofs.SentGrows.{Longer}
use Rattle.own_runs.proofs.Values.{drawn}

-- the octets of a side's file
abbrev pub file_len : Start → Side → ℕ
file_len start s = length (pick s start.file_a start.file_b)

-- the octet of a place of a side's file
abbrev pub content : Start → Side → ℕ → ℕ
content start s = octet_in (pick s start.file_a start.file_b)

-- ---- by the lanes of the last moment

abbrev pub lane_of : Duo → ℕ → Side → Option Lane
lane_of last path s = slice_get (pick s last.ab.lanes last.ba.lanes) path

abbrev pub place_at : Option Lane → ℕ → ℕ
place_at None p = 0
place_at (Some l) p = place_on l p

-- how many positions it has
abbrev pub upto_of : Option Lane → ℕ
upto_of None = 0
upto_of (Some l) = length l.sent

-- a mapping that was told on such a lane, with the number of place 0: its octets are the lane's
abbrev pub MappedOn : (ℕ → ℕ) → ℕ → Option Lane → PathMapping ℕ → Type 0
MappedOn octet first lane (Bytes place position len fin checksum) =
    Sit (place_at lane) position place len
    × IfSome checksum (λ sum. sum ≡ dss_checksum (header first place (relative_number position) len) (contents (λ p. octet (place_at lane p)) position len))
    × (1 ≤ position) × (position + len ≤ suc (upto_of lane))
MappedOn octet first lane (End place checksum) = IfSome checksum (λ sum. sum ≡ dss_checksum (header first place 0 1) [])
MappedOn octet first lane (Infinite place position) = Unit {0}

module _ (start : Start) (last : Duo) (path : ℕ) where
  abbrev pub IsMapped : Side → PathMapping ℕ → Type 0
  IsMapped s mapping = MappedOn (content start s) (first_number (own_key (drawn start) s)) (lane_of last path s) mapping

-- its FIN stands at this position
abbrev pub FinOn : Option Lane → ℕ → Type 0
FinOn None p = ⊥
FinOn (Some l) p = HasFin l.fins p

-- an infinite mapping: the lane's positions from this one on have the places from this one on, and a FIN there stands at the end of so many octets
abbrev pub LineOn : Option Lane → ℕ → ℕ → ℕ → Type 0
LineOn lane limit place position =
    (1 ≤ position) × ((p : ℕ) → position ≤ p → p ≤ upto_of lane → place_at lane p ≡ place + (p - position))
    × ((p : ℕ) → FinOn lane p → position ≤ p → place + (p - position) ≡ limit)

-- of which so much is known, too, by the lanes of the last moment
abbrev pub LineAt : Start → (Duo → ℕ → Side → ℕ → ℕ → Type 0) → Duo → ℕ → Side → ℕ → ℕ → Type 0
LineAt start Told last path s place position = LineOn (lane_of last path s) (file_len start s) place position × Told last path s place position

-- ---- an end of a path

module _ (start : Start) (last : Duo) (n : ℕ) (plan : PathPlan) (s : Side) (e : PathEnd) (out back : Lane) (view : View) (shown : EndShows (path_begins start n plan).profile s e out back)
    (hold : LaneHolds view n out) (begins : IsPrefix view.written (pick s start.file_a start.file_b)) (ends : (k : ℕ) → view.end ≡ Some k → k ≡ file_len start s)
    (later : Lane) (later_there : lane_of last n s ≡ Some later) (longer : Longer out later) (first_is : BeginsFirst s e out) (Lines : Side → ℕ → ℕ → Type 0) (Fails : Type 0) where
  abbrev c : Profile
  c = (path_begins start n plan).profile

  abbrev first : ℕ
  first = first_number (own_key (drawn start) s)

  -- the octet of a position
  abbrev octet_at : ℕ → ℕ
  octet_at p = content start s (place_on later p)

  upto : length view.written ≤ file_len start s
  upto = let same = ap length begins.whole_is in omega (arith, same, length-append view.written begins.rest)

  -- the checksum that is told of a mapping
  sum_so : (place position len checksum : ℕ) → 1 ≤ position → IsSummed c s out.sent place position len checksum
      → IfSome (checksum_told c checksum) (λ sum. sum ≡ dss_checksum (header first place (relative_number position) len) (contents octet_at position len))
  sum_so place position len checksum behind is = by c.spelling.checksums refl
    where
      by : (b : Bool) → c.spelling.checksums ≡ b
          → IfSome (if b then Some checksum else None) (λ sum. sum ≡ dss_checksum (header first place (relative_number position) len) (contents octet_at position len))
      by false uses = tt
      by true uses =
          is.right uses
          ∙ ap (λ (number : ℕ). dss_checksum (record { number = number; relative = relative_number position; length = len; checksum = 0 })
          (take len (drop (position - 1) (bytes_of out.sent)))) (whole_so start n plan s place)
          ∙ ap (dss_checksum (header first place (relative_number position) len))
          (stretch view n out later hold longer (pick s start.file_a start.file_b) begins len (position - 1) position (omega (arith, behind)) is.within)

  told_so : (place position len checksum : ℕ) → HasMapping out.datas place position len → IsSummed c s out.sent place position len checksum
      → IsMapped start last n s (Bytes place position len false (checksum_told c checksum))
  told_so place position len checksum has is =
      subst (λ (o : Option Lane). MappedOn (content start s) first o (Bytes place position len false (checksum_told c checksum))) (sym later_there) (
        sits view n out later hold longer place position len has,
        sum_so place position len checksum (let at_one = has.holds.is.position_is in omega (arith, at_one)) is,
        (let at_one = has.holds.is.position_is in omega (arith, at_one)),
        (let within = is.within in let more = ap length longer.is in let at_one = has.holds.is.position_is in omega (arith, within, more, at_one, length-append out.sent longer.more)),
      )

  -- and of the DATA_FIN
  pub end_told : (place : ℕ) → IsMapped start last n s (End place (checksum_told c (checksum_in c (bare_mapping c s place 0 1) [])))
  end_told place = by c.spelling.checksums
    where
      by : (b : Bool) → IfSome (if b then Some (if b then dss_checksum (bare_mapping c s place 0 1) [] else 0) else None) (λ sum. sum ≡ dss_checksum (header first place 0 1) [])
      by false = tt
      by true = ap (λ (number : ℕ). dss_checksum (record { number = number; relative = 0; length = 1; checksum = 0 }) []) (whole_so start n plan s place)

  -- a piece that A sends as long as it may send no DSS
  begins_so : (r : Record) → IsPiece c s out.alters out.sent out.datas r → FirstFine (file_len start) (IsMapped start last n) Lines Fails c s e.modes.clear r
  begins_so r is own unclear one =
      let place = place_numbered c s r.mapping.number in
      let len = r.mapping.length in
      let has : HasMapping out.datas place 1 len = subst (λ (p : ℕ). HasMapping out.datas place p len) one is.mapping in
      let zero_at : place ≡ 0 = first_is own unclear place len has in
      subst (λ (q : ℕ). IsMapped start last n s (Bytes q 1 len false (checksum_told c r.mapping.checksum))) zero_at
      (told_so place 1 len r.mapping.checksum has (subst (λ (p : ℕ). IsSummed c s out.sent place p len r.mapping.checksum) one is.summed))

  pub kind_so : (kind : RecordKind) (r : Record) → KindShows c s out.alters out.sent out.datas out.fins kind r → RecordKindTells c s kind r
      → RecordFine (file_len start) (IsMapped start last n) Lines Fails c s e.modes.clear kind r
  kind_so Syn r is kept = tt
  kind_so Fin r is kept = tt
  kind_so Data r is kept = (
    kept.0,
    let within = written_within view n (place_numbered c s r.mapping.number) r.pos r.mapping.length out hold is.mapping kept.0 in let most = upto in omega (arith, within, most),
    told_so (place_numbered c s r.mapping.number) r.pos r.mapping.length r.mapping.checksum is.mapping is.summed,
    begins_so r is,
  )

  pub known_so : IfSome e.sending.known_end (λ k. k ≡ file_len start s)
  known_so = subst (λ (o : Option ℕ). IfSome o (λ k. k ≡ file_len start s)) shown.sender.same_end (by out.known_end hold.ends.told)
    where
      by : (o : Option ℕ) → IfSome o (λ k. view.end ≡ Some k) → IfSome o (λ k. k ≡ file_len start s)
      by None is = tt
      by (Some k) is = ends k is
