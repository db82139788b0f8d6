-- Where data numbers have four octets each DSS tells the low halves, as a path's spelling never changes.
use Rattle.world_laws.proofs.Words.{◌≡◌, sym, ◌∙◌, ap, subst, ℕ, ◌+◌, Bool, true, if◌then◌else◌, Option, Some, None, List, arith, ◌^◌, option_map, ◌%◌}
use Rattle.world_laws.proofs.Words.{slice_get, IfSome, Side, peer, PlainOption, said_option, said_mapping, Dss, whole_number, data_number, PathMapping, Bytes}
use Rattle.world_laws.proofs.Words.{Infinite, waiting_path, PathState, Carried, values, in_map, Every, Always, Start, path_begins, opened_world, Turn, greatest}
use Rattle.world_laws.proofs.Words.{world_run, answer_to}
use Rattle.mptcp_options.specs.declared.dss.DataNumber.TheVariants.{Whole, Low}
use Rattle.path_segments.specs.declared.segment.PathMapping.TheVariants.{End}
use Rattle.path_segments.specs.declared.spelling.Spelling.{Spelling}
use Rattle.world_laws.specs.ShortNumbers.{IsLowHalf, GoesShort, SegmentGoesShort, CopiesGoShort, ShortNumbersGoShort}
use Rattle.world_laws.proofs.Worlds.CastLifting.{Has, turns_have, each_actor}
use Rattle.world_laws.proofs.Worlds.Casts.{Cast, Every-put, world_of, walked, walks_on, first_cast, first_fare, opened_is, walker_there}
use Rattle.world_laws.proofs.Rounds.Frame.{takes_keeps, first_keeps}

-- ---- what is said

module _ (spelling : Spelling) (short : spelling.short ≡ true) where
  number_short : (side : Side) (place : ℕ) → IsLowHalf (data_number spelling side place)
  number_short side place =
      subst (λ (b : Bool). IsLowHalf (if b then Low (whole_number spelling side place % 2 ^ 32) else Whole (whole_number spelling side place))) (sym short) (omega arith)

  numbers_short : (side : Side) (o : Option ℕ) → IfSome (option_map (data_number spelling side) o) IsLowHalf
  numbers_short side None = tt
  numbers_short side (Some place) = number_short side place

  mapping_short : (from : Side) (o : Option (PathMapping ℕ)) → IfSome (option_map (said_mapping spelling from) o) (λ m. IsLowHalf m.number)
  mapping_short from None = tt
  mapping_short from (Some (Bytes place position len fin checksum)) = number_short from place
  mapping_short from (Some (End place checksum)) = number_short from place
  mapping_short from (Some (Infinite place position)) = number_short from place

  option_short : (from : Side) (o : PlainOption) → GoesShort (said_option spelling from o)
  option_short from (Dss next mapping) = (numbers_short (peer from) next, mapping_short from mapping)
  option_short from _ = tt

  segment_short : (carried : Carried) → SegmentGoesShort spelling carried
  segment_short carried = record { each = λ i o there. option_short _ o }

-- ---- the spelling of a path

abbrev IsSpelled : Bool → PathState Carried → Type 0
IsSpelled short p = p.profile.spelling.short ≡ short

-- each path's is that of the connection
abbrev AreSpelled : Bool → Cast Carried → Type 0
AreSpelled short t = Every (λ x. IsSpelled short x.path) t.paths

spelled_always : (start : Start) (turns : List Turn) → Has start (AreSpelled start.short) (world_run values turns (opened_world start))
spelled_always start turns = turns_have values start (AreSpelled start.short)
    (record {
      a = λ t f d ds is h. h;
      b = λ t f d ds is h. h;
      path = λ t f number x there d ds is h. Every-put number (walked values _ t.books x) (ap (λ c. c.spelling.short) (takes_keeps values (answer_to t.books _) x.path).1 ∙ h.each number x there) h;
    })
    (λ t f h. record {
      each = λ i y there. let found = in_map (walks_on (greatest 0 (world_of t).crew)) t.paths i y there in
          subst (λ z. IsSpelled start.short z.path) found.2
          (ap (λ c. c.spelling.short) (first_keeps (record found.0.path { clock = found.0.path.until; until = found.0.path.until + 100 })).1 ∙ h.each i found.0 found.1);
    })
    turns (opened_world start)
    (record { cast = first_cast start; is = opened_is start; fare = first_fare start; holds = first })
  where
    first : AreSpelled start.short (first_cast start)
    first = record {
      each = λ i x there. let found = walker_there start 0 i i start.paths x (omega arith) there in
          subst (λ y. IsSpelled start.short y.path) (sym found.2) (ap (λ c. c.spelling.short) (first_keeps (waiting_path (path_begins start i found.0) start.lines)).1);
    }

-- ---- at every moment

pub short_numbers : Always values (λ start w. ShortNumbersGoShort start w)
short_numbers start turns on =
    let h = spelled_always start turns in
    subst (λ w. (actor : ℕ) (c : _) → slice_get w.crew actor ≡ Some c → CopiesGoShort c.member) (sym h.is)
    (each_actor (λ actor c. CopiesGoShort c.member) h.cast tt tt
    (λ number x there. record { each = λ i f at. segment_short x.path.profile.spelling (h.holds.each number x there ∙ on) f.carried }))
