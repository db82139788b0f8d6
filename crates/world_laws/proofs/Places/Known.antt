-- The places that an end learned are those of its lane's record, so no mapping that it hears clashes with them.
use Rattle.world_laws.proofs.Words.{◌≡◌, sym, ap, subst, ℕ, ◌+◌, ◌-◌, false, Option, Some, None, List, arith, is_some, slice_get, IfSome, Side, A, B}
use Rattle.world_laws.proofs.Words.{ScriptLine, KeptMapping, Mappings, run_of, place_at, place_in, PlainSegment, meant, window_told, Reply, SixBooks, PathStart}
use Rattle.world_laws.proofs.Words.{waiting_path, first_turn, PathState, end_at, takes, next_round, Carried, values, held_of, Profile, Every-map, Every-nil}
use Rattle.world_laws.proofs.Words.{Holds, LaneHolds, Lane, View}
use Rattle.std.specs.FinMap.{get-empty}
use Rattle.std.specs.Ordering.{nat_cmp}
use Rattle.dss_mapping.specs.declared.run.Run.{Run}
use Rattle.dss_mapping.specs.Learning.{clashes}
use Rattle.dss_mapping.proofs.Answered.{clash-none}
use Rattle.world_laws.proofs.Lanes.Arriving.{options_hold}
use Rattle.world_laws.proofs.Lanes.Showing.{FlightShows, PathShows}
use Rattle.world_laws.specs.Agreement.{NothingClashes}
use Rattle.world_laws.proofs.Lanes.OfAWorld.{Others, duo_at}
use Rattle.world_laws.proofs.Places.StepsKeep.{Tells, Knows, AllTell, CopiesTell, end_knows, takes_knows, begins_knows, more_known}
use Rattle.world_laws.proofs.Places.Sent.{IsLonger, one_place, longer_places, held_tells, record_of, KnowsThose}
use Rattle.world_laws.proofs.Lanes.Strolling.{out_holds}

-- ---- an end that knows one record alone

module _ (R : ℕ → ℕ → Type 0) (one : (p place other : ℕ) → R p place → R p other → place ≡ other) where
  agrees : (told : Run) (p : ℕ) (o : Option ℕ) → R p (place_in p told) → IfSome o (R p) → IfSome o (λ place. place ≡ place_in p told)
  agrees told p None tells h = tt
  agrees told p (Some place) tells h = one p place (place_in p told) h tells

  pub nothing_clashes : (v : Mappings) → Knows R v → NothingClashes v
  nothing_clashes v h = record { each = at }
    where
      at : (i : ℕ) (kept : KeptMapping) → slice_get v.held i ≡ Some kept → clashes kept v ≡ false
      at i kept there =
          let told : Run = run_of kept in
          let tells : Tells R told = h.held.each i kept there in
          ap is_some (clash-none told v (told.to - told.pos) told.pos
          (λ p from to. agrees told p (place_at v p) (tells.each p from (omega (arith, from, to))) (h.places p)))

-- ---- the records of both lanes

one_in : (ab ba : Lane) (s : Side) (p place other : ℕ) → record_of ab ba s p place → record_of ab ba s p other → place ≡ other
one_in ab ba A p place other x y = one_place ba.sent p place other x y
one_in ab ba B p place other x y = one_place ab.sent p place other x y

more_in : (ab ba ab_after ba_after : Lane) → IsLonger ab ab_after → IsLonger ba ba_after → (s : Side) (p place : ℕ) → record_of ab ba s p place → record_of ab_after ba_after s p place
more_in ab ba ab_after ba_after x y A p place h = longer_places ba ba_after y p place h
more_in ab ba ab_after ba_after x y B p place h = longer_places ab ab_after x p place h

-- the mappings of copies that were sent tell the record's places
module _ (c : Profile) (v u : View) (path : ℕ) (ab ba : Lane) (holds_ab : LaneHolds v path ab) (holds_ba : LaneHolds u path ba) where
  flight_tells : (s : Side) (sg : PlainSegment) → FlightShows c ab ba s sg → AllTell (record_of ab ba s) (held_of c s (meant sg))
  flight_tells B sg shows =
      Every-map (λ kept has. held_tells c v path ab holds_ab kept has) (options_hold c (window_told sg.syn sg.window) ba.acks ab B sg.options shows.options)
  flight_tells A sg shows =
      Every-map (λ kept has. held_tells c u path ba holds_ba kept has) (options_hold c (window_told sg.syn sg.window) ab.acks ba A sg.options shows.options)

copies_tell : (c : Profile) (v u : View) (path : ℕ) (ab ba : Lane) → LaneHolds v path ab → LaneHolds u path ba → (p : PathState Carried) → PathShows c p ab ba → CopiesTell (record_of ab ba) p
copies_tell c v u path ab ba holds_ab holds_ba p h = record {
  each = λ i f at. flight_tells p.profile v u path ab ba holds_ab holds_ba f.to f.carried.segment (subst (λ d. FlightShows d ab ba f.to f.carried.segment) (sym h.profile) (h.copies.each i f at));
}

-- ---- a path that knows the records of its lanes

module _ (ab ba ab_after ba_after : Lane) (x : IsLonger ab ab_after) (y : IsLonger ba ba_after) where
  more_those : (p : PathState Carried) → KnowsThose ab ba p → KnowsThose ab_after ba_after p
  more_those p h =
      let more = more_in ab ba ab_after ba_after x y in
      record { a = more_known _ _ (more A) p.a.receiving.mappings h.a; b = more_known _ _ (more B) p.b.receiving.mappings h.b }

  -- a reply, and a round that begins
  pub takes_those : (six : SixBooks) (others : Others) (p : PathState Carried) (r : Reply) → PathShows p.profile p ab ba → Holds (duo_at six ab ba others) → KnowsThose ab ba p
      → KnowsThose ab_after ba_after (takes values r p)
  takes_those six others p r shows holds h =
      more_those (takes values r p) (takes_knows (record_of ab ba) r p
      (copies_tell p.profile _ _ others.number ab ba (out_holds six others A ab ba holds) (out_holds six others B ab ba holds) p shows) h)

  pub begins_those : (p : PathState Carried) → KnowsThose ab ba p → KnowsThose ab_after ba_after (next_round p)
  begins_those p h = more_those (next_round p) (begins_knows (record_of ab ba) (record p { clock = p.until; until = p.until + 100 }) (record { a = h.a; b = h.b }))

-- at first no place is known
pub opens_those : (ab ba : Lane) (start : PathStart) (lines : List ScriptLine) → KnowsThose ab ba (first_turn start lines)
opens_those ab ba start lines = begins_knows (record_of ab ba) (waiting_path start lines) (record {
  a = record { places = λ p. rw (get-empty nat_cmp p) tt; held = Every-nil _ };
  b = record { places = λ p. rw (get-empty nat_cmp p) tt; held = Every-nil _ };
})

-- nothing that an end heard clashes
pub agrees_so : (ab ba : Lane) (p : PathState Carried) → KnowsThose ab ba p → (s : Side) → NothingClashes (end_at s p).receiving.mappings
agrees_so ab ba p h s = nothing_clashes (record_of ab ba s) (one_in ab ba s) (end_at s p).receiving.mappings (end_knows (record_of ab ba) s p h)
