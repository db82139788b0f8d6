-- A copy without octets that comes next on a path of a mild connection tells no mapping.
use Rattle.std.proofs.Common.{◌≡◌, refl, sym, subst, ap, ◌∙◌, arith, ℕ, Bool, true, false, true≢false, if◌then◌else◌, Option, Some, None, IfSome, is_some, List, [], ◌∷◌, ◌++◌, length}
use Rattle.std.specs.List.{flat_map, list_any}
use Rattle.std.specs.Prelude.{map}
use Rattle.std.proofs.lemmas.Bool.{or_parts}
use Rattle.std.proofs.lemmas.Option.{same_Some}
use Rattle.mptcp_options.specs.declared.capable.CapableKeys.{CapableKeys}
use Rattle.mptcp_options.specs.declared.capable.CapableKeys.TheVariants.{WithData}
use Rattle.path_segments.specs.Heard.{HeardSegment}
use Rattle.path_segments.specs.Laws.{meant, meant_option}
use Rattle.path_segments.specs.Options.{PlainOption}
use Rattle.path_segments.specs.Spelled.{PlainSegment}
use Rattle.path_segments.specs.declared.segment.PathOption.TheVariants.{Capable, Dss}
use Rattle.path_segments.specs.declared.segment.PathMapping.TheVariants.{Bytes, End, Infinite}
use Rattle.sides.specs.declared.side.Side.{Side}
use Rattle.sides.specs.declared.side.Side.TheVariants.{A, B}
use Rattle.sides.specs.Side.{peer}
use Rattle.dss_mapping.specs.declared.kept.KeptMapping.{KeptMapping}
use Rattle.link_model.specs.declared.flight.Flight.{Flight}
use Rattle.link_model.specs.Steps.{arriving, is_due}
use Rattle.path_core.specs.Arrival.{heard_in}
use Rattle.path_core.specs.DssIn.{held_in, held_of, key_held}
use Rattle.path_core.specs.End.{PathEnd}
use Rattle.path_core.specs.MpJoin.{is_joined}
use Rattle.path_core.specs.OptionsIn.{options_heard}
use Rattle.path_core.specs.Profile.{Profile}
use Rattle.path_core.specs.State.{PathState, end_at}
use Rattle.path_core.specs.Values.{Carried, as_arrived, values}
use Rattle.world_laws.proofs.Lanes.Records.{every_find}
use Rattle.whole_paths.proofs.MappedCopies.{CopyMaps, MapsAll, MapsNone, PathMaps, maps_bytes}
use Rattle.whole_paths.proofs.MappedCopies.{MapsAll as maps}
use Rattle.whole_paths.proofs.RisesOwed.{BareSaysNothing}

keys_held : (c : Profile) (s : Side) (keys : CapableKeys) → (flag_a flag_c : Bool) → maps_bytes (Capable flag_a flag_c keys) ≡ false → key_held c s keys ≡ []
keys_held c A keys flag_a flag_c none = refl
keys_held c B (WithData own other len checksum) flag_a flag_c none = absurd (true≢false none)
keys_held c B _ flag_a flag_c none = refl

option_held : (c : Profile) (s : Side) (o : PlainOption) → maps_bytes o ≡ false → held_in c s (meant_option o) ≡ []
option_held c s (Capable flag_a flag_c keys) none = elim (is_joined c) as (λ b. (if b then [] else key_held c s keys) ≡ []) [ true ↦ refl | false ↦ keys_held c s keys flag_a flag_c none ]
option_held c s (Dss next None) none = refl
option_held c s (Dss next (Some (Bytes place position len fin checksum))) none = absurd (true≢false none)
option_held c s (Dss next (Some (End place checksum))) none = refl
option_held c s (Dss next (Some (Infinite place position))) none = refl
option_held c s _ none = refl

none_held : (c : Profile) (s : Side) (options : List PlainOption) → MapsNone options → flat_map (held_in c s) (map meant_option options) ≡ []
none_held c s [] none = refl
none_held c s (o ∷ os) none =
    let parts = or_parts (maps_bytes o) (list_any maps_bytes os) none in
    ap (λ (xs : List KeptMapping). xs ++ flat_map (held_in c s) (map meant_option os)) (option_held c s o parts.0) ∙ none_held c s os parts.1

-- what a copy says that an end hears
said_none : (c : Profile) (s : Side) (e : PathEnd) (y : PlainSegment) → MapsNone y.options → held_of c s (options_heard e (meant y)) ≡ []
said_none c s e y none = elim e.modes.identity as (λ b. flat_map (held_in c s) (if b then [] else map meant_option y.options) ≡ []) [ true ↦ refl | false ↦ none_held c s y.options none ]

bare_none : (s : Side) (y : PlainSegment) → MapsAll s y → y.payload ≡ [] → MapsNone y.options
bare_none s y (maps.none empty none) is = none
bare_none s y (maps.piece x) is = absurd (let some = x.some in let none = ap (λ (octets : List ℕ). length octets) is in omega (arith, some, none))
bare_none s y (maps.first of_a x) is = absurd (let some = x.some in let none = ap (λ (octets : List ℕ). length octets) is in omega (arith, some, none))
bare_none s y (maps.bare none) is = ap (λ os. list_any maps_bytes os) none

pub bare_says_nothing : (p : PathState Carried) → PathMaps p → BareSaysNothing values p
bare_says_nothing p h due next x heard nil = by (arriving due p.link) (every_find (is_due due) p.link.under_way h) heard
  where
    by : (o : Option (Flight Carried)) → IfSome o CopyMaps → heard_in values due.to o p ≡ Some x → held_of p.profile due.to (options_heard (end_at due.to p) x) ≡ []
    by None some is = absurd (true≢false (sym (ap is_some is)))
    by (Some f) copy is =
        let same : meant (as_arrived f.carried) ≡ x = same_Some (meant (as_arrived f.carried)) x is in
        subst (λ (y : HeardSegment). y.payload ≡ [] → held_of p.profile due.to (options_heard (end_at due.to p) y) ≡ []) same
        (λ nil. said_none p.profile due.to (end_at due.to p) (as_arrived f.carried) (bare_none (peer f.to) (as_arrived f.carried) copy nil)) nil
