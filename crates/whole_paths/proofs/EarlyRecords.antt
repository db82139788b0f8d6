-- As path 0 opens each of A's records may be lost, and nothing else is owed; so no more is than A's end has records then.
use Rattle.std.proofs.Common.{◌≡◌, refl, sym, subst, ap, ◌∙◌, ℕ, ◌≤◌, arith, inr, Bool, true, false, if◌then◌else◌, Option, None, Some, List, [], ◌∷◌, ◌++◌, length}
use Rattle.std.specs.List.{slice_get}
use Rattle.std.specs.Prelude.{map, option_map}
use Rattle.std.proofs.lemmas.Bool.{both_ways}
use Rattle.std.proofs.lemmas.List.{length-map}
use Rattle.std.proofs.lemmas.Option.{slice_get-map}
use Rattle.sides.specs.declared.side.Side.{Side}
use Rattle.sides.specs.declared.side.Side.TheVariants.{A, B}
use Rattle.subflow_send.specs.Records.{Record}
use Rattle.path_core.specs.Codec.{Codec}
use Rattle.path_core.specs.Octets.{octets}
use Rattle.path_core.specs.State.{PathState}
use Rattle.path_core.specs.Values.{Carried, values}
use Rattle.world_laws.specs.declared.member.Member.TheVariants.{App, Path}
use Rattle.world_laws.specs.Actors.{Actor, ActorCrew}
use Rattle.world_laws.specs.Fresh.{AreFresh, shown_crew, shown_member, shown_world}
use Rattle.world_laws.specs.Members.{of_kind}
use Rattle.world_laws.specs.Openings.{PathPlan, Start, opened_world}
use Rattle.world_laws.specs.RoundDone.{reached}
use Rattle.world_laws.specs.Worlds.{Turn, WorldState, after_turn, world_run}
use Rattle.world_laws.proofs.Numbers.EveryTurn.{every_list_is_fresh}
use Rattle.world_laws.proofs.Promises.Made.{run_fresh}
use Rattle.world_laws.proofs.Weaving.WholeRounds.{run_append}
use Rattle.whole_paths.specs.Directions.{OwesAlong}
use Rattle.whole_paths.specs.EarlyRecords.{EarlyNeverFalls, EarlyOverOctets, OpensOwingRecords, early, early_from, early_in, early_on, or_else}
use Rattle.whole_paths.specs.Finish.{IsPathAt}
use Rattle.whole_paths.specs.OnePathScripts.{BeginsWithOnePath}
use Rattle.whole_paths.specs.OpenFirst.{HasJustOpened, OpensByClearing}
use Rattle.whole_paths.specs.Unmended.{AreWellBut}
use Rattle.whole_paths.proofs.GoingOn.{path_at}
use Rattle.whole_paths.proofs.OpenClears.{paths_open_by_clearing}
use Rattle.whole_paths.proofs.OpeningEnds.{LaterPath, later_path}
use Rattle.whole_paths.proofs.OpenQuiet.{a_owes_records_first, b_owes_none_first}
use Rattle.whole_paths.proofs.OverOctets.{shown_turn}
use Rattle.whole_paths.proofs.RecordWaits.{path_is}

-- ---- the number

or_else_up : (o : Option ℕ) (m n : ℕ) → m ≤ n → or_else o m ≤ or_else o n
or_else_up (Some x) m n low = omega arith
or_else_up None m n low = low

module _ {C : Type 0} (k : Codec C) where
  from_up : (ts us : List Turn) (w : WorldState C) → early_from k ts w ≤ early_from k (ts ++ us) w
  from_up [] [] w = omega arith
  from_up [] (u ∷ us) w = or_else_up (early_in (slice_get w.crew 2)) 0 (early_from k us (after_turn k u w)) (omega arith)
  from_up (t ∷ ts) us w = or_else_up (early_in (slice_get w.crew 2)) (early_from k ts (after_turn k t w)) (early_from k (ts ++ us) (after_turn k t w)) (from_up ts us (after_turn k t w))

  pub early_never_falls : EarlyNeverFalls k
  early_never_falls start turns more = from_up turns more (opened_world start)

  -- by the last turn, where there is none before
  first_at : (bs : List Turn) (t : Turn) (w : WorldState C) → ((cs ds : List Turn) → cs ++ ds ≡ bs → early_in (slice_get (world_run k cs w).crew 2) ≡ None)
      → early_from k (bs ++ t ∷ []) w ≡ or_else (early_in (slice_get (world_run k (bs ++ t ∷ []) w).crew 2)) 0
  first_at [] t w none = ap (λ o. or_else o (or_else (early_in (slice_get (after_turn k t w).crew 2)) 0)) (none [] [] refl)
  first_at (b ∷ bs) t w none = ap (λ o. or_else o (early_from k (bs ++ t ∷ []) (after_turn k b w))) (none [] (b ∷ bs) refl)
      ∙ first_at bs t (after_turn k b w) (λ cs ds is. none (b ∷ cs) ds (ap (λ xs. b ∷ xs) is))

-- ---- over octets

same_early : (o : Option (ActorCrew Carried)) → early_in (option_map shown_crew o) ≡ early_in o
same_early None = refl
same_early (Some c) = by c.member
  where
    by : (m : Actor Carried) → of_kind (λ app. None) early_on (shown_member m) ≡ of_kind (λ app. None) early_on m
    by (App a) = refl
    by (Path p) = refl

same_at : (w : WorldState Carried) → early_in (slice_get (shown_world w).crew 2) ≡ early_in (slice_get w.crew 2)
same_at w = ap (λ o. early_in o) (slice_get-map shown_crew w.crew 2) ∙ same_early (slice_get w.crew 2)

early_shown : (turns : List Turn) (w : WorldState Carried) → AreFresh turns w → early_from octets turns (shown_world w) ≡ early_from values turns w
early_shown [] w fresh = ap (λ o. or_else o 0) (same_at w)
early_shown (turn ∷ turns) w fresh =
    let v : WorldState Carried = after_turn values turn w in
    ap (λ (u : WorldState (List ℕ)). or_else (early_in (slice_get (shown_world w).crew 2)) (early_from octets turns u)) (shown_turn turn turns w fresh)
    ∙ ap (λ o. or_else o (early_from octets turns (shown_world v))) (same_at w) ∙ ap (λ n. or_else (early_in (slice_get w.crew 2)) n) (early_shown turns v fresh.1)

pub early_over_octets : EarlyOverOctets
early_over_octets start turns size fit = ap (early_from octets turns) (run_fresh start [] size fit) ∙ early_shown turns (opened_world start) (every_list_is_fresh start turns size fit)

-- ---- as path 0 opens

module _ (start : Start) (plan : PathPlan) (one : BeginsWithOnePath start plan) where
  -- until B's end may send a DSS there is none
  none_before : (before : List Turn) (p : PathState Carried) → IsPathAt 0 (reached values start before) p → p.b.modes.clear ≡ false → (cs ds : List Turn) → cs ++ ds ≡ before
      → early_in (slice_get (reached values start cs).crew 2) ≡ None
  none_before before p here unclear cs ds is = by found.2.b.modes.clear refl
    where
      found : (c : ActorCrew Carried) × (slice_get (reached values start cs).crew 2 ≡ Some c) × (q : PathState Carried) × (c.member ≡ Path q)
      found = let x = path_at start plan one.one cs in (x.0, x.1, x.2, x.3)

      by : (b : Bool) → found.2.b.modes.clear ≡ b → early_in (slice_get (reached values start cs).crew 2) ≡ None
      by false is_false = ap (λ o. early_in o) found.1 ∙ ap (λ m. of_kind (λ app. None) early_on m) found.3 ∙ ap (λ b. if b then Some (length found.2.a.tcp.send.records) else None) is_false
      by true is_true =
          let later : LaterPath (reached values start cs) (world_run values ds (reached values start cs)) found.2 = later_path (reached values start cs) ds found.2 (record { crew = found.0; there = found.1; is = found.3 }) in
          let then_is : world_run values ds (reached values start cs) ≡ reached values start before = sym (run_append values cs ds (opened_world start)) ∙ ap (reached values start) is in
          let same : later.path ≡ p = path_is (reached values start before) later.path p (subst (λ (w : WorldState Carried). IsPathAt 0 w later.path) then_is later.here) here in
          absurd (both_ways p.b.modes.clear unclear (subst (λ (q : PathState Carried). q.b.modes.clear ≡ true) same (later.far.b.clear is_true)))

  -- each record may be lost
  pub positions : PathState Carried → List ℕ
  positions p = map (λ (r : Record). r.pos) p.a.tcp.send.records

  pub all_lost : (p : PathState Carried) → AreWellBut A (positions p) p
  unfolding positions
  all_lost p r has = inr (record { at = has.at; item = has.item.pos; there = slice_get-map (λ (x : Record). x.pos) p.a.tcp.send.records has.at ∙ ap (λ o. option_map (λ (x : Record). x.pos) o) has.there; holds = ap (λ (x : Record). x.pos) has.holds })

  pub as_many : (p : PathState Carried) → length (positions p) ≡ length p.a.tcp.send.records
  unfolding positions
  as_many p = length-map p.a.tcp.send.records (λ (r : Record). r.pos)

  module _ (before : List Turn) (turn : Turn) (p : PathState Carried) (here : IsPathAt 0 (reached values start before) p) (unclear : p.b.modes.clear ≡ false) (now : HasJustOpened start (before ++ turn ∷ [])) where
    abbrev q : PathState Carried
    q = now.now.path

    early_is : early values start (before ++ turn ∷ []) ≡ length q.a.tcp.send.records
    early_is = first_at values before turn (opened_world start) (none_before before p here unclear)
        ∙ ap (λ o. or_else (early_in o) 0) now.now.here.there ∙ ap (λ m. or_else (of_kind (λ app. None) early_on m) 0) now.now.here.is
        ∙ ap (λ b. or_else (if b then Some (length q.a.tcp.send.records) else None) 0) now.now.is_open.clear

    few : length (positions q) ≤ early values start (before ++ turn ∷ [])
    few = let is = early_is in let size = as_many q in omega (arith, is, size)

    owes : (s : Side) → (debts : ℕ) × OwesAlong start s debts (before ++ turn ∷ []) × (debts ≤ early values start (before ++ turn ∷ []))
    owes A = (length (positions q), a_owes_records_first start plan before turn one p here unclear now.now (positions q) (all_lost q), few)
    owes B = (0, b_owes_none_first start plan before turn one p here unclear now.now, omega arith)

pub opens_owing_records : OpensOwingRecords
opens_owing_records start plan turns s one h = by (paths_open_by_clearing start plan turns one h)
  where
    by : OpensByClearing start turns → (debts : ℕ) × OwesAlong start s debts turns × (debts ≤ early values start turns)
    by c = subst (λ ts. HasJustOpened start ts → (debts : ℕ) × OwesAlong start s debts ts × (debts ≤ early values start ts)) (sym c.is)
        (λ now. owes start plan one c.before c.turn c.path c.here c.unclear now s) h
