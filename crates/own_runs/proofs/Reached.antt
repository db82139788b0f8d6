-- What a run's lanes have at any moment they have at its end.
use Rattle.std.proofs.Common.{◌≡◌, refl, sym, ◌∙◌, subst, List, [], ◌∷◌, ◌++◌, length}
use Rattle.path_core.specs.Values.{Carried, values}
use Rattle.stream_lanes.proofs.Duos.{any_held}
use Rattle.stream_lanes.specs.Duo.{Duo, after_events}
use Rattle.world_laws.proofs.Lanes.Beginning.{opened_reached}
use Rattle.world_laws.proofs.Lanes.EveryTurn.{each_turn_shows}
use Rattle.world_laws.proofs.Lanes.OfAWorld.{Carries, IsSteady, Reached, RunIsFirm, Shown, TurnIsFirm, events_append, first_duo, turn_events, turn_is, WorldShows}
use Rattle.world_laws.proofs.Worlds.Steady.{always_steady}
use Rattle.world_laws.specs.Openings.{Start, opened_world}
use Rattle.world_laws.specs.Worlds.{Turn, WorldState, after_turn, world_run}
use Rattle.own_runs.proofs.SentGrows.{Grows, events_grow, same_grows, then_grows}

-- ---- of any steps

module _ {X : Type 0} {T : Type 0} (step : T → X → X) (R : X → Type 0) (duo : (x : X) → R x → Duo) where
  abbrev pub steps : List T → X → X
  steps [] x = x
  steps (t ∷ ts) x = steps ts (step t x)

  -- each step reaches a connection that has what the last one has
  abbrev pub AllGo : List T → X → Type 0
  AllGo [] x = Unit {0}
  AllGo (t ∷ ts) x = ((r : R x) → (next : R (step t x)) × Grows (duo x r) (duo (step t x) next)) × AllGo ts (step t x)

  -- at each moment
  abbrev pub AllReach : List T → X → Duo → Type 0
  AllReach ts x last = (more later : List T) → more ++ later ≡ ts → (q : R (steps more x)) × Grows (duo (steps more x) q) last

  head_is : {t u : T} {ts us : List T} → (let one : List T = t ∷ ts in one) ≡ u ∷ us → t ≡ u
  head_is e = cc

  tail_is : {t u : T} {ts us : List T} → (let one : List T = t ∷ ts in one) ≡ u ∷ us → ts ≡ us
  tail_is e = cc

  -- the last one is one that is reached
  abbrev pub IsReached : List T → X → Duo → Type 0
  IsReached ts x last = (r : R (steps ts x)) × (duo (steps ts x) r ≡ last)

  pub reaches : (ts : List T) (x : X) (r : R x) → AllGo ts x → (last : Duo) × Grows (duo x r) last × AllReach ts x last × IsReached ts x last
  reaches [] x r go = (duo x r, same_grows (duo x r), by, (r, refl))
    where
      by : AllReach [] x (duo x r)
      by [] later e = (r, same_grows (duo x r))
      by (t ∷ more) later e = cc
  reaches (t ∷ ts) x r go =
      let next = go.0 r in
      let rest = reaches ts (step t x) next.0 go.1 in
      let grown = then_grows (duo x r) (duo (step t x) next.0) rest.0 next.1 rest.1 in
      (rest.0, grown, by rest.0 grown rest.2, rest.3)
    where
      by : (last : Duo) → Grows (duo x r) last → AllReach ts (step t x) last → AllReach (t ∷ ts) x last
      by last grown all [] later e = (r, grown)
      by last grown all (first ∷ more) later e =
          subst (λ (u : T). (q : R (steps more (step u x))) × Grows (duo (steps more (step u x)) q) last) (sym (head_is e)) (all more later (tail_is e))

-- ---- of a run

module _ (start : Start) (can : Carries start) where
  -- the connection as a world shows it
  abbrev pub duo_at : (w : WorldState Carried) → Reached can.links start w → Duo
  duo_at w r = after_events r.events (first_duo can.links start)

  turn_goes : (turn : Turn) (w : WorldState Carried) → TurnIsFirm can.links turn w → IsSteady w → (r : Reached can.links start w)
      → (next : Reached can.links start (after_turn values turn w)) × Grows (duo_at w r) (duo_at (after_turn values turn w) next)
  turn_goes turn w firm steady r =
      let d : Duo = after_events r.events (first_duo can.links start) in
      let x : Shown can.links start turn d w = each_turn_shows start can turn d w firm steady (any_held can.links.alters can.links.checked (length start.paths) start.buffer start.buffer r.events) r.shows in
      let appended = events_append r.events (turn_events x.turn_shows) (first_duo can.links start) in (
        record {
          events = r.events ++ turn_events x.turn_shows;
          shows = subst (λ (y : Duo). WorldShows can.links start y (after_turn values turn w)) (turn_is x.turn_shows ∙ sym appended) x.world_shows;
        },
        subst (Grows d) (sym appended) (events_grow (turn_events x.turn_shows) d),
      )

  abbrev pub HasReached : WorldState Carried → Type 0
  HasReached w = Reached can.links start w

  abbrev runs : List Turn → WorldState Carried → WorldState Carried
  runs = steps {X = WorldState Carried} (after_turn values) HasReached duo_at

  all_go : (turns : List Turn) (w : WorldState Carried) → RunIsFirm can.links turns w → ((more : List Turn) → IsSteady (world_run values more w))
      → AllGo {X = WorldState Carried} (after_turn values) HasReached duo_at turns w
  all_go [] w firm steady = tt
  all_go (turn ∷ turns) w firm steady = (turn_goes turn w firm.0 (steady []), all_go turns (after_turn values turn w) firm.1 (λ more. steady (turn ∷ more)))

  steps_are : (turns : List Turn) (w : WorldState Carried) → runs turns w ≡ world_run values turns w
  steps_are [] w = refl
  steps_are (turn ∷ turns) w = steps_are turns (after_turn values turn w)

  -- at each moment of these turns
  abbrev pub EachReaches : List Turn → Duo → Type 0
  EachReaches turns last = (more later : List Turn) → more ++ later ≡ turns
      → (q : Reached can.links start (world_run values more (opened_world start))) × Grows (duo_at (world_run values more (opened_world start)) q) last

  -- these lanes are those behind them all
  abbrev pub EndsAs : List Turn → Duo → Type 0
  EndsAs turns last = (q : Reached can.links start (world_run values turns (opened_world start))) × (duo_at (world_run values turns (opened_world start)) q ≡ last)

  pub run_reaches : (turns : List Turn) → RunIsFirm can.links turns (opened_world start) → (last : Duo) × EachReaches turns last × EndsAs turns last
  run_reaches turns firm =
      let all = reaches {X = WorldState Carried} (after_turn values) HasReached duo_at turns (opened_world start) (opened_reached start can)
      (all_go turns (opened_world start) firm (always_steady start)) in (
        all.0,
        λ more later is. moment all.0 more (all.2 more later is),
        subst (λ (w : WorldState Carried). (q : HasReached w) × (duo_at w q ≡ all.0)) (steps_are turns (opened_world start)) all.3,
      )
    where
      moment : (last : Duo) (more : List Turn) → (q : HasReached (runs more (opened_world start))) × Grows (duo_at (runs more (opened_world start)) q) last
          → (q : HasReached (world_run values more (opened_world start))) × Grows (duo_at (world_run values more (opened_world start)) q) last
      moment last more q = subst (λ (w : WorldState Carried). (q : HasReached w) × Grows (duo_at w q) last) (steps_are more (opened_world start)) q
