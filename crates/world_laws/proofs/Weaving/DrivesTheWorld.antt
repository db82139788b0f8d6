-- An order that fits what actors and books did is lawful, and drives the world there: its first step leaves a world that the rest fits.
--
-- Weaving: what fits an order is said by its parts (`OrderFits`): each actor's notes of it are the steps that it made,
-- each book's what its journal gained. The first note then is the step that the world makes, and the rest fits the
-- world after it (`proofs/Weaving/DrivesTheWorld`). That the order by stamp has these parts: two lists that climb and
-- have the same notes are one (`same_notes` of `proofs/Weaving/TheOrder`), with `In` in place of indices.
use Rattle.world_laws.proofs.Words.{◌≡◌, refl, sym, ◌∙◌, ap, subst, ℕ, suc, not, inl, inr, ⊎_elim, true, false, cond, Some, List, [], ◌∷◌, length, map, arith}
use Rattle.world_laws.proofs.Words.{◌<◌, eq-eqb, ne_eqb, length-set, same_Some, slice_get, Duty, Ask, Note, is_nil, AppDuty, AppState, app_asks_first, Codec}
use Rattle.world_laws.proofs.Words.{PathState, asks_first, in_set, App, Path, Actor, ActorCrew, member_asks, is_over, WorldState, crew_after, asked, stepped}
use Rattle.world_laws.proofs.Words.{world_step, world_run, AreLawful, is_going, after_note, after_notes, IsStepOf, AreStepsOf, steps_by}
use Rattle.stream_lanes.proofs.Lists.{item_at}
use Rattle.world_laws.specs.Worlds.{goes}
use Rattle.world_laws.proofs.Weaving.Occurring.{In}
use Rattle.world_laws.proofs.Weaving.FirstSteps.{BooksFit, step_fits, books_end}
use Rattle.world_laws.proofs.Weaving.TheOrder.{ours}

-- ---- the notes of one actor

ours_first : (n : Note) (order : List Note) → ours n.actor (n ∷ order) ≡ n ∷ ours n.actor order
ours_first n order = ap (λ b. cond b (n ∷ ours n.actor order) (ours n.actor order)) (eq-eqb n.actor n.actor refl)

ours_other : (n : Note) (i : ℕ) (order : List Note) → (i ≡ n.actor → ⊥) → ours i (n ∷ order) ≡ ours i order
ours_other n i order apart = ap (λ b. cond b (n ∷ ours i order) (ours i order)) (ne_eqb n.actor i (λ same. apart (sym same)))

some_app : (ds : List AppDuty) (a : AppState) (x : Ask) → app_asks_first ds a ≡ Some x → is_nil ds ≡ false
some_app = elim [ [] ↦ λ a x is. cc | d ∷ ds ↦ λ a x is. refl ]

same_list : {X : Type 0} (xs ys : List X) → length xs ≡ length ys → ((i : ℕ) (x y : X) → slice_get xs i ≡ Some x → slice_get ys i ≡ Some y → y ≡ x) → xs ≡ ys
same_list [] [] many each = refl
same_list [] (y ∷ ys) many each = absurd (omega (arith, many))
same_list (x ∷ xs) [] many each = absurd (omega (arith, many))
same_list (x ∷ xs) (y ∷ ys) many each =
    ap (λ z. z ∷ xs) (sym (each 0 x y refl refl)) ∙ ap (λ zs. y ∷ zs) (same_list xs ys (omega (arith, many)) (λ i a b at_a at_b. each (suc i) a b at_a at_b))

module _ {C : Type 0} where
  some_path : (k : Codec C) (ds : List Duty) (p : PathState C) (x : Ask) → asks_first k ds p ≡ Some x → is_nil ds ≡ false
  some_path k [] p x is = cc
  some_path k (d ∷ ds) p x is = refl

  -- who asks hasn't ended
  pub asks_on : (k : Codec C) (m : Actor C) (x : Ask) → member_asks k m ≡ Some x → is_over m ≡ false
  asks_on k (App a) x is = some_app a.agenda a x is
  asks_on k (Path p) x is = some_path k p.agenda p x is

  -- ---- what fits

  -- the order's notes of each actor are the steps that it made, and its calls at each book what the journal gained
  pub record OrderFits (k : Codec C) (order : List Note) (w v : WorldState C) : Type 0 where
    pub many : length w.crew ≡ length v.crew
    pub known : (n : Note) → In n order → n.actor < length w.crew
    pub crew : (i : ℕ) (c d : ActorCrew C) → slice_get w.crew i ≡ Some c → slice_get v.crew i ≡ Some d → AreStepsOf k (ours i order) c × (d ≡ after_notes k (ours i order) c)
    pub books : BooksFit order w.books v.books

  -- ---- the first step

  pub record FirstRuns (k : Codec C) (n : Note) (order : List Note) (w v : WorldState C) : Type 0 where
    pub goes : is_going n.actor w ≡ true
    pub rest : OrderFits k order (world_step k n.actor w) v

  made_step : (k : Codec C) (n : Note) (order : List Note) (w v : WorldState C) → OrderFits k (n ∷ order) w v → (c d : ActorCrew C)
      → slice_get w.crew n.actor ≡ Some c → slice_get v.crew n.actor ≡ Some d → FirstRuns k n order w v
  made_step k n order w v h c d there there_d =
      let steps = subst (λ ns. AreStepsOf k ns c × (d ≡ after_notes k ns c)) (ours_first n order) (h.crew n.actor c d there there_d) in
      let own : IsStepOf k n c = steps.0.0 in
      let books = step_fits n.stamp n.seen n.actor n.reply order w.books v.books c.pass own.seen own.actor n.ask h.books own.local in
      let after : WorldState C = asked k n.actor (Some n.ask) c w in
      let same : world_step k n.actor w ≡ after = ap (λ o. stepped k n.actor o w) there ∙ ap (λ o. asked k n.actor o c w) own.asked in
      let made : after_note k n c ≡ crew_after k n.ask w.books c = ap (λ m. after_note k m c) books.note_is in
      record {
        goes = ap goes there ∙ ap not (asks_on k c.member n.ask own.asked);
        rest = subst (λ u. OrderFits k order u v) (sym same) (record {
          many = length-set w.crew n.actor (crew_after k n.ask w.books c) ∙ h.many;
          known = λ m at. let within = h.known m (inr at) in omega (arith, within, length-set w.crew n.actor (crew_after k n.ask w.books c));
          crew = λ i x y at_x at_y. ⊎_elim
              (λ here. first_goes i x y made here.0 here.1 at_y steps)
              (λ other. subst (λ ns. AreStepsOf k ns x × (y ≡ after_notes k ns x)) (ours_other n i order other.0) (h.crew i x y other.1 at_y))
              (in_set w.crew n.actor (crew_after k n.ask w.books c) i x at_x);
          books = books.rest;
        });
      }
    where
      first_goes : (i : ℕ) (x y : ActorCrew C) → after_note k n c ≡ crew_after k n.ask w.books c → i ≡ n.actor → crew_after k n.ask w.books c ≡ x → slice_get v.crew i ≡ Some y
          → AreStepsOf k (n ∷ ours n.actor order) c × (d ≡ after_notes k (n ∷ ours n.actor order) c) → AreStepsOf k (ours i order) x × (y ≡ after_notes k (ours i order) x)
      first_goes i x y made here is at_y steps =
          let d_is : d ≡ y = same_Some d y (sym there_d ∙ ap (slice_get v.crew) (sym here) ∙ at_y) in
          subst (λ j. AreStepsOf k (ours j order) x × (y ≡ after_notes k (ours j order) x)) (sym here)
          (subst (λ z. AreStepsOf k (ours n.actor order) z × (y ≡ after_notes k (ours n.actor order) z)) (made ∙ is)
          (steps.0.1, sym d_is ∙ steps.1))

  first_runs : (k : Codec C) (n : Note) (order : List Note) (w v : WorldState C) → OrderFits k (n ∷ order) w v → FirstRuns k n order w v
  first_runs k n order w v h =
      let within = h.known n (inl refl) in
      let c = item_at w.crew n.actor within in
      let d = item_at v.crew n.actor (omega (arith, within, h.many)) in
      made_step k n order w v h c.0 d.0 c.1 d.1

  -- ---- all steps

  run_ends : (k : Codec C) (w v : WorldState C) → OrderFits k [] w v → w ≡ v
  run_ends k w v h =
      let crew : w.crew ≡ v.crew = same_list w.crew v.crew h.many (λ i x y at_x at_y. (h.crew i x y at_x at_y).1) in
      ap (λ c. record w { crew = c }) crew ∙ ap (λ b. record v { books = b }) (books_end w.books v.books h.books)

  -- such an order runs
  pub record Runs (k : Codec C) (order : List Note) (w v : WorldState C) : Type 0 where
    pub lawful : AreLawful k (steps_by (map (λ n. n.actor) order)) w
    pub ends : world_run k (steps_by (map (λ n. n.actor) order)) w ≡ v

  pub order_runs : (k : Codec C) (order : List Note) (w v : WorldState C) → OrderFits k order w v → Runs k order w v
  order_runs k [] w v h = record { lawful = tt; ends = run_ends k w v h }
  order_runs k (n ∷ order) w v h =
      let first = first_runs k n order w v h in
      let rest = order_runs k order (world_step k n.actor w) v first.rest in
      record { lawful = (first.goes, rest.lawful); ends = rest.ends }
