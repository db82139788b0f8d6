-- Each step of a seat keeps the rule of a berth.
--
-- `givers_step` and `workers_step` find the seat's place once; what is left of a step is a table by cases of what the other one knows.
use Rattle.berth.proofs.Words.{◌≡◌, refl, sym, ◌∙◌, ap, subst, ℕ, zero, suc, ◌⊎◌, inl, inr, Bool, true, false, List, [], ◌∷◌, Option, Some, None, eqb, ◌≢◌, ne_eqb, set, ◌++◌, arith}
use Rattle.berth.proofs.Words.{slice_index, some, none, some-injective, some-ne-none, get_elem?, either, Act, keeps, takes, gives, Allows, Valid, homes_after, carried_after, opening, Splits, exchanged, rest, given, HasDone, HasJob}
use Rattle.berth.proofs.Words.{View, Both, Rests, Opened, Awaits, Free, Works, Mine, Home, OpenedWhere, IsOpened, IsGiven, RecalledWhere, IsRecalled, HasBack, FetchedWhere, IsFetched, AtRest, IsSame, TakenWhere, IsTaken, IsFree, IsGivers, IsWorkers, IsWork, IsDone, Stands, AreSeated, IsBerthed}

module _ {W : Type 0} where
  giver_cases : (P : View W → Type 0) → P Rests → P Opened → ((job : W) → P (Awaits job)) → (v : View W) → IsGivers v → P v
  giver_cases P rests opened awaits Both own = absurd own
  giver_cases P rests opened awaits Rests own = rests
  giver_cases P rests opened awaits Opened own = opened
  giver_cases P rests opened awaits (Awaits job) own = awaits job
  giver_cases P rests opened awaits Free own = absurd own
  giver_cases P rests opened awaits (Works job) own = absurd own

  worker_cases : (P : View W → Type 0) → P Free → ((job : W) → P (Works job)) → (v : View W) → IsWorkers v → P v
  worker_cases P free works Both own = absurd own
  worker_cases P free works Rests own = absurd own
  worker_cases P free works Opened own = absurd own
  worker_cases P free works (Awaits job) own = absurd own
  worker_cases P free works Free own = free
  worker_cases P free works (Works job) own = works job

  never_both : (v : View W) → IsGivers v → IsWorkers v → ⊥
  never_both v own = giver_cases (λ v. IsWorkers v → ⊥) (λ e. e) (λ e. e) (λ job e. e) v own

  module _ (may : W → Type 0) (does : W → W → Type 0) where
    -- where a view of the giver's stands, beside the worker's
    givers_place : (word : ℕ) (home : Home W) (views : List (View W)) (seat : ℕ) (v : View W) → AreSeated may does word home views → get_elem? views seat ≡ some v → IsGivers v
        → (w : View W) × (seat ≡ 0) × (views ≡ v ∷ w ∷ []) × IsWorkers w × Stands may does word home v w
    givers_place word home [] seat v seats at own = absurd seats
    givers_place word home (u ∷ []) zero v seats at own = absurd (subst IsGivers (sym (some-injective u v at) ∙ seats.0) own)
    givers_place word home (u ∷ []) (suc seat) v seats at own = absurd (some-ne-none v (sym at))
    givers_place word home (u ∷ w ∷ []) zero v seats at own =
        let same : u ≡ v = some-injective u v at in
        (w, refl, ap (λ x. x ∷ w ∷ []) same, seats.1, subst (λ x. Stands may does word home x w) same seats.2)
    givers_place word home (u ∷ w ∷ []) (suc zero) v seats at own = absurd (never_both v own (subst IsWorkers (some-injective w v at) seats.1))
    givers_place word home (u ∷ w ∷ []) (suc (suc seat)) v seats at own = absurd (some-ne-none v (sym at))
    givers_place word home (u ∷ w ∷ x ∷ views) seat v seats at own = absurd seats

    -- where a view of the worker's stands, beside the giver's
    workers_place : (word : ℕ) (home : Home W) (views : List (View W)) (seat : ℕ) (v : View W) → AreSeated may does word home views → get_elem? views seat ≡ some v → IsWorkers v
        → (u : View W) × (seat ≡ 1) × (views ≡ u ∷ v ∷ []) × IsGivers u × Stands may does word home u v
    workers_place word home [] seat v seats at own = absurd seats
    workers_place word home (u ∷ []) zero v seats at own = absurd (subst IsWorkers (sym (some-injective u v at) ∙ seats.0) own)
    workers_place word home (u ∷ []) (suc seat) v seats at own = absurd (some-ne-none v (sym at))
    workers_place word home (u ∷ w ∷ []) zero v seats at own = absurd (never_both v (subst IsGivers (some-injective u v at) seats.0) own)
    workers_place word home (u ∷ w ∷ []) (suc zero) v seats at own =
        let same : w ≡ v = some-injective w v at in
        (u, refl, ap (λ x. u ∷ x ∷ []) same, seats.0, subst (λ x. Stands may does word home u x) same seats.2)
    workers_place word home (u ∷ w ∷ []) (suc (suc seat)) v seats at own = absurd (some-ne-none v (sym at))
    workers_place word home (u ∷ w ∷ x ∷ views) seat v seats at own = absurd seats

    -- a step of the giver's beside a worker that knows this
    abbrev GiverStep : Mine W → (ℕ → ℕ) → (ℕ → Mine W → Type 0) → ℕ → Home W → View W → Type 0
    GiverStep me f then word home w =
        (v : View W) × (a : Act (Option W)) × (h : Home W) × IsGivers v × Valid (home ∷ []) me.1 a × (homes_after (home ∷ []) me.1 a ≡ h ∷ [])
        × Stands may does (f word) h v w × then word (v, carried_after me.1 a)

    -- a step of the worker's beside a giver that knows this
    abbrev WorkerStep : Mine W → (ℕ → ℕ) → (ℕ → Mine W → Type 0) → ℕ → Home W → View W → Type 0
    WorkerStep me f then word home u =
        (v : View W) × (a : Act (Option W)) × (h : Home W) × IsWorkers v × Valid (home ∷ []) me.1 a × (homes_after (home ∷ []) me.1 a ≡ h ∷ [])
        × Stands may does (f word) h u v × then word (v, carried_after me.1 a)

    givers_step : (slots seat : ℕ) (me : Mine W) (f : ℕ → ℕ) (then : ℕ → Mine W → Type 0) → IsGivers me.0
        → ((word : ℕ) (home : Home W) (w : View W) → IsWorkers w → Stands may does word home me.0 w → GiverStep me f then word home w)
        → Allows (IsBerthed may does) slots seat me 0 f then
    givers_step slots seat me f then own steps s kept wide at small =
        let place = givers_place kept.word kept.home s.views seat me.0 kept.seats at own in
        let made = steps kept.word kept.home place.0 place.3 place.4 in
        let found : kept.word ≡ slice_index s.words 0 = sym (ap (λ ws. slice_index ws 0) kept.words) in
        let views : set s.views seat made.0 ≡ made.0 ∷ place.0 ∷ []
        = ap (λ vs. set vs seat made.0) place.2 ∙ ap (λ k. set (me.0 ∷ place.0 ∷ []) k made.0) place.1 in (
          made.0,
          made.1,
          subst (λ hs. Valid hs me.1 made.1) (sym kept.homes) made.4,
          record {
            word = f (slice_index s.words 0);
            home = made.2;
            words = ap (λ ws. set ws 0 (f (slice_index s.words 0))) kept.words;
            homes = ap (λ hs. homes_after hs me.1 made.1) kept.homes ∙ made.5;
            seats = subst (λ vs. AreSeated may does (f (slice_index s.words 0)) made.2 vs) (sym views)
                (made.3, place.3, subst (λ n. Stands may does (f n) made.2 made.0 place.0) found made.6);
          },
          subst (λ n. then n (made.0, carried_after me.1 made.1)) found made.7,
        )

    workers_step : (slots seat : ℕ) (me : Mine W) (f : ℕ → ℕ) (then : ℕ → Mine W → Type 0) → IsWorkers me.0
        → ((word : ℕ) (home : Home W) (u : View W) → IsGivers u → Stands may does word home u me.0 → WorkerStep me f then word home u)
        → Allows (IsBerthed may does) slots seat me 0 f then
    workers_step slots seat me f then own steps s kept wide at small =
        let place = workers_place kept.word kept.home s.views seat me.0 kept.seats at own in
        let made = steps kept.word kept.home place.0 place.3 place.4 in
        let found : kept.word ≡ slice_index s.words 0 = sym (ap (λ ws. slice_index ws 0) kept.words) in
        let views : set s.views seat made.0 ≡ place.0 ∷ made.0 ∷ []
        = ap (λ vs. set vs seat made.0) place.2 ∙ ap (λ k. set (place.0 ∷ me.0 ∷ []) k made.0) place.1 in (
          made.0,
          made.1,
          subst (λ hs. Valid hs me.1 made.1) (sym kept.homes) made.4,
          record {
            word = f (slice_index s.words 0);
            home = made.2;
            words = ap (λ ws. set ws 0 (f (slice_index s.words 0))) kept.words;
            homes = ap (λ hs. homes_after hs me.1 made.1) kept.homes ∙ made.5;
            seats = subst (λ vs. AreSeated may does (f (slice_index s.words 0)) made.2 vs) (sym views)
                (place.3, made.3, subst (λ n. Stands may does (f n) made.2 place.0 made.0) found made.6);
          },
          subst (λ n. then n (made.0, carried_after me.1 made.1)) found made.7,
        )

    -- ---- the giver's steps

    opens_where : (word : ℕ) (home : Home W) (b : Bool) → eqb word 0 ≡ b → Stands may does word home Rests Free
        → GiverStep (Rests, []) (λ n. n) (IsOpened (Rests, [])) word home Free
    opens_where word home true test stands =
        (Opened, takes 0 None, none, tt, ap (λ h. get_elem? (h ∷ []) 0) stands.0, refl, (refl, stands.1), subst (λ b. OpenedWhere {W = W} b (Rests, []) (Opened, (0, None) ∷ [])) (sym test) refl)
    opens_where word home false test stands =
        (Rests, keeps, home, tt, tt, refl, stands, subst (λ b. OpenedWhere {W = W} b (Rests, []) (Rests, [])) (sym test) refl)

    -- it is looked whether the worker is at rest
    pub opens : (slots seat : ℕ) (me : Mine W) → me ≡ (Rests, []) → Allows (IsBerthed may does) slots seat me 0 (λ n. n) (IsOpened me)
    opens slots seat me is = subst (λ m. Allows (IsBerthed may does) slots seat m 0 (λ n. n) (IsOpened m)) (sym is)
        (givers_step slots seat (Rests, []) (λ n. n) (IsOpened (Rests, [])) tt (λ word home w own. worker_cases
        (λ w. Stands may does word home Rests w → GiverStep (Rests, []) (λ n. n) (IsOpened (Rests, [])) word home w)
        (λ stands. opens_where word home (eqb word 0) refl stands) (λ job stands. absurd stands) w own))

    -- the job is given
    pub given_on : (slots seat : ℕ) (me : Mine W) (job : W) → me ≡ (Opened, (0, Some job) ∷ []) → may job
        → Allows (IsBerthed may does) slots seat me 0 (λ _. 1) (λ _. IsGiven me 1)
    given_on slots seat me job is can = subst (λ m. Allows (IsBerthed may does) slots seat m 0 (λ _. 1) (λ _. IsGiven m 1)) (sym is)
        (givers_step slots seat (Opened, (0, Some job) ∷ []) (λ _. 1) (λ _. IsGiven (Opened, (0, Some job) ∷ []) 1) tt (λ word home w own. worker_cases
        (λ w. Stands may does word home Opened w → GiverStep (Opened, (0, Some job) ∷ []) (λ _. 1) (λ _. IsGiven (Opened, (0, Some job) ∷ []) 1) word home w)
        (λ stands. (Awaits job, gives, some (Some job), tt, tt, refl, inl (record { one = refl; slot = refl; can = can }), refl)) (λ other stands. absurd stands) w own))

    fetches_where : (job : W) (word : ℕ) (home : Home W) → IsWork may does word home job ⊎ IsDone may does word home job
        → GiverStep (Awaits job, []) (λ n. n) (IsFetched does (Awaits job, [])) word home Free
    fetches_where job word home (inl work) =
        (Awaits job, keeps, home, tt, tt, refl, inl work, subst (λ b. FetchedWhere {W = W} does b (Awaits job, []) (Awaits job, [])) (sym (ap (λ n. eqb n 2) work.one)) refl)
    fetches_where job word home (inr is) = (
      Opened,
      takes 0 (Some is.done),
      none,
      tt,
      ap (λ h. get_elem? (h ∷ []) 0) is.slot,
      refl,
      (refl, λ one. omega (arith, is.two, one)),
      subst (λ b. FetchedWhere {W = W} does b (Awaits job, []) (Opened, (0, Some is.done) ∷ [])) (sym (ap (λ n. eqb n 2) is.two)) (is.done, is.made, refl),
    )

    -- it is looked whether the job is done
    pub fetches : (slots seat : ℕ) (me : Mine W) (job : W) → me ≡ (Awaits job, []) → Allows (IsBerthed may does) slots seat me 0 (λ n. n) (IsFetched does me)
    fetches slots seat me job is = subst (λ m. Allows (IsBerthed may does) slots seat m 0 (λ n. n) (IsFetched does m)) (sym is)
        (givers_step slots seat (Awaits job, []) (λ n. n) (IsFetched does (Awaits job, [])) tt (λ word home w own. worker_cases
        (λ w. Stands may does word home (Awaits job) w → GiverStep (Awaits job, []) (λ n. n) (IsFetched does (Awaits job, [])) word home w)
        (λ stands. fetches_where job word home stands)
        (λ same stands. (Awaits job, keeps, home, tt, tt, refl, stands, subst (λ b. FetchedWhere {W = W} does b (Awaits job, []) (Awaits job, [])) (sym (ap (λ n. eqb n 2) stands.1)) refl))
        w own))

    recalls_where : (job : W) (word : ℕ) (home : Home W) → IsWork may does word home job ⊎ IsDone may does word home job
        → GiverStep (Awaits job, []) (λ n. either (eqb n 1) 0 n) (IsRecalled (Awaits job, [])) word home Free
    recalls_where job word home (inl work) =
        let rests : either (eqb word 1) 0 word ≡ 0 = ap (λ n. either (eqb n 1) 0 n) work.one in (
          Opened,
          takes 0 (Some job),
          none,
          tt,
          ap (λ h. get_elem? (h ∷ []) 0) work.slot,
          refl,
          (refl, λ one. omega (arith, rests, one)),
          subst (λ b. RecalledWhere {W = W} b (Awaits job, []) (Opened, (0, Some job) ∷ [])) (sym (ap (λ n. eqb n 1) work.one)) refl,
        )
    recalls_where job word home (inr is) = (
      Awaits job,
      keeps,
      home,
      tt,
      tt,
      refl,
      exchanged word 1 0 (λ n. Stands may does n home (Awaits job) Free) (λ one. absurd (omega (arith, is.two, one))) (λ other. inr is),
      subst (λ b. RecalledWhere {W = W} b (Awaits job, []) (Awaits job, [])) (sym (ap (λ n. eqb n 1) is.two)) refl,
    )

    -- the job is taken back, where nobody has begun it
    pub recalls : (slots seat : ℕ) (me : Mine W) (job : W) → me ≡ (Awaits job, [])
        → Allows (IsBerthed may does) slots seat me 0 (λ n. either (eqb n 1) 0 n) (IsRecalled me)
    recalls slots seat me job is = subst (λ m. Allows (IsBerthed may does) slots seat m 0 (λ n. either (eqb n 1) 0 n) (IsRecalled m)) (sym is)
        (givers_step slots seat (Awaits job, []) (λ n. either (eqb n 1) 0 n) (IsRecalled (Awaits job, [])) tt (λ word home w own. worker_cases
        (λ w. Stands may does word home (Awaits job) w → GiverStep (Awaits job, []) (λ n. either (eqb n 1) 0 n) (IsRecalled (Awaits job, [])) word home w)
        (λ stands. recalls_where job word home stands)
        (λ same stands. (
          Awaits job,
          keeps,
          home,
          tt,
          tt,
          refl,
          exchanged word 1 0 (λ n. Stands may does n home (Awaits job) (Works same)) (λ one. absurd (omega (arith, stands.1, one))) (λ other. stands),
          subst (λ b. RecalledWhere {W = W} b (Awaits job, []) (Awaits job, [])) (sym (ap (λ n. eqb n 1) stands.1)) refl,
        ))
        w own))

    -- the empty slot is given back
    pub rests : (slots seat : ℕ) (me : Mine W) → me ≡ (Opened, (0, None) ∷ []) → Allows (IsBerthed may does) slots seat me 0 (λ _. 0) (λ _. AtRest)
    rests slots seat me is = subst (λ m. Allows (IsBerthed may does) slots seat m 0 (λ _. 0) (λ _. AtRest)) (sym is)
        (givers_step slots seat (Opened, (0, None) ∷ []) (λ _. 0) (λ _. AtRest) tt (λ word home w own. worker_cases
        (λ w. Stands may does word home Opened w → GiverStep (Opened, (0, None) ∷ []) (λ _. 0) (λ _. AtRest) word home w)
        (λ stands. (Rests, gives, some None, tt, tt, refl, (refl, (λ e. omega (arith, e)), (λ e. omega (arith, e))), refl)) (λ other stands. absurd stands) w own))

    -- no more work comes
    pub ends : (slots seat : ℕ) (me : Mine W) → me ≡ (Rests, []) → Allows (IsBerthed may does) slots seat me 0 (λ _. 3) (λ _. IsSame me)
    ends slots seat me is = subst (λ m. Allows (IsBerthed may does) slots seat m 0 (λ _. 3) (λ _. IsSame m)) (sym is)
        (givers_step slots seat (Rests, []) (λ _. 3) (λ _. IsSame (Rests, [])) tt (λ word home w own. worker_cases
        (λ w. Stands may does word home Rests w → GiverStep (Rests, []) (λ _. 3) (λ _. IsSame (Rests, [])) word home w)
        (λ stands. (Rests, keeps, home, tt, tt, refl, (stands.0, (λ e. omega (arith, e)), (λ e. omega (arith, e))), refl)) (λ other stands. absurd stands) w own))

    -- ---- the worker's steps

    came : (word : ℕ) (home : Home W) (u : View W) → IsGivers u → word ≡ 4 → Stands may does word home u Free → Stands may does 0 home u Free
    came word home u own four = giver_cases (λ u. Stands may does word home u Free → Stands may does 0 home u Free)
        (λ stands. (stands.0, (λ e. omega (arith, e)), (λ e. omega (arith, e))))
        (λ stands. (stands.0, (λ e. omega (arith, e))))
        (λ job stands. absurd (never job stands))
        u own
      where
        never : (job : W) → IsWork may does word home job ⊎ IsDone may does word home job → ⊥
        never job (inl work) = omega (arith, work.one, four)
        never job (inr is) = omega (arith, is.two, four)

    -- the worker has come
    pub arrives : (slots seat : ℕ) (me : Mine W) → me ≡ (Free, []) → Allows (IsBerthed may does) slots seat me 0 (λ n. either (eqb n 4) 0 n) (λ _. IsSame me)
    arrives slots seat me is = subst (λ m. Allows (IsBerthed may does) slots seat m 0 (λ n. either (eqb n 4) 0 n) (λ _. IsSame m)) (sym is)
        (workers_step slots seat (Free, []) (λ n. either (eqb n 4) 0 n) (λ _. IsSame (Free, [])) tt (λ word home u own stands. (
          Free,
          keeps,
          home,
          tt,
          tt,
          refl,
          exchanged word 4 0 (λ n. Stands may does n home u Free) (λ four. came word home u own four stands) (λ other. stands),
          refl,
        )))

    takes_where : (job : W) (word : ℕ) (home : Home W) → IsWork may does word home job ⊎ IsDone may does word home job
        → WorkerStep (Free, []) (λ n. either (eqb n 1) 5 n) (IsTaken may (Free, [])) word home (Awaits job)
    takes_where job word home (inl work) = (
      Works job,
      takes 0 (Some job),
      none,
      tt,
      ap (λ h. get_elem? (h ∷ []) 0) work.slot,
      refl,
      (refl, ap (λ n. either (eqb n 1) 5 n) work.one, refl),
      subst (λ b. TakenWhere {W = W} may b (Free, []) (Works job, (0, Some job) ∷ [])) (sym (ap (λ n. eqb n 1) work.one)) (job, work.can, refl),
    )
    takes_where job word home (inr is) = (
      Free,
      keeps,
      home,
      tt,
      tt,
      refl,
      exchanged word 1 5 (λ n. Stands may does n home (Awaits job) Free) (λ one. absurd (omega (arith, is.two, one))) (λ other. inr is),
      subst (λ b. TakenWhere {W = W} may b (Free, []) (Free, [])) (sym (ap (λ n. eqb n 1) is.two)) refl,
    )

    -- there is no work to begin
    no_work : (word : ℕ) (home : Home W) (u : View W) → word ≢ 1 → Stands may does word home u Free
        → WorkerStep (Free, []) (λ n. either (eqb n 1) 5 n) (IsTaken may (Free, [])) word home u
    no_work word home u idle stands = (
      Free,
      keeps,
      home,
      tt,
      tt,
      refl,
      exchanged word 1 5 (λ n. Stands may does n home u Free) (λ one. absurd (idle one)) (λ other. stands),
      subst (λ b. TakenWhere {W = W} may b (Free, []) (Free, [])) (sym (ne_eqb word 1 idle)) refl,
    )

    -- the work is begun, where there is some
    pub takes_work : (slots seat : ℕ) (me : Mine W) → me ≡ (Free, []) → Allows (IsBerthed may does) slots seat me 0 (λ n. either (eqb n 1) 5 n) (IsTaken may me)
    takes_work slots seat me is = subst (λ m. Allows (IsBerthed may does) slots seat m 0 (λ n. either (eqb n 1) 5 n) (IsTaken may m)) (sym is)
        (workers_step slots seat (Free, []) (λ n. either (eqb n 1) 5 n) (IsTaken may (Free, [])) tt (λ word home u own. giver_cases
        (λ u. Stands may does word home u Free → WorkerStep (Free, []) (λ n. either (eqb n 1) 5 n) (IsTaken may (Free, [])) word home u)
        (λ stands. no_work word home Rests stands.1 stands)
        (λ stands. no_work word home Opened stands.1 stands)
        (λ job stands. takes_where job word home stands)
        u own))

    -- the work is done
    pub finishes : (slots seat : ℕ) (me : Mine W) (job done : W) → me ≡ (Works job, (0, Some done) ∷ []) → does job done
        → Allows (IsBerthed may does) slots seat me 0 (λ _. 2) (λ _. IsFree)
    finishes slots seat me job done is made = subst (λ m. Allows (IsBerthed may does) slots seat m 0 (λ _. 2) (λ _. IsFree)) (sym is)
        (workers_step slots seat (Works job, (0, Some done) ∷ []) (λ _. 2) (λ _. IsFree) tt (λ word home u own. giver_cases
        (λ u. Stands may does word home u (Works job) → WorkerStep (Works job, (0, Some done) ∷ []) (λ _. 2) (λ _. IsFree) word home u)
        (λ stands. absurd stands)
        (λ stands. absurd stands)
        (λ same stands. (Free, gives, some (Some done), tt, tt, refl, inr (record { done = done; two = refl; slot = refl; made = subst (λ x. does x done) stands.2 made }), refl))
        u own))

    -- ---- how it begins

    pub begins : IsBerthed may does (opening (4 ∷ []) (None ∷ []) Both)
    begins = record { word = 4; home = some None; words = refl; homes = refl; seats = (refl, refl, (λ e. omega (arith, e)), (λ e. omega (arith, e))) }

    both_place : (word : ℕ) (home : Home W) (views : List (View W)) (seat : ℕ) → AreSeated may does word home views → get_elem? views seat ≡ some Both
        → (seat ≡ 0) × (views ≡ Both ∷ []) × (home ≡ some None) × (word ≢ 1) × (word ≢ 2)
    both_place word home [] seat seats at = absurd seats
    both_place word home (u ∷ []) zero seats at = (refl, ap (λ x. x ∷ []) seats.0, seats.1, seats.2, seats.3)
    both_place word home (u ∷ []) (suc seat) seats at = absurd (some-ne-none Both (sym at))
    both_place word home (u ∷ w ∷ []) zero seats at = absurd (subst IsGivers (some-injective u Both at) seats.0)
    both_place word home (u ∷ w ∷ []) (suc zero) seats at = absurd (subst IsWorkers (some-injective w Both at) seats.1)
    both_place word home (u ∷ w ∷ []) (suc (suc seat)) seats at = absurd (some-ne-none Both (sym at))
    both_place word home (u ∷ w ∷ x ∷ views) seat seats at = absurd seats

    -- the seat becomes the giver's and the worker's
    pub parts : (seat : ℕ) (v : View W) → v ≡ Both → Splits (IsBerthed may does) seat v Rests Free
    parts seat v is s kept at =
        let place = both_place kept.word kept.home s.views seat kept.seats (at ∙ ap some is) in
        record {
          word = kept.word;
          home = kept.home;
          words = kept.words;
          homes = kept.homes;
          seats = subst (λ vs. AreSeated may does kept.word kept.home (vs ++ Free ∷ []))
              (sym (ap (λ vs. set vs seat Rests) place.1 ∙ ap (λ k. set (Both ∷ []) k Rests) place.0)) (tt, tt, (place.2, place.3, place.4));
        }

-- ---- what the steps told

module _ {W : Type 0} where
  -- what lies in the slot that a seat has
  pub in_slot : (me : Mine W) (view : View W) (x : Option W) → me ≡ (view, (0, x) ∷ []) → (old : Option W) × (me.1 ≡ (0, old) ∷ rest me.1)
  in_slot me view x is = (x, ap (λ (m : Mine W). m.1) is ∙ ap (λ (m : Mine W). (0, x) ∷ rest m.1) (sym is))

  -- after an exchange
  pub swapped : (me after : Mine W) (view : View W) (x y : Option W) → me ≡ (view, (0, x) ∷ []) → after ≡ (me.0, (0, y) ∷ rest me.1) → after ≡ (view, (0, y) ∷ [])
  swapped me after view x y is swaps = swaps ∙ ap (λ (m : Mine W). (m.0, (0, y) ∷ rest m.1)) is

  pub is_given : (me after : Mine W) (view : View W) (job : W) (x : Option W) → me ≡ (view, (0, x) ∷ []) → after ≡ (me.0, (0, Some job) ∷ rest me.1)
      → after ≡ (view, (0, Some job) ∷ [])
  is_given me after view job x is swaps = swapped me after view x (Some job) is swaps

  pub after_given : (me after : Mine W) (job : W) → me ≡ (Opened, (0, Some job) ∷ []) → IsGiven me 1 after → after ≡ (Awaits job, [])
  after_given me after job is told = told ∙ ap (λ (m : Mine W). (given m.1, [])) is

  -- what an exchange found
  found_in : (me : Mine W) (view : View W) (x y : Option W) → me ≡ (view, (0, x) ∷ []) → me.1 ≡ (0, y) ∷ rest me.1 → y ≡ x
  found_in me view x y is found = ap (λ (l : List (ℕ × Option W)). slot_of l) (sym found ∙ ap (λ (m : Mine W). m.1) is)
    where
      slot_of : List (ℕ × Option W) → Option W
      slot_of [] = None
      slot_of (z ∷ zs) = z.1

  pub not_none : (me : Mine W) (view : View W) (job : W) (found : Option W) → me ≡ (view, (0, Some job) ∷ []) → me.1 ≡ (0, found) ∷ rest me.1 → found ≡ None → ⊥
  not_none me view job found is there nothing = let same : found ≡ Some job = found_in me view (Some job) found is there in cc

  same_job : (me : Mine W) (view : View W) (old : W) (found : Option W) (job : W) → me ≡ (view, (0, Some old) ∷ []) → me.1 ≡ (0, found) ∷ rest me.1 → found ≡ Some job → old ≡ job
  same_job me view old found job is there seen = let same : found ≡ Some old = found_in me view (Some old) found is there in cc

  pub was_in_slot : (me : Mine W) (view : View W) (old : W) (found : Option W) (job : W) → me ≡ (view, (0, Some old) ∷ []) → me.1 ≡ (0, found) ∷ rest me.1 → found ≡ Some job
      → me ≡ (view, (0, Some job) ∷ [])
  was_in_slot me view old found job is there seen = is ∙ ap (λ (w : W). (view, (0, Some w) ∷ [])) (same_job me view old found job is there seen)

  pub may_job : (may : W → Type 0) (me : Mine W) (found : Option W) (job : W) → HasJob may me → me.1 ≡ (0, found) ∷ rest me.1 → found ≡ Some job → may job
  may_job may me found job has there seen = subst may (same_job me (Works has.0) has.0 found job has.2 there seen) has.1

  pub works_job : (may : W → Type 0) (me after : Mine W) (found : Option W) (job : W) → HasJob may me → me.1 ≡ (0, found) ∷ rest me.1 → found ≡ Some job
      → after ≡ (me.0, (0, None) ∷ rest me.1) → after ≡ (Works job, (0, None) ∷ [])
  works_job may me after found job has there seen swaps = swapped me after (Works has.0) (Some has.0) None has.2 swaps
      ∙ ap (λ (w : W). (Works w, (0, None) ∷ [])) (same_job me (Works has.0) has.0 found job has.2 there seen)

  pub looked_opened : (found : ℕ) (me after : Mine W) → eqb found 0 ≡ true → IsOpened me found after → after ≡ (Opened, (0, None) ∷ [])
  looked_opened found me after is told = subst (λ b. OpenedWhere {W = W} b me after) is told

  pub looked_at_rest : (found : ℕ) (me after : Mine W) → me ≡ (Rests, []) → eqb found 0 ≡ false → IsOpened me found after → after ≡ (Rests, [])
  looked_at_rest found me after was is told = subst (λ b. OpenedWhere {W = W} b me after) is told ∙ was

  pub looked_done : (does : W → W → Type 0) (found : ℕ) (me after : Mine W) → eqb found 2 ≡ true → IsFetched does me found after → HasDone does me.0 after
  looked_done does found me after is told = subst (λ b. FetchedWhere {W = W} does b me after) is told

  pub looked_same : (does : W → W → Type 0) (found : ℕ) (me after : Mine W) → eqb found 2 ≡ false → IsFetched does me found after → after ≡ me
  looked_same does found me after is told = subst (λ b. FetchedWhere {W = W} does b me after) is told

  pub looked_back : (found : ℕ) (me after : Mine W) → eqb found 1 ≡ true → IsRecalled me found after → HasBack me.0 after
  looked_back found me after is told = subst (λ b. RecalledWhere {W = W} b me after) is told

  pub looked_begun : (found : ℕ) (me after : Mine W) → eqb found 1 ≡ false → IsRecalled me found after → after ≡ me
  looked_begun found me after is told = subst (λ b. RecalledWhere {W = W} b me after) is told

  pub looked_work : (may : W → Type 0) (found : ℕ) (me after : Mine W) → eqb found 1 ≡ true → IsTaken may me found after → HasJob may after
  looked_work may found me after is told = subst (λ b. TakenWhere {W = W} may b me after) is told

  pub looked_none : (may : W → Type 0) (found : ℕ) (me after : Mine W) → eqb found 1 ≡ false → IsTaken may me found after → after ≡ me
  looked_none may found me after is told = subst (λ b. TakenWhere {W = W} may b me after) is told
