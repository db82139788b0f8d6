-- Who lives by a side's control book is a path of the connection whose end is past the handshake, and lives, or its side is told next that it doesn't.
use Rattle.std.proofs.Common.{◌≡◌, refl, sym, subst, ap, ◌∙◌, ◌⊎◌, inl, inr, ⊎_elim, ℕ, ◌+◌, ◌≤◌, arith, true, false, true≢false, Some, List, [], ◌∷◌, map, set}
use Rattle.std.specs.List.{slice_get}
use Rattle.std.specs.Option.{option_map}
use Rattle.std.proofs.lemmas.Bool.{both_ways, cases_eq}
use Rattle.std.proofs.lemmas.Option.{same_Some, slice_get-map}
use Rattle.sides.specs.declared.side.Side.{Side}
use Rattle.sides.specs.declared.side.Side.TheVariants.{A, B}
use Rattle.control_book.specs.Registry.{lives}
use Rattle.stream_lanes.proofs.Lists.{in_map, in_set, set_other, set_same}
use Rattle.subflow_tcp.specs.States.{is_dead}
use Rattle.actor_desk.specs.Books.{books_in}
use Rattle.actor_desk.specs.Desk.{SixBooks, after_ask, control_of}
use Rattle.actor_desk.specs.Words.{is_nil}
use Rattle.actor_desk.specs.declared.ask.Ask.{Ask}
use Rattle.actor_desk.specs.declared.ask.Reply.{Reply}
use Rattle.stream_apps.specs.Apps.{AppState}
use Rattle.stream_apps.specs.AppSteps.{app_ask, app_asks_first}
use Rattle.stream_apps.specs.declared.duty.AppDuty.{AppDuty}
use Rattle.path_agenda.specs.Agenda.{start_of_turn}
use Rattle.path_agenda.specs.declared.duty.Duty.{Duty}
use Rattle.path_agenda.specs.declared.duty.Duty.TheVariants as duties
use Rattle.path_agenda.specs.declared.duty.AskDuty.TheVariants as ask_duties
use Rattle.path_agenda.specs.declared.duty.StepDuty.{StepDuty}
use Rattle.path_agenda.specs.declared.duty.StepDuty.TheVariants as step_duties
use Rattle.path_core.specs.Codec.{Codec}
use Rattle.path_core.specs.Breaking.{dead_ask}
use Rattle.path_core.specs.Duties.{answered, ask_for}
use Rattle.path_core.specs.Start.{first_turn, waiting_path}
use Rattle.path_core.specs.State.{PathState, end_at, path_of, with_agenda}
use Rattle.path_core.specs.Steps.{answers, asks_first, next_round, settled, takes}
use Rattle.path_core.specs.Turns.{FirstStands}
use Rattle.world_laws.specs.declared.member.Member.TheVariants.{App, Path}
use Rattle.world_laws.specs.Asking.{asking, may}
use Rattle.world_laws.specs.Actors.{Actor, ActorCrew, is_over, member_asks, member_next, member_takes}
use Rattle.world_laws.specs.Laws.{Always}
use Rattle.world_laws.specs.Openings.{Start, opened_world, path_begins}
use Rattle.world_laws.specs.StampedBooks.{answer_to}
use Rattle.world_laws.specs.Worlds.{WorldState, all_over, asked, begins, crew_after, greatest}
use Rattle.world_laws.proofs.Rounds.Frame.{first_keeps}
use Rattle.world_laws.proofs.Rounds.Lifting.{all_over_each}
use Rattle.world_laws.proofs.Weaving.Journals.{books_after}
use Rattle.world_laws.proofs.Worlds.Opened.{opened_actors}
use Rattle.world_laws.proofs.Worlds.Settled.{settled_settled}
use Rattle.world_laws.proofs.Worlds.Turns.{run_so}
use Rattle.world_laws.proofs.Writes.Asks.{asks_no_more}
use Rattle.whole_paths.specs.AsFar.{stage}
use Rattle.whole_paths.specs.Finish.{IsPathAt}
use Rattle.whole_paths.specs.Holders.{IsToLeave}
use Rattle.whole_paths.specs.Holders.{IsToLeave as leaving}
use Rattle.whole_paths.specs.LivingPaths.{IsToTell, LivingPathsLive, MayLive}
use Rattle.whole_paths.specs.LivingPaths.{IsToTell as telling}
use Rattle.whole_paths.proofs.Deaths.{begins_living}
use Rattle.whole_paths.proofs.GoesOn.{next_up, takes_up}
use Rattle.whole_paths.proofs.Holding.{IsNamed, next_named, takes_named}
use Rattle.whole_paths.proofs.Leaving.{Goes, answered_goes, settled_goes, stage_up}
use Rattle.whole_paths.proofs.LivesTold.{Stands, TellsOf, answered_tells, begins_tells, living_stands, settled_tells}
use Rattle.whole_paths.proofs.LivingBooks.{TellsLive, book_lived, none_lives, told_dead}

-- ---- agendas

-- an end that gives back its bytes tells it next
leaves_tells : (s : Side) (ds : List Duty) → IsToLeave s ds → IsToTell s ds
leaves_tells s ds (leaving.leaves others) = telling.leaves others
leaves_tells s ds (leaving.resets others) = telling.resets others
leaves_tells s ds (leaving.behind t others l) = telling.behind t others (leaves_tells s others l)
leaves_tells s ds (leaving.behind_dead t others l) = telling.behind_dead t others (leaves_tells s others l)

-- an agenda that is over has nothing to tell
never_tells : (s : Side) (ds : List Duty) → is_nil ds ≡ true → IsToTell s ds → ⊥
never_tells s ds none (telling.dies others) = absurd (true≢false (sym none))
never_tells s ds none (telling.leaves others) = absurd (true≢false (sym none))
never_tells s ds none (telling.resets others) = absurd (true≢false (sym none))
never_tells s ds none (telling.behind t others l) = absurd (true≢false (sym none))
never_tells s ds none (telling.behind_dead t others l) = absurd (true≢false (sym none))

-- ---- what tells that a path lives

app_tells_none : (s : Side) (number : ℕ) (d : AppDuty) (a : AppState) → TellsLive s number (app_ask d a) → ⊥
app_tells_none s number AppDuty.Write a tells = (let never = tells.is in cc)
app_tells_none s number _ a tells = (let never = tells.is in cc)

app_never : (s : Side) (number : ℕ) (x : Ask) (a : AppState) (ds : List AppDuty) → app_asks_first ds a ≡ Some x → TellsLive s number x → ⊥
app_never s number x a [] asking tells = cc
app_never s number x a (d ∷ ds) asking tells = app_tells_none s number d a (record { backup = tells.backup; is = same_Some (app_ask d a) x asking ∙ tells.is })

never_lives : (x : StepDuty) → (asking (duties.Step x)).lives ≡ false
never_lives step_duties.Events = refl
never_lives _ = refl

module _ {C : Type 0} (k : Codec C) where
  -- the path that tells it is the one that it tells it of, and its end lives
  record TellsOwn (s : Side) (number : ℕ) (p : PathState C) : Type 0 where
    own : number ≡ path_of p
    stands : Stands (end_at s p)

  duty_tells : (s : Side) (number : ℕ) (d : Duty) (ds : List Duty) (p : PathState C) → FirstStands (d ∷ ds) p → TellsOf (d ∷ ds) p → TellsLive s number (ask_for k d p) → TellsOwn s number p
  duty_tells s number (duties.Ask (ask_duties.Live t)) ds p stood tells a = record {
    own = (let is = a.is in cc);
    stands = subst (λ u. Stands (end_at u p)) (let is = a.is in cc) (living_stands k t ds p tells stood);
  }
  duty_tells s number (duties.Ask (ask_duties.Dead t)) ds p stood tells a = absurd (let never = a.is in cc)
  duty_tells s number (duties.Step x) ds p stood tells a = absurd (both_ways _ (never_lives x) (subst (λ (y : Ask). may (asking (duties.Step x)) y ≡ true) a.is (asks_no_more k p (duties.Step x)).kind))
  duty_tells s number d ds p stood tells a = absurd (true≢false (sym (subst (λ (x : Ask). may (asking d) x ≡ true) a.is (asks_no_more k p d).kind)))

  -- ---- a path

  -- who is to tell that it died does so still, or does so now
  tells_next : (s : Side) (d : Duty) (ds : List Duty) (r : Reply) (p : PathState C) → IsToTell s (d ∷ ds)
      → IsToTell s (answered k d r (with_agenda (d ∷ ds) p)).agenda ⊎ (d ≡ duties.Ask (ask_duties.Dead s))
  tells_next s d ds r p (telling.dies others) = inr refl
  tells_next s d ds r p (telling.leaves others) = inl (telling.dies ds)
  tells_next s d ds r p (telling.resets others) = inl (telling.leaves ds)
  tells_next s d ds r p (telling.behind t others l) = inl (telling.behind_dead t ds l)
  tells_next s d ds r p (telling.behind_dead t others l) = inl l

  tells_settled : (s : Side) (ds : List Duty) (p : PathState C) → IsToTell s ds → IsToTell s (settled ds p).agenda
  tells_settled s ds p (telling.dies others) = telling.dies others
  tells_settled s ds p (telling.leaves others) = telling.leaves others
  tells_settled s ds p (telling.resets others) = telling.resets others
  tells_settled s ds p (telling.behind t others l) = telling.behind t others l
  tells_settled s ds p (telling.behind_dead t others l) = telling.behind_dead t others l

  -- its side noted that it leaves: this is told next
  noted_tells : (s : Side) (d : Duty) (ds : List Duty) (r : Reply) (p : PathState C) → d ≡ duties.Ask (ask_duties.LeaveNoted s) → IsToTell s (takes k r (with_agenda (d ∷ ds) p)).agenda
  noted_tells s d ds r p is = subst (λ (e : Duty). IsToTell s (takes k r (with_agenda (e ∷ ds) p)).agenda) (sym is) (telling.dies ds)

  lives_on : (s : Side) (p q : PathState C) → Goes s p q → is_dead (end_at s p).tcp.state ≡ false → (is_dead (end_at s q).tcp.state ≡ false) ⊎ IsToTell s q.agenda
  lives_on s p q (inl x) alive = inl (x.living alive)
  lives_on s p q (inr l) alive = inr (leaves_tells s q.agenda l)

  -- who may live does so after the step, or tells by it that it doesn't
  may_live_on : (s : Side) (d : Duty) (ds : List Duty) (r : Reply) (p : PathState C) → p.agenda ≡ d ∷ ds → MayLive s p → MayLive s (takes k r p) ⊎ (ask_for k d p ≡ dead_ask s p)
  may_live_on s d ds r p first h = back (by h.past (subst (λ (agenda : List Duty). (is_dead (end_at s p).tcp.state ≡ false) ⊎ IsToTell s agenda) first h.lives))
    where
      x : PathState C
      x = with_agenda (d ∷ ds) p

      same : x ≡ p
      same = ap (λ (agenda : List Duty). with_agenda agenda p) (sym first)

      past_on : 3 ≤ stage (end_at s x).tcp.state → 3 ≤ stage (end_at s (takes k r x)).tcp.state
      past_on past = let up = stage_up s x (takes k r x) (takes_up k r x) in omega (arith, past, up)

      back : MayLive s (takes k r x) ⊎ (ask_for k d x ≡ dead_ask s x) → MayLive s (takes k r p) ⊎ (ask_for k d p ≡ dead_ask s p)
      back = subst (λ (y : PathState C). MayLive s (takes k r y) ⊎ (ask_for k d y ≡ dead_ask s y)) same

      by : 3 ≤ stage (end_at s x).tcp.state → (is_dead (end_at s x).tcp.state ≡ false) ⊎ IsToTell s (d ∷ ds) → MayLive s (takes k r x) ⊎ (ask_for k d x ≡ dead_ask s x)
      by past (inl alive) = inl (record {
        past = past_on past;
        lives = ⊎_elim (λ goes. lives_on s x (takes k r x) (settled_goes k s x (answered k d r x) goes) alive) (λ noted. inr (noted_tells s d ds r p noted)) ((answered_goes k d ds r p).each s);
      })
      by past (inr l) = ⊎_elim
          (λ still. inl (record { past = past_on past; lives = inr (tells_settled s (answered k d r x).agenda (answered k d r x) still) }))
          (λ now. inr (ap (λ (e : Duty). ask_for k e x) now))
          (tells_next s d ds r p l)

  -- ---- what a path knows of itself

  -- the actors behind both applications are the paths of their numbers, and tell rightly that they live
  abbrev pub TellsRightly : Actor C → Type 0
  TellsRightly (App a) = Unit {0}
  TellsRightly (Path p) = TellsOf p.agenda p

  answers_tell : (r : Reply) (p : PathState C) (ds : List Duty) → p.agenda ≡ ds → TellsOf p.agenda p → TellsOf ds p → let q : PathState C = answers k ds r p in TellsOf q.agenda q
  answers_tell r p [] first whole tells = whole
  answers_tell r p (d ∷ ds) first whole tells =
      subst (λ (x : PathState C). TellsOf (answered k d r x).agenda (answered k d r x)) (ap (λ (agenda : List Duty). with_agenda agenda p) (sym first)) (answered_tells k d ds r p tells)

  takes_rightly : (r : Reply) (m : Actor C) → TellsRightly m → TellsRightly (member_takes k r m)
  takes_rightly r (App a) h = tt
  takes_rightly r (Path p) h = let q : PathState C = answers k p.agenda r p in settled_tells k q.agenda q (answers_tell r p p.agenda refl h h)

  next_rightly : (m : Actor C) → TellsRightly m → TellsRightly (member_next m)
  next_rightly (App a) h = tt
  next_rightly (Path p) h = let q : PathState C = record p { clock = p.until; until = p.until + 100 } in settled_tells k start_of_turn (with_agenda start_of_turn q) (begins_tells k (with_agenda start_of_turn q))

  -- who lives after a step of the path lived before it, or it is told so
  path_on : (s : Side) (six : SixBooks) (x : Ask) (r : Reply) (p : PathState C) (ds : List Duty) → p.agenda ≡ ds → FirstStands ds p → TellsOf ds p → asks_first k ds p ≡ Some x
      → lives (control_of s (after_ask x six)).paths (path_of p) ≡ true → (lives (control_of s six).paths (path_of p) ≡ true → MayLive s p) → MayLive s (takes k r p)
  path_on s six x r p [] first stood tells asking living was = cc
  path_on s six x r p (d ∷ ds) first stood tells asking living was =
      ⊎_elim (λ on. on) (λ dies. absurd (both_ways _ (told_dead s (path_of p) x six (sym same ∙ dies)) living)) (may_live_on s d ds r p first may_live)
    where
      same : ask_for k d p ≡ x
      same = same_Some (ask_for k d p) x asking

      told_so : TellsLive s (path_of p) x → MayLive s p
      told_so a =
          let own = duty_tells s (path_of p) d ds p stood tells (record { backup = a.backup; is = same ∙ a.is }) in
          record { past = own.stands.past; lives = inl own.stands.living }

      may_live : MayLive s p
      may_live = ⊎_elim (λ h. was h) told_so (book_lived s (path_of p) x six living)

  -- ---- the world

  pub record Known (w : WorldState C) : Type 0 where
    pub named : (actor : ℕ) (c : ActorCrew C) → slice_get w.crew actor ≡ Some c → IsNamed k actor c.member
    pub rightly : (actor : ℕ) (c : ActorCrew C) → slice_get w.crew actor ≡ Some c → TellsRightly c.member
    pub living : LivingPathsLive w

  module _ (w : WorldState C) (h : Known w) where
    module _ (actor : ℕ) (c : ActorCrew C) (x : Ask) (there : slice_get w.crew actor ≡ Some c) (asking : member_asks k c.member ≡ Some x) where
      abbrev six : SixBooks
      six = books_in w.books

      abbrev new : ActorCrew C
      new = crew_after k x w.books c

      abbrev v : WorldState C
      v = asked k actor (Some x) c w

      -- who tells that a path lives is this actor
      teller : (s : Side) (number : ℕ) (m : Actor C) → IsNamed k actor m → TellsRightly m → member_asks k m ≡ Some x → TellsLive s number x → actor ≡ 2 + number
      teller s number (App a) named rightly asks tells = absurd (app_never s number x a a.agenda asks tells)
      teller s number (Path p) named rightly asks tells = by p.agenda named.1 rightly asks
        where
          by : (ds : List Duty) → FirstStands ds p → TellsOf ds p → asks_first k ds p ≡ Some x → actor ≡ 2 + number
          by [] stood rightly asks = cc
          by (d ∷ ds) stood rightly asks =
              let open_end = duty_tells s number d ds p stood rightly (record { backup = tells.backup; is = same_Some (ask_for k d p) x asks ∙ tells.is }) in
              let own = open_end.own in let at = named.0 in omega (arith, own, at)

      -- it is that path, and its end lives
      pub telling_lives : (s : Side) (number : ℕ) → TellsLive s number x → (p : PathState C) × IsPathAt number w p × (is_dead (end_at s p).tcp.state ≡ false)
      telling_lives s number tells = by c.member refl (h.named actor c there) (h.rightly actor c there) asking
        where
          on_path : (p : PathState C) → c.member ≡ Path p → 2 + path_of p ≡ actor → (ds : List Duty) → FirstStands ds p → TellsOf ds p → asks_first k ds p ≡ Some x → (p : PathState C) × IsPathAt number w p × (is_dead (end_at s p).tcp.state ≡ false)
          on_path p kind named [] stood rightly asks = cc
          on_path p kind named (d ∷ ds) stood rightly asks =
              let told = duty_tells s number d ds p stood rightly (record { backup = tells.backup; is = same_Some (ask_for k d p) x asks ∙ tells.is }) in
              let own = told.own in let same : 2 + number ≡ actor = omega (arith, own, named) in
              (p, record { crew = c; there = ap (slice_get w.crew) same ∙ there; is = kind }, told.stands.living)

          by : (m : Actor C) → c.member ≡ m → IsNamed k actor m → TellsRightly m → member_asks k m ≡ Some x → (p : PathState C) × IsPathAt number w p × (is_dead (end_at s p).tcp.state ≡ false)
          by (App a) kind named rightly asks = absurd (app_never s number x a a.agenda asks tells)
          by (Path p) kind named rightly asks = on_path p kind named.0 p.agenda named.1 rightly asks

      -- another path is where it was
      apart_on : (s : Side) (number : ℕ) → (actor ≡ 2 + number → ⊥) → (p : PathState C) × IsPathAt number w p × MayLive s p → (p : PathState C) × IsPathAt number v p × MayLive s p
      apart_on s number apart found =
          (found.0, record { crew = found.1.crew; there = set_other w.crew actor new (2 + number) (λ same. apart (sym same)) ∙ found.1.there; is = found.1.is }, found.2)

      -- the actor's own path
      own_on : (s : Side) (number : ℕ) → actor ≡ 2 + number → lives (control_of s (after_ask x six)).paths number ≡ true
          → (m : Actor C) → c.member ≡ m → IsNamed k actor m → TellsRightly m → member_asks k m ≡ Some x → (p : PathState C) × IsPathAt number v p × MayLive s p
      own_on s number is living (App a) kind named rightly asks = absurd (⊎_elim (λ was. never (h.living.each s number was)) (λ tells. app_never s number x a a.agenda asks tells) (book_lived s number x six living))
        where
          never : (p : PathState C) × IsPathAt number w p × MayLive s p → ⊥
          never found =
              let same : c ≡ found.1.crew = same_Some c found.1.crew (sym there ∙ ap (slice_get w.crew) is ∙ found.1.there) in
              let apart : App a ≡ Path found.0 = sym kind ∙ ap (λ (y : ActorCrew C). y.member) same ∙ found.1.is in cc
      own_on s number is living (Path p) kind named rightly asks =
          let own : number ≡ path_of p = omega (arith, is, named.0) in (
            takes k (answer_to w.books x) p,
            record {
              crew = new;
              there = ap (λ i. slice_get (set w.crew actor new) i) (sym is) ∙ set_same w.crew actor new c there;
              is = ap (member_takes k (answer_to w.books x)) kind;
            },
            path_on s six x (answer_to w.books x) p p.agenda refl named.1 rightly asks (subst (λ n. lives (control_of s (after_ask x six)).paths n ≡ true) own living)
                (λ was. may_live (h.living.each s number (subst (λ n. lives (control_of s six).paths n ≡ true) (sym own) was))),
          )
        where
          may_live : (q : PathState C) × IsPathAt number w q × MayLive s q → MayLive s p
          may_live found =
              let same : c ≡ found.1.crew = same_Some c found.1.crew (sym there ∙ ap (slice_get w.crew) is ∙ found.1.there) in
              let one : Path found.0 ≡ Path p = sym found.1.is ∙ ap (λ (y : ActorCrew C). y.member) (sym same) ∙ kind in
              subst (λ (q : PathState C). MayLive s q) (let own : found.0 ≡ p = cc in own) found.2

      living_on : (s : Side) (number : ℕ) → lives (control_of s (after_ask x six)).paths number ≡ true → (p : PathState C) × IsPathAt number v p × MayLive s p
      living_on s number living = ⊎_elim
          (λ is. own_on s number is living c.member refl (h.named actor c there) (h.rightly actor c there) asking)
          (λ apart. apart_on s number apart (⊎_elim (λ was. h.living.each s number was) (λ a. absurd (apart (teller s number c.member (h.named actor c there) (h.rightly actor c there) asking a))) (book_lived s number x six living)))
          (cases_eq actor (2 + number))

      pub known_asked : Known v
      known_asked = record {
        named = λ i d at. ⊎_elim
            (λ here. subst (λ (y : ActorCrew C). IsNamed k i y.member) here.1 (subst (λ n. IsNamed k n (member_takes k (answer_to w.books x) c.member)) (sym here.0) (takes_named k actor (answer_to w.books x) c.member (h.named actor c there))))
            (λ other. h.named i d other.1)
            (in_set w.crew actor new i d at);
        rightly = λ i d at. ⊎_elim
            (λ here. subst (λ (y : ActorCrew C). TellsRightly y.member) here.1 (takes_rightly (answer_to w.books x) c.member (h.rightly actor c there)))
            (λ other. h.rightly i d other.1)
            (in_set w.crew actor new i d at);
        living = record {
          each = λ s number living. living_on s number (subst (λ (y : SixBooks). lives (control_of s y).paths number ≡ true) (books_after x c.pass w.books) living);
        };
      }

    module _ (over : all_over w.crew ≡ true) where
      abbrev u : WorldState C
      u = record w { crew = map (begins (greatest 0 w.crew)) w.crew }

      next_may : (s : Side) (p : PathState C) → is_nil p.agenda ≡ true → MayLive s p → MayLive s (next_round p)
      next_may s p none g = record {
        past = let past = g.past in let up = stage_up s p (next_round p) (next_up p) in omega (arith, past, up);
        lives = ⊎_elim (λ alive. inl (begins_living k (record p { clock = p.until; until = p.until + 100 }) s (same s ∙ alive))) (λ l. absurd (never_tells s p.agenda none l)) g.lives;
      }
        where
          same : (s : Side) → is_dead (end_at s (record p { clock = p.until; until = p.until + 100 })).tcp.state ≡ is_dead (end_at s p).tcp.state
          same A = refl
          same B = refl

      known_begun : Known u
      known_begun = record {
        named = λ i d at. let found = in_map (begins (greatest 0 w.crew)) w.crew i d at in subst (λ (y : ActorCrew C). IsNamed k i y.member) found.2 (next_named k i found.0.member (h.named i found.0 found.1));
        rightly = λ i d at. let found = in_map (begins (greatest 0 w.crew)) w.crew i d at in subst (λ (y : ActorCrew C). TellsRightly y.member) found.2 (next_rightly found.0.member (h.rightly i found.0 found.1));
        living = record {
          each = λ s number living.
              let found = h.living.each s number living in
              let nil : is_nil found.0.agenda ≡ true = ap is_over (sym found.1.is) ∙ all_over_each w.crew (2 + number) found.1.crew over found.1.there in (
                next_round found.0,
                record {
                  crew = begins (greatest 0 w.crew) found.1.crew;
                  there = slice_get-map (begins (greatest 0 w.crew)) w.crew (2 + number) ∙ ap (option_map (begins (greatest 0 w.crew))) found.1.there;
                  is = ap member_next found.1.is;
                },
                next_may s found.0 nil found.2,
              );
        };
      }

  opened_known : (start : Start) → Known (opened_world start)
  opened_known start = record {
    named = opened_actors (λ actor c. IsNamed k actor c.member) start (omega arith) (omega arith) (λ number plan there.
        let p : PathState C = waiting_path (path_begins start number plan) start.lines in
        ((let kept : path_of (first_turn {C = C} (path_begins start number plan) start.lines) ≡ number = (first_keeps p).2 in omega (arith, kept)), settled_settled start_of_turn (with_agenda start_of_turn p)));
    rightly = opened_actors (λ actor c. TellsRightly c.member) start tt tt (λ number plan there.
        let p : PathState C = waiting_path (path_begins start number plan) start.lines in settled_tells k start_of_turn (with_agenda start_of_turn p) (begins_tells k (with_agenda start_of_turn p)));
    living = record { each = λ s number living. absurd (true≢false (sym living ∙ none s number)) };
  }
    where
      none : (s : Side) (number : ℕ) → lives (control_of s (books_in (opened_world {C = C} start).books)).paths number ≡ false
      none A number = none_lives number
      none B number = none_lives number

  pub always_known : Always k (λ start w. Known w)
  always_known start turns = run_so k Known (λ w h actor c x there asking. known_asked w h actor c x there asking) (λ w h over. known_begun w h over) turns (opened_world start) (opened_known start)

  pub living_paths_live : Always k (λ start w. LivingPathsLive w)
  living_paths_live start turns = (always_known start turns).living
