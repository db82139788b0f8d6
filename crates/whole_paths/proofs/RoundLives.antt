-- Who lives by a side's control book in a round lived as the round began, or was opened in it; and who is past the handshake stays so.
use Rattle.std.proofs.Common.{◌≡◌, refl, sym, subst, ap, ◌∙◌, ⊎_elim, ℕ, ◌+◌, ◌≤◌, arith, Bool, true, false, if◌then◌else◌, Some, List, [], ◌∷◌, map, set}
use Rattle.std.specs.List.{slice_get}
use Rattle.std.proofs.lemmas.Bool.{both_ways, cases_eq}
use Rattle.std.proofs.lemmas.Option.{same_Some}
use Rattle.sides.specs.declared.side.Side.{Side}
use Rattle.control_book.specs.Registry.{lives}
use Rattle.stream_lanes.proofs.Lists.{in_map, set_other, set_same}
use Rattle.subflow_tcp.specs.States.{is_dead}
use Rattle.subflow_tcp.specs.declared.handshake.State.{State}
use Rattle.subflow_tcp.specs.declared.handshake.State.TheVariants as phase
use Rattle.actor_desk.specs.Books.{books_in}
use Rattle.actor_desk.specs.Desk.{SixBooks, control_of}
use Rattle.actor_desk.specs.Words.{tail_of}
use Rattle.actor_desk.specs.declared.ask.Ask.{Ask}
use Rattle.path_agenda.specs.Agenda.{start_of_turn}
use Rattle.path_agenda.specs.declared.duty.Duty.{Duty}
use Rattle.path_agenda.specs.declared.duty.Duty.TheVariants as duties
use Rattle.path_agenda.specs.declared.duty.AskDuty.TheVariants as ask_duties
use Rattle.path_agenda.specs.declared.duty.SendDuty.TheVariants as send_duties
use Rattle.path_core.specs.Codec.{Codec}
use Rattle.path_core.specs.Duties.{passed, stands}
use Rattle.path_core.specs.Start.{waiting_path}
use Rattle.path_core.specs.State.{PathState, end_at, with_agenda}
use Rattle.path_core.specs.Steps.{begins_turn, settled, takes}
use Rattle.world_laws.specs.declared.member.Member.TheVariants.{App, Path}
use Rattle.world_laws.specs.Actors.{Actor, ActorCrew, member_asks, member_next, member_takes}
use Rattle.world_laws.specs.Members.{HoldsOfKind}
use Rattle.world_laws.specs.Openings.{Start, opened_world, path_begins}
use Rattle.world_laws.specs.RoundDone.{reached}
use Rattle.world_laws.specs.RoundNumbers.{BeginsRound}
use Rattle.world_laws.specs.RoundNumbers.{BeginsRound as beginning}
use Rattle.world_laws.specs.StampedBooks.{answer_to}
use Rattle.world_laws.specs.Worlds.{Turn, WorldState, asked, begins, crew_after, end_round, greatest, world_run}
use Rattle.world_laws.proofs.Weaving.Journals.{books_after}
use Rattle.world_laws.proofs.Worlds.Opened.{opened_actors}
use Rattle.whole_paths.specs.AsFar.{stage}
use Rattle.whole_paths.specs.Finish.{IsPathAt}
use Rattle.whole_paths.specs.LivingPaths.{IsToTell, MayLive}
use Rattle.whole_paths.specs.LivingPaths.{IsToTell as telling}
use Rattle.whole_paths.specs.StandbyPaths.{control_in}
use Rattle.whole_paths.proofs.GoesOn.{takes_up}
use Rattle.whole_paths.proofs.Leaving.{stage_up}
use Rattle.whole_paths.proofs.LivingBooks.{book_lived}
use Rattle.whole_paths.proofs.LivingPaths.{Known, always_known, known_asked, telling_lives}

-- ---- as a round begins

-- what holds of a path whose turn begins
module _ {C : Type 0} (k : Codec C) (P : PathState C → Type 0) (h : (p : PathState C) → P (begins_turn p)) (start : Start) where
  abbrev Holds : Actor C → Type 0
  Holds m = HoldsOfKind (λ app. Unit {0}) P m

  next_holds : (m : Actor C) → Holds (member_next m)
  next_holds (App a) = tt
  next_holds (Path p) = h (record p { clock = p.until; until = p.until + 100 })

  pub begins_so : (begun : WorldState C) → BeginsRound k start begun → (actor : ℕ) (c : ActorCrew C) → slice_get begun.crew actor ≡ Some c → HoldsOfKind (λ app. Unit {0}) P c.member
  begins_so begun (beginning.First is) actor c there =
      opened_actors (λ i (d : ActorCrew C). Holds d.member) start tt tt (λ n plan at. h (waiting_path (path_begins start n plan) start.lines)) actor c (ap (λ (w : WorldState C). slice_get w.crew actor) (sym is) ∙ there)
  begins_so begun (beginning.Next turns over is) actor c there =
      let w : WorldState C = world_run k turns (opened_world start) in
      let u : WorldState C = record w { crew = map (begins (greatest 0 w.crew)) w.crew } in
      let ended : end_round w ≡ u = ap (λ (b : Bool). if b then u else w) over in
      let found = in_map (begins (greatest 0 w.crew)) w.crew actor c (ap (λ (v : WorldState C). slice_get v.crew actor) (sym (is ∙ ended)) ∙ there) in
      subst (λ (d : ActorCrew C). Holds d.member) found.2 (next_holds found.0.member)

-- an end leaves, or its side is told that it is dead
abbrev parts_first : List Duty → Bool
parts_first [] = false
parts_first (duties.Ask (ask_duties.Dead s) ∷ ds) = true
parts_first (duties.Ask (ask_duties.Leave s) ∷ ds) = true
parts_first (duties.Send (send_duties.Reset s) ∷ ds) = true
parts_first (_ ∷ ds) = false

tells_parts : (s : Side) (ds : List Duty) → IsToTell s ds → parts_first ds ≡ true
tells_parts s ds (telling.dies others) = refl
tells_parts s ds (telling.leaves others) = refl
tells_parts s ds (telling.resets others) = refl
tells_parts s ds (telling.behind t others l) = refl
tells_parts s ds (telling.behind_dead t others l) = refl

begins_whole : {C : Type 0} (p : PathState C) → parts_first (begins_turn p).agenda ≡ false
begins_whole {C = C} p = elim (stands (duties.Ask ask_duties.JoinAgain) x) as (λ b. parts_first (if b then with_agenda start_of_turn x else settled (tail_of start_of_turn) (passed (duties.Ask ask_duties.JoinAgain) x)).agenda ≡ false) [ true ↦ refl | false ↦ refl ]
  where
    x : PathState C
    x = with_agenda start_of_turn p

-- ---- states

dead_last : (state : State) → 7 ≤ stage state → is_dead state ≡ true
dead_last phase.Dead up = refl
dead_last _ up = absurd (omega (arith, up))

alive_before : (state later : State) → stage state ≤ stage later → is_dead later ≡ false → is_dead state ≡ false
alive_before phase.Dead later up alive = absurd (both_ways _ alive (dead_last later up))
alive_before _ later up alive = refl

-- ---- steps in a round

module _ {C : Type 0} (k : Codec C) (s : Side) (other : ℕ) where
  -- the path of this number is past the handshake
  pub record StaysPast (w : WorldState C) : Type 0 where
    pub path : PathState C
    pub here : IsPathAt other w path
    pub past : 3 ≤ stage (end_at s path).tcp.state

  -- the path's own step, or another actor's
  module _ (w : WorldState C) (actor : ℕ) (c : ActorCrew C) (x : Ask) (there : slice_get w.crew actor ≡ Some c) where
    abbrev v : WorldState C
    v = asked k actor (Some x) c w

    abbrev new : ActorCrew C
    new = crew_after k x w.books c

    pub past_asked : StaysPast w → StaysPast v
    past_asked g = ⊎_elim own apart (cases_eq actor (2 + other))
      where
        own : actor ≡ 2 + other → StaysPast v
        own is =
            let same : c ≡ g.here.crew = same_Some c g.here.crew (sym there ∙ ap (slice_get w.crew) is ∙ g.here.there) in
            let next : PathState C = takes k (answer_to w.books x) g.path in
            record {
              path = next;
              here = record {
                crew = new;
                there = ap (slice_get (set w.crew actor new)) (sym is) ∙ set_same w.crew actor new c there;
                is = ap (member_takes k (answer_to w.books x)) (ap (λ (y : ActorCrew C). y.member) same ∙ g.here.is);
              };
              past = let up = stage_up s g.path next (takes_up k (answer_to w.books x) g.path) in let past = g.past in omega (arith, up, past);
            }

        apart : (actor ≡ 2 + other → ⊥) → StaysPast v
        apart isnt = record {
          path = g.path;
          here = record { crew = g.here.crew; there = set_other w.crew actor new (2 + other) (λ same. isnt (sym same)) ∙ g.here.there; is = g.here.is };
          past = g.past;
        }

    -- an end that lives after the step lived before it
    alive_asked : (q : PathState C) → IsPathAt other v q → is_dead (end_at s q).tcp.state ≡ false → (p : PathState C) × IsPathAt other w p × (is_dead (end_at s p).tcp.state ≡ false)
    alive_asked q here alive = ⊎_elim own apart (cases_eq actor (2 + other))
      where
        own : actor ≡ 2 + other → (p : PathState C) × IsPathAt other w p × (is_dead (end_at s p).tcp.state ≡ false)
        own is = by c.member refl
          where
            at : slice_get (set w.crew actor new) (2 + other) ≡ Some new
            at = ap (slice_get (set w.crew actor new)) (sym is) ∙ set_same w.crew actor new c there

            kind : new.member ≡ Path q
            kind = ap (λ (y : ActorCrew C). y.member) (same_Some new here.crew (sym at ∙ here.there)) ∙ here.is

            by : (m : Actor C) → c.member ≡ m → (p : PathState C) × IsPathAt other w p × (is_dead (end_at s p).tcp.state ≡ false)
            by (App a) was = absurd (let never : member_takes k (answer_to w.books x) (App a) ≡ Path q = ap (member_takes k (answer_to w.books x)) (sym was) ∙ kind in cc)
            by (Path p) was =
                let one : Path (takes k (answer_to w.books x) p) ≡ Path q = ap (member_takes k (answer_to w.books x)) (sym was) ∙ kind in
                let same : takes k (answer_to w.books x) p ≡ q = cc in (
                  p,
                  record { crew = c; there = ap (slice_get w.crew) (sym is) ∙ there; is = was },
                  alive_before (end_at s p).tcp.state (end_at s (takes k (answer_to w.books x) p)).tcp.state (stage_up s p _ (takes_up k (answer_to w.books x) p)) (ap (λ (y : PathState C). is_dead (end_at s y).tcp.state) same ∙ alive),
                )

        apart : (actor ≡ 2 + other → ⊥) → (p : PathState C) × IsPathAt other w p × (is_dead (end_at s p).tcp.state ≡ false)
        apart isnt = (q, record { crew = here.crew; there = sym (set_other w.crew actor new (2 + other) (λ same. isnt (sym same))) ∙ here.there; is = here.is }, alive)

module _ {C : Type 0} (k : Codec C) (start : Start) (since : List Turn) (s : Side) (other : ℕ) where
  abbrev begun : WorldState C
  begun = reached k start since

  -- its end lived as the round began
  pub record LivedFirst : Type 0 where
    pub path : PathState C
    pub here : IsPathAt other begun path
    pub lived : is_dead (end_at s path).tcp.state ≡ false

  pub record Since (w : WorldState C) : Type 0 where
    known : Known k w
    back : (p : PathState C) → IsPathAt other w p → is_dead (end_at s p).tcp.state ≡ false → LivedFirst
    pub lived : lives (control_in s w).paths other ≡ true → LivedFirst

  pub since_asked : (w : WorldState C) → Since w → (actor : ℕ) (c : ActorCrew C) (x : Ask) → slice_get w.crew actor ≡ Some c → member_asks k c.member ≡ Some x → Since (asked k actor (Some x) c w)
  since_asked w g actor c x there asking = record {
    known = known_asked k w g.known actor c x there asking;
    back = λ q here alive. (let was = alive_asked k s other w actor c x there q here alive in g.back was.0 was.1 was.2);
    lived = λ is. ⊎_elim
        (λ was. g.lived was)
        (λ tells. (let told = telling_lives k w g.known actor c x there asking s other tells in g.back told.0 told.1 told.2))
        (book_lived s other x (books_in w.books) (subst (λ (y : SixBooks). lives (control_of s y).paths other ≡ true) (books_after x c.pass w.books) is));
  }

  pub since_begun : BeginsRound k start begun → Since begun
  since_begun begins = record {
    known = always_known k start since;
    back = λ p here alive. record { path = p; here = here; lived = alive };
    lived = λ is. from ((always_known k start since).living.each s other is);
  }
    where
      from : (p : PathState C) × IsPathAt other begun p × MayLive s p → LivedFirst
      from found = record {
        path = found.0;
        here = found.1;
        lived = ⊎_elim (λ alive. alive)
            (λ l. absurd (both_ways _ (subst (HoldsOfKind (λ app. Unit {0}) (λ (p : PathState C). parts_first p.agenda ≡ false)) found.1.is
            (begins_so k (λ (p : PathState C). parts_first p.agenda ≡ false) begins_whole start begun begins (2 + other) found.1.crew found.1.there)) (tells_parts s found.0.agenda l)))
            found.2.lives;
      }
