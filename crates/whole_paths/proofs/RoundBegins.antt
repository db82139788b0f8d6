-- As a round begins nothing is counted: each path stays as it is, but for its clock and what is to be done.
use Rattle.std.proofs.Common.{◌≡◌, refl, sym, subst, ap, ◌∙◌, ℕ, zero, suc, ◌+◌, ◌==◌, arith, nat_le, nat_lt, le_refl, ◌&&◌, not, Bool, true, false, if◌then◌else◌, List, [], ◌∷◌, ◌++◌, length, map, sum_by}
use Rattle.std.specs.List.{list_any, slice_get}
use Rattle.std.proofs.lemmas.Bool.{le-ltb}
use Rattle.std.proofs.lemmas.List.Sums.{sum_by-cons}
use Rattle.sides.specs.declared.side.Side.{Side}
use Rattle.sides.specs.declared.side.Side.TheVariants.{A, B}
use Rattle.sides.specs.Side.{peer}
use Rattle.link_script.specs.Places.{same_side}
use Rattle.link_model.specs.State.{LinkState}
use Rattle.link_model.specs.Steps.{segments_sent}
use Rattle.path_agenda.specs.Agenda.{start_of_turn}
use Rattle.path_agenda.specs.declared.duty.Duty.TheVariants as duties
use Rattle.path_agenda.specs.declared.duty.AskDuty.TheVariants as ask_duties
use Rattle.path_core.specs.Duties.{passed, stands}
use Rattle.path_core.specs.State.{PathState, with_agenda}
use Rattle.path_core.specs.Steps.{next_round, settled}
use Rattle.path_core.specs.Values.{Carried, values}
use Rattle.path_store.specs.declared.lines.LineLeft.{LineLeft}
use Rattle.actor_desk.specs.Words.{tail_of}
use Rattle.world_laws.specs.declared.member.Member.TheVariants.{App, Path}
use Rattle.world_laws.specs.Actors.{Actor, ActorCrew, member_next}
use Rattle.world_laws.specs.Members.{of_kind}
use Rattle.world_laws.specs.Openings.{Start, opened_world}
use Rattle.world_laws.specs.RoundDone.{reached}
use Rattle.world_laws.specs.Worlds.{WorldState, Turn, after_turn, begins, greatest}
use Rattle.world_laws.proofs.Weaving.WholeRounds.{run_append}
use Rattle.whole_paths.specs.Finish.{harms_between, harms_of, is_harmed}
use Rattle.whole_paths.specs.Harms.{harms_left}
use Rattle.whole_paths.specs.News.{end_news, news, one_if, path_news}
use Rattle.whole_paths.specs.RecordWaits.{NoRoundCounts}
use Rattle.whole_paths.proofs.Counted.{harmed_more}

-- what a round's beginning leaves of a path
pub record Rests (p q : PathState Carried) : Type 0 where
  pub a : q.a ≡ p.a
  pub b : q.b ≡ p.b
  pub link : q.link ≡ p.link
  pub lines : q.lines ≡ p.lines
  pub clock : q.clock ≡ p.until

-- the first duty, or the look at A's side, stands
pub next_rests : (p : PathState Carried) → Rests p (next_round p)
next_rests p = elim (stands (duties.Ask ask_duties.JoinAgain) q) as (λ b. Rests p (if b then with_agenda start_of_turn q else settled (tail_of start_of_turn) (passed (duties.Ask ask_duties.JoinAgain) q)))
    [ true ↦ record { a = refl; b = refl; link = refl; lines = refl; clock = refl } | false ↦ record { a = refl; b = refl; link = refl; lines = refl; clock = refl } ]
  where
    q : PathState Carried
    q = with_agenda start_of_turn (record p { clock = p.until; until = p.until + 100 })

-- ---- news

module _ (start : Start) where
  abbrev actor_news : Actor Carried → ℕ
  actor_news m = of_kind (λ app. 0) (path_news start) m

  same_news : (m : Actor Carried) → actor_news (member_next m) ≡ actor_news m
  same_news (App a) = refl
  same_news (Path p) =
      let rests = next_rests p in let a = ap end_news rests.a in let b = ap end_news rests.b in
      let lines = ap (λ (ls : List LineLeft). length ls) rests.lines in let harms = ap (λ (l : LinkState Carried). harms_left l) rests.link in omega (arith, a, b, lines, harms)

  crew_news : (stamp : ℕ) (crew : List (ActorCrew Carried)) → sum_by (λ c. actor_news c.member) (map (begins stamp) crew) ≡ sum_by (λ c. actor_news c.member) crew
  crew_news stamp [] = refl
  crew_news stamp (c ∷ crew) =
      let rest = crew_news stamp crew in let first = same_news c.member in
      omega (arith, rest, first, sum_by-cons (λ (c : ActorCrew Carried). actor_news c.member) (begins stamp c) (map (begins stamp) crew), sum_by-cons (λ (c : ActorCrew Carried). actor_news c.member) c crew)

-- ---- segments that are harmed

pub none_harmed : (s : Side) (p q : PathState Carried) → q.link ≡ p.link → is_harmed s p q ≡ false
none_harmed s p q same = subst (λ (l : LinkState Carried). Unharmed l) (sym same)
    (ap (λ b. b && not (list_any (λ f. same_side f.to (peer s) && (f.number == segments_sent s p.link && nat_le f.tick (p.clock + 400))) p.link.under_way))
    (le-ltb (segments_sent s p.link) (segments_sent s p.link) (le_refl (segments_sent s p.link))))
  where
    Unharmed : LinkState Carried → Type 0
    Unharmed l = (nat_lt (segments_sent s p.link) (segments_sent s l) && not (list_any (λ f. same_side f.to (peer s) && (f.number == segments_sent s l && nat_le f.tick (p.clock + 400))) l.under_way)) ≡ false

no_harms : (m : Actor Carried) → harms_between m (member_next m) ≡ 0
no_harms (App a) = refl
no_harms (Path p) =
    let link = (next_rests p).link in
    let a = ap one_if (none_harmed A p (next_round p) link) in
    let b = ap one_if (none_harmed B p (next_round p) link) in omega (arith, a, b)

no_harms_at : (stamp : ℕ) (crew : List (ActorCrew Carried)) (i : ℕ) → harms_of (slice_get crew i) (slice_get (map (begins stamp) crew) i) ≡ 0
no_harms_at stamp [] i = refl
no_harms_at stamp (c ∷ crew) zero = no_harms c.member
no_harms_at stamp (c ∷ crew) (suc i) = no_harms_at stamp crew i

-- ---- the law

pub no_round_counts : NoRoundCounts
no_round_counts start number turns over =
    let w : WorldState Carried = reached values start turns in
    let v : WorldState Carried = record w { crew = map (begins (greatest 0 w.crew)) w.crew } in
    let goes : after_turn values Turn.Round w ≡ v = ap (λ (b : Bool). if b then v else w) over in
    let news_is : news start (reached values start (turns ++ Turn.Round ∷ [])) ≡ news start v = ap (λ (x : WorldState Carried). news start x) (run_append values turns (Turn.Round ∷ []) (opened_world start) ∙ goes) in
    let crew = crew_news start (greatest 0 w.crew) w.crew in
    let harmed_is = harmed_more number turns Turn.Round (opened_world start) in
    let none : harms_of (slice_get w.crew (2 + number)) (slice_get (after_turn values Turn.Round w).crew (2 + number)) ≡ 0 =
    subst (λ (x : WorldState Carried). harms_of (slice_get w.crew (2 + number)) (slice_get x.crew (2 + number)) ≡ 0) (sym goes) (no_harms_at (greatest 0 w.crew) w.crew (2 + number)) in
    omega (arith, news_is, crew, harmed_is, none)
