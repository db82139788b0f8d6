-- Whether path 0 is open can be told at each moment; and while it stays open debts are few.
use Rattle.std.proofs.Common.{◌≡◌, refl, sym, subst, ap, ◌∙◌, ◌⊎◌, inl, inr, ⊎_elim, ℕ, ◌-◌, ◌^◌, ◌<◌, ◌≤◌, arith, Bool, true, false, true≢false, Option, Some, None, is_some, List, [], ◌∷◌, ◌++◌}
use Rattle.std.specs.List.{slice_get}
use Rattle.std.proofs.lemmas.Bool.{cases_lt}
use Rattle.std.proofs.lemmas.List.{append-nil, append_assoc}
use Rattle.std.proofs.lemmas.Option.{same_Some}
use Rattle.sides.specs.declared.side.Side.{Side}
use Rattle.sides.specs.declared.side.Side.TheVariants.{A, B}
use Rattle.link_model.specs.Steps.{segments_sent}
use Rattle.subflow_tcp.specs.States.{is_dead}
use Rattle.path_core.specs.State.{PathState, end_at}
use Rattle.path_core.specs.Values.{Carried, values}
use Rattle.world_laws.specs.declared.member.Member.TheVariants.{App, Path}
use Rattle.world_laws.specs.Actors.{Actor, ActorCrew}
use Rattle.world_laws.specs.Members.{HoldsOfKind}
use Rattle.world_laws.specs.Openings.{PathPlan, Start}
use Rattle.world_laws.specs.RoundDone.{reached}
use Rattle.world_laws.specs.Worlds.{Turn, WorldState}
use Rattle.whole_paths.specs.AsFar.{stage}
use Rattle.whole_paths.specs.Counts.{CountsAsMuch}
use Rattle.whole_paths.specs.Courses.{harmed_so_far}
use Rattle.whole_paths.specs.Debts.{FewAreOwedBy, OwesAtMostBy, OwesOnBy}
use Rattle.whole_paths.specs.Directions.{OwesAlong}
use Rattle.whole_paths.specs.Finish.{IsPathAt}
use Rattle.whole_paths.specs.Mild.{IsMildStart, LinkIsMild}
use Rattle.whole_paths.specs.OnePathScripts.{BeginsWithOnePath}
use Rattle.whole_paths.specs.OpenCourses.{IsNow}
use Rattle.whole_paths.specs.Mending.{IsBegunTurn}
use Rattle.whole_paths.specs.OpenFirst.{FewAsItOpensAreFew, HasJustOpened}
use Rattle.whole_paths.specs.Straying.{IsOpenFrom}
use Rattle.whole_paths.proofs.Counts.{owes_so}
use Rattle.whole_paths.proofs.Directions.{owes_next}
use Rattle.whole_paths.proofs.Mild.{links_are_mild}
use Rattle.whole_paths.proofs.OpenCourses.{IsFirstPath, each_first}
use Rattle.whole_paths.proofs.OpenTurns.{begun_now}
use Rattle.whole_paths.proofs.RecordWaits.{path_is}
use Rattle.whole_paths.proofs.WindowRoom.{one_path_is_roomy}

-- ---- what can be told

abbrev OrNot : Type 0 → Type 0
OrNot P = P ⊎ (P → ⊥)

of_both : (P : Side → Type 0) → ((s : Side) → OrNot (P s)) → OrNot ((s : Side) → P s)
of_both P each = by (each A) (each B)
  where
    by : OrNot (P A) → OrNot (P B) → OrNot ((s : Side) → P s)
    by (inl a) (inl b) = inl (elim [ A ↦ a | B ↦ b ])
    by (inl a) (inr never) = inr (λ all. never (all B))
    by (inr never) b = inr (λ all. never (all A))

is_true : (b : Bool) → OrNot (b ≡ true)
is_true true = inl refl
is_true false = inr (λ is. true≢false (sym is))

is_false : (b : Bool) → OrNot (b ≡ false)
is_false true = inr (λ is. true≢false is)
is_false false = inl refl

is_less : (m n : ℕ) → OrNot (m < n)
is_less m n = ⊎_elim (λ less. inl less) (λ low. inr (λ less. omega (arith, low, less))) (cases_lt m n)

is_low : (m n : ℕ) → OrNot (m ≤ n)
is_low m n = ⊎_elim (λ less. inr (λ low. omega (arith, low, less))) (λ low. inl low) (cases_lt n m)

-- ---- at a moment

module _ (start : Start) (mild : IsMildStart start) (turns : List Turn) where
  abbrev w : WorldState Carried
  w = reached values start turns

  abbrev Opened : Type 0
  Opened = OrNot (IsNow (IsOpenFrom B) w)

  of_path : (p : PathState Carried) → IsPathAt 0 w p → Opened
  of_path p here = by (of_both (λ s. 3 ≤ stage (end_at s p).tcp.state) (λ s. is_low 3 (stage (end_at s p).tcp.state))) (of_both (λ s. is_dead (end_at s p).tcp.state ≡ false) (λ s. is_false (is_dead (end_at s p).tcp.state)))
      (is_true p.b.modes.clear) (is_true (is_some p.a.modes.peer_key)) (of_both (λ s. segments_sent s p.link < 2 ^ 64 - 1) (λ s. is_less (segments_sent s p.link) (2 ^ 64 - 1)))
    where
      first : IsFirstPath start p
      first = subst (HoldsOfKind (λ app. Unit {0}) (IsFirstPath start)) here.is (each_first start turns mild.plain.size here.crew here.there)

      link : LinkIsMild start.lines p
      link = subst (HoldsOfKind (λ app. Unit {0}) (LinkIsMild start.lines)) here.is ((links_are_mild values start turns mild).each 2 here.crew here.there)

      one : (h : IsNow (IsOpenFrom B) w) → h.path ≡ p
      one h = path_is w h.path p h.here here

      by : OrNot ((s : Side) → 3 ≤ stage (end_at s p).tcp.state) → OrNot ((s : Side) → is_dead (end_at s p).tcp.state ≡ false) → OrNot (p.b.modes.clear ≡ true) → OrNot (is_some p.a.modes.peer_key ≡ true)
          → OrNot ((s : Side) → segments_sent s p.link < 2 ^ 64 - 1) → Opened
      by (inl past) (inl living) (inl clear) (inl keyed) (inl few) = inl (record {
        path = p;
        here = here;
        is_open = record { first = first.first; past = past; living = living; clear = clear; sure = clear; keyed = keyed };
        faithful = record { joined = first.first; whole = link.strips; plain = link.alters };
        few = few;
      })
      by (inr never) living clear keyed few = inr (λ h. never (subst (IsOpenFrom B) (one h) h.is_open).past)
      by (inl past) (inr never) clear keyed few = inr (λ h. never (subst (IsOpenFrom B) (one h) h.is_open).living)
      by (inl past) (inl living) (inr never) keyed few = inr (λ h. never (subst (IsOpenFrom B) (one h) h.is_open).clear)
      by (inl past) (inl living) (inl clear) (inr never) few = inr (λ h. never (subst (IsOpenFrom B) (one h) h.is_open).keyed)
      by (inl past) (inl living) (inl clear) (inl keyed) (inr never) = inr (λ h. never (subst (λ (z : PathState Carried). (s : Side) → segments_sent s z.link < 2 ^ 64 - 1) (one h) h.few))

  pub open_or_not : Opened
  open_or_not = by (slice_get w.crew 2) refl
    where
      of_member : (c : ActorCrew Carried) → slice_get w.crew 2 ≡ Some c → (m : Actor Carried) → c.member ≡ m → Opened
      of_member c there (Path p) is = of_path p (record { crew = c; there = there; is = is })
      of_member c there (App a) is = inr (λ h. (let both : App a ≡ Path h.path = sym is ∙ ap (λ (x : ActorCrew Carried). x.member) (same_Some c h.here.crew (sym there ∙ h.here.there)) ∙ h.here.is in cc))

      by : (o : Option (ActorCrew Carried)) → slice_get w.crew 2 ≡ o → Opened
      by None none = inr (λ h. (let both : None ≡ Some h.here.crew = sym none ∙ h.here.there in cc))
      by (Some c) there = of_member c there c.member refl

-- ---- along the turns

-- debts of any kind that go on from when B's end may send a DSS are few, where they are as the path opens
module _ (start : Start) (plan : PathPlan) (most : ℕ) (one : BeginsWithOnePath start plan) (count : List Turn → ℕ) (Owes : ℕ → List Turn → Type 0)
    (goes_on : (turns : List Turn) (turn : Turn) (debts : ℕ) → IsBegunTurn start turns turn → Owes debts turns → OwesOnBy start plan most count Owes debts turns (turns ++ turn ∷ []))
    (opens : (turns : List Turn) → HasJustOpened start turns → OwesAtMostBy start plan most count Owes turns) where
  abbrev Known : List Turn → Type 0
  Known turns = IsNow (IsOpenFrom B) (reached values start turns) → OwesAtMostBy start plan most count Owes turns

  known_first : Known []
  known_first now = opens [] (record { now = now; unopened = λ before turn is. absurd (empty before turn is) })
    where
      empty : (before : List Turn) (turn : Turn) → [] ≡ before ++ turn ∷ [] → ⊥
      empty [] turn is = cc
      empty (t ∷ ts) turn is = cc

  known_next : (turns : List Turn) (turn : Turn) → Known turns → Known (turns ++ turn ∷ [])
  known_next turns turn known now = ⊎_elim going_on (λ never. opens (turns ++ turn ∷ []) (record { now = now; unopened = λ before last is was. never (subst (λ ts. IsNow (IsOpenFrom B) (reached values start ts)) (same_start before turns last turn (sym is)) was) })) (open_or_not start one.mild turns)
    where
      -- the turns before the last one
      same_start : (xs ys : List Turn) (x y : Turn) → xs ++ x ∷ [] ≡ ys ++ y ∷ [] → xs ≡ ys
      same_start [] [] x y is = refl
      same_start [] (b ∷ []) x y is = cc
      same_start [] (b ∷ c ∷ ys) x y is = cc
      same_start (a ∷ []) [] x y is = cc
      same_start (a ∷ c ∷ xs) [] x y is = cc
      same_start (a ∷ xs) (b ∷ ys) x y is = (let first : a ≡ b = cc in let rest : xs ++ x ∷ [] ≡ ys ++ y ∷ [] = cc in rw (first, same_start xs ys x y rest) refl)

      going_on : IsNow (IsOpenFrom B) (reached values start turns) → OwesAtMostBy start plan most count Owes (turns ++ turn ∷ [])
      going_on was = let k = known was in let o = goes_on turns turn k.debts (record { mild = one.mild; before = was; after = now }) k.owes in record { debts = o.now; owes = o.owes; few = (let few = k.few in let more = o.few in omega (arith, few, more)) }

  known_on : (done more : List Turn) → Known done → Known (done ++ more)
  known_on done [] known = subst Known (sym (append-nil done)) known
  known_on done (turn ∷ more) known = subst Known (append_assoc done (turn ∷ []) more) (known_on (done ++ turn ∷ []) more (known_next done turn known))

  pub known_always : (turns : List Turn) → Known turns
  known_always turns = known_on [] turns known_first

pub few_as_it_opens_are_few : FewAsItOpensAreFew
few_as_it_opens_are_few start plan most s one opens turns now = known_always start plan most one (harmed_so_far values start) (OwesAlong start s)
    (λ turns turn debts begun owes. owes_next start plan most s (one_path_is_roomy start plan one) turns turn debts begun owes) opens turns (begun_now start turns one.mild now)

-- along a direction by any count
pub few_along : (start : Start) (plan : PathPlan) (most : ℕ) (s : Side) → BeginsWithOnePath start plan → (count : List Turn → ℕ) → CountsAsMuch start (harmed_so_far values start) count
    → ((turns : List Turn) → HasJustOpened start turns → OwesAtMostBy start plan most count (OwesAlong start s) turns) → FewAreOwedBy start plan most count (OwesAlong start s)
few_along start plan most s one count harms opens turns now = known_always start plan most one count (OwesAlong start s)
    (λ ts turn debts begun owes. owes_so start plan most (harmed_so_far values start) count (OwesAlong start s) debts ts (ts ++ turn ∷ []) (harms.rises ts turn begun) (owes_next start plan most s (one_path_is_roomy start plan one) ts turn debts begun owes))
    opens turns (begun_now start turns one.mild now)
