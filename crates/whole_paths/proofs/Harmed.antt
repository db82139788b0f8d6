-- Where no line speaks of a direction, each segment that is harmed uses a line by which one is lost or late.
use Rattle.std.proofs.Common.{◌≡◌, refl, sym, subst, ap, ◌∙◌, ⊎_elim, ℕ, zero, suc, ◌+◌, ◌-◌, ◌^◌, ◌==◌, ◌<◌, ◌≤◌, nat_lt, nat_le, arith, Bool, true, false, true≢false, not, if◌then◌else◌, ◌&&◌, ◌||◌, Option, Some, None, List, [], ◌∷◌, map}
use Rattle.std.specs.Prelude.{fold, All, count_by}
use Rattle.std.specs.List.{list_all, list_any, slice_get}
use Rattle.std.proofs.lemmas.Bool.{and_from, and_parts, both_ways, cases_lt, eq-eqb, le-leb, le-ltb}
use Rattle.std.proofs.lemmas.List.Elements.{All-head, All-tail}
use Rattle.std.proofs.lemmas.List.Sums.{sum_by-cons}
use Rattle.std.proofs.lemmas.Option.{same_Some}
use Rattle.sides.specs.declared.side.Side.{Side}
use Rattle.sides.specs.declared.side.Side.TheVariants.{A, B}
use Rattle.sides.specs.Side.{peer}
use Rattle.link_script.specs.declared.script.Happens.TheVariants.{Lost, Late}
use Rattle.link_script.specs.declared.script.PathLine.{PathLine}
use Rattle.link_script.specs.declared.script.Script.{Script}
use Rattle.link_script.specs.declared.script.ScriptLine.{ScriptLine}
use Rattle.link_script.specs.declared.script.ScriptLine.TheVariants.{OnSegment, OnDirection}
use Rattle.link_script.specs.Places.{path_named, same_side}
use Rattle.link_script.specs.Scripts.{IsPath}
use Rattle.link_model.specs.declared.flight.Flight.{Flight}
use Rattle.link_model.specs.declared.passage.Shape.{Shape}
use Rattle.link_model.specs.Passage.{plain_shape, shape_of, shaped_by}
use Rattle.link_model.specs.State.{LinkState}
use Rattle.link_model.specs.Steps.{after_send, is_path, lines_of, next_number, segments_sent}
use Rattle.stream_lanes.specs.Words.{Has}
use Rattle.stream_lanes.proofs.Lists.{in_map, in_set}
use Rattle.actor_desk.specs.declared.ask.Reply.{Reply}
use Rattle.path_agenda.specs.declared.duty.Duty.{Duty}
use Rattle.path_core.specs.Codec.{Codec}
use Rattle.path_core.specs.Duties.{answered}
use Rattle.path_core.specs.Octets.{octets}
use Rattle.path_core.specs.Start.{waiting_path}
use Rattle.path_core.specs.State.{PathState, with_agenda}
use Rattle.path_core.specs.Steps.{begins_turn, next_round, takes}
use Rattle.world_laws.specs.declared.member.Member.TheVariants.{App, Path}
use Rattle.world_laws.specs.Actors.{Actor, ActorCrew, member_asks, member_next, member_takes}
use Rattle.world_laws.specs.Openings.{PathPlan, Start, opened_world, path_begins, plan_of, plans_from, start_of}
use Rattle.world_laws.specs.StampedBooks.{answer_to}
use Rattle.world_laws.specs.Worlds.{WorldState, Turn, after_turn, all_over, asked, begins, crew_after, greatest, stepped}
use Rattle.world_laws.proofs.Worlds.Opened.{opened_actors}
use Rattle.world_laws.proofs.Writes.Steps.{begins_lasts, settled_lasts}
use Rattle.whole_paths.specs.Finish.{HarmsUseLines, harmed, harms, harms_between, harms_of, harms_to, is_on_direction}
use Rattle.whole_paths.specs.PathDirections.{HarmsOfAPathUseLines, SparesDirectionsOf, is_on_direction_of}
use Rattle.whole_paths.specs.Harms.{IsOnTime, as_it_arrives, harms_left, is_unused, unused}
use Rattle.whole_paths.proofs.Copies.{LinkStep, LinkStays, link_step, links_last}
use Rattle.whole_paths.proofs.Copies.LinkStep.{stays, hands, delivers, is_cut}
use Rattle.whole_paths.proofs.Links.{each_uses_a_line_or_comes, hands_on_at_once}
use Rattle.whole_paths.proofs.Turns.{turn_each}

-- ---- a link

-- without a line that speaks of one of its directions a path has neither a rate nor random loss nor jitter
shape_stays_of : (s : Side) (path : ℕ) (shape : Shape) (lines : List ScriptLine) → SparesDirectionsOf path lines → fold (shaped_by s) shape (lines_of path lines) ≡ shape
shape_stays_of s path shape [] none = refl
shape_stays_of s path shape (line ∷ lines) none =
    let parts = and_parts (not (is_on_direction_of path line)) (list_all (λ line. not (is_on_direction_of path line)) lines) none in
    by (is_path path (path_named line)) refl parts.0 (shape_stays_of s path shape lines parts.1)
  where
    stays_by : (line : ScriptLine) → not (is_on_direction_of path line) ≡ true → is_path path (path_named line) ≡ true → shaped_by s shape line ≡ shape
    stays_by (OnDirection direction impairment) spares here = absurd (true≢false (sym spares ∙ ap not here))
    stays_by _ spares here = refl

    by : (b : Bool) → is_path path (path_named line) ≡ b → not (is_on_direction_of path line) ≡ true → fold (shaped_by s) shape (lines_of path lines) ≡ shape
        → fold (shaped_by s) shape (if b then line ∷ lines_of path lines else lines_of path lines) ≡ shape
    by true here spares rest = ap (λ x. fold (shaped_by s) x (lines_of path lines)) (stays_by line spares here) ∙ rest
    by false here spares rest = rest

-- where none speaks of a direction, none speaks of one of this path
pub directions_spared : (path : ℕ) (lines : List ScriptLine) → list_all (λ line. not (is_on_direction line)) lines ≡ true → SparesDirectionsOf path lines
directions_spared path [] none = refl
directions_spared path (line ∷ lines) none =
    let parts = and_parts (not (is_on_direction line)) (list_all (λ line. not (is_on_direction line)) lines) none in
    and_from (not (is_on_direction_of path line)) (list_all (λ line. not (is_on_direction_of path line)) lines) (by line parts.0) (directions_spared path lines parts.1)
  where
    by : (line : ScriptLine) → not (is_on_direction line) ≡ true → not (is_on_direction_of path line) ≡ true
    by (OnDirection direction impairment) is = absurd (true≢false (sym is))
    by _ is = refl

pub shape_stays : (s : Side) (path : ℕ) (shape : Shape) (lines : List ScriptLine) → list_all (λ line. not (is_on_direction line)) lines ≡ true → fold (shaped_by s) shape (lines_of path lines) ≡ shape
shape_stays s path shape lines none = shape_stays_of s path shape lines (directions_spared path lines none)

any_has : {X : Type 0} (test : X → Bool) (xs : List X) (i : ℕ) (x : X) → slice_get xs i ≡ Some x → test x ≡ true → list_any test xs ≡ true
any_has test [] i x there is = cc
any_has test (y ∷ xs) zero x there is = let same : y ≡ x = same_Some y x there in ap (λ b. b || list_any test xs) (ap test same ∙ is)
any_has test (y ∷ xs) (suc i) x there is = (elim (test y) as (λ b. list_any test xs ≡ true → b || list_any test xs ≡ true) [ true ↦ λ rest. refl | false ↦ λ rest. rest ]) (any_has test xs i x there is)

same_itself : (s : Side) → same_side s s ≡ true
same_itself A = refl
same_itself B = refl

-- a direction without a rate, random loss or jitter, over which a segment goes for 200 ticks at most
record PlainLink {C : Type 0} (link : LinkState C) : Type 0 where
  shape : (s : Side) → shape_of s link.lines ≡ plain_shape
  delay : link.delay ≤ 200
  from_a : link.from_a ≤ 2 ^ 64 - 1
  from_b : link.from_b ≤ 2 ^ 64 - 1

abbrev one_if : Bool → ℕ
one_if b = if b then 1 else 0

most_one : (b : Bool) → one_if b ≤ 1
most_one true = omega arith
most_one false = omega arith

none_one : (b : Bool) → b ≡ false → one_if b ≡ 0
none_one b is = ap one_if is

module _ {C : Type 0} where
  -- one more was taken from this side, and no copy of it comes in time
  abbrev harmed_on : Side → ℕ → LinkState C → LinkState C → Bool
  harmed_on s now l m =
      let number = segments_sent s m in nat_lt (segments_sent s l) number && not (list_any (λ f. same_side f.to (peer s) && (f.number == number && nat_le f.tick (now + 400))) m.under_way)

  -- what is harmed uses a line
  abbrev Uses : ℕ → LinkState C → LinkState C → Type 0
  Uses now l m = PlainLink m × (one_if (harmed_on A now l m) + one_if (harmed_on B now l m) + harms_left m ≤ harms_left l)

  none_more : (s : Side) (now : ℕ) (l m : LinkState C) → segments_sent s m ≡ segments_sent s l → harmed_on s now l m ≡ false
  none_more s now l m same =
      ap (λ b. b && not (list_any (λ f. same_side f.to (peer s) && (f.number == segments_sent s m && nat_le f.tick (now + 400))) m.under_way)) (le-ltb (segments_sent s l) (segments_sent s m) (omega (arith, same)))

  same_uses : (now : ℕ) (l m : LinkState C) → m.from_a ≡ l.from_a → m.from_b ≡ l.from_b → m.lines ≡ l.lines → m.delay ≡ l.delay → PlainLink l → Uses now l m
  same_uses now l m a b lines delay h =
      let none_a : one_if (harmed_on A now l m) ≡ 0 = ap one_if (none_more A now l m a) in
      let none_b : one_if (harmed_on B now l m) ≡ 0 = ap one_if (none_more B now l m b) in
      let left : harms_left m ≡ harms_left l = rw (a, b, lines) refl in
      let short = h.delay in let few_a = h.from_a in let few_b = h.from_b in
      (record { shape = λ s. ap (shape_of s) lines ∙ h.shape s; delay = omega (arith, delay, short); from_a = omega (arith, a, few_a); from_b = omega (arith, b, few_b) }, omega (arith, none_a, none_b, left))

  module _ (strip alter : Side → C → C) (carried : C) (size now : ℕ) (l : LinkState C) (h : PlainLink l) where
    -- a copy comes in time
    in_time : (s : Side) → segments_sent s (after_send strip alter s carried size now l) ≡ next_number s l
        → Has (IsOnTime s size now (as_it_arrives strip alter s carried now l) l) (after_send strip alter s carried size now l).under_way → harmed_on s now l (after_send strip alter s carried size now l) ≡ false
    in_time s sent has =
        let m : LinkState C = after_send strip alter s carried size now l in
        let f : Flight C = has.item in
        let way = (hands_on_at_once s size now l (h.shape s)).2 in let late = has.holds.in_time in let short = h.delay in
        let number : f.number ≡ segments_sent s m = has.holds.number ∙ sym sent in
        let test : (same_side f.to (peer s) && (f.number == segments_sent s m && nat_le f.tick (now + 400))) ≡ true =
        and_from (same_side f.to (peer s)) (f.number == segments_sent s m && nat_le f.tick (now + 400)) (subst (λ t. same_side t (peer s) ≡ true) (sym has.holds.to) (same_itself (peer s)))
        (and_from (f.number == segments_sent s m) (nat_le f.tick (now + 400)) (eq-eqb f.number (segments_sent s m) number) (le-leb f.tick (now + 400) (omega (arith, late, way, short)))) in
        let any = any_has (λ f. same_side f.to (peer s) && (f.number == segments_sent s m && nat_le f.tick (now + 400))) m.under_way has.at f has.there test in
        ap (λ b. nat_lt (segments_sent s l) (segments_sent s m) && not b) any ∙ never (nat_lt (segments_sent s l) (segments_sent s m))
      where
        never : (b : Bool) → (b && false) ≡ false
        never true = refl
        never false = refl

    sent_uses : (s : Side) → Uses now l (after_send strip alter s carried size now l)
    sent_uses A = ⊎_elim few full (cases_lt l.from_a (2 ^ 64 - 1))
      where
        m : LinkState C
        m = after_send strip alter A carried size now l

        other : one_if (harmed_on B now l m) ≡ 0
        other = none_one (harmed_on B now l m) (none_more B now l m refl)

        plain : PlainLink m
        plain = record { shape = h.shape; delay = h.delay; from_a = omega arith; from_b = h.from_b }

        full : 2 ^ 64 - 1 ≤ l.from_a → Uses now l m
        full most = same_uses now l m (let low = h.from_a in omega (arith, most, low)) refl refl refl h

        few : l.from_a < 2 ^ 64 - 1 → Uses now l m
        few less = (
          plain,
          ⊎_elim
              (λ used. let one = most_one (harmed_on A now l m) in omega (arith, used, one, other))
              (λ comes. ⊎_elim (λ lost. absurd (both_ways _ (hands_on_at_once A size now l (h.shape A)).0 lost))
              (λ has. let none = none_one (harmed_on A now l m) (in_time A refl has) in let left = comes.0 in omega (arith, none, other, left)) comes.1)
              (each_uses_a_line_or_comes strip alter A carried size now l less),
        )
    sent_uses B = ⊎_elim few full (cases_lt l.from_b (2 ^ 64 - 1))
      where
        m : LinkState C
        m = after_send strip alter B carried size now l

        other : one_if (harmed_on A now l m) ≡ 0
        other = none_one (harmed_on A now l m) (none_more A now l m refl)

        plain : PlainLink m
        plain = record { shape = h.shape; delay = h.delay; from_a = h.from_a; from_b = omega arith }

        full : 2 ^ 64 - 1 ≤ l.from_b → Uses now l m
        full most = same_uses now l m refl (let low = h.from_b in omega (arith, most, low)) refl refl h

        few : l.from_b < 2 ^ 64 - 1 → Uses now l m
        few less = (
          plain,
          ⊎_elim
              (λ used. let one = most_one (harmed_on B now l m) in omega (arith, used, one, other))
              (λ comes. ⊎_elim (λ lost. absurd (both_ways _ (hands_on_at_once B size now l (h.shape B)).0 lost))
              (λ has. let none = none_one (harmed_on B now l m) (in_time B refl has) in let left = comes.0 in omega (arith, none, other, left)) comes.1)
              (each_uses_a_line_or_comes strip alter B carried size now l less),
        )

  -- ---- a path, an actor

  abbrev PathUses : PathState C → PathState C → Type 0
  PathUses p q = PlainLink p.link → PlainLink q.link × (harms_between (Path p) (Path q) + harms_left q.link ≤ harms_left p.link)

  step_uses : {d : Duty} (k : Codec C) (p q : PathState C) → LinkStep d k p q → PathUses p q
  step_uses k p q (stays is) h = subst (λ m. Uses p.clock p.link m) (sym is) (same_uses p.clock p.link p.link refl refl refl refl h)
  step_uses k p q (hands s carried size still is) h = subst (λ m. Uses p.clock p.link m) (sym is) (sent_uses (k.strips p.profile.spelling) (k.alters p.profile.spelling) carried size p.clock p.link h s)
  step_uses k p q (delivers event due next is) h = subst (λ m. Uses p.clock p.link m) (sym is) (same_uses p.clock p.link _ refl refl refl refl h)
  step_uses k p q (is_cut line next action is dead) h = subst (λ m. Uses p.clock p.link m) (sym is) (same_uses p.clock p.link _ refl refl refl refl h)

  takes_uses : (k : Codec C) (r : Reply) (p : PathState C) → PathUses p (takes k r p)
  takes_uses k r p = by p.agenda
    where
      by : (ds : List Duty) → PathUses p (takes k r (with_agenda ds p))
      by [] h = same_uses p.clock p.link p.link refl refl refl refl h
      by (d ∷ ds) h =
          let x : PathState C = with_agenda (d ∷ ds) p in let y : PathState C = answered k d r x in
          subst (λ m. Uses p.clock p.link m) (sym (settled_lasts LinkStays links_last y.agenda y)) (step_uses k x y (link_step k d r x) h)

  next_uses : (p : PathState C) → PathUses p (next_round p)
  next_uses p h =
      subst (λ m. Uses p.clock p.link m) (sym (begins_lasts LinkStays links_last (record p { clock = p.until; until = p.until + 100 }))) (same_uses p.clock p.link p.link refl refl refl refl h)

  abbrev IsPlain : Actor C → Type 0
  IsPlain (App a) = Unit {0}
  IsPlain (Path p) = PlainLink p.link

  abbrev left_of : Actor C → ℕ
  left_of (App a) = 0
  left_of (Path p) = harms_left p.link

  abbrev Goes : Actor C → Actor C → Type 0
  Goes m n = IsPlain m → IsPlain n × (harms_between m n + left_of n ≤ left_of m)

  stays_so : (m : Actor C) → Goes m m
  stays_so (App a) h = (tt, omega arith)
  stays_so (Path p) h = same_uses p.clock p.link p.link refl refl refl refl h

  takes_so : (k : Codec C) (r : Reply) (m : Actor C) → Goes m (member_takes k r m)
  takes_so k r (App a) h = (tt, omega arith)
  takes_so k r (Path p) h = takes_uses k r p h

  begins_so : (m : Actor C) → Goes m (member_next m)
  begins_so (App a) h = (tt, omega arith)
  begins_so (Path p) h = next_uses p h

  -- ---- many turns

  -- no actor comes into being
  pub none_stays : (k : Codec C) (turn : Turn) (w : WorldState C) (actor : ℕ) → slice_get w.crew actor ≡ None → slice_get (after_turn k turn w).crew actor ≡ None
  none_stays k (Turn.Step i) w actor none = by (slice_get w.crew i) refl
    where
      asking : (c : ActorCrew C) → slice_get w.crew i ≡ Some c → (o : Option _) → slice_get (asked k i o c w).crew actor ≡ None
      asking c there None = none
      asking c there (Some x) = at (slice_get (asked k i (Some x) c w).crew actor) refl
        where
          at : (o : Option (ActorCrew C)) → slice_get (asked k i (Some x) c w).crew actor ≡ o → o ≡ None
          at None is = refl
          at (Some d) is = ⊎_elim
              (λ here. absurd (let same = here.0 in let found : None ≡ Some c = sym none ∙ ap (slice_get w.crew) same ∙ there in cc))
              (λ other. absurd (let found : None ≡ Some d = sym none ∙ other.1 in cc))
              (in_set w.crew i (crew_after k x w.books c) actor d is)

      by : (o : Option (ActorCrew C)) → slice_get w.crew i ≡ o → slice_get (stepped k i o w).crew actor ≡ None
      by None there = none
      by (Some c) there = asking c there (member_asks k c.member)
  none_stays k Turn.Round w actor none = by (all_over w.crew)
    where
      by : (b : Bool) → slice_get (if b then record w { crew = map (begins (greatest 0 w.crew)) w.crew } else w).crew actor ≡ None
      by false = none
      by true = at (slice_get (map (begins (greatest 0 w.crew)) w.crew) actor) refl
        where
          at : (o : Option (ActorCrew C)) → slice_get (map (begins (greatest 0 w.crew)) w.crew) actor ≡ o → o ≡ None
          at None is = refl
          at (Some d) is = let found = in_map (begins (greatest 0 w.crew)) w.crew actor d is in absurd (let gone : None ≡ Some found.0 = sym none ∙ found.1 in cc)

  module _ (k : Codec C) (number : ℕ) where
    none_harmed : (turns : List Turn) (w : WorldState C) → slice_get w.crew (2 + number) ≡ None → harmed k number turns w ≡ 0
    none_harmed [] w none = refl
    none_harmed (turn ∷ turns) w none =
        let rest = none_harmed turns (after_turn k turn w) (none_stays k turn w (2 + number) none) in
        let first : harms_of (slice_get w.crew (2 + number)) (slice_get (after_turn k turn w).crew (2 + number)) ≡ 0 = rw none refl in
        omega (arith, rest, first)

    each_harmed : (turns : List Turn) (w : WorldState C) (c : ActorCrew C) → slice_get w.crew (2 + number) ≡ Some c → IsPlain c.member → harmed k number turns w ≤ left_of c.member
    each_harmed [] w c there h = omega arith
    each_harmed (turn ∷ turns) w c there h =
        let next = turn_each k (λ x y. Goes x.member y.member) (λ x. stays_so x.member) (λ ask books x. takes_so k (answer_to books ask) x.member) (λ stamp x over. begins_so x.member) turn w (2 + number) c there in
        let goes = next.2 h in
        let rest = each_harmed turns (after_turn k turn w) next.0 next.1 goes.0 in
        let first : harms_of (slice_get w.crew (2 + number)) (slice_get (after_turn k turn w).crew (2 + number)) ≡ harms_between c.member next.0.member = rw (there, next.1) refl in
        let fewer = goes.1 in
        omega (arith, rest, first, fewer)

-- ---- at the beginning

-- of a path's lines as many are unused as harm it
line_harms : (number : ℕ) (line : ScriptLine) → is_path number (path_named line) ≡ true → (if is_unused A 0 line then 1 else 0) + (if is_unused B 0 line then 1 else 0) ≤ (if harms number line then 1 else 0)
line_harms number (OnSegment segment Lost) is = by segment.from (nat_lt 0 segment.number) (segment.path == number) is
  where
    by : (from : Side) (some named : Bool) → named ≡ true → (if same_side from A && some then 1 else 0) + (if same_side from B && some then 1 else 0) ≤ (if named then 1 else 0)
    by A true true is = omega arith
    by B true true is = omega arith
    by A false true is = omega arith
    by B false true is = omega arith
    by from some false is = absurd (true≢false (sym is))
line_harms number (OnSegment segment (Late ticks)) is = by segment.from (nat_lt 0 segment.number) (segment.path == number) is
  where
    by : (from : Side) (some named : Bool) → named ≡ true → (if same_side from A && some then 1 else 0) + (if same_side from B && some then 1 else 0) ≤ (if named then 1 else 0)
    by A true true is = omega arith
    by B true true is = omega arith
    by A false true is = omega arith
    by B false true is = omega arith
    by from some false is = absurd (true≢false (sym is))
line_harms number line is = omega arith

all_harms : (number : ℕ) (lines : List ScriptLine) → unused A 0 (lines_of number lines) + unused B 0 (lines_of number lines) ≤ count_by (harms number) lines
all_harms number [] = omega arith
all_harms number (line ∷ lines) =
    subst (λ n. unused A 0 (lines_of number (line ∷ lines)) + unused B 0 (lines_of number (line ∷ lines)) ≤ n) (sym (sum_by-cons (λ x. if harms number x then 1 else 0) line lines))
    (by (is_path number (path_named line)) refl (all_harms number lines))
  where
    by : (b : Bool) → is_path number (path_named line) ≡ b → unused A 0 (lines_of number lines) + unused B 0 (lines_of number lines) ≤ count_by (harms number) lines
        → let among = (if b then line ∷ lines_of number lines else lines_of number lines) in unused A 0 among + unused B 0 among ≤ (if harms number line then 1 else 0) + count_by (harms number) lines
    by true is more = let one = line_harms number line is in omega (arith, one, more)
    by false is more = omega (arith, more)

plan_delay : (script : Script) (first i : ℕ) (lines : List PathLine) (plan : PathPlan) → All IsPath lines → slice_get (plans_from script first lines) i ≡ Some plan → plan.delay ≤ 200
plan_delay script first i [] plan ranges there = cc
plan_delay script first zero (line ∷ lines) plan ranges there =
    let most = (All-head IsPath line lines ranges).delay.most in
    let same : line.delay ≡ plan.delay = ap (λ (p : PathPlan). p.delay) (same_Some (plan_of script first line) plan there) in
    omega (arith, most, same)
plan_delay script first (suc i) (line ∷ lines) plan ranges there = plan_delay script (suc first) i lines plan (All-tail IsPath line lines ranges) there

pub harms_of_a_path_use_lines : HarmsOfAPathUseLines
harms_of_a_path_use_lines script file_a file_b number turns ranges none = by (slice_get (opened_world {C = List ℕ} start).crew (2 + number)) refl
  where
    start : Start
    start = start_of script file_a file_b

    Begins : ℕ → ActorCrew (List ℕ) → Type 0
    Begins actor c = actor ≡ 2 + number → IsPlain c.member × (left_of c.member ≤ harms_to number script)

    first : (n : ℕ) (plan : PathPlan) → slice_get start.paths n ≡ Some plan → suc (suc n) ≡ 2 + number → let q = begins_turn (waiting_path {C = List ℕ} (path_begins start n plan) start.lines) in
        PlainLink q.link × (harms_left q.link ≤ harms_to number script)
    first n plan there is =
        let p : PathState (List ℕ) = waiting_path (path_begins start n plan) start.lines in
        let same : n ≡ number = omega (arith, is) in
        subst (λ (m : LinkState (List ℕ)). PlainLink m × (harms_left m ≤ harms_to number script)) (sym (begins_lasts LinkStays links_last p)) (
          record {
            shape = λ s. shape_stays_of s n plain_shape script.lines (subst (λ m. SparesDirectionsOf m script.lines) (sym same) none);
            delay = plan_delay script 0 n script.paths plan ranges.paths there;
            from_a = omega arith;
            from_b = omega arith;
          },
          subst (λ m. unused A 0 (lines_of m script.lines) + unused B 0 (lines_of m script.lines) ≤ harms_to number script) (sym same) (all_harms number script.lines),
        )

    by : (o : Option (ActorCrew (List ℕ))) → slice_get (opened_world {C = List ℕ} start).crew (2 + number) ≡ o → harmed octets number turns (opened_world start) ≤ harms_to number script
    by None there = let zeroes = none_harmed octets number turns (opened_world start) there in omega (arith, zeroes)
    by (Some c) there =
        let begun = opened_actors Begins start (λ is. absurd (omega (arith, is))) (λ is. absurd (omega (arith, is))) (λ n plan there is. first n plan there is) (2 + number) c there refl in
        let all = each_harmed octets number turns (opened_world start) c there begun.0 in let few = begun.1 in
        omega (arith, all, few)

pub harms_use_lines : HarmsUseLines
harms_use_lines script file_a file_b number turns ranges none = harms_of_a_path_use_lines script file_a file_b number turns ranges (directions_spared number script.lines none)
