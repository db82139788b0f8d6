-- At each moment of a run that never falls back A's control book has B's key only behind a segment of A on path 0 that shows both keys, or path 0 sends
-- that next.
use Rattle.std.proofs.Common.{◌≡◌, refl, sym, ap, ◌∙◌, subst, ℕ, zero, suc, ◌+◌, inl, inr, ◌⊎◌, ⊎_elim, set, map, Bool, true, false, if◌then◌else◌, Option, Some, None, List, [], ◌∷◌}
use Rattle.std.specs.List.{slice_get}
use Rattle.std.proofs.lemmas.Bool.{and_parts, both_ways, false≢true}
use Rattle.std.proofs.lemmas.Option.{same_Some}
use Rattle.actor_desk.specs.Books.{books_in}
use Rattle.actor_desk.specs.Desk.{SixBooks, after_ask}
use Rattle.actor_desk.specs.Words.{is_nil}
use Rattle.actor_desk.specs.declared.ask.Ask.{Ask}
use Rattle.actor_desk.specs.declared.ask.Reply.{Reply}
use Rattle.path_core.specs.MpJoin.{is_joined}
use Rattle.path_core.specs.Start.{waiting_path}
use Rattle.path_core.specs.State.{PathState}
use Rattle.path_core.specs.Steps.{asks_first, takes}
use Rattle.path_core.specs.Values.{Carried, values}
use Rattle.sides.specs.declared.side.Side.TheVariants.{A}
use Rattle.stream_lanes.proofs.Lists.{in_map, in_set, set_other, set_same}
use Rattle.world_laws.proofs.Joins.TokensAgree.{WorldMet}
use Rattle.world_laws.proofs.Keys.ToldAreOwn.{HasPeerKey, NoMore, PathKnows, member_asks_are}
use Rattle.world_laws.proofs.Rounds.Frame.{takes_keeps}
use Rattle.world_laws.proofs.Weaving.Journals.{books_after}
use Rattle.world_laws.proofs.Whole.Falls.{EachUpright, MemberUpright, each_upright}
use Rattle.world_laws.proofs.Worlds.Opened.{opened_actors}
use Rattle.world_laws.proofs.Worlds.Turns.{turn_so}
use Rattle.world_laws.specs.Actors.{Actor, ActorCrew, is_over, member_asks, member_next, member_takes}
use Rattle.world_laws.specs.NeverFalls.{IsWhole}
use Rattle.world_laws.specs.Openings.{Start, opened_world, path_begins}
use Rattle.world_laws.specs.Promises.{IsPlain}
use Rattle.world_laws.specs.StampedBooks.{answer_to}
use Rattle.world_laws.specs.Worlds.{Turn, WorldState, after_turn, all_over, asked, begins, crew_after, greatest, stepped, world_run}
use Rattle.world_laws.specs.declared.member.Member.TheVariants.{App, Path}
use Rattle.own_runs.proofs.ClearKnows.{ClearKnows, begins_known, takes_known}
use Rattle.own_runs.proofs.HeardKnows.{HeardKnows, begins_heard, takes_heard}
use Rattle.own_runs.proofs.KeyNext.{KeyNext, begins_next, takes_next}
use Rattle.own_runs.proofs.KeyRuns.{ActorSays, MemberSays, TurnSays, app_tells, ask_tells, book_so, is_key_told}
use Rattle.own_runs.proofs.KeyedPieces.{next_profile}
use Rattle.own_runs.proofs.KeysSent.{IsDue, ShowsKeys, more_due, path_step, untold}

-- ---- the paths

abbrev pub MemberSo : Actor Carried → Type 0
MemberSo (App a) = Unit {0}
MemberSo (Path p) = KeyNext p × (is_joined p.profile ≡ false → HeardKnows p × ClearKnows p)

abbrev pub WorldSo : WorldState Carried → Type 0
WorldSo w = (actor : ℕ) (c : ActorCrew Carried) → slice_get w.crew actor ≡ Some c → MemberSo c.member

takes_so : (r : Reply) (m : Actor Carried) → MemberUpright m → MemberSo m → MemberSo (member_takes values r m)
takes_so r (App a) upright h = tt
takes_so r (Path p) upright h = (
  takes_next r p h.0,
  λ first.
      let was = ap is_joined (sym (takes_keeps values r p).1) ∙ first in
      let both = h.1 was in
      (takes_heard r p (upright.holds was) both.0, takes_known r p (upright.holds was) was both.0 both.1),
)

next_so : (m : Actor Carried) → MemberSo m → MemberSo (member_next m)
next_so (App a) h = tt
next_so (Path p) h =
    let q : PathState Carried = record p { clock = p.until; until = p.until + 100 } in
    (begins_next q, λ first. (begins_heard q, begins_known q (h.1 (ap is_joined (sym (next_profile p)) ∙ first)).1))

turn_members : (turn : Turn) (w : WorldState Carried) → EachUpright w → WorldSo w → WorldSo (after_turn values turn w)
turn_members turn w upright h =
    turn_so values WorldSo turn w h
    (λ actor c x there is i d at.
    ⊎_elim
    (λ here. subst (λ (y : ActorCrew Carried). MemberSo y.member) here.1 (takes_so (answer_to w.books x) c.member (upright.each actor c there) (h actor c there)))
    (λ other. h i d other.1)
    (in_set w.crew actor (crew_after values x w.books c) i d at))
    (λ over i d at.
    let found = in_map (begins (greatest 0 w.crew)) w.crew i d at in
    subst (λ (y : ActorCrew Carried). MemberSo y.member) found.2 (next_so found.0.member (h i found.0 found.1)))

run_members : (turns : List Turn) (w : WorldState Carried) → ((more : List Turn) → EachUpright (world_run values more w)) → WorldSo w → WorldSo (world_run values turns w)
run_members [] w upright h = h
run_members (turn ∷ turns) w upright h = run_members turns (after_turn values turn w) (λ more. upright (turn ∷ more)) (turn_members turn w (upright []) h)

pub always_so : (start : Start) → IsPlain start → IsWhole start → (turns : List Turn) → WorldSo (world_run values turns (opened_world start))
always_so start plain whole turns =
    run_members turns (opened_world start) (λ more. each_upright start more plain whole)
    (opened_actors (λ actor c. MemberSo c.member) start tt tt
    (λ number plan there.
    let q : PathState Carried = waiting_path (path_begins start number plan) start.lines in
    (begins_next q, λ first. (begins_heard q, begins_known q (λ c. absurd (false≢true c))))))

-- ---- the book

-- path 0 sends it next
pub record DueAt (K : Type 0) (w : WorldState Carried) : Type 0 where
  pub crew : ActorCrew Carried
  pub there : slice_get w.crew 2 ≡ Some crew
  pub path : PathState Carried
  pub member : crew.member ≡ Path path
  pub first : is_joined path.profile ≡ false
  pub due : IsDue K path

abbrev pub Book : Type 0 → WorldState Carried → Type 0
Book K w = HasPeerKey (books_in w.books) A → K ⊎ DueAt K w

-- the path that opens the connection is this actor
abbrev pub IsSecond : WorldState Carried → Type 0
IsSecond w = (i : ℕ) (c : ActorCrew Carried) → slice_get w.crew i ≡ Some c → (p : PathState Carried) → c.member ≡ Path p → is_joined p.profile ≡ false → i ≡ 2

abbrev MemberKnows : ℕ → ℕ → SixBooks → Actor Carried → Type 0
MemberKnows key_a key_b six (App a) = Unit {0}
MemberKnows key_a key_b six (Path p) = PathKnows key_a key_b true NoMore six p

path_same : {x y : PathState Carried} → (let one : Actor Carried = Path x in one) ≡ Path y → x ≡ y
path_same e = cc

module _ (key_a key_b : ℕ) (w : WorldState Carried) (upright : EachUpright w) (met : WorldMet key_a key_b w) (so : WorldSo w) (second : IsSecond w) (K L : Type 0) (more : K → L) (book : Book K w) where
  abbrev six : SixBooks
  six = books_in w.books

  still : Book L w
  still has = ⊎_elim (λ k. inl (more k))
      (λ (d : DueAt K w). inr (record { crew = d.crew; there = d.there; path = d.path; member = d.member; first = d.first; due = more_due K L more d.path d.due })) (book has)

  module _ (actor : ℕ) (c : ActorCrew Carried) (there : slice_get w.crew actor ≡ Some c) (x : Ask) (asks : member_asks values c.member ≡ Some x) where
    abbrev later : WorldState Carried
    later = asked values actor (Some x) c w

    -- an ask that tells no key
    before : (is_key_told x ≡ true → ⊥) → HasPeerKey (after_ask x six) A → HasPeerKey six A
    before untells has =
        book_so (HasPeerKey six A) x six
        (ask_tells (HasPeerKey six A) six x key_a key_b (member_asks_are key_a key_b true six c.member x (met.keys.crew.each actor c there) asks) (λ told. absurd (untells told))) (λ z. z) has

    -- of another actor
    other : (is_key_told x ≡ true → ⊥) → ((d : DueAt K w) → actor ≡ 2 → ⊥) → HasPeerKey (after_ask x six) A → L ⊎ DueAt L later
    other untells apart has =
        ⊎_elim (λ k. inl (more k))
        (λ (d : DueAt K w). inr (record {
          crew = d.crew;
          there = set_other w.crew actor (crew_after values x w.books c) 2 (λ same. apart d (sym same)) ∙ d.there;
          path = d.path;
          member = d.member;
          first = d.first;
          due = more_due K L more d.path d.due;
        })) (book (before untells has))

    member : (m : Actor Carried) → c.member ≡ m → (MemberSays A ShowsKeys m → L) → HasPeerKey (after_ask x six) A → L ⊎ DueAt L later
    member (App a) is says has =
        other (app_tells ⊥ a.agenda a x (ap (member_asks values) (sym is) ∙ asks)) (λ d same. app_no (sym is ∙ ap (λ (y : ActorCrew Carried). y.member) (same_Some c d.crew (sym there ∙ ap (slice_get w.crew) same ∙ d.there)) ∙ d.member)) has
      where
        app_no : {q : PathState Carried} → (let one : Actor Carried = App a in one) ≡ Path q → ⊥
        app_no e = cc
    member (Path p) is says has = by (is_joined p.profile) refl
      where
        so_p : KeyNext p × (is_joined p.profile ≡ false → HeardKnows p × ClearKnows p)
        so_p = subst MemberSo is (so actor c there)

        asks_p : asks_first values p.agenda p ≡ Some x
        asks_p = ap (member_asks values) (sym is) ∙ asks

        by : (b : Bool) → is_joined p.profile ≡ b → L ⊎ DueAt L later
        by true joins = other (calm so_p.0) (λ d same. both_ways _ (subst (λ (q : PathState Carried). is_joined q.profile ≡ false) (same_path d same) d.first) joins) has
          where
            same_path : (d : DueAt K w) → actor ≡ 2 → d.path ≡ p
            same_path d same = path_same (sym d.member ∙ ap (λ (y : ActorCrew Carried). y.member) (same_Some d.crew c (sym d.there ∙ ap (slice_get w.crew) (sym same) ∙ there)) ∙ is)

            calm : KeyNext p → is_key_told x ≡ true → ⊥
            calm (inl quiet) = untold p p.agenda x asks_p quiet
            calm (inr none) = λ told. both_ways _ none.0 joins
        by false first =
            ⊎_elim (λ l. inl l)
            (λ (due : IsDue L (takes values (answer_to w.books x) p)). inr (record {
              crew = crew_after values x w.books c;
              there = ap (λ (i : ℕ). slice_get (set w.crew actor (crew_after values x w.books c)) i) (sym at) ∙ set_same w.crew actor (crew_after values x w.books c) c there;
              path = takes values (answer_to w.books x) p;
              member = ap (member_takes values (answer_to w.books x)) is;
              first = ap is_joined (takes_keeps values (answer_to w.books x) p).1 ∙ first;
              due = due;
            }))
            (path_step key_a key_b six p first (subst MemberUpright is (upright.each actor c there)) (subst (MemberKnows key_a key_b six) is (met.keys.crew.each actor c there)) (so_p.1 first).1 K L more own
            so_p.0 x asks_p (answer_to w.books x) (λ said. says (first, said)) (λ untells. before untells has))
          where
            at : actor ≡ 2
            at = second actor c there p is first

            own : HasPeerKey six A → K ⊎ IsDue K p
            own has = ⊎_elim (λ k. inl k)
                (λ (d : DueAt K w). inr (subst (IsDue K) (path_same (sym d.member ∙ ap (λ (y : ActorCrew Carried). y.member) (same_Some d.crew c (sym d.there ∙ ap (slice_get w.crew) (sym at) ∙ there)) ∙ is)) d.due)) (book has)

    asked_book : (MemberSays A ShowsKeys c.member → L) → Book L later
    asked_book says has = member c.member refl says (subst (λ (b : SixBooks). HasPeerKey b A) (books_after x c.pass w.books) has)

  -- a round: path 0 has nothing to do
  round_book : all_over w.crew ≡ true → Book L (record w { crew = map (begins (greatest 0 w.crew)) w.crew })
  round_book over has = ⊎_elim (λ k. inl (more k)) (λ (d : DueAt K w). absurd (busy d (over_at w.crew 2 d.crew over d.there))) (book has)
    where
      over_at : (crew : List (ActorCrew Carried)) (i : ℕ) (c : ActorCrew Carried) → all_over crew ≡ true → slice_get crew i ≡ Some c → is_over c.member ≡ true
      over_at [] i c over there = cc
      over_at (y ∷ crew) zero c over there = subst (λ (z : ActorCrew Carried). is_over z.member ≡ true) (same_Some y c there) (and_parts (is_over y.member) (all_over crew) over).0
      over_at (y ∷ crew) (suc i) c over there = over_at crew i c (and_parts (is_over y.member) (all_over crew) over).1 there

      busy : (d : DueAt K w) → is_over d.crew.member ≡ true → ⊥
      busy d done =
          ⊎_elim (λ same. false≢true (sym (ap is_nil same) ∙ nil)) (λ same. false≢true (sym (ap is_nil same) ∙ nil)) d.due.shape
        where
          nil : is_nil d.path.agenda ≡ true
          nil = ap is_over (sym d.member) ∙ done

  pub turn_book : (turn : Turn) → (TurnSays A ShowsKeys turn w → L) → Book L (after_turn values turn w)
  turn_book (Turn.Step actor) says = by (slice_get w.crew actor) refl says
    where
      asking : (c : ActorCrew Carried) → slice_get w.crew actor ≡ Some c → (MemberSays A ShowsKeys c.member → L) → (o : Option Ask) → member_asks values c.member ≡ o → Book L (asked values actor o c w)
      asking c there says None asks = still
      asking c there says (Some x) asks = asked_book actor c there x asks says

      by : (o : Option (ActorCrew Carried)) → slice_get w.crew actor ≡ o → (ActorSays A ShowsKeys o → L) → Book L (stepped values actor o w)
      by None none says = still
      by (Some c) there says = asking c there says (member_asks values c.member) refl
  turn_book Turn.Round says = by (all_over w.crew) refl
    where
      by : (b : Bool) → all_over w.crew ≡ b → Book L (if b then record w { crew = map (begins (greatest 0 w.crew)) w.crew } else w)
      by true over = round_book over
      by false over = still
