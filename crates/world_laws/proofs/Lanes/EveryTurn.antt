-- Every turn of the world is a turn of the two directions, and so is every list of turns from the opening on.
use Rattle.world_laws.proofs.Words.{◌≡◌, refl, sym, ◌∙◌, ap, subst, ℕ, zero, suc, ◌+◌, ◌≤◌, ◌||◌, ◌==◌, nat_lt, Bool, true, false, if◌then◌else◌, Option, Some}
use Rattle.world_laws.proofs.Words.{None, List, [], ◌∷◌, length, map, arith, ◌<◌, ◌^◌, set, lt-ltb, false≢true, same_Some, slice_get_within, slice_get, Side, A}
use Rattle.world_laws.proofs.Words.{B, may_finish, start_of_turn, Duty, StepDuty, Ask, books_in, SixBooks, send_of, reply_of, after_ask, pick, AppDuty}
use Rattle.world_laws.proofs.Words.{AppState, fresh_turn, start_of_app, app_ask, app_asks_first, app_next_round, FirstAppStands, stands, ask_for, passed}
use Rattle.world_laws.proofs.Words.{answered, PathState, end_at, with_agenda, path_of, settled, settles_down, answers, asks_first, takes, next_round}
use Rattle.world_laws.proofs.Words.{FirstStands, IsSettled, Carried, values, is_joined, Profile, in_map, set_same, set_other, From-put, Every, From, Duo, Holds}
use Rattle.world_laws.proofs.Words.{Lane, Direction, Reader, App, Path, PathPlan, Start, path_begins, WorldState, Turn, asked, all_over, greatest, begins}
use Rattle.world_laws.proofs.Words.{end_round, after_turn, note_of, answer_to}
use Rattle.std.specs.Option.{option_map}
use Rattle.world_laws.proofs.Lanes.Applying.{Reads, settled_app}
use Rattle.world_laws.proofs.Lanes.Answering.{IsReady, FailOpens}
use Rattle.world_laws.proofs.Worlds.Casts.{Walker, Cast, Fare, Every-put, world_of, walking, seated, walked, after_a, after_b, after_path, fare_after_a, fare_after_b, fare_after_path, map_there, path_asked, path_stepped, path_step_is, walks_on, next_cast, next_is, next_fare}
use Rattle.world_laws.proofs.Falls.ClearStays.{unclear_before, takes_clear, next_clear}
use Rattle.world_laws.proofs.Weaving.Journals.{books_after}
use Rattle.world_laws.proofs.Lanes.OfAWorld.{DutyIsFirm, MemberIsFirm, TurnIsFirm, Carries, duo_of, Others, duo_at, StandsSo, PathThere, WorldShows, FailsJoined, PathIsSteady, IsSteady, Moved, unmoved, then_moved, asked_by, asked_in, TurnShows, Shown, EachTurnShows, turn_events, turn_is}
use Rattle.world_laws.proofs.Places.Known.{takes_those, begins_those}
use Rattle.world_laws.proofs.Places.Sent.{IsLonger, BothLast, all_last, there_lasts, last_longer, KnowsThose}
use Rattle.world_laws.proofs.Lanes.Ready.{ready, opens_where}
use Rattle.world_laws.proofs.Lanes.Roads.{put_there, there_again}
use Rattle.world_laws.proofs.Rounds.Frame.{takes_keeps, first_keeps}
use Rattle.world_laws.proofs.Lanes.Settling.{stands_anyway, settles}
use Rattle.world_laws.proofs.Lanes.Showing.{PathShows}
use Rattle.world_laws.proofs.Lanes.Stepping.{duty_step}
use Rattle.world_laws.proofs.Lanes.Strolling.{Strolled, events_held, lanes_moved}
use Rattle.world_laws.proofs.Places.UntouchedTillAsked.{Granted, silent_so, turn_so}
use Rattle.world_laws.proofs.Joins.NoBytesBeforeClear.{grants_clear}
use Rattle.world_laws.proofs.Lanes.Waking.{lane_if, path_opens_if, may_open, open_moves}
use Rattle.world_laws.proofs.Lanes.Turning.{moved_turn, moved_first, PathTurn, path_turn, taken_told, TurnOfA, turn_of_a, TurnOfB, turn_of_b}

-- what stands first after settling comes to something
pub settled_first : (ds : List Duty) (p : PathState Carried) → IsSettled (settled ds p)
settled_first [] p = tt
settled_first (d ∷ ds) p = (elim (stands d p) as (λ b. stands d p ≡ b → IsSettled (settled ds (passed d p)) → IsSettled (if b then with_agenda (d ∷ ds) p else settled ds (passed d p)))
    [ true ↦ λ is rest. stands_anyway d (d ∷ ds) p ∙ is | false ↦ λ is rest. rest ]) refl (settled_first ds (passed d p))

-- what a world is after a round's end, or without it
abbrev end_round_of : WorldState Carried → Bool → WorldState Carried
end_round_of w over = if over then record w { crew = map (begins (greatest 0 w.crew)) w.crew } else w

-- what a path asks that may be there
abbrev path_asks : Option (Walker Carried) → Option Ask
path_asks None = None
path_asks (Some x) = asks_first values x.path.agenda x.path

path_asked_is : (number : ℕ) (t : Cast Carried) → asked_in (Turn.Step (suc (suc number))) (world_of t) ≡ path_asks (slice_get t.paths number)
path_asked_is number t = ap asked_by (map_there walking t.paths number) ∙ by (slice_get t.paths number)
  where
    by : (o : Option (Walker Carried)) → asked_by (option_map walking o) ≡ path_asks o
    by = elim [ None ↦ refl | Some x ↦ refl ]

module _ (start : Start) (can : Carries start) where
  -- a step as it is, whatever is asked
  record Stepped (o : Option Ask) (d : Duo) (w : WorldState Carried) : Type 0 where
    duo : Duo
    turn_shows : TurnShows o d duo
    world_shows : WorldShows can.links start duo w

  -- a full segment of each path has room for octets beside its options
  pub room : (number : ℕ) (plan : PathPlan) → slice_get start.paths number ≡ Some plan → 29 ≤ (path_begins start number plan).profile.mss
  room number plan there = can.size.each number plan there

  -- lanes at other places are as they were
  pub kept_there : (number : ℕ) (ab ba : Lane) (lanes_ab lanes_ba : List Lane) (n : ℕ) (p : PathState Carried) → (n ≡ number → ⊥) → PathThere start lanes_ab lanes_ba n p
      → PathThere start (set lanes_ab number ab) (set lanes_ba number ba) n p
  kept_there number ab ba lanes_ab lanes_ba n p apart h = record {
    plan = h.plan;
    plan_there = h.plan_there;
    numbered = h.numbered;
    ab = h.ab;
    ba = h.ba;
    ab_there = set_other lanes_ab number ab n apart ∙ h.ab_there;
    ba_there = set_other lanes_ba number ba n apart ∙ h.ba_there;
    shows = h.shows;
    stands = h.stands;
    knows = h.knows;
  }

  -- what there is beside the lanes of a path
  abbrev pub beside : (lanes_ab lanes_ba : List Lane) (reader_a reader_b : Reader) (number : ℕ) (ab ba : Lane) → slice_get lanes_ab number ≡ Some ab → slice_get lanes_ba number ≡ Some ba → Others
  beside lanes_ab lanes_ba reader_a reader_b number ab ba ab_there ba_there = record {
    links = can.links;
    number = number;
    lanes_ab = lanes_ab;
    lanes_ba = lanes_ba;
    within_ab = slice_get_within lanes_ab number ab ab_there;
    within_ba = slice_get_within lanes_ba number ba ba_there;
    reader_a = reader_a;
    reader_b = reader_b;
  }

  -- with these lanes the two directions are as they are
  pub beside_is : (lanes_ab lanes_ba : List Lane) (reader_a reader_b : Reader) (number : ℕ) (ab ba : Lane) (ab_there : slice_get lanes_ab number ≡ Some ab) (ba_there : slice_get lanes_ba number ≡ Some ba)
      (six : SixBooks) → duo_at six ab ba (beside lanes_ab lanes_ba reader_a reader_b number ab ba ab_there ba_there) ≡ duo_of can.links six lanes_ab lanes_ba reader_a reader_b
  beside_is lanes_ab lanes_ba reader_a reader_b number ab ba ab_there ba_there six =
      ap (λ lanes. duo_of can.links six lanes (set lanes_ba number ba) reader_a reader_b) (there_again lanes_ab number ab ab_there)
      ∙ ap (λ lanes. duo_of can.links six lanes_ab lanes reader_a reader_b) (there_again lanes_ba number ba ba_there)

  -- the path goes on, on these lanes
  pub goes_there : (lanes_ab lanes_ba : List Lane) (number : ℕ) (p q : PathState Carried) (h : PathThere start lanes_ab lanes_ba number p) (ab ba : Lane) → path_of q ≡ path_of p
      → PathShows (path_begins start number h.plan).profile q ab ba → StandsSo number q ab ba → KnowsThose ab ba q → PathThere start (set lanes_ab number ab) (set lanes_ba number ba) number q
  goes_there lanes_ab lanes_ba number p q h ab ba same shows stands knows = record {
    plan = h.plan;
    plan_there = h.plan_there;
    numbered = same ∙ h.numbered;
    ab = ab;
    ba = ba;
    ab_there = set_same lanes_ab number ab h.ab h.ab_there;
    ba_there = set_same lanes_ba number ba h.ba h.ba_there;
    shows = shows;
    stands = stands;
    knows = knows;
  }

  -- while A may send no DSS on a path that joins, it is granted nothing
  abbrev pub Unsent : PathState Carried → PathState Carried → Lane → Lane → Type 0
  Unsent p q ab ab_after = is_joined p.profile ≡ true → q.a.modes.clear ≡ false → (p.a.modes.clear ≡ false) × (ab_after.sent ≡ ab.sent)

  later_joins : (n path : ℕ) → path ≡ suc n → nat_lt 0 path ≡ true
  later_joins n path is = subst (λ m. nat_lt 0 m ≡ true) (sym is) (lt-ltb 0 (suc n) (omega arith))

  -- lanes that only get longer stay open
  -- no end of a path that joins fell back
  unplain : (number : ℕ) (p : PathState Carried) → p.profile.spelling.path ≡ number → ((n : ℕ) → number ≡ suc n → (s : Side) → (end_at s p).modes.identity ≡ false) → is_joined p.profile ≡ true
      → p.a.modes.identity ≡ false
  unplain zero p numbered mode joins = absurd (false≢true (sym (ap (λ n. nat_lt 0 n) numbered) ∙ joins))
  unplain (suc n) p numbered mode joins = mode n refl A

  pub stands_on : (number : ℕ) (p q : PathState Carried) (ab ba ab_after ba_after : Lane) → p.profile.spelling.path ≡ number → IsLonger ab ab_after → IsLonger ba ba_after
      → Unsent p q ab ab_after → StandsSo number p ab ba → StandsSo number q ab_after ba_after
  stands_on zero p q ab ba ab_after ba_after numbered x y unsent h = (x.opened h.0, y.opened h.1)
  stands_on (suc number) p q ab ba ab_after ba_after numbered x y unsent h = λ unclear. let so = unsent (later_joins number p.profile.spelling.path numbered) unclear in so.1 ∙ h so.0

  -- a lane that is open stays open where it may open
  if_opened : (b : Bool) (p : Lane) → p.opened ≡ true → (lane_if b p).opened ≡ true
  if_opened = elim [ true ↦ λ p is. refl | false ↦ λ p is. is ]

  if_sent : (b : Bool) (p : Lane) → (lane_if b p).sent ≡ p.sent
  if_sent = elim [ true ↦ λ p. refl | false ↦ λ p. refl ]

  stands_open : (b : Bool) (number : ℕ) (p : PathState Carried) (ab ba : Lane) → StandsSo number p ab ba → StandsSo number p (lane_if b ab) (lane_if b ba)
  stands_open b zero p ab ba h = (if_opened b ab h.0, if_opened b ba h.1)
  stands_open b (suc number) p ab ba h = λ unclear. if_sent b ab ∙ h unclear

  those_open : (b : Bool) (p : PathState Carried) (ab ba : Lane) → KnowsThose ab ba p → KnowsThose (lane_if b ab) (lane_if b ba) p
  those_open = elim [ true ↦ λ p ab ba h. h | false ↦ λ p ab ba h. h ]

  numbered_by : (number : ℕ) (plan : PathPlan) (p : PathState Carried) → p.profile ≡ (path_begins start number plan).profile → p.profile.spelling.path ≡ number
  numbered_by number plan p is = ap (λ d. d.spelling.path) is

  -- the lane there was granted what it was
  pub same_there_sent : (number : ℕ) (p q : Lane) (d : Direction) → Granted number p.sent d → slice_get d.lanes number ≡ Some q → q.sent ≡ p.sent
  same_there_sent number p q d g there = ap (λ (x : Lane). x.sent) (sym (same_Some g.lane q (sym g.there ∙ there))) ∙ g.same

  -- ---- all paths begin a round

  abbrev pub begun_path : PathState Carried → PathState Carried
  begun_path p = with_agenda start_of_turn (record p { clock = p.until; until = p.until + 100 })

  -- what a path shows depends on the lanes at its place alone
  pub same_there : (lanes_ab lanes_ba after_ab after_ba : List Lane) (number : ℕ) (p : PathState Carried) → slice_get after_ab number ≡ slice_get lanes_ab number
      → slice_get after_ba number ≡ slice_get lanes_ba number → PathThere start lanes_ab lanes_ba number p → PathThere start after_ab after_ba number p
  same_there lanes_ab lanes_ba after_ab after_ba number p same_ab same_ba h = record {
    plan = h.plan;
    plan_there = h.plan_there;
    numbered = h.numbered;
    ab = h.ab;
    ba = h.ba;
    ab_there = same_ab ∙ h.ab_there;
    ba_there = same_ba ∙ h.ba_there;
    shows = h.shows;
    stands = h.stands;
    knows = h.knows;
  }

  module _ (six : SixBooks) (reader_a reader_b : Reader) where
    abbrev with_lanes : List Lane → List Lane → Duo
    with_lanes lanes_ab lanes_ba = duo_of can.links six lanes_ab lanes_ba reader_a reader_b

    -- a list of paths, the first of which has this number, begin a round on lanes that move
    pub record AllBegun (first : ℕ) (xs : List (Walker Carried)) (lanes_ab lanes_ba : List Lane) : Type 0 where
      pub ab_after : List Lane
      pub ba_after : List Lane
      pub moved : Moved (with_lanes lanes_ab lanes_ba) (with_lanes ab_after ba_after)
      pub paths : From (λ n x. PathThere start ab_after ba_after n (next_round x.path)) first xs
      pub earlier_ab : (n : ℕ) → n < first → slice_get ab_after n ≡ slice_get lanes_ab n
      pub earlier_ba : (n : ℕ) → n < first → slice_get ba_after n ≡ slice_get lanes_ba n

    -- one of them
    record OneBegun (number : ℕ) (p : PathState Carried) (lanes_ab lanes_ba : List Lane) : Type 0 where
      ab : Lane
      ba : Lane
      moved : Moved (with_lanes lanes_ab lanes_ba) (with_lanes (set lanes_ab number ab) (set lanes_ba number ba))
      path : PathThere start (set lanes_ab number ab) (set lanes_ba number ba) number (next_round p)

    one_begun : (number : ℕ) (p : PathState Carried) (lanes_ab lanes_ba : List Lane) → PathThere start lanes_ab lanes_ba number p → Holds (with_lanes lanes_ab lanes_ba) → OneBegun number p lanes_ab lanes_ba
    one_begun number p lanes_ab lanes_ba h holds =
        let others = beside lanes_ab lanes_ba reader_a reader_b number h.ab h.ba h.ab_there h.ba_there in
        let here_is = beside_is lanes_ab lanes_ba reader_a reader_b number h.ab h.ba h.ab_there h.ba_there six in
        let c = (path_begins start number h.plan).profile in
        let w : Strolled c (next_round p) h.ab h.ba =
        settles six others c start_of_turn (begun_path p) h.ab h.ba
        (record { profile = h.shows.profile; may = h.shows.may; a = h.shows.a; b = h.shows.b; copies = h.shows.copies }) (subst Holds (sym here_is) holds) in
        let e : Duo = duo_at six w.ab_after w.ba_after others in
        let moved : Moved (with_lanes lanes_ab lanes_ba) e = subst (λ d. Moved d e) here_is (lanes_moved six others h.ab w.ab_after h.ba w.ba_after w.ab_moves w.ba_moves) in
        let last = all_last moved.events number h.ab h.ba (with_lanes lanes_ab lanes_ba)
        (record { ab = there_lasts number h.ab (with_lanes lanes_ab lanes_ba).ab h.ab_there; ba = there_lasts number h.ba (with_lanes lanes_ab lanes_ba).ba h.ba_there }) in
        let later : BothLast number h.ab h.ba e = subst (BothLast number h.ab h.ba) (sym moved.to) last in
        let longer_ab = last_longer number h.ab w.ab_after e.ab (set_same lanes_ab number w.ab_after h.ab h.ab_there) later.ab in
        let longer_ba = last_longer number h.ba w.ba_after e.ba (set_same lanes_ba number w.ba_after h.ba h.ba_there) later.ba in
        let granted : Granted number h.ab.sent e.ab =
        subst (λ d. Granted number h.ab.sent d.ab) (sym moved.to) (silent_so number h.ab.sent moved.events moved.silent (with_lanes lanes_ab lanes_ba) (record { lane = h.ab; there = h.ab_there; same = refl })) in
        let clears = next_clear p in
        record {
          ab = w.ab_after;
          ba = w.ba_after;
          moved = moved;
          path = goes_there lanes_ab lanes_ba number p (next_round p) h w.ab_after w.ba_after (first_keeps (record p { clock = p.until; until = p.until + 100 })).2 w.shows
              (stands_on number p (next_round p) h.ab h.ba w.ab_after w.ba_after (numbered_by number h.plan p h.shows.profile) longer_ab longer_ba
              (λ joins unclear. (unclear_before p.a.modes.clear _ clears.a.0 unclear, same_there_sent number h.ab w.ab_after e.ab granted (set_same lanes_ab number w.ab_after h.ab h.ab_there)))
              h.stands)
              (begins_those h.ab h.ba w.ab_after w.ba_after longer_ab longer_ba p h.knows);
        }

    pub all_begun : (first : ℕ) (xs : List (Walker Carried)) (lanes_ab lanes_ba : List Lane) → From (λ n x. PathThere start lanes_ab lanes_ba n x.path) first xs → Holds (with_lanes lanes_ab lanes_ba)
        → AllBegun first xs lanes_ab lanes_ba
    all_begun first [] lanes_ab lanes_ba h holds = record {
      ab_after = lanes_ab;
      ba_after = lanes_ba;
      moved = unmoved (with_lanes lanes_ab lanes_ba);
      paths = record { each = λ i n x n_is there. cc };
      earlier_ab = λ n below. refl;
      earlier_ba = λ n below. refl;
    }
    all_begun first (x ∷ xs) lanes_ab lanes_ba h holds =
        let one = one_begun first x.path lanes_ab lanes_ba (h.each 0 first x (omega arith) refl) holds in
        let ab : List Lane = set lanes_ab first one.ab in let ba : List Lane = set lanes_ba first one.ba in
        let rest = all_begun (suc first) xs ab ba
        (record { each = λ i n y n_is there. kept_there first one.ab one.ba lanes_ab lanes_ba n y.path (λ same. omega (arith, same, n_is)) (h.each (suc i) n y (omega (arith, n_is)) there) })
        (subst Holds (sym one.moved.to) (events_held one.moved.events (with_lanes lanes_ab lanes_ba) holds)) in
        record {
          ab_after = rest.ab_after;
          ba_after = rest.ba_after;
          moved = then_moved (with_lanes lanes_ab lanes_ba) (with_lanes ab ba) (with_lanes rest.ab_after rest.ba_after) one.moved rest.moved;
          paths = record { each = at one.path rest.paths (rest.earlier_ab first (omega arith)) (rest.earlier_ba first (omega arith)) };
          earlier_ab = λ n below. rest.earlier_ab n (omega (arith, below)) ∙ set_other lanes_ab first one.ab n (λ same. omega (arith, same, below));
          earlier_ba = λ n below. rest.earlier_ba n (omega (arith, below)) ∙ set_other lanes_ba first one.ba n (λ same. omega (arith, same, below));
        }
      where
        at : {ab ba ab_after ba_after : List Lane} → PathThere start ab ba first (next_round x.path) → From (λ n y. PathThere start ab_after ba_after n (next_round y.path)) (suc first) xs
            → slice_get ab_after first ≡ slice_get ab first → slice_get ba_after first ≡ slice_get ba first
            → (i n : ℕ) (y : Walker Carried) → n ≡ first + i → slice_get (x ∷ xs) i ≡ Some y → PathThere start ab_after ba_after n (next_round y.path)
        at {ab} {ba} {ab_after} {ba_after} path others same_ab same_ba zero n y n_is there =
            let number : first ≡ n = omega (arith, n_is) in
            subst (λ m. PathThere start ab_after ba_after m (next_round y.path)) number
            (subst (λ z. PathThere start ab_after ba_after first (next_round z.path)) (same_Some x y there) (same_there ab ba ab_after ba_after first (next_round x.path) same_ab same_ba path))
        at path others same_ab same_ba (suc i) n y n_is there = others.each i n y (omega (arith, n_is)) there

  -- ---- a step

  module _ (t : Cast Carried) (fare : Fare start t) (settled_paths : Every (λ x. IsSettled x.path) t.paths) (lanes_ab lanes_ba : List Lane) (reader_a reader_b : Reader)
      (reads_a : Reads t.a.told t.at_a.list reader_a) (reads_b : Reads t.b.told t.at_b.list reader_b) (paths : From (λ n x. PathThere start lanes_ab lanes_ba n x.path) 0 t.paths)
      (steady : IsSteady (world_of t)) (holds : Holds (duo_of can.links (books_in t.books) lanes_ab lanes_ba reader_a reader_b)) where
    abbrev six : SixBooks
    six = books_in t.books

    abbrev here : Duo
    here = duo_of can.links six lanes_ab lanes_ba reader_a reader_b

    unmoved_world : WorldShows can.links start here (world_of t)
    unmoved_world = record {
      cast = t;
      is = refl;
      fare = fare;
      settled = settled_paths;
      lanes_ab = lanes_ab;
      lanes_ba = lanes_ba;
      reader_a = reader_a;
      reader_b = reader_b;
      duo_is = refl;
      reads_a = reads_a;
      reads_b = reads_b;
      paths = paths;
    }

    stays_here : Stepped None here (world_of t)
    stays_here = record { duo = here; turn_shows = moved_turn here here (unmoved here); world_shows = unmoved_world }

    -- ---- a path

    short : (s : Side) → length (send_of s six).marks < 2 ^ 63
    short A = let most = steady.short A in let whole = holds.ab.send.whole in omega (arith, most, whole)
    short B = let most = steady.short B in let whole = holds.ba.send.whole in omega (arith, most, whole)

    module _ (number : ℕ) (x : Walker Carried) (there : slice_get t.paths number ≡ Some x) where
      abbrev p : PathState Carried
      p = x.path

      abbrev path : PathThere start lanes_ab lanes_ba number p
      path = paths.each number number x (omega arith) there

      abbrev others : Others
      others = beside lanes_ab lanes_ba reader_a reader_b number path.ab path.ba path.ab_there path.ba_there

      abbrev here_is : duo_at six path.ab path.ba others ≡ here
      here_is = beside_is lanes_ab lanes_ba reader_a reader_b number path.ab path.ba path.ab_there path.ba_there six

      at_holds : Holds (duo_at six path.ab path.ba others)
      at_holds = subst Holds (sym here_is) holds

      abbrev c : Profile
      c = (path_begins start number path.plan).profile

      own : PathShows p.profile p path.ab path.ba
      own = subst (λ d. PathShows d p path.ab path.ba) (sym path.shows.profile) path.shows

      size : 29 ≤ p.profile.mss
      size = subst (λ d. 29 ≤ d.mss) (sym path.shows.profile) (room number path.plan path.plan_there)

      first_of : (duty : Duty) (ds : List Duty) → p.agenda ≡ duty ∷ ds → stands duty p ≡ true
      first_of duty ds is = subst (λ xs. FirstStands xs p) is (settled_paths.each number x there)

      numbered : p.profile.spelling.path ≡ number
      numbered = numbered_by number path.plan p path.shows.profile

      path_steady : PathIsSteady six number p
      path_steady = steady.each number (walking x) (map_there walking t.paths number ∙ ap (option_map walking) there)

      -- the lanes before the step, which open where they may
      pub record Readied : Type 0 where
        pub ab : Lane
        pub ba : Lane
        pub moved : Moved here (duo_at six ab ba others)
        pub shows : PathShows p.profile p ab ba
        pub ready : IsReady p ab ba
        pub stands : StandsSo number p ab ba
        pub knows : KnowsThose ab ba p
        pub opens : (s : Side) → six.control_b.fall.joined ≡ true → (pick s ab ba).opened ≡ true

      pub readied : Readied
      readied =
          let b : Bool = may_open six number in
          let opens = open_moves six others path.ab path.ba in
          let opened : Duo = duo_at six (lane_if b path.ab) (lane_if b path.ba) others in
          let stands = stands_open b number p path.ab path.ba path.stands in
          record {
            ab = lane_if b path.ab;
            ba = lane_if b path.ba;
            moved = subst (λ d. Moved d opened) here_is opens;
            shows = path_opens_if b p.profile p path.ab path.ba own;
            ready = ready six others p (lane_if b path.ab) (lane_if b path.ba) path_steady.clear joins path_steady.mode
                (λ is. ap (λ d. d.spelling.checksums) path.shows.profile ∙ can.checks is) (subst Holds (sym opens.to) (events_held opens.events (duo_at six path.ab path.ba others) at_holds)) stands;
            stands = stands;
            knows = those_open b p path.ab path.ba path.knows;
            opens = joins_open;
          }
        where
          opens_by : (b : Bool) (q : Lane) → b ≡ true → (lane_if (b || number == 0) q).opened ≡ true
          opens_by = elim [ true ↦ λ q is. refl | false ↦ λ q is. absurd (false≢true is) ]

          joins_open : (s : Side) → six.control_b.fall.joined ≡ true → (pick s (lane_if (may_open six number) path.ab) (lane_if (may_open six number) path.ba)).opened ≡ true
          joins_open A is = opens_by six.control_b.fall.joined path.ab is
          joins_open B is = opens_by six.control_b.fall.joined path.ba is

          joins : (n : ℕ) → number ≡ suc n → (s : Side) → may_finish (end_at s p).tcp.state ≡ true → (pick s (lane_if (may_open six number) path.ab) (lane_if (may_open six number) path.ba)).opened ≡ true
          joins n is A may = opens_by six.control_b.fall.joined path.ab (path_steady.joined n is A may)
          joins n is B may = opens_by six.control_b.fall.joined path.ba (path_steady.joined n is B may)

      pub readied_holds : Holds (duo_at six readied.ab readied.ba others)
      readied_holds = subst Holds (sym readied.moved.to) (events_held readied.moved.events here holds)

      -- where MP_FAIL is heard the lane is open
      pub fails_open : (duty : Duty) → FailsJoined six number p duty → FailOpens p readied.ab readied.ba duty
      fails_open (Duty.Step (StepDuty.Heard s index)) fails = λ fail. opens_where number p readied.ab readied.ba readied.stands s (λ n is. readied.opens s (fails n is fail))
      fails_open _ fails = tt

      turn_of : (duty : Duty) (ds : List Duty) (is : p.agenda ≡ duty ∷ ds) → DutyIsFirm can.links six p duty
          → let r = readied in PathTurn p.profile six others (ask_for values duty p) (takes values (reply_of six (ask_for values duty p)) p) r.ab r.ba
      turn_of duty ds is firm =
          let ask = ask_for values duty p in
          let q = answered values duty (reply_of six ask) p in
          let r = readied in
          subst (λ x. PathTurn p.profile six others ask x r.ab r.ba) (sym (ap (λ xs. settles_down (answers values xs (reply_of six ask) p)) is))
          (path_turn p.profile six others ask q r.ab r.ba q.agenda readied_holds
          (duty_step six others p r.ab r.ba r.shows readied_holds r.ready path.numbered size short duty (first_of duty ds is) (path_steady.calm duty ds is) (path_steady.may duty ds is) firm
          (fails_open duty (path_steady.fails duty ds is))))

      duty_stepped : (duty : Duty) (ds : List Duty) → p.agenda ≡ duty ∷ ds → DutyIsFirm can.links six p duty → Stepped (Some (ask_for values duty p)) here (world_of (after_path values number x (ask_for values duty p) t))
      duty_stepped duty ds is firm =
          let ask = ask_for values duty p in
          let q : PathState Carried = takes values (reply_of six ask) p in
          let r = readied in
          let turn = turn_of duty ds is firm in
          let d : Duo = duo_at six r.ab r.ba others in
          let e : Duo = duo_at (after_ask ask six) turn.ab_end turn.ba_end others in
          let there_ab = put_there lanes_ab number r.ab others.within_ab in
          let there_ba = put_there lanes_ba number r.ba others.within_ba in
          let end_ab = put_there lanes_ab number turn.ab_end others.within_ab in
          let end_ba = put_there lanes_ba number turn.ba_end others.within_ba in
          let last = all_last (turn_events turn.turn) number r.ab r.ba d (record { ab = there_lasts number r.ab d.ab there_ab; ba = there_lasts number r.ba d.ba there_ba }) in
          let later : BothLast number r.ab r.ba e = subst (BothLast number r.ab r.ba) (sym (turn_is turn.turn)) last in
          let longer_ab = last_longer number r.ab turn.ab_end e.ab end_ab later.ab in
          let longer_ba = last_longer number r.ba turn.ba_end e.ba end_ba later.ba in
          let clears = takes_clear values (reply_of six ask) p in
          record {
            duo = e;
            turn_shows = moved_first (Some ask) here d e r.moved turn.turn;
            world_shows = record {
              cast = after_path values number x ask t;
              is = refl;
              fare = fare_after_path values start t fare number x there duty;
              settled = Every-put number (walked values ask t.books x) (takes_settled duty ds is) settled_paths;
              lanes_ab = set lanes_ab number turn.ab_end;
              lanes_ba = set lanes_ba number turn.ba_end;
              reader_a = reader_a;
              reader_b = reader_b;
              duo_is = ap (λ books. duo_of can.links books (set lanes_ab number turn.ab_end) (set lanes_ba number turn.ba_end) reader_a reader_b) (sym (books_after ask x.at.pass t.books));
              reads_a = reads_a;
              reads_b = reads_b;
              paths = From-put number (walked values ask t.books x)
                  (λ n y apart h. kept_there number turn.ab_end turn.ba_end lanes_ab lanes_ba n y.path apart h)
                  (goes_there lanes_ab lanes_ba number p q path turn.ab_end turn.ba_end (takes_keeps values (reply_of six ask) p).2
                  (subst (λ c. PathShows c q turn.ab_end turn.ba_end) path.shows.profile turn.shows)
                  (stands_on number p q r.ab r.ba turn.ab_end turn.ba_end numbered longer_ab longer_ba
                  (λ joins unclear. let before = unclear_before p.a.modes.clear _ clears.a.0 unclear in (
                    before,
                    same_there_sent number r.ab turn.ab_end e.ab
                        (turn_so number r.ab.sent ask d e (grants_clear values p duty (first_of duty ds is) joins before (unplain number p numbered path_steady.mode joins)) turn.turn (record { lane = r.ab; there = there_ab; same = refl })) end_ab,
                  )) r.stands)
                  (takes_those r.ab r.ba turn.ab_end turn.ba_end longer_ab longer_ba six others p (reply_of six ask) r.shows readied_holds r.knows))
                  paths;
            };
          }
        where
          takes_settled : (duty : Duty) (ds : List Duty) → p.agenda ≡ duty ∷ ds → IsSettled (takes values (reply_of six (ask_for values duty p)) p)
          takes_settled duty ds is =
              let m = answered values duty (reply_of six (ask_for values duty p)) p in
              subst IsSettled (sym (ap (λ xs. settles_down (answers values xs (reply_of six (ask_for values duty p)) p)) is)) (settled_first m.agenda m)

      path_step : (ds : List Duty) → p.agenda ≡ ds → MemberIsFirm can.links six (Path p) → Stepped (asks_first values ds p) here (path_asked values number x (asks_first values ds p) t)
      path_step [] is firm = stays_here
      path_step (duty ∷ ds) is firm = duty_stepped duty ds is (firm duty ds is)

    -- ---- the applications

    step_of_a : (ds : List AppDuty) → t.a.agenda ≡ ds → Stepped (app_asks_first ds t.a) here (asked values 0 (app_asks_first ds t.a) (seated t.at_a (App t.a)) (world_of t))
    step_of_a [] is = stays_here
    step_of_a (duty ∷ ds) is =
        let ask = app_ask duty t.a in
        let turn : TurnOfA can.links six lanes_ab lanes_ba reader_a reader_b t.a t.at_a.list (note_of t.books t.at_a.pass ask) t.a duty =
        turn_of_a can.links six lanes_ab lanes_ba reader_a reader_b t.a t.at_a.list (note_of t.books t.at_a.pass ask) duty fare.a.side_is (subst (λ xs. FirstAppStands xs t.a) is fare.a.settled) refl reads_a in
        record {
          duo = duo_of can.links (after_ask ask six) lanes_ab lanes_ba turn.reader reader_b;
          turn_shows = turn.turn;
          world_shows = record {
            cast = after_a ask t;
            is = refl;
            fare = fare_after_a start t fare duty ds is;
            settled = settled_paths;
            lanes_ab = lanes_ab;
            lanes_ba = lanes_ba;
            reader_a = turn.reader;
            reader_b = reader_b;
            duo_is = ap (λ books. duo_of can.links books lanes_ab lanes_ba turn.reader reader_b) (sym (books_after ask t.at_a.pass t.books));
            reads_a = subst (λ told. Reads told (after_a ask t).at_a.list turn.reader) (sym (taken_told duty ds (answer_to t.books ask) t.a is)) turn.reads;
            reads_b = reads_b;
            paths = paths;
          };
        }

    step_of_b : (ds : List AppDuty) → t.b.agenda ≡ ds → Stepped (app_asks_first ds t.b) here (asked values 1 (app_asks_first ds t.b) (seated t.at_b (App t.b)) (world_of t))
    step_of_b [] is = stays_here
    step_of_b (duty ∷ ds) is =
        let ask = app_ask duty t.b in
        let turn : TurnOfB can.links six lanes_ab lanes_ba reader_a reader_b t.b t.at_b.list (note_of t.books t.at_b.pass ask) t.b duty =
        turn_of_b can.links six lanes_ab lanes_ba reader_a reader_b t.b t.at_b.list (note_of t.books t.at_b.pass ask) duty fare.b.side_is (subst (λ xs. FirstAppStands xs t.b) is fare.b.settled) refl reads_b in
        record {
          duo = duo_of can.links (after_ask ask six) lanes_ab lanes_ba reader_a turn.reader;
          turn_shows = turn.turn;
          world_shows = record {
            cast = after_b ask t;
            is = refl;
            fare = fare_after_b start t fare duty ds is;
            settled = settled_paths;
            lanes_ab = lanes_ab;
            lanes_ba = lanes_ba;
            reader_a = reader_a;
            reader_b = turn.reader;
            duo_is = ap (λ books. duo_of can.links books lanes_ab lanes_ba reader_a turn.reader) (sym (books_after ask t.at_b.pass t.books));
            reads_a = reads_a;
            reads_b = subst (λ told. Reads told (after_b ask t).at_b.list turn.reader) (sym (taken_told duty ds (answer_to t.books ask) t.b is)) turn.reads;
            paths = paths;
          };
        }

    -- ---- the end of a round

    begun_told : (a : AppState) → (app_next_round a).told ≡ a.told
    begun_told a = ap (λ x. x.told) (settled_app start_of_app (fresh_turn a)).is

    begun : Stepped None here (end_round_of (world_of t) true)
    begun =
        let all = all_begun six reader_a reader_b 0 t.paths lanes_ab lanes_ba paths holds in
        let next = next_cast t in
        record {
          duo = duo_of can.links six all.ab_after all.ba_after reader_a reader_b;
          turn_shows = moved_turn here (duo_of can.links six all.ab_after all.ba_after reader_a reader_b) all.moved;
          world_shows = record {
            cast = next;
            is = next_is t;
            fare = next_fare start t fare;
            settled = record {
              each = λ i y at. let found = in_map (walks_on (greatest 0 (world_of t).crew)) t.paths i y at in
                  subst (λ z. IsSettled z.path) found.2 (settled_first start_of_turn (begun_path found.0.path));
            };
            lanes_ab = all.ab_after;
            lanes_ba = all.ba_after;
            reader_a = reader_a;
            reader_b = reader_b;
            duo_is = refl;
            reads_a = subst (λ told. Reads told t.at_a.list reader_a) (sym (begun_told t.a)) reads_a;
            reads_b = subst (λ told. Reads told t.at_b.list reader_b) (sym (begun_told t.b)) reads_b;
            paths = record {
              each = λ i n y n_is at. let found = in_map (walks_on (greatest 0 (world_of t).crew)) t.paths i y at in
                  subst (λ z. PathThere start all.ab_after all.ba_after n z.path) found.2 (all.paths.each i n found.0 n_is found.1);
            };
          };
        }

    round_step : Stepped None here (end_round (world_of t))
    round_step = elim (all_over (world_of t).crew) as (λ over. Stepped None here (end_round_of (world_of t) over)) [ false ↦ stays_here | true ↦ begun ]

    -- ---- every turn

    path_turn_step : (number : ℕ) → TurnIsFirm can.links (Turn.Step (suc (suc number))) (world_of t) → (o : Option (Walker Carried)) → slice_get t.paths number ≡ o
        → Stepped (path_asks o) here (path_stepped values number o t)
    path_turn_step number firm None there = stays_here
    path_turn_step number firm (Some x) there = path_step number x there x.path.agenda refl (firm (walking x) (map_there walking t.paths number ∙ ap (option_map walking) there))

    shown_by : (turn : Turn) (o : Option Ask) (w : WorldState Carried) → asked_in turn (world_of t) ≡ o → after_turn values turn (world_of t) ≡ w → Stepped o here w → Shown can.links start turn here (world_of t)
    shown_by turn o w asks goes x = record {
      duo = x.duo;
      turn_shows = subst (λ a. TurnShows a here x.duo) (sym asks) x.turn_shows;
      world_shows = subst (WorldShows can.links start x.duo) (sym goes) x.world_shows;
    }

    turn_step : (turn : Turn) → TurnIsFirm can.links turn (world_of t) → Shown can.links start turn here (world_of t)
    turn_step (Turn.Step zero) firm = shown_by (Turn.Step 0) _ _ refl refl (step_of_a t.a.agenda refl)
    turn_step (Turn.Step (suc zero)) firm = shown_by (Turn.Step 1) _ _ refl refl (step_of_b t.b.agenda refl)
    turn_step (Turn.Step (suc (suc number))) firm =
        shown_by (Turn.Step (suc (suc number))) (path_asks (slice_get t.paths number)) (path_stepped values number (slice_get t.paths number) t) (path_asked_is number t) (path_step_is values number t)
        (path_turn_step number firm (slice_get t.paths number) refl)
    turn_step Turn.Round firm = shown_by Turn.Round None (end_round (world_of t)) refl refl round_step

-- ---- every turn

pub each_turn_shows : EachTurnShows
each_turn_shows start can turn d w firm steady holds h =
    let x = turn_step start can h.cast h.fare h.settled h.lanes_ab h.lanes_ba h.reader_a h.reader_b h.reads_a h.reads_b h.paths
    (subst IsSteady h.is steady) (subst Holds h.duo_is holds) turn (subst (TurnIsFirm can.links turn) h.is firm) in
    let at_duo : Shown can.links start turn d (world_of h.cast) = subst (λ y. Shown can.links start turn y (world_of h.cast)) (sym h.duo_is) x in
    subst (Shown can.links start turn d) (sym h.is) at_duo
