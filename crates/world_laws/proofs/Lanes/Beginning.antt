-- The opened world shows in the two directions, and so does the world after every list of turns.
use Rattle.world_laws.proofs.Words.{◌≡◌, refl, sym, ◌∙◌, ap, subst, ℕ, zero, suc, ◌+◌, ◌&&◌, not, inl, inr, Bool, true, false, Option, Some, List, [], ◌∷◌}
use Rattle.world_laws.proofs.Words.{◌++◌, length, replicate, arith, ◌<◌, set, both_ways, false≢true, same_Some, slice_get_within, slice_get, Side, A, B}
use Rattle.world_laws.proofs.Words.{EndPhase, new_end, lines_of, is_altered, start_of_turn, SixBooks, opened_books, AppState, start_of_app, untouched}
use Rattle.world_laws.proofs.Words.{first_app_turn, opening_end, first_state, waiting_path, first_turn, PathState, with_agenda, IsSettled, Carried, values}
use Rattle.world_laws.proofs.Words.{Profile, Every-nil, set_same, set_other, Duo, after_events, opening_over, Holds, AckCopy, Lane, lane_over, any_held, Reader}
use Rattle.world_laws.proofs.Words.{ToB, ToA, Moves, Open, SendAck, PathPlan, Start, path_begins, opened_world, WorldState, Turn, after_turn, world_run}
use Rattle.subflow_tcp.specs.declared.handshake.State.TheVariants.{Listen}
use Rattle.stream_lanes.specs.Duo.{Modes, Event}
use Rattle.stream_apps.specs.Starts.{fast_close_of}
use Rattle.world_laws.proofs.Lanes.Applying.{Reads, settled_app}
use Rattle.world_laws.proofs.Worlds.Casts.{first_cast, first_fare, opened_is, walker_there}
use Rattle.world_laws.proofs.Lanes.EveryTurn.{settled_first, beside, beside_is, same_there, same_there_sent, each_turn_shows}
use Rattle.world_laws.proofs.Lanes.OfAWorld.{TurnIsFirm, RunIsFirm, Links, Carries, duo_of, Others, duo_at, StandsSo, PathThere, WorldShows, IsSteady, Moved, unmoved, then_moved, Shown, first_duo, OpenedShows, EachOpeningShows, Reached, EachRunShows, events_append, turn_events, turn_is}
use Rattle.world_laws.proofs.Places.Known.{opens_those}
use Rattle.world_laws.proofs.Places.Sent.{IsLonger, BothLast, all_last, there_lasts, last_longer}
use Rattle.world_laws.proofs.Lanes.Roads.{Strolls, there_again}
use Rattle.world_laws.proofs.Rounds.Frame.{first_keeps}
use Rattle.world_laws.proofs.Lanes.Saying.{every_one}
use Rattle.world_laws.proofs.Lanes.Settling.{settles}
use Rattle.world_laws.proofs.Lanes.Showing.{HasAck, HasSub, HasNone, Under, EndShows, PathShows, MayAlter}
use Rattle.world_laws.proofs.Lanes.Strolling.{Strolled, strolls_held, events_held, lanes_moved}
use Rattle.world_laws.proofs.Places.UntouchedTillAsked.{Granted, silent_so}
use Rattle.world_laws.proofs.Worlds.Steady.{always_steady}

-- ---- the lanes before the first turn

-- that of path 0 is open
abbrev pub is_first : ℕ → Bool
is_first zero = true
is_first (suc number) = false

abbrev pub fresh_lane : Links → ℕ → Lane
fresh_lane links number = record (lane_over links.alters links.checked) { opened = is_first number }

abbrev pub fresh_lanes : Links → ℕ → List Lane
fresh_lanes links zero = []
fresh_lanes links (suc n) = record (lane_over links.alters links.checked) { opened = true } ∷ replicate n (lane_over links.alters links.checked)

fresh_there : (links : Links) (n number : ℕ) → number < n → slice_get (fresh_lanes links n) number ≡ Some (fresh_lane links number)
fresh_there links zero number within = absurd (omega (arith, within))
fresh_there links (suc n) zero within = refl
fresh_there links (suc n) (suc number) within = among n number (omega (arith, within))
  where
    among : (n number : ℕ) → number < n → slice_get (replicate n (lane_over links.alters links.checked)) number ≡ Some (lane_over links.alters links.checked)
    among zero number within = absurd (omega (arith, within))
    among (suc n) zero within = refl
    among (suc n) (suc number) within = among n number (omega (arith, within))

-- nothing is acknowledged
abbrev pub first_ack : AckCopy
first_ack = record { next = 0; window = 0; sub = 0 }

abbrev pub first_lane : Links → ℕ → Lane
first_lane links number = record (fresh_lane links number) { acks = first_ack ∷ [] }

first_has : (links : Links) (number : ℕ) → HasAck (first_lane links number).acks 0 0
first_has links number = record { at = 0; item = first_ack; there = refl; holds = record { next_is = refl; window_is = refl } }

first_sub : (links : Links) (number : ℕ) → HasSub (first_lane links number).acks 0 0
first_sub links number = record { at = 0; item = first_ack; there = refl; holds = record { sub_is = refl; window_is = refl } }

first_none : (links : Links) (number : ℕ) → HasNone (first_lane links number).acks 0
first_none links number = record { at = 0; item = first_ack; there = refl; holds = record { next_is = refl; sub_is = refl; window_is = refl } }

none_under : (kept : List (Option ℕ)) → Under [] kept
none_under kept = record { each = λ i byte is. cc }

opening_shows : (links : Links) (c : Profile) (s : Side) (number : ℕ) (state : EndPhase) (opens : Bool) (path own key nonce : ℕ)
    → EndShows c s (opening_end (new_end state opens path own c.mss) key nonce) (first_lane links number) (first_lane links number)
opening_shows links c s number state opens path own key nonce = record {
  sender = record {
    plain = refl;
    next = λ is. refl;
    unfinished = λ is. refl;
    pieces = every_one _ refl;
    known_end = tt;
    same_end = refl;
    heard = refl;
    granted = Every-nil _;
    fin_acked = λ is. absurd (false≢true is);
    sent = record { next = λ no. refl; none = λ no. refl; fin = λ is. absurd (false≢true is); pieces = Every-nil _; covered = λ n c e above. cc; rising = tt };
  };
  receiver = record {
    same_mode = refl;
    edge = inl (record { edge_is = refl; under = none_under (first_lane links number).kept; only = inr refl; held = tt });
    fin = tt;
    mapped = Every-nil _;
  };
  acks = record {
    windows = record { ack = first_has links number; alone = first_none links number; syn = first_none links number };
    latest = refl;
    due = λ none. refl;
    sub = λ none. first_sub links number;
  };
  told = first_none links number;
  treated = record { items = Every-nil _; fins = Every-nil _; answer = tt; window = tt; sub = first_sub links number; nothing = first_none links number };
  pairs = (tt, tt, λ above none. absurd (false≢true none), tt, tt, tt);
  held = record { each = Every-nil _; summed = Every-nil _; none = refl };
}

module _ (start : Start) (can : Carries start) where
  -- the path of a number before its first turn
  abbrev pub waiting : ℕ → PathPlan → PathState Carried
  waiting number plan = waiting_path (path_begins start number plan) start.lines

  abbrev pub first_path : ℕ → PathPlan → PathState Carried
  first_path number plan = first_turn (path_begins start number plan) start.lines

  abbrev pub profile_at : ℕ → PathPlan → Profile
  profile_at number plan = (path_begins start number plan).profile

  -- what the script alters the links may
  may_alter : (number : ℕ) (from : Side) (n : ℕ) → is_altered from n (lines_of number start.lines) ≡ true → can.links.alters ≡ true
  may_alter number from n is = (elim can.links.alters as (λ b. can.links.alters ≡ b → b ≡ true)
      [ true ↦ λ same. refl | false ↦ λ same. absurd (both_ways _ ((can.may same number).alters from n) is) ]) refl

  first_may : (number : ℕ) → MayAlter (lines_of number start.lines) can.links.alters can.links.alters
  first_may number = record { a = may_alter number A; b = may_alter number B }

  pub waiting_shows : (number : ℕ) (plan : PathPlan) → PathShows (profile_at number plan) (with_agenda start_of_turn (waiting number plan)) (first_lane can.links number) (first_lane can.links number)
  waiting_shows number plan = record {
    profile = refl;
    may = first_may number;
    a = opening_shows can.links (profile_at number plan) A number (first_state (path_begins start number plan).joined_at) true number plan.initial_a start.key_a plan.nonce_a;
    b = opening_shows can.links (profile_at number plan) B number Listen false number plan.initial_b start.key_b plan.nonce_b;
    copies = Every-nil _;
  }

  abbrev pub no_reader : Reader
  no_reader = record { out = []; told = false; stopped = false }

  abbrev pub six : SixBooks
  six = opened_books start.buffer start.key_a start.key_b

  abbrev pub with_lanes : List Lane → List Lane → Duo
  with_lanes lanes_ab lanes_ba = duo_of can.links six lanes_ab lanes_ba no_reader no_reader

  -- path 0 opens
  abbrev opens : List Event
  opens = ToB (Moves 0 Open) ∷ ToA (Moves 0 Open) ∷ []

  -- no side fell, firm or not
  abbrev opened_modes : Bool → Bool → Modes
  opened_modes firm_a firm_b = record {
    plain_a = not firm_a && false;
    plain_b = not firm_b && false;
    loose_a = not firm_a && false;
    loose_b = not firm_b && false;
    begun = false;
    join_sent = false;
    answered = false;
    alters = can.links.alters;
    checked = can.links.checked;
  }

  none_fell : (firm_a firm_b : Bool) → opened_modes true true ≡ opened_modes firm_a firm_b
  none_fell true true = refl
  none_fell true false = refl
  none_fell false true = refl
  none_fell false false = refl

  opens_many : (n : ℕ) → after_events opens (opening_over can.links.alters can.links.checked n start.buffer start.buffer) ≡ with_lanes (fresh_lanes can.links n) (fresh_lanes can.links n)
  opens_many zero = ap (λ (modes : Modes). record (with_lanes [] []) { modes = modes }) (none_fell can.links.firm_a can.links.firm_b)
  opens_many (suc n) = ap (λ (modes : Modes). record (with_lanes (fresh_lanes can.links (suc n)) (fresh_lanes can.links (suc n))) { modes = modes }) (none_fell can.links.firm_a can.links.firm_b)

  -- ---- a path alone

  pub fresh_count : (n : ℕ) → n < length (fresh_lanes can.links (suc n))
  fresh_count n = slice_get_within (fresh_lanes can.links (suc n)) n (fresh_lane can.links n) (fresh_there can.links (suc n) n (omega arith))

  -- a path alone: beside its lanes are those of the paths before it, as they begin
  abbrev pub alone : ℕ → Others
  alone number = record {
    links = can.links;
    number = number;
    lanes_ab = fresh_lanes can.links (suc number);
    lanes_ba = fresh_lanes can.links (suc number);
    within_ab = fresh_count number;
    within_ba = fresh_count number;
    reader_a = no_reader;
    reader_b = no_reader;
  }

  pub alone_holds : (number : ℕ) → Holds (duo_at six (first_lane can.links number) (first_lane can.links number) (alone number))
  alone_holds number =
      let here_is : duo_at six (fresh_lane can.links number) (fresh_lane can.links number) (alone number) ≡ with_lanes (fresh_lanes can.links (suc number)) (fresh_lanes can.links (suc number)) =
      ap (λ lanes. with_lanes lanes lanes) (there_again (fresh_lanes can.links (suc number)) number (fresh_lane can.links number) (fresh_there can.links (suc number) number (omega arith))) in
      strolls_held six (alone number) (fresh_lane can.links number) (first_lane can.links number) (fresh_lane can.links number) (first_lane can.links number)
      (record { by = SendAck 0 0 0 ∷ []; calm = refl; to = refl }) (record { by = SendAck 0 0 0 ∷ []; calm = refl; to = refl })
      (subst Holds (sym here_is) (subst Holds (opens_many (suc number)) (any_held can.links.alters can.links.checked (suc number) start.buffer start.buffer opens)))

  -- ---- one path

  -- the first turn of a path, on lanes that are fresh
  pub record OneOpened (number : ℕ) (plan : PathPlan) (lanes_ab lanes_ba : List Lane) : Type 0 where
    pub ab : Lane
    pub ba : Lane
    pub moved : Moved (with_lanes lanes_ab lanes_ba) (with_lanes (set lanes_ab number ab) (set lanes_ba number ba))
    pub path : PathThere start (set lanes_ab number ab) (set lanes_ba number ba) number (first_path number plan)

  first_stands : (number : ℕ) (plan : PathPlan) (ab ba : Lane) → IsLonger (first_lane can.links number) ab → IsLonger (first_lane can.links number) ba → ab.sent ≡ [] → StandsSo number (first_path number plan) ab ba
  first_stands zero plan ab ba x y unsent = (x.opened refl, y.opened refl)
  first_stands (suc number) plan ab ba x y unsent = λ unclear. unsent

  module _ (number : ℕ) (plan : PathPlan) (plan_there : slice_get start.paths number ≡ Some plan) (lanes_ab lanes_ba : List Lane) (ab_there : slice_get lanes_ab number ≡ Some (fresh_lane can.links number))
      (ba_there : slice_get lanes_ba number ≡ Some (fresh_lane can.links number)) (holds : Holds (with_lanes lanes_ab lanes_ba)) where
    abbrev others : Others
    others = beside start can lanes_ab lanes_ba no_reader no_reader number (fresh_lane can.links number) (fresh_lane can.links number) ab_there ba_there

    here_is : duo_at six (fresh_lane can.links number) (fresh_lane can.links number) others ≡ with_lanes lanes_ab lanes_ba
    here_is = beside_is start can lanes_ab lanes_ba no_reader no_reader number (fresh_lane can.links number) (fresh_lane can.links number) ab_there ba_there six

    -- each end acknowledges nothing
    first_moves : Strolls (fresh_lane can.links number) (first_lane can.links number)
    first_moves = record { by = SendAck 0 0 0 ∷ []; calm = refl; to = refl }

    pub first_holds : Holds (duo_at six (first_lane can.links number) (first_lane can.links number) others)
    first_holds = strolls_held six others (fresh_lane can.links number) (first_lane can.links number) (fresh_lane can.links number) (first_lane can.links number) first_moves first_moves (subst Holds (sym here_is) holds)

    turn_strolled : Strolled (profile_at number plan) (first_path number plan) (first_lane can.links number) (first_lane can.links number)
    turn_strolled = settles six others (profile_at number plan) start_of_turn (with_agenda start_of_turn (waiting number plan)) (first_lane can.links number) (first_lane can.links number) (waiting_shows number plan) first_holds

    pub one_opened : OneOpened number plan lanes_ab lanes_ba
    one_opened =
        let w = turn_strolled in
        let d : Duo = duo_at six (first_lane can.links number) (first_lane can.links number) others in
        let e : Duo = duo_at six w.ab_after w.ba_after others in
        let later : Moved d e = lanes_moved six others (first_lane can.links number) w.ab_after (first_lane can.links number) w.ba_after w.ab_moves w.ba_moves in
        let all : Moved (with_lanes lanes_ab lanes_ba) e =
        subst (λ x. Moved x e) here_is (then_moved (duo_at six (fresh_lane can.links number) (fresh_lane can.links number) others) d e
        (lanes_moved six others (fresh_lane can.links number) (first_lane can.links number) (fresh_lane can.links number) (first_lane can.links number) first_moves first_moves) later) in
        let ab_set = λ (p : Lane). set_same lanes_ab number p (fresh_lane can.links number) ab_there in
        let ba_set = λ (p : Lane). set_same lanes_ba number p (fresh_lane can.links number) ba_there in
        let last : BothLast number (first_lane can.links number) (first_lane can.links number) e = subst (BothLast number (first_lane can.links number) (first_lane can.links number)) (sym later.to)
        (all_last later.events number (first_lane can.links number) (first_lane can.links number) d
        (record { ab = there_lasts number (first_lane can.links number) d.ab (ab_set (first_lane can.links number)); ba = there_lasts number (first_lane can.links number) d.ba (ba_set (first_lane can.links number)) })) in
        let granted : Granted number [] e.ab =
        subst (λ x. Granted number [] x.ab) (sym later.to) (silent_so number [] later.events later.silent d (record { lane = first_lane can.links number; there = ab_set (first_lane can.links number); same = refl })) in
        record {
          ab = w.ab_after;
          ba = w.ba_after;
          moved = all;
          path = record {
            plan = plan;
            plan_there = plan_there;
            numbered = (first_keeps (waiting number plan)).2;
            ab = w.ab_after;
            ba = w.ba_after;
            ab_there = ab_set w.ab_after;
            ba_there = ba_set w.ba_after;
            shows = w.shows;
            stands = first_stands number plan w.ab_after w.ba_after (last_longer number (first_lane can.links number) w.ab_after e.ab (ab_set w.ab_after) last.ab)
                (last_longer number (first_lane can.links number) w.ba_after e.ba (ba_set w.ba_after) last.ba)
                (same_there_sent start can number (first_lane can.links number) w.ab_after e.ab granted (ab_set w.ab_after));
            knows = opens_those w.ab_after w.ba_after (path_begins start number plan) start.lines;
          };
        }

  -- ---- all paths

  -- those of these plans, the first of which has this number
  pub record AllOpened (first : ℕ) (plans : List PathPlan) (lanes_ab lanes_ba : List Lane) : Type 0 where
    pub ab_after : List Lane
    pub ba_after : List Lane
    pub moved : Moved (with_lanes lanes_ab lanes_ba) (with_lanes ab_after ba_after)
    pub paths : (i n : ℕ) (plan : PathPlan) → n ≡ first + i → slice_get plans i ≡ Some plan → PathThere start ab_after ba_after n (first_path n plan)
    pub earlier_ab : (n : ℕ) → n < first → slice_get ab_after n ≡ slice_get lanes_ab n
    pub earlier_ba : (n : ℕ) → n < first → slice_get ba_after n ≡ slice_get lanes_ba n

  abbrev AreThere : ℕ → List PathPlan → Type 0
  AreThere first plans = (i n : ℕ) (plan : PathPlan) → n ≡ first + i → slice_get plans i ≡ Some plan → slice_get start.paths n ≡ Some plan

  abbrev AreFresh : ℕ → List PathPlan → List Lane → Type 0
  AreFresh first plans lanes = (i n : ℕ) → n ≡ first + i → i < length plans → slice_get lanes n ≡ Some (fresh_lane can.links n)

  all_opened : (first : ℕ) (plans : List PathPlan) (lanes_ab lanes_ba : List Lane) → AreThere first plans → AreFresh first plans lanes_ab → AreFresh first plans lanes_ba
      → Holds (with_lanes lanes_ab lanes_ba) → AllOpened first plans lanes_ab lanes_ba
  all_opened first [] lanes_ab lanes_ba there fresh_ab fresh_ba holds = record {
    ab_after = lanes_ab;
    ba_after = lanes_ba;
    moved = unmoved (with_lanes lanes_ab lanes_ba);
    paths = λ i n plan n_is at. cc;
    earlier_ab = λ n below. refl;
    earlier_ba = λ n below. refl;
  }
  all_opened first (plan ∷ plans) lanes_ab lanes_ba there fresh_ab fresh_ba holds =
      let one = one_opened first plan (there 0 first plan (omega arith) refl) lanes_ab lanes_ba (fresh_ab 0 first (omega arith) (omega arith)) (fresh_ba 0 first (omega arith) (omega arith)) holds in
      let ab : List Lane = set lanes_ab first one.ab in let ba : List Lane = set lanes_ba first one.ba in
      let rest = all_opened (suc first) plans ab ba
      (λ i n q n_is at. there (suc i) n q (omega (arith, n_is)) at)
      (λ i n n_is within. set_other lanes_ab first one.ab n (λ same. omega (arith, same, n_is)) ∙ fresh_ab (suc i) n (omega (arith, n_is)) (omega (arith, within)))
      (λ i n n_is within. set_other lanes_ba first one.ba n (λ same. omega (arith, same, n_is)) ∙ fresh_ba (suc i) n (omega (arith, n_is)) (omega (arith, within)))
      (subst Holds (sym one.moved.to) (events_held one.moved.events (with_lanes lanes_ab lanes_ba) holds)) in
      record {
        ab_after = rest.ab_after;
        ba_after = rest.ba_after;
        moved = then_moved (with_lanes lanes_ab lanes_ba) (with_lanes ab ba) (with_lanes rest.ab_after rest.ba_after) one.moved rest.moved;
        paths = at one.path rest.paths (rest.earlier_ab first (omega arith)) (rest.earlier_ba first (omega arith));
        earlier_ab = λ n below. rest.earlier_ab n (omega (arith, below)) ∙ set_other lanes_ab first one.ab n (λ same. omega (arith, same, below));
        earlier_ba = λ n below. rest.earlier_ba n (omega (arith, below)) ∙ set_other lanes_ba first one.ba n (λ same. omega (arith, same, below));
      }
    where
      at : {ab ba ab_after ba_after : List Lane} → PathThere start ab ba first (first_path first plan)
          → ((i n : ℕ) (q : PathPlan) → n ≡ suc first + i → slice_get plans i ≡ Some q → PathThere start ab_after ba_after n (first_path n q))
          → slice_get ab_after first ≡ slice_get ab first → slice_get ba_after first ≡ slice_get ba first
          → (i n : ℕ) (q : PathPlan) → n ≡ first + i → slice_get (plan ∷ plans) i ≡ Some q → PathThere start ab_after ba_after n (first_path n q)
      at {ab} {ba} {ab_after} {ba_after} path others same_ab same_ba zero n q n_is there =
          let number : first ≡ n = omega (arith, n_is) in
          subst (λ m. PathThere start ab_after ba_after m (first_path m q)) number
          (subst (λ z. PathThere start ab_after ba_after first (first_path first z)) (same_Some plan q there) (same_there start can ab ba ab_after ba_after first (first_path first plan) same_ab same_ba path))
      at path others same_ab same_ba (suc i) n q n_is there = others i n q (omega (arith, n_is)) there

  -- ---- the opening

  opens_to : after_events opens (first_duo can.links start) ≡ with_lanes (fresh_lanes can.links (length start.paths)) (fresh_lanes can.links (length start.paths))
  opens_to = opens_many (length start.paths)

  fresh_holds : Holds (with_lanes (fresh_lanes can.links (length start.paths)) (fresh_lanes can.links (length start.paths)))
  fresh_holds = subst Holds opens_to (any_held can.links.alters can.links.checked (length start.paths) start.buffer start.buffer opens)

  opened_all : AllOpened 0 start.paths (fresh_lanes can.links (length start.paths)) (fresh_lanes can.links (length start.paths))
  opened_all =
      all_opened 0 start.paths (fresh_lanes can.links (length start.paths)) (fresh_lanes can.links (length start.paths))
      (λ i n plan n_is at. let same : i ≡ n = omega (arith, n_is) in subst (λ m. slice_get start.paths m ≡ Some plan) same at)
      (λ i n n_is within. fresh_there can.links (length start.paths) n (omega (arith, n_is, within)))
      (λ i n n_is within. fresh_there can.links (length start.paths) n (omega (arith, n_is, within)))
      fresh_holds

  nothing_read : (s : Side) (file : List ℕ) (tick : Option ℕ) → Reads (first_app_turn s start.buffer file tick).told [] no_reader
  nothing_read s file tick =
      let m : AppState = untouched s start.buffer file tick in
      let same : (first_app_turn s start.buffer file tick).told ≡ false = ap (λ x. x.told) (settled_app start_of_app m).is in
      record { out_is = refl; told_is = refl; stopped_is = refl; done_is = same }

  pub opened_shows : OpenedShows can.links start
  opened_shows =
      let all = opened_all in
      let d : Duo = with_lanes all.ab_after all.ba_after in
      let shows : WorldShows can.links start d (opened_world start) = record {
        cast = first_cast start;
        is = opened_is start;
        fare = first_fare start;
        settled = record {
          each = λ i x there. let found = walker_there start 0 i i start.paths x (omega arith) there in
              subst (λ y. IsSettled y.path) (sym found.2) (settled_first start_of_turn (with_agenda start_of_turn (waiting i found.0)));
        };
        lanes_ab = all.ab_after;
        lanes_ba = all.ba_after;
        reader_a = no_reader;
        reader_b = no_reader;
        duo_is = refl;
        reads_a = nothing_read A start.file_a (fast_close_of A start.lines);
        reads_b = nothing_read B start.file_b (fast_close_of B start.lines);
        paths = record {
          each = λ i n x n_is there. let found = walker_there start 0 i n start.paths x n_is there in
              subst (λ y. PathThere start all.ab_after all.ba_after n y.path) (sym found.2) (all.paths i n found.0 n_is found.1);
        };
      } in (
        opens ++ all.moved.events,
        subst (λ x. WorldShows can.links start x (opened_world start)) (all.moved.to ∙ ap (after_events all.moved.events) (sym opens_to) ∙ sym (events_append opens all.moved.events (first_duo can.links start))) shows,
      )

pub each_opening_shows : EachOpeningShows
each_opening_shows start can = opened_shows start can

-- ---- every list of turns

module _ (start : Start) (can : Carries start) where
  pub turn_reached : (turn : Turn) (w : WorldState Carried) → TurnIsFirm can.links turn w → IsSteady w → Reached can.links start w → Reached can.links start (after_turn values turn w)
  turn_reached turn w firm steady r =
      let d : Duo = after_events r.events (first_duo can.links start) in
      let x : Shown can.links start turn d w = each_turn_shows start can turn d w firm steady (any_held can.links.alters can.links.checked (length start.paths) start.buffer start.buffer r.events) r.shows in
      record {
        events = r.events ++ turn_events x.turn_shows;
        shows = subst (λ y. WorldShows can.links start y (after_turn values turn w)) (turn_is x.turn_shows ∙ sym (events_append r.events (turn_events x.turn_shows) (first_duo can.links start))) x.world_shows;
      }

  run_reached : (turns : List Turn) (w : WorldState Carried) → RunIsFirm can.links turns w → ((more : List Turn) → IsSteady (world_run values more w)) → Reached can.links start w → Reached can.links start (world_run values turns w)
  run_reached [] w firm steady r = r
  run_reached (turn ∷ turns) w firm steady r = run_reached turns (after_turn values turn w) firm.1 (λ more. steady (turn ∷ more)) (turn_reached turn w firm.0 (steady []) r)

  pub opened_reached : Reached can.links start (opened_world start)
  opened_reached = let o = opened_shows start can in record { events = o.0; shows = o.1 }

pub each_run_shows : EachRunShows
each_run_shows start can turns firm = run_reached start can turns (opened_world start) firm (always_steady start) (opened_reached start can)
