-- At every moment the world is steady: each path may do what it does next, as the other side and the control books let it.
use Rattle.world_laws.proofs.Words.{◌≡◌, refl, sym, ◌∙◌, subst, ℕ, suc, inl, inr, ◌⊎◌, ⊎_elim, Bool, true, false, if◌then◌else◌, Option, Some, None, List, []}
use Rattle.world_laws.proofs.Words.{◌∷◌, map, is_none, and_parts, false≢true, slice_get, A, B, ControlCall, Control, is_sure, may_join, Duty, AskDuty, Ask}
use Rattle.world_laws.proofs.Words.{Reply, books_in, SixBooks, after_ask, Carried, values, in_map, in_set, Every, App, Path, Actor, ActorCrew, member_asks}
use Rattle.world_laws.proofs.Words.{member_takes, member_next, Always, Start, opened_world, WorldState, Turn, crew_after, asked, stepped, all_over, greatest}
use Rattle.world_laws.proofs.Words.{begins, after_turn, world_run, answer_to}
use Rattle.control_book.specs.Steps as controlling
use Rattle.world_laws.proofs.Falls.ClearStays.{takes_clear, next_clear}
use Rattle.world_laws.proofs.Falls.WhereASideStands.{IsNoJoin, same_joined}
use Rattle.world_laws.proofs.Joins.AnsweredAfterBegun.{DutyJoined, MemberJoined, always_joined}
use Rattle.world_laws.proofs.Weaving.Journals.{books_after}
use Rattle.world_laws.proofs.Keys.ToldAreOwn.{Joined, KeysAsk, WorldIs, member_asks_are, turn_keys, opened_keys}
use Rattle.world_laws.proofs.Lanes.OfAWorld.{IsClearAt, SureIsClear, MayDo, MemberIsSteady, IsSteady}
use Rattle.world_laws.proofs.Asks.AckOutBeforeSending.{MemberShielded, shielded_calm, always_shielded}
use Rattle.world_laws.proofs.Keys.SureMaySend.{sure_is_clear}
use Rattle.world_laws.proofs.Numbers.WrittenShort.{always_bounded}

-- ---- A joins only where it may send a DSS on path 0

-- a side that joined now joined before, or is sure
abbrev Joins : Control → ControlCall → Type 0
Joins c call = (controlling.after c call).fall.joined ≡ true → (c.fall.joined ≡ true) ⊎ (is_sure c.fall.mode ≡ true)

module _ (start : Start) where
  abbrev Asks : SixBooks → Ask → Type 0
  Asks six x = KeysAsk start.key_a start.key_b false six x

  same_at_a : (six : SixBooks) (call : ControlCall) → Asks six (Ask.Control A call) → IsNoJoin call → Joins six.control_a call
  same_at_a six call ask none is = inl (sym (same_joined six.control_a call none) ∙ is)

  begins_at_a : (six : SixBooks) (path : ℕ) → Joins six.control_a (ControlCall.JoinBegin path)
  begins_at_a six path is = by (may_join six.control_a) _ refl is
    where
      by : (b : Bool) (d : Control) → may_join six.control_a ≡ b → (if b then d else six.control_a).fall.joined ≡ true
          → (six.control_a.fall.joined ≡ true) ⊎ (is_sure six.control_a.fall.mode ≡ true)
      by true d may is = inr (and_parts (is_sure six.control_a.fall.mode) (is_none six.control_a.fall.failed) may).0
      by false d may is = inl is

  joins_at_a : (six : SixBooks) (call : ControlCall) → Asks six (Ask.Control A call) → Joins six.control_a call
  joins_at_a six (ControlCall.JoinBegin path) ask = begins_at_a six path
  joins_at_a six (ControlCall.JoinHeard path token) ask = (let never : A ≡ B = ask.0 in cc)
  joins_at_a six call ask = same_at_a six call ask tt

  joins_by : (six : SixBooks) (x : Ask) → Asks six x → Joined (after_ask x six) A → (Joined six A) ⊎ (is_sure six.control_a.fall.mode ≡ true)
  joins_by six (Ask.Control A call) ask is = joins_at_a six call ask is
  joins_by six (Ask.Control B call) ask is = inl is
  joins_by six (Ask.Send A call) ask is = inl is
  joins_by six (Ask.Send B call) ask is = inl is
  joins_by six (Ask.Reassembly A call) ask is = inl is
  joins_by six (Ask.Reassembly B call) ask is = inl is
  joins_by six (Ask.Local step) ask is = inl is

  -- ---- worlds

  -- A may send a DSS on path 0
  abbrev FirstClear : WorldState Carried → Type 0
  FirstClear w = (c : ActorCrew Carried) → slice_get w.crew 2 ≡ Some c → IsClearAt c.member

  -- what holds from one moment to the next
  record Since (w : WorldState Carried) : Type 0 where
    known : WorldIs start.key_a start.key_b false w
    ever : (more : List Turn) → SureIsClear (world_run values more w)
    clear : Joined (books_in w.books) A → FirstClear w

  takes_so : (r : Reply) (m : Actor Carried) → IsClearAt m → IsClearAt (member_takes values r m)
  takes_so r (App a) h = tt
  takes_so r (Path p) h = (takes_clear values r p).a.0 h

  next_so : (m : Actor Carried) → IsClearAt m → IsClearAt (member_next m)
  next_so = elim [ App a ↦ λ h. tt | Path p ↦ λ h. (next_clear p).a.0 h ]

  -- as long as the path's actor takes a reply
  stays_clear : (actor : ℕ) (x : Ask) (c : ActorCrew Carried) (w : WorldState Carried) → slice_get w.crew actor ≡ Some c → FirstClear w → FirstClear (asked values actor (Some x) c w)
  stays_clear actor x c w there h d at = ⊎_elim
      (λ here. subst (λ (y : ActorCrew Carried). IsClearAt y.member) here.1 (takes_so (answer_to w.books x) c.member (h c (subst (λ n. slice_get w.crew n ≡ Some c) (sym here.0) there))))
      (λ other. h d other.1)
      (in_set w.crew actor (crew_after values x w.books c) 2 d at)

  step_clear : (actor : ℕ) (w : WorldState Carried) → Since w → Joined (books_in (after_turn values (Turn.Step actor) w).books) A → FirstClear (after_turn values (Turn.Step actor) w)
  step_clear actor w h = (elim (slice_get w.crew actor) as (λ o. slice_get w.crew actor ≡ o → Joined (books_in (stepped values actor o w).books) A → FirstClear (stepped values actor o w))
      [ None ↦ λ there joined. h.clear joined | Some c ↦ λ there joined. asking c there (member_asks values c.member) refl joined ]) refl
    where
      asking : (c : ActorCrew Carried) → slice_get w.crew actor ≡ Some c → (o : Option Ask) → member_asks values c.member ≡ o → Joined (books_in (asked values actor o c w).books) A
          → FirstClear (asked values actor o c w)
      asking c there None is joined = h.clear joined
      asking c there (Some x) is joined =
          let six = books_in w.books in
          let now : books_in (asked values actor (Some x) c w).books ≡ after_ask x six = books_after x c.pass w.books in
          stays_clear actor x c w there
          (⊎_elim (λ before. h.clear before) (λ sure. h.ever [] sure)
          (joins_by six x (member_asks_are start.key_a start.key_b false six c.member x (h.known.crew.each actor c there) is) (subst (λ (y : SixBooks). Joined y A) now joined)))

  round_clear : (w : WorldState Carried) → Since w → Joined (books_in (after_turn values Turn.Round w).books) A → FirstClear (after_turn values Turn.Round w)
  round_clear w h = elim (all_over w.crew) as (λ b. let v = if b then record w { crew = map (begins (greatest 0 w.crew)) w.crew } else w in Joined (books_in v.books) A → FirstClear v) [
    | true ↦ λ joined d at. let found = in_map (begins (greatest 0 w.crew)) w.crew 2 d at in subst (λ (y : ActorCrew Carried). IsClearAt y.member) found.2 (next_so found.0.member (h.clear joined found.0 found.1))
    | false ↦ λ joined d at. h.clear joined d at
  ]

  turn_clear : (turn : Turn) (w : WorldState Carried) → Since w → Joined (books_in (after_turn values turn w).books) A → FirstClear (after_turn values turn w)
  turn_clear = elim [ Turn.Step actor ↦ λ w h. step_clear actor w h | Turn.Round ↦ λ w h. round_clear w h ]

  since : (turns : List Turn) (w : WorldState Carried) → Since w → Since (world_run values turns w)
  since [] w h = h
  since (turn ∷ turns) w h = since turns (after_turn values turn w) (record {
    known = turn_keys start.key_a start.key_b false turn w (λ right. absurd (false≢true right)) h.known;
    ever = λ more. h.ever (turn ∷ more);
    clear = turn_clear turn w h;
  })

  opened_since : Since (opened_world start)
  opened_since = record { known = opened_keys false start; ever = λ more. sure_is_clear start more; clear = λ joined. absurd (false≢true joined) }

-- ---- what follows

may_do : (six : SixBooks) (d : Duty) → DutyJoined six d → MayDo six d
may_do six (Duty.Ask (AskDuty.JoinHeard A)) h = tt
may_do six (Duty.Ask (AskDuty.JoinHeard B)) h = h
may_do six (Duty.Ask (AskDuty.GoIdentity A)) h = h
may_do six (Duty.Ask (AskDuty.GoIdentity B)) h = h
may_do six _ h = tt

member_steady : (six : SixBooks) (number : ℕ) (m : Actor Carried) → MemberJoined six number m → MemberShielded m → (number ≡ 0 → six.control_b.fall.joined ≡ true → IsClearAt m) → MemberIsSteady six number m
member_steady six number (App a) joined shielded clear = tt
member_steady six number (Path p) joined shielded clear = record {
  calm = λ d ds is s none. shielded_calm p shielded d ds is s none;
  may = λ d ds is. may_do six d (joined.heard d ds is);
  fails = joined.fails;
  joined = joined.joined;
  clear = clear;
  mode = joined.plain;
}

-- at every moment
pub always_steady : Always values (λ start w. IsSteady w)
always_steady start turns =
    let w = world_run values turns (opened_world start) in
    let joined = always_joined start turns in
    let s : Since start w = since start turns (opened_world start) (opened_since start) in
    let shielded : Every (λ c. MemberShielded c.member) w.crew = always_shielded start turns in
    record {
      each = λ number c there. member_steady (books_in w.books) number c.member (joined.each number c there) (shielded.each (suc (suc number)) c there)
          (λ zero is. s.clear (joined.order is) c (subst (λ n. slice_get w.crew (suc (suc n)) ≡ Some c) zero there));
      short = always_bounded values start turns;
    }
