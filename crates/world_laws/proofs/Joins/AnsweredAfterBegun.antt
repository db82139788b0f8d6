-- What is known of the sides that joined: B answers a join after A began one, and an end that may finish, of a path that joins, has
-- joined. And a side that fell back to plain TCP fell back by its control book, on no path that joins.
use Rattle.world_laws.proofs.Words.{◌≡◌, refl, sym, ◌∙◌, ap, subst, ℕ, zero, suc, ◌+◌, nat_lt, ⊎_elim, Bool, true, false, Option, Some, None}
use Rattle.world_laws.proofs.Words.{List, [], ◌∷◌, arith, is_some, lt-ltb, both_ways, false≢true, slice_get, IfSome, Side, A, B, Asked, ControlCall}
use Rattle.world_laws.proofs.Words.{may_finish, EndPhase, Duty, StepDuty, AskDuty, Heard, Ask, Reply, books_in, SixBooks, reply_of, after_ask, waiting_path}
use Rattle.world_laws.proofs.Words.{PathState, end_at, FirstStands, Carried, values, asked_at, is_joined, item_at, in_map, in_set, App, Path, Actor, ActorCrew}
use Rattle.world_laws.proofs.Words.{member_takes, member_next, Always, Start, path_begins, opened_world, WorldState, Turn, crew_after, asked}
use Rattle.world_laws.proofs.Words.{greatest, begins, after_turn, world_run}
use Rattle.world_laws.proofs.Worlds.Turns.{turn_so}
use Rattle.world_laws.proofs.Weaving.Journals.{books_after}
use Rattle.world_laws.proofs.Falls.WhereASideStands.{IsNoJoin, same_joined}
use Rattle.world_laws.proofs.Keys.AreDrawn.{is_past, ItemIs}
use Rattle.world_laws.proofs.Lanes.OfAWorld.{FailsJoined}
use Rattle.world_laws.proofs.Lanes.Replying.{every_item}
use Rattle.world_laws.proofs.Keys.WhatWakes.{speaks, itself, Voice, first_speaks}
use Rattle.world_laws.proofs.Keys.Held.{AskedIs, end_is, asked_is}
use Rattle.world_laws.proofs.Keys.ToldAreOwn.{Joined, FellBack, NoMore, Past, KeysAsk, PathKeys, WorldIs, MemberIs, with_nonces, joined_stays, member_asks_are, turn_keys, opened_keys}
use Rattle.world_laws.proofs.Worlds.Opened.{opened_actors}
use Rattle.world_laws.proofs.Rounds.Frame.{takes_keeps, first_keeps}

-- ---- what is known of a path

-- what its first duty needs: B hears of a join that A began, and a side falls that is to
abbrev pub DutyJoined : SixBooks → Duty → Type 0
DutyJoined six (Duty.Ask (AskDuty.JoinHeard B)) = six.control_a.fall.joined ≡ true
DutyJoined six (Duty.Ask (AskDuty.GoIdentity s)) = FellBack six s
DutyJoined six _ = Unit {0}

pub record PathJoined (six : SixBooks) (number : ℕ) (p : PathState Carried) : Type 0 where
  pub heard : (d : Duty) (ds : List Duty) → p.agenda ≡ d ∷ ds → DutyJoined six d
  pub fails : (d : Duty) (ds : List Duty) → p.agenda ≡ d ∷ ds → FailsJoined six number p d
  pub joined : (n : ℕ) → number ≡ suc n → (s : Side) → may_finish (end_at s p).tcp.state ≡ true → six.control_b.fall.joined ≡ true
  pub plain : (n : ℕ) → number ≡ suc n → (s : Side) → (end_at s p).modes.identity ≡ false
  pub fell : (s : Side) → (end_at s p).modes.identity ≡ true → FellBack six s

abbrev pub MemberJoined : SixBooks → ℕ → Actor Carried → Type 0
MemberJoined six number (App a) = Unit {0}
MemberJoined six number (Path p) = PathJoined six number p

pub record JoinedSo (w : WorldState Carried) : Type 0 where
  pub order : (books_in w.books).control_b.fall.joined ≡ true → (books_in w.books).control_a.fall.joined ≡ true
  pub each : (number : ℕ) (c : ActorCrew Carried) → slice_get w.crew (suc (suc number)) ≡ Some c → MemberJoined (books_in w.books) number c.member

-- ---- B after A

module _ (key_a key_b : ℕ) where
  same_at_b : (six : SixBooks) (call : ControlCall) → KeysAsk key_a key_b false six (Ask.Control B call) → IsNoJoin call
      → (Joined six B → Joined six A) → Joined (after_ask (Ask.Control B call) six) B → Joined (after_ask (Ask.Control B call) six) A
  same_at_b six call ask none order is = order (sym (same_joined six.control_b call none) ∙ is)

  at_b : (six : SixBooks) (call : ControlCall) → KeysAsk key_a key_b false six (Ask.Control B call)
      → (Joined six B → Joined six A) → Joined (after_ask (Ask.Control B call) six) B → Joined (after_ask (Ask.Control B call) six) A
  at_b six (ControlCall.JoinBegin path) ask order is = cc
  at_b six (ControlCall.JoinHeard path token) ask order is = ask.1.0
  at_b six call ask order is = same_at_b six call ask tt order is

  after_order : (six : SixBooks) (x : Ask) → KeysAsk key_a key_b false six x → (Joined six B → Joined six A) → Joined (after_ask x six) B → Joined (after_ask x six) A
  after_order six (Ask.Control A call) ask order is = joined_stays key_a key_b false six (Ask.Control A call) A (order is)
  after_order six (Ask.Control B call) ask order is = at_b six call ask order is
  after_order six (Ask.Send A call) ask order is = order is
  after_order six (Ask.Send B call) ask order is = order is
  after_order six (Ask.Reassembly A call) ask order is = order is
  after_order six (Ask.Reassembly B call) ask order is = order is
  after_order six (Ask.Local step) ask order is = order is

-- ---- the number of a path

-- the actor behind the applications is the path of its number
abbrev pub IsNumbered : ℕ → Actor Carried → Type 0
IsNumbered zero m = Unit {0}
IsNumbered (suc zero) m = Unit {0}
IsNumbered (suc (suc number)) (App a) = Unit {0}
IsNumbered (suc (suc number)) (Path p) = p.profile.spelling.path ≡ number

takes_numbered : (actor : ℕ) (r : Reply) (m : Actor Carried) → IsNumbered actor m → IsNumbered actor (member_takes values r m)
takes_numbered zero r m h = tt
takes_numbered (suc zero) r m h = tt
takes_numbered (suc (suc number)) r (App a) h = tt
takes_numbered (suc (suc number)) r (Path p) h = ap (λ c. c.spelling.path) (takes_keeps values r p).1 ∙ h

next_numbered : (actor : ℕ) (m : Actor Carried) → IsNumbered actor m → IsNumbered actor (member_next m)
next_numbered zero m h = tt
next_numbered (suc zero) m h = tt
next_numbered (suc (suc number)) (App a) h = tt
next_numbered (suc (suc number)) (Path p) h = ap (λ c. c.spelling.path) (first_keeps (record p { clock = p.until; until = p.until + 100 })).1 ∙ h

-- ---- worlds

pub record Order (start : Start) (w : WorldState Carried) : Type 0 where
  pub known : WorldIs start.key_a start.key_b false w
  pub order : Joined (books_in w.books) B → Joined (books_in w.books) A
  pub numbered : (actor : ℕ) (c : ActorCrew Carried) → slice_get w.crew actor ≡ Some c → IsNumbered actor c.member

pub turn_order : (start : Start) (turn : Turn) (w : WorldState Carried) → Order start w → Order start (after_turn values turn w)
turn_order start turn w h =
    turn_so values (λ v. WorldIs start.key_a start.key_b false v → Order start v) turn w (λ known. h)
    (λ actor c x there is known.
    let six = books_in w.books in
    let now : books_in (asked values actor (Some x) c w).books ≡ after_ask x six = books_after x c.pass w.books in
    record {
      known = known;
      order = subst (λ (y : SixBooks). Joined y B → Joined y A) (sym now)
          (after_order start.key_a start.key_b six x (member_asks_are start.key_a start.key_b false six c.member x (h.known.crew.each actor c there) is) h.order);
      numbered = λ i d at. ⊎_elim
          (λ here. subst (λ y. IsNumbered i y.member) here.1 (subst (λ n. IsNumbered n (member_takes values (reply_of six x) c.member)) (sym here.0)
          (takes_numbered actor (reply_of six x) c.member (h.numbered actor c there))))
          (λ other. h.numbered i d other.1)
          (in_set w.crew actor (crew_after values x w.books c) i d at);
    })
    (λ over known. record {
      known = known;
      order = h.order;
      numbered = λ i d at. let found = in_map (begins (greatest 0 w.crew)) w.crew i d at in
          subst (λ y. IsNumbered i y.member) found.2 (next_numbered i found.0.member (h.numbered i found.0 found.1));
    })
    (turn_keys start.key_a start.key_b false turn w (λ right. absurd (false≢true right)) h.known)

run_order : (start : Start) (turns : List Turn) (w : WorldState Carried) → Order start w → Order start (world_run values turns w)
run_order start [] w h = h
run_order start (turn ∷ turns) w h = run_order start turns (after_turn values turn w) (turn_order start turn w h)

pub opened_order : (start : Start) → Order start (opened_world start)
opened_order start = record {
  known = opened_keys false start;
  order = λ is. absurd (false≢true is);
  numbered = opened_actors (λ actor c. IsNumbered actor c.member) start tt tt
      (λ number plan there. ap (λ c. c.spelling.path) (first_keeps (waiting_path {C = Carried} (path_begins start number plan) start.lines)).1);
}

-- ---- what follows

pub finish_past : (state : EndPhase) → may_finish state ≡ true → is_past state ≡ true
finish_past EndPhase.Established is = refl
finish_past EndPhase.CloseWait is = refl
finish_past EndPhase.Waiting is = absurd (false≢true is)
finish_past _ is = absurd (false≢true is)

module _ (key_a key_b number : ℕ) (six : SixBooks) (p : PathState Carried) (numbered : p.profile.spelling.path ≡ number) (h : PathKeys key_a key_b false six p) where
  joins_at : (n : ℕ) → number ≡ suc n → is_joined p.profile ≡ true
  joins_at n is = ap (λ m. nat_lt 0 m) (numbered ∙ is) ∙ lt-ltb 0 (suc n) (omega arith)

  asks_join : (o : Option Asked) → is_some o ≡ true → IfSome o (AskedIs (with_nonces key_a key_b false h.nonce_a h.nonce_b) false (Joined six) (Past six NoMore) (is_joined p.profile) B) → Joined six A
  asks_join = elim [ None ↦ λ some is. absurd (false≢true some) | Some asked ↦ λ some is. is.1.1.0 ]

  duty_joined : (d : Duty) (ds : List Duty) → p.agenda ≡ d ∷ ds → FirstStands (d ∷ ds) p → DutyJoined six d
  duty_joined (Duty.Ask (AskDuty.JoinHeard B)) ds is first =
      asks_join (asked_at B p) first (asked_is (with_nonces key_a key_b false h.nonce_a h.nonce_b) false (Joined six) (Past six NoMore) (is_joined p.profile) B p.b.treated.items h.is.b.items)
  duty_joined (Duty.Ask (AskDuty.JoinHeard A)) ds is first = tt
  duty_joined (Duty.Ask (AskDuty.GoIdentity s)) ds is first =
      (h.is.known (Voice.Falls s) (subst (λ xs. speaks (Voice.Falls s) xs ≡ true) (sym is) (first_speaks (Voice.Falls s) (Duty.Ask (AskDuty.GoIdentity s)) ds (itself s)))).1.0
  duty_joined (Duty.Step StepDuty.Events) ds is first = tt
  duty_joined _ ds is first = tt

  -- MP_FAIL of B is sent where B joined, and what B's end hears it hears where B joined
  hears_fail : (s : Side) (index n : ℕ) → number ≡ suc n → speaks (Voice.Says s) p.agenda ≡ true → item_at index (end_at s p).treated.items ≡ Some Heard.Fail → Joined six B
  hears_fail A index n is spoken fail =
      subst (λ o. IfSome o (ItemIs (with_nonces key_a key_b false h.nonce_a h.nonce_b) false (Joined six) (Past six NoMore) (is_joined p.profile) A)) fail (every_item index p.a.treated.items h.is.a.items) (joins_at n is)
  hears_fail B index n is spoken fail = (h.is.known (Voice.Says B) spoken (joins_at n is)).0

  fails_joined : (d : Duty) (ds : List Duty) → p.agenda ≡ d ∷ ds → FailsJoined six number p d
  fails_joined (Duty.Step (StepDuty.Heard s index)) ds is = λ n suc_n fail. hears_fail s index n suc_n
      (subst (λ xs. speaks (Voice.Says s) xs ≡ true) (sym is) (first_speaks (Voice.Says s) (Duty.Step (StepDuty.Heard s index)) ds (itself s))) fail
  fails_joined _ ds is = tt

  path_joined : PathJoined six number p
  path_joined = record {
    heard = λ d ds is. duty_joined d ds is (subst (λ xs. FirstStands xs p) is h.settled);
    fails = fails_joined;
    joined = λ n is s may. (end_is (with_nonces key_a key_b false h.nonce_a h.nonce_b) false (Joined six) (Past six NoMore) s p h.is).past (joins_at n is) (finish_past (end_at s p).tcp.state may);
    plain = λ n is s. by s (joins_at n is) (end_at s p).modes.identity refl;
    fell = λ s is. ((end_is (with_nonces key_a key_b false h.nonce_a h.nonce_b) false (Joined six) (Past six NoMore) s p h.is).modes.fell is).1.0;
  }
    where
      by : (s : Side) → is_joined p.profile ≡ true → (b : Bool) → (end_at s p).modes.identity ≡ b → b ≡ false
      by s joins true is =
          absurd (both_ways _ ((end_is (with_nonces key_a key_b false h.nonce_a h.nonce_b) false (Joined six) (Past six NoMore) s p h.is).modes.fell is).0 joins)
      by s joins false is = refl

member_joined : (start : Start) (number : ℕ) (six : SixBooks) (m : Actor Carried) → IsNumbered (suc (suc number)) m → MemberIs start.key_a start.key_b false six m → MemberJoined six number m
member_joined start number six (App a) numbered h = tt
member_joined start number six (Path p) numbered h = path_joined start.key_a start.key_b number six p numbered h

-- at every moment
pub always_joined : Always values (λ start w. JoinedSo w)
always_joined start turns =
    let w = world_run values turns (opened_world start) in
    let h : Order start w = run_order start turns (opened_world start) (opened_order start) in
    record {
      order = h.order;
      each = λ number c there. member_joined start number (books_in w.books) c.member (h.numbered (suc (suc number)) c there) (h.known.crew.each (suc (suc number)) c there);
    }
