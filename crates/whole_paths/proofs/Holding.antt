-- Who holds a byte is a path of the connection whose end is past the handshake, and lives, or gives it back before anything else.
use Rattle.std.proofs.Common.{◌≡◌, refl, sym, subst, ap, ◌∙◌, ◌⊎◌, inl, inr, ⊎_elim, ℕ, ◌+◌, ◌<◌, ◌≤◌, arith, Bool, true, false, true≢false, Option, Some, None, List, [], ◌∷◌, map, set}
use Rattle.std.specs.List.{slice_get}
use Rattle.std.specs.Option.{option_map}
use Rattle.std.proofs.lemmas.Bool.{and_parts, both_ways, cases_eq}
use Rattle.std.proofs.lemmas.Option.{same_Some, slice_get-map}
use Rattle.sides.specs.declared.side.Side.{Side}
use Rattle.sides.specs.declared.side.Side.TheVariants.{A, B}
use Rattle.send_book.specs.declared.call.SendCall.{SendCall}
use Rattle.send_book.specs.declared.call.SendCall.TheVariants.{Grant, Return}
use Rattle.stream_lanes.proofs.Lists.{in_map, in_set, set_other, set_same}
use Rattle.subflow_send.specs.Records.{Record}
use Rattle.subflow_tcp.specs.declared.handshake.State.{State}
use Rattle.subflow_tcp.specs.declared.handshake.State.TheVariants as phase
use Rattle.subflow_tcp.specs.States.{is_dead, may_finish}
use Rattle.actor_desk.specs.Books.{books_in}
use Rattle.actor_desk.specs.Desk.{SixBooks, after_ask, send_of}
use Rattle.actor_desk.specs.Words.{is_nil}
use Rattle.actor_desk.specs.declared.ask.Ask.{Ask}
use Rattle.actor_desk.specs.declared.ask.Ask.TheVariants as asks
use Rattle.actor_desk.specs.declared.ask.Reply.{Reply}
use Rattle.stream_apps.specs.Apps.{AppState}
use Rattle.stream_apps.specs.AppSteps.{app_ask, app_asks_first}
use Rattle.stream_apps.specs.declared.duty.AppDuty.{AppDuty}
use Rattle.path_agenda.specs.Agenda.{start_of_turn}
use Rattle.path_agenda.specs.declared.duty.Duty.{Duty}
use Rattle.path_agenda.specs.declared.duty.Duty.TheVariants as duties
use Rattle.path_agenda.specs.declared.duty.StepDuty.TheVariants as step_duties
use Rattle.path_core.specs.Codec.{Codec}
use Rattle.path_core.specs.Duties.{ask_for}
use Rattle.path_core.specs.Emission.{data_ask, data_stands, first_unsent}
use Rattle.path_core.specs.Start.{first_turn, waiting_path}
use Rattle.path_core.specs.State.{PathState, end_at, path_of, with_agenda}
use Rattle.path_core.specs.Steps.{answers, asks_first, next_round, takes}
use Rattle.path_core.specs.Turns.{FirstStands, IsSettled}
use Rattle.world_laws.specs.declared.member.Member.TheVariants.{App, Path}
use Rattle.world_laws.specs.Actors.{Actor, ActorCrew, is_over, member_asks, member_next, member_takes}
use Rattle.world_laws.specs.Laws.{Always}
use Rattle.world_laws.specs.Openings.{Start, opened_world, path_begins}
use Rattle.world_laws.specs.StampedBooks.{answer_to}
use Rattle.world_laws.specs.Worlds.{WorldState, all_over, asked, begins, crew_after, greatest}
use Rattle.world_laws.proofs.Rounds.Frame.{first_keeps, takes_keeps}
use Rattle.world_laws.proofs.Rounds.GrantAtOneDuty.{AsksNone, asks_none}
use Rattle.world_laws.proofs.Rounds.Lifting.{all_over_each}
use Rattle.world_laws.proofs.Weaving.Journals.{books_after}
use Rattle.world_laws.proofs.Worlds.Opened.{opened_actors}
use Rattle.world_laws.proofs.Worlds.Settled.{settled_settled}
use Rattle.world_laws.proofs.Worlds.Turns.{run_so}
use Rattle.whole_paths.specs.AsFar.{stage}
use Rattle.whole_paths.specs.Finish.{IsPathAt}
use Rattle.whole_paths.specs.Holders.{HoldersLive, IsToLeave, MayHold, holds}
use Rattle.whole_paths.specs.Holders.{IsToLeave as leaving}
use Rattle.whole_paths.proofs.Deaths.{begins_living}
use Rattle.whole_paths.proofs.GoesOn.{next_up}
use Rattle.whole_paths.proofs.Leaving.{may_hold_on, stage_up}
use Rattle.whole_paths.proofs.MarkSteps.{AsksFor, held_before, mark_step, none_held}

-- ---- the books

-- the ask is for bytes of this side's stream
pub record AsksBytes (s : Side) (number : ℕ) (x : Ask) : Type 0 where
  pub max : ℕ
  pub standby : Bool
  pub is : x ≡ asks.Send s (Grant number max standby)

asks_at : (s : Side) (number : ℕ) (call : SendCall) → AsksFor number call → AsksBytes s number (asks.Send s call)
asks_at s number call a = record { max = a.max; standby = a.standby; is = ap (asks.Send s) a.is }

-- a byte that is held after an ask was held before it, or is asked for
pub book_held : (s : Side) (number place : ℕ) (x : Ask) (six : SixBooks) → holds number (slice_get (send_of s (after_ask x six)).marks place) ≡ true
    → (holds number (slice_get (send_of s six).marks place) ≡ true) ⊎ AsksBytes s number x
book_held A number place (asks.Send A call) six held = ⊎_elim (λ was. inl was) (λ a. inr (asks_at A number call a)) (held_before number call _ _ (mark_step place call six.send_a) held)
book_held B number place (asks.Send B call) six held = ⊎_elim (λ was. inl was) (λ a. inr (asks_at B number call a)) (held_before number call _ _ (mark_step place call six.send_b) held)
book_held A number place (asks.Send B call) six held = inl held
book_held B number place (asks.Send A call) six held = inl held
book_held A number place (asks.Reassembly A call) six held = inl held
book_held A number place (asks.Reassembly B call) six held = inl held
book_held B number place (asks.Reassembly A call) six held = inl held
book_held B number place (asks.Reassembly B call) six held = inl held
book_held A number place (asks.Control A call) six held = inl held
book_held A number place (asks.Control B call) six held = inl held
book_held B number place (asks.Control A call) six held = inl held
book_held B number place (asks.Control B call) six held = inl held
book_held A number place (asks.Local step) six held = inl held
book_held B number place (asks.Local step) six held = inl held

-- none is held that a path gives back
pub gave_back : (s : Side) (number place : ℕ) (x : Ask) (six : SixBooks) → x ≡ asks.Send s (Return number) → holds number (slice_get (send_of s (after_ask x six)).marks place) ≡ false
gave_back A number place x six is = subst (λ (y : Ask). holds number (slice_get (send_of A (after_ask y six)).marks place) ≡ false) (sym is) (none_held number place six.send_a)
gave_back B number place x six is = subst (λ (y : Ask). holds number (slice_get (send_of B (after_ask y six)).marks place) ≡ false) (sym is) (none_held number place six.send_b)

-- ---- what asks for bytes

app_asks_none : (d : AppDuty) (a : AppState) → AsksNone (app_ask d a)
app_asks_none AppDuty.Write a = tt
app_asks_none _ a = tt

pub app_never : (s : Side) (number : ℕ) (x : Ask) (a : AppState) (ds : List AppDuty) → app_asks_first ds a ≡ Some x → AsksBytes s number x → ⊥
app_never s number x a [] asking bytes = cc
app_never s number x a (d ∷ ds) asking bytes = subst AsksNone (same_Some (app_ask d a) x asking ∙ bytes.is) (app_asks_none d a)

past_so : (state : State) → may_finish state ≡ true → (3 ≤ stage state) × (is_dead state ≡ false)
past_so phase.Established is = (omega arith, refl)
past_so phase.CloseWait is = (omega arith, refl)
past_so _ is = absurd (true≢false (sym is))

-- an agenda that is over has nobody leave
pub never_leaves : (s : Side) (ds : List Duty) → is_nil ds ≡ true → IsToLeave s ds → ⊥
never_leaves s ds none (leaving.leaves others) = absurd (true≢false (sym none))
never_leaves s ds none (leaving.resets others) = absurd (true≢false (sym none))
never_leaves s ds none (leaving.behind t others l) = absurd (true≢false (sym none))
never_leaves s ds none (leaving.behind_dead t others l) = absurd (true≢false (sym none))

module _ {C : Type 0} (k : Codec C) where
  -- the path that asks for bytes is the one that they are asked for, and its end is open
  pub record MayAsk (s : Side) (number : ℕ) (p : PathState C) : Type 0 where
    pub own : number ≡ path_of p
    pub may : may_finish (end_at s p).tcp.state ≡ true

  asks_open : (s t : Side) (number : ℕ) (p : PathState C) (o : Option Record) → data_stands p.profile t (end_at t p) o ≡ true → AsksBytes s number (data_ask k t o p) → MayAsk s number p
  asks_open s t number p (Some r) stood a = (let never = a.is in cc)
  asks_open A A number p None stood a = record { own = (let is = a.is in cc); may = (and_parts (may_finish p.a.tcp.state) _ stood).0 }
  asks_open B B number p None stood a = record { own = (let is = a.is in cc); may = (and_parts (may_finish p.b.tcp.state) _ stood).0 }
  asks_open A B number p None stood a = (let never = a.is in cc)
  asks_open B A number p None stood a = (let never = a.is in cc)

  duty_open : (s : Side) (number : ℕ) (d : Duty) (ds : List Duty) (p : PathState C) → FirstStands (d ∷ ds) p → AsksBytes s number (ask_for k d p) → MayAsk s number p
  duty_open s number (duties.Step (step_duties.Data t)) ds p stood a = asks_open s t number p (first_unsent (end_at t p)) stood a
  duty_open s number d ds p stood a = absurd (subst AsksNone a.is (asks_none k p d tt))

  -- ---- a path

  -- who holds bytes after a step of the path held them before, or asked for them
  path_on : (s : Side) (place : ℕ) (six : SixBooks) (x : Ask) (r : Reply) (p : PathState C) (ds : List Duty) → p.agenda ≡ ds → FirstStands ds p → asks_first k ds p ≡ Some x
      → holds (path_of p) (slice_get (send_of s (after_ask x six)).marks place) ≡ true → (holds (path_of p) (slice_get (send_of s six).marks place) ≡ true → MayHold s p) → MayHold s (takes k r p)
  path_on s place six x r p [] first stood asking held was = cc
  path_on s place six x r p (d ∷ ds) first stood asking held was =
      ⊎_elim (λ on. on) (λ gives. absurd (both_ways _ (gave_back s (path_of p) place x six (sym same ∙ gives)) held)) (may_hold_on k s d ds r p first may)
    where
      same : ask_for k d p ≡ x
      same = same_Some (ask_for k d p) x asking

      asked_open : AsksBytes s (path_of p) x → MayHold s p
      asked_open a =
          let open_end = duty_open s (path_of p) d ds p stood (record { max = a.max; standby = a.standby; is = same ∙ a.is }) in
          let past = past_so (end_at s p).tcp.state open_end.may in
          record { past = past.0; lives = inl past.1 }

      may : MayHold s p
      may = ⊎_elim (λ h. was h) asked_open (book_held s (path_of p) place x six held)

  -- ---- the world

  -- the actors behind both applications are the paths of their numbers, and their first duties come to something
  abbrev pub IsNamed : ℕ → Actor C → Type 0
  IsNamed actor (App a) = actor < 2
  IsNamed actor (Path p) = (2 + path_of p ≡ actor) × IsSettled p

  pub takes_named : (actor : ℕ) (r : Reply) (m : Actor C) → IsNamed actor m → IsNamed actor (member_takes k r m)
  takes_named actor r (App a) h = h
  takes_named actor r (Path p) h = (ap (λ n. 2 + n) (takes_keeps k r p).2 ∙ h.0, let q : PathState C = answers k p.agenda r p in settled_settled q.agenda q)

  pub next_named : (actor : ℕ) (m : Actor C) → IsNamed actor m → IsNamed actor (member_next m)
  next_named actor (App a) h = h
  next_named actor (Path p) h =
      let q : PathState C = record p { clock = p.until; until = p.until + 100 } in (ap (λ n. 2 + n) (first_keeps q).2 ∙ h.0, settled_settled start_of_turn (with_agenda start_of_turn q))

  pub record Known (w : WorldState C) : Type 0 where
    pub named : (actor : ℕ) (c : ActorCrew C) → slice_get w.crew actor ≡ Some c → IsNamed actor c.member
    pub holders : HoldersLive w

  module _ (w : WorldState C) (h : Known w) where
    module _ (actor : ℕ) (c : ActorCrew C) (x : Ask) (there : slice_get w.crew actor ≡ Some c) (asking : member_asks k c.member ≡ Some x) where
      abbrev six : SixBooks
      six = books_in w.books

      abbrev new : ActorCrew C
      new = crew_after k x w.books c

      abbrev v : WorldState C
      v = asked k actor (Some x) c w

      -- who asks for bytes is this actor
      asker : (s : Side) (number : ℕ) (m : Actor C) → IsNamed actor m → member_asks k m ≡ Some x → AsksBytes s number x → actor ≡ 2 + number
      asker s number (App a) named asks bytes = absurd (app_never s number x a a.agenda asks bytes)
      asker s number (Path p) named asks bytes = by p.agenda named.1 asks
        where
          by : (ds : List Duty) → FirstStands ds p → asks_first k ds p ≡ Some x → actor ≡ 2 + number
          by [] stood asks = cc
          by (d ∷ ds) stood asks =
              let open_end = duty_open s number d ds p stood (record { max = bytes.max; standby = bytes.standby; is = same_Some (ask_for k d p) x asks ∙ bytes.is }) in
              let own = open_end.own in let at = named.0 in omega (arith, own, at)

      -- another path is where it was
      apart_on : (s : Side) (number : ℕ) → (actor ≡ 2 + number → ⊥) → (p : PathState C) × IsPathAt number w p × MayHold s p → (p : PathState C) × IsPathAt number v p × MayHold s p
      apart_on s number apart found =
          (found.0, record { crew = found.1.crew; there = set_other w.crew actor new (2 + number) (λ same. apart (sym same)) ∙ found.1.there; is = found.1.is }, found.2)

      -- the actor's own path
      own_on : (s : Side) (number place : ℕ) → actor ≡ 2 + number → holds number (slice_get (send_of s (after_ask x six)).marks place) ≡ true
          → (m : Actor C) → c.member ≡ m → IsNamed actor m → member_asks k m ≡ Some x → (p : PathState C) × IsPathAt number v p × MayHold s p
      own_on s number place is held (App a) kind named asks = absurd (⊎_elim (λ was. never (h.holders.each s number place was)) (λ bytes. app_never s number x a a.agenda asks bytes) (book_held s number place x six held))
        where
          never : (p : PathState C) × IsPathAt number w p × MayHold s p → ⊥
          never found =
              let same : c ≡ found.1.crew = same_Some c found.1.crew (sym there ∙ ap (slice_get w.crew) is ∙ found.1.there) in
              let apart : App a ≡ Path found.0 = sym kind ∙ ap (λ (y : ActorCrew C). y.member) same ∙ found.1.is in cc
      own_on s number place is held (Path p) kind named asks =
          let own : number ≡ path_of p = omega (arith, is, named.0) in (
            takes k (answer_to w.books x) p,
            record {
              crew = new;
              there = ap (λ i. slice_get (set w.crew actor new) i) (sym is) ∙ set_same w.crew actor new c there;
              is = ap (member_takes k (answer_to w.books x)) kind;
            },
            path_on s place six x (answer_to w.books x) p p.agenda refl named.1 asks (subst (λ n. holds n (slice_get (send_of s (after_ask x six)).marks place) ≡ true) own held)
                (λ was. may (h.holders.each s number place (subst (λ n. holds n (slice_get (send_of s six).marks place) ≡ true) (sym own) was))),
          )
        where
          may : (q : PathState C) × IsPathAt number w q × MayHold s q → MayHold s p
          may found =
              let same : c ≡ found.1.crew = same_Some c found.1.crew (sym there ∙ ap (slice_get w.crew) is ∙ found.1.there) in
              let one : Path found.0 ≡ Path p = sym found.1.is ∙ ap (λ (y : ActorCrew C). y.member) (sym same) ∙ kind in
              subst (λ (q : PathState C). MayHold s q) (let own : found.0 ≡ p = cc in own) found.2

      held_on : (s : Side) (number place : ℕ) → holds number (slice_get (send_of s (after_ask x six)).marks place) ≡ true → (p : PathState C) × IsPathAt number v p × MayHold s p
      held_on s number place held = ⊎_elim
          (λ is. own_on s number place is held c.member refl (h.named actor c there) asking)
          (λ apart. apart_on s number apart (⊎_elim (λ was. h.holders.each s number place was) (λ a. absurd (apart (asker s number c.member (h.named actor c there) asking a))) (book_held s number place x six held)))
          (cases_eq actor (2 + number))

      pub known_asked : Known v
      known_asked = record {
        named = λ i d at. ⊎_elim
            (λ here. subst (λ y. IsNamed i y.member) here.1 (subst (λ n. IsNamed n (member_takes k (answer_to w.books x) c.member)) (sym here.0) (takes_named actor (answer_to w.books x) c.member (h.named actor c there))))
            (λ other. h.named i d other.1)
            (in_set w.crew actor new i d at);
        holders = record {
          each = λ s number place held. held_on s number place (subst (λ (y : SixBooks). holds number (slice_get (send_of s y).marks place) ≡ true) (books_after x c.pass w.books) held);
        };
      }

    module _ (over : all_over w.crew ≡ true) where
      abbrev u : WorldState C
      u = record w { crew = map (begins (greatest 0 w.crew)) w.crew }

      next_may : (s : Side) (p : PathState C) → is_nil p.agenda ≡ true → MayHold s p → MayHold s (next_round p)
      next_may s p none g = record {
        past = let past = g.past in let up = stage_up s p (next_round p) (next_up p) in omega (arith, past, up);
        lives = ⊎_elim (λ alive. inl (begins_living k (record p { clock = p.until; until = p.until + 100 }) s (same s ∙ alive))) (λ l. absurd (never_leaves s p.agenda none l)) g.lives;
      }
        where
          same : (s : Side) → is_dead (end_at s (record p { clock = p.until; until = p.until + 100 })).tcp.state ≡ is_dead (end_at s p).tcp.state
          same A = refl
          same B = refl

      known_begun : Known u
      known_begun = record {
        named = λ i d at. let found = in_map (begins (greatest 0 w.crew)) w.crew i d at in subst (λ y. IsNamed i y.member) found.2 (next_named i found.0.member (h.named i found.0 found.1));
        holders = record {
          each = λ s number place held.
              let found = h.holders.each s number place held in
              let nil : is_nil found.0.agenda ≡ true = ap is_over (sym found.1.is) ∙ all_over_each w.crew (2 + number) found.1.crew over found.1.there in (
                next_round found.0,
                record {
                  crew = begins (greatest 0 w.crew) found.1.crew;
                  there = slice_get-map (begins (greatest 0 w.crew)) w.crew (2 + number) ∙ ap (option_map (begins (greatest 0 w.crew))) found.1.there;
                  is = ap member_next found.1.is;
                },
                next_may s found.0 nil found.2,
              );
        };
      }

  opened_known : (start : Start) → Known (opened_world start)
  opened_known start = record {
    named = opened_actors (λ actor c. IsNamed actor c.member) start (omega arith) (omega arith) (λ number plan there.
        let p : PathState C = waiting_path (path_begins start number plan) start.lines in
        ((let kept : path_of (first_turn {C = C} (path_begins start number plan) start.lines) ≡ number = (first_keeps p).2 in omega (arith, kept)), settled_settled start_of_turn (with_agenda start_of_turn p)));
    holders = record { each = λ s number place held. absurd (true≢false (sym held ∙ none s number place)) };
  }
    where
      none : (s : Side) (number place : ℕ) → holds number (slice_get (send_of s (books_in (opened_world {C = C} start).books)).marks place) ≡ false
      none A number place = refl
      none B number place = refl

  pub always_known : Always k (λ start w. Known w)
  always_known start turns = run_so k Known (λ w h actor c x there asking. known_asked w h actor c x there asking) (λ w h over. known_begun w h over) turns (opened_world start) (opened_known start)

  pub holders_live : Always k (λ start w. HoldersLive w)
  holders_live start turns = (always_known start turns).holders
