-- The only path of a connection never stands by: no other path of its side lives, so its control book tells no end that it does.
use Rattle.std.proofs.Common.{◌≡◌, refl, sym, subst, ap, ◌∙◌, ⊎_elim, ℕ, zero, suc, ◌+◌, ◌&&◌, ◌==◌, not, Bool, true, false, true≢false, if◌then◌else◌, Option, Some, None, List, [], ◌∷◌, ◌++◌, drop, length, set}
use Rattle.std.specs.Prelude.{slice_index_or}
use Rattle.std.specs.List.{list_any, slice_get}
use Rattle.std.proofs.lemmas.Bool.{or_from, or_parts}
use Rattle.std.proofs.lemmas.Option.{same_Some}
use Rattle.sides.specs.declared.side.Side.{Side}
use Rattle.sides.specs.declared.side.Side.TheVariants.{A, B}
use Rattle.control_book.specs.declared.call.ControlCall.{ControlCall}
use Rattle.control_book.specs.declared.call.ControlCall.TheVariants as control_calls
use Rattle.control_book.specs.declared.call.Notice.{Notice}
use Rattle.control_book.specs.declared.call.Notice.TheVariants as notices
use Rattle.control_book.specs.declared.registry.PathState.{PathState as Kept}
use Rattle.control_book.specs.Control.{Control}
use Rattle.control_book.specs.Registry.{every_path, is_living, lives, opening_paths, serves_beside, standby, state_of}
use Rattle.control_book.specs.Replies.{may_join, notice_on}
use Rattle.control_book.specs.Steps as controlling
use Rattle.send_book.specs.declared.call.SendCall.TheVariants as send_calls
use Rattle.stream_lanes.proofs.Lists.{in_map, in_set}
use Rattle.actor_desk.specs.declared.ask.Ask.{Ask}
use Rattle.actor_desk.specs.declared.ask.Ask.TheVariants as asks
use Rattle.actor_desk.specs.declared.ask.Note.{Note}
use Rattle.actor_desk.specs.Books.{books_in}
use Rattle.actor_desk.specs.Desk.{SixBooks, after_ask, reply_of}
use Rattle.stream_apps.specs.declared.duty.AppDuty.{AppDuty}
use Rattle.stream_apps.specs.declared.duty.AppDuty.TheVariants as apps
use Rattle.stream_apps.specs.Apps.{AppState}
use Rattle.stream_apps.specs.AppSteps.{app_ask, app_asks_first}
use Rattle.subflow_send.specs.Records.{Record}
use Rattle.path_agenda.specs.declared.duty.Duty.{Duty}
use Rattle.path_agenda.specs.declared.duty.Duty.TheVariants as duties
use Rattle.path_agenda.specs.declared.duty.AskDuty.{AskDuty}
use Rattle.path_agenda.specs.declared.duty.AskDuty.TheVariants as ask_duties
use Rattle.path_agenda.specs.declared.duty.StepDuty.TheVariants as step_duties
use Rattle.path_core.specs.Codec.{Codec}
use Rattle.path_core.specs.Duties.{ask_for}
use Rattle.path_core.specs.Emission.{data_ask, first_unsent}
use Rattle.path_core.specs.Start.{first_turn, waiting_path}
use Rattle.path_core.specs.State.{PathState, end_at, path_of}
use Rattle.path_core.specs.Steps.{asks_first}
use Rattle.world_laws.specs.declared.member.Member.TheVariants.{App, Path}
use Rattle.world_laws.specs.Actors.{Actor, ActorCrew, member_asks, member_next, member_takes}
use Rattle.world_laws.specs.Asking.{IsOwn, IsOwnCall, May, asking, asks_of_books, may}
use Rattle.world_laws.specs.Openings.{PathPlan, Start, opened_world, path_begins}
use Rattle.world_laws.specs.Outcomes.{notes_at, notes_or}
use Rattle.world_laws.specs.RoundEnd.{asks_grant}
use Rattle.world_laws.specs.RoundNumbers.{is_standby, last_on_standby, steps_since}
use Rattle.world_laws.specs.Standbys.{looks, standby_told}
use Rattle.world_laws.specs.Worlds.{Turn, WorldState, begins, crew_after, greatest, note_of, world_run}
use Rattle.world_laws.proofs.Rounds.Frame.{first_keeps, takes_keeps}
use Rattle.world_laws.proofs.Rounds.Lifting.{opened_lifted}
use Rattle.world_laws.proofs.Standby.LooksAlone.{begins_kept, next_kept, takes_stands}
use Rattle.world_laws.proofs.Weaving.Journals.{books_after}
use Rattle.world_laws.proofs.Worlds.Turns.{run_so}
use Rattle.world_laws.proofs.Writes.Asks.{asks_no_more}

-- ---- the control books

-- no path but path 0 lives
record OthersRest (paths : List Kept) : Type 0 where
  each : (i : ℕ) (x : Kept) → slice_get paths (suc i) ≡ Some x → is_living x.phase ≡ false

resting_at : (paths : List Kept) (n : ℕ) → ((x : Kept) → slice_get paths n ≡ Some x → is_living x.phase ≡ false) → is_living (state_of paths n).phase ≡ false
resting_at [] n each = refl
resting_at (x ∷ paths) zero each = each x refl
resting_at (x ∷ paths) (suc n) each = resting_at paths n each

-- a path is put that rests, or path 0
put_rests : (paths : List Kept) (n : ℕ) (x : Kept) → ((i : ℕ) → n ≡ suc i → is_living x.phase ≡ false) → OthersRest paths → OthersRest (set paths n x)
put_rests paths n x rests h = record { each = λ i y there. ⊎_elim (λ same. subst (λ (z : Kept). is_living z.phase ≡ false) same.1 (rests i (sym same.0))) (λ other. h.each i y other.1) (in_set paths n x (suc i) y there) }

-- the phase of each path stays
same_rests : (paths : List Kept) (n : ℕ) (x : Kept) → x.phase ≡ (state_of paths n).phase → OthersRest paths → OthersRest (set paths n x)
same_rests paths n x same h = put_rests paths n x (λ i is. ap is_living same ∙ subst (λ m. is_living (state_of paths m).phase ≡ false) (sym is) (resting_at paths (suc i) (λ y there. h.each i y there))) h

either_rests : (b : Bool) (c d : Control) → OthersRest c.paths → OthersRest d.paths → OthersRest (if b then c else d).paths
either_rests true c d x y = x
either_rests false c d x y = y

noted_rests : (n : Notice) (path : ℕ) (c : Control) → OthersRest c.paths → OthersRest (controlling.after_notice n path c).paths
noted_rests (notices.Withdraw id) path c h = h
noted_rests notices.Nothing path c h = h
noted_rests (notices.Announce id) path c h = h
noted_rests (notices.Carrier key) path c h = h
noted_rests notices.Reset path c h = h

call_rests : (c : Control) (call : ControlCall) → IsOwnCall 0 call → OthersRest c.paths → OthersRest (controlling.after c call).paths
call_rests c (control_calls.Look path) own h = noted_rests (notice_on c path) path c h
call_rests c (control_calls.PeerKey key) own h = h
call_rests c (control_calls.Keys mine theirs) own h = either_rests (mine == c.keys.own) _ c h h
call_rests c (control_calls.Fell path event) own h = h
call_rests c (control_calls.JoinBegin path) own h = either_rests (may_join c) _ c (put_rests c.paths path _ (λ i is. refl) h) h
call_rests c (control_calls.JoinHeard path token) own h = either_rests _ _ c h h
call_rests c (control_calls.Live path backup) own h = put_rests c.paths path _ (λ i is. absurd (never i (sym own ∙ is))) h
  where
    never : (i : ℕ) → 0 ≡ suc i → ⊥
    never i is = cc
call_rests c (control_calls.Dead path) own h = put_rests c.paths path _ (λ i is. refl) h
call_rests c (control_calls.Backup path on) own h = h
call_rests c (control_calls.Rate path window rtt) own h = same_rests c.paths path _ refl h
call_rests c (control_calls.Announce id) own h = h
call_rests c (control_calls.Withdraw id) own h = either_rests (controlling.is_known id c) _ c (same_rests c.paths id _ refl h) h
call_rests c (control_calls.Heard id address port hmac) own h = h
call_rests c (control_calls.Echoed id) own h = either_rests (controlling.is_known id c) _ c h h
call_rests c (control_calls.Removed id) own h = either_rests (controlling.is_known id c) _ c (same_rests c.paths id _ refl h) h
call_rests c control_calls.FastClose own h = h
call_rests c (control_calls.FastHeard key) own h = either_rests (key == c.keys.own) _ c h h

idle_ones : (xs : List Kept) → list_any (λ x. is_living x.phase) xs ≡ false → (i : ℕ) (x : Kept) → slice_get xs i ≡ Some x → is_living x.phase ≡ false
idle_ones [] none i x there = cc
idle_ones (y ∷ xs) none zero x there = subst (λ (z : Kept). is_living z.phase ≡ false) (same_Some y x there) (or_parts (is_living y.phase) (list_any (λ z. is_living z.phase) xs) none).0
idle_ones (y ∷ xs) none (suc i) x there = idle_ones xs (or_parts (is_living y.phase) (list_any (λ z. is_living z.phase) xs) none).1 i x there

opened_rest : OthersRest opening_paths
unfolding opening_paths
opened_rest = record { each = λ i x there. idle_ones opening_paths refl (suc i) x there }

record BothRest (six : SixBooks) : Type 0 where
  a : OthersRest six.control_a.paths
  b : OthersRest six.control_b.paths

-- of path 0, or of no path
abbrev IsOfFirst : Ask → Type 0
IsOfFirst (asks.Control s call) = IsOwnCall 0 call
IsOfFirst _ = Unit {0}

ask_rests : (x : Ask) (six : SixBooks) → IsOfFirst x → BothRest six → BothRest (after_ask x six)
ask_rests (asks.Control A call) six own h = record { a = call_rests six.control_a call own h.a; b = h.b }
ask_rests (asks.Control B call) six own h = record { a = h.a; b = call_rests six.control_b call own h.b }
ask_rests (asks.Send A call) six own h = record { a = h.a; b = h.b }
ask_rests (asks.Send B call) six own h = record { a = h.a; b = h.b }
ask_rests (asks.Reassembly A call) six own h = record { a = h.a; b = h.b }
ask_rests (asks.Reassembly B call) six own h = record { a = h.a; b = h.b }
ask_rests (asks.Local step) six own h = h

none_of : {X : Type 0} (f : X → Bool) (xs : List X) → ((x : X) → f x ≡ false) → list_any f xs ≡ false
none_of f [] none = refl
none_of f (x ∷ xs) none = or_from (f x) (list_any f xs) (none x) (none_of f xs none)

and_false : (a b : Bool) → b ≡ false → (a && b) ≡ false
and_false true b is = is
and_false false b is = refl

middle_false : (a b c : Bool) → b ≡ false → ((a && b) && c) ≡ false
middle_false a true c is = absurd (true≢false is)
middle_false true false c is = refl
middle_false false false c is = refl

-- where other paths rest path 0 doesn't stand by
serves_none : (paths : List Kept) (backups : List Bool) → OthersRest paths → (other : ℕ) → serves_beside paths backups 0 other ≡ false
unfolding serves_beside
serves_none paths backups h zero = refl
serves_none paths backups h (suc i) = middle_false (not (suc i == 0)) (lives paths (suc i)) (not (slice_index_or backups (suc i) false)) (resting_at paths (suc i) (λ x there. h.each i x there))

stands_not : (paths : List Kept) (backups : List Bool) → OthersRest paths → standby paths backups 0 ≡ false
stands_not paths backups h = and_false _ (list_any (serves_beside paths backups 0) every_path) (none_of (serves_beside paths backups 0) every_path (serves_none paths backups h))

-- ---- what is asked

abbrev IsLook : Side → Ask → Type 0
IsLook s x = looks s x ≡ true

-- a Look tells that it doesn't
look_told : (s : Side) (x : Ask) (six : SixBooks) (before : Bool) → IsOfFirst x → BothRest six → looks s x ≡ true → standby_told before (reply_of six x) ≡ false
look_told A (asks.Control A (control_calls.Look path)) six before own h is = subst (λ n. standby six.control_a.paths six.control_a.addresses.backups n ≡ false) (sym own) (stands_not six.control_a.paths six.control_a.addresses.backups h.a)
look_told B (asks.Control B (control_calls.Look path)) six before own h is = subst (λ n. standby six.control_b.paths six.control_b.addresses.backups n ≡ false) (sym own) (stands_not six.control_b.paths six.control_b.addresses.backups h.b)
look_told _ _ six before own h is = absurd (true≢false (sym is))

app_first : (d : AppDuty) (a : AppState) → IsOfFirst (app_ask d a)
app_first apps.FastClose a = tt
app_first _ a = tt

pub app_serves : (d : AppDuty) (a : AppState) → is_standby (app_ask d a) ≡ false
app_serves apps.Write a = refl
app_serves _ a = refl

grants_none : (m : May) (x : Ask) → m.grant ≡ false → may m x ≡ true → is_standby x ≡ false
grants_none m (asks.Send s (send_calls.Grant path max stands)) none is = absurd (true≢false (sym is ∙ none))
grants_none m _ none is = refl

asks_grants : (x : AskDuty) → (asks_of_books x).grant ≡ false
asks_grants ask_duties.JoinAgain = refl
asks_grants _ = refl

own_first : {C : Type 0} (p : PathState C) (x : Ask) → path_of p ≡ 0 → IsOwn p x → IsOfFirst x
own_first p (asks.Control s call) zero_is own = subst (λ n. IsOwnCall n call) zero_is own
own_first p _ zero_is own = tt

module _ {C : Type 0} (k : Codec C) where
  data_serves : (p : PathState C) (t : Side) (o : Option Record) → (end_at t p).modes.standby ≡ false → is_standby (data_ask k t o p) ≡ false
  data_serves p t (Some r) none = refl
  data_serves p t None none = none

  pub duty_serves : (p : PathState C) → ((s : Side) → (end_at s p).modes.standby ≡ false) → (d : Duty) → is_standby (ask_for k d p) ≡ false
  duty_serves p none (duties.Step (step_duties.Data t)) = data_serves p t (first_unsent (end_at t p)) (none t)
  duty_serves p none (duties.Ask x) = grants_none (asking (duties.Ask x)) (ask_for k (duties.Ask x) p) (asks_grants x) (asks_no_more k p (duties.Ask x)).kind
  duty_serves p none d = grants_none (asking d) (ask_for k d p) refl (asks_no_more k p d).kind

  -- ---- actors

  -- the only path, of which no end was told that it stands by
  pub record Serves (p : PathState C) : Type 0 where
    pub number : path_of p ≡ 0
    pub none : (s : Side) → (end_at s p).modes.standby ≡ false

  abbrev pub MemberServes : Actor C → Type 0
  MemberServes (App a) = Unit {0}
  MemberServes (Path p) = Serves p

  abbrev pub noted_on_standby : Note → Bool
  noted_on_standby n = is_standby n.ask

  pub record ServesAlone (w : WorldState C) : Type 0 where
    books : BothRest (books_in w.books)
    pub each : (actor : ℕ) (c : ActorCrew C) → slice_get w.crew actor ≡ Some c → MemberServes c.member
    notes : (actor : ℕ) (c : ActorCrew C) → slice_get w.crew actor ≡ Some c → list_any noted_on_standby c.list ≡ false

  member_first : (m : Actor C) (x : Ask) → member_asks k m ≡ Some x → MemberServes m → IsOfFirst x × (is_standby x ≡ false)
  member_first (App a) x is h = (elim a.agenda as (λ ds. app_asks_first ds a ≡ Some x → IsOfFirst x × (is_standby x ≡ false))
      [ [] ↦ λ is. cc | d ∷ ds ↦ λ is. subst (λ y. IsOfFirst y × (is_standby y ≡ false)) (same_Some (app_ask d a) x is) (app_first d a, app_serves d a) ]) is
  member_first (Path p) x is h = (elim p.agenda as (λ ds. asks_first k ds p ≡ Some x → IsOfFirst x × (is_standby x ≡ false))
      [ [] ↦ λ is. cc | d ∷ ds ↦ λ is. subst (λ y. IsOfFirst y × (is_standby y ≡ false)) (same_Some (ask_for k d p) x is) (own_first p (ask_for k d p) h.number (asks_no_more k p d).own, duty_serves p h.none d) ]) is

  member_takes_serves : (six : SixBooks) (m : Actor C) (x : Ask) → member_asks k m ≡ Some x → IsOfFirst x → BothRest six → MemberServes m → MemberServes (member_takes k (reply_of six x) m)
  member_takes_serves six (App a) x is own rest h = tt
  member_takes_serves six (Path p) x is own rest h = record {
    number = (takes_keeps k (reply_of six x) p).2 ∙ h.number;
    none = λ s. takes_stands k x (reply_of six x) p is s ∙ by s (looks s x) refl;
  }
    where
      by : (s : Side) (b : Bool) → looks s x ≡ b → (if b then standby_told (end_at s p).modes.standby (reply_of six x) else (end_at s p).modes.standby) ≡ false
      by s true look = look_told s x six (end_at s p).modes.standby own rest look
      by s false look = h.none s

  member_next_serves : (m : Actor C) → MemberServes m → MemberServes (member_next m)
  member_next_serves (App a) h = tt
  member_next_serves (Path p) h = record {
    number = (first_keeps (record p { clock = p.until; until = p.until + 100 })).2 ∙ h.number;
    none = elim [ A ↦ (next_kept p).a ∙ h.none A | B ↦ (next_kept p).b ∙ h.none B ];
  }

  pub more_none : (xs : List Note) (y : Note) → list_any noted_on_standby xs ≡ false → noted_on_standby y ≡ false → list_any noted_on_standby (xs ++ y ∷ []) ≡ false
  more_none [] y none last = or_from (noted_on_standby y) false last refl
  more_none (x ∷ xs) y none last = let parts = or_parts (noted_on_standby x) (list_any noted_on_standby xs) none in or_from (noted_on_standby x) (list_any noted_on_standby (xs ++ y ∷ [])) parts.0 (more_none xs y parts.1 last)

  -- ---- the world

  pub run_serves : (turns : List Turn) (w : WorldState C) → ServesAlone w → ServesAlone (world_run k turns w)
  run_serves = run_so k ServesAlone
      (λ w h actor c x there is.
      (let first = member_first c.member x is (h.each actor c there) in record {
        books = subst BothRest (sym (books_after x c.pass w.books)) (ask_rests x (books_in w.books) first.0 h.books);
        each = λ i d at. ⊎_elim
            (λ here. subst (λ (y : ActorCrew C). MemberServes y.member) here.1 (member_takes_serves (books_in w.books) c.member x is first.0 h.books (h.each actor c there)))
            (λ other. h.each i d other.1)
            (in_set w.crew actor (crew_after k x w.books c) i d at);
        notes = λ i d at. ⊎_elim
            (λ here. subst (λ (y : ActorCrew C). list_any noted_on_standby y.list ≡ false) here.1 (more_none c.list (note_of w.books c.pass x) (h.notes actor c there) first.1))
            (λ other. h.notes i d other.1)
            (in_set w.crew actor (crew_after k x w.books c) i d at);
      }))
      (λ w h over. record {
        books = h.books;
        each = λ i d at. (let found = in_map (begins (greatest 0 w.crew)) w.crew i d at in subst (λ (y : ActorCrew C). MemberServes y.member) found.2 (member_next_serves found.0.member (h.each i found.0 found.1)));
        notes = λ i d at. (let found = in_map (begins (greatest 0 w.crew)) w.crew i d at in subst (λ (y : ActorCrew C). list_any noted_on_standby y.list ≡ false) found.2 (h.notes i found.0 found.1));
      })

  pub opened_serves : (start : Start) (plan : PathPlan) → start.paths ≡ plan ∷ [] → ServesAlone (opened_world start)
  opened_serves start plan one = record {
    books = record { a = opened_rest; b = opened_rest };
    each = (opened_lifted (λ (c : ActorCrew C). MemberServes c.member) start tt tt (λ number other there. begun number (at number other (subst (λ (plans : List PathPlan). slice_get plans number ≡ Some other) one there)) other)).each;
    notes = (opened_lifted (λ (c : ActorCrew C). list_any noted_on_standby c.list ≡ false) start refl refl (λ number other there. refl)).each;
  }
    where
      at : (number : ℕ) (other : PathPlan) → slice_get (plan ∷ []) number ≡ Some other → number ≡ 0
      at zero other is = refl
      at (suc number) other is = cc

      begun : (number : ℕ) → number ≡ 0 → (other : PathPlan) → Serves (first_turn {C = C} (path_begins start number other) start.lines)
      begun number is other =
          let p : PathState C = waiting_path (path_begins start number other) start.lines in
          record { number = (first_keeps p).2 ∙ is; none = elim [ A ↦ (begins_kept p).a | B ↦ (begins_kept p).b ] }

  -- ---- the steps of a round

  pub drop_none : (n : ℕ) (xs : List Note) → list_any noted_on_standby xs ≡ false → list_any noted_on_standby (drop n xs) ≡ false
  drop_none zero xs none = none
  drop_none (suc n) [] none = refl
  drop_none (suc n) (x ∷ xs) none = drop_none n xs (or_parts (noted_on_standby x) (list_any noted_on_standby xs) none).1

  pub last_none : (s : Side) (xs : List Note) → list_any noted_on_standby xs ≡ false → last_on_standby s false xs ≡ false
  last_none s [] none = refl
  last_none s (x ∷ xs) none =
      let parts = or_parts (noted_on_standby x) (list_any noted_on_standby xs) none in
      ap (λ b. last_on_standby s b xs) (by (asks_grant s x.ask) parts.0) ∙ last_none s xs parts.1
    where
      by : (b : Bool) → is_standby x.ask ≡ false → (if b then is_standby x.ask else false) ≡ false
      by true is = is
      by false is = refl

  pub never_on_standby : (start : Start) (plan : PathPlan) (turns : List Turn) → start.paths ≡ plan ∷ [] → (actor : ℕ) (s : Side) (begun : WorldState C)
      → last_on_standby s false (steps_since actor begun (world_run k turns (opened_world start))) ≡ false
  never_on_standby start plan turns one actor s begun =
      last_none s (steps_since actor begun w) (drop_none (length (notes_at actor begun.crew)) (notes_at actor w.crew) (by (slice_get w.crew actor) refl))
    where
      w : WorldState C
      w = world_run k turns (opened_world start)

      by : (o : Option (ActorCrew C)) → slice_get w.crew actor ≡ o → list_any noted_on_standby (notes_or o) ≡ false
      by None there = refl
      by (Some c) there = (run_serves turns (opened_world start) (opened_serves start plan one)).notes actor c there
