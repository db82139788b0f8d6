-- A's side is sure of Multipath TCP only where A may send a DSS on path 0; so no other path begins before.
use Rattle.world_laws.proofs.Words.{◌≡◌, refl, sym, ◌∙◌, ap, subst, ℕ, zero, suc, ◌+◌, ◌&&◌, ◌==◌, not, inl, inr, ◌⊎◌, ⊎_elim, Bool, true, false, if◌then◌else◌}
use Rattle.world_laws.proofs.Words.{Option, Some, None, List, [], ◌∷◌, map, arith, is_none, set, and_parts, both_ways, false≢true, slice_get, list_all, Verdict}
use Rattle.world_laws.proofs.Words.{Mode, FallEvent, is_identity, is_starting, reads_mappings, with_infinite_receive, with_infinite_send, writes_mappings, Fall, is_failed_path, goes}
use Rattle.world_laws.proofs.Words.{fall_step, fall_keys, fall_plain, Stay, SendFail, Side, A, B, JoinSyn, ControlCall, Notice, sole_path, Control, is_sure}
use Rattle.world_laws.proofs.Words.{ReassemblyCall, Record, Pending, Piece, start_of_turn, Duty, SendDuty, StepDuty, AskDuty, SilentDuty, Heard, KeyPair}
use Rattle.world_laws.proofs.Words.{key_heard, keys_heard, PeerNotice, Ask, books_in, SixBooks, reply_of, after_ask, AppDuty, AppState, app_ask, stands}
use Rattle.world_laws.proofs.Words.{ask_for, passed, waiting_path, PathState, end_at, with_agenda, path_of, settled, answers, asks_first, IsSettled, Carried}
use Rattle.world_laws.proofs.Words.{values, reset_of, break_ask, first_unsent, data_ask, next_event, step_for, asked_at, join_heard_ask, piece_of, piece_ask}
use Rattle.world_laws.proofs.Words.{place_of_fin, data_fin_of, fin_ask, is_clash, mapping_ask, item_ask, item_of, fell_ask, plain_ack_ask, breaks_by_ack}
use Rattle.world_laws.proofs.Words.{peer_key_ask, opened_ask, notice_ask, sends, rate_ask, item_at, in_map, in_set, Every, ActorCrew, Always, PathPlan, Start}
use Rattle.world_laws.proofs.Words.{path_begins, opened_world, greatest, world_run, if_so}
use Rattle.fallback_state.specs.Table.{stays, breaks}
use Rattle.control_book.specs.Replies as control
use Rattle.control_book.specs.Steps as controlling
use Rattle.path_core.specs.declared.events.Event.{Event}
use Rattle.world_laws.proofs.Joins.Asleep.{is_idle, AreIdle, IsAsleep, begins_nothing, takes_asleep, begins_asleep, first_asleep}
use Rattle.world_laws.proofs.Worlds.CastLifting.{Has, turns_have}
use Rattle.world_laws.proofs.Worlds.Casts.{Walker, Cast, world_of, walking, walked, after_a, after_b, after_path, Every-put, walks_on, next_cast, first_cast, first_fare, opened_is, new_walker, walker_there}
use Rattle.world_laws.proofs.Falls.ClearStays.{takes_clear, next_clear}
use Rattle.world_laws.proofs.Weaving.Journals.{books_after}
use Rattle.world_laws.proofs.Lanes.OfAWorld.{FirstIsClear, IsClearAt, SureIsClear}
use Rattle.world_laws.proofs.Keys.DssIsTheSign.{IsLed, Leads, IsUnclear, LeadsWell, unled, takes_leads, begins_lead, next_leads, unheard}
use Rattle.world_laws.proofs.Lanes.Settling.{stands_anyway}
use Rattle.world_laws.proofs.Falls.FailedChecks.{fail_asks_so, subflow_acks_so}

-- ---- calls by which A's side doesn't become sure

abbrev pub IsOfB : Side → Type 0
IsOfB A = ⊥
IsOfB B = Unit {0}

-- no sign of Multipath TCP that A hears
abbrev pub IsMildEvent : FallEvent → Side → Type 0
IsMildEvent FallEvent.MappingHeard s = IsOfB s
IsMildEvent FallEvent.AckHeard s = IsOfB s
IsMildEvent _ s = Unit {0}

abbrev pub IsMildCall : ControlCall → Side → Type 0
IsMildCall (ControlCall.Fell path event) s = IsMildEvent event s
IsMildCall _ s = Unit {0}

abbrev IsMild : Ask → Type 0
IsMild (Ask.Control s call) = IsMildCall call s
IsMild _ = Unit {0}

either_mode : (m : Mode) (b : Bool) (c d : Control) → c.fall.mode ≡ m → d.fall.mode ≡ m → (if b then c else d).fall.mode ≡ m
either_mode m true c d x y = x
either_mode m false c d x y = y

notice_mode : (n : Notice) (path : ℕ) (c : Control) → (controlling.after_notice n path c).fall.mode ≡ c.fall.mode
notice_mode = elim [ Notice.Withdraw id ↦ λ path c. refl | _ ↦ λ path c. refl ]

-- keys that are heard confirm the side, and leave its mode
keys_mode : (fall : Fall) → (fall_keys fall).0.mode ≡ fall.mode
keys_mode fall = elim (is_identity fall.mode) as (λ b. (if b then stays fall else (record fall { confirmed = true }, Stay)).0.mode ≡ fall.mode)
    [ true ↦ refl | false ↦ refl ]

-- a side that is sure now was sure before
abbrev WasSure : Fall → Fall → Type 0
WasSure f g = is_sure g.mode ≡ true → is_sure f.mode ≡ true

row_sure : (b : Bool) (f : Fall) (x y : Fall × Verdict) → WasSure f x.0 → WasSure f y.0 → WasSure f (if b then x else y).0
row_sure = elim [ true ↦ λ f x y p q. p | false ↦ λ f x y p q. q ]

receiving_unsure : (m : Mode) → is_sure (with_infinite_receive m) ≡ true → ⊥
receiving_unsure = elim [ Mode.Starting ↦ λ is. false≢true is | _ ↦ λ is. false≢true is ]

sending_unsure : (m : Mode) → is_sure (with_infinite_send m) ≡ true → ⊥
sending_unsure = elim [ Mode.Starting ↦ λ is. false≢true is | _ ↦ λ is. false≢true is ]

plain_sure : (f : Fall) → WasSure f (fall_plain f).0
plain_sure f = row_sure (is_starting f.mode && not f.joined) f (goes Mode.Identity f) (stays f) (λ is. absurd (false≢true is)) (λ is. is)

event_sure : (path : ℕ) (sole : Bool) (event : FallEvent) (f : Fall) → IsMildEvent event A → WasSure f (fall_step f path sole event).0
event_sure path sole FallEvent.MappingHeard f mild = absurd mild
event_sure path sole FallEvent.AckHeard f mild = absurd mild
event_sure path sole FallEvent.PlainHandshake f mild = plain_sure f
event_sure path sole FallEvent.PlainData f mild = plain_sure f
event_sure path sole FallEvent.PlainAck f mild = plain_sure f
event_sure path sole FallEvent.InfiniteHeard f mild =
    row_sure (not (reads_mappings f.mode)) f (stays f) _ (λ is. is)
    (row_sure (sole && is_failed_path f.failed path) f (goes (with_infinite_receive f.mode) f) _ (λ is. absurd (receiving_unsure f.mode is))
    (row_sure (writes_mappings f.mode && not f.joined && is_none f.failed) f (goes Mode.Identity f) (breaks 1 f) (λ is. absurd (false≢true is)) (λ is. is)))
event_sure path sole FallEvent.KeysHeard f mild = row_sure (is_identity f.mode) f (stays f) (record f { confirmed = true }, Stay) (λ is. is) (λ is. is)
event_sure path sole FallEvent.CheckFailed f mild =
    row_sure (not (reads_mappings f.mode)) f (stays f) _ (λ is. is) (row_sure sole f (record f { failed = Some path }, SendFail) (breaks 6 f) (λ is. is) (λ is. is))
event_sure path sole (FallEvent.FailHeard contiguous) f mild =
    row_sure (not (writes_mappings f.mode)) f (stays f) _ (λ is. is) (row_sure (sole && contiguous) f (goes (with_infinite_send f.mode) f) (breaks 1 f) (λ is. absurd (sending_unsure f.mode is)) (λ is. is))
event_sure path sole FallEvent.Stop f mild = λ is. absurd (false≢true is)

abbrev pub IsNoEvent : ControlCall → Type 0
IsNoEvent (ControlCall.Fell path event) = ⊥
IsNoEvent ControlCall.FastClose = ⊥
IsNoEvent (ControlCall.FastHeard key) = ⊥
IsNoEvent _ = Unit {0}

pub call_mode : (c : Control) (call : ControlCall) → IsNoEvent call → IsMildCall call A → (controlling.after c call).fall.mode ≡ c.fall.mode
call_mode c (ControlCall.Look path) none mild = notice_mode (control.notice_on c path) path c
call_mode c (ControlCall.Keys own other) none mild = either_mode c.fall.mode (own == c.keys.own) _ _ (keys_mode c.fall) refl
call_mode c (ControlCall.Fell path event) none mild = absurd none
call_mode c (ControlCall.JoinBegin path) none mild = either_mode c.fall.mode _ _ _ refl refl
call_mode c (ControlCall.JoinHeard path token) none mild = either_mode c.fall.mode _ _ _ refl refl
call_mode c (ControlCall.Withdraw id) none mild = either_mode c.fall.mode _ _ _ refl refl
call_mode c (ControlCall.Echoed id) none mild = either_mode c.fall.mode _ _ _ refl refl
call_mode c (ControlCall.Removed id) none mild = either_mode c.fall.mode _ _ _ refl refl
call_mode c ControlCall.FastClose none mild = absurd none
call_mode c (ControlCall.FastHeard key) none mild = absurd none
call_mode c _ none mild = refl

call_sure : (c : Control) (call : ControlCall) → IsMildCall call A → WasSure c.fall (controlling.after c call).fall
call_sure c (ControlCall.Fell path event) mild = event_sure path (sole_path c.paths path) event c.fall mild
call_sure c ControlCall.FastClose mild = λ is. absurd (false≢true is)
call_sure c (ControlCall.FastHeard key) mild = elim (key == c.keys.own) as (λ b. WasSure c.fall (if b then controlling.after_event 0 false FallEvent.Stop c else c).fall)
    [ true ↦ λ is. absurd (false≢true is) | false ↦ λ is. is ]
call_sure c call mild = λ is. ap is_sure (sym (call_mode c call tt mild)) ∙ is

mild_sure : (six : SixBooks) (x : Ask) → IsMild x → WasSure six.control_a.fall (after_ask x six).control_a.fall
mild_sure six (Ask.Control A call) mild = call_sure six.control_a call mild
mild_sure six (Ask.Control B call) mild = λ is. is
mild_sure six (Ask.Send A call) mild = λ is. is
mild_sure six (Ask.Send B call) mild = λ is. is
mild_sure six (Ask.Reassembly A call) mild = λ is. is
mild_sure six (Ask.Reassembly B call) mild = λ is. is
mild_sure six (Ask.Local step) mild = λ is. is

app_mild : (d : AppDuty) (a : AppState) → IsMild (app_ask d a)
app_mild = elim [ AppDuty.FastClose ↦ λ a. tt | _ ↦ λ a. tt ]

-- ---- what a path asks while A's end isn't clear

module _ (p : PathState Carried) where
  data_mild : (s : Side) (o : Option Record) → IsMild (data_ask values s o p)
  data_mild s None = tt
  data_mild s (Some r) = tt

  step_mild : (o : Option Event) → IsMild (step_for (path_of p) o)
  step_mild None = tt
  step_mild (Some (Event.Joins tick)) = tt
  step_mild _ = tt

  key_mild : (s : Side) (o : Option ℕ) → IsMild (peer_key_ask s o p)
  key_mild s None = tt
  key_mild s (Some key) = tt

  opened_mild : (s : Side) (o : Option KeyPair) → IsMild (opened_ask s o p)
  opened_mild s None = tt
  opened_mild s (Some keys) = tt

  join_mild : (s : Side) (o : Option JoinSyn) → IsMild (join_heard_ask s o p)
  join_mild s None = tt
  join_mild s (Some asked) = tt

  break_mild : (s : Side) (reason : ℕ) → IsMild (break_ask values s reason p)
  break_mild s reason = if_so IsMild (end_at s p).treated.asked (Ask.Reassembly s ReassemblyCall.AckOut) (sends values s (reset_of s (Some reason) p) p) tt tt

  piece_mild : (s : Side) (o : Option Piece) → IsMild (piece_ask s o)
  piece_mild s None = tt
  piece_mild s (Some piece) = tt

  fin_mild : (s : Side) (o : Option ℕ) → IsMild (fin_ask s o)
  fin_mild s None = tt
  fin_mild s (Some place) = tt

  rate_mild : (s : Side) (o : Option Pending) → IsMild (rate_ask s o p)
  rate_mild s None = tt
  rate_mild s (Some pending) = tt

  plain_ack_mild : (s : Side) → IsMild (plain_ack_ask values s p)
  plain_ack_mild s = if_so IsMild (breaks_by_ack p.profile (end_at s p)) (break_ask values s 6 p) (fell_ask s FallEvent.PlainAck p) (break_mild s 6) tt

  mapping_b : IsMild (mapping_ask values B p)
  mapping_b = if_so IsMild (is_clash p.b) (break_ask values B 1 p) (fell_ask B FallEvent.MappingHeard p) (break_mild B 1) tt

  note_mild : (s : Side) (notice : PeerNotice) → IsMild (notice_ask s notice p)
  note_mild s (PeerNotice.AddAddr id address port hmac) = tt
  note_mild s _ = tt

  item_b : (o : Option Heard) → IsMild (item_ask values B o p)
  item_b (Some (Heard.Mapping fin)) = mapping_b
  item_b (Some (Heard.Notice notice)) = note_mild B notice
  item_b (Some Heard.Fail) = fail_asks_so IsMild B p tt tt
  item_b _ = tt

  -- a sign that A hears comes behind a DSS
  led_by : (index : ℕ) (ds : List Duty) (item : Heard) → Leads (Duty.Step (StepDuty.Heard A index) ∷ ds) p → p.a.modes.clear ≡ false → p.a.modes.identity ≡ false → item_at index p.a.treated.items ≡ Some item → IsLed false item
  led_by index ds item h unclear above is = ⊎_elim
      (λ is_clear. absurd (both_ways p.a.modes.clear unclear is_clear))
      (λ (u : IsUnclear (Duty.Step (StepDuty.Heard A index) ∷ ds) p). unled u.n p.a.treated.items item h.led (unheard p u.n above u.none) (subst (λ n. item_at n p.a.treated.items ≡ Some item) u.follows.0 is))
      h.clear

  item_a : (index : ℕ) (ds : List Duty) → p.a.modes.identity ≡ false → (o : Option Heard) → item_at index p.a.treated.items ≡ o → Leads (Duty.Step (StepDuty.Heard A index) ∷ ds) p → p.a.modes.clear ≡ false → IsMild (item_ask values A o p)
  item_a index ds above (Some (Heard.Mapping fin)) is h unclear = absurd (false≢true (led_by index ds (Heard.Mapping fin) h unclear above is))
  item_a index ds above (Some (Heard.DataFin place)) is h unclear = absurd (false≢true (led_by index ds (Heard.DataFin place) h unclear above is))
  item_a index ds above (Some (Heard.Notice notice)) is h unclear = note_mild A notice
  item_a index ds above (Some Heard.Fail) is h unclear = fail_asks_so IsMild A p tt tt
  item_a index ds above _ is h unclear = tt

  item_mild : (index : ℕ) (ds : List Duty) → Leads (Duty.Step (StepDuty.Heard A index) ∷ ds) p → p.a.modes.clear ≡ false → IsMild (item_ask values A (item_of index p.a) p)
  item_mild index ds h unclear = (elim p.a.modes.identity as (λ b. p.a.modes.identity ≡ b → IsMild (item_ask values A (if b then None else item_at index p.a.treated.items) p))
      [ true ↦ λ plain. tt | false ↦ λ above. item_a index ds above (item_at index p.a.treated.items) refl h unclear ]) refl

  first_mild : (d : Duty) (ds : List Duty) → Leads (d ∷ ds) p → p.a.modes.clear ≡ false → IsMild (ask_for values d p)
  first_mild (Duty.Send (SendDuty.Update s)) ds h unclear = tt
  first_mild (Duty.Step (StepDuty.Data s)) ds h unclear = data_mild s (first_unsent (end_at s p))
  first_mild (Duty.Silent (SilentDuty.Timer s)) ds h unclear = tt
  first_mild (Duty.Step StepDuty.Events) ds h unclear = step_mild (next_event p)
  first_mild (Duty.Ask (AskDuty.PeerKey s)) ds h unclear = key_mild s (key_heard (end_at s p).treated.items)
  first_mild (Duty.Ask (AskDuty.JoinHeard s)) ds h unclear = join_mild s (asked_at s p)
  first_mild (Duty.Ask (AskDuty.Opened s)) ds h unclear = opened_mild s (keys_heard (end_at s p).treated.items)
  first_mild (Duty.Step (StepDuty.Heard A index)) ds h unclear = item_mild index ds h unclear
  first_mild (Duty.Step (StepDuty.Heard B index)) ds h unclear = item_b (item_of index p.b)
  first_mild (Duty.Ask (AskDuty.AckHeard A)) ds h unclear = ⊎_elim (λ is. absurd (both_ways p.a.modes.clear unclear is)) (λ (u : IsUnclear (Duty.Ask (AskDuty.AckHeard A) ∷ ds) p). absurd u.follows) h.clear
  first_mild (Duty.Ask (AskDuty.AckHeard B)) ds h unclear = tt
  first_mild (Duty.Step (StepDuty.PlainAck s)) ds h unclear = plain_ack_mild s
  first_mild (Duty.Ask (AskDuty.SubflowAck s)) ds h unclear = subflow_acks_so IsMild s (end_at s p) tt (λ next. tt)
  first_mild (Duty.Step (StepDuty.Unmapped s)) ds h unclear = break_mild s 6
  first_mild (Duty.Ask (AskDuty.SubflowFin s)) ds h unclear = fin_mild s (place_of_fin (end_at s p))
  first_mild (Duty.Ask (AskDuty.Edge s)) ds h unclear = piece_mild s (piece_of s p)
  first_mild (Duty.Ask (AskDuty.HeardFin s index)) ds h unclear = fin_mild s (data_fin_of index (end_at s p))
  first_mild (Duty.Ask (AskDuty.Rate s)) ds h unclear = rate_mild s (end_at s p).tcp.congestion.pending
  first_mild _ ds h unclear = tt

  -- and one that sleeps
  idle_mild : (d : Duty) → is_idle d ≡ true → IsMild (ask_for values d p)
  idle_mild (Duty.Ask AskDuty.JoinAgain) idle = tt
  idle_mild (Duty.Step (StepDuty.Look s)) idle = tt
  idle_mild (Duty.Ask (AskDuty.Window s)) idle = tt
  idle_mild (Duty.Send (SendDuty.Update s)) idle = tt
  idle_mild (Duty.Send (SendDuty.FastClose s)) idle = tt
  idle_mild (Duty.Send (SendDuty.Notice s)) idle = tt
  idle_mild (Duty.Send (SendDuty.Syn s)) idle = tt
  idle_mild (Duty.Step (StepDuty.Data s)) idle = data_mild s (first_unsent (end_at s p))
  idle_mild (Duty.Send (SendDuty.DataFin s)) idle = tt
  idle_mild (Duty.Send (SendDuty.Fin s)) idle = tt
  idle_mild (Duty.Silent (SilentDuty.Timer s)) idle = tt
  idle_mild (Duty.Step StepDuty.Events) idle = step_mild (next_event p)
  idle_mild (Duty.Ask (AskDuty.Leave s)) idle = tt
  idle_mild (Duty.Ask (AskDuty.LeaveNoted s)) idle = tt
  idle_mild (Duty.Send (SendDuty.ResetNoted s)) idle = tt
  idle_mild (Duty.Ask (AskDuty.Announce s id)) idle = tt
  idle_mild (Duty.Ask (AskDuty.Withdraw s id)) idle = tt
  idle_mild (Duty.Ask (AskDuty.Dead s)) idle = tt
  idle_mild Duty.End idle = tt
  idle_mild _ idle = absurd (false≢true idle)

-- ---- the world

settled_first : (ds : List Duty) (p : PathState Carried) → IsSettled (settled ds p)
settled_first [] p = tt
settled_first (d ∷ ds) p = (elim (stands d p) as (λ b. stands d p ≡ b → IsSettled (settled ds (passed d p)) → IsSettled (if b then with_agenda (d ∷ ds) p else settled ds (passed d p)))
    [ true ↦ λ is rest. stands_anyway d (d ∷ ds) p ∙ is | false ↦ λ is rest. rest ]) refl (settled_first ds (passed d p))

record Surely (t : Cast Carried) : Type 0 where
  settled : Every (λ x. IsSettled x.path) t.paths
  leads : Every (λ x. LeadsWell x.path) t.paths
  sure : is_sure (books_in t.books).control_a.fall.mode ≡ true → FirstIsClear t.paths
  others : (n : ℕ) (x : Walker Carried) → slice_get t.paths (suc n) ≡ Some x → IsAsleep x.path ⊎ FirstIsClear t.paths

module _ (t : Cast Carried) (number : ℕ) (x : Walker Carried) (there : slice_get t.paths number ≡ Some x) (d : Duty) (ds : List Duty) (agenda : x.path.agenda ≡ d ∷ ds) (h : Surely t) where
  abbrev six : SixBooks
  six = books_in t.books

  abbrev ask : Ask
  ask = ask_for values d x.path

  abbrev y : Walker Carried
  y = walked values ask t.books x

  -- path 0 stays clear
  first_stays : FirstIsClear t.paths → FirstIsClear (set t.paths number y)
  first_stays clear z at = ⊎_elim
      (λ same. subst (λ (w : Walker Carried). w.path.a.modes.clear ≡ true) same.1
      ((takes_clear values (reply_of six ask) x.path).a.0 (clear x (subst (λ n. slice_get t.paths n ≡ Some x) (sym same.0) there))))
      (λ other. clear z other.1)
      (in_set t.paths number y 0 z at)

  own_clear : number ≡ 0 → x.path.a.modes.clear ≡ true → FirstIsClear (set t.paths number y)
  own_clear first clear z at = ⊎_elim
      (λ same. subst (λ (w : Walker Carried). w.path.a.modes.clear ≡ true) same.1 ((takes_clear values (reply_of six ask) x.path).a.0 clear))
      (λ other. absurd (other.0 (sym first)))
      (in_set t.paths number y 0 z at)

  settled_here : IsSettled x.path
  settled_here = h.settled.each number x there

  leads_here : Leads (d ∷ ds) x.path
  leads_here = subst (λ xs. Leads xs x.path) agenda (h.leads.each number x there)

  asleep_mild : IsAsleep x.path → IsMild ask
  asleep_mild sleeps = idle_mild x.path d (and_parts (is_idle d) (list_all is_idle ds) (subst AreIdle agenda sleeps.idle)).0

  clear_or_mild : (n : ℕ) → number ≡ n → FirstIsClear (set t.paths number y) ⊎ IsMild ask
  clear_or_mild zero is = (elim x.path.a.modes.clear as (λ b. x.path.a.modes.clear ≡ b → FirstIsClear (set t.paths number y) ⊎ IsMild ask)
      [ true ↦ λ clear. inl (own_clear is clear) | false ↦ λ unclear. inr (first_mild x.path d ds leads_here unclear) ]) refl
  clear_or_mild (suc n) is = ⊎_elim
      (λ sleeps. inr (asleep_mild sleeps))
      (λ clear. inl (first_stays clear))
      (h.others n x (subst (λ m. slice_get t.paths m ≡ Some x) is there))

  after_sure : is_sure (books_in (after_path values number x ask t).books).control_a.fall.mode ≡ true → FirstIsClear (set t.paths number y)
  after_sure is = ⊎_elim
      (λ clear. clear)
      (λ mild.
      first_stays (h.sure (mild_sure six ask mild (subst (λ (books : SixBooks). is_sure books.control_a.fall.mode ≡ true) (books_after ask x.at.pass t.books) is))))
      (clear_or_mild number refl)

  asleep_after : IsAsleep x.path → IsAsleep y.path ⊎ FirstIsClear (set t.paths number y)
  asleep_after sleeps = (elim (is_sure six.control_a.fall.mode) as (λ b. is_sure six.control_a.fall.mode ≡ b → IsAsleep y.path ⊎ FirstIsClear (set t.paths number y)) [
    | true ↦ λ is. inr (first_stays (h.sure is))
    | false ↦ λ is. let none = begins_nothing values six ask x.path is (ap (λ xs. asks_first values xs x.path) agenda) sleeps in inl (takes_asleep values (reply_of six ask) x.path none settled_here sleeps)
  ]) refl

  others_after : (n : ℕ) (z : Walker Carried) → slice_get (set t.paths number y) (suc n) ≡ Some z → IsAsleep z.path ⊎ FirstIsClear (set t.paths number y)
  others_after n z at = ⊎_elim
      (λ same. subst (λ (w : Walker Carried). IsAsleep w.path ⊎ FirstIsClear (set t.paths number y)) same.1
      (⊎_elim asleep_after (λ clear. inr (first_stays clear)) (h.others n x (subst (λ m. slice_get t.paths m ≡ Some x) (sym same.0) there))))
      (λ other. ⊎_elim (λ sleeps. inl sleeps) (λ clear. inr (first_stays clear)) (h.others n z other.1))
      (in_set t.paths number y (suc n) z at)

  path_surely : Surely (after_path values number x ask t)
  path_surely = record {
    settled = Every-put number y (settled_first (answers values x.path.agenda (reply_of six ask) x.path).agenda (answers values x.path.agenda (reply_of six ask) x.path)) h.settled;
    leads = Every-put number y (takes_leads values (reply_of six ask) x.path settled_here (h.leads.each number x there)) h.leads;
    sure = after_sure;
    others = others_after;
  }

app_surely_a : (t : Cast Carried) (d : AppDuty) → Surely t → Surely (after_a (app_ask d t.a) t)
app_surely_a t d h = record {
  settled = h.settled;
  leads = h.leads;
  sure = λ is. h.sure (mild_sure (books_in t.books) (app_ask d t.a) (app_mild d t.a) (subst (λ (books : SixBooks). is_sure books.control_a.fall.mode ≡ true) (books_after (app_ask d t.a) t.at_a.pass t.books) is));
  others = h.others;
}

app_surely_b : (t : Cast Carried) (d : AppDuty) → Surely t → Surely (after_b (app_ask d t.b) t)
app_surely_b t d h = record {
  settled = h.settled;
  leads = h.leads;
  sure = λ is. h.sure (mild_sure (books_in t.books) (app_ask d t.b) (app_mild d t.b) (subst (λ (books : SixBooks). is_sure books.control_a.fall.mode ≡ true) (books_after (app_ask d t.b) t.at_b.pass t.books) is));
  others = h.others;
}

next_surely : (t : Cast Carried) → Surely t → Surely (next_cast t)
next_surely t h = record {
  settled = record {
    each = λ i y at.
        let found = in_map on t.paths i y at in
        subst (λ (w : Walker Carried). IsSettled w.path) found.2 (settled_first start_of_turn (with_agenda start_of_turn (record found.0.path { clock = found.0.path.until; until = found.0.path.until + 100 })));
  };
  leads = record { each = λ i y at. let found = in_map on t.paths i y at in subst (λ (w : Walker Carried). LeadsWell w.path) found.2 (next_leads found.0.path (h.leads.each i found.0 found.1)) };
  sure = λ is. first_on (h.sure is);
  others = λ n y at.
      let found = in_map on t.paths (suc n) y at in
      ⊎_elim (λ sleeps. inl (subst (λ (w : Walker Carried). IsAsleep w.path) found.2 (begins_asleep found.0.path sleeps))) (λ clear. inr (first_on clear)) (h.others n found.0 found.1);
}
  where
    on : Walker Carried → Walker Carried
    on = walks_on (greatest 0 (world_of t).crew)

    first_on : FirstIsClear t.paths → FirstIsClear (map on t.paths)
    first_on clear z at = let found = in_map on t.paths 0 z at in subst (λ (w : Walker Carried). w.path.a.modes.clear ≡ true) found.2 ((next_clear found.0.path).a.0 (clear found.0 found.1))

opened_surely : (start : Start) → Surely (first_cast start)
opened_surely start = record {
  settled = record { each = λ i x there. let found = walker_there start 0 i i start.paths x (omega arith) there in subst (λ (w : Walker Carried). IsSettled w.path) (sym found.2) (new_settled i found.0) };
  leads = record { each = λ i x there. let found = walker_there start 0 i i start.paths x (omega arith) there in subst (λ (w : Walker Carried). LeadsWell w.path) (sym found.2) (new_leads i found.0) };
  sure = λ is. absurd (false≢true is);
  others = λ n x there.
      let found = walker_there start 0 (suc n) (suc n) start.paths x (omega arith) there in
      inl (subst (λ (w : Walker Carried). IsAsleep w.path) (sym found.2) (first_asleep (path_begins start (suc n) found.0) start.lines found.0.join refl));
}
  where
    new_settled : (number : ℕ) (plan : PathPlan) → IsSettled (new_walker {C = Carried} start number plan).path
    new_settled number plan = settled_first start_of_turn (with_agenda start_of_turn (waiting_path (path_begins start number plan) start.lines))

    new_leads : (number : ℕ) (plan : PathPlan) → LeadsWell (new_walker {C = Carried} start number plan).path
    new_leads number plan =
        begins_lead (waiting_path (path_begins start number plan) start.lines) (record { led = tt; clear = inr (record { n = 0; none = inr tt; follows = tt }) })

-- at every moment
pub sure_is_clear : Always values (λ start w. SureIsClear w)
sure_is_clear start turns =
    let run : Has start Surely (world_run values turns (opened_world start)) =
    turns_have values start Surely
    (record {
      a = λ t f d ds is h. app_surely_a t d h;
      b = λ t f d ds is h. app_surely_b t d h;
      path = λ t f number x there d ds is h. path_surely t number x there d ds is h;
    })
    (λ t f h. next_surely t h) turns (opened_world start)
    (record { cast = first_cast start; is = opened_is start; fare = first_fare start; holds = opened_surely start }) in
    subst SureIsClear (sym run.is) (λ is c at. first_clear run.cast (run.holds.sure is) c at)
  where
    first_clear : (t : Cast Carried) → FirstIsClear t.paths → (c : ActorCrew Carried) → slice_get (world_of t).crew 2 ≡ Some c → IsClearAt c.member
    first_clear t clear c at = let found = in_map walking t.paths 0 c at in subst (λ (d : ActorCrew Carried). IsClearAt d.member) found.2 (clear found.0 found.1)
