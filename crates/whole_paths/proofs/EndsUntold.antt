-- A's side learns where B's stream ends only where A's end of path 0 may send a DSS: until then no other path does anything.
use Rattle.std.proofs.Common.{◌≡◌, refl, sym, subst, ap, ◌∙◌, ⊎_elim, ℕ, zero, suc, Bool, true, false, true≢false, nat_lt, if◌then◌else◌, Option, Some, None, is_some, List, [], ◌∷◌, map}
use Rattle.std.specs.List.{list_all, slice_get}
use Rattle.std.proofs.lemmas.Option.{same_Some}
use Rattle.stream_lanes.proofs.Lists.{in_map, in_set}
use Rattle.sides.specs.declared.side.Side.{Side}
use Rattle.sides.specs.declared.side.Side.TheVariants.{A, B}
use Rattle.reassembly_book.specs.State.{Arriving}
use Rattle.reassembly_book.specs.Steps.{after_reading, is_taken, places_after}
use Rattle.reassembly_book.specs.Steps as arriving
use Rattle.reassembly_book.specs.declared.call.ReassemblyCall.{ReassemblyCall}
use Rattle.reassembly_book.specs.declared.call.ReassemblyCall.TheVariants as reassembly_calls
use Rattle.actor_desk.specs.Books.{books_in}
use Rattle.actor_desk.specs.declared.ask.Ask.{Ask}
use Rattle.actor_desk.specs.declared.ask.Ask.TheVariants as asks
use Rattle.path_core.specs.State.{PathState}
use Rattle.actor_desk.specs.Books.{StampedBooks, after_entry}
use Rattle.actor_desk.specs.Desk.{SixBooks, after_ask}
use Rattle.actor_desk.specs.declared.ask.Reply.{Reply}
use Rattle.stream_apps.specs.AppSteps.{app_asks_first, app_asks_of}
use Rattle.path_core.specs.DataFin.{place_passed}
use Rattle.path_core.specs.End.{PathEnd}
use Rattle.path_core.specs.Steps.{asks_first, asks_of, next_round, takes}
use Rattle.world_laws.specs.StampedBooks.{answer_to}
use Rattle.world_laws.specs.Actors.{member_next, member_takes}
use Rattle.world_laws.proofs.Falls.ClearStays.{next_clear, takes_clear, unclear_before}
use Rattle.whole_paths.proofs.ByTurns.{Of, each_moment}
use Rattle.whole_paths.proofs.LoneFirst.{others_sleep_before}
use Rattle.world_laws.proofs.Joins.Asleep.{AreIdle, IsAsleep, is_idle}
use Rattle.std.proofs.lemmas.Bool.{and_parts, both_ways}
use Rattle.path_core.specs.Values.{Carried, values}
use Rattle.world_laws.specs.declared.member.Member.TheVariants.{App, Path}
use Rattle.world_laws.specs.Actors.{Actor, ActorCrew, member_asks}
use Rattle.world_laws.specs.Openings.{Start, opened_world}
use Rattle.world_laws.specs.Promises.{arrived_at}
use Rattle.world_laws.specs.RoundDone.{reached}
use Rattle.world_laws.specs.Worlds.{Turn, WorldState, asked, begins, crew_after, greatest}
use Rattle.world_laws.proofs.Weaving.Journals.{books_after}
use Rattle.world_laws.proofs.Falls.FailedChecks.{fail_asks_so, subflow_acks_so}
use Rattle.path_core.specs.Modes.{fin_place}
use Rattle.whole_paths.specs.Clear.{AIsToldNoEndBefore, HearsNoEnd}
use Rattle.whole_paths.specs.Finish.{IsPathAt}
use Rattle.whole_paths.specs.Mild.{EndsGoByMappings, IsMildStart}
use Rattle.whole_paths.specs.AsFar.{IsActorAsFar}
use Rattle.whole_paths.proofs.EndsHeard.{a_hears_no_end_before}
use Rattle.whole_paths.proofs.GoesOn.{goes_on_so}
use Rattle.whole_paths.proofs.Mild.{mapping_is_kept}
use Rattle.whole_paths.proofs.OpenCourses.{IsFirstPath, each_first}
use Rattle.stream_apps.specs.declared.duty.AppDuty.{AppDuty}
use Rattle.stream_apps.specs.Apps.{AppState}
use Rattle.stream_apps.specs.AppSteps.{app_ask}
use Rattle.path_agenda.specs.declared.duty.AskDuty.{AskDuty}
use Rattle.path_agenda.specs.declared.duty.Duty.{Duty}
use Rattle.path_agenda.specs.declared.duty.SendDuty.{SendDuty}
use Rattle.path_agenda.specs.declared.duty.SilentDuty.{SilentDuty}
use Rattle.path_agenda.specs.declared.duty.StepDuty.{StepDuty}
use Rattle.path_core.specs.declared.events.Event.{Event}
use Rattle.path_agenda.specs.declared.heard.Heard.{Heard}
use Rattle.join_handshake.specs.declared.hearing.JoinSyn.{JoinSyn}
use Rattle.path_agenda.specs.declared.keys.KeyPair.{KeyPair}
use Rattle.path_agenda.specs.declared.notice.PeerNotice.{PeerNotice}
use Rattle.loss_recovery.specs.declared.windows.Pending.{Pending}
use Rattle.path_store.specs.Passing.{Piece}
use Rattle.subflow_send.specs.Records.{Record}
use Rattle.fallback_state.specs.declared.fall.Event.{Event as FallEvent}
use Rattle.path_core.specs.Duties.{ask_for}
use Rattle.path_core.specs.MpJoin.{asked_at, join_heard_ask}
use Rattle.path_core.specs.Breaking.{break_ask, reset_of}
use Rattle.path_core.specs.Fallback.{breaks_by_ack, fell_ask, plain_ack_ask}
use Rattle.path_core.specs.Emission.{data_ask, first_unsent}
use Rattle.path_core.specs.DataFin.{data_fin_of, fin_ask, place_of_fin}
use Rattle.path_core.specs.State.{end_at, path_of}
use Rattle.path_core.specs.DssIn.{is_clash, mapping_ask}
use Rattle.path_core.specs.Treating.{item_ask, item_of}
use Rattle.path_core.specs.Choices.{item_at}
use Rattle.path_agenda.specs.Items.{key_heard, keys_heard}
use Rattle.path_core.specs.Events.{next_event, step_for}
use Rattle.path_core.specs.Addresses.{notice_ask}
use Rattle.path_core.specs.MpCapable.{opened_ask, peer_key_ask}
use Rattle.path_core.specs.Deliver.{piece_ask, piece_of}
use Rattle.path_core.specs.Rate.{rate_ask}
use Rattle.path_core.specs.Handover.{sends}
use Rattle.stamped_book.specs.declared.stamped.Pass.{Pass}

-- ---- the book

-- the call tells A's side no end
abbrev Untold : Ask → Type 0
Untold (asks.Reassembly A (reassembly_calls.Fin place)) = ⊥
Untold _ = Unit {0}

call_untold : (b : Arriving) (call : ReassemblyCall) → Untold (asks.Reassembly A call) → (arriving.after_call b call).known_end ≡ b.known_end
call_untold b (reassembly_calls.Fin place) none = absurd none
call_untold b (reassembly_calls.Place at bytes) none = elim (is_taken at bytes b) as (λ x. (if x then record b { places = places_after at bytes b } else b).known_end ≡ b.known_end) [ true ↦ refl | false ↦ refl ]
call_untold b (reassembly_calls.Read most) none = elim (is_some b.aborted) as (λ x. (if x then b else after_reading most b).known_end ≡ b.known_end) [ true ↦ refl | false ↦ refl ]
call_untold b reassembly_calls.AckOut none = refl
call_untold b (reassembly_calls.Abort by_peer) none = refl

-- ---- what is asked

if_so : (P : Ask → Type 0) (b : Bool) (x y : Ask) → P x → P y → P (if b then x else y)
if_so P true x y one other = one
if_so P false x y one other = other

-- a duty may tell A's side where the stream ends
abbrev tells_end : Duty → Bool
tells_end (Duty.Ask (AskDuty.HeardFin A index)) = true
tells_end (Duty.Ask (AskDuty.SubflowFin A)) = true
tells_end _ = false

idle_tells : (d : Duty) → is_idle d ≡ true → tells_end d ≡ false
idle_tells (Duty.Ask (AskDuty.HeardFin A index)) idle = absurd (true≢false (sym idle))
idle_tells (Duty.Ask (AskDuty.SubflowFin A)) idle = absurd (true≢false (sym idle))
idle_tells _ idle = refl

module _ (p : PathState Carried) where
  none_at : (index : ℕ) → HearsNoEnd p.a → data_fin_of index p.a ≡ None
  none_at index quiet = ap (λ (fins : List ℕ). item_at index fins) quiet.fins

  data_untold : (s : Side) (o : Option Record) → Untold (data_ask values s o p)
  data_untold s None = tt
  data_untold s (Some r) = tt

  step_untold : (o : Option Event) → Untold (step_for (path_of p) o)
  step_untold None = tt
  step_untold (Some (Event.Joins tick)) = tt
  step_untold _ = tt

  key_untold : (s : Side) (o : Option ℕ) → Untold (peer_key_ask s o p)
  key_untold s None = tt
  key_untold s (Some key) = tt

  opened_untold : (s : Side) (o : Option KeyPair) → Untold (opened_ask s o p)
  opened_untold s None = tt
  opened_untold s (Some keys) = tt

  join_untold : (s : Side) (o : Option JoinSyn) → Untold (join_heard_ask s o p)
  join_untold s None = tt
  join_untold s (Some asked) = tt

  break_untold : (s : Side) (reason : ℕ) → Untold (break_ask values s reason p)
  break_untold A reason = if_so Untold p.a.treated.asked (asks.Reassembly A reassembly_calls.AckOut) (sends values A (reset_of A (Some reason) p) p) tt tt
  break_untold B reason = if_so Untold p.b.treated.asked (asks.Reassembly B reassembly_calls.AckOut) (sends values B (reset_of B (Some reason) p) p) tt tt

  piece_untold : (s : Side) (o : Option Piece) → Untold (piece_ask s o)
  piece_untold s None = tt
  piece_untold A (Some piece) = tt
  piece_untold B (Some piece) = tt

  fin_b : (o : Option ℕ) → Untold (fin_ask B o)
  fin_b None = tt
  fin_b (Some place) = tt

  fin_a : (o : Option ℕ) → o ≡ None → Untold (fin_ask A o)
  fin_a None none = tt
  fin_a (Some place) some = cc

  rate_untold : (s : Side) (o : Option Pending) → Untold (rate_ask s o p)
  rate_untold s None = tt
  rate_untold s (Some pending) = tt

  plain_ack_untold : (s : Side) → Untold (plain_ack_ask values s p)
  plain_ack_untold s = if_so Untold (breaks_by_ack p.profile (end_at s p)) (break_ask values s 6 p) (fell_ask s FallEvent.PlainAck p) (break_untold s 6) tt

  mapping_untold : (s : Side) → Untold (mapping_ask values s p)
  mapping_untold s = if_so Untold (is_clash (end_at s p)) (break_ask values s 1 p) (fell_ask s FallEvent.MappingHeard p) (break_untold s 1) tt

  note_untold : (s : Side) (notice : PeerNotice) → Untold (notice_ask s notice p)
  note_untold s (PeerNotice.AddAddr id address port hmac) = tt
  note_untold s _ = tt

  item_untold : (s : Side) (o : Option Heard) → Untold (item_ask values s o p)
  item_untold s (Some (Heard.Mapping fin)) = mapping_untold s
  item_untold s (Some (Heard.Notice notice)) = note_untold s notice
  item_untold s (Some Heard.Fail) = fail_asks_so Untold s p tt tt
  item_untold s _ = tt

  -- but for a duty that may tell A's side an end
  first_untold : (d : Duty) → (tells_end d ≡ true → HearsNoEnd p.a × (place_of_fin p.a ≡ None)) → Untold (ask_for values d p)
  first_untold (Duty.Send (SendDuty.Update s)) quiet = tt
  first_untold (Duty.Step (StepDuty.Data s)) quiet = data_untold s (first_unsent (end_at s p))
  first_untold (Duty.Silent (SilentDuty.Timer s)) quiet = tt
  first_untold (Duty.Step StepDuty.Events) quiet = step_untold (next_event p)
  first_untold (Duty.Ask (AskDuty.Window A)) quiet = tt
  first_untold (Duty.Ask (AskDuty.Window B)) quiet = tt
  first_untold (Duty.Ask (AskDuty.PeerKey s)) quiet = key_untold s (key_heard (end_at s p).treated.items)
  first_untold (Duty.Ask (AskDuty.JoinHeard s)) quiet = join_untold s (asked_at s p)
  first_untold (Duty.Ask (AskDuty.Opened s)) quiet = opened_untold s (keys_heard (end_at s p).treated.items)
  first_untold (Duty.Step (StepDuty.Heard s index)) quiet = item_untold s (item_of index (end_at s p))
  first_untold (Duty.Step (StepDuty.PlainAck s)) quiet = plain_ack_untold s
  first_untold (Duty.Ask (AskDuty.SubflowAck s)) quiet = subflow_acks_so Untold s (end_at s p) tt (λ next. tt)
  first_untold (Duty.Step (StepDuty.Unmapped s)) quiet = break_untold s 6
  first_untold (Duty.Ask (AskDuty.SubflowFin A)) quiet = fin_a (place_of_fin p.a) (quiet refl).1
  first_untold (Duty.Ask (AskDuty.SubflowFin B)) quiet = fin_b (place_of_fin p.b)
  first_untold (Duty.Ask (AskDuty.Edge s)) quiet = piece_untold s (piece_of s p)
  first_untold (Duty.Ask (AskDuty.HeardFin A index)) quiet = fin_a (data_fin_of index p.a) (none_at index (quiet refl).0)
  first_untold (Duty.Ask (AskDuty.HeardFin B index)) quiet = fin_b (data_fin_of index p.b)
  first_untold (Duty.Ask (AskDuty.Rate s)) quiet = rate_untold s (end_at s p).tcp.congestion.pending
  first_untold (Duty.Ask (AskDuty.AckOut A)) quiet = tt
  first_untold (Duty.Ask (AskDuty.AckOut B)) quiet = tt
  first_untold (Duty.Ask (AskDuty.BreakAck A reason)) quiet = tt
  first_untold (Duty.Ask (AskDuty.BreakAck B reason)) quiet = tt
  first_untold (Duty.Ask (AskDuty.AbortReceive A)) quiet = tt
  first_untold (Duty.Ask (AskDuty.AbortReceive B)) quiet = tt
  first_untold _ quiet = tt

  path_untold : HearsNoEnd p.a × (place_of_fin p.a ≡ None) → (x : Ask) → asks_of values p ≡ Some x → Untold x
  path_untold quiet x = by p.agenda
    where
      by : (ds : List Duty) → asks_first values ds p ≡ Some x → Untold x
      by [] none = cc
      by (d ∷ ds) some = subst Untold (same_Some (ask_for values d p) x some) (first_untold d (λ is. quiet))

  -- nor does a path that sleeps
  asleep_untold : IsAsleep p → (x : Ask) → asks_of values p ≡ Some x → Untold x
  asleep_untold h x = by p.agenda h.idle
    where
      by : (ds : List Duty) → AreIdle ds → asks_first values ds p ≡ Some x → Untold x
      by [] idle none = cc
      by (d ∷ ds) idle some = subst Untold (same_Some (ask_for values d p) x some)
          (first_untold d (λ is. absurd (both_ways (tells_end d) (idle_tells d (and_parts (is_idle d) (list_all is_idle ds) idle).0) is)))

by_side : (s : Side) (call : ReassemblyCall) → Untold (asks.Reassembly A call) → Untold (asks.Reassembly s call)
by_side A call h = h
by_side B call h = tt

app_untold : (d : AppDuty) (a : AppState) → Untold (app_ask d a)
app_untold AppDuty.AbortReceive a = by_side a.side (reassembly_calls.Abort false) tt
app_untold AppDuty.Read a = by_side a.side _ tt
app_untold _ a = tt

apps_untold : (a : AppState) (x : Ask) → app_asks_of a ≡ Some x → Untold x
apps_untold a x = by a.agenda
  where
    by : (ds : List AppDuty) → app_asks_first ds a ≡ Some x → Untold x
    by [] none = cc
    by (d ∷ ds) some = subst Untold (same_Some (app_ask d a) x some) (app_untold d a)

-- the FIN stands for no end, where the peer's mappings are of pieces
place_none : (e : PathEnd) → e.modes.identity ≡ false → e.modes.peer_infinite ≡ None → place_of_fin e ≡ None
place_none e identity infinite = by e.receiving.fin_told e.tcp.fin_at
  where
    by : (told : Bool) (o : Option ℕ) → (if told then None else place_passed e.modes o e.tcp.recv.edge) ≡ None
    by true o = refl
    by false None = refl
    by false (Some position) = elim (nat_lt position e.tcp.recv.edge) as (λ b. (if b then fin_place e.modes position else None) ≡ None) [ true ↦ rw (identity, infinite) refl | false ↦ refl ]

ask_untold : (x : Ask) (six : SixBooks) → Untold x → (after_ask x six).reassembly_a.known_end ≡ six.reassembly_a.known_end
ask_untold (asks.Reassembly A call) six none = call_untold six.reassembly_a call none
ask_untold (asks.Reassembly B call) six none = refl
ask_untold (asks.Send A call) six none = refl
ask_untold (asks.Send B call) six none = refl
ask_untold (asks.Control A call) six none = refl
ask_untold (asks.Control B call) six none = refl
ask_untold (asks.Local step) six none = refl

end_stays : (x : Ask) (pass : Pass) (books : StampedBooks) → Untold x → (books_in (after_entry x pass books)).reassembly_a.known_end ≡ (books_in books).reassembly_a.known_end
end_stays x pass books none = ap (λ (six : SixBooks). six.reassembly_a.known_end) (books_after x pass books) ∙ ask_untold x (books_in books) none

-- ---- the world

-- A's side knows no end
abbrev KnowsNone : WorldState Carried → PathState Carried → Type 0
KnowsNone w p = p.a.modes.clear ≡ false → (arrived_at A w).known_end ≡ None

record Told (w : WorldState Carried) : Type 0 where
  each : (c : ActorCrew Carried) → slice_get w.crew 2 ≡ Some c → Of (KnowsNone w) c.member

is_app : (m n : Actor Carried) (a : AppState) → m ≡ App a → IsActorAsFar m n → (b : AppState) × (n ≡ App b)
is_app m (App b) a is far = (b, refl)
is_app m (Path q) a is far = absurd (subst (λ x. IsActorAsFar x (Path q)) is far)

module _ (start : Start) (mild : IsMildStart start) where
  app_at : (turns : List Turn) (i : ℕ) (first : ActorCrew Carried) (a : AppState) → slice_get (opened_world {C = Carried} start).crew i ≡ Some first → first.member ≡ App a
      → (c : ActorCrew Carried) → slice_get (reached values start turns).crew i ≡ Some c → (b : AppState) × (c.member ≡ App b)
  app_at turns i first a at is c there =
      let later = (goes_on_so values (opened_world start) turns).crew i first at in
      let same : later.0 ≡ c = same_Some later.0 c (sym later.1 ∙ there) in
      is_app first.member c.member a is (subst (λ (d : ActorCrew Carried). IsActorAsFar first.member d.member) same later.2.member)

  app_asks : (b : AppState) (m : Actor Carried) (x : Ask) → m ≡ App b → member_asks values m ≡ Some x → Untold x
  app_asks b m x is asking = apps_untold b x (sym (ap (member_asks values) is) ∙ asking)

  -- path 0's ask, where A's end may send no DSS
  path_asks : (turns : List Turn) (c : ActorCrew Carried) (p : PathState Carried) (x : Ask) → slice_get (reached values start turns).crew 2 ≡ Some c → c.member ≡ Path p → p.a.modes.clear ≡ false → member_asks values c.member ≡ Some x
      → Untold x
  path_asks turns c p x there is unclear asking =
      let here : IsPathAt 0 (reached values start turns) p = record { crew = c; there = there; is = is } in
      let kept : EndsGoByMappings p = subst (Of EndsGoByMappings) is ((mapping_is_kept start turns mild).each 2 c there) in
      let first : IsFirstPath start p = subst (Of (IsFirstPath start)) is (each_first start turns mild.plain.size c there) in
      path_untold p (a_hears_no_end_before start turns mild p here unclear, place_none p.a (kept A).identity ((kept A).peer first.first)) x (sym (ap (member_asks values) is) ∙ asking)

  other_asks : (m : Actor Carried) (x : Ask) → member_asks values m ≡ Some x → Of IsAsleep m → Untold x
  other_asks (App a) x asking h = apps_untold a x asking
  other_asks (Path p) x asking h = asleep_untold p h x asking

  -- whatever is asked then
  any_asks : (turns : List Turn) (c : ActorCrew Carried) (p : PathState Carried) → slice_get (reached values start turns).crew 2 ≡ Some c → c.member ≡ Path p → p.a.modes.clear ≡ false
      → (actor : ℕ) (d : ActorCrew Carried) (x : Ask) → slice_get (reached values start turns).crew actor ≡ Some d → member_asks values d.member ≡ Some x → Untold x
  any_asks turns c p there is unclear zero d x at asking = let found = app_at turns 0 _ _ refl refl d at in app_asks found.0 d.member x found.1 asking
  any_asks turns c p there is unclear (suc zero) d x at asking = let found = app_at turns 1 _ _ refl refl d at in app_asks found.0 d.member x found.1 asking
  any_asks turns c p there is unclear (suc (suc zero)) d x at asking =
      let same : c ≡ d = same_Some c d (sym there ∙ at) in path_asks turns c p x there is unclear (ap (λ (e : ActorCrew Carried). member_asks values e.member) same ∙ asking)
  any_asks turns c p there is unclear (suc (suc (suc n))) d x at asking =
      other_asks d.member x asking (others_sleep_before start turns mild p (record { crew = c; there = there; is = is }) unclear n d at)

  opened_told : Told (opened_world start)
  opened_told = record { each = λ c there. by c.member }
    where
      by : (m : Actor Carried) → Of (KnowsNone (opened_world start)) m
      by (App a) = tt
      by (Path p) = λ unclear. refl

  takes_told : (w : WorldState Carried) (x : Ask) (pass : Pass) (r : Reply) (m : Actor Carried) → ((p : PathState Carried) → m ≡ Path p → p.a.modes.clear ≡ false → Untold x) → Of (KnowsNone w) m
      → (crew : List (ActorCrew Carried)) → Of (KnowsNone (record { crew = crew; books = after_entry x pass w.books })) (member_takes values r m)
  takes_told w x pass r (App a) untold h crew = tt
  takes_told w x pass r (Path p) untold h crew = λ unclear.
      let before = unclear_before p.a.modes.clear (takes values r p).a.modes.clear (takes_clear values r p).a.0 unclear in end_stays x pass w.books (untold p refl before) ∙ h before

  stays_told : (w : WorldState Carried) (x : Ask) (pass : Pass) (m : Actor Carried) → ((p : PathState Carried) → m ≡ Path p → p.a.modes.clear ≡ false → Untold x) → Of (KnowsNone w) m
      → (crew : List (ActorCrew Carried)) → Of (KnowsNone (record { crew = crew; books = after_entry x pass w.books })) m
  stays_told w x pass (App a) untold h crew = tt
  stays_told w x pass (Path p) untold h crew = λ unclear. end_stays x pass w.books (untold p refl unclear) ∙ h unclear

  next_told : (w v : WorldState Carried) (m : Actor Carried) → v.books ≡ w.books → Of (KnowsNone w) m → Of (KnowsNone v) (member_next m)
  next_told w v (App a) same h = tt
  next_told w v (Path p) same h = λ unclear.
      ap (λ (books : StampedBooks). (books_in books).reassembly_a.known_end) same ∙ h (unclear_before p.a.modes.clear (next_round p).a.modes.clear (next_clear p).a.0 unclear)

  each_told : (turns : List Turn) → Told (reached values start turns)
  each_told = each_moment values start Told opened_told
      (λ turns actor c x there asking h. let w : WorldState Carried = reached values start turns in record {
        each = λ d at. ⊎_elim
            (λ here. let two : slice_get w.crew 2 ≡ Some c = ap (λ i. slice_get w.crew i) here.0 ∙ there in
            subst (λ (y : ActorCrew Carried). Of (KnowsNone (asked values actor (Some x) c w)) y.member) here.1
            (takes_told w x c.pass (answer_to w.books x) c.member (λ p is unclear. any_asks turns c p two is unclear actor c x there asking) (h.each c two) (asked values actor (Some x) c w).crew))
            (λ other. stays_told w x c.pass d.member (λ p is unclear. any_asks turns d p other.1 is unclear actor c x there asking) (h.each d other.1) (asked values actor (Some x) c w).crew)
            (in_set w.crew actor (crew_after values x w.books c) 2 d at);
      })
      (λ turns over h. let w : WorldState Carried = reached values start turns in let v : WorldState Carried = record w { crew = map (begins (greatest 0 w.crew)) w.crew } in record {
        each = λ d at.
            let found = in_map (begins (greatest 0 w.crew)) w.crew 2 d at in
            subst (λ (y : ActorCrew Carried). Of (KnowsNone v) y.member) found.2 (next_told w v found.0.member refl (h.each found.0 found.1));
      })

  told_at : (turns : List Turn) (p : PathState Carried) → IsPathAt 0 (reached values start turns) p → p.a.modes.clear ≡ false → (arrived_at A (reached values start turns)).known_end ≡ None
  told_at turns p here unclear = subst (Of (KnowsNone (reached values start turns))) here.is ((each_told turns).each here.crew here.there) unclear

pub a_is_told_no_end_before : AIsToldNoEndBefore
a_is_told_no_end_before start turns mild p here unclear = told_at start mild turns p here unclear
