-- Where no payload is altered no check fails: the octets of a mapping that are all there are those that were sent. So no control book is
-- told of a failure, and none knows of one.
use Rattle.world_laws.proofs.Words.{◌≡◌, refl, sym, ◌∙◌, ap, subst, ℕ, suc, ◌&&◌, ◌==◌, not, ⊎_elim, Bool, true, false, if◌then◌else◌, Option, Some, None, List, []}
use Rattle.world_laws.proofs.Words.{◌∷◌, ◌++◌, length, arith, is_some, or_parts, and_parts, both_ways, false≢true, or_from, same_Some, list_any, slice_get}
use Rattle.world_laws.proofs.Words.{IfSome, FallEvent, is_infinite, reads_mappings, with_infinite_send, writes_mappings, Fall, goes, fall_step, Side, A, B, JoinSyn}
use Rattle.world_laws.proofs.Words.{ControlCall, Notice, sole, Control, ReassemblyCall, Record, Pending, may_finish, EndPhase, PlainOption, PlainSegment, Fail}
use Rattle.world_laws.proofs.Words.{Piece, InfiniteMapping, Duty, SendDuty, StepDuty, AskDuty, SilentDuty, Heard, KeyPair, key_heard, keys_heard, PeerNotice}
use Rattle.world_laws.proofs.Words.{Ask, Note, books_in, SixBooks, control_of, after_ask, AppDuty, AppState, app_ask, app_asks_first, stands, ask_for}
use Rattle.world_laws.proofs.Words.{PathState, end_at, path_of, asks_first, FirstStands, IsSettled, Carried, values, reset_of, break_ask, first_unsent}
use Rattle.world_laws.proofs.Words.{data_ask, next_event, step_for, asked_at, join_heard_ask, piece_of, piece_ask, failing_mapping, place_of_fin, data_fin_of}
use Rattle.world_laws.proofs.Words.{fin_ask, is_clash, mapping_ask, item_ask, item_of, fell_ask, plain_ack_ask, breaks_by_ack, peer_key_ask, opened_ask}
use Rattle.world_laws.proofs.Words.{notice_call, Profile, sends, rate_ask, Every-map, in_map, in_set, Every, Duo, after_events, Holds, LaneHolds, Pair, AckCopy}
use Rattle.world_laws.proofs.Words.{Lane, View, any_held, App, Path, Actor, ActorCrew, member_asks, Start, opened_world, WorldState, Turn, crew_after, asked}
use Rattle.world_laws.proofs.Words.{greatest, begins, after_turn, world_run, note_of, IsPromised, IsPromisedOfOctets, if_so, notes_or}
use Rattle.world_laws.proofs.Worlds.Turns.{turn_so}
use Rattle.fallback_state.specs.Table.{stays, breaks}
use Rattle.fallback_state.proofs.Steps.{IsUnfailed, unfailed_kept}
use Rattle.control_book.specs.Replies as replying
use Rattle.control_book.specs.Steps as controlling
use Rattle.path_core.specs.declared.events.Event.{Event}
use Rattle.world_laws.specs.ChecksPass.{tells_failure, note_tells_failure, ChecksPass, is_fail, TellsNoFailure, NoFailureIsTold}
use Rattle.world_laws.proofs.Falls.FailedChecks.{fail_asks_so, subflow_acks_so}
use Rattle.world_laws.proofs.Lanes.Beginning.{each_run_shows}
use Rattle.world_laws.proofs.Lanes.OfAWorld.{plainly, plainly_free, free_run, Links, WorldShows, PathThere, duo_of, first_duo}
use Rattle.world_laws.proofs.Lanes.Placing.{failing_alters}
use Rattle.world_laws.proofs.Lanes.Showing.{OwnIs, ItemShows, OptionShows, FlightShows, PathShows, is_unfinished}
use Rattle.world_laws.proofs.Promises.Made.{run_fresh}
use Rattle.world_laws.proofs.Promises.OverOctets.{same_notes_at}
use Rattle.world_laws.proofs.Weaving.Journals.{books_after}
use Rattle.world_laws.proofs.Worlds.CastLifting.{each_actor}
use Rattle.world_laws.proofs.Worlds.Opened.{opened_actors}

-- ---- asks that tell of no failure

-- an MP_FAIL that came is harmless where no infinite mapping can be sent
abbrev EventIsHarmless : FallEvent → Type 0
EventIsHarmless FallEvent.CheckFailed = ⊥
EventIsHarmless (FallEvent.FailHeard contiguous) = contiguous ≡ false
EventIsHarmless _ = Unit {0}

abbrev CallIsHarmless : ControlCall → Type 0
CallIsHarmless (ControlCall.Fell path event) = EventIsHarmless event
CallIsHarmless _ = Unit {0}

abbrev IsHarmless : Ask → Type 0
IsHarmless (Ask.Control s call) = CallIsHarmless call
IsHarmless _ = Unit {0}

untold_event : (s : Side) (path : ℕ) (event : FallEvent) → EventIsHarmless event → tells_failure (Ask.Control s (ControlCall.Fell path event)) ≡ false
untold_event s path FallEvent.CheckFailed harmless = absurd harmless
untold_event s path _ harmless = refl

untold_call : (s : Side) (call : ControlCall) → CallIsHarmless call → tells_failure (Ask.Control s call) ≡ false
untold_call s (ControlCall.Fell path event) harmless = untold_event s path event harmless
untold_call s _ harmless = refl

untold : (x : Ask) → IsHarmless x → tells_failure x ≡ false
untold = elim [ Ask.Control s call ↦ λ harmless. untold_call s call harmless | _ ↦ λ harmless. refl ]

app_harmless : (d : AppDuty) (a : AppState) → IsHarmless (app_ask d a)
app_harmless = elim [ AppDuty.FastClose ↦ λ a. tt | _ ↦ λ a. tt ]

-- ---- a path

-- a thing that was heard is an MP_FAIL
abbrev pub is_failure : Heard → Bool
is_failure Heard.Fail = true
is_failure _ = false

-- what its first duty does comes to something, no mapping at an edge has other octets than its own, no end may send an infinite mapping, and
-- no copy has an MP_FAIL
pub record PathPasses (p : PathState Carried) : Type 0 where
  pub settled : IsSettled p
  pub sound : (s : Side) → failing_mapping p.profile (end_at s p) ≡ None
  own : (s : Side) → (end_at s p).treated.infinite_mapping ≡ None
  copies : TellsNoFailure (Path p)
  -- none heard one, or tells one
  pub heard_none : (s : Side) → list_any is_failure (end_at s p).treated.items ≡ false
  pub told_none : (s : Side) → (end_at s p).modes.failed_mapping ≡ None
  -- and each sends with mappings of pieces, or fell back; no FIN is sent where one may be
  pub mapped : (s : Side) → (end_at s p).modes.own_infinite ≡ None
  pub unfinished : (s : Side) → may_finish (end_at s p).tcp.state ≡ true → (end_at s p).tcp.send.finished ≡ false

module _ (p : PathState Carried) (h : PathPasses p) where
  step_harmless : (o : Option Event) → IsHarmless (step_for (path_of p) o)
  step_harmless None = tt
  step_harmless (Some (Event.Joins tick)) = tt
  step_harmless _ = tt

  key_harmless : (s : Side) (o : Option ℕ) → IsHarmless (peer_key_ask s o p)
  key_harmless s None = tt
  key_harmless s (Some key) = tt

  opened_harmless : (s : Side) (o : Option KeyPair) → IsHarmless (opened_ask s o p)
  opened_harmless s None = tt
  opened_harmless s (Some keys) = tt

  join_harmless : (s : Side) (o : Option JoinSyn) → IsHarmless (join_heard_ask s o p)
  join_harmless s None = tt
  join_harmless s (Some asked) = tt

  break_harmless : (s : Side) (reason : ℕ) → IsHarmless (break_ask values s reason p)
  break_harmless s reason = if_so IsHarmless (end_at s p).treated.asked (Ask.Reassembly s ReassemblyCall.AckOut) (sends values s (reset_of s (Some reason) p) p) tt tt

  mapping_harmless : (s : Side) → IsHarmless (mapping_ask values s p)
  mapping_harmless s = if_so IsHarmless (is_clash (end_at s p)) (break_ask values s 1 p) (fell_ask s FallEvent.MappingHeard p) (break_harmless s 1) tt

  plain_ack_harmless : (s : Side) → IsHarmless (plain_ack_ask values s p)
  plain_ack_harmless s = if_so IsHarmless (breaks_by_ack p.profile (end_at s p)) (break_ask values s 6 p) (fell_ask s FallEvent.PlainAck p) (break_harmless s 6) tt

  notice_harmless : (notice : PeerNotice) → CallIsHarmless (notice_call (path_of p) notice)
  notice_harmless = elim [ PeerNotice.AddAddr id address port hmac ↦ tt | _ ↦ tt ]

  item_harmless : (s : Side) (o : Option Heard) → IsHarmless (item_ask values s o p)
  item_harmless s (Some (Heard.Mapping fin)) = mapping_harmless s
  item_harmless s (Some (Heard.Notice notice)) = notice_harmless notice
  item_harmless s (Some Heard.Fail) = fail_asks_so IsHarmless s p tt refl
  item_harmless s _ = tt

  piece_harmless : (s : Side) (o : Option Piece) → IsHarmless (piece_ask s o)
  piece_harmless s None = tt
  piece_harmless s (Some piece) = tt

  fin_harmless : (s : Side) (o : Option ℕ) → IsHarmless (fin_ask s o)
  fin_harmless s None = tt
  fin_harmless s (Some place) = tt

  rate_harmless : (s : Side) (o : Option Pending) → IsHarmless (rate_ask s o p)
  rate_harmless s None = tt
  rate_harmless s (Some pending) = tt

  data_harmless : (s : Side) (o : Option Record) → IsHarmless (data_ask values s o p)
  data_harmless s None = tt
  data_harmless s (Some first) = tt

  -- the duty that tells of a failed check comes to nothing
  check_harmless : (s : Side) → stands (Duty.Ask (AskDuty.CheckFailed s)) p ≡ true → IsHarmless (ask_for values (Duty.Ask (AskDuty.CheckFailed s)) p)
  check_harmless s is =
      absurd (both_ways (is_some (failing_mapping p.profile (end_at s p))) (ap (λ o. is_some o) (h.sound s))
      (and_parts (is_some (failing_mapping p.profile (end_at s p))) (reads_mappings (end_at s p).modes.mode) is).0)

  duty_harmless : (d : Duty) → stands d p ≡ true → IsHarmless (ask_for values d p)
  duty_harmless (Duty.Step (StepDuty.Data s)) is = data_harmless s (first_unsent (end_at s p))
  duty_harmless (Duty.Step StepDuty.Events) is = step_harmless (next_event p)
  duty_harmless (Duty.Ask (AskDuty.PeerKey s)) is = key_harmless s (key_heard (end_at s p).treated.items)
  duty_harmless (Duty.Ask (AskDuty.JoinHeard s)) is = join_harmless s (asked_at s p)
  duty_harmless (Duty.Ask (AskDuty.Opened s)) is = opened_harmless s (keys_heard (end_at s p).treated.items)
  duty_harmless (Duty.Step (StepDuty.Heard s index)) is = item_harmless s (item_of index (end_at s p))
  duty_harmless (Duty.Ask (AskDuty.FailHeard s)) is = ap (λ o. is_some o) (h.own s)
  duty_harmless (Duty.Step (StepDuty.PlainAck s)) is = plain_ack_harmless s
  duty_harmless (Duty.Ask (AskDuty.SubflowAck s)) is = subflow_acks_so IsHarmless s (end_at s p) tt (λ next. tt)
  duty_harmless (Duty.Step (StepDuty.Unmapped s)) is = break_harmless s 6
  duty_harmless (Duty.Ask (AskDuty.SubflowFin s)) is = fin_harmless s (place_of_fin (end_at s p))
  duty_harmless (Duty.Ask (AskDuty.Edge s)) is = piece_harmless s (piece_of s p)
  duty_harmless (Duty.Ask (AskDuty.CheckFailed s)) is = check_harmless s is
  duty_harmless (Duty.Ask (AskDuty.HeardFin s index)) is = fin_harmless s (data_fin_of index (end_at s p))
  duty_harmless (Duty.Ask (AskDuty.Rate s)) is = rate_harmless s (end_at s p).tcp.congestion.pending
  duty_harmless (Duty.Send (SendDuty.Update s)) is = tt
  duty_harmless (Duty.Silent (SilentDuty.Timer s)) is = tt
  duty_harmless _ is = tt

  first_harmless : (ds : List Duty) (x : Ask) → FirstStands ds p → asks_first values ds p ≡ Some x → IsHarmless x
  first_harmless [] x first is = cc
  first_harmless (d ∷ ds) x first is = subst IsHarmless (same_Some (ask_for values d p) x is) (duty_harmless d first)

app_first : (ds : List AppDuty) (a : AppState) (x : Ask) → app_asks_first ds a ≡ Some x → IsHarmless x
app_first [] a x is = cc
app_first (d ∷ ds) a x is = subst IsHarmless (same_Some (app_ask d a) x is) (app_harmless d a)

abbrev pub MemberPasses : Actor Carried → Type 0
MemberPasses (App a) = Unit {0}
MemberPasses (Path p) = PathPasses p

member_harmless : (m : Actor Carried) (x : Ask) → MemberPasses m → member_asks values m ≡ Some x → IsHarmless x
member_harmless (App a) x h is = app_first a.agenda a x is
member_harmless (Path p) x h is = first_harmless p h p.agenda x h.settled is

-- ---- on lanes that alter nothing

unaltered : {X : Type 0} (o : Option X) (alters : Bool) → alters ≡ false → IfSome o (λ _. alters ≡ true) → o ≡ None
unaltered None alters plain h = refl
unaltered (Some x) alters plain h = absurd (both_ways alters plain h)

no_own : (pair : Option Pair) (pairs : List Pair) (fins : List ℕ) (alters : Bool) → alters ≡ false → (o : Option InfiniteMapping) → IfSome o (OwnIs pair pairs fins alters) → o ≡ None
no_own pair pairs fins alters plain None h = refl
no_own pair pairs fins alters plain (Some mapping) h = absurd (both_ways alters plain h.may)

items_pass : (acks : List AckCopy) (q : Lane) → q.alters ≡ false → (items : List Heard) → Every (ItemShows acks q) items → list_any is_failure items ≡ false
items_pass acks q plain [] shows = refl
items_pass acks q plain (item ∷ items) shows =
    or_from (is_failure item) (list_any is_failure items) (by item (shows.each 0 item refl)) (items_pass acks q plain items (record { each = λ i x there. shows.each (suc i) x there }))
  where
    by : (item : Heard) → ItemShows acks q item → is_failure item ≡ false
    by Heard.Fail is = absurd (both_ways q.alters plain is)
    by _ is = refl

option_passes : (c : Profile) (s : Side) (window : ℕ) (acks : List AckCopy) (q : Lane) → q.alters ≡ false → (o : PlainOption) → OptionShows c s window acks q o → is_fail o ≡ false
option_passes c s window acks q plain (Fail place) shows = absurd (both_ways q.alters plain shows)
option_passes c s window acks q plain _ shows = refl

module _ (v u : View) (number : ℕ) (p : PathState Carried) (ab ba : Lane) (to_b : LaneHolds v number ab) (to_a : LaneHolds u number ba) (h : PathShows p.profile p ab ba)
    (plain_ab : ab.alters ≡ false) (plain_ba : ba.alters ≡ false) where
  sound : (s : Side) → failing_mapping p.profile (end_at s p) ≡ None
  sound A = unaltered _ ba.alters plain_ba (failing_alters p.profile A ab ba u number to_a p.a h.a)
  sound B = unaltered _ ab.alters plain_ab (failing_alters p.profile B ba ab v number to_b p.b h.b)

  own : (s : Side) → (end_at s p).treated.infinite_mapping ≡ None
  own A = no_own ab.pair ab.pairs ab.fins ab.alters plain_ab p.a.treated.infinite_mapping h.a.pairs.3
  own B = no_own ba.pair ba.pairs ba.fins ba.alters plain_ba p.b.treated.infinite_mapping h.b.pairs.3

  copies : TellsNoFailure (Path p)
  copies = Every-map (λ f shows. by f.to f.carried.segment shows) h.copies
    where
      by : (to : Side) (sg : PlainSegment) → FlightShows p.profile ab ba to sg → Every (λ o. is_fail o ≡ false) sg.options
      by B sg shows = Every-map (λ o told. option_passes p.profile A _ ba.acks ab plain_ab o told) shows.options
      by A sg shows = Every-map (λ o told. option_passes p.profile B _ ab.acks ba plain_ba o told) shows.options

  mapped : (s : Side) → (end_at s p).modes.own_infinite ≡ None
  mapped A = no_own ab.pair ab.pairs ab.fins ab.alters plain_ab p.a.modes.own_infinite h.a.pairs.0
  mapped B = no_own ba.pair ba.pairs ba.fins ba.alters plain_ba p.b.modes.own_infinite h.b.pairs.0

  heard_none : (s : Side) → list_any is_failure (end_at s p).treated.items ≡ false
  heard_none A = items_pass ab.acks ba plain_ba p.a.treated.items h.a.treated.items
  heard_none B = items_pass ba.acks ab plain_ab p.b.treated.items h.b.treated.items

  told_none : (s : Side) → (end_at s p).modes.failed_mapping ≡ None
  told_none A = unaltered p.a.modes.failed_mapping ab.alters plain_ab h.a.pairs.4
  told_none B = unaltered p.b.modes.failed_mapping ba.alters plain_ba h.b.pairs.4

  finishing : (state : EndPhase) → may_finish state ≡ true → is_unfinished state ≡ true
  finishing EndPhase.Established is = refl
  finishing EndPhase.CloseWait is = refl
  finishing EndPhase.Waiting is = absurd (false≢true is)
  finishing _ is = absurd (false≢true is)

  unfinished : (s : Side) → may_finish (end_at s p).tcp.state ≡ true → (end_at s p).tcp.send.finished ≡ false
  unfinished A is = h.a.sender.unfinished (finishing p.a.tcp.state is)
  unfinished B is = h.b.sender.unfinished (finishing p.b.tcp.state is)

  path_passes : IsSettled p → PathPasses p
  path_passes settled = record { settled = settled; sound = sound; own = own; copies = copies; heard_none = heard_none; told_none = told_none; mapped = mapped; unfinished = unfinished }

pub record EachPasses (w : WorldState Carried) : Type 0 where
  pub each : (actor : ℕ) (c : ActorCrew Carried) → slice_get w.crew actor ≡ Some c → MemberPasses c.member

shown_passes : (links : Links) (start : Start) (d : Duo) (w : WorldState Carried) → links.alters ≡ false → Holds d → WorldShows links start d w → EachPasses w
shown_passes links start d w plain held h = subst EachPasses (sym h.is) (record {
  each = each_actor (λ actor c. MemberPasses c.member) h.cast tt tt (λ number x there. at number x.path (h.settled.each number x there) (h.paths.each number number x (omega arith) there));
})
  where
    holds : Holds (duo_of links (books_in h.cast.books) h.lanes_ab h.lanes_ba h.reader_a h.reader_b)
    holds = subst Holds h.duo_is held

    at : (number : ℕ) (p : PathState Carried) → IsSettled p → PathThere start h.lanes_ab h.lanes_ba number p → PathPasses p
    at number p settled there =
        let out = holds.ab.lanes.each number number there.ab (omega arith) there.ab_there in
        let back = holds.ba.lanes.each number number there.ba (omega arith) there.ba_there in
        path_passes _ _ number p there.ab there.ba out back (subst (λ c. PathShows c p there.ab there.ba) (sym there.shows.profile) there.shows)
        (out.link.alters_is ∙ plain) (back.link.alters_is ∙ plain) settled

pub each_passes : IsPromised EachPasses
each_passes start turns plain =
    let can = plainly start plain in
    let r = each_run_shows start can turns (free_run can.links (plainly_free start plain) turns (opened_world start)) in
    shown_passes can.links start (after_events r.events (first_duo can.links start)) (world_run values turns (opened_world start)) refl
    (any_held can.links.alters can.links.checked (length start.paths) start.buffer start.buffer r.events) r.shows

pub no_failure_is_told : IsPromised NoFailureIsTold
no_failure_is_told start turns plain = record { each = λ actor c there. by c.member ((each_passes start turns plain).each actor c there) }
  where
    by : (m : Actor Carried) → MemberPasses m → TellsNoFailure m
    by = elim [ App a ↦ λ h. tt | Path p ↦ λ h. h.copies ]

-- ---- control books

either_unfailed : (b : Bool) (c d : Control) → IsUnfailed c.fall → IsUnfailed d.fall → IsUnfailed (if b then c else d).fall
either_unfailed = elim [ true ↦ λ c d x y. x | false ↦ λ c d x y. y ]

-- an MP_FAIL after which no infinite mapping can be sent changes nothing
fail_unfailed : (fall : Fall) (only : Bool) → IsUnfailed fall → IsUnfailed (fall_step fall 0 only (FallEvent.FailHeard false)).0
fail_unfailed fall only u = by (not (writes_mappings fall.mode)) only
  where
    by : (b only : Bool) → IsUnfailed (if b then stays fall else (if only && false then goes (with_infinite_send fall.mode) fall else breaks 1 fall)).0
    by true only = u
    by false true = u
    by false false = u

event_unfailed : (fall : Fall) (path : ℕ) (only : Bool) (event : FallEvent) → EventIsHarmless event → IsUnfailed fall → IsUnfailed (fall_step fall path only event).0
event_unfailed fall path only FallEvent.CheckFailed harmless u = absurd harmless
event_unfailed fall path only (FallEvent.FailHeard contiguous) harmless u =
    subst (λ (b : Bool). IsUnfailed (fall_step fall path only (FallEvent.FailHeard b)).0) (sym harmless) (fail_unfailed fall only u)
event_unfailed fall path only FallEvent.PlainHandshake harmless u = unfailed_kept fall path only FallEvent.PlainHandshake refl u
event_unfailed fall path only event harmless u = unfailed_kept fall path only event refl u

module _ (c : Control) (u : IsUnfailed c.fall) where
  joined_unfailed : IsUnfailed (record c.fall { joined = true })
  joined_unfailed = record { finite = u.finite; unfailed = u.unfailed }

  look_unfailed : (n : Notice) (path : ℕ) → IsUnfailed (controlling.after_notice n path c).fall
  look_unfailed = elim [ Notice.Withdraw id ↦ λ path. u | _ ↦ λ path. u ]

  call_unfailed : (call : ControlCall) → CallIsHarmless call → IsUnfailed (controlling.after c call).fall
  call_unfailed (ControlCall.Look path) harmless = look_unfailed (replying.notice_on c path) path
  call_unfailed (ControlCall.PeerKey key) harmless = u
  call_unfailed (ControlCall.Keys own peer) harmless =
      either_unfailed (own == c.keys.own) (controlling.after_event 0 false FallEvent.KeysHeard (controlling.after_peer_key peer c)) c (event_unfailed c.fall 0 false FallEvent.KeysHeard tt u) u
  call_unfailed (ControlCall.Fell path event) harmless = event_unfailed c.fall path (sole c.paths path) event harmless u
  call_unfailed (ControlCall.JoinBegin path) harmless = either_unfailed _ _ c joined_unfailed u
  call_unfailed (ControlCall.JoinHeard path token) harmless = either_unfailed _ _ c joined_unfailed u
  call_unfailed (ControlCall.Withdraw id) harmless = either_unfailed (controlling.is_known id c) _ c u u
  call_unfailed (ControlCall.Echoed id) harmless = either_unfailed (controlling.is_known id c) _ c u u
  call_unfailed (ControlCall.Removed id) harmless = either_unfailed (controlling.is_known id c) _ c u u
  call_unfailed ControlCall.FastClose harmless = event_unfailed c.fall 0 false FallEvent.Stop tt u
  call_unfailed (ControlCall.FastHeard key) harmless = either_unfailed (key == c.keys.own) (controlling.after_event 0 false FallEvent.Stop c) c (event_unfailed c.fall 0 false FallEvent.Stop tt u) u
  call_unfailed _ harmless = u

abbrev AreUnfailed : SixBooks → Type 0
AreUnfailed six = IsUnfailed six.control_a.fall × IsUnfailed six.control_b.fall

ask_unfailed : (six : SixBooks) (x : Ask) → IsHarmless x → AreUnfailed six → AreUnfailed (after_ask x six)
ask_unfailed six (Ask.Control A call) harmless h = (call_unfailed six.control_a h.0 call harmless, h.1)
ask_unfailed six (Ask.Control B call) harmless h = (h.0, call_unfailed six.control_b h.1 call harmless)
ask_unfailed six (Ask.Send A call) harmless h = h
ask_unfailed six (Ask.Send B call) harmless h = h
ask_unfailed six (Ask.Reassembly A call) harmless h = h
ask_unfailed six (Ask.Reassembly B call) harmless h = h
ask_unfailed six (Ask.Local step) harmless h = h

-- ---- worlds

told_more : (notes : List Note) (n : Note) → list_any note_tells_failure notes ≡ false → note_tells_failure n ≡ false → list_any note_tells_failure (notes ++ n ∷ []) ≡ false
told_more [] n none one = or_from (note_tells_failure n) false one refl
told_more (m ∷ notes) n none one =
    let parts = or_parts (note_tells_failure m) (list_any note_tells_failure notes) none in
    or_from (note_tells_failure m) (list_any note_tells_failure (notes ++ n ∷ [])) parts.0 (told_more notes n parts.1 one)

record Passing (w : WorldState Carried) : Type 0 where
  notes : (i : ℕ) (c : ActorCrew Carried) → slice_get w.crew i ≡ Some c → list_any note_tells_failure c.list ≡ false
  books : AreUnfailed (books_in w.books)

asked_passing : (actor : ℕ) (w : WorldState Carried) (c : ActorCrew Carried) (x : Ask) → slice_get w.crew actor ≡ Some c → IsHarmless x → Passing w → Passing (asked values actor (Some x) c w)
asked_passing actor w c x there harmless h = record {
  notes = λ i d at. ⊎_elim
      (λ here. subst (λ (y : ActorCrew Carried). list_any note_tells_failure y.list ≡ false) here.1
      (told_more c.list (note_of w.books c.pass x) (h.notes actor c there) (untold x harmless)))
      (λ other. h.notes i d other.1)
      (in_set w.crew actor (crew_after values x w.books c) i d at);
  books = subst AreUnfailed (sym (books_after x c.pass w.books)) (ask_unfailed (books_in w.books) x harmless h.books);
}

turn_passing : (turn : Turn) (w : WorldState Carried) → EachPasses w → Passing w → Passing (after_turn values turn w)
turn_passing turn w passes h =
    turn_so values Passing turn w h (λ actor c x there is. asked_passing actor w c x there (member_harmless c.member x (passes.each actor c there) is) h)
    (λ over. record {
      notes = λ i d at. let found = in_map (begins (greatest 0 w.crew)) w.crew i d at in ap (λ (y : ActorCrew Carried). list_any note_tells_failure y.list) (sym found.2) ∙ h.notes i found.0 found.1;
      books = h.books;
    })

run_passing : (turns : List Turn) (w : WorldState Carried) → ((more : List Turn) → EachPasses (world_run values more w)) → Passing w → Passing (world_run values turns w)
run_passing [] w ever h = h
run_passing (turn ∷ turns) w ever h = run_passing turns (after_turn values turn w) (λ more. ever (turn ∷ more)) (turn_passing turn w (ever []) h)

opened_passing : (start : Start) → Passing (opened_world start)
opened_passing start = record {
  notes = opened_actors (λ actor c. list_any note_tells_failure c.list ≡ false) start refl refl (λ number plan there. refl);
  books = (record { finite = refl; unfailed = refl }, record { finite = refl; unfailed = refl });
}

passing_checks : (w : WorldState Carried) → Passing w → ChecksPass w
passing_checks w h = record { checks = λ actor. by (slice_get w.crew actor) (λ c there. h.notes actor c there); unfailed = unfailed; finite = finite }
  where
    by : (o : Option (ActorCrew Carried)) → ((c : ActorCrew Carried) → o ≡ Some c → list_any note_tells_failure c.list ≡ false) → list_any note_tells_failure (notes_or o) ≡ false
    by = elim [ None ↦ λ each. refl | Some c ↦ λ each. each c refl ]

    unfailed : (s : Side) → (control_of s (books_in w.books)).fall.failed ≡ None
    unfailed = elim [ A ↦ h.books.0.unfailed | B ↦ h.books.1.unfailed ]

    finite : (s : Side) → is_infinite (control_of s (books_in w.books)).fall.mode ≡ false
    finite = elim [ A ↦ h.books.0.finite | B ↦ h.books.1.finite ]

pub checks_pass : IsPromised ChecksPass
checks_pass start turns plain =
    passing_checks (world_run values turns (opened_world start))
    (run_passing turns (opened_world start) (λ more. each_passes start more plain) (opened_passing start))

-- ---- over octets

pub checks_pass_in_octets : IsPromisedOfOctets ChecksPass
checks_pass_in_octets start turns plain fit =
    let w : WorldState Carried = world_run values turns (opened_world start) in
    let h : ChecksPass w = checks_pass start turns plain in
    subst ChecksPass (sym (run_fresh start turns plain.size fit))
    (record { checks = λ actor. ap (list_any note_tells_failure) (same_notes_at actor w.crew) ∙ h.checks actor; unfailed = h.unfailed; finite = h.finite })
