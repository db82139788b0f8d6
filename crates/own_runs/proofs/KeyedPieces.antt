-- At every moment of a run that never falls back A's end of a path has B's key where it may still send octets that it was granted.
use Rattle.std.proofs.Common.{◌≡◌, refl, sym, ap, ◌∙◌, subst, ℕ, ◌+◌, ⊎_elim, not, ◌&&◌, ◌||◌, nat_le, Bool, true, false, Option, Some, None, is_some, List, [], ◌∷◌}
use Rattle.std.specs.List.{slice_get}
use Rattle.std.proofs.lemmas.Bool.{and_parts, both_ways, false≢true}
use Rattle.actor_desk.specs.declared.ask.Reply.{Reply}
use Rattle.path_agenda.specs.declared.duty.Duty.{Duty}
use Rattle.path_agenda.specs.declared.duty.StepDuty.{StepDuty}
use Rattle.path_core.specs.Emission.{data_stands, first_unsent, may_ask, may_send_data, payload_size}
use Rattle.path_core.specs.End.{PathEnd}
use Rattle.path_core.specs.MpJoin.{is_joined}
use Rattle.path_core.specs.Start.{waiting_path}
use Rattle.path_core.specs.State.{PathState}
use Rattle.path_core.specs.Steps.{begins_turn, next_round, takes}
use Rattle.path_core.specs.Turns.{FirstStands}
use Rattle.path_core.specs.Values.{Carried, values}
use Rattle.sides.specs.declared.side.Side.TheVariants.{A}
use Rattle.stream_lanes.proofs.Lists.{Every-map, Every-nil, Every-push, in_map, in_set}
use Rattle.stream_lanes.specs.Words.{Every}
use Rattle.subflow_send.specs.Records.{Record}
use Rattle.subflow_send.specs.Rules.{fin_record}
use Rattle.subflow_send.specs.Sendings.{never_sent}
use Rattle.subflow_send.specs.declared.record.RecordKind.TheVariants.{Data}
use Rattle.subflow_send.specs.declared.record.RecordKind.{RecordKind}
use Rattle.subflow_send.specs.declared.record.Sending.{Sending}
use Rattle.subflow_tcp.specs.Sizes.{room}
use Rattle.subflow_tcp.specs.State.{is_at_limit}
use Rattle.subflow_tcp.specs.States.{may_finish}
use Rattle.world_laws.proofs.Joins.TokensAgree.{WorldMet, opened_met, run_met}
use Rattle.world_laws.proofs.Falls.ClearStays.{next_clear, takes_clear}
use Rattle.world_laws.proofs.Keys.Held.{finish_open}
use Rattle.world_laws.proofs.Rounds.Frame.{first_keeps, takes_keeps}
use Rattle.world_laws.proofs.Keys.ToldAreOwn.{NoMore, PathKnows}
use Rattle.world_laws.proofs.Whole.Doing.{finish_past}
use Rattle.world_laws.proofs.Whole.Falls.{EachUpright, MemberUpright, PathUpright, each_upright}
use Rattle.world_laws.proofs.Whole.Happening.{Holds, Next, Now, is_between}
use Rattle.world_laws.proofs.Worlds.Opened.{opened_actors}
use Rattle.world_laws.proofs.Worlds.Turns.{turn_so}
use Rattle.world_laws.proofs.Writes.Steps.{begins_lasts}
use Rattle.world_laws.specs.Actors.{Actor, ActorCrew, member_next, member_takes}
use Rattle.world_laws.specs.NeverFalls.{IsWhole}
use Rattle.world_laws.specs.Openings.{Start, opened_world, path_begins}
use Rattle.world_laws.specs.Promises.{IsPlain}
use Rattle.world_laws.specs.StampedBooks.{answer_to}
use Rattle.world_laws.specs.Worlds.{Turn, WorldState, after_turn, begins, crew_after, greatest, world_run}
use Rattle.world_laws.specs.declared.member.Member.TheVariants.{App, Path}
use Rattle.actor_desk.specs.Books.{books_in}
use Rattle.actor_desk.specs.Desk.{SixBooks}
use Rattle.own_runs.proofs.EndPaths.{next_key, takes_key}
use Rattle.own_runs.proofs.RecordsKept.{Kept, lasts, next_kept, takes_at}

-- octets that were granted need this
abbrev pub KindNeeds : Type 0 → RecordKind → Type 0
KindNeeds K Data = K
KindNeeds K _ = Unit {0}

abbrev pub Needs : Type 0 → Record → Type 0
Needs K r = KindNeeds K r.kind

any : (K : Type 0) (r : Record) (x : Sending) → Needs K r → Needs K (record r { sending = x })
any K r x h = h

ends_so : (K : Type 0) (n : ℕ) → Needs K (fin_record n never_sent)
ends_so K n = tt

pub more : (K L : Type 0) → (K → L) → (r : Record) → Needs K r → Needs L r
more K L then_so r h = by r.kind h
  where
    by : (kind : RecordKind) → KindNeeds K kind → KindNeeds L kind
    by Data h = then_so h
    by RecordKind.Syn h = tt
    by RecordKind.Fin h = tt

-- the peer's key
abbrev pub HasKey : PathEnd → Type 0
HasKey e = is_some e.modes.peer_key ≡ true

abbrev pub EndKeyed : PathEnd → Type 0
EndKeyed e = Every (Needs (HasKey e)) e.tcp.send.records

-- and on a path that joins A may send a DSS
abbrev pub MayBear : PathState Carried → Type 0
MayBear p = HasKey p.a × (is_joined p.profile ≡ true → p.a.modes.clear ≡ true)

abbrev pub EndBears : PathState Carried → Type 0
EndBears p = Every (Needs (MayBear p)) p.a.tcp.send.records

takes_may : (r : Reply) (p : PathState Carried) → MayBear p → MayBear (takes values r p)
takes_may r p h = (takes_key r p h.0, λ joins. (takes_clear values r p).a.0 (h.1 (ap is_joined (sym (takes_keeps values r p).1) ∙ joins)))

pub next_profile : (p : PathState Carried) → (next_round p).profile ≡ p.profile
next_profile p = (first_keeps (record p { clock = p.until; until = p.until + 100 })).1

next_may : (p : PathState Carried) → MayBear p → MayBear (next_round p)
next_may p h = (next_key p h.0, λ joins. (next_clear p).a.0 (h.1 (ap is_joined (sym (next_profile p)) ∙ joins)))

-- ---- where A asks for octets

-- the path that opens the connection
first_keyed : (p : PathState Carried) (ds : List Duty) → Holds p → p.agenda ≡ Duty.Step (StepDuty.Data A) ∷ ds → may_finish p.a.tcp.state ≡ true → HasKey p.a
first_keyed p ds (Now q h) same may = ⊎_elim (λ knows. knows) (λ unmet. absurd (both_ways _ unmet.past (finish_past p.a.tcp.state may))) h.a.says
first_keyed p ds (Next d es q between now calm does passes) same may = absurd (false≢true (ap is_between (sym (first_is (sym now ∙ same))) ∙ between.duty))
  where
    first_is : d ∷ es ≡ Duty.Step (StepDuty.Data A) ∷ ds → d ≡ Duty.Step (StepDuty.Data A)
    first_is is = cc

clear_so : (clear plain joins : Bool) → plain ≡ false → joins ≡ true → (clear || (plain || (true && not joins))) ≡ true → clear ≡ true
clear_so true plain joins none is may = refl
clear_so false true joins none is may = absurd (false≢true (sym none))
clear_so false false true none is may = absurd (false≢true may)
clear_so false false false none is may = absurd (false≢true is)

module _ (start : Start) where
  -- a path that joins
  joined_keyed : (six : SixBooks) (p : PathState Carried) → PathKnows start.key_a start.key_b true NoMore six p → is_joined p.profile ≡ true → may_finish p.a.tcp.state ≡ true → HasKey p.a
  joined_keyed six p knows joins may =
      let open_end = finish_open p.a.tcp.state may in
      let it = knows.is.a.woken joins (ap (λ (b : Bool). not b || is_some p.a.tcp.timing.timer) open_end) in
      ap is_some (it.1 refl)

  asks_keyed : (six : SixBooks) (p : PathState Carried) (ds : List Duty) → PathUpright p → PathKnows start.key_a start.key_b true NoMore six p → p.agenda ≡ Duty.Step (StepDuty.Data A) ∷ ds
      → first_unsent p.a ≡ None → MayBear p
  asks_keyed six p ds upright knows same none = (by (is_joined p.profile) refl, clear)
    where
      stood : data_stands p.profile A p.a (first_unsent p.a) ≡ true
      stood = subst (λ (todo : List Duty). FirstStands todo p) same knows.settled

      asks : may_ask p.profile A p.a ≡ true
      asks = subst (λ (o : Option Record). data_stands p.profile A p.a o ≡ true) none stood

      may : may_finish p.a.tcp.state ≡ true
      may = (and_parts (may_finish p.a.tcp.state) _ asks).0

      clear : is_joined p.profile ≡ true → p.a.modes.clear ≡ true
      clear joins =
          let room_on = (and_parts (may_finish p.a.tcp.state) (nat_le (payload_size p.profile) (room p.a.tcp) && (not (is_at_limit p.a.tcp) && may_send_data p.profile A p.a)) asks).1 in
          let left_on = (and_parts (nat_le (payload_size p.profile) (room p.a.tcp)) (not (is_at_limit p.a.tcp) && may_send_data p.profile A p.a) room_on).1 in
          clear_so p.a.modes.clear p.a.modes.identity (is_joined p.profile) (upright.identity A) joins (and_parts (not (is_at_limit p.a.tcp)) (may_send_data p.profile A p.a) left_on).1

      by : (b : Bool) → is_joined p.profile ≡ b → HasKey p.a
      by true joins = joined_keyed six p knows joins may
      by false first = first_keyed p ds (upright.holds first) same may

  -- ---- worlds

  abbrev pub MemberKeyed : Actor Carried → Type 0
  MemberKeyed (App a) = Unit {0}
  MemberKeyed (Path p) = EndBears p

  abbrev pub WorldKeyed : WorldState Carried → Type 0
  WorldKeyed w = (actor : ℕ) (c : ActorCrew Carried) → slice_get w.crew actor ≡ Some c → MemberKeyed c.member

  abbrev pub MemberKnows : SixBooks → Actor Carried → Type 0
  MemberKnows six (App a) = Unit {0}
  MemberKnows six (Path p) = PathKnows start.key_a start.key_b true NoMore six p

  takes_so : (r : Reply) (six : SixBooks) (m : Actor Carried) → MemberUpright m → MemberKnows six m → MemberKeyed m → MemberKeyed (member_takes values r m)
  takes_so r six (App a) upright knows h = tt
  takes_so r six (Path p) upright knows h =
      let K : Type 0 = MayBear (takes values r p) in
      takes_at (Needs K) (any K) (ends_so K) A r p (λ ds same none grant granted. takes_may r p (asks_keyed six p ds upright knows same none)) (Every-map (more (MayBear p) K (takes_may r p)) h)

  next_so : (m : Actor Carried) → MemberKeyed m → MemberKeyed (member_next m)
  next_so (App a) h = tt
  next_so (Path p) h = let K : Type 0 = MayBear (next_round p) in (next_kept (Needs K) (any K) (ends_so K) p).a (Every-map (more (MayBear p) K (next_may p)) h)

  turn_keyed : (turn : Turn) (w : WorldState Carried) → EachUpright w → WorldMet start.key_a start.key_b w → WorldKeyed w → WorldKeyed (after_turn values turn w)
  turn_keyed turn w upright met h =
      turn_so values WorldKeyed turn w h
      (λ actor c x there is i d at.
      ⊎_elim
      (λ here. subst (λ (y : ActorCrew Carried). MemberKeyed y.member) here.1
      (takes_so (answer_to w.books x) (books_in w.books) c.member (upright.each actor c there) (met.keys.crew.each actor c there) (h actor c there)))
      (λ other. h i d other.1)
      (in_set w.crew actor (crew_after values x w.books c) i d at))
      (λ over i d at.
      let found = in_map (begins (greatest 0 w.crew)) w.crew i d at in
      subst (λ (y : ActorCrew Carried). MemberKeyed y.member) found.2 (next_so found.0.member (h i found.0 found.1)))

  run_keyed : (turns : List Turn) (w : WorldState Carried) → ((more : List Turn) → EachUpright (world_run values more w)) → ((more : List Turn) → WorldMet start.key_a start.key_b (world_run values more w))
      → WorldKeyed w → WorldKeyed (world_run values turns w)
  run_keyed [] w upright met h = h
  run_keyed (turn ∷ turns) w upright met h =
      run_keyed turns (after_turn values turn w) (λ more. upright (turn ∷ more)) (λ more. met (turn ∷ more)) (turn_keyed turn w (upright []) (met []) h)

  opened_keyed : WorldKeyed (opened_world start)
  opened_keyed = opened_actors (λ actor c. MemberKeyed c.member) start tt tt
      (λ number plan there.
      let p : PathState Carried = waiting_path (path_begins start number plan) start.lines in
      let K : Type 0 = MayBear (begins_turn p) in
      (begins_lasts (Kept (Needs K) (any K) (ends_so K)) (lasts (Needs K) (any K) (ends_so K)) p).a (Every-push {xs = []} _ (Every-nil (Needs K)) tt))

  pub always_bear : IsPlain start → IsWhole start → (turns : List Turn) → WorldKeyed (world_run values turns (opened_world start))
  always_bear plain whole turns =
      run_keyed turns (opened_world start) (λ more. each_upright start more plain whole) (λ more. run_met start.key_a start.key_b more (opened_world start) (opened_met start)) opened_keyed

  abbrev pub MemberHas : Actor Carried → Type 0
  MemberHas (App a) = Unit {0}
  MemberHas (Path p) = EndKeyed p.a

  pub always_keyed : IsPlain start → IsWhole start → (turns : List Turn) → (actor : ℕ) (c : ActorCrew Carried) → slice_get (world_run values turns (opened_world start)).crew actor ≡ Some c → MemberHas c.member
  always_keyed plain whole turns actor c there = by c.member (always_bear plain whole turns actor c there)
    where
      by : (m : Actor Carried) → MemberKeyed m → MemberHas m
      by (App a) h = tt
      by (Path p) h = Every-map (more (MayBear p) (HasKey p.a) (λ may. may.0)) h
