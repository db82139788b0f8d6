-- Each congestion window holds a full segment, and with nothing under way there is room for one.
use Rattle.std.proofs.Common.{◌≡◌, refl, sym, subst, ap, ℕ, suc, ◌+◌, ◌*◌, ◌^◌, ◌<◌, ◌≤◌, min, nat_lt, nat_le, arith, Bool, true, false, not, ◌&&◌, ◌||◌, if◌then◌else◌, Option, Some, None, List, [], ◌∷◌, sum_by}
use Rattle.std.specs.List.{slice_get}
use Rattle.std.proofs.lemmas.Bool.{and_from, le-leb, lt-leb, or_from}
use Rattle.sides.specs.declared.side.Side.{Side}
use Rattle.sides.specs.declared.side.Side.TheVariants.{A, B}
use Rattle.reno_window.specs.Window.{Window}
use Rattle.reno_window.specs.Rules as reno
use Rattle.loss_recovery.specs.declared.windows.Congestion.{Congestion}
use Rattle.loss_recovery.specs.declared.windows.Pending.{Pending}
use Rattle.loss_recovery.specs.Windows.{acknowledged, counted, duplicated, grown_by, is_growth_linked}
use Rattle.subflow_send.specs.declared.record.AckKind.TheVariants.{New, Duplicate, Old, Future}
use Rattle.subflow_send.specs.Records.{Record}
use Rattle.subflow_send.specs.Rules.{ack_kind, after_acknowledge, flight, octets_under_way, sample_of}
use Rattle.subflow_tcp.specs.declared.handshake.State.TheVariants.{Established}
use Rattle.subflow_tcp.specs.declared.segments.Hint.{Hint}
use Rattle.subflow_tcp.specs.declared.segments.Occasion.{Occasion}
use Rattle.subflow_tcp.specs.declared.segments.Occasion.TheVariants as to_send
use Rattle.subflow_tcp.specs.declared.verdicts.Meaning.{Meaning}
use Rattle.subflow_tcp.specs.declared.verdicts.Meaning.TheVariants as means
use Rattle.subflow_tcp.specs.Emitting.{after_sending}
use Rattle.subflow_tcp.specs.Expiring.{after_expiry, after_fire, is_sixth}
use Rattle.subflow_tcp.specs.Segments.{Copy}
use Rattle.subflow_tcp.specs.Sizes.{room}
use Rattle.subflow_tcp.specs.State.{EndState, is_at_limit}
use Rattle.subflow_tcp.specs.States.{may_finish}
use Rattle.subflow_tcp.specs.Taking.{after_ack_kind, after_acknowledgement, after_arrival, after_death, after_duplicate, after_established, after_hearing, after_heard_ack, after_interruption, after_payload, after_telling, is_duplicate, told_by}
use Rattle.actor_desk.specs.declared.ask.Reply.{Reply}
use Rattle.path_core.specs.Codec.{Codec}
use Rattle.path_core.specs.Duties.{answered, passed}
use Rattle.path_core.specs.Emission.{may_ask, may_send_data, payload_size}
use Rattle.path_core.specs.End.{PathEnd}
use Rattle.path_core.specs.MpJoin.{is_joined}
use Rattle.path_core.specs.Choices.{is_side_a}
use Rattle.path_core.specs.Octets.{octets}
use Rattle.path_core.specs.Profile.{Profile}
use Rattle.path_core.specs.Start.{waiting_path}
use Rattle.path_core.specs.State.{PathState, end_at}
use Rattle.path_core.specs.Steps.{begins_turn, next_round, takes}
use Rattle.path_core.specs.Values.{Carried, values}
use Rattle.stream_lanes.specs.Words.{Every}
use Rattle.stream_lanes.proofs.Lists.{in_map}
use Rattle.world_laws.specs.declared.member.Member.TheVariants.{App, Path}
use Rattle.world_laws.specs.Actors.{Actor, ActorCrew, member_next, member_takes}
use Rattle.world_laws.specs.Fresh.{shown_crew, shown_member}
use Rattle.world_laws.specs.Members.{HoldsOfKind}
use Rattle.world_laws.specs.Openings.{Start, opened_world, path_begins}
use Rattle.world_laws.specs.Promises.{HasRoom, NumbersFit}
use Rattle.world_laws.specs.RoundDone.{reached}
use Rattle.world_laws.specs.StampedBooks.{answer_to}
use Rattle.world_laws.specs.Worlds.{WorldState, Turn}
use Rattle.world_laws.proofs.Numbers.EveryTurn.{WorldTells, always_tells}
use Rattle.world_laws.proofs.Numbers.PathSteps.{PathTells}
use Rattle.world_laws.proofs.Numbers.TellSmall.{EndTells}
use Rattle.world_laws.proofs.Promises.Made.{run_fresh}
use Rattle.world_laws.proofs.Rounds.Frame.{first_keeps, takes_keeps}
use Rattle.world_laws.proofs.Rounds.Lifting.{opened_lifted, run_lifted}
use Rattle.world_laws.proofs.Worlds.CastLifting.{each_actor, path_actor}
use Rattle.world_laws.proofs.Worlds.Casts.{walking}
use Rattle.world_laws.proofs.Writes.Steps.{Lasts, begins_lasts, takes_lasts}
use Rattle.whole_paths.specs.EndSteps.{PathStep, SubflowStep, SubflowSteps}
use Rattle.whole_paths.specs.EndSteps.SubflowStep.{arrives, holds, owes, keeps, drops, advances, passes, forgets, pushes, finishes, sends, settles, fires, grows, begins, joins, dies}
use Rattle.whole_paths.specs.EndSteps.SubflowSteps.{none, more}
use Rattle.whole_paths.specs.Reasons.{IsOutstanding}
use Rattle.whole_paths.specs.Room.{HasWindows, WhoIsDoneMayAsk}
use Rattle.whole_paths.proofs.Acknowledged.{always_shown}
use Rattle.whole_paths.proofs.Duties.{answered_steps, passed_steps}

-- ---- a window

-- of segments of this size it holds one, and its threshold two
pub record HoldsOne (mss : ℕ) (w : Window) : Type 0 where
  pub same : w.mss ≡ mss
  pub least : mss ≤ w.window
  greatest : w.window ≤ 1048576
  pub threshold : 2 * mss ≤ w.ssthresh

-- that of an end, and of both ends of a path
abbrev pub Roomy : ℕ → EndState → Type 0
Roomy mss s = HoldsOne mss s.congestion.reno

pub record BothRoomy {C : Type 0} (mss : ℕ) (p : PathState C) : Type 0 where
  pub a : Roomy mss p.a.tcp
  pub b : Roomy mss p.b.tcp

module _ (mss : ℕ) (small : mss ≤ 65535) where
  opens_one : HoldsOne mss (reno.opening mss)
  opens_one = record { same = refl; least = by (nat_le mss 1095) (nat_le mss 2190); greatest = few (nat_le mss 1095) (nat_le mss 2190); threshold = omega (arith, small) }
    where
      by : (c d : Bool) → mss ≤ (if c then 4 else (if d then 3 else 2)) * mss
      by true d = omega arith
      by false true = omega arith
      by false false = omega arith

      few : (c d : Bool) → (if c then 4 else (if d then 3 else 2)) * mss ≤ 1048576
      few true d = omega (arith, small)
      few false true = omega (arith, small)
      few false false = omega (arith, small)

  grown_one : (count : ℕ) (w : Window) → HoldsOne mss w → HoldsOne mss (reno.grown count w)
  grown_one count w h = record { same = h.same; least = (let least = h.least in omega (arith, least, small)); greatest = omega arith; threshold = h.threshold }

  acked_one : (bytes growth : ℕ) (w : Window) → HoldsOne mss w → HoldsOne mss (reno.after_ack bytes growth w)
  acked_one bytes growth w h = by w.in_fast_recovery (nat_lt w.window w.ssthresh)
    where
      by : (c d : Bool) → HoldsOne mss (if c then reno.recovered w else (if d then reno.slowly_started bytes w else reno.grown growth w))
      by true d = record { same = h.same; least = (let threshold = h.threshold in omega (arith, threshold, small)); greatest = omega arith; threshold = h.threshold }
      by false true = grown_one (min bytes w.mss) w h
      by false false = grown_one growth w h

  third_one : (under_way : ℕ) (w : Window) → HoldsOne mss w → HoldsOne mss (reno.after_third_duplicate under_way w)
  third_one under_way w h =
      let same = h.same in
      record { same = h.same; least = omega (arith, same, small); greatest = omega arith; threshold = omega (arith, same) }

  expired_one : (under_way : ℕ) (again : Bool) (w : Window) → HoldsOne mss w → HoldsOne mss (reno.after_expiry under_way again w)
  expired_one under_way again w h = record { same = h.same; least = (let same = h.same in omega (arith, same)); greatest = (let same = h.same in omega (arith, same, small)); threshold = by again }
    where
      by : (c : Bool) → 2 * mss ≤ (if c then w.ssthresh else reno.ssthresh_after_loss under_way w)
      by true = h.threshold
      by false = let same = h.same in omega (arith, same)

  -- ---- an end

  acknowledged_one : (count rtt : ℕ) (c : Congestion) → HoldsOne mss c.reno → HoldsOne mss (acknowledged count rtt c).reno
  acknowledged_one count rtt c h = elim (is_growth_linked count c.reno) as (λ b. HoldsOne mss (if b then record c { duplicates = 0; pending = Some (record { acked = counted count; window = c.reno.window; rtt = rtt }) }
      else record c { duplicates = 0; reno = reno.after_ack (counted count) 0 c.reno }).reno) [ true ↦ h | false ↦ acked_one (counted count) 0 c.reno h ]

  duplicated_one : (under_way : ℕ) (c : Congestion) → HoldsOne mss c.reno → HoldsOne mss (duplicated under_way c).reno
  duplicated_one under_way c h = by c.reno.in_fast_recovery (nat_lt c.duplicates 2)
    where
      by : (d e : Bool) → HoldsOne mss (if d then record c { reno = reno.after_more_duplicate c.reno } else (if e then record c { duplicates = c.duplicates + 1 }
          else record c { duplicates = 3; reno = reno.after_third_duplicate under_way c.reno })).reno
      by true e = grown_one c.reno.mss c.reno h
      by false true = h
      by false false = third_one under_way c.reno h

  growth_one : (growth : ℕ) (o : Option Pending) (c : Congestion) → HoldsOne mss c.reno → HoldsOne mss (grown_by growth o c).reno
  growth_one growth None c h = h
  growth_one growth (Some p) c h = acked_one p.acked growth c.reno h

  ack_room : (pos at : ℕ) (s : EndState) → Roomy mss s → Roomy mss (after_acknowledgement pos at s)
  ack_room pos at s h = elim (ack_kind pos s.send) as (λ kind. Roomy mss (after_ack_kind kind (sample_of pos s.send) at (record s { send = after_acknowledge pos s.send })))
      [ New count ↦ acknowledged_one count _ s.congestion h | Duplicate ↦ h | Old ↦ h | Future ↦ h ]

  heard_ack_room : (pos : ℕ) (hint : Hint) (at : ℕ) (c : Copy) (s : EndState) → Roomy mss s → Roomy mss (after_heard_ack pos hint at c s)
  heard_ack_room pos hint at c s h =
      elim (is_duplicate (ack_kind pos s.send) (told_by hint c) c acked) as (λ b. Roomy mss (after_telling (told_by hint c) (if b then after_duplicate acked else after_interruption acked)))
      [ true ↦ duplicated_one _ acked.congestion (ack_room pos at s h) | false ↦ ack_room pos at s h ]
    where
      acked : EndState
      acked = after_acknowledgement pos at s

  arrival_room : (m : Meaning) (hint : Hint) (now : ℕ) (c : Copy) (s : EndState) → Roomy mss s → Roomy mss (after_arrival m hint now c s)
  arrival_room (means.Accepts position) hint now c s h = ack_room position now (record (after_hearing (after_payload 1 hint c s)) { state = Established }) h
  arrival_room means.Kills hint now c s h = h
  arrival_room (means.Taken pos position) hint now c s h = heard_ack_room position hint now c (after_established (after_hearing (after_payload pos hint c s))) h
  arrival_room _ hint now c s h = h

  fire_room : (now : ℕ) (s : EndState) → Roomy mss s → Roomy mss (after_fire now s)
  fire_room now s h = elim (is_sixth s) as (λ b. Roomy mss (if b then after_death true s else after_expiry now s)) [ true ↦ h | false ↦ expired_one _ _ s.congestion.reno h ]

  sending_room : (occasion : Occasion) (now : ℕ) (s : EndState) → (after_sending occasion now s).congestion ≡ s.congestion
  sending_room = elim [ to_send.Reset ↦ λ now s. refl | _ ↦ λ now s. refl ]

  step_room : (now : ℕ) (s t : EndState) → SubflowStep now s t → Roomy mss s → Roomy mss t
  step_room now s t (arrives m hint c is) h = arrival_room m hint now c s h
  step_room now s t (sends occasion) h = subst (λ (c : Congestion). HoldsOne mss c.reno) (sym (sending_room occasion now s)) h
  step_room now s t fires h = fire_room now s h
  step_room now s t (grows growth) h = growth_one growth s.congestion.pending s.congestion h
  step_room now s t (settles on restart) h = h
  step_room now s t dies h = h
  step_room now s t (holds pos piece) h = h
  step_room now s t owes h = h
  step_room now s t keeps h = h
  step_room now s t drops h = h
  step_room now s t (advances count) h = h
  step_room now s t (passes next) h = h
  step_room now s t (forgets pos) h = h
  step_room now s t (pushes piece mapping) h = h
  step_room now s t finishes h = h
  step_room now s t (begins is) h = h
  step_room now s t (joins window is) h = h

  steps_room : (now : ℕ) (s t : EndState) → SubflowSteps now s t → Roomy mss s → Roomy mss t
  steps_room now s t none h = h
  steps_room now s t (more u v steps step) h = step_room now u t step (steps_room now s u steps h)

  -- ---- a path

  module _ {C : Type 0} where
    both_on : (p q : PathState C) → PathStep p q → BothRoomy mss p → BothRoomy mss q
    both_on p q x h = record { a = steps_room q.clock p.a.tcp q.a.tcp x.a.subflow h.a; b = steps_room q.clock p.b.tcp q.b.tcp x.b.subflow h.b }

    roomy_last : Lasts (λ (p q : PathState C). BothRoomy mss p → BothRoomy mss q)
    roomy_last = record { agenda = λ ds p h. record { a = h.a; b = h.b }; chains = λ p q r x y h. y (x h); passes = λ d p h. both_on p (passed d p) (passed_steps d p) h }

    takes_roomy : (k : Codec C) (r : Reply) (p : PathState C) → BothRoomy mss p → BothRoomy mss (takes k r p)
    takes_roomy k r p = takes_lasts (λ p q. BothRoomy mss p → BothRoomy mss q) roomy_last k r p (λ d h. both_on p (answered k d r p) (answered_steps k d r p) h)

    begins_roomy : (p : PathState C) → BothRoomy mss p → BothRoomy mss (begins_turn p)
    begins_roomy p = begins_lasts (λ p q. BothRoomy mss p → BothRoomy mss q) roomy_last p

    next_roomy : (p : PathState C) → BothRoomy mss p → BothRoomy mss (next_round p)
    next_roomy p h = begins_roomy (record p { clock = p.until; until = p.until + 100 }) (record { a = h.a; b = h.b })

-- ---- the world

module _ {C : Type 0} where
  -- each window holds a segment of the path's size
  pub record PathRoomy (p : PathState C) : Type 0 where
    pub small : p.profile.mss ≤ 65535
    pub both : BothRoomy p.profile.mss p

  abbrev pub MemberRoomy : Actor C → Type 0
  MemberRoomy = HoldsOfKind (λ app. Unit {0}) PathRoomy

  takes_on : (k : Codec C) (r : Reply) (p : PathState C) → PathRoomy p → PathRoomy (takes k r p)
  takes_on k r p h =
      let same : (takes k r p).profile ≡ p.profile = (takes_keeps k r p).1 in record {
        small = subst (λ (c : Profile). c.mss ≤ 65535) (sym same) h.small;
        both = subst (λ (c : Profile). BothRoomy c.mss (takes k r p)) (sym same) (takes_roomy p.profile.mss h.small k r p h.both);
      }

  begins_on : (p : PathState C) → PathRoomy p → PathRoomy (begins_turn p)
  begins_on p h =
      let same : (begins_turn p).profile ≡ p.profile = (first_keeps p).1 in record {
        small = subst (λ (c : Profile). c.mss ≤ 65535) (sym same) h.small;
        both = subst (λ (c : Profile). BothRoomy c.mss (begins_turn p)) (sym same) (begins_roomy p.profile.mss h.small p h.both);
      }

  next_on : (p : PathState C) → PathRoomy p → PathRoomy (next_round p)
  next_on p h = begins_on (record p { clock = p.until; until = p.until + 100 }) (record { small = h.small; both = record { a = h.both.a; b = h.both.b } })

  member_takes_on : (k : Codec C) (r : Reply) (m : Actor C) → MemberRoomy m → MemberRoomy (member_takes k r m)
  member_takes_on k r (App a) h = tt
  member_takes_on k r (Path p) h = takes_on k r p h

  member_next_on : (m : Actor C) → MemberRoomy m → MemberRoomy (member_next m)
  member_next_on (App a) h = tt
  member_next_on (Path p) h = next_on p h

  pub always_roomy : (k : Codec C) (start : Start) → NumbersFit start → (turns : List Turn) → Every (λ c. MemberRoomy c.member) (reached k start turns).crew
  always_roomy k start fit turns = run_lifted k (λ c. MemberRoomy c.member)
      (λ books c x asks h. member_takes_on k (answer_to books x) c.member h) (λ stamp c over h. member_next_on c.member h) turns (opened_world start)
      (opened_lifted (λ c. MemberRoomy c.member) start tt tt (λ number plan there.
      (let few = fit.size.each number plan there in
      let small : plan.mss ≤ 65535 = omega (arith, few) in
      begins_on (waiting_path (path_begins start number plan) start.lines) (record { small = small; both = record { a = opens_one plan.mss small; b = opens_one plan.mss small } }))))

-- ---- an end of which nothing is outstanding

no_records : (e : PathEnd) → (IsOutstanding e → ⊥) → e.tcp.send.records ≡ []
no_records e nothing_left = by e.tcp.send.records refl
  where
    by : (rs : List Record) → e.tcp.send.records ≡ rs → rs ≡ []
    by [] is = refl
    by (r ∷ rs) is = absurd (nothing_left (IsOutstanding.on_subflow r rs is))

may_so : (c : Profile) (s : Side) (e : PathEnd) → HoldsOne c.mss e.tcp.congestion.reno → e.tcp.send.nxt < 2 ^ 61 → e.tcp.recv.edge < 2 ^ 61 → may_finish e.tcp.state ≡ true → e.modes.clear ≡ true
    → e.tcp.send.records ≡ [] → may_ask c s e ≡ true
may_so c s e window next edge may clear no_record =
    let none_left : flight e.tcp.send ≡ 0 = ap (λ (rs : List Record). sum_by (octets_under_way e.tcp.send.una) rs) no_record in
    let least = window.least in
    let fits : nat_le (payload_size c) (room e.tcp) ≡ true = le-leb (payload_size c) (room e.tcp) (omega (arith, least, none_left)) in
    let limit : is_at_limit e.tcp ≡ false = or_from (nat_le (2 ^ 61) e.tcp.send.nxt) (nat_le (2 ^ 61) e.tcp.recv.edge) (lt-leb (2 ^ 61) e.tcp.send.nxt next) (lt-leb (2 ^ 61) e.tcp.recv.edge edge) in
    let bytes : may_send_data c s e ≡ true = ap (λ b. b || (e.modes.identity || (is_side_a s && not (is_joined c)))) clear in
    and_from (may_finish e.tcp.state) (nat_le (payload_size c) (room e.tcp) && (not (is_at_limit e.tcp) && may_send_data c s e)) may
    (and_from (nat_le (payload_size c) (room e.tcp)) (not (is_at_limit e.tcp) && may_send_data c s e) fits
    (and_from (not (is_at_limit e.tcp)) (may_send_data c s e) (ap not limit) bytes))

-- ---- the world

module _ (start : Start) (turns : List Turn) (size : HasRoom start) (fit : NumbersFit start) where
  abbrev w : WorldState Carried
  w = reached values start turns

  path_windows : (c : Profile) (p : PathState Carried) → p.profile ≡ c → PathTells c p → PathRoomy p → HasWindows p
  path_windows c p profile told h = record {
    least = elim [ A ↦ h.both.a.least | B ↦ h.both.b.least ];
    greatest = elim [ A ↦ h.both.a.greatest | B ↦ h.both.b.greatest ];
    unsent = unsent;
    asks = λ s may clear nothing_left. unsent s may clear (no_records (end_at s p) nothing_left);
  }
    where
      short : (s : Side) (e : PathEnd) → EndTells c s e → HoldsOne p.profile.mss e.tcp.congestion.reno → may_finish e.tcp.state ≡ true → e.modes.clear ≡ true → e.tcp.send.records ≡ []
          → may_ask p.profile s e ≡ true
      short s e tells window may clear no_record =
          let next = tells.sender.next in let edge = tells.edge in may_so p.profile s e window (omega (arith, next)) (omega (arith, edge)) may clear no_record

      unsent : (s : Side) → may_finish (end_at s p).tcp.state ≡ true → (end_at s p).modes.clear ≡ true → (end_at s p).tcp.send.records ≡ [] → may_ask p.profile s (end_at s p) ≡ true
      unsent A may clear no_record = short A p.a told.a h.both.a may clear no_record
      unsent B may clear no_record = short B p.b told.b h.both.b may clear no_record

  windows : (actor : ℕ) (c : ActorCrew Carried) → slice_get w.crew actor ≡ Some c → HoldsOfKind (λ app. Unit {0}) HasWindows c.member
  windows actor c there =
      let h = (always_shown start turns size).1.0 in
      each_actor (λ i d. HoldsOfKind (λ app. Unit {0}) HasWindows d.member) h.cast tt tt
      (λ n x at.
      (let path = h.paths.each n n x (omega arith) at in
      let told = (subst (WorldTells start) h.is (always_tells start turns size fit)).members (suc (suc n)) (walking x) (path_actor h.cast n x at) path.plan path.plan_there in
      let roomy = (always_roomy values start fit turns).each (suc (suc n)) (walking x) (subst (λ (v : WorldState Carried). slice_get v.crew (suc (suc n)) ≡ Some (walking x)) (sym h.is) (path_actor h.cast n x at)) in
      path_windows (path_begins start n path.plan).profile x.path path.shows.profile told roomy))
      actor c (subst (λ (v : WorldState Carried). slice_get v.crew actor ≡ Some c) h.is there)

pub who_is_done_may_ask : WhoIsDoneMayAsk values
who_is_done_may_ask start turns size fit actor c there = windows start turns size fit actor c there

member_shown : (m : Actor Carried) → HoldsOfKind (λ app. Unit {0}) HasWindows m → HoldsOfKind (λ app. Unit {0}) HasWindows (shown_member m)
member_shown (App a) h = tt
member_shown (Path p) h = record { least = elim [ A ↦ h.least A | B ↦ h.least B ]; greatest = elim [ A ↦ h.greatest A | B ↦ h.greatest B ]; unsent = elim [ A ↦ h.unsent A | B ↦ h.unsent B ]; asks = elim [ A ↦ h.asks A | B ↦ h.asks B ] }

pub who_is_done_may_ask_in_octets : WhoIsDoneMayAsk octets
who_is_done_may_ask_in_octets start turns size fit actor c there =
    let v : WorldState Carried = reached values start turns in
    let found = in_map shown_crew v.crew actor c (subst (λ (u : WorldState (List ℕ)). slice_get u.crew actor ≡ Some c) (run_fresh start turns size fit) there) in
    subst (λ (y : ActorCrew (List ℕ)). HoldsOfKind (λ app. Unit {0}) HasWindows y.member) found.2 (member_shown found.0.member (windows start turns size fit actor found.0 found.1))
