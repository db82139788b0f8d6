-- What there is room for is sent: as the turn is over no record waits that fits, and where there is room for a full segment the last grant was refused.
use Rattle.std.proofs.Common.{◌≡◌, refl, sym, subst, ap, ◌∙◌, ◌⊎◌, inl, inr, ⊎_elim, ℕ, ◌-◌, ◌^◌, ◌<◌, ◌≤◌, ◌&&◌, ◌||◌, nat_le, not, arith, Bool, true, false, if◌then◌else◌, Option, Some, None, List, [], ◌∷◌, ◌++◌, length, map, sum_by}
use Rattle.std.specs.List.{slice_get}
use Rattle.std.specs.Prelude.{find}
use Rattle.std.proofs.lemmas.Bool.{and_from, both_ways, cases_lt, le-leb, lt-leb, or_from}
use Rattle.sides.specs.declared.side.Side.{Side}
use Rattle.send_book.specs.State.{Sending}
use Rattle.subflow_send.specs.Records.{Record, end_of}
use Rattle.subflow_send.specs.Rules.{flight, is_unsent, octets_under_way}
use Rattle.subflow_tcp.specs.State.{is_at_limit}
use Rattle.subflow_tcp.specs.Sizes.{room}
use Rattle.subflow_tcp.specs.States.{may_finish}
use Rattle.path_core.specs.Choices.{is_side_a}
use Rattle.path_core.specs.Emission.{first_unsent, may_ask, may_send_data, payload_size}
use Rattle.path_core.specs.End.{PathEnd}
use Rattle.path_core.specs.MpJoin.{is_joined}
use Rattle.path_core.specs.Profile.{Profile}
use Rattle.path_core.specs.State.{PathState, end_at}
use Rattle.path_core.specs.Values.{Carried, values}
use Rattle.world_laws.specs.declared.member.Member.TheVariants.{App, Path}
use Rattle.world_laws.specs.Actors.{Actor, ActorCrew}
use Rattle.world_laws.specs.Members.{HoldsOfKind}
use Rattle.world_laws.specs.Openings.{PathPlan, Start, opened_world}
use Rattle.world_laws.specs.Promises.{written_by}
use Rattle.world_laws.specs.RoundNumbers.{BeginsRound, after_steps, last_on_standby, steps_since, taken_len}
use Rattle.world_laws.specs.Worlds.{Turn, WorldState, world_run}
use Rattle.world_laws.proofs.Rounds.PiecesFit.{MemberFits, SendFits, fits_at}
use Rattle.world_laws.proofs.Weaving.WholeRounds.{run_append}
use Rattle.world_laws.proofs.Worlds.Finding.{find_every}
use Rattle.whole_paths.specs.DataLeft.{HasDataLeft}
use Rattle.whole_paths.specs.PositionCounts.{CountsBytes}
use Rattle.whole_paths.specs.Pushed.{IsPushed, WaitsForRoom, WhatHasRoomIsSent}
use Rattle.whole_paths.specs.Mild.{IsMildStart}
use Rattle.whole_paths.specs.Room.{HasWindows}
use Rattle.whole_paths.specs.SentInOrder.{SendsInOrder, sent_before, sent_up_to}
use Rattle.whole_paths.specs.Straying.{IsOpen}
use Rattle.whole_paths.proofs.DataLeft.{what_is_left_is_data}
use Rattle.whole_paths.proofs.Exchanges.{Shown, each_shown}
use Rattle.whole_paths.proofs.OnePath.{Spends, reached_at, what_was_written_is_spent}
use Rattle.whole_paths.proofs.OpenPieces.{EndsAgreeWith, ends_agree}
use Rattle.whole_paths.proofs.OpenCourses.{IsFirstPath, each_first}
use Rattle.whole_paths.proofs.PositionCounts.{positions_count_bytes, spent_taken}
use Rattle.whole_paths.proofs.Room.{who_is_done_may_ask}
use Rattle.whole_paths.proofs.SentInOrder.{records_are_sent_in_order}
use Rattle.whole_paths.proofs.Standing.{never_on_standby}
use Rattle.whole_paths.proofs.Unroomy.{fit_always, what_is_unsent_waits_for_room}
use Rattle.whole_paths.proofs.Unstopped.{mild_paths_are_never_stopped}

-- ---- lists

-- where no record is to be sent all is sent
pub all_sent : (nxt : ℕ) (rs : List Record) → find is_unsent rs ≡ None → sent_before nxt rs ≡ nxt
all_sent nxt [] none = refl
all_sent nxt (r ∷ rs) none = by (is_unsent r) none (all_sent nxt rs)
  where
    by : (b : Bool) → (if b then Some r else find is_unsent rs) ≡ None → (find is_unsent rs ≡ None → sent_before nxt rs ≡ nxt) → (if b then r.pos else sent_before nxt rs) ≡ nxt
    by true none rest = cc
    by false none rest = rest none

-- ---- an end

-- what is known of an open end as the turn is over
pub record Known (c : Profile) (s : Side) (e : PathEnd) (taken : ℕ) : Type 0 where
  may : may_finish e.tcp.state ≡ true
  clear : e.modes.clear ≡ true
  pub small : 29 ≤ c.mss
  pub window : c.mss ≤ e.tcp.congestion.reno.window
  pub fits : SendFits (payload_size c) e.tcp.state e.tcp.send
  pub waits : (r : Record) → first_unsent e ≡ Some r → room e.tcp < length r.piece
  pub first : (r : Record) (others : List Record) → e.tcp.send.records ≡ r ∷ others → e.tcp.send.una < end_of r
  order : SendsInOrder e.tcp.send
  next : e.tcp.send.nxt < 2 ^ 61
  edge : e.tcp.recv.edge < 2 ^ 61
  took : taken < e.tcp.send.nxt

module _ (c : Profile) (s : Side) (e : PathEnd) (taken : ℕ) (h : Known c s e taken) where
  -- no more is under way than was sent from SND.UNA on
  pub under_way : flight e.tcp.send ≤ sent_up_to e.tcp.send - e.tcp.send.una
  under_way = by e.tcp.send.records refl
    where
      by : (rs : List Record) → e.tcp.send.records ≡ rs → flight e.tcp.send ≤ sent_up_to e.tcp.send - e.tcp.send.una
      by [] is = (let none : flight e.tcp.send ≡ 0 = ap (λ (rs : List Record). sum_by (octets_under_way e.tcp.send.una) rs) is in omega (arith, none))
      by (r ∷ others) is = h.order.under_way r others is (h.first r others is)

module _ (c : Profile) (s : Side) (e : PathEnd) (taken : ℕ) (h : Known c s e taken) (was : Sending) where
  too_little : room e.tcp < payload_size c → IsPushed c e was
  too_little less = IsPushed.full (let small = h.small in let window = h.window in let flown = under_way c s e taken h in omega (arith, less, small, window, flown))

  asks : payload_size c ≤ room e.tcp → may_ask c s e ≡ true
  asks enough =
      let fits : nat_le (payload_size c) (room e.tcp) ≡ true = le-leb (payload_size c) (room e.tcp) enough in
      let limit : is_at_limit e.tcp ≡ false = or_from (nat_le (2 ^ 61) e.tcp.send.nxt) (nat_le (2 ^ 61) e.tcp.recv.edge) (lt-leb (2 ^ 61) e.tcp.send.nxt h.next) (lt-leb (2 ^ 61) e.tcp.recv.edge h.edge) in
      let bytes : may_send_data c s e ≡ true = ap (λ b. b || (e.modes.identity || (is_side_a s && not (is_joined c)))) h.clear in
      and_from (may_finish e.tcp.state) (nat_le (payload_size c) (room e.tcp) && (not (is_at_limit e.tcp) && may_send_data c s e)) h.may
      (and_from (nat_le (payload_size c) (room e.tcp)) (not (is_at_limit e.tcp) && may_send_data c s e) fits
      (and_from (not (is_at_limit e.tcp)) (may_send_data c s e) (ap not limit) bytes))

  -- all bytes are taken that were written, or that lie before the edge of a window that is shut
  abbrev Takes : Type 0
  Takes = (length was.written ≤ taken) ⊎ ((e.sending.shut ≡ true) × (was.edge ≤ taken))

  pushed : (may_ask c s e ≡ true → Takes) → IsPushed c e was
  pushed takes = by (first_unsent e) refl
    where
      by : (o : Option Record) → first_unsent e ≡ o → IsPushed c e was
      by (Some r) is =
          let little = h.waits r is in
          let small = (find_every (λ (x : Record). length x.piece ≤ payload_size c) is_unsent e.tcp.send.records r h.fits.sizes is).0 in too_little (omega (arith, little, small))
      by None is = ⊎_elim
          (λ less. too_little less)
          (λ enough. (let all = all_sent e.tcp.send.nxt e.tcp.send.records is in let took = h.took in ⊎_elim
          (λ low. IsPushed.all (omega (arith, low, all, took)))
          (λ low. IsPushed.shut low.0 (let edge = low.1 in omega (arith, edge, all, took)))
          (takes (asks enough))))
          (cases_lt (room e.tcp) (payload_size c))

-- ---- a moment of path 0

module _ (start : Start) (plan : PathPlan) (turns : List Turn) (one : start.paths ≡ plan ∷ []) (mild : IsMildStart start) (c : ActorCrew Carried)
    (found : slice_get (world_run values turns (opened_world start)).crew 2 ≡ Some c) (p : PathState Carried) (is : c.member ≡ Path p) where
  of : (P : PathState Carried → Type 0) → HoldsOfKind (λ app. Unit {0}) P c.member → P p
  of P h = subst (HoldsOfKind (λ app. Unit {0}) P) is h

  counts : (s : Side) → CountsBytes (world_run values turns (opened_world start)) p s
  counts = of (λ q. (s : Side) → CountsBytes (world_run values turns (opened_world start)) q s) ((positions_count_bytes start turns plan one mild).each 2 c found)

  pub known : (s : Side) → IsOpen p → p.agenda ≡ [] → may_finish (end_at s p).tcp.state ≡ true → Known p.profile s (end_at s p) (taken_len 0 (written_by s (world_run values turns (opened_world start))).marks)
  known s opened over may =
      let shown : Shown p = of Shown (each_shown start turns mild.plain.size mild.fit 2 c found) in
      let next = (shown.tells s).sender.next in
      let edge = (shown.tells s).edge in
      let unfinished = (of (IsFirstPath start) (each_first start turns mild.plain.size c found)).may s may in
      record {
        may = may;
        clear = opened.clear s;
        small = (of (EndsAgreeWith (world_run values turns (opened_world start))) (ends_agree start turns mild.plain.size 2 c found)).room;
        window = (of HasWindows (who_is_done_may_ask start turns mild.plain.size mild.fit 2 c found)).least s;
        fits = fits_at s p (subst MemberFits is ((fit_always values start turns).each 2 c found));
        waits = of WaitsForRoom ((what_is_unsent_waits_for_room values start turns).each 2 c found) over s may;
        first = λ r others records. (of HasDataLeft (what_is_left_is_data start turns mild.plain.size mild.fit c found) s (opened.past s) (opened.living s) (inl unfinished) r others records).left;
        order = of (λ q. (t : Side) → SendsInOrder (end_at t q).tcp.send) ((records_are_sent_in_order values start turns).each 2 c found) s;
        next = omega (arith, next);
        edge = omega (arith, edge);
        took = (counts s).taken;
      }

-- ---- the law

module _ (start : Start) (plan : PathPlan) (begun : WorldState Carried) (order : List ℕ) (one : start.paths ≡ plan ∷ []) (mild : IsMildStart start) (begins : BeginsRound values start begun) where
  abbrev w : WorldState Carried
  w = after_steps values order begun

  abbrev turns : List Turn
  turns = (reached_at values start begun order begins).0 ++ map (λ actor. Turn.Step actor) order

  now : w ≡ world_run values turns (opened_world start)
  now =
      let at = reached_at values start begun order begins in
      ap (λ (v : WorldState Carried). world_run values (map (λ actor. Turn.Step actor) order) v) at.1 ∙ sym (run_append values at.0 (map (λ actor. Turn.Step actor) order) (opened_world start))

  module _ (c : ActorCrew Carried) (there : slice_get w.crew 2 ≡ Some c) (p : PathState Carried) (is : c.member ≡ Path p) where
    found : slice_get (world_run values turns (opened_world start)).crew 2 ≡ Some c
    found = subst (λ (v : WorldState Carried). slice_get v.crew 2 ≡ Some c) now there

    takes : (s : Side) → p.agenda ≡ [] → may_ask p.profile s (end_at s p) ≡ true → let n = taken_len 0 (written_by s (world_run values turns (opened_world start))).marks in
        (length (written_by s begun).written ≤ n) ⊎ (((end_at s p).sending.shut ≡ true) × ((written_by s begun).edge ≤ n))
    takes s over asks = subst (λ (v : WorldState Carried). (length (written_by s begun).written ≤ taken_len 0 (written_by s v).marks) ⊎ (((end_at s p).sending.shut ≡ true) × ((written_by s begun).edge ≤ taken_len 0 (written_by s v).marks))) now
        (by (what_was_written_is_spent start plan begun order one mild.plain.size mild.fit begins c p is there over s asks))
      where
        by : Spends s (written_by s begun) (steps_since 2 begun w) (end_at s p) (written_by s w)
            → (length (written_by s begun).written ≤ taken_len 0 (written_by s w).marks) ⊎ (((end_at s p).sending.shut ≡ true) × ((written_by s begun).edge ≤ taken_len 0 (written_by s w).marks))
        by (Spends.written all) = inl (spent_taken (length (written_by s begun).written) (written_by s w).marks all)
        by (Spends.edge shut all) = inr (shut, spent_taken (written_by s begun).edge (written_by s w).marks all)
        by (Spends.standby stands) = absurd (both_ways _ (subst (λ (v : WorldState Carried). last_on_standby s false (steps_since 2 begun v) ≡ false) (sym now) (never_on_standby values start plan turns one 2 s begun)) stands)
        by (Spends.stopped stop) = absurd (both_ways _ (subst (λ (v : WorldState Carried). (written_by s v).aborted ≡ false) (sym now) ((mild_paths_are_never_stopped start plan turns one mild).send s)) stop)

    is_pushed : IsOpen p → p.agenda ≡ [] → (s : Side) → may_finish (end_at s p).tcp.state ≡ true → IsPushed p.profile (end_at s p) (written_by s begun)
    is_pushed opened over s may = pushed p.profile s (end_at s p) _ (known start plan turns one mild c found p is s opened over may) (written_by s begun) (takes s over)

  pushes : (c : ActorCrew Carried) → slice_get w.crew 2 ≡ Some c → (m : Actor Carried) → c.member ≡ m
      → HoldsOfKind (λ app. Unit {0}) (λ (p : PathState Carried). IsOpen p → p.agenda ≡ [] → (s : Side) → may_finish (end_at s p).tcp.state ≡ true → IsPushed p.profile (end_at s p) (written_by s begun)) m
  pushes c there (App a) is = tt
  pushes c there (Path p) is = is_pushed c there p is

pub what_has_room_is_sent : WhatHasRoomIsSent
what_has_room_is_sent start plan begun order one mild begins c there = pushes start plan begun order one mild begins c there c.member refl
