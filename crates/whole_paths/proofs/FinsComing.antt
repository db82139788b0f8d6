-- A DATA_FIN that is sent is harmed, or comes and is heard, unless more is sent behind it.
use Rattle.std.proofs.Common.{◌≡◌, refl, sym, subst, ap, ◌∙◌, ◌⊎◌, inl, inr, ⊎_elim, ℕ, ◌+◌, ◌-◌, ◌^◌, ◌<◌, ◌≤◌, arith, ◌&&◌, not, true, false, true≢false, if◌then◌else◌, Option, Some, None, IfSome, is_some, List, [], ◌∷◌}
use Rattle.std.proofs.lemmas.Bool.{and_parts, both_ways}
use Rattle.path_segments.specs.Heard.{HeardSegment}
use Rattle.path_segments.specs.Spelled.{PlainSegment}
use Rattle.path_segments.specs.declared.segment.PathOption.TheVariants.{Dss}
use Rattle.sides.specs.declared.side.Side.{Side}
use Rattle.sides.specs.declared.side.Side.TheVariants.{B}
use Rattle.sides.specs.Side.{peer}
use Rattle.link_model.specs.Steps.{changed}
use Rattle.link_model.specs.declared.flight.Due.{Due}
use Rattle.subflow_send.specs.Records.{Record}
use Rattle.subflow_tcp.specs.State.{is_some_record}
use Rattle.subflow_tcp.specs.States.{is_dead, may_finish}
use Rattle.path_agenda.specs.declared.duty.Duty.{Duty}
use Rattle.path_agenda.specs.declared.duty.Duty.TheVariants as duties
use Rattle.path_agenda.specs.declared.duty.SendDuty.TheVariants as send_duties
use Rattle.path_agenda.specs.declared.heard.Heard.TheVariants as says
use Rattle.path_core.specs.Choices.{item_at}
use Rattle.path_core.specs.DataFin.{data_fin_segment, is_data_fin_due, is_data_fin_owed}
use Rattle.path_core.specs.Emission.{ack_resent, first_record, resend_said}
use Rattle.path_core.specs.DssOut.{data_fin_mapping, fail_beside}
use Rattle.path_core.specs.End.{PathEnd}
use Rattle.path_core.specs.Looking.{first_sends, segment_sent}
use Rattle.path_core.specs.Modes.{sends_plainly}
use Rattle.path_core.specs.MpJoin.{is_joined}
use Rattle.path_core.specs.OptionsIn.{items_of, options_heard}
use Rattle.path_core.specs.OptionsOut.{ack_said, carried_said, opening_options, record_or_ack}
use Rattle.path_core.specs.State.{PathState, end_at}
use Rattle.path_core.specs.Turns.{FirstStands}
use Rattle.path_core.specs.Values.{Carried, as_arrived, values}
use Rattle.world_laws.specs.Openings.{Start}
use Rattle.world_laws.specs.RoundDone.{reached}
use Rattle.world_laws.specs.Worlds.{WorldState, Turn, after_turn}
use Rattle.world_laws.proofs.Whole.Falls.{MemberUpright, each_upright}
use Rattle.whole_paths.specs.BareSegments.{BareGoesOn, BareIsSent, BareSegmentsGoOn, IsBareFrom}
use Rattle.whole_paths.specs.BareSegments.{BareGoesOn as bare}
use Rattle.whole_paths.specs.Closing.{FinGoesOn, HearsDataFins, IsFinHeard, PathsHearFins}
use Rattle.whole_paths.specs.Closing.{FinGoesOn as fins}
use Rattle.whole_paths.specs.Finish.{is_harmed}
use Rattle.whole_paths.specs.FinsComing.{DataFinsComeSoon, DataFinsStaySoon, FinComesBy, FinIsSoon, FinIsTold, FinsGoOn}
use Rattle.whole_paths.specs.FinsComing.{FinIsSoon as is_soon}
use Rattle.whole_paths.specs.FinsComing.FinIsTold.{heard, comes, behind}
use Rattle.whole_paths.specs.Mending.{IsBegunTurn, LeavesRoomFor}
use Rattle.whole_paths.specs.Mild.{IsMildStart}
use Rattle.whole_paths.specs.WindowRoom.{IsRoomy}
use Rattle.whole_paths.specs.OpenCourses.{IsNow}
use Rattle.whole_paths.specs.Straying.{IsOpenFrom}
use Rattle.whole_paths.proofs.Arrivals.{sender_of}
use Rattle.whole_paths.proofs.BareSegments.{bare_go_on}
use Rattle.whole_paths.proofs.Closing.{each_data_fin_counts, each_data_fin_is_said}
use Rattle.whole_paths.proofs.Exchanges.{Known}
use Rattle.whole_paths.proofs.FinsSent.{FinGoesNext, FinsGoNext, fins_go_next}
use Rattle.whole_paths.proofs.RecordWaits.{last, nxt_up}
use Rattle.whole_paths.proofs.RecordsWell.{by_turn, clock, keyless, known, mapped_p, mapped_q, unbroken_q}
use Rattle.whole_paths.proofs.Straying.{never_resets}

-- ---- a segment

-- a number that is there
some_of : {X : Type 0} (o : Option X) → is_some o ≡ true → (x : X) × (o ≡ Some x)
some_of None is = absurd (true≢false (sym is))
some_of (Some x) is = (x, refl)

module _ (start : Start) (mild : IsMildStart start) (turns : List Turn) (turn : Turn) (before : IsNow (IsOpenFrom B) (reached values start turns)) (after : IsNow (IsOpenFrom B) (after_turn values turn (reached values start turns)))
    (s : Side) where
  abbrev w : WorldState Carried
  w = reached values start turns

  abbrev p : PathState Carried
  p = before.path

  abbrev q : PathState Carried
  q = after.path

  abbrev t : Side
  t = peer s

  abbrev facts : Known p
  facts = known start mild turns turn before after

  bares : BareSegmentsGoOn t p q
  bares = bare_go_on start mild turns turn before after t

  hears : HearsDataFins values p q
  hears = by_turn start mild turns turn before after (PathsHearFins values) (each_data_fin_counts values w turn 2 before.here.crew before.here.there)

  stood : FirstStands p.agenda p
  stood = (subst MemberUpright before.here.is ((each_upright start turns mild.plain mild.strips).each 2 before.here.crew before.here.there)).passes.settled

  fin_goes : FinGoesOn t q → IsFinHeard t q
  fin_goes (fins.on is) = is
  fin_goes (fins.gone dead) = absurd (both_ways (is_dead (end_at t q).tcp.state) (after.is_open.living t) dead)
  fin_goes (fins.reset is) = absurd (never_resets q (unbroken_q start mild turns turn before after after.is_open.first) t is)
  fin_goes (fins.plain is) = absurd (both_ways (end_at t q).modes.identity ((mapped_q start mild turns turn before after) t).identity is)
  fin_goes (fins.unkeyed none) = absurd (keyless start mild turns turn before after before.is_open after.is_open s t none)

  -- ---- one under way

  abbrev Told : ℕ → ℕ → Type 0
  Told position by = FinIsTold s position by q

  comes_on : (position by : ℕ) → FinComesBy s position by p → Told position by
  comes_on position by h = of_bare (bares.goes h.copy h.there h.bare)
    where
      of_bare : BareGoesOn t h.copy p q → Told position by
      of_bare (bare.on there still) = comes (record {
        copy = h.copy;
        there = there;
        at = h.at;
        bare = still;
        next = h.next;
        place = h.place;
        checksum = h.checksum;
        maps = h.maps;
        low = h.low;
        fair = h.fair;
        soon = h.soon;
      })
      of_bare (bare.is_taken b due segment) = ⊎_elim (λ same. comes (subst (FinComesBy s position by) (sym same) h)) (λ go. heard (fin_goes (subst (λ u. FinGoesOn u q) to go))) (hears.tells b 2 h.place said)
        where
          to : b.copy.due.to ≡ t
          to = ap (λ (d : Due). d.to) due ∙ h.bare.to

          said : item_at 2 (items_of (is_joined p.profile) b.copy.due.to (options_heard (end_at b.copy.due.to p) b.copy.segment)) ≡ Some (says.DataFin h.place)
          said = subst (λ (g : HeardSegment). item_at 2 (items_of (is_joined p.profile) b.copy.due.to (options_heard (end_at b.copy.due.to p) g)) ≡ Some (says.DataFin h.place)) (sym segment)
              (each_data_fin_is_said (as_arrived h.copy.carried) (end_at b.copy.due.to p) (is_joined p.profile) b.copy.due.to h.next h.place h.checksum [] h.maps h.low h.fair
              (subst (λ u. (end_at u p).modes.identity ≡ false) (sym to) ((mapped_p start mild turns turn before after) t).identity))
      of_bare (bare.overtaken over) =
          let past = bares.behind h.copy.carried.segment.position over in
          let nxt = ap (λ u. (end_at u p).tcp.send.nxt) (sender_of s) in
          let same = h.at in
          let up = nxt_up start mild turns turn before after s in behind (omega (arith, past, nxt, same, up))

  told_on : (position by : ℕ) → FinIsTold s position by p → Told position by
  told_on position by (heard is) = heard (fin_goes (hears.stays t is))
  told_on position by (comes h) = comes_on position by h
  told_on position by (behind past) = behind (let up = nxt_up start mild turns turn before after s in omega (arith, past, up))

  -- ---- one that is sent

  -- an acknowledgement with the end of the stream, from an end that may send a DSS and knows it
  module _ (room : LeavesRoomFor t p) (clear : (end_at s p).modes.clear ≡ true) (knows : is_some (end_at s p).sending.known_end ≡ true) where
    abbrev e : PathEnd
    e = end_at s p

    abbrev sent : PlainSegment
    sent = data_fin_segment s p

    the_end : (place : ℕ) × (e.sending.known_end ≡ Some place)
    the_end = some_of e.sending.known_end knows

    abbrev place : ℕ
    place = the_end.0

    options : sent.options ≡ Dss (Some e.receiving.next) (data_fin_mapping p.profile s (Some place)) ∷ []
    options =
        ap (λ b. if b then [] else (if e.modes.clear then Dss (Some e.receiving.next) (data_fin_mapping p.profile s e.sending.known_end) ∷ fail_beside e.sending.known_end e.modes else opening_options p.profile s e)) ((mapped_p start mild turns turn before after) s).identity
        ∙ ap (λ b. if b then Dss (Some e.receiving.next) (data_fin_mapping p.profile s e.sending.known_end) ∷ fail_beside e.sending.known_end e.modes else opening_options p.profile s e) clear
        ∙ ap (λ (fin : Option ℕ). Dss (Some e.receiving.next) (data_fin_mapping p.profile s fin) ∷ fail_beside fin e.modes) the_end.1

    is_bare : IsBareFrom (peer t) p sent
    is_bare = record { position = ap (λ u. (end_at u p).tcp.send.nxt) (sym (sender_of s)); rst = refl; syn = refl; fin = refl; payload = refl }

    on_its_way : BareIsSent t sent p q → FinComesBy s e.tcp.send.nxt (p.clock + 400) q
    on_its_way c = record {
      copy = c.sent.copy;
      there = c.sent.there;
      at = ap (λ (x : Carried). x.segment.position) whole;
      bare = c.bare;
      next = e.receiving.next;
      place = place;
      checksum = _;
      maps = ap (λ (x : Carried). (as_arrived x).options) whole ∙ options;
      low = (let low = (facts.tells s).window.next in omega (arith, low));
      fair = (let low : place < 2 ^ 31 = subst (λ o. IfSome o (λ n. n < 2 ^ 31)) the_end.1 (facts.tells s).stream.known_end in omega (arith, low));
      soon = c.sent.soon;
    }
      where
        whole : c.sent.copy.carried ≡ values.makes p.profile.spelling (peer t) sent
        whole =
            c.sent.carried
            ∙ ap (λ b. changed (values.strips p.profile.spelling (peer t)) (values.alters p.profile.spelling (peer t)) b c.sent.altered (values.makes p.profile.spelling (peer t) sent)) (c.sent.whole before.faithful.whole)
            ∙ ap (λ b. changed (values.strips p.profile.spelling (peer t)) (values.alters p.profile.spelling (peer t)) false b (values.makes p.profile.spelling (peer t) sent)) (c.sent.plain before.faithful.plain)

    abbrev Goes : PlainSegment → Type 0
    Goes x = (q ≡ p) ⊎ ((is_harmed (peer t) p q ≡ true) ⊎ BareIsSent t x p q)

    abbrev Comes : Type 0
    Comes = (q ≡ p) ⊎ ((is_harmed s p q ≡ true) ⊎ FinComesBy s e.tcp.send.nxt (p.clock + 400) q)

    handed_on : Goes sent → Comes
    handed_on = ⊎_elim (λ same. inl same) (λ on. inr (⊎_elim (λ harmed. inl (subst (λ u. is_harmed u p q ≡ true) (sender_of s) harmed)) (λ c. inr (on_its_way c)) on))

    -- the first time
    sent_first : (others : List Duty) → p.agenda ≡ duties.Send (send_duties.DataFin s) ∷ others → Comes
    sent_first others first =
        handed_on (subst (λ (ds : List Duty). IfSome (first_sends ds p) (λ x. x.from ≡ peer t → IsBareFrom (peer t) p (segment_sent p x) → Goes (segment_sent p x))) first (bares.sent room) (sym (sender_of s)) is_bare)

    -- and where the end is to send again, without a record, by which no third MP_JOIN and no fast close is answered
    module _ (others : List Duty) (first : p.agenda ≡ duties.Send (send_duties.Resend s) ∷ others) (none : e.tcp.send.records ≡ []) (third : e.modes.owes_third ≡ false) (close : e.notices.fast_closed ≡ false)
        (owed : is_data_fin_owed e ≡ true) where
      said : resend_said p.profile s e ≡ sent
      said =
          ap (λ (rs : List Record). if is_some_record rs then record_or_ack p.profile s (first_record e) e else ack_resent p.profile s e) none
          ∙ ap (λ b. if b then ack_said p.profile s e.tcp.send.nxt None e
          else (if e.notices.fast_closed then carried_said p.profile s e.notices.carrier e
          else (if is_data_fin_owed e then ack_said p.profile s e.tcp.send.nxt e.sending.known_end e
          else ack_said p.profile s (e.tcp.send.una - 1) None e))) third
          ∙ ap (λ b. if b then carried_said p.profile s e.notices.carrier e
          else (if is_data_fin_owed e then ack_said p.profile s e.tcp.send.nxt e.sending.known_end e
          else ack_said p.profile s (e.tcp.send.una - 1) None e)) close
          ∙ ap (λ b. if b then ack_said p.profile s e.tcp.send.nxt e.sending.known_end e else ack_said p.profile s (e.tcp.send.una - 1) None e) owed

      handed : IsBareFrom (peer t) p (resend_said p.profile s e) → Goes (resend_said p.profile s e)
      handed = subst (λ (ds : List Duty). IfSome (first_sends ds p) (λ x. x.from ≡ peer t → IsBareFrom (peer t) p (segment_sent p x) → Goes (segment_sent p x))) first (bares.sent room) (sym (sender_of s))

      pub sent_again : Comes
      sent_again = handed_on (subst (λ x. IsBareFrom (peer t) p x → Goes x) said handed is_bare)

  -- the duty that sends it first stands where the end may send a DSS and knows the end
  fair : (others : List Duty) → p.agenda ≡ duties.Send (send_duties.DataFin s) ∷ others → ((end_at s p).modes.clear ≡ true) × (is_some (end_at s p).sending.known_end ≡ true)
  fair others first =
      let e : PathEnd = end_at s p in
      let due : is_data_fin_due e ≡ true = subst (λ (ds : List Duty). FirstStands ds p) first stood in
      let mapped = and_parts (may_finish e.tcp.state) (not (sends_plainly e.modes) && (e.modes.clear && (is_some e.sending.known_end && (not e.sending.fin_sent && not e.sending.close.own_acked)))) due in
      let clear = and_parts (not (sends_plainly e.modes)) (e.modes.clear && (is_some e.sending.known_end && (not e.sending.fin_sent && not e.sending.close.own_acked))) mapped.1 in
      let known = and_parts e.modes.clear (is_some e.sending.known_end && (not e.sending.fin_sent && not e.sending.close.own_acked)) clear.1 in
      (known.0, (and_parts (is_some e.sending.known_end) (not e.sending.fin_sent && not e.sending.close.own_acked) known.1).0)

  sent_now : LeavesRoomFor t p → (others : List Duty) → p.agenda ≡ duties.Send (send_duties.DataFin s) ∷ others
      → (q ≡ p) ⊎ ((is_harmed s p q ≡ true) ⊎ FinComesBy s (end_at s p).tcp.send.nxt (p.clock + 400) q)
  sent_now room others first = sent_first room (fair others first).0 (fair others first).1 others first

  fins_go_on : FinsGoOn s p q
  fins_go_on = record { comes = told_on; sent = sent_now }

-- what comes by a tick comes by each later one
pub comes_later : (s : Side) (position by later : ℕ) (p : PathState Carried) → by ≤ later → FinComesBy s position by p → FinComesBy s position later p
comes_later s position by later p up h = record {
  copy = h.copy;
  there = h.there;
  at = h.at;
  bare = h.bare;
  next = h.next;
  place = h.place;
  checksum = h.checksum;
  maps = h.maps;
  low = h.low;
  fair = h.fair;
  soon = (let soon = h.soon in omega (arith, soon, up));
}

-- what is told by a tick is told by each later one
told_later : (s : Side) (position by later : ℕ) (p : PathState Carried) → by ≤ later → FinIsTold s position by p → FinIsTold s position later p
told_later s position by later p up (heard is) = heard is
told_later s position by later p up (behind past) = behind past
told_later s position by later p up (comes h) = comes (comes_later s position by later p up h)

-- ---- where windows have room

module _ (start : Start) (roomy : IsRoomy start) (turns : List Turn) (turn : Turn) (before : IsNow (IsOpenFrom B) (reached values start turns)) (after : IsNow (IsOpenFrom B) (after_turn values turn (reached values start turns)))
    (s : Side) where
  abbrev from : PathState Carried
  from = before.path

  abbrev to : PathState Carried
  to = after.path

  later_clock : from.clock ≤ to.clock
  later_clock = clock start roomy.mild turns turn before after

  go_on : FinsGoOn s from to
  go_on = fins_go_on start roomy.mild turns turn before after s

  told_still : (position : ℕ) → FinIsTold s position (from.clock + 400) from → FinIsSoon s to
  told_still position h = is_soon.told position (told_later s position (from.clock + 400) (to.clock + 400) to (let up = later_clock in omega (arith, up)) (go_on.comes position (from.clock + 400) h))

  next_so : FinGoesNext s from to
  next_so = by_turn start roomy.mild turns turn before after FinsGoNext (fins_go_next values (reached values start turns) turn 2 before.here.crew before.here.there) s

  abbrev Stays : Type 0
  Stays = (is_harmed s from to ≡ true) ⊎ FinIsSoon s to

  is_sent : (end_at s from).sending.fin_sent ≡ false → (others : List Duty) → from.agenda ≡ duties.Send (send_duties.DataFin s) ∷ others → Stays
  is_sent none others first = ⊎_elim
      (λ same. inr (is_soon.unsent (ap (λ (y : PathState Carried). (end_at s y).sending.fin_sent) same ∙ none)))
      (λ goes. ⊎_elim (λ harmed. inl harmed) (λ c. inr (is_soon.told (end_at s from).tcp.send.nxt (told_later s (end_at s from).tcp.send.nxt (from.clock + 400) (to.clock + 400) to (let up = later_clock in omega (arith, up)) (comes c)))) goes)
      (go_on.sent (roomy.room turns from before.here before.is_open.living (peer s)) others first)

  stays_soon : FinIsSoon s from → Stays
  stays_soon (is_soon.told position h) = inr (told_still position h)
  stays_soon (is_soon.unsent none) = ⊎_elim (λ same. inr (is_soon.unsent (same ∙ none))) (λ next. is_sent none next.0 next.1) next_so

pub data_fins_come_soon : DataFinsComeSoon
data_fins_come_soon start turns turn h s =
    subst (λ (u : WorldState Carried). (a : IsNow (IsOpenFrom B) u) → FinsGoOn s h.before.path a.path) (sym (last start h.mild turns turn)) (λ a. fins_go_on start h.mild turns turn h.before a s) h.after

-- where the end is to send again, and has no record, the DATA_FIN goes so, unless it is harmed
pub fin_goes_again : (start : Start) (turns : List Turn) (turn : Turn) (h : IsBegunTurn start turns turn) (s : Side) → LeavesRoomFor (peer s) h.before.path → (end_at s h.before.path).modes.clear ≡ true
    → is_some (end_at s h.before.path).sending.known_end ≡ true → (others : List Duty) → h.before.path.agenda ≡ duties.Send (send_duties.Resend s) ∷ others → (end_at s h.before.path).tcp.send.records ≡ []
    → (end_at s h.before.path).modes.owes_third ≡ false → (end_at s h.before.path).notices.fast_closed ≡ false → is_data_fin_owed (end_at s h.before.path) ≡ true
    → (h.after.path ≡ h.before.path)
    ⊎ ((is_harmed s h.before.path h.after.path ≡ true) ⊎ FinComesBy s (end_at s h.before.path).tcp.send.nxt (h.before.path.clock + 400) h.after.path)
fin_goes_again start turns turn h s room clear knows others first none third close owed =
    subst (λ (u : WorldState Carried). (a : IsNow (IsOpenFrom B) u) → (a.path ≡ h.before.path)
    ⊎ ((is_harmed s h.before.path a.path ≡ true) ⊎ FinComesBy s (end_at s h.before.path).tcp.send.nxt (h.before.path.clock + 400) a.path)) (sym (last start h.mild turns turn))
    (λ a. sent_again start h.mild turns turn h.before a s room clear knows others first none third close owed) h.after

pub data_fins_stay_soon : DataFinsStaySoon
data_fins_stay_soon start turns turn roomy h s =
    subst (λ (u : WorldState Carried). (a : IsNow (IsOpenFrom B) u) → FinIsSoon s h.before.path → (is_harmed s h.before.path a.path ≡ true) ⊎ FinIsSoon s a.path) (sym (last start h.mild turns turn))
    (λ a. stays_soon start roomy turns turn h.before a s) h.after
