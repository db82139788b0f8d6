-- Until A sends more than its SYN, or B may send a DSS, each copy of A's that takes B's end past the handshake shows both keys, which that hears in
-- its turn. So once the turn is over A's first piece waits, where B may still send none.
use Rattle.std.proofs.Common.{◌≡◌, refl, sym, subst, ap, ◌∙◌, ◌⊎◌, inl, inr, ⊎_elim, ℕ, ◌<◌, ◌≤◌, ◌&&◌, ◌==◌, arith, Bool, true, false, true≢false, if◌then◌else◌, Option, Some, None, IfSome, is_some, option_map, List, [], ◌∷◌, ◌++◌}
use Rattle.std.specs.List.{list_any, slice_get}
use Rattle.std.proofs.lemmas.Bool.{and_parts, both_ways, cases_lt}
use Rattle.std.proofs.lemmas.Option.{same_Some}
use Rattle.mptcp_options.specs.declared.capable.CapableKeys.TheVariants.{Both, WithData}
use Rattle.path_segments.specs.Heard.{HeardSegment}
use Rattle.path_segments.specs.Laws.{meant}
use Rattle.path_segments.specs.Options.{PlainOption}
use Rattle.path_segments.specs.Spelled.{PlainSegment}
use Rattle.path_segments.specs.declared.position.HeardPosition.TheVariants.{At}
use Rattle.path_segments.specs.declared.segment.PathOption.TheVariants.{Capable}
use Rattle.sides.specs.declared.side.Side.{Side}
use Rattle.sides.specs.declared.side.Side.TheVariants.{A, B}
use Rattle.sides.specs.Side.{peer}
use Rattle.link_script.specs.Places.{same_side}
use Rattle.link_model.specs.Steps.{arriving, is_due}
use Rattle.link_model.specs.declared.flight.Flight.{Flight}
use Rattle.stream_lanes.specs.Words.{Every}
use Rattle.subflow_send.specs.Records.{Record}
use Rattle.subflow_tcp.specs.Judging.{meaning_of}
use Rattle.subflow_tcp.specs.States.{is_dead}
use Rattle.subflow_tcp.specs.declared.handshake.State.{State}
use Rattle.subflow_tcp.specs.declared.handshake.State.TheVariants as phase
use Rattle.subflow_tcp.specs.declared.segments.Outgoing.{Outgoing}
use Rattle.subflow_tcp.specs.declared.verdicts.Meaning.{Meaning}
use Rattle.subflow_tcp.specs.declared.verdicts.Meaning.TheVariants as means
use Rattle.actor_desk.specs.declared.ask.Note.{Note}
use Rattle.actor_desk.specs.declared.ask.Reply.{Reply}
use Rattle.path_agenda.specs.declared.duty.Duty.{Duty}
use Rattle.path_agenda.specs.declared.duty.Duty.TheVariants as duties
use Rattle.path_agenda.specs.declared.duty.AskDuty.TheVariants as ask_duties
use Rattle.path_agenda.specs.declared.heard.Heard.TheVariants as says
use Rattle.path_core.specs.Arrival.{acknowledged_in, copy_of, heard_in}
use Rattle.path_core.specs.Choices.{item_at}
use Rattle.path_core.specs.DataFin.{is_all_granted, is_fin_due}
use Rattle.path_core.specs.End.{PathEnd}
use Rattle.path_core.specs.Judged.{judged_of}
use Rattle.path_core.specs.Looking.{first_sends, segment_sent}
use Rattle.path_core.specs.MpJoin.{is_joined}
use Rattle.path_core.specs.OptionsIn.{items_of, options_heard}
use Rattle.path_core.specs.Start.{waiting_path}
use Rattle.path_core.specs.State.{PathState, end_at}
use Rattle.path_core.specs.Steps.{begins_turn, next_round, takes}
use Rattle.path_core.specs.Values.{Carried, as_arrived, values}
use Rattle.path_core.specs.declared.events.Event.TheVariants as happenings
use Rattle.path_core.specs.declared.judged.Judged.TheVariants as judged
use Rattle.subflow_tcp.specs.States.{may_finish}
use Rattle.world_laws.specs.declared.member.Member.TheVariants.{App, Path}
use Rattle.world_laws.specs.Actors.{Actor, ActorCrew}
use Rattle.world_laws.specs.Openings.{Start, opened_world, path_begins}
use Rattle.world_laws.specs.Outcomes.{notes_or, was_told}
use Rattle.world_laws.specs.Promises.{tells_other_key}
use Rattle.world_laws.specs.RoundDone.{reached}
use Rattle.world_laws.specs.Worlds.{Turn, WorldState}
use Rattle.world_laws.proofs.Falls.ClearStays.{next_clear, takes_clear}
use Rattle.world_laws.proofs.Keys.ToldAreOwn.{keys_never_differ}
use Rattle.world_laws.proofs.Keys.WhatWakes.{next_happens}
use Rattle.world_laws.proofs.Rounds.Lifting.{opened_lifted}
use Rattle.world_laws.proofs.Weaving.WholeRounds.{run_append}
use Rattle.world_laws.proofs.Whole.Ends.{MeansIs, means_so}
use Rattle.world_laws.proofs.Worlds.Finding.{find_every, one_side}
use Rattle.whole_paths.specs.AsFar.{stage}
use Rattle.whole_paths.specs.Brought.{Brings, Comes, IsTo, IsToReset}
use Rattle.whole_paths.specs.Clear.{HasFirstPiece, TheFirstPieceWaits}
use Rattle.whole_paths.specs.DataAcksHeard.{IsToHear}
use Rattle.whole_paths.specs.DataLeft.{HasDataLeft}
use Rattle.whole_paths.specs.Delivery.{HasFinished}
use Rattle.whole_paths.specs.Finish.{IsPathAt}
use Rattle.whole_paths.specs.Mild.{EndsGoByMappings, EndsHaveKeys, HasKeys, IsMildStart, IsNeverBroken, IsUnbroken, LinkIsMild, treats_answer}
use Rattle.whole_paths.specs.Opening.{opens_to}
use Rattle.whole_paths.specs.OpeningConfirmed.{Confirming, ConfirmedOn, IsConfirmed, PathsConfirm}
use Rattle.whole_paths.specs.OpeningConfirmed.{ConfirmedOn as confirmed}
use Rattle.whole_paths.specs.OpeningConfirmed.{IsConfirmed as sure}
use Rattle.whole_paths.specs.OpeningConfirmed.Confirms.{keys}
use Rattle.whole_paths.specs.OpeningKeys.{ShowsKeys}
use Rattle.whole_paths.specs.OpeningKeys.ShowsKeys.{bare, with_data, dss, opens, resets, refuses}
use Rattle.whole_paths.specs.OpeningStates.{GoByTheHandshake, IsOfB}
use Rattle.whole_paths.specs.OpeningStates.{IsOfB as of_b}
use Rattle.whole_paths.specs.OpeningWaits.{IsAlive}
use Rattle.whole_paths.specs.Rising.{OpensBy}
use Rattle.whole_paths.specs.Rising.{OpensBy as opens_by}
use Rattle.whole_paths.proofs.Breaking.{never_breaks}
use Rattle.whole_paths.proofs.ByTurns.{Becomes, Of, OfFirst, each_first_moment, each_step}
use Rattle.whole_paths.proofs.Came.{AnswersReset, answers_reset, what_is_acknowledged_came}
use Rattle.whole_paths.proofs.ClearFirst.{Quiet, b_is_clear_first, syns_alone}
use Rattle.whole_paths.proofs.DataLeft.{EndsAreBegun, each_is_begun, what_is_left_is_data}
use Rattle.whole_paths.proofs.EarlySegments.{AllEarly, next_early}
use Rattle.whole_paths.proofs.EdgesStay.{alive_before, finished_is_done, nothing_comes_before}
use Rattle.whole_paths.proofs.Exchanges.{Shown, each_shown}
use Rattle.whole_paths.proofs.FirstSigns.{asks_for_itself}
use Rattle.whole_paths.proofs.GoingOn.{plain_none}
use Rattle.whole_paths.proofs.Handshaking.{AllFar, Given, PathMet, each_met, given, moment, never_joins, never_waits, next_far, takes_far}
use Rattle.whole_paths.proofs.Keyed.{keys_are_known}
use Rattle.whole_paths.proofs.MappedCopies.{EndBehind, each_behind}
use Rattle.whole_paths.proofs.Mild.{links_are_mild, mapping_is_kept}
use Rattle.whole_paths.proofs.OpenCourses.{IsFirstPath, each_first}
use Rattle.whole_paths.proofs.OpeningConfirmed.{each_confirmation_counts, signs_are_said}
use Rattle.whole_paths.proofs.OpeningKeys.{each_segment_shows_keys}
use Rattle.whole_paths.proofs.OpeningStates.{ends_go_by_the_handshake}
use Rattle.whole_paths.proofs.Reached.{EndsAreReached, each_is_reached, first_reached, none_left}
use Rattle.whole_paths.proofs.Rising.{begins_dead, next_dead, takes_open}
use Rattle.whole_paths.proofs.Saying.{ToSend}
use Rattle.whole_paths.proofs.SendsEnds.{who_is_done_is_clear}
use Rattle.whole_paths.proofs.Signless.{AllMute, IsSyn, SaysNone, first_mute, is_dss_option}
use Rattle.whole_paths.proofs.Syns.{apart}
use Rattle.whole_paths.proofs.UnderWay.{OfSent, next_all, none_begins, takes_all}
use Rattle.whole_paths.proofs.Waiting.{same_far}
use Rattle.path_core.specs.Turns.{FirstStands}
use Rattle.whole_paths.specs.Came.{HasCome}

-- ---- segments

-- A's segment shows both keys; or B's end isn't taken past the handshake by it
data IsKeyed (x : PlainSegment) : Type 0 where
  is_reset : x.rst ≡ true → IsKeyed x
  unacknowledging : x.acknowledged ≡ None → IsKeyed x
  is_syn : x.syn ≡ true → IsKeyed x
  alone : (flag_a flag_c : Bool) (own other : ℕ) (others : List PlainOption) → x.options ≡ Capable flag_a flag_c (Both own other) ∷ others → IsKeyed x
  with_piece : (flag_a flag_c : Bool) (own other len : ℕ) (checksum : Option ℕ) (others : List PlainOption) → x.options ≡ Capable flag_a flag_c (WithData own other len checksum) ∷ others → IsKeyed x

-- A sent more than its SYN, or B may send a DSS
abbrev HasMore : PathState Carried → Type 0
HasMore p = (1 < p.a.tcp.send.nxt) ⊎ (p.b.modes.clear ≡ true)

record CopyKeyed (p : PathState Carried) (f : Flight Carried) : Type 0 where
  whole : f.carried.stripped ≡ false
  shows : f.to ≡ B → IsKeyed f.carried.segment ⊎ HasMore p

all_later : (p q : PathState Carried) → (HasMore p → HasMore q) → (fs : List (Flight Carried)) → Every (CopyKeyed p) fs → Every (CopyKeyed q) fs
all_later p q more fs h = record {
  each = λ i f there. let x = h.each i f there in record { whole = x.whole; shows = λ to. ⊎_elim (λ keyed. inl keyed) (λ has. inr (more has)) (x.shows to) };
}

more_later : (p q : PathState Carried) → AllFar p q → (p.b.modes.clear ≡ true → q.b.modes.clear ≡ true) → HasMore p → HasMore q
more_later p q far on (inl more) = inl (let up = (far.at A).subflow.pushed in omega (arith, more, up))
more_later p q far on (inr clear) = inr (on clear)

module _ (start : Start) where
  -- what is known of the path at a moment
  record Known (p : PathState Carried) : Type 0 where
    given : Given start p
    met : PathMet p
    maps : EndsGoByMappings p
    link : LinkIsMild start.lines p
    stood : FirstStands p.agenda p
    third : p.a.modes.owes_third ≡ false
    close : p.a.notices.fast_closed ≡ false
    keyed : EndsHaveKeys p
    sure : p.a.modes.clear ≡ true → p.b.modes.clear ≡ true
    done : HasFinished p.a → p.a.modes.clear ≡ true
    finished : IsAlive p → p.a.tcp.send.finished ≡ true → HasFinished p.a
    answers : AnswersReset p
    syns : Quiet p.a → Every IsSyn p.a.tcp.send.records

  module _ (p : PathState Carried) (k : Known p) (alive : IsAlive p) where
    -- the FIN goes where the DATA_FIN is acknowledged
    open_still : p.a.modes.clear ≡ false → is_fin_due p.a ≡ true → ⊥
    open_still unclear due =
        let goes = (and_parts (may_finish p.a.tcp.state) _ due).1 in
        let maps_so = plain_none p.a (k.maps A).identity (k.maps A).own in
        let acked = (and_parts p.a.sending.close.own_acked p.a.sending.close.peer_came
        (subst (λ b. (if b then is_all_granted p.a.sending.known_end p.a.sending else (p.a.sending.close.own_acked && p.a.sending.close.peer_came)) ≡ true) maps_so goes)).0 in
        both_ways p.a.modes.clear unclear (k.done (HasFinished.acknowledged acked))

    -- A sent no more than its SYN, and knows B's key
    module _ (unclear : p.a.modes.clear ≡ false) (quiet : Quiet p.a) where
      muted : AllMute A (first_sends p.agenda p) p
      muted = first_mute A p (record { maps = k.maps; close = k.close; unclear = unclear; syns = k.syns quiet; open_still = open_still unclear }) k.stood

      shown_so : (x : PlainSegment) (key : ℕ) → SaysNone x.options → ShowsKeys key p.a x → IsKeyed x
      shown_so x key none (bare flag_a flag_c others is) = IsKeyed.alone flag_a flag_c p.a.modes.own_key key others is
      shown_so x key none (with_data flag_a flag_c len checksum others is) = IsKeyed.with_piece flag_a flag_c p.a.modes.own_key key len checksum others is
      shown_so x key none (dss next mapping others is) = absurd (true≢false (sym (ap (λ os. list_any is_dss_option os) is) ∙ none))
      shown_so x key none (opens is) = IsKeyed.is_syn is
      shown_so x key none (resets is) = IsKeyed.is_reset is
      shown_so x key none (refuses answer is rst) = IsKeyed.is_reset (rst ∙ subst (λ (o : Option Outgoing). IfSome o (λ (a : Outgoing). a.rst ≡ true)) is (k.answers A))

      -- of the segment that A sends
      abbrev AllKeyed : Option ToSend → Type 0
      AllKeyed o = IfSome o (λ (t : ToSend). t.from ≡ A → IsKeyed (segment_sent p t))

      early_keyed : (o : Option ToSend) → stage p.a.tcp.state ≤ 1 → AllEarly o p → AllKeyed o
      early_keyed None low early = tt
      early_keyed (Some t) low early = λ own. ⊎_elim
          (λ rst. IsKeyed.is_reset rst) (λ none. IsKeyed.unacknowledging none.1) (early (subst (λ s. stage (end_at s p).tcp.state ≤ 1) (sym own) low))

      late_keyed : (o : Option ToSend) (key : ℕ) → p.a.modes.peer_key ≡ Some key → AllMute A o p
          → IfSome o (λ t. t.from ≡ A → (key : ℕ) → (end_at t.from p).modes.peer_key ≡ Some key → (end_at t.from p).modes.clear ≡ false → (end_at t.from p).modes.identity ≡ false
          → (end_at t.from p).modes.owes_third ≡ false → ShowsKeys key (end_at t.from p) (segment_sent p t)) → AllKeyed o
      late_keyed None key known none shows = tt
      late_keyed (Some t) key known none shows = λ own. shown_so (segment_sent p t) key (none own)
          (subst (λ s. (end_at s p).modes.peer_key ≡ Some key → (end_at s p).modes.clear ≡ false → (end_at s p).modes.identity ≡ false → (end_at s p).modes.owes_third ≡ false → ShowsKeys key (end_at s p) (segment_sent p t)) own
          (shows own key) known unclear (k.maps A).identity k.third)

      keyed_so : (o : Option ℕ) → p.a.modes.peer_key ≡ o → is_some o ≡ true → AllKeyed (first_sends p.agenda p)
      keyed_so None key some = absurd (true≢false (sym some))
      keyed_so (Some key) known some = late_keyed (first_sends p.agenda p) key known muted (each_segment_shows_keys p)

      -- nothing is sent while the SYN/ACK is treated
      treating : treats_answer p.agenda ≡ true → AllKeyed (first_sends p.agenda p)
      treating = by p.agenda
        where
          by : (ds : List Duty) → treats_answer ds ≡ true → AllKeyed (first_sends ds p)
          by (duties.Ask (ask_duties.SynAnswered s) ∷ ds) is = tt
          by (duties.Ask (ask_duties.PeerKey s) ∷ ds) is = tt
          by [] is = absurd (true≢false (sym is))
          by (d ∷ ds) is = absurd (true≢false (sym is))

      all_keyed : AllKeyed (first_sends p.agenda p)
      all_keyed = ⊎_elim
          (λ low. early_keyed (first_sends p.agenda p) (omega (arith, low)) (next_early start p (moment start p k.given k.met)))
          (λ high. ⊎_elim (λ has. keyed_so p.a.modes.peer_key refl has) treating (k.keyed.a high (alive.living A)))
          (cases_lt (stage p.a.tcp.state) 2)

    sent_keyed : (q : PathState Carried) → (HasMore p → HasMore q) → OfSent (CopyKeyed q) (first_sends p.agenda p) p
    sent_keyed q more = by p.b.modes.clear refl
      where
        has_more : HasMore p → (o : Option ToSend) → OfSent (CopyKeyed q) o p
        has_more has None = tt
        has_more has (Some t) = λ f to carried. record { whole = ap (λ (c : Carried). c.stripped) carried; shows = λ own. inr (more has) }

        from_a : (s : Side) → peer s ≡ B → s ≡ A
        from_a A is = refl
        from_a B is = cc

        keyed_alone : (o : Option ToSend) → IfSome o (λ (t : ToSend). t.from ≡ A → IsKeyed (segment_sent p t)) → OfSent (CopyKeyed q) o p
        keyed_alone None all = tt
        keyed_alone (Some t) all = λ f to carried. record {
          whole = ap (λ (c : Carried). c.stripped) carried;
          shows = λ own. inl (subst IsKeyed (sym (ap (λ (c : Carried). c.segment) carried)) (all (from_a t.from (sym to ∙ own))));
        }

        unsure : p.b.modes.clear ≡ false → (a : Bool) → p.a.modes.clear ≡ a → (f : Bool) → p.a.tcp.send.finished ≡ f → OfSent (CopyKeyed q) (first_sends p.agenda p) p
        unsure none true clear f is = absurd (both_ways p.b.modes.clear none (k.sure clear))
        unsure none false unclear true sent = absurd (both_ways p.a.modes.clear unclear (k.done (k.finished alive sent)))
        unsure none false unclear false unsent = ⊎_elim
            (λ more. has_more (inl more) (first_sends p.agenda p))
            (λ few. keyed_alone (first_sends p.agenda p) (all_keyed unclear (omega (arith, few), unsent)))
            (cases_lt 1 p.a.tcp.send.nxt)

        by : (b : Bool) → p.b.modes.clear ≡ b → OfSent (CopyKeyed q) (first_sends p.agenda p) p
        by true clear = has_more (inr clear) (first_sends p.agenda p)
        by false none = unsure none p.a.modes.clear refl p.a.tcp.send.finished refl

  -- as long as no end is dead
  record AreKeyed (p : PathState Carried) : Type 0 where
    copies : IsAlive p → Every (CopyKeyed p) p.link.under_way

  takes_keyed : (r : Reply) (p : PathState Carried) → Known p → AreKeyed p → AreKeyed (takes values r p)
  takes_keyed r p k h = record {
    copies = λ alive.
        let q : PathState Carried = takes values r p in
        let was = alive_before p q (takes_far r p) alive in let more = more_later p q (takes_far r p) (takes_clear values r p).b.0 in
        takes_all (CopyKeyed q) r p k.link.strips k.link.alters (sent_keyed p k was q more) (all_later p q more p.link.under_way (h.copies was));
  }

  next_keyed : (p : PathState Carried) → AreKeyed p → AreKeyed (next_round p)
  next_keyed p h = record {
    copies = λ alive.
        let q : PathState Carried = next_round p in
        next_all (CopyKeyed q) p (all_later p q (more_later p q (next_far p) (next_clear p).b.0) p.link.under_way (h.copies (alive_before p q (next_far p) alive)));
  }

-- ---- a copy that takes B's end past the handshake

record Found (p : PathState Carried) (c : Comes values p) : Type 0 where
  flight : Flight Carried
  to : flight.to ≡ c.due.to
  keyed : CopyKeyed p flight
  heard : meant (as_arrived flight.carried) ≡ c.segment

found : (p : PathState Carried) → Every (CopyKeyed p) p.link.under_way → (c : Comes values p) → Found p c
found p copies c = by (arriving c.due p.link) refl c.heard
  where
    by : (o : Option (Flight Carried)) → arriving c.due p.link ≡ o → heard_in values c.due.to o p ≡ Some c.segment → Found p c
    by None there heard = cc
    by (Some f) there heard =
        let row = find_every (CopyKeyed p) (is_due c.due) p.link.under_way f copies there in
        let parts = and_parts (f.tick == c.due.tick) (same_side f.to c.due.to && f.number == c.due.copy) row.1 in
        record { flight = f; to = one_side f.to c.due.to (and_parts (same_side f.to c.due.to) (f.number == c.due.copy) parts.1).0; keyed = row.0; heard = same_Some _ c.segment heard }

module _ (p q : PathState Carried) (first : is_joined p.profile ≡ false) (maps : EndsGoByMappings p) (copies : Every (CopyKeyed p) p.link.under_way) (steps : List Note) (turn : Confirming values steps p q)
    (low : stage p.b.tcp.state < 3) (high : 3 ≤ stage q.b.tcp.state) where
  module _ (c : Comes values p) (to_b : c.due.to ≡ B) (pos acked : ℕ) (is : IsTo values p c (judged.As (means.Taken pos acked))) where
    abbrev e : PathEnd
    e = end_at c.due.to p

    abbrev h : HeardSegment
    h = options_heard e c.segment

    same_as : (x y : Meaning) → judged.As x ≡ judged.As y → x ≡ y
    same_as x y equal = cc

    fits : MeansIs (copy_of h) e.tcp (means.Taken pos acked)
    fits = subst (MeansIs (copy_of h) e.tcp)
        (same_as (meaning_of (copy_of h) e.tcp) (means.Taken pos acked) (sym (ap (λ j. judged_of j h.rst (items_of j c.due.to h) (meaning_of (copy_of h) e.tcp) e) first) ∙ is)) (means_so (copy_of h) e.tcp)

    brings : Brings values p
    brings = record { copy = c; position = pos; acknowledged = acked; taken = is }

    x : Found p c
    x = found p copies c

    abbrev sent : PlainSegment
    sent = x.flight.carried.segment

    options_are : (os : List PlainOption) → sent.options ≡ os → (as_arrived x.flight.carried).options ≡ os
    options_are os said = ap (λ b. if b then [] else sent.options) x.keyed.whole ∙ said

    abbrev Goes : Type 0
    Goes = HasMore p ⊎ ConfirmedOn B steps q

    confirms : (own other : ℕ) → item_at 0 (items_of false B (options_heard p.b (meant (as_arrived x.flight.carried)))) ≡ Some (says.Keys own other) → Goes
    unfolding brings
    confirms own other item = ⊎_elim
        (λ same. absurd (let state = ap (λ (y : PathState Carried). stage y.b.tcp.state) same in omega (arith, low, high, state)))
        (λ told. inr (subst (λ t. ConfirmedOn t steps q) to_b told))
        (turn.tells brings 0 (says.Keys own other) (keys own other)
        (ap (λ (y : HeardSegment). item_at 0 (items_of (is_joined p.profile) c.due.to (options_heard e y))) (sym x.heard)
        ∙ ap (λ j. item_at 0 (items_of j c.due.to (options_heard e (meant (as_arrived x.flight.carried))))) first
        ∙ ap (λ t. item_at 0 (items_of false t (options_heard (end_at t p) (meant (as_arrived x.flight.carried))))) to_b ∙ item))

    by_keys : IsKeyed sent → Goes
    by_keys (IsKeyed.is_reset rst) = absurd (both_ways sent.rst (ap (λ (y : HeardSegment). y.rst) x.heard ∙ fits.1.1.0) rst)
    by_keys (IsKeyed.is_syn syn) = absurd (both_ways sent.syn (ap (λ (y : HeardSegment). y.syn) x.heard ∙ fits.1.0) syn)
    by_keys (IsKeyed.unacknowledging none) = absurd
        (let acks : (copy_of h).acknowledged ≡ acknowledged_in (option_map (λ n. At n) sent.acknowledged) = ap (λ (y : HeardSegment). acknowledged_in y.acknowledged) (sym x.heard) in
        let some : None ≡ Some acked = sym (acks ∙ ap (λ o. acknowledged_in (option_map (λ n. At n) o)) none) ∙ fits.1.1.1.1 in cc)
    by_keys (IsKeyed.alone flag_a flag_c own other others said) =
        confirms other own (signs_are_said.keys (as_arrived x.flight.carried) p.b own other flag_a flag_c others (options_are _ said) (maps B).identity)
    by_keys (IsKeyed.with_piece flag_a flag_c own other len checksum others said) =
        confirms other own (signs_are_said.first_piece (as_arrived x.flight.carried) p.b own other len checksum flag_a flag_c others (options_are _ said) (maps B).identity)

    goes : Goes
    goes = ⊎_elim by_keys (λ more. inl more) (x.keyed.shows (x.to ∙ to_b))

  -- by what it means
  by_meaning : (b : IsOfB p.b.tcp.state) (c : Comes values p) → c.due.to ≡ B → (m : Meaning) → IsTo values p c (judged.As m) → 3 ≤ opens_to m → HasMore p ⊎ ConfirmedOn B steps q
  by_meaning b c to_b (means.Taken pos acked) is far = goes c to_b pos acked is
  by_meaning b c to_b (means.Accepts acked) is far = absurd (never p.b.tcp.state b (subst (λ t. (end_at t p).tcp.state ≡ phase.SynSent) to_b fits.0))
    where
      e : PathEnd
      e = end_at c.due.to p

      h : HeardSegment
      h = options_heard e c.segment

      same_as : (x y : Meaning) → judged.As x ≡ judged.As y → x ≡ y
      same_as x y equal = cc

      fits : MeansIs (copy_of h) e.tcp (means.Accepts acked)
      fits = subst (MeansIs (copy_of h) e.tcp)
          (same_as (meaning_of (copy_of h) e.tcp) (means.Accepts acked) (sym (ap (λ j. judged_of j h.rst (items_of j c.due.to h) (meaning_of (copy_of h) e.tcp) e) first) ∙ is)) (means_so (copy_of h) e.tcp)

      never : (x : State) → IsOfB x → x ≡ phase.SynSent → ⊥
      never x (of_b.listening is) opening = let both : phase.Listen ≡ phase.SynSent = sym is ∙ opening in cc
      never x (of_b.half_open is) opening = let both : phase.SynReceived ≡ phase.SynSent = sym is ∙ opening in cc
      never x (of_b.past up) opening = (let one = ap stage opening in omega (arith, up, one))
  by_meaning b c to_b means.Opens is far = absurd (omega (arith, far))
  by_meaning b c to_b _ is far = absurd (omega (arith, far))

-- ---- by turns

-- B's end past the handshake is confirmed, or A sent more than its SYN
record IsShown (p : PathState Carried) : Type 0 where
  shown : IsAlive p → 3 ≤ stage p.b.tcp.state → (1 < p.a.tcp.send.nxt) ⊎ IsConfirmed B p

more_shown : (p : PathState Carried) → HasMore p → (1 < p.a.tcp.send.nxt) ⊎ IsConfirmed B p
more_shown p (inl more) = inl more
more_shown p (inr clear) = inr (sure.clear clear)

pub becomes_far : (p q : PathState Carried) → Becomes values p q → AllFar p q × (p.b.modes.clear ≡ true → q.b.modes.clear ≡ true)
becomes_far p q Becomes.stays = (record { at = λ s. same_far (end_at s p) }, λ is. is)
becomes_far p q (Becomes.takes_a_reply r) = (takes_far r p, (takes_clear values r p).b.0)
becomes_far p q Becomes.begins_anew = (next_far p, (next_clear p).b.0)

-- it went past by a copy
becomes_open : (p q : PathState Carried) → Becomes values p q → stage p.b.tcp.state < 3 → 3 ≤ stage q.b.tcp.state → (is_dead q.b.tcp.state ≡ true) ⊎ OpensBy values 3 B p
becomes_open p q Becomes.stays low high = absurd (omega (arith, low, high))
becomes_open p q (Becomes.takes_a_reply r) low high = takes_open 3 (omega arith) (omega arith) values r p B low high
becomes_open p q Becomes.begins_anew low high = inl (next_dead 3 (omega arith) (omega arith) values B p low high)

module _ (start : Start) (mild : IsMildStart start) where
  known_at : (turns : List Turn) (p : PathState Carried) → IsPathAt 0 (reached values start turns) p → Known start p
  known_at turns p here = record {
    given = subst (Of (Given start)) here.is ((given start mild turns).each here.crew here.there);
    met = subst (Of PathMet) here.is ((each_met start mild turns).each here.crew here.there);
    maps = subst (Of EndsGoByMappings) here.is ((mapping_is_kept start turns mild).each 2 here.crew here.there);
    link = subst (Of (LinkIsMild start.lines)) here.is ((links_are_mild values start turns mild).each 2 here.crew here.there);
    stood = (subst (Of (Given start)) here.is ((given start mild turns).each here.crew here.there)).upright.passes.settled;
    third = alone.0 first.first;
    close = alone.1;
    keyed = (subst (Of HasKeys) here.is ((keys_are_known start turns mild).each 2 here.crew here.there)) first.first;
    sure = b_is_clear_first start turns mild p here;
    done = who_is_done_is_clear start turns mild p here;
    finished = λ alive sent. finished_is_done start mild turns p here A alive sent;
    answers = subst (Of AnswersReset) here.is (answers_reset start turns 2 here.crew here.there);
    syns = syns_alone A p (subst (Of Shown) here.is (each_shown start turns mild.plain.size mild.fit 2 here.crew here.there)) (subst (Of EndBehind) here.is (each_behind start turns mild.plain.size 2 here.crew here.there))
        (subst (Of EndsAreReached) here.is ((each_is_reached values start turns).each 2 here.crew here.there)) (first.kinds A);
  }
    where
      alone : (is_joined p.profile ≡ false → p.a.modes.owes_third ≡ false) × (p.a.notices.fast_closed ≡ false)
      alone = asks_for_itself A start turns mild p here

      first : IsFirstPath start p
      first = subst (Of (IsFirstPath start)) here.is (each_first start turns mild.plain.size here.crew here.there)

  known : (turns : List Turn) → OfFirst (Known start) (reached values start turns)
  known turns = record { each = λ c there. by c there c.member refl }
    where
      by : (c : ActorCrew Carried) → slice_get (reached values start turns).crew 2 ≡ Some c → (m : Actor Carried) → c.member ≡ m → Of (Known start) m
      by c there (App a) is = tt
      by c there (Path p) is = known_at turns p (record { crew = c; there = there; is = is })

  opened_keyed : OfFirst (AreKeyed start) (opened_world start)
  opened_keyed = record {
    each = λ c there. (opened_lifted (λ c. Of (AreKeyed start) c.member) start tt tt (λ number plan at. record { copies = λ alive. none_begins (CopyKeyed (begins_turn (waiting_path (path_begins start number plan) start.lines))) start number plan })).each 2 c there;
  }

  keyed_copies : (turns : List Turn) (p : PathState Carried) → IsPathAt 0 (reached values start turns) p → IsAlive p → Every (CopyKeyed p) p.link.under_way
  keyed_copies turns p here alive =
      (subst (Of (AreKeyed start)) here.is ((each_first_moment values start (Known start) (AreKeyed start) known opened_keyed (λ r p k h. takes_keyed start r p k h) (λ p k h. next_keyed start p h) turns).each here.crew here.there)).copies alive

  module _ (turns : List Turn) (turn : Turn) (p q : PathState Carried) (here : IsPathAt 0 (reached values start turns) p) (there : IsPathAt 0 (reached values start (turns ++ turn ∷ [])) q) (becomes : Becomes values p q) (alive : IsAlive q) where
    abbrev more : List Turn
    more = turns ++ turn ∷ []

    pub record Turned : Type 0 where
      pub steps : List Note
      pub confirming : Confirming values steps p q
      pub own_key : was_told tells_other_key steps ≡ false

    pub turned : Turned
    turned =
        let told = each_confirmation_counts values (reached values start turns) turn 2 here.crew here.there in
        let at : slice_get (reached values start more).crew 2 ≡ Some told.0 = subst (λ (u : WorldState Carried). slice_get u.crew 2 ≡ Some told.0) (sym (run_append values turns (turn ∷ []) (opened_world start))) told.1 in
        let same : told.0 ≡ there.crew = same_Some told.0 there.crew (sym at ∙ there.there) in
        record {
          steps = told.0.list;
          confirming = subst (λ m. PathsConfirm values told.0.list (Path p) m) (ap (λ (c : ActorCrew Carried). c.member) same ∙ there.is) (subst (λ m. PathsConfirm values told.0.list m told.0.member) here.is told.2);
          own_key = ap (λ o. was_told tells_other_key (notes_or o)) (sym at) ∙ keys_never_differ start more 2;
        }

    pub far : AllFar p q × (p.b.modes.clear ≡ true → q.b.modes.clear ≡ true)
    far = becomes_far p q becomes

    pub was : IsAlive p
    was = alive_before p q far.0 alive

    first : is_joined p.profile ≡ false
    first = (subst (Of (IsFirstPath start)) here.is (each_first start turns mild.plain.size here.crew here.there)).first

    unbroken : IsUnbroken q
    unbroken = (subst (Of IsNeverBroken) there.is ((never_breaks start more mild).each 2 there.crew there.there))
        (subst (Of (IsFirstPath start)) there.is (each_first start more mild.plain.size there.crew there.there)).first

    maps : EndsGoByMappings q
    maps = subst (Of EndsGoByMappings) there.is ((mapping_is_kept start more mild).each 2 there.crew there.there)

    never_reset : IsToReset B q.agenda → ⊥
    never_reset (IsToReset.broken reason is) = unbroken.broken B reason is
    never_reset (IsToReset.is_reset reason is) = unbroken.is_reset B reason is
    never_reset (IsToReset.stopped is) = unbroken.stopped B is

    pub confirmed_then : ConfirmedOn B turned.steps q → IsConfirmed B q
    confirmed_then (confirmed.on h) = h
    confirmed_then (confirmed.gone dead) = absurd (both_ways (is_dead q.b.tcp.state) (alive.living B) dead)
    confirmed_then (confirmed.reset is) = absurd (never_reset is)
    confirmed_then (confirmed.plain is) = absurd (both_ways q.b.modes.identity (maps B).identity is)
    confirmed_then (confirmed.refused is) = absurd (both_ways (was_told tells_other_key turned.steps) turned.own_key is)

    opened_so : stage p.b.tcp.state < 3 → 3 ≤ stage q.b.tcp.state → OpensBy values 3 B p → (1 < q.a.tcp.send.nxt) ⊎ IsConfirmed B q
    opened_so low high (opens_by.copy c to m is up) = ⊎_elim
        (λ has. more_shown q (more_later p q far.0 far.1 has))
        (λ told. inr (confirmed_then told))
        (by_meaning p q first (subst (Of EndsGoByMappings) here.is ((mapping_is_kept start turns mild).each 2 here.crew here.there)) (keyed_copies turns p here was) turned.steps turned.confirming low high
        (subst (Of (λ (x : PathState Carried). GoByTheHandshake x)) here.is ((ends_go_by_the_handshake values start turns).each 2 here.crew here.there)).b c to m is up)
    opened_so low high (opens_by.joins tick next) = absurd (never_waits start p (known_at turns p here).given (known_at turns p here).met (next_happens p (happenings.Joins tick) next))
    opened_so low high (opens_by.duty d others is joins) = absurd (never_joins start p (known_at turns p here).given (known_at turns p here).met d others is joins)

    shown_then : IsShown p → 3 ≤ stage q.b.tcp.state → (1 < q.a.tcp.send.nxt) ⊎ IsConfirmed B q
    shown_then h high = ⊎_elim
        (λ low. ⊎_elim (λ dead. absurd (both_ways (is_dead q.b.tcp.state) (alive.living B) dead)) (opened_so low high) (becomes_open p q becomes low high))
        (λ past. ⊎_elim (λ has. more_shown q (more_later p q far.0 far.1 (inl has))) (λ sure_before. inr (confirmed_then (turned.confirming.stays B sure_before))) (h.shown was past))
        (cases_lt (stage p.b.tcp.state) 3)

  opened_shown : OfFirst IsShown (opened_world start)
  opened_shown = record {
    each = λ c there. (opened_lifted (λ c. Of IsShown c.member) start tt tt (λ number plan at. record {
      shown = λ alive high. absurd (let p : PathState Carried = waiting_path (path_begins start number plan) start.lines in
          let dead = begins_dead 3 (omega arith) (omega arith) values B p (omega arith) high in both_ways (is_dead (begins_turn p).b.tcp.state) (alive.living B) dead);
    })).each 2 c there;
  }

  shown_at : (turns : List Turn) (p : PathState Carried) → IsPathAt 0 (reached values start turns) p → IsShown p
  shown_at turns p here = subst (Of IsShown) here.is ((each_step values start IsShown opened_shown
      (λ turns turn p q here there becomes h. record { shown = λ alive high. shown_then turns turn p q here there becomes alive h high }) turns).each here.crew here.there)

  -- ---- the first piece

  module _ (turns : List Turn) (p : PathState Carried) (here : IsPathAt 0 (reached values start turns) p) (alive : IsAlive p) (past : (s : Side) → 3 ≤ stage (end_at s p).tcp.state) (unsure : p.b.modes.clear ≡ false) where
    unclear : p.a.modes.clear ≡ false
    unclear = by p.a.modes.clear refl
      where
        by : (b : Bool) → p.a.modes.clear ≡ b → b ≡ false
        by false is = refl
        by true is = absurd (both_ways p.b.modes.clear unsure (b_is_clear_first start turns mild p here is))

    edge : p.b.tcp.recv.edge ≡ 1
    edge = nothing_comes_before start turns mild p here alive B unsure

    reached_so : EndsAreReached p
    reached_so = subst (Of EndsAreReached) here.is ((each_is_reached values start turns).each 2 here.crew here.there)

    una : p.a.tcp.send.una ≡ 1
    una =
        let begun = (subst (Of EndsAreBegun) here.is ((each_is_begun values start turns).each 2 here.crew here.there)) A in
        let came = subst (Of HasCome) here.is ((what_is_acknowledged_came start turns).each 2 here.crew here.there) in
        let low = begun.past (past A) (living_stage p.a.tcp.state (alive.living A)) in let high = came.una A (alive.living A) in let is = edge in omega (arith, low, high, is)
      where
        living_stage : (x : State) → is_dead x ≡ false → stage x ≤ 6
        living_stage phase.Dead living = absurd (true≢false living)
        living_stage _ living = omega arith

    unsent : p.a.tcp.send.finished ≡ false
    unsent = by p.a.tcp.send.finished refl
      where
        by : (b : Bool) → p.a.tcp.send.finished ≡ b → b ≡ false
        by false is = refl
        by true is = absurd (both_ways p.a.modes.clear unclear (who_is_done_is_clear start turns mild p here (finished_is_done start mild turns p here A alive is)))

    first_piece : 1 < p.a.tcp.send.nxt → HasFirstPiece p
    first_piece more = by p.a.tcp.send.records refl
      where
        by : (rs : List Record) → p.a.tcp.send.records ≡ rs → HasFirstPiece p
        by [] none = absurd (let all = none_left p.a.tcp (reached_so A) none in let is = una in omega (arith, all, more, is))
        by (r ∷ others) is =
            let data_left = subst (Of HasDataLeft) here.is (what_is_left_is_data start turns mild.plain.size mild.fit here.crew here.there) in
            let kind = (data_left A (past A) (alive.living A) (inl unsent) r others is).kind in
            let shown = subst (Of Shown) here.is (each_shown start turns mild.plain.size mild.fit 2 here.crew here.there) in
            let low = shown.behind A r others is kind in let high = first_reached p.a.tcp r others (reached_so A) is in let acked = una in
            record { first = r; others = others; records = is; kind = kind; position = omega (arith, low, high, acked); edge = edge }

    waits : p.agenda ≡ [] → HasFirstPiece p
    waits over = ⊎_elim first_piece never ((shown_at turns p here).shown alive (past B))
      where
        never : IsConfirmed B p → HasFirstPiece p
        never (sure.clear is) = absurd (both_ways p.b.modes.clear unsure is)
        never (sure.by_dss own h) = absurd (apart (sym own))
        never (sure.by_keys own other none h) = absurd (subst (λ ds. IsToHear B (says.Keys own other) p.b.treated.items ds) over h)

pub the_first_piece_waits : TheFirstPieceWaits
the_first_piece_waits start turns mild p here alive over past unsure = waits start mild turns p here alive past unsure over
