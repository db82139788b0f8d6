-- What the segments of an exchange after an expiry make of the ends, between living ends of path 0 of a mild connection.
use Rattle.std.proofs.Common.{◌≡◌, refl, sym, subst, ap, ◌∙◌, inl, inr, ◌⊎◌, ⊎_elim, true≢false, ℕ, ◌+◌, ◌^◌, ◌<◌, ◌≤◌, arith, nat_le, not, ◌&&◌, ◌||◌, is_none, Bool, true, false, Option, Some, None, List, [], length, option_map}
use Rattle.std.specs.List.{list_any}
use Rattle.std.proofs.lemmas.Bool.{lt-leb}
use Rattle.std.proofs.lemmas.Option.{same_Some}
use Rattle.sides.specs.declared.side.Side.{Side}
use Rattle.sides.specs.Side.{peer}
use Rattle.path_segments.specs.Heard.{HeardSegment}
use Rattle.path_segments.specs.Laws.{meant}
use Rattle.path_segments.specs.Spelled.{PlainSegment}
use Rattle.path_segments.specs.declared.position.HeardPosition.TheVariants.{At}
use Rattle.link_model.specs.Steps.{due_of, segments_sent}
use Rattle.link_model.specs.declared.flight.Flight.{Flight}
use Rattle.subflow_tcp.specs.Judging.{is_at, is_repeated_syn, meaning_of}
use Rattle.subflow_tcp.specs.Segments.{Copy, occupied}
use Rattle.subflow_tcp.specs.declared.handshake.State.{State as EndPhase}
use Rattle.subflow_tcp.specs.declared.handshake.State.TheVariants as phase
use Rattle.subflow_tcp.specs.declared.verdicts.Meaning.{Meaning}
use Rattle.subflow_tcp.specs.declared.verdicts.Meaning.TheVariants as means
use Rattle.subflow_tcp.specs.State.{EndState, is_at_limit}
use Rattle.subflow_tcp.specs.States.{is_half_open}
use Rattle.path_agenda.specs.Items.{wants_ack}
use Rattle.path_core.specs.Arrival.{acknowledged_in, copy_of, heard_in, judged_in}
use Rattle.path_core.specs.End.{PathEnd}
use Rattle.path_core.specs.Judged.{is_taken}
use Rattle.path_core.specs.MpJoin.{is_joined}
use Rattle.path_core.specs.OptionsIn.{items_of, options_heard}
use Rattle.path_core.specs.State.{PathState, end_at}
use Rattle.path_core.specs.Values.{Carried, as_arrived, values}
use Rattle.path_core.specs.declared.judged.Judged.TheVariants as judged
use Rattle.world_laws.specs.declared.member.Member.TheVariants.{Path}
use Rattle.world_laws.specs.Actors.{ActorCrew}
use Rattle.world_laws.specs.Members.{HoldsOfKind}
use Rattle.world_laws.specs.Openings.{Start}
use Rattle.world_laws.specs.RoundDone.{reached}
use Rattle.world_laws.specs.Worlds.{WorldState, Turn}
use Rattle.whole_paths.specs.AnsweredExpiries.{ComesNext, IsLivingTurn}
use Rattle.whole_paths.specs.AsFar.{stage}
use Rattle.whole_paths.specs.Brought.{Comes, IsTo}
use Rattle.whole_paths.specs.ClosingOwed.{OwesAnAnswer, PathsOwe}
use Rattle.whole_paths.specs.ComingCopies.{CopiesCount, PathsHear, is_answered}
use Rattle.whole_paths.specs.Copies.{CopiesAreNumbered, IsUnderWay}
use Rattle.whole_paths.specs.Due.{ArrivesAs, CopiesArriveSo}
use Rattle.whole_paths.specs.ExpiriesInARow.{in_a_row}
use Rattle.whole_paths.specs.ExpirySegments.{AcksSomething, AsksForAnAck, IsHeardInWindow}
use Rattle.whole_paths.specs.ExpirySegments.{AsksForAnAck as asks}
use Rattle.whole_paths.specs.Mild.{EndsGoByMappings, IsMildStart}
use Rattle.whole_paths.specs.Opening.{IsSyn}
use Rattle.whole_paths.proofs.Closing.{each_data_fin_is_said}
use Rattle.whole_paths.proofs.ClosingOwed.{what_wants_an_answer_is_owed_one}
use Rattle.whole_paths.proofs.ComingCopies.{each_copy_that_comes_counts}
use Rattle.whole_paths.proofs.DataAcksExchanged.{item_wants}
use Rattle.whole_paths.proofs.Due.{copies_arrive_as_sent}
use Rattle.whole_paths.proofs.Exchanges.{Shown, each_shown}
use Rattle.whole_paths.proofs.Mild.{mapping_is_kept}
use Rattle.whole_paths.proofs.MildDeaths.{living_path}
use Rattle.whole_paths.proofs.OpenCopies.{is_heard, is_heeded, is_other, is_refused, is_taken_there}
use Rattle.whole_paths.proofs.OpeningSyns.{again_so, answers_so, asks_so}
use Rattle.whole_paths.proofs.SentByTurns.{each_turn_sends_one_at_most}
use Rattle.whole_paths.proofs.SentSoon.{what_is_sent_comes_soon}

-- a segment that acknowledges something is no SYN that comes again
none_again : (c : Copy) (s : EndState) (n : ℕ) → c.acknowledged ≡ Some n → is_repeated_syn c s ≡ false
none_again c s n acks = subst (λ o. (not s.numbers.opens && (c.syn && (not c.rst && (is_none o && is_at 0 c.position)))) ≡ false) (sym acks) (none (not s.numbers.opens) c.syn (not c.rst))
  where
    none : (a b d : Bool) → (a && (b && (d && false))) ≡ false
    none true true true = refl
    none true true false = refl
    none true false d = refl
    none false b d = refl

-- an end past the handshake isn't half-open
pub past_whole : (x : EndPhase) → 3 ≤ stage x → is_half_open x ≡ false
past_whole phase.SynReceived high = absurd (omega (arith, high))
past_whole _ high = refl

module _ (start : Start) (turns : List Turn) (turn : Turn) (p q : PathState Carried) (t : IsLivingTurn start turns turn p q) (mild : IsMildStart start) where
  abbrev w : WorldState Carried
  w = reached values start turns

  of_path : (P : PathState Carried → Type 0) → HoldsOfKind (λ app. Unit {0}) P t.before.crew.member → P p
  of_path P h = subst (HoldsOfKind (λ app. Unit {0}) P) t.before.is h

  pub counts : CopiesCount p q
  counts = let found = each_copy_that_comes_counts w turn 2 t.before.crew t.before.there in subst (λ m. PathsHear (Path p) m) t.after.is (subst (λ m. PathsHear m t.after.crew.member) t.before.is
      (subst (λ (d : ActorCrew Carried). PathsHear t.before.crew.member d.member) (same_Some found.0 t.after.crew (sym found.1 ∙ t.after.there)) found.2))

  pub arrives_as : (f : Flight Carried) → IsUnderWay f p → ArrivesAs f p
  arrives_as f there = of_path CopiesArriveSo ((copies_arrive_as_sent values start turns).each 2 t.before.crew t.before.there) f there
      (let low = of_path CopiesAreNumbered (((what_is_sent_comes_soon values).numbered start turns).each 2 t.before.crew t.before.there) f there in
      let most = of_path (λ (p : PathState Carried). (s : Side) → segments_sent s p.link ≤ length turns) (each_turn_sends_one_at_most values start turns 2 t.before.crew t.before.there) (peer f.to) in
      let few = t.few in omega (arith, low, most, few))

  first : is_joined p.profile ≡ false
  first = (living_path start turns mild p t.before t.lived).first

  pub below_limit : (s : Side) → is_at_limit (end_at s p).tcp ≡ false
  below_limit s =
      let shown : Shown p = of_path Shown (each_shown start turns mild.plain.size mild.fit 2 t.before.crew t.before.there) in
      let nxt : (end_at s p).tcp.send.nxt < 2 ^ 31 = (shown.tells s).sender.next in let edge : (end_at s p).tcp.recv.edge < 2 ^ 31 = (shown.tells s).edge in
      ap (λ b. b || nat_le (2 ^ 61) (end_at s p).tcp.recv.edge) (lt-leb (2 ^ 61) (end_at s p).tcp.send.nxt (omega (arith, nxt))) ∙ lt-leb (2 ^ 61) (end_at s p).tcp.recv.edge (omega (arith, edge))

  owes_one : OwesAnAnswer values p q
  owes_one = let found = what_wants_an_answer_is_owed_one values w turn 2 t.before.crew t.before.there in subst (λ m. PathsOwe values (Path p) m) t.after.is (subst (λ m. PathsOwe values m t.after.crew.member) t.before.is
      (subst (λ (d : ActorCrew Carried). PathsOwe values t.before.crew.member d.member) (same_Some found.0 t.after.crew (sym found.1 ∙ t.after.there)) found.2))

  -- ---- a copy that comes next

  module _ (f : Flight Carried) (there : IsUnderWay f p) (n : ComesNext f p) where
    abbrev x : PlainSegment
    x = as_arrived f.carried

    -- it comes as it was sent
    abbrev pub comes : Comes values p
    comes = record {
      others = n.others;
      first = n.first;
      due = due_of f;
      next = n.next;
      segment = meant x;
      heard = (let a = arrives_as f there in ap (λ o. heard_in values f.to o p) a.there ∙ ap (λ x. Some (meant (as_arrived x))) a.same);
    }

    abbrev e : PathEnd
    e = end_at f.to p

    abbrev said : HeardSegment
    said = options_heard e (meant x)

    abbrev meaning : Meaning
    meaning = meaning_of (copy_of said) e.tcp

    pub is_to : (m : Meaning) → meaning ≡ m → IsTo values p comes (judged.As m)
    is_to m is = ap (λ b. judged_in b f.to said e) first ∙ ap judged.As is

    acks_so : (o : Option ℕ) → x.acknowledged ≡ o → (copy_of said).acknowledged ≡ o
    acks_so None is = ap (λ o. acknowledged_in (option_map (λ n. At n) o)) is
    acks_so (Some k) is = ap (λ o. acknowledged_in (option_map (λ n. At n) o)) is

    -- ---- where it acknowledges something

    module _ (opened : 2 ≤ stage e.tcp.state) (acks : AcksSomething x) where
      once : is_repeated_syn (copy_of said) e.tcp ≡ false
      once = none_again (copy_of said) e.tcp acks.up_to (acks_so (Some acks.up_to) acks.acknowledged)

      -- in the window it ends the row
      ends : e.tcp.recv.edge ≤ x.position → (x.position < e.tcp.recv.edge + 1048576) ⊎ ((x.position ≡ e.tcp.recv.edge + 1048576) × (x.payload ≡ [])) → (q ≡ p) ⊎ (in_a_row (end_at f.to q) ≡ 0)
      ends from within = counts.ends comes meaning (is_to meaning refl)
          (is_heard (copy_of said) e.tcp opened (t.lived f.to) (below_limit f.to) acks.rst acks.up_to (acks_so (Some acks.up_to) acks.acknowledged) acks.some x.position refl from within once)

      -- of what is taken what it asks for is owed
      taken : (m : Meaning) → meaning ≡ m → is_taken m ≡ true → (0 < occupied (copy_of said)) ⊎ (list_any wants_ack (items_of (is_joined p.profile) f.to said) ≡ true)
          → (q ≡ p) ⊎ ((end_at f.to q).tcp.due.ack ≡ true)
      taken (means.Taken position acknowledged) is so wants = owes_one.owes (record { copy = comes; position = position; acknowledged = acknowledged; taken = is_to (means.Taken position acknowledged) is }) wants
      taken _ is so wants = absurd (true≢false (sym so))

      answered : 3 ≤ stage e.tcp.state → is_answered meaning ≡ true → (q ≡ p) ⊎ ((end_at f.to q).tcp.due.ack ≡ true)
      answered past is = counts.acks comes meaning (is_to meaning refl) is
          (is_other (copy_of said) e.tcp opened (t.lived f.to) (below_limit f.to) acks.rst acks.up_to (acks_so (Some acks.up_to) acks.acknowledged) acks.some once) (past_whole e.tcp.state past)

      wanting : 3 ≤ stage e.tcp.state → (0 < occupied (copy_of said)) ⊎ (list_any wants_ack (items_of (is_joined p.profile) f.to said) ≡ true) → (q ≡ p) ⊎ ((end_at f.to q).tcp.due.ack ≡ true)
      wanting past wants = ⊎_elim
          (λ is. answered past is)
          (λ is. taken meaning refl is wants)
          (is_heeded (copy_of said) e.tcp opened (t.lived f.to) (below_limit f.to) acks.rst acks.up_to (acks_so (Some acks.up_to) acks.acknowledged) acks.some)

      maps : e.modes.identity ≡ false
      maps = (of_path EndsGoByMappings ((mapping_is_kept start turns mild).each 2 t.before.crew t.before.there) f.to).identity

      -- past the handshake
      asked : 3 ≤ stage e.tcp.state → AsksForAnAck e x → (q ≡ p) ⊎ ((end_at f.to q).tcp.due.ack ≡ true)
      asked past (asks.occupies some) = wanting past (inl some)
      asked past (asks.behind low none) = answered past
          (is_refused (copy_of said) e.tcp opened (t.lived f.to) (below_limit f.to) acks.rst acks.up_to (acks_so (Some acks.up_to) acks.acknowledged) acks.some x.position refl low none)
      asked past (asks.ends next place checksum options low fair) =
          wanting past (inr (item_wants 2 place (items_of (is_joined p.profile) f.to said) (each_data_fin_is_said x e (is_joined p.profile) f.to next place checksum [] options low fair maps)))

      -- at RCV.NXT, at a half-open end too, it is taken
      taken_first : x.syn ≡ false → acks.up_to ≤ e.tcp.send.nxt → x.position ≡ e.tcp.recv.edge → 0 < occupied (copy_of (meant x)) → (q ≡ p) ⊎ ((end_at f.to q).tcp.due.ack ≡ true)
      taken_first syn sent at some = taken (means.Taken x.position acks.up_to)
          (is_taken_there (copy_of said) e.tcp opened (t.lived f.to) (below_limit f.to) acks.rst acks.up_to (acks_so (Some acks.up_to) acks.acknowledged) acks.some x.position refl
          (omega (arith, at)) (inl (omega (arith, at))) once syn sent)
          refl (inl some)

    -- ---- a SYN

    module _ (syn : IsSyn x) where
      at_zero : (copy_of said).position ≡ Some 0
      at_zero = ap (λ n. Some n) syn.first

      pub opens : e.tcp.state ≡ phase.Listen → x.acknowledged ≡ None → IsTo values p comes (judged.As means.Opens)
      opens state none = is_to means.Opens (asks_so (copy_of said) e.tcp syn.syn syn.fin syn.rst at_zero syn.empty state (acks_so None none))

      accepts : (k : ℕ) → e.tcp.state ≡ phase.SynSent → x.acknowledged ≡ Some k → 0 < k → k ≤ e.tcp.send.nxt → IsTo values p comes (judged.As (means.Accepts k))
      accepts k state acks some sent = is_to (means.Accepts k) (answers_so (copy_of said) e.tcp syn.syn syn.fin syn.rst at_zero syn.empty k state (below_limit f.to) (acks_so (Some k) acks) some sent)

      -- at a half-open end it is answered by the SYN/ACK
      syn_again : e.tcp.state ≡ phase.SynReceived → 0 < e.tcp.recv.edge → (q ≡ p) ⊎ ((end_at f.to q).tcp.due.syn_ack ≡ true)
      syn_again state some = ⊎_elim
          (λ is. counts.syn_acks comes means.RepeatedSyn (is_to means.RepeatedSyn is) refl half)
          (λ is. counts.syn_acks comes means.Outside (is_to means.Outside is) refl half)
          (again_so (copy_of said) e.tcp syn.syn syn.fin syn.rst at_zero syn.empty (subst (λ (s : EndPhase). 2 ≤ stage s) (sym state) (omega arith)) (t.lived f.to) (below_limit f.to) some)
        where
          half : is_half_open e.tcp.state ≡ true
          half = ap is_half_open state

      -- at the end that opens it ends the row, and is acknowledged
      accepted_ends : (k : ℕ) → e.tcp.state ≡ phase.SynSent → x.acknowledged ≡ Some k → 0 < k → k ≤ e.tcp.send.nxt → (q ≡ p) ⊎ (in_a_row (end_at f.to q) ≡ 0)
      accepted_ends k state acks some sent = counts.ends comes (means.Accepts k) (accepts k state acks some sent) refl

      accepted_acks : (k : ℕ) → e.tcp.state ≡ phase.SynSent → x.acknowledged ≡ Some k → 0 < k → k ≤ e.tcp.send.nxt → (q ≡ p) ⊎ ((end_at f.to q).tcp.due.ack ≡ true)
      accepted_acks k state acks some sent = counts.acks comes (means.Accepts k) (accepts k state acks some sent) refl (λ is. cc) (ap is_half_open state)

  -- ---- a copy that comes to this side

  -- what holds of the side to which it comes holds of this side
  module _ (s : Side) (f : Flight Carried) (there : IsUnderWay f p) (to : f.to ≡ s) (n : ComesNext f p) where
    abbrev y : PlainSegment
    y = as_arrived f.carried

    pub window_ends_row : IsHeardInWindow s y p → (q ≡ p) ⊎ (in_a_row (end_at s q) ≡ 0)
    window_ends_row h = subst (λ u. IsHeardInWindow u y p → (q ≡ p) ⊎ (in_a_row (end_at u q) ≡ 0)) to (λ h. ends f there n h.opened h.acks h.from h.within) h

    pub past_is_asked : 3 ≤ stage (end_at s p).tcp.state → AcksSomething y → AsksForAnAck (end_at s p) y → (q ≡ p) ⊎ ((end_at s q).tcp.due.ack ≡ true)
    past_is_asked = subst (λ u. 3 ≤ stage (end_at u p).tcp.state → AcksSomething y → AsksForAnAck (end_at u p) y → (q ≡ p) ⊎ ((end_at u q).tcp.due.ack ≡ true)) to
        (λ past acks wants. asked f there n (omega (arith, past)) acks past wants)

    pub first_is_taken : 2 ≤ stage (end_at s p).tcp.state → (acks : AcksSomething y) → y.syn ≡ false → acks.up_to ≤ (end_at s p).tcp.send.nxt → y.position ≡ (end_at s p).tcp.recv.edge
        → 0 < occupied (copy_of (meant y)) → (q ≡ p) ⊎ ((end_at s q).tcp.due.ack ≡ true)
    first_is_taken = subst (λ u. 2 ≤ stage (end_at u p).tcp.state → (acks : AcksSomething y) → y.syn ≡ false → acks.up_to ≤ (end_at u p).tcp.send.nxt → y.position ≡ (end_at u p).tcp.recv.edge
        → 0 < occupied (copy_of (meant y)) → (q ≡ p) ⊎ ((end_at u q).tcp.due.ack ≡ true)) to
        (λ opened acks syn sent at some. taken_first f there n opened acks syn sent at some)

    pub half_is_asked : IsSyn y → (end_at s p).tcp.state ≡ phase.SynReceived → 0 < (end_at s p).tcp.recv.edge → (q ≡ p) ⊎ ((end_at s q).tcp.due.syn_ack ≡ true)
    half_is_asked syn = subst (λ u. (end_at u p).tcp.state ≡ phase.SynReceived → 0 < (end_at u p).tcp.recv.edge → (q ≡ p) ⊎ ((end_at u q).tcp.due.syn_ack ≡ true)) to (syn_again f there n syn)

    pub opening_ends_row : IsSyn y → (k : ℕ) → (end_at s p).tcp.state ≡ phase.SynSent → y.acknowledged ≡ Some k → 0 < k → k ≤ (end_at s p).tcp.send.nxt → (q ≡ p) ⊎ (in_a_row (end_at s q) ≡ 0)
    opening_ends_row syn = subst (λ u. (k : ℕ) → (end_at u p).tcp.state ≡ phase.SynSent → y.acknowledged ≡ Some k → 0 < k → k ≤ (end_at u p).tcp.send.nxt → (q ≡ p) ⊎ (in_a_row (end_at u q) ≡ 0)) to
        (accepted_ends f there n syn)

    pub opening_is_asked : IsSyn y → (k : ℕ) → (end_at s p).tcp.state ≡ phase.SynSent → y.acknowledged ≡ Some k → 0 < k → k ≤ (end_at s p).tcp.send.nxt → (q ≡ p) ⊎ ((end_at s q).tcp.due.ack ≡ true)
    opening_is_asked syn = subst (λ u. (k : ℕ) → (end_at u p).tcp.state ≡ phase.SynSent → y.acknowledged ≡ Some k → 0 < k → k ≤ (end_at u p).tcp.send.nxt → (q ≡ p) ⊎ ((end_at u q).tcp.due.ack ≡ true)) to
        (accepted_acks f there n syn)
