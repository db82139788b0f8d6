-- Rules of an end that leave the lanes alone.
use Rattle.world_laws.proofs.Words.{◌≡◌, refl, sym, ◌∙◌, ap, subst, ℕ, ◌-◌, inl, inr, ◌⊎◌, Bool, true, false, if◌then◌else◌, Option, Some, None, List, []}
use Rattle.world_laws.proofs.Words.{arith, both_ways, false≢true, IfSome, Verdict, Side, JoinSyn, ControlReply, KeptMapping, after_forget_from, without_held}
use Rattle.world_laws.proofs.Words.{after_keep_held, Pending, is_behind, EndPhase, after_begin, KeyPair, Reply, PathEnd, died, Notices, no_notices, after_look}
use Rattle.world_laws.proofs.Words.{modes_told, notices_told, died_unless_dead, is_listening, joined_by, opened_by, syn_of_window, with_mode_refused, with_timer_settled}
use Rattle.world_laws.proofs.Words.{after_firing, having_asked, is_wrong, forgotten_by, after_keep, after_pieces, is_dropped, is_not_kept, with_peer_data_fin}
use Rattle.world_laws.proofs.Words.{with_fin_told, after_dss, covered_by, with_failure, after_fell, with_plain_ack, fell_in, mode_in, after_keys, with_peer_key}
use Rattle.world_laws.proofs.Words.{keys_in, Profile, after_rate, Modes, Treated, nothing_treated, Every-nil, Has-map, Every, AckCopy, Lane, if_so}
use Rattle.loss_recovery.specs.declared.windows.Congestion.{Congestion}
use Rattle.loss_recovery.specs.Windows as windows
use Rattle.fallback_state.specs.declared.fall.Event.{Event}
use Rattle.byte_pieces.specs.Places.{cut}
use Rattle.subflow_tcp.specs.Expiring as expiring
use Rattle.subflow_tcp.specs.States as states
use Rattle.subflow_tcp.specs.Taking as taking
use Rattle.world_laws.proofs.Lanes.Arriving.{syn_both}
use Rattle.world_laws.proofs.Lanes.Hearing.{cut_shows, cut_there, under_cut, only_cut, dropped_shows, state_shows}
use Rattle.world_laws.proofs.Lanes.Records.{acknowledged_shows, expired_shows}
use Rattle.world_laws.proofs.Lanes.Showing.{Under, IsAtEdge, IsPastFin, KeptShows, HoldsShow, HasFin, is_unfinished, TreatedShows, EndShows, AcksShow, HasNone, HasSub, PairsShow, identity_of}
use Rattle.world_laws.proofs.Lanes.Ending.{Did, did_nothing, Alike, with_modes}
use Rattle.world_laws.proofs.Lanes.Growing.{past_behind, sender_stays}
use Rattle.world_laws.proofs.Lanes.Roads.{stays}
use Rattle.world_laws.proofs.Lanes.Taking.{forgets_lane, forgets, forgets_goes, keeps_held}
use Rattle.world_laws.proofs.Lanes.EndParts.{new_sender, new_receiver, new_acks, new_told, new_treated, new_pairs, new_held}

grown_told : (growth : ℕ) (o : Option Pending) (c : Congestion) → (windows.grown_by growth o c).told ≡ c.told
grown_told growth None c = refl
grown_told growth (Some p) c = refl

waiting_unfinished : (state : EndPhase) → states.is_waiting state ≡ true → is_unfinished state ≡ true
waiting_unfinished = elim [ EndPhase.Waiting ↦ λ is. refl | _ ↦ λ is. absurd (false≢true is) ]

listening_unfinished : (state : EndPhase) → is_listening state ≡ true → is_unfinished state ≡ true
listening_unfinished EndPhase.FinWait1 is = absurd (false≢true is)
listening_unfinished EndPhase.FinWait2 is = absurd (false≢true is)
listening_unfinished EndPhase.Closing is = absurd (false≢true is)
listening_unfinished EndPhase.LastAck is = absurd (false≢true is)
listening_unfinished EndPhase.TimeWait is = absurd (false≢true is)
listening_unfinished EndPhase.Dead is = absurd (false≢true is)
listening_unfinished _ is = refl

-- the modes that an end knows of, but for the fallback
told_alike : (r : Reply) (m : Modes) → Alike (modes_told r m) m
told_alike (Reply.Control (ControlReply.Standing mode standby sole notice)) m = record { identity = refl; own = refl; peer = refl; failed = refl }
told_alike _ m = record { identity = refl; own = refl; peer = refl; failed = refl }

went_alike : (r : Reply) (m : Modes) → Alike (mode_in r m) m
went_alike (Reply.Control (ControlReply.Verdict (Verdict.Went mode))) m = record { identity = refl; own = refl; peer = refl; failed = refl }
went_alike _ m = record { identity = refl; own = refl; peer = refl; failed = refl }

pub fell_alike : (event : Event) (r : Reply) (m : Modes) → Alike (fell_in event r m) m
fell_alike Event.PlainData r m = let a = went_alike r m in record { identity = a.identity; own = a.own; peer = a.peer; failed = a.failed }
fell_alike Event.PlainAck r m = let a = went_alike r m in record { identity = a.identity; own = a.own; peer = a.peer; failed = a.failed }
fell_alike _ r m = went_alike r m

keyed_alike : (r : Reply) (keys : Option KeyPair) (m : Modes) → Alike (keys_in r keys m) m
keyed_alike (Reply.Control ControlReply.Noted) (Some keys) m = record { identity = refl; own = refl; peer = refl; failed = refl }
keyed_alike _ keys m = record { identity = refl; own = refl; peer = refl; failed = refl }

-- where nothing is acknowledged, position 0 is
pub sub_of_none : {acks : List AckCopy} (window : ℕ) → HasNone acks window → HasSub acks 0 window
sub_of_none window h = Has-map (λ a none. record { sub_is = none.sub_is; window_is = none.window_is }) h

module _ (c : Profile) (s : Side) (out back : Lane) where
  abbrev Shows : PathEnd → Type 0
  Shows e = EndShows c s e out back

  -- what is acknowledged stays so, as long as nothing is told
  calmer : (asked after : Bool) → (after ≡ false → asked ≡ false) → {next window edge : ℕ} → AcksShow next window asked edge back → AcksShow next window after edge back
  calmer asked after calm h = record { windows = h.windows; latest = h.latest; due = λ none. h.due (calm none); sub = λ none. h.sub (calm none) }

  -- what was treated, changed as far as no lane has to do with it
  with_treated : (e : PathEnd) (t : Treated) → TreatedShows t out.acks back → (t.asked ≡ false → e.treated.asked ≡ false) → PairsShow e.modes t.infinite_mapping t.failed_mapping out back → Shows e
      → Shows (record e { treated = t })
  with_treated e t shows calm pairs h = record { sender = h.sender; receiver = h.receiver; acks = calmer _ _ calm h.acks; told = h.told; treated = shows; held = h.held; pairs = pairs }

  pub asked_shows : (e : PathEnd) → Shows e → Shows (having_asked e)
  asked_shows e h = with_treated e (having_asked e).treated h.treated (λ none. absurd (false≢true (sym none))) h.pairs h

  -- what is to be noted is no matter of a lane
  with_notices : (e : PathEnd) (n : Notices) → Shows e → Shows (record e { notices = n })
  with_notices e n h = h

  pub looked_shows : (r : Reply) (e : PathEnd) → Shows e → Shows (after_look r e)
  looked_shows r e h =
      with_notices (record e { modes = modes_told r e.modes }) (notices_told r e) (with_modes c s out back e (modes_told r e.modes) (told_alike r e.modes) h)

  pub fell_shows : (event : Event) (r : Reply) (e : PathEnd) → Shows e → Shows (after_fell event r e)
  fell_shows event r e h = with_modes c s out back e (fell_in event r e.modes) (fell_alike event r e.modes) h

  -- a check failed, which acknowledgements tell, or the reset of the path
  pub failure_shows : (o : Option KeptMapping) (r : Reply) (e : PathEnd) → IfSome o (λ _. out.alters ≡ true) → Shows e → Shows (with_failure o r e)
  failure_shows (Some kept) (Reply.Control (ControlReply.Verdict Verdict.SendFail)) e may h = new_pairs ((h.pairs.0, h.pairs.1, h.pairs.2, h.pairs.3, may, h.pairs.5)) h
  failure_shows (Some kept) (Reply.Control (ControlReply.Verdict (Verdict.BreakPath reason))) e may h = new_treated h.treated
      (new_pairs ((h.pairs.0, h.pairs.1, h.pairs.2, h.pairs.3, h.pairs.4, may)) h)
  failure_shows _ r e may h = h

  -- a Data ACK was taken
  pub noted_shows : (next : ℕ) (e : PathEnd) → Shows e → Shows (record e { modes = covered_by next e.modes; treated = record e.treated { data_ack_taken = true } })
  noted_shows next e h = h

  -- an acknowledgement without a Data ACK counts
  pub plain_ack_shows : (e : PathEnd) → Shows e → Shows (with_plain_ack e)
  plain_ack_shows e h = h

  -- a byte without a mapping leaves what the lane shows, and no DATA_FIN waits behind bytes
  pub unmapped_shows : (e : PathEnd) → Shows e → Shows (after_pieces e)
  unmapped_shows e h = new_treated (record {
    items = h.treated.items;
    fins = rw (h.held.none) h.treated.fins;
    answer = h.treated.answer;
    window = h.treated.window;
    sub = h.treated.sub;
    nothing = h.treated.nothing;
  })
      (new_held (record { each = h.held.each; summed = h.held.summed; none = rw (h.held.none) refl }) h)

  pub fin_told_shows : (e : PathEnd) → Shows e → Shows (with_fin_told e)
  fin_told_shows e h = h

  pub dss_shows : (e : PathEnd) → Shows e → Shows (after_dss s e)
  dss_shows e h = h

  pub key_shows : (key : Option ℕ) (e : PathEnd) → Shows e → Shows (with_peer_key key e)
  key_shows key e h = h

  pub keys_show : (r : Reply) (keys : Option KeyPair) (e : PathEnd) → Shows e → Shows (after_keys r keys e)
  keys_show r keys e shows = let h = with_modes c s out back e (keys_in r keys e.modes) (keyed_alike r keys e.modes) shows in h

  pub peer_end_shows : (e : PathEnd) → Shows e → Shows (with_peer_data_fin e)
  peer_end_shows e h = h

  pub timer_shows : (now : ℕ) (e : PathEnd) → Shows e → Shows (with_timer_settled now e)
  timer_shows now e h = h

  pub rate_shows : (path mss : ℕ) (r : Reply) (e : PathEnd) → Shows e → Shows (after_rate path mss r e)
  rate_shows path mss r e h = new_told (subst (λ told. HasNone out.acks told.window) (sym (grown_told _ e.tcp.congestion.pending e.tcp.congestion)) h.told) h

  -- ---- a join

  -- the waiting end opens
  opened_state : (b : Bool) (e : PathEnd) → (b ≡ true → is_unfinished e.tcp.state ≡ true) → Shows e → Shows (record e { tcp = if b then after_begin e.tcp else e.tcp })
  opened_state true e un h = new_sender (state_shows c s _ out e.tcp.state EndPhase.SynSent e.tcp.send (λ x. un refl) h.sender) h
  opened_state false e un h = h

  -- a join is refused, which tells the mode
  pub refused_shows : (r : Reply) (e : PathEnd) → Shows e → Shows (with_mode_refused r e)
  refused_shows r e h = with_modes c s out back e (with_mode_refused r e).modes (record { identity = refl; own = refl; peer = refl; failed = refl }) h

  pub opened_shows : (keys : Option KeyPair) (e : PathEnd) → Shows e → Shows (opened_by keys e)
  opened_shows None e h = h
  opened_shows (Some keys) e h = opened_state (states.is_waiting e.tcp.state) e (waiting_unfinished e.tcp.state) h

  -- the listening end takes the SYN
  syn_shows : (b : Bool) (window : ℕ) (e : PathEnd) → (b ≡ true → is_unfinished e.tcp.state ≡ true) → HasNone out.acks window → Shows e
      → Shows (record e { tcp = if b then taking.after_syn (taking.unkept None) (syn_of_window window) e.tcp else e.tcp })
  syn_shows true window e un has h =
      let both = syn_both c s _ _ out back (taking.unkept None) (syn_of_window window) e.tcp refl refl (un refl) (record { sender = h.sender; receiver = h.receiver }) in
      record { sender = both.sender; receiver = both.receiver; acks = h.acks; told = has; treated = h.treated; held = h.held; pairs = h.pairs }
  syn_shows false window e un has h = h

  pub joined_shows : (keys : KeyPair) (asked : JoinSyn) (e : PathEnd) → HasNone out.acks e.treated.window → Shows e → Shows (joined_by keys asked e)
  joined_shows keys asked e has h = syn_shows (is_listening e.tcp.state) e.treated.window e (listening_unfinished e.tcp.state) has h

  -- ---- death

  nothing_shows : HasNone out.acks 0 → TreatedShows nothing_treated out.acks back
  nothing_shows none = record { items = Every-nil _; fins = Every-nil _; answer = tt; window = tt; sub = sub_of_none 0 none; nothing = none }

  dead_tcp : (reset : Bool) (e : PathEnd) (t : Treated) → TreatedShows t out.acks back → (t.asked ≡ false → e.treated.asked ≡ false) → PairsShow e.modes t.infinite_mapping t.failed_mapping out back → Shows e
      → Shows (record e { tcp = taking.after_death reset e.tcp; treated = t })
  dead_tcp reset e t shows calm pairs h = record {
    sender = state_shows c s _ out e.tcp.state EndPhase.Dead _ (λ no_more. absurd (false≢true no_more))
        (acknowledged_shows c s _ out e.tcp.send.nxt e.tcp.state e.tcp.send h.sender);
    receiver = cut_shows e.tcp.fin_at e.receiving.mappings.live (identity_of e) back (e.tcp.recv.edge - e.tcp.recv.edge) (omega arith) e.tcp.recv h.receiver;
    acks = calmer _ _ calm h.acks;
    told = h.told;
    treated = shows;
    pairs = pairs;
    held = h.held;
  }

  -- once it was asked what is to be acknowledged
  pub died_shows : (e : PathEnd) → e.treated.asked ≡ false → Shows e → Shows (died e)
  died_shows e calm h =
      with_notices (record e { tcp = taking.after_death false e.tcp; treated = nothing_treated }) no_notices
      (dead_tcp false e nothing_treated (nothing_shows h.treated.nothing) (λ none. calm) (h.pairs.0, h.pairs.1, h.pairs.2, tt, h.pairs.4, tt) h)

  pub died_unless_shows : (e : PathEnd) → e.treated.asked ≡ false → Shows e → Shows (died_unless_dead e)
  died_unless_shows e calm h = if_so Shows (states.is_dead e.tcp.state) e (died e) h (died_shows e calm h)

  pub fired_shows : (now : ℕ) (e : PathEnd) → Shows e → Shows (after_firing now e)
  fired_shows now e h = by (expiring.is_sixth e.tcp)
    where
      by : (b : Bool) → Shows (record e { tcp = if b then taking.after_death true e.tcp else expiring.after_expiry now e.tcp })
      by true = dead_tcp true e e.treated h.treated (λ none. none) h.pairs h
      by false = new_sender (expired_shows c s _ out e.tcp.state e.tcp.send h.sender) h

  -- ---- what is kept

  -- where a checksum is wrong the lane forgets what the end does
  pub check_did : (checksums : Bool) (o : Option KeptMapping) (e : PathEnd) → Shows e → Did c s (forgotten_by checksums o e) out out back back
  check_did checksums None e h = did_nothing c s out back e h
  check_did checksums (Some kept) e h = by (is_wrong checksums kept e.tcp)
    where
      q : Lane
      q = forgets_lane back (kept.pos - 1)

      cut_edge : IsAtEdge e.tcp.recv back ⊎ IsPastFin e.tcp.fin_at e.tcp.recv back
          → IsAtEdge (after_forget_from kept.pos e.tcp.recv) q ⊎ IsPastFin e.tcp.fin_at (after_forget_from kept.pos e.tcp.recv) q
      cut_edge (inl at) =
          let same : kept.pos - e.tcp.recv.edge ≡ kept.pos - 1 - back.edge = (let edge_is = at.edge_is in omega (arith, edge_is)) in
          inl (record {
            edge_is = at.edge_is;
            under = subst (λ n. Under (cut n e.tcp.recv.places) q.kept) (sym same) (under_cut (kept.pos - 1 - back.edge) e.tcp.recv.places back.kept at.under);
            only = subst (λ n. Under q.kept (cut n e.tcp.recv.places) ⊎ (cut n e.tcp.recv.places ≡ [])) (sym same) (only_cut (kept.pos - 1 - back.edge) e.tcp.recv.places back.kept at.only);
            held = tt;
          })
      cut_edge (inr past) = inr (record { at_is = past.at_is; none = λ i b there. past.none i b (cut_there (kept.pos - e.tcp.recv.edge) e.tcp.recv.places i b there); edge_is = past.edge_is; fin_in = past.fin_in })

      by : (b : Bool) → Did c s (if b then record e { tcp = record e.tcp { recv = after_forget_from kept.pos e.tcp.recv } } else e) out out back back
      by false = did_nothing c s out back e h
      by true = record {
        out_after = out;
        back_after = q;
        out_moves = stays out;
        back_moves = forgets back (kept.pos - 1);
        sender = sender_stays out;
        receiver = forgets_goes back (kept.pos - 1);
        shows = new_receiver (record { same_mode = h.receiver.same_mode; edge = cut_edge h.receiver.edge; fin = h.receiver.fin; mapped = h.receiver.mapped })
            (new_acks (record { windows = h.acks.windows; latest = h.acks.latest; due = h.acks.due; sub = h.acks.sub })
            h);
      }

  pub keep_did : (e : PathEnd) → Shows e → Did c s (after_keep s e) out out back back
  keep_did e shows = by (is_dropped s e)
    where
      h : Shows (record e { treated = record e.treated { held_edge = (if is_not_kept s e then None else e.treated.held_edge) } })
      h = with_treated e (record e.treated { held_edge = (if is_not_kept s e then None else e.treated.held_edge) }) shows.treated (λ none. none) shows.pairs shows

      by : (b : Bool) → Did c s (record e { tcp = if b then taking.after_dropping_held e.tcp else taking.after_keeping_held e.tcp; treated = (record e.treated { held_edge = (if is_not_kept s e then None else e.treated.held_edge) }) }) out out back back
      by true = did_nothing c s out back _ (new_receiver (dropped_shows e.tcp.fin_at e.receiving.mappings.live (identity_of e) back e.tcp.recv h.receiver) h)
      by false = kept_by (is_behind e.tcp.fin_at e.tcp.recv.edge) refl h.receiver.edge
        where
          -- what is held is kept by the lane too
          kept_by : (passed : Bool) → is_behind e.tcp.fin_at e.tcp.recv.edge ≡ passed → IsAtEdge e.tcp.recv back ⊎ IsPastFin e.tcp.fin_at e.tcp.recv back
              → Did c s (record e { tcp = record e.tcp { recv = (if passed then without_held e.tcp.recv else after_keep_held e.tcp.recv) }; treated = (record e.treated { held_edge = (if is_not_kept s e then None else e.treated.held_edge) }) }) out out back back
          kept_by true is edge = did_nothing c s out back _ (new_receiver (dropped_shows e.tcp.fin_at e.receiving.mappings.live (identity_of e) back e.tcp.recv h.receiver) h)
          kept_by false is (inr past) = absurd (both_ways _ is (past_behind e.tcp.fin_at e.tcp.recv back past))
          kept_by false is (inl at) =
              let k = keeps_held back e.tcp.recv at in
              record {
                out_after = out;
                back_after = k.after;
                out_moves = stays out;
                back_moves = k.moves;
                sender = sender_stays out;
                receiver = k.goes;
                shows = record {
                  sender = h.sender;
                  receiver = record {
                    same_mode = ap (λ q. q.receiver_plain) k.same ∙ h.receiver.same_mode;
                    edge = inl k.at;
                    fin = subst (λ q. IfSome e.tcp.fin_at (HasFin q.fins)) (sym k.same) h.receiver.fin;
                    mapped = subst (λ q. Every (KeptShows q.maps) e.receiving.mappings.live) (sym k.same) h.receiver.mapped;
                  };
                  acks = subst (AcksShow e.receiving.next e.receiving.window e.treated.asked e.tcp.recv.edge) (sym k.same)
                      (record { windows = h.acks.windows; latest = h.acks.latest; due = h.acks.due; sub = h.acks.sub });
                  told = h.told;
                  treated = subst (TreatedShows (record e.treated { held_edge = (if is_not_kept s e then None else e.treated.held_edge) }) out.acks) (sym k.same)
                      h.treated;
                  pairs = subst (PairsShow e.modes e.treated.infinite_mapping e.treated.failed_mapping out) (sym k.same) h.pairs;
                  held = subst (λ q. HoldsShow c q.sent q.datas e.receiving.mappings.held e.receiving.mappings.live e.receiving.mapped_data_fin) (sym k.same) h.held;
                };
              }
