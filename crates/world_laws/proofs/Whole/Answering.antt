-- What the replies make of path 0 as long as no options are taken away, and what it asks: nothing by which its side can fall back.
use Rattle.world_laws.proofs.Words.{◌≡◌, refl, sym, ◌∙◌, ap, subst, ℕ, zero, suc, ◌+◌, ◌&&◌, ◌||◌, not, nat_lt, inl, inr, ◌⊎◌, ⊎_elim, Bool, true, false}
use Rattle.world_laws.proofs.Words.{if◌then◌else◌, Option, Some, None, List, [], ◌∷◌, map, is_none, is_some, or_cases, or_parts, and_parts, both_ways}
use Rattle.world_laws.proofs.Words.{false≢true, same_Some, list_any, IfSome, FallEvent, is_starting, Side, A, B, peer, ControlCall, ControlReply, KeptMapping}
use Rattle.world_laws.proofs.Words.{Mappings, mapping_at, Receiving, Record, SendState, Syn, is_closed_to_segments, is_opening, may_finish, is_waiting}
use Rattle.world_laws.proofs.Words.{reset_segment, Occasion, Outgoing, PlainOption, PlainSegment, meant, meant_option, Piece, leaves, resets, stops}
use Rattle.world_laws.proofs.Words.{start_of_turn, Duty, SendDuty, StepDuty, AskDuty, Heard, KeyPair, keys_heard, PeerNotice, Ask, Reply, is_nil, stands}
use Rattle.world_laws.proofs.Words.{ask_for, passed, answered, PathEnd, died, answered_ack_out, is_connected, may_note, ack_out_ask, ack_segment, PathState}
use Rattle.world_laws.proofs.Words.{end_at, goes_on, with_agenda, settled, answers, asks_of, asks_first, takes, begins_turn, next_round, FirstStands, IsSettled}
use Rattle.world_laws.proofs.Words.{Carried, values, reset_of, reset_on, answered_break, refusal_of, break_ask, answered_data, answered_grant, answered_syn}
use Rattle.world_laws.proofs.Words.{data_stands, first_unsent, grant_in, granted, having_sent_unsent, is_syn_due, unsent_segment, answer_occasion, answer_of}
use Rattle.world_laws.proofs.Words.{answered_again, answered_answer, answered_resend, dead_answer, first_segment, outgoing_or, resend_occasion, resend_of}
use Rattle.world_laws.proofs.Words.{next_event, next_piece, piece_of, is_placed, answered_piece, data_fin_segment, having_sent_data_fin, answered_data_fin_sent}
use Rattle.world_laws.proofs.Words.{fin_segment_of, having_sent_fin, answered_fin, answered_plain_fin, answered_fin_heard, is_fin_set, is_clash, with_learned}
use Rattle.world_laws.proofs.Words.{with_data_fin, counts, told_next, item_ask, answered_heard, answered_item, item_of, item_stands, heard_stands}
use Rattle.world_laws.proofs.Words.{after_check_failed, after_fell, fell_duties, breaks_by_ack, answered_fell, lacks_data_ack, plain_ack_stands}
use Rattle.world_laws.proofs.Words.{plain_data_stands, opened_ask, answered_opened, keys_in, syn_ack_of, answered_syn_ack, is_opened_by_keys, is_opened_plainly}
use Rattle.world_laws.proofs.Words.{is_plain_syn, is_stopped_by, answered_fast_close, having_fast_closed, having_noted, answered_note, reset_options}
use Rattle.world_laws.proofs.Words.{segment_of, ack_said, Profile, having_sent, sent_on, item_at, EndWrites, OnlyAt, writes, side_of, ask_writes, copy_said}
use Rattle.world_laws.proofs.Words.{at_end, looking, May, may, asking}
use Rattle.path_agenda.specs.Agenda.{breaks}
use Rattle.path_core.specs.Addresses.{note_of}
use Rattle.path_core.specs.Emission.{Grant}
use Rattle.path_core.specs.FastClose.{fast_close_of}
use Rattle.path_core.specs.Standing.{acknowledges}
use Rattle.world_laws.proofs.Falls.FailedChecks.{check_failed_so, fail_answered_so, fail_asks_so}
use Rattle.world_laws.proofs.Falls.Verdicts.{fell_cases}
use Rattle.world_laws.proofs.Keys.AreDrawn.{is_past}
use Rattle.world_laws.proofs.Keys.DssIsTheSign.{Leads, LeadsWell, answers_lead, started_leads}
use Rattle.world_laws.proofs.Keys.Held.{not_closed, opening_open}
use Rattle.world_laws.proofs.Whole.Bytes.{NoneBelow, pushed_grows, pushed_well}
use Rattle.world_laws.proofs.Whole.Copies.{HeardIs, Knows, Speaks, ack_is, answer_is, carried_is, is_infinite_option, may_write, noted_is, reset_is, reset_like, syn_ack_is}
use Rattle.world_laws.proofs.Whole.Doing.{PathPlain, Plain, again_is, connected_past, died_step, fin_said_is, fin_step, finish_past, having_step, low_of, plain_at, resend_said_is, unsent_is, voice_open}
use Rattle.world_laws.proofs.Whole.Ends.{TreatedIs, is_infinite_item, is_spared, parts_of}
use Rattle.world_laws.proofs.Whole.Happening.{Holds, Now, Next, IsCalm, happens_holds}
use Rattle.world_laws.proofs.Whole.Passing.{cleared, mapping_clear, settled_is}
use Rattle.world_laws.proofs.Whole.Paths.{Fewer, Mark, PathIs, Steps, end_is, first_marked, goes_fewer, is_marked, itself, moved_step, new_fewer, path_alike, path_any, path_fewer, put_fewer, same_step, sent_fewer, small_step, spared_fewer, tail_fewer}
use Rattle.world_laws.proofs.Writes.Asks.{asks_no_more}
use Rattle.world_laws.proofs.Words.{if_so}
use Rattle.world_laws.proofs.Writes.Ends.{fell_so, mode_so, window_so}
use Rattle.world_laws.proofs.Writes.Paths.{writes_no_more}

-- ---- what is to be done next

-- what follows a verdict
fell_fewer : (s : Side) (d : Duty) (ds : List Duty) (r : Reply) (p : PathState Carried) → Fewer (d ∷ ds) (fell_duties s r (with_agenda (d ∷ ds) p))
fell_fewer s d ds r p =
    fell_cases (Fewer (d ∷ ds)) s (with_agenda (d ∷ ds) p) r (λ falls. put_fewer (Duty.Ask (AskDuty.GoIdentity s)) d ds (λ x. refl)) (λ reason. new_fewer (d ∷ ds) (breaks s reason) (λ x. refl))
    (λ reason. new_fewer (d ∷ ds) (resets s reason) (λ x. refl)) (tail_fewer d ds)

-- ---- what the edge passes

none_if : (b : Bool) (o : Option KeptMapping) → o ≡ None → (if b then None else o) ≡ None
none_if = elim [ true ↦ λ o none. refl | false ↦ λ o none. none ]

none_at : (v : Mappings) (edge : ℕ) → v.live ≡ [] → mapping_at v edge ≡ None
none_at v edge none = none_if (nat_lt edge v.forgotten) _ (rw none refl)

no_piece : (c : Profile) (e : PathEnd) → e.modes.identity ≡ false → e.modes.peer_infinite ≡ None → e.receiving.mappings.live ≡ [] → next_piece c e ≡ None
no_piece c e identity finite none = rw (identity, finite, none_at e.receiving.mappings e.tcp.recv.edge none) refl

module _ (d : Duty) (ds : List Duty) (p : PathState Carried) (h : PathIs (d ∷ ds) (with_agenda (d ∷ ds) p)) where
  -- ---- one end goes on

  goes : (s : Side) (es : List Duty) (e : PathEnd) → Steps s (with_agenda (d ∷ ds) p) e → Fewer (d ∷ ds) es → PathIs es (goes_on s e es (with_agenda (d ∷ ds) p))
  goes s es e g fewer = goes_fewer s (d ∷ ds) es (with_agenda (d ∷ ds) p) e g fewer h

  done : PathIs ds (with_agenda ds p)
  done = path_any ds ds (with_agenda (d ∷ ds) p) (path_fewer (d ∷ ds) ds (with_agenda (d ∷ ds) p) (tail_fewer d ds) h)

  same : (s : Side) (e : PathEnd) → parts_of e ≡ parts_of (end_at s p) → Steps s (with_agenda (d ∷ ds) p) e
  same s e is = same_step s (d ∷ ds) (with_agenda (d ∷ ds) p) e is h

  fell_same : (s : Side) (event : FallEvent) (r : Reply) → Steps s (with_agenda (d ∷ ds) p) (after_fell event r (end_at s p))
  fell_same s event r = fell_so (λ n. Steps s (with_agenda (d ∷ ds) p) (record (end_at s p) { modes = n })) event r (end_at s p).modes (λ mode owes. same s _ refl)

  fell_is : (s : Side) (event : FallEvent) (r : Reply) → PathIs (fell_duties s r (with_agenda (d ∷ ds) p)) (answered_fell s event r (with_agenda (d ∷ ds) p))
  fell_is s event r = goes s _ _ (fell_same s event r) (fell_fewer s d ds r p)

  -- a break
  ack_out_is : (s : Side) (reason : ℕ) (r : Reply) → PathIs (resets s reason) (answered_ack_out s r (resets s reason) (with_agenda (d ∷ ds) p))
  ack_out_is s reason r =
      goes s (resets s reason) _ (window_so (λ v. Steps s (with_agenda (d ∷ ds) p) (record (end_at s p) { receiving = v; treated = record (end_at s p).treated { asked = false } })) r (end_at s p).receiving (λ next window. same s _ refl))
      (new_fewer (d ∷ ds) (resets s reason) (λ x. refl))

  reset_on_is : (s : Side) (reason : Option ℕ) (es : List Duty) → Fewer (d ∷ ds) es → PathIs es (reset_on values s reason es (with_agenda (d ∷ ds) p))
  reset_on_is s reason es fewer =
      let m : PathState Carried = with_agenda (d ∷ ds) p in
      sent_fewer s (reset_of s reason m) (d ∷ ds) es m (died (end_at s m)) (reset_is p.profile s (end_at s p) (end_at (peer s) p).tcp.send (died (end_at s p)).tcp.send reason) (died_step s (d ∷ ds) m h) fewer h

  break_is : (s : Side) (reason : ℕ) (r : Reply) → PathIs (answered_break values s reason r (with_agenda (d ∷ ds) p)).agenda (answered_break values s reason r (with_agenda (d ∷ ds) p))
  break_is s reason r = by (end_at s p).treated.asked
    where
      by : (b : Bool) → let q = (if b then answered_ack_out s r (resets s reason) (with_agenda (d ∷ ds) p) else reset_on values s (Some reason) (leaves s) (with_agenda (d ∷ ds) p)) in PathIs q.agenda q
      by true = ack_out_is s reason r
      by false = reset_on_is s (Some reason) (leaves s) (new_fewer (d ∷ ds) (leaves s) (λ x. refl))

  -- keys that were told
  keys_step : (s : Side) (keys : KeyPair) (r : Reply) → Steps s (with_agenda (d ∷ ds) p) (record (end_at s p) { modes = keys_in r (Some keys) (end_at s p).modes; treated = record (end_at s p).treated { keys_told = true } })
  keys_step s keys (Reply.Control ControlReply.Noted) =
      small_step s (d ∷ ds) (with_agenda (d ∷ ds) p) _ refl refl refl refl refl refl (λ is. refl) (inl refl) (end_is s (d ∷ ds) (with_agenda (d ∷ ds) p) h).base.treated h
  keys_step s keys (Reply.Control _) = same s _ refl
  keys_step s keys _ = same s _ refl

  opened_is : (s : Side) (o : Option KeyPair) (r : Reply) → PathIs (answered_opened s o r (with_agenda (d ∷ ds) p)).agenda (answered_opened s o r (with_agenda (d ∷ ds) p))
  opened_is s None r = fell_is s FallEvent.PlainHandshake r
  opened_is s (Some keys) r = goes s ds _ (keys_step s keys r) (tail_fewer d ds)

  -- the edge passes bytes at an end that may send a DSS
  piece_clear : (s : Side) → Plain (end_at s p) → (piece : Piece) → piece_of s p ≡ Some piece → (end_at s p).modes.clear ≡ true
  piece_clear s plain piece is = ⊎_elim (λ clear. clear)
      (λ low. absurd (some_none piece (sym is ∙ no_piece p.profile (end_at s p) plain.identity (end_is s (d ∷ ds) (with_agenda (d ∷ ds) p) h).base.finite low.1)))
      (end_is s (d ∷ ds) (with_agenda (d ∷ ds) p) h).base.low
    where
      some_none : (x : Piece) → Some x ≡ None → ⊥
      some_none x is = cc

  piece_is : (s : Side) → Plain (end_at s p) → (o : Option Piece) → piece_of s p ≡ o → (taken : Bool) → PathIs (answered_piece s o taken (with_agenda (d ∷ ds) p)).agenda (answered_piece s o taken (with_agenda (d ∷ ds) p))
  piece_is s plain (Some piece) is true =
      goes s (d ∷ ds) _ (small_step s (d ∷ ds) (with_agenda (d ∷ ds) p) _ refl refl refl refl refl refl (λ key. key) (inl (piece_clear s plain piece is)) (end_is s (d ∷ ds) (with_agenda (d ∷ ds) p) h).base.treated h) (λ x marked. marked)
  piece_is s plain (Some piece) is false = goes s (breaks s 1) _ (same s _ refl) (new_fewer (d ∷ ds) (breaks s 1) (λ x. refl))
  piece_is s plain None is taken = goes s (breaks s 1) _ (same s _ refl) (new_fewer (d ∷ ds) (breaks s 1) (λ x. refl))

  checked_is : (s : Side) (r : Reply) → Steps s (with_agenda (d ∷ ds) p) (after_check_failed p.profile.spelling.checksums r (end_at s p))
  checked_is s r = check_failed_so (Steps s (with_agenda (d ∷ ds) p)) p.profile.spelling.checksums r (end_at s p)
      (λ told broken recv forgets. mode_so (λ n. Steps s (with_agenda (d ∷ ds) p) (record (end_at s p) {
        tcp = record (end_at s p).tcp { recv = recv };
        modes = record n { failed_mapping = told };
        treated = record (end_at s p).treated { failed_mapping = broken };
      })) r (end_at s p).modes
      (λ mode. small_step s (d ∷ ds) (with_agenda (d ∷ ds) p) _ refl refl refl refl refl refl (λ key. key)
      (inr (refl, (refl, (⊎_elim (λ is. ap (λ (v : Receiving). v.edge) is) (λ cut. ap (λ (v : Receiving). v.edge) cut.1) forgets, refl)))) (end_is s (d ∷ ds) (with_agenda (d ∷ ds) p) h).base.treated h))

  -- an end of the stream
  fin_heard_is : (s : Side) (set : Bool) → PathIs (answered_fin_heard s set (with_agenda (d ∷ ds) p)).agenda (answered_fin_heard s set (with_agenda (d ∷ ds) p))
  fin_heard_is s true = goes s ds _ (same s _ refl) (tail_fewer d ds)
  fin_heard_is s false = goes s (breaks s 1) _ (same s _ refl) (new_fewer (d ∷ ds) (breaks s 1) (λ x. refl))

  plain_fin_is : (s : Side) (set : Bool) → PathIs (answered_plain_fin s set (with_agenda (d ∷ ds) p)).agenda (answered_plain_fin s set (with_agenda (d ∷ ds) p))
  plain_fin_is s true = goes s ds _ (same s _ refl) (tail_fewer d ds)
  plain_fin_is s false = goes s (breaks s 1) _ (same s _ refl) (new_fewer (d ∷ ds) (breaks s 1) (λ x. refl))

  -- ---- grants, and records that were granted

  grant_is : (s : Side) → may_finish (end_at s p).tcp.state ≡ true → (o : Option Grant) (r : Reply) → PathIs (answered_grant s o r (with_agenda (d ∷ ds) p)).agenda (answered_grant s o r (with_agenda (d ∷ ds) p))
  grant_is s may None r = goes s ds _ (same s _ refl) (tail_fewer d ds)
  grant_is s may (Some grant) r =
      let m : PathState Carried = with_agenda (d ∷ ds) p in let was = (end_is s (d ∷ ds) m h).base in
      goes s (d ∷ ds) _ (moved_step s (d ∷ ds) m (granted p.profile s grant.span grant.piece (end_at s m)) (pushed_well grant.piece _ (end_at s p).tcp.send was.sends) (pushed_grows grant.piece _ (end_at s p).tcp.send)
      refl refl refl refl was.apart was.low refl was.treated (λ unmet. absurd (both_ways _ unmet.past (finish_past (end_at s p).tcp.state may))) h) (λ x marked. marked)

  data_is : (s : Side) → Plain (end_at s p) → (o : Option Record) → first_unsent (end_at s p) ≡ o → data_stands p.profile s (end_at s p) o ≡ true → (r : Reply)
      → PathIs (answered_data values s o r (with_agenda (d ∷ ds) p)).agenda (answered_data values s o r (with_agenda (d ∷ ds) p))
  data_is s plain None is stood r = grant_is s (and_parts (may_finish (end_at s p).tcp.state) _ stood).0 (grant_in r) r
  data_is s plain (Some first) is stood r =
      let m : PathState Carried = with_agenda (d ∷ ds) p in
      let closed = and_parts (not (is_closed_to_segments (end_at s p).tcp.state)) _ stood in
      sent_fewer s (unsent_segment s m) (d ∷ ds) (d ∷ ds) m (having_sent_unsent s m) (unsent_is s (d ∷ ds) m h plain (voice_open s (d ∷ ds) m h plain (not_closed _ closed.0)) (ap is_some is))
      (having_step s (d ∷ ds) m h Occasion.Unsent p.clock (unsent_segment s m)) (λ x marked. marked) h

  -- ---- what a copy says

  covered_fewer : (s : Side) (b : Bool) → Fewer (d ∷ ds) (told_next s b (with_agenda (d ∷ ds) p))
  covered_fewer s true = put_fewer (Duty.Ask (AskDuty.AckHeard s)) d ds (λ x. refl)
  covered_fewer s false = tail_fewer d ds

  stopped_is : (s : Side) (b : Bool) → PathIs (if b then stops s else ds) (with_agenda (if b then stops s else ds) (with_agenda (d ∷ ds) p))
  stopped_is s true = path_any (stops s) (stops s) (with_agenda (d ∷ ds) p) (path_fewer (d ∷ ds) (stops s) (with_agenda (d ∷ ds) p) (new_fewer (d ∷ ds) (stops s) (λ x. refl)) h)
  stopped_is s false = done

  no_infinite : (place index : ℕ) (position : Option ℕ) (items : List Heard) → list_any is_infinite_item items ≡ false → item_at index items ≡ Some (Heard.InfiniteMapping place position) → ⊥
  no_infinite place index position [] none is = cc
  no_infinite place zero position (x ∷ items) none is =
      let same : x ≡ Heard.InfiniteMapping place position = cc in false≢true (sym (or_parts (is_infinite_item x) (list_any is_infinite_item items) none).0 ∙ ap is_infinite_item same)
  no_infinite place (suc index) position (x ∷ items) none is = no_infinite place index position items (or_parts (is_infinite_item x) (list_any is_infinite_item items) none).1 is

  never_infinite : (s : Side) (index place : ℕ) (position : Option ℕ) → item_of index (end_at s p) ≡ Some (Heard.InfiniteMapping place position) → ⊥
  never_infinite s index place position is =
      (elim (end_at s p).modes.identity as (λ b. (if b then None else item_at index (end_at s p).treated.items) ≡ Some (Heard.InfiniteMapping place position) → ⊥)
      [ true ↦ λ none. cc | false ↦ λ found. no_infinite place index position (end_at s p).treated.items (end_is s (d ∷ ds) (with_agenda (d ∷ ds) p) h).base.treated.finite found ]) is

  learned_so : (s : Side) (r : Reply) → (end_at s p).modes.clear ≡ true → Steps s (with_agenda (d ∷ ds) p) (with_learned (after_fell FallEvent.MappingHeard r (end_at s p)))
  learned_so s r clear = fell_so (λ n. Steps s (with_agenda (d ∷ ds) p) (with_learned (record (end_at s p) { modes = n }))) FallEvent.MappingHeard r (end_at s p).modes
      (λ mode owes. cleared s (d ∷ ds) (with_agenda (d ∷ ds) p) h _ refl refl refl refl refl refl refl refl refl clear)

  heard_is : (s : Side) (index : ℕ) (item : Heard) → item_of index (end_at s p) ≡ Some item → heard_stands item (end_at s p) ≡ true → ((fin : Bool) → item ≡ Heard.Mapping fin → counts (end_at s p) ≡ true → (end_at s p).modes.clear ≡ true)
      → (r : Reply) → PathIs (answered_heard values s item r (with_agenda (d ∷ ds) p)).agenda (answered_heard values s item r (with_agenda (d ∷ ds) p))
  heard_is s index (Heard.DataAck next window) is stood clears r = goes s _ _ (same s _ refl) (covered_fewer s _)
  heard_is s index (Heard.Mapping fin) is stood clears r = by (is_clash (end_at s p))
    where
      by : (b : Bool) → let q = (if b then answered_break values s 1 r (with_agenda (d ∷ ds) p)
          else goes_on s (with_learned (after_fell FallEvent.MappingHeard r (end_at s p))) (fell_duties s r (with_agenda (d ∷ ds) p)) (with_agenda (d ∷ ds) p)) in PathIs q.agenda q
      by true = break_is s 1 r
      by false = goes s _ _ (learned_so s r (clears fin refl (and_parts (counts (end_at s p)) _ stood).0)) (fell_fewer s d ds r p)
  heard_is s index (Heard.DataFin place) is stood clears r =
      goes s _ _ (fell_so (λ n. Steps s (with_agenda (d ∷ ds) p) (with_data_fin place (record (end_at s p) { modes = n }))) FallEvent.MappingHeard r (end_at s p).modes (λ mode owes. same s _ refl)) (fell_fewer s d ds r p)
  heard_is s index (Heard.InfiniteMapping place position) is stood clears r = absurd (never_infinite s index place position is)
  heard_is s index (Heard.Keys own other) is stood clears r = goes s ds _ (keys_step s (record { own = own; peer = other }) r) (tail_fewer d ds)
  heard_is s index (Heard.Notice notice) is stood clears r = goes s ds _ (same s _ refl) (tail_fewer d ds)
  heard_is s index Heard.Fail is stood clears r =
      fail_answered_so (λ q. PathIs q.agenda q) s r (with_agenda (d ∷ ds) p) (goes s _ _ (same s _ refl) (put_fewer (Duty.Ask (AskDuty.FailHeard s)) d ds (λ x. refl))) (fell_is s (FallEvent.FailHeard false) r)
  heard_is s index (Heard.FastClose key) is stood clears r = stopped_is s (is_stopped_by r)
  heard_is s index _ is stood clears r = done

  item_is : (s : Side) (index : ℕ) (o : Option Heard) → item_of index (end_at s p) ≡ o → item_stands o (end_at s p) ≡ true → ((fin : Bool) → o ≡ Some (Heard.Mapping fin) → counts (end_at s p) ≡ true → (end_at s p).modes.clear ≡ true)
      → (r : Reply) → PathIs (answered_item values s o r (with_agenda (d ∷ ds) p)).agenda (answered_item values s o r (with_agenda (d ∷ ds) p))
  item_is s index None is stood clears r = done
  item_is s index (Some item) is stood clears r = heard_is s index item is stood (λ fin same. clears fin (ap (λ x. Some x) same)) r

  -- ---- segments

  -- what is marked may be said
  speaks_marked : (s : Side) → is_marked (Mark.SaidBy s) d ≡ true → Speaks s (end_at s p)
  speaks_marked s is = h.marked (Mark.SaidBy s) (first_marked (Mark.SaidBy s) d ds is)

  never_marked : is_marked Mark.Never d ≡ true → ⊥
  never_marked is = h.marked Mark.Never (first_marked Mark.Never d ds is)

  -- a segment of an end that goes on so
  sends : (s : Side) (sg : PlainSegment) (f : PathEnd) (es : List Duty) → HeardIs s (end_at (peer s) p).tcp.send f.tcp.send (meant sg) → Steps s (with_agenda (d ∷ ds) p) f → Fewer (d ∷ ds) es
      → PathIs es (sent_on values s sg f es (with_agenda (d ∷ ds) p))
  sends s sg f es says g fewer = sent_fewer s sg (d ∷ ds) es (with_agenda (d ∷ ds) p) f says g fewer h

  refusal_is : (s : Side) (os : List PlainOption) (v : SendState) → list_any is_infinite_option (map meant_option os) ≡ false
      → HeardIs s (end_at (peer s) p).tcp.send v (meant (segment_of p.profile (outgoing_or (end_at s p).treated.answer (reset_segment (end_at s p).tcp)) os [] (end_at s p)))
  refusal_is s os v finite = reset_like p.profile s (end_at s p) (end_at (peer s) p).tcp.send v (outgoing_or (end_at s p).treated.answer (reset_segment (end_at s p).tcp)) os (by (end_at s p).treated.answer (end_is s (d ∷ ds) (with_agenda (d ∷ ds) p) h).base.treated.answer) finite
    where
      by : (o : Option Outgoing) → IfSome o (λ (x : Outgoing). x.rst ≡ true) → (outgoing_or o (reset_segment (end_at s p).tcp)).rst ≡ true
      by = elim [ None ↦ λ is. refl | Some x ↦ λ is. is ]

  module _ (s : Side) (plain : Plain (end_at s p)) (speaks : Speaks s (end_at s p)) where
    low : (e : PathEnd) → ((end_at s p).modes.clear ≡ true) ⊎ NoneBelow (end_at s p).tcp.recv.edge (end_at (peer s) p).tcp.send
    low e = low_of s (d ∷ ds) (with_agenda (d ∷ ds) p) h plain

    having : (o : Occasion) (sg : PlainSegment) → Steps s (with_agenda (d ∷ ds) p) (having_sent o p.clock sg (end_at s p))
    having o sg = having_step s (d ∷ ds) (with_agenda (d ∷ ds) p) h o p.clock sg

    acks : (position : ℕ) (o : Option ℕ) (v : SendState) → HeardIs s (end_at (peer s) p).tcp.send v (meant (ack_said p.profile s position o (end_at s p)))
    acks position o v = ack_is p.profile s (end_at s p) (end_at (peer s) p).tcp.send v h.first plain.identity plain.own (low (end_at s p)) position o speaks

    ack_row : PathIs ds (acknowledges values s (with_agenda (d ∷ ds) p))
    ack_row = sends s (ack_segment s (with_agenda (d ∷ ds) p)) (having_sent Occasion.Ack p.clock (ack_segment s (with_agenda (d ∷ ds) p)) (end_at s p)) ds (acks (end_at s p).tcp.send.nxt None _) (having Occasion.Ack (ack_segment s (with_agenda (d ∷ ds) p))) (tail_fewer d ds)

    fast_close_row : PathIs ds (answered_fast_close values s (with_agenda (d ∷ ds) p))
    fast_close_row = let g = having Occasion.Ack (fast_close_of s (with_agenda (d ∷ ds) p)) in
        sends s (fast_close_of s (with_agenda (d ∷ ds) p)) (having_fast_closed s (with_agenda (d ∷ ds) p)) ds
        (carried_is p.profile s (end_at s p) (end_at (peer s) p).tcp.send _ h.first plain.identity plain.own (low (end_at s p)) (end_at s p).notices.carrier speaks)
        (record { end = g.end; grows = g.grows; knows = g.knows }) (tail_fewer d ds)

    note_row : PathIs (d ∷ ds) (answered_note values s (with_agenda (d ∷ ds) p))
    note_row = let g = having Occasion.Ack (note_of s (with_agenda (d ∷ ds) p)) in
        sends s (note_of s (with_agenda (d ∷ ds) p)) (having_noted s (with_agenda (d ∷ ds) p)) (d ∷ ds)
        (noted_is p.profile s (end_at s p) (end_at (peer s) p).tcp.send _ h.first plain.identity plain.own (low (end_at s p)) _ speaks)
        (record { end = g.end; grows = g.grows; knows = g.knows }) (λ x marked. marked)

    data_fin_row : PathIs ds (answered_data_fin_sent values s (with_agenda (d ∷ ds) p))
    data_fin_row = let g = having Occasion.Ack (data_fin_segment s (with_agenda (d ∷ ds) p)) in
        sends s (data_fin_segment s (with_agenda (d ∷ ds) p)) (having_sent_data_fin s (with_agenda (d ∷ ds) p)) ds (acks (end_at s p).tcp.send.nxt (end_at s p).sending.known_end _) (record { end = g.end; grows = g.grows; knows = g.knows }) (tail_fewer d ds)

    syn_ack_row : PathIs ds (answered_syn_ack values s (with_agenda (d ∷ ds) p))
    syn_ack_row =
        sends s (syn_ack_of s (with_agenda (d ∷ ds) p)) (having_sent Occasion.SynAck p.clock (syn_ack_of s (with_agenda (d ∷ ds) p)) (end_at s p)) ds
        (syn_ack_is p.profile s (end_at s p) (end_at (peer s) p).tcp.send _ h.first plain.identity plain.own (low (end_at s p)) (may_write s Syn (end_at s p) speaks)) (having Occasion.SynAck (syn_ack_of s (with_agenda (d ∷ ds) p))) (tail_fewer d ds)

    answer_row : PathIs ds (answered_answer values s (with_agenda (d ∷ ds) p))
    answer_row =
        sends s (answer_of s (with_agenda (d ∷ ds) p)) (having_sent (answer_occasion (end_at s p)) p.clock (answer_of s (with_agenda (d ∷ ds) p)) (end_at s p)) ds
        (answer_is p.profile s (end_at s p) (end_at (peer s) p).tcp.send _ h.first plain.identity plain.own (low (end_at s p)) speaks) (having (answer_occasion (end_at s p)) (answer_of s (with_agenda (d ∷ ds) p))) (tail_fewer d ds)

    again_row : PathIs ds (answered_again values s (with_agenda (d ∷ ds) p))
    again_row =
        let g = having Occasion.First (first_segment s (with_agenda (d ∷ ds) p)) in
        sends s (first_segment s (with_agenda (d ∷ ds) p)) (having_sent Occasion.First p.clock (first_segment s (with_agenda (d ∷ ds) p)) (end_at s p)) ds
        (again_is s (d ∷ ds) (with_agenda (d ∷ ds) p) h plain _ g.grows speaks) g (tail_fewer d ds)

    resend_row : PathIs ds (answered_resend values s (with_agenda (d ∷ ds) p))
    resend_row =
        let g = having (resend_occasion (end_at s p)) (resend_of s (with_agenda (d ∷ ds) p)) in
        sends s (resend_of s (with_agenda (d ∷ ds) p)) (having_sent (resend_occasion (end_at s p)) p.clock (resend_of s (with_agenda (d ∷ ds) p)) (end_at s p)) ds
        (resend_said_is s (d ∷ ds) (with_agenda (d ∷ ds) p) h plain _ g.grows (inl speaks)) g (tail_fewer d ds)

  -- no copy that it treats acknowledges bytes without a Data ACK
  no_lack : (s : Side) → lacks_data_ack (end_at s p) ≡ true → ⊥
  no_lack s lacks = false≢true (sym (end_is s (d ∷ ds) (with_agenda (d ∷ ds) p) h).base.treated.plain ∙ (and_parts (end_at s p).treated.plain_ack _ lacks).0)

  no_plain_ack : (s : Side) → plain_ack_stands p.profile (end_at s p) ≡ true → ⊥
  no_plain_ack s stood = ⊎_elim (λ breaks. no_lack s (and_parts (lacks_data_ack (end_at s p)) _ breaks).0) (λ tells. no_lack s (and_parts (lacks_data_ack (end_at s p)) _ tells).0)
      (or_cases (breaks_by_ack p.profile (end_at s p)) (lacks_data_ack (end_at s p) && is_starting (end_at s p).modes.mode) stood)

  -- nor has a payload without an option the next byte
  no_plain_data : (s : Side) → plain_data_stands (end_at s p) ≡ true → ⊥
  no_plain_data s stood =
      let both = and_parts (is_some (end_at s p).treated.held_edge) (not (end_at s p).treated.has_option && is_starting (end_at s p).modes.mode) stood in
      by (end_at s p).treated.held_edge both.0 (end_is s (d ∷ ds) (with_agenda (d ∷ ds) p) h).base.treated.holds (and_parts (not (end_at s p).treated.has_option) (is_starting (end_at s p).modes.mode) both.1).0
    where
      by : (o : Option ℕ) → is_some o ≡ true → IfSome o (λ edge. (end_at s p).treated.has_option ≡ true) → not (end_at s p).treated.has_option ≡ true → ⊥
      by None some has none = false≢true some
      by (Some edge) some has none = false≢true (ap not (sym has) ∙ none)

  past_speaks : (s : Side) → is_past (end_at s p).tcp.state ≡ true → Speaks s (end_at s p)
  past_speaks s past = ⊎_elim (λ knows. knows) (λ unmet. absurd (both_ways _ unmet.past past)) (end_is s (d ∷ ds) (with_agenda (d ∷ ds) p) h).says

  connected_speaks : (s : Side) (b : Bool) → is_connected (end_at s p).tcp.state && b ≡ true → Speaks s (end_at s p)
  connected_speaks s b is = past_speaks s (connected_past (end_at s p).tcp.state (and_parts (is_connected (end_at s p).tcp.state) b is).0)

  syn_row : (s : Side) → Plain (end_at s p) → is_syn_due (end_at s p) ≡ true → PathIs ds (answered_syn values s (with_agenda (d ∷ ds) p))
  syn_row s plain stood =
      let m : PathState Carried = with_agenda (d ∷ ds) p in
      let both = and_parts (is_opening (end_at s p).tcp.state) (is_some (first_unsent (end_at s p))) stood in
      sends s (unsent_segment s m) (having_sent_unsent s m) ds (unsent_is s (d ∷ ds) m h plain (voice_open s (d ∷ ds) m h plain (opening_open (end_at s p).tcp.state both.0)) both.1)
      (having_step s (d ∷ ds) m h Occasion.Unsent p.clock (unsent_segment s m)) (tail_fewer d ds)

  fin_row : (s : Side) → Plain (end_at s p) → may_finish (end_at s p).tcp.state ≡ true → PathIs ds (answered_fin values s (with_agenda (d ∷ ds) p))
  fin_row s plain may =
      let m : PathState Carried = with_agenda (d ∷ ds) p in
      sends s (fin_segment_of s m) (having_sent_fin s m) ds (fin_said_is s (d ∷ ds) m h plain may) (fin_step s (d ∷ ds) m h plain may) (tail_fewer d ds)

-- a duty that writes nothing of it
spared_is : (s : Side) (w : EndWrites) (d : Duty) (ds es : List Duty) (r : Reply) (p : PathState Carried) → is_spared w ≡ true → OnlyAt s (at_end w) (with_agenda (d ∷ ds) p) (answered values d r (with_agenda (d ∷ ds) p)) → Fewer (d ∷ ds) es
    → (answered values d r (with_agenda (d ∷ ds) p)).agenda ≡ es → PathIs (d ∷ ds) (with_agenda (d ∷ ds) p) → Holds (answered values d r (with_agenda (d ∷ ds) p))
spared_is s w d ds es r p spared only fewer agenda h =
    Now _ (subst (λ xs. PathIs xs (answered values d r (with_agenda (d ∷ ds) p))) (sym agenda) (spared_fewer s w (d ∷ ds) es (with_agenda (d ∷ ds) p) (answered values d r (with_agenda (d ∷ ds) p)) spared only fewer h))

answered_holds : (d : Duty) (ds : List Duty) (r : Reply) (p : PathState Carried) → PathPlain p → stands d (with_agenda (d ∷ ds) p) ≡ true → Leads (d ∷ ds) (with_agenda (d ∷ ds) p) → PathIs (d ∷ ds) (with_agenda (d ∷ ds) p)
    → Holds (answered values d r (with_agenda (d ∷ ds) p))
answered_holds (Duty.Ask AskDuty.JoinAgain) ds r p plain stood leads h = absurd (both_ways _ plain.waits (and_parts (is_waiting p.a.tcp.state) (is_none p.joined_at) stood).0)
answered_holds (Duty.Ask (AskDuty.PeerKey s)) ds r p plain stood leads h = absurd (never_marked (Duty.Ask (AskDuty.PeerKey s)) ds p h refl)
answered_holds (Duty.Ask (AskDuty.JoinHeard s)) ds r p plain stood leads h = absurd (never_marked (Duty.Ask (AskDuty.JoinHeard s)) ds p h refl)
answered_holds (Duty.Ask (AskDuty.Opened s)) ds r p plain stood leads h = Now _ (opened_is (Duty.Ask (AskDuty.Opened s)) ds p h s (keys_heard (end_at s p).treated.items) r)
answered_holds (Duty.Ask (AskDuty.Edge s)) ds r p plain stood leads h = Now _ (piece_is (Duty.Ask (AskDuty.Edge s)) ds p h s (plain_at s p plain) (piece_of s p) refl (is_placed r))
answered_holds (Duty.Ask (AskDuty.CheckFailed s)) ds r p plain stood leads h =
    Now _ (goes (Duty.Ask (AskDuty.CheckFailed s)) ds p h s _ _ (checked_is (Duty.Ask (AskDuty.CheckFailed s)) ds p h s r) (fell_fewer s (Duty.Ask (AskDuty.CheckFailed s)) ds r p))
answered_holds (Duty.Ask (AskDuty.LeaveNoted s)) ds r p plain stood leads h =
    let d : Duty = Duty.Ask (AskDuty.LeaveNoted s) in
    Now _ (goes d ds p h s (Duty.Ask (AskDuty.Dead s) ∷ ds) (died (end_at s p)) (died_step s (d ∷ ds) (with_agenda (d ∷ ds) p) h) (put_fewer (Duty.Ask (AskDuty.Dead s)) d ds (λ x. refl)))
answered_holds (Duty.Ask (AskDuty.PlainHandshake s)) ds r p plain stood leads h =
    let d : Duty = Duty.Ask (AskDuty.PlainHandshake s) in Now _ (fell_is d ds p h s FallEvent.PlainHandshake r)
answered_holds (Duty.Ask (AskDuty.AckHeard s)) ds r p plain stood leads h = Now _ (fell_is (Duty.Ask (AskDuty.AckHeard s)) ds p h s FallEvent.AckHeard r)
answered_holds (Duty.Ask (AskDuty.PlainData s)) ds r p plain stood leads h = Now _ (fell_is (Duty.Ask (AskDuty.PlainData s)) ds p h s FallEvent.PlainData r)
answered_holds (Duty.Ask (AskDuty.FailHeard s)) ds r p plain stood leads h =
    let d : Duty = Duty.Ask (AskDuty.FailHeard s) in spared_is s (ask_writes (AskDuty.FailHeard s)) d ds _ r p refl (writes_no_more values d r (with_agenda (d ∷ ds) p)) (fell_fewer s d ds r p) refl h
answered_holds (Duty.Ask (AskDuty.HeardFin s index)) ds r p plain stood leads h = Now _ (fin_heard_is (Duty.Ask (AskDuty.HeardFin s index)) ds p h s (is_fin_set r))
answered_holds (Duty.Ask (AskDuty.SubflowFin s)) ds r p plain stood leads h = Now _ (plain_fin_is (Duty.Ask (AskDuty.SubflowFin s)) ds p h s (is_fin_set r))
answered_holds (Duty.Ask (AskDuty.BreakAck s reason)) ds r p plain stood leads h = Now _ (ack_out_is (Duty.Ask (AskDuty.BreakAck s reason)) ds p h s reason r)
answered_holds (Duty.Ask (AskDuty.Leave s)) ds r p plain stood leads h =
    let d : Duty = Duty.Ask (AskDuty.Leave s) in spared_is s (ask_writes (AskDuty.Leave s)) d ds _ r p refl (writes_no_more values d r (with_agenda (d ∷ ds) p)) (put_fewer (Duty.Ask (AskDuty.Dead s)) d ds (λ x. refl)) refl h
answered_holds (Duty.Step (StepDuty.Look s)) ds r p plain stood leads h =
    let d : Duty = Duty.Step (StepDuty.Look s) in spared_is s looking d ds ds r p refl (writes_no_more values d r (with_agenda (d ∷ ds) p)) (tail_fewer d ds) refl h
answered_holds (Duty.Step (StepDuty.Data s)) ds r p plain stood leads h = Now _ (data_is (Duty.Step (StepDuty.Data s)) ds p h s (plain_at s p plain) (first_unsent (end_at s p)) refl stood r)
answered_holds (Duty.Step StepDuty.Events) ds r p plain stood leads h =
    let m : PathState Carried = with_agenda (Duty.Step StepDuty.Events ∷ ds) p in
    happens_holds (Duty.Step StepDuty.Events ∷ ds) m h (record { a = plain.a; b = plain.b; waits = plain.waits }) (next_event m) refl r
answered_holds (Duty.Step (StepDuty.Heard s index)) ds r p plain stood leads h =
    let d : Duty = Duty.Step (StepDuty.Heard s index) in
    Now _ (item_is d ds p h s index (item_of index (end_at s p)) refl stood (λ fin is. mapping_clear s index ds (with_agenda (d ∷ ds) p) h leads fin is) r)
answered_holds (Duty.Step (StepDuty.PlainAck s)) ds r p plain stood leads h = absurd (no_plain_ack (Duty.Step (StepDuty.PlainAck s)) ds p h s stood)
answered_holds (Duty.Step (StepDuty.Unmapped s)) ds r p plain stood leads h = Now _ (break_is (Duty.Step (StepDuty.Unmapped s)) ds p h s 6 r)
answered_holds (Duty.Send (SendDuty.Update s)) ds r p plain stood leads h =
    let d : Duty = Duty.Send (SendDuty.Update s) in Now _ (ack_row d ds p h s (plain_at s p plain) (connected_speaks d ds p h s _ stood))
answered_holds (Duty.Send (SendDuty.Syn s)) ds r p plain stood leads h = Now _ (syn_row (Duty.Send (SendDuty.Syn s)) ds p h s (plain_at s p plain) stood)
answered_holds (Duty.Send (SendDuty.FastClose s)) ds r p plain stood leads h =
    let d : Duty = Duty.Send (SendDuty.FastClose s) in Now _ (fast_close_row d ds p h s (plain_at s p plain) (connected_speaks d ds p h s _ stood))
answered_holds (Duty.Send (SendDuty.Notice s)) ds r p plain stood leads h =
    let d : Duty = Duty.Send (SendDuty.Notice s) in
    Now _ (note_row d ds p h s (plain_at s p plain) (connected_speaks d ds p h s _ (and_parts (may_note (end_at s p)) (not (is_nil (end_at s p).notices.queue)) stood).0))
answered_holds (Duty.Send (SendDuty.DataFin s)) ds r p plain stood leads h =
    let d : Duty = Duty.Send (SendDuty.DataFin s) in
    Now _ (data_fin_row d ds p h s (plain_at s p plain) (past_speaks d ds p h s (finish_past (end_at s p).tcp.state (and_parts (may_finish (end_at s p).tcp.state) _ stood).0)))
answered_holds (Duty.Send (SendDuty.Fin s)) ds r p plain stood leads h =
    Now _ (fin_row (Duty.Send (SendDuty.Fin s)) ds p h s (plain_at s p plain) (and_parts (may_finish (end_at s p).tcp.state) _ stood).0)
answered_holds (Duty.Send (SendDuty.SynAck s)) ds r p plain stood leads h =
    let d : Duty = Duty.Send (SendDuty.SynAck s) in Now _ (syn_ack_row d ds p h s (plain_at s p plain) (speaks_marked d ds p h s (itself s)))
answered_holds (Duty.Send (SendDuty.Refuse s)) ds r p plain stood leads h =
    let d : Duty = Duty.Send (SendDuty.Refuse s) in
    Now _ (sends d ds p h s (refusal_of s (with_agenda (d ∷ ds) p)) (end_at s p) ds (refusal_is d ds p h s (reset_options (Some 1)) (end_at s p).tcp.send refl) (same d ds p h s (end_at s p) refl) (tail_fewer d ds))
answered_holds (Duty.Send (SendDuty.Acknowledge s)) ds r p plain stood leads h =
    let d : Duty = Duty.Send (SendDuty.Acknowledge s) in Now _ (ack_row d ds p h s (plain_at s p plain) (speaks_marked d ds p h s (itself s)))
answered_holds (Duty.Send (SendDuty.Again s)) ds r p plain stood leads h =
    let d : Duty = Duty.Send (SendDuty.Again s) in Now _ (again_row d ds p h s (plain_at s p plain) (speaks_marked d ds p h s (itself s)))
answered_holds (Duty.Send (SendDuty.Answer s)) ds r p plain stood leads h =
    let d : Duty = Duty.Send (SendDuty.Answer s) in Now _ (answer_row d ds p h s (plain_at s p plain) (speaks_marked d ds p h s (itself s)))
answered_holds (Duty.Send (SendDuty.ResetAnswer s)) ds r p plain stood leads h =
    let d : Duty = Duty.Send (SendDuty.ResetAnswer s) in
    Now _ (sends d ds p h s (dead_answer s (with_agenda (d ∷ ds) p)) (end_at s p) ds (refusal_is d ds p h s [] (end_at s p).tcp.send refl) (same d ds p h s (end_at s p) refl) (tail_fewer d ds))
answered_holds (Duty.Send (SendDuty.Resend s)) ds r p plain stood leads h =
    let d : Duty = Duty.Send (SendDuty.Resend s) in Now _ (resend_row d ds p h s (plain_at s p plain) (speaks_marked d ds p h s (itself s)))
answered_holds (Duty.Send (SendDuty.BreakReset s reason)) ds r p plain stood leads h =
    let d : Duty = Duty.Send (SendDuty.BreakReset s reason) in Now _ (reset_on_is d ds p h s (Some reason) (leaves s) (new_fewer (d ∷ ds) (leaves s) (λ x. refl)))
answered_holds (Duty.Send (SendDuty.Reset s)) ds r p plain stood leads h =
    let d : Duty = Duty.Send (SendDuty.Reset s) in Now _ (reset_on_is d ds p h s None (Duty.Ask (AskDuty.Leave s) ∷ ds) (put_fewer (Duty.Ask (AskDuty.Leave s)) d ds (λ x. refl)))
answered_holds (Duty.Send (SendDuty.ResetNoted s)) ds r p plain stood leads h =
    let d : Duty = Duty.Send (SendDuty.ResetNoted s) in Now _ (reset_on_is d ds p h s None (Duty.Ask (AskDuty.Leave s) ∷ ds) (put_fewer (Duty.Ask (AskDuty.Leave s)) d ds (λ x. refl)))
answered_holds (Duty.Silent d) ds r p plain stood leads h = absurd (false≢true stood)
answered_holds Duty.End ds r p plain stood leads h = Now _ (path_any [] [] (with_agenda (Duty.End ∷ ds) p) (path_fewer (Duty.End ∷ ds) [] (with_agenda (Duty.End ∷ ds) p) (new_fewer (Duty.End ∷ ds) [] (λ x. refl)) h))
answered_holds d ds r p plain stood leads h = spared_is (side_of d) (writes d).own d ds ds r p refl (writes_no_more values d r (with_agenda (d ∷ ds) p)) (tail_fewer d ds) refl h

-- ---- what is asked

-- no event of Multipath TCP is told
other_calm : (m : May) (x : Ask) → m.fell ≡ false → may m x ≡ true → IsCalm x
other_calm m (Ask.Control s (ControlCall.Fell path event)) none is = absurd (both_ways m.fell none is)
other_calm m (Ask.Control s (ControlCall.Look path)) none is = tt
other_calm m _ none is = tt

module _ (d : Duty) (ds : List Duty) (p : PathState Carried) (h : PathIs (d ∷ ds) (with_agenda (d ∷ ds) p)) where
  break_calm : (s : Side) (reason : ℕ) → IsCalm (break_ask values s reason (with_agenda (d ∷ ds) p))
  break_calm s reason = if_so IsCalm (end_at s p).treated.asked (ack_out_ask s) _ tt tt

  thing_calm : (s : Side) (index : ℕ) (o : Option Heard) → item_of index (end_at s p) ≡ o → IsCalm (item_ask values s o (with_agenda (d ∷ ds) p))
  thing_calm s index (Some (Heard.Mapping fin)) is = if_so IsCalm (is_clash (end_at s p)) _ _ (break_calm s 1) tt
  thing_calm s index (Some (Heard.InfiniteMapping place position)) is = absurd (never_infinite d ds p h s index place position is)
  thing_calm s index (Some (Heard.Notice (PeerNotice.Prio backup))) is = tt
  thing_calm s index (Some Heard.Fail) is = fail_asks_so IsCalm s (with_agenda (d ∷ ds) p) tt tt
  thing_calm s index _ is = tt

  -- a copy that opens an end has an option
  opened_calm : (s : Side) → is_opened_by_keys (end_at s p) || is_opened_plainly (end_at s p) ≡ true → (o : Option KeyPair) → keys_heard (end_at s p).treated.items ≡ o → IsCalm (opened_ask s o (with_agenda (d ∷ ds) p))
  opened_calm s stood (Some keys) is = tt
  opened_calm s stood None is = absurd (⊎_elim
      (λ keys. both_ways _ (ap is_some is) (and_parts (end_at s p).treated.opened (is_some (keys_heard (end_at s p).treated.items)) keys).1)
      (λ plainly. let both = and_parts (end_at s p).treated.opened _ plainly in
      not_both _ (end_is s (d ∷ ds) (with_agenda (d ∷ ds) p) h).base.treated both.0 (and_parts (not (end_at s p).treated.has_option) _ both.1).0)
      (or_cases (is_opened_by_keys (end_at s p)) (is_opened_plainly (end_at s p)) stood))
    where
      not_both : (held : Option ℕ) → TreatedIs (copy_said (end_at s p).treated) held → (end_at s p).treated.opened ≡ true → not (end_at s p).treated.has_option ≡ true → ⊥
      not_both held treated opened none = false≢true (ap not (sym (treated.opens opened)) ∙ none)

  handshake_calm : (s : Side) → is_marked (Mark.SaidBy s) d ≡ true → is_plain_syn (end_at s p) ≡ true → (t : Side) → s ≡ t → t ≡ B → ⊥
  handshake_calm s is stood t same b =
      false≢true (ap not (sym (subst (λ u. Knows u (end_at s p).modes.peer_key (end_at s p).modes.capable_asked) (same ∙ b) (speaks_marked d ds p h s is))) ∙ (and_parts (not (end_at s p).modes.capable_asked) _ stood).0)

first_calm : (d : Duty) (ds : List Duty) (p : PathState Carried) → stands d (with_agenda (d ∷ ds) p) ≡ true → PathIs (d ∷ ds) (with_agenda (d ∷ ds) p) → IsCalm (ask_for values d (with_agenda (d ∷ ds) p))
first_calm (Duty.Ask (AskDuty.PlainHandshake A)) ds p stood h = absurd (never_marked (Duty.Ask (AskDuty.PlainHandshake A)) ds p h refl)
first_calm (Duty.Ask (AskDuty.PlainHandshake B)) ds p stood h = absurd (handshake_calm (Duty.Ask (AskDuty.PlainHandshake B)) ds p h B refl stood B refl refl)
first_calm (Duty.Ask (AskDuty.PeerKey s)) ds p stood h = absurd (never_marked (Duty.Ask (AskDuty.PeerKey s)) ds p h refl)
first_calm (Duty.Ask (AskDuty.Opened s)) ds p stood h = opened_calm (Duty.Ask (AskDuty.Opened s)) ds p h s stood (keys_heard (end_at s p).treated.items) refl
first_calm (Duty.Ask (AskDuty.AckHeard s)) ds p stood h = tt
first_calm (Duty.Ask (AskDuty.FailHeard s)) ds p stood h = tt
first_calm (Duty.Ask (AskDuty.CheckFailed s)) ds p stood h = tt
first_calm (Duty.Ask (AskDuty.PlainData s)) ds p stood h = absurd (no_plain_data (Duty.Ask (AskDuty.PlainData s)) ds p h s stood)
first_calm (Duty.Step (StepDuty.Heard s index)) ds p stood h = thing_calm (Duty.Step (StepDuty.Heard s index)) ds p h s index (item_of index (end_at s p)) refl
first_calm (Duty.Step (StepDuty.PlainAck s)) ds p stood h = absurd (no_plain_ack (Duty.Step (StepDuty.PlainAck s)) ds p h s stood)
first_calm (Duty.Step (StepDuty.Look s)) ds p stood h = tt
first_calm (Duty.Send (SendDuty.Update s)) ds p stood h = tt
first_calm d ds p stood h = other_calm (asking d) (ask_for values d (with_agenda (d ∷ ds) p)) refl (asks_no_more values (with_agenda (d ∷ ds) p) d).kind

-- ---- a step, a turn's beginning

settle_holds : (q : PathState Carried) → LeadsWell q → Holds q → Holds (settled q.agenda q)
settle_holds q leads (Now p h) = Now _ (settled_is q.agenda q leads h)
settle_holds q leads (Next d ds p between now calm does passes) = subst (λ xs. Holds (settled xs q)) (sym now) (by (stands d q) refl)
  where
    here : with_agenda (d ∷ ds) q ≡ q
    here = ap (λ xs. with_agenda xs q) (sym now)

    by : (b : Bool) → stands d q ≡ b → Holds (if b then with_agenda (d ∷ ds) q else settled ds (passed d q))
    by true is = subst Holds (sym here) (Next d ds q between now calm does passes)
    by false is = passes is

pub asks_calmly : (p : PathState Carried) → IsSettled p → Holds p → (x : Ask) → asks_of values p ≡ Some x → IsCalm x
asks_calmly p stood (Now q h) x is = (elim p.agenda as (λ ds. FirstStands ds (with_agenda ds p) → PathIs ds (with_agenda ds p) → asks_first values ds (with_agenda ds p) ≡ Some x → IsCalm x)
    [ [] ↦ λ stood h is. cc | d ∷ ds ↦ λ stood h is. subst IsCalm (same_Some _ x is) (first_calm d ds p stood h) ]) stood h is
asks_calmly p stood (Next d ds q between now calm does passes) x is =
    subst IsCalm (same_Some _ x (subst (λ xs. asks_first values xs p ≡ Some x) now is)) (calm (subst (λ xs. FirstStands xs p) now stood))

pub takes_holds : (r : Reply) (p : PathState Carried) → IsSettled p → LeadsWell p → PathPlain p → Holds p → Holds (takes values r p)
takes_holds r p stood leads plain holds =
    settle_holds (answers values p.agenda r p) (answers_lead values r p stood leads) (by holds)
  where
    by : Holds p → Holds (answers values p.agenda r p)
    by (Now q h) = (elim p.agenda as (λ ds. FirstStands ds (with_agenda ds p) → Leads ds (with_agenda ds p) → PathIs ds (with_agenda ds p) → Holds (answers values ds r (with_agenda ds p)))
        [ [] ↦ λ stood leads h. Now _ h | d ∷ ds ↦ λ stood leads h. answered_holds d ds r p (record { a = plain.a; b = plain.b; waits = plain.waits }) stood leads h ]) stood leads h
    by (Next d ds q between now calm does passes) = subst (λ xs. Holds (answers values xs r p)) (sym now) (does (subst (λ xs. FirstStands xs p) now stood) r)

-- whatever is left to do
ended_is : (ds : List Duty) (p : PathState Carried) → PathIs ds p → PathIs start_of_turn (with_agenda start_of_turn p)
ended_is ds p h = path_any start_of_turn start_of_turn p (path_fewer ds start_of_turn p (new_fewer ds start_of_turn (λ x. refl)) h)

pub next_holds : (p : PathState Carried) → p.agenda ≡ [] → LeadsWell p → Holds p → Holds (next_round p)
next_holds p over leads (Now q h) =
    let n : PathState Carried = record p { clock = p.until; until = p.until + 100 } in
    let m : PathState Carried = with_agenda start_of_turn n in
    Now _ (settled_is start_of_turn m (started_leads n leads.led) (ended_is p.agenda n (path_alike p.agenda p n refl refl refl refl refl h.copies h)))
next_holds p over leads (Next d ds q between now calm does passes) = let none : [] ≡ d ∷ ds = sym over ∙ now in cc

-- the first turn
pub starts_holds : (p : PathState Carried) → LeadsWell p → PathIs start_of_turn (with_agenda start_of_turn p) → Holds (begins_turn p)
starts_holds p leads h = Now _ (settled_is start_of_turn (with_agenda start_of_turn p) (started_leads p leads.led) h)
