-- No duty writes more of a path than it may, whether it is answered or passed.
use Rattle.world_laws.proofs.Words.{◌≡◌, refl, ◌∙◌, ap, ℕ, Bool, true, false, if◌then◌else◌, Option, Some, None, List, Mode, FallEvent, Side, A, B, JoinSyn}
use Rattle.world_laws.proofs.Words.{Record, is_waiting, Meaning, EndState, Occasion, is_fin_next, after_passing_fin, arriving, after_delivery, one_more}
use Rattle.world_laws.proofs.Words.{LinkState, HeardSegment, PlainSegment, LineAction, Piece, emission, leaves, resets, Duty, SendDuty, StepDuty, AskDuty}
use Rattle.world_laws.proofs.Words.{SilentDuty, Heard, KeyPair, key_heard, keys_heard, Reply, tail_of, Codec, passed, answered, PathEnd, died, after_ack_out}
use Rattle.world_laws.proofs.Words.{at_tick, PathState, end_at, goes_on, items_of, options_heard, after_judged, judged_in, with_held, heard_in, copy_heard}
use Rattle.world_laws.proofs.Words.{told_at, answered_break, answered_data, answered_grant, first_unsent, grant_in, answer_occasion, answer_of, resend_occasion}
use Rattle.world_laws.proofs.Words.{resend_of, refused, next_event, after_line, happens_if, join_begun, never_joined, asked_at, is_listening, is_never}
use Rattle.world_laws.proofs.Words.{join_taken, joined_by, keys_begun, opened_by, is_joined, with_keys, mapping_here, piece_of, is_placed, answered_piece}
use Rattle.world_laws.proofs.Words.{forgotten_by, after_keep, is_dropped, is_not_kept, is_fin_set, is_clash, held_of, with_acked, answered_heard, answered_item}
use Rattle.world_laws.proofs.Words.{item_of, after_check_failed, after_fell, answered_plain_ack, plain_next, plainly_acked, breaks_by_ack, after_fail_heard}
use Rattle.world_laws.proofs.Words.{with_plain_acked, after_keys, answered_peer_key, answered_opened, having_sent, sent_on, taken_as, Modes, EndWrites, Only}
use Rattle.world_laws.proofs.Words.{Writes, OnlyAt, EndView, PathView, end_view, path_view, hide, writes, side_of, ask_writes, step_writes, silent_writes}
use Rattle.world_laws.proofs.Words.{on_link, acking, acknowledged, happening, heard_writes}
use Rattle.link_model.specs.Steps.{with_waiting}
use Rattle.link_model.specs.declared.passage.Waiting.{Waiting}
use Rattle.path_store.specs.Receiving.{Receiving}
use Rattle.path_core.specs.Emission.{Grant}
use Rattle.path_core.specs.Sending.{Sending}
use Rattle.path_core.specs.Fallback.{after_infinite}
use Rattle.path_core.specs.declared.events.Event.{Event}
use Rattle.world_laws.specs.Writes.{sending}
use Rattle.world_laws.proofs.Falls.FailedChecks.{check_failed_so, fail_heard_so, infinite_came_so, fail_answered_so, forgets_so}
use Rattle.world_laws.proofs.Words.{if_so}
use Rattle.world_laws.proofs.Writes.Ends.{mode_so, fell_so, keyed_so, window_so, acked_so, refused_so, sent_so, looked, copy_so, died_at, opened_at, item_at}

-- ---- ends

-- one thing after the other
then_end : (w : EndWrites) (e f g : PathEnd) → Only w e f → Only w f g → Only w e g
then_end w e f g x y = record { same = y.same ∙ x.same }

-- a verdict
abbrev judged_so : Mode → Bool → PathEnd → PathEnd
judged_so mode owes e = record e { modes = record e.modes { mode = mode; owes_mapping = owes } }

fell_only : (w : EndWrites) (cause : FallEvent) (r : Reply) (e : PathEnd)
    → ((mode : Mode) (owes : Bool) → Only w e (judged_so mode owes e)) → Only w e (after_fell cause r e)
fell_only w cause r e all = fell_so (λ (m : Modes). Only w e (record e { modes = m })) cause r e.modes all

-- what is to be acknowledged
abbrev acked_so_far : ℕ → ℕ → PathEnd → PathEnd
acked_so_far next window e = record e { receiving = record e.receiving { next = next; window = window }; treated = record e.treated { asked = false } }

acked_out_only : (w : EndWrites) (r : Reply) (e : PathEnd)
    → ((next window : ℕ) → Only w e (acked_so_far next window e)) → Only w e (after_ack_out r e)
acked_out_only w r e all =
    window_so (λ (v : Receiving). Only w e (record e { receiving = v; treated = record e.treated { asked = false } })) r e.receiving all

refused_at : (s : Side) (r : Reply) (e : PathEnd) → Only (step_writes (StepDuty.Data s)).own e (refused r e)
refused_at s r e =
    refused_so (λ (v : Sending). Only (step_writes (StepDuty.Data s)).own e (record e { sending = v })) r e.sending (λ shut known. record { same = refl })

checked_only : (s : Side) (checksums : Bool) (r : Reply) (e : PathEnd) → Only (ask_writes (AskDuty.CheckFailed s)) e (after_check_failed checksums r e)
checked_only s checksums r e =
    let w : EndWrites = ask_writes (AskDuty.CheckFailed s) in
    check_failed_so (λ f. Only w e f) checksums r e
    (λ told broken recv forgets.
    mode_so (λ (m : Modes). Only w e (record e {
      tcp = record e.tcp { recv = recv };
      modes = record m { failed_mapping = told };
      treated = record e.treated { failed_mapping = broken };
    })) r e.modes (λ mode. record { same = refl }))

mapped_only : (s : Side) (checksums : Bool) (e : PathEnd) → Only (ask_writes (AskDuty.CheckFailed s)) e (forgotten_by checksums (mapping_here e) e)
mapped_only s checksums e =
    forgets_so (λ f. Only (ask_writes (AskDuty.CheckFailed s)) e f) checksums (mapping_here e) e (λ recv forgets. record { same = refl })

failed_only : (s : Side) (r : Reply) (e : PathEnd) → Only (ask_writes (AskDuty.FailHeard s)) e (after_fail_heard r e)
failed_only s r e =
    let w : EndWrites = ask_writes (AskDuty.FailHeard s) in
    fail_heard_so (λ f. Only w e f) r e
    (λ own owes. mode_so (λ (m : Modes). Only w e (record e { modes = record m { own_infinite = own; owes_mapping = owes } })) r e.modes (λ mode. record { same = refl }))

infinite_only : (place : ℕ) (position : Option ℕ) (r : Reply) (e : PathEnd) → Only heard_writes e (after_infinite place position r e)
infinite_only place position r e =
    infinite_came_so (λ f. Only heard_writes e f) place position r e
    (λ other. mode_so (λ (m : Modes). Only heard_writes e (record e { modes = record m { peer_infinite = other } })) r e.modes (λ mode. record { same = refl }))

keyed_only : (w : EndWrites) (r : Reply) (keys : Option KeyPair) (e : PathEnd)
    → ((peer_key : Option ℕ) (clear : Bool)
    → Only w e (record e { modes = record e.modes { peer_key = peer_key; clear = clear }; treated = record e.treated { keys_told = true } }))
    → Only w e (after_keys r keys e)
keyed_only w r keys e all = keyed_so (λ (m : Modes). Only w e (record e { modes = m; treated = record e.treated { keys_told = true } })) r keys e.modes all

acked_only : (next : ℕ) (r : Reply) (e : PathEnd) → Only heard_writes e (with_acked next r e)
acked_only next r e =
    acked_so (λ (v : Sending). Only heard_writes e (record (with_acked next r e) { sending = v })) next r e.sending (λ fin. record { same = refl }) (record { same = refl })

-- a segment that is sent on any occasion
sent_only : (occasion : Occasion) (now : ℕ) (segment : PlainSegment) (e : PathEnd) → Only sending e (having_sent occasion now segment e)
sent_only occasion now segment e =
    sent_so (λ (s : EndState). Only sending e (record (having_sent occasion now segment e) { tcp = s })) occasion now e.tcp (λ send due. record { same = refl })

kept_only : (s : Side) (e : PathEnd) → Only (silent_writes (SilentDuty.Keep s)) e (after_keep s e)
kept_only s e =
    if_so (λ (t : EndState). Only (silent_writes (SilentDuty.Keep s)) e
    (record e { tcp = t; treated = record e.treated { held_edge = (if is_not_kept s e then None else e.treated.held_edge) } }))
    (is_dropped s e) _ _ (record { same = refl }) (record { same = refl })

joined_only : (keys : KeyPair) (asked : JoinSyn) (s : Side) (e : PathEnd) → Only (ask_writes (AskDuty.JoinHeard s)) e (joined_by keys asked e)
joined_only keys asked s e =
    if_so (λ (t : EndState). Only (ask_writes (AskDuty.JoinHeard s)) e
    (record e { tcp = t; modes = record (with_keys keys e.modes) { peer_nonce = asked.nonce; backup_heard = asked.backup } }))
    (is_listening e.tcp.state) _ _ (record { same = refl }) (record { same = refl })

opened_only : (keys : Option KeyPair) (e : PathEnd) → Only (ask_writes AskDuty.JoinAgain) e (opened_by keys e)
opened_only None e = record { same = refl }
opened_only (Some keys) e =
    if_so (λ (t : EndState). Only (ask_writes AskDuty.JoinAgain) e (record e { tcp = t; modes = with_keys keys e.modes }))
    (is_waiting e.tcp.state) _ _ (record { same = refl }) (record { same = refl })

plainly_only : (s : Side) (r : Reply) (e : PathEnd) → Only acknowledged e (with_plain_acked r e)
plainly_only s r e = elim (plain_next e) as (λ next. Only acknowledged e (record e { sending = plainly_acked next r e.sending }))
    [ None ↦ record { same = refl } | Some next ↦ acked_so (λ (v : Sending). Only acknowledged e (record e { sending = v })) next r e.sending (λ fin. record { same = refl }) (record { same = refl }) ]

-- ---- paths

abbrev happens_at : Writes
happens_at = step_writes StepDuty.Events

hidden : {X : Type 0} (b : Bool) (x y : X) → b ≡ true → hide b x ≡ hide b y
hidden true x y is = refl
hidden false x y is = cc

-- a segment that is sent leaves the number of the path, whatever waits behind it
sent_path : {C : Type 0} (s : Side) (waiting : Waiting) (link : LinkState C) → (one_more s (with_waiting s waiting link)).path ≡ link.path
sent_path A waiting link = refl
sent_path B waiting link = refl

module _ {C : Type 0} where
  pub then_only : (s : Side) (w : Writes) (p q r : PathState C) → OnlyAt s w p q → OnlyAt s w q r → OnlyAt s w p r
  then_only s w p q r x y = record { same = y.same ∙ x.same }

  either : (s : Side) (w : Writes) (b : Bool) (q r p : PathState C) → OnlyAt s w p q → OnlyAt s w p r → OnlyAt s w p (if b then q else r)
  either s w b q r p x y = if_so (λ (o : PathState C). OnlyAt s w p o) b q r x y

  abbrev own_view : (s : Side) (w : Writes) (p : PathState C) → EndView → PathView C
  own_view s w p v = record (path_view s w p) { own = v }

  -- the end of the duty's side becomes this
  goes : (w : Writes) (s : Side) (e : PathEnd) (ds : List Duty) (p : PathState C) → Only w.own (end_at s p) e → OnlyAt s w p (goes_on s e ds p)
  goes w A e ds p x = record { same = ap (own_view A w p) x.same }
  goes w B e ds p x = record { same = ap (own_view B w p) x.same }

  -- and a segment is sent
  sends_only : (w : Writes) (k : Codec C) (s : Side) (segment : PlainSegment) (e : PathEnd) (ds : List Duty) (p : PathState C)
      → w.link ≡ true → Only w.own (end_at s p) e → OnlyAt s w p (sent_on k s segment e ds p)
  sends_only w k s segment e ds p on x =
      let q : PathState C = goes_on s e ds p in
      let r : PathState C = sent_on k s segment e ds p in
      let linked : hide w.link r.link ≡ hide w.link q.link = hidden w.link r.link q.link on in
      let numbered : r.link.path ≡ q.link.path = sent_path s _ _ in
      then_only s w p q r (goes w s e ds p x)
      (record { same = ap (λ l. record (path_view s w r) { link = l; number = r.link.path }) linked ∙ ap (λ n. record (path_view s w q) { number = n }) numbered })

  -- the path is broken
  breaks_only : (w : Writes) (k : Codec C) (s : Side) (reason : ℕ) (r : Reply) (p : PathState C) → w.link ≡ true
      → ((next window : ℕ) → Only w.own (end_at s p) (acked_so_far next window (end_at s p))) → Only w.own (end_at s p) (died (end_at s p)) → OnlyAt s w p (answered_break k s reason r p)
  breaks_only w k s reason r p on asks dies =
      either s w (end_at s p).treated.asked _ _ p (goes w s _ (resets s reason) p (acked_out_only w.own r (end_at s p) asks)) (sends_only w k s _ _ (leaves s) p on dies)

  -- ---- what happens by itself

  -- at either end
  happens_only : (s : Side) (e : PathEnd) (ds : List Duty) (p : PathState C) → Only happening (end_at s p) e → OnlyAt A happens_at p (goes_on s e ds p)
  happens_only A e ds p x = record { same = ap (λ v. record (path_view A happens_at p) { own = v }) x.same }
  happens_only B e ds p x = record { same = ap (λ v. record (path_view A happens_at p) { other = v }) x.same }

  line_only : (action : LineAction) (p : PathState C) → OnlyAt A happens_at p (after_line action p)
  line_only LineAction.Die p = record {
    same = ap (λ v. record (path_view A happens_at p) { own = v; other = end_view happening (after_line LineAction.Die p).b }) (died_at p.a).same
        ∙ ap (λ v. record (path_view A happens_at p) { other = v }) (died_at p.b).same;
  }
  line_only (LineAction.Prio s backup) p = happens_only s _ _ p (record { same = refl })
  line_only (LineAction.Announce s id) p = record { same = refl }
  line_only (LineAction.Withdraw s id) p = record { same = refl }

  begun_only : (r : Reply) (dead living : List Duty) (p : PathState C) → OnlyAt A happens_at p (join_begun r dead living p)
  begun_only r dead living p =
      either A happens_at (is_never r) _ _ p (happens_only A (never_joined r p.a) dead p (record { same = refl }))
      (happens_only A (opened_by (keys_begun r) p.a) living p (opened_at (keys_begun r) p.a))

  heard_only : (now : ℕ) (s : Side) (x : HeardSegment) (p : PathState C) → OnlyAt A happens_at p (told_at now s x p)
  heard_only now s x p =
      let joins : Bool = is_joined p.profile in let e : PathEnd = end_at s p in
      let meaning : Meaning = taken_as (judged_in joins s x e) in
      let after : PathEnd = after_judged p.profile s now x (judged_in joins s x e) e in
      happens_only s after _ p
      (copy_so (λ (m : Modes). Only happening e (record after { modes = m })) joins meaning (items_of joins s x) (with_held (held_of p.profile s x) x meaning e).tcp.state x.options e.modes
      (λ nonce backup owes clear asked. record { same = refl }))

  copy_only : (s : Side) (o : Option HeardSegment) (p : PathState C) → OnlyAt A happens_at p (copy_heard s o p)
  copy_only s None p = record { same = refl }
  copy_only s (Some x) p = heard_only p.clock s (options_heard (end_at s p) x) p

  event_only : (k : Codec C) (o : Option Event) (r : Reply) (p : PathState C) → OnlyAt A happens_at p (happens_if k o r p)
  event_only k None r p = record { same = refl }
  event_only k (Some (Event.Joins tick)) r p =
      let q : PathState C = record (at_tick tick p) { joined_at = None } in
      then_only A happens_at p q _ (record { same = refl }) (begun_only r (leaves A) (emission A) q)
  event_only k (Some (Event.Takes next)) r p =
      let q : PathState C = record (at_tick next.tick p) { lines = tail_of p.lines } in
      then_only A happens_at p q _ (record { same = refl }) (line_only next.action q)
  event_only k (Some (Event.Arrives due)) r p =
      let q : PathState C = record (at_tick due.tick p) { link = after_delivery due p.link } in
      then_only A happens_at p q _ (record { same = refl }) (copy_only due.to (heard_in k due.to (arriving due p.link) p) q)
  event_only k (Some (Event.Fires s tick)) r p =
      let q : PathState C = at_tick tick p in then_only A happens_at p q _ (record { same = refl }) (happens_only s _ _ q (record { same = refl }))

  -- ---- replies

  granted_only : (s : Side) (grant : Option Grant) (r : Reply) (p : PathState C) → OnlyAt s (step_writes (StepDuty.Data s)) p (answered_grant s grant r p)
  granted_only s None r p = goes _ s _ _ p (refused_at s r (end_at s p))
  granted_only s (Some grant) r p = goes _ s _ _ p (record { same = refl })

  bytes_only : (k : Codec C) (s : Side) (first : Option Record) (r : Reply) (p : PathState C) → OnlyAt s (step_writes (StepDuty.Data s)) p (answered_data k s first r p)
  bytes_only k s (Some next) r p = sends_only _ k s _ _ _ p refl (record { same = refl })
  bytes_only k s None r p = granted_only s (grant_in r) r p

  -- a verdict, and what follows from it
  verdict_on : (w : Writes) (s : Side) (cause : FallEvent) (r : Reply) (e : PathEnd) (ds : List Duty) (p : PathState C)
      → ((mode : Mode) (owes : Bool) → Only w.own (end_at s p) (judged_so mode owes (end_at s p))) → Only w.own (after_fell cause r (end_at s p)) e
      → OnlyAt s w p (goes_on s e ds p)
  verdict_on w s cause r e ds p all rest =
      goes w s e ds p (then_end w.own (end_at s p) (after_fell cause r (end_at s p)) e (fell_only w.own cause r (end_at s p) all) rest)

  key_only : (s : Side) (o : Option ℕ) (r : Reply) (p : PathState C) → OnlyAt s (writes (Duty.Ask (AskDuty.PeerKey s))) p (answered_peer_key s o r p)
  key_only s None r p = verdict_on _ s FallEvent.PlainHandshake r _ _ p (λ mode owes. record { same = refl }) (record { same = refl })
  key_only s (Some key) r p = goes _ s _ _ p (record { same = refl })

  keys_told_only : (s : Side) (o : Option KeyPair) (r : Reply) (p : PathState C) → OnlyAt s (writes (Duty.Ask (AskDuty.Opened s))) p (answered_opened s o r p)
  keys_told_only s None r p = verdict_on _ s FallEvent.PlainHandshake r _ _ p (λ mode owes. record { same = refl }) (record { same = refl })
  keys_told_only s (Some keys) r p =
      goes _ s _ _ p (keyed_only (ask_writes (AskDuty.Opened s)) r (Some keys) (end_at s p) (λ peer_key clear. record { same = refl }))

  joins_only : (s : Side) (keys : Option KeyPair) (asked : Option JoinSyn) (r : Reply) (p : PathState C)
      → OnlyAt s (writes (Duty.Ask (AskDuty.JoinHeard s))) p (join_taken s keys asked r p)
  joins_only s (Some keys) (Some asked) r p = goes _ s _ _ p (joined_only keys asked s (end_at s p))
  joins_only s (Some keys) None r p = record { same = refl }
  joins_only s None (Some asked) r p = goes _ s _ _ p (record { same = refl })
  joins_only s None None r p = record { same = refl }

  thing_only : (k : Codec C) (s : Side) (item : Heard) (r : Reply) (p : PathState C) → OnlyAt s (on_link heard_writes) p (answered_heard k s item r p)
  thing_only k s (Heard.DataAck next window) r p = goes _ s _ _ p (acked_only next r (end_at s p))
  thing_only k s (Heard.Mapping fin) r p =
      either s _ (is_clash (end_at s p)) _ _ p (breaks_only (on_link heard_writes) k s 1 r p refl (λ next window. record { same = refl }) (record { same = refl }))
      (verdict_on _ s FallEvent.MappingHeard r _ _ p (λ mode owes. record { same = refl }) (record { same = refl }))
  thing_only k s (Heard.DataFin place) r p = verdict_on _ s FallEvent.MappingHeard r _ _ p (λ mode owes. record { same = refl }) (record { same = refl })
  thing_only k s (Heard.InfiniteMapping place position) r p = goes _ s _ _ p (infinite_only place position r (end_at s p))
  thing_only k s (Heard.Keys own peer) r p =
      goes _ s _ _ p (keyed_only heard_writes r (Some (record { own = own; peer = peer })) (end_at s p) (λ peer_key clear. record { same = refl }))
  thing_only k s (Heard.Notice notice) r p = goes _ s _ _ p (record { same = refl })
  thing_only k s Heard.Fail r p =
      fail_answered_so (OnlyAt s (on_link heard_writes) p) s r p (goes _ s _ _ p (record { same = refl }))
      (verdict_on _ s (FallEvent.FailHeard false) r _ _ p (λ mode owes. record { same = refl }) (record { same = refl }))
  thing_only k s _ r p = record { same = refl }

  item_only : (k : Codec C) (s : Side) (o : Option Heard) (r : Reply) (p : PathState C) → OnlyAt s (on_link heard_writes) p (answered_item k s o r p)
  item_only k s None r p = record { same = refl }
  item_only k s (Some x) r p = thing_only k s x r p

  plain_ack_only : (k : Codec C) (s : Side) (r : Reply) (p : PathState C) → OnlyAt s (step_writes (StepDuty.PlainAck s)) p (answered_plain_ack k s r p)
  plain_ack_only k s r p =
      let w : Writes = step_writes (StepDuty.PlainAck s) in
      either s w (breaks_by_ack p.profile (end_at s p)) _ _ p (breaks_only w k s 6 r p refl (λ next window. record { same = refl }) (record { same = refl }))
      (verdict_on w s FallEvent.PlainAck r _ _ p (λ mode owes. record { same = refl }) (record { same = refl }))

  piece_only : (s : Side) (o : Option Piece) (taken : Bool) (p : PathState C) → OnlyAt s (writes (Duty.Ask (AskDuty.Edge s))) p (answered_piece s o taken p)
  piece_only s None taken p = goes _ s _ _ p (record { same = refl })
  piece_only s (Some piece) taken p = either s _ taken _ _ p (goes _ s _ _ p (record { same = refl })) (goes _ s _ _ p (record { same = refl }))

  -- ---- all

  pub writes_no_more : (k : Codec C) (d : Duty) (r : Reply) (p : PathState C) → OnlyAt (side_of d) (writes d) p (answered k d r p)
  writes_no_more k (Duty.Ask AskDuty.JoinAgain) r p =
      either A _ (is_never r) _ _ p (goes _ A (never_joined r p.a) _ p (record { same = refl })) (goes _ A (opened_by (keys_begun r) p.a) _ p (opened_only (keys_begun r) p.a))
  writes_no_more k (Duty.Ask (AskDuty.Window s)) r p =
      goes _ s _ _ p (acked_out_only acking r (end_at s p) (λ next window. record { same = refl }))
  writes_no_more k (Duty.Ask (AskDuty.PlainHandshake s)) r p =
      verdict_on _ s FallEvent.PlainHandshake r _ _ p (λ mode owes. record { same = refl }) (record { same = refl })
  writes_no_more k (Duty.Ask (AskDuty.PeerKey s)) r p = key_only s (key_heard (end_at s p).treated.items) r p
  writes_no_more k (Duty.Ask (AskDuty.JoinHeard s)) r p = joins_only s (keys_begun r) (asked_at s p) r p
  writes_no_more k (Duty.Ask (AskDuty.Opened s)) r p = keys_told_only s (keys_heard (end_at s p).treated.items) r p
  writes_no_more k (Duty.Ask (AskDuty.AckHeard s)) r p =
      verdict_on _ s FallEvent.AckHeard r _ _ p (λ mode owes. record { same = refl }) (record { same = refl })
  writes_no_more k (Duty.Ask (AskDuty.FailHeard s)) r p = goes _ s _ _ p (failed_only s r (end_at s p))
  writes_no_more k (Duty.Ask (AskDuty.SubflowAck s)) r p = goes _ s _ _ p (plainly_only s r (end_at s p))
  writes_no_more k (Duty.Ask (AskDuty.PlainData s)) r p =
      verdict_on _ s FallEvent.PlainData r _ _ p (λ mode owes. record { same = refl }) (record { same = refl })
  writes_no_more k (Duty.Ask (AskDuty.GoIdentity s)) r p = goes _ s _ _ p (record { same = refl })
  writes_no_more k (Duty.Ask (AskDuty.Edge s)) r p = piece_only s (piece_of s p) (is_placed r) p
  writes_no_more k (Duty.Ask (AskDuty.CheckFailed s)) r p =
      goes _ s _ _ p (checked_only s p.profile.spelling.checksums r (end_at s p))
  writes_no_more k (Duty.Ask (AskDuty.HeardFin s index)) r p =
      either s _ (is_fin_set r) _ _ p (goes _ s _ _ p (record { same = refl })) (goes _ s _ _ p (record { same = refl }))
  writes_no_more k (Duty.Ask (AskDuty.SubflowFin s)) r p =
      either s _ (is_fin_set r) _ _ p (goes _ s _ _ p (record { same = refl })) (goes _ s _ _ p (record { same = refl }))
  writes_no_more k (Duty.Ask (AskDuty.AckOut s)) r p =
      goes _ s _ _ p (acked_out_only acking r (end_at s p) (λ next window. record { same = refl }))
  writes_no_more k (Duty.Ask (AskDuty.Rate s)) r p = goes _ s _ _ p (record { same = refl })
  writes_no_more k (Duty.Ask (AskDuty.LeaveNoted s)) r p = goes _ s _ _ p (record { same = refl })
  writes_no_more k (Duty.Ask (AskDuty.BreakAck s reason)) r p =
      goes _ s _ _ p (acked_out_only acking r (end_at s p) (λ next window. record { same = refl }))
  writes_no_more k (Duty.Step (StepDuty.Look s)) r p = goes _ s _ _ p (looked r (end_at s p))
  writes_no_more k (Duty.Step (StepDuty.Data s)) r p = bytes_only k s (first_unsent (end_at s p)) r p
  writes_no_more k (Duty.Step StepDuty.Events) r p = event_only k (next_event p) r p
  writes_no_more k (Duty.Step (StepDuty.Heard s index)) r p = item_only k s (item_of index (end_at s p)) r p
  writes_no_more k (Duty.Step (StepDuty.PlainAck s)) r p = plain_ack_only k s r p
  writes_no_more k (Duty.Step (StepDuty.Unmapped s)) r p =
      breaks_only (step_writes (StepDuty.Unmapped s)) k s 6 r p refl (λ next window. record { same = refl }) (record { same = refl })
  writes_no_more k (Duty.Send (SendDuty.Update s)) r p = sends_only _ k s _ _ _ p refl (record { same = refl })
  writes_no_more k (Duty.Send (SendDuty.Syn s)) r p = sends_only _ k s _ _ _ p refl (record { same = refl })
  writes_no_more k (Duty.Send (SendDuty.FastClose s)) r p = sends_only _ k s _ _ _ p refl (record { same = refl })
  writes_no_more k (Duty.Send (SendDuty.Notice s)) r p = sends_only _ k s _ _ _ p refl (record { same = refl })
  writes_no_more k (Duty.Send (SendDuty.DataFin s)) r p = sends_only _ k s _ _ _ p refl (record { same = refl })
  writes_no_more k (Duty.Send (SendDuty.Fin s)) r p = sends_only _ k s _ _ _ p refl (record { same = refl })
  writes_no_more k (Duty.Send (SendDuty.SynAck s)) r p = sends_only _ k s _ _ _ p refl (record { same = refl })
  writes_no_more k (Duty.Send (SendDuty.Refuse s)) r p = sends_only _ k s _ _ _ p refl (record { same = refl })
  writes_no_more k (Duty.Send (SendDuty.Acknowledge s)) r p = sends_only _ k s _ _ _ p refl (record { same = refl })
  writes_no_more k (Duty.Send (SendDuty.Again s)) r p = sends_only _ k s _ _ _ p refl (record { same = refl })
  writes_no_more k (Duty.Send (SendDuty.Answer s)) r p =
      sends_only _ k s _ _ _ p refl (sent_only (answer_occasion (end_at s p)) p.clock (answer_of s p) (end_at s p))
  writes_no_more k (Duty.Send (SendDuty.ResetAnswer s)) r p = sends_only _ k s _ _ _ p refl (record { same = refl })
  writes_no_more k (Duty.Send (SendDuty.Resend s)) r p =
      sends_only _ k s _ _ _ p refl (sent_only (resend_occasion (end_at s p)) p.clock (resend_of s p) (end_at s p))
  writes_no_more k (Duty.Send (SendDuty.BreakReset s reason)) r p = sends_only _ k s _ _ _ p refl (record { same = refl })
  writes_no_more k (Duty.Send (SendDuty.Reset s)) r p = sends_only _ k s _ _ _ p refl (record { same = refl })
  writes_no_more k (Duty.Send (SendDuty.ResetNoted s)) r p = sends_only _ k s _ _ _ p refl (record { same = refl })
  writes_no_more k (Duty.Silent (SilentDuty.Timer s)) r p = record { same = refl }
  writes_no_more k _ r p = record { same = refl }

  pub passes_no_more : (d : Duty) (p : PathState C) → OnlyAt (side_of d) (writes d) p (passed d p)
  passes_no_more (Duty.Ask (AskDuty.CheckFailed s)) p = goes _ s _ p.agenda p (mapped_only s p.profile.spelling.checksums (end_at s p))
  passes_no_more (Duty.Step (StepDuty.Heard s index)) p = goes _ s _ p.agenda p (item_at s (item_of index (end_at s p)) (end_at s p))
  passes_no_more (Duty.Step (StepDuty.PlainAck s)) p = goes _ s _ p.agenda p (record { same = refl })
  passes_no_more (Duty.Step (StepDuty.Unmapped s)) p = goes _ s _ p.agenda p (record { same = refl })
  passes_no_more (Duty.Silent (SilentDuty.Timer s)) p = goes _ s _ p.agenda p (record { same = refl })
  passes_no_more (Duty.Silent (SilentDuty.Keep s)) p = goes _ s _ p.agenda p (kept_only s (end_at s p))
  passes_no_more (Duty.Silent (SilentDuty.PassFin s)) p =
      goes _ s _ p.agenda p
      (if_so (λ (t : EndState). Only (silent_writes (SilentDuty.PassFin s)) (end_at s p) (record (end_at s p) { tcp = t }))
      (is_fin_next (end_at s p).tcp) (after_passing_fin (end_at s p).tcp) (end_at s p).tcp (record { same = refl }) (record { same = refl }))
  passes_no_more (Duty.Send (SendDuty.Update s)) p = record { same = refl }
  passes_no_more _ p = record { same = refl }
