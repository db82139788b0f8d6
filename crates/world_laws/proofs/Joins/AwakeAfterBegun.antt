-- An end of a path that joins does nothing before its side's book joined, and never falls back: over octets as over values.
use Rattle.world_laws.proofs.Words.{◌≡◌, refl, sym, ◌∙◌, ap, subst, ℕ, ◌&&◌, ◌||◌, not, nat_lt, inl, inr, ◌⊎◌, ⊎_elim, Bool, true, false, if◌then◌else◌, Option}
use Rattle.world_laws.proofs.Words.{Some, None, List, [], ◌∷◌, ◌++◌, length, is_some, both_ways, false≢true, FallEvent, Side, A, B, same_side, JoinSyn}
use Rattle.world_laws.proofs.Words.{ControlCall, ControlReply, SendCall, KeptMapping, Record, is_closed_to_segments, is_dead, Meaning, is_sixth, after_expiry}
use Rattle.world_laws.proofs.Words.{EndState, EndPhase, Occasion, Outgoing, after_death, after_dropping_held, after_keeping_held, arriving, after_delivery}
use Rattle.world_laws.proofs.Words.{HeardSegment, PlainSegment, LineAction, Piece, rest_of_turn, emission, leaves, resets, stops, announces, withdraws}
use Rattle.world_laws.proofs.Words.{start_of_turn, Duty, SendDuty, StepDuty, AskDuty, SilentDuty, Heard, KeyPair, replaced, key_heard, keys_heard, Ask, Reply}
use Rattle.world_laws.proofs.Words.{tail_of, Codec, stands, ask_for, passed, answered, PathEnd, died, answered_ack_out, after_look, modes_told, after_ack_out}
use Rattle.world_laws.proofs.Words.{at_tick, PathState, end_at, goes_on, with_end, with_agenda, left, path_of, settled, answers, asks_of, asks_first, takes}
use Rattle.world_laws.proofs.Words.{begins_turn, hint_of, items_of, owes_by, options_heard, after_judged, asked_in, copy_judged, copy_of, judged_in, reset_for}
use Rattle.world_laws.proofs.Words.{template_by, template_judged, template_of, with_held, heard_in, copy_heard, reset_of, reset_on, answered_break, refusal_of}
use Rattle.world_laws.proofs.Words.{break_ask, answered_data, answered_grant, first_unsent, grant_in, answer_occasion, answer_of, dead_answer, resend_occasion}
use Rattle.world_laws.proofs.Words.{resend_of, Judged, next_event, step_for, after_line, happens_if, join_begun, never_joined, asked_at, is_never, join_taken}
use Rattle.world_laws.proofs.Words.{keys_begun, opened_by, with_mode_refused, is_joined, join_heard_ask, join_answer, with_timer_settled, template_fired, timer_fired}
use Rattle.world_laws.proofs.Words.{mapping_here, piece_of, is_placed, answered_piece, forgotten_by, after_keep, after_pieces, is_dropped, after_check}
use Rattle.world_laws.proofs.Words.{fin_segment_of, having_sent_fin, answered_plain_fin, answered_fin_heard, is_fin_set, after_pass_fin, is_clash, with_learned}
use Rattle.world_laws.proofs.Words.{with_data_fin, with_skipped, held_of, HeardOption, with_acked, after_dss, with_data_ack, heard_ask, item_ask}
use Rattle.world_laws.proofs.Words.{answered_heard, answered_item, item_of, item_passed, fell_ask, after_fell, fell_duties, plain_ack_ask, answered_plain_ack}
use Rattle.world_laws.proofs.Words.{with_plain_ack, breaks_by_ack, may_go_infinite, book_answered, answered_fell, with_infinite, fell_in, is_fall, in_identity}
use Rattle.world_laws.proofs.Words.{after_keys, peer_key_ask, opened_ask, answered_peer_key, answered_opened, with_peer_key, keys_in, is_stopped_by}
use Rattle.world_laws.proofs.Words.{with_priority, after_peer_notice, sent_on, answered_in, cleared_in, taken_as, with_answer, Modes, if_so}
use Rattle.path_agenda.specs.Agenda.{breaks}
use Rattle.path_core.specs.declared.events.Event.{Event}
use Rattle.path_core.specs.DssIn.{is_acked}
use Rattle.path_core.specs.Emission.{Grant}
use Rattle.world_laws.proofs.Writes.Ends.{item_so}
use Rattle.world_laws.proofs.Falls.FailedChecks.{forgets_so, check_failed_so, checked_so, fail_heard_so, failed_so, infinite_came_so, infinite_so}
use Rattle.world_laws.proofs.Falls.Verdicts.{fell_cases}
use Rattle.world_laws.proofs.Keys.AreDrawn.{Known}
use Rattle.world_laws.proofs.Keys.Held.{look_leaves, fell_leaves}
use Rattle.world_laws.proofs.Keys.WhatWakes.{is_up, NoWaking, WakesNone, joined_wakes_none, timer_up, sending_up, finishing_up, passing_up, copy_up, Voice, is_said_by, speaks, tail_speaks, replaced_speaks, came_said, came_calm, same_or_calm, next_happens, first_speaks, itself}

-- one side is the other, or a duty of the one says nothing of the other
side_or : (t s : Side) → (t ≡ s) ⊎ (same_side t s ≡ false)
side_or A A = inl refl
side_or B B = inl refl
side_or A B = inr refl
side_or B A = inr refl

-- no more is said, and no side falls any more
record Less (ds es : List Duty) : Type 0 where
  pub said : (t : Side) → speaks (Voice.Says t) es ≡ true → speaks (Voice.Says t) ds ≡ true
  pub falls : (t : Side) → speaks (Voice.Falls t) es ≡ true → speaks (Voice.Falls t) ds ≡ true

same_less : (ds : List Duty) → Less ds ds
same_less ds = record { said = λ t is. is; falls = λ t is. is }

tail_less : (ds : List Duty) → Less ds (tail_of ds)
tail_less ds = record { said = λ t is. tail_speaks (Voice.Says t) ds is; falls = λ t is. tail_speaks (Voice.Falls t) ds is }

replaced_less : (d : Duty) (ds : List Duty) → ((t : Side) → is_said_by (Voice.Says t) d ≡ false) → ((t : Side) → is_said_by (Voice.Falls t) d ≡ false) → Less ds (replaced d ds)
replaced_less d ds silent calm = record { said = λ t is. replaced_speaks (Voice.Says t) d ds (silent t) is; falls = λ t is. replaced_speaks (Voice.Falls t) d ds (calm t) is }

-- a list that isn't the path's own
new_less : (ds es : List Duty) → ((t : Side) → speaks (Voice.Says t) es ≡ false) → ((t : Side) → speaks (Voice.Falls t) es ≡ false) → Less ds es
new_less ds es silent calm = record { said = λ t is. absurd (both_ways _ (silent t) is); falls = λ t is. absurd (both_ways _ (calm t) is) }

-- ---- templates

meant_calm : (t : Side) (joined : Bool) (s : Side) (count : ℕ) (m : Meaning) → speaks (Voice.Falls t) (template_by joined s count m) ≡ false
meant_calm t true s count (Meaning.Accepts acknowledged) = refl
meant_calm t false s count (Meaning.Accepts acknowledged) = refl
meant_calm t joined s count (Meaning.Taken pos acknowledged) = came_calm t s count
meant_calm t joined s count _ = refl

template_calm : (t : Side) (joined : Bool) (s : Side) (count : ℕ) (v : Judged) → speaks (Voice.Falls t) (template_judged joined s count v) ≡ false
template_calm t joined s count (Judged.As m) = meant_calm t joined s count m
template_calm t joined s count _ = refl

-- a side says what an end says that is up, where it heard a copy
template_said : (t s : Side) (count : ℕ) (v : Judged) (tcp : EndState) → WakesNone (taken_as v) tcp → speaks (Voice.Says t) (template_judged true s count v) ≡ true → (t ≡ s) × (is_up tcp ≡ true)
template_said t s count (Judged.As Meaning.Opens) tcp none spoken = absurd (false≢true (sym none.no_syn))
template_said t s count (Judged.As Meaning.RepeatedSyn) tcp none spoken = (same_or_calm t s spoken, none.lively refl)
template_said t s count (Judged.As Meaning.Outside) tcp none spoken = (same_or_calm t s spoken, none.lively refl)
template_said t s count (Judged.As Meaning.Challenged) tcp none spoken = (same_or_calm t s spoken, none.lively refl)
template_said t s count (Judged.As Meaning.Ahead) tcp none spoken = (same_or_calm t s spoken, none.lively refl)
template_said t s count (Judged.As (Meaning.Taken pos acknowledged)) tcp none spoken = (came_said t s count spoken, none.lively refl)
template_said t s count _ tcp none spoken = absurd (false≢true spoken)

-- what is told leaves whether the end fell back
asked_identity : (m : Meaning) (options : List HeardOption) (modes : Modes) → (asked_in m options modes).identity ≡ modes.identity
asked_identity Meaning.Opens options modes = refl
asked_identity Meaning.Ignored options modes = refl
asked_identity _ options modes = refl

join_identity : (m : Meaning) (state : EndPhase) (items : List Heard) (modes : Modes) → (cleared_in m state (answered_in m items modes)).identity ≡ modes.identity
join_identity (Meaning.Accepts acknowledged) state items modes = elim (join_answer items modes) as (λ o. (with_answer o modes).identity ≡ modes.identity)
    [ None ↦ refl | Some answer ↦ refl ]
join_identity (Meaning.Taken pos acknowledged) state items modes = refl
join_identity _ state items modes = refl

look_identity : (r : Reply) (m : Modes) → (modes_told r m).identity ≡ m.identity
look_identity r m = ap (λ (x : Known). x.identity) (look_leaves r m)

fell_identity : (event : FallEvent) (r : Reply) (m : Modes) → (fell_in event r m).identity ≡ m.identity
fell_identity event r m = ap (λ (x : Known). x.identity) (fell_leaves event r m)

keys_identity : (r : Reply) (o : Option KeyPair) (m : Modes) → (keys_in r o m).identity ≡ m.identity
keys_identity (Reply.Control ControlReply.Noted) (Some keys) m = refl
keys_identity (Reply.Control ControlReply.Noted) None m = refl
keys_identity _ o m = refl

-- ---- a path, where W is that a side's book joined, and F that it fell back by its book

module _ {C : Type 0} (k : Codec C) (W F : Side → Type 0) where
  pub record Awake (p : PathState C) : Type 0 where
    pub woken : (t : Side) → is_joined p.profile ≡ true → is_up (end_at t p).tcp ≡ true → W t
    pub known : (t : Side) → is_joined p.profile ≡ true → speaks (Voice.Says t) p.agenda ≡ true → W t
    pub falls : (t : Side) → speaks (Voice.Falls t) p.agenda ≡ true → (is_joined p.profile ≡ false) × F t
    pub plain : (t : Side) → is_joined p.profile ≡ true → (end_at t p).modes.identity ≡ false

  -- the end of a side is up where it was, and fell back where it had
  abbrev pub Goes : Side → PathState C → PathEnd → Type 0
  Goes s p e = (is_up e.tcp ≡ true → is_up (end_at s p).tcp ≡ true) × (e.modes.identity ≡ (end_at s p).modes.identity)

  same_goes : (s : Side) (e : PathEnd) (p : PathState C) → e.tcp.state ≡ (end_at s p).tcp.state → e.tcp.timing.timer ≡ (end_at s p).tcp.timing.timer
      → e.modes.identity ≡ (end_at s p).modes.identity → Goes s p e
  same_goes s e p state timer same =
      (λ up. ap (λ x. not (is_closed_to_segments x) || is_some (end_at s p).tcp.timing.timer) (sym state) ∙ ap (λ o. not (is_closed_to_segments e.tcp.state) || is_some o) (sym timer) ∙ up, same)

  up_goes : (s : Side) (e : PathEnd) (p : PathState C) → NoWaking (end_at s p).tcp e.tcp → e.modes.identity ≡ (end_at s p).modes.identity → Goes s p e
  up_goes s e p up same = (up.up, same)

  -- where that end is the one, or the other
  woken_on : (s t : Side) (e : PathEnd) (p : PathState C) → Goes s p e → Awake p → is_joined p.profile ≡ true → is_up (end_at t (with_end s e p)).tcp ≡ true → W t
  woken_on A A e p g h joins up = h.woken A joins (g.0 up)
  woken_on A B e p g h joins up = h.woken B joins up
  woken_on B A e p g h joins up = h.woken A joins up
  woken_on B B e p g h joins up = h.woken B joins (g.0 up)

  plain_on : (s t : Side) (e : PathEnd) (p : PathState C) → Goes s p e → Awake p → is_joined p.profile ≡ true → (end_at t (with_end s e p)).modes.identity ≡ false
  plain_on A A e p g h joins = g.1 ∙ h.plain A joins
  plain_on A B e p g h joins = h.plain B joins
  plain_on B A e p g h joins = h.plain A joins
  plain_on B B e p g h joins = g.1 ∙ h.plain B joins

  -- what is said then is said by a side that joined
  goes_by : (s : Side) (e : PathEnd) (ds : List Duty) (p : PathState C) → Goes s p e → ((t : Side) → is_joined p.profile ≡ true → speaks (Voice.Says t) ds ≡ true → W t)
      → ((t : Side) → speaks (Voice.Falls t) ds ≡ true → (is_joined p.profile ≡ false) × F t) → Awake p → Awake (goes_on s e ds p)
  goes_by s e ds p g said falls h = record { woken = λ t. woken_on s t e p g h; known = said; falls = falls; plain = λ t. plain_on s t e p g h }

  goes : (s : Side) (e : PathEnd) (ds : List Duty) (p : PathState C) → Goes s p e → Less p.agenda ds → Awake p → Awake (goes_on s e ds p)
  goes s e ds p g less h = goes_by s e ds p g (λ t joins is. h.known t joins (less.said t is)) (λ t is. h.falls t (less.falls t is)) h

  sent : (s : Side) (sg : PlainSegment) (e : PathEnd) (ds : List Duty) (p : PathState C) → Goes s p e → Less p.agenda ds → Awake p → Awake (sent_on k s sg e ds p)
  sent s sg e ds p g less h = let n = goes s e ds p g less h in record { woken = n.woken; known = n.known; falls = n.falls; plain = n.plain }

  agenda : (ds : List Duty) (p : PathState C) → Less p.agenda ds → Awake p → Awake (with_agenda ds p)
  agenda ds p less h = record { woken = h.woken; known = λ t joins is. h.known t joins (less.said t is); falls = λ t is. h.falls t (less.falls t is); plain = h.plain }

  same : (s : Side) (e : PathEnd) (ds : List Duty) (p : PathState C) → e.tcp.state ≡ (end_at s p).tcp.state → e.tcp.timing.timer ≡ (end_at s p).tcp.timing.timer
      → e.modes.identity ≡ (end_at s p).modes.identity → Less p.agenda ds → Awake p → Awake (goes_on s e ds p)
  same s e ds p state timer mode less h = goes s e ds p (same_goes s e p state timer mode) less h

  same_sent : (s : Side) (sg : PlainSegment) (e : PathEnd) (ds : List Duty) (p : PathState C) → NoWaking (end_at s p).tcp e.tcp → e.modes.identity ≡ (end_at s p).modes.identity
      → Less p.agenda ds → Awake p → Awake (sent_on k s sg e ds p)
  same_sent s sg e ds p up mode less h = sent s sg e ds p (up_goes s e p up mode) less h

  -- an end begins, where its side's book joined
  begins_on : (s : Side) (e : PathEnd) (ds : List Duty) (p : PathState C) → W s → e.modes.identity ≡ (end_at s p).modes.identity
      → ((t : Side) → same_side t s ≡ false → speaks (Voice.Says t) ds ≡ true → speaks (Voice.Says t) p.agenda ≡ true)
      → ((t : Side) → speaks (Voice.Falls t) ds ≡ true → speaks (Voice.Falls t) p.agenda ≡ true) → Awake p → Awake (goes_on s e ds p)
  begins_on s e ds p now mode said falls h = record { woken = up s now; known = known; falls = λ t is. h.falls t (falls t is); plain = plain s mode }
    where
      up : (s : Side) → W s → (t : Side) → is_joined p.profile ≡ true → is_up (end_at t (with_end s e p)).tcp ≡ true → W t
      up A now A joins is = now
      up A now B joins is = h.woken B joins is
      up B now A joins is = h.woken A joins is
      up B now B joins is = now

      known : (t : Side) → is_joined p.profile ≡ true → speaks (Voice.Says t) ds ≡ true → W t
      known t joins is = ⊎_elim (λ here. subst W (sym here) now) (λ other. h.known t joins (said t other is)) (side_or t s)

      plain : (s : Side) → e.modes.identity ≡ (end_at s p).modes.identity → (t : Side) → is_joined p.profile ≡ true → (end_at t (with_end s e p)).modes.identity ≡ false
      plain A mode A joins = mode ∙ h.plain A joins
      plain A mode B joins = h.plain B joins
      plain B mode A joins = h.plain A joins
      plain B mode B joins = mode ∙ h.plain B joins

  -- ---- in silence

  item_goes : (s : Side) (o : Option Heard) (p : PathState C) → Goes s p (item_passed s o (end_at s p))
  item_goes s o p =
      let e : PathEnd = end_at s p in
      item_so (Goes s p) s o e (same_goes s e p refl refl refl) (same_goes s (after_dss s e) p refl refl refl) (λ next. same_goes s (with_data_ack next e) p refl refl refl)
      (same_goes s (with_learned e) p refl refl refl) (same_goes s (with_skipped e) p refl refl refl) (λ place. same_goes s (with_data_fin place e) p refl refl refl)

  edge_goes : (s : Side) (checksums : Bool) (o : Option KeptMapping) (p : PathState C) → Goes s p (forgotten_by checksums o (end_at s p))
  edge_goes s checksums o p = let e : PathEnd = end_at s p in
      forgets_so (Goes s p) checksums o e (λ recv forgotten. same_goes s (record e { tcp = record e.tcp { recv = recv } }) p refl refl refl)

  keep_goes : (s : Side) (b : Bool) (held : Option ℕ) (p : PathState C)
      → Goes s p (record (end_at s p) { tcp = (if b then after_dropping_held (end_at s p).tcp else after_keeping_held (end_at s p).tcp); treated = record (end_at s p).treated { held_edge = held } })
  keep_goes s true held p = same_goes s (record (end_at s p) { tcp = after_dropping_held (end_at s p).tcp; treated = record (end_at s p).treated { held_edge = held } }) p refl refl refl
  keep_goes s false held p = same_goes s (record (end_at s p) { tcp = after_keeping_held (end_at s p).tcp; treated = record (end_at s p).treated { held_edge = held } }) p refl refl refl

  put : (s : Side) (e : PathEnd) (p : PathState C) → Goes s p e → Awake p → Awake (with_end s e p)
  put s e p g h = record { woken = λ t. woken_on s t e p g h; known = h.known; falls = h.falls; plain = λ t. plain_on s t e p g h }

  passed_awake : (d : Duty) (p : PathState C) → Awake p → Awake (passed d p)
  passed_awake (Duty.Silent (SilentDuty.Timer s)) p h = put s (with_timer_settled p.clock (end_at s p)) p (up_goes s (with_timer_settled p.clock (end_at s p)) p (timer_up p.clock (end_at s p)) refl) h
  passed_awake (Duty.Step (StepDuty.Heard s index)) p h = put s (item_passed s (item_of index (end_at s p)) (end_at s p)) p (item_goes s (item_of index (end_at s p)) p) h
  passed_awake (Duty.Silent (SilentDuty.Keep s)) p h = put s (after_keep s (end_at s p)) p (keep_goes s (is_dropped s (end_at s p)) (after_keep s (end_at s p)).treated.held_edge p) h
  passed_awake (Duty.Step (StepDuty.PlainAck s)) p h = put s (with_plain_ack (end_at s p)) p (same_goes s (with_plain_ack (end_at s p)) p refl refl refl) h
  passed_awake (Duty.Step (StepDuty.Unmapped s)) p h = put s (after_pieces (end_at s p)) p (same_goes s (after_pieces (end_at s p)) p refl refl refl) h
  passed_awake (Duty.Ask (AskDuty.CheckFailed s)) p h = put s (after_check p.profile (end_at s p)) p (edge_goes s p.profile.spelling.checksums (mapping_here (end_at s p)) p) h
  passed_awake (Duty.Silent (SilentDuty.PassFin s)) p h = put s (after_pass_fin (end_at s p)) p (up_goes s (after_pass_fin (end_at s p)) p (passing_up (end_at s p).tcp) refl) h
  passed_awake _ p h = h

  passed_profile : (d : Duty) (p : PathState C) → (passed d p).profile ≡ p.profile
  passed_profile (Duty.Silent (SilentDuty.Timer s)) p = refl
  passed_profile (Duty.Step (StepDuty.Heard s index)) p = refl
  passed_profile (Duty.Ask (AskDuty.CheckFailed s)) p = refl
  passed_profile _ p = refl

  -- of a list of duties in place of the path's own
  settled_awake : (ds : List Duty) (p : PathState C) → Awake p → ((t : Side) → is_joined p.profile ≡ true → speaks (Voice.Says t) ds ≡ true → W t)
      → ((t : Side) → speaks (Voice.Falls t) ds ≡ true → (is_joined p.profile ≡ false) × F t) → Awake (settled ds p)
  settled_awake [] p h known falls = record { woken = h.woken; known = known; falls = falls; plain = h.plain }
  settled_awake (d ∷ ds) p h known falls =
      by (stands d p)
      (settled_awake ds (passed d p) (passed_awake d p h)
      (λ t joins is. known t (sym (ap is_joined (passed_profile d p)) ∙ joins) (tail_speaks (Voice.Says t) (d ∷ ds) is))
      (λ t is. let fell = falls t (tail_speaks (Voice.Falls t) (d ∷ ds) is) in (ap is_joined (passed_profile d p) ∙ fell.0, fell.1)))
    where
      by : (b : Bool) → Awake (settled ds (passed d p)) → Awake (if b then with_agenda (d ∷ ds) p else settled ds (passed d p))
      by true rest = record { woken = h.woken; known = known; falls = falls; plain = h.plain }
      by false rest = rest

  settles : (p : PathState C) → Awake p → Awake (settled p.agenda p)
  settles p h = settled_awake p.agenda p h h.known h.falls

  -- ---- events

  died_goes : (s : Side) (p : PathState C) → Goes s p (died (end_at s p))
  died_goes s p = (λ up. absurd (false≢true up), refl)

  line_awake : (action : LineAction) (p : PathState C) → Awake p → Awake (after_line action p)
  line_awake (LineAction.Prio s backup) p h = same s (with_priority backup (end_at s p)) (emission s) p refl refl refl (new_less p.agenda _ (λ t. refl) (λ t. refl)) h
  line_awake (LineAction.Announce s id) p h = agenda (announces s id) p (new_less p.agenda _ (λ t. refl) (λ t. refl)) h
  line_awake (LineAction.Withdraw s id) p h = agenda (withdraws s id) p (new_less p.agenda _ (λ t. refl) (λ t. refl)) h
  line_awake LineAction.Die p h = record { woken = up; known = known; falls = falls; plain = fell }
    where
      silent : (x : Voice) (b c : Bool) → speaks x ((if b then [] else Duty.Ask (AskDuty.Leave A) ∷ []) ++ ((if c then [] else Duty.Ask (AskDuty.Leave B) ∷ []) ++ rest_of_turn)) ≡ false
      silent x true true = refl
      silent x true false = refl
      silent x false true = refl
      silent x false false = refl

      known : (t : Side) → is_joined p.profile ≡ true → speaks (Voice.Says t) (after_line LineAction.Die p).agenda ≡ true → W t
      known t joins is = absurd (both_ways _ (silent (Voice.Says t) (is_dead p.a.tcp.state) (is_dead p.b.tcp.state)) is)

      falls : (t : Side) → speaks (Voice.Falls t) (after_line LineAction.Die p).agenda ≡ true → (is_joined p.profile ≡ false) × F t
      falls t is = absurd (both_ways _ (silent (Voice.Falls t) (is_dead p.a.tcp.state) (is_dead p.b.tcp.state)) is)

      up_by : (t : Side) (e : PathEnd) → (is_up e.tcp ≡ true → W t) → (b : Bool) → is_up (if b then e else died e).tcp ≡ true → W t
      up_by t e stays true is = stays is
      up_by t e stays false is = absurd (false≢true is)

      up : (t : Side) → is_joined p.profile ≡ true → is_up (end_at t (after_line LineAction.Die p)).tcp ≡ true → W t
      up A joins is = up_by A p.a (h.woken A joins) (is_dead p.a.tcp.state) is
      up B joins is = up_by B p.b (h.woken B joins) (is_dead p.b.tcp.state) is

      fell_by : (e : PathEnd) → e.modes.identity ≡ false → (b : Bool) → (if b then e else died e).modes.identity ≡ false
      fell_by e stays true = stays
      fell_by e stays false = stays

      fell : (t : Side) → is_joined p.profile ≡ true → (end_at t (after_line LineAction.Die p)).modes.identity ≡ false
      fell A joins = fell_by p.a (h.plain A joins) (is_dead p.a.tcp.state)
      fell B joins = fell_by p.b (h.plain B joins) (is_dead p.b.tcp.state)

  -- A begins a join where its book does
  begun_awake : (r : Reply) (dead living : List Duty) (p : PathState C) → (is_some (keys_begun r) ≡ true → W A) → Less p.agenda dead → Less p.agenda living → Awake p → Awake (join_begun r dead living p)
  begun_awake r dead living p begins to_dead to_living h = elim (is_never r) as (λ b. Awake (if b then goes_on A (never_joined r p.a) dead p else goes_on A (opened_by (keys_begun r) p.a) living p))
      [ true ↦ goes A (never_joined r p.a) dead p (died_goes A p) to_dead h | false ↦ opens (keys_begun r) begins ]
    where
      opens : (o : Option KeyPair) → (is_some o ≡ true → W A) → Awake (goes_on A (opened_by o p.a) living p)
      opens None begins = same A p.a living p refl refl refl to_living h
      opens (Some keys) begins = begins_on A (opened_by (Some keys) p.a) living p (begins refl) refl (λ t other is. to_living.said t is) (λ t is. to_living.falls t is) h

  fired_awake : (s : Side) (p : PathState C) → is_up (end_at s p).tcp ≡ true → Awake p → Awake (timer_fired s p)
  fired_awake s p up h = elim (is_sixth (end_at s p).tcp) as (λ b. Awake (goes_on s (record e { tcp = (if b then after_death true e.tcp else after_expiry p.clock e.tcp) }) (template_fired b s) p)) [
    | true ↦ goes s (record e { tcp = after_death true e.tcp }) (template_fired true s) p (λ is. absurd (false≢true is), refl) (new_less p.agenda _ (λ t. refl) (λ t. refl)) h
    | false ↦ goes_by s (record e { tcp = after_expiry p.clock e.tcp }) (template_fired false s) p (λ is. up, refl) (λ t. own t s up) (λ t is. absurd (false≢true is)) h
  ]
    where
      e : PathEnd
      e = end_at s p

      own : (t s : Side) → is_up (end_at s p).tcp ≡ true → is_joined p.profile ≡ true → speaks (Voice.Says t) (template_fired false s) ≡ true → W t
      own A A up joins is = h.woken A joins up
      own B B up joins is = h.woken B joins up
      own A B up joins is = absurd (false≢true is)
      own B A up joins is = absurd (false≢true is)

  -- ---- a copy

  heard_awake : (now : ℕ) (s : Side) (heard : HeardSegment) (p : PathState C) → Awake p
      → Awake (goes_on s (after_judged p.profile s now heard (judged_in (is_joined p.profile) s heard (end_at s p)) (end_at s p))
      (template_of (is_joined p.profile) s (items_of (is_joined p.profile) s heard) (judged_in (is_joined p.profile) s heard (end_at s p))) p)
  heard_awake now s heard p h = by (is_joined p.profile) refl
    where
      told : List KeptMapping
      told = held_of p.profile s heard

      answer : Outgoing
      answer = reset_for p.profile s heard

      copied : Goes s p (copy_judged true (held_of p.profile s heard) (reset_for p.profile s heard) s now heard (taken_as (judged_in true s heard (end_at s p))) (end_at s p))
      copied =
          let e = end_at s p in
          let items = items_of true s heard in
          let v : Judged = judged_in true s heard e in
          let m : Meaning = taken_as v in
          let none : WakesNone m e.tcp = joined_wakes_none heard.rst items e (copy_of heard) in
          let state = (with_held (held_of p.profile s heard) heard m e).tcp.state in (
            λ up. (copy_up m (owes_by m items) (hint_of items) now (copy_of heard) heard.payload e.tcp none).up up,
            asked_identity m heard.options (cleared_in m state (answered_in m items e.modes)) ∙ join_identity m state items e.modes,
          )

      said : (t : Side) → speaks (Voice.Says t) (template_judged true s (length (items_of true s heard)) (judged_in true s heard (end_at s p))) ≡ true → is_joined p.profile ≡ true → W t
      said t is joins =
          let items = items_of true s heard in
          let both = template_said t s (length items) (judged_in true s heard (end_at s p)) (end_at s p).tcp (joined_wakes_none heard.rst items (end_at s p) (copy_of heard)) is in
          h.woken t joins (subst (λ u. is_up (end_at u p).tcp ≡ true) (sym both.0) both.1)

      first : (e : PathEnd) (ds : List Duty) → is_joined p.profile ≡ false → ((t : Side) → speaks (Voice.Falls t) ds ≡ false) → Awake (goes_on s e ds p)
      first e ds isnt calm = record {
        woken = λ t joins. absurd (both_ways _ isnt joins);
        known = λ t joins. absurd (both_ways _ isnt joins);
        falls = λ t is. absurd (both_ways _ (calm t) is);
        plain = λ t joins. absurd (both_ways _ isnt joins);
      }

      by : (joined : Bool) → is_joined p.profile ≡ joined
          → Awake (goes_on s (copy_judged joined told answer s now heard (taken_as (judged_in joined s heard (end_at s p))) (end_at s p)) (template_of joined s (items_of joined s heard) (judged_in joined s heard (end_at s p))) p)
      by false isnt = first _ _ isnt (λ t. template_calm t false s (length (items_of false s heard)) (judged_in false s heard (end_at s p)))
      by true joined =
          goes_by s (copy_judged true told answer s now heard (taken_as (judged_in true s heard (end_at s p))) (end_at s p)) (template_of true s (items_of true s heard) (judged_in true s heard (end_at s p))) p
          copied (λ t joins is. said t is joins) (λ t is. absurd (both_ways _ (template_calm t true s (length (items_of true s heard)) (judged_in true s heard (end_at s p))) is)) h

  copy_awake : (s : Side) (o : Option HeardSegment) (p : PathState C) → Awake p → Awake (copy_heard s o p)
  copy_awake s None p h = agenda (emission s) p (new_less p.agenda _ (λ t. refl) (λ t. refl)) h
  copy_awake s (Some heard) p h = heard_awake p.clock s (options_heard (end_at s p) heard) p h

  -- ---- replies

  -- a join begins by the side's book, and the side falls by it, where it joined none
  abbrev pub FallSo : Side → Reply → Type 0
  FallSo s r = is_fall r ≡ true → (W s → ⊥) × F s

  abbrev pub BeginSo : Side → Reply → Type 0
  BeginSo s r = is_some (keys_begun r) ≡ true → W s

  abbrev pub CallSo : Side → ControlCall → Reply → Type 0
  CallSo s (ControlCall.JoinBegin path) r = BeginSo s r
  CallSo s (ControlCall.JoinHeard path token) r = BeginSo s r
  CallSo s (ControlCall.Fell path event) r = FallSo s r
  CallSo s _ r = Unit {0}

  abbrev pub So : Ask → Reply → Type 0
  So (Ask.Control s call) r = CallSo s call r
  So _ r = Unit {0}

  event_awake : (o : Option Event) (r : Reply) (p : PathState C) → next_event p ≡ o → So (step_for p.link.path o) r → Awake p → Awake (happens_if k o r p)
  event_awake None r p next so h = agenda rest_of_turn p (new_less p.agenda rest_of_turn (λ t. refl) (λ t. refl)) h
  event_awake (Some (Event.Joins tick)) r p next so h =
      begun_awake r (leaves A) (emission A) (record (at_tick tick p) { joined_at = None }) so (new_less p.agenda _ (λ t. refl) (λ t. refl)) (new_less p.agenda _ (λ t. refl) (λ t. refl))
      (record { woken = h.woken; known = h.known; falls = h.falls; plain = h.plain })
  event_awake (Some (Event.Takes line)) r p next so h =
      line_awake line.action (record (at_tick line.tick p) { lines = tail_of p.lines }) (record { woken = h.woken; known = h.known; falls = h.falls; plain = h.plain })
  event_awake (Some (Event.Arrives due)) r p next so h =
      copy_awake due.to (heard_in k due.to (arriving due p.link) p) (record (at_tick due.tick p) { link = after_delivery due p.link })
      (record { woken = h.woken; known = h.known; falls = h.falls; plain = h.plain })
  event_awake (Some (Event.Fires s tick)) r p next so h = at_side s (next_happens p (Event.Fires s tick) next)
    where
      h_q : Awake (at_tick tick p)
      h_q = record { woken = h.woken; known = h.known; falls = h.falls; plain = h.plain }

      at_side : (t : Side) → is_up (end_at t p).tcp ≡ true → Awake (timer_fired t (at_tick tick p))
      at_side t up = fired_awake t (at_tick tick p) up h_q

  reset_awake : (s : Side) (reason : Option ℕ) (ds : List Duty) (p : PathState C) → Less p.agenda ds → Awake p → Awake (reset_on k s reason ds p)
  reset_awake s reason ds p less h = sent s (reset_of s reason p) (died (end_at s p)) ds p (died_goes s p) less h

  break_awake : (s : Side) (reason : ℕ) (r : Reply) (p : PathState C) → Awake p → Awake (answered_break k s reason r p)
  break_awake s reason r p h = elim (end_at s p).treated.asked as (λ b. Awake (if b then answered_ack_out s r (resets s reason) p else reset_on k s (Some reason) (leaves s) p)) [
    | true ↦ same s (after_ack_out r (end_at s p)) (resets s reason) p refl refl refl (new_less p.agenda _ (λ t. refl) (λ t. refl)) h
    | false ↦ reset_awake s (Some reason) (leaves s) p (new_less p.agenda _ (λ t. refl) (λ t. refl)) h
  ]

  -- the side said so, and joined
  abbrev Said : Side → PathState C → Type 0
  Said s p = is_joined p.profile ≡ true → W s

  -- what follows a verdict
  verdict_says : (s t : Side) (r : Reply) (p : PathState C) → speaks (Voice.Says t) (fell_duties s r p) ≡ true → speaks (Voice.Says t) p.agenda ≡ true
  verdict_says s t r p =
      fell_cases (λ ds. speaks (Voice.Says t) ds ≡ true → speaks (Voice.Says t) p.agenda ≡ true) s p r
      (λ falls is. replaced_speaks (Voice.Says t) (Duty.Ask (AskDuty.GoIdentity s)) p.agenda refl is)
      (λ reason is. absurd (false≢true is)) (λ reason is. absurd (false≢true is)) (λ is. tail_speaks (Voice.Says t) p.agenda is)

  unjoined : (s : Side) (p : PathState C) → Said s p → (W s → ⊥) → is_joined p.profile ≡ false
  unjoined s p said never = (elim (is_joined p.profile) as (λ b. (b ≡ true → W s) → b ≡ false) [ true ↦ λ said. absurd (never (said refl)) | false ↦ λ said. refl ]) said

  verdict_falls : (s t : Side) (r : Reply) (p : PathState C) → Said s p → FallSo s r → Awake p → speaks (Voice.Falls t) (fell_duties s r p) ≡ true → (is_joined p.profile ≡ false) × F t
  verdict_falls s t r p said so h =
      fell_cases (λ ds. speaks (Voice.Falls t) ds ≡ true → (is_joined p.profile ≡ false) × F t) s p r
      (λ falls is. ⊎_elim (λ here. let fell = so falls in (unjoined s p said fell.0, subst F (sym here) fell.1))
      (λ other. h.falls t (replaced_speaks (Voice.Falls t) (Duty.Ask (AskDuty.GoIdentity s)) p.agenda other is)) (side_or t s))
      (λ reason is. absurd (false≢true is)) (λ reason is. absurd (false≢true is)) (λ is. h.falls t (tail_speaks (Voice.Falls t) p.agenda is))

  verdict_awake : (s : Side) (e : PathEnd) (r : Reply) (p : PathState C) → e.tcp.state ≡ (end_at s p).tcp.state → e.tcp.timing.timer ≡ (end_at s p).tcp.timing.timer
      → e.modes.identity ≡ (end_at s p).modes.identity → Said s p → FallSo s r → Awake p → Awake (goes_on s e (fell_duties s r p) p)
  verdict_awake s e r p state timer mode said so h =
      goes_by s e (fell_duties s r p) p (same_goes s e p state timer mode) (λ t joins is. h.known t joins (verdict_says s t r p is)) (λ t. verdict_falls s t r p said so h) h

  told_awake : (s : Side) (event : FallEvent) (r : Reply) (p : PathState C) → Said s p → FallSo s r → Awake p → Awake (answered_fell s event r p)
  told_awake s event r p said so h = verdict_awake s (after_fell event r (end_at s p)) r p refl refl (fell_identity event r (end_at s p).modes) said so h

  grant_awake : (s : Side) (o : Option Grant) (r : Reply) (p : PathState C) → Awake p → Awake (answered_grant s o r p)
  grant_awake s None r p h = same s _ (left p) p refl refl refl (tail_less p.agenda) h
  grant_awake s (Some grant) r p h = same s _ p.agenda p refl refl refl (same_less p.agenda) h

  data_awake : (s : Side) (o : Option Record) (r : Reply) (p : PathState C) → Awake p → Awake (answered_data k s o r p)
  data_awake s (Some unsent) r p h = same_sent s _ _ p.agenda p (sending_up Occasion.Unsent p.clock (end_at s p).tcp) refl (same_less p.agenda) h
  data_awake s None r p h = grant_awake s (grant_in r) r p h

  keys_awake : (s : Side) (r : Reply) (o : Option KeyPair) (p : PathState C) → Awake p → Awake (goes_on s (after_keys r o (end_at s p)) (left p) p)
  keys_awake s r o p h = same s (after_keys r o (end_at s p)) (left p) p refl refl (keys_identity r o (end_at s p).modes) (tail_less p.agenda) h

  -- a duty of this side that says something comes in the place of the first one
  says_next : (s : Side) (d : Duty) (e : PathEnd) (p : PathState C) → ((t : Side) → is_said_by (Voice.Says t) d ≡ same_side t s) → ((t : Side) → is_said_by (Voice.Falls t) d ≡ false) → Goes s p e
      → Said s p → Awake p → Awake (goes_on s e (replaced d p.agenda) p)
  says_next s d e p same calm g said h =
      goes_by s e (replaced d p.agenda) p g
      (λ t joins is. ⊎_elim (λ here. subst W (sym here) (said joins)) (λ other. h.known t joins (replaced_speaks (Voice.Says t) d p.agenda (same t ∙ other) is)) (side_or t s))
      (λ t is. h.falls t (replaced_speaks (Voice.Falls t) d p.agenda (calm t) is)) h

  heard_answered_awake : (s : Side) (item : Heard) (r : Reply) (p : PathState C) → Said s p → So (heard_ask k s item p) r → Awake p → Awake (answered_heard k s item r p)
  heard_answered_awake s (Heard.DataAck next window) r p said so h =
      elim (is_acked r && nat_lt 0 next) as (λ b. Awake (goes_on s (with_acked next r (end_at s p)) (if b then replaced (Duty.Ask (AskDuty.AckHeard s)) p.agenda else left p) p)) [
        | true ↦ says_next s (Duty.Ask (AskDuty.AckHeard s)) (with_acked next r (end_at s p)) p (λ t. refl) (λ t. refl) (same_goes s (with_acked next r (end_at s p)) p refl refl refl) said h
        | false ↦ same s (with_acked next r (end_at s p)) (left p) p refl refl refl (tail_less p.agenda) h
      ]
  heard_answered_awake s (Heard.Mapping fin) r p said so h = by (is_clash (end_at s p)) so
    where
      by : (b : Bool) → So (if b then break_ask k s 1 p else fell_ask s FallEvent.MappingHeard p) r
          → Awake (if b then answered_break k s 1 r p else goes_on s (with_learned (after_fell FallEvent.MappingHeard r (end_at s p))) (fell_duties s r p) p)
      by true so = break_awake s 1 r p h
      by false so = verdict_awake s (with_learned (after_fell FallEvent.MappingHeard r (end_at s p))) r p refl refl (fell_identity FallEvent.MappingHeard r (end_at s p).modes) said so h
  heard_answered_awake s (Heard.DataFin place) r p said so h =
      verdict_awake s (with_data_fin place (after_fell FallEvent.MappingHeard r (end_at s p))) r p refl refl (fell_identity FallEvent.MappingHeard r (end_at s p).modes) said so h
  heard_answered_awake s (Heard.InfiniteMapping place position) r p said so h =
      infinite_came_so (λ e. Awake (goes_on s e (fell_duties s r p) p)) place position r (end_at s p)
      (λ other. verdict_awake s (infinite_so r other (end_at s p)) r p refl refl (fell_identity FallEvent.InfiniteHeard r (end_at s p).modes) said so h)
  heard_answered_awake s (Heard.Keys mine other) r p said so h = keys_awake s r (Some (record { own = mine; peer = other })) p h
  heard_answered_awake s Heard.Dss r p said so h = agenda (left p) p (tail_less p.agenda) h
  heard_answered_awake s (Heard.PeerKey key) r p said so h = agenda (left p) p (tail_less p.agenda) h
  heard_answered_awake s (Heard.Join form) r p said so h = agenda (left p) p (tail_less p.agenda) h
  heard_answered_awake s (Heard.Notice notice) r p said so h =
      same s (after_peer_notice notice r (end_at s p)) (left p) p refl refl refl (tail_less p.agenda) h
  heard_answered_awake s Heard.Fail r p said so h = by (may_go_infinite (end_at s p)) so
    where
      by : (b : Bool) → So (if b then Ask.Send s (SendCall.GoInfinite (path_of p)) else fell_ask s (FallEvent.FailHeard false) p) r
          → Awake (if b then book_answered s r p else answered_fell s (FallEvent.FailHeard false) r p)
      by true so = says_next s (Duty.Ask (AskDuty.FailHeard s)) (with_infinite r (end_at s p)) p (λ t. refl) (λ t. refl) (same_goes s (with_infinite r (end_at s p)) p refl refl refl) said h
      by false so = told_awake s (FallEvent.FailHeard false) r p said so h
  heard_answered_awake s (Heard.FastClose key) r p said so h =
      if_so (λ z. Awake (with_agenda z p)) (is_stopped_by r) (stops s) (left p)
      (agenda (stops s) p (new_less p.agenda _ (λ t. refl) (λ t. refl)) h) (agenda (left p) p (tail_less p.agenda) h)

  item_answered_awake : (s : Side) (o : Option Heard) (r : Reply) (p : PathState C) → Said s p → So (item_ask k s o p) r → Awake p → Awake (answered_item k s o r p)
  item_answered_awake s None r p said so h = agenda (left p) p (tail_less p.agenda) h
  item_answered_awake s (Some item) r p said so h = heard_answered_awake s item r p said so h

  plain_ack_awake : (s : Side) (r : Reply) (p : PathState C) → Said s p → So (plain_ack_ask k s p) r → Awake p → Awake (answered_plain_ack k s r p)
  plain_ack_awake s r p said so h = by (breaks_by_ack p.profile (end_at s p)) so
    where
      by : (b : Bool) → So (if b then break_ask k s 6 p else fell_ask s FallEvent.PlainAck p) r
          → Awake (if b then answered_break k s 6 r p else goes_on s (with_plain_ack (after_fell FallEvent.PlainAck r (end_at s p))) (fell_duties s r p) p)
      by true so = break_awake s 6 r p h
      by false so = verdict_awake s (with_plain_ack (after_fell FallEvent.PlainAck r (end_at s p))) r p refl refl (fell_identity FallEvent.PlainAck r (end_at s p).modes) said so h

  key_awake : (s : Side) (o : Option ℕ) (r : Reply) (p : PathState C) → Said s p → So (peer_key_ask s o p) r → Awake p → Awake (answered_peer_key s o r p)
  key_awake s None r p said so h = told_awake s FallEvent.PlainHandshake r p said so h
  key_awake s (Some key) r p said so h = same s (with_peer_key (Some key) (end_at s p)) (left p) p refl refl refl (tail_less p.agenda) h

  opened_awake : (s : Side) (o : Option KeyPair) (r : Reply) (p : PathState C) → Said s p → So (opened_ask s o p) r → Awake p → Awake (answered_opened s o r p)
  opened_awake s None r p said so h = told_awake s FallEvent.PlainHandshake r p said so h
  opened_awake s (Some keys) r p said so h = keys_awake s r (Some keys) p h

  piece_awake : (s : Side) (o : Option Piece) (taken : Bool) (p : PathState C) → Awake p → Awake (answered_piece s o taken p)
  piece_awake s None taken p h = same s _ (breaks s 1) p refl refl refl (new_less p.agenda _ (λ t. refl) (λ t. refl)) h
  piece_awake s (Some piece) true p h = same s _ p.agenda p refl refl refl (same_less p.agenda) h
  piece_awake s (Some piece) false p h = same s _ (breaks s 1) p refl refl refl (new_less p.agenda _ (λ t. refl) (λ t. refl)) h

  fin_awake : (s : Side) (set : Bool) (p : PathState C) → Awake p → Awake (answered_fin_heard s set p)
  fin_awake s true p h = same s _ (left p) p refl refl refl (tail_less p.agenda) h
  fin_awake s false p h = same s _ (breaks s 1) p refl refl refl (new_less p.agenda _ (λ t. refl) (λ t. refl)) h

  plain_fin_awake : (s : Side) (set : Bool) (p : PathState C) → Awake p → Awake (answered_plain_fin s set p)
  plain_fin_awake s true p h = same s _ (left p) p refl refl refl (tail_less p.agenda) h
  plain_fin_awake s false p h = same s _ (breaks s 1) p refl refl refl (new_less p.agenda _ (λ t. refl) (λ t. refl)) h

  joined_awake : (s : Side) (o : Option KeyPair) (asked : Option JoinSyn) (r : Reply) (p : PathState C) → keys_begun r ≡ o → So (join_heard_ask s asked p) r → Awake p → Awake (join_taken s o asked r p)
  joined_awake s None (Some asked) r p is so h = same s (with_mode_refused r (end_at s p)) (replaced (Duty.Send (SendDuty.Refuse s)) p.agenda) p refl refl refl (replaced_less (Duty.Send (SendDuty.Refuse s)) p.agenda (λ t. refl) (λ t. refl)) h
  joined_awake s None None r p is so h = agenda _ p (replaced_less (Duty.Send (SendDuty.Refuse s)) p.agenda (λ t. refl) (λ t. refl)) h
  joined_awake s (Some keys) None r p is so h = agenda _ p (replaced_less (Duty.Send (SendDuty.Refuse s)) p.agenda (λ t. refl) (λ t. refl)) h
  joined_awake s (Some keys) (Some asked) r p is so h =
      begins_on s _ (replaced (Duty.Send (SendDuty.SynAck s)) p.agenda) p (so (ap (λ o. is_some o) is)) refl
      (λ t other spoken. replaced_speaks (Voice.Says t) (Duty.Send (SendDuty.SynAck s)) p.agenda other spoken)
      (λ t spoken. replaced_speaks (Voice.Falls t) (Duty.Send (SendDuty.SynAck s)) p.agenda refl spoken) h

  -- a duty of a side that says something
  by_duty : (s : Side) (d : Duty) (p : PathState C) → ((t : Side) → is_joined p.profile ≡ true → is_said_by (Voice.Says t) d ≡ true → W t) → ((t : Side) → is_said_by (Voice.Says t) d ≡ same_side t s) → Said s p
  by_duty s d p said same joins = said s joins (same s ∙ itself s)

  answered_awake : (d : Duty) (r : Reply) (p : PathState C) → ((t : Side) → is_joined p.profile ≡ true → is_said_by (Voice.Says t) d ≡ true → W t)
      → ((t : Side) → is_said_by (Voice.Falls t) d ≡ true → is_joined p.profile ≡ false) → So (ask_for k d p) r → Awake p → Awake (answered k d r p)
  answered_awake (Duty.Ask AskDuty.JoinAgain) r p said falls so h =
      begun_awake r (replaced (Duty.Ask (AskDuty.Leave A)) p.agenda) (left p) p so (replaced_less (Duty.Ask (AskDuty.Leave A)) p.agenda (λ t. refl) (λ t. refl)) (tail_less p.agenda) h
  answered_awake (Duty.Step (StepDuty.Look s)) r p said falls so h = same s (after_look r (end_at s p)) (left p) p refl refl (look_identity r (end_at s p).modes) (tail_less p.agenda) h
  answered_awake (Duty.Ask (AskDuty.Window s)) r p said falls so h = same s (after_ack_out r (end_at s p)) (left p) p refl refl refl (tail_less p.agenda) h
  answered_awake (Duty.Send (SendDuty.Update s)) r p said falls so h = sent s _ _ (left p) p ((λ up. up), refl) (tail_less p.agenda) h
  answered_awake (Duty.Send (SendDuty.FastClose s)) r p said falls so h = sent s _ _ (left p) p ((λ up. up), refl) (tail_less p.agenda) h
  answered_awake (Duty.Send (SendDuty.Notice s)) r p said falls so h = sent s _ _ p.agenda p ((λ up. up), refl) (same_less p.agenda) h
  answered_awake (Duty.Send (SendDuty.Syn s)) r p said falls so h = same_sent s _ _ (left p) p (sending_up Occasion.Unsent p.clock (end_at s p).tcp) refl (tail_less p.agenda) h
  answered_awake (Duty.Step (StepDuty.Data s)) r p said falls so h = data_awake s (first_unsent (end_at s p)) r p h
  answered_awake (Duty.Send (SendDuty.DataFin s)) r p said falls so h = sent s _ _ (left p) p ((λ up. up), refl) (tail_less p.agenda) h
  answered_awake (Duty.Send (SendDuty.Fin s)) r p said falls so h =
      sent s (fin_segment_of s p) (having_sent_fin s p) (left p) p (up_goes s (having_sent_fin s p) p (fin_up s) refl) (tail_less p.agenda) h
    where
      fin_up : (s : Side) → NoWaking (end_at s p).tcp (having_sent_fin s p).tcp
      fin_up s = let up = finishing_up (end_at s p).tcp in record { up = up.up; waits = up.waits; past = up.past }
  answered_awake (Duty.Step StepDuty.Events) r p said falls so h = event_awake (next_event p) r p refl so h
  answered_awake (Duty.Ask (AskDuty.PlainHandshake s)) r p said falls so h = told_awake s FallEvent.PlainHandshake r p (by_duty s (Duty.Ask (AskDuty.PlainHandshake s)) p said (λ t. refl)) so h
  answered_awake (Duty.Ask (AskDuty.PeerKey s)) r p said falls so h = key_awake s (key_heard (end_at s p).treated.items) r p (by_duty s (Duty.Ask (AskDuty.PeerKey s)) p said (λ t. refl)) so h
  answered_awake (Duty.Send (SendDuty.SynAck s)) r p said falls so h = same_sent s _ _ (left p) p (sending_up Occasion.SynAck p.clock (end_at s p).tcp) refl (tail_less p.agenda) h
  answered_awake (Duty.Ask (AskDuty.JoinHeard s)) r p said falls so h = joined_awake s (keys_begun r) (asked_at s p) r p refl so h
  answered_awake (Duty.Send (SendDuty.Refuse s)) r p said falls so h = sent s (refusal_of s p) (end_at s p) (left p) p (same_goes s (end_at s p) p refl refl refl) (tail_less p.agenda) h
  answered_awake (Duty.Ask (AskDuty.Opened s)) r p said falls so h = opened_awake s (keys_heard (end_at s p).treated.items) r p (by_duty s (Duty.Ask (AskDuty.Opened s)) p said (λ t. refl)) so h
  answered_awake (Duty.Step (StepDuty.Heard s index)) r p said falls so h = item_answered_awake s (item_of index (end_at s p)) r p (by_duty s (Duty.Step (StepDuty.Heard s index)) p said (λ t. refl)) so h
  answered_awake (Duty.Ask (AskDuty.AckHeard s)) r p said falls so h = told_awake s FallEvent.AckHeard r p (by_duty s (Duty.Ask (AskDuty.AckHeard s)) p said (λ t. refl)) so h
  answered_awake (Duty.Ask (AskDuty.FailHeard s)) r p said falls so h =
      fail_heard_so (λ e. Awake (goes_on s e (fell_duties s r p) p)) r (end_at s p)
      (λ own owes.
      verdict_awake s (failed_so r own owes (end_at s p)) r p refl refl (fell_identity FallEvent.CheckFailed r (end_at s p).modes) (by_duty s (Duty.Ask (AskDuty.FailHeard s)) p said (λ t. refl)) so h)
  answered_awake (Duty.Step (StepDuty.PlainAck s)) r p said falls so h = plain_ack_awake s r p (by_duty s (Duty.Step (StepDuty.PlainAck s)) p said (λ t. refl)) so h
  answered_awake (Duty.Ask (AskDuty.SubflowAck s)) r p said falls so h = same s _ (left p) p refl refl refl (tail_less p.agenda) h
  answered_awake (Duty.Ask (AskDuty.PlainData s)) r p said falls so h = told_awake s FallEvent.PlainData r p (by_duty s (Duty.Ask (AskDuty.PlainData s)) p said (λ t. refl)) so h
  answered_awake (Duty.Ask (AskDuty.GoIdentity s)) r p said falls so h = record {
    woken = identity_woken s;
    known = λ t joins spoken. h.known t joins (tail_speaks (Voice.Says t) p.agenda spoken);
    falls = λ t spoken. h.falls t (tail_speaks (Voice.Falls t) p.agenda spoken);
    plain = λ t joins. absurd (both_ways _ (falls s (itself s)) joins);
  }
    where
      identity_woken : (s t : Side) → is_joined p.profile ≡ true → is_up (end_at t (with_end s (in_identity (end_at s p)) p)).tcp ≡ true → W t
      identity_woken A A joins up = h.woken A joins up
      identity_woken A B joins up = h.woken B joins up
      identity_woken B A joins up = h.woken A joins up
      identity_woken B B joins up = h.woken B joins up
  answered_awake (Duty.Step (StepDuty.Unmapped s)) r p said falls so h = break_awake s 6 r p h
  answered_awake (Duty.Ask (AskDuty.SubflowFin s)) r p said falls so h = plain_fin_awake s (is_fin_set r) p h
  answered_awake (Duty.Ask (AskDuty.Edge s)) r p said falls so h = piece_awake s (piece_of s p) (is_placed r) p h
  answered_awake (Duty.Ask (AskDuty.CheckFailed s)) r p said falls so h =
      check_failed_so (λ e. Awake (goes_on s e (fell_duties s r p) p)) p.profile.spelling.checksums r (end_at s p)
      (λ told broken recv forgets.
      verdict_awake s (checked_so r told broken recv (end_at s p)) r p refl refl (fell_identity FallEvent.CheckFailed r (end_at s p).modes) (by_duty s (Duty.Ask (AskDuty.CheckFailed s)) p said (λ t. refl)) so h)
  answered_awake (Duty.Ask (AskDuty.HeardFin s index)) r p said falls so h = fin_awake s (is_fin_set r) p h
  answered_awake (Duty.Ask (AskDuty.AckOut s)) r p said falls so h = same s (after_ack_out r (end_at s p)) (left p) p refl refl refl (tail_less p.agenda) h
  answered_awake (Duty.Ask (AskDuty.Rate s)) r p said falls so h = same s _ (left p) p refl refl refl (tail_less p.agenda) h
  answered_awake (Duty.Send (SendDuty.Acknowledge s)) r p said falls so h = sent s _ _ (left p) p ((λ up. up), refl) (tail_less p.agenda) h
  answered_awake (Duty.Send (SendDuty.Again s)) r p said falls so h = same_sent s _ _ (left p) p (sending_up Occasion.First p.clock (end_at s p).tcp) refl (tail_less p.agenda) h
  answered_awake (Duty.Send (SendDuty.Answer s)) r p said falls so h = same_sent s (answer_of s p) _ (left p) p (sending_up (answer_occasion (end_at s p)) p.clock (end_at s p).tcp) refl (tail_less p.agenda) h
  answered_awake (Duty.Send (SendDuty.ResetAnswer s)) r p said falls so h = sent s (dead_answer s p) (end_at s p) (left p) p (same_goes s (end_at s p) p refl refl refl) (tail_less p.agenda) h
  answered_awake (Duty.Send (SendDuty.Resend s)) r p said falls so h = same_sent s (resend_of s p) _ (left p) p (sending_up (resend_occasion (end_at s p)) p.clock (end_at s p).tcp) refl (tail_less p.agenda) h
  answered_awake (Duty.Ask (AskDuty.BreakAck s reason)) r p said falls so h = same s (after_ack_out r (end_at s p)) (resets s reason) p refl refl refl (new_less p.agenda _ (λ t. refl) (λ t. refl)) h
  answered_awake (Duty.Send (SendDuty.BreakReset s reason)) r p said falls so h = reset_awake s (Some reason) (leaves s) p (new_less p.agenda _ (λ t. refl) (λ t. refl)) h
  answered_awake (Duty.Send (SendDuty.Reset s)) r p said falls so h = reset_awake s None (replaced (Duty.Ask (AskDuty.Leave s)) p.agenda) p (replaced_less (Duty.Ask (AskDuty.Leave s)) p.agenda (λ t. refl) (λ t. refl)) h
  answered_awake (Duty.Send (SendDuty.ResetNoted s)) r p said falls so h = reset_awake s None (replaced (Duty.Ask (AskDuty.Leave s)) p.agenda) p (replaced_less (Duty.Ask (AskDuty.Leave s)) p.agenda (λ t. refl) (λ t. refl)) h
  answered_awake (Duty.Ask (AskDuty.Leave s)) r p said falls so h = agenda (replaced (Duty.Ask (AskDuty.Dead s)) p.agenda) p (replaced_less (Duty.Ask (AskDuty.Dead s)) p.agenda (λ t. refl) (λ t. refl)) h
  answered_awake (Duty.Ask (AskDuty.LeaveNoted s)) r p said falls so h =
      goes s (died (end_at s p)) (replaced (Duty.Ask (AskDuty.Dead s)) p.agenda) p (died_goes s p) (replaced_less (Duty.Ask (AskDuty.Dead s)) p.agenda (λ t. refl) (λ t. refl)) h
  answered_awake Duty.End r p said falls so h = agenda [] p (new_less p.agenda [] (λ t. refl) (λ t. refl)) h
  answered_awake _ r p said falls so h = agenda (left p) p (tail_less p.agenda) h

  pub takes_awake : (r : Reply) (p : PathState C) → ((x : Ask) → asks_of k p ≡ Some x → So x r) → Awake p → Awake (takes k r p)
  takes_awake r p so h = by p.agenda refl
    where
      by : (ds : List Duty) → p.agenda ≡ ds → Awake (settled (answers k ds r p).agenda (answers k ds r p))
      by [] is = settles p h
      by (d ∷ ds) is =
          settles (answered k d r p)
          (answered_awake d r p (λ t joins said. h.known t joins (subst (λ xs. speaks (Voice.Says t) xs ≡ true) (sym is) (first_speaks (Voice.Says t) d ds said)))
          (λ t falls. (h.falls t (subst (λ xs. speaks (Voice.Falls t) xs ≡ true) (sym is) (first_speaks (Voice.Falls t) d ds falls))).0) (so (ask_for k d p) (ap (λ xs. asks_first k xs p) is)) h)

  pub begins_awake : (p : PathState C) → Awake p → Awake (begins_turn p)
  begins_awake p h =
      settled_awake start_of_turn (with_agenda start_of_turn p) (agenda start_of_turn p (new_less p.agenda start_of_turn (λ t. refl) (λ t. refl)) h)
      (λ t joins is. absurd (false≢true is)) (λ t is. absurd (false≢true is))

-- the more sides joined and fell back
pub more_awake : {C : Type 0} (k : Codec C) (W F U G : Side → Type 0) (p : PathState C) → ((t : Side) → W t → U t) → ((t : Side) → F t → G t) → Awake k W F p → Awake k U G p
more_awake k W F U G p more fallen h = record {
  woken = λ t joins up. more t (h.woken t joins up);
  known = λ t joins is. more t (h.known t joins is);
  falls = λ t is. let fell = h.falls t is in (fell.0, fallen t fell.1);
  plain = h.plain;
}
