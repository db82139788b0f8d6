-- What each duty makes of the agenda, once it is answered.
use Rattle.std.proofs.Common.{◌≡◌, refl, sym, subst, ◌∙◌, inl, inr, ℕ, Bool, true, false, if◌then◌else◌, Option, Some, None, List, ◌∷◌, length}
use Rattle.path_segments.specs.Heard.{HeardSegment}
use Rattle.sides.specs.declared.side.Side.{Side}
use Rattle.sides.specs.declared.side.Side.TheVariants.{A, B}
use Rattle.sides.specs.Side.{peer}
use Rattle.fallback_state.specs.declared.fall.Verdict.TheVariants as verdicts
use Rattle.fallback_state.specs.declared.fall.Mode.TheVariants as modes
use Rattle.fallback_state.specs.declared.fall.Event.TheVariants as events
use Rattle.control_book.specs.declared.call.ControlReply.TheVariants as control_replies
use Rattle.join_handshake.specs.declared.hearing.JoinSyn.{JoinSyn}
use Rattle.link_model.specs.Steps.{arriving, after_delivery}
use Rattle.subflow_send.specs.Records.{Record}
use Rattle.subflow_tcp.specs.declared.verdicts.Meaning.{Meaning}
use Rattle.subflow_tcp.specs.declared.verdicts.Meaning.TheVariants as means
use Rattle.subflow_tcp.specs.Expiring.{is_sixth}
use Rattle.subflow_tcp.specs.States.{is_dead}
use Rattle.path_core.specs.Profile.{Profile}
use Rattle.actor_desk.specs.Words.{pick, tail_of}
use Rattle.actor_desk.specs.declared.ask.Reply.{Reply}
use Rattle.actor_desk.specs.declared.ask.Reply.TheVariants as replies
use Rattle.path_agenda.specs.Agenda.{resets, leaves, breaks, stops, emission}
use Rattle.path_agenda.specs.Items.{key_heard, keys_heard}
use Rattle.path_agenda.specs.declared.duty.Duty.{Duty}
use Rattle.path_agenda.specs.declared.duty.Duty.TheVariants as duties
use Rattle.path_agenda.specs.declared.duty.AskDuty.TheVariants as ask_duties
use Rattle.path_agenda.specs.declared.duty.SendDuty.TheVariants as send_duties
use Rattle.path_agenda.specs.declared.duty.SilentDuty.TheVariants as silent_duties
use Rattle.path_agenda.specs.declared.duty.StepDuty.TheVariants as step_duties
use Rattle.path_agenda.specs.declared.heard.Heard.{Heard}
use Rattle.path_agenda.specs.declared.heard.Heard.TheVariants as says
use Rattle.path_agenda.specs.declared.keys.KeyPair.{KeyPair}
use Rattle.path_store.specs.Passing.{Piece}
use Rattle.path_store.specs.declared.lines.LineAction.{LineAction}
use Rattle.path_store.specs.declared.lines.LineAction.TheVariants as actions
use Rattle.path_core.specs.Arrival.{judged_in, template_by, template_judged, heard_in, copy_heard, copy_judged, after_judged, reset_for}
use Rattle.path_core.specs.Judged.{taken_as}
use Rattle.path_core.specs.End.{PathEnd, died}
use Rattle.path_core.specs.Breaking.{answered_break, reset_on, died_unless_dead}
use Rattle.path_core.specs.Codec.{Codec}
use Rattle.path_core.specs.DataFin.{is_fin_set, answered_fin_heard, answered_plain_fin}
use Rattle.path_core.specs.Deliver.{piece_of, is_placed, answered_piece}
use Rattle.path_core.specs.DssIn.{held_of, with_learned, is_clash, told_next, answered_mapping}
use Rattle.path_core.specs.Duties.{answered}
use Rattle.path_core.specs.Emission.{first_unsent, Grant, grant_in, answered_grant, answered_data}
use Rattle.path_core.specs.Events.{next_event, after_line, happens_if}
use Rattle.path_core.specs.FastClose.{is_stopped_by}
use Rattle.path_core.specs.Fallback.{answered_plain_ack, breaks_by_ack, with_plain_ack, after_fell, fell_duties}
use Rattle.path_core.specs.MpCapable.{answered_opened, answered_peer_key}
use Rattle.path_core.specs.MpJoin.{join_begun, never_joined, is_never, keys_begun, opened_by, asked_at, join_taken, is_joined}
use Rattle.path_core.specs.OptionsIn.{items_of, options_heard}
use Rattle.path_core.specs.Standing.{answered_ack_out}
use Rattle.path_core.specs.State.{at_tick, PathState, end_at, with_agenda, goes_on, left}
use Rattle.path_core.specs.Timer.{template_fired, after_firing, timer_fired}
use Rattle.path_core.specs.Addresses.{with_priority}
use Rattle.path_core.specs.Treating.{answered_item, item_of}
use Rattle.path_core.specs.declared.events.Event.{Event}
use Rattle.path_core.specs.declared.events.Event.TheVariants as happening
use Rattle.path_core.specs.declared.judged.Judged.{Judged}
use Rattle.path_core.specs.declared.judged.Judged.TheVariants as judged
use Rattle.world_laws.proofs.Falls.FailedChecks.{fail_answered_so}
use Rattle.whole_paths.specs.AgendaSteps.{treats_copy, may_break, hears_join, line_side, event_side, IsStill, is_gone, Follows, Happened, Happens, After}
use Rattle.whole_paths.specs.AgendaSteps.{Follows as follows}
use Rattle.whole_paths.specs.AgendaSteps.{Happened as happened}

-- ---- ends

pub own_end : (s : Side) (e a b : PathEnd) → pick s (pick s e a) (pick s b e) ≡ e
own_end A e a b = refl
own_end B e a b = refl

other_end : (s : Side) (e a b : PathEnd) → pick (peer s) (pick s e a) (pick s b e) ≡ pick (peer s) a b
other_end A e a b = refl
other_end B e a b = refl

pub gone_end : (s : Side) (e a b : PathEnd) → is_dead e.tcp.state ≡ true → is_dead (pick s (pick s e a) (pick s b e)).tcp.state ≡ true
gone_end s e a b dead = subst (λ (f : PathEnd). is_dead f.tcp.state ≡ true) (sym (own_end s e a b)) dead

same_still : (e f : PathEnd) → f ≡ e → IsStill e f
same_still e f is = subst (IsStill e) (sym is) (record { tcp = refl; sending = refl; modes = refl; notices = refl })

pub died_gone : (e : PathEnd) → is_dead (died_unless_dead e).tcp.state ≡ true
died_gone e = by (is_dead e.tcp.state) refl
  where
    by : (b : Bool) → is_dead e.tcp.state ≡ b → is_dead (if b then e else died e).tcp.state ≡ true
    by true dead = dead
    by false living = refl

-- ---- after an event

module _ (s : Side) (e f : PathEnd) where
  template_happened : (joined : Bool) (count : ℕ) (m : Meaning) → (m ≡ means.Unwanted → IsStill e f) → (m ≡ means.Kills → is_gone f ≡ true)
      → Happened s e f (template_by joined s count m)
  template_happened true count (means.Accepts acknowledged) still gone = happened.join_answer
  template_happened false count (means.Accepts acknowledged) still gone = happened.syn_ack
  template_happened joined count means.Ignored still gone = happened.sent
  template_happened joined count means.Unwanted still gone = happened.answered_dead (still refl)
  template_happened joined count means.Opens still gone = happened.syn
  template_happened joined count means.RepeatedSyn still gone = happened.syn_once_more
  template_happened joined count means.Outside still gone = happened.answered
  template_happened joined count means.Kills still gone = happened.dead (gone refl)
  template_happened joined count means.Challenged still gone = happened.answered
  template_happened joined count means.Unacknowledging still gone = happened.sent
  template_happened joined count means.Ahead still gone = happened.answered
  template_happened joined count (means.Taken position acknowledged) still gone = happened.copy count

  judged_happened : (joined : Bool) (count : ℕ) (verdict : Judged) → (taken_as verdict ≡ means.Unwanted → IsStill e f)
      → (taken_as verdict ≡ means.Kills → is_gone f ≡ true) → Happened s e f (template_judged joined s count verdict)
  judged_happened joined count (judged.As meaning) still gone = template_happened joined count meaning still gone
  judged_happened joined count judged.Asks still gone = happened.join
  judged_happened joined count judged.Lacks still gone = happened.no_join
  judged_happened joined count judged.Forged still gone = happened.is_reset 1

  fired_happened : (sixth : Bool) → Happened s e f (template_fired sixth s)
  fired_happened true = happened.timed_out_for_ever
  fired_happened false = happened.timed_out

-- a copy at a dead end changes nothing of it, and a reset kills an end
module _ (c : Profile) (s : Side) (now : ℕ) (h : HeardSegment) (e : PathEnd) where
  -- the end, where the copy is this to it
  abbrev heard_as : Bool → Meaning → PathEnd
  heard_as joined m = copy_judged joined (held_of c s h) (reset_for c s h) s now h m e

  unwanted_still : (m : Meaning) → m ≡ means.Unwanted → IsStill e (heard_as (is_joined c) m)
  unwanted_still m is = subst (λ n. IsStill e (heard_as (is_joined c) n)) (sym is) (by (is_joined c))
    where
      by : (joined : Bool) → IsStill e (heard_as joined means.Unwanted)
      by true = record { tcp = refl; sending = refl; modes = refl; notices = refl }
      by false = record { tcp = refl; sending = refl; modes = refl; notices = refl }

  kills_gone : (m : Meaning) → m ≡ means.Kills → is_dead (heard_as (is_joined c) m).tcp.state ≡ true
  kills_gone m is = subst (λ n. is_dead (heard_as (is_joined c) n).tcp.state ≡ true) (sym is) refl

module _ {C : Type 0} where
  -- an event changes the end of its side alone
  at_one : (s : Side) (e : PathEnd) (p q : PathState C) → end_at (peer s) q ≡ pick (peer s) (pick s e p.a) (pick s p.b e) → Happened s (end_at s p) (end_at s q) q.agenda → Happens s p q
  at_one s e p q is next = (next, inr (same_still (end_at (peer s) p) (end_at (peer s) q) (is ∙ other_end s e p.a p.b)))

  at_none : (s : Side) (p q : PathState C) → q.a ≡ p.a → q.b ≡ p.b → Happened s (end_at s p) (end_at s q) q.agenda → Happens s p q
  at_none s p q a b next = (next, inr (by s))
    where
      by : (t : Side) → IsStill (end_at (peer t) p) (end_at (peer t) q)
      by A = same_still p.b q.b b
      by B = same_still p.a q.a a

  copy_happened : (s : Side) (o : Option HeardSegment) (p : PathState C) → Happens s p (copy_heard s o p)
  copy_happened s None p = at_none s p (copy_heard s None p) refl refl happened.sent
  copy_happened s (Some segment) p =
      let e = end_at s p in let h = options_heard e segment in let joined = is_joined p.profile in
      let verdict = judged_in joined s h e in let after : PathEnd = after_judged p.profile s p.clock h verdict e in
      at_one s after p (copy_heard s (Some segment) p) refl
      (judged_happened s e (end_at s (copy_heard s (Some segment) p)) joined (length (items_of joined s h)) verdict
      (λ is. subst (IsStill e) (sym (own_end s after p.a p.b)) (unwanted_still p.profile s p.clock h e (taken_as verdict) is))
      (λ is. gone_end s after p.a p.b (kills_gone p.profile s p.clock h e (taken_as verdict) is)))

  line_happened : (action : LineAction) (p : PathState C) → Happens (line_side action) p (after_line action p)
  line_happened actions.Die p = (happened.both_dead (died_gone p.a) p.a p.b, inl (died_gone p.b))
  line_happened (actions.Prio s backup) p = at_one s (with_priority backup (end_at s p)) p (after_line (actions.Prio s backup) p) refl happened.sent
  line_happened (actions.Announce s id) p = at_none s p (after_line (actions.Announce s id) p) refl refl (happened.announced id)
  line_happened (actions.Withdraw s id) p = at_none s p (after_line (actions.Withdraw s id) p) refl refl (happened.withdrawn id)

  pub event_happened : (k : Codec C) (o : Option Event) (r : Reply) (p : PathState C) → Happens (event_side o) p (happens_if k o r p)
  event_happened k None r p = at_none A p (happens_if k None r p) refl refl (happened.nothing (same_still p.a p.a refl))
  event_happened k (Some (happening.Joins tick)) r p = by (is_never r)
    where
      q : PathState C
      q = record (at_tick tick p) { joined_at = None }

      by : (b : Bool) → Happens A p (if b then goes_on A (never_joined r (end_at A q)) (leaves A) q else goes_on A (opened_by (keys_begun r) (end_at A q)) (emission A) q)
      by true = (happened.dead refl, inr (same_still p.b p.b refl))
      by false = (happened.sent, inr (same_still p.b p.b refl))
  event_happened k (Some (happening.Takes line)) r p = line_happened line.action (record (at_tick line.tick p) { lines = tail_of p.lines })
  event_happened k (Some (happening.Arrives due)) r p =
      copy_happened due.to (heard_in k due.to (arriving due p.link) p) (record (at_tick due.tick p) { link = after_delivery due p.link })
  event_happened k (Some (happening.Fires s tick)) r p =
      let q : PathState C = at_tick tick p in let e = end_at s p in
      at_one s (after_firing q.clock e) p (timer_fired s q) refl (fired_happened s e (end_at s (timer_fired s q)) (is_sixth e.tcp))

  -- ---- after any other duty, which these stand behind

  module _ (k : Codec C) (s : Side) (d : Duty) (ds : List Duty) (r : Reply) (p : PathState C) where
    -- the path with this agenda
    abbrev q : PathState C
    q = with_agenda (d ∷ ds) p

    -- what follows by what the path becomes
    abbrev Next : PathState C → Type 0
    Next x = Follows s (is_gone (end_at s x)) d ds x.agenda

    data_follows : (o : Option Record) → Next (answered_data k s o r q)
    data_follows (Some unsent) = follows.again
    data_follows None = by (grant_in r)
      where
        by : (o : Option Grant) → Next (answered_grant s o r q)
        by (Some grant) = follows.again
        by None = follows.goes_on

    module _ (treats : treats_copy d ≡ true) (may : may_break d ≡ true) where
      break_follows : (reason : ℕ) → Next (answered_break k s reason r q)
      break_follows reason = by (end_at s p).treated.asked
        where
          by : (b : Bool) → Next (if b then answered_ack_out s r (resets s reason) q else reset_on k s (Some reason) (leaves s) q)
          by true = follows.is_reset may reason
          by false = follows.dead may (gone_end s (died (end_at s p)) p.a p.b refl)

      breaks_follows : (gone b : Bool) (reason : ℕ) → Follows s gone d ds (if b then breaks s reason else resets s reason)
      breaks_follows gone true reason = follows.broken may reason
      breaks_follows gone false reason = follows.is_reset may reason

      fell_follows : (gone : Bool) (o : Reply) → Follows s gone d ds (fell_duties s o q)
      fell_follows gone (replies.Control (control_replies.Verdict (verdicts.Went modes.Identity))) = follows.told treats (duties.Ask (ask_duties.GoIdentity s)) refl refl refl (inl refl)
      fell_follows gone (replies.Control (control_replies.Verdict (verdicts.BreakPath reason))) = breaks_follows gone (end_at s p).treated.asked reason
      fell_follows gone _ = follows.goes_on

      piece_follows : (o : Option Piece) (taken : Bool) → Next (answered_piece s o taken q)
      piece_follows (Some piece) true = follows.again
      piece_follows (Some piece) false = follows.broken may 1
      piece_follows None taken = follows.broken may 1

      fin_follows : (set : Bool) → Next (answered_fin_heard s set q)
      fin_follows true = follows.goes_on
      fin_follows false = follows.broken may 1

      plain_fin_follows : (set : Bool) → Next (answered_plain_fin s set q)
      plain_fin_follows true = follows.goes_on
      plain_fin_follows false = follows.broken may 1

      key_follows : (o : Option ℕ) → Next (answered_peer_key s o r q)
      key_follows None = fell_follows _ r
      key_follows (Some key) = follows.goes_on

      keys_follow : (o : Option KeyPair) → Next (answered_opened s o r q)
      keys_follow None = fell_follows _ r
      keys_follow (Some keys) = follows.goes_on

      join_follows : (joins : hears_join d ≡ true) (keys : Option KeyPair) (asked : Option JoinSyn) → Next (join_taken s keys asked r q)
      join_follows joins (Some keys) (Some asked) = follows.told treats (duties.Send (send_duties.SynAck s)) refl refl refl (inr joins)
      join_follows joins None (Some asked) = follows.told treats (duties.Send (send_duties.Refuse s)) refl refl refl (inr joins)
      join_follows joins (Some keys) None = follows.told treats (duties.Send (send_duties.Refuse s)) refl refl refl (inr joins)
      join_follows joins None None = follows.told treats (duties.Send (send_duties.Refuse s)) refl refl refl (inr joins)

      plain_ack_follows : Next (answered_plain_ack k s r q)
      plain_ack_follows = by (breaks_by_ack p.profile (end_at s p))
        where
          by : (b : Bool) → Next (if b then answered_break k s 6 r q else goes_on s (with_plain_ack (after_fell events.PlainAck r (end_at s q))) (fell_duties s r q) q)
          by true = break_follows 6
          by false = fell_follows _ r

      told_follows : (gone b : Bool) → Follows s gone d ds (told_next s b q)
      told_follows gone true = follows.told treats (duties.Ask (ask_duties.AckHeard s)) refl refl refl (inl refl)
      told_follows gone false = follows.goes_on

      mapping_follows : Next (answered_mapping k s r q)
      mapping_follows = by (is_clash (end_at s p))
        where
          by : (b : Bool) → Next (if b then answered_break k s 1 r q else goes_on s (with_learned (after_fell events.MappingHeard r (end_at s q))) (fell_duties s r q) q)
          by true = break_follows 1
          by false = fell_follows _ r

      stopped_follows : (gone b : Bool) → Follows s gone d ds (if b then stops s else left q)
      stopped_follows gone true = follows.stopped may
      stopped_follows gone false = follows.goes_on

      item_follows : (o : Option Heard) → Next (answered_item k s o r q)
      item_follows None = follows.goes_on
      item_follows (Some (says.DataAck next window)) = told_follows _ _
      item_follows (Some (says.Mapping fin)) = mapping_follows
      item_follows (Some (says.DataFin place)) = fell_follows _ r
      item_follows (Some (says.InfiniteMapping place position)) = fell_follows _ r
      item_follows (Some says.Fail) = fail_answered_so Next s r q (follows.told treats (duties.Ask (ask_duties.FailHeard s)) refl refl refl (inl refl)) (fell_follows _ r)
      item_follows (Some (says.FastClose key)) = stopped_follows _ (is_stopped_by r)
      item_follows (Some _) = follows.goes_on

  begun_follows : (d : Duty) (ds : List Duty) (r : Reply) (p : PathState C) → let q = join_begun r (duties.Ask (ask_duties.Leave A) ∷ ds) ds p in Follows A (is_gone q.a) d ds q.agenda
  begun_follows d ds r p = by (is_never r)
    where
      by : (b : Bool) → let q = if b then goes_on A (never_joined r (end_at A p)) (duties.Ask (ask_duties.Leave A) ∷ ds) p else goes_on A (opened_by (keys_begun r) (end_at A p)) ds p in
          Follows A (is_gone q.a) d ds q.agenda
      by true = follows.left refl
      by false = follows.goes_on

  pub answered_follows : (k : Codec C) (d : Duty) (ds : List Duty) (r : Reply) (p : PathState C) → After d ds (with_agenda (d ∷ ds) p) (answered k d r (with_agenda (d ∷ ds) p))
  answered_follows k (duties.Step step_duties.Events) ds r p = event_happened k (next_event p) r (with_agenda (duties.Step step_duties.Events ∷ ds) p)
  answered_follows k duties.End ds r p = follows.over refl
  answered_follows k (duties.Ask ask_duties.JoinAgain) ds r p = begun_follows (duties.Ask ask_duties.JoinAgain) ds r (with_agenda (duties.Ask ask_duties.JoinAgain ∷ ds) p)
  answered_follows k (duties.Send (send_duties.Notice s)) ds r p = follows.again
  answered_follows k (duties.Send (send_duties.BreakReset s reason)) ds r p = follows.dead refl (gone_end s (died (end_at s p)) p.a p.b refl)
  answered_follows k (duties.Send (send_duties.Reset s)) ds r p = follows.left (gone_end s (died (end_at s p)) p.a p.b refl)
  answered_follows k (duties.Send (send_duties.ResetNoted s)) ds r p = follows.left (gone_end s (died (end_at s p)) p.a p.b refl)
  answered_follows k (duties.Step (step_duties.Data s)) ds r p = data_follows k s (duties.Step (step_duties.Data s)) ds r p (first_unsent (end_at s p))
  answered_follows k (duties.Step (step_duties.Heard s index)) ds r p = item_follows k s (duties.Step (step_duties.Heard s index)) ds r p refl refl (item_of index (end_at s p))
  answered_follows k (duties.Step (step_duties.PlainAck s)) ds r p = plain_ack_follows k s (duties.Step (step_duties.PlainAck s)) ds r p refl refl
  answered_follows k (duties.Step (step_duties.Unmapped s)) ds r p = break_follows k s (duties.Step (step_duties.Unmapped s)) ds r p refl refl 6
  answered_follows k (duties.Ask (ask_duties.PlainHandshake s)) ds r p = fell_follows k s (duties.Ask (ask_duties.PlainHandshake s)) ds r p refl refl _ r
  answered_follows k (duties.Ask (ask_duties.PeerKey s)) ds r p = key_follows k s (duties.Ask (ask_duties.PeerKey s)) ds r p refl refl (key_heard (end_at s p).treated.items)
  answered_follows k (duties.Ask (ask_duties.JoinHeard s)) ds r p = join_follows k s (duties.Ask (ask_duties.JoinHeard s)) ds r p refl refl refl (keys_begun r) (asked_at s p)
  answered_follows k (duties.Ask (ask_duties.Opened s)) ds r p = keys_follow k s (duties.Ask (ask_duties.Opened s)) ds r p refl refl (keys_heard (end_at s p).treated.items)
  answered_follows k (duties.Ask (ask_duties.AckHeard s)) ds r p = fell_follows k s (duties.Ask (ask_duties.AckHeard s)) ds r p refl refl _ r
  answered_follows k (duties.Ask (ask_duties.FailHeard s)) ds r p = fell_follows k s (duties.Ask (ask_duties.FailHeard s)) ds r p refl refl _ r
  answered_follows k (duties.Ask (ask_duties.PlainData s)) ds r p = fell_follows k s (duties.Ask (ask_duties.PlainData s)) ds r p refl refl _ r
  answered_follows k (duties.Ask (ask_duties.Edge s)) ds r p = piece_follows k s (duties.Ask (ask_duties.Edge s)) ds r p refl refl (piece_of s p) (is_placed r)
  answered_follows k (duties.Ask (ask_duties.CheckFailed s)) ds r p = fell_follows k s (duties.Ask (ask_duties.CheckFailed s)) ds r p refl refl _ r
  answered_follows k (duties.Ask (ask_duties.HeardFin s index)) ds r p = fin_follows k s (duties.Ask (ask_duties.HeardFin s index)) ds r p refl refl (is_fin_set r)
  answered_follows k (duties.Ask (ask_duties.SubflowFin s)) ds r p = plain_fin_follows k s (duties.Ask (ask_duties.SubflowFin s)) ds r p refl refl (is_fin_set r)
  answered_follows k (duties.Ask (ask_duties.LeaveNoted s)) ds r p = follows.noted
  answered_follows k (duties.Ask (ask_duties.BreakAck s reason)) ds r p = follows.is_reset refl reason
  answered_follows k (duties.Ask (ask_duties.Leave s)) ds r p = follows.noted
  answered_follows k (duties.Silent (silent_duties.Timer s)) ds r p = follows.goes_on
  answered_follows k _ ds r p = follows.goes_on
