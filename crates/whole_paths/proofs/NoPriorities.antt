-- Where no line of the script tells a priority of a path, none is ever noted, said or heard on it; where its own line doesn't say that it is a backup, no
-- MP_JOIN says so, and that of path 0 says nothing: so it tells no side that it is a backup.
use Rattle.std.proofs.Common.{◌≡◌, refl, sym, subst, ap, ◌∙◌, inl, ⊎_elim, ℕ, ◌+◌, arith, nat_lt, Bool, true, false, true≢false, not, if◌then◌else◌, Option, Some, None, List, [], ◌∷◌, ◌++◌, map}
use Rattle.std.specs.List.{list_any, slice_get}
use Rattle.std.proofs.lemmas.Bool.{both_ways, or_from}
use Rattle.std.proofs.lemmas.List.Folds.{list_any-append}
use Rattle.std.proofs.lemmas.Option.{same_Some}
use Rattle.sides.specs.declared.side.Side.{Side}
use Rattle.sides.specs.declared.side.Side.TheVariants.{A, B}
use Rattle.dss_mapping.specs.declared.kept.KeptMapping.{KeptMapping}
use Rattle.link_model.specs.Steps.{after_delivery, arriving}
use Rattle.link_script.specs.declared.script.ScriptLine.{ScriptLine}
use Rattle.link_script.specs.declared.script.ScriptLine.TheVariants.{Add, Die, FastClose, OnDirection, OnSegment, Prio, Remove, StripAll}
use Rattle.path_segments.specs.Heard.{HeardSegment}
use Rattle.stream_lanes.proofs.Lists.{in_map, in_set}
use Rattle.subflow_tcp.specs.States.{is_dead}
use Rattle.subflow_tcp.specs.declared.segments.Outgoing.{Outgoing}
use Rattle.subflow_tcp.specs.declared.verdicts.Meaning.{Meaning}
use Rattle.subflow_tcp.specs.declared.verdicts.Meaning.TheVariants as means
use Rattle.actor_desk.specs.Words.{tail_of}
use Rattle.actor_desk.specs.declared.ask.Ask.{Ask}
use Rattle.actor_desk.specs.declared.ask.Note.{Note}
use Rattle.actor_desk.specs.declared.ask.Reply.{Reply}
use Rattle.path_agenda.specs.Agenda.{emission, leaves}
use Rattle.path_agenda.specs.Words.{replaced}
use Rattle.path_agenda.specs.declared.duty.Duty.{Duty}
use Rattle.path_agenda.specs.declared.duty.Duty.TheVariants as duties
use Rattle.path_agenda.specs.declared.duty.AskDuty.TheVariants as ask_duties
use Rattle.path_agenda.specs.declared.duty.SendDuty.TheVariants as send_duties
use Rattle.path_agenda.specs.declared.duty.SilentDuty.TheVariants as silent_duties
use Rattle.path_agenda.specs.declared.duty.StepDuty.TheVariants as step_duties
use Rattle.path_agenda.specs.declared.keys.KeyPair.{KeyPair}
use Rattle.path_store.specs.Lines.{with_event}
use Rattle.path_store.specs.declared.lines.LineAction.{LineAction}
use Rattle.path_store.specs.declared.lines.LineAction.TheVariants as actions
use Rattle.path_store.specs.declared.lines.LineLeft.{LineLeft}
use Rattle.path_core.specs.Arrival.{after_judged, asked_in, copy_heard, copy_judged, heard_in, judged_in, reset_for, template_of, told_at, with_held}
use Rattle.path_core.specs.DssIn.{HeardOption, held_of}
use Rattle.path_core.specs.Duties.{answered, passed}
use Rattle.path_core.specs.End.{PathEnd, died}
use Rattle.path_core.specs.Events.{after_line, happens_if, next_event}
use Rattle.path_core.specs.Judged.{after_join, answered_in, cleared_in, taken_as, with_answer}
use Rattle.path_core.specs.MpJoin.{asked_at, is_joined, is_never, join_answer, join_begun, join_taken, joined_by, keys_begun, never_joined, opened_by, with_mode_refused}
use Rattle.path_core.specs.OptionsIn.{options_heard}
use Rattle.path_core.specs.Start.{first_turn, waiting_path}
use Rattle.path_core.specs.State.{PathState, at_tick, end_at, goes_on, with_agenda}
use Rattle.path_core.specs.Steps.{next_round, settled, takes}
use Rattle.path_core.specs.Values.{Carried, values}
use Rattle.path_core.specs.declared.events.Event.{Event}
use Rattle.path_core.specs.declared.events.Event.TheVariants as happenings
use Rattle.path_core.specs.declared.modes.Modes.{Modes}
use Rattle.stream_apps.specs.AppSteps.{app_ask, app_asks_first}
use Rattle.stream_apps.specs.declared.duty.AppDuty.{AppDuty}
use Rattle.stream_apps.specs.declared.duty.AppDuty.TheVariants as apps
use Rattle.stream_apps.specs.Apps.{AppState}
use Rattle.world_laws.specs.declared.member.Member.TheVariants.{App, Path}
use Rattle.world_laws.specs.Actors.{Actor, ActorCrew, member_asks, member_next, member_takes}
use Rattle.world_laws.specs.Openings.{PathPlan, Start, opened_world, path_begins}
use Rattle.world_laws.specs.RoundDone.{reached}
use Rattle.world_laws.specs.Worlds.{Turn, WorldState, all_over, asked, begins, crew_after, greatest, note_of}
use Rattle.world_laws.specs.Writes.{EndView, OnlyAt, PathView, Writes, side_of, writes}
use Rattle.world_laws.proofs.Worlds.Opened.{opened_actors}
use Rattle.world_laws.proofs.Writes.Paths.{passes_no_more, writes_no_more}
use Rattle.world_laws.proofs.Writes.Steps.{Lasts, begins_lasts, both_ends, settled_lasts, takes_lasts, unwritten}
use Rattle.whole_paths.specs.Backups.{ToldNoBackup, noted_backup, tells_backup}
use Rattle.whole_paths.specs.FirstTexts.{JoinsAsNoBackup, RankNone, RegularFirstPathsTellNone, RegularPathsTellNone, ranks_path}
use Rattle.whole_paths.specs.Priorities.{is_priority_line}
use Rattle.whole_paths.proofs.BackupAsks.{who_heard_of_none_tells_none}
use Rattle.whole_paths.proofs.ByTurns.{Of, each_moment}
use Rattle.whole_paths.proofs.LinesLeft as left
use Rattle.whole_paths.proofs.NoticeWords.{AreUnheard, Word, is_queued, no_backup}
use Rattle.whole_paths.proofs.Pieces.{is_event}
use Rattle.whole_paths.proofs.QueuedWords as queues
use Rattle.whole_paths.proofs.UnsaidWords.{HearNone, Unsaid, begins_unsaid, duty_unsaid, next_unsaid, notes_then, settled_unsaid}
use Rattle.join_handshake.specs.declared.hearing.JoinAnswer.{JoinAnswer}
use Rattle.join_handshake.specs.declared.hearing.JoinSyn.{JoinSyn}
use Rattle.path_agenda.specs.declared.heard.Heard.{Heard}
use Rattle.path_agenda.specs.declared.notice.OwnNotice.{OwnNotice}
use Rattle.subflow_tcp.specs.declared.handshake.State.{State as EndPhase}
use Rattle.path_core.specs.OptionsIn.{items_of}
use Rattle.world_laws.specs.StampedBooks.{answer_to}
use Rattle.world_laws.proofs.Worlds.Turns.{run_so}
use Rattle.whole_paths.proofs.JoinFlags.{answer_flag, asked_flag}
use Rattle.whole_paths.proofs.SaidWords.{Fits}

-- ---- the flag of an MP_JOIN

-- neither end comes to hear one
record HeardStays (p q : PathState Carried) : Type 0 where
  a : q.a.modes.backup_heard ≡ p.a.modes.backup_heard
  b : q.b.modes.backup_heard ≡ p.b.modes.backup_heard

stays : (p : PathState Carried) → HeardStays p p
stays p = record { a = refl; b = refl }

chain_stays : (p q r : PathState Carried) → HeardStays p q → HeardStays q r → HeardStays p r
chain_stays p q r x y = record { a = y.a ∙ x.a; b = y.b ∙ x.b }

either : (c : Bool) (q r p : PathState Carried) → HeardStays p q → HeardStays p r → HeardStays p (if c then q else r)
either = elim [ true ↦ λ q r p x y. x | false ↦ λ q r p x y. y ]

-- where it may be written at neither end
unwritten_stays : (s : Side) (w : Writes) (p q : PathState Carried) → w.own.backup_heard ≡ false → w.other.backup_heard ≡ false → OnlyAt s w p q → HeardStays p q
unwritten_stays s w p q own other x =
    let both = both_ends (λ e f. f.modes.backup_heard ≡ e.modes.backup_heard) s w p q
    (λ e f y. unwritten w.own.backup_heard e.modes.backup_heard f.modes.backup_heard own (ap (λ (v : EndView). v.backup_heard) y.same))
    (λ e f y. unwritten w.other.backup_heard e.modes.backup_heard f.modes.backup_heard other (ap (λ (v : EndView). v.backup_heard) y.same)) x in
    record { a = both.0; b = both.1 }

side_stays : (s : Side) (e : PathEnd) (ds : List Duty) (p : PathState Carried) → e.modes.backup_heard ≡ (end_at s p).modes.backup_heard → HeardStays p (goes_on s e ds p)
side_stays A e ds p is = record { a = is; b = refl }
side_stays B e ds p is = record { a = refl; b = is }

asked_same : (m : Meaning) (options : List HeardOption) (modes : Modes) → (asked_in m options modes).backup_heard ≡ modes.backup_heard
asked_same means.Opens options modes = refl
asked_same _ options modes = refl

asked_none : (joined : Bool) (items : List Heard) (meaning : Meaning) (e : PathEnd) → AreUnheard Word.flag items → e.modes.backup_heard ≡ false → (after_join joined items meaning e).modes.backup_heard ≡ false
asked_none false items meaning e none h = h
asked_none true items meaning e none h = cleared meaning e.tcp.state (answered_in meaning items e.modes) ∙ answers meaning
  where
    cleared : (meaning : Meaning) (state : EndPhase) (m : Modes) → (cleared_in meaning state m).backup_heard ≡ m.backup_heard
    cleared (means.Taken position acknowledged) state m = refl
    cleared _ state m = refl

    with_flag : (o : Option JoinAnswer) → join_answer items e.modes ≡ o → (with_answer o e.modes).backup_heard ≡ false
    with_flag None is = h
    with_flag (Some answer) is = answer_flag items e.modes answer is none

    answers : (meaning : Meaning) → (answered_in meaning items e.modes).backup_heard ≡ false
    answers (means.Accepts acknowledged) = with_flag (join_answer items e.modes) refl
    answers _ = h

judged_none : (joined : Bool) (told : List KeptMapping) (answer : Outgoing) (s : Side) (now : ℕ) (x : HeardSegment) (meaning : Meaning) (e : PathEnd) → AreUnheard Word.flag (items_of joined s x) → e.modes.backup_heard ≡ false
    → (copy_judged joined told answer s now x meaning e).modes.backup_heard ≡ false
judged_none joined told answer s now x meaning e none h =
    asked_same meaning x.options (after_join joined (items_of joined s x) meaning (with_held told x meaning e)).modes ∙ asked_none joined (items_of joined s x) meaning (with_held told x meaning e) none h

-- neither end heard one
abbrev NoneHeard : PathState Carried → Type 0
NoneHeard p = (s : Side) → (end_at s p).modes.backup_heard ≡ false

heard_then : (p q : PathState Carried) → HeardStays p q → NoneHeard p → NoneHeard q
heard_then p q x none A = x.a ∙ none A
heard_then p q x none B = x.b ∙ none B

side_none : (s : Side) (e : PathEnd) (ds : List Duty) (p : PathState Carried) → e.modes.backup_heard ≡ false → NoneHeard p → NoneHeard (goes_on s e ds p)
side_none A e ds p is h A = is
side_none A e ds p is h B = h B
side_none B e ds p is h A = h A
side_none B e ds p is h B = is

told_none : (now : ℕ) (s : Side) (x : HeardSegment) (p : PathState Carried) → AreUnheard Word.flag (items_of (is_joined p.profile) s x) → NoneHeard p → NoneHeard (told_at now s x p)
told_none now s x p none h =
    let joined = is_joined p.profile in let verdict = judged_in joined s x (end_at s p) in
    side_none s (after_judged p.profile s now x verdict (end_at s p)) (template_of joined s (items_of joined s x) verdict) p
    (judged_none joined (held_of p.profile s x) (reset_for p.profile s x) s now x (taken_as verdict) (end_at s p) none (h s)) h

-- a copy of which nothing that is heard says it
copy_none : (s : Side) (o : Option HeardSegment) (p : PathState Carried) → HearNone Word.flag (copy_heard s o p) → NoneHeard p → NoneHeard (copy_heard s o p)
copy_none s None p none h = heard_then p (copy_heard s None p) (record { a = refl; b = refl }) h
copy_none A (Some x) p none h = told_none p.clock A (options_heard (end_at A p) x) p (none A) h
copy_none B (Some x) p none h = told_none p.clock B (options_heard (end_at B p) x) p (none B) h

begun_stays : (r : Reply) (dead living : List Duty) (p : PathState Carried) → HeardStays p (join_begun r dead living p)
begun_stays r dead living p =
    either (is_never r) (goes_on A (never_joined r p.a) dead p) (goes_on A (opened_by (keys_begun r) p.a) living p) p (record { a = refl; b = refl })
    (record { a = opens (keys_begun r) p.a; b = refl })
  where
    opens : (keys : Option KeyPair) (e : PathEnd) → (opened_by keys e).modes.backup_heard ≡ e.modes.backup_heard
    opens None e = refl
    opens (Some keys) e = refl

line_stays : (action : LineAction) (p : PathState Carried) → HeardStays p (after_line action p)
line_stays actions.Die p = record { a = dies (is_dead p.a.tcp.state) p.a; b = dies (is_dead p.b.tcp.state) p.b }
  where
    dies : (b : Bool) (e : PathEnd) → (if b then e else died e).modes.backup_heard ≡ e.modes.backup_heard
    dies true e = refl
    dies false e = refl
line_stays (actions.Prio s backup) p = side_stays s _ _ p refl
line_stays (actions.Announce s id) p = record { a = refl; b = refl }
line_stays (actions.Withdraw s id) p = record { a = refl; b = refl }

event_none : (o : Option Event) (r : Reply) (p : PathState Carried) → HearNone Word.flag (happens_if values o r p) → NoneHeard p → NoneHeard (happens_if values o r p)
event_none None r p none h = heard_then p (happens_if values None r p) (record { a = refl; b = refl }) h
event_none (Some (happenings.Joins tick)) r p none h =
    let x : PathState Carried = record (at_tick tick p) { joined_at = None } in
    heard_then p (happens_if values (Some (happenings.Joins tick)) r p) (chain_stays p x _ (record { a = refl; b = refl }) (begun_stays r (leaves A) (emission A) x)) h
event_none (Some (happenings.Takes line)) r p none h =
    let x : PathState Carried = record (at_tick line.tick p) { lines = tail_of p.lines } in
    heard_then p (happens_if values (Some (happenings.Takes line)) r p) (chain_stays p x _ (record { a = refl; b = refl }) (line_stays line.action x)) h
event_none (Some (happenings.Arrives due)) r p none h =
    let x : PathState Carried = record (at_tick due.tick p) { link = after_delivery due p.link } in
    copy_none due.to (heard_in values due.to (arriving due p.link) p) x none (elim [ A ↦ h A | B ↦ h B ])
event_none (Some (happenings.Fires A tick)) r p none h = heard_then p (happens_if values (Some (happenings.Fires A tick)) r p) (record { a = refl; b = refl }) h
event_none (Some (happenings.Fires B tick)) r p none h = heard_then p (happens_if values (Some (happenings.Fires B tick)) r p) (record { a = refl; b = refl }) h

-- the SYN that asks to join
join_none : (s : Side) (keys : Option KeyPair) (o : Option JoinSyn) (r : Reply) (p : PathState Carried) → asked_at s p ≡ o → AreUnheard Word.flag (end_at s p).treated.items → NoneHeard p → NoneHeard (join_taken s keys o r p)
join_none s (Some keys) (Some request) r p is none h =
    side_none s (joined_by keys request (end_at s p)) (replaced (duties.Send (send_duties.SynAck s)) p.agenda) p (asked_flag (end_at s p).treated.items request is none) h
join_none s None (Some request) r p is none h = side_none s (with_mode_refused r (end_at s p)) (replaced (duties.Send (send_duties.Refuse s)) p.agenda) p (h s) h
join_none s keys None r p is none h = heard_then p (join_taken s keys None r p) (record { a = refl; b = refl }) h

-- nothing else writes it
abbrev is_join : Duty → Bool
is_join (duties.Ask (ask_duties.JoinHeard s)) = true
is_join _ = false

spares_flag : (d : Duty) → is_join d ≡ false → is_event d ≡ false → ((writes d).own.backup_heard ≡ false) × ((writes d).other.backup_heard ≡ false)
spares_flag (duties.Ask (ask_duties.JoinHeard s)) other still = absurd (true≢false other)
spares_flag (duties.Step step_duties.Events) other still = absurd (true≢false still)
spares_flag (duties.Send (send_duties.Update s)) other still = (refl, refl)
spares_flag (duties.Silent (silent_duties.Timer s)) other still = (refl, refl)
spares_flag _ other still = (refl, refl)

answered_none : (d : Duty) (r : Reply) (p : PathState Carried) → HearNone Word.flag p → HearNone Word.flag (answered values d r p) → NoneHeard p → NoneHeard (answered values d r p)
answered_none (duties.Ask (ask_duties.JoinHeard s)) r p items next h = join_none s (keys_begun r) (asked_at s p) r p refl (items s) h
answered_none (duties.Step step_duties.Events) r p items next h = event_none (next_event p) r p next h
answered_none d r p items next h = let none = spares_flag d refl refl in heard_then p (answered values d r p) (unwritten_stays (side_of d) (writes d) p _ none.0 none.1 (writes_no_more values d r p)) h

passed_stays : (d : Duty) (p : PathState Carried) → HeardStays p (passed d p)
passed_stays (duties.Ask (ask_duties.JoinHeard s)) p = stays p
passed_stays (duties.Step step_duties.Events) p = stays p
passed_stays d p = let none = spares_flag d refl refl in unwritten_stays (side_of d) (writes d) p _ none.0 none.1 (passes_no_more d p)

heard_last : Lasts HeardStays
heard_last = record { agenda = λ ds p. record { a = refl; b = refl }; chains = chain_stays; passes = passed_stays }

-- ---- the profile

abbrev KeepsProfile : PathState Carried → PathState Carried → Type 0
KeepsProfile p q = q.profile ≡ p.profile

profile_last : Lasts KeepsProfile
profile_last = record { agenda = λ ds p. refl; chains = λ p q r x y. y ∙ x; passes = λ d p. ap (λ (v : PathView Carried). v.profile) (passes_no_more d p).same }

takes_profile : (r : Reply) (p : PathState Carried) → KeepsProfile p (takes values r p)
takes_profile r p = takes_lasts KeepsProfile profile_last values r p (λ d. ap (λ (v : PathView Carried). v.profile) (writes_no_more values d r p).same)

-- ---- a path

-- no priority is to come, is noted, said or heard; nor is a flag said or heard, and neither end heard one
record IsRegular (p : PathState Carried) : Type 0 where
  lines : left.Spares is_priority_line p.lines
  unsaid : Unsaid Word.priority p
  unflagged : Unsaid Word.flag p
  fits : Fits Word.flag p.profile
  joined : NoneHeard p

none_flagged : (queue : List OwnNotice) → is_queued Word.flag queue ≡ false
none_flagged [] = refl
none_flagged (OwnNotice.Prio backup ∷ queue) = none_flagged queue
none_flagged (OwnNotice.Removes id ∷ queue) = none_flagged queue
none_flagged (_ ∷ queue) = none_flagged queue

-- but for the lines and the profile
record IsSilent (p : PathState Carried) : Type 0 where
  unsaid : Unsaid Word.priority p
  unflagged : Unsaid Word.flag p
  joined : NoneHeard p

takes_regular : (r : Reply) (p : PathState Carried) → IsRegular p → IsRegular (takes values r p)
takes_regular r p h =
    let now : IsSilent (takes values r p) = by p.agenda h in
    record { lines = left.takes_spares is_priority_line values r p h.lines; unsaid = now.unsaid; unflagged = now.unflagged; fits = subst (Fits Word.flag) (sym (takes_profile r p)) h.fits; joined = now.joined }
  where
    by : (ds : List Duty) → let x = with_agenda ds p in IsRegular x → IsSilent (takes values r x)
    by [] h = record { unsaid = h.unsaid; unflagged = h.unflagged; joined = h.joined }
    by (d ∷ ds) h =
        let x : PathState Carried = with_agenda (d ∷ ds) p in let q : PathState Carried = answered values d r x in
        let spares = left.no_harm_comes is_priority_line x h.lines in
        let flags : Unsaid Word.flag q = duty_unsaid Word.flag d ds r p h.fits (λ s. none_flagged (end_at s q).notices.queue) h.unflagged in
        record {
          unsaid = settled_unsaid Word.priority q (duty_unsaid Word.priority d ds r p (λ is joined. absurd (true≢false (sym is)))
              (notes_then Word.priority x q (queues.answered_sheds Word.priority values d (λ is. absurd (true≢false is)) r x (λ is line next. spares line next)) h.unsaid.notes) h.unsaid);
          unflagged = settled_unsaid Word.flag q flags;
          joined = heard_then q (settled q.agenda q) (settled_lasts HeardStays heard_last q.agenda q) (answered_none d r x h.unflagged.items flags.items h.joined);
        }

next_regular : (p : PathState Carried) → IsRegular p → IsRegular (next_round p)
next_regular p h =
    let x : PathState Carried = record p { clock = p.until; until = p.until + 100 } in record {
      lines = left.begins_spares is_priority_line x h.lines;
      unsaid = next_unsaid Word.priority p h.unsaid;
      unflagged = next_unsaid Word.flag p h.unflagged;
      fits = subst (Fits Word.flag) (sym (begins_lasts KeepsProfile profile_last x)) h.fits;
      joined = heard_then x (next_round p) (begins_lasts HeardStays heard_last x) (elim [ A ↦ h.joined A | B ↦ h.joined B ]);
    }

-- ---- as it begins

rank_spares : (path number : ℕ) (line : ScriptLine) (lines : List LineLeft) → not (ranks_path path line) ≡ true → left.Spares is_priority_line lines → left.Spares is_priority_line (with_event path number line lines)
rank_spares path number (Prio named s tick on) lines none h = left.only_spares is_priority_line named path _ lines (λ here. sym none ∙ ap not here) h
rank_spares path number (Die named tick) lines none h = left.only_spares is_priority_line named path _ lines (λ here. refl) h
rank_spares path number (Add id tick) lines none h = left.only_spares is_priority_line 0 path _ lines (λ here. refl) h
rank_spares path number (Remove s id tick) lines none h = left.only_spares is_priority_line 0 path _ lines (λ here. refl) h
rank_spares path number (OnSegment segment happens) lines none h = h
rank_spares path number (OnDirection direction impairment) lines none h = h
rank_spares path number (StripAll named s tick) lines none h = h
rank_spares path number (FastClose s tick) lines none h = h

module _ (start : Start) (number : ℕ) (regular : JoinsAsNoBackup number start) (ranks : RankNone number start.lines) where
  abbrev at : List Turn → WorldState Carried
  at turns = reached values start turns

  -- of the path of this number
  record RegularAt (w : WorldState Carried) : Type 0 where
    each : (c : ActorCrew Carried) → slice_get w.crew (2 + number) ≡ Some c → Of IsRegular c.member

  begun : (n : ℕ) (plan : PathPlan) → slice_get start.paths n ≡ Some plan → n ≡ number → IsRegular (first_turn (path_begins start n plan) start.lines)
  begun n plan there same =
      let p : PathState Carried = waiting_path (path_begins start n plan) start.lines in
      record {
        lines = left.begins_spares is_priority_line p (left.events_spare is_priority_line n (λ line. not (ranks_path n line)) (λ at line lines. rank_spares n at line lines) 0 start.lines []
            (subst (λ m. RankNone m start.lines) (sym same) ranks) tt);
        unsaid = begins_unsaid Word.priority (path_begins start n plan) start.lines;
        unflagged = begins_unsaid Word.flag (path_begins start n plan) start.lines;
        fits = subst (Fits Word.flag) (sym (begins_lasts KeepsProfile profile_last p)) (λ is joined. ⊎_elim
            (λ zeroth. absurd (both_ways (nat_lt 0 n) (ap (λ m. nat_lt 0 m) (same ∙ zeroth)) joined))
            (λ none. none)
            (regular plan (ap (slice_get start.paths) (sym same) ∙ there)));
        joined = heard_then p _ (begins_lasts HeardStays heard_last p) (elim [ A ↦ refl | B ↦ refl ]);
      }

  opened_regular : RegularAt (opened_world start)
  opened_regular = record {
    each = λ c there. opened_actors (λ actor c. actor ≡ 2 + number → Of IsRegular c.member) start (λ is. tt) (λ is. tt) (λ n plan found is. begun n plan found (omega (arith, is))) (2 + number) c there refl;
  }

  -- ---- at every moment

  member_takes_on : (r : Reply) (m : Actor Carried) → Of IsRegular m → Of IsRegular (member_takes values r m)
  member_takes_on r (App a) h = tt
  member_takes_on r (Path p) h = takes_regular r p h

  member_next_on : (m : Actor Carried) → Of IsRegular m → Of IsRegular (member_next m)
  member_next_on (App a) h = tt
  member_next_on (Path p) h = next_regular p h

  each_regular : (turns : List Turn) → RegularAt (at turns)
  each_regular turns = run_so values RegularAt
      (λ w h actor c x there is. record {
        each = λ d found. ⊎_elim
            (λ here. subst (λ (y : ActorCrew Carried). Of IsRegular y.member) here.1 (member_takes_on (answer_to w.books x) c.member (h.each c (ap (λ i. slice_get w.crew i) here.0 ∙ there))))
            (λ other. h.each d other.1)
            (in_set w.crew actor (crew_after values x w.books c) (2 + number) d found);
      })
      (λ w h over. record {
        each = λ d found.
            let was = in_map (begins (greatest 0 w.crew)) w.crew (2 + number) d found in
            subst (λ (y : ActorCrew Carried). Of IsRegular y.member) was.2 (member_next_on was.0.member (h.each was.0 was.1));
      })
      turns (opened_world start) opened_regular

  app_tells : (ds : List AppDuty) (a : AppState) (x : Ask) → app_asks_first ds a ≡ Some x → tells_backup x ≡ false
  app_tells [] a x is = cc
  app_tells (d ∷ ds) a x is = subst (λ y. tells_backup y ≡ false) (same_Some (app_ask d a) x is) (duty d)
    where
      duty : (d : AppDuty) → tells_backup (app_ask d a) ≡ false
      duty apps.FastClose = refl
      duty _ = refl

  asks_none : (m : Actor Carried) (x : Ask) → member_asks values m ≡ Some x → Of IsRegular m → tells_backup x ≡ false
  asks_none (App a) x is h = app_tells a.agenda a x is
  asks_none (Path p) x is h = who_heard_of_none_tells_none values p x is (λ s. record { joined = h.joined s; noted = no_backup (end_at s p).treated.items (h.unsaid.items s) })

  later_none : (xs : List Note) (y : Note) → list_any noted_backup xs ≡ false → noted_backup y ≡ false → list_any noted_backup (xs ++ y ∷ []) ≡ false
  later_none xs y older new = list_any-append noted_backup xs (y ∷ []) ∙ or_from (list_any noted_backup xs) (list_any noted_backup (y ∷ [])) older (or_from (noted_backup y) false new refl)

  tells_none : (turns : List Turn) → ToldNoBackup number (at turns)
  tells_none = each_moment values start (ToldNoBackup number) opened asked_so begun_so
    where
      opened : ToldNoBackup number (opened_world {C = Carried} start)
      opened c there = opened_actors (λ actor c. list_any noted_backup c.list ≡ false) start refl refl (λ n plan found. refl) (2 + number) c there

      asked_so : (turns : List Turn) (actor : ℕ) (c : ActorCrew Carried) (x : Ask) → slice_get (at turns).crew actor ≡ Some c → member_asks values c.member ≡ Some x → ToldNoBackup number (at turns)
          → ToldNoBackup number (asked values actor (Some x) c (at turns))
      asked_so turns actor c x there is h d found = ⊎_elim
          (λ here.
          (let w : WorldState Carried = at turns in
          let own : slice_get w.crew (2 + number) ≡ Some c = ap (λ i. slice_get w.crew i) here.0 ∙ there in
          subst (λ (y : ActorCrew Carried). list_any noted_backup y.list ≡ false) here.1
          (later_none c.list (note_of w.books c.pass x) (h c own) (asks_none c.member x is ((each_regular turns).each c own)))))
          (λ other. h d other.1)
          (in_set (at turns).crew actor (crew_after values x (at turns).books c) (2 + number) d found)

      begun_so : (turns : List Turn) → all_over (at turns).crew ≡ true → ToldNoBackup number (at turns)
          → ToldNoBackup number (record (at turns) { crew = map (begins (greatest 0 (at turns).crew)) (at turns).crew })
      begun_so turns over h d found =
          let was = in_map (begins (greatest 0 (at turns).crew)) (at turns).crew (2 + number) d found in
          subst (λ (y : ActorCrew Carried). list_any noted_backup y.list ≡ false) was.2 (h was.0 was.1)

pub regular_paths_tell_none : RegularPathsTellNone
regular_paths_tell_none start turns number regular ranks = tells_none start number regular ranks turns

-- path 0 sends no MP_JOIN
pub regular_first_paths_tell_none : RegularFirstPathsTellNone
regular_first_paths_tell_none start turns mild ranks = regular_paths_tell_none start turns 0 (λ plan there. inl refl) ranks
