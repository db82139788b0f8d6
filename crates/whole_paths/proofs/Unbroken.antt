-- Where no option is taken away, no payload altered, and no side closes at once, no end of path 0 breaks. What a duty makes of the agenda is a table; what it may not make is refuted by what is known of the path and of the reply.
use Rattle.std.proofs.Common.{◌≡◌, refl, sym, subst, ap, ◌∙◌, ℕ, zero, suc, ◌+◌, nat_lt, nat_le, Bool, true, false, true≢false, not, if◌then◌else◌, ◌&&◌, ◌||◌, Option, Some, None, is_some, List, [], ◌∷◌, ◌++◌}
use Rattle.std.specs.List.{list_any}
use Rattle.std.proofs.lemmas.Bool.{and_parts, both_ways, or_parts}
use Rattle.path_segments.specs.Heard.{HeardSegment}
use Rattle.sides.specs.declared.side.Side.{Side}
use Rattle.sides.specs.declared.side.Side.TheVariants.{A, B}
use Rattle.fallback_state.specs.declared.fall.Event.TheVariants as events
use Rattle.fallback_state.specs.declared.fall.Fall.{Fall}
use Rattle.fallback_state.specs.declared.fall.Mode.TheVariants as modes
use Rattle.fallback_state.specs.Modes.{is_starting}
use Rattle.fallback_state.specs.Table.{after_sure_sign, goes, stays}
use Rattle.control_book.specs.declared.call.ControlReply.TheVariants as control_replies
use Rattle.control_book.specs.Replies.{is_sure}
use Rattle.reassembly_book.specs.State.{Arriving}
use Rattle.reassembly_book.specs.Steps.{clash, edge, fin_clash, fin_reply_by, place_reply, placed_reply, reaches_past}
use Rattle.reassembly_book.specs.declared.call.ReassemblyReply.TheVariants as reassembly_replies
use Rattle.subflow_tcp.specs.declared.verdicts.Meaning.{Meaning}
use Rattle.subflow_tcp.specs.declared.verdicts.Meaning.TheVariants as means
use Rattle.subflow_tcp.specs.Expiring.{is_sixth}
use Rattle.subflow_tcp.specs.Judging.{meaning_of}
use Rattle.subflow_tcp.specs.States.{is_dead}
use Rattle.actor_desk.specs.declared.ask.Reply.{Reply}
use Rattle.actor_desk.specs.declared.ask.Reply.TheVariants as replies
use Rattle.actor_desk.specs.Desk.{SixBooks, control_of, reassembly_of, reply_of}
use Rattle.path_agenda.specs.Agenda.{emission, heard_and, leaves, payload_came, rest_of_turn, start_of_turn, stops}
use Rattle.path_agenda.specs.Items.{key_heard, keys_heard}
use Rattle.path_agenda.specs.declared.duty.Duty.{Duty}
use Rattle.path_agenda.specs.declared.duty.Duty.TheVariants as duties
use Rattle.path_agenda.specs.declared.duty.AskDuty.TheVariants as ask_duties
use Rattle.path_agenda.specs.declared.duty.SendDuty.TheVariants as send_duties
use Rattle.path_agenda.specs.declared.duty.StepDuty.TheVariants as step_duties
use Rattle.path_agenda.specs.declared.heard.Heard.{Heard}
use Rattle.path_agenda.specs.declared.heard.Heard.TheVariants as says
use Rattle.path_agenda.specs.declared.keys.KeyPair.{KeyPair}
use Rattle.path_store.specs.Passing.{Piece}
use Rattle.path_store.specs.declared.lines.LineAction.{LineAction}
use Rattle.path_store.specs.declared.lines.LineAction.TheVariants as actions
use Rattle.path_core.specs.Arrival.{copy_heard, copy_of, judged_in, template_by, template_of}
use Rattle.path_core.specs.Breaking.{answered_break, break_ask}
use Rattle.path_core.specs.Choices.{item_at}
use Rattle.path_core.specs.DataFin.{answered_fin_heard, answered_plain_fin, data_fin_of, fin_ask, is_fin_set, place_of_fin}
use Rattle.path_core.specs.Deliver.{answered_piece, failing_mapping, is_placed, piece_ask, piece_of}
use Rattle.path_core.specs.DssIn.{is_acked, is_clash, told_next, with_learned}
use Rattle.path_core.specs.Duties.{answered, ask_for, passed, stands}
use Rattle.path_core.specs.End.{PathEnd}
use Rattle.path_core.specs.Events.{after_line, happens_if, next_event}
use Rattle.path_core.specs.Fallback.{after_fell, fell_ask, fell_duties, plain_ack_stands}
use Rattle.path_core.specs.FastClose.{is_stopped_by}
use Rattle.path_core.specs.MpCapable.{answered_opened, answered_peer_key, opened_ask, peer_key_ask}
use Rattle.path_core.specs.Modes.{sends_plainly}
use Rattle.path_core.specs.MpJoin.{is_joined, is_never, join_begun, keys_begun, never_joined, opened_by}
use Rattle.path_core.specs.OptionsIn.{items_of, options_heard}
use Rattle.path_core.specs.Profile.{Profile}
use Rattle.path_core.specs.State.{PathState, at_tick, end_at, goes_on, left, with_agenda}
use Rattle.path_core.specs.Steps.{begins_turn, settled, takes}
use Rattle.path_core.specs.Timer.{template_fired}
use Rattle.path_core.specs.Treating.{answered_item, heard_ask, item_ask, item_of}
use Rattle.path_core.specs.Values.{Carried, values}
use Rattle.path_core.specs.declared.events.Event.{Event}
use Rattle.path_core.specs.declared.events.Event.TheVariants as happenings
use Rattle.world_laws.specs.Promises.{tells_refusal}
use Rattle.world_laws.specs.Writes.{side_of}
use Rattle.world_laws.proofs.Falls.ChecksPass.{is_failure}
use Rattle.world_laws.proofs.Whole.Happening.{IsCalm, is_between}
use Rattle.whole_paths.specs.AgendaSteps.{Follows, may_break, treats_copy}
use Rattle.whole_paths.specs.AgendaSteps.{Follows as follows}
use Rattle.whole_paths.specs.Mild.{is_harsh}
use Rattle.whole_paths.proofs.Agendas.{answered_follows}

-- none of these duties is harsh
abbrev pub Calm : List Duty → Type 0
Calm ds = list_any is_harsh ds ≡ false

pub behind_calm : (d : Duty) (ds : List Duty) → Calm (d ∷ ds) → Calm ds
behind_calm d ds h = (or_parts (is_harsh d) (list_any is_harsh ds) h).1

-- ---- replies

-- what makes a side sure lets it neither fall back nor break
sure_calm : (s : Side) (f : Fall) (p : PathState Carried) → fell_duties s (replies.Control (control_replies.Verdict (after_sure_sign f).1)) p ≡ left p
sure_calm s f p = elim (is_starting f.mode) as (λ b. fell_duties s (replies.Control (control_replies.Verdict (if b then goes modes.Sure f else stays f).1)) p ≡ left p) [ true ↦ refl | false ↦ refl ]

placed_so : (at : ℕ) (bytes : List ℕ) (b : Arriving) → tells_refusal (replies.Reassembly (place_reply at bytes b)) ≡ false → is_placed (replies.Reassembly (place_reply at bytes b)) ≡ true
placed_so at bytes b = elim (reaches_past (edge b) at bytes) as
    (λ c. let r = replies.Reassembly (if c then reassembly_replies.Beyond (edge b) else placed_reply (clash b.known_end at bytes) at bytes b) in tells_refusal r ≡ false → is_placed r ≡ true)
    [ true ↦ λ is. absurd (true≢false is) | false ↦ by (clash b.known_end at bytes) ]
  where
    by : (o : Option ℕ) → tells_refusal (replies.Reassembly (placed_reply o at bytes b)) ≡ false → is_placed (replies.Reassembly (placed_reply o at bytes b)) ≡ true
    by None is = refl
    by (Some e) is = absurd (true≢false is)

set_so : (o : Option ℕ) (at : ℕ) → tells_refusal (replies.Reassembly (fin_reply_by o at)) ≡ false → is_fin_set (replies.Reassembly (fin_reply_by o at)) ≡ true
set_so None at is = refl
set_so (Some e) at is = absurd (true≢false is)

-- ---- events

pub heard_calm : (s : Side) (from count : ℕ) (ds : List Duty) → Calm ds → Calm (heard_and s from count ds)
heard_calm s from zero ds h = h
heard_calm s from (suc count) ds h = heard_calm s (from + 1) count ds h

meaning_calm : (s : Side) (count : ℕ) (m : Meaning) → Calm (template_by false s count m)
meaning_calm s count (means.Taken position acknowledged) = heard_calm s 0 count (payload_came s) refl
meaning_calm s count _ = refl

template_calm : (joined : Bool) → joined ≡ false → (s : Side) (x : HeardSegment) (e : PathEnd) → Calm (template_of joined s (items_of joined s x) (judged_in joined s x e))
template_calm true is s x e = absurd (true≢false is)
template_calm false is s x e = meaning_calm s _ (meaning_of (copy_of x) e.tcp)

copy_calm : (s : Side) (o : Option HeardSegment) (p : PathState Carried) → is_joined p.profile ≡ false → Calm (copy_heard s o p).agenda
copy_calm s None p first = refl
copy_calm s (Some x) p first = template_calm (is_joined p.profile) first s (options_heard (end_at s p) x) (end_at s p)

pub line_calm : (action : LineAction) (p : PathState Carried) → Calm (after_line action p).agenda
line_calm actions.Die p = by (is_dead p.a.tcp.state) (is_dead p.b.tcp.state)
  where
    by : (a b : Bool) → Calm ((if a then [] else duties.Ask (ask_duties.Leave A) ∷ []) ++ ((if b then [] else duties.Ask (ask_duties.Leave B) ∷ []) ++ rest_of_turn))
    by true true = refl
    by true false = refl
    by false true = refl
    by false false = refl
line_calm (actions.Prio s backup) p = refl
line_calm (actions.Announce s id) p = refl
line_calm (actions.Withdraw s id) p = refl

pub begun_calm : (r : Reply) (dead living : List Duty) (p : PathState Carried) → Calm dead → Calm living → Calm (join_begun r dead living p).agenda
begun_calm r dead living p one other = elim (is_never r) as (λ b. Calm (if b then goes_on A (never_joined r p.a) dead p else goes_on A (opened_by (keys_begun r) p.a) living p).agenda) [ true ↦ one | false ↦ other ]

event_calm : (o : Option Event) (r : Reply) (p : PathState Carried) → is_joined p.profile ≡ false → Calm (happens_if values o r p).agenda
event_calm None r p first = refl
event_calm (Some (happenings.Joins tick)) r p first = begun_calm r (leaves A) (emission A) (record (at_tick tick p) { joined_at = None }) refl refl
event_calm (Some (happenings.Takes line)) r p first = line_calm line.action _
event_calm (Some (happenings.Arrives due)) r p first = copy_calm due.to _ _ first
event_calm (Some (happenings.Fires s tick)) r p first = elim (is_sixth (end_at s p).tcp) as (λ b. Calm (template_fired b s)) [ true ↦ refl | false ↦ refl ]

-- ---- a duty that neither treats a copy nor breaks

follow_calm : (s : Side) (gone : Bool) (d : Duty) (ds es : List Duty) → treats_copy d ≡ false → may_break d ≡ false → Calm (d ∷ ds) → Follows s gone d ds es → Calm es
follow_calm s gone d ds es treats may h follows.goes_on = behind_calm d ds h
follow_calm s gone d ds es treats may h follows.again = h
follow_calm s gone d ds es treats may h (follows.told is e own other named silent) = absurd (both_ways (treats_copy d) treats is)
follow_calm s gone d ds es treats may h (follows.left dead) = behind_calm d ds h
follow_calm s gone d ds es treats may h follows.noted = behind_calm d ds h
follow_calm s gone d ds es treats may h (follows.broken is reason) = absurd (both_ways (may_break d) may is)
follow_calm s gone d ds es treats may h (follows.is_reset is reason) = absurd (both_ways (may_break d) may is)
follow_calm s gone d ds es treats may h (follows.dead is dead) = refl
follow_calm s gone d ds es treats may h (follows.stopped is) = refl
follow_calm s gone d ds es treats may h (follows.over both) = refl

-- ---- what is known as a duty comes first

pub record Known (d : Duty) (p : PathState Carried) : Type 0 where
  -- an event comes to path 0
  pub first : d ≡ duties.Step step_duties.Events → is_joined p.profile ≡ false
  pub stood : stands d p ≡ true
  pub asks : IsCalm (ask_for values d p)
  pub agrees : (s : Side) → is_clash (end_at s p) ≡ false
  pub sound : (s : Side) → failing_mapping p.profile (end_at s p) ≡ None
  pub heard : (s : Side) → list_any is_failure (end_at s p).treated.items ≡ false
  -- an acknowledgement of data has a Data ACK
  pub acked : is_between d ≡ false → (s : Side) → (end_at s p).treated.plain_ack ≡ false
  -- the byte at RCV.NXT never lacks a mapping for the third time
  pub mapped : (s : Side) → d ≡ duties.Step (step_duties.Unmapped s) → ⊥

pub none_heard : (items : List Heard) (index : ℕ) → list_any is_failure items ≡ false → item_at index items ≡ Some says.Fail → ⊥
none_heard [] index none is = cc
none_heard (item ∷ items) zero none is = let same : item ≡ says.Fail = cc in true≢false (sym (ap is_failure same) ∙ (or_parts (is_failure item) (list_any is_failure items) none).0)
none_heard (item ∷ items) (suc index) none is = none_heard items index (or_parts (is_failure item) (list_any is_failure items) none).1 is

-- as this duty comes first, and a reply that tells no refusal
module _ (six : SixBooks) (d : Duty) (ds : List Duty) (p : PathState Carried) where
  abbrev x : PathState Carried
  x = with_agenda (d ∷ ds) p

  -- an item of the copy that is treated
  item_calm : (s : Side) (index : ℕ) (o : Option Heard) → item_of index (end_at s x) ≡ o → IsCalm (item_ask values s o x) → is_clash (end_at s x) ≡ false → list_any is_failure (end_at s x).treated.items ≡ false
      → Calm (d ∷ ds) → Calm (answered_item values s o (reply_of six (item_ask values s o x)) x).agenda
  item_calm s index None is calm agrees heard h = behind_calm d ds h
  item_calm s index (Some (says.DataAck next window)) is calm agrees heard h =
      elim (is_acked (reply_of six (item_ask values s (Some (says.DataAck next window)) x)) && nat_lt 0 next) as (λ b. Calm (told_next s b x)) [ true ↦ behind_calm d ds h | false ↦ behind_calm d ds h ]
  item_calm s index (Some (says.Mapping fin)) is calm agrees heard h = by (is_clash (end_at s x)) agrees
    where
      by : (b : Bool) → b ≡ false → let q = (if b then break_ask values s 1 x else fell_ask s events.MappingHeard x) in let r = reply_of six q in
          Calm (if b then answered_break values s 1 r x else goes_on s (with_learned (after_fell events.MappingHeard r (end_at s x))) (fell_duties s r x) x).agenda
      by true none = absurd (true≢false none)
      by false none = subst Calm (sym (sure_calm s (control_of s six).fall x)) (behind_calm d ds h)
  item_calm s index (Some (says.DataFin place)) is calm agrees heard h = subst Calm (sym (sure_calm s (control_of s six).fall x)) (behind_calm d ds h)
  item_calm s index (Some (says.InfiniteMapping place position)) is calm agrees heard h = absurd calm
  item_calm s index (Some (says.Keys own other)) is calm agrees heard h = behind_calm d ds h
  item_calm s index (Some (says.Notice notice)) is calm agrees heard h = behind_calm d ds h
  item_calm s index (Some says.Fail) is calm agrees heard h = absurd (by (end_at s x).modes.identity is)
    where
      by : (b : Bool) → (if b then None else item_at index (end_at s x).treated.items) ≡ Some says.Fail → ⊥
      by true is = cc
      by false is = none_heard (end_at s x).treated.items index heard is
  item_calm s index (Some (says.FastClose key)) is calm agrees heard h = elim (is_stopped_by (reply_of six (heard_ask values s (says.FastClose key) x))) as (λ b. Calm (if b then stops s else ds))
      [ true ↦ refl | false ↦ behind_calm d ds h ]
  item_calm s index (Some _) is calm agrees heard h = behind_calm d ds h

  key_calm : (s : Side) (o : Option ℕ) → IsCalm (peer_key_ask s o x) → (r : Reply) → Calm (d ∷ ds) → Calm (answered_peer_key s o r x).agenda
  key_calm s None calm r h = absurd calm
  key_calm s (Some key) calm r h = behind_calm d ds h

  opened_calm : (s : Side) (o : Option KeyPair) → IsCalm (opened_ask s o x) → (r : Reply) → Calm (d ∷ ds) → Calm (answered_opened s o r x).agenda
  opened_calm s None calm r h = absurd calm
  opened_calm s (Some keys) calm r h = behind_calm d ds h

  piece_calm : (s : Side) (o : Option Piece) → is_some o ≡ true → tells_refusal (reply_of six (piece_ask s o)) ≡ false → Calm (d ∷ ds) → Calm (answered_piece s o (is_placed (reply_of six (piece_ask s o))) x).agenda
  piece_calm s None some fine h = absurd (true≢false (sym some))
  piece_calm s (Some piece) some fine h = by (is_placed (reply_of six (piece_ask s (Some piece)))) (placed_so piece.place piece.octets (reassembly_of s six) fine)
    where
      by : (b : Bool) → b ≡ true → Calm (answered_piece s (Some piece) b x).agenda
      by true is = h
      by false is = absurd (true≢false (sym is))

  fin_calm : (s : Side) (o : Option ℕ) → is_some o ≡ true → tells_refusal (reply_of six (fin_ask s o)) ≡ false → Calm (d ∷ ds)
      → Calm (answered_fin_heard s (is_fin_set (reply_of six (fin_ask s o))) x).agenda × Calm (answered_plain_fin s (is_fin_set (reply_of six (fin_ask s o))) x).agenda
  fin_calm s None some fine h = absurd (true≢false (sym some))
  fin_calm s (Some place) some fine h = by (is_fin_set (reply_of six (fin_ask s (Some place)))) (set_so (fin_clash (reassembly_of s six).known_end place (reassembly_of s six)) place fine)
    where
      by : (b : Bool) → b ≡ true → Calm (answered_fin_heard s b x).agenda × Calm (answered_plain_fin s b x).agenda
      by true is = (behind_calm d ds h, behind_calm d ds h)
      by false is = absurd (true≢false (sym is))

pub no_plain_ack : (c : Profile) (e : PathEnd) → e.treated.plain_ack ≡ false → plain_ack_stands c e ≡ false
no_plain_ack c e none = ap (λ (b : Bool). ((b && not (sends_plainly e.modes)) && ((is_joined c && not e.modes.covered) || (is_sure e.modes.mode && nat_le 2 e.modes.plain_acks)))
    || ((b && not (sends_plainly e.modes)) && is_starting e.modes.mode)) none

pub duty_calm : (six : SixBooks) (d : Duty) (ds : List Duty) (p : PathState Carried) → Known d (with_agenda (d ∷ ds) p) → let x = with_agenda (d ∷ ds) p in let r = reply_of six (ask_for values d x) in
    tells_refusal r ≡ false → Calm (d ∷ ds) → Calm (answered values d r x).agenda
duty_calm six (duties.Step step_duties.Events) ds p known fine h = let x = with_agenda (duties.Step step_duties.Events ∷ ds) p in event_calm (next_event x) _ x (known.first refl)
duty_calm six (duties.Ask (ask_duties.PlainHandshake s)) ds p known fine h = absurd known.asks
duty_calm six (duties.Ask (ask_duties.PlainData s)) ds p known fine h = absurd known.asks
duty_calm six (duties.Ask (ask_duties.PeerKey s)) ds p known fine h = key_calm six (duties.Ask (ask_duties.PeerKey s)) ds p s (key_heard (end_at s p).treated.items) known.asks _ h
duty_calm six (duties.Ask (ask_duties.JoinHeard s)) ds p known fine h = absurd (true≢false h)
duty_calm six (duties.Ask (ask_duties.Opened s)) ds p known fine h = opened_calm six (duties.Ask (ask_duties.Opened s)) ds p s (keys_heard (end_at s p).treated.items) known.asks _ h
duty_calm six (duties.Ask (ask_duties.AckHeard s)) ds p known fine h =
    let d = duties.Ask (ask_duties.AckHeard s) in subst Calm (sym (sure_calm s (control_of s six).fall (with_agenda (d ∷ ds) p))) (behind_calm d ds h)
duty_calm six (duties.Ask (ask_duties.FailHeard s)) ds p known fine h = absurd (true≢false h)
duty_calm six (duties.Ask (ask_duties.Edge s)) ds p known fine h = piece_calm six (duties.Ask (ask_duties.Edge s)) ds p s (piece_of s p) known.stood fine h
duty_calm six (duties.Ask (ask_duties.CheckFailed s)) ds p known fine h =
    absurd (both_ways _ (ap is_some (known.sound s)) (and_parts (is_some (failing_mapping p.profile (end_at s p))) _ known.stood).0)
duty_calm six (duties.Ask (ask_duties.HeardFin s index)) ds p known fine h = (fin_calm six (duties.Ask (ask_duties.HeardFin s index)) ds p s (data_fin_of index (end_at s p)) known.stood fine h).0
duty_calm six (duties.Ask (ask_duties.SubflowFin s)) ds p known fine h = (fin_calm six (duties.Ask (ask_duties.SubflowFin s)) ds p s (place_of_fin (end_at s p)) known.stood fine h).1
duty_calm six (duties.Ask (ask_duties.BreakAck s reason)) ds p known fine h = absurd (true≢false h)
duty_calm six (duties.Send (send_duties.BreakReset s reason)) ds p known fine h = absurd (true≢false h)
duty_calm six (duties.Step (step_duties.Heard s index)) ds p known fine h =
    item_calm six (duties.Step (step_duties.Heard s index)) ds p s index (item_of index (end_at s p)) refl known.asks (known.agrees s) (known.heard s) h
duty_calm six (duties.Step (step_duties.PlainAck s)) ds p known fine h = absurd (both_ways _ (no_plain_ack p.profile (end_at s p) (known.acked refl s)) known.stood)
duty_calm six (duties.Step (step_duties.Unmapped s)) ds p known fine h = absurd (known.mapped s refl)
duty_calm six d ds p known fine h =
    let x = with_agenda (d ∷ ds) p in let r = reply_of six (ask_for values d x) in
    follow_calm (side_of d) _ d ds (answered values d r x).agenda refl refl h (answered_follows values d ds r p)

-- ---- a turn

pub settled_calm : (ds : List Duty) (p : PathState Carried) → Calm ds → Calm (settled ds p).agenda
settled_calm [] p h = refl
settled_calm (d ∷ ds) p h = elim (stands d p) as (λ b. Calm (if b then with_agenda (d ∷ ds) p else settled ds (passed d p)).agenda) [ true ↦ h | false ↦ settled_calm ds (passed d p) (behind_calm d ds h) ]

-- as its first duty is known, and what it asks is answered without a refusal
abbrev pub FirstKnown : List Duty → PathState Carried → Type 0
FirstKnown [] p = Unit {0}
FirstKnown (d ∷ ds) p = Known d p

abbrev pub FirstFine : SixBooks → List Duty → PathState Carried → Type 0
FirstFine six [] p = Unit {0}
FirstFine six (d ∷ ds) p = tells_refusal (reply_of six (ask_for values d p)) ≡ false

abbrev pub FirstReply : SixBooks → List Duty → PathState Carried → Reply → Type 0
FirstReply six [] p r = Unit {0}
FirstReply six (d ∷ ds) p r = r ≡ reply_of six (ask_for values d p)

pub takes_calm : (six : SixBooks) (r : Reply) (p : PathState Carried) → FirstKnown p.agenda p → FirstReply six p.agenda p r → FirstFine six p.agenda p → Calm p.agenda → Calm (takes values r p).agenda
takes_calm six r p = by p.agenda
  where
    by : (ds : List Duty) → FirstKnown ds (with_agenda ds p) → FirstReply six ds (with_agenda ds p) r → FirstFine six ds (with_agenda ds p) → Calm ds → Calm (takes values r (with_agenda ds p)).agenda
    by [] known is fine h = refl
    by (d ∷ ds) known is fine h =
        let x : PathState Carried = with_agenda (d ∷ ds) p in
        subst (λ (r : Reply). Calm (takes values r x).agenda) (sym is)
        (let q : PathState Carried = answered values d (reply_of six (ask_for values d x)) x in settled_calm q.agenda q (duty_calm six d ds p known fine h))

pub begins_calm : (p : PathState Carried) → Calm (begins_turn p).agenda
begins_calm p = settled_calm start_of_turn (with_agenda start_of_turn p) refl
