-- A segment says that an address is taken back, or a priority, only where this stands in what its end has to note.
use Rattle.std.proofs.Common.{◌≡◌, refl, sym, ap, ◌∙◌, ℕ, ◌-◌, ◌&&◌, ◌||◌, not, Bool, true, false, true≢false, if◌then◌else◌, Option, Some, None, List, ◌∷◌, []}
use Rattle.std.proofs.lemmas.Bool.{both_ways, false≢true, or_from}
use Rattle.std.specs.List.{list_any}
use Rattle.std.specs.Option.{IfSome}
use Rattle.sides.specs.declared.side.Side.{Side}
use Rattle.sides.specs.declared.side.Side.TheVariants.{A, B}
use Rattle.subflow_send.specs.Records.{Record}
use Rattle.subflow_send.specs.declared.record.RecordKind.{RecordKind}
use Rattle.subflow_send.specs.declared.record.RecordKind.TheVariants.{Syn, Data, Fin}
use Rattle.subflow_tcp.specs.Emitting.{fin_position}
use Rattle.subflow_tcp.specs.State.{has_records}
use Rattle.path_segments.specs.Options.{PlainOption}
use Rattle.path_segments.specs.Spelled.{PlainSegment}
use Rattle.path_store.specs.declared.infinite_mapping.InfiniteMapping.{InfiniteMapping}
use Rattle.path_agenda.specs.declared.duty.Duty.{Duty}
use Rattle.path_agenda.specs.declared.duty.SendDuty.{SendDuty}
use Rattle.path_agenda.specs.declared.duty.StepDuty.{StepDuty}
use Rattle.path_agenda.specs.declared.notice.OwnNotice.{OwnNotice}
use Rattle.path_agenda.specs.declared.heard.Heard.{Heard}
use Rattle.path_agenda.specs.Words.{first_of}
use Rattle.path_core.specs.End.{PathEnd}
use Rattle.path_core.specs.Looking.{first_sends, segment_sent, broken_by, heard_sends, unsent_sends, step_sends, send_of}
use Rattle.path_core.specs.State.{PathState, end_at}
use Rattle.path_core.specs.Emission.{first_unsent, first_record, ack_resent, resend_said, answer_said}
use Rattle.path_core.specs.MpJoin.{is_joined, join_options, third_options}
use Rattle.path_core.specs.DataFin.{is_data_fin_owed}
use Rattle.path_core.specs.DssIn.{is_clash}
use Rattle.path_core.specs.Treating.{item_of}
use Rattle.path_core.specs.Fallback.{breaks_by_ack}
use Rattle.path_core.specs.Modes.{receives_infinite}
use Rattle.path_core.specs.DssOut.{owes_mapping, plain_options, is_first_piece, first_piece_options, piece_options, fin_options, fail_options, fail_beside, infinite_or, mapped_options}
use Rattle.path_core.specs.OptionsOut.{capable_options, syn_options, key_options, opening_options, ack_options, record_options, ack_said, carried_said, syn_ack_said, fin_said, reset_said, record_or_ack, broken_options, noted_said, notice_option}
use Rattle.path_core.specs.Profile.{Profile}
use Rattle.whole_paths.specs.Priorities.{PrioritiesAreNoted, has_priority, says_priority_in}
use Rattle.whole_paths.proofs.Saying.{ToSend}
use Rattle.whole_paths.proofs.NoticeWords.{Word, either_way, flags, is_note, is_noted, is_queued, ranks, removes, same_options, same_queue, is_said, is_said_in}

-- a path that joins with the flag says so
abbrev pub Fits : Word → Profile → Type 0
Fits word c = flags word ≡ true → is_joined c ≡ true → c.backup ≡ false

module _ (word : Word) (c : Profile) (fits : Fits word c) (s : Side) (e : PathEnd) where
  abbrev HasNone : List PlainOption → Type 0
  HasNone options = list_any (is_said word) options ≡ false

  either_none : (b : Bool) (xs ys : List PlainOption) → HasNone xs → HasNone ys → HasNone (if b then xs else ys)
  either_none = elim [ true ↦ λ xs ys x y. x | false ↦ λ xs ys x y. y ]

  plain_none : (position : ℕ) → HasNone (plain_options position e)
  plain_none position = either_none (owes_mapping e) _ [] refl refl

  flag_none : (b : Bool) → flags word ≡ b → is_joined c ≡ true → flags word && c.backup ≡ false
  flag_none true is joined = ap (λ b. b && c.backup) is ∙ fits is joined
  flag_none false is joined = ap (λ b. b && c.backup) is

  join_none : (s : Side) → is_joined c ≡ true → HasNone (join_options c s e.modes)
  join_none A joined = or_from (flags word && c.backup) false (flag_none (flags word) refl joined) refl
  join_none B joined = or_from (flags word && c.backup) false (flag_none (flags word) refl joined) refl

  capable_none : (s : Side) → HasNone (capable_options c s e)
  capable_none A = refl
  capable_none B = either_none (e.modes.capable_asked && not e.modes.identity) _ [] refl refl

  syn_none : HasNone (syn_options c s e)
  syn_none = by (is_joined c) refl
    where
      by : (b : Bool) → is_joined c ≡ b → HasNone (if b then join_options c s e.modes else capable_options c s e)
      by true joined = join_none s joined
      by false first = capable_none s

  third_none : HasNone (third_options e.modes)
  third_none = or_from (flags word && false) false (and_false (flags word)) refl
    where
      and_false : (b : Bool) → b && false ≡ false
      and_false true = refl
      and_false false = refl

  key_none : (s : Side) (key : Option ℕ) → HasNone (key_options c s key e)
  key_none A None = refl
  key_none A (Some key) = refl
  key_none B key = refl

  opening_none : HasNone (opening_options c s e)
  opening_none = either_none e.modes.owes_third (third_options e.modes) (key_options c s e.modes.peer_key e) third_none (key_none s e.modes.peer_key)

  fail_none : (o : Option ℕ) → HasNone (fail_options o)
  fail_none = elim [ None ↦ refl | Some place ↦ refl ]

  beside_none : (fin : Option ℕ) → HasNone (fail_beside fin e.modes)
  beside_none (Some fin) = refl
  beside_none None = fail_none (if receives_infinite e.modes.mode then None else e.modes.failed_mapping)

  ack_none : (fin : Option ℕ) → HasNone (ack_options c s fin e)
  ack_none fin = either_none e.modes.identity [] _ refl (either_none e.modes.clear _ (opening_options c s e) (beside_none fin) opening_none)

  first_none : (key : Option ℕ) (r : Record) → HasNone (first_piece_options c key r e)
  first_none = elim [ None ↦ λ r. refl | Some key ↦ λ r. refl ]

  infinite_none : (o : Option InfiniteMapping) (options : List PlainOption) → HasNone options → HasNone (infinite_or o options e)
  infinite_none = elim [ None ↦ λ options none. none | Some mapping ↦ λ options none. refl ]

  piece_none : (r : Record) → HasNone (piece_options c s r e)
  piece_none r =
      either_none e.modes.identity (plain_options r.pos e) _ (plain_none r.pos)
      (infinite_none e.modes.own_infinite (mapped_options c s r e)
      (either_none (is_first_piece s r e) (first_piece_options c e.modes.peer_key r e) _ (first_none e.modes.peer_key r) refl))

  fin_none : (position : ℕ) → HasNone (fin_options position e)
  fin_none position = either_none e.modes.identity (plain_options position e) _ (plain_none position) (infinite_none e.modes.own_infinite _ refl)

  kind_none : (kind : RecordKind) (r : Record) → HasNone (record_options kind c s r e)
  kind_none = elim [ Syn ↦ λ r. syn_none | Data ↦ λ r. piece_none r | Fin ↦ λ r. fin_none r.pos ]

  broken_none : (failed reason : Option ℕ) → HasNone (broken_options failed reason)
  broken_none failed None = refl
  broken_none None (Some reason) = refl
  broken_none (Some place) (Some reason) = refl

  -- ---- segments

  abbrev SaysNone : PlainSegment → Type 0
  SaysNone segment = is_said_in word segment ≡ false

  either_says : (b : Bool) (x y : PlainSegment) → SaysNone x → SaysNone y → SaysNone (if b then x else y)
  either_says = elim [ true ↦ λ x y g h. g | false ↦ λ x y g h. h ]

  record_says : (o : Option Record) → SaysNone (record_or_ack c s o e)
  record_says = elim [ None ↦ ack_none None | Some r ↦ kind_none r.kind r ]

  carried_says : (key : Option ℕ) → SaysNone (carried_said c s key e)
  carried_says = elim [ None ↦ ack_none None | Some key ↦ refl ]

  resent_says : SaysNone (ack_resent c s e)
  resent_says =
      let plainly = ack_said c s (e.tcp.send.una - 1) None e in let ended = ack_said c s e.tcp.send.nxt e.sending.known_end e in
      let closed = if is_data_fin_owed e then ended else plainly in
      either_says e.modes.owes_third (ack_said c s e.tcp.send.nxt None e) (if e.notices.fast_closed then carried_said c s e.notices.carrier e else closed) (ack_none None)
      (either_says e.notices.fast_closed (carried_said c s e.notices.carrier e) closed (carried_says e.notices.carrier)
      (either_says (is_data_fin_owed e) ended plainly (ack_none e.sending.known_end) (ack_none None)))

  -- ---- a notice

  -- an option says what its notice does
  option_notes : (notice : OwnNotice) → is_said word (notice_option notice e.modes) || false ≡ true → is_note word notice ≡ true
  option_notes (OwnNotice.Removes id) is = either_way (removes word id) (either_way (removes word id || false) is)
  option_notes (OwnNotice.Prio backup) is = either_way (ranks word) is
  option_notes _ is = absurd (false≢true is)

  first_notes : (queue : List OwnNotice) → is_said_in word (noted_said c s (first_of queue) e) ≡ true → is_queued word queue ≡ true
  first_notes [] is = absurd (both_ways (is_said_in word (noted_said c s None e)) (ack_none None) is)
  first_notes (notice ∷ queue) is = ap (λ b. b || is_queued word queue) (option_notes notice is)

  none_is : (segment : PlainSegment) → SaysNone segment → is_said_in word segment ≡ true → is_noted word e ≡ true
  none_is segment none is = absurd (both_ways (is_said_in word segment) none is)

  -- ---- what each duty sends

  plain_says : is_said_in word (ack_said c s e.tcp.send.nxt None e) ≡ true → is_noted word e ≡ true
  plain_says = none_is (ack_said c s e.tcp.send.nxt None e) (ack_none None)

  fin_says : is_said_in word (fin_said c e) ≡ true → is_noted word e ≡ true
  fin_says = none_is (fin_said c e) (fin_none (fin_position e.tcp.send))

  unsent_says : (o : Option Record) → is_said_in word (record_or_ack c s o e) ≡ true → is_noted word e ≡ true
  unsent_says o = none_is (record_or_ack c s o e) (record_says o)

  reset_says : (reason : Option ℕ) → is_said_in word (reset_said c reason e) ≡ true → is_noted word e ≡ true
  reset_says reason = none_is (reset_said c reason e) (either_none e.modes.identity [] (broken_options e.treated.failed_mapping reason) refl (broken_none e.treated.failed_mapping reason))

  syn_ack_says : is_said_in word (syn_ack_said c s e) ≡ true → is_noted word e ≡ true
  syn_ack_says = none_is (syn_ack_said c s e) syn_none

  answer_says : is_said_in word (answer_said c s e) ≡ true → is_noted word e ≡ true
  answer_says = none_is (answer_said c s e) (either_says e.tcp.due.syn_ack (syn_ack_said c s e) (ack_said c s e.tcp.send.nxt None e) syn_none (ack_none None))

  resend_says : is_said_in word (resend_said c s e) ≡ true → is_noted word e ≡ true
  resend_says = none_is (resend_said c s e) (either_says (has_records e.tcp) (record_or_ack c s (first_record e) e) (ack_resent c s e) (record_says (first_record e)) resent_says)

  data_fin_says : is_said_in word (ack_said c s e.tcp.send.nxt e.sending.known_end e) ≡ true → is_noted word e ≡ true
  data_fin_says = none_is (ack_said c s e.tcp.send.nxt e.sending.known_end e) (ack_none e.sending.known_end)

  fast_close_says : is_said_in word (carried_said c s e.notices.carrier e) ≡ true → is_noted word e ≡ true
  fast_close_says = none_is (carried_said c s e.notices.carrier e) (carried_says e.notices.carrier)

either_some : {X : Type 0} (P : X → Type 0) (b : Bool) (x y : Option X) → IfSome x P → IfSome y P → IfSome (if b then x else y) P
either_some P true x y g h = g
either_some P false x y g h = h

module _ {C : Type 0} (word : Word) (p : PathState C) (fits : Fits word p.profile) where
  broken_noted : (s : Side) (reason : ℕ) → IfSome (broken_by s reason p) (λ t. is_said_in word (segment_sent p t) ≡ true → is_noted word (end_at t.from p) ≡ true)
  broken_noted s reason = either_some _ (end_at s p).treated.asked None _ tt (reset_says word p.profile fits s (end_at s p) (Some reason))

  item_noted : (s : Side) (o : Option Heard) → IfSome (heard_sends s o p) (λ t. is_said_in word (segment_sent p t) ≡ true → is_noted word (end_at t.from p) ≡ true)
  item_noted s (Some (Heard.Mapping fin)) = either_some _ (is_clash (end_at s p)) (broken_by s 1 p) None (broken_noted s 1) tt
  item_noted s _ = tt

  unsent_noted : (s : Side) (o : Option Record) → IfSome (unsent_sends s o) (λ t. is_said_in word (segment_sent p t) ≡ true → is_noted word (end_at t.from p) ≡ true)
  unsent_noted s None = tt
  unsent_noted s (Some r) = unsent_says word p.profile fits s (end_at s p) (first_unsent (end_at s p))

  step_noted : (d : StepDuty) → IfSome (step_sends d p) (λ t. is_said_in word (segment_sent p t) ≡ true → is_noted word (end_at t.from p) ≡ true)
  step_noted (StepDuty.Data s) = unsent_noted s (first_unsent (end_at s p))
  step_noted (StepDuty.Heard s index) = item_noted s (item_of index (end_at s p))
  step_noted (StepDuty.PlainAck s) = either_some _ (breaks_by_ack p.profile (end_at s p)) (broken_by s 6 p) None (broken_noted s 6) tt
  step_noted (StepDuty.Unmapped s) = broken_noted s 6
  step_noted _ = tt

  send_noted : (d : SendDuty) → IfSome (send_of d) (λ t. is_said_in word (segment_sent p t) ≡ true → is_noted word (end_at t.from p) ≡ true)
  send_noted (SendDuty.Update s) = plain_says word p.profile fits s (end_at s p)
  send_noted (SendDuty.Acknowledge s) = plain_says word p.profile fits s (end_at s p)
  send_noted (SendDuty.Syn s) = unsent_says word p.profile fits s (end_at s p) (first_unsent (end_at s p))
  send_noted (SendDuty.FastClose s) = fast_close_says word p.profile fits s (end_at s p)
  send_noted (SendDuty.Notice s) = first_notes word p.profile fits s (end_at s p) (end_at s p).notices.queue
  send_noted (SendDuty.DataFin s) = data_fin_says word p.profile fits s (end_at s p)
  send_noted (SendDuty.Fin s) = fin_says word p.profile fits s (end_at s p)
  send_noted (SendDuty.SynAck s) = syn_ack_says word p.profile fits s (end_at s p)
  send_noted (SendDuty.Refuse s) = λ is. absurd (false≢true is)
  send_noted (SendDuty.Again s) = unsent_says word p.profile fits s (end_at s p) (first_record (end_at s p))
  send_noted (SendDuty.Answer s) = answer_says word p.profile fits s (end_at s p)
  send_noted (SendDuty.ResetAnswer s) = λ is. absurd (false≢true is)
  send_noted (SendDuty.Resend s) = resend_says word p.profile fits s (end_at s p)
  send_noted (SendDuty.BreakReset s reason) = reset_says word p.profile fits s (end_at s p) (Some reason)
  send_noted (SendDuty.Reset s) = reset_says word p.profile fits s (end_at s p) None
  send_noted (SendDuty.ResetNoted s) = reset_says word p.profile fits s (end_at s p) None

  -- where the first duty sends a segment that says it, it stands in what the end has to note
  pub first_noted : (ds : List Duty) → IfSome (first_sends ds p) (λ t. is_said_in word (segment_sent p t) ≡ true → is_noted word (end_at t.from p) ≡ true)
  first_noted [] = tt
  first_noted (Duty.Send d ∷ ds) = send_noted d
  first_noted (Duty.Step d ∷ ds) = step_noted d
  first_noted (Duty.Ask d ∷ ds) = tt
  first_noted (Duty.Silent d ∷ ds) = tt
  first_noted (Duty.End ∷ ds) = tt

pub priorities_are_noted : {C : Type 0} (p : PathState C) → PrioritiesAreNoted p
priorities_are_noted p ds = by (first_sends ds p) (first_noted Word.priority p (λ is joined. absurd (true≢false (sym is))) ds)
  where
    by : (o : Option ToSend) → IfSome o (λ t. is_said_in Word.priority (segment_sent p t) ≡ true → is_noted Word.priority (end_at t.from p) ≡ true)
        → IfSome o (λ t. says_priority_in (segment_sent p t) ≡ true → has_priority (end_at t.from p) ≡ true)
    by None h = tt
    by (Some t) h = λ is. sym (same_queue (end_at t.from p).notices.queue) ∙ h (same_options (segment_sent p t).options ∙ is)
