-- What was granted to a path goes out by the path's next step.
use Rattle.std.proofs.Common.{◌≡◌, refl, sym, ap, ◌∙◌, subst, ℕ, ◌-◌, ◌≤◌, ◌&&◌, not, nat_le, Bool, true, false, if◌then◌else◌, Option, Some, None, List, [], ◌∷◌, ◌++◌, length, arith}
use Rattle.std.specs.List.{find}
use Rattle.std.proofs.lemmas.Bool.{and_from, and_parts, false≢true, le-leb, leb-true}
use Rattle.std.proofs.lemmas.List.Sums.{sum_by_push}
use Rattle.std.specs.Prelude.{sum_by}
use Rattle.actor_desk.specs.declared.ask.Ask.{Ask}
use Rattle.actor_desk.specs.declared.ask.Reply.{Reply}
use Rattle.path_agenda.specs.declared.duty.Duty.{Duty}
use Rattle.path_agenda.specs.declared.duty.StepDuty.{StepDuty}
use Rattle.path_core.specs.DssOut.{mapping_of}
use Rattle.path_core.specs.Duties.{ask_for, passed, stands}
use Rattle.path_core.specs.Emission.{answered_data, data_ask, data_stands, first_unsent, granted, may_ask, may_send_data, payload_size}
use Rattle.path_core.specs.End.{PathEnd}
use Rattle.path_core.specs.Looking.{first_sends, unsent_sends}
use Rattle.path_core.specs.Profile.{Profile}
use Rattle.path_core.specs.State.{PathState, end_at, goes_on, path_of, with_agenda}
use Rattle.path_core.specs.Steps.{answers, settled, settles_down, takes}
use Rattle.path_core.specs.Values.{Carried, values}
use Rattle.send_book.specs.declared.call.SendCall.{SendCall}
use Rattle.send_book.specs.declared.call.SendReply.{SendReply}
use Rattle.send_book.specs.declared.call.Span.{Span}
use Rattle.sides.specs.Side.{peer}
use Rattle.sides.specs.declared.side.Side.TheVariants.{A, B}
use Rattle.sides.specs.declared.side.Side.{Side}
use Rattle.subflow_send.specs.Records.{Record}
use Rattle.subflow_send.specs.Rules.{is_unsent, octets_under_way}
use Rattle.subflow_send.specs.Sendings.{never_sent}
use Rattle.subflow_send.specs.declared.record.RecordKind.TheVariants.{Data}
use Rattle.subflow_tcp.specs.Sizes.{room}
use Rattle.subflow_tcp.specs.States.{is_closed_to_segments, may_finish}
use Rattle.subflow_tcp.specs.declared.handshake.State.{State as EndPhase}
use Rattle.subflow_tcp.specs.State.{EndState, is_at_limit}
use Rattle.world_laws.proofs.Rounds.GrantAtOneDuty.{AsksNone, asks_none}

-- where the state lets a FIN be sent the SYN is acknowledged
abbrev pub Acks : EndState → Type 0
Acks t = may_finish t.state ≡ true → 1 ≤ t.send.una

-- the path's next step sends this piece of a side, at this position
pub record SendsNext (s : Side) (position : ℕ) (piece : List ℕ) (p : PathState Carried) : Type 0 where
  pub record_of : Record
  pub sends : first_sends p.agenda p ≡ unsent_sends s (Some record_of)
  pub unsent : first_unsent (end_at s p) ≡ Some record_of
  pub position_is : record_of.pos ≡ position
  pub piece_is : record_of.piece ≡ piece

find_pushed : (rs : List Record) (r : Record) → find is_unsent rs ≡ None → is_unsent r ≡ true → find is_unsent (rs ++ r ∷ []) ≡ Some r
find_pushed [] r none unsent = ap (λ (b : Bool). if b then Some r else None) unsent
find_pushed (x ∷ rs) r none unsent = by (is_unsent x) none (find_pushed rs r)
  where
    by : (b : Bool) → (if b then Some x else find is_unsent rs) ≡ None → (find is_unsent rs ≡ None → is_unsent r ≡ true → find is_unsent (rs ++ r ∷ []) ≡ Some r)
        → (if b then Some x else find is_unsent (rs ++ r ∷ [])) ≡ Some r
    by true none rest = cc
    by false none rest = rest none unsent

module _ (c : Profile) (s : Side) (span : Span) (piece : List ℕ) (e : PathEnd) where
  -- the record of what was granted
  abbrev pushed : Record
  pushed = record { pos = e.tcp.send.nxt; kind = Data; piece = piece; mapping = mapping_of c s span.from e.tcp.send.nxt piece; sending = never_sent }

  abbrev then_granted : PathEnd
  then_granted = granted c s span piece e

  unsent_is : first_unsent e ≡ None → first_unsent then_granted ≡ Some pushed
  unsent_is none = find_pushed e.tcp.send.records pushed none refl

  same_room : room then_granted.tcp ≡ room e.tcp
  same_room = ap (λ (n : ℕ). e.tcp.congestion.reno.window - n) (sum_by_push (octets_under_way e.tcp.send.una) e.tcp.send.records pushed ∙ (let n = sum_by (octets_under_way e.tcp.send.una) e.tcp.send.records in omega arith))

  never_closed : (x : EndPhase) → may_finish x ≡ true → is_closed_to_segments x ≡ false
  never_closed EndPhase.Established may = refl
  never_closed EndPhase.CloseWait may = refl
  never_closed EndPhase.Waiting may = absurd (false≢true may)
  never_closed EndPhase.Listen may = absurd (false≢true may)
  never_closed EndPhase.Dead may = absurd (false≢true may)
  never_closed _ may = refl

  -- a granted piece may be sent at once
  data_goes : may_ask c s e ≡ true → Acks e.tcp → length piece ≤ payload_size c → first_unsent e ≡ None → data_stands c s then_granted (first_unsent then_granted) ≡ true
  data_goes asks acked short none =
      let first = and_parts (may_finish e.tcp.state) (nat_le (payload_size c) (room e.tcp) && (not (is_at_limit e.tcp) && may_send_data c s e)) asks in
      let second = and_parts (nat_le (payload_size c) (room e.tcp)) (not (is_at_limit e.tcp) && may_send_data c s e) first.1 in
      let within = leb-true (payload_size c) (room e.tcp) second.0 in
      let same = same_room in
      subst (λ (o : Option Record). data_stands c s then_granted o ≡ true) (sym (unsent_is none))
      (and_from (not (is_closed_to_segments e.tcp.state)) (nat_le 1 e.tcp.send.una && nat_le (length piece) (room then_granted.tcp)) (ap not (never_closed e.tcp.state first.0))
      (and_from (nat_le 1 e.tcp.send.una) (nat_le (length piece) (room then_granted.tcp)) (le-leb 1 e.tcp.send.una (acked first.0))
      (le-leb (length piece) (room then_granted.tcp) (omega (arith, short, within, same)))))

-- the reply to an ask for bytes
abbrev pub gives : Span → List ℕ → Reply
gives span piece = Reply.Send (SendReply.Granted span piece)

module _ (s : Side) (ds : List Duty) (span : Span) (piece : List ℕ) (p : PathState Carried) (agenda : p.agenda ≡ Duty.Step (StepDuty.Data s) ∷ ds) (none : first_unsent (end_at s p) ≡ None)
    (may : may_ask p.profile s (end_at s p) ≡ true) (acked : Acks (end_at s p).tcp) (short : length piece ≤ payload_size p.profile) where
  abbrev q : PathState Carried
  q = goes_on s (granted p.profile s span piece (end_at s p)) (Duty.Step (StepDuty.Data s) ∷ ds) p

  end_is : (s : Side) (e : PathEnd) (ds : List Duty) (p : PathState Carried) → end_at s (goes_on s e ds p) ≡ e
  end_is A e ds p = refl
  end_is B e ds p = refl

  profile_is : (s : Side) (e : PathEnd) (ds : List Duty) (p : PathState Carried) → (goes_on s e ds p).profile ≡ p.profile
  profile_is A e ds p = refl
  profile_is B e ds p = refl

  other_is : (s : Side) (e : PathEnd) (ds : List Duty) (p : PathState Carried) → end_at (peer s) (goes_on s e ds p) ≡ end_at (peer s) p
  other_is A e ds p = refl
  other_is B e ds p = refl

  stands_so : stands (Duty.Step (StepDuty.Data s)) q ≡ true
  stands_so =
      subst (λ (c : Profile). data_stands c s (end_at s q) (first_unsent (end_at s q)) ≡ true) (sym (profile_is s (granted p.profile s span piece (end_at s p)) (Duty.Step (StepDuty.Data s) ∷ ds) p))
      (subst (λ (e : PathEnd). data_stands p.profile s e (first_unsent e) ≡ true) (sym (end_is s (granted p.profile s span piece (end_at s p)) (Duty.Step (StepDuty.Data s) ∷ ds) p))
      (data_goes p.profile s span piece (end_at s p) may acked short none))

  taken_is : takes values (gives span piece) p ≡ with_agenda (Duty.Step (StepDuty.Data s) ∷ ds) q
  taken_is =
      ap (λ (todo : List Duty). settles_down (answers values todo (gives span piece) p)) agenda
      ∙ ap (λ (o : Option Record). settles_down (answered_data values s o (gives span piece) p)) none
      ∙ ap (λ (todo : List Duty). settled todo (goes_on s (granted p.profile s span piece (end_at s p)) todo p)) agenda
      ∙ ap (λ (b : Bool). if b then with_agenda (Duty.Step (StepDuty.Data s) ∷ ds) q else settled ds (passed (Duty.Step (StepDuty.Data s)) q)) stands_so

  first_is : first_unsent (end_at s q) ≡ Some (pushed p.profile s span piece (end_at s p))
  first_is =
      ap first_unsent (end_is s (granted p.profile s span piece (end_at s p)) (Duty.Step (StepDuty.Data s) ∷ ds) p) ∙ unsent_is p.profile s span piece (end_at s p) none

  agenda_end : (s : Side) (todo : List Duty) (x : PathState Carried) → end_at s (with_agenda todo x) ≡ end_at s x
  agenda_end A todo x = refl
  agenda_end B todo x = refl

  pub granted_next : SendsNext s (end_at s p).tcp.send.nxt piece (takes values (gives span piece) p)
  granted_next = subst (SendsNext s (end_at s p).tcp.send.nxt piece) (sym taken_is) (record {
    record_of = pushed p.profile s span piece (end_at s p);
    sends = ap (unsent_sends s) (ap first_unsent (agenda_end s (Duty.Step (StepDuty.Data s) ∷ ds) q) ∙ first_is);
    unsent = ap first_unsent (agenda_end s (Duty.Step (StepDuty.Data s) ∷ ds) q) ∙ first_is;
    position_is = refl;
    piece_is = refl;
  })

  pub granted_other : end_at (peer s) (takes values (gives span piece) p) ≡ end_at (peer s) p
  granted_other =
      ap (end_at (peer s)) taken_is ∙ agenda_end (peer s) (Duty.Step (StepDuty.Data s) ∷ ds) q
      ∙ other_is s (granted p.profile s span piece (end_at s p)) (Duty.Step (StepDuty.Data s) ∷ ds) p

-- ---- what asks for bytes

-- the duty of a path that asks for bytes
pub record AsksByData (s : Side) (path most : ℕ) (d : Duty) (p : PathState Carried) : Type 0 where
  pub duty : d ≡ Duty.Step (StepDuty.Data s)
  pub none : first_unsent (end_at s p) ≡ None
  pub path_is : path_of p ≡ path
  pub most_is : most ≡ payload_size p.profile

module _ (p : PathState Carried) (s : Side) (path most : ℕ) (standby : Bool) where
  abbrev Grant : Ask
  Grant = Ask.Send s (SendCall.Grant path most standby)

  data_asks : (t : Side) (o : Option Record) → first_unsent (end_at t p) ≡ o → data_ask values t o p ≡ Grant → AsksByData s path most (Duty.Step (StepDuty.Data t)) p
  data_asks t (Some r) first is = cc
  data_asks t None first is =
      let same : t ≡ s = cc in let size : payload_size p.profile ≡ most = cc in let number : path_of p ≡ path = cc in
      record {
        duty = ap (λ (r : Side). Duty.Step (StepDuty.Data r)) same;
        none = subst (λ (r : Side). first_unsent (end_at r p) ≡ None) same first;
        path_is = number;
        most_is = sym size;
      }

  pub duty_asks : (d : Duty) → ask_for values d p ≡ Grant → AsksByData s path most d p
  duty_asks (Duty.Step (StepDuty.Data t)) is = data_asks t (first_unsent (end_at t p)) refl is
  duty_asks d is = absurd (subst AsksNone is (asks_none values p d tt))
