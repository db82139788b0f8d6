-- Each Data ACK that an end takes counts.
use Rattle.std.proofs.Common.{◌≡◌, refl, sym, subst, ap, ◌∙◌, ◌⊎◌, inl, inr, ⊎_elim, ℕ, ◌+◌, ◌-◌, ◌^◌, ◌<◌, arith, min, Bool, true, false, true≢false, ◌||◌, if◌then◌else◌, Option, Some, None, is_none, List, [], ◌∷◌, ◌++◌, length, map}
use Rattle.std.specs.Prelude.{IsSome, option_map}
use Rattle.std.specs.List.{list_any, flat_map}
use Rattle.std.proofs.Math.Bool.{or-true}
use Rattle.std.proofs.Math.Nat.{le-max_right}
use Rattle.std.proofs.lemmas.Bool.{lt-ltb}
use Rattle.std.proofs.lemmas.List.Folds.{list_any-append}
use Rattle.std.proofs.lemmas.Option.{same_Some}
use Rattle.path_segments.specs.Heard.{HeardSegment}
use Rattle.path_segments.specs.Laws.{meant, meant_mapping, meant_option}
use Rattle.sides.specs.declared.side.Side.{Side}
use Rattle.path_store.specs.declared.infinite_mapping.InfiniteMapping.{InfiniteMapping}
use Rattle.send_book.specs.State as books
use Rattle.send_book.specs.State.{acked_len}
use Rattle.send_book.specs.Steps.{is_future, ack_reply, fin_after}
use Rattle.send_book.specs.declared.call.SendCall.{SendCall}
use Rattle.send_book.specs.declared.call.SendReply.TheVariants as send_replies
use Rattle.subflow_tcp.specs.declared.verdicts.Meaning.TheVariants as means
use Rattle.actor_desk.specs.declared.ask.Ask.{Ask}
use Rattle.actor_desk.specs.declared.ask.Note.{Note}
use Rattle.actor_desk.specs.declared.ask.Reply.{Reply}
use Rattle.actor_desk.specs.declared.ask.Reply.TheVariants as replies
use Rattle.actor_desk.specs.Books.{StampedBooks, books_in}
use Rattle.actor_desk.specs.Desk.{send_of}
use Rattle.actor_desk.specs.Words.{is_nil, pick}
use Rattle.path_agenda.specs.Agenda.{start_of_turn, copy_came}
use Rattle.path_agenda.specs.declared.duty.Duty.{Duty}
use Rattle.path_agenda.specs.declared.duty.Duty.TheVariants as duties
use Rattle.path_agenda.specs.declared.duty.StepDuty.TheVariants as step_duties
use Rattle.path_agenda.specs.declared.heard.Heard.{Heard}
use Rattle.path_agenda.specs.declared.heard.Heard.TheVariants as says
use Rattle.path_core.specs.Arrival.{after_judged, template_of}
use Rattle.path_core.specs.Choices.{item_at}
use Rattle.path_core.specs.Codec.{Codec}
use Rattle.path_core.specs.DataFin.{acked_in}
use Rattle.path_core.specs.DssIn.{with_acked, map_items}
use Rattle.path_core.specs.Duties.{stands, ask_for, passed, answered}
use Rattle.path_core.specs.End.{PathEnd}
use Rattle.path_core.specs.MpJoin.{is_joined}
use Rattle.path_core.specs.OptionsIn.{items_in, items_of, options_heard}
use Rattle.path_core.specs.Sending.{Sending}
use Rattle.path_core.specs.State.{PathState, end_at, with_agenda}
use Rattle.path_core.specs.Steps.{asks_of, settled, takes, next_round}
use Rattle.path_core.specs.Treating.{item_of, item_stands, item_ask, answered_item}
use Rattle.path_core.specs.declared.judged.Judged.{Judged}
use Rattle.path_core.specs.declared.judged.Judged.TheVariants as judged
use Rattle.world_laws.specs.declared.member.Member.TheVariants.{App, Path}
use Rattle.world_laws.specs.Actors.{Actor, member_asks, member_takes, member_next, is_over}
use Rattle.world_laws.specs.Outcomes.{was_told, note_tells}
use Rattle.world_laws.specs.Promises.{tells_refusal}
use Rattle.world_laws.specs.StampedBooks.{answer_to}
use Rattle.world_laws.specs.Worlds.{crew_after, note_of}
use Rattle.whole_paths.specs.AgendaSteps.{is_gone}
use Rattle.whole_paths.specs.AsFar.{IsStreamAsFar}
use Rattle.whole_paths.specs.Brought.{Brings, IsToReset}
use Rattle.whole_paths.specs.DataAcksHeard.{IsToHear, IsAckedUpTo, EachDataAckIsSaid, IsHeard, StaysHeard, IsPastTheEnd, HearsDataAcks, PathsHear, EachDataAckCounts}
use Rattle.whole_paths.specs.DataAcksHeard.{IsHeard as there}
use Rattle.whole_paths.specs.DataAcksHeard.{StaysHeard as stay}
use Rattle.whole_paths.proofs.Agendas.{own_end}
use Rattle.whole_paths.proofs.Bringing.{coming_by, comes_so, first_so}
use Rattle.whole_paths.proofs.Duties.{passed_steps, answered_steps}
use Rattle.whole_paths.proofs.Hears.{hear_passes, hear_answers, Hears, copy_hears}
use Rattle.whole_paths.proofs.Hears.Hears.{now, later, resets_then, dies}
use Rattle.whole_paths.proofs.Staying.{Rests, passed_rests, reset_stands}
use Rattle.whole_paths.proofs.Turns.{turn_by}
use Rattle.whole_paths.proofs.Waiting.{gone_stays, path_far}

-- ---- the own stream

acked_far : (next : ℕ) (fin : Bool) (v w : Sending) → IsStreamAsFar v w → IsAckedUpTo next fin v → IsAckedUpTo next fin w
acked_far next fin v w far h = record { heard = (let low = h.heard in let up = far.heard in omega (arith, low, up)); end = λ is. far.fin_acknowledged (h.end is) }

-- what the send book doesn't refuse counts
acks_so : (next : ℕ) (fin : Bool) (r : Reply) (v : Sending) (b : books.Sending) → r ≡ replies.Send (ack_reply next b) → (fin ≡ true → length b.written < next)
    → IsAckedUpTo next fin (acked_in next r v) ⊎ (tells_refusal r ≡ true)
acks_so next fin r v b is past = subst (λ r. IsAckedUpTo next fin (acked_in next r v) ⊎ (tells_refusal r ≡ true)) (sym is) (by (is_future next b))
  where
    by : (future : Bool) → let r : Reply = replies.Send (if future then send_replies.AckFuture (length b.written) else send_replies.Acked (min next (length b.written) - acked_len b.marks) (fin_after next b)) in
        IsAckedUpTo next fin (acked_in next r v) ⊎ (tells_refusal r ≡ true)
    by true = inr refl
    by false = inl (record {
      heard = le-max_right v.heard next;
      end = λ f. ap (λ c. v.close.own_acked || (b.fin || c)) (lt-ltb (length b.written) next (past f)) ∙ ap (λ c. v.close.own_acked || c) (or-true b.fin) ∙ or-true v.close.own_acked;
    })

told_so : (notes : List Note) (n : Note) → tells_refusal n.reply ≡ true → was_told tells_refusal (notes ++ n ∷ []) ≡ true
told_so notes n is =
    list_any-append (note_tells tells_refusal) notes (n ∷ []) ∙ ap (λ b. list_any (note_tells tells_refusal) notes || (b || false)) is ∙ or-true (list_any (note_tells tells_refusal) notes)

some_of : (o : Option InfiniteMapping) → is_none o ≡ false → IsSome o
some_of None is = absurd (true≢false is)
some_of (Some mapping) is = refl

-- ---- a segment

pub each_data_ack_is_said : EachDataAckIsSaid
each_data_ack_is_said x e joined s next mapping others is low mapped =
    let window = (meant x).window in
    ap (λ b. item_at 1 (flat_map (items_in joined s window) (if b then [] else map meant_option x.options))) mapped
    ∙ ap (λ os. item_at 1 (flat_map (items_in joined s window) (map meant_option os))) is
    ∙ ap (λ b. item_at 1 ((says.Dss ∷ ((if b then says.DataAck next window ∷ [] else []) ++ map_items (option_map meant_mapping mapping))) ++ flat_map (items_in joined s window) (map meant_option others))) (lt-ltb next (2 ^ 62) low)

-- ---- an end behind which these duties stand

-- Such a Data ACK counts, by what this says of the end; or it is still to be heard, with its window, one of which this is said.
pub data Now (s : Side) (Counts : PathEnd → Type 0) (Says : ℕ → ℕ → Type 0) (ds : List Duty) (e : PathEnd) : Type 0 where
  at_place : Counts e → Now s Counts Says ds e
  to_hear : (next window : ℕ) → Says next window → IsToHear s (says.DataAck next window) e.treated.items ds → Now s Counts Says ds e
  at_dead : is_gone e ≡ true → Now s Counts Says ds e
  resets_next : IsToReset s ds → Now s Counts Says ds e
  fallen : e.modes.identity ≡ true → Now s Counts Says ds e
  endless : IsSome e.modes.own_infinite → Now s Counts Says ds e

-- what counts stays so as the own stream goes on
abbrev pub CountsOn : (PathEnd → Type 0) → (PathEnd → Type 0) → Type 0
CountsOn Before After = (e f : PathEnd) → IsStreamAsFar e.sending f.sending → Before e → After f

-- where the duty comes to nothing that hears it, no Data ACK counts
quiet_so : (next window index : ℕ) (e : PathEnd) → item_at index e.treated.items ≡ Some (says.DataAck next window) → item_stands (item_of index e) e ≡ false
    → (e.modes.identity ≡ true) ⊎ IsSome e.modes.own_infinite
quiet_so next window index e at quiet = (elim e.modes.identity as
    (λ b. e.modes.identity ≡ b → item_stands (if b then None else item_at index e.treated.items) e ≡ false → (e.modes.identity ≡ true) ⊎ IsSome e.modes.own_infinite)
    [ true ↦ λ plain quiet. inl plain | false ↦ λ maps quiet. inr (some_of e.modes.own_infinite (subst (λ o. item_stands o e ≡ false) at quiet)) ]) refl quiet

module _ {C : Type 0} (s : Side) (Counts : PathEnd → Type 0) (Says : ℕ → ℕ → Type 0) (far : CountsOn Counts Counts) where
  abbrev Here : PathState C → Type 0
  Here q = Now s Counts Says q.agenda (end_at s q)

  -- ---- a duty that is passed

  pass_now : (d : Duty) (ds : List Duty) (p : PathState C) → stands d p ≡ false → Now s Counts Says (d ∷ ds) (end_at s p) → Now s Counts Says ds (end_at s (passed d p))
  pass_now d ds p quiet h = by h
    where
      q : PathState C
      q = passed d p

      x : Rests s (end_at s p) (end_at s q)
      x = passed_rests s d p

      heard : (next window : ℕ) → Says next window → Hears s (says.DataAck next window) (end_at s p) d (end_at s q) ds → Now s Counts Says ds (end_at s q)
      heard next window so (now index is at) = ⊎_elim
          (λ plain. fallen (x.plain ∙ plain))
          (λ some. endless (subst IsSome (sym x.infinite) some))
          (quiet_so next window index (end_at s p) at (subst (λ d. stands d p ≡ false) is quiet))
      heard next window so (later hear) = to_hear next window so hear
      heard next window so (resets_then is) = resets_next is
      heard next window so (dies is) = at_dead is

      by : Now s Counts Says (d ∷ ds) (end_at s p) → Now s Counts Says ds (end_at s q)
      by (at_place h) = at_place (far (end_at s p) (end_at s q) (path_far p q (passed_steps d p) s).stream h)
      by (to_hear next window so hear) = heard next window so (hear_passes s (says.DataAck next window) d ds p hear)
      by (at_dead is) = at_dead (gone_stays (end_at s p) (end_at s q) (path_far p q (passed_steps d p) s) is)
      by (resets_next is) = absurd (true≢false (sym (reset_stands s (d ∷ ds) p is) ∙ quiet))
      by (fallen is) = fallen (x.plain ∙ is)
      by (endless some) = endless (subst IsSome (sym x.infinite) some)

  pub settled_now : (ds : List Duty) (p : PathState C) → Now s Counts Says ds (end_at s p) → Here (settled ds p)
  settled_now [] p h = h
  settled_now (d ∷ ds) p h = by (stands d p) refl (λ quiet. settled_now ds (passed d p) (pass_now d ds p quiet h))
    where
      by : (b : Bool) → stands d p ≡ b → (stands d p ≡ false → Here (settled ds (passed d p))) → Here (if b then with_agenda (d ∷ ds) p else settled ds (passed d p))
      by true is rest = h
      by false is rest = rest is

-- ---- a copy comes that says so

module _ {C : Type 0} (Counts : PathEnd → Type 0) (Says : ℕ → ℕ → Type 0) (k : Codec C) (ds : List Duty) (r : Reply) (p : PathState C) (b : Brings k (with_agenda (duties.Step step_duties.Events ∷ ds) p))
    (index next window : ℕ) where
  abbrev taker : Side
  taker = b.copy.due.to

  abbrev own : PathEnd
  own = end_at taker p

  abbrev said : HeardSegment
  said = options_heard own b.copy.segment

  abbrev items : List Heard
  items = items_of (is_joined p.profile) taker said

  pub copy_now : Says next window → item_at index items ≡ Some (says.DataAck next window)
      → let q = answered k (duties.Step step_duties.Events) r (with_agenda (duties.Step step_duties.Events ∷ ds) p) in Now taker Counts Says q.agenda (end_at taker q)
  copy_now so at = comes_so (λ q. Now taker Counts Says q.agenda (end_at taker q)) k ds r p b.copy
      (subst (λ (verdict : Judged). Now taker Counts Says (template_of (is_joined p.profile) taker items verdict)
      (pick taker (pick taker (after_judged p.profile taker tick said verdict own) p.a) (pick taker p.b (after_judged p.profile taker tick said verdict own)))) (sym b.taken)
      (subst (λ f. Now taker Counts Says (copy_came taker (length items)) f) (sym (own_end taker taken p.a p.b)) (to_hear next window so (copy_hears taker (says.DataAck next window) items index at))))
    where
      tick : ℕ
      tick = (coming_by ds p b.copy).clock

      taken : PathEnd
      taken = after_judged p.profile taker tick said (judged.As (means.Taken b.position b.acknowledged)) own

-- ---- a duty that is answered, as the books answer what it asks

module _ {C : Type 0} (s : Side) (Before After : PathEnd → Type 0) (Says : ℕ → ℕ → Type 0) (far : CountsOn Before After) (k : Codec C) (x : Ask) (r : Reply) (ds : List Duty) (p : PathState C)
    (hears : (next window : ℕ) → Says next window → x ≡ Ask.Send s (SendCall.AckIn next window) → After (with_acked next r (end_at s p)) ⊎ (tells_refusal r ≡ true)) where
  abbrev from : Duty → PathState C
  from d = with_agenda (d ∷ ds) p

  -- or the book refuses it
  abbrev pub Then : PathState C → Type 0
  Then q = Now s After Says q.agenda (end_at s q) ⊎ (tells_refusal r ≡ true)

  heard_now : (next window index : ℕ) → Says next window → item_at index (end_at s p).treated.items ≡ Some (says.DataAck next window)
      → x ≡ item_ask k s (item_of index (end_at s p)) (from (duties.Step (step_duties.Heard s index))) → Then (answered_item k s (item_of index (end_at s p)) r (from (duties.Step (step_duties.Heard s index))))
  heard_now next window index so at is = (elim e.modes.identity as
      (λ b. e.modes.identity ≡ b → let o : Option Heard = if b then None else item_at index e.treated.items in x ≡ item_ask k s o behind → Then (answered_item k s o r behind)) [
        | true ↦ λ plain is. inl (fallen plain)
        | false ↦ λ maps is. subst (λ o. x ≡ item_ask k s o behind → Then (answered_item k s o r behind)) (sym at) taken is
      ]) refl is
    where
      e : PathEnd
      e = end_at s p

      behind : PathState C
      behind = from (duties.Step (step_duties.Heard s index))

      taken : x ≡ Ask.Send s (SendCall.AckIn next window) → Then (answered_item k s (Some (says.DataAck next window)) r behind)
      taken is = ⊎_elim
          (λ h. inl (at_place (subst After (sym (own_end s (with_acked next r e) p.a p.b)) h)))
          (λ refused. inr refused)
          (hears next window so is)

  pub hear_now : (next window : ℕ) → Says next window → (d : Duty) → x ≡ ask_for k d (from d) → IsToHear s (says.DataAck next window) (end_at s p).treated.items (d ∷ ds) → Then (answered k d r (from d))
  hear_now next window so d is hear = by (hear_answers k s (says.DataAck next window) d ds r p hear)
    where
      by : Hears s (says.DataAck next window) (end_at s p) d (end_at s (answered k d r (from d))) (answered k d r (from d)).agenda → Then (answered k d r (from d))
      by (now index first at) = subst (λ d. x ≡ ask_for k d (from d) → Then (answered k d r (from d))) (sym first) (heard_now next window index so at) is
      by (later hear) = inl (to_hear next window so hear)
      by (resets_then is) = inl (resets_next is)
      by (dies is) = inl (at_dead is)

  pub counts_now : (d : Duty) → Before (end_at s p) → Then (answered k d r (from d))
  counts_now d h = let q : PathState C = answered k d r (from d) in inl (at_place (far (end_at s p) (end_at s q) (path_far (from d) q (answered_steps k d r (from d)) s).stream h))

-- ---- a turn

module _ (s : Side) (next : ℕ) (fin : Bool) where
  abbrev IsAcked : PathEnd → Type 0
  IsAcked e = IsAckedUpTo next fin e.sending

  abbrev IsIt : ℕ → ℕ → Type 0
  IsIt told window = told ≡ next

  on_far : CountsOn IsAcked IsAcked
  on_far e f far h = acked_far next fin e.sending f.sending far h

  now_so : {C : Type 0} (steps : List Note) (q : PathState C) → Now s IsAcked IsIt q.agenda (end_at s q) → StaysHeard s next fin steps q
  now_so steps q (at_place h) = stay.on (there.counts h)
  now_so steps q (to_hear told window same hear) = stay.on (there.told window (subst (λ n. IsToHear s (says.DataAck n window) (end_at s q).treated.items q.agenda) same hear))
  now_so steps q (at_dead is) = stay.gone is
  now_so steps q (resets_next is) = stay.reset is
  now_so steps q (fallen is) = stay.plain is
  now_so steps q (endless some) = stay.infinite some

  settled_so : {C : Type 0} (steps : List Note) (ds : List Duty) (p : PathState C) → Now s IsAcked IsIt ds (end_at s p) → StaysHeard s next fin steps (settled ds p)
  settled_so steps ds p h = now_so steps (settled ds p) (settled_now s IsAcked IsIt on_far ds p h)

  module _ {C : Type 0} (k : Codec C) (six : StampedBooks) (x : Ask) (ds : List Duty) (p : PathState C) (past : IsPastTheEnd six s next fin) where
    hears_so : (told window : ℕ) → told ≡ next → x ≡ Ask.Send s (SendCall.AckIn told window) → IsAcked (with_acked told (answer_to six x) (end_at s p)) ⊎ (tells_refusal (answer_to six x) ≡ true)
    hears_so told window same is = subst (λ n. x ≡ Ask.Send s (SendCall.AckIn n window) → IsAcked (with_acked n (answer_to six x) (end_at s p)) ⊎ (tells_refusal (answer_to six x) ≡ true)) (sym same)
        (λ is. acks_so next fin (answer_to six x) (end_at s p).sending (send_of s (books_in six)) (ap (answer_to six) is) past) is

    there_now : (d : Duty) → x ≡ ask_for k d (with_agenda (d ∷ ds) p) → IsHeard s next fin (with_agenda (d ∷ ds) p)
        → let q : PathState C = answered k d (answer_to six x) (with_agenda (d ∷ ds) p) in Now s IsAcked IsIt q.agenda (end_at s q) ⊎ (tells_refusal (answer_to six x) ≡ true)
    there_now d is (there.counts h) = counts_now s IsAcked IsAcked IsIt on_far k x (answer_to six x) ds p hears_so d h
    there_now d is (there.told window hear) = hear_now s IsAcked IsAcked IsIt on_far k x (answer_to six x) ds p hears_so next window refl d is hear

module _ {C : Type 0} where
  module _ (k : Codec C) (six : StampedBooks) (steps : List Note) (x : Ask) (ds : List Duty) (p : PathState C) where
    abbrev r : Reply
    r = answer_to six x

    abbrev behind : Duty → PathState C
    behind d = with_agenda (d ∷ ds) p

    abbrev to : Duty → PathState C
    to d = answered k d r (behind d)

    abbrev Tells : (d : Duty) → Brings k (behind d) → Type 0
    Tells d b = (index next window : ℕ) (fin : Bool) → item_at index (items_of (is_joined p.profile) b.copy.due.to (options_heard (end_at b.copy.due.to p) b.copy.segment)) ≡ Some (says.DataAck next window)
        → (takes k r (behind d) ≡ behind d) ⊎ StaysHeard b.copy.due.to next fin steps (takes k r (behind d))

    tells : (b : Brings k (behind (duties.Step step_duties.Events))) → Tells (duties.Step step_duties.Events) b
    tells b index next window fin at =
        let d : Duty = duties.Step step_duties.Events in
        let t : Side = b.copy.due.to in
        inr (settled_so t next fin steps (to d).agenda (to d) (copy_now (IsAcked t next fin) (IsIt t next fin) k ds r p b index next window refl at))

    answer_hears : (d : Duty) → x ≡ ask_for k d (behind d) → (tells_refusal r ≡ true → was_told tells_refusal steps ≡ true) → HearsDataAcks k six steps (behind d) (takes k r (behind d))
    answer_hears d is refuses = record {
      tells = λ b. subst (λ d. (b : Brings k (behind d)) → Tells d b) (sym (first_so d (duties.Step step_duties.Events) ds b.copy.others b.copy.first)) tells b;
      stays = λ s next fin past h. ⊎_elim (λ done. settled_so s next fin steps (to d).agenda (to d) done) (λ refused. stay.refused (refuses refused)) (there_now s next fin k six x ds p past d is h);
    }

  path_stays : (k : Codec C) (six : StampedBooks) (steps : List Note) (p : PathState C) → HearsDataAcks k six steps p p
  path_stays k six steps p = record { tells = λ b index next window fin at. inl refl; stays = λ s next fin past h. stay.on h }

  takes_hears : (k : Codec C) (six : StampedBooks) (steps : List Note) (ask : Ask) (p : PathState C) → asks_of k p ≡ Some ask → (tells_refusal (answer_to six ask) ≡ true → was_told tells_refusal steps ≡ true)
      → HearsDataAcks k six steps p (takes k (answer_to six ask) p)
  takes_hears k six steps ask p asks refuses = by p.agenda asks
    where
      by : (ds : List Duty) → let x : PathState C = with_agenda ds p in asks_of k x ≡ Some ask → HearsDataAcks k six steps x (takes k (answer_to six ask) x)
      by [] asks = path_stays k six steps (with_agenda [] p)
      by (d ∷ ds) asks = answer_hears k six steps ask ds p d (sym (same_Some (ask_for k d (with_agenda (d ∷ ds) p)) ask asks)) refuses

  next_hears : (k : Codec C) (six : StampedBooks) (steps : List Note) (p : PathState C) → is_nil p.agenda ≡ true → HearsDataAcks k six steps p (next_round p)
  next_hears k six steps p over = record {
    tells = λ b index next window fin at. absurd (true≢false (sym over ∙ ap is_nil b.copy.first));
    stays = λ s next fin past h. settled_so s next fin steps start_of_turn (with_agenda start_of_turn (record p { clock = p.until; until = p.until + 100 })) (by s next fin h);
  }
    where
      idle : (s : Side) (item : Heard) (xs : List Heard) (ds : List Duty) → is_nil ds ≡ true → IsToHear s item xs ds → ⊥
      idle s item xs [] over hear = hear
      idle s item xs (d ∷ ds) over hear = true≢false (sym over)

      by : (s : Side) (next : ℕ) (fin : Bool) → IsHeard s next fin p → Now s (IsAcked s next fin) (IsIt s next fin) start_of_turn (end_at s p)
      by s next fin (there.counts h) = at_place h
      by s next fin (there.told window hear) = absurd (idle s (says.DataAck next window) (end_at s p).treated.items p.agenda over hear)

  -- ---- the world

  member_hears : (k : Codec C) (six : StampedBooks) (steps : List Note) (ask : Ask) (m : Actor C) → member_asks k m ≡ Some ask → (tells_refusal (answer_to six ask) ≡ true → was_told tells_refusal steps ≡ true)
      → PathsHear k six steps m (member_takes k (answer_to six ask) m)
  member_hears k six steps ask (App a) asks refuses = tt
  member_hears k six steps ask (Path p) asks refuses = takes_hears k six steps ask p asks refuses

  member_begins : (k : Codec C) (six : StampedBooks) (steps : List Note) (m : Actor C) → is_over m ≡ true → PathsHear k six steps m (member_next m)
  member_begins k six steps (App a) over = tt
  member_begins k six steps (Path p) over = next_hears k six steps p over

  member_stays : (k : Codec C) (six : StampedBooks) (steps : List Note) (m : Actor C) → PathsHear k six steps m m
  member_stays k six steps (App a) = tt
  member_stays k six steps (Path p) = path_stays k six steps p

  pub each_data_ack_counts : (k : Codec C) → EachDataAckCounts k
  each_data_ack_counts k = λ w turn. turn_by k (λ six c d. PathsHear k six d.list c.member d.member) (λ six c. member_stays k six c.list c.member)
      (λ six ask c asks. member_hears k six (crew_after k ask six c).list ask c.member asks (λ refused. told_so c.list (note_of six c.pass ask) refused))
      (λ six stamp c over. member_begins k six c.list c.member over) turn w
