-- A SYN that was sent isn't sent again, and B's goes out by its answer; and the turn of a path ends.
use Rattle.clean_finish.proofs.Words.{◌≡◌, refl, subst, ap, ◌∙◌, ℕ, ◌≤◌, Bool, true, false, ◌&&◌, ◌⊎◌, inl, inr, ⊎_elim, List, [], ◌∷◌, arith, is_some, find}
use Rattle.clean_finish.proofs.Words.{both_ways, cases_lt, Side, A, B, peer, Record, is_unsent, State, Duty, SendDuty, AskDuty, SixBooks, AppState, Profile}
use Rattle.clean_finish.proofs.Words.{Carried, PathEnd, PathState, with_agenda, first_unsent, is_syn_due, Setting, Lane, Sender, Receiver, PathPlan, Start}
use Rattle.clean_finish.proofs.Words.{IsPhase, Waits, WaitsSyn, WaitsNone, WaitsBytes, Keys, Runs, keys_in, Facing, Half, Has, HasNotBegun, Opening, Listening}
use Rattle.clean_finish.proofs.Words.{HalfOpen, Open}
use Rattle.subflow_tcp.specs.States.{is_opening}
use Rattle.clean_finish.proofs.Dropping.{differ, behind, IsApart, stage_drops, settles_drop}
use Rattle.clean_finish.proofs.Emitted.{first_waits}
use Rattle.clean_finish.proofs.Passing.{free_drops}
use Rattle.clean_finish.proofs.Plainly.{plain_on}
use Rattle.clean_finish.proofs.Turned.{from_a, from_b}

not_a : B ≡ A → ⊥
not_a e = cc

not_b : A ≡ B → ⊥
not_b e = cc

syns_differ : Duty.Send (SendDuty.Syn A) ≡ Duty.Send (SendDuty.Syn B) → ⊥
syns_differ e = cc

window_on : {x y : ℕ} (s q : Side) (ds : List Duty) → (x ≡ y) ⊎ Has (Duty.Ask (AskDuty.Window s)) (Duty.Send (SendDuty.Syn q) ∷ ds) → (x ≡ y) ⊎ Has (Duty.Ask (AskDuty.Window s)) ds
window_on s q ds (inl is) = inl is
window_on s q ds (inr there) = inr (behind ds (differ refl) there)

pub own_drops : {n : ℕ} (s : Side) (j : Setting) (out : Sender) (back : Receiver) (e : PathEnd) (ds : List Duty) → (s ≡ A → 1 ≤ n)
    → (1 ≤ n) ⊎ HasNotBegun s j out back e (Duty.Send (SendDuty.Syn s) ∷ ds) → (1 ≤ n) ⊎ HasNotBegun s j out back e ds
own_drops s j out back e ds sent (inl already) = inl already
own_drops A j out back e ds sent (inr none) = inl (sent refl)
own_drops B j out back e ds sent (inr none) = inr (record {
  ready = none.ready;
  received = none.received;
  data_fin = none.data_fin;
  keys = none.keys;
  told = none.told;
  next = none.next;
  window = window_on B B ds none.window;
  syn = λ is. absurd (not_a is);
})

pub other_drops : {n : ℕ} (s : Side) (k : Setting) (out : Sender) (back : Receiver) (e : PathEnd) (ds : List Duty)
    → (1 ≤ n) ⊎ HasNotBegun (peer s) k out back e (Duty.Send (SendDuty.Syn s) ∷ ds) → (1 ≤ n) ⊎ HasNotBegun (peer s) k out back e ds
other_drops s k out back e ds (inl already) = inl already
other_drops A k out back e ds (inr none) = inr (record {
  ready = none.ready;
  received = none.received;
  data_fin = none.data_fin;
  keys = none.keys;
  told = none.told;
  next = none.next;
  window = window_on B A ds none.window;
  syn = λ is. absurd (not_a is);
})
other_drops B k out back e ds (inr none) = inr (record {
  ready = none.ready;
  received = none.received;
  data_fin = none.data_fin;
  keys = none.keys;
  told = none.told;
  next = none.next;
  window = window_on A B ds none.window;
  syn = λ is. ((none.syn is).0, behind ds syns_differ (none.syn is).1);
})

pub others : (s : Side) → IsApart s (peer s) (Duty.Send (SendDuty.Syn s))
others s = record {
  window = differ refl;
  update = differ refl;
  emit = differ refl;
  finish = differ refl;
  wait = differ refl;
  syn_ack = differ refl;
  acknowledge = differ refl;
  ask = differ refl;
}

pub others_back : (s : Side) → IsApart (peer s) s (Duty.Send (SendDuty.Syn s))
others_back s = record {
  window = differ refl;
  update = differ refl;
  emit = differ refl;
  finish = differ refl;
  wait = differ refl;
  syn_ack = differ refl;
  acknowledge = differ refl;
  ask = differ refl;
}

module _ {s : Side} {keys : Keys} {k j : Setting} {c : Profile} {begun begun_back : Lane} {m n : Half} {clock until : ℕ} where
  abbrev pub syn_passes : (ds : List Duty) (h : Facing s keys k j c begun begun_back m n clock until (Duty.Send (SendDuty.Syn s) ∷ ds))
      → (s ≡ A → 1 ≤ h.out.control_sent) → Facing s keys k j c begun begun_back m n clock until ds
  syn_passes ds h sent = record {
    out = h.out;
    back = h.back;
    stage = h.stage;
    stage_back = h.stage_back;
    going = h.going;
    going_back = h.going_back;
    now = h.now;
    now_back = h.now_back;
    hand = h.hand;
    hand_back = h.hand_back;
    owes = h.owes;
    owes_back = h.owes_back;
    waiting = h.waiting;
    waiting_back = h.waiting_back;
    own = h.own;
    other = h.other;
    way = h.way;
    way_back = h.way_back;
    apps = h.apps;
    apps_back = h.apps_back;
    stages = stage_drops s (peer s) (Duty.Send (SendDuty.Syn s)) ds n.end.treated.asked h.owes_back h.stage (others s) h.stages;
    stages_back = stage_drops (peer s) s (Duty.Send (SendDuty.Syn s)) ds m.end.treated.asked h.owes h.stage_back (others_back s) h.stages_back;
    control = h.control;
    control_back = h.control_back;
    turn = h.turn;
    turn_back = h.turn_back;
    settles = settles_drop s (Duty.Send (SendDuty.Syn s)) ds m.end (differ refl) h.settles;
    settles_back = settles_drop (peer s) (Duty.Send (SendDuty.Syn s)) ds n.end (differ refl) h.settles_back;
    begins = own_drops s j h.out.sender h.back.receiver m.end ds sent h.begins;
    begins_back = other_drops s k h.back.sender h.out.receiver n.end ds h.begins_back;
    owed = h.owed;
    owed_back = h.owed_back;
  }

-- A's isn't due once it was sent
module _ {keys : Keys} {k j : Setting} {c : Profile} {begun begun_back : Lane} {m n : Half} {clock until : ℕ} {ds : List Duty}
    (h : Facing A keys k j c begun begun_back m n clock until (Duty.Send (SendDuty.Syn A) ∷ ds)) (not_due : is_syn_due m.end ≡ false)
  where
    not_both : {x : ℕ} → 1 ≤ x → x ≤ 0 → ⊥
    not_both one low = absurd (omega (arith, one, low))

    some_zero : {x : ℕ} → 1 ≤ x → x ≡ 0 → ⊥
    some_zero one is = absurd (omega (arith, one, is))

    one_low : {x : ℕ} → x ≡ 1 → x ≤ 0 → ⊥
    one_low one low = absurd (omega (arith, one, low))

    due_by : (rest : List Record) (waits : ℕ) → Waits k h.out.sender rest waits → h.out.control_sent ≤ 0 → is_some (find is_unsent rest) ≡ true
    due_by _ _ (WaitsSyn unsent) low = refl
    due_by _ _ (WaitsNone sent) low = absurd (not_both sent low)
    due_by _ _ (WaitsBytes sent r kind pos unsent some most edge) low = absurd (one_low sent low)

    waits_some : h.out.control_sent ≤ 0 → is_some (first_unsent m.end) ≡ true
    waits_some low =
        let r = h.own.subflow.records in
        ap (λ (rs : List Record). is_some (find is_unsent rs)) r.all ∙ (ap is_some (first_waits r.sent r.rest r.gone) ∙ due_by r.rest h.waiting r.waits low)

    due_then : (o q : Bool) → o ≡ true → q ≡ true → o && q ≡ true
    due_then o q a b = rw (a, b) refl

    by_phase : (came una : ℕ) (finished : Bool) (state : State) → IsPhase A came una finished state → came ≡ 0 → is_opening state ≡ true
    by_phase came una finished state (Opening side none low is) zero_came = ap is_opening is
    by_phase came una finished state (Listening side none low is) zero_came = absurd (not_b side)
    by_phase came una finished state (HalfOpen side one low is) zero_came = absurd (not_b side)
    by_phase came una finished state (Open some high is) zero_came = absurd (some_zero some zero_came)

    pub has_sent : 1 ≤ h.out.control_sent
    has_sent = ⊎_elim (λ sent. sent) (λ low. absurd (⊎_elim (λ sent. not_both sent low)
        (λ none. both_ways _ not_due (due_then _ _
        (by_phase h.back.control_came m.end.tcp.send.una m.end.tcp.send.finished m.end.tcp.state h.own.subflow.phase (none.syn refl).0)
        (waits_some low))) h.begins)) (cases_lt 0 h.out.control_sent)

module _ (start : Start) (plan : PathPlan) (k j : Setting) (s v : Lane) (a b : AppState) (books : SixBooks) (p : PathState Carried) (ds : List Duty)
  where
    abbrev keys : Keys
    keys = keys_in start

    abbrev Relation : List Duty → Type 0
    Relation es = Runs start plan k j s v a b books (with_agenda es p)

    pub passes_syn_a : is_syn_due p.a ≡ false → Relation (Duty.Send (SendDuty.Syn A) ∷ ds) → Relation ds
    passes_syn_a none h =
        let t = h.treats in
        record {
          path = h.path;
          link = h.link;
          faces = syn_passes ds h.faces (λ is. has_sent h.faces none);
          treats = plain_on keys _ _ ds t.0 t.1 t.2 t.5;
        }

    pub passes_syn_b : is_syn_due p.b ≡ false → Relation (Duty.Send (SendDuty.Syn B) ∷ ds) → Relation ds
    passes_syn_b none h =
        let t = h.treats in
        record {
          path = h.path;
          link = h.link;
          faces = from_b keys k j s v a b books (with_agenda ds p) (syn_passes ds (from_a keys k j s v a b books (with_agenda (Duty.Send (SendDuty.Syn B) ∷ ds) p) h.faces) (λ is. absurd (not_a is)));
          treats = plain_on keys _ _ ds t.0 t.1 t.2 t.5;
        }

    -- the end of the turn
    pub ends : Relation (Duty.End ∷ ds) → Relation []
    ends h =
        let t = h.treats in
        subst (λ (es : List Duty). Relation es) t.4 (record {
          path = h.path;
          link = h.link;
          faces = free_drops Duty.End ds refl h.faces;
          treats = plain_on keys _ _ ds t.0 t.1 t.2 t.5;
        })
