-- The events of a turn are over, and the turn ends.
use Rattle.clean_finish.proofs.Words.{◌≡◌, refl, sym, subst, ap, ◌∙◌, ℕ, ◌≤◌, nat_lt, Bool, true, false, if◌then◌else◌, inl, inr, ⊎_elim, Option, None, List}
use Rattle.clean_finish.proofs.Words.{[], ◌∷◌, ◌++◌, map, arith, Some, le_refl, is_some, nat_le, IfSome, both_ways, ltb-false, leb-false, AllByRecursion}
use Rattle.clean_finish.proofs.Words.{option_and_then, Side, A, B, peer, same_side, Flight, going_to, next_due, first_of_all, Duty, StepDuty, SixBooks}
use Rattle.clean_finish.proofs.Words.{AppState, Profile, Carried, PathState, with_agenda, tick_of, earlier, before, next_join, next_line, next_copy, next_event}
use Rattle.clean_finish.proofs.Words.{next_fire, Setting, Copy, Lane, Stage, Sender, Receiver, waits_no_more, first_at, PathPlan, Start, Hand, WayIs, brings_in}
use Rattle.clean_finish.proofs.Words.{tells_in, Sent, Keys, copy_in, FlyAs, Runs, keys_in, Facing, Half, StageIs}
use Rattle.path_core.specs.declared.events.Event.{Event}
use Rattle.clean_finish.proofs.Dropping.{differ, behind, behind_or, settles_drop, begun_drops}
use Rattle.clean_finish.proofs.Passing.{stands_then}
use Rattle.clean_finish.proofs.Plainly.{plain_on}

-- the stage of a turn in which nothing more arrives
pub wait_drops : (s r : Side) (ds : List Duty) (asked owes : Bool) (p : Stage)
    → StageIs s r ((Duty.Step StepDuty.Events) ∷ ds) asked owes p → StageIs s r ds asked owes (record p { wait = false })
wait_drops s r ds asked owes p is = record {
  window = behind_or ds (differ refl) is.window;
  update = behind_or ds (differ refl) is.update;
  emit = behind_or ds (differ refl) is.emit;
  finish = behind_or ds (differ refl) is.finish;
  wait = inl refl;
  tell = ⊎_elim (λ e. inl e) (λ a. inr (⊎_elim (λ i. inl (behind ds (differ refl) i)) (λ i. inr (behind ds (differ refl) i.0, i.1)) a)) is.tell;
  ask = ⊎_elim (λ e. inl e) (λ a. inr (⊎_elim (λ i. inl (behind ds (differ refl) i)) (λ i. inr (behind ds (differ refl) i.0, i.1)) a)) is.ask;
}

-- what isn't before a tick comes later
late : (until : ℕ) (x : Event) → before until x ≡ None → until ≤ tick_of x
late until x none = ltb-false (tick_of x) until (by (nat_lt (tick_of x) until) none)
  where
    by : (b : Bool) → (if b then Some x else None) ≡ None → b ≡ false
    by false e = refl
    by true e = cc

first_late : (until : ℕ) (o rest : Option Event) → option_and_then (before until) (earlier o rest) ≡ None
    → IfSome o (λ x. until ≤ tick_of x)
first_late until None rest none = tt
first_late until (Some x) None none = late until x none
first_late until (Some x) (Some y) none = by (nat_le (tick_of x) (tick_of y)) refl none
  where
    by : (b : Bool) → nat_le (tick_of x) (tick_of y) ≡ b → option_and_then (before until) (if b then Some x else Some y) ≡ None
        → until ≤ tick_of x
    by true is none = late until x none
    by false is none = let far = late until y none in let less = leb-false (tick_of x) (tick_of y) is in omega (arith, far, less)

abbrev AreLate : ℕ → List (Flight Carried) → Type 0
AreLate until flights = AllByRecursion (λ (f : Flight Carried). until ≤ f.tick) flights

later_all : (until tick : ℕ) (flights : List (Flight Carried)) → until ≤ tick → AllByRecursion (λ (f : Flight Carried). tick ≤ f.tick) flights
    → AreLate until flights
later_all until tick [] low all = tt
later_all until tick (f ∷ flights) low all = (up low all.0, later_all until tick flights low all.1)
  where
    up : {x y z : ℕ} → x ≤ y → y ≤ z → x ≤ z
    up a b = omega (arith, a, b)

pub some_late : (until : ℕ) (to : Side) (flights : List (Flight Carried)) → AreLate until flights → AreLate until (going_to to flights)
some_late until to [] all = tt
some_late until to (f ∷ flights) all = by (same_side f.to to) (some_late until to flights all.1)
  where
    by : (goes : Bool) → AreLate until (going_to to flights) → AreLate until (if goes then f ∷ going_to to flights else going_to to flights)
    by true rest = (all.0, rest)
    by false rest = rest

copies_late : (c : Profile) (keys : Keys) (from : Side) (until : ℕ) (flights : List (Flight Carried)) (sent : List Sent)
    → FlyAs c keys from flights sent → AreLate until flights → until ≤ first_at until (map copy_in sent)
copies_late c keys from until [] [] fly all = le_refl until
copies_late c keys from until (f ∷ fs) (x ∷ xs) fly all = subst (λ (n : ℕ). until ≤ n) fly.0.tick all.0
copies_late c keys from until [] (x ∷ xs) fly all = absurd fly
copies_late c keys from until (f ∷ fs) [] fly all = absurd fly

way_late : (c : Profile) (keys : Keys) (j k : Setting) (from : Side) (out : Sender) (other : Receiver) (datas acks : List Copy) (hand : Option Hand)
    (una edge until : ℕ) (flying : List (Flight Carried)) → WayIs c keys j k from out other datas acks hand una edge flying → hand ≡ None
    → AreLate until flying → (until ≤ first_at until datas) × (until ≤ first_at until acks)
way_late c keys j k from out other datas acks hand una edge until flying w none all = (
  subst (λ (xs : List Copy). until ≤ first_at until xs)
      (sym (w.datas_are ∙ ap (λ (o : Option Hand). map copy_in (brings_in o ++ w.sent)) none))
      (copies_late c keys from until flying w.sent w.flights all),
  subst (λ (xs : List Copy). until ≤ first_at until xs)
      (sym (w.acks_are ∙ ap (λ (o : Option Hand). map copy_in (tells_in o ++ w.sent)) none))
      (copies_late c keys from until flying w.sent w.flights all),
)

module _ {s : Side} {keys : Keys} {k j : Setting} {c : Profile} {begun begun_back : Lane} {m n : Half} {clock until : ℕ} where
  abbrev pub events_pass : (ds : List Duty) (h : Facing s keys k j c begun begun_back m n clock until ((Duty.Step StepDuty.Events) ∷ ds))
      → h.out.until ≤ first_at h.out.until h.out.datas → h.out.until ≤ first_at h.out.until h.out.acks
      → h.back.until ≤ first_at h.back.until h.back.datas → h.back.until ≤ first_at h.back.until h.back.acks
      → Facing s keys k j c begun begun_back m n clock until ds
  events_pass ds h datas acks datas_back acks_back = record {
    out = h.out;
    back = h.back;
    stage = record h.stage { wait = false };
    stage_back = record h.stage_back { wait = false };
    going = stands_then h.going (record h.stage { wait = false }) h.out (waits_no_more datas acks);
    going_back = stands_then h.going_back (record h.stage_back { wait = false }) h.back (waits_no_more datas_back acks_back);
    now = h.now;
    now_back = h.now_back;
    hand = h.hand;
    hand_back = h.hand_back;
    owes = h.owes;
    owes_back = h.owes_back;
    waiting = h.waiting;
    waiting_back = h.waiting_back;
    own = h.own;
    other = h.other;
    way = h.way;
    way_back = h.way_back;
    apps = h.apps;
    apps_back = h.apps_back;
    stages = wait_drops s (peer s) ds n.end.treated.asked h.owes_back h.stage h.stages;
    stages_back = wait_drops (peer s) s ds m.end.treated.asked h.owes h.stage_back h.stages_back;
    control = h.control;
    control_back = h.control_back;
    turn = h.turn;
    turn_back = h.turn_back;
    settles = settles_drop s (Duty.Step StepDuty.Events) ds m.end (differ refl) h.settles;
    settles_back = settles_drop (peer s) (Duty.Step StepDuty.Events) ds n.end (differ refl) h.settles_back;
    begins = begun_drops s j h.out.sender h.back.receiver m.end (Duty.Step StepDuty.Events) ds (differ refl) (λ is. differ refl) h.begins;
    begins_back = begun_drops (peer s) k h.back.sender h.out.receiver n.end (Duty.Step StepDuty.Events) ds (differ refl) (λ is. differ refl) h.begins_back;
    owed = h.owed;
    owed_back = h.owed_back;
  }

none_of : (o : Option Event) → is_some o ≡ false → o ≡ None
none_of None e = refl
none_of (Some x) e = absurd (both_ways _ e refl)

module _ (start : Start) (plan : PathPlan) (k j : Setting) (s v : Lane) (a b : AppState) (books : SixBooks) (p : PathState Carried) (ds : List Duty)
  where
    abbrev keys : Keys
    keys = keys_in start

    abbrev Relation : List Duty → Type 0
    Relation es = Runs start plan k j s v a b books (with_agenda es p)

    all_late : Relation ((Duty.Step StepDuty.Events) ∷ ds) → is_some (next_event p) ≡ false → AreLate p.until p.link.under_way
    all_late h none = by p.link.under_way (first_of_all p.link.under_way h.link.order) copy
      where
        timers : Option Event
        timers = earlier (next_fire A p.a.tcp.timing.timer) (next_fire B p.b.tcp.timing.timer)

        copy : IfSome (next_copy (next_due p.link.under_way)) (λ x. p.until ≤ tick_of x)
        copy = first_late p.until (next_copy (next_due p.link.under_way)) timers
            (subst (λ (o : Option ℕ). option_and_then (before p.until)
            (earlier (next_join p.a.tcp.state o) (earlier (next_copy (next_due p.link.under_way)) timers)) ≡ None) h.path.joined
            (subst (λ (ls : List _). option_and_then (before p.until) (earlier (next_join p.a.tcp.state p.joined_at)
            (earlier (next_line ls) (earlier (next_copy (next_due p.link.under_way)) timers))) ≡ None) h.path.lines
            (none_of (next_event p) none)))

        by : (flights : List (Flight Carried)) → IfSome (next_due flights) (λ due. AllByRecursion (λ (g : Flight Carried). due.tick ≤ g.tick) flights)
            → IfSome (next_copy (next_due flights)) (λ x. p.until ≤ tick_of x) → AreLate p.until flights
        by [] first low = tt
        by (f ∷ flights) first low = later_all p.until f.tick (f ∷ flights) low first

    pub passes_events : is_some (next_event p) ≡ false → Relation ((Duty.Step StepDuty.Events) ∷ ds) → Relation ds
    passes_events none h =
        let t = h.treats in
        let late_ones = all_late h none in
        let there = way_late p.profile keys j k A h.out.sender h.out.receiver h.out.datas h.back.acks h.hand_back p.b.tcp.send.una
        p.a.tcp.recv.edge p.until (going_to B p.link.under_way) h.way t.0.1.none (some_late p.until B p.link.under_way late_ones) in
        let here = way_late p.profile keys k j B h.back.sender h.back.receiver h.back.datas h.out.acks h.hand p.a.tcp.send.una
        p.b.tcp.recv.edge p.until (going_to A p.link.under_way) h.way_back t.0.0.none (some_late p.until A p.link.under_way late_ones) in
        record {
          path = h.path;
          link = h.link;
          faces = events_pass ds h.faces (at h.out.datas h.now.1 there.0) (at h.out.acks h.now.1 here.1) (at h.back.datas h.now_back.1 here.0)
              (at h.back.acks h.now_back.1 there.1);
          treats = plain_on keys _ _ ds t.0 t.1 t.2 t.5;
        }
      where
        at : {x y : ℕ} (copies : List Copy) → x ≡ y → y ≤ first_at y copies → x ≤ first_at x copies
        at copies same low = subst (λ (n : ℕ). n ≤ first_at n copies) (sym same) low
