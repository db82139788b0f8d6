-- A copy arrives at A: both lanes at its tick, as A sees them, and the segment that it carries.
--
-- An arrival has three parts: which copy it is, and both lanes at its tick (`proofs/ArrivesAtA`, `ArrivesAtB`); what
-- the end makes of it (`SynHeard`, `AnswerHeard`, `TakenOwn`); the world then (`SynArrived`, `AnswerArrived`,
-- `CopyArrived`).
use Rattle.clean_finish.proofs.Words.{◌≡◌, refl, sym, subst, ap, ◌∙◌, ℕ, ◌+◌, ◌<◌, ◌≤◌, max, false, inl, Option, List, [], ◌∷◌, ◌++◌, map, arith, A, B, Meaning}
use Rattle.clean_finish.proofs.Words.{meaning_of, Flight, going_to, due_of, meant, Duty, StepDuty, SixBooks, AppState, Carried, values, copy_of, copy_taken}
use Rattle.clean_finish.proofs.Words.{PathState, is_joined, Setting, Copy, Lane, all_left, Going, first_at, PathPlan, Start, Hand, brings_in, Sent, Keys}
use Rattle.clean_finish.proofs.Words.{BringsAs, copy_in, CountsAs, TellsAs, AcknowledgesAs, ShowsFirst, said, Follow, IsSetting, Runs, keys_in, Facing, half}
use Rattle.clean_finish.proofs.Words.{LinkIs}
use Rattle.clean_finish.proofs.Arriving.{AreFrom, way_from, FirstSent, first_sent, first_later, from_first, going_from, link_arrived}
use Rattle.clean_finish.proofs.CopyTaken.{arrived, heard_as, taken_is, told_is}
use Rattle.clean_finish.proofs.Moved.{moves_on}
use Rattle.clean_finish.proofs.Quiet.{now_out, now_back}

module _ (start : Start) (plan : PathPlan) (k j : Setting) (s v : Lane) (t0 u0 : ℕ)
    (going : Going k s t0 all_left s) (going_back : Going j v u0 all_left v)
  where
    abbrev pub keys : Keys
    keys = keys_in start

    module _ (a b : AppState) (books : SixBooks) (p : PathState Carried) (f : Flight Carried) (others : List (Flight Carried))
        (k_is : IsSetting p.profile plan.delay k) (j_is : IsSetting p.profile plan.delay j)
      where
        abbrev pub copy : Flight Carried
        copy = record f { to = A }

        -- as it stands before
        abbrev pub q : PathState Carried
        q = record p { link = record p.link { under_way = copy ∷ others }; agenda = (Duty.Step StepDuty.Events) ∷ Duty.End ∷ [] }

        abbrev pub tick : ℕ
        tick = max p.clock f.tick

        -- at its tick
        abbrev pub moment : PathState Carried
        moment = arrived f.tick others q

        module _ (h : Runs start plan k j s v a b books q) (early : f.tick < p.until) where
          pub first : FirstSent p.profile keys B copy (going_to A others) h.way_back.sent
          first = first_sent p.profile keys B copy (going_to A others) h.way_back.sent h.way_back.flights

          pub at_first : {x : Sent} {xs : List Sent} {copies : List Copy} → copies ≡ map copy_in (brings_in h.hand ++ h.way_back.sent)
              → h.way_back.sent ≡ x ∷ xs → copies ≡ map copy_in (x ∷ xs)
          at_first copies sent = copies ∙ (ap (λ (o : Option Hand). map copy_in (brings_in o ++ h.way_back.sent)) h.treats.0.0.none
              ∙ ap (λ (ys : List Sent). map copy_in ys) sent)

          pub later : p.clock ≤ f.tick
          later = subst (λ (n : ℕ). p.clock ≤ n) (sym first.flies.tick) (subst (λ (n : ℕ). n ≤ first.x.at) h.now_back.0
              (first_later h.back.clock (h.back.clock + j.delay) h.back.datas first.x first.xs (at_first h.way_back.datas_are first.is)
              (now_back plan.delay t0 u0 k_is j_is going going_back h.faces).under_way.datas_at))

          pub all_from : AreFrom tick (copy ∷ others)
          all_from = from_first p.clock copy others h.link.order later

          pub early_now : p.clock < p.until
          early_now = subst (λ (n : ℕ). n < p.until) h.now.0 (subst (λ (n : ℕ). h.out.clock < n) h.now.1
              (now_out plan.delay t0 u0 k_is j_is going going_back h.faces).round.early)

          pub before : tick < p.until
          before = most early_now early
            where
              most : {x y z : ℕ} → x < z → y < z → max x y < z
              most less more = omega (arith, less, more)

          pub up : (x y : ℕ) → x ≤ max x y
          up x y = omega arith

          pub under : {x y : ℕ} → x < y → x ≤ y
          under less = omega (arith, less)

          pub there : (tick ≤ first_at p.until h.out.datas) × (tick ≤ first_at p.until h.back.acks)
          there = way_from p.profile keys j k A h.out.sender h.out.receiver h.out.datas h.back.acks h.hand_back p.b.tcp.send.una p.a.tcp.recv.edge
              tick p.until (going_to B (copy ∷ others)) h.way h.treats.0.1.none (going_from tick B (copy ∷ others) all_from) (under before)

          pub here : (tick ≤ first_at p.until h.back.datas) × (tick ≤ first_at p.until h.out.acks)
          here = way_from p.profile keys k j B h.back.sender h.back.receiver h.back.datas h.out.acks h.hand p.a.tcp.send.una p.b.tcp.recv.edge
              tick p.until (going_to A (copy ∷ others)) h.way_back h.treats.0.0.none (going_from tick A (copy ∷ others) all_from) (under before)

          abbrev pub moved : Facing A keys k j p.profile s v (half A a books q) (half B b books q) tick p.until ((Duty.Step StepDuty.Events) ∷ Duty.End ∷ [])
          moved = moves_on ((Duty.Step StepDuty.Events) ∷ Duty.End ∷ []) h.faces tick (inl refl) (up p.clock f.tick) before there.0 here.1 here.0 there.1

          pub link : LinkIs tick (record p.link { under_way = others })
          link = link_arrived p.clock f.tick (record p.link { under_way = copy ∷ others }) copy others refl h.link

          -- the copy follows what came
          pub record Follows : Type 0 where
            pub low : first.x.low ≡ h.back.received
            pub counts : CountsAs h.back.control_came h.back.keys_came first.x.control first.x.keys first.x.brings
            pub tells : TellsAs k.least B first.x.window first.x.telling first.x.brings
            pub acknowledges : AcknowledgesAs k.total first.x
            pub shows : ShowsFirst B first.x
            pub brings : BringsAs j.total first.x.low first.x.edge first.x.brings

          pub follows : Follows
          follows = record { low = all.0; counts = all.1; tells = all.2; acknowledges = all.3.0; shows = all.3.1; brings = all.3.2 }
            where
              all : Follow k.least k.total j.total B h.back.received h.back.control_came h.back.keys_came (first.x ∷ first.xs)
              all = subst (λ (ys : List Sent). Follow k.least k.total j.total B h.back.received h.back.control_came h.back.keys_came ys) first.is
                  (subst (λ (o : Option Hand). Follow k.least k.total j.total B h.back.received h.back.control_came h.back.keys_came
                  (brings_in o ++ h.way_back.sent)) h.treats.0.0.none h.way_back.follow)

          -- taken as this, it makes this of the path
          pub comes_as : (meaning : Meaning) → meaning_of (copy_of (meant (said p.profile keys B first.x))) p.a.tcp ≡ meaning
              → copy_taken values (due_of copy) q ≡ heard_as A (meant (said p.profile keys B first.x)) meaning moment
          comes_as meaning is = taken_is A B (said p.profile keys B first.x) q copy others refl first.flies.carried refl mptcp
              ∙ told_is A (meant (said p.profile keys B first.x)) meaning moment opens is
            where
              mptcp : p.a.modes.identity ≡ false
              mptcp = h.own.modes.mapping.0

              opens : is_joined p.profile ≡ false
              opens = rw k_is.path refl
