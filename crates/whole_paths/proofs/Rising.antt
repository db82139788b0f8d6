-- An end goes further in the handshake by copies that come to it: each duty leaves its state before that, and so does each other event.
use Rattle.std.proofs.Common.{◌≡◌, refl, sym, subst, ap, ◌∙◌, ◌⊎◌, inl, inr, ⊎_elim, ℕ, ◌+◌, ◌≤◌, ◌<◌, arith, nat_le, Bool, true, false, true≢false, Option, Some, None, List, [], ◌∷◌}
use Rattle.path_segments.specs.Heard.{HeardSegment}
use Rattle.sides.specs.declared.side.Side.{Side}
use Rattle.sides.specs.declared.side.Side.TheVariants.{A, B}
use Rattle.link_model.specs.Steps.{arriving, after_delivery}
use Rattle.link_model.specs.declared.flight.Due.{Due}
use Rattle.subflow_tcp.specs.declared.handshake.State.TheVariants as phase
use Rattle.subflow_tcp.specs.declared.verdicts.Meaning.{Meaning}
use Rattle.subflow_tcp.specs.declared.verdicts.Meaning.TheVariants as means
use Rattle.subflow_tcp.specs.Judging.{meaning_of}
use Rattle.actor_desk.specs.declared.ask.Reply.{Reply}
use Rattle.path_agenda.specs.declared.duty.Duty.{Duty}
use Rattle.path_agenda.specs.declared.duty.Duty.TheVariants as duties
use Rattle.path_agenda.specs.declared.duty.SendDuty.TheVariants as send_duties
use Rattle.path_core.specs.Arrival.{judged_in, after_judged, copy_heard, heard_in, copy_of, copy_judged, reset_for}
use Rattle.path_core.specs.Codec.{Codec}
use Rattle.path_core.specs.DssIn.{held_of}
use Rattle.path_core.specs.Duties.{sent_for, answered}
use Rattle.path_core.specs.End.{PathEnd}
use Rattle.path_core.specs.Events.{next_event}
use Rattle.path_core.specs.Judged.{taken_as}
use Rattle.path_core.specs.MpJoin.{is_joined}
use Rattle.path_core.specs.OptionsIn.{items_of, options_heard}
use Rattle.path_core.specs.Profile.{Profile}
use Rattle.path_core.specs.State.{PathState, at_tick, end_at, goes_on}
use Rattle.path_core.specs.declared.events.Event.TheVariants as happenings
use Rattle.path_core.proofs.Judgements.{judged_taken}
use Rattle.world_laws.specs.declared.member.Member.TheVariants.{App, Path}
use Rattle.world_laws.specs.Actors.{Actor, member_takes, member_next}
use Rattle.world_laws.specs.StampedBooks.{answer_to}
use Rattle.world_laws.proofs.Whole.Ends.{MeansIs, means_so}
use Rattle.world_laws.proofs.Writes.Steps.{Lasts, settled_lasts}
use Rattle.subflow_tcp.specs.States.{is_dead, after_finish, after_fin_passed}
use Rattle.subflow_tcp.specs.Closing.{after_passing_fin}
use Rattle.subflow_tcp.specs.declared.handshake.State.{State}
use Rattle.path_core.specs.Steps.{begins_turn, next_round, takes}
use Rattle.path_core.specs.declared.judged.Judged.{Judged}
use Rattle.path_core.specs.declared.judged.Judged.TheVariants as judged
use Rattle.world_laws.proofs.Writes.Steps.{begins_lasts}
use Rattle.whole_paths.specs.AsFar.{stage}
use Rattle.std.proofs.lemmas.Bool.{leb-false, leb-true}
use Rattle.whole_paths.specs.Opening.{opens_to}
use Rattle.whole_paths.specs.Rising.{EndsOpen, EndsOpenByCopies, OpensBy}
use Rattle.whole_paths.specs.Rising.{OpensBy as opens_by}
use Rattle.whole_paths.proofs.StatesByDuties.{AllKept, Fate, answered_fate, at_end, by_event, ends, from_there, kept_lasts, side, stay}
use Rattle.whole_paths.proofs.Turns.{turn_each}

-- an end that isn't so far stays so, or is dead, and a dead one stays so
record Still (n : ℕ) (e f : PathEnd) : Type 0 where
  rests : stage e.tcp.state < n → (is_dead f.tcp.state ≡ true) ⊎ (stage f.tcp.state < n)
  dead : is_dead e.tcp.state ≡ true → is_dead f.tcp.state ≡ true

module _ (n : ℕ) (few : n ≤ 3) (some : 0 < n) where
  -- ---- an end

  same : (e f : PathEnd) → f.tcp.state ≡ e.tcp.state → Still n e f
  same e f is = record { rests = λ low. inr (let equal = ap stage is in omega (arith, equal, low)); dead = λ gone. ap is_dead is ∙ gone }

  gone : (e f : PathEnd) → is_dead f.tcp.state ≡ true → Still n e f
  gone e f is = record { rests = λ low. inl is; dead = λ was. is }

  still_then : (e f g : PathEnd) → Still n e f → Still n f g → Still n e g
  still_then e f g x y = record {
    rests = λ low. ⊎_elim
        (λ dead. inl (y.dead dead))
        (λ more. y.rests more)
        (x.rests low);
    dead = λ was. y.dead (x.dead was);
  }

  -- the FIN is sent, and passed, behind the handshake
  by_state : (e f : PathEnd) (after : State → State) → f.tcp.state ≡ after e.tcp.state → ((x : State) → stage x ≤ 2 → after x ≡ x) → ((x : State) → is_dead x ≡ true → after x ≡ x) → Still n e f
  by_state e f after is low dead = record {
    rests = λ below. inr (let equal = ap stage (is ∙ low e.tcp.state (omega (arith, below, few))) in omega (arith, equal, below));
    dead = λ was. ap is_dead (is ∙ dead e.tcp.state was) ∙ was;
  }

  finish_low : (x : State) → stage x ≤ 2 → after_finish x ≡ x
  finish_low phase.Established low = absurd (omega (arith, low))
  finish_low phase.CloseWait low = absurd (omega (arith, low))
  finish_low _ low = refl

  finish_dead : (x : State) → is_dead x ≡ true → after_finish x ≡ x
  finish_dead phase.Established dead = absurd (true≢false (sym dead))
  finish_dead phase.CloseWait dead = absurd (true≢false (sym dead))
  finish_dead _ dead = refl

  pass_low : (x : State) → stage x ≤ 2 → after_fin_passed x ≡ x
  pass_low phase.Established low = absurd (omega (arith, low))
  pass_low phase.FinWait1 low = absurd (omega (arith, low))
  pass_low phase.FinWait2 low = absurd (omega (arith, low))
  pass_low _ low = refl

  pass_dead : (x : State) → is_dead x ≡ true → after_fin_passed x ≡ x
  pass_dead phase.Established dead = absurd (true≢false (sym dead))
  pass_dead phase.FinWait1 dead = absurd (true≢false (sym dead))
  pass_dead phase.FinWait2 dead = absurd (true≢false (sym dead))
  pass_dead _ dead = refl

  passes_still : (e : PathEnd) → Still n e (record e { tcp = after_passing_fin e.tcp })
  passes_still e = by_state e _ after_fin_passed refl pass_low pass_dead

  low_then : (e f : PathEnd) → Still n e f → stage e.tcp.state < n → n ≤ stage f.tcp.state → is_dead f.tcp.state ≡ true
  low_then e f x low high = ⊎_elim (λ dead. dead) (λ rest. absurd (omega (arith, rest, high))) (x.rests low)

  -- ---- a copy

  abbrev opens : Meaning → Bool
  opens m = nat_le n (opens_to m)

  as_meaning : (v : Judged) → 0 < opens_to (taken_as v) → v ≡ judged.As (taken_as v)
  as_meaning (judged.As m) some = refl
  as_meaning judged.Asks some = absurd (omega (arith, some))
  as_meaning judged.Lacks some = absurd (omega (arith, some))
  as_meaning judged.Forged some = absurd (omega (arith, some))

  heard_still : (c : Profile) (s : Side) (now : ℕ) (h : HeardSegment) (e : PathEnd) (m : Meaning) → MeansIs (copy_of h) e.tcp m → opens m ≡ false → Still n e (copy_judged (is_joined c) (held_of c s h) (reset_for c s h) s now h m e)
  heard_still c s now h e means.Opens fits other = record { rests = λ low. inr (leb-false n 2 other); dead = λ dead. absurd (true≢false (sym dead ∙ ap is_dead fits.0)) }
  heard_still c s now h e (means.Accepts acknowledged) fits other = absurd (let above = leb-false n 3 other in omega (arith, above, few))
  heard_still c s now h e (means.Taken pos acknowledged) fits other = absurd (let above = leb-false n 3 other in omega (arith, above, few))
  heard_still c s now h e means.Kills fits other = gone e _ refl
  heard_still c s now h e _ fits other = same e _ refl

  module _ {C : Type 0} where
    abbrev AllStill : PathState C → PathState C → Type 0
    AllStill p q = AllKept (Still n) p q

    -- ---- events

    module _ (k : Codec C) where
      abbrev By : Side → PathState C → Type 0
      By s p = OpensBy k n s p

      same_end : (s : Side) (p q : PathState C) → q.a ≡ p.a → q.b ≡ p.b → end_at s q ≡ end_at s p
      same_end A p q a b = a
      same_end B p q a b = b

      -- the end at which no copy arrives
      other_end : (s t : Side) (p q : PathState C) (e : PathEnd) → q.a ≡ p.a → q.b ≡ p.b → (s ≡ t → OpensBy k n t p) → Fate (Still n) By t p (goes_on s e [] q)
      other_end A A p q e a b own = inr (own refl)
      other_end A B p q e a b own = inl (subst (λ f. Still n f q.b) b (same q.b q.b refl))
      other_end B A p q e a b own = inl (subst (λ f. Still n f q.a) a (same q.a q.a refl))
      other_end B B p q e a b own = inr (own refl)

      heard_fate : (due : Due) (others : List Duty) (p : PathState C) → p.agenda ≡ by_event ∷ others → next_event p ≡ Some (happenings.Arrives due) → (o : Option HeardSegment)
          → heard_in k due.to (arriving due p.link) p ≡ o → (t : Side) → Fate (Still n) By t p (copy_heard due.to o (record (at_tick due.tick p) { link = after_delivery due p.link }))
      heard_fate due others p first next None is t = let q : PathState C = record (at_tick due.tick p) { link = after_delivery due p.link } in ends (Still n) By p (copy_heard due.to None q) (from_there (Still n) p q (copy_heard due.to None q) refl refl (stay (Still n) same gone q (copy_heard due.to None q) refl refl)) t
      heard_fate due others p first next (Some heard) is t = by (opens m) refl
        where
          s : Side
          s = due.to

          q : PathState C
          q = record (at_tick due.tick p) { link = after_delivery due p.link }

          e : PathEnd
          e = end_at s q

          h : HeardSegment
          h = options_heard e heard

          v : Judged
          v = judged_in (is_joined q.profile) s h e

          m : Meaning
          m = taken_as v

          fits : MeansIs (copy_of h) e.tcp m
          fits = judged_taken h.rst (items_of (is_joined q.profile) s h) e (λ z. MeansIs (copy_of h) e.tcp z) tt (is_joined q.profile) (meaning_of (copy_of h) e.tcp) (means_so (copy_of h) e.tcp)

          by : (b : Bool) → opens m ≡ b → Fate (Still n) By t p (copy_heard s (Some heard) q)
          by false other = ends (Still n) By p (copy_heard s (Some heard) q) (from_there (Still n) p q (copy_heard s (Some heard) q) refl refl
              (side (Still n) same gone s (after_judged q.profile s q.clock h v e) q (copy_heard s (Some heard) q) (heard_still q.profile s q.clock h e m fits other) refl refl)) t
          by true opening = other_end s t p q (after_judged q.profile s q.clock h v e) refl refl
              (λ equal. let far = leb-true n (opens_to m) opening in opens_by.copy (record { others = others; first = first; due = due; next = next; segment = heard; heard = is }) equal m
              (subst (λ (f : PathEnd). judged_in (is_joined p.profile) s (options_heard f heard) f ≡ judged.As m) (same_end s p q refl refl) (as_meaning v (omega (arith, some, far)))) far)

      finishes : (s : Side) (others : List Duty) (p : PathState C) → p.agenda ≡ duties.Send (send_duties.Fin s) ∷ others → (t : Side) → Fate (Still n) By t p (sent_for k (send_duties.Fin s) p)
      finishes s others p first = ends (Still n) By p (sent_for k (send_duties.Fin s) p)
          (side (Still n) same gone s _ p (sent_for k (send_duties.Fin s) p) (by_state (end_at s p) _ after_finish refl finish_low finish_dead) refl refl)

      -- ---- a turn

      still_lasts : Lasts AllStill
      still_lasts = kept_lasts (Still n) same gone still_then passes_still

      opens_then : (s : Side) (p q r : PathState C) → Fate (Still n) By s p q → AllStill q r → stage (end_at s p).tcp.state < n → n ≤ stage (end_at s r).tcp.state
          → (is_dead (end_at s r).tcp.state ≡ true) ⊎ OpensBy k n s p
      opens_then s p q r (inl x) y low high = inl (low_then (end_at s p) (end_at s r) (still_then (end_at s p) (end_at s q) (end_at s r) x (at_end (Still n) y s)) low high)
      opens_then s p q r (inr x) y low high = inr x

      abbrev pub Opening : PathState C → PathState C → Type 0
      Opening p q = (s : Side) → stage (end_at s p).tcp.state < n → n ≤ stage (end_at s q).tcp.state → (is_dead (end_at s q).tcp.state ≡ true) ⊎ OpensBy k n s p

      pub takes_open : (r : Reply) (p : PathState C) → Opening p (takes k r p)
      takes_open r p s = by p.agenda
        where
          by : (ds : List Duty) → let x = record p { agenda = ds } in stage (end_at s x).tcp.state < n → n ≤ stage (end_at s (takes k r x)).tcp.state
              → (is_dead (end_at s (takes k r x)).tcp.state ≡ true) ⊎ OpensBy k n s x
          by [] low high = absurd (omega (arith, low, high))
          by (d ∷ ds) low high =
              let x : PathState C = record p { agenda = d ∷ ds } in
              let q : PathState C = answered k d r x in
              opens_then s x q (takes k r x) (answered_fate (Still n) same gone k By (λ t tick p next. opens_by.joins tick next) (λ t d others p first is. opens_by.duty d others first is) finishes heard_fate d ds r x refl s) (settled_lasts AllStill still_lasts q.agenda q) low high

      -- as a turn begins nothing comes
      pub begins_dead : (s : Side) (p : PathState C) → stage (end_at s p).tcp.state < n → n ≤ stage (end_at s (begins_turn p)).tcp.state → is_dead (end_at s (begins_turn p)).tcp.state ≡ true
      begins_dead s p low high = low_then (end_at s p) (end_at s (begins_turn p)) (at_end (Still n) (begins_lasts AllStill still_lasts p) s) low high

      pub next_dead : (s : Side) (p : PathState C) → stage (end_at s p).tcp.state < n → n ≤ stage (end_at s (next_round p)).tcp.state → is_dead (end_at s (next_round p)).tcp.state ≡ true
      next_dead s p low high =
          let q : PathState C = record p { clock = p.until; until = p.until + 100 } in
          low_then (end_at s p) (end_at s (next_round p)) (at_end (Still n) (from_there (Still n) p q (next_round p) refl refl (begins_lasts AllStill still_lasts q)) s) low high

      pub next_open : (p : PathState C) → Opening p (next_round p)
      next_open p s low high = inl (next_dead s p low high)

-- ---- the world

module _ {C : Type 0} (k : Codec C) where
  member_takes_open : (r : Reply) (m : Actor C) → EndsOpen k m (member_takes k r m)
  member_takes_open r (App a) = tt
  member_takes_open r (Path p) = λ n some few. takes_open n few some k r p

  member_begins : (m : Actor C) → EndsOpen k m (member_next m)
  member_begins (App a) = tt
  member_begins (Path p) = λ n some few. next_open n few some k p

  member_stays : (m : Actor C) → EndsOpen k m m
  member_stays (App a) = tt
  member_stays (Path p) = λ n some few s low high. absurd (omega (arith, low, high))

  pub ends_open_by_copies : EndsOpenByCopies k
  ends_open_by_copies w turn actor c there = turn_each k (λ c d. EndsOpen k c.member d.member) (λ c. member_stays c.member)
      (λ ask books c. member_takes_open (answer_to books ask) c.member) (λ stamp c over. member_begins c.member) turn w actor c there
