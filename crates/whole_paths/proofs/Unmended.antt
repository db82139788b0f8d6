-- No more of a path's segments is to be mended than before, but one for each segment that is harmed.
use Rattle.std.proofs.Common.{◌≡◌, refl, sym, subst, ap, ◌∙◌, ◌⊎◌, inl, inr, ⊎_elim, ℕ, ◌+◌, ◌≤◌, arith, Bool, true, false, true≢false, Some, List, [], ◌∷◌, ◌++◌, length}
use Rattle.std.specs.List.{slice_get}
use Rattle.std.proofs.lemmas.Bool.{cases_lt}
use Rattle.sides.specs.declared.side.Side.{Side}
use Rattle.sides.specs.declared.side.Side.TheVariants.{A, B}
use Rattle.sides.specs.Side.{peer}
use Rattle.stream_lanes.specs.Words.{Has}
use Rattle.subflow_send.specs.Records.{Record}
use Rattle.path_core.specs.State.{PathState, end_at}
use Rattle.path_core.specs.Values.{Carried, values}
use Rattle.world_laws.specs.declared.member.Member.TheVariants.{Path}
use Rattle.world_laws.specs.Openings.{PathPlan, Start, opened_world}
use Rattle.world_laws.specs.RoundDone.{reached}
use Rattle.world_laws.specs.Worlds.{Turn, WorldState, after_turn}
use Rattle.whole_paths.specs.AsFar.{IsActorAsFar, IsPathAsFar}
use Rattle.whole_paths.specs.Courses.{harmed_so_far}
use Rattle.whole_paths.specs.Debts.{OwesOn}
use Rattle.whole_paths.specs.Finish.{harms_between, harms_of, is_harmed}
use Rattle.whole_paths.specs.Mending.{IsMended, IsOpenTurn, IsRecordOf, IsToldSoon, IsToldBy, IsWell}
use Rattle.whole_paths.specs.Mending.{IsToldSoon as told_soon}
use Rattle.whole_paths.specs.News.{one_if}
use Rattle.whole_paths.specs.OnePathScripts.{BeginsWithOnePath}
use Rattle.whole_paths.specs.ToldStays.{ToldStays}
use Rattle.whole_paths.specs.OpenCourses.{IsOpenAfter}
use Rattle.whole_paths.specs.Unmended.{DebtsGoOn, HarmsAloneAreOwed, LosesNoMore, Owes, OwesAt, OwesBy, OwesNoMore}
use Rattle.whole_paths.proofs.Arrivals.{sender_of}
use Rattle.whole_paths.proofs.Counted.{harmed_snoc}
use Rattle.whole_paths.proofs.FinPlaces.{FinsStay, FinsStayMember, fins_stay, still_past}
use Rattle.whole_paths.proofs.GoesOn.{goes_on_so}
use Rattle.whole_paths.proofs.OpenTurns.{now, with_both, begun}
use Rattle.whole_paths.proofs.Losing.{harms_alone_lose_records}
use Rattle.whole_paths.proofs.RecordWaits.{path_is}
use Rattle.whole_paths.proofs.RecordsWell.{each_record_stays_well}
use Rattle.whole_paths.proofs.ToldStays.{told_later, who_is_told_stays_told}
use Rattle.whole_paths.proofs.WindowRoom.{one_path_is_roomy}

-- ---- what the peer is told

module _ (s : Side) (p q : PathState Carried) (clock : p.clock ≤ q.clock) (loses : LosesNoMore s p q) (answers : ToldStays (peer s) p q)
    (edge_up : (t : Side) → (end_at t p).tcp.recv.edge ≤ (end_at t q).tcp.recv.edge) (fins : FinsStay p q) where
  abbrev told : PathState Carried → Type 0
  told x = IsToldSoon (peer s) x

  abbrev due_at : Side → PathState Carried → Bool
  due_at t x = (end_at t x).tcp.due.ack

  own : (x : PathState Carried) → end_at (peer (peer s)) x ≡ end_at s x
  own x = ap (λ t. end_at t x) (sender_of s)

  owed_at : due_at s q ≡ true → told q
  owed_at due = told_soon.owed (ap (λ e. e.tcp.due.ack) (own q) ∙ due)

  -- where the side owes no acknowledgement what is told stays so
  told_on : due_at s p ≡ false → told p → told q
  told_on none (told_soon.past_fin past) = told_soon.past_fin (still_past p q fins (peer (peer s)) (edge_up (peer (peer s))) past)
  told_on none (told_soon.owed due) = absurd (true≢false (sym due ∙ ap (λ e. e.tcp.due.ack) (own p) ∙ none))
  told_on none (told_soon.told h) = ⊎_elim
      (λ more. ⊎_elim (λ due. told_soon.owed due) (λ past. told_soon.past_fin past) (answers.more more))
      (λ few. told_soon.told (same_edge few))
      (cases_lt (end_at (peer (peer s)) p).tcp.recv.edge (end_at (peer (peer s)) q).tcp.recv.edge)
    where
      same_edge : (end_at (peer (peer s)) q).tcp.recv.edge ≤ (end_at (peer (peer s)) p).tcp.recv.edge → IsToldBy (peer s) (end_at (peer (peer s)) q).tcp.recv.edge (q.clock + 400) q
      same_edge few = lower (told_later (peer s) (end_at (peer (peer s)) p).tcp.recv.edge (p.clock + 400) (q.clock + 400) q (omega (arith, clock)) (answers.comes (end_at (peer (peer s)) p).tcp.recv.edge (p.clock + 400) h))
        where
          lower : IsToldBy (peer s) (end_at (peer (peer s)) p).tcp.recv.edge (q.clock + 400) q → IsToldBy (peer s) (end_at (peer (peer s)) q).tcp.recv.edge (q.clock + 400) q
          lower h = subst (λ n. IsToldBy (peer s) n (q.clock + 400) q) (let up = edge_up (peer (peer s)) in omega (arith, few, up)) h

  -- what is owed goes, or is harmed
  owed_on : due_at s p ≡ true → told q ⊎ (is_harmed s p q ≡ true)
  owed_on due = ⊎_elim
      (λ still. inl (told_soon.owed still))
      (λ x. ⊎_elim
      (λ past. inl (told_soon.past_fin past))
      (λ x. ⊎_elim
      (λ harmed. inr (subst (λ t. is_harmed t p q ≡ true) (sender_of s) harmed))
      (λ h. inl (told_soon.told (told_later (peer s) (end_at (peer (peer s)) q).tcp.recv.edge (p.clock + 400) (q.clock + 400) q (omega (arith, clock)) h)))
      x)
      x)
      (answers.owed (ap (λ e. e.tcp.due.ack) (own p) ∙ due))

  -- ---- both

  owes_on : (debts : ℕ) → OwesBy s debts p → OwesBy s (debts + one_if (is_harmed s p q)) q
  owes_on debts h = by (due_at s p) refl
    where
      by : (b : Bool) → due_at s p ≡ b → OwesBy s (debts + one_if (is_harmed s p q)) q
      by false none = record {
        lost = (loses.one_more h.lost h.well).0;
        well = (loses.one_more h.lost h.well).2;
        untold = h.untold;
        told = ⊎_elim (λ is. inl (told_on none is)) (λ one. inr one) h.told;
        few = (let few = h.few in let more = (loses.one_more h.lost h.well).1 in omega (arith, few, more));
      }
      by true due = ⊎_elim
          (λ is. record {
            lost = h.lost;
            well = loses.owing due h.lost h.well;
            untold = 0;
            told = inl is;
            few = (let few = h.few in omega (arith, few));
          })
          (λ harmed. record {
            lost = h.lost;
            well = loses.owing due h.lost h.well;
            untold = 1;
            told = inr refl;
            few = (let few = h.few in let one = ap one_if harmed in omega (arith, few, one));
          })
          (owed_on due)

  still_told : is_harmed s p q ≡ false → told p → told q
  still_told unharmed h = by (due_at s p) refl
    where
      by : (b : Bool) → due_at s p ≡ b → told q
      by false none = told_on none h
      by true due = ⊎_elim (λ is. is) (λ harmed. absurd (true≢false (sym harmed ∙ unharmed))) (owed_on due)

  pub owes_no_more : OwesNoMore s p q
  owes_no_more = record {
    owes = owes_on;
    told = still_told;
  }

-- ---- a turn of a connection

pub harms_alone_are_owed : HarmsAloneAreOwed
harms_alone_are_owed start plan turns turn one h s =
    owes_no_more s p q (each_record_stays_well start turns turn (begun start turns turn h) s).clock (harms_alone_lose_records start turns turn (begun start turns turn h) s) (who_is_told_stays_told start turns turn (one_path_is_roomy start plan one) (begun start turns turn h) (peer s)) edges fins
  where
    p : PathState Carried
    p = h.before.path

    q : PathState Carried
    q = h.after.path

    w : WorldState Carried
    w = reached values start turns

    far : IsPathAsFar p q
    far = with_both start turns turn h IsActorAsFar (let found = (goes_on_so values w (turn ∷ [])).crew 2 h.before.here.crew h.before.here.there in (found.0, found.1, found.2.member))

    fins : FinsStay p q
    fins = with_both start turns turn h FinsStayMember (fins_stay values w turn 2 h.before.here.crew h.before.here.there)

    edges : (t : Side) → (end_at t p).tcp.recv.edge ≤ (end_at t q).tcp.recv.edge
    edges = elim [ A ↦ far.a.subflow.received | B ↦ far.b.subflow.received ]

-- ---- debts

module _ (start : Start) (plan : PathPlan) (most : ℕ) (one : BeginsWithOnePath start plan) where
  owes_then : (turns : List Turn) (turn : Turn) (debts : ℕ) → IsOpenAfter start turns → IsOpenAfter start (turns ++ turn ∷ []) → Owes start debts turns
      → OwesOn start plan most (Owes start) debts turns (turns ++ turn ∷ [])
  owes_then turns turn debts before after h = record {
    now = debts + (one_if (is_harmed A before.path after.path) + one_if (is_harmed B before.path after.path));
    owes = record {
      path = after.path;
      here = after.here;
      owes = record {
        by_a = was.by_a + one_if (is_harmed A before.path after.path);
        by_b = was.by_b + one_if (is_harmed B before.path after.path);
        a = (harms_alone_are_owed start plan turns turn one open_turn A).owes was.by_a was.a;
        b = (harms_alone_are_owed start plan turns turn one open_turn B).owes was.by_b was.b;
        few = (let few = was.few in omega (arith, few));
      };
    };
    few = omega (arith, harmed_is);
  }
    where
      open_turn : IsOpenTurn start turns turn
      open_turn = record { mild = one.mild; before = before; after = after }

      was : OwesAt debts before.path
      was = subst (OwesAt debts) (path_is (reached values start turns) h.path before.path h.here before.here) h.owes

      w : WorldState Carried
      w = reached values start turns

      between : harms_of (slice_get w.crew 2) (slice_get (after_turn values turn w).crew 2) ≡ one_if (is_harmed A before.path after.path) + one_if (is_harmed B before.path after.path)
      between = ap (λ o. harms_of o (slice_get (after_turn values turn w).crew 2)) before.here.there ∙ ap (λ o. harms_of (Some before.here.crew) o) (now start turns turn open_turn)
          ∙ ap (λ m. harms_between m after.here.crew.member) before.here.is ∙ ap (λ m. harms_between (Path before.path) m) after.here.is

      harmed_is : harmed_so_far values start (turns ++ turn ∷ []) ≡ harmed_so_far values start turns + (one_if (is_harmed A before.path after.path) + one_if (is_harmed B before.path after.path))
      harmed_is = let is = harmed_snoc turns turn (opened_world start) in omega (arith, is, between)

pub debts_go_on : DebtsGoOn
debts_go_on start plan most debts turns later one (inl step) h =
    subst (λ t. OwesOn start plan most (Owes start) debts turns t) (sym step.is) (owes_then start plan most one turns (Turn.Step step.actor) debts step.before (subst (IsOpenAfter start) step.is step.after) h)
debts_go_on start plan most debts turns later one (inr step) h =
    subst (λ t. OwesOn start plan most (Owes start) debts turns t) (sym step.is) (owes_then start plan most one turns Turn.Round debts step.before (subst (IsOpenAfter start) step.is step.after) h)

-- ---- nothing is owed

empty : (ns : List ℕ) (i n : ℕ) → ns ≡ [] → slice_get ns i ≡ Some n → ⊥
empty [] i n is there = cc
empty (m ∷ ns) i n is there = cc

none_lost : (s : Side) (debts : ℕ) (p : PathState Carried) → debts ≡ 0 → OwesBy s debts p → (r : Record) → IsRecordOf (end_at s p) r → IsWell s p r
none_lost s debts p none h r has = ⊎_elim (λ is. is) (λ among. absurd (by h.lost among (let few = h.few in omega (arith, few, none)))) (h.well r has)
  where
    by : (lost : List ℕ) → Has (λ n. n ≡ r.pos) lost → length lost ≤ 0 → ⊥
    by [] among few = empty [] among.at among.item refl among.there
    by (n ∷ ns) among few = omega (arith, few)

all_told : (s : Side) (debts : ℕ) (p : PathState Carried) → debts ≡ 0 → OwesBy s debts p → IsToldSoon (peer s) p
all_told s debts p none h = ⊎_elim (λ is. is) (λ one. absurd (let few = h.few in omega (arith, few, none, one))) h.told

-- where nothing is owed nothing is to be mended
pub none_owed : (p : PathState Carried) → OwesAt 0 p → IsMended p
none_owed p h = record { records = λ s. record { each = λ i r there. well s r (record { at = i; item = r; there = there; holds = refl }) }; told = told }
  where
    well : (s : Side) (r : Record) → IsRecordOf (end_at s p) r → IsWell s p r
    well A = none_lost A h.by_a p (let few = h.few in omega (arith, few)) h.a
    well B = none_lost B h.by_b p (let few = h.few in omega (arith, few)) h.b

    told : (s : Side) → IsToldSoon s p
    told A = all_told B h.by_b p (let few = h.few in omega (arith, few)) h.b
    told B = all_told A h.by_a p (let few = h.few in omega (arith, few)) h.a
