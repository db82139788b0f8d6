-- In the trace of a run an end that sent a reset behind a SYN of B's sends resets alone.
use Rattle.std.proofs.Common.{◌≡◌, refl, sym, ap, ◌∙◌, subst, ℕ, zero, suc, ◌-◌, ◌<◌, arith, ⊎_elim, Bool, true, false, Option, Some, None, List, [], ◌∷◌, ◌++◌, length, length-append}
use Rattle.std.specs.List.{slice_get}
use Rattle.std.specs.Option.{option_to_list}
use Rattle.link_trace.specs.declared.sent.Sent.{Sent}
use Rattle.path_core.specs.Octets.{octets}
use Rattle.path_segments.specs.Spelled.{PlainSegment}
use Rattle.run_trace.specs.Trace.{sent_at, sent_next, trace_of}
use Rattle.sides.specs.declared.side.Side.TheVariants.{B}
use Rattle.sides.specs.declared.side.Side.{Side}
use Rattle.stream_lanes.proofs.Lists.{in_append}
use Rattle.world_laws.specs.Openings.{Start, opened_world, path_begins}
use Rattle.world_laws.specs.Promises.{HasRoom, NumbersFit}
use Rattle.world_laws.specs.Worlds.{Turn, WorldState, after_turn, world_run}
use Rattle.own_runs.specs.ResetsEnd.{EachResetEnds}
use Rattle.own_runs.proofs.AckMoments.{one_turn}
use Rattle.own_runs.proofs.InTime.{SynsAt, WasReset, WasSaid, turn_sending, was_more}
use Rattle.own_runs.proofs.Moments.{IsSpoken, world_speaks}
use Rattle.own_runs.proofs.TimeRuns.{OpensSo, opens_so}

-- ---- which turn sent it

pub record SentBy (w : WorldState (List ℕ)) (turns : List Turn) (i : ℕ) (x : Sent) : Type 0 where
  more : List Turn
  turn : Turn
  later : List Turn
  is : more ++ turn ∷ later ≡ turns
  front : length (trace_of more w) ≡ i
  sends : sent_at turn (world_run octets more w) ≡ x ∷ []

one_is : (o : Option Sent) (i : ℕ) (x : Sent) → slice_get (option_to_list o) i ≡ Some x → (option_to_list o ≡ x ∷ []) × (0 ≡ i)
one_is None i x is = cc
one_is (Some y) zero x is = (ap (λ (z : Sent). z ∷ []) (same is), refl)
  where
    same : {a b : Sent} → (let one : Option Sent = Some a in one) ≡ Some b → a ≡ b
    same e = cc
one_is (Some y) (suc i) x is = cc

turn_is : (turn : Turn) (w : WorldState (List ℕ)) (i : ℕ) (x : Sent) → slice_get (sent_at turn w) i ≡ Some x → (sent_at turn w ≡ x ∷ []) × (0 ≡ i)
turn_is (Turn.Step actor) w i x is = one_is (sent_next actor w) i x is
turn_is Turn.Round w i x is = cc

sent_by : (turns : List Turn) (w : WorldState (List ℕ)) (i : ℕ) (x : Sent) → slice_get (trace_of turns w) i ≡ Some x → SentBy w turns i x
sent_by [] w i x is = cc
sent_by (t ∷ turns) w i x is =
    ⊎_elim
    (λ here. (let now = turn_is t w i x here in record { more = []; turn = t; later = turns; is = refl; front = now.1; sends = now.0 }))
    (λ there. (let rest = sent_by turns (after_turn octets t w) (i - length (sent_at t w)) x there.1 in
    let low = there.0 in
    let front = rest.front in
    record {
      more = t ∷ rest.more;
      turn = rest.turn;
      later = rest.later;
      is = ap (λ (ts : List Turn). t ∷ ts) rest.is;
      front = omega (arith, low, front, length-append (sent_at t w) (trace_of rest.more (after_turn octets t w)));
      sends = rest.sends;
    }))
    (in_append (sent_at t w) (trace_of turns (after_turn octets t w)) i x is)

-- the turns before one that sent a later segment go over the earlier one
within : (xs us ys vs : List Turn) (t : Turn) (w : WorldState (List ℕ)) → xs ++ t ∷ ys ≡ us ++ vs → length (trace_of xs w) < length (trace_of us w) → (zs : List Turn) × (xs ++ t ∷ zs ≡ us)
within [] [] ys vs t w is low = absurd (omega (arith, low))
within [] (u ∷ us) ys vs t w is low = (us, ap (λ (x : Turn). x ∷ us) (head is))
  where
    head : {a b : Turn} {xs ys : List Turn} → (let one : List Turn = a ∷ xs in one) ≡ b ∷ ys → a ≡ b
    head e = cc
within (x ∷ xs) [] ys vs t w is low = absurd (omega (arith, low))
within (x ∷ xs) (u ∷ us) ys vs t w is low =
    let same : x ≡ u = head is in
    let less : length (trace_of (x ∷ xs) w) < length (trace_of (x ∷ us) w) = subst (λ (y : Turn). length (trace_of (x ∷ xs) w) < length (trace_of (y ∷ us) w)) (sym same) low in
    let first = length-append (sent_at x w) (trace_of xs (after_turn octets x w)) in
    let other = length-append (sent_at x w) (trace_of us (after_turn octets x w)) in
    let rest = within xs us ys vs t (after_turn octets x w) (tail is) (omega (arith, less, first, other)) in
    (rest.0, both same rest.1)
  where
    head : {a b : Turn} {xs ys : List Turn} → (let one : List Turn = a ∷ xs in one) ≡ b ∷ ys → a ≡ b
    head e = cc

    tail : {a b : Turn} {xs ys : List Turn} → (let one : List Turn = a ∷ xs in one) ≡ b ∷ ys → xs ≡ ys
    tail e = cc

    both : {a b : Turn} {xs ys : List Turn} → a ≡ b → xs ≡ ys → (let one : List Turn = a ∷ xs in one) ≡ b ∷ ys
    both {a} {b} {xs} {ys} x y = ap (λ (z : Turn). z ∷ xs) x ∙ ap (λ (zs : List Turn). b ∷ zs) y

-- ---- a run

module _ (start : Start) (turns : List Turn) (size : HasRoom start) (fit : NumbersFit start) where
  abbrev trace : List Sent
  trace = trace_of turns (opened_world start)

  abbrev By : ℕ → Sent → Type 0
  By i x = SentBy (opened_world start) turns i x

  abbrev world : List Turn → WorldState (List ℕ)
  world before = world_run octets before (opened_world start)

  abbrev Said : List Turn → Turn → ℕ → Side → PlainSegment → Type 0
  Said before turn path s sg = OpensSo start size fit before path s sg × (turn_sending turn (world before) ≡ Some (record { path = path; from = s; segment = sg }))

  by : (i : ℕ) (x : Sent) → slice_get trace i ≡ Some x → By i x
  by i x there = sent_by turns (opened_world start) i x there

  told : (i : ℕ) (x : Sent) (b : By i x) → IsSpoken (Said b.more b.turn) start x
  told i x b =
      ⊎_elim (λ none. absurd (never (sym none.0 ∙ b.sends))) (λ one. subst (IsSpoken (Said b.more b.turn) start) (same (sym one.1 ∙ b.sends)) one.2)
      (one_turn (OpensSo start size fit b.more) start b.turn (world b.more) (world_speaks start b.more size fit) (opens_so start size fit b.more))
    where
      never : (let none : List Sent = [] in none) ≡ x ∷ [] → ⊥
      never e = cc

      same : {y : Sent} → (let one : List Sent = y ∷ [] in one) ≡ x ∷ [] → y ≡ x
      same e = cc

  resets_end : (i k j : ℕ) (x z y : Sent) (a : By i x) (b : By k z) (c : By j y) → j < k → k < i → y.path ≡ x.path → y.from ≡ B → (told j y c).segment.syn ≡ true
      → z.path ≡ x.path → z.from ≡ x.from → (told k z b).segment.rst ≡ true → (told i x a).segment.rst ≡ true
  resets_end i k j x z y a b c first then y_path y_from syn z_path z_from rst = by_rst (told i x a).segment.rst refl
    where
      in_a : (zs : List Turn) × (b.more ++ b.turn ∷ zs ≡ a.more)
      in_a = let front_a = a.front in let front_b = b.front in
          within b.more a.more b.later (a.turn ∷ a.later) b.turn (opened_world start) (b.is ∙ sym a.is) (omega (arith, then, front_a, front_b))

      in_b : (zs : List Turn) × (c.more ++ c.turn ∷ zs ≡ b.more)
      in_b = let front_b = b.front in let front_c = c.front in
          within c.more b.more c.later (b.turn ∷ b.later) c.turn (opened_world start) (c.is ∙ sym b.is) (omega (arith, first, front_b, front_c))

      spoke : WasSaid start (SynsAt x.path) b.more
      spoke = record { more = c.more; turn = c.turn; later = in_b.0; is = in_b.1; said = record { path = y.path; from = y.from; segment = (told j y c).segment }; sends = (told j y c).also.1; holds = (y_path, y_from, syn) }

      fell : WasReset start x.path x.from a.more
      fell = record {
        more = b.more;
        turn = b.turn;
        later = in_a.0;
        is = in_a.1;
        said = record { path = z.path; from = z.from; segment = (told k z b).segment };
        sends = (told k z b).also.1;
        holds = (z_path, z_from, rst);
        begun = was_more start (SynsAt x.path) b.more b.turn spoke;
      }

      by_rst : (r : Bool) → (told i x a).segment.rst ≡ r → (told i x a).segment.rst ≡ true
      by_rst true is = is
      by_rst false none = absurd ((told i x a).also.0.living none fell)

pub each_reset_ends : EachResetEnds
each_reset_ends start turns size fit = record {
  segment = λ i x there. (told start turns size fit i x (by start turns size fit i x there)).segment;
  octets = λ i x there. let it = told start turns size fit i x (by start turns size fit i x there) in ((path_begins start x.path it.plan).profile.spelling, it.octets);
  ends = λ i k j x z y at_i at_k at_j first then y_path y_from syn z_path z_from rst.
      resets_end start turns size fit i k j x z y (by start turns size fit i x at_i) (by start turns size fit k z at_k) (by start turns size fit j y at_j) first then y_path y_from syn z_path z_from rst;
}
