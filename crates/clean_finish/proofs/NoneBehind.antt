-- No byte comes behind a FIN.
use Rattle.clean_finish.proofs.Words.{◌≡◌, subst, ap, ◌∙◌, ℕ, ◌+◌, ◌<◌, ◌≤◌, min, Bool, true, ◌⊎◌, inl, inr, Option, List, ◌∷◌, ◌++◌, length, map, arith}
use Rattle.clean_finish.proofs.Words.{cases_lt, Side, Duty, Profile, Setting, Copy, Lane, all_left, Going, Chain, Hand, brings_in, Sent, Keys, copy_in}
use Rattle.clean_finish.proofs.Words.{octets_of, IsSetting, Facing, Half}
use Rattle.pace.proofs.Lists.{chain_le}
use Rattle.clean_finish.proofs.Hands.{in_hand}
use Rattle.clean_finish.proofs.Quiet.{now_back}

module _ {s : Side} {keys : Keys} {k j : Setting} {c : Profile} {begun begun_back : Lane} {m n : Half} {clock until : ℕ} (ticks t u : ℕ)
    (k_is : IsSetting c ticks k) (j_is : IsSetting c ticks j)
    (going : Going k begun t all_left begun) (going_back : Going j begun_back u all_left begun_back)
    {ds : List Duty} (g : Facing s keys k j c begun begun_back m n clock until ds)
    (x : Sent) (tells : Bool) (hand : g.hand ≡ in_hand x true tells)
  where
    pub lane : Going j begun_back u g.stage_back g.back
    lane = now_back ticks t u k_is j_is going going_back g

    pub chain : Chain g.back.received (copy_in x ∷ map copy_in g.way_back.sent) g.back.granted
    chain = subst (λ (cs : List Copy). Chain g.back.received cs g.back.granted)
        (g.way_back.datas_are ∙ ap (λ (o : Option Hand). map copy_in (brings_in o ++ g.way_back.sent)) hand) lane.under_way.chain

    pub high : x.low + length (octets_of x.brings) ≤ g.back.granted
    high = chain_le (x.low + length (octets_of x.brings)) g.back.granted (map copy_in g.way_back.sent) chain.2

    module _ (some : 1 ≤ length (octets_of x.brings)) where
      pub one_came : g.back.control_came ≤ 1
      one_came = by (cases_lt 1 g.back.control_came)
        where
          up : {a b : ℕ} → 1 < a → a ≤ b → 2 ≤ b
          up p q = omega (arith, p, q)

          none_behind : {total acked low l received granted written : ℕ} → total < acked → min acked total ≤ received → low ≡ received → low + l ≤ granted
              → granted ≤ written → written ≤ total → 1 ≤ l → ⊥
          none_behind a b e f p q r = absurd (omega (arith, a, b, e, f, p, q, r))

          by : (1 < g.back.control_came) ⊎ (g.back.control_came ≤ 1) → g.back.control_came ≤ 1
          by (inr one) = one
          by (inl two) = absurd (none_behind (g.other.sending.finish (up two lane.numbers.control)) lane.numbers.acked chain.0 high
              lane.numbers.granted lane.numbers.written some)
