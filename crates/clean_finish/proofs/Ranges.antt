-- The numbers of a clean script are in the ranges that `pace` assumes, and the bound has room for its rounds.
--
-- Side facts over numbers are lemmas with the numbers as arguments: `omega` beside a `Facing` reads all of its fields
-- and gives up. A number that only stands under `+` or `min` in what follows is an explicit argument.
use Rattle.clean_finish.proofs.Words.{◌≡◌, subst, ℕ, ◌+◌, ◌-◌, ◌≤◌, min, List, [], ◌∷◌, arith, Some, ◌*◌, ◌/◌, mul-le-mul_right, PathLine, IsInRange, IsPath}
use Rattle.clean_finish.proofs.Words.{ScriptLine, payload_of, segments, bound_of, enough_on, setting_of}
use Rattle.std.proofs.lemmas.Grind.{div_ceil_times}
use Rattle.link_script.specs.Ranges.{buffers}
use Rattle.pace.specs.Laws.{HasRanges}

pub in_ranges : (path : PathLine) (buffer length : ℕ) → IsPath path → IsInRange buffers buffer
    → HasRanges (setting_of path buffer length)
in_ranges path buffer length line sizes = record {
  delay = line.delay.most;
  payload = omega (arith, line.mss.least);
  fits = fits path.mss buffer (line.mss.least) (line.mss.most) sizes.least;
  least = omega arith;
  rto = omega arith;
}
  where
    fits : (mss n : ℕ) → 200 ≤ mss → mss ≤ 1460 → 4096 ≤ n → mss - 28 + (min n (4 * mss) + 1) / 2 + 31 ≤ min 65535 n
    fits mss n least most room = omega arith

-- a file goes in so many full segments as its length is divided into
pub in_segments : (mss length : ℕ) → 200 ≤ mss → length ≤ segments mss length * (mss - 28)
in_segments mss length least =
    let same : payload_of mss ≡ mss - 28 = omega (arith, least) in
    let times = (div_ceil_times length (payload_of mss) (omega (arith, least))).0 in
    subst (λ (payload : ℕ). length ≤ segments mss length * payload) same times

pub in_more : (n more payload length : ℕ) → length ≤ n * payload → n ≤ more → length ≤ more * payload
in_more n more payload length enough up = let product = mul-le-mul_right payload up in omega (arith, enough, product)

-- where a bound is told, it is that of the one path
pub bound_is : (paths : List PathLine) (lines : List ScriptLine) (path : PathLine) (a b rounds : ℕ) → paths ≡ path ∷ []
    → enough_on paths lines a b ≡ Some rounds → bound_of path.mss a b ≡ rounds
bound_is paths lines path a b rounds one told =
    by lines (subst (λ (ps : List PathLine). enough_on ps lines a b ≡ Some rounds) one told)
  where
    by : (ls : List ScriptLine) → enough_on (path ∷ []) ls a b ≡ Some rounds → bound_of path.mss a b ≡ rounds
    by [] e = cc
    by (l ∷ ls) e = cc
