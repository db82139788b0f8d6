-- The numbers with which a connection by a clean script begins.
use Rattle.clean_finish.proofs.Words.{◌≡◌, refl, ap, ◌∙◌, ℕ, ◌+◌, ◌-◌, ◌≤◌, min, Bool, true, false, if◌then◌else◌, List, [], ◌∷◌, length, arith, Some, nat_le}
use Rattle.clean_finish.proofs.Words.{◌*◌, ◌/◌, leb-false, All-head, PathLine, IsPath, ScriptLine, PathPlan, Start, path_begins, start_of, plan_of, IsSetting}
use Rattle.clean_finish.proofs.Words.{enough_on, setting_of}
use Rattle.link_script.specs.declared.script.Script.{Script}
use Rattle.link_script.specs.Scripts.{HasRanges}
use Rattle.reno_window.specs.Rules.{initial_window}
use Rattle.world_laws.specs.PlainScripts.{IsShortScript}
use Rattle.clean_finish.proofs.Ranges.{in_ranges}

-- where a bound is told there is one path, and no line
pub record IsClean (paths : List PathLine) (lines : List ScriptLine) : Type 0 where
  pub path : PathLine
  pub one : paths ≡ path ∷ []
  pub none : lines ≡ []

pub clean_is : (paths : List PathLine) (lines : List ScriptLine) (a b rounds : ℕ) → enough_on paths lines a b ≡ Some rounds → IsClean paths lines
clean_is [] lines a b rounds told = cc
clean_is (path ∷ []) [] a b rounds told = record { path = path; one = refl; none = refl }
clean_is (path ∷ []) (line ∷ lines) a b rounds told = cc
clean_is (path ∷ other ∷ paths) lines a b rounds told = cc

abbrev pub clean_script : Script → PathLine → Script
clean_script script path = record script { paths = path ∷ []; lines = [] }

pub clean_same : (script : Script) (path : PathLine) → script.paths ≡ path ∷ [] → script.lines ≡ [] → script ≡ clean_script script path
clean_same script path one none =
    ap (λ (paths : List PathLine). record script { paths = paths }) one
    ∙ ap (λ (lines : List ScriptLine). record script { paths = path ∷ []; lines = lines }) none

-- the congestion window begins with three segments or four
pub first_window : (mss : ℕ) → mss ≤ 1460 → (3 * mss ≤ initial_window mss) × (initial_window mss ≤ 4 * mss)
first_window mss most = by (nat_le mss 1095) (nat_le mss 2190) refl
  where
    by : (small middle : Bool) → nat_le mss 2190 ≡ middle
        → (3 * mss ≤ (if small then 4 else (if middle then 3 else 2)) * mss) × ((if small then 4 else (if middle then 3 else 2)) * mss ≤ 4 * mss)
    by true middle is = (omega arith, omega arith)
    by false true is = (omega arith, omega arith)
    by false false is = let large = leb-false mss 2190 is in absurd (omega (arith, large, most))

abbrev pub clean_start : Script → PathLine → List ℕ → List ℕ → Start
clean_start script path file_a file_b = start_of (clean_script script path) file_a file_b

abbrev pub clean_plan : Script → PathLine → PathPlan
clean_plan script path = plan_of (clean_script script path) 0 path

-- the congestion window at first, less a payload
abbrev pub first_room : ℕ → ℕ
first_room mss = initial_window mss - (mss - 28)

module _ (script : Script) (path : PathLine) (ranges : HasRanges (clean_script script path)) where
  line : IsPath path
  line = All-head IsPath path [] ranges.paths

  pub room : (path.mss - 28) + first_room path.mss ≤ initial_window path.mss
  room = let first = first_window path.mss line.mss.most in omega (arith, first.0)

  pub window_most : initial_window path.mss ≤ 1048576
  window_most = let first = first_window path.mss line.mss.most in let most = line.mss.most in omega (arith, first.1, most)

  pub wide : (path.mss - 28) + (path.mss - 28) ≤ first_room path.mss
  wide = let first = first_window path.mss line.mss.most in omega (arith, first.0)

  pub two : 2 * path.mss ≤ first_room path.mss
  two = let first = first_window path.mss line.mss.most in let least = line.mss.least in omega (arith, first.0, least)

  pub setting_is : (file_a file_b : List ℕ) (length : ℕ) → length ≤ 16777216
      → IsSetting (path_begins (clean_start script path file_a file_b) 0 (clean_plan script path)).profile path.delay (setting_of path script.buffer length)
  setting_is file_a file_b length small = record {
    delay = refl;
    payload = refl;
    threshold = half (min script.buffer (4 * path.mss));
    some = let least = line.mss.least in let buffer = ranges.buffer.least in omega (arith, least, buffer);
    update = let least = line.mss.least in let buffer = ranges.buffer.least in omega (arith, least, buffer);
    buffer = refl;
    least = refl;
    rto = refl;
    small = small;
    most = let most = ranges.buffer.most in omega (arith, most);
    path = refl;
    ranges = in_ranges path script.buffer length line ranges.buffer;
  }
    where
      half : (n : ℕ) → n ≤ 2 * ((n + 1) / 2)
      half n = omega arith

  pub is_short : (file_a file_b : List ℕ) → length file_a ≤ 16777216 → length file_b ≤ 16777216
      → IsShortScript (clean_script script path) file_a file_b
  is_short file_a file_b small_a small_b =
      record { ranges = ranges; short_a = omega (arith, small_a); short_b = omega (arith, small_b) }
