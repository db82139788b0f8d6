-- The paths that a connection begins with are those of the script.
--
-- A loop that opens what a script lists has the invariant that what stands and what is left make the whole
-- (`paths_left` of `proofs/Opening`): one lemma puts one more, and after the last one nothing is left.
use Rattle.std.proofs.Common.{◌≡◌, refl, sym, ◌∙◌, ap, ℕ, zero, suc, ◌+◌, ◌<◌, ◌≤◌, List, [], ◌∷◌, ◌++◌, length, drop, arith}
use Rattle.link_script.specs.declared.script.PathLine.{PathLine}
use Rattle.link_script.specs.declared.script.Script.{Script}
use Rattle.link_model.specs.Steps.{delay_of}
use Rattle.path_core.specs.Start.{drawn_of, first_turn, first_turn_of, join_of, line_of, path_start, profile_of}
use Rattle.world_laws.specs.Actors.{ActorCrew}
use Rattle.world_laws.specs.declared.member.Member.TheVariants.{Path}
use Rattle.world_laws.specs.Openings.{new_crew, opened_world, path_begins, paths_from, plan_of, plans_from, start_of}

module _ (script : Script) (file_a file_b : List ℕ) where
  delay_is : (number : ℕ) (lines : List PathLine) → (line_of number lines).delay ≡ delay_of number lines
  delay_is number [] = refl
  delay_is zero (line ∷ lines) = refl
  delay_is (suc number) (line ∷ lines) = delay_is number lines

  begins_so : (number : ℕ) → path_begins (start_of script file_a file_b) number (plan_of script number (line_of number script.paths)) ≡ path_start script number
  begins_so zero = ap
      (λ delay. record { profile = profile_of script 0; drawn = drawn_of script 0; seed = script.seed; delay = delay; joined_at = join_of 0 (line_of 0 script.paths) })
      (delay_is 0 script.paths)
  begins_so (suc number) = ap
      (λ delay. record {
        profile = profile_of script (suc number);
        drawn = drawn_of script (suc number);
        seed = script.seed;
        delay = delay;
        joined_at = join_of (suc number) (line_of (suc number) script.paths);
      })
      (delay_is (suc number) script.paths)

  line_dropped : (number : ℕ) (lines : List PathLine) → number < length lines → drop number lines ≡ line_of number lines ∷ drop (suc number) lines
  line_dropped number [] within = absurd (omega (arith, within))
  line_dropped zero (line ∷ lines) within = refl
  line_dropped (suc number) (line ∷ lines) within = line_dropped number lines (omega (arith, within))

  none_dropped : (number : ℕ) (lines : List PathLine) → length lines ≤ number → drop number lines ≡ []
  none_dropped zero [] all = refl
  none_dropped (suc number) [] all = refl
  none_dropped zero (line ∷ lines) all = absurd (omega (arith, all))
  none_dropped (suc number) (line ∷ lines) all = none_dropped number lines (omega (arith, all))

  one_more : {X : Type 0} (xs : List X) (x : X) (ys : List X) → (xs ++ x ∷ []) ++ ys ≡ xs ++ x ∷ ys
  one_more [] x ys = refl
  one_more (w ∷ xs) x ys = ap (λ zs. w ∷ zs) (one_more xs x ys)

  nothing_more : {X : Type 0} (xs : List X) → xs ++ [] ≡ xs
  nothing_more [] = refl
  nothing_more (x ∷ xs) = ap (λ zs. x ∷ zs) (nothing_more xs)

  -- the actors of the paths from this one on
  abbrev pub paths_left : ℕ → List (ActorCrew (List ℕ))
  paths_left number = paths_from (start_of script file_a file_b) number (plans_from script number (drop number script.paths))

  path_left : (number : ℕ) → number < length script.paths
      → paths_left number ≡ new_crew (2 + number) (Path (first_turn_of script number)) ∷ paths_left (suc number)
  path_left number within =
      ap (λ lines. paths_from (start_of script file_a file_b) number (plans_from script number lines)) (line_dropped number script.paths within)
      ∙ ap (λ begins. new_crew (2 + number) (Path (first_turn begins script.lines)) ∷ paths_left (suc number)) (begins_so number)

  -- a path more
  pub put_more : (all : List (ActorCrew (List ℕ))) (number : ℕ) (old new : List (ActorCrew (List ℕ))) (member : ActorCrew (List ℕ)) → number < length script.paths
      → member ≡ new_crew (2 + number) (Path (first_turn_of script number)) → new ≡ old ++ member ∷ []
      → old ++ paths_left number ≡ all → new ++ paths_left (number + 1) ≡ all
  put_more all number old new member within is put so =
      ap (λ n. new ++ paths_left n) (let e : number + 1 ≡ suc number = omega arith in e)
      ∙ ap (λ xs. xs ++ paths_left (suc number)) put
      ∙ one_more old member (paths_left (suc number))
      ∙ ap (λ x. old ++ x ∷ paths_left (suc number)) is
      ∙ ap (λ xs. old ++ xs) (sym (path_left number within))
      ∙ so

  -- no path is left
  pub put_all : (all : List (ActorCrew (List ℕ))) (number : ℕ) (crew : List (ActorCrew (List ℕ))) → length script.paths ≤ number → crew ++ paths_left number ≡ all → crew ≡ all
  put_all all number crew past so =
      sym (nothing_more crew)
      ∙ ap (λ lines. crew ++ paths_from (start_of script file_a file_b) number (plans_from script number lines)) (sym (none_dropped number script.paths past))
      ∙ so

  paths_many : (number : ℕ) (lines : List PathLine) → length (paths_from {C = List ℕ} (start_of script file_a file_b) number (plans_from script number lines)) ≡ length lines
  paths_many number [] = refl
  paths_many number (line ∷ lines) = ap suc (paths_many (suc number) lines)

  -- there are two actors more than paths
  pub crew_many : length (opened_world {C = List ℕ} (start_of script file_a file_b)).crew ≡ 2 + length script.paths
  crew_many = let many = paths_many 0 script.paths in omega (arith, many)
