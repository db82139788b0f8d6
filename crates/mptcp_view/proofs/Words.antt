-- Words of a command line, one by one.
use Rattle.std.proofs.Common.{◌≡◌, refl, ◌∙◌, ℕ, ◌<◌, ◌≤◌, Bool, Option, List, [], ◌∷◌, length, map, slice_index_or, arith}
use Rattle.mptcp_view.specs.declared.asking.View.{View}
use Rattle.mptcp_view.specs.Asking.{Asking, asked_of, asked_with, view_at}

-- a list of eight, by its items
eight : {S : Type 0} (xs : List S) (a b c d e f g h : S) → 8 ≤ length xs → length xs < 9 → a ≡ slice_index_or xs 0 a → b ≡ slice_index_or xs 1 b → c ≡ slice_index_or xs 2 c
    → d ≡ slice_index_or xs 3 d → e ≡ slice_index_or xs 4 e → f ≡ slice_index_or xs 5 f → g ≡ slice_index_or xs 6 g → h ≡ slice_index_or xs 7 h
    → xs ≡ a ∷ b ∷ c ∷ d ∷ e ∷ f ∷ g ∷ h ∷ []
eight (a' ∷ b' ∷ c' ∷ d' ∷ e' ∷ f' ∷ g' ∷ h' ∷ []) a b c d e f g h least most ia ib ic id ie if' ig ih = rw (ia, ib, ic, id, ie, if', ig, ih) refl
eight (a' ∷ b' ∷ c' ∷ d' ∷ e' ∷ f' ∷ g' ∷ h' ∷ i' ∷ xs) a b c d e f g h least most ia ib ic id ie if' ig ih = absurd (omega (arith, most))
eight [] a b c d e f g h least most ia ib ic id ie if' ig ih = absurd (omega (arith, least))
eight (a' ∷ []) a b c d e f g h least most ia ib ic id ie if' ig ih = absurd (omega (arith, least))
eight (a' ∷ b' ∷ []) a b c d e f g h least most ia ib ic id ie if' ig ih = absurd (omega (arith, least))
eight (a' ∷ b' ∷ c' ∷ []) a b c d e f g h least most ia ib ic id ie if' ig ih = absurd (omega (arith, least))
eight (a' ∷ b' ∷ c' ∷ d' ∷ []) a b c d e f g h least most ia ib ic id ie if' ig ih = absurd (omega (arith, least))
eight (a' ∷ b' ∷ c' ∷ d' ∷ e' ∷ []) a b c d e f g h least most ia ib ic id ie if' ig ih = absurd (omega (arith, least))
eight (a' ∷ b' ∷ c' ∷ d' ∷ e' ∷ f' ∷ []) a b c d e f g h least most ia ib ic id ie if' ig ih = absurd (omega (arith, least))
eight (a' ∷ b' ∷ c' ∷ d' ∷ e' ∷ f' ∷ g' ∷ []) a b c d e f g h least most ia ib ic id ie if' ig ih = absurd (omega (arith, least))

-- what eight words ask for
pub eight_asked : {S : Type 0} (bytes : S → List ℕ) (messages : Bool) (xs : List S) (a b c d e f g h : S) → 8 ≤ length xs → length xs < 9 → a ≡ slice_index_or xs 0 a → b ≡ slice_index_or xs 1 b
    → c ≡ slice_index_or xs 2 c → d ≡ slice_index_or xs 3 d → e ≡ slice_index_or xs 4 e → f ≡ slice_index_or xs 5 f → g ≡ slice_index_or xs 6 g → h ≡ slice_index_or xs 7 h
    → (word option value script file_a file_b log out : List ℕ) → word ≡ bytes a → option ≡ bytes b → value ≡ bytes c → script ≡ bytes d → file_a ≡ bytes e → file_b ≡ bytes f → log ≡ bytes g → out ≡ bytes h
    → (view : Option View) → view ≡ view_at word option value → (r : Option Asking) → r ≡ asked_of messages view script file_a file_b log out
    → r ≡ asked_with messages (map bytes xs)
eight_asked bytes messages xs a b c d e f g h least most ia ib ic id ie if' ig ih word option value script file_a file_b log out wa wb wc wd we wf wg wh view view_is r r_is =
    let all = eight xs a b c d e f g h least most ia ib ic id ie if' ig ih in
    r_is ∙ rw (all, view_is, wa, wb, wc, wd, we, wf, wg, wh) refl
