-- What a copy is taken as: what it means, or nothing.
use Rattle.path_core.proofs.Words.{◌≡◌, inl, inr, subst, Bool, true, false, if◌then◌else◌, List, is_some, Meaning, meaning_of, Copy, EndState, Heard, IsTakenAs}
use Rattle.path_core.proofs.Words.{join_asked, join_answer, Judged, is_ignored, is_passed_over, is_forged, join_judged, judged_of, taken_as, PathEnd}

-- what isn't taken as nothing is taken as what it means
pub taken_for : (m : Meaning) (c : Copy) (s : EndState) → IsTakenAs m c s → is_ignored m ≡ false → m ≡ meaning_of c s
taken_for m c s (inl none) some = let both : true ≡ false = subst (λ x. is_ignored x ≡ false) none some in cc
taken_for m c s (inr means) some = means

module _ (rst : Bool) (items : List Heard) (e : PathEnd) (P : Meaning → Type 0) (none : P Meaning.Ignored) where
  unless_silent : (silent : Bool) (m : Meaning) → P m → P (taken_as (if silent then Judged.As Meaning.Ignored else Judged.As m))
  unless_silent = elim [ true ↦ λ m holds. none | false ↦ λ m holds. holds ]

  join_taken : (m : Meaning) → P m → P (taken_as (join_judged rst items m e))
  join_taken Meaning.Opens holds = elim (is_some (join_asked items)) as (λ asks. P (taken_as (if asks then Judged.Asks else Judged.Lacks))) [ true ↦ none | false ↦ none ]
  join_taken (Meaning.Accepts acknowledged) holds = elim (is_some (join_answer items e.modes)) as (λ right. P (taken_as (if right then Judged.As (Meaning.Accepts acknowledged) else Judged.Forged)))
      [ true ↦ holds | false ↦ none ]
  join_taken Meaning.RepeatedSyn holds = holds
  join_taken (Meaning.Taken position acknowledged) holds = by (is_passed_over rst items e) (is_forged items e)
    where
      by : (silent forged : Bool) → P (taken_as (if silent then Judged.As Meaning.Ignored
          else (if forged then Judged.Forged else Judged.As (Meaning.Taken position acknowledged))))
      by true forged = none
      by false true = none
      by false false = holds
  join_taken Meaning.Ignored holds = unless_silent (is_passed_over rst items e) Meaning.Ignored holds
  join_taken m holds = unless_silent (is_passed_over rst items e) m holds

  -- what holds of nothing and of the meaning holds of what it is taken as
  pub judged_taken : (joined : Bool) (m : Meaning) → P m → P (taken_as (judged_of joined rst items m e))
  judged_taken = elim [ true ↦ λ m holds. join_taken m holds | false ↦ λ m holds. holds ]
