-- What the book of a stream that goes on one path decides to grant.
use Rattle.clean_finish.proofs.Words.{◌≡◌, refl, sym, ap, ◌∙◌, ℕ, ◌+◌, ◌-◌, ◌<◌, ◌≤◌, min, nat_lt, Bool, true, false, cond, ◌&&◌, ◌||◌, if◌then◌else◌, Option}
use Rattle.clean_finish.proofs.Words.{None, length, arith, Some, nat_le, drop, ◌==◌, Ok, Err, position, and_parts, ltb-false, ltb-true, leb-true, eqb-true}
use Rattle.clean_finish.proofs.Words.{leb-false, prefix_len, is_for, first_free, run_len, span_at, decision, acked_len, is_free_for, AreTaken}
use Rattle.send_book.specs.declared.call.Why.TheVariants.{Ended, NothingFree, WindowShut}
use Rattle.send_book.specs.State.{Sending}
use Rattle.clean_finish.proofs.TakenMarks.{next_free, free_behind, few_acked}

-- Path 0 took so many bytes, and asks for `most` more.
pub data GrantIs (taken most : ℕ) (b : Sending) : Type 0 where
  -- the path gets the next ones
  Gives : (count : ℕ) → 1 ≤ count → count ≤ most → taken + count ≤ length b.marks → taken + count ≤ b.edge
      → decision 0 most false b ≡ Ok (record { from = taken; to = taken + count }) → GrantIs taken most b
  -- all bytes are acknowledged; all were taken; the window is shut
  AllAcked : length b.written ≤ taken → decision 0 most false b ≡ Err Ended → GrantIs taken most b
  AllTaken : length b.marks ≤ taken → decision 0 most false b ≡ Err NothingFree → GrantIs taken most b
  IsShut : b.edge ≤ taken → taken < length b.marks → decision 0 most false b ≡ Err WindowShut → GrantIs taken most b

module _ (taken most : ℕ) (b : Sending) (unaborted : b.aborted ≡ false) (owner : b.owner ≡ None) (h : AreTaken taken b.marks) (some : 1 ≤ most) where
  abbrev ended : Bool
  ended = b.aborted || (b.closed && (acked_len b.marks == length b.written))

  decides : (e : Bool) → ended ≡ e → decision 0 most false b ≡ (if e then Err Ended else span_at 0 most b (first_free 0 b))
  decides e is = ap (λ (x : Bool). if x then Err Ended else span_at 0 most b (first_free 0 b)) is

  all_acked : ended ≡ true → length b.written ≤ taken
  all_acked is =
      let so = and_parts b.closed (acked_len b.marks == length b.written)
      (sym (ap (λ (x : Bool). x || (b.closed && (acked_len b.marks == length b.written))) unaborted) ∙ is) in
      let same = eqb-true (acked_len b.marks) (length b.written) so.1 in
      omega (arith, same, few_acked taken b.marks h)

  first_is : first_free 0 b ≡ cond (nat_lt taken (length b.marks)) (Some taken) None
  first_is = ap (λ (o : Option ℕ). if is_for 0 o then position (is_free_for 0) b.marks else None) owner
      ∙ ap (λ (n : ℕ). cond (nat_lt n (length b.marks)) (Some n) None) (next_free taken b.marks h)

  row : prefix_len (is_free_for 0) (drop taken b.marks) ≡ length b.marks - taken
  row = free_behind taken b.marks h

  spans : decision 0 most false b ≡ span_at 0 most b (Some taken) → taken < length b.marks → GrantIs taken most b
  spans is less = by (nat_le b.edge taken) refl
    where
      count_some : {l : ℕ} → l ≡ length b.marks - taken → taken < length b.marks → taken < b.edge → 1 ≤ min most (min (b.edge - taken) l)
      count_some at p q = omega (arith, at, p, q, some)

      count_within : {l : ℕ} → l ≡ length b.marks - taken → taken < length b.marks → taken + min most (min (b.edge - taken) l) ≤ length b.marks
      count_within at p = omega (arith, at, p)

      count_below : (l : ℕ) → taken < b.edge → taken + min most (min (b.edge - taken) l) ≤ b.edge
      count_below l q = omega (arith, q)

      count_most : (l : ℕ) → min most (min (b.edge - taken) l) ≤ most
      count_most l = omega arith

      by : (shut : Bool) → nat_le b.edge taken ≡ shut → GrantIs taken most b
      by true e = IsShut (leb-true b.edge taken e) less
          (is ∙ ap (λ (x : Bool). if x then Err WindowShut else Ok (record { from = taken; to = taken + run_len 0 most b taken })) e)
      by false e =
          let below = leb-false b.edge taken e in
          Gives (run_len 0 most b taken) (count_some row less below) (count_most (prefix_len (is_free_for 0) (drop taken b.marks)))
          (count_within row less) (count_below (prefix_len (is_free_for 0) (drop taken b.marks)) below)
          (is ∙ ap (λ (x : Bool). if x then Err WindowShut else Ok (record { from = taken; to = taken + run_len 0 most b taken })) e)

  pub decided : GrantIs taken most b
  decided = by ended refl
    where
      by : (e : Bool) → ended ≡ e → GrantIs taken most b
      by true e = AllAcked (all_acked e) (decides true e)
      by false e = at (nat_lt taken (length b.marks)) refl
        where
          at : (l : Bool) → nat_lt taken (length b.marks) ≡ l → GrantIs taken most b
          at true is = spans (decides false e ∙ ap (λ (o : Option ℕ). span_at 0 most b o) (first_is ∙ ap (λ (x : Bool). cond x (Some taken) None) is))
              (ltb-true taken (length b.marks) is)
          at false is = AllTaken (ltb-false taken (length b.marks) is)
              (decides false e ∙ ap (λ (o : Option ℕ). span_at 0 most b o) (first_is ∙ ap (λ (x : Bool). cond x (Some taken) None) is))
