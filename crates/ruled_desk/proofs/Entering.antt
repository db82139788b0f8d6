-- A book that lies in a slot, after a call; and whether its journal is full.
use Rattle.ruled_desk.proofs.Words.{◌≡◌, refl, sym, ◌∙◌, subst, ℕ, ◌-◌, ◌^◌, ◌<◌, ◌≤◌, ◌⊎◌, inl, inr, Bool, true, false, List, [], ◌∷◌, Result, Ok, Err, arith}
use Rattle.ruled_desk.proofs.Words.{⊎_elim, eqb, leb, OnOk, OnErr, nat_tests, Journaled, Rise, book_of, last_stamp, Entry, Refusal, Stamps, HasLastStamp}
use Rattle.stamped_book.specs.declared.stamped.Pass.{Pass}
use Rattle.stamped_book.specs.Entering.{entry_of, after_entering, next_stamp}
use Rattle.stamped_book.proofs.Journals.{replay-append}

-- what a call keeps is kept, where the call is entered and where it is refused
pub stays_sound : {O C R E : Type 0} (reply_to : O → C → R) (after : O → C → O) (sound : O → Type 0) (s t : Journaled O C R) (pass : Pass) (call : C)
    (r : Result R E) → OnOk r (t ≡ after_entering reply_to after s pass call) → OnErr r (t ≡ s) → sound (book_of reply_to after s)
    → (sound (book_of reply_to after s) → sound (after (book_of reply_to after s) call)) → sound (book_of reply_to after t)
stays_sound reply_to after sound s t pass call (Ok reply) ok err h stays =
    subst (λ u. sound (book_of reply_to after u)) (sym ok)
    (subst sound (sym (replay-append reply_to after s.opening s.journal (entry_of reply_to after s pass call ∷ []))) (stays h))
stays_sound reply_to after sound s t pass call (Err refusal) ok err h stays = subst (λ u. sound (book_of reply_to after u)) (sym err) h

module _ {C R : Type 0} where
  -- a journal whose stamps rise goes no higher than its last
  rise_most : (before : ℕ) (entries : List (Entry C R)) → Rise before entries → before ≤ last_stamp before entries
  rise_most before [] rise = omega arith
  rise_most before (entry ∷ entries) rise = let later = rise_most entry.stamp entries rise.1 in omega (arith, rise.0, later)

  pub last_high : (before : ℕ) (entries : List (Entry C R)) → Rise before entries → HasLastStamp entries → 4611686018427387903 ≤ last_stamp before entries
  last_high before [] rise h = absurd h
  last_high before (entry ∷ entries) rise (inl here) = let later = rise_most entry.stamp entries rise.1 in omega (arith, here, later)
  last_high before (entry ∷ entries) rise (inr there) = last_high entry.stamp entries rise.1 there

  -- the last stamp is an entry's
  pub last_there : (before : ℕ) (entries : List (Entry C R)) → before < 4611686018427387903 → last_stamp before entries ≡ 4611686018427387903 → HasLastStamp entries
  last_there before [] less e = absurd (omega (arith, less, e))
  last_there before (entry ∷ []) less e = inl e
  last_there before (entry ∷ second ∷ entries) less e = inr (further entry.stamp second entries e)
    where
      further : (before : ℕ) (second : Entry C R) (entries : List (Entry C R)) → last_stamp second.stamp entries ≡ 4611686018427387903 → HasLastStamp (second ∷ entries)
      further before second [] e = inl e
      further before second (third ∷ entries) e = inr (further second.stamp third entries e)

  -- the test of the last stamp
  pub full_test : (n : ℕ) (entries : List (Entry C R)) → n ≡ last_stamp 0 entries → Rise 0 entries → last_stamp 0 entries < 2 ^ 62
      → (eqb n 4611686018427387903 ≡ true → HasLastStamp entries) × (HasLastStamp entries → eqb n 4611686018427387903 ≡ true)
  full_test n entries is rise small = (
    λ test. (let same : n ≡ 4611686018427387903 = grind (arith, nat_tests) in last_there 0 entries (omega arith) (sym is ∙ same)),
    λ h. (let high = last_high 0 entries rise h in let same : n ≡ 4611686018427387903 = omega (arith, is, high, small) in hit (eqb n 4611686018427387903) refl same),
  )
    where
      hit : (b : Bool) → eqb n 4611686018427387903 ≡ b → n ≡ 4611686018427387903 → eqb n 4611686018427387903 ≡ true
      hit = elim [ true ↦ λ e same. e | false ↦ λ e same. absurd (grind (arith, nat_tests)) ]

-- where no stamp is left, the asker's pass stands at the last one, or the journal is full
pub used_up : {O C R : Type 0} (s : Journaled O C R) (pass : Pass) → last_stamp 0 s.journal < 2 ^ 62 → 2 ^ 62 ≤ next_stamp s pass
    → (2 ^ 62 - 1 ≤ pass.stamp) ⊎ HasLastStamp s.journal
used_up s pass small high = (elim (leb 4611686018427387903 pass.stamp) as (λ b. leb 4611686018427387903 pass.stamp ≡ b → (2 ^ 62 - 1 ≤ pass.stamp) ⊎ HasLastStamp s.journal) [
  | true ↦ λ e. inl (grind (arith, nat_tests))
  | false ↦ λ e. let low : pass.stamp < 4611686018427387903 = grind (arith, nat_tests) in inr (last_there 0 s.journal (omega arith) (omega (arith, low, small, high)))
]) refl

pub used_up_then : {O C R T : Type 0} (s t : Journaled O C R) (pass : Pass) (r : Result T Refusal) → last_stamp 0 s.journal < 2 ^ 62 → OnErr r (t ≡ s)
    → (r ≡ Err Stamps → 2 ^ 62 ≤ next_stamp s pass) → r ≡ Err Stamps → (2 ^ 62 - 1 ≤ pass.stamp) ⊎ HasLastStamp t.journal
used_up_then s t pass (Ok x) small same high is = cc
used_up_then s t pass (Err refusal) small same high is =
    ⊎_elim (λ late. inl late) (λ full. inr (subst (λ (u : Journaled _ _ _). HasLastStamp u.journal) (sym same) full)) (used_up s pass small (high is))
