-- A Data ACK of nothing, whose window reaches no further than what is known, leaves the send book as it is.
use Rattle.clean_finish.proofs.Words.{◌≡◌, ap, ◌∙◌, ℕ, ◌+◌, ◌≤◌, min, max, nat_lt, Bool, ◌||◌, if◌then◌else◌, ◌++◌, length, arith, drop, replicate, le-ltb}
use Rattle.clean_finish.proofs.Words.{after_ack, Acked}
use Rattle.send_book.specs.State.{Sending}
use Rattle.clean_finish.proofs.Cleared.{or_false}

abbrev heard_book : ℕ → ℕ → Bool → Sending → Sending
heard_book count edge fin b = record b { marks = replicate count Acked ++ drop 0 b.marks; edge = edge; fin = fin }

pub ack_of_nothing : (window : ℕ) (b : Sending) → window ≤ b.edge → after_ack 0 window b ≡ b
ack_of_nothing window b less =
    ap (λ (f : Bool). if f then b else heard_book (min 0 (length b.marks)) (max b.edge (0 + window)) (b.fin || nat_lt (length b.written) 0) b)
    (le-ltb (length b.written + (if b.closed then 1 else 0)) 0 (omega arith))
    ∙ (ap (λ (n : ℕ). heard_book n (max b.edge (0 + window)) (b.fin || nat_lt (length b.written) 0) b) (few (length b.marks))
    ∙ (ap (λ (n : ℕ). heard_book 0 n (b.fin || nat_lt (length b.written) 0) b) (same less)
    ∙ (ap (λ (f : Bool). heard_book 0 b.edge (b.fin || f) b) (le-ltb (length b.written) 0 (omega arith))
    ∙ ap (λ (f : Bool). heard_book 0 b.edge f b) (or_false b.fin))))
  where
    few : (n : ℕ) → min 0 n ≡ 0
    few n = omega arith

    same : {e : ℕ} → window ≤ e → max e (0 + window) ≡ e
    same p = omega (arith, p)
