-- Parting a text at an octet.
use Rattle.std.proofs.Common.{◌≡◌, ap, ℕ, ◌+◌, ◌≤◌, ◌==◌, nat_lt, List, [], length, take, drop, Some, None, cond, arith, position}
use Rattle.std.proofs.lemmas.List.{take_all, drop_all}
use Rattle.std.specs.List.{position_or_len}
use Rattle.run_outside.specs.Parting.{parted_at}

found_at : (place whole at : ℕ) → cond (nat_lt place whole) (Some place) None ≡ Some at → place ≡ at
found_at place whole at h = grind arith

found_nowhere : (place whole : ℕ) → cond (nat_lt place whole) (Some place) None ≡ None → whole ≤ place
found_nowhere place whole h = grind arith

pub parted_at-found : (separator : ℕ) (text : List ℕ) (at : ℕ) → position (λ octet. octet == separator) text ≡ Some at
    → parted_at separator text ≡ (take at text, drop (at + 1) text)
parted_at-found separator text at h =
    ap (λ place. (take place text, drop (place + 1) text)) (found_at (position_or_len (λ octet. octet == separator) text) (length text) at h)

pub parted_at-whole : (separator : ℕ) (text : List ℕ) → position (λ octet. octet == separator) text ≡ None → parted_at separator text ≡ (text, [])
parted_at-whole separator text h =
    let beyond : length text ≤ position_or_len (λ octet. octet == separator) text = found_nowhere _ (length text) h in
    let far : length text ≤ position_or_len (λ octet. octet == separator) text + 1 = omega arith in
    let front : take (position_or_len (λ octet. octet == separator) text) text ≡ text = take_all _ text beyond in
    let rest : drop (position_or_len (λ octet. octet == separator) text + 1) text ≡ [] = drop_all _ text far in
    cc
