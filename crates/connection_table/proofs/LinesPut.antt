-- The lines of a table, put one after the other.
use Rattle.std.proofs.Common.{◌≡◌, refl, sym, ◌∙◌, ap, subst, ℕ, zero, suc, ◌+◌, ◌<◌, ◌≤◌, Option, Some, None, List, [], ◌∷◌, ◌++◌, append_assoc, length, map, take, drop, arith}
use Rattle.std.specs.List.{slice_get}
use Rattle.std.specs.Prelude.{IsSomeAnd}
use Rattle.world_core.specs.Kept.{Kept}
use Rattle.std.proofs.Math.Seq.{take-length}
use Rattle.std.proofs.lemmas.List.{append-nil, take-append-drop, take-append-le}
use Rattle.outside_kit.specs.Outside.{HoldsAfter, HoldsPrefix}
use Rattle.run_outside.proofs.PortsLemmas.{risen_later}
use Rattle.connection_table.specs.declared.many.Many.{Many}
use Rattle.connection_table.specs.declared.many.Many.TheVariants.{Done, Usage, Load, TooLong, List as Listing, Script, SameToken, Put, Memory}
use Rattle.connection_table.specs.ManyEnds.{IsPutFault}
use Rattle.connection_table.specs.ManyLines.{connection_line, line_if, lines_from, state_of}
use Rattle.connection_table.specs.Tables.{Entry}

-- ---- the lines

-- those of so many connections, the first having this number
abbrev pub lines_upto : ℕ → ℕ → List Entry → List ℕ
lines_upto number zero table = []
lines_upto number (suc count) [] = []
lines_upto number (suc count) (e ∷ table) = connection_line number (state_of e) ++ lines_upto (suc number) count table

-- one more
next_line : (number i at : ℕ) (table : List Entry) → at ≡ number + i → i < length table → lines_upto number (suc i) table ≡ lines_upto number i table ++ line_if at (slice_get table i)
next_line number i at [] is within = absurd (omega (arith, within))
next_line number zero at (e ∷ table) is within =
    let same : number ≡ at = omega (arith, is) in
    append-nil (connection_line number (state_of e)) ∙ ap (λ n. connection_line n (state_of e)) same
next_line number (suc i) at (e ∷ table) is within =
    ap (λ xs. connection_line number (state_of e) ++ xs) (next_line (suc number) i at table (omega (arith, is)) (omega (arith, within)))
    ∙ sym (append_assoc (connection_line number (state_of e)) (lines_upto (suc number) i table) (line_if at (slice_get table i)))

pub line_more : (i : ℕ) (table : List Entry) → i < length table → lines_upto 0 (i + 1) table ≡ lines_upto 0 i table ++ line_if i (slice_get table i)
line_more i table within =
    let e : suc i ≡ i + 1 = omega arith in
    ap (λ n. lines_upto 0 n table) (sym e) ∙ next_line 0 i i table (omega arith) within

-- all of them
all_lines : (number i : ℕ) (table : List Entry) → length table ≤ i → lines_upto number i table ≡ lines_from number (map state_of table)
all_lines number zero [] past = refl
all_lines number (suc i) [] past = refl
all_lines number zero (e ∷ table) past = absurd (omega (arith, past))
all_lines number (suc i) (e ∷ table) past = ap (λ xs. connection_line number (state_of e) ++ xs) (all_lines (suc number) i table (omega (arith, past)))

pub lines_all : (i : ℕ) (table : List Entry) → length table ≤ i → lines_upto 0 i table ≡ lines_from 0 (map state_of table)
lines_all i table past = all_lines 0 i table past

-- and those behind these
behind : (number i : ℕ) (table : List Entry) → (more : List ℕ) × (lines_from number (map state_of table) ≡ lines_upto number i table ++ more)
behind number zero table = (lines_from number (map state_of table), refl)
behind number (suc i) [] = ([], refl)
behind number (suc i) (e ∷ table) =
    let rest = behind (suc number) i table in
    (rest.0, ap (λ xs. connection_line number (state_of e) ++ xs) rest.1 ∙ sym (append_assoc (connection_line number (state_of e)) (lines_upto (suc number) i table) rest.0))

-- the line of a connection that is there
pub line_is : (number : ℕ) (o : Option Entry) (k : Kept) → IsSomeAnd o (λ e. k ≡ e.world) → connection_line number k.state ≡ line_if number o
line_is number None k is = absurd is
line_is number (Some e) k is = ap (λ (w : Kept). connection_line number w.state) is

-- ---- what a port holds

-- a text was put behind another one
pub whole_then : (a b c : Option (List ℕ)) (xs ys zs : List ℕ) → HoldsAfter a b (λ held. held ++ xs) → HoldsAfter b c (λ held. held ++ ys) → zs ≡ xs ++ ys
    → HoldsAfter a c (λ held. held ++ zs)
whole_then None b c xs ys zs h k is = tt
whole_then (Some held) b c xs ys zs h k is =
    let next : c ≡ Some ((held ++ xs) ++ ys) = subst (λ o. HoldsAfter o c (λ text. text ++ ys)) h k in
    next ∙ ap Some (append_assoc held xs ys ∙ ap (λ ws. held ++ ws) (sym is))

taken : (front rest : List ℕ) → take (length front) (front ++ rest) ≡ front
taken front rest = let few : length front ≤ length front = omega arith in take-append-le (length front) front rest few ∙ take-length front

-- a part of one
part_then : (a b c : Option (List ℕ)) (xs ys more zs : List ℕ) → HoldsAfter a b (λ held. held ++ xs) → HoldsPrefix b c ys → zs ≡ xs ++ (ys ++ more) → HoldsPrefix a c zs
part_then None b c xs ys more zs h k is = tt
part_then (Some held) b c xs ys more zs h k is =
    let next : (count : ℕ) × (c ≡ Some ((held ++ xs) ++ take count ys)) = subst (λ o. HoldsPrefix o c ys) h k in
    let part : List ℕ = take next.0 ys in
    let rest : List ℕ = drop next.0 ys in
    let zs_is : zs ≡ (xs ++ part) ++ (rest ++ more) =
    is ∙ ap (λ ws. xs ++ (ws ++ more)) (sym (take-append-drop next.0 ys)) ∙ ap (λ ws. xs ++ ws) (append_assoc part rest more) ∙ sym (append_assoc xs part (rest ++ more)) in (
      length (xs ++ part),
      next.1 ∙ ap Some (append_assoc held xs part ∙ ap (λ ws. held ++ ws) (sym (ap (take (length (xs ++ part))) zs_is ∙ taken (xs ++ part) (rest ++ more)))),
    )

-- of a line behind those before it
pub line_part : (i : ℕ) (table : List Entry) (a b c : Option (List ℕ)) → i < length table → HoldsAfter a b (λ held. held ++ lines_upto 0 i table)
    → HoldsPrefix b c (line_if i (slice_get table i)) → HoldsPrefix a c (lines_from 0 (map state_of table))
line_part i table a b c within h k =
    let rest = behind 0 (i + 1) table in
    part_then a b c (lines_upto 0 i table) (line_if i (slice_get table i)) rest.0 (lines_from 0 (map state_of table)) h k
    (rest.1 ∙ ap (λ xs. xs ++ rest.0) (line_more i table within) ∙ append_assoc (lines_upto 0 i table) (line_if i (slice_get table i)) rest.0)

-- nothing was put
pub none_put : (a : Option (List ℕ)) → HoldsAfter a a (λ held. held ++ [])
none_put None = tt
none_put (Some held) = ap Some (sym (append-nil held))

-- ---- faults

pub put_fault_later : (old middle new : ℕ) (many : Many) → old ≤ middle → IsPutFault middle new many → IsPutFault old new many
put_fault_later old middle new Put few fault = risen_later old middle new few fault
put_fault_later old middle new Memory few fault = tt
put_fault_later old middle new Done few fault = absurd fault
put_fault_later old middle new Usage few fault = absurd fault
put_fault_later old middle new (Load line) few fault = absurd fault
put_fault_later old middle new (TooLong line) few fault = absurd fault
put_fault_later old middle new (Listing line) few fault = absurd fault
put_fault_later old middle new (Script entry line kind) few fault = absurd fault
put_fault_later old middle new (SameToken line holder) few fault = absurd fault
