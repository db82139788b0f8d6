-- The rows that are kept are right, and so are those that are told.
use Rattle.std.proofs.Common.{◌≡◌, ℕ, zero, suc, ◌<◌, ◌⊎◌, inl, inr, Bool, true, false, List, [], ◌∷◌, length, Option, Some, None, get_or, set, refl, sym, ap, ◌∙◌, subst, arith, eq-eqb, get_or-set_same, get_or-set_other}
use Rattle.std.specs.Prelude.{◌==◌, if◌then◌else◌, IfSome, All, Contains}
use Rattle.std.specs.List.{filter_map, cons_option}
use Rattle.std.proofs.lemmas.Bool.{cases_eq, cases_lt}
use Rattle.std.proofs.lemmas.List.{set_past}
use Rattle.std.proofs.lemmas.List.Elements.{All-cons}
use Rattle.sides.specs.declared.side.Side.{Side}
use Rattle.linked_increase.specs.declared.rows.Row.{Row}
use Rattle.linked_increase.specs.Paths.{IsInRange}
use Rattle.control_book.specs.declared.registry.PathState.{PathState}
use Rattle.control_book.specs.declared.call.ControlCall.{ControlCall}
use Rattle.control_book.specs.Registry.{every_path, opening_paths, state_of, lives, idle, told_row, rows_with}
use Rattle.control_book.specs.Calls.{can_ask}
use Rattle.control_book.specs.Control.{Control, new_control}
use Rattle.control_book.specs.Replies.{notice_on}
use Rattle.control_book.specs.Steps.{after}
use Rattle.control_book.specs.Laws.{after_all, RowsAreRight, CanAskAll}
use Rattle.control_book.proofs.Kept.{either, told}

-- a row of a path, if there is one, is its own and can be linked
abbrev IsRight : Option Row → ℕ → Type 0
IsRight row path = IfSome row (λ r. IsInRange r × (r.path ≡ path))

right_set : (paths : List PathState) (place : ℕ) (state : PathState) → RowsAreRight paths → IsRight state.row place → RowsAreRight (set paths place state)
right_set paths place state all here path =
    elim (cases_lt place (length paths)) [
      | inl within ↦ elim (cases_eq path place) [
        | inl same ↦
            let there : get_or (set paths place state) path idle ≡ state =
            ap (λ (k : ℕ). get_or (set paths place state) k idle) same ∙ get_or-set_same paths place state idle within in
            subst (λ (s : PathState). IsRight s.row path) (sym there) (subst (λ (k : ℕ). IsRight state.row k) (sym same) here)
        | inr other ↦ subst (λ (s : PathState). IsRight s.row path) (sym (get_or-set_other paths place path state idle other)) (all path)
      ]
      | inr past ↦ subst (λ (xs : List PathState). IsRight (state_of xs path).row path) (sym (set_past paths place state past)) (all path)
    ]

pub right_once : (c : Control) (asked : ControlCall) → can_ask asked → RowsAreRight c.paths → RowsAreRight (after c asked).paths
right_once c (ControlCall.Look path) can r = told (λ d. RowsAreRight d.paths) (notice_on c path) path c (λ id. r) r
right_once c (ControlCall.PeerKey key) can r = r
right_once c (ControlCall.Keys own peer) can r = either (λ d. RowsAreRight d.paths) _ _ c r r
right_once c (ControlCall.Fell path event) can r = r
right_once c (ControlCall.JoinBegin path) can r = either (λ d. RowsAreRight d.paths) _ _ c (right_set c.paths path _ r (r path)) r
right_once c (ControlCall.JoinHeard path token) can r = either (λ d. RowsAreRight d.paths) _ _ c r r
right_once c (ControlCall.Live path backup) can r = right_set c.paths path _ r (r path)
right_once c (ControlCall.Dead path) can r = right_set c.paths path _ r (r path)
right_once c (ControlCall.Backup path on) can r = r
right_once c (ControlCall.Rate path window rtt) can r =
    right_set c.paths path _ r (record { some_window = can.1; window = can.2; some_rtt = can.3; rtt = can.4 }, refl)
right_once c (ControlCall.Withdraw id) can r = either (λ d. RowsAreRight d.paths) _ _ c (right_set c.paths id _ r (r id)) r
right_once c (ControlCall.Echoed id) can r = either (λ d. RowsAreRight d.paths) _ _ c r r
right_once c (ControlCall.Removed id) can r = either (λ d. RowsAreRight d.paths) _ _ c (right_set c.paths id _ r (r id)) r
right_once c (ControlCall.FastHeard key) can r = either (λ d. RowsAreRight d.paths) _ _ c r r
right_once c _ can r = r

right_all : (calls : List ControlCall) (c : Control) → CanAskAll calls → RowsAreRight c.paths → RowsAreRight (after_all calls c).paths
right_all [] c can r = r
right_all (asked ∷ calls) c can r = right_all calls (after c asked) can.1 (right_once c asked can.0 r)

-- no path has a row
abbrev AreRowless : List PathState → Type 0
AreRowless [] = Unit {0}
AreRowless (state ∷ states) = (state.row ≡ None) × AreRowless states

rowless_at : (states : List PathState) (path : ℕ) → AreRowless states → (get_or states path idle).row ≡ None
rowless_at [] path rowless = refl
rowless_at (state ∷ states) zero rowless = rowless.0
rowless_at (state ∷ states) (suc path) rowless = rowless_at states path rowless.1

opening_rowless : AreRowless opening_paths
unfolding opening_paths
opening_rowless = (refl, (refl, (refl, (refl, (refl, (refl, (refl, (refl, (refl, (refl, (refl, (refl, (refl, (refl, (refl, (refl, tt))))))))))))))))

opening_right : RowsAreRight opening_paths
opening_right path = subst (λ (row : Option Row). IsRight row path) (sym (rowless_at opening_paths path opening_rowless)) tt

pub rows_stay_right : (calls : List ControlCall) (side : Side) (key : ℕ) → CanAskAll calls → RowsAreRight (after_all calls (new_control side key)).paths
rows_stay_right calls side key can = right_all calls (new_control side key) can opening_right

-- What is told of right rows.

first_of : (row : Option Row) (path : ℕ) → IsRight row path → IfSome row IsInRange
first_of None path right = tt
first_of (Some row) path right = right.0

either_row : (b : Bool) (one other : Option Row) → IfSome one IsInRange → IfSome other IsInRange → IfSome (if b then one else other) IsInRange
either_row true one other p q = p
either_row false one other p q = q

told_in_range : (paths : List PathState) (came : Row) (path : ℕ) → RowsAreRight paths → IsInRange came → IfSome (told_row paths came path) IsInRange
unfolding told_row
told_in_range paths came path r range =
    either_row (path == came.path) (Some came) _ range (either_row (lives paths path) (state_of paths path).row None (first_of (state_of paths path).row path (r path)) tt)

all_cons_option : (row : Option Row) (rows : List Row) → IfSome row IsInRange → All IsInRange rows → All IsInRange (cons_option row rows)
all_cons_option None rows p all = all
all_cons_option (Some row) rows p all = All-cons IsInRange row rows p all

all_told : (f : ℕ → Option Row) (paths : List ℕ) → ((path : ℕ) → IfSome (f path) IsInRange) → All IsInRange (filter_map f paths)
all_told f [] each = λ k d below. absurd (omega arith)
all_told f (path ∷ paths) each = all_cons_option (f path) (filter_map f paths) (each path) (all_told f paths each)

-- a number is among others
abbrev Among : List ℕ → ℕ → Type 0
Among [] p = ⊥
Among (x ∷ xs) p = (x ≡ p) ⊎ Among xs p

contains_later : (row came : Row) (rows : List Row) → Contains rows came → Contains (row ∷ rows) came
contains_later row came rows c = (suc c.0, omega (arith, c.1), c.2)

contains_cons_option : (row : Option Row) (came : Row) (rows : List Row) → Contains rows came → Contains (cons_option row rows) came
contains_cons_option None came rows c = c
contains_cons_option (Some row) came rows c = contains_later row came rows c

contains_first : (row : Option Row) (came : Row) (rows : List Row) → row ≡ Some came → Contains (cons_option row rows) came
contains_first None came rows e = cc
contains_first (Some row) came rows e = (0, omega arith, cc)

contains_told : (f : ℕ → Option Row) (paths : List ℕ) (came : Row) (p : ℕ) → Among paths p → f p ≡ Some came → Contains (filter_map f paths) came
contains_told f [] came p among e = absurd among
contains_told f (path ∷ paths) came p (inl same) e = contains_first (f path) came (filter_map f paths) (ap f same ∙ e)
contains_told f (path ∷ paths) came p (inr among) e =
    contains_cons_option (f path) came (filter_map f paths) (contains_told f paths came p among e)

among_every : (p : ℕ) → p < 16 → Among every_path p
unfolding every_path
among_every p below =
    elim (cases_eq p 0) [ inl e ↦ inl (sym e) | inr ne0 ↦ elim (cases_eq p 1) [ inl e ↦ inr (inl (sym e)) | inr ne1 ↦ elim (cases_eq p 2) [ inl e ↦ inr (inr (inl (sym e))) | inr ne2 ↦ elim (cases_eq p 3) [ inl e ↦ inr (inr (inr (inl (sym e)))) | inr ne3 ↦ elim (cases_eq p 4) [ inl e ↦ inr (inr (inr (inr (inl (sym e))))) | inr ne4 ↦ elim (cases_eq p 5) [ inl e ↦ inr (inr (inr (inr (inr (inl (sym e)))))) | inr ne5 ↦ elim (cases_eq p 6) [ inl e ↦ inr (inr (inr (inr (inr (inr (inl (sym e))))))) | inr ne6 ↦ elim (cases_eq p 7) [ inl e ↦ inr (inr (inr (inr (inr (inr (inr (inl (sym e)))))))) | inr ne7 ↦ elim (cases_eq p 8) [ inl e ↦ inr (inr (inr (inr (inr (inr (inr (inr (inl (sym e))))))))) | inr ne8 ↦ elim (cases_eq p 9) [ inl e ↦ inr (inr (inr (inr (inr (inr (inr (inr (inr (inl (sym e)))))))))) | inr ne9 ↦ elim (cases_eq p 10) [ inl e ↦ inr (inr (inr (inr (inr (inr (inr (inr (inr (inr (inl (sym e))))))))))) | inr ne10 ↦ elim (cases_eq p 11) [ inl e ↦ inr (inr (inr (inr (inr (inr (inr (inr (inr (inr (inr (inl (sym e)))))))))))) | inr ne11 ↦ elim (cases_eq p 12) [ inl e ↦ inr (inr (inr (inr (inr (inr (inr (inr (inr (inr (inr (inr (inl (sym e))))))))))))) | inr ne12 ↦ elim (cases_eq p 13) [ inl e ↦ inr (inr (inr (inr (inr (inr (inr (inr (inr (inr (inr (inr (inr (inl (sym e)))))))))))))) | inr ne13 ↦ elim (cases_eq p 14) [ inl e ↦ inr (inr (inr (inr (inr (inr (inr (inr (inr (inr (inr (inr (inr (inr (inl (sym e))))))))))))))) | inr ne14 ↦ elim (cases_eq p 15) [ inl e ↦ inr (inr (inr (inr (inr (inr (inr (inr (inr (inr (inr (inr (inr (inr (inr (inl (sym e)))))))))))))))) | inr ne15 ↦ absurd (omega arith) ] ] ] ] ] ] ] ] ] ] ] ] ] ] ] ]

own_row : (b : Bool) (came : Row) (other : Option Row) → b ≡ true → (if b then Some came else other) ≡ Some came
own_row true came other e = refl
own_row false came other e = cc

told_own : (paths : List PathState) (came : Row) → told_row paths came came.path ≡ Some came
unfolding told_row
told_own paths came = own_row (came.path == came.path) came _ (eq-eqb came.path came.path refl)

pub rows_can_grow : (paths : List PathState) (came : Row) → RowsAreRight paths → IsInRange came → came.path < 16
    → All IsInRange (rows_with paths came) × Contains (rows_with paths came) came
rows_can_grow paths came r range below = (
  all_told (told_row paths came) every_path (λ path. told_in_range paths came path r range),
  contains_told (told_row paths came) every_path came came.path (among_every came.path below) (told_own paths came),
)
