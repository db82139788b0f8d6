-- A path that lives or opens at a side's control book does so till that is told that the path is dead; and where a path is the sole one no other one does.
use Rattle.std.proofs.Common.{◌≡◌, refl, sym, ap, ◌∙◌, subst, ℕ, zero, suc, ◌+◌, ◌<◌, ◌≤◌, ◌==◌, ◌&&◌, ◌||◌, not, Bool, true, false, if◌then◌else◌, List, [], ◌∷◌, length, arith}
use Rattle.std.specs.List.{list_any}
use Rattle.std.proofs.lemmas.Bool.{both_ways, eq-eqb, eqb-true, or_left, or_right}
use Rattle.std.proofs.lemmas.List.{get_or-set_other, get_or-set_same, length-set}
use Rattle.control_book.specs.Control.{Control}
use Rattle.control_book.specs.Registry.{every_path, idle, is_standing, sole, stands, stands_beside, state_of}
use Rattle.control_book.specs.Replies.{is_sure, is_starting, may_join, notice_on}
use Rattle.control_book.specs.Steps.{after, after_event, after_join, after_notice, after_peer_key, is_known}
use Rattle.control_book.specs.declared.call.ControlCall.{ControlCall}
use Rattle.control_book.specs.declared.call.Notice.{Notice}
use Rattle.control_book.specs.declared.registry.PathState.{PathState}
use Rattle.control_book.specs.declared.registry.Phase.TheVariants.{Idle, Living, Opening}
use Rattle.fallback_state.specs.declared.fall.Event.{Event}
use Rattle.key_material.specs.KeyDigest.{token_of}
use Rattle.std.specs.Prelude.{slice_set}

-- ---- one row

set_stands : (paths : List PathState) (i n : ℕ) (x : PathState) → n < length paths → (n ≡ i → is_standing x.phase ≡ true) → stands paths n ≡ true → stands (slice_set paths i x) n ≡ true
set_stands paths i n x few same is = by (n == i) refl
  where
    by : (b : Bool) → (n == i) ≡ b → stands (slice_set paths i x) n ≡ true
    by true e =
        let it : n ≡ i = eqb-true n i e in
        let here : i < length paths = subst (λ (m : ℕ). m < length paths) it few in
        ap (λ (m : ℕ). stands (slice_set paths i x) m) it ∙ ap (λ (s : PathState). is_standing s.phase) (get_or-set_same paths i x idle here) ∙ same it
    by false e = ap (λ (s : PathState). is_standing s.phase) (get_or-set_other paths i n x idle (λ it. both_ways (n == i) e (eq-eqb n i it))) ∙ is

-- with the phase that it has
kept_stands : (paths : List PathState) (i n : ℕ) (x : PathState) → x.phase ≡ (state_of paths i).phase → n < length paths → stands paths n ≡ true → stands (slice_set paths i x) n ≡ true
kept_stands paths i n x phase few is = set_stands paths i n x few (λ it. ap is_standing phase ∙ ap (stands paths) (sym it) ∙ is) is

-- ---- a call

-- as before, where the paths are
either : (b : Bool) (n : ℕ) (c d : Control) → stands c.paths n ≡ true → stands d.paths n ≡ true → stands (if b then c else d).paths n ≡ true
either true n c d x y = x
either false n c d x y = y

noticed : (o : Notice) (path n : ℕ) (c : Control) → stands c.paths n ≡ true → stands (after_notice o path c).paths n ≡ true
noticed (Notice.Withdraw id) path n c is = is
noticed Notice.Nothing path n c is = is
noticed (Notice.Announce id) path n c is = is
noticed (Notice.Carrier key) path n c is = is
noticed Notice.Reset path n c is = is

pub stands_on : (n : ℕ) (c : Control) (x : ControlCall) → n < length c.paths → (x ≡ ControlCall.Dead n → ⊥) → stands c.paths n ≡ true → stands (after c x).paths n ≡ true
stands_on n c (ControlCall.Look path) few alive is = noticed (notice_on c path) path n c is
stands_on n c (ControlCall.Keys own peer) few alive is = either (own == c.keys.own) n (after_event 0 false Event.KeysHeard (after_peer_key peer c)) c is is
stands_on n c (ControlCall.JoinBegin path) few alive is =
    either (may_join c) n (after_join (record c { paths = slice_set c.paths path (record (state_of c.paths path) { phase = Opening }) })) c
    (set_stands c.paths path n (record (state_of c.paths path) { phase = Opening }) few (λ it. refl) is) is
stands_on n c (ControlCall.JoinHeard path token) few alive is =
    either (token == token_of c.keys.own && c.fall.confirmed && (is_starting c.fall.mode || is_sure c.fall.mode)) n (after_join c) c is is
stands_on n c (ControlCall.Live path backup) few alive is = set_stands c.paths path n (record (state_of c.paths path) { phase = Living }) few (λ it. refl) is
stands_on n c (ControlCall.Dead path) few alive is =
    set_stands c.paths path n (record (state_of c.paths path) { phase = Idle }) few (λ it. absurd (alive (ap (λ (m : ℕ). ControlCall.Dead m) (sym it)))) is
stands_on n c (ControlCall.Rate path window rtt) few alive is = kept_stands c.paths path n _ refl few is
stands_on n c (ControlCall.Withdraw id) few alive is = either (is_known id c) n _ c (kept_stands c.paths id n (record (state_of c.paths id) { removed = true }) refl few is) is
stands_on n c (ControlCall.Removed id) few alive is = either (is_known id c) n _ c (kept_stands c.paths id n (record (state_of c.paths id) { removed = true }) refl few is) is
stands_on n c (ControlCall.Echoed id) few alive is = either (is_known id c) n _ c is is
stands_on n c (ControlCall.FastHeard key) few alive is = either (key == c.keys.own) n (after_event 0 false Event.Stop c) c is is
stands_on n c _ few alive is = is

-- where it is told to live it stands
pub live_stands : (n : ℕ) (c : Control) (backup : Bool) → n < length c.paths → stands (after c (ControlCall.Live n backup)).paths n ≡ true
live_stands n c backup few = ap (λ (s : PathState). is_standing s.phase) (get_or-set_same c.paths n (record (state_of c.paths n) { phase = Living }) idle few)

-- as many rows
either_long : (b : Bool) (k : ℕ) (c d : Control) → length c.paths ≡ k → length d.paths ≡ k → length (if b then c else d).paths ≡ k
either_long true k c d x y = x
either_long false k c d x y = y

long_noticed : (o : Notice) (path : ℕ) (c : Control) → length (after_notice o path c).paths ≡ length c.paths
long_noticed (Notice.Withdraw id) path c = refl
long_noticed Notice.Nothing path c = refl
long_noticed (Notice.Announce id) path c = refl
long_noticed (Notice.Carrier key) path c = refl
long_noticed Notice.Reset path c = refl

pub as_long : (c : Control) (x : ControlCall) → length (after c x).paths ≡ length c.paths
as_long c (ControlCall.Look path) = long_noticed (notice_on c path) path c
as_long c (ControlCall.Keys own peer) = either_long (own == c.keys.own) (length c.paths) (after_event 0 false Event.KeysHeard (after_peer_key peer c)) c refl refl
as_long c (ControlCall.JoinBegin path) =
    either_long (may_join c) (length c.paths) (after_join (record c { paths = slice_set c.paths path (record (state_of c.paths path) { phase = Opening }) })) c
    (length-set c.paths path (record (state_of c.paths path) { phase = Opening })) refl
as_long c (ControlCall.JoinHeard path token) =
    either_long (token == token_of c.keys.own && c.fall.confirmed && (is_starting c.fall.mode || is_sure c.fall.mode)) (length c.paths) (after_join c) c refl refl
as_long c (ControlCall.Live path backup) = length-set c.paths path _
as_long c (ControlCall.Dead path) = length-set c.paths path _
as_long c (ControlCall.Rate path window rtt) = length-set c.paths path _
as_long c (ControlCall.Withdraw id) = either_long (is_known id c) (length c.paths) _ c (length-set c.paths id (record (state_of c.paths id) { removed = true })) refl
as_long c (ControlCall.Removed id) = either_long (is_known id c) (length c.paths) _ c (length-set c.paths id (record (state_of c.paths id) { removed = true })) refl
as_long c (ControlCall.Echoed id) = either_long (is_known id c) (length c.paths) _ c refl refl
as_long c (ControlCall.FastHeard key) = either_long (key == c.keys.own) (length c.paths) (after_event 0 false Event.Stop c) c refl refl
as_long c _ = refl

-- ---- the sole one

up_from : ℕ → ℕ → List ℕ
up_from zero k = []
up_from (suc m) k = k ∷ up_from m (suc k)

found : (f : ℕ → Bool) (m k n : ℕ) → k ≤ n → n < k + m → f n ≡ true → list_any f (up_from m k) ≡ true
unfolding up_from
found f zero k n low high is = absurd (omega (arith, low, high))
found f (suc m) k n low high is = by (k == n) refl (λ more. found f m (suc k) n (omega (arith, low, more)) (omega (arith, high)) is)
  where
    by : (b : Bool) → (k == n) ≡ b → ((k ≡ n → ⊥) → list_any f (up_from m (suc k)) ≡ true) → list_any f (up_from (suc m) k) ≡ true
    by true e rest = or_left (f k) (list_any f (up_from m (suc k))) (ap f (eqb-true k n e) ∙ is)
    by false e rest = or_right (f k) (list_any f (up_from m (suc k))) (rest (λ same. both_ways (k == n) e (eq-eqb k n same)))

every_is : every_path ≡ up_from 16 0
unfolding every_path up_from
every_is = refl

beside_it : (paths : List PathState) (path n : ℕ) → (n ≡ path → ⊥) → stands paths n ≡ true → stands_beside paths path n ≡ true
unfolding stands_beside
beside_it paths path n apart is = by (n == path) refl
  where
    by : (b : Bool) → (n == path) ≡ b → (not b && stands paths n) ≡ true
    by false e = is
    by true e = absurd (apart (eqb-true n path e))

none_beside : (paths : List PathState) (path n : ℕ) → n < 16 → (n ≡ path → ⊥) → list_any (stands_beside paths path) every_path ≡ false → stands paths n ≡ false
none_beside paths path n few apart none = by (stands paths n) refl
  where
    by : (b : Bool) → stands paths n ≡ b → b ≡ false
    by false is = refl
    by true is =
        let any : list_any (stands_beside paths path) (up_from 16 0) ≡ true = found (stands_beside paths path) 16 0 n (omega arith) few (beside_it paths path n apart is) in
        absurd (both_ways (list_any (stands_beside paths path) every_path) none (ap (list_any (stands_beside paths path)) every_is ∙ any))

pub sole_alone : (paths : List PathState) (path n : ℕ) → n < 16 → (n ≡ path → ⊥) → sole paths path ≡ true → stands paths n ≡ false
sole_alone paths path n few apart is = none_beside paths path n few apart (flipped (list_any (stands_beside paths path) every_path) is)
  where
    flipped : (b : Bool) → not b ≡ true → b ≡ false
    flipped false e = refl
    flipped true e = sym e
