-- A control book counts the address of path 0 as that path's still, and tells no path to take id 0 back, as long as no call takes it back.
use Rattle.std.proofs.Common.{◌≡◌, refl, ap, ◌∙◌, ℕ, zero, suc, Bool, true, false, if◌then◌else◌, not, ◌&&◌, ◌==◌, Option, Some, None, List, [], ◌∷◌, fold, replicate}
use Rattle.std.specs.Prelude.{position, slice_index_or, slice_set}
use Rattle.std.proofs.lemmas.Bool.{both_ways}
use Rattle.std.proofs.lemmas.List.Quantifiers.{position-Some}
use Rattle.sides.specs.declared.side.Side.{Side}
use Rattle.control_book.specs.declared.call.ControlCall.{ControlCall}
use Rattle.control_book.specs.declared.call.ControlCall.TheVariants as calls
use Rattle.control_book.specs.declared.call.Notice.{Notice}
use Rattle.control_book.specs.declared.call.Notice.TheVariants as told
use Rattle.control_book.specs.declared.registry.PathState.{PathState}
use Rattle.control_book.specs.Control.{Control, new_control, no_withdrawals, with_withdrawal_due, withdrawals_on}
use Rattle.control_book.specs.Registry.{every_path, lives, opening_paths, state_of}
use Rattle.control_book.specs.Replies.{address_notice, announcement, carries, notice_on, resets}
use Rattle.control_book.specs.Steps.{after, withdrawn_on}
use Rattle.control_book.proofs.Kept as kept
use Rattle.world_laws.proofs.Announcements.Wanted.{no_member}

-- ---- ids that are to be taken back

-- the id isn't one of them
abbrev pub IsSpared : ℕ → List Bool → Type 0
IsSpared place ids = slice_index_or ids place false ≡ false

-- on no path
abbrev pub AreSpared : ℕ → List (List Bool) → Type 0
AreSpared place sets = (at : ℕ) → IsSpared place (withdrawals_on sets at)

pub set_spared : (place : ℕ) (ids : List Bool) (id : ℕ) (due : Bool) → (id ≡ place → due ≡ false) → IsSpared place ids → IsSpared place (slice_set ids id due)
set_spared place [] id due unless h = h
set_spared zero (member ∷ ids) zero due unless h = unless refl
set_spared (suc place) (member ∷ ids) zero due unless h = h
set_spared zero (member ∷ ids) (suc id) due unless h = h
set_spared (suc place) (member ∷ ids) (suc id) due unless h = set_spared place ids id due (λ is. unless (ap suc is)) h

put_spared : (place : ℕ) (sets : List (List Bool)) (path : ℕ) (ids : List Bool) (at : ℕ) → IsSpared place ids → IsSpared place (withdrawals_on sets at) → IsSpared place (withdrawals_on (slice_set sets path ids) at)
put_spared place [] path ids at is h = h
put_spared place (first ∷ sets) zero ids zero is h = is
put_spared place (first ∷ sets) zero ids (suc at) is h = h
put_spared place (first ∷ sets) (suc path) ids zero is h = h
put_spared place (first ∷ sets) (suc path) ids (suc at) is h = put_spared place sets path ids at is h

withdrawal_spared : (place id : ℕ) (due : Bool) (path : ℕ) (sets : List (List Bool)) → (id ≡ place → due ≡ false) → AreSpared place sets → AreSpared place (with_withdrawal_due id due path sets)
withdrawal_spared place id due path sets unless h = λ at. put_spared place sets path _ at (set_spared place (withdrawals_on sets path) id due unless (h path)) (h at)

either_spared : (place : ℕ) (b : Bool) (one other : List (List Bool)) → AreSpared place one → AreSpared place other → AreSpared place (if b then one else other)
either_spared place true one other x y = x
either_spared place false one other x y = y

one_spared : (place id : ℕ) (paths : List PathState) (sets : List (List Bool)) (path : ℕ) → (id ≡ place → ⊥) → AreSpared place sets → AreSpared place (withdrawn_on id paths sets path)
unfolding withdrawn_on
one_spared place id paths sets path unless h =
    either_spared place (lives paths path && not (path == id)) (with_withdrawal_due id true path sets) sets (withdrawal_spared place id true path sets (λ is. absurd (unless is)) h) h

each_spared : (place id : ℕ) (paths : List PathState) (which : List ℕ) (sets : List (List Bool)) → (id ≡ place → ⊥) → AreSpared place sets → AreSpared place (fold (withdrawn_on id paths) sets which)
each_spared place id paths [] sets unless h = h
each_spared place id paths (path ∷ which) sets unless h = each_spared place id paths which (withdrawn_on id paths sets path) unless (one_spared place id paths sets path unless h)

all_spared : (place : ℕ) (ids : List Bool) (n : ℕ) → IsSpared place ids → IsSpared place (withdrawals_on [] 0) → AreSpared place (replicate n ids)
all_spared place ids zero h none at = none
all_spared place ids (suc n) h none zero = h
all_spared place ids (suc n) h none (suc at) = all_spared place ids n h none at

-- ---- the paths

abbrev IsKept : ℕ → List PathState → Type 0
IsKept place paths = (state_of paths place).removed ≡ false

-- one that is set is as much removed as it was, or it is another one
set_kept : (place : ℕ) (paths : List PathState) (path : ℕ) (state : PathState) → (path ≡ place → state.removed ≡ false) → IsKept place paths → IsKept place (slice_set paths path state)
set_kept place [] path state unless h = h
set_kept zero (first ∷ paths) zero state unless h = unless refl
set_kept (suc place) (first ∷ paths) zero state unless h = h
set_kept zero (first ∷ paths) (suc path) state unless h = h
set_kept (suc place) (first ∷ paths) (suc path) state unless h = set_kept place paths path state (λ is. unless (ap suc is)) h

same_kept : (place : ℕ) (paths : List PathState) (path : ℕ) → IsKept place paths → path ≡ place → (state_of paths path).removed ≡ false
same_kept place paths path h is = ap (λ n. (state_of paths n).removed) is ∙ h

-- ---- a book

pub record Keeps (place : ℕ) (c : Control) : Type 0 where
  pub own : (state_of c.paths place).removed ≡ false
  pub others : AreSpared place c.notices.withdrawals

-- the call takes back no address of this path
abbrev pub Spares : ℕ → ControlCall → Type 0
Spares place (calls.Withdraw id) = id ≡ place → ⊥
Spares place (calls.Removed id) = id ≡ place → ⊥
Spares place _ = Unit {0}

own_once : (place : ℕ) (c : Control) (asked : ControlCall) → Spares place asked → IsKept place c.paths → IsKept place (after c asked).paths
own_once place c (calls.Look at) spares h = kept.told (λ d. IsKept place d.paths) (notice_on c at) at c (λ id. h) h
own_once place c (calls.Keys own peer) spares h = kept.either (λ d. IsKept place d.paths) _ _ c h h
own_once place c (calls.JoinBegin at) spares h = kept.either (λ d. IsKept place d.paths) _ _ c (set_kept place c.paths at _ (same_kept place c.paths at h) h) h
own_once place c (calls.JoinHeard at token) spares h = kept.either (λ d. IsKept place d.paths) _ _ c h h
own_once place c (calls.Live at backup) spares h = set_kept place c.paths at _ (same_kept place c.paths at h) h
own_once place c (calls.Dead at) spares h = set_kept place c.paths at _ (same_kept place c.paths at h) h
own_once place c (calls.Rate at window rtt) spares h = set_kept place c.paths at _ (same_kept place c.paths at h) h
own_once place c (calls.Withdraw id) spares h = kept.either (λ d. IsKept place d.paths) _ _ c (set_kept place c.paths id _ (λ is. absurd (spares is)) h) h
own_once place c (calls.Echoed id) spares h = kept.either (λ d. IsKept place d.paths) _ _ c h h
own_once place c (calls.Removed id) spares h = kept.either (λ d. IsKept place d.paths) _ _ c (set_kept place c.paths id _ (λ is. absurd (spares is)) h) h
own_once place c (calls.FastHeard key) spares h = kept.either (λ d. IsKept place d.paths) _ _ c h h
own_once place c _ spares h = h

others_once : (place : ℕ) (c : Control) (asked : ControlCall) → Spares place asked → AreSpared place c.notices.withdrawals → AreSpared place (after c asked).notices.withdrawals
others_once place c (calls.Look at) spares h =
    kept.told (λ d. AreSpared place d.notices.withdrawals) (notice_on c at) at c (λ id. withdrawal_spared place id false at c.notices.withdrawals (λ is. refl) h) h
others_once place c (calls.Keys own peer) spares h = kept.either (λ d. AreSpared place d.notices.withdrawals) _ _ c h h
others_once place c (calls.JoinBegin at) spares h = kept.either (λ d. AreSpared place d.notices.withdrawals) _ _ c h h
others_once place c (calls.JoinHeard at token) spares h = kept.either (λ d. AreSpared place d.notices.withdrawals) _ _ c h h
others_once place c (calls.Withdraw id) spares h = kept.either (λ d. AreSpared place d.notices.withdrawals) _ _ c (each_spared place id c.paths every_path c.notices.withdrawals spares h) h
others_once place c (calls.Echoed id) spares h = kept.either (λ d. AreSpared place d.notices.withdrawals) _ _ c h h
others_once place c (calls.Removed id) spares h = kept.either (λ d. AreSpared place d.notices.withdrawals) _ _ c h h
others_once place c (calls.FastHeard key) spares h = kept.either (λ d. AreSpared place d.notices.withdrawals) _ _ c h h
others_once place c _ spares h = h

pub call_keeps : (place : ℕ) (c : Control) (asked : ControlCall) → Spares place asked → Keeps place c → Keeps place (after c asked)
call_keeps place c asked spares h = record { own = own_once place c asked spares h.own; others = others_once place c asked spares h.others }

pub opening_keeps : (side : Side) (key : ℕ) → Keeps 0 (new_control side key)
unfolding no_withdrawals opening_paths
opening_keeps side key = record { own = refl; others = all_spared 0 (withdrawals_on [] 0) 16 (no_member 0) (no_member 0) }

-- ---- what a look is told

lowest_other : (place : ℕ) (ids : List Bool) → IsSpared place ids → position (λ member. member) ids ≡ Some place → ⊥
lowest_other place ids spared is = both_ways _ spared (position-Some (λ member. member) ids place false is).1

abbrev withdrawn_in : Notice → Option ℕ
withdrawn_in (told.Withdraw id) = Some id
withdrawn_in _ = None

-- it isn't that the id is to be taken back
pub look_spares : (place : ℕ) (c : Control) (path : ℕ) → Keeps place c → notice_on c path ≡ told.Withdraw place → ⊥
look_spares place c path h = by (resets c path) (carries c path) _ (announcement c path) (position (λ member. member) (withdrawals_on c.notices.withdrawals path)) refl
  where
    addressed : (o e : Option ℕ) → position (λ member. member) (withdrawals_on c.notices.withdrawals path) ≡ e → address_notice o e ≡ told.Withdraw place → ⊥
    addressed (Some id) e low is = cc
    addressed None None low is = cc
    addressed None (Some id) low is = lowest_other place (withdrawals_on c.notices.withdrawals path) (h.others path) (low ∙ ap withdrawn_in is)

    by : (b d : Bool) (key : ℕ) (o e : Option ℕ) → position (λ member. member) (withdrawals_on c.notices.withdrawals path) ≡ e → (if b then told.Reset else (if d then told.Carrier key else address_notice o e)) ≡ told.Withdraw place → ⊥
    by true d key o e low is = cc
    by false true key o e low is = cc
    by false false key o e low is = addressed o e low is
