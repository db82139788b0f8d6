-- What one event keeps.
use Rattle.std.proofs.Common.{◌≡◌, ◌≢◌, ℕ, Bool, true, false, Option, Some, None, refl, sym, subst}
use Rattle.std.specs.Prelude.{not, ◌&&◌, is_none, if◌then◌else◌}
use Rattle.fallback_state.specs.declared.fall.Fall.{Fall}
use Rattle.fallback_state.specs.declared.fall.Mode.{Mode}
use Rattle.fallback_state.specs.declared.fall.Mode.TheVariants.{Starting, Sure, Identity, InfiniteSend, InfiniteReceive, InfiniteBoth, Aborted}
use Rattle.fallback_state.specs.declared.fall.Event.{Event}
use Rattle.fallback_state.specs.declared.fall.Event.TheVariants.{PlainHandshake, PlainData, PlainAck, KeysHeard, MappingHeard, AckHeard, InfiniteHeard, CheckFailed, FailHeard, Stop}
use Rattle.fallback_state.specs.declared.fall.Verdict.{Verdict}
use Rattle.fallback_state.specs.Modes.{is_starting, is_identity, reads_mappings, writes_mappings, with_infinite_receive, with_infinite_send, is_infinite}
use Rattle.fallback_state.specs.Table.{is_failed_path, goes, stays, after_plain, after_sure_sign, after_infinite, fall_step}
use Rattle.fallback_state.specs.Laws.{is_stop, is_failure}

either : (P : Fall → Type 0) (b : Bool) (x y : Fall × Verdict) → P x.0 → P y.0 → P (if b then x else y).0
either P true x y p q = p
either P false x y p q = q

-- the choice that falls back needs a side that joined nothing
fallen : (P : Fall → Type 0) (a j c : Bool) (x y : Fall × Verdict) → (j ≡ false → P x.0) → P y.0 → P (if a && not j && c then x else y).0
fallen P true true c x y p q = q
fallen P true false true x y p q = p refl
fallen P true false false x y p q = q
fallen P false j c x y p q = q

fallen_plain : (P : Fall → Type 0) (a j : Bool) (x y : Fall × Verdict) → (j ≡ false → P x.0) → P y.0 → P (if a && not j then x else y).0
fallen_plain P true true x y p q = q
fallen_plain P true false x y p q = p refl
fallen_plain P false j x y p q = q

-- a mode to which an event leads besides Identity
pub record IsFurther (mode : Mode) : Type 0 where
  pub no_identity : mode ≢ Identity
  pub no_start : mode ≢ Starting

with_infinite_receive-further : (mode : Mode) → IsFurther (with_infinite_receive mode)
with_infinite_receive-further Starting = record { no_identity = λ e. cc; no_start = λ e. cc }
with_infinite_receive-further _ = record { no_identity = λ e. cc; no_start = λ e. cc }

with_infinite_send-further : (mode : Mode) → IsFurther (with_infinite_send mode)
with_infinite_send-further Starting = record { no_identity = λ e. cc; no_start = λ e. cc }
with_infinite_send-further _ = record { no_identity = λ e. cc; no_start = λ e. cc }

sure-further : IsFurther Sure
sure-further = record { no_identity = λ e. cc; no_start = λ e. cc }

aborted-further : IsFurther Aborted
aborted-further = record { no_identity = λ e. cc; no_start = λ e. cc }

-- What holds of a side after an event, if it holds before it and with each change that an event may make.
pub record IsKept (P : Fall → Type 0) (fall : Fall) (path : ℕ) : Type 0 where
  pub same : P fall
  pub confirmed : P (record fall { confirmed = true })
  pub failed : P (record fall { failed = Some path })
  pub identity : fall.joined ≡ false → P (record fall { mode = Identity })
  pub further : (mode : Mode) → IsFurther mode → P (record fall { mode = mode })

kept_plain : (P : Fall → Type 0) (fall : Fall) (path : ℕ) → IsKept P fall path → P (after_plain fall).0
kept_plain P fall path k = fallen_plain P (is_starting fall.mode) fall.joined (goes Identity fall) (stays fall) k.identity k.same

kept_sure : (P : Fall → Type 0) (fall : Fall) (path : ℕ) → IsKept P fall path → P (after_sure_sign fall).0
kept_sure P fall path k = either P (is_starting fall.mode) (goes Sure fall) (stays fall) (k.further Sure sure-further) k.same

pub kept : (P : Fall → Type 0) (fall : Fall) (path : ℕ) (sole : Bool) (event : Event) → IsKept P fall path → P (fall_step fall path sole event).0
kept P fall path sole PlainHandshake k = kept_plain P fall path k
kept P fall path sole PlainData k = kept_plain P fall path k
kept P fall path sole PlainAck k = kept_plain P fall path k
kept P fall path sole KeysHeard k = either P (is_identity fall.mode) _ _ k.same k.confirmed
kept P fall path sole MappingHeard k = kept_sure P fall path k
kept P fall path sole AckHeard k = kept_sure P fall path k
kept P fall path sole InfiniteHeard k =
    either P (not (reads_mappings fall.mode)) _ _ k.same
    (either P (sole && is_failed_path fall.failed path) _ _ (k.further _ (with_infinite_receive-further fall.mode))
    (fallen P (writes_mappings fall.mode) fall.joined (is_none fall.failed) _ _ k.identity k.same))
kept P fall path sole CheckFailed k =
    either P (not (reads_mappings fall.mode)) _ _ k.same (either P sole _ _ k.failed k.same)
kept P fall path sole (FailHeard contiguous) k =
    either P (not (writes_mappings fall.mode)) _ _ k.same
    (either P (sole && contiguous) _ _ (k.further _ (with_infinite_send-further fall.mode)) k.same)
kept P fall path sole Stop k = k.further Aborted aborted-further

-- where a side stands, field by field
abbrev pub standing : Mode → Bool → Bool → Option ℕ → Fall
standing mode confirmed joined failed = record { mode = mode; confirmed = confirmed; joined = joined; failed = failed }

-- in Identity nothing but a fast close changes anything
pub identity_kept : (confirmed joined : Bool) (failed : Option ℕ) (path : ℕ) (sole : Bool) (event : Event) → is_stop event ≡ false
    → (fall_step (standing Identity confirmed joined failed) path sole event).0 ≡ standing Identity confirmed joined failed
identity_kept confirmed joined failed path sole Stop e = cc
identity_kept confirmed joined failed path sole _ e = refl

-- a fast close
pub stopped : (fall : Fall) (path : ℕ) (sole : Bool) (event : Event) → is_stop event ≡ true → (fall_step fall path sole event).0.mode ≡ Aborted
stopped fall path sole Stop e = refl
stopped fall path sole _ e = cc

-- after a fast close no event leads anywhere
pub aborted_kept : (confirmed joined : Bool) (failed : Option ℕ) (path : ℕ) (sole : Bool) (event : Event)
    → (fall_step (standing Aborted confirmed joined failed) path sole event).0.mode ≡ Aborted
aborted_kept confirmed joined failed path sole PlainHandshake = refl
aborted_kept confirmed joined failed path sole _ = refl

-- no infinite mode, and no failed path
pub record IsUnfailed (fall : Fall) : Type 0 where
  pub finite : is_infinite fall.mode ≡ false
  pub unfailed : fall.failed ≡ None

and_false : (b : Bool) → b && false ≡ false
and_false true = refl
and_false false = refl

unfailed_plain : (fall : Fall) → IsUnfailed fall → IsUnfailed (after_plain fall).0
unfailed_plain fall u = either IsUnfailed (is_starting fall.mode && not fall.joined) (goes Identity fall) (stays fall) (record { finite = refl; unfailed = u.unfailed }) u

unfailed_sure : (fall : Fall) → IsUnfailed fall → IsUnfailed (after_sure_sign fall).0
unfailed_sure fall u = either IsUnfailed (is_starting fall.mode) (goes Sure fall) (stays fall) (record { finite = refl; unfailed = u.unfailed }) u

unfailed_infinite : (mode : Mode) (confirmed joined : Bool) (path : ℕ) (sole : Bool) → is_infinite mode ≡ false
    → IsUnfailed (after_infinite path sole (standing mode confirmed joined None)).0
unfailed_infinite mode confirmed joined path sole finite =
    let u : IsUnfailed (standing mode confirmed joined None) = record { finite = finite; unfailed = refl } in
    rw (and_false sole) (either IsUnfailed (not (reads_mappings mode)) _ _ u
    (either IsUnfailed (writes_mappings mode && not joined && true) _ _ (record { finite = refl; unfailed = refl }) u))

-- without a failure there is none after an event
pub unfailed_kept : (fall : Fall) (path : ℕ) (sole : Bool) (event : Event) → is_failure event ≡ false → IsUnfailed fall
    → IsUnfailed (fall_step fall path sole event).0
unfailed_kept fall path sole PlainHandshake e u = unfailed_plain fall u
unfailed_kept fall path sole PlainData e u = unfailed_plain fall u
unfailed_kept fall path sole PlainAck e u = unfailed_plain fall u
unfailed_kept fall path sole KeysHeard e u = either IsUnfailed (is_identity fall.mode) _ _ u (record { finite = u.finite; unfailed = u.unfailed })
unfailed_kept fall path sole MappingHeard e u = unfailed_sure fall u
unfailed_kept fall path sole AckHeard e u = unfailed_sure fall u
unfailed_kept fall path sole InfiniteHeard e u =
    subst (λ (failed : Option ℕ). IsUnfailed (after_infinite path sole (standing fall.mode fall.confirmed fall.joined failed)).0)
    (sym u.unfailed) (unfailed_infinite fall.mode fall.confirmed fall.joined path sole u.finite)
unfailed_kept fall path sole CheckFailed e u = cc
unfailed_kept fall path sole (FailHeard contiguous) e u = cc
unfailed_kept fall path sole Stop e u = record { finite = refl; unfailed = u.unfailed }
