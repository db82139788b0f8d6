-- The laws of the table, over every list of events on any paths, sole or not.
use Rattle.std.specs.Prelude.{◌≡◌, ◌≢◌, ℕ, Bool, true, false, None, List, [], ◌∷◌, All, IsTrue}
use Rattle.std.specs.List.{list_any}
use Rattle.fallback_state.specs.declared.fall.Fall.{Fall}
use Rattle.fallback_state.specs.declared.fall.Mode.TheVariants.{Starting, Identity, Aborted}
use Rattle.fallback_state.specs.declared.fall.Event.{Event}
use Rattle.fallback_state.specs.declared.fall.Event.TheVariants.{PlainHandshake, PlainData, PlainAck, KeysHeard, MappingHeard, AckHeard, InfiniteHeard, CheckFailed, FailHeard, Stop}
use Rattle.fallback_state.specs.Fall.{opening}
use Rattle.fallback_state.specs.Modes.{is_infinite}
use Rattle.fallback_state.specs.Table.{fall_step}

-- an event on a path, which is the sole one or not
pub record Happening : Type 0 where
  pub path : ℕ
  pub sole : Bool
  pub event : Event

-- where a side stands after all of them
abbrev pub after_all : List Happening → Fall → Fall
after_all [] fall = fall
after_all (h ∷ hs) fall = after_all hs (fall_step fall h.path h.sole h.event).0

-- a fast close
abbrev pub is_stop : Event → Bool
is_stop Stop = true
is_stop PlainHandshake = false
is_stop PlainData = false
is_stop PlainAck = false
is_stop KeysHeard = false
is_stop MappingHeard = false
is_stop AckHeard = false
is_stop InfiniteHeard = false
is_stop CheckFailed = false
is_stop (FailHeard contiguous) = false

-- a wrong checksum, at this side or told by the peer
abbrev pub is_failure : Event → Bool
is_failure CheckFailed = true
is_failure (FailHeard contiguous) = true
is_failure PlainHandshake = false
is_failure PlainData = false
is_failure PlainAck = false
is_failure KeysHeard = false
is_failure MappingHeard = false
is_failure AckHeard = false
is_failure InfiniteHeard = false
is_failure Stop = false

-- a side that began or answered a join, and is not in Identity, never comes there
abbrev pub JoinedSidesNeverFall : Type 0
JoinedSidesNeverFall = (fall : Fall) (hs : List Happening) → fall.joined ≡ true → fall.mode ≢ Identity → (after_all hs fall).mode ≢ Identity

-- without a fast close a side in Identity stands as it stood
abbrev pub IdentityStays : Type 0
IdentityStays = (fall : Fall) (hs : List Happening) → fall.mode ≡ Identity → All (λ h. is_stop h.event ≡ false) hs → after_all hs fall ≡ fall

-- with one it is aborted
abbrev pub IdentityIsStopped : Type 0
IdentityIsStopped = (fall : Fall) (hs : List Happening) → fall.mode ≡ Identity → IsTrue (list_any (λ h. is_stop h.event) hs) → (after_all hs fall).mode ≡ Aborted

-- a side that is not starting never starts again; so Sure is never followed by Starting
abbrev pub NoSideStartsAgain : Type 0
NoSideStartsAgain = (fall : Fall) (hs : List Happening) → fall.mode ≢ Starting → (after_all hs fall).mode ≢ Starting

-- a confirmed side stays so
abbrev pub ConfirmedStays : Type 0
ConfirmedStays = (fall : Fall) (hs : List Happening) → fall.confirmed ≡ true → (after_all hs fall).confirmed ≡ true

-- no event touches whether the side joined
abbrev pub JoinedStays : Type 0
JoinedStays = (fall : Fall) (hs : List Happening) → (after_all hs fall).joined ≡ fall.joined

-- from the opening on, without a failure no side is in an infinite mode, and none has a failed path
abbrev pub InfiniteAfterFailure : Type 0
InfiniteAfterFailure = (hs : List Happening) → All (λ h. is_failure h.event ≡ false) hs
    → (is_infinite (after_all hs opening).mode ≡ false) × ((after_all hs opening).failed ≡ None)

-- an aborted side stays aborted
abbrev pub AbortedStays : Type 0
AbortedStays = (fall : Fall) (hs : List Happening) → fall.mode ≡ Aborted → (after_all hs fall).mode ≡ Aborted
