-- What a call of a control book is to where its side stands: it falls back, it joins, or neither.
use Rattle.world_laws.proofs.Words.{◌≡◌, refl, sym, ◌∙◌, ap, ℕ, ◌&&◌, ◌||◌, ◌==◌, not, inl, inr, ◌⊎◌, Bool, true, false, if◌then◌else◌, Some, is_none}
use Rattle.world_laws.proofs.Words.{and_parts, both_ways, false≢true, Verdict, Mode, FallEvent, is_identity, is_starting, reads_mappings, with_infinite_receive, with_infinite_send}
use Rattle.world_laws.proofs.Words.{writes_mappings, Fall, is_failed_path, goes, fall_step, token_of, ControlCall, ControlReply, Notice, sole_path, Control}
use Rattle.world_laws.proofs.Words.{Reply, is_fall}
use Rattle.fallback_state.specs.Table.{stays, breaks}
use Rattle.control_book.specs.Replies as control
use Rattle.control_book.specs.Steps as controlling

-- ---- plain TCP

-- A side that joined nothing is in plain TCP, or may have been before the connection was stopped: a stop forgets it.
abbrev pub plain_of : Mode → Bool → Bool
plain_of Mode.Identity joined = not joined
plain_of Mode.Aborted joined = not joined
plain_of _ joined = false

abbrev pub is_plain : Fall → Bool
is_plain f = plain_of f.mode f.joined

-- a side in plain TCP joined nothing
abbrev pub IsUnjoined : Fall → Type 0
IsUnjoined f = is_identity f.mode ≡ true → f.joined ≡ false

-- ---- infinite mappings

-- A side receives by an infinite mapping, or may have done so before the connection was stopped.
abbrev pub loose_of : Mode → Bool
loose_of Mode.InfiniteReceive = true
loose_of Mode.InfiniteBoth = true
loose_of Mode.Aborted = true
loose_of _ = false

abbrev pub is_loose : Fall → Bool
is_loose f = loose_of f.mode

-- as before, or from now on
abbrev pub Loosened : Fall → Fall → Type 0
Loosened f g = (is_loose g ≡ is_loose f) ⊎ (is_loose g ≡ true)

reads_tight : (m : Mode) → reads_mappings m ≡ true → loose_of m ≡ false
reads_tight Mode.InfiniteReceive is = absurd (false≢true is)
reads_tight Mode.InfiniteBoth is = absurd (false≢true is)
reads_tight Mode.Aborted is = absurd (false≢true is)
reads_tight _ is = refl

starting_tight : (m : Mode) → is_starting m ≡ true → loose_of m ≡ false
starting_tight Mode.InfiniteReceive is = absurd (false≢true is)
starting_tight Mode.InfiniteBoth is = absurd (false≢true is)
starting_tight Mode.Aborted is = absurd (false≢true is)
starting_tight _ is = refl

receiving_loose : (m : Mode) → loose_of (with_infinite_receive m) ≡ true
receiving_loose = elim [ Mode.Starting ↦ refl | _ ↦ refl ]

sending_loose : (m : Mode) → writes_mappings m ≡ true → loose_of (with_infinite_send m) ≡ loose_of m
sending_loose = elim [ Mode.Aborted ↦ λ is. absurd (false≢true is) | _ ↦ λ is. refl ]

-- ---- what becomes of a fall

-- the side is in plain TCP as before, and has joined as before
pub record SameFall (f g : Fall) : Type 0 where
  pub mode : is_plain g ≡ is_plain f
  pub joined : g.joined ≡ f.joined
  pub loose : Loosened f g
  pub unjoined : IsUnjoined f → IsUnjoined g

-- a side that joined nothing fell back, or was stopped
pub record FellBack (f g : Fall) : Type 0 where
  pub mode : is_plain g ≡ true
  pub was : f.joined ≡ false
  pub joined : g.joined ≡ f.joined
  pub loose : Loosened f g

-- a side that isn't in plain TCP has joined
pub record HasJoined (f g : Fall) : Type 0 where
  pub was : is_plain f ≡ false
  pub mode : is_plain g ≡ is_plain f
  pub joined : g.joined ≡ true
  pub loose : Loosened f g
  pub unjoined : is_identity g.mode ≡ false

abbrev pub Fallen : Fall → Fall → Type 0
Fallen f g = SameFall f g ⊎ FellBack f g

same_fall : (f : Fall) → Fallen f f
same_fall f = inl (record { mode = refl; joined = refl; loose = inl refl; unjoined = λ h. h })

starting_plain : (m : Mode) (joined : Bool) → is_starting m ≡ true → plain_of m joined ≡ false
starting_plain Mode.Identity joined is = absurd (false≢true is)
starting_plain Mode.Aborted joined is = absurd (false≢true is)
starting_plain _ joined is = refl

reads_plain : (m : Mode) (joined : Bool) → reads_mappings m ≡ true → plain_of m joined ≡ false
reads_plain Mode.Identity joined is = absurd (false≢true is)
reads_plain Mode.Aborted joined is = absurd (false≢true is)
reads_plain _ joined is = refl

writes_plain : (m : Mode) (joined : Bool) → writes_mappings m ≡ true → plain_of m joined ≡ false
writes_plain Mode.Identity joined is = absurd (false≢true is)
writes_plain Mode.Aborted joined is = absurd (false≢true is)
writes_plain _ joined is = refl

receiving_plain : (m : Mode) (joined : Bool) → plain_of (with_infinite_receive m) joined ≡ false
receiving_plain = elim [ Mode.Starting ↦ λ joined. refl | _ ↦ λ joined. refl ]

sending_plain : (m : Mode) (joined : Bool) → plain_of (with_infinite_send m) joined ≡ false
sending_plain = elim [ Mode.Starting ↦ λ joined. refl | _ ↦ λ joined. refl ]

receiving_apart : (m : Mode) → is_identity (with_infinite_receive m) ≡ false
receiving_apart = elim [ Mode.Starting ↦ refl | _ ↦ refl ]

sending_apart : (m : Mode) → is_identity (with_infinite_send m) ≡ false
sending_apart = elim [ Mode.Starting ↦ refl | _ ↦ refl ]

-- of a row that applies where this holds
fallen_if : (b : Bool) (f : Fall) (x y : Fall × Verdict) → (b ≡ true → Fallen f x.0) → (b ≡ false → Fallen f y.0) → Fallen f (if b then x else y).0
fallen_if = elim [ true ↦ λ f x y is isnt. is refl | false ↦ λ f x y is isnt. isnt refl ]

not_twice : (b : Bool) → not b ≡ false → b ≡ true
not_twice = elim [ true ↦ λ is. refl | false ↦ λ is. absurd (false≢true (sym is)) ]

not_true : (b : Bool) → not b ≡ true → b ≡ false
not_true = elim [ true ↦ λ is. absurd (false≢true is) | false ↦ λ is. refl ]

sign_falls : (f : Fall) → Fallen f (if is_starting f.mode then goes Mode.Sure f else stays f).0
sign_falls f =
    fallen_if (is_starting f.mode) f (goes Mode.Sure f) (stays f) (λ is. inl (record { mode = sym (starting_plain f.mode f.joined is); joined = refl; loose = inl (sym (starting_tight f.mode is)); unjoined = λ h never. absurd (false≢true never) })) (λ isnt. same_fall f)

plain_falls : (f : Fall) → Fallen f (if is_starting f.mode && not f.joined then goes Mode.Identity f else stays f).0
plain_falls f =
    fallen_if (is_starting f.mode && not f.joined) f (goes Mode.Identity f) (stays f)
    (λ is. (let parts = and_parts (is_starting f.mode) (not f.joined) is in inr (record { mode = parts.1; was = not_true f.joined parts.1; joined = refl; loose = inl (sym (starting_tight f.mode parts.0)) })))
    (λ isnt. same_fall f)

infinite_falls : (path : ℕ) (sole : Bool) (f : Fall) → Fallen f (fall_step f path sole FallEvent.InfiniteHeard).0
infinite_falls path sole f =
    let falls : Bool = writes_mappings f.mode && not f.joined && is_none f.failed in
    let last : Fall × Verdict = if falls then goes Mode.Identity f else breaks 1 f in
    let rest : Fall × Verdict = if sole && is_failed_path f.failed path then goes (with_infinite_receive f.mode) f else last in
    fallen_if (not (reads_mappings f.mode)) f (stays f) rest (λ is. same_fall f)
    (λ reads. fallen_if (sole && is_failed_path f.failed path) f (goes (with_infinite_receive f.mode) f) last
    (λ is. inl (record { mode = receiving_plain f.mode f.joined ∙ sym (reads_plain f.mode f.joined (not_twice (reads_mappings f.mode) reads)); joined = refl; loose = inr (receiving_loose f.mode); unjoined = λ h is. absurd (both_ways _ (receiving_apart f.mode) is) }))
    (λ isnt. fallen_if falls f (goes Mode.Identity f) (breaks 1 f)
    (λ is.
    let none = (and_parts (writes_mappings f.mode) (not f.joined) (and_parts (writes_mappings f.mode && not f.joined) (is_none f.failed) is).0).1 in
    inr (record { mode = none; was = not_true f.joined none; joined = refl; loose = inl (sym (reads_tight f.mode (not_twice (reads_mappings f.mode) reads))) }))
    (λ other. same_fall f)))

check_falls : (path : ℕ) (sole : Bool) (f : Fall) → Fallen f (fall_step f path sole FallEvent.CheckFailed).0
check_falls path sole f =
    let noted : Fall × Verdict = (record f { failed = Some path }, Verdict.SendFail) in
    let rest : Fall × Verdict = if sole then noted else breaks 6 f in
    fallen_if (not (reads_mappings f.mode)) f (stays f) rest (λ is. same_fall f)
    (λ reads. fallen_if sole f noted (breaks 6 f) (λ is. inl (record { mode = refl; joined = refl; loose = inl refl; unjoined = λ h. h })) (λ isnt. same_fall f))

fail_falls : (path : ℕ) (sole contiguous : Bool) (f : Fall) → Fallen f (fall_step f path sole (FallEvent.FailHeard contiguous)).0
fail_falls path sole contiguous f =
    let rest : Fall × Verdict = if sole && contiguous then goes (with_infinite_send f.mode) f else breaks 1 f in
    fallen_if (not (writes_mappings f.mode)) f (stays f) rest (λ is. same_fall f)
    (λ writes. fallen_if (sole && contiguous) f (goes (with_infinite_send f.mode) f) (breaks 1 f)
    (λ is. inl (record { mode = sending_plain f.mode f.joined ∙ sym (writes_plain f.mode f.joined (not_twice (writes_mappings f.mode) writes)); joined = refl; loose = inl (sending_loose f.mode (not_twice (writes_mappings f.mode) writes)); unjoined = λ h is. absurd (both_ways _ (sending_apart f.mode) is) }))
    (λ isnt. same_fall f))

keys_falls : (f : Fall) → Fallen f (fall_step f 0 false FallEvent.KeysHeard).0
keys_falls f =
    let known : Fall × Verdict = (record f { confirmed = true }, Verdict.Stay) in
    fallen_if (is_identity f.mode) f (stays f) known (λ is. same_fall f) (λ isnt. inl (record { mode = refl; joined = refl; loose = inl refl; unjoined = λ h. h }))

-- where a side is stopped: one that joined nothing may have fallen back before
aborted_plain : (m : Mode) → false ≡ plain_of m true
aborted_plain = elim [ Mode.Starting ↦ refl | _ ↦ refl ]

stop_falls : (f : Fall) → Fallen f (goes Mode.Aborted f).0
stop_falls f = elim f.joined as (λ joined. Fallen (record f { joined = joined }) (goes Mode.Aborted (record f { joined = joined })).0) [
  | true ↦ inl (record { mode = aborted_plain f.mode; joined = refl; loose = inr refl; unjoined = λ h never. absurd (false≢true never) })
  | false ↦ inr (record { mode = refl; was = refl; joined = refl; loose = inr refl })
]

pub event_falls : (path : ℕ) (sole : Bool) (event : FallEvent) (f : Fall) → Fallen f (fall_step f path sole event).0
event_falls path sole FallEvent.MappingHeard f = sign_falls f
event_falls path sole FallEvent.AckHeard f = sign_falls f
event_falls path sole FallEvent.InfiniteHeard f = infinite_falls path sole f
event_falls path sole FallEvent.KeysHeard f = keys_falls f
event_falls path sole FallEvent.CheckFailed f = check_falls path sole f
event_falls path sole (FallEvent.FailHeard contiguous) f = fail_falls path sole contiguous f
event_falls path sole FallEvent.Stop f = stop_falls f
event_falls path sole _ f = plain_falls f

-- ---- what becomes of a book

-- calls by which a side may fall, may join, or none of that
abbrev pub Called : ControlCall → Fall → Fall → Type 0
Called (ControlCall.JoinBegin path) f g = SameFall f g ⊎ HasJoined f g
Called (ControlCall.JoinHeard path token) f g = SameFall f g ⊎ HasJoined f g
Called call f g = Fallen f g

if_fallen : (b : Bool) (f : Fall) (c d : Control) → Fallen f c.fall → Fallen f d.fall → Fallen f (if b then c else d).fall
if_fallen = elim [ true ↦ λ f c d x y. x | false ↦ λ f c d x y. y ]

if_joined : (b : Bool) (c : Control) (d : Control) → (b ≡ true → HasJoined c.fall d.fall) → SameFall c.fall (if b then d else c).fall ⊎ HasJoined c.fall (if b then d else c).fall
if_joined true c d is = inr (is refl)
if_joined false c d is = inl (record { mode = refl; joined = refl; loose = inl refl; unjoined = λ h. h })

notice_falls : (n : Notice) (path : ℕ) (c : Control) → Fallen c.fall (controlling.after_notice n path c).fall
notice_falls = elim [ Notice.Withdraw id ↦ λ path c. same_fall c.fall | _ ↦ λ path c. same_fall c.fall ]

sure_plain : (m : Mode) (joined : Bool) → control.is_sure m ≡ true → plain_of m joined ≡ false
sure_plain Mode.Identity joined is = absurd (false≢true is)
sure_plain Mode.Aborted joined is = absurd (false≢true is)
sure_plain _ joined is = refl

begun_plain : (m : Mode) (joined : Bool) → control.is_starting m || control.is_sure m ≡ true → plain_of m joined ≡ false
begun_plain Mode.Identity joined is = absurd (false≢true is)
begun_plain Mode.Aborted joined is = absurd (false≢true is)
begun_plain _ joined is = refl

sure_apart : (m : Mode) → control.is_sure m ≡ true → is_identity m ≡ false
sure_apart = elim [ Mode.Identity ↦ λ is. absurd (false≢true is) | _ ↦ λ is. refl ]

begun_apart : (m : Mode) → control.is_starting m || control.is_sure m ≡ true → is_identity m ≡ false
begun_apart = elim [ Mode.Identity ↦ λ is. absurd (false≢true is) | _ ↦ λ is. refl ]

pub call_falls : (c : Control) (call : ControlCall) → Called call c.fall (controlling.after c call).fall
call_falls c (ControlCall.Look path) = notice_falls (control.notice_on c path) path c
call_falls c (ControlCall.PeerKey key) = same_fall c.fall
call_falls c (ControlCall.Keys own other) =
    if_fallen (own == c.keys.own) c.fall (controlling.after_event 0 false FallEvent.KeysHeard (controlling.after_peer_key other c)) c (keys_falls c.fall) (same_fall c.fall)
call_falls c (ControlCall.Fell path event) = event_falls path (sole_path c.paths path) event c.fall
call_falls c (ControlCall.JoinBegin path) =
    if_joined (control.may_join c) c _ (λ may. let sure = (and_parts (control.is_sure c.fall.mode) (is_none c.fall.failed) may).0 in record { was = sure_plain c.fall.mode c.fall.joined sure; mode = sure_plain c.fall.mode true sure ∙ sym (sure_plain c.fall.mode c.fall.joined sure); joined = refl; loose = inl refl; unjoined = sure_apart c.fall.mode sure })
call_falls c (ControlCall.JoinHeard path token) =
    let begun : Bool = control.is_starting c.fall.mode || control.is_sure c.fall.mode in
    if_joined (token == token_of c.keys.own && c.fall.confirmed && begun) c (controlling.after_join c)
    (λ all.
    let may = (and_parts (token == token_of c.keys.own && c.fall.confirmed) begun all).1 in record {
      was = begun_plain c.fall.mode c.fall.joined may;
      mode = begun_plain c.fall.mode true may ∙ sym (begun_plain c.fall.mode c.fall.joined may);
      joined = refl;
      loose = inl refl;
      unjoined = begun_apart c.fall.mode may;
    })
call_falls c (ControlCall.Withdraw id) = if_fallen _ c.fall _ c (same_fall c.fall) (same_fall c.fall)
call_falls c (ControlCall.Echoed id) = if_fallen _ c.fall _ c (same_fall c.fall) (same_fall c.fall)
call_falls c (ControlCall.Removed id) = if_fallen _ c.fall _ c (same_fall c.fall) (same_fall c.fall)
call_falls c ControlCall.FastClose = stop_falls c.fall
call_falls c (ControlCall.FastHeard key) = if_fallen _ c.fall _ c (stop_falls c.fall) (same_fall c.fall)
call_falls c _ = same_fall c.fall

-- ---- what stays

-- a side that fell back stays so
pub fallen_stays : (f g : Fall) → Fallen f g → is_plain f ≡ true → is_plain g ≡ true
fallen_stays f g (inl same) is = same.mode ∙ is
fallen_stays f g (inr fell) is = fell.mode

joined_stays : (f g : Fall) → SameFall f g ⊎ HasJoined f g → is_plain f ≡ true → is_plain g ≡ true
joined_stays f g (inl same) is = same.mode ∙ is
joined_stays f g (inr joined) is = joined.mode ∙ is

pub plain_stays : (c : Control) (call : ControlCall) → is_plain c.fall ≡ true → is_plain (controlling.after c call).fall ≡ true
plain_stays c (ControlCall.JoinBegin path) is = joined_stays c.fall _ (call_falls c (ControlCall.JoinBegin path)) is
plain_stays c (ControlCall.JoinHeard path token) is = joined_stays c.fall _ (call_falls c (ControlCall.JoinHeard path token)) is
plain_stays c call is = fallen_stays c.fall _ (call_falls c call) is

-- a side joins by no other calls
abbrev pub IsNoJoin : ControlCall → Type 0
IsNoJoin (ControlCall.JoinBegin path) = ⊥
IsNoJoin (ControlCall.JoinHeard path token) = ⊥
IsNoJoin call = Unit {0}

fallen_joined : (f g : Fall) → Fallen f g → g.joined ≡ f.joined
fallen_joined f g (inl same) = same.joined
fallen_joined f g (inr fell) = fell.joined

pub same_joined : (c : Control) (call : ControlCall) → IsNoJoin call → (controlling.after c call).fall.joined ≡ c.fall.joined
same_joined c (ControlCall.JoinBegin path) none = absurd none
same_joined c (ControlCall.JoinHeard path token) none = absurd none
same_joined c call none = fallen_joined c.fall _ (call_falls c call)

fallen_unjoined : (f g : Fall) → Fallen f g → IsUnjoined f → IsUnjoined g
fallen_unjoined f g (inl same) h is = same.unjoined h is
fallen_unjoined f g (inr fell) h is = fell.joined ∙ fell.was

begun_unjoined : (f g : Fall) → SameFall f g ⊎ HasJoined f g → IsUnjoined f → IsUnjoined g
begun_unjoined f g (inl same) h is = same.unjoined h is
begun_unjoined f g (inr begun) h is = absurd (both_ways _ begun.unjoined is)

pub unjoined_stays : (c : Control) (call : ControlCall) → IsUnjoined c.fall → IsUnjoined (controlling.after c call).fall
unjoined_stays c (ControlCall.JoinBegin path) h = begun_unjoined c.fall _ (call_falls c (ControlCall.JoinBegin path)) h
unjoined_stays c (ControlCall.JoinHeard path token) h = begun_unjoined c.fall _ (call_falls c (ControlCall.JoinHeard path token)) h
unjoined_stays c call h = fallen_unjoined c.fall _ (call_falls c call) h

-- a side that is in plain TCP, or may have been before a stop, has joined nothing
plain_unjoined : (m : Mode) (joined : Bool) → plain_of m joined ≡ true → joined ≡ false
plain_unjoined Mode.Identity joined is = not_true joined is
plain_unjoined Mode.Aborted joined is = not_true joined is
plain_unjoined _ joined is = absurd (false≢true is)

pub fell_unjoined : (f : Fall) → is_plain f ≡ true → f.joined ≡ false
fell_unjoined f is = plain_unjoined f.mode f.joined is

-- one in plain TCP that joined nothing is
identity_plain : (m : Mode) (joined : Bool) → is_identity m ≡ true → joined ≡ false → plain_of m joined ≡ true
identity_plain = elim [ Mode.Identity ↦ λ joined is none. ap not none | _ ↦ λ joined is none. absurd (false≢true is) ]

pub fell_plain : (f : Fall) → IsUnjoined f → is_identity f.mode ≡ true → is_plain f ≡ true
fell_plain f h is = identity_plain f.mode f.joined is (h is)

-- and is in plain TCP still, or stopped
plain_or_stopped : (m : Mode) (joined : Bool) → plain_of m joined ≡ true → (is_identity m || control.is_aborted m) ≡ true
plain_or_stopped Mode.Identity joined is = refl
plain_or_stopped Mode.Aborted joined is = refl
plain_or_stopped _ joined is = absurd (false≢true is)

pub fell_or_stopped : (f : Fall) → is_plain f ≡ true → (is_identity f.mode || control.is_aborted f.mode) ≡ true
fell_or_stopped f is = plain_or_stopped f.mode f.joined is

-- ---- what a verdict tells

abbrev pub tells_fall : Verdict → Bool
tells_fall v = is_fall (Reply.Control (ControlReply.Verdict v))

-- where this row tells of a fall, the side is in plain TCP and joined nothing
abbrev pub RowFalls : Fall × Verdict → Type 0
RowFalls row = tells_fall row.1 ≡ true → (is_plain row.0 ≡ true) × (row.0.joined ≡ false) × (is_identity row.0.mode ≡ true)

row_if : (b : Bool) (x y : Fall × Verdict) → (b ≡ true → RowFalls x) → (b ≡ false → RowFalls y) → RowFalls (if b then x else y)
row_if = elim [ true ↦ λ x y is isnt. is refl | false ↦ λ x y is isnt. isnt refl ]

receiving_tells : (m : Mode) → tells_fall (Verdict.Went (with_infinite_receive m)) ≡ false
receiving_tells = elim [ Mode.Starting ↦ refl | _ ↦ refl ]

sending_tells : (m : Mode) → tells_fall (Verdict.Went (with_infinite_send m)) ≡ false
sending_tells = elim [ Mode.Starting ↦ refl | _ ↦ refl ]

calm_row : (row : Fall × Verdict) → tells_fall row.1 ≡ false → RowFalls row
calm_row row calm tells = absurd (false≢true (sym calm ∙ tells))

plain_row : (f : Fall) → RowFalls (if is_starting f.mode && not f.joined then goes Mode.Identity f else stays f)
plain_row f =
    row_if (is_starting f.mode && not f.joined) (goes Mode.Identity f) (stays f)
    (λ is tells. let none = (and_parts (is_starting f.mode) (not f.joined) is).1 in (none, not_true f.joined none, refl)) (λ isnt. calm_row (stays f) refl)

sign_row : (f : Fall) → RowFalls (if is_starting f.mode then goes Mode.Sure f else stays f)
sign_row f = row_if (is_starting f.mode) (goes Mode.Sure f) (stays f) (λ is. calm_row (goes Mode.Sure f) refl) (λ isnt. calm_row (stays f) refl)

pub row_falls : (path : ℕ) (sole : Bool) (event : FallEvent) (f : Fall) → RowFalls (fall_step f path sole event)
row_falls path sole FallEvent.MappingHeard f = sign_row f
row_falls path sole FallEvent.AckHeard f = sign_row f
row_falls path sole FallEvent.PlainHandshake f = plain_row f
row_falls path sole FallEvent.PlainData f = plain_row f
row_falls path sole FallEvent.PlainAck f = plain_row f
row_falls path sole FallEvent.InfiniteHeard f =
    let falls : Bool = writes_mappings f.mode && not f.joined && is_none f.failed in
    let last : Fall × Verdict = if falls then goes Mode.Identity f else breaks 1 f in
    let rest : Fall × Verdict = if sole && is_failed_path f.failed path then goes (with_infinite_receive f.mode) f else last in
    row_if (not (reads_mappings f.mode)) (stays f) rest (λ is. calm_row (stays f) refl)
    (λ reads. row_if (sole && is_failed_path f.failed path) (goes (with_infinite_receive f.mode) f) last (λ is. calm_row (goes (with_infinite_receive f.mode) f) (receiving_tells f.mode))
    (λ isnt. row_if falls (goes Mode.Identity f) (breaks 1 f)
    (λ is tells.
    let none = (and_parts (writes_mappings f.mode) (not f.joined) (and_parts (writes_mappings f.mode && not f.joined) (is_none f.failed) is).0).1 in (none, not_true f.joined none, refl))
    (λ other. calm_row (breaks 1 f) refl)))
row_falls path sole FallEvent.KeysHeard f =
    let known : Fall × Verdict = (record f { confirmed = true }, Verdict.Stay) in
    row_if (is_identity f.mode) (stays f) known (λ is. calm_row (stays f) refl) (λ isnt. calm_row known refl)
row_falls path sole FallEvent.CheckFailed f =
    let noted : Fall × Verdict = (record f { failed = Some path }, Verdict.SendFail) in
    let rest : Fall × Verdict = if sole then noted else breaks 6 f in
    row_if (not (reads_mappings f.mode)) (stays f) rest (λ is. calm_row (stays f) refl)
    (λ reads. row_if sole noted (breaks 6 f) (λ is. calm_row noted refl) (λ isnt. calm_row (breaks 6 f) refl))
row_falls path sole (FallEvent.FailHeard contiguous) f =
    let rest : Fall × Verdict = if sole && contiguous then goes (with_infinite_send f.mode) f else breaks 1 f in
    row_if (not (writes_mappings f.mode)) (stays f) rest (λ is. calm_row (stays f) refl)
    (λ writes. row_if (sole && contiguous) (goes (with_infinite_send f.mode) f) (breaks 1 f) (λ is. calm_row (goes (with_infinite_send f.mode) f) (sending_tells f.mode)) (λ isnt. calm_row (breaks 1 f) refl))
row_falls path sole FallEvent.Stop f = calm_row (goes Mode.Aborted f) refl
