-- What holds of a lane, part by part: it is taken apart, parts are given anew, and it is put together for a lane and a stage of which
-- all other parts say the same.
use Rattle.std.proofs.Common.{◌≡◌, ℕ, ◌<◌, ◌≤◌, true}
use Rattle.pace.specs.Lane.{Setting, Lane, Stage}
use Rattle.pace.specs.Going.{Numbers, Since, InRound, UnderWay, IsToldSoon, NoneIsLost, FlagsCome, TimerIs, TurnsDone, RepeatsAreFew, Asked, Answered, Emitted, NoneIsDue, Going}

pub record Parts (N S R U T L F M H D P A W E X : Type 0) : Type 0 where
  pub numbers : N
  pub since : S
  pub round : R
  pub under_way : U
  pub told_soon : T
  pub none_lost : L
  pub flags : F
  pub timer : M
  pub shut : H
  pub turns : D
  pub repeats : P
  pub asked : A
  pub answered : W
  pub emitted : E
  pub none_due : X

abbrev pub IsShut : Lane → Type 0
IsShut w = w.shut ≡ true → (w.granted < w.written) × (1 ≤ w.ready)

abbrev pub PartsOf : Setting → Lane → ℕ → Stage → Lane → Type 0
PartsOf k s t p w = Parts (Numbers k w) (Since s w) (InRound k s t w) (UnderWay k w) (IsToldSoon w) (NoneIsLost s w) (FlagsCome w) (TimerIs k s t w) (IsShut w) (TurnsDone k s w) (RepeatsAreFew k p w) (Asked k s p w) (Answered k s p w) (Emitted k s p w) (NoneIsDue p w)

module _ {k : Setting} {s : Lane} {t : ℕ} {p : Stage} {w : Lane} where
  pub parts : Going k s t p w → PartsOf k s t p w
  parts h = record { numbers = h.numbers; since = h.since; round = h.round; under_way = h.under_way; told_soon = h.told_soon; none_lost = h.none_lost; flags = h.flags; timer = h.timer; shut = h.shut; turns = h.turns; repeats = h.repeats; asked = h.asked; answered = h.answered; emitted = h.emitted; none_due = h.none_due }

  pub whole : PartsOf k s t p w → Going k s t p w
  whole h = record { numbers = h.numbers; since = h.since; round = h.round; under_way = h.under_way; told_soon = h.told_soon; none_lost = h.none_lost; flags = h.flags; timer = h.timer; shut = h.shut; turns = h.turns; repeats = h.repeats; asked = h.asked; answered = h.answered; emitted = h.emitted; none_due = h.none_due }

module _ {N S R U T L F M H D P A W E X : Type 0} where
  -- what the lane counts, this round, and since the round began
  pub new_counts : {N' S' R' : Type 0} → N' → S' → R' → Parts N S R U T L F M H D P A W E X → Parts N' S' R' U T L F M H D P A W E X
  new_counts n s r h = record { numbers = n; since = s; round = r; under_way = h.under_way; told_soon = h.told_soon; none_lost = h.none_lost; flags = h.flags; timer = h.timer; shut = h.shut; turns = h.turns; repeats = h.repeats; asked = h.asked; answered = h.answered; emitted = h.emitted; none_due = h.none_due }

  pub new_turns : {Y : Type 0} → Y → Parts N S R U T L F M H D P A W E X → Parts N S R U T L F M H Y P A W E X
  new_turns y h = record { numbers = h.numbers; since = h.since; round = h.round; under_way = h.under_way; told_soon = h.told_soon; none_lost = h.none_lost; flags = h.flags; timer = h.timer; shut = h.shut; turns = y; repeats = h.repeats; asked = h.asked; answered = h.answered; emitted = h.emitted; none_due = h.none_due }

  pub new_under_way : {Y : Type 0} → Y → Parts N S R U T L F M H D P A W E X → Parts N S R Y T L F M H D P A W E X
  new_under_way y h = record { numbers = h.numbers; since = h.since; round = h.round; under_way = y; told_soon = h.told_soon; none_lost = h.none_lost; flags = h.flags; timer = h.timer; shut = h.shut; turns = h.turns; repeats = h.repeats; asked = h.asked; answered = h.answered; emitted = h.emitted; none_due = h.none_due }

  pub new_asked : {Y : Type 0} → Y → Parts N S R U T L F M H D P A W E X → Parts N S R U T L F M H D P Y W E X
  new_asked y h = record { numbers = h.numbers; since = h.since; round = h.round; under_way = h.under_way; told_soon = h.told_soon; none_lost = h.none_lost; flags = h.flags; timer = h.timer; shut = h.shut; turns = h.turns; repeats = h.repeats; asked = y; answered = h.answered; emitted = h.emitted; none_due = h.none_due }

  pub new_answered : {Y : Type 0} → Y → Parts N S R U T L F M H D P A W E X → Parts N S R U T L F M H D P A Y E X
  new_answered y h = record { numbers = h.numbers; since = h.since; round = h.round; under_way = h.under_way; told_soon = h.told_soon; none_lost = h.none_lost; flags = h.flags; timer = h.timer; shut = h.shut; turns = h.turns; repeats = h.repeats; asked = h.asked; answered = y; emitted = h.emitted; none_due = h.none_due }

  pub new_emitted : {Y : Type 0} → Y → Parts N S R U T L F M H D P A W E X → Parts N S R U T L F M H D P A W Y X
  new_emitted y h = record { numbers = h.numbers; since = h.since; round = h.round; under_way = h.under_way; told_soon = h.told_soon; none_lost = h.none_lost; flags = h.flags; timer = h.timer; shut = h.shut; turns = h.turns; repeats = h.repeats; asked = h.asked; answered = h.answered; emitted = y; none_due = h.none_due }

  pub new_none_due : {Y : Type 0} → Y → Parts N S R U T L F M H D P A W E X → Parts N S R U T L F M H D P A W E Y
  new_none_due y h = record { numbers = h.numbers; since = h.since; round = h.round; under_way = h.under_way; told_soon = h.told_soon; none_lost = h.none_lost; flags = h.flags; timer = h.timer; shut = h.shut; turns = h.turns; repeats = h.repeats; asked = h.asked; answered = h.answered; emitted = h.emitted; none_due = y }

  pub new_timer : {Y : Type 0} → Y → Parts N S R U T L F M H D P A W E X → Parts N S R U T L F Y H D P A W E X
  new_timer y h = record { numbers = h.numbers; since = h.since; round = h.round; under_way = h.under_way; told_soon = h.told_soon; none_lost = h.none_lost; flags = h.flags; timer = y; shut = h.shut; turns = h.turns; repeats = h.repeats; asked = h.asked; answered = h.answered; emitted = h.emitted; none_due = h.none_due }

  pub new_repeats : {Y : Type 0} → Y → Parts N S R U T L F M H D P A W E X → Parts N S R U T L F M H D Y A W E X
  new_repeats y h = record { numbers = h.numbers; since = h.since; round = h.round; under_way = h.under_way; told_soon = h.told_soon; none_lost = h.none_lost; flags = h.flags; timer = h.timer; shut = h.shut; turns = h.turns; repeats = y; asked = h.asked; answered = h.answered; emitted = h.emitted; none_due = h.none_due }

  pub new_shut : {Y : Type 0} → Y → Parts N S R U T L F M H D P A W E X → Parts N S R U T L F M Y D P A W E X
  new_shut y h = record { numbers = h.numbers; since = h.since; round = h.round; under_way = h.under_way; told_soon = h.told_soon; none_lost = h.none_lost; flags = h.flags; timer = h.timer; shut = y; turns = h.turns; repeats = h.repeats; asked = h.asked; answered = h.answered; emitted = h.emitted; none_due = h.none_due }
