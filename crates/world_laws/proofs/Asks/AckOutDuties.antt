-- Where bytes or an end were told to a reassembly book, the book is asked what is to be acknowledged before the end sends anything.
--
-- The book is asked before anything is sent (`proofs/Asks/AckOutDuties`, `AckOutBeforeSending`): after bytes or an end
-- were told, the duty that asks what is to be acknowledged is ahead, and nothing but tellings before it (`guarded`).
-- One table says of each duty that it tells nothing and leaves the agenda in shape (`Goes`); the seven that tell or ask
-- are spoken of one by one.
--
-- That something is done within a turn goes by the agenda: a test of lists of duties (`comes`: the duty is ahead,
-- behind others that leave the end as it has to be), which each step keeps until the duty was done, and which no list
-- has as the turn ends.
use Rattle.world_laws.proofs.Words.{◌&&◌, ◌||◌, Bool, true, false, List, [], ◌∷◌, Side, same_side, Duty, StepDuty, AskDuty, SilentDuty}

-- ---- what is to be done before

-- by this duty the book is asked
abbrev pub is_asking : Side → Duty → Bool
is_asking s (Duty.Ask (AskDuty.AckOut t)) = same_side s t
is_asking s (Duty.Ask (AskDuty.BreakAck t reason)) = same_side s t
is_asking s _ = false

-- what may come before it
abbrev pub is_telling : Side → Duty → Bool
is_telling s (Duty.Ask (AskDuty.Edge t)) = same_side s t
is_telling s (Duty.Ask (AskDuty.CheckFailed t)) = same_side s t
is_telling s (Duty.Ask (AskDuty.GoIdentity t)) = same_side s t
is_telling s (Duty.Step (StepDuty.Unmapped t)) = same_side s t
is_telling s (Duty.Ask (AskDuty.HeardFin t index)) = same_side s t
is_telling s (Duty.Silent (SilentDuty.PassFin t)) = same_side s t
is_telling s (Duty.Ask (AskDuty.SubflowFin t)) = same_side s t
is_telling s _ = false

abbrev pub is_shield : Side → Duty → Bool
is_shield s d = is_asking s d || is_telling s d

-- the book is asked before the end does anything else
abbrev pub guarded : Side → List Duty → Bool
guarded s [] = false
guarded s (d ∷ ds) = is_asking s d || (is_telling s d && guarded s ds)

-- what a duty by which a book is told needs behind it
abbrev pub needs : Duty → List Duty → Bool
needs (Duty.Ask (AskDuty.Edge s)) ds = guarded s ds
needs (Duty.Ask (AskDuty.HeardFin s index)) ds = guarded s ds
needs (Duty.Ask (AskDuty.SubflowFin s)) ds = guarded s ds
needs _ ds = true

abbrev pub is_sheltered : List Duty → Bool
is_sheltered [] = true
is_sheltered (d ∷ ds) = needs d ds && is_sheltered ds
