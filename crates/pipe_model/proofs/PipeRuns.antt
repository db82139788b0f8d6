-- What every list of steps keeps true of a pipe.
use Rattle.std.proofs.Common.{◌≡◌, refl, sym, ◌∙◌, ap, ℕ, ◌+◌, ◌≤◌, Bool, true, false, is_none, if◌then◌else◌, List, [], ◌∷◌, ◌++◌, length, take, drop, append_assoc, length-append, arith}
use Rattle.std.proofs.lemmas.Grind.{common_steps}
use Rattle.std.proofs.lemmas.List.{append-nil, take-append-le, take-append-drop}
use Rattle.std.proofs.lemmas.Bool.{false≢true}
use Rattle.std.proofs.Math.Seq.{take-add, take-length}
use Rattle.pipe_model.specs.declared.pipe.Pipe.{Pipe}
use Rattle.pipe_model.specs.declared.pipe.PipeStep.{PipeStep}
use Rattle.pipe_model.specs.declared.pipe.PipeStep.TheVariants.{Write, Close, Read, Ack, TellEnd}
use Rattle.pipe_model.specs.Pipe.{refusal, after, opening}
use Rattle.octet_text.specs.Prefix.{IsPrefix}
use Rattle.pipe_model.specs.Runs.{next, after_steps, given_by, written_by, piece_of, read_by, received_at, latest_received}

written-after : (step : PipeStep) (p : Pipe) → (after step p).written ≡ p.written ++ given_by step
written-after (Write bytes) p = refl
written-after _ p = sym (append-nil p.written)

written-next : (step : PipeStep) (p : Pipe) → (next step p).written ≡ p.written ++ (if is_none (refusal step p) then given_by step else [])
written-next step p =
    elim (is_none (refusal step p)) as (λ b. (if b then after step p else p).written ≡ p.written ++ (if b then given_by step else []))
    [ true ↦ written-after step p | false ↦ sym (append-nil p.written) ]

-- a pipe has what it had and what the steps write
pub written-after_steps : (steps : List PipeStep) (p : Pipe) → (after_steps steps p).written ≡ p.written ++ written_by steps p
written-after_steps [] p = sym (append-nil p.written)
written-after_steps (step ∷ steps) p =
    written-after_steps steps (next step p)
    ∙ ap (λ xs. xs ++ written_by steps (next step p)) (written-next step p)
    ∙ append_assoc p.written _ (written_by steps (next step p))

-- What is read at any moment is a prefix of what is written then.
pub record HasRead (p q : Pipe) (piece : List ℕ) : Type 0 where
  pub prefix : take q.read q.written ≡ take p.read p.written ++ piece
  pub within : q.read ≤ length q.written

within_if_allowed : (told : Bool) (count : ℕ) (p : Pipe) → p.told_end ≡ told → is_none (refusal (Read count) p) ≡ true → p.read + count ≤ length p.written
within_if_allowed told count p e h = grind arith

read-after : (step : PipeStep) (p : Pipe) → is_none (refusal step p) ≡ true → p.read ≤ length p.written → HasRead p (after step p) (piece_of step p)
read-after (Write bytes) p allowed within =
    record { prefix = take-append-le p.read p.written bytes within ∙ sym (append-nil (take p.read p.written)); within = grind (arith, common_steps) }
read-after Close p allowed within = record { prefix = sym (append-nil (take p.read p.written)); within = within }
read-after (Read count) p allowed within =
    record { prefix = take-add p.read count p.written; within = within_if_allowed _ count p refl allowed }
read-after (Ack to received) p allowed within = record { prefix = sym (append-nil (take p.read p.written)); within = within }
read-after TellEnd p allowed within = record { prefix = sym (append-nil (take p.read p.written)); within = within }

read-next_at : (step : PipeStep) (p : Pipe) (b : Bool) → is_none (refusal step p) ≡ b → p.read ≤ length p.written
    → HasRead p (if b then after step p else p) (if b then piece_of step p else [])
read-next_at step p true e within = read-after step p e within
read-next_at step p false e within = record { prefix = sym (append-nil (take p.read p.written)); within = within }

pub read-after_steps : (steps : List PipeStep) (p : Pipe) → p.read ≤ length p.written → HasRead p (after_steps steps p) (read_by steps p)
read-after_steps [] p within = record { prefix = sym (append-nil (take p.read p.written)); within = within }
read-after_steps (step ∷ steps) p within =
    let one = read-next_at step p (is_none (refusal step p)) refl within in
    let others = read-after_steps steps (next step p) one.within in
    record {
      prefix = others.prefix ∙ ap (λ xs. xs ++ read_by steps (next step p)) one.prefix
          ∙ append_assoc (take p.read p.written) _ (read_by steps (next step p));
      within = others.within;
    }

pub read_by-IsPrefix : (steps : List PipeStep) → IsPrefix (read_by steps opening) (written_by steps opening)
read_by-IsPrefix steps =
    let q : Pipe = after_steps steps opening in
    let prefix : take q.read q.written ≡ read_by steps opening = (read-after_steps steps opening (omega arith)).prefix in
    let whole : q.written ≡ written_by steps opening = written-after_steps steps opening in
    record {
      rest = drop q.read q.written;
      whole_is = sym whole ∙ sym (take-append-drop q.read q.written) ∙ ap (λ xs. xs ++ drop q.read q.written) prefix;
    }

-- The acknowledged bytes had been received, and these had been written.
pub record IsAcknowledged (p : Pipe) (received : ℕ) : Type 0 where
  pub acked : p.acked ≤ received
  pub written : received ≤ length p.written

acknowledged-allowed : (to received : ℕ) (p : Pipe) → is_none (refusal (Ack to received) p) ≡ true → (to ≤ received) × (received ≤ length p.written)
acknowledged-allowed to received p h = grind arith

acknowledged-after : (step : PipeStep) (p : Pipe) (before : ℕ) → is_none (refusal step p) ≡ true → IsAcknowledged p before → IsAcknowledged (after step p) (received_at step before)
acknowledged-after (Write bytes) p before allowed h = record { acked = h.acked; written = simp length-append (omega arith) }
acknowledged-after Close p before allowed h = record { acked = h.acked; written = h.written }
acknowledged-after (Read count) p before allowed h = record { acked = h.acked; written = h.written }
acknowledged-after (Ack to received) p before allowed h =
    let now = acknowledged-allowed to received p allowed in record { acked = now.0; written = now.1 }
acknowledged-after TellEnd p before allowed h = record { acked = h.acked; written = h.written }

acknowledged-next_at : (step : PipeStep) (p : Pipe) (before : ℕ) (b : Bool) → is_none (refusal step p) ≡ b → IsAcknowledged p before
    → IsAcknowledged (if b then after step p else p) (if b then received_at step before else before)
acknowledged-next_at step p before true e h = acknowledged-after step p before e h
acknowledged-next_at step p before false e h = h

pub acknowledged-after_steps : (steps : List PipeStep) (p : Pipe) (before : ℕ) → IsAcknowledged p before
    → IsAcknowledged (after_steps steps p) (latest_received steps p before)
acknowledged-after_steps [] p before h = h
acknowledged-after_steps (step ∷ steps) p before h =
    acknowledged-after_steps steps (next step p) _ (acknowledged-next_at step p before (is_none (refusal step p)) refl h)

-- The end was told: the pipe is closed, and all of it was read.
pub record IsEnded (p : Pipe) : Type 0 where
  pub told : p.told_end ≡ true
  pub closed : p.closed ≡ true
  pub whole : p.read ≡ length p.written

ended-allowed : (p : Pipe) → is_none (refusal TellEnd p) ≡ true → (p.closed ≡ true) × (p.read ≡ length p.written)
ended-allowed p h = grind arith

open_if_written : (bytes : List ℕ) (p : Pipe) → is_none (refusal (Write bytes) p) ≡ true → p.closed ≡ true → ⊥
open_if_written bytes p h e = grind arith

untold_if_read : (count : ℕ) (p : Pipe) → is_none (refusal (Read count) p) ≡ true → p.told_end ≡ true → ⊥
untold_if_read count p h e = grind arith

-- after the end a step that is allowed changes neither what was written nor what was read
ended-after : (step : PipeStep) (p : Pipe) → is_none (refusal step p) ≡ true → IsEnded p
    → IsEnded (after step p) × (given_by step ≡ []) × (piece_of step p ≡ [])
ended-after (Write bytes) p allowed h = absurd (open_if_written bytes p allowed h.closed)
ended-after Close p allowed h = (record { told = h.told; closed = refl; whole = h.whole }, refl, refl)
ended-after (Read count) p allowed h = absurd (untold_if_read count p allowed h.told)
ended-after (Ack to received) p allowed h = (record { told = h.told; closed = h.closed; whole = h.whole }, refl, refl)
ended-after TellEnd p allowed h = (record { told = refl; closed = h.closed; whole = h.whole }, refl, refl)

ended-next_at : (step : PipeStep) (p : Pipe) (b : Bool) → is_none (refusal step p) ≡ b → IsEnded p
    → IsEnded (if b then after step p else p) × ((if b then given_by step else []) ≡ []) × ((if b then piece_of step p else []) ≡ [])
ended-next_at step p true e h = ended-after step p e h
ended-next_at step p false e h = (h, refl, refl)

pub ended-steps : (steps : List PipeStep) (p : Pipe) → IsEnded p → (written_by steps p ≡ []) × (read_by steps p ≡ [])
ended-steps [] p h = (refl, refl)
ended-steps (step ∷ steps) p h =
    let one = ended-next_at step p (is_none (refusal step p)) refl h in
    let others = ended-steps steps (next step p) one.0 in
    (ap (λ xs. xs ++ written_by steps (next step p)) one.1 ∙ others.0, ap (λ xs. xs ++ read_by steps (next step p)) one.2 ∙ others.1)

told-after : (step : PipeStep) (p : Pipe) → is_none (refusal step p) ≡ true → (p.told_end ≡ true → IsEnded p) → (after step p).told_end ≡ true → IsEnded (after step p)
told-after (Write bytes) p allowed before told = absurd (open_if_written bytes p allowed (before told).closed)
told-after Close p allowed before told = record { told = told; closed = refl; whole = (before told).whole }
told-after (Read count) p allowed before told = absurd (untold_if_read count p allowed told)
told-after (Ack to received) p allowed before told = let h = before told in record { told = told; closed = h.closed; whole = h.whole }
told-after TellEnd p allowed before told = let all = ended-allowed p allowed in record { told = refl; closed = all.0; whole = all.1 }

told-next_at : (step : PipeStep) (p : Pipe) (b : Bool) → is_none (refusal step p) ≡ b → (p.told_end ≡ true → IsEnded p)
    → (if b then after step p else p).told_end ≡ true → IsEnded (if b then after step p else p)
told-next_at step p true e before told = told-after step p e before told
told-next_at step p false e before told = before told

told-after_steps_from : (steps : List PipeStep) (p : Pipe) → (p.told_end ≡ true → IsEnded p) → (after_steps steps p).told_end ≡ true → IsEnded (after_steps steps p)
told-after_steps_from [] p before told = before told
told-after_steps_from (step ∷ steps) p before told =
    told-after_steps_from steps (next step p) (told-next_at step p (is_none (refusal step p)) refl before) told

pub told-after_steps : (steps : List PipeStep) → (after_steps steps opening).told_end ≡ true → IsEnded (after_steps steps opening)
told-after_steps steps told = told-after_steps_from steps opening (λ e. absurd (false≢true e)) told

-- where the end was told, what was read is all that was written
pub read_by-whole : (steps : List PipeStep) → (after_steps steps opening).told_end ≡ true → read_by steps opening ≡ written_by steps opening
read_by-whole steps told =
    let q : Pipe = after_steps steps opening in
    let prefix : take q.read q.written ≡ read_by steps opening = (read-after_steps steps opening (omega arith)).prefix in
    let all : q.read ≡ length q.written = (told-after_steps steps told).whole in
    sym prefix ∙ ap (λ n. take n q.written) all ∙ take-length q.written ∙ written-after_steps steps opening
