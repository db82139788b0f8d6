-- What is learnt of a mapping, call by call.
use Rattle.std.proofs.Common.{◌≡◌, ap, ◌∙◌, ℕ, true, max, Option, Some, Ok}
use Rattle.judge_rules.specs.declared.mappings.Line.{Line}
use Rattle.seen_streams.specs.declared.told.Infinite.{Infinite}
use Rattle.seen_streams.specs.declared.told.Teller.{Teller}
use Rattle.seen_streams.specs.State.{LaneValue, StreamValue, counted}
use Rattle.seen_streams.specs.Mapped.{Mapped, infinite_after, started, with_line}
use Rattle.seen_streams.specs.Acks.{Acked, ack_counted, acked_by}

-- what is mapped so far, with another stream
abbrev pub told_in : Mapped → StreamValue → Mapped
told_in state stream = record state { stream = stream }

pub line_kept : (teller : Teller) (place : ℕ) (line : Line) (old : Mapped) (told kept : StreamValue) (lane : LaneValue) (known : Option Infinite) (after : Infinite)
    → told ≡ started place old.stream → known ≡ told.infinite → after ≡ infinite_after known teller line.place → kept ≡ record told { infinite = Some after }
    → lane ≡ record old.lane { line = Some line } → record { stream = kept; lane = lane; learnt = old.learnt; has_line = true } ≡ with_line teller place line old
line_kept teller place line old told kept lane known after t n a k l =
    let same : kept ≡ record (started place old.stream) { infinite = Some (infinite_after old.stream.infinite teller line.place) } =
    k ∙ ap (λ (i : Infinite). record told { infinite = Some i }) (a ∙ ap (λ (o : Option Infinite). infinite_after o teller line.place) n)
    ∙ ap (λ (s : StreamValue). record s { infinite = Some (infinite_after s.infinite teller line.place) }) t in
    ap (λ (s : StreamValue). record old { stream = s; lane = lane; has_line = true }) same
    ∙ ap (λ (x : LaneValue). record (with_line teller place line old) { lane = x }) l

pub ack_kept : (packet place : ℕ) (old : Acked) (told stream : StreamValue) (lane : LaneValue)
    → told ≡ record old.stream { data_acks = counted old.stream.data_acks } → stream ≡ record told { acknowledged = max told.acknowledged place }
    → lane ≡ record old.lane { acknowledged = max old.lane.acknowledged place } → record { stream = stream; lane = lane } ≡ acked_by (Ok place) packet (ack_counted old)
ack_kept packet place old told stream lane t s l =
    ap (λ (x : StreamValue). record old { stream = x; lane = lane }) (s ∙ ap (λ (x : StreamValue). record x { acknowledged = max x.acknowledged place }) t)
    ∙ ap (λ (x : LaneValue). record (acked_by (Ok place) packet (ack_counted old)) { lane = x }) l
