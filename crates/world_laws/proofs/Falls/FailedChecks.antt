-- What an end becomes where the check of a mapping failed, or where the peer's MP_FAIL or its infinite mapping came: what any verdict
-- makes of it, but for what it knows of failed checks and of infinite mappings.
use Rattle.world_laws.proofs.Words.{◌≡◌, refl, ℕ, inl, inr, ◌⊎◌, Bool, true, false, Option, Some, None, is_some, Verdict, Side, ControlReply, SendCall}
use Rattle.world_laws.proofs.Words.{KeptMapping, after_forget_from, Receiving, InfiniteMapping, Ask, Reply, LocalStep, PathEnd, PathState, end_at, path_of}
use Rattle.world_laws.proofs.Words.{is_wrong, failing_by, mapping_here, forgotten_by, with_failure, after_check_failed, is_infinite_receive, receiving_infinite}
use Rattle.world_laws.proofs.Words.{fell_ask, after_fell, subflow_ack_ask, plain_next, plain_ack_in, may_go_infinite, fail_ask, answered_fail, book_answered}
use Rattle.world_laws.proofs.Words.{after_fail_heard, is_infinite_send, answered_fell, mode_in, sending_infinite, Modes, if_so}
use Rattle.fallback_state.specs.declared.fall.Event.{Event}
use Rattle.path_core.specs.Fallback.{after_infinite}

-- ---- the ends

-- some of the octets that were kept may be forgotten
abbrev pub Forgets : Receiving → Receiving → Type 0
Forgets v w = (w ≡ v) ⊎ ((from : ℕ) × (w ≡ after_forget_from from v))

-- a check failed: the verdict, the mapping that acknowledgements or the reset tell, and what is still kept
abbrev pub checked_so : Reply → Option ℕ → Option ℕ → Receiving → PathEnd → PathEnd
checked_so r told broken recv e = record e {
  tcp = record e.tcp { recv = recv };
  modes = record (mode_in r e.modes) { failed_mapping = told };
  treated = record e.treated { failed_mapping = broken };
}

-- the peer's MP_FAIL: the verdict, and the infinite mapping
abbrev pub failed_so : Reply → Option InfiniteMapping → Bool → PathEnd → PathEnd
failed_so r own owes e = record e { modes = record (mode_in r e.modes) { own_infinite = own; owes_mapping = owes } }

-- the peer's infinite mapping: the verdict, and that mapping
abbrev pub infinite_so : Reply → Option InfiniteMapping → PathEnd → PathEnd
infinite_so r other e = record e { modes = record (mode_in r e.modes) { peer_infinite = other } }

-- ---- which they become

-- the octets of the mapping at the edge are forgotten, where they aren't those that it was made for
pub forgets_so : (P : PathEnd → Type 0) (checksums : Bool) (here : Option KeptMapping) (e : PathEnd)
    → ((recv : Receiving) → Forgets e.tcp.recv recv → P (record e { tcp = record e.tcp { recv = recv } })) → P (forgotten_by checksums here e)
forgets_so P checksums None e all = all e.tcp.recv (inl refl)
forgets_so P checksums (Some kept) e all =
    if_so P (is_wrong checksums kept e.tcp) (record e { tcp = record e.tcp { recv = after_forget_from kept.pos e.tcp.recv } }) e
    (all (after_forget_from kept.pos e.tcp.recv) (inr (kept.pos, refl))) (all e.tcp.recv (inl refl))

abbrev failure_so : Reply → Option ℕ → Option ℕ → PathEnd → PathEnd
failure_so r told broken e = record e { modes = record (mode_in r e.modes) { failed_mapping = told }; treated = record e.treated { failed_mapping = broken } }

failing_so : (P : PathEnd → Type 0) (failing : Option KeptMapping) (r : Reply) (e : PathEnd)
    → ((told broken : Option ℕ) → P (failure_so r told broken e)) → P (with_failure failing r (after_fell Event.CheckFailed r e))
failing_so P None r e all = all (mode_in r e.modes).failed_mapping e.treated.failed_mapping
failing_so P (Some kept) (Reply.Control (ControlReply.Verdict Verdict.SendFail)) e all = all (Some kept.place) e.treated.failed_mapping
failing_so P (Some kept) (Reply.Control (ControlReply.Verdict (Verdict.BreakPath reason))) e all = all e.modes.failed_mapping (Some kept.place)
failing_so P (Some kept) (Reply.Control (ControlReply.Verdict (Verdict.Went mode))) e all = all e.modes.failed_mapping e.treated.failed_mapping
failing_so P (Some kept) _ e all = all e.modes.failed_mapping e.treated.failed_mapping

-- what holds of each such end holds of the end whose check failed
pub check_failed_so : (P : PathEnd → Type 0) (checksums : Bool) (r : Reply) (e : PathEnd)
    → ((told broken : Option ℕ) (recv : Receiving) → Forgets e.tcp.recv recv → P (checked_so r told broken recv e)) → P (after_check_failed checksums r e)
check_failed_so P checksums r e all =
    let here = mapping_here e in
    failing_so (λ f. P (forgotten_by checksums here f)) (failing_by checksums here e.tcp) r e
    (λ told broken. forgets_so P checksums here (failure_so r told broken e) (all told broken))

-- ---- which mapping is told then

-- the one that was told before, or the one whose check failed
abbrev pub IsMarked : Option KeptMapping → Option ℕ → Option ℕ → Type 0
IsMarked failing old new = (new ≡ old) ⊎ ((kept : KeptMapping) × (failing ≡ Some kept) × (new ≡ Some kept.place))

same_failed : (r : Reply) (m : Modes) → (mode_in r m).failed_mapping ≡ m.failed_mapping
same_failed (Reply.Control (ControlReply.Verdict (Verdict.Went mode))) m = refl
same_failed _ m = refl

failing_marked : (P : PathEnd → Type 0) (failing : Option KeptMapping) (r : Reply) (e : PathEnd)
    → ((told broken : Option ℕ) → IsMarked failing e.modes.failed_mapping told → IsMarked failing e.treated.failed_mapping broken → P (failure_so r told broken e))
    → P (with_failure failing r (after_fell Event.CheckFailed r e))
failing_marked P None r e all = all (mode_in r e.modes).failed_mapping e.treated.failed_mapping (inl (same_failed r e.modes)) (inl refl)
failing_marked P (Some kept) (Reply.Control (ControlReply.Verdict Verdict.SendFail)) e all = all (Some kept.place) e.treated.failed_mapping (inr (kept, refl, refl)) (inl refl)
failing_marked P (Some kept) (Reply.Control (ControlReply.Verdict (Verdict.BreakPath reason))) e all = all e.modes.failed_mapping (Some kept.place) (inl refl) (inr (kept, refl, refl))
failing_marked P (Some kept) (Reply.Control (ControlReply.Verdict (Verdict.Went mode))) e all = all e.modes.failed_mapping e.treated.failed_mapping (inl refl) (inl refl)
failing_marked P (Some kept) _ e all = all e.modes.failed_mapping e.treated.failed_mapping (inl refl) (inl refl)

-- what holds of each such end holds of the end whose check failed, by the mapping that failed
pub check_failed_marked : (P : PathEnd → Type 0) (checksums : Bool) (r : Reply) (e : PathEnd) → let failing = failing_by checksums (mapping_here e) e.tcp in
    ((told broken : Option ℕ) (recv : Receiving) → IsMarked failing e.modes.failed_mapping told → IsMarked failing e.treated.failed_mapping broken → Forgets e.tcp.recv recv
    → P (checked_so r told broken recv e)) → P (after_check_failed checksums r e)
check_failed_marked P checksums r e all =
    let here = mapping_here e in
    failing_marked (λ f. P (forgotten_by checksums here f)) (failing_by checksums here e.tcp) r e
    (λ told broken is so. forgets_so P checksums here (failure_so r told broken e) (λ recv forgotten. all told broken recv is so forgotten))

-- of the end that heard MP_FAIL
pub fail_heard_so : (P : PathEnd → Type 0) (r : Reply) (e : PathEnd)
    → ((own : Option InfiniteMapping) (owes : Bool) → P (failed_so r own owes e)) → P (after_fail_heard r e)
fail_heard_so P r e all = by e.treated.infinite_mapping (is_infinite_send r)
  where
    by : (own : Option InfiniteMapping) (b : Bool) → P (sending_infinite own b (after_fell (Event.FailHeard (is_some e.treated.infinite_mapping)) r e))
    by (Some own) true = all (Some own) true
    by (Some own) false = all (mode_in r e.modes).own_infinite (mode_in r e.modes).owes_mapping
    by None b = all (mode_in r e.modes).own_infinite (mode_in r e.modes).owes_mapping

-- of the end to which the infinite mapping came
pub infinite_came_so : (P : PathEnd → Type 0) (place : ℕ) (position : Option ℕ) (r : Reply) (e : PathEnd)
    → ((other : Option InfiniteMapping) → P (infinite_so r other e)) → P (after_infinite place position r e)
infinite_came_so P place position r e all = by position (is_infinite_receive r)
  where
    by : (position : Option ℕ) (b : Bool) → P (receiving_infinite place position b (after_fell Event.InfiniteHeard r e))
    by (Some position) true = all _
    by (Some position) false = all (mode_in r e.modes).peer_infinite
    by None b = all (mode_in r e.modes).peer_infinite

-- ---- acknowledgements of the subflow

-- nothing is asked, or the send book is told an acknowledgement
pub subflow_acks_so : (P : Ask → Type 0) (s : Side) (e : PathEnd) → P (Ask.Local LocalStep.End) → ((next : ℕ) → P (Ask.Send s (SendCall.AckIn next e.treated.window))) → P (subflow_ack_ask s e)
subflow_acks_so P s e none some = elim (plain_next e) as (λ o. P (plain_ack_in s o e.treated.window)) [ None ↦ none | Some next ↦ some next ]

-- ---- MP_FAIL

module _ {C : Type 0} where
  -- the send book is asked first, or the control book at once
  pub fail_asks_so : (P : Ask → Type 0) (s : Side) (p : PathState C)
      → P (Ask.Send s (SendCall.GoInfinite (path_of p))) → P (fell_ask s (Event.FailHeard false) p) → P (fail_ask s p)
  fail_asks_so P s p book told = if_so P (may_go_infinite (end_at s p)) (Ask.Send s (SendCall.GoInfinite (path_of p))) (fell_ask s (Event.FailHeard false) p) book told

  pub fail_answered_so : (P : PathState C → Type 0) (s : Side) (r : Reply) (p : PathState C)
      → P (book_answered s r p) → P (answered_fell s (Event.FailHeard false) r p) → P (answered_fail s r p)
  fail_answered_so P s r p book told = if_so P (may_go_infinite (end_at s p)) (book_answered s r p) (answered_fell s (Event.FailHeard false) r p) book told
