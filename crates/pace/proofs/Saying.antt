-- What the receiving end asks its book and sends keeps what holds of a lane.
use Rattle.std.proofs.Common.{ℕ, ◌+◌, ◌<◌, ◌≤◌, Bool, false, inr, [], ◌∷◌, le_refl, arith}
use Rattle.std.proofs.lemmas.Bool.{both_ways}
use Rattle.pace.specs.Lane.{Setting, Copy, Lane, Stage}
use Rattle.pace.specs.Rules.{asked_out, said_by}
use Rattle.pace.specs.Going.{Going, Covers, may_tell, all_heard}
use Rattle.pace.specs.Moves.{MayAsk, MaySay}
use Rattle.pace.proofs.Lists.{in_last, each_more, stays_more, timed_more, last_more, repeated_more}
use Rattle.pace.proofs.Parts.{parts, whole, new_counts, new_asked, new_answered}

module _ (k : Setting) (s : Lane) (t : ℕ) (p : Stage) where
  pub asked_going : (limit : ℕ) (w : Lane) → MayAsk k limit w → Going k s t p w
      → Going k s t (record p { ask = false; window = false }) (asked_out k limit w)
  asked_going limit w may h = whole (new_counts (omega (arith, may, h.numbers)) (omega (arith, h.since)) (omega (arith, h.round))
      (new_asked (record { next = λ _. le_refl _; limit = λ _. omega (arith, may.least, h.since.read) }) (parts h)))

  pub said_going : (tell update : Bool) (x : Copy) (w : Lane) → MaySay k s p tell update x w → Going k s t p w
      → Going k s t (record p { tell = tell; update = update }) (said_by x w)
  said_going tell update x w may h = record {
    numbers = omega (arith, may.so, h.numbers);
    since = omega (arith, h.since);
    round = omega (arith, h.round);
    under_way = record {
      chain = h.under_way.chain;
      datas_at = h.under_way.datas_at;
      acks_at = timed_more w.clock (w.clock + k.delay) x w.acks may.at h.under_way.acks_at;
      datas_are = h.under_way.datas_are;
      acks_are = each_more (λ c. Covers (may_tell k w) c.telling) x w.acks may.so h.under_way.acks_are;
    };
    told_soon = inr (record { copy = x; among = in_last x w.acks; has = (le_refl _, le_refl _, le_refl _, le_refl _) });
    none_lost = record { datas = h.none_lost.datas; acks = stays_more (λ c. Covers (all_heard w) c.telling) s.acks w.acks (x ∷ []) h.none_lost.acks };
    flags = h.flags;
    timer = h.timer;
    shut = h.shut;
    turns = h.turns;
    repeats = record {
      last = last_more w.heard w.told x w.acks h.repeats.last;
      few = let more = repeated_more w.heard w.told x w.acks h.repeats.last in omega (arith, more, may.paid, h.repeats.few);
    };
    asked = h.asked;
    answered = record { all = may.all; window = may.window };
    emitted = h.emitted;
    none_due = λ over. absurd (both_ways _ over may.turn);
  }

  pub quiet_going : (w : Lane) → (1 ≤ w.ready → s.read + k.least < w.told.edge + 31 + k.threshold) → Going k s t p w
      → Going k s t (record p { update = false }) w
  quiet_going w may h = whole (new_answered (record { all = h.answered.all; window = λ _. may }) (parts h))
