-- What may be sent where a duty stands, and what a grant brings.
use Rattle.path_core.proofs.Words.{◌≡◌, refl, ◌<◌, ◌≤◌, ◌&&◌, ◌||◌, Bool, true, false, Option, Some, None, arith, ◌^◌, is_some, not, leb-false, IsTrue, Side}
use Rattle.path_core.proofs.Words.{Record, EndState, is_at_limit, may_finish, PathState, PathEnd, Profile, is_fin_due, may_ask, data_stands, TakesTime}
use Rattle.std.specs.Prelude.{nat_le}

first_true : (a b : Bool) → (a && b) ≡ true → a ≡ true
first_true = elim [ true ↦ λ b is. refl | false ↦ λ b is. is ]

second_true : (a b : Bool) → (a && b) ≡ true → b ≡ true
second_true = elim [ true ↦ λ b is. is | false ↦ λ b is. cc ]

pub may_state : (c : Profile) (s : Side) (e : PathEnd) → may_ask c s e ≡ true → IsTrue (may_finish e.tcp.state)
may_state c s e is = first_true _ _ is

below_limit : (e : EndState) → not (is_at_limit e) ≡ true → e.send.nxt < 2 ^ 61
below_limit e is = (elim (nat_le (2 ^ 61) e.send.nxt) as (λ b. nat_le (2 ^ 61) e.send.nxt ≡ b → not (b || nat_le (2 ^ 61) e.recv.edge) ≡ true → e.send.nxt < 2 ^ 61)
    [ true ↦ λ above is. cc | false ↦ λ below is. leb-false _ _ below ]) refl is

pub may_room : (c : Profile) (s : Side) (e : PathEnd) → may_ask c s e ≡ true → e.tcp.send.nxt < 2 ^ 61
may_room c s e is = below_limit e.tcp (first_true _ _ (second_true _ _ (second_true _ _ is)))

pub may_of_stands : (c : Profile) (s : Side) (e : PathEnd) (o : Option Record) → data_stands c s e o ≡ true → is_some o ≡ false → may_ask c s e ≡ true
may_of_stands c s e None stands none = stands
may_of_stands c s e (Some record_) stands none = cc

pub fin_state : (e : PathEnd) → is_fin_due e ≡ true → IsTrue (may_finish e.tcp.state)
fin_state e is = first_true _ _ is

-- ---- what takes time

pub takes_time : {C : Type 0} (p : PathState C) → 1 ≤ p.link.delay → 1000 ≤ p.a.tcp.timing.rtt.rto → 1000 ≤ p.b.tcp.timing.rtt.rto → TakesTime p
takes_time p delay a b = record { delay = delay; timer_a = omega (arith, a); timer_b = omega (arith, b) }
