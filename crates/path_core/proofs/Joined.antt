-- A join changes no timer.
use Rattle.path_core.proofs.Words.{◌≡◌, refl, ℕ, Bool, true, false, if◌then◌else◌, Option, Some, None, arith, JoinSyn, EndState, after_syn, unkept, KeyPair}
use Rattle.path_core.proofs.Words.{Reply, never_joined, opened_by, joined_by, syn_of_window, is_listening, PathEnd}
use Rattle.subflow_tcp.specs.Opening.{after_begin}
use Rattle.subflow_tcp.specs.States.{is_waiting}
use Rattle.path_core.proofs.Ranking.{Rests, same_rests}

pub never_rests : (clock : ℕ) (r : Reply) (e : PathEnd) → Rests clock e (never_joined r e)
never_rests clock r e = record { due = omega arith; timeout = λ some. some }

begun_timed : (b : Bool) (s : EndState) → (if b then after_begin s else s).timing ≡ s.timing
begun_timed = elim [ true ↦ λ s. refl | false ↦ λ s. refl ]

pub opened_rests : (clock : ℕ) (keys : Option KeyPair) (e : PathEnd) → Rests clock e (opened_by keys e)
opened_rests clock None e = same_rests clock e e refl
opened_rests clock (Some keys) e = same_rests clock e (opened_by (Some keys) e) (begun_timed (is_waiting e.tcp.state) e.tcp)

syn_timed : (b : Bool) (window : ℕ) (s : EndState) → (if b then after_syn (unkept None) (syn_of_window window) s else s).timing ≡ s.timing
syn_timed = elim [ true ↦ λ window s. refl | false ↦ λ window s. refl ]

pub joined_rests : (clock : ℕ) (keys : KeyPair) (asked : JoinSyn) (e : PathEnd) → Rests clock e (joined_by keys asked e)
joined_rests clock keys asked e =
    same_rests clock e (joined_by keys asked e) (syn_timed (is_listening e.tcp.state) e.treated.window e.tcp)
