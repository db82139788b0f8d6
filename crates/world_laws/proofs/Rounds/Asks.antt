-- What an actor asks: a grant for some bytes at least.
use Rattle.world_laws.proofs.Words.{sym, subst, ◌≤◌, SendCall, Duty, Ask, AppDuty, AppState, app_ask, Codec, ask_for, PathState, payload_size, IsOwn}
use Rattle.world_laws.proofs.Rounds.ReplyKinds.{AsksSome}
use Rattle.world_laws.proofs.Writes.Asks.{asks_no_more}

pub app_asks_some : (d : AppDuty) (a : AppState) → AsksSome (app_ask d a)
app_asks_some = elim [ AppDuty.FastClose ↦ λ a. tt | _ ↦ λ a. tt ]

module _ {C : Type 0} (k : Codec C) (p : PathState C) (some : 1 ≤ payload_size p.profile) where
  -- a path asks for a full segment's payload
  own_some : (x : Ask) → IsOwn p x → AsksSome x
  own_some (Ask.Send s (SendCall.Grant path max standby)) own = subst (λ n. 1 ≤ n) (sym own.1) some
  own_some (Ask.Send s _) own = tt
  own_some _ own = tt

  pub asks_some : (d : Duty) → AsksSome (ask_for k d p)
  asks_some d = own_some (ask_for k d p) (asks_no_more k p d).own
