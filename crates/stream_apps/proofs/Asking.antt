-- What an application asks can be asked.
use Rattle.std.proofs.Common.{◌≡◌, sym, subst, List, [], ◌∷◌, Option, IfSome, Result, Ok, Err, IfOk, arith}
use Rattle.actor_desk.specs.Kinds.{CanBeAsked}
use Rattle.actor_desk.specs.declared.ask.Ask.{Ask}
use Rattle.stream_apps.specs.declared.duty.AppDuty.{AppDuty}
use Rattle.stream_apps.specs.declared.duty.AppDuty.TheVariants.{FastClose, AbortSend, AbortReceive, Write, Close, Read, End}
use Rattle.stream_apps.specs.AppSteps.{app_asks_first, app_asks_of}
use Rattle.stream_apps.specs.Apps.{AppState}
use Rattle.stream_apps.specs.Turns.{EveryAppAskCanBeAsked}

first_can : (ds : List AppDuty) (a : AppState) → IfSome (app_asks_first ds a) CanBeAsked
first_can [] a = tt
first_can (FastClose ∷ ds) a = tt
first_can (AbortSend ∷ ds) a = tt
first_can (AbortReceive ∷ ds) a = tt
first_can (Write ∷ ds) a = tt
first_can (Close ∷ ds) a = tt
first_can (Read ∷ ds) a = omega arith
first_can (End ∷ ds) a = tt

pub app_asks_can : EveryAppAskCanBeAsked
app_asks_can a = first_can a.agenda a

pub app_able : {E : Type 0} (a : AppState) (r : Result (Option Ask) E) → IfOk r (λ ask. ask ≡ app_asks_of a) → IfOk r (λ ask. IfSome ask CanBeAsked)
app_able a (Ok ask) is = subst (λ o. IfSome o CanBeAsked) (sym is) (app_asks_can a)
app_able a (Err e) is = tt
