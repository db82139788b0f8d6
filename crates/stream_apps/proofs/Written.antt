-- How much of a file is written.
use Rattle.std.proofs.Common.{◌≡◌, refl, ◌∙◌, subst, ℕ, zero, suc, ◌≤◌, nat_eq, List, [], ◌∷◌, length, drop, arith}
use Rattle.std.proofs.lemmas.List.{length-take}
use Rattle.std.proofs.Math.Dec.{eqb-zero-suc, eqb-suc-suc}
use Rattle.send_book.specs.declared.call.SendReply.{SendReply}
use Rattle.actor_desk.specs.declared.ask.Reply.{Reply}
use Rattle.actor_desk.specs.Kinds.{AnswersTo}
use Rattle.actor_desk.specs.Words.{is_nil}
use Rattle.stream_apps.specs.declared.duty.AppDuty.{AppDuty}
use Rattle.stream_apps.specs.declared.duty.AppDuty.TheVariants.{Write}
use Rattle.stream_apps.specs.AppSteps.{app_asks_first, app_asks_of, taken_in}
use Rattle.stream_apps.specs.Apps.{AppState}

-- a file is written where as many octets are as it has
pub all-written : (written : ℕ) (file : List ℕ) → written ≤ length file → nat_eq written (length file) ≡ is_nil (drop written file)
all-written zero [] within = refl
all-written zero (byte ∷ file) within = eqb-zero-suc (length file)
all-written (suc written) [] within = absurd (omega (arith, within))
all-written (suc written) (byte ∷ file) within = eqb-suc-suc written (length file) ∙ all-written written file (omega (arith, within))

-- no more is taken than is left
taken-offered : (ds : List AppDuty) (reply : Reply) (a : AppState) → AnswersTo (app_asks_first (Write ∷ ds) a) reply → taken_in reply ≤ length a.rest
taken-offered ds (Reply.Send (SendReply.Taken count)) a kind = omega (arith, kind, length-take a.buffer a.rest)
taken-offered ds _ a kind = omega arith

pub taken-within : (ds : List AppDuty) (reply : Reply) (a : AppState) → a.agenda ≡ Write ∷ ds → AnswersTo (app_asks_of a) reply → taken_in reply ≤ length a.rest
taken-within ds reply a is kind = taken-offered ds reply a (subst (λ xs. AnswersTo (app_asks_first xs a) reply) is kind)
