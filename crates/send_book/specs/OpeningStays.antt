-- No call changes what a book was opened with.
use Rattle.std.specs.Prelude.{ℕ, ◌≡◌, ◌||◌, Bool, true, false, if◌then◌else◌, Result, Ok, Err}
use Rattle.std.proofs.Common.{refl}
use Rattle.send_book.specs.declared.call.Span.{Span}
use Rattle.send_book.specs.declared.call.Why.{Why}
use Rattle.send_book.specs.declared.call.SendCall.{SendCall}
use Rattle.send_book.specs.declared.call.SendCall.TheVariants.{Write, Close, Grant, AckIn, Return, GoIdentity, GoInfinite, Abort}
use Rattle.send_book.specs.State.{Sending, opening}
use Rattle.send_book.specs.Steps.{after_call, decision, given_by, is_future, is_gathered}

opening-if : (c : Bool) (book one other : Sending) → opening one ≡ opening book → opening other ≡ opening book
    → opening (if c then one else other) ≡ opening book
opening-if true book one other e f = e
opening-if false book one other e f = f

opening-given_by : (book : Sending) (r : Result Span Why) → (path : ℕ) → opening (given_by path r book) ≡ opening book
opening-given_by book (Ok span) path = refl
opening-given_by book (Err why) path = refl

pub opening_stays : (book : Sending) (call : SendCall) → opening (after_call book call) ≡ opening book
opening_stays book (Write bytes) = opening-if (book.closed || book.aborted) book book _ refl refl
opening_stays book Close = opening-if book.aborted book book _ refl refl
opening_stays book (Grant path max standby) = opening-given_by book (decision path max standby book) path
opening_stays book (AckIn next window) = opening-if (is_future next book) book book _ refl refl
opening_stays book (Return path) = refl
opening_stays book GoIdentity = refl
opening_stays book (GoInfinite path) = opening-if (is_gathered path book) book _ book refl refl
opening_stays book Abort = refl
