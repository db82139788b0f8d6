-- A step at the books, which are a desk, as a step of the world.
use Rattle.std.proofs.Common.{◌≡◌, ◌∙◌, refl, sym, ap, ℕ, false, List, [], ◌∷◌, ◌++◌, Option, Some, None, Result, Ok, Err, option_map, arith}
use Rattle.std.specs.Prelude.{IfSome}
use Rattle.std.specs.Result.{IfOk, OnOk}
use Rattle.stamped_book.specs.declared.stamped.Pass.{Pass}
use Rattle.stamped_book.specs.declared.stamped.Refusal.{Refusal}
use Rattle.actor_desk.specs.declared.ask.Ask.{Ask}
use Rattle.actor_desk.specs.declared.ask.Ask.TheVariants as asks
use Rattle.actor_desk.specs.declared.ask.Note.{Note}
use Rattle.actor_desk.specs.declared.ask.Reply.{Reply}
use Rattle.actor_desk.specs.Books.{StampedBooks, Answers, stamp_of}
use Rattle.actor_desk.specs.Noted.{notes_in}
use Rattle.actor_turn.specs.Turns.{DoesStep, IsAnswered, IsMade}
use Rattle.path_core.specs.Octets.{octets}
use Rattle.world_laws.specs.Actors.{Actor, ActorCrew, member_asks, member_takes, is_over}
use Rattle.world_laws.specs.StampedBooks.{answer_to}
use Rattle.world_laws.specs.Worlds.{note_of, crew_after}
use Rattle.world_core.specs.Steps.{note_if, crew_if, books_if, GoesUp}
use Rattle.world_core.proofs.StepMade.{going_asks}

-- a local step is what the books would answer
as_answered : (books after : StampedBooks) (was now : Pass) (ask : Ask) (reply : Reply) → IsAnswered Answers books after was now ask reply
    → Answers books after was now ask reply
as_answered books after was now (asks.Local step) reply h = record { replied = h.0; entered = h.1; stamped = h.2 }
as_answered books after was now (asks.Send s call) reply h = h
as_answered books after was now (asks.Reassembly s call) reply h = h
as_answered books after was now (asks.Control s call) reply h = h

module _ {R : Type 0} (of : Note → R) (old new : ActorCrew (List ℕ)) (books after : StampedBooks) where
  -- a step was made at the books, and this is what is reported of it
  abbrev Steps : R → Type 0
  Steps report =
      DoesStep (member_asks octets) (member_takes octets) old new
      (IsMade (λ (b : StampedBooks). Some (notes_in b)) Answers of books after old.pass new.pass report)

  module _ (report : R) (d : Steps report) where
    is : Answers books after old.pass new.pass d.note.ask d.note.reply
    is = as_answered books after old.pass new.pass d.note.ask d.note.reply d.holds.answered

    note_is : d.note ≡ note_of books old.pass d.note.ask
    note_is =
        by d.note.stamp d.note.seen d.note.actor d.note.reply (sym d.stamp ∙ ap (λ (p : Pass). p.stamp) is.stamped) d.step.seen_is d.step.by is.replied
      where
        by : (stamp seen actor : ℕ) (reply : Reply) → stamp ≡ stamp_of d.note.ask books old.pass → seen ≡ old.pass.stamp → actor ≡ old.pass.actor
            → reply ≡ answer_to books d.note.ask
            → record { stamp = stamp; seen = seen; actor = actor; ask = d.note.ask; reply = reply } ≡ note_of books old.pass d.note.ask
        by stamp seen actor reply a b c e = rw (a, b, c, e) refl

    crew_made : new.refused ≡ old.refused → new ≡ crew_if (member_asks octets old.member) books old
    crew_made refused =
        by new.member new.pass new.list new.refused (d.member ∙ ap (λ (reply : Reply). member_takes octets reply old.member) is.replied) is.stamped
        (d.list ∙ ap (λ (note : Note). old.list ++ note ∷ []) note_is) refused
        ∙ ap (λ o. crew_if o books old) (sym d.step.asked)
      where
        by : (member : Actor (List ℕ)) (pass : Pass) (list : List Note) (refused : Option Refusal)
            → member ≡ member_takes octets (answer_to books d.note.ask) old.member → pass ≡ record old.pass { stamp = stamp_of d.note.ask books old.pass }
            → list ≡ old.list ++ note_of books old.pass d.note.ask ∷ [] → refused ≡ old.refused
            → record { member = member; pass = pass; list = list; refused = refused } ≡ crew_after octets d.note.ask books old
        by member pass list refused a b c e = rw (a, b, c, e) refl

    books_made : after ≡ books_if (member_asks octets old.member) old.pass books
    books_made = is.entered ∙ ap (λ o. books_if o old.pass books) (sym d.step.asked)

    report_made : Some report ≡ option_map of (note_if (member_asks octets old.member) books old.pass)
    report_made = ap Some (d.holds.reported ∙ ap of note_is) ∙ ap (λ o. option_map of (note_if o books old.pass)) (sym d.step.asked)

  -- as the step answers

  pub reported : (r : Result (Option R) Refusal) → IfOk r (λ made. IfSome made Steps) → IfOk r (λ made. made ≡ None → member_asks octets old.member ≡ None)
      → IfOk r (λ report. report ≡ option_map of (note_if (member_asks octets old.member) books old.pass))
  reported (Ok (Some report)) d over = report_made report d
  reported (Ok None) d over = ap (λ o. option_map of (note_if o books old.pass)) (sym (over refl))
  reported (Err e) d over = tt

  pub crew_is : (r : Result (Option R) Refusal) → new.refused ≡ old.refused → IfOk r (λ made. IfSome made Steps)
      → IfOk r (λ made. made ≡ None → member_asks octets old.member ≡ None) → IfOk r (λ made. made ≡ None → new ≡ old)
      → OnOk r (new ≡ crew_if (member_asks octets old.member) books old)
  crew_is (Ok (Some report)) refused d over rests = crew_made report d refused
  crew_is (Ok None) refused d over rests = rests refl ∙ ap (λ o. crew_if o books old) (sym (over refl))
  crew_is (Err e) refused d over rests = tt

  pub books_is : (r : Result (Option R) Refusal) → IfOk r (λ made. IfSome made Steps)
      → IfOk r (λ made. made ≡ None → member_asks octets old.member ≡ None) → IfOk r (λ made. made ≡ None → after ≡ books)
      → OnOk r (after ≡ books_if (member_asks octets old.member) old.pass books)
  books_is (Ok (Some report)) d over quiet = books_made report d
  books_is (Ok None) d over quiet = quiet refl ∙ ap (λ o. books_if o old.pass books) (sym (over refl))
  books_is (Err e) d over quiet = tt

  pub rises : (r : Result (Option R) Refusal) → IfOk r (λ made. IfSome made Steps) → IfOk r (λ made. made ≡ None → member_asks octets old.member ≡ None)
      → OnOk r (is_over old.member ≡ false → GoesUp old.pass.stamp new.pass.stamp)
  rises (Ok (Some report)) d over = λ going. record { more = omega (arith, d.step.rises, d.stamp); small = omega (arith, d.step.small, d.stamp) }
  rises (Ok None) d over = λ going. absurd (going_asks old.member going (over refl))
  rises (Err e) d over = tt
