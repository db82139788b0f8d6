-- A book under its lock, after a call.
--
-- What lies under a lock is known by its type alone: `Held` of `subflow_worker` has the invariant that its journal
-- begins with the one that a type parameter names, and a fact that no call ends (`Kept`, whose law is a method: a ghost
-- member can't cite its own crate's proofs). A type that is picked at `Brand` stands in no signature, so `LockedDesk`
-- is made and taken apart in one function over its name (`round_at`), and `threaded_round` picks it.
use Rattle.std.proofs.Common.{◌≡◌, sym, ◌∙◌, ap, subst, [], ◌∷◌, ◌++◌, Result, Ok, Err, append_assoc}
use Rattle.std.specs.Prelude.{OnOk, OnErr}
use Rattle.stamped_book.specs.declared.stamped.Pass.{Pass}
use Rattle.stamped_book.specs.Journal.{Journaled, book_of}
use Rattle.stamped_book.specs.Entering.{entry_of, after_entering}
use Rattle.stamped_book.proofs.Journals.{replay-append}
use Rattle.actor_turn.specs.Extending.{Extends}

-- its journal still begins as it began, and what a call keeps is kept, where the call is entered and where it is refused
pub entered : {O C R E : Type 0} (reply_to : O → C → R) (after : O → C → O) (sound : O → Type 0) (start s t : Journaled O C R) (pass : Pass) (call : C)
    (r : Result R E) → OnOk r (t ≡ after_entering reply_to after s pass call) → OnErr r (t ≡ s) → Extends start s × sound (book_of reply_to after s)
    → (sound (book_of reply_to after s) → sound (after (book_of reply_to after s) call)) → Extends start t × sound (book_of reply_to after t)
entered reply_to after sound start s t pass call (Ok reply) ok err h stays =
    subst (λ u. Extends start u × sound (book_of reply_to after u)) (sym ok) (
      record {
        more = h.0.more ++ entry_of reply_to after s pass call ∷ [];
        opening = h.0.opening;
        journal = ap (λ es. es ++ entry_of reply_to after s pass call ∷ []) h.0.journal
            ∙ append_assoc start.journal h.0.more (entry_of reply_to after s pass call ∷ []);
      },
      subst sound (sym (replay-append reply_to after s.opening s.journal (entry_of reply_to after s pass call ∷ []))) (stays h.1),
    )
entered reply_to after sound start s t pass call (Err refusal) ok err h stays =
    subst (λ u. Extends start u × sound (book_of reply_to after u)) (sym err) h
