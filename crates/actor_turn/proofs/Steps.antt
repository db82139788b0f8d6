-- A turn, step by step: what its notes come to with one more.
--
-- What is true of a turn is one record (`Went`, `Stopped`, `Turned`) over a list of notes, with folds for what comes
-- after them (`member_after`, `stamp_after`, `noted_all`): one step more is one lemma (`goes_on` in `proofs/Steps`),
-- and of the functions of `turning` only the loop has an answer.
use Rattle.std.proofs.Common.{◌≡◌, refl, sym, ◌∙◌, ap, subst, ℕ, List, [], ◌∷◌, ◌++◌, Option, Some, None, Result, Ok, Err, append_assoc, arith}
use Rattle.std.proofs.lemmas.List.{append-nil}
use Rattle.std.specs.Prelude.{◌<◌, ◌^◌, length, OnOk, OnErr, MatchOption, MatchResult}
use Rattle.stamped_book.specs.declared.stamped.Refusal.{Refusal}
use Rattle.actor_desk.specs.declared.actor.Crew.{Crew}
use Rattle.actor_desk.specs.declared.ask.Ask.{Ask}
use Rattle.actor_desk.specs.declared.ask.Note.{Note}
use Rattle.actor_desk.specs.declared.ask.Reply.{Reply}
use Rattle.actor_desk.specs.Noted.{BookNotes, noted}
use Rattle.actor_turn.specs.Turns.{stamp_after, noted_all, NotesOneMore, IsStep, IsLeft, member_after, AreSteps, IsTurned, DoesStep, Went, Stopped, Turned}

stamp_more : (seen : ℕ) (notes : List Note) (note : Note) → stamp_after seen (notes ++ note ∷ []) ≡ note.stamp
stamp_more seen [] note = refl
stamp_more seen (n ∷ notes) note = stamp_more n.stamp notes note

noted_more : (books : Option BookNotes) (notes : List Note) (note : Note) → noted_all books (notes ++ note ∷ []) ≡ noted (noted_all books notes) note
noted_more books [] note = refl
noted_more books (n ∷ notes) note = noted_more (noted books n) notes note

module _ {A : Type 0} (takes : Reply → A → A) where
  member_more : (m : A) (notes : List Note) (note : Note) → member_after takes m (notes ++ note ∷ []) ≡ takes note.reply (member_after takes m notes)
  member_more m [] note = refl
  member_more m (n ∷ notes) note = member_more (takes n.reply m) notes note

module _ {A : Type 0} (asks : A → Option Ask) (takes : Reply → A → A) where
  steps_more : (actor : ℕ) (m : A) (seen : ℕ) (notes : List Note) (note : Note) → AreSteps asks takes actor m seen notes
      → IsStep asks actor (member_after takes m notes) (stamp_after seen notes) note → AreSteps asks takes actor m seen (notes ++ note ∷ [])
  steps_more actor m seen [] note are step = (step, tt)
  steps_more actor m seen (n ∷ notes) note are step = (are.0, steps_more actor (takes n.reply m) n.stamp notes note are.1 step)

  -- before the first step
  pub starts : (c : Crew A) (books : Option BookNotes) → Went asks takes c c books books
  starts c books = record {
    notes = [];
    made = record { list = sym (append-nil c.list); steps = tt; member = refl; stamp = omega arith; actor = refl };
    stamp = refl;
    noted = refl;
  }

  -- a step more
  pub goes_on : (old now next : Crew A) (before mid after : Option BookNotes) → Went asks takes old now before mid
      → (P : Note → Type 0) → ((note : Note) → P note → after ≡ noted mid note) → DoesStep asks takes now next P → Went asks takes old next before after
  goes_on old now next before mid after w P so s =
      let step : IsStep asks old.pass.actor (member_after takes old.member w.notes) (stamp_after old.pass.stamp w.notes) s.note =
      subst (λ a. IsStep asks a (member_after takes old.member w.notes) (stamp_after old.pass.stamp w.notes) s.note) w.made.actor
      (subst (λ m. IsStep asks now.pass.actor m (stamp_after old.pass.stamp w.notes) s.note) w.made.member
      (subst (λ n. IsStep asks now.pass.actor now.member n s.note) w.stamp s.step)) in
      let stamp : next.pass.stamp ≡ stamp_after old.pass.stamp (w.notes ++ s.note ∷ []) = s.stamp ∙ sym (stamp_more old.pass.stamp w.notes s.note) in
      record {
        notes = w.notes ++ s.note ∷ [];
        made = record {
          list = s.list ∙ ap (λ xs. xs ++ s.note ∷ []) w.made.list ∙ append_assoc old.list w.notes (s.note ∷ []);
          steps = steps_more old.pass.actor old.member old.pass.stamp w.notes s.note w.made.steps step;
          member = s.member ∙ ap (takes s.note.reply) w.made.member ∙ sym (member_more takes old.member w.notes s.note);
          stamp = omega (arith, stamp);
          actor = s.actor ∙ w.made.actor;
        };
        stamp = stamp;
        noted = so s.note s.holds ∙ ap (λ books. noted books s.note) w.noted ∙ sym (noted_more before w.notes s.note);
      }

  -- no step more
  pub rests : (old now next : Crew A) (before mid after : Option BookNotes) → Went asks takes old now before mid → next ≡ now → after ≡ mid
      → Went asks takes old next before after
  rests old now next before mid after w same quiet =
      subst (λ c. Went asks takes old c before after) (sym same) (subst (λ books. Went asks takes old now before books) (sym quiet) w)

  -- a refusal
  pub stops : (old now next : Crew A) (before mid after : Option BookNotes) → Went asks takes old now before mid → IsLeft now next
      → NotesOneMore mid after → Stopped asks takes old next before after
  stops old now next before mid after w left more = record {
    notes = w.notes;
    made = record {
      list = left.list ∙ w.made.list;
      steps = w.made.steps;
      member = left.member ∙ w.made.member;
      stamp = omega (arith, w.stamp, left.stamp);
      actor = left.actor ∙ w.made.actor;
    };
    more = subst (λ books. NotesOneMore books after) w.noted more;
  }

  -- ---- what is told of the end of a turn

  told_made : (old new : Crew A) (refused : Option Refusal) (notes : List Note) → IsTurned asks takes old new notes
      → IsTurned asks takes old (record new { refused = refused }) notes
  told_made old new refused notes made =
      record { list = made.list; steps = made.steps; member = made.member; stamp = made.stamp; actor = made.actor }

  pub told_went : (old new : Crew A) (refused : Option Refusal) (before after : Option BookNotes) → Went asks takes old new before after
      → Went asks takes old (record new { refused = refused }) before after
  told_went old new refused before after w =
      record { notes = w.notes; made = told_made old new refused w.notes w.made; stamp = w.stamp; noted = w.noted }

  pub told_stopped : (old new : Crew A) (refused : Option Refusal) (before after : Option BookNotes) → Stopped asks takes old new before after
      → Stopped asks takes old (record new { refused = refused }) before after
  told_stopped old new refused before after w = record { notes = w.notes; made = told_made old new refused w.notes w.made; more = w.more }

  pub turned : {T : Type 0} (r : Result T Refusal) (old new : Crew A) (before after : Option BookNotes) → OnOk r (Went asks takes old new before after)
      → OnOk r (asks new.member ≡ None) → OnErr r (Stopped asks takes old new before after)
      → MatchResult r (λ _. new.refused ≡ None) (λ refusal. new.refused ≡ Some refusal)
      → (length old.list < 2 ^ 57 → length new.list < 2 ^ 57) → Turned asks takes old new
  turned (Ok x) old new before after went over stopped refused few = record {
    notes = went.notes;
    made = went.made;
    few = few;
    ended = subst (λ o. MatchOption o ((asks new.member ≡ None) × (new.pass.stamp ≡ stamp_after old.pass.stamp went.notes)) (λ _. Unit {0})) (sym refused) (over, went.stamp);
  }
  turned (Err e) old new before after went over stopped refused few = record {
    notes = stopped.notes;
    made = stopped.made;
    few = few;
    ended = subst (λ o. MatchOption o ((asks new.member ≡ None) × (new.pass.stamp ≡ stamp_after old.pass.stamp stopped.notes)) (λ _. Unit {0})) (sym refused) tt;
  }
