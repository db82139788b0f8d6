-- What a turn does to a crew, and what is noted of it.
use Rattle.std.specs.Prelude.{ℕ, ◌≡◌, ◌+◌, ◌-◌, ◌^◌, ◌<◌, ◌≤◌, ◌⊎◌, Bool, true, false, List, [], ◌∷◌, ◌++◌, length, Option, Some, None, MatchOption}
use Rattle.stamped_book.specs.declared.stamped.Pass.{Pass}
use Rattle.stamped_book.specs.declared.stamped.Refusal.{Refusal}
use Rattle.stamped_book.specs.declared.stamped.Refusal.TheVariants.{Memory, Stamps}
use Rattle.actor_desk.specs.declared.ask.Ask.{Ask}
use Rattle.actor_desk.specs.declared.ask.Ask.TheVariants as asks
use Rattle.actor_desk.specs.declared.ask.Reply.{Reply}
use Rattle.actor_desk.specs.declared.ask.Note.{Note}
use Rattle.actor_desk.specs.declared.actor.Crew.{Crew}
use Rattle.actor_desk.specs.Bounds.{TakesReply}
use Rattle.actor_desk.specs.Journals.{is_local}
use Rattle.actor_desk.specs.Noted.{BookNotes, noted}

-- a desk notes nothing where others ask its books too
abbrev pub unnoted : Option BookNotes
unnoted = None

-- the stamp after these steps
abbrev pub stamp_after : ℕ → List Note → ℕ
stamp_after seen [] = seen
stamp_after seen (note ∷ notes) = stamp_after note.stamp notes

-- what is noted after these steps, where something is
abbrev pub noted_all : Option BookNotes → List Note → Option BookNotes
noted_all books [] = books
noted_all books (note ∷ notes) = noted_all (noted books note) notes

-- at most one step was noted
pub record NotesOneMore (before after : Option BookNotes) : Type 0 where
  pub more : List Note
  pub few : length more ≤ 1
  pub noted : after ≡ noted_all before more

module _ {D : Type 0} (answers : D → D → Pass → Pass → Ask → Reply → Type 0) where
  -- a call is answered as the desk answers, and a local step by nobody
  abbrev pub IsAnswered : D → D → Pass → Pass → Ask → Reply → Type 0
  IsAnswered before after was now (asks.Local step) reply =
      (reply ≡ Reply.Done) × (after ≡ before) × (now ≡ record was { stamp = was.stamp + 1 })
  IsAnswered before after was now ask reply = answers before after was now ask reply

-- the step of this note is noted and answered by the desk, and this is the report of it
pub record IsMade {D R : Type 0} (notes : D → Option BookNotes) (answers : D → D → Pass → Pass → Ask → Reply → Type 0) (of : Note → R)
    (before after : D) (was now : Pass) (report : R) (note : Note) : Type 0 where
  pub noted : notes after ≡ noted (notes before) note
  pub answered : IsAnswered answers before after was now note.ask note.reply
  pub reported : report ≡ of note

module _ {A : Type 0} (asks : A → Option Ask) where
  -- no stamp is left: the pass stands at the last one, or the desk is full for what is asked
  abbrev pub IsUsedUp : (Ask → Pass → Type 0) → Crew A → Type 0
  IsUsedUp is_full crew = (2 ^ 62 - 1 ≤ crew.pass.stamp) ⊎ ((ask : Ask) × (asks crew.member ≡ Some ask) × is_full ask crew.pass)

  -- the note is of what the member asks, and its stamp is above that of its pass
  pub record IsStep (actor : ℕ) (member : A) (seen : ℕ) (note : Note) : Type 0 where
    pub asked : asks member ≡ Some note.ask
    pub takes : TakesReply (Some note.ask) note.reply
    pub by : note.actor ≡ actor
    pub seen_is : note.seen ≡ seen
    pub rises : seen < note.stamp
    pub small : note.stamp < 2 ^ 62
    pub local : is_local note.ask ≡ true → note.stamp ≡ seen + 1

-- no step was made. The pass may have risen
pub record IsLeft {A : Type 0} (old new : Crew A) : Type 0 where
  pub list : new.list ≡ old.list
  pub member : new.member ≡ old.member
  pub stamp : old.pass.stamp ≤ new.pass.stamp
  pub actor : new.pass.actor ≡ old.pass.actor

module _ {A : Type 0} (takes : Reply → A → A) where
  -- the member after these steps
  abbrev pub member_after : A → List Note → A
  member_after member [] = member
  member_after member (note ∷ notes) = member_after (takes note.reply member) notes

module _ {A : Type 0} (asks : A → Option Ask) (takes : Reply → A → A) where
  -- each note is the next step
  abbrev pub AreSteps : ℕ → A → ℕ → List Note → Type 0
  AreSteps actor member seen [] = Unit {0}
  AreSteps actor member seen (note ∷ notes) =
      IsStep asks actor member seen note × AreSteps actor (takes note.reply member) note.stamp notes

  -- one note was appended, of which P holds, and which is a step of the member. The pass stands at its stamp
  pub record DoesStep (old new : Crew A) (P : Note → Type 0) : Type 0 where
    pub note : Note
    pub list : new.list ≡ old.list ++ note ∷ []
    pub step : IsStep asks old.pass.actor old.member old.pass.stamp note
    pub member : new.member ≡ takes note.reply old.member
    pub stamp : new.pass.stamp ≡ note.stamp
    pub actor : new.pass.actor ≡ old.pass.actor
    pub holds : P note

  -- the notes were appended, each a step of the member; the pass stands at the last one's stamp or above
  pub record IsTurned (old new : Crew A) (notes : List Note) : Type 0 where
    pub list : new.list ≡ old.list ++ notes
    pub steps : AreSteps old.pass.actor old.member old.pass.stamp notes
    pub member : new.member ≡ member_after takes old.member notes
    pub stamp : stamp_after old.pass.stamp notes ≤ new.pass.stamp
    pub actor : new.pass.actor ≡ old.pass.actor

  -- the turn went on by these notes, which are noted
  pub record Went (old new : Crew A) (before after : Option BookNotes) : Type 0 where
    pub notes : List Note
    pub made : IsTurned old new notes
    pub stamp : new.pass.stamp ≡ stamp_after old.pass.stamp notes
    pub noted : after ≡ noted_all before notes

  -- the turn stopped: one step more than it kept may be noted
  pub record Stopped (old new : Crew A) (before after : Option BookNotes) : Type 0 where
    pub notes : List Note
    pub made : IsTurned old new notes
    pub more : NotesOneMore (noted_all before notes) after

  -- a turn was made, and told in `refused` how it ended
  pub record Turned (old new : Crew A) : Type 0 where
    pub notes : List Note
    pub made : IsTurned old new notes
    pub few : length old.list < 2 ^ 57 → length new.list < 2 ^ 57
    pub ended : MatchOption new.refused ((asks new.member ≡ None) × (new.pass.stamp ≡ stamp_after old.pass.stamp notes)) (λ _. Unit {0})

abbrev pub same_refusal : Refusal → Refusal → Bool
same_refusal Memory Memory = true
same_refusal Stamps Stamps = true
same_refusal _ _ = false

-- there is a refusal of this kind
abbrev pub refused_by : Refusal → Option Refusal → Bool
refused_by kind None = false
refused_by kind (Some refusal) = same_refusal refusal kind

-- the crew's turn stopped by this refusal
abbrev pub is_refused : {A : Type 0} → Refusal → Crew A → Bool
is_refused kind crew = refused_by kind crew.refused
