-- All steps of a round in one order, by stamp, then actor: that order is lawful, and drives the world to the same end (L. Lamport,
-- 'Time, clocks, and the ordering of events', 1978).
use Rattle.std.specs.Prelude.{ℕ, ◌≡◌, ◌+◌, ◌<◌, max, true, Some, List, [], ◌∷◌, ◌++◌, map}
use Rattle.stamped_book.specs.declared.stamped.Entry.{Entry}
use Rattle.stamped_book.specs.Journal.{Journaled, book_of, last_stamp}
use Rattle.send_book.specs.Steps as sending
use Rattle.reassembly_book.specs.Steps as arriving
use Rattle.control_book.specs.Replies as controlling
use Rattle.control_book.specs.Steps as control
use Rattle.stream_lanes.specs.Words.{Every}
use Rattle.actor_desk.specs.declared.ask.Note.{Note}
use Rattle.actor_desk.specs.declared.ask.Reply.TheVariants as replies
use Rattle.actor_desk.specs.Books.{StampedBooks}
use Rattle.actor_desk.specs.Journals.{is_local, ArePaired, order_of}
use Rattle.path_core.specs.Codec.{Codec}
use Rattle.world_laws.specs.Actors.{ActorCrew, member_asks, member_takes}
use Rattle.world_laws.specs.Fine.{IsFine, lists_of}
use Rattle.world_laws.specs.Openings.{Start, opened_world}
use Rattle.world_laws.specs.Serial.{spelled, after_turns, after_round, AreRounds}
use Rattle.world_laws.specs.StampedBooks.{journals_of}
use Rattle.world_laws.specs.Worlds.{WorldState, Turn, greatest, world_run, AreLawful}

-- ---- what a journal gains

module _ {O C R : Type 0} (reply_to : O → C → R) (after : O → C → O) where
  -- entries of calls that were made one after the other: each reply is the one that the book gives there, and each stamp is one
  -- more than the greater of the one before it and of what its asker had seen
  abbrev pub AreEntries : O → ℕ → List (Entry C R) → Type 0
  AreEntries book last [] = Unit {0}
  AreEntries book last (entry ∷ entries) =
      (entry.reply ≡ reply_to book entry.call) × (entry.stamp ≡ max last entry.seen + 1) × AreEntries (after book entry.call) entry.stamp entries

  -- the journal goes on from the old one with such entries, above a stamp
  pub record JournalGrew (top : ℕ) (old new : Journaled O C R) : Type 0 where
    pub entries : List (Entry C R)
    pub is : new ≡ record old { journal = old.journal ++ entries }
    pub made : AreEntries (book_of reply_to after old) (last_stamp 0 old.journal) entries
    pub above : Every (λ entry. top < entry.stamp) entries

-- each of the six journals did
pub record BooksGrew (top : ℕ) (old new : StampedBooks) : Type 0 where
  pub send_a : JournalGrew sending.reply_to sending.after_call top old.send_a new.send_a
  pub send_b : JournalGrew sending.reply_to sending.after_call top old.send_b new.send_b
  pub reassembly_a : JournalGrew arriving.reply_to arriving.after_call top old.reassembly_a new.reassembly_a
  pub reassembly_b : JournalGrew arriving.reply_to arriving.after_call top old.reassembly_b new.reassembly_b
  pub control_a : JournalGrew controlling.reply_to control.after top old.control_a new.control_a
  pub control_b : JournalGrew controlling.reply_to control.after top old.control_b new.control_b

-- steps of these actors
abbrev pub steps_by : List ℕ → List Turn
steps_by actors = map (λ actor. Turn.Step actor) actors

module _ {C : Type 0} where
  -- ---- what an actor does

  -- the actor after the step of this note
  abbrev pub after_note : Codec C → Note → ActorCrew C → ActorCrew C
  after_note k note c = record c {
    member = member_takes k note.reply c.member;
    pass = record c.pass { stamp = note.stamp };
    list = c.list ++ note ∷ [];
  }

  -- the actor after the steps of all these notes
  abbrev pub after_notes : Codec C → List Note → ActorCrew C → ActorCrew C
  after_notes k [] c = c
  after_notes k (note ∷ notes) c = after_notes k notes (after_note k note c)

  -- a step of the actor: it asks what it asks there and had seen what it knew; a local step has the next stamp, and no answer
  pub record IsStepOf (k : Codec C) (note : Note) (c : ActorCrew C) : Type 0 where
    pub asked : member_asks k c.member ≡ Some note.ask
    pub seen : note.seen ≡ c.pass.stamp
    pub actor : note.actor ≡ c.pass.actor
    pub rises : c.pass.stamp < note.stamp
    pub local : is_local note.ask ≡ true → (note.stamp ≡ c.pass.stamp + 1) × (note.reply ≡ replies.Done)

  -- steps of the actor, one after the other
  abbrev pub AreStepsOf : Codec C → List Note → ActorCrew C → Type 0
  AreStepsOf k [] c = Unit {0}
  AreStepsOf k (note ∷ notes) c = IsStepOf k note c × AreStepsOf k notes (after_note k note c)

  -- the actor made some steps
  pub record Stepped (k : Codec C) (c d : ActorCrew C) : Type 0 where
    pub notes : List Note
    pub are : AreStepsOf k notes c
    pub is : d ≡ after_notes k notes c

  -- each actor of a list did
  abbrev pub AllStepped : Codec C → List (ActorCrew C) → List (ActorCrew C) → Type 0
  AllStepped k [] [] = Unit {0}
  AllStepped k [] (d ∷ after) = ⊥
  AllStepped k (c ∷ crew) [] = ⊥
  AllStepped k (c ∷ crew) (d ∷ after) = Stepped k c d × AllStepped k crew after

  -- ---- a round

  -- A round begins: each actor knows this stamp, the greatest so far.
  pub record Begins (top : ℕ) (w : WorldState C) : Type 0 where
    pub fine : IsFine top w
    pub known : Every (λ c. c.pass.stamp ≡ top) w.crew

  -- What the steps of a round made of a world, whoever ordered them: actors and books went on, each at its own pace, and lists
  -- and journals are paired.
  pub record Worked (k : Codec C) (top : ℕ) (w v : WorldState C) : Type 0 where
    pub crew : AllStepped k w.crew v.crew
    pub books : BooksGrew top w.books v.books
    pub paired : ArePaired top (lists_of v.crew) (journals_of v.books)

  -- ---- woven

  -- the steps of a round, which began with this stamp, by stamp, then actor
  abbrev pub woven : ℕ → WorldState C → List Turn
  woven top w = steps_by (order_of top (lists_of w.crew))

  -- the woven turns of whole rounds that have these numbers of steps, each round with its end
  abbrev pub woven_rounds : Codec C → List (List ℕ) → WorldState C → List Turn
  woven_rounds k [] w = []
  woven_rounds k (counts ∷ rounds) w =
      woven (greatest 0 w.crew) (after_turns k 0 counts w) ++ Turn.Round ∷ woven_rounds k rounds (after_round k counts w)

  -- ---- laws

  -- what the steps of a round made: the same steps by stamp, then actor, are lawful, and make just that of the world
  abbrev pub WovenDoes : Codec C → Type 0
  WovenDoes k = (top : ℕ) (w v : WorldState C) → Begins top w → Worked k top w v → AreLawful k (woven top v) w × (world_run k (woven top v) w ≡ v)

  -- steps that were made one after the other, in any order, are such steps; so woven they come to the same
  abbrev pub StepsWeave : Codec C → Type 0
  StepsWeave k = (top : ℕ) (w : WorldState C) → Begins top w → (actors : List ℕ)
      → Worked k top w (world_run k (steps_by actors) w)
      × (AreLawful k (woven top (world_run k (steps_by actors) w)) w
      × (world_run k (woven top (world_run k (steps_by actors) w)) w ≡ world_run k (steps_by actors) w))

  -- serial rounds, woven one by one, are lawful from the opening on, and end as in order of number
  abbrev pub RoundsWeave : Codec C → Type 0
  RoundsWeave k = (start : Start) (most : ℕ) (rounds : List (List ℕ)) → AreRounds k most rounds (opened_world start)
      → AreLawful k (woven_rounds k rounds (opened_world start)) (opened_world start)
      × (world_run k (woven_rounds k rounds (opened_world start)) (opened_world start) ≡ world_run k (spelled rounds) (opened_world start))
