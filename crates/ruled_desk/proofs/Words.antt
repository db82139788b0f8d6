-- Words that several files of these proofs use, given on.
pub use Rattle.std.proofs.Common.{◌≡◌, refl, sym, ◌∙◌, ap, subst, ℕ, zero, suc, ◌-◌, ◌^◌, ◌<◌, ◌≤◌, ◌⊎◌, ◌↔◌, inl, inr, Bool, true, false, ◌||◌, List, [], ◌∷◌, ◌++◌, length, map, take, drop, Option, Some, None, Result, Ok, Err, arith, ◌+◌, set, ⊎_elim, eqb, ◌≢◌, get_or, ◌%◌, MatchBool, leb, ◌&&◌, replicate, append_assoc}
pub use Rattle.std.proofs.lemmas.List.{map-append, append_cancel_left, get_or-map, length-map, append-nil, get_or_default}
pub use Rattle.std.specs.Prelude.{OnOk, OnErr, MatchOption, MatchResult, All, slice_set, slice_index, vec_len, vec_capacity, IfOk}
pub use Rattle.std.proofs.lemmas.Bool.Decides.{nat_tests}
pub use Rattle.std.specs.List.{slice_index_or, list_any}
pub use mathlib.Core.Option.{some, none, some-injective, some-ne-none}
pub use lib.ListN.{get_elem?}
pub use Rattle.atomic_table.specs.Seated.{TableId}
pub use Rattle.atomic_table.specs.Table.{State, Me, Act, keeps, takes, Allows, Valid, stepped, carried_after, opening, rest, gives, put_back, Splits, Joins, Final, Seen}
pub use Rattle.atomic_table.proofs.Lists.{at_set, at_snoc, set_again, one_turn}
pub use Rattle.stamped_book.specs.Journal.{Journaled, Rise, book_of, last_stamp}
pub use Rattle.stamped_book.specs.declared.stamped.Entry.{Entry}
pub use Rattle.stamped_book.specs.declared.stamped.Refusal.{Refusal}
pub use Rattle.stamped_book.specs.declared.stamped.Refusal.TheVariants.{Memory, Stamps}
pub use Rattle.actor_desk.specs.declared.ask.Ask.{Ask}
pub use Rattle.actor_desk.specs.declared.ask.Note.{Note}
pub use Rattle.actor_desk.specs.declared.ask.Reply.{Reply}
pub use Rattle.actor_desk.specs.Journals.{is_local, send_note, reassembly_note, control_note, ArePaired}
pub use Rattle.actor_desk.specs.declared.actor.Crew.{Crew}
pub use Rattle.actor_desk.proofs.InKind.{control_kind, reassembly_kind, send_kind}
pub use Rattle.actor_desk.proofs.Small.{control_small, reassembly_small, send_small}
pub use Rattle.actor_turn.specs.Turns.{Went, Stopped, NotesOneMore, is_refused, refused_by, noted_all, stamp_after, Turned}
pub use Rattle.ruled_desk.specs.declared.rule.View.{View}
pub use Rattle.ruled_desk.specs.Growing.{HasLastStamp, grown, entry_by}
pub use Rattle.ruled_desk.specs.Rule.{HasTurn, HasOneMore, IsDone, IsDrawn, IsWaiting, IsAtRest, HasTaken, IsOut, view, takes_turn, waits, IsRuled, homed, Fits, IsAdded, IsServed, adds, serves, first_view, IsLooked, IsBack, without_part, newcomer, joined, spent}
pub use Rattle.ruled_desk.specs.Seats.{GainsJust, Locked, Seated, locked, seated}
pub use Rattle.ruled_desk.specs.declared.rider.Rider.{Rider}
pub use Rattle.ruled_desk.specs.Errands.{AllHave, AllRode, IsSent}
pub use Rattle.ruled_desk.specs.Riding.{AreNumbered, HasPass, NotesFull, OneIsUsedUp, Rode, all_joined, given_pass, is_rider_refused, known_with, pass_taken, notes_held, IsUsedUp}
pub use Rattle.ruled_desk.specs.SixSeats.{SixLocked, SixKnown, AreOf, how_many, is_out, nobody_out, numbers_of, names_of, Passed, nothing_known, AllGainJust, given_to, all_known, notes_by, notes_full}
pub use Rattle.ruled_desk.specs.Weighing.{weigh, span, bit}
pub use Rattle.ruled_desk.specs.Parts.{AreLeft, EachHas, both_seats, one_part_less}
pub use Rattle.ruled_desk.specs.WholeRounds.{AllTurned, AreActors, EndsAsTurns, IsWholeRound, OneIsFull, OneKnowsLast, crew_of, without_pass, NoTurnMade}
