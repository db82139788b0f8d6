-- A byte that isn't acknowledged was tried by the path, is held by another one, or may be taken.
use Rattle.std.proofs.Common.{◌≡◌, refl, sym, subst, ap, ◌∙◌, ℕ, ◌+◌, Bool, true, false, true≢false, not, Some, List, []}
use Rattle.std.specs.List.{slice_get}
use Rattle.std.proofs.lemmas.Bool.{both_ways, eq-eqb}
use Rattle.sides.specs.declared.side.Side.{Side}
use Rattle.send_book.specs.declared.mark.ByteMark.{ByteMark}
use Rattle.send_book.specs.declared.mark.ByteMark.TheVariants.{Acked, Held, Free}
use Rattle.send_book.specs.Marks.{is_acked}
use Rattle.send_book.specs.Tried.{contains}
use Rattle.stream_lanes.specs.Marks.{tried}
use Rattle.path_core.specs.State.{PathState}
use Rattle.path_core.specs.Values.{Carried, values}
use Rattle.world_laws.specs.Actors.{is_over}
use Rattle.world_laws.specs.Openings.{Start}
use Rattle.world_laws.specs.Promises.{HasRoom, written_by}
use Rattle.world_laws.specs.RoundDone.{reached}
use Rattle.world_laws.specs.Worlds.{Turn, WorldState, all_over}
use Rattle.world_laws.proofs.Rounds.Lifting.{all_over_each}
use Rattle.whole_paths.specs.BookNews.{is_free}
use Rattle.whole_paths.specs.Finish.{IsPathAt}
use Rattle.whole_paths.specs.FirstMissing.{EachMissingByteIsHeld, HasAHolder}
use Rattle.whole_paths.specs.FirstMissing.{HasAHolder as has}
use Rattle.whole_paths.specs.Holders.{TriedIsAwaited, holds}
use Rattle.whole_paths.proofs.GivenBack.{marks_are_right, rightly}
use Rattle.whole_paths.proofs.HolderWaits.{holders_let_go, numbered, of_path}
use Rattle.whole_paths.proofs.Holding.{holders_live}
use Rattle.whole_paths.proofs.InTime.{nil_so}
use Rattle.whole_paths.proofs.TriedBytes.{what_is_tried_is_awaited}

module _ (start : Start) (turns : List Turn) (size : HasRoom start) (over : all_over (reached values start turns).crew ≡ true) (number : ℕ) (p : PathState Carried) (here : IsPathAt number (reached values start turns) p)
    (s : Side) (place : ℕ) where
  abbrev w : WorldState Carried
  w = reached values start turns

  over_at : (n : ℕ) (q : PathState Carried) → IsPathAt n w q → q.agenda ≡ []
  over_at n q at = nil_so q.agenda (ap is_over (sym at.is) ∙ all_over_each w.crew (2 + n) at.crew over at.there)

  awaited : tried number (slice_get (written_by s w).marks place) ≡ true → HasAHolder s number place w p
  awaited is = has.own (of_path start turns number p here (TriedIsAwaited w) ((what_is_tried_is_awaited start turns size).each (2 + number) here.crew here.there) s place
      (subst (λ n. tried n (slice_get (written_by s w).marks place) ≡ true) (sym (numbered start turns number p here)) is))

  held_by : (holder : ℕ) (among : List Bool) → slice_get (written_by s w).marks place ≡ Some (Held holder among) → contains number among ≡ false → HasAHolder s number place w p
  held_by holder among there untried =
      let held : holds holder (slice_get (written_by s w).marks place) ≡ true = ap (holds holder) there ∙ eq-eqb holder holder refl in
      let found = (holders_live values start turns).each s holder place held in
      has.lent holder found.0 (λ same. both_ways _ (subst (λ (n : ℕ). contains n among ≡ false) (sym same) untried) (sym (ap rightly there) ∙ marks_are_right values start turns s place)) found.1
      (holders_let_go.begins start turns size s holder place found.0 found.1 (over_at holder found.0 found.1) held)

  by_mark : (m : ByteMark) → slice_get (written_by s w).marks place ≡ Some m → is_acked m ≡ false → HasAHolder s number place w p
  by_mark Acked there missing = absurd (true≢false missing)
  by_mark (Held holder among) there missing = by (contains number among) refl
    where
      by : (c : Bool) → contains number among ≡ c → HasAHolder s number place w p
      by true is = awaited (ap (tried number) there ∙ is)
      by false is = held_by holder among there is
  by_mark (Free among) there missing = by (contains number among) refl
    where
      by : (c : Bool) → contains number among ≡ c → HasAHolder s number place w p
      by true is = awaited (ap (tried number) there ∙ is)
      by false is = has.free (ap (is_free number) there ∙ ap not is)

pub each_missing_byte_is_held : EachMissingByteIsHeld
each_missing_byte_is_held start turns size over number p here s place mark there missing = by_mark start turns size over number p here s place mark there missing
