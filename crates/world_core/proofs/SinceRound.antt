-- The steps of a round, and what its readers read, as what stands behind the last round's end.
use Rattle.std.proofs.Common.{◌≡◌, refl, sym, ◌∙◌, ap, ℕ, zero, suc, ◌<◌, ◌≤◌, Bool, true, false, nat_lt, List, [], ◌∷◌, ◌++◌, map, drop, length, get_or, arith}
use Rattle.std.proofs.Math.Seq.{drop-append_seam}
use Rattle.std.proofs.lemmas.Grind.{flat_map-append}
use Rattle.std.proofs.lemmas.List.Elements.{filter-append}
use Rattle.stream_lanes.specs.Words.{Every}
use Rattle.actor_desk.specs.declared.ask.Note.{Note}
use Rattle.actor_desk.specs.Journals.{above, with_notes, in_order}
use Rattle.world_laws.specs.Actors.{ActorCrew}
use Rattle.world_laws.specs.Fine.{lists_of}
use Rattle.world_laws.specs.Outcomes.{bytes_noted, read_by, notes_at}
use Rattle.world_laws.specs.Worlds.{WorldState, greatest}
use Rattle.world_core.specs.RoundEnds.{round_steps}
use Rattle.world_core.specs.Weaving.{GrewAbove, AllGrewAbove, IsSince, made_at, since}

abbrev Connection : Type 0
Connection = WorldState (List ℕ)

-- ---- the steps of a round

none_above : (top : ℕ) (notes : List Note) → Every (λ n. n.stamp ≤ top) notes → above top notes ≡ []
none_above top [] below = refl
none_above top (note ∷ notes) below = by (none_above top notes (record { each = λ i n there. below.each (suc i) n there })) (nat_lt top note.stamp) refl
  where
    by : above top notes ≡ [] → (b : Bool) → nat_lt top note.stamp ≡ b → above top (note ∷ notes) ≡ []
    by rest true is = let low = below.each 0 note refl in absurd (grind arith)
    by rest false is = rw is rest

all_above : (top : ℕ) (notes : List Note) → Every (λ n. top < n.stamp) notes → above top notes ≡ notes
all_above top [] high = refl
all_above top (note ∷ notes) high = by (all_above top notes (record { each = λ i n there. high.each (suc i) n there })) (nat_lt top note.stamp) refl
  where
    by : above top notes ≡ notes → (b : Bool) → nat_lt top note.stamp ≡ b → above top (note ∷ notes) ≡ note ∷ notes
    by rest true is = rw is (ap (λ xs. note ∷ xs) rest)
    by rest false is = let up = high.each 0 note refl in absurd (grind arith)

above_is : (top : ℕ) (before list : List Note) → GrewAbove top before list → drop (length before) list ≡ above top list
above_is top before list h =
    ap (drop (length before)) h.is ∙ drop-append_seam before h.more
    ∙ sym (ap (above top) h.is ∙ filter-append (λ note. nat_lt top note.stamp) before h.more
    ∙ ap (λ xs. xs ++ above top h.more) (none_above top before h.below) ∙ all_above top h.more h.above)

since_is : (top : ℕ) (lasts lists : List (List Note)) → AllGrewAbove top lasts lists → since (map length lasts) lists ≡ in_order top lists
since_is top [] [] h = refl
since_is top [] (list ∷ lists) h = absurd h
since_is top (before ∷ lasts) [] h = absurd h
since_is top (before ∷ lasts) (list ∷ lists) h =
    ap (λ xs. with_notes xs (since (map length lasts) lists)) (above_is top before list h.0)
    ∙ ap (with_notes (above top list)) (since_is top lasts lists h.1)

-- the notes that were made since are the steps of the round
pub steps_since : (made : List ℕ) (last w : Connection) → IsSince last made w → since made (lists_of w.crew) ≡ round_steps last w
steps_since made last w h =
    ap (λ ns. since ns (lists_of w.crew)) h.made_is ∙ since_is (greatest 0 last.crew) (lists_of last.crew) (lists_of w.crew) h.grew

-- ---- what a reader has read

pub notes_at-is : (actor : ℕ) (crew : List (ActorCrew (List ℕ))) → notes_at actor crew ≡ get_or (lists_of crew) actor []
notes_at-is actor [] = refl
notes_at-is zero (c ∷ crew) = refl
notes_at-is (suc actor) (c ∷ crew) = notes_at-is actor crew

grown_at : (top actor : ℕ) (lasts lists : List (List Note)) → AllGrewAbove top lasts lists
    → get_or lists actor [] ≡ get_or lasts actor [] ++ drop (get_or (map length lasts) actor 0) (get_or lists actor [])
grown_at top actor [] [] h = refl
grown_at top actor [] (list ∷ lists) h = absurd h
grown_at top actor (before ∷ lasts) [] h = absurd h
grown_at top zero (before ∷ lasts) (list ∷ lists) h =
    h.0.is ∙ ap (λ xs. before ++ xs) (sym (ap (drop (length before)) h.0.is ∙ drop-append_seam before h.0.more))
grown_at top (suc actor) (before ∷ lasts) (list ∷ lists) h = grown_at top actor lasts lists h.1

notes_grew : (made : List ℕ) (last w : Connection) (actor : ℕ) → IsSince last made w
    → notes_at actor w.crew ≡ notes_at actor last.crew ++ drop (made_at actor made) (notes_at actor w.crew)
notes_grew made last w actor h =
    notes_at-is actor w.crew ∙ grown_at (greatest 0 last.crew) actor (lists_of last.crew) (lists_of w.crew) h.grew
    ∙ ap (λ xs. xs ++ drop (get_or (map length (lists_of last.crew)) actor 0) (get_or (lists_of w.crew) actor [])) (sym (notes_at-is actor last.crew))
    ∙ ap (λ ns. notes_at actor last.crew ++ drop (get_or ns actor 0) (get_or (lists_of w.crew) actor [])) (sym h.made_is)
    ∙ ap (λ xs. notes_at actor last.crew ++ drop (made_at actor made) xs) (sym (notes_at-is actor w.crew))

pub read_grew : (made : List ℕ) (last w : Connection) (actor : ℕ) → IsSince last made w
    → read_by (notes_at actor w.crew) ≡ read_by (notes_at actor last.crew) ++ read_by (drop (made_at actor made) (notes_at actor w.crew))
read_grew made last w actor h =
    ap read_by (notes_grew made last w actor h) ∙ flat_map-append bytes_noted (notes_at actor last.crew) (drop (made_at actor made) (notes_at actor w.crew))
