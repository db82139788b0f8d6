-- The lanes behind all turns of a run: what was sent on them, and the infinite mappings that were told there (RFC 8684, section 3.7). Each gives the
-- positions behind it the places that they have, or it stands behind the FIN.
use Rattle.std.proofs.Common.{◌≡◌, refl, sym, ap, ◌∙◌, subst, ℕ, suc, ◌-◌, ◌<◌, ◌≤◌, ◌⊎◌, ◌||◌, not, inl, inr, ⊎_elim, Bool, true, false, if◌then◌else◌, Option, Some, None, List, length, length-append, arith}
use Rattle.std.specs.List.{slice_get}
use Rattle.std.proofs.lemmas.Bool.{both_ways}
use Rattle.std.proofs.lemmas.Option.{slice_get_within}
use Rattle.actor_desk.specs.Books.{books_in}
use Rattle.actor_desk.specs.Desk.{SixBooks}
use Rattle.actor_desk.specs.Words.{pick}
use Rattle.octet_text.specs.Prefix.{IsPrefix}
use Rattle.path_core.specs.Values.{Carried, values}
use Rattle.send_book.specs.State.{Sending}
use Rattle.sides.specs.declared.side.Side.TheVariants.{A, B}
use Rattle.sides.specs.declared.side.Side.{Side}
use Rattle.stream_lanes.proofs.Duos.{any_held}
use Rattle.stream_lanes.proofs.Lists.{item_at}
use Rattle.stream_lanes.proofs.MarkLists.{new_count}
use Rattle.stream_lanes.proofs.Promises.{paths_short}
use Rattle.stream_lanes.specs.Duo.{Duo, flags_ab, flags_ba}
use Rattle.stream_lanes.specs.Holding.{Holds, LaneHolds}
use Rattle.stream_lanes.specs.Lane.{Cell, Lane, Pair}
use Rattle.stream_lanes.specs.Moves.{place_by}
use Rattle.stream_lanes.specs.View.{View, end_of, view_of}
use Rattle.stream_lanes.specs.Words.{From}
use Rattle.world_laws.proofs.Lanes.OfAWorld.{Carries as MayCarry, WorldShows}
use Rattle.world_laws.proofs.Worlds.CastLifting.{writes_the_files}
use Rattle.world_laws.specs.Laws.{WritesTheFile}
use Rattle.world_laws.specs.Openings.{Start, opened_world}
use Rattle.world_laws.specs.Worlds.{Turn, WorldState, world_run}
use Rattle.own_runs.proofs.EndMaps.{LineOn, file_len, lane_of, place_at, upto_of}
use Rattle.own_runs.proofs.MapPlaces.{place_in}
use Rattle.own_runs.proofs.Reached.{EndsAs, duo_at}

-- what a side has written
abbrev pub book_of : Duo → Side → Sending
book_of d s = pick s d.ab.send d.ba.send

-- what holds of them
pub record AtLast (start : Start) (last : Duo) : Type 0 where
  pub holds : Holds last
  pub written : (s : Side) → length (book_of last s).written ≤ file_len start s
  pub closed : (s : Side) (k : ℕ) → end_of (book_of last s) ≡ Some k → k ≡ file_len start s

-- no lane has more than the file
short_in : (lanes : List Lane) (limit : ℕ) → ((n : ℕ) (l : Lane) → slice_get lanes n ≡ Some l → length l.sent ≤ limit) → (n : ℕ) → upto_of (slice_get lanes n) ≤ limit
short_in lanes limit each n = by (slice_get lanes n) refl
  where
    by : (o : Option Lane) → slice_get lanes n ≡ o → upto_of o ≤ limit
    by None at = omega arith
    by (Some l) at = each n l at

pub upto_short : (start : Start) (last : Duo) → AtLast start last → (path : ℕ) (s : Side) → upto_of (lane_of last path s) ≤ file_len start s
upto_short start last h path A =
    short_in last.ab.lanes (file_len start A) (λ n l at. let short = ((paths_short _ last.ab h.holds.ab).each n l at).sent in let most = h.written A in omega (arith, short, most)) path
upto_short start last h path B =
    short_in last.ba.lanes (file_len start B) (λ n l at. let short = ((paths_short _ last.ba h.holds.ba).each n l at).sent in let most = h.written B in omega (arith, short, most)) path

-- and each position of one has a place of it
within_in : (v : View) (lanes : List Lane) (limit : ℕ) → length v.written ≤ limit → From (LaneHolds v) 0 lanes → (n p : ℕ) → 1 ≤ p → p ≤ upto_of (slice_get lanes n)
    → place_at (slice_get lanes n) p < limit
within_in v lanes limit most holds n p some below = by (slice_get lanes n) refl below
  where
    by : (o : Option Lane) → slice_get lanes n ≡ o → p ≤ upto_of o → place_at o p < limit
    by None at below = absurd (omega (arith, some, below))
    by (Some l) at below =
        let cell = item_at l.sent (p - 1) (omega (arith, some, below)) in
        let written = slice_get_within v.written cell.0.place cell.0.byte (((holds.each n n l (omega arith) at).record_of.cells.each (p - 1) cell.0 cell.1).byte) in
        let same = ap place_in cell.1 in
        omega (arith, same, written, most)

pub places_within : (start : Start) (last : Duo) → AtLast start last → (path : ℕ) (s : Side) (p : ℕ) → 1 ≤ p → p ≤ upto_of (lane_of last path s)
    → place_at (lane_of last path s) p < file_len start s
places_within start last h path A p = within_in (view_of (flags_ab last.modes) last.ab.send last.ab.arrived) last.ab.lanes (file_len start A) (h.written A) h.holds.ab.lanes path p
places_within start last h path B p = within_in (view_of (flags_ba last.modes) last.ba.send last.ba.arrived) last.ba.lanes (file_len start B) (h.written B) h.holds.ba.lanes path p

module _ (start : Start) (can : MayCarry start) (turns : List Turn) (last : Duo) (e : EndsAs start can turns last) where
  abbrev v : WorldState Carried
  v = world_run values turns (opened_world start)

  abbrev h : WorldShows can.links start (duo_at start can v e.0) v
  h = e.0.shows

  abbrev six : SixBooks
  six = books_in h.cast.books

  writes_a : WritesTheFile start.file_a six.send_a
  writes_a = subst (λ (w : WorldState Carried). WritesTheFile start.file_a (books_in w.books).send_a) h.is (writes_the_files values start turns).a

  writes_b : WritesTheFile start.file_b six.send_b
  writes_b = subst (λ (w : WorldState Carried). WritesTheFile start.file_b (books_in w.books).send_b) h.is (writes_the_files values start turns).b

  wrote : (s : Side) → WritesTheFile (pick s start.file_a start.file_b) (pick s six.send_a six.send_b)
  wrote A = writes_a
  wrote B = writes_b

  same_book : (s : Side) → pick s six.send_a six.send_b ≡ book_of last s
  same_book A = ap (λ (d : Duo). d.ab.send) (sym h.duo_is ∙ e.1)
  same_book B = ap (λ (d : Duo). d.ba.send) (sym h.duo_is ∙ e.1)

  writes : (s : Side) → WritesTheFile (pick s start.file_a start.file_b) (book_of last s)
  writes s = subst (WritesTheFile (pick s start.file_a start.file_b)) (same_book s) (wrote s)

  closed_so : (file : List ℕ) (b : Sending) → (b.closed ≡ true → b.written ≡ file) → (k : ℕ) → end_of b ≡ Some k → k ≡ length file
  closed_so file b whole k is = by b.closed whole is
    where
      by : (closed : Bool) → (closed ≡ true → b.written ≡ file) → (if closed then Some (length b.written) else None) ≡ Some k → k ≡ length file
      by true whole is = let same : length b.written ≡ k = cc in sym same ∙ ap length (whole refl)
      by false whole is = cc

  prefix_short : (file written : List ℕ) → IsPrefix written file → length written ≤ length file
  prefix_short file written begins = let same = ap length begins.whole_is in omega (arith, same, length-append written begins.rest)

  pub at_last : AtLast start last
  at_last = record {
    holds = subst Holds e.1 (any_held can.links.alters can.links.checked (length start.paths) start.buffer start.buffer e.0.events);
    written = λ s. prefix_short (pick s start.file_a start.file_b) (book_of last s).written (writes s).prefix;
    closed = λ s k is. closed_so (pick s start.file_a start.file_b) (book_of last s) (writes s).whole k is;
  }

-- where no join was ever answered, other paths than path 0 have nothing
alone_in : (v : View) (lanes : List Lane) → v.alone ≡ true → From (LaneHolds v) 0 lanes → (n : ℕ) → (n ≡ 0 → ⊥) → upto_of (slice_get lanes n) ≡ 0
alone_in v lanes alone holds n other = by (slice_get lanes n) refl
  where
    by : (o : Option Lane) → slice_get lanes n ≡ o → upto_of o ≡ 0
    by None at = refl
    by (Some l) at = ap (λ (cells : List Cell). length cells) (((holds.each n n l (omega arith) at).alone alone).others other)

pub none_beside : (last : Duo) → Holds last → not last.modes.answered ≡ true → (path : ℕ) (s : Side) → (path ≡ 0 → ⊥) → upto_of (lane_of last path s) ≡ 0
none_beside last h alone path A other = alone_in (view_of (flags_ab last.modes) last.ab.send last.ab.arrived) last.ab.lanes alone h.ab.lanes path other
none_beside last h alone path B other = alone_in (view_of (flags_ba last.modes) last.ba.send last.ba.arrived) last.ba.lanes alone h.ba.lanes path other

-- ---- infinite mappings

-- the cell of a position
cell_there : (cells : List Cell) (p : ℕ) → 1 ≤ p → p ≤ length cells → (c : Cell) × (slice_get cells (p - 1) ≡ Some c)
cell_there cells p some most = item_at cells (p - 1) (omega (arith, some, most))

-- one that was sent; a FIN stands at the end of the file, as then all of it was granted to the path
pub pair_line : (v : View) (n : ℕ) (l : Lane) → LaneHolds v n l → (limit : ℕ) → length v.written ≤ limit → ((k : ℕ) → v.end ≡ Some k → k ≡ limit)
    → (i : ℕ) (m : Pair) → slice_get l.pairs i ≡ Some m → LineOn (Some l) limit m.place (suc m.pos)
pair_line v n l hold limit most closed i m there = (
  omega arith,
  λ p low below.
      let cell = cell_there l.sent p (omega (arith, low)) below in
      let place = (hold.pairs.told.each i m there).places (p - 1) cell.0 (omega (arith, low)) cell.1 in
      ap place_in cell.1 ∙ omega (arith, place, low),
  λ p fin low.
      let endless = hold.pairs.told.each i m there in
      let is = hold.fins.each fin.at fin.item fin.there in
      let at = fin.holds in
      let last = is.last in
      let whole = closed is.left.0 is.left.1 in
      let all = is.left.2 in
      let few = new_count n (place_by m (length l.sent)) v.marks endless.rest in
      let upto = endless.upto in
      let within = endless.within in
      omega (arith, at, last, whole, all, few, upto, within, most, low),
)

-- one behind the FIN
pub fin_line : (v : View) (n : ℕ) (l : Lane) → LaneHolds v n l → (limit i k : ℕ) → slice_get l.fins i ≡ Some k → (place position : ℕ) → suc k ≡ position - 1
    → LineOn (Some l) limit place position
fin_line v n l hold limit i k there place position is =
    let last = (hold.fins.each i k there).last in (
      omega (arith, is),
      λ p low below. absurd (omega (arith, last, is, low, below)),
      λ p fin low. let other = (hold.fins.each fin.at fin.item fin.there).last in let at = fin.holds in absurd (omega (arith, last, is, low, other, at)),
    )

-- in plain TCP that of a position
pub plain_line : (v : View) (n : ℕ) (l : Lane) → LaneHolds v n l → (limit : ℕ) → ((k : ℕ) → v.end ≡ Some k → k ≡ limit) → v.alone ≡ true → (position : ℕ) → 1 ≤ position
    → LineOn (Some l) limit (position - 1) position
plain_line v n l hold limit closed alone position some = (
  some,
  λ p low below.
      let cell = cell_there l.sent p (omega (arith, low, some)) below in
      let place = (hold.alone alone).identity.each (p - 1) (p - 1) cell.0 (omega arith) cell.1 in
      ap place_in cell.1 ∙ omega (arith, place, low, some),
  λ p fin low. let whole = closed fin.item ((hold.fins.each fin.at fin.item fin.there).ends alone) in let at = fin.holds in omega (arith, whole, at, low, some),
)

-- where a side fell back to plain TCP no join was ever answered
pub alone_so : (d : Duo) → Holds d → (d.modes.plain_a ≡ true) ⊎ (d.modes.plain_b ≡ true) → not d.modes.answered ≡ true
alone_so d h fell = by d.modes.answered refl
  where
    begun : d.modes.answered ≡ true → d.modes.plain_a ≡ true → ⊥
    begun answered plain = both_ways d.modes.begun (h.modes.a plain) (h.modes.answered answered)

    by : (b : Bool) → d.modes.answered ≡ b → not b ≡ true
    by false is = refl
    by true is = absurd (⊎_elim (begun is) (λ plain. both_ways d.modes.answered (h.modes.b plain) is) fell)

pub either_plain : (a b : Bool) → a || b ≡ true → (a ≡ true) ⊎ (b ≡ true)
either_plain true b is = inl refl
either_plain false b is = inr is
