-- Once a run is delivered each octet of both files was granted to a path.
use Rattle.own_runs.proofs.Words.{◌≡◌, refl, sym, ◌∙◌, ap, subst, ℕ, zero, suc, ◌+◌, ◌<◌, ◌⊎◌, inl, inr, ⊎_elim, Bool, true, false, if◌then◌else◌, Option}
use Rattle.own_runs.proofs.Words.{Some, None, List, [], ◌∷◌, ◌++◌, length, map, fold, arith, ◌==◌, set, get_or, and_parts, and_from, eq-eqb, count_by}
use Rattle.own_runs.proofs.Words.{slice_get, same_Some, slice_get_within, Side, A, B, SendCall, covers, send_reply, pick, Ask, books_in, send_of, octets}
use Rattle.own_runs.proofs.Words.{values, DirectionHolds, Holds, Duo, after_events, Start, opened_world, was_told_end, ActorCrew, member_asks, WorldState}
use Rattle.own_runs.proofs.Words.{Turn, after_turn, all_over, asked, begins, crew_after, greatest, note_of, stepped, world_run, writes_the_files, Carries}
use Rattle.own_runs.proofs.Words.{IsSteady, Links, NoneIsFirm, Shown, WorldShows, asked_by, asked_in, first_duo, free_turn, plainly, plainly_free}
use Rattle.own_runs.proofs.Words.{turn_events, turn_is, run_fresh}
use Rattle.std.proofs.lemmas.List.Sums.{sum_by-set, sum_by_push}
use Rattle.stamped_book.specs.declared.stamped.Pass.{Pass}
use Rattle.send_book.specs.State.{Sending}
use Rattle.stream_lanes.specs.Moves.{Flags}
use Rattle.stream_lanes.specs.Streams.{Direction}
use Rattle.stream_lanes.proofs.Duos.{any_held}
use Rattle.stream_lanes.proofs.Views.{is_end}
use Rattle.actor_desk.specs.declared.ask.Note.{Note}
use Rattle.path_core.specs.Values.{Carried}
use Rattle.world_laws.specs.declared.outcome.Outcome.TheVariants.{Delivered}
use Rattle.world_laws.specs.Fresh.{shown_crew, shown_world}
use Rattle.world_laws.specs.Granted.{grants_byte, times_granted}
use Rattle.world_laws.specs.Laws.{WritesTheFiles}
use Rattle.world_laws.specs.Outcomes.{outcome_by, outcome_of}
use Rattle.world_laws.specs.Promises.{IsPlain, NumbersFit}
use Rattle.world_laws.proofs.Lanes.Beginning.{each_opening_shows}
use Rattle.world_laws.proofs.Lanes.EveryTurn.{each_turn_shows}
use Rattle.world_laws.proofs.Promises.OverOctets.{same_told}
use Rattle.world_laws.proofs.Worlds.Steady.{always_steady}
use Rattle.world_laws.proofs.Lanes.Strolling.{events_held}
use Rattle.own_runs.specs.Granting.{DeliveredFilesWereGranted, WasGranted}
use Rattle.own_runs.proofs.Granting.{AskGrants, Grants, Had, TurnGrants, turn_grows, way}

-- ---- what the actors noted

abbrev bit : Bool → ℕ
bit b = if b then 1 else 0

module _ (s : Side) (path place : ℕ) {C : Type 0} where
  abbrev in_list : ActorCrew C → ℕ
  in_list c = count_by (grants_byte s path place) c.list

  got : (crew : List (ActorCrew C)) (i : ℕ) (c d : ActorCrew C) → slice_get crew i ≡ Some c → get_or crew i d ≡ c
  got [] i c d there = cc
  got (x ∷ crew) zero c d there = same_Some x c there
  got (x ∷ crew) (suc i) c d there = got crew i c d there

  -- an actor notes more
  lists_more : (crew : List (ActorCrew C)) (i : ℕ) (c d : ActorCrew C) (more : ℕ) → slice_get crew i ≡ Some c → in_list d ≡ in_list c + more
      → times_granted s path place (set crew i d) ≡ times_granted s path place crew + more
  lists_more crew i c d more there is =
      let sum = sum_by-set in_list crew i d c (slice_get_within crew i c there) in
      let old : in_list (get_or crew i c) ≡ in_list c = ap in_list (got crew i c c there) in
      omega (arith, sum, old, is)

  one_more : (c d : ActorCrew C) (n : Note) → d.list ≡ c.list ++ n ∷ [] → in_list d ≡ in_list c + bit (grants_byte s path place n)
  one_more c d n is = ap (count_by (grants_byte s path place)) is ∙ sum_by_push (λ note. bit (grants_byte s path place note)) c.list n

  pub same_from : (stamp m : ℕ) (crew : List (ActorCrew C)) → fold (λ n c. n + in_list c) m (map (begins stamp) crew) ≡ fold (λ n c. n + in_list c) m crew
  same_from stamp m [] = refl
  same_from stamp m (c ∷ crew) = same_from stamp (m + in_list c) crew

same_shown : (s : Side) (path place m : ℕ) (crew : List (ActorCrew Carried))
    → fold (λ n c. n + in_list s path place c) m (map shown_crew crew) ≡ fold (λ n c. n + in_list s path place c) m crew
same_shown s path place m [] = refl
same_shown s path place m (c ∷ crew) = same_shown s path place (m + in_list s path place c) crew

shown_granted : (s : Side) (place : ℕ) (w : WorldState Carried) → WasGranted s place w.crew → WasGranted s place (shown_world w).crew
shown_granted s place w h = record { path = h.path; granted = let same = same_shown s h.path place 0 w.crew in let was = h.granted in omega (arith, same, was) }

-- ---- a turn

-- the books of the directions are those of the world
abbrev pub SameBooks : Duo → WorldState Carried → Type 0
SameBooks d w = (s : Side) → (way s d).send ≡ send_of s (books_in w.books)

-- what an ask grants its note says
note_grants : (s : Side) (ask : Ask) (pass : Pass) (d : Duo) (w : WorldState Carried) (place : ℕ) → SameBooks d w → AskGrants s ask d place
    → (path : ℕ) × (grants_byte s path place (note_of w.books pass ask) ≡ true)
note_grants A (Ask.Send A c) pass d w place same h = (elim c as (λ c. Grants c d.ab place → (path : ℕ) × (grants_byte A path place (note_of w.books pass (Ask.Send A c)) ≡ true)) [
  | SendCall.Grant path most standby ↦ λ h. (path, and_from (path == path) _ (eq-eqb path path refl) (subst (λ send. covers place (send_reply send (SendCall.Grant path most standby)) ≡ true) (same A) h))
  | SendCall.Write bytes ↦ λ h. absurd h
  | _ ↦ λ h. absurd h
]) h
note_grants B (Ask.Send B c) pass d w place same h = (elim c as (λ c. Grants c d.ba place → (path : ℕ) × (grants_byte B path place (note_of w.books pass (Ask.Send B c)) ≡ true)) [
  | SendCall.Grant path most standby ↦ λ h. (path, and_from (path == path) _ (eq-eqb path path refl) (subst (λ send. covers place (send_reply send (SendCall.Grant path most standby)) ≡ true) (same B) h))
  | SendCall.Write bytes ↦ λ h. absurd h
  | _ ↦ λ h. absurd h
]) h
note_grants A (Ask.Send B c) pass d w place same h = absurd h
note_grants B (Ask.Send A c) pass d w place same h = absurd h
note_grants A (Ask.Reassembly r c) pass d w place same h = absurd h
note_grants B (Ask.Reassembly r c) pass d w place same h = absurd h
note_grants A (Ask.Control r c) pass d w place same h = absurd h
note_grants B (Ask.Control r c) pass d w place same h = absurd h
note_grants A (Ask.Local step) pass d w place same h = absurd h
note_grants B (Ask.Local step) pass d w place same h = absurd h

-- what was granted stays so, and what the turn grants is granted
turn_grants : (s : Side) (place : ℕ) (turn : Turn) (d : Duo) (w : WorldState Carried) → SameBooks d w → WasGranted s place w.crew ⊎ TurnGrants s (asked_in turn w) d place
    → WasGranted s place (after_turn values turn w).crew
turn_grants s place (Turn.Step actor) d w same h = by (slice_get w.crew actor) refl h
  where
    at : (c : ActorCrew Carried) (o : Option Ask) → slice_get w.crew actor ≡ Some c → WasGranted s place w.crew ⊎ TurnGrants s o d place → WasGranted s place (asked values actor o c w).crew
    at c None there (inl old) = old
    at c None there (inr new) = absurd new
    at c (Some ask) there (inl old) =
        let n = note_of w.books c.pass ask in let was = old.granted in
        let more = lists_more s old.path place w.crew actor c (crew_after values ask w.books c) (bit (grants_byte s old.path place n)) there
        (one_more s old.path place c (crew_after values ask w.books c) n refl) in
        record { path = old.path; granted = omega (arith, more, was) }
    at c (Some ask) there (inr new) =
        let n = note_of w.books c.pass ask in let found = note_grants s ask c.pass d w place same new in
        let more = lists_more s found.0 place w.crew actor c (crew_after values ask w.books c) (bit (grants_byte s found.0 place n)) there
        (one_more s found.0 place c (crew_after values ask w.books c) n refl) in
        let one : bit (grants_byte s found.0 place n) ≡ 1 = ap bit found.1 in
        record { path = found.0; granted = omega (arith, more, one) }

    by : (o : Option (ActorCrew Carried)) → slice_get w.crew actor ≡ o → WasGranted s place w.crew ⊎ TurnGrants s (asked_by o) d place → WasGranted s place (stepped values actor o w).crew
    by None there (inl old) = old
    by None there (inr new) = absurd new
    by (Some c) there h = at c (member_asks values c.member) there h
turn_grants s place Turn.Round d w same (inr new) = absurd new
turn_grants s place Turn.Round d w same (inl old) = elim (all_over w.crew) as (λ b. WasGranted s place (if b then record w { crew = map (begins (greatest 0 w.crew)) w.crew } else w).crew)
    [ true ↦ let same = same_from s old.path place (greatest 0 w.crew) 0 w.crew in let was = old.granted in record { path = old.path; granted = omega (arith, same, was) } | false ↦ old ]

-- ---- every list of turns

pub record Noted (links : Links) (start : Start) (d : Duo) (w : WorldState Carried) : Type 0 where
  pub shows : WorldShows links start d w
  pub holds : Holds d
  pub noted : (s : Side) (path place : ℕ) → Had (way s d) path place → WasGranted s place w.crew

pub same_books : (links : Links) (start : Start) (d : Duo) (w : WorldState Carried) → WorldShows links start d w → SameBooks d w
same_books links start d w h A = ap (λ (x : Duo). x.ab.send) h.duo_is ∙ ap (λ (v : WorldState Carried). (books_in v.books).send_a) (sym h.is)
same_books links start d w h B = ap (λ (x : Duo). x.ba.send) h.duo_is ∙ ap (λ (v : WorldState Carried). (books_in v.books).send_b) (sym h.is)

module _ (start : Start) (can : Carries start) (free : NoneIsFirm can.links) where
  turn_noted : (turn : Turn) (d : Duo) (w : WorldState Carried) → IsSteady w → Noted can.links start d w → (e : Duo) × Noted can.links start e (after_turn values turn w)
  turn_noted turn d w steady n =
      let x : Shown can.links start turn d w = each_turn_shows start can turn d w (free_turn can.links free turn w) steady n.holds n.shows in (
        x.duo,
        record {
          shows = x.world_shows;
          holds = subst Holds (sym (turn_is x.turn_shows)) (events_held (turn_events x.turn_shows) d n.holds);
          noted = λ s path place had. turn_grants s place turn d w (same_books can.links start d w n.shows)
              (⊎_elim (λ old. inl (n.noted s path place old)) (λ new. inr new) ((turn_grows s (asked_in turn w) d x.duo n.holds x.turn_shows).each path place had));
        },
      )

  run_noted : (turns : List Turn) (d : Duo) (w : WorldState Carried) → ((more : List Turn) → IsSteady (world_run values more w)) → Noted can.links start d w
      → (e : Duo) × Noted can.links start e (world_run values turns w)
  run_noted [] d w steady n = (d, n)
  run_noted (turn ∷ turns) d w steady n =
      let next = turn_noted turn d w (steady []) n in run_noted turns next.0 (after_turn values turn w) (λ more. steady (turn ∷ more)) next.1

  nothing_there : (place byte : ℕ) → slice_get {X = ℕ} [] place ≡ Some byte → ⊥
  nothing_there place byte there = cc

  -- nothing was written yet
  nothing_had : (f : Flags) (d : Direction) → DirectionHolds f d → d.send.written ≡ [] → (path place : ℕ) → Had d path place → ⊥
  nothing_had f d h none path place had =
      let cell = (h.lanes.each path path had.0 (omega arith) had.1).record_of.cells.each had.2.at had.2.item had.2.there in
      nothing_there had.2.item.place had.2.item.byte (ap (λ written. slice_get written had.2.item.place) (sym none) ∙ cell.byte)

  opened_noted : (d : Duo) → Holds d → WorldShows can.links start d (opened_world start) → Noted can.links start d (opened_world start)
  opened_noted d holds shows = record { shows = shows; holds = holds; noted = by }
    where
      by : (s : Side) (path place : ℕ) → Had (way s d) path place → WasGranted s place (opened_world {C = Carried} start).crew
      by A path place had = absurd (nothing_had _ d.ab holds.ab (ap (λ (b : Sending). b.written) (same_books can.links start d (opened_world start) shows A)) path place had)
      by B path place had = absurd (nothing_had _ d.ba holds.ba (ap (λ (b : Sending). b.written) (same_books can.links start d (opened_world start) shows B)) path place had)

  pub all_noted : (turns : List Turn) → (d : Duo) × Noted can.links start d (world_run values turns (opened_world start))
  all_noted turns =
      let o = each_opening_shows start can in
      run_noted turns (after_events o.0 (first_duo can.links start)) (opened_world start) (always_steady start)
      (opened_noted (after_events o.0 (first_duo can.links start)) (any_held can.links.alters can.links.checked (length start.paths) start.buffer start.buffer o.0) o.1)

-- ---- the end

-- what a reader had when it was told the end was granted
module _ (f : Flags) (d : Direction) (h : DirectionHolds f d) where
  all_had : d.reader.told ≡ true → (file : List ℕ) → (d.send.closed ≡ true → d.send.written ≡ file) → (place : ℕ) → place < length file → (path : ℕ) × Had d path place
  all_had told file whole place below =
      let end = is_end d.send d.arrived.read (h.reader.told told) in
      let same = ap length (whole end.0) in
      let has = h.arrived.before place (omega (arith, below, end.1, same)) in
      (has.at, (has.item, has.there, has.holds))

delivered_told : (a b told dead : Bool) → outcome_by a b told dead ≡ Delivered → told ≡ true
delivered_told true b told dead is = cc
delivered_told false true told dead is = cc
delivered_told false false true dead is = refl
delivered_told false false false true is = cc
delivered_told false false false false is = cc

module _ (links : Links) (start : Start) (w : WorldState Carried) (d : Duo) (n : Noted links start d w) where
  told_at : (s : Side) → was_told_end s w ≡ true → (way (pick s B A) d).reader.told ≡ true
  told_at A told = ap (λ (x : Duo). x.ba.reader.told) n.shows.duo_is ∙ n.shows.reads_a.told_is ∙ ap (λ (v : WorldState Carried). was_told_end A v) (sym n.shows.is) ∙ told
  told_at B told = ap (λ (x : Duo). x.ab.reader.told) n.shows.duo_is ∙ n.shows.reads_b.told_is ∙ ap (λ (v : WorldState Carried). was_told_end B v) (sym n.shows.is) ∙ told

  all_granted : (s : Side) → was_told_end (pick s B A) w ≡ true → WritesTheFiles start w → (place : ℕ) → place < length (pick s start.file_a start.file_b) → WasGranted s place w.crew
  all_granted A told wrote place below =
      let found = all_had _ d.ab n.holds.ab (told_at B told) start.file_a
      (subst (λ (b : Sending). b.closed ≡ true → b.written ≡ start.file_a) (sym (same_books links start d w n.shows A)) wrote.a.whole) place below in
      n.noted A found.0 place found.1
  all_granted B told wrote place below =
      let found = all_had _ d.ba n.holds.ba (told_at A told) start.file_b
      (subst (λ (b : Sending). b.closed ≡ true → b.written ≡ start.file_b) (sym (same_books links start d w n.shows B)) wrote.b.whole) place below in
      n.noted B found.0 place found.1

-- each reader of a delivered run was told the end
pub ends_told : (start : Start) (turns : List Turn) → IsPlain start → NumbersFit start → outcome_of (world_run octets turns (opened_world start)).crew ≡ Delivered
    → (s : Side) → was_told_end s (world_run values turns (opened_world start)) ≡ true
ends_told start turns plain fit delivered s = there s (by s)
  where
    v : WorldState Carried
    v = world_run values turns (opened_world start)

    w : WorldState (List ℕ)
    w = world_run octets turns (opened_world start)

    both : (was_told_end A w ≡ true) × (was_told_end B w ≡ true)
    both = and_parts (was_told_end A w) (was_told_end B w) (delivered_told _ _ _ _ delivered)

    by : (s : Side) → was_told_end s w ≡ true
    by A = both.0
    by B = both.1

    there : (r : Side) → was_told_end r w ≡ true → was_told_end r v ≡ true
    there r told = sym (same_told r v) ∙ ap (was_told_end r) (sym (run_fresh start turns plain.size fit)) ∙ told

pub delivered_were_granted : DeliveredFilesWereGranted
delivered_were_granted start turns plain fit delivered s place below =
    let can = plainly start plain in
    let v = world_run values turns (opened_world start) in
    let n = all_noted start can (plainly_free start plain) turns in
    subst (λ (x : WorldState (List ℕ)). WasGranted s place x.crew) (sym (run_fresh start turns plain.size fit))
    (shown_granted s place v (all_granted can.links start v n.0 n.1 s (ends_told start turns plain fit delivered (pick s B A)) (writes_the_files values start turns) place below))
