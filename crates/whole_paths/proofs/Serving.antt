-- A path whose ends stand by at no moment never asks for bytes on standby: each of its steps asks as its end stood then.
use Rattle.std.proofs.Common.{◌≡◌, refl, sym, subst, ap, ◌∙◌, ⊎_elim, ℕ, ◌+◌, ◌≤◌, arith, le_refl, false, Option, Some, None, List, [], ◌∷◌, ◌++◌, append_assoc, drop, length, length-append}
use Rattle.std.specs.List.{list_any, slice_get}
use Rattle.std.proofs.lemmas.List.{append-nil, drop-append-le}
use Rattle.std.proofs.lemmas.Option.{same_Some}
use Rattle.sides.specs.declared.side.Side.{Side}
use Rattle.stream_lanes.proofs.Lists.{in_map, in_set}
use Rattle.actor_desk.specs.declared.ask.Ask.{Ask}
use Rattle.actor_desk.specs.declared.ask.Note.{Note}
use Rattle.stream_apps.specs.AppSteps.{app_ask, app_asks_first}
use Rattle.path_core.specs.Codec.{Codec}
use Rattle.path_core.specs.Duties.{ask_for}
use Rattle.path_core.specs.Octets.{octets}
use Rattle.path_core.specs.State.{PathState, end_at}
use Rattle.path_core.specs.Steps.{asks_first}
use Rattle.path_core.specs.Values.{values}
use Rattle.world_laws.specs.declared.member.Member.TheVariants.{App, Path}
use Rattle.world_laws.specs.Actors.{Actor, ActorCrew, member_asks}
use Rattle.world_laws.specs.Openings.{Start, opened_world}
use Rattle.world_laws.specs.Outcomes.{notes_at, notes_or}
use Rattle.world_laws.specs.RoundDone.{reached}
use Rattle.world_laws.specs.RoundNumbers.{is_standby, last_on_standby, steps_since}
use Rattle.world_laws.specs.Worlds.{Turn, WorldState, after_turn, begins, crew_after, greatest, note_of}
use Rattle.world_laws.proofs.Rounds.Lifting.{opened_lifted}
use Rattle.world_laws.proofs.Weaving.WholeRounds.{run_append}
use Rattle.world_laws.proofs.Worlds.Turns.{turn_so}
use Rattle.whole_paths.specs.Serving.{ServesAt, WhoServesAsksSo, WhoServesSinceAsksSo}
use Rattle.whole_paths.proofs.Standing.{app_serves, drop_none, duty_serves, last_none, more_none, noted_on_standby}

module _ {C : Type 0} (k : Codec C) (number : ℕ) where
  -- it asked for bytes on standby in no step
  abbrev Served : WorldState C → Type 0
  Served w = (c : ActorCrew C) → slice_get w.crew (2 + number) ≡ Some c → list_any (noted_on_standby k) c.list ≡ false

  member_serves : (m : Actor C) (x : Ask) → member_asks k m ≡ Some x → ((p : PathState C) → m ≡ Path p → (s : Side) → (end_at s p).modes.standby ≡ false) → is_standby x ≡ false
  member_serves (App a) x is h = (elim a.agenda as (λ ds. app_asks_first ds a ≡ Some x → is_standby x ≡ false)
      [ [] ↦ λ is. cc | d ∷ ds ↦ λ is. subst (λ y. is_standby y ≡ false) (same_Some (app_ask d a) x is) (app_serves d a) ]) is
  member_serves (Path p) x is h = (elim p.agenda as (λ ds. asks_first k ds p ≡ Some x → is_standby x ≡ false)
      [ [] ↦ λ is. cc | d ∷ ds ↦ λ is. subst (λ y. is_standby y ≡ false) (same_Some (ask_for k d p) x is) (duty_serves k p (h p refl) d) ]) is

  turn_serves : (turn : Turn) (w : WorldState C) → ServesAt number w → Served w → Served (after_turn k turn w)
  turn_serves turn w serves h = turn_so k Served turn w h
      (λ actor c x there is d at. ⊎_elim
      (λ here.
      (let own : slice_get w.crew (2 + number) ≡ Some c = subst (λ n. slice_get w.crew n ≡ Some c) (sym here.0) there in
      subst (λ (y : ActorCrew C). list_any (noted_on_standby k) y.list ≡ false) here.1
      (more_none k c.list (note_of w.books c.pass x) (h c own) (member_serves c.member x is (λ p path. serves p (record { crew = c; there = own; is = path }))))))
      (λ other. h d other.1)
      (in_set w.crew actor (crew_after k x w.books c) (2 + number) d at))
      (λ over d at. (let found = in_map (begins (greatest 0 w.crew)) w.crew (2 + number) d at in subst (λ (y : ActorCrew C). list_any (noted_on_standby k) y.list ≡ false) found.2 (h found.0 found.1)))

  module _ (start : Start) (turns : List Turn) (along : (ts us : List Turn) → ts ++ us ≡ turns → ServesAt number (reached k start ts)) where
    so_far : (done more : List Turn) → done ++ more ≡ turns → Served (reached k start done) → Served (reached k start turns)
    so_far done [] is h = subst (λ ts. Served (reached k start ts)) (sym (append-nil done) ∙ is) h
    so_far done (turn ∷ more) is h = so_far (done ++ turn ∷ []) more (append_assoc done (turn ∷ []) more ∙ is)
        (subst Served (sym (run_append k done (turn ∷ []) (opened_world start))) (turn_serves turn (reached k start done) (along done (turn ∷ more) is) h))

    served : Served (reached k start turns)
    served = so_far [] turns refl (λ c there. (opened_lifted (λ (c : ActorCrew C). list_any (noted_on_standby k) c.list ≡ false) start refl refl (λ number other there. refl)).each (2 + number) c there)

asks_so : {C : Type 0} (k : Codec C) → WhoServesAsksSo k
asks_so k start number turns along begun s =
    last_none k s (drop (length (notes_at (2 + number) begun.crew)) (notes_at (2 + number) (reached k start turns).crew)) (drop_none k (length (notes_at (2 + number) begun.crew)) (notes_at (2 + number) (reached k start turns).crew) (by (slice_get (reached k start turns).crew (2 + number)) refl))
  where
    by : (o : Option _) → slice_get (reached k start turns).crew (2 + number) ≡ o → list_any (noted_on_standby k) (notes_or o) ≡ false
    by None there = refl
    by (Some c) there = served k number start turns along c there

pub who_serves_asks_so : WhoServesAsksSo values
who_serves_asks_so start number turns along begun s = asks_so values start number turns along begun s

pub who_serves_asks_so_in_octets : WhoServesAsksSo octets
who_serves_asks_so_in_octets start number turns along begun s = asks_so octets start number turns along begun s

-- ---- since some turns

module _ {C : Type 0} (k : Codec C) where
  none_left : (xs : List Note) → list_any (noted_on_standby k) (drop (length xs) xs) ≡ false
  none_left [] = refl
  none_left (x ∷ xs) = none_left xs

  -- of the steps behind the first ones none asked on standby
  record NoneBehind (n : ℕ) (xs : List Note) : Type 0 where
    grown : n ≤ length xs
    none : list_any (noted_on_standby k) (drop n xs) ≡ false

  more_behind : (n : ℕ) (xs : List Note) (y : Note) → NoneBehind n xs → noted_on_standby k y ≡ false → NoneBehind n (xs ++ y ∷ [])
  more_behind n xs y h last = let low = h.grown in let long = length-append xs (y ∷ []) in record {
    grown = omega (arith, low, long);
    none = subst (λ zs. list_any (noted_on_standby k) zs ≡ false) (sym (drop-append-le n xs (y ∷ []) low)) (more_none k (drop n xs) y h.none last);
  }

  module _ (number n : ℕ) where
    record ServedSince (w : WorldState C) : Type 0 where
      served : (c : ActorCrew C) → slice_get w.crew (2 + number) ≡ Some c → NoneBehind n c.list

    turn_since : (turn : Turn) (w : WorldState C) → ServesAt number w → ServedSince w → ServedSince (after_turn k turn w)
    turn_since turn w serves h = turn_so k ServedSince turn w h
        (λ actor c x there is. record {
          served = λ d at. ⊎_elim
              (λ here.
              (let own : slice_get w.crew (2 + number) ≡ Some c = subst (λ i. slice_get w.crew i ≡ Some c) (sym here.0) there in
              subst (λ (y : ActorCrew C). NoneBehind n y.list) here.1
              (more_behind n c.list (note_of w.books c.pass x) (h.served c own) (member_serves k number c.member x is (λ p path. serves p (record { crew = c; there = own; is = path }))))))
              (λ other. h.served d other.1)
              (in_set w.crew actor (crew_after k x w.books c) (2 + number) d at);
        })
        (λ over. record { served = λ d at. (let found = in_map (begins (greatest 0 w.crew)) w.crew (2 + number) d at in subst (λ (y : ActorCrew C). NoneBehind n y.list) found.2 (h.served found.0 found.1)) })

    module _ (start : Start) (since more : List Turn) (along : (ts us : List Turn) → ts ++ us ≡ more → ServesAt number (reached k start (since ++ ts))) where
      since_far : (done rest : List Turn) → done ++ rest ≡ more → ServedSince (reached k start (since ++ done)) → ServedSince (reached k start (since ++ more))
      since_far done [] is h = subst (λ ts. ServedSince (reached k start (since ++ ts))) (sym (append-nil done) ∙ is) h
      since_far done (turn ∷ rest) is h = since_far (done ++ turn ∷ []) rest (append_assoc done (turn ∷ []) rest ∙ is)
          (subst (λ ts. ServedSince (reached k start ts)) (append_assoc since done (turn ∷ []))
          (subst ServedSince (sym (run_append k (since ++ done) (turn ∷ []) (opened_world start))) (turn_since turn (reached k start (since ++ done)) (along done (turn ∷ rest) is) h)))

      since_whole : ServedSince (reached k start since) → ServedSince (reached k start (since ++ more))
      since_whole h = since_far [] more refl (subst (λ ts. ServedSince (reached k start ts)) (sym (append-nil since)) h)

  behind_itself : (xs : List Note) (n : ℕ) → n ≡ length xs → NoneBehind n xs
  behind_itself xs n is = subst (λ m. NoneBehind m xs) (sym is) (record { grown = le_refl (length xs); none = none_left xs })

  none_since : (n : ℕ) (o : Option (ActorCrew C)) → ((c : ActorCrew C) → o ≡ Some c → NoneBehind n c.list) → list_any (noted_on_standby k) (drop n (notes_or o)) ≡ false
  none_since n None h = drop_none k n [] refl
  none_since n (Some c) h = (h c refl).none

  pub asks_since : (number : ℕ) (start : Start) (since more : List Turn) → ((ts us : List Turn) → ts ++ us ≡ more → ServesAt number (reached k start (since ++ ts)))
      → (s : Side) → last_on_standby s false (steps_since (2 + number) (reached k start since) (reached k start (since ++ more))) ≡ false
  asks_since number start since more along s =
      last_none k s (drop n (notes_at (2 + number) (reached k start (since ++ more)).crew)) (none_since n (slice_get (reached k start (since ++ more)).crew (2 + number)) after.served)
    where
      n : ℕ
      n = length (notes_at (2 + number) (reached k start since).crew)

      after : ServedSince number n (reached k start (since ++ more))
      after = since_whole number n start since more along (record { served = λ c there. behind_itself c.list n (ap (λ o. length (notes_or o)) there) })

pub who_serves_since_asks_so : WhoServesSinceAsksSo values
who_serves_since_asks_so start number since more along s = asks_since values number start since more along s

pub who_serves_since_asks_so_in_octets : WhoServesSinceAsksSo octets
who_serves_since_asks_so_in_octets start number since more along s = asks_since octets number start since more along s
