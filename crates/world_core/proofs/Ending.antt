-- The end of a round: each actor can begin the next one, and the world stays sound.
use Rattle.std.proofs.Common.{◌≡◌, refl, sym, ◌∙◌, subst, ℕ, zero, suc, ◌+◌, ◌*◌, ◌^◌, ◌<◌, ◌≤◌, Bool, true, false, ◌&&◌, if◌then◌else◌, Some, List, [], ◌∷◌, length, map, arith}
use Rattle.std.proofs.lemmas.Bool.{both_ways}
use Rattle.std.proofs.lemmas.List.{length-map}
use Rattle.std.specs.List.{slice_get, slice_index_or}
use Rattle.actor_desk.specs.Words.{is_nil}
use Rattle.path_core.specs.Start.{waiting_path}
use Rattle.path_core.specs.State.{PathState}
use Rattle.path_core.specs.Steps.{begins_turn}
use Rattle.stream_lanes.proofs.Lists.{in_map}
use Rattle.world_laws.specs.Actors.{Actor, ActorCrew, member_next, is_over}
use Rattle.world_laws.specs.declared.member.Member.TheVariants.{App, Path}
use Rattle.world_laws.specs.Fine.{IsFine, top_after}
use Rattle.world_laws.specs.Openings.{Start, opened_world, path_begins}
use Rattle.actor_desk.specs.Books.{StampedBooks}
use Rattle.world_laws.specs.Worlds.{Turn, all_over, greatest, begins, end_round}
use Rattle.world_laws.specs.Timely.{CanBegin, IsTimely, IsTimelyMember}
use Rattle.world_laws.proofs.Weaving.Paired.{round_fine, opened_fine}
use Rattle.world_laws.proofs.Rounds.Frame.{first_keeps, first_stands}
use Rattle.world_laws.proofs.Rounds.Lifting.{opened_lifted}
use Rattle.world_core.specs.Kept.{world, BeginsAbove, IsInRoundAbove, IsSound, IsKept}
use Rattle.world_core.specs.declared.hearing.Hearing.{Hearing}
use Rattle.world_core.specs.Hearing.{heard_by}
use Rattle.world_core.specs.Timely.{IsTimelyCrew, AreTimely, IsReady}
use Rattle.world_core.proofs.InRound.{ended_in_round}
use Rattle.world_core.proofs.Showing.{heard_begun}

first_of_both : (a b : Bool) → (a && b) ≡ true → a ≡ true
first_of_both = elim [ true ↦ λ b e. refl | false ↦ λ b e. e ]

second_of_both : (a b : Bool) → (a && b) ≡ true → b ≡ true
second_of_both = elim [ true ↦ λ b e. e | false ↦ λ b e. cc ]

module _ {C : Type 0} where
  -- ---- each turn ended

  can_begin : (m : Actor C) (n : ℕ) → n < 2 ^ 57 → IsTimelyMember n m → is_over m ≡ true → CanBegin m
  can_begin = elim [ App a ↦ λ n few h over. tt | Path p ↦ λ n few h over. omega (arith, few, h.over over) ]

  rest_timely : (c : ActorCrew C) (crew : List (ActorCrew C)) → AreTimely (c ∷ crew) → AreTimely crew
  rest_timely c crew h = record { each = λ i x at. h.each (suc i) x at }

  pub all_ready : (crew : List (ActorCrew C)) → AreTimely crew → all_over crew ≡ true → (k : ℕ) (d : ActorCrew C) → k < length crew
      → IsReady (slice_index_or crew k d)
  all_ready [] h over k d within = absurd (omega (arith, within))
  all_ready (c ∷ crew) h over zero d within =
      let this : IsTimelyCrew c = h.each 0 c refl in
      let ended : is_over c.member ≡ true = first_of_both (is_over c.member) (all_over crew) over in
      record { over = ended; can = can_begin c.member (length c.list) this.few this.timely ended }
  all_ready (c ∷ crew) h over (suc k) d within =
      all_ready crew (rest_timely c crew h) (second_of_both (is_over c.member) (all_over crew) over) k d (omega (arith, within))

  -- ---- the next round

  -- a path that begins a turn has something to do
  first_timely : (p : PathState C) (n : ℕ) → p.until ≤ 100 * n + 100 → IsTimely n (begins_turn p)
  first_timely p n most =
      let kept = first_keeps p in
      record { begun = omega (arith, kept.0, most); over = λ nothing. absurd (both_ways (is_nil (begins_turn p).agenda) (first_stands p) nothing) }

  begun_timely : (m : Actor C) (n : ℕ) → IsTimelyMember n m → is_over m ≡ true → IsTimelyMember n (member_next m)
  begun_timely (App a) n h over = tt
  begun_timely (Path p) n h over =
      let most = h.over over in first_timely (record p { clock = p.until; until = p.until + 100 }) n (omega (arith, most))

  all_over_at : (crew : List (ActorCrew C)) (i : ℕ) (c : ActorCrew C) → all_over crew ≡ true → slice_get crew i ≡ Some c → is_over c.member ≡ true
  all_over_at [] i c over at = cc
  all_over_at (x ∷ crew) zero c over at =
      let same : x ≡ c = cc in subst (λ y. is_over y.member ≡ true) same (first_of_both (is_over x.member) (all_over crew) over)
  all_over_at (x ∷ crew) (suc i) c over at = all_over_at crew i c (second_of_both (is_over x.member) (all_over crew) over) at

  all_begun : (stamp : ℕ) (crew : List (ActorCrew C)) → AreTimely crew → all_over crew ≡ true → AreTimely (map (begins stamp) crew)
  all_begun stamp crew h over = record {
    each = λ i x at.
        let found = in_map (begins stamp) crew i x at in
        let this : IsTimelyCrew found.0 = h.each i found.0 found.1 in
        subst IsTimelyCrew found.2 (record {
          few = this.few;
          timely = begun_timely found.0.member (length found.0.list) this.timely (all_over_at crew i found.0 over found.1);
        });
  }

  pub ended_timely : (crew : List (ActorCrew C)) → AreTimely crew
      → AreTimely (if all_over crew then map (begins (greatest 0 crew)) crew else crew)
  ended_timely crew h = (elim (all_over crew) as (λ b. all_over crew ≡ b → AreTimely (if b then map (begins (greatest 0 crew)) crew else crew))
      [ true ↦ λ over. all_begun (greatest 0 crew) crew h over | false ↦ λ over. h ]) refl

-- ---- the world

-- the crew after the round
abbrev pub ended : List (ActorCrew (List ℕ)) → List (ActorCrew (List ℕ))
ended crew = if all_over crew then map (begins (greatest 0 crew)) crew else crew

pub ended_is : (crew : List (ActorCrew (List ℕ))) (books : StampedBooks) → world (ended crew) books ≡ end_round (world crew books)
ended_is crew books =
    elim (all_over crew) as (λ b. world (if b then map (begins (greatest 0 crew)) crew else crew) books ≡ (if b then record (world crew books) { crew = map (begins (greatest 0 crew)) crew } else world crew books)) [
      | true ↦ refl
      | false ↦ refl
    ]

pub ended_sound : (crew : List (ActorCrew (List ℕ))) (books : StampedBooks) → IsSound (world crew books) → IsSound (world (ended crew) books)
ended_sound crew books h = record {
  top = top_after Turn.Round (world crew books) h.top;
  fine = subst (IsFine (top_after Turn.Round (world crew books) h.top)) (sym (ended_is crew books)) (round_fine h.top (world crew books) h.fine);
  timely = ended_timely crew h.timely;
  round = subst (IsInRoundAbove (top_after Turn.Round (world crew books) h.top)) (sym (ended_is crew books)) (ended_in_round h.top (world crew books) h.round);
}

heard_ended : (crew : List (ActorCrew (List ℕ))) → heard_by (ended crew) ≡ heard_by crew
heard_ended crew = elim (all_over crew) as (λ b. heard_by (if b then map (begins (greatest 0 crew)) crew else crew) ≡ heard_by crew)
    [ true ↦ heard_begun (greatest 0 crew) crew | false ↦ refl ]

length_ended : (crew : List (ActorCrew (List ℕ))) → length (ended crew) ≡ length crew
length_ended crew = elim (all_over crew) as (λ b. length (if b then map (begins (greatest 0 crew)) crew else crew) ≡ length crew)
    [ true ↦ length-map crew (begins (greatest 0 crew)) | false ↦ refl ]

pub ended_kept : (crew : List (ActorCrew (List ℕ))) (books : StampedBooks) (h : Hearing) (failed : Bool) → IsKept failed (world crew books) h
    → IsKept failed (world (ended crew) books) h
ended_kept crew books h failed k = record {
  sound = λ is. ended_sound crew books (k.sound is);
  hearing = k.hearing ∙ sym (heard_ended crew);
  few = subst (λ n. n < 32) (sym (length_ended crew)) k.few;
}

-- ---- the opening

pub opened_sound : (start : Start) → IsSound (opened_world start)
opened_sound start = record {
  top = 0;
  fine = opened_fine start;
  timely = opened_lifted IsTimelyCrew start (record { few = omega arith; timely = tt }) (record { few = omega arith; timely = tt })
      (λ number plan there. record { few = omega arith; timely = first_timely (waiting_path (path_begins start number plan) start.lines) 0 (omega (arith)) });
  round = record {
    begun = opened_world start;
    begins = BeginsAbove.First refl (opened_lifted (λ (c : ActorCrew (List ℕ)). c.list ≡ []) start refl refl (λ number plan there. refl));
    order = [];
    steps = refl;
  };
}

pub opened_parts : (start : Start) (crew : List (ActorCrew (List ℕ))) (books : StampedBooks) → crew ≡ (opened_world start).crew → books ≡ (opened_world {C = List ℕ} start).books
    → IsSound (world crew books)
opened_parts start crew books e f = subst (λ b. IsSound (world crew b)) (sym f) (subst (λ xs. IsSound (world xs (opened_world {C = List ℕ} start).books)) (sym e) (opened_sound start))
