-- Where both ends of a path are open, nearly nothing leads the exchange of an ask of a mild connection awry.
use Rattle.std.proofs.Common.{◌≡◌, refl, sym, subst, ap, ◌∙◌, inl, inr, ℕ, arith, Bool, true, false, true≢false, Option, Some, None, is_some, IfSome, List, [], ◌∷◌, ◌++◌}
use Rattle.std.specs.List.{list_any, slice_get}
use Rattle.std.proofs.lemmas.Bool.{and_parts, both_ways}
use Rattle.sides.specs.declared.side.Side.{Side}
use Rattle.sides.specs.declared.side.Side.TheVariants.{A, B}
use Rattle.sides.specs.Side.{peer}
use Rattle.actor_desk.specs.declared.ask.Note.{Note}
use Rattle.path_core.specs.MpJoin.{is_joined}
use Rattle.path_core.specs.State.{PathState, end_at}
use Rattle.path_core.specs.Values.{Carried, values}
use Rattle.world_laws.specs.declared.member.Member.TheVariants.{App, Path}
use Rattle.world_laws.specs.AbortCause.{note_asks_fast_close}
use Rattle.world_laws.specs.Actors.{Actor, ActorCrew}
use Rattle.world_laws.specs.Members.{HoldsOfKind}
use Rattle.world_laws.specs.Openings.{Start, opened_world}
use Rattle.world_laws.specs.Outcomes.{notes_of, notes_or, was_told}
use Rattle.world_laws.specs.Promises.{NothingWasRefused, tells_refusal}
use Rattle.world_laws.specs.Worlds.{WorldState, Turn, after_turn, world_run}
use Rattle.world_laws.proofs.Keys.ByJournals.{Causes, Knows, run_causes, seat_of}
use Rattle.world_laws.proofs.Keys.Held.{end_is}
use Rattle.world_laws.proofs.Promises.Made.{nothing_refused}
use Rattle.world_laws.proofs.Weaving.WholeRounds.{run_append}
use Rattle.world_laws.proofs.Worlds.CastLifting.{each_actor}
use Rattle.world_laws.proofs.Worlds.Casts.{Cast, world_of}
use Rattle.whole_paths.specs.DataAcksExchanged.{IsAwry}
use Rattle.whole_paths.specs.DataAcksExchanged.{IsAwry as awry}
use Rattle.whole_paths.specs.Finish.{IsPathAt}
use Rattle.whole_paths.specs.Mild.{EndsGoByMappings, HasKeys, IsNeverBroken, IsMildStart, MappingIsKept, is_harsh}
use Rattle.whole_paths.specs.OpenAsks.{EndsHardlyGoAwry, HardlyGoesAwry, IsHardlyAwry, OpenEndsHardlyGoAwry}
use Rattle.whole_paths.specs.OpenAsks.{IsHardlyAwry as hardly}
use Rattle.whole_paths.specs.Owed.{IsToRefuse}
use Rattle.whole_paths.specs.Owed.{IsToRefuse as refuse}
use Rattle.whole_paths.specs.Straying.{IsOpen, IsSound}
use Rattle.whole_paths.proofs.Breaking.{never_breaks, none_noted}
use Rattle.whole_paths.proofs.Clearing.{MemberClears, each_clears, never_refuses}
use Rattle.whole_paths.proofs.Endings.{KnowsItsEnd}
use Rattle.whole_paths.proofs.Keyed.{keys_are_known}
use Rattle.whole_paths.proofs.Mild.{mapping_is_kept}
use Rattle.whole_paths.proofs.OpenPieces.{MemberKnows, each_knows}
use Rattle.whole_paths.proofs.Straying.{a_knows, never_resets}

-- ---- no end owes a third MP_JOIN on the path that opens the connection, nor carries a fast close

pub record AsksForItself (joined owes : Bool) (carrier : Option ℕ) : Type 0 where
  pub third : owes ≡ true → joined ≡ true
  pub carries : is_some carrier ≡ true → ⊥

abbrev pub EndsAskForThemselves : PathState Carried → Type 0
EndsAskForThemselves p = (s : Side) → AsksForItself (is_joined p.profile) (end_at s p).modes.owes_third (end_at s p).notices.carrier

abbrev OfPaths : (PathState Carried → Type 0) → Actor Carried → Type 0
OfPaths P = HoldsOfKind (λ app. Unit {0}) P

no_carrier : (P : Type 0) (o : Option ℕ) → IfSome o (λ key. P) → (P → ⊥) → is_some o ≡ true → ⊥
no_carrier P None h never is = true≢false (sym is)
no_carrier P (Some key) h never is = never h

pub cast_notes : (s : Side) (t : Cast Carried) → notes_of s (world_of t).crew ≡ (seat_of s t).list
cast_notes = elim [ A ↦ λ t. refl | B ↦ λ t. refl ]

pub ends_ask_for_themselves : (start : Start) (turns : List Turn) → IsMildStart start → (actor : ℕ) (c : ActorCrew Carried) → slice_get (world_run values turns (opened_world start)).crew actor ≡ Some c
    → OfPaths EndsAskForThemselves c.member
ends_ask_for_themselves start turns mild =
    let run = run_causes start turns in
    subst (λ (v : WorldState Carried). ((s : Side) → list_any (note_asks_fast_close s) (notes_of s v.crew) ≡ false) → (actor : ℕ) (c : ActorCrew Carried) → slice_get v.crew actor ≡ Some c → OfPaths EndsAskForThemselves c.member)
    (sym run.is) (of_cast run.cast run.holds) (none_noted start turns mild)
  where
    one : (t : Cast Carried) → ((s : Side) → list_any (note_asks_fast_close s) (notes_of s (world_of t).crew) ≡ false) → (p : PathState Carried) → Knows start t p → EndsAskForThemselves p
    one t none p k s = let e = end_is _ false _ _ s p k.is in record {
      third = e.modes.joins;
      carries = no_carrier _ (end_at s p).notices.carrier e.carries (λ is. both_ways (list_any (note_asks_fast_close s) (seat_of s t).list) (ap (list_any (note_asks_fast_close s)) (sym (cast_notes s t)) ∙ none s) is);
    }

    of_cast : (t : Cast Carried) → Causes start t → ((s : Side) → list_any (note_asks_fast_close s) (notes_of s (world_of t).crew) ≡ false)
        → (actor : ℕ) (c : ActorCrew Carried) → slice_get (world_of t).crew actor ≡ Some c → OfPaths EndsAskForThemselves c.member
    of_cast t h none = each_actor (λ actor c. OfPaths EndsAskForThemselves c.member) t tt tt (λ number x there. one t none x.path (h.paths.each number x there))

-- ---- path 0 is sound where it is open

sound_of : (p : PathState Carried) → EndsGoByMappings p → HasKeys p → IsNeverBroken p → MemberClears (Path p) → EndsAskForThemselves p → IsOpen p → IsSound p
sound_of p mapped keys breaks clears alone open_p = record {
  past = open_p.past;
  living = open_p.living;
  clear = open_p.clear;
  keyed = elim [ A ↦ a_knows p (keys open_p.first) (clears open_p.first) open_p | B ↦ (keys open_p.first).b (open_p.clear B) ];
  third = λ s. not_owed (end_at s p).modes.owes_third (alone s).third open_p.first;
  finite = λ s. (mapped s).peer open_p.first;
  unbroken = breaks open_p.first;
  accepts = λ s others is. never_refuses p s (clears open_p.first) (open_p.living s) others is;
}
  where
    not_owed : (owes : Bool) → (owes ≡ true → is_joined p.profile ≡ true) → is_joined p.profile ≡ false → owes ≡ false
    not_owed true third first = absurd (both_ways (is_joined p.profile) first (third refl))
    not_owed false third first = refl

-- of each path
pub each_open_is_sound : (start : Start) (turns : List Turn) → IsMildStart start → (actor : ℕ) (c : ActorCrew Carried) → slice_get (world_run values turns (opened_world start)).crew actor ≡ Some c
    → OfPaths (λ p. IsOpen p → IsSound p) c.member
each_open_is_sound start turns mild actor c there = by c.member ((mapping_is_kept start turns mild).each actor c there) ((keys_are_known start turns mild).each actor c there) ((never_breaks start turns mild).each actor c there)
    ((each_clears values start turns).each actor c there) (ends_ask_for_themselves start turns mild actor c there)
  where
    by : (m : Actor Carried) → OfPaths EndsGoByMappings m → OfPaths HasKeys m → OfPaths IsNeverBroken m → MemberClears m → OfPaths EndsAskForThemselves m → OfPaths (λ p. IsOpen p → IsSound p) m
    by (App a) mapped keys breaks clears alone = tt
    by (Path p) mapped keys breaks clears alone = sound_of p mapped keys breaks clears alone

-- of path 0 at any moment
pub open_sound : (start : Start) → IsMildStart start → (turns : List Turn) (p : PathState Carried) → IsPathAt 0 (world_run values turns (opened_world start)) p → IsOpen p → IsSound p
open_sound start mild turns p here = subst (OfPaths (λ p. IsOpen p → IsSound p)) here.is (each_open_is_sound start turns mild 2 here.crew here.there)

-- ---- a turn

-- what is known of a sound path, and of what it becomes
record IsKnown (steps : List Note) (p q : PathState Carried) : Type 0 where
  sound_p : IsSound p
  sound_q : IsSound q
  mapped_p : EndsGoByMappings p
  mapped_q : EndsGoByMappings q
  alone : EndsAskForThemselves p
  ends : (s : Side) → KnowsItsEnd (end_at s p)
  fine : was_told tells_refusal steps ≡ false

module _ (steps : List Note) (p q : PathState Carried) (k : IsKnown steps p q) (s : Side) where
  refused_so : IsToRefuse (peer s) p.agenda → IsHardlyAwry s p q
  refused_so (refuse.refuses others is) = absurd (true≢false (sym (ap (λ ds. list_any is_harsh ds) is) ∙ k.sound_p.unbroken.duties))
  refused_so (refuse.answers others is) = absurd (k.sound_p.accepts (peer s) others is)

  goes_awry_so : IsAwry s steps p q → IsHardlyAwry s p q
  goes_awry_so (awry.reset is) = absurd (never_resets q k.sound_q.unbroken s is)
  goes_awry_so (awry.resets is) = refused_so is
  goes_awry_so (awry.unopened t low) = absurd (let past = k.sound_p.past t in omega (arith, past, low))
  goes_awry_so (awry.unclear t is) = absurd (both_ways (end_at t p).modes.clear is (k.sound_p.clear t))
  goes_awry_so (awry.plain t (inl is)) = absurd (both_ways (end_at t p).modes.identity (k.mapped_p t).identity is)
  goes_awry_so (awry.plain t (inr is)) = absurd (both_ways (end_at t q).modes.identity (k.mapped_q t).identity is)
  goes_awry_so (awry.infinite is) = absurd (both_ways (is_some (end_at s q).modes.own_infinite) (ap is_some (k.mapped_q s).own) is)
  goes_awry_so (awry.third is) = absurd (both_ways (end_at s p).modes.owes_third (k.sound_p.third s) is)
  goes_awry_so (awry.close is) = absurd ((k.alone s).carries ((k.ends s).closed is))
  goes_awry_so (awry.endless owed none) =
      let sent = (and_parts (end_at s p).sending.fin_sent _ (and_parts _ _ owed).1).0 in absurd (both_ways (is_some (end_at s p).sending.known_end) (ap is_some none) ((k.ends s).ended sent))
  goes_awry_so (awry.past_window past) = hardly.past_window past
  goes_awry_so (awry.refused is) = absurd (both_ways (was_told tells_refusal steps) k.fine is)

member_goes : (steps : List Note) (m n : Actor Carried) → OfPaths EndsGoByMappings m → OfPaths EndsGoByMappings n → OfPaths EndsAskForThemselves m → MemberKnows m → was_told tells_refusal steps ≡ false → HardlyGoesAwry IsSound steps m n
member_goes steps (Path p) (Path q) mapped_p mapped_q alone ends fine = λ sound_p sound_q s is. goes_awry_so steps p q (record {
  sound_p = sound_p;
  sound_q = sound_q;
  mapped_p = mapped_p;
  mapped_q = mapped_q;
  alone = alone;
  ends = ends.knows;
  fine = fine;
}) s is
member_goes steps (Path p) (App b) mapped_p mapped_q alone ends fine = tt
member_goes steps (App a) n mapped_p mapped_q alone ends fine = tt

pub sound_ends_hardly_go_awry : EndsHardlyGoAwry IsSound
sound_ends_hardly_go_awry start turns turn mild actor c d was now =
    let v : WorldState Carried = after_turn values turn (world_run values turns (opened_world start)) in
    let same : world_run values (turns ++ turn ∷ []) (opened_world start) ≡ v = run_append values turns (turn ∷ []) (opened_world start) in
    let mapped : MappingIsKept v = subst MappingIsKept same (mapping_is_kept start (turns ++ turn ∷ []) mild) in
    let fine : NothingWasRefused v = subst NothingWasRefused same (nothing_refused start (turns ++ turn ∷ []) mild.plain) in
    member_goes d.list c.member d.member ((mapping_is_kept start turns mild).each actor c was) (mapped.each actor d now) (ends_ask_for_themselves start turns mild actor c was) (each_knows start turns mild.plain.size actor c was)
    (ap (λ o. was_told tells_refusal (notes_or o)) (sym now) ∙ fine actor)

-- what is open is sound after the turn
pub sound_after : (start : Start) (turns : List Turn) (turn : Turn) → IsMildStart start → (actor : ℕ) (d : ActorCrew Carried) → slice_get (after_turn values turn (world_run values turns (opened_world start))).crew actor ≡ Some d
    → OfPaths (λ p. IsOpen p → IsSound p) d.member
sound_after start turns turn mild actor d now =
    each_open_is_sound start (turns ++ turn ∷ []) mild actor d (subst (λ (x : WorldState Carried). slice_get x.crew actor ≡ Some d) (sym (run_append values turns (turn ∷ []) (opened_world start))) now)

open_goes : (steps : List Note) (m n : Actor Carried) → OfPaths (λ p. IsOpen p → IsSound p) m → OfPaths (λ p. IsOpen p → IsSound p) n → HardlyGoesAwry IsSound steps m n → HardlyGoesAwry IsOpen steps m n
open_goes steps (Path p) (Path q) sound_p sound_q h = λ open_p open_q s is. h (sound_p open_p) (sound_q open_q) s is
open_goes steps (Path p) (App b) sound_p sound_q h = tt
open_goes steps (App a) n sound_p sound_q h = tt

pub open_ends_hardly_go_awry : OpenEndsHardlyGoAwry
open_ends_hardly_go_awry start turns turn mild actor c d was now =
    open_goes d.list c.member d.member (each_open_is_sound start turns mild actor c was) (sound_after start turns turn mild actor d now) (sound_ends_hardly_go_awry start turns turn mild actor c d was now)
