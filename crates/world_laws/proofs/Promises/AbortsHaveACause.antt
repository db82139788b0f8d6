-- A reader is told of an abort by its peer only where the peer's application asked for a fast close, and its own side accepted it.
--
-- Why a reader was told something (an abort by its peer, `proofs/Promises/AbortsHaveACause`): what sides did is one
-- family of facts (`Deed`), with which all that is said of keys is said too. An end carries MP_FASTCLOSE, a copy says
-- it, and a thing heard is one, only where the side closed; and a path tells a reassembly book of it only where the
-- side was stopped (`Voice.Aborts`). Where nothing is said of it the facts are `NoMore`, so one development serves
-- every law on keys and this one. What holds is a test of notes and journals, which only rises.
use Rattle.world_laws.proofs.Words.{◌≡◌, refl, sym, ◌∙◌, ap, subst, ℕ, true, Some, List, list_any, slice_get, Side, A, B, peer, Carried, values, App, Path, Actor, ActorCrew}
use Rattle.world_laws.proofs.Words.{note_asks_fast_close, PeerStopped, AbortsHaveCause, Always, Start, opened_world, WorldState, Turn, world_run, HoldsAnywayOfOctets, shown_world, notes_of, was_told}
use Rattle.world_laws.proofs.Words.{tells_abort}
use Rattle.world_laws.proofs.Worlds.Casts.{Cast, world_of}
use Rattle.world_laws.proofs.Worlds.CastLifting.{each_actor}
use Rattle.world_laws.proofs.Promises.Made.{run_fresh}
use Rattle.world_laws.proofs.Promises.OverOctets.{same_notes_of}
use Rattle.world_laws.proofs.Keys.ByJournals.{Caused, run_causes, seat_of}
use Rattle.world_laws.proofs.Keys.WhatWakes.{Voice, speaks}

-- ---- the law

cast_notes : (s : Side) (t : Cast Carried) → notes_of s (world_of t).crew ≡ (seat_of s t).list
cast_notes = elim [ A ↦ λ t. refl | B ↦ λ t. refl ]

cast_stopped : (s : Side) (t : Cast Carried) → Caused t s → PeerStopped s (world_of t)
cast_stopped s t is = record { asked = subst (λ notes. list_any (note_asks_fast_close (peer s)) notes ≡ true) (sym (cast_notes (peer s) t)) is.1; accepted = is.0 }

pub aborts_have_cause : Always values (λ start w. AbortsHaveCause w)
aborts_have_cause start turns =
    let now = run_causes start turns in
    subst AbortsHaveCause (sym now.is) (λ s told. cast_stopped s now.cast (now.holds.told s (ap (was_told tells_abort) (sym (cast_notes s now.cast)) ∙ told)))

-- ---- paths

-- a path is to abort a side's books only where the application of its peer asked for it
abbrev pub StopsAreAsked : WorldState Carried → Actor Carried → Type 0
StopsAreAsked w (App a) = Unit {0}
StopsAreAsked w (Path p) = (s : Side) → speaks (Voice.Aborts s) p.agenda ≡ true → list_any (note_asks_fast_close (peer s)) (notes_of (peer s) w.crew) ≡ true

pub stops_are_asked : (start : Start) (turns : List Turn) (actor : ℕ) (c : ActorCrew Carried) → slice_get (world_run values turns (opened_world start)).crew actor ≡ Some c
    → StopsAreAsked (world_run values turns (opened_world start)) c.member
stops_are_asked start turns =
    let now = run_causes start turns in
    subst (λ (v : WorldState Carried). (actor : ℕ) (c : ActorCrew Carried) → slice_get v.crew actor ≡ Some c → StopsAreAsked v c.member) (sym now.is)
    (each_actor (λ actor c. StopsAreAsked (world_of now.cast) c.member) now.cast tt tt (λ number x there s spoken.
    subst (λ notes. list_any (note_asks_fast_close (peer s)) notes ≡ true) (sym (cast_notes (peer s) now.cast)) ((now.holds.paths.each number x there).is.known (Voice.Aborts s) spoken).1))

-- ---- over octets

cause_shown : (w : WorldState Carried) → AbortsHaveCause w → AbortsHaveCause (shown_world w)
cause_shown w h s told =
    let cause = h s (sym (ap (was_told tells_abort) (same_notes_of s w)) ∙ told) in
    record { asked = ap (list_any (note_asks_fast_close (peer s))) (same_notes_of (peer s) w) ∙ cause.asked; accepted = cause.accepted }

pub aborts_have_cause_in_octets : HoldsAnywayOfOctets AbortsHaveCause
aborts_have_cause_in_octets start turns size fit = subst AbortsHaveCause (sym (run_fresh start turns size fit)) (cause_shown (world_run values turns (opened_world start)) (aborts_have_cause start turns))
