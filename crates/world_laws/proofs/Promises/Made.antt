-- The promises, over segments as values and over octets.
use Rattle.world_laws.proofs.Words.{◌≡◌, refl, sym, ◌∙◌, ap, subst, ℕ, true, false, List, [], ◌∷◌, ◌++◌, Side, A, B, Carried, values, octets, Start}
use Rattle.world_laws.proofs.Words.{opened_world, WorldState, Turn, after_turn, world_run, HasRoom, NumbersFit, was_told_end, BothKeepTheirWord, NothingCame}
use Rattle.world_laws.proofs.Words.{NothingFollows, IsOneStep, EachTurnIsOneStep, NothingWasRefused, JoinsAreRight, AddressesAreRight, KeysNeverDiffer}
use Rattle.world_laws.proofs.Words.{IsPromised, IsPromisedOfOctets, HoldsAnywayOfOctets, OctetsAreValuesShown, shown_world, BothKeepCount, HoldsCheckedOfOctets}
use Rattle.world_laws.proofs.Words.{PlacedUntilTheFall, PrefixUntilTheFall, StaysRight, fell_back}
use Rattle.world_laws.proofs.Promises.WhateverIsAltered.{keep_count, nothing_follows, one_step_each, prefix_until, placed_until}
use Rattle.world_laws.proofs.Keys.ToldAreOwn.{keys_never_differ}
use Rattle.world_laws.proofs.Announcements.HmacsAgree.{addresses_are_right}
use Rattle.world_laws.proofs.Joins.TokensAgree.{joins_are_right}
use Rattle.world_laws.proofs.Promises.EveryList.{always_keep_word, never_refused}
use Rattle.world_laws.proofs.Promises.OverOctets.{both_shown, counts_shown, came_shown, step_shown, prefix_shown, stays_shown, refused_shown, addresses_shown, joins_shown, keys_shown, same_told, run_shown}
use Rattle.world_laws.proofs.Numbers.EveryTurn.{every_list_is_fresh}
use Rattle.world_laws.proofs.Weaving.WholeRounds.{run_append}
use Rattle.world_laws.proofs.Lanes.OfAWorld.{plainly, plainly_free}

-- ---- over segments as values

pub keep_their_word : IsPromised BothKeepTheirWord
keep_their_word start turns plain = always_keep_word start (plainly start plain) (plainly_free start plain) refl turns

pub nothing_refused : IsPromised NothingWasRefused
nothing_refused start turns plain = never_refused start (plainly start plain) (plainly_free start plain) refl turns

-- ---- over octets

-- the world after these turns
abbrev valued : Start → List Turn → WorldState Carried
valued start turns = world_run values turns (opened_world start)

-- and shown over octets
pub run_fresh : OctetsAreValuesShown
run_fresh start turns size fit = run_shown start turns (every_list_is_fresh start turns size fit)

pub keep_their_word_in_octets : IsPromisedOfOctets BothKeepTheirWord
keep_their_word_in_octets start turns plain fit = subst BothKeepTheirWord (sym (run_fresh start turns plain.size fit)) (both_shown (valued start turns) (keep_their_word start turns plain))

pub nothing_refused_in_octets : IsPromisedOfOctets NothingWasRefused
nothing_refused_in_octets start turns plain fit = subst NothingWasRefused (sym (run_fresh start turns plain.size fit)) (refused_shown (valued start turns) (nothing_refused start turns plain))

pub keys_in_octets : HoldsAnywayOfOctets KeysNeverDiffer
keys_in_octets start turns size fit = subst KeysNeverDiffer (sym (run_fresh start turns size fit)) (keys_shown (valued start turns) (keys_never_differ start turns))

pub joins_in_octets : HoldsAnywayOfOctets JoinsAreRight
joins_in_octets start turns size fit = subst JoinsAreRight (sym (run_fresh start turns size fit)) (joins_shown (valued start turns) (joins_are_right start turns))

pub addresses_in_octets : HoldsAnywayOfOctets AddressesAreRight
addresses_in_octets start turns size fit = subst AddressesAreRight (sym (run_fresh start turns size fit)) (addresses_shown (valued start turns) (addresses_are_right start turns))

pub keep_count_in_octets : HoldsAnywayOfOctets BothKeepCount
keep_count_in_octets start turns size fit = subst BothKeepCount (sym (run_fresh start turns size fit)) (counts_shown (valued start turns) (keep_count start turns size))

module _ (start : Start) (turns : List Turn) (size : HasRoom start) (fit : NumbersFit start) where
  abbrev heard : WorldState (List ℕ)
  heard = world_run octets turns (opened_world start)

  heard_is : heard ≡ shown_world (valued start turns)
  heard_is = run_fresh start turns size fit

  -- what comes later over octets is what comes later over values, shown
  later_shown : (more : List Turn) → world_run octets more heard ≡ shown_world (world_run values more (valued start turns))
  later_shown more = sym (run_append octets turns more (opened_world start)) ∙ run_fresh start (turns ++ more) size fit ∙ ap shown_world (run_append values turns more (opened_world start))

  -- what holds of both shown, holds of both
  both : (P : WorldState (List ℕ) → WorldState (List ℕ) → Type 0) (more : List Turn) → P (shown_world (valued start turns)) (shown_world (world_run values more (valued start turns)))
      → P heard (world_run octets more heard)
  both P more h = subst (λ v. P v (world_run octets more heard)) (sym heard_is) (subst (P (shown_world (valued start turns))) (sym (later_shown more)) h)

  came : (writer reader : Side) (more : List Turn) → (was_told_end reader (valued start turns) ≡ true → NothingCame writer reader (valued start turns) (world_run values more (valued start turns)))
      → was_told_end reader heard ≡ true → NothingCame writer reader heard (world_run octets more heard)
  came writer reader more nothing told =
      let is = sym (same_told reader (valued start turns)) ∙ ap (was_told_end reader) (sym heard_is) ∙ told in
      both (NothingCame writer reader) more (came_shown writer reader (valued start turns) (world_run values more (valued start turns)) (nothing is))

  step : (writer reader : Side) (turn : Turn) → IsOneStep writer reader (valued start turns) (after_turn values turn (valued start turns)) → IsOneStep writer reader heard (after_turn octets turn heard)
  step writer reader turn is = both (IsOneStep writer reader) (turn ∷ []) (step_shown writer reader (valued start turns) (after_turn values turn (valued start turns)) is)

  stays : (writer reader : Side) (more : List Turn) → (fell_back reader (valued start turns) ≡ false → StaysRight writer reader (valued start turns) (world_run values more (valued start turns)))
      → fell_back reader heard ≡ false → StaysRight writer reader heard (world_run octets more heard)
  stays writer reader more right none =
      let is = ap (λ (v : WorldState (List ℕ)). fell_back reader v) (sym heard_is) ∙ none in
      both (StaysRight writer reader) more (stays_shown writer reader (valued start turns) (world_run values more (valued start turns)) (right is))

pub nothing_follows_in_octets : HoldsAnywayOfOctets (NothingFollows octets)
nothing_follows_in_octets start turns size fit more =
    let nothing = nothing_follows start turns size more in
    (λ told. came start turns size fit A B more nothing.0 told, λ told. came start turns size fit B A more nothing.1 told)

pub one_step_each_in_octets : HoldsAnywayOfOctets (EachTurnIsOneStep octets)
one_step_each_in_octets start turns size fit turn =
    let steps = one_step_each start turns size turn in (step start turns size fit A B turn steps.0, step start turns size fit B A turn steps.1)

-- ---- where mappings are checked

pub prefix_in_octets : HoldsCheckedOfOctets PrefixUntilTheFall
prefix_in_octets start turns size fit uses =
    subst PrefixUntilTheFall (sym (run_fresh start turns size fit)) (prefix_shown (valued start turns) (prefix_until start turns size uses))

pub placed_in_octets : HoldsCheckedOfOctets (PlacedUntilTheFall octets)
placed_in_octets start turns size fit uses more =
    let placed = placed_until start turns size uses more in
    (λ none. stays start turns size fit A B more placed.0 none, λ none. stays start turns size fit B A more placed.1 none)
