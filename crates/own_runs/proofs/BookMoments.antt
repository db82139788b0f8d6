-- By moments: A's control book has B's key only behind a segment of A on path 0 that shows both keys, or path 0 sends that next.
use Rattle.std.proofs.Common.{◌≡◌, sym, ap, ◌∙◌, subst, ℕ, suc, nat_lt, false, Some, List, [], ◌∷◌, ◌++◌, append-nil, append_assoc, arith}
use Rattle.std.specs.List.{slice_get}
use Rattle.std.proofs.lemmas.Bool.{false≢true, ltb-false}
use Rattle.path_core.specs.MpJoin.{is_joined}
use Rattle.path_core.specs.State.{PathState, path_of}
use Rattle.path_core.specs.Values.{Carried, values}
use Rattle.sides.specs.declared.side.Side.TheVariants.{A}
use Rattle.world_laws.proofs.Joins.TokensAgree.{opened_met, run_met}
use Rattle.world_laws.proofs.Whole.Falls.{each_upright}
use Rattle.world_laws.proofs.Weaving.WholeRounds.{run_append}
use Rattle.world_laws.specs.Actors.{ActorCrew}
use Rattle.world_laws.specs.NeverFalls.{IsWhole}
use Rattle.world_laws.specs.Openings.{Start, opened_world}
use Rattle.world_laws.specs.Promises.{IsPlain, NumbersFit}
use Rattle.world_laws.specs.Worlds.{Turn, WorldState, world_run}
use Rattle.world_laws.specs.declared.member.Member.TheVariants.{Path}
use Rattle.own_runs.proofs.ActorNumbers.{actor_is}
use Rattle.own_runs.proofs.KeyMoments.{Book, IsSecond, always_so, turn_book}
use Rattle.own_runs.proofs.KeyRuns.{TurnSays}
use Rattle.own_runs.proofs.KeysSent.{ShowsKeys}
use Rattle.own_runs.proofs.Moments.{MemberSpeaks, PathSpeaks, valued}

module _ (start : Start) (plain : IsPlain start) (whole : IsWhole start) (fit : NumbersFit start) where
  abbrev pub world : List Turn → WorldState Carried
  world turns = world_run values turns (opened_world start)

  -- a path is the actor of its number
  pub numbered : (turns : List Turn) (i : ℕ) (c : ActorCrew Carried) → slice_get (world turns).crew i ≡ Some c → (q : PathState Carried) → c.member ≡ Path q → i ≡ suc (suc (path_of q))
  numbered turns i c there = actor_is start plain.size turns i c there

  -- path 0 is the third actor
  pub second : (turns : List Turn) → IsSecond (world turns)
  second turns i c there p member first = numbered turns i c there p member ∙ ap (λ (n : ℕ). suc (suc n)) (zero_so (subst (MemberSpeaks start) member (valued start turns plain.size fit i c there)))
    where
      zero_so : PathSpeaks start p → path_of p ≡ 0
      zero_so speaks = by (path_of p) (sym (ap is_joined speaks.4 ∙ ap (nat_lt 0) (sym speaks.3)) ∙ first)
        where
          by : (n : ℕ) → nat_lt 0 n ≡ false → n ≡ 0
          by n none = let low = ltb-false 0 n none in omega (arith, low)

  -- where such a segment was sent
  module _ (K : List Turn → Type 0) (grows : (before : List Turn) (turn : Turn) → K before → K (before ++ turn ∷ []))
      (now : (before : List Turn) (turn : Turn) → TurnSays A ShowsKeys turn (world before) → K (before ++ turn ∷ [])) where
    next_book : (before : List Turn) (turn : Turn) → Book (K before) (world before) → Book (K (before ++ turn ∷ [])) (world (before ++ turn ∷ []))
    next_book before turn book =
        subst (λ (w : WorldState Carried). Book (K (before ++ turn ∷ [])) w) (sym (run_append values before (turn ∷ []) (opened_world start)))
        (turn_book start.key_a start.key_b (world before) (each_upright start before plain whole) (run_met start.key_a start.key_b before (opened_world start) (opened_met start))
        (always_so start plain whole before) (second before) (K before) (K (before ++ turn ∷ [])) (grows before turn) book turn (now before turn))

    run_book : (before turns : List Turn) → Book (K before) (world before) → Book (K (before ++ turns)) (world (before ++ turns))
    run_book before [] book = subst (λ (ts : List Turn). Book (K ts) (world ts)) (sym (append-nil before)) book
    run_book before (turn ∷ turns) book =
        subst (λ (ts : List Turn). Book (K ts) (world ts)) (append_assoc before (turn ∷ []) turns) (run_book (before ++ turn ∷ []) turns (next_book before turn book))

    pub always_book : (turns : List Turn) → Book (K turns) (world turns)
    always_book turns = run_book [] turns (λ has. absurd (false≢true has))
