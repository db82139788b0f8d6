-- Where a side goes by an own infinite mapping (RFC 8684, section 3.7) on a path, its ends on others have nothing to send: they are dead, or were granted no
-- octets since. By the verdict that gives it no other path stands at its side's control book, and from then on its send book is given to that path alone.
use Rattle.std.proofs.Common.{◌≡◌, refl, sym, ap, ◌∙◌, subst, ℕ, suc, ◌<◌, ◌⊎◌, inl, inr, ⊎_elim, ◌&&◌, ◌||◌, ◌==◌, not, Bool, true, false, if◌then◌else◌, Option, Some, None, is_some, Err, List, [], ◌∷◌, ◌++◌, length, map, option_map, append-nil, append_assoc, arith}
use Rattle.std.specs.List.{slice_get}
use Rattle.std.specs.Prelude.{position}
use Rattle.std.proofs.lemmas.Bool.{false≢true, ne_eqb}
use Rattle.std.proofs.lemmas.Option.{same_Some, slice_get_within}
use Rattle.actor_desk.specs.Books.{books_in}
use Rattle.actor_desk.specs.Desk.{SixBooks, control_of, reply_of, send_of}
use Rattle.actor_desk.specs.declared.ask.Ask.{Ask}
use Rattle.actor_desk.specs.declared.ask.Reply.{Reply}
use Rattle.control_book.specs.Registry.{sole, stands}
use Rattle.control_book.specs.declared.call.ControlReply.{ControlReply}
use Rattle.control_book.specs.declared.registry.PathState.{PathState as PathKept}
use Rattle.fallback_state.specs.Modes.{with_infinite_send, writes_mappings}
use Rattle.fallback_state.specs.Table.{breaks, fall_step, goes, stays}
use Rattle.fallback_state.specs.declared.fall.Event.{Event as FallEvent}
use Rattle.fallback_state.specs.declared.fall.Fall.{Fall}
use Rattle.fallback_state.specs.declared.fall.Verdict.{Verdict}
use Rattle.path_agenda.specs.declared.duty.AskDuty.{AskDuty}
use Rattle.path_agenda.specs.declared.duty.Duty.{Duty}
use Rattle.path_agenda.specs.declared.duty.StepDuty.{StepDuty}
use Rattle.path_core.specs.Duties.{ask_for}
use Rattle.path_core.specs.Emission.{data_ask, first_unsent, grant_ask, grant_in}
use Rattle.path_core.specs.End.{PathEnd}
use Rattle.path_core.specs.Fallback.{is_infinite_send}
use Rattle.path_core.specs.State.{PathState, end_at, path_of}
use Rattle.path_core.specs.Steps.{asks_first, next_round, takes}
use Rattle.path_core.specs.Values.{Carried, values}
use Rattle.path_store.specs.declared.infinite_mapping.InfiniteMapping.{InfiniteMapping}
use Rattle.send_book.specs.Marks.{is_free_for}
use Rattle.send_book.specs.State.{Sending, acked_len}
use Rattle.send_book.specs.Steps.{first_free, grant_reply, is_for, reply_by, span_at}
use Rattle.send_book.specs.declared.call.Why.TheVariants.{Backup, Ended}
use Rattle.sides.specs.declared.side.Side.TheVariants.{A, B}
use Rattle.sides.specs.declared.side.Side.{Side}
use Rattle.stream_lanes.proofs.Lists.{in_map, in_set}
use Rattle.stream_lanes.specs.Words.{Every}
use Rattle.subflow_send.specs.Records.{Record}
use Rattle.subflow_tcp.specs.States.{is_dead}
use Rattle.world_laws.proofs.Joins.TokensAgree.{opened_met, run_met}
use Rattle.world_laws.proofs.Lanes.OfAWorld.{Reached, anyhow, anyhow_free, free_run}
use Rattle.world_laws.proofs.Weaving.WholeRounds.{run_append}
use Rattle.world_laws.proofs.Worlds.Casts.{map_there}
use Rattle.world_laws.proofs.Worlds.Turns.{turn_so}
use Rattle.world_laws.specs.Actors.{Actor, ActorCrew, member_asks, member_next, member_takes}
use Rattle.world_laws.specs.Openings.{Start, opened_world}
use Rattle.world_laws.specs.Promises.{HasRoom, NumbersFit}
use Rattle.world_laws.specs.Worlds.{Turn, WorldState, after_turn, asked, begins, crew_after, greatest, world_run}
use Rattle.world_laws.specs.declared.member.Member.TheVariants.{App, Path}
use Rattle.own_runs.proofs.ActorNumbers.{actor_is}
use Rattle.own_runs.proofs.Homes.{owner_at}
use Rattle.own_runs.proofs.Moments.{MemberSpeaks, PathSpeaks, valued}
use Rattle.own_runs.proofs.OpeningRuns.{PathSo, MemberOpens, opens_at, round_dies, settled_at as path_settled, step_dies}
use Rattle.own_runs.proofs.OwnSends.{next_own, opened_none, own_at, own_in, own_of, takes_goes}
use Rattle.own_runs.proofs.Reached.{run_reaches}
use Rattle.own_runs.proofs.RecordsKept.{kept_at, next_kept, takes_at}
use Rattle.own_runs.proofs.Settled.{settled_at}
use Rattle.own_runs.proofs.StandsOn.{sole_alone}

-- ---- the control book: beside a sole path no other one stands

none_beside : (paths : List PathKept) (q n : ℕ) → n < 16 → (q ≡ n → ⊥) → sole paths q ≡ true → stands paths n ≡ true → ⊥
none_beside paths q n few other only stood = false≢true (sym (sole_alone paths q n few (λ same. other (sym same)) only) ∙ stood)

-- ---- the send book: nothing is granted beside its owner

granted_by : (b : Sending) (path most : ℕ) (ended backup : Bool) (free : Option ℕ) → free ≡ None
    → grant_in (Reply.Send (reply_by (if ended then Err Ended else (if backup then Err Backup else span_at path most b free)) b)) ≡ None
granted_by b path most true backup free e = refl
granted_by b path most false true free e = refl
granted_by b path most false false None e = refl
granted_by b path most false false (Some from) e = cc

none_free : (path q : ℕ) → (q ≡ path → ⊥) → (b : Sending) → b.owner ≡ Some q → first_free path b ≡ None
none_free path q other b is =
    ap (λ (o : Option ℕ). if is_for path o then position (is_free_for path) b.marks else None) is
    ∙ ap (λ (c : Bool). if c then position (is_free_for path) b.marks else None) (ne_eqb q path other)

none_for : (path q : ℕ) → (q ≡ path → ⊥) → (b : Sending) → b.owner ≡ Some q → (most : ℕ) (standby : Bool) → grant_in (Reply.Send (grant_reply path most standby b)) ≡ None
none_for path q other b is most standby =
    granted_by b path most (b.aborted || (b.closed && (acked_len b.marks == length b.written))) standby (first_free path b) (none_free path q other b is)

-- ---- an end

-- it has no octets to send
abbrev pub HasNone : PathEnd → Type 0
HasNone e = Every (λ (r : Record). r.piece ≡ []) e.tcp.send.records

abbrev pub IsQuiet : PathEnd → Type 0
IsQuiet e = HasNone e ⊎ (is_dead e.tcp.state ≡ true)

-- where its side's book is given to another path it is granted none
takes_none : (six : SixBooks) (p : PathState Carried) (x : Ask) → asks_first values p.agenda p ≡ Some x → (s : Side) (q : ℕ) → (send_of s six).owner ≡ Some q → (q ≡ path_of p → ⊥) → HasNone (end_at s p)
    → HasNone (end_at s (takes values (reply_of six x) p))
takes_none six p x asks s q owner other h =
    takes_at (λ (r : Record). r.piece ≡ []) (λ r y is. is) (λ n. refl) s (reply_of six x) p (λ ds same none grant granted. absurd (never grant (granted_none ds same none ∙ granted))) h
  where
    never : {X : Type 0} (g : X) → (let nothing : Option X = None in nothing) ≡ Some g → ⊥
    never g e = cc

    some_is : (a b : Ask) → Some a ≡ Some b → a ≡ b
    some_is a b e = cc

    ask_is : (ds : List Duty) → p.agenda ≡ Duty.Step (StepDuty.Data s) ∷ ds → first_unsent (end_at s p) ≡ None → grant_ask s p ≡ x
    ask_is ds same none =
        some_is (grant_ask s p) x
        (ap (λ (o : Option Record). Some (data_ask values s o p)) (sym none) ∙ ap (λ (todo : List Duty). asks_first values todo p) (sym same) ∙ asks)

    granted_none : (ds : List Duty) → p.agenda ≡ Duty.Step (StepDuty.Data s) ∷ ds → first_unsent (end_at s p) ≡ None → None ≡ grant_in (reply_of six x)
    granted_none ds same none = sym (sym (ap (λ (y : Ask). grant_in (reply_of six y)) (ask_is ds same none)) ∙ none_for (path_of p) q other (send_of s six) owner _ _)

-- ---- the verdict

only_sole : (f : Fall) (path : ℕ) (only contiguous : Bool) → is_infinite_send (Reply.Control (ControlReply.Verdict (fall_step f path only (FallEvent.FailHeard contiguous)).1)) ≡ true → only ≡ true
only_sole f path only contiguous = by (writes_mappings f.mode) only contiguous
  where
    by : (counts only may : Bool) → let row : Fall × Verdict = (if not counts then stays f else (if only && may then goes (with_infinite_send f.mode) f else breaks 1 f)) in
        is_infinite_send (Reply.Control (ControlReply.Verdict row.1)) ≡ true → only ≡ true
    by false only may is = absurd (false≢true is)
    by true true may is = refl
    by true false may is = absurd (false≢true is)

-- an end keeps its own infinite mapping, or is given one where its path is the sole one
own_or_sole : (six : SixBooks) (p : PathState Carried) (x : Ask) (s : Side) → asks_first values p.agenda p ≡ Some x
    → (own_of s (takes values (reply_of six x) p) ≡ own_of s p) ⊎ (sole (control_of s six).paths (path_of p) ≡ true)
own_or_sole six p x s asks = by p.agenda refl asks
  where
    fails : (t : Side) → is_infinite_send (reply_of six (ask_for values (Duty.Ask (AskDuty.FailHeard t)) p)) ≡ true → sole (control_of t six).paths (path_of p) ≡ true
    fails A is = only_sole six.control_a.fall (path_of p) (sole six.control_a.paths (path_of p)) (is_some p.a.treated.infinite_mapping) is
    fails B is = only_sole six.control_b.fall (path_of p) (sole six.control_b.paths (path_of p)) (is_some p.b.treated.infinite_mapping) is

    one : (d : Duty) (ds : List Duty) → p.agenda ≡ d ∷ ds
        → (own_of s (takes values (reply_of six (ask_for values d p)) p) ≡ own_of s p) ⊎ (sole (control_of s six).paths (path_of p) ≡ true)
    one d ds first =
        ⊎_elim (λ same. inl same) (λ it. inr (fails s (subst (λ (e : Duty). is_infinite_send (reply_of six (ask_for values e p)) ≡ true) it.0 it.1)))
        (takes_goes values d ds (reply_of six (ask_for values d p)) p s first)

    by : (ds : List Duty) → p.agenda ≡ ds → asks_first values ds p ≡ Some x → (own_of s (takes values (reply_of six x) p) ≡ own_of s p) ⊎ (sole (control_of s six).paths (path_of p) ≡ true)
    by [] first is = cc
    by (d ∷ ds) first is =
        subst (λ (y : Ask). (own_of s (takes values (reply_of six y) p) ≡ own_of s p) ⊎ (sole (control_of s six).paths (path_of p) ≡ true)) (same_Some (ask_for values d p) x is) (one d ds first)

-- ---- worlds

-- beside a path on which a side goes by an own infinite mapping all its ends are quiet
abbrev pub OthersQuiet : WorldState Carried → Type 0
OthersQuiet w = (s : Side) (q n : ℕ) (m : InfiniteMapping) → own_in s (slice_get w.crew (suc (suc q))) ≡ Some m → (q ≡ n → ⊥)
    → (c : ActorCrew Carried) (p : PathState Carried) → slice_get w.crew (suc (suc n)) ≡ Some c → c.member ≡ Path p → IsQuiet (end_at s p)

-- an application stays one
abbrev IsApp : Actor Carried → Type 0
IsApp (App a) = Unit {0}
IsApp (Path p) = ⊥

no_path : (m : Actor Carried) (p : PathState Carried) → IsApp m → m ≡ Path p → ⊥
no_path m p is same = subst IsApp same is

-- what an end goes by it went by before
was_own : (w : WorldState Carried) (i : ℕ) (c : ActorCrew Carried) (r : PathState Carried) (s : Side) (m : InfiniteMapping) → slice_get w.crew i ≡ Some c → c.member ≡ Path r
    → (o : Option InfiniteMapping) → o ≡ own_of s r → o ≡ Some m → own_in s (slice_get w.crew i) ≡ Some m
was_own w i c r s m there same o kept is = ap (own_in s) there ∙ ap (own_at s) same ∙ sym kept ∙ is

same_path : {x z : PathState Carried} → (let one : Actor Carried = Path x in one) ≡ Path z → x ≡ z
same_path e = cc

module _ (start : Start) (size : HasRoom start) (fit : NumbersFit start) where
  abbrev v : List Turn → WorldState Carried
  v before = world_run values before (opened_world start)

  reached : (before : List Turn) → Reached (anyhow start size).links start (v before)
  reached before = (run_reaches start (anyhow start size) before (free_run (anyhow start size).links (anyhow_free start size) before (opened_world start))).2.0

  module _ (before : List Turn) (h : OthersQuiet (v before)) where
    abbrev w : WorldState Carried
    w = v before

    abbrev six : SixBooks
    six = books_in w.books

    opens : (i : ℕ) (c : ActorCrew Carried) → slice_get w.crew i ≡ Some c → (p : PathState Carried) → c.member ≡ Path p → PathSo start size fit before p
    opens i c there p is = subst (MemberOpens start size fit before) is (opens_at start size fit before i c there)

    number_is : (n : ℕ) (c : ActorCrew Carried) (p : PathState Carried) → slice_get w.crew (suc (suc n)) ≡ Some c → c.member ≡ Path p → path_of p ≡ n
    number_is n c p there is = let at = actor_is start size before (suc (suc n)) c there p is in omega (arith, at)

    few : (n : ℕ) (c : ActorCrew Carried) (p : PathState Carried) → slice_get w.crew (suc (suc n)) ≡ Some c → c.member ≡ Path p → n < 16
    few n c p there is =
        let speaks : PathSpeaks start p = subst (MemberSpeaks start) is (valued start before size fit (suc (suc n)) c there) in
        let within = slice_get_within start.paths speaks.0 speaks.1 speaks.2 in let at = speaks.3 in let here = number_is n c p there is in let most = fit.paths in omega (arith, within, at, here, most)

    -- the actor that asks
    module _ (actor : ℕ) (c : ActorCrew Carried) (x : Ask) (there : slice_get w.crew actor ≡ Some c) (asks : member_asks values c.member ≡ Some x) where
      abbrev d : ActorCrew Carried
      d = crew_after values x w.books c

      abbrev after : WorldState Carried
      after = asked values actor (Some x) c w

      asks_of : (p : PathState Carried) → c.member ≡ Path p → asks_first values p.agenda p ≡ Some x
      asks_of p is = ap (member_asks values) (sym is) ∙ asks

      -- a quiet end stays so
      stays_quiet : (p : PathState Carried) → c.member ≡ Path p → (s : Side) (q : ℕ) (m : InfiniteMapping) → own_in s (slice_get w.crew (suc (suc q))) ≡ Some m → (q ≡ path_of p → ⊥) → IsQuiet (end_at s p)
          → IsQuiet (end_at s (takes values (reply_of six x) p))
      stays_quiet p is s q m own other (inl none) =
          inl (takes_none six p x (asks_of p is) s q (owner_at start (anyhow start size) before (reached before) s q m own) other none)
      stays_quiet p is s q m own other (inr dead) =
          inr (step_dies start size fit before (Turn.Step actor) actor c there p is
          (path_settled start size fit before (Turn.Step actor) (run_met start.key_a start.key_b before (opened_world start) (opened_met start)) (opens_at start size fit before) actor c there p is)
          (opens actor c there p is) refl (reply_of six x) s dead)

      -- of a path that stays, where one goes by its own mapping
      quiet_at : (s : Side) (q n : ℕ) (m : InfiniteMapping) → own_in s (slice_get w.crew (suc (suc q))) ≡ Some m → (q ≡ n → ⊥) → (e : ActorCrew Carried) (p : PathState Carried)
          → slice_get after.crew (suc (suc n)) ≡ Some e → e.member ≡ Path p → IsQuiet (end_at s p)
      quiet_at s q n m own other e p at is = ⊎_elim moved (λ still. h s q n m own other e p still.1 is) (in_set w.crew actor d (suc (suc n)) e at)
        where
          moved : (suc (suc n) ≡ actor) × (d ≡ e) → IsQuiet (end_at s p)
          moved here = by c.member refl
            where
              at_n : slice_get w.crew (suc (suc n)) ≡ Some c
              at_n = ap (slice_get w.crew) here.0 ∙ there

              by : (k : Actor Carried) → c.member ≡ k → IsQuiet (end_at s p)
              by (App a) same = absurd (no_path (member_takes values (reply_of six x) (App a)) p tt (sym (ap (member_takes values (reply_of six x)) same) ∙ ap (λ (y : ActorCrew Carried). y.member) here.1 ∙ is))
              by (Path r) same =
                  let goes : takes values (reply_of six x) r ≡ p = same_path (sym (ap (member_takes values (reply_of six x)) same) ∙ ap (λ (y : ActorCrew Carried). y.member) here.1 ∙ is) in
                  subst (λ (z : PathState Carried). IsQuiet (end_at s z)) goes
                  (stays_quiet r same s q m own (λ on. other (on ∙ number_is n c r at_n same)) (h s q n m own other c r at_n same))

      -- the others of a path that is the sole one
      sole_quiet : (s : Side) (q n : ℕ) → actor ≡ suc (suc q) → sole (control_of s six).paths q ≡ true → (q ≡ n → ⊥) → (e : ActorCrew Carried) (p : PathState Carried)
          → slice_get after.crew (suc (suc n)) ≡ Some e → e.member ≡ Path p → IsQuiet (end_at s p)
      sole_quiet s q n is_actor only other e p at is =
          ⊎_elim (λ here. absurd (other (let same = here.0 in omega (arith, same, is_actor))))
          (λ still. ⊎_elim (λ none. inl none)
          (⊎_elim (λ dead. inr dead) (λ stood. absurd (none_beside (control_of s six).paths q n (few n e p still.1 is) other only stood))) (settled_at start before size fit s n e p still.1 is))
          (in_set w.crew actor d (suc (suc n)) e at)

      step_quiet : OthersQuiet after
      step_quiet s q n m own other e p at is = by (slice_get after.crew (suc (suc q))) refl own
        where
          by : (o : Option (ActorCrew Carried)) → slice_get after.crew (suc (suc q)) ≡ o → own_in s o ≡ Some m → IsQuiet (end_at s p)
          by None at_q none = cc
          by (Some f) at_q owned = ⊎_elim here (λ still. quiet_at s q n m (ap (own_in s) still.1 ∙ owned) other e p at is) (in_set w.crew actor d (suc (suc q)) f at_q)
            where
              here : (suc (suc q) ≡ actor) × (d ≡ f) → IsQuiet (end_at s p)
              here it = member c.member refl
                where
                  at_c : slice_get w.crew (suc (suc q)) ≡ Some c
                  at_c = ap (slice_get w.crew) it.0 ∙ there

                  own_after : own_at s (member_takes values (reply_of six x) c.member) ≡ Some m
                  own_after = ap (λ (y : ActorCrew Carried). own_at s y.member) it.1 ∙ owned

                  member : (k : Actor Carried) → c.member ≡ k → IsQuiet (end_at s p)
                  member (App a) same = (let gone : None ≡ Some m = sym (ap (λ (y : Actor Carried). own_at s (member_takes values (reply_of six x) y)) same) ∙ own_after in cc)
                  member (Path r) same =
                      ⊎_elim
                      (λ kept. quiet_at s q n m (was_own w (suc (suc q)) c r s m at_c same (own_of s (takes values (reply_of six x) r)) kept owns) other e p at is)
                      (λ only. sole_quiet s q n (sym it.0) (subst (λ (k : ℕ). sole (control_of s six).paths k ≡ true) (number_is q c r at_c same) only) other e p at is)
                      (own_or_sole six r x s (asks_of r same))
                    where
                      owns : own_of s (takes values (reply_of six x) r) ≡ Some m
                      owns = sym (ap (λ (y : Actor Carried). own_at s (member_takes values (reply_of six x) y)) same) ∙ own_after

    -- as a round begins
    round_quiet : OthersQuiet (record w { crew = map (begins (greatest 0 w.crew)) w.crew })
    round_quiet s q n m own other e p at is = found (in_map (begins (greatest 0 w.crew)) w.crew (suc (suc n)) e at)
      where
        own_same : own_in s (slice_get (map (begins (greatest 0 w.crew)) w.crew) (suc (suc q))) ≡ own_in s (slice_get w.crew (suc (suc q)))
        own_same = ap (own_in s) (map_there (begins (greatest 0 w.crew)) w.crew (suc (suc q))) ∙ by (slice_get w.crew (suc (suc q)))
          where
            by : (o : Option (ActorCrew Carried)) → own_in s (option_map (begins (greatest 0 w.crew)) o) ≡ own_in s o
            by None = refl
            by (Some c) = next_own c.member s

        next_quiet : (c : ActorCrew Carried) (r : PathState Carried) → slice_get w.crew (suc (suc n)) ≡ Some c → c.member ≡ Path r → IsQuiet (end_at s (next_round r))
        next_quiet c r there same =
            ⊎_elim
            (λ none. inl (kept_at (λ (y : Record). y.piece ≡ []) (λ y z held. held) (λ k. refl) s r (next_round r) (next_kept (λ (y : Record). y.piece ≡ []) (λ y z held. held) (λ k. refl) r) none))
            (λ dead. inr (round_dies start size fit before r (opens (suc (suc n)) c there r same) s dead))
            (h s q n m (sym own_same ∙ own) other c r there same)

        found : (c : ActorCrew Carried) × (slice_get w.crew (suc (suc n)) ≡ Some c) × (begins (greatest 0 w.crew) c ≡ e) → IsQuiet (end_at s p)
        found it = by it.0.member refl
          where
            by : (k : Actor Carried) → it.0.member ≡ k → IsQuiet (end_at s p)
            by (App a) same = absurd (no_path (member_next (App a)) p tt (sym (ap member_next same) ∙ ap (λ (y : ActorCrew Carried). y.member) it.2 ∙ is))
            by (Path r) same =
                let goes : next_round r ≡ p = same_path (sym (ap member_next same) ∙ ap (λ (y : ActorCrew Carried). y.member) it.2 ∙ is) in
                subst (λ (z : PathState Carried). IsQuiet (end_at s z)) goes (next_quiet it.0 r it.1 same)

    turn_quiet : (turn : Turn) → OthersQuiet (after_turn values turn w)
    turn_quiet turn = turn_so values OthersQuiet turn w h (λ actor c x there asks. step_quiet actor c x there asks) (λ over. round_quiet)

  run_quiet : (rest before : List Turn) → OthersQuiet (v before) → OthersQuiet (v (before ++ rest))
  run_quiet [] before h = subst (λ (ts : List Turn). OthersQuiet (v ts)) (sym (append-nil before)) h
  run_quiet (turn ∷ rest) before h =
      subst (λ (ts : List Turn). OthersQuiet (v ts)) (append_assoc before (turn ∷ []) rest)
      (run_quiet rest (before ++ turn ∷ []) (subst OthersQuiet (sym (run_append values before (turn ∷ []) (opened_world start))) (turn_quiet before h turn)))

  opened_quiet : OthersQuiet (opened_world start)
  opened_quiet s q n m own other = by (slice_get (opened_world {C = Carried} start).crew (suc (suc q))) refl own
    where
      by : (o : Option (ActorCrew Carried)) → slice_get (opened_world {C = Carried} start).crew (suc (suc q)) ≡ o → own_in s o ≡ Some m
          → (c : ActorCrew Carried) (p : PathState Carried) → slice_get (opened_world {C = Carried} start).crew (suc (suc n)) ≡ Some c → c.member ≡ Path p → IsQuiet (end_at s p)
      by None at is = cc
      by (Some c) at is = let gone : None ≡ Some m = sym (opened_none start (suc (suc q)) c at s) ∙ is in cc

  -- at every moment
  pub always_quiet : (turns : List Turn) → OthersQuiet (v turns)
  always_quiet turns = run_quiet turns [] opened_quiet
