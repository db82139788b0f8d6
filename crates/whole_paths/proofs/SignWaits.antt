-- The waits for the first signs of Multipath TCP go on, turn by turn, or what holds them up is counted.
use Rattle.std.proofs.Common.{◌≡◌, refl, sym, subst, ◌∙◌, ◌⊎◌, ⊎_elim, inl, inr, ℕ, ◌+◌, ◌<◌, ◌≤◌, arith, Bool, true, false, true≢false, IfSome, Some, List, [], ◌∷◌, ◌++◌}
use Rattle.sides.specs.declared.side.Side.{Side}
use Rattle.sides.specs.declared.side.Side.TheVariants.{A, B}
use Rattle.link_model.specs.declared.flight.Flight.{Flight}
use Rattle.subflow_send.specs.Records.{Record}
use Rattle.subflow_tcp.specs.States.{is_dead}
use Rattle.path_agenda.specs.Agenda.{emission, expired}
use Rattle.path_agenda.specs.declared.duty.Duty.TheVariants as duties
use Rattle.path_agenda.specs.declared.duty.SendDuty.TheVariants as send_duties
use Rattle.path_agenda.specs.declared.heard.Heard.TheVariants as says
use Rattle.path_core.specs.MpJoin.{is_joined}
use Rattle.path_core.specs.Profile.{Profile}
use Rattle.path_core.specs.State.{PathState, end_at}
use Rattle.path_core.specs.Values.{Carried, values}
use Rattle.world_laws.specs.Actors.{is_over}
use Rattle.world_laws.specs.Members.{HoldsOfKind}
use Rattle.world_laws.specs.Openings.{Start, opened_world}
use Rattle.world_laws.specs.RoundDone.{EndsAt, reached}
use Rattle.world_laws.specs.Worlds.{Turn, WorldState, after_turn}
use Rattle.world_laws.proofs.Rounds.DoneByTheEnd.{rounds_end_on_time}
use Rattle.world_laws.proofs.Rounds.Lifting.{all_over_each}
use Rattle.world_laws.proofs.Weaving.WholeRounds.{run_append}
use Rattle.whole_paths.specs.AsFar.{stage}
use Rattle.whole_paths.specs.Clear.{IsPastIfClear}
use Rattle.whole_paths.specs.Courses.{round_end}
use Rattle.whole_paths.specs.DataAcksHeard.{IsToHear}
use Rattle.whole_paths.specs.Expiries.{IsToSendAgain}
use Rattle.whole_paths.specs.Finish.{IsPathAt}
use Rattle.whole_paths.specs.Mild.{IsMildStart}
use Rattle.whole_paths.specs.FirstPieces.{FirstPieceGoesOn, FirstPiecesBegin, FirstPiecesGoOn, IsFirstPieceAwaited}
use Rattle.whole_paths.specs.FirstPieces.{FirstPieceGoesOn as pieces}
use Rattle.whole_paths.specs.FirstPieces.IsFirstPieceAwaited.{comes, hears}
use Rattle.whole_paths.specs.FirstSigns.{IsSignAwaited, SignGoesOn, SignsAreDue, SignsBegin, SignsGoOn}
use Rattle.whole_paths.specs.FirstSigns.{SignGoesOn as signs}
use Rattle.whole_paths.specs.Flights.{IsOnItsWay, IsSentSo}
use Rattle.whole_paths.specs.Flights.{IsOnItsWay as ways}
use Rattle.whole_paths.specs.InTime.{ComesFrom}
use Rattle.whole_paths.specs.OpenCourses.{IsNow}
use Rattle.whole_paths.specs.Opened.{OpensOn, opened_or_harmed}
use Rattle.whole_paths.specs.Opened.{OpensOn as opens}
use Rattle.whole_paths.specs.OpeningConfirmed.{IsBehind}
use Rattle.whole_paths.specs.OpeningConfirmed.{IsConfirmed as sure}
use Rattle.whole_paths.specs.OpeningWaits.{AliveOpens, AliveSteps, IsAlive, IsAliveAfter}
use Rattle.whole_paths.specs.SignPieces.{IsSignPieceAwaited, ShowsADss, SignPieceGoesOn, SignPiecesBegin, SignPiecesGoOn}
use Rattle.whole_paths.specs.SignPieces.{SignPieceGoesOn as sign_pieces}
use Rattle.whole_paths.specs.SignWaits.{AwaitsFirstSign, FirstSignsAreAwaited, IsFirstSignAwaited, IsToShow}
use Rattle.whole_paths.specs.SignWaits.{IsFirstSignAwaited as first_sign}
use Rattle.whole_paths.specs.SignWaits.{IsToShow as shows}
use Rattle.whole_paths.specs.Timers.{TimersAreNear}
use Rattle.whole_paths.proofs.Clearing.{clear_ends_are_past}
use Rattle.whole_paths.proofs.Exchanges.{all_at}
use Rattle.whole_paths.proofs.FirstPieces.{each_first_piece_comes}
use Rattle.whole_paths.proofs.FirstSigns.{each_first_sign_comes}
use Rattle.whole_paths.proofs.InTime.{nil_so, nothing_is_overdue}
use Rattle.whole_paths.proofs.Opened.{edge_first, far, first_of_b, no_round_opens, opens_so, there}
use Rattle.whole_paths.proofs.RecordWaits.{path_is, with_both}
use Rattle.whole_paths.proofs.SignPieces.{each_sign_piece_comes}
use Rattle.whole_paths.proofs.Syns.{apart}
use Rattle.whole_paths.proofs.Timing.{timers_run_out}

-- ---- a turn

-- what didn't go yet may go as it is to
ungone_so : (c : Profile) (r : Record) (x : ℕ) (q : PathState Carried) (w : IsOnItsWay values B r x q) → IsSentSo (λ sender stripped altered. ⊥) w → IsSentSo (ShowsADss c r) w
ungone_so c r x q (ways.waits tick low runs first) so = tt
ungone_so c r x q (ways.resends low is first) so = tt
ungone_so c r x q (ways.flies f low there copy) so = absurd so

module _ (start : Start) (mild : IsMildStart start) (turns : List Turn) (turn : Turn) where
  abbrev w : WorldState Carried
  w = reached values start turns

  abbrev v : WorldState Carried
  v = after_turn values turn w

  abbrev Rises : Type 0
  Rises = opened_or_harmed start turns < opened_or_harmed start (turns ++ turn ∷ [])

  module _ (before : IsNow IsAlive w) (after : IsNow IsAlive v) (sent : 1 ≤ stage before.path.a.tcp.state) where
    abbrev p : PathState Carried
    p = before.path

    abbrev q : PathState Carried
    q = after.path

    opened : OpensOn p q → Rises
    opened = opens_so start mild turns turn before after sent

    piece_by : (x : ℕ) → FirstPieceGoesOn x p q → Rises ⊎ IsFirstSignAwaited x q
    piece_by x (pieces.on h) = inr (first_sign.piece h)
    piece_by x (pieces.opens h) = inl (opened h)

    sign_by : (x : ℕ) → SignPieceGoesOn x p q → Rises ⊎ IsFirstSignAwaited x q
    sign_by x (sign_pieces.on h) = inr (first_sign.sign h)
    sign_by x (sign_pieces.opens h) = inl (opened h)

    unclear_before : (x : ℕ) → IsSignAwaited x p → p.a.modes.clear ≡ false
    unclear_before x (IsSignAwaited.comes unclear high waits h so) = unclear
    unclear_before x (IsSignAwaited.hears unclear h) = unclear

    end_by : (x : ℕ) → p.a.modes.clear ≡ false → SignGoesOn x p q → Rises ⊎ IsFirstSignAwaited x q
    end_by x unclear (signs.on h) = inr (first_sign.end h)
    end_by x unclear (signs.opens h) = inl (opened h)
    end_by x unclear (signs.record_waits clear high r is_first way ungone) = by q.a.modes.clear refl
      where
        by : (b : Bool) → q.a.modes.clear ≡ b → Rises ⊎ IsFirstSignAwaited x q
        by true is = inl (opened (opens.clears A unclear is))
        by false still =
            let at = there start mild turns turn before after in
            let past = (subst (HoldsOfKind (λ app. Unit {0}) IsPastIfClear) at.is (clear_ends_are_past values start (turns ++ turn ∷ []) 2 at.crew at.there)) after.faithful.joined B clear in
            let piece = first_of_b start mild (turns ++ turn ∷ []) q at after.is_open still past r is_first in
            inr (first_sign.sign (IsSignPieceAwaited.comes (record {
              unclear = still;
              high = high;
              clear = clear;
              met = omega (arith, past);
              edge = edge_first start mild (turns ++ turn ∷ []) q at after.is_open A still;
            }) r piece.0 piece.1 way (ungone_so q.profile r x q way ungone)))

    goes_on : (x : ℕ) → IsFirstSignAwaited x p → Rises ⊎ IsFirstSignAwaited x q
    goes_on x (first_sign.piece h) = piece_by x (with_both start mild turns turn before after FirstPiecesGoOn
        (each_first_piece_comes.goes_on start turns mild turn 2 before.here.crew before.here.there) before.faithful before.few x h)
    goes_on x (first_sign.sign h) = sign_by x (with_both start mild turns turn before after SignPiecesGoOn
        (each_sign_piece_comes.goes_on start turns mild turn 2 before.here.crew before.here.there) before.faithful before.few x h)
    goes_on x (first_sign.end h) = end_by x (unclear_before x h) (with_both start mild turns turn before after SignsGoOn
        (each_first_sign_comes.goes_on start turns mild turn 2 before.here.crew before.here.there) before.faithful before.few x h)

-- ---- in time

on_its_way : (p : PathState Carried) (s : Side) (r : Record) (x : ℕ) → p.agenda ≡ [] → ComesFrom p.until p → IsOnItsWay values s r x p → p.until ≤ x
on_its_way p s r x over past (ways.waits tick low runs first) = let from = timer s runs.timer in omega (arith, from, low)
  where
    timer : (s : Side) → (end_at s p).tcp.timing.timer ≡ Some tick → p.until ≤ tick
    timer A is = subst (λ o. IfSome o (λ t. p.until ≤ t)) is past.timer_a
    timer B is = subst (λ o. IfSome o (λ t. p.until ≤ t)) is past.timer_b
on_its_way p s r x over past (ways.resends low is first) = absurd (never is)
  where
    never : IsToSendAgain s p → ⊥
    never (inl is) = let made : [] ≡ expired s = sym over ∙ is in cc
    never (inr is) = let made : [] ≡ duties.Send (send_duties.Resend s) ∷ emission s = sym over ∙ is in cc
on_its_way p s r x over past (ways.flies f low there copy) =
    let from = subst (λ (g : Flight Carried). p.until ≤ g.tick) there.holds (all_at (λ (g : Flight Carried). p.until ≤ g.tick) p.link.under_way there.at there.item there.there past.copies) in omega (arith, from, low)

piece_due : (p : PathState Carried) → p.agenda ≡ [] → ComesFrom p.until p → (x : ℕ) → x < p.until → IsFirstPieceAwaited x p → ⊥
piece_due p over past x late (comes r kind at high unclear key unsure there edge next so) = let low = on_its_way p A r x over past next in omega (arith, low, late)
piece_due p over past x late (hears unsure (sure.clear is)) = true≢false (sym is ∙ unsure)
piece_due p over past x late (hears unsure (sure.by_dss own h)) = apart (sym own)
piece_due p over past x late (hears unsure (sure.by_keys own other none h)) = subst (λ ds. IsToHear B (says.Keys own other) p.b.treated.items ds) over h

sign_due : (p : PathState Carried) → p.agenda ≡ [] → ComesFrom p.until p → (x : ℕ) → x < p.until → IsSignPieceAwaited x p → ⊥
sign_due p over past x late (IsSignPieceAwaited.comes wants r kind at next so) = let low = on_its_way p B r x over past next in omega (arith, low, late)
sign_due p over past x late (IsSignPieceAwaited.hears unclear (sure.clear is)) = true≢false (sym is ∙ unclear)
sign_due p over past x late (IsSignPieceAwaited.hears unclear (sure.by_dss own h)) = subst (λ ds. IsBehind A says.Dss p.a.treated.items ds) over h
sign_due p over past x late (IsSignPieceAwaited.hears unclear (sure.by_keys own other none h)) = subst (λ ds. IsToHear A (says.Keys own other) p.a.treated.items ds) over h

-- ---- waits

module _ (start : Start) (most : ℕ) (mild : IsMildStart start) where
  abbrev GoesOn : ℕ → List Turn → List Turn → Type 0
  GoesOn x v u = (opened_or_harmed start v < opened_or_harmed start u) ⊎ AwaitsFirstSign start x u

  turn_on : (x : ℕ) (v : List Turn) (turn : Turn) → IsAliveAfter start most v → IsAliveAfter start most (v ++ turn ∷ []) → AwaitsFirstSign start x v → GoesOn x v (v ++ turn ∷ [])
  turn_on x v turn before after h =
      let same = run_append values v (turn ∷ []) (opened_world start) in
      let then_now : IsNow IsAlive (after_turn values turn (reached values start v)) = subst (λ (y : WorldState Carried). IsNow IsAlive y) same after in
      let there : IsPathAt 0 (reached values start (v ++ turn ∷ [])) then_now.path = subst (λ (y : WorldState Carried). IsPathAt 0 y then_now.path) (sym same) then_now.here in
      let path_same = path_is (reached values start v) h.path before.path h.here before.here in
      let sent : 1 ≤ stage before.path.a.tcp.state = subst (λ (p : PathState Carried). 1 ≤ stage p.a.tcp.state) path_same h.sent in
      ⊎_elim (λ rises. inl rises)
      (λ waits. inr (record { path = then_now.path; here = there; by = h.by; soon = h.soon; sent = (let up = (far start mild v turn before then_now).a.subflow.state in omega (arith, sent, up)); waits = waits }))
      (goes_on start mild v turn before then_now sent h.by (subst (IsFirstSignAwaited h.by) path_same h.waits))

  steps_on : (x : ℕ) (v u : List Turn) → AliveSteps start most v u → AwaitsFirstSign start x v → GoesOn x v u
  steps_on x v u step h = subst (λ t. GoesOn x v t) (sym step.is) (turn_on x v (Turn.Step step.actor) step.before (subst (IsAliveAfter start most) step.is step.after) h)

  opens_on : (x : ℕ) (v u : List Turn) → AliveOpens start most v u → AwaitsFirstSign start x v → GoesOn x v u
  opens_on x v u step h = subst (λ t. GoesOn x v t) (sym step.is) (turn_on x v Turn.Round step.before (subst (IsAliveAfter start most) step.is step.after) h)

  -- ---- as a round begins

  module _ (v u : List Turn) (step : AliveOpens start most v u) (path : PathState Carried) (at : IsPathAt 0 (reached values start v) path) where
    abbrev ended : WorldState Carried
    ended = reached values start v

    near : TimersAreNear path
    near = subst (HoldsOfKind (λ app. Unit {0}) TimersAreNear) at.is ((timers_run_out values start v).each 2 at.crew at.there)

    until : path.until ≡ round_end values start v
    until = subst (EndsAt (round_end values start v)) at.is ((rounds_end_on_time values start v).each 2 at.crew at.there)

    silent : path.agenda ≡ []
    silent = nil_so path.agenda (subst (λ m. is_over m ≡ true) at.is (all_over_each ended.crew 2 at.crew step.over at.there))

    past : path.agenda ≡ [] → ComesFrom path.until path
    past = subst (HoldsOfKind (λ app. Unit {0}) (λ (p : PathState Carried). p.agenda ≡ [] → ComesFrom p.until p)) at.is ((nothing_is_overdue values start v).over 2 at.crew at.there)

    none_late : (x : ℕ) → x < path.until → IsFirstSignAwaited x path → ⊥
    none_late x late (first_sign.piece h) = piece_due path silent (past silent) x late h
    none_late x late (first_sign.sign h) = sign_due path silent (past silent) x late h
    none_late x late (first_sign.end h) = (subst (HoldsOfKind (λ app. Unit {0}) SignsAreDue) at.is (each_first_sign_comes.due start v 2 at.crew at.there)) silent x late h

    pieces_begin : FirstPiecesBegin path
    pieces_begin = subst (HoldsOfKind (λ app. Unit {0}) FirstPiecesBegin) at.is (each_first_piece_comes.begin start v mild 2 at.crew at.there)

    sign_pieces_begin : SignPiecesBegin path
    sign_pieces_begin = subst (HoldsOfKind (λ app. Unit {0}) SignPiecesBegin) at.is (each_sign_piece_comes.begin start v mild 2 at.crew at.there)

    signs_begin : SignsBegin path
    signs_begin = subst (HoldsOfKind (λ app. Unit {0}) SignsBegin) at.is (each_first_sign_comes.begin start v mild 2 at.crew at.there)

    same_now : path ≡ step.before.path
    same_now = path_is ended path step.before.path at step.before.here

    living : (s : Side) → is_dead (end_at s path).tcp.state ≡ false
    living s = subst (λ (p : PathState Carried). is_dead (end_at s p).tcp.state ≡ false) (sym same_now) (step.before.is_open.living s)

    first : is_joined path.profile ≡ false
    first = subst (λ (p : PathState Carried). is_joined p.profile ≡ false) (sym same_now) step.before.faithful.joined

    -- such a wait begins
    wait : (sent : 1 ≤ stage path.a.tcp.state) → IsFirstSignAwaited (path.clock + 60000 + 400) path → AwaitsFirstSign start (round_end values start v + 60800) v
    wait sent waits = record { path = path; here = at; by = path.clock + 60000 + 400; soon = (let clock = near.clock in omega (arith, clock, until)); sent = sent; waits = waits }

    waiting : IsToShow path → AwaitsFirstSign start (round_end values start v + 60800) v
    waiting (shows.piece r others is kind pos high unclear unsure there edge) = wait (omega (arith, high)) (first_sign.piece (pieces_begin silent first (living A) r others is kind pos high unclear unsure there edge))
    waiting (shows.sign wants r others is kind pos) = wait (let high = wants.high in omega (arith, high)) (first_sign.sign (sign_pieces_begin silent (living B) wants r others is kind pos))
    waiting (shows.end opened none unclear high waits) = wait (omega (arith, high)) (first_sign.end (signs_begin silent opened none unclear high waits))

    wait_begins : IsToShow path → AwaitsFirstSign start (round_end values start v + 60800) u
    wait_begins to_show = ⊎_elim
        (λ rises. absurd (no_round_opens start mild most v u step rises))
        (λ waits. waits)
        (opens_on (round_end values start v + 60800) v u step (waiting to_show))

pub first_signs_are_awaited : FirstSignsAreAwaited
first_signs_are_awaited start most mild = record {
  begins = λ v u step h. wait_begins start most mild v u step h.path h.here h.shows;
  on = λ x v u step h. steps_on start most mild x v u step h;
  next = λ x v u step h. opens_on start most mild x v u step h;
  due = λ x v u step h late. none_late start most mild v u step h.path h.here h.by
      (let end = until start most mild v u step h.path h.here in let soon = h.soon in omega (arith, end, soon, late)) h.waits;
}
