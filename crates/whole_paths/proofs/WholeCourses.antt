-- Each wait of a mild connection over one path goes on or something is counted, so that all of both streams is there in the end.
use Rattle.std.proofs.Common.{◌≡◌, refl, sym, subst, ap, ◌∙◌, ◌⊎◌, ⊎_elim, inl, inr, ℕ, zero, suc, ◌+◌, ◌*◌, ◌<◌, ◌≤◌, arith, Bool, true, false, List, [], ◌∷◌, ◌++◌, length}
use Rattle.std.proofs.lemmas.Bool.{both_ways, cases_lt}
use Rattle.std.proofs.lemmas.Option.{same_Some}
use Rattle.sides.specs.declared.side.Side.{Side}
use Rattle.sides.specs.declared.side.Side.TheVariants.{A, B}
use Rattle.sides.specs.Side.{peer}
use Rattle.send_book.specs.State.{acked_len}
use Rattle.reassembly_book.specs.State.{received}
use Rattle.path_core.specs.State.{end_at}
use Rattle.path_core.specs.Values.{Carried, values}
use Rattle.world_laws.specs.Actors.{ActorCrew}
use Rattle.world_laws.specs.Members.{HoldsOfKind}
use Rattle.world_laws.specs.Openings.{PathPlan, Start, opened_world}
use Rattle.world_laws.specs.Promises.{arrived_at, written_by}
use Rattle.world_laws.specs.RoundDone.{reached}
use Rattle.world_laws.specs.RoundNumbers.{BeginsRound}
use Rattle.world_laws.specs.Worlds.{Turn, WorldState, all_over, world_run}
use Rattle.world_laws.proofs.Weaving.WholeRounds.{run_append}
use Rattle.world_laws.proofs.Promises.Made.{keep_their_word}
use Rattle.world_laws.proofs.Whole.Falls.{MemberUpright, PathUpright, each_upright}
use Rattle.whole_paths.specs.AnswerWaits.{AnswersAreAwaited}
use Rattle.whole_paths.specs.Courses.{Exchanges, counted, round_end}
use Rattle.whole_paths.specs.Delivery.{AllIsThere}
use Rattle.whole_paths.specs.Finish.{IsPathAt}
use Rattle.whole_paths.specs.GoingOn.{IsAboutToGoOn, IsOpenHere, IsWaiting, steps_of}
use Rattle.whole_paths.specs.GoingOn.IsAboutToGoOn.{this_round, next_round}
use Rattle.whole_paths.specs.Mild.{IsMildStart}
use Rattle.whole_paths.specs.OpenAsks.IsUnanswered.{data_fin}
use Rattle.whole_paths.specs.OpenCourses.{IsOpenAfter}
use Rattle.whole_paths.specs.Outstanding.{HasOutstanding, WaitsForOne}
use Rattle.whole_paths.specs.Outstanding.{WaitsForOne as waits}
use Rattle.whole_paths.specs.RecordWaits.{LeavesRoom, Opens, RecordsAreAwaited, SentNoFin, Steps}
use Rattle.whole_paths.specs.Straying.{IsOpen}
use Rattle.whole_paths.specs.WholeCourses.{IsAwaited, ShutWindowsOpen}
use Rattle.whole_paths.specs.WholeCourses.IsAwaited.{turn, piece, answer, window}
use Rattle.whole_paths.proofs.AnswerWaits.{answers_are_awaited_always}
use Rattle.whole_paths.proofs.Courses.{counted_up, round_next, round_step}
use Rattle.whole_paths.proofs.Delivery.{what_is_there_stays}
use Rattle.whole_paths.proofs.GoingOn.{rounds_begin_to_go_on, rounds_go_on, steps_let_it_go_on}
use Rattle.whole_paths.proofs.Outstanding.{what_is_outstanding_is_awaited}
use Rattle.whole_paths.proofs.RecordWaits.{path_is, records_are_awaited_always}

-- ---- rounds

-- the round in which the connection is about to go on
record Since (start : Start) (n : ℕ) (turns : List Turn) : Type 0 where
  since : List Turn
  order : List ℕ
  is : turns ≡ since ++ steps_of order
  begin : BeginsRound values start (reached values start since)
  low : n ≤ counted values start since

since_of : (start : Start) (n rounds : ℕ) (turns : List Turn) → IsAboutToGoOn start n rounds turns → Since start n turns
since_of start n rounds turns (this_round s since order left is count begin none) = record { since = since; order = order; is = is; begin = begin; low = omega (arith, count) }
since_of start n rounds turns (next_round s since more order left is count begin unclosed all) =
    record { since = since ++ more; order = order; is = is; begin = begin; low = (let up = counted_up values start since more in omega (arith, count, up)) }

pub no_rounds : (start : Start) (n : ℕ) (turns : List Turn) → IsAboutToGoOn start n 0 turns → ⊥
no_rounds start n turns (this_round s since order left is count begin none) = omega (arith, left)
no_rounds start n turns (next_round s since more order left is count begin unclosed all) = omega (arith, left)

-- ---- all waits

module _ (start : Start) (plan : PathPlan) (most within : ℕ) (Waits : ℕ → ℕ → List Turn → Type 0) (one : start.paths ≡ plan ∷ []) (mild : IsMildStart start) (some : 1 ≤ start.buffer)
    (long : 60800 ≤ within) (windows : ShutWindowsOpen start most within Waits) where
  abbrev at : List Turn → WorldState Carried
  at turns = reached values start turns

  abbrev count : List Turn → ℕ
  count turns = counted values start turns

  abbrev Over : List Turn → Type 0
  Over turns = AllIsThere (at turns)

  abbrev Awaits : ℕ → ℕ → List Turn → Type 0
  Awaits n x turns = IsAwaited start within Waits n x turns

  pieces : RecordsAreAwaited start most
  pieces = records_are_awaited_always start most mild

  answers : AnswersAreAwaited start most
  answers = answers_are_awaited_always start plan most one mild

  pub lasts : (turns : List Turn) (t : Turn) → Over turns → Over (turns ++ t ∷ [])
  lasts turns t over = record { of = λ s. what_is_there_stays start turns (t ∷ []) mild s (over.of s) }

  -- as a round is over
  module _ (v u : List Turn) (step : Opens start most v u) where
    abbrev Next : ℕ → ℕ → Type 0
    Next n x = (n < count u) ⊎ Awaits n x u

    begun : at u ≡ world_run values (Turn.Round ∷ []) (at v)
    begun = ap at step.is ∙ run_append values v (Turn.Round ∷ []) (opened_world start)

    more_counted : count v ≤ count u
    more_counted = subst (λ t. count v ≤ count t) (sym step.is) (counted_up values start v (Turn.Round ∷ []))

    open_here : IsOpenHere (at v)
    open_here c there = subst (HoldsOfKind (λ app. Unit {0}) IsOpen) (sym step.before.here.is ∙ ap (λ (x : ActorCrew Carried). x.member) (same_Some step.before.here.crew c (sym step.before.here.there ∙ there))) step.before.is_open

    -- something is outstanding
    module _ (n x : ℕ) (low : n ≤ count v) (late : round_end values start v + within ≤ x) (since : Since start n v) (h : IsWaiting (at v)) where
      here : IsPathAt 0 (at v) h.path
      here = record { crew = h.crew; there = h.there; is = h.is }

      upright : PathUpright h.path
      upright = subst MemberUpright h.is ((each_upright start v mild.plain mild.strips).each 2 h.crew h.there)

      abbrev sender : SentNoFin start v
      sender = record { path = h.path; here = here; side = h.side; unfinished = upright.passes.unfinished h.side h.may }

      with_room : LeavesRoom sender → Next n x
      with_room room = ⊎_elim
          (λ rises. inl (let before = since.low in omega (arith, before, rises, more_counted)))
          by
          (subst (λ ts. all_over (at ts).crew ≡ true → (k : HasOutstanding start ts) → (count since.since < count ts) ⊎ WaitsForOne start ts k) (sym since.is)
          (λ over k. what_is_outstanding_is_awaited start plan since.since since.order one mild since.begin over k) step.over out)
        where
          out : HasOutstanding start v
          out = record {
            path = h.path;
            here = here;
            is_open = subst IsOpen (path_is (at v) step.before.path h.path step.before.here here) step.before.is_open;
            side = h.side;
            outstanding = h.outstanding;
            room = room;
          }

          -- bytes aren't acknowledged
          shut_so : acked_len (written_by h.side (at v)).marks < length (written_by h.side (at v)).written
              → (end_at h.side h.path).tcp.send.records ≡ [] → (end_at h.side h.path).sending.granted ≡ [] → (end_at h.side h.path).sending.shut ≡ true → Next n x
          shut_so left none empty shut = ⊎_elim
              (λ rises. inl (let before = since.low in omega (arith, before, rises)))
              (λ waits. ⊎_elim
              (λ less. inl (omega (arith, less, more_counted)))
              (λ most_so. (let same : count v ≡ n = omega (arith, low, most_so) in inr (window (round_end values start v + within) late (subst (λ m. Waits m (round_end values start v + within) u) same waits))))
              (cases_lt n (count v)))
              (windows.begins since.since since.order v u since.is since.begin step (record { sender = sender; may = h.may; none = none; empty = empty; shut = shut; left = left; room = room }))

          -- all are
          acked_received : (t : Side) → acked_len (written_by t (at v)).marks ≤ received (arrived_at (peer t) (at v))
          acked_received A = (keep_their_word start v mild.plain).ab.acked
          acked_received B = (keep_their_word start v mild.plain).ba.acked

          end_so : length (written_by h.side (at v)).written ≤ acked_len (written_by h.side (at v)).marks → (end_at h.side h.path).tcp.send.records ≡ [] → (end_at h.side h.path).sending.fin_sent ≡ true
              → (end_at h.side h.path).sending.close.own_acked ≡ false → Next n x
          end_so all none sent unacked = inr (answer (round_end values start v + 60800) (omega (arith, late, long)) (answers.begins v u step (record {
            path = h.path;
            here = here;
            side = h.side;
            place = length (written_by h.side (at v)).written + 1;
            fin = true;
            none = none;
            unanswered = data_fin refl (omega arith) sent unacked;
            has = (let came = acked_received h.side in omega (arith, all, came));
            room = room;
          })))

          by_end : length (written_by h.side (at v)).written ≤ acked_len (written_by h.side (at v)).marks → (end_at h.side h.path).tcp.send.records ≡ [] → (end_at h.side h.path).sending.granted ≡ []
              → (sent acked : Bool) → (end_at h.side h.path).sending.fin_sent ≡ sent → (end_at h.side h.path).sending.close.own_acked ≡ acked → Next n x
          by_end all none empty true false sent unacked = end_so all none sent unacked
          by_end all none empty false acked sent is = absurd (let left = h.left none empty (λ was open_end. both_ways (end_at h.side h.path).sending.fin_sent sent was) in omega (arith, left, all))
          by_end all none empty true true sent is = absurd (let left = h.left none empty (λ was open_end. both_ways (end_at h.side h.path).sending.close.own_acked open_end is) in omega (arith, left, all))

          by : WaitsForOne start v out → Next n x
          by (waits.piece first others records) =
              inr (piece (round_end values start v + 60800) (omega (arith, late, long)) (pieces.begins v u step
              (record { path = h.path; here = here; side = h.side; first = first; others = others; records = records; unfinished = sender.unfinished })))
          by (waits.answer ask) = inr (answer (round_end values start v + 60800) (omega (arith, late, long)) (answers.begins v u step ask))
          by (waits.window none empty shut) = ⊎_elim
              (λ left. shut_so left none empty shut)
              (λ all. by_end (omega (arith, all)) none empty (end_at h.side h.path).sending.fin_sent (end_at h.side h.path).sending.close.own_acked refl refl)
              (cases_lt (acked_len (written_by h.side (at v)).marks) (length (written_by h.side (at v)).written))

      waits_so : Next n x
      waits_so = ⊎_elim
          (λ waits. inr (piece (round_end values start v + 60800) (omega (arith, late, long)) waits))
          with_room
          (pieces.room v u step sender)

    turn_next : (n x rounds : ℕ) → n ≤ count v → IsAboutToGoOn start n rounds v → round_end values start v + 100 * rounds + within ≤ x → Next n x
    turn_next n x zero low h soon = absurd (no_rounds start n v h)
    turn_next n x (suc rounds) low h soon = ⊎_elim
        (λ rises. inl (omega (arith, rises, more_counted)))
        (λ rest. ⊎_elim
        (λ waits. waits_so n x low (omega (arith, soon)) (since_of start n (suc rounds) v h) waits)
        (λ on. inr (subst (λ t. Awaits n x t) (sym step.is) (turn rounds on (let next = round_next values start v step.over in omega (arith, next, soon)))))
        rest)
        (rounds_go_on start plan n rounds v one mild some step.over open_here h)

    next_so : (n x : ℕ) → n ≤ count v → Awaits n x v → Next n x
    next_so n x low (turn rounds h soon) = turn_next n x rounds low h soon
    next_so n x low (piece by soon h) = ⊎_elim (λ rises. inl (omega (arith, low, rises))) (λ still. inr (piece by soon still)) (pieces.next by v u step h)
    next_so n x low (answer by soon h) = ⊎_elim (λ rises. inl (omega (arith, low, rises))) (λ still. inr (answer by soon still)) (answers.next by v u step h)
    next_so n x low (window by soon h) = ⊎_elim (λ rises. inl rises) (λ still. inr (window by soon still)) (windows.next n by v u step low h)

    due_so : (n x : ℕ) → n ≤ count v → Awaits n x v → x < round_end values start v → n < count u
    due_so n x low (turn rounds h soon) late = absurd (omega (arith, soon, late))
    due_so n x low (piece by soon h) late = let rises = pieces.due by v u step h (omega (arith, soon, late)) in omega (arith, low, rises)
    due_so n x low (answer by soon h) late = let rises = answers.due by v u step h (omega (arith, soon, late)) in omega (arith, low, rises)
    due_so n x low (window by soon h) late = windows.due n by v u step low h (omega (arith, soon, late))

    begins_so : Over u ⊎ Awaits (count u) (round_end values start v + (within + 300)) u
    begins_so = ⊎_elim
        (λ all. inl all)
        (λ h. inr (turn 2 h (let next = subst (λ t. round_end values start t ≡ round_end values start v + 100) (sym step.is) (round_next values start v step.over) in omega (arith, next))))
        (rounds_begin_to_go_on start u (BeginsRound.Next v step.over begun))

  -- within a round
  on_so : (n x : ℕ) (v u : List Turn) → Steps start most v u → n ≤ count v → Awaits n x v → (n < count u) ⊎ Awaits n x u
  on_so n x v u step low (turn rounds h soon) = inr (subst (λ t. Awaits n x t) (sym step.is)
      (turn rounds (steps_let_it_go_on start n rounds v step.actor h) (let same = round_step values start v step.actor in omega (arith, same, soon))))
  on_so n x v u step low (piece by soon h) = ⊎_elim (λ rises. inl (omega (arith, low, rises))) (λ still. inr (piece by soon still)) (pieces.on by v u step h)
  on_so n x v u step low (answer by soon h) = ⊎_elim (λ rises. inl (omega (arith, low, rises))) (λ still. inr (answer by soon still)) (answers.on by v u step h)
  on_so n x v u step low (window by soon h) = ⊎_elim (λ rises. inl rises) (λ still. inr (window by soon still)) (windows.on n by v u step low h)

  pub exchanges : Exchanges values start (IsOpenAfter start) most (within + 300) Over Awaits
  exchanges = record {
    over_on = λ v u step over. subst Over (sym step.is) (lasts v (Turn.Step step.actor) over);
    over_next = λ v u step over. subst Over (sym step.is) (lasts v Turn.Round over);
    waits_on = on_so;
    waits_next = λ n x v u step low h. next_so v u step n x low h;
    due = λ n x v u step low h late. due_so v u step n x low h late;
    begins = begins_so;
  }
