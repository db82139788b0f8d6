-- Who is told stays told: by what rises, what goes and what has room.
use Rattle.std.proofs.Common.{◌≡◌, sym, subst, ◌⊎◌, inl, inr, ⊎_elim, ℕ, ◌+◌, ◌<◌, ◌≤◌, arith, true, List}
use Rattle.std.proofs.lemmas.Bool.{cases_lt}
use Rattle.sides.specs.declared.side.Side.{Side}
use Rattle.sides.specs.declared.side.Side.TheVariants.{B}
use Rattle.sides.specs.Side.{peer}
use Rattle.subflow_tcp.specs.State.{is_fin_passed}
use Rattle.path_core.specs.State.{PathState, end_at}
use Rattle.path_core.specs.Values.{Carried, values}
use Rattle.world_laws.specs.Openings.{Start}
use Rattle.world_laws.specs.RoundDone.{reached}
use Rattle.world_laws.specs.Worlds.{Turn, WorldState, after_turn}
use Rattle.whole_paths.specs.Finish.{is_harmed}
use Rattle.whole_paths.specs.Mending.{AnswersStay, IsToldBy, IsToldSoon}
use Rattle.whole_paths.specs.Mending.{IsToldBy as told_by}
use Rattle.whole_paths.specs.Mending.{IsToldSoon as told_soon}
use Rattle.whole_paths.specs.OpenCourses.{IsNow}
use Rattle.whole_paths.specs.ToldStays.{ToldStays, WhoIsToldStaysTold}
use Rattle.whole_paths.specs.WindowRoom.{IsRoomy}
use Rattle.whole_paths.proofs.FinPlaces.{FinsStay, FinsStayMember, fins_stay, still_past}
use Rattle.whole_paths.proofs.MoreOwed.{what_rises_is_owed}
use Rattle.whole_paths.proofs.RecordWaits.{edge_up, last}
use Rattle.whole_paths.proofs.RecordsWell.{by_turn, each_record_stays_well}
use Rattle.whole_paths.proofs.ToldSoon.{each_answer_comes_soon}
use Rattle.whole_paths.specs.Straying.{IsOpenFrom}

pub told_later : (s : Side) (position first later : ℕ) (p : PathState Carried) → first ≤ later → IsToldBy s position first p → IsToldBy s position later p
told_later s position first later p low (told_by.heard h) = told_by.heard h
told_later s position first later p low (told_by.comes copy there answers soon) = told_by.comes copy there answers (omega (arith, soon, low))

module _ (start : Start) (x : IsRoomy start) (turns : List Turn) (turn : Turn) (before : IsNow (IsOpenFrom B) (reached values start turns)) (s : Side) where
  abbrev w : WorldState Carried
  w = reached values start turns

  abbrev p : PathState Carried
  p = before.path

  module _ (after : IsNow (IsOpenFrom B) (after_turn values turn w)) (answers : AnswersStay s p after.path) (clock : p.clock ≤ after.path.clock) where
    abbrev q : PathState Carried
    q = after.path

    abbrev t : Side
    t = peer s

    up : (end_at t p).tcp.recv.edge ≤ (end_at t q).tcp.recv.edge
    up = edge_up start x.mild turns turn before after t

    more : (end_at t p).tcp.recv.edge < (end_at t q).tcp.recv.edge → ((end_at t q).tcp.due.ack ≡ true) ⊎ (is_fin_passed (end_at t q).tcp ≡ true)
    more rises = what_rises_is_owed start turns turn x.mild p q before.here after.here t (after.is_open.living t) rises

    fins : FinsStay p q
    fins = by_turn start x.mild turns turn before after FinsStayMember (fins_stay values w turn 2 before.here.crew before.here.there)

    abbrev Owed : Type 0
    Owed = ((end_at t q).tcp.due.ack ≡ true) ⊎ ((is_fin_passed (end_at t q).tcp ≡ true) ⊎ ((is_harmed t p q ≡ true) ⊎ IsToldBy s (end_at t q).tcp.recv.edge (p.clock + 400) q))

    -- what is told is so up to RCV.NXT still, unless that rose
    told_up : IsToldBy s (end_at t p).tcp.recv.edge (p.clock + 400) q → Owed
    told_up h = ⊎_elim
        (λ rises. ⊎_elim (λ due. inl due) (λ past. inr (inl past)) (more rises))
        (λ few. inr (inr (inr (subst (λ n. IsToldBy s n (p.clock + 400) q) (let low = up in omega (arith, few, low)) h))))
        (cases_lt (end_at t p).tcp.recv.edge (end_at t q).tcp.recv.edge)

    owed : (end_at t p).tcp.due.ack ≡ true → Owed
    owed due = ⊎_elim (λ still. inl still) (λ goes. ⊎_elim (λ harmed. inr (inr (inl harmed))) (λ h. told_up h) goes) (answers.owed (x.room turns p before.here before.is_open.living s) due)

    owed_soon : Owed → (is_harmed t p q ≡ true) ⊎ IsToldSoon s q
    owed_soon (inl due) = inr (told_soon.owed due)
    owed_soon (inr (inl past)) = inr (told_soon.past_fin past)
    owed_soon (inr (inr (inl harmed))) = inl harmed
    owed_soon (inr (inr (inr h))) = inr (told_soon.told (told_later s (end_at t q).tcp.recv.edge (p.clock + 400) (q.clock + 400) q (let later = clock in omega (arith, later)) h))

    soon : IsToldSoon s p → (is_harmed t p q ≡ true) ⊎ IsToldSoon s q
    soon (told_soon.past_fin past) = inr (told_soon.past_fin (still_past p q fins t up past))
    soon (told_soon.owed due) = owed_soon (owed due)
    soon (told_soon.told h) = owed_soon (told_up (answers.comes (end_at t p).tcp.recv.edge (p.clock + 400) h))

    stays : ToldStays s p q
    stays = record { comes = answers.comes; owed = owed; more = more; soon = soon }

pub who_is_told_stays_told : WhoIsToldStaysTold
who_is_told_stays_told start turns turn x h s =
    subst (λ (u : WorldState Carried). (a : IsNow (IsOpenFrom B) u) → AnswersStay s h.before.path a.path → h.before.path.clock ≤ a.path.clock → ToldStays s h.before.path a.path) (sym (last start h.mild turns turn))
    (λ a answers clock. stays start x turns turn h.before s a answers clock) h.after (each_answer_comes_soon start turns turn h s) (each_record_stays_well start turns turn h s).clock
