-- Once all bytes before a DATA_FIN are acknowledged nothing is sent behind it: it comes as it should, unless it is harmed.
use Rattle.std.proofs.Common.{◌≡◌, ap, ◌∙◌, ⊎_elim, ℕ, suc, ◌+◌, ◌<◌, ◌≤◌, arith, false, List, [], ◌∷◌, ◌++◌, length, length-append}
use Rattle.std.proofs.lemmas.Bool.{cases_lt}
use Rattle.octet_text.specs.Prefix.{IsPrefix}
use Rattle.sides.specs.declared.side.Side.{Side}
use Rattle.sides.specs.declared.side.Side.TheVariants.{A, B}
use Rattle.sides.specs.Side.{peer}
use Rattle.actor_desk.specs.Words.{pick}
use Rattle.subflow_tcp.specs.States.{is_dead}
use Rattle.path_agenda.specs.declared.duty.Duty.{Duty}
use Rattle.path_agenda.specs.declared.duty.Duty.TheVariants as duties
use Rattle.path_agenda.specs.declared.duty.SendDuty.TheVariants as send_duties
use Rattle.path_core.specs.State.{PathState, end_at}
use Rattle.path_core.specs.Values.{Carried, values}
use Rattle.world_laws.specs.Openings.{PathPlan, Start}
use Rattle.world_laws.specs.Promises.{written_by}
use Rattle.world_laws.specs.RoundDone.{reached}
use Rattle.world_laws.specs.Worlds.{Turn, WorldState}
use Rattle.world_laws.proofs.Worlds.CastLifting.{writes_the_files}
use Rattle.whole_paths.specs.AsFar.{stage}
use Rattle.whole_paths.specs.Came.{HasCome}
use Rattle.whole_paths.specs.Delivery.{IsAllThere}
use Rattle.whole_paths.specs.FinDebts.{FinStands, FinStandsOn, FinsStandOn, file_size}
use Rattle.whole_paths.specs.FinDebts.{FinStands as stands, FinStandsOn as on}
use Rattle.whole_paths.specs.Finish.{IsPathAt}
use Rattle.whole_paths.specs.FinsComing.{FinComesBy, FinIsTold, FinsGoOn}
use Rattle.whole_paths.specs.FinsComing.{FinIsTold as told}
use Rattle.whole_paths.specs.Mending.{IsBegunTurn}
use Rattle.whole_paths.specs.OnePathScripts.{BeginsWithOnePath}
use Rattle.whole_paths.proofs.Came.{what_is_acknowledged_came}
use Rattle.whole_paths.proofs.Delivery.{what_is_there_stays}
use Rattle.whole_paths.proofs.Directions.{clock}
use Rattle.whole_paths.proofs.FinsComing.{comes_later, data_fins_come_soon}
use Rattle.whole_paths.proofs.FinsSent.{FinGoesNext, FinsGoNext, fins_go_next}
use Rattle.whole_paths.proofs.OpenTurns.{of_before, with_both}
use Rattle.whole_paths.proofs.SegmentRounds.{counts, if_may_so, unfinished}
use Rattle.whole_paths.proofs.WindowRoom.{each_window_has_room, one_path_is_roomy}

-- ---- a moment

-- no side writes more than its file
pub few_written : (start : Start) (s : Side) (turns : List Turn) → length (written_by s (reached values start turns)).written ≤ file_size start s
few_written start s turns = by s
  where
    prefix_len : (xs ys : List ℕ) → IsPrefix xs ys → length xs ≤ length ys
    prefix_len xs ys h = (let whole = ap (λ (zs : List ℕ). length zs) h.whole_is in omega (arith, whole, length-append xs h.rest))

    by : (t : Side) → length (written_by t (reached values start turns)).written ≤ length (pick t start.file_a start.file_b)
    by A = prefix_len _ _ (writes_the_files values start turns).a.prefix
    by B = prefix_len _ _ (writes_the_files values start turns).b.prefix

-- where SND.NXT lies further than just behind the file, the FIN was sent: all of the stream is there
pub sent_past : (start : Start) (plan : PathPlan) → BeginsWithOnePath start plan → (s : Side) (turns : List Turn) (p : PathState Carried) → IsPathAt 0 (reached values start turns) p → 3 ≤ stage (end_at s p).tcp.state
    → is_dead (end_at s p).tcp.state ≡ false → suc (file_size start s) < (end_at s p).tcp.send.nxt → IsAllThere s (reached values start turns)
sent_past start plan one s turns p here past living far = if_may_so start one.mild (IsAllThere s (reached values start turns)) turns p here s past living (λ all. all) (λ may. absurd
    (let within = (counts start plan one turns p here s).within (unfinished start one.mild turns p here s may) in let few = few_written start s turns in omega (arith, within, few, far)))

-- ---- a turn

module _ (start : Start) (plan : PathPlan) (one : BeginsWithOnePath start plan) (turns : List Turn) (turn : Turn) (h : IsBegunTurn start turns turn) (s : Side) where
  abbrev p : PathState Carried
  p = h.before.path

  abbrev q : PathState Carried
  q = h.after.path

  abbrev w : WorldState Carried
  w = reached values start turns

  abbrev later : List Turn
  later = turns ++ turn ∷ []

  abbrev size : ℕ
  size = file_size start s

  abbrev Goes : Type 0
  Goes = FinStandsOn start s turns turn p q

  clock_up : p.clock ≤ q.clock
  clock_up = clock start (one_path_is_roomy start plan one) turns turn h s

  go_on : FinsGoOn s p q
  go_on = data_fins_come_soon start turns turn h s

  next_so : FinGoesNext s p q
  next_so = with_both start turns turn h FinsGoNext (fins_go_next values w turn 2 h.before.here.crew h.before.here.there) s

  -- RCV.NXT of the peer has reached SND.UNA
  came : (end_at s p).tcp.send.una ≤ (end_at (peer s) p).tcp.recv.edge
  came = (of_before start turns turn h HasCome ((what_is_acknowledged_came start turns).each 2 h.before.here.crew h.before.here.there)).una s (h.before.is_open.living s)

  soon : (position : ℕ) → FinComesBy s position (p.clock + 400) q → Goes
  soon position c = on.on (stands.comes position (comes_later s position (p.clock + 400) (q.clock + 400) q (let up = clock_up in omega (arith, up)) c))

  told_then : (position : ℕ) → (position < (end_at s q).tcp.send.nxt → Goes) → FinIsTold s position (p.clock + 400) q → Goes
  told_then position past (told.heard is) = on.on (stands.heard is)
  told_then position past (told.comes c) = soon position c
  told_then position past (told.behind more) = past more

  is_sent : (end_at s p).sending.fin_sent ≡ false → (others : List Duty) → p.agenda ≡ duties.Send (send_duties.DataFin s) ∷ others → Goes
  is_sent none others first = ⊎_elim
      (λ same. on.on (stands.unsent (ap (λ (y : PathState Carried). (end_at s y).sending.fin_sent) same ∙ none)))
      (λ goes. ⊎_elim (λ harmed. on.harmed harmed) (λ c. soon (end_at s p).tcp.send.nxt c) goes)
      (go_on.sent (each_window_has_room start plan turns one p h.before.here h.before.is_open (peer s)) others first)

  -- where all bytes are acknowledged before the turn
  still : size < (end_at s p).tcp.send.una → FinStands start s p w → Goes
  still acked (stands.bytes few) = absurd (omega (arith, acked, few))
  still acked (stands.unsent none) = ⊎_elim (λ same. on.on (stands.unsent (same ∙ none))) (λ next. is_sent none next.0 next.1) next_so
  still acked (stands.heard is) = told_then (end_at s q).tcp.send.nxt (λ more. absurd (omega (arith, more))) (go_on.comes (end_at s q).tcp.send.nxt (p.clock + 400) (told.heard is))
  still acked (stands.comes position c) = told_then position
      (λ more. on.on (stands.all_there (sent_past start plan one s later q h.after.here (h.after.is_open.past s) (h.after.is_open.living s)
      (let low = came in let from = c.bare.from in let at = c.at in omega (arith, acked, low, from, at, more)))))
      (go_on.comes position (p.clock + 400) (told.comes c))
  still acked (stands.all_there all) = on.on (stands.all_there (what_is_there_stays start turns (turn ∷ []) h.mild s all))

  stands_on : FinStands start s p w → Goes
  stands_on x = ⊎_elim
      (λ acked. ⊎_elim (λ before. still before x) (λ few. on.acked few acked) (cases_lt size (end_at s p).tcp.send.una))
      (λ few. on.on (stands.bytes few))
      (cases_lt size (end_at s q).tcp.send.una)

pub fins_stand_on : FinsStandOn
fins_stand_on start plan turns turn one h s x = stands_on start plan one turns turn h s x
