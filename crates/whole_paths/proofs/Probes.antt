-- The exchange of a window goes on by each turn, as that of each ask.
use Rattle.std.proofs.Common.{◌≡◌, sym, subst, ap, ◌∙◌, inl, inr, ⊎_elim, ℕ, ◌+◌, ◌-◌, ◌*◌, ◌/◌, ◌^◌, ◌<◌, ◌≤◌, arith, Bool, true, false, true≢false, Option, Some, IfSome, List, [], le_refl}
use Rattle.std.specs.List.{slice_get}
use Rattle.path_segments.specs.Laws.{meant}
use Rattle.path_segments.specs.Spelled.{PlainSegment}
use Rattle.sides.specs.declared.side.Side.{Side}
use Rattle.sides.specs.Side.{peer}
use Rattle.link_model.specs.Steps.{segments_sent}
use Rattle.subflow_tcp.specs.States.{is_dead}
use Rattle.actor_desk.specs.Books.{StampedBooks, books_in}
use Rattle.actor_desk.specs.declared.ask.Note.{Note}
use Rattle.actor_desk.specs.Desk.{SixBooks, send_of}
use Rattle.path_agenda.specs.declared.heard.Heard.TheVariants as says
use Rattle.path_core.specs.End.{PathEnd}
use Rattle.path_core.specs.Looking.{segment_sent}
use Rattle.path_core.specs.State.{PathState, end_at}
use Rattle.path_core.specs.Values.{Carried, values}
use Rattle.world_laws.specs.declared.member.Member.TheVariants.{App, Path}
use Rattle.world_laws.specs.Actors.{Actor, ActorCrew}
use Rattle.world_laws.specs.Openings.{Start, opened_world}
use Rattle.world_laws.specs.Promises.{HasRoom, NumbersFit}
use Rattle.world_laws.specs.Worlds.{Turn, after_turn, world_run}
use Rattle.whole_paths.specs.Answered.{AcksGoFirst, HasAnswered, IsBareAck}
use Rattle.whole_paths.specs.Answered.{IsBareAck as bare}
use Rattle.whole_paths.specs.Between.{PathsBetween}
use Rattle.whole_paths.specs.DataAcksExchanged.{IsAskedPlainly}
use Rattle.whole_paths.specs.DataAcksExchanged.{IsAwry as awry}
use Rattle.whole_paths.specs.DataAcksHeard.{IsToHear}
use Rattle.whole_paths.specs.Exchanges.{LetsThrough}
use Rattle.whole_paths.specs.Exchanges.{IsHeldUp as held}
use Rattle.whole_paths.specs.InTime.{ComesFrom}
use Rattle.whole_paths.specs.Offered.{Offers, OffersWhereItSends}
use Rattle.whole_paths.specs.Probes.{AskTurns, EachProbeIsAnswered, IsAskedFor, IsProbed, ProbesAreDue, ProbesBegin, ProbesEnd, ProbesGoOn, TellsWindow}
use Rattle.whole_paths.specs.Probes.IsAskedFor.{asks, answered, heard}
use Rattle.whole_paths.specs.Probes.{AskTurns as goes}
use Rattle.whole_paths.specs.WindowsHeard.{HearsWindows, IsOpenTo, StaysOpenTo}
use Rattle.whole_paths.specs.WindowsHeard.{IsOpenTo as opens}
use Rattle.whole_paths.specs.WindowsHeard.{StaysOpenTo as stay}
use Rattle.whole_paths.proofs.DataAcksAsked.{AskedAtTheEnd, AsksComeSo, asked_at_the_end}
use Rattle.whole_paths.proofs.Acking.{HandsComeSo}
use Rattle.whole_paths.proofs.DataAcksExchanged.{IsTurn, PeerSays, SaysDataAck, TakesAnswer, TurnFacts, answered_on, asked_begins, asked_due, asked_in_time, asks_on, data_ack_says, known_of, less_place, turn_facts, turn_of}
use Rattle.whole_paths.proofs.DataAcksOwed.{bare_data_ack}
use Rattle.whole_paths.proofs.Exchanges.{Known, OfPaths, answer_later}
use Rattle.whole_paths.proofs.InTime.{nothing_is_overdue}
use Rattle.whole_paths.proofs.Owing.{copies_are_answered}
use Rattle.whole_paths.proofs.Paying.{AnswersComeSo, GoesSo}
use Rattle.whole_paths.proofs.Saying.{ToSend}
use Rattle.whole_paths.proofs.WindowsHeard.{each_window_counts}

-- ---- what the peer says

-- the octets tell a window in steps of 32
pub in_steps : (at next window : ℕ) → at + 31 ≤ next + window → at ≤ next + 32 * (window / 32)
in_steps at next window low = (let near : window ≤ 32 * (window / 32) + 31 = omega arith in omega (arith, low, near))

-- what goes from an end while it owes an acknowledgement
window_goes : (s : Side) (edge last at : ℕ) (p : PathState Carried) → AcksGoFirst p → is_dead (end_at s p).tcp.state ≡ false → (end_at s p).modes.clear ≡ true → (end_at s p).modes.identity ≡ false
    → edge ≤ (end_at s p).tcp.send.nxt → (end_at s p).tcp.send.nxt ≤ last → (end_at s p).receiving.next < 2 ^ 62 → OffersWhereItSends s (at + 31) p → GoesSo (TellsWindow at edge last) s p
window_goes s edge last at p first living clear mapped low high fits offers t sends own due unreset =
    by (subst (λ (o : Option ToSend). IfSome o (λ t. t.from ≡ s → IsBareAck p.profile s (end_at s p) (segment_sent p t))) sends (first s living due) own)
  where
    room : Offers (at + 31) (end_at s p)
    room = subst (λ (o : Option ToSend). IfSome o (λ t. t.from ≡ s → Offers (at + 31) (end_at s p))) sends offers own

    by : IsBareAck p.profile s (end_at s p) (segment_sent p t) → TellsWindow at edge last (segment_sent p t)
    by (bare.acks is) = record {
      ack = bare_data_ack s edge last 0 p (segment_sent p t) clear mapped low high fits is (omega arith);
      opens = (let told : (meant (segment_sent p t)).window ≡ 32 * ((end_at s p).receiving.window / 32) = ap (λ (x : PlainSegment). (meant x).window) is in
          let reached = in_steps at (end_at s p).receiving.next (end_at s p).receiving.window room in omega (arith, told, reached));
    }
    by (bare.resets is) = absurd (true≢false (sym is ∙ unreset))

-- ---- a turn

module _ (six after : SixBooks) (steps : List Note) (p q : PathState Carried) (known : Known p) (faithful : LetsThrough p) (few : (t : Side) → segments_sent t p.link < 2 ^ 64 - 1) (turn : IsTurn p q)
    (hears : HearsWindows values six after steps p q) (s : Side) (at until : ℕ) where
  abbrev OpenThen : PathState Carried → Type 0
  OpenThen = IsOpenTo after s at

  its_ack : SaysDataAck (TellsWindow at)
  its_ack = record { so = λ edge last x tells. tells.ack; up = λ edge last more x low tells. record { ack = less_place edge last more 0 x low tells.ack; opens = tells.opens } }

  abbrev Goes : Type 0
  Goes = AskTurns (IsAskedFor (TellsWindow at) OpenThen s until q) s until steps p q

  stays_goes : StaysOpenTo after s at steps q → Goes
  stays_goes (stay.on h) = goes.on (heard h)
  stays_goes (stay.gone dead) = goes.held_up (held.gone s (inr dead))
  stays_goes (stay.reset h) = goes.awry (awry.reset h)
  stays_goes (stay.plain is) = goes.awry (awry.plain s (inr is))
  stays_goes (stay.infinite h) = goes.awry (awry.infinite h)
  stays_goes (stay.refused is) = goes.awry (awry.refused is)

  takes_window : TakesAnswer steps p q known faithful few turn s until (TellsWindow at) OpenThen its_ack
  takes_window x so taken to mapped =
      ⊎_elim
      (λ same. inl same)
      (λ stays. inr (stays_goes (subst (λ t. StaysOpenTo after t at steps q) to stays)))
      (hears.tells taken.brings 1 so.ack.next (meant x).window at so.opens (data_ack_says p x so.ack.next so.ack.mapping so.ack.others so.ack.options so.ack.low taken s to mapped))

  peer_says : OffersWhereItSends (peer s) (at + 31) p → PeerSays steps p q known faithful few turn s until (TellsWindow at) OpenThen its_ack
  peer_says offers living clear mapped = window_goes (peer s) (end_at s p).tcp.recv.edge (end_at (peer s) p).tcp.send.nxt at p turn.first living clear mapped (known.was_sent s) (le_refl (end_at (peer s) p).tcp.send.nxt)
      (let low : (end_at (peer s) p).receiving.next < 2 ^ 31 = (known.tells (peer s)).window.next in omega (arith, low)) offers

  probe_goes : AsksComeSo (IsAskedPlainly (end_at s p).tcp.send.una) values (Path p) (Path q) → AnswersComeSo (TellsWindow at (end_at s p).tcp.recv.edge (end_at (peer s) p).tcp.send.nxt) values (Path p) (Path q)
      → HandsComeSo (TellsWindow at (end_at s p).tcp.recv.edge (end_at (peer s) p).tcp.send.nxt) values (Path p) (Path q) → OffersWhereItSends (peer s) (at + 31) p → IsProbed six s at until p → Goes
  probe_goes come answers hands offers (asks arrival soon h so) = asks_on steps p q known faithful few turn s until (TellsWindow at) OpenThen its_ack come hands takes_window arrival soon h so
  probe_goes come answers hands offers (answered high h so) = answered_on steps p q known faithful few turn s until (TellsWindow at) OpenThen its_ack answers (peer_says offers) takes_window high h so
  probe_goes come answers hands offers (heard h) = stays_goes (hears.stays s at h)

-- by a later tick too
pub later_so : (Says : ℕ → ℕ → PlainSegment → Type 0) (Hears : PathState Carried → Type 0) (s : Side) (before later : ℕ) (p : PathState Carried) → before ≤ later → IsAskedFor Says Hears s before p
    → IsAskedFor Says Hears s later p
later_so Says Hears s before later p low (asks arrival soon h so) = asks arrival (omega (arith, soon, low)) h so
later_so Says Hears s before later p low (answered high h so) =
    let next = answer_later (Says (end_at s p).tcp.recv.edge (end_at (peer s) p).tcp.send.nxt) (peer s) 1 1 before later p (le_refl 1) low h so in answered high next.0 next.1
later_so Says Hears s before later p low (heard h) = heard h

-- ---- the world

probes_go : (books after : StampedBooks) (steps : List Note) (m n : Actor Carried) → TurnFacts m n → PathsBetween (HearsWindows values) books after steps m n → PathsBetween ProbesGoOn books after steps m n
probes_go books after steps (App a) (App b) facts hears = tt
probes_go books after steps (Path p) (Path q) facts hears = λ faithful s at until few offers h.
    probe_goes (books_in books) (books_in after) steps p q (known_of p (Path q) facts) faithful few (turn_of p q facts) hears s at until
    (facts.come (IsAskedPlainly (end_at s p).tcp.send.una)) (facts.answers (TellsWindow at (end_at s p).tcp.recv.edge (end_at (peer s) p).tcp.send.nxt)) (facts.hands (TellsWindow at (end_at s p).tcp.recv.edge (end_at (peer s) p).tcp.send.nxt)) offers h
probes_go books after steps (App a) (Path q) facts hears = absurd hears
probes_go books after steps (Path p) (App b) facts hears = absurd hears

probes_by_turns : (start : Start) (turns : List Turn) → HasRoom start → NumbersFit start → let w = world_run values turns (opened_world start) in
    (turn : Turn) (actor : ℕ) (c : ActorCrew Carried) → slice_get w.crew actor ≡ Some c → let v = after_turn values turn w in
    (d : ActorCrew Carried) × (slice_get v.crew actor ≡ Some d) × PathsBetween ProbesGoOn w.books v.books d.list c.member d.member
probes_by_turns start turns size fit turn actor c at =
    let w = world_run values turns (opened_world start) in
    let hears = each_window_counts values w turn actor c at in
    let d : ActorCrew Carried = hears.0 in
    (d, hears.1, probes_go w.books (after_turn values turn w).books d.list c.member d.member (turn_facts start turns size fit turn actor c d at hears.1) hears.2)

probes_begin : (six : SixBooks) (m : Actor Carried) → ((Was : PathEnd → Bool → Bool → Type 0) → OfPaths (AskedAtTheEnd Was values) m) → OfPaths (ProbesBegin six) m
probes_begin six (App a) asked = tt
probes_begin six (Path p) asked = λ over s living none out at. asked_begins p asked (TellsWindow at) (IsOpenTo six s at) over s living none out

probes_end : (six : SixBooks) (m : Actor Carried) → OfPaths (λ p. ComesFrom p.clock p) m → OfPaths (ProbesEnd six) m
probes_end six (App a) past = tt
probes_end six (Path p) past = λ s at until h late. asked_in_time p past (TellsWindow at) (IsOpenTo six s at) s until h late

-- where the turn is over nothing is to be heard
pub open_over : (six : SixBooks) (s : Side) (at : ℕ) (p : PathState Carried) → p.agenda ≡ [] → IsOpenTo six s at p → at ≤ (send_of s six).edge
open_over six s at p over (opens.counts h) = h
open_over six s at p over (opens.told next window low hear) = absurd (subst (λ ds. IsToHear s (says.DataAck next window) (end_at s p).treated.items ds) over hear)

probes_due : (six : SixBooks) (m : Actor Carried) → OfPaths (λ p. p.agenda ≡ [] → ComesFrom p.until p) m → OfPaths HasAnswered m → OfPaths (ProbesAreDue six) m
probes_due six (App a) past answers = tt
probes_due six (Path p) past answers = λ over s living at until h late. open_over six s at p over (asked_due p (past over) answers over s living (TellsWindow at) (IsOpenTo six s at) until h late)

pub each_probe_is_answered : EachProbeIsAnswered
each_probe_is_answered = record {
  in_time = λ start turns. let w = world_run values turns (opened_world start) in record {
    begin = λ actor c at. probes_begin (books_in w.books) c.member (λ Was. asked_at_the_end Was values start turns actor c at);
    end = λ actor c at. probes_end (books_in w.books) c.member ((nothing_is_overdue values start turns).each actor c at);
    due = λ actor c at. probes_due (books_in w.books) c.member ((nothing_is_overdue values start turns).over actor c at) ((copies_are_answered values start turns).each actor c at);
  };
  goes_on = probes_by_turns;
}
