-- The answer that an end owes comes with its Data ACK.
use Rattle.std.proofs.Common.{◌≡◌, refl, sym, subst, ap, ◌∙◌, ℕ, ◌-◌, ◌^◌, ◌<◌, ◌≤◌, arith, Bool, true, false, true≢false, Option, None, IfSome, Some}
use Rattle.path_segments.specs.Spelled.{PlainSegment}
use Rattle.sides.specs.declared.side.Side.{Side}
use Rattle.link_model.specs.Steps.{segments_sent}
use Rattle.reassembly_book.specs.Steps.{next_wanted}
use Rattle.subflow_tcp.specs.States.{is_dead}
use Rattle.actor_desk.specs.Desk.{SixBooks, reassembly_of}
use Rattle.path_core.specs.Codec.{Codec}
use Rattle.path_core.specs.Looking.{first_sends, segment_sent}
use Rattle.path_core.specs.OptionsOut.{ack_said}
use Rattle.path_core.specs.State.{PathState, end_at}
use Rattle.world_laws.specs.declared.member.Member.TheVariants.{App, Path}
use Rattle.world_laws.specs.Actors.{Actor, ActorCrew}
use Rattle.world_laws.specs.Members.{HoldsOfKind}
use Rattle.world_laws.specs.Openings.{opened_world}
use Rattle.world_laws.specs.Worlds.{after_turn, world_run}
use Rattle.whole_paths.specs.Answered.{AcksGoFirst, IsBareAck}
use Rattle.whole_paths.specs.Answered.{IsBareAck as bare}
use Rattle.whole_paths.specs.DataAcksNow.{KnowsWhatCame}
use Rattle.whole_paths.specs.DataAcksOwed.{IsDataAckFrom, KnowsWhereItSends, WantsWhereItSends, DataAcksGoOn, WhatIsOwedHasADataAck}
use Rattle.whole_paths.specs.Owed.{IsAnswered, IsAnsweredSo, AnswerGoesOn, AnswerComesSo}
use Rattle.whole_paths.specs.Owed.{AnswerGoesOn as goes}
use Rattle.whole_paths.proofs.Acking.{same_actor}
use Rattle.whole_paths.proofs.DataAcks.{ack_has}
use Rattle.whole_paths.proofs.Owing.{copies_are_answered}
use Rattle.whole_paths.proofs.Paying.{AnswersComeSo, GoesSo, TurnedTo, answers_come_so, turned_to}
use Rattle.whole_paths.proofs.Saying.{ToSend}
use Rattle.whole_paths.proofs.Waiting.{gone_stays}
use Rattle.whole_paths.proofs.SentSoon.{what_is_sent_comes_soon}

module _ {C : Type 0} where
  -- a bare acknowledgement at SND.NXT
  abbrev pub bare_data_ack : (s : Side) (edge last place : ℕ) (p : PathState C) (x : PlainSegment) → (end_at s p).modes.clear ≡ true → (end_at s p).modes.identity ≡ false → edge ≤ (end_at s p).tcp.send.nxt → (end_at s p).tcp.send.nxt ≤ last
      → (end_at s p).receiving.next < 2 ^ 62 → x ≡ ack_said p.profile s (end_at s p).tcp.send.nxt None (end_at s p) → place ≤ (end_at s p).receiving.next → IsDataAckFrom edge last place x
  bare_data_ack s edge last place p x clear mapped low high fits is enough = let has = ack_has p.profile s (end_at s p) clear mapped None in record {
    from = (let at = ap (λ (x : PlainSegment). x.position) is in omega (arith, at, low));
    up_to = (let at = ap (λ (x : PlainSegment). x.position) is in omega (arith, at, high));
    syn = ap (λ (x : PlainSegment). x.syn) is;
    fin = ap (λ (x : PlainSegment). x.fin) is;
    payload = ap (λ (x : PlainSegment). x.payload) is;
    next = (end_at s p).receiving.next;
    mapping = has.mapping;
    others = has.others;
    options = ap (λ (x : PlainSegment). x.options) is ∙ has.is;
    enough = enough;
    low = fits;
  }

  -- what goes while an acknowledgement is owed
  pub data_ack_goes : (s : Side) (edge last place : ℕ) (p : PathState C) → AcksGoFirst p → is_dead (end_at s p).tcp.state ≡ false
      → (end_at s p).modes.clear ≡ true → (end_at s p).modes.identity ≡ false → edge ≤ (end_at s p).tcp.send.nxt → (end_at s p).tcp.send.nxt ≤ last → (end_at s p).receiving.next < 2 ^ 62 → KnowsWhereItSends s place p → GoesSo (IsDataAckFrom edge last place) s p
  data_ack_goes s edge last place p first living clear mapped low high fits knows t sends own due unreset =
      by (subst (λ (o : Option ToSend). IfSome o (λ t. t.from ≡ s → IsBareAck p.profile s (end_at s p) (segment_sent p t))) sends (first s living due) own)
    where
      by : IsBareAck p.profile s (end_at s p) (segment_sent p t) → IsDataAckFrom edge last place (segment_sent p t)
      by (bare.acks is) = bare_data_ack s edge last place p (segment_sent p t) clear mapped low high fits is
          (subst (λ (o : Option ToSend). IfSome o (λ t. t.from ≡ s → is_dead (end_at s p).tcp.state ≡ false → (segment_sent p t).rst ≡ false → place ≤ (end_at s p).receiving.next)) sends knows own living unreset)
      by (bare.resets is) = absurd (true≢false (sym is ∙ unreset))

  -- an end that is up to date knows what its book wants
  pub wants_known : (six : SixBooks) (s : Side) (place : ℕ) (p : PathState C) → KnowsWhatCame six p → WantsWhereItSends six s place p → KnowsWhereItSends s place p
  wants_known six s place p knows = by (first_sends p.agenda p) knows.sends
    where
      by : (o : Option ToSend) → IfSome o (λ t. is_dead (end_at t.from p).tcp.state ≡ false → (segment_sent p t).rst ≡ false → (end_at t.from p).receiving.next ≡ next_wanted (reassembly_of t.from six))
          → IfSome o (λ t. t.from ≡ s → (segment_sent p t).rst ≡ false → place ≤ next_wanted (reassembly_of s six))
          → IfSome o (λ t. t.from ≡ s → is_dead (end_at s p).tcp.state ≡ false → (segment_sent p t).rst ≡ false → place ≤ (end_at s p).receiving.next)
      by None sends wants = tt
      by (Some t) sends wants = λ own living unreset.
          (let now = subst (λ u. is_dead (end_at u p).tcp.state ≡ false → (segment_sent p t).rst ≡ false → (end_at u p).receiving.next ≡ next_wanted (reassembly_of u six)) own sends living unreset in
          let low = wants own unreset in omega (arith, low, now))

  data_acks_go : (k : Codec C) (m n : Actor C) → TurnedTo m n → ((Was : PlainSegment → Type 0) → AnswersComeSo Was k m n) → HoldsOfKind (λ app. Unit {0}) AcksGoFirst m
      → DataAcksGoOn k m n
  data_acks_go k (App a) (App b) turned answers first = tt
  data_acks_go k (Path p) (Path q) turned answers first = λ s position by_then edge last place few clear mapped low high fits wanted h so.
      by s position by_then edge last place few clear mapped low high fits wanted h so (is_dead (end_at s p).tcp.state) refl
    where
      by : (s : Side) (position by_then edge last place : ℕ) → segments_sent s p.link < 2 ^ 64 - 1 → (end_at s p).modes.clear ≡ true → (end_at s p).modes.identity ≡ false → edge ≤ (end_at s p).tcp.send.nxt → (end_at s p).tcp.send.nxt ≤ last
          → (end_at s p).receiving.next < 2 ^ 62 → KnowsWhereItSends s place p → (h : IsAnswered k s position by_then p) → IsAnsweredSo (IsDataAckFrom edge last place) h
          → (b : Bool) → is_dead (end_at s p).tcp.state ≡ b → (go : AnswerGoesOn k s position by_then p q) × AnswerComesSo (IsDataAckFrom edge last place) go
      by s position by_then edge last place few clear mapped low high fits wanted h so true dead = (goes.gone (gone_stays (end_at s p) (end_at s q) (turned.far s) dead), tt)
      by s position by_then edge last place few clear mapped low high fits wanted h so false living =
          answers (IsDataAckFrom edge last place) s position by_then few (data_ack_goes s edge last place p first living clear mapped low high fits wanted) h so
  data_acks_go k (App a) (Path q) turned answers first = absurd turned
  data_acks_go k (Path p) (App b) turned answers first = absurd turned

  pub what_is_owed_has_a_data_ack : (k : Codec C) → WhatIsOwedHasADataAck k
  what_is_owed_has_a_data_ack k start turns turn actor c at =
      let w = world_run k turns (opened_world start) in
      let answered = copies_are_answered k start turns in
      let turned = turned_to k w turn actor c at in
      let d : ActorCrew C = turned.0 in (
        d,
        turned.1,
        data_acks_go k c.member d.member turned.2
            (λ Was. same_actor (λ x. AnswersComeSo Was k c.member x.member) (after_turn k turn w) actor d turned.1 (answers_come_so Was k w answered ((what_is_sent_comes_soon k).numbered start turns) turn actor c at))
            (answered.first actor c at),
      )
