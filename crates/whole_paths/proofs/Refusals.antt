-- What a path asks of a send book, and what its end is told where it is granted nothing: whether the peer's window is shut, and where the
-- stream ends.
use Rattle.std.proofs.Common.{◌≡◌, refl, subst, ap, ◌∙◌, ℕ, ◌+◌, Bool, false, Option, Some, None, List, ◌∷◌, length}
use Rattle.sides.specs.declared.side.Side.{Side}
use Rattle.sides.specs.declared.side.Side.TheVariants.{A, B}
use Rattle.send_book.specs.declared.call.SendCall.TheVariants as calls
use Rattle.send_book.specs.declared.call.SendReply.TheVariants as send_replies
use Rattle.send_book.specs.declared.call.Span.{Span}
use Rattle.send_book.specs.declared.call.Why.{Why}
use Rattle.actor_desk.specs.declared.ask.Ask.{Ask}
use Rattle.actor_desk.specs.declared.ask.Ask.TheVariants as asks
use Rattle.actor_desk.specs.declared.ask.Reply.{Reply}
use Rattle.actor_desk.specs.declared.ask.Reply.TheVariants as replies
use Rattle.path_agenda.specs.declared.duty.Duty.{Duty}
use Rattle.path_agenda.specs.declared.duty.Duty.TheVariants as duties
use Rattle.path_agenda.specs.declared.duty.AskDuty.TheVariants as ask_duties
use Rattle.path_agenda.specs.declared.duty.SendDuty.TheVariants as send_duties
use Rattle.path_agenda.specs.declared.duty.SilentDuty.TheVariants as silent_duties
use Rattle.path_agenda.specs.declared.duty.StepDuty.TheVariants as step_duties
use Rattle.subflow_send.specs.Records.{Record}
use Rattle.path_core.specs.Choices.{told_last}
use Rattle.path_core.specs.Codec.{Codec}
use Rattle.path_core.specs.DataFin.{is_shut}
use Rattle.path_core.specs.Duties.{answered, ask_for, passed}
use Rattle.path_core.specs.Emission.{Grant, answered_data, answered_grant, data_ask, first_unsent, grant_in, payload_size}
use Rattle.path_core.specs.End.{PathEnd}
use Rattle.path_core.specs.State.{PathState, end_at, path_of, with_agenda}
use Rattle.path_core.specs.Steps.{answers, takes}
use Rattle.world_laws.specs.RoundEnd.{asks_grant}
use Rattle.world_laws.specs.Writes.{EndView, EndWrites, Only, OnlyAt, Writes, side_of, writes}
use Rattle.world_laws.proofs.Rounds.GrantAtOneDuty.{MayNotAsk, ask_isn't, asks_none}
use Rattle.world_laws.proofs.Writes.Paths.{passes_no_more, writes_no_more}
use Rattle.world_laws.proofs.Writes.Steps.{Lasts, both_ends, settled_lasts, unwritten}

-- ---- an end

-- the end is told nothing of the window or of the stream's end
pub record TellsNothing (e f : PathEnd) : Type 0 where
  pub shut : f.sending.shut ≡ e.sending.shut
  pub known : f.sending.known_end ≡ e.sending.known_end

-- the end is told why nothing is granted, and perhaps where the stream ends
pub record TellsWhy (why : Why) (told : Option ℕ) (e f : PathEnd) : Type 0 where
  pub shut : f.sending.shut ≡ is_shut why
  pub known : f.sending.known_end ≡ told_last told e.sending.known_end

told_then : (e f g : PathEnd) → TellsNothing e f → TellsNothing f g → TellsNothing e g
told_then e f g x y = record { shut = y.shut ∙ x.shut; known = y.known ∙ x.known }

abbrev Untold : EndWrites → Type 0
Untold v = (v.shut ≡ false) × (v.known_end ≡ false)

only_told : (v : EndWrites) (e f : PathEnd) → Untold v → Only v e f → TellsNothing e f
only_told v e f none x = record {
  shut = unwritten v.shut e.sending.shut f.sending.shut none.0 (ap (λ (z : EndView). z.shut) x.same);
  known = unwritten v.known_end e.sending.known_end f.sending.known_end none.1 (ap (λ (z : EndView). z.known_end) x.same);
}

-- ---- a path

module _ {C : Type 0} where
  abbrev pub NothingTold : PathState C → PathState C → Type 0
  NothingTold p q = (s : Side) → TellsNothing (end_at s p) (end_at s q)

  told_both : (s : Side) (w : Writes) (p q : PathState C) → Untold w.own → Untold w.other → OnlyAt s w p q → TellsNothing p.a q.a × TellsNothing p.b q.b
  told_both s w p q own theirs x = both_ends TellsNothing s w p q (λ e f y. only_told w.own e f own y) (λ e f y. only_told w.other e f theirs y) x

  pub told_by : (s : Side) (w : Writes) (p q : PathState C) → Untold w.own → Untold w.other → OnlyAt s w p q → NothingTold p q
  told_by s w p q own theirs x A = (told_both s w p q own theirs x).0
  told_by s w p q own theirs x B = (told_both s w p q own theirs x).1

  passed_told : (d : Duty) (p : PathState C) → NothingTold p (passed d p)
  passed_told (duties.Step (step_duties.Data t)) p s = record { shut = refl; known = refl }
  passed_told (duties.Ask ask_duties.JoinAgain) p s = record { shut = refl; known = refl }
  passed_told (duties.Send (send_duties.Update t)) p s = record { shut = refl; known = refl }
  passed_told (duties.Silent (silent_duties.Timer t)) p s =
      told_by t (writes (duties.Silent (silent_duties.Timer t))) p _ (refl, refl) (refl, refl) (passes_no_more (duties.Silent (silent_duties.Timer t)) p) s
  passed_told d p s = told_by (side_of d) (writes d) p (passed d p) (refl, refl) (refl, refl) (passes_no_more d p) s

  pub told_last_of_all : Lasts (λ (p q : PathState C). NothingTold p q)
  told_last_of_all = record {
    agenda = λ ds p s. by_side s ds p;
    chains = λ p q r x y s. told_then (end_at s p) (end_at s q) (end_at s r) (x s) (y s);
    passes = λ d p. passed_told d p;
  }
    where
      by_side : (s : Side) (ds : List Duty) (p : PathState C) → TellsNothing (end_at s p) (end_at s (with_agenda ds p))
      by_side = elim [ A ↦ λ ds p. record { shut = refl; known = refl } | B ↦ λ ds p. record { shut = refl; known = refl } ]

  -- An ask of no bytes of the side tells it nothing. A grant that is refused says why, and where the stream ends; by one that isn't SND.NXT rises.
  pub data AtGrant (s : Side) (p : PathState C) (x : Ask) (after : Reply → PathState C) : Type 0 where
    asks_none_of_it : asks_grant s x ≡ false → ((r : Reply) → TellsNothing (end_at s p) (end_at s (after r))) → AtGrant s p x after
    asks_bytes : (max : ℕ) (stands : Bool) → x ≡ asks.Send s (calls.Grant (path_of p) max stands)
        → ((why : Why) (known : Option ℕ) → TellsWhy why known (end_at s p) (end_at s (after (replies.Send (send_replies.NoGrant why known)))))
        → max ≡ payload_size p.profile
        → ((span : Span) (piece : List ℕ) → (end_at s (after (replies.Send (send_replies.Granted span piece)))).tcp.send.nxt ≡ (end_at s p).tcp.send.nxt + length piece) → AtGrant s p x after

  other_b : (o : Option Grant) (r : Reply) (p : PathState C) → TellsNothing p.b (end_at B (answered_grant A o r p))
  other_b None r p = record { shut = refl; known = refl }
  other_b (Some given) r p = record { shut = refl; known = refl }

  other_a : (o : Option Grant) (r : Reply) (p : PathState C) → TellsNothing p.a (end_at A (answered_grant B o r p))
  other_a None r p = record { shut = refl; known = refl }
  other_a (Some given) r p = record { shut = refl; known = refl }

  data_grant : (k : Codec C) (p : PathState C) (t s : Side) (o : Option Record) → AtGrant s p (data_ask k t o p) (λ r. answered_data k t o r p)
  data_grant k p A A (Some unsent) = asks_none_of_it refl (λ r. record { shut = refl; known = refl })
  data_grant k p A B (Some unsent) = asks_none_of_it refl (λ r. record { shut = refl; known = refl })
  data_grant k p B A (Some unsent) = asks_none_of_it refl (λ r. record { shut = refl; known = refl })
  data_grant k p B B (Some unsent) = asks_none_of_it refl (λ r. record { shut = refl; known = refl })
  data_grant k p A A None = asks_bytes _ _ refl (λ why known. record { shut = refl; known = refl }) refl (λ span piece. refl)
  data_grant k p B B None = asks_bytes _ _ refl (λ why known. record { shut = refl; known = refl }) refl (λ span piece. refl)
  data_grant k p A B None = asks_none_of_it refl (λ r. other_b (grant_in r) r p)
  data_grant k p B A None = asks_none_of_it refl (λ r. other_a (grant_in r) r p)

  module _ (k : Codec C) (p : PathState C) where
    quiet_grant : (d : Duty) → MayNotAsk d → Untold (writes d).own → Untold (writes d).other → (s : Side) → AtGrant s p (ask_for k d p) (λ r. answered k d r p)
    quiet_grant d other own theirs s = asks_none_of_it (ask_isn't s (ask_for k d p) (asks_none k p d other)) (λ r. told_by (side_of d) (writes d) p (answered k d r p) own theirs (writes_no_more k d r p) s)

    pub at_grant : (d : Duty) (s : Side) → AtGrant s p (ask_for k d p) (λ r. answered k d r p)
    at_grant (duties.Step (step_duties.Data t)) s = data_grant k p t s (first_unsent (end_at t p))
    at_grant (duties.Ask ask_duties.JoinAgain) s = quiet_grant (duties.Ask ask_duties.JoinAgain) tt (refl, refl) (refl, refl) s
    at_grant (duties.Send (send_duties.Update t)) s = quiet_grant (duties.Send (send_duties.Update t)) tt (refl, refl) (refl, refl) s
    at_grant (duties.Silent (silent_duties.Timer t)) s = quiet_grant (duties.Silent (silent_duties.Timer t)) tt (refl, refl) (refl, refl) s
    at_grant d s = quiet_grant d tt (refl, refl) (refl, refl) s

    -- what a path takes is what its first duty makes of it, and what is passed then
    pub takes_told : (r : Reply) (d : Duty) (ds : List Duty) → p.agenda ≡ d ∷ ds → (s : Side) → TellsNothing (end_at s (answered k d r p)) (end_at s (takes k r p))
    takes_told r d ds is s =
        let q : PathState C = answers k p.agenda r p in
        subst (λ (x : PathState C). TellsNothing (end_at s x) (end_at s (takes k r p))) (ap (λ ds. answers k ds r p) is)
        (settled_lasts (λ p q. NothingTold p q) told_last_of_all q.agenda q s)
