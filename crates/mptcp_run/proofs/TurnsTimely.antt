-- What the turns of a round by threads leave of how many rounds each actor has begun.
use Rattle.std.proofs.Common.{◌≡◌, refl, sym, ◌∙◌, ap, subst, ℕ, zero, suc, ◌+◌, ◌<◌, Some, List, [], ◌∷◌, length, take, arith}
use Rattle.std.specs.List.{slice_get, slice_index_or}
use Rattle.std.proofs.Math.Seq.{take-append_seam}
use Rattle.std.proofs.lemmas.List.{length-append}
use Rattle.std.proofs.lemmas.Option.{same_Some}
use Rattle.actor_desk.specs.declared.ask.Note.{Note}
use Rattle.actor_desk.specs.declared.ask.Reply.{Reply}
use Rattle.path_core.specs.Octets.{octets}
use Rattle.actor_turn.specs.Turns.{Turned, member_after}
use Rattle.world_laws.specs.Actors.{Actor, ActorCrew, member_asks, member_takes}
use Rattle.world_laws.specs.declared.member.Member.TheVariants.{App, Path}
use Rattle.world_laws.specs.Outcomes.{notes_at}
use Rattle.world_laws.specs.Timely.{IsTimelyMember}
use Rattle.world_laws.proofs.Rounds.Frame.{takes_keeps}
use Rattle.world_core.specs.Timely.{IsTimelyCrew}

abbrev Member : Type 0
Member = Actor (List ℕ)

abbrev Crew : Type 0
Crew = ActorCrew (List ℕ)

abbrev TurnOf : Crew → Crew → Type 0
TurnOf c d = Turned (member_asks octets) (member_takes octets) c d

abbrev pub AllTurned : List Crew → List Crew → Type 0
AllTurned crew after = (i : ℕ) (d : Crew) → i < length crew → TurnOf (slice_index_or crew i d) (slice_index_or after i d)

-- ---- one actor

takes_timely : (r : Reply) (m : Member) (n : ℕ) → IsTimelyMember n m → IsTimelyMember (n + 1) (member_takes octets r m)
takes_timely r (App a) n h = tt
takes_timely r (Path p) n h =
    let kept = takes_keeps octets r p in
    record { begun = omega (arith, kept.0, h.begun); over = λ _. omega (arith, kept.0, h.begun) }

timely_after : (notes : List Note) (m : Member) (n k : ℕ) → k ≡ n + length notes → IsTimelyMember n m → IsTimelyMember k (member_after (member_takes octets) m notes)
timely_after [] m n k is h = subst (λ i. IsTimelyMember i m) (omega (arith, is)) h
timely_after (note ∷ notes) m n k is h =
    timely_after notes (member_takes octets note.reply m) (n + 1) k (omega (arith, is)) (takes_timely note.reply m n h)

timely : (c d : Crew) → TurnOf c d → IsTimelyCrew c → IsTimelyCrew d
timely c d t h = record {
  few = t.few h.few;
  timely = subst (IsTimelyMember (length d.list)) (sym t.made.member)
      (timely_after t.notes c.member (length c.list) (length d.list) (ap (λ list. length list) t.made.list ∙ length-append c.list t.notes) h.timely);
}

-- ---- all actors

rest_turned : (c d : Crew) (crew after : List Crew) → AllTurned (c ∷ crew) (d ∷ after) → AllTurned crew after
rest_turned c d crew after turned i x within = turned (suc i) x (omega (arith, within))

pub each_timely : (crew after : List Crew) → length after ≡ length crew → AllTurned crew after → ((i : ℕ) (c : Crew) → slice_get crew i ≡ Some c → IsTimelyCrew c)
    → (i : ℕ) (d : Crew) → slice_get after i ≡ Some d → IsTimelyCrew d
each_timely crew [] many turned h i d at = cc
each_timely [] (x ∷ after) many turned h i d at = absurd (omega (arith, many))
each_timely (c ∷ crew) (x ∷ after) many turned h zero d at =
    subst IsTimelyCrew (same_Some x d at) (timely c x (turned 0 c (omega arith)) (h 0 c refl))
each_timely (c ∷ crew) (x ∷ after) many turned h (suc i) d at =
    each_timely crew after (omega (arith, many)) (rest_turned c x crew after turned) (λ j y there. h (suc j) y there) i d at

-- ---- their lists

-- the notes that each actor had are its first ones
pub first_notes : (crew after : List Crew) → length after ≡ length crew → AllTurned crew after → (i : ℕ)
    → take (length (notes_at i crew)) (notes_at i after) ≡ notes_at i crew
first_notes [] [] many turned i = refl
first_notes [] (x ∷ after) many turned i = absurd (omega (arith, many))
first_notes (c ∷ crew) [] many turned i = absurd (omega (arith, many))
first_notes (c ∷ crew) (x ∷ after) many turned zero =
    let turn = turned 0 c (omega arith) in ap (take (length c.list)) turn.made.list ∙ take-append_seam c.list turn.notes
first_notes (c ∷ crew) (x ∷ after) many turned (suc i) = first_notes crew after (omega (arith, many)) (rest_turned c x crew after turned) i
