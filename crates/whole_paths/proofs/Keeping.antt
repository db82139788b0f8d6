-- What waits to be acknowledged is kept until it is.
use Rattle.std.proofs.Common.{◌≡◌, refl, sym, subst, ◌∙◌, inl, inr, ⊎_elim, ℕ, ◌+◌, ◌<◌, ◌≤◌, max, ◌&&◌, ◌==◌, nat_lt, nat_le, arith, Bool, true, false, if◌then◌else◌, List, [], ◌∷◌, ◌++◌, map, filter, le_refl}
use Rattle.std.proofs.lemmas.Bool.{and_parts, ltb-true, ltb-false, leb-true}
use Rattle.sides.specs.declared.side.Side.{Side}
use Rattle.sides.specs.declared.side.Side.TheVariants.{A, B}
use Rattle.subflow_send.specs.declared.record.AckKind.TheVariants.{New, Duplicate, Old, Future}
use Rattle.subflow_send.specs.Records.{Record, SendState, end_of}
use Rattle.subflow_send.specs.Sendings.{sent_again}
use Rattle.subflow_send.specs.Rules.{ack_kind, sample_of, uncovered, after_acknowledge, is_unsent, is_fin, first_sent, first_unsent_sent, fin_sent, unsent_again, expired_records, after_resent}
use Rattle.subflow_tcp.specs.declared.segments.Hint.{Hint}
use Rattle.subflow_tcp.specs.declared.segments.Occasion.{Occasion}
use Rattle.subflow_tcp.specs.declared.segments.Occasion.TheVariants as to_send
use Rattle.subflow_tcp.specs.declared.verdicts.Meaning.{Meaning}
use Rattle.subflow_tcp.specs.declared.verdicts.Meaning.TheVariants as means
use Rattle.subflow_tcp.specs.declared.handshake.State.TheVariants.{Established}
use Rattle.subflow_tcp.specs.Emitting.{after_sending}
use Rattle.subflow_tcp.specs.Expiring.{after_fire, after_expiry, is_sixth}
use Rattle.subflow_tcp.specs.Segments.{Copy}
use Rattle.subflow_tcp.specs.State.{EndState}
use Rattle.subflow_tcp.specs.Taking.{after_death, after_payload, after_ack_kind, after_acknowledgement, is_duplicate, after_duplicate, after_interruption, told_by, after_telling, after_heard_ack, after_established, after_hearing, after_arrival}
use Rattle.actor_desk.specs.declared.ask.Reply.{Reply}
use Rattle.path_agenda.specs.declared.duty.Duty.{Duty}
use Rattle.path_store.specs.declared.granted_piece.GrantedPiece.{GrantedPiece}
use Rattle.path_store.specs.Granted.{is_open}
use Rattle.path_core.specs.Codec.{Codec}
use Rattle.path_core.specs.Duties.{passed, answered}
use Rattle.path_core.specs.End.{PathEnd}
use Rattle.path_core.specs.Sending.{Sending}
use Rattle.path_core.specs.State.{PathState, end_at, with_agenda}
use Rattle.world_laws.specs.declared.member.Member.TheVariants.{App, Path}
use Rattle.world_laws.specs.Actors.{Actor, member_takes, member_next}
use Rattle.world_laws.specs.StampedBooks.{answer_to}
use Rattle.world_laws.proofs.Writes.Steps.{Lasts, takes_lasts, begins_lasts}
use Rattle.whole_paths.specs.EndSteps.{SubflowStep, SubflowSteps, StreamStep, EndStep, PathStep}
use Rattle.whole_paths.specs.EndSteps.SubflowStep.{arrives, holds, owes, keeps, drops, advances, passes, forgets, pushes, finishes, sends, settles, fires, grows, begins, joins, dies}
use Rattle.whole_paths.specs.EndSteps.SubflowSteps.{none, more}
use Rattle.whole_paths.specs.EndSteps.{StreamStep as stream}
use Rattle.whole_paths.specs.Kept.{AreKept, IsSameRecord, KeepsWhatWaits, EndsKeepWhatWaits, WhatWaitsIsKept}
use Rattle.whole_paths.proofs.Duties.{passed_steps, answered_steps}
use Rattle.whole_paths.proofs.Turns.{turns_each}

-- ---- lists

module _ {X : Type 0} (Same : X → X → Type 0) (same : (x : X) → Same x x) where
  pub all_kept : (Gone : X → Type 0) (xs : List X) → AreKept Gone Same xs xs
  all_kept Gone [] = tt
  all_kept Gone (x ∷ xs) = inr (same x, all_kept Gone xs)

  -- one in front is let go
  front : (Gone : X → Type 0) (x : X) (xs ys : List X) → Gone x → AreKept Gone Same xs ys → AreKept Gone Same (x ∷ xs) ys
  front Gone x xs [] gone rest = (gone, rest)
  front Gone x xs (y ∷ ys) gone rest = inl (gone, rest)

  -- more come behind them
  longer : (Gone : X → Type 0) (xs ys : List X) → AreKept Gone Same xs (xs ++ ys)
  longer Gone [] ys = tt
  longer Gone (x ∷ xs) ys = inr (same x, longer Gone xs ys)

  -- each becomes one that is the same
  mapped : (Gone : X → Type 0) (f : X → X) → ((x : X) → Same x (f x)) → (xs : List X) → AreKept Gone Same xs (map f xs)
  mapped Gone f is [] = tt
  mapped Gone f is (x ∷ xs) = inr (is x, mapped Gone f is xs)

  -- those that a test lets through stay
  filtered : (Gone : X → Type 0) (test : X → Bool) → ((x : X) → test x ≡ false → Gone x) → (xs : List X) → AreKept Gone Same xs (filter test xs)
  filtered Gone test gone [] = tt
  filtered Gone test gone (x ∷ xs) = by (test x) refl (filtered Gone test gone xs)
    where
      by : (b : Bool) → test x ≡ b → AreKept Gone Same xs (filter test xs) → AreKept Gone Same (x ∷ xs) (if b then x ∷ filter test xs else filter test xs)
      by true is rest = inr (same x, rest)
      by false is rest = front Gone x xs (filter test xs) (gone x is) rest

  -- one step follows another: what the first lets go is let go, and so is what became one that the second lets go
  module _ (G H K : X → Type 0) (up : (x : X) → G x → K x) (back : (x y : X) → Same x y → H y → K x) (trans : (x y z : X) → Same x y → Same y z → Same x z) where
    pub chain : (xs ys zs : List X) → AreKept G Same xs ys → AreKept H Same ys zs → AreKept K Same xs zs
    chain [] ys zs a b = tt
    chain (x ∷ xs) [] zs a b = front K x xs zs (up x a.0) (chain xs [] zs a.1 b)
    chain (x ∷ xs) (y ∷ ys) [] a b = ⊎_elim
        (λ gone. front K x xs [] (up x gone.0) (chain xs (y ∷ ys) [] gone.1 b))
        (λ kept. (back x y kept.0 b.0, chain xs ys [] kept.1 b.1))
        a
    chain (x ∷ xs) (y ∷ ys) (z ∷ zs) a b = ⊎_elim
        (λ gone. front K x xs (z ∷ zs) (up x gone.0) (chain xs (y ∷ ys) (z ∷ zs) gone.1 b))
        (λ kept. ⊎_elim
        (λ gone. inl (back x y kept.0 gone.0, chain xs ys (z ∷ zs) kept.1 gone.1))
        (λ other. inr (trans x y z kept.0 other.0, chain xs ys zs kept.1 other.1))
        b)
        a

-- ---- records

same_record : (r : Record) → IsSameRecord r r
same_record r = record { pos = refl; kind = refl; piece = refl; mapping = refl }

record_then : (r t u : Record) → IsSameRecord r t → IsSameRecord t u → IsSameRecord r u
record_then r t u x y = record { pos = y.pos ∙ x.pos; kind = y.kind ∙ x.kind; piece = y.piece ∙ x.piece; mapping = y.mapping ∙ x.mapping }

same_span : (r t : Record) (n : ℕ) → IsSameRecord r t → end_of t ≤ n → end_of r ≤ n
same_span r t n x low = rw (sym x.pos, sym x.kind, sym x.piece) low

-- but for those that SND.UNA reaches the end of, as it rises from one position to another
abbrev IsPassed : ℕ → ℕ → Record → Type 0
IsPassed before una r = (before < una) × (end_of r ≤ una)

abbrev Kept : ℕ → ℕ → List Record → List Record → Type 0
Kept before una = AreKept (IsPassed before una) IsSameRecord

record SendKept (v w : SendState) : Type 0 where
  una : v.una ≤ w.una
  records : Kept v.una w.una v.records w.records

all_records : (before una : ℕ) (rs : List Record) → Kept before una rs rs
all_records before una rs = all_kept IsSameRecord same_record (IsPassed before una) rs

-- SND.UNA stays
marked : (v w : SendState) → w.una ≡ v.una → ((before una : ℕ) → Kept before una v.records w.records) → SendKept v w
marked v w una kept = record { una = omega (arith, una); records = kept v.una w.una }

send_stays : (v : SendState) → SendKept v v
send_stays v = marked v v refl (λ before una. all_records before una v.records)

send_then : (v w x : SendState) → SendKept v w → SendKept w x → SendKept v x
send_then v w x first second =
    let low = first.una in let high = second.una in
    record {
      una = omega (arith, low, high);
      records = chain IsSameRecord same_record (IsPassed v.una w.una) (IsPassed w.una x.una) (IsPassed v.una x.una)
          (λ r passed. later r passed.0 passed.1) (λ r t same passed. earlier r t same passed.0 passed.1) record_then v.records w.records x.records
          first.records second.records;
    }
  where
    later : (r : Record) → v.una < w.una → end_of r ≤ w.una → IsPassed v.una x.una r
    later r above end = let high = second.una in (omega (arith, above, high), omega (arith, end, high))

    earlier : (r t : Record) → IsSameRecord r t → w.una < x.una → end_of t ≤ x.una → IsPassed v.una x.una r
    earlier r t same above end = let low = first.una in (omega (arith, low, above), same_span r t x.una same end)

uncovered_kept : (before pos : ℕ) → before < pos → (rs : List Record) → Kept before pos rs (uncovered pos rs)
uncovered_kept before pos above [] = tt
uncovered_kept before pos above (r ∷ rs) = by (nat_le (end_of r) pos) refl (uncovered_kept before pos above rs)
  where
    by : (b : Bool) → nat_le (end_of r) pos ≡ b → Kept before pos rs (uncovered pos rs) → Kept before pos (r ∷ rs) (if b then uncovered pos rs else r ∷ rs)
    by true is rest = front IsSameRecord same_record (IsPassed before pos) r rs (uncovered pos rs) (above, leb-true (end_of r) pos is) rest
    by false is rest = all_records before pos (r ∷ rs)

acknowledged : (pos : ℕ) (v : SendState) → SendKept v (after_acknowledge pos v)
acknowledged pos v = by (nat_lt v.una pos && nat_le pos v.nxt) refl
  where
    by : (b : Bool) → (nat_lt v.una pos && nat_le pos v.nxt) ≡ b → SendKept v (if b then record v { una = pos; records = uncovered pos v.records } else v)
    by true is = let above = ltb-true v.una pos (and_parts (nat_lt v.una pos) (nat_le pos v.nxt) is).0 in record { una = omega (arith, above); records = uncovered_kept v.una pos above v.records }
    by false is = send_stays v

first_kept : (now before una : ℕ) (rs : List Record) → Kept before una rs (first_sent now rs)
first_kept now before una [] = tt
first_kept now before una (r ∷ rs) = inr (record { pos = refl; kind = refl; piece = refl; mapping = refl }, all_records before una rs)

unsent_kept : (now before una : ℕ) (rs : List Record) → Kept before una rs (first_unsent_sent now rs)
unsent_kept now before una [] = tt
unsent_kept now before una (r ∷ rs) = by (is_unsent r) (unsent_kept now before una rs)
  where
    by : (b : Bool) → Kept before una rs (first_unsent_sent now rs) → Kept before una (r ∷ rs) (if b then first_sent now (r ∷ rs) else r ∷ first_unsent_sent now rs)
    by true rest = first_kept now before una (r ∷ rs)
    by false rest = inr (same_record r, rest)

fin_same : (now : ℕ) (r : Record) → IsSameRecord r (fin_sent now r)
fin_same now r = by (is_fin r.kind)
  where
    by : (b : Bool) → IsSameRecord r (if b then record r { sending = sent_again now r.sending } else r)
    by = elim [ true ↦ record { pos = refl; kind = refl; piece = refl; mapping = refl } | false ↦ same_record r ]

expired_kept : (before una : ℕ) (rs : List Record) → Kept before una rs (expired_records rs)
expired_kept before una [] = tt
expired_kept before una (r ∷ rs) =
    inr (
      record { pos = refl; kind = refl; piece = refl; mapping = refl },
      mapped IsSameRecord same_record (IsPassed before una) unsent_again (λ x. record { pos = refl; kind = refl; piece = refl; mapping = refl }) rs,
    )

-- ---- the subflow

sending_kept : (occasion : Occasion) (now : ℕ) (s : EndState) → SendKept s.send (after_sending occasion now s).send
sending_kept to_send.SynAck now s = elim (s.send.una == 0) as (λ b. SendKept s.send (if b then after_resent now s.send else s.send))
    [ true ↦ marked s.send (after_resent now s.send) refl (λ before una. first_kept now before una s.send.records) | false ↦ send_stays s.send ]
sending_kept to_send.First now s = marked s.send _ refl (λ before una. first_kept now before una s.send.records)
sending_kept to_send.Unsent now s = marked s.send _ refl (λ before una. unsent_kept now before una s.send.records)
sending_kept to_send.Fin now s = marked s.send _ refl (λ before una. mapped IsSameRecord same_record (IsPassed before una) (fin_sent now) (fin_same now) s.send.records)
sending_kept _ now s = send_stays s.send

fire_kept : (now : ℕ) (s : EndState) → SendKept s.send (after_fire now s).send
fire_kept now s = elim (is_sixth s) as (λ b. SendKept s.send (if b then after_death true s else after_expiry now s).send)
    [ true ↦ acknowledged s.send.nxt s.send | false ↦ marked s.send _ refl (λ before una. expired_kept before una s.send.records) ]

ack_kept : (pos now : ℕ) (s : EndState) → SendKept s.send (after_acknowledgement pos now s).send
ack_kept pos now s =
    elim (ack_kind pos s.send) as (λ kind. SendKept s.send (after_ack_kind kind (sample_of pos s.send) now (record s { send = after_acknowledge pos s.send })).send)
    [ New octets ↦ acknowledged pos s.send | Duplicate ↦ acknowledged pos s.send | Old ↦ acknowledged pos s.send | Future ↦ acknowledged pos s.send ]

heard_ack_kept : (pos : ℕ) (hint : Hint) (now : ℕ) (c : Copy) (s : EndState) → SendKept s.send (after_heard_ack pos hint now c s).send
heard_ack_kept pos hint now c s =
    elim (is_duplicate (ack_kind pos s.send) (told_by hint c) c acked) as (λ b. SendKept s.send (after_telling (told_by hint c) (if b then after_duplicate acked else after_interruption acked)).send)
    [ true ↦ ack_kept pos now s | false ↦ ack_kept pos now s ]
  where
    acked : EndState
    acked = after_acknowledgement pos now s

arrival_kept : (m : Meaning) (hint : Hint) (now : ℕ) (c : Copy) (s : EndState) → SendKept s.send (after_arrival m hint now c s).send
arrival_kept (means.Accepts pos) hint now c s = ack_kept pos now (record (after_hearing (after_payload 1 hint c s)) { state = Established })
arrival_kept means.Kills hint now c s = acknowledged s.send.nxt s.send
arrival_kept (means.Taken pos acknowledged) hint now c s = heard_ack_kept acknowledged hint now c (after_established (after_hearing (after_payload pos hint c s)))
arrival_kept _ hint now c s = send_stays s.send

step_kept : (now : ℕ) (s t : EndState) → SubflowStep now s t → SendKept s.send t.send
step_kept now s t (arrives m hint c is) = arrival_kept m hint now c s
step_kept now s t (sends occasion) = sending_kept occasion now s
step_kept now s t fires = fire_kept now s
step_kept now s t dies = acknowledged s.send.nxt s.send
step_kept now s t (pushes piece mapping) = marked s.send _ refl (λ before una. longer IsSameRecord same_record (IsPassed before una) s.send.records _)
step_kept now s t finishes = marked s.send _ refl (λ before una. longer IsSameRecord same_record (IsPassed before una) s.send.records _)
step_kept now s t (holds pos octets) = send_stays s.send
step_kept now s t owes = send_stays s.send
step_kept now s t keeps = send_stays s.send
step_kept now s t drops = send_stays s.send
step_kept now s t (advances count) = send_stays s.send
step_kept now s t (passes next) = send_stays s.send
step_kept now s t (forgets pos) = send_stays s.send
step_kept now s t (settles on restart) = send_stays s.send
step_kept now s t (grows growth) = send_stays s.send
step_kept now s t (begins is) = send_stays s.send
step_kept now s t (joins window is) = send_stays s.send

steps_kept : (now : ℕ) (s t : EndState) → SubflowSteps now s t → SendKept s.send t.send
steps_kept now s t none = send_stays s.send
steps_kept now s t (more u v steps step) = send_then s.send u.send t.send (steps_kept now s u steps) (step_kept now u t step)

-- ---- the stream

abbrev PiecesKept : ℕ → List GrantedPiece → List GrantedPiece → Type 0
PiecesKept heard = AreKept (λ (x : GrantedPiece). x.to ≤ heard) (λ (x y : GrantedPiece). y ≡ x)

record StreamKept (v w : Sending) : Type 0 where
  heard : v.heard ≤ w.heard
  pieces : PiecesKept w.heard v.granted w.granted

pieces_stay : (v w : Sending) → w.heard ≡ v.heard → w.granted ≡ v.granted → StreamKept v w
pieces_stay v w heard granted = record {
  heard = omega (arith, heard);
  pieces = subst (PiecesKept w.heard v.granted) (sym granted) (all_kept (λ (x y : GrantedPiece). y ≡ x) (λ x. refl) (λ (x : GrantedPiece). x.to ≤ w.heard) v.granted);
}

stream_kept : (v w : Sending) → StreamStep v w → StreamKept v w
stream_kept v w (stream.hears next fin) = record {
  heard = omega arith;
  pieces = filtered (λ (x y : GrantedPiece). y ≡ x) (λ x. refl) (λ (x : GrantedPiece). x.to ≤ max v.heard next) (is_open (max v.heard next)) (λ x is. ltb-false (max v.heard next) x.to is) v.granted;
}
stream_kept v w (stream.takes piece) = record {
  heard = le_refl v.heard;
  pieces = longer (λ (x y : GrantedPiece). y ≡ x) (λ x. refl) (λ (x : GrantedPiece). x.to ≤ v.heard) v.granted (piece ∷ []);
}
stream_kept v w stream.stays = pieces_stay v v refl refl
stream_kept v w stream.closes = pieces_stay v _ refl refl
stream_kept v w stream.ends = pieces_stay v _ refl refl
stream_kept v w (stream.is_refused shut known) = pieces_stay v _ refl refl
stream_kept v w (stream.tells news) = pieces_stay v _ refl refl

-- ---- an end

keeps_so : (e f : PathEnd) → SendKept e.tcp.send f.tcp.send → StreamKept e.sending f.sending → KeepsWhatWaits e f
keeps_so e f subflow stream = record { una = subflow.una; records = subflow.records; heard = stream.heard; pieces = stream.pieces }

pub same_keeps : (e : PathEnd) → KeepsWhatWaits e e
same_keeps e = keeps_so e e (send_stays e.tcp.send) (pieces_stay e.sending e.sending refl refl)

pub end_keeps : (now : ℕ) (e f : PathEnd) → EndStep now e f → KeepsWhatWaits e f
end_keeps now e f x = keeps_so e f (steps_kept now e.tcp f.tcp x.subflow) (stream_kept e.sending f.sending x.stream)

pub keeps_then : (e f g : PathEnd) → KeepsWhatWaits e f → KeepsWhatWaits f g → KeepsWhatWaits e g
keeps_then e f g x y =
    let subflow = send_then e.tcp.send f.tcp.send g.tcp.send (record { una = x.una; records = x.records }) (record { una = y.una; records = y.records }) in
    record {
      una = subflow.una;
      records = subflow.records;
      heard = omega (arith, x.heard, y.heard);
      pieces = chain (λ (a b : GrantedPiece). b ≡ a) (λ a. refl) (λ (a : GrantedPiece). a.to ≤ f.sending.heard) (λ (a : GrantedPiece). a.to ≤ g.sending.heard) (λ (a : GrantedPiece). a.to ≤ g.sending.heard)
          (λ a low. let high = y.heard in omega (arith, low, high)) (λ a b same low. subst (λ (z : GrantedPiece). z.to ≤ g.sending.heard) same low)
          (λ a b c first second. second ∙ first) e.sending.granted f.sending.granted g.sending.granted x.pieces y.pieces;
    }

-- ---- a path

module _ {C : Type 0} where
  abbrev BothKeep : PathState C → PathState C → Type 0
  BothKeep p q = (s : Side) → KeepsWhatWaits (end_at s p) (end_at s q)

  step_keeps : (p q : PathState C) → PathStep p q → BothKeep p q
  step_keeps p q x A = end_keeps q.clock p.a q.a x.a
  step_keeps p q x B = end_keeps q.clock p.b q.b x.b

  both_last : Lasts BothKeep
  both_last = record {
    agenda = λ ds p. both_same p ds;
    chains = λ p q r x y s. keeps_then (end_at s p) (end_at s q) (end_at s r) (x s) (y s);
    passes = λ d p. step_keeps p (passed d p) (passed_steps d p);
  }
    where
      both_same : (p : PathState C) (ds : List Duty) → BothKeep p (with_agenda ds p)
      both_same p ds s = same_keeps (end_at s p)

  -- ---- the world

  member_keeps : (k : Codec C) (r : Reply) (m : Actor C) → EndsKeepWhatWaits m (member_takes k r m)
  member_keeps k r (App a) = tt
  member_keeps k r (Path p) = takes_lasts BothKeep both_last k r p (λ d. step_keeps p (answered k d r p) (answered_steps k d r p))

  member_begins : (m : Actor C) → EndsKeepWhatWaits m (member_next m)
  member_begins (App a) = tt
  member_begins (Path p) = begins_lasts BothKeep both_last (record p { clock = p.until; until = p.until + 100 })

  member_stays : (m : Actor C) → EndsKeepWhatWaits m m
  member_stays (App a) = tt
  member_stays (Path p) = λ s. same_keeps (end_at s p)

  member_then : (m n o : Actor C) → EndsKeepWhatWaits m n → EndsKeepWhatWaits n o → EndsKeepWhatWaits m o
  member_then (App a) (App b) (App c) x y = tt
  member_then (Path p) (Path q) (Path r) x y = λ s. keeps_then (end_at s p) (end_at s q) (end_at s r) (x s) (y s)
  member_then (App a) (Path q) o x y = absurd x
  member_then (Path p) (App b) o x y = absurd x
  member_then (App a) (App b) (Path r) x y = absurd y
  member_then (Path p) (Path q) (App c) x y = absurd y

  pub what_waits_is_kept : (k : Codec C) → WhatWaitsIsKept k
  what_waits_is_kept k w turns actor c there = turns_each k (λ c d. EndsKeepWhatWaits c.member d.member) (λ c. member_stays c.member)
      (λ ask books c. member_keeps k (answer_to books ask) c.member) (λ stamp c over. member_begins c.member)
      (λ c d e x y. member_then c.member d.member e.member x y) turns w actor c there
