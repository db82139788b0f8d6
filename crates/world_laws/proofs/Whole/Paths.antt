-- Path 0 as long as no options are taken away, and what becomes of it where one end goes on, or sends a segment.
use Rattle.world_laws.proofs.Words.{◌≡◌, refl, sym, ◌∙◌, ap, subst, ℕ, zero, suc, ◌+◌, ◌||◌, inl, inr, ◌⊎◌, ⊎_elim, Bool, true, false, Option, None, List, []}
use Rattle.world_laws.proofs.Words.{◌∷◌, is_some, false≢true, or_right, list_any, IfSome, Side, A, B, peer, same_side, ScriptLine, SendState, changed}
use Rattle.world_laws.proofs.Words.{next_number, Flight, is_stripped, is_altered, LinkState, PlainSegment, meant, heard_and, Duty, SendDuty, AskDuty}
use Rattle.world_laws.proofs.Words.{PathEnd, PathState, end_at, goes_on, with_end, with_agenda, Carried, as_arrived, carried_by, stripped, altered, values}
use Rattle.world_laws.proofs.Words.{is_joined, AltersNothing, sent_on, is_side_a, Every, EndWrites, OnlyAt, PathView, at_end, nothing}
use Rattle.world_laws.specs.NeverFalls.{StripsNothing}
use Rattle.world_laws.proofs.Lanes.Saying.{handed_kept}
use Rattle.world_laws.proofs.Keys.AnswerHeardFirst.{is_apart}
use Rattle.world_laws.proofs.Whole.Bytes.{EndsWell, Grows, NoneAt, NoneBelow, grows_self}
use Rattle.world_laws.proofs.Whole.Copies.{HeardIs, Knows, Speaks, heard_later}
use Rattle.world_laws.proofs.Whole.Ends.{EndIs, Parts, TreatedIs, Unmet, end_later, is_spared, parts_of, parts_spared, same_unmet}
use Rattle.world_laws.proofs.Writes.Steps.{both_ends, unwritten}

-- ---- what is to be done

-- a duty by which a side says something that isn't due anew; and one that there is none of
pub data Mark : Type 0 where
  SaidBy : (side : Side) → Mark
  Never : Mark

abbrev pub is_by : Mark → Side → Bool
is_by (Mark.SaidBy s) t = same_side s t
is_by Mark.Never t = false

abbrev pub is_handshake : Mark → Side → Bool
is_handshake (Mark.SaidBy s) t = same_side s t
is_handshake Mark.Never t = is_side_a t

abbrev is_nobody : Mark → Bool
is_nobody (Mark.SaidBy s) = false
is_nobody Mark.Never = true

abbrev pub is_marked : Mark → Duty → Bool
is_marked x (Duty.Send (SendDuty.SynAck t)) = is_by x t
is_marked x (Duty.Send (SendDuty.Answer t)) = is_by x t
is_marked x (Duty.Send (SendDuty.Resend t)) = is_by x t
is_marked x (Duty.Send (SendDuty.Again t)) = is_by x t
is_marked x (Duty.Send (SendDuty.Acknowledge t)) = is_by x t
is_marked x (Duty.Ask (AskDuty.PlainHandshake t)) = is_handshake x t
is_marked x (Duty.Ask (AskDuty.PeerKey t)) = is_nobody x
is_marked x (Duty.Ask (AskDuty.JoinHeard t)) = is_nobody x
is_marked x _ = false

abbrev pub marks : Mark → List Duty → Bool
marks x ds = list_any (is_marked x) ds

-- nothing more is marked
abbrev pub Fewer : List Duty → List Duty → Type 0
Fewer ds es = (x : Mark) → marks x es ≡ true → marks x ds ≡ true

pub tail_fewer : (d : Duty) (ds : List Duty) → Fewer (d ∷ ds) ds
tail_fewer d ds x is = or_right (is_marked x d) (marks x ds) is

pub first_marked : (x : Mark) (d : Duty) (ds : List Duty) → is_marked x d ≡ true → marks x (d ∷ ds) ≡ true
first_marked x d ds is = ap (λ b. b || marks x ds) is

-- a new list, in which nothing is
pub new_fewer : (ds es : List Duty) → ((x : Mark) → marks x es ≡ false) → Fewer ds es
new_fewer ds es none x is = absurd (false≢true (sym (none x) ∙ is))

pub put_fewer : (x : Duty) (d : Duty) (ds : List Duty) → ((m : Mark) → is_marked m x ≡ false) → Fewer (d ∷ ds) (x ∷ ds)
put_fewer x d ds none m is = tail_fewer d ds m (sym (ap (λ b. b || marks m ds) (none m)) ∙ is)

pub heard_marks : (x : Mark) (s : Side) (from count : ℕ) (ds : List Duty) → marks x (heard_and s from count ds) ≡ marks x ds
heard_marks x s from zero ds = refl
heard_marks x s from (suc count) ds = heard_marks x s (from + 1) count ds

pub by_itself : (x : Mark) (s : Side) → is_by x s ≡ true → x ≡ Mark.SaidBy s
by_itself (Mark.SaidBy A) A is = refl
by_itself (Mark.SaidBy B) B is = refl
by_itself (Mark.SaidBy A) B is = absurd (false≢true is)
by_itself (Mark.SaidBy B) A is = absurd (false≢true is)
by_itself Mark.Never s is = absurd (false≢true is)

pub itself : (s : Side) → same_side s s ≡ true
itself = elim [ A ↦ refl | B ↦ refl ]

-- ---- the path

-- a copy under way, where both sides sent this
abbrev pub CopyTo : SendState → SendState → Side → Flight Carried → Type 0
CopyTo va vb A f = HeardIs B va vb (meant (as_arrived f.carried))
CopyTo va vb B f = HeardIs A vb va (meant (as_arrived f.carried))

abbrev pub CopyIs : SendState → SendState → Flight Carried → Type 0
CopyIs va vb f = CopyTo va vb f.to f

abbrev pub MarkIs : PathState Carried → Mark → Type 0
MarkIs p (Mark.SaidBy s) = Speaks s (end_at s p)
MarkIs p Mark.Never = ⊥

pub speaks_at : (s : Side) (p : PathState Carried) (e : PathEnd) → Speaks s e → MarkIs (with_end s e p) (Mark.SaidBy s)
speaks_at = elim [ A ↦ λ p e speaks. speaks | B ↦ λ p e speaks. speaks ]

pub record PathIs (ds : List Duty) (p : PathState Carried) : Type 0 where
  pub first : is_joined p.profile ≡ false
  pub joins : p.joined_at ≡ None
  pub strips : StripsNothing p.link.lines
  pub alters : AltersNothing p.link.lines
  pub a : EndIs A p.b.tcp.send (parts_of p.a)
  pub b : EndIs B p.a.tcp.send (parts_of p.b)
  pub copies : Every (CopyIs p.a.tcp.send p.b.tcp.send) p.link.under_way
  pub marked : (x : Mark) → marks x ds ≡ true → MarkIs p x

pub end_is : (s : Side) (ds : List Duty) (p : PathState Carried) → PathIs ds p → EndIs s (end_at (peer s) p).tcp.send (parts_of (end_at s p))
end_is = elim [ A ↦ λ ds p h. h.a | B ↦ λ ds p h. h.b ]

-- nothing is done to a segment on its way
unchanged : (from : Side) (number now : ℕ) (lines : List ScriptLine) → StripsNothing lines → AltersNothing lines → (carried : Carried)
    → changed stripped altered (is_stripped from number now lines) (is_altered from number lines) carried ≡ carried
unchanged from number now lines strips alters carried = rw (strips.strips from number now, alters.alters from number) refl

-- ---- an end goes on

pub record Steps (s : Side) (p : PathState Carried) (e : PathEnd) : Type 0 where
  pub end : EndIs s (end_at (peer s) p).tcp.send (parts_of e)
  pub grows : Grows (end_at s p).tcp.send e.tcp.send
  pub knows : Speaks s (end_at s p) → Speaks s e

copies_later : (va vb wa wb : SendState) (fs : List (Flight Carried)) → Grows va wa → Grows vb wb → Every (CopyIs va vb) fs → Every (CopyIs wa wb) fs
copies_later va vb wa wb fs ga gb h = record { each = λ i f there. by f.to f (h.each i f there) }
  where
    by : (t : Side) (f : Flight Carried) → CopyTo va vb t f → CopyTo wa wb t f
    by A f says = heard_later B va vb wa wb (meant (as_arrived f.carried)) ga gb says
    by B f says = heard_later A vb va wb wa (meant (as_arrived f.carried)) gb ga says

-- what may be said then
marked_then : (s : Side) (ds es : List Duty) (p : PathState Carried) (e : PathEnd) → Steps s p e → Fewer ds es → PathIs ds p → (x : Mark) → marks x es ≡ true → MarkIs (with_end s e p) x
marked_then s ds es p e g fewer h x is = by s x g (h.marked x (fewer x is))
  where
    by : (s : Side) (x : Mark) → Steps s p e → MarkIs p x → MarkIs (with_end s e p) x
    by A (Mark.SaidBy A) g was = g.knows was
    by A (Mark.SaidBy B) g was = was
    by B (Mark.SaidBy A) g was = was
    by B (Mark.SaidBy B) g was = g.knows was
    by s Mark.Never g was = was

-- where it is known what may be said
pub path_goes : (s : Side) (ds es : List Duty) (p : PathState Carried) (e : PathEnd) → Steps s p e → ((x : Mark) → marks x es ≡ true → MarkIs (with_end s e p) x) → PathIs ds p → PathIs es (with_end s e p)
path_goes A ds es p e g marked h = record {
  first = h.first;
  joins = h.joins;
  strips = h.strips;
  alters = h.alters;
  a = g.end;
  b = end_later B p.a.tcp.send e.tcp.send (parts_of p.b) g.grows h.b;
  copies = copies_later p.a.tcp.send p.b.tcp.send e.tcp.send p.b.tcp.send p.link.under_way g.grows (grows_self p.b.tcp.send) h.copies;
  marked = marked;
}
path_goes B ds es p e g marked h = record {
  first = h.first;
  joins = h.joins;
  strips = h.strips;
  alters = h.alters;
  a = end_later A p.b.tcp.send e.tcp.send (parts_of p.a) g.grows h.a;
  b = g.end;
  copies = copies_later p.a.tcp.send p.b.tcp.send p.a.tcp.send e.tcp.send p.link.under_way (grows_self p.a.tcp.send) g.grows h.copies;
  marked = marked;
}

-- with other times, lines, copies and duties
pub path_alike : (ds : List Duty) (p q : PathState Carried) → q.a ≡ p.a → q.b ≡ p.b → q.profile ≡ p.profile → q.joined_at ≡ p.joined_at → q.link.lines ≡ p.link.lines
    → Every (CopyIs p.a.tcp.send p.b.tcp.send) q.link.under_way → PathIs ds p → PathIs ds q
path_alike ds p q a b profile joins lines copies h = record {
  first = ap is_joined profile ∙ h.first;
  joins = joins ∙ h.joins;
  strips = subst StripsNothing (sym lines) h.strips;
  alters = subst AltersNothing (sym lines) h.alters;
  a = subst (λ (e : PathEnd). EndIs A q.b.tcp.send (parts_of e)) (sym a) (subst (λ (e : PathEnd). EndIs A e.tcp.send (parts_of p.a)) (sym b) h.a);
  b = subst (λ (e : PathEnd). EndIs B q.a.tcp.send (parts_of e)) (sym b) (subst (λ (e : PathEnd). EndIs B e.tcp.send (parts_of p.b)) (sym a) h.b);
  copies = subst (λ (e : PathEnd). Every (CopyIs e.tcp.send q.b.tcp.send) q.link.under_way) (sym a) (subst (λ (e : PathEnd). Every (CopyIs p.a.tcp.send e.tcp.send) q.link.under_way) (sym b) copies);
  marked = λ x is. by x (h.marked x is);
}
  where
    by : (x : Mark) → MarkIs p x → MarkIs q x
    by (Mark.SaidBy A) was = subst (Speaks A) (sym a) was
    by (Mark.SaidBy B) was = subst (Speaks B) (sym b) was
    by Mark.Never was = was

-- whatever is written down as what is to be done
pub path_any : (ds fs : List Duty) (p : PathState Carried) → PathIs ds p → PathIs ds (with_agenda fs p)
path_any ds fs p h = path_alike ds p (with_agenda fs p) refl refl refl refl refl h.copies h

pub path_fewer : (ds es : List Duty) (p : PathState Carried) → Fewer ds es → PathIs ds p → PathIs es p
path_fewer ds es p fewer h = record { first = h.first; joins = h.joins; strips = h.strips; alters = h.alters; a = h.a; b = h.b; copies = h.copies; marked = λ x is. h.marked x (fewer x is) }

-- with other duties
pub goes_fewer : (s : Side) (ds es : List Duty) (p : PathState Carried) (e : PathEnd) → Steps s p e → Fewer ds es → PathIs ds p → PathIs es (goes_on s e es p)
goes_fewer s ds es p e g fewer h = path_any es es (with_end s e p) (path_goes s ds es p e g (marked_then s ds es p e g fewer h) h)

-- ---- a segment is sent

pub sent_fewer : (s : Side) (sg : PlainSegment) (ds es : List Duty) (p : PathState Carried) (e : PathEnd) → HeardIs s (end_at (peer s) p).tcp.send e.tcp.send (meant sg) → Steps s p e → Fewer ds es → PathIs ds p
    → PathIs es (sent_on values s sg e es p)
sent_fewer A sg ds es p e says g fewer h =
    let n = goes_fewer A ds es p e g fewer h in
    let number = next_number A p.link in
    let same = unchanged A number p.clock p.link.lines h.strips h.alters (carried_by p.profile.spelling A sg) in
    path_alike es (goes_on A e es p) (sent_on values A sg e es p) refl refl refl refl refl
    (handed_kept (CopyIs e.tcp.send p.b.tcp.send) A sg p (λ tick. subst (λ (x : Carried). HeardIs A p.b.tcp.send e.tcp.send (meant (as_arrived x))) (sym same) says) n.copies) n
sent_fewer B sg ds es p e says g fewer h =
    let n = goes_fewer B ds es p e g fewer h in
    let number = next_number B p.link in
    let same = unchanged B number p.clock p.link.lines h.strips h.alters (carried_by p.profile.spelling B sg) in
    path_alike es (goes_on B e es p) (sent_on values B sg e es p) refl refl refl refl refl
    (handed_kept (CopyIs p.a.tcp.send e.tcp.send) B sg p (λ tick. subst (λ (x : Carried). HeardIs B p.a.tcp.send e.tcp.send (meant (as_arrived x))) (sym same) says) n.copies) n

-- ---- a duty that writes nothing of it

same_end : (s : Side) (vs ws : SendState) (x y : Parts) → ws ≡ vs → y ≡ x → EndIs s vs x → EndIs s ws y
same_end s vs ws x y others parts h = subst (λ v. EndIs s v y) (sym others) (subst (EndIs s vs) (sym parts) h)

pub spared_fewer : (s : Side) (w : EndWrites) (ds es : List Duty) (p q : PathState Carried) → is_spared w ≡ true → OnlyAt s (at_end w) p q → Fewer ds es → PathIs ds p → PathIs es q
spared_fewer s w ds es p q spares x fewer h = record {
  first = ap is_joined (ap (λ (v : PathView Carried). v.profile) x.same) ∙ h.first;
  joins = unwritten false p.joined_at q.joined_at refl (ap (λ (v : PathView Carried). v.joined_at) x.same) ∙ h.joins;
  strips = subst (λ (l : LinkState Carried). StripsNothing l.lines) (sym link) h.strips;
  alters = subst (λ (l : LinkState Carried). AltersNothing l.lines) (sym link) h.alters;
  a = same_end A p.b.tcp.send q.b.tcp.send (parts_of p.a) (parts_of q.a) (ap (λ (y : Parts). y.send) both.1) both.0 h.a;
  b = same_end B p.a.tcp.send q.a.tcp.send (parts_of p.b) (parts_of q.b) (ap (λ (y : Parts). y.send) both.0) both.1 h.b;
  copies = subst (λ (l : LinkState Carried). Every (CopyIs q.a.tcp.send q.b.tcp.send) l.under_way) (sym link)
      (subst (λ v. Every (CopyIs v q.b.tcp.send) p.link.under_way) (ap (λ (y : Parts). y.send) (sym both.0))
      (subst (λ v. Every (CopyIs p.a.tcp.send v) p.link.under_way) (ap (λ (y : Parts). y.send) (sym both.1)) h.copies));
  marked = λ m is. by m (h.marked m (fewer m is));
}
  where
    both : (parts_of q.a ≡ parts_of p.a) × (parts_of q.b ≡ parts_of p.b)
    both = both_ends (λ e f. parts_of f ≡ parts_of e) s (at_end w) p q (λ e f y. parts_spared w spares e f y) (λ e f y. parts_spared nothing refl e f y) x

    link : q.link ≡ p.link
    link = unwritten false p.link q.link refl (ap (λ (v : PathView Carried). v.link) x.same)

    by : (m : Mark) → MarkIs p m → MarkIs q m
    by (Mark.SaidBy A) was = subst (λ (y : Parts). Knows A y.peer_key y.asked) (sym both.0) was
    by (Mark.SaidBy B) was = subst (λ (y : Parts). Knows B y.peer_key y.asked) (sym both.1) was
    by Mark.Never was = was

-- ---- what an end becomes

pub path_puts : (s : Side) (ds es : List Duty) (p : PathState Carried) (e : PathEnd) → Steps s p e → Fewer ds es → PathIs ds p → PathIs es (with_end s e p)
path_puts s ds es p e g fewer h = path_goes s ds es p e g (marked_then s ds es p e g fewer h) h

-- one of which nothing that is spoken of changes
pub same_step : (s : Side) (ds : List Duty) (p : PathState Carried) (e : PathEnd) → parts_of e ≡ parts_of (end_at s p) → PathIs ds p → Steps s p e
same_step s ds p e same h = record {
  end = subst (EndIs s (end_at (peer s) p).tcp.send) (sym same) (end_is s ds p h);
  grows = subst (λ (y : Parts). Grows (end_at s p).tcp.send y.send) (sym same) (grows_self (end_at s p).tcp.send);
  knows = λ was. subst (λ (y : Parts). Knows s y.peer_key y.asked) (sym same) was;
}

-- whether it may send a DSS, and what it may have learned as long as it may not
abbrev pub StaysLow : Parts → Parts → Type 0
StaysLow x y = (y.clear ≡ true) ⊎ ((y.clear ≡ x.clear) × ((y.peer_key ≡ x.peer_key) × ((y.recv.edge ≡ x.recv.edge) × (y.mappings.live ≡ x.mappings.live))))

low_kept : (vs : SendState) (x y : Parts) → StaysLow x y → (x.clear ≡ true) ⊎ (NoneBelow x.recv.edge vs × (x.mappings.live ≡ [])) → (y.clear ≡ true) ⊎ (NoneBelow y.recv.edge vs × (y.mappings.live ≡ []))
low_kept vs x y (inl clear) low = inl clear
low_kept vs x y (inr same) (inl clear) = inl (same.0 ∙ clear)
low_kept vs x y (inr same) (inr both) = inr (subst (λ n. NoneBelow n vs) (sym same.1.1.0) both.0, same.1.1.1 ∙ both.1)

keyed_kept : (s : Side) (x y : Parts) → StaysLow x y → (s ≡ B → is_some x.peer_key ≡ true → x.clear ≡ true) → s ≡ B → is_some y.peer_key ≡ true → y.clear ≡ true
keyed_kept s x y (inl clear) was same has = clear
keyed_kept s x y (inr kept) was same has = kept.0 ∙ was same (ap is_some (sym kept.1.0) ∙ has)

pub knows_kept : (s : Side) (x y : Parts) → (is_some x.peer_key ≡ true → is_some y.peer_key ≡ true) → y.asked ≡ x.asked → Knows s x.peer_key x.asked → Knows s y.peer_key y.asked
knows_kept = elim [ A ↦ λ x y key asked was. key was | B ↦ λ x y key asked was. asked ∙ was ]

-- one that sent what it had sent, in the same state
pub small_step : (s : Side) (ds : List Duty) (p : PathState Carried) (e : PathEnd) → let x = parts_of (end_at s p) in let y = parts_of e in
    y.send ≡ x.send → y.fin_at ≡ x.fin_at → y.state ≡ x.state → y.timing ≡ x.timing → y.peer_infinite ≡ x.peer_infinite → y.asked ≡ x.asked → (is_some x.peer_key ≡ true → is_some y.peer_key ≡ true)
    → StaysLow x y → TreatedIs y.copy y.held_edge → PathIs ds p → Steps s p e
small_step s ds p e send fin state timing infinite asked key low treated h =
    let x : Parts = parts_of (end_at s p) in let y : Parts = parts_of e in
    let was = end_is s ds p h in let vs : SendState = (end_at (peer s) p).tcp.send in
    record {
      end = record {
        base = record {
          sends = subst EndsWell (sym send) was.base.sends;
          low = low_kept vs x y low was.base.low;
          fin_at = subst (λ (o : Option ℕ). IfSome o (λ n. NoneAt n vs)) (sym fin) was.base.fin_at;
          finite = infinite ∙ was.base.finite;
          apart = ap (is_apart s) state ∙ was.base.apart;
          keyed = keyed_kept s x y low was.base.keyed;
          treated = treated;
        };
        says = ⊎_elim (λ knows. inl (knows_kept s x y key asked knows)) (λ unmet. inr (same_unmet x y state timing send unmet)) was.says;
      };
      grows = subst (λ v. Grows x.send v) (sym send) (grows_self x.send);
      knows = λ knows. knows_kept s x y key asked knows;
    }

-- one that moved on in its states, and sent what it had sent, marked, or nothing more
pub moved_step : (s : Side) (ds : List Duty) (p : PathState Carried) (e : PathEnd) → let x = parts_of (end_at s p) in let y = parts_of e in
    EndsWell y.send → Grows x.send y.send → y.fin_at ≡ x.fin_at → y.peer_infinite ≡ x.peer_infinite → y.asked ≡ x.asked → y.peer_key ≡ x.peer_key → is_apart s y.state ≡ false
    → (y.clear ≡ true) ⊎ (NoneBelow y.recv.edge (end_at (peer s) p).tcp.send × (y.mappings.live ≡ [])) → y.clear ≡ x.clear → TreatedIs y.copy y.held_edge → (Unmet x → Unmet y) → PathIs ds p → Steps s p e
moved_step s ds p e sends grows fin infinite asked key apart low clear treated unmet h =
    let x : Parts = parts_of (end_at s p) in let y : Parts = parts_of e in
    let was = end_is s ds p h in let vs : SendState = (end_at (peer s) p).tcp.send in
    let known = knows_kept s x y (λ is. ap is_some key ∙ is) asked in
    record {
      end = record {
        base = record {
          sends = sends;
          low = low;
          fin_at = subst (λ (o : Option ℕ). IfSome o (λ n. NoneAt n vs)) (sym fin) was.base.fin_at;
          finite = infinite ∙ was.base.finite;
          apart = apart;
          keyed = λ same has. clear ∙ was.base.keyed same (ap is_some (sym key) ∙ has);
          treated = treated;
        };
        says = ⊎_elim (λ knows. inl (known knows)) (λ is. inr (unmet is)) was.says;
      };
      grows = grows;
      knows = known;
    }
