-- An end is connected only while its path stands at the control book of its side, or it is to tell that book first, and has no octets to send yet.
use Rattle.std.proofs.Common.{◌≡◌, refl, sym, ap, ◌∙◌, subst, ℕ, ◌⊎◌, inl, inr, ⊎_elim, ◌&&◌, ◌||◌, Bool, true, false, if◌then◌else◌, Option, Some, None, List, [], ◌∷◌}
use Rattle.std.proofs.lemmas.Bool.{and_from, and_parts, both_ways, false≢true, or_cases, or_left}
use Rattle.actor_desk.specs.Words.{pick, tail_of}
use Rattle.actor_desk.specs.declared.ask.Reply.{Reply}
use Rattle.link_script.specs.Places.{same_side}
use Rattle.path_agenda.specs.Items.{key_heard, keys_heard}
use Rattle.path_agenda.specs.Words.{replaced}
use Rattle.path_agenda.specs.declared.duty.AskDuty.{AskDuty}
use Rattle.path_agenda.specs.declared.duty.Duty.{Duty}
use Rattle.path_agenda.specs.declared.duty.SendDuty.{SendDuty}
use Rattle.path_agenda.specs.declared.duty.SilentDuty.{SilentDuty}
use Rattle.path_agenda.specs.declared.duty.StepDuty.{StepDuty}
use Rattle.path_agenda.specs.declared.keys.KeyPair.{KeyPair}
use Rattle.path_core.specs.Codec.{Codec}
use Rattle.path_core.specs.Duties.{answered, passed, stands}
use Rattle.path_core.specs.End.{PathEnd}
use Rattle.path_core.specs.Fallback.{fell_duties}
use Rattle.path_core.specs.MpCapable.{answered_opened, answered_peer_key}
use Rattle.path_core.specs.State.{PathState, end_at, left, with_agenda}
use Rattle.path_core.specs.Steps.{settled}
use Rattle.path_core.specs.Treated.{Treated}
use Rattle.sides.specs.declared.side.Side.TheVariants.{A, B}
use Rattle.sides.specs.declared.side.Side.{Side}
use Rattle.stream_lanes.specs.Words.{Every}
use Rattle.subflow_send.specs.Records.{Record, SendState}
use Rattle.world_laws.proofs.Falls.Verdicts.{fell_cases}
use Rattle.world_laws.proofs.Writes.Paths.{writes_no_more}
use Rattle.world_laws.proofs.Writes.Steps.{both_ends, unwritten}
use Rattle.world_laws.specs.Writes.{EndView, EndWrites, Only, OnlyAt, Writes, copy_said, nothing, writes}
use Rattle.own_runs.proofs.Leaving.{answered_next, is_up, passed_ups, same_is, ups_at}

-- the book is told that the path lives, or the end is to die
abbrev tells : Side → Bool → Duty → Bool
tells s opened (Duty.Ask (AskDuty.Live t)) = opened && same_side t s
tells s opened (Duty.Ask (AskDuty.BreakAck t reason)) = same_side t s
tells s opened (Duty.Send (SendDuty.BreakReset t reason)) = same_side t s
tells s opened (Duty.Send (SendDuty.Reset t)) = same_side t s
tells s opened _ = false

-- what may stand before that
abbrev passes_by : Side → Duty → Bool
passes_by s (Duty.Ask (AskDuty.SynAnswered t)) = same_side t s
passes_by s (Duty.Ask (AskDuty.PeerKey t)) = same_side t s
passes_by s (Duty.Ask (AskDuty.Opened t)) = same_side t s
passes_by s (Duty.Ask (AskDuty.GoIdentity t)) = same_side t s
passes_by s (Duty.Ask (AskDuty.AbortSend t)) = same_side t s
passes_by s (Duty.Ask (AskDuty.AbortReceive t)) = same_side t s
passes_by s _ = false

abbrev pub owing : Side → Bool → List Duty → Bool
owing s opened [] = false
owing s opened (d ∷ ds) = tells s opened d || (passes_by s d && owing s opened ds)

itself : (s : Side) → same_side s s ≡ true
itself A = refl
itself B = refl

-- it has no octets to send
abbrev pub Fresh : PathEnd → Type 0
Fresh e = Every (λ (r : Record). r.piece ≡ []) e.tcp.send.records

-- octets to send, and whether the copy opened the end
record Alike (e f : PathEnd) : Type 0 where
  opened : f.treated.opened ≡ e.treated.opened
  fresh : Fresh e → Fresh f

only_alike : (w : EndWrites) → w.send ≡ false → w.copy ≡ false → (e f : PathEnd) → Only w e f → Alike e f
only_alike w send copy e f x = record {
  opened = ap (λ (t : Treated). t.opened) (unwritten w.copy (copy_said e.treated) (copy_said f.treated) copy (ap (λ (v : EndView). v.copy) x.same));
  fresh = λ is. subst (λ (v : SendState). Every (λ (r : Record). r.piece ≡ []) v.records) (sym (unwritten w.send e.tcp.send f.tcp.send send (ap (λ (v : EndView). v.send) x.same))) is;
}

-- of what stands behind it
behind : (s t : Side) (o : Bool) (ds : List Duty) → (false || (same_side t s && owing s o ds)) ≡ true → (same_side t s ≡ true) × (owing s o ds ≡ true)
behind s t o ds is = and_parts (same_side t s) (owing s o ds) is

now_told : (b x : Bool) → (b || (false && x)) ≡ true → b ≡ true
now_told true x is = refl
now_told false x is = absurd (false≢true is)

module _ {C : Type 0} where
  -- L: its path stands at its side's control book
  abbrev pub Stands : Type 0 → Side → List Duty → PathState C → Type 0
  Stands L s ds p = is_up (end_at s p) ≡ true → L ⊎ ((owing s (end_at s p).treated.opened ds ≡ true) × Fresh (end_at s p))

  -- ---- what is passed

  pass_owing : (s : Side) (d : Duty) (ds : List Duty) (p : PathState C) → stands d p ≡ false → owing s (end_at s p).treated.opened (d ∷ ds) ≡ true → Fresh (end_at s p)
      → (owing s (end_at s (passed d p)).treated.opened ds ≡ true) × Fresh (end_at s (passed d p))
  pass_owing s (Duty.Ask (AskDuty.Live t)) ds p not is fresh = ⊎_elim
      (λ now. let both = and_parts (end_at s p).treated.opened (same_side t s) now in
      absurd (both_ways (end_at t p).treated.opened not (subst (λ (u : Side). (end_at u p).treated.opened ≡ true) (same_is t s both.1) both.0)))
      (λ never. absurd (false≢true never)) (or_cases ((end_at s p).treated.opened && same_side t s) false is)
  pass_owing s (Duty.Ask (AskDuty.BreakAck t reason)) ds p not is fresh = absurd (false≢true (sym not))
  pass_owing s (Duty.Send (SendDuty.BreakReset t reason)) ds p not is fresh = absurd (false≢true (sym not))
  pass_owing s (Duty.Send (SendDuty.Reset t)) ds p not is fresh = absurd (false≢true (sym not))
  pass_owing s (Duty.Ask (AskDuty.SynAnswered t)) ds p not is fresh = absurd (false≢true (sym not))
  pass_owing s (Duty.Ask (AskDuty.PeerKey t)) ds p not is fresh = ((and_parts (same_side t s) (owing s (end_at s p).treated.opened ds) is).1, fresh)
  pass_owing s (Duty.Ask (AskDuty.Opened t)) ds p not is fresh = ((and_parts (same_side t s) (owing s (end_at s p).treated.opened ds) is).1, fresh)
  pass_owing s (Duty.Ask (AskDuty.GoIdentity t)) ds p not is fresh = absurd (false≢true (sym not))
  pass_owing s (Duty.Ask (AskDuty.AbortSend t)) ds p not is fresh = absurd (false≢true (sym not))
  pass_owing s (Duty.Ask (AskDuty.AbortReceive t)) ds p not is fresh = absurd (false≢true (sym not))
  pass_owing s (Duty.Step (StepDuty.Look t)) ds p not is fresh = absurd (false≢true is)
  pass_owing s (Duty.Silent (SilentDuty.Timer t)) ds p not is fresh = absurd (false≢true is)
  pass_owing s _ ds p not is fresh = absurd (false≢true is)

  pass_stands : (L : Type 0) (s : Side) (d : Duty) (ds : List Duty) (p : PathState C) → stands d p ≡ false → Stands L s (d ∷ ds) p → Stands L s ds (passed d p)
  pass_stands L s d ds p not h up =
      ⊎_elim (λ lives. inl lives) (λ owes. inr (pass_owing s d ds p not owes.0 owes.1)) (h (ups_at s p (passed d p) (passed_ups d p) up))

  pub settled_stands : (L : Type 0) (s : Side) (ds : List Duty) (p : PathState C) → Stands L s ds p → Stands L s (settled ds p).agenda (settled ds p)
  settled_stands L A [] p h = h
  settled_stands L B [] p h = h
  settled_stands L s (d ∷ ds) p h = by (stands d p) refl (settled_stands L s ds (passed d p))
    where
      put : (s : Side) → Stands L s (d ∷ ds) p → Stands L s (d ∷ ds) (with_agenda (d ∷ ds) p)
      put A h = h
      put B h = h

      by : (b : Bool) → stands d p ≡ b → (Stands L s ds (passed d p) → Stands L s (settled ds (passed d p)).agenda (settled ds (passed d p))) → let q = if b then with_agenda (d ∷ ds) p else settled ds (passed d p) in Stands L s q.agenda q
      by true is rest = put s h
      by false is rest = rest (pass_stands L s d ds p is h)

  -- ---- replies

  alike_by : (s t : Side) (w : Writes) (p q : PathState C) → w.own.send ≡ false → w.own.copy ≡ false → w.other ≡ nothing → OnlyAt t w p q → Alike (end_at s p) (end_at s q)
  alike_by s t w p q send copy other x = at s
    where
      both : Alike p.a q.a × Alike p.b q.b
      both = both_ends Alike t w p q (only_alike w.own send copy) (λ e f y. only_alike nothing refl refl e f (subst (λ (v : EndWrites). Only v e f) other y)) x

      at : (s : Side) → Alike (end_at s p) (end_at s q)
      at A = both.0
      at B = both.1

  abbrev Owes : Side → PathState C → Type 0
  Owes s q = (owing s (end_at s q).treated.opened q.agenda ≡ true) × Fresh (end_at s q)

  owes_on : (s t : Side) (w : Writes) (es : List Duty) (p q : PathState C) → w.own.send ≡ false → w.own.copy ≡ false → w.other ≡ nothing → OnlyAt t w p q → q.agenda ≡ es
      → owing s (end_at s p).treated.opened es ≡ true → Fresh (end_at s p) → Owes s q
  owes_on s t w es p q send copy other x is owes fresh =
      let same : Alike (end_at s p) (end_at s q) = alike_by s t w p q send copy other x in
      (ap (λ (o : Bool). owing s o q.agenda) same.opened ∙ ap (owing s (end_at s p).treated.opened) is ∙ owes, same.fresh fresh)

  left_is : (d : Duty) (ds : List Duty) (p : PathState C) → p.agenda ≡ d ∷ ds → left p ≡ ds
  left_is d ds p first = ap tail_of first

  fell_owing : (s t : Side) (o : Bool) (d : Duty) (ds : List Duty) (r : Reply) (p : PathState C) → p.agenda ≡ d ∷ ds → same_side t s ≡ true → owing s o ds ≡ true → owing s o (fell_duties t r p) ≡ true
  fell_owing s t o d ds r p first own owes =
      fell_cases (λ (es : List Duty). owing s o es ≡ true) t p r
      (λ fell. ap (λ (xs : List Duty). owing s o (replaced (Duty.Ask (AskDuty.GoIdentity t)) xs)) first ∙ and_from (same_side t s) (owing s o ds) own owes)
      (λ reason. or_left (same_side t s) (false && false) own) (λ reason. or_left (same_side t s) (false && false) own) (ap (owing s o) (left_is d ds p first) ∙ owes)

  -- an end that dies
  down : (s t : Side) (f : PathEnd) (p q : PathState C) → is_up f ≡ false → q.a ≡ pick t f p.a → q.b ≡ pick t p.b f → same_side t s ≡ true → is_up (end_at s q) ≡ false
  down A A f p q dead a b own = ap is_up a ∙ dead
  down B B f p q dead a b own = ap is_up b ∙ dead
  down A B f p q dead a b own = absurd (false≢true own)
  down B A f p q dead a b own = absurd (false≢true own)

  key_owing : (s t : Side) (o : Bool) (key : Option ℕ) (d : Duty) (ds : List Duty) (r : Reply) (p : PathState C) → p.agenda ≡ d ∷ ds → same_side t s ≡ true → owing s o ds ≡ true → owing s o (answered_peer_key t key r p).agenda ≡ true
  key_owing s t o None d ds r p first own owes = fell_owing s t o d ds r p first own owes
  key_owing s t o (Some key) d ds r p first own owes = ap (owing s o) (left_is d ds p first) ∙ owes

  keys_owing : (s t : Side) (o : Bool) (keys : Option KeyPair) (d : Duty) (ds : List Duty) (r : Reply) (p : PathState C) → p.agenda ≡ d ∷ ds → same_side t s ≡ true → owing s o ds ≡ true → owing s o (answered_opened t keys r p).agenda ≡ true
  keys_owing s t o None d ds r p first own owes = fell_owing s t o d ds r p first own owes
  keys_owing s t o (Some keys) d ds r p first own owes = ap (owing s o) (left_is d ds p first) ∙ owes

  -- the book is told by this, the end dies, or it is to be told still
  abbrev Owed : Codec C → Side → Duty → Reply → PathState C → Type 0
  Owed k s d r p = (d ≡ Duty.Ask (AskDuty.Live s)) ⊎ ((is_up (end_at s (answered k d r p)) ≡ false) ⊎ Owes s (answered k d r p))

  -- what may stand before that leaves it so
  later : (k : Codec C) (s t : Side) (d : Duty) (ds : List Duty) (r : Reply) (p : PathState C) → (writes d).own.send ≡ false → (writes d).own.copy ≡ false → (writes d).other ≡ nothing
      → OnlyAt t (writes d) p (answered k d r p) → owing s (end_at s p).treated.opened (answered k d r p).agenda ≡ true → Fresh (end_at s p) → Owed k s d r p
  later k s t d ds r p send copy other x owes fresh = inr (inr (owes_on s t (writes d) (answered k d r p).agenda p (answered k d r p) send copy other x refl owes fresh))

  answered_owing : (k : Codec C) (s : Side) (d : Duty) (ds : List Duty) (r : Reply) (p : PathState C) → p.agenda ≡ d ∷ ds → owing s (end_at s p).treated.opened (d ∷ ds) ≡ true → Fresh (end_at s p) → Owed k s d r p
  answered_owing k s (Duty.Ask (AskDuty.Live t)) ds r p first is fresh =
      let own = now_told ((end_at s p).treated.opened && same_side t s) (owing s (end_at s p).treated.opened ds) is in
      inl (ap (λ (u : Side). Duty.Ask (AskDuty.Live u)) (sym (same_is t s (and_parts (end_at s p).treated.opened (same_side t s) own).1)))
  answered_owing k s (Duty.Ask (AskDuty.BreakAck t reason)) ds r p first is fresh =
      later k s t (Duty.Ask (AskDuty.BreakAck t reason)) ds r p refl refl refl (writes_no_more k (Duty.Ask (AskDuty.BreakAck t reason)) r p)
      (or_left (same_side t s) (false && false) (now_told (same_side t s) (owing s (end_at s p).treated.opened ds) is)) fresh
  answered_owing k s (Duty.Send (SendDuty.BreakReset t reason)) ds r p first is fresh =
      inr (inl (down s t _ p (answered k (Duty.Send (SendDuty.BreakReset t reason)) r p) refl refl refl (now_told (same_side t s) (owing s (end_at s p).treated.opened ds) is)))
  answered_owing k s (Duty.Send (SendDuty.Reset t)) ds r p first is fresh =
      inr (inl (down s t _ p (answered k (Duty.Send (SendDuty.Reset t)) r p) refl refl refl (now_told (same_side t s) (owing s (end_at s p).treated.opened ds) is)))
  answered_owing k s (Duty.Ask (AskDuty.SynAnswered t)) ds r p first is fresh =
      let both = behind s t (end_at s p).treated.opened ds is in
      later k s t (Duty.Ask (AskDuty.SynAnswered t)) ds r p refl refl refl (writes_no_more k (Duty.Ask (AskDuty.SynAnswered t)) r p)
      (ap (owing s (end_at s p).treated.opened) (left_is (Duty.Ask (AskDuty.SynAnswered t)) ds p first) ∙ both.1) fresh
  answered_owing k s (Duty.Ask (AskDuty.PeerKey t)) ds r p first is fresh =
      let both = behind s t (end_at s p).treated.opened ds is in
      later k s t (Duty.Ask (AskDuty.PeerKey t)) ds r p refl refl refl (writes_no_more k (Duty.Ask (AskDuty.PeerKey t)) r p)
      (key_owing s t (end_at s p).treated.opened (key_heard (end_at t p).treated.items) (Duty.Ask (AskDuty.PeerKey t)) ds r p first both.0 both.1) fresh
  answered_owing k s (Duty.Ask (AskDuty.Opened t)) ds r p first is fresh =
      let both = behind s t (end_at s p).treated.opened ds is in
      later k s t (Duty.Ask (AskDuty.Opened t)) ds r p refl refl refl (writes_no_more k (Duty.Ask (AskDuty.Opened t)) r p)
      (keys_owing s t (end_at s p).treated.opened (keys_heard (end_at t p).treated.items) (Duty.Ask (AskDuty.Opened t)) ds r p first both.0 both.1) fresh
  answered_owing k s (Duty.Ask (AskDuty.GoIdentity t)) ds r p first is fresh =
      let both = behind s t (end_at s p).treated.opened ds is in
      later k s t (Duty.Ask (AskDuty.GoIdentity t)) ds r p refl refl refl (writes_no_more k (Duty.Ask (AskDuty.GoIdentity t)) r p)
      (ap (owing s (end_at s p).treated.opened) (left_is (Duty.Ask (AskDuty.GoIdentity t)) ds p first) ∙ both.1) fresh
  answered_owing k s (Duty.Ask (AskDuty.AbortSend t)) ds r p first is fresh =
      let both = behind s t (end_at s p).treated.opened ds is in
      later k s t (Duty.Ask (AskDuty.AbortSend t)) ds r p refl refl refl (writes_no_more k (Duty.Ask (AskDuty.AbortSend t)) r p)
      (ap (owing s (end_at s p).treated.opened) (left_is (Duty.Ask (AskDuty.AbortSend t)) ds p first) ∙ both.1) fresh
  answered_owing k s (Duty.Ask (AskDuty.AbortReceive t)) ds r p first is fresh =
      let both = behind s t (end_at s p).treated.opened ds is in
      later k s t (Duty.Ask (AskDuty.AbortReceive t)) ds r p refl refl refl (writes_no_more k (Duty.Ask (AskDuty.AbortReceive t)) r p)
      (ap (owing s (end_at s p).treated.opened) (left_is (Duty.Ask (AskDuty.AbortReceive t)) ds p first) ∙ both.1) fresh
  answered_owing k s (Duty.Step (StepDuty.Look t)) ds r p first is fresh = absurd (false≢true is)
  answered_owing k s (Duty.Silent (SilentDuty.Timer t)) ds r p first is fresh = absurd (false≢true is)
  answered_owing k s _ ds r p first is fresh = absurd (false≢true is)

  -- L: before; M: behind it
  pub answered_stands : (L M : Type 0) (k : Codec C) (s : Side) (d : Duty) (ds : List Duty) (r : Reply) (p : PathState C) → p.agenda ≡ d ∷ ds → (d ≡ Duty.Step StepDuty.Events → ⊥)
      → (is_up (end_at s (answered k d r p)) ≡ true → L → M) → (d ≡ Duty.Ask (AskDuty.Live s) → M) → Stands L s p.agenda p → Stands M s (answered k d r p).agenda (answered k d r p)
  answered_stands L M k s d ds r p first other on told h up = ⊎_elim
      (λ lives. inl (on up lives))
      (λ owes. by (answered_owing k s d ds r p first (ap (owing s (end_at s p).treated.opened) (sym first) ∙ owes.0) owes.1))
      (h (ups_at s p (answered k d r p) (answered_next k d ds r p first other).ups up))
    where
      by : Owed k s d r p → M ⊎ ((owing s (end_at s (answered k d r p)).treated.opened (answered k d r p).agenda ≡ true) × Fresh (end_at s (answered k d r p)))
      by (inl live) = inl (told live)
      by (inr (inl dead)) = absurd (both_ways (is_up (end_at s (answered k d r p))) dead up)
      by (inr (inr owes)) = inr owes
