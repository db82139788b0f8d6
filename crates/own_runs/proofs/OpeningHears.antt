-- What a copy that arrives makes of how an end opens: both SYNs are acknowledged where they were, where the copy answers its own SYN, or where it is taken
-- by an end that answered one.
use Rattle.std.proofs.Common.{◌≡◌, refl, sym, ap, ◌∙◌, subst, ℕ, arith, Bool, true, false, if◌then◌else◌, Some, ◌⊎◌, ⊎_elim, inl, inr, List, [], ◌∷◌, option_map}
use Rattle.std.specs.List.{list_any}
use Rattle.std.proofs.lemmas.Bool.{both_ways, false≢true}
use Rattle.path_agenda.specs.declared.heard.Heard.{Heard}
use Rattle.path_core.proofs.Judgements.{judged_taken}
use Rattle.path_core.specs.Arrival.{acknowledged_in, owing_if, with_payload}
use Rattle.path_core.specs.End.{PathEnd}
use Rattle.path_core.specs.Judged.{join_judged, judged_of, taken_as}
use Rattle.path_core.specs.MpJoin.{is_listening}
use Rattle.path_agenda.specs.Items.{wants_ack}
use Rattle.path_core.specs.OptionsIn.{owes_by}
use Rattle.path_core.specs.Standing.{is_connected}
use Rattle.path_core.specs.declared.judged.Judged.{Judged}
use Rattle.path_segments.specs.Spelled.{PlainSegment}
use Rattle.path_segments.specs.declared.position.HeardPosition.TheVariants.{At}
use Rattle.subflow_send.specs.Rules.{ack_kind, after_acknowledge, sample_of}
use Rattle.subflow_send.specs.declared.record.AckKind.{AckKind}
use Rattle.subflow_tcp.specs.Judging.{meaning_of}
use Rattle.subflow_tcp.specs.Segments.{Copy}
use Rattle.subflow_tcp.specs.State.{EndState}
use Rattle.subflow_tcp.specs.States.{after_fin_acked, after_handshake, is_closed_to_segments, is_dead, is_half_open}
use Rattle.subflow_tcp.specs.declared.handshake.State.{State as EndPhase}
use Rattle.subflow_tcp.specs.declared.segments.Hint.{Hint}
use Rattle.subflow_tcp.specs.declared.verdicts.Meaning.{Meaning}
use Rattle.subflow_tcp.specs.Taking as taking
use Rattle.world_laws.proofs.Keys.AreDrawn.{is_past}
use Rattle.world_laws.proofs.Keys.Meanings.{Means, means}
use Rattle.own_runs.proofs.InTime.{IsSynAck}
use Rattle.own_runs.proofs.KeyHears.{accepts_acked, acked_so}
use Rattle.own_runs.proofs.Learning.{is_unborn}
use Rattle.own_runs.proofs.OpeningEnds.{Still, TcpStill, dead_still, is_before, is_passive, met_so, met_still}

-- a copy that an end which opens accepts is an answer to its SYN
pub answered_so : (sg : PlainSegment) (s : EndState) (c : Copy) (n : ℕ) → c.syn ≡ sg.syn → c.acknowledged ≡ acknowledged_in (option_map (λ (k : ℕ). At k) sg.acknowledged)
    → (is_unborn s.state ≡ true → s.send.nxt ≡ 1) → meaning_of c s ≡ Meaning.Accepts n → IsSynAck sg
answered_so sg s c n syn acknowledged next is =
    let told = subst (Means c s) is (means c s) in
    let acked : sg.acknowledged ≡ Some n = acked_so sg.acknowledged n (sym acknowledged ∙ accepts_acked c s n told.0 is) in
    let one : s.send.nxt ≡ 1 = next (ap is_unborn told.0) in
    let some = told.1.1.1.0 in
    let most = told.1.1.1.1 in
    let same : n ≡ 1 = omega (arith, one, some, most) in
    record { syn = sym syn ∙ told.1.0; acknowledged = acked ∙ ap (λ (m : ℕ). Some m) same }

-- ---- what a copy is taken as

-- what it means, or nothing
pub taken_is : (joined rst : Bool) (items : List Heard) (m : Meaning) (e : PathEnd) → (taken_as (judged_of joined rst items m e) ≡ Meaning.Ignored) ⊎ (taken_as (judged_of joined rst items m e) ≡ m)
taken_is joined rst items m e = judged_taken rst items e (λ n. (n ≡ Meaning.Ignored) ⊎ (n ≡ m)) (inl refl) joined m (inr refl)

pub taken_means : (joined rst : Bool) (items : List Heard) (c : Copy) (e : PathEnd) → Means c e.tcp (taken_as (judged_of joined rst items (meaning_of c e.tcp) e))
taken_means joined rst items c e = judged_taken rst items e (λ n. Means c e.tcp n) tt joined (meaning_of c e.tcp) (means c e.tcp)

pub taken_accepts : (joined rst : Bool) (items : List Heard) (m : Meaning) (e : PathEnd) (n : ℕ) → taken_as (judged_of joined rst items m e) ≡ Meaning.Accepts n → m ≡ Meaning.Accepts n
taken_accepts joined rst items m e n is = ⊎_elim (λ none. (let never : Meaning.Ignored ≡ Meaning.Accepts n = sym none ∙ is in cc)) (λ same. sym same ∙ is) (taken_is joined rst items m e)

pub taken_opens : (joined rst : Bool) (items : List Heard) (m : Meaning) (e : PathEnd) → taken_as (judged_of joined rst items m e) ≡ Meaning.Opens → m ≡ Meaning.Opens
taken_opens joined rst items m e is = ⊎_elim (λ none. (let never : Meaning.Ignored ≡ Meaning.Opens = sym none ∙ is in cc)) (λ same. sym same ∙ is) (taken_is joined rst items m e)

-- a copy that waits for the control book, or is refused, is one that opens
abbrev pub is_waited : Judged → Bool
is_waited Judged.Asks = true
is_waited Judged.Lacks = true
is_waited _ = false

pub waited_opens : (joined rst : Bool) (items : List Heard) (m : Meaning) (e : PathEnd) → is_waited (judged_of joined rst items m e) ≡ true → m ≡ Meaning.Opens
waited_opens false rst items m e is = absurd (false≢true is)
waited_opens true rst items m e is = by m is
  where
    choose : (b : Bool) (x y : Judged) → is_waited x ≡ false → is_waited y ≡ false → is_waited (if b then x else y) ≡ true → ⊥
    choose true x y none other is = both_ways (is_waited x) none is
    choose false x y none other is = both_ways (is_waited y) other is

    takes : (b c : Bool) (k l : ℕ) → is_waited (if b then Judged.As Meaning.Ignored else (if c then Judged.Forged else Judged.As (Meaning.Taken k l))) ≡ true → ⊥
    takes true c k l is = false≢true is
    takes false true k l is = false≢true is
    takes false false k l is = false≢true is

    by : (m : Meaning) → is_waited (join_judged rst items m e) ≡ true → m ≡ Meaning.Opens
    by Meaning.Opens is = refl
    by (Meaning.Accepts k) is = absurd (choose _ (Judged.As (Meaning.Accepts k)) Judged.Forged refl refl is)
    by Meaning.RepeatedSyn is = absurd (false≢true is)
    by (Meaning.Taken k l) is = absurd (takes _ _ k l is)
    by Meaning.Ignored is = absurd (choose _ (Judged.As Meaning.Ignored) (Judged.As Meaning.Ignored) refl refl is)
    by m is = absurd (choose _ (Judged.As Meaning.Ignored) (Judged.As m) refl refl is)

-- only a dead end wants no segment
pub past_open : (state : EndPhase) → is_past state ≡ true → is_closed_to_segments state ≡ false
past_open EndPhase.Waiting is = absurd (false≢true is)
past_open EndPhase.Listen is = absurd (false≢true is)
past_open EndPhase.SynSent is = absurd (false≢true is)
past_open EndPhase.Dead is = absurd (false≢true is)
past_open _ is = refl

-- an end that has the peer's SYN answered it, or both SYNs are acknowledged
pub past_cases : (state : EndPhase) → is_past state ≡ true → (is_connected state ≡ true) ⊎ (is_half_open state ≡ true)
past_cases EndPhase.SynReceived is = inr refl
past_cases EndPhase.Waiting is = absurd (false≢true is)
past_cases EndPhase.Listen is = absurd (false≢true is)
past_cases EndPhase.SynSent is = absurd (false≢true is)
past_cases EndPhase.Dead is = absurd (false≢true is)
past_cases _ is = inl refl

pub half_passive : (state : EndPhase) → is_half_open state ≡ true → is_passive state ≡ true
half_passive EndPhase.SynReceived is = refl
half_passive EndPhase.Waiting is = absurd (false≢true is)
half_passive _ is = absurd (false≢true is)

past_living : (state : EndPhase) → is_past state ≡ true → is_dead state ≡ false
past_living EndPhase.Waiting is = absurd (false≢true is)
past_living EndPhase.Listen is = absurd (false≢true is)
past_living EndPhase.SynSent is = absurd (false≢true is)
past_living EndPhase.Dead is = absurd (false≢true is)
past_living _ is = refl

-- ---- what it makes of an end's subflow

-- the copy lets both SYNs be acknowledged
abbrev pub IsMeeting : Meaning → Type 0
IsMeeting (Meaning.Accepts n) = Unit {0}
IsMeeting (Meaning.Taken pos n) = Unit {0}
IsMeeting _ = ⊥

pub record Comes (m : Meaning) (s t : EndState) : Type 0 where
  pub connected : is_connected t.state ≡ true → (is_connected s.state ≡ true) ⊎ IsMeeting m
  pub passive : is_passive t.state ≡ true → is_passive s.state ≡ true
  pub dead : is_dead s.state ≡ true → is_dead t.state ≡ true
  pub listens : is_listening t.state ≡ true → is_listening s.state ≡ true
  pub opened : is_closed_to_segments t.state ≡ false → (is_closed_to_segments s.state ≡ false) ⊎ (m ≡ Meaning.Opens)
  pub still : TcpStill s → TcpStill t

-- the state stays
state_comes : (m : Meaning) (s t : EndState) → t.state ≡ s.state → (TcpStill s → TcpStill t) → Comes m s t
state_comes m s t state still = record {
  connected = λ is. inl (ap is_connected (sym state) ∙ is);
  passive = λ is. ap is_passive (sym state) ∙ is;
  dead = λ is. ap is_dead state ∙ is;
  listens = λ is. ap is_listening (sym state) ∙ is;
  opened = λ is. inl (ap is_closed_to_segments (sym state) ∙ is);
  still = still;
}

-- both SYNs are acknowledged then
met_comes : (m : Meaning) (s t : EndState) → is_dead s.state ≡ false → is_closed_to_segments s.state ≡ false → IsMeeting m → is_connected t.state ≡ true → Comes m s t
met_comes m s t living opens meets is =
    let met = met_so t.state is in
    record {
      connected = λ now. inr meets;
      passive = λ un. absurd (both_ways (is_passive t.state) met.active un);
      dead = λ un. absurd (both_ways (is_dead s.state) living un);
      listens = λ un. absurd (both_ways (is_listening t.state) met.speaks un);
      opened = λ now. inl opens;
      still = λ h. met_still t.state t.due t.timing.timer t.send.records is;
    }

acked_connected : (state : EndPhase) → is_connected (after_fin_acked state) ≡ is_connected state
acked_connected EndPhase.FinWait1 = refl
acked_connected EndPhase.Closing = refl
acked_connected EndPhase.Waiting = refl
acked_connected _ = refl

ack_connected : (pos now : ℕ) (s : EndState) → is_connected (taking.after_acknowledgement pos now s).state ≡ is_connected s.state
ack_connected pos now s = by (ack_kind pos s.send)
  where
    t : EndState
    t = record s { send = after_acknowledge pos s.send }

    new : (b : Bool) → is_connected (if b then after_fin_acked s.state else s.state) ≡ is_connected s.state
    new true = acked_connected s.state
    new false = refl

    by : (kind : AckKind) → is_connected (taking.after_ack_kind kind (sample_of pos s.send) now t).state ≡ is_connected s.state
    by (AckKind.New octets) = new (taking.is_fin_acked t.send)
    by _ = refl

handshake_connected : (state : EndPhase) → is_past state ≡ true → is_connected (after_handshake state) ≡ true
handshake_connected EndPhase.SynReceived is = refl
handshake_connected EndPhase.Waiting is = absurd (false≢true is)
handshake_connected EndPhase.Listen is = absurd (false≢true is)
handshake_connected EndPhase.SynSent is = absurd (false≢true is)
handshake_connected EndPhase.Dead is = absurd (false≢true is)
handshake_connected _ is = refl

taken_connected : (pos n : ℕ) (hint : Hint) (now : ℕ) (c : Copy) (s : EndState) → is_past s.state ≡ true → is_connected (taking.after_taken pos n hint now c s).state ≡ true
taken_connected pos n hint now c s past =
    let t : EndState = taking.after_established (taking.after_hearing (taking.after_payload pos hint c s)) in
    let a : EndState = taking.after_acknowledgement n now t in
    row (taking.is_duplicate (ack_kind n t.send) (taking.told_by hint c) c a) a ∙ ack_connected n now t ∙ handshake_connected s.state past
  where
    row : (b : Bool) (a : EndState) → is_connected (if b then taking.after_duplicate a else taking.after_interruption a).state ≡ is_connected a.state
    row true a = refl
    row false a = refl

owing_state : (b : Bool) (t : EndState) → (owing_if b t).state ≡ t.state
owing_state true t = refl
owing_state false t = refl

held_state : (pos n : ℕ) (octets : List ℕ) (s : EndState) → (with_payload (Meaning.Taken pos n) octets s).state ≡ s.state
held_state pos n [] s = refl
held_state pos n (x ∷ octets) s = refl

-- what isn't taken is answered: by the SYN/ACK where that isn't acknowledged
pub answering_still : (s : EndState) → is_past s.state ≡ true → TcpStill s → TcpStill (taking.after_answering s)
answering_still s past h = ⊎_elim (λ met. met_still s.state _ s.timing.timer s.send.records met)
    (λ half. (let b : is_half_open s.state ≡ true = half in by (is_half_open s.state) half)) (past_cases s.state past)
  where
    by : (b : Bool) → b ≡ true → Still s.state (if b then record s.due { syn_ack = true } else record s.due { ack = true }) s.timing.timer s.send.records
    by true is = record { acks = h.acks; again = h.again; timed = h.timed; syns = h.syns }
    by false is = absurd (false≢true is)

pub answering_due : (s : EndState) → is_past s.state ≡ true → ((taking.after_answering s).due.syn_ack ≡ true) ⊎ (is_connected s.state ≡ true)
answering_due s past = ⊎_elim (λ met. inr met) (λ half. inl (by (is_half_open s.state) half)) (past_cases s.state past)
  where
    by : (b : Bool) → b ≡ true → (if b then record s.due { syn_ack = true } else record s.due { ack = true }).syn_ack ≡ true
    by true is = refl
    by false is = absurd (false≢true is)

hearing_still : (s : EndState) → TcpStill s → TcpStill (taking.after_hearing s)
hearing_still s h = record { acks = h.acks; again = h.again; timed = h.timed; syns = h.syns }

pub copy_comes : (m : Meaning) (items : List Heard) (hint : Hint) (now : ℕ) (c : Copy) (octets : List ℕ) (s : EndState) → Means c s m
    → Comes m s (owing_if (owes_by m items) (taking.after_arrival m hint now c (with_payload m octets s)))
copy_comes (Meaning.Taken pos n) items hint now c octets s told =
    let held : EndState = with_payload (Meaning.Taken pos n) octets s in
    let past : is_past held.state ≡ true = ap is_past (held_state pos n octets s) ∙ told.0 in
    met_comes (Meaning.Taken pos n) s _ (past_living s.state told.0) (past_open s.state told.0) tt
    (ap is_connected (owing_state (list_any wants_ack items) (taking.after_taken pos n hint now c held)) ∙ taken_connected pos n hint now c held past)
copy_comes (Meaning.Accepts n) items hint now c octets s told =
    let t : EndState = record (taking.after_hearing (taking.after_payload 1 hint c s)) { state = EndPhase.Established } in
    met_comes (Meaning.Accepts n) s _ (ap is_dead told.0) (ap is_closed_to_segments told.0) tt (ack_connected n now t)
copy_comes Meaning.Opens items hint now c octets s told = record {
  connected = λ is. absurd (false≢true is);
  passive = λ is. ap is_passive told.0;
  dead = λ is. absurd (false≢true (sym (ap is_dead told.0) ∙ is));
  listens = λ is. absurd (false≢true is);
  opened = λ is. inr refl;
  still = λ h. record {
    acks = λ owed. absurd (false≢true (sym (ap is_connected told.0) ∙ h.acks owed));
    again = λ owed. refl;
    timed = λ runs. refl;
    syns = λ before. h.syns (ap is_before told.0);
  };
}
copy_comes Meaning.Kills items hint now c octets s told = record {
  connected = λ is. absurd (false≢true is);
  passive = λ is. absurd (false≢true is);
  dead = λ is. refl;
  listens = λ is. absurd (false≢true is);
  opened = λ is. absurd (false≢true (sym is));
  still = λ h. dead_still false _;
}
copy_comes Meaning.RepeatedSyn items hint now c octets s told =
    state_comes Meaning.RepeatedSyn s _ refl (λ h. record { acks = h.acks; again = h.again; timed = h.timed; syns = h.syns })
copy_comes Meaning.Outside items hint now c octets s told = state_comes Meaning.Outside s _ refl (λ h. answering_still s told h)
copy_comes Meaning.Challenged items hint now c octets s told = state_comes Meaning.Challenged s _ refl (λ h. answering_still (taking.after_hearing s) told (hearing_still s h))
copy_comes Meaning.Ahead items hint now c octets s told = state_comes Meaning.Ahead s _ refl (λ h. answering_still (taking.after_hearing s) told (hearing_still s h))
copy_comes Meaning.Unacknowledging items hint now c octets s told = state_comes Meaning.Unacknowledging s _ refl (λ h. hearing_still s h)
copy_comes Meaning.Ignored items hint now c octets s told = state_comes Meaning.Ignored s _ refl (λ h. h)
copy_comes Meaning.Unwanted items hint now c octets s told = state_comes Meaning.Unwanted s _ refl (λ h. h)
