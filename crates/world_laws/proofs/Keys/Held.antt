-- What the ends of a path know of keys and nonces, and hear of them, and how they go on.
use Rattle.world_laws.proofs.Words.{◌≡◌, refl, sym, ◌∙◌, ap, subst, ℕ, zero, suc, ◌||◌, ◌==◌, not, Bool, true, false, if◌then◌else◌, Option, Some, None}
use Rattle.world_laws.proofs.Words.{Ok, Err, List, [], ◌∷◌, remove, both_ways, false≢true, slice_get, IfSome, option_or, result_ok, Verdict, FallEvent, Address}
use Rattle.world_laws.proofs.Words.{token_of, join_b64_of, Side, A, B, peer, JoinForm, Answer, Third, CapableKeys, NoKey, Sender, Both, WithData, Asked}
use Rattle.world_laws.proofs.Words.{JoinAnswer, BadHmac, answer_heard, answer_taken, syn_heard, ControlReply, is_closed_to_segments, is_opening, is_dead}
use Rattle.world_laws.proofs.Words.{may_finish, is_waiting, EndPhase, after_syn, unkept, after_begin, changed, next_number, Flight, is_stripped}
use Rattle.world_laws.proofs.Words.{is_altered, PlainOption, PlainSegment, Capable, Join, Dss, AddAddr, Fail, Duty, OwnNotice, Heard, KeyPair}
use Rattle.world_laws.proofs.Words.{replaced, key_heard, keys_heard, is_of_step, join_heard, PeerNotice, JoinStep, Reply, PathEnd, died, modes_told, PathState}
use Rattle.world_laws.proofs.Words.{end_at, goes_on, with_end, with_agenda, left, Carried, as_arrived, carried_by, stripped, altered, values, died_unless_dead}
use Rattle.world_laws.proofs.Words.{is_listening, joined_by, opened_by, syn_of_window, with_mode_refused, is_joined, join_answer, join_asked, peer_key_of}
use Rattle.world_laws.proofs.Words.{join_value, after_fell, fell_in, mode_in, after_keys, keys_in, Profile, sent_on, Modes, Every-nil, Every, if_so, handed}
use Rattle.mptcp_options.specs.declared.join.JoinForm.TheVariants.{Syn as JoinSyn}
use Rattle.path_segments.specs.declared.segment.PathOption.TheVariants.{FastClose}
use Rattle.world_laws.proofs.Keys.AreDrawn.{Deed, Secrets, KeysFor, AddressIs, NoteIs, PeerNoteIs, ShownBy, twice, of_b, told_in, is_past, known_in, OfB, IsFor, drawn_key, drawn_nonce, JoinIs, OptionIs, SegmentIs, ItemIs, ModesAre, EndIs, HasMet, Knows, met_needs, same_knows, same_end}
use Rattle.world_laws.proofs.Keys.WhatWakes.{NoWaking, Voice, is_said_by, speaks, tail_speaks}
use Rattle.world_laws.proofs.Lanes.Saying.{handed_kept}

-- ---- what a reply says of the modes leaves the keys

pub look_leaves : (r : Reply) (m : Modes) → known_in (modes_told r m) ≡ known_in m
look_leaves (Reply.Send reply) m = refl
look_leaves (Reply.Reassembly reply) m = refl
look_leaves Reply.Done m = refl
look_leaves (Reply.Control reply) m = elim reply as (λ reply. known_in (modes_told (Reply.Control reply) m) ≡ known_in m)
    [ ControlReply.Standing mode standby sole notice ↦ refl | ControlReply.Noted ↦ refl | _ ↦ refl ]

pub verdict_leaves : (r : Reply) (m : Modes) → known_in (mode_in r m) ≡ known_in m
verdict_leaves (Reply.Send reply) m = refl
verdict_leaves (Reply.Reassembly reply) m = refl
verdict_leaves Reply.Done m = refl
verdict_leaves (Reply.Control reply) m = elim reply as (λ reply. known_in (mode_in (Reply.Control reply) m) ≡ known_in m)
    [ ControlReply.Verdict v ↦ by_verdict v | ControlReply.Noted ↦ refl | _ ↦ refl ]
  where
    by_verdict : (v : Verdict) → known_in (mode_in (Reply.Control (ControlReply.Verdict v)) m) ≡ known_in m
    by_verdict = elim [ Verdict.Went mode ↦ refl | _ ↦ refl ]

pub fell_leaves : (event : FallEvent) (r : Reply) (m : Modes) → known_in (fell_in event r m) ≡ known_in m
fell_leaves FallEvent.PlainData r m = verdict_leaves r m
fell_leaves FallEvent.PlainAck r m = verdict_leaves r m
fell_leaves FallEvent.PlainHandshake r m = verdict_leaves r m
fell_leaves _ r m = verdict_leaves r m

-- both keys are noted
abbrev pub is_noted : Reply → Bool
is_noted (Reply.Control ControlReply.Noted) = true
is_noted _ = false

-- ---- what is under way

pub in_removed : {X : Type 0} (xs : List X) (i k : ℕ) (x : X) → slice_get (remove xs i) k ≡ Some x → (j : ℕ) × (slice_get xs j ≡ Some x)
in_removed [] zero k x is = absurd (let never : None ≡ Some x = is in cc)
in_removed [] (suc i) k x is = absurd (let never : None ≡ Some x = is in cc)
in_removed (y ∷ xs) zero k x is = (suc k, is)
in_removed (y ∷ xs) (suc i) zero x is = (0, is)
in_removed (y ∷ xs) (suc i) (suc k) x is = let rest = in_removed xs i k x is in (suc rest.0, rest.1)

-- an end that opens is open
pub opening_open : (state : EndPhase) → is_opening state ≡ true → is_closed_to_segments state ≡ false
opening_open = elim [ EndPhase.SynSent ↦ λ is. refl | _ ↦ λ is. absurd (false≢true is) ]

-- an end that may finish is open
pub finish_open : (state : EndPhase) → may_finish state ≡ true → is_closed_to_segments state ≡ false
finish_open EndPhase.Established is = refl
finish_open EndPhase.CloseWait is = refl
finish_open EndPhase.Waiting is = absurd (false≢true is)
finish_open _ is = absurd (false≢true is)

pub not_closed : (b : Bool) → not b ≡ true → b ≡ false
not_closed = elim [ false ↦ λ is. refl | true ↦ λ is. absurd (false≢true is) ]

-- an event that a path tells: not both keys, and no end of the connection
abbrev pub IsSign : FallEvent → Type 0
IsSign FallEvent.MappingHeard = Unit {0}
IsSign FallEvent.AckHeard = Unit {0}
IsSign FallEvent.PlainHandshake = Unit {0}
IsSign FallEvent.PlainData = Unit {0}
IsSign FallEvent.PlainAck = Unit {0}
IsSign FallEvent.InfiniteHeard = Unit {0}
IsSign FallEvent.CheckFailed = Unit {0}
IsSign (FallEvent.FailHeard contiguous) = Unit {0}
IsSign _ = ⊥

module _ (k : Secrets) (right : Bool) (w : Side → Type 0) (did : Deed → Side → Type 0) where
  abbrev pub FlightIs : Profile → Flight Carried → Type 0
  FlightIs c f = SegmentIs k right w did c (peer f.to) f.carried.segment

  -- on a path that joins
  abbrev pub OnJoined : Profile → Type 0 → Type 0
  OnJoined c P = is_joined c ≡ true → P

  -- What is still to be said needs what its end knows, and a side that falls isn't on a path that joins. A side that aborts was stopped
  -- by the peer, whose application asked for it.
  abbrev pub VoiceIs : PathState Carried → Voice → Type 0
  VoiceIs p (Voice.Says t) = OnJoined p.profile (Knows k right w did t (end_at t p).modes)
  VoiceIs p (Voice.Falls t) = (is_joined p.profile ≡ false) × did Deed.Fell t
  VoiceIs p (Voice.Aborts t) = did Deed.Stopped t × did Deed.Closed (peer t)

  abbrev pub AreKnown : PathState Carried → List Duty → Type 0
  AreKnown p ds = (x : Voice) → speaks x ds ≡ true → VoiceIs p x

  pub record PathIs (p : PathState Carried) : Type 0 where
    pub a : EndIs k right w did (is_joined p.profile) A p.a
    pub b : EndIs k right w did (is_joined p.profile) B p.b
    pub copies : Every (FlightIs p.profile) p.link.under_way
    pub known : AreKnown p p.agenda
    -- A waits on no path but those that join
    pub waits : is_waiting p.a.tcp.state ≡ true → is_joined p.profile ≡ true

  pub end_is : (s : Side) (p : PathState Carried) → PathIs p → EndIs k right w did (is_joined p.profile) s (end_at s p)
  end_is = elim [ A ↦ λ p h. h.a | B ↦ λ p h. h.b ]

  -- ---- an end goes on

  -- nothing more is to be said
  abbrev pub Fewer : PathState Carried → List Duty → Type 0
  Fewer p ds = (x : Voice) → speaks x ds ≡ true → speaks x p.agenda ≡ true

  pub none_left : (p : PathState Carried) → Fewer p (left p)
  none_left p x is = tail_speaks x p.agenda is

  -- an end of this side that knows what it knew
  abbrev pub Stays : Side → PathEnd → PathState Carried → Type 0
  Stays s e p = OnJoined p.profile (Knows k right w did s (end_at s p).modes → Knows k right w did s e.modes)

  -- an end waits only where it waited
  abbrev Still : Side → PathEnd → PathState Carried → Type 0
  Still s e p = is_waiting e.tcp.state ≡ true → is_waiting (end_at s p).tcp.state ≡ true

  -- with other notices
  pub requeued : (joined : Bool) (s : Side) (queue : List OwnNotice) (e : PathEnd) → Every (NoteIs k right w did s) queue → EndIs k right w did joined s e
      → EndIs k right w did joined s (record e { notices = record e.notices { queue = queue } })
  requeued joined s queue e each h = record { modes = h.modes; items = h.items; woken = h.woken; past = h.past; carries = h.carries; queued = each; failing = h.failing }

  pub goes_by : (s : Side) (e : PathEnd) (ds : List Duty) (p : PathState Carried) → EndIs k right w did (is_joined p.profile) s e → Still s e p → AreKnown (with_end s e p) ds → PathIs p
      → PathIs (goes_on s e ds p)
  goes_by A e ds p own still known h = record { a = own; b = h.b; copies = h.copies; known = by known; waits = λ waiting. h.waits (still waiting) }
    where
      by : AreKnown (with_end A e p) ds → (x : Voice) → speaks x ds ≡ true → VoiceIs (goes_on A e ds p) x
      by all (Voice.Says A) spoken = all (Voice.Says A) spoken
      by all (Voice.Says B) spoken = all (Voice.Says B) spoken
      by all (Voice.Falls t) spoken = all (Voice.Falls t) spoken
      by all (Voice.Aborts t) spoken = all (Voice.Aborts t) spoken
  goes_by B e ds p own still known h = record { a = h.a; b = own; copies = h.copies; known = by known; waits = h.waits }
    where
      by : AreKnown (with_end B e p) ds → (x : Voice) → speaks x ds ≡ true → VoiceIs (goes_on B e ds p) x
      by all (Voice.Says A) spoken = all (Voice.Says A) spoken
      by all (Voice.Says B) spoken = all (Voice.Says B) spoken
      by all (Voice.Falls t) spoken = all (Voice.Falls t) spoken
      by all (Voice.Aborts t) spoken = all (Voice.Aborts t) spoken

  -- an end that knows what it knew lets all be known
  pub with_voice : (s : Side) (e : PathEnd) (p : PathState Carried) → Stays s e p → (x : Voice) → VoiceIs p x → VoiceIs (with_end s e p) x
  with_voice A e p stays (Voice.Says A) has = λ is. stays is (has is)
  with_voice B e p stays (Voice.Says B) has = λ is. stays is (has is)
  with_voice A e p stays (Voice.Says B) has = has
  with_voice B e p stays (Voice.Says A) has = has
  with_voice A e p stays (Voice.Falls t) has = has
  with_voice B e p stays (Voice.Falls t) has = has
  with_voice A e p stays (Voice.Aborts t) has = has
  with_voice B e p stays (Voice.Aborts t) has = has

  -- the other end knows what it knew
  pub fewer_known : (s : Side) (e : PathEnd) (ds : List Duty) (p : PathState Carried) → Fewer p ds → Stays s e p → PathIs p → AreKnown (with_end s e p) ds
  fewer_known s e ds p fewer stays h x spoken = with_voice s e p stays x (h.known x (fewer x spoken))

  pub goes_is : (s : Side) (e : PathEnd) (ds : List Duty) (p : PathState Carried) → EndIs k right w did (is_joined p.profile) s e → Still s e p → Fewer p ds → Stays s e p → PathIs p → PathIs (goes_on s e ds p)
  goes_is s e ds p own still fewer stays h = goes_by s e ds p own still (fewer_known s e ds p fewer stays h) h

  pub with_is : (s : Side) (e : PathEnd) (p : PathState Carried) → EndIs k right w did (is_joined p.profile) s e → Still s e p → Stays s e p → PathIs p → PathIs (with_end s e p)
  with_is s e p own still stays h = (elim s as (λ s. PathIs (goes_on s e p.agenda p) → PathIs (with_end s e p)) [
    | A ↦ λ g. record { a = g.a; b = g.b; copies = g.copies; known = g.known; waits = g.waits }
    | B ↦ λ g. record { a = g.a; b = g.b; copies = g.copies; known = g.known; waits = g.waits }
  ]) (goes_is s e p.agenda p own still (λ x is. is) stays h)

  pub agenda_is : (ds : List Duty) (p : PathState Carried) → Fewer p ds → PathIs p → PathIs (with_agenda ds p)
  agenda_is ds p fewer h = record { a = h.a; b = h.b; copies = h.copies; known = by; waits = h.waits }
    where
      by : (x : Voice) → speaks x ds ≡ true → VoiceIs (with_agenda ds p) x
      by (Voice.Says A) spoken = h.known (Voice.Says A) (fewer (Voice.Says A) spoken)
      by (Voice.Says B) spoken = h.known (Voice.Says B) (fewer (Voice.Says B) spoken)
      by (Voice.Falls t) spoken = h.known (Voice.Falls t) (fewer (Voice.Falls t) spoken)
      by (Voice.Aborts t) spoken = h.known (Voice.Aborts t) (fewer (Voice.Aborts t) spoken)

  -- what is said by a duty in the place of the first one may be said
  pub replaced_known : (s : Side) (d : Duty) (e : PathEnd) (p : PathState Carried) → ((x : Voice) → is_said_by x d ≡ true → VoiceIs (with_end s e p) x) → Stays s e p → PathIs p
      → AreKnown (with_end s e p) (replaced d p.agenda)
  replaced_known s d e p own stays h = by p.agenda h.known
    where
      by : (ds : List Duty) → ((x : Voice) → speaks x ds ≡ true → VoiceIs p x) → (x : Voice) → speaks x (replaced d ds) ≡ true → VoiceIs (with_end s e p) x
      by [] known x spoken = with_voice s e p stays x (known x spoken)
      by (first ∷ ds) known x spoken = (elim (is_said_by x d) as (λ b. is_said_by x d ≡ b → b || speaks x ds ≡ true → VoiceIs (with_end s e p) x)
          [ true ↦ λ said rest. own x said | false ↦ λ said rest. with_voice s e p stays x (known x (tail_speaks x (first ∷ ds) rest)) ]) refl spoken

  pub stays_same : (s : Side) (e : PathEnd) (p : PathState Carried) → known_in e.modes ≡ known_in (end_at s p).modes → Stays s e p
  stays_same s e p same is knows = same_knows k right w did s (end_at s p).modes e.modes same knows

  pub kept_end : (joined : Bool) (s : Side) (e f : PathEnd) → known_in f.modes ≡ known_in e.modes → told_in f ≡ told_in e → NoWaking e.tcp f.tcp → EndIs k right w did joined s e
      → EndIs k right w did joined s f
  kept_end joined s e f same told up h = same_end k right w did joined s e f same told up.up up.past h

  -- with the same keys, and nothing more heard
  pub same_goes : (s : Side) (e : PathEnd) (ds : List Duty) (p : PathState Carried) → known_in e.modes ≡ known_in (end_at s p).modes
      → told_in e ≡ told_in (end_at s p) → NoWaking (end_at s p).tcp e.tcp → Fewer p ds → PathIs p → PathIs (goes_on s e ds p)
  same_goes s e ds p same told up fewer h =
      goes_is s e ds p (kept_end (is_joined p.profile) s (end_at s p) e same told up (end_is s p h)) up.waits fewer (stays_same s e p same) h

  -- ---- a segment is handed over

  changed_is : (c : Profile) (s : Side) (strips alters : Bool) (carried : Carried) → SegmentIs k right w did c s carried.segment
      → SegmentIs k right w did c s (changed stripped altered strips alters carried).segment
  changed_is c s true true carried h = h
  changed_is c s true false carried h = h
  changed_is c s false true carried h = h
  changed_is c s false false carried h = h

  -- what arrives is such a segment where what was carried is
  pub arrived_is : (c : Profile) (s : Side) (carried : Carried) → SegmentIs k right w did c s carried.segment → SegmentIs k right w did c s (as_arrived carried)
  arrived_is c s carried h = if_so (λ z. SegmentIs k right w did c s (record carried.segment { options = z })) carried.stripped [] carried.segment.options (Every-nil _) h

  said_copies : (s : Side) (segment : PlainSegment) (p : PathState Carried) → SegmentIs k right w did p.profile s segment → Every (FlightIs p.profile) p.link.under_way
      → Every (FlightIs p.profile) (handed values s segment p).under_way
  said_copies A segment p said copies =
      let number = next_number A p.link in
      handed_kept (FlightIs p.profile) A segment p
      (λ tick. changed_is p.profile A (is_stripped A number p.clock p.link.lines) (is_altered A number p.link.lines) (carried_by p.profile.spelling A segment) said) copies
  said_copies B segment p said copies =
      let number = next_number B p.link in
      handed_kept (FlightIs p.profile) B segment p
      (λ tick. changed_is p.profile B (is_stripped B number p.clock p.link.lines) (is_altered B number p.link.lines) (carried_by p.profile.spelling B segment) said) copies

  pub sent_is : (s : Side) (segment : PlainSegment) (e : PathEnd) (ds : List Duty) (p : PathState Carried) → SegmentIs k right w did p.profile s segment
      → EndIs k right w did (is_joined p.profile) s e → Still s e p → Fewer p ds → Stays s e p → PathIs p → PathIs (sent_on values s segment e ds p)
  sent_is A segment e ds p said own still fewer stays h = let g = goes_is A e ds p own still fewer stays h in record {
    a = own;
    b = h.b;
    copies = said_copies A segment p said h.copies;
    known = by g.known;
    waits = g.waits;
  }
    where
      by : AreKnown (goes_on A e ds p) ds → (x : Voice) → speaks x ds ≡ true → VoiceIs (sent_on values A segment e ds p) x
      by all (Voice.Says A) spoken = all (Voice.Says A) spoken
      by all (Voice.Says B) spoken = all (Voice.Says B) spoken
      by all (Voice.Falls t) spoken = all (Voice.Falls t) spoken
      by all (Voice.Aborts t) spoken = all (Voice.Aborts t) spoken
  sent_is B segment e ds p said own still fewer stays h = let g = goes_is B e ds p own still fewer stays h in record {
    a = h.a;
    b = own;
    copies = said_copies B segment p said h.copies;
    known = by g.known;
    waits = g.waits;
  }
    where
      by : AreKnown (goes_on B e ds p) ds → (x : Voice) → speaks x ds ≡ true → VoiceIs (sent_on values B segment e ds p) x
      by all (Voice.Says A) spoken = all (Voice.Says A) spoken
      by all (Voice.Says B) spoken = all (Voice.Says B) spoken
      by all (Voice.Falls t) spoken = all (Voice.Falls t) spoken
      by all (Voice.Aborts t) spoken = all (Voice.Aborts t) spoken

  -- by an end with the same keys, to which nothing more was said
  pub same_sent : (s : Side) (segment : PlainSegment) (e : PathEnd) (ds : List Duty) (p : PathState Carried) → SegmentIs k right w did p.profile s segment
      → known_in e.modes ≡ known_in (end_at s p).modes → told_in e ≡ told_in (end_at s p) → NoWaking (end_at s p).tcp e.tcp → Fewer p ds → PathIs p
      → PathIs (sent_on values s segment e ds p)
  same_sent s segment e ds p said same told up fewer h =
      sent_is s segment e ds p said (kept_end (is_joined p.profile) s (end_at s p) e same told up (end_is s p h)) up.waits fewer (stays_same s e p same) h

  -- ---- ends

  pub died_is : (joined : Bool) (s : Side) (e : PathEnd) → EndIs k right w did joined s e → EndIs k right w did joined s (died e)
  died_is joined s e h = record { modes = h.modes; items = Every-nil _; woken = λ is up. absurd (false≢true up); past = λ is so. absurd (false≢true so); carries = tt; queued = Every-nil _; failing = λ is. tt }

  pub refused_is : (joined : Bool) (s : Side) (r : Reply) (e : PathEnd) → EndIs k right w did joined s e → EndIs k right w did joined s (with_mode_refused r e)
  refused_is joined s r e h = kept_end joined s e (with_mode_refused r e) refl refl (record { up = λ x. x; waits = λ x. x; past = λ x. x }) h

  pub unless_dead_is : (joined : Bool) (s : Side) (e : PathEnd) → EndIs k right w did joined s e → EndIs k right w did joined s (died_unless_dead e)
  unless_dead_is joined s e h = if_so (EndIs k right w did joined s) (is_dead e.tcp.state) e (died e) h (died_is joined s e h)

  pub fell_is : (joined : Bool) (s : Side) (event : FallEvent) (r : Reply) (e : PathEnd) → EndIs k right w did joined s e → EndIs k right w did joined s (after_fell event r e)
  fell_is joined s event r e h = kept_end joined s e (after_fell event r e) (fell_leaves event r e.modes) refl (record { up = λ x. x; waits = λ x. x; past = λ x. x }) h

  -- ---- what was heard

  module _ (joined : Bool) where
    pub key_found : (s : Side) (items : List Heard) → Every (ItemIs k right w did joined s) items → IfSome (key_heard items) (λ key. key ≡ drawn_key k right (peer s))
    key_found s [] h = tt
    key_found s (item ∷ items) h =
        (elim item as (λ item. ItemIs k right w did joined s item → IfSome (key_heard items) (λ key. key ≡ drawn_key k right (peer s)) → IfSome (key_heard (item ∷ items)) (λ key. key ≡ drawn_key k right (peer s))) [
          | Heard.PeerKey key ↦ λ own rest. own
          | Heard.Dss ↦ λ own rest. rest
          | _ ↦ λ own rest. rest
        ]) (h.each 0 item refl) (key_found s items (record { each = λ i x at. h.each (suc i) x at }))

    abbrev pub PairIs : Side → KeyPair → Type 0
    PairIs s keys = (joined ≡ false) × ((keys.own ≡ drawn_key k right s) × (keys.peer ≡ drawn_key k right (peer s)) × KeysFor k right w did s)

    pub pair_found : (s : Side) (items : List Heard) → Every (ItemIs k right w did joined s) items → IfSome (keys_heard items) (PairIs s)
    pair_found s [] h = tt
    pair_found s (item ∷ items) h = (elim item as (λ item. ItemIs k right w did joined s item → IfSome (keys_heard items) (PairIs s) → IfSome (keys_heard (item ∷ items)) (PairIs s)) [
      | Heard.Keys own other ↦ λ pair rest. pair
      | Heard.Dss ↦ λ pair rest. rest
      | _ ↦ λ pair rest. rest
    ]) (h.each 0 item refl) (pair_found s items (record { each = λ i x at. h.each (suc i) x at }))

    abbrev pub FormIs : Side → JoinForm → Type 0
    FormIs s form = (joined ≡ true) × (IsFor s form × (w (peer s) × (right ≡ true → JoinIs k right (peer s) form)))

    pub join_found : (s : Side) (of_step : JoinStep) (items : List Heard) → Every (ItemIs k right w did joined s) items → IfSome (join_heard of_step items) (FormIs s)
    join_found s of_step [] h = tt
    join_found s of_step (item ∷ items) h =
        (elim item as (λ item. ItemIs k right w did joined s item → IfSome (join_heard of_step items) (FormIs s) → IfSome (join_heard of_step (item ∷ items)) (FormIs s)) [
          | Heard.Join f ↦ λ is rest. form f (is_of_step of_step f) is rest
          | Heard.Dss ↦ λ is rest. rest
          | _ ↦ λ is rest. rest
        ]) (h.each 0 item refl) (join_found s of_step items (record { each = λ i x at. h.each (suc i) x at }))
      where
        form : (f : JoinForm) (b : Bool) → FormIs s f → IfSome (join_heard of_step items) (FormIs s)
            → IfSome (option_or (if b then Some f else None) (join_heard of_step items)) (FormIs s)
        form f true is rest = is
        form f false is rest = rest

    -- what is asked for, and what is answered
    abbrev pub AskedIs : Side → Asked → Type 0
    AskedIs s asked =
        (joined ≡ true) × ((s ≡ B) × (w (peer s) × (right ≡ true → (asked.token ≡ token_of (drawn_key k right s)) × (asked.nonce ≡ drawn_nonce k right (peer s)))))

    syn_at_b : (s : Side) (backup : Bool) (id token nonce : ℕ) → IsFor s (JoinSyn backup id token nonce) → s ≡ B
    syn_at_b = elim [ A ↦ λ backup id token nonce is. absurd is | B ↦ λ backup id token nonce is. refl ]

    asked_for : (s : Side) (o : Option JoinForm) → IfSome o (FormIs s) → IfSome (syn_heard (join_value o)) (AskedIs s)
    asked_for s None is = tt
    asked_for s (Some (JoinSyn backup id token nonce)) is = (
      is.0,
      (
        syn_at_b s backup id token nonce is.1.0,
        (
          is.1.1.0,
          λ sure. let both = is.1.1.1 sure in (both.0 ∙ ap (λ t. token_of (drawn_key k right t)) (twice s), both.1),
        ),
      ),
    )
    asked_for s (Some (Answer backup id hmac nonce)) is = tt
    asked_for s (Some (Third hmac)) is = tt

    pub asked_is : (s : Side) (items : List Heard) → Every (ItemIs k right w did joined s) items → IfSome (join_asked items) (AskedIs s)
    asked_is s items h = asked_for s (join_heard JoinStep.Syn items) (join_found s JoinStep.Syn items h)

    abbrev pub AnswerIs : Side → JoinAnswer → Type 0
    AnswerIs s answer = (s ≡ A) × (w (peer s) × (right ≡ true → answer.nonce ≡ drawn_nonce k right (peer s)))

    answer_at_a : (s : Side) (backup : Bool) (id hmac nonce : ℕ) → IsFor s (Answer backup id hmac nonce) → s ≡ A
    answer_at_a = elim [ A ↦ λ backup id hmac nonce is. refl | B ↦ λ backup id hmac nonce is. absurd is ]

    answered_so : (s : Side) (m : Modes) (o : Option JoinForm) → IfSome o (FormIs s)
        → IfSome (result_ok (answer_taken m.own_key (peer_key_of m) m.own_nonce (answer_heard (join_value o)))) (AnswerIs s)
    answered_so s m None is = tt
    answered_so s m (Some (JoinSyn backup id token nonce)) is = tt
    answered_so s m (Some (Third hmac)) is = tt
    answered_so s m (Some (Answer backup id hmac nonce)) is =
        elim (hmac == join_b64_of m.own_key (peer_key_of m) m.own_nonce nonce) as (λ b. IfSome (result_ok (if b then Ok (record { backup = backup; id = id; nonce = nonce }) else Err BadHmac)) (AnswerIs s)) [
          | true ↦ (answer_at_a s backup id hmac nonce is.1.0, (is.1.1.0, λ sure. (is.1.1.1 sure).1))
          | false ↦ tt
        ]

    pub answer_is_right : (s : Side) (m : Modes) (items : List Heard) → Every (ItemIs k right w did joined s) items → IfSome (join_answer items m) (AnswerIs s)
    answer_is_right s m items h = answered_so s m (join_heard JoinStep.Answer items) (join_found s JoinStep.Answer items h)

  -- ---- an end learns

  -- the peer's key, and on the path that opens the connection, that it may send a DSS
  pub rekeyed : (joined : Bool) (s : Side) (key : ℕ) (clear : Bool) (m : Modes) → key ≡ drawn_key k right (peer s) → (joined ≡ true → clear ≡ true → m.clear ≡ true) → did Deed.Keyed s
      → ModesAre k right w did joined s m → ModesAre k right w did joined s (record m { peer_key = Some key; clear = clear })
  rekeyed joined s key clear m is was keyed h = record {
    own = h.own;
    nonce = h.nonce;
    peer_is = λ sure. is;
    joins = h.joins;
    third = λ owes. let knows = h.third owes in (knows.0, λ sure. (ap (λ n. Some n) is, (knows.1 sure).1));
    cleared = λ joins now. h.cleared joins (was joins now);
    fell = h.fell;
    keyed = λ first. keyed;
    meets = λ sure now. of_b s _ (ap (λ n. Some n) is);
  }

  pub rekeyed_knows : (s : Side) (key : ℕ) (clear : Bool) (m : Modes) → key ≡ drawn_key k right (peer s) → Knows k right w did s m → Knows k right w did s (record m { peer_key = Some key; clear = clear })
  rekeyed_knows A key clear m is knows = (knows.0, λ sure. ap (λ n. Some n) is)
  rekeyed_knows B key clear m is knows = (knows.0, λ sure. (ap (λ n. Some n) is, (knows.1 sure).1))

  never_joins : (joined : Bool) (P : Type 0) → joined ≡ false → joined ≡ true → P
  never_joins joined P first joins = absurd (both_ways joined first joins)

  -- the book noted them, or nothing changes
  pub keys_are : (joined : Bool) (s : Side) (r : Reply) (o : Option KeyPair) (e : PathEnd) → IfSome o (PairIs joined s) → (is_noted r ≡ true → did Deed.Keyed s)
      → EndIs k right w did joined s e → EndIs k right w did joined s (after_keys r o e)
  keys_are joined s r o e pair keyed h = record {
    modes = modes r o pair keyed;
    items = h.items;
    woken = λ is up. knows r o pair (h.woken is up);
    past = h.past;
    carries = h.carries;
    queued = h.queued;
    failing = h.failing;
  }
    where
      modes : (r : Reply) (o : Option KeyPair) → IfSome o (PairIs joined s) → (is_noted r ≡ true → did Deed.Keyed s) → ModesAre k right w did joined s (keys_in r o e.modes)
      modes (Reply.Send reply) o pair keyed = h.modes
      modes (Reply.Reassembly reply) o pair keyed = h.modes
      modes Reply.Done o pair keyed = h.modes
      modes (Reply.Control reply) o pair keyed = by reply o pair keyed
        where
          by : (reply : ControlReply) (o : Option KeyPair) → IfSome o (PairIs joined s) → (is_noted (Reply.Control reply) ≡ true → did Deed.Keyed s)
              → ModesAre k right w did joined s (keys_in (Reply.Control reply) o e.modes)
          by ControlReply.Noted (Some keys) pair keyed = rekeyed joined s keys.peer true e.modes pair.1.1 (λ joins now. never_joins joined _ pair.0 joins) (keyed refl) h.modes
          by ControlReply.Noted None pair keyed = h.modes
          by ControlReply.NotYet o pair keyed = h.modes
          by _ o pair keyed = h.modes

      knows : (r : Reply) (o : Option KeyPair) → IfSome o (PairIs joined s) → Knows k right w did s e.modes → Knows k right w did s (keys_in r o e.modes)
      knows (Reply.Send reply) o pair has = has
      knows (Reply.Reassembly reply) o pair has = has
      knows Reply.Done o pair has = has
      knows (Reply.Control reply) o pair has = by reply o pair
        where
          by : (reply : ControlReply) (o : Option KeyPair) → IfSome o (PairIs joined s) → Knows k right w did s (keys_in (Reply.Control reply) o e.modes)
          by ControlReply.Noted (Some keys) pair = rekeyed_knows s keys.peer true e.modes pair.1.1 has
          by ControlReply.Noted None pair = has
          by ControlReply.NotYet o pair = has
          by _ o pair = has

  pub keys_stay : (s : Side) (r : Reply) (o : Option KeyPair) (p : PathState Carried) → IfSome o (PairIs (is_joined p.profile) s) → Stays s (after_keys r o (end_at s p)) p
  keys_stay s r o p pair is has = knows r o pair
    where
      m : Modes
      m = (end_at s p).modes

      knows : (r : Reply) (o : Option KeyPair) → IfSome o (PairIs (is_joined p.profile) s) → Knows k right w did s (keys_in r o m)
      knows (Reply.Send reply) o pair = has
      knows (Reply.Reassembly reply) o pair = has
      knows Reply.Done o pair = has
      knows (Reply.Control reply) o pair = by reply o pair
        where
          by : (reply : ControlReply) (o : Option KeyPair) → IfSome o (PairIs (is_joined p.profile) s) → Knows k right w did s (keys_in (Reply.Control reply) o m)
          by ControlReply.Noted (Some keys) pair = rekeyed_knows s keys.peer true m pair.1.1 has
          by ControlReply.Noted None pair = has
          by ControlReply.NotYet o pair = has
          by _ o pair = has

  -- ---- a join begins

  -- by the keys that the book of this side tells, which joined by that
  abbrev pub BeginIs : Side → KeyPair → Type 0
  BeginIs s keys = (keys.own ≡ drawn_key k right s) × (w s × (right ≡ true → keys.peer ≡ drawn_key k right (peer s)))

  pub opened_end : (s : Side) (o : Option KeyPair) (e : PathEnd) → IfSome o (BeginIs s) → EndIs k right w did true s e → (s ≡ A) → EndIs k right w did true s (opened_by o e)
  opened_end s None e is h a = h
  opened_end A (Some keys) e is h a = record {
    modes = record {
      own = is.0;
      nonce = h.modes.nonce;
      peer_is = λ sure. is.1.1 sure;
      joins = h.modes.joins;
      third = λ owes. let knows = h.modes.third owes in (knows.0, λ sure. (ap (λ n. Some n) (is.1.1 sure), (knows.1 sure).1));
      cleared = h.modes.cleared;
      fell = h.modes.fell;
      keyed = λ first. absurd (false≢true (sym first));
      meets = λ sure now. tt;
    };
    items = h.items;
    woken = λ joined up. (is.1.0, λ sure. ap (λ n. Some n) (is.1.1 sure));
    past = λ joined so. h.past refl (begun (is_waiting e.tcp.state) so);
    carries = h.carries;
    queued = h.queued;
    failing = h.failing;
  }
    where
      begun : (b : Bool) → is_past (if b then after_begin e.tcp else e.tcp).state ≡ true → is_past e.tcp.state ≡ true
      begun = elim [ true ↦ λ so. absurd (false≢true so) | false ↦ λ so. so ]
  opened_end B (Some keys) e is h a = cc

  pub opened_stays : (o : Option KeyPair) (e : PathEnd) → IfSome o (BeginIs A) → Knows k right w did A e.modes → Knows k right w did A (opened_by o e).modes
  opened_stays None e is has = has
  opened_stays (Some keys) e is has = (is.1.0, λ sure. ap (λ n. Some n) (is.1.1 sure))

  -- B hears the join that A asks for
  pub joined_end : (s : Side) (keys : KeyPair) (asked : Asked) (e : PathEnd) → BeginIs s keys → AskedIs true s asked → EndIs k right w did true s e
      → EndIs k right w did true s (joined_by keys asked e)
  joined_end s keys asked e is heard h = record {
    modes = record {
      own = is.0;
      nonce = h.modes.nonce;
      peer_is = λ sure. is.1.1 sure;
      joins = λ owes. refl;
      third = λ owes. (is.1.0, met);
      cleared = h.modes.cleared;
      fell = h.modes.fell;
      keyed = λ first. absurd (false≢true (sym first));
      meets = λ sure now. of_b s _ (ap (λ n. Some n) (is.1.1 sure));
    };
    items = h.items;
    woken = λ joined up. (is.1.0, λ sure. met_needs k right s (joined_by keys asked e).modes (met sure));
    past = λ joined so. subst w heard.1.0 is.1.0;
    carries = h.carries;
    queued = h.queued;
    failing = h.failing;
  }
    where
      met : right ≡ true → HasMet k right s (joined_by keys asked e).modes
      met sure = (ap (λ n. Some n) (is.1.1 sure), (heard.1.1.1 sure).1)

  pub joined_knows : (s : Side) (keys : KeyPair) (asked : Asked) (e : PathEnd) → BeginIs s keys → AskedIs true s asked → Knows k right w did s (joined_by keys asked e).modes
  joined_knows s keys asked e is heard = (is.1.0, λ sure. met_needs k right s (joined_by keys asked e).modes (ap (λ n. Some n) (is.1.1 sure), (heard.1.1.1 sure).1))

  pub joined_waits : (keys : KeyPair) (asked : Asked) (e : PathEnd) → is_waiting (joined_by keys asked e).tcp.state ≡ true → is_waiting e.tcp.state ≡ true
  joined_waits keys asked e =
      elim (is_listening e.tcp.state) as (λ b. is_waiting (if b then after_syn (unkept None) (syn_of_window e.treated.window) e.tcp else e.tcp).state ≡ true → is_waiting e.tcp.state ≡ true)
      [ true ↦ λ waiting. absurd (false≢true waiting) | false ↦ λ waiting. waiting ]

-- ---- the more sides joined

module _ (k : Secrets) (right : Bool) (w u : Side → Type 0) (did does : Deed → Side → Type 0) (more : (s : Side) → w s → u s) (further : (d : Deed) (s : Side) → did d s → does d s) where
  more_b : (s : Side) → OfB s (w B) → OfB s (u B)
  more_b = elim [ A ↦ λ h. h | B ↦ λ h. more B h ]

  more_shown : (s : Side) (keys : CapableKeys) → ShownBy k right w did s keys → ShownBy k right u does s keys
  more_shown s NoKey h = h
  more_shown s (Sender sender) h = h
  more_shown s (Both sender receiver) h = further Deed.Keyed s h
  more_shown s (WithData sender receiver len checksum) h = further Deed.Keyed s h

  more_address : (s : Side) (echo : Bool) (id : ℕ) (address : Address) (port hmac : Option ℕ) → AddressIs k right w did s echo id address port hmac → AddressIs k right u does s echo id address port hmac
  more_address s true id address port hmac h = h
  more_address s false id address port (Some hmac) h = (h.0, further Deed.Keyed (peer s) h.1)
  more_address s false id address port None h = h

  more_for : (s : Side) → KeysFor k right w did s → KeysFor k right u does s
  more_for = elim [ A ↦ λ h. h | B ↦ λ h. further Deed.Keyed A h ]

  more_heard : (s : Side) (notice : PeerNotice) → PeerNoteIs k right w did s notice → PeerNoteIs k right u does s notice
  more_heard s (PeerNotice.AddAddr id address port hmac) h = (h.0, further Deed.Keyed s h.1)
  more_heard s _ h = h

  more_note : (s : Side) (notice : OwnNotice) → NoteIs k right w did s notice → NoteIs k right u does s notice
  more_note s (OwnNotice.AddAddr id) h = (h.0, further Deed.Keyed (peer s) h.1)
  more_note s _ h = h

  more_option : (joined : Bool) (s : Side) (o : PlainOption) → OptionIs k right w did joined s o → OptionIs k right u does joined s o
  more_option joined s (Capable flag_a flag_c keys) h = (h.0, λ first. more_shown s keys (h.1 first))
  more_option joined s (Join form) h = (h.0, (more s h.1.0, h.1.1))
  more_option joined s (Dss next mapping) h = λ joins. more_b s (h joins)
  more_option joined s (AddAddr echo id address port hmac) h = more_address s echo id address port hmac h
  more_option joined s (Fail place) h = λ joins. more_b s (h joins)
  more_option joined s (FastClose key) h = further Deed.Closed s h
  more_option joined s _ h = h

  more_item : (joined : Bool) (s : Side) (item : Heard) → ItemIs k right w did joined s item → ItemIs k right u does joined s item
  more_item joined s (Heard.Keys own other) h = (h.0, (h.1.0, h.1.1, more_for s h.1.2))
  more_item joined s (Heard.Join form) h = (h.0, (h.1.0, (more (peer s) h.1.1.0, h.1.1.1)))
  more_item joined s (Heard.Notice notice) h = more_heard s notice h
  more_item joined s Heard.Fail h = λ joins. more_b (peer s) (h joins)
  more_item joined s (Heard.FastClose key) h = further Deed.Closed (peer s) h
  more_item joined s Heard.Dss h = λ joins. more_b (peer s) (h joins)
  more_item joined s _ h = h

  more_knows : (s : Side) (m : Modes) → Knows k right w did s m → Knows k right u does s m
  more_knows s m h = (more s h.0, h.1)

  more_end : (joined : Bool) (s : Side) (e : PathEnd) → EndIs k right w did joined s e → EndIs k right u does joined s e
  more_end joined s e h = record {
    modes = record {
      own = h.modes.own;
      nonce = h.modes.nonce;
      peer_is = h.modes.peer_is;
      joins = h.modes.joins;
      third = λ owes. let knows = h.modes.third owes in (more s knows.0, knows.1);
      cleared = λ joins now. more B (h.modes.cleared joins now);
      fell = λ is. let both = h.modes.fell is in (both.0, further Deed.Fell s both.1);
      keyed = λ first. has e.modes.peer_key (h.modes.keyed first);
      meets = h.modes.meets;
    };
    items = record { each = λ i x at. more_item joined s x (h.items.each i x at) };
    woken = λ joins up. more_knows s e.modes (h.woken joins up);
    past = λ joins so. more B (h.past joins so);
    carries = by e.notices.carrier h.carries;
    queued = record { each = λ i x at. more_note s x (h.queued.each i x at) };
    failing = λ joins. failed e.treated.failed_mapping (h.failing joins);
  }
    where
      failed : (o : Option ℕ) → IfSome o (λ place. OfB s (w B)) → IfSome o (λ place. OfB s (u B))
      failed = elim [ None ↦ λ joins. tt | Some place ↦ λ joins. more_b s joins ]

      has : (o : Option ℕ) → IfSome o (λ key. did Deed.Keyed s) → IfSome o (λ key. does Deed.Keyed s)
      has = elim [ None ↦ λ keyed. tt | Some key ↦ λ keyed. further Deed.Keyed s keyed ]

      by : (o : Option ℕ) → IfSome o (λ key. did Deed.Closed s) → IfSome o (λ key. does Deed.Closed s)
      by = elim [ None ↦ λ closed. tt | Some key ↦ λ closed. further Deed.Closed s closed ]

  pub more_is : (p : PathState Carried) → PathIs k right w did p → PathIs k right u does p
  more_is p h = record {
    a = more_end (is_joined p.profile) A p.a h.a;
    b = more_end (is_joined p.profile) B p.b h.b;
    copies = record { each = λ i f at. record { each = λ j o there. more_option (is_joined p.profile) (peer f.to) o ((h.copies.each i f at).each j o there) } };
    known = λ x spoken. more_voice x (h.known x spoken);
    waits = h.waits;
  }
    where
      more_voice : (x : Voice) → VoiceIs k right w did p x → VoiceIs k right u does p x
      more_voice (Voice.Says t) has = λ joins. more_knows t (end_at t p).modes (has joins)
      more_voice (Voice.Falls t) has = (has.0, further Deed.Fell t has.1)
      more_voice (Voice.Aborts t) has = (further Deed.Stopped t has.0, further Deed.Closed (peer t) has.1)
