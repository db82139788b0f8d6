-- What path 0 sends, and what happens on it, as long as no options are taken away.
use Rattle.world_laws.proofs.Words.{◌≡◌, refl, sym, ◌∙◌, ap, subst, ℕ, ◌+◌, ◌-◌, ◌&&◌, ◌||◌, ◌==◌, not, inl, inr, ◌⊎◌, ⊎_elim, Bool, true, false, if◌then◌else◌}
use Rattle.world_laws.proofs.Words.{None, List, [], ◌∷◌, length, map, is_some, both_ways, false≢true, slice_get, Side, A, B, peer, Record, SendState}
use Rattle.world_laws.proofs.Words.{RecordKind, Syn, Data, Fin, is_unsent, first_unsent_sent, first_sent, expired_records, after_resent, after_fin_sent}
use Rattle.world_laws.proofs.Words.{is_closed_to_segments, is_opening, may_finish, is_waiting, is_syn, after_sending, EndState, is_some_record, EndPhase}
use Rattle.world_laws.proofs.Words.{Occasion, PlainSegment, meant, Duty, is_nil, PathEnd, died, is_connected, PathState, end_at, Carried, first_unsent}
use Rattle.world_laws.proofs.Words.{first_record, resend_said, having_sent_fin, fin_said, record_or_ack, having_sent, Every, if_so}
use Rattle.subflow_send.specs.Rules.{after_finish, fin_sent}
use Rattle.subflow_send.specs.Sendings.{sent_again}
use Rattle.world_laws.proofs.Keys.AnswerHeardFirst.{finish_apart, is_apart}
use Rattle.world_laws.proofs.Keys.AreDrawn.{is_past}
use Rattle.world_laws.proofs.Lanes.Records.{every_at, every_find}
use Rattle.world_laws.proofs.Whole.Bytes.{Grows, IsOld, NoneAt, NoneBelow, Remains, acknowledged_remains, at_later, fin_grows, fin_sent_remains, fin_well, finished_at, remains_grows, remains_well, sent_remains}
use Rattle.world_laws.proofs.Whole.Copies.{HeardIs, Knows, MaySay, MayWrite, Speaks, fin_is, record_or_ack_is, resend_is}
use Rattle.world_laws.proofs.Whole.Ends.{Base, EndIs, Opens, Parts, Unmet, parts_of}
use Rattle.world_laws.proofs.Whole.Paths.{PathIs, Steps, end_is, moved_step}

-- what is known of an end that didn't fall back
pub record Plain (e : PathEnd) : Type 0 where
  pub identity : e.modes.identity ≡ false
  pub own : e.modes.own_infinite ≡ None
  pub unfinished : may_finish e.tcp.state ≡ true → e.tcp.send.finished ≡ false

pub record PathPlain (p : PathState Carried) : Type 0 where
  pub a : Plain p.a
  pub b : Plain p.b
  pub waits : is_waiting p.a.tcp.state ≡ false

pub plain_at : (s : Side) (p : PathState Carried) → PathPlain p → Plain (end_at s p)
plain_at = elim [ A ↦ λ p h. h.a | B ↦ λ p h. h.b ]

-- ---- states

pub connected_past : (state : EndPhase) → is_connected state ≡ true → is_past state ≡ true
connected_past EndPhase.Waiting is = absurd (false≢true is)
connected_past EndPhase.Listen is = absurd (false≢true is)
connected_past EndPhase.SynSent is = absurd (false≢true is)
connected_past EndPhase.SynReceived is = absurd (false≢true is)
connected_past EndPhase.Dead is = absurd (false≢true is)
connected_past _ is = refl

pub finish_past : (state : EndPhase) → may_finish state ≡ true → is_past state ≡ true
finish_past EndPhase.Established is = refl
finish_past EndPhase.CloseWait is = refl
finish_past EndPhase.Waiting is = absurd (false≢true is)
finish_past _ is = absurd (false≢true is)

-- ---- what is sent

unsent_some : (now : ℕ) (rs : List Record) → is_nil rs ≡ false → is_nil (first_unsent_sent now rs) ≡ false
unsent_some now [] some = some
unsent_some now (r ∷ rs) some =
    if_so (λ z. is_nil z ≡ false) (is_unsent r) (record r { sending = sent_again now r.sending } ∷ rs) (r ∷ first_unsent_sent now rs)
    refl refl

first_some : (now : ℕ) (rs : List Record) → is_nil rs ≡ false → is_nil (first_sent now rs) ≡ false
first_some now [] some = some
first_some now (r ∷ rs) some = refl

pub expired_some : (rs : List Record) → is_nil rs ≡ false → is_nil (expired_records rs) ≡ false
expired_some = elim [ [] ↦ λ some. some | r ∷ rs ↦ λ some. refl ]

fins_some : (now : ℕ) (rs : List Record) → is_nil rs ≡ false → is_nil (map (fin_sent now) rs) ≡ false
fins_some now [] some = some
fins_some now (r ∷ rs) some = refl

sent_some : (o : Occasion) (now : ℕ) (s : EndState) → is_nil s.send.records ≡ false → is_nil (after_sending o now s).send.records ≡ false
sent_some Occasion.SynAck now s some = elim (s.send.una == 0) as (λ b. is_nil (if b then after_resent now s.send else s.send).records ≡ false)
    [ true ↦ first_some now s.send.records some | false ↦ some ]
sent_some Occasion.First now s some = first_some now s.send.records some
sent_some Occasion.Unsent now s some = unsent_some now s.send.records some
sent_some Occasion.Fin now s some = fins_some now s.send.records some
sent_some _ now s some = some

-- records that are marked are SYNs where they were
pub syns_remain : (v w : SendState) → Remains v w → Every (λ r. is_syn r.kind ≡ true) v.records → Every (λ r. is_syn r.kind ≡ true) w.records
syns_remain v w h syns = record { each = λ i r there. let old : IsOld v r = h.records.each i r there in ap is_syn old.kind ∙ syns.each old.place old.it old.there }

module _ (s : Side) (ds : List Duty) (p : PathState Carried) (h : PathIs ds p) where
  abbrev e : PathEnd
  e = end_at s p

  abbrev vs : SendState
  vs = (end_at (peer s) p).tcp.send

  was : Base s vs (parts_of (end_at s p))
  was = (end_is s ds p h).base

  -- what is said by an end of which no more changes than what it sent, marked
  sent_ends : (o : Occasion) (now : ℕ) → EndIs s vs (record (parts_of (end_at s p)) { send = (after_sending o now e.tcp).send })
  sent_ends o now =
      let v : SendState = (after_sending o now e.tcp).send in
      let remains : Remains e.tcp.send v = sent_remains o now e.tcp in
      record {
        base = record { sends = remains_well e.tcp.send v remains was.sends; low = was.low; fin_at = was.fin_at; finite = was.finite; apart = was.apart; keyed = was.keyed; treated = was.treated };
        says = ⊎_elim (λ knows. inl knows) (λ (unmet : Unmet (parts_of (end_at s p))). inr (record {
          past = unmet.past;
          still = ⊎_elim (λ closed. inl closed)
              (λ (is : Opens (parts_of (end_at s p))). inr (record { state = is.state; syns = syns_remain e.tcp.send v remains is.syns; some = sent_some o now e.tcp is.some })) unmet.still;
        })) (end_is s ds p h).says;
      }

  sent_step : (o : Occasion) (now : ℕ) (f : PathEnd) → parts_of f ≡ record (parts_of (end_at s p)) { send = (after_sending o now e.tcp).send } → Steps s p f
  sent_step o now f same = record {
    end = subst (EndIs s vs) (sym same) (sent_ends o now);
    grows = subst (λ (y : Parts). Grows e.tcp.send y.send) (sym same) (remains_grows e.tcp.send _ (sent_remains o now e.tcp));
    knows = λ knows. subst (λ (y : Parts). Knows s y.peer_key y.asked) (sym same) knows;
  }

  sent_parts : (o : Occasion) (now : ℕ) (sg : PlainSegment) → parts_of (having_sent o now sg e) ≡ record (parts_of (end_at s p)) { send = (after_sending o now e.tcp).send }
  sent_parts Occasion.Reset now sg = refl
  sent_parts o now sg = refl

  pub having_step : (o : Occasion) (now : ℕ) (sg : PlainSegment) → Steps s p (having_sent o now sg e)
  having_step o now sg = sent_step o now (having_sent o now sg e) (sent_parts o now sg)

  pub died_step : Steps s p (died e)
  died_step = moved_step s ds p (died e) (remains_well e.tcp.send _ (acknowledged_remains e.tcp.send e.tcp.send.nxt) was.sends) (remains_grows e.tcp.send _ (acknowledged_remains e.tcp.send e.tcp.send.nxt))
      refl refl refl refl refl was.low refl (record { plain = refl; opens = λ is. absurd (false≢true is); holds = tt; finite = refl; answer = tt }) (λ unmet. record { past = refl; still = inl refl }) h

  module _ (plain : Plain (end_at s p)) where
    pub low_of : (e.modes.clear ≡ true) ⊎ NoneBelow e.tcp.recv.edge vs
    low_of = ⊎_elim (λ clear. inl clear) (λ (both : NoneBelow e.tcp.recv.edge vs × (e.receiving.mappings.live ≡ [])). inr both.0) was.low

    abbrev May : SendState → Record → Type 0
    May v r = MaySay p.profile s e vs v h.first plain.identity plain.own low_of r

    -- what it may write: all where it speaks, and as it opens SYNs alone
    abbrev pub Voice : Type 0
    Voice = Speaks s (end_at s p) ⊎ ((s ≡ A) × Opens (parts_of (end_at s p)))

    speaks_all : (t : Side) (kind : RecordKind) → s ≡ t → Speaks s (end_at s p) → MayWrite t kind (end_at s p)
    speaks_all A Syn same speaks = tt
    speaks_all A Data same speaks = subst (λ u. Speaks u (end_at s p)) same speaks
    speaks_all A Fin same speaks = subst (λ u. Speaks u (end_at s p)) same speaks
    speaks_all B kind same speaks = subst (λ u. Speaks u (end_at s p)) same speaks

    syn_of_a : (t : Side) (kind : RecordKind) → s ≡ t → s ≡ A → is_syn kind ≡ true → MayWrite t kind (end_at s p)
    syn_of_a A Syn same a syn = tt
    syn_of_a A Data same a syn = absurd (false≢true syn)
    syn_of_a A Fin same a syn = absurd (false≢true syn)
    syn_of_a B kind same a syn = cc

    writes_all : (v : SendState) → Grows e.tcp.send v → Voice → Every (May v) e.tcp.send.records
    writes_all v grows voice = record {
      each = λ i r there. record {
        speaks = ⊎_elim (λ knows. speaks_all s r.kind refl knows) (λ opens. syn_of_a s r.kind refl opens.0 (opens.1.syns.each i r there)) voice;
        fin = λ is. at_later (r.pos + length r.piece) e.tcp.send v grows (was.sends.fins.each i r there is);
      };
    }

    -- ---- what each duty sends

    pub opens_a : (t : Side) → s ≡ t → is_opening e.tcp.state ≡ true → s ≡ A
    opens_a A same opens = same
    opens_a B same opens = absurd (by e.tcp.state opens (subst (λ u. is_apart u e.tcp.state ≡ false) same was.apart))
      where
        by : (state : EndPhase) → is_opening state ≡ true → is_apart B state ≡ false → ⊥
        by EndPhase.SynSent opens apart = false≢true (sym apart)
        by EndPhase.Waiting opens apart = false≢true opens
        by _ opens apart = false≢true opens

    pub voice_open : is_closed_to_segments e.tcp.state ≡ false → Voice
    voice_open is_open = ⊎_elim (λ knows. inl knows)
        (λ (unmet : Unmet (parts_of (end_at s p))). ⊎_elim
        (λ closed. absurd (shut e.tcp.state is_open closed))
        (λ (is : Opens (parts_of (end_at s p))). inr (opens_a s refl is.state, is)) unmet.still)
        (end_is s ds p h).says
      where
        shut : (state : EndPhase) → is_closed_to_segments state ≡ false → (not (is_closed_to_segments state) || is_some e.tcp.timing.timer) ≡ false → ⊥
        shut state is_open closed = false≢true (sym (subst (λ b. (not b || is_some e.tcp.timing.timer) ≡ false) is_open closed))

    pub unsent_is : Voice → is_some (first_unsent e) ≡ true
        → HeardIs s vs (after_sending Occasion.Unsent p.clock e.tcp).send (meant (record_or_ack p.profile s (first_unsent e) e))
    unsent_is voice some =
        let v : SendState = (after_sending Occasion.Unsent p.clock e.tcp).send in
        record_or_ack_is p.profile s e vs v h.first plain.identity plain.own low_of (first_unsent e)
        (every_find is_unsent e.tcp.send.records (writes_all v (remains_grows e.tcp.send v (sent_remains Occasion.Unsent p.clock e.tcp)) voice))
        (λ none. absurd (both_ways (is_some (first_unsent e)) (ap is_some none) some))

    pub again_is : (v : SendState) → Grows e.tcp.send v → Speaks s (end_at s p) → HeardIs s vs v (meant (record_or_ack p.profile s (first_record e) e))
    again_is v grows speaks =
        record_or_ack_is p.profile s e vs v h.first plain.identity plain.own low_of (first_record e) (every_at 0 e.tcp.send.records (writes_all v grows (inl speaks))) (λ none. speaks)

    pub resend_said_is : (v : SendState) → Grows e.tcp.send v → Voice → HeardIs s vs v (meant (resend_said p.profile s e))
    resend_said_is v grows voice =
        resend_is p.profile s e vs v h.first plain.identity plain.own low_of (every_at 0 e.tcp.send.records (writes_all v grows voice))
        (⊎_elim (λ knows. inl knows) (λ opens. inr (some_first e.tcp.send.records opens.1.some)) voice)
      where
        some_first : (rs : List Record) → is_nil rs ≡ false → (is_some (slice_get rs 0) && is_some_record rs) ≡ true
        some_first = elim [ [] ↦ λ some. absurd (false≢true (sym some)) | r ∷ rs ↦ λ some. refl ]

    -- the FIN behind all, where none was sent
    pub fin_step : may_finish e.tcp.state ≡ true → Steps s p (having_sent_fin s p)
    fin_step may =
        let f : PathEnd = having_sent_fin s p in
        moved_step s ds p f (fin_well p.clock e.tcp.send was.sends) (fin_grows p.clock e.tcp.send) refl refl refl refl (finish_apart s e.tcp.state ∙ was.apart) was.low refl was.treated
        (λ unmet. absurd (both_ways (is_past e.tcp.state) unmet.past (finish_past e.tcp.state may))) h

    pub fin_said_is : may_finish e.tcp.state ≡ true → HeardIs s vs (having_sent_fin s p).tcp.send (meant (fin_said p.profile e))
    fin_said_is may =
        let w : SendState = after_finish e.tcp.send in
        fin_is p.profile s e vs (after_fin_sent p.clock w) h.first plain.identity plain.own low_of
        (at_later _ w (after_fin_sent p.clock w) (remains_grows w (after_fin_sent p.clock w) (fin_sent_remains w p.clock))
        (subst (λ (b : Bool). NoneAt ((if b then e.tcp.send.nxt - 1 else e.tcp.send.nxt) + 0) w) (sym (plain.unfinished may)) (finished_at e.tcp.send was.sends)))
