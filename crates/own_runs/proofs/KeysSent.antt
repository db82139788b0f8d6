-- A's control book has B's key only behind a segment of A on path 0 that shows both keys, or where path 0 sends that next.
use Rattle.std.proofs.Common.{◌≡◌, refl, sym, ap, ◌∙◌, subst, ℕ, inl, inr, ◌⊎◌, ⊎_elim, Bool, true, false, if◌then◌else◌, Option, Some, None, is_some, List, [], ◌∷◌}
use Rattle.std.specs.List.{list_any}
use Rattle.std.specs.Option.{IfSome}
use Rattle.std.proofs.lemmas.Bool.{both_ways, false≢true}
use Rattle.std.proofs.lemmas.Option.{same_Some}
use Rattle.actor_desk.specs.Desk.{SixBooks}
use Rattle.actor_desk.specs.Words.{tail_of}
use Rattle.actor_desk.specs.declared.ask.Ask.{Ask}
use Rattle.actor_desk.specs.declared.ask.Reply.{Reply}
use Rattle.path_agenda.specs.Items.{key_heard}
use Rattle.path_agenda.specs.declared.duty.AskDuty.{AskDuty}
use Rattle.path_agenda.specs.declared.duty.Duty.{Duty}
use Rattle.path_agenda.specs.declared.duty.SendDuty.{SendDuty}
use Rattle.path_core.specs.DssOut.{data_fin_mapping, fail_beside}
use Rattle.path_core.specs.Duties.{ask_for, stands}
use Rattle.path_core.specs.End.{PathEnd}
use Rattle.path_core.specs.Looking.{first_sends}
use Rattle.path_core.specs.MpCapable.{answered_peer_key, peer_key_ask, with_peer_key}
use Rattle.path_core.specs.MpJoin.{is_joined, third_options}
use Rattle.path_core.specs.OptionsOut.{ack_options, key_options}
use Rattle.path_core.specs.Profile.{Profile}
use Rattle.path_core.specs.State.{PathState, goes_on, with_agenda}
use Rattle.path_core.specs.Steps.{answers, asks_first, settled, takes}
use Rattle.path_core.specs.Turns.{FirstStands}
use Rattle.path_core.specs.Values.{Carried, values}
use Rattle.path_segments.specs.Spelled.{PlainSegment}
use Rattle.path_segments.specs.declared.segment.PathOption.TheVariants.{Dss}
use Rattle.sides.specs.declared.side.Side.TheVariants.{A}
use Rattle.world_laws.proofs.Keys.AnswerHeardFirst.{is_calm}
use Rattle.world_laws.proofs.Keys.ToldAreOwn.{HasPeerKey, NoMore, PathKnows}
use Rattle.world_laws.proofs.Whole.Falls.{PathUpright}
use Rattle.world_laws.proofs.Whole.Happening.{Holds, IsCalm, Next, Now}
use Rattle.world_laws.proofs.Whole.Paths.{Mark, marks}
use Rattle.own_runs.specs.KeysShown.{shows_keys}
use Rattle.own_runs.proofs.ClearKnows.{ClearKnows}
use Rattle.own_runs.proofs.KeyNext.{AsksKey, KeyNext, acking, living}
use Rattle.own_runs.proofs.KeyRuns.{SaysNext, duty_tells, is_key_told}
use Rattle.own_runs.proofs.KeyedPieces.{HasKey}

abbrev pub ShowsKeys : PlainSegment → Type 0
ShowsKeys sg = list_any shows_keys sg.options ≡ true

-- A acknowledges B's answer next, and shows both keys by that
pub record IsDue (K : Type 0) (p : PathState Carried) : Type 0 where
  pub ack : p.a.tcp.due.ack ≡ true
  pub key : HasKey p.a
  pub clear : p.a.modes.clear ≡ true → K
  pub shape : (p.agenda ≡ living) ⊎ (p.agenda ≡ acking)

pub more_due : (K L : Type 0) → (K → L) → (p : PathState Carried) → IsDue K p → IsDue L p
more_due K L more p h = record { ack = h.ack; key = h.key; clear = λ c. more (h.clear c); shape = h.shape }

acking_due : (K : Type 0) (q : PathState Carried) → q.a.tcp.due.ack ≡ true → HasKey q.a → (q.a.modes.clear ≡ true → K) → IsDue K (settled acking q)
acking_due K q ack key clear = by (stands (Duty.Send (SendDuty.Acknowledge A)) q) ack
  where
    by : (b : Bool) → b ≡ true → IsDue K (if b then with_agenda acking q else settled (tail_of acking) q)
    by true is = record { ack = ack; key = key; clear = clear; shape = inr refl }
    by false is = absurd (false≢true is)

living_due : (K : Type 0) (q : PathState Carried) → q.a.tcp.due.ack ≡ true → HasKey q.a → (q.a.modes.clear ≡ true → K) → IsDue K (settled living q)
living_due K q ack key clear = by (stands (Duty.Ask (AskDuty.Live A)) q)
  where
    by : (b : Bool) → IsDue K (if b then with_agenda living q else settled acking q)
    by true = record { ack = ack; key = key; clear = clear; shape = inl refl }
    by false = acking_due K q ack key clear

-- the acknowledgement shows them
shows_both : (c : Profile) (e : PathEnd) → e.modes.identity ≡ false → e.modes.clear ≡ false → e.modes.owes_third ≡ false → HasKey e → list_any shows_keys (ack_options c A None e) ≡ true
shows_both c e plain unclear third key = by e.modes.identity plain e.modes.clear unclear e.modes.owes_third third e.modes.peer_key key
  where
    by : (b : Bool) → b ≡ false → (x : Bool) → x ≡ false → (t : Bool) → t ≡ false → (o : Option ℕ) → is_some o ≡ true
        → list_any shows_keys (if b then [] else (if x then Dss (Some e.receiving.next) (data_fin_mapping c A None) ∷ fail_beside None e.modes else (if t then third_options e.modes else key_options c A o e))) ≡ true
    by true off x is t never o some = absurd (false≢true (sym off))
    by false off true is t never o some = absurd (false≢true (sym is))
    by false off false is true never o some = absurd (false≢true (sym never))
    by false off false is false never None some = absurd (false≢true some)
    by false off false is false never (Some key) some = refl

-- an ask by which the book is told no key
pub untold : (p : PathState Carried) (ds : List Duty) (x : Ask) → asks_first values ds p ≡ Some x → is_calm ds ≡ true → is_key_told x ≡ true → ⊥
untold p [] x asks calm told = cc
untold p (d ∷ ds) x asks calm told = duty_tells p ⊥ ⊥ d ds (inl calm) (ap is_key_told (same_Some _ x asks) ∙ told)

module _ (key_a key_b : ℕ) (six : SixBooks) (p : PathState Carried) (first : is_joined p.profile ≡ false) (upright : PathUpright p) (knows : PathKnows key_a key_b true NoMore six p)
    (cleared : ClearKnows p) (K L : Type 0) (more : K → L) (book : HasPeerKey six A → K ⊎ IsDue K p) where
  -- A's end has the key behind the book's
  keyed_book : HasKey p.a → HasPeerKey six A
  keyed_book has = by p.a.modes.peer_key has (knows.is.a.modes.keyed first)
    where
      by : (o : Option ℕ) → is_some o ≡ true → IfSome o (λ key. HasPeerKey six A) → HasPeerKey six A
      by None some is = absurd (false≢true some)
      by (Some key) some is = is

  -- it isn't due
  undue : ((p.agenda ≡ living) ⊎ (p.agenda ≡ acking) → ⊥) → HasPeerKey six A → K
  undue other has = ⊎_elim (λ k. k) (λ (due : IsDue K p). absurd (other due.shape)) (book has)

  -- what is due is sent, or stays so
  due_step : (r : Reply) → (SaysNext A ShowsKeys p (first_sends p.agenda p) → L) → IsDue K p → L ⊎ IsDue L (takes values r p)
  due_step r says due = ⊎_elim lives acks due.shape
    where
      lives : p.agenda ≡ living → L ⊎ IsDue L (takes values r p)
      lives same =
          inr (subst (λ (ds : List Duty). IsDue L (settled (answers values ds r p).agenda (answers values ds r p))) (sym same)
          (subst (λ (ds : List Duty). IsDue L (settled (tail_of ds) (with_agenda (tail_of ds) p))) (sym same) (acking_due L (with_agenda acking p) due.ack due.key (λ c. more (due.clear c)))))

      acks : p.agenda ≡ acking → L ⊎ IsDue L (takes values r p)
      acks same = inl (by p.a.modes.clear refl)
        where
          third : (b : Bool) → p.a.modes.owes_third ≡ b → p.a.modes.owes_third ≡ false
          third false owes = owes
          third true owes = absurd (both_ways _ first (knows.is.a.modes.joins owes))

          by : (b : Bool) → p.a.modes.clear ≡ b → L
          by true clear = more (due.clear clear)
          by false unclear =
              says (subst (λ (ds : List Duty). SaysNext A ShowsKeys p (first_sends ds p)) (sym same)
              (refl, shows_both p.profile p.a (upright.identity A) unclear (third p.a.modes.owes_third refl) due.key))

  -- the key is learnt
  learns : (r : Reply) → AsksKey p → p.agenda ≡ Duty.Ask (AskDuty.PeerKey A) ∷ living → IsDue L (takes values r p)
  learns r asks same =
      subst (λ (ds : List Duty). IsDue L (settled (answers values ds r p).agenda (answers values ds r p))) (sym same) (by (key_heard p.a.treated.items) heard)
    where
      unclear : p.a.modes.clear ≡ true → L
      unclear c = more (undue (λ shape. ⊎_elim (λ is. other (sym same ∙ is)) (λ is. others (sym same ∙ is)) shape) (keyed_book (cleared c)))
        where
          other : Duty.Ask (AskDuty.PeerKey A) ∷ living ≡ living → ⊥
          other is = cc

          others : Duty.Ask (AskDuty.PeerKey A) ∷ living ≡ acking → ⊥
          others is = cc

      heard : key_heard p.a.treated.items ≡ None → ⊥
      heard none = by_holds p (upright.holds first) same none (subst (λ (ds : List Duty). FirstStands ds p) same knows.settled)
        where
          by_holds : (q : PathState Carried) → Holds q → q.agenda ≡ Duty.Ask (AskDuty.PeerKey A) ∷ living → key_heard q.a.treated.items ≡ None → stands (Duty.Ask (AskDuty.PeerKey A)) q ≡ true → ⊥
          by_holds q (Now q2 h) same none stood = h.marked Mark.Never (ap (marks Mark.Never) same)
          by_holds q (Next d ds q2 between now calm does passes) same none stood = at d (sym now ∙ same) calm
            where
              at : (d : Duty) → d ∷ ds ≡ Duty.Ask (AskDuty.PeerKey A) ∷ living → (stands d q ≡ true → IsCalm (ask_for values d q)) → ⊥
              at d is calm =
                  let it : d ≡ Duty.Ask (AskDuty.PeerKey A) = cc in
                  subst (λ (o : Option ℕ). IsCalm (peer_key_ask A o q)) none (subst (λ (x : Duty). stands x q ≡ true → IsCalm (ask_for values x q)) it calm stood)

      by : (o : Option ℕ) → (o ≡ None → ⊥) → IsDue L (settled (answered_peer_key A o r p).agenda (answered_peer_key A o r p))
      by None some = absurd (some refl)
      by (Some key) some =
          subst (λ (ds : List Duty). IsDue L (settled (tail_of ds) (goes_on A (with_peer_key (Some key) p.a) (tail_of ds) p))) (sym same)
          (living_due L (goes_on A (with_peer_key (Some key) p.a) living p) asks.0 refl unclear)

  pub path_step : KeyNext p → (x : Ask) → asks_first values p.agenda p ≡ Some x → (r : Reply) → (SaysNext A ShowsKeys p (first_sends p.agenda p) → L)
      → ((is_key_told x ≡ true → ⊥) → HasPeerKey six A) → L ⊎ IsDue L (takes values r p)
  path_step (inl calm) x asks r says before = ⊎_elim (λ k. inl (more k)) (λ due. due_step r says due) (book (before (untold p p.agenda x asks calm)))
  path_step (inr (joins, (ack, inl same))) x asks r says before =
      inl (more (undue (λ shape. ⊎_elim (λ is. one (sym same ∙ is)) (λ is. other (sym same ∙ is)) shape)
      (before (λ told. absurd (false≢true (ap is_key_told (same_Some _ x (sym (ap (λ (ds : List Duty). asks_first values ds p) same) ∙ asks)) ∙ told))))))
    where
      one : Duty.Ask (AskDuty.SynAnswered A) ∷ Duty.Ask (AskDuty.PeerKey A) ∷ living ≡ living → ⊥
      one is = cc

      other : Duty.Ask (AskDuty.SynAnswered A) ∷ Duty.Ask (AskDuty.PeerKey A) ∷ living ≡ acking → ⊥
      other is = cc
  path_step (inr (joins, (ack, inr same))) x asks r says before = inr (learns r (ack, inr same) same)
