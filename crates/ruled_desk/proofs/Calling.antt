-- A call at a book's table, from the ticket to the seat at rest.
use Rattle.ruled_desk.proofs.Words.{◌≡◌, sym, ◌∙◌, ap, subst, ℕ, Bool, true, false, ◌||◌, List, [], ◌∷◌, ◌++◌, Some, Result, Ok, Err, append-nil, OnErr, IfOk}
use Rattle.ruled_desk.proofs.Words.{TableId, Journaled, Entry, View, grown, HasTurn, HasOneMore, IsDone, IsDrawn, IsWaiting, IsAtRest, HasTaken, IsOut, view}
use Rattle.ruled_desk.proofs.Words.{takes_turn, waits, Seated, seated}
use Rattle.ruled_desk.specs.Called.{IsCalled, IsRefused}
use Rattle.ruled_desk.proofs.RuleSteps.{Mine}

module _ {O C R : Type 0} where
  -- a seat waits with the ticket that it drew
  pub is_waiting : (me drawn : Mine O C R) (shown : ℕ) → IsAtRest me.0 → me.1 ≡ [] → IsDrawn me shown drawn → IsWaiting drawn shown
  is_waiting me drawn shown rests light d = record {
    ticket = d.0;
    drawn = d.1;
    waits = ap (λ (m : Mine O C R). m.0.tickets) d.2;
    took = ap (λ (m : Mine O C R). m.0.took) d.2 ∙ rests.took;
    holds = ap (λ (m : Mine O C R). m.1) d.2 ∙ light;
  }

  pub has_slot : (me waited : Mine O C R) → HasTaken me waited → (book : Journaled O C R) × (waited.0.took ≡ book ∷ []) × (waited.1 ≡ (0, Some book) ∷ [])
  has_slot me waited t = (t.0, ap (λ (m : Mine O C R). m.0.took) t.1, ap (λ (m : Mine O C R). m.1) t.1)

  -- the book is out
  pub taken_out : (me drawn waited out : Mine O C R) (shown : ℕ) (held : Journaled O C R) → IsDrawn me shown drawn → HasTaken drawn waited → out.0 ≡ waited.0
      → HasTurn out held → IsOut held me out
  taken_out me drawn waited out shown held d t same turn =
      let first : drawn.0 ≡ waits d.0 me.0 = ap (λ (m : Mine O C R). m.0) d.2 in
      let second : waited.0 ≡ takes_turn t.0 drawn.0 = ap (λ (m : Mine O C R). m.0) t.1 in
      let whole : out.0 ≡ takes_turn t.0 me.0 = same ∙ second ∙ ap (λ (v : View (Journaled O C R) (Entry C R)). takes_turn t.0 v) first in
      let one : t.0 ∷ [] ≡ held ∷ [] = sym (ap (λ (v : View (Journaled O C R) (Entry C R)). v.took) whole) ∙ turn.took in
      let it : t.0 ≡ held = cc (one) in
      let looks : out.0 ≡ takes_turn held me.0 = whole ∙ ap (λ (b : Journaled O C R). takes_turn b me.0) it in
      λ i. (looks i, turn.slot i)

  pub out_turn : (me out : Mine O C R) (held : Journaled O C R) → IsOut held me out → HasTurn out held
  out_turn me out held is = record { took = ap (λ (m : Mine O C R). m.0.took) is; slot = ap (λ (m : Mine O C R). m.1) is }

  -- what was entered is one entry more
  pub one_more : (me out : Mine O C R) (held now : Journaled O C R) (entry : Entry C R) → IsOut held me out → now ≡ grown held (entry ∷ []) → HasOneMore out now
  one_more me out held now entry is grew = record { book = held; entry = entry; turn = out_turn me out held is; grew = grew }

  -- the seat after a call
  pub called : (me out after : Mine O C R) (held : Journaled O C R) (more : List (Entry C R)) (full : Bool) → IsOut held me out → IsDone more full out after
      → after ≡ (view me.0.parts [] [] (me.0.own ++ more) (full || me.0.full), [])
  called me out after held more full is done =
      done ∙ ap (λ (m : Mine O C R). (view m.0.parts m.0.tickets [] (m.0.own ++ more) (full || m.0.full), [])) is

  -- from the entered call, or the refused one
  pub refused_turn : (me out : Mine O C R) (held now : Journaled O C R) → IsOut held me out → now ≡ held → HasTurn out now
  refused_turn me out held now is same = subst (HasTurn out) (sym same) (out_turn me out held is)

  pub stamped_full : (me after : Mine O C R) (full : Bool) → IsCalled [] full me after → full ≡ true → after.0.full ≡ true
  stamped_full me after full is noted = ap (λ (m : Mine O C R). m.0.full) is ∙ ap (λ b. b || me.0.full) noted

  -- what contracts see of it
  abbrev pub SeenAs : TableId → Mine O C R → Seated C R → Type 0
  SeenAs table me s = seated table me.0.parts me.0.own me.0.full ≡ s

module _ {O C R T E : Type 0} where
  -- the seat is at rest after a call, whatever the answer
  pub rests_again : (me after : Mine O C R) (r : Result T E) (entry : T → Entry C R) → IfOk r (λ reply. IsCalled (entry reply ∷ []) false me after)
      → OnErr r (IsRefused me after) → IsAtRest after.0 × (after.1 ≡ [])
  rests_again me after (Ok reply) entry done err =
      (record { tickets = ap (λ (m : Mine O C R). m.0.tickets) done; took = ap (λ (m : Mine O C R). m.0.took) done }, ap (λ (m : Mine O C R). m.1) done)
  rests_again me after (Err refusal) entry done err =
      (record { tickets = ap (λ (m : Mine O C R). m.0.tickets) err.is; took = ap (λ (m : Mine O C R). m.0.took) err.is }, ap (λ (m : Mine O C R). m.1) err.is)

  pub own_entry : (table was : TableId) (me after : Mine O C R) (old : Seated C R) (r : Result T E) (entry : T → Entry C R) → table ≡ was → SeenAs was me old
      → IfOk r (λ reply. IsCalled (entry reply ∷ []) false me after)
      → IfOk r (λ reply. SeenAs table after (record old { own = old.own ++ entry reply ∷ [] }))
  own_entry table was me after old (Ok reply) entry same seen done =
      ap (λ (t : TableId). seated t after.0.parts after.0.own after.0.full) same
      ∙ ap (λ (m : Mine O C R). seated was m.0.parts m.0.own m.0.full) done
      ∙ ap (λ (s : Seated C R). record s { own = s.own ++ entry reply ∷ [] }) seen
  own_entry table was me after old (Err refusal) entry same seen done = tt

  pub own_refused : (me after : Mine O C R) (r : Result T E) → OnErr r (IsRefused me after) → OnErr r (after.0.own ≡ me.0.own)
  own_refused me after (Ok reply) err = tt
  own_refused me after (Err refusal) err = ap (λ (m : Mine O C R). m.0.own) err.is ∙ append-nil me.0.own

  pub parts_after : (me after : Mine O C R) (r : Result T E) (entry : T → Entry C R) → IfOk r (λ reply. IsCalled (entry reply ∷ []) false me after)
      → OnErr r (IsRefused me after) → after.0.parts ≡ me.0.parts
  parts_after me after (Ok reply) entry done err = ap (λ (m : Mine O C R). m.0.parts) done
  parts_after me after (Err refusal) entry done err = ap (λ (m : Mine O C R). m.0.parts) err.is
