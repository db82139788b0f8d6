-- Of an end that sends what waits: its records, and what is known of them.
use Rattle.clean_finish.proofs.Words.{◌≡◌, refl, sym, subst, ap, ◌∙◌, ℕ, ◌+◌, ◌-◌, ◌≤◌, nat_lt, Bool, true, false, if◌then◌else◌, List, [], ◌∷◌, ◌++◌, map, All}
use Rattle.clean_finish.proofs.Words.{arith, append-nil, All-nil, All-cons, All-head, All-tail, All-push, Record, Tile, span_of, is_unsent, after_resent}
use Rattle.clean_finish.proofs.Words.{after_sent, first_unsent_sent, sent_again, EndState, Setting, Sender, IsPiece, RecordsAre, WaitsNone}
use Rattle.subflow_send.specs.Rules.{first_sent}

abbrev pub sent_now : ℕ → Record → Record
sent_now now r = record r { sending = sent_again now r.sending }

-- the one that waits is sent, and the others stay
last_sent : (now : ℕ) (sent : List Record) (r : Record) → All (λ (x : Record). is_unsent x ≡ false) sent → is_unsent r ≡ true
    → first_unsent_sent now (sent ++ r ∷ []) ≡ sent ++ sent_now now r ∷ []
last_sent now [] r gone unsent = rw unsent refl
last_sent now (x ∷ sent) r gone unsent =
    ap (λ (b : Bool). if b then sent_now now x ∷ (sent ++ r ∷ []) else x ∷ first_unsent_sent now (sent ++ r ∷ []))
    (All-head (λ (y : Record). is_unsent y ≡ false) x sent gone)
    ∙ ap (λ (rs : List Record). x ∷ rs) (last_sent now sent r (All-tail (λ (y : Record). is_unsent y ≡ false) x sent gone) unsent)

same_spans : (now : ℕ) (sent : List Record) (r : Record) → map span_of (sent ++ sent_now now r ∷ []) ≡ map span_of (sent ++ r ∷ [])
same_spans now [] r = refl
same_spans now (x ∷ sent) r = ap (λ (ss : List _). span_of x ∷ ss) (same_spans now sent r)

same_pieces : (payload now : ℕ) (sent : List Record) (r : Record) → All (IsPiece payload) (sent ++ r ∷ [])
    → All (IsPiece payload) (sent ++ sent_now now r ∷ [])
same_pieces payload now [] r all =
    All-cons (IsPiece payload) (sent_now now r) [] (All-head (IsPiece payload) r [] all) (All-nil (IsPiece payload))
same_pieces payload now (x ∷ sent) r all =
    All-cons (IsPiece payload) x (sent ++ sent_now now r ∷ []) (All-head (IsPiece payload) x (sent ++ r ∷ []) all)
    (same_pieces payload now sent r (All-tail (IsPiece payload) x (sent ++ r ∷ []) all))

pub sent_all : (k : Setting) (out later : Sender) (waiting now : ℕ) (tcp : EndState) (h : RecordsAre k out waiting tcp) (r : Record)
    → h.rest ≡ r ∷ [] → is_unsent r ≡ true → 1 ≤ later.control_sent → later.control_sent ≤ 2
    → tcp.send.nxt ≡ 1 + later.granted + 0 + (later.control_sent - 1) → tcp.send.finished ≡ nat_lt 1 later.control_sent
    → RecordsAre k later 0 (record tcp { send = after_sent now tcp.send })
sent_all k out later waiting now tcp h r rest unsent some few next finished =
    let all : tcp.send.records ≡ h.sent ++ r ∷ [] = h.all ∙ ap (λ (rs : List Record). h.sent ++ rs) rest in
    let changed : first_unsent_sent now tcp.send.records ≡ h.sent ++ sent_now now r ∷ [] =
    ap (λ (rs : List Record). first_unsent_sent now rs) all ∙ last_sent now h.sent r h.gone unsent in
    record {
      sent = h.sent ++ sent_now now r ∷ [];
      rest = [];
      all = changed ∙ sym (append-nil (h.sent ++ sent_now now r ∷ []));
      gone = All-push (λ (x : Record). is_unsent x ≡ false) h.sent (sent_now now r) h.gone refl;
      waits = WaitsNone some;
      pieces = subst (λ (rs : List Record). All (IsPiece k.payload) rs) (sym changed) (same_pieces k.payload now h.sent r
          (subst (λ (rs : List Record). All (IsPiece k.payload) rs) all h.pieces));
      tile = subst (λ (rs : List Record). Tile tcp.send.una tcp.send.nxt (map span_of rs)) (sym changed)
          (subst (λ (ss : List _). Tile tcp.send.una tcp.send.nxt ss) (sym (same_spans now h.sent r))
          (subst (λ (rs : List Record). Tile tcp.send.una tcp.send.nxt (map span_of rs)) all h.tile));
      next = next;
      finished = finished;
      control = few;
      fits = omega arith;
    }

-- the first record of all is sent, since it alone is there
first_alone : (now : ℕ) (rs : List Record) (r : Record) → rs ≡ r ∷ [] → first_sent now rs ≡ sent_now now r ∷ []
first_alone now rs r is = ap (λ (xs : List Record). first_sent now xs) is

pub resent_alone : (k : Setting) (out later : Sender) (waiting now : ℕ) (tcp : EndState) (h : RecordsAre k out waiting tcp) (r : Record)
    → tcp.send.records ≡ r ∷ [] → 1 ≤ later.control_sent → later.control_sent ≤ 2
    → tcp.send.nxt ≡ 1 + later.granted + 0 + (later.control_sent - 1) → tcp.send.finished ≡ nat_lt 1 later.control_sent
    → RecordsAre k later 0 (record tcp { send = after_resent now tcp.send })
resent_alone k out later waiting now tcp h r alone some few next finished =
    let changed = first_alone now tcp.send.records r alone in
    record {
      sent = sent_now now r ∷ [];
      rest = [];
      all = changed;
      gone = All-cons (λ (x : Record). is_unsent x ≡ false) (sent_now now r) [] refl (All-nil (λ (x : Record). is_unsent x ≡ false));
      waits = WaitsNone some;
      pieces = subst (λ (rs : List Record). All (IsPiece k.payload) rs) (sym changed) (same_pieces k.payload now [] r
          (subst (λ (rs : List Record). All (IsPiece k.payload) rs) alone h.pieces));
      tile = subst (λ (rs : List Record). Tile tcp.send.una tcp.send.nxt (map span_of rs)) (sym changed)
          (subst (λ (rs : List Record). Tile tcp.send.una tcp.send.nxt (map span_of rs)) alone h.tile);
      next = next;
      finished = finished;
      control = few;
      fits = omega arith;
    }
