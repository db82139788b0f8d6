-- The mapping of a copy is learned, and the place of its DATA_FIN is noted, whether the control book is told of it or not.
use Rattle.clean_finish.proofs.Words.{◌≡◌, refl, sym, subst, ap, ◌∙◌, ℕ, ◌+◌, ◌-◌, ◌<◌, ◌≤◌, min, Bool, true, false, if◌then◌else◌, Option, None, List, [], ◌∷◌}
use Rattle.clean_finish.proofs.Words.{◌++◌, length, arith, Some, is_some, ◌^◌, lt-ltb, Side, peer, Control, KeptMapping, after_learn_held, held_clashes}
use Rattle.clean_finish.proofs.Words.{Mappings, run_of, Duty, Heard, pick, Profile, Carried, values, PathEnd, answered_mapping, mapping_ask, with_learned}
use Rattle.clean_finish.proofs.Words.{with_skipped, with_data_fin, Modes, PathState, end_at, goes_on, left, answered_heard, heard_passed, fins_and, mode_in}
use Rattle.clean_finish.proofs.Words.{fell_ask, fell_duties, after_fell, Setting, Lane, all_left, Going, Hand, brings_in, ControlIs, ModesAre, Sent, Keys}
use Rattle.clean_finish.proofs.Words.{octets_of, Follow, FirstPiece, Piece, EndsStream, MapsAs, TreatsCopy, kept_in, IsSetting, Facing, Half, Bench, kept_piece}
use Rattle.clean_finish.proofs.Words.{AfterOne, AfterTwo, AfterAll}
use Rattle.dss_mapping.specs.Places.{with_run}
use Rattle.fallback_state.specs.declared.fall.Event.{Event}
use Rattle.fallback_state.specs.declared.fall.Fall.{Fall}
use Rattle.path_core.specs.Breaking.{answered_break, break_ask}
use Rattle.clean_finish.proofs.Dropping.{is_waited}
use Rattle.clean_finish.proofs.EdgePlacing.{all_few, at_position, kept_some, near_position, same_counts}
use Rattle.clean_finish.proofs.FellOn.{fell_done, sign_reply}
use Rattle.clean_finish.proofs.Hands.{in_hand}
use Rattle.clean_finish.proofs.HeardNext.{maps_on}
use Rattle.clean_finish.proofs.MappingLearned.{agrees, behind_it, learned_is, with_learned_is}
use Rattle.clean_finish.proofs.NoneBehind.{chain, high, one_came}
use Rattle.clean_finish.proofs.Quiet.{now_back}
use Rattle.clean_finish.proofs.TreatedOn.{treated_on}

-- ---- what the reply makes of an end

-- a mapping that is at odds with none is told
pub told_ask : (s : Side) (p : PathState Carried) → held_clashes (end_at s p).receiving.mappings ≡ false → mapping_ask values s p ≡ fell_ask s Event.MappingHeard p
told_ask s p none = ap (λ (y : Bool). if y then break_ask values s 1 p else fell_ask s Event.MappingHeard p) none

abbrev pub learned_end : Mappings → Modes → PathEnd → PathEnd
learned_end v mo e = record e { receiving = record e.receiving { mappings = v }; modes = mo }

pub told_now : (s : Side) (fall : Fall) (p : PathState Carried) (v : Mappings) (kept : KeptMapping) → held_clashes (end_at s p).receiving.mappings ≡ false
    → after_learn_held (end_at s p).receiving.mappings ≡ v → (end_at s p).receiving.mappings.held ≡ kept ∷ [] → kept.fin ≡ false
    → answered_mapping values s (sign_reply fall) p
    ≡ goes_on s (learned_end v (mode_in (sign_reply fall) (end_at s p).modes) (end_at s p)) (left p) p
told_now s fall p v kept none now held fin =
    let e = end_at s p in
    let r = sign_reply fall in
    ap (λ (y : Bool). if y then answered_break values s 1 r p
    else goes_on s (with_learned (after_fell Event.MappingHeard r e)) (fell_duties s r p) p) none
    ∙ (ap (λ (es : List Duty). goes_on s (with_learned (record e { modes = mode_in r e.modes })) es p) (fell_done s fall p)
    ∙ ap (λ (y : PathEnd). goes_on s y (left p) p) (with_learned_is (record e { modes = mode_in r e.modes }) v kept now held fin))

-- the mapping is passed
pub passed_now : (s : Side) (e : PathEnd) (v : Mappings) (kept : KeptMapping) → is_some e.modes.peer_key ≡ true
    → after_learn_held e.receiving.mappings ≡ v → e.receiving.mappings.held ≡ kept ∷ [] → kept.fin ≡ false
    → heard_passed s (Heard.Mapping false) e ≡ learned_end v e.modes e
passed_now s e v kept ready now held fin =
    ap (λ (y : Bool). if y then with_learned e else with_skipped e) ready ∙ with_learned_is e v kept now held fin

abbrev pub ended_end : ℕ → Modes → PathEnd → PathEnd
ended_end place mo e = record e { modes = mo; treated = record e.treated { fins = place ∷ [] } }

pub fin_now : (s : Side) (fall : Fall) (p : PathState Carried) (place : ℕ) → (end_at s p).treated.fins ≡ []
    → answered_heard values s (Heard.DataFin place) (sign_reply fall) p
    ≡ goes_on s (ended_end place (mode_in (sign_reply fall) (end_at s p).modes) (end_at s p)) (left p) p
fin_now s fall p place none =
    let e = end_at s p in
    let mo = mode_in (sign_reply fall) e.modes in
    ap (λ (es : List Duty). goes_on s (with_data_fin place (record e { modes = mo })) es p) (fell_done s fall p)
    ∙ ap (λ (fs : List ℕ). goes_on s (record e { modes = mo; treated = record e.treated { fins = fins_and (Some place) fs } }) (left p) p) none

pub fin_passed : (s : Side) (e : PathEnd) (place : ℕ) → is_some e.modes.peer_key ≡ true → e.treated.fins ≡ []
    → heard_passed s (Heard.DataFin place) e ≡ ended_end place e.modes e
fin_passed s e place ready none =
    ap (λ (y : Bool). if y then with_data_fin place e else e) ready
    ∙ ap (λ (fs : List ℕ). record e { treated = record e.treated { fins = fins_and (Some place) fs } }) none

-- ---- the copy behind it

module _ (q : Side) (keys : Keys) (x : Bench) where
  pub first_learned : (octets : List ℕ) (f : TreatsCopy q keys AfterOne true (FirstPiece octets) x) (v : Mappings) (mo : Modes)
      → MapsAs x.end.tcp.recv.edge true (kept_in x.profile q f.sent octets) (length octets) v x.end.receiving.mapped_data_fin
      → TreatsCopy q keys AfterTwo true (FirstPiece octets) (record x { end = learned_end v mo x.end })
  first_learned octets f v mo maps = record {
    sent = f.sent;
    brings = f.brings;
    hand = f.hand;
    kind = f.kind;
    some = f.some;
    keyed = f.keyed;
    items = f.items;
    opened = f.opened;
    keys_told = f.keys_told;
    has_option = f.has_option;
    fins = f.fins;
    asked = f.asked;
    plain_ack = f.plain_ack;
    held_edge = f.held_edge;
    owes = f.owes;
    came = f.came;
    una = f.una;
    high = f.high;
    rests = f.rests;
    waiting = f.waiting;
    answered = f.answered;
    ready = f.ready;
    shown = f.shown;
    least = f.least;
    clear = f.clear;
    unkeyed = f.unkeyed;
    places = f.places;
    incoming = f.incoming;
    fin = f.fin;
    maps = maps;
  }

  pub piece_learned : (octets : List ℕ) (f : TreatsCopy q keys AfterTwo false (Piece octets) x) (v : Mappings) (mo : Modes)
      → MapsAs x.end.tcp.recv.edge true (kept_in x.profile q f.sent octets) (length octets) v x.end.receiving.mapped_data_fin
      → TreatsCopy q keys AfterAll false (Piece octets) (record x { end = learned_end v mo x.end })
  piece_learned octets f v mo maps = record {
    sent = f.sent;
    brings = f.brings;
    hand = f.hand;
    kind = f.kind;
    some = f.some;
    keyed = f.keyed;
    items = f.items;
    opened = f.opened;
    keys_told = f.keys_told;
    has_option = f.has_option;
    fins = f.fins;
    asked = f.asked;
    plain_ack = f.plain_ack;
    held_edge = f.held_edge;
    owes = f.owes;
    came = f.came;
    una = f.una;
    high = f.high;
    rests = f.rests;
    waiting = f.waiting;
    answered = f.answered;
    ready = f.ready;
    shown = f.shown;
    least = f.least;
    clear = f.clear;
    unkeyed = f.unkeyed;
    places = f.places;
    incoming = f.incoming;
    fin = f.fin;
    maps = maps;
  }

  pub end_noted : (place : ℕ) (f : TreatsCopy q keys AfterTwo false (EndsStream place) x) (mo : Modes)
      → TreatsCopy q keys AfterAll false (EndsStream place) (record x { end = ended_end place mo x.end })
  end_noted place f mo = record {
    sent = f.sent;
    brings = f.brings;
    hand = f.hand;
    kind = f.kind;
    some = f.some;
    keyed = f.keyed;
    items = f.items;
    opened = f.opened;
    keys_told = f.keys_told;
    has_option = f.has_option;
    fins = refl;
    asked = f.asked;
    plain_ack = f.plain_ack;
    held_edge = f.held_edge;
    owes = f.owes;
    came = f.came;
    una = f.una;
    high = f.high;
    rests = f.rests;
    waiting = f.waiting;
    answered = f.answered;
    ready = f.ready;
    shown = f.shown;
    least = f.least;
    clear = f.clear;
    unkeyed = f.unkeyed;
    places = f.places;
    incoming = f.incoming;
    fin = f.fin;
    maps = maps_on f.maps;
  }

-- ---- the world from the side of the end

module _ {s : Side} {keys : Keys} {k j : Setting} {c : Profile} {begun begun_back : Lane} {m n : Half} {clock until : ℕ} where
  -- an end that may use the DSS has the peer's key
  pub has_key : {ds : List Duty} (h : Facing s keys k j c begun begun_back m n clock until ds) → 1 ≤ h.out.clear → is_some m.end.modes.peer_key ≡ true
  has_key h clear =
      ap (λ (o : Option ℕ). is_some o) (h.own.modes.peer_key
      ∙ ap (λ (y : Bool). if y then Some (pick s keys.b keys.a) else None) (lt-ltb 0 h.out.ready (up clear h.own.modes.cleared)))
    where
      up : {x y : ℕ} → 1 ≤ x → x ≤ y → 0 < y
      up p q = omega (arith, p, q)

  abbrev pub end_on : {d : Duty} {ds : List Duty} (h : Facing s keys k j c begun begun_back m n clock until (d ∷ ds)) → is_waited d ≡ false → 1 ≤ h.out.control_sent
      → (place : ℕ) (mo : Modes) (book : Control) → ModesAre s keys h.out.sender h.back.receiver mo → ControlIs s keys book
      → Facing s keys k j c begun begun_back (record m { end = ended_end place mo m.end; control = book }) n clock until ds
  end_on h free sent place mo book modes control =
      treated_on h free sent m.end.tcp.recv m.end.receiving.mappings m.end.receiving.mapped_data_fin mo (record m.end.treated { fins = place ∷ [] }) book refl refl refl modes control

module _ {s : Side} {keys : Keys} {k j : Setting} {c : Profile} {begun begun_back : Lane} {m n : Half} {clock until : ℕ} (ticks t u : ℕ)
    (k_is : IsSetting c ticks k) (j_is : IsSetting c ticks j)
    (going : Going k begun t all_left begun) (going_back : Going j begun_back u all_left begun_back)
    {d : Duty} {ds : List Duty} (h : Facing s keys k j c begun begun_back m n clock until (d ∷ ds)) (free : is_waited d ≡ false)
    (x : Sent) (hand : h.hand ≡ in_hand x true false) (some : 1 ≤ length (octets_of x.brings))
    (maps : MapsAs m.end.tcp.recv.edge false (kept_in c s x (octets_of x.brings)) (length (octets_of x.brings)) m.end.receiving.mappings m.end.receiving.mapped_data_fin)
  where
    abbrev pub kept : KeptMapping
    kept = kept_piece c s x (octets_of x.brings)

    follow : Follow k.least k.total j.total (peer s) h.back.received h.back.control_came h.back.keys_came (x ∷ h.way_back.sent)
    follow = subst (λ (o : Option Hand). Follow k.least k.total j.total (peer s) h.back.received h.back.control_came h.back.keys_came (brings_in o ++ h.way_back.sent))
        hand h.way_back.follow

    count : (1 ≤ h.back.control_came) × (x.control ≡ h.back.control_came) × (x.keys ≡ h.back.keys_came)
    count = same_counts h.back.control_came h.back.keys_came x.control x.keys x.brings some follow.1

    one : h.back.control_came ≤ 1
    one = one_came ticks t u k_is j_is going going_back h x false hand some

    -- the copy begins at the receive edge
    position : x.low + x.control ≡ m.end.tcp.recv.edge
    position = at_position h.own.subflow.come.edge (chain ticks t u k_is j_is going going_back h x false hand).0 count.1 count.0 one

    short : x.low + length (octets_of x.brings) ≤ 16777216
    short =
        let lane = now_back ticks t u k_is j_is going going_back h in
        all_few (high ticks t u k_is j_is going going_back h x false hand) lane.numbers.granted lane.numbers.written j_is.small

    near : x.low + x.control ≤ 16777218
    near = near_position x.low (length (octets_of x.brings)) short count.1 one

    pub held : m.end.receiving.mappings.held ≡ kept ∷ []
    held = maps.held ∙ kept_some (octets_of x.brings) kept some

    from : m.end.tcp.recv.edge ≤ x.low + x.control
    from = low position
      where
        low : {a b : ℕ} → b ≡ a → a ≤ b
        low is = omega (arith, is)

    run : 1 ≤ min (x.low + x.control + length (octets_of x.brings)) (2 ^ 64 - 1) - (x.low + x.control)
    run = has (x.low + x.control) (length (octets_of x.brings)) near some
      where
        has : (a l : ℕ) → a ≤ 16777218 → 1 ≤ l → 1 ≤ min (a + l) (2 ^ 64 - 1) - a
        has a l low one_more = omega (arith, low, one_more)

    pub agrees_is : held_clashes m.end.receiving.mappings ≡ false
    agrees_is = agrees m.end.receiving.mappings m.end.tcp.recv.edge maps.beyond maps.tail kept held maps.live from run

    abbrev pub learned : Mappings
    learned = record m.end.receiving.mappings { places = with_run (run_of kept) m.end.receiving.mappings.places; live = kept ∷ []; held = [] }

    pub learned_now : after_learn_held m.end.receiving.mappings ≡ learned
    learned_now = learned_is m.end.receiving.mappings m.end.tcp.recv.edge maps.beyond maps.tail kept held maps.live from run

    pub maps_learned : MapsAs m.end.tcp.recv.edge true (kept_in c s x (octets_of x.brings)) (length (octets_of x.brings)) learned m.end.receiving.mapped_data_fin
    maps_learned = record {
      live = sym (kept_some (octets_of x.brings) kept some);
      held = refl;
      tail = maps.tail;
      beyond = λ p less. behind_it m.end.receiving.mappings m.end.tcp.recv.edge maps.beyond maps.tail kept held maps.live from run p
          (low (length (octets_of x.brings)) less) (past (length (octets_of x.brings)) position less);
      no_fin = maps.no_fin;
      forgotten = maps.forgotten;
    }
      where
        low : {e p : ℕ} (l : ℕ) → e + l ≤ p → e ≤ p
        low l less = omega (arith, less)

        past : {a e p : ℕ} (l : ℕ) → a ≡ e → e + l ≤ p → min (a + l) (2 ^ 64 - 1) ≤ p
        past l is less = omega (arith, is, less)

    abbrev pub mapping_on : 1 ≤ h.out.control_sent → (mo : Modes) (book : Control) → ModesAre s keys h.out.sender h.back.receiver mo → ControlIs s keys book
        → Facing s keys k j c begun begun_back (record m { end = learned_end learned mo m.end; control = book }) n clock until ds
    mapping_on sent mo book modes control =
        treated_on h free sent m.end.tcp.recv learned m.end.receiving.mapped_data_fin mo m.end.treated book refl refl refl modes control
