-- Of these positions no octet came to an end, or all: as each copy that it takes has none of them or all, and each mapping that it knows ends where they
-- do, RCV.NXT never lies among them.
use Rattle.std.proofs.Common.{◌≡◌, refl, sym, subst, ap, ◌∙◌, ◌⊎◌, inl, inr, ⊎_elim, ℕ, zero, suc, ◌+◌, ◌-◌, ◌^◌, ◌<◌, ◌≤◌, ◌&&◌, nat_le, nat_lt, min, get_or, arith, le_refl, Bool, true, false, true≢false, if◌then◌else◌, Option, Some, None, List, [], ◌∷◌, length}
use Rattle.std.specs.List.{slice_get}
use Rattle.std.proofs.lemmas.Bool.{and_from, and_parts, cases_lt, eqb-true, le-leb, leb-true, lt-ltb, ltb-true}
use Rattle.std.proofs.lemmas.List.{length-take}
use Rattle.std.proofs.lemmas.Option.{same_Some}
use Rattle.sides.specs.declared.side.Side.{Side}
use Rattle.dss_mapping.specs.Mappings.{mapping_at, octets_of, run_of}
use Rattle.dss_mapping.specs.declared.kept.KeptMapping.{KeptMapping}
use Rattle.subflow_recv.specs.Laws.{first_of, payload_octet}
use Rattle.subflow_recv.specs.Receiving.{Receiving, after_advance, after_forget_from, after_hold, after_keep_held, after_pass, filled, octet_at, place_at, window_end, without_held}
use Rattle.subflow_recv.proofs.ByPosition.{forgotten_octets_are_gone_lem, what_comes_first_is_kept_lem}
use Rattle.subflow_tcp.specs.declared.verdicts.Meaning.TheVariants as means
use Rattle.subflow_tcp.specs.Closing.{after_passing_fin, is_fin_next}
use Rattle.subflow_tcp.specs.Judging.{is_at}
use Rattle.subflow_tcp.specs.State.{EndState, is_behind, is_fin_passed}
use Rattle.subflow_tcp.specs.Taking.{after_death, first_fin}
use Rattle.actor_desk.specs.declared.ask.Reply.{Reply}
use Rattle.path_store.specs.InfiniteMappings.{covers}
use Rattle.path_store.specs.Passing.{Piece, count_in, named_piece, some_piece}
use Rattle.path_core.specs.Arrival.{with_payload}
use Rattle.path_core.specs.DataFin.{after_pass_fin}
use Rattle.path_core.specs.Deliver.{after_keep, failing_by, forgotten_by, infinite_piece, is_dropped, mapping_here, next_piece, piece_by, plain_piece}
use Rattle.path_core.specs.End.{PathEnd}
use Rattle.path_core.specs.Fallback.{after_fell, with_failure}
use Rattle.path_core.specs.Modes.{receives_plainly}
use Rattle.path_core.specs.Profile.{Profile}
use Rattle.fallback_state.specs.declared.fall.Event.TheVariants as events
use Rattle.whole_paths.specs.Mapped.{AreLive}
use Rattle.whole_paths.specs.News.{one_if}
use Rattle.whole_paths.proofs.Acking.{octet_of}
use Rattle.whole_paths.proofs.ByCopies.{IsKeptSo}
use Rattle.whole_paths.proofs.Reaching.{filled_at, payload_from, payload_within}
use Rattle.whole_paths.proofs.Staying.{inside, place_drop}
use Rattle.whole_paths.proofs.WholeMappings.{mapping_found}
use Rattle.whole_paths.proofs.WholePieces.{Meets}

-- ---- octets in order

-- where an octet stands behind so many in order there are more
filled_more : (xs : List (Option ℕ)) (n octet : ℕ) → n ≤ length (filled xs) → place_at n xs ≡ Some octet → n < length (filled xs)
filled_more [] n octet few at = cc
filled_more (None ∷ xs) zero octet few at = cc
filled_more (None ∷ xs) (suc n) octet few at = absurd (omega (arith, few))
filled_more (Some x ∷ xs) zero octet few at = omega arith
filled_more (Some x ∷ xs) (suc n) octet few at = let rest = filled_more xs n octet (omega (arith, few)) at in omega (arith, rest)

-- a piece that has octets is the one
some_is : (x piece : Piece) → some_piece x ≡ Some piece → x ≡ piece
some_is x piece is = by (nat_lt 0 (length x.octets)) is
  where
    by : (b : Bool) → (if b then Some x else None) ≡ Some piece → x ≡ piece
    by true so = same_Some x piece so
    by false so = cc

-- places within a limit don't cut a mapping off
count_is : (limit pos octets edge place : ℕ) → pos ≤ edge → edge < pos + octets → place + octets ≤ limit → min (pos + octets - edge) (limit - (place + (edge - pos))) ≡ pos + octets - edge
count_is limit pos octets edge place from to within = omega (arith, from, to, within)

none_below : (pos : ℕ) (v : Receiving) (octet : ℕ) → pos < v.edge → octet_at pos v ≡ Some octet → ⊥
none_below pos v octet low is = by (nat_lt pos v.edge) (lt-ltb pos v.edge low) is
  where
    by : (b : Bool) → b ≡ true → (if b then None else place_at (pos - v.edge) v.places) ≡ Some octet → ⊥
    by true so at = cc
    by false so at = true≢false (sym so)

module _ (first last : ℕ) where
  -- no octet is kept of these positions; or one at each of them, unless RCV.NXT is past it
  pub data AllOrNone (v : Receiving) : Type 0 where
    has_none : ((pos octet : ℕ) → first ≤ pos → pos < last → octet_at pos v ≡ Some octet → ⊥) → AllOrNone v
    has_each : ((pos : ℕ) → first ≤ pos → pos < last → (pos < v.edge) ⊎ ((octet : ℕ) × (octet_at pos v ≡ Some octet))) → AllOrNone v

  -- RCV.NXT isn't among them; so it is with what is kept, and with what is held, unless RCV.NXT is past the peer's FIN; and no FIN came for them
  pub record IsUncut (t : EndState) : Type 0 where
    pub edge : (t.recv.edge ≤ first) ⊎ (last ≤ t.recv.edge)
    pub kept : AllOrNone t.recv
    pub held : AllOrNone (after_keep_held t.recv) ⊎ (is_fin_passed t ≡ true)
    pub fin : (pos : ℕ) → t.fin_at ≡ Some pos → (pos < first) ⊎ (last ≤ pos)

  -- where no octet of them changes
  alike : (v w : Receiving) → v.edge ≤ w.edge → ((pos : ℕ) → first ≤ pos → pos < last → octet_at pos w ≡ octet_at pos v) → AllOrNone v → AllOrNone w
  alike v w up same (AllOrNone.has_none so) = AllOrNone.has_none (λ pos octet from below is. so pos octet from below (sym (same pos from below) ∙ is))
  alike v w up same (AllOrNone.has_each so) = AllOrNone.has_each (λ pos from below. ⊎_elim (λ low. inl (omega (arith, low, up))) (λ there. inr (there.0, same pos from below ∙ there.1)) (so pos from below))

  same_uncut : (s t : EndState) → t.recv ≡ s.recv → t.fin_at ≡ s.fin_at → IsUncut s → IsUncut t
  same_uncut s t recv fin h = record {
    edge = subst (λ (v : Receiving). (v.edge ≤ first) ⊎ (last ≤ v.edge)) (sym recv) h.edge;
    kept = subst AllOrNone (sym recv) h.kept;
    held = ⊎_elim (λ so. inl (subst (λ (v : Receiving). AllOrNone (after_keep_held v)) (sym recv) so))
        (λ over. inr (ap (λ o. is_behind o t.recv.edge) fin ∙ ap (λ (v : Receiving). is_behind s.fin_at v.edge) recv ∙ over)) h.held;
    fin = λ pos is. h.fin pos (sym fin ∙ is);
  }

  dies_uncut : (b : Bool) (t : EndState) → IsUncut t → IsUncut (after_death b t)
  dies_uncut b t h = record { edge = h.edge; kept = gone; held = inl gone_too; fin = h.fin }
    where
      by : (c : Bool) (pos octet : ℕ) → nat_lt pos t.recv.edge ≡ c → (if c then octet_at pos t.recv else None) ≡ Some octet → ⊥
      by true pos octet low is = none_below pos t.recv octet (ltb-true pos t.recv.edge low) is
      by false pos octet low is = cc

      none_left : (pos octet : ℕ) → octet_at pos (after_forget_from t.recv.edge t.recv) ≡ Some octet → ⊥
      none_left pos octet is = by (nat_lt pos t.recv.edge) pos octet refl (sym (forgotten_octets_are_gone_lem t.recv t.recv.edge pos (le_refl t.recv.edge)) ∙ is)

      gone : AllOrNone (after_forget_from t.recv.edge t.recv)
      gone = AllOrNone.has_none (λ pos octet from below is. none_left pos octet is)

      gone_too : AllOrNone (after_keep_held (after_forget_from t.recv.edge t.recv))
      gone_too = AllOrNone.has_none (λ pos octet from below is. none_left pos octet is)

  keeps_uncut : (s : Side) (e : PathEnd) → IsUncut e.tcp → IsUncut (after_keep s e).tcp
  keeps_uncut s e h = by (is_dropped s e)
    where
      dropped : IsUncut (record e.tcp { recv = without_held e.tcp.recv })
      dropped = record {
        edge = h.edge;
        kept = alike e.tcp.recv (without_held e.tcp.recv) (le_refl e.tcp.recv.edge) (λ pos from below. refl) h.kept;
        held = inl (alike e.tcp.recv (after_keep_held (without_held e.tcp.recv)) (le_refl e.tcp.recv.edge) (λ pos from below. refl) h.kept);
        fin = h.fin;
      }

      is_kept : is_fin_passed e.tcp ≡ false → AllOrNone (after_keep_held e.tcp.recv)
      is_kept unpassed = ⊎_elim (λ so. so) (λ over. absurd (true≢false (sym over ∙ unpassed))) h.held

      keeping : (over : Bool) → is_fin_passed e.tcp ≡ over → IsUncut (record e.tcp { recv = if over then without_held e.tcp.recv else after_keep_held e.tcp.recv })
      keeping true is = dropped
      keeping false is = record {
        edge = h.edge;
        kept = is_kept is;
        held = inl (alike (after_keep_held e.tcp.recv) (after_keep_held (after_keep_held e.tcp.recv)) (le_refl e.tcp.recv.edge) (λ pos from below. refl) (is_kept is));
        fin = h.fin;
      }

      by : (b : Bool) → IsUncut (if b then record e.tcp { recv = without_held e.tcp.recv } else record e.tcp { recv = if is_fin_passed e.tcp then without_held e.tcp.recv else after_keep_held e.tcp.recv })
      by true = dropped
      by false = keeping (is_fin_passed e.tcp) refl

  fin_uncut : (e : PathEnd) → IsUncut e.tcp → IsUncut (after_pass_fin e).tcp
  fin_uncut e h = (elim (is_fin_next e.tcp) as (λ b. is_fin_next e.tcp ≡ b → IsUncut (if b then after_passing_fin e.tcp else e.tcp)) [
    | true ↦ λ is. record { edge = passed is; kept = AllOrNone.has_none (λ pos octet from below at. none pos octet at); held = inl (AllOrNone.has_none (λ pos octet from below at. none pos octet at)); fin = h.fin }
    | false ↦ λ is. h
  ]) refl
    where
      by : (b : Bool) (k octet : ℕ) → (if b then None else place_at k []) ≡ Some octet → ⊥
      by true k octet is = cc
      by false k octet is = cc

      none : (pos octet : ℕ) → octet_at pos (after_pass e.tcp.recv) ≡ Some octet → ⊥
      none pos octet at = by (nat_lt pos (e.tcp.recv.edge + 1)) (pos - (e.tcp.recv.edge + 1)) octet at

      at_next : (o : Option ℕ) → e.tcp.fin_at ≡ o → is_at e.tcp.recv.edge o ≡ true → (e.tcp.recv.edge + 1 ≤ first) ⊎ (last ≤ e.tcp.recv.edge + 1)
      at_next None was is = absurd (true≢false (sym is))
      at_next (Some pos) was is = let same = eqb-true pos e.tcp.recv.edge is in
          ⊎_elim (λ low. inl (omega (arith, low, same))) (λ high. inr (omega (arith, high, same))) (h.fin pos was)

      passed : is_fin_next e.tcp ≡ true → (e.tcp.recv.edge + 1 ≤ first) ⊎ (last ≤ e.tcp.recv.edge + 1)
      passed is = at_next e.tcp.fin_at refl (and_parts (is_at e.tcp.recv.edge e.tcp.fin_at) (nat_lt e.tcp.recv.edge (2 ^ 62)) is).0

  -- ---- a copy

  module _ (e : EndState) (pos a : ℕ) (payload : List ℕ) (has_fin : Bool) (meets : Meets first last pos (length payload) has_fin) (window : pos ≤ first → last ≤ pos + length payload → last ≤ window_end e.recv) (h : IsUncut e) where
    -- what is held then
    module _ (octet : ℕ) (octets : List ℕ) (is : payload ≡ octet ∷ octets) where
      len : length payload ≡ length (octet ∷ octets)
      len = ap (λ (os : List ℕ). length os) is

      abbrev held_now : Receiving
      held_now = after_keep_held (after_hold pos (octet ∷ octets) e.recv)

      abbrev chosen : ℕ → Bool → Option ℕ
      chosen at b = if b then first_of (octet_at at e.recv) (payload_octet at pos (octet ∷ octets)) else octet_at at e.recv

      octet_is : (at : ℕ) → octet_at at held_now ≡ chosen at (nat_le e.recv.edge at && nat_lt at (window_end e.recv))
      octet_is at = what_comes_first_is_kept_lem e.recv pos (octet ∷ octets) at

      -- the copy has none of these positions
      module _ (apart : (at : ℕ) → first ≤ at → at < last → (at < pos) ⊎ (pos + length payload ≤ at)) where
        no_octet : (at x : ℕ) → first ≤ at → at < last → payload_octet at pos (octet ∷ octets) ≡ Some x → ⊥
        no_octet at x from below there = ⊎_elim
            (λ low. (let least = payload_from at pos x (octet ∷ octets) there in omega (arith, low, least)))
            (λ high. (let most = payload_within at pos x (octet ∷ octets) there in let same = len in omega (arith, high, most, same)))
            (apart at from below)

        others : AllOrNone e.recv → AllOrNone held_now
        others (AllOrNone.has_none so) = AllOrNone.has_none (λ at x from below there. none_chosen at x from below (nat_le e.recv.edge at && nat_lt at (window_end e.recv)) (sym (octet_is at) ∙ there))
          where
            none_first : (at x : ℕ) → first ≤ at → at < last → (o : Option ℕ) → octet_at at e.recv ≡ o → first_of o (payload_octet at pos (octet ∷ octets)) ≡ Some x → ⊥
            none_first at x from below None was there = no_octet at x from below there
            none_first at x from below (Some y) was there = so at y from below was

            none_chosen : (at x : ℕ) → first ≤ at → at < last → (b : Bool) → chosen at b ≡ Some x → ⊥
            none_chosen at x from below true there = none_first at x from below (octet_at at e.recv) refl there
            none_chosen at x from below false there = so at x from below there
        others (AllOrNone.has_each so) = AllOrNone.has_each (λ at from below. ⊎_elim (λ low. inl low) (λ there. inr (there.0, octet_is at ∙ still at there.0 there.1 (nat_le e.recv.edge at && nat_lt at (window_end e.recv)))) (so at from below))
          where
            still : (at x : ℕ) → octet_at at e.recv ≡ Some x → (b : Bool) → chosen at b ≡ Some x
            still at x there true = ap (λ o. first_of o (payload_octet at pos (octet ∷ octets))) there
            still at x there false = there

      -- or all
      all_held : pos ≤ first → last ≤ pos + length payload → AllOrNone held_now
      all_held low high = AllOrNone.has_each (λ at from below. ⊎_elim (λ passed. inl passed) (λ kept. inr (there at from below kept)) (cases_lt at e.recv.edge))
        where
          some_first : (o : Option ℕ) (x : ℕ) → (y : ℕ) × (first_of o (Some x) ≡ Some y)
          some_first None x = (x, refl)
          some_first (Some y) x = (y, refl)

          there : (at : ℕ) → first ≤ at → at < last → e.recv.edge ≤ at → (x : ℕ) × (octet_at at held_now ≡ Some x)
          there at from below kept =
              let same = len in
              let found = octet_of (octet ∷ octets) pos at (omega (arith, low, from)) (omega (arith, high, below, same)) in
              let one = some_first (octet_at at e.recv) (get_or (octet ∷ octets) (at - pos) 0) in
              let in_window = and_from (nat_le e.recv.edge at) (nat_lt at (window_end e.recv)) (le-leb e.recv.edge at kept) (lt-ltb at (window_end e.recv) (let most = window low high in omega (arith, below, most))) in
              (one.0, octet_is at ∙ ap (chosen at) in_window ∙ ap (λ o. first_of (octet_at at e.recv) o) found ∙ one.1)

      held_so : AllOrNone held_now
      held_so = by meets
        where
          by : Meets first last pos (length payload) has_fin → AllOrNone held_now
          by (Meets.is_empty none no_fin) = absurd (let same = len in omega (arith, none, same))
          by (Meets.lies_before low) = others (λ at from below. inr (omega (arith, low, from))) h.kept
          by (Meets.lies_behind high) = others (λ at from below. inl (omega (arith, high, below))) h.kept
          by (Meets.has_all low high no_fin) = all_held low high

    fin_clear : (at : ℕ) → first_fin e.fin_at has_fin (pos + length payload) ≡ Some at → (at < first) ⊎ (last ≤ at)
    fin_clear at = by e.fin_at refl has_fin refl meets
      where
        by : (o : Option ℕ) → e.fin_at ≡ o → (b : Bool) → has_fin ≡ b → Meets first last pos (length payload) has_fin → first_fin o b (pos + length payload) ≡ Some at → (at < first) ⊎ (last ≤ at)
        by (Some p) was b has m is = h.fin at (was ∙ is)
        by None was false has m is = cc
        by None was true has (Meets.is_empty none no_fin) is = absurd (true≢false (sym has ∙ no_fin))
        by None was true has (Meets.has_all low high no_fin) is = absurd (true≢false (sym has ∙ no_fin))
        by None was true has (Meets.lies_before low) is = let same = same_Some (pos + length payload) at is in let one = ap one_if has in inl (omega (arith, same, low, one))
        by None was true has (Meets.lies_behind high) is = let same = same_Some (pos + length payload) at is in inr (omega (arith, same, high))

    pub taken_uncut : (t : EndState) → t.recv ≡ (with_payload (means.Taken pos a) payload e).recv → t.fin_at ≡ first_fin e.fin_at has_fin (pos + length payload) → IsUncut t
    taken_uncut t recv_is fin_is = by payload refl recv_is
      where
        -- a FIN that was passed is
        still_over : (o : Option ℕ) (edge : ℕ) → is_behind o edge ≡ true → is_behind (first_fin o has_fin (pos + length payload)) edge ≡ true
        still_over None edge is = absurd (true≢false (sym is))
        still_over (Some p) edge is = is

        over : t.recv.edge ≡ e.recv.edge → is_fin_passed e ≡ true → is_fin_passed t ≡ true
        over edge is = ap (λ o. is_behind o t.recv.edge) fin_is ∙ ap (λ edge. is_behind (first_fin e.fin_at has_fin (pos + length payload)) edge) edge ∙ still_over e.fin_at e.recv.edge is

        by : (os : List ℕ) → payload ≡ os → t.recv ≡ (with_payload (means.Taken pos a) os e).recv → IsUncut t
        by [] is given = record {
          edge = subst (λ (v : Receiving). (v.edge ≤ first) ⊎ (last ≤ v.edge)) (sym given) h.edge;
          kept = subst AllOrNone (sym given) h.kept;
          held = ⊎_elim (λ so. inl (subst (λ (v : Receiving). AllOrNone (after_keep_held v)) (sym given) so)) (λ was. inr (over (ap (λ (v : Receiving). v.edge) given) was)) h.held;
          fin = λ at there. fin_clear at (sym fin_is ∙ there);
        }
        by (octet ∷ octets) is given = record {
          edge = subst (λ (v : Receiving). (v.edge ≤ first) ⊎ (last ≤ v.edge)) (sym given) h.edge;
          kept = subst AllOrNone (sym given) (alike e.recv (after_hold pos (octet ∷ octets) e.recv) (le_refl e.recv.edge) (λ at from below. refl) h.kept);
          held = inl (subst (λ (v : Receiving). AllOrNone (after_keep_held v)) (sym given) (held_so octet octets is));
          fin = λ at there. fin_clear at (sym fin_is ∙ there);
        }

  -- ---- a piece

  abbrev advanced : ℕ → EndState → Receiving
  advanced n t = after_advance (t.recv.edge + n) t.recv

  advanced_uncut : (n : ℕ) (t : EndState) → (t.recv.edge + n ≤ first) ⊎ (last ≤ t.recv.edge + n) → IsUncut t → IsUncut (record t { recv = after_advance (t.recv.edge + n) t.recv })
  advanced_uncut n t clear h = record { edge = clear; kept = moved; held = inl (alike (advanced n t) (after_keep_held (advanced n t)) (le_refl (t.recv.edge + n)) (λ pos from below. refl) moved); fin = h.fin }
    where
      -- what lies behind RCV.NXT stays
      stays : (pos : ℕ) → t.recv.edge + n ≤ pos → octet_at pos (advanced n t) ≡ octet_at pos t.recv
      stays pos high = inside pos (advanced n t) high ∙ place_drop (t.recv.edge + n - t.recv.edge) (pos - (t.recv.edge + n)) (pos - t.recv.edge) t.recv.places (omega (arith, high)) ∙ sym (inside pos t.recv (omega (arith, high)))

      moved : AllOrNone (advanced n t)
      moved = ⊎_elim
          (λ low. alike t.recv (advanced n t) (omega arith) (λ pos from below. stays pos (omega (arith, low, from))) h.kept)
          (λ high. AllOrNone.has_each (λ pos from below. inl (omega (arith, high, below))))
          clear

  -- what may be passed without a fallback
  by_mapping : (plainly infinite checks : Bool) (plain inf : Option Piece) (here : Option KeptMapping) (s : EndState) (piece : Piece) → plainly ≡ false → infinite ≡ false → checks ≡ false
      → (if plainly then plain else (if infinite then inf else piece_by checks here s)) ≡ Some piece → piece_by false here s ≡ Some piece
  by_mapping true infinite checks plain inf here s piece unplain unmapped unchecked is = absurd (true≢false unplain)
  by_mapping false true checks plain inf here s piece unplain unmapped unchecked is = absurd (true≢false unmapped)
  by_mapping false false true plain inf here s piece unplain unmapped unchecked is = absurd (true≢false unchecked)
  by_mapping false false false plain inf here s piece unplain unmapped unchecked is = is

  module _ (c : Profile) (e : PathEnd) (unchecked : c.spelling.checksums ≡ false) (mapped : e.modes.identity ≡ false) (finite : covers e.modes.peer_infinite e.tcp.recv.edge ≡ false)
      (live : AreLive e.receiving.mappings e.tcp.recv.edge)
      (ends : (i : ℕ) (m : KeptMapping) → slice_get e.receiving.mappings.live i ≡ Some m → m.pos ≤ first → first < m.pos + octets_of m → m.pos + octets_of m ≡ last)
      (piece : Piece) (is_next : next_piece c e ≡ Some piece) (h : IsUncut e.tcp) where
    abbrev n : ℕ
    n = length piece.octets

    abbrev edge_now : ℕ
    edge_now = e.tcp.recv.edge

    abbrev places : List (Option ℕ)
    places = e.tcp.recv.places

    abbrev Clear : Type 0
    Clear = (edge_now + n ≤ first) ⊎ (last ≤ edge_now + n)

    -- so many octets go as the mapping has from there on, or as stand in order
    module _ (kept : KeptMapping) (here : mapping_at e.receiving.mappings e.tcp.recv.edge ≡ Some kept) (is : some_piece (named_piece kept e.tcp.recv.edge (filled e.tcp.recv.places)) ≡ Some piece)
        (low : e.tcp.recv.edge ≤ first) (over : first < e.tcp.recv.edge + length piece.octets) (under : e.tcp.recv.edge + length piece.octets < last) where
      covered : (kept.pos ≤ edge_now) × (edge_now < kept.pos + octets_of kept)
      covered =
          let found = mapping_found e.receiving.mappings edge_now edge_now kept live here in
          let parts = and_parts (nat_le kept.pos edge_now) (nat_lt edge_now (run_of kept).to) found.fits in
          let high = ltb-true edge_now (run_of kept).to parts.1 in (leb-true kept.pos edge_now parts.0, omega (arith, high))

      count : n ≡ min (kept.pos + octets_of kept - edge_now) (length (filled places))
      count = ap (λ (x : Piece). length x.octets) (sym (some_is (named_piece kept edge_now (filled places)) piece is)) ∙ length-take (count_in edge_now kept) (filled places)
          ∙ ap (λ m. min m (length (filled places))) (count_is (2 ^ 62) kept.pos (octets_of kept) edge_now kept.place covered.0 covered.1 (mapping_found e.receiving.mappings edge_now edge_now kept live here).within)

      few : n ≤ length (filled places)
      few = let so = count in omega (arith, so)

      -- the octet at the first position stands there, so that behind those that go does
      more : n < length (filled places)
      more = by h.kept
        where
          stands : (octet : ℕ) × (octet_at first e.tcp.recv ≡ Some octet)
          stands = let most = few in let found = filled_at places (first - edge_now) (omega (arith, low, over, most)) in (found.0, inside first e.tcp.recv low ∙ found.1)

          behind_them : (octet : ℕ) → octet_at (edge_now + n) e.tcp.recv ≡ Some octet → n < length (filled places)
          behind_them octet is =
              let index : edge_now + n - edge_now ≡ n = omega arith in
              filled_more places n octet few (sym (ap (λ i. place_at i places) index) ∙ sym (inside (edge_now + n) e.tcp.recv (omega arith)) ∙ is)

          by : AllOrNone e.tcp.recv → n < length (filled places)
          by (AllOrNone.has_none so) = absurd (so first stands.0 (le_refl first) (omega (arith, over, under)) stands.1)
          by (AllOrNone.has_each so) = ⊎_elim (λ passed. absurd (omega (arith, passed))) (λ there. behind_them there.0 there.1) (so (edge_now + n) (omega (arith, over)) under)

      cut_off : ⊥
      cut_off =
          let found = mapping_found e.receiving.mappings edge_now edge_now kept live here in
          let from = covered.0 in let to = covered.1 in let so = count in let left = more in
          let same = ends found.at kept found.there (omega (arith, from, low)) (omega (arith, so, left, over, from, to)) in
          omega (arith, so, left, same, under, from, to, low, over)

    clear : Clear
    clear = by_here (receives_plainly e.modes edge_now) (by_mapping e.modes.identity (covers e.modes.peer_infinite edge_now) c.spelling.checksums (some_piece (plain_piece e.tcp)) (infinite_piece e.modes.peer_infinite e.tcp) (mapping_here e) e.tcp piece mapped finite unchecked is_next)
      where
        with_mapping : (kept : KeptMapping) → mapping_at e.receiving.mappings edge_now ≡ Some kept → some_piece (named_piece kept edge_now (filled places)) ≡ Some piece → Clear
        with_mapping kept here is = ⊎_elim
            (λ low. ⊎_elim
            (λ over. ⊎_elim (λ under. absurd (cut_off kept here is low over under)) (λ high. inr high) (cases_lt (edge_now + n) last))
            (λ before. inl before)
            (cases_lt first (edge_now + n)))
            (λ high. inr (omega (arith, high)))
            h.edge

        by_kept : (o : Option KeptMapping) → mapping_at e.receiving.mappings edge_now ≡ o → piece_by false o e.tcp ≡ Some piece → Clear
        by_kept None here is = cc
        by_kept (Some kept) here is = with_mapping kept here is

        by_here : (b : Bool) → piece_by false (if b then None else mapping_at e.receiving.mappings edge_now) e.tcp ≡ Some piece → Clear
        by_here true is = cc
        by_here false is = by_kept (mapping_at e.receiving.mappings edge_now) refl is

    pub passes_uncut : IsUncut (record e.tcp { recv = after_advance (e.tcp.recv.edge + length piece.octets) e.tcp.recv })
    passes_uncut = advanced_uncut n e.tcp clear h

  -- ---- checks

  unchecked_tcp : (checksums : Bool) → checksums ≡ false → (here : Option KeptMapping) (e : PathEnd) → (forgotten_by checksums here e).tcp ≡ e.tcp
  unchecked_tcp true is here e = absurd (true≢false is)
  unchecked_tcp false is None e = refl
  unchecked_tcp false is (Some kept) e = refl

  failed_tcp : (checksums : Bool) → checksums ≡ false → (here : Option KeptMapping) (r : Reply) (e : PathEnd) → (forgotten_by checksums here (with_failure (failing_by checksums here e.tcp) r (after_fell events.CheckFailed r e))).tcp ≡ e.tcp
  failed_tcp true is here r e = absurd (true≢false is)
  failed_tcp false is None r e = refl
  failed_tcp false is (Some kept) r e = refl

  pub uncut_so : IsKeptSo IsUncut (λ c. c.spelling.checksums ≡ false)
  uncut_so = record {
    same = same_uncut;
    dies = dies_uncut;
    keeps = keeps_uncut;
    fin = fin_uncut;
    checks = λ c unchecked e h. subst IsUncut (sym (unchecked_tcp c.spelling.checksums unchecked (mapping_here e) e)) h;
    fails = λ c unchecked r e h. subst IsUncut (sym (failed_tcp c.spelling.checksums unchecked (mapping_here e) r e)) h;
  }
