-- What the receiver's half of an end makes of the lanes: mappings that are learned, bytes that are placed, an end that is told, and
-- the FIN.
--
-- A checksum is followed from the grant to the check beside the mapping that it is told with: `IsSummed` (of a record,
-- of a copy's option) and `KeptSummed` (of a mapping that was heard) say that it is that of the bytes of the lane's
-- record there, which only grows. So where a whole mapping with a right checksum has come, its bytes are those that
-- were sent (`piece_passes` of `proofs/Lanes/Placing`, by `came_cases` and `checksum_shows` of `stream_lanes`), and a
-- lane that checks lets pass what the end does. Lanes check only where the connection uses checksums
-- (`Carries.checks`).
use Rattle.world_laws.proofs.Words.{◌≡◌, refl, sym, ◌∙◌, ap, subst, ℕ, zero, suc, ◌+◌, ◌-◌, ◌≤◌, ◌&&◌, ◌||◌, ◌==◌, not, nat_lt, nat_le, inl, inr, ◌⊎◌, ⊎_elim}
use Rattle.world_laws.proofs.Words.{Bool, true, false, if◌then◌else◌, Option, Some, None, List, [], ◌∷◌, length, take, drop, arith, is_some, ◌<◌, ◌^◌, find}
use Rattle.world_laws.proofs.Words.{◌*◌, ◌/◌, filter, ltb-true, eqb-true, eq-eqb, and_parts, and_from, both_ways, false≢true, leb-true, length-take}
use Rattle.world_laws.proofs.Words.{length-drop, length-map, append-nil, same_Some, slice_get, IfSome, Summed, Side, dss_checksum, ReassemblyReply, KeptMapping}
use Rattle.world_laws.proofs.Words.{Mappings, run_of, mapping_at, after_learn, others_of, learn_of, learned_if, after_skip_held, covers, Receiving, after_pass}
use Rattle.world_laws.proofs.Words.{EndState, is_fin_next, after_passing_fin, is_at, Piece, count_in, some_piece, InfiniteMapping, data_fin_behind, PathEnd}
use Rattle.world_laws.proofs.Words.{having_asked, piece_in, checked_piece, piece_by, next_piece, after_piece, plain_piece, infinite_piece, piece_at, is_wrong}
use Rattle.world_laws.proofs.Words.{failing_by, mapping_here, place_of_fin, after_pass_fin, place_passed, with_learned, with_skipped, receives_plainly, fin_place}
use Rattle.world_laws.proofs.Words.{Profile, Every-map, Every-push, Has-more, Every, From, IsFin, IsRight, LaneHolds, Came, IsByteOf, Cell, Mapping, Lane, View}
use Rattle.world_laws.proofs.Words.{passes, ack_copy, takes_placed, bytes_of, sub_next, are_same, Nothing, AskPlace, AskFin, copy_clashes}
use Rattle.std.proofs.Common.{true≢false}
use Rattle.dss_mapping.specs.declared.learn.Learn.{Learn}
use Rattle.dss_mapping.specs.declared.learn.Learn.TheVariants.{New, Same, Clash}
use Rattle.dss_mapping.specs.Learning.{first_of}
use Rattle.dss_mapping.specs.Mappings.{octets_of}
use Rattle.subflow_recv.specs.Receiving.{filled}
use Rattle.subflow_tcp.specs.States as states
use Rattle.stream_lanes.specs.Moves.{in_order, part_of}
use Rattle.stream_lanes.proofs.Checking.{came_cases, checksum_shows, came_unaltered}
use Rattle.stream_lanes.proofs.Bytes.{From-take, From-filled, part_is_honest}
use Rattle.path_core.specs.Deliver.{is_whole, is_right}
use Rattle.path_store.specs.InfiniteMappings.{covers as goes_by, fin_under, place_under}
use Rattle.world_laws.proofs.Lanes.Ending.{Did, did_nothing}
use Rattle.world_laws.proofs.Lanes.Growing.{sender_stays, receiver_stays, same_edge}
use Rattle.world_laws.proofs.Lanes.Hearing.{state_shows, fin_passed_back}
use Rattle.world_laws.proofs.Lanes.Records.{every_cons, every_first, every_rest}
use Rattle.world_laws.proofs.Lanes.Roads.{Strolls, stays, then_strolls}
use Rattle.world_laws.proofs.Lanes.Showing.{HasMapping, HasFin, KeptShows, HeldShows, Under, IsAtEdge, IsPastFin, ReceiverShows, EndShows, SenderShows, identity_of, knowledge_of, KeptSummed, PeerIs}
use Rattle.world_laws.proofs.Lanes.Taking.{learned_lane, learns_it, learned_goes, learned_there, wants_place, under_drop, only_drop, acked_lane, acked_sub, acks_it, finished_lane, hears_the_fin, wants_plain, wants_pair, wants_pair_fin, same_order, filled_under}
use Rattle.world_laws.proofs.Lanes.Doing.{take_whole, wants_plain_fin}
use Rattle.world_laws.proofs.Lanes.EndParts.{new_sender, new_receiver, new_acks, new_treated, new_held}

-- the maps of the lane are more
more_maps : (recv : Receiving) (fin_at : Option ℕ) (live live_after : List KeptMapping) (plain : Bool) (p : Lane) (maps : List Mapping) → Every (KeptShows maps) live_after
    → ReceiverShows recv fin_at live plain p → ReceiverShows recv fin_at live_after plain (record p { maps = maps })
more_maps recv fin_at live live_after plain p maps mapped h = record {
  same_mode = h.same_mode;
  edge = same_edge refl refl refl (λ position octets has. has) h.edge;
  fin = h.fin;
  mapped = mapped;
}

-- bytes are the same as themselves
same_are : (xs ys : List ℕ) → xs ≡ ys → are_same xs ys ≡ true
same_are xs ys same = subst (λ zs. are_same xs zs ≡ true) same (by xs)
  where
    by : (zs : List ℕ) → are_same zs zs ≡ true
    by [] = refl
    by (z ∷ zs) = and_from (z == z) (are_same zs zs) (eq-eqb z z refl) (by zs)

-- all bytes of a mapping of the lane that come with the checksum of those that were sent are these
checksum_tells : (v : View) (path : ℕ) (p : Lane) → LaneHolds v path p → (mapping count : ℕ) (m : Mapping) (told : Summed) → slice_get p.maps mapping ≡ Some m → m.pos ≡ p.edge
    → length (in_order count p) ≡ m.len → dss_checksum told (in_order count p) ≡ dss_checksum told (part_of p.sent m) → in_order count p ≡ part_of p.sent m
checksum_tells v path p lane mapping count m told learned at size right =
    let fits : IsRight p.sent m = lane.bytes.right.each mapping m learned in
    let row : From (Came p.alters p.pieces p.sent) m.pos (in_order count p) =
    subst (λ first. From (Came p.alters p.pieces p.sent) first (in_order count p)) (sym at) (From-take count (From-filled lane.bytes.came)) in
    let within = fits.within in let some = fits.some in
    let l = length-take m.len (drop m.pos (bytes_of p.sent)) in let d = length-drop m.pos (bytes_of p.sent) in let n = length-map p.sent (λ (c : Cell). c.byte) in
    let part_size : length (part_of p.sent m) ≡ m.len = omega (arith, l, d, n, within) in
    checksum_shows told (in_order count p) (part_of p.sent m) (omega (arith, part_size, some))
    (came_cases p.alters p.pieces p.sent m (lane.bytes.learned.each mapping m learned) lane.bytes.apart (in_order count p) (part_of p.sent m) size part_size row (part_is_honest p.sent m fits)) right

module _ (c : Profile) (s : Side) (out back : Lane) where
  -- ---- mappings

  -- the first one that is held is passed over
  skipped_held : (xs : List KeptMapping) → Every (HeldShows c back.sent back.datas) xs → Every (HeldShows c back.sent back.datas) (others_of xs)
  skipped_held = elim [ [] ↦ λ h. h | kept ∷ xs ↦ λ h. every_rest kept xs h ]

  pub skipped_shows : (e : PathEnd) → EndShows c s e out back → EndShows c s (with_skipped e) out back
  skipped_shows e h = record { sender = h.sender; receiver = h.receiver; acks = h.acks; told = h.told; treated = h.treated; pairs = h.pairs; held = record { each = skipped_held e.receiving.mappings.held h.held.each; summed = h.held.summed; none = h.held.none } }

  learn_live : (kept : KeptMapping) (learn : Learn) (v : Mappings) (maps : List Mapping) → KeptShows maps kept → Every (KeptShows maps) v.live → Every (KeptShows maps) (after_learn kept learn v).live
  learn_live kept New v maps new h = Every-push kept h new
  learn_live kept Same v maps new h = h
  learn_live kept (Clash pos place here) v maps new h = h

  learn_summed : (kept : KeptMapping) (learn : Learn) (v : Mappings) → KeptSummed c back.sent kept → Every (KeptSummed c back.sent) v.live → Every (KeptSummed c back.sent) (after_learn kept learn v).live
  learn_summed kept New v new h = Every-push kept h new
  learn_summed kept Same v new h = h
  learn_summed kept (Clash pos place here) v new h = h

  learn_held : (kept : KeptMapping) (learn : Learn) (v : Mappings) → (after_learn kept learn v).held ≡ v.held
  learn_held kept New v = refl
  learn_held kept Same v = refl
  learn_held kept (Clash pos place here) v = refl

  -- the first one is learned: so is that of its copy on the lane
  pub learned_end : (e : PathEnd) → ((copy : ℕ) → copy_clashes (slice_get back.datas copy) back ≡ false) → EndShows c s e out back → Did c s (with_learned e) out out back back
  learned_end e agree h = by e.receiving.mappings.held refl h.held.each
    where
      v : Mappings
      v = e.receiving.mappings

      by : (xs : List KeptMapping) → v.held ≡ xs → Every (HeldShows c back.sent back.datas) xs
          → Did c s (record e { receiving = record e.receiving { mappings = after_skip_held (learned_if (first_of xs) v); mapped_data_fin = data_fin_behind (first_of xs) e.receiving.mapped_data_fin } }) out out back back
      by [] is held = record {
        out_after = out;
        back_after = back;
        out_moves = stays out;
        back_moves = stays back;
        sender = sender_stays out;
        receiver = receiver_stays back;
        shows = record { sender = h.sender; receiver = h.receiver; acks = h.acks; told = h.told; treated = h.treated; pairs = h.pairs; held = record { each = skipped_held v.held h.held.each; summed = h.held.summed; none = h.held.none } };
      }
      by (kept ∷ xs) is held =
          let both : HeldShows c back.sent back.datas kept = every_first kept xs held in
          let has : HasMapping back.datas kept.place kept.pos (octets_of kept) = both.0 in
          let q : Lane = learned_lane back kept.place kept.pos (octets_of kept) has (agree has.at) in
          record {
            out_after = out;
            back_after = q;
            out_moves = stays out;
            back_moves = learns_it back kept.place kept.pos (octets_of kept) has (agree has.at);
            sender = sender_stays out;
            receiver = learned_goes back kept.place kept.pos (octets_of kept) has (agree has.at);
            shows = new_receiver (more_maps e.tcp.recv e.tcp.fin_at v.live (after_learn kept (learn_of kept v) v).live (identity_of e) back q.maps
                (learn_live kept (learn_of kept v) v q.maps (learned_there back kept.place kept.pos (octets_of kept) has (agree has.at))
                (Every-map (λ m there. Has-more _ there) h.receiver.mapped)) h.receiver)
                (new_acks (record { windows = h.acks.windows; latest = h.acks.latest; due = h.acks.due; sub = h.acks.sub })
                (new_treated h.treated
                (new_held (record {
                  each = subst (λ ys. Every (HeldShows c back.sent back.datas) (others_of ys)) (sym (learn_held kept (learn_of kept v) v)) (skipped_held v.held h.held.each);
                  summed = learn_summed kept (learn_of kept v) v both.2 h.held.summed;
                  none = rw both.1 h.held.none;
                }) h)));
          }

  -- ---- other replies

  -- the lane asks no more, and may have to ask what is to be acknowledged
  abbrev pub asked_back : Bool → Lane
  asked_back due = record back { due = due; asking = Nothing }

  pub asked_end : (due : Bool) (e : PathEnd) → e.treated.asked ≡ true → EndShows c s e out back → Did c s e out out back (asked_back due)
  asked_end due e asked h = record {
    out_after = out;
    back_after = asked_back due;
    out_moves = stays out;
    back_moves = stays (asked_back due);
    sender = sender_stays out;
    receiver = record {
      edge = back.edge;
      kept = back.kept;
      maps = back.maps;
      taken = back.taken;
      loose = back.receiver_loose;
      fin_in = back.fin_in;
      due = due;
      latest = back.latest;
      asking = Nothing;
      acks = [];
      is = rw (append-nil back.acks) refl;
    };
    shows = new_receiver (record {
      same_mode = h.receiver.same_mode;
      edge = same_edge refl refl refl (λ position octets has. has) h.receiver.edge;
      fin = h.receiver.fin;
      mapped = h.receiver.mapped;
    })
        (new_acks (record {
          windows = h.acks.windows;
          latest = h.acks.latest;
          due = λ none. absurd (both_ways e.treated.asked none asked);
          sub = λ none. absurd (both_ways e.treated.asked none asked);
        })
        h);
  }

  -- ---- bytes

  -- the next bytes are those of a mapping that was learned
  record NextPiece (e : PathEnd) (piece : Piece) : Type 0 where
    pub kept : KeptMapping
    pub has : KeptShows back.maps kept
    pub summed : KeptSummed c back.sent kept
    -- where checksums are used the mapping is whole, and its checksum right
    pub checked : c.spelling.checksums ≡ true → (is_whole kept e.tcp && is_right kept e.tcp) ≡ true
    pub after : kept.pos ≤ e.tcp.recv.edge
    pub before : e.tcp.recv.edge < kept.pos + octets_of kept
    pub is : piece ≡ piece_in kept e.tcp
    pub some : 0 < length piece.octets

  found : {X : Type 0} {P : X → Type 0} (test : X → Bool) (xs : List X) (x : X) → find test xs ≡ Some x → Every P xs → P x × (test x ≡ true)
  found test [] x is h = cc
  found {X} {P} test (y ∷ xs) x is h = (elim (test y) as (λ b. test y ≡ b → (if b then Some y else find test xs) ≡ Some x → (find test xs ≡ Some x → P x × (test x ≡ true)) → P x × (test x ≡ true)) [
    | true ↦ λ passes is more. let same : y ≡ x = same_Some y x is in subst (λ z. P z × (test z ≡ true)) same (every_first y xs h, passes)
    | false ↦ λ passes is more. more is
  ]) refl is (λ rest. found test xs x rest (every_rest y xs h))

  some_from : (found piece : Piece) → some_piece found ≡ Some piece → (piece ≡ found) × (0 < length piece.octets)
  some_from found piece is =
      (elim (nat_lt 0 (length found.octets)) as (λ b. nat_lt 0 (length found.octets) ≡ b → (if b then Some found else None) ≡ Some piece → (piece ≡ found) × (0 < length piece.octets)) [
        | true ↦ λ some is. let same : found ≡ piece = same_Some found piece is in (sym same, subst (λ x. 0 < length x.octets) same (ltb-true 0 (length found.octets) some))
        | false ↦ λ none is. cc
      ]) refl is

  checked_from : (checksums : Bool) (kept : KeptMapping) (tcp : EndState) (piece : Piece) → checked_piece checksums kept tcp ≡ Some piece → some_piece (piece_in kept tcp) ≡ Some piece
  checked_from false kept tcp piece is = is
  checked_from true kept tcp piece is =
      (elim (is_whole kept tcp && is_right kept tcp) as (λ b. (if b then some_piece (piece_in kept tcp) else None) ≡ Some piece → some_piece (piece_in kept tcp) ≡ Some piece)
      [ true ↦ λ is. is | false ↦ λ is. cc ]) is

  checks_from : (checksums : Bool) (kept : KeptMapping) (tcp : EndState) (piece : Piece) → checked_piece checksums kept tcp ≡ Some piece → checksums ≡ true
      → (is_whole kept tcp && is_right kept tcp) ≡ true
  checks_from false kept tcp piece is uses = absurd (false≢true uses)
  checks_from true kept tcp piece is uses = by (is_whole kept tcp && is_right kept tcp) refl is
    where
      by : (b : Bool) → (is_whole kept tcp && is_right kept tcp) ≡ b → (if b then some_piece (piece_in kept tcp) else None) ≡ Some piece → (is_whole kept tcp && is_right kept tcp) ≡ true
      by = elim [ true ↦ λ are is. are | false ↦ λ are is. cc ]

  mapped_from : (P : KeptMapping → Type 0) (v : Mappings) (edge : ℕ) (kept : KeptMapping) → mapping_at v edge ≡ Some kept → Every P v.live → P kept × (covers edge (run_of kept) ≡ true)
  mapped_from P v edge kept is h = (elim (nat_lt edge v.forgotten) as (λ b. (if b then None else find (λ m. covers edge (run_of m)) v.live) ≡ Some kept → P kept × (covers edge (run_of kept) ≡ true))
      [ true ↦ λ is. cc | false ↦ λ is. found (λ m. covers edge (run_of m)) v.live kept is h ]) is

  piece_from : (e : PathEnd) (piece : Piece) → piece_by c.spelling.checksums (mapping_at e.receiving.mappings e.tcp.recv.edge) e.tcp ≡ Some piece → EndShows c s e out back → NextPiece e piece
  piece_from e piece is h = by (mapping_at e.receiving.mappings e.tcp.recv.edge) refl is
    where
      by : (o : Option KeptMapping) → mapping_at e.receiving.mappings e.tcp.recv.edge ≡ o → piece_by c.spelling.checksums o e.tcp ≡ Some piece → NextPiece e piece
      by None at is = cc
      by (Some kept) at is =
          let from = mapped_from (KeptShows back.maps) e.receiving.mappings e.tcp.recv.edge kept at h.receiver.mapped in
          let parts = and_parts (nat_le kept.pos e.tcp.recv.edge) (nat_lt e.tcp.recv.edge (run_of kept).to) from.1 in
          let some = some_from (piece_in kept e.tcp) piece (checked_from c.spelling.checksums kept e.tcp piece is) in
          let under : e.tcp.recv.edge < (run_of kept).to = ltb-true _ _ parts.1 in
          record {
            kept = kept;
            has = from.0;
            summed = (mapped_from (KeptSummed c back.sent) e.receiving.mappings e.tcp.recv.edge kept at h.held.summed).0;
            checked = checks_from c.spelling.checksums kept e.tcp piece is;
            after = leb-true _ _ parts.0;
            before = omega (arith, under);
            is = some.0;
            some = some.1;
          }

  -- behind the FIN nothing is in order
  none_filled : (places : List (Option ℕ)) → ((i byte : ℕ) → slice_get places i ≡ Some (Some byte) → ⊥) → filled places ≡ []
  none_filled [] none = refl
  none_filled (None ∷ places) none = refl
  none_filled (Some byte ∷ places) none = absurd (none 0 byte refl)

  at_edge : (e : PathEnd) (piece : Piece) → NextPiece e piece → EndShows c s e out back → IsAtEdge e.tcp.recv back
  at_edge e piece n h = ⊎_elim (λ at. at) (λ past. absurd (nothing past)) h.receiver.edge
    where
      nothing : IsPastFin e.tcp.fin_at e.tcp.recv back → ⊥
      nothing past =
          let none : filled e.tcp.recv.places ≡ [] = none_filled e.tcp.recv.places past.none in
          let same : length piece.octets ≡ length (take (count_in e.tcp.recv.edge n.kept) (filled e.tcp.recv.places)) = ap (λ x. length x.octets) n.is in
          let l = length-take (count_in e.tcp.recv.edge n.kept) (filled e.tcp.recv.places) in
          let zero_is : length (filled e.tcp.recv.places) ≡ 0 = ap (λ (xs : List ℕ). length xs) none in
          let some = n.some in
          absurd (omega (arith, same, l, zero_is, some))

  -- where the lane checks, the mapping is whole, and the bytes are those that were sent
  module _ (v : View) (path : ℕ) (holds : LaneHolds v path back) (uses : back.checked ≡ true → c.spelling.checksums ≡ true) (e : PathEnd) (piece : Piece) (n : NextPiece e piece)
      (at : IsAtEdge e.tcp.recv back) where
    abbrev bytes_come : List ℕ
    bytes_come = filled e.tcp.recv.places

    abbrev named : Mapping
    named = n.has.item

    abbrev named_len : ℕ
    named_len = octets_of n.kept

    abbrev ready_count : ℕ
    ready_count = length (take (count_in e.tcp.recv.edge n.kept) bytes_come)

    abbrev ready_bytes : List ℕ
    ready_bytes = in_order ready_count back

    abbrev tests_pass : Bool
    tests_pass = (named.pos == back.edge) && are_same ready_bytes (part_of back.sent named)

    all_pass : back.checked ≡ true → tests_pass ≡ true
    all_pass is =
        let both = and_parts (is_whole n.kept e.tcp) (is_right n.kept e.tcp) (n.checked (uses is)) in
        let whole = and_parts (n.kept.pos == e.tcp.recv.edge) (nat_lt 0 named_len && (nat_le named_len (length bytes_come) && nat_le (n.kept.place + named_len) (2 ^ 62))) both.0 in
        let some = and_parts (nat_lt 0 named_len) (nat_le named_len (length bytes_come) && nat_le (n.kept.place + named_len) (2 ^ 62)) whole.1 in
        let there = and_parts (nat_le named_len (length bytes_come)) (nat_le (n.kept.place + named_len) (2 ^ 62)) some.1 in
        let begins : n.kept.pos ≡ e.tcp.recv.edge = eqb-true _ _ whole.0 in
        let enough : named_len ≤ length bytes_come = leb-true _ _ there.0 in
        let low : n.kept.place + named_len ≤ 2 ^ 62 = leb-true _ _ there.1 in
        let all : count_in e.tcp.recv.edge n.kept ≡ named_len = omega (arith, begins, low) in
        let bytes_are : ready_bytes ≡ take named_len bytes_come = same_order back e.tcp.recv.places (count_in e.tcp.recv.edge n.kept) at.under ∙ ap (λ x. take x bytes_come) all in
        let position_is = n.has.holds.position_is in let edge_is = at.edge_is in
        let begins_there : named.pos ≡ back.edge = omega (arith, position_is, edge_is, begins) in
        let before : named.pos ≡ n.kept.pos - 1 = omega (arith, position_is) in
        let part_is : part_of back.sent named ≡ take named_len (drop (n.kept.pos - 1) (bytes_of back.sent)) =
        ap (λ x. take x (drop named.pos (bytes_of back.sent))) n.has.holds.len_is ∙ ap (λ x. take named_len (drop x (bytes_of back.sent))) before in
        let right : dss_checksum n.kept.mapping (take named_len bytes_come) ≡ n.kept.mapping.checksum = eqb-true _ _ both.1 in
        let sums : dss_checksum n.kept.mapping ready_bytes ≡ dss_checksum n.kept.mapping (part_of back.sent named) =
        ap (dss_checksum n.kept.mapping) bytes_are ∙ right ∙ sym (n.summed.right (uses is)) ∙ sym (ap (dss_checksum n.kept.mapping) part_is) in
        let taken : length (take named_len bytes_come) ≡ named_len = (let l = length-take named_len bytes_come in omega (arith, l, enough)) in
        let size : length ready_bytes ≡ named.len = ap (λ (xs : List ℕ). length xs) bytes_are ∙ taken ∙ sym n.has.holds.len_is in
        let same = checksum_tells v path back holds n.has.at ready_count named n.kept.mapping n.has.there begins_there size sums in
        and_from (named.pos == back.edge) (are_same ready_bytes (part_of back.sent named)) (eq-eqb named.pos back.edge begins_there) (same_are ready_bytes (part_of back.sent named) same)

    piece_passes : passes named ready_bytes back ≡ true
    piece_passes = (elim back.checked as (λ b. back.checked ≡ b → passes named ready_bytes back ≡ true)
        [ false ↦ λ none. ap (λ (b : Bool). not b || tests_pass) none | true ↦ λ is. ap (λ (b : Bool). not b || tests_pass) is ∙ all_pass is ]) refl

  wants_piece : (v : View) (path : ℕ) → LaneHolds v path back → (back.checked ≡ true → c.spelling.checksums ≡ true) → (e : PathEnd) (piece : Piece) → NextPiece e piece → EndShows c s e out back
      → Strolls back (record back { asking = AskPlace piece.place piece.octets })
  wants_piece v path lane uses e piece n h =
      let at = at_edge e piece n h in
      let l = length-take (count_in e.tcp.recv.edge n.kept) (filled e.tcp.recv.places) in
      subst (λ x. Strolls back (record back { asking = AskPlace x.place x.octets })) (sym n.is)
      (wants_place back e.tcp.recv.edge e.tcp.recv.places (count_in e.tcp.recv.edge n.kept) at.edge_is at.under n.kept.place n.kept.pos (octets_of n.kept) n.has (piece_passes v path lane uses e piece n at) n.after n.before (omega (arith, l)))

  -- the next bytes may be placed, by a mapping or in plain TCP by their positions
  pub record IsNextReady (e : PathEnd) (piece : Piece) : Type 0 where
    pub at : IsAtEdge e.tcp.recv back
    pub wants : Strolls back (record back { asking = AskPlace piece.place piece.octets })

  plain_ready : (e : PathEnd) (piece : Piece) → e.modes.identity ≡ true → some_piece (plain_piece e.tcp) ≡ Some piece → EndShows c s e out back → IsNextReady e piece
  plain_ready e piece plain is h =
      let from = some_from (plain_piece e.tcp) piece is in
      let at : IsAtEdge e.tcp.recv back = ⊎_elim (λ near. near) (λ past. absurd (nothing from.0 from.1 past)) h.receiver.edge in
      record {
        at = at;
        wants = subst (λ x. Strolls back (record back { asking = AskPlace x.place x.octets })) (sym from.0)
            (subst (λ bytes. Strolls back (record back { asking = AskPlace (e.tcp.recv.edge - 1) bytes })) (take_whole (filled e.tcp.recv.places))
            (wants_plain back e.tcp.recv.edge e.tcp.recv.places (length (filled e.tcp.recv.places)) at.edge_is at.under (h.receiver.same_mode ∙ plain)));
      }
    where
      nothing : piece ≡ plain_piece e.tcp → 0 < length piece.octets → IsPastFin e.tcp.fin_at e.tcp.recv back → ⊥
      nothing same some past =
          let none : filled e.tcp.recv.places ≡ [] = none_filled e.tcp.recv.places past.none in
          let l : length piece.octets ≡ length (filled e.tcp.recv.places) = ap (λ x. length x.octets) same in
          let zero_is : length (filled e.tcp.recv.places) ≡ 0 = ap (λ (xs : List ℕ). length xs) none in
          omega (arith, some, l, zero_is)

  -- an infinite mapping behind the FIN of the lane begins behind its edge
  behind_fin : (v : View) (path : ℕ) → LaneHolds v path back → (mapping : InfiniteMapping) → HasFin back.fins (mapping.position - 1) → mapping.position ≤ suc back.edge → ⊥
  behind_fin v path holds mapping has from =
      let fin : IsFin path v back.sent has.item = holds.fins.each has.at has.item has.there in
      let last : has.item ≡ length back.sent = fin.last in
      let position_is = has.holds in let within = holds.bytes.within in
      omega (arith, last, position_is, within, from)

  -- the peer's infinite mapping, by which the lane goes
  peer_there : (v : View) (path : ℕ) → LaneHolds v path back → (mapping : InfiniteMapping) → PeerIs back.taken mapping ⊎ HasFin back.fins (mapping.position - 1) → mapping.position ≤ suc back.edge
      → PeerIs back.taken mapping
  peer_there v path holds mapping (inl peer) from = peer
  peer_there v path holds mapping (inr has) from = absurd (behind_fin v path holds mapping has from)

  -- what is placed by it
  pair_ready : (v : View) (path : ℕ) → LaneHolds v path back → (e : PathEnd) (piece : Piece) → e.modes.identity ≡ false → goes_by e.modes.peer_infinite e.tcp.recv.edge ≡ true
      → infinite_piece e.modes.peer_infinite e.tcp ≡ Some piece → EndShows c s e out back → IsNextReady e piece
  pair_ready v path holds e piece above here is h = by e.modes.peer_infinite here is h.pairs.1 (h.pairs.2 above)
    where
      by : (o : Option InfiniteMapping) → goes_by o e.tcp.recv.edge ≡ true → infinite_piece o e.tcp ≡ Some piece
          → IfSome o (λ mapping. PeerIs back.taken mapping ⊎ HasFin back.fins (mapping.position - 1)) → (is_some o ≡ true → back.receiver_loose ≡ true) → IsNextReady e piece
      by None here is peer loose = absurd (false≢true here)
      by (Some mapping) here is peer loose = below (nat_lt place (2 ^ 62)) is
        where
          place : ℕ
          place = mapping.place + (e.tcp.recv.edge - mapping.position)

          found_piece : Piece
          found_piece = record { place = place; octets = take (2 ^ 62 - place) (filled e.tcp.recv.places) }

          nothing : piece ≡ found_piece → 0 < length piece.octets → IsPastFin e.tcp.fin_at e.tcp.recv back → ⊥
          nothing same some past =
              let none : filled e.tcp.recv.places ≡ [] = none_filled e.tcp.recv.places past.none in
              let l : length piece.octets ≡ length (take (2 ^ 62 - place) (filled e.tcp.recv.places)) = ap (λ x. length x.octets) same in
              let t = length-take (2 ^ 62 - place) (filled e.tcp.recv.places) in
              let zero_is : length (filled e.tcp.recv.places) ≡ 0 = ap (λ (xs : List ℕ). length xs) none in
              omega (arith, some, l, t, zero_is)

          below : (b : Bool) → piece_at (if b then Some place else None) e.tcp ≡ Some piece → IsNextReady e piece
          below false is = cc
          below true is =
              let from = some_from found_piece piece is in
              let at : IsAtEdge e.tcp.recv back = ⊎_elim (λ near. near) (λ past. absurd (nothing from.0 from.1 past)) h.receiver.edge in
              let begins : mapping.position ≤ e.tcp.recv.edge = leb-true mapping.position e.tcp.recv.edge here in
              let edge_is = at.edge_is in
              record {
                at = at;
                wants = subst (λ x. Strolls back (record back { asking = AskPlace x.place x.octets })) (sym from.0)
                    (wants_pair back e.tcp.recv.edge e.tcp.recv.places (2 ^ 62 - place) mapping at.edge_is at.under (loose refl)
                    (peer_there v path holds mapping peer (omega (arith, begins, edge_is))) begins);
              }

  pub next_ready : (v : View) (path : ℕ) → LaneHolds v path back → (back.checked ≡ true → c.spelling.checksums ≡ true) → (e : PathEnd) (piece : Piece) → next_piece c e ≡ Some piece → EndShows c s e out back → IsNextReady e piece
  next_ready v path lane uses e piece is h = by e.modes.identity refl (goes_by e.modes.peer_infinite e.tcp.recv.edge) refl is
    where
      by : (b : Bool) → e.modes.identity ≡ b → (d : Bool) → goes_by e.modes.peer_infinite e.tcp.recv.edge ≡ d
          → (if b then some_piece (plain_piece e.tcp)
          else (if d then infinite_piece e.modes.peer_infinite e.tcp else piece_by c.spelling.checksums (if b || d then None else mapping_at e.receiving.mappings e.tcp.recv.edge) e.tcp)) ≡ Some piece
          → IsNextReady e piece
      by true plain d here is = plain_ready e piece plain is h
      by false above true here is = pair_ready v path lane e piece above here is h
      by false above false here is = let n = piece_from e piece is h in record { at = at_edge e piece n h; wants = wants_piece v path lane uses e piece n h }

  -- ---- a check that fails

  -- bytes of a record are the same at the same place
  same_rows : (sent : List Cell) (first : ℕ) (xs ys : List ℕ) → length xs ≡ length ys → From (IsByteOf sent) first xs → From (IsByteOf sent) first ys → xs ≡ ys
  same_rows sent first [] [] size left right = refl
  same_rows sent first [] (y ∷ ys) size left right = absurd (omega (arith, size))
  same_rows sent first (x ∷ xs) [] size left right = absurd (omega (arith, size))
  same_rows sent first (x ∷ xs) (y ∷ ys) size left right =
      let head : x ≡ y = same_Some x y (sym (left.each 0 first x (omega arith) refl) ∙ right.each 0 first y (omega arith) refl) in
      let rest : xs ≡ ys = same_rows sent (suc first) xs ys (omega (arith, size))
      (record { each = λ i n b n_is e. left.each (suc i) n b (omega (arith, n_is)) e }) (record { each = λ i n b n_is e. right.each (suc i) n b (omega (arith, n_is)) e }) in
      ap (λ z. z ∷ xs) head ∙ ap (λ zs. y ∷ zs) rest

  -- that of a mapping whose bytes are all there fails only where links may alter payload
  wrong_alters : (v : View) (path : ℕ) → LaneHolds v path back → (e : PathEnd) (kept : KeptMapping) → mapping_at e.receiving.mappings e.tcp.recv.edge ≡ Some kept
      → is_wrong c.spelling.checksums kept e.tcp ≡ true → EndShows c s e out back → back.alters ≡ true
  wrong_alters v path lane e kept at wrong h = by back.alters refl
    where
      len : ℕ
      len = octets_of kept

      bytes_come : List ℕ
      bytes_come = filled e.tcp.recv.places

      by : (b : Bool) → back.alters ≡ b → b ≡ true
      by true may = refl
      by false none =
          let has = (mapped_from (KeptShows back.maps) e.receiving.mappings e.tcp.recv.edge kept at h.receiver.mapped).0 in
          let summed = (mapped_from (KeptSummed c back.sent) e.receiving.mappings e.tcp.recv.edge kept at h.held.summed).0 in
          let uses = and_parts c.spelling.checksums (is_whole kept e.tcp && not (is_right kept e.tcp)) wrong in
          let both = and_parts (is_whole kept e.tcp) (not (is_right kept e.tcp)) uses.1 in
          let whole = and_parts (kept.pos == e.tcp.recv.edge) (nat_lt 0 len && (nat_le len (length bytes_come) && nat_le (kept.place + len) (2 ^ 62))) both.0 in
          let some = and_parts (nat_lt 0 len) (nat_le len (length bytes_come) && nat_le (kept.place + len) (2 ^ 62)) whole.1 in
          let there = and_parts (nat_le len (length bytes_come)) (nat_le (kept.place + len) (2 ^ 62)) some.1 in
          let begins : kept.pos ≡ e.tcp.recv.edge = eqb-true _ _ whole.0 in
          let above : 0 < len = ltb-true _ _ some.0 in
          let enough : len ≤ length bytes_come = leb-true _ _ there.0 in
          let near : IsAtEdge e.tcp.recv back = ⊎_elim (λ at. at) (λ past. absurd (nothing above enough past)) h.receiver.edge in
          let m : Mapping = has.item in
          let fits : IsRight back.sent m = lane.bytes.right.each has.at m has.there in
          let position_is = has.holds.position_is in let edge_is = near.edge_is in
          let first : m.pos ≡ back.edge = omega (arith, position_is, edge_is, begins) in
          let before : m.pos ≡ kept.pos - 1 = omega (arith, position_is) in
          let bytes_are : take len bytes_come ≡ in_order len back = filled_under len e.tcp.recv.places back.kept near.under enough in
          let came : From (Came back.alters back.pieces back.sent) back.edge (in_order len back) = From-take len (From-filled lane.bytes.came) in
          let row : From (IsByteOf back.sent) m.pos (in_order len back) =
          subst (λ n. From (IsByteOf back.sent) n (in_order len back)) (sym first)
          (record { each = λ i n x n_is e. came_unaltered back.alters back.pieces back.sent n x none (came.each i n x n_is e) }) in
          let l = length-take m.len (drop m.pos (bytes_of back.sent)) in let d = length-drop m.pos (bytes_of back.sent) in let n = length-map back.sent (λ (cell : Cell). cell.byte) in
          let within = fits.within in
          let part_size : length (part_of back.sent m) ≡ m.len = omega (arith, l, d, n, within) in
          let taken : length (take len bytes_come) ≡ len = (let t = length-take len bytes_come in omega (arith, t, enough)) in
          let size : length (in_order len back) ≡ length (part_of back.sent m) = sym (ap (λ (xs : List ℕ). length xs) bytes_are) ∙ taken ∙ sym has.holds.len_is ∙ sym part_size in
          let same = same_rows back.sent m.pos (in_order len back) (part_of back.sent m) size row (part_is_honest back.sent m fits) in
          let part_is : part_of back.sent m ≡ take len (drop (kept.pos - 1) (bytes_of back.sent)) =
          ap (λ x. take x (drop m.pos (bytes_of back.sent))) has.holds.len_is ∙ ap (λ x. take len (drop x (bytes_of back.sent))) before in
          let right : dss_checksum kept.mapping (take len bytes_come) ≡ kept.mapping.checksum = ap (dss_checksum kept.mapping) (bytes_are ∙ same ∙ part_is) ∙ summed.right uses.0 in
          absurd (false≢true (sym (ap not (eq-eqb (dss_checksum kept.mapping (take len bytes_come)) kept.mapping.checksum right)) ∙ both.1))
        where
          nothing : 0 < len → len ≤ length bytes_come → IsPastFin e.tcp.fin_at e.tcp.recv back → ⊥
          nothing above enough past =
              let zero_is : length (filled e.tcp.recv.places) ≡ 0 = ap (λ (xs : List ℕ). length xs) (none_filled e.tcp.recv.places past.none) in
              omega (arith, above, enough, zero_is)

  pub failing_alters : (v : View) (path : ℕ) → LaneHolds v path back → (e : PathEnd) → EndShows c s e out back → IfSome (failing_by c.spelling.checksums (mapping_here e) e.tcp) (λ _. back.alters ≡ true)
  failing_alters v path lane e h =
      elim (receives_plainly e.modes e.tcp.recv.edge) as (λ b. IfSome (failing_by c.spelling.checksums (if b then None else mapping_at e.receiving.mappings e.tcp.recv.edge) e.tcp) (λ _. back.alters ≡ true)) [
        | true ↦ tt
        | false ↦ found_by (mapping_at e.receiving.mappings e.tcp.recv.edge) refl
      ]
    where
      found_by : (o : Option KeptMapping) → mapping_at e.receiving.mappings e.tcp.recv.edge ≡ o → IfSome (failing_by c.spelling.checksums o e.tcp) (λ _. back.alters ≡ true)
      found_by None at = tt
      found_by (Some kept) at =
          (elim (is_wrong c.spelling.checksums kept e.tcp) as (λ b. is_wrong c.spelling.checksums kept e.tcp ≡ b → IfSome (if b then Some kept else None) (λ _. back.alters ≡ true))
          [ true ↦ λ wrong. wrong_alters v path lane e kept at wrong h | false ↦ λ right. tt ]) refl

  filtered : {X : Type 0} {P : X → Type 0} (test : X → Bool) (xs : List X) → Every P xs → Every P (filter test xs)
  filtered test [] h = h
  filtered {X} {P} test (x ∷ xs) h = (elim (test x) as (λ b. Every P (filter test xs) → Every P (if b then x ∷ filter test xs else filter test xs))
      [ true ↦ λ rest. every_cons x _ (every_first x xs h) rest | false ↦ λ rest. rest ]) (filtered test xs (every_rest x xs h))

  moved_on : (edge count : ℕ) → edge + count - edge ≡ count
  moved_on edge count = omega arith

  -- what was placed is behind the edge of the lane too
  pub placed_end : (new : ℕ) (e : PathEnd) (piece : Piece) → IsAtEdge e.tcp.recv back → EndShows c s e out back
      → Did c s (having_asked (after_piece piece e)) out out back (takes_placed (length piece.octets) (ReassemblyReply.Placed new) back)
  placed_end new e piece at h =
      let q : Lane = takes_placed (length piece.octets) (ReassemblyReply.Placed new) back in
      record {
        out_after = out;
        back_after = q;
        out_moves = stays out;
        back_moves = stays q;
        sender = sender_stays out;
        receiver = record {
          edge = q.edge;
          kept = q.kept;
          maps = back.maps;
          taken = back.taken;
          loose = back.receiver_loose;
          fin_in = back.fin_in;
          due = true;
          latest = back.latest;
          asking = Nothing;
          acks = [];
          is = rw (append-nil back.acks) refl;
        };
        shows = new_receiver (record {
          same_mode = h.receiver.same_mode;
          edge = inl (record {
            edge_is = let edge_is = at.edge_is in omega (arith, edge_is);
            under = subst (λ n. Under (drop n e.tcp.recv.places) q.kept) (sym (moved_on e.tcp.recv.edge (length piece.octets))) (under_drop (length piece.octets) e.tcp.recv.places back.kept at.under);
            only = subst (λ n. Under q.kept (drop n e.tcp.recv.places) ⊎ (drop n e.tcp.recv.places ≡ [])) (sym (moved_on e.tcp.recv.edge (length piece.octets))) (only_drop (length piece.octets) e.tcp.recv.places back.kept at.only);
            held = tt;
          });
          fin = h.receiver.fin;
          mapped = filtered (λ kept. nat_lt (e.tcp.recv.edge + length piece.octets) (run_of kept).to) e.receiving.mappings.live h.receiver.mapped;
        })
            (new_acks (record { windows = h.acks.windows; latest = h.acks.latest; due = λ none. absurd (true≢false none); sub = λ none. absurd (true≢false none) })
            (new_treated h.treated
            (new_held (record {
              each = h.held.each;
              summed = filtered (λ kept. nat_lt (e.tcp.recv.edge + length piece.octets) (run_of kept).to) e.receiving.mappings.live h.held.summed;
              none = h.held.none;
            }) h)));
      }

  -- ---- the FIN

  -- behind the FIN nothing is kept
  none_there : (i byte : ℕ) → slice_get {X = Option ℕ} [] i ≡ Some (Some byte) → ⊥
  none_there = elim [ zero ↦ λ byte there. cc | suc i ↦ λ byte there. cc ]

  -- the lane hears the FIN, and acknowledges it where nothing is to be asked before
  module _ (v : View) (path : ℕ) (e : PathEnd) (holds : LaneHolds v path back) (h : EndShows c s e out back) where
    module _ (at : ℕ) (fin_is : e.tcp.fin_at ≡ Some at) (same : at ≡ e.tcp.recv.edge) (has : HasFin back.fins at) (near : IsAtEdge e.tcp.recv back) where
      here : at ≡ suc back.edge
      here = same ∙ near.edge_is

      abbrev q : Lane
      q = finished_lane back at has here

      abbrev next_edge : ℕ
      next_edge = e.tcp.recv.edge + 1

      passed_sender : SenderShows c s (states.after_fin_passed e.tcp.state) e.tcp.send (knowledge_of e) out
      passed_sender = state_shows c s (knowledge_of e) out e.tcp.state (states.after_fin_passed e.tcp.state) e.tcp.send (fin_passed_back e.tcp.state) h.sender

      passed_receiver : (p : Lane) → p.edge ≡ back.edge → p.fin_in ≡ true → p.fins ≡ back.fins → p.maps ≡ back.maps → p.receiver_plain ≡ back.receiver_plain
          → ReceiverShows (after_pass e.tcp.recv) e.tcp.fin_at e.receiving.mappings.live (identity_of e) p
      passed_receiver p edge fin fins maps mode = record {
        same_mode = mode ∙ h.receiver.same_mode;
        edge = inr (record {
          at_is = fin_is ∙ ap (λ n. Some n) here ∙ ap (λ n. Some (suc n)) (sym edge);
          none = λ i byte there. absurd (none_there i byte there);
          edge_is = let edge_is = near.edge_is in omega (arith, edge_is, edge);
          fin_in = fin;
        });
        fin = subst (λ xs. IfSome e.tcp.fin_at (HasFin xs)) (sym fins) h.receiver.fin;
        mapped = subst (λ xs. Every (KeptShows xs) e.receiving.mappings.live) (sym maps) h.receiver.mapped;
      }

      passes_it : Did c s (record e { tcp = after_passing_fin e.tcp }) out out back back
      passes_it = by e.treated.asked refl
        where
          by : (b : Bool) → e.treated.asked ≡ b → Did c s (record e { tcp = after_passing_fin e.tcp }) out out back back
          by true asked = record {
            out_after = out;
            back_after = q;
            out_moves = stays out;
            back_moves = hears_the_fin back at has here;
            sender = sender_stays out;
            receiver = record {
              edge = back.edge;
              kept = back.kept;
              maps = back.maps;
              taken = back.taken;
              loose = back.receiver_loose;
              fin_in = true;
              due = back.due;
              latest = back.latest;
              asking = back.asking;
              acks = [];
              is = rw (append-nil back.acks) refl;
            };
            shows = new_sender passed_sender
                (new_receiver (passed_receiver q refl refl refl refl refl)
                (new_acks (record {
                  windows = h.acks.windows;
                  latest = h.acks.latest;
                  due = λ none. absurd (both_ways e.treated.asked none asked);
                  sub = λ none. absurd (both_ways e.treated.asked none asked);
                })
                h));
          }
          by false calm =
              let edge_is = near.edge_is in
              let most : next_edge - 1 ≤ sub_next q = omega (arith, edge_is) in
              let due : q.due ≡ false = h.acks.due calm in
              let r : Lane = acked_lane q e.receiving.next e.receiving.window (next_edge - 1) h.acks.latest due most in
              record {
                out_after = out;
                back_after = r;
                out_moves = stays out;
                back_moves = then_strolls back q r (hears_the_fin back at has here) (acks_it q e.receiving.next e.receiving.window (next_edge - 1) h.acks.latest due most);
                sender = sender_stays out;
                receiver = record {
                  edge = back.edge;
                  kept = back.kept;
                  maps = back.maps;
                  taken = back.taken;
                  loose = back.receiver_loose;
                  fin_in = true;
                  due = back.due;
                  latest = back.latest;
                  asking = back.asking;
                  acks = ack_copy e.receiving.next (32 * (e.receiving.window / 32)) (next_edge - 1) q ∷ [];
                  is = refl;
                };
                shows = new_sender passed_sender
                    (new_receiver (passed_receiver r refl refl refl refl refl)
                    (new_acks (record {
                      windows = record { ack = Has-more _ h.acks.windows.ack; alone = Has-more _ h.acks.windows.alone; syn = Has-more _ h.acks.windows.syn };
                      latest = h.acks.latest;
                      due = λ none. due;
                      sub = λ none. acked_sub q e.receiving.next e.receiving.window (next_edge - 1) h.acks.latest due most;
                    })
                    h));
              }

    pub passed_fin : Did c s (after_pass_fin e) out out back back
    passed_fin = (elim (is_fin_next e.tcp) as (λ b. is_fin_next e.tcp ≡ b → Did c s (record e { tcp = if b then after_passing_fin e.tcp else e.tcp }) out out back back)
        [ false ↦ λ is. did_nothing c s out back e h | true ↦ λ is. by_fin e.tcp.fin_at refl (and_parts (is_at e.tcp.recv.edge e.tcp.fin_at) _ is).0 h.receiver.fin ]) refl
      where
        by_fin : (o : Option ℕ) → e.tcp.fin_at ≡ o → is_at e.tcp.recv.edge o ≡ true → IfSome o (HasFin back.fins) → Did c s (record e { tcp = after_passing_fin e.tcp }) out out back back
        by_fin None fin_is is has = absurd (false≢true is)
        by_fin (Some at) fin_is is has =
            let same : at ≡ e.tcp.recv.edge = eqb-true at e.tcp.recv.edge is in
            ⊎_elim (λ near. passes_it at fin_is same has near) (λ past. absurd (never at same fin_is past)) h.receiver.edge
          where
            never : (at : ℕ) → at ≡ e.tcp.recv.edge → e.tcp.fin_at ≡ Some at → IsPastFin e.tcp.fin_at e.tcp.recv back → ⊥
            never at same fin_is past =
                let same_at : at ≡ suc back.edge = same_Some at (suc back.edge) (sym fin_is ∙ past.at_is) in
                let edge_is = past.edge_is in
                omega (arith, same_at, edge_is, same)

  -- ---- the FIN as the end of the stream

  -- where the peer sends without mappings, its FIN that was passed is asked for as the end
  pub plain_fin_came : (v : View) (path : ℕ) (e : PathEnd) (place : ℕ) → LaneHolds v path back → EndShows c s e out back → place_of_fin e ≡ Some place → Strolls back (record back { asking = AskFin place })
  plain_fin_came v path e place holds h is = (elim e.receiving.fin_told as (λ b. (if b then None else place_passed e.modes e.tcp.fin_at e.tcp.recv.edge) ≡ Some place → Wants)
      [ true ↦ λ is. cc | false ↦ λ is. passed e.tcp.fin_at refl h.receiver.fin is ]) is
    where
      Wants : Type 0
      Wants = Strolls back (record back { asking = AskFin place })

      -- by the peer's infinite mapping
      by_pair : (position : ℕ) → position ≡ suc back.edge → back.fin_in ≡ true → (o : Option InfiniteMapping) → fin_under o position ≡ Some place
          → IfSome o (λ mapping. PeerIs back.taken mapping ⊎ HasFin back.fins (mapping.position - 1)) → (is_some o ≡ true → back.receiver_loose ≡ true) → Wants
      by_pair position at came None is peer loose = cc
      by_pair position at came (Some mapping) is peer loose = begins (nat_le mapping.position position) refl is
        where
          begins : (b : Bool) → nat_le mapping.position position ≡ b → (if b then place_under mapping position else None) ≡ Some place → Wants
          begins false after is = cc
          begins true from is = below (nat_lt (mapping.place + (position - mapping.position)) (2 ^ 62)) is
            where
              below : (b : Bool) → (if b then Some (mapping.place + (position - mapping.position)) else None) ≡ Some place → Wants
              below false is = cc
              below true is =
                  let same : mapping.place + (position - mapping.position) ≡ place = same_Some _ place is in
                  let first : mapping.position ≤ position = leb-true mapping.position position from in
                  subst (λ n. Strolls back (record back { asking = AskFin n })) same
                  (wants_pair_fin back mapping position at (loose refl) came (peer_there v path holds mapping peer (omega (arith, first, at))) first)

      by_mode : (position : ℕ) → position ≡ suc back.edge → back.fin_in ≡ true → (b : Bool) → e.modes.identity ≡ b → (if b then Some (position - 1) else fin_under e.modes.peer_infinite position) ≡ Some place → Wants
      by_mode position at came true plain is =
          let value : position - 1 ≡ place = same_Some (position - 1) place is in
          subst (λ n. Strolls back (record back { asking = AskFin n })) (omega (arith, at, value)) (wants_plain_fin back (h.receiver.same_mode ∙ plain) came)
      by_mode position at came false above is = by_pair position at came e.modes.peer_infinite is h.pairs.1 (h.pairs.2 above)

      passed : (o : Option ℕ) → e.tcp.fin_at ≡ o → IfSome o (HasFin back.fins) → place_passed e.modes o e.tcp.recv.edge ≡ Some place → Wants
      passed None fin_is has is = cc
      passed (Some position) fin_is has is = at (nat_lt position e.tcp.recv.edge) refl is h.receiver.edge
        where
          at : (b : Bool) → nat_lt position e.tcp.recv.edge ≡ b → (if b then fin_place e.modes position else None) ≡ Some place → IsAtEdge e.tcp.recv back ⊎ IsPastFin e.tcp.fin_at e.tcp.recv back → Wants
          at false behind is edge = cc
          at true behind is (inl near) =
              let fin : IsFin path v back.sent has.item = holds.fins.each has.at has.item has.there in
              let last : has.item ≡ length back.sent = fin.last in
              let position_is = has.holds in let edge_is = near.edge_is in let within = holds.bytes.within in
              let below : position < e.tcp.recv.edge = ltb-true position e.tcp.recv.edge behind in
              absurd (omega (arith, last, position_is, edge_is, within, below))
          at true behind is (inr past) =
              let same : position ≡ suc back.edge = same_Some position (suc back.edge) (sym fin_is ∙ past.at_is) in
              by_mode position same past.fin_in e.modes.identity refl is
