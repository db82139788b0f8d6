-- A piece that comes to an open end is taken in order, with its mapping, or came before.
use Rattle.std.proofs.Common.{◌≡◌, refl, sym, subst, ap, ◌∙◌, ⊎_elim, ℕ, ◌+◌, ◌-◌, ◌^◌, ◌<◌, ◌≤◌, arith, min, nat_lt, nat_le, ◌==◌, Bool, true, false, true≢false, not, ◌&&◌, ◌||◌, if◌then◌else◌, Option, Some, None, is_none, is_some, List, [], ◌∷◌, ◌++◌, length, map}
use Rattle.std.specs.Prelude.{option_map}
use Rattle.std.specs.List.{list_any, flat_map}
use Rattle.std.proofs.lemmas.Bool.{and_parts, both_ways, eqb-true, le-leb, lt-ltb, le-ltb, lt-leb, ne_eqb}
use Rattle.std.proofs.lemmas.List.Folds.{list_any-append}
use Rattle.path_segments.specs.Heard.{HeardSegment}
use Rattle.path_segments.specs.Laws.{meant, meant_option}
use Rattle.path_segments.specs.Options.{PlainOption}
use Rattle.path_segments.specs.Spelled.{PlainSegment}
use Rattle.path_segments.specs.declared.position.HeardPosition.TheVariants.{At}
use Rattle.path_segments.specs.declared.segment.PathMapping.TheVariants.{Bytes}
use Rattle.path_segments.specs.declared.segment.PathOption.TheVariants.{Capable, Dss}
use Rattle.mptcp_options.specs.declared.capable.CapableKeys.TheVariants.{WithData}
use Rattle.sides.specs.declared.side.Side.{Side}
use Rattle.sides.specs.declared.side.Side.TheVariants.{A, B}
use Rattle.sides.specs.Side.{peer}
use Rattle.link_model.specs.Steps.{changed, due_of}
use Rattle.dss_mapping.specs.Mappings.{run_of}
use Rattle.dss_mapping.specs.Runs.{covers}
use Rattle.dss_mapping.specs.declared.kept.KeptMapping.{KeptMapping}
use Rattle.link_model.specs.declared.flight.Flight.{Flight}
use Rattle.subflow_send.specs.Records.{Record}
use Rattle.subflow_send.specs.Rules.{is_fin}
use Rattle.subflow_tcp.specs.Emitting.{is_syn}
use Rattle.subflow_tcp.specs.Judging.{meaning_of, meaning_at, meaning_connected, meaning_placed, meaning_within, meaning_acknowledging, meaning_outside, is_repeated_syn, is_in_window, ends_in_window, is_at_right_edge, is_acceptable, is_at}
use Rattle.subflow_tcp.specs.Segments.{Copy, occupied, one_if}
use Rattle.subflow_tcp.specs.State.{EndState, is_at_limit}
use Rattle.subflow_tcp.specs.States.{is_dead, is_half_open}
use Rattle.subflow_tcp.specs.declared.handshake.State.{State as EndPhase}
use Rattle.subflow_tcp.specs.declared.handshake.State.TheVariants as phase
use Rattle.subflow_tcp.specs.declared.verdicts.Meaning.TheVariants as means
use Rattle.path_agenda.specs.declared.heard.Heard.{Heard}
use Rattle.path_agenda.specs.declared.heard.Heard.TheVariants as says
use Rattle.path_core.specs.Arrival.{copy_of, heard_in, acknowledged_in}
use Rattle.path_core.specs.Choices.{is_side_a}
use Rattle.path_core.specs.DssIn.{HeardOption, ack_items, checksum_heard, held_if, held_in, is_mapping, kept_of}
use Rattle.path_core.specs.DssOut.{checksum_told, first_piece_options, is_first_piece, infinite_or, mapped_options, place_numbered, plain_options}
use Rattle.path_core.specs.End.{PathEnd}
use Rattle.path_core.specs.Judged.{judged_of}
use Rattle.path_core.specs.MpJoin.{is_joined, is_third_right, third_in}
use Rattle.path_core.specs.OptionsIn.{items_in, items_of, options_heard}
use Rattle.path_core.specs.OptionsOut.{record_options}
use Rattle.path_core.specs.Profile.{Profile}
use Rattle.path_core.specs.State.{PathState, end_at}
use Rattle.path_core.specs.Values.{carried_by, Carried, as_arrived, values}
use Rattle.path_core.specs.declared.judged.Judged.TheVariants as judged
use Rattle.whole_paths.specs.AsFar.{stage}
use Rattle.whole_paths.specs.Arrivals.{Arrival, CameBefore, ComesAgain, ComesInOrder, EachCopyArrives, EachMappedRecordIsAPiece, EachPieceComesInOrder, HasItsMapping, HasJoined, IsFirstPiece, IsMappedPiece, IsPiece, Takes}
use Rattle.whole_paths.specs.Arrivals.{IsMappedPiece as mapped_by}
use Rattle.whole_paths.specs.Brought.{Comes, IsTo}
use Rattle.whole_paths.specs.Expiries.{IsSaidAt, IsSegmentOf}
use Rattle.whole_paths.specs.Mapped.{says_mapping}

-- ---- the segment of a record

is_a : (s : Side) → is_side_a s ≡ true → s ≡ A
is_a A is = refl
is_a B is = absurd (true≢false (sym is))

module _ (c : Profile) (s : Side) (r : Record) (e : PathEnd) (x : PlainSegment) (m : HasItsMapping c s r e) (of_it : IsSegmentOf r x) (says : IsSaidAt c s r e x) where
  some_of : 0 < length x.payload
  some_of = subst (λ (octets : List ℕ). 0 < length octets) (sym of_it.payload) m.some

  mapped_so : x.options ≡ mapped_options c s r e
  mapped_so = says.options
      ∙ ap (λ kind. record_options kind c s r e) m.kind
      ∙ ap (λ b. if b then plain_options r.pos e else infinite_or e.modes.own_infinite (mapped_options c s r e) e) m.mapped
      ∙ ap (λ o. infinite_or o (mapped_options c s r e) e) m.finite

  abbrev option_at : ℕ → ℕ → List PlainOption
  option_at position len = Dss (Some e.receiving.next) (Some (Bytes (place_numbered c s r.mapping.number) position len false (checksum_told c r.mapping.checksum))) ∷ []

  abbrev with_keys : ℕ → ℕ → List PlainOption
  with_keys other len = Capable c.spelling.checksums false (WithData e.modes.own_key other len (checksum_told c r.mapping.checksum)) ∷ []

  by_dss : is_first_piece s r e ≡ false → IsPiece x
  by_dss later = record {
    syn = of_it.syn ∙ ap is_syn m.kind;
    fin = of_it.fin ∙ ap is_fin m.kind;
    rst = of_it.rst;
    some = some_of;
    next = e.receiving.next;
    place = place_numbered c s r.mapping.number;
    checksum = checksum_told c r.mapping.checksum;
    options = mapped_so
        ∙ ap (λ b. if b then first_piece_options c e.modes.peer_key r e else option_at r.pos r.mapping.length) later
        ∙ ap (λ n. option_at r.pos n) (m.whole ∙ ap length (sym of_it.payload))
        ∙ ap (λ n. option_at n (length x.payload)) (sym of_it.position);
    behind_syn = subst (λ n. 0 < n) (sym of_it.position) m.behind_syn;
    low = subst (λ (octets : List ℕ). place_numbered c s r.mapping.number + length octets ≤ 2 ^ 62) (sym of_it.payload) m.low;
    short = subst (λ n. n + length x.payload < 2 ^ 64 - 1) (sym of_it.position) (subst (λ (octets : List ℕ). r.pos + length octets < 2 ^ 64 - 1) (sym of_it.payload) m.short);
  }

  by_keys : is_joined c ≡ false → is_first_piece s r e ≡ true → (o : Option ℕ) → e.modes.peer_key ≡ o → is_some o ≡ true → IsMappedPiece c s x
  by_keys opens is None key known = absurd (true≢false (sym known))
  by_keys opens is (Some other) key known = mapped_by.first opens (is_a s parts.0) (record {
    position = of_it.position ∙ eqb-true r.pos 1 (and_parts (not e.modes.clear) (r.pos == 1) parts.1).1;
    some = some_of;
    few = subst (λ (octets : List ℕ). length octets ≤ 65475) (sym of_it.payload) m.few;
    sums = c.spelling.checksums;
    own = e.modes.own_key;
    other = other;
    checksum = checksum_told c r.mapping.checksum;
    options = mapped_so
        ∙ ap (λ b. if b then first_piece_options c e.modes.peer_key r e else option_at r.pos r.mapping.length) is
        ∙ ap (λ o. first_piece_options c o r e) key
        ∙ ap (λ len. with_keys other len) (m.whole ∙ ap length (sym of_it.payload));
  }) (of_it.syn ∙ ap is_syn m.kind) (of_it.fin ∙ ap is_fin m.kind) of_it.rst
    where
      parts : (is_side_a s ≡ true) × ((not e.modes.clear && r.pos == 1) ≡ true)
      parts = and_parts (is_side_a s) (not e.modes.clear && r.pos == 1) is

  mapped_piece : IsMappedPiece c s x
  mapped_piece = by (is_first_piece s r e) refl
    where
      by : (b : Bool) → is_first_piece s r e ≡ b → IsMappedPiece c s x
      by false later = mapped_by.piece (by_dss later)
      by true is = ⊎_elim (λ later. absurd (both_ways (is_first_piece s r e) later is)) (λ known. by_keys known.0 is e.modes.peer_key refl known.1) m.told

pub each_mapped_record_is_a_piece : EachMappedRecordIsAPiece
each_mapped_record_is_a_piece c s r e x m of_it says = mapped_piece c s r e x m of_it says

-- ---- a copy that was under way

pub sender_of : (s : Side) → peer (peer s) ≡ s
sender_of A = refl
sender_of B = refl

pub each_copy_arrives : EachCopyArrives
each_copy_arrives s r p f copy whole same there few arrive others first next =
    let comes = arrive f there few in record {
      others = others;
      first = first;
      due = due_of f;
      next = next;
      flight = comes.first;
      there = comes.there;
      carried = comes.same ∙ copy.carried
          ∙ ap (λ b. changed (values.strips p.profile.spelling s) (values.alters p.profile.spelling s) b copy.altered (carried_by p.profile.spelling s copy.segment)) whole
          ∙ ap (λ b. changed (values.strips p.profile.spelling s) (values.alters p.profile.spelling s) false b (carried_by p.profile.spelling s copy.segment)) same
          ∙ ap (λ t. carried_by p.profile.spelling t copy.segment) (sym (ap peer copy.to ∙ sender_of s));
    }

-- ---- what it means

and_false : (b : Bool) → (b && false) ≡ false
and_false true = refl
and_false false = refl

past_connected : (state : EndPhase) (c : Copy) (s : EndState) → 2 ≤ stage state → is_dead state ≡ false → meaning_at state c s ≡ meaning_connected c s
past_connected phase.Waiting c s high living = absurd (omega (arith, high))
past_connected phase.Listen c s high living = absurd (omega (arith, high))
past_connected phase.SynSent c s high living = absurd (omega (arith, high))
past_connected phase.Dead c s high living = absurd (true≢false living)
past_connected _ c s high living = refl

unrepeated : (b : Bool) (c : Copy) → c.syn ≡ false → (not b && (c.syn && (not c.rst && (is_none c.acknowledged && is_at 0 c.position)))) ≡ false
unrepeated true c syn = refl
unrepeated false c syn = ap (λ b. b && (not c.rst && (is_none c.acknowledged && is_at 0 c.position))) syn

pub within_so : (edge pos len octets : ℕ) → 0 < len → edge < pos + len → pos + len ≤ edge + 1048576 → (is_in_window edge pos || (ends_in_window edge pos len || is_at_right_edge edge pos octets)) ≡ true
within_so edge pos len octets some new last = elim (is_in_window edge pos) as (λ b. (b || (ends_in_window edge pos len || is_at_right_edge edge pos octets)) ≡ true)
    [ true ↦ refl | false ↦ ap (λ b. b || is_at_right_edge edge pos octets) ends ]
  where
    ends : ends_in_window edge pos len ≡ true
    ends = ap (λ b. b && (nat_le edge (pos + (len - 1)) && nat_lt (pos + (len - 1)) (edge + 1048576))) (lt-ltb 0 len some)
        ∙ ap (λ b. b && nat_lt (pos + (len - 1)) (edge + 1048576)) (le-leb edge (pos + (len - 1)) (omega (arith, some, new)))
        ∙ lt-ltb (pos + (len - 1)) (edge + 1048576) (omega (arith, some, last))

outside_so : (edge pos len octets : ℕ) → 0 < len → 0 < octets → pos + len ≤ edge → (is_in_window edge pos || (ends_in_window edge pos len || is_at_right_edge edge pos octets)) ≡ false
outside_so edge pos len octets some more low =
    ap (λ b. (b && nat_lt pos (edge + 1048576)) || (ends_in_window edge pos len || is_at_right_edge edge pos octets)) (lt-leb edge pos (omega (arith, some, low)))
    ∙ ap (λ b. (nat_lt 0 len && (b && nat_lt (pos + (len - 1)) (edge + 1048576))) || is_at_right_edge edge pos octets) (lt-leb edge (pos + (len - 1)) (omega (arith, some, low)))
    ∙ ap (λ b. b || is_at_right_edge edge pos octets) (and_false (nat_lt 0 len))
    ∙ ap (λ b. b && pos == edge + 1048576) (ne_eqb octets 0 (λ none. omega (arith, more, none)))

-- a copy without flags, which the end takes, or which lies outside the window
module _ (c : Copy) (s : EndState) (pos acknowledged : ℕ) where
  acked_so : 0 < acknowledged → acknowledged ≤ s.send.nxt → meaning_acknowledging (Some acknowledged) pos s ≡ means.Taken pos acknowledged
  acked_so some sent =
      ap (λ b. if b then means.Ahead else (if is_half_open s.state && acknowledged == 0 then means.Unacknowledging else means.Taken pos acknowledged)) (le-ltb s.send.nxt acknowledged sent)
      ∙ ap (λ b. if is_half_open s.state && b then means.Unacknowledging else means.Taken pos acknowledged) (ne_eqb acknowledged 0 (λ none. omega (arith, some, none)))
      ∙ ap (λ b. if b then means.Unacknowledging else means.Taken pos acknowledged) (and_false (is_half_open s.state))

  pub taken_so : 2 ≤ stage s.state → is_dead s.state ≡ false → is_at_limit s ≡ false → c.syn ≡ false → c.rst ≡ false → c.position ≡ Some pos → c.acknowledged ≡ Some acknowledged
      → is_acceptable s.recv.edge pos c ≡ true → 0 < acknowledged → acknowledged ≤ s.send.nxt → meaning_of c s ≡ means.Taken pos acknowledged
  taken_so opened living limit syn rst at acks accepted some sent =
      past_connected s.state c s opened living
      ∙ ap (λ b. if b then means.Ignored else (if is_repeated_syn c s then means.RepeatedSyn else meaning_placed c.position c s)) limit
      ∙ ap (λ b. if b then means.RepeatedSyn else meaning_placed c.position c s) (unrepeated s.numbers.opens c syn)
      ∙ ap (λ o. meaning_placed o c s) at
      ∙ ap (λ b. if b then meaning_within pos c s else meaning_outside c) accepted
      ∙ ap (λ b. if b then (if pos == s.recv.edge then means.Kills else means.Challenged) else (if c.syn then means.Challenged else meaning_acknowledging c.acknowledged pos s)) rst
      ∙ ap (λ b. if b then means.Challenged else meaning_acknowledging c.acknowledged pos s) syn
      ∙ ap (λ o. meaning_acknowledging o pos s) acks
      ∙ acked_so some sent

  again_so : 2 ≤ stage s.state → is_dead s.state ≡ false → is_at_limit s ≡ false → c.syn ≡ false → c.rst ≡ false → c.position ≡ Some pos → is_acceptable s.recv.edge pos c ≡ false → meaning_of c s ≡ means.Outside
  again_so opened living limit syn rst at outside =
      past_connected s.state c s opened living
      ∙ ap (λ b. if b then means.Ignored else (if is_repeated_syn c s then means.RepeatedSyn else meaning_placed c.position c s)) limit
      ∙ ap (λ b. if b then means.RepeatedSyn else meaning_placed c.position c s) (unrepeated s.numbers.opens c syn)
      ∙ ap (λ o. meaning_placed o c s) at
      ∙ ap (λ b. if b then meaning_within pos c s else meaning_outside c) outside
      ∙ ap (λ b. if b then means.Ignored else means.Outside) rst

-- ---- what it maps

module _ (c : Profile) (t : Side) (next place pos len : ℕ) (checksum : Option ℕ) (behind : 0 < pos) (low : place + len ≤ 2 ^ 62) where
  pub fits : is_mapping place pos len ≡ true
  fits = ap (λ b. b && nat_le (place + len) (2 ^ 62)) (lt-ltb 0 pos behind) ∙ le-leb (place + len) (2 ^ 62) low

  abbrev option : HeardOption
  option = Dss (Some (Some next)) (Some (Bytes (Some place) (Some pos) len false checksum))

  pub kept : KeptMapping
  kept = kept_of c t place pos len false (checksum_heard checksum)

  pub held_one : flat_map (held_in c t) (option ∷ []) ≡ kept_of c t place pos len false (checksum_heard checksum) ∷ []
  held_one = ap (λ b. (if b then kept_of c t place pos len false (checksum_heard checksum) ∷ [] else []) ++ []) fits

  pub says_one : (joined : Bool) (window : ℕ) → list_any says_mapping (flat_map (items_in joined t window) (option ∷ [])) ≡ true
  says_one joined window =
      ap (λ b. list_any says_mapping ((ack_items (Some (Some next)) window ++ (if b then says.Mapping false ∷ [] else [])) ++ [])) fits
      ∙ list_any-append says_mapping (ack_items (Some (Some next)) window ++ (says.Mapping false ∷ [])) []
      ∙ ap (λ b. b || false) (list_any-append says_mapping (ack_items (Some (Some next)) window) (says.Mapping false ∷ []) ∙ or_true (list_any says_mapping (ack_items (Some (Some next)) window)))
    where
      or_true : (b : Bool) → (b || true) ≡ true
      or_true true = refl
      or_true false = refl

-- ---- what a segment maps

-- it has bytes behind the SYN
pub record HasBytes (x : PlainSegment) : Type 0 where
  pub syn : x.syn ≡ false
  pub fin : x.fin ≡ false
  pub rst : x.rst ≡ false
  pub some : 0 < length x.payload
  pub short : x.position + length x.payload < 2 ^ 64 - 1

pub has_bytes : (c : Profile) (s : Side) (x : PlainSegment) → IsMappedPiece c s x → HasBytes x
has_bytes c s x (mapped_by.piece h) = record { syn = h.syn; fin = h.fin; rst = h.rst; some = h.some; short = h.short }
has_bytes c s x (mapped_by.first opens is h syn fin rst) = record { syn = syn; fin = fin; rst = rst; some = h.some; short = (let at = h.position in let few = h.few in omega (arith, at, few)) }

-- its options say to the end of this side that all of them are mapped
pub record SaysMapping (c : Profile) (to : Side) (x : PlainSegment) : Type 0 where
  pub mapping : KeptMapping
  pub held : flat_map (held_in c to) (map meant_option x.options) ≡ mapping ∷ []
  pub says : (window : ℕ) → list_any says_mapping (flat_map (items_in (is_joined c) to window) (map meant_option x.options)) ≡ true
  pub names : (pos : ℕ) → x.position ≤ pos → pos < x.position + length x.payload → covers pos (run_of mapping) ≡ true

run_names : (n pos len : ℕ) → pos ≤ n → n < pos + len → pos + len < 2 ^ 64 - 1 → (nat_le pos n && nat_lt n (min (pos + len) (2 ^ 64 - 1))) ≡ true
run_names n pos len from below short =
    ap (λ b. b && nat_lt n (min (pos + len) (2 ^ 64 - 1))) (le-leb pos n from) ∙ lt-ltb n (min (pos + len) (2 ^ 64 - 1)) (omega (arith, below, short))

module _ (c : Profile) (x : PlainSegment) where
  piece_says : (to : Side) → IsPiece x → SaysMapping c to x
  piece_says to h = record {
    mapping = kept_of c to h.place x.position (length x.payload) false (checksum_heard h.checksum);
    held = ap (λ (os : List HeardOption). flat_map (held_in c to) os) said ∙ held_one c to h.next h.place x.position (length x.payload) h.checksum h.behind_syn h.low;
    says = λ window. ap (λ (os : List HeardOption). list_any says_mapping (flat_map (items_in (is_joined c) to window) os)) said
        ∙ says_one c to h.next h.place x.position (length x.payload) h.checksum h.behind_syn h.low (is_joined c) window;
    names = λ pos from below. run_names pos x.position (length x.payload) from below h.short;
  }
    where
      said : map meant_option x.options ≡ Dss (Some (Some h.next)) (Some (Bytes (Some h.place) (Some x.position) (length x.payload) false h.checksum)) ∷ []
      said = ap (λ os. map meant_option os) h.options

  module _ (joined : is_joined c ≡ false) (h : IsFirstPiece x) where
    abbrev len : ℕ
    len = length x.payload

    said_keys : map meant_option x.options ≡ Capable h.sums false (WithData h.own h.other (length x.payload) h.checksum) ∷ []
    said_keys = ap (λ os. map meant_option os) h.options

    some_so : nat_lt 0 (length x.payload) ≡ true
    some_so = lt-ltb 0 (length x.payload) h.some

    fit : is_mapping 0 1 (length x.payload) ≡ true
    fit = le-leb (0 + length x.payload) (2 ^ 62) (let few = h.few in omega (arith, few))

    first_says : SaysMapping c B x
    first_says = record {
      mapping = kept_of c B 0 1 len false (checksum_heard h.checksum);
      held = ap (λ (os : List HeardOption). flat_map (held_in c B) os) said_keys
          ∙ ap (λ b. (if b then [] else (if nat_lt 0 len then held_if c B 0 1 len false h.checksum else [])) ++ []) joined
          ∙ ap (λ b. (if b then held_if c B 0 1 len false h.checksum else []) ++ []) some_so
          ∙ ap (λ b. (if b then kept_of c B 0 1 len false (checksum_heard h.checksum) ∷ [] else []) ++ []) fit;
      says = λ window. ap (λ j. list_any says_mapping (flat_map (items_in j B window) (map meant_option x.options))) joined
          ∙ ap (λ (os : List HeardOption). list_any says_mapping (flat_map (items_in false B window) os)) said_keys
          ∙ ap (λ b. list_any says_mapping ((says.Keys h.other h.own ∷ (if b then (if is_mapping 0 1 len then says.Mapping false ∷ [] else []) else [])) ++ [])) some_so
          ∙ ap (λ b. list_any says_mapping ((says.Keys h.other h.own ∷ (if b then says.Mapping false ∷ [] else [])) ++ [])) fit;
      names = λ pos from below. run_names pos 1 len (subst (λ k. k ≤ pos) h.position from) (subst (λ k. pos < k + len) h.position below) (let few = h.few in omega (arith, few));
    }

  pub says_its_mapping : (to : Side) → IsMappedPiece c (peer to) x → SaysMapping c to x
  says_its_mapping to (mapped_by.piece h) = piece_says to h
  says_its_mapping A (mapped_by.first opens is h syn fin rst) = (let apart : B ≡ A = is in cc)
  says_its_mapping B (mapped_by.first opens is h syn fin rst) = first_says opens h

-- ---- a copy

pub not_half : (state : EndPhase) → 3 ≤ stage state → is_half_open state ≡ false
not_half phase.SynReceived high = absurd (omega (arith, high))
not_half _ high = refl

-- the path opens the connection
pub first_joins : (s : Side) (p : PathState Carried) → is_joined p.profile ≡ false → HasJoined s p
first_joins s p first joins = absurd (both_ways (is_joined p.profile) first joins)

-- what a copy means that is taken, or lies outside the window
pub judged_taken : (joined rst : Bool) (items : List Heard) (pos n : ℕ) (e : PathEnd) → (joined ≡ true → 3 ≤ stage e.tcp.state) → judged_of joined rst items (means.Taken pos n) e ≡ judged.As (means.Taken pos n)
judged_taken false rst items pos n e past = refl
judged_taken true rst items pos n e past =
    ap (λ b. if b && (not rst && is_none (third_in items)) then judged.As means.Ignored else (if b && not (is_third_right items e.modes) then judged.Forged else judged.As (means.Taken pos n))) (not_half e.tcp.state (past refl))

pub judged_outside : (joined rst : Bool) (items : List Heard) (e : PathEnd) → (joined ≡ true → 3 ≤ stage e.tcp.state) → judged_of joined rst items means.Outside e ≡ judged.As means.Outside
judged_outside false rst items e past = refl
judged_outside true rst items e past =
    ap (λ b. if b && (not rst && is_none (third_in items)) then judged.As means.Ignored else judged.As means.Outside) (not_half e.tcp.state (past refl))

module _ (x : PlainSegment) (p : PathState Carried) (a : Arrival x p) (joins : HasJoined a.due.to p) (is_mapped : IsMappedPiece p.profile (peer a.due.to) x) where
  pub piece : HasBytes x
  piece = has_bytes p.profile (peer a.due.to) x is_mapped

  pub maps : SaysMapping p.profile a.due.to x
  maps = says_its_mapping p.profile x a.due.to is_mapped

  abbrev pub to : Side
  to = a.due.to

  abbrev pub e : PathEnd
  e = end_at to p

  abbrev pub said : HeardSegment
  said = options_heard e (meant x)

  pub len_so : occupied (copy_of said) ≡ length x.payload
  len_so = ap (λ b. length x.payload + (one_if b + one_if x.fin)) piece.syn ∙ ap (λ b. length x.payload + (one_if false + one_if b)) piece.fin ∙ omega arith

  abbrev pub copy : Comes values p
  copy = record {
    others = a.others;
    first = a.first;
    due = a.due;
    next = a.next;
    segment = meant x;
    heard = ap (λ (o : Option (Flight Carried)). heard_in values to o p) a.there ∙ ap (λ (c : Carried). Some (meant (as_arrived c))) a.carried;
  }

  pub is_taken : (pos n : ℕ) → meaning_of (copy_of said) e.tcp ≡ means.Taken pos n → IsTo values p copy (judged.As (means.Taken pos n))
  is_taken pos n is = ap (λ m. judged_of (is_joined p.profile) said.rst (items_of (is_joined p.profile) to said) m e) is
      ∙ judged_taken (is_joined p.profile) said.rst (items_of (is_joined p.profile) to said) pos n e joins

  is_outside : meaning_of (copy_of said) e.tcp ≡ means.Outside → IsTo values p copy (judged.As means.Outside)
  is_outside is = ap (λ m. judged_of (is_joined p.profile) said.rst (items_of (is_joined p.profile) to said) m e) is
      ∙ judged_outside (is_joined p.profile) said.rst (items_of (is_joined p.profile) to said) e joins

  in_order : Takes x e → ComesInOrder x p
  in_order takes = record {
    brings = record {
      copy = copy;
      position = x.position;
      acknowledged = takes.acknowledged;
      taken = is_taken x.position takes.acknowledged (taken_so (copy_of said) e.tcp x.position takes.acknowledged takes.opened takes.living takes.below_limit piece.syn piece.rst refl
          (ap (λ (o : Option ℕ). acknowledged_in (option_map (λ n. At n) o)) takes.acknowledges) accepted takes.answered takes.sent);
    };
    payload = refl;
    position = refl;
    in_order = record {
      starts = takes.starts;
      some = piece.some;
      within = takes.within;
      mapping = maps.mapping;
      others = [];
      held = ap (λ (os : List HeardOption). flat_map (held_in p.profile to) os) options ∙ maps.held;
      says = ap (λ (os : List HeardOption). list_any says_mapping (flat_map (items_in (is_joined p.profile) to said.window) os)) options
          ∙ maps.says said.window;
      names = λ pos from below. maps.names pos (let start = takes.starts in omega (arith, start, from)) below;
    };
  }
    where
      options : said.options ≡ map meant_option x.options
      options = ap (λ b. if b then [] else map meant_option x.options) takes.mapped

      accepted : is_acceptable e.tcp.recv.edge x.position (copy_of said) ≡ true
      accepted = within_so e.tcp.recv.edge x.position (occupied (copy_of said)) (length x.payload)
          (subst (λ n. 0 < n) (sym len_so) piece.some)
          (subst (λ n. e.tcp.recv.edge < x.position + n) (sym len_so) takes.new)
          (subst (λ n. x.position + n ≤ e.tcp.recv.edge + 1048576) (sym len_so) takes.in_window)

  again : CameBefore x e → ComesAgain p
  again before = record {
    copy = copy;
    outside = is_outside (again_so (copy_of said) e.tcp x.position 0 before.opened before.living before.below_limit piece.syn piece.rst refl
        (outside_so e.tcp.recv.edge x.position (occupied (copy_of said)) (length x.payload)
        (subst (λ n. 0 < n) (sym len_so) piece.some) piece.some (subst (λ n. x.position + n ≤ e.tcp.recv.edge) (sym len_so) before.passed)));
  }

pub each_piece_comes_in_order : EachPieceComesInOrder
each_piece_comes_in_order x p a joins is_mapped = (in_order x p a joins is_mapped, again x p a joins is_mapped)
