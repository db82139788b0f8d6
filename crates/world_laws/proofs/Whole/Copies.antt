-- What copies say on path 0 as long as no end fell back and no options are taken away: A's SYN asks for Multipath TCP, and B's shows a
-- key; all else that A says has an option, and so has each payload of B. What acknowledges a byte has a Data ACK.
use Rattle.world_laws.proofs.Words.{◌≡◌, refl, sym, ap, subst, ℕ, ◌+◌, ◌-◌, ◌&&◌, ◌==◌, not, inl, inr, ◌⊎◌, Bool, true, false, if◌then◌else◌, Option, Some}
use Rattle.world_laws.proofs.Words.{None, List, [], ◌∷◌, length, map, is_some, option_map, and_parts, both_ways, false≢true, list_any, IfSome, Side, A, B}
use Rattle.world_laws.proofs.Words.{Record, SendState, RecordKind, Syn, Data, Fin, is_fin, is_opening, ack_at, fin_position, is_syn, has_records, Outgoing}
use Rattle.world_laws.proofs.Words.{HeardSegment, PlainOption, PlainSegment, Dss, meant, meant_option, Infinite, At, InfiniteMapping, OwnNotice, key_heard}
use Rattle.world_laws.proofs.Words.{is_nil, PathEnd, items_of, has_data_ack, asks_capable, acknowledged_in, first_record, ack_resent, resend_said, answer_said}
use Rattle.world_laws.proofs.Words.{is_joined, third_options, is_data_fin_owed, HeardOption, plain_options, data_fin_mapping, piece_mapping, is_first_piece}
use Rattle.world_laws.proofs.Words.{first_piece_options, piece_options, fin_options, fail_options, fail_beside, infinite_or, mapped_options, own_reset}
use Rattle.world_laws.proofs.Words.{syn_options, key_options, opening_options, ack_options, record_options, segment_of, ack_said, carried_said, record_said}
use Rattle.world_laws.proofs.Words.{syn_ack_said, fin_said, reset_said, record_or_ack, broken_options, noted_said, notice_option, dss_and, Profile, is_side_a}
use Rattle.world_laws.proofs.Words.{if_so}
use Rattle.path_segments.specs.declared.segment.PathOption.TheVariants.{FastClose}
use Rattle.path_core.specs.Arrival.{position_in}
use Rattle.world_laws.proofs.Whole.Bytes.{Grows, NoneAt, NoneBelow, at_later, below_later}

-- ---- what a copy says

abbrev pub is_infinite_option : HeardOption → Bool
is_infinite_option (Dss next (Some (Infinite place position))) = true
is_infinite_option _ = false

-- the SYN of a side
abbrev pub SynIs : Side → HeardSegment → Type 0
SynIs A h = list_any asks_capable h.options ≡ true
SynIs B h = is_some (key_heard (items_of false A h)) ≡ true

abbrev pub OptionIs : Side → HeardSegment → Type 0
OptionIs A h = is_nil h.options ≡ false
OptionIs B h = (is_nil h.payload ≡ true) ⊎ (is_nil h.options ≡ false)

-- a copy of a side's, where the other side sent `vs` and it sent `vt`; of a reset only that it has no infinite mapping
pub record HeardIs (t : Side) (vs vt : SendState) (h : HeardSegment) : Type 0 where
  pub syn : h.rst ≡ false → h.syn ≡ true → SynIs t h
  pub option : h.rst ≡ false → h.syn ≡ false → OptionIs t h
  pub acks : h.rst ≡ false → h.syn ≡ false → list_any has_data_ack h.options ≡ false → IfSome (acknowledged_in h.acknowledged) (λ n. NoneBelow n vs)
  pub fin : h.rst ≡ false → h.fin ≡ true → (h.syn ≡ false) × IfSome (position_in h.position) (λ n. NoneAt (n + length h.payload) vt)
  pub finite : list_any is_infinite_option h.options ≡ false

some_later : (P Q : ℕ → Type 0) (o : Option ℕ) → ((n : ℕ) → P n → Q n) → IfSome o P → IfSome o Q
some_later P Q None more h = tt
some_later P Q (Some n) more h = more n h

-- what holds of a copy holds of it whatever both sides send later
pub heard_later : (t : Side) (vs vt ws wt : SendState) (h : HeardSegment) → Grows vs ws → Grows vt wt → HeardIs t vs vt h → HeardIs t ws wt h
heard_later t vs vt ws wt h gs gt says = record {
  syn = says.syn;
  option = says.option;
  acks = λ rst syn none. some_later _ _ (acknowledged_in h.acknowledged) (λ n low. below_later n vs ws gs low) (says.acks rst syn none);
  fin = λ rst fin. let both = says.fin rst fin in (both.0, some_later _ _ (position_in h.position) (λ n at. at_later (n + length h.payload) vt wt gt at) both.1);
  finite = says.finite;
}

-- ---- what an end may say

-- A has B's key, and B heard that A asks for Multipath TCP
abbrev pub Knows : Side → Option ℕ → Bool → Type 0
Knows A key asked = is_some key ≡ true
Knows B key asked = asked ≡ true

abbrev pub Speaks : Side → PathEnd → Type 0
Speaks s e = Knows s e.modes.peer_key e.modes.capable_asked

-- A's SYN is no matter of that
abbrev pub MayWrite : Side → RecordKind → PathEnd → Type 0
MayWrite A Syn e = Unit {0}
MayWrite s kind e = Speaks s e

pub may_write : (s : Side) (kind : RecordKind) (e : PathEnd) → Speaks s e → MayWrite s kind e
may_write A Syn e speaks = tt
may_write A Data e speaks = speaks
may_write A Fin e speaks = speaks
may_write B kind e speaks = speaks

fail_finite : (o : Option ℕ) → list_any is_infinite_option (map meant_option (fail_options o)) ≡ false
fail_finite = elim [ None ↦ refl | Some place ↦ refl ]

-- an end that didn't fall back, on path 0: it may send a DSS, or no byte of the other side lies below its edge
module _ (c : Profile) (s : Side) (e : PathEnd) (vs vt : SendState) (first : is_joined c ≡ false) (mapped : e.modes.identity ≡ false) (own : e.modes.own_infinite ≡ None)
    (low : (e.modes.clear ≡ true) ⊎ NoneBelow e.tcp.recv.edge vs) where
  abbrev pub Says : PlainSegment → Type 0
  Says sg = HeardIs s vs vt (meant sg)

  unclear_low : e.modes.clear ≡ false → NoneBelow e.tcp.recv.edge vs
  unclear_low unclear = elim low [ inl clear ↦ absurd (both_ways e.modes.clear unclear clear) | inr below ↦ below ]

  -- options of a segment that acknowledges the edge
  record Tells (os : List PlainOption) : Type 0 where
    some : s ≡ A → is_nil (map meant_option os) ≡ false
    acks : list_any has_data_ack (map meant_option os) ≡ false → NoneBelow e.tcp.recv.edge vs
    finite : list_any is_infinite_option (map meant_option os) ≡ false

  -- a segment that is no SYN: at this position, with the edge or none acknowledged
  told : (position : ℕ) (none fin : Bool) (len : ℕ) (os : List PlainOption) (payload : List ℕ) → Tells os → (fin ≡ true → NoneAt (position + length payload) vt)
      → (is_nil payload ≡ true) ⊎ (is_nil (map meant_option os) ≡ false)
      → Says (segment_of c (record { position = position; acknowledged = (if none then None else Some e.tcp.recv.edge); syn = false; fin = fin; rst = false; length = len }) os payload e)
  told position none fin len os payload tells at carries = record {
    syn = λ rst is. absurd (false≢true is);
    option = λ rst is. some s tells.some;
    acks = λ rst is plain. by none (tells.acks plain);
    fin = λ rst is. (refl, at is);
    finite = tells.finite;
  }
    where
      said : PlainSegment
      said = segment_of c (record { position = position; acknowledged = (if none then None else Some e.tcp.recv.edge); syn = false; fin = fin; rst = false; length = len }) os payload e

      some : (t : Side) → (s ≡ A → is_nil (map meant_option os) ≡ false) → OptionIs s (meant said)
      some t all = (elim s as (λ t. s ≡ t → (s ≡ A → is_nil (map meant_option os) ≡ false) → OptionIs t (meant said))
          [ A ↦ λ same all. all same | B ↦ λ same all. carries ]) refl all

      by : (b : Bool) → NoneBelow e.tcp.recv.edge vs → IfSome (acknowledged_in (option_map (λ n. At n) (if b then None else Some e.tcp.recv.edge))) (λ n. NoneBelow n vs)
      by = elim [ true ↦ λ below. tt | false ↦ λ below. below ]

  quiet : (position : ℕ) (os : List PlainOption) → Tells os → Says (segment_of c (ack_at position e.tcp) os [] e)
  quiet position os tells = told position false false 0 os [] tells (λ is. absurd (false≢true is)) (inl refl)

  -- the options of acknowledgements
  dss_tells : (os : List PlainOption) → list_any is_infinite_option (map meant_option os) ≡ false → Tells (Dss (Some e.receiving.next) None ∷ os)
  dss_tells os finite = record { some = λ is. refl; acks = λ none. absurd (false≢true (sym none)); finite = finite }

  fin_tells : (o : Option ℕ) (os : List PlainOption) → list_any is_infinite_option (map meant_option os) ≡ false → Tells (Dss (Some e.receiving.next) (data_fin_mapping c s o) ∷ os)
  fin_tells None os finite = dss_tells os finite
  fin_tells (Some place) os finite = record { some = λ is. refl; acks = λ none. absurd (false≢true (sym none)); finite = finite }

  beside_finite : (o : Option ℕ) → list_any is_infinite_option (map meant_option (fail_beside o e.modes)) ≡ false
  beside_finite = elim [ None ↦ fail_finite _ | Some place ↦ refl ]

  key_tells : (t : Side) → s ≡ t → (o : Option ℕ) → e.modes.clear ≡ false → (s ≡ A → is_some o ≡ true) → Tells (key_options c t o e)
  key_tells A is (Some key) unclear has = record { some = λ same. refl; acks = λ none. unclear_low unclear; finite = refl }
  key_tells A is None unclear has = absurd (false≢true (has is))
  key_tells B is o unclear has = record { some = λ same. cc; acks = λ none. unclear_low unclear; finite = refl }

  has_key : Speaks s e → s ≡ A → is_some e.modes.peer_key ≡ true
  has_key speaks same = subst (λ t. Speaks t e) same speaks

  opening_tells : e.modes.clear ≡ false → Speaks s e → Tells (opening_options c s e)
  opening_tells unclear speaks =
      if_so Tells e.modes.owes_third (third_options e.modes) (key_options c s e.modes.peer_key e)
      (record { some = λ same. refl; acks = λ none. unclear_low unclear; finite = refl }) (key_tells s refl e.modes.peer_key unclear (has_key speaks))

  ack_tells : (o : Option ℕ) → Speaks s e → Tells (ack_options c s o e)
  ack_tells o speaks =
      subst (λ (b : Bool). Tells (if b then [] else (if e.modes.clear then Dss (Some e.receiving.next) (data_fin_mapping c s o) ∷ fail_beside o e.modes else opening_options c s e))) (sym mapped) (by e.modes.clear refl)
    where
      by : (b : Bool) → e.modes.clear ≡ b → Tells (if b then Dss (Some e.receiving.next) (data_fin_mapping c s o) ∷ fail_beside o e.modes else opening_options c s e)
      by true clear = fin_tells o (fail_beside o e.modes) (beside_finite o)
      by false unclear = opening_tells unclear speaks

  -- ---- acknowledgements

  pub ack_is : (position : ℕ) (o : Option ℕ) → Speaks s e → Says (ack_said c s position o e)
  ack_is position o speaks = quiet position (ack_options c s o e) (ack_tells o speaks)

  dss_is : (os : List PlainOption) → list_any is_infinite_option (map meant_option os) ≡ false → Says (dss_and c os e)
  dss_is os finite = quiet e.tcp.send.nxt (Dss (Some e.receiving.next) None ∷ os) (dss_tells os finite)

  pub noted_is : (o : Option OwnNotice) → Speaks s e → Says (noted_said c s o e)
  noted_is None speaks = ack_is e.tcp.send.nxt None speaks
  noted_is (Some (OwnNotice.AddAddr id)) speaks = dss_is (notice_option (OwnNotice.AddAddr id) e.modes ∷ []) refl
  noted_is (Some (OwnNotice.AddEcho id address port)) speaks = dss_is (notice_option (OwnNotice.AddEcho id address port) e.modes ∷ []) refl
  noted_is (Some (OwnNotice.Removes id)) speaks = dss_is (notice_option (OwnNotice.Removes id) e.modes ∷ []) refl
  noted_is (Some (OwnNotice.Prio backup)) speaks = dss_is (notice_option (OwnNotice.Prio backup) e.modes ∷ []) refl

  pub carried_is : (o : Option ℕ) → Speaks s e → Says (carried_said c s o e)
  carried_is None speaks = ack_is e.tcp.send.nxt None speaks
  carried_is (Some key) speaks = dss_is (FastClose key ∷ []) refl

  -- ---- SYN and FIN

  syn_is : (t : Side) → s ≡ t → (position : ℕ) (ack : Option ℕ) (len : ℕ) (payload : List ℕ) → MayWrite t Syn e
      → Says (segment_of c (record { position = position; acknowledged = ack; syn = true; fin = false; rst = false; length = len }) (syn_options c t e) payload e)
  syn_is A is position ack len payload may = rw (is, first) (record {
    syn = λ rst syn. refl;
    option = λ rst no. absurd (false≢true (sym no));
    acks = λ rst no. absurd (false≢true (sym no));
    fin = λ rst fin. absurd (false≢true fin);
    finite = refl;
  })
  syn_is B is position ack len payload may = rw (is, first, may, mapped) (record {
    syn = λ rst syn. refl;
    option = λ rst no. absurd (false≢true (sym no));
    acks = λ rst no. absurd (false≢true (sym no));
    fin = λ rst fin. absurd (false≢true fin);
    finite = refl;
  })

  pub syn_ack_is : MayWrite s Syn e → Says (syn_ack_said c s e)
  syn_ack_is may = syn_is s refl 0 (Some e.tcp.recv.edge) 0 [] may

  fin_tells_so : (position : ℕ) → Tells (fin_options position e)
  fin_tells_so position =
      subst (λ (b : Bool). Tells (if b then plain_options position e else infinite_or e.modes.own_infinite (Dss (Some e.receiving.next) None ∷ []) e)) (sym mapped)
      (subst (λ (o : Option InfiniteMapping). Tells (infinite_or o (Dss (Some e.receiving.next) None ∷ []) e)) (sym own) (dss_tells [] refl))

  pub fin_is : NoneAt (fin_position e.tcp.send + 0) vt → Says (fin_said c e)
  fin_is at = told (fin_position e.tcp.send) false true 0 (fin_options (fin_position e.tcp.send) e) [] (fin_tells_so (fin_position e.tcp.send)) (λ is. at) (inl refl)

  -- ---- records

  first_tells : (o : Option ℕ) (r : Record) → e.modes.clear ≡ false → is_some o ≡ true → Tells (first_piece_options c o r e)
  first_tells (Some peer) r unclear has = record { some = λ is. refl; acks = λ none. unclear_low unclear; finite = refl }
  first_tells None r unclear has = absurd (false≢true has)

  first_of_a : (t : Side) → s ≡ t → (b at : Bool) → e.modes.clear ≡ b → (is_side_a t && (not b && at)) ≡ true → (s ≡ A) × (e.modes.clear ≡ false)
  first_of_a A same false at clear is = (same, clear)
  first_of_a A same true at clear is = absurd (false≢true is)
  first_of_a B same b at clear is = absurd (false≢true is)

  mapped_tells : (r : Record) → Speaks s e → Tells (mapped_options c s r e)
  mapped_tells r speaks =
      (elim (is_first_piece s r e) as (λ b. is_first_piece s r e ≡ b → Tells (if b then first_piece_options c e.modes.peer_key r e else Dss (Some e.receiving.next) (Some (piece_mapping c s r)) ∷ [])) [
        | true ↦ λ is. let a = first_of_a s refl e.modes.clear (r.pos == 1) refl is in first_tells e.modes.peer_key r a.1 (has_key speaks a.0)
        | false ↦ λ is. record { some = λ same. refl; acks = λ none. absurd (false≢true (sym none)); finite = refl }
      ]) refl

  mapped_some : (r : Record) → Speaks s e → is_nil (map meant_option (mapped_options c s r e)) ≡ false
  mapped_some r speaks = by (is_first_piece s r e) refl
    where
      first_some : (o : Option ℕ) → is_some o ≡ true → is_nil (map meant_option (first_piece_options c o r e)) ≡ false
      first_some = elim [ Some peer ↦ λ has. refl | None ↦ λ has. absurd (false≢true has) ]

      by : (b : Bool) → is_first_piece s r e ≡ b → is_nil (map meant_option (if b then first_piece_options c e.modes.peer_key r e else Dss (Some e.receiving.next) (Some (piece_mapping c s r)) ∷ [])) ≡ false
      by true is = let a = first_of_a s refl e.modes.clear (r.pos == 1) refl is in first_some e.modes.peer_key (has_key speaks a.0)
      by false is = refl

  piece_so : (P : List PlainOption → Type 0) (r : Record) → P (mapped_options c s r e) → P (piece_options c s r e)
  piece_so P r h =
      subst (λ (b : Bool). P (if b then plain_options r.pos e else infinite_or e.modes.own_infinite (mapped_options c s r e) e)) (sym mapped)
      (subst (λ (o : Option InfiniteMapping). P (infinite_or o (mapped_options c s r e) e)) (sym own) h)

  fin_some : (position : ℕ) → is_nil (map meant_option (fin_options position e)) ≡ false
  fin_some position =
      subst (λ (b : Bool). is_nil (map meant_option (if b then plain_options position e else infinite_or e.modes.own_infinite (Dss (Some e.receiving.next) None ∷ []) e)) ≡ false) (sym mapped)
      (subst (λ (o : Option InfiniteMapping). is_nil (map meant_option (infinite_or o (Dss (Some e.receiving.next) None ∷ []) e)) ≡ false) (sym own) refl)

  -- a record that may be written
  pub record MaySay (r : Record) : Type 0 where
    pub speaks : MayWrite s r.kind e
    pub fin : is_fin r.kind ≡ true → NoneAt (r.pos + length r.piece) vt

  speaks_data : (t : Side) (kind : RecordKind) → is_syn kind ≡ false → MayWrite t kind e → Speaks t e
  speaks_data A Syn other may = absurd (false≢true (sym other))
  speaks_data A Data other may = may
  speaks_data A Fin other may = may
  speaks_data B kind other may = may

  by_kind : (kind : RecordKind) (r : Record) → MayWrite s kind e → (is_fin kind ≡ true → NoneAt (r.pos + length r.piece) vt)
      → Says (segment_of c (record { position = r.pos; acknowledged = (if is_opening e.tcp.state then None else Some e.tcp.recv.edge); syn = is_syn kind; fin = is_fin kind; rst = false; length = length r.piece }) (record_options kind c s r e) r.piece e)
  by_kind Syn r may fin = syn_is s refl r.pos (if is_opening e.tcp.state then None else Some e.tcp.recv.edge) (length r.piece) r.piece may
  by_kind Data r may fin =
      let speaks = speaks_data s Data refl may in
      told r.pos (is_opening e.tcp.state) false (length r.piece) (piece_options c s r e) r.piece (piece_so Tells r (mapped_tells r speaks)) (λ is. absurd (false≢true is))
      (inr (piece_so (λ os. is_nil (map meant_option os) ≡ false) r (mapped_some r speaks)))
  by_kind Fin r may fin =
      told r.pos (is_opening e.tcp.state) true (length r.piece) (fin_options r.pos e) r.piece (fin_tells_so r.pos) (λ is. fin refl)
      (inr (fin_some r.pos))

  record_is : (r : Record) → MaySay r → Says (record_said c s r e)
  record_is r may = by_kind r.kind r may.speaks may.fin

  pub record_or_ack_is : (o : Option Record) → IfSome o MaySay → (o ≡ None → Speaks s e) → Says (record_or_ack c s o e)
  record_or_ack_is None may speaks = ack_is e.tcp.send.nxt None (speaks refl)
  record_or_ack_is (Some r) may speaks = record_is r may

  -- ---- what is said again

  pub answer_is : Speaks s e → Says (answer_said c s e)
  answer_is speaks =
      if_so Says e.tcp.due.syn_ack (syn_ack_said c s e) (ack_said c s e.tcp.send.nxt None e)
      (syn_ack_is (may_write s Syn e speaks)) (ack_is e.tcp.send.nxt None speaks)

  ack_resent_is : Speaks s e → Says (ack_resent c s e)
  ack_resent_is speaks = by e.modes.owes_third e.notices.fast_closed (is_data_fin_owed e)
    where
      by : (x y z : Bool) → Says (if x then ack_said c s e.tcp.send.nxt None e else (if y then carried_said c s e.notices.carrier e
          else (if z then ack_said c s e.tcp.send.nxt e.sending.known_end e else ack_said c s (e.tcp.send.una - 1) None e)))
      by true y z = ack_is e.tcp.send.nxt None speaks
      by false true z = carried_is e.notices.carrier speaks
      by false false true = ack_is e.tcp.send.nxt e.sending.known_end speaks
      by false false false = ack_is (e.tcp.send.una - 1) None speaks

  pub resend_is : IfSome (first_record e) MaySay → Speaks s e ⊎ (is_some (first_record e) && has_records e.tcp ≡ true) → Says (resend_said c s e)
  resend_is may speaks = (elim (has_records e.tcp) as (λ b. has_records e.tcp ≡ b → Says (if b then record_or_ack c s (first_record e) e else ack_resent c s e))
      [ true ↦ λ is. record_or_ack_is (first_record e) may (λ none. none_then none speaks) | false ↦ λ is. ack_resent_is (empty_then is speaks) ]) refl
    where
      none_then : first_record e ≡ None → Speaks s e ⊎ (is_some (first_record e) && has_records e.tcp ≡ true) → Speaks s e
      none_then none (inl so) = so
      none_then none (inr both) = absurd (both_ways (is_some (first_record e)) (ap is_some none) (and_parts (is_some (first_record e)) (has_records e.tcp) both).0)

      empty_then : has_records e.tcp ≡ false → Speaks s e ⊎ (is_some (first_record e) && has_records e.tcp ≡ true) → Speaks s e
      empty_then empty (inl so) = so
      empty_then empty (inr both) = absurd (both_ways (has_records e.tcp) empty (and_parts (is_some (first_record e)) (has_records e.tcp) both).1)

-- ---- resets

module _ (c : Profile) (s : Side) (e : PathEnd) (vs vt : SendState) where
  pub reset_like : (o : Outgoing) (os : List PlainOption) → o.rst ≡ true → list_any is_infinite_option (map meant_option os) ≡ false → HeardIs s vs vt (meant (segment_of c o os [] e))
  reset_like o os rst finite = record {
    syn = λ no. absurd (both_ways o.rst no rst);
    option = λ no. absurd (both_ways o.rst no rst);
    acks = λ no. absurd (both_ways o.rst no rst);
    fin = λ no. absurd (both_ways o.rst no rst);
    finite = finite;
  }

  pub reset_is : (reason : Option ℕ) → HeardIs s vs vt (meant (reset_said c reason e))
  reset_is reason = reset_like (own_reset e) _ refl (by e.modes.identity e.treated.failed_mapping reason)
    where
      by : (b : Bool) (failed reason : Option ℕ) → list_any is_infinite_option (map meant_option (if b then [] else broken_options failed reason)) ≡ false
      by true failed reason = refl
      by false failed None = refl
      by false None (Some reason) = refl
      by false (Some place) (Some reason) = refl
