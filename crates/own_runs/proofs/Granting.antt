-- Every octet that a path has on a lane was granted to it by a step that an actor noted.
use Rattle.own_runs.proofs.Words.{◌≡◌, refl, sym, ◌∙◌, ap, subst, ℕ, zero, suc, ◌+◌, ◌-◌, ◌<◌, ◌≤◌, ◌⊎◌, inl, inr, ⊎_elim, Bool, true, false, if◌then◌else◌}
use Rattle.own_runs.proofs.Words.{nat_le, nat_lt, Option, Some, None, List, [], ◌∷◌, length, arith, set, and_parts, false≢true, le-leb, and_from, lt-ltb}
use Rattle.own_runs.proofs.Words.{slice_get, list_all, same_Some, Side, A, B, SendCall, covers, send_reply, Ask, in_append, in_set, AskHolds, DirectionHolds}
use Rattle.own_runs.proofs.Words.{HasPlace, Holds, view_of, LaneAsk, Cell, Lane, Duo, flags_ab, flags_ba, after_event, after_events, AreSilent, CallIs}
use Rattle.own_runs.proofs.Words.{LaneAsks, ReassemblyCallIs, SendCallIs, TurnShows, call_events, is_silent}
use Rattle.send_book.specs.declared.call.SendCall.TheVariants.{GoIdentity as GoIdentityBook}
use Rattle.send_book.specs.declared.call.SendReply.{SendReply}
use Rattle.send_book.proofs.Grants.{granted_pieces_are_whole}
use Rattle.reassembly_book.specs.declared.call.ReassemblyCall.{ReassemblyCall}
use Rattle.reassembly_book.specs.Steps.{reply_to as arrival_reply}
use Rattle.stream_lanes.specs.Lane.Ask.{AskGrant, AskAckIn, AskPlace, AskFin, AskAckOut}
use Rattle.stream_lanes.specs.Moves.{Flags, Move, cells_from, takes_grant}
use Rattle.stream_lanes.specs.Streams.{Direction, StreamEvent, after, asks, asks_at, is_done, moves, reads, with_send, goes_infinite, may_go}
use Rattle.stream_lanes.specs.Streams.StreamEvent.{Write, Close, Return, GoIdentity, AbortSend, Read, AbortRead, Moves, Asks, GoInfinite}
use Rattle.stream_lanes.specs.Duo.{Event}
use Rattle.stream_lanes.specs.Duo.Event.{ToB, ToA, FallA, FallB, LoosenA, LoosenB, BeginJoin, SendJoin, HearJoin}
use Rattle.stream_lanes.proofs.Directions.{acked_sent, fin_sent, moved_sent, placed_sent}
use Rattle.stream_lanes.proofs.Promises.{records_fit}
use Rattle.world_laws.proofs.Places.Sent.{ack_out_sent}
use Rattle.world_laws.proofs.Lanes.Strolling.{events_held}

-- ---- one direction

-- the lane of this number has the place
abbrev pub Had : Direction → ℕ → ℕ → Type 0
Had d path place = (p : Lane) × (slice_get d.lanes path ≡ Some p) × HasPlace p.sent place

-- what a lane has later it had before, or the place is new
pub record Adds (New : ℕ → Type 0) (d e : Direction) : Type 0 where
  pub each : (path place : ℕ) → Had e path place → Had d path place ⊎ New place

pub then_adds : (New : ℕ → Type 0) (c d e : Direction) → Adds New c d → Adds New d e → Adds New c e
then_adds New c d e x y = record { each = λ path place had. ⊎_elim (λ old. x.each path place old) (λ new. inr new) (y.each path place had) }

-- the places of bytes with the places from one on
placed_from : (from : ℕ) (bytes : List ℕ) (i : ℕ) (c : Cell) → slice_get (cells_from from bytes) i ≡ Some c → (c.place ≡ from + i) × (i < length bytes)
placed_from from [] i c there = cc
placed_from from (byte ∷ bytes) zero c there = (let same = same_Some (record { place = from; byte = byte }) c there in omega (arith, ap (λ (x : Cell). x.place) same), omega arith)
placed_from from (byte ∷ bytes) (suc i) c there = let rest = placed_from (suc from) bytes i c there in (omega (arith, rest.0), omega (arith, rest.1))

-- the reply to an ask for bytes gives whole pieces
abbrev IsWholePiece : SendReply → Type 0
IsWholePiece (SendReply.Granted span piece) = (length piece ≡ span.to - span.from) × (1 ≤ length piece)
IsWholePiece _ = Unit {0}

grant_grows : (r : SendReply) (p : Lane) (place : ℕ) → IsWholePiece r → HasPlace (takes_grant r p).sent place → HasPlace p.sent place ⊎ (covers place r ≡ true)
grant_grows (SendReply.Granted span piece) p place whole has = ⊎_elim
    (λ old. inl (record { at = has.at; item = has.item; there = old; holds = has.holds }))
    (λ new. inr (let found = placed_from span.from piece (has.at - length p.sent) has.item new.1 in
    and_from (nat_le span.from place) (nat_lt place span.to)
    (le-leb span.from place (omega (arith, found.0, has.holds)))
    (lt-ltb place span.to (omega (arith, found.0, found.1, has.holds, whole.0, whole.1)))))
    (in_append p.sent (cells_from span.from piece) has.at has.item has.there)
grant_grows _ p place whole has = inl has

module _ (New : ℕ → Type 0) (f : Flags) (d : Direction) where
  lanes_same : (e : Direction) → e.lanes ≡ d.lanes → Adds New d e
  lanes_same e same = record { each = λ path place had. inl (had.0, sym (ap (λ lanes. slice_get lanes path) same) ∙ had.1, had.2) }

  -- a lane is put to its place
  put : (path : ℕ) (p r : Lane) (e : Direction) → e.lanes ≡ set d.lanes path r → slice_get d.lanes path ≡ Some p
      → ((place : ℕ) → HasPlace r.sent place → HasPlace p.sent place ⊎ New place) → Adds New d e
  put path p r e is there grows = record { each = λ at place had. by at place had.0 had.2 (in_set d.lanes path r at had.0 (sym (ap (λ lanes. slice_get lanes at) is) ∙ had.1)) }
    where
      by : (at place : ℕ) (q : Lane) → HasPlace q.sent place → ((at ≡ path) × (r ≡ q)) ⊎ ((at ≡ path → ⊥) × (slice_get d.lanes at ≡ Some q)) → Had d at place ⊎ New place
      by at place q has (inl here) = ⊎_elim
          (λ old. inl (p, ap (slice_get d.lanes) here.0 ∙ there, old)) (λ new. inr new)
          (grows place (subst (λ (x : Lane). HasPlace x.sent place) (sym here.1) has))
      by at place q has (inr other) = inl (q, other.1, has)

  put_same : (path : ℕ) (p r : Lane) (e : Direction) → e.lanes ≡ set d.lanes path r → slice_get d.lanes path ≡ Some p → r.sent ≡ p.sent → Adds New d e
  put_same path p r e is there same = put path p r e is there (λ place has. inl (subst (λ sent. HasPlace sent place) same has))

  moves_add : (path : ℕ) (m : Move) (o : Option Lane) → slice_get d.lanes path ≡ o → Adds New d (moves f path m o d)
  moves_add path m None there = lanes_same d refl
  moves_add path m (Some p) there = put_same path p _ _ refl there (moved_sent f path m p)

  reads_add : (max : ℕ) (done : Bool) → Adds New d (if done then d else reads max d)
  reads_add max true = lanes_same d refl
  reads_add max false = lanes_same (reads max d) refl

  -- an ask that a lane is about to make
  asked_adds : (x : LaneAsk) → ((path : ℕ) (p : Lane) → slice_get d.lanes path ≡ Some p → Adds New d (asks path x p d)) → (event : StreamEvent) → LaneAsks x d event
      → Adds New d (after f event d)
  asked_adds x adds event a =
      subst (λ e. Adds New d (after f e d)) (sym a.event_is)
      (subst (λ o. Adds New d (asks_at a.path o d)) (sym a.asking.there)
      (subst (λ y. Adds New d (asks a.path y a.asking.lane d)) (sym a.asking.asks) (adds a.path a.asking.lane a.asking.there)))

  event_is : (x y : StreamEvent) → x ≡ y → Adds New d (after f y d) → Adds New d (after f x d)
  event_is x y same adds = subst (λ e. Adds New d (after f e d)) (sym same) adds

  arrival_adds : (c : ReassemblyCall) (event : StreamEvent) → ReassemblyCallIs c d event → Adds New d (after f event d)
  arrival_adds (ReassemblyCall.Place at bytes) event is =
      asked_adds (AskPlace at bytes) (λ path p there. put_same path p _ _ refl there (placed_sent _ (arrival_reply d.arrived (ReassemblyCall.Place at bytes)) p)) event is
  arrival_adds (ReassemblyCall.Fin at) event is =
      asked_adds (AskFin at) (λ path p there. put_same path p _ _ refl there (fin_sent (arrival_reply d.arrived (ReassemblyCall.Fin at)) p)) event is
  arrival_adds (ReassemblyCall.Read most) event is = event_is event (Read most) is.0 (reads_add most (is_done d.reader))
  arrival_adds ReassemblyCall.AckOut event is =
      asked_adds AskAckOut (λ path p there. put_same path p _ _ refl there (ack_out_sent (arrival_reply d.arrived ReassemblyCall.AckOut) p)) event is
  arrival_adds (ReassemblyCall.Abort by_peer) event is = event_is event (AbortRead by_peer) is (lanes_same _ refl)

-- a move leaves the send book alone
moves_send : (f : Flags) (path : ℕ) (m : Move) (o : Option Lane) (d : Direction) → (moves f path m o d).send ≡ d.send
moves_send f path m None d = refl
moves_send f path m (Some p) d = refl

-- what a call grants of its book
abbrev pub Grants : SendCall → Direction → ℕ → Type 0
Grants (SendCall.Grant path most standby) d place = covers place (send_reply d.send (SendCall.Grant path most standby)) ≡ true
Grants _ d place = ⊥

module _ (f : Flags) (d : Direction) (holds : DirectionHolds f d) where
  whole_piece : (path most : ℕ) (standby : Bool) → 1 ≤ most → IsWholePiece (send_reply d.send (SendCall.Grant path most standby))
  whole_piece path most standby some = (elim (send_reply d.send (SendCall.Grant path most standby)) as (λ r. send_reply d.send (SendCall.Grant path most standby) ≡ r → IsWholePiece r) [
    | SendReply.Granted span piece ↦ λ is. let piece_is = granted_pieces_are_whole d.send path most standby span piece (records_fit f d holds).tile some is in (piece_is.whole, piece_is.some)
    | _ ↦ λ is. tt
  ]) refl

  grant_adds : (path most : ℕ) (standby : Bool) (p : Lane) → slice_get d.lanes path ≡ Some p → p.asking ≡ AskGrant most standby
      → Adds (Grants (SendCall.Grant path most standby) d) d (asks_at path (Some p) d)
  grant_adds path most standby p there asks_is =
      let held = (holds.lanes.each path path p (omega arith) there).ask in
      let some = (subst (λ (a : LaneAsk). AskHolds (view_of f d.send d.arrived) p.sent p.opened p.edge a) asks_is held).1 in
      subst (λ (a : LaneAsk). Adds (Grants (SendCall.Grant path most standby) d) d (asks path a p d)) (sym asks_is)
      (put (Grants (SendCall.Grant path most standby) d) f d path p _ _ refl there
      (λ place has. grant_grows (send_reply d.send (SendCall.Grant path most standby)) p place (whole_piece path most standby some) has))

  send_adds : (c : SendCall) (event : StreamEvent) → SendCallIs c d event → Adds (Grants c d) d (after f event d)
  send_adds (SendCall.Write bytes) event is = event_is _ f d event (Write bytes) is (lanes_same _ f d _ refl)
  send_adds SendCall.Close event is = event_is _ f d event Close is (lanes_same _ f d _ refl)
  send_adds (SendCall.Grant path most standby) event is =
      event_is _ f d event (Asks path) is.0
      (subst (λ o. Adds (Grants (SendCall.Grant path most standby) d) d (asks_at path o d)) (sym is.1.there)
      (grant_adds path most standby is.1.lane is.1.there is.1.asks))
  send_adds (SendCall.AckIn next window) event is =
      asked_adds _ f d (AskAckIn next window) (λ path p there. put_same _ f d path p _ _ refl there (acked_sent next (send_reply d.send (SendCall.AckIn next window)) p)) event is
  send_adds (SendCall.Return path) event is = event_is _ f d event (Return path) is (lanes_same _ f d _ refl)
  send_adds SendCall.GoIdentity event is = event_is _ f d event GoIdentity is (by f.sender)
    where
      by : (b : Bool) → Adds (Grants SendCall.GoIdentity d) d (if b then with_send GoIdentityBook d else d)
      by true = lanes_same _ f d (with_send GoIdentityBook d) refl
      by false = lanes_same _ f d d refl
  send_adds (SendCall.GoInfinite path) event is = event_is _ f d event (GoInfinite path is.0) is.1 (at (slice_get d.lanes path) refl)
    where
      at : (o : Option Lane) → slice_get d.lanes path ≡ o → Adds (Grants (SendCall.GoInfinite path) d) d (goes_infinite path is.0 o d)
      at None there = lanes_same _ f d d refl
      at (Some p) there =
          (elim (may_go path is.0 d.send p) as (λ b. (e : Direction) → Adds (Grants (SendCall.GoInfinite path) d) d e → Adds (Grants (SendCall.GoInfinite path) d) d (if b then e else d))
          [ true ↦ λ e adds. adds | false ↦ λ e adds. lanes_same _ f d d refl ]) _ (put_same _ f d path p _ _ refl there refl)
  send_adds SendCall.Abort event is = event_is _ f d event AbortSend is (lanes_same _ f d _ refl)

-- ---- both directions

abbrev pub way : Side → Duo → Direction
way A d = d.ab
way B d = d.ba

abbrev Grows : Side → (ℕ → Type 0) → Duo → Duo → Type 0
Grows s New d e = Adds New (way s d) (way s e)

unchanged : (s : Side) (New : ℕ → Type 0) (d e : Duo) → (way s e).lanes ≡ (way s d).lanes → Grows s New d e
unchanged s New d e same = lanes_same New (flags_ab d.modes) (way s d) (way s e) same

still : (s : Side) (New : ℕ → Type 0) (event : Event) (d : Duo) → (way s (after_event event d)).lanes ≡ (way s d).lanes → Grows s New d (after_event event d)
still s New event d same = unchanged s New d (after_event event d) same

silent_one : (s : Side) (New : ℕ → Type 0) (event : Event) → is_silent event ≡ true → (d : Duo) → Grows s New d (after_event event d)
silent_one A New (ToB (Moves path m)) is d = moves_add New (flags_ab d.modes) d.ab path m (slice_get d.ab.lanes path) refl
silent_one B New (ToB (Moves path m)) is d = still B New (ToB (Moves path m)) d refl
silent_one A New (ToA (Moves path m)) is d = still A New (ToA (Moves path m)) d refl
silent_one B New (ToA (Moves path m)) is d = moves_add New (flags_ba d.modes) d.ba path m (slice_get d.ba.lanes path) refl
silent_one A New FallA is d = still A New FallA d refl
silent_one B New FallA is d = still B New FallA d refl
silent_one A New FallB is d = still A New FallB d refl
silent_one A New LoosenA is d = still A New LoosenA d refl
silent_one A New LoosenB is d = still A New LoosenB d refl
silent_one B New FallB is d = still B New FallB d refl
silent_one B New LoosenA is d = still B New LoosenA d refl
silent_one B New LoosenB is d = still B New LoosenB d refl
silent_one A New BeginJoin is d = still A New BeginJoin d refl
silent_one B New BeginJoin is d = still B New BeginJoin d refl
silent_one A New SendJoin is d = still A New SendJoin d refl
silent_one B New SendJoin is d = still B New SendJoin d refl
silent_one A New HearJoin is d = still A New HearJoin d refl
silent_one B New HearJoin is d = still B New HearJoin d refl
silent_one s New _ is d = absurd (false≢true is)

silent_all : (s : Side) (New : ℕ → Type 0) (events : List Event) → AreSilent events → (d : Duo) → Grows s New d (after_events events d)
silent_all s New [] is d = unchanged s New d d refl
silent_all s New (event ∷ events) is d =
    let parts = and_parts (is_silent event) (list_all is_silent events) is in
    then_adds New (way s d) (way s (after_event event d)) (way s (after_events events (after_event event d)))
    (silent_one s New event parts.0 d) (silent_all s New events parts.1 (after_event event d))

-- moves leave the send books alone
silent_send : (s : Side) (event : Event) → is_silent event ≡ true → (d : Duo) → (way s (after_event event d)).send ≡ (way s d).send
silent_send A (ToB (Moves path m)) is d = moves_send (flags_ab d.modes) path m (slice_get d.ab.lanes path) d.ab
silent_send B (ToB (Moves path m)) is d = refl
silent_send A (ToA (Moves path m)) is d = refl
silent_send B (ToA (Moves path m)) is d = moves_send (flags_ba d.modes) path m (slice_get d.ba.lanes path) d.ba
silent_send A FallA is d = refl
silent_send B FallA is d = refl
silent_send A FallB is d = refl
silent_send A LoosenA is d = refl
silent_send A LoosenB is d = refl
silent_send B FallB is d = refl
silent_send B LoosenA is d = refl
silent_send B LoosenB is d = refl
silent_send A BeginJoin is d = refl
silent_send B BeginJoin is d = refl
silent_send A SendJoin is d = refl
silent_send B SendJoin is d = refl
silent_send A HearJoin is d = refl
silent_send B HearJoin is d = refl
silent_send s _ is d = absurd (false≢true is)

silent_sends : (s : Side) (events : List Event) → AreSilent events → (d : Duo) → (way s (after_events events d)).send ≡ (way s d).send
silent_sends s [] is d = refl
silent_sends s (event ∷ events) is d =
    let parts = and_parts (is_silent event) (list_all is_silent events) is in
    silent_sends s events parts.1 (after_event event d) ∙ silent_send s event parts.0 d

-- what an ask grants of a side's stream, its books standing so
abbrev pub AskGrants : Side → Ask → Duo → ℕ → Type 0
AskGrants A (Ask.Send A c) d place = Grants c d.ab place
AskGrants B (Ask.Send B c) d place = Grants c d.ba place
AskGrants s ask d place = ⊥

call_grows : (s : Side) (ask : Ask) (call : Option Event) (d : Duo) → Holds d → CallIs (Some ask) d call → Grows s (AskGrants s ask d) d (after_events (call_events call) d)
call_grows A (Ask.Send A c) call d holds is = subst (λ x. Grows A (AskGrants A (Ask.Send A c) d) d (after_events (call_events x) d)) (sym is.1) (send_adds (flags_ab d.modes) d.ab holds.ab c is.0 is.2)
call_grows B (Ask.Send B c) call d holds is = subst (λ x. Grows B (AskGrants B (Ask.Send B c) d) d (after_events (call_events x) d)) (sym is.1) (send_adds (flags_ba d.modes) d.ba holds.ba c is.0 is.2)
call_grows B (Ask.Send A c) call d holds is = subst (λ x. Grows B (AskGrants B (Ask.Send A c) d) d (after_events (call_events x) d)) (sym is.1) (still B _ (ToB is.0) d refl)
call_grows A (Ask.Send B c) call d holds is = subst (λ x. Grows A (AskGrants A (Ask.Send B c) d) d (after_events (call_events x) d)) (sym is.1) (still A _ (ToA is.0) d refl)
call_grows A (Ask.Reassembly A c) call d holds is = subst (λ x. Grows A (AskGrants A (Ask.Reassembly A c) d) d (after_events (call_events x) d)) (sym is.1) (still A _ (ToA is.0) d refl)
call_grows B (Ask.Reassembly A c) call d holds is =
    subst (λ x. Grows B (AskGrants B (Ask.Reassembly A c) d) d (after_events (call_events x) d)) (sym is.1) (arrival_adds _ (flags_ba d.modes) d.ba c is.0 is.2)
call_grows A (Ask.Reassembly B c) call d holds is =
    subst (λ x. Grows A (AskGrants A (Ask.Reassembly B c) d) d (after_events (call_events x) d)) (sym is.1) (arrival_adds _ (flags_ab d.modes) d.ab c is.0 is.2)
call_grows B (Ask.Reassembly B c) call d holds is = subst (λ x. Grows B (AskGrants B (Ask.Reassembly B c) d) d (after_events (call_events x) d)) (sym is.1) (still B _ (ToB is.0) d refl)
call_grows A (Ask.Control r c) call d holds is = subst (λ x. Grows A (AskGrants A (Ask.Control r c) d) d (after_events (call_events x) d)) (sym is) (unchanged A _ d d refl)
call_grows B (Ask.Control r c) call d holds is = subst (λ x. Grows B (AskGrants B (Ask.Control r c) d) d (after_events (call_events x) d)) (sym is) (unchanged B _ d d refl)
call_grows A (Ask.Local step) call d holds is = subst (λ x. Grows A (AskGrants A (Ask.Local step) d) d (after_events (call_events x) d)) (sym is) (unchanged A _ d d refl)
call_grows B (Ask.Local step) call d holds is = subst (λ x. Grows B (AskGrants B (Ask.Local step) d) d (after_events (call_events x) d)) (sym is) (unchanged B _ d d refl)

-- equal send books grant an ask the same places
same_grants : (s : Side) (ask : Ask) (d e : Duo) (place : ℕ) → ((r : Side) → (way r e).send ≡ (way r d).send) → AskGrants s ask e place → AskGrants s ask d place
same_grants A (Ask.Send A c) d e place same h = (elim c as (λ c. Grants c e.ab place → Grants c d.ab place)
    [ SendCall.Grant path most standby ↦ λ h. subst (λ send. covers place (send_reply send (SendCall.Grant path most standby)) ≡ true) (same A) h | _ ↦ λ h. h ]) h
same_grants B (Ask.Send B c) d e place same h = (elim c as (λ c. Grants c e.ba place → Grants c d.ba place)
    [ SendCall.Grant path most standby ↦ λ h. subst (λ send. covers place (send_reply send (SendCall.Grant path most standby)) ≡ true) (same B) h | _ ↦ λ h. h ]) h
same_grants A (Ask.Send B c) d e place same h = h
same_grants B (Ask.Send A c) d e place same h = h
same_grants A (Ask.Reassembly r c) d e place same h = h
same_grants B (Ask.Reassembly r c) d e place same h = h
same_grants A (Ask.Control r c) d e place same h = h
same_grants B (Ask.Control r c) d e place same h = h
same_grants A (Ask.Local step) d e place same h = h
same_grants B (Ask.Local step) d e place same h = h

-- ---- a turn

-- what an ask grants, where one is asked
abbrev pub TurnGrants : Side → Option Ask → Duo → ℕ → Type 0
TurnGrants s None d place = ⊥
TurnGrants s (Some ask) d place = AskGrants s ask d place

pub turn_grows : (s : Side) (ask : Option Ask) (d e : Duo) → Holds d → TurnShows ask d e → Grows s (TurnGrants s ask d) d e
turn_grows s ask d e holds t =
    let c : Duo = after_events t.before d in
    let b : Duo = after_events (call_events t.call) c in
    subst (Grows s (TurnGrants s ask d) d) (sym t.to)
    (then_adds _ (way s d) (way s c) (way s (after_events t.after b)) (silent_all s _ t.before t.before_silent d)
    (then_adds _ (way s c) (way s b) (way s (after_events t.after b)) (called s ask t.call t.calls) (silent_all s _ t.after t.after_silent b)))
  where
    c : Duo
    c = after_events t.before d

    weaker : (M N : ℕ → Type 0) (x y : Direction) → ((place : ℕ) → M place → N place) → Adds M x y → Adds N x y
    weaker M N x y f h = record { each = λ path place had. ⊎_elim (λ old. inl old) (λ new. inr (f place new)) (h.each path place had) }

    called : (s : Side) (ask : Option Ask) (call : Option Event) → CallIs ask c call → Grows s (TurnGrants s ask d) c (after_events (call_events call) c)
    called s None call is = subst (λ x. Grows s (TurnGrants s None d) c (after_events (call_events x) c)) (sym is) (unchanged s _ c c refl)
    called s (Some ask) call is =
        weaker (AskGrants s ask c) (AskGrants s ask d) (way s c) (way s (after_events (call_events call) c))
        (λ place h. same_grants s ask d c place (λ r. silent_sends r t.before t.before_silent d) h)
        (call_grows s ask call c (events_held t.before d holds) is)
