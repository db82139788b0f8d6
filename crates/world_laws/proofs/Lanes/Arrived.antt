-- A copy that arrives at an end: its payload is heard on the lane, and what the subflow makes of it shows there.
use Rattle.world_laws.proofs.Words.{◌≡◌, refl, sym, ◌∙◌, ap, subst, ℕ, ◌+◌, ◌-◌, inl, inr, ⊎_elim, Bool, true, false, if◌then◌else◌, Option, Some, None, List}
use Rattle.world_laws.proofs.Words.{[], ◌∷◌, length, arith, false≢true, same_Some, IfSome, Side, peer, JoinAnswer, KeptMapping, Receiving, after_accept}
use Rattle.world_laws.proofs.Words.{AckKind, after_acknowledge, ack_kind, sample_of, Meaning, EndState, EndPhase, meaning_of, Copy, Hint, PlainSegment, meant}
use Rattle.world_laws.proofs.Words.{window_told, At, Heard, is_nil, PathEnd, hint_of, items_of, owes_by, after_judged, asked_in, copy_of, judged_in, with_held}
use Rattle.world_laws.proofs.Words.{owing_if, with_payload, acknowledged_in, is_joined, join_answer, join_asked, held_of, HeardOption, Profile, answered_in}
use Rattle.world_laws.proofs.Words.{cleared_in, taken_as, with_answer, Modes, Every-map, Every-nil, AckCopy, Lane}
use Rattle.std.specs.Option.{option_map}
use Rattle.std.specs.Prelude.{unwrap_or}
use Rattle.subflow_tcp.specs.Taking as taking
use Rattle.path_core.specs.Judged.{is_taken, after_join}
use Rattle.path_core.proofs.Judgements.{judged_taken}
use Rattle.world_laws.proofs.Lanes.Arriving.{Halves, options_say, options_hold, taken_both, syn_both, syn_ack_both}
use Rattle.world_laws.proofs.Lanes.Ending.{Did, Alike, then_alike, alike_pairs}
use Rattle.world_laws.proofs.Lanes.Growing.{SenderGoes, ReceiverGoes, Longer, sender_stays, receiver_stays, heard_longer, segment_longer, kept_longer}
use Rattle.world_laws.proofs.Lanes.Hearing.{Fits, meaning_fits, state_shows, cut_shows}
use Rattle.world_laws.proofs.Lanes.Records.{acknowledged_shows}
use Rattle.world_laws.proofs.Lanes.Roads.{Strolls, stays}
use Rattle.world_laws.proofs.Lanes.Showing.{HasSub, HasNone, HasData, HasFin, Knowledge, knowledge_of, is_unfinished, AcksShow, SegmentShows, EndShows, PairsShow}
use Rattle.world_laws.proofs.Lanes.RulesLeaveAlone.{sub_of_none}

-- the octets of a payload are on the lane, where they are held
pub record Holding (c : Profile) (s : Side) (k : Knowledge) (live : List KeptMapping) (out back : Lane) (tcp : EndState) : Type 0 where
  pub back_after : Lane
  pub back_moves : Strolls back back_after
  pub receiver : ReceiverGoes back back_after
  pub same : back_after ≡ back
  pub acks : (next window : ℕ) (asked : Bool) (edge : ℕ) → AcksShow next window asked edge back → AcksShow next window asked edge back_after
  pub halves : Halves c s k live out back_after tcp

module _ (c : Profile) (s : Side) (k : Knowledge) (live : List KeptMapping) (out back : Lane) where
  abbrev Held : EndState → Type 0
  Held tcp = Holding c s k live out back tcp

  not_held : (tcp : EndState) → Halves c s k live out back tcp → Held tcp
  not_held tcp h = record { back_after = back; back_moves = stays back; receiver = receiver_stays back; same = refl; acks = λ next window asked edge acks. acks; halves = h }

  -- at the edge the copy is held until it is kept, and behind the FIN nothing counts
  hold : (pos : ℕ) (payload : List ℕ) (tcp : EndState) → HasData back.datas pos payload → Halves c s k live out back tcp → Held (taking.after_holding pos payload tcp)
  hold pos payload tcp has h = not_held (taking.after_holding pos payload tcp) (record {
    sender = h.sender;
    receiver = record {
      same_mode = h.receiver.same_mode;
      edge = ⊎_elim
          (λ at. inl (record {
            edge_is = at.edge_is;
            under = at.under;
            only = at.only;
            held = record { position = pos; octets = payload; count = (tcp.recv.edge + tcp.recv.window) - pos; has = has; is = refl };
          }))
          (λ past. inr (record { at_is = past.at_is; none = past.none; edge_is = past.edge_is; fin_in = past.fin_in }))
          h.receiver.edge;
      fin = h.receiver.fin;
      mapped = h.receiver.mapped;
    };
  })

  pub payload_held : (sg : PlainSegment) (m : Meaning) (tcp : EndState) → Fits (copy_of (meant sg)) (is_unfinished tcp.state) m → SegmentShows c (peer s) out.acks back sg → Halves c s k live out back tcp
      → Held (with_payload m sg.payload tcp)
  payload_held sg (Meaning.Taken pos acknowledged) tcp fits said h = by (is_nil sg.payload) refl
    where
      nonempty : (xs : List ℕ) → is_nil xs ≡ false → xs ≡ [] → ⊥
      nonempty = elim [ [] ↦ λ is e. false≢true (sym is) | x ∷ xs ↦ λ is e. cc ]

      by : (b : Bool) → is_nil sg.payload ≡ b → Held (if b then tcp else taking.after_holding pos sg.payload tcp)
      by true is = not_held tcp h
      by false is = ⊎_elim
          (λ none. absurd (nonempty sg.payload is none))
          (λ has. hold pos sg.payload tcp (subst (λ n. HasData back.datas n sg.payload) (same_Some sg.position pos fits.position_is) has) h)
          said.payload
  payload_held sg Meaning.Ignored tcp fits said h = not_held tcp h
  payload_held sg _ tcp fits said h = not_held tcp h

-- ---- each meaning

same_phase : (m : Meaning) (octets : List ℕ) (tcp : EndState) → (with_payload m octets tcp).state ≡ tcp.state
same_phase (Meaning.Taken pos acknowledged) octets tcp = elim (is_nil octets) as (λ b. (if b then tcp else taking.after_holding pos octets tcp).state ≡ tcp.state)
    [ true ↦ refl | false ↦ refl ]
same_phase Meaning.Ignored octets tcp = refl
same_phase _ octets tcp = refl

same_told : (m : Meaning) (octets : List ℕ) (tcp : EndState) → (with_payload m octets tcp).congestion ≡ tcp.congestion
same_told (Meaning.Taken pos acknowledged) octets tcp = elim (is_nil octets) as (λ b. (if b then tcp else taking.after_holding pos octets tcp).congestion ≡ tcp.congestion)
    [ true ↦ refl | false ↦ refl ]
same_told Meaning.Ignored octets tcp = refl
same_told _ octets tcp = refl

module _ (c : Profile) (s : Side) (k : Knowledge) (live : List KeptMapping) (out back : Lane) where
  abbrev Both : EndState → Type 0
  Both tcp = Halves c s k live out back tcp

  killed : (tcp : EndState) → Both tcp → Both (taking.after_death false tcp)
  killed tcp h = record {
    sender = state_shows c s k out tcp.state EndPhase.Dead _ (λ no_more. absurd (false≢true no_more)) (acknowledged_shows c s k out tcp.send.nxt tcp.state tcp.send h.sender);
    receiver = cut_shows tcp.fin_at live k.identity back (tcp.recv.edge - tcp.recv.edge) (omega arith) tcp.recv h.receiver;
  }

  arrived_both : (sg : PlainSegment) (m : Meaning) (hint : Hint) (now : ℕ) (tcp : EndState) → hint.keep ≡ false → Fits (copy_of (meant sg)) (is_unfinished tcp.state) m
      → SegmentShows c (peer s) out.acks back sg → Both tcp → Both (taking.after_arrival m hint now (copy_of (meant sg)) tcp)
  arrived_both sg (Meaning.Taken pos acknowledged) hint now tcp keep fits said h = taken_both c s k live out back pos acknowledged hint now (copy_of (meant sg)) tcp keep fin h
    where
      fin : sg.fin ≡ true → HasFin back.fins (pos + length sg.payload)
      fin is =
          let f = said.fin is in
          let none : length sg.payload ≡ 0 = ap (λ (xs : List ℕ). length xs) f.0 in
          let same : sg.position ≡ pos = same_Some sg.position pos fits.position_is in
          let there : sg.position ≡ pos + length sg.payload = omega (arith, none, same) in
          subst (HasFin back.fins) there f.1
  arrived_both sg (Meaning.Accepts acknowledged) hint now tcp keep fits said h = syn_ack_both c s k live out back acknowledged hint now (copy_of (meant sg)) tcp keep (said.plain fits.0) fits.1 h
  arrived_both sg Meaning.Opens hint now tcp keep fits said h = syn_both c s k live out back hint (copy_of (meant sg)) tcp keep (said.plain fits.0) fits.1 h
  arrived_both sg Meaning.Kills hint now tcp keep fits said h = killed tcp h
  arrived_both sg Meaning.Ignored hint now tcp keep fits said h = h
  arrived_both sg Meaning.Unwanted hint now tcp keep fits said h = h
  arrived_both sg _ hint now tcp keep fits said h = record { sender = h.sender; receiver = h.receiver }

  owing_both : (b : Bool) (tcp : EndState) → Both tcp → Both (owing_if b tcp)
  owing_both true tcp h = record { sender = h.sender; receiver = h.receiver }
  owing_both false tcp h = h

-- the window that was told last is the copy's, or stays
told_after : (P : ℕ → Type 0) (m : Meaning) (hint : Hint) (now : ℕ) (copy : Copy) (tcp : EndState) → P copy.window → P tcp.congestion.told.window
    → P (taking.after_arrival m hint now copy tcp).congestion.told.window
told_after P (Meaning.Taken pos acknowledged) hint now copy tcp new old = new
told_after P (Meaning.Accepts acknowledged) hint now copy tcp new old = new
told_after P Meaning.Opens hint now copy tcp new old = new
told_after P Meaning.Ignored hint now copy tcp new old = old
told_after P Meaning.Unwanted hint now copy tcp new old = old
told_after P Meaning.RepeatedSyn hint now copy tcp new old = old
told_after P Meaning.Outside hint now copy tcp new old = old
told_after P Meaning.Kills hint now copy tcp new old = old
told_after P Meaning.Challenged hint now copy tcp new old = old
told_after P Meaning.Unacknowledging hint now copy tcp new old = old
told_after P Meaning.Ahead hint now copy tcp new old = old

told_owing : (P : ℕ → Type 0) (b : Bool) (tcp : EndState) → P tcp.congestion.told.window → P (owing_if b tcp).congestion.told.window
told_owing P true tcp h = h
told_owing P false tcp h = h

-- ---- the receive edge stays

payload_edge : (pos : ℕ) (hint : Hint) (copy : Copy) (tcp : EndState) → hint.keep ≡ false → (taking.after_payload pos hint copy tcp).recv.edge ≡ tcp.recv.edge
payload_edge pos hint copy tcp keep = ap (λ (b : Bool). (if taking.is_kept b tcp then after_accept pos copy.payload tcp.recv else tcp.recv).edge) keep

kind_edge : (kind : AckKind) (since : Option ℕ) (now : ℕ) (tcp : EndState) → (taking.after_ack_kind kind since now tcp).recv ≡ tcp.recv
kind_edge = elim [ AckKind.New octets ↦ λ since now tcp. refl | _ ↦ λ since now tcp. refl ]

ack_edge : (pos now : ℕ) (tcp : EndState) → (taking.after_acknowledgement pos now tcp).recv ≡ tcp.recv
ack_edge pos now tcp = kind_edge (ack_kind pos tcp.send) (sample_of pos tcp.send) now (record tcp { send = after_acknowledge pos tcp.send })

row_edge : (b : Bool) (tcp : EndState) → (if b then taking.after_duplicate tcp else taking.after_interruption tcp).recv ≡ tcp.recv
row_edge = elim [ true ↦ λ tcp. refl | false ↦ λ tcp. refl ]

arrival_edge : (m : Meaning) (hint : Hint) (now : ℕ) (copy : Copy) (tcp : EndState) → hint.keep ≡ false → (taking.after_arrival m hint now copy tcp).recv.edge ≡ tcp.recv.edge
arrival_edge (Meaning.Taken pos acknowledged) hint now copy tcp keep =
    let t : EndState = taking.after_established (taking.after_hearing (taking.after_payload pos hint copy tcp)) in
    let acked : EndState = taking.after_acknowledgement acknowledged now t in
    ap (λ (r : Receiving). r.edge) (row_edge (taking.is_duplicate (ack_kind acknowledged t.send) (taking.told_by hint copy) copy acked) acked)
    ∙ ap (λ (r : Receiving). r.edge) (ack_edge acknowledged now t) ∙ payload_edge pos hint copy tcp keep
arrival_edge (Meaning.Accepts acknowledged) hint now copy tcp keep =
    let t : EndState = record (taking.after_hearing (taking.after_payload 1 hint copy tcp)) { state = EndPhase.Established } in
    ap (λ (r : Receiving). r.edge) (ack_edge acknowledged now t) ∙ payload_edge 1 hint copy tcp keep
arrival_edge Meaning.Opens hint now copy tcp keep = payload_edge 1 hint copy tcp keep
arrival_edge _ hint now copy tcp keep = refl

held_edge : (m : Meaning) (octets : List ℕ) (tcp : EndState) → (with_payload m octets tcp).recv.edge ≡ tcp.recv.edge
held_edge (Meaning.Taken pos acknowledged) octets tcp = elim (is_nil octets) as (λ b. (if b then tcp else taking.after_holding pos octets tcp).recv.edge ≡ tcp.recv.edge)
    [ true ↦ refl | false ↦ refl ]
held_edge Meaning.Ignored octets tcp = refl
held_edge _ octets tcp = refl

owing_edge : (b : Bool) (tcp : EndState) → (owing_if b tcp).recv.edge ≡ tcp.recv.edge
owing_edge = elim [ true ↦ λ tcp. refl | false ↦ λ tcp. refl ]

-- where something is there, what holds anyway
if_some : {X P : Type 0} (o : Option X) → P → IfSome o (λ x. P)
if_some None h = tt
if_some (Some x) h = h

-- ---- what falls back

-- a copy leaves whether the end fell back, and by which infinite mappings it goes
with_answer_alike : (o : Option JoinAnswer) (m : Modes) → Alike (with_answer o m) m
with_answer_alike None m = record { identity = refl; own = refl; peer = refl; failed = refl }
with_answer_alike (Some answer) m = record { identity = refl; own = refl; peer = refl; failed = refl }

answered_alike : (m : Meaning) (items : List Heard) (modes : Modes) → Alike (answered_in m items modes) modes
answered_alike (Meaning.Accepts acknowledged) items modes = with_answer_alike (join_answer items modes) modes
answered_alike _ items modes = record { identity = refl; own = refl; peer = refl; failed = refl }

cleared_alike : (m : Meaning) (state : EndPhase) (modes : Modes) → Alike (cleared_in m state modes) modes
cleared_alike (Meaning.Taken position acknowledged) state modes = record { identity = refl; own = refl; peer = refl; failed = refl }
cleared_alike _ state modes = record { identity = refl; own = refl; peer = refl; failed = refl }

join_alike : (joined : Bool) (items : List Heard) (m : Meaning) (e : PathEnd) → Alike (after_join joined items m e).modes e.modes
join_alike true items m e = then_alike _ (answered_in m items e.modes) e.modes (cleared_alike m e.tcp.state (answered_in m items e.modes)) (answered_alike m items e.modes)
join_alike false items m e = record { identity = refl; own = refl; peer = refl; failed = refl }

asked_alike : (m : Meaning) (options : List HeardOption) (modes : Modes) → Alike (asked_in m options modes) modes
asked_alike Meaning.Opens options modes = record { identity = refl; own = refl; peer = refl; failed = refl }
asked_alike _ options modes = record { identity = refl; own = refl; peer = refl; failed = refl }

-- what it acknowledges of the subflow shows where it is taken
acknowledged_shows_in : (c : Profile) (from : Side) (acks : List AckCopy) (p : Lane) (sg : PlainSegment) (m : Meaning) (u : Bool) → Fits (copy_of (meant sg)) u m → SegmentShows c from acks p sg
    → HasSub acks ((if is_taken m then unwrap_or (copy_of (meant sg)).acknowledged 0 else 0) - 1) (window_told sg.syn sg.window)
acknowledged_shows_in c from acks p sg (Meaning.Taken position acknowledged) u fits said = by sg.acknowledged fits.acknowledged_is (said.sub fits.no_syn fits.no_reset)
  where
    by : (o : Option ℕ) → acknowledged_in (option_map (λ n. At n) o) ≡ Some acknowledged → IfSome o (λ n. HasSub acks (n - 1) (window_told sg.syn sg.window))
        → HasSub acks (unwrap_or (acknowledged_in (option_map (λ n. At n) o)) 0 - 1) (window_told sg.syn sg.window)
    by = elim [ None ↦ λ is has. cc | Some n ↦ λ is has. has ]
acknowledged_shows_in c from acks p sg Meaning.Ignored u fits said = sub_of_none _ said.window
acknowledged_shows_in c from acks p sg _ u fits said = sub_of_none _ said.window

-- ---- the end

pub arrived_end : (c : Profile) (s : Side) (now : ℕ) (sg : PlainSegment) (e : PathEnd) (out back : Lane) → SegmentShows c (peer s) out.acks back sg
    → e.treated.asked ≡ false → EndShows c s e out back → Did c s (after_judged c s now (meant sg) (judged_in (is_joined c) s (meant sg) e) e) out out back back
arrived_end c s now sg e out back said calm h =
    let copy : Copy = copy_of (meant sg) in
    let items = items_of (is_joined c) s (meant sg) in
    let m : Meaning = taken_as (judged_in (is_joined c) s (meant sg) e) in
    let k : Knowledge = knowledge_of e in let live = e.receiving.mappings.live in
    let fits : Fits copy (is_unfinished e.tcp.state) m =
    judged_taken sg.rst items e (Fits copy (is_unfinished e.tcp.state)) tt (is_joined c) (meaning_of copy e.tcp) (meaning_fits copy e.tcp) in
    let kept : Holding c s k live out back (with_payload m sg.payload e.tcp) =
    payload_held c s k live out back sg m e.tcp fits said (record { sender = h.sender; receiver = h.receiver }) in
    let q : Lane = kept.back_after in
    let g : SenderGoes out out = sender_stays out in
    let l : Longer out.acks out.acks back q = heard_longer out out back q g kept.receiver in
    let told : SegmentShows c (peer s) out.acks q sg = segment_longer l sg said in
    let tcp : EndState = with_payload m sg.payload e.tcp in
    let still = subst (λ state. Fits copy (is_unfinished state) m) (sym (same_phase m sg.payload e.tcp)) fits in
    let both = arrived_both c s k live out q sg m (hint_of items) now tcp refl still told kept.halves in
    let arrived : EndState = taking.after_arrival m (hint_of items) now copy tcp in
    let edge : (owing_if (owes_by m items) arrived).recv.edge ≡ e.tcp.recv.edge =
    owing_edge (owes_by m items) arrived ∙ arrival_edge m (hint_of items) now copy tcp refl ∙ held_edge m sg.payload e.tcp in
    let acks = kept.acks e.receiving.next e.receiving.window e.treated.asked e.tcp.recv.edge h.acks in
    let owed = owing_both c s k live out q (owes_by m items) (taking.after_arrival m (hint_of items) now copy tcp) both in
    let joined : PathEnd = after_join (is_joined c) items m (with_held (held_of c s (meant sg)) (meant sg) m e) in
    let modes : Modes = asked_in m (meant sg).options joined.modes in
    let same : Alike modes e.modes =
    then_alike modes joined.modes e.modes (asked_alike m (meant sg).options joined.modes) (join_alike (is_joined c) items m (with_held (held_of c s (meant sg)) (meant sg) m e)) in
    record {
      out_after = out;
      back_after = q;
      out_moves = stays out;
      back_moves = kept.back_moves;
      sender = g;
      receiver = kept.receiver;
      shows = record {
        sender = record {
          plain = owed.sender.plain ∙ sym same.identity;
          next = owed.sender.next;
          unfinished = owed.sender.unfinished;
          pieces = owed.sender.pieces;
          known_end = owed.sender.known_end;
          same_end = owed.sender.same_end;
          heard = owed.sender.heard;
          granted = owed.sender.granted;
          fin_acked = owed.sender.fin_acked;
          sent = owed.sender.sent;
        };
        receiver = record { same_mode = owed.receiver.same_mode ∙ sym same.identity; edge = owed.receiver.edge; fin = owed.receiver.fin; mapped = owed.receiver.mapped };
        acks = record {
          windows = acks.windows;
          latest = acks.latest;
          due = λ none. acks.due calm;
          sub = λ none. subst (λ n. HasSub q.acks (n - 1) (window_told false e.receiving.window)) (sym edge) (acks.sub calm);
        };
        told = told_owing (HasNone out.acks) (owes_by m items) (taking.after_arrival m (hint_of items) now copy tcp)
            (told_after (HasNone out.acks) m (hint_of items) now copy tcp said.window
            (subst (λ congestion. HasNone out.acks congestion.told.window) (sym (same_told m sg.payload e.tcp)) h.told));
        treated = record {
          items = options_say out.acks q (window_told sg.syn sg.window) c (peer s) (is_joined c) s sg.options told.options;
          fins = Every-nil _;
          answer = (refl, refl);
          window = if_some (join_asked items) said.window;
          sub = acknowledged_shows_in c (peer s) out.acks back sg m (is_unfinished e.tcp.state) fits said;
          nothing = h.treated.nothing;
        };
        pairs = alike_pairs modes e.modes None None out q same (subst (λ p. PairsShow e.modes None None out p) (sym kept.same) (h.pairs.0, h.pairs.1, h.pairs.2, tt, h.pairs.4, tt));
        held = record {
          each = options_hold c (window_told sg.syn sg.window) out.acks q s sg.options told.options;
          summed = Every-map (kept_longer l c) h.held.summed;
          none = h.held.none;
        };
      };
    }
