-- What each duty leaves to be passed at an end: the next bytes to be placed.
use Rattle.std.proofs.Common.{◌≡◌, refl, sym, subst, ap, ◌∙◌, ◌⊎◌, ⊎_elim, ℕ, ◌+◌, ◌-◌, ◌^◌, arith, nat_lt, nat_le, ◌==◌, Bool, true, false, true≢false, not, ◌&&◌, ◌||◌, if◌then◌else◌, Option, Some, None, is_some, [], take, length}
use Rattle.std.proofs.lemmas.Bool.{and_parts, eqb-true}
use Rattle.std.proofs.Math.Seq.{take-nil}
use Rattle.sides.specs.declared.side.Side.{Side}
use Rattle.sides.specs.declared.side.Side.TheVariants.{A}
use Rattle.sides.specs.Side.{peer}
use Rattle.dss_mapping.specs.Mappings.{mapping_at, octets_of}
use Rattle.dss_mapping.specs.declared.kept.KeptMapping.{KeptMapping}
use Rattle.control_book.specs.declared.call.ControlReply.TheVariants as control_replies
use Rattle.fallback_state.specs.declared.fall.Event.TheVariants as events
use Rattle.fallback_state.specs.declared.fall.Verdict.TheVariants as verdicts
use Rattle.fallback_state.specs.Modes.{reads_mappings}
use Rattle.join_handshake.specs.declared.hearing.JoinSyn.{JoinSyn}
use Rattle.subflow_recv.specs.Receiving.{Receiving, filled, cut, after_forget_from}
use Rattle.subflow_tcp.specs.Closing.{is_fin_next, after_passing_fin}
use Rattle.subflow_tcp.specs.Opening.{after_begin}
use Rattle.subflow_tcp.specs.State.{EndState}
use Rattle.subflow_tcp.specs.States.{is_waiting}
use Rattle.subflow_tcp.specs.Taking.{after_syn, unkept}
use Rattle.actor_desk.specs.declared.ask.Reply.{Reply}
use Rattle.actor_desk.specs.declared.ask.Reply.TheVariants as replies
use Rattle.actor_desk.specs.Words.{tail_of, pick}
use Rattle.path_agenda.specs.Agenda.{leaves, resets}
use Rattle.path_agenda.specs.Words.{replaced}
use Rattle.path_agenda.specs.declared.duty.Duty.{Duty}
use Rattle.path_agenda.specs.declared.duty.Duty.TheVariants as duties
use Rattle.path_agenda.specs.declared.duty.AskDuty.TheVariants as ask_duties
use Rattle.path_agenda.specs.declared.duty.SendDuty.TheVariants as send_duties
use Rattle.path_agenda.specs.declared.duty.SilentDuty.TheVariants as silent_duties
use Rattle.path_agenda.specs.declared.duty.StepDuty.TheVariants as step_duties
use Rattle.path_agenda.specs.declared.keys.KeyPair.{KeyPair}
use Rattle.path_store.specs.Passing.{Piece, some_piece, named_piece, passing_by, is_there, has_its_sum, count_in}
use Rattle.path_store.specs.InfiniteMappings.{covers, place_under}
use Rattle.path_store.specs.declared.infinite_mapping.InfiniteMapping.{InfiniteMapping}
use Rattle.path_core.specs.Breaking.{reset_on}
use Rattle.path_core.specs.Codec.{Codec}
use Rattle.path_core.specs.DataFin.{after_pass_fin}
use Rattle.path_core.specs.Deliver.{mapping_here, next_piece, plain_piece, piece_at, infinite_piece, piece_by, failing_by, failing_mapping, forgotten_by, is_wrong, is_whole, is_right, after_pieces}
use Rattle.path_core.specs.Duties.{stands, passed, answered}
use Rattle.path_core.specs.End.{PathEnd, died}
use Rattle.path_core.specs.Fallback.{after_fell, with_failure, after_check_failed, in_identity}
use Rattle.path_core.specs.MpJoin.{is_never, never_joined, keys_begun, opened_by, with_keys, with_mode_refused, asked_at, join_taken, joined_by, is_listening, syn_of_window}
use Rattle.path_core.specs.Profile.{Profile}
use Rattle.path_core.specs.Standing.{answered_ack_out, after_ack_out}
use Rattle.path_core.specs.State.{PathState, end_at, goes_on}
use Rattle.path_core.specs.Timer.{with_timer_settled}
use Rattle.world_laws.specs.Writes.{EndWrites, EndView, Writes, PathView, Only, OnlyAt, nothing, writes, side_of}
use Rattle.world_laws.proofs.Writes.Paths.{writes_no_more, passes_no_more}
use Rattle.world_laws.proofs.Writes.Steps.{unwritten}
use Rattle.whole_paths.specs.AgendaSteps.{is_gone}
use Rattle.whole_paths.proofs.Agendas.{own_end}

-- ---- the next bytes to be placed

-- no octet is kept at the edge
abbrev pub Bare : PathEnd → Type 0
Bare e = filled e.tcp.recv.places ≡ []

-- what they depend on is the same
pub record Same (e f : PathEnd) : Type 0 where
  pub recv : f.tcp.recv ≡ e.tcp.recv
  pub mapped : (pos : ℕ) → mapping_at f.receiving.mappings pos ≡ mapping_at e.receiving.mappings pos
  pub plain : f.modes.identity ≡ e.modes.identity
  pub infinite : f.modes.peer_infinite ≡ e.modes.peer_infinite

abbrev next_by : Profile → Bool → Option InfiniteMapping → (ℕ → Option KeptMapping) → EndState → Option Piece
next_by c plain infinite mapped t =
    if plain then some_piece (plain_piece t)
    else (if covers infinite t.recv.edge then infinite_piece infinite t
    else piece_by c.spelling.checksums (if plain || covers infinite t.recv.edge then None else mapped t.recv.edge) t)

same_at : (o : Option ℕ) (s t : EndState) → t.recv ≡ s.recv → piece_at o t ≡ piece_at o s
same_at None s t is = refl
same_at (Some place) s t is = ap (λ (v : Receiving). some_piece (record { place = place; octets = take (2 ^ 62 - place) (filled v.places) })) is

same_infinite : (o : Option InfiniteMapping) (s t : EndState) → t.recv ≡ s.recv → infinite_piece o t ≡ infinite_piece o s
same_infinite None s t is = refl
same_infinite (Some mapping) s t is = ap (λ (v : Receiving). piece_at (place_under mapping v.edge) t) is ∙ same_at (place_under mapping s.recv.edge) s t is

same_by : (checksums : Bool) (o : Option KeptMapping) (s t : EndState) → t.recv ≡ s.recv → piece_by checksums o t ≡ piece_by checksums o s
same_by checksums None s t is = refl
same_by checksums (Some kept) s t is = ap (λ (v : Receiving). passing_by checksums kept v.edge (filled v.places)) is

same_kept : (c : Profile) (plain : Bool) (o : Option InfiniteMapping) (m : ℕ → Option KeptMapping) (s t : EndState) → t.recv ≡ s.recv → next_by c plain o m t ≡ next_by c plain o m s
same_kept c true o m s t is = ap (λ (v : Receiving). some_piece (record { place = v.edge - 1; octets = filled v.places })) is
same_kept c false o m s t is =
    let sums = c.spelling.checksums in
    ap (λ x. if covers o t.recv.edge then x else piece_by sums (if covers o t.recv.edge then None else m t.recv.edge) t) (same_infinite o s t is)
    ∙ ap (λ x. if covers o t.recv.edge then infinite_piece o s else x) (same_by sums (if covers o t.recv.edge then None else m t.recv.edge) s t is)
    ∙ ap (λ (v : Receiving). if covers o v.edge then infinite_piece o s else piece_by sums (if covers o v.edge then None else m v.edge) s) is

same_next : (c : Profile) (e f : PathEnd) → Same e f → next_piece c f ≡ next_piece c e
same_next c e f x =
    let edge = f.tcp.recv.edge in let m = mapping_at f.receiving.mappings in
    ap (λ b. next_by c b f.modes.peer_infinite m f.tcp) x.plain ∙ ap (λ o. next_by c e.modes.identity o m f.tcp) x.infinite
    ∙ ap (λ mapped. next_by c e.modes.identity e.modes.peer_infinite (λ pos. mapped) f.tcp) (x.mapped edge)
    ∙ same_kept c e.modes.identity e.modes.peer_infinite (mapping_at e.receiving.mappings) e.tcp f.tcp x.recv

-- where nothing is kept at the edge, there are none
module _ (t : EndState) (bare : filled t.recv.places ≡ []) where
  empty : (place n : ℕ) → some_piece (record { place = place; octets = take n (filled t.recv.places) }) ≡ None
  empty place n = ap (λ xs. some_piece (record { place = place; octets = take n xs })) bare ∙ ap (λ xs. some_piece (record { place = place; octets = xs })) (take-nil n)

  bare_at : (o : Option ℕ) → piece_at o t ≡ None
  bare_at None = refl
  bare_at (Some place) = empty place (2 ^ 62 - place)

  bare_infinite : (o : Option InfiniteMapping) → infinite_piece o t ≡ None
  bare_infinite None = refl
  bare_infinite (Some mapping) = bare_at (place_under mapping t.recv.edge)

  bare_by : (checksums : Bool) (o : Option KeptMapping) → piece_by checksums o t ≡ None
  bare_by checksums None = refl
  bare_by false (Some kept) = empty (kept.place + (t.recv.edge - kept.pos)) (count_in t.recv.edge kept)
  bare_by true (Some kept) = elim (is_there kept t.recv.edge (length (filled t.recv.places)) && has_its_sum kept (filled t.recv.places)) as
      (λ b. (if b then some_piece (named_piece kept t.recv.edge (filled t.recv.places)) else None) ≡ None)
      [ true ↦ empty (kept.place + (t.recv.edge - kept.pos)) (count_in t.recv.edge kept) | false ↦ refl ]

  bare_next : (c : Profile) (plain : Bool) (o : Option InfiniteMapping) (m : ℕ → Option KeptMapping) → next_by c plain o m t ≡ None
  bare_next c true o m = ap (λ xs. some_piece (record { place = t.recv.edge - 1; octets = xs })) bare
  bare_next c false o m = elim (covers o t.recv.edge) as (λ b. (if b then infinite_piece o t else piece_by c.spelling.checksums (if b then None else m t.recv.edge) t) ≡ None)
      [ true ↦ bare_infinite o | false ↦ bare_by c.spelling.checksums (m t.recv.edge) ]

pub none_next : (c : Profile) (e : PathEnd) → Bare e → next_piece c e ≡ None
none_next c e bare = bare_next e.tcp bare c e.modes.identity e.modes.peer_infinite (mapping_at e.receiving.mappings)

-- ---- what a duty makes of it

-- where there were none there are none, or the end is dead
pub record Calmly (c : Profile) (e f : PathEnd) : Type 0 where
  pub none : next_piece c e ≡ None → next_piece c f ≡ None
  pub bare : Bare e → Bare f

pub data Comes (c : Profile) (e f : PathEnd) : Type 0 where
  calmly : Calmly c e f → Comes c e f
  dies : is_gone f ≡ true → Comes c e f

pub same_comes : (c : Profile) (e f : PathEnd) → Same e f → Comes c e f
same_comes c e f x = calmly (record { none = λ is. same_next c e f x ∙ is; bare = λ is. ap (λ (v : Receiving). filled v.places) x.recv ∙ is })

pub stays : (c : Profile) (e f : PathEnd) → f.tcp.recv ≡ e.tcp.recv → f.receiving.mappings ≡ e.receiving.mappings → f.modes.identity ≡ e.modes.identity → f.modes.peer_infinite ≡ e.modes.peer_infinite
    → Comes c e f
stays c e f recv mappings plain infinite = same_comes c e f (record { recv = recv; mapped = λ pos. ap (λ m. mapping_at m pos) mappings; plain = plain; infinite = infinite })

pub bare_comes : (c : Profile) (e f : PathEnd) → Bare f → Comes c e f
bare_comes c e f bare = calmly (record { none = λ is. none_next c f bare; bare = λ is. bare })

-- what is kept stays, all at the edge is forgotten, or the end is dead
pub data Keeps (e f : PathEnd) : Type 0 where
  kept : f.tcp.recv ≡ e.tcp.recv → Keeps e f
  emptied : Bare f → Keeps e f
  gone : is_gone f ≡ true → Keeps e f

only_comes : (c : Profile) (w : EndWrites) (e f : PathEnd) → w.mappings ≡ false → w.identity ≡ false → w.peer_infinite ≡ false → Only w e f → Keeps e f → Comes c e f
only_comes c w e f mappings plain infinite x (emptied bare) = bare_comes c e f bare
only_comes c w e f mappings plain infinite x (gone dead) = dies dead
only_comes c w e f mappings plain infinite x (kept recv) = stays c e f recv
    (unwritten w.mappings e.receiving.mappings f.receiving.mappings mappings (ap (λ (v : EndView). v.mappings) x.same))
    (unwritten w.identity e.modes.identity f.modes.identity plain (ap (λ (v : EndView). v.identity) x.same))
    (unwritten w.peer_infinite e.modes.peer_infinite f.modes.peer_infinite infinite (ap (λ (v : EndView). v.peer_infinite) x.same))

only_keeps : (w : EndWrites) (e f : PathEnd) → w.recv ≡ false → Only w e f → Keeps e f
only_keeps w e f recv x = kept (unwritten w.recv e.tcp.recv f.tcp.recv recv (ap (λ (v : EndView). v.recv) x.same))

-- ---- a failed check

-- what is wrong stands at the edge, and all from there on is forgotten
wrong_bare : (checksums : Bool) (x : KeptMapping) (t : EndState) → is_wrong checksums x t ≡ true → filled (after_forget_from x.pos t.recv).places ≡ []
wrong_bare checksums x t wrong =
    let whole = (and_parts (is_whole x t) (not (is_right x t)) (and_parts checksums (is_whole x t && not (is_right x t)) wrong).1).0 in
    let first = (and_parts (x.pos == t.recv.edge) (nat_lt 0 (octets_of x) && (nat_le (octets_of x) (length (filled t.recv.places)) && nat_le (x.place + octets_of x) (2 ^ 62))) whole).0 in
    let same = eqb-true x.pos t.recv.edge first in
    let all : x.pos - t.recv.edge ≡ 0 = omega (arith, same) in
    ap (λ n. filled (cut n t.recv.places)) all

forgotten_keeps : (checksums : Bool) (o : Option KeptMapping) (e g : PathEnd) → g.tcp ≡ e.tcp → Keeps e (forgotten_by checksums o g)
forgotten_keeps checksums None e g is = kept (ap (λ (t : EndState). t.recv) is)
forgotten_keeps checksums (Some x) e g is = (elim (is_wrong checksums x g.tcp) as
    (λ b. is_wrong checksums x g.tcp ≡ b → Keeps e (if b then record g { tcp = record g.tcp { recv = after_forget_from x.pos g.tcp.recv } } else g))
    [ true ↦ λ wrong. emptied (wrong_bare checksums x g.tcp wrong) | false ↦ λ right. kept (ap (λ (t : EndState). t.recv) is) ]) refl

failed_bare : (checksums : Bool) (o : Option KeptMapping) (e g : PathEnd) → g.tcp ≡ e.tcp → is_some (failing_by checksums o e.tcp) ≡ true → Bare (forgotten_by checksums o g)
failed_bare checksums None e g is some = absurd (true≢false (sym some))
failed_bare checksums (Some x) e g is some = (elim (is_wrong checksums x g.tcp) as
    (λ b. is_wrong checksums x g.tcp ≡ b → is_some (if b then Some x else None) ≡ true → Bare (if b then record g { tcp = record g.tcp { recv = after_forget_from x.pos g.tcp.recv } } else g))
    [ true ↦ λ wrong here. wrong_bare checksums x g.tcp wrong | false ↦ λ right here. absurd (true≢false (sym here)) ]) refl
    (subst (λ (t : EndState). is_some (failing_by checksums (Some x) t) ≡ true) (sym is) some)

failure_tcp : (o : Option KeptMapping) (r : Reply) (e : PathEnd) → (with_failure o r e).tcp ≡ e.tcp
failure_tcp None r e = refl
failure_tcp (Some x) (replies.Control (control_replies.Verdict verdicts.SendFail)) e = refl
failure_tcp (Some x) (replies.Control (control_replies.Verdict (verdicts.BreakPath reason))) e = refl
failure_tcp (Some x) _ e = refl

-- ---- which duties may be done where nothing is to be passed

-- no octets are kept by it, and none come to be in order by it
abbrev pub is_free : Duty → Bool
is_free (duties.Ask (ask_duties.PlainHandshake s)) = false
is_free (duties.Ask (ask_duties.PeerKey s)) = false
is_free (duties.Ask (ask_duties.Opened s)) = false
is_free (duties.Ask (ask_duties.AckHeard s)) = false
is_free (duties.Ask (ask_duties.FailHeard s)) = false
is_free (duties.Ask (ask_duties.PlainData s)) = false
is_free (duties.Ask (ask_duties.GoIdentity s)) = false
is_free (duties.Ask (ask_duties.Edge s)) = false
is_free (duties.Step (step_duties.Heard s index)) = false
is_free (duties.Step (step_duties.PlainAck s)) = false
is_free (duties.Silent (silent_duties.Keep s)) = false
is_free _ = true

-- by it the side may fall back to plain TCP, where no octet is kept
abbrev pub may_fall : Duty → Bool
may_fall (duties.Ask (ask_duties.PlainHandshake s)) = true
may_fall (duties.Ask (ask_duties.PeerKey s)) = true
may_fall (duties.Ask (ask_duties.GoIdentity s)) = true
may_fall _ = false

abbrev pub Lets : Type 0 → Duty → Type 0
Lets X d = (is_free d ≡ true) ⊎ ((may_fall d ≡ true) × X)

pub never : (X : Type 0) → (false ≡ true) ⊎ ((false ≡ true) × X) → ⊥
never X x = ⊎_elim (λ free. true≢false (sym free)) (λ falls. true≢false (sym falls.0)) x

-- ---- the duties of a path

abbrev pub is_event : Duty → Bool
is_event (duties.Step step_duties.Events) = true
is_event _ = false

opened_keeps : (keys : Option KeyPair) (e : PathEnd) → Keeps e (opened_by keys e)
opened_keeps None e = kept refl
opened_keeps (Some keys) e = elim (is_waiting e.tcp.state) as (λ b. Keeps e (record e { tcp = if b then after_begin e.tcp else e.tcp; modes = with_keys keys e.modes }))
    [ true ↦ kept refl | false ↦ kept refl ]

joined_keeps : (keys : KeyPair) (asked : JoinSyn) (e : PathEnd) → Keeps e (joined_by keys asked e)
joined_keeps keys asked e = elim (is_listening e.tcp.state) as
    (λ b. Keeps e (record (joined_by keys asked e) { tcp = if b then after_syn (unkept None) (syn_of_window e.treated.window) e.tcp else e.tcp }))
    [ true ↦ kept refl | false ↦ kept refl ]

pub here_keeps : (t : Side) (e f a b : PathEnd) → Keeps e f → Keeps e (pick t (pick t f a) (pick t b f))
here_keeps t e f a b x = subst (λ g. Keeps e g) (sym (own_end t f a b)) x

pub same_here : (c : Profile) (e : PathEnd) → Comes c e e
same_here c e = stays c e e refl refl refl refl

module _ {C : Type 0} where
  joins_keep : (s : Side) (keys : Option KeyPair) (asked : Option JoinSyn) (r : Reply) (p : PathState C) → Keeps (end_at s p) (end_at s (join_taken s keys asked r p))
  joins_keep s (Some keys) (Some asked) r p = here_keeps s (end_at s p) (joined_by keys asked (end_at s p)) p.a p.b (joined_keeps keys asked (end_at s p))
  joins_keep s None (Some asked) r p = here_keeps s (end_at s p) (with_mode_refused r (end_at s p)) p.a p.b (kept refl)
  joins_keep s (Some keys) None r p = kept refl
  joins_keep s None None r p = kept refl

  pub own_only : (s : Side) (w : Writes) (p q : PathState C) → OnlyAt s w p q → Only w.own (end_at s p) (end_at s q)
  own_only s w p q x = record { same = ap (λ (v : PathView C). v.own) x.same }

  other_comes : (s : Side) (w : Writes) (p q : PathState C) (c : Profile) → w.other ≡ nothing → OnlyAt s w p q → Comes c (end_at (peer s) p) (end_at (peer s) q)
  other_comes s w p q c none x =
      let e = end_at (peer s) p in let f = end_at (peer s) q in
      let only : Only nothing e f = subst (λ v. Only v e f) none (record { same = ap (λ (v : PathView C). v.other) x.same }) in
      only_comes c nothing e f refl refl refl only (only_keeps nothing e f refl only)

  -- what a copy whose check failed leaves at the edge
  check_failed_keeps : (s : Side) (r : Reply) (p : PathState C) → Keeps (end_at s p) (after_check_failed p.profile.spelling.checksums r (end_at s p))
  check_failed_keeps s r p =
      let e = end_at s p in let sums = p.profile.spelling.checksums in let failing = failing_by sums (mapping_here e) e.tcp in
      forgotten_keeps sums (mapping_here e) e (with_failure failing r (after_fell events.CheckFailed r e)) (failure_tcp failing r (after_fell events.CheckFailed r e))

  pub check_failed_bare : (k : Codec C) (s : Side) (r : Reply) (p : PathState C) → stands (duties.Ask (ask_duties.CheckFailed s)) p ≡ true
      → Bare (end_at s (answered k (duties.Ask (ask_duties.CheckFailed s)) r p))
  check_failed_bare k s r p stands =
      let e = end_at s p in let sums = p.profile.spelling.checksums in let failing = failing_by sums (mapping_here e) e.tcp in
      subst Bare (sym (own_end s (after_check_failed sums r e) p.a p.b))
      (failed_bare sums (mapping_here e) e (with_failure failing r (after_fell events.CheckFailed r e)) (failure_tcp failing r (after_fell events.CheckFailed r e))
      (and_parts (is_some (failing_mapping p.profile e)) (reads_mappings e.modes.mode) stands).0)

  -- of the end of the duty's own side
  answered_keeps : (k : Codec C) (X : Type 0) (d : Duty) (r : Reply) (p : PathState C) → is_event d ≡ false → Lets X d → Keeps (end_at (side_of d) p) (end_at (side_of d) (answered k d r p))
  answered_keeps k X (duties.Step step_duties.Events) r p other lets = absurd (true≢false other)
  answered_keeps k X (duties.Ask (ask_duties.Edge s)) r p other lets = absurd (never X lets)
  answered_keeps k X (duties.Step (step_duties.Heard s index)) r p other lets = absurd (never X lets)
  answered_keeps k X (duties.Step (step_duties.PlainAck s)) r p other lets = absurd (never X lets)
  answered_keeps k X (duties.Ask ask_duties.JoinAgain) r p other lets = elim (is_never r) as
      (λ b. Keeps p.a (if b then goes_on A (never_joined r p.a) (replaced (duties.Ask (ask_duties.Leave A)) p.agenda) p else goes_on A (opened_by (keys_begun r) p.a) (tail_of p.agenda) p).a)
      [ true ↦ gone refl | false ↦ opened_keeps (keys_begun r) p.a ]
  answered_keeps k X (duties.Ask (ask_duties.JoinHeard s)) r p other lets = joins_keep s (keys_begun r) (asked_at s p) r p
  answered_keeps k X (duties.Ask (ask_duties.CheckFailed s)) r p other lets =
      here_keeps s (end_at s p) (after_check_failed p.profile.spelling.checksums r (end_at s p)) p.a p.b (check_failed_keeps s r p)
  answered_keeps k X (duties.Ask (ask_duties.LeaveNoted s)) r p other lets = here_keeps s (end_at s p) (died (end_at s p)) p.a p.b (gone refl)
  answered_keeps k X (duties.Step (step_duties.Unmapped s)) r p other lets = elim (end_at s p).treated.asked as
      (λ b. Keeps (end_at s p) (end_at s (if b then answered_ack_out s r (resets s 6) p else reset_on k s (Some 6) (leaves s) p)))
      [ true ↦ here_keeps s (end_at s p) (after_ack_out r (end_at s p)) p.a p.b (kept refl) | false ↦ here_keeps s (end_at s p) (died (end_at s p)) p.a p.b (gone refl) ]
  answered_keeps k X (duties.Send (send_duties.BreakReset s reason)) r p other lets = here_keeps s (end_at s p) (died (end_at s p)) p.a p.b (gone refl)
  answered_keeps k X (duties.Send (send_duties.Reset s)) r p other lets = here_keeps s (end_at s p) (died (end_at s p)) p.a p.b (gone refl)
  answered_keeps k X (duties.Send (send_duties.ResetNoted s)) r p other lets = here_keeps s (end_at s p) (died (end_at s p)) p.a p.b (gone refl)
  answered_keeps k X (duties.Silent d) r p other lets = kept refl
  answered_keeps k X d r p other lets = only_keeps (writes d).own _ _ refl (own_only (side_of d) (writes d) p _ (writes_no_more k d r p))

  pub answered_comes : (k : Codec C) (d : Duty) (r : Reply) (p : PathState C) → is_event d ≡ false → Lets (Bare (end_at (side_of d) p)) d
      → Comes p.profile (end_at (side_of d) p) (end_at (side_of d) (answered k d r p))
  answered_comes k (duties.Step step_duties.Events) r p other lets = absurd (true≢false other)
  answered_comes k (duties.Ask (ask_duties.Edge s)) r p other lets = absurd (never _ lets)
  answered_comes k (duties.Step (step_duties.Heard s index)) r p other lets = absurd (never _ lets)
  answered_comes k (duties.Ask (ask_duties.GoIdentity s)) r p other lets = ⊎_elim
      (λ free. absurd (true≢false (sym free)))
      (λ falls. subst (λ f. Comes p.profile (end_at s p) f) (sym (own_end s (in_identity (end_at s p)) p.a p.b)) (bare_comes p.profile (end_at s p) (in_identity (end_at s p)) falls.1))
      lets
  answered_comes k (duties.Send (send_duties.Update s)) r p other lets =
      let d : Duty = duties.Send (send_duties.Update s) in
      only_comes p.profile (writes d).own _ _ refl refl refl (own_only s (writes d) p _ (writes_no_more k d r p)) (answered_keeps k (Bare (end_at s p)) d r p other lets)
  answered_comes k (duties.Silent (silent_duties.Timer s)) r p other lets =
      let d : Duty = duties.Silent (silent_duties.Timer s) in
      only_comes p.profile (writes d).own _ _ refl refl refl (own_only s (writes d) p _ (writes_no_more k d r p)) (answered_keeps k (Bare (end_at s p)) d r p other lets)
  answered_comes k d r p other lets =
      only_comes p.profile (writes d).own _ _ refl refl refl (own_only (side_of d) (writes d) p _ (writes_no_more k d r p)) (answered_keeps k (Bare (end_at (side_of d) p)) d r p other lets)

  passed_keeps : (X : Type 0) (d : Duty) (p : PathState C) → Lets X d → Keeps (end_at (side_of d) p) (end_at (side_of d) (passed d p))
  passed_keeps X (duties.Step (step_duties.Heard s index)) p lets = absurd (never X lets)
  passed_keeps X (duties.Step (step_duties.PlainAck s)) p lets = absurd (never X lets)
  passed_keeps X (duties.Silent (silent_duties.Keep s)) p lets = absurd (never X lets)
  passed_keeps X (duties.Ask (ask_duties.CheckFailed s)) p lets =
      let e = end_at s p in
      here_keeps s e (forgotten_by p.profile.spelling.checksums (mapping_here e) e) p.a p.b (forgotten_keeps p.profile.spelling.checksums (mapping_here e) e e refl)
  passed_keeps X (duties.Step (step_duties.Unmapped s)) p lets = here_keeps s (end_at s p) (after_pieces (end_at s p)) p.a p.b (kept refl)
  passed_keeps X (duties.Silent (silent_duties.Timer s)) p lets = here_keeps s (end_at s p) (with_timer_settled p.clock (end_at s p)) p.a p.b (kept refl)
  passed_keeps X (duties.Silent (silent_duties.PassFin s)) p lets =
      let e = end_at s p in
      here_keeps s e (after_pass_fin e) p.a p.b (elim (is_fin_next e.tcp) as (λ b. Keeps e (record e { tcp = if b then after_passing_fin e.tcp else e.tcp }))
      [ true ↦ emptied refl | false ↦ kept refl ])
  passed_keeps X _ p lets = kept refl

  pub passed_comes : (d : Duty) (p : PathState C) → Lets (Bare (end_at (side_of d) p)) d → Comes p.profile (end_at (side_of d) p) (end_at (side_of d) (passed d p))
  passed_comes (duties.Step step_duties.Events) p lets = same_here p.profile p.a
  passed_comes (duties.Step (step_duties.Heard s index)) p lets = absurd (never _ lets)
  passed_comes (duties.Ask (ask_duties.Edge s)) p lets = same_here p.profile (end_at s p)
  passed_comes (duties.Ask (ask_duties.GoIdentity s)) p lets = same_here p.profile (end_at s p)
  passed_comes (duties.Send d) p lets = same_here p.profile (end_at (side_of (duties.Send d)) p)
  passed_comes (duties.Silent (silent_duties.Timer s)) p lets =
      let d : Duty = duties.Silent (silent_duties.Timer s) in
      only_comes p.profile (writes d).own _ _ refl refl refl (own_only s (writes d) p _ (passes_no_more d p)) (passed_keeps (Bare (end_at s p)) d p lets)
  passed_comes d p lets =
      only_comes p.profile (writes d).own _ _ refl refl refl (own_only (side_of d) (writes d) p _ (passes_no_more d p)) (passed_keeps (Bare (end_at (side_of d) p)) d p lets)

  -- of the other one
  pub answered_other : (k : Codec C) (d : Duty) (r : Reply) (p : PathState C) → is_event d ≡ false → Comes p.profile (end_at (peer (side_of d)) p) (end_at (peer (side_of d)) (answered k d r p))
  answered_other k (duties.Step step_duties.Events) r p other = absurd (true≢false other)
  answered_other k d r p other = other_comes (side_of d) (writes d) p _ p.profile refl (writes_no_more k d r p)

  pub passed_other : (d : Duty) (p : PathState C) → Comes p.profile (end_at (peer (side_of d)) p) (end_at (peer (side_of d)) (passed d p))
  passed_other (duties.Step step_duties.Events) p = same_here p.profile p.b
  passed_other d p = other_comes (side_of d) (writes d) p _ p.profile refl (passes_no_more d p)
