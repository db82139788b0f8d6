-- What an end is to pass it owes an acknowledgement for: what comes of each duty of a turn.
use Rattle.std.proofs.Common.{◌≡◌, refl, sym, subst, ap, ◌∙◌, ◌⊎◌, inl, inr, ⊎_elim, ℕ, ◌+◌, Bool, true, false, true≢false, if◌then◌else◌, Option, Some, None, List, [], ◌∷◌, length}
use Rattle.std.specs.Prelude.{IsSome, unwrap_or}
use Rattle.sides.specs.declared.side.Side.{Side}
use Rattle.sides.specs.declared.side.Side.TheVariants.{A}
use Rattle.control_book.specs.declared.call.ControlReply.TheVariants as control_replies
use Rattle.join_handshake.specs.declared.hearing.JoinSyn.{JoinSyn}
use Rattle.fallback_state.specs.declared.fall.Event.{Event as Fall}
use Rattle.fallback_state.specs.declared.fall.Event.TheVariants as events
use Rattle.fallback_state.specs.declared.fall.Verdict.TheVariants as verdicts
use Rattle.dss_mapping.specs.Learning.{after_learn_held, after_skip_held, first_held, first_of, learned_if, others_of}
use Rattle.dss_mapping.specs.Mappings.{Mappings, mapping_at}
use Rattle.subflow_recv.specs.Receiving.{Receiving, after_advance, after_forget_from, after_keep_held}
use Rattle.subflow_tcp.specs.Closing.{after_passing_fin, is_fin_next}
use Rattle.subflow_tcp.specs.Opening.{after_begin}
use Rattle.subflow_tcp.specs.State.{is_fin_passed}
use Rattle.subflow_tcp.specs.States.{is_waiting}
use Rattle.subflow_tcp.specs.Taking.{after_syn, unkept}
use Rattle.actor_desk.specs.declared.ask.Reply.{Reply}
use Rattle.actor_desk.specs.declared.ask.Reply.TheVariants as replies
use Rattle.actor_desk.specs.Words.{pick, tail_of}
use Rattle.path_agenda.specs.Agenda.{leaves, resets}
use Rattle.path_agenda.specs.Words.{replaced}
use Rattle.path_agenda.specs.declared.duty.Duty.{Duty}
use Rattle.path_agenda.specs.declared.duty.Duty.TheVariants as duties
use Rattle.path_agenda.specs.declared.duty.AskDuty.TheVariants as ask_duties
use Rattle.path_agenda.specs.declared.duty.SendDuty.TheVariants as send_duties
use Rattle.path_agenda.specs.declared.duty.SilentDuty.{SilentDuty}
use Rattle.path_agenda.specs.declared.duty.SilentDuty.TheVariants as silent_duties
use Rattle.path_agenda.specs.declared.duty.StepDuty.TheVariants as step_duties
use Rattle.path_agenda.specs.declared.heard.Heard.{Heard}
use Rattle.path_agenda.specs.declared.heard.Heard.TheVariants as says
use Rattle.path_agenda.specs.declared.keys.KeyPair.{KeyPair}
use Rattle.path_store.specs.Passing.{Piece}
use Rattle.path_core.specs.Breaking.{answered_break, reset_on}
use Rattle.path_core.specs.Codec.{Codec}
use Rattle.path_core.specs.DataFin.{after_pass_fin}
use Rattle.path_core.specs.Deliver.{after_check, after_keep, after_piece, after_pieces, answered_piece, having_asked, is_dropped, is_placed, mapping_here, next_piece, piece_of}
use Rattle.path_core.specs.DssIn.{counts, is_clash, with_learned, with_skipped, with_data_fin}
use Rattle.path_core.specs.Duties.{answered, passed}
use Rattle.path_core.specs.End.{PathEnd, died}
use Rattle.path_core.specs.Fallback.{after_check_failed, after_fell, after_infinite, breaks_by_ack, fell_duties, fell_in, is_infinite_receive, mode_in, receiving_infinite, with_plain_ack}
use Rattle.path_core.specs.MpCapable.{keys_in}
use Rattle.path_core.specs.MpJoin.{asked_at, is_listening, is_never, join_taken, joined_by, keys_begun, never_joined, opened_by, syn_of_window, with_mode_refused}
use Rattle.path_core.specs.Profile.{Profile}
use Rattle.path_core.specs.Standing.{after_ack_out, answered_ack_out}
use Rattle.path_core.specs.State.{PathState, end_at, goes_on}
use Rattle.path_core.specs.Timer.{with_timer_settled}
use Rattle.path_core.specs.Treating.{answered_heard, answered_item, item_of, item_passed}
use Rattle.path_core.specs.declared.modes.Modes.{Modes}
use Rattle.world_laws.specs.Writes.{EndView, side_of, writes}
use Rattle.world_laws.proofs.Falls.FailedChecks.{Forgets, check_failed_so, fail_answered_so, forgets_so, infinite_came_so}
use Rattle.world_laws.proofs.Writes.Paths.{passes_no_more, writes_no_more}
use Rattle.world_laws.proofs.Writes.Steps.{unwritten}
use Rattle.whole_paths.specs.AgendaSteps.{Follows, is_gone, is_silent, is_told}
use Rattle.whole_paths.specs.AgendaSteps.{Follows as follow}
use Rattle.whole_paths.specs.Mild.{is_harsh}
use Rattle.whole_paths.proofs.Agendas.{own_end}
use Rattle.whole_paths.proofs.Mapping.{window_maps}
use Rattle.whole_paths.proofs.Moving.{item_recv}
use Rattle.whole_paths.proofs.Passing.{AllLet}
use Rattle.whole_paths.proofs.Pieces.{Comes, answered_comes, is_event, is_free, never, own_only, passed_comes, Same, same_comes, stays}
use Rattle.whole_paths.proofs.Pieces.Comes.{calmly, dies}

-- ---- agendas

-- nothing of this side's is to be passed
abbrev pub NoEdge : Side → List Duty → Type 0
NoEdge t [] = Unit {0}
NoEdge t (duties.Ask (ask_duties.Edge u) ∷ ds) = (u ≡ t → ⊥) × NoEdge t ds
NoEdge t (d ∷ ds) = NoEdge t ds

abbrev pub EdgeNext : Side → Duty → List Duty → Type 0
EdgeNext t (duties.Ask (ask_duties.Edge u)) ds = (u ≡ t) × NoEdge t ds
EdgeNext t d ds = ⊥

abbrev pub is_edge : Duty → Bool
is_edge (duties.Ask (ask_duties.Edge u)) = true
is_edge _ = false

-- it is, behind other duties of the side, none of which sends a segment
abbrev pub EdgeSoon : Side → List Duty → Type 0
EdgeSoon t [] = ⊥
EdgeSoon t (d ∷ ds) = EdgeNext t d ds ⊎ ((side_of d ≡ t) × ((is_silent d ≡ true) × EdgeSoon t ds))

pub no_edge_rest : (t : Side) (d : Duty) (ds : List Duty) → NoEdge t (d ∷ ds) → NoEdge t ds
no_edge_rest t (duties.Ask (ask_duties.Edge u)) ds x = x.1
no_edge_rest t d ds x = x

no_edge_told : (t : Side) (e : Duty) (ds : List Duty) → is_told e ≡ true → NoEdge t ds → NoEdge t (e ∷ ds)
no_edge_told t (duties.Ask (ask_duties.Edge u)) ds told x = absurd (true≢false (sym told))
no_edge_told t e ds told x = x

pub no_edge_follows : (t s : Side) (over : Bool) (d : Duty) (ds next : List Duty) → Follows s over d ds next → NoEdge t (d ∷ ds) → NoEdge t next
no_edge_follows t s over d ds next follows x = by next follows
  where
    by : (next : List Duty) → Follows s over d ds next → NoEdge t next
    by next follow.goes_on = no_edge_rest t d ds x
    by next follow.again = x
    by next (follow.told treats e side alone named silent) = no_edge_told t e ds named (no_edge_rest t d ds x)
    by next (follow.left dead) = no_edge_rest t d ds x
    by next follow.noted = no_edge_rest t d ds x
    by next (follow.broken may reason) = tt
    by next (follow.is_reset may reason) = tt
    by next (follow.dead may dead) = tt
    by next (follow.stopped may) = tt
    by next (follow.over both) = tt

-- where only such duties stand as may be done where nothing is to be passed
pub no_edge_let : (t : Side) (X : Type 0) (ds : List Duty) → AllLet t X ds → NoEdge t ds
no_edge_let t X [] a = tt
no_edge_let t X (duties.Ask (ask_duties.Edge u) ∷ ds) a = (λ own. never X (a.0 own), no_edge_let t X ds a.1)
no_edge_let t X (d ∷ ds) a = no_edge_let t X ds a.1

-- by it what is held is kept, or the peer's FIN passed
abbrev pub moves_edge : Duty → Bool
moves_edge (duties.Silent (silent_duties.Keep s)) = true
moves_edge (duties.Silent (silent_duties.PassFin s)) = true
moves_edge _ = false

-- ---- what an end keeps

abbrev pub Idle : PathEnd → Type 0
Idle e = e.tcp.recv.incoming ≡ None

-- it stays so
pub record StaysIdle (e f : PathEnd) : Type 0 where
  pub stays : Idle e → Idle f

-- what holds of what an end keeps, also once something of it is forgotten; and, where RCV.NXT may move, once it moved
module _ (P : Receiving → Type 0) (forgets : (n : ℕ) (v : Receiving) → P v → P (after_forget_from n v)) (Moves : Type 0) (moves : Moves → (to : ℕ) (v : Receiving) → P v → P (after_advance to v)) where
  abbrev Holds : PathEnd → Type 0
  Holds e = P e.tcp.recv

  forgotten_holds : (e : PathEnd) (recv : Receiving) → Forgets e.tcp.recv recv → Holds e → P recv
  forgotten_holds e recv forgotten h = ⊎_elim (λ same. subst P (sym same) h) (λ from. subst P (sym from.1) (forgets from.0 e.tcp.recv h)) forgotten

  pub opened_holds : (keys : Option KeyPair) (e : PathEnd) → Holds e → Holds (opened_by keys e)
  opened_holds None e h = h
  opened_holds (Some keys) e h = elim (is_waiting e.tcp.state) as (λ b. P (if b then after_begin e.tcp else e.tcp).recv) [ true ↦ h | false ↦ h ]

  here : (s : Side) (f a b : PathEnd) → Holds f → Holds (pick s (pick s f a) (pick s b f))
  here s f a b h = subst Holds (sym (own_end s f a b)) h

  dies_holds : (s : Side) (e a b : PathEnd) → Holds e → Holds (pick s (pick s (died e) a) (pick s b (died e)))
  dies_holds s e a b h = here s (died e) a b (forgets e.tcp.recv.edge e.tcp.recv h)

  module _ {C : Type 0} where
    abbrev At : Side → PathState C → Type 0
    At s p = Holds (end_at s p)

    module _ (k : Codec C) where
      break_holds : (s : Side) (reason : ℕ) (r : Reply) (p : PathState C) → At s p → At s (answered_break k s reason r p)
      break_holds s reason r p h = elim (end_at s p).treated.asked as
          (λ b. At s (if b then answered_ack_out s r (resets s reason) p else reset_on k s (Some reason) (leaves s) p))
          [ true ↦ here s (after_ack_out r (end_at s p)) p.a p.b h | false ↦ dies_holds s (end_at s p) p.a p.b h ]

      thing_holds : (s : Side) (item : Heard) (r : Reply) (p : PathState C) → At s p → At s (answered_heard k s item r p)
      thing_holds s (says.DataAck next window) r p h = here s _ p.a p.b h
      thing_holds s (says.Mapping fin) r p h = elim (is_clash (end_at s p)) as
          (λ b. At s (if b then answered_break k s 1 r p else goes_on s (with_learned (after_fell events.MappingHeard r (end_at s p))) (fell_duties s r p) p))
          [ true ↦ break_holds s 1 r p h | false ↦ here s (with_learned (after_fell events.MappingHeard r (end_at s p))) p.a p.b h ]
      thing_holds s (says.DataFin place) r p h = here s _ p.a p.b h
      thing_holds s (says.InfiniteMapping place position) r p h =
          let e = end_at s p in here s (after_infinite place position r e) p.a p.b (infinite_came_so Holds place position r e (λ other. h))
      thing_holds s (says.Keys own other) r p h = here s _ p.a p.b h
      thing_holds s (says.Notice notice) r p h = here s _ p.a p.b h
      thing_holds s says.Fail r p h = fail_answered_so (At s) s r p (here s _ p.a p.b h) (here s _ p.a p.b h)
      thing_holds s _ r p h = h

      things_hold : (s : Side) (item : Option Heard) (r : Reply) (p : PathState C) → At s p → At s (answered_item k s item r p)
      things_hold s None r p h = h
      things_hold s (Some item) r p h = thing_holds s item r p h

      piece_holds : (s : Side) (o : Option Piece) (taken : Bool) (p : PathState C) → Moves → At s p → At s (answered_piece s o taken p)
      piece_holds s (Some piece) true p may h = here s (having_asked (after_piece piece (end_at s p))) p.a p.b (moves may ((end_at s p).tcp.recv.edge + length piece.octets) (end_at s p).tcp.recv h)
      piece_holds s (Some piece) false p may h = here s (having_asked (end_at s p)) p.a p.b h
      piece_holds s None taken p may h = here s (having_asked (end_at s p)) p.a p.b h

      joined_holds : (s : Side) (keys : Option KeyPair) (asked : Option JoinSyn) (r : Reply) (p : PathState C) → At s p → At s (join_taken s keys asked r p)
      joined_holds s (Some keys) (Some asked) r p h = let e = end_at s p in here s (joined_by keys asked e) p.a p.b (elim (is_listening e.tcp.state) as
          (λ b. P (if b then after_syn (unkept None) (syn_of_window e.treated.window) e.tcp else e.tcp).recv) [ true ↦ h | false ↦ h ])
      joined_holds s None (Some asked) r p h = here s (with_mode_refused r (end_at s p)) p.a p.b h
      joined_holds s (Some keys) None r p h = h
      joined_holds s None None r p h = h

      unwritten_holds : (d : Duty) (r : Reply) (p : PathState C) → (writes d).own.recv ≡ false → At (side_of d) p → At (side_of d) (answered k d r p)
      unwritten_holds d r p recv h =
          let s = side_of d in let q = answered k d r p in let only = own_only s (writes d) p q (writes_no_more k d r p) in
          subst P (sym (unwritten (writes d).own.recv (end_at s p).tcp.recv (end_at s q).tcp.recv recv (ap (λ (v : EndView). v.recv) only.same))) h

      pub own_holds : (d : Duty) (r : Reply) (p : PathState C) → is_event d ≡ false → (is_edge d ≡ true → Moves) → At (side_of d) p → At (side_of d) (answered k d r p)
      own_holds (duties.Step step_duties.Events) r p other may h = absurd (true≢false other)
      own_holds (duties.Ask ask_duties.JoinAgain) r p other may h = elim (is_never r) as
          (λ b. At A (if b then goes_on A (never_joined r p.a) (replaced (duties.Ask (ask_duties.Leave A)) p.agenda) p else goes_on A (opened_by (keys_begun r) p.a) (tail_of p.agenda) p))
          [ true ↦ forgets p.a.tcp.recv.edge p.a.tcp.recv h | false ↦ opened_holds (keys_begun r) p.a h ]
      own_holds (duties.Ask (ask_duties.JoinHeard s)) r p other may h = joined_holds s (keys_begun r) (asked_at s p) r p h
      own_holds (duties.Ask (ask_duties.Edge s)) r p other may h = piece_holds s (piece_of s p) (is_placed r) p (may refl) h
      own_holds (duties.Ask (ask_duties.CheckFailed s)) r p other may h =
          let e = end_at s p in here s (after_check_failed p.profile.spelling.checksums r e) p.a p.b
          (check_failed_so Holds p.profile.spelling.checksums r e (λ told broken recv forgotten. forgotten_holds e recv forgotten h))
      own_holds (duties.Ask (ask_duties.LeaveNoted s)) r p other may h = dies_holds s (end_at s p) p.a p.b h
      own_holds (duties.Step (step_duties.Heard s index)) r p other may h = things_hold s (item_of index (end_at s p)) r p h
      own_holds (duties.Step (step_duties.PlainAck s)) r p other may h = elim (breaks_by_ack p.profile (end_at s p)) as
          (λ b. At s (if b then answered_break k s 6 r p else goes_on s (with_plain_ack (after_fell events.PlainAck r (end_at s p))) (fell_duties s r p) p))
          [ true ↦ break_holds s 6 r p h | false ↦ here s (with_plain_ack (after_fell events.PlainAck r (end_at s p))) p.a p.b h ]
      own_holds (duties.Step (step_duties.Unmapped s)) r p other may h = break_holds s 6 r p h
      own_holds (duties.Send (send_duties.BreakReset s reason)) r p other may h = dies_holds s (end_at s p) p.a p.b h
      own_holds (duties.Send (send_duties.Reset s)) r p other may h = dies_holds s (end_at s p) p.a p.b h
      own_holds (duties.Send (send_duties.ResetNoted s)) r p other may h = dies_holds s (end_at s p) p.a p.b h
      own_holds (duties.Silent d) r p other may h = h
      own_holds d r p other may h = unwritten_holds d r p refl h

    -- one that is passed, but what is held is kept or the peer's FIN passed
    pub passed_holds : (d : Duty) (p : PathState C) → moves_edge d ≡ false → At (side_of d) p → At (side_of d) (passed d p)
    passed_holds (duties.Ask (ask_duties.CheckFailed s)) p rests h =
        let e = end_at s p in here s (after_check p.profile e) p.a p.b (forgets_so Holds p.profile.spelling.checksums (mapping_here e) e (λ recv forgotten. forgotten_holds e recv forgotten h))
    passed_holds (duties.Step (step_duties.Heard s index)) p rests h =
        let e = end_at s p in here s (item_passed s (item_of index e) e) p.a p.b (subst P (sym (item_recv s (item_of index e) e)) h)
    passed_holds (duties.Step (step_duties.PlainAck s)) p rests h = here s (with_plain_ack (end_at s p)) p.a p.b h
    passed_holds (duties.Step (step_duties.Unmapped s)) p rests h = here s (after_pieces (end_at s p)) p.a p.b h
    passed_holds (duties.Silent (silent_duties.Timer s)) p rests h = here s (with_timer_settled p.clock (end_at s p)) p.a p.b h
    passed_holds (duties.Silent (silent_duties.Keep s)) p rests h = absurd (true≢false rests)
    passed_holds (duties.Silent (silent_duties.PassFin s)) p rests h = absurd (true≢false rests)
    passed_holds d p rests h = h

-- ---- no payload is held

-- once the payload is kept or dropped none is held
pub kept_idle : (s : Side) (e : PathEnd) → Idle (after_keep s e)
kept_idle s e = by (is_dropped s e) (is_fin_passed e.tcp)
  where
    by : (b over : Bool) → (if b then record e.tcp { recv = record e.tcp.recv { incoming = None } } else record e.tcp { recv = if over then record e.tcp.recv { incoming = None } else after_keep_held e.tcp.recv }).recv.incoming ≡ None
    by true over = refl
    by false true = refl
    by false false = refl

pub here_idle : (s : Side) (f a b : PathEnd) → Idle f → Idle (pick s (pick s f a) (pick s b f))
here_idle s f a b h = subst Idle (sym (own_end s f a b)) h

pub opened_idle : (keys : Option KeyPair) (e : PathEnd) → Idle e → Idle (opened_by keys e)
opened_idle = opened_holds (λ v. v.incoming ≡ None) (λ n v h. refl) (Unit {0}) (λ may to v h. refl)

pass_fin_idle : (e : PathEnd) → Idle e → Idle (after_pass_fin e)
pass_fin_idle e h = elim (is_fin_next e.tcp) as (λ b. (if b then after_passing_fin e.tcp else e.tcp).recv.incoming ≡ None) [ true ↦ refl | false ↦ h ]

module _ {C : Type 0} where
  abbrev IdleAt : Side → PathState C → Type 0
  IdleAt s p = Idle (end_at s p)

  pub own_idle : (k : Codec C) (d : Duty) (r : Reply) (p : PathState C) → is_event d ≡ false → IdleAt (side_of d) p → IdleAt (side_of d) (answered k d r p)
  own_idle k d r p other h = own_holds (λ v. v.incoming ≡ None) (λ n v h. refl) (Unit {0}) (λ may to v h. refl) k d r p other (λ edge. tt) h

  pub passed_idle : (d : Duty) (p : PathState C) → IdleAt (side_of d) p → IdleAt (side_of d) (passed d p)
  passed_idle (duties.Silent (silent_duties.Keep s)) p h = here_idle s (after_keep s (end_at s p)) p.a p.b (kept_idle s (end_at s p))
  passed_idle (duties.Silent (silent_duties.PassFin s)) p h = here_idle s (after_pass_fin (end_at s p)) p.a p.b (pass_fin_idle (end_at s p) h)
  passed_idle d p h = passed_holds (λ v. v.incoming ≡ None) (λ n v h. refl) (Unit {0}) (λ may to v h. refl) d p refl h

-- ---- nothing is to be passed, and nothing comes of the copy that is treated

pub record Empty (c : Profile) (e : PathEnd) : Type 0 where
  pub none : next_piece c e ≡ None
  pub idle : Idle e
  pub untold : e.receiving.mappings.held ≡ []

-- or there is an infinite mapping, as no end of a mild connection has; or the end is dead
pub data Calm (c : Profile) (f : PathEnd) : Type 0 where
  empty : Empty c f → Calm c f
  by_infinite : IsSome f.modes.peer_infinite → Calm c f
  gone : is_gone f ≡ true → Calm c f

pub record StaysCalm (c : Profile) (e f : PathEnd) : Type 0 where
  pub stays : Empty c e → Calm c f

none_after : (c : Profile) (e f : PathEnd) → Comes c e f → next_piece c e ≡ None → (is_gone f ≡ true) ⊎ (next_piece c f ≡ None)
none_after c e f (calmly x) none = inr (x.none none)
none_after c e f (dies dead) none = inl dead

calm_so : (c : Profile) (e f : PathEnd) → Comes c e f → Idle f → f.receiving.mappings.held ≡ [] → Empty c e → Calm c f
calm_so c e f comes idle untold h = ⊎_elim (λ dead. gone dead) (λ none. empty (record { none = none; idle = idle; untold = untold })) (none_after c e f comes h.none)

same_empty : (c : Profile) (e f : PathEnd) → f.tcp.recv ≡ e.tcp.recv → f.receiving.mappings ≡ e.receiving.mappings → f.modes.identity ≡ e.modes.identity → f.modes.peer_infinite ≡ e.modes.peer_infinite
    → Empty c e → Calm c f
same_empty c e f recv mappings plain infinite h =
    calm_so c e f (stays c e f recv mappings plain infinite) (ap (λ (v : Receiving). v.incoming) recv ∙ h.idle) (ap (λ (m : Mappings). m.held) mappings ∙ h.untold) h

mode_same : (r : Reply) (m : Modes) → ((mode_in r m).identity ≡ m.identity) × ((mode_in r m).peer_infinite ≡ m.peer_infinite)
mode_same (replies.Control (control_replies.Verdict (verdicts.Went mode))) m = (refl, refl)
mode_same _ m = (refl, refl)

fell_same : (event : Fall) (r : Reply) (m : Modes) → ((fell_in event r m).identity ≡ m.identity) × ((fell_in event r m).peer_infinite ≡ m.peer_infinite)
fell_same events.PlainData r m = mode_same r m
fell_same events.PlainAck r m = mode_same r m
fell_same _ r m = mode_same r m

keys_same : (r : Reply) (keys : Option KeyPair) (m : Modes) → ((keys_in r keys m).identity ≡ m.identity) × ((keys_in r keys m).peer_infinite ≡ m.peer_infinite)
keys_same (replies.Control control_replies.Noted) (Some keys) m = (refl, refl)
keys_same _ keys m = (refl, refl)

-- where nothing was to be passed and what that depends on is the same
pub calm_by : (c : Profile) (e f : PathEnd) → Same e f → next_piece c e ≡ None → Idle f → f.receiving.mappings.held ≡ [] → Calm c f
calm_by c e f same none idle untold = ⊎_elim (λ dead. gone dead) (λ none. empty (record { none = none; idle = idle; untold = untold })) (none_after c e f (same_comes c e f same) none)

-- no mapping is learned where none is held
pub learned_none : (m : Mappings) → m.held ≡ [] → ((pos : ℕ) → mapping_at (after_learn_held m) pos ≡ mapping_at m pos) × ((after_learn_held m).held ≡ [])
learned_none m none = (λ pos. subst (λ o. mapping_at (after_skip_held (learned_if o m)) pos ≡ mapping_at m pos) (sym first) refl, subst (λ o. others_of (learned_if o m).held ≡ []) (sym first) (ap others_of none))
  where
    first : first_held m ≡ None
    first = ap first_of none

-- after a learned mapping or a skipped one
learns_calm : (c : Profile) (e f : PathEnd) → f.tcp.recv ≡ e.tcp.recv → f.modes.identity ≡ e.modes.identity → f.modes.peer_infinite ≡ e.modes.peer_infinite
    → ((pos : ℕ) → mapping_at f.receiving.mappings pos ≡ mapping_at e.receiving.mappings pos) → f.receiving.mappings.held ≡ [] → Empty c e → Calm c f
learns_calm c e f recv plain infinite mapped untold h =
    calm_so c e f (same_comes c e f (record { recv = recv; mapped = mapped; plain = plain; infinite = infinite })) (ap (λ (v : Receiving). v.incoming) recv ∙ h.idle) untold h

here_calm : (c : Profile) (s : Side) (f a b : PathEnd) → Calm c f → Calm c (pick s (pick s f a) (pick s b f))
here_calm c s f a b h = subst (Calm c) (sym (own_end s f a b)) h

module _ {C : Type 0} where
  module _ (k : Codec C) where
    abbrev CalmAt : Side → Profile → PathState C → Type 0
    CalmAt s c p = Calm c (end_at s p)

    break_calm : (s : Side) (reason : ℕ) (r : Reply) (c : Profile) (p : PathState C) → Empty c (end_at s p) → CalmAt s c (answered_break k s reason r p)
    break_calm s reason r c p h = elim (end_at s p).treated.asked as
        (λ b. CalmAt s c (if b then answered_ack_out s r (resets s reason) p else reset_on k s (Some reason) (leaves s) p))
        [ true ↦ here_calm c s (after_ack_out r (end_at s p)) p.a p.b (same_empty c (end_at s p) (after_ack_out r (end_at s p)) refl (window_maps r (end_at s p).receiving) refl refl h) | false ↦ here_calm c s (died (end_at s p)) p.a p.b (gone refl) ]

    fell_calm : (s : Side) (event : Fall) (r : Reply) (c : Profile) (p : PathState C) (f : PathEnd) → f.tcp.recv ≡ (end_at s p).tcp.recv → f.receiving.mappings ≡ (end_at s p).receiving.mappings
        → f.modes.identity ≡ (fell_in event r (end_at s p).modes).identity → f.modes.peer_infinite ≡ (fell_in event r (end_at s p).modes).peer_infinite → Empty c (end_at s p) → Calm c (pick s (pick s f p.a) (pick s p.b f))
    fell_calm s event r c p f recv mappings plain infinite h =
        let e = end_at s p in let same = fell_same event r e.modes in here_calm c s f p.a p.b (same_empty c e f recv mappings (plain ∙ same.0) (infinite ∙ same.1) h)

    thing_calm : (s : Side) (item : Heard) (r : Reply) (c : Profile) (p : PathState C) → Empty c (end_at s p) → CalmAt s c (answered_heard k s item r p)
    thing_calm s (says.DataAck next window) r c p h = here_calm c s _ p.a p.b (same_empty c (end_at s p) _ refl refl refl refl h)
    thing_calm s (says.Mapping fin) r c p h = elim (is_clash (end_at s p)) as
        (λ b. CalmAt s c (if b then answered_break k s 1 r p else goes_on s (with_learned (after_fell events.MappingHeard r (end_at s p))) (fell_duties s r p) p)) [
          | true ↦ break_calm s 1 r c p h
          | false ↦ (let e = end_at s p in let f = with_learned (after_fell events.MappingHeard r e) in let same = fell_same events.MappingHeard r e.modes in let none = learned_none e.receiving.mappings h.untold in
              here_calm c s f p.a p.b (learns_calm c e f refl same.0 same.1 none.0 none.1 h))
        ]
    thing_calm s (says.DataFin place) r c p h = fell_calm s events.MappingHeard r c p _ refl refl refl refl h
    thing_calm s (says.InfiniteMapping place position) r c p h = here_calm c s (after_infinite place position r (end_at s p)) p.a p.b (by position (is_infinite_receive r))
      where
        e : PathEnd
        e = end_at s p

        as_before : Calm c (after_fell events.InfiniteHeard r e)
        as_before = let same = fell_same events.InfiniteHeard r e.modes in same_empty c e (after_fell events.InfiniteHeard r e) refl refl same.0 same.1 h

        by : (position : Option ℕ) (b : Bool) → Calm c (receiving_infinite place position b (after_fell events.InfiniteHeard r e))
        by (Some position) true = by_infinite refl
        by (Some position) false = as_before
        by None b = as_before
    thing_calm s (says.Keys own other) r c p h = let e = end_at s p in let same = keys_same r (Some (record { own = own; peer = other })) e.modes in here_calm c s _ p.a p.b (same_empty c e _ refl refl same.0 same.1 h)
    thing_calm s (says.Notice notice) r c p h = here_calm c s _ p.a p.b (same_empty c (end_at s p) _ refl refl refl refl h)
    thing_calm s says.Fail r c p h = fail_answered_so (CalmAt s c) s r p (here_calm c s _ p.a p.b (same_empty c (end_at s p) _ refl refl refl refl h)) (fell_calm s (events.FailHeard false) r c p _ refl refl refl refl h)
    thing_calm s _ r c p h = empty h

    things_calm : (s : Side) (item : Option Heard) (r : Reply) (c : Profile) (p : PathState C) → Empty c (end_at s p) → CalmAt s c (answered_item k s item r p)
    things_calm s None r c p h = empty h
    things_calm s (Some item) r c p h = thing_calm s item r c p h

    unwritten_calm : (d : Duty) (r : Reply) (c : Profile) (p : PathState C) → (writes d).own.recv ≡ false → (writes d).own.mappings ≡ false → (writes d).own.identity ≡ false → (writes d).own.peer_infinite ≡ false
        → Empty c (end_at (side_of d) p) → CalmAt (side_of d) c (answered k d r p)
    unwritten_calm d r c p recv mappings plain infinite h =
        let s = side_of d in let q = answered k d r p in let only = own_only s (writes d) p q (writes_no_more k d r p) in
        same_empty c (end_at s p) (end_at s q)
        (unwritten (writes d).own.recv (end_at s p).tcp.recv (end_at s q).tcp.recv recv (ap (λ (v : EndView). v.recv) only.same))
        (unwritten (writes d).own.mappings (end_at s p).receiving.mappings (end_at s q).receiving.mappings mappings (ap (λ (v : EndView). v.mappings) only.same))
        (unwritten (writes d).own.identity (end_at s p).modes.identity (end_at s q).modes.identity plain (ap (λ (v : EndView). v.identity) only.same))
        (unwritten (writes d).own.peer_infinite (end_at s p).modes.peer_infinite (end_at s q).modes.peer_infinite infinite (ap (λ (v : EndView). v.peer_infinite) only.same)) h

    -- one that is done where nothing is to be passed
    free_calm : (d : Duty) (r : Reply) (p : PathState C) → is_event d ≡ false → is_free d ≡ true → (writes d).own.mappings ≡ false → Empty p.profile (end_at (side_of d) p) → CalmAt (side_of d) p.profile (answered k d r p)
    free_calm d r p other free mappings h =
        let s = side_of d in let q = answered k d r p in let only = own_only s (writes d) p q (writes_no_more k d r p) in
        calm_so p.profile (end_at s p) (end_at s q) (answered_comes k d r p other (inl free)) (own_idle k d r p other h.idle)
        (ap (λ (m : Mappings). m.held) (unwritten (writes d).own.mappings (end_at s p).receiving.mappings (end_at s q).receiving.mappings mappings (ap (λ (v : EndView). v.mappings) only.same)) ∙ h.untold) h

    pub own_calm : (d : Duty) (r : Reply) (p : PathState C) → is_silent d ≡ true → is_harsh d ≡ false → is_edge d ≡ false → Empty p.profile (end_at (side_of d) p)
        → CalmAt (side_of d) p.profile (answered k d r p)
    own_calm (duties.Step step_duties.Events) r p silent mild edge h = absurd (true≢false (sym silent))
    own_calm (duties.Step (step_duties.Data s)) r p silent mild edge h = absurd (true≢false (sym silent))
    own_calm duties.End r p silent mild edge h = absurd (true≢false (sym silent))
    own_calm (duties.Send d) r p silent mild edge h = absurd (true≢false (sym silent))
    own_calm (duties.Ask (ask_duties.GoIdentity s)) r p silent mild edge h = absurd (true≢false mild)
    own_calm (duties.Ask (ask_duties.Edge s)) r p silent mild edge h = absurd (true≢false edge)
    own_calm (duties.Ask (ask_duties.PlainHandshake s)) r p silent mild edge h = unwritten_calm (duties.Ask (ask_duties.PlainHandshake s)) r p.profile p refl refl refl refl h
    own_calm (duties.Ask (ask_duties.PeerKey s)) r p silent mild edge h = unwritten_calm (duties.Ask (ask_duties.PeerKey s)) r p.profile p refl refl refl refl h
    own_calm (duties.Ask (ask_duties.Opened s)) r p silent mild edge h = unwritten_calm (duties.Ask (ask_duties.Opened s)) r p.profile p refl refl refl refl h
    own_calm (duties.Ask (ask_duties.AckHeard s)) r p silent mild edge h = unwritten_calm (duties.Ask (ask_duties.AckHeard s)) r p.profile p refl refl refl refl h
    own_calm (duties.Ask (ask_duties.FailHeard s)) r p silent mild edge h = unwritten_calm (duties.Ask (ask_duties.FailHeard s)) r p.profile p refl refl refl refl h
    own_calm (duties.Ask (ask_duties.PlainData s)) r p silent mild edge h = unwritten_calm (duties.Ask (ask_duties.PlainData s)) r p.profile p refl refl refl refl h
    own_calm (duties.Step (step_duties.Heard s index)) r p silent mild edge h = things_calm s (item_of index (end_at s p)) r p.profile p h
    own_calm (duties.Step (step_duties.PlainAck s)) r p silent mild edge h = elim (breaks_by_ack p.profile (end_at s p)) as
        (λ b. CalmAt s p.profile (if b then answered_break k s 6 r p else goes_on s (with_plain_ack (after_fell events.PlainAck r (end_at s p))) (fell_duties s r p) p))
        [ true ↦ break_calm s 6 r p.profile p h | false ↦ fell_calm s events.PlainAck r p.profile p (with_plain_ack (after_fell events.PlainAck r (end_at s p))) refl refl refl refl h ]
    own_calm (duties.Silent d) r p silent mild edge h = empty h
    own_calm d r p silent mild edge h = free_calm d r p refl refl refl h

-- ---- one that is passed

item_calm : (c : Profile) (s : Side) (o : Option Heard) (e : PathEnd) → Empty c e → Calm c (item_passed s o e)
item_calm c s None e h = empty h
item_calm c s (Some says.Dss) e h = same_empty c e _ refl refl refl refl h
item_calm c s (Some (says.DataAck next window)) e h = same_empty c e _ refl refl refl refl h
item_calm c s (Some (says.Mapping fin)) e h = elim (counts e) as (λ b. Calm c (if b then with_learned e else with_skipped e)) [
  | true ↦ (let none = learned_none e.receiving.mappings h.untold in learns_calm c e (with_learned e) refl refl refl none.0 none.1 h)
  | false ↦ learns_calm c e (with_skipped e) refl refl refl (λ pos. refl) (ap others_of h.untold) h
]
item_calm c s (Some (says.DataFin place)) e h = elim (counts e) as (λ b. Calm c (if b then with_data_fin place e else e)) [ true ↦ same_empty c e (with_data_fin place e) refl refl refl refl h | false ↦ empty h ]
item_calm c s (Some _) e h = empty h

-- what is kept stays where nothing is held
kept_same : (s : Side) (e : PathEnd) → Idle e → (after_keep s e).tcp.recv ≡ e.tcp.recv
kept_same s e idle = by (is_dropped s e) (is_fin_passed e.tcp)
  where
    v : Receiving
    v = e.tcp.recv

    dropped : record v { incoming = None } ≡ v
    dropped = ap (λ (o : Option (List (Option ℕ))). record v { incoming = o }) (sym idle)

    kept : after_keep_held v ≡ v
    kept = ap (λ (o : Option (List (Option ℕ))). record v { places = unwrap_or o v.places; incoming = None }) idle ∙ dropped

    by : (b over : Bool) → (if b then record e.tcp { recv = record e.tcp.recv { incoming = None } } else record e.tcp { recv = if over then record e.tcp.recv { incoming = None } else after_keep_held e.tcp.recv }).recv ≡ e.tcp.recv
    by true over = dropped
    by false true = dropped
    by false false = kept

module _ {C : Type 0} where
  unwritten_passes : (d : Duty) (p : PathState C) → (end_at (side_of d) (passed d p)).tcp.recv ≡ (end_at (side_of d) p).tcp.recv → (writes d).own.mappings ≡ false → (writes d).own.identity ≡ false → (writes d).own.peer_infinite ≡ false
      → Empty p.profile (end_at (side_of d) p) → Calm p.profile (end_at (side_of d) (passed d p))
  unwritten_passes d p recv mappings plain infinite h =
      let s = side_of d in let q = passed d p in let only = own_only s (writes d) p q (passes_no_more d p) in
      same_empty p.profile (end_at s p) (end_at s q) recv
      (unwritten (writes d).own.mappings (end_at s p).receiving.mappings (end_at s q).receiving.mappings mappings (ap (λ (v : EndView). v.mappings) only.same))
      (unwritten (writes d).own.identity (end_at s p).modes.identity (end_at s q).modes.identity plain (ap (λ (v : EndView). v.identity) only.same))
      (unwritten (writes d).own.peer_infinite (end_at s p).modes.peer_infinite (end_at s q).modes.peer_infinite infinite (ap (λ (v : EndView). v.peer_infinite) only.same)) h

  free_passes : (d : Duty) (p : PathState C) → is_free d ≡ true → (writes d).own.mappings ≡ false → Empty p.profile (end_at (side_of d) p) → Calm p.profile (end_at (side_of d) (passed d p))
  free_passes d p free mappings h =
      let s = side_of d in let q = passed d p in let only = own_only s (writes d) p q (passes_no_more d p) in
      calm_so p.profile (end_at s p) (end_at s q) (passed_comes d p (inl free)) (passed_idle d p h.idle)
      (ap (λ (m : Mappings). m.held) (unwritten (writes d).own.mappings (end_at s p).receiving.mappings (end_at s q).receiving.mappings mappings (ap (λ (v : EndView). v.mappings) only.same)) ∙ h.untold) h

  pub passed_calm : (d : Duty) (p : PathState C) → Empty p.profile (end_at (side_of d) p) → Calm p.profile (end_at (side_of d) (passed d p))
  passed_calm (duties.Ask (ask_duties.CheckFailed s)) p h = free_passes (duties.Ask (ask_duties.CheckFailed s)) p refl refl h
  passed_calm (duties.Step (step_duties.Heard s index)) p h = let e = end_at s p in here_calm p.profile s (item_passed s (item_of index e) e) p.a p.b (item_calm p.profile s (item_of index e) e h)
  passed_calm (duties.Step (step_duties.PlainAck s)) p h = here_calm p.profile s (with_plain_ack (end_at s p)) p.a p.b (same_empty p.profile (end_at s p) (with_plain_ack (end_at s p)) refl refl refl refl h)
  passed_calm (duties.Step (step_duties.Unmapped s)) p h = free_passes (duties.Step (step_duties.Unmapped s)) p refl refl h
  passed_calm (duties.Silent (silent_duties.Timer s)) p h = free_passes (duties.Silent (silent_duties.Timer s)) p refl refl h
  passed_calm (duties.Silent (silent_duties.Keep s)) p h =
      unwritten_passes (duties.Silent (silent_duties.Keep s)) p (ap (λ (f : PathEnd). f.tcp.recv) (own_end s (after_keep s (end_at s p)) p.a p.b) ∙ kept_same s (end_at s p) h.idle) refl refl refl h
  passed_calm (duties.Silent (silent_duties.PassFin s)) p h = free_passes (duties.Silent (silent_duties.PassFin s)) p refl refl h
  passed_calm d p h = empty h

  unwritten_infinite : (d : Duty) (p : PathState C) → (writes d).own.peer_infinite ≡ false → (end_at (side_of d) (passed d p)).modes.peer_infinite ≡ (end_at (side_of d) p).modes.peer_infinite
  unwritten_infinite d p none = let s = side_of d in let q = passed d p in
      unwritten (writes d).own.peer_infinite (end_at s p).modes.peer_infinite (end_at s q).modes.peer_infinite none (ap (λ (v : EndView). v.peer_infinite) (own_only s (writes d) p q (passes_no_more d p)).same)

  -- an infinite mapping stays
  pub passed_infinite : (d : Duty) (p : PathState C) → (end_at (side_of d) (passed d p)).modes.peer_infinite ≡ (end_at (side_of d) p).modes.peer_infinite
  passed_infinite (duties.Step (step_duties.Heard s index)) p =
      let e = end_at s p in ap (λ (f : PathEnd). f.modes.peer_infinite) (own_end s (item_passed s (item_of index e) e) p.a p.b) ∙ by (item_of index e) e
    where
      by : (o : Option Heard) (e : PathEnd) → (item_passed s o e).modes.peer_infinite ≡ e.modes.peer_infinite
      by None e = refl
      by (Some (says.Mapping fin)) e = elim (counts e) as (λ b. (if b then with_learned e else with_skipped e).modes.peer_infinite ≡ e.modes.peer_infinite) [ true ↦ refl | false ↦ refl ]
      by (Some (says.DataFin place)) e = elim (counts e) as (λ b. (if b then with_data_fin place e else e).modes.peer_infinite ≡ e.modes.peer_infinite) [ true ↦ refl | false ↦ refl ]
      by (Some _) e = refl
  passed_infinite (duties.Ask (ask_duties.CheckFailed s)) p = unwritten_infinite (duties.Ask (ask_duties.CheckFailed s)) p refl
  passed_infinite (duties.Step (step_duties.PlainAck s)) p = unwritten_infinite (duties.Step (step_duties.PlainAck s)) p refl
  passed_infinite (duties.Step (step_duties.Unmapped s)) p = unwritten_infinite (duties.Step (step_duties.Unmapped s)) p refl
  passed_infinite (duties.Silent d) p = unwritten_infinite (duties.Silent d) p (by d)
    where
      by : (d : SilentDuty) → (writes (duties.Silent d)).own.peer_infinite ≡ false
      by (silent_duties.Timer s) = refl
      by (silent_duties.Keep s) = refl
      by (silent_duties.PassFin s) = refl
  passed_infinite d p = refl
