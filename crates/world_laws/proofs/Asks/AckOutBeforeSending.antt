-- Each step of a path asks its reassembly book what is to be acknowledged before the end sends anything, where bytes or an end were
-- told to the book. So what an end sends shows all that it told.
use Rattle.world_laws.proofs.Words.{◌≡◌, refl, sym, ◌∙◌, ap, subst, ℕ, zero, suc, ◌+◌, ◌&&◌, ◌||◌, ⊎_elim, Bool, true, false, if◌then◌else◌, Option, Some, None}
use Rattle.world_laws.proofs.Words.{List, [], ◌∷◌, ◌++◌, length, or_cases, and_parts, both_ways, false≢true, true≢false, FallEvent, Side, A, B, same_side}
use Rattle.world_laws.proofs.Words.{ScriptLine, JoinSyn, KeptMapping, Record, is_dead, Meaning, is_sixth, arriving, after_delivery, HeardSegment, LineAction}
use Rattle.world_laws.proofs.Words.{Piece, rest_of_turn, emission, heard_and, payload_came, leaves, resets, stops, start_of_turn, Duty, SendDuty, StepDuty}
use Rattle.world_laws.proofs.Words.{AskDuty, SilentDuty, Heard, KeyPair, key_heard, keys_heard, Ask, Reply, StampedBooks, tail_of, is_nil, Codec, stands}
use Rattle.world_laws.proofs.Words.{passed, answered, PathEnd, died, answered_ack_out, after_ack_out, PathStart, waiting_path, first_turn, at_tick, PathState}
use Rattle.world_laws.proofs.Words.{end_at, goes_on, with_agenda, left, settled, takes, next_round, Carried, values, items_of, options_heard, after_judged}
use Rattle.world_laws.proofs.Words.{judged_in, template_by, template_judged, heard_in, copy_heard, told_at, reset_on, answered_break, died_unless_dead}
use Rattle.world_laws.proofs.Words.{answered_data, answered_grant, first_unsent, grant_in, Judged, next_event, after_line, happens_if, join_begun, never_joined}
use Rattle.world_laws.proofs.Words.{asked_at, is_never, join_taken, keys_begun, opened_by, is_joined, with_timer_settled, template_fired, after_firing, having_asked}
use Rattle.world_laws.proofs.Words.{after_piece, is_wrong, mapping_here, piece_of, is_placed, answered_piece, forgotten_by, after_keep, after_pieces}
use Rattle.world_laws.proofs.Words.{after_check, with_peer_data_fin, with_fin_told, answered_plain_fin, answered_fin_heard, is_fin_set, after_pass_fin}
use Rattle.world_laws.proofs.Words.{is_clash, with_learned, with_data_fin, with_skipped, counts, told_next, answered_item, item_of, item_passed, heard_passed}
use Rattle.world_laws.proofs.Words.{after_check_failed, after_fell, fell_duties, answered_plain_ack, with_plain_ack, breaks_by_ack, after_fail_heard}
use Rattle.world_laws.proofs.Words.{answered_identity, answered_fell, with_infinite, in_identity, breaks_by, answered_peer_key, answered_opened, is_stopped_by}
use Rattle.world_laws.proofs.Words.{with_priority, Every, App, Path, Actor, ActorCrew, member_takes, member_next, is_over, Start, path_begins, opened_world}
use Rattle.world_laws.proofs.Words.{Turn, crew_after, begins, world_run, Writes, OnlyAt, EndView, writes, side_of, answer_to}
use Rattle.path_agenda.specs.Agenda.{breaks}
use Rattle.path_core.specs.Emission.{Grant}
use Rattle.path_core.specs.Deliver.{refused}
use Rattle.path_core.specs.Fallback.{after_infinite}
use Rattle.path_core.specs.declared.events.Event.{Event}
use Rattle.world_laws.proofs.Asks.AckOutDuties.{is_asking, is_telling, is_shield, guarded, needs, is_sheltered}
use Rattle.world_laws.proofs.Falls.Verdicts.{fell_cases, told_cases}
use Rattle.world_laws.proofs.Rounds.Lifting.{run_lifted, opened_lifted}
use Rattle.world_laws.proofs.Falls.FailedChecks.{check_failed_so, fail_heard_so, infinite_came_so, fail_answered_so}
use Rattle.world_laws.proofs.Writes.Paths.{writes_no_more}
use Rattle.world_laws.proofs.Writes.Steps.{both_ends, unwritten}

-- ---- tests

-- the book is asked, or told something before
unguarded : (asks tells rest : Bool) → asks || tells ≡ false → asks || (tells && rest) ≡ true → ⊥
unguarded true tells rest x y = true≢false x
unguarded false true rest x y = true≢false x
unguarded false false rest x y = false≢true y

-- a duty by which the book is asked comes to something where something was told
asks_now : {C : Type 0} (d : Duty) (p : PathState C) (s : Side) → is_asking s d ≡ true → (end_at s p).treated.asked ≡ true → stands d p ≡ true
asks_now (Duty.Ask (AskDuty.AckOut A)) p A is asked = asked
asks_now (Duty.Ask (AskDuty.AckOut B)) p B is asked = asked
asks_now (Duty.Ask (AskDuty.AckOut A)) p B is asked = absurd (false≢true is)
asks_now (Duty.Ask (AskDuty.AckOut B)) p A is asked = absurd (false≢true is)
asks_now (Duty.Ask (AskDuty.BreakAck t reason)) p s is asked = refl
asks_now _ p s is asked = absurd (false≢true is)

-- the first duty is none by which a book is told or asked
abbrev IsOther : Duty → Type 0
IsOther (Duty.Ask (AskDuty.Edge s)) = ⊥
IsOther (Duty.Ask (AskDuty.CheckFailed s)) = ⊥
IsOther (Duty.Ask (AskDuty.GoIdentity s)) = ⊥
IsOther (Duty.Step (StepDuty.Unmapped s)) = ⊥
IsOther (Duty.Ask (AskDuty.HeardFin s index)) = ⊥
IsOther (Duty.Silent (SilentDuty.PassFin s)) = ⊥
IsOther (Duty.Ask (AskDuty.SubflowFin s)) = ⊥
IsOther (Duty.Ask (AskDuty.AckOut s)) = ⊥
IsOther (Duty.Ask (AskDuty.BreakAck s reason)) = ⊥
IsOther _ = Unit {0}

-- a duty of the other side is no shield
neither : (t s : Side) → same_side t s ≡ false → false || same_side t s ≡ false
neither A B is = refl
neither B A is = refl
neither A A is = absurd (true≢false is)
neither B B is = absurd (true≢false is)

neither_asks : (t s : Side) → same_side t s ≡ false → same_side t s || false ≡ false
neither_asks A B is = refl
neither_asks B A is = refl
neither_asks A A is = absurd (true≢false is)
neither_asks B B is = absurd (true≢false is)

passes : (t s : Side) (ds : List Duty) → false || (same_side t s && guarded t ds) ≡ true → guarded t ds ≡ true
passes A A ds h = h
passes B B ds h = h
passes A B ds h = absurd (false≢true h)
passes B A ds h = absurd (false≢true h)

-- ---- templates

heard_sheltered : (s : Side) (from count : ℕ) (ds : List Duty) → is_sheltered ds ≡ true → is_sheltered (heard_and s from count ds) ≡ true
heard_sheltered s from zero ds h = h
heard_sheltered s from (suc count) ds h = heard_sheltered s (from + 1) count ds h

payload_sheltered : (s : Side) → is_sheltered (payload_came s) ≡ true
payload_sheltered = elim [ A ↦ refl | B ↦ refl ]

template_sheltered : (joined : Bool) (s : Side) (count : ℕ) (m : Meaning) → is_sheltered (template_by joined s count m) ≡ true
template_sheltered true s count (Meaning.Accepts acknowledged) = refl
template_sheltered false s count (Meaning.Accepts acknowledged) = refl
template_sheltered joined s count (Meaning.Taken position acknowledged) = heard_sheltered s 0 count (payload_came s) (payload_sheltered s)
template_sheltered joined s count _ = refl

judged_sheltered : (joined : Bool) (s : Side) (count : ℕ) (verdict : Judged) → is_sheltered (template_judged joined s count verdict) ≡ true
judged_sheltered joined s count (Judged.As meaning) = template_sheltered joined s count meaning
judged_sheltered joined s count _ = refl

died_sheltered : (dead_a dead_b : Bool) → is_sheltered ((if dead_a then [] else Duty.Ask (AskDuty.Leave A) ∷ []) ++ ((if dead_b then [] else Duty.Ask (AskDuty.Leave B) ∷ []) ++ rest_of_turn)) ≡ true
died_sheltered true true = refl
died_sheltered true false = refl
died_sheltered false true = refl
died_sheltered false false = refl

fired_sheltered : (sixth : Bool) (s : Side) → is_sheltered (template_fired sixth s) ≡ true
fired_sheltered = elim [ true ↦ λ s. refl | false ↦ λ s. refl ]

breaks_guarded : (s : Side) (reason : ℕ) → guarded s (breaks s reason) ≡ true
breaks_guarded = elim [ A ↦ λ reason. refl | B ↦ λ reason. refl ]

edge_guarded : (s : Side) (ds : List Duty) → guarded s ds ≡ true → guarded s (Duty.Ask (AskDuty.Edge s) ∷ ds) ≡ true
edge_guarded = elim [ A ↦ λ ds h. h | B ↦ λ ds h. h ]

identity_guarded : (s : Side) (ds : List Duty) → guarded s ds ≡ true → guarded s (Duty.Ask (AskDuty.GoIdentity s) ∷ ds) ≡ true
identity_guarded = elim [ A ↦ λ ds h. h | B ↦ λ ds h. h ]

-- ---- an end

-- nothing more was told since the book was asked
abbrev EndCalms : PathEnd → PathEnd → Type 0
EndCalms e f = f.treated.asked ≡ true → e.treated.asked ≡ true

either_end : (b : Bool) (e f g : PathEnd) → EndCalms e f → EndCalms e g → EndCalms e (if b then f else g)
either_end = elim [ true ↦ λ e f g x y. x | false ↦ λ e f g x y. y ]

begun_end : (keys : Option KeyPair) (e : PathEnd) → EndCalms e (opened_by keys e)
begun_end = elim [ None ↦ λ e h. h | Some keys ↦ λ e h. h ]

item_end : (s : Side) (item : Heard) (e : PathEnd) → EndCalms e (heard_passed s item e)
item_end s (Heard.Mapping fin) e = either_end (counts e) e (with_learned e) (with_skipped e) (λ h. h) (λ h. h)
item_end s (Heard.DataFin place) e = either_end (counts e) e (with_data_fin place e) e (λ h. h) (λ h. h)
item_end s _ e = λ h. h

maybe_end : (s : Side) (o : Option Heard) (e : PathEnd) → EndCalms e (item_passed s o e)
maybe_end s None e h = h
maybe_end s (Some item) e h = item_end s item e h

checked_end : (checksums : Bool) (o : Option KeptMapping) (e : PathEnd) → EndCalms e (forgotten_by checksums o e)
checked_end checksums None e h = h
checked_end checksums (Some kept) e h = either_end (is_wrong checksums kept e.tcp) e _ e (λ x. x) (λ x. x) h

dead_calms : (e : PathEnd) → EndCalms e (died_unless_dead e)
dead_calms e = either_end (is_dead e.tcp.state) e e (died e) (λ h. h) (λ h. absurd (false≢true h))

-- ---- a path

module _ {C : Type 0} where
  -- nothing more was told since the books were asked
  record Calms (p q : PathState C) : Type 0 where
    a : EndCalms p.a q.a
    b : EndCalms p.b q.b

  calms_at : (s : Side) (p q : PathState C) → Calms p q → EndCalms (end_at s p) (end_at s q)
  calms_at = elim [ A ↦ λ p q x. x.a | B ↦ λ p q x. x.b ]

  -- the end of a side becomes this, whatever else is on the path
  side_calms : (s : Side) (e : PathEnd) (p q : PathState C) → EndCalms (end_at s p) e → q.a ≡ (goes_on s e [] p).a → q.b ≡ (goes_on s e [] p).b → Calms p q
  side_calms A e p q x same_a same_b = record { a = λ h. x (subst (λ (f : PathEnd). f.treated.asked ≡ true) same_a h); b = λ h. subst (λ (f : PathEnd). f.treated.asked ≡ true) same_b h }
  side_calms B e p q x same_a same_b = record { a = λ h. subst (λ (f : PathEnd). f.treated.asked ≡ true) same_a h; b = λ h. x (subst (λ (f : PathEnd). f.treated.asked ≡ true) same_b h) }

  passed_calms : (d : Duty) (p : PathState C) → Calms p (passed d p)
  passed_calms (Duty.Silent (SilentDuty.Timer s)) p = side_calms s (with_timer_settled p.clock (end_at s p)) p _ (λ h. h) refl refl
  passed_calms (Duty.Step (StepDuty.Heard s index)) p = side_calms s (item_passed s (item_of index (end_at s p)) (end_at s p)) p _ (maybe_end s (item_of index (end_at s p)) (end_at s p)) refl refl
  passed_calms (Duty.Step (StepDuty.PlainAck s)) p = side_calms s (with_plain_ack (end_at s p)) p _ (λ h. h) refl refl
  passed_calms (Duty.Silent (SilentDuty.Keep s)) p = side_calms s (after_keep s (end_at s p)) p _ (λ h. h) refl refl
  passed_calms (Duty.Ask (AskDuty.CheckFailed s)) p = side_calms s (after_check p.profile (end_at s p)) p _ (checked_end p.profile.spelling.checksums (mapping_here (end_at s p)) (end_at s p)) refl refl
  passed_calms (Duty.Step (StepDuty.Unmapped s)) p = side_calms s (after_pieces (end_at s p)) p _ (λ h. h) refl refl
  passed_calms (Duty.Silent (SilentDuty.PassFin s)) p = side_calms s (after_pass_fin (end_at s p)) p _ (λ h. h) refl refl
  passed_calms _ p = record { a = λ h. h; b = λ h. h }

  -- what is to be done on a path where something was told
  pub record Shielded (p : PathState C) : Type 0 where
    pub shape : is_sheltered p.agenda ≡ true
    pub asked : (s : Side) → (end_at s p).treated.asked ≡ true → guarded s p.agenda ≡ true

  -- an end that is no matter of the first duty told nothing
  pub shielded_calm : (p : PathState C) → Shielded p → (d : Duty) (ds : List Duty) → p.agenda ≡ d ∷ ds → (s : Side) → is_shield s d ≡ false → (end_at s p).treated.asked ≡ false
  shielded_calm p h d ds is s none = (elim (end_at s p).treated.asked as (λ b. (end_at s p).treated.asked ≡ b → b ≡ false)
      [ false ↦ λ asked. refl | true ↦ λ asked. absurd (unguarded (is_asking s d) (is_telling s d) (guarded s ds) none (subst (λ xs. guarded s xs ≡ true) is (h.asked s asked))) ]) refl

  -- ---- what comes to nothing

  behind : (d : Duty) (ds : List Duty) (p : PathState C) (s : Side) → stands d p ≡ false → (end_at s p).treated.asked ≡ true → guarded s (d ∷ ds) ≡ true → guarded s ds ≡ true
  behind d ds p s none asked guard =
      ⊎_elim (λ asks. absurd (both_ways (stands d p) none (asks_now d p s asks asked))) (λ tells. (and_parts (is_telling s d) (guarded s ds) tells).1)
      (or_cases (is_asking s d) (is_telling s d && guarded s ds) guard)

  pub settled_shielded : (ds : List Duty) (p : PathState C) → is_sheltered ds ≡ true → ((s : Side) → (end_at s p).treated.asked ≡ true → guarded s ds ≡ true) → Shielded (settled ds p)
  settled_shielded [] p shape asked = record { shape = refl; asked = λ s is. asked s is }
  settled_shielded (d ∷ ds) p shape asked =
      by (stands d p) refl (λ none. settled_shielded ds (passed d p) (and_parts (needs d ds) (is_sheltered ds) shape).1
      (λ s is. let was = calms_at s p (passed d p) (passed_calms d p) is in behind d ds p s none was (asked s was)))
    where
      by : (b : Bool) → stands d p ≡ b → (stands d p ≡ false → Shielded (settled ds (passed d p))) → Shielded (if b then with_agenda (d ∷ ds) p else settled ds (passed d p))
      by true is rest = record { shape = shape; asked = λ s is. asked s is }
      by false is rest = rest is

  -- ---- what happens by itself

  -- nothing more was told, and these are to be done
  record Goes (p q : PathState C) : Type 0 where
    calms : Calms p q
    shape : is_sheltered q.agenda ≡ true

  either_goes : (c : Bool) (q r p : PathState C) → Goes p q → Goes p r → Goes p (if c then q else r)
  either_goes = elim [ true ↦ λ q r p x y. x | false ↦ λ q r p x y. y ]

  side_goes : (s : Side) (e : PathEnd) (p q : PathState C) → EndCalms (end_at s p) e → q.a ≡ (goes_on s e [] p).a → q.b ≡ (goes_on s e [] p).b → is_sheltered q.agenda ≡ true → Goes p q
  side_goes s e p q x same_a same_b shape = record { calms = side_calms s e p q x same_a same_b; shape = shape }

  -- where it may be written at neither end that something was told
  kept_by : (s : Side) (w : Writes) (p q : PathState C) → w.own.asked ≡ false → w.other.asked ≡ false → OnlyAt s w p q → Calms p q
  kept_by s w p q own other x =
      let both = both_ends (λ e f. f.treated.asked ≡ e.treated.asked) s w p q
      (λ e f y. unwritten w.own.asked e.treated.asked f.treated.asked own (ap (λ (v : EndView). v.asked) y.same))
      (λ e f y. unwritten w.other.asked e.treated.asked f.treated.asked other (ap (λ (v : EndView). v.asked) y.same)) x in
      record { a = λ h. sym both.0 ∙ h; b = λ h. sym both.1 ∙ h }

  rests : (p q : PathState C) → q.a ≡ p.a → q.b ≡ p.b → is_sheltered q.agenda ≡ true → Goes p q
  rests p q same_a same_b shape = record {
    calms = record { a = λ h. subst (λ (f : PathEnd). f.treated.asked ≡ true) same_a h; b = λ h. subst (λ (f : PathEnd). f.treated.asked ≡ true) same_b h };
    shape = shape;
  }

  begun_goes : (r : Reply) (dead living : List Duty) (p : PathState C) → is_sheltered dead ≡ true → is_sheltered living ≡ true → Goes p (join_begun r dead living p)
  begun_goes r dead living p x y =
      either_goes (is_never r) (goes_on A (never_joined r (end_at A p)) dead p) (goes_on A (opened_by (keys_begun r) (end_at A p)) living p) p
      (record { calms = record { a = λ h. absurd (false≢true h); b = λ h. h }; shape = x }) (record { calms = record { a = begun_end (keys_begun r) p.a; b = λ h. h }; shape = y })

  line_goes : (action : LineAction) (p : PathState C) → Goes p (after_line action p)
  line_goes LineAction.Die p = record { calms = record { a = dead_calms p.a; b = dead_calms p.b }; shape = died_sheltered (is_dead p.a.tcp.state) (is_dead p.b.tcp.state) }
  line_goes (LineAction.Prio s backup) p = side_goes s (with_priority backup (end_at s p)) p _ (λ h. h) refl refl refl
  line_goes (LineAction.Announce s id) p = rests p _ refl refl refl
  line_goes (LineAction.Withdraw s id) p = rests p _ refl refl refl

  told_goes : (now : ℕ) (s : Side) (x : HeardSegment) (p : PathState C) → Goes p (told_at now s x p)
  told_goes now s x p =
      let joined = is_joined p.profile in let verdict = judged_in joined s x (end_at s p) in
      side_goes s (after_judged p.profile s now x verdict (end_at s p)) p (told_at now s x p) (λ h. absurd (false≢true h)) refl refl (judged_sheltered joined s (length (items_of joined s x)) verdict)

  copy_goes : (s : Side) (heard : Option HeardSegment) (p : PathState C) → Goes p (copy_heard s heard p)
  copy_goes s None p = rests p _ refl refl refl
  copy_goes s (Some heard) p = told_goes p.clock s (options_heard (end_at s p) heard) p

  -- at another tick the ends are the same
  from_there : (p q r : PathState C) → q.a ≡ p.a → q.b ≡ p.b → Goes q r → Goes p r
  from_there p q r same_a same_b x = record {
    calms = record { a = λ h. subst (λ (f : PathEnd). f.treated.asked ≡ true) same_a (x.calms.a h); b = λ h. subst (λ (f : PathEnd). f.treated.asked ≡ true) same_b (x.calms.b h) };
    shape = x.shape;
  }

  happens_goes : (k : Codec C) (event : Option Event) (r : Reply) (p : PathState C) → Goes p (happens_if k event r p)
  happens_goes k None r p = rests p _ refl refl refl
  happens_goes k (Some (Event.Joins tick)) r p =
      let q : PathState C = record (at_tick tick p) { joined_at = None } in from_there p q _ refl refl (begun_goes r (leaves A) (emission A) q refl refl)
  happens_goes k (Some (Event.Takes line)) r p =
      let q : PathState C = record (at_tick line.tick p) { lines = tail_of p.lines } in from_there p q _ refl refl (line_goes line.action q)
  happens_goes k (Some (Event.Arrives due)) r p =
      let q : PathState C = record (at_tick due.tick p) { link = after_delivery due p.link } in
      from_there p q _ refl refl (copy_goes due.to (heard_in k due.to (arriving due p.link) p) q)
  happens_goes k (Some (Event.Fires s tick)) r p =
      let q : PathState C = at_tick tick p in
      from_there p q _ refl refl (side_goes s (after_firing q.clock (end_at s q)) q _ (λ h. h) refl refl (fired_sheltered (is_sixth (end_at s q).tcp) s))

  -- ---- replies

  module _ (k : Codec C) (r : Reply) (ds : List Duty) (shape : is_sheltered ds ≡ true) where
    -- a path whose agenda this is
    abbrev first : Duty → PathState C → PathState C
    first d p = with_agenda (d ∷ ds) p

    fell_shape : (s : Side) (d : Duty) (p : PathState C) → is_sheltered (fell_duties s r (first d p)) ≡ true
    fell_shape s d p = fell_cases (λ es. is_sheltered es ≡ true) s (first d p) r (λ falls. shape) (λ reason. refl) (λ reason. refl) shape

    event_told : (s : Side) (d : Duty) (event : FallEvent) (p : PathState C) → Goes (first d p) (answered_fell s event r (first d p))
    event_told s d event p = side_goes s (after_fell event r (end_at s p)) (first d p) _ (λ h. h) refl refl (fell_shape s d p)

    break_goes : (s : Side) (d : Duty) (reason : ℕ) (p : PathState C) → Goes (first d p) (answered_break k s reason r (first d p))
    break_goes s d reason p =
        either_goes (end_at s p).treated.asked (answered_ack_out s r (resets s reason) (first d p)) (reset_on k s (Some reason) (leaves s) (first d p)) (first d p)
        (side_goes s (after_ack_out r (end_at s p)) (first d p) _ (λ h. absurd (false≢true h)) refl refl refl)
        (side_goes s (died (end_at s p)) (first d p) _ (λ h. absurd (false≢true h)) refl refl refl)

    grant_goes : (s : Side) (grant : Option Grant) (p : PathState C) → Goes (first (Duty.Step (StepDuty.Data s)) p) (answered_grant s grant r (first (Duty.Step (StepDuty.Data s)) p))
    grant_goes s None p = side_goes s _ (first (Duty.Step (StepDuty.Data s)) p) _ (λ h. h) refl refl shape
    grant_goes s (Some grant) p = side_goes s _ (first (Duty.Step (StepDuty.Data s)) p) _ (λ h. h) refl refl shape

    data_goes : (s : Side) (o : Option Record) (p : PathState C) → Goes (first (Duty.Step (StepDuty.Data s)) p) (answered_data k s o r (first (Duty.Step (StepDuty.Data s)) p))
    data_goes s (Some record_of) p = side_goes s _ (first (Duty.Step (StepDuty.Data s)) p) _ (λ h. h) refl refl shape
    data_goes s None p = grant_goes s (grant_in r) p

    key_goes : (s : Side) (key : Option ℕ) (p : PathState C) → Goes (first (Duty.Ask (AskDuty.PeerKey s)) p) (answered_peer_key s key r (first (Duty.Ask (AskDuty.PeerKey s)) p))
    key_goes s None p = event_told s (Duty.Ask (AskDuty.PeerKey s)) FallEvent.PlainHandshake p
    key_goes s (Some key) p = side_goes s _ (first (Duty.Ask (AskDuty.PeerKey s)) p) _ (λ h. h) refl refl shape

    opened_goes : (s : Side) (keys : Option KeyPair) (p : PathState C) → Goes (first (Duty.Ask (AskDuty.Opened s)) p) (answered_opened s keys r (first (Duty.Ask (AskDuty.Opened s)) p))
    opened_goes s None p = event_told s (Duty.Ask (AskDuty.Opened s)) FallEvent.PlainHandshake p
    opened_goes s (Some keys) p = side_goes s _ (first (Duty.Ask (AskDuty.Opened s)) p) _ (λ h. h) refl refl shape

    told_shape : (s : Side) (index : ℕ) (covers : Bool) (p : PathState C) → is_sheltered (told_next s covers (first (Duty.Step (StepDuty.Heard s index)) p)) ≡ true
    told_shape s index true p = shape
    told_shape s index false p = shape

    stopped_shape : (s : Side) (index : ℕ) (stopped : Bool) (p : PathState C) → is_sheltered (if stopped then stops s else left (first (Duty.Step (StepDuty.Heard s index)) p)) ≡ true
    stopped_shape s index true p = refl
    stopped_shape s index false p = shape

    item_goes : (s : Side) (index : ℕ) (item : Option Heard) (p : PathState C) → Goes (first (Duty.Step (StepDuty.Heard s index)) p) (answered_item k s item r (first (Duty.Step (StepDuty.Heard s index)) p))
    item_goes s index None p = rests (first (Duty.Step (StepDuty.Heard s index)) p) _ refl refl shape
    item_goes s index (Some Heard.Dss) p = rests (first (Duty.Step (StepDuty.Heard s index)) p) _ refl refl shape
    item_goes s index (Some (Heard.DataAck next window)) p = side_goes s _ (first (Duty.Step (StepDuty.Heard s index)) p) _ (λ h. h) refl refl (told_shape s index _ p)
    item_goes s index (Some (Heard.Mapping fin)) p =
        let m = first (Duty.Step (StepDuty.Heard s index)) p in
        either_goes (is_clash (end_at s m)) (answered_break k s 1 r m) (goes_on s (with_learned (after_fell FallEvent.MappingHeard r (end_at s m))) (fell_duties s r m) m) m
        (break_goes s (Duty.Step (StepDuty.Heard s index)) 1 p) (side_goes s _ m _ (λ h. h) refl refl (fell_shape s (Duty.Step (StepDuty.Heard s index)) p))
    item_goes s index (Some (Heard.DataFin place)) p = side_goes s _ (first (Duty.Step (StepDuty.Heard s index)) p) _ (λ h. h) refl refl (fell_shape s (Duty.Step (StepDuty.Heard s index)) p)
    item_goes s index (Some (Heard.InfiniteMapping place position)) p =
        side_goes s (after_infinite place position r (end_at s p)) (first (Duty.Step (StepDuty.Heard s index)) p) _
        (infinite_came_so (λ f. EndCalms (end_at s p) f) place position r (end_at s p) (λ other h. h)) refl refl (fell_shape s (Duty.Step (StepDuty.Heard s index)) p)
    item_goes s index (Some (Heard.PeerKey key)) p = rests (first (Duty.Step (StepDuty.Heard s index)) p) _ refl refl shape
    item_goes s index (Some (Heard.Keys own peer)) p = side_goes s _ (first (Duty.Step (StepDuty.Heard s index)) p) _ (λ h. h) refl refl shape
    item_goes s index (Some (Heard.Join form)) p = rests (first (Duty.Step (StepDuty.Heard s index)) p) _ refl refl shape
    item_goes s index (Some (Heard.Notice notice)) p = side_goes s _ (first (Duty.Step (StepDuty.Heard s index)) p) _ (λ h. h) refl refl shape
    item_goes s index (Some Heard.Fail) p =
        let m = first (Duty.Step (StepDuty.Heard s index)) p in
        fail_answered_so (λ q. Goes m q) s r m (side_goes s (with_infinite r (end_at s p)) m _ (λ h. h) refl refl shape) (event_told s (Duty.Step (StepDuty.Heard s index)) (FallEvent.FailHeard false) p)
    item_goes s index (Some (Heard.FastClose key)) p = rests (first (Duty.Step (StepDuty.Heard s index)) p) _ refl refl (stopped_shape s index (is_stopped_by r) p)

    plain_ack_goes : (s : Side) (p : PathState C) → Goes (first (Duty.Step (StepDuty.PlainAck s)) p) (answered_plain_ack k s r (first (Duty.Step (StepDuty.PlainAck s)) p))
    plain_ack_goes s p =
        let m = first (Duty.Step (StepDuty.PlainAck s)) p in
        either_goes (breaks_by_ack m.profile (end_at s m)) (answered_break k s 6 r m) (goes_on s (with_plain_ack (after_fell FallEvent.PlainAck r (end_at s m))) (fell_duties s r m) m) m
        (break_goes s (Duty.Step (StepDuty.PlainAck s)) 6 p) (side_goes s _ m _ (λ h. h) refl refl (fell_shape s (Duty.Step (StepDuty.PlainAck s)) p))

    joined_goes : (s : Side) (keys : Option KeyPair) (asked : Option JoinSyn) (p : PathState C) → Goes (first (Duty.Ask (AskDuty.JoinHeard s)) p) (join_taken s keys asked r (first (Duty.Ask (AskDuty.JoinHeard s)) p))
    joined_goes s (Some keys) (Some asked) p = side_goes s _ (first (Duty.Ask (AskDuty.JoinHeard s)) p) _ (λ h. h) refl refl shape
    joined_goes s (Some keys) None p = rests (first (Duty.Ask (AskDuty.JoinHeard s)) p) _ refl refl shape
    joined_goes s None (Some asked) p = side_goes s _ (first (Duty.Ask (AskDuty.JoinHeard s)) p) _ (λ h. h) refl refl shape
    joined_goes s None None p = rests (first (Duty.Ask (AskDuty.JoinHeard s)) p) _ refl refl shape

    -- whatever is replied to a duty by which no reassembly book is told or asked
    answered_goes : (d : Duty) → IsOther d → (p : PathState C) → Goes (first d p) (answered k d r (first d p))
    answered_goes (Duty.Ask (AskDuty.Window s)) other p = side_goes s _ (first (Duty.Ask (AskDuty.Window s)) p) _ (λ h. absurd (false≢true h)) refl refl shape
    answered_goes (Duty.Ask (AskDuty.LeaveNoted s)) other p = side_goes s (died (end_at s p)) (first (Duty.Ask (AskDuty.LeaveNoted s)) p) _ (λ h. absurd (false≢true h)) refl refl shape
    answered_goes Duty.End other p = rests (first Duty.End p) _ refl refl refl
    answered_goes (Duty.Send (SendDuty.BreakReset s reason)) other p = side_goes s (died (end_at s p)) (first (Duty.Send (SendDuty.BreakReset s reason)) p) _ (λ h. absurd (false≢true h)) refl refl refl
    answered_goes (Duty.Send (SendDuty.Reset s)) other p = side_goes s (died (end_at s p)) (first (Duty.Send (SendDuty.Reset s)) p) _ (λ h. absurd (false≢true h)) refl refl shape
    answered_goes (Duty.Send (SendDuty.ResetNoted s)) other p = side_goes s (died (end_at s p)) (first (Duty.Send (SendDuty.ResetNoted s)) p) _ (λ h. absurd (false≢true h)) refl refl shape
    answered_goes (Duty.Ask AskDuty.JoinAgain) other p = begun_goes r (Duty.Ask (AskDuty.Leave A) ∷ ds) ds (first (Duty.Ask AskDuty.JoinAgain) p) shape shape
    answered_goes (Duty.Step StepDuty.Events) other p = happens_goes k (next_event (first (Duty.Step StepDuty.Events) p)) r (first (Duty.Step StepDuty.Events) p)
    answered_goes (Duty.Step (StepDuty.Data s)) other p = data_goes s (first_unsent (end_at s p)) p
    answered_goes (Duty.Ask (AskDuty.PeerKey s)) other p = key_goes s (key_heard (end_at s p).treated.items) p
    answered_goes (Duty.Ask (AskDuty.Opened s)) other p = opened_goes s (keys_heard (end_at s p).treated.items) p
    answered_goes (Duty.Ask (AskDuty.JoinHeard s)) other p = joined_goes s (keys_begun r) (asked_at s p) p
    answered_goes (Duty.Step (StepDuty.Heard s index)) other p = item_goes s index (item_of index (end_at s p)) p
    answered_goes (Duty.Step (StepDuty.PlainAck s)) other p = plain_ack_goes s p
    answered_goes (Duty.Ask (AskDuty.AckHeard s)) other p = event_told s (Duty.Ask (AskDuty.AckHeard s)) FallEvent.AckHeard p
    answered_goes (Duty.Ask (AskDuty.FailHeard s)) other p =
        side_goes s (after_fail_heard r (end_at s p)) (first (Duty.Ask (AskDuty.FailHeard s)) p) _
        (fail_heard_so (λ f. EndCalms (end_at s p) f) r (end_at s p) (λ own owes h. h)) refl refl (fell_shape s (Duty.Ask (AskDuty.FailHeard s)) p)
    answered_goes (Duty.Ask (AskDuty.PlainHandshake s)) other p = event_told s (Duty.Ask (AskDuty.PlainHandshake s)) FallEvent.PlainHandshake p
    answered_goes (Duty.Ask (AskDuty.PlainData s)) other p = event_told s (Duty.Ask (AskDuty.PlainData s)) FallEvent.PlainData p
    answered_goes (Duty.Ask (AskDuty.Edge s)) other p = absurd other
    answered_goes (Duty.Ask (AskDuty.CheckFailed s)) other p = absurd other
    answered_goes (Duty.Ask (AskDuty.GoIdentity s)) other p = absurd other
    answered_goes (Duty.Step (StepDuty.Unmapped s)) other p = absurd other
    answered_goes (Duty.Ask (AskDuty.HeardFin s index)) other p = absurd other
    answered_goes (Duty.Ask (AskDuty.SubflowFin s)) other p = absurd other
    answered_goes (Duty.Ask (AskDuty.AckOut s)) other p = absurd other
    answered_goes (Duty.Ask (AskDuty.BreakAck s reason)) other p = absurd other
    answered_goes (Duty.Silent (SilentDuty.PassFin s)) other p = absurd other
    answered_goes d other p = record { calms = kept_by (side_of d) (writes d) (first d p) _ refl refl (writes_no_more k d r (first d p)); shape = shape }

  -- ---- the duties by which a book is told, or asked

  -- the end of a side becomes this, and these are to be done
  told_shielded : (s : Side) (e : PathEnd) (es : List Duty) (p : PathState C) → is_sheltered es ≡ true → (e.treated.asked ≡ true → guarded s es ≡ true)
      → ((t : Side) → same_side t s ≡ false → (end_at t p).treated.asked ≡ true → guarded t es ≡ true) → Shielded (goes_on s e es p)
  told_shielded A e es p shape own other = record { shape = shape; asked = at }
    where
      at : (t : Side) → (end_at t (goes_on A e es p)).treated.asked ≡ true → guarded t es ≡ true
      at = elim [ A ↦ λ is. own is | B ↦ λ is. other B refl is ]
  told_shielded B e es p shape own other = record { shape = shape; asked = at }
    where
      at : (t : Side) → (end_at t (goes_on B e es p)).treated.asked ≡ true → guarded t es ≡ true
      at = elim [ A ↦ λ is. other A refl is | B ↦ λ is. own is ]

  -- the other side told nothing
  abbrev OthersCalm : Side → PathState C → Type 0
  OthersCalm s p = (t : Side) → same_side t s ≡ false → (end_at t p).treated.asked ≡ true → ⊥

  refused_shielded : (s : Side) (p : PathState C) → OthersCalm s p → Shielded (refused s p)
  refused_shielded s p calm = told_shielded s (having_asked (end_at s p)) (breaks s 1) p refl (λ is. breaks_guarded s 1) (λ t is asked. absurd (calm t is asked))

  asked_shielded : (s : Side) (r : Reply) (es : List Duty) (p : PathState C) → is_sheltered es ≡ true → OthersCalm s p → Shielded (answered_ack_out s r es p)
  asked_shielded s r es p shape calm = told_shielded s (after_ack_out r (end_at s p)) es p shape (λ is. absurd (false≢true is)) (λ t is asked. absurd (calm t is asked))

  -- the edge: the duty stays where the bytes were placed
  piece_shielded : (s : Side) (piece : Option Piece) (taken : Bool) (ds : List Duty) (p : PathState C) → is_sheltered (Duty.Ask (AskDuty.Edge s) ∷ ds) ≡ true → OthersCalm s p
      → Shielded (answered_piece s piece taken (with_agenda (Duty.Ask (AskDuty.Edge s) ∷ ds) p))
  piece_shielded s None taken ds p shape calm = refused_shielded s (with_agenda (Duty.Ask (AskDuty.Edge s) ∷ ds) p) calm
  piece_shielded s (Some piece) false ds p shape calm = refused_shielded s (with_agenda (Duty.Ask (AskDuty.Edge s) ∷ ds) p) calm
  piece_shielded s (Some piece) true ds p shape calm =
      told_shielded s (having_asked (after_piece piece (end_at s p))) (Duty.Ask (AskDuty.Edge s) ∷ ds) (with_agenda (Duty.Ask (AskDuty.Edge s) ∷ ds) p) shape
      (λ is. edge_guarded s ds (and_parts (guarded s ds) (is_sheltered ds) shape).0) (λ t is asked. absurd (calm t is asked))

  fin_shielded : (s : Side) (index : ℕ) (set : Bool) (ds : List Duty) (p : PathState C) → is_sheltered (Duty.Ask (AskDuty.HeardFin s index) ∷ ds) ≡ true → OthersCalm s p
      → Shielded (answered_fin_heard s set (with_agenda (Duty.Ask (AskDuty.HeardFin s index) ∷ ds) p))
  fin_shielded s index false ds p shape calm = refused_shielded s (with_agenda (Duty.Ask (AskDuty.HeardFin s index) ∷ ds) p) calm
  fin_shielded s index true ds p shape calm =
      let parts = and_parts (guarded s ds) (is_sheltered ds) shape in
      told_shielded s (having_asked (with_peer_data_fin (end_at s p))) ds (with_agenda (Duty.Ask (AskDuty.HeardFin s index) ∷ ds) p) parts.1 (λ is. parts.0) (λ t is asked. absurd (calm t is asked))

  plain_fin_shielded : (s : Side) (set : Bool) (ds : List Duty) (p : PathState C) → is_sheltered (Duty.Ask (AskDuty.SubflowFin s) ∷ ds) ≡ true → OthersCalm s p
      → Shielded (answered_plain_fin s set (with_agenda (Duty.Ask (AskDuty.SubflowFin s) ∷ ds) p))
  plain_fin_shielded s false ds p shape calm = refused_shielded s (with_agenda (Duty.Ask (AskDuty.SubflowFin s) ∷ ds) p) calm
  plain_fin_shielded s true ds p shape calm =
      let parts = and_parts (guarded s ds) (is_sheltered ds) shape in
      told_shielded s (having_asked (with_peer_data_fin (with_fin_told (end_at s p)))) ds (with_agenda (Duty.Ask (AskDuty.SubflowFin s) ∷ ds) p) parts.1 (λ is. parts.0) (λ t is asked. absurd (calm t is asked))

  -- what follows a verdict, where something was told before
  verdict_guarded : (s : Side) (d : Duty) (r : Reply) (ds : List Duty) (p : PathState C) → (end_at s p).treated.asked ≡ true → guarded s ds ≡ true → guarded s (fell_duties s r (with_agenda (d ∷ ds) p)) ≡ true
  verdict_guarded s d r ds p asked h =
      told_cases (λ es. guarded s es ≡ true) s (with_agenda (d ∷ ds) p) r (λ falls. identity_guarded s ds h)
      (λ reason. subst (λ b. guarded s (breaks_by b s reason) ≡ true) (sym asked) (breaks_guarded s reason)) h

  -- the other end is the same
  still_asked : (s t : Side) (e : PathEnd) (ds : List Duty) (p : PathState C) → EndCalms (end_at s p) e → (end_at t (goes_on s e ds p)).treated.asked ≡ true → (end_at t p).treated.asked ≡ true
  still_asked A A e ds p calm is = calm is
  still_asked A B e ds p calm is = is
  still_asked B A e ds p calm is = is
  still_asked B B e ds p calm is = calm is

  broken_shielded : (k : Codec C) (s : Side) (reason : ℕ) (r : Reply) (p : PathState C) → OthersCalm s p → Shielded (answered_break k s reason r p)
  broken_shielded k s reason r p calm = elim (end_at s p).treated.asked as (λ b. Shielded (if b then answered_ack_out s r (resets s reason) p else reset_on k s (Some reason) (leaves s) p))
      [ true ↦ asked_shielded s r (resets s reason) p refl calm | false ↦ reset s calm ]
    where
      reset : (s : Side) → OthersCalm s p → Shielded (reset_on k s (Some reason) (leaves s) p)
      reset A calm = record { shape = refl; asked = at }
        where
          at : (t : Side) → (end_at t (reset_on k A (Some reason) (leaves A) p)).treated.asked ≡ true → guarded t (leaves A) ≡ true
          at = elim [ A ↦ λ is. absurd (false≢true is) | B ↦ λ is. absurd (calm B refl is) ]
      reset B calm = record { shape = refl; asked = at }
        where
          at : (t : Side) → (end_at t (reset_on k B (Some reason) (leaves B) p)).treated.asked ≡ true → guarded t (leaves B) ≡ true
          at = elim [ A ↦ λ is. absurd (calm A refl is) | B ↦ λ is. absurd (false≢true is) ]

  -- ---- each reply

  module _ (k : Codec C) (r : Reply) (ds : List Duty) (p : PathState C) where
    -- an end that is no matter of this duty told nothing
    calm_by : (d : Duty) → Shielded (with_agenda (d ∷ ds) p) → (s : Side) → is_shield s d ≡ false → (end_at s p).treated.asked ≡ true → ⊥
    calm_by d h s none asked = unguarded (is_asking s d) (is_telling s d) (guarded s ds) none (h.asked s asked)

    other_shielded : (d : Duty) → IsOther d → is_shield A d ≡ false → is_shield B d ≡ false → Shielded (with_agenda (d ∷ ds) p) → Shielded (answered k d r (with_agenda (d ∷ ds) p))
    other_shielded d other none_a none_b h = record { shape = g.shape; asked = at }
      where
        g : Goes (with_agenda (d ∷ ds) p) (answered k d r (with_agenda (d ∷ ds) p))
        g = answered_goes k r ds (and_parts (needs d ds) (is_sheltered ds) h.shape).1 d other p

        at : (s : Side) → (end_at s (answered k d r (with_agenda (d ∷ ds) p))).treated.asked ≡ true → guarded s (answered k d r (with_agenda (d ∷ ds) p)).agenda ≡ true
        at A is = absurd (calm_by d h A none_a (g.calms.a is))
        at B is = absurd (calm_by d h B none_b (g.calms.b is))

    pub answered_shielded : (d : Duty) → Shielded (with_agenda (d ∷ ds) p) → Shielded (answered k d r (with_agenda (d ∷ ds) p))
    answered_shielded (Duty.Send (SendDuty.Update s)) h = other_shielded (Duty.Send (SendDuty.Update s)) tt refl refl h
    answered_shielded (Duty.Ask (AskDuty.GoIdentity s)) h = record { shape = h.shape; asked = at }
      where
        at : (t : Side) → (end_at t (answered_identity s (with_agenda (Duty.Ask (AskDuty.GoIdentity s) ∷ ds) p))).treated.asked ≡ true → guarded t ds ≡ true
        at t is = passes t s ds (h.asked t (still_asked s t (in_identity (end_at s p)) ds p (λ x. x) is))
    answered_shielded (Duty.Ask (AskDuty.CheckFailed s)) h =
        told_shielded s (after_check_failed p.profile.spelling.checksums r (end_at s p)) (fell_duties s r m) m (fell_shape k r ds h.shape s d p)
        (λ is. let asked = check_failed_so (λ f. EndCalms (end_at s p) f) p.profile.spelling.checksums r (end_at s p) (λ told broken recv forgets x. x) is in
        verdict_guarded s d r ds p asked (passes s s ds (h.asked s asked)))
        (λ t is asked. absurd (calm_by d h t (neither t s is) asked))
      where
        d : Duty
        d = Duty.Ask (AskDuty.CheckFailed s)

        m : PathState C
        m = with_agenda (d ∷ ds) p
    answered_shielded (Duty.Ask (AskDuty.Edge s)) h = piece_shielded s (piece_of s p) (is_placed r) ds p h.shape (λ t is asked. calm_by (Duty.Ask (AskDuty.Edge s)) h t (neither t s is) asked)
    answered_shielded (Duty.Step (StepDuty.Unmapped s)) h = broken_shielded k s 6 r (with_agenda (Duty.Step (StepDuty.Unmapped s) ∷ ds) p) (λ t is asked. calm_by (Duty.Step (StepDuty.Unmapped s)) h t (neither t s is) asked)
    answered_shielded (Duty.Ask (AskDuty.HeardFin s index)) h = fin_shielded s index (is_fin_set r) ds p h.shape (λ t is asked. calm_by (Duty.Ask (AskDuty.HeardFin s index)) h t (neither t s is) asked)
    answered_shielded (Duty.Ask (AskDuty.SubflowFin s)) h = plain_fin_shielded s (is_fin_set r) ds p h.shape (λ t is asked. calm_by (Duty.Ask (AskDuty.SubflowFin s)) h t (neither t s is) asked)
    answered_shielded (Duty.Ask (AskDuty.AckOut s)) h = asked_shielded s r ds (with_agenda (Duty.Ask (AskDuty.AckOut s) ∷ ds) p) h.shape (λ t is asked. calm_by (Duty.Ask (AskDuty.AckOut s)) h t (neither_asks t s is) asked)
    answered_shielded (Duty.Ask (AskDuty.BreakAck s reason)) h = asked_shielded s r (resets s reason) (with_agenda (Duty.Ask (AskDuty.BreakAck s reason) ∷ ds) p) refl (λ t is asked. calm_by (Duty.Ask (AskDuty.BreakAck s reason)) h t (neither_asks t s is) asked)
    answered_shielded (Duty.Silent (SilentDuty.PassFin s)) h = record { shape = h.shape; asked = at }
      where
        at : (t : Side) → (end_at t p).treated.asked ≡ true → guarded t ds ≡ true
        at t asked = passes t s ds (h.asked t asked)
    answered_shielded d h = other_shielded d tt refl refl h

  pub takes_shielded : (k : Codec C) (r : Reply) (p : PathState C) → Shielded p → Shielded (takes k r p)
  takes_shielded k r p h = by p.agenda h.shape h.asked
    where
      by : (ds : List Duty) → is_sheltered ds ≡ true → ((s : Side) → (end_at s p).treated.asked ≡ true → guarded s ds ≡ true) → Shielded (takes k r (with_agenda ds p))
      by [] shape asked = settled_shielded [] (with_agenda [] p) refl (λ s is. asked s is)
      by (d ∷ ds) shape asked =
          let q : PathState C = answered k d r (with_agenda (d ∷ ds) p) in
          let x = answered_shielded k r ds p d (record { shape = shape; asked = λ s is. asked s is }) in
          settled_shielded q.agenda q x.shape x.asked

  -- a turn that is over told nothing that wasn't asked about
  over_calm : (p : PathState C) → is_nil p.agenda ≡ true → Shielded p → (s : Side) → (end_at s p).treated.asked ≡ true → ⊥
  over_calm p over h s asked = (elim p.agenda as (λ ds. is_nil ds ≡ true → guarded s ds ≡ true → ⊥)
      [ [] ↦ λ over guard. false≢true guard | d ∷ ds ↦ λ over guard. false≢true over ]) over (h.asked s asked)

  pub next_shielded : (p : PathState C) → is_nil p.agenda ≡ true → Shielded p → Shielded (next_round p)
  next_shielded p over h =
      let q : PathState C = record p { clock = p.until; until = p.until + 100 } in
      settled_shielded start_of_turn (with_agenda start_of_turn q) refl (λ s is. absurd (over_calm p over h s is))

  pub first_shielded : (start : PathStart) (lines : List ScriptLine) → Shielded (first_turn {C = C} start lines)
  first_shielded start lines = settled_shielded start_of_turn (with_agenda start_of_turn (waiting_path start lines)) refl at
    where
      at : (s : Side) → (end_at s (with_agenda start_of_turn (waiting_path {C = C} start lines))).treated.asked ≡ true → guarded s start_of_turn ≡ true
      at = elim [ A ↦ λ is. absurd (false≢true is) | B ↦ λ is. absurd (false≢true is) ]

-- ---- the world

abbrev pub MemberShielded : {C : Type 0} → Actor C → Type 0
MemberShielded (App a) = Unit {0}
MemberShielded (Path p) = Shielded p

-- at every moment
pub always_shielded : (start : Start) (turns : List Turn) → Every (λ c. MemberShielded c.member) (world_run values turns (opened_world start)).crew
always_shielded start turns =
    run_lifted values (λ c. MemberShielded c.member) (λ books c x asks h. stepped_so books x c h) (λ stamp c over h. begun_so stamp c over h) turns (opened_world start)
    (opened_lifted (λ c. MemberShielded c.member) start tt tt (λ number plan there. first_shielded (path_begins start number plan) start.lines))
  where
    stepped_so : (books : StampedBooks) (x : Ask) (c : ActorCrew Carried) → MemberShielded c.member → MemberShielded (crew_after values x books c).member
    stepped_so books x c h = (elim c.member as (λ m. MemberShielded m → MemberShielded (member_takes values (answer_to books x) m))
        [ App a ↦ λ h. tt | Path p ↦ λ h. takes_shielded values (answer_to books x) p h ]) h

    begun_so : (stamp : ℕ) (c : ActorCrew Carried) → is_over c.member ≡ true → MemberShielded c.member → MemberShielded (begins stamp c).member
    begun_so stamp c over h = (elim c.member as (λ m. is_over m ≡ true → MemberShielded m → MemberShielded (member_next m))
        [ App a ↦ λ over h. tt | Path p ↦ λ over h. next_shielded p over h ]) over h
