-- The peer's DATA_FIN came, where an end takes a copy that says so.
use Rattle.std.proofs.Common.{◌≡◌, refl, sym, subst, ap, ◌∙◌, ◌⊎◌, inl, inr, ⊎_elim, ℕ, zero, suc, ◌+◌, ◌^◌, ◌<◌, ◌≤◌, arith, le_refl, nat_lt, Bool, true, false, true≢false, if◌then◌else◌, Option, Some, None, is_some, List, [], ◌∷◌, ◌++◌, length, map}
use Rattle.std.specs.List.{flat_map}
use Rattle.std.proofs.lemmas.Bool.{ltb-false, lt-ltb, le-leb}
use Rattle.std.proofs.lemmas.List.{length-append}
use Rattle.path_segments.specs.Heard.{HeardSegment}
use Rattle.path_segments.specs.Laws.{meant, meant_option}
use Rattle.sides.specs.declared.side.Side.{Side}
use Rattle.control_book.specs.declared.call.ControlReply.TheVariants as control_replies
use Rattle.fallback_state.specs.declared.fall.Event.TheVariants as events
use Rattle.fallback_state.specs.declared.fall.Mode.TheVariants as modes
use Rattle.fallback_state.specs.declared.fall.Verdict.TheVariants as verdicts
use Rattle.subflow_tcp.specs.declared.verdicts.Meaning.TheVariants as means
use Rattle.actor_desk.specs.declared.ask.Reply.{Reply}
use Rattle.actor_desk.specs.declared.ask.Reply.TheVariants as replies
use Rattle.actor_desk.specs.Words.{is_nil, pick}
use Rattle.path_agenda.specs.Agenda.{start_of_turn, heard_and, payload_came, copy_came, leaves, resets}
use Rattle.path_agenda.specs.declared.duty.Duty.{Duty}
use Rattle.path_agenda.specs.declared.duty.Duty.TheVariants as duties
use Rattle.path_agenda.specs.declared.duty.AskDuty.TheVariants as ask_duties
use Rattle.path_agenda.specs.declared.duty.SilentDuty.TheVariants as silent_duties
use Rattle.path_agenda.specs.declared.duty.StepDuty.TheVariants as step_duties
use Rattle.path_agenda.specs.declared.heard.Heard.{Heard}
use Rattle.path_agenda.specs.declared.heard.Heard.TheVariants as says
use Rattle.path_store.specs.Passing.{Piece}
use Rattle.path_core.specs.Arrival.{after_judged, template_of}
use Rattle.path_core.specs.Breaking.{answered_break, reset_on}
use Rattle.path_core.specs.Choices.{item_at}
use Rattle.path_core.specs.Codec.{Codec}
use Rattle.path_core.specs.DataFin.{data_fin_of, is_fin_set, answered_fin_heard, with_peer_data_fin}
use Rattle.path_core.specs.Deliver.{mapping_here, piece_of, is_placed, answered_piece, after_piece, having_asked, after_check, after_keep, after_pieces, forgotten_by, fins_and}
use Rattle.path_core.specs.DssIn.{counts, data_fin_items, with_learned, with_skipped, with_data_fin}
use Rattle.path_core.specs.Duties.{stands, passed, answered}
use Rattle.path_core.specs.End.{PathEnd, died}
use Rattle.path_core.specs.Fallback.{after_fell, breaks_by, fell_duties, with_plain_ack, after_check_failed}
use Rattle.path_core.specs.MpJoin.{is_joined}
use Rattle.path_core.specs.OptionsIn.{items_in, items_of, options_heard}
use Rattle.path_core.specs.Standing.{answered_ack_out}
use Rattle.path_core.specs.State.{PathState, end_at, with_agenda}
use Rattle.path_core.specs.Steps.{settled, takes, next_round}
use Rattle.path_core.specs.Treating.{item_of, item_passed, answered_item}
use Rattle.path_core.specs.declared.judged.Judged.{Judged}
use Rattle.path_core.specs.declared.judged.Judged.TheVariants as judged
use Rattle.path_store.specs.Receiving.{data_fin_reached}
use Rattle.world_laws.specs.declared.member.Member.TheVariants.{App, Path}
use Rattle.world_laws.specs.Actors.{Actor, member_takes, member_next, is_over}
use Rattle.world_laws.specs.StampedBooks.{answer_to}
use Rattle.world_laws.specs.Writes.{side_of}
use Rattle.world_laws.proofs.Falls.FailedChecks.{forgets_so, check_failed_so}
use Rattle.whole_paths.specs.AgendaSteps.{is_gone}
use Rattle.whole_paths.specs.Brought.{Brings, IsToReset, comes_before_keeping}
use Rattle.whole_paths.specs.Brought.{IsToReset as resetting}
use Rattle.whole_paths.specs.Closing.{comes_before_fins, TellsFin, IsToTell, EachDataFinIsSaid, IsFinHeard, FinGoesOn, HearsDataFins, PathsHearFins, EachDataFinCounts}
use Rattle.whole_paths.specs.Closing.{IsFinHeard as there}
use Rattle.whole_paths.specs.Closing.{FinGoesOn as stay}
use Rattle.whole_paths.specs.DataAcksHeard.{IsToHear}
use Rattle.whole_paths.proofs.Agendas.{own_end, gone_end}
use Rattle.whole_paths.proofs.Bringing.{coming_by, comes_so, first_so}
use Rattle.whole_paths.proofs.Duties.{passed_steps, answered_steps}
use Rattle.whole_paths.proofs.Hears.{Hears, hear_passes, hear_answers, copy_hears}
use Rattle.whole_paths.proofs.Hears.{Hears as hears}
use Rattle.whole_paths.proofs.Staying.{Rests, passed_rests, reset_stands}
use Rattle.whole_paths.proofs.Treating.{Leads, Before, before_answers, more_fins}
use Rattle.whole_paths.proofs.Treating.Leads.{as_they_are, one_more}
use Rattle.whole_paths.proofs.Treating.{Before as staged}
use Rattle.whole_paths.proofs.Turns.{turn_each}
use Rattle.whole_paths.proofs.Waiting.{gone_stays, path_far}

-- ---- a segment

pub each_data_fin_is_said : EachDataFinIsSaid
each_data_fin_is_said x e joined s next place checksum others is low fair mapped =
    let window = (meant x).window in
    ap (λ b. item_at 2 (flat_map (items_in joined s window) (if b then [] else map meant_option x.options))) mapped
    ∙ ap (λ os. item_at 2 (flat_map (items_in joined s window) (map meant_option os))) is
    ∙ ap (λ b. item_at 2 ((says.Dss ∷ ((if b then says.DataAck next window ∷ [] else []) ++ data_fin_items place)) ++ flat_map (items_in joined s window) (map meant_option others))) (lt-ltb next (2 ^ 62) low)
    ∙ ap (λ b. item_at 2 ((says.Dss ∷ (says.DataAck next window ∷ (if b then says.DataFin place ∷ [] else []))) ++ flat_map (items_in joined s window) (map meant_option others))) (le-leb place (2 ^ 62) fair)

-- ---- what is to be told

-- how many ends of the stream the copy told
abbrev count : PathEnd → ℕ
count e = length e.treated.fins

-- by this duty, behind which these are next
data Tells (s : Side) (d : Duty) (e f : PathEnd) (next : List Duty) : Type 0 where
  now : TellsFin s d → Tells s d e f next
  later : IsToTell s next → count e ≤ count f → Tells s d e f next
  resets_then : IsToReset s next → Tells s d e f next
  dies : is_gone f ≡ true → Tells s d e f next

keeping_fins : (d : Duty) → comes_before_keeping d ≡ true → comes_before_fins d ≡ true
keeping_fins (duties.Silent (silent_duties.Keep s)) before = refl
keeping_fins (duties.Ask (ask_duties.Edge s)) before = refl
keeping_fins (duties.Ask (ask_duties.CheckFailed s)) before = refl
keeping_fins (duties.Step (step_duties.Unmapped s)) before = refl
keeping_fins d before = before

lead_tells : (s : Side) (ds next : List Duty) → IsToTell s ds → Leads s ds next → IsToTell s next
lead_tells s ds next tell as_they_are = tell
lead_tells s ds next tell (one_more d own before heard) = inr (own, (keeping_fins d before, tell))

before_tells : (s : Side) (d : Duty) (ds next : List Duty) (e f : PathEnd) → IsToTell s ds → Before s ds e f next → Tells s d e f next
before_tells s d ds next e f tell (staged.on x leads) = later (lead_tells s ds next tell leads) x.fins
before_tells s d ds next e f tell (staged.resets_then is) = resets_then is
before_tells s d ds next e f tell (staged.dies gone) = dies gone

here_tells : (s : Side) (d : Duty) (e f a b : PathEnd) (next : List Duty) → Tells s d e f next → Tells s d e (pick s (pick s f a) (pick s b f)) next
here_tells s d e f a b next x = subst (λ g. Tells s d e g next) (sym (own_end s f a b)) x

-- ---- a copy that is taken

heard_tells : (s : Side) (from n : ℕ) (ds : List Duty) → IsToTell s ds → IsToTell s (heard_and s from n ds)
heard_tells s from zero ds tell = tell
heard_tells s from (suc n) ds tell = inr (refl, (refl, heard_tells s (from + 1) n ds tell))

payload_tells : (s : Side) → IsToTell s (payload_came s)
payload_tells s = inr (refl, (refl, inr (refl, (refl, inr (refl, (refl, inr (refl, (refl, inr (refl, (refl, inr (refl, (refl, inr (refl, (refl, inl refl))))))))))))))

copy_tells : (s : Side) (n : ℕ) → IsToTell s (copy_came s n)
copy_tells s n = inr (refl, (refl, inr (refl, (refl, heard_tells s 0 n (payload_came s) (payload_tells s)))))

-- ---- the ends that were told

item_count : (s : Side) (o : Option Heard) (e : PathEnd) → count e ≤ count (item_passed s o e)
item_count s None e = le_refl (count e)
item_count s (Some (says.Mapping fin)) e = elim (counts e) as (λ b. count e ≤ count (if b then with_learned e else with_skipped e)) [ true ↦ le_refl (count e) | false ↦ le_refl (count e) ]
item_count s (Some (says.DataFin place)) e = elim (counts e) as (λ b. count e ≤ count (if b then with_data_fin place e else e)) [ true ↦ more_fins (Some place) e.treated.fins | false ↦ le_refl (count e) ]
item_count s (Some _) e = le_refl (count e)

check_count : (checksums : Bool) (e : PathEnd) → count e ≤ count (forgotten_by checksums (mapping_here e) e)
check_count checksums e = forgets_so (λ f. count e ≤ count f) checksums (mapping_here e) e (λ recv forgotten. le_refl (count e))

here_count : (s : Side) (e f a b : PathEnd) → count e ≤ count f → count e ≤ count (pick s (pick s f a) (pick s b f))
here_count s e f a b more = subst (λ g. count e ≤ count g) (sym (own_end s f a b)) more

one_at_least : (place : ℕ) (fins : List ℕ) → 0 < length (fins_and (Some place) fins)
one_at_least place fins = (elim (nat_lt (length fins) 3) as (λ b. nat_lt (length fins) 3 ≡ b → 0 < length (if b then fins ++ place ∷ [] else fins)) [
  | true ↦ λ low. (let all = length-append fins (place ∷ []) in omega (arith, all))
  | false ↦ λ high. (let three = ltb-false (length fins) 3 high in omega (arith, three))
]) refl

first_there : (fins : List ℕ) → 0 < length fins → is_some (item_at 0 fins) ≡ true
first_there [] some = absurd (omega (arith, some))
first_there (place ∷ fins) some = refl

none_of : (o : Option ℕ) → is_some o ≡ false → o ≡ None
none_of None is = refl
none_of (Some key) is = absurd (true≢false is)

-- ---- an end behind which these duties stand

data Now (s : Side) (ds : List Duty) (e : PathEnd) : Type 0 where
  at_end : e.sending.close.peer_came ≡ true → Now s ds e
  to_hear : (place : ℕ) → IsToHear s (says.DataFin place) e.treated.items ds → IsToTell s ds → Now s ds e
  to_tell : 0 < count e → IsToTell s ds → Now s ds e
  at_dead : is_gone e ≡ true → Now s ds e
  resets_next : IsToReset s ds → Now s ds e
  fallen : e.modes.identity ≡ true → Now s ds e
  keyless : e.modes.peer_key ≡ None → Now s ds e

-- with more that was told
told_now : (s : Side) (d : Duty) (e f : PathEnd) (next : List Duty) → 0 < count e → (TellsFin s d → Now s next f) → Tells s d e f next → Now s next f
told_now s d e f next some first (now is) = first is
told_now s d e f next some first (later tell more) = to_tell (omega (arith, some, more)) tell
told_now s d e f next some first (resets_then is) = resets_next is
told_now s d e f next some first (dies is) = at_dead is

-- what is to be told first treats nothing that a copy says
never_hears : (s : Side) (item : Heard) (items : List Heard) (d : Duty) (ds : List Duty) → TellsFin s d → IsToHear s item items (d ∷ ds) → ⊥
never_hears s item items (duties.Ask (ask_duties.HeardFin t zero)) ds first hear = true≢false (sym hear.1.0)
never_hears s item items (duties.Ask (ask_duties.HeardFin t (suc n))) ds first hear = first
never_hears s item items _ ds first hear = first

-- and stays to be told
rest_tells : (s : Side) (item : Heard) (items : List Heard) (d : Duty) (ds : List Duty) → IsToHear s item items (d ∷ ds) → IsToTell s (d ∷ ds) → IsToTell s ds
rest_tells s item items d ds hear tell = ⊎_elim (λ first. absurd (never_hears s item items d ds first hear)) (λ rest. rest.1.1) tell

-- a DATA_FIN is heard, where it counts
fin_heard : (s : Side) (ds : List Duty) (index place : ℕ) (e : PathEnd) → item_at index e.treated.items ≡ Some (says.DataFin place) → IsToTell s ds → Now s ds (item_passed s (item_of index e) e)
fin_heard s ds index place e at tell = (elim e.modes.identity as (λ b. e.modes.identity ≡ b → Now s ds (item_passed s (if b then None else item_at index e.treated.items) e)) [
  | true ↦ λ plain. fallen plain
  | false ↦ λ maps. subst (λ o. Now s ds (item_passed s o e)) (sym at) ((elim (counts e) as (λ b. counts e ≡ b → Now s ds (if b then with_data_fin place e else e))
      [ true ↦ λ has. to_tell (one_at_least place e.treated.fins) tell | false ↦ λ none. keyless (none_of e.modes.peer_key none) ]) refl)
]) refl

module _ {C : Type 0} where
  -- ---- a duty that is passed

  passed_count : (d : Duty) (p : PathState C) → comes_before_fins d ≡ true → count (end_at (side_of d) p) ≤ count (end_at (side_of d) (passed d p))
  passed_count (duties.Ask (ask_duties.CheckFailed s)) p before =
      let e = end_at s p in here_count s e (after_check p.profile e) p.a p.b (check_count p.profile.spelling.checksums e)
  passed_count (duties.Step (step_duties.Heard s index)) p before = let e = end_at s p in here_count s e (item_passed s (item_of index e) e) p.a p.b (item_count s (item_of index e) e)
  passed_count (duties.Step (step_duties.PlainAck s)) p before = let e = end_at s p in here_count s e (with_plain_ack e) p.a p.b (le_refl (count e))
  passed_count (duties.Step (step_duties.Unmapped s)) p before =
      let e = end_at s p in here_count s e (after_pieces e) p.a p.b (more_fins (data_fin_reached e.receiving.mapped_data_fin e.tcp.recv.edge) e.treated.fins)
  passed_count (duties.Silent (silent_duties.Timer s)) p before = absurd (true≢false (sym before))
  passed_count (duties.Silent (silent_duties.Keep s)) p before = let e = end_at s p in here_count s e (after_keep s e) p.a p.b (le_refl (count e))
  passed_count (duties.Silent (silent_duties.PassFin s)) p before = absurd (true≢false (sym before))
  passed_count d p before = le_refl (count (end_at (side_of d) p))

  tell_passes : (s : Side) (d : Duty) (ds : List Duty) (p : PathState C) → IsToTell s (d ∷ ds) → Tells s d (end_at s p) (end_at s (passed d p)) ds
  tell_passes s d ds p tell = ⊎_elim
      (λ first. now first)
      (λ rest. later rest.1.1 (subst (λ u. count (end_at u p) ≤ count (end_at u (passed d p))) rest.0 (passed_count d p rest.1.0)))
      tell

  -- the duty that tells the first end stands where the copy told one
  first_stands : (s : Side) (d : Duty) (p : PathState C) → TellsFin s d → 0 < count (end_at s p) → stands d p ≡ true
  first_stands s (duties.Ask (ask_duties.HeardFin t zero)) p first some = subst (λ u. is_some (data_fin_of 0 (end_at u p)) ≡ true) (sym first) (first_there (end_at s p).treated.fins some)
  first_stands s (duties.Ask (ask_duties.HeardFin t (suc n))) p first some = absurd first
  first_stands s _ p first some = absurd first

  pass_now : (s : Side) (d : Duty) (ds : List Duty) (p : PathState C) → stands d p ≡ false → Now s (d ∷ ds) (end_at s p) → Now s ds (end_at s (passed d p))
  pass_now s d ds p quiet h = by h
    where
      q : PathState C
      q = passed d p

      x : Rests s (end_at s p) (end_at s q)
      x = passed_rests s d p

      item : (index place : ℕ) → item_at index (end_at s p).treated.items ≡ Some (says.DataFin place) → IsToTell s ds → Now s ds (end_at s (passed (duties.Step (step_duties.Heard s index)) p))
      item index place at tell =
          let e = end_at s p in subst (λ f. Now s ds f) (sym (own_end s (item_passed s (item_of index e) e) p.a p.b)) (fin_heard s ds index place e at tell)

      heard : (place : ℕ) → IsToTell s ds → Hears s (says.DataFin place) (end_at s p) d (end_at s q) ds → Now s ds (end_at s q)
      heard place tell (hears.now index is at) = subst (λ d. Now s ds (end_at s (passed d p))) (sym is) (item index place at tell)
      heard place tell (hears.later hear) = to_hear place hear tell
      heard place tell (hears.resets_then is) = resets_next is
      heard place tell (hears.dies is) = at_dead is

      by : Now s (d ∷ ds) (end_at s p) → Now s ds (end_at s q)
      by (at_end is) = at_end ((path_far p q (passed_steps d p) s).stream.fin_came is)
      by (to_hear place hear tell) = heard place (rest_tells s (says.DataFin place) (end_at s p).treated.items d ds hear tell) (hear_passes s (says.DataFin place) d ds p hear)
      by (to_tell some tell) = told_now s d (end_at s p) (end_at s q) ds some (λ first. absurd (true≢false (sym (first_stands s d p first some) ∙ quiet))) (tell_passes s d ds p tell)
      by (at_dead is) = at_dead (gone_stays (end_at s p) (end_at s q) (path_far p q (passed_steps d p) s) is)
      by (resets_next is) = absurd (true≢false (sym (reset_stands s (d ∷ ds) p is) ∙ quiet))
      by (fallen is) = fallen (x.plain ∙ is)
      by (keyless is) = keyless (x.key ∙ is)

  now_so : (s : Side) (q : PathState C) → Now s q.agenda (end_at s q) → FinGoesOn s q
  now_so s q (at_end is) = stay.on (there.came is)
  now_so s q (to_hear place hear tell) = stay.on (there.told place hear tell)
  now_so s q (to_tell some tell) = stay.on (there.heard some tell)
  now_so s q (at_dead is) = stay.gone is
  now_so s q (resets_next is) = stay.reset is
  now_so s q (fallen is) = stay.plain is
  now_so s q (keyless is) = stay.unkeyed is

  settled_so : (s : Side) (ds : List Duty) (p : PathState C) → Now s ds (end_at s p) → FinGoesOn s (settled ds p)
  settled_so s [] p h = now_so s (with_agenda [] p) h
  settled_so s (d ∷ ds) p h = by (stands d p) refl (λ quiet. settled_so s ds (passed d p) (pass_now s d ds p quiet h))
    where
      by : (b : Bool) → stands d p ≡ b → (stands d p ≡ false → FinGoesOn s (settled ds (passed d p))) → FinGoesOn s (if b then with_agenda (d ∷ ds) p else settled ds (passed d p))
      by true is rest = now_so s (with_agenda (d ∷ ds) p) h
      by false is rest = rest is

  -- ---- a duty that is answered

  -- behind a verdict
  fell_so : (s : Side) (d : Duty) (ds : List Duty) (r : Reply) (p : PathState C) → IsToTell s ds
      → let next : List Duty = fell_duties s r (with_agenda (d ∷ ds) p) in IsToTell s next ⊎ IsToReset s next
  fell_so s d ds (replies.Control (control_replies.Verdict (verdicts.Went modes.Identity))) p tell = inl (inr (refl, (refl, tell)))
  fell_so s d ds (replies.Control (control_replies.Verdict (verdicts.BreakPath reason))) p tell = inr (by (end_at s p).treated.asked)
    where
      by : (asked : Bool) → IsToReset s (breaks_by asked s reason)
      by true = resetting.broken reason refl
      by false = resetting.is_reset reason refl
  fell_so s d ds _ p tell = inl tell

  module _ (k : Codec C) (s : Side) (ds : List Duty) (r : Reply) (p : PathState C) where
    abbrev from : Duty → PathState C
    from d = with_agenda (d ∷ ds) p

    abbrev e : PathEnd
    e = end_at s p

    abbrev After : Duty → PathState C → Type 0
    After d q = Tells s d e (end_at s q) q.agenda

    pieces_tell : (o : Option Piece) (taken : Bool) → IsToTell s ds → let d : Duty = duties.Ask (ask_duties.Edge s) in After d (answered_piece s o taken (from d))
    pieces_tell (Some piece) true tell =
        let d : Duty = duties.Ask (ask_duties.Edge s) in here_tells s d e (having_asked (after_piece piece e)) p.a p.b (d ∷ ds) (later (inr (refl, (refl, tell))) (le_refl (count e)))
    pieces_tell (Some piece) false tell = resets_then (resetting.broken 1 refl)
    pieces_tell None taken tell = resets_then (resetting.broken 1 refl)

    check_tells : IsToTell s ds → let d : Duty = duties.Ask (ask_duties.CheckFailed s) in After d (answered k d r (from d))
    check_tells tell =
        here_tells s d e f p.a p.b next (⊎_elim (λ told. later told (check_failed_so (λ f. count e ≤ count f) p.profile.spelling.checksums r e (λ told broken recv forgotten. le_refl (count e)))) (λ is. resets_then is) (fell_so s d ds r p tell))
      where
        d : Duty
        d = duties.Ask (ask_duties.CheckFailed s)

        f : PathEnd
        f = after_check_failed p.profile.spelling.checksums r e

        next : List Duty
        next = fell_duties s r (from d)

    breaks_tell : let d : Duty = duties.Step (step_duties.Unmapped s) in After d (answered_break k s 6 r (from d))
    breaks_tell =
        let d : Duty = duties.Step (step_duties.Unmapped s) in
        elim e.treated.asked as (λ b. After d (if b then answered_ack_out s r (resets s 6) (from d) else reset_on k s (Some 6) (leaves s) (from d)))
        [ true ↦ resets_then (resetting.is_reset 6 refl) | false ↦ dies (gone_end s (died e) p.a p.b refl) ]

    -- the book takes the end, or the path is broken
    first_answers : (set : Bool) → let q : PathState C = answered_fin_heard s set (from (duties.Ask (ask_duties.HeardFin s 0))) in Now s q.agenda (end_at s q)
    first_answers true = at_end (ap (λ (f : PathEnd). f.sending.close.peer_came) (own_end s (having_asked (with_peer_data_fin e)) p.a p.b))
    first_answers false = resets_next (resetting.broken 1 refl)

    -- the DATA_FIN is heard, and the verdict comes
    fin_answers : (index place : ℕ) → item_at index e.treated.items ≡ Some (says.DataFin place) → IsToTell s ds
        → let q : PathState C = answered_item k s (item_of index e) r (from (duties.Step (step_duties.Heard s index))) in Now s q.agenda (end_at s q)
    fin_answers index place at tell = (elim e.modes.identity as
        (λ b. e.modes.identity ≡ b → let q : PathState C = answered_item k s (if b then None else item_at index e.treated.items) r (from d) in Now s q.agenda (end_at s q)) [
          | true ↦ λ plain. fallen plain
          | false ↦ λ maps. subst (λ o. let q : PathState C = answered_item k s o r (from d) in Now s q.agenda (end_at s q)) (sym at)
              (subst (λ g. Now s (fell_duties s r (from d)) g) (sym (own_end s f p.a p.b)) (⊎_elim (λ told. to_tell (one_at_least place e.treated.fins) told) (λ is. resets_next is) (fell_so s d ds r p tell)))
        ]) refl
      where
        d : Duty
        d = duties.Step (step_duties.Heard s index)

        f : PathEnd
        f = with_data_fin place (after_fell events.MappingHeard r e)

  own_tells : (k : Codec C) (d : Duty) (ds : List Duty) (r : Reply) (p : PathState C) → comes_before_fins d ≡ true → IsToTell (side_of d) ds
      → let q : PathState C = answered k d r (with_agenda (d ∷ ds) p) in Tells (side_of d) d (end_at (side_of d) p) (end_at (side_of d) q) q.agenda
  own_tells k (duties.Silent (silent_duties.Keep s)) ds r p before tell = later tell (le_refl (count (end_at s p)))
  own_tells k (duties.Ask (ask_duties.Edge s)) ds r p before tell = pieces_tell k s ds r p (piece_of s p) (is_placed r) tell
  own_tells k (duties.Ask (ask_duties.CheckFailed s)) ds r p before tell = check_tells k s ds r p tell
  own_tells k (duties.Step (step_duties.Unmapped s)) ds r p before tell = breaks_tell k s ds r p
  own_tells k d ds r p before tell =
      let q : PathState C = answered k d r (with_agenda (d ∷ ds) p) in before_tells (side_of d) d ds q.agenda (end_at (side_of d) p) (end_at (side_of d) q) tell (before_answers k d ds r p before)

  tell_answers : (k : Codec C) (s : Side) (d : Duty) (ds : List Duty) (r : Reply) (p : PathState C) → IsToTell s (d ∷ ds)
      → let q : PathState C = answered k d r (with_agenda (d ∷ ds) p) in Tells s d (end_at s p) (end_at s q) q.agenda
  tell_answers k s d ds r p tell =
      let q : PathState C = answered k d r (with_agenda (d ∷ ds) p) in
      ⊎_elim
      (λ first. now first)
      (λ rest. subst (λ u. IsToTell u ds → Tells u d (end_at u p) (end_at u q) q.agenda) rest.0 (λ tell. own_tells k d ds r p rest.1.0 tell) rest.1.1)
      tell

  first_now : (k : Codec C) (s : Side) (d : Duty) (ds : List Duty) (r : Reply) (p : PathState C) → TellsFin s d → let q : PathState C = answered k d r (with_agenda (d ∷ ds) p) in Now s q.agenda (end_at s q)
  first_now k s (duties.Ask (ask_duties.HeardFin t zero)) ds r p first =
      subst (λ u. let q : PathState C = answered k (duties.Ask (ask_duties.HeardFin u 0)) r (with_agenda (duties.Ask (ask_duties.HeardFin u 0) ∷ ds) p) in Now s q.agenda (end_at s q)) (sym first)
      (first_answers k s ds r p (is_fin_set r))
  first_now k s (duties.Ask (ask_duties.HeardFin t (suc n))) ds r p first = absurd first
  first_now k s _ ds r p first = absurd first

  there_now : (k : Codec C) (s : Side) (d : Duty) (ds : List Duty) (r : Reply) (p : PathState C) → let x : PathState C = with_agenda (d ∷ ds) p in let q : PathState C = answered k d r x in
      IsFinHeard s x → Now s q.agenda (end_at s q)
  there_now k s d ds r p h = by h
    where
      x : PathState C
      x = with_agenda (d ∷ ds) p

      q : PathState C
      q = answered k d r x

      more : (place : ℕ) → IsToHear s (says.DataFin place) (end_at s q).treated.items q.agenda → (TellsFin s d → ⊥) → Tells s d (end_at s p) (end_at s q) q.agenda → Now s q.agenda (end_at s q)
      more place hear never (now first) = absurd (never first)
      more place hear never (later tell up) = to_hear place hear tell
      more place hear never (resets_then is) = resets_next is
      more place hear never (dies is) = at_dead is

      heard : (place : ℕ) → IsToHear s (says.DataFin place) (end_at s p).treated.items (d ∷ ds) → IsToTell s (d ∷ ds) → Hears s (says.DataFin place) (end_at s p) d (end_at s q) q.agenda → Now s q.agenda (end_at s q)
      heard place hear tell (hears.now index is at) =
          subst (λ d. let q : PathState C = answered k d r (with_agenda (d ∷ ds) p) in Now s q.agenda (end_at s q)) (sym is)
          (fin_answers k s ds r p index place at (rest_tells s (says.DataFin place) (end_at s p).treated.items d ds hear tell))
      heard place hear tell (hears.later rest) = more place rest (λ first. never_hears s (says.DataFin place) (end_at s p).treated.items d ds first hear) (tell_answers k s d ds r p tell)
      heard place hear tell (hears.resets_then is) = resets_next is
      heard place hear tell (hears.dies is) = at_dead is

      by : IsFinHeard s x → Now s q.agenda (end_at s q)
      by (there.came is) = at_end ((path_far x q (answered_steps k d r x) s).stream.fin_came is)
      by (there.told place hear tell) = heard place hear tell (hear_answers k s (says.DataFin place) d ds r p hear)
      by (there.heard some tell) = told_now s d (end_at s p) (end_at s q) q.agenda some (λ first. first_now k s d ds r p first) (tell_answers k s d ds r p tell)

  -- ---- a copy comes

  module _ (k : Codec C) (ds : List Duty) (r : Reply) (p : PathState C) (b : Brings k (with_agenda (duties.Step step_duties.Events ∷ ds) p)) (index place : ℕ) where
    abbrev to : Side
    to = b.copy.due.to

    abbrev own : PathEnd
    own = end_at to p

    abbrev said : HeardSegment
    said = options_heard own b.copy.segment

    abbrev items : List Heard
    items = items_of (is_joined p.profile) to said

    tells_now : item_at index items ≡ Some (says.DataFin place)
        → let q = answered k (duties.Step step_duties.Events) r (with_agenda (duties.Step step_duties.Events ∷ ds) p) in Now to q.agenda (end_at to q)
    tells_now at = comes_so (λ q. Now to q.agenda (end_at to q)) k ds r p b.copy
        (subst (λ (verdict : Judged). Now to (template_of (is_joined p.profile) to items verdict)
        (pick to (pick to (after_judged p.profile to tick said verdict own) p.a) (pick to p.b (after_judged p.profile to tick said verdict own)))) (sym b.taken)
        (subst (λ f. Now to (copy_came to (length items)) f) (sym (own_end to taken p.a p.b))
        (to_hear place (copy_hears to (says.DataFin place) items index at) (copy_tells to (length items)))))
      where
        tick : ℕ
        tick = (coming_by ds p b.copy).clock

        taken : PathEnd
        taken = after_judged p.profile to tick said (judged.As (means.Taken b.position b.acknowledged)) own

  -- ---- a turn

  module _ (k : Codec C) (ds : List Duty) (r : Reply) (p : PathState C) where
    abbrev behind : Duty → PathState C
    behind d = with_agenda (d ∷ ds) p

    abbrev Counted : (d : Duty) → Brings k (behind d) → Type 0
    Counted d b = (index place : ℕ) → item_at index (items_of (is_joined p.profile) b.copy.due.to (options_heard (end_at b.copy.due.to p) b.copy.segment)) ≡ Some (says.DataFin place)
        → (takes k r (behind d) ≡ behind d) ⊎ FinGoesOn b.copy.due.to (takes k r (behind d))

    tells : (b : Brings k (behind (duties.Step step_duties.Events))) → Counted (duties.Step step_duties.Events) b
    tells b index place at =
        let d : Duty = duties.Step step_duties.Events in let q : PathState C = answered k d r (behind d) in inr (settled_so b.copy.due.to q.agenda q (tells_now k ds r p b index place at))

    answer_hears : (d : Duty) → HearsDataFins k (behind d) (takes k r (behind d))
    answer_hears d = record {
      tells = λ b. subst (λ d. (b : Brings k (behind d)) → Counted d b) (sym (first_so d (duties.Step step_duties.Events) ds b.copy.others b.copy.first)) tells b;
      stays = λ s h. (let q : PathState C = answered k d r (behind d) in settled_so s q.agenda q (there_now k s d ds r p h));
    }

  path_stays : (k : Codec C) (p : PathState C) → HearsDataFins k p p
  path_stays k p = record { tells = λ b index place at. inl refl; stays = λ s h. stay.on h }

  takes_hears : (k : Codec C) (r : Reply) (p : PathState C) → HearsDataFins k p (takes k r p)
  takes_hears k r p = by p.agenda
    where
      by : (ds : List Duty) → let x : PathState C = with_agenda ds p in HearsDataFins k x (takes k r x)
      by [] = path_stays k (with_agenda [] p)
      by (d ∷ ds) = answer_hears k ds r p d

  next_hears : (k : Codec C) (p : PathState C) → is_nil p.agenda ≡ true → HearsDataFins k p (next_round p)
  next_hears k p over = record {
    tells = λ b index place at. absurd (true≢false (sym over ∙ ap is_nil b.copy.first));
    stays = λ s h. settled_so s start_of_turn (with_agenda start_of_turn (record p { clock = p.until; until = p.until + 100 })) (by s h);
  }
    where
      idle : (s : Side) (ds : List Duty) → is_nil ds ≡ true → IsToTell s ds → ⊥
      idle s [] over tell = tell
      idle s (d ∷ ds) over tell = true≢false (sym over)

      by : (s : Side) → IsFinHeard s p → Now s start_of_turn (end_at s p)
      by s (there.came is) = at_end is
      by s (there.told place hear tell) = absurd (idle s p.agenda over tell)
      by s (there.heard some tell) = absurd (idle s p.agenda over tell)

  -- ---- the world

  member_hears : (k : Codec C) (r : Reply) (m : Actor C) → PathsHearFins k m (member_takes k r m)
  member_hears k r (App a) = tt
  member_hears k r (Path p) = takes_hears k r p

  member_begins : (k : Codec C) (m : Actor C) → is_over m ≡ true → PathsHearFins k m (member_next m)
  member_begins k (App a) over = tt
  member_begins k (Path p) over = next_hears k p over

  member_stays : (k : Codec C) (m : Actor C) → PathsHearFins k m m
  member_stays k (App a) = tt
  member_stays k (Path p) = path_stays k p

  pub each_data_fin_counts : (k : Codec C) → EachDataFinCounts k
  each_data_fin_counts k = λ w turn. turn_each k (λ c d. PathsHearFins k c.member d.member) (λ c. member_stays k c.member) (λ ask books c. member_hears k (answer_to books ask) c.member)
      (λ stamp c over. member_begins k c.member over) turn w
