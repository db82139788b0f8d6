-- A segment is read: the end is told how far the peer is, the application writes, what is under way is acknowledged, the end sends what it was to send
-- next, that comes, and is read.
use Rattle.std.proofs.Common.{◌≡◌, refl, sym, subst, ap, ◌∙◌, ⊎_elim, ℕ, ◌+◌, ◌-◌, ◌<◌, ◌≤◌, min, arith, true, Some, List, [], ◌∷◌, ◌++◌, length, length-append}
use Rattle.std.specs.List.{slice_get}
use Rattle.std.proofs.lemmas.List.{append-nil, append_assoc}
use Rattle.sides.specs.declared.side.Side.{Side}
use Rattle.sides.specs.Side.{peer}
use Rattle.reassembly_book.specs.State.{received}
use Rattle.stream_lanes.specs.Words.{Every, Has}
use Rattle.subflow_send.specs.Records.{Record, end_of, occupied}
use Rattle.subflow_send.specs.declared.record.RecordKind.{RecordKind}
use Rattle.subflow_send.specs.declared.record.RecordKind.TheVariants.{Syn, Data, Fin}
use Rattle.subflow_tcp.specs.States.{may_finish}
use Rattle.actor_desk.specs.Words.{pick}
use Rattle.path_core.specs.Profile.{Profile}
use Rattle.path_core.specs.State.{PathState, end_at}
use Rattle.path_core.specs.Values.{Carried, values}
use Rattle.world_laws.specs.Members.{HoldsOfKind}
use Rattle.world_laws.specs.Openings.{PathPlan, Start, path_begins}
use Rattle.world_laws.specs.Promises.{arrived_at, written_by}
use Rattle.world_laws.specs.RoundDone.{reached}
use Rattle.world_laws.specs.RoundNumbers.{taken_len}
use Rattle.world_laws.specs.Worlds.{Turn, WorldState, all_over}
use Rattle.whole_paths.specs.Delivery.{IsAllThere}
use Rattle.whole_paths.specs.Finish.{IsPathAt}
use Rattle.whole_paths.specs.FullGrants.{HoldsAFullPiece}
use Rattle.whole_paths.specs.OnePathScripts.{BeginsWithOnePath}
use Rattle.whole_paths.specs.OpenCourses.{IsOpenAfter}
use Rattle.whole_paths.specs.Pushed.{IsPushed}
use Rattle.whole_paths.specs.SegmentRounds.{ASegmentIsRead, IsHeard, IsRound, IsWellAfter, Rounds, StaysOpen, read_after, written_after}
use Rattle.whole_paths.specs.SentInOrder.{sent_up_to}
use Rattle.whole_paths.specs.Straying.{IsOpen}
use Rattle.whole_paths.proofs.FlightsGo.{begun_goes, next_waits, sent_within, una_sent}
use Rattle.whole_paths.proofs.FullGrants.{each_grant_is_full}
use Rattle.whole_paths.proofs.OpenCourses.{IsFirstPath, each_first}
use Rattle.whole_paths.proofs.PositionCounts.{only_profile}
use Rattle.whole_paths.proofs.Pushed.{Known, known, what_has_room_is_sent}
use Rattle.whole_paths.proofs.Reached.{EndsAreReached, each_is_reached}
use Rattle.whole_paths.proofs.RecordWaits.{path_is}
use Rattle.whole_paths.proofs.RoundSteps.{Between, IsPathThere, begins_so, begun, between, ended, far, one_between, open_first, over_after, path_there, read, same_books, silent, then_between, there_whole, wrote}
use Rattle.whole_paths.proofs.SegmentRounds.{bring, came, counts, if_may, kept, kept_one, of_path, path_far, same_end, stays_there, tell, una_up, unfinished}

module _ (start : Start) (plan : PathPlan) (x : BeginsWithOnePath start plan) (s : Side) where
  abbrev at : List Turn → WorldState Carried
  at turns = reached values start turns

  abbrev total : ℕ
  total = length (pick s start.file_a start.file_b)

  abbrev payload : ℕ
  payload = plan.mss - 28

  -- how many bytes may be sent
  abbrev there_are : List Turn → ℕ
  there_are turns = min (written_after start s turns) (written_by s (at turns)).edge

  profile : (turns : List Turn) (p : PathState Carried) → IsPathAt 0 (at turns) p → p.profile.mss ≡ plan.mss
  profile turns p here = ap (λ (c : Profile). c.mss) (of_path start x.mild turns p (λ z. z.profile ≡ (path_begins start 0 plan).profile) here (only_profile start plan turns x.one x.mild 2 here.crew here.there))

  pub open_at : (v u : List Turn) → Between start v u → (p : PathState Carried) → IsPathAt 0 (at u) p → IsOpen p
  open_at v u b p here = let o = path_there start v u b in subst IsOpen (path_is (at u) o.path p o.here here) o.is_open

  there_more : (v u : List Turn) → Between start v u → there_are v ≤ there_are u
  there_more v u b =
      let sent = ((far start v u b).sides s).send in
      let size = ap (λ (xs : List ℕ). length xs) sent.written.whole_is ∙ length-append (written_by s (at v)).written sent.written.rest in
      let edge = sent.edge in omega (arith, size, edge)

  -- of an end that may still send its FIN, as the turn is over
  module _ (turns : List Turn) (p : PathState Carried) (here : IsPathAt 0 (at turns) p) (is_open : IsOpen p) (over : all_over (at turns).crew ≡ true) (may : may_finish (end_at s p).tcp.state ≡ true) where
    pub is_known : Known p.profile s (end_at s p) (taken_len 0 (written_by s (at turns)).marks)
    is_known = known start plan turns x.one x.mild here.crew here.there p here.is s is_open (silent start turns p over here) may

    pub is_reached : EndsAreReached p
    is_reached = of_path start x.mild turns p EndsAreReached here ((each_is_reached values start turns).each 2 here.crew here.there)

    sized : Every (λ (r : Record). length r.piece ≤ occupied r.kind r.piece) (end_at s p).tcp.send.records
    sized = record { each = λ i r there. by r i there r.kind refl }
      where
        first : IsFirstPath start p
        first = of_path start x.mild turns p (IsFirstPath start) here (each_first start turns x.mild.plain.size here.crew here.there)

        by : (r : Record) (i : ℕ) → slice_get (end_at s p).tcp.send.records i ≡ Some r → (k : RecordKind) → r.kind ≡ k → length r.piece ≤ occupied r.kind r.piece
        by r i there Data is = let same = ap (λ k. occupied k r.piece) is in omega (arith, same)
        by r i there Fin is = absurd ((first.kinds s (first.may s may)).each i r there is)
        by r i there Syn is = let none = ap (λ (o : List ℕ). length o) ((first.syns s).each i r there is) in omega (arith, none)

  -- ---- what is to be sent next

  -- Behind this position nothing was granted yet; or a record begins there that ends past the goal, or SND.UNA is past that; or all of the stream is
  -- there.
  data GoesNext (from goal : ℕ) (w : WorldState Carried) (p : PathState Carried) : Type 0 where
    ungranted : (end_at s p).tcp.send.nxt ≡ from → GoesNext from goal w p
    stands : Has (λ (r : Record). (r.pos ≡ from) × (goal < end_of r)) (end_at s p).tcp.send.records → GoesNext from goal w p
    acked : goal < (end_at s p).tcp.send.una → GoesNext from goal w p
    all_there : IsAllThere s w → GoesNext from goal w p

  module _ (from goal : ℕ) (near : goal < from + payload) where
    -- what is granted there ends past the goal
    granted : (turns : List Turn) (turn : Turn) (before : IsOpenAfter start turns) (after : IsOpenAfter start (turns ++ turn ∷ [])) → goal ≤ there_are turns
        → (end_at s before.path).tcp.send.nxt ≡ from → GoesNext from goal (at (turns ++ turn ∷ [])) after.path
    granted turns turn before after enough is = if_may start x.mild (GoesNext from goal (at (turns ++ turn ∷ [])) q) (turns ++ turn ∷ []) q after.here after.is_open s (λ all. GoesNext.all_there all) (λ may.
        ⊎_elim (λ same. GoesNext.ungranted (same ∙ is)) full
        (each_grant_is_full start plan turns turn x.one x.mild before.path q before.here after.here s (unfinished start x.mild (turns ++ turn ∷ []) q after.here s may)))
      where
        q : PathState Carried
        q = after.path

        full : HoldsAFullPiece before.path.profile (written_by s (at turns)) (end_at s before.path).tcp.send.nxt (end_at s q) → GoesNext from goal (at (turns ++ turn ∷ [])) q
        full h =
            let pos = h.pos in
            let mss = profile turns before.path before.here in
            let past : goal < end_of h.piece = ⊎_elim (λ all. omega (arith, all, near, is, mss)) (λ rest. omega (arith, rest, enough)) h.full in
            GoesNext.stands (record { at = h.there.at; item = h.piece; there = h.there.there ∙ ap (λ r. Some r) h.there.holds; holds = (pos ∙ is, past) })

    next_on : (turns : List Turn) (turn : Turn) (before : IsOpenAfter start turns) (after : IsOpenAfter start (turns ++ turn ∷ [])) → goal ≤ there_are turns
        → GoesNext from goal (at turns) before.path → GoesNext from goal (at (turns ++ turn ∷ [])) after.path
    next_on turns turn before after enough (GoesNext.ungranted is) = granted turns turn before after enough is
    next_on turns turn before after enough (GoesNext.stands has) =
        let waits = kept start x.mild turns turn before after s in
        ⊎_elim
        (λ gone. GoesNext.acked (let end = gone.1 in let past = has.holds.1 in omega (arith, end, past)))
        (λ on. GoesNext.stands (record { at = on.at; item = on.item; there = on.there; holds = (on.holds.pos ∙ has.holds.0, let end = same_end has.item on.item on.holds in let past = has.holds.1 in omega (arith, end, past)) }))
        (kept_one _ (end_at s before.path).tcp.send.records (end_at s after.path).tcp.send.records waits.records has.at has.item has.there)
    next_on turns turn before after enough (GoesNext.acked past) = GoesNext.acked (let up = (kept start x.mild turns turn before after s).una in omega (arith, past, up))
    next_on turns turn before after enough (GoesNext.all_there all) = GoesNext.all_there (stays_there start x.mild turns (turns ++ turn ∷ []) s (record { more = turn ∷ []; is = refl; stays_open = (before, after) }) all)

    next_later : (turns more : List Turn) → StaysOpen start turns more → goal ≤ there_are turns → (p q : PathState Carried) → IsPathAt 0 (at turns) p → IsPathAt 0 (at (turns ++ more)) q
        → GoesNext from goal (at turns) p → GoesNext from goal (at (turns ++ more)) q
    next_later turns [] h enough p q here there so =
        let same : at (turns ++ []) ≡ at turns = ap at (append-nil turns) in
        subst (λ w. GoesNext from goal w q) (sym same) (subst (GoesNext from goal (at turns)) (path_is (at turns) p q here (subst (λ w. IsPathAt 0 w q) same there)) so)
    next_later turns (turn ∷ more) h enough p q here there so =
        let next = open_first start (turns ++ turn ∷ []) more h.1 in
        let same : (turns ++ turn ∷ []) ++ more ≡ turns ++ turn ∷ more = append_assoc turns (turn ∷ []) more in
        let up = there_more turns (turns ++ turn ∷ []) (record { more = turn ∷ []; is = refl; stays_open = (h.0, next) }) in
        subst (λ t. GoesNext from goal (at t) q) same
        (next_later (turns ++ turn ∷ []) more h.1 (omega (arith, enough, up)) next.path q next.here (subst (λ t. IsPathAt 0 (at t) q) (sym same) there)
        (next_on turns turn h.0 next enough (subst (GoesNext from goal (at turns)) (path_is (at turns) p h.0.path here h.0.here) so)))

  -- ---- a segment

  module _ (v a b c d u : List Turn) (first : Rounds start 6 v a) (second : Rounds start 1 a b) (third : Rounds start 4 b c) (fourth : Rounds start 4 c d) (fifth : Rounds start 5 d u)
      (well_v : IsWellAfter start s v) (well_b : IsWellAfter start s b) (well_c : IsWellAfter start s c) (well_d : IsWellAfter start s d) (heard : IsHeard start plan s v a) where
    -- how much is to be read
    abbrev goal : ℕ
    goal = min total (read_after start s v + payload)

    abbrev p : PathState Carried
    p = well_b.path

    abbrev q : PathState Carried
    q = well_d.path

    -- four rounds by which the end is told, two more, and one in which the application writes
    abbrev told_at : List Turn
    told_at = first.1.0.0

    abbrev came_at : List Turn
    came_at = fifth.0

    writes : IsRound start a b
    writes = subst (λ t. IsRound start t b) (sym second.1.0) second.1.1

    to_told : Between start v told_at
    to_told = between start 3 v told_at first.1.0.1.0

    told_to_b : Between start told_at b
    told_to_b = then_between start told_at first.0 b (one_between start told_at first.0 first.1.0.1.1) (then_between start first.0 a b (one_between start first.0 a first.1.1) (one_between start a b writes))

    b_to_c : Between start b c
    b_to_c = between start 3 b c third

    c_to_d : Between start c d
    c_to_d = between start 3 c d fourth

    b_to_d : Between start b d
    b_to_d = then_between start b c d b_to_c c_to_d

    to_came : Between start d came_at
    to_came = between start 3 d came_at fifth.1.0

    told_path : IsPathThere start told_at
    told_path = path_there start v told_at to_told

    came_path : IsPathThere start came_at
    came_path = path_there start d came_at to_came

    opened_b : IsOpen p
    opened_b = open_at told_at b told_to_b p well_b.here

    opened_d : IsOpen q
    opened_d = open_at c d c_to_d q well_d.here

    abbrev Goal : Type 0
    Goal = goal ≤ read_after start s u

    read_last : received (arrived_at (peer s) (at came_at)) ≤ read_after start s u
    read_last = read start x.mild came_at u fifth.1.1 s

    -- where all is there it is read
    whole : IsAllThere s (at came_at) → Goal
    whole all = let most = there_whole start came_at s all in let out = read_last in omega (arith, most, out)

    whole_from : (t : List Turn) → Between start t came_at → IsAllThere s (at t) → Goal
    whole_from t more all = whole (stays_there start x.mild t came_at s more all)

    -- what came past the goal is read
    passed : goal < (end_at (peer s) came_path.path).tcp.recv.edge → Goal
    passed more = if_may start x.mild Goal came_at came_path.path came_path.here came_path.is_open s whole (λ may.
        (let exact = (counts start plan x came_at came_path.path came_path.here s).exact (unfinished start x.mild came_at came_path.path came_path.here s may) in
        let out = read_last in omega (arith, exact, out, more)))

    -- all of it is written, and lies before the edge
    enough : goal ≤ there_are b
    enough =
        let wrote_so = wrote start x.mild a b writes s in
        let acked = heard.acked in
        let window = heard.window in
        let edge = ((far start a b (one_between start a b writes)).sides s).send.edge in
        let buffer = x.buffer in let small = x.size in omega (arith, wrote_so, acked, window, edge, buffer, small)

    -- where it is sent, or acknowledged
    sent : goal < sent_up_to (end_at s q).tcp.send → Goal
    sent more = ⊎_elim whole (λ low. passed (omega (arith, more, low))) (bring start x.mild d came_at fifth.1.0 s q came_path.path well_d.here came_path.here well_d.records)

    acknowledged : goal < (end_at s q).tcp.send.una → Goal
    acknowledged more =
        let up = una_up start x.mild s q came_path.path (path_far start x.mild d came_at q came_path.path to_came well_d.here came_path.here) in
        let low = came start x.mild came_at came_path.path came_path.here s (came_path.is_open.living s) in passed (omega (arith, more, up, low))

    -- ---- after fifteen rounds

    module _ (from : ℕ) (heard_of : from ≤ (end_at s q).tcp.send.una) (may : may_finish (end_at s q).tcp.state ≡ true) where
      over : all_over (at d).crew ≡ true
      over = over_after start 3 c d fourth

      now : Known q.profile s (end_at s q) (taken_len 0 (written_by s (at d)).marks)
      now = is_known d q well_d.here opened_d over may

      lined : EndsAreReached q
      lined = is_reached d q well_d.here opened_d over may

      sends : IsRound start fourth.0 d
      sends = fourth.1.1

      enough_then : goal ≤ there_are fourth.0
      enough_then = let up = there_more b fourth.0 (then_between start b c fourth.0 b_to_c (between start 2 c fourth.0 fourth.1.0)) in omega (arith, enough, up)

      pushed : IsPushed q.profile (end_at s q) (written_by s (begun start fourth.0 d sends))
      pushed =
          let there = subst (λ (w : WorldState Carried). slice_get w.crew 2 ≡ Some well_d.here.crew) (ended start fourth.0 d sends) well_d.here.there in
          subst (HoldsOfKind (λ app. Unit {0}) (λ (z : PathState Carried). IsOpen z → z.agenda ≡ [] → (t : Side) → may_finish (end_at t z).tcp.state ≡ true → IsPushed z.profile (end_at t z) (written_by t (begun start fourth.0 d sends)))) well_d.here.is
          (what_has_room_is_sent start plan (begun start fourth.0 d sends) sends.order x.one x.mild (begins_so start fourth.0 d sends) well_d.here.crew there)
          opened_d (silent start d q over well_d.here) s may

      same_written : length (written_by s (begun start fourth.0 d sends)).written ≡ written_after start s fourth.0
      same_written = same_books start fourth.0 d sends (λ w. length (written_by s w).written ≡ written_after start s fourth.0) (λ w is. is) refl

      same_edge : (written_by s (begun start fourth.0 d sends)).edge ≡ (written_by s (at fourth.0)).edge
      same_edge = same_books start fourth.0 d sends (λ w. (written_by s w).edge ≡ (written_by s (at fourth.0)).edge) (λ w is. is) refl

      -- nothing is under way: so all is sent that there is
      nothing_waits : (end_at s q).tcp.send.nxt ≡ from → IsPushed q.profile (end_at s q) (written_by s (begun start fourth.0 d sends)) → Goal
      nothing_waits none (IsPushed.full more) =
          let within = sent_within q.profile s (end_at s q) _ now (lined s) in
          let window = now.window in let small = now.small in absurd (omega (arith, none, heard_of, more, within, window, small))
      nothing_waits none (IsPushed.all more) = sent (let there = same_written in let low = enough_then in omega (arith, more, there, low))
      nothing_waits none (IsPushed.shut is more) = sent (let there = same_edge in let low = enough_then in omega (arith, more, there, low))

      goes : GoesNext from goal (at d) q → Goal
      goes (GoesNext.ungranted none) = nothing_waits none pushed
      goes (GoesNext.stands has) =
          let low = begun_goes q.profile s (end_at s q) _ now (lined s) has.at has.item has.there (let at = has.holds.0 in omega (arith, at, heard_of)) in
          sent (let past = has.holds.1 in omega (arith, low, past))
      goes (GoesNext.acked more) = acknowledged more
      goes (GoesNext.all_there all) = whole_from d to_came all

    -- ---- after seven

    module _ (told : (end_at (peer s) well_v.path).tcp.recv.edge ≤ (end_at s told_path.path).tcp.send.una) (may : may_finish (end_at s p).tcp.state ≡ true) where
      abbrev from : ℕ
      from = sent_up_to (end_at s p).tcp.send

      past : read_after start s v < (end_at s p).tcp.send.una
      past =
          let came_so = (counts start plan x v well_v.path well_v.here s).came in
          let up = una_up start x.mild s told_path.path p (path_far start x.mild told_at b told_path.path p told_to_b told_path.here well_b.here) in omega (arith, told, came_so, up)

      over_b : all_over (at b).crew ≡ true
      over_b = writes.over

      now_b : Known p.profile s (end_at s p) (taken_len 0 (written_by s (at b)).marks)
      now_b = is_known b p well_b.here opened_b over_b may

      lined_b : EndsAreReached p
      lined_b = is_reached b p well_b.here opened_b over_b may

      near : goal < from + payload
      near = let low = una_sent p.profile s (end_at s p) _ now_b (lined_b s) in let high = past in omega (arith, low, high)

      -- behind what is sent nothing was granted, or a record stands there
      begins : GoesNext from goal (at b) p
      begins = ⊎_elim
          (λ none. GoesNext.ungranted none)
          (λ has. GoesNext.stands (record { at = has.at; item = has.item; there = has.there; holds = (has.holds.0, let end = has.holds.1 in let mss = profile b p well_b.here in let low = past in omega (arith, end, mss, low)) }))
          (next_waits p.profile s (end_at s p) _ now_b (lined_b s) (sized b p well_b.here opened_b over_b may))

      then_goes : GoesNext from goal (at d) q
      then_goes = subst (λ t. GoesNext from goal (at t) q) (sym b_to_d.is)
          (next_later from goal near b b_to_d.more b_to_d.stays_open enough p q well_b.here (subst (λ t. IsPathAt 0 (at t) q) b_to_d.is well_d.here) begins)

      is_sent : Goal
      is_sent = ⊎_elim (whole_from c (then_between start c d came_at c_to_d to_came)) by_told (bring start x.mild b c third s p well_c.path well_b.here well_c.here well_b.records)
        where
          heard_so : from ≤ (end_at (peer s) well_c.path).tcp.recv.edge → (end_at (peer s) well_c.path).tcp.recv.edge ≤ (end_at s q).tcp.send.una → Goal
          heard_so low high = if_may start x.mild Goal d q well_d.here opened_d s (whole_from d to_came) (λ may_still. goes from (omega (arith, low, high)) may_still then_goes)

          by_told : from ≤ (end_at (peer s) well_c.path).tcp.recv.edge → Goal
          by_told low = ⊎_elim
              (λ soon. ⊎_elim (whole_from d to_came) (heard_so low) (tell start x.mild c d fourth s well_c.path q well_c.here well_d.here soon))
              (whole_from c (then_between start c d came_at c_to_d to_came))
              well_c.told

    is_read : Goal
    is_read = ⊎_elim
        (λ soon. ⊎_elim
        (whole_from told_at (then_between start told_at b came_at told_to_b (then_between start b d came_at b_to_d to_came)))
        (λ told. if_may start x.mild Goal b p well_b.here opened_b s (whole_from b (then_between start b d came_at b_to_d to_came)) (λ may. is_sent told may))
        (tell start x.mild v told_at first.1.0.1.0 s well_v.path told_path.path well_v.here told_path.here soon))
        (whole_from v (then_between start v told_at came_at to_told (then_between start told_at b came_at told_to_b (then_between start b d came_at b_to_d to_came))))
        well_v.told

pub a_segment_is_read : ASegmentIsRead
a_segment_is_read start plan x s v a b c d u first second third fourth fifth well_v well_b well_c well_d heard = is_read start plan x s v a b c d u first second third fourth fifth well_v well_b well_c well_d heard
