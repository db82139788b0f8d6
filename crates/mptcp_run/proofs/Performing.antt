-- A run from its binds to its last line.
use Rattle.std.proofs.Common.{◌≡◌, refl, sym, ◌∙◌, ap, subst, ℕ, inl, inr, List, [], ◌∷◌, ◌++◌, take, Option, Some, None, arith}
use Rattle.std.proofs.lemmas.List.{append_assoc}
use Rattle.outside_kit.specs.Calls.{Call}
use Rattle.outside_kit.specs.Calls as call
use Rattle.outside_kit.specs.declared.port.Port.TheVariants as port
use Rattle.sides.specs.declared.side.Side.TheVariants.{A, B}
use Rattle.outside_kit.specs.Outside.{Told, HoldsAfter, HoldsPrefix}
use Rattle.run_words.specs.Lines.{Line}
use Rattle.world_core.specs.Kept.{HasFewNotes}
use Rattle.world_laws.specs.declared.outcome.Outcome.{Outcome}
use Rattle.world_laws.specs.declared.outcome.Outcome.TheVariants as outcome
use Rattle.world_laws.specs.Outcomes.{outcome_of}
use Rattle.world_laws.specs.Worlds.{Turn}
use Rattle.run_outside.specs.declared.status.Status.{Status}
use Rattle.run_outside.specs.declared.status.Status.TheVariants.{Memory}
use Rattle.mptcp_run.specs.Courses.{CourseMade, CourseCut}
use Rattle.mptcp_run.specs.Ends.{HasEnded, HoldsCut, HoldsToLine, CameToEnd, IsCut}
use Rattle.run_outside.specs.Plan.{AddsAll, AddsCut, AddsShort, binds_of}
use Rattle.mptcp_run.specs.Plan.{puts_so_far}
use Rattle.run_outside.specs.Ports.{HoldsMore, HoldsWithin, IsBetween, Ports}
use Rattle.mptcp_run.specs.Putting.{opening_in, status_of, last_line, ends_of, read_so_far, log_so_far, HoldsRounds, HoldsRun, AreFirstOf}
use Rattle.mptcp_run.specs.Rounds.{HoldsEnds, HoldsPart}
use Rattle.mptcp_run.specs.Task.{Connection, Task, first_world}
use Rattle.run_outside.proofs.Calls.{adds_none, all_then, cut_then, cut_longer, cut_none, short_then}
use Rattle.run_outside.proofs.PortsLemmas.{IsPrefix-refl, IsPrefix-append, nothing_more, all_held, part_held, all_behind, taken_part}

-- the readers' ports were bound
pub record AreBound (a b : Ports) : Type 0 where
  pub read_by_b : HoldsAfter (a port.ReadByB) (b port.ReadByB) (λ _. [])
  pub read_by_a : HoldsAfter (a port.ReadByA) (b port.ReadByA) (λ _. [])
  pub log : b port.Log ≡ a port.Log

-- a line was put to the log
pub record LogGrew (line : List ℕ) (c d : Ports) : Type 0 where
  pub read_by_b : d port.ReadByB ≡ c port.ReadByB
  pub read_by_a : d port.ReadByA ≡ c port.ReadByA
  pub log : HoldsAfter (c port.Log) (d port.Log) (λ held. held ++ line)

-- or a part of it
pub record LogGrewPart (line : List ℕ) (c d : Ports) : Type 0 where
  pub read_by_b : d port.ReadByB ≡ c port.ReadByB
  pub read_by_a : d port.ReadByA ≡ c port.ReadByA
  pub log : HoldsPrefix (c port.Log) (d port.Log) line

-- ---- what the ports hold, by the ends of rounds

more_from : (a b c : Option (List ℕ)) (before : List ℕ) (P : List ℕ → Type 0) → b ≡ a → HoldsMore b c before P → HoldsMore a c before P
more_from a b c before P same h = subst (λ o. HoldsMore o c before P) same h

-- the rounds that were put
pub rounds_held : (task : Task) (turns : List Turn) (a b c : Ports) → AreBound a b → HoldsEnds (opening_in task) 0 (first_world task) (ends_of task turns) b c
    → HoldsRounds task turns a c
rounds_held task turns a b c bound h = record {
  read_by_b = all_held (a port.ReadByB) (b port.ReadByB) (c port.ReadByB) (read_so_far B task turns) bound.read_by_b h.read_by_b;
  read_by_a = all_held (a port.ReadByA) (b port.ReadByA) (c port.ReadByA) (read_so_far A task turns) bound.read_by_a h.read_by_a;
  log = all_behind (a port.Log) (c port.Log) (log_so_far task turns) (more_from (a port.Log) (b port.Log) (c port.Log) [] _ bound.log h.log);
  fits = h.fits;
}

after_append : (a c d : Option (List ℕ)) (x y : List ℕ) → HoldsAfter a c (λ held. held ++ x) → HoldsAfter c d (λ held. held ++ y) → HoldsAfter a d (λ held. held ++ (x ++ y))
after_append None c d x y h k = tt
after_append (Some held) c d x y h k = subst (λ o. HoldsAfter o d (λ all. all ++ y)) h k ∙ ap Some (append_assoc held x y)

-- with the last line behind them
pub run_held : (task : Task) (turns : List Turn) (line : List ℕ) (a c d : Ports) → line ≡ last_line task turns → HoldsRounds task turns a c → LogGrew line c d
    → HoldsRun task turns a d
run_held task turns line a c d is h k = record {
  read_by_b = subst (λ o. HoldsAfter (a port.ReadByB) o (λ _. read_so_far B task turns)) (sym k.read_by_b) h.read_by_b;
  read_by_a = subst (λ o. HoldsAfter (a port.ReadByA) o (λ _. read_so_far A task turns)) (sym k.read_by_a) h.read_by_a;
  log = subst (λ last. HoldsAfter (a port.Log) (d port.Log) (λ held. held ++ (log_so_far task turns ++ last))) is
      (after_append (a port.Log) (c port.Log) (d port.Log) (log_so_far task turns) line h.log k.log);
  fits = h.fits;
}

-- ---- early ends

-- some rounds, and a part of the next one
part_cut : (task : Task) (turns more : List Turn) (a b c : Ports) → AreBound a b
    → HoldsPart (opening_in task) 0 (first_world task) (ends_of task turns) (ends_of task (turns ++ more)) b c → HoldsCut task turns more a c
part_cut task turns more a b c bound h = record {
  read_by_b = part_held (turns ++ more ≡ []) (a port.ReadByB) (b port.ReadByB) (c port.ReadByB) _ _ bound.read_by_b h.read_by_b;
  read_by_a = part_held (turns ++ more ≡ []) (a port.ReadByA) (b port.ReadByA) (c port.ReadByA) _ _ bound.read_by_a h.read_by_a;
  log = more_from (a port.Log) (b port.Log) (c port.Log) [] _ bound.log h.log;
}

-- nothing was put yet, and maybe not all was bound
pub begin_cut : (task : Task) (a b : Ports) → HoldsWithin (Unit {0}) (a port.ReadByB) (b port.ReadByB) [] [] → HoldsWithin (Unit {0}) (a port.ReadByA) (b port.ReadByA) [] []
    → b port.Log ≡ a port.Log → HoldsCut task [] [] a b
begin_cut task a b read_by_b read_by_a log = record {
  read_by_b = within _ refl (a port.ReadByB) (b port.ReadByB) read_by_b;
  read_by_a = within _ refl (a port.ReadByA) (b port.ReadByA) read_by_a;
  log = nothing_more (a port.Log) (b port.Log) [] _ log (record { least = IsPrefix-refl []; most = IsPrefix-refl [] });
}
  where
    within : (U : Type 0) → U → (a b : Option (List ℕ)) → HoldsWithin (Unit {0}) a b [] [] → HoldsWithin U a b [] []
    within U u None b h = tt
    within U u (Some held) b (inl h) = inl (u, h.1)
    within U u (Some held) b (inr h) = inr h

after_part : (a c d : Option (List ℕ)) (x y : List ℕ) → HoldsAfter a c (λ held. held ++ x) → HoldsPrefix c d y → HoldsMore a d [] (IsBetween x (x ++ y))
after_part None c d x y h k = tt
after_part (Some held) c d x y h k =
    let put : (count : ℕ) × (d ≡ Some ((held ++ x) ++ take count y)) = subst (λ o. HoldsPrefix o d y) h k in (
      x ++ take put.0 y,
      (
        put.1 ∙ ap Some (append_assoc held x (take put.0 y)),
        record {
          least = IsPrefix-append x (take put.0 y);
          most = taken_part x y put.0;
        },
      ),
    )

-- all rounds, and a prefix of the last line
pub line_held : (task : Task) (turns : List Turn) (line : List ℕ) (a c d : Ports) → line ≡ last_line task turns → HoldsRounds task turns a c → LogGrewPart line c d
    → HoldsToLine task turns a d
line_held task turns line a c d is h k = record {
  read_by_b = subst (λ o. HoldsAfter (a port.ReadByB) o (λ _. read_so_far B task turns)) (sym k.read_by_b) h.read_by_b;
  read_by_a = subst (λ o. HoldsAfter (a port.ReadByA) o (λ _. read_so_far A task turns)) (sym k.read_by_a) h.read_by_a;
  log = subst (λ last. HoldsMore (a port.Log) (d port.Log) [] (IsBetween (log_so_far task turns) (log_so_far task turns ++ last))) is
      (after_part (a port.Log) (c port.Log) (d port.Log) (log_so_far task turns) line h.log k.log);
}

-- ---- with the calls

pub has_ended : (o : Outcome) (status : Status) → status ≡ status_of o → HasEnded status
has_ended outcome.Going status is = subst HasEnded (sym is) tt
has_ended outcome.Delivered status is = subst HasEnded (sym is) tt
has_ended (outcome.Aborted reader) status is = subst HasEnded (sym is) tt
has_ended outcome.NoPath status is = subst HasEnded (sym is) tt

-- the put of a line
abbrev pub line_put : List ℕ → List Call
line_put line = call.Put port.Log line ∷ []

module _ (line : Line) (task : Task) (a b c : Told) (held : AreBound a.holds b.holds) (bound : AddsAll (binds_of line) a.calls b.calls) where
  -- behind all turns
  module _ (v : Connection) (made : CourseMade task.course (opening_in task) (first_world task) v b c) (last : List ℕ) (is : last ≡ last_line task made.turns)
      (status : Status) (d : Told) where
    -- the last line was put
    pub line_done : HasFewNotes v → status ≡ status_of (outcome_of v.crew) → LogGrew last c.holds d.holds → AddsAll (line_put last) c.calls d.calls → CameToEnd [] line task a d status
    line_done few shown grew told = record {
      ended = has_ended (outcome_of v.crew) status shown;
      whole = record {
        turns = made.turns;
        are = made.are;
        status_is = shown ∙ ap (λ w. status_of (outcome_of w.crew)) made.world;
        ports = run_held task made.turns last a.holds c.holds d.holds is (rounds_held task made.turns a.holds b.holds c.holds held made.ports) grew;
        few = subst HasFewNotes made.world few;
      };
      calls = all_then (binds_of line) _ a.calls b.calls d.calls bound
          (all_then (puts_so_far task made.turns) _ b.calls c.calls d.calls made.calls (subst (λ text. AddsAll (line_put text) c.calls d.calls) is told));
    }

    -- the line wasn't put whole
    pub line_short : LogGrewPart last c.holds d.holds → AddsShort (line_put last) status c.calls d.calls → IsCut [] line task a d status
    line_short grew cut = inr (record {
      turns = made.turns;
      are = made.are;
      ports = line_held task made.turns last a.holds c.holds d.holds is (rounds_held task made.turns a.holds b.holds c.holds held made.ports) grew;
      calls = short_then (binds_of line) _ status a.calls b.calls d.calls bound
          (short_then (puts_so_far task made.turns) _ status b.calls c.calls d.calls made.calls (subst (λ text. AddsShort (line_put text) status c.calls d.calls) is cut));
    })

  -- some turns were made
  pub rounds_short : (status : Status) → CourseCut task.course (opening_in task) (first_world task) b c status → IsCut [] line task a c status
  rounds_short status h = inl (record {
    ports = record { turns = h.turns; more = h.more; are = h.are; one = h.one; ports = part_cut task h.turns h.more a.holds b.holds c.holds held h.ports };
    calls = cut_then (binds_of line) _ status a.calls b.calls c.calls bound h.calls;
  })

-- not all was bound
pub binds_short : (line : Line) (task : Task) (a b : Told) (status : Status) → AreFirstOf task.course [] [] (first_world task)
    → HoldsWithin (Unit {0}) (a.holds port.ReadByB) (b.holds port.ReadByB) [] [] → HoldsWithin (Unit {0}) (a.holds port.ReadByA) (b.holds port.ReadByA) [] []
    → b.holds port.Log ≡ a.holds port.Log → AddsCut (binds_of line) status a.calls b.calls → IsCut [] line task a b status
binds_short line task a b status none read_by_b read_by_a log h = inl (record {
  ports = record { turns = []; more = []; are = none; one = omega arith; ports = begin_cut task a.holds b.holds read_by_b read_by_a log };
  calls = cut_longer (binds_of line) [] status a.calls b.calls h;
})

-- nothing was made, for want of memory
pub nothing_made : (line : Line) (task : Task) (a : Told) → AreFirstOf task.course [] [] (first_world task) → IsCut [] line task a a Memory
nothing_made line task a none =
    binds_short line task a a Memory none (unbound (a.holds port.ReadByB)) (unbound (a.holds port.ReadByA)) refl (cut_none (binds_of line) Memory a.calls a.calls refl (adds_none a.calls))
  where
    unbound : (old : Option (List ℕ)) → HoldsWithin (Unit {0}) old old [] []
    unbound None = tt
    unbound (Some held) = inl (tt, refl)
