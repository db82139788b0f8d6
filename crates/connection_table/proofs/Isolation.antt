-- Each connection of a table is what its own calls alone make of it.
use Rattle.std.proofs.Common.{◌≡◌, ◌≢◌, refl, sym, ◌∙◌, ap, subst, ℕ, Bool, true, false, if◌then◌else◌, ⊎_elim, Option, Some, None, List, [], ◌∷◌, ◌++◌}
use Rattle.std.specs.Prelude.{◌==◌, IsSomeAnd}
use Rattle.std.proofs.lemmas.Bool.{eq-eqb, eqb-true, false≢true}
use Rattle.std.proofs.lemmas.Option.{same_Some}
use Rattle.run_log.specs.declared.turn.Turn.TheVariants.{Step, Round}
use Rattle.path_core.specs.Octets.{octets}
use Rattle.run_outside.specs.declared.input.Input.{Input}
use Rattle.stream_lanes.proofs.Lists.{in_append, in_more, in_one, in_set, set_other}
use Rattle.world_core.specs.Kept.{standing}
use Rattle.world_core.specs.Logged.{all_turns}
use Rattle.world_laws.specs.Worlds.{end_round, is_going, world_run, world_step}
use Rattle.connection_table.specs.Calls.{Call, CanAllBe, CanBe, CanCall, EachIsIsolated, Event, IsIsolated, IsShortTable, NoneFailed, after_call, after_calls, after_event, after_events, call_made, called_at, own_calls, put_call}
use Rattle.connection_table.specs.Steps.{after_end, after_step}
use Rattle.connection_table.specs.Tables.{Entry, IsShortEntry, Stands, StandsAlone, entry_at, first_of, opened_entry, with_entry}
use Rattle.connection_table.proofs.Held.{alone_more, stopped_alone}
use Rattle.connection_table.proofs.Holders.{table_admits, table_stays}
use Rattle.connection_table.proofs.Home.{each_is_routed_home}
use Rattle.connection_table.proofs.Placed.{same_inputs, set_there}
use Rattle.connection_table.proofs.Turned.{may_end, may_stand}

-- ---- what a call keeps

-- the connection after a call stands alone, and began with the same
abbrev Goes : Entry → Entry → Type 0
Goes e x = StandsAlone x × (x.input ≡ e.input)

step_goes : (actor : ℕ) (e : Entry) → Stands e → StandsAlone e → Goes e (after_step actor e)
step_goes actor e stands alone = by (is_going actor e.world.state) refl
  where
    by : (b : Bool) → is_going actor e.world.state ≡ b
        → Goes e (if b then record e { turns = e.turns ++ Step actor ∷ []; world = standing (world_step octets actor e.world.state) } else e)
    by true going = (alone_more e (Step actor) stands alone (going, tt), refl)
    by false over = (alone, refl)

end_goes : (e : Entry) → StandsAlone e → Goes e (after_end e)
end_goes e alone = by (may_end e.world) refl
  where
    by : (b : Bool) → may_end e.world ≡ b → Goes e (if b then record e { turns = e.turns ++ Round ∷ []; world = standing (end_round e.world.state) } else e)
    by true may = let is = may_stand e.world may in (alone_more e Round is.0 alone (is.1, tt), refl)
    by false may = (alone, refl)

call_goes : (call : Call) (e : Entry) → CanCall call e → StandsAlone e → Goes e (after_call call e)
call_goes (Call.Steps actor) e can alone = step_goes actor e can alone
call_goes (Call.Fails actor after) e can alone = (stopped_alone after can.failed, can.input)
call_goes Call.Ends e can alone = end_goes e alone

-- ---- where none failed

step_stands : (actor : ℕ) (e : Entry) → Stands e → Stands (after_step actor e)
step_stands actor e stands = by (is_going actor e.world.state)
  where
    by : (b : Bool) → Stands (if b then record e { turns = e.turns ++ Step actor ∷ []; world = standing (world_step octets actor e.world.state) } else e)
    by true = refl
    by false = stands

end_stands : (e : Entry) → Stands e → Stands (after_end e)
end_stands e stands = by (may_end e.world)
  where
    by : (b : Bool) → Stands (if b then record e { turns = e.turns ++ Round ∷ []; world = standing (end_round e.world.state) } else e)
    by true = refl
    by false = stands

call_stands : (call : Call) (calls : List Call) (e : Entry) → NoneFailed (call ∷ calls) → Stands e → Stands (after_call call e)
call_stands (Call.Steps actor) calls e none stands = step_stands actor e stands
call_stands (Call.Fails actor after) calls e none stands = absurd none
call_stands Call.Ends calls e none stands = end_stands e stands

none_later : (call : Call) (calls : List Call) → NoneFailed (call ∷ calls) → NoneFailed calls
none_later (Call.Steps actor) calls none = none
none_later (Call.Fails actor after) calls none = absurd none
none_later Call.Ends calls none = none

-- ---- a call on a table

-- a call is made at the connection that it is for
called_home : (table : List Entry) (connection : ℕ) (call : Call) (e : Entry) → IsShortTable table → entry_at connection table ≡ Some e → called_at connection call table ≡ connection
called_home table connection (Call.Steps actor) e short there =
    each_is_routed_home table connection actor e short.is there (short.alone connection e there) (short.short connection e there)
called_home table connection (Call.Fails actor after) e short there =
    each_is_routed_home table connection actor e short.is there (short.alone connection e there) (short.short connection e there)
called_home table connection Call.Ends e short there = refl

call_is : (table : List Entry) (connection : ℕ) (call : Call) (e : Entry) → IsShortTable table → entry_at connection table ≡ Some e
    → after_event (Event.Calls connection call) table ≡ with_entry connection (after_call call e) table
call_is table connection call e short there =
    ap (λ (home : ℕ). call_made home call table) (called_home table connection call e short there)
    ∙ ap (λ (o : Option Entry). put_call connection call o table) there

same_short : (e x : Entry) → x.input ≡ e.input → IsShortEntry e → IsShortEntry x
same_short e x same short = subst (λ (input : Input). IsShortEntry (record x { input = input })) (sym same) short

-- the table is one of such connections still
module _ (table : List Entry) (connection : ℕ) (e x : Entry) (short : IsShortTable table) (there : entry_at connection table ≡ Some e) (goes : Goes e x) where
  put_alone : (number : ℕ) (y : Entry) → entry_at number (with_entry connection x table) ≡ Some y → StandsAlone y × IsShortEntry y
  put_alone number y at = ⊎_elim
      (λ here. subst (λ (z : Entry). StandsAlone z × IsShortEntry z) here.1 (goes.0, same_short e x goes.1 (short.short connection e there)))
      (λ other. (short.alone number y other.1, short.short number y other.1))
      (in_set table connection x number y at)

  put_short : IsShortTable (with_entry connection x table)
  put_short = record {
    is = table_stays table (with_entry connection x table) (same_inputs table connection e x there goes.1) short.is;
    alone = λ number y at. (put_alone number y at).0;
    short = λ number y at. (put_alone number y at).1;
  }

module _ (table : List Entry) (input : Input) (short : IsShortTable table) (can : CanBe (Event.Admits input) table) where
  new_alone : (number : ℕ) (y : Entry) → entry_at number (table ++ opened_entry input ∷ []) ≡ Some y → StandsAlone y × IsShortEntry y
  new_alone number y at = ⊎_elim
      (λ old. (short.alone number y old, short.short number y old))
      (λ new. subst (λ (z : Entry). StandsAlone z × IsShortEntry z) (in_one (opened_entry input) y _ new.1).1
      (record { is = λ _. refl; lawful = λ _. tt }, can.short))
      (in_append table (opened_entry input ∷ []) number y at)

  admit_short : IsShortTable (table ++ opened_entry input ∷ [])
  admit_short = record {
    is = table_admits table (opened_entry input) short.is can.few can.new;
    alone = λ number y at. (new_alone number y at).0;
    short = λ number y at. (new_alone number y at).1;
  }

-- ---- all calls

-- a call in front of the others
call_before : (call : Call) (calls : List Call) (e : Entry) (now : Option Entry) → Goes e (after_call call e) → IsIsolated calls (after_call call e) now
    → IsIsolated (call ∷ calls) e now
call_before call calls e now goes h = record {
  own = h.own;
  alone = λ none stands. h.alone (none_later call calls none) (call_stands call calls e none stands)
      ∙ ap (λ (input : Input). world_run octets (all_turns (after_calls calls (after_call call e)).turns) (first_of input)) goes.1;
}

some_there : (o : Option Entry) (P : Entry → Type 0) → IsSomeAnd o P → (c : Entry) × (o ≡ Some c) × P c
some_there None P h = absurd h
some_there (Some c) P h = (c, refl, h)

module _ (events : List Event) (number : ℕ) where
  -- the calls behind the first one
  abbrev Later : Type 0
  Later = (table : List Entry) (e : Entry) → IsShortTable table → CanAllBe events table → entry_at number table ≡ Some e
      → IsIsolated (own_calls number events) e (entry_at number (after_events events table))

  module _ (later : Later) (table : List Entry) (connection : ℕ) (call : Call) (e c : Entry) (short : IsShortTable table) (can : CanCall call c)
      (at : entry_at connection table ≡ Some c) (there : entry_at number table ≡ Some e) where
    goes : Goes c (after_call call c)
    goes = call_goes call c can (short.alone connection c at)

    next_short : IsShortTable (with_entry connection (after_call call c) table)
    next_short = put_short table connection c (after_call call c) short at goes

    abbrev Calls : Bool → List Call
    Calls b = if b then call ∷ own_calls number events else own_calls number events

    by : (b : Bool) → (connection == number) ≡ b → CanAllBe events (with_entry connection (after_call call c) table)
        → IsIsolated (Calls b) e (entry_at number (after_events events (with_entry connection (after_call call c) table)))
    by true test possible =
        let same : connection ≡ number = eqb-true connection number test in
        let one : c ≡ e = same_Some c e (sym at ∙ (ap (λ k. entry_at k table) same ∙ there)) in
        let put : entry_at number (with_entry connection (after_call call c) table) ≡ Some (after_call call c)
        = ap (λ k. entry_at k (with_entry connection (after_call call c) table)) (sym same) ∙ set_there table connection c (after_call call c) at in
        subst (λ (x : Entry). IsIsolated (call ∷ own_calls number events) x (entry_at number (after_events events (with_entry connection (after_call call c) table)))) one
        (call_before call (own_calls number events) c _ goes (later (with_entry connection (after_call call c) table) (after_call call c) next_short possible put))
    by false test possible =
        let other : number ≢ connection = λ same. false≢true (sym test ∙ eq-eqb connection number (sym same)) in
        later (with_entry connection (after_call call c) table) e next_short possible (set_other table connection (after_call call c) number other ∙ there)

    call_isolated : CanAllBe events (after_event (Event.Calls connection call) table)
        → IsIsolated (own_calls number (Event.Calls connection call ∷ events)) e (entry_at number (after_events events (after_event (Event.Calls connection call) table)))
    call_isolated possible =
        let is = call_is table connection call c short at in
        subst (λ (xs : List Entry). IsIsolated (Calls (connection == number)) e (entry_at number (after_events events xs))) (sym is)
        (by (connection == number) refl (subst (CanAllBe events) is possible))

pub each_is_isolated : EachIsIsolated
each_is_isolated [] table number e short can there = record { own = there; alone = λ none stands. (short.alone number e there).is stands }
each_is_isolated (Event.Admits input ∷ events) table number e short can there =
    each_is_isolated events (table ++ opened_entry input ∷ []) number e (admit_short table input short can.0) can.1
    (in_more table (opened_entry input ∷ []) number e there)
each_is_isolated (Event.Calls connection call ∷ events) table number e short can there =
    let found = some_there (entry_at connection table) (CanCall call) can.0 in
    call_isolated events number (λ xs x. each_is_isolated events xs number x) table connection call e found.0 short found.2 found.1 there can.1
