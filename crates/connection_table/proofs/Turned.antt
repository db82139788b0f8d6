-- What a turn makes of a kept connection: its list of turns and its world after a call.
use Rattle.std.proofs.Common.{◌≡◌, refl, sym, ◌∙◌, ap, subst, ℕ, ◌<◌, Bool, true, false, not, ◌&&◌, List, [], ◌∷◌, ◌++◌, length}
use Rattle.std.proofs.lemmas.Bool.{false≢true}
use Rattle.run_log.specs.declared.turn.Turn as noted
use Rattle.run_log.specs.declared.turn.Turn.TheVariants.{Step, Round}
use Rattle.path_core.specs.Octets.{octets}
use Rattle.run_outside.specs.declared.input.Input.{Input}
use Rattle.world_core.specs.Kept.{Kept, standing}
use Rattle.world_laws.specs.Worlds.{all_over, end_round, is_going, world_step}
use Rattle.connection_table.specs.Steps.{ends}
use Rattle.connection_table.specs.Tables.{Entry, IsHeld, Stands, first_of, key_token, opened_entry}
use Rattle.connection_table.proofs.Held.{end_held, opened_held, step_held}

-- the round may end
abbrev pub may_end : Kept → Bool
may_end k = not k.failed && all_over k.state.crew

-- a round may end where the connection stands and each turn has ended
pub may_stand : (k : Kept) → may_end k ≡ true → (k.failed ≡ false) × (all_over k.state.crew ≡ true)
may_stand k may = by k.failed refl may
  where
    by : (b : Bool) → k.failed ≡ b → (not b && all_over k.state.crew) ≡ true → (k.failed ≡ false) × (all_over k.state.crew ≡ true)
    by true stands may = absurd (false≢true may)
    by false stands may = (stands, may)

-- ---- a connection whose turns and world these are

abbrev changed : Entry → List noted.Turn → Kept → Entry
changed e turns world = record { input = e.input; turns = turns; world = world }

both_are : (e : Entry) (turns others : List noted.Turn) (world next : Kept) → turns ≡ others → world ≡ next → changed e turns world ≡ changed e others next
both_are e turns others world next t w = ap (λ ts. changed e ts world) t ∙ ap (changed e others) w

-- ---- as it is kept

module _ (token room : ℕ) (failed : Bool) (e : Entry) (held : IsHeld token room failed e) where
  stands_is : Stands e → failed ≡ false
  stands_is stands = held.failed_is ∙ stands

  held_as : Stands e → IsHeld token room false e
  held_as stands = subst (λ (f : Bool). IsHeld token room f e) (stands_is stands) held

  -- a step was made
  module _ (actor : ℕ) (turns : List noted.Turn) (world : Kept) (world_is : world ≡ standing (world_step octets actor e.world.state))
      (going : is_going actor e.world.state ≡ true) (turns_is : turns ≡ e.turns ++ Step actor ∷ []) where
    stepped : changed e turns world ≡ changed e (e.turns ++ Step actor ∷ []) (standing (world_step octets actor e.world.state))
    stepped = both_are e turns (e.turns ++ Step actor ∷ []) world (standing (world_step octets actor e.world.state)) turns_is world_is

    pub made_kept : (left : ℕ) → Stands e → 0 < left → IsHeld token left failed (changed e turns world)
    made_kept left stands spare =
        subst (λ (f : Bool). IsHeld token left f (changed e turns world)) (sym (stands_is stands))
        (subst (λ (x : Entry). IsHeld token left false x) (sym stepped) (step_held token room left actor e (held_as stands) going spare))

  -- the round ended
  module _ (turns : List noted.Turn) (world : Kept) (may : ends e ≡ true) (turns_is : turns ≡ e.turns ++ Round ∷ [])
      (next : Stands e → world ≡ standing (end_round e.world.state)) where
    over : changed e turns world ≡ changed e (e.turns ++ Round ∷ []) (standing (end_round e.world.state))
    over = both_are e turns (e.turns ++ Round ∷ []) world (standing (end_round e.world.state)) turns_is (next (may_stand e.world may).0)

    pub ended_kept : (left : ℕ) → IsHeld token left failed (changed e turns world)
    ended_kept left =
        let is = may_stand e.world may in
        subst (λ (f : Bool). IsHeld token left f (changed e turns world)) (sym (stands_is is.0))
        (subst (λ (x : Entry). IsHeld token left false x) (sym over) (end_held token room left e (held_as is.0) is.1))

-- ---- before its first step

module _ (input copy : Input) (turns : List noted.Turn) (world : Kept) (copy_is : copy ≡ input) (turns_is : turns ≡ [])
    (world_is : world ≡ standing (first_of input)) where
  abbrev opening : Entry
  opening = record { input = copy; turns = turns; world = world }

  opened_is : opening ≡ opened_entry input
  opened_is =
      ap (λ (i : Input). let x : Entry = record { input = i; turns = turns; world = world } in x) copy_is
      ∙ both_are (opened_entry input) turns [] world (standing (first_of input)) turns_is world_is

  pub opened_kept : (token room : ℕ) → token ≡ key_token input.script → 0 < length input.script.paths → 0 < room → IsHeld token room false opening
  opened_kept token room token_is some spare =
      subst (λ (x : Entry). IsHeld token room false x) (sym opened_is)
      (subst (λ t. IsHeld t room false (opened_entry input)) (sym token_is) (opened_held input room some spare))
