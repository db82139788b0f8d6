-- What a kept connection keeps: it stands alone, it has a path, and there is room for the end of its round.
use Rattle.std.proofs.Common.{◌≡◌, refl, sym, ◌∙◌, ap, subst, ℕ, zero, suc, ◌+◌, ◌<◌, Bool, true, false, ◌&&◌, ◌||◌, if◌then◌else◌, Option, Some, None, List, [], ◌∷◌, ◌++◌, length, map, arith}
use Rattle.std.specs.List.{list_any, slice_get, slice_set}
use Rattle.std.proofs.lemmas.Bool.{false≢true}
use Rattle.std.proofs.lemmas.List.{map-append}
use Rattle.std.proofs.lemmas.Option.{same_Some}
use Rattle.run_log.specs.declared.turn.Turn as noted
use Rattle.run_log.specs.declared.turn.Turn.TheVariants.{Step, Round}
use Rattle.link_script.specs.declared.script.Script.{Script}
use Rattle.link_script.specs.declared.script.PathLine.{PathLine}
use Rattle.actor_desk.specs.declared.ask.Ask.{Ask}
use Rattle.actor_desk.specs.declared.ask.Reply.{Reply}
use Rattle.path_core.specs.Octets.{octets}
use Rattle.path_core.specs.State.{PathState}
use Rattle.run_outside.specs.declared.input.Input.{Input}
use Rattle.world_core.specs.Kept.{standing}
use Rattle.world_core.specs.Logged.{turn_of, all_turns}
use Rattle.world_laws.specs.declared.member.Member.TheVariants.{App, Path}
use Rattle.world_laws.specs.Actors.{Actor, ActorCrew, is_over, member_asks, member_next, member_takes}
use Rattle.world_laws.specs.Openings.{PathPlan, Start, paths_from, plans_from, start_of}
use Rattle.world_laws.specs.Worlds.{AreLawful, after_turn, all_over, begins, crew_after, end_round, greatest, is_going, stepped, asked, world_run, world_step}
use Rattle.world_laws.proofs.Rounds.Frame.{first_stands}
use Rattle.world_laws.proofs.Weaving.WholeRounds.{run_append, lawful_append}
use Rattle.connection_table.specs.Tables.{Connection, Entry, IsHeld, Stands, StandsAlone, first_of, has_path, is_path, is_path_crew, key_token, opened_entry}

-- ---- it stands alone

-- a turn more
module _ (e : Entry) (turn : noted.Turn) (stands : Stands e) (alone : StandsAlone e) where
  abbrev more : Entry
  more = record e { turns = e.turns ++ turn ∷ []; world = standing (after_turn octets (turn_of turn) e.world.state) }

  turns_are : all_turns (e.turns ++ turn ∷ []) ≡ all_turns e.turns ++ turn_of turn ∷ []
  turns_are = map-append turn_of e.turns (turn ∷ [])

  is_run : after_turn octets (turn_of turn) e.world.state ≡ world_run octets (all_turns (e.turns ++ turn ∷ [])) (first_of e.input)
  is_run =
      ap (after_turn octets (turn_of turn)) (alone.is stands)
      ∙ sym (run_append octets (all_turns e.turns) (turn_of turn ∷ []) (first_of e.input))
      ∙ ap (λ ts. world_run octets ts (first_of e.input)) (sym turns_are)

  more_lawful : AreLawful octets (turn_of turn ∷ []) e.world.state → AreLawful octets (all_turns (e.turns ++ turn ∷ [])) (first_of e.input)
  more_lawful lawful =
      subst (λ ts. AreLawful octets ts (first_of e.input)) (sym turns_are)
      (lawful_append octets (all_turns e.turns) (turn_of turn ∷ []) (first_of e.input) (alone.lawful stands)
      (subst (AreLawful octets (turn_of turn ∷ [])) (alone.is stands) lawful))

  pub alone_more : AreLawful octets (turn_of turn ∷ []) e.world.state → StandsAlone more
  alone_more lawful = record { is = λ _. is_run; lawful = λ _. more_lawful lawful }

-- what failed may be anything
pub stopped_alone : (e : Entry) → e.world.failed ≡ true → StandsAlone e
stopped_alone e stopped =
    let no : Stands e → ⊥ = λ stands. false≢true (sym stands ∙ stopped) in
    record { is = λ stands. absurd (no stands); lawful = λ stands. absurd (no stands) }

-- ---- it has a path

-- one of another kind in a place changes none of this
any_set : {X : Type 0} (test : X → Bool) (xs : List X) (i : ℕ) (x y : X) → slice_get xs i ≡ Some x → test y ≡ test x → list_any test (slice_set xs i y) ≡ list_any test xs
any_set test [] i x y there same = cc
any_set test (z ∷ xs) zero x y there same = ap (λ b. b || list_any test xs) (same ∙ ap test (sym (same_Some z x there)))
any_set test (z ∷ xs) (suc i) x y there same = ap (λ b. test z || b) (any_set test xs i x y there same)

takes_kind : (r : Reply) (m : Actor (List ℕ)) → is_path (member_takes octets r m) ≡ is_path m
takes_kind r (App a) = refl
takes_kind r (Path p) = refl

next_kind : (m : Actor (List ℕ)) → is_path (member_next m) ≡ is_path m
next_kind (App a) = refl
next_kind (Path p) = refl

step_path : (actor : ℕ) (w : Connection) → has_path (world_step octets actor w) ≡ has_path w
step_path actor w = by (slice_get w.crew actor) refl
  where
    ask : (c : ActorCrew (List ℕ)) (o : Option Ask) → slice_get w.crew actor ≡ Some c → has_path (asked octets actor o c w) ≡ has_path w
    ask c None there = refl
    ask c (Some a) there = any_set is_path_crew w.crew actor c (crew_after octets a w.books c) there (takes_kind _ c.member)

    by : (o : Option (ActorCrew (List ℕ))) → slice_get w.crew actor ≡ o → has_path (stepped octets actor o w) ≡ has_path w
    by None there = refl
    by (Some c) there = ask c (member_asks octets c.member) there

begun_path : (stamp : ℕ) (crew : List (ActorCrew (List ℕ))) → list_any is_path_crew (map (begins stamp) crew) ≡ list_any is_path_crew crew
begun_path stamp [] = refl
begun_path stamp (c ∷ crew) = ap (λ b. b || list_any is_path_crew (map (begins stamp) crew)) (next_kind c.member) ∙ ap (λ b. is_path c.member || b) (begun_path stamp crew)

end_path : (w : Connection) → has_path (end_round w) ≡ has_path w
end_path w = by (all_over w.crew)
  where
    by : (b : Bool) → has_path (if b then record w { crew = map (begins (greatest 0 w.crew)) w.crew } else w) ≡ has_path w
    by true = begun_path (greatest 0 w.crew) w.crew
    by false = refl

first_path : (start : Start) (plans : List PathPlan) → 0 < length plans → list_any is_path_crew (paths_from {C = List ℕ} start 0 plans) ≡ true
first_path start [] some = absurd (omega arith)
first_path start (plan ∷ plans) some = refl

some_plan : (script : Script) (lines : List PathLine) → 0 < length lines → 0 < length (plans_from script 0 lines)
some_plan script [] some = absurd (omega arith)
some_plan script (line ∷ lines) some = omega arith

pub opened_path : (input : Input) → 0 < length input.script.paths → has_path (first_of input) ≡ true
opened_path input some = first_path (start_of input.script input.file_a input.file_b) (plans_from input.script 0 input.script.paths) (some_plan input.script input.script.paths some)

-- ---- a round that just began isn't over

path_begins : (stamp : ℕ) (m : Actor (List ℕ)) → is_path m ≡ true → is_over (member_next m) ≡ false
path_begins stamp (App a) is = absurd (false≢true is)
path_begins stamp (Path p) is = let q : PathState (List ℕ) = record p { clock = p.until; until = p.until + 100 } in first_stands q

begun_stands : (stamp : ℕ) (crew : List (ActorCrew (List ℕ))) → list_any is_path_crew crew ≡ true → all_over (map (begins stamp) crew) ≡ false
begun_stands stamp [] is = absurd (false≢true is)
begun_stands stamp (c ∷ crew) is = by (is_path c.member) refl is (λ rest. begun_stands stamp crew rest)
  where
    later : (b : Bool) → all_over (map (begins stamp) crew) ≡ false → (b && all_over (map (begins stamp) crew)) ≡ false
    later true e = e
    later false e = refl

    by : (b : Bool) → is_path c.member ≡ b → (b || list_any is_path_crew crew) ≡ true → (list_any is_path_crew crew ≡ true → all_over (map (begins stamp) crew) ≡ false)
        → (is_over (member_next c.member) && all_over (map (begins stamp) crew)) ≡ false
    by true path is next = ap (λ b. b && all_over (map (begins stamp) crew)) (path_begins stamp c.member path)
    by false path is next = later (is_over (member_next c.member)) (next is)

-- ---- all of it

pub opened_held : (input : Input) (room : ℕ) → 0 < length input.script.paths → 0 < room → IsHeld (key_token input.script) room false (opened_entry input)
opened_held input room some spare = record {
  failed_is = refl;
  token_is = refl;
  alone = record { is = λ _. refl; lawful = λ _. tt };
  path = λ _. opened_path input some;
  room_for_end = λ none _. absurd (omega arith);
}

-- a step was made
pub step_held : (token room left actor : ℕ) (e : Entry) → IsHeld token room false e → is_going actor e.world.state ≡ true → 0 < left
    → IsHeld token left false (record e { turns = e.turns ++ Step actor ∷ []; world = standing (world_step octets actor e.world.state) })
step_held token room left actor e held going spare =
    let stands = sym held.failed_is in
    record {
      failed_is = refl;
      token_is = held.token_is;
      alone = alone_more e (Step actor) stands held.alone (going, tt);
      path = λ _. step_path actor e.world.state ∙ held.path stands;
      room_for_end = λ none _. absurd (omega arith);
    }

-- the round ended
pub end_held : (token room left : ℕ) (e : Entry) → IsHeld token room false e → all_over e.world.state.crew ≡ true
    → IsHeld token left false (record e { turns = e.turns ++ Round ∷ []; world = standing (end_round e.world.state) })
end_held token room left e held over =
    let stands = sym held.failed_is in
    record {
      failed_is = refl;
      token_is = held.token_is;
      alone = alone_more e Round stands held.alone (over, tt);
      path = λ _. end_path e.world.state ∙ held.path stands;
      room_for_end = λ _ _. subst (λ b. all_over (if b then record e.world.state { crew = map (begins (greatest 0 e.world.state.crew)) e.world.state.crew } else e.world.state).crew ≡ false)
          (sym over) (begun_stands (greatest 0 e.world.state.crew) e.world.state.crew (held.path stands));
    }
