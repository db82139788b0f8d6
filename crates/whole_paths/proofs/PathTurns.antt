-- What holds between each path and what a turn makes of it, at path 0 after given turns; and path 0 as a round begins.
use Rattle.std.proofs.Common.{◌≡◌, sym, subst, ap, ◌∙◌, true, if◌then◌else◌, Some, List, [], ◌∷◌, ◌++◌, map}
use Rattle.std.specs.List.{slice_get}
use Rattle.std.proofs.lemmas.Option.{same_Some}
use Rattle.stream_lanes.proofs.Lists.{in_map}
use Rattle.actor_desk.specs.declared.ask.Note.{Note}
use Rattle.actor_desk.specs.Books.{books_in}
use Rattle.actor_desk.specs.Desk.{SixBooks}
use Rattle.path_core.specs.State.{PathState}
use Rattle.path_core.specs.Steps.{next_round}
use Rattle.path_core.specs.Values.{Carried, values}
use Rattle.world_laws.specs.declared.member.Member.TheVariants.{Path}
use Rattle.world_laws.specs.Actors.{Actor, ActorCrew, member_next}
use Rattle.world_laws.specs.Openings.{Start, opened_world}
use Rattle.world_laws.specs.RoundDone.{reached}
use Rattle.world_laws.specs.Worlds.{Turn, WorldState, after_turn, all_over, begins, greatest}
use Rattle.world_laws.proofs.Weaving.WholeRounds.{run_append}
use Rattle.whole_paths.specs.Between.{EachPathBetween, PathsBetween}
use Rattle.whole_paths.specs.Finish.{IsPathAt}
use Rattle.whole_paths.proofs.ByTurns.{Of}

module _ (start : Start) (turns : List Turn) (turn : Turn) (p q : PathState Carried) (here : IsPathAt 0 (reached values start turns) p) (there : IsPathAt 0 (reached values start (turns ++ turn ∷ [])) q) where
  abbrev w : WorldState Carried
  w = reached values start turns

  abbrev v : WorldState Carried
  v = reached values start (turns ++ turn ∷ [])

  same : v ≡ after_turn values turn w
  same = run_append values turns (turn ∷ []) (opened_world start)

  now : slice_get (after_turn values turn w).crew 2 ≡ Some there.crew
  now = subst (λ (u : WorldState Carried). slice_get u.crew 2 ≡ Some there.crew) same there.there

  pub at_turn : (R : SixBooks → SixBooks → List Note → PathState Carried → PathState Carried → Type 0) → EachPathBetween values R → R (books_in w.books) (books_in v.books) there.crew.list p q
  at_turn R between =
      let found = between w turn 2 here.crew here.there in
      let far : PathsBetween R w.books (after_turn values turn w).books there.crew.list here.crew.member there.crew.member
      = subst (λ (d : ActorCrew Carried). PathsBetween R w.books (after_turn values turn w).books d.list here.crew.member d.member) (same_Some found.0 there.crew (sym found.1 ∙ now)) found.2 in
      subst (λ (u : WorldState Carried). R (books_in w.books) (books_in u.books) there.crew.list p q) (sym same)
      (subst (λ m. PathsBetween R w.books (after_turn values turn w).books there.crew.list (Path p) m) there.is
      (subst (λ m. PathsBetween R w.books (after_turn values turn w).books there.crew.list m there.crew.member) here.is far))

-- where each turn is over
module _ (start : Start) (turns : List Turn) (over : all_over (reached values start turns).crew ≡ true) (p q : PathState Carried) (here : IsPathAt 0 (reached values start turns) p)
    (there : IsPathAt 0 (reached values start (turns ++ Turn.Round ∷ [])) q) where
  abbrev old : WorldState Carried
  old = reached values start turns

  abbrev next : WorldState Carried
  next = record old { crew = map (begins (greatest 0 old.crew)) old.crew }

  round_is : reached values start (turns ++ Turn.Round ∷ []) ≡ next
  round_is = run_append values turns (Turn.Round ∷ []) (opened_world start) ∙ ap (λ b. if b then next else old) over

  pub at_round : (P : PathState Carried → Type 0) → P (next_round p) → P q
  at_round P h =
      let found = in_map (begins (greatest 0 old.crew)) old.crew 2 there.crew (subst (λ (u : WorldState Carried). slice_get u.crew 2 ≡ Some there.crew) round_is there.there) in
      let first : found.0 ≡ here.crew = same_Some found.0 here.crew (sym found.1 ∙ here.there) in
      let member : member_next here.crew.member ≡ there.crew.member = ap (λ (c : ActorCrew Carried). member_next c.member) (sym first) ∙ ap (λ (c : ActorCrew Carried). c.member) found.2 in
      subst (Of P) there.is (subst (Of P) member (subst (λ (m : Actor Carried). Of P (member_next m)) (sym here.is) h))
