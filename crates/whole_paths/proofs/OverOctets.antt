-- What is read off a world over octets is read off the world over segments as values that it shows.
use Rattle.std.proofs.Common.{◌≡◌, refl, sym, subst, ap, ◌∙◌, ◌⊎◌, inl, inr, ◌↔◌, ℕ, ◌+◌, ◌==◌, ◌≤◌, nat_le, nat_lt, Bool, not, if◌then◌else◌, ◌&&◌, ◌||◌, Option, Some, None, List, [], ◌∷◌, ◌++◌, length, map}
use Rattle.std.specs.Prelude.{option_map}
use Rattle.std.specs.List.{list_any, slice_get, sum_by}
use Rattle.std.proofs.lemmas.List.Sums.{sum_by-cons}
use Rattle.std.proofs.lemmas.Option.{slice_get-map}
use Rattle.sides.specs.declared.side.Side.{Side}
use Rattle.sides.specs.declared.side.Side.TheVariants.{A, B}
use Rattle.sides.specs.Side.{peer}
use Rattle.link_script.specs.declared.script.PathLine.{PathLine}
use Rattle.link_script.specs.declared.script.Script.{Script}
use Rattle.link_script.specs.Places.{same_side}
use Rattle.link_model.specs.declared.flight.Flight.{Flight}
use Rattle.link_model.specs.Laws.{shown_flight}
use Rattle.link_model.specs.Steps.{segments_sent}
use Rattle.stream_lanes.proofs.Lists.{in_map}
use Rattle.actor_desk.specs.Books.{books_in}
use Rattle.actor_desk.specs.Desk.{reassembly_of, send_of}
use Rattle.reassembly_book.specs.State.{received}
use Rattle.actor_desk.specs.declared.ask.Note.{Note}
use Rattle.path_core.specs.Octets.{octets}
use Rattle.path_core.specs.Shown.{octets_of, shown_path}
use Rattle.path_core.specs.State.{PathState, end_at}
use Rattle.path_core.specs.Values.{Carried, values}
use Rattle.subflow_tcp.specs.States.{is_dead}
use Rattle.path_core.specs.Standing.{is_connected}
use Rattle.world_laws.specs.declared.member.Member.TheVariants.{App, Path}
use Rattle.world_laws.specs.declared.outcome.Outcome.{Outcome}
use Rattle.world_laws.specs.declared.outcome.Outcome.TheVariants.{Delivered}
use Rattle.world_laws.specs.Actors.{Actor, ActorCrew, is_over}
use Rattle.world_laws.specs.Fresh.{AreFresh, shown_crew, shown_member, shown_world}
use Rattle.world_laws.specs.Members.{HoldsOfKind, of_kind}
use Rattle.world_laws.specs.Openings.{Start, opened_world, start_of}
use Rattle.world_laws.specs.Outcomes.{are_all_dead, is_no_live_path, notes_of, outcome_by, outcome_of, tells_abort, tells_end, was_told}
use Rattle.world_laws.specs.RoundDone.{reached}
use Rattle.world_laws.specs.Worlds.{WorldState, Turn, after_turn, all_over, goes, is_going, IsLawfulTurn, AreLawful}
use Rattle.world_laws.proofs.Joins.OverOctets.{same_end_at}
use Rattle.world_laws.proofs.Numbers.EveryTurn.{every_list_is_fresh}
use Rattle.world_laws.proofs.Promises.Made.{run_fresh}
use Rattle.world_laws.proofs.Promises.OverOctets.{same_notes_of}
use Rattle.world_laws.proofs.Worlds.Carrying.{run_same}
use Rattle.whole_paths.specs.Delivery.{AllIsThere}
use Rattle.whole_paths.specs.Finish.{AnEndDied, FewLossesEndNoneWhere, FewLossesFinishWhere, IsBrief, IsMild, IsPathAt, IsWhole, Patience, WholePathsDeliverWhere, harmed, harms_between, harms_of, is_harmed, rounds_in}
use Rattle.whole_paths.specs.Mild.{IsMildStart}
use Rattle.whole_paths.specs.News.{news, path_news, side_news}
use Rattle.whole_paths.specs.OnePathScripts.{AnEndDiedEarly, EndsAsItBegins, EndsAsItBeginsBy, harms_alone}
use Rattle.whole_paths.specs.OverOctets.{FewLossesFinishAsOverValues, IsAsFarAsOverValues, OctetsAreAsFarAsValues, OnePathEndsAsOverValues, BriefPathsDeliverAsOverValues, WholePathsDeliverAsOverValues}
use Rattle.whole_paths.proofs.OnePathScripts.{ends_always, ends_as_it_begins_by, mild_scripts_begin_with_one_path}

-- ---- lawful turns

same_over : (m : Actor Carried) → is_over (shown_member m) ≡ is_over m
same_over (App a) = refl
same_over (Path p) = refl

same_all_over : (crew : List (ActorCrew Carried)) → all_over (map shown_crew crew) ≡ all_over crew
same_all_over [] = refl
same_all_over (c ∷ crew) = ap (λ b. b && all_over (map shown_crew crew)) (same_over c.member) ∙ ap (λ b. is_over c.member && b) (same_all_over crew)

same_goes : (o : Option (ActorCrew Carried)) → goes (option_map shown_crew o) ≡ goes o
same_goes None = refl
same_goes (Some c) = ap not (same_over c.member)

same_going : (actor : ℕ) (w : WorldState Carried) → is_going actor (shown_world w) ≡ is_going actor w
same_going actor w = ap goes (slice_get-map shown_crew w.crew actor) ∙ same_goes (slice_get w.crew actor)

lawful_turn : (turn : Turn) (w : WorldState Carried) → IsLawfulTurn turn (shown_world w) ↔ IsLawfulTurn turn w
lawful_turn (Turn.Step actor) w = (λ is. sym (same_going actor w) ∙ is, λ is. same_going actor w ∙ is)
lawful_turn Turn.Round w = (λ is. sym (same_all_over w.crew) ∙ is, λ is. same_all_over w.crew ∙ is)

-- one turn, shown
pub shown_turn : (turn : Turn) (turns : List Turn) (w : WorldState Carried) → AreFresh (turn ∷ turns) w → after_turn octets turn (shown_world w) ≡ shown_world (after_turn values turn w)
shown_turn turn turns w fresh = run_same (turn ∷ []) w (fresh.0, tt)

lawful_shown : (turns : List Turn) (w : WorldState Carried) → AreFresh turns w → AreLawful octets turns (shown_world w) ↔ AreLawful values turns w
lawful_shown [] w fresh = (λ h. tt, λ h. tt)
lawful_shown (turn ∷ turns) w fresh =
    let one = lawful_turn turn w in
    let rest = lawful_shown turns (after_turn values turn w) fresh.1 in
    let same = shown_turn turn turns w fresh in
    (λ h. (one.0 h.0, rest.0 (subst (AreLawful octets turns) same h.1)), λ h. (one.1 h.0, subst (AreLawful octets turns) (sym same) (rest.1 h.1)))

-- ---- segments that are harmed

same_sent : (s : Side) (p : PathState Carried) → segments_sent s (shown_path p).link ≡ segments_sent s p.link
same_sent A p = refl
same_sent B p = refl

-- a test of all that a copy has but what it carries
same_any : (show : Carried → List ℕ) (test : ℕ → Side → ℕ → Bool) (fs : List (Flight Carried)) → list_any (λ f. test f.tick f.to f.number) (map (shown_flight show) fs) ≡ list_any (λ f. test f.tick f.to f.number) fs
same_any show test [] = refl
same_any show test (f ∷ fs) = ap (λ b. test f.tick f.to f.number || b) (same_any show test fs)

same_harmed : (s : Side) (p q : PathState Carried) → is_harmed s (shown_path p) (shown_path q) ≡ is_harmed s p q
same_harmed s p q =
    ap (λ n. nat_lt n (segments_sent s (shown_path q).link) && not (list_any (λ f. same_side f.to (peer s) && (f.number == segments_sent s (shown_path q).link && nat_le f.tick (p.clock + 400))) (shown_path q).link.under_way)) (same_sent s p)
    ∙ ap (λ n. nat_lt (segments_sent s p.link) n && not (list_any (λ f. same_side f.to (peer s) && (f.number == n && nat_le f.tick (p.clock + 400))) (shown_path q).link.under_way)) (same_sent s q)
    ∙ ap (λ b. nat_lt (segments_sent s p.link) (segments_sent s q.link) && not b)
    (same_any (octets_of q.profile.spelling) (λ tick to number. same_side to (peer s) && (number == segments_sent s q.link && nat_le tick (p.clock + 400))) q.link.under_way)

same_between : (m n : Actor Carried) → harms_between (shown_member m) (shown_member n) ≡ harms_between m n
same_between (Path p) (Path q) =
    ap (λ b. (if b then 1 else 0) + (if is_harmed B (shown_path p) (shown_path q) then 1 else 0)) (same_harmed A p q)
    ∙ ap (λ b. (if is_harmed A p q then 1 else 0) + (if b then 1 else 0)) (same_harmed B p q)
same_between (Path p) (App b) = refl
same_between (App a) n = refl

same_harms : (o e : Option (ActorCrew Carried)) → harms_of (option_map shown_crew o) (option_map shown_crew e) ≡ harms_of o e
same_harms (Some c) (Some d) = same_between c.member d.member
same_harms (Some c) None = refl
same_harms None e = refl

same_at : (number : ℕ) (w v : WorldState Carried)
    → harms_of (slice_get (shown_world w).crew (2 + number)) (slice_get (shown_world v).crew (2 + number)) ≡ harms_of (slice_get w.crew (2 + number)) (slice_get v.crew (2 + number))
same_at number w v =
    ap (λ o. harms_of o (slice_get (map shown_crew v.crew) (2 + number))) (slice_get-map shown_crew w.crew (2 + number))
    ∙ ap (harms_of (option_map shown_crew (slice_get w.crew (2 + number)))) (slice_get-map shown_crew v.crew (2 + number))
    ∙ same_harms (slice_get w.crew (2 + number)) (slice_get v.crew (2 + number))

harmed_shown : (number : ℕ) (turns : List Turn) (w : WorldState Carried) → AreFresh turns w → harmed octets number turns (shown_world w) ≡ harmed values number turns w
harmed_shown number [] w fresh = refl
harmed_shown number (turn ∷ turns) w fresh =
    let v : WorldState Carried = after_turn values turn w in
    ap (λ (u : WorldState (List ℕ)). harms_of (slice_get (shown_world w).crew (2 + number)) (slice_get u.crew (2 + number)) + harmed octets number turns u) (shown_turn turn turns w fresh)
    ∙ ap (λ n. n + harmed octets number turns (shown_world v)) (same_at number w v)
    ∙ ap (λ n. harms_of (slice_get w.crew (2 + number)) (slice_get v.crew (2 + number)) + n) (harmed_shown number turns v fresh.1)

-- ---- the outcome

same_live : (m : Actor Carried) → is_no_live_path (shown_member m) ≡ is_no_live_path m
same_live (App a) = refl
same_live (Path p) = refl

same_dead : (crew : List (ActorCrew Carried)) → are_all_dead (map shown_crew crew) ≡ are_all_dead crew
same_dead [] = refl
same_dead (c ∷ crew) = ap (λ b. b && are_all_dead (map shown_crew crew)) (same_live c.member) ∙ ap (λ b. is_no_live_path c.member && b) (same_dead crew)

same_outcome : (w : WorldState Carried) → outcome_of (shown_world w).crew ≡ outcome_of w.crew
same_outcome w =
    ap (λ notes. by notes (notes_of B (shown_world w).crew) (are_all_dead (shown_world w).crew)) (same_notes_of A w)
    ∙ ap (λ notes. by (notes_of A w.crew) notes (are_all_dead (shown_world w).crew)) (same_notes_of B w)
    ∙ ap (by (notes_of A w.crew) (notes_of B w.crew)) (same_dead w.crew)
  where
    by : List Note → List Note → Bool → Outcome
    by a b dead = outcome_by (was_told tells_abort a) (was_told tells_abort b) (was_told tells_end a && was_told tells_end b) dead

-- ---- ends

pub path_on : (number : ℕ) (w : WorldState Carried) (p : PathState Carried) → IsPathAt number w p → IsPathAt number (shown_world w) (shown_path p)
path_on number w p here = record {
  crew = shown_crew here.crew;
  there = slice_get-map shown_crew w.crew (2 + number) ∙ ap (option_map shown_crew) here.there;
  is = ap shown_member here.is;
}

same_path : (p q : PathState (List ℕ)) → ◌≡◌ {A = Actor (List ℕ)} (Path p) (Path q) → p ≡ q
same_path p q is = ap (of_kind (λ app. p) (λ x. x)) is

is_path : (m : Actor Carried) (p : PathState (List ℕ)) → shown_member m ≡ Path p → (q : PathState Carried) × (m ≡ Path q) × (shown_path q ≡ p)
is_path (App a) p is = absurd (subst (HoldsOfKind (λ app. Unit {0}) (λ x. ⊥)) is tt)
is_path (Path q) p is = (q, refl, same_path (shown_path q) p is)

path_back : (number : ℕ) (w : WorldState Carried) (p : PathState (List ℕ)) → IsPathAt number (shown_world w) p → (q : PathState Carried) × IsPathAt number w q × (shown_path q ≡ p)
path_back number w p here =
    let found = in_map shown_crew w.crew (2 + number) here.crew here.there in
    let path = is_path found.0.member p (ap (λ (c : ActorCrew (List ℕ)). c.member) found.2 ∙ here.is) in
    (path.0, record { crew = found.0; there = found.1; is = path.1 }, path.2)

-- an end of a path that is shown is that end
module _ (number : ℕ) (w : WorldState Carried) where
  whole_on : IsWhole number w → IsWhole number (shown_world w)
  whole_on h = record {
    path = shown_path h.path;
    here = path_on number w h.path h.here;
    connected = λ s. ap (λ e. is_connected e.tcp.state) (same_end_at s h.path) ∙ h.connected s;
    clear = λ s. ap (λ e. e.modes.clear) (same_end_at s h.path) ∙ h.clear s;
  }

  whole_back : IsWhole number (shown_world w) → IsWhole number w
  whole_back h =
      let found = path_back number w h.path h.here in
      let same : (s : Side) → end_at s found.0 ≡ end_at s h.path = λ s. sym (same_end_at s found.0) ∙ ap (end_at s) found.2 in
      record {
        path = found.0;
        here = found.1;
        connected = λ s. ap (λ e. is_connected e.tcp.state) (same s) ∙ h.connected s;
        clear = λ s. ap (λ e. e.modes.clear) (same s) ∙ h.clear s;
      }

  died_on : AnEndDied number w → AnEndDied number (shown_world w)
  died_on h = record {
    path = shown_path h.path;
    here = path_on number w h.path h.here;
    side = h.side;
    dead = ap (λ e. is_dead e.tcp.state) (same_end_at h.side h.path) ∙ h.dead;
  }

  died_back : AnEndDied number (shown_world w) → AnEndDied number w
  died_back h =
      let found = path_back number w h.path h.here in
      record {
        path = found.0;
        here = found.1;
        side = h.side;
        dead = ap (λ e. is_dead e.tcp.state) (sym (same_end_at h.side found.0) ∙ ap (end_at h.side) found.2) ∙ h.dead;
      }

-- ---- news

same_path_news : (start : Start) (m : Actor Carried) → of_kind (λ app. 0) (path_news start) (shown_member m) ≡ of_kind (λ app. 0) (path_news start) m
same_path_news start (App a) = refl
same_path_news start (Path p) = refl

same_sum : (start : Start) (crew : List (ActorCrew Carried)) → sum_by (λ c. of_kind (λ app. 0) (path_news start) c.member) (map shown_crew crew) ≡ sum_by (λ c. of_kind (λ app. 0) (path_news start) c.member) crew
same_sum start [] = refl
same_sum start (c ∷ crew) =
    sum_by-cons (λ c. of_kind (λ app. 0) (path_news start) c.member) (shown_crew c) (map shown_crew crew)
    ∙ ap (λ n. n + sum_by (λ c. of_kind (λ app. 0) (path_news start) c.member) (map shown_crew crew)) (same_path_news start c.member)
    ∙ ap (λ n. of_kind (λ app. 0) (path_news start) c.member + n) (same_sum start crew)
    ∙ sym (sum_by-cons (λ c. of_kind (λ app. 0) (path_news start) c.member) c crew)

same_news : (start : Start) (w : WorldState Carried) → news start (shown_world w) ≡ news start w
same_news start w = ap (λ n. n + side_news (books_in w.books) A + side_news (books_in w.books) B) (same_sum start w.crew)

-- ---- from the opening on

pub octets_are_as_far_as_values : OctetsAreAsFarAsValues
octets_are_as_far_as_values start turns size fit =
    let w : WorldState Carried = reached values start turns in
    let run : reached octets start turns ≡ shown_world w = run_fresh start turns size fit in
    let opens : opened_world start ≡ shown_world (opened_world start) = run_fresh start [] size fit in
    let fresh = every_list_is_fresh start turns size fit in
    let lawful = lawful_shown turns (opened_world start) fresh in
    record {
      lawful = (λ h. lawful.0 (subst (AreLawful octets turns) opens h), λ h. subst (AreLawful octets turns) (sym opens) (lawful.1 h));
      outcome = ap (λ (v : WorldState (List ℕ)). outcome_of v.crew) run ∙ same_outcome w;
      whole = λ number. (λ h. whole_back number w (subst (IsWhole number) run h), λ h. subst (IsWhole number) (sym run) (whole_on number w h));
      died = λ number. (λ h. died_back number w (subst (AnEndDied number) run h), λ h. subst (AnEndDied number) (sym run) (died_on number w h));
      harms = λ number. ap (harmed octets number turns) opens ∙ harmed_shown number turns (opened_world start) fresh;
      books = ap (λ (v : WorldState (List ℕ)). v.books) run;
      as_far = ap (news start) run ∙ same_news start w;
    }

-- ---- scripts

-- over octets as over values
pub as_far : (script : Script) (path : PathLine) (file_a file_b : List ℕ) → IsMild script path file_a file_b → (turns : List Turn) → IsAsFarAsOverValues (start_of script file_a file_b) turns
as_far script path file_a file_b mild turns =
    let starts = (mild_scripts_begin_with_one_path script path file_a file_b mild).mild in
    octets_are_as_far_as_values (start_of script file_a file_b) turns starts.plain.size starts.fit

deliver_where : (Also : Script → List Turn → Type 0) (enough : Patience) → WholePathsDeliverWhere values Also enough → WholePathsDeliverWhere octets Also enough
deliver_where Also enough deliver script path file_a file_b before more mild also lawful first last many =
    let whole = as_far script path file_a file_b mild (before ++ Turn.Round ∷ more) in
    let begun = as_far script path file_a file_b mild (before ++ Turn.Round ∷ []) in
    whole.outcome ∙ deliver script path file_a file_b before more mild also (whole.lawful.0 lawful) ((begun.whole 0).0 first) ((whole.whole 0).0 last)
    (subst (λ n. enough script path file_a file_b n ≤ rounds_in more) (whole.harms 0) many)

pub whole_paths_deliver_as_over_values : WholePathsDeliverAsOverValues
whole_paths_deliver_as_over_values = deliver_where (λ script turns. Unit {0})

pub brief_paths_deliver_as_over_values : BriefPathsDeliverAsOverValues
brief_paths_deliver_as_over_values = deliver_where IsBrief

pub ended : (start : Start) (turns : List Turn) → IsAsFarAsOverValues start turns → (outcome_of (reached values start turns).crew ≡ Delivered) ⊎ AnEndDied 0 (reached values start turns)
    → (outcome_of (reached octets start turns).crew ≡ Delivered) ⊎ AnEndDied 0 (reached octets start turns)
ended start turns whole (inl delivered) = inl (whole.outcome ∙ delivered)
ended start turns whole (inr died) = inr ((whole.died 0).1 died)

pub one_path_ends_as_over_values : OnePathEndsAsOverValues
one_path_ends_as_over_values enough ends script path file_a file_b turns mild also lawful many =
    let whole = as_far script path file_a file_b mild turns in
    ended (start_of script file_a file_b) turns whole (ends script path file_a file_b turns mild also (whole.lawful.0 lawful) (subst (λ n. enough script path file_a file_b n ≤ rounds_in turns) (whole.harms 0) many))

-- of scripts and turns that are so
module _ (Also : Script → List Turn → Type 0) where
  pub end_none_where : FewLossesEndNoneWhere values Also → FewLossesEndNoneWhere octets Also
  end_none_where none script path file_a file_b turns mild also harmless few died =
      let whole = as_far script path file_a file_b mild turns in
      none script path file_a file_b turns mild also harmless (subst (λ n. n ≤ 4) (whole.harms 0) few) ((whole.died 0).0 died)

  pub finish_where : (enough : Patience) → FewLossesFinishWhere values Also enough → FewLossesFinishWhere octets Also enough
  finish_where enough finish script path file_a file_b turns mild also harmless few lawful many =
      let whole = as_far script path file_a file_b mild turns in
      whole.outcome ∙ finish script path file_a file_b turns mild also harmless (subst (λ n. n ≤ 4) (whole.harms 0) few) (whole.lawful.0 lawful)
      (subst (λ n. enough script path file_a file_b n ≤ rounds_in turns) (whole.harms 0) many)

pub few_losses_finish_as_over_values : FewLossesFinishAsOverValues
few_losses_finish_as_over_values = finish_where (λ script turns. Unit {0})

-- ---- ends that died early

-- all of both streams is there by the books alone
pub there_by_books : {C D : Type 0} (w : WorldState C) (v : WorldState D) → w.books ≡ v.books → AllIsThere w → AllIsThere v
there_by_books w v same h = record {
  of = λ s. record {
    closed = ap (λ b. (send_of s (books_in b)).closed) (sym same) ∙ (h.of s).closed;
    received = ap (λ b. received (reassembly_of (peer s) (books_in b))) (sym same) ∙ (h.of s).received ∙ ap (λ b. length (send_of s (books_in b)).written) same;
    known = ap (λ b. (reassembly_of (peer s) (books_in b)).known_end) (sym same) ∙ (h.of s).known ∙ ap (λ b. Some (length (send_of s (books_in b)).written)) same;
  };
}

module _ (script : Script) (path : PathLine) (file_a file_b : List ℕ) (turns : List Turn) (mild : IsMild script path file_a file_b) where
  abbrev start : Start
  start = start_of script file_a file_b

  early_on : AnEndDiedEarly values start turns → AnEndDiedEarly octets start turns
  early_on h =
      let far = as_far script path file_a file_b mild h.first in
      record {
        first = h.first;
        rest = h.rest;
        is = h.is;
        died = (far.died 0).1 h.died;
        missing = λ all. h.missing (there_by_books (reached octets start h.first) (reached values start h.first) far.books all);
      }

  ended_on : (outcome_of (reached values start turns).crew ≡ Delivered) ⊎ AnEndDiedEarly values start turns → (outcome_of (reached octets start turns).crew ≡ Delivered) ⊎ AnEndDiedEarly octets start turns
  ended_on (inl delivered) = inl ((as_far script path file_a file_b mild turns).outcome ∙ delivered)
  ended_on (inr early) = inr (early_on early)

pub ends_as_it_begins_by_in_octets : EndsAsItBeginsBy octets
ends_as_it_begins_by_in_octets Also count counted bound same ends script path file_a file_b before more mild also brief lawful first many =
    let whole = as_far script path file_a file_b mild (before ++ Turn.Round ∷ more) in
    let begun = as_far script path file_a file_b mild (before ++ Turn.Round ∷ []) in
    ended_on script path file_a file_b (before ++ Turn.Round ∷ more) mild
    (ends_as_it_begins_by Also count counted bound same ends script path file_a file_b before more mild also brief (whole.lawful.0 lawful) ((begun.whole 0).0 first) many)

-- as many segments are harmed over octets
pub harms_as_over_values : (start : Start) → IsMildStart start → (turns : List Turn) → harms_alone octets start turns ≡ harms_alone values start turns
harms_as_over_values start mild turns = (octets_are_as_far_as_values start turns mild.plain.size mild.fit).harms 0

pub ends_as_it_begins_in_octets : EndsAsItBegins octets
ends_as_it_begins_in_octets bound ends script path file_a file_b before more mild =
    ends_as_it_begins_by_in_octets (λ start plan. Unit {0}) (harms_alone values) (harms_alone octets) bound harms_as_over_values (ends_always bound ends) script path file_a file_b before more mild tt
