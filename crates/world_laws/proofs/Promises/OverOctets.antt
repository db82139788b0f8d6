-- What a world over segments as values promises, it promises shown over octets: books and notes are the same.
use Rattle.world_laws.proofs.Words.{◌≡◌, refl, sym, ◌∙◌, ap, subst, ℕ, zero, suc, ◌+◌, ◌-◌, nat_lt, if◌then◌else◌, List, [], ◌∷◌, ◌++◌, length, map, slice_get}
use Rattle.world_laws.proofs.Words.{IsPrefix, Side, A, B, received, start_of_turn, pick, first_app_turn, waiting_path, with_agenda, Carried, values, octets}
use Rattle.world_laws.proofs.Words.{same_settled, StepsOrStays, flattened, App, Path, ActorCrew, PathPlan, Start, path_begins, new_crew, new_path, paths_from}
use Rattle.world_laws.proofs.Words.{opened_world, WorldState, Turn, world_run, was_told_end, BothKeepTheirWord, NothingCame, IsOneStep, NothingWasRefused}
use Rattle.world_laws.proofs.Words.{JoinsAreRight, AddressesAreRight, KeysNeverDiffer, tells_bad_address, tells_wrong_join, tells_other_key, arrived_at}
use Rattle.world_laws.proofs.Words.{tells_refusal, KeepsItsWord, AreFresh, shown_crew, shown_world, notes_at, notes_of, output_of, pipe_of, read_by, was_told}
use Rattle.world_laws.proofs.Words.{tells_end, BothKeepCount, PrefixUntilTheFall, StaysRight, octet_at, KeepsCount}
use Rattle.stream_apps.specs.Starts.{fast_close_of}
use Rattle.world_laws.proofs.Worlds.Carrying.{run_same}

-- ---- notes

pub same_notes_at : (i : ℕ) (crew : List (ActorCrew Carried)) → notes_at i (map shown_crew crew) ≡ notes_at i crew
same_notes_at i [] = refl
same_notes_at zero (c ∷ crew) = refl
same_notes_at (suc i) (c ∷ crew) = same_notes_at i crew

pub same_notes_of : (s : Side) (w : WorldState Carried) → notes_of s (shown_world w).crew ≡ notes_of s w.crew
same_notes_of s w = same_notes_at (pick s 0 1) w.crew

same_output : (s : Side) (w : WorldState Carried) → output_of s (shown_world w) ≡ output_of s w
same_output s w = ap read_by (same_notes_of s w)

pub same_told : (s : Side) (w : WorldState Carried) → was_told_end s (shown_world w) ≡ was_told_end s w
same_told s w = ap (was_told tells_end) (same_notes_of s w)

-- ---- promises

word_shown : (writer reader : Side) (w : WorldState Carried) → KeepsItsWord writer reader w → KeepsItsWord writer reader (shown_world w)
word_shown writer reader w h = record {
  prefix = record { rest = h.prefix.rest; whole_is = h.prefix.whole_is ∙ ap (λ xs. xs ++ h.prefix.rest) (sym (same_output reader w)) };
  acked = h.acked;
  arrived = h.arrived;
  fin = h.fin;
  told = λ is. let whole = h.told (sym (same_told reader w) ∙ is) in (whole.0, same_output reader w ∙ whole.1);
}

pub both_shown : (w : WorldState Carried) → BothKeepTheirWord w → BothKeepTheirWord (shown_world w)
both_shown w h = record { ab = word_shown A B w h.ab; ba = word_shown B A w h.ba }

count_shown : (writer reader : Side) (w : WorldState Carried) → KeepsCount writer reader w → KeepsCount writer reader (shown_world w)
count_shown writer reader w h = record {
  acked = h.acked;
  arrived = h.arrived;
  fin = h.fin;
  told = λ is. let all = h.told (sym (same_told reader w) ∙ is) in (all.0, ap (λ (xs : List ℕ). length xs) (same_output reader w) ∙ all.1);
}

pub counts_shown : (w : WorldState Carried) → BothKeepCount w → BothKeepCount (shown_world w)
counts_shown w h = record { ab = count_shown A B w h.ab; ba = count_shown B A w h.ba }

pub prefix_shown : (w : WorldState Carried) → PrefixUntilTheFall w → PrefixUntilTheFall (shown_world w)
prefix_shown w h = (λ none. front B (h.0 none), λ none. front A (h.1 none))
  where
    front : (s : Side) {whole : List ℕ} → IsPrefix (output_of s w) whole → IsPrefix (output_of s (shown_world w)) whole
    front s {whole} is = subst (λ xs. IsPrefix xs whole) (sym (same_output s w)) is

same_octet : (reader : Side) (w : WorldState Carried) (place : ℕ) → octet_at reader (shown_world w) place ≡ octet_at reader w place
same_octet reader w place =
    ap (λ (out : List ℕ). if nat_lt place (arrived_at reader w).read then slice_get out place
    else flattened (slice_get (arrived_at reader w).places (place - (arrived_at reader w).read))) (same_output reader w)

pub stays_shown : (writer reader : Side) (w v : WorldState Carried) → StaysRight writer reader w v → StaysRight writer reader (shown_world w) (shown_world v)
stays_shown writer reader w v h place octet there =
    let right = h place octet (sym (same_octet reader w place) ∙ there) in (right.0, same_octet reader v place ∙ right.1)

pub came_shown : (writer reader : Side) (w v : WorldState Carried) → NothingCame writer reader w v → NothingCame writer reader (shown_world w) (shown_world v)
came_shown writer reader w v h = record { read = same_output reader v ∙ h.read ∙ sym (same_output reader w); written = h.written }

same_pipe : (writer reader : Side) (w : WorldState Carried) → pipe_of writer reader (shown_world w) ≡ pipe_of writer reader w
same_pipe writer reader w = ap (λ told. record (pipe_of writer reader w) { told_end = told }) (same_told reader w)

pub step_shown : (writer reader : Side) (w v : WorldState Carried) → IsOneStep writer reader w v → IsOneStep writer reader (shown_world w) (shown_world v)
step_shown writer reader w v h =
    subst (λ p. StepsOrStays (received (arrived_at reader w)) p (pipe_of writer reader (shown_world v))) (sym (same_pipe writer reader w))
    (subst (λ q. StepsOrStays (received (arrived_at reader w)) (pipe_of writer reader w) q) (sym (same_pipe writer reader v)) h)

pub refused_shown : (w : WorldState Carried) → NothingWasRefused w → NothingWasRefused (shown_world w)
refused_shown w h actor = ap (was_told tells_refusal) (same_notes_at actor w.crew) ∙ h actor

pub keys_shown : (w : WorldState Carried) → KeysNeverDiffer w → KeysNeverDiffer (shown_world w)
keys_shown w h actor = ap (was_told tells_other_key) (same_notes_at actor w.crew) ∙ h actor

pub joins_shown : (w : WorldState Carried) → JoinsAreRight w → JoinsAreRight (shown_world w)
joins_shown w h actor = ap (was_told tells_wrong_join) (same_notes_at actor w.crew) ∙ h actor

pub addresses_shown : (w : WorldState Carried) → AddressesAreRight w → AddressesAreRight (shown_world w)
addresses_shown w h actor = ap (was_told tells_bad_address) (same_notes_at actor w.crew) ∙ h actor

-- ---- from the opening on

paths_same : (start : Start) (first : ℕ) (plans : List PathPlan) → map shown_crew (paths_from start first plans) ≡ paths_from start first plans
paths_same start first [] = refl
paths_same start first (plan ∷ plans) =
    ap (λ p. new_crew (2 + first) (Path p) ∷ map shown_crew (paths_from start (suc first) plans)) (sym (same_settled start_of_turn (with_agenda start_of_turn (waiting_path (path_begins start first plan) start.lines))))
    ∙ ap (λ crew. new_path start first plan ∷ crew) (paths_same start (suc first) plans)

opened_same : (start : Start) → shown_world (opened_world start) ≡ opened_world start
opened_same start =
    ap (λ crew. record (opened_world {C = List ℕ} start) {
      crew = shown_crew (new_crew 0 (App (first_app_turn A start.buffer start.file_a (fast_close_of A start.lines)))) ∷ shown_crew (new_crew 1 (App (first_app_turn B start.buffer start.file_b (fast_close_of B start.lines)))) ∷ crew;
    })
    (paths_same start 0 start.paths)

-- after fresh turns
pub run_shown : (start : Start) (turns : List Turn) → AreFresh turns (opened_world start)
    → world_run octets turns (opened_world start) ≡ shown_world (world_run values turns (opened_world start))
run_shown start turns fresh = ap (world_run octets turns) (sym (opened_same start)) ∙ run_same turns (opened_world start) fresh
