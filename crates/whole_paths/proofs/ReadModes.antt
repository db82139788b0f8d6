-- In a mild connection no side falls back or is stopped, so that each of its ends goes on reading mappings.
use Rattle.std.proofs.Common.{◌≡◌, refl, sym, ◌∙◌, Bool, true, false, true≢false}
use Rattle.sides.specs.declared.side.Side.{Side}
use Rattle.fallback_state.specs.declared.fall.Mode.{Mode}
use Rattle.fallback_state.specs.declared.fall.Mode.TheVariants as modes
use Rattle.fallback_state.specs.Modes.{reads_mappings}
use Rattle.control_book.specs.Replies.{is_aborted}
use Rattle.path_core.specs.State.{PathState, end_at}
use Rattle.path_core.specs.Values.{Carried, values}
use Rattle.world_laws.specs.declared.member.Member.TheVariants.{App, Path}
use Rattle.world_laws.specs.Actors.{Actor}
use Rattle.world_laws.specs.Members.{HoldsOfKind}
use Rattle.world_laws.specs.ModesSoFar.{was_ever}
use Rattle.world_laws.specs.NeverFalls.{is_fallen_back}
use Rattle.world_laws.specs.RoundDone.{reached}
use Rattle.world_laws.proofs.Whole.Falls.{sides_never_fall}
use Rattle.whole_paths.specs.ReadModes.{EndsReadMappings, ReadsMappings}
use Rattle.whole_paths.proofs.KnownModes.{ends_know_what_was}
use Rattle.whole_paths.proofs.NeverAborted.{no_side_is_stopped}

reads : (m : Mode) → is_fallen_back m ≡ false → is_aborted m ≡ false → reads_mappings m ≡ true
reads modes.Starting fallen stopped = refl
reads modes.Sure fallen stopped = refl
reads modes.InfiniteSend fallen stopped = refl
reads modes.Identity fallen stopped = absurd (true≢false fallen)
reads modes.InfiniteReceive fallen stopped = absurd (true≢false fallen)
reads modes.InfiniteBoth fallen stopped = absurd (true≢false fallen)
reads modes.Aborted fallen stopped = absurd (true≢false stopped)

none : (b c : Bool) → c ≡ false → (b ≡ true → c ≡ true) → b ≡ false
none true c never knows = absurd (true≢false (sym (knows refl) ∙ never))
none false c never knows = refl

pub ends_read_mappings : EndsReadMappings
ends_read_mappings start turns mild actor c there =
    by c.member (ends_know_what_was values is_fallen_back refl start turns actor c there) (ends_know_what_was values is_aborted refl start turns actor c there)
  where
    by : (m : Actor Carried) → HoldsOfKind (λ app. Unit {0}) (λ (p : PathState Carried). (s : Side) → is_fallen_back (end_at s p).modes.mode ≡ true → was_ever is_fallen_back s (reached values start turns) ≡ true) m
        → HoldsOfKind (λ app. Unit {0}) (λ (p : PathState Carried). (s : Side) → is_aborted (end_at s p).modes.mode ≡ true → was_ever is_aborted s (reached values start turns) ≡ true) m
        → HoldsOfKind (λ app. Unit {0}) ReadsMappings m
    by (App a) fallen stopped = tt
    by (Path p) fallen stopped = λ s. reads (end_at s p).modes.mode
        (none (is_fallen_back (end_at s p).modes.mode) (was_ever is_fallen_back s (reached values start turns)) (sides_never_fall start turns mild.plain mild.strips s) (fallen s))
        (none (is_aborted (end_at s p).modes.mode) (was_ever is_aborted s (reached values start turns)) (no_side_is_stopped start turns mild s) (stopped s))
