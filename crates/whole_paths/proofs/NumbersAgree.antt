-- Data ACKs acknowledge as many bytes as SND.UNA tells positions, and each record is passed whole: so the numbers of a direction agree.
use Rattle.std.proofs.Common.{◌≡◌, refl, sym, subst, ◌⊎◌, inl, inr, ⊎_elim, suc, ◌<◌, ◌≤◌, arith, Bool, true, false, true≢false, List, []}
use Rattle.sides.specs.declared.side.Side.{Side}
use Rattle.subflow_send.specs.Records.{Record}
use Rattle.subflow_tcp.specs.States.{is_dead}
use Rattle.subflow_tcp.specs.declared.handshake.State.{State as EndPhase}
use Rattle.subflow_tcp.specs.declared.handshake.State.TheVariants as phase
use Rattle.path_core.specs.End.{PathEnd}
use Rattle.path_core.specs.State.{end_at}
use Rattle.path_core.specs.Values.{values}
use Rattle.world_laws.specs.Members.{HoldsOfKind}
use Rattle.world_laws.specs.Openings.{PathPlan, Start}
use Rattle.world_laws.specs.RoundDone.{reached}
use Rattle.world_laws.specs.Worlds.{Turn}
use Rattle.whole_paths.specs.AsFar.{stage}
use Rattle.whole_paths.specs.CutRecords.{NoneIsCut}
use Rattle.whole_paths.specs.Delivery.{IsAllThere}
use Rattle.whole_paths.specs.DirectionWaits.{ArePassedWhole, NumbersAgree, NumbersAlwaysAgree, RecordsArePassedWhole}
use Rattle.whole_paths.specs.Kept.{IsSameRecord}
use Rattle.whole_paths.specs.Mending.{IsRecordOf}
use Rattle.whole_paths.specs.OnePathScripts.{BeginsWithOnePath}
use Rattle.whole_paths.specs.OpenCourses.{IsOpenAfter}
use Rattle.whole_paths.specs.WholeMappings.{HasRecord}
use Rattle.whole_paths.proofs.AckedData.{positions_are_acked_as_bytes}
use Rattle.whole_paths.proofs.CutRecords.{checked_records_are_passed_whole}
use Rattle.whole_paths.proofs.DataLeft.{EndsAreBegun, each_is_begun}
use Rattle.whole_paths.proofs.Flying.{same_record}
use Rattle.whole_paths.proofs.HeardBelow.{heard_lies_below}
use Rattle.whole_paths.proofs.PassedWhole.{unchecked_records_are_passed_whole}
use Rattle.whole_paths.proofs.SegmentRounds.{if_may, of_path, unfinished}

living_low : (state : EndPhase) → is_dead state ≡ false → stage state ≤ 6
living_low phase.Dead living = absurd (true≢false living)
living_low _ living = omega arith

module _ (start : Start) (plan : PathPlan) (s : Side) (one : BeginsWithOnePath start plan) where
  module _ (turns : List Turn) (h : IsOpenAfter start turns) where
    abbrev e : PathEnd
    e = end_at s h.path

    some : 0 < e.tcp.send.una
    some = let begun = of_path start one.mild turns h.path EndsAreBegun h.here ((each_is_begun values start turns).each 2 h.here.crew h.here.there) in
        let least = (begun s).past (h.is_open.past s) (living_low e.tcp.state (h.is_open.living s)) in omega (arith, least)

    pub below : IsAllThere s (reached values start turns) ⊎ (e.sending.heard < e.tcp.send.una)
    below = ⊎_elim (λ all. inl all) (λ low. inr (let least = some in omega (arith, low, least))) (heard_lies_below start plan turns one h.path h.here h.is_open.living s)

    pub level : h.path.agenda ≡ [] → IsAllThere s (reached values start turns) ⊎ (e.tcp.send.una ≤ suc e.sending.heard)
    level over = if_may start one.mild (IsAllThere s (reached values start turns) ⊎ (e.tcp.send.una ≤ suc e.sending.heard)) turns h.path h.here h.is_open s (λ all. inl all)
        (λ may. inr (positions_are_acked_as_bytes start plan turns one h.path h.here over h.is_open.living s (unfinished start one.mild turns h.path h.here s may)).heard)

  pub agree : ArePassedWhole start s → NumbersAgree start s
  agree whole = record { below = below; level = level; whole = whole }

has_same : (r : Record) (e : PathEnd) → IsRecordOf e r → HasRecord r e
has_same r e h = record { at = h.at; item = h.item; there = h.there; holds = subst (IsSameRecord r) (sym h.holds) (same_record r) }

-- where records are passed whole
pub numbers_agree_so : (start : Start) (plan : PathPlan) (s : Side) → BeginsWithOnePath start plan → ArePassedWhole start s → NumbersAgree start s
numbers_agree_so start plan s one whole = agree start plan s one whole

pub records_are_passed_whole : RecordsArePassedWhole
records_are_passed_whole start s mild = by start.checksums refl
  where
    by : (b : Bool) → start.checksums ≡ b → ArePassedWhole start s
    by true checked turns h r has kind = (subst (HoldsOfKind (λ app. Unit {0}) NoneIsCut) h.here.is (checked_records_are_passed_whole start turns mild checked h.here.crew h.here.there)) s r (has_same r (end_at s h.path) has) kind
    by false unchecked turns h r has kind = unchecked_records_are_passed_whole start turns mild unchecked h.path h.here h.is_open.living s r has kind

pub numbers_always_agree : NumbersAlwaysAgree
numbers_always_agree start plan s one = agree start plan s one (records_are_passed_whole start s one.mild)

pub checked_numbers_agree : (start : Start) (plan : PathPlan) (s : Side) → BeginsWithOnePath start plan → start.checksums ≡ true → NumbersAgree start s
checked_numbers_agree start plan s one checked = numbers_always_agree start plan s one
