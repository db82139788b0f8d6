-- The full segments that were read only grow, and there are no more than go for the files.
use Rattle.std.proofs.Common.{◌≡◌, refl, sym, subst, ◌∙◌, ⊎_elim, ℕ, ◌+◌, ◌/◌, ◌<◌, ◌≤◌, arith, Bool, true, false, nat_le, if◌then◌else◌, is_some, List, ◌++◌, length}
use Rattle.std.proofs.Math.Nat.{div-le_of_le-mul, div-mul-le_self, mul_comm}
use Rattle.std.proofs.lemmas.Bool.{cases_lt, le-leb, leb-true}
use Rattle.std.proofs.lemmas.Grind.{div_ceil_times}
use Rattle.std.proofs.lemmas.Nat.{le-div}
use Rattle.sides.specs.declared.side.Side.TheVariants.{A, B}
use Rattle.send_book.specs.State.{Sending}
use Rattle.reassembly_book.specs.State.{Arriving}
use Rattle.path_core.specs.Values.{Carried, values}
use Rattle.world_laws.specs.Openings.{PathPlan, Start, opened_world}
use Rattle.world_laws.specs.Promises.{arrived_at, written_by}
use Rattle.world_laws.specs.RoundDone.{reached}
use Rattle.world_laws.specs.Worlds.{Turn, WorldState, world_run}
use Rattle.world_laws.proofs.Weaving.WholeRounds.{run_append}
use Rattle.whole_paths.specs.AsFar.{IsArrivalAsFar, IsAsFar, IsSendAsFar}
use Rattle.whole_paths.specs.Finish.{payload_of, segments}
use Rattle.whole_paths.specs.SharpCourses.{most_units, segments_read, stream_units, units}
use Rattle.whole_paths.proofs.GoesOn.{goes_on_so}
use Rattle.whole_paths.proofs.News.{known_up, one_most, one_up}

some_payload : (mss : ℕ) → 0 < payload_of mss
some_payload mss = omega arith

-- below the end as many are read as fit at most
below_end : (mss length read : ℕ) → read ≤ length → read / payload_of mss ≤ segments mss length
below_end mss length read low =
    let all = (div_ceil_times length (payload_of mss) (some_payload mss)).0 in
    let turned = mul_comm (segments mss length) (payload_of mss) in
    div-le_of_le-mul (payload_of mss) {m = read} {n = segments mss length} (omega (arith, low, all, turned))

module _ (mss length : ℕ) where
  not_all : (read : ℕ) → nat_le length read ≡ false → read < length
  not_all read is = ⊎_elim (λ less. less) (λ more. absurd (no (sym is ∙ le-leb length read more))) (cases_lt read length)
    where
      no : false ≡ true → ⊥
      no same = cc

  pub segments_few : (read : ℕ) → segments_read mss length read ≤ segments mss length
  segments_few read = by (nat_le length read) refl
    where
      by : (b : Bool) → nat_le length read ≡ b → (if b then segments mss length else read / payload_of mss) ≤ segments mss length
      by true is = omega arith
      by false is = below_end mss length read (let less = not_all read is in omega (arith, less))

  pub segments_up : (read later : ℕ) → read ≤ later → segments_read mss length read ≤ segments_read mss length later
  segments_up read later up = by (nat_le length later) refl (nat_le length read) refl
    where
      of : Bool → ℕ → ℕ
      of b n = if b then segments mss length else n / payload_of mss

      by : (c : Bool) → nat_le length later ≡ c → (b : Bool) → nat_le length read ≡ b → (if b then segments mss length else read / payload_of mss) ≤ (if c then segments mss length else later / payload_of mss)
      by true all true is = omega arith
      by true all false is = below_end mss length read (let less = not_all read is in omega (arith, less))
      by false some true is = let less = not_all later some in let more = leb-true length read is in absurd (omega (arith, less, more, up))
      by false some false is = le-div (read / payload_of mss) later (payload_of mss) (some_payload mss) (let low = div-mul-le_self read (payload_of mss) in omega (arith, low, up))

-- ---- both streams

stream_up : (mss length : ℕ) (b c : Sending) (d e : Arriving) → IsSendAsFar b c → IsArrivalAsFar d e → stream_units mss length b d ≤ stream_units mss length c e
stream_up mss length b c d e sent arrived =
    let read = segments_up mss length d.read e.read arrived.read in
    let closed = one_up b.closed c.closed sent.closed in
    let known = known_up d.known_end e.known_end arrived.end in omega (arith, read, closed, known)

pub stream_few : (mss length : ℕ) (b : Sending) (d : Arriving) → stream_units mss length b d ≤ segments mss length + 2
stream_few mss length b d =
    let read = segments_few mss length d.read in
    let closed = one_most b.closed in
    let known = one_most (is_some d.known_end) in omega (arith, read, closed, known)

module _ (start : Start) (plan : PathPlan) where
  pub few_units : (w : WorldState Carried) → units start plan w ≤ most_units start plan
  few_units w =
      let a = stream_few plan.mss (length start.file_a) (written_by A w) (arrived_at B w) in
      let b = stream_few plan.mss (length start.file_b) (written_by B w) (arrived_at A w) in omega (arith, a, b)

  units_so : (w v : WorldState Carried) → IsAsFar w v → units start plan w ≤ units start plan v
  units_so w v h =
      let a = stream_up plan.mss (length start.file_a) (written_by A w) (written_by A v) (arrived_at B w) (arrived_at B v) (h.sides A).send (h.sides B).arrival in
      let b = stream_up plan.mss (length start.file_b) (written_by B w) (written_by B v) (arrived_at A w) (arrived_at A v) (h.sides B).send (h.sides A).arrival in omega (arith, a, b)

  pub units_up : (turns more : List Turn) → units start plan (reached values start turns) ≤ units start plan (reached values start (turns ++ more))
  units_up turns more = subst (λ (w : WorldState Carried). units start plan (reached values start turns) ≤ units start plan w) (sym (run_append values turns more (opened_world start)))
      (units_so (reached values start turns) (world_run values more (reached values start turns)) (goes_on_so values (reached values start turns) more))
