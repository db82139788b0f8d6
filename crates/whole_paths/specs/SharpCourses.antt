-- How many rounds a mild connection over one path takes, where a full segment that is read pays for 23, and a harm for 2,530.
use Rattle.std.specs.Prelude.{ℕ, ◌+◌, ◌*◌, ◌/◌, ◌≡◌, ◌<◌, ◌≤◌, ◌⊎◌, nat_le, if◌then◌else◌, is_some, List, [], ◌∷◌, length}
use Rattle.sides.specs.declared.side.Side.TheVariants.{A, B}
use Rattle.send_book.specs.State.{Sending}
use Rattle.reassembly_book.specs.State.{Arriving}
use Rattle.path_core.specs.Octets.{octets}
use Rattle.path_core.specs.Values.{values}
use Rattle.world_laws.specs.Openings.{PathPlan, Start}
use Rattle.world_laws.specs.Promises.{arrived_at, written_by}
use Rattle.world_laws.specs.RoundDone.{reached}
use Rattle.world_laws.specs.Worlds.{Turn, WorldState}
use Rattle.whole_paths.specs.Counts.{spare}
use Rattle.whole_paths.specs.Courses.{BeginsARound, TakesAStep, course_of, harmed_so_far, round_end}
use Rattle.whole_paths.specs.Delivery.{AllIsThere}
use Rattle.whole_paths.specs.Finish.{patience, payload_of, segments}
use Rattle.whole_paths.specs.News.{one_if}
use Rattle.whole_paths.specs.Mild.{IsMildStart}
use Rattle.whole_paths.specs.OnePathScripts.{Allowance, BeginsWithOnePath, BriefPathsEndBy, Count, EndsBy, NeverFalls}
use Rattle.whole_paths.specs.OpenCourses.{IsOpenAfter}
use Rattle.whole_paths.specs.PaidRounds.{AWaitBegins, AWaitGoesOn}
use Rattle.whole_paths.specs.Rounds.{System}

-- ---- units

-- of a stream of so many bytes, how many full segments its reader has read; the last one, which may be short, once all is read
abbrev pub segments_read : ℕ → ℕ → ℕ → ℕ
segments_read mss length read = if nat_le length read then segments mss length else read / payload_of mss

-- with it, whether the stream is closed, and whether its reader's side knows where it ends
abbrev pub stream_units : ℕ → ℕ → Sending → Arriving → ℕ
stream_units mss length sent arrived = segments_read mss length arrived.read + one_if sent.closed + one_if (is_some arrived.known_end)

-- of both streams
abbrev pub units : {C : Type 0} → Start → PathPlan → WorldState C → ℕ
units start plan w =
    stream_units plan.mss (length start.file_a) (written_by A w) (arrived_at B w) + stream_units plan.mss (length start.file_b) (written_by B w) (arrived_at A w)

-- as many as there can be
abbrev pub most_units : Start → PathPlan → ℕ
most_units start plan = segments plan.mss (length start.file_a) + segments plan.mss (length start.file_b) + 4

-- the ticks that so many units pay, and so many harms that are mended
abbrev pub price : ℕ → ℕ → ℕ
price units mended = 2300 * units + 253000 * mended

-- by the first path, for all units, each segment that is harmed, and each event that counts as a harm
abbrev pub price_by : Start → List PathPlan → ℕ → ℕ
price_by start [] harms = 0
price_by start (plan ∷ plans) harms = price (most_units start plan) (harms + spare)

abbrev pub sharp_allowance : Allowance
sharp_allowance start harms = price_by start start.paths harms

-- ---- what is left to be shown

-- Path 0 is open after these turns, and no more than so much was counted that is paid for.
pub record IsOpenWithin (start : Start) (paid : List Turn → ℕ) (most : ℕ) (turns : List Turn) : Type 0 where
  pub is_open : IsOpenAfter start turns
  pub few : paid turns ≤ most

module _ (start : Start) (plan : PathPlan) (paid : List Turn → ℕ) (most : ℕ) where
  abbrev pub Stepping : List Turn → List Turn → Type 0
  Stepping = TakesAStep values start (IsOpenWithin start paid most) most

  abbrev pub Beginning : List Turn → List Turn → Type 0
  Beginning = BeginsARound values start (IsOpenWithin start paid most) most

  abbrev pub units_after : List Turn → ℕ
  units_after turns = units start plan (reached values start turns)

  abbrev pub top : ℕ
  top = price (most_units start plan) (most + spare)

  module _ (Mended : ℕ → List Turn → Type 0) where
    -- so many ticks are paid: by units, and by harms that are mended
    pub record IsPaid (n : ℕ) (turns : List Turn) : Type 0 where
      pub harms : ℕ
      pub mended : Mended harms turns
      pub enough : n ≤ price (units_after turns) harms

    module _ (Waits : ℕ → ℕ → List Turn → Type 0) where
      abbrev pub the_course : System
      the_course = course_of values start (IsOpenWithin start paid most) most (λ turns. AllIsThere (reached values start turns)) Waits

      abbrev pub GoesOnAs : ℕ → ℕ → List Turn → Type 0
      GoesOnAs n x u = IsPaid n u ⊎ AWaitGoesOn the_course top n x u

      -- Harms stay mended, and no more are than there were. A wait goes on, is put off, or is paid; no round begins past one that
      -- isn't paid; and as a round begins, all of both streams is there, or a wait begins.
      pub record SharpExchanges : Type 0 where
        pub mended_on : (m : ℕ) (v u : List Turn) → Stepping v u → Mended m v → Mended m u
        pub mended_next : (m : ℕ) (v u : List Turn) → Beginning v u → Mended m v → Mended m u
        pub few_mended : (m : ℕ) (v : List Turn) → Mended m v → m ≤ paid v + spare
        pub waits_on : (n x : ℕ) (v u : List Turn) → Stepping v u → Waits n x v → GoesOnAs n x u
        pub waits_next : (n x : ℕ) (v u : List Turn) → Beginning v u → Waits n x v → GoesOnAs n x u
        pub due : (n x : ℕ) (v u : List Turn) → Beginning v u → Waits n x v → x < round_end values start v → IsPaid n u
        pub begins : (n : ℕ) (v u : List Turn) → Beginning v u → IsPaid n u → AllIsThere (reached values start u) ⊎ AWaitBegins the_course top n v u

-- What is paid for never falls, and each segment that is harmed is.
pub record PaysForHarms (paid : Count) : Type 0 where
  pub up : NeverFalls paid
  pub covers : (start : Start) (turns : List Turn) → harmed_so_far values start turns ≤ paid start turns

-- Where exchanges go on so by each start that is so besides, and none is mended first, all is there as soon as rounds enough have ended for what is
-- paid for.
abbrev pub SharpExchangesEnd : Type 1
SharpExchangesEnd = (Also : Start → PathPlan → Type 0) (paid : Count) (Mended : Start → PathPlan → ℕ → ℕ → List Turn → Type 0)
    (Waits : Start → PathPlan → ℕ → ℕ → ℕ → List Turn → Type 0) → PaysForHarms paid
    → ((start : Start) (plan : PathPlan) (most : ℕ) → BeginsWithOnePath start plan → Also start plan
    → SharpExchanges start plan (paid start) most (Mended start plan most) (Waits start plan most))
    → ((start : Start) (plan : PathPlan) (most : ℕ) → BeginsWithOnePath start plan → Also start plan → (turns : List Turn) → IsOpenAfter start turns
    → Mended start plan most 0 turns)
    → EndsBy Also paid sharp_allowance

-- Then whole paths deliver both files with `patience` for what is paid for, or an end died early.
abbrev pub SharpEndsByScripts : Type 1
SharpEndsByScripts = (Also : Start → PathPlan → Type 0) (paid in_octets : Count)
    → ((start : Start) → IsMildStart start → (turns : List Turn) → in_octets start turns ≡ paid start turns) → EndsBy Also paid sharp_allowance
    → BriefPathsEndBy values Also paid patience × BriefPathsEndBy octets Also in_octets patience
