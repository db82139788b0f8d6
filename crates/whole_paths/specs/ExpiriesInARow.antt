-- How many expiries an end has in a row, and which harmed segment each of them stands for, so that few losses let no end die (RFC 6298,
-- section 5).
use Rattle.std.specs.Prelude.{ℕ, suc, ◌≡◌, ◌<◌, ◌≤◌, ◌⊎◌, Some, List, [], ◌∷◌, slice_get}
use Rattle.sides.specs.declared.side.Side.{Side}
use Rattle.path_core.specs.Codec.{Codec}
use Rattle.path_core.specs.End.{PathEnd}
use Rattle.path_core.specs.State.{PathState, end_at}
use Rattle.world_laws.specs.declared.member.Member.TheVariants.{App, Path}
use Rattle.world_laws.specs.Actors.{Actor, ActorCrew}
use Rattle.world_laws.specs.Worlds.{WorldState, Turn, after_turn}
use Rattle.whole_paths.specs.Expiries.{RunsOut}
use Rattle.whole_paths.specs.Finish.{IsPathAt, harmed}

-- the expiries of an end in a row, without an acceptable segment in between
abbrev pub in_a_row : PathEnd → ℕ
in_a_row e = e.tcp.timing.expiries

module _ {C : Type 0} where
  -- ---- an expiry

  -- as the path becomes another one: the end has no more of them, or its timer ran out, which was what came next, and there is one more, the
  -- fifth at most
  pub data RowGoesOn (s : Side) (p q : PathState C) : Type 0 where
    no_more : in_a_row (end_at s q) ≤ in_a_row (end_at s p) → RowGoesOn s p q
    one_more : (tick : ℕ) → RunsOut s tick p → in_a_row (end_at s p) < 5 → in_a_row (end_at s q) ≡ suc (in_a_row (end_at s p)) → RowGoesOn s p q

  -- at both ends, as the path becomes this actor
  abbrev pub RowsGoOn : Actor C → Actor C → Type 0
  RowsGoOn (Path p) (Path q) = (s : Side) → RowGoesOn s p q
  RowsGoOn (App a) (App b) = Unit {0}
  RowsGoOn _ _ = ⊥

  -- by any turn
  abbrev pub ExpiriesAloneCount : Codec C → Type 0
  ExpiriesAloneCount k = (w : WorldState C) (turn : Turn) (actor : ℕ) (c : ActorCrew C) → slice_get w.crew actor ≡ Some c
      → (d : ActorCrew C) × (slice_get (after_turn k turn w).crew actor ≡ Some d) × RowsGoOn c.member d.member

  -- ---- which segments they stand for

  -- Each expiry in a row stands for a harmed segment, but for the last one: of its exchange what the end hears is on its way, and comes
  -- before the timer runs out again.
  pub data IsPaid (Comes : Side → WorldState C → Type 0) (harms : ℕ) (s : Side) (w : WorldState C) (p : PathState C) : Type 0 where
    paid : in_a_row (end_at s p) ≤ harms → IsPaid Comes harms s w p
    comes : in_a_row (end_at s p) ≤ suc harms → Comes s w → IsPaid Comes harms s w p

  -- What an exchange has to give, where Holds is what is known of each moment: it begins with an expiry that isn't the sixth; by each turn it
  -- goes on, or a segment of the path is harmed, or the end hears an acceptable segment; and as long as it goes on the timer doesn't run out.
  pub record ExpiriesAreAnswered (k : Codec C) (Holds : WorldState C → Type 0) (Comes : Side → WorldState C → Type 0) : Type 0 where
    pub begins : (w : WorldState C) (turn : Turn) → let v = after_turn k turn w in Holds w → Holds v → (s : Side) (p q : PathState C)
        → IsPathAt 0 w p → IsPathAt 0 v q → (tick : ℕ) → RunsOut s tick p → in_a_row (end_at s q) ≡ suc (in_a_row (end_at s p)) → Comes s v
    pub on : (w : WorldState C) (turn : Turn) → let v = after_turn k turn w in Holds w → Holds v → (s : Side) (p q : PathState C)
        → IsPathAt 0 w p → IsPathAt 0 v q → Comes s w → Comes s v ⊎ ((1 ≤ harmed k 0 (turn ∷ []) w) ⊎ (in_a_row (end_at s q) ≡ 0))
    pub due : (w : WorldState C) → Holds w → (s : Side) (p : PathState C) → IsPathAt 0 w p → Comes s w → (tick : ℕ) → RunsOut s tick p → ⊥

-- at each moment of a run this holds
abbrev pub HoldsAlong : {C : Type 0} → Codec C → (WorldState C → Type 0) → List Turn → WorldState C → Type 0
HoldsAlong k Holds [] w = Holds w
HoldsAlong k Holds (turn ∷ turns) w = Holds w × HoldsAlong k Holds turns (after_turn k turn w)
