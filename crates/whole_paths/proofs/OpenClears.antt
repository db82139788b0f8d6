-- Path 0 opens by the turn by which B's end may send a DSS first: where it might before, A's end was past the handshake, and knew B's key.
use Rattle.std.proofs.Common.{◌≡◌, refl, sym, subst, ap, ◌≤◌, arith, Bool, true, false, is_some, List, [], ◌∷◌, ◌++◌}
use Rattle.std.proofs.lemmas.Bool.{both_ways}
use Rattle.sides.specs.declared.side.Side.TheVariants.{A, B}
use Rattle.subflow_tcp.specs.States.{is_dead}
use Rattle.path_core.specs.Start.{waiting_path}
use Rattle.path_core.specs.State.{PathState, end_at}
use Rattle.path_core.specs.Steps.{begins_turn}
use Rattle.path_core.specs.Values.{Carried, values}
use Rattle.world_laws.specs.Openings.{PathPlan, Start, path_begins}
use Rattle.world_laws.specs.RoundDone.{reached}
use Rattle.world_laws.specs.Worlds.{Turn}
use Rattle.whole_paths.specs.AsFar.{stage}
use Rattle.whole_paths.specs.Clear.{IsPastIfClear}
use Rattle.whole_paths.specs.Finish.{IsPathAt}
use Rattle.whole_paths.specs.Mild.{LinkIsMild}
use Rattle.whole_paths.specs.OnePathScripts.{BeginsWithOnePath}
use Rattle.whole_paths.specs.OpenCourses.{IsNow}
use Rattle.whole_paths.specs.OpenFirst.{HasJustOpened, OpensByClearing, PathsOpenByClearing}
use Rattle.whole_paths.specs.OpeningWaits.{IsAlive}
use Rattle.whole_paths.specs.Straying.{IsOpenFrom}
use Rattle.whole_paths.proofs.AckedData as moment
use Rattle.whole_paths.proofs.ByTurns.{Becomes, path_before, then_path}
use Rattle.whole_paths.proofs.Clearing.{clear_ends_are_past}
use Rattle.whole_paths.proofs.EdgesStay.{alive_before}
use Rattle.whole_paths.proofs.Handshaking.{AllFar, next_far, takes_far}
use Rattle.whole_paths.proofs.KeyedFirst.{a_has_the_key_first}
use Rattle.whole_paths.proofs.Mild.{links_are_mild}
use Rattle.whole_paths.proofs.OpenCourses.{IsFirstPath, few_links, each_first, next_later, takes_later}
use Rattle.whole_paths.proofs.RecordWaits.{path_is}
use Rattle.whole_paths.proofs.Rising.{begins_dead}
use Rattle.whole_paths.proofs.SegmentRounds.{of_path}
use Rattle.whole_paths.proofs.Waiting.{same_far}

-- ---- the last turn

data IsParted (turns : List Turn) : Type 0 where
  none : turns ≡ [] → IsParted turns
  last : (before : List Turn) (turn : Turn) → turns ≡ before ++ turn ∷ [] → IsParted turns

parted : (turns : List Turn) → IsParted turns
parted [] = none refl
parted (t ∷ ts) = by (parted ts)
  where
    by : IsParted ts → IsParted (t ∷ ts)
    by (none is) = last [] t (ap (λ us. t ∷ us) is)
    by (last before turn is) = last (t ∷ before) turn (ap (λ us. t ∷ us) is)

-- ---- a turn

pub becomes_far : (p q : PathState Carried) → Becomes values p q → AllFar p q
becomes_far p q Becomes.stays = record { at = λ s. same_far (end_at s p) }
becomes_far p q (Becomes.takes_a_reply r) = takes_far r p
becomes_far p q Becomes.begins_anew = next_far p

pub becomes_fewer : (p q : PathState Carried) → Becomes values p q → few_links p.link q.link
becomes_fewer p q Becomes.stays = λ s few. few
becomes_fewer p q (Becomes.takes_a_reply r) = (takes_later r p).fewer
becomes_fewer p q Becomes.begins_anew = (next_later p).fewer

module _ (start : Start) (plan : PathPlan) (one : BeginsWithOnePath start plan) where
  -- B's end isn't past the handshake at the beginning
  never_first : IsNow (IsOpenFrom B) (reached values start []) → ⊥
  never_first h =
      let p : PathState Carried = waiting_path (path_begins start 0 plan) start.lines in
      let same = path_is (reached values start []) h.path (begins_turn p) h.here (moment.opened_here start plan one) in
      let opened = subst (IsOpenFrom B) same h.is_open in
      let dead = begins_dead 3 (omega arith) (omega arith) values B p (omega arith) (opened.past B) in both_ways (is_dead (begins_turn p).b.tcp.state) (opened.living B) dead

  module _ (turns : List Turn) (turn : Turn) (h : HasJustOpened start (turns ++ turn ∷ [])) where
    q : PathState Carried
    q = h.now.path

    before : (p : PathState Carried) × IsPathAt 0 (reached values start turns) p
    before = path_before values start turns turn h.now.here.crew h.now.path h.now.here.there h.now.here.is

    p : PathState Carried
    p = before.0

    becomes : Becomes values before.0 h.now.path
    becomes = let then = then_path values start turns turn before.0 before.1 in
        subst (λ z. Becomes values before.0 z) (path_is (reached values start (turns ++ turn ∷ [])) then.path h.now.path then.here h.now.here) then.becomes

    alive : IsAlive before.0
    alive = alive_before before.0 h.now.path (becomes_far before.0 h.now.path becomes) (record { living = h.now.is_open.living })

    first : IsFirstPath start before.0
    first = of_path start one.mild turns before.0 (IsFirstPath start) before.1 (each_first start turns one.mild.plain.size before.1.crew before.1.there)

    link : LinkIsMild start.lines before.0
    link = of_path start one.mild turns before.0 (LinkIsMild start.lines) before.1 ((links_are_mild values start turns one.mild).each 2 before.1.crew before.1.there)

    unclear : before.0.b.modes.clear ≡ false
    unclear = by before.0.b.modes.clear refl
      where
        by : (b : Bool) → before.0.b.modes.clear ≡ b → b ≡ false
        by false is = refl
        by true clear = absurd (h.unopened turns turn refl (record {
          path = before.0;
          here = before.1;
          is_open = record {
            first = first.first;
            past = elim [ A ↦ met.0 | B ↦ past_b ];
            living = alive.living;
            clear = clear;
            sure = clear;
            keyed = met.1;
          };
          faithful = record { joined = first.first; whole = link.strips; plain = link.alters };
          few = λ s. becomes_fewer before.0 h.now.path becomes s (h.now.few s);
        }))
          where
            past_b : 3 ≤ stage before.0.b.tcp.state
            past_b = (of_path start one.mild turns before.0 IsPastIfClear before.1 (clear_ends_are_past values start turns 2 before.1.crew before.1.there)) first.first B clear

            met : (3 ≤ stage before.0.a.tcp.state) × (is_some before.0.a.modes.peer_key ≡ true)
            met = a_has_the_key_first start turns one.mild before.0 before.1 alive clear

    opens_so : OpensByClearing start (turns ++ turn ∷ [])
    opens_so = record { before = turns; turn = turn; is = refl; path = before.0; here = before.1; unclear = unclear }

  opens_then : (turns : List Turn) → HasJustOpened start turns → OpensByClearing start turns
  opens_then turns h = by (parted turns)
    where
      by : IsParted turns → OpensByClearing start turns
      by (none is) = absurd (never_first (subst (λ ts. IsNow (IsOpenFrom B) (reached values start ts)) is h.now))
      by (last before turn is) = subst (λ ts. HasJustOpened start ts → OpensByClearing start ts) (sym is) (λ now. opens_so before turn now) h

pub paths_open_by_clearing : PathsOpenByClearing
paths_open_by_clearing start plan turns one h = opens_then start plan one turns h
