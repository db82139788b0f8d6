-- How far a copy takes the end that it comes to, on the way from the opening on (RFC 9293, sections 3.5 and 3.10.7).
use Rattle.std.specs.Prelude.{ℕ, ◌≡◌, ◌<◌, ◌≤◌, ◌⊎◌, true, false, None, Some, [], slice_get}
use Rattle.path_segments.specs.Spelled.{PlainSegment}
use Rattle.subflow_tcp.specs.declared.handshake.State.TheVariants.{Listen, SynSent}
use Rattle.subflow_tcp.specs.declared.verdicts.Meaning.{Meaning}
use Rattle.subflow_tcp.specs.declared.verdicts.Meaning.TheVariants.{Opens, Accepts, RepeatedSyn, Outside, Taken}
use Rattle.subflow_tcp.specs.State.{EndState, is_at_limit}
use Rattle.subflow_tcp.specs.States.{is_dead}
use Rattle.path_core.specs.Codec.{Codec}
use Rattle.path_core.specs.State.{PathState, end_at}
use Rattle.path_core.specs.Values.{Carried, values}
use Rattle.path_core.specs.declared.judged.Judged.TheVariants as judged
use Rattle.world_laws.specs.declared.member.Member.TheVariants.{App, Path}
use Rattle.world_laws.specs.Actors.{Actor, ActorCrew}
use Rattle.world_laws.specs.Worlds.{WorldState, Turn, after_turn}
use Rattle.whole_paths.specs.Arrivals.{Arrival}
use Rattle.whole_paths.specs.AsFar.{stage}
use Rattle.whole_paths.specs.Brought.{Comes, IsTo}
use Rattle.path_core.specs.MpJoin.{is_joined}

-- the SYN makes a listening end half-open; the SYN/ACK opens the end that sent the SYN, and the third segment the other one
abbrev pub opens_to : Meaning → ℕ
opens_to Opens = 2
opens_to (Accepts acknowledged) = 3
opens_to (Taken position acknowledged) = 3
opens_to _ = 0

module _ {C : Type 0} where
  -- the end is that far, where a copy comes that means so, unless the path stays as it is
  pub record OpensSoFar (k : Codec C) (p q : PathState C) : Type 0 where
    pub opens : (c : Comes k p) (m : Meaning) → IsTo k p c (judged.As m) → (q ≡ p) ⊎ (opens_to m ≤ stage (end_at c.due.to q).tcp.state)

  -- as the path becomes this actor
  abbrev pub PathsOpen : Codec C → Actor C → Actor C → Type 0
  PathsOpen k (Path p) (Path q) = OpensSoFar k p q
  PathsOpen k (App a) (App b) = Unit {0}
  PathsOpen k _ _ = ⊥

  -- by any turn
  abbrev pub EachHandshakeCounts : Codec C → Type 0
  EachHandshakeCounts k = (w : WorldState C) (turn : Turn) (actor : ℕ) (c : ActorCrew C) → slice_get w.crew actor ≡ Some c
      → (d : ActorCrew C) × (slice_get (after_turn k turn w).crew actor ≡ Some d) × PathsOpen k c.member d.member

-- ---- a SYN, as values

-- the segment has a SYN at position 0, and no other flag or byte
pub record IsSyn (x : PlainSegment) : Type 0 where
  pub syn : x.syn ≡ true
  pub fin : x.fin ≡ false
  pub rst : x.rst ≡ false
  pub first : x.position ≡ 0
  pub empty : x.payload ≡ []

-- what comes next means this to its end
pub record ComesAs (p : PathState Carried) (m : Meaning) : Type 0 where
  pub copy : Comes values p
  pub is : IsTo values p copy (judged.As m)

-- what a copy of a SYN is to its end, by how far that is
pub record SynCounts (x : PlainSegment) (p : PathState Carried) (t : EndState) : Type 0 where
  -- the SYN of the end that opens comes to the one that listens
  pub asks : t.state ≡ Listen → x.acknowledged ≡ None → ComesAs p Opens
  -- the SYN/ACK comes to the end that sent the SYN
  pub answers : (acknowledged : ℕ) → t.state ≡ SynSent → is_at_limit t ≡ false → x.acknowledged ≡ Some acknowledged → 0 < acknowledged
      → acknowledged ≤ t.send.nxt → ComesAs p (Accepts acknowledged)
  -- either of them comes once more, and is answered by the SYN/ACK, or by an acknowledgement
  pub again : 2 ≤ stage t.state → is_dead t.state ≡ false → is_at_limit t ≡ false → 0 < t.recv.edge → ComesAs p RepeatedSyn ⊎ ComesAs p Outside
  -- the SYN/ACK is answered by an acknowledgement
  pub once_more : (acknowledged : ℕ) → x.acknowledged ≡ Some acknowledged → 2 ≤ stage t.state → is_dead t.state ≡ false → is_at_limit t ≡ false
      → 0 < t.recv.edge → ComesAs p Outside

-- on the path that opens the connection
abbrev pub EachSynCounts : Type 0
EachSynCounts = (x : PlainSegment) (p : PathState Carried) (a : Arrival x p) → is_joined p.profile ≡ false → IsSyn x → SynCounts x p (end_at a.due.to p).tcp
