-- What the segments acknowledge that an end sends (RFC 9293, section 3.10.7.4).
use Rattle.std.specs.Prelude.{ℕ, ◌≡◌, ◌⊎◌, true, false, Some, None, IfSome, slice_get}
use Rattle.path_segments.specs.Spelled.{PlainSegment}
use Rattle.subflow_tcp.specs.declared.segments.Outgoing.{Outgoing}
use Rattle.subflow_tcp.specs.States.{is_opening}
use Rattle.path_core.specs.Codec.{Codec}
use Rattle.path_core.specs.End.{PathEnd}
use Rattle.path_core.specs.Handover.{handed}
use Rattle.path_core.specs.Looking.{first_sends, segment_sent}
use Rattle.path_core.specs.State.{PathState, end_at}
use Rattle.world_laws.specs.declared.member.Member.TheVariants.{App, Path}
use Rattle.world_laws.specs.Actors.{Actor, ActorCrew}
use Rattle.world_laws.specs.Worlds.{WorldState, Turn, after_turn}

-- what a segment of this end says of what came to it
pub data SaysWhatCame (e : PathEnd) (x : PlainSegment) : Type 0 where
  -- the segment acknowledges all that came in order, up to RCV.NXT, and is no reset
  acknowledges : x.acknowledged ≡ Some e.tcp.recv.edge → x.rst ≡ false → SaysWhatCame e x
  -- the end opens, and nothing came (section 3.5)
  opens : is_opening e.tcp.state ≡ true → x.acknowledged ≡ None → SaysWhatCame e x
  -- the segment is a reset, or the one by which a dead end answers a copy, or refuses it
  resets : x.rst ≡ true → SaysWhatCame e x
  refuses : (answer : Outgoing) → e.treated.answer ≡ Some answer → x.rst ≡ answer.rst → SaysWhatCame e x

module _ {C : Type 0} where
  -- as a path becomes another one, or stays: the link takes the segment that it was to send next, which says what came
  pub record HandsOver (k : Codec C) (p q : PathState C) : Type 0 where
    pub sends : IfSome (first_sends p.agenda p) (λ t. (q ≡ p)
        ⊎ ((q.link ≡ handed k t.from (segment_sent p t) p) × SaysWhatCame (end_at t.from p) (segment_sent p t)))

  -- as the path becomes this actor
  abbrev pub PathsHandOver : Codec C → Actor C → Actor C → Type 0
  PathsHandOver k (Path p) (Path q) = HandsOver k p q
  PathsHandOver k (App a) (App b) = Unit {0}
  PathsHandOver k _ _ = ⊥

  -- by any turn
  abbrev pub EachSegmentSaysWhatCame : Codec C → Type 0
  EachSegmentSaysWhatCame k = (w : WorldState C) (turn : Turn) (actor : ℕ) (c : ActorCrew C) → slice_get w.crew actor ≡ Some c
      → (d : ActorCrew C) × (slice_get (after_turn k turn w).crew actor ≡ Some d) × PathsHandOver k c.member d.member
