-- What each end heard is acknowledged at its side's book, by the lanes.
use Rattle.std.proofs.Common.{◌≡◌, refl, sym, subst, ℕ, ◌+◌, ◌<◌, ◌≤◌, ◌==◌, arith, Bool, true, false, ◌&&◌, if◌then◌else◌, length}
use Rattle.std.proofs.lemmas.Bool.{and_parts, eqb-true}
use Rattle.sides.specs.declared.side.Side.TheVariants.{A, B}
use Rattle.send_book.specs.State.{Sending, acked_len}
use Rattle.stream_lanes.specs.Duo.{Duo}
use Rattle.stream_lanes.specs.Holding.{Holds}
use Rattle.actor_desk.specs.Books.{books_in}
use Rattle.path_core.specs.State.{PathState}
use Rattle.path_core.specs.Values.{Carried, values}
use Rattle.world_laws.specs.Members.{HoldsOfKind}
use Rattle.world_laws.specs.Openings.{Start, opened_world}
use Rattle.world_laws.specs.Promises.{HoldsAnyway}
use Rattle.world_laws.specs.Worlds.{WorldState, world_run}
use Rattle.world_laws.proofs.Lanes.OfAWorld.{Links, PathThere, WorldShows, anyhow, duo_of}
use Rattle.world_laws.proofs.Worlds.CastLifting.{each_actor}
use Rattle.world_laws.proofs.Worlds.Casts.{world_of}
use Rattle.whole_paths.specs.HeardBytes.{HearsWhatIsAcknowledged, WhatIsHeardIsAcknowledged}
use Rattle.whole_paths.proofs.Acknowledged.{always_shown}

-- what is confirmed is no more than what is acknowledged, where more is written
heard_low : (closed : Bool) (written acked heard : ℕ) → acked < written → heard ≤ acked + (if closed && written == acked then 1 else 0) → heard ≤ acked
heard_low closed written acked heard less low = by (closed && written == acked) refl
  where
    by : (b : Bool) → (closed && written == acked) ≡ b → heard ≤ acked
    by true is = absurd (let same = eqb-true written acked (and_parts closed (written == acked) is).1 in omega (arith, less, same))
    by false is = let low_now : heard ≤ acked + 0 = subst (λ (b : Bool). heard ≤ acked + (if b then 1 else 0)) is low in omega (arith, low_now)

module _ (start : Start) (links : Links) (d : Duo) (w : WorldState Carried) (held : Holds d) (h : WorldShows links start d w) where
  holds : Holds (duo_of links (books_in h.cast.books) h.lanes_ab h.lanes_ba h.reader_a h.reader_b)
  holds = subst Holds h.duo_is held

  path_hears : (number : ℕ) (p : PathState Carried) → PathThere start h.lanes_ab h.lanes_ba number p → HearsWhatIsAcknowledged (world_of h.cast) p
  path_hears number p x A less =
      let b : Sending = (books_in h.cast.books).send_a in
      let below = (holds.ab.lanes.each number number x.ab (omega arith) x.ab_there).heard.below in let same = x.shows.a.sender.heard in
      heard_low b.closed (length b.written) (acked_len b.marks) p.a.sending.heard less (subst (λ n. n ≤ acked_len b.marks + (if b.closed && length b.written == acked_len b.marks then 1 else 0)) same below)
  path_hears number p x B less =
      let b : Sending = (books_in h.cast.books).send_b in
      let below = (holds.ba.lanes.each number number x.ba (omega arith) x.ba_there).heard.below in let same = x.shows.b.sender.heard in
      heard_low b.closed (length b.written) (acked_len b.marks) p.b.sending.heard less (subst (λ n. n ≤ acked_len b.marks + (if b.closed && length b.written == acked_len b.marks then 1 else 0)) same below)

  each_hears : WhatIsHeardIsAcknowledged w
  each_hears = subst WhatIsHeardIsAcknowledged (sym h.is) (record {
    each = each_actor (λ actor c. HoldsOfKind (λ app. Unit {0}) (HearsWhatIsAcknowledged (world_of h.cast)) c.member) h.cast tt tt
        (λ number x there. path_hears number x.path (h.paths.each number number x (omega arith) there));
  })

pub what_is_heard_is_acknowledged : HoldsAnyway WhatIsHeardIsAcknowledged
what_is_heard_is_acknowledged start turns size =
    let shown = always_shown start turns size in each_hears start (anyhow start size).links shown.0 (world_run values turns (opened_world start)) shown.1.1 shown.1.0
