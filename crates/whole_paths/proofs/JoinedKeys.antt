-- Each end of a path that joined has the other's key as soon as it has begun, and no key is ever said to it (RFC 8684, section 3.2).
use Rattle.std.proofs.Common.{◌≡◌, refl, ap, subst, ℕ, not, ◌||◌, true, false, true≢false, Option, Some, None, is_some, IfSome, List}
use Rattle.std.specs.List.{slice_get}
use Rattle.sides.specs.declared.side.Side.{Side}
use Rattle.sides.specs.declared.side.Side.TheVariants.{A, B}
use Rattle.subflow_tcp.specs.States.{is_closed_to_segments}
use Rattle.actor_desk.specs.Books.{books_in}
use Rattle.path_agenda.specs.Items.{keys_heard}
use Rattle.path_agenda.specs.declared.heard.Heard.{Heard}
use Rattle.path_agenda.specs.declared.heard.Heard.TheVariants as says
use Rattle.path_agenda.specs.declared.keys.KeyPair.{KeyPair}
use Rattle.path_core.specs.End.{PathEnd}
use Rattle.path_core.specs.MpJoin.{is_joined}
use Rattle.path_core.specs.State.{PathState, end_at}
use Rattle.path_core.specs.Treating.{item_of}
use Rattle.path_core.specs.Values.{Carried, values}
use Rattle.world_laws.specs.declared.member.Member.TheVariants.{App, Path}
use Rattle.world_laws.specs.Actors.{Actor, ActorCrew}
use Rattle.world_laws.specs.Members.{HoldsOfKind}
use Rattle.world_laws.specs.Openings.{Start, opened_world}
use Rattle.world_laws.specs.Worlds.{Turn, WorldState, world_run}
use Rattle.world_laws.proofs.Joins.TokensAgree.{opened_met, run_met}
use Rattle.world_laws.proofs.Keys.AreDrawn.{Deed, EndIs, ItemIs, Needs, Secrets}
use Rattle.world_laws.proofs.Keys.Held.{PairIs, PathIs, end_is, pair_found}
use Rattle.world_laws.proofs.Keys.StepsKeep.{item_found}
use Rattle.world_laws.proofs.Keys.ToldAreOwn.{MemberIs}

-- it isn't a key of both sides
abbrev pub TellsNoKeys : Heard → Type 0
TellsNoKeys (says.Keys own peer) = ⊥
TellsNoKeys _ = Unit {0}

-- both ends of a path that joined
pub record HasJoinedKeys (p : PathState Carried) : Type 0 where
  pub keyed : (s : Side) → is_closed_to_segments (end_at s p).tcp.state ≡ false → is_some (end_at s p).modes.peer_key ≡ true
  pub items : (s : Side) (index : ℕ) → IfSome (item_of index (end_at s p)) TellsNoKeys
  pub pair : (s : Side) → keys_heard (end_at s p).treated.items ≡ None

module _ (k : Secrets) (w : Side → Type 0) (did : Deed → Side → Type 0) where
  has_key : (s : Side) (e : PathEnd) → Needs k true s e.modes → is_some e.modes.peer_key ≡ true
  has_key A e needs = ap is_some needs
  has_key B e needs = ap is_some needs.0

  end_keyed : (s : Side) (e : PathEnd) → EndIs k true w did true s e → is_closed_to_segments e.tcp.state ≡ false → is_some e.modes.peer_key ≡ true
  end_keyed s e h begun = has_key s e ((h.woken refl (ap (λ b. not b || is_some e.tcp.timing.timer) begun)).1 refl)

  tells_none : (s : Side) (item : Heard) → ItemIs k true w did true s item → TellsNoKeys item
  tells_none s (says.Keys own peer) h = true≢false h.0
  tells_none s _ h = tt

  none_found : (s : Side) (o : Option Heard) → IfSome o (ItemIs k true w did true s) → IfSome o TellsNoKeys
  none_found s None h = tt
  none_found s (Some item) h = tells_none s item h

  no_pair : (s : Side) (o : Option KeyPair) → IfSome o (PairIs k true w did true s) → o ≡ None
  no_pair s None h = refl
  no_pair s (Some keys) h = absurd (true≢false h.0)

  path_keyed : (p : PathState Carried) → is_joined p.profile ≡ true → PathIs k true w did p → HasJoinedKeys p
  path_keyed p joined h = record {
    keyed = λ s begun. end_keyed s (end_at s p) (ends s) begun;
    items = λ s index. none_found s (item_of index (end_at s p)) (item_found k true w did true s index (end_at s p) (ends s).items);
    pair = λ s. no_pair s (keys_heard (end_at s p).treated.items) (pair_found k true w did true s (end_at s p).treated.items (ends s).items);
  }
    where
      ends : (s : Side) → EndIs k true w did true s (end_at s p)
      ends s = subst (λ b. EndIs k true w did b s (end_at s p)) joined (end_is k true w did s p h)

-- at every moment
pub joined_ends_have_keys : (start : Start) (turns : List Turn) (actor : ℕ) (c : ActorCrew Carried) → slice_get (world_run values turns (opened_world start)).crew actor ≡ Some c
    → HoldsOfKind (λ app. Unit {0}) (λ p. is_joined p.profile ≡ true → HasJoinedKeys p) c.member
joined_ends_have_keys start turns actor c there = by c.member ((run_met start.key_a start.key_b turns (opened_world start) (opened_met start)).keys.crew.each actor c there)
  where
    w : WorldState Carried
    w = world_run values turns (opened_world start)

    by : (m : Actor Carried) → MemberIs start.key_a start.key_b true (books_in w.books) m → HoldsOfKind (λ app. Unit {0}) (λ (p : PathState Carried). is_joined p.profile ≡ true → HasJoinedKeys p) m
    by (App a) h = tt
    by (Path p) h = λ joined. path_keyed _ _ _ p joined h.is
