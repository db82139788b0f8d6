-- One of two kinds of actor: it does what the one of its kind does.
use Rattle.world_laws.specs.declared.member.Member.{Member}
use Rattle.world_laws.specs.declared.member.Member.TheVariants.{App, Path}

module _ {A P : Type 0} where
  -- what is read off a member
  abbrev pub of_kind : {R : Type 0} → (A → R) → (P → R) → Member A P → R
  of_kind f g (App a) = f a
  of_kind f g (Path p) = g p

  -- what a member becomes
  abbrev pub within_kind : (A → A) → (P → P) → Member A P → Member A P
  within_kind f g (App a) = App (f a)
  within_kind f g (Path p) = Path (g p)

  -- what holds of a member
  abbrev pub HoldsOfKind : (A → Type 0) → (P → Type 0) → Member A P → Type 0
  HoldsOfKind F G (App a) = F a
  HoldsOfKind F G (Path p) = G p
