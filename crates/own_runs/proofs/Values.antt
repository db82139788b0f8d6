-- Options that show what was drawn, as they are written.
use Rattle.std.proofs.Common.{◌≡◌, refl, ℕ, Bool, true, false, if◌then◌else◌, Some, None, option_map, List, length}
use Rattle.std.specs.Prelude.{unwrap_or}
use Rattle.std.specs.List.{slice_get}
use Rattle.mptcp_options.specs.declared.capable.CapableKeys.TheVariants.{Both, NoKey, Sender, WithData}
use Rattle.mptcp_options.specs.declared.join.JoinForm.TheVariants.{Answer, Syn, Third}
use Rattle.path_segments.specs.Options.{PlainOption, said_option}
use Rattle.path_segments.specs.declared.segment.PathOption.TheVariants.{AddAddr, Capable, Dss, FastClose, Join}
use Rattle.path_segments.specs.declared.spelling.Spelling.{Spelling}
use Rattle.sides.specs.declared.side.Side.TheVariants.{A, B}
use Rattle.sides.specs.declared.side.Side.{Side}
use Rattle.sides.specs.Side.{peer}
use Rattle.stream_lanes.specs.Words.{Every}
use Rattle.world_laws.proofs.Keys.AreDrawn.{Deed, Secrets, OptionIs}
use Rattle.world_laws.proofs.Keys.ToldAreOwn.{with_nonces}
use Rattle.world_laws.specs.Openings.{PathPlan, Start}
use Rattle.own_runs.proofs.Own.{Drawn, ValueIs, own_key}

-- ---- what was drawn

abbrev pub nonce_at : (PathPlan → ℕ) → List PathPlan → ℕ → ℕ
nonce_at of plans path = unwrap_or (option_map of (slice_get plans path)) 0

abbrev pub drawn : Start → Drawn
drawn start = record {
  key_a = start.key_a;
  key_b = start.key_b;
  nonce_a = nonce_at (λ plan. plan.nonce_a) start.paths;
  nonce_b = nonce_at (λ plan. plan.nonce_b) start.paths;
  initial_a = nonce_at (λ plan. plan.initial_a) start.paths;
  initial_b = nonce_at (λ plan. plan.initial_b) start.paths;
  checksums = start.checksums;
  paths = length start.paths;
}

-- ---- values

-- MP_FASTCLOSE tells this key
abbrev pub TellsKey : ℕ → PlainOption → Type 0
TellsKey key (FastClose told) = told ≡ key
TellsKey key _ = Unit {0}

module _ (start : Start) (path : ℕ) (w : Side → Type 0) (did : Deed → Side → Type 0) where
  abbrev d : Drawn
  d = drawn start

  abbrev k : Secrets
  k = with_nonces start.key_a start.key_b true (d.nonce_a path) (d.nonce_b path)

  sure : (joined : Bool) → (if joined then true else true) ≡ true
  sure true = refl
  sure false = refl

  value_so : (joined : Bool) (s : Side) (spelling : Spelling) (o : PlainOption) → OptionIs k true w did joined s o → TellsKey (own_key d (peer s)) o → ValueIs d path s (said_option spelling s o)
  value_so joined A spelling (Capable flag_a flag_c NoKey) h told = tt
  value_so joined A spelling (Capable flag_a flag_c (Sender sender)) h told = h.0 (sure joined)
  value_so joined A spelling (Capable flag_a flag_c (Both sender receiver)) h told = h.0 (sure joined)
  value_so joined A spelling (Capable flag_a flag_c (WithData sender receiver len checksum)) h told = h.0 (sure joined)
  value_so joined B spelling (Capable flag_a flag_c NoKey) h told = tt
  value_so joined B spelling (Capable flag_a flag_c (Sender sender)) h told = h.0 (sure joined)
  value_so joined B spelling (Capable flag_a flag_c (Both sender receiver)) h told = h.0 (sure joined)
  value_so joined B spelling (Capable flag_a flag_c (WithData sender receiver len checksum)) h told = h.0 (sure joined)
  value_so joined A spelling (Join (Syn backup id token nonce)) h told = h.1.1 refl
  value_so joined A spelling (Join (Answer backup id hmac nonce)) h told = h.1.1 refl
  value_so joined A spelling (Join (Third hmac)) h told = h.1.1 refl
  value_so joined B spelling (Join (Syn backup id token nonce)) h told = h.1.1 refl
  value_so joined B spelling (Join (Answer backup id hmac nonce)) h told = h.1.1 refl
  value_so joined B spelling (Join (Third hmac)) h told = h.1.1 refl
  value_so joined A spelling (AddAddr false id address port (Some hmac)) h told = h.0 refl
  value_so joined B spelling (AddAddr false id address port (Some hmac)) h told = h.0 refl
  value_so joined s spelling (AddAddr false id address port None) h told = tt
  value_so joined s spelling (AddAddr true id address port hmac) h told = tt
  value_so joined s spelling (Dss next mapping) h told = tt
  value_so joined A spelling (FastClose key) h told = told
  value_so joined B spelling (FastClose key) h told = told
  value_so joined s spelling _ h told = tt

  pub values_so : (joined : Bool) (s : Side) (spelling : Spelling) (options : List PlainOption) → Every (OptionIs k true w did joined s) options
      → Every (TellsKey (own_key d (peer s))) options → Every (λ o. ValueIs d path s (said_option spelling s o)) options
  values_so joined s spelling options h told = record { each = λ i o at. value_so joined s spelling o (h.each i o at) (told.each i o at) }
