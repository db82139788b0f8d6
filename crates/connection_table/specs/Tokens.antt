-- The token that an option shows which asks to join (RFC 8684, section 3.2).
use Rattle.std.specs.Prelude.{ℕ, ◌≡◌, Option, List}
use Rattle.mptcp_options.specs.declared.join.JoinForm.TheVariants.{Syn}
use Rattle.path_segments.specs.declared.segment.PathOption.{PathOption}
use Rattle.path_segments.specs.declared.segment.PathOption.TheVariants.{Join}
use Rattle.stream_lanes.specs.Words.{Every}

-- an option that asks to join shows this token
abbrev pub ShowsToken : ℕ → PathOption (Option ℕ) (List ℕ) → Type 0
ShowsToken token (Join (Syn backup id shown nonce)) = shown ≡ token
ShowsToken token _ = Unit {0}

-- each of these options that asks to join shows this token
abbrev pub AllShowToken : ℕ → List (PathOption (Option ℕ) (List ℕ)) → Type 0
AllShowToken token options = Every (ShowsToken token) options
