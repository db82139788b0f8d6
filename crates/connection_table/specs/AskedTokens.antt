-- What holds of the token by which octets are routed.
use Rattle.std.specs.Prelude.{ℕ, ◌≡◌, Bool, true, Some, None, List, ◌∷◌}
use Rattle.segment_wire.specs.Paths.{addresses_from}
use Rattle.sides.specs.declared.side.Side.{Side}
use Rattle.mptcp_options.specs.declared.join.JoinForm.TheVariants.{Syn}
use Rattle.mptcp_options.specs.Text.{Fits}
use Rattle.mptcp_options.specs.Value as wire
use Rattle.path_segments.specs.declared.expected.Expected.{Expected}
use Rattle.path_segments.specs.declared.segment.PathOption.TheVariants.{Join}
use Rattle.path_segments.specs.Options.{PlainOption}
use Rattle.path_segments.specs.Spelled.{CanSay, PlainSegment, spelled_text}
use Rattle.path_segments.specs.declared.spelling.Spelling.{Spelling}
use Rattle.path_segments.specs.Heard.{HeardSegment, heard_in}
use Rattle.connection_table.specs.Routing.{join_token}
use Rattle.connection_table.specs.Tokens.{AllShowToken}

-- where octets ask to join by a token, and all that is heard of them shows one, it is that one
abbrev pub AskedTokensAreHeard : Type 0
AskedTokensAreHeard =
    (spelling : Spelling) (from : Side) (expected : Expected) (octets : List ℕ) (token shown : ℕ)
    → join_token (addresses_from spelling.path from) octets ≡ Some token
    → ((heard : HeardSegment) → heard_in spelling from expected octets ≡ Some heard → AllShowToken shown heard.options)
    → token ≡ shown

-- A SYN without ACK whose first option of Multipath TCP asks to join by a token is found by it: its octets ask to join by that token.
abbrev pub WrittenJoinsAreFound : Type 0
WrittenJoinsAreFound =
    (spelling : Spelling) (from : Side) (s : PlainSegment) (backup : Bool) (id token nonce : ℕ) (more : List PlainOption)
    → CanSay spelling from s → s.syn ≡ true → s.acknowledged ≡ None → s.options ≡ Join (Syn backup id token nonce) ∷ more
    → Fits (wire.Join (Syn backup id token nonce))
    → join_token (addresses_from spelling.path from) (spelled_text spelling from s) ≡ Some token
