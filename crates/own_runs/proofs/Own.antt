-- What a reader of captures finds of a segment of a connection of ours, by what was drawn for the connection.
use Rattle.std.proofs.Common.{◌≡◌, refl, sym, ap, ◌∙◌, ℕ, ◌+◌, ◌<◌, ◌%◌, ◌^◌, ◌⊎◌, Bool, true, false, Option, List, map, arith}
use Rattle.std.specs.Prelude.{All, IfSome, Some, None, unwrap_or, slice_get}
use Rattle.sides.specs.declared.side.Side.{Side}
use Rattle.sides.specs.declared.side.Side.TheVariants.{A, B}
use Rattle.sides.specs.Side.{peer}
use Rattle.key_material.specs.declared.address.Address.{Address}
use Rattle.key_material.specs.declared.address.Address.TheVariants.{V4}
use Rattle.key_material.specs.AddressHmac.{add_addr64_of}
use Rattle.key_material.specs.JoinHmac.{join_a160_of, join_b64_of}
use Rattle.key_material.specs.KeyDigest.{token_of}
use Rattle.mptcp_options.specs.declared.capable.CapableKeys.{CapableKeys}
use Rattle.mptcp_options.specs.declared.capable.CapableKeys.TheVariants.{Both, NoKey, Sender, WithData}
use Rattle.mptcp_options.specs.declared.join.JoinForm.{JoinForm}
use Rattle.mptcp_options.specs.declared.join.JoinForm.TheVariants.{Answer, Syn, Third}
use Rattle.mptcp_options.specs.Value.{OptionValue, AddAddr, Capable, FastClose, Join}
use Rattle.segment_wire.specs.Options.{option_octets}
use Rattle.segment_wire.specs.Paths.{address_of, port_of}
use Rattle.capture_reader.specs.declared.seen.End.{End}
use Rattle.capture_reader.specs.Seen.{Seen}
use Rattle.judge_rules.specs.Mappings.{mapped_octets, offer_of}
use Rattle.judge_rules.specs.declared.mappings.Offer.{Offer}
use Rattle.seen_connections.specs.declared.asked.Answer.{Answer as Answered}
use Rattle.seen_connections.specs.declared.asked.Answer.TheVariants as answer
use Rattle.seen_connections.specs.declared.flow.Opening.{Opening}
use Rattle.seen_connections.specs.declared.flow.Opening.TheVariants as opening
use Rattle.seen_connections.specs.Asked.{first_answer, first_asked}
use Rattle.seen_connections.specs.EndsDecided.{same_end_decides}
use Rattle.seen_connections.specs.SameEnds.{same_end}
use Rattle.seen_connections.specs.SeenOptions.{Readable, seen_options}

-- ---- what is drawn

-- both keys, the nonces and the initial numbers of both ends of each path, and whether checksums are used
pub record Drawn : Type 0 where
  pub key_a : ℕ
  pub key_b : ℕ
  pub nonce_a : ℕ → ℕ
  pub nonce_b : ℕ → ℕ
  pub initial_a : ℕ → ℕ
  pub initial_b : ℕ → ℕ
  pub checksums : Bool
  pub paths : ℕ

module _ (d : Drawn) where
  abbrev pub own_key : Side → ℕ
  own_key A = d.key_a
  own_key B = d.key_b

  abbrev pub own_nonce : ℕ → Side → ℕ
  own_nonce path A = d.nonce_a path
  own_nonce path B = d.nonce_b path

  abbrev pub own_initial : ℕ → Side → ℕ
  own_initial path A = d.initial_a path
  own_initial path B = d.initial_b path

  -- the number of position 0
  abbrev pub first_seq : ℕ → Side → ℕ
  first_seq path s = (own_initial path s + 0) % 2 ^ 32

  -- ---- in options, of a segment of this side on a path

  abbrev pub KeysAre : Side → CapableKeys → Type 0
  KeysAre s NoKey = Unit {0}
  KeysAre s (Sender sender) = sender ≡ own_key s
  KeysAre s (Both sender receiver) = (sender ≡ own_key s) × (receiver ≡ own_key (peer s))
  KeysAre s (WithData sender receiver len checksum) = (sender ≡ own_key s) × (receiver ≡ own_key (peer s))

  abbrev pub JoinIs : ℕ → Side → JoinForm → Type 0
  JoinIs path s (Syn backup id token nonce) = (token ≡ token_of (own_key (peer s))) × (nonce ≡ own_nonce path s)
  JoinIs path s (Answer backup id hmac nonce) =
      (hmac ≡ join_b64_of (own_key (peer s)) (own_key s) (own_nonce path (peer s)) (own_nonce path s)) × (nonce ≡ own_nonce path s)
  JoinIs path s (Third hmac) = hmac ≡ join_a160_of (own_key s) (own_key (peer s)) (own_nonce path s) (own_nonce path (peer s))

  abbrev pub AddressIs : Side → Bool → ℕ → Address → Option ℕ → Option ℕ → Type 0
  AddressIs s false id address port (Some hmac) = hmac ≡ add_addr64_of (own_key s) (own_key (peer s)) id address (unwrap_or port 0)
  AddressIs s false id address port None = Unit {0}
  AddressIs s true id address port hmac = Unit {0}

  abbrev pub ValueIs : ℕ → Side → OptionValue → Type 0
  ValueIs path s (Capable flag_a flag_c keys) = KeysAre s keys
  ValueIs path s (Join form) = JoinIs path s form
  ValueIs path s (AddAddr echo id address port hmac) = AddressIs s echo id address port hmac
  ValueIs path s (FastClose key) = key ≡ own_key (peer s)
  ValueIs path s _ = Unit {0}

  -- what a SYN asks for, and what a SYN/ACK answers
  abbrev pub OpeningIs : ℕ → Opening → Type 0
  OpeningIs path (opening.Capable checksums) = checksums ≡ d.checksums
  OpeningIs path (opening.Join token nonce) = (token ≡ token_of d.key_b) × (nonce ≡ d.nonce_a path)

  abbrev pub AnswerIs : ℕ → Opening → Answered → Type 0
  AnswerIs path (opening.Capable asked) (answer.Key key checksums) = (key ≡ d.key_b) × (checksums ≡ d.checksums)
  AnswerIs path (opening.Join token nonce) (answer.Join join) =
      (join.nonce ≡ d.nonce_a path) × (join.answer ≡ d.nonce_b path) × (join.hmac ≡ join_b64_of d.key_a d.key_b (d.nonce_a path) (d.nonce_b path))
  AnswerIs path _ _ = ⊥

-- A mapping of octets, in a segment with this number and so many octets: it stands at the segment's position, and has its length.
abbrev pub OfferIn : ℕ → ℕ → ℕ → Offer → Type 0
OfferIn initial seq len offer = (mapped_octets offer ≡ 0) ⊎ ((seq ≡ (initial + offer.relative) % 2 ^ 32) × (mapped_octets offer ≡ len))

abbrev pub MapsIn : ℕ → ℕ → ℕ → OptionValue → Type 0
MapsIn initial seq len option = (first : ℕ) → IfSome (offer_of first option) (OfferIn initial seq len)

-- ---- the ends of a path

abbrev pub end_of : ℕ → Side → End
end_of path side = record { address = V4 (address_of path side); port = port_of path side }

-- A segment of a side on a path, with a good sum. Each of its options of Multipath TCP reads as one that the side may send, and maps octets of
-- the segment; a SYN asks for what A asks for, and answers what B answers, and has the number of position 0, without octets.
pub record IsOwn (d : Drawn) (seen : Seen) : Type 0 where
  pub path : ℕ
  pub within : path < d.paths
  pub from : Side
  pub source : seen.source ≡ end_of path from
  pub destination : seen.destination ≡ end_of path (peer from)
  pub good : seen.has_good_sum ≡ true
  pub uncut : seen.is_cut ≡ false
  pub values : List OptionValue
  pub options : seen_options d.checksums seen.segment.options ≡ map Readable values
  pub each : All (ValueIs d path from) values
  pub asks : seen.segment.head.syn ≡ true → IfSome (first_asked (option_octets seen.segment.options)) (λ o. (from ≡ A) × OpeningIs d path o)
  pub answers : seen.segment.head.syn ≡ true → from ≡ B → (o : Opening) → OpeningIs d path o
      → IfSome (first_answer o (option_octets seen.segment.options)) (AnswerIs d path o)
  pub starts : seen.segment.head.syn ≡ true → (seen.segment.head.seq ≡ first_seq d path from) × (seen.payload_len ≡ 0)
  pub maps : All (MapsIn (own_initial d path from) seen.segment.head.seq seen.payload_len) values

-- ---- an end is that of one path and side

abbrev fourth : Address → ℕ
fourth (V4 octets) = unwrap_or (slice_get octets 3) 0
fourth _ = 0

abbrev third : Address → ℕ
third (V4 octets) = unwrap_or (slice_get octets 2) 0
third _ = 0

side_is : (path other : ℕ) (s t : Side) → end_of path s ≡ end_of other t → s ≡ t
side_is path other A A e = refl
side_is path other B B e = refl
side_is path other A B e = absurd (let same : 1 ≡ 2 = ap (λ (x : End). fourth x.address) e in omega (arith, same))
side_is path other B A e = absurd (let same : 2 ≡ 1 = ap (λ (x : End). fourth x.address) e in omega (arith, same))

path_is : (path other : ℕ) (s t : Side) → end_of path s ≡ end_of other t → path ≡ other
path_is path other A A e = ap (λ (x : End). third x.address) e
path_is path other A B e = ap (λ (x : End). third x.address) e
path_is path other B A e = ap (λ (x : End). third x.address) e
path_is path other B B e = ap (λ (x : End). third x.address) e

pub same_place : (path other : ℕ) (s t : Side) → end_of path s ≡ end_of other t → (path ≡ other) × (s ≡ t)
same_place path other s t e = (path_is path other s t e, side_is path other s t e)

-- where two ends are told to be one
pub told_same : (one other : End) (path k : ℕ) (s t : Side) → one ≡ end_of path s → other ≡ end_of k t → same_end one other ≡ true → (path ≡ k) × (s ≡ t)
told_same one other path k s t e f same = same_place path k s t (sym e ∙ (same_end_decides one other).0 same ∙ f)

abbrev pub is_a : Side → Bool
is_a A = true
is_a B = false

not_a : B ≡ A → ⊥
not_a e = cc

-- whether it is that of A
pub is_opener : (path : ℕ) (s : Side) (one other : End) → one ≡ end_of path s → other ≡ end_of path A → same_end one other ≡ is_a s
is_opener path A one other e f = (same_end_decides one other).1 (e ∙ sym f)
is_opener path B one other e f = by (same_end one other) refl
  where
    by : (b : Bool) → same_end one other ≡ b → b ≡ false
    by false is = refl
    by true is = absurd (not_a (told_same one other path path B A e f is).1)
