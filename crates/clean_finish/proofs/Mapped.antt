-- An end in no fallback: mappings, Data ACKs and DATA_FINs count both ways, and no acknowledgement tells a failed check.
use Rattle.clean_finish.proofs.Words.{◌≡◌, refl, ap, ◌∙◌, ℕ, Bool, true, false, ◌||◌, if◌then◌else◌, Option, None, List, [], ◌∷◌, Some, is_some, Side, ack_at}
use Rattle.clean_finish.proofs.Words.{Dss, InfiniteMapping, Profile, PathEnd, Modes, ack_said, opening_options, segment_of, receives_infinite, receives_plainly}
use Rattle.clean_finish.proofs.Words.{sends_plainly, fail_beside, fail_options, IsMapping}
use Rattle.path_segments.specs.Options.{PlainOption}
use Rattle.path_store.specs.InfiniteMappings.{covers}

pub sends_mappings : (m : Modes) → IsMapping m → sends_plainly m ≡ false
sends_mappings m is = ap (λ (b : Bool). b || is_some m.own_infinite) is.0 ∙ ap (λ (o : Option InfiniteMapping). is_some o) is.1

pub receives_mappings : (m : Modes) (position : ℕ) → IsMapping m → receives_plainly m position ≡ false
receives_mappings m position is = ap (λ (b : Bool). b || covers m.peer_infinite position) is.0 ∙ ap (λ (o : Option InfiniteMapping). covers o position) is.2

none_beside : (m : Modes) → IsMapping m → fail_beside None m ≡ []
none_beside m is = by (receives_infinite m.mode)
  where
    by : (b : Bool) → fail_options (if b then None else m.failed_mapping) ≡ []
    by true = refl
    by false = ap fail_options is.3

-- a DSS stands alone on an acknowledgement
pub said_alone : (c : Profile) (s : Side) (position : ℕ) (e : PathEnd) → IsMapping e.modes
    → ack_said c s position None e
    ≡ segment_of c (ack_at position e.tcp) (if e.modes.identity then [] else (if e.modes.clear then Dss (Some e.receiving.next) None ∷ [] else opening_options c s e)) [] e
said_alone c s position e is =
    ap (λ (beside : List PlainOption).
    segment_of c (ack_at position e.tcp) (if e.modes.identity then [] else (if e.modes.clear then Dss (Some e.receiving.next) None ∷ beside else opening_options c s e)) [] e) (none_beside e.modes is)
