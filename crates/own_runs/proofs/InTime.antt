-- What comes before a segment of a whole run: before an answer to a SYN that SYN, before payload and a DATA_FIN the answer of its path, and before or in
-- A's also A's key.
use Rattle.std.proofs.Common.{◌≡◌, refl, sym, ap, ◌∙◌, subst, ℕ, inl, inr, ⊎_elim, append_assoc, ◌⊎◌, ◌||◌, Bool, true, false, Option, Some, None, option_map, List, [], ◌∷◌, ◌++◌}
use Rattle.std.specs.List.{list_any, slice_get}
use Rattle.link_trace.specs.declared.sent.Sent.{Sent}
use Rattle.path_core.specs.Looking.{first_sends, segment_sent}
use Rattle.path_core.specs.Octets.{octets}
use Rattle.path_core.specs.State.{PathState, path_of}
use Rattle.path_segments.specs.Options.{PlainOption, mapping_ends_stream}
use Rattle.path_segments.specs.Spelled.{PlainSegment}
use Rattle.path_segments.specs.declared.segment.PathMapping.TheVariants.{Infinite}
use Rattle.path_segments.specs.declared.segment.PathOption.TheVariants.{Dss}
use Rattle.sides.specs.declared.side.Side.TheVariants.{A, B}
use Rattle.sides.specs.declared.side.Side.{Side}
use Rattle.world_laws.specs.Actors.{Actor, ActorCrew}
use Rattle.world_laws.specs.Openings.{Start, opened_world}
use Rattle.world_laws.specs.Worlds.{Turn, WorldState, world_run}
use Rattle.world_laws.specs.declared.member.Member.TheVariants.{App, Path}
use Rattle.own_runs.specs.KeysShown.{maps_key, shows_key, shows_keys}
use Rattle.own_runs.proofs.LateJoins.{ComesBehind}
use Rattle.own_runs.proofs.Learning.{IsAlone}
use Rattle.own_runs.proofs.Speaking.{ToSend}

-- the DATA_FIN
abbrev pub tells_end : PlainOption → Bool
tells_end (Dss next mapping) = mapping_ends_stream mapping
tells_end _ = false

abbrev pub has_octets : List ℕ → Bool
has_octets [] = false
has_octets (octet ∷ more) = true

-- payload, or the DATA_FIN
abbrev pub is_bearing : PlainSegment → Bool
is_bearing sg = has_octets sg.payload || list_any tells_end sg.options

-- a SYN that acknowledges one without octets
pub record IsSynAck (sg : PlainSegment) : Type 0 where
  pub syn : sg.syn ≡ true
  pub acknowledged : sg.acknowledged ≡ Some 1

-- what a segment of a trace is: A's SYN of a path, B's answer to it, A's key, a SYN of B's, and a reset
abbrev pub OpensPath : Sent → PlainSegment → ℕ → Type 0
OpensPath x sg n = (x.path ≡ n) × (x.from ≡ A) × IsAlone sg

abbrev pub AnswersPath : Sent → PlainSegment → ℕ → Type 0
AnswersPath x sg n = (x.path ≡ n) × (x.from ≡ B) × IsSynAck sg

abbrev pub TellsKey : Sent → PlainSegment → Type 0
TellsKey x sg = (x.path ≡ 0) × (x.from ≡ A) × (list_any shows_keys sg.options ≡ true)

abbrev pub SynsPath : Sent → PlainSegment → ℕ → Type 0
SynsPath x sg n = (x.path ≡ n) × (x.from ≡ B) × (sg.syn ≡ true)

abbrev pub ResetsPath : Sent → PlainSegment → ℕ → Side → Type 0
ResetsPath x sg n s = (x.path ≡ n) × (x.from ≡ s) × (sg.rst ≡ true)

-- an infinite mapping (RFC 8684, section 3.7)
abbrev pub tells_line : PlainOption → Bool
tells_line (Dss next (Some (Infinite place position))) = true
tells_line _ = false

abbrev pub LinesPath : Sent → PlainSegment → ℕ → Side → Type 0
LinesPath x sg n s = (x.path ≡ n) × (x.from ≡ s) × (list_any tells_line sg.options ≡ true)

-- of a side's on a path, where so much was sent before it: A's SYNs, B's answers, A's key, and resets behind a SYN of B's
pub record InTime (U T : ℕ → Type 0) (K : Type 0) (X : ℕ → Side → Type 0) (path : ℕ) (s : Side) (sg : PlainSegment) : Type 0 where
  pub answers : s ≡ B → IsSynAck sg → U path
  pub bears : is_bearing sg ≡ true → (sg.syn ≡ false) × (sg.rst ≡ false) × T path × (X path s → ⊥)
  pub key : is_bearing sg ≡ true → s ≡ A → K ⊎ ((path ≡ 0) × (list_any shows_keys sg.options ≡ true))
  pub keys : list_any shows_keys sg.options ≡ true → (sg.syn ≡ false) × T path
  pub first : list_any maps_key sg.options ≡ true → (path ≡ 0) × (s ≡ A)
  pub shows : s ≡ B → path ≡ 0 → sg.syn ≡ true → list_any shows_key sg.options ≡ true

-- ---- what the turns before a moment sent

pub record Sending : Type 0 where
  pub path : ℕ
  pub from : Side
  pub segment : PlainSegment

abbrev pub sending_as : {C : Type 0} → PathState C → ToSend → Sending
sending_as p t = record { path = path_of p; from = t.from; segment = segment_sent p t }

abbrev pub path_sending : {C : Type 0} → PathState C → Option Sending
path_sending p = option_map (sending_as p) (first_sends p.agenda p)

abbrev pub member_sending : {C : Type 0} → Actor C → Option Sending
member_sending (App a) = None
member_sending (Path p) = path_sending p

abbrev pub crew_sending : {C : Type 0} → Option (ActorCrew C) → Option Sending
crew_sending None = None
crew_sending (Some c) = member_sending c.member

abbrev pub turn_sending : {C : Type 0} → Turn → WorldState C → Option Sending
turn_sending (Turn.Step i) w = crew_sending (slice_get w.crew i)
turn_sending Turn.Round w = None

-- one of the turns sent such a segment
pub record WasSaid (start : Start) (P : Sending → Type 0) (before : List Turn) : Type 0 where
  pub more : List Turn
  pub turn : Turn
  pub later : List Turn
  pub is : more ++ turn ∷ later ≡ before
  pub said : Sending
  pub sends : turn_sending turn (world_run octets more (opened_world start)) ≡ Some said
  pub holds : P said

abbrev pub OpensAt : ℕ → Sending → Type 0
OpensAt n y = (y.path ≡ n) × (y.from ≡ A) × IsAlone y.segment

abbrev pub AnswersAt : ℕ → Sending → Type 0
AnswersAt n y = (y.path ≡ n) × (y.from ≡ B) × IsSynAck y.segment

abbrev pub KeyAt : Sending → Type 0
KeyAt y = (y.path ≡ 0) × (y.from ≡ A) × (list_any shows_keys y.segment.options ≡ true)

abbrev pub ResetsAt : ℕ → Side → Sending → Type 0
ResetsAt n s y = (y.path ≡ n) × (y.from ≡ s) × (y.segment.rst ≡ true)

abbrev pub SynsAt : ℕ → Sending → Type 0
SynsAt n y = (y.path ≡ n) × (y.from ≡ B) × (y.segment.syn ≡ true)

abbrev pub TellsLineAt : ℕ → Side → Sending → Type 0
TellsLineAt n s y = (y.path ≡ n) × (y.from ≡ s) × (list_any tells_line y.segment.options ≡ true)

-- one of the turns sent a reset of a side's on a path, not before a SYN of B's there
pub record WasReset (start : Start) (n : ℕ) (s : Side) (before : List Turn) : Type 0 where
  pub more : List Turn
  pub turn : Turn
  pub later : List Turn
  pub is : more ++ turn ∷ later ≡ before
  pub said : Sending
  pub sends : turn_sending turn (world_run octets more (opened_world start)) ≡ Some said
  pub holds : ResetsAt n s said
  pub begun : WasSaid start (SynsAt n) (more ++ turn ∷ [])

-- a segment that is sent next comes in time
abbrev pub TimeAt : Start → List Turn → ℕ → Side → PlainSegment → Type 0
TimeAt start before path s sg =
    InTime (λ n. WasSaid start (OpensAt n) before) (λ n. WasSaid start (AnswersAt n) before) (WasSaid start KeyAt before) (λ n t. WasReset start n t before) path s sg

abbrev pub ComesAt : Start → List Turn → ℕ → Side → PlainSegment → Type 0
ComesAt start before path s sg = ComesBehind (WasSaid start (OpensAt 0) before) (WasSaid start (AnswersAt 0) before) path s sg

-- ---- what was sent before one turn more

turns_split : (more later before : List Turn) (t turn : Turn) → more ++ t ∷ later ≡ before ++ turn ∷ [] → ((more ≡ before) × (t ≡ turn)) ⊎ ((less : List Turn) × (more ++ t ∷ less ≡ before))
turns_split [] later [] t turn is = inl (refl, head is)
  where
    head : {a b : Turn} {xs ys : List Turn} → (let one : List Turn = a ∷ xs in one) ≡ b ∷ ys → a ≡ b
    head e = cc
turns_split [] later (b ∷ before) t turn is = inr (before, ap (λ (x : Turn). x ∷ before) (head is))
  where
    head : {a b : Turn} {xs ys : List Turn} → (let one : List Turn = a ∷ xs in one) ≡ b ∷ ys → a ≡ b
    head e = cc
turns_split (m ∷ more) later [] t turn is = absurd (none more (tail is))
  where
    tail : {a b : Turn} {xs ys : List Turn} → (let one : List Turn = a ∷ xs in one) ≡ b ∷ ys → xs ≡ ys
    tail e = cc

    none : (more : List Turn) → more ++ t ∷ later ≡ [] → ⊥
    none [] e = cc
    none (m ∷ more) e = cc
turns_split (m ∷ more) later (b ∷ before) t turn is =
    ⊎_elim (λ last. inl (both (head is) last.0, last.1)) (λ it. inr (it.0, both (head is) it.1)) (turns_split more later before t turn (tail is))
  where
    head : {a b : Turn} {xs ys : List Turn} → (let one : List Turn = a ∷ xs in one) ≡ b ∷ ys → a ≡ b
    head e = cc

    tail : {a b : Turn} {xs ys : List Turn} → (let one : List Turn = a ∷ xs in one) ≡ b ∷ ys → xs ≡ ys
    tail e = cc

    both : {a b : Turn} {xs ys : List Turn} → a ≡ b → xs ≡ ys → (let one : List Turn = a ∷ xs in one) ≡ b ∷ ys
    both {a} {b} {xs} {ys} x y = ap (λ (z : Turn). z ∷ xs) x ∙ ap (λ (zs : List Turn). b ∷ zs) y

module _ (start : Start) (P : Sending → Type 0) (before : List Turn) (turn : Turn) where
  abbrev here : Option Sending
  here = turn_sending turn (world_run octets before (opened_world start))

  pub was_split : WasSaid start P (before ++ turn ∷ []) → WasSaid start P before ⊎ ((y : Sending) × (here ≡ Some y) × P y)
  was_split h =
      ⊎_elim
      (λ last. inr (
        h.said,
        ap (λ (t : Turn). turn_sending t (world_run octets before (opened_world start))) (sym last.1)
            ∙ ap (λ (ts : List Turn). turn_sending h.turn (world_run octets ts (opened_world start))) (sym last.0) ∙ h.sends,
        h.holds,
      ))
      (λ it. inl (record { more = h.more; turn = h.turn; later = it.0; is = it.1; said = h.said; sends = h.sends; holds = h.holds })) (turns_split h.more h.later before h.turn turn h.is)

  pub was_more : WasSaid start P before → WasSaid start P (before ++ turn ∷ [])
  was_more h = record {
    more = h.more;
    turn = h.turn;
    later = h.later ++ turn ∷ [];
    is = sym (append_assoc h.more (h.turn ∷ h.later) (turn ∷ [])) ∙ ap (λ (ts : List Turn). ts ++ turn ∷ []) h.is;
    said = h.said;
    sends = h.sends;
    holds = h.holds;
  }

  pub was_last : (y : Sending) → here ≡ Some y → P y → WasSaid start P (before ++ turn ∷ [])
  was_last y sends holds = record { more = before; turn = turn; later = []; is = refl; said = y; sends = sends; holds = holds }

pub none_said : (start : Start) (P : Sending → Type 0) → WasSaid start P [] → ⊥
none_said start P h = by h.more h.is
  where
    by : (more : List Turn) → more ++ h.turn ∷ h.later ≡ [] → ⊥
    by [] e = cc
    by (m ∷ more) e = cc

pub none_reset : (start : Start) (n : ℕ) (s : Side) → WasReset start n s [] → ⊥
none_reset start n s h = by h.more h.is
  where
    by : (more : List Turn) → more ++ h.turn ∷ h.later ≡ [] → ⊥
    by [] e = cc
    by (m ∷ more) e = cc

-- a reset was sent before the last turn, or by it
pub reset_split : (start : Start) (n : ℕ) (s : Side) (before : List Turn) (turn : Turn) → WasReset start n s (before ++ turn ∷ []) → WasReset start n s before
    ⊎ ((y : Sending) × (turn_sending turn (world_run octets before (opened_world start)) ≡ Some y) × ResetsAt n s y × WasSaid start (SynsAt n) (before ++ turn ∷ []))
reset_split start n s before turn h =
    ⊎_elim
    (λ last. inr (
      h.said,
      ap (λ (t : Turn). turn_sending t (world_run octets before (opened_world start))) (sym last.1)
          ∙ ap (λ (ts : List Turn). turn_sending h.turn (world_run octets ts (opened_world start))) (sym last.0) ∙ h.sends,
      h.holds,
      subst (λ (ts : List Turn). WasSaid start (SynsAt n) ts) (ap (λ (ts : List Turn). ts ++ h.turn ∷ []) last.0 ∙ ap (λ (t : Turn). before ++ t ∷ []) last.1) h.begun,
    ))
    (λ it. inl (record { more = h.more; turn = h.turn; later = it.0; is = it.1; said = h.said; sends = h.sends; holds = h.holds; begun = h.begun })) (turns_split h.more h.later before h.turn turn h.is)
