-- What a call of a control book is to the modes of the two directions: a side falls back, begins a join or answers one, or all is as before.
--
-- The modes of the lanes are a function of the six books (`modes_by`), so a call of a control book is silent events of
-- them (`control_moves` in `proofs/Falls/CallsAndModes`), whatever the path makes of its reply. What an end knows of
-- its side (`Knowledge` in `proofs/Lanes/Showing`) is the flags of its two lanes: they look at the modes just before
-- the send book is told (`look_moves`), and each rule of an end that speaks of plain TCP takes the flag in place of the
-- mode.
--
-- What may be so since a mode forgot it (a stop) counts as so: a rising bit read off the present mode (`is_plain`,
-- `is_loose`) needs no history, where the law excepts that mode.
use Rattle.world_laws.proofs.Words.{◌≡◌, refl, sym, ◌∙◌, ap, ◌&&◌, not, inl, inr, ◌⊎◌, Bool, true, false, if◌then◌else◌, List, [], ◌∷◌, Fall, Side, A, B}
use Rattle.world_laws.proofs.Words.{ControlCall, Ask, SixBooks, after_ask, Duo, after_events, falls_a, falls_b, begins_join, sends_join, hears_join, Lane}
use Rattle.world_laws.proofs.Words.{Reader, FallA, FallB, LoosenA, LoosenB, BeginJoin, SendJoin, HearJoin}
use Rattle.stream_lanes.specs.Duo.{Modes, Event}
use Rattle.world_laws.proofs.Falls.WhereASideStands.{is_plain, is_loose, Loosened, SameFall, FellBack, HasJoined, Fallen, call_falls, fell_unjoined}
use Rattle.world_laws.proofs.Lanes.OfAWorld.{Links, MayCall, Moved, AreSilent, duo_of, modes_by, then_moved}

-- ---- what becomes of the modes

-- where a side stands: in plain TCP, by an infinite mapping of the peer's, and joined
pub record Stand : Type 0 where
  pub plain : Bool
  pub loose : Bool
  pub joined : Bool

abbrev pub modes_with : Links → Stand → Stand → Modes
modes_with links a b = record { plain_a = a.plain; plain_b = b.plain; loose_a = a.loose; loose_b = b.loose; begun = a.joined; join_sent = a.joined; answered = b.joined; alters = links.alters; checked = links.checked }

-- the modes go on by silent events
pub record Modulated (m n : Modes) : Type 0 where
  pub moves : (d : Duo) → d.modes ≡ m → Moved d (record d { modes = n })

then_modulated : (m n k : Modes) → Modulated m n → Modulated n k → Modulated m k
then_modulated m n k x y = record { moves = λ d is. then_moved d (record d { modes = n }) (record d { modes = k }) (x.moves d is) (y.moves (record d { modes = n }) refl) }

stay_modes : (m n : Modes) → n ≡ m → Modulated m n
stay_modes m n same = record { moves = λ d is. record { events = []; silent = refl; to = ap (λ x. record d { modes = x }) (same ∙ sym is) } }

-- by one event, or two
by_events : (m n : Modes) (change : Modes → Modes) (events : List Event) → AreSilent events → ((d : Duo) → after_events events d ≡ record d { modes = change d.modes }) → n ≡ change m → Modulated m n
by_events m n change events silent makes same = record {
  moves = λ d is. record { events = events; silent = silent; to = ap (λ x. record d { modes = x }) (same ∙ sym (ap change is)) ∙ sym (makes d) };
}

stand_is : (x y : Stand) → y.plain ≡ x.plain → y.loose ≡ x.loose → y.joined ≡ x.joined → y ≡ x
stand_is x y plain loose joined =
    ap (λ (b : Bool). record y { plain = b }) plain ∙ ap (λ (b : Bool). record y { plain = x.plain; loose = b }) loose ∙ ap (λ (b : Bool). record x { joined = b }) joined

-- ---- by the events of a side

falls_at_a : (links : Links) (x y : Stand) → x.joined ≡ false → modes_with links (record x { plain = true }) y ≡ falls_a (modes_with links x y)
falls_at_a links x y unjoined = sym (ap (λ (b : Bool). if b then modes_with links x y else modes_with links (record x { plain = true }) y) unjoined)

falls_at_b : (links : Links) (x y : Stand) → y.joined ≡ false → modes_with links x (record y { plain = true }) ≡ falls_b (modes_with links x y)
falls_at_b links x y unjoined = sym (ap (λ (b : Bool). if b then modes_with links x y else modes_with links x (record y { plain = true })) unjoined)

joins_at_a : (links : Links) (x y : Stand) → x.plain ≡ false → modes_with links (record x { joined = true }) y ≡ sends_join (begins_join (modes_with links x y))
joins_at_a links x y plain = sym (ap (λ (b : Bool). sends_join (if b then modes_with links x y else record (modes_with links x y) { begun = true })) plain)

joins_at_b : (links : Links) (x y : Stand) → x.joined ≡ true → y.plain ≡ false → modes_with links x (record y { joined = true }) ≡ hears_join (modes_with links x y)
joins_at_b links x y begun plain = sym (
    ap (λ (b : Bool). if b && not y.plain then modes_with links x (record y { joined = true }) else modes_with links x y) begun
    ∙ ap (λ (b : Bool). if not b then modes_with links x (record y { joined = true }) else modes_with links x y) plain)

module _ (links : Links) (x y : Stand) where
  a_falls : x.joined ≡ false → Modulated (modes_with links x y) (modes_with links (record x { plain = true }) y)
  a_falls unjoined = by_events _ _ falls_a (FallA ∷ []) refl (λ d. refl) (falls_at_a links x y unjoined)

  b_falls : y.joined ≡ false → Modulated (modes_with links x y) (modes_with links x (record y { plain = true }))
  b_falls unjoined = by_events _ _ falls_b (FallB ∷ []) refl (λ d. refl) (falls_at_b links x y unjoined)

  a_loosens : Modulated (modes_with links x y) (modes_with links (record x { loose = true }) y)
  a_loosens = by_events _ _ (λ m. record m { loose_a = true }) (LoosenA ∷ []) refl (λ d. refl) refl

  b_loosens : Modulated (modes_with links x y) (modes_with links x (record y { loose = true }))
  b_loosens = by_events _ _ (λ m. record m { loose_b = true }) (LoosenB ∷ []) refl (λ d. refl) refl

  a_joins : x.plain ≡ false → Modulated (modes_with links x y) (modes_with links (record x { joined = true }) y)
  a_joins plain = by_events _ _ (λ m. sends_join (begins_join m)) (BeginJoin ∷ (SendJoin ∷ [])) refl (λ d. refl) (joins_at_a links x y plain)

  b_joins : x.joined ≡ true → y.plain ≡ false → Modulated (modes_with links x y) (modes_with links x (record y { joined = true }))
  b_joins begun plain = by_events _ _ hears_join (HearJoin ∷ []) refl (λ d. refl) (joins_at_b links x y begun plain)

-- ---- by what becomes of a fall

-- a firm side fell in no way
abbrev pub stand_of : Bool → Fall → Stand
stand_of firm f = record { plain = not firm && is_plain f; loose = not firm && is_loose f; joined = f.joined }

-- the modes of two falls
abbrev pub modes_in : Links → Fall → Fall → Modes
modes_in links f g = modes_with links (stand_of links.firm_a f) (stand_of links.firm_b g)

-- a side stands as before, or receives by an infinite mapping from now on
a_as_before : (links : Links) (x z y : Stand) → z.plain ≡ x.plain → (z.loose ≡ x.loose) ⊎ (z.loose ≡ true) → z.joined ≡ x.joined → Modulated (modes_with links x y) (modes_with links z y)
a_as_before links x z y plain (inl loose) joined = stay_modes _ _ (ap (λ s. modes_with links s y) (stand_is x z plain loose joined))
a_as_before links x z y plain (inr loose) joined =
    then_modulated _ (modes_with links (record x { loose = true }) y) _ (a_loosens links x y) (stay_modes _ _ (ap (λ s. modes_with links s y) (stand_is (record x { loose = true }) z plain loose joined)))

b_as_before : (links : Links) (x y z : Stand) → z.plain ≡ y.plain → (z.loose ≡ y.loose) ⊎ (z.loose ≡ true) → z.joined ≡ y.joined → Modulated (modes_with links x y) (modes_with links x z)
b_as_before links x y z plain (inl loose) joined = stay_modes _ _ (ap (λ s. modes_with links x s) (stand_is y z plain loose joined))
b_as_before links x y z plain (inr loose) joined =
    then_modulated _ (modes_with links x (record y { loose = true })) _ (b_loosens links x y) (stay_modes _ _ (ap (λ s. modes_with links x s) (stand_is (record y { loose = true }) z plain loose joined)))

loosened : (firm : Bool) (f g : Fall) → Loosened f g → ((not firm && is_loose g) ≡ (not firm && is_loose f)) ⊎ ((not firm && is_loose g) ≡ true)
loosened = elim [ true ↦ λ f g loose. inl refl | false ↦ λ f g loose. loose ]

unplain : (firm : Bool) (f : Fall) → is_plain f ≡ false → (not firm && is_plain f) ≡ false
unplain = elim [ true ↦ λ f is. refl | false ↦ λ f is. is ]

a_fell : (links : Links) (firm : Bool) (f h : Fall) (y : Stand) → FellBack f h → Modulated (modes_with links (stand_of firm f) y) (modes_with links (stand_of firm h) y)
a_fell links true f h y fell = a_as_before links (stand_of true f) (stand_of true h) y refl (inl refl) fell.joined
a_fell links false f h y fell =
    then_modulated _ _ _ (a_falls links (stand_of false f) y fell.was)
    (a_as_before links (record (stand_of false f) { plain = true }) (stand_of false h) y fell.mode fell.loose fell.joined)

b_fell : (links : Links) (firm : Bool) (x : Stand) (g h : Fall) → FellBack g h → Modulated (modes_with links x (stand_of firm g)) (modes_with links x (stand_of firm h))
b_fell links true x g h fell = b_as_before links x (stand_of true g) (stand_of true h) refl (inl refl) fell.joined
b_fell links false x g h fell =
    then_modulated _ _ _ (b_falls links x (stand_of false g) fell.was)
    (b_as_before links x (record (stand_of false g) { plain = true }) (stand_of false h) fell.mode fell.loose fell.joined)

module _ (links : Links) (f g h : Fall) where
  abbrev at_a : Fall → Stand
  at_a x = stand_of links.firm_a x

  abbrev at_b : Fall → Stand
  at_b x = stand_of links.firm_b x

  a_goes : Fallen f h → Modulated (modes_in links f g) (modes_in links h g)
  a_goes (inl same) = a_as_before links (at_a f) (at_a h) (at_b g) (ap (λ b. not links.firm_a && b) same.mode) (loosened links.firm_a f h same.loose) same.joined
  a_goes (inr fell) = a_fell links links.firm_a f h (at_b g) fell

  b_goes : Fallen g h → Modulated (modes_in links f g) (modes_in links f h)
  b_goes (inl same) = b_as_before links (at_a f) (at_b g) (at_b h) (ap (λ b. not links.firm_b && b) same.mode) (loosened links.firm_b g h same.loose) same.joined
  b_goes (inr fell) = b_fell links links.firm_b (at_a f) g h fell

  a_begins : SameFall f h ⊎ HasJoined f h → Modulated (modes_in links f g) (modes_in links h g)
  a_begins (inl same) = a_goes (inl same)
  a_begins (inr joins) =
      then_modulated _ _ _ (a_joins links (at_a f) (at_b g) (unplain links.firm_a f joins.was))
      (a_as_before links (record (at_a f) { joined = true }) (at_a h) (at_b g) (ap (λ b. not links.firm_a && b) joins.mode) (loosened links.firm_a f h joins.loose) joins.joined)

  b_begins : f.joined ≡ true → SameFall g h ⊎ HasJoined g h → Modulated (modes_in links f g) (modes_in links f h)
  b_begins begun (inl same) = b_goes (inl same)
  b_begins begun (inr joins) =
      then_modulated _ _ _ (b_joins links (at_a f) (at_b g) begun (unplain links.firm_b g joins.was))
      (b_as_before links (at_a f) (record (at_b g) { joined = true }) (at_b h) (ap (λ b. not links.firm_b && b) joins.mode) (loosened links.firm_b g h joins.loose) joins.joined)

-- ---- a side that is firm no more

-- a side fell back, or may have done so before it was stopped
module _ (links : Links) where
  a_softer : (f : Fall) (y : Stand) (plain loose : Bool) → (plain ≡ true → f.joined ≡ false)
      → Modulated (modes_with links (stand_of true f) y) (modes_with links (record { plain = plain; loose = loose; joined = f.joined }) y)
  a_softer f y plain loose unjoined = then_modulated _ _ _ (falls plain unjoined) (loosens loose)
    where
      falls : (b : Bool) → (b ≡ true → f.joined ≡ false) → Modulated (modes_with links (stand_of true f) y) (modes_with links (record (stand_of true f) { plain = b }) y)
      falls false unjoined = stay_modes _ _ refl
      falls true unjoined = a_falls links (stand_of true f) y (unjoined refl)

      loosens : (b : Bool) → let x : Stand = record (stand_of true f) { plain = plain } in Modulated (modes_with links x y) (modes_with links (record x { loose = b }) y)
      loosens false = stay_modes _ _ refl
      loosens true = a_loosens links (record (stand_of true f) { plain = plain }) y

  b_softer : (x : Stand) (g : Fall) (plain loose : Bool) → (plain ≡ true → g.joined ≡ false)
      → Modulated (modes_with links x (stand_of true g)) (modes_with links x (record { plain = plain; loose = loose; joined = g.joined }))
  b_softer x g plain loose unjoined = then_modulated _ _ _ (falls plain unjoined) (loosens loose)
    where
      falls : (b : Bool) → (b ≡ true → g.joined ≡ false) → Modulated (modes_with links x (stand_of true g)) (modes_with links x (record (stand_of true g) { plain = b }))
      falls false unjoined = stay_modes _ _ refl
      falls true unjoined = b_falls links x (stand_of true g) (unjoined refl)

      loosens : (b : Bool) → let y : Stand = record (stand_of true g) { plain = plain } in Modulated (modes_with links x y) (modes_with links x (record y { loose = b }))
      loosens false = stay_modes _ _ refl
      loosens true = b_loosens links x (record (stand_of true g) { plain = plain })

  a_softens : (firm : Bool) (f : Fall) (y : Stand) → Modulated (modes_with links (stand_of firm f) y) (modes_with links (stand_of false f) y)
  a_softens true f y = a_softer f y (is_plain f) (is_loose f) (fell_unjoined f)
  a_softens false f y = stay_modes _ _ refl

  b_softens : (firm : Bool) (x : Stand) (g : Fall) → Modulated (modes_with links x (stand_of firm g)) (modes_with links x (stand_of false g))
  b_softens true x g = b_softer x g (is_plain g) (is_loose g) (fell_unjoined g)
  b_softens false x g = stay_modes _ _ refl

-- links as these, where no side is firm
abbrev pub softened : Links → Links
softened links = record links { firm_a = false; firm_b = false }

pub softens : (links : Links) (six : SixBooks) → Modulated (modes_by links six) (modes_by (softened links) six)
softens links six =
    then_modulated _ _ _ (a_softens links links.firm_a six.control_a.fall (stand_of links.firm_b six.control_b.fall))
    (b_softens links links.firm_b (stand_of false six.control_a.fall) six.control_b.fall)

-- after what may be called
modulated : (links : Links) (s : Side) (call : ControlCall) (six : SixBooks) → MayCall s call six → Modulated (modes_by links six) (modes_by links (after_ask (Ask.Control s call) six))
modulated links A (ControlCall.Look path) six may = a_goes links six.control_a.fall six.control_b.fall _ (call_falls six.control_a (ControlCall.Look path))
modulated links A (ControlCall.PeerKey key) six may = a_goes links six.control_a.fall six.control_b.fall _ (call_falls six.control_a (ControlCall.PeerKey key))
modulated links A (ControlCall.Keys own other) six may = a_goes links six.control_a.fall six.control_b.fall _ (call_falls six.control_a (ControlCall.Keys own other))
modulated links A (ControlCall.Fell path event) six may = a_goes links six.control_a.fall six.control_b.fall _ (call_falls six.control_a (ControlCall.Fell path event))
modulated links A (ControlCall.JoinBegin path) six may = a_begins links six.control_a.fall six.control_b.fall _ (call_falls six.control_a (ControlCall.JoinBegin path))
modulated links A (ControlCall.JoinHeard path token) six may = a_begins links six.control_a.fall six.control_b.fall _ (call_falls six.control_a (ControlCall.JoinHeard path token))
modulated links A (ControlCall.Live path backup) six may = a_goes links six.control_a.fall six.control_b.fall _ (call_falls six.control_a (ControlCall.Live path backup))
modulated links A (ControlCall.Dead path) six may = a_goes links six.control_a.fall six.control_b.fall _ (call_falls six.control_a (ControlCall.Dead path))
modulated links A (ControlCall.Rate path window rtt) six may = a_goes links six.control_a.fall six.control_b.fall _ (call_falls six.control_a (ControlCall.Rate path window rtt))
modulated links A (ControlCall.Backup path on) six may = a_goes links six.control_a.fall six.control_b.fall _ (call_falls six.control_a (ControlCall.Backup path on))
modulated links A (ControlCall.Announce id) six may = a_goes links six.control_a.fall six.control_b.fall _ (call_falls six.control_a (ControlCall.Announce id))
modulated links A (ControlCall.Withdraw id) six may = a_goes links six.control_a.fall six.control_b.fall _ (call_falls six.control_a (ControlCall.Withdraw id))
modulated links A (ControlCall.Heard id address port hmac) six may = a_goes links six.control_a.fall six.control_b.fall _ (call_falls six.control_a (ControlCall.Heard id address port hmac))
modulated links A (ControlCall.Echoed id) six may = a_goes links six.control_a.fall six.control_b.fall _ (call_falls six.control_a (ControlCall.Echoed id))
modulated links A (ControlCall.Removed id) six may = a_goes links six.control_a.fall six.control_b.fall _ (call_falls six.control_a (ControlCall.Removed id))
modulated links A ControlCall.FastClose six may = a_goes links six.control_a.fall six.control_b.fall _ (call_falls six.control_a ControlCall.FastClose)
modulated links A (ControlCall.FastHeard key) six may = a_goes links six.control_a.fall six.control_b.fall _ (call_falls six.control_a (ControlCall.FastHeard key))
modulated links B (ControlCall.Look path) six may = b_goes links six.control_a.fall six.control_b.fall _ (call_falls six.control_b (ControlCall.Look path))
modulated links B (ControlCall.PeerKey key) six may = b_goes links six.control_a.fall six.control_b.fall _ (call_falls six.control_b (ControlCall.PeerKey key))
modulated links B (ControlCall.Keys own other) six may = b_goes links six.control_a.fall six.control_b.fall _ (call_falls six.control_b (ControlCall.Keys own other))
modulated links B (ControlCall.Fell path event) six may = b_goes links six.control_a.fall six.control_b.fall _ (call_falls six.control_b (ControlCall.Fell path event))
modulated links B (ControlCall.JoinBegin path) six may = absurd may
modulated links B (ControlCall.JoinHeard path token) six may = b_begins links six.control_a.fall six.control_b.fall _ may (call_falls six.control_b (ControlCall.JoinHeard path token))
modulated links B (ControlCall.Live path backup) six may = b_goes links six.control_a.fall six.control_b.fall _ (call_falls six.control_b (ControlCall.Live path backup))
modulated links B (ControlCall.Dead path) six may = b_goes links six.control_a.fall six.control_b.fall _ (call_falls six.control_b (ControlCall.Dead path))
modulated links B (ControlCall.Rate path window rtt) six may = b_goes links six.control_a.fall six.control_b.fall _ (call_falls six.control_b (ControlCall.Rate path window rtt))
modulated links B (ControlCall.Backup path on) six may = b_goes links six.control_a.fall six.control_b.fall _ (call_falls six.control_b (ControlCall.Backup path on))
modulated links B (ControlCall.Announce id) six may = b_goes links six.control_a.fall six.control_b.fall _ (call_falls six.control_b (ControlCall.Announce id))
modulated links B (ControlCall.Withdraw id) six may = b_goes links six.control_a.fall six.control_b.fall _ (call_falls six.control_b (ControlCall.Withdraw id))
modulated links B (ControlCall.Heard id address port hmac) six may = b_goes links six.control_a.fall six.control_b.fall _ (call_falls six.control_b (ControlCall.Heard id address port hmac))
modulated links B (ControlCall.Echoed id) six may = b_goes links six.control_a.fall six.control_b.fall _ (call_falls six.control_b (ControlCall.Echoed id))
modulated links B (ControlCall.Removed id) six may = b_goes links six.control_a.fall six.control_b.fall _ (call_falls six.control_b (ControlCall.Removed id))
modulated links B ControlCall.FastClose six may = b_goes links six.control_a.fall six.control_b.fall _ (call_falls six.control_b ControlCall.FastClose)
modulated links B (ControlCall.FastHeard key) six may = b_goes links six.control_a.fall six.control_b.fall _ (call_falls six.control_b (ControlCall.FastHeard key))

-- Each call of a control book that may be made is moves.
pub control_moves : (links : Links) (s : Side) (call : ControlCall) (six : SixBooks) → MayCall s call six → (lanes_ab lanes_ba : List Lane) (reader_a reader_b : Reader)
    → Moved (duo_of links six lanes_ab lanes_ba reader_a reader_b) (duo_of links (after_ask (Ask.Control s call) six) lanes_ab lanes_ba reader_a reader_b)
control_moves links A call six may lanes_ab lanes_ba reader_a reader_b = (modulated links A call six may).moves (duo_of links six lanes_ab lanes_ba reader_a reader_b) refl
control_moves links B call six may lanes_ab lanes_ba reader_a reader_b = (modulated links B call six may).moves (duo_of links six lanes_ab lanes_ba reader_a reader_b) refl
