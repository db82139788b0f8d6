-- The laws of the control book, over every list of calls.
use Rattle.std.specs.Prelude.{◌≡◌, ℕ, ◌==◌, ◌<◌, Bool, true, false, List, [], ◌∷◌, IfSome, All, Contains}
use Rattle.sides.specs.declared.side.Side.{Side}
use Rattle.linked_increase.specs.declared.rows.Row.{Row}
use Rattle.linked_increase.specs.Paths.{IsInRange}
use Rattle.std.specs.List.{list_any}
use Rattle.fallback_state.specs.declared.fall.Mode.TheVariants.{Aborted}
use Rattle.address_manager.specs.IdSet.{is_member}
use Rattle.control_book.specs.declared.call.ControlCall.{ControlCall}
use Rattle.control_book.specs.declared.call.ControlCall.TheVariants as call
use Rattle.control_book.specs.declared.call.Notice.TheVariants as notice
use Rattle.control_book.specs.Registry.{state_of, rows_with}
use Rattle.control_book.specs.Control.{Control, new_control}
use Rattle.control_book.specs.Replies.{notice_on}
use Rattle.control_book.specs.Calls.{can_ask}
use Rattle.control_book.specs.declared.registry.PathState.{PathState}
use Rattle.control_book.specs.Steps.{after}

-- the book after all of them
abbrev pub after_all : List ControlCall → Control → Control
after_all [] c = c
after_all (asked ∷ calls) c = after_all calls (after c asked)

-- the calls by which keys come
abbrev pub gives_key : ControlCall → Bool
gives_key (call.Keys own peer) = true
gives_key (call.PeerKey key) = true
gives_key asked = false

-- a fast close by this side
abbrev pub is_fast_close : ControlCall → Bool
is_fast_close call.FastClose = true
is_fast_close asked = false

-- the calls that end the announcement of an id
abbrev pub ends_announcement : ℕ → ControlCall → Bool
ends_announcement id (call.Echoed other) = other == id
ends_announcement id (call.Removed other) = other == id
ends_announcement id asked = false

-- every row that is kept is that of its path, and can be linked
abbrev pub RowsAreRight : List PathState → Type 0
RowsAreRight paths = (path : ℕ) → IfSome (state_of paths path).row (λ row. IsInRange row × (row.path ≡ path))

-- each of the calls meets its condition
abbrev pub CanAskAll : List ControlCall → Type 0
CanAskAll [] = Unit {0}
CanAskAll (asked ∷ calls) = can_ask asked × CanAskAll calls

-- keys change by Keys and PeerKey alone
abbrev pub KeysStay : Type 0
KeysStay = (calls : List ControlCall) (c : Control) → list_any gives_key calls ≡ false → (after_all calls c).keys ≡ c.keys

-- once aborted, always aborted
abbrev pub AbortedStays : Type 0
AbortedStays = (calls : List ControlCall) (c : Control) → c.fall.mode ≡ Aborted → (after_all calls c).fall.mode ≡ Aborted

-- a path that was told to reset is told so at every later look, as long as no fast close of this side follows
abbrev pub ResetStays : Type 0
ResetStays = (calls : List ControlCall) (c : Control) (path : ℕ) → notice_on c path ≡ notice.Reset
    → list_any is_fast_close calls ≡ false → notice_on (after_all calls c) path ≡ notice.Reset

-- a path whose address was removed is told to reset at every look
abbrev pub RemovedResets : Type 0
RemovedResets = (calls : List ControlCall) (c : Control) (path : ℕ) → (state_of c.paths path).removed ≡ true
    → notice_on (after_all calls c) path ≡ notice.Reset

-- an announcement stays due until its echo or its removal; to take the address back ends none
abbrev pub AnnouncementStays : Type 0
AnnouncementStays = (calls : List ControlCall) (c : Control) (id : ℕ) → is_member c.addresses.due id ≡ true
    → list_any (ends_announcement id) calls ≡ false → is_member (after_all calls c).addresses.due id ≡ true

-- from the opening on every row that is kept is right
abbrev pub RowsStayRight : Type 0
RowsStayRight = (calls : List ControlCall) (side : Side) (key : ℕ) → CanAskAll calls → RowsAreRight (after_all calls (new_control side key)).paths

-- rows that are told beside one that came meet the conditions of the linked increase: each can be linked, and that
-- one is among them
abbrev pub RowsCanGrow : Type 0
RowsCanGrow = (paths : List PathState) (came : Row) → RowsAreRight paths → IsInRange came → came.path < 16
    → All IsInRange (rows_with paths came) × Contains (rows_with paths came) came
