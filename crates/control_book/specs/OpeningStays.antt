-- No call changes which side the book is of, nor the side's own key.
use Rattle.std.specs.Prelude.{◌≡◌, ℕ, Bool, true, false, if◌then◌else◌, refl}
use Rattle.control_book.specs.declared.call.ControlCall.{ControlCall}
use Rattle.control_book.specs.declared.call.ControlCall.TheVariants as call
use Rattle.control_book.specs.declared.call.Notice.{Notice}
use Rattle.control_book.specs.declared.call.Notice.TheVariants as notice
use Rattle.control_book.specs.Control.{Control, new_control}
use Rattle.control_book.specs.Replies.{notice_on}
use Rattle.control_book.specs.Steps.{after, after_notice}

-- the book that this one was opened with
abbrev pub opening : Control → Control
opening c = new_control c.side c.keys.own

pub opening-either : (b : Bool) (one other : Control) (c : Control) → opening one ≡ opening c → opening other ≡ opening c
    → opening (if b then one else other) ≡ opening c
opening-either true one other c p q = p
opening-either false one other c p q = q

pub opening-notice : (told : Notice) (path : ℕ) (c : Control) → opening (after_notice told path c) ≡ opening c
opening-notice (notice.Withdraw id) path c = refl
opening-notice notice.Nothing path c = refl
opening-notice (notice.Announce id) path c = refl
opening-notice (notice.Carrier key) path c = refl
opening-notice notice.Reset path c = refl

pub opening_stays : (c : Control) (asked : ControlCall) → opening (after c asked) ≡ opening c
opening_stays c (call.Look path) = opening-notice (notice_on c path) path c
opening_stays c (call.PeerKey key) = refl
opening_stays c (call.Keys own peer) = opening-either _ _ _ c refl refl
opening_stays c (call.Fell path event) = refl
opening_stays c (call.JoinBegin path) = opening-either _ _ _ c refl refl
opening_stays c (call.JoinHeard path token) = opening-either _ _ _ c refl refl
opening_stays c (call.Live path backup) = refl
opening_stays c (call.Dead path) = refl
opening_stays c (call.Backup path on) = refl
opening_stays c (call.Rate path window rtt) = refl
opening_stays c (call.Announce id) = refl
opening_stays c (call.Withdraw id) = opening-either _ _ _ c refl refl
opening_stays c (call.Heard id address port hmac) = refl
opening_stays c (call.Echoed id) = opening-either _ _ _ c refl refl
opening_stays c (call.Removed id) = opening-either _ _ _ c refl refl
opening_stays c call.FastClose = refl
opening_stays c (call.FastHeard key) = opening-either _ _ _ c refl refl
