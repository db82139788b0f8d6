-- What each call changes in a side's control book: one definition for each.
use Rattle.std.specs.Prelude.{ℕ, ◌==◌, Bool, true, false, not, ◌&&◌, ◌||◌, if◌then◌else◌, List, [], ◌∷◌, Some, None, is_some, fold, slice_set}
use Rattle.linked_increase.specs.Paths.{row_of}
use Rattle.key_material.specs.declared.address.Address.{Address}
use Rattle.key_material.specs.declared.address.Address.TheVariants.{V4}
use Rattle.key_material.specs.KeyDigest.{token_of}
use Rattle.fallback_state.specs.declared.fall.Event.{Event}
use Rattle.fallback_state.specs.declared.fall.Event.TheVariants as event
use Rattle.fallback_state.specs.Table.{fall_step}
use Rattle.address_manager.specs.Addresses.{knows}
use Rattle.address_manager.specs.Steps.{after_announce as addresses_announced, after_heard as addresses_heard, after_removed as addresses_removed}
use Rattle.control_book.specs.declared.registry.Phase.TheVariants.{Idle, Opening, Living}
use Rattle.control_book.specs.declared.registry.PathState.{PathState}
use Rattle.control_book.specs.declared.call.ControlCall.{ControlCall}
use Rattle.control_book.specs.declared.call.ControlCall.TheVariants as call
use Rattle.control_book.specs.declared.call.Notice.{Notice}
use Rattle.control_book.specs.declared.call.Notice.TheVariants as notice
use Rattle.control_book.specs.Registry.{every_path, stands, lives, sole, lowest_living, with_phase, with_row, with_removed}
use Rattle.control_book.specs.Control.{Control, with_withdrawal_due}
use Rattle.control_book.specs.Replies.{is_sure, is_starting, may_join, notice_on, is_right}

-- an address that was told to be taken back is no longer to be told on that path
abbrev pub after_notice : Notice → ℕ → Control → Control
after_notice (notice.Withdraw id) path c =
    record c { notices = record c.notices { withdrawals = with_withdrawal_due id false path c.notices.withdrawals } }
after_notice notice.Nothing path c = c
after_notice (notice.Announce id) path c = c
after_notice (notice.Carrier key) path c = c
after_notice notice.Reset path c = c

-- Look: the path was told its notice
abbrev pub after_look : ℕ → Control → Control
after_look path c = after_notice (notice_on c path) path c

-- PeerKey: the peer's key is kept
abbrev pub after_peer_key : ℕ → Control → Control
after_peer_key key c = record c { keys = record c.keys { peer = Some key } }

-- the side takes an event on a path
abbrev pub after_event : ℕ → Bool → Event → Control → Control
after_event path sole event c = record c { fall = (fall_step c.fall path sole event).0 }

-- where the second key is the own one, the peer's is kept and the side is confirmed
abbrev pub after_keys : ℕ → ℕ → Control → Control
after_keys own peer c = if own == c.keys.own then after_event 0 false event.KeysHeard (after_peer_key peer c) else c

-- Fell: the side takes the event, by whether the path is the sole one
abbrev pub after_fell : ℕ → Event → Control → Control
after_fell path event c = after_event path (sole c.paths path) event c

-- the side has begun or answered a join
abbrev pub after_join : Control → Control
after_join c = record c { fall = record c.fall { joined = true } }

-- JoinBegin: where a join may begin the path opens, and the side has begun one
abbrev pub after_join_begin : ℕ → Control → Control
after_join_begin path c = if may_join c then after_join (record c { paths = with_phase path Opening c.paths }) else c

-- JoinHeard: where the token is the side's, and the side is confirmed, and starting or sure, it has answered a join
abbrev pub after_join_heard : ℕ → Control → Control
after_join_heard token c =
    if token == token_of c.keys.own && c.fall.confirmed && (is_starting c.fall.mode || is_sure c.fall.mode) then after_join c else c

-- the path is a backup, or it is not
abbrev pub after_backup : ℕ → Bool → Control → Control
after_backup path on c = record c { addresses = record c.addresses { backups = slice_set c.addresses.backups path on } }

-- Live: the path lives, as a backup or not
abbrev pub after_live : ℕ → Bool → Control → Control
after_live path backup c = after_backup path backup (record c { paths = with_phase path Living c.paths })

-- Dead: the path neither lives nor opens any more
abbrev pub after_dead : ℕ → Control → Control
after_dead path c = record c { paths = with_phase path Idle c.paths }

-- Rate: the path's row is kept, with its window in octets and its round-trip time in ticks
abbrev pub after_rate : ℕ → ℕ → ℕ → Control → Control
after_rate path window rtt c = record c { paths = with_row path (row_of path window rtt) c.paths }

-- the address of a path that joins: 10.0.ID.2
abbrev pub path_address : ℕ → Address
path_address id = V4 (10 ∷ 0 ∷ id ∷ 2 ∷ [])

-- Announce: the address of the path of this id is announced
abbrev pub after_announce : ℕ → Control → Control
after_announce id c = record c { addresses = addresses_announced id (path_address id) c.addresses }

-- the id is that of a path which lives or opens, or of a kept or announced address
abbrev pub is_known : ℕ → Control → Bool
is_known id c = stands c.paths id || knows id c.addresses

-- the id is to be taken back on a path, if that lives and isn't the id's own
unfoldable pub withdrawn_on : ℕ → List PathState → List (List Bool) → ℕ → List (List Bool)
withdrawn_on id paths withdrawals path =
    if lives paths path && not (path == id) then with_withdrawal_due id true path withdrawals else withdrawals

-- the id is to be taken back once on each living path but its own, path after path
abbrev pub withdrawn : ℕ → List PathState → List (List Bool) → List (List Bool)
withdrawn id paths withdrawals = fold (withdrawn_on id paths) withdrawals every_path

-- Withdraw: a known id is to be taken back on the living paths but its own, and its path's address is removed
abbrev pub after_withdraw : ℕ → Control → Control
after_withdraw id c =
    if is_known id c then
    record c {
      notices = record c.notices { withdrawals = withdrawn id c.paths c.notices.withdrawals };
      paths = with_removed id c.paths;
    }
    else c

-- Heard: the address is kept where the HMAC is right
abbrev pub after_heard : ℕ → Address → ℕ → ℕ → Control → Control
after_heard id address port hmac c =
    record c { addresses = addresses_heard id address (is_right id address port hmac c) c.addresses }

-- Echoed: the announcement of a known id has ended
abbrev pub after_echoed : ℕ → Control → Control
after_echoed id c =
    if is_known id c then record c { addresses = record c.addresses { due = slice_set c.addresses.due id false } } else c

-- Removed: what was announced or kept under a known id is dropped, and its path's address is removed
abbrev pub after_removed : ℕ → Control → Control
after_removed id c =
    if is_known id c then record c { addresses = addresses_removed id c.addresses; paths = with_removed id c.paths } else c

-- the side stops, and the lowest living path tells it, where the peer's key is kept
abbrev pub after_fast_close : Control → Control
after_fast_close c =
    after_event 0 false event.Stop
    (record c { notices = record c.notices { carrier = if is_some c.keys.peer then lowest_living c.paths else None } })

-- FastHeard: the side stops where the key is its own
abbrev pub after_fast_heard : ℕ → Control → Control
after_fast_heard key c = if key == c.keys.own then after_event 0 false event.Stop c else c

-- the book after a call
abbrev pub after : Control → ControlCall → Control
after c (call.Look path) = after_look path c
after c (call.PeerKey key) = after_peer_key key c
after c (call.Keys own peer) = after_keys own peer c
after c (call.Fell path event) = after_fell path event c
after c (call.JoinBegin path) = after_join_begin path c
after c (call.JoinHeard path token) = after_join_heard token c
after c (call.Live path backup) = after_live path backup c
after c (call.Dead path) = after_dead path c
after c (call.Backup path on) = after_backup path on c
after c (call.Rate path window rtt) = after_rate path window rtt c
after c (call.Announce id) = after_announce id c
after c (call.Withdraw id) = after_withdraw id c
after c (call.Heard id address port hmac) = after_heard id address port hmac c
after c (call.Echoed id) = after_echoed id c
after c (call.Removed id) = after_removed id c
after c call.FastClose = after_fast_close c
after c (call.FastHeard key) = after_fast_heard key c
