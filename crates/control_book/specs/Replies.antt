-- What a side's control book answers: one definition for each call that has an answer of its own.
use Rattle.std.specs.Prelude.{ℕ, ◌==◌, Bool, true, false, not, ◌&&◌, ◌||◌, if◌then◌else◌, Option, Some, None, is_none}
use Rattle.key_material.specs.declared.address.Address.{Address}
use Rattle.key_material.specs.KeyDigest.{token_of}
use Rattle.key_material.specs.AddressHmac.{add_addr64_of}
use Rattle.linked_increase.specs.Paths.{row_of}
use Rattle.fallback_state.specs.declared.fall.Mode.{Mode}
use Rattle.fallback_state.specs.declared.fall.Mode.TheVariants as mode
use Rattle.fallback_state.specs.declared.fall.Event.{Event}
use Rattle.fallback_state.specs.Table.{fall_step}
use Rattle.address_manager.specs.declared.manager.Heard.{Heard}
use Rattle.address_manager.specs.declared.manager.Heard.TheVariants as heard
use Rattle.address_manager.specs.IdSet.{lowest}
use Rattle.address_manager.specs.Steps.{heard_reply}
use Rattle.control_book.specs.declared.call.ControlCall.{ControlCall}
use Rattle.control_book.specs.declared.call.ControlCall.TheVariants as call
use Rattle.control_book.specs.declared.call.ControlReply.{ControlReply}
use Rattle.control_book.specs.declared.call.ControlReply.TheVariants as reply
use Rattle.control_book.specs.declared.call.Notice.{Notice}
use Rattle.control_book.specs.declared.call.Notice.TheVariants as notice
use Rattle.control_book.specs.Registry.{state_of, stands, sole, lowest_living, standby, rows_with}
use Rattle.control_book.specs.SameAddress.{is_same}
use Rattle.control_book.specs.Control.{Control, peer_or_zero, is_path, withdrawals_on}

abbrev pub is_sure : Mode → Bool
is_sure mode.Sure = true
is_sure mode.Starting = false
is_sure mode.Identity = false
is_sure mode.InfiniteSend = false
is_sure mode.InfiniteReceive = false
is_sure mode.InfiniteBoth = false
is_sure mode.Aborted = false

abbrev pub is_starting : Mode → Bool
is_starting mode.Starting = true
is_starting mode.Sure = false
is_starting mode.Identity = false
is_starting mode.InfiniteSend = false
is_starting mode.InfiniteReceive = false
is_starting mode.InfiniteBoth = false
is_starting mode.Aborted = false

abbrev pub is_aborted : Mode → Bool
is_aborted mode.Aborted = true
is_aborted mode.Starting = false
is_aborted mode.Sure = false
is_aborted mode.Identity = false
is_aborted mode.InfiniteSend = false
is_aborted mode.InfiniteReceive = false
is_aborted mode.InfiniteBoth = false

-- The notice of a path.

-- the path carries the fast close
abbrev pub carries : Control → ℕ → Bool
carries c path = is_path c.notices.carrier path

-- the side stopped and the path does not carry that, or the path's address was removed
abbrev pub resets : Control → ℕ → Bool
resets c path = is_aborted c.fall.mode && not (carries c path) || (state_of c.paths path).removed

-- the lowest id that is to be announced on the path: once the side is confirmed, on the lowest living path alone
abbrev pub announcement : Control → ℕ → Option ℕ
announcement c path = if c.fall.confirmed && is_path (lowest_living c.paths) path then lowest c.addresses.due else None

-- an announcement goes before an address to be taken back
abbrev pub address_notice : Option ℕ → Option ℕ → Notice
address_notice (Some id) withdrawn = notice.Announce id
address_notice None (Some id) = notice.Withdraw id
address_notice None None = notice.Nothing

-- a reset goes before the fast close, and that before addresses
abbrev pub notice_on : Control → ℕ → Notice
notice_on c path =
    if resets c path then notice.Reset
    else (if carries c path then notice.Carrier (peer_or_zero c.keys.peer)
    else address_notice (announcement c path) (lowest (withdrawals_on c.notices.withdrawals path)))

-- Look: the mode, whether the path is on standby and whether it is the sole one, and its notice
abbrev pub look_reply : ℕ → Control → ControlReply
look_reply path c = reply.Standing c.fall.mode (standby c.paths c.addresses.backups path) (sole c.paths path) (notice_on c path)

-- Keys and joins.

-- Keys: what the peer shows as the side's own key has to be that
abbrev pub keys_reply : ℕ → Control → ControlReply
keys_reply own c = if own == c.keys.own then reply.Noted else reply.KeysDiffer c.keys.own

-- Fell: what the table of events says of the event
abbrev pub fell_reply : ℕ → Event → Control → ControlReply
fell_reply path event c = reply.Verdict (fall_step c.fall path (sole c.paths path) event).1

-- both keys of a join
abbrev pub begin : Control → ControlReply
begin c = reply.Begin c.keys.own (peer_or_zero c.keys.peer)

-- a join may begin: the side is sure, and no check of it failed, for after MP_FAIL on its only subflow a connection stays on that
-- (RFC 8684, section 3.7)
abbrev pub may_join : Control → Bool
may_join c = is_sure c.fall.mode && is_none c.fall.failed

-- a join has to wait: the side is starting, path 0 stands, and no check failed
abbrev pub join_waits : Control → Bool
join_waits c = is_starting c.fall.mode && (stands c.paths 0 && is_none c.fall.failed)

-- a join begins, waits, or never begins
abbrev pub join_begin_reply : Control → ControlReply
join_begin_reply c = if may_join c then begin c else (if join_waits c then reply.NotYet else reply.Never c.fall.mode)

-- a join is answered where the token is the side's, and the side is confirmed, and starting or sure
abbrev pub join_heard_reply : ℕ → Control → ControlReply
join_heard_reply token c =
    if not (token == token_of c.keys.own) then reply.UnknownToken (token_of c.keys.own)
    else (if not c.fall.confirmed then reply.NotConfirmed
    else (if is_starting c.fall.mode || is_sure c.fall.mode then begin c else reply.Fallen c.fall.mode))

-- Rows, addresses and the fast close.

-- the row of what a path tells

-- Rate: the path's own row, and the one kept of each other living path
abbrev pub rate_reply : ℕ → ℕ → ℕ → Control → ControlReply
rate_reply path window rtt c = reply.Rows (rows_with c.paths (row_of path window rtt))

-- the HMAC is that of the peer, who announces the address
abbrev pub is_right : ℕ → Address → ℕ → ℕ → Control → Bool
is_right id address port hmac c = hmac == add_addr64_of (peer_or_zero c.keys.peer) c.keys.own id address port

abbrev pub told_heard : Heard → ControlReply
told_heard heard.Echo = reply.Echo
told_heard heard.BadHmac = reply.BadHmac
told_heard heard.Known = reply.Known

-- Heard: the HMAC is wrong, or the address is known already, or it is to be echoed
abbrev pub address_reply : ℕ → Address → ℕ → ℕ → Control → ControlReply
address_reply id address port hmac c = told_heard (heard_reply is_same id address (is_right id address port hmac c) c.addresses)

-- FastHeard: a fast close shows the side's own key (RFC 8684, section 3.5)
abbrev pub fast_heard_reply : ℕ → Control → ControlReply
fast_heard_reply key c = if key == c.keys.own then reply.Stopped else reply.OtherKey c.keys.own

-- what the book answers to a call
abbrev pub reply_to : Control → ControlCall → ControlReply
reply_to c (call.Look path) = look_reply path c
reply_to c (call.PeerKey key) = reply.Noted
reply_to c (call.Keys own peer) = keys_reply own c
reply_to c (call.Fell path event) = fell_reply path event c
reply_to c (call.JoinBegin path) = join_begin_reply c
reply_to c (call.JoinHeard path token) = join_heard_reply token c
reply_to c (call.Live path backup) = reply.Noted
reply_to c (call.Dead path) = reply.Noted
reply_to c (call.Backup path on) = reply.Noted
reply_to c (call.Rate path window rtt) = rate_reply path window rtt c
reply_to c (call.Announce id) = reply.Noted
reply_to c (call.Withdraw id) = reply.Noted
reply_to c (call.Heard id address port hmac) = address_reply id address port hmac c
reply_to c (call.Echoed id) = reply.Noted
reply_to c (call.Removed id) = reply.Noted
reply_to c call.FastClose = reply.Noted
reply_to c (call.FastHeard key) = fast_heard_reply key c
