-- The things that a copy's options say, one after the other: each is told to a book, or treated in silence (RFC 8684, section
-- 3.3).
use Rattle.std.specs.Prelude.{ℕ, Bool, ◌&&◌, not, true, false, if◌then◌else◌, Option, is_none, Some, None}
use Rattle.fallback_state.specs.Modes.{is_starting, reads_mappings, writes_mappings}
use Rattle.path_agenda.specs.declared.heard.Heard.{Heard}
use Rattle.path_agenda.specs.declared.heard.Heard.TheVariants as says
use Rattle.sides.specs.declared.side.Side.{Side}
use Rattle.send_book.specs.declared.call.SendCall.TheVariants as send_calls
use Rattle.fallback_state.specs.declared.fall.Event.TheVariants as events
use Rattle.actor_desk.specs.declared.ask.Ask.{Ask}
use Rattle.actor_desk.specs.declared.ask.Ask.TheVariants as asks
use Rattle.actor_desk.specs.declared.ask.LocalStep.TheVariants as steps
use Rattle.actor_desk.specs.declared.ask.Reply.{Reply}
use Rattle.path_core.specs.DssIn.{counts, mapping_stands, mapping_ask, answered_ack, answered_mapping, with_data_fin, after_dss, with_data_ack, with_learned, with_skipped}
use Rattle.path_core.specs.End.{PathEnd}
use Rattle.path_core.specs.FastClose.{fast_heard_ask, answered_fast_heard}
use Rattle.path_core.specs.Addresses.{notice_ask, answered_notice}
use Rattle.path_core.specs.Codec.{Codec}
use Rattle.path_core.specs.MpCapable.{keys_ask, after_keys}
use Rattle.path_core.specs.Fallback.{fail_ask, fell_ask, answered_infinite, answered_fail, after_fell, fell_duties}
use Rattle.path_core.specs.State.{PathState, end_at, goes_on, left, with_agenda}
use Rattle.path_core.specs.Choices.{item_at}

-- whether the thing that was heard is told to a book or breaks the path, as the end stands
abbrev pub heard_stands : Heard → PathEnd → Bool
heard_stands says.Dss e = false
heard_stands (says.DataAck next window) e = is_none e.modes.own_infinite
heard_stands (says.Mapping fin) e = mapping_stands e
heard_stands (says.DataFin place) e = counts e && is_starting e.modes.mode
heard_stands (says.InfiniteMapping place position) e = counts e && reads_mappings e.modes.mode
heard_stands (says.PeerKey key) e = false
heard_stands (says.Keys own peer) e = not e.treated.keys_told
heard_stands (says.Join form) e = false
heard_stands (says.Notice notice) e = true
heard_stands says.Fail e = writes_mappings e.modes.mode
heard_stands (says.FastClose key) e = true

-- what is asked for the thing, where it stands
abbrev pub heard_ask : {C : Type 0} → Codec C → Side → Heard → PathState C → Ask
heard_ask k s (says.DataAck next window) p = asks.Send s (send_calls.AckIn next window)
heard_ask k s (says.Mapping fin) p = mapping_ask k s p
heard_ask k s (says.DataFin place) p = fell_ask s events.MappingHeard p
heard_ask k s (says.InfiniteMapping place position) p = fell_ask s events.InfiniteHeard p
heard_ask k s (says.Keys own peer) p = keys_ask s (Some (record { own = own; peer = peer }))
heard_ask k s (says.Notice notice) p = notice_ask s notice p
heard_ask k s says.Fail p = fail_ask s p
heard_ask k s (says.FastClose key) p = fast_heard_ask s key
heard_ask k s _ p = asks.Local steps.End

-- what the reply makes of the path, by the thing that was told
abbrev pub answered_heard : {C : Type 0} → Codec C → Side → Heard → Reply → PathState C → PathState C
answered_heard k s (says.DataAck next window) r p = answered_ack s next r p
answered_heard k s (says.Mapping fin) r p = answered_mapping k s r p
answered_heard k s (says.DataFin place) r p =
    goes_on s (with_data_fin place (after_fell events.MappingHeard r (end_at s p))) (fell_duties s r p) p
answered_heard k s (says.InfiniteMapping place position) r p = answered_infinite s place position r p
answered_heard k s (says.Keys own peer) r p =
    goes_on s (after_keys r (Some (record { own = own; peer = peer })) (end_at s p)) (left p) p
answered_heard k s (says.Notice notice) r p = answered_notice s notice r p
answered_heard k s says.Fail r p = answered_fail s r p
answered_heard k s (says.FastClose key) r p = answered_fast_heard s r p
answered_heard k s _ r p = with_agenda (left p) p

-- what is passed in silence
abbrev pub heard_passed : Side → Heard → PathEnd → PathEnd
heard_passed s says.Dss e = after_dss s e
heard_passed s (says.DataAck next window) e = with_data_ack next e
heard_passed s (says.Mapping fin) e = if counts e then with_learned e else with_skipped e
heard_passed s (says.DataFin place) e = if counts e then with_data_fin place e else e
heard_passed s _ e = e

-- ---- by the number of the thing

-- where there is no such thing, nothing comes of it
abbrev pub item_stands : Option Heard → PathEnd → Bool
item_stands None e = false
item_stands (Some item) e = heard_stands item e

abbrev pub item_ask : {C : Type 0} → Codec C → Side → Option Heard → PathState C → Ask
item_ask k s None p = asks.Local steps.End
item_ask k s (Some item) p = heard_ask k s item p

abbrev pub answered_item : {C : Type 0} → Codec C → Side → Option Heard → Reply → PathState C → PathState C
answered_item k s None r p = with_agenda (left p) p
answered_item k s (Some item) r p = answered_heard k s item r p

abbrev pub item_passed : Side → Option Heard → PathEnd → PathEnd
item_passed s None e = e
item_passed s (Some item) e = heard_passed s item e

-- after a fallback nothing more is heard
abbrev pub item_of : ℕ → PathEnd → Option Heard
item_of index e = if e.modes.identity then None else item_at index e.treated.items
