-- The words of a log for flags, numbers that may be missing, sides, and what a control book knows by name.
use Rattle.std.specs.Prelude.{ℕ, Bool, true, false, List, [], ◌∷◌, Option, Some, None, codes}
use Rattle.std.specs.Fmt.{decimal}
use Rattle.fallback_state.specs.declared.fall.Event.{Event}
use Rattle.fallback_state.specs.declared.fall.Event.TheVariants as events
use Rattle.fallback_state.specs.declared.fall.Mode.{Mode}
use Rattle.fallback_state.specs.declared.fall.Mode.TheVariants as modes
use Rattle.fallback_state.specs.declared.fall.Verdict.{Verdict}
use Rattle.fallback_state.specs.declared.fall.Verdict.TheVariants as verdicts
use Rattle.control_book.specs.declared.call.Notice.{Notice}
use Rattle.control_book.specs.declared.call.Notice.TheVariants as notices
use Rattle.send_book.specs.declared.call.Why.{Why}
use Rattle.send_book.specs.declared.call.Why.TheVariants as reasons
use Rattle.sides.specs.declared.object.Object.{Object}
use Rattle.sides.specs.declared.object.Object.TheVariants as objects
use Rattle.sides.specs.declared.side.Side.TheVariants as sides

abbrev pub flag_word : Bool → List ℕ
flag_word true = codes "1"
flag_word false = codes "0"

-- a number, or '-' where there is none
abbrev pub optional_word : Option ℕ → List ℕ
optional_word (Some n) = decimal n
optional_word None = codes "-"

-- the send, reassembly or control book of a side, or none but the actor itself
abbrev pub object_word : Object → List ℕ
object_word (objects.Send sides.A) = codes "sa"
object_word (objects.Send sides.B) = codes "sb"
object_word (objects.Reassembly sides.A) = codes "ra"
object_word (objects.Reassembly sides.B) = codes "rb"
object_word (objects.Control sides.A) = codes "ca"
object_word (objects.Control sides.B) = codes "cb"
object_word objects.Me = codes "me"

abbrev pub reason_word : Why → List ℕ
reason_word reasons.Ended = codes "ended"
reason_word reasons.Backup = codes "backup"
reason_word reasons.NothingFree = codes "free"
reason_word reasons.WindowShut = codes "window"

abbrev pub mode_word : Mode → List ℕ
mode_word modes.Starting = codes "starting"
mode_word modes.Sure = codes "sure"
mode_word modes.Identity = codes "identity"
mode_word modes.InfiniteSend = codes "infinitesend"
mode_word modes.InfiniteReceive = codes "infinitereceive"
mode_word modes.InfiniteBoth = codes "infiniteboth"
mode_word modes.Aborted = codes "aborted"

abbrev pub event_words : Event → List (List ℕ)
event_words events.PlainHandshake = codes "plainhandshake" ∷ []
event_words events.PlainData = codes "plaindata" ∷ []
event_words events.PlainAck = codes "plainack" ∷ []
event_words events.KeysHeard = codes "keysheard" ∷ []
event_words events.MappingHeard = codes "mappingheard" ∷ []
event_words events.AckHeard = codes "ackheard" ∷ []
event_words events.InfiniteHeard = codes "infiniteheard" ∷ []
event_words events.CheckFailed = codes "checkfailed" ∷ []
event_words (events.FailHeard contiguous) = codes "failheard" ∷ flag_word contiguous ∷ []
event_words events.Stop = codes "stop" ∷ []

abbrev pub verdict_words : Verdict → List (List ℕ)
verdict_words verdicts.Stay = codes "stay" ∷ []
verdict_words (verdicts.Went mode) = codes "went" ∷ mode_word mode ∷ []
verdict_words verdicts.SendFail = codes "sendfail" ∷ []
verdict_words (verdicts.BreakPath reason) = codes "breakpath" ∷ decimal reason ∷ []

abbrev pub notice_words : Notice → List (List ℕ)
notice_words notices.Nothing = codes "nothing" ∷ []
notice_words (notices.Announce id) = codes "announce" ∷ decimal id ∷ []
notice_words (notices.Withdraw id) = codes "withdraw" ∷ decimal id ∷ []
notice_words (notices.Carrier key) = codes "carrier" ∷ decimal key ∷ []
notice_words notices.Reset = codes "reset" ∷ []
