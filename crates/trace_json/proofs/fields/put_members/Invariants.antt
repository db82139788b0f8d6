use Rattle.std.proofs.Common.{◌≡◌, drop}
use Rattle.serde_json.specs.View.{members_view}
use Rattle.trace_json.specs.Fields.{with_members}
use Rattle.trace_json.proofs.fields.put_members.Given as goal

abbrev pub invariant-loop-member : goal.invariant-loop-member
invariant-loop-member l =
    with_members (members_view l.map.entries) (drop l.member-index l.members) ≡ with_members (members_view l.initial.map.entries) l.members
