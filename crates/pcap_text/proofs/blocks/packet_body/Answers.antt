use Rattle.std.proofs.Common.{◌≡◌, refl, ◌++◌, ap, List, ℕ, length, ◌∙◌}
use Rattle.std.specs.Int.{w32, w64, to_be_bytes}
use Rattle.pcap_text.specs.Blocks.{end_of_options, flags_of, option_text, padded}
use Rattle.pcap_text.proofs.Joined.{put, four}
use Rattle.pcap_text.proofs.blocks.packet_body.Goals as goal

pub returns : goal.returns
returns c =
    let interface = put c.in_ok-body.ensures.items c.in_ok-extend_from_slice.ensures.items c.to_be_bytes.ensures in
    let time = put interface c.in_ok-extend_from_slice-2.ensures.items c.to_be_bytes-2.ensures in
    let captured = put time c.in_ok-extend_from_slice-3.ensures.items c.to_be_bytes-3.ensures in
    let fields = put captured c.in_ok-extend_from_slice-4.ensures.items c.to_be_bytes-4.ensures in
    let octets = put fields c.in_ok-put_padded.ensures refl in
    let comment = put octets c.in_ok-put_option.ensures (ap (option_text 1) c.as_bytes.ensures.value) in
    let flags = put comment c.in_ok-put_option-2.ensures (ap (option_text 2) (c.to_be_bytes-5.ensures ∙ ap (to_be_bytes w32) c.flags_of.ensures)) in
    let all = put flags c.in_ok-extend_from_slice-5.ensures.items refl in
    let len = length c.args.octets.now in
    let head = to_be_bytes w32 c.args.seen.now.interface ++ (to_be_bytes w64 c.args.seen.now.millisecond ++ (to_be_bytes w32 len ++ to_be_bytes w32 len)) in
    four head (padded c.args.octets.now) (option_text 1 c.args.comment.now) (option_text 2 (to_be_bytes w32 (flags_of c.args.seen.now.direction))) end_of_options all
