use Rattle.std.proofs.Common.{◌≡◌, refl, ◌++◌, ◌∙◌, ap, subst, IfOk, List, [], ◌∷◌, ℕ}
use Rattle.std.specs.Int.{w16, w32, to_be_bytes}
use Rattle.pcap_text.specs.Blocks.{block_with, end_of_options, interface_body, option_text}
use Rattle.pcap_text.proofs.Joined.{put, three}
use Rattle.pcap_text.proofs.blocks.interface.Goals as goal

pub returns : goal.returns
returns c =
    let link = put c.in_ok-body.ensures.items c.in_ok-extend_from_slice.ensures.items c.to_be_bytes.ensures in
    let zeros = put link c.in_ok-extend_from_slice-2.ensures.items c.to_be_bytes-2.ensures in
    let fields = put zeros c.in_ok-extend_from_slice-3.ensures.items c.to_be_bytes-3.ensures in
    let name = put fields c.in_ok-put_option.ensures (ap (option_text 2) c.as_bytes.ensures.value) in
    let all = put (put name c.in_ok-put_option-2.ensures refl) c.in_ok-extend_from_slice-4.ensures.items refl in
    let e : c.deref.result.now ≡ interface_body c.args.name.now =
    c.deref.ensures.value ∙ three (0 ∷ 228 ∷ 0 ∷ 0 ∷ 0 ∷ 0 ∷ 0 ∷ 0 ∷ []) (option_text 2 c.args.name.now) (option_text 9 (3 ∷ [])) end_of_options all in
    let P : List ℕ → Type 0 = λ body. IfOk c.block_with.result (λ octets. octets.items ≡ block_with 1 body) in
    subst P e c.block_with.ensures
