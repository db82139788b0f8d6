use Rattle.std.proofs.Common.{sym, subst, string_bytes}
use Rattle.message_pipe.specs.Lined.{framed_told}
use Rattle.mptcp_view.specs.Asking.{as_asked}
use Rattle.mptcp_view.specs.Views.{IsViewAnswer}
use Rattle.mptcp_view.proofs.Refusing.{whatever_contents}
use Rattle.mptcp_view.proofs.messages.show_over_frames.Goals as goal

pub returns : goal.returns
returns g c =
    let told = g.O.Outside.told in let asked = as_asked c.args.asked.now in let first = told c.args.outside in
    let shown = c.show-shown.result in let over = c.show-shown.new.outside in let last = told c.into_inner.result in
    let file_a = c.args.asked.now.line.file_a.now in let file_b = c.args.asked.now.line.file_b.now in
    let over_is = subst (λ l. IsViewAnswer asked (framed_told l.file_a l.file_b (told l.inner)) (framed_told over.file_a over.file_b (told over.inner)) shown) c.new-framed.ensures c.show-shown.ensures in
    let last_is = subst (λ o. IsViewAnswer asked (framed_told (string_bytes c.args.files.0) (string_bytes c.args.files.1) first) (framed_told over.file_a over.file_b (told o)) shown)
    (sym c.into_inner.ensures) over_is in
    whatever_contents asked (framed_told file_a file_b first) (framed_told over.file_a over.file_b last) (framed_told file_a file_b last).content shown
    (subst (λ b. IsViewAnswer asked (framed_told file_a b first) (framed_told over.file_a over.file_b last) shown) c.requires.file_b
    (subst (λ a. IsViewAnswer asked (framed_told a (string_bytes c.args.files.1) first) (framed_told over.file_a over.file_b last) shown) c.requires.file_a last_is))
