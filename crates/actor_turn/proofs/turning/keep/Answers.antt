use Rattle.std.proofs.Common.{◌≡◌, ◌∙◌, refl, ap, Some, List, ◌++◌, [], ◌∷◌, length}
use Rattle.std.proofs.lemmas.Result.{on_ok_weaker}
use Rattle.std.specs.List.{slice_get}
use Rattle.actor_desk.specs.declared.ask.Note.{Note}
use Rattle.actor_turn.proofs.turning.keep.Goals as goal

-- what was put at the end stands there
at_end : (list : List Note) (note : Note) → slice_get (list ++ note ∷ []) (length list) ≡ Some note
at_end [] note = refl
at_end (first ∷ list) note = at_end list note

pub returns-else-is_err-clause-ok : goal.returns-else-is_err-clause-ok
returns-else-is_err-clause-ok g c =
    let list : List Note = c.args.crew.now.list in
    let there : slice_get c.push.new.self c.len-at.result ≡ Some c.args.note =
    ap (λ n. slice_get c.push.new.self n) c.len-at.ensures ∙ ap (λ (notes : List Note). slice_get notes (length list)) c.in_ok-push.ensures.ok
    ∙ at_end list c.args.note in
    on_ok_weaker c.take_at-taken.result
    (λ (member : c.take_at-taken.new.member ≡ g.A.Actor.takes c.args.note.reply c.args.crew.now.member). rw (member, c.in_ok-push.ensures.ok) refl)
    (c.take_at-taken.ensures.ok c.args.note there)
