-- Where nothing that an end heard says by an MP_JOIN that the path is a backup, neither what it is asked nor what it is answered says so (RFC 8684,
-- section 3.2).
use Rattle.std.proofs.Common.{◌≡◌, sym, subst, ap, ◌∙◌, refl, ◌==◌, Bool, true, false, if◌then◌else◌, Option, Some, None, Result, Ok, Err, List, [], ◌∷◌}
use Rattle.std.specs.List.{list_any}
use Rattle.std.specs.Option.{option_or}
use Rattle.std.specs.Result.{result_ok}
use Rattle.std.proofs.lemmas.Bool.{or_parts}
use Rattle.std.proofs.lemmas.Option.{same_Some}
use Rattle.key_material.specs.JoinHmac.{join_b64_of}
use Rattle.join_handshake.specs.Heard.{answer_heard, answer_taken, syn_heard}
use Rattle.join_handshake.specs.declared.hearing.JoinAnswer.{JoinAnswer}
use Rattle.join_handshake.specs.declared.fault.JoinFault.{JoinFault}
use Rattle.join_handshake.specs.declared.fault.JoinFault.TheVariants.{BadHmac}
use Rattle.join_handshake.specs.declared.hearing.JoinSyn.{JoinSyn}
use Rattle.mptcp_options.specs.declared.join.JoinForm.{JoinForm}
use Rattle.mptcp_options.specs.declared.join.JoinForm.TheVariants as forms
use Rattle.path_agenda.specs.Items.{is_of_step, join_heard, join_in}
use Rattle.path_agenda.specs.declared.heard.Heard.{Heard}
use Rattle.path_agenda.specs.declared.heard.Heard.TheVariants as says
use Rattle.path_agenda.specs.declared.heard.JoinStep.{JoinStep}
use Rattle.path_agenda.specs.declared.heard.JoinStep.TheVariants as step
use Rattle.path_core.specs.MpJoin.{join_answer, join_asked, join_value, peer_key_of}
use Rattle.path_core.specs.declared.modes.Modes.{Modes}
use Rattle.whole_paths.proofs.NoticeWords.{AreUnheard, Word, flag_of, is_heard}

form_of : (b : Bool) (given form : JoinForm) → (if b then Some given else None) ≡ Some form → flag_of given ≡ false → flag_of form ≡ false
form_of true given form is none = subst (λ (f : JoinForm). flag_of f ≡ false) (same_Some given form is) none
form_of false given form is none = cc

item_form : (which : JoinStep) (item : Heard) (form : JoinForm) → join_in which item ≡ Some form → is_heard Word.flag item ≡ false → flag_of form ≡ false
item_form which (says.Join given) form is none = form_of (is_of_step which given) given form is none
item_form which _ form is none = cc

heard_form : (which : JoinStep) (items : List Heard) (form : JoinForm) → join_heard which items ≡ Some form → AreUnheard Word.flag items → flag_of form ≡ false
heard_form which [] form is none = cc
heard_form which (item ∷ items) form is none =
    let parts = or_parts (is_heard Word.flag item) (list_any (is_heard Word.flag) items) none in by (join_in which item) refl is parts.0 (λ later. heard_form which items form later parts.1)
  where
    by : (o : Option JoinForm) → join_in which item ≡ o → option_or o (join_heard which items) ≡ Some form → is_heard Word.flag item ≡ false → (join_heard which items ≡ Some form → flag_of form ≡ false) → flag_of form ≡ false
    by None at is own rest = rest is
    by (Some given) at is own rest = item_form which item form (at ∙ is) own

pub asked_flag : (items : List Heard) (asked : JoinSyn) → join_asked items ≡ Some asked → AreUnheard Word.flag items → asked.backup ≡ false
asked_flag items asked is none = by (join_heard step.Syn items) refl is
  where
    by : (o : Option JoinForm) → join_heard step.Syn items ≡ o → syn_heard (join_value o) ≡ Some asked → asked.backup ≡ false
    by None at is = cc
    by (Some (forms.Syn backup id token nonce)) at is =
        ap (λ (a : JoinSyn). a.backup) (sym (same_Some (record { backup = backup; id = id; token = token; nonce = nonce }) asked is)) ∙ heard_form step.Syn items (forms.Syn backup id token nonce) at none
    by (Some (forms.Answer backup id hmac nonce)) at is = cc
    by (Some (forms.Third hmac)) at is = cc

-- what A takes where the HMAC is B's
abbrev taken_if : Bool → JoinAnswer → Result JoinAnswer JoinFault
taken_if b given = if b then Ok given else Err BadHmac

taken_flag : (b : Bool) (given answer : JoinAnswer) → result_ok (taken_if b given) ≡ Some answer → answer.backup ≡ given.backup
taken_flag true given answer is = ap (λ (a : JoinAnswer). a.backup) (sym (same_Some given answer is))
taken_flag false given answer is = cc

pub answer_flag : (items : List Heard) (m : Modes) (answer : JoinAnswer) → join_answer items m ≡ Some answer → AreUnheard Word.flag items → answer.backup ≡ false
answer_flag items m answer is none = by (join_heard step.Answer items) refl is
  where
    by : (o : Option JoinForm) → join_heard step.Answer items ≡ o → result_ok (answer_taken m.own_key (peer_key_of m) m.own_nonce (answer_heard (join_value o))) ≡ Some answer → answer.backup ≡ false
    by None at is = cc
    by (Some (forms.Answer backup id hmac nonce)) at is =
        taken_flag (hmac == join_b64_of m.own_key (peer_key_of m) m.own_nonce nonce) (record { backup = backup; id = id; nonce = nonce }) answer is ∙ heard_form step.Answer items (forms.Answer backup id hmac nonce) at none
    by (Some (forms.Syn backup id token nonce)) at is = cc
    by (Some (forms.Third hmac)) at is = cc
