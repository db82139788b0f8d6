-- The sets of ids that a control book keeps have 256 members each: so each id that it tells is below 256.
use Rattle.world_laws.proofs.Words.{◌≡◌, refl, ◌∙◌, ap, ℕ, zero, suc, Bool, true, false, if◌then◌else◌, Some, None, List, [], ◌∷◌, length, arith, ◌<◌}
use Rattle.world_laws.proofs.Words.{length-replicate, length-set, IfSome, slice_set, lowest, no_ids, Addresses, addresses_heard, addresses_removed, Address}
use Rattle.world_laws.proofs.Words.{token_of, Side, ControlCall, Notice, with_removed, with_phase, every_path, lives, Control, no_withdrawals, new_control}
use Rattle.world_laws.proofs.Words.{withdrawals_on, with_withdrawal_due, notice_on, is_sure, may_join, is_known, withdrawn, withdrawn_on, Opening}
use Rattle.std.specs.Prelude.{not, ◌&&◌, ◌||◌, ◌==◌, fold, replicate}
use Rattle.std.proofs.lemmas.List.Quantifiers.{position-Some}
use Rattle.fallback_state.specs.declared.fall.Event.{Event}
use Rattle.control_book.specs.declared.registry.PathState.{PathState}
use Rattle.control_book.specs.Replies.{is_right, is_starting}
use Rattle.control_book.specs.Steps.{after, after_event, after_join, after_notice}

abbrev pub AreIds : List Bool → Type 0
AreIds ids = length ids ≡ 256

abbrev pub AreAllIds : List (List Bool) → Type 0
AreAllIds [] = Unit {0}
AreAllIds (ids ∷ sets) = AreIds ids × AreAllIds sets

-- those whose announcement isn't ended, and those that are to be taken back, path by path
pub record IdsFit (c : Control) : Type 0 where
  pub due : AreIds c.addresses.due
  pub withdrawals : AreAllIds c.notices.withdrawals

pub lowest_fits : (ids : List Bool) → AreIds ids → IfSome (lowest ids) (λ id. id < 256)
lowest_fits ids are = (elim (lowest ids) as (λ o. lowest ids ≡ o → IfSome o (λ id. id < 256))
    [ None ↦ λ is. tt | Some id ↦ λ is. let first = position-Some (λ member. member) ids id true is in let within = first.0 in omega (arith, within, are) ]) refl

-- ---- sets of a path

none_fit : AreIds no_ids
unfolding no_ids
none_fit = length-replicate 256 false

pub on_fits : (sets : List (List Bool)) (path : ℕ) → AreAllIds sets → AreIds (withdrawals_on sets path)
on_fits [] path h = none_fit
on_fits (ids ∷ sets) zero h = h.0
on_fits (ids ∷ sets) (suc path) h = on_fits sets path h.1

put_fits : (sets : List (List Bool)) (path : ℕ) (ids : List Bool) → AreIds ids → AreAllIds sets → AreAllIds (slice_set sets path ids)
put_fits [] path ids are h = h
put_fits (first ∷ sets) zero ids are h = (are, h.1)
put_fits (first ∷ sets) (suc path) ids are h = (h.0, put_fits sets path ids are h.1)

withdrawal_fits : (id : ℕ) (due : Bool) (path : ℕ) (sets : List (List Bool)) → AreAllIds sets → AreAllIds (with_withdrawal_due id due path sets)
withdrawal_fits id due path sets h = put_fits sets path _ (length-set (withdrawals_on sets path) id due ∙ on_fits sets path h) h

either_fits : (b : Bool) (one other : List (List Bool)) → AreAllIds one → AreAllIds other → AreAllIds (if b then one else other)
either_fits = elim [ true ↦ λ one other x y. x | false ↦ λ one other x y. y ]

one_fits : (id : ℕ) (paths : List PathState) (sets : List (List Bool)) (path : ℕ) → AreAllIds sets → AreAllIds (withdrawn_on id paths sets path)
unfolding withdrawn_on
one_fits id paths sets path h = either_fits (lives paths path && not (path == id)) _ _ (withdrawal_fits id true path sets h) h

each_fits : (id : ℕ) (paths : List PathState) (which : List ℕ) (sets : List (List Bool)) → AreAllIds sets → AreAllIds (fold (withdrawn_on id paths) sets which)
each_fits id paths [] sets h = h
each_fits id paths (path ∷ which) sets h = each_fits id paths which (withdrawn_on id paths sets path) (one_fits id paths sets path h)

-- ---- each call

either : (b : Bool) (c d : Control) → IdsFit c → IdsFit d → IdsFit (if b then c else d)
either = elim [ true ↦ λ c d x y. x | false ↦ λ c d x y. y ]

notice_fits : (n : Notice) (path : ℕ) (c : Control) → IdsFit c → IdsFit (after_notice n path c)
notice_fits (Notice.Withdraw id) path c h = record { due = h.due; withdrawals = withdrawal_fits id false path c.notices.withdrawals h.withdrawals }
notice_fits _ path c h = h

-- what is kept is no matter of the sets
heard_due : (right : Bool) (id : ℕ) (address : Address) (a : Addresses Address) → (addresses_heard id address right a).due ≡ a.due
heard_due = elim [ true ↦ λ id address a. refl | false ↦ λ id address a. refl ]

pub call_fits : (c : Control) (asked : ControlCall) → IdsFit c → IdsFit (after c asked)
call_fits c (ControlCall.Look path) h = notice_fits (notice_on c path) path c h
call_fits c (ControlCall.PeerKey key) h = record { due = h.due; withdrawals = h.withdrawals }
call_fits c (ControlCall.Keys own peer) h = either (own == c.keys.own) _ _ (record { due = h.due; withdrawals = h.withdrawals }) h
call_fits c (ControlCall.Fell path event) h = record { due = h.due; withdrawals = h.withdrawals }
call_fits c (ControlCall.JoinBegin path) h = either (may_join c) (after_join (record c { paths = with_phase path Opening c.paths })) c (record { due = h.due; withdrawals = h.withdrawals }) h
call_fits c (ControlCall.JoinHeard path token) h =
    either (token == token_of c.keys.own && c.fall.confirmed && (is_starting c.fall.mode || is_sure c.fall.mode)) (after_join c) c (record { due = h.due; withdrawals = h.withdrawals }) h
call_fits c (ControlCall.Live path backup) h = record { due = h.due; withdrawals = h.withdrawals }
call_fits c (ControlCall.Dead path) h = record { due = h.due; withdrawals = h.withdrawals }
call_fits c (ControlCall.Backup path on) h = record { due = h.due; withdrawals = h.withdrawals }
call_fits c (ControlCall.Rate path window rtt) h = record { due = h.due; withdrawals = h.withdrawals }
call_fits c (ControlCall.Announce id) h = record { due = length-set c.addresses.due id true ∙ h.due; withdrawals = h.withdrawals }
call_fits c (ControlCall.Withdraw id) h =
    either (is_known id c)
    (record c { notices = record c.notices { withdrawals = withdrawn id c.paths c.notices.withdrawals }; paths = with_removed id c.paths }) c
    (record { due = h.due; withdrawals = each_fits id c.paths every_path c.notices.withdrawals h.withdrawals }) h
call_fits c (ControlCall.Heard id address port hmac) h =
    record { due = ap length (heard_due (is_right id address port hmac c) id address c.addresses) ∙ h.due; withdrawals = h.withdrawals }
call_fits c (ControlCall.Echoed id) h =
    either (is_known id c) (record c { addresses = record c.addresses { due = slice_set c.addresses.due id false } }) c
    (record { due = length-set c.addresses.due id false ∙ h.due; withdrawals = h.withdrawals }) h
call_fits c (ControlCall.Removed id) h =
    either (is_known id c) (record c { addresses = addresses_removed id c.addresses; paths = with_removed id c.paths }) c
    (record { due = length-set c.addresses.due id false ∙ h.due; withdrawals = h.withdrawals }) h
call_fits c ControlCall.FastClose h = record { due = h.due; withdrawals = h.withdrawals }
call_fits c (ControlCall.FastHeard key) h = either (key == c.keys.own) (after_event 0 false Event.Stop c) c (record { due = h.due; withdrawals = h.withdrawals }) h

-- ---- as a connection opens

all_none : (n : ℕ) → AreAllIds (replicate n no_ids)
all_none zero = tt
all_none (suc n) = (none_fit, all_none n)

pub opening_fits : (side : Side) (key : ℕ) → IdsFit (new_control side key)
unfolding no_withdrawals
opening_fits side key = record { due = none_fit; withdrawals = all_none 16 }
