-- What holds of each notice that an end has to note to its peer.
use Rattle.world_laws.proofs.Words.{refl, ℕ, suc, Bool, true, false, if◌then◌else◌, Option, Some, None, List, [], ◌∷◌, ◌++◌, IfSome, Address, ControlReply}
use Rattle.world_laws.proofs.Words.{Notice, is_dead, OwnNotice, first_of, PeerNotice, Reply, tail_of, PathEnd, Notices, after_notice, may_note, notices_told}
use Rattle.world_laws.proofs.Words.{with_echo, is_kept, Every-push, Every, if_so}

-- the address that is to be announced, as a side is told
abbrev pub announced_in : Notice → Option ℕ
announced_in (Notice.Announce id) = Some id
announced_in _ = None

abbrev pub announced_told : Reply → Option ℕ
announced_told (Reply.Control (ControlReply.Standing mode standby sole notice)) = announced_in notice
announced_told _ = None

-- what is said of an announcement; of the other notices nothing is
module _ (P : OwnNotice → Type 0) (removes : (id : ℕ) → P (OwnNotice.Removes id)) (echoes : (id : ℕ) (address : Address) (port : Option ℕ) → P (OwnNotice.AddEcho id address port))
    (prio : (backup : Bool) → P (OwnNotice.Prio backup)) where
  pub tail_queued : (queue : List OwnNotice) → Every P queue → Every P (tail_of queue)
  tail_queued [] each = each
  tail_queued (notice ∷ queue) each = record { each = λ i x at. each.each (suc i) x at }

  pub first_queued : (queue : List OwnNotice) → Every P queue → IfSome (first_of queue) P
  first_queued = elim [ [] ↦ λ each. tt | notice ∷ queue ↦ λ each. each.each 0 notice refl ]

  pub prio_queued : (backup dead : Bool) (queue : List OwnNotice) → Every P queue → Every P (if dead then queue else queue ++ OwnNotice.Prio backup ∷ [])
  prio_queued backup true queue each = each
  prio_queued backup false queue each = Every-push (OwnNotice.Prio backup) each (prio backup)

  pub echo_queued : (notice : PeerNotice) (r : Reply) (queue : List OwnNotice) → Every P queue → Every P (with_echo notice r queue)
  echo_queued (PeerNotice.AddAddr id address port hmac) r queue each =
      if_so (Every P) (is_kept r) (queue ++ OwnNotice.AddEcho id address port ∷ []) queue
      (Every-push (OwnNotice.AddEcho id address port) each (echoes id address port)) each
  echo_queued (PeerNotice.AddEcho id) r queue each = each
  echo_queued (PeerNotice.Removed id) r queue each = each
  echo_queued (PeerNotice.Prio backup) r queue each = each

  told_queued : (notice : Notice) (may : Bool) (n : Notices) → IfSome (announced_in notice) (λ id. P (OwnNotice.AddAddr id)) → Every P n.queue → Every P (after_notice notice may n).queue
  told_queued (Notice.Announce id) true n said each = Every-push (OwnNotice.AddAddr id) each said
  told_queued (Notice.Withdraw id) may n said each = Every-push (OwnNotice.Removes id) each (removes id)
  told_queued _ may n said each = each

  pub look_queued : (r : Reply) (e : PathEnd) → IfSome (announced_told r) (λ id. P (OwnNotice.AddAddr id)) → Every P e.notices.queue → Every P (notices_told r e).queue
  look_queued (Reply.Control (ControlReply.Standing mode standby sole notice)) e said each =
      elim (is_dead e.tcp.state) as (λ dead. Every P (if dead then e.notices else after_notice notice (may_note e) e.notices).queue)
      [ true ↦ each | false ↦ told_queued notice (may_note e) e.notices said each ]
  look_queued (Reply.Control ControlReply.Noted) e said each = each
  look_queued _ e said each = each
