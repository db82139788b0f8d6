-- What a copy notes of addresses and paths, where nothing is known of it.
use Rattle.world_laws.proofs.Words.{ℕ, Bool, true, false, Option, Some, None, List, [], ◌∷◌, map, Address, Heard, PeerNotice, item_removed, address_items}
use Rattle.world_laws.proofs.Words.{Every-push, Every-nil, Every-append, Every}

-- ids that are taken back
pub removed_each : {P : Heard → Type 0} → ((id : ℕ) → P (Heard.Notice (PeerNotice.Removed id))) → (ids : List ℕ) → Every P (map item_removed ids)
removed_each {P} each [] = Every-nil P
removed_each {P} each (id ∷ ids) =
    Every-append (Every-push {xs = []} (Heard.Notice (PeerNotice.Removed id)) (Every-nil P) (each id)) (removed_each each ids)

module _ {P : Heard → Type 0} (each : (notice : PeerNotice) → P (Heard.Notice notice)) where
  pub noted : (notice : PeerNotice) → Every P (Heard.Notice notice ∷ [])
  noted notice = Every-push {xs = []} (Heard.Notice notice) (Every-nil P) (each notice)

  pub removed_noted : (ids : List ℕ) → Every P (map item_removed ids)
  removed_noted ids = removed_each (λ id. each (PeerNotice.Removed id)) ids

  pub address_noted : (echo : Bool) (id : ℕ) (address : Address) (port hmac : Option ℕ) → Every P (address_items echo id address port hmac)
  address_noted true id address port hmac = noted (PeerNotice.AddEcho id)
  address_noted false id address port (Some hmac) = noted (PeerNotice.AddAddr id address port hmac)
  address_noted false id address port None = Every-nil P
