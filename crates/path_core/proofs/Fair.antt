-- What a copy says names places below 2^62.
use Rattle.path_core.proofs.Words.{◌≡◌, refl, ℕ, nat_le, nat_lt, Bool, true, false, if◌then◌else◌, Option, Some, None, List, [], ◌∷◌, ◌++◌, map, ◌^◌, All}
use Rattle.path_core.proofs.Words.{flat_map, ltb-true, leb-true, All-nil, All-cons, All-append, Side, A, B, JoinForm, Answer, Third, CapableKeys, NoKey, Sender}
use Rattle.path_core.proofs.Words.{Both, WithData, Capable, Join, Dss, AddAddr, Remove, Prio, Fail, FastClose, Reset, PathMapping, Bytes, End, Infinite, Heard}
use Rattle.path_core.proofs.Words.{IsFair, HeardOption, is_mapping, mapping_items, ack_items, data_fin_items, infinite_items, map_items, first_items, key_items}
use Rattle.path_core.proofs.Words.{join_items, item_removed, address_items, items_in}
use Rattle.dss_mapping.specs.Mappings.{octets_in}
use Rattle.mptcp_options.specs.declared.join.JoinForm.TheVariants.{Syn}
use Rattle.key_material.specs.declared.address.Address.{Address}
use Rattle.path_agenda.specs.declared.notice.PeerNotice.{PeerNotice}

fair_ack : (next : Option (Option ℕ)) (window : ℕ) → All IsFair (ack_items next window)
fair_ack None window = All-nil IsFair
fair_ack (Some None) window = All-nil IsFair
fair_ack (Some (Some next)) window = (elim (nat_lt next (2 ^ 62)) as (λ b. nat_lt next (2 ^ 62) ≡ b → All IsFair (if b then Heard.DataAck next window ∷ [] else []))
    [ true ↦ λ is. All-cons IsFair (Heard.DataAck next window) [] (ltb-true _ _ is) (All-nil IsFair) | false ↦ λ is. All-nil IsFair ]) refl

fair_end : (place : ℕ) → All IsFair (data_fin_items place)
fair_end place = (elim (nat_le place (2 ^ 62)) as (λ b. nat_le place (2 ^ 62) ≡ b → All IsFair (if b then Heard.DataFin place ∷ [] else []))
    [ true ↦ λ is. All-cons IsFair (Heard.DataFin place) [] (leb-true _ _ is) (All-nil IsFair) | false ↦ λ is. All-nil IsFair ]) refl

fair_mapping : (place position count : ℕ) (fin : Bool) → All IsFair (mapping_items place position count fin)
fair_mapping place position count fin = elim (is_mapping place position count) as (λ b. All IsFair (if b then Heard.Mapping fin ∷ [] else []))
    [ true ↦ All-cons IsFair (Heard.Mapping fin) [] tt (All-nil IsFair) | false ↦ All-nil IsFair ]

fair_first : (len : ℕ) → All IsFair (first_items len)
fair_first len = (elim (nat_lt 0 len) as (λ b. All IsFair (mapping_items 0 1 len false) → All IsFair (if b then mapping_items 0 1 len false else []))
    [ true ↦ λ fair. fair | false ↦ λ fair. All-nil IsFair ]) (fair_mapping 0 1 len false)

fair_infinite : (place : ℕ) (position : Option ℕ) → All IsFair (infinite_items place position)
fair_infinite place position = elim (nat_lt place (2 ^ 62)) as (λ b. All IsFair (if b then Heard.InfiniteMapping place position ∷ [] else []))
    [ true ↦ All-cons IsFair (Heard.InfiniteMapping place position) [] tt (All-nil IsFair) | false ↦ All-nil IsFair ]

fair_map : (mapping : Option (PathMapping (Option ℕ))) → All IsFair (map_items mapping)
fair_map None = All-nil IsFair
fair_map (Some (Bytes None position len fin checksum)) = All-nil IsFair
fair_map (Some (Bytes (Some place) None len fin checksum)) = All-nil IsFair
fair_map (Some (Bytes (Some place) (Some position) len fin checksum)) = fair_mapping place position (octets_in len fin) fin
fair_map (Some (End None checksum)) = All-nil IsFair
fair_map (Some (End (Some place) checksum)) = fair_end place
fair_map (Some (Infinite None position)) = All-nil IsFair
fair_map (Some (Infinite (Some place) position)) = fair_infinite place position

fair_keys : (s : Side) (keys : CapableKeys) → All IsFair (key_items s keys)
fair_keys A NoKey = All-nil IsFair
fair_keys A (Sender sender) = All-cons IsFair (Heard.PeerKey sender) [] tt (All-nil IsFair)
fair_keys A (Both sender receiver) = All-nil IsFair
fair_keys A (WithData sender receiver len checksum) = All-nil IsFair
fair_keys B NoKey = All-nil IsFair
fair_keys B (Sender sender) = All-nil IsFair
fair_keys B (Both sender receiver) = All-cons IsFair (Heard.Keys receiver sender) [] tt (All-nil IsFair)
fair_keys B (WithData sender receiver len checksum) = All-cons IsFair (Heard.Keys receiver sender) (first_items len) tt (fair_first len)

fair_join : (s : Side) (form : JoinForm) → All IsFair (join_items s form)
fair_join A (Syn backup id token nonce) = All-nil IsFair
fair_join A (Answer backup id hmac nonce) = All-cons IsFair (Heard.Join (Answer backup id hmac nonce)) [] tt (All-nil IsFair)
fair_join A (Third hmac) = All-nil IsFair
fair_join B (Syn backup id token nonce) = All-cons IsFair (Heard.Join (Syn backup id token nonce)) [] tt (All-nil IsFair)
fair_join B (Answer backup id hmac nonce) = All-nil IsFair
fair_join B (Third hmac) = All-cons IsFair (Heard.Join (Third hmac)) [] tt (All-nil IsFair)

one_fair : (item : Heard) → IsFair item → All IsFair (item ∷ [])
one_fair item is = All-cons IsFair item [] is (All-nil IsFair)

fair_address : (echo : Bool) (id : ℕ) (address : Address) (port hmac : Option ℕ) → All IsFair (address_items echo id address port hmac)
fair_address true id address port hmac = one_fair (Heard.Notice (PeerNotice.AddEcho id)) tt
fair_address false id address port (Some hmac) = one_fair (Heard.Notice (PeerNotice.AddAddr id address port hmac)) tt
fair_address false id address port None = All-nil IsFair

fair_removed : (ids : List ℕ) → All IsFair (map item_removed ids)
fair_removed [] = All-nil IsFair
fair_removed (id ∷ ids) = All-cons IsFair (item_removed id) (map item_removed ids) tt (fair_removed ids)

fair_in : (joined : Bool) (s : Side) (window : ℕ) (option : HeardOption) → All IsFair (items_in joined s window option)
fair_in true s window (Capable flag_a flag_c keys) = All-nil IsFair
fair_in false s window (Capable flag_a flag_c keys) = fair_keys s keys
fair_in joined s window (Join form) = fair_join s form
fair_in joined s window (Dss next mapping) =
    All-cons IsFair Heard.Dss (ack_items next window ++ map_items mapping) tt
    (All-append IsFair (ack_items next window) (map_items mapping) (fair_ack next window) (fair_map mapping))
fair_in joined s window (AddAddr echo id address port hmac) = fair_address echo id address port hmac
fair_in joined s window (Remove ids) = fair_removed ids
fair_in joined s window (Prio backup) = one_fair (Heard.Notice (PeerNotice.Prio backup)) tt
fair_in joined s window (Fail place) = one_fair Heard.Fail tt
fair_in joined s window (FastClose key) = one_fair (Heard.FastClose key) tt
fair_in joined s window (Reset transient reason) = All-nil IsFair

pub items_are_fair : (joined : Bool) (s : Side) (window : ℕ) (options : List HeardOption) → All IsFair (flat_map (items_in joined s window) options)
items_are_fair joined s window [] = All-nil IsFair
items_are_fair joined s window (option ∷ options) =
    All-append IsFair (items_in joined s window option) (flat_map (items_in joined s window) options) (fair_in joined s window option) (items_are_fair joined s window options)
