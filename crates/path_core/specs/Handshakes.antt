-- What path 0 hears by MP_CAPABLE is what the handshake hears that a crate below states by itself (RFC 8684, section 3.1).
use Rattle.std.specs.Prelude.{ℕ, ◌≡◌, ◌≢◌, Bool, is_some, Some, option_map}
use Rattle.sides.specs.declared.side.Side.TheVariants.{A, B}
use Rattle.capable_handshake.specs.Said.{syn_option, syn_ack_option}
use Rattle.capable_handshake.specs.Heard.{flag_on_syn, key_and_flag_on_syn_ack, keys_on_ack, checksums_used}
use Rattle.control_book.specs.Control.{Control}
use Rattle.control_book.specs.Replies.{reply_to}
use Rattle.control_book.specs.declared.call.ControlCall.TheVariants as control_calls
use Rattle.control_book.specs.declared.call.ControlReply.TheVariants as control_replies
use Rattle.mptcp_options.specs.declared.capable.CapableKeys.{CapableKeys}
use Rattle.mptcp_options.specs.Value.{value_of}
use Rattle.mptcp_options.specs.Value as wire
use Rattle.path_segments.specs.declared.segment.PathOption.TheVariants.{Capable}
use Rattle.path_agenda.specs.Items.{key_heard, keys_heard}
use Rattle.path_core.specs.OptionsIn.{asks_capable}
use Rattle.path_core.specs.MpCapable.{key_items}
use Rattle.path_core.specs.Profile.{Profile}

-- what is heard is what the handshake hears: B whether the SYN asks, A B's key, and B both keys
pub record CapableIsHeard (flag_a flag_c : Bool) (keys : CapableKeys) : Type 0 where
  pub syn : asks_capable (Capable flag_a flag_c keys) ≡ is_some (flag_on_syn (Some (wire.Capable flag_a flag_c keys)))
  pub syn_ack : key_heard (key_items A keys)
      ≡ option_map (λ (key, flag). key) (key_and_flag_on_syn_ack (Some (wire.Capable flag_a flag_c keys)))
  pub ack : keys_heard (key_items B keys)
      ≡ option_map (λ (sender, receiver). record { own = receiver; peer = sender }) (keys_on_ack (Some (wire.Capable flag_a flag_c keys)))

-- by the flags that are said so, each side comes to the path's own answer about checksums
pub record ChecksumsAreThose (c : Profile) : Type 0 where
  pub syn : option_map (checksums_used c.spelling.checksums) (flag_on_syn (Some (value_of (syn_option c.spelling.checksums))))
      ≡ Some c.spelling.checksums
  pub syn_ack : (own_key : ℕ)
      → option_map (λ (key, flag). checksums_used c.spelling.checksums flag)
      (key_and_flag_on_syn_ack (Some (value_of (syn_ack_option c.spelling.checksums own_key))))
      ≡ Some c.spelling.checksums

-- of both keys that are heard the handshake asks that the second be the own key; so does the book that they are told to
pub record KeysAreConfirmed (keys : CapableKeys) (book : Control) : Type 0 where
  pub right : (flag_a flag_c : Bool) (peer : ℕ)
      → keys_on_ack (Some (wire.Capable flag_a flag_c keys)) ≡ Some (peer, book.keys.own)
      → option_map (λ pair. reply_to book (control_calls.Keys pair.own pair.peer)) (keys_heard (key_items B keys))
      ≡ Some control_replies.Noted
  pub other : (flag_a flag_c : Bool) (peer own : ℕ)
      → keys_on_ack (Some (wire.Capable flag_a flag_c keys)) ≡ Some (peer, own) → own ≢ book.keys.own
      → option_map (λ pair. reply_to book (control_calls.Keys pair.own pair.peer)) (keys_heard (key_items B keys))
      ≡ Some (control_replies.KeysDiffer book.keys.own)

-- what path 0 hears and tells its books by MP_CAPABLE is what the handshake hears, with all keys
pub record CapableIsTheHandshake : Type 0 where
  pub heard : (flag_a flag_c : Bool) (keys : CapableKeys) → CapableIsHeard flag_a flag_c keys
  pub checksums : (c : Profile) → ChecksumsAreThose c
  pub confirmed : (keys : CapableKeys) (book : Control) → KeysAreConfirmed keys book
