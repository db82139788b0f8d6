-- An option as a value, the ids of a REMOVE_ADDR as a list, and what the octets of an option mean.
use Rattle.std.specs.Borrow.{Bor}
use Rattle.std.specs.Prelude.{◌≡◌, ℕ, ◌+◌, Bool, Option, option_map, List}
use Rattle.key_material.specs.declared.address.Address.{Address}
use Rattle.mptcp_options.specs.declared.capable.CapableKeys.{CapableKeys}
use Rattle.mptcp_options.specs.declared.join.JoinForm.{JoinForm}
use Rattle.mptcp_options.specs.declared.dss.DataNumber.{DataNumber}
use Rattle.mptcp_options.specs.declared.dss.DssMap.{DssMap}
use Rattle.mptcp_options.specs.declared.option.MpOption.{MpOption}
use Rattle.mptcp_options.specs.declared.option.MpOption.TheVariants as code
use Rattle.mptcp_options.specs.declared.option.Read.{Read}
use Rattle.mptcp_options.specs.declared.option.Read.TheVariants as answer

pub data OptionValue : Type 0 where
  -- flag A, flag C, the keys
  Capable : Bool → Bool → CapableKeys → OptionValue
  Join : JoinForm → OptionValue
  -- the Data ACK, the mapping, flag F
  Dss : Option DataNumber → Option DssMap → Bool → OptionValue
  -- the echo flag, the address id, the address, the port, the HMAC
  AddAddr : Bool → ℕ → Address → Option ℕ → Option ℕ → OptionValue
  -- the address ids
  RemoveAddr : List ℕ → OptionValue
  -- the backup flag
  Prio : Bool → OptionValue
  -- the data number
  Fail : ℕ → OptionValue
  -- the key
  FastClose : ℕ → OptionValue
  -- flag T, the reason
  Reset : Bool → ℕ → OptionValue

-- what octets mean
pub data Meaning : Type 0 where
  Known : OptionValue → Meaning
  Unknown : Meaning
  Malformed : Meaning

-- the option of the code as a value
abbrev pub value_of : MpOption → OptionValue
value_of (code.Capable flag_a flag_c keys) = Capable flag_a flag_c keys
value_of (code.Join form) = Join form
value_of (code.Dss ack mapping fin) = Dss ack mapping fin
value_of (code.AddAddr echo id address port hmac) = AddAddr echo id address port hmac
value_of (code.Remove ids) = RemoveAddr ids.now
value_of (code.Prio backup) = Prio backup
value_of (code.Fail number) = Fail number
value_of (code.FastClose key) = FastClose key
value_of (code.Reset transient reason) = Reset transient reason

-- of an option that is lent, if there is one
abbrev pub value_heard : Option (Bor MpOption) → Option OptionValue
value_heard heard = option_map (λ option. value_of option.now) heard

-- the answer of the code as a meaning
abbrev pub meaning_of : Read → Meaning
meaning_of (answer.Known option) = Known (value_of option)
meaning_of answer.Unknown = Unknown
meaning_of answer.Malformed = Malformed

-- The ids of a REMOVE_ADDR are no copy: they stand in what was read, from its fourth octet on.
abbrev pub LendsIds : Bor (List ℕ) → Read → Type 0
LendsIds octets (answer.Known (code.Remove ids)) =
    (ids.ref_ptr.0 ≡ octets.ref_ptr.0) × (ids.ref_ptr.1 ≡ octets.ref_ptr.1 + 3)
LendsIds octets answer.Unknown = Unit {0}
LendsIds octets answer.Malformed = Unit {0}
LendsIds octets (answer.Known option) = Unit {0}
