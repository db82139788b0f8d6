use Rattle.std.proofs.Common.{refl}
use Rattle.key_material.specs.KeyDigest.{key_digest}
use Rattle.key_material.specs.JoinHmac.{hmac_of_b}
use Rattle.key_material.specs.AddressHmac.{address_hmac}
use Rattle.key_material.proofs.DigestOctets.{IsDigest-key_digest, IsDigest-hmac_of, first_4, first_8, last_8}
use Rattle.key_material.proofs.laws.truncations_are_of_one_digest.Goals as goal

pub returns-clause-key : goal.returns-clause-key
returns-clause-key c = λ key.
    (first_4 (key_digest key) (IsDigest-key_digest key), last_8 (key_digest key) (IsDigest-key_digest key))

pub returns-clause-join : goal.returns-clause-join
returns-clause-join c = λ key_a key_b nonce_a nonce_b.
    (first_8 (hmac_of_b key_a key_b nonce_a nonce_b) (IsDigest-hmac_of _ _), refl)

pub returns-clause-address : goal.returns-clause-address
returns-clause-address c = λ sender receiver id port address.
    last_8 (address_hmac sender receiver id address port) (IsDigest-hmac_of _ _)
