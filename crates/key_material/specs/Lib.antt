pub mod Octets
pub mod Address
pub mod KeyDigest
pub mod Hmac
pub mod JoinHmac
pub mod AddressHmac
pub mod Drawing
pub mod Laws
