pub mod Customs
mod Encoded
mod Ready
