pub mod Strings
pub mod StringScan
pub mod Feeds
pub mod Laws
