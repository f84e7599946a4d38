pub mod UniqueEntities
pub mod UniqueItems
