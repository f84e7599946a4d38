pub mod DigitLaws
pub mod NumberLaws
pub mod ByteLaws
pub mod NumberPartsLaws
