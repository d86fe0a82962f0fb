pub mod FieldRing
pub mod FieldLaws
pub mod FractionLaws
pub mod FractionField
pub mod Reduced
pub mod RemainderLaws
pub mod RemainderField
