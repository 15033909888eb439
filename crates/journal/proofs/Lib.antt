pub mod Ring
pub mod SlotWords
pub mod RightRecords
