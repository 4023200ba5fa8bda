pub mod SlotEntryLaws
pub mod SlotLaws
pub mod SlotWalkLaws
