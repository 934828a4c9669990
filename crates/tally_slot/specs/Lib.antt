pub mod Slots
pub mod SlotLaws
