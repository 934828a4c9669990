pub mod Pages
pub mod RoomLaws
