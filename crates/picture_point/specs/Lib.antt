pub mod PointText
pub mod PointLaws
