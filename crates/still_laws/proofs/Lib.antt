mod Arms
pub mod Shows
