pub mod LocalRects
pub mod Laws
