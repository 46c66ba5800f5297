pub mod At
pub mod Laws
