pub mod Wilson
pub mod Walking
