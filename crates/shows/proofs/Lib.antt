-- The demonstration shows 01's six lines, and what stands in its buffer on the way.
pub mod Rows
pub mod Played
pub mod Shows
pub mod Six
