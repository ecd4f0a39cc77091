-- The widths of prefixes, and what one VRP is to a route.
pub mod Widths
pub mod Weighing
