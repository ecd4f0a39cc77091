-- Laws of plans and of what they write.
pub mod Headers
pub mod Fronts
pub mod Turned
pub mod Pieces
pub mod Outgoing
pub mod Found
pub mod Placed
pub mod Planned
pub mod Planning
pub mod Rooms
pub mod Thrown
