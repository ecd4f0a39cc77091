-- Laws of numbers and bits, of parts, of coverage, and of which parts a table has, each file below those that it cites.
pub mod Numbers
pub mod Parts
pub mod Covering
pub mod Visiting
