-- Stepping stones: outlines of lines, what is printed of a reply, and requests, lines and replies as contracts see
-- them.
pub mod Flowing
pub mod Listings
pub mod Outline
pub mod Parts
pub mod Printing
pub mod Putting
pub mod Saying
pub mod Views
