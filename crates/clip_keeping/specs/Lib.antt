pub mod Live
pub mod Looking
pub mod Opening
pub mod Printed
pub mod Serving
pub mod Statuses
pub mod Words
